use Rattle.std.proofs.Common.{ap, sym, ◌∙◌}
use Rattle.tasklet_lists.proofs.Four.{length-of_class}
use Rattle.tasklet_lists.proofs.tasklet_lists.TaskletLists.len.Goals as goal

pub returns : goal.returns
returns c =
    rw (c.of.ensures, ← c.self.view_is) (sym (length-of_class c.args.class c.self.inside.following.items c.self.inside.ends))
