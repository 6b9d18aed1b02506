-- What was generated is in range.
use Rattle.std.proofs.Common.{◌∙◌, sym, ap, subst, IsTrue}
use Rattle.step_tables.specs.declared.tables.TaskDef.{TaskDef}
use Rattle.step_tables.specs.Sound.{is_sound}
use Rattle.script_gen.specs.Generated.{generated}
use Rattle.script_gen.proofs.Sound.{script_is_sound}
use Rattle.script_gen.proofs.generating.generate.Goals as goal

pub of_tables-requires : goal.of_tables-requires
of_tables-requires c =
    rw (c.in_ok-tasks.ensures, c.from_vec-events.ensures, c.new.ensures.items) (script_is_sound c.args.seed c.args.size c.requires.0 c.requires.1)
