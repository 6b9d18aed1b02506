use Rattle.std.proofs.Common.{◌≡◌, ◌≢◌, ℕ, ◌-◌, ◌<◌, List, [], ◌∷◌, length, get_or, refl, sym, ap, ◌∙◌, arith}
use Rattle.tasklet_lists.specs.Links.{linked, lists_of, ends_of, left_ends, list_of}
use Rattle.tasklet_lists.proofs.Chains.{list_of-first}
use Rattle.tasklet_lists.proofs.Four.{of_class-lists_of, first-within, lists-left, sound-left, popped-none}
use Rattle.tasklet_lists.proofs.tasklet_lists.TaskletLists.pop.Goals as goal

pub leave-shorter-requires-clause-first : goal.leave-shorter-requires-clause-first
leave-shorter-requires-clause-first c =
    let some : 0 < (ends_of c.args.class c.self.inside.ends).len = rw (← c.of-ends.ensures) (omega (arith, c.if-ends-eq0.false)) in
    rw c.of-ends.ensures (first-within (length c.self.inside.following.items) c.args.class c.self.inside.following.items c.self.inside.ends c.self.invariant.sound some)

pub invariant_of-self : goal.invariant_of-self
invariant_of-self c =
    let f = c.self.inside.following.items in
    let a = c.self.inside.ends in
    let k = c.args.class in
    let some : 0 < (ends_of k a).len = rw (← c.of-ends.ensures) (omega (arith, c.if-ends-eq0.false)) in
    rw (c.set.ensures, c.leave-shorter.ensures, c.of-ends.ensures) (record {
      sound = rw (lists-left k f a some) (sound-left (length f) k f a (lists_of f a) c.self.invariant.sound);
      few = c.self.invariant.few;
    })

pub returns-clause-task : goal.returns-clause-task
returns-clause-task c =
    let f = c.self.inside.following.items in
    let a = c.self.inside.ends in
    let k = c.args.class in
    let e = ends_of k a in
    let some : 0 < e.len = rw (← c.of-ends.ensures) (omega (arith, c.if-ends-eq0.false)) in
    (linked f (get_or f e.first 0) (e.len - 1), rw (← c.self.view_is, c.of-ends.ensures) (of_class-lists_of k f a ∙ list_of-first f e some))

pub returns-clause-lists : goal.returns-clause-lists
returns-clause-lists c =
    let f = c.self.inside.following.items in
    let a = c.self.inside.ends in
    let k = c.args.class in
    let some : 0 < (ends_of k a).len = rw (← c.of-ends.ensures) (omega (arith, c.if-ends-eq0.false)) in
    rw (← c.self.view_is, c.set.ensures, c.leave-shorter.ensures, c.of-ends.ensures, lists-left k f a some) refl
