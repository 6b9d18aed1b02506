use Rattle.std.proofs.Common.{◌≡◌, ◌<◌, ◌*◌, ℕ, List, get_or, take, drop, ◌++◌, length, set, false, ap, sym, subst, ◌∙◌, arith}
use Rattle.std.proofs.lemmas.List.{get_or_default}
use Rattle.std.proofs.Math.Seq.{take-append_seam}
use Rattle.task_machine.specs.declared.task.TaskState.{TaskState}
use Rattle.task_machine.specs.declared.calls.Call.TheVariants as calls
use Rattle.task_machine.specs.Marks.{mark_at, AreMarked}
use Rattle.task_machine.specs.Step.{State, moved, each}
use Rattle.task_machine.proofs.About.{is_named-get}
use Rattle.task_machine.proofs.Lists.{length-each}
use Rattle.task_machine.proofs.Marks.{AreMarked-get, empty_get, mark_within}
use Rattle.task_machine.proofs.machine.Machine.get.Goals as goal

pub invariant_of-self : goal.invariant_of-self
invariant_of-self c =
    let k = c.args.caller in
    let ts = c.self.inside.tasks.items in
    let us = c.get_group.new.tasks in
    let named = is_named-get c.args.self.now k c.args.group c.requires.named in
    let worker : k.0 < c.self.inside.workers = rw (← c.self.view_is) at named.0 in
    let exists : 64 * c.args.group < length ts = rw (← c.self.view_is) at named.1 in
    let place : c.mark_place-place.result ≡ mark_at (length ts) k.0 c.args.group = rw (← c.self.view_is) at c.mark_place-place.ensures.place in
    let got' : us ≡ each (moved k (calls.Get c.args.group)) 0 ts = c.get_group.ensures ∙ ap (each (moved k (calls.Get c.args.group)) 0) c.as_mut_slice.ensures.value in
    let count : length us ≡ c.self.inside.tasks.len = ap length c.get_group.ensures ∙ length-each (moved k (calls.Get c.args.group)) 0 c.as_mut_slice.result.now ∙ c.as_mut_slice.ensures.len in
    let whole : take c.self.inside.tasks.len (us ++ drop (length us) ts) ≡ us = ap (λ n. take n (us ++ drop (length us) ts)) (sym count) ∙ take-append_seam us (drop (length us) ts) in
    let all = whole ∙ got' in
    rw all ((c.self.invariant.0, omega (arith, c.self.invariant.1, length-each (moved k (calls.Get c.args.group)) 0 ts), rw place (AreMarked-get c.self.inside.workers ts c.self.inside.marks.items k c.args.group c.self.invariant.2 (omega arith) exists)))

pub returns-else-index : goal.returns-else-index
returns-else-index c =
    let k = c.args.caller in
    let ts = c.self.inside.tasks.items in
    let named = is_named-get c.args.self.now k c.args.group c.requires.named in
    let worker : k.0 < c.self.inside.workers = rw (← c.self.view_is) at named.0 in
    let exists : 64 * c.args.group < length ts = rw (← c.self.view_is) at named.1 in
    let place : c.mark_place-place.result ≡ mark_at (length ts) k.0 c.args.group = rw (← c.self.view_is) at c.mark_place-place.ensures.place in
    let room : mark_at (length ts) k.0 c.args.group < length c.self.inside.marks.items = rw c.self.invariant.2.wide (mark_within c.self.inside.workers (length ts) k.0 c.args.group (omega arith) exists) in
    let clear : get_or c.self.inside.marks.items (mark_at (length ts) k.0 c.args.group) false ≡ false = sym (get_or_default c.self.inside.marks.items (mark_at (length ts) k.0 c.args.group) c.index.result.now false room) ∙ ap (λ n. get_or c.self.inside.marks.items n c.index.result.now) (sym place) ∙ sym c.index.ensures ∙ c.if-index.false in
    let with_tasks : List TaskState → State = λ us. record { workers = c.self.inside.workers; tasks = us } in
    rw (← c.self.view_is) (ap with_tasks (empty_get c.self.inside.workers ts c.self.inside.marks.items k c.args.group c.self.invariant.2 (omega arith) clear))
