-- The weave, from one turn of its loop to the next.
use Rattle.std.proofs.Common.{◌≡◌, ℕ, ◌+◌, ◌<◌, List, length, sym, ap, subst, ◌∙◌}
use Rattle.task_machine.specs.declared.calls.Entry.{Entry}
use Rattle.task_machine.specs.Logged.{Logged}
use Rattle.task_machine.specs.Step.{State}
use Rattle.history_weave.specs.declared.index.Index.{Index}
use Rattle.history_weave.specs.Places.{left_of}
use Rattle.history_weave.specs.Indexed.{tasks_of, IsIndexed}
use Rattle.history_weave.specs.Weaving.{HasMerge}
use Rattle.history_weave.specs.Going.{FitsTogether, SomeWent, IsStuck}
use Rattle.history_weave.proofs.Merges.{length-led}
use Rattle.history_weave.proofs.Weaves.{Goes, Underway, underway-step, CanMerge-room, HasMerge-named, HasMerge-own}

pub stuck-same : (logs : List Logged) (x y : Index) (s t : State) (k : ℕ) → x ≡ y → s ≡ t → IsStuck logs x s k → IsStuck logs y t k
stuck-same logs x y s t k e f h =
    let g : IsStuck logs y s k = subst (λ (i : Index). IsStuck logs i s k) e h in
    subst (λ (r : State). IsStuck logs y r k) f g

pub underway-went : (start : State) (logs : List Logged) (total : ℕ) (x y : Index) (done after : List Entry) (s t : State) → Underway start logs total done x.next.items s → length done < total → IsIndexed logs x → SomeWent logs x y done after s t → Underway start logs total after y.next.items t
underway-went start logs total x y done after s t u lt ix some =
    let w = some.went in
    let k = some.caller in
    let row : k < length x.next.items = rw ix.shape.next_len some.within in
    let g : Goes s (left_of logs x.next.items) k w.entry w.rest = record { head = w.head; own = w.own; ready = w.ready; allowed = w.allowed } in
    underway-step start logs total done after x.next.items y.next.items s t k w.entry w.rest u lt row g w.state w.pushed w.next

-- index, logs and machine fit together while the weave is under way
pub fits_together : (start : State) (logs : List Logged) (total : ℕ) (x : Index) (done : List Entry) (s : State) → HasMerge start logs → length logs ≡ start.workers + 1 → Underway start logs total done x.next.items s → IsIndexed logs x → tasks_of x ≡ length start.tasks → FitsTogether logs x s
fits_together start logs total x done s m callers u ix tasks =
    let same : length s.tasks ≡ length start.tasks = ap (λ (q : State). length q.tasks) u.state ∙ length-led start done in
    record {
      indexed = ix;
      named = rw tasks (HasMerge-named start logs m callers);
      own = HasMerge-own start logs m;
      tasks = tasks ∙ sym same;
      room = CanMerge-room s (left_of logs x.next.items) u.more u.merge;
    }
