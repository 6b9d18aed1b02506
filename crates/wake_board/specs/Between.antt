-- Words and holders stand for a state of the machine between rounds (docs/BOARD.md, "Between rounds").
use Rattle.std.specs.Prelude.{◌≡◌, ◌≢◌, ℕ, ◌*◌, ◌^◌, ◌<◌, ◌≤◌, List, length, slice_index, slice_index_or}
use Rattle.task_machine.specs.declared.task.Place.{Place}
use Rattle.task_machine.specs.declared.task.Place.TheVariants as places
use Rattle.task_machine.specs.Task.{seen_of}
use Rattle.task_machine.specs.Step.{State, task_at, IsBox, IsValid}
use Rattle.task_word.specs.Word.{StandsFor}
use Rattle.wake_board.specs.declared.body.Body.{Body}
use Rattle.wake_board.specs.Rows.{WordRow, task_word, box_word, first_body}
use Rattle.step_tables.specs.Nexts.{row_after}
use Rattle.wake_board.specs.Start.{no_holder}

-- the task's place goes with its home and its holder, among w workers: a caller holds it exactly where it is in that
-- caller's hands, a box that has it is its home, and nobody has drawn it or runs it
abbrev pub PlacedBy : ℕ → ℕ → ℕ → Place → Type 0
PlacedBy w home holder places.Rest = holder ≡ no_holder
PlacedBy w home holder (places.Hands k) = (holder ≡ k.0) × (k.0 ≤ w)
PlacedBy w home holder (places.Boxed b) = (holder ≡ no_holder) × (b ≡ home)
PlacedBy w home holder (places.Drawn k) = ⊥
PlacedBy w home holder (places.Runs k) = ⊥
PlacedBy w home holder places.Gone = holder ≡ no_holder

-- the body of a task that is not gone has the task's takes, and the row that these takes give
abbrev pub BodyFits : List (List ℕ) → ℕ → Body → ℕ → Type 0
BodyFits nexts i body t = (body.takes ≡ t) × (body.row ≡ row_after nexts i t)

-- the words and bodies, with the list of holders, stand for the state m: where tasks have these homes, which are boxes, and
-- shared ones these next rows
pub record StandBetween (ws : WordRow) (homes holders : List ℕ) (nexts : List (List ℕ)) (m : State) : Type 0 where
  pub workers : m.workers ≡ ws.workers
  pub few : ws.workers ≤ 64
  pub count : length m.tasks ≡ ws.tasks
  pub boxed : (i : ℕ) → i < ws.tasks → slice_index homes i ≤ ws.workers
  pub valid : IsValid m
  pub tasks : (i : ℕ) → i < ws.tasks → StandsFor (task_word ws i) (seen_of (task_at m i))
  pub boxes : (b g : ℕ) → b ≤ ws.workers → 64 * g < ws.tasks → IsBox m b g (box_word ws b g)
  pub placed : (i : ℕ) → i < ws.tasks → PlacedBy ws.workers (slice_index homes i) (slice_index holders i) (task_at m i).place
  pub bodies : (i : ℕ) → i < ws.tasks → slice_index homes i ≡ ws.workers → (task_at m i).place ≢ places.Gone → BodyFits nexts i (slice_index_or ws.bodies i first_body) (task_at m i).takes

-- the takes of a shared task that is not gone are below 2^47
abbrev pub FewTakes : List ℕ → State → Type 0
FewTakes homes m =
    (i : ℕ) → i < length m.tasks → slice_index homes i ≡ m.workers → (task_at m i).place ≢ places.Gone → (task_at m i).takes < 2 ^ 47
