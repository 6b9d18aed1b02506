-- Which bodies go to a table, and come back from it (docs/BOARD.md, "Bodies").
use Rattle.std.specs.Prelude.{◌≡◌, ℕ, ◌<◌, ◌≤◌, List, length, slice_index, slice_index_or}
use mathlib.Core.Option.{some}
use lib.ListN.{get_elem?}
use Rattle.wake_board.specs.declared.body.Body.{Body}
use Rattle.wake_board.specs.Rows.{WordRow, first_body}

-- there is a body for each shared task, at the task's place
pub record AreLent (ws : WordRow) (homes : List ℕ) (bodies : List Body) : Type 0 where
  pub few : length bodies ≤ ws.tasks
  pub shared : (i : ℕ) → i < ws.tasks → slice_index homes i ≡ ws.workers → get_elem? bodies i ≡ some (slice_index_or ws.bodies i first_body)

-- each body of a table stands at its task's place
abbrev pub AreBack : List Body → List Body → Type 0
AreBack lent bodies = (i : ℕ) (b : Body) → get_elem? lent i ≡ some b → get_elem? bodies i ≡ some b
