-- The words of a board as plain data (docs/BOARD.md, "The words").
use Rattle.std.specs.Prelude.{ℕ, suc, ◌+◌, ◌*◌, ◌/◌, ◌%◌, ◌^◌, List, slice_index, slice_set, replicate, bit_or, bit_and}
use Rattle.std.specs.Int.{bit_not, w64}
use Rattle.wake_board.specs.declared.body.Body.{Body}

-- numbers of workers and tasks, the row of all words, and a body for each task
pub record WordRow : Type 0 where
  pub workers : ℕ
  pub tasks : ℕ
  pub row : List ℕ
  pub bodies : List Body

-- how many groups of 64 tasks there are
abbrev pub groups : ℕ → ℕ
groups n = (n + 63) / 64

-- where the word of group g of box b stands, among n tasks
abbrev pub box_at : ℕ → ℕ → ℕ → ℕ
box_at n b g = suc n + (b * groups n + g)

-- how many words there are for n tasks and w workers
abbrev pub width : ℕ → ℕ → ℕ
width w n = suc n + (w + 1) * groups n

-- the word of task i, and of group g of box b
abbrev pub task_word : WordRow → ℕ → ℕ
task_word ws i = slice_index ws.row (suc i)

abbrev pub box_word : WordRow → ℕ → ℕ → ℕ
box_word ws b g = slice_index ws.row (box_at ws.tasks b g)

-- a body that was never run
abbrev pub first_body : Body
first_body = record { row = 0; takes = 0 }

-- all words 0, and all bodies as they are at first
abbrev pub blank_row : ℕ → ℕ → WordRow
blank_row n w = record { workers = w; tasks = n; row = replicate (width w n) 0; bodies = replicate n first_body }

-- a row with bit j of the word at this place set, and cleared
abbrev pub with_bit : List ℕ → ℕ → ℕ → List ℕ
with_bit row at j = slice_set row at (bit_or (slice_index row at) (2 ^ j))

abbrev pub without_bit : List ℕ → ℕ → ℕ → List ℕ
without_bit row at j = slice_set row at (bit_and (slice_index row at) (bit_not w64 (2 ^ j)))

-- the words with task i in box b, to be run for the first time
abbrev pub row_seated : WordRow → ℕ → ℕ → WordRow
row_seated ws i b = record ws { row = with_bit (slice_set ws.row (suc i) 258) (box_at ws.tasks b (i / 64)) (i % 64) }

-- the words with task i moved from the shared box into box b
abbrev pub row_dealt : WordRow → ℕ → ℕ → WordRow
row_dealt ws i b =
    record ws { row = with_bit (without_bit ws.row (box_at ws.tasks ws.workers (i / 64)) (i % 64)) (box_at ws.tasks b (i / 64)) (i % 64) }
