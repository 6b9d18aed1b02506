-- What gathering and dealing do with words and homes (docs/SHARED.md, "Gathering and dealing").
use Rattle.std.specs.Prelude.{◌≡◌, ℕ, ◌/◌, ◌%◌, ◌==◌, ℤ, pos, negsuc, ◌≤ℤ◌, Bool, true, List, filter, fold, slice_set, slice_index_or}
use Rattle.std.specs.Int.{bit_at}
use Rattle.std.specs.List.{range_with_len}
use Rattle.queue_model.specs.RunList.{RunList, is_listed}
use Rattle.wake_board.specs.Rows.{WordRow, box_word, row_dealt}

-- whether task i is in the shared box
abbrev pub is_boxed : WordRow → ℕ → Bool
is_boxed ws i = bit_at (box_word ws ws.workers (i / 64)) (i % 64) == 1

-- the tasks below n that are in the shared box, in ascending number
abbrev pub boxed_below : ℕ → WordRow → List ℕ
boxed_below n ws = filter (is_boxed ws) (range_with_len 0 n)

-- all tasks in the shared box
abbrev pub boxed : WordRow → List ℕ
boxed ws = boxed_below ws.tasks ws

-- each task of a run list is in the shared box
abbrev pub AreBoxed : RunList → WordRow → Type 0
AreBoxed l ws = (i : ℕ) → is_listed i l ≡ true → is_boxed ws i ≡ true

-- the words once the tasks of these pairs of worker and task are in their workers' boxes
abbrev pub words_dealt : List (ℕ × ℕ) → WordRow → WordRow
words_dealt hands ws = fold (λ ws h. row_dealt ws h.1 h.0) ws hands

-- the homes once those boxes are their homes
abbrev pub homes_dealt : List (ℕ × ℕ) → List ℕ → List ℕ
homes_dealt hands homes = fold (λ hs h. slice_set hs h.1 h.0) homes hands

-- the nice of a task
abbrev pub nice_in : List ℤ → ℕ → ℤ
nice_in nice i = slice_index_or nice i (pos 0)

-- nices from -1,024 to 1,024
pub record AreNices (nice : List ℤ) : Type 0 where
  pub low : (i : ℕ) → negsuc 1023 ≤ℤ nice_in nice i
  pub high : (i : ℕ) → nice_in nice i ≤ℤ pos 1024
