-- What a board is opened with, and what the passes bring to the seat that takes them all in.
use Rattle.std.specs.Prelude.{◌≡◌, ℕ, ◌+◌, ◌-◌, ◌≤◌, List, [], ◌∷◌, length, slice_index_or, Option, Some, None}
use mathlib.Core.Option as table
use lib.ListN.{get_elem?}
use Rattle.atomic_table.specs.declared.shared.Seat.{Seat}
use Rattle.wake_board.specs.declared.body.Body.{Body}
use Rattle.wake_board.specs.declared.views.Opening.{Opening}
use Rattle.wake_board.specs.declared.views.View.{View}
use Rattle.wake_board.specs.Rows.{WordRow}
use Rattle.wake_board.specs.Seen.{Held}

-- the opening has the words, homes, holders and next rows
pub record IsOpening (o : Opening) (ws : WordRow) (hs ks : List ℕ) (rows : List (List ℕ)) : Type 0 where
  pub words : o.words.value ≡ ws
  pub homes : o.homes.items ≡ hs
  pub holders : o.holders.items ≡ ks
  pub nexts : o.nexts.value ≡ rows

-- the seat is that of the pass
pub record IsSeatOf (p : Held) (seat : Seat Body View) : Type 0 where
  pub board : seat.table_id ≡ p.board
  pub first : seat.me.0.first ≡ p.who
  pub log : seat.me.0.logs ≡ p.entries ∷ []
  pub misses : seat.me.0.misses ≡ p.misses
  pub outs : seat.me.0.outs ≡ p.outs
  pub slots : p.outs ≡ [] → seat.me.1 ≡ []

-- the logs and the misses of the passes from number n on are a view's
pub record Gathers (all : List (Option Held)) (n : ℕ) (v : View) : Type 0 where
  pub first : v.first ≡ n
  pub count : length v.logs + n ≡ length all
  pub logs : (k : ℕ) (p : Held) → n ≤ k → slice_index_or all k None ≡ Some p → get_elem? v.logs (k - n) ≡ table.some p.entries
  pub misses : (k j i : ℕ) (p : Held) → n ≤ k → slice_index_or all k None ≡ Some p → get_elem? p.misses j ≡ table.some i → (q : ℕ) × (get_elem? v.misses q ≡ table.some i)
