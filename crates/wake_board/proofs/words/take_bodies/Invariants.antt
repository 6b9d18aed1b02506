use Rattle.std.proofs.Common.{◌≡◌, ℕ, ◌<◌, ◌≤◌, true, false, length, get_or}
use Rattle.std.specs.Mem.Slots.{slots_items, slots_filled, slots_len}
use mathlib.Core.Option.{some}
use lib.ListN.{get_elem?}
use Rattle.wake_board.specs.declared.body.Body.{Body}
use Rattle.wake_board.proofs.words.take_bodies.Given as goal

-- the first bodies are taken out
abbrev pub invariant-loop-i : goal.invariant-loop-i
invariant-loop-i l =
    record {
      words : l.closed.words ≡ l.fn.closed.words;
      items : slots_items l.closed.slots ≡ slots_items l.fn.closed.slots;
      len : slots_len l.closed.slots ≡ slots_len l.fn.closed.slots;
      empty : (k : ℕ) → k < l.i → get_or (slots_filled l.closed.slots) k false ≡ false;
      full : (k : ℕ) → l.i ≤ k → k < slots_len l.fn.closed.slots → get_or (slots_filled l.closed.slots) k false ≡ true;
      taken : (k : ℕ) (b : Body) → k < l.i → get_elem? (slots_items l.fn.closed.slots) k ≡ some b → get_elem? l.bodies k ≡ some b;
      count : length l.bodies ≡ length l.fn.bodies;
    }
