-- What stands in front of a list stays there.
use Rattle.std.proofs.Common.{ℕ, ◌≤◌, List, length, take, ap, ◌∙◌, sym, arith}
use Rattle.std.proofs.lemmas.List.{take_all, take-take, length-take}
use Rattle.text_lines.specs.Added.{Kept}

pub kept_same : (bytes : List ℕ) → Kept bytes bytes
kept_same bytes = record { front = take_all (length bytes) bytes (omega arith) }

pub kept_then : (old mid new : List ℕ) → Kept old mid → Kept mid new → Kept old new
kept_then old mid new first next =
    let shorter : length old ≤ length mid = omega (arith, length-take (length old) mid, ap length first.front) in
    record { front = sym (take-take (length old) (length mid) new shorter) ∙ ap (take (length old)) next.front ∙ first.front }
