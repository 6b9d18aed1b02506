-- The size of a script that is to be generated.
use Rattle.std.proofs.Common.{◌≡◌, ◌<◌, ◌≤◌, ◌^◌, ℕ, suc, zero, Bool, true, false, List, [], ◌∷◌, Option, Some, None, codes, refl, arith}
use Rattle.std.specs.Prelude.{if◌then◌else◌, option_and_then}
use Rattle.std.specs.Str.{bytes_eq}
use Rattle.text_lines.specs.Pieces.{Word}
use Rattle.text_lines.specs.Numbers.{number}
use Rattle.text_lines.proofs.NumbersAgain.{number_back}
use Rattle.command_line.specs.declared.command.Command.{Command}
use Rattle.command_line.specs.declared.command.Command.TheVariants.{Run, Replay, Gen}
use Rattle.command_line.specs.Commands.{bare_command, generation_of, generation, command_in, command_of}

of_sizes : (seed n s z : ℕ) → n ≤ 4096 → generation_of seed n ≡ Some (Gen s z) → (1 ≤ z) × (z ≤ 4096)
of_sizes seed zero s z few e = cc
of_sizes seed (suc n) s z few e = let same : suc n ≡ z = cc in (omega arith, omega arith)

of_size_word : (o : Option ℕ) (size : Word) (seed s z : ℕ) → number 4096 size ≡ o → option_and_then (generation_of seed) o ≡ Some (Gen s z) → (1 ≤ z) × (z ≤ 4096)
of_size_word None size seed s z is e = cc
of_size_word (Some n) size seed s z is e = of_sizes seed n s z (number_back 4096 n size (omega arith) is).1 e

of_seed : (o : Option ℕ) (size : Word) (s z : ℕ) → option_and_then (λ n. option_and_then (generation_of n) (number 4096 size)) o ≡ Some (Gen s z) → (1 ≤ z) × (z ≤ 4096)
of_seed None size s z e = cc
of_seed (Some n) size s z e = of_size_word (number 4096 size) size n s z refl e

of_name : (b : Bool) (seed size : Word) (s z : ℕ) → (if b then generation seed size else None) ≡ Some (Gen s z) → (1 ≤ z) × (z ≤ 4096)
of_name true seed size s z e = of_seed (number 18446744073709551615 seed) size s z e
of_name false seed size s z e = cc

of_bare : (a b : Bool) (s z : ℕ) → (if a then Some Run else (if b then Some Replay else None)) ≡ Some (Gen s z) → (1 ≤ z) × (z ≤ 4096)
of_bare true b s z e = cc
of_bare false true s z e = cc
of_bare false false s z e = cc

-- a script that is to be generated has 1 to 4,096 tasks
pub sizes_in_range : (words : List Word) (seed size : ℕ) → command_of words ≡ Some (Gen seed size) → (1 ≤ size) × (size ≤ 4096)
sizes_in_range [] seed size e = cc
sizes_in_range (a ∷ []) seed size e = of_bare (bytes_eq a (codes "run")) (bytes_eq a (codes "replay")) seed size e
sizes_in_range (a ∷ b ∷ []) seed size e = cc
sizes_in_range (a ∷ b ∷ c ∷ []) seed size e = of_name (bytes_eq a (codes "gen")) b c seed size e
sizes_in_range (a ∷ b ∷ c ∷ d ∷ rest) seed size e = cc
