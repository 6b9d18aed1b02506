-- A link's number gives the link back (docs/TREES.md, "Links").
use Rattle.std.specs.Prelude.{◌≡◌, ℕ, ◌%◌, Bool, true, false, ◌==◌}
use Rattle.std.proofs.Common.{arith, refl, eqb-true}
use Rattle.eb_arena.specs.Links.{target_of, link_number, place_of, up_number}

by_tests_link : (n : ℕ) (m p : Bool) → (n == 4294967295) ≡ m → (n % 2 == 0) ≡ p → link_number (target_of n) ≡ n
by_tests_link n true p h g = rw h (grind arith)
by_tests_link n false true h g = rw (h, g) (let e : n % 2 ≡ 0 = eqb-true (n % 2) 0 g in omega arith)
by_tests_link n false false h g = rw (h, g) (grind arith)

-- a link is the link of its number
pub link_number-target : (n : ℕ) → link_number (target_of n) ≡ n
link_number-target n = by_tests_link n (n == 4294967295) (n % 2 == 0) refl refl

by_tests_up : (n : ℕ) (m p : Bool) → (n == 4294967295) ≡ m → (n % 2 == 0) ≡ p → up_number (place_of n) ≡ n
by_tests_up n true p h g = rw h (grind arith)
by_tests_up n false true h g = rw (h, g) (let e : n % 2 ≡ 0 = eqb-true (n % 2) 0 g in omega arith)
by_tests_up n false false h g = rw (h, g) (grind arith)

-- a link up is the link up of its number
pub up_number-place : (n : ℕ) → up_number (place_of n) ≡ n
up_number-place n = by_tests_up n (n == 4294967295) (n % 2 == 0) refl refl
