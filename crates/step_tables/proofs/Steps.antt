-- What is known of a line that was taken.
use Rattle.std.proofs.Common.{◌≡◌, ℕ, ◌<◌, Bool, true, false, cond, List, [], ◌∷◌, ◌++◌, refl, sym, inl, inr, ◌⊎◌, subst, arith}
use Rattle.std.specs.Prelude.{Option, Some, None, Ok, codes, bytes_eq, ◌==◌}
use Rattle.std.proofs.lemmas.Bool.{cond-false}
use Rattle.std.proofs.lemmas.Bool.Decides.{nat_tests}
use Rattle.step_tables.specs.declared.faults.FaultKind.{FaultKind}
use Rattle.step_tables.specs.declared.progress.Progress.{Progress}
use Rattle.step_tables.specs.Limits.{newest}
use Rattle.step_tables.specs.Text.{header_of}
use Rattle.step_tables.specs.Sound.{within}
use Rattle.step_tables.specs.Shapes.{Said}
use Rattle.step_tables.specs.Judging.{version_of, judge_header, first_fault, tests, may_come, with_line, judge_tested, judge_said, said_of, judge}
use Rattle.step_tables.proofs.Back.{bytes_same, IsBody}

-- a line behind the settings that may come, and has no fault
pub record Passes (p : Progress) (x : Said) : Type 0 where
  pub unended : p.ended ≡ false
  pub body : IsBody x
  pub comes : may_come p x ≡ true
  pub good : first_fault (tests p x) ≡ None

-- lines that pass, one after another
abbrev pub Runs : Progress → List Said → Progress → Type 0
Runs p [] q = p ≡ q
Runs p (x ∷ xs) q = Passes p x × Runs (with_line p x) xs q

pub runs_then : (p m q : Progress) (xs ys : List Said) → Runs p xs m → Runs m ys q → Runs p (xs ++ ys) q
runs_then p m q [] ys r s = subst (λ k. Runs k ys q) (sym r) s
runs_then p m q (x ∷ xs) ys r s = (r.0, runs_then (with_line p x) m q xs ys r.1 s)

-- which way a choice went
pub chose_one : {A : Type 0} (b : Bool) (x y z : A) → cond b x y ≡ z → (y ≡ z → ⊥) → (b ≡ true) × (x ≡ z)
chose_one true x y z e not_so = (refl, e)
chose_one false x y z e not_so = absurd (not_so e)

pub chose : {A : Type 0} (b : Bool) (x y z : A) → cond b x y ≡ z → ((b ≡ true) × (x ≡ z)) ⊎ ((b ≡ false) × (y ≡ z))
chose true x y z e = inl (refl, e)
chose false x y z e = inr (refl, e)

tested_back : (kind : Option FaultKind) (p q : Progress) → judge_tested kind p ≡ Ok q → (kind ≡ None) × (p ≡ q)
unfolding judge_tested
tested_back None p q e = (refl, cc)
tested_back (Some kind) p q e = absurd (cc)

-- what a good line says may come, has no fault, and is added
pub said_back : (p q : Progress) (said : Option Said) → judge_said p said ≡ Ok q → (x : Said) × (said ≡ Some x) × (may_come p x ≡ true) × (first_fault (tests p x) ≡ None) × (with_line p x ≡ q)
unfolding judge_said
said_back p q None e = absurd (cc)
said_back p q (Some x) e =
    let (comes, tested) = chose_one (may_come p x) _ _ _ e (λ h. cc) in
    let (good, added) = tested_back _ _ q tested in
    (x, refl, comes, good, added)

-- a line behind the first is judged by what it says
pub judged_later : (n : ℕ) (p : Progress) (line : List ℕ) → 1 < n → judge n p line ≡ judge_said p (said_of n line)
unfolding judge
judged_later n p line later = cond-false (n == 1) (judge_header p (version_of line)) (judge_said p (said_of n line)) (other n later)
  where
    other : (n : ℕ) → 1 < n → (n == 1) ≡ false
    other n h = grind (arith, nat_tests)

header_back : (p q : Progress) (said : Option ℕ) → judge_header p said ≡ Ok q → (v : ℕ) × (said ≡ Some v) × (record p { version = v } ≡ q)
unfolding judge_header
header_back p q None e = absurd (cc)
header_back p q (Some v) e = (v, refl, cc)

-- what the first line is, by its version
header_is : (line : List ℕ) (v : ℕ) → version_of line ≡ Some v → (line ≡ header_of v) × (within 1 newest v ≡ true)
unfolding version_of header_of
header_is line v e = elim (chose (bytes_eq line (codes "taskscript 1")) (Some 1) _ (Some v) e) [
  | inl h ↦ (let same : 1 ≡ v = cc in subst (λ (n : ℕ). (line ≡ header_of n) × (within 1 newest n ≡ true)) same (bytes_same line (codes "taskscript 1") h.0, refl))
  | inr h ↦ (let (text, some) = chose_one (bytes_eq line (codes "taskscript 2")) (Some 2) _ (Some v) h.1 (λ k. cc) in
      let same : 2 ≡ v = cc in
      subst (λ (n : ℕ). (line ≡ header_of n) × (within 1 newest n ≡ true)) same (bytes_same line (codes "taskscript 2") text, refl))
]

-- the first line is that of a version
pub first_back : (p q : Progress) (line : List ℕ) → judge 1 p line ≡ Ok q → (v : ℕ) × (line ≡ header_of v) × (within 1 newest v ≡ true) × (record p { version = v } ≡ q)
unfolding judge
first_back p q line e =
    let (v, says, same) = header_back p q (version_of line) e in
    let (is, few) = header_is line v says in
    (v, is, few, same)
