-- Tasks that a get took, queued one after another.
use Rattle.std.proofs.Common.{◌≡◌, ℕ, ◌+◌, ◌*◌, ◌≤◌, ◌<◌, ◌==◌, List, [], ◌∷◌, length, refl, sym, ap, ◌∙◌, arith, eq-eqb, w32}
use mir.Val.{Fits}
use Rattle.step_tables.specs.declared.tables.Script.{Script}
use Rattle.task_machine.specs.Step.{bit}
use Rattle.run_model.specs.Book.{Book, queued, queued_all}
use Rattle.turn_steps.specs.Times.{times, listed}
use Rattle.turn_steps.proofs.Books.{listed-queued}

-- the tasks are among n, and none of them is listed
abbrev pub Exist : ℕ → List ℕ → Type 0
Exist n is = (i : ℕ) → 0 < times i is → i < n

abbrev pub Absent : List ℕ → Book → Type 0
Absent is b = (i : ℕ) → times i is + listed i b ≤ 1

there : (k : ℕ) (js : List ℕ) → times k (k ∷ js) ≡ 1 + times k js
there k js = rw (eq-eqb k k refl) refl

module _ (is : List ℕ) (k : ℕ) (js : List ℕ) (e : is ≡ k ∷ js) where
  counts : (i : ℕ) → times i is ≡ bit (i == k) + times i js
  counts i = ap (times i) e

  here : times k is ≡ 1 + times k js
  here = ap (times k) e ∙ there k js

  pub first-exists : (n : ℕ) → Exist n is → k < n
  first-exists n exist = exist k (let h = here in omega arith)

  pub rest-exist : (n : ℕ) → Exist n is → Exist n js
  rest-exist n exist i some = exist i (let h = counts i in omega arith)

  pub first-absent : (b : Book) → Absent is b → listed k b ≡ 0
  first-absent b absent = let h = here in let most = absent k in omega arith

  pub rest-absent : (s : Script) (b c : Book) → Absent is b → c ≡ queued s k b → Absent js c
  rest-absent s b c absent q i =
      let h = counts i in
      let most = absent i in
      let more : listed i c ≡ listed i b + bit (i == k) = ap (listed i) q ∙ listed-queued s i k b in
      omega arith

  pub rest-book : (s : Script) (b c : Book) → c ≡ queued s k b → queued_all s js c ≡ queued_all s is b
  rest-book s b c q = ap (queued_all s js) q ∙ sym (ap (λ ids. queued_all s ids b) e)

  pub rest-shorter : length is ≡ length js + 1
  rest-shorter = let h : length is ≡ length (k ∷ js) = ap length e in omega arith

-- room for one more, and for the others
pub room-first : (n start now len more : ℕ) → len ≡ more + 1 → now + 2 * len ≤ start + 128 → start + 128 < n → now + 2 < n
room-first n start now len more e h lt = omega arith

pub room-rest : (start now next len more : ℕ) → len ≡ more + 1 → now + 2 * len ≤ start + 128 → next ≤ now + 2 → next + 2 * more ≤ start + 128
room-rest start now next len more e h le = omega arith

pub begins : ((made : ℕ) → made ≤ made) × ((made len : ℕ) → len ≤ 64 → made + 2 * len ≤ made + 128)
begins = (λ made. omega arith, λ made len h. omega arith)

-- a task's number fits a word, and so do its two parts
pub high_fits : (high low n : ℕ) → n ≤ 4096 → high + low < n → Fits w32 high
high_fits high low n few lt = omega arith

pub sum_fits : (k n : ℕ) → n ≤ 4096 → k < n → Fits w32 k
sum_fits k n few lt = omega arith

-- at the end
pub same_book : (s : Script) (b c : Book) (is js : List ℕ) → js ≡ [] → queued_all s js b ≡ queued_all s is c → b ≡ queued_all s is c
same_book s b c is js none e = ap (λ ids. queued_all s ids b) (sym none) ∙ e

pub made_bound : (now start more : ℕ) → now + 2 * more ≤ start + 128 → now ≤ start + 128
made_bound now start more h = omega arith

pub grown : (a b c : ℕ) → a ≤ b → b ≤ c → a ≤ c
grown a b c h k = omega arith

pub shorter : (len more : ℕ) → len ≡ more + 1 → more < len
shorter len more e = omega arith
