-- The next place of an entry that passes a test.
use Rattle.std.proofs.Common.{◌≡◌, ◌≢◌, ℕ, zero, suc, ◌+◌, ◌<◌, ◌≤◌, Bool, true, false, List, [], ◌∷◌, drop, length, get_or, refl, sym, ap, subst, ◌∙◌, inl, inr, arith}
use Rattle.std.proofs.lemmas.Bool.{cases_Bool}
use Rattle.std.proofs.lemmas.List.{drop_more, drop_all, drop-drop, get_or-drop, length-drop}
use Rattle.task_machine.specs.declared.calls.Entry.{Entry}
use Rattle.history_weave.specs.Places.{none, first_place, next_place}

pub drop_next : (log : List Entry) (p : ℕ) (d : Entry) → p < length log → drop p log ≡ get_or log p d ∷ drop (suc p) log
drop_next log p d lt =
    let e : p + 1 ≡ suc p = omega arith in
    drop_more log p d lt ∙ ap (λ n. get_or log p d ∷ drop n log) e

pub next_place-here : (f : Entry → Bool) (log : List Entry) (p : ℕ) (d : Entry) → p < length log → f (get_or log p d) ≡ true → next_place f log p ≡ p
next_place-here f log p d lt hit = ap (first_place f p) (drop_next log p d lt) ∙ rw hit refl

pub next_place-skip : (f : Entry → Bool) (log : List Entry) (p : ℕ) (d : Entry) → p < length log → f (get_or log p d) ≡ false → next_place f log p ≡ next_place f log (suc p)
next_place-skip f log p d lt miss = ap (first_place f p) (drop_next log p d lt) ∙ rw miss refl

pub next_place-end : (f : Entry → Bool) (log : List Entry) (p : ℕ) → length log ≤ p → next_place f log p ≡ none
next_place-end f log p le = ap (first_place f p) (drop_all p log le)

-- an entry that fails the test decides nothing of F
abbrev pub Passes : (Entry → Bool) → (List Entry → Type 0) → Type 0
Passes f F =
    (e : Entry) (es : List Entry) → f e ≡ false → (F (e ∷ es) → F es) × (F es → F (e ∷ es))

pub none-passes : (f : Entry → Bool) (F : List Entry → Type 0) (p : ℕ) (es : List Entry) → Passes f F → p + length es ≤ none → first_place f p es ≡ none → (F es → F []) × (F [] → F es)
none-passes f F p [] pass few e = (λ h. h, λ h. h)
none-passes f F p (x ∷ es) pass few e =
    elim (cases_Bool (f x)) [
      | inl hit ↦ (let here : p ≡ none = rw hit at e in absurd (omega arith))
      | inr miss ↦ (let later : first_place f (suc p) es ≡ none = rw miss at e in let h = none-passes f F (suc p) es pass (omega arith) later in let g = pass x es miss in (λ a. h.0 (g.0 a), λ b. g.1 (h.1 b)))
    ]

-- the entry that passes stands k entries further on
record Behind (f : Entry → Bool) (F : List Entry → Type 0) (p : ℕ) (es : List Entry) (q : ℕ) (d : Entry) : Type 0 where
  k : ℕ
  far : q ≡ p + k
  within : k < length es
  hit : f (get_or es k d) ≡ true
  there : F es → F (drop k es)
  back : F (drop k es) → F es

behind : (f : Entry → Bool) (F : List Entry → Type 0) (p : ℕ) (es : List Entry) (q : ℕ) (d : Entry) → Passes f F → first_place f p es ≡ q → q ≢ none → Behind f F p es q d
behind f F p [] q d pass e ne = absurd (ne (sym e))
behind f F p (x ∷ es) q d pass e ne =
    elim (cases_Bool (f x)) [
      | inl hit ↦
          let here : p ≡ q = rw hit at e in
          record { k = zero; far = omega arith; within = omega arith; hit = hit; there = λ h. h; back = λ h. h }
      | inr miss ↦
          let later : first_place f (suc p) es ≡ q = rw miss at e in
          let b = behind f F (suc p) es q d pass later ne in
          let g = pass x es miss in
          record {
            k = suc b.k;
            far = (let far = b.far in omega arith);
            within = (let within = b.within in omega arith);
            hit = b.hit;
            there = λ h. b.there (g.0 h);
            back = λ h. g.1 (b.back h);
          }
    ]

-- what the next entry that passes decides
pub record Found (f : Entry → Bool) (F : List Entry → Type 0) (log : List Entry) (p q : ℕ) (d : Entry) : Type 0 where
  pub from : p ≤ q
  pub within : q < length log
  pub hit : f (get_or log q d) ≡ true
  pub there : F (drop p log) → F (get_or log q d ∷ drop (suc q) log)
  pub back : F (get_or log q d ∷ drop (suc q) log) → F (drop p log)

pub found : (f : Entry → Bool) (F : List Entry → Type 0) (log : List Entry) (p q : ℕ) (d : Entry) → Passes f F → next_place f log p ≡ q → q ≢ none → Found f F log p q d
found f F log p q d pass e ne =
    let b = behind f F p (drop p log) q d pass e ne in
    let far : q ≡ p + b.k = b.far in
    let near : b.k < length (drop p log) = b.within in
    let within : q < length log = omega (arith, length-drop p log) in
    let at : drop b.k (drop p log) ≡ get_or log q d ∷ drop (suc q) log =
    drop-drop b.k p log ∙ ap (λ n. drop n log) (sym far) ∙ drop_next log q d within in
    let entry : get_or (drop p log) b.k d ≡ get_or log q d =
    get_or-drop p log b.k d ∙ ap (λ n. get_or log n d) (sym far) in
    record {
      from = omega arith;
      within = within;
      hit = rw (← entry) b.hit;
      there = λ h. subst F at (b.there h);
      back = λ h. b.back (subst F (sym at) h);
    }

-- where no entry passes, the rest decides as no entries do
pub not_found : (f : Entry → Bool) (F : List Entry → Type 0) (log : List Entry) (p : ℕ) → Passes f F → length log ≤ none → p ≤ length log → next_place f log p ≡ none → (F (drop p log) → F []) × (F [] → F (drop p log))
not_found f F log p pass few le e =
    none-passes f F p (drop p log) pass (omega (arith, length-drop p log)) e
