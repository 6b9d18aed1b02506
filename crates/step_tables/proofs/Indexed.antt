-- An index of tasks by their names, after one task more.
use Rattle.std.proofs.Common.{◌≡◌, ℕ, ◌+◌, ◌≤◌, Bool, true, false, cond, eqb, List, [], ◌∷◌, ◌++◌, length, sym, ap, subst, ◌∙◌, ⊎_elim, arith, length-append}
use Rattle.std.specs.Prelude.{Option, Some, None, bytes_eq, position, not}
use Rattle.std.specs.List.{position_or_len}
use Rattle.std.specs.Global.{Vec}
use Rattle.std.specs.Ordering.{nat_cmp, is_eq}
use Rattle.std.specs.Cmp.{eq_by_cmp_equiv}
use Rattle.std.specs.Cmp.Lexicographic.{slice_cmp, bytes_decides, nat_list_cmp_total, nat_list_eq_equiv}
use Rattle.std.specs.BTreeMap.{BTreeMap, get_by, UpdatesBy}
use Rattle.std.specs.Map.{KeepsOthers, IsKeyTest, AreApart, lookup}
use Rattle.std.proofs.lemmas.Bool.{cases_Bool}
use Rattle.std.proofs.lemmas.Bool.Decides.{nat_tests}
use Rattle.std.proofs.lemmas.List.Folds.{position_or_len_push}
use Rattle.std.proofs.lemmas.List.Sums.{prefix_len-le-length}
use Rattle.std.proofs.lemmas.Map.Text.{is_eq-slice_cmp}
use Rattle.step_tables.specs.declared.tables.TaskDef.{TaskDef}
use Rattle.step_tables.specs.Words.{Word}
use Rattle.step_tables.specs.Judging.{named}
use Rattle.step_tables.specs.Index.{IsIndex}

-- a key of one name is not found under another
apart : (name other key : Word) → bytes_eq name other ≡ false → is_eq (slice_cmp nat_cmp name key) ≡ true → is_eq (slice_cmp nat_cmp other key) ≡ false
apart name other key n y =
    is_eq-slice_cmp other key ∙ (nat_list_eq_equiv.symm other key ∙ (sym (nat_list_eq_equiv.congr name key other (sym (is_eq-slice_cmp name key) ∙ y)) ∙ n))

others : {K : Type 0} (eq : K → K → Bool) (test : K → Bool) (old new : List (K × ℕ)) → KeepsOthers eq test old new
    → (other : K → Bool) → IsKeyTest eq other → AreApart test other → lookup other new ≡ lookup other old
unfolding KeepsOthers
others eq test old new h = h

-- what is found under another name is what was found before
under_another : (name other : Word) (m n : BTreeMap (Vec ℕ) ℕ) (w : Option ℕ)
    → UpdatesBy (λ x y. slice_cmp nat_cmp x.items y.items) (λ k. slice_cmp nat_cmp name k.items) m n w → bytes_eq name other ≡ false
    → get_by (λ k. slice_cmp nat_cmp other k.items) n ≡ get_by (λ k. slice_cmp nat_cmp other k.items) m
under_another name other m n w h e =
    others _ _ _ _ h.3 _ (λ x y. (eq_by_cmp_equiv nat_list_cmp_total).congr other x.items y.items) (λ k. apart name other k.items e)

-- the first place that passes, with an element more that passes, where none did
first_new : {A : Type 0} (p : A → Bool) (xs : List A) (y : A) → position p xs ≡ None → p y ≡ true → position p (xs ++ y ∷ []) ≡ Some (length xs)
first_new p xs y none e =
    let push : position_or_len p (xs ++ y ∷ []) ≡ cond (eqb (position_or_len p xs) (length xs)) (length xs + cond (p y) 0 1) (position_or_len p xs) = position_or_len_push p xs y in
    let long : length (xs ++ y ∷ []) ≡ length xs + 1 = length-append xs (y ∷ []) in
    let most : position_or_len p xs ≤ length xs = prefix_len-le-length (λ x. not (p x)) xs in
    grind (arith, nat_tests)

-- the first place that passes, with an element more that does not
first_old : {A : Type 0} (p : A → Bool) (xs : List A) (y : A) → p y ≡ false → position p (xs ++ y ∷ []) ≡ position p xs
first_old p xs y e =
    let push : position_or_len p (xs ++ y ∷ []) ≡ cond (eqb (position_or_len p xs) (length xs)) (length xs + cond (p y) 0 1) (position_or_len p xs) = position_or_len_push p xs y in
    let long : length (xs ++ y ∷ []) ≡ length xs + 1 = length-append xs (y ∷ []) in
    let most : position_or_len p xs ≤ length xs = prefix_len-le-length (λ x. not (p x)) xs in
    grind (arith, nat_tests)

-- the index of the tasks with one more, of a new name
pub indexed_push : (tasks : List TaskDef) (task : TaskDef) (key : Vec ℕ) (number : ℕ) (m n : BTreeMap (Vec ℕ) ℕ)
    → IsIndex tasks m → named tasks task.name ≡ None → key.items ≡ task.name → number ≡ length tasks
    → UpdatesBy (λ x y. slice_cmp nat_cmp x.items y.items) (λ k. slice_cmp nat_cmp key.items k.items) m n (Some number)
    → IsIndex (tasks ++ task ∷ []) n
unfolding named
indexed_push tasks task key number m n index new same is_last updates = λ name. ⊎_elim (here name) (there name) (cases_Bool (bytes_eq task.name name))
  where
    here : (name : Word) → bytes_eq task.name name ≡ true → get_by (λ k. slice_cmp nat_cmp name k.items) n ≡ position (λ u. bytes_eq u.name name) (tasks ++ task ∷ [])
    here name e =
        let is : task.name ≡ name = (bytes_decides task.name name).0 e in
        subst (λ w. get_by (λ k. slice_cmp nat_cmp w k.items) n ≡ Some (length tasks)) (same ∙ is) (updates.1 ∙ ap Some is_last)
        ∙ sym (first_new (λ u. bytes_eq u.name name) tasks task (subst (λ w. position (λ u. bytes_eq u.name w) tasks ≡ None) is new) e)

    there : (name : Word) → bytes_eq task.name name ≡ false → get_by (λ k. slice_cmp nat_cmp name k.items) n ≡ position (λ u. bytes_eq u.name name) (tasks ++ task ∷ [])
    there name e =
        under_another key.items name m n _ updates (ap (λ w. bytes_eq w name) same ∙ e)
        ∙ (index name ∙ sym (first_old (λ u. bytes_eq u.name name) tasks task e))
