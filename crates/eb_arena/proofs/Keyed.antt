-- Lists whose keys are all alike, and what filters make of them.
use Rattle.std.proofs.Common.{◌≡◌, ℕ, List, [], ◌∷◌, ◌++◌, Bool, true, false, cond, filter, refl, ap, ◌∙◌}
use Rattle.sched_base.specs.KeyedList.{KeyedItem}
use Rattle.eb_arena.specs.Shape.{Tree, tip, fork, items, Keys, AllKeys}

pub all-append : (P : ℕ → Type 0) (xs ys : List KeyedItem) → AllKeys P xs → AllKeys P ys → AllKeys P (xs ++ ys)
all-append P [] ys h g = g
all-append P (x ∷ xs) ys h g = (h.0, all-append P xs ys h.1 g)

pub all_items : (P : ℕ → Type 0) (t : Tree) → Keys P t → AllKeys P (items t)
all_items P (tip e k) h = (h, tt)
all_items P (fork i b l r) h = all-append P (items l) (items r) (all_items P l h.0) (all_items P r h.1)

pub all_map : (P Q : ℕ → Type 0) (xs : List KeyedItem) → ((k : ℕ) → P k → Q k) → AllKeys P xs → AllKeys Q xs
all_map P Q [] f h = tt
all_map P Q (x ∷ xs) f h = (f x.key h.0, all_map P Q xs f h.1)

-- where the test holds of no key, nothing is left
pub filter_none : (p : ℕ → Bool) (xs : List KeyedItem) → AllKeys (λ k. p k ≡ false) xs → filter (λ x. p x.key) xs ≡ []
filter_none p [] h = refl
filter_none p (x ∷ xs) h = ap (λ b. cond b (x ∷ filter (λ x. p x.key) xs) (filter (λ x. p x.key) xs)) h.0 ∙ filter_none p xs h.1

-- where it holds of all, all is left
pub filter_all : (p : ℕ → Bool) (xs : List KeyedItem) → AllKeys (λ k. p k ≡ true) xs → filter (λ x. p x.key) xs ≡ xs
filter_all p [] h = refl
filter_all p (x ∷ xs) h = ap (λ b. cond b (x ∷ filter (λ x. p x.key) xs) (filter (λ x. p x.key) xs)) h.0 ∙ ap (λ l. x ∷ l) (filter_all p xs h.1)
