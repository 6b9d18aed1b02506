-- Lists seen through a function.
use Rattle.std.proofs.Common.{◌≡◌, ℕ, suc, zero, ◌+◌, Bool, cond, ◌≤◌, List, [], ◌∷◌, map, length, refl, ap, arith}
use Rattle.std.specs.Prelude.{Some, slice_get, option_map, slice_index_or}
use Rattle.std.specs.List.{position_from}
use Rattle.std.proofs.lemmas.Option.{slice_get-map, none-some}

pub get_mapped : {A B : Type 0} (f : A → B) (xs : List A) (i : ℕ) → slice_get (map f xs) i ≡ option_map f (slice_get xs i)
get_mapped f xs i = slice_get-map f xs i

pub index_there : {A B : Type 0} (f : A → List B) (xs : List A) (i : ℕ) (x : A) → slice_get xs i ≡ Some x → slice_index_or (map f xs) i [] ≡ f x
index_there f [] i x e = absurd (none-some x e)
index_there f (y ∷ ys) zero x e = let same : y ≡ x = cc in ap f same
index_there f (y ∷ ys) (suc i) x e = index_there f ys i x e

pub index_missing : {A B : Type 0} (f : A → List B) (xs : List A) (i : ℕ) → length xs ≤ i → slice_index_or (map f xs) i [] ≡ []
index_missing f [] i h = refl
index_missing f (y ∷ ys) zero h = absurd (omega arith)
index_missing f (y ∷ ys) (suc i) h = index_missing f ys i (omega arith)

pub position_mapped : {A B : Type 0} (p : B → Bool) (f : A → B) (k : ℕ) (xs : List A) → position_from p k (map f xs) ≡ position_from (λ x. p (f x)) k xs
position_mapped p f k [] = refl
position_mapped p f k (x ∷ xs) = ap (cond (p (f x)) (Some k)) (position_mapped p f (k + 1) xs)
