-- The shares of the classes in a turn, by the lengths of their lists.
use Rattle.std.proofs.Common.{◌≡◌, ℕ, ◌+◌, ◌*◌, Bool, true, false, nat_lt, if◌then◌else◌, min, refl, sym, ap, ◌∙◌, arith, List, [], ◌∷◌, length, inl, inr}
use Rattle.std.specs.Int.{div_ceil}
use Rattle.std.proofs.lemmas.Bool.{cases_Bool}
use Rattle.sched_base.specs.declared.names.Class.{Class}
use Rattle.sched_base.specs.declared.names.Class.TheVariants.{Urgent, Normal, Bulk, Heavy}
use Rattle.queue_model.specs.Classes.{Classes, of_class, weights, weight_in, total, share}
use Rattle.tasklet_lists.specs.declared.tasklet_lists.AllEnds.{AllEnds}
use Rattle.tasklet_lists.specs.Links.{lists_of, ends_of}
use Rattle.tasklet_lists.proofs.Four.{length-of_class}

-- a weight that counts where a list has a task
abbrev pub counts : ℕ → ℕ → ℕ
counts len w = if nat_lt 0 len then w else 0

pub weight-counts : (k : Class) (f : List ℕ) (a : AllEnds) → weight_in (lists_of f a) k ≡ counts (ends_of k a).len (of_class k weights)
weight-counts k f a = ap (λ n. if nat_lt 0 n then of_class k weights else 0) (length-of_class k f a)

-- the weights of all classes
abbrev pub all_count : AllEnds → ℕ
all_count a = counts a.urgent.len 64 + counts a.normal.len 48 + counts a.bulk.len 16 + counts a.heavy.len 1

pub total-counts : (f : List ℕ) (a : AllEnds) → total (lists_of f a) ≡ all_count a
total-counts f a =
    rw (weight-counts Urgent f a, weight-counts Normal f a, weight-counts Bulk f a, weight-counts Heavy f a) refl

share_at : (some : Bool) (depth w t : ℕ) → nat_lt 0 w ≡ true → (if nat_lt 0 (if some then w else 0) then div_ceil (depth * (if some then w else 0)) t else 0) ≡ (if some then div_ceil (depth * w) t else 0)
share_at true depth w t h = rw h refl
share_at false depth w t h = refl

-- a class's share, by what its weight counts
pub share-counts : (depth : ℕ) (k : Class) (f : List ℕ) (a : AllEnds) → nat_lt 0 (of_class k weights) ≡ true → share depth (lists_of f a) k ≡ (if nat_lt 0 (counts (ends_of k a).len (of_class k weights)) then div_ceil (depth * counts (ends_of k a).len (of_class k weights)) (all_count a) else 0)
share-counts depth k f a h =
    ap (λ n. if nat_lt 0 n then div_ceil (depth * of_class k weights) (total (lists_of f a)) else 0) (length-of_class k f a) ∙
    ap (λ t. if nat_lt 0 (ends_of k a).len then div_ceil (depth * of_class k weights) t else 0) (total-counts f a) ∙
    sym (share_at (nat_lt 0 (ends_of k a).len) depth (of_class k weights) (all_count a) h)

-- a class's share, where its weight and the sum of all were counted first
pub is-share : (depth : ℕ) (k : Class) (f : List ℕ) (a : AllEnds) (w t r : ℕ) → nat_lt 0 (of_class k weights) ≡ true → w ≡ counts (ends_of k a).len (of_class k weights) → t ≡ all_count a → r ≡ (if nat_lt 0 w then div_ceil (depth * w) t else 0) → r ≡ share depth (lists_of f a) k
is-share depth k f a w t r h weight sum e =
    e ∙
    ap (λ v. if nat_lt 0 v then div_ceil (depth * v) t else 0) weight ∙
    ap (λ u. if nat_lt 0 (counts (ends_of k a).len (of_class k weights)) then div_ceil (depth * counts (ends_of k a).len (of_class k weights)) u else 0) sum ∙
    sym (share-counts depth k f a h)

pub same-sum : (a b c d w x y z : ℕ) → a ≡ w → b ≡ x → c ≡ y → d ≡ z → a + b + c + d ≡ w + x + y + z
same-sum a b c d w x y z h i j k = omega arith

pub same-four : (a b c d w x y z : ℕ) → a ≡ w → b ≡ x → c ≡ y → d ≡ z → a ∷ b ∷ c ∷ d ∷ [] ≡ w ∷ x ∷ y ∷ z ∷ []
same-four a b c d w x y z h i j k = rw (h, i, j, k) refl
