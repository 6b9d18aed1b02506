-- A tree that lost a leaf is split where the node of its entry has another index.
use Rattle.std.proofs.Common.{◌≡◌, ℕ, ◌*◌, ◌/◌, ◌+◌, ◌^◌, ◌<◌, ◌⊎◌, inl, inr, List, [], ◌∷◌, refl, sym, ◌∙◌, subst, arith}
use Rattle.std.specs.Prelude.{ℤ, pos, negsuc}
use Rattle.eb_arena.specs.declared.links.Side.{Side}
use Rattle.eb_arena.specs.declared.links.Side.TheVariants as sides
use Rattle.eb_arena.specs.Shape.{Tree, tip, fork, Keys, HasLeaf, HasNode, IsBelow, Divides, Split}
use Rattle.eb_arena.specs.Way.{Step, from_left, from_right, plug}
use Rattle.eb_arena.proofs.Ways.{part_split}
use Rattle.eb_dups.proofs.Distinct.{Distinct, node_leaf, part_distinct}
use Rattle.eb_dups.proofs.Added.{HasRoom, HasRoomAt}
use Rattle.eb32_core.specs.Removal.{renamed, paired}
use Rattle.eb32_core.proofs.UnlinkNames.{renamed_keys, renamed_leaf, renamed_below, renamed_other, renamed_index}

-- the tree g is the tree s without the leaf of entry e and node p
pub record Shrinks (e p : ℕ) (s g : Tree) : Type 0 where
  pub keep : (x : ℕ) → (x ≡ e → ⊥) → HasLeaf x s → HasLeaf x g
  pub heir : (p ≡ e → ⊥) → HasLeaf p g
  pub leaf : HasLeaf e s
  pub node : HasNode p s
  pub split : Split (renamed e p g)

below_trans : (n m : ℕ) (t : Tree) → m < n → IsBelow m t → IsBelow n t
below_trans n m (tip e k) h f = tt
below_trans n m (fork i (pos b) l r) h f = f
below_trans n m (fork i (negsuc d) l r) h f = let x : d < m = f in let y : d < n = omega arith in y

below_left : (n i : ℕ) (b : ℤ) (s g r : Tree) → IsBelow n (fork i b s r) → IsBelow n (fork i b g r)
below_left n i (pos b) s g r h = h
below_left n i (negsuc b) s g r h = h

below_right : (n i : ℕ) (b : ℤ) (l s g : Tree) → IsBelow n (fork i b l s) → IsBelow n (fork i b l g)
below_right n i (pos b) l s g h = h
below_right n i (negsuc b) l s g h = h

-- what may stand in a part's place
room_of : (w : List Step) (s g : Tree) → Split (plug w s) → ((n : ℕ) → IsBelow n s → IsBelow n g) → HasRoom w g
room_of [] s g p f = tt
room_of (from_left i (pos b) r ∷ w) s g p f = tt
room_of (from_left i (negsuc n) r ∷ w) s g p f = f n (part_split w (fork i (negsuc n) s r) p).2.left_below
room_of (from_right i (pos b) l ∷ w) s g p f = tt
room_of (from_right i (negsuc n) l ∷ w) s g p f = f n (part_split w (fork i (negsuc n) l s) p).2.right_below

room_left : (i : ℕ) (b : ℤ) (r g : Tree) (w : List Step) → HasRoom (from_left i b r ∷ w) g → HasRoomAt b g
room_left i (pos b) r g w h = h
room_left i (negsuc n) r g w h = h

room_right : (i : ℕ) (b : ℤ) (l g : Tree) (w : List Step) → HasRoom (from_right i b l ∷ w) g → HasRoomAt b g
room_right i (pos b) l g w h = h
room_right i (negsuc n) l g w h = h

divides_left : (e p : ℕ) (b : ℤ) (s g r : Tree) → ((P : ℕ → Type 0) → Keys P s → Keys P g) → Divides b s r → HasRoomAt b g → Divides b (renamed e p g) (renamed e p r)
divides_left e p (pos b) s g r f d h = record { q = d.q; left = renamed_keys e p g (λ k. k / 2 ^ b ≡ 2 * d.q) (f (λ k. k / 2 ^ b ≡ 2 * d.q) d.left); right = renamed_keys e p r (λ k. k / 2 ^ b ≡ 2 * d.q + 1) d.right }
divides_left e p (negsuc n) s g r f d h = record { k = d.k; left = renamed_keys e p g (λ x. x ≡ d.k) (f (λ x. x ≡ d.k) d.left); right = renamed_keys e p r (λ x. x ≡ d.k) d.right; left_below = renamed_below e p n g h; right_below = renamed_below e p n r d.right_below }

divides_right : (e p : ℕ) (b : ℤ) (l s g : Tree) → ((P : ℕ → Type 0) → Keys P s → Keys P g) → Divides b l s → HasRoomAt b g → Divides b (renamed e p l) (renamed e p g)
divides_right e p (pos b) l s g f d h = record { q = d.q; left = renamed_keys e p l (λ k. k / 2 ^ b ≡ 2 * d.q) d.left; right = renamed_keys e p g (λ k. k / 2 ^ b ≡ 2 * d.q + 1) (f (λ k. k / 2 ^ b ≡ 2 * d.q + 1) d.right) }
divides_right e p (negsuc n) l s g f d h = record { k = d.k; left = renamed_keys e p l (λ x. x ≡ d.k) d.left; right = renamed_keys e p g (λ x. x ≡ d.k) (f (λ x. x ≡ d.k) d.right); left_below = renamed_below e p n l d.left_below; right_below = renamed_below e p n g h }

-- one step up
shrinks_left : (e p i : ℕ) (b : ℤ) (s g r : Tree) → Split (fork i b s r) → Distinct (fork i b s r) → Shrinks e p s g → ((P : ℕ → Type 0) → Keys P s → Keys P g) → HasRoomAt b g → Shrinks e p (fork i b s r) (fork i b g r)
shrinks_left e p i b s g r o d c f h =
    let same : renamed e p r ≡ r = renamed_other e p r (λ y. d.0.leaves e c.leaf (node_leaf r e o.4 y)) in
    record {
      keep = λ x n y. elim y [ inl y ↦ inl (c.keep x n y) | inr y ↦ inr y ];
      heir = λ n. inl (c.heir n);
      leaf = inl c.leaf;
      node = inr (inl c.node);
      split = (
        renamed_index i e p (λ x. HasLeaf x (renamed e p g) ⊎ HasLeaf x (renamed e p r)) (λ y. inl (renamed_leaf e p g p (c.heir (λ z. d.1 (subst (λ m. HasNode m s) (z ∙ sym y) c.node))))) (λ n. elim o.0 [ inl y ↦ inl (renamed_leaf e p g i (c.keep i n y)) | inr y ↦ inr (renamed_leaf e p r i y) ]),
        o.1,
        divides_left e p b s g r f o.2 h,
        c.split,
        subst Split (sym same) o.4,
      );
    }

shrinks_right : (e p i : ℕ) (b : ℤ) (l s g : Tree) → Split (fork i b l s) → Distinct (fork i b l s) → Shrinks e p s g → ((P : ℕ → Type 0) → Keys P s → Keys P g) → HasRoomAt b g → Shrinks e p (fork i b l s) (fork i b l g)
shrinks_right e p i b l s g o d c f h =
    let same : renamed e p l ≡ l = renamed_other e p l (λ y. d.0.leaves e (node_leaf l e o.3 y) c.leaf) in
    record {
      keep = λ x n y. elim y [ inl y ↦ inl y | inr y ↦ inr (c.keep x n y) ];
      heir = λ n. inr (c.heir n);
      leaf = inr c.leaf;
      node = inr (inr c.node);
      split = (
        renamed_index i e p (λ x. HasLeaf x (renamed e p l) ⊎ HasLeaf x (renamed e p g)) (λ y. inr (renamed_leaf e p g p (c.heir (λ z. d.2 (subst (λ m. HasNode m s) (z ∙ sym y) c.node))))) (λ n. elim o.0 [ inl y ↦ inl (renamed_leaf e p l i y) | inr y ↦ inr (renamed_leaf e p g i (c.keep i n y)) ]),
        o.1,
        divides_right e p b l s g f o.2 h,
        subst Split (sym same) o.3,
        c.split,
      );
    }

-- all steps up
shrinks_up : (w : List Step) (e p : ℕ) (s g : Tree) → Split (plug w s) → Distinct (plug w s) → Shrinks e p s g → ((P : ℕ → Type 0) → Keys P s → Keys P g) → ((n : ℕ) → IsBelow n s → IsBelow n g) → Shrinks e p (plug w s) (plug w g)
shrinks_up [] e p s g sp d c f h = c
shrinks_up (from_left i b r ∷ w) e p s g sp d c f h =
    let o : Split (fork i b s r) = part_split w (fork i b s r) sp in
    let y : Distinct (fork i b s r) = part_distinct w (fork i b s r) d in
    let x : Shrinks e p (fork i b s r) (fork i b g r) = shrinks_left e p i b s g r o y c f (room_left i b r g w (room_of (from_left i b r ∷ w) s g sp h)) in
    shrinks_up w e p (fork i b s r) (fork i b g r) sp d x (λ P z. (f P z.0, z.1)) (λ n. below_left n i b s g r)
shrinks_up (from_right i b l ∷ w) e p s g sp d c f h =
    let o : Split (fork i b l s) = part_split w (fork i b l s) sp in
    let y : Distinct (fork i b l s) = part_distinct w (fork i b l s) d in
    let x : Shrinks e p (fork i b l s) (fork i b l g) = shrinks_right e p i b l s g o y c f (room_right i b l g w (room_of (from_right i b l ∷ w) s g sp h)) in
    shrinks_up w e p (fork i b l s) (fork i b l g) sp d x (λ P z. (z.0, f P z.1)) (λ n. below_right n i b l s g)

-- the other side of the node above the leaf
shrinks_pair : (side : Side) (e p k : ℕ) (b : ℤ) (u : Tree) → Split (paired side p b (tip e k) u) → Distinct (paired side p b (tip e k) u) → Shrinks e p (paired side p b (tip e k) u) u
shrinks_pair sides.Left e p k b u o d =
    let same : renamed e p u ≡ u = renamed_other e p u (λ y. d.0.leaves e refl (node_leaf u e o.4 y)) in
    record {
      keep = λ x n y. elim y [ inl y ↦ absurd (n y) | inr y ↦ y ];
      heir = λ n. elim o.0 [ inl y ↦ absurd (n y) | inr y ↦ y ];
      leaf = inl refl;
      node = inl refl;
      split = subst Split (sym same) o.4;
    }
shrinks_pair sides.Right e p k b u o d =
    let same : renamed e p u ≡ u = renamed_other e p u (λ y. d.0.leaves e (node_leaf u e o.3 y) refl) in
    record {
      keep = λ x n y. elim y [ inl y ↦ y | inr y ↦ absurd (n y) ];
      heir = λ n. elim o.0 [ inl y ↦ y | inr y ↦ absurd (n y) ];
      leaf = inr refl;
      node = inl refl;
      split = subst Split (sym same) o.3;
    }

pair_keys : (side : Side) (e p k : ℕ) (b : ℤ) (u : Tree) (P : ℕ → Type 0) → Keys P (paired side p b (tip e k) u) → Keys P u
pair_keys sides.Left e p k b u P h = h.1
pair_keys sides.Right e p k b u P h = h.0

pair_below : (side : Side) (e p k : ℕ) (b : ℤ) (u : Tree) (n : ℕ) → Split (paired side p b (tip e k) u) → IsBelow n (paired side p b (tip e k) u) → IsBelow n u
pair_below sides.Left e p k (pos b) u n o h = absurd h
pair_below sides.Left e p k (negsuc m) u n o h = below_trans n m u h o.2.right_below
pair_below sides.Right e p k (pos b) u n o h = absurd h
pair_below sides.Right e p k (negsuc m) u n o h = below_trans n m u h o.2.left_below

-- the whole tree without the leaf and the node above it
pub shrinks : (w : List Step) (side : Side) (e p k : ℕ) (b : ℤ) (u : Tree) → Split (plug w (paired side p b (tip e k) u)) → Distinct (plug w (paired side p b (tip e k) u)) → Shrinks e p (plug w (paired side p b (tip e k) u)) (plug w u)
shrinks w side e p k b u sp d =
    let o : Split (paired side p b (tip e k) u) = part_split w (paired side p b (tip e k) u) sp in
    shrinks_up w e p (paired side p b (tip e k) u) u sp d (shrinks_pair side e p k b u o (part_distinct w (paired side p b (tip e k) u) d)) (λ P. pair_keys side e p k b u P) (λ n. pair_below side e p k b u n o)
