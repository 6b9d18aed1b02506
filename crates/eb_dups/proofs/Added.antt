-- The tree of a key with one more entry at its end.
use Rattle.std.proofs.Common.{◌≡◌, ℕ, zero, suc, ◌+◌, ◌-◌, ◌*◌, ◌/◌, ◌^◌, ◌<◌, ◌≤◌, inl, inr, List, [], ◌∷◌, ◌++◌, refl, sym, ap, ◌∙◌, arith, append_assoc}
use Rattle.std.specs.Prelude.{ℤ, pos, negsuc}
use Rattle.std.proofs.lemmas.Bool.{cases_lt}
use Rattle.std.proofs.lemmas.Nat.{pow_pos, pow-add}
use Rattle.sched_base.specs.KeyedList.{KeyedItem}
use Rattle.eb_arena.specs.Shape.{Tree, tip, fork, items, Keys, HasLeaf, IsBelow, Divides, Split}
use Rattle.eb_arena.specs.Way.{Step, from_left, from_right, fill, plug}
use Rattle.eb_arena.proofs.Ways.{part_split}
use Rattle.eb_dups.specs.Spine.{IsTwins, spine_value, depth, IsSpine}

pub plug-append : (d w : List Step) (s : Tree) → plug (d ++ w) s ≡ plug w (plug d s)
plug-append [] w s = refl
plug-append (x ∷ d) w s = plug-append d w (fill x s)

-- the node above has room for a tree
abbrev pub HasRoom : List Step → Tree → Type 0
HasRoom [] g = Unit {0}
HasRoom (from_left i (pos b) r ∷ w) g = Unit {0}
HasRoom (from_left i (negsuc n) r ∷ w) g = IsBelow n g
HasRoom (from_right i (pos b) l ∷ w) g = Unit {0}
HasRoom (from_right i (negsuc n) l ∷ w) g = IsBelow n g

-- the same of one node
abbrev pub HasRoomAt : ℤ → Tree → Type 0
HasRoomAt (pos b) g = Unit {0}
HasRoomAt (negsuc n) g = IsBelow n g

room_up_left : (w : List Step) (i : ℕ) (b : ℤ) (s g r : Tree) → Split (plug w (fork i b s r)) → HasRoom w (fork i b g r)
room_up_left [] i b s g r p = tt
room_up_left (from_left j (pos c) v ∷ w) i b s g r p = tt
room_up_left (from_right j (pos c) v ∷ w) i b s g r p = tt
room_up_left (from_left j (negsuc n) v ∷ w) i (pos b) s g r p = (part_split w (fork j (negsuc n) (fork i (pos b) s r) v) p).2.left_below
room_up_left (from_left j (negsuc n) v ∷ w) i (negsuc b) s g r p = (part_split w (fork j (negsuc n) (fork i (negsuc b) s r) v) p).2.left_below
room_up_left (from_right j (negsuc n) v ∷ w) i (pos b) s g r p = (part_split w (fork j (negsuc n) v (fork i (pos b) s r)) p).2.right_below
room_up_left (from_right j (negsuc n) v ∷ w) i (negsuc b) s g r p = (part_split w (fork j (negsuc n) v (fork i (negsuc b) s r)) p).2.right_below

room_up_right : (w : List Step) (i : ℕ) (b : ℤ) (l s g : Tree) → Split (plug w (fork i b l s)) → HasRoom w (fork i b l g)
room_up_right [] i b l s g p = tt
room_up_right (from_left j (pos c) v ∷ w) i b l s g p = tt
room_up_right (from_right j (pos c) v ∷ w) i b l s g p = tt
room_up_right (from_left j (negsuc n) v ∷ w) i (pos b) l s g p = (part_split w (fork j (negsuc n) (fork i (pos b) l s) v) p).2.left_below
room_up_right (from_left j (negsuc n) v ∷ w) i (negsuc b) l s g p = (part_split w (fork j (negsuc n) (fork i (negsuc b) l s) v) p).2.left_below
room_up_right (from_right j (negsuc n) v ∷ w) i (pos b) l s g p = (part_split w (fork j (negsuc n) v (fork i (pos b) l s)) p).2.right_below
room_up_right (from_right j (negsuc n) v ∷ w) i (negsuc b) l s g p = (part_split w (fork j (negsuc n) v (fork i (negsuc b) l s)) p).2.right_below

divides_left : (b : ℤ) (s g r : Tree) → ((P : ℕ → Type 0) → Keys P s → Keys P g) → Divides b s r → HasRoomAt b g → Divides b g r
divides_left (pos b) s g r f d h = record { q = d.q; left = f (λ k. k / 2 ^ b ≡ 2 * d.q) d.left; right = d.right }
divides_left (negsuc n) s g r f d h = record { k = d.k; left = f (λ x. x ≡ d.k) d.left; right = d.right; left_below = h; right_below = d.right_below }

divides_right : (b : ℤ) (l s g : Tree) → ((P : ℕ → Type 0) → Keys P s → Keys P g) → Divides b l s → HasRoomAt b g → Divides b l g
divides_right (pos b) l s g f d h = record { q = d.q; left = d.left; right = f (λ k. k / 2 ^ b ≡ 2 * d.q + 1) d.right }
divides_right (negsuc n) l s g f d h = record { k = d.k; left = d.left; right = f (λ x. x ≡ d.k) d.right; left_below = d.left_below; right_below = h }

room_left : (i : ℕ) (b : ℤ) (r g : Tree) (w : List Step) → HasRoom (from_left i b r ∷ w) g → HasRoomAt b g
room_left i (pos b) r g w h = h
room_left i (negsuc n) r g w h = h

room_right : (i : ℕ) (b : ℤ) (l g : Tree) (w : List Step) → HasRoom (from_right i b l ∷ w) g → HasRoomAt b g
room_right i (pos b) l g w h = h
room_right i (negsuc n) l g w h = h

-- a part that has the same keys and no less leaves may stand in a part's place, where there is room
pub regrow_split : (w : List Step) (s g : Tree) → Split (plug w s) → Split g → ((x : ℕ) → HasLeaf x s → HasLeaf x g) → ((P : ℕ → Type 0) → Keys P s → Keys P g) → HasRoom w g → Split (plug w g)
regrow_split [] s g p q f k h = q
regrow_split (from_left i b r ∷ w) s g p q f k h =
    let o : Split (fork i b s r) = part_split w (fork i b s r) p in
    regrow_split w (fork i b s r) (fork i b g r) p ((elim o.0 [ inl x ↦ inl (f i x) | inr x ↦ inr x ]), o.1, divides_left b s g r k o.2 (room_left i b r g w h), q, o.4) (λ x y. elim y [ inl y ↦ inl (f x y) | inr y ↦ inr y ]) (λ P y. (k P y.0, y.1)) (room_up_left w i b s g r p)
regrow_split (from_right i b l ∷ w) s g p q f k h =
    let o : Split (fork i b l s) = part_split w (fork i b l s) p in
    regrow_split w (fork i b l s) (fork i b l g) p ((elim o.0 [ inl x ↦ inl x | inr x ↦ inr (f i x) ]), o.1, divides_right b l s g k o.2 (room_right i b l g w h), o.3, q) (λ x y. elim y [ inl y ↦ inl y | inr y ↦ inr (f x y) ]) (λ P y. (y.0, k P y.1)) (room_up_right w i b l s g p)

pub spine_up : (d : List Step) (s g : Tree) → IsSpine d → spine_value g ≡ spine_value s + 1 → spine_value (plug d g) ≡ spine_value (plug d s) + 1
spine_up [] s g h e = e
spine_up (from_left i b r ∷ d) s g h e = absurd h
spine_up (from_right i (pos b) l ∷ d) s g h e = absurd h
spine_up (from_right i (negsuc n) l ∷ d) s g h e = spine_up d (fork i (negsuc n) l s) (fork i (negsuc n) l g) h (omega (arith, e))

pub items_up : (d : List Step) (s g : Tree) (ys : List KeyedItem) → IsSpine d → items g ≡ items s ++ ys → items (plug d g) ≡ items (plug d s) ++ ys
items_up [] s g ys h e = e
items_up (from_left i b r ∷ d) s g ys h e = absurd h
items_up (from_right i (pos b) l ∷ d) s g ys h e = absurd h
items_up (from_right i (negsuc n) l ∷ d) s g ys h e = items_up d (fork i (negsuc n) l s) (fork i (negsuc n) l g) ys h (ap (λ z. items l ++ z) e ∙ sym (append_assoc (items l) (items s) ys))

pub keys_up : (d : List Step) (s g : Tree) (P : ℕ → Type 0) → (Keys P s → Keys P g) → Keys P (plug d s) → Keys P (plug d g)
keys_up [] s g P f h = f h
keys_up (from_left i b r ∷ d) s g P f h = keys_up d (fork i b s r) (fork i b g r) P (λ y. (f y.0, y.1)) h
keys_up (from_right i b l ∷ d) s g P f h = keys_up d (fork i b l s) (fork i b l g) P (λ y. (y.0, f y.1)) h

pub keys_part : (d : List Step) (s : Tree) (P : ℕ → Type 0) → Keys P (plug d s) → Keys P s
keys_part [] s P h = h
keys_part (from_left i b r ∷ d) s P h = (keys_part d (fork i b s r) P h).0
keys_part (from_right i b l ∷ d) s P h = (keys_part d (fork i b l s) P h).1

pub twins_up : (d : List Step) (s g : Tree) → IsSpine d → IsTwins g → IsTwins (plug d g)
twins_up [] s g h t = t
twins_up (from_left i b r ∷ d) s g h t = absurd h
twins_up (from_right i (pos b) l ∷ d) s g h t = absurd h
twins_up (from_right i (negsuc n) l ∷ d) s g h t = twins_up d (fork i (negsuc n) l s) (fork i (negsuc n) l g) h tt

pub spine_le : (d : List Step) (s : Tree) → IsSpine d → spine_value s ≤ spine_value (plug d s)
spine_le [] s h = omega arith
spine_le (from_left i b r ∷ d) s h = absurd h
spine_le (from_right i (pos b) l ∷ d) s h = absurd h
spine_le (from_right i (negsuc n) l ∷ d) s h = let x : spine_value (fork i (negsuc n) l s) ≤ spine_value (plug d (fork i (negsuc n) l s)) = spine_le d (fork i (negsuc n) l s) h in let y : 2 ^ n + spine_value s ≤ spine_value (plug d (fork i (negsuc n) l s)) = x in omega (arith, y)

pub below_self : (t : Tree) → IsTwins t → IsBelow (depth t) t
below_self (tip e k) h = tt
below_self (fork i (pos b) l r) h = h
below_self (fork i (negsuc n) l r) h = let x : n < suc n = omega arith in x

pub pow_small : (d : ℕ) → 2 ^ d < 2 ^ 63 → d < 63
pow_small d h =
    elim (cases_lt d 63) [
      | inl lt ↦ lt
      | inr le ↦
          let e : d ≡ 63 + (d - 63) = omega arith in
          let p : 2 ^ d ≡ 2 ^ 63 * 2 ^ (d - 63) = ap (λ y. 2 ^ y) e ∙ pow-add 2 63 (d - 63) in
          let q : zero < 2 ^ (d - 63) = pow_pos (d - 63) in
          absurd (omega arith)
    ]

pub pow_le : (m n : ℕ) → m ≤ n → 2 ^ m ≤ 2 ^ n
pow_le m n h =
    let e : n ≡ m + (n - m) = omega arith in
    let p : 2 ^ n ≡ 2 ^ m * 2 ^ (n - m) = ap (λ x. 2 ^ x) e ∙ pow-add 2 m (n - m) in
    let q : 0 < 2 ^ (n - m) = pow_pos (n - m) in
    grind arith
