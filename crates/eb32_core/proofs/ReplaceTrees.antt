-- A tree after one node was put in the place of another.
use Rattle.std.proofs.Common.{◌≡◌, ℕ, ◌+◌, ◌<◌, ◌≤◌, inl, inr, length, refl, sym, ap, ◌∙◌, subst, arith}
use Rattle.std.proofs.lemmas.Bool.{cases_eq}
use Rattle.eb_arena.specs.declared.links.Side.{Side}
use Rattle.eb_arena.specs.declared.links.Side.TheVariants as sides
use Rattle.eb_arena.specs.declared.links.Target.{Target}
use Rattle.eb_arena.specs.declared.links.Target.TheVariants as targets
use Rattle.eb_arena.specs.declared.links.Place.{Place}
use Rattle.eb_arena.specs.declared.links.Place.TheVariants as places
use Rattle.eb_arena.specs.Links.{index_of, place_index}
use Rattle.eb_arena.specs.Parts.{Parts, element_at, link_at, child, up_of}
use Rattle.eb_arena.specs.Shape.{Tree, tip, fork, Hangs, root_place}
use Rattle.eb_dups.proofs.Ending.{up_of_is}
use Rattle.eb32_core.specs.Removal.{renamed}
use Rattle.eb32_core.proofs.ReplaceHeld.{held, held_node, held_root}
use Rattle.eb32_core.proofs.ReplaceWrites.{Replaceable, Replacing}
use Rattle.eb32_core.proofs.ReplaceNames.{renamed_index, renamed_target, renamed_place, index_same, index_other, index_fits, root_place_same}

-- a part that hangs where it says: afterwards it hangs at the place of the new name
up_side : (a z : Parts) (e h : ℕ) (s : Side) (u : Target) → Replaceable a e h → Replacing a z e h → child s (element_at a e) ≡ u → up_of z u ≡ places.Under h s
up_side a z e h sides.Left u r g k = ap (up_of z) (sym k) ∙ g.up_left
up_side a z e h sides.Right u r g k = ap (up_of z) (sym k) ∙ g.up_right

-- a part that hangs at another node hangs at neither side of the entry's
apart : (a : Parts) (e h i : ℕ) (s : Side) (u : Target) → Replaceable a e h → up_of a u ≡ places.Under i s → (i ≡ e → ⊥) → ((element_at a e).left ≡ u → ⊥) × ((element_at a e).right ≡ u → ⊥)
apart a e h i s u r k n = (
  λ l. n (ap place_index (sym k ∙ (ap (up_of a) (sym l) ∙ r.left_up))),
  λ l. n (ap place_index (sym k ∙ (ap (up_of a) (sym l) ∙ r.right_up))),
)

up_elsewhere : (a z : Parts) (e h i : ℕ) (s : Side) (u : Target) → Replaceable a e h → Replacing a z e h → up_of a u ≡ places.Under i s → (i ≡ e → ⊥) → up_of z (renamed_target e h u) ≡ places.Under i s
up_elsewhere a z e h i s targets.Nothing r g k n = let x : places.Nowhere ≡ places.Under i s = k in cc
up_elsewhere a z e h i s (targets.Leaf x) r g k n =
    let p : ((element_at a e).left ≡ targets.Leaf x → ⊥) × ((element_at a e).right ≡ targets.Leaf x → ⊥) = apart a e h i s (targets.Leaf x) r k n in
    g.up_other (targets.Leaf x) p.0 p.1 (λ y. let w : targets.Node e ≡ targets.Leaf x = y in cc) (λ y. let w : targets.Node h ≡ targets.Leaf x = y in cc) ∙ k
up_elsewhere a z e h i s (targets.Node x) r g k n =
    let p : ((element_at a e).left ≡ targets.Node x → ⊥) × ((element_at a e).right ≡ targets.Node x → ⊥) = apart a e h i s (targets.Node x) r k n in
    elim (cases_eq x e) [
      | inl y ↦ ap (λ m. up_of z (targets.Node m)) (index_same e h x y) ∙ (g.up_heir ∙ (ap (λ m. (element_at a m).node_p) (sym y) ∙ k))
      | inr d ↦
          let w : targets.Node h ≡ targets.Node x → ⊥ = λ y. let v : places.Nowhere ≡ places.Under i s = sym r.unused ∙ (ap (λ m. (element_at a m).node_p) (ap index_of y) ∙ k) in cc in
          ap (λ m. up_of z (targets.Node m)) (index_other e h x d) ∙ (g.up_other (targets.Node x) p.0 p.1 (λ y. d (sym (ap index_of y))) w ∙ k)
    ]

-- neither side of the entry's node is the node itself
own_side : (a : Parts) (e h : ℕ) (s : Side) (u : Target) → Replaceable a e h → child s (element_at a e) ≡ u → renamed_target e h u ≡ u
own_side a e h s targets.Nothing r k = refl
own_side a e h s (targets.Leaf x) r k = refl
own_side a e h sides.Left (targets.Node x) r k = ap (λ m. targets.Node m) (index_other e h x (λ y. r.left_not (k ∙ ap (λ m. targets.Node m) y)))
own_side a e h sides.Right (targets.Node x) r k = ap (λ m. targets.Node m) (index_other e h x (λ y. r.right_not (k ∙ ap (λ m. targets.Node m) y)))

up_at : (a z : Parts) (e h : ℕ) (u : Target) (p : Place) → Replaceable a e h → Replacing a z e h → up_of a u ≡ p → held a p ≡ u → up_of z (renamed_target e h u) ≡ renamed_place e h p
up_at a z e h u places.Nowhere r g k f = ap (λ m. up_of z (renamed_target e h m)) (sym f)
up_at a z e h u (places.Under i s) r g k f =
    elim (cases_eq i e) [
      | inl y ↦
          let fe : child s (element_at a e) ≡ u = sym (held_node a e s r.entry_exists) ∙ (ap (λ m. held a (places.Under m s)) (sym y) ∙ f) in
          ap (up_of z) (own_side a e h s u r fe) ∙ (up_side a z e h s u r g fe ∙ ap (λ m. places.Under m s) (sym (index_same e h i y)))
      | inr n ↦ up_elsewhere a z e h i s u r g k n ∙ ap (λ m. places.Under m s) (sym (index_other e h i n))
    ]

-- what hangs at a place: afterwards it hangs at the place of the new name
held_elsewhere : (a z : Parts) (e h : ℕ) (o : Place) (t : Target) → Replaceable a e h → Replacing a z e h → held a o ≡ t → (place_index o ≡ h → ⊥) → (t ≡ targets.Node e → (element_at a e).node_p ≡ o) → held z o ≡ renamed_target e h t
held_elsewhere a z e h o targets.Nothing r g k n f = g.held_other o n (λ y. let x : targets.Nothing ≡ targets.Node e = sym k ∙ y in cc) ∙ k
held_elsewhere a z e h o (targets.Leaf x) r g k n f = g.held_other o n (λ y. let w : targets.Leaf x ≡ targets.Node e = sym k ∙ y in cc) ∙ k
held_elsewhere a z e h o (targets.Node x) r g k n f =
    elim (cases_eq x e) [
      | inl y ↦ ap (held z) (sym (f (ap (λ m. targets.Node m) y))) ∙ (g.held_place ∙ ap (λ m. targets.Node m) (sym (index_same e h x y)))
      | inr d ↦ g.held_other o n (λ y. d (ap index_of (sym k ∙ y))) ∙ (k ∙ ap (λ m. targets.Node m) (sym (index_other e h x d)))
    ]

held_at : (a z : Parts) (e h : ℕ) (o : Place) → Replaceable a e h → Replacing a z e h → (place_index o ≡ h → ⊥) → (held a o ≡ targets.Node e → (element_at a e).node_p ≡ o) → held z (renamed_place e h o) ≡ renamed_target e h (held a o)
held_at a z e h places.Nowhere r g n f = refl
held_at a z e h (places.Under i s) r g n f =
    elim (cases_eq i e) [
      | inl y ↦
          let c : held a (places.Under i s) ≡ child s (element_at a e) = ap (λ m. held a (places.Under m s)) y ∙ held_node a e s r.entry_exists in
          ap (λ m. held z (places.Under m s)) (index_same e h i y) ∙ (g.held_heir s ∙ (sym (own_side a e h s (child s (element_at a e)) r refl) ∙ ap (renamed_target e h) (sym c)))
      | inr d ↦ ap (λ m. held z (places.Under m s)) (index_other e h i d) ∙ held_elsewhere a z e h (places.Under i s) (held a (places.Under i s)) r g refl n f
    ]

bit_at : (a z : Parts) (e h i : ℕ) → Replacing a z e h → (i ≡ h → ⊥) → (element_at z (renamed_index e h i)).bit ≡ (element_at a i).bit
bit_at a z e h i g n =
    elim (cases_eq i e) [
      | inl y ↦ ap (λ m. (element_at z m).bit) (index_same e h i y) ∙ (g.bit_heir ∙ ap (λ m. (element_at a m).bit) (sym y))
      | inr d ↦ ap (λ m. (element_at z m).bit) (index_other e h i d) ∙ g.bit i n
    ]

-- what hangs at a side of a node
child_at : (a z : Parts) (e h i : ℕ) (s : Side) (t : Tree) → Replaceable a e h → Replacing a z e h → (i ≡ h → ⊥) → i < length a.elements → Hangs a (child s (element_at a i)) (places.Under i s) t → child s (element_at z (renamed_index e h i)) ≡ renamed_target e h (child s (element_at a i))
child_at a z e h i s t r g n f k =
    let j : ℕ = renamed_index e h i in
    let fj : j < length z.elements = subst (λ m. j < m) (sym g.count) (index_fits a e h i r.heir_exists f) in
    let c : held a (places.Under i s) ≡ child s (element_at a i) = held_node a i s f in
    let up : up_of a (child s (element_at a i)) ≡ places.Under i s = up_of_is a (child s (element_at a i)) (places.Under i s) t k in
    sym (held_node z j s fj) ∙ (held_at a z e h (places.Under i s) r g n (λ y. ap (up_of a) (sym y ∙ c) ∙ up) ∙ ap (renamed_target e h) c)

-- a tree that stands: afterwards the tree of the new names does
pub renamed_stands : (a z : Parts) (e h : ℕ) (t : Tree) (target : Target) (place : Place) → Replaceable a e h → Replacing a z e h → Hangs a target place t → held a place ≡ target → Hangs z (renamed_target e h target) (renamed_place e h place) (renamed e h t)
renamed_stands a z e h (tip x k) target place r g s f = (
  ap (renamed_target e h) s.0,
  subst (λ m. x < m) (sym g.count) s.1,
  up_at a z e h (targets.Leaf x) place r g s.2 (f ∙ s.0),
  g.key x ∙ s.3,
)
renamed_stands a z e h (fork i b l t) target place r g s f =
    let n : i ≡ h → ⊥ = λ y.
    let p : place ≡ places.Nowhere = sym s.2 ∙ (ap (λ m. (element_at a m).node_p) y ∙ r.unused) in
    let x : targets.Nothing ≡ targets.Node i = ap (held a) (sym p) ∙ (f ∙ s.0) in
    cc
    in
    let left : Hangs z (renamed_target e h (element_at a i).left) (places.Under (renamed_index e h i) sides.Left) (renamed e h l) = renamed_stands a z e h l (element_at a i).left (places.Under i sides.Left) r g s.4 (held_node a i sides.Left s.1) in
    let right : Hangs z (renamed_target e h (element_at a i).right) (places.Under (renamed_index e h i) sides.Right) (renamed e h t) = renamed_stands a z e h t (element_at a i).right (places.Under i sides.Right) r g s.5 (held_node a i sides.Right s.1) in (
      ap (renamed_target e h) s.0,
      subst (λ m. renamed_index e h i < m) (sym g.count) (index_fits a e h i r.heir_exists s.1),
      up_at a z e h (targets.Node i) place r g s.2 (f ∙ s.0),
      bit_at a z e h i g n ∙ s.3,
      subst (λ m. Hangs z m (places.Under (renamed_index e h i) sides.Left) (renamed e h l)) (sym (child_at a z e h i sides.Left l r g n s.1 s.4)) left,
      subst (λ m. Hangs z m (places.Under (renamed_index e h i) sides.Right) (renamed e h t)) (sym (child_at a z e h i sides.Right t r g n s.1 s.5)) right,
    )

pub root_held : (a : Parts) (q : ℕ) → held a (root_place a q) ≡ link_at a q
root_held a q =
    let le : length a.elements ≤ length a.elements + q = omega arith in
    held_root a (length a.elements + q) sides.Left le ∙ ap (link_at a) (omega arith)

-- what hangs on a root
pub root_renamed : (a z : Parts) (e h q : ℕ) → Replaceable a e h → Replacing a z e h → (link_at a q ≡ targets.Node e → (element_at a e).node_p ≡ root_place a q) → link_at z q ≡ renamed_target e h (link_at a q)
root_renamed a z e h q r g f =
    let n : length a.elements + q ≡ h → ⊥ = λ k. let lt : h < length a.elements = r.heir_exists in absurd (omega arith) in
    let p : root_place z q ≡ root_place a q = ap (λ m. places.Under (m + q) sides.Left) g.count in
    let c : held a (root_place a q) ≡ link_at a q = root_held a q in
    sym (root_held z q) ∙ (ap (held z) (p ∙ sym (root_place_same a e h q r.entry_exists)) ∙ (held_at a z e h (root_place a q) r g n (λ k. f (sym c ∙ k)) ∙ ap (renamed_target e h) c))

-- the tree of a root
pub root_stands : (a z : Parts) (e h q : ℕ) (t : Tree) → Replaceable a e h → Replacing a z e h → Hangs a (link_at a q) (root_place a q) t → Hangs z (link_at z q) (root_place z q) (renamed e h t)
root_stands a z e h q t r g s =
    let l : link_at z q ≡ renamed_target e h (link_at a q) = root_renamed a z e h q r g (λ k. ap (up_of a) (sym k) ∙ up_of_is a (link_at a q) (root_place a q) t s) in
    let p : renamed_place e h (root_place a q) ≡ root_place z q = root_place_same a e h q r.entry_exists ∙ ap (λ m. places.Under (m + q) sides.Left) (sym g.count) in
    subst (λ m. Hangs z m (root_place z q) (renamed e h t)) (sym l) (subst (λ m. Hangs z (renamed_target e h (link_at a q)) m (renamed e h t)) p (renamed_stands a z e h t (link_at a q) (root_place a q) r g s (root_held a q)))
