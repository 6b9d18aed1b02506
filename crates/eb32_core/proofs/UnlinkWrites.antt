-- The writes that take a leaf and the node above it out of a tree.
use Rattle.std.proofs.Common.{◌≡◌, ℕ, ◌<◌, ◌⊎◌, inl, inr, length, sym, ap, ◌∙◌, subst}
use Rattle.eb_arena.specs.declared.links.Target.{Target}
use Rattle.eb_arena.specs.declared.links.Target.TheVariants as targets
use Rattle.eb_arena.specs.declared.links.Place.{Place}
use Rattle.eb_arena.specs.declared.links.Place.TheVariants as places
use Rattle.eb_arena.specs.declared.element.Element.{Element}
use Rattle.eb_arena.specs.Links.{index_of}
use Rattle.eb_arena.specs.Parts.{Parts, element_at, hung, linked}
use Rattle.eb_arena.specs.Laws.{SameLeaf, SameNode}
use Rattle.eb_arena.proofs.Frame.{at_set}
use Rattle.eb_dups.proofs.Moves.{hung_count}
use Rattle.eb32_core.proofs.UnlinkSpares.{Spares, spares_then, spares_less, spares_hung}

-- the leaf of entry e and node p hang nowhere
abbrev pub loosened : Parts → ℕ → ℕ → Parts
loosened a e p = hung (hung a (targets.Leaf e) places.Nowhere) (targets.Node p) places.Nowhere

-- and a part hangs above
abbrev pub raised : Parts → ℕ → ℕ → Target → Place → Parts
raised a e p part above = hung (loosened a e p) part above

-- and is there
abbrev pub cut : Parts → ℕ → ℕ → Target → Place → Parts
cut a e p part above = linked (raised a e p part above) above part

-- the leaves that are touched
abbrev pub CutLeaf : ℕ → Target → ℕ → Type 0
CutLeaf e part x = (x ≡ e) ⊎ (part ≡ targets.Leaf x)

-- and the nodes, but for the one above
abbrev pub CutNode : ℕ → Target → ℕ → Type 0
CutNode p part x = (x ≡ p) ⊎ (part ≡ targets.Node x)

leaf_is : (e x : ℕ) → targets.Leaf e ≡ targets.Leaf x → x ≡ e
leaf_is e x h = sym (ap index_of h)

node_is : (p x : ℕ) → targets.Node p ≡ targets.Node x → x ≡ p
node_is p x h = sym (ap index_of h)

leaf_not : (e x : ℕ) → targets.Leaf e ≡ targets.Node x → ⊥
leaf_not e x h = cc

node_not : (p x : ℕ) → targets.Node p ≡ targets.Leaf x → ⊥
node_not p x h = cc

pub loosened_count : (a : Parts) (e p : ℕ) → length (loosened a e p).elements ≡ length a.elements
loosened_count a e p = (hung_count (hung a (targets.Leaf e) places.Nowhere) (targets.Node p) places.Nowhere).0 ∙ (hung_count a (targets.Leaf e) places.Nowhere).0

pub spares_loosened : (a : Parts) (e p : ℕ) → e < length a.elements → p < length a.elements → Spares a (loosened a e p) (λ x. x ≡ e) (λ x. x ≡ p)
spares_loosened a e p f g =
    let b : Parts = hung a (targets.Leaf e) places.Nowhere in
    let c : length b.elements ≡ length a.elements = (hung_count a (targets.Leaf e) places.Nowhere).0 in
    let x : Spares a b (λ x. x ≡ e) (λ x. ⊥) = spares_less a b _ _ _ _ (λ x y. leaf_is e x y) (λ x y. leaf_not e x y) (spares_hung a (targets.Leaf e) places.Nowhere f) in
    let y : Spares b (loosened a e p) (λ x. ⊥) (λ x. x ≡ p) = spares_less b (loosened a e p) _ _ _ _ (λ x y. node_not p x y) (λ x y. node_is p x y) (spares_hung b (targets.Node p) places.Nowhere (subst (λ m. p < m) (sym c) g)) in
    spares_less a (loosened a e p) (λ x. (x ≡ e) ⊎ ⊥) (λ x. ⊥ ⊎ (x ≡ p)) (λ x. x ≡ e) (λ x. x ≡ p) (λ x h. elim h [ inl h ↦ h | inr h ↦ absurd h ]) (λ x h. elim h [ inl h ↦ absurd h | inr h ↦ h ]) (spares_then a b (loosened a e p) (λ x. x ≡ e) (λ x. ⊥) (λ x. ⊥) (λ x. x ≡ p) x y)

pub spares_up : (a : Parts) (e p : ℕ) (part : Target) (above : Place) → p < length a.elements → index_of part < length a.elements → Spares (loosened a e p) (raised a e p part above) (λ x. part ≡ targets.Leaf x) (λ x. part ≡ targets.Node x)
spares_up a e p part above g h = spares_hung (loosened a e p) part above (subst (λ m. index_of part < m) (sym (loosened_count a e p)) h)

pub spares_raised : (a : Parts) (e p : ℕ) (part : Target) (above : Place) → e < length a.elements → p < length a.elements → index_of part < length a.elements → Spares a (raised a e p part above) (CutLeaf e part) (CutNode p part)
spares_raised a e p part above f g h =
    spares_then a (loosened a e p) (raised a e p part above) (λ x. x ≡ e) (λ x. x ≡ p) (λ x. part ≡ targets.Leaf x) (λ x. part ≡ targets.Node x) (spares_loosened a e p f g) (spares_up a e p part above g h)

-- where the two hang afterwards
pub record Loose (z : Parts) (e p : ℕ) : Type 0 where
  pub out : (element_at z e).leaf_p ≡ places.Nowhere
  pub unused : (element_at z p).node_p ≡ places.Nowhere

pub loose_raised : (a : Parts) (e p : ℕ) (part : Target) (above : Place) → e < length a.elements → p < length a.elements → index_of part < length a.elements → (part ≡ targets.Leaf e → ⊥) → (part ≡ targets.Node p → ⊥) → Loose (raised a e p part above) e p
loose_raised a e p part above f g h m n =
    let b : Parts = hung a (targets.Leaf e) places.Nowhere in
    let c : Parts = loosened a e p in
    let z : Parts = raised a e p part above in
    let k : length b.elements ≡ length a.elements = (hung_count a (targets.Leaf e) places.Nowhere).0 in
    let gb : p < length b.elements = subst (λ y. p < y) (sym k) g in
    let d : Element = record (element_at a e) { leaf_p = places.Nowhere } in
    let dn : Element = record (element_at b p) { node_p = places.Nowhere } in
    let x : element_at b e ≡ d = at_set a e d f in
    let y : element_at c p ≡ dn = at_set b p dn gb in
    let s : Spares b c (λ x. targets.Node p ≡ targets.Leaf x) (λ x. targets.Node p ≡ targets.Node x) = spares_hung b (targets.Node p) places.Nowhere gb in
    let u : Spares c z (λ x. part ≡ targets.Leaf x) (λ x. part ≡ targets.Node x) = spares_up a e p part above g h in
    let se : SameLeaf b c e = s.leaves e (node_not p e) in
    let ue : SameLeaf c z e = u.leaves e m in
    let up : SameNode c z p = u.nodes p n in
    record {
      out = ue.leaf_p ∙ (se.leaf_p ∙ ap (λ v. v.leaf_p) x);
      unused = up.node_p ∙ ap (λ v. v.node_p) y;
    }

pub loose_later : (a z : Parts) (L N : ℕ → Type 0) (e p : ℕ) → Spares a z L N → (L e → ⊥) → (N p → ⊥) → Loose a e p → Loose z e p
loose_later a z L N e p s f g h = record { out = (s.leaves e f).leaf_p ∙ h.out; unused = (s.nodes p g).node_p ∙ h.unused }

pub raised_links : (a : Parts) (e p : ℕ) (part : Target) (above : Place) → (raised a e p part above).links ≡ a.links
raised_links a e p part above =
    (hung_count (loosened a e p) part above).1 ∙ ((hung_count (hung a (targets.Leaf e) places.Nowhere) (targets.Node p) places.Nowhere).1 ∙ (hung_count a (targets.Leaf e) places.Nowhere).1)
