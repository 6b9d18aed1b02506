-- What writes leave as it was: all leaves and nodes but those that they touch.
use Rattle.std.proofs.Common.{◌≡◌, ℕ, ◌<◌, ◌⊎◌, inl, inr, List, [], ◌∷◌, length, refl, sym, ap, ◌∙◌}
use Rattle.std.proofs.lemmas.Bool.{cases_eq}
use Rattle.std.proofs.lemmas.List.{length-set}
use Rattle.eb_arena.specs.declared.links.Side.{Side}
use Rattle.eb_arena.specs.declared.links.Target.{Target}
use Rattle.eb_arena.specs.declared.links.Target.TheVariants as targets
use Rattle.eb_arena.specs.declared.links.Place.{Place}
use Rattle.eb_arena.specs.declared.element.Element.{Element}
use Rattle.eb_arena.specs.Links.{index_of}
use Rattle.eb_arena.specs.Parts.{Parts, element_at, with_element, with_link, with_child, hung}
use Rattle.eb_arena.specs.Shape.{Tree, tip, fork, HasLeaf, HasNode}
use Rattle.eb_arena.specs.Way.{Step, from_left, from_right}
use Rattle.eb_arena.specs.Laws.{SameLeaf, SameNode, SameOn}
use Rattle.eb_arena.proofs.Frame.{at_set, at_other}
use Rattle.eb_dups.proofs.Distinct.{Away}
use Rattle.eb_dups.proofs.Moves.{leaf_then, node_then, hung_leaf, hung_node, hung_count}
use Rattle.eb_dups.proofs.Regrown.{SameWay}
use Rattle.eb32_core.proofs.UnlinkSteps.{Rechild, rechild}

-- all leaves but those that L names, and all nodes but those that N names, are the same
pub record Spares (a z : Parts) (L N : ℕ → Type 0) : Type 0 where
  pub count : length z.elements ≡ length a.elements
  pub leaves : (x : ℕ) → (L x → ⊥) → SameLeaf a z x
  pub nodes : (x : ℕ) → (N x → ⊥) → SameNode a z x

pub spares_then : (a b z : Parts) (L N M O : ℕ → Type 0) → Spares a b L N → Spares b z M O → Spares a z (λ x. L x ⊎ M x) (λ x. N x ⊎ O x)
spares_then a b z L N M O f g =
    record {
      count = g.count ∙ f.count;
      leaves = λ x n. leaf_then a b z x (f.leaves x (λ y. n (inl y))) (g.leaves x (λ y. n (inr y)));
      nodes = λ x n. node_then a b z x (f.nodes x (λ y. n (inl y))) (g.nodes x (λ y. n (inr y)));
    }

-- fewer names
pub spares_less : (a z : Parts) (L N M O : ℕ → Type 0) → ((x : ℕ) → L x → M x) → ((x : ℕ) → N x → O x) → Spares a z L N → Spares a z M O
spares_less a z L N M O f g s = record { count = s.count; leaves = λ x n. s.leaves x (λ y. n (f x y)); nodes = λ x n. s.nodes x (λ y. n (g x y)) }

-- a link up
pub spares_hung : (a : Parts) (part : Target) (p : Place) → index_of part < length a.elements → Spares a (hung a part p) (λ x. part ≡ targets.Leaf x) (λ x. part ≡ targets.Node x)
spares_hung a part p f = record { count = (hung_count a part p).0; leaves = λ x n. hung_leaf a part p x f n; nodes = λ x n. hung_node a part p x f n }

-- a link down at a node
pub spares_child : (a : Parts) (i : ℕ) (s : Side) (t : Target) → i < length a.elements → Spares a (with_element a i (with_child s t (element_at a i))) (λ x. ⊥) (λ x. x ≡ i)
spares_child a i s t f =
    let d : Element = with_child s t (element_at a i) in
    let c : Rechild s t (element_at a i) = rechild s t (element_at a i) in
    record {
      count = length-set a.elements i d;
      leaves = λ x n. elim (cases_eq x i) [
        | inl e ↦
            let r : element_at (with_element a i d) x ≡ d = ap (element_at (with_element a i d)) e ∙ at_set a i d f in
            record { leaf_p = ap (λ m. m.leaf_p) r ∙ (c.leaf_p ∙ ap (λ m. (element_at a m).leaf_p) (sym e)); key = ap (λ m. m.key) r ∙ (c.key ∙ ap (λ m. (element_at a m).key) (sym e)) }
        | inr o ↦
            let r : element_at (with_element a i d) x ≡ element_at a x = at_other a i x d o in
            record { leaf_p = ap (λ m. m.leaf_p) r; key = ap (λ m. m.key) r }
      ];
      nodes = λ x n.
          let r : element_at (with_element a i d) x ≡ element_at a x = at_other a i x d n in
          record { node_p = ap (λ m. m.node_p) r; bit = ap (λ m. m.bit) r; left = ap (λ m. m.left) r; right = ap (λ m. m.right) r };
    }

-- a link down at a root
pub spares_link : (a : Parts) (q : ℕ) (t : Target) → Spares a (with_link a q t) (λ x. ⊥) (λ x. ⊥)
spares_link a q t = record { count = refl; leaves = λ x n. record { leaf_p = refl; key = refl }; nodes = λ x n. record { node_p = refl; bit = refl; left = refl; right = refl } }

-- a tree that has none of what is named is the same
pub spares_on : (a z : Parts) (L N : ℕ → Type 0) (t : Tree) → Spares a z L N → ((x : ℕ) → L x → HasLeaf x t → ⊥) → ((x : ℕ) → N x → HasNode x t → ⊥) → SameOn a z t
spares_on a z L N (tip e k) s f g = s.leaves e (λ y. f e y refl)
spares_on a z L N (fork i b l r) s f g = (
  s.nodes i (λ y. g i y (inl refl)),
  spares_on a z L N l s (λ x y h. f x y (inl h)) (λ x y h. g x y (inr (inl h))),
  spares_on a z L N r s (λ x y h. f x y (inr h)) (λ x y h. g x y (inr (inr h))),
)

-- and so is the way from a tree that has all of it
pub spares_way : (a z : Parts) (L N : ℕ → Type 0) (w : List Step) (t : Tree) → Spares a z L N → Away w t → ((x : ℕ) → L x → HasLeaf x t) → ((x : ℕ) → N x → HasNode x t) → SameWay a z w
spares_way a z L N [] t s v f g = tt
spares_way a z L N (from_left i b r ∷ w) t s v f g = (
  s.nodes i (λ y. v.0 (g i y)),
  spares_on a z L N r s (λ x y h. v.1.leaves x (f x y) h) (λ x y h. v.1.nodes x (g x y) h),
  spares_way a z L N w t s v.2 f g,
)
spares_way a z L N (from_right i b l ∷ w) t s v f g = (
  s.nodes i (λ y. v.0 (g i y)),
  spares_on a z L N l s (λ x y h. v.1.leaves x (f x y) h) (λ x y h. v.1.nodes x (g x y) h),
  spares_way a z L N w t s v.2 f g,
)
