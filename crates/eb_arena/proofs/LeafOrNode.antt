-- Whether a target is a leaf or a node.
use Rattle.std.proofs.Common.{◌≡◌, ℕ, Bool, true, false, refl, sym, ap, ◌∙◌}
use Rattle.eb_arena.specs.declared.links.Target.{Target}
use Rattle.eb_arena.specs.declared.links.Target.TheVariants as targets
use Rattle.eb_arena.specs.Links.{is_leaf, index_of}

pub node_is : (t : Target) (b : Bool) (i : ℕ) → (t ≡ targets.Nothing → ⊥) → b ≡ is_leaf t → b ≡ false → i ≡ index_of t → targets.Node i ≡ t
node_is targets.Nothing b i n h f e = absurd (n refl)
node_is (targets.Leaf j) b i n h f e = let x : true ≡ false = sym h ∙ f in cc
node_is (targets.Node j) b i n h f e = ap (λ m. targets.Node m) e

pub leaf_is_no_node : (t : Target) (b : Bool) → b ≡ is_leaf t → b ≡ true → (i : ℕ) → t ≡ targets.Node i → ⊥
leaf_is_no_node targets.Nothing b h f i e = cc
leaf_is_no_node (targets.Leaf j) b h f i e = cc
leaf_is_no_node (targets.Node j) b h f i e = let x : true ≡ false = sym f ∙ h in cc
