-- The worked arenas have the shape.
use Rattle.std.proofs.Common.{◌≡◌, ◌≢◌, ℕ, zero, suc, ◌<◌, inl, inr, refl, arith, lit<}
use Rattle.std.specs.Prelude.{Some, None}
use Rattle.eb_arena.specs.declared.links.Target.TheVariants as targets
use Rattle.eb_arena.specs.declared.links.Place.TheVariants as places
use Rattle.eb_arena.specs.Parts.{element_at}
use Rattle.eb_arena.specs.Shape.{HasLeaf, HasNode, Hangs, Split, HasShape, root_place, IsRoot}
use Rattle.eb32_walk.specs.Ends.{IsIn}
use Rattle.eb32_walk.specs.Worked.{four_equal_keys, four_equal_tree, three_keys, three_keys_tree, two_twins, two_twins_tree, empty_root}

four_stands : Hangs four_equal_keys (targets.Node 2) (root_place four_equal_keys 0) four_equal_tree
four_stands =
    (refl, lit< tt, refl, refl, (refl, lit< tt, refl, refl, (refl, lit< tt, refl, refl), (refl, lit< tt, refl, refl)), (refl, lit< tt, refl, refl, (refl, lit< tt, refl, refl), (refl, lit< tt, refl, refl)))

four_split : Split four_equal_tree
four_split = (
  inr (inl refl),
  lit< tt,
  record { k = 5; left = (refl, refl); right = (refl, refl); left_below = lit< tt; right_below = lit< tt },
  (inr refl, lit< tt, record { k = 5; left = refl; right = refl; left_below = tt; right_below = tt }, tt, tt),
  (inr refl, lit< tt, record { k = 5; left = refl; right = refl; left_below = tt; right_below = tt }, tt, tt),
)

four_roots : (q : ℕ) → q < 1 → IsRoot four_equal_keys q (Some four_equal_tree)
four_roots zero h = (four_stands, four_split)
four_roots (suc q) h = absurd (omega arith)

four_leaves : (i : ℕ) → i < 4 → HasLeaf i four_equal_tree
four_leaves zero h = inl (inl refl)
four_leaves (suc zero) h = inl (inr refl)
four_leaves (suc (suc zero)) h = inr (inl refl)
four_leaves (suc (suc (suc zero))) h = inr (inr refl)
four_leaves (suc (suc (suc (suc i)))) h = absurd (omega arith)

four_nodes : (i : ℕ) → i < 4 → (element_at four_equal_keys i).node_p ≢ places.Nowhere → HasNode i four_equal_tree
four_nodes zero h n = absurd (n refl)
four_nodes (suc zero) h n = inr (inl (inl refl))
four_nodes (suc (suc zero)) h n = inl refl
four_nodes (suc (suc (suc zero))) h n = inr (inr (inl refl))
four_nodes (suc (suc (suc (suc i)))) h n = absurd (omega arith)

pub four_equal_shape : HasShape four_equal_keys
four_equal_shape = (
  λ q. Some four_equal_tree,
  record {
    fits = lit< tt;
    roots = four_roots;
    leaves = λ i h n. (0, (lit< tt, four_leaves i h));
    nodes = λ i h n. (0, (lit< tt, four_nodes i h n));
  },
)

pub four_equal_in : (i : ℕ) → i < 4 → IsIn four_equal_keys i
four_equal_in zero h = (lit< tt, λ e. cc)
four_equal_in (suc zero) h = (lit< tt, λ e. cc)
four_equal_in (suc (suc zero)) h = (lit< tt, λ e. cc)
four_equal_in (suc (suc (suc zero))) h = (lit< tt, λ e. cc)
four_equal_in (suc (suc (suc (suc i)))) h = absurd (omega arith)

three_roots : (q : ℕ) → q < 1 → IsRoot three_keys q (Some three_keys_tree)
three_roots zero h = (
  (refl, lit< tt, refl, refl, (refl, lit< tt, refl, refl, (refl, lit< tt, refl, refl), (refl, lit< tt, refl, refl)), (refl, lit< tt, refl, refl)),
  (
    inr refl,
    lit< tt,
    record { q = 1; left = (refl, refl); right = refl },
    (inr refl, lit< tt, record { q = 2; left = refl; right = refl }, tt, tt),
    tt,
  ),
)
three_roots (suc q) h = absurd (omega arith)

three_leaves : (i : ℕ) → i < 3 → HasLeaf i three_keys_tree
three_leaves zero h = inl (inl refl)
three_leaves (suc zero) h = inr refl
three_leaves (suc (suc zero)) h = inl (inr refl)
three_leaves (suc (suc (suc i))) h = absurd (omega arith)

three_nodes : (i : ℕ) → i < 3 → (element_at three_keys i).node_p ≢ places.Nowhere → HasNode i three_keys_tree
three_nodes zero h n = absurd (n refl)
three_nodes (suc zero) h n = inl refl
three_nodes (suc (suc zero)) h n = inr (inl (inl refl))
three_nodes (suc (suc (suc i))) h n = absurd (omega arith)

pub three_keys_shape : HasShape three_keys
three_keys_shape = (
  λ q. Some three_keys_tree,
  record {
    fits = lit< tt;
    roots = three_roots;
    leaves = λ i h n. (0, (lit< tt, three_leaves i h));
    nodes = λ i h n. (0, (lit< tt, three_nodes i h n));
  },
)

pub three_keys_in : (i : ℕ) → i < 3 → IsIn three_keys i
three_keys_in zero h = (lit< tt, λ e. cc)
three_keys_in (suc zero) h = (lit< tt, λ e. cc)
three_keys_in (suc (suc zero)) h = (lit< tt, λ e. cc)
three_keys_in (suc (suc (suc i))) h = absurd (omega arith)

twins_roots : (q : ℕ) → q < 1 → IsRoot two_twins q (Some two_twins_tree)
twins_roots zero h = (
  (refl, lit< tt, refl, refl, (refl, lit< tt, refl, refl, (refl, lit< tt, refl, refl), (refl, lit< tt, refl, refl)), (refl, lit< tt, refl, refl)),
  (
    inr refl,
    lit< tt,
    record { q = 1; left = (refl, refl); right = refl },
    (inr refl, lit< tt, record { k = 5; left = refl; right = refl; left_below = tt; right_below = tt }, tt, tt),
    tt,
  ),
)
twins_roots (suc q) h = absurd (omega arith)

twins_leaves : (i : ℕ) → i < 3 → HasLeaf i two_twins_tree
twins_leaves zero h = inl (inl refl)
twins_leaves (suc zero) h = inl (inr refl)
twins_leaves (suc (suc zero)) h = inr refl
twins_leaves (suc (suc (suc i))) h = absurd (omega arith)

twins_nodes : (i : ℕ) → i < 3 → (element_at two_twins i).node_p ≢ places.Nowhere → HasNode i two_twins_tree
twins_nodes zero h n = absurd (n refl)
twins_nodes (suc zero) h n = inr (inl (inl refl))
twins_nodes (suc (suc zero)) h n = inl refl
twins_nodes (suc (suc (suc i))) h n = absurd (omega arith)

pub two_twins_shape : HasShape two_twins
two_twins_shape = (
  λ q. Some two_twins_tree,
  record {
    fits = lit< tt;
    roots = twins_roots;
    leaves = λ i h n. (0, (lit< tt, twins_leaves i h));
    nodes = λ i h n. (0, (lit< tt, twins_nodes i h n));
  },
)

pub two_twins_in : (i : ℕ) → i < 3 → IsIn two_twins i
two_twins_in zero h = (lit< tt, λ e. cc)
two_twins_in (suc zero) h = (lit< tt, λ e. cc)
two_twins_in (suc (suc zero)) h = (lit< tt, λ e. cc)
two_twins_in (suc (suc (suc i))) h = absurd (omega arith)

-- one empty root beside two entries
empty_roots : (q : ℕ) → q < 1 → IsRoot empty_root q None
empty_roots zero h = refl
empty_roots (suc q) h = absurd (omega arith)

empty_leaf : (i : ℕ) → i < 2 → (element_at empty_root i).leaf_p ≡ places.Nowhere
empty_leaf zero h = refl
empty_leaf (suc zero) h = refl
empty_leaf (suc (suc i)) h = absurd (omega arith)

empty_node : (i : ℕ) → i < 2 → (element_at empty_root i).node_p ≡ places.Nowhere
empty_node zero h = refl
empty_node (suc zero) h = refl
empty_node (suc (suc i)) h = absurd (omega arith)

pub empty_shape : HasShape empty_root
empty_shape = (
  λ q. None,
  record {
    fits = lit< tt;
    roots = empty_roots;
    leaves = λ i h n. absurd (n (empty_leaf i h));
    nodes = λ i h n. absurd (n (empty_node i h));
  },
)
