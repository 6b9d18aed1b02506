-- The list of a root after its entry was taken out.
use Rattle.std.proofs.Common.{◌≡◌, ℕ, ◌≤◌, inl, inr, Bool, true, false, cond, eqb, arith, lt-ltb, le-ltb, ap, [], ◌<◌, length, refl, sym, ◌∙◌, subst}
use Rattle.std.specs.Prelude.{◌==◌, ◌||◌, nat_lt, Option, Some, IsSomeAnd}
use Rattle.std.proofs.lemmas.Bool.{cases_eq}
use Rattle.eb_arena.specs.declared.links.Place.TheVariants as places
use Rattle.eb_arena.specs.Links.{is_nowhere, place_index}
use Rattle.eb_arena.specs.Parts.{Parts, element_at, link_at}
use Rattle.eb_arena.specs.Shape.{Tree, Hangs, Split, HasLeaf, HasNode, IsRoot, root_place, Shape, InSome}
use Rattle.eb_arena.proofs.Unique.{NodeWay, node_way, leads_somewhere}
use Rattle.eb_dups.specs.Grown.{with_tree}
use Rattle.eb_dups.proofs.Regrown.{tree_at}
use Rattle.eb32_core.specs.Planted.{spine_in}
use Rattle.eb32_core.specs.Removal.{renamed, visits_of, IsLoose, Unlinked, Unlinks, Replaced, Replaces, Uprooted, Uproots}
use Rattle.eb32_core.proofs.ReplaceNames.{renamed_items, renamed_values, renamed_none}

-- trees that are the same root by root have the same shape
shape_same : (a : Parts) (ts us : ℕ → Option Tree) → ((r : ℕ) → ts r ≡ us r) → Shape a ts → Shape a us
shape_same a ts us e s = record {
  fits = s.fits;
  roots = λ r f. subst (IsRoot a r) (e r) (s.roots r f);
  leaves = λ i f n. let x : InSome a ts (HasLeaf i) = s.leaves i f n in (x.0, (x.1.0, subst (λ y. IsSomeAnd y (HasLeaf i)) (e x.0) x.1.1));
  nodes = λ i f n. let x : InSome a ts (HasNode i) = s.nodes i f n in (x.0, (x.1.0, subst (λ y. IsSomeAnd y (HasNode i)) (e x.0) x.1.1));
}

twice : (b : Bool) (o p q : Option Tree) → cond b p (cond b o q) ≡ cond b p q
twice true o p q = refl
twice false o p q = refl

-- a root's tree that is put in twice is put in once
with_tree_twice : (ts : ℕ → Option Tree) (q r : ℕ) (o p : Option Tree) → with_tree (with_tree ts q o) q p r ≡ with_tree ts q p r
with_tree_twice ts q r o p = twice (r == q) o p (ts r)

-- the node of the entry stood elsewhere, and another took its place
replaced_uprooted : (a b z : Parts) (ts : ℕ → Option Tree) (q e h : ℕ) (u : Unlinked a b ts q e h) → Replaced b z (with_tree ts q (Some u.after)) q e h → Uprooted a z ts q e
replaced_uprooted a b z ts q e h u r =
    let new : Tree = renamed e h u.after in
    record {
      after = Some new;
      elements = r.elements ∙ u.elements;
      roots = r.roots ∙ u.roots;
      shape = shape_same z (with_tree (with_tree ts q (Some u.after)) q (Some new)) (with_tree ts q (Some new)) (λ p. with_tree_twice ts q p (Some u.after) (Some new)) (r.shape u.after (tree_at ts q (Some u.after)));
      items_are = renamed_items e h u.after ∙ u.items_are;
      loses = record { freed = h; between = u.after; pair = u.pair; is = refl };
      spines = λ key. subst (λ m. m ≤ spine_in key (ts q)) (sym (renamed_values e h key u.after)) (u.spines key);
    }

pub replaced_uproots : (a b z : Parts) (e h : ℕ) → Unlinks a b e h → Replaces b z e h → Uproots a z e
replaced_uproots a b z e h u r ts q sh f s =
    let x : Unlinked a b ts q e h = u ts q sh f s in
    replaced_uprooted a b z ts q e h x (r (with_tree ts q (Some x.after)) q x.loose)

-- the node of the entry is in use no more
no_node : (a : Parts) (q e : ℕ) (t : Tree) → Hangs a (link_at a q) (root_place a q) t → (element_at a e).node_p ≡ places.Nowhere → HasNode e t → ⊥
no_node a q e t s n g =
    let w : NodeWay a q t e = node_way a q t [] (link_at a q) (root_place a q) e s refl g in
    leads_somewhere a q (element_at a e).node_p w.way w.leads n

loose_is_shape : (a : Parts) (ts : ℕ → Option Tree) (q e h : ℕ) (l : IsLoose a ts q e h) → (element_at a e).node_p ≡ places.Nowhere → Shape a ts
loose_is_shape a ts q e h l n =
    let split : Split l.tree = subst Split (renamed_none e h l.tree (no_node a q e l.tree l.stands n)) l.split in
    record {
      fits = l.fits;
      roots = λ r f. elim (cases_eq r q) [
        | inl k ↦ subst (λ y. IsRoot a y (ts y)) (sym k) (subst (IsRoot a q) (sym l.tree_is) (l.stands, split))
        | inr d ↦ l.others r f d
      ];
      leaves = l.leaves;
      nodes = l.nodes;
    }

same_some : (t u : Tree) → Some t ≡ Some u → t ≡ u
same_some t u h = cc

pub unlinked_uproots : (a b : Parts) (e h : ℕ) → Unlinks a b e h → (element_at b e).node_p ≡ places.Nowhere → Uproots a b e
unlinked_uproots a b e h u n ts q sh f s =
    let x : Unlinked a b ts q e h = u ts q sh f s in
    let l : IsLoose b (with_tree ts q (Some x.after)) q e h = x.loose in
    let same : l.tree ≡ x.after = same_some l.tree x.after (sym l.tree_is ∙ tree_at ts q (Some x.after)) in
    let stands : Hangs b (link_at b q) (root_place b q) x.after = subst (Hangs b (link_at b q) (root_place b q)) same l.stands in
    record {
      after = Some x.after;
      elements = x.elements;
      roots = x.roots;
      shape = loose_is_shape b (with_tree ts q (Some x.after)) q e h x.loose n;
      items_are = x.items_are;
      loses = record { freed = h; between = x.after; pair = x.pair; is = sym (renamed_none e h x.after (no_node b q e x.after stands n)) };
      spines = x.spines;
    }

-- ---- how many elements are visited

pub visits_alone : (a : Parts) (e : ℕ) → length a.elements ≤ place_index (element_at a e).leaf_p → visits_of a e ≡ 1
visits_alone a e h = rw (le-ltb (place_index (element_at a e).leaf_p) (length a.elements) h) refl

pub visits_two : (a : Parts) (e : ℕ) (b : Bool) → place_index (element_at a e).leaf_p < length a.elements → b ≡ (is_nowhere (element_at a e).node_p || eqb (place_index (element_at a e).leaf_p) e) → visits_of a e ≡ cond b 4 8
visits_two a e b lt is =
    ap (λ t. cond t (cond (is_nowhere (element_at a e).node_p || eqb (place_index (element_at a e).leaf_p) e) 4 8) 1) (lt-ltb (place_index (element_at a e).leaf_p) (length a.elements) lt) ∙ ap (λ t. cond t 4 8) (sym is)

pub visits_few : (a : Parts) (e : ℕ) → visits_of a e ≤ 8
visits_few a e = by_tests (nat_lt (place_index (element_at a e).leaf_p) (length a.elements)) (is_nowhere (element_at a e).node_p || eqb (place_index (element_at a e).leaf_p) e)
  where
    by_tests : (s t : Bool) → cond s (cond t 4 8) 1 ≤ 8
    by_tests true true = omega arith
    by_tests true false = omega arith
    by_tests false t = omega arith
