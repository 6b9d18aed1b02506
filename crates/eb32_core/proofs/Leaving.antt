-- A forest after a deletion.
use Rattle.std.proofs.Common.{◌≡◌, ℕ, ◌+◌, ◌<◌, ◌≤◌, inl, inr, length, set, not, sym, ap, ◌∙◌, subst, arith}
use Rattle.std.specs.Prelude.{Option, IsSomeAnd, slice_index}
use Rattle.std.specs.List.{filter}
use Rattle.std.proofs.lemmas.Bool.{cases_eq}
use Rattle.std.proofs.lemmas.List.{set-get_or}
use Rattle.sched_base.specs.KeyedList.{KeyedRoots, StandsIn, IsPlaced, is_entry, root_at, without_entry, deleted_from}
use Rattle.eb_arena.specs.Parts.{Parts}
use Rattle.eb_arena.specs.Shape.{Tree, items_of, HasLeaf, list_of}
use Rattle.eb_arena.proofs.Reading.{list_of_is}
use Rattle.eb_arena.proofs.Unique.{determined}
use Rattle.eb_dups.specs.Grown.{with_tree}
use Rattle.eb_dups.proofs.Regrown.{tree_at, tree_other}
use Rattle.eb32_core.specs.Planted.{spine_in, SpinesIn}
use Rattle.eb32_core.specs.Removal.{Loses, Uprooted, Uproots}
use Rattle.eb32_core.specs.Forest.{Grove, IsTended, InTrees, Lost, lists_from, seen_of}
use Rattle.eb32_core.proofs.Groves.{lists-set}
use Rattle.eb32_core.proofs.Standing.{Held, tended, stood, root_is, leaf_at}

-- the trees of a root in which an entry stands have its leaf
has_leaf : (f : Grove) (q e : ℕ) (t : IsTended f) → Held f q e → IsSomeAnd (t.trees q) (HasLeaf e)
has_leaf f q e t h = leaf_at f.parts q e (t.trees q) (t.shape.roots q h.exists) h.held

-- after a deletion the forest is tended
pub left_tended : (f : Grove) (z : Parts) (e : ℕ) → IsTended f → IsPlaced e (seen_of f) → Uproots f.parts z e → IsTended (record { parts = z; made = f.made })
left_tended f z e t h up =
    let q : ℕ = h.0 in
    let x : Held f q e = stood f q e (tended f t) h.1 in
    let p : Uprooted f.parts z t.trees q e = up t.trees q t.shape x.exists (has_leaf f q e t x) in
    record {
      counts = t.counts ∙ sym p.roots;
      trees = with_tree t.trees q p.after;
      shape = p.shape;
      spines = λ r g.
          let m : ℕ = slice_index f.made r in
          let old : SpinesIn m (t.trees r) = t.spines r (subst (λ y. r < y) p.roots g) in
          elim (cases_eq r q) [
            | inl w ↦ subst (λ y. SpinesIn m (with_tree t.trees q p.after y)) (sym w) (subst (SpinesIn m) (sym (tree_at t.trees q p.after)) (λ key. let low : spine_in key (t.trees q) ≤ m = subst (λ y. SpinesIn m (t.trees y)) w old key in omega (arith, p.spines key, low)))
            | inr d ↦ subst (SpinesIn m) (sym (tree_other t.trees q r p.after d)) old
          ];
    }

-- and stands for the lists without the entry
pub left_seen : (f : Grove) (z : Parts) (e : ℕ) → IsTended f → Uproots f.parts z e → (q : ℕ) → StandsIn q e (seen_of f) → seen_of (record { parts = z; made = f.made }) ≡ deleted_from q e (seen_of f)
unfolding seen_of
left_seen f z e t up q h =
    let a : Parts = f.parts in
    let m : ℕ = slice_index f.made q in
    let x : Held f q e = stood f q e (tended f t) h in
    let p : Uprooted a z t.trees q e = up t.trees q t.shape x.exists (has_leaf f q e t x) in
    let us : ℕ → Option Tree = with_tree t.trees q p.after in
    let cl : length z.links ≡ length a.links = p.roots in
    let rm : q < length f.made = subst (λ y. q < y) (sym t.counts) x.exists in
    let old : (r : ℕ) → r < length a.links → list_of a r ≡ items_of (t.trees r) = λ r g. list_of_is a r (t.trees r) (t.shape.roots r g) in
    let new : (r : ℕ) → r < length a.links → list_of z r ≡ items_of (us r) = λ r g. list_of_is z r (us r) (p.shape.roots r (subst (λ y. r < y) (sym cl) g)) in
    let here : list_of z q ≡ filter (λ y. not (is_entry e y)) (list_of a q) = new q x.exists ∙ (ap items_of (tree_at t.trees q p.after) ∙ (p.items_are ∙ ap (filter (λ y. not (is_entry e y))) (sym (old q x.exists)))) in
    let others : (r : ℕ) → r < length f.made → (r ≡ q → ⊥) → list_of z r ≡ list_of a r = λ r g d. let k : r < length a.links = subst (λ y. r < y) t.counts g in new r k ∙ (ap items_of (tree_other t.trees q r p.after d) ∙ sym (old r k)) in
    let zero_add : (r : ℕ) → 0 + r ≡ r = λ r. omega arith in
    let lists : lists_from z 0 (set f.made q m) ≡ set (lists_from a 0 f.made) q (record { items = filter (λ y. not (is_entry e y)) (list_of a q); insertions = m }) = lists-set a z 0 f.made q m _ rm (ap (list_of z) (zero_add q) ∙ here) (λ i g d. subst (λ y. list_of z y ≡ list_of a y) (sym (zero_add i)) (others i g d)) in
    let same : lists_from z 0 f.made ≡ lists_from z 0 (set f.made q m) = ap (lists_from z 0) (sym (set-get_or f.made q 0)) in
    let all : lists_from z 0 f.made ≡ set (lists_from a 0 f.made) q (without_entry e (root_at q (seen_of f))) = same ∙ (lists ∙ ap (λ l. set (lists_from a 0 f.made) q (without_entry e l)) (sym (root_is f q (tended f t) x.exists))) in
    ap (λ l. let s : KeyedRoots = record { roots = l; entries = length z.elements } in s) all ∙ ap (λ c. let s : KeyedRoots = record { roots = set (lists_from a 0 f.made) q (without_entry e (root_at q (seen_of f))); entries = c } in s) p.elements

-- and its trees are those without it
pub lost : (f : Grove) (z : Parts) (e : ℕ) → IsTended f → Uproots f.parts z e → (q : ℕ) → StandsIn q e (seen_of f) → InTrees f.parts z (Lost (length f.parts.links) q e)
lost f z e t up q h old new so sn =
    let a : Parts = f.parts in
    let x : Held f q e = stood f q e (tended f t) h in
    let p : Uprooted a z old q e = up old q so x.exists (leaf_at a q e (old q) (so.roots q x.exists) x.held) in
    let us : ℕ → Option Tree = with_tree old q p.after in
    let same : (r : ℕ) → r < length a.links → new r ≡ us r = λ r g. (determined z new us sn p.shape r (subst (λ y. r < y) (sym p.roots) g)).0 in
    let here : new q ≡ p.after = same q x.exists ∙ tree_at old q p.after in
    record {
      loses = subst (Loses (old q) e) (sym here) p.loses;
      falls = λ key. subst (λ o. spine_in key o ≤ spine_in key (old q)) (sym here) (p.spines key);
      others = λ r g n. same r g ∙ tree_other old q r p.after n;
    }
