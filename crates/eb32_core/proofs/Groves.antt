-- A forest after an insertion.
use Rattle.std.proofs.Common.{◌≡◌, ℕ, zero, suc, ◌+◌, ◌^◌, ◌<◌, ◌≤◌, ◌⊎◌, inl, inr, List, [], ◌∷◌, length, get_or, set, replicate, refl, sym, ap, ◌∙◌, subst, arith}
use Rattle.std.specs.Prelude.{Option, Some, None, slice_index, nat_le}
use Rattle.std.proofs.lemmas.Bool.{cases_eq}
use Rattle.std.proofs.lemmas.List.{length-set, get_or-set_same, get_or-set_other, get_or-replicate, length-replicate}
use Rattle.sched_base.specs.KeyedList.{KeyedItem, KeyedList, KeyedRoots, inserted, with_entry, inserted_into, root_at, blank}
use Rattle.eb_arena.specs.declared.links.Side.TheVariants as sides
use Rattle.eb_arena.specs.declared.links.Target.{Target}
use Rattle.eb_arena.specs.declared.links.Target.TheVariants as targets
use Rattle.eb_arena.specs.declared.links.Place.TheVariants as places
use Rattle.eb_arena.specs.declared.element.Element.{Element}
use Rattle.eb_arena.specs.Parts.{Parts, element_at, link_at, with_element, unused}
use Rattle.eb_arena.specs.Shape.{Tree, tip, fork, items_of, Hangs, Split, IsRoot, Shape, root_place, list_of}
use Rattle.eb_arena.specs.Laws.{SameNode, SameOn}
use Rattle.eb_arena.proofs.Frame.{kept, at_set, at_other}
use Rattle.eb_arena.proofs.Reading.{list_of_is}
use Rattle.eb_arena.proofs.Ways.{part_split}
use Rattle.eb_arena.proofs.Unique.{determined, same_option}
use Rattle.eb_arena.specs.Way.{Step, plug}
use Rattle.eb32_walk.specs.Search.{own_key}
use Rattle.eb_dups.specs.Spine.{IsWhole, spine_value, spine_length, first_key, spine_of}
use Rattle.eb_dups.specs.Grown.{with_tree}
use Rattle.eb_dups.proofs.Distinct.{Fresh, fresh}
use Rattle.eb_dups.proofs.Regrown.{tree_at, tree_other}
use Rattle.eb32_core.specs.Planted.{SpinesIn, IsRoomy, Planted, Plants, GrowsIn, Rises, WayDown, Visits}
use Rattle.eb32_core.specs.Forest.{Grove, IsTended, InTrees, Gains, IsBrief, AreShort, lists_from, seen_of}
use Rattle.eb32_core.proofs.Values.{rises_bound, spine_short, own_value, value_in_whole, way_short}
use Rattle.eb32_core.proofs.Plants.{fits_whole}

-- the arena with another key at an entry
abbrev pub keyed : Parts → ℕ → ℕ → Parts
keyed a e key = with_element a e (record (element_at a e) { key = key })

key_node : (a : Parts) (e key x : ℕ) → e < length a.elements → SameNode a (keyed a e key) x
key_node a e key x f =
    let d : Element = record (element_at a e) { key = key } in
    elim (cases_eq x e) [
      | inl h ↦ let r : element_at (keyed a e key) x ≡ d = ap (element_at (keyed a e key)) h ∙ at_set a e d f in
          record { node_p = ap (λ m. m.node_p) r ∙ ap (λ m. (element_at a m).node_p) (sym h); bit = ap (λ m. m.bit) r ∙ ap (λ m. (element_at a m).bit) (sym h); left = ap (λ m. m.left) r ∙ ap (λ m. (element_at a m).left) (sym h); right = ap (λ m. m.right) r ∙ ap (λ m. (element_at a m).right) (sym h) }
      | inr n ↦ let r : element_at (keyed a e key) x ≡ element_at a x = at_other a e x d n in
          record { node_p = ap (λ m. m.node_p) r; bit = ap (λ m. m.bit) r; left = ap (λ m. m.left) r; right = ap (λ m. m.right) r }
    ]

key_on : (a : Parts) (e key : ℕ) (t : Tree) → e < length a.elements → Fresh e t → SameOn a (keyed a e key) t
key_on a e key (tip x k) f h =
    let r : element_at (keyed a e key) x ≡ element_at a x = at_other a e x (record (element_at a e) { key = key }) (λ y. h.leaf (sym y)) in
    record { leaf_p = ap (λ m. m.leaf_p) r; key = ap (λ m. m.key) r }
key_on a e key (fork i b l r) f h = (
  key_node a e key i f,
  key_on a e key l f (record { leaf = λ y. h.leaf (inl y); node = λ y. h.node (inr (inl y)) }),
  key_on a e key r f (record { leaf = λ y. h.leaf (inr y); node = λ y. h.node (inr (inr y)) }),
)

pub key_leaf : (a : Parts) (e key x : ℕ) → e < length a.elements → (element_at (keyed a e key) x).leaf_p ≡ (element_at a x).leaf_p
key_leaf a e key x f =
    let d : Element = record (element_at a e) { key = key } in
    elim (cases_eq x e) [
      | inl h ↦ ap (λ m. m.leaf_p) (ap (element_at (keyed a e key)) h ∙ at_set a e d f) ∙ ap (λ m. (element_at a m).leaf_p) (sym h)
      | inr n ↦ ap (λ m. m.leaf_p) (at_other a e x d n)
    ]

key_root : (a : Parts) (e key q : ℕ) (o : Option Tree) → e < length a.elements → (element_at a e).leaf_p ≡ places.Nowhere → IsRoot a q o → IsRoot (keyed a e key) q o
key_root a e key q None f n h = h
key_root a e key q (Some t) f n h =
    let c : length (keyed a e key).elements ≡ length a.elements = length-set a.elements e (record (element_at a e) { key = key }) in
    let p : root_place a q ≡ root_place (keyed a e key) q = ap (λ y. places.Under (y + q) sides.Left) (sym c) in
    (subst (λ y. Hangs (keyed a e key) (link_at a q) y t) p (kept a (keyed a e key) _ _ t c (key_on a e key t f (fresh a q e t _ _ [] h.0 refl h.1 n)) h.0), h.1)

-- a key that is written at an entry in no tree changes no tree
pub key_shape : (a : Parts) (ts : ℕ → Option Tree) (e key : ℕ) → Shape a ts → e < length a.elements → (element_at a e).leaf_p ≡ places.Nowhere → Shape (keyed a e key) ts
key_shape a ts e key h f n =
    let c : length (keyed a e key).elements ≡ length a.elements = length-set a.elements e (record (element_at a e) { key = key }) in
    record {
      fits = let x : length a.links + length a.elements < 2147483647 = h.fits in omega (arith, x, c);
      roots = λ q g. key_root a e key q (ts q) f n (h.roots q g);
      leaves = λ i g m. h.leaves i (subst (λ y. i < y) c g) (λ y. m (key_leaf a e key i f ∙ y));
      nodes = λ i g m. h.nodes i (subst (λ y. i < y) c g) (λ y. m ((key_node a e key i f).node_p ∙ y));
    }

pub lists-length : (a : Parts) (q : ℕ) (ms : List ℕ) → length (lists_from a q ms) ≡ length ms
lists-length a q [] = refl
lists-length a q (m ∷ ms) = ap suc (lists-length a (suc q) ms)

pub lists-get : (a : Parts) (q : ℕ) (ms : List ℕ) (i : ℕ) → i < length ms → get_or (lists_from a q ms) i blank ≡ record { items = list_of a (q + i); insertions = get_or ms i 0 }
lists-get a q [] i h = absurd (omega arith)
lists-get a q (m ∷ ms) zero h = let e : q ≡ q + 0 = omega arith in ap (λ n. let l : KeyedList = record { items = list_of a n; insertions = m } in l) e
lists-get a q (m ∷ ms) (suc i) h =
    let e : suc q + i ≡ q + suc i = omega arith in
    lists-get a (suc q) ms i (omega arith) ∙ ap (λ n. let l : KeyedList = record { items = list_of a n; insertions = get_or ms i 0 } in l) e

lists-same : (a z : Parts) (q : ℕ) (ms : List ℕ) → ((i : ℕ) → i < length ms → list_of z (q + i) ≡ list_of a (q + i)) → lists_from z q ms ≡ lists_from a q ms
lists-same a z q [] h = refl
lists-same a z q (m ∷ ms) h =
    let e : q + 0 ≡ q = omega arith in
    let f : list_of z q ≡ list_of a q = subst (λ n. list_of z n ≡ list_of a n) e (h 0 (omega arith)) in
    ap (λ l. let x : KeyedList = record { items = l; insertions = m } in x ∷ lists_from z (suc q) ms) f ∙ ap (λ l. let x : KeyedList = record { items = list_of a q; insertions = m } in x ∷ l) (lists-same a z (suc q) ms (λ i g. let s : q + suc i ≡ suc q + i = omega arith in subst (λ n. list_of z n ≡ list_of a n) s (h (suc i) (omega arith))))

pub lists-set : (a z : Parts) (q : ℕ) (ms : List ℕ) (r m : ℕ) (l : List KeyedItem) → r < length ms → list_of z (q + r) ≡ l → ((i : ℕ) → i < length ms → (i ≡ r → ⊥) → list_of z (q + i) ≡ list_of a (q + i)) → lists_from z q (set ms r m) ≡ set (lists_from a q ms) r (record { items = l; insertions = m })
lists-set a z q [] r m l f e h = absurd (omega arith)
lists-set a z q (x ∷ ms) zero m l f e h =
    let s : q + 0 ≡ q = omega arith in
    let g : list_of z q ≡ l = ap (list_of z) (sym s) ∙ e in
    ap (λ y. let k : KeyedList = record { items = y; insertions = m } in k ∷ lists_from z (suc q) ms) g ∙ ap (λ y. let k : KeyedList = record { items = l; insertions = m } in k ∷ y) (lists-same a z (suc q) ms (λ i d. let t : q + suc i ≡ suc q + i = omega arith in subst (λ n. list_of z n ≡ list_of a n) t (h (suc i) (omega arith) (λ y. omega arith))))
lists-set a z q (x ∷ ms) (suc r) m l f e h =
    let s : q + 0 ≡ q = omega arith in
    let g : list_of z q ≡ list_of a q = subst (λ n. list_of z n ≡ list_of a n) s (h 0 (omega arith) (λ y. omega arith)) in
    let t : q + suc r ≡ suc q + r = omega arith in
    ap (λ y. let k : KeyedList = record { items = y; insertions = x } in k ∷ lists_from z (suc q) (set ms r m)) g ∙ ap (λ y. let k : KeyedList = record { items = list_of a q; insertions = x } in k ∷ y) (lists-set a z (suc q) ms r m l (omega arith) (ap (list_of z) (sym t) ∙ e) (λ i d n. let u : q + suc i ≡ suc q + i = omega arith in subst (λ n. list_of z n ≡ list_of a n) u (h (suc i) (omega arith) (λ y. n (omega arith)))))

-- what the forest is after an insertion
pub record Inserted (f g : Grove) (root entry key : ℕ) : Type 0 where
  pub tended : IsTended g
  pub seen : seen_of g ≡ inserted_into root entry key (seen_of f)

pub roomy : (f : Grove) (root entry key : ℕ) → IsTended f → root < length f.parts.links → entry < length f.parts.elements → (element_at f.parts entry).leaf_p ≡ places.Nowhere → slice_index f.made root + 1 < 2 ^ 63 → IsRoomy (keyed f.parts entry key) root
roomy f root entry key t r e n room =
    record { trees = t.trees; shape = key_shape f.parts t.trees entry key t.shape e n; most = slice_index f.made root; spines = t.spines root r; room = let x : slice_index f.made root + 1 < 2 ^ 63 = room in omega (arith, x) }

pub inserted_grove : (f : Grove) (z : Parts) (root entry key : ℕ) → IsTended f → root < length f.parts.links → entry < length f.parts.elements → (element_at f.parts entry).leaf_p ≡ places.Nowhere → Plants (keyed f.parts entry key) z root entry → Inserted f (record { parts = z; made = set f.made root (slice_index f.made root + 1) }) root entry key
unfolding seen_of
inserted_grove f z root entry key t r e n pl =
    let a : Parts = f.parts in
    let k : Parts = keyed a entry key in
    let m : ℕ = slice_index f.made root in
    let sh : Shape k t.trees = key_shape a t.trees entry key t.shape e n in
    let p : Planted k z t.trees root entry (element_at k entry).key = pl t.trees sh in
    let is : (element_at k entry).key ≡ key = ap (λ x. x.key) (at_set a entry (record (element_at a entry) { key = key }) e) in
    let us : ℕ → Option Tree = with_tree t.trees root (Some p.after) in
    let ce : length z.elements ≡ length a.elements = p.elements ∙ length-set a.elements entry (record (element_at a entry) { key = key }) in
    let cl : length z.links ≡ length a.links = p.roots in
    let rm : root < length f.made = subst (λ y. root < y) (sym t.counts) r in
    let old : (q : ℕ) → q < length a.links → list_of a q ≡ items_of (t.trees q) = λ q g. list_of_is a q (t.trees q) (t.shape.roots q g) in
    let new : (q : ℕ) → q < length a.links → list_of z q ≡ items_of (us q) = λ q g. list_of_is z q (us q) (p.shape.roots q (subst (λ y. q < y) (sym cl) g)) in
    let item : KeyedItem = record { key = key; entry = entry } in
    let here : list_of z root ≡ inserted (λ y. nat_le y.key key) item (list_of a root) = new root r ∙ (ap items_of (tree_at t.trees root (Some p.after)) ∙ (p.items_are ∙ (ap (λ x. let i : KeyedItem = record { key = x; entry = entry } in inserted (λ y. nat_le y.key x) i (items_of (t.trees root))) is ∙ ap (inserted (λ y. nat_le y.key key) item) (sym (old root r))))) in
    let others : (q : ℕ) → q < length f.made → (q ≡ root → ⊥) → list_of z q ≡ list_of a q = λ q g d. let h : q < length a.links = subst (λ y. q < y) t.counts g in new q h ∙ (ap items_of (tree_other t.trees root q (Some p.after) d) ∙ sym (old q h)) in
    let at : root_at root (seen_of f) ≡ record { items = list_of a root; insertions = m } = lists-get a 0 f.made root rm ∙ (let s : 0 + root ≡ root = omega arith in ap (λ y. let l : KeyedList = record { items = list_of a y; insertions = m } in l) s) in
    let zero_add : (q : ℕ) → 0 + q ≡ q = λ q. omega arith in
    let lists : lists_from z 0 (set f.made root (m + 1)) ≡ set (lists_from a 0 f.made) root (record { items = inserted (λ y. nat_le y.key key) item (list_of a root); insertions = m + 1 }) = lists-set a z 0 f.made root (m + 1) _ rm (ap (list_of z) (zero_add root) ∙ here) (λ i g d. subst (λ y. list_of z y ≡ list_of a y) (sym (zero_add i)) (others i g d)) in
    record {
      tended = record {
        counts = length-set f.made root (m + 1) ∙ (t.counts ∙ sym cl);
        trees = us;
        shape = p.shape;
        spines = λ q g.
            let h : q < length a.links = subst (λ y. q < y) cl g in
            elim (cases_eq q root) [
              | inl w ↦
                  let v : get_or (set f.made root (m + 1)) q 0 ≡ m + 1 = ap (λ y. get_or (set f.made root (m + 1)) y 0) w ∙ get_or-set_same f.made root (m + 1) 0 rm in
                  subst (λ y. SpinesIn y (us q)) (sym v) (subst (SpinesIn (m + 1)) (sym (ap us w ∙ tree_at t.trees root (Some p.after))) (rises_bound m (t.trees root) (Some p.after) (element_at k entry).key p.rises (t.spines root r)))
              | inr d ↦
                  let v : get_or (set f.made root (m + 1)) q 0 ≡ get_or f.made q 0 = get_or-set_other f.made root q (m + 1) 0 d in
                  subst (λ y. SpinesIn y (us q)) (sym v) (subst (SpinesIn (get_or f.made q 0)) (sym (tree_other t.trees root q (Some p.after) d)) (t.spines q h))
            ];
      };
      seen = ap (λ l. let s : KeyedRoots = record { roots = l; entries = length z.elements } in s) (lists ∙ ap (λ x. set (lists_from a 0 f.made) root (with_entry key entry x)) (sym at)) ∙ ap (λ c. let s : KeyedRoots = record { roots = set (lists_from a 0 f.made) root (with_entry key entry (root_at root (seen_of f))); entries = c } in s) ce;
    }

-- and its trees are those with the entry
pub gains : (f : Grove) (z : Parts) (root entry key : ℕ) → root < length f.parts.links → entry < length f.parts.elements → (element_at f.parts entry).leaf_p ≡ places.Nowhere → Plants (keyed f.parts entry key) z root entry → InTrees f.parts z (Gains (length f.parts.links) root entry key)
gains f z root entry key r e n pl old new so sn =
    let a : Parts = f.parts in
    let k : Parts = keyed a entry key in
    let p : Planted k z old root entry (element_at k entry).key = pl old (key_shape a old entry key so e n) in
    let is : (element_at k entry).key ≡ key = ap (λ x. x.key) (at_set a entry (record (element_at a entry) { key = key }) e) in
    let us : ℕ → Option Tree = with_tree old root (Some p.after) in
    let same : (q : ℕ) → q < length a.links → new q ≡ us q = λ q g. (determined z new us sn p.shape q (subst (λ y. q < y) (sym p.roots) g)).0 in
    let here : new root ≡ Some p.after = same root r ∙ tree_at old root (Some p.after) in
    record {
      after = p.after;
      after_is = here;
      grows = subst (λ x. GrowsIn (old root) entry x p.after) is p.grows;
      rises = subst (λ o. Rises (old root) o key) (sym here) (subst (Rises (old root) (Some p.after)) is p.rises);
      others = λ q g d. same q g ∙ tree_other old root q (Some p.after) d;
    }

-- the head of a key in a tree of the forest has a short spine
pub short_in : (m : ℕ) (w : List Step) (t : Tree) → IsWhole w → Split (plug w t) → SpinesIn m (Some (plug w t)) → 2 ^ spine_length t ≤ m + 1
short_in m w t h s b =
    let x : 2 ^ spine_length t ≤ spine_value t + 1 = spine_short t (part_split w t s) in
    let y : spine_value t ≤ spine_of (first_key t) t = own_value t in
    let v : spine_of (first_key t) t ≤ spine_of (first_key t) (plug w t) = value_in_whole (first_key t) w t h s in
    let u : spine_of (first_key t) (plug w t) ≤ m = b (first_key t) in
    omega (arith, x, y, v, u)

pub are_short : (f : Grove) → IsTended f → AreShort f
are_short f t trees root way tree sh r is wh =
    let same : t.trees root ≡ Some (plug way tree) = (determined f.parts t.trees trees t.shape sh root r).0 ∙ is in
    let s : Split (plug way tree) = (subst (IsRoot f.parts root) is (sh.roots root r)).1 in
    short_in (slice_index f.made root) way tree wh s (subst (SpinesIn (slice_index f.made root)) same (t.spines root r))

-- an insertion visits few elements
brief_down : (a : Parts) (ts : ℕ → Option Tree) (m root key outside inside : ℕ) → Shape a ts → root < length a.links → SpinesIn m (ts root) → WayDown a root key outside inside → (outside ≤ 33) × ((k : ℕ) × ((2 ^ k ≤ m + 1) × (inside ≤ 1 + k)))
brief_down a ts m root key outside inside sh f b d =
    let w : List Step = d.narrow.way in
    let t : Tree = d.narrow.tree in
    let is : ts root ≡ Some (plug w t) = same_option a root (ts root) (Some (plug w t)) (sh.roots root f) d.narrow.whole in
    let few : length w ≤ 32 = way_short key w t d.narrow.fits d.narrow.split in
    let short : 2 ^ spine_length t ≤ m + 1 = short_in m w t (fits_whole key w d.narrow.fits) d.narrow.split (subst (SpinesIn m) is b) in
    let le : inside ≤ 1 + spine_length t = elim (cases_eq (own_key a d.target) key) [ inl e ↦ omega (arith, d.spine e) | inr n ↦ omega (arith, d.branch n) ] in
    (omega (arith, few, d.way), (spine_length t, (short, le)))

pub brief : (a : Parts) (ts : ℕ → Option Tree) (m root key old new : ℕ) → Shape a ts → root < length a.links → SpinesIn m (ts root) → Visits a root key old new → IsBrief m old new
brief a ts m root key old new sh f b v =
    elim (is_bare (link_at a root)) [
      | inl e ↦ let x = v.empty e in
          record { outside = v.outside; inside = v.inside; k = 0; all = v.all; way = omega (arith, x.0); power = omega arith; spine = omega (arith, x.1) }
      | inr n ↦ let x = brief_down a ts m root key v.outside v.inside sh f b (v.down n) in
          record { outside = v.outside; inside = v.inside; k = x.1.0; all = v.all; way = x.0; power = x.1.1.0; spine = x.1.1.1 }
    ]
  where
    is_bare : (t : Target) → (t ≡ targets.Nothing) ⊎ (t ≡ targets.Nothing → ⊥)
    is_bare targets.Nothing = inl refl
    is_bare (targets.Leaf i) = inr (λ h. let z : targets.Leaf i ≡ targets.Nothing = h in cc)
    is_bare (targets.Node i) = inr (λ h. let z : targets.Node i ≡ targets.Nothing = h in cc)

-- a forest of empty roots is tended
empty_element : (n i : ℕ) → i < n → get_or (replicate n unused) i unused ≡ unused
empty_element n i h = get_or-replicate n i unused unused h

pub empty_tended : (roots entries : ℕ) → roots + entries < 2147483647 → IsTended (record { parts = record { elements = replicate entries unused; links = replicate roots targets.Nothing }; made = replicate roots 0 })
empty_tended roots entries h =
    let a : Parts = record { elements = replicate entries unused; links = replicate roots targets.Nothing } in
    let le : length (replicate entries unused) ≡ entries = length-replicate entries unused in
    let ll : length (replicate roots targets.Nothing) ≡ roots = length-replicate roots targets.Nothing in
    record {
      counts = length-replicate roots 0 ∙ sym ll;
      trees = λ q. None;
      shape = record {
        fits = omega (arith, le, ll);
        roots = λ q g. get_or-replicate roots q targets.Nothing targets.Nothing (subst (λ y. q < y) ll g);
        leaves = λ i g m. absurd (m (ap (λ x. x.leaf_p) (empty_element entries i (subst (λ y. i < y) le g))));
        nodes = λ i g m. absurd (m (ap (λ x. x.node_p) (empty_element entries i (subst (λ y. i < y) le g))));
      };
      spines = λ q g key. omega arith;
    }

lists-none : (a : Parts) (q n : ℕ) → ((i : ℕ) → i < n → list_of a (q + i) ≡ []) → lists_from a q (replicate n 0) ≡ replicate n blank
lists-none a q zero h = refl
lists-none a q (suc n) h =
    let e : q + 0 ≡ q = omega arith in
    let f : list_of a q ≡ [] = ap (list_of a) (sym e) ∙ h 0 (omega arith) in
    let up : lists_from a (suc q) (replicate n 0) ≡ replicate n blank = lists-none a (suc q) n (λ i g. let s : suc q + i ≡ q + suc i = omega arith in ap (list_of a) s ∙ h (suc i) (omega arith)) in
    ap (λ l. let x : KeyedList = record { items = l; insertions = 0 } in x ∷ lists_from a (suc q) (replicate n 0)) f ∙ ap (λ l. blank ∷ l) up

-- and stands for empty lists
pub empty_seen : (roots entries : ℕ) → seen_of (record { parts = record { elements = replicate entries unused; links = replicate roots targets.Nothing }; made = replicate roots 0 }) ≡ record { roots = replicate roots blank; entries = entries }
unfolding seen_of
empty_seen roots entries =
    let a : Parts = record { elements = replicate entries unused; links = replicate roots targets.Nothing } in
    let none : (i : ℕ) → i < roots → list_of a (0 + i) ≡ [] = λ i g. let e : 0 + i ≡ i = omega arith in ap (list_of a) e ∙ list_of_is a i None (get_or-replicate roots i targets.Nothing targets.Nothing g) in
    ap (λ l. let s : KeyedRoots = record { roots = l; entries = length (replicate entries unused) } in s) (lists-none a 0 roots none) ∙ ap (λ n. let s : KeyedRoots = record { roots = replicate roots blank; entries = n } in s) (length-replicate entries unused)
