-- The climb from an entry to the head of its key.
use Rattle.std.proofs.Common.{◌≡◌, ◌≢◌, ℕ, ◌+◌, ◌*◌, ◌/◌, ◌^◌, ◌<◌, ◌≤◌, ◌⊎◌, inl, inr, List, [], ◌∷◌, ◌++◌, length, Bool, true, false, not, filter, refl, sym, ap, ◌∙◌, subst, arith, append_assoc, ne_eqb, eq-eqb}
use Rattle.std.specs.Prelude.{pos, negsuc, Option, ◌==◌}
use Rattle.std.proofs.lemmas.List.{append-nil}
use Rattle.std.proofs.lemmas.List.Elements.{filter-append}
use Rattle.std.proofs.lemmas.Nat.{pow_pos}
use Rattle.sched_base.specs.KeyedList.{KeyedItem, first_entry}
use Rattle.eb_arena.specs.declared.links.Place.{Place}
use Rattle.eb_arena.specs.Links.{place_index}
use Rattle.eb_arena.specs.Parts.{Parts, element_at, is_negative}
use Rattle.eb_arena.specs.Shape.{Tree, tip, fork, items, Keys, Split, DividesAt, Equals, HasShape}
use Rattle.eb_arena.specs.Way.{Step, from_left, from_right, plug, before, after, Leads}
use Rattle.eb_arena.proofs.Trees.{Has, keys_at, keys_map, lt_by_div}
use Rattle.eb_arena.proofs.Ways.{part_split}
use Rattle.eb32_walk.specs.Ends.{IsPlace, AtEntry, AtPlace, last_entry}
use Rattle.eb_arena.specs.Shape.{AllKeys}
use Rattle.eb32_walk.specs.Heads.{IsHead}
use Rattle.eb32_walk.proofs.Entries.{EntryWay, entry_way}
use Rattle.eb_arena.proofs.Keyed.{all-append, all_items, all_map, filter_none, filter_all}

-- at the place hangs a tree of key k with an item, what of xs is before it and what of ys after it
pub record Climbed (a : Parts) (place : Place) (xs : List KeyedItem) (k : ℕ) (ys : List KeyedItem) : Type 0 where
  pub root : ℕ
  pub way : List Step
  pub tree : Tree
  pub leads : Leads a root place way
  pub split : Split (plug way tree)
  pub has : Has k tree
  pub left : List KeyedItem
  pub right : List KeyedItem
  pub xs_is : xs ≡ before way ++ left
  pub ys_is : ys ≡ right ++ after way
  pub left_same : AllKeys (λ x. x ≡ k) left
  pub right_same : AllKeys (λ x. x ≡ k) right

-- the climb begins at the entry
pub climb_start : (a : Parts) (e : ℕ) (place : Place) → HasShape a → place ≡ (element_at a e).leaf_p → AtEntry a e (λ xs k ys. Climbed a place xs k ys)
climb_start a e place h p q k xs ys f is =
    let w : EntryWay a q e k xs ys = entry_way a q e k xs ys h f is in
    record {
      root = q;
      way = w.way;
      tree = tip e k;
      leads = subst (λ o. Leads a q o w.way) (sym p) w.leads;
      split = w.split;
      has = refl;
      left = [];
      right = [];
      xs_is = sym w.before_is ∙ sym (append-nil (before w.way));
      ys_is = sym w.after_is;
      left_same = tt;
      right_same = tt;
    }

same_keys : (n : ℕ) (l r : Tree) (k : ℕ) → Equals n l r → Has k l ⊎ Has k r → Keys (λ x. x ≡ k) l × Keys (λ x. x ≡ k) r
same_keys n l r k e h =
    let x : k ≡ e.k = elim h [ inl g ↦ keys_at (λ x. x ≡ e.k) l k e.left g | inr g ↦ keys_at (λ x. x ≡ e.k) r k e.right g ] in
    (keys_map (λ x. x ≡ e.k) (λ x. x ≡ k) l (λ y z. z ∙ sym x) e.left, keys_map (λ x. x ≡ e.k) (λ x. x ≡ k) r (λ y z. z ∙ sym x) e.right)

up_by_way : (a : Parts) (q : ℕ) (place next : Place) (xs : List KeyedItem) (k : ℕ) (ys : List KeyedItem) (w : List Step) (t : Tree) (us vs : List KeyedItem) → Leads a q place w → Split (plug w t) → Has k t → xs ≡ before w ++ us → ys ≡ vs ++ after w → AllKeys (λ x. x ≡ k) us → AllKeys (λ x. x ≡ k) vs → place_index place < length a.elements → is_negative (element_at a (place_index place)).bit ≡ true → next ≡ (element_at a (place_index place)).node_p → Climbed a next xs k ys
up_by_way a q place next xs k ys [] t us vs h p g x y u v f n is = let z : place_index place ≡ length a.elements + q = ap place_index h in absurd (omega arith)
up_by_way a q place next xs k ys (from_left i (pos b) r ∷ w) t us vs h p g x y u v f n is =
    let j : place_index place ≡ i = ap place_index h.0 in
    let z : false ≡ true = sym (ap is_negative (ap (λ m. (element_at a m).bit) j ∙ h.2)) ∙ n in
    cc
up_by_way a q place next xs k ys (from_left i (negsuc b) r ∷ w) t us vs h p g x y u v f n is =
    let j : place_index place ≡ i = ap place_index h.0 in
    let s : Split (fork i (negsuc b) t r) = part_split w (fork i (negsuc b) t r) p in
    let m : Keys (λ x. x ≡ k) t × Keys (λ x. x ≡ k) r = same_keys b t r k s.2 (inl g) in
    record {
      root = q;
      way = w;
      tree = fork i (negsuc b) t r;
      leads = subst (λ o. Leads a q o w) (sym (is ∙ ap (λ m. (element_at a m).node_p) j)) h.4;
      split = p;
      has = inl g;
      left = us;
      right = vs ++ items r;
      xs_is = x;
      ys_is = y ∙ sym (append_assoc vs (items r) (after w));
      left_same = u;
      right_same = all-append (λ x. x ≡ k) vs (items r) v (all_items (λ x. x ≡ k) r m.1);
    }
up_by_way a q place next xs k ys (from_right i (pos b) l ∷ w) t us vs h p g x y u v f n is =
    let j : place_index place ≡ i = ap place_index h.0 in
    let z : false ≡ true = sym (ap is_negative (ap (λ m. (element_at a m).bit) j ∙ h.2)) ∙ n in
    cc
up_by_way a q place next xs k ys (from_right i (negsuc b) l ∷ w) t us vs h p g x y u v f n is =
    let j : place_index place ≡ i = ap place_index h.0 in
    let s : Split (fork i (negsuc b) l t) = part_split w (fork i (negsuc b) l t) p in
    let m : Keys (λ x. x ≡ k) l × Keys (λ x. x ≡ k) t = same_keys b l t k s.2 (inr g) in
    record {
      root = q;
      way = w;
      tree = fork i (negsuc b) l t;
      leads = subst (λ o. Leads a q o w) (sym (is ∙ ap (λ m. (element_at a m).node_p) j)) h.4;
      split = p;
      has = inr g;
      left = items l ++ us;
      right = vs;
      xs_is = x ∙ append_assoc (before w) (items l) us;
      ys_is = y;
      left_same = all-append (λ x. x ≡ k) (items l) us (all_items (λ x. x ≡ k) l m.0) u;
      right_same = v;
    }

-- the climb goes on over a node of equal keys
pub climb_up : (a : Parts) (e : ℕ) (place next : Place) → AtEntry a e (λ xs k ys. Climbed a place xs k ys) → place_index place < length a.elements → is_negative (element_at a (place_index place)).bit ≡ true → next ≡ (element_at a (place_index place)).node_p → AtEntry a e (λ xs k ys. Climbed a next xs k ys)
climb_up a e place next h f n is q k xs ys g o =
    let c : Climbed a place xs k ys = h q k xs ys g o in
    up_by_way a c.root place next xs k ys c.way c.tree c.left c.right c.leads c.split c.has c.xs_is c.ys_is c.left_same c.right_same f n is

-- the lowest node of a way branches at a bit of the keys
abbrev pub IsHigh : List Step → Type 0
IsHigh [] = Unit {0}
IsHigh (from_left i (pos b) r ∷ w) = Unit {0}
IsHigh (from_left i (negsuc n) r ∷ w) = ⊥
IsHigh (from_right i (pos b) l ∷ w) = Unit {0}
IsHigh (from_right i (negsuc n) l ∷ w) = ⊥

-- above a node that branches at a bit are only such nodes
high_up : (w : List Step) (i b : ℕ) (l r : Tree) → Split (plug w (fork i (pos b) l r)) → IsHigh w
high_up [] i b l r s = tt
high_up (from_left j (pos c) v ∷ w) i b l r s = tt
high_up (from_left j (negsuc c) v ∷ w) i b l r s = (part_split w (fork j (negsuc c) (fork i (pos b) l r) v) s).2.left_below
high_up (from_right j (pos c) v ∷ w) i b l r s = tt
high_up (from_right j (negsuc c) v ∷ w) i b l r s = (part_split w (fork j (negsuc c) v (fork i (pos b) l r)) s).2.right_below

pub greater : (b q k x : ℕ) → k / 2 ^ b ≡ 2 * q → x / 2 ^ b ≡ 2 * q + 1 → k < x
greater b q k x e f = lt_by_div k x (2 ^ b) (pow_pos b) (omega arith)

-- from a node that branches at a bit on, all that is before a key is smaller, and all that is after it is greater
pub apart : (w : List Step) (t : Tree) (k : ℕ) → IsHigh w → Split (plug w t) → Has k t → AllKeys (λ x. x < k) (before w) × AllKeys (λ x. k < x) (after w)
apart [] t k h s g = (tt, tt)
apart (from_left i (negsuc b) r ∷ w) t k h s g = absurd h
apart (from_right i (negsuc b) l ∷ w) t k h s g = absurd h
apart (from_left i (pos b) r ∷ w) t k h s g =
    let d : DividesAt b t r = (part_split w (fork i (pos b) t r) s).2 in
    let up : AllKeys (λ x. x < k) (before w) × AllKeys (λ x. k < x) (after w) = apart w (fork i (pos b) t r) k (high_up w i b t r s) s (inl g) in
    let e : k / 2 ^ b ≡ 2 * d.q = keys_at (λ x. x / 2 ^ b ≡ 2 * d.q) t k d.left g in
    let m : Keys (λ x. k < x) r = keys_map (λ x. x / 2 ^ b ≡ 2 * d.q + 1) (λ x. k < x) r (λ x f. greater b d.q k x e f) d.right in
    (up.0, all-append (λ x. k < x) (items r) (after w) (all_items (λ x. k < x) r m) up.1)
apart (from_right i (pos b) l ∷ w) t k h s g =
    let d : DividesAt b l t = (part_split w (fork i (pos b) l t) s).2 in
    let up : AllKeys (λ x. x < k) (before w) × AllKeys (λ x. k < x) (after w) = apart w (fork i (pos b) l t) k (high_up w i b l t s) s (inr g) in
    let e : k / 2 ^ b ≡ 2 * d.q + 1 = keys_at (λ x. x / 2 ^ b ≡ 2 * d.q + 1) t k d.right g in
    let m : Keys (λ x. x < k) l = keys_map (λ x. x / 2 ^ b ≡ 2 * d.q) (λ x. x < k) l (λ x f. greater b d.q x k f e) d.left in
    (all-append (λ x. x < k) (before w) (items l) up.0 (all_items (λ x. x < k) l m), up.1)

head_from : (a : Parts) (place : Place) (xs : List KeyedItem) (k : ℕ) (ys : List KeyedItem) (c : Climbed a place xs k ys) → IsHigh c.way → IsHead a place xs k ys
head_from a place xs k ys c h =
    let x : AllKeys (λ x. x < k) (before c.way) × AllKeys (λ x. k < x) (after c.way) = apart c.way c.tree k h c.split c.has in
    record { root = c.root; way = c.way; tree = c.tree; leads = c.leads; split = c.split; left = c.left; right = c.right; xs_is = c.xs_is; ys_is = c.ys_is; left_same = c.left_same; right_same = c.right_same; low = x.0; high = x.1 }

high_at_root : (a : Parts) (q : ℕ) (place : Place) (w : List Step) → Leads a q place w → length a.elements ≤ place_index place → IsHigh w
high_at_root a q place [] h f = tt
high_at_root a q place (from_left i b r ∷ w) h f = let x : place_index place ≡ i = ap place_index h.0 in let y : i < length a.elements = h.1 in absurd (omega arith)
high_at_root a q place (from_right i b r ∷ w) h f = let x : place_index place ≡ i = ap place_index h.0 in let y : i < length a.elements = h.1 in absurd (omega arith)

high_at_bit : (a : Parts) (q : ℕ) (place : Place) (w : List Step) → Leads a q place w → is_negative (element_at a (place_index place)).bit ≡ false → IsHigh w
high_at_bit a q place [] h f = tt
high_at_bit a q place (from_left i (pos b) r ∷ w) h f = tt
high_at_bit a q place (from_right i (pos b) r ∷ w) h f = tt
high_at_bit a q place (from_left i (negsuc n) r ∷ w) h f =
    let j : place_index place ≡ i = ap place_index h.0 in
    let z : true ≡ false = sym (ap is_negative (ap (λ m. (element_at a m).bit) j ∙ h.2)) ∙ f in
    cc
high_at_bit a q place (from_right i (negsuc n) r ∷ w) h f =
    let j : place_index place ≡ i = ap place_index h.0 in
    let z : true ≡ false = sym (ap is_negative (ap (λ m. (element_at a m).bit) j ∙ h.2)) ∙ f in
    cc

pub head_at_root : (a : Parts) (e : ℕ) (place : Place) → AtEntry a e (λ xs k ys. Climbed a place xs k ys) → length a.elements ≤ place_index place → AtEntry a e (λ xs k ys. IsHead a place xs k ys)
head_at_root a e place h f q k xs ys g o =
    let c : Climbed a place xs k ys = h q k xs ys g o in
    head_from a place xs k ys c (high_at_root a c.root place c.way c.leads f)

pub head_at_bit : (a : Parts) (e : ℕ) (place : Place) → AtEntry a e (λ xs k ys. Climbed a place xs k ys) → is_negative (element_at a (place_index place)).bit ≡ false → AtEntry a e (λ xs k ys. IsHead a place xs k ys)
head_at_bit a e place h f q k xs ys g o =
    let c : Climbed a place xs k ys = h q k xs ys g o in
    head_from a place xs k ys c (high_at_bit a c.root place c.way c.leads f)

-- what is next to the head has another key, and is the next with another key
pub after_head : (a : Parts) (e : ℕ) (place : Place) (r : Option ℕ) → AtEntry a e (λ xs k ys. IsHead a place xs k ys) → AtPlace a place (λ w. r ≡ first_entry (after w)) → AtEntry a e (λ xs k ys. r ≡ first_entry (filter (λ y. not (y.key == k)) ys))
after_head a e place r h p q k xs ys g o =
    let c : IsHead a place xs k ys = h q k xs ys g o in
    let test : ℕ → Bool = λ x. not (x == k) in
    let x : filter (λ y. test y.key) c.right ≡ [] = filter_none test c.right (all_map (λ x. x ≡ k) (λ x. test x ≡ false) c.right (λ z f. ap not (eq-eqb z k f)) c.right_same) in
    let y : filter (λ y. test y.key) (after c.way) ≡ after c.way = filter_all test (after c.way) (all_map (λ x. k < x) (λ x. test x ≡ true) (after c.way) (λ z f. let n : z ≢ k = omega arith in ap not (ne_eqb z k n)) c.high) in
    let z : filter (λ y. test y.key) ys ≡ after c.way = ap (filter (λ y. test y.key)) c.ys_is ∙ (filter-append (λ y. test y.key) c.right (after c.way) ∙ (ap (λ l. l ++ filter (λ y. test y.key) (after c.way)) x ∙ y)) in
    p c.root c.way c.tree c.leads c.split ∙ sym (ap first_entry z)

pub before_head : (a : Parts) (e : ℕ) (place : Place) (r : Option ℕ) → AtEntry a e (λ xs k ys. IsHead a place xs k ys) → AtPlace a place (λ w. r ≡ last_entry (before w)) → AtEntry a e (λ xs k ys. r ≡ last_entry (filter (λ x. not (x.key == k)) xs))
before_head a e place r h p q k xs ys g o =
    let c : IsHead a place xs k ys = h q k xs ys g o in
    let test : ℕ → Bool = λ x. not (x == k) in
    let x : filter (λ y. test y.key) c.left ≡ [] = filter_none test c.left (all_map (λ x. x ≡ k) (λ x. test x ≡ false) c.left (λ z f. ap not (eq-eqb z k f)) c.left_same) in
    let y : filter (λ y. test y.key) (before c.way) ≡ before c.way = filter_all test (before c.way) (all_map (λ x. x < k) (λ x. test x ≡ true) (before c.way) (λ z f. let n : z ≢ k = omega arith in ap not (ne_eqb z k n)) c.low) in
    let z : filter (λ y. test y.key) xs ≡ before c.way = ap (filter (λ y. test y.key)) c.xs_is ∙ (filter-append (λ y. test y.key) (before c.way) c.left ∙ (ap (λ l. filter (λ y. test y.key) (before c.way) ++ l) x ∙ (append-nil (filter (λ y. test y.key) (before c.way)) ∙ y))) in
    p c.root c.way c.tree c.leads c.split ∙ sym (ap last_entry z)

place_up_by : (a : Parts) (q : ℕ) (place next : Place) (w : List Step) (t : Tree) → Leads a q place w → Split (plug w t) → place_index place < length a.elements → next ≡ (element_at a (place_index place)).node_p → IsPlace a next
place_up_by a q place next [] t h p f n = let z : place_index place ≡ length a.elements + q = ap place_index h in absurd (omega arith)
place_up_by a q place next (from_left i b r ∷ w) t h p f n =
    record { root = q; way = w; tree = fork i b t r; leads = subst (λ o. Leads a q o w) (sym (n ∙ ap (λ m. (element_at a m).node_p) (ap place_index h.0))) h.4; split = p }
place_up_by a q place next (from_right i b l ∷ w) t h p f n =
    record { root = q; way = w; tree = fork i b l t; leads = subst (λ o. Leads a q o w) (sym (n ∙ ap (λ m. (element_at a m).node_p) (ap place_index h.0))) h.4; split = p }

-- a climb goes over places
pub place_up : (a : Parts) (place next : Place) → IsPlace a place → place_index place < length a.elements → next ≡ (element_at a (place_index place)).node_p → IsPlace a next
place_up a place next h f n = place_up_by a h.root place next h.way h.tree h.leads h.split f n
