-- The tree of a root with one more entry.
use Rattle.std.proofs.Common.{◌≡◌, ◌≢◌, ℕ, ◌+◌, ◌-◌, ◌*◌, ◌/◌, ◌^◌, ◌<◌, ◌≤◌, inl, inr, List, [], ◌∷◌, ◌++◌, length, cond, false, true, refl, sym, ap, ◌∙◌, subst, arith, append_assoc}
use Rattle.std.specs.Prelude.{pos, negsuc, nat_le, Option, Some}
use Rattle.std.proofs.lemmas.Bool.{le-leb, lt-leb, cases_lt, false≢true}
use Rattle.std.proofs.lemmas.Nat.{pow_pos}
use Rattle.sched_base.specs.KeyedList.{KeyedItem, inserted}
use Rattle.eb_arena.specs.declared.links.Side.{Side}
use Rattle.eb_arena.specs.declared.links.Side.TheVariants as sides
use Rattle.eb_arena.specs.declared.links.Target.{Target}
use Rattle.eb_arena.specs.declared.links.Target.TheVariants as targets
use Rattle.eb_arena.specs.declared.links.Place.TheVariants as places
use Rattle.eb_arena.specs.Parts.{Parts, element_at, link_at, up_of}
use Rattle.eb_arena.specs.Shape.{Tree, tip, fork, items, items_of, Keys, AllKeys, HasLeaf, Split, DividesAt, Hangs, IsRoot, Shape, root_place, list_of}
use Rattle.eb_arena.specs.Way.{Step, from_left, from_right, plug, before, after}
use Rattle.eb_arena.proofs.Trees.{Has, keys_at, keys_map, some_key, div_le_div}
use Rattle.eb_arena.proofs.Keyed.{all-append, all_items, all_map}
use Rattle.eb_arena.proofs.Ways.{part_split, items-plug}
use Rattle.eb_arena.proofs.Unique.{same_option, nothing_stands}
use Rattle.eb_arena.proofs.Reading.{same_tree}
use Rattle.eb32_walk.specs.Search.{Narrow, Fits, IsBare, Reaches, own_key}
use Rattle.eb_dups.specs.Grown.{grown, attached, with_tree}
use Rattle.eb_dups.specs.Spine.{IsTwins, IsWhole, MayRise, spine_value, spine_length, spine_of, KeyHead, TwinAdded}
use Rattle.eb_dups.specs.Added.{AddsTwin, VisitsSpine}
use Rattle.eb_dups.proofs.Regrown.{Growth, Outcome, outcome, grown_shape, grown_leaf}
use Rattle.eb_dups.proofs.Added.{plug-append}
use Rattle.eb_dups.proofs.Ending.{up_of_is}
use Rattle.eb32_core.specs.Landing.{IsTopBit, IsLanding, SideIs}
use Rattle.eb32_core.specs.Planted.{SpinesIn, IsRoomy, GrowsIn, Plants, Visits, has_key, spine_in}
use Rattle.eb32_core.proofs.Values.{value_of_key, value_of_other, value_in_whole, value_up, grown_value, keys_have, middle_has, none_has}

-- an item goes in between smaller or equal keys and greater ones
pub inserted_at : (xs ys : List KeyedItem) (e k : ℕ) → AllKeys (λ x. x ≤ k) xs → AllKeys (λ x. k < x) ys → inserted (λ y. nat_le y.key k) (record { key = k; entry = e }) (xs ++ ys) ≡ xs ++ record { key = k; entry = e } ∷ ys
inserted_at [] [] e k h g = refl
inserted_at [] (y ∷ ys) e k h g =
    let item : KeyedItem = record { key = k; entry = e } in
    ap (λ b. cond b (y ∷ inserted (λ z. nat_le z.key k) item ys) (item ∷ y ∷ ys)) (lt-leb y.key k g.0)
inserted_at (x ∷ xs) ys e k h g =
    let item : KeyedItem = record { key = k; entry = e } in
    ap (λ b. cond b (x ∷ inserted (λ z. nat_le z.key k) item (xs ++ ys)) (item ∷ x ∷ (xs ++ ys))) (le-leb x.key k h.0) ∙ ap (λ l. x ∷ l) (inserted_at xs ys e k h.1 g)

pub fits_whole : (key : ℕ) (w : List Step) → Fits key w → IsWhole w
fits_whole key [] h = tt
fits_whole key (from_left i (pos b) r ∷ w) h = tt
fits_whole key (from_left i (negsuc n) r ∷ w) h = absurd h
fits_whole key (from_right i (pos b) l ∷ w) h = tt
fits_whole key (from_right i (negsuc n) l ∷ w) h = absurd h

-- what is in the tree of a root whose arena has the shape
pub tree_of : (a : Parts) (ts : ℕ → Option Tree) (q : ℕ) (t : Tree) → Shape a ts → q < length a.links → IsRoot a q (Some t) → ts q ≡ Some t
tree_of a ts q t h f r = same_option a q (ts q) (Some t) (h.roots q f) r

-- a key that branches off where it fits the way keeps the whole split
fits_split : (key : ℕ) (w : List Step) (s g : Tree) → Fits key w → Split (plug w s) → Split g → ((x : ℕ) → HasLeaf x s → HasLeaf x g) → ((P : ℕ → Type 0) → Keys P s → P key → Keys P g) → Split (plug w g)
fits_split key [] s g f p q l k = q
fits_split key (from_left i (negsuc n) r ∷ w) s g f p q l k = absurd f
fits_split key (from_right i (negsuc n) r ∷ w) s g f p q l k = absurd f
fits_split key (from_left i (pos b) r ∷ w) s g f p q l k =
    let o : Split (fork i (pos b) s r) = part_split w (fork i (pos b) s r) p in
    let d : DividesAt b s r = o.2 in
    let x : (y : ℕ) × Has y r = some_key r in
    let e : x.0 / 2 ^ b ≡ 2 * d.q + 1 = keys_at (λ y. y / 2 ^ b ≡ 2 * d.q + 1) r x.0 d.right x.1 in
    let h : x.0 / 2 ^ b ≡ 2 * f.0.0 + 1 = keys_at (λ y. y / 2 ^ b ≡ 2 * f.0.0 + 1) r x.0 f.0.1.1 x.1 in
    let kq : key / 2 ^ b ≡ 2 * f.0.0 = f.0.1.0 in
    let at : key / 2 ^ b ≡ 2 * d.q = omega (arith, e, h, kq) in
    fits_split key w (fork i (pos b) s r) (fork i (pos b) g r) f.1 p ((elim o.0 [ inl y ↦ inl (l i y) | inr y ↦ inr y ]), o.1, record { q = d.q; left = k (λ y. y / 2 ^ b ≡ 2 * d.q) d.left at; right = d.right }, q, o.4) (λ y z. elim z [ inl z ↦ inl (l y z) | inr z ↦ inr z ]) (λ P y z. (k P y.0 z, y.1))
fits_split key (from_right i (pos b) l0 ∷ w) s g f p q l k =
    let o : Split (fork i (pos b) l0 s) = part_split w (fork i (pos b) l0 s) p in
    let d : DividesAt b l0 s = o.2 in
    let x : (y : ℕ) × Has y l0 = some_key l0 in
    let e : x.0 / 2 ^ b ≡ 2 * d.q = keys_at (λ y. y / 2 ^ b ≡ 2 * d.q) l0 x.0 d.left x.1 in
    let h : x.0 / 2 ^ b ≡ 2 * f.0.0 = keys_at (λ y. y / 2 ^ b ≡ 2 * f.0.0) l0 x.0 f.0.1.1 x.1 in
    let kq : key / 2 ^ b ≡ 2 * f.0.0 + 1 = f.0.1.0 in
    let at : key / 2 ^ b ≡ 2 * d.q + 1 = omega (arith, e, h, kq) in
    fits_split key w (fork i (pos b) l0 s) (fork i (pos b) l0 g) f.1 p ((elim o.0 [ inl y ↦ inl y | inr y ↦ inr (l i y) ]), o.1, record { q = d.q; left = d.left; right = k (λ y. y / 2 ^ b ≡ 2 * d.q + 1) d.right at }, o.3, q) (λ y z. elim z [ inl z ↦ inl z | inr z ↦ inr (l y z) ]) (λ P y z. (y.0, k P y.1 z))

-- the head of the key that the descent came to
pub landed_head : (a : Parts) (ts : ℕ → Option Tree) (q key : ℕ) (part : Target) → IsLanding a q key part → Shape a ts → q < length a.links → own_key a part ≡ key → (h : KeyHead a part key) × (h.root ≡ q)
landed_head a ts q key part l h f o =
    let n : Narrow a q key part = l.narrow in
    let is : ts q ≡ Some (plug n.way n.tree) = tree_of a ts q (plug n.way n.tree) h f n.whole in
    let head : KeyHead a part key = record {
      trees = ts;
      root = q;
      way = n.way;
      place = n.place;
      tree = n.tree;
      shape = h;
      exists = f;
      tree_is = is;
      leads = n.leads;
      stands = n.stands;
      whole = fits_whole key n.way n.fits;
      twins = l.twins o;
      keys = l.same o;
    } in
    (head, refl)

-- and its spine value has room for one more
pub landed_rises : (a : Parts) (q key : ℕ) (part : Target) → IsLanding a q key part → IsRoomy a q → q < length a.links → own_key a part ≡ key → MayRise a part
landed_rises a q key part l h f o place tree st =
    let n : Narrow a q key part = l.narrow in
    let is : h.trees q ≡ Some (plug n.way n.tree) = tree_of a h.trees q (plug n.way n.tree) h.shape f n.whole in
    let same : n.tree ≡ tree = same_tree a n.tree tree part n.place place n.stands st in
    let own : spine_of key n.tree ≡ spine_value n.tree = value_of_key key n.tree (l.twins o) (l.same o) in
    let part_le : spine_of key n.tree ≤ spine_of key (plug n.way n.tree) = value_in_whole key n.way n.tree (fits_whole key n.way n.fits) n.split in
    let le : spine_of key (plug n.way n.tree) ≤ h.most = subst (SpinesIn h.most) is h.spines key in
    let room : h.most < 2 ^ 63 - 1 = h.room in
    subst (λ t. spine_value t < 2 ^ 63 - 1) same (omega (arith, own, part_le, le, room))

-- an insertion beside equal keys plants the entry
pub twin_planted : (a z : Parts) (q : ℕ) (part : Target) (e : ℕ) → IsLanding a q (element_at a e).key part → q < length a.links → own_key a part ≡ (element_at a e).key → AddsTwin a z part e → Plants a z q e
twin_planted a z q part e l f o h ts sh =
    let key : ℕ = (element_at a e).key in
    let n : Narrow a q key part = l.narrow in
    let is : ts q ≡ Some (plug n.way n.tree) = tree_of a ts q (plug n.way n.tree) sh f n.whole in
    let r : TwinAdded a z ts q n.way part n.tree key e = h ts q n.way n.place n.tree sh f is n.leads n.stands in
    let item : KeyedItem = record { key = key; entry = e } in
    let bs : List KeyedItem = before n.way in
    let zs : List KeyedItem = after n.way in
    let low : AllKeys (λ x. x ≤ key) bs = all_map (λ x. x < key) (λ x. x ≤ key) bs (λ x y. omega arith) n.low in
    let mid : AllKeys (λ x. x ≤ key) (items n.tree) = all_items (λ x. x ≤ key) n.tree (keys_map (λ x. x ≡ key) (λ x. x ≤ key) n.tree (λ x y. omega arith) (l.same o)) in
    let old : items_of (ts q) ≡ (bs ++ items n.tree) ++ zs = ap items_of is ∙ (items-plug n.way n.tree ∙ sym (append_assoc bs (items n.tree) zs)) in
    let new : items (plug n.way r.after) ≡ (bs ++ items n.tree) ++ item ∷ zs = items-plug n.way r.after ∙ (ap (λ x. bs ++ (x ++ zs)) r.items_are ∙ (ap (λ x. bs ++ x) (append_assoc (items n.tree) (item ∷ []) zs) ∙ sym (append_assoc bs (items n.tree) (item ∷ zs)))) in
    record {
      after = plug n.way r.after;
      elements = r.elements;
      roots = r.roots;
      shape = r.shape;
      items_are = new ∙ (sym (inserted_at (bs ++ items n.tree) zs e key (all-append (λ x. x ≤ key) bs (items n.tree) low mid) n.high) ∙ ap (inserted (λ y. nat_le y.key key) item) (sym old));
      grows = subst (λ o. GrowsIn o e key (plug n.way r.after)) (sym is) (record {
        way = r.grows.way ++ n.way;
        part = r.grows.part;
        side = r.grows.side;
        bit = r.grows.bit;
        was = ap (plug n.way) r.grows.was ∙ sym (plug-append r.grows.way n.way r.grows.part);
        is = ap (plug n.way) r.grows.is ∙ sym (plug-append r.grows.way n.way (grown r.grows.side e r.grows.bit key r.grows.part));
      });
      rises = record {
        same_key = λ h.
            let up : spine_of key r.after ≡ spine_of key n.tree + 1 = value_of_key key r.after r.twins r.keys ∙ (r.spine ∙ ap (λ m. m + 1) (sym (value_of_key key n.tree (l.twins o) (l.same o)))) in
            value_up key key 1 n.way n.tree r.after n.fits up ∙ ap (λ p. spine_in key p + 1) (sym is);
        new_key = λ h. absurd (false≢true (sym h ∙ (ap (has_key key) (ap items_of is ∙ items-plug n.way n.tree) ∙ middle_has key bs (items n.tree) zs (keys_have key n.tree (l.same o)))));
        other_keys = λ k ne.
            let none : spine_of k r.after ≡ spine_of k n.tree + 0 = value_of_other key k r.after r.twins r.keys ne ∙ ap (λ m. m + 0) (sym (value_of_other key k n.tree (l.twins o) (l.same o) ne)) in
            let same : spine_of k (plug n.way r.after) ≡ spine_of k (plug n.way n.tree) + 0 = value_up key k 0 n.way n.tree r.after n.fits none in
            let plain : spine_of k (plug n.way r.after) ≡ spine_of k (plug n.way n.tree) = omega (arith, same) in
            plain ∙ ap (spine_in k) (sym is);
      };
    }

-- what the new node over the part divides
left_split : (own key b e : ℕ) (t : Tree) → IsTopBit own key b → key < own → Keys (λ x. x / 2 ^ b ≡ own / 2 ^ b) t → Split t → Split (fork e (pos b) (tip e key) t)
left_split own key b e t h lt near s =
    let le : key / 2 ^ b ≤ own / 2 ^ b = div_le_div key own (2 ^ b) (pow_pos b) (omega arith) in
    let ne : own / 2 ^ b ≢ key / 2 ^ b = h.differ in
    let ab : own / 2 ^ b / 2 ≡ key / 2 ^ b / 2 = h.above in
    let q : ℕ = key / 2 ^ b / 2 in
    let k : key / 2 ^ b ≡ 2 * q = omega (arith, le, ne, ab) in
    let o : own / 2 ^ b ≡ 2 * q + 1 = omega (arith, le, ne, ab) in
    (inl refl, h.small, record { q = q; left = k; right = keys_map (λ x. x / 2 ^ b ≡ own / 2 ^ b) (λ x. x / 2 ^ b ≡ 2 * q + 1) t (λ x y. y ∙ o) near }, tt, s)

right_split : (own key b e : ℕ) (t : Tree) → IsTopBit own key b → own < key → Keys (λ x. x / 2 ^ b ≡ own / 2 ^ b) t → Split t → Split (fork e (pos b) t (tip e key))
right_split own key b e t h lt near s =
    let le : own / 2 ^ b ≤ key / 2 ^ b = div_le_div own key (2 ^ b) (pow_pos b) (omega arith) in
    let ne : own / 2 ^ b ≢ key / 2 ^ b = h.differ in
    let ab : own / 2 ^ b / 2 ≡ key / 2 ^ b / 2 = h.above in
    let q : ℕ = key / 2 ^ b / 2 in
    let k : key / 2 ^ b ≡ 2 * q + 1 = omega (arith, le, ne, ab) in
    let o : own / 2 ^ b ≡ 2 * q = omega (arith, le, ne, ab) in
    (inr refl, h.small, record { q = q; left = keys_map (λ x. x / 2 ^ b ≡ own / 2 ^ b) (λ x. x / 2 ^ b ≡ 2 * q) t (λ x y. y ∙ o) near; right = k }, s, tt)

branch_split : (own key b e : ℕ) (side : Side) (t : Tree) → IsTopBit own key b → SideIs own key side → Keys (λ x. x / 2 ^ b ≡ own / 2 ^ b) t → Split t → Split (grown side e (pos b) key t)
branch_split own key b e sides.Left t h s near p = left_split own key b e t h (s.left refl) near p
branch_split own key b e sides.Right t h s near p = right_split own key b e t h (s.right refl) near p

grown_keys : (side : Side) (e b key : ℕ) (t : Tree) (P : ℕ → Type 0) → Keys P t → P key → Keys P (grown side e (pos b) key t)
grown_keys sides.Left e b key t P h k = (k, h)
grown_keys sides.Right e b key t P h k = (h, k)

branch_items : (own key b e : ℕ) (side : Side) (t : Tree) (bs zs : List KeyedItem) → SideIs own key side → AllKeys (λ x. x < key) bs → AllKeys (λ x. key < x) zs → (own < key → Keys (λ x. x < key) t) → (key < own → Keys (λ x. key < x) t) → bs ++ (items (grown side e (pos b) key t) ++ zs) ≡ inserted (λ y. nat_le y.key key) (record { key = key; entry = e }) (bs ++ (items t ++ zs))
branch_items own key b e sides.Left t bs zs s low high less more =
    let le : AllKeys (λ x. x ≤ key) bs = all_map (λ x. x < key) (λ x. x ≤ key) bs (λ x y. omega arith) low in
    let up : AllKeys (λ x. key < x) (items t ++ zs) = all-append (λ x. key < x) (items t) zs (all_items (λ x. key < x) t (more (s.left refl))) high in
    sym (inserted_at bs (items t ++ zs) e key le up)
branch_items own key b e sides.Right t bs zs s low high less more =
    let item : KeyedItem = record { key = key; entry = e } in
    let le : AllKeys (λ x. x ≤ key) bs = all_map (λ x. x < key) (λ x. x ≤ key) bs (λ x y. omega arith) low in
    let mid : AllKeys (λ x. x ≤ key) (items t) = all_items (λ x. x ≤ key) t (keys_map (λ x. x < key) (λ x. x ≤ key) t (λ x y. omega arith) (less (s.right refl))) in
    ap (λ x. bs ++ x) (append_assoc (items t) (item ∷ []) zs) ∙ (sym (append_assoc bs (items t) (item ∷ zs)) ∙ (sym (inserted_at (bs ++ items t) zs e key (all-append (λ x. x ≤ key) bs (items t) le mid) high) ∙ ap (inserted (λ y. nat_le y.key key) item) (append_assoc bs (items t) zs)))

-- no item has a key that branches off
no_key : (own key : ℕ) (t : Tree) (bs zs : List KeyedItem) → own ≢ key → AllKeys (λ x. x < key) bs → AllKeys (λ x. key < x) zs → (own < key → Keys (λ x. x < key) t) → (key < own → Keys (λ x. key < x) t) → AllKeys (λ x. x ≡ key → ⊥) (bs ++ (items t ++ zs))
no_key own key t bs zs ne low high less more =
    let mid : Keys (λ x. x ≡ key → ⊥) t = elim (cases_lt own key) [
      | inl lt ↦ keys_map (λ x. x < key) (λ x. x ≡ key → ⊥) t (λ x y e. omega arith) (less lt)
      | inr le ↦ keys_map (λ x. key < x) (λ x. x ≡ key → ⊥) t (λ x y e. omega arith) (more (omega (arith, ne)))
    ] in
    all-append (λ x. x ≡ key → ⊥) bs (items t ++ zs) (all_map (λ x. x < key) (λ x. x ≡ key → ⊥) bs (λ x y e. omega arith) low) (all-append (λ x. x ≡ key → ⊥) (items t) zs (all_items (λ x. x ≡ key → ⊥) t mid) (all_map (λ x. key < x) (λ x. x ≡ key → ⊥) zs (λ x y e. omega arith) high))

-- where the key of the part is another, the root does not have the key
pub landed_none : (a : Parts) (q key : ℕ) (part : Target) → IsLanding a q key part → (own_key a part ≡ key → ⊥) → has_key key (list_of a q) ≡ false
landed_none a q key part l ne =
    let n : Narrow a q key part = l.narrow in
    ap (has_key key) n.list_is ∙ none_has key (before n.way ++ (items n.tree ++ after n.way)) (no_key (own_key a part) key n.tree (before n.way) (after n.way) ne n.low n.high l.less l.more)

-- a new node over the part from which the key branches off plants the entry
pub branch_planted : (a : Parts) (q : ℕ) (part : Target) (e b : ℕ) (side : Side) → IsLanding a q (element_at a e).key part → q < length a.links → e < length a.elements → (element_at a e).leaf_p ≡ places.Nowhere → IsTopBit (own_key a part) (element_at a e).key b → SideIs (own_key a part) (element_at a e).key side → Plants a (attached a part (up_of a part) e side (pos b)) q e
branch_planted a q part e b side l f fe free top sd ts sh =
    let key : ℕ = (element_at a e).key in
    let own : ℕ = own_key a part in
    let n : Narrow a q key part = l.narrow in
    let is : ts q ≡ Some (plug n.way n.tree) = tree_of a ts q (plug n.way n.tree) sh f n.whole in
    let new : Tree = grown side e (pos b) key n.tree in
    let g : Growth a ts q n.way part n.place n.tree e = record { shape = sh; root = f; tree_is = is; leads = n.leads; stands = n.stands; free = free; exists = fe } in
    let near : Keys (λ x. x / 2 ^ b ≡ own / 2 ^ b) n.tree = l.near b top in
    let np : Split new = branch_split own key b e side n.tree top sd near (part_split n.way n.tree n.split) in
    let whole : Split (plug n.way new) = fits_split key n.way n.tree new n.fits n.split np (grown_leaf side e (pos b) key n.tree) (grown_keys side e b key n.tree) in
    let s : Shape (attached a part n.place e side (pos b)) (with_tree ts q (Some (plug n.way new))) = grown_shape a ts q n.way part n.place n.tree e side (pos b) g whole in
    let u : up_of a part ≡ n.place = up_of_is a part n.place n.tree n.stands in
    let old : items_of (ts q) ≡ before n.way ++ (items n.tree ++ after n.way) = ap items_of is ∙ items-plug n.way n.tree in
    let item : KeyedItem = record { key = key; entry = e } in
    let out : Outcome a (attached a part n.place e side (pos b)) q n.way part n.place n.tree e side (pos b) = outcome a ts q n.way part n.place n.tree e side (pos b) g in
    let same_value : (k : ℕ) → spine_of k (plug n.way new) ≡ spine_in k (ts q) = λ k.
    let up : spine_of k (plug n.way new) ≡ spine_of k (plug n.way n.tree) + 0 = value_up key k 0 n.way n.tree new n.fits (grown_value k side e b key n.tree) in
    let plain : spine_of k (plug n.way new) ≡ spine_of k (plug n.way n.tree) = omega (arith, up) in
    plain ∙ ap (spine_in k) (sym is) in
    record {
      after = plug n.way new;
      elements = ap (λ o. length (attached a part o e side (pos b)).elements) u ∙ out.grew.count;
      roots = ap (λ o. length (attached a part o e side (pos b)).links) u ∙ out.grew.roots;
      shape = subst (λ o. Shape (attached a part o e side (pos b)) (with_tree ts q (Some (plug n.way new)))) (sym u) s;
      items_are = items-plug n.way new ∙ (branch_items own key b e side n.tree (before n.way) (after n.way) sd n.low n.high l.less l.more ∙ ap (inserted (λ y. nat_le y.key key) item) (sym old));
      grows = subst (λ o. GrowsIn o e key (plug n.way new)) (sym is) (record { way = n.way; part = n.tree; side = side; bit = pos b; was = refl; is = refl });
      rises = record {
        same_key = λ h. absurd (false≢true (sym (ap (has_key key) old ∙ none_has key (before n.way ++ (items n.tree ++ after n.way)) (no_key own key n.tree (before n.way) (after n.way) (λ z. top.differ (ap (λ y. y / 2 ^ b) z)) n.low n.high l.less l.more)) ∙ h));
        new_key = λ h. same_value key;
        other_keys = λ k ne. same_value k;
      };
    }

-- ---- what was visited

down_some : (a : Parts) (q key : ℕ) (part : Target) → Narrow a q key part → link_at a q ≡ targets.Nothing → ⊥
down_some a q key part n e = nothing_stands a (root_place a q) (plug n.way n.tree) (subst (λ t. Hangs a t (root_place a q) (plug n.way n.tree)) e n.whole.0)

pub visits_twin : (a : Parts) (q key old mid new : ℕ) (part : Target) → Reaches a q key old mid part → own_key a part ≡ key → VisitsSpine a part mid new → Visits a q key old new
visits_twin a q key old mid new part r o v =
    let down : mid ≡ old + (length r.narrow.way + 1) = r.visits in
    let up : new ≡ mid + (spine_length r.narrow.tree + 1) = v r.narrow.place r.narrow.tree r.narrow.stands in
    record {
      outside = length r.narrow.way + 1;
      inside = spine_length r.narrow.tree + 1;
      all = omega (arith, down, up);
      empty = λ e. absurd (down_some a q key part r.narrow e);
      down = λ n. record { target = part; narrow = r.narrow; way = refl; spine = λ e. refl; branch = λ ne. absurd (ne o) };
    }

pub visits_branch : (a : Parts) (q key old new : ℕ) (part : Target) → Reaches a q key old new part → (own_key a part ≡ key → ⊥) → Visits a q key old new
visits_branch a q key old new part r o =
    let down : new ≡ old + (length r.narrow.way + 1) = r.visits in
    record {
      outside = length r.narrow.way + 1;
      inside = 0;
      all = omega (arith, down);
      empty = λ e. absurd (down_some a q key part r.narrow e);
      down = λ n. record { target = part; narrow = r.narrow; way = refl; spine = λ e. absurd (o e); branch = λ ne. refl };
    }

pub visits_none : (a : Parts) (q key old new : ℕ) → IsBare a q old new → Visits a q key old new
visits_none a q key old new b =
    record { outside = 0; inside = 0; all = omega (arith, b.none); empty = λ e. (refl, refl); down = λ n. absurd (n b.empty) }
