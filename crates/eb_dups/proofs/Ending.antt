-- The insertion beside equal keys as a whole.
use Rattle.std.proofs.Common.{◌≡◌, ℕ, ◌+◌, ◌-◌, ◌^◌, ◌<◌, ◌≤◌, inl, inr, List, [], ◌∷◌, ◌++◌, length, refl, sym, ap, ◌∙◌, subst, arith, suc, false, eqb, eq-eqb, ne_eqb}
use Rattle.std.specs.Prelude.{pos, negsuc, Option, Some}
use Rattle.std.proofs.lemmas.Nat.{pow_pos}
use Rattle.eb_arena.specs.declared.links.Side.TheVariants as sides
use Rattle.eb_arena.specs.declared.links.Target.{Target}
use Rattle.eb_arena.specs.declared.links.Place.{Place}
use Rattle.eb_arena.specs.declared.links.Place.TheVariants as places
use Rattle.eb_arena.specs.Links.{place_index, place_side}
use Rattle.eb_arena.specs.Parts.{Parts, element_at, link_at, up_of}
use Rattle.eb_arena.specs.Shape.{Tree, tip, fork, Keys, Hangs, Split, IsRoot, Shape, root_place}
use Rattle.eb_arena.specs.Way.{Step, from_left, from_right, plug, Leads}
use Rattle.eb_arena.proofs.Trees.{Has, keys_at, some_key}
use Rattle.eb_arena.proofs.Reading.{same_tree}
use Rattle.eb_arena.proofs.Ways.{part_split}
use Rattle.eb_arena.proofs.Unique.{one_way, leads_somewhere, PartAt, part_at}
use Rattle.eb_dups.specs.Grown.{attached, with_tree}
use Rattle.eb_dups.specs.Spine.{IsTwins, spine_value, depth, depth_of, IsWhole, IsSpine, HasGap, KeyHead, MayRise, head_after, TwinAdded, IsTwinTree, IsSlot}
use Rattle.eb_dups.specs.Added.{AddsTwin, HasHeadAfter}
use Rattle.eb_dups.proofs.LeftOfRoot.{left_of_root}
use Rattle.eb_dups.proofs.Regrown.{Growth, Outcome, outcome, grown_shape, tree_at}
use Rattle.eb_dups.proofs.Descent.{depth_of_is, below_depth}
use Rattle.eb_dups.proofs.Added.{plug-append, HasRoom, regrow_split, spine_up, items_up, keys_up, keys_part, twins_up, spine_le, below_self, pow_small, pow_le}

pub up_of_is : (a : Parts) (target : Target) (place : Place) (t : Tree) → Hangs a target place t → up_of a target ≡ place
up_of_is a target place (tip e k) s = ap (up_of a) s.0 ∙ s.2
up_of_is a target place (fork i b l r) s = ap (up_of a) s.0 ∙ s.2

-- a place is at a node or on a root
pub place_bound : (a : Parts) (q : ℕ) (place : Place) (w : List Step) → Leads a q place w → q < length a.links → place_index place < length a.elements + length a.links
place_bound a q place [] h f = let x : place_index place ≡ length a.elements + q = ap place_index h in omega arith
place_bound a q place (from_left i b r ∷ w) h f = let x : place_index place ≡ i = ap place_index h.0 in let y : i < length a.elements = h.1 in omega arith
place_bound a q place (from_right i b l ∷ w) h f = let x : place_index place ≡ i = ap place_index h.0 in let y : i < length a.elements = h.1 in omega arith

root_split : (a : Parts) (ts : ℕ → Option Tree) (q : ℕ) (t : Tree) → Shape a ts → q < length a.links → ts q ≡ Some t → Split t
root_split a ts q t h f e = (subst (IsRoot a q) e (h.roots q f)).1

pub head_twins : (a : Parts) (head : Target) (key : ℕ) → KeyHead a head key → IsTwinTree a head
head_twins a head key h =
    record { place = h.place; tree = h.tree; stands = h.stands; split = part_split h.way h.tree (root_split a h.trees h.root (plug h.way h.tree) h.shape h.exists h.tree_is); twins = h.twins }

room_above : (w : List Step) (g : Tree) → IsWhole w → HasRoom w g
room_above [] g h = tt
room_above (from_left i (pos b) r ∷ w) g h = tt
room_above (from_left i (negsuc n) r ∷ w) g h = absurd h
room_above (from_right i (pos b) l ∷ w) g h = tt
room_above (from_right i (negsuc n) l ∷ w) g h = absurd h

room_of : (d w : List Step) (s : Tree) (e k : ℕ) → HasGap d s → IsWhole w → HasRoom (d ++ w) (fork e (negsuc (depth s)) s (tip e k))
room_of [] w s e k g h = room_above w (fork e (negsuc (depth s)) s (tip e k)) h
room_of (from_left i b r ∷ d) w s e k g h = absurd g
room_of (from_right i (pos b) l ∷ d) w s e k g h = absurd g
room_of (from_right i (negsuc n) l ∷ d) w s e k g h = g

-- a head's slot has a small depth
pub slot_depth : (a : Parts) (head slot : Target) → MayRise a head → IsSlot a head slot → depth_of a slot < 63
slot_depth a head slot room s =
    let le : spine_value s.part ≤ spine_value (plug s.steps s.part) = spine_le s.steps s.part s.spine in
    let e : spine_value (plug s.steps s.part) ≡ spine_value s.tree = ap spine_value (sym s.part_is) in
    let r : spine_value s.tree < 2 ^ 63 - 1 = room s.place s.tree s.stands in
    let f : spine_value s.part + 1 ≡ 2 ^ depth s.part = s.full in
    let small : 2 ^ depth s.part < 2 ^ 63 = omega (arith, le, e, r, f) in
    let d : depth_of a slot ≡ depth s.part = depth_of_is a slot s.part_place s.part s.part_stands in
    let x : depth s.part < 63 = pow_small (depth s.part) small in
    omega (arith, d, x)

pub slot_hangs : (a : Parts) (head slot : Target) (key : ℕ) → KeyHead a head key → IsSlot a head slot → up_of a slot ≡ places.Nowhere → ⊥
slot_hangs a head slot key h s n =
    let p : h.place ≡ s.place = sym (up_of_is a head h.place h.tree h.stands) ∙ up_of_is a head s.place s.tree s.stands in
    let l : Leads a h.root s.part_place (s.steps ++ h.way) = s.leads h.root h.way (subst (λ o. Leads a h.root o h.way) p h.leads) in
    leads_somewhere a h.root s.part_place (s.steps ++ h.way) l (sym (up_of_is a slot s.part_place s.part s.part_stands) ∙ n)

pub slot_place : (a : Parts) (head slot : Target) (key : ℕ) → KeyHead a head key → IsSlot a head slot → place_index (up_of a slot) < length a.elements + length a.links
slot_place a head slot key h s =
    let p : h.place ≡ s.place = sym (up_of_is a head h.place h.tree h.stands) ∙ up_of_is a head s.place s.tree s.stands in
    let l : Leads a h.root s.part_place (s.steps ++ h.way) = s.leads h.root h.way (subst (λ o. Leads a h.root o h.way) p h.leads) in
    subst (λ o. place_index o < length a.elements + length a.links) (sym (up_of_is a slot s.part_place s.part s.part_stands)) (place_bound a h.root s.part_place (s.steps ++ h.way) l h.exists)

pub slot_left : (a : Parts) (head slot : Target) (key : ℕ) → KeyHead a head key → IsSlot a head slot → length a.elements ≤ place_index (up_of a slot) → place_side (up_of a slot) ≡ sides.Left
slot_left a head slot key h s f =
    let p : h.place ≡ s.place = sym (up_of_is a head h.place h.tree h.stands) ∙ up_of_is a head s.place s.tree s.stands in
    let l : Leads a h.root s.part_place (s.steps ++ h.way) = s.leads h.root h.way (subst (λ o. Leads a h.root o h.way) p h.leads) in
    let u : up_of a slot ≡ s.part_place = up_of_is a slot s.part_place s.part s.part_stands in
    left_of_root a h.root (up_of a slot) (s.steps ++ h.way) (subst (λ o. Leads a h.root o (s.steps ++ h.way)) (sym u) l) f

-- a tree in which a depth of the spine is free has less than it could
not_full : (d : List Step) (s : Tree) → IsSpine d → Split (plug d s) → spine_value s + 1 < 2 ^ depth s → spine_value (plug d s) + 1 < 2 ^ depth (plug d s)
not_full [] s h p lt = lt
not_full (from_left i b r ∷ d) s h p lt = absurd h
not_full (from_right i (pos b) l ∷ d) s h p lt = absurd h
not_full (from_right i (negsuc n) l ∷ d) s h p lt =
    let o : Split (fork i (negsuc n) l s) = part_split d (fork i (negsuc n) l s) p in
    let le : depth s ≤ n = below_depth n s o.2.right_below in
    let up : 2 ^ depth s ≤ 2 ^ n = pow_le (depth s) n le in
    let two : 2 ^ suc n ≡ 2 ^ n + 2 ^ n = omega arith in
    let x : 2 ^ n + spine_value s + 1 < 2 ^ suc n = omega (arith, lt, up, two) in
    not_full d (fork i (negsuc n) l s) h p x

-- below a gap the spine is not full
gap_not_full : (d : List Step) (i n : ℕ) (l s : Tree) → IsSpine d → Split (plug d (fork i (negsuc n) l s)) → depth s < n → spine_value s + 1 ≡ 2 ^ depth s → spine_value (plug d (fork i (negsuc n) l s)) + 1 < 2 ^ depth (plug d (fork i (negsuc n) l s))
gap_not_full d i n l s h p lt full =
    let up : 2 ^ suc (depth s) ≤ 2 ^ n = pow_le (suc (depth s)) n (omega (arith, lt)) in
    let half : 2 ^ suc (depth s) ≡ 2 ^ depth s + 2 ^ depth s = omega arith in
    let some : 0 < 2 ^ depth s = pow_pos (depth s) in
    let two : 2 ^ suc n ≡ 2 ^ n + 2 ^ n = omega arith in
    let x : 2 ^ n + spine_value s + 1 < 2 ^ suc n = omega (arith, full, up, half, some, two) in
    not_full d (fork i (negsuc n) l s) h p x

-- what is on top of a tree stays there where the tree changes below it
top_same : (x : Step) (d : List Step) (a z : Parts) (s g : Tree) (t u : Target) (p o : Place) → Hangs a t p (plug (x ∷ d) s) → Hangs z u o (plug (x ∷ d) g) → t ≡ u
top_same (from_left i b r) [] a z s g t u p o h k = h.0 ∙ sym k.0
top_same (from_right i b l) [] a z s g t u p o h k = h.0 ∙ sym k.0
top_same (from_left i b r) (y ∷ d) a z s g t u p o h k = top_same y d a z (fork i b s r) (fork i b g r) t u p o h k
top_same (from_right i b l) (y ∷ d) a z s g t u p o h k = top_same y d a z (fork i b l s) (fork i b l g) t u p o h k

-- which target is on top of the key's tree once the entry's node went in below these steps
head_is : (d : List Step) (a z : Parts) (head t : Target) (p o : Place) (s : Tree) (e k : ℕ) → IsSpine d → HasGap d s → Split (plug d s) → spine_value s + 1 ≡ 2 ^ depth s → Hangs a head p (plug d s) → Hangs z t o (plug d (fork e (negsuc (depth s)) s (tip e k))) → t ≡ head_after head (plug d s) e
head_is [] a z head t p o s e k h gap sp full x y = y.0 ∙ sym (rw (eq-eqb (spine_value s + 1) (2 ^ depth s) full) refl)
head_is (from_left i b r ∷ d) a z head t p o s e k h gap sp full x y = absurd h
head_is (from_right i (pos b) l ∷ d) a z head t p o s e k h gap sp full x y = absurd h
head_is (from_right i (negsuc n) l ∷ d) a z head t p o s e k h gap sp full x y =
    let v : Tree = plug d (fork i (negsuc n) l s) in
    let lt : spine_value v + 1 < 2 ^ depth v = gap_not_full d i n l s h sp gap full in
    let no : eqb (spine_value v + 1) (2 ^ depth v) ≡ false = ne_eqb (spine_value v + 1) (2 ^ depth v) (λ q. omega (arith, lt, q)) in
    sym (top_same (from_right i (negsuc n) l) d a z s (fork e (negsuc (depth s)) s (tip e k)) head t p o x y) ∙ sym (rw no refl)

added_at : (a : Parts) (head slot : Target) (e : ℕ) (trees : ℕ → Option Tree) (root : ℕ) (way d : List Step) (part_place : Place) (part : Tree) (place : Place) → Growth a trees root (d ++ way) slot part_place part e → Hangs a head place (plug d part) → Split (plug (d ++ way) part) → IsSpine d → HasGap d part → IsWhole way → IsTwins part → Keys (λ x. x ≡ (element_at a e).key) (plug d part) → spine_value part + 1 ≡ 2 ^ depth part → depth part < 63 → TwinAdded a (attached a slot part_place e sides.Right (negsuc (depth part))) trees root way head (plug d part) (element_at a e).key e
added_at a head slot e trees root way d part_place part place g hd sp sn gap wh tw ks full small =
    let key : ℕ = (element_at a e).key in
    let new : Tree = fork e (negsuc (depth part)) part (tip e key) in
    let bit : depth part < 32768 = omega (arith, small) in
    let own : Keys (λ x. x ≡ key) part = keys_part d part (λ x. x ≡ key) ks in
    let split : Split new = (inr refl, bit, record { k = key; left = own; right = refl; left_below = below_self part tw; right_below = tt }, part_split (d ++ way) part sp, tt) in
    let has : (P : ℕ → Type 0) → Keys P part → Keys P new = λ P y.
    let k : (x : ℕ) × Has x part = some_key part in
    (y, subst P (keys_at (λ x. x ≡ key) part k.0 own k.1) (keys_at P part k.0 y k.1)) in
    let whole : Split (plug (d ++ way) new) = regrow_split (d ++ way) part new sp split (λ x y. inl y) has (room_of d way part e key gap wh) in
    let shape : Shape (attached a slot part_place e sides.Right (negsuc (depth part))) (with_tree trees root (Some (plug (d ++ way) new))) = grown_shape a trees root (d ++ way) slot part_place part e sides.Right (negsuc (depth part)) g whole in
    let z : Parts = attached a slot part_place e sides.Right (negsuc (depth part)) in
    let out : Outcome a z root (d ++ way) slot part_place part e sides.Right (negsuc (depth part)) = outcome a trees root (d ++ way) slot part_place part e sides.Right (negsuc (depth part)) g in
    let at : PartAt z root way (plug d new) = part_at z root way (plug d new) (subst (λ t. Hangs z (link_at z root) (root_place z root) t) (plug-append d way new) out.stands) in
    let own_split : Split (plug d part) = part_split way (plug d part) (subst Split (plug-append d way part) sp) in
    let top : at.target ≡ head_after head (plug d part) e = head_is d a z head at.target place at.place part e key sn gap own_split full hd at.stands in
    record {
      after = plug d new;
      grows = record { way = d; part = part; side = sides.Right; bit = negsuc (depth part); was = refl; is = refl };
      place = at.place;
      leads = at.leads;
      stands = subst (λ t. Hangs z t at.place (plug d new)) top at.stands;
      elements = out.grew.count;
      roots = out.grew.roots;
      shape = subst (λ t. Shape z (with_tree trees root (Some t))) (plug-append d way new) shape;
      items_are = items_up d part new (record { key = key; entry = e } ∷ []) sn refl;
      spine = spine_up d part new sn (let x : 2 ^ depth part + 0 ≡ spine_value part + 1 = omega (arith, full) in x);
      twins = twins_up d part new sn tt;
      keys = keys_up d part new (λ x. x ≡ key) (has (λ x. x ≡ key)) ks;
    }

pub twin_added : (a : Parts) (head slot : Target) (e : ℕ) → KeyHead a head (element_at a e).key → MayRise a head → IsSlot a head slot → e < length a.elements → (element_at a e).leaf_p ≡ places.Nowhere → (trees : ℕ → Option Tree) (root : ℕ) (way : List Step) (place : Place) (tree : Tree) → Shape a trees → root < length a.links → trees root ≡ Some (plug way tree) → Leads a root place way → Hangs a head place tree → TwinAdded a (attached a slot (up_of a slot) e sides.Right (negsuc (depth_of a slot))) trees root way head tree (element_at a e).key e
twin_added a head slot e h room s f n trees root way place tree sh fr is ld st =
    let key : ℕ = (element_at a e).key in
    let ht : h.tree ≡ tree = same_tree a h.tree tree head h.place place h.stands st in
    let hp : place ≡ h.place = sym (up_of_is a head place tree st) ∙ up_of_is a head h.place h.tree h.stands in
    let hw : (h.root ≡ root) × (h.way ≡ way) = one_way a h.root root h.place h.way way h.leads (subst (λ o. Leads a root o way) hp ld) in
    let t : tree ≡ s.tree = same_tree a tree s.tree head place s.place st s.stands in
    let tp : tree ≡ plug s.steps s.part = t ∙ s.part_is in
    let sp : place ≡ s.place = sym (up_of_is a head place tree st) ∙ up_of_is a head s.place s.tree s.stands in
    let l : Leads a root s.part_place (s.steps ++ way) = s.leads root way (subst (λ o. Leads a root o way) sp ld) in
    let w : plug way tree ≡ plug (s.steps ++ way) s.part = ap (plug way) tp ∙ sym (plug-append s.steps way s.part) in
    let g : Growth a trees root (s.steps ++ way) slot s.part_place s.part e = record {
      shape = sh;
      root = fr;
      tree_is = is ∙ ap (λ y. Some y) w;
      leads = l;
      stands = s.part_stands;
      free = n;
      exists = f;
    } in
    let split : Split (plug (s.steps ++ way) s.part) = subst Split w (root_split a trees root (plug way tree) sh fr is) in
    let ks : Keys (λ x. x ≡ key) (plug s.steps s.part) = subst (Keys (λ x. x ≡ key)) (ht ∙ tp) h.keys in
    let d : depth_of a slot ≡ depth s.part = depth_of_is a slot s.part_place s.part s.part_stands in
    let small : depth s.part < 63 = subst (λ m. m < 63) d (slot_depth a head slot room s) in
    let r : TwinAdded a (attached a slot s.part_place e sides.Right (negsuc (depth s.part))) trees root way head (plug s.steps s.part) key e = added_at a head slot e trees root way s.steps s.part_place s.part place g (subst (Hangs a head place) tp st) split s.spine s.gap (subst IsWhole hw.1 h.whole) s.twins ks s.full small in
    let u : up_of a slot ≡ s.part_place = up_of_is a slot s.part_place s.part s.part_stands in
    subst (λ m. TwinAdded a (attached a slot (up_of a slot) e sides.Right (negsuc m)) trees root way head tree key e) (sym d) (subst (λ o. TwinAdded a (attached a slot o e sides.Right (negsuc (depth s.part))) trees root way head tree key e) (sym u) (subst (λ m. TwinAdded a (attached a slot s.part_place e sides.Right (negsuc (depth s.part))) trees root way head m key e) (sym tp) r))

-- which link is the head of the key afterwards
pub head_after_is : (a z : Parts) (head : Target) (e : ℕ) → KeyHead a head (element_at a e).key → AddsTwin a z head e → HasHeadAfter a z head e
head_after_is a z head e h f place tree st =
    let same : h.tree ≡ tree = same_tree a h.tree tree head h.place place h.stands st in
    let r : TwinAdded a z h.trees h.root h.way head h.tree (element_at a e).key e = f h.trees h.root h.way h.place h.tree h.shape h.exists h.tree_is h.leads h.stands in
    record {
      trees = with_tree h.trees h.root (Some (plug h.way r.after));
      root = h.root;
      way = h.way;
      place = r.place;
      tree = r.after;
      shape = r.shape;
      exists = subst (λ n. h.root < n) (sym r.roots) h.exists;
      tree_is = tree_at h.trees h.root (Some (plug h.way r.after));
      leads = r.leads;
      stands = subst (λ t. Hangs z (head_after head t e) r.place r.after) same r.stands;
      whole = h.whole;
      twins = r.twins;
      keys = r.keys;
    }
