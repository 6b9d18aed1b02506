-- What the look-ups make of the part that the descent found.
use Rattle.std.proofs.Common.{◌≡◌, ℕ, ◌<◌, ◌≤◌, inl, inr, List, [], ◌++◌, length, Bool, true, false, filter, sym, ap, ◌∙◌, subst, arith, ne_eqb, eq-eqb}
use Rattle.std.specs.Prelude.{Option, Some, None, ◌==◌, nat_le}
use Rattle.std.proofs.lemmas.Bool.{le-leb, lt-leb, cases_eq, cases_lt}
use Rattle.std.proofs.lemmas.List.{append-nil}
use Rattle.std.proofs.lemmas.List.Elements.{filter-append}
use Rattle.sched_base.specs.KeyedList.{KeyedItem, first_entry}
use Rattle.eb_arena.specs.declared.links.Target.{Target}
use Rattle.eb_arena.specs.declared.links.Place.{Place}
use Rattle.eb_arena.specs.Links.{index_of}
use Rattle.eb_arena.specs.Parts.{Parts, up_of}
use Rattle.eb_arena.specs.Shape.{Tree, tip, fork, items, Keys, Hangs, list_of, list_below}
use Rattle.eb_arena.specs.Way.{before, after, Leads}
use Rattle.eb_arena.proofs.Reading.{list_below_is}
use Rattle.eb_arena.proofs.Ways.{part_split}
use Rattle.eb32_walk.specs.Ends.{IsTree, IsPlace, AtPlace, last_entry}
use Rattle.eb_arena.specs.Shape.{AllKeys}
use Rattle.eb32_walk.specs.Search.{IsFound, own_key}
use Rattle.eb32_walk.proofs.Firsts.{first_of, last_of}
use Rattle.eb_arena.proofs.Keyed.{all_items, all_map, filter_none, filter_all}
use Rattle.eb32_walk.proofs.Up.{somewhere}

pub up_of_is : (a : Parts) (target : Target) (place : Place) (t : Tree) → Hangs a target place t → up_of a target ≡ place
up_of_is a target place (tip e k) s = ap (up_of a) s.0 ∙ s.2
up_of_is a target place (fork i b l r) s = ap (up_of a) s.0 ∙ s.2

tree_fits_by : (a : Parts) (target : Target) (place : Place) (t : Tree) → Hangs a target place t → index_of target < length a.elements
tree_fits_by a target place (tip e k) s = subst (λ n. n < length a.elements) (sym (ap index_of s.0)) s.1
tree_fits_by a target place (fork i b l r) s = subst (λ n. n < length a.elements) (sym (ap index_of s.0)) s.1

pub tree_fits : (a : Parts) (target : Target) → IsTree a target → index_of target < length a.elements
tree_fits a target h = tree_fits_by a target h.place h.tree h.stands

-- what was found is a tree, which hangs at a place
pub found_tree : (a : Parts) (q key : ℕ) (part : Target) → IsFound a q key part → IsTree a part
found_tree a q key part f =
    let h : IsPlace a f.place = record { root = q; way = f.way; tree = f.tree; leads = f.leads; split = f.split } in
    record { place = f.place; tree = f.tree; hangs = somewhere a f.place h; stands = f.stands; split = part_split f.way f.tree f.split }

pub found_place : (a : Parts) (q key : ℕ) (part : Target) (up : Place) → IsFound a q key part → up ≡ up_of a part → IsPlace a up
found_place a q key part up f e =
    let p : up ≡ f.place = e ∙ up_of_is a part f.place f.tree f.stands in
    record { root = q; way = f.way; tree = f.tree; leads = subst (λ o. Leads a q o f.way) (sym p) f.leads; split = f.split }

-- the filter of a root's list, in three parts
in_parts : (a : Parts) (q key : ℕ) (part : Target) (f : IsFound a q key part) (p : ℕ → Bool) → filter (λ x. p x.key) (list_of a q) ≡ filter (λ x. p x.key) (before f.way) ++ (filter (λ x. p x.key) (items f.tree) ++ filter (λ x. p x.key) (after f.way))
in_parts a q key part f p =
    ap (filter (λ x. p x.key)) f.list_is ∙ (filter-append (λ x. p x.key) (before f.way) (items f.tree ++ after f.way) ∙ ap (λ l. filter (λ x. p x.key) (before f.way) ++ l) (filter-append (λ x. p x.key) (items f.tree) (after f.way)))

none_in : (p : ℕ → Bool) (t : Tree) → Keys (λ k. p k ≡ false) t → filter (λ x. p x.key) (items t) ≡ []
none_in p t h = filter_none p (items t) (all_items (λ k. p k ≡ false) t h)

all_in : (p : ℕ → Bool) (t : Tree) → Keys (λ k. p k ≡ true) t → filter (λ x. p x.key) (items t) ≡ items t
all_in p t h = filter_all p (items t) (all_items (λ k. p k ≡ true) t h)

-- the test fails before the part and holds in it: its first entry is the answer
first_in_part : (a : Parts) (q key : ℕ) (part : Target) (f : IsFound a q key part) (p : ℕ → Bool) (e : ℕ) → AllKeys (λ k. p k ≡ false) (before f.way) → Keys (λ k. p k ≡ true) f.tree → first_entry (list_below a part) ≡ Some e → Some e ≡ first_entry (filter (λ x. p x.key) (list_of a q))
first_in_part a q key part f p e l t h =
    let ts : List KeyedItem = items f.tree in
    let x : filter (λ x. p x.key) (list_of a q) ≡ ts ++ filter (λ x. p x.key) (after f.way) = in_parts a q key part f p ∙ (ap (λ z. z ++ (filter (λ x. p x.key) ts ++ filter (λ x. p x.key) (after f.way))) (filter_none p (before f.way) l) ∙ ap (λ z. z ++ filter (λ x. p x.key) (after f.way)) (all_in p f.tree t)) in
    let y : first_entry ts ≡ Some e = sym (ap first_entry (list_below_is a part f.place f.tree f.stands (part_split f.way f.tree f.split))) ∙ h in
    sym (ap first_entry x ∙ first_of ts (filter (λ x. p x.key) (after f.way)) e y)

-- the test fails before the part and in it, and holds after it
first_after_part : (a : Parts) (q key : ℕ) (part : Target) (f : IsFound a q key part) (p : ℕ → Bool) → AllKeys (λ k. p k ≡ false) (before f.way) → Keys (λ k. p k ≡ false) f.tree → AllKeys (λ k. p k ≡ true) (after f.way) → filter (λ x. p x.key) (list_of a q) ≡ after f.way
first_after_part a q key part f p l t h =
    in_parts a q key part f p ∙ (ap (λ z. z ++ (filter (λ x. p x.key) (items f.tree) ++ filter (λ x. p x.key) (after f.way))) (filter_none p (before f.way) l) ∙ (ap (λ z. z ++ filter (λ x. p x.key) (after f.way)) (none_in p f.tree t) ∙ filter_all p (after f.way) h))

-- the test holds in the part and fails after it: its last entry is the answer
last_in_part : (a : Parts) (q key : ℕ) (part : Target) (f : IsFound a q key part) (p : ℕ → Bool) (e : ℕ) → AllKeys (λ k. p k ≡ false) (after f.way) → Keys (λ k. p k ≡ true) f.tree → last_entry (list_below a part) ≡ Some e → Some e ≡ last_entry (filter (λ x. p x.key) (list_of a q))
last_in_part a q key part f p e l t h =
    let ts : List KeyedItem = items f.tree in
    let bs : List KeyedItem = filter (λ x. p x.key) (before f.way) in
    let x : filter (λ x. p x.key) (list_of a q) ≡ bs ++ ts = in_parts a q key part f p ∙ (ap (λ z. bs ++ (filter (λ x. p x.key) ts ++ z)) (filter_none p (after f.way) l) ∙ ap (λ z. bs ++ z) (append-nil (filter (λ x. p x.key) ts) ∙ all_in p f.tree t)) in
    let y : last_entry ts ≡ Some e = sym (ap last_entry (list_below_is a part f.place f.tree f.stands (part_split f.way f.tree f.split))) ∙ h in
    sym (ap last_entry x ∙ last_of bs ts e y)

-- the test fails in the part and after it, and holds before it
last_before_part : (a : Parts) (q key : ℕ) (part : Target) (f : IsFound a q key part) (p : ℕ → Bool) → AllKeys (λ k. p k ≡ true) (before f.way) → Keys (λ k. p k ≡ false) f.tree → AllKeys (λ k. p k ≡ false) (after f.way) → filter (λ x. p x.key) (list_of a q) ≡ before f.way
last_before_part a q key part f p l t h =
    in_parts a q key part f p ∙ (ap (λ z. filter (λ x. p x.key) (before f.way) ++ (filter (λ x. p x.key) (items f.tree) ++ z)) (filter_none p (after f.way) h) ∙ (ap (λ z. filter (λ x. p x.key) (before f.way) ++ z) (append-nil (filter (λ x. p x.key) (items f.tree)) ∙ none_in p f.tree t) ∙ (append-nil (filter (λ x. p x.key) (before f.way)) ∙ filter_all p (before f.way) l)))

-- tests of one number
is_same : (key : ℕ) → (x : ℕ) → x ≡ key → (x == key) ≡ true
is_same key x h = eq-eqb x key h

not_less : (key : ℕ) → (x : ℕ) → x < key → (x == key) ≡ false
not_less key x h = ne_eqb x key (λ e. omega arith)

not_more : (key : ℕ) → (x : ℕ) → key < x → (x == key) ≡ false
not_more key x h = ne_eqb x key (λ e. omega arith)

map_keys : (P Q : ℕ → Type 0) (t : Tree) → ((k : ℕ) → P k → Q k) → Keys P t → Keys Q t
map_keys P Q (tip e x) f h = f x h
map_keys P Q (fork i b l r) f h = (map_keys P Q l f h.0, map_keys P Q r f h.1)

-- the part's own key is the key: its first entry is the first with the key
pub lookup_yes : (a : Parts) (q key : ℕ) (part : Target) (e : ℕ) → IsFound a q key part → own_key a part ≡ key → first_entry (list_below a part) ≡ Some e → Some e ≡ first_entry (filter (λ x. x.key == key) (list_of a q))
lookup_yes a q key part e f o h =
    first_in_part a q key part f (λ x. x == key) e (all_map (λ x. x < key) (λ x. (x == key) ≡ false) (before f.way) (not_less key) f.low) (map_keys (λ x. x ≡ key) (λ x. (x == key) ≡ true) f.tree (is_same key) (f.same o)) h

-- else no item has the key
pub lookup_no : (a : Parts) (q key : ℕ) (part : Target) → IsFound a q key part → (own_key a part ≡ key → ⊥) → None ≡ first_entry (filter (λ x. x.key == key) (list_of a q))
lookup_no a q key part f n =
    let t : Keys (λ x. (x == key) ≡ false) f.tree = elim (cases_lt (own_key a part) key) [
      | inl lt ↦ map_keys (λ x. x < key) (λ x. (x == key) ≡ false) f.tree (not_less key) (f.less lt)
      | inr le ↦ map_keys (λ x. key < x) (λ x. (x == key) ≡ false) f.tree (not_more key) (f.more (omega arith))
    ] in
    let p : ℕ → Bool = λ x. x == key in
    let x : filter (λ x. p x.key) (list_of a q) ≡ [] = in_parts a q key part f p ∙ (ap (λ z. z ++ (filter (λ x. p x.key) (items f.tree) ++ filter (λ x. p x.key) (after f.way))) (filter_none p (before f.way) (all_map (λ x. x < key) (λ x. p x ≡ false) (before f.way) (not_less key) f.low)) ∙ (ap (λ z. z ++ filter (λ x. p x.key) (after f.way)) (none_in p f.tree t) ∙ filter_none p (after f.way) (all_map (λ x. key < x) (λ x. p x ≡ false) (after f.way) (not_more key) f.high))) in
    sym (ap first_entry x)

ge_less : (key : ℕ) → (x : ℕ) → x < key → nat_le key x ≡ false
ge_less key x h = lt-leb key x h

ge_more : (key : ℕ) → (x : ℕ) → key < x → nat_le key x ≡ true
ge_more key x h = le-leb key x (omega arith)

ge_same : (key : ℕ) → (x : ℕ) → x ≡ key → nat_le key x ≡ true
ge_same key x h = le-leb key x (omega arith)

le_less : (key : ℕ) → (x : ℕ) → x < key → nat_le x key ≡ true
le_less key x h = le-leb x key (omega arith)

le_more : (key : ℕ) → (x : ℕ) → key < x → nat_le x key ≡ false
le_more key x h = lt-leb x key h

le_same : (key : ℕ) → (x : ℕ) → x ≡ key → nat_le x key ≡ true
le_same key x h = le-leb x key (omega arith)

pub ge_in_part : (a : Parts) (q key : ℕ) (part : Target) (e : ℕ) → IsFound a q key part → key ≤ own_key a part → first_entry (list_below a part) ≡ Some e → Some e ≡ first_entry (filter (λ x. nat_le key x.key) (list_of a q))
ge_in_part a q key part e f o h =
    let t : Keys (λ x. nat_le key x ≡ true) f.tree = elim (cases_eq (own_key a part) key) [
      | inl same ↦ map_keys (λ x. x ≡ key) (λ x. nat_le key x ≡ true) f.tree (ge_same key) (f.same same)
      | inr ne ↦ map_keys (λ x. key < x) (λ x. nat_le key x ≡ true) f.tree (ge_more key) (f.more (omega arith))
    ] in
    first_in_part a q key part f (λ x. nat_le key x) e (all_map (λ x. x < key) (λ x. nat_le key x ≡ false) (before f.way) (ge_less key) f.low) t h

pub ge_after_part : (a : Parts) (q key : ℕ) (part : Target) (up : Place) (r : Option ℕ) → IsFound a q key part → own_key a part < key → up ≡ up_of a part → AtPlace a up (λ w. r ≡ first_entry (after w)) → r ≡ first_entry (filter (λ x. nat_le key x.key) (list_of a q))
ge_after_part a q key part up r f o e h =
    let p : up ≡ f.place = e ∙ up_of_is a part f.place f.tree f.stands in
    h q f.way f.tree (subst (λ z. Leads a q z f.way) (sym p) f.leads) f.split ∙ sym (ap first_entry (first_after_part a q key part f (λ x. nat_le key x) (all_map (λ x. x < key) (λ x. nat_le key x ≡ false) (before f.way) (ge_less key) f.low) (map_keys (λ x. x < key) (λ x. nat_le key x ≡ false) f.tree (ge_less key) (f.less o)) (all_map (λ x. key < x) (λ x. nat_le key x ≡ true) (after f.way) (ge_more key) f.high)))

pub le_in_part : (a : Parts) (q key : ℕ) (part : Target) (e : ℕ) → IsFound a q key part → own_key a part ≤ key → last_entry (list_below a part) ≡ Some e → Some e ≡ last_entry (filter (λ x. nat_le x.key key) (list_of a q))
le_in_part a q key part e f o h =
    let t : Keys (λ x. nat_le x key ≡ true) f.tree = elim (cases_eq (own_key a part) key) [
      | inl same ↦ map_keys (λ x. x ≡ key) (λ x. nat_le x key ≡ true) f.tree (le_same key) (f.same same)
      | inr ne ↦ map_keys (λ x. x < key) (λ x. nat_le x key ≡ true) f.tree (le_less key) (f.less (omega arith))
    ] in
    last_in_part a q key part f (λ x. nat_le x key) e (all_map (λ x. key < x) (λ x. nat_le x key ≡ false) (after f.way) (le_more key) f.high) t h

pub le_before_part : (a : Parts) (q key : ℕ) (part : Target) (up : Place) (r : Option ℕ) → IsFound a q key part → key < own_key a part → up ≡ up_of a part → AtPlace a up (λ w. r ≡ last_entry (before w)) → r ≡ last_entry (filter (λ x. nat_le x.key key) (list_of a q))
le_before_part a q key part up r f o e h =
    let p : up ≡ f.place = e ∙ up_of_is a part f.place f.tree f.stands in
    h q f.way f.tree (subst (λ z. Leads a q z f.way) (sym p) f.leads) f.split ∙ sym (ap last_entry (last_before_part a q key part f (λ x. nat_le x key) (all_map (λ x. x < key) (λ x. nat_le x key ≡ true) (before f.way) (le_less key) f.low) (map_keys (λ x. key < x) (λ x. nat_le x key ≡ false) f.tree (le_more key) (f.more o)) (all_map (λ x. key < x) (λ x. nat_le x key ≡ false) (after f.way) (le_more key) f.high)))
