-- Rows of the plain lists against the lists that they stand for.
use Rattle.std.proofs.Common.{◌≡◌, ℕ, zero, suc, ◌+◌, ◌<◌, ◌≤◌, inl, inr, Bool, true, false, not, ◌&&◌, eqb, ltb, leb, List, [], ◌∷◌, Option, Some, None, length, get_or, set, drop, map, replicate, refl, sym, ap, ◌∙◌, arith}
use Rattle.std.specs.List.{filter, insert, IsDistinct, remove, position, find, list_any, AllByRecursion, position_or_len}
use Rattle.std.specs.Option.{option_map, IfSome, unwrap_or}
use Rattle.std.proofs.lemmas.Bool.{cases_Bool, or_parts, cases_eq, cases_lt, false≢true, lt-ltb, le-ltb, le-leb, lt-leb, eqb-true, eqb-false, eq-eqb, ne_eqb}
use Rattle.std.proofs.Math.Numerals.{one-add}
use Rattle.std.proofs.lemmas.List.{set-get_or, length-map}
use Rattle.std.proofs.lemmas.Map.Steps.{length-le_from_distinct_below}
use Rattle.sched_base.specs.declared.plain_lists.Row.{Row}
use Rattle.sched_base.specs.KeyedList.{KeyedItem, KeyedList, AreKeyed, IsOnce, IsRising, inserted, is_entry, first_entry, next_entry, entry_from, key_of_entry, blank, KeyedRoots, root_at, StandsIn, IsPlaced, IsFree, with_root, with_entry, without_entry, inserted_into, deleted_from}
use Rattle.sched_base.specs.PlainRows.{items_of, lists_from, has_row, AreApart, AreSound, IsWithin}
use Rattle.sched_base.proofs.Inserted.{rising-inserted, rising-filter}

-- the first row of a root is the first item of its list
pub first_of_root : (root : ℕ) (rows : List Row) → option_map (λ (y : Row). y.entry) (find (λ (y : Row). eqb y.root root) rows) ≡ first_entry (items_of root rows)
first_of_root root [] = refl
first_of_root root (y ∷ ys) =
    elim (cases_Bool (eqb y.root root)) [ inl h ↦ rw h refl | inr h ↦ rw h (first_of_root root ys) ]

-- the first row of a root from a key on
pub first_from : (root key : ℕ) (rows : List Row) → option_map (λ (y : Row). y.entry) (find (λ (y : Row). eqb y.root root && leb key y.key) rows) ≡ entry_from key (items_of root rows)
first_from root key [] = refl
first_from root key (y ∷ ys) =
    elim (cases_Bool (eqb y.root root)) [
      | inl h ↦ rw h (elim (cases_Bool (leb key y.key)) [ inl k ↦ rw k refl | inr k ↦ rw k (first_from root key ys) ])
      | inr h ↦ rw h (first_from root key ys)
    ]

-- the first row of its root behind the row of an entry is the next item of its list
pub next_of_root : (entry root : ℕ) (rows : List Row) (i : ℕ) (d : Row) → i < length rows → ((k : ℕ) → k < i → eqb (get_or rows k d).entry entry ≡ false) → eqb (get_or rows i d).entry entry ≡ true → (get_or rows i d).root ≡ root → first_entry (items_of root (drop (suc i) rows)) ≡ next_entry entry (items_of root rows)
next_of_root entry root [] i d lt before here r = absurd (omega arith)
next_of_root entry root (y ∷ ys) zero d lt before here r = rw (eq-eqb y.root root r) (rw here refl)
next_of_root entry root (y ∷ ys) (suc i) d lt before here r =
    let skip : eqb y.entry entry ≡ false = before 0 (omega arith) in
    let rest : first_entry (items_of root (drop (suc i) ys)) ≡ next_entry entry (items_of root ys) = next_of_root entry root ys i d (omega arith) (λ k h. before (suc k) (omega arith)) here r in
    elim (cases_Bool (eqb y.root root)) [ inl h ↦ rw h (rw skip rest) | inr h ↦ rw h rest ]

-- an entry of a root's list has a row
pub has_row_from_list : (entry root : ℕ) (rows : List Row) → list_any (is_entry entry) (items_of root rows) ≡ true → has_row entry rows ≡ true
has_row_from_list entry root [] h = h
has_row_from_list entry root (y ∷ ys) h =
    elim (cases_Bool (eqb y.entry entry)) [
      | inl e ↦ rw e refl
      | inr e ↦ rw e (elim (cases_Bool (eqb y.root root)) [
        | inl r ↦ has_row_from_list entry root ys (rw (r, e) at h)
        | inr r ↦ has_row_from_list entry root ys (rw r at h)
      ])
    ]

-- what a look for the row of an entry finds
pub row_found : (entry : ℕ) (rows : List Row) (y : Row) → find (λ (x : Row). eqb x.entry entry) rows ≡ Some y → list_any (is_entry entry) (items_of y.root rows) ≡ true
row_found entry [] y h = cc
row_found entry (x ∷ xs) y h =
    elim (cases_Bool (eqb x.entry entry)) [
      | inl e ↦ let same : x ≡ y = let k = rw e at h in cc in rw (eq-eqb x.root y.root (ap (λ (z : Row). z.root) same)) (rw e refl)
      | inr e ↦ let rest : list_any (is_entry entry) (items_of y.root xs) ≡ true = row_found entry xs y (rw e at h) in
          elim (cases_Bool (eqb x.root y.root)) [ inl r ↦ rw r (rw e rest) | inr r ↦ rw r rest ]
    ]

-- a row that is found is within the numbers of roots and entries
pub found_within : (roots entries entry : ℕ) (rows : List Row) (y : Row) → AllByRecursion (IsWithin roots entries) rows → find (λ (x : Row). eqb x.entry entry) rows ≡ Some y → y.root < roots
found_within roots entries entry [] y within h = cc
found_within roots entries entry (x ∷ xs) y within h =
    elim (cases_Bool (eqb x.entry entry)) [
      | inl e ↦ let same : x ≡ y = let k = rw e at h in cc in rw same at within.0.root
      | inr e ↦ found_within roots entries entry xs y within.1 (rw e at h)
    ]

-- the one row of an entry that stands in a root
pub row_of_held : (entry root : ℕ) (rows : List Row) → AreApart rows → list_any (is_entry entry) (items_of root rows) ≡ true → (y : Row) × (find (λ (x : Row). eqb x.entry entry) rows ≡ Some y) × (y.root ≡ root) × (key_of_entry entry (items_of root rows) ≡ Some y.key)
row_of_held entry root [] apart h = absurd (false≢true h)
row_of_held entry root (x ∷ xs) apart h =
    elim (cases_Bool (eqb x.entry entry)) [
      | inl e ↦ elim (cases_Bool (eqb x.root root)) [
        | inl r ↦ (x, rw e refl, eqb-true x.root root r, rw r (rw e refl))
        | inr r ↦
            let there : has_row entry xs ≡ true = has_row_from_list entry root xs (rw r at h) in
            let same : x.entry ≡ entry = eqb-true x.entry entry e in
            absurd (false≢true (sym (rw same at apart.0) ∙ there))
      ]
      | inr e ↦ elim (cases_Bool (eqb x.root root)) [
        | inl r ↦ let w = row_of_held entry root xs apart.1 (rw (r, e) at h) in (w.0, rw e w.1, w.2, rw r (rw e w.3))
        | inr r ↦ let w = row_of_held entry root xs apart.1 (rw r at h) in (w.0, rw e w.1, w.2, rw r w.3)
      ]
    ]

-- ---- a row is put in

-- a row goes in where the first one stands that it does not follow
pub insert_at : {X : Type 0} → (p : X → Bool) (x : X) (xs : List X) → insert xs (position_or_len p xs) x ≡ inserted (λ (y : X). not (p y)) x xs
insert_at p x [] = refl
insert_at p x (y ∷ ys) =
    elim (cases_Bool (p y)) [ inl h ↦ rw h refl | inr h ↦ rw h (rw one-add (ap (λ (zs : List _). y ∷ zs) (insert_at p x ys))) ]

-- whether a row stays before one of this root and key
abbrev pub stays : ℕ → ℕ → Row → Bool
stays root key y = not (eqb y.root root && ltb key y.key)

-- its root's list has the new item behind all items of at most its key
pub items_of-inserted : (root entry key : ℕ) (rows : List Row) → items_of root (inserted (stays root key) (record { root = root; key = key; entry = entry }) rows) ≡ inserted (λ (y : KeyedItem). leb y.key key) (record { key = key; entry = entry }) (items_of root rows)
items_of-inserted root entry key [] = rw (eq-eqb root root refl) refl
items_of-inserted root entry key (y ∷ ys) =
    elim (cases_Bool (eqb y.root root)) [
      | inl h ↦ elim (cases_lt key y.key) [
        | inl above ↦ rw (h, lt-ltb key y.key above, lt-leb y.key key above) (rw (eq-eqb root root refl) (rw h refl))
        | inr below ↦ rw (h, le-ltb key y.key below, le-leb y.key key below) (rw h (ap (λ (zs : List KeyedItem). record { key = y.key; entry = y.entry } ∷ zs) (items_of-inserted root entry key ys)))
      ]
      | inr h ↦ rw h (rw h (items_of-inserted root entry key ys))
    ]

-- the lists of other roots stay
pub items_of-inserted_other : (s : Row → Bool) (x : Row) (other : ℕ) (rows : List Row) → (other ≡ x.root → ⊥) → items_of other (inserted s x rows) ≡ items_of other rows
items_of-inserted_other s x other [] ne = rw (ne_eqb x.root other (λ e. ne (sym e))) refl
items_of-inserted_other s x other (y ∷ ys) ne =
    elim (cases_Bool (s y)) [
      | inl h ↦ rw h (elim (cases_Bool (eqb y.root other)) [
        | inl r ↦ rw r (ap (λ (zs : List KeyedItem). record { key = y.key; entry = y.entry } ∷ zs) (items_of-inserted_other s x other ys ne))
        | inr r ↦ rw r (items_of-inserted_other s x other ys ne)
      ])
      | inr h ↦ rw h (rw (ne_eqb x.root other (λ e. ne (sym e))) refl)
    ]

pub has_row-inserted : (s : Row → Bool) (x : Row) (entry : ℕ) (rows : List Row) → eqb x.entry entry ≡ false → has_row entry rows ≡ false → has_row entry (inserted s x rows) ≡ false
has_row-inserted s x entry [] ne h = rw ne refl
has_row-inserted s x entry (y ∷ ys) ne h =
    let p = or_parts (eqb y.entry entry) (has_row entry ys) h in
    elim (cases_Bool (s y)) [ inl k ↦ rw k (rw p.0 (has_row-inserted s x entry ys ne p.1)) | inr k ↦ rw k (rw (ne, p.0) p.1) ]

-- a new entry keeps the rows apart
pub apart-inserted : (s : Row → Bool) (x : Row) (rows : List Row) → has_row x.entry rows ≡ false → AreApart rows → AreApart (inserted s x rows)
apart-inserted s x [] h apart = (refl, tt)
apart-inserted s x (y ∷ ys) h apart =
    let p = or_parts (eqb y.entry x.entry) (has_row x.entry ys) h in
    let ne : eqb x.entry y.entry ≡ false = ne_eqb x.entry y.entry (λ e. eqb-false y.entry x.entry p.0 (sym e)) in
    elim (cases_Bool (s y)) [
      | inl k ↦ rw k (has_row-inserted s x y.entry ys ne apart.0, apart-inserted s x ys p.1 apart.1)
      | inr k ↦ rw k (h, apart)
    ]

pub within-inserted : (P : Row → Type 0) (s : Row → Bool) (x : Row) (rows : List Row) → P x → AllByRecursion P rows → AllByRecursion P (inserted s x rows)
within-inserted P s x [] px all = (px, tt)
within-inserted P s x (y ∷ ys) px all =
    elim (cases_Bool (s y)) [ inl k ↦ rw k (all.0, within-inserted P s x ys px all.1) | inr k ↦ rw k (px, all) ]

-- an entry that no root's list holds has no row
pub free_from_lists : (roots entries entry : ℕ) (rows : List Row) → AllByRecursion (IsWithin roots entries) rows → ((root : ℕ) → root < roots → list_any (is_entry entry) (items_of root rows) ≡ false) → has_row entry rows ≡ false
free_from_lists roots entries entry [] within free = refl
free_from_lists roots entries entry (y ∷ ys) within free =
    let own : list_any (is_entry entry) (items_of y.root (y ∷ ys)) ≡ false = free y.root within.0.root in
    let here : eqb y.entry entry ≡ false = (or_parts _ _ (rw (eq-eqb y.root y.root refl) at own)).0 in
    let rest : (root : ℕ) → root < roots → list_any (is_entry entry) (items_of root ys) ≡ false = λ root h.
    elim (cases_Bool (eqb y.root root)) [
      | inl r ↦ let all = rw r at (free root h) in (or_parts _ _ all).1
      | inr r ↦ rw r at (free root h)
    ] in
    rw here (free_from_lists roots entries entry ys within.1 rest)

-- ---- a row is taken out

-- a deletion of an entry that is not there changes nothing
pub filter_without : (entry : ℕ) (items : List KeyedItem) → list_any (is_entry entry) items ≡ false → filter (λ (y : KeyedItem). not (is_entry entry y)) items ≡ items
filter_without entry [] h = refl
filter_without entry (y ∷ ys) h =
    let p = or_parts (is_entry entry y) (list_any (is_entry entry) ys) h in
    rw p.0 (ap (λ (zs : List KeyedItem). y ∷ zs) (filter_without entry ys p.1))

pub filter_none : (entry : ℕ) (rows : List Row) → has_row entry rows ≡ false → filter (λ (y : Row). not (eqb y.entry entry)) rows ≡ rows
filter_none entry [] h = refl
filter_none entry (y ∷ ys) h =
    let p = or_parts (eqb y.entry entry) (has_row entry ys) h in
    rw p.0 (ap (λ (zs : List Row). y ∷ zs) (filter_none entry ys p.1))

-- to take out the row of an entry leaves the rows of the others
pub remove_is_filter : (entry : ℕ) (rows : List Row) (i : ℕ) (d : Row) → AreApart rows → i < length rows → ((k : ℕ) → k < i → eqb (get_or rows k d).entry entry ≡ false) → eqb (get_or rows i d).entry entry ≡ true → remove rows i ≡ filter (λ (y : Row). not (eqb y.entry entry)) rows
remove_is_filter entry [] i d apart lt before here = absurd (omega arith)
remove_is_filter entry (y ∷ ys) zero d apart lt before here =
    let same : y.entry ≡ entry = eqb-true y.entry entry here in
    rw here (sym (filter_none entry ys (rw same at apart.0)))
remove_is_filter entry (y ∷ ys) (suc i) d apart lt before here =
    let skip : eqb y.entry entry ≡ false = before 0 (omega arith) in
    rw skip (ap (λ (zs : List Row). y ∷ zs) (remove_is_filter entry ys i d apart.1 (omega arith) (λ k h. before (suc k) (omega arith)) here))

-- its root's list has lost its item
pub items_of-filter : (entry root : ℕ) (rows : List Row) → items_of root (filter (λ (y : Row). not (eqb y.entry entry)) rows) ≡ filter (λ (y : KeyedItem). not (is_entry entry y)) (items_of root rows)
items_of-filter entry root [] = refl
items_of-filter entry root (y ∷ ys) =
    elim (cases_Bool (eqb y.entry entry)) [
      | inl e ↦ elim (cases_Bool (eqb y.root root)) [
        | inl r ↦ rw (e, r) (rw e (items_of-filter entry root ys))
        | inr r ↦ rw (e, r) (items_of-filter entry root ys)
      ]
      | inr e ↦ elim (cases_Bool (eqb y.root root)) [
        | inl r ↦ rw e (rw r (rw e (ap (λ (zs : List KeyedItem). record { key = y.key; entry = y.entry } ∷ zs) (items_of-filter entry root ys))))
        | inr r ↦ rw e (rw r (items_of-filter entry root ys))
      ]
    ]

-- ---- what the rows mean

-- what the rows and the insertions mean
abbrev pub meaning : List Row → List ℕ → ℕ → KeyedRoots
meaning rows ns entries = record { roots = lists_from 0 rows ns; entries = entries }

pub length-lists_from : (b : ℕ) (rows : List Row) (ns : List ℕ) → length (lists_from b rows ns) ≡ length ns
length-lists_from b rows [] = refl
length-lists_from b rows (n ∷ ns) = ap suc (length-lists_from (b + 1) rows ns)

pub get_or-lists_from : (b : ℕ) (rows : List Row) (ns : List ℕ) (r : ℕ) → r < length ns → get_or (lists_from b rows ns) r blank ≡ record { items = items_of (b + r) rows; insertions = get_or ns r 0 }
get_or-lists_from b rows [] r lt = absurd (omega arith)
get_or-lists_from b rows (n ∷ ns) zero lt = let e : b ≡ b + 0 = omega arith in ap (λ k. let l : KeyedList = record { items = items_of k rows; insertions = n } in l) e
get_or-lists_from b rows (n ∷ ns) (suc r) lt =
    let e : b + 1 + r ≡ b + suc r = omega arith in
    get_or-lists_from (b + 1) rows ns r (omega arith) ∙ ap (λ k. let l : KeyedList = record { items = items_of k rows; insertions = get_or ns r 0 } in l) e

-- rows of roots before this one that changed
pub lists_from-same : (b : ℕ) (rows after : List Row) (ns : List ℕ) → ((k : ℕ) → b ≤ k → items_of k after ≡ items_of k rows) → lists_from b after ns ≡ lists_from b rows ns
lists_from-same b rows after [] same = refl
lists_from-same b rows after (n ∷ ns) same =
    rw (same b (omega arith)) (ap (λ (ls : List KeyedList). record { items = items_of b rows; insertions = n } ∷ ls) (lists_from-same (b + 1) rows after ns (λ k le. same k (omega arith))))

-- rows of one root that changed, with a new count of its insertions; q is that root
pub lists_from-set : (b : ℕ) (rows after : List Row) (ns : List ℕ) (r n q : ℕ) → q ≡ b + r → ((k : ℕ) → (k ≡ q → ⊥) → items_of k after ≡ items_of k rows) → r < length ns → lists_from b after (set ns r n) ≡ set (lists_from b rows ns) r (record { items = items_of q after; insertions = n })
lists_from-set b rows after [] r n q e others lt = absurd (omega arith)
lists_from-set b rows after (m ∷ ns) zero n q e others lt =
    let z : b ≡ q = omega arith in
    rw z (ap (λ (ls : List KeyedList). record { items = items_of q after; insertions = n } ∷ ls) (lists_from-same (q + 1) rows after ns (λ k le. others k (omega arith))))
lists_from-set b rows after (m ∷ ns) (suc r) n q e others lt =
    rw (others b (omega arith)) (ap (λ (ls : List KeyedList). record { items = items_of b rows; insertions = m } ∷ ls) (lists_from-set (b + 1) rows after ns r n q (omega arith) others (omega arith)))

module _ (rows : List Row) (ns : List ℕ) (entries : ℕ) (s : KeyedRoots) (is : meaning rows ns entries ≡ s) where
  -- as many roots as counts
  pub roots_of : length s.roots ≡ length ns
  roots_of = ap (λ (t : KeyedRoots). length t.roots) (sym is) ∙ length-lists_from 0 rows ns

  -- the list of a root
  pub list_at : (r : ℕ) → r < length s.roots → root_at r s ≡ record { items = items_of r rows; insertions = get_or ns r 0 }
  list_at r lt =
      let here : root_at r s ≡ get_or (lists_from 0 rows ns) r blank = ap (λ (t : KeyedRoots). root_at r t) (sym is) in
      let z : 0 + r ≡ r = omega arith in
      here ∙ get_or-lists_from 0 rows ns r (omega (arith, roots_of)) ∙ ap (λ k. let l : KeyedList = record { items = items_of k rows; insertions = get_or ns r 0 } in l) z

  pub items_at : (r : ℕ) → r < length s.roots → (root_at r s).items ≡ items_of r rows
  items_at r lt = ap (λ (l : KeyedList). l.items) (list_at r lt)

  -- an entry that stands in a root
  pub held_at : (r entry : ℕ) → StandsIn r entry s → list_any (is_entry entry) (items_of r rows) ≡ true
  held_at r entry h = rw (items_at r h.exists) at h.held

  pub stands_at : (r entry : ℕ) → r < length ns → list_any (is_entry entry) (items_of r rows) ≡ true → StandsIn r entry s
  stands_at r entry lt h =
      let within : r < length s.roots = omega (arith, roots_of) in
      record { exists = within; held = rw (items_at r within) h }

  pub placed_row : (entry : ℕ) → AreApart rows → IsPlaced entry s → (y : Row) × (find (λ (y : Row). eqb y.entry entry) rows ≡ Some y)
  placed_row entry apart h = let w = row_of_held entry h.0 rows apart (held_at h.0 entry h.1) in (w.0, w.1)

-- what is found stands somewhere
pub place_of_found : {X : Type 0} → (p : X → Bool) (xs : List X) (y : X) → find p xs ≡ Some y → position_or_len p xs < length xs
place_of_found p [] y h = cc
place_of_found p (x ∷ xs) y h =
    elim (cases_Bool (p x)) [ inl k ↦ rw k (omega arith) | inr k ↦ let rest : position_or_len p xs < length xs = place_of_found p xs y (rw k at h) in rw k (omega arith) ]

pub position_of_found : {X : Type 0} → (p : X → Bool) (xs : List X) (y : X) → find p xs ≡ Some y → position p xs ≡ Some (position_or_len p xs)
position_of_found p xs y h = rw (lt-ltb _ _ (place_of_found p xs y h)) refl

-- the row of an entry has one root
pub one_root : (rows : List Row) (entry root other : ℕ) → AreApart rows → list_any (is_entry entry) (items_of root rows) ≡ true → list_any (is_entry entry) (items_of other rows) ≡ true → root ≡ other
one_root rows entry root other apart h k =
    let v = row_of_held entry root rows apart h in
    let w = row_of_held entry other rows apart k in
    let same : v.0 ≡ w.0 = let e : Some v.0 ≡ Some w.0 = sym v.1 ∙ w.1 in cc in
    sym v.2 ∙ ap (λ (y : Row). y.root) same ∙ w.2

-- an entry of one root's list is in no other
pub not_elsewhere : (rows : List Row) (entry root other : ℕ) → AreApart rows → list_any (is_entry entry) (items_of root rows) ≡ true → (other ≡ root → ⊥) → filter (λ (y : KeyedItem). not (is_entry entry y)) (items_of other rows) ≡ items_of other rows
not_elsewhere rows entry root other apart held ne =
    elim (cases_Bool (list_any (is_entry entry) (items_of other rows))) [
      | inl h ↦ absurd (ne (one_root rows entry other root apart h held))
      | inr h ↦ filter_without entry (items_of other rows) h
    ]

-- ---- what insertions and deletions mean

module _ (rows : List Row) (ns : List ℕ) (entries : ℕ) (s : KeyedRoots) (is : meaning rows ns entries ≡ s) (root entry key : ℕ) (exists : root < length s.roots) where
  pub insertion_means : (place : ℕ) → place ≡ position_or_len (λ (y : Row). eqb y.root root && ltb key y.key) rows → meaning (insert rows place (record { root = root; key = key; entry = entry })) (set ns root (get_or ns root 0 + 1)) entries ≡ inserted_into root entry key s
  insertion_means place at_place =
      let x : Row = record { root = root; key = key; entry = entry } in
      let after : List Row = insert rows place x in
      let as_inserted : after ≡ inserted (stays root key) x rows = ap (λ i. insert rows i x) at_place ∙ insert_at _ x rows in
      let own : items_of root after ≡ (with_entry key entry (root_at root s)).items = ap (items_of root) as_inserted ∙ items_of-inserted root entry key rows ∙ ap (λ (l : KeyedList). (with_entry key entry l).items) (sym (list_at rows ns entries s is root exists)) in
      let others : (k : ℕ) → (k ≡ root → ⊥) → items_of k after ≡ items_of k rows = λ k ne. ap (items_of k) as_inserted ∙ items_of-inserted_other (stays root key) x k rows ne in
      let count : get_or ns root 0 + 1 ≡ (with_entry key entry (root_at root s)).insertions = ap (λ (l : KeyedList). l.insertions + 1) (sym (list_at rows ns entries s is root exists)) in
      let lists : lists_from 0 after (set ns root (get_or ns root 0 + 1)) ≡ set (lists_from 0 rows ns) root (record { items = items_of root after; insertions = get_or ns root 0 + 1 }) = lists_from-set 0 rows after ns root _ root (omega arith) others (omega (arith, roots_of rows ns entries s is)) in
      ap (λ (ls : List KeyedList). let t : KeyedRoots = record { roots = ls; entries = entries } in t) lists
      ∙ rw (own, count) (ap (with_root root (with_entry key entry (root_at root s))) is)

  pub deletion_means : (after : List Row) → after ≡ filter (λ (y : Row). not (eqb y.entry entry)) rows → AreApart rows → StandsIn root entry s → meaning after ns entries ≡ deleted_from root entry s
  deletion_means after as_filter apart stands =
      let own : items_of root after ≡ (without_entry entry (root_at root s)).items = ap (items_of root) as_filter ∙ items_of-filter entry root rows ∙ ap (λ (l : KeyedList). (without_entry entry l).items) (sym (list_at rows ns entries s is root exists)) in
      let others : (k : ℕ) → (k ≡ root → ⊥) → items_of k after ≡ items_of k rows = λ k ne. ap (items_of k) as_filter ∙ items_of-filter entry k rows ∙ not_elsewhere rows entry root k apart (held_at rows ns entries s is root entry stands) ne in
      let count : get_or ns root 0 ≡ (without_entry entry (root_at root s)).insertions = ap (λ (l : KeyedList). l.insertions) (sym (list_at rows ns entries s is root exists)) in
      let lists : lists_from 0 after (set ns root (get_or ns root 0)) ≡ set (lists_from 0 rows ns) root (record { items = items_of root after; insertions = get_or ns root 0 }) = lists_from-set 0 rows after ns root _ root (omega arith) others (omega (arith, roots_of rows ns entries s is)) in
      ap (λ (ms : List ℕ). meaning after ms entries) (sym (set-get_or ns root 0))
      ∙ ap (λ (ls : List KeyedList). let t : KeyedRoots = record { roots = ls; entries = entries } in t) lists
      ∙ rw (own, count) (ap (with_root root (without_entry entry (root_at root s))) is)

-- the root in a row that was found
pub root_is_found : (rows : List Row) (ns : List ℕ) (entries : ℕ) (s : KeyedRoots) → meaning rows ns entries ≡ s → (entry : ℕ) → AreSound (length ns) entries rows → (r : Option ℕ) → r ≡ option_map (λ (y : Row). y.root) (find (λ (y : Row). eqb y.entry entry) rows) → IfSome r (λ root. StandsIn root entry s)
root_is_found rows ns entries s is entry sound r e =
    let P : Option Row → Type 0 = λ o. find (λ (y : Row). eqb y.entry entry) rows ≡ o → IfSome (option_map (λ (y : Row). y.root) o) (λ root. StandsIn root entry s) in
    let both : (o : Option Row) → P o = λ o. elim o as P [
      | None ↦ λ h. tt
      | Some y ↦ λ h. stands_at rows ns entries s is y.root entry (found_within (length ns) entries entry rows y sound.within h) (row_found entry rows y h)
    ] in
    rw e (both (find (λ (y : Row). eqb y.entry entry) rows) refl)

-- ---- what an insertion needs

pub place_within : {X : Type 0} → (p : X → Bool) (xs : List X) → position_or_len p xs ≤ length xs
place_within p [] = omega arith
place_within p (x ∷ xs) =
    let rest : position_or_len p xs ≤ length xs = place_within p xs in
    elim (cases_Bool (p x)) [ inl k ↦ rw k (omega arith) | inr k ↦ rw k (omega arith) ]

pub place_is : {X : Type 0} → (p : X → Bool) (xs : List X) → unwrap_or (position p xs) (length xs) ≡ position_or_len p xs
place_is p xs =
    elim (cases_lt (position_or_len p xs) (length xs)) [
      | inl lt ↦ rw (lt-ltb _ _ lt) refl
      | inr le ↦ let within : position_or_len p xs ≤ length xs = place_within p xs in rw (le-ltb _ _ le) (omega arith)
    ]

pub differs : (entry : ℕ) (rows : List Row) → has_row entry rows ≡ false → AllByRecursion (λ (m : ℕ). eqb entry m ≡ false) (map (λ (y : Row). y.entry) rows)
differs entry [] h = tt
differs entry (z ∷ zs) h =
    let p = or_parts (eqb z.entry entry) (has_row entry zs) h in
    (ne_eqb entry z.entry (λ e. eqb-false z.entry entry p.0 (sym e)), differs entry zs p.1)

pub distinct_entries : (rows : List Row) → AreApart rows → IsDistinct eqb (map (λ (y : Row). y.entry) rows)
unfolding IsDistinct
distinct_entries [] apart = tt
distinct_entries (y ∷ ys) apart = (differs y.entry ys apart.0, distinct_entries ys apart.1)

pub entries_below : (roots entries : ℕ) (rows : List Row) → AllByRecursion (IsWithin roots entries) rows → (q : ℕ) → list_any (eqb q) (map (λ (y : Row). y.entry) rows) ≡ true → q < entries
entries_below roots entries [] within q h = absurd (false≢true h)
entries_below roots entries (y ∷ ys) within q h =
    elim (cases_Bool (eqb q y.entry)) [
      | inl e ↦ let same : q ≡ y.entry = eqb-true q y.entry e in let below : y.entry < entries = within.0.entry in omega arith
      | inr e ↦ entries_below roots entries ys within.1 q (rw e at h)
    ]

-- a new entry finds room
pub room_for_new : (roots entries entry : ℕ) (rows : List Row) → AreSound roots entries rows → has_row entry rows ≡ false → entry < entries → length rows < entries
room_for_new roots entries entry rows sound free lt =
    let x : Row = record { root = 0; key = 0; entry = entry } in
    let all = distinct_entries (x ∷ rows) (free, sound.apart) in
    let below : (q : ℕ) → list_any (eqb q) (map (λ (y : Row). y.entry) (x ∷ rows)) ≡ true → q < entries = λ q h.
    elim (cases_Bool (eqb q entry)) [
      | inl e ↦ let same : q ≡ entry = eqb-true q entry e in omega arith
      | inr e ↦ entries_below roots entries rows sound.within q (rw e at h)
    ] in
    let count : length (map (λ (y : Row). y.entry) (x ∷ rows)) ≤ entries = length-le_from_distinct_below _ entries all below in
    omega (arith, length-map rows (λ (y : Row). y.entry))

pub free_rows : (rows : List Row) (ns : List ℕ) (entries : ℕ) (s : KeyedRoots) → meaning rows ns entries ≡ s → (entry : ℕ) → AreSound (length ns) entries rows → IsFree entry s → has_row entry rows ≡ false
free_rows rows ns entries s is entry sound free =
    free_from_lists (length ns) entries entry rows sound.within (λ root lt.
    let within : root < length s.roots = omega (arith, roots_of rows ns entries s is) in
    rw (items_at rows ns entries s is root within) at (free root within))

-- keys still never fall along a root's rows
pub rising_rows-inserted : (root entry key : ℕ) (rows : List Row) → ((r : ℕ) → IsRising (items_of r rows)) → (r : ℕ) → IsRising (items_of r (inserted (stays root key) (record { root = root; key = key; entry = entry }) rows))
rising_rows-inserted root entry key rows rising r =
    elim (cases_eq r root) [
      | inl e ↦ rw (e, items_of-inserted root entry key rows) (rising-inserted key (record { key = key; entry = entry }) (items_of root rows) refl (rising root))
      | inr ne ↦ rw (items_of-inserted_other (stays root key) (record { root = root; key = key; entry = entry }) r rows ne) (rising r)
    ]

pub sound-insert : (roots entries place root entry key : ℕ) (rows : List Row) → place ≡ position_or_len (λ (y : Row). eqb y.root root && ltb key y.key) rows → AreSound roots entries rows → has_row entry rows ≡ false → root < roots → entry < entries → AreSound roots entries (insert rows place (record { root = root; key = key; entry = entry }))
sound-insert roots entries place root entry key rows at_place sound free r e =
    let x : Row = record { root = root; key = key; entry = entry } in
    let as_inserted : insert rows place x ≡ inserted (stays root key) x rows = ap (λ i. insert rows i x) at_place ∙ insert_at (λ (y : Row). eqb y.root root && ltb key y.key) x rows in
    rw as_inserted (record {
      apart = apart-inserted (stays root key) x rows free sound.apart;
      within = within-inserted (IsWithin roots entries) (stays root key) x rows (record { root = r; entry = e }) sound.within;
      rising = rising_rows-inserted root entry key rows sound.rising;
    })

pub has_row-filter : (entry gone : ℕ) (rows : List Row) → has_row entry rows ≡ false → has_row entry (filter (λ (y : Row). not (eqb y.entry gone)) rows) ≡ false
has_row-filter entry gone [] h = refl
has_row-filter entry gone (y ∷ ys) h =
    let p = or_parts (eqb y.entry entry) (has_row entry ys) h in
    elim (cases_Bool (eqb y.entry gone)) [ inl e ↦ rw e (has_row-filter entry gone ys p.1) | inr e ↦ rw e (rw p.0 (has_row-filter entry gone ys p.1)) ]

pub apart-filter : (gone : ℕ) (rows : List Row) → AreApart rows → AreApart (filter (λ (y : Row). not (eqb y.entry gone)) rows)
apart-filter gone [] apart = tt
apart-filter gone (y ∷ ys) apart =
    elim (cases_Bool (eqb y.entry gone)) [ inl e ↦ rw e (apart-filter gone ys apart.1) | inr e ↦ rw e (has_row-filter y.entry gone ys apart.0, apart-filter gone ys apart.1) ]

pub within-filter : (P : Row → Type 0) (gone : ℕ) (rows : List Row) → AllByRecursion P rows → AllByRecursion P (filter (λ (y : Row). not (eqb y.entry gone)) rows)
within-filter P gone [] all = tt
within-filter P gone (y ∷ ys) all =
    elim (cases_Bool (eqb y.entry gone)) [ inl e ↦ rw e (within-filter P gone ys all.1) | inr e ↦ rw e (all.0, within-filter P gone ys all.1) ]

pub sound-filter : (roots entries gone : ℕ) (rows : List Row) → AreSound roots entries rows → AreSound roots entries (filter (λ (y : Row). not (eqb y.entry gone)) rows)
sound-filter roots entries gone rows sound = record {
  apart = apart-filter gone rows sound.apart;
  within = within-filter (IsWithin roots entries) gone rows sound.within;
  rising = λ root. rw (items_of-filter gone root rows) (rising-filter (λ (y : KeyedItem). not (is_entry gone y)) (items_of root rows) (sound.rising root));
}

-- ---- the rows are keyed lists

pub once_rows : (root : ℕ) (rows : List Row) → AreApart rows → IsOnce (items_of root rows)
once_rows root [] apart = tt
once_rows root (y ∷ ys) apart =
    elim (cases_Bool (eqb y.root root)) [
      | inl h ↦ rw h (elim (cases_Bool (list_any (is_entry y.entry) (items_of root ys))) [
        | inl k ↦ absurd (false≢true (sym apart.0 ∙ has_row_from_list y.entry root ys k))
        | inr k ↦ (k, once_rows root ys apart.1)
      ])
      | inr h ↦ rw h (once_rows root ys apart.1)
    ]

pub rows_keyed : (rows : List Row) (ns : List ℕ) (entries : ℕ) (s : KeyedRoots) → meaning rows ns entries ≡ s → AreSound (length ns) entries rows → AreKeyed s
rows_keyed rows ns entries s is sound = record {
  keyed = λ root lt.
      let items : (root_at root s).items ≡ items_of root rows = items_at rows ns entries s is root lt in
      record { rising = rw items (sound.rising root); once = rw items (once_rows root rows sound.apart) };
  one = λ entry root other h k. one_root rows entry root other sound.apart (held_at rows ns entries s is root entry h) (held_at rows ns entries s is other entry k);
}

-- no rows and no insertions mean empty roots
pub lists_from-none : (b n : ℕ) → lists_from b [] (replicate n 0) ≡ replicate n blank
lists_from-none b zero = refl
lists_from-none b (suc n) = ap (λ (ls : List KeyedList). blank ∷ ls) (lists_from-none (b + 1) n)

pub empty_means : (rows : List Row) (ns : List ℕ) (n entries : ℕ) → rows ≡ [] → ns ≡ replicate n 0 → meaning rows ns entries ≡ record { roots = replicate n blank; entries = entries }
empty_means rows ns n entries none counts = rw (none, counts) (ap (λ (ls : List KeyedList). let t : KeyedRoots = record { roots = ls; entries = entries } in t) (lists_from-none 0 n))

-- what is found is what stands at its place
pub found_at : {X : Type 0} → (p : X → Bool) (xs : List X) (i : ℕ) (d : X) → i < length xs → ((k : ℕ) → k < i → p (get_or xs k d) ≡ false) → p (get_or xs i d) ≡ true → find p xs ≡ Some (get_or xs i d)
found_at p [] i d lt before here = absurd (omega arith)
found_at p (x ∷ xs) zero d lt before here = rw here refl
found_at p (x ∷ xs) (suc i) d lt before here = rw (before 0 (omega arith)) (found_at p xs i d (omega arith) (λ k h. before (suc k) (omega arith)) here)
