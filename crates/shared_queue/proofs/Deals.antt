-- What deals make of words, homes and the shared run list.
use Rattle.std.proofs.Common.{◌≡◌, ◌≢◌, ℕ, suc, ◌+◌, ◌-◌, ◌*◌, ◌/◌, ◌%◌, ◌^◌, ◌<◌, ◌≤◌, Bool, true, false, eqb, List, [], ◌∷◌, ◌++◌, Option, None, Some, map, take, drop, length, get_or, set, refl, sym, ap, subst, ◌∙◌, inl, inr, arith, get_or-set_same, get_or-set_other, w64, eqb-true, eq-eqb}
use Rattle.std.specs.Prelude.{bit_and, bit_or}
use Rattle.std.specs.Int.{bit_at, bit_not}
use Rattle.std.specs.List.{list_any, enumerate_from, AllByRecursion}
use Rattle.std.specs.Option.{is_some}
use Rattle.std.proofs.lemmas.Bool.{cases_Bool, cases_eq, cases_lt, false≢true}
use Rattle.std.proofs.lemmas.List.{get_or_past, drop_all, take_all, drop-drop, map-append, length-take-le, length-map, length-drop}
use Rattle.std.proofs.lemmas.List.Sums.{fold-append}
use Rattle.std.proofs.lemmas.Nat.Bits.{bit_at-zero, bit_at_clear_other}
use Rattle.std.proofs.Math.Seq.{take-add}
use Rattle.sched_base.specs.KeyedList.{KeyedItem, KeyedRoots, AreKeyed, IsOnce, root_at, is_entry}
use Rattle.queue_model.specs.RunList.{RunItem, RunList, least, without_least, is_listed, hands_out}
use Rattle.queue_model.proofs.Walk.{all-walked}
use Rattle.queue_model.proofs.WalkItems.{once_walked}
use Rattle.run_queue.specs.Runners.{Runners, entry_of, now_of, run_item, run_list, in_order, first_task, IsRunner, Fits}
use Rattle.run_queue.proofs.Meaning.{never_listed}
use Rattle.wake_board.specs.Rows.{WordRow, box_at, row_dealt}
use Rattle.wake_board.proofs.Boxes.{box_places, mask_pow}
use Rattle.shared_queue.specs.Dealing.{is_boxed, AreBoxed, words_dealt, homes_dealt}

-- ---- the first task

-- where there is a first task
pub record HasFirst (l : RunList) (i : ℕ) : Type 0 where
  pub item : RunItem
  pub rest : List RunItem
  pub items : l.items ≡ item ∷ rest
  pub task : item.task ≡ i

first_of_items : (items : List RunItem) (i : ℕ) → first_task items ≡ Some i → (y : RunItem) × (ys : List RunItem) × (items ≡ y ∷ ys) × (y.task ≡ i)
first_of_items [] i e = cc
first_of_items (y ∷ ys) i e = (y, ys, refl, cc)

pub first_found : (l : RunList) (i : ℕ) → first_task l.items ≡ Some i → HasFirst l i
first_found l i e =
    let f = first_of_items l.items i e in
    record { item = f.0; rest = f.1; items = f.2; task = f.3 }

pub least_one : (l : RunList) (i : ℕ) → first_task l.items ≡ Some i → least 1 l ≡ i ∷ []
least_one l i e =
    let f = first_found l i e in
    ap (λ (ys : List RunItem). map (λ (y : RunItem). y.task) (take 1 ys)) f.items ∙ ap (λ (x : ℕ). x ∷ []) f.task

none_of_items : (items : List RunItem) → first_task items ≡ None → items ≡ []
none_of_items [] e = refl
none_of_items (y ∷ ys) e = cc

pub least_none : (l : RunList) → first_task l.items ≡ None → l.items ≡ []
least_none l e = none_of_items l.items e

first_of_once : (count i : ℕ) (entries : ℕ) (xs : List KeyedItem) → AllByRecursion (IsRunner entries) xs → IsOnce xs → first_task (map (run_item count) xs) ≡ Some i → (2 * i + 1 < entries) × (list_any (λ (z : RunItem). eqb z.task i) (drop 1 (map (run_item count) xs)) ≡ false)
first_of_once count i entries [] all once e = cc
first_of_once count i entries (y ∷ ys) all once e =
    let own : y.entry / 2 ≡ i = cc in
    let whole : y.entry ≡ entry_of (y.entry / 2) = all.0.entry in
    let named : y.entry ≡ entry_of i = whole ∙ ap entry_of own in
    let exists : y.entry < entries = all.0.exists in
    let rest : list_any (is_entry (entry_of i)) ys ≡ false = ap (λ (n : ℕ). list_any (is_entry n) ys) (sym named) ∙ once.0 in
    (omega arith, never_listed count i ys entries all.1 rest)

-- the first task exists, and does not wait a second time
pub first_once : (q : Runners) (s : KeyedRoots) (i : ℕ) → Fits q s → AreKeyed s → first_task (run_list q s).items ≡ Some i → (2 * i + 1 < s.entries) × (is_listed i (without_least 1 (run_list q s)) ≡ false)
first_once q s i f keyed e =
    first_of_once q.count i s.entries (in_order q s) (all-walked (IsRunner s.entries) (now_of q.count) (root_at q.root s).items f.runners) (once_walked (now_of q.count) (root_at q.root s).items (keyed.keyed q.root f.exists).once) e

any-drop : (p : RunItem → Bool) (xs : List RunItem) → list_any p (drop 1 xs) ≡ true → list_any p xs ≡ true
any-drop p [] h = h
any-drop p (x ∷ xs) h = elim (cases_Bool (p x)) [ inl k ↦ rw k refl | inr k ↦ rw k h ]

first_listed : (l : RunList) (i : ℕ) → first_task l.items ≡ Some i → is_listed i l ≡ true
first_listed l i e =
    let f = first_found l i e in
    ap (list_any (λ (z : RunItem). eqb z.task i)) f.items ∙ rw (eq-eqb f.item.task i f.task) refl

-- ---- a deal keeps the bits of other tasks

-- a task whose bit is set has a word
has_word : (row : List ℕ) (at j : ℕ) → bit_at (get_or row at 0) j ≡ 1 → at < length row
has_word row at j set' =
    elim (cases_lt at (length row)) [
      | inl l ↦ l
      | inr past ↦
          (let zero' : bit_at (get_or row at 0) j ≡ 0 = ap (λ (x : ℕ). bit_at x j) (get_or_past row at 0 past) ∙ bit_at-zero j in
          absurd (omega arith))
    ]

-- a bit is kept where another one is cleared
cleared_other : (word a b : ℕ) → a < 64 → b < 64 → b ≢ a → bit_at (bit_and word (bit_not w64 (2 ^ a))) b ≡ bit_at word b
cleared_other word a b la lb ne =
    ap (λ (m : ℕ). bit_at (bit_and word (bit_not w64 m)) b) (sym (mask_pow a la)) ∙ bit_at_clear_other w64 word a la b lb ne

pub dealt_keeps : (ws : WordRow) (i j worker : ℕ) → i < ws.tasks → j < ws.tasks → worker < ws.workers → i ≢ j → is_boxed ws j ≡ true → is_boxed (row_dealt ws i worker) j ≡ true
dealt_keeps ws i j worker li lj lw ne there =
    let n : ℕ = ws.tasks in
    let from : ℕ = box_at n ws.workers (i / 64) in
    let to : ℕ = box_at n worker (i / 64) in
    let at : ℕ = box_at n ws.workers (j / 64) in
    let less : ℕ = bit_and (get_or ws.row from 0) (bit_not w64 (2 ^ (i % 64))) in
    let row : List ℕ = set ws.row from less in
    let bit : bit_at (get_or ws.row at 0) (j % 64) ≡ 1 = eqb-true (bit_at (get_or ws.row at 0) (j % 64)) 1 there in
    let apart : at ≢ to = λ e. (let same = (box_places n ws.workers (j / 64) worker (i / 64) (omega arith) (omega arith) e).0 in absurd (omega arith)) in
    let kept : get_or (set row to (bit_or (get_or row to 0) (2 ^ (i % 64)))) at 0 ≡ get_or row at 0 = get_or-set_other row to at (bit_or (get_or row to 0) (2 ^ (i % 64))) 0 apart in
    let stays : bit_at (get_or row at 0) (j % 64) ≡ bit_at (get_or ws.row at 0) (j % 64) = elim (cases_eq (j / 64) (i / 64)) [
      | inl same ↦
          (let here : at ≡ from = ap (box_at n ws.workers) same in
          let room : from < length ws.row = subst (λ (x : ℕ). x < length ws.row) here (has_word ws.row at (j % 64) bit) in
          let value : get_or row at 0 ≡ less = ap (λ (x : ℕ). get_or row x 0) here ∙ get_or-set_same ws.row from less 0 room in
          ap (λ (x : ℕ). bit_at x (j % 64)) value ∙ (cleared_other (get_or ws.row from 0) (i % 64) (j % 64) (omega arith) (omega arith) (omega arith) ∙ ap (λ (x : ℕ). bit_at (get_or ws.row x 0) (j % 64)) (sym here)))
      | inr far ↦
          (let away : at ≢ from = λ e. far (box_places n ws.workers (j / 64) ws.workers (i / 64) (omega arith) (omega arith) e).1 in
          ap (λ (x : ℕ). bit_at x (j % 64)) (get_or-set_other ws.row from at less 0 away))
    ] in
    eq-eqb (bit_at (get_or (set row to (bit_or (get_or row to 0) (2 ^ (i % 64)))) at 0) (j % 64)) 1 (ap (λ (x : ℕ). bit_at x (j % 64)) kept ∙ (stays ∙ bit))

-- each task that still waits is still in the shared box
pub dealt_boxed : (l : RunList) (ws : WordRow) (i worker : ℕ) → i < ws.tasks → ((j : ℕ) → is_listed j l ≡ true → j < ws.tasks) → worker < ws.workers → is_listed i (without_least 1 l) ≡ false → AreBoxed l ws → AreBoxed (without_least 1 l) (row_dealt ws i worker)
dealt_boxed l ws i worker li all lw apart boxed j waits =
    let there : is_listed j l ≡ true = any-drop (λ (z : RunItem). eqb z.task j) l.items waits in
    dealt_keeps ws i j worker li (all j there) lw (λ e. false≢true (sym apart ∙ (ap (λ (x : ℕ). is_listed x (without_least 1 l)) e ∙ waits))) (boxed j there)

pub boxed_after : (l new : RunList) (ws after : WordRow) (i worker : ℕ) → new ≡ without_least 1 l → after ≡ row_dealt ws i worker → i < ws.tasks → ((j : ℕ) → is_listed j l ≡ true → j < ws.tasks) → worker < ws.workers → is_listed i (without_least 1 l) ≡ false → AreBoxed l ws → AreBoxed new after
boxed_after l new ws after i worker list words li all lw apart boxed =
    subst (λ (m : RunList). AreBoxed m after) (sym list) (subst (AreBoxed (without_least 1 l)) (sym words) (dealt_boxed l ws i worker li all lw apart boxed))

-- ---- many deals

enumerate_more : (n : ℕ) (xs ys : List ℕ) → enumerate_from n (xs ++ ys) ≡ enumerate_from n xs ++ enumerate_from (n + length xs) ys
enumerate_more n [] ys = let z : n + 0 ≡ n = omega arith in rw z refl
enumerate_more n (x ∷ xs) ys =
    let z : n + 1 + length xs ≡ n + suc (length xs) = omega arith in
    ap (λ (l : List (ℕ × ℕ)). (n, x) ∷ l) (enumerate_more (n + 1) xs ys ∙ ap (λ (k : ℕ). enumerate_from (n + 1) xs ++ enumerate_from k ys) z)

-- one more hand
one_hand : (workers n : ℕ) (items : List RunItem) → map (λ (p : ℕ × ℕ). let h : ℕ × ℕ = (p.0 % workers, p.1) in h) (enumerate_from n (map (λ (y : RunItem). y.task) (take 1 items))) ≡ map (λ (i : ℕ). let h : ℕ × ℕ = (n % workers, i) in h) (map (λ (y : RunItem). y.task) (take 1 items))
one_hand workers n [] = refl
one_hand workers n (y ∷ ys) = refl

pub hands_more : (workers n : ℕ) (l : RunList) → n ≤ length l.items → hands_out workers (n + 1) l ≡ hands_out workers n l ++ map (λ (i : ℕ). let h : ℕ × ℕ = (n % workers, i) in h) (least 1 (without_least n l))
hands_more workers n l le =
    let xs : List RunItem = l.items in
    let hand : ℕ × ℕ → ℕ × ℕ = λ p. (p.0 % workers, p.1) in
    let task : RunItem → ℕ = λ y. y.task in
    let front : List ℕ = map task (take n xs) in
    let one : List ℕ = map task (take 1 (drop n xs)) in
    let tasks : map task (take (n + 1) xs) ≡ front ++ one = ap (map task) (take-add n 1 xs) ∙ map-append task (take n xs) (take 1 (drop n xs)) in
    let count : 0 + length front ≡ n = (let a : length front ≡ length (take n xs) = length-map (take n xs) task in let b : length (take n xs) ≡ n = length-take-le n xs le in omega arith) in
    ap (λ (ids : List ℕ). map hand (enumerate_from 0 ids)) tasks
    ∙ (ap (map hand) (enumerate_more 0 front one ∙ ap (λ (k : ℕ). enumerate_from 0 front ++ enumerate_from k one) count)
    ∙ (map-append hand (enumerate_from 0 front) (enumerate_from n one)
    ∙ ap (λ (hs : List (ℕ × ℕ)). map hand (enumerate_from 0 front) ++ hs) (one_hand workers n (drop n xs))))

pub words_more : (hs more : List (ℕ × ℕ)) (ws : WordRow) → words_dealt (hs ++ more) ws ≡ words_dealt more (words_dealt hs ws)
words_more hs more ws = fold-append (λ (w : WordRow) (h : ℕ × ℕ). row_dealt w h.1 h.0) ws hs more

pub homes_more : (hs more : List (ℕ × ℕ)) (homes : List ℕ) → homes_dealt (hs ++ more) homes ≡ homes_dealt more (homes_dealt hs homes)
homes_more hs more homes = fold-append (λ (x : List ℕ) (h : ℕ × ℕ). set x h.1 h.0) homes hs more

-- the numbers of tasks and workers stay
pub words_sizes : (hs : List (ℕ × ℕ)) (ws : WordRow) → ((words_dealt hs ws).tasks ≡ ws.tasks) × ((words_dealt hs ws).workers ≡ ws.workers)
words_sizes [] ws = (refl, refl)
words_sizes (h ∷ hs) ws = words_sizes hs (row_dealt ws h.1 h.0)

-- ---- no task is left

-- a run list of which the first n are all
pub record AreAll (workers n most : ℕ) (l : RunList) : Type 0 where
  pub count : length (least most l) ≡ n
  pub list : without_least most l ≡ without_least n l
  pub hands : hands_out workers most l ≡ hands_out workers n l

pub none_left : (workers n most : ℕ) (l : RunList) → n ≤ length l.items → n ≤ most → (without_least n l).items ≡ [] → AreAll workers n most l
none_left workers n most l le lm none =
    let xs : List RunItem = l.items in
    let task : RunItem → ℕ = λ y. y.task in
    let gone : length xs - n ≡ 0 = sym (length-drop n xs) ∙ ap (λ (ys : List RunItem). length ys) none in
    let same : take most xs ≡ take n xs = take_all most xs (omega arith) ∙ sym (take_all n xs (omega arith)) in
    record {
      count = length-map (take most xs) task ∙ (ap (λ (ys : List RunItem). length ys) same ∙ length-take-le n xs le);
      list = ap (λ (ys : List RunItem). record l { items = ys }) (drop_all most xs (omega arith) ∙ sym none);
      hands = ap (λ (ys : List RunItem). map (λ (p : ℕ × ℕ). let h : ℕ × ℕ = (p.0 % workers, p.1) in h) (enumerate_from 0 (map task ys))) same;
    }

pub length-least : (n : ℕ) (l : RunList) → n ≤ length l.items → length (least n l) ≡ n
length-least n l le = length-map (take n l.items) (λ (y : RunItem). y.task) ∙ length-take-le n l.items le

-- what is left after n more
pub without_more : (n : ℕ) (l : RunList) → without_least 1 (without_least n l) ≡ without_least (n + 1) l
without_more n l = ap (λ (ys : List RunItem). record l { items = ys }) (drop-drop 1 n l.items)

-- ---- one step of a deal

none_first : (o : Option ℕ) → is_some o ≡ false → o ≡ None
none_first None h = refl
none_first (Some x) h = cc

-- nothing is left behind the first n
pub over : (l m : RunList) (n : ℕ) → m ≡ without_least n l → is_some (first_task m.items) ≡ false → m.items ≡ []
over l m n is none = least_none m (none_first (first_task m.items) none)

pub over_least : (l m : RunList) (n : ℕ) → m ≡ without_least n l → m.items ≡ [] → (without_least n l).items ≡ []
over_least l m n is none = ap (λ (x : RunList). x.items) (sym is) ∙ none

pub over_list : (m : RunList) → m.items ≡ [] → without_least 1 m ≡ m
over_list m none =
    ap (λ (ys : List RunItem). record m { items = drop 1 ys }) none ∙ ap (λ (ys : List RunItem). record m { items = ys }) (sym none)

pub over_hands : (hand : ℕ → ℕ × ℕ) (m : RunList) → m.items ≡ [] → map hand (least 1 m) ≡ []
over_hands hand m none = ap (λ (ys : List RunItem). map hand (map (λ (y : RunItem). y.task) (take 1 ys))) none

-- one more is left
pub more : (l m : RunList) (n : ℕ) → m ≡ without_least n l → is_some (first_task m.items) ≡ true → n + 1 ≤ length l.items
more l m n is some' =
    elim (cases_lt n (length l.items)) [
      | inl lt ↦ omega arith
      | inr le ↦
          (let none : m.items ≡ [] = ap (λ (x : RunList). x.items) is ∙ drop_all n l.items le in
          let gone : is_some (first_task m.items) ≡ false = ap (λ (ys : List RunItem). is_some (first_task ys)) none in
          absurd (false≢true (sym gone ∙ some')))
    ]

pub words_step : (w worker n : ℕ) (l m : RunList) (start ws new : WordRow) → m ≡ without_least n l → worker ≡ n % w → n ≤ length l.items → ws ≡ words_dealt (hands_out w n l) start → new ≡ words_dealt (map (λ (i : ℕ). let h : ℕ × ℕ = (worker, i) in h) (least 1 m)) ws → new ≡ words_dealt (hands_out w (n + 1) l) start
words_step w worker n l m start ws new list turn le before after =
    let hands : List (ℕ × ℕ) = hands_out w n l in
    after
    ∙ (ap (λ (x : WordRow). words_dealt (map (λ (i : ℕ). let h : ℕ × ℕ = (worker, i) in h) (least 1 m)) x) before
    ∙ (ap (λ (x : RunList). words_dealt (map (λ (i : ℕ). let h : ℕ × ℕ = (worker, i) in h) (least 1 x)) (words_dealt hands start)) list
    ∙ (ap (λ (k : ℕ). words_dealt (map (λ (i : ℕ). let h : ℕ × ℕ = (k, i) in h) (least 1 (without_least n l))) (words_dealt hands start)) turn
    ∙ (sym (words_more hands (map (λ (i : ℕ). let h : ℕ × ℕ = (n % w, i) in h) (least 1 (without_least n l))) start)
    ∙ ap (λ (hs : List (ℕ × ℕ)). words_dealt hs start) (sym (hands_more w n l le))))))

pub homes_step : (w worker n : ℕ) (l m : RunList) (start hs new : List ℕ) → m ≡ without_least n l → worker ≡ n % w → n ≤ length l.items → hs ≡ homes_dealt (hands_out w n l) start → new ≡ homes_dealt (map (λ (i : ℕ). let h : ℕ × ℕ = (worker, i) in h) (least 1 m)) hs → new ≡ homes_dealt (hands_out w (n + 1) l) start
homes_step w worker n l m start hs new list turn le before after =
    let hands : List (ℕ × ℕ) = hands_out w n l in
    after
    ∙ (ap (λ (x : List ℕ). homes_dealt (map (λ (i : ℕ). let h : ℕ × ℕ = (worker, i) in h) (least 1 m)) x) before
    ∙ (ap (λ (x : RunList). homes_dealt (map (λ (i : ℕ). let h : ℕ × ℕ = (worker, i) in h) (least 1 x)) (homes_dealt hands start)) list
    ∙ (ap (λ (k : ℕ). homes_dealt (map (λ (i : ℕ). let h : ℕ × ℕ = (k, i) in h) (least 1 (without_least n l))) (homes_dealt hands start)) turn
    ∙ (sym (homes_more hands (map (λ (i : ℕ). let h : ℕ × ℕ = (n % w, i) in h) (least 1 (without_least n l))) start)
    ∙ ap (λ (xs : List (ℕ × ℕ)). homes_dealt xs start) (sym (hands_more w n l le))))))

pub sizes_step : (hs : List (ℕ × ℕ)) (ws new : WordRow) → new ≡ words_dealt hs ws → (new.tasks ≡ ws.tasks) × (new.workers ≡ ws.workers)
sizes_step hs ws new is =
    let sizes = words_sizes hs ws in
    (ap (λ (x : WordRow). x.tasks) is ∙ sizes.0, ap (λ (x : WordRow). x.workers) is ∙ sizes.1)

-- ---- tasks that wait exist

listed_below : (count j entries : ℕ) (xs : List KeyedItem) → AllByRecursion (IsRunner entries) xs → list_any (λ (z : RunItem). eqb z.task j) (map (run_item count) xs) ≡ true → 2 * j + 1 < entries
listed_below count j entries [] all h = cc
listed_below count j entries (y ∷ ys) all h =
    elim (cases_Bool (eqb (y.entry / 2) j)) [
      | inl k ↦
          (let own : y.entry / 2 ≡ j = eqb-true (y.entry / 2) j k in
          let whole : y.entry ≡ 2 * (y.entry / 2) + 1 = all.0.entry in
          let exists : y.entry < entries = all.0.exists in
          omega arith)
      | inr k ↦ listed_below count j entries ys all.1 (rw k at h)
    ]

pub listed_exists : (q : Runners) (s : KeyedRoots) (j : ℕ) → Fits q s → is_listed j (run_list q s) ≡ true → 2 * j + 1 < s.entries
listed_exists q s j f h =
    listed_below q.count j s.entries (in_order q s) (all-walked (IsRunner s.entries) (now_of q.count) (root_at q.root s).items f.runners) h
