-- The index, when an entry is entered or leaves.
use Rattle.std.proofs.Common.{◌≡◌, ◌≢◌, ℕ, suc, ◌+◌, ◌-◌, ◌*◌, ◌/◌, ◌^◌, ◌<◌, ◌≤◌, Bool, List, [], ◌∷◌, length, get_or, set, take, drop, refl, sym, ap, subst, ◌∙◌, inl, inr, arith}
use Rattle.std.proofs.lemmas.Bool.{cases_eq, cases_lt, cases_order}
use Rattle.std.proofs.lemmas.List.{get_or-set_same, get_or-set_other, get_or_read, length-set, length-drop, drop_all}
use Rattle.std.specs.Vec.{with_item}
use Rattle.task_machine.specs.declared.task.Seen.{Seen}
use Rattle.task_machine.specs.declared.calls.Entry.{Entry}
use Rattle.task_machine.specs.Event.{Event, draws, event_at}
use Rattle.task_machine.specs.Logged.{Logged}
use Rattle.history_weave.specs.declared.index.Index.{Index}
use Rattle.history_weave.specs.declared.kinds.Kind.{Kind}
use Rattle.history_weave.specs.declared.kinds.Kind.TheVariants as kinds
use Rattle.history_weave.specs.Rule.{draw_of, draws_in}
use Rattle.history_weave.specs.Kinds.{kind, look_mark, kind_mark, looks_at, gathers_at, KindNamed}
use Rattle.history_weave.specs.Places.{entry_at, PlaceTable, place_at, none, no_log, log_at, left_of, entry_count, first_place, next_place}
use Rattle.history_weave.specs.Indexed.{groups, tasks_of, HasShape, HasLinkRoom, HasAsManyLinks, IsClear, IsLaidOut, draws_left, AreMarked, IsIndexed, AreNamed}
use Rattle.history_weave.proofs.LinkMarks.{marks_enter-look, marks_enter-miss, marks_leave, mark_of_link}
use Rattle.history_weave.proofs.NextPlaces.{drop_next, next_place-end}
use Rattle.history_weave.proofs.Chains.{Stands, Put, Links_apart, enter-hit, enter-miss, leave-hit, leave-miss, links_kept}
use Rattle.history_weave.proofs.KindEvents.{look-passes, NoLook, no_look-passes, get-passes, NoGather, no_get-passes, NoDraw, no_draw, draw-here, draw-others}
use Rattle.history_weave.proofs.Sums.{sum_over-raise, sum_over-le, sum_over-zero, left_of-past, sum_over-logs, entry_count-more, entry_count-le, entry_count-whole}

-- an entry as the code reads it
pub stands-read : (logs : List Logged) (k p : ℕ) (log : Logged) (items : List Entry) (e : Entry) → k < length logs → p < length (log_at logs k) → log ≡ get_or logs k log → items ≡ log.entries → e ≡ get_or items p e → Stands (length logs) logs k p e
stands-read logs k p log items e caller within read same entry =
    let here : log ≡ get_or logs k no_log = get_or_read logs k log caller read no_log in
    let list : items ≡ log_at logs k = same ∙ ap (λ l. l.entries) here in
    record { caller = caller; within = within; entry = sym (entry ∙ ap (λ es. get_or es p e) list) }

-- what the entry that stands there names
pub named-read : (logs : List Logged) (n k p : ℕ) (e : Entry) (κ : Kind) → AreNamed logs n → Stands (length logs) logs k p e → kind e.call e.reply ≡ κ → KindNamed n (length logs) κ
named-read logs n k p e κ named s h =
    let there = named k p e s.caller s.within in
    let same : kind (entry_at logs k p e).call (entry_at logs k p e).reply ≡ κ =
    ap (λ (d : Entry). kind d.call d.reply) s.entry ∙ h in
    subst (λ (q : Kind). KindNamed n (length logs) q) same there

-- the links of another entry stand elsewhere
logs_apart : (logs : List Logged) (j k q p : ℕ) → j < k → k < length logs → q < length (log_at logs j) → entry_count (take j logs) + q < entry_count (take k logs) + p
logs_apart logs j k q p lt within lq =
    let more = entry_count-more logs j (omega arith) in
    let le = entry_count-le logs (j + 1) k (omega arith) in
    omega arith

pub links_apart : (logs : List Logged) (x : Index) (k p : ℕ) → IsLaidOut logs x → k < length logs → p < length (log_at logs k) → Links_apart (length logs) logs x.starts.items k p
links_apart logs x k p layout lk lp j q lj lq ne e =
    let starts_j = layout.starts j lj in
    let starts_k = layout.starts k lk in
    let f : entry_count (take j logs) + q ≡ entry_count (take k logs) + p = rw (← starts_j, ← starts_k) e in
    elim (cases_order j k) [
      | inl same ↦
          let g : entry_count (take j logs) ≡ entry_count (take k logs) = ap (λ i. entry_count (take i logs)) same in
          ne same (omega arith)
      | inr other ↦ elim other [
        | inl lt ↦ (let h = logs_apart logs j k q p lt lk lq in omega arith)
        | inr gt ↦ (let h = logs_apart logs k j p q gt lj lp in omega arith)
      ]
    ]

pub link-lt : (logs : List Logged) (x : Index) (k p : ℕ) → IsLaidOut logs x → k < length logs → p < length (log_at logs k) → get_or x.starts.items k 0 + p < length x.links.items
link-lt logs x k p layout lk lp =
    let more = entry_count-more logs k lk in
    let whole = entry_count-whole logs (k + 1) in
    let room = layout.room.links in
    let start = layout.starts k lk in omega arith

pub mark-lt : (logs : List Logged) (x : Index) (k p : ℕ) → IsLaidOut logs x → k < length logs → p < length (log_at logs k) → get_or x.starts.items k 0 + p < length x.link_marks.items
mark-lt logs x k p layout lk lp =
    let more = entry_count-more logs k lk in
    let whole = entry_count-whole logs (k + 1) in
    let room = layout.room.marks in
    let start = layout.starts k lk in omega arith

-- room for links stays
pub same_room : (n : ℕ) (x y : Index) → HasAsManyLinks x y → HasLinkRoom n x → HasLinkRoom n y
same_room n x y same room = record { links = rw same.links room.links; marks = rw same.marks room.marks }

-- the sizes of the lists stay
layout-next : (logs : List Logged) (x : Index) (y : Index) (k p : ℕ) → IsLaidOut logs x → HasShape (length logs) x → k < length logs → p ≤ length (log_at logs k) → y.starts.items ≡ x.starts.items → HasAsManyLinks x y → y.next.items ≡ set x.next.items k p → IsLaidOut logs y
layout-next logs x y k p layout shape lk lp starts links next =
    record {
      starts = λ j lj. rw starts (layout.starts j lj);
      room = same_room (entry_count logs) x y links layout.room;
      few = layout.few;
      within = λ j lj. rw next (elim (cases_eq j k) [
        | inl same ↦ rw (same, get_or-set_same x.next.items k p 0 (let n = shape.next_len in omega arith)) lp
        | inr ne ↦ rw (get_or-set_other x.next.items k j p 0 ne) (layout.within j lj)
      ]);
    }

-- how many draws are left, when one more entry is
pub draws_left-enter : (logs : List Logged) (next : List ℕ) (k p i : ℕ) (e : Entry) → Stands (length logs) logs k p e → length next ≡ length logs → get_or next k 0 ≡ suc p → draws_left logs (set next k p) i ≡ draw_of (event_at i e) + draws_left logs next i
draws_left-enter logs next k p i e s n m =
    let lk = s.caller in
    let now : get_or (set next k p) k 0 ≡ p = get_or-set_same next k p 0 (omega arith) in
    let read : drop p (log_at logs k) ≡ e ∷ drop (suc p) (log_at logs k) =
    drop_next (log_at logs k) p e s.within ∙ ap (λ d. d ∷ drop (suc p) (log_at logs k)) s.entry in
    let here : draws_in i (left_of logs (set next k p) k) ≡ draw_of (event_at i e) + draws_in i (left_of logs next k) =
    ap (λ q. draws_in i (drop q (log_at logs k))) now ∙ ap (draws_in i) read ∙
    ap (λ q. draw_of (event_at i e) + draws_in i (drop q (log_at logs k))) (sym m) in
    sum_over-raise (λ j. draws_in i (left_of logs next j)) (λ j. draws_in i (left_of logs (set next k p) j)) 0 (length logs) k (draw_of (event_at i e)) (omega arith) (omega arith) here (λ j ne. ap (λ q. draws_in i (drop q (log_at logs j))) (get_or-set_other next k j p 0 ne))

pub draws_left-leave : (logs : List Logged) (next : List ℕ) (k p i : ℕ) (e : Entry) → Stands (length logs) logs k p e → length next ≡ length logs → get_or next k 0 ≡ p → draws_left logs next i ≡ draw_of (event_at i e) + draws_left logs (set next k (suc p)) i
draws_left-leave logs next k p i e s n m =
    let lk = s.caller in
    let now : get_or (set next k (suc p)) k 0 ≡ suc p = get_or-set_same next k (suc p) 0 (omega arith) in
    let read : drop p (log_at logs k) ≡ e ∷ drop (suc p) (log_at logs k) =
    drop_next (log_at logs k) p e s.within ∙ ap (λ d. d ∷ drop (suc p) (log_at logs k)) s.entry in
    let here : draws_in i (left_of logs next k) ≡ draw_of (event_at i e) + draws_in i (left_of logs (set next k (suc p)) k) =
    ap (λ q. draws_in i (drop q (log_at logs k))) m ∙ ap (draws_in i) read ∙
    ap (λ q. draw_of (event_at i e) + draws_in i (drop q (log_at logs k))) (sym now) in
    sum_over-raise (λ j. draws_in i (left_of logs (set next k (suc p)) j)) (λ j. draws_in i (left_of logs next j)) 0 (length logs) k (draw_of (event_at i e)) (omega arith) (omega arith) here (λ j ne. ap (λ q. draws_in i (drop q (log_at logs j))) (sym (get_or-set_other next k j (suc p) 0 ne)))

draw_of-le : (i : ℕ) (es : List Entry) → draws_in i es ≤ length es
draw_of-le i [] = omega arith
draw_of-le i (e ∷ es) = let one = small (event_at i e) in let rest = draw_of-le i es in omega arith
  where
    small : (v : Event) → draw_of v ≤ 1
    small draws = omega arith
    small v = omega arith

-- there are no more draws left than entries
pub draws_left-le : (logs : List Logged) (next : List ℕ) (i : ℕ) → draws_left logs next i ≤ entry_count logs
draws_left-le logs next i =
    let all = sum_over-logs length logs in
    let le = sum_over-le (λ j. draws_in i (left_of logs next j)) (λ j. length (log_at logs j)) 0 (length logs) (λ j.
    let a = draw_of-le i (left_of logs next j) in
    let b = length-drop (get_or next j 0) (log_at logs j) in omega arith) in
    omega arith

-- a task's group is among the groups
pub group-lt : (g n : ℕ) → 64 * g < n → g < groups n
group-lt g n lt = omega arith

pub task_group-lt : (t n : ℕ) → t < n → t / 64 < groups n
task_group-lt t n lt = omega arith

-- a table with another place in one cell, as the code tells
pub record Replaced (t u : PlaceTable) (r k p : ℕ) : Type 0 where
  pub rows : u.rows ≡ t.rows
  pub columns : u.columns ≡ t.columns
  pub same : place_at u r k ≡ p
  pub others : (s c : ℕ) → s < t.rows → c < t.columns → (s ≡ r → c ≡ k → ⊥) → place_at u s c ≡ place_at t s c

put-in : (rows callers : ℕ) (t u : PlaceTable) (r k p : ℕ) → t.rows ≡ rows → t.columns ≡ callers → Replaced t u r k p → Put rows callers t u r k p
put-in rows callers t u r k p er ec h =
    record { same = h.same; others = λ s c ls lc ne. h.others s c (rw er ls) (rw ec lc) ne }

none_more : (n : ℕ) → 0 + n ≡ n
none_more n = omega arith

-- the sizes of an index whose places were written
shape-put : (callers : ℕ) (x : Index) (k p : ℕ) → HasShape callers x → length (set x.next.items k p) ≡ callers
shape-put callers x k p shape = length-set x.next.items k p ∙ shape.next_len

-- the marks when a look has another place and another mark
marked-put : (logs : List Logged) (looks marks u w : PlaceTable) (t k p n : ℕ) → AreMarked logs looks marks → Replaced looks u t k p → Replaced marks w t k n → marks.rows ≡ looks.rows → marks.columns ≡ looks.columns → ((e : Entry) → p ≢ none → entry_at logs k p e ≡ e → n ≡ kind_mark (kind e.call e.reply)) → AreMarked logs u w
marked-put logs looks marks u w t k p n marked put mark rows columns told i j e li lj ne stands =
    let row : i < looks.rows = rw put.rows at li in
    let column : j < looks.columns = rw put.columns at lj in
    let away = λ (other : i ≡ t → j ≡ k → ⊥).
    let place : place_at u i j ≡ place_at looks i j = put.others i j row column other in
    let same : place_at w i j ≡ place_at marks i j = mark.others i j (rw rows row) (rw columns column) other in
    same ∙ marked i j e row column (λ q. ne (place ∙ q)) (rw place at stands) in
    elim (cases_eq i t) [
      | inl si ↦ elim (cases_eq j k) [
        | inl sj ↦
            let place : place_at u i j ≡ p = rw (si, sj) put.same in
            let here : place_at w i j ≡ n = rw (si, sj) mark.same in
            let there : entry_at logs k p e ≡ e = rw (place, sj) at stands in
            here ∙ told e (λ q. ne (place ∙ q)) there
        | inr nj ↦ away (λ a b. nj b)
      ]
      | inr ni ↦ away (λ a b. ni a)
    ]

-- the mark of the entry that is entered
entered-mark : (logs : List Logged) (k p t : ℕ) (saw : Seen) (q : Bool) (e : Entry) → Stands (length logs) logs k p e → kind e.call e.reply ≡ kinds.Look t saw q → (d : Entry) → p ≢ none → entry_at logs k p d ≡ d → look_mark saw q ≡ kind_mark (kind d.call d.reply)
entered-mark logs k p t saw q e s h d ne stands =
    let same : d ≡ e = get_or_read (log_at logs k) p d s.within (sym stands) e ∙ s.entry in
    sym (ap (λ (f : Entry). kind_mark (kind f.call f.reply)) same ∙ ap kind_mark h)

-- a look is entered
pub entered-look : (logs : List Logged) (x : Index) (k p t : ℕ) (saw : Seen) (q : Bool) (e : Entry) (u w : PlaceTable) (v mk : ℕ) → IsIndexed logs x → Stands (length logs) logs k p e → get_or x.next.items k 0 ≡ suc p → kind e.call e.reply ≡ kinds.Look t saw q → t < tasks_of x → v ≡ place_at x.looks t k → mk ≡ place_at x.marks t k → Replaced x.looks u t k p → Replaced x.marks w t k (look_mark saw q) → IsIndexed logs (record x { looks = u; marks = w; links = with_item x.links (get_or x.starts.items k 0 + p) v; link_marks = with_item x.link_marks (get_or x.starts.items k 0 + p) mk; next = with_item x.next k p })
entered-look logs x k p t saw q e u w v mk ix s m h lt read marked put mark =
    let apart = links_apart logs x k p ix.layout s.caller s.within in
    let cell = get_or x.starts.items k 0 + p in
    let tasks = tasks_of x in
    let n = length logs in
    record {
      shape = record {
        look_rows = put.rows ∙ ix.shape.look_rows;
        look_columns = put.columns ∙ ix.shape.look_columns;
        mark_rows = mark.rows ∙ ix.shape.mark_rows;
        mark_columns = mark.columns ∙ ix.shape.mark_columns;
        get_rows = ix.shape.get_rows;
        get_columns = ix.shape.get_columns;
        starts_len = ix.shape.starts_len;
        next_len = shape-put n x k p ix.shape;
        draws_len = ix.shape.draws_len;
      };
      layout = layout-next logs x (record x { looks = u; marks = w; links = with_item x.links cell v; link_marks = with_item x.link_marks cell mk; next = with_item x.next k p }) k p ix.layout ix.shape s.caller (let few = s.within in omega arith) refl (record { links = length-set x.links.items cell v; marks = length-set x.link_marks.items cell mk }) refl;
      looks = rw read (enter-hit looks_at tasks n logs x.next.items x.starts.items x.looks u x.links.items k p t e ix.looks s ix.shape.next_len m lt (look-passes t saw q e h) (put-in tasks n x.looks u t k p ix.shape.look_rows ix.shape.look_columns put) apart (link-lt logs x k p ix.layout s.caller s.within));
      marked = marked-put logs x.looks x.marks u w t k p (look_mark saw q) ix.marked put mark (ix.shape.mark_rows ∙ sym ix.shape.look_rows) (ix.shape.mark_columns ∙ sym ix.shape.look_columns) (entered-mark logs k p t saw q e s h);
      links_marked = rw marked (marks_enter-look logs x k p t saw q e ix s m h lt apart (mark-lt logs x k p ix.layout s.caller s.within));
      gets = enter-miss gathers_at (groups tasks) n logs x.next.items x.starts.items x.gets x.links.items (set x.links.items cell v) k p e ix.gets s ix.shape.next_len m (no_get-passes (kinds.Look t saw q) e h tt) (links_kept n logs x.starts.items x.links.items k p v apart);
      draws = λ i li. ix.draws i li ∙ sym (draws_left-enter logs x.next.items k p i e s ix.shape.next_len m ∙ ap (λ d. d + draws_left logs x.next.items i) (no_draw (kinds.Look t saw q) e h tt i) ∙ none_more (draws_left logs x.next.items i));
    }

-- a get is entered
pub entered-get : (logs : List Logged) (x : Index) (k p g : ℕ) (e : Entry) (u : PlaceTable) (v : ℕ) → IsIndexed logs x → Stands (length logs) logs k p e → get_or x.next.items k 0 ≡ suc p → kind e.call e.reply ≡ kinds.Get g → g < groups (tasks_of x) → v ≡ place_at x.gets g k → Replaced x.gets u g k p → IsIndexed logs (record x { gets = u; links = with_item x.links (get_or x.starts.items k 0 + p) v; next = with_item x.next k p })
entered-get logs x k p g e u v ix s m h lt read put =
    let apart = links_apart logs x k p ix.layout s.caller s.within in
    let cell = get_or x.starts.items k 0 + p in
    let tasks = tasks_of x in
    let n = length logs in
    record {
      shape = record {
        look_rows = ix.shape.look_rows;
        look_columns = ix.shape.look_columns;
        mark_rows = ix.shape.mark_rows;
        mark_columns = ix.shape.mark_columns;
        get_rows = put.rows ∙ ix.shape.get_rows;
        get_columns = put.columns ∙ ix.shape.get_columns;
        starts_len = ix.shape.starts_len;
        next_len = shape-put n x k p ix.shape;
        draws_len = ix.shape.draws_len;
      };
      layout = layout-next logs x (record x { gets = u; links = with_item x.links cell v; next = with_item x.next k p }) k p ix.layout ix.shape s.caller (let w = s.within in omega arith) refl (record { links = length-set x.links.items cell v; marks = refl }) refl;
      looks = enter-miss looks_at tasks n logs x.next.items x.starts.items x.looks x.links.items (set x.links.items cell v) k p e ix.looks s ix.shape.next_len m (no_look-passes (kinds.Get g) e h tt) (links_kept n logs x.starts.items x.links.items k p v apart);
      marked = ix.marked;
      links_marked = marks_enter-miss logs x k p e ix s m (no_look-passes (kinds.Get g) e h tt);
      gets = rw read (enter-hit gathers_at (groups tasks) n logs x.next.items x.starts.items x.gets u x.links.items k p g e ix.gets s ix.shape.next_len m lt (get-passes g e h) (put-in (groups tasks) n x.gets u g k p ix.shape.get_rows ix.shape.get_columns put) apart (link-lt logs x k p ix.layout s.caller s.within));
      draws = λ i li. ix.draws i li ∙ sym (draws_left-enter logs x.next.items k p i e s ix.shape.next_len m ∙ ap (λ d. d + draws_left logs x.next.items i) (no_draw (kinds.Get g) e h tt i) ∙ none_more (draws_left logs x.next.items i));
    }

-- the links stay
all_kept : (n : ℕ) (logs : List Logged) (starts links : List ℕ) (k p : ℕ) → (j q : ℕ) → j < n → q < length (log_at logs j) → (j ≡ k → q ≡ p → ⊥) → get_or links (get_or starts j 0 + q) 0 ≡ get_or links (get_or starts j 0 + q) 0
all_kept n logs starts links k p j q lj lq ne = refl

-- an entry is entered that is neither a look nor a get nor a draw
pub entered-other : (logs : List Logged) (x : Index) (k p : ℕ) (e : Entry) (κ : Kind) → IsIndexed logs x → Stands (length logs) logs k p e → get_or x.next.items k 0 ≡ suc p → kind e.call e.reply ≡ κ → NoLook κ → NoGather κ → NoDraw κ → IsIndexed logs (record x { next = with_item x.next k p })
entered-other logs x k p e κ ix s m h no_look no_gather none_drawn =
    let tasks = tasks_of x in
    let n = length logs in
    record {
      shape = record {
        look_rows = ix.shape.look_rows;
        look_columns = ix.shape.look_columns;
        mark_rows = ix.shape.mark_rows;
        mark_columns = ix.shape.mark_columns;
        get_rows = ix.shape.get_rows;
        get_columns = ix.shape.get_columns;
        starts_len = ix.shape.starts_len;
        next_len = shape-put n x k p ix.shape;
        draws_len = ix.shape.draws_len;
      };
      layout = layout-next logs x (record x { next = with_item x.next k p }) k p ix.layout ix.shape s.caller (let w = s.within in omega arith) refl (record { links = refl; marks = refl }) refl;
      looks = enter-miss looks_at tasks n logs x.next.items x.starts.items x.looks x.links.items x.links.items k p e ix.looks s ix.shape.next_len m (no_look-passes κ e h no_look) (all_kept n logs x.starts.items x.links.items k p);
      marked = ix.marked;
      links_marked = marks_enter-miss logs x k p e ix s m (no_look-passes κ e h no_look);
      gets = enter-miss gathers_at (groups tasks) n logs x.next.items x.starts.items x.gets x.links.items x.links.items k p e ix.gets s ix.shape.next_len m (no_get-passes κ e h no_gather) (all_kept n logs x.starts.items x.links.items k p);
      draws = λ i li. ix.draws i li ∙ sym (draws_left-enter logs x.next.items k p i e s ix.shape.next_len m ∙ ap (λ d. d + draws_left logs x.next.items i) (no_draw κ e h none_drawn i) ∙ none_more (draws_left logs x.next.items i));
    }

-- a draw is entered
pub draw-count : (logs : List Logged) (x : Index) (k p t : ℕ) (e : Entry) → IsIndexed logs x → Stands (length logs) logs k p e → get_or x.next.items k 0 ≡ suc p → kind e.call e.reply ≡ kinds.Draw t → draws_left logs (set x.next.items k p) t ≡ 1 + draws_left logs x.next.items t
draw-count logs x k p t e ix s m h =
    draws_left-enter logs x.next.items k p t e s ix.shape.next_len m ∙
    ap (λ d. d + draws_left logs x.next.items t) (draw-here t e h)

pub draw-fits : (logs : List Logged) (x : Index) (k p t n : ℕ) (e : Entry) → IsIndexed logs x → Stands (length logs) logs k p e → get_or x.next.items k 0 ≡ suc p → kind e.call e.reply ≡ kinds.Draw t → t < tasks_of x → n ≡ get_or x.draws.items t 0 → n + 1 < 2 ^ 64
draw-fits logs x k p t n e ix s m h lt read =
    let more = draw-count logs x k p t e ix s m h in
    let le = draws_left-le logs (set x.next.items k p) t in
    let few = ix.layout.few in
    let now = ix.draws t lt in omega arith

pub entered-draw : (logs : List Logged) (x : Index) (k p t n : ℕ) (e : Entry) → IsIndexed logs x → Stands (length logs) logs k p e → get_or x.next.items k 0 ≡ suc p → kind e.call e.reply ≡ kinds.Draw t → t < tasks_of x → n ≡ get_or x.draws.items t 0 → IsIndexed logs (record x { draws = with_item x.draws t (n + 1); next = with_item x.next k p })
entered-draw logs x k p t n e ix s m h lt read =
    let tasks = tasks_of x in
    let callers = length logs in
    record {
      shape = record {
        look_rows = ix.shape.look_rows;
        look_columns = ix.shape.look_columns;
        mark_rows = ix.shape.mark_rows;
        mark_columns = ix.shape.mark_columns;
        get_rows = ix.shape.get_rows;
        get_columns = ix.shape.get_columns;
        starts_len = ix.shape.starts_len;
        next_len = shape-put callers x k p ix.shape;
        draws_len = length-set x.draws.items t (n + 1) ∙ ix.shape.draws_len;
      };
      layout = layout-next logs x (record x { draws = with_item x.draws t (n + 1); next = with_item x.next k p }) k p ix.layout ix.shape s.caller (let w = s.within in omega arith) refl (record { links = refl; marks = refl }) refl;
      looks = enter-miss looks_at tasks callers logs x.next.items x.starts.items x.looks x.links.items x.links.items k p e ix.looks s ix.shape.next_len m (no_look-passes (kinds.Draw t) e h tt) (all_kept callers logs x.starts.items x.links.items k p);
      marked = ix.marked;
      links_marked = marks_enter-miss logs x k p e ix s m (no_look-passes (kinds.Draw t) e h tt);
      gets = enter-miss gathers_at (groups tasks) callers logs x.next.items x.starts.items x.gets x.links.items x.links.items k p e ix.gets s ix.shape.next_len m (no_get-passes (kinds.Draw t) e h tt) (all_kept callers logs x.starts.items x.links.items k p);
      draws = λ i li. elim (cases_eq i t) [
        | inl same ↦
            let more = draw-count logs x k p t e ix s m h in
            let now = ix.draws t lt in
            let within : t < length x.draws.items = rw ix.shape.draws_len lt in
            rw (same, get_or-set_same x.draws.items t (n + 1) 0 within) (omega arith)
        | inr ne ↦
            get_or-set_other x.draws.items t i (n + 1) 0 ne ∙ ix.draws i li ∙
            sym (draws_left-enter logs x.next.items k p i e s ix.shape.next_len m ∙ ap (λ d. d + draws_left logs x.next.items i) (draw-others t e h i ne) ∙ none_more (draws_left logs x.next.items i))
      ];
    }

-- a look leaves
pub left-look : (logs : List Logged) (x : Index) (k p t : ℕ) (saw : Seen) (q : Bool) (e : Entry) (u w : PlaceTable) (v n : ℕ) → IsIndexed logs x → Stands (length logs) logs k p e → get_or x.next.items k 0 ≡ p → kind e.call e.reply ≡ kinds.Look t saw q → t < tasks_of x → v ≡ get_or x.links.items (get_or x.starts.items k 0 + p) 0 → n ≡ get_or x.link_marks.items (get_or x.starts.items k 0 + p) 0 → Replaced x.looks u t k v → Replaced x.marks w t k n → IsIndexed logs (record x { looks = u; marks = w; next = with_item x.next k (suc p) })
left-look logs x k p t saw q e u w v mk ix s m h lt read marked put mark =
    let tasks = tasks_of x in
    let n = length logs in
    let link : Replaced x.looks u t k (get_or x.links.items (get_or x.starts.items k 0 + p) 0) = rw read at put in
    record {
      shape = record {
        look_rows = put.rows ∙ ix.shape.look_rows;
        look_columns = put.columns ∙ ix.shape.look_columns;
        mark_rows = mark.rows ∙ ix.shape.mark_rows;
        mark_columns = mark.columns ∙ ix.shape.mark_columns;
        get_rows = ix.shape.get_rows;
        get_columns = ix.shape.get_columns;
        starts_len = ix.shape.starts_len;
        next_len = shape-put n x k (suc p) ix.shape;
        draws_len = ix.shape.draws_len;
      };
      layout = layout-next logs x (record x { looks = u; marks = w; next = with_item x.next k (suc p) }) k (suc p) ix.layout ix.shape s.caller s.within refl (record { links = refl; marks = refl }) refl;
      looks = leave-hit looks_at tasks n logs x.next.items x.starts.items x.looks u x.links.items k p t e ix.looks s ix.shape.next_len m lt (look-passes t saw q e h) (put-in tasks n x.looks u t k (get_or x.links.items (get_or x.starts.items k 0 + p) 0) ix.shape.look_rows ix.shape.look_columns link);
      marked = marked-put logs x.looks x.marks u w t k v mk ix.marked put mark (ix.shape.mark_rows ∙ sym ix.shape.look_rows) (ix.shape.mark_columns ∙ sym ix.shape.look_columns) (mark_of_link logs x k p t saw q e v mk ix s m h lt read marked);
      links_marked = marks_leave logs x k p e ix s m;
      gets = leave-miss gathers_at (groups tasks) n logs x.next.items x.starts.items x.gets x.links.items k p e ix.gets s ix.shape.next_len m (no_get-passes (kinds.Look t saw q) e h tt);
      draws = λ i li. ix.draws i li ∙ draws_left-leave logs x.next.items k p i e s ix.shape.next_len m ∙ ap (λ d. d + draws_left logs (set x.next.items k (suc p)) i) (no_draw (kinds.Look t saw q) e h tt i) ∙ none_more (draws_left logs (set x.next.items k (suc p)) i);
    }

-- a get leaves
pub left-get : (logs : List Logged) (x : Index) (k p g : ℕ) (e : Entry) (u : PlaceTable) (v : ℕ) → IsIndexed logs x → Stands (length logs) logs k p e → get_or x.next.items k 0 ≡ p → kind e.call e.reply ≡ kinds.Get g → g < groups (tasks_of x) → v ≡ get_or x.links.items (get_or x.starts.items k 0 + p) 0 → Replaced x.gets u g k v → IsIndexed logs (record x { gets = u; next = with_item x.next k (suc p) })
left-get logs x k p g e u v ix s m h lt read put =
    let tasks = tasks_of x in
    let n = length logs in
    let link : Replaced x.gets u g k (get_or x.links.items (get_or x.starts.items k 0 + p) 0) = rw read at put in
    record {
      shape = record {
        look_rows = ix.shape.look_rows;
        look_columns = ix.shape.look_columns;
        mark_rows = ix.shape.mark_rows;
        mark_columns = ix.shape.mark_columns;
        get_rows = put.rows ∙ ix.shape.get_rows;
        get_columns = put.columns ∙ ix.shape.get_columns;
        starts_len = ix.shape.starts_len;
        next_len = shape-put n x k (suc p) ix.shape;
        draws_len = ix.shape.draws_len;
      };
      layout = layout-next logs x (record x { gets = u; next = with_item x.next k (suc p) }) k (suc p) ix.layout ix.shape s.caller s.within refl (record { links = refl; marks = refl }) refl;
      looks = leave-miss looks_at tasks n logs x.next.items x.starts.items x.looks x.links.items k p e ix.looks s ix.shape.next_len m (no_look-passes (kinds.Get g) e h tt);
      marked = ix.marked;
      links_marked = marks_leave logs x k p e ix s m;
      gets = leave-hit gathers_at (groups tasks) n logs x.next.items x.starts.items x.gets u x.links.items k p g e ix.gets s ix.shape.next_len m lt (get-passes g e h) (put-in (groups tasks) n x.gets u g k (get_or x.links.items (get_or x.starts.items k 0 + p) 0) ix.shape.get_rows ix.shape.get_columns link);
      draws = λ i li. ix.draws i li ∙ draws_left-leave logs x.next.items k p i e s ix.shape.next_len m ∙ ap (λ d. d + draws_left logs (set x.next.items k (suc p)) i) (no_draw (kinds.Get g) e h tt i) ∙ none_more (draws_left logs (set x.next.items k (suc p)) i);
    }

-- an entry leaves that is neither a look nor a get nor a draw
pub left-other : (logs : List Logged) (x : Index) (k p : ℕ) (e : Entry) (κ : Kind) → IsIndexed logs x → Stands (length logs) logs k p e → get_or x.next.items k 0 ≡ p → kind e.call e.reply ≡ κ → NoLook κ → NoGather κ → NoDraw κ → IsIndexed logs (record x { next = with_item x.next k (suc p) })
left-other logs x k p e κ ix s m h no_look no_gather none_drawn =
    let tasks = tasks_of x in
    let n = length logs in
    record {
      shape = record {
        look_rows = ix.shape.look_rows;
        look_columns = ix.shape.look_columns;
        mark_rows = ix.shape.mark_rows;
        mark_columns = ix.shape.mark_columns;
        get_rows = ix.shape.get_rows;
        get_columns = ix.shape.get_columns;
        starts_len = ix.shape.starts_len;
        next_len = shape-put n x k (suc p) ix.shape;
        draws_len = ix.shape.draws_len;
      };
      layout = layout-next logs x (record x { next = with_item x.next k (suc p) }) k (suc p) ix.layout ix.shape s.caller s.within refl (record { links = refl; marks = refl }) refl;
      looks = leave-miss looks_at tasks n logs x.next.items x.starts.items x.looks x.links.items k p e ix.looks s ix.shape.next_len m (no_look-passes κ e h no_look);
      marked = ix.marked;
      links_marked = marks_leave logs x k p e ix s m;
      gets = leave-miss gathers_at (groups tasks) n logs x.next.items x.starts.items x.gets x.links.items k p e ix.gets s ix.shape.next_len m (no_get-passes κ e h no_gather);
      draws = λ i li. ix.draws i li ∙ draws_left-leave logs x.next.items k p i e s ix.shape.next_len m ∙ ap (λ d. d + draws_left logs (set x.next.items k (suc p)) i) (no_draw κ e h none_drawn i) ∙ none_more (draws_left logs (set x.next.items k (suc p)) i);
    }

-- a draw leaves
pub draw-uncount : (logs : List Logged) (x : Index) (k p t : ℕ) (e : Entry) → IsIndexed logs x → Stands (length logs) logs k p e → get_or x.next.items k 0 ≡ p → kind e.call e.reply ≡ kinds.Draw t → draws_left logs x.next.items t ≡ 1 + draws_left logs (set x.next.items k (suc p)) t
draw-uncount logs x k p t e ix s m h =
    draws_left-leave logs x.next.items k p t e s ix.shape.next_len m ∙
    ap (λ d. d + draws_left logs (set x.next.items k (suc p)) t) (draw-here t e h)

-- there is a draw left to leave
pub draw-some : (logs : List Logged) (x : Index) (k p t n : ℕ) (e : Entry) → IsIndexed logs x → Stands (length logs) logs k p e → get_or x.next.items k 0 ≡ p → kind e.call e.reply ≡ kinds.Draw t → t < tasks_of x → n ≡ get_or x.draws.items t 0 → 1 ≤ n
draw-some logs x k p t n e ix s m h lt read =
    let one = draw-uncount logs x k p t e ix s m h in let now = ix.draws t lt in omega arith

pub left-draw : (logs : List Logged) (x : Index) (k p t n : ℕ) (e : Entry) → IsIndexed logs x → Stands (length logs) logs k p e → get_or x.next.items k 0 ≡ p → kind e.call e.reply ≡ kinds.Draw t → t < tasks_of x → n ≡ get_or x.draws.items t 0 → IsIndexed logs (record x { draws = with_item x.draws t (n - 1); next = with_item x.next k (suc p) })
left-draw logs x k p t n e ix s m h lt read =
    let tasks = tasks_of x in
    let callers = length logs in
    record {
      shape = record {
        look_rows = ix.shape.look_rows;
        look_columns = ix.shape.look_columns;
        mark_rows = ix.shape.mark_rows;
        mark_columns = ix.shape.mark_columns;
        get_rows = ix.shape.get_rows;
        get_columns = ix.shape.get_columns;
        starts_len = ix.shape.starts_len;
        next_len = shape-put callers x k (suc p) ix.shape;
        draws_len = length-set x.draws.items t (n - 1) ∙ ix.shape.draws_len;
      };
      layout = layout-next logs x (record x { draws = with_item x.draws t (n - 1); next = with_item x.next k (suc p) }) k (suc p) ix.layout ix.shape s.caller s.within refl (record { links = refl; marks = refl }) refl;
      looks = leave-miss looks_at tasks callers logs x.next.items x.starts.items x.looks x.links.items k p e ix.looks s ix.shape.next_len m (no_look-passes (kinds.Draw t) e h tt);
      marked = ix.marked;
      links_marked = marks_leave logs x k p e ix s m;
      gets = leave-miss gathers_at (groups tasks) callers logs x.next.items x.starts.items x.gets x.links.items k p e ix.gets s ix.shape.next_len m (no_get-passes (kinds.Draw t) e h tt);
      draws = λ i li. elim (cases_eq i t) [
        | inl same ↦
            let one = draw-uncount logs x k p t e ix s m h in
            let now = ix.draws t lt in
            let within : t < length x.draws.items = rw ix.shape.draws_len lt in
            rw (same, get_or-set_same x.draws.items t (n - 1) 0 within) (omega arith)
        | inr ne ↦
            get_or-set_other x.draws.items t i (n - 1) 0 ne ∙ ix.draws i li ∙
            draws_left-leave logs x.next.items k p i e s ix.shape.next_len m ∙
            ap (λ d. d + draws_left logs (set x.next.items k (suc p)) i) (draw-others t e h i ne) ∙
            none_more (draws_left logs (set x.next.items k (suc p)) i)
      ];
    }

-- what the code knows of the entry that it enters
pub record Enters (logs : List Logged) (x : Index) (k p start : ℕ) (e : Entry) : Type 0 where
  pub stands : Stands (length logs) logs k p e
  pub next : get_or x.next.items k 0 ≡ suc p
  pub first : start ≡ get_or x.starts.items k 0

pub enters-read : (logs : List Logged) (x : Index) (k p start : ℕ) (log : Logged) (items : List Entry) (e : Entry) → IsIndexed logs x → k < length logs → get_or x.next.items k 0 ≡ p + 1 → start ≡ get_or x.starts.items k start → log ≡ get_or logs k log → items ≡ log.entries → e ≡ get_or items p e → Enters logs x k p start e
enters-read logs x k p start log items e ix caller next read log_is items_are entry =
    let within = ix.layout.within k caller in
    let few : p < length (log_at logs k) = omega arith in
    let row : k < length x.starts.items = rw ix.shape.starts_len caller in
    record {
      stands = stands-read logs k p log items e caller few log_is items_are entry;
      next = omega arith;
      first = get_or_read x.starts.items k start row read 0;
    }

pub draws-read : (logs : List Logged) (x : Index) (t n : ℕ) → IsIndexed logs x → t < tasks_of x → n ≡ get_or x.draws.items t n → n ≡ get_or x.draws.items t 0
draws-read logs x t n ix lt read = get_or_read x.draws.items t n (rw ix.shape.draws_len lt) read 0

-- what the code knows of the entry that leaves
pub record Leaves (logs : List Logged) (x : Index) (k p start : ℕ) (e : Entry) : Type 0 where
  pub stands : Stands (length logs) logs k p e
  pub next : get_or x.next.items k 0 ≡ p
  pub first : start ≡ get_or x.starts.items k 0

pub leaves-read : (logs : List Logged) (x : Index) (k p start : ℕ) (log : Logged) (items : List Entry) (e : Entry) → IsIndexed logs x → k < length logs → get_or x.next.items k 0 < length (log_at logs k) → p ≡ get_or x.next.items k p → start ≡ get_or x.starts.items k start → log ≡ get_or logs k log → items ≡ log.entries → e ≡ get_or items p e → Leaves logs x k p start e
leaves-read logs x k p start log items e ix caller some next read log_is items_are entry =
    let row : k < length x.starts.items = rw ix.shape.starts_len caller in
    let place : k < length x.next.items = rw ix.shape.next_len caller in
    let now : p ≡ get_or x.next.items k 0 = get_or_read x.next.items k p place next 0 in
    let few : p < length (log_at logs k) = omega arith in
    record {
      stands = stands-read logs k p log items e caller few log_is items_are entry;
      next = sym now;
      first = get_or_read x.starts.items k start row read 0;
    }

pub link-read : (logs : List Logged) (x : Index) (k p start v : ℕ) (e : Entry) → IsIndexed logs x → Leaves logs x k p start e → v ≡ get_or x.links.items (start + p) v → v ≡ get_or x.links.items (get_or x.starts.items k 0 + p) 0
link-read logs x k p start v e ix l read =
    let here : v ≡ get_or x.links.items (get_or x.starts.items k 0 + p) v = rw l.first at read in
    get_or_read x.links.items (get_or x.starts.items k 0 + p) v (link-lt logs x k p ix.layout l.stands.caller l.stands.within) here 0

pub mark-read : (logs : List Logged) (x : Index) (k p start v : ℕ) (e : Entry) → IsIndexed logs x → Leaves logs x k p start e → v ≡ get_or x.link_marks.items (start + p) v → v ≡ get_or x.link_marks.items (get_or x.starts.items k 0 + p) 0
mark-read logs x k p start v e ix l read =
    let here : v ≡ get_or x.link_marks.items (get_or x.starts.items k 0 + p) v = rw l.first at read in
    get_or_read x.link_marks.items (get_or x.starts.items k 0 + p) v (mark-lt logs x k p ix.layout l.stands.caller l.stands.within) here 0

-- where no entry is entered yet, the index tells that none is left
pub laid_out : (logs : List Logged) (x y : Index) → entry_count logs ≤ none → HasLinkRoom (entry_count logs) x → IsClear (length logs) x → y.looks ≡ x.looks → y.marks ≡ x.marks → y.gets ≡ x.gets → y.draws ≡ x.draws → y.links ≡ x.links → y.link_marks ≡ x.link_marks → length y.starts.items ≡ length x.starts.items → length y.next.items ≡ length x.next.items → ((j : ℕ) → j < length logs → get_or y.starts.items j 0 ≡ entry_count (take j logs)) → ((j : ℕ) → j < length logs → get_or y.next.items j 0 ≡ length (log_at logs j)) → IsIndexed logs y
laid_out logs x y few room clear same_looks same_marks same_gets same_draws same_links same_marked starts_len next_len starts next =
    let end : (f : Entry → Bool) (k : ℕ) → k < length logs → next_place f (log_at logs k) (get_or y.next.items k 0) ≡ none =
    λ f k lk. next_place-end f (log_at logs k) (get_or y.next.items k 0) (let e = next k lk in omega arith) in
    let none_left : (k : ℕ) → left_of logs y.next.items k ≡ [] =
    λ k. elim (cases_lt k (length logs)) [
      | inl lk ↦ drop_all (get_or y.next.items k 0) (log_at logs k) (let e = next k lk in omega arith)
      | inr past ↦ left_of-past logs y.next.items k past
    ] in
    record {
      shape = record {
        look_rows = rw (same_looks, same_draws) clear.shape.look_rows;
        look_columns = rw same_looks clear.shape.look_columns;
        mark_rows = rw (same_marks, same_draws) clear.shape.mark_rows;
        mark_columns = rw same_marks clear.shape.mark_columns;
        get_rows = rw (same_gets, same_draws) clear.shape.get_rows;
        get_columns = rw same_gets clear.shape.get_columns;
        starts_len = starts_len ∙ clear.shape.starts_len;
        next_len = next_len ∙ clear.shape.next_len;
        draws_len = rw same_draws clear.shape.draws_len;
      };
      layout = record {
        starts = starts;
        room = record { links = rw same_links room.links; marks = rw same_marked room.marks };
        few = few;
        within = λ k lk. (let e = next k lk in omega arith);
      };
      looks = record {
        firsts = λ i k li lk. (let lt : i < tasks_of x = rw same_draws at li in rw same_looks (clear.looks i k lt lk) ∙ sym (end (looks_at i) k lk));
        linked = λ i k p e li lk from lp hit. absurd (let n = next k lk in omega arith);
      };
      marked = λ i k e li lk ne stands. (
          let row : i < tasks_of x = rw (← clear.shape.look_rows, ← same_looks) li in
          let column : k < length logs = rw (← clear.shape.look_columns, ← same_looks) lk in
          absurd (ne (rw same_looks (clear.looks i k row column)))
          );
      links_marked = λ i k p d e li lk from lp hit ne stands. absurd (let n = next k lk in omega arith);
      gets = record {
        firsts = λ g k lg lk. (let lt : g < groups (tasks_of x) = rw same_draws at lg in rw same_gets (clear.gets g k lt lk) ∙ sym (end (gathers_at g) k lk));
        linked = λ g k p e lg lk from lp hit. absurd (let n = next k lk in omega arith);
      };
      draws = λ i li. (let lt : i < tasks_of x = rw same_draws at li in rw same_draws (clear.draws i lt) ∙ sym (sum_over-zero (λ k. draws_in i (left_of logs y.next.items k)) 0 (length logs) (λ k. ap (draws_in i) (none_left k))));
    }

-- where nothing is left of the logs, nothing is left in the index
pub cleared : (logs : List Logged) (x : Index) → IsIndexed logs x → ((k : ℕ) → left_of logs x.next.items k ≡ []) → IsClear (length logs) x
cleared logs x ix none_left =
    let end : (f : Entry → Bool) (k : ℕ) → next_place f (log_at logs k) (get_or x.next.items k 0) ≡ none =
    λ f k. ap (first_place f (get_or x.next.items k 0)) (none_left k) in
    record {
      shape = ix.shape;
      looks = λ i k li lk. ix.looks.firsts i k li lk ∙ end (looks_at i) k;
      gets = λ g k lg lk. ix.gets.firsts g k lg lk ∙ end (gathers_at g) k;
      draws = λ i li. ix.draws i li ∙ sum_over-zero (λ k. draws_in i (left_of logs x.next.items k)) 0 (length logs) (λ k. ap (draws_in i) (none_left k));
    }

-- the next entry of log k, as the code reads it
pub record Head (logs : List Logged) (x : Index) (k : ℕ) (e : Entry) : Type 0 where
  pub within : get_or x.next.items k 0 < length (log_at logs k)
  pub rest : List Entry
  pub head : left_of logs x.next.items k ≡ e ∷ rest
  pub entry : entry_at logs k (get_or x.next.items k 0) e ≡ e

pub head-read : (logs : List Logged) (x : Index) (k p : ℕ) (log : Logged) (items : List Entry) (e : Entry) → IsIndexed logs x → k < length logs → p ≡ get_or x.next.items k p → log ≡ get_or logs k log → items ≡ log.entries → (p ≡ length items → ⊥) → e ≡ get_or items p e → Head logs x k e
head-read logs x k p log items e ix caller next read same ne entry =
    let place : k < length x.next.items = rw ix.shape.next_len caller in
    let now : p ≡ get_or x.next.items k 0 = get_or_read x.next.items k p place next 0 in
    let here : log ≡ get_or logs k no_log = get_or_read logs k log caller read no_log in
    let list : items ≡ log_at logs k = same ∙ ap (λ l. l.entries) here in
    let len : length items ≡ length (log_at logs k) = ap length list in
    let le = ix.layout.within k caller in
    let lt : p < length (log_at logs k) = omega arith in
    let it : get_or (log_at logs k) p e ≡ e = sym (entry ∙ ap (λ es. get_or es p e) list) in
    record {
      within = omega arith;
      rest = drop (suc p) (log_at logs k);
      head = ap (λ q. drop q (log_at logs k)) (sym now) ∙ drop_next (log_at logs k) p e lt ∙ ap (λ d. d ∷ drop (suc p) (log_at logs k)) it;
      entry = ap (λ q. entry_at logs k q e) (sym now) ∙ it;
    }
