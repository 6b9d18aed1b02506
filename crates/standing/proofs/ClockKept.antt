-- The window of each worker's timers is kept by each call, each round and each next tick.
use Rattle.std.proofs.Common.{◌≡◌, ℕ, zero, suc, ◌+◌, ◌%◌, ◌^◌, ◌<◌, ◌≤◌, Bool, true, false, ◌==◌, if◌then◌else◌, List, [], ◌∷◌, ◌++◌, map, fold, take, Option, None, Some, length, get_or, refl, sym, ap, ◌∙◌, arith, subst, IsTrue, unwrap_or, ne_eqb}
use Rattle.std.specs.Prelude.{int_le}
use Rattle.std.specs.List.{AllByRecursion, flat_map, range_with_len}
use Rattle.sched_base.specs.declared.names.CallerId.{CallerId}
use Rattle.sched_base.proofs.Inserted.{all-append}
use Rattle.queue_model.specs.Classes.{Next}
use Rattle.queue_model.specs.Settle.{settled}
use Rattle.queue_model.specs.Ticks.{distance, is_set, later}
use Rattle.queue_model.specs.WaitList.{WaitItem, WaitList, expiry_of}
use Rattle.queue_model.specs.Sweep.{fired, swept}
use Rattle.queue_model.specs.Clock.{off, IsWithin, Window, behind, ahead}
use Rattle.queue_model.proofs.Clock.{window-never, window-unlinked, window-armed}
use Rattle.queue_model.proofs.ClockMoved.{window-swept, window-next, window-jump, Far, far-first}
use Rattle.queue_model.proofs.Offsets.{later-within}
use Rattle.queue_model.proofs.Settles.{le_off, lt_off, window-settled}
use Rattle.step_tables.specs.declared.tables.Action.{Action}
use Rattle.step_tables.specs.declared.tables.Expiry.{Expiry}
use Rattle.step_tables.specs.declared.tables.Expiry.TheVariants.{Keep, After, Never}
use Rattle.step_tables.specs.declared.tables.Kind.{Kind}
use Rattle.step_tables.specs.declared.tables.Kind.TheVariants.{Pinned, Shared, Tasklet}
use Rattle.step_tables.specs.declared.tables.Row.{Row}
use Rattle.step_tables.specs.declared.tables.Script.{Script}
use Rattle.step_tables.specs.Sound.{is_sound, is_sound_expiry}
use Rattle.task_machine.specs.declared.calls.Call.{Call}
use Rattle.task_machine.specs.declared.calls.Reply.{Reply}
use Rattle.task_machine.specs.declared.calls.Entry.{Entry}
use Rattle.run_model.specs.Versions.{is_second}
use Rattle.run_model.specs.Replies.{is_rest, is_killed, has_reasons, takes_in, members}
use Rattle.run_model.specs.Run.{Round}
use Rattle.run_model.specs.Lawful.{RoundOf}
use Rattle.run_model.specs.Tables.{home_of, row_number, row_by, target, groups, actions_in}
use Rattle.run_model.specs.Book.{Book, queued, queued_all, taken_from, timed}
use Rattle.run_model.specs.Standing.{Standing, opening, book_at, blank_book, first_key, first_keys, earlier_of, earliest, jumps, next_tick}
use Rattle.turn_steps.specs.Left.{Onward, by_draw, next_in, spent_in, Left, gets, wakes, runs, acts, posts, drops, retires, returns, drawn, injects, carries, over, Stage, stage, at_wakes, at_gets, at_acts, at_events, waked, handed, acted, run_begun, taken, returned, dropped_live, dropped_as, injected, asked_in, heard_in, draws_now_in, went, MayCall}
use Rattle.turn_steps.specs.Counts.{is_injectors}
use Rattle.turn_steps.specs.Ranges.{IsFit}
use Rattle.turn_steps.proofs.Asked.{by_ask}
use Rattle.turn_steps.proofs.Fit.{sound_parts, within-parts, at_row, row_parts}
use Rattle.standing.specs.Keeps.{Callers}
use Rattle.standing.specs.Going.{called, Going, gone_on}
use Rattle.standing.specs.Between.{KeepsBetween, entered, round_takes}
use Rattle.standing.specs.Clock.{DelayIn, InWindow, KeepsClock, ClockBefore, ClockAfter, DelaysAreIn}
use Rattle.standing.proofs.Enter.{entered_each, Keeps-entered}
use Rattle.turn_steps.proofs.Measure.{wait-queued, wait-queued_all}
use Rattle.standing.proofs.Opening.{blank_at}
use Rattle.standing.proofs.Rounds.{made-round, left_after}
use Rattle.standing.proofs.Steps.{at_each, Keeps-going}

-- ---- a row's expiry

pub window-timed : (T i : ℕ) (x : Expiry) (l : WaitList) → T < 2 ^ 32 → DelayIn x → Window ahead T l → Window ahead T (timed T i x l)
window-timed T i Keep l h d w = w
window-timed T i (After n) l h d w = window-armed T i (later T n) l h (later-within T n h d.0 d.1) w
window-timed T i Never l h d w = window-never ahead T i l w

window-queued : (s : Script) (low T i : ℕ) (b : Book) → Window low T b.wait → Window low T (queued s i b).wait
window-queued s low T i b w = subst (Window low T) (sym (wait-queued s i b)) w

window-queued_all : (s : Script) (low T : ℕ) (ids : List ℕ) (b : Book) → Window low T b.wait → Window low T (queued_all s ids b).wait
window-queued_all s low T ids b w = subst (Window low T) (sym (wait-queued_all s ids b)) w

window-waked : (s : Script) (low T : ℕ) (rest : Bool) (i : ℕ) (b : Book) → Window low T b.wait → Window low T (waked s rest i b).wait
window-waked s low T true i b w = window-queued s low T i b w
window-waked s low T false i b w = w

-- ---- the stages

clock-wakes : (s : Script) (T : ℕ) (is : List ℕ) (b : Book) → Window ahead T b.wait → InWindow T (at_wakes s is b)
clock-wakes s T [] b w = w
clock-wakes s T (i ∷ is) b w = w

pub clock-gets : (s : Script) (T : ℕ) (gs : List ℕ) (b : Book) → Window behind T b.wait → InWindow T (at_gets s T gs b)
clock-gets s T [] b w = clock-wakes s T (fired T b.wait) (record b { wait = swept T b.wait }) (window-swept T b.wait w)
clock-gets s T (g ∷ gs) b w = w

clock-acts : (T : ℕ) (more : List Action) (i : ℕ) (row : Row) (q : Onward) (b : Book) → T < 2 ^ 32 → DelayIn row.expiry → Window ahead T b.wait → InWindow T (at_acts T more i row q b)
clock-acts T [] i row q b h d w = window-timed T i row.expiry b.wait h d w
clock-acts T (a ∷ more) i row q b h d w = (w, d)

clock-events : (T : ℕ) (more : List Action) (b : Book) → InWindow T (at_events more b)
clock-events T [] b = tt
clock-events T (a ∷ more) b = tt

clock-handed : (s : Script) (T : ℕ) (own : Bool) (x : ℕ) (more : List Action) (i : ℕ) (row : Row) (q : Onward) (b : Book) → T < 2 ^ 32 → DelayIn row.expiry → Window ahead T b.wait → InWindow T (handed s T own x more i row q b)
clock-handed s T true x more i row q b h d w = clock-acts T more i row q (queued s x b) h d (window-queued s ahead T x b w)
clock-handed s T false x more i row q b h d w = (w, d)

clock-acted : (s : Script) (k : CallerId) (T : ℕ) (rest : Bool) (x : ℕ) (more : List Action) (i : ℕ) (row : Row) (q : Onward) (b : Book) → T < 2 ^ 32 → DelayIn row.expiry → Window ahead T b.wait → InWindow T (acted s k T rest x more i row q b)
clock-acted s k T true x more i row q b h d w = clock-handed s T (home_of s x == k.0) x more i row q b h d w
clock-acted s k T false x more i row q b h d w = clock-acts T more i row q b h d w

clock-run : (s : Script) (T : ℕ) (r : Reply) (killed : Bool) (i : ℕ) (q : Onward) (b : Book) → T < 2 ^ 32 → DelaysAreIn s → Window ahead T b.wait → InWindow T (run_begun s T r killed i q b)
clock-run s T r true i q b h d w = w
clock-run s T r false i q b h d w =
    let row = row_by s i (takes_in r) in
    clock-acts T row.actions i row q b h (d i (row_number s i (takes_in r))) w

clock-taken : (s : Script) (T : ℕ) (r : Reply) (q : Onward) (o : Option Next) (b : Book) → T < 2 ^ 32 → DelaysAreIn s → Window ahead T b.wait → InWindow T (taken s T r q o b)
clock-taken s T r q None b h d w = w
clock-taken s T r q (Some x) b h d w = clock-run s T r (is_killed r) x.task (spent_in x.class q) (taken_from x.class b) h d w

clock-returned : (s : Script) (T : ℕ) (shared : Bool) (i : ℕ) (q : Onward) (b : Book) → Window ahead T b.wait → InWindow T (returned s shared i q b)
clock-returned s T true i q b w = w
clock-returned s T false i q b w = window-queued s ahead T i b w

clock-live : (s : Script) (T : ℕ) (busy : Bool) (i : ℕ) (q : Onward) (b : Book) → Window ahead T b.wait → InWindow T (dropped_live s busy i q b)
clock-live s T true i q b w = clock-returned s T (home_of s i == s.workers) i q b w
clock-live s T false i q b w = w

clock-dropped : (s : Script) (T : ℕ) (killed busy : Bool) (i : ℕ) (q : Onward) (b : Book) → Window ahead T b.wait → InWindow T (dropped_as s killed busy i q b)
clock-dropped s T true busy i q b w = w
clock-dropped s T false busy i q b w = clock-live s T busy i q b w

clock-injected : (T : ℕ) (rest : Bool) (x : ℕ) (more : List Action) (b : Book) → InWindow T (injected rest x more b)
clock-injected T true x more b = tt
clock-injected T false x more b = clock-events T more b

pub clock-heard : (s : Script) (k : CallerId) (T : ℕ) (r : Reply) (l : Left) (b : Book) → T < 2 ^ 32 → DelaysAreIn s → InWindow T (stage l b) → InWindow T (heard_in s k T r l b)
clock-heard s k T r (gets g gs) b h d w = clock-gets s T gs (queued_all s (members g r) b) (window-queued_all s behind T (members g r) b w)
clock-heard s k T r (wakes j js) b h d w = clock-wakes s T js (waked s (is_rest r) j b) (window-waked s ahead T (is_rest r) j b w)
clock-heard s k T r (runs q) b h d w = clock-taken s T r q (next_in q b) b h d w
clock-heard s k T r (acts a more i row q) b h d w = clock-acted s k T (is_rest r) (target a) more i row q b h w.1 w.0
clock-heard s k T r (posts j more i row q) b h d w = clock-acts T more i row q b h w.1 w.0
clock-heard s k T r (drops i q) b h d w = clock-dropped s T (is_killed r) (has_reasons r) i q b w
clock-heard s k T r (retires held i q) b h d w = window-unlinked ahead T i b.wait w
clock-heard s k T r (returns i q) b h d w = w
clock-heard s k T r (drawn i n) b h d w = clock-run s T r (is_killed r) i (by_draw n) b h d w
clock-heard s k T r (injects a more) b h d w = clock-injected T (is_rest r) (target a) more b
clock-heard s k T r (carries j more) b h d w = clock-events T more b
clock-heard s k T r over b h d w = tt

-- a draw comes after the sweep
clock-drew : (s : Script) (T i : ℕ) (l : Left) (b : Book) → 0 < draws_now_in s l b → InWindow T (stage l b) → Window ahead T b.wait
clock-drew s T i (gets g gs) b some w = absurd (omega arith)
clock-drew s T i (wakes j js) b some w = absurd (omega arith)
clock-drew s T i (runs q) b some w = w
clock-drew s T i (acts a more j row q) b some w = absurd (omega arith)
clock-drew s T i (posts x more j row q) b some w = absurd (omega arith)
clock-drew s T i (drops j q) b some w = absurd (omega arith)
clock-drew s T i (retires held j q) b some w = absurd (omega arith)
clock-drew s T i (returns j q) b some w = absurd (omega arith)
clock-drew s T i (drawn j n) b some w = absurd (omega arith)
clock-drew s T i (injects a more) b some w = absurd (omega arith)
clock-drew s T i (carries j more) b some w = absurd (omega arith)
clock-drew s T i over b some w = absurd (omega arith)

clock-went : (s : Script) (k : CallerId) (T : ℕ) (c : Call) (r : Reply) (g : Stage) → T < 2 ^ 32 → DelaysAreIn s → MayCall s g c → InWindow T g → InWindow T (went s k T c r g)
clock-went s k T c r g h d may w =
    by_ask s k T g c r (λ e x. InWindow T x) may (λ e. clock-heard s k T r g.left g.book h d w) (λ i shared some e. clock-drew s T i g.left g.book some w)

pub clock-going : (s : Script) (T : ℕ) (c : Callers) (es : List Entry) → T < 2 ^ 32 → DelaysAreIn s → KeepsClock s T c → Going s T c es → KeepsClock s T (gone_on s T c es)
clock-going s T c [] h d keeps going = keeps
clock-going s T c (e ∷ es) h d keeps going =
    let j = e.caller.0 in
    let g = went s e.caller T e.call e.reply (c.at j) in
    clock-going s T (called s T c e) es h d (λ k le. at_each (λ k x. InWindow T x) j k g c.at (λ same. clock-went s e.caller T e.call e.reply (c.at j) h d going.0.asks (keeps j going.0.caller)) (λ ne. keeps k le)) going.1

pub clock-entered : (s : Script) (r T : ℕ) (st : Standing) → ClockBefore s T st → KeepsClock s T (entered s r T st)
clock-entered s r T st h k le =
    entered_each s r T st (λ k g. InWindow T g) k (λ same. clock-events T (actions_in s r) (blank_book 0)) (λ ne. clock-gets s T (range_with_len 0 (groups s)) (book_at st k) (h k (omega arith)))

-- ---- the end of a round

ended_if : (second : Bool) (T : ℕ) (b : Book) → Window ahead T b.wait → Window ahead T (if second then record b { wait = settled T b.wait } else b).wait
ended_if true T b w = window-settled ahead T b.wait w
ended_if false T b w = w

-- a worker that asks nothing has been through its sweep
pub clock-ended : (s : Script) (T : ℕ) (l : Left) (b : Book) → asked_in s l b ≡ None → is_injectors l ≡ false → InWindow T (stage l b) → Window ahead T b.wait
clock-ended s T (gets g gs) b e n w = cc
clock-ended s T (wakes j js) b e n w = w
clock-ended s T (runs q) b e n w = w
clock-ended s T (acts a more j row q) b e n w = w.0
clock-ended s T (posts x more j row q) b e n w = w.0
clock-ended s T (drops j q) b e n w = w
clock-ended s T (retires held j q) b e n w = w
clock-ended s T (returns j q) b e n w = w
clock-ended s T (drawn j m) b e n w = w
clock-ended s T (injects a more) b e n w = cc
clock-ended s T (carries j more) b e n w = cc
clock-ended s T over b e n w = cc

pub clock-round : (s : Script) (r T limit : ℕ) (old : Standing) (round : Round) (new : Standing) → IsFit s → T < 2 ^ 32 → DelaysAreIn s → KeepsBetween s limit old → ClockBefore s T old → RoundOf s r T old round new → ClockAfter s T new
clock-round s r T limit old round new fit h d keeps clock is k lt =
    let c = entered s r T old in
    let made = made-round s r T old round new keeps.books is in
    let left = left_after s r T old round new keeps.books is in
    let after = clock-going s T c round.entries h d (clock-entered s r T old clock) made.going in
    let end = (gone_on s T c round.entries).at k in
    let keeps_on = Keeps-going s T (limit + round_takes s) c round.entries fit (Keeps-entered s r T limit old fit keeps) made.going in
    let worker : is_injectors end.left ≡ false = keeps_on.part k (omega arith) ∙ ne_eqb k s.workers (omega arith) in
    rw (left.books k lt) (ended_if (is_second s) T end.book (clock-ended s T end.left end.book (made.done k (omega arith)) worker (after k (omega arith))))

-- ---- the next tick

all-fold : (P : ℕ → Type 0) (T t : ℕ) (ts : List ℕ) → P t → AllByRecursion P ts → P (fold (earlier_of T) t ts)
all-fold P T t [] h g = h
all-fold P T t (u ∷ us) h g = all-fold P T (earlier_of T t u) us (one_of (int_le (distance t T) (distance u T)) h g.0) g.1
  where
    one_of : (b : Bool) → P t → P u → P (if b then t else u)
    one_of true p q = p
    one_of false p q = q

earlier-left : (T t u : ℕ) (b : Bool) → int_le (distance t T) (distance u T) ≡ b → (off (if b then t else u) T ≤ off t T) × (off (if b then t else u) T ≤ off u T)
earlier-left T t u true e = (omega arith, le_off t u T e)
earlier-left T t u false e = (omega (arith, lt_off t u T e), omega arith)

pub earlier-off : (T t u : ℕ) → (off (earlier_of T t u) T ≤ off t T) × (off (earlier_of T t u) T ≤ off u T)
earlier-off T t u = earlier-left T t u (int_le (distance t T) (distance u T)) refl

-- the earliest of some ticks comes before each
fold-first : (T t : ℕ) (ts : List ℕ) → off (fold (earlier_of T) t ts) T ≤ off t T
fold-first T t [] = omega arith
fold-first T t (u ∷ us) = omega (arith, fold-first T (earlier_of T t u) us, (earlier-off T t u).0)

fold-all : (T t : ℕ) (ts : List ℕ) → AllByRecursion (λ x. off (fold (earlier_of T) t ts) T ≤ off x T) ts
fold-all T t [] = tt
fold-all T t (u ∷ us) = (omega (arith, fold-first T (earlier_of T t u) us, (earlier-off T t u).1), fold-all T (earlier_of T t u) us)

record First (P : ℕ → Type 0) (T U : ℕ) (ts : List ℕ) : Type 0 where
  is : P U
  least : AllByRecursion (λ x. off U T ≤ off x T) ts

earliest-first : (P : ℕ → Type 0) (T U : ℕ) (ts : List ℕ) → AllByRecursion P ts → earliest T ts ≡ Some U → First P T U ts
earliest-first P T U [] h e = cc
earliest-first P T U (t ∷ ts) h e =
    let same : fold (earlier_of T) t ts ≡ U = cc in
    record {
      is = subst P same (all-fold P T t ts h.0 h.1);
      least = subst (λ (V : ℕ). AllByRecursion (λ x. off V T ≤ off x T) (t ∷ ts)) same (fold-first T t ts, fold-all T t ts);
    }

all_flat : (P : ℕ → Type 0) (bs : List Book) → ((k : ℕ) → k < length bs → AllByRecursion P (first_key (get_or bs k (blank_book 0)))) → AllByRecursion P (flat_map first_key bs)
all_flat P [] h = tt
all_flat P (b ∷ bs) h =
    all-append P (first_key b) (flat_map first_key bs) (h 0 (omega arith)) (all_flat P bs (λ k lt. h (suc k) (omega arith)))

append_left : (P : ℕ → Type 0) (xs ys : List ℕ) → AllByRecursion P (xs ++ ys) → AllByRecursion P xs × AllByRecursion P ys
append_left P [] ys h = (tt, h)
append_left P (x ∷ xs) ys h = let later = append_left P xs ys h.1 in ((h.0, later.0), later.1)

flat_all : (P : ℕ → Type 0) (bs : List Book) (k : ℕ) → k < length bs → AllByRecursion P (flat_map first_key bs) → AllByRecursion P (first_key (get_or bs k (blank_book 0)))
flat_all P [] k lt h = absurd (omega arith)
flat_all P (b ∷ bs) zero lt h = (append_left P (first_key b) (flat_map first_key bs) h).0
flat_all P (b ∷ bs) (suc k) lt h = flat_all P bs k (omega arith) (append_left P (first_key b) (flat_map first_key bs) h).1

-- the first key of a list in its window
first-within : (T : ℕ) (l : WaitList) (items : List WaitItem) → l.items ≡ items → Window ahead T l → AllByRecursion (IsWithin ahead T) (map (λ y. y.key) (take 1 items))
first-within T l [] e w = tt
first-within T l (y ∷ ys) e w =
    let keys = subst (λ (zs : List WaitItem). AllByRecursion (λ (z : WaitItem). IsWithin ahead T z.key) zs) e w.keys in
    (keys.0, tt)

first-far : (T n : ℕ) (l : WaitList) (items : List WaitItem) → l.items ≡ items → Window ahead T l → AllByRecursion (λ x. n ≤ off x T) (map (λ y. y.key) (take 1 items)) → Far T n l.items
first-far T n l [] e w h = subst (Far T n) (sym e) tt
first-far T n l (y ∷ ys) e w h = far-first T ahead l w y ys e n h.0

abbrev Ready : Script → ℕ → Standing → Type 0
Ready s U st = (U < 2 ^ 32) × ClockBefore s U st

next-by : (s : Script) (T : ℕ) (st : Standing) (o : Option ℕ) → T < 2 ^ 32 → s.step ≤ 2 ^ 20 → ClockAfter s T st → ((U : ℕ) → o ≡ Some U → Ready s U st) → Ready s (unwrap_or o ((T + s.step) % 2 ^ 32)) st
next-by s T st None h le after jump = (omega arith, λ k lt. window-next T s.step (book_at st k).wait h le (after k lt))
next-by s T st (Some U) h le after jump = jump U refl

jumped : (s : Script) (T U : ℕ) (st : Standing) → T < 2 ^ 32 → length st.books ≡ s.workers → ClockAfter s T st → earliest T (first_keys st) ≡ Some U → Ready s U st
jumped s T U st h n after e =
    let within = all_flat (IsWithin ahead T) st.books (λ k lt. first-within T (book_at st k).wait (book_at st k).wait.items refl (after k (omega (arith, n)))) in
    let first = earliest-first (IsWithin ahead T) T U (first_keys st) within e in
    let is = first.is in
    (is.1, λ k lt. window-jump T U (book_at st k).wait h is.1 (omega (arith, is.2)) (first-far T (off U T) (book_at st k).wait (book_at st k).wait.items refl (after k lt) (flat_all (λ x. off U T ≤ off x T) st.books k (omega (arith, n)) first.least)) (after k lt))

next-if : (s : Script) (T : ℕ) (st : Standing) (b : Bool) → T < 2 ^ 32 → s.step ≤ 2 ^ 20 → length st.books ≡ s.workers → ClockAfter s T st → Ready s (unwrap_or (if b then earliest T (first_keys st) else None) ((T + s.step) % 2 ^ 32)) st
next-if s T st true h le n after = next-by s T st (earliest T (first_keys st)) h le after (λ U e. jumped s T U st h n after e)
next-if s T st false h le n after = next-by s T st None h le after (λ U e. cc)

pub clock-next : (s : Script) (r T : ℕ) (st : Standing) → T < 2 ^ 32 → s.step ≤ 2 ^ 20 → length st.books ≡ s.workers → ClockAfter s T st → (next_tick s r T st < 2 ^ 32) × ClockBefore s (next_tick s r T st) st
clock-next s r T st h le n after = next-if s T st (jumps s r st) h le n after

pub clock-opening : (s : Script) → ClockBefore s s.start (opening s)
clock-opening s k lt =
    blank_at s.workers k (blank_book (length s.tasks)) (blank_book 0) (λ b. Window behind s.start b.wait) (blank_window s.start (length s.tasks)) (blank_window s.start 0)
  where
    zeros : (n i : ℕ) → expiry_of (blank_book n).wait i ≡ 0
    zeros zero i = refl
    zeros (suc n) zero = refl
    zeros (suc n) (suc i) = zeros n i

    blank_window : (T n : ℕ) → Window behind T (blank_book n).wait
    blank_window T n = record {
      keys = tt;
      sorted = tt;
      ends = λ i is. (let none : is_set (expiry_of (blank_book n).wait i) ≡ false = ap is_set (zeros n i) in cc);
    }

delay_sound : (n : ℕ) (kind : Kind) (x : Expiry) → is_sound_expiry kind x ≡ true → DelayIn x
delay_sound n kind Keep h = tt
delay_sound n kind Never h = tt
delay_sound n (Pinned home nice) (After d) h = let p = within-parts 1 1073741824 d h in (p.0, omega (arith, p.1))
delay_sound n (Shared nice) (After d) h = cc
delay_sound n (Tasklet home class) (After d) h = cc

pub DelaysAreIn-sound : (s : Script) → IsTrue (is_sound s) → DelaysAreIn s
DelaysAreIn-sound s h =
    at_row s (λ kind row. DelayIn row.expiry) (sound_parts s h) (λ kind rows row k. delay_sound rows kind row.expiry (row_parts (length s.tasks) kind rows row k).expiry) (λ kind. tt)
