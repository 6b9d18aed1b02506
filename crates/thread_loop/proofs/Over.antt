-- A round that was run, brought to its end.
use Rattle.std.proofs.Common.{◌≡◌, ◌≢◌, ℕ, suc, ◌+◌, ◌*◌, ◌^◌, ◌<◌, ◌≤◌, true, false, Bool, IsTrue, List, [], ◌∷◌, map, length, get_or, None, Some, refl, sym, ap, subst, ◌∙◌, inl, inr, arith}
use Rattle.std.proofs.lemmas.Bool.{cases_eq, cases_lt}
use Rattle.std.proofs.lemmas.List.{get_or-map, get_or_past, length-map}
use Rattle.std.proofs.lemmas.List.Sums.{sum_by-cons}
use Rattle.step_tables.specs.declared.tables.Script.{Script}
use Rattle.task_machine.specs.declared.task.Place.TheVariants as places
use Rattle.task_machine.specs.declared.calls.Entry.{Entry}
use Rattle.task_machine.specs.Logged.{Logged}
use Rattle.task_machine.specs.Own.{Own, away, holding, drawing, running, own_at, own_of}
use Rattle.task_machine.specs.Task.{is_gone, resting}
use Rattle.task_machine.specs.Since.{is_take}
use Rattle.task_machine.specs.declared.task.TaskState.{TaskState}
use Rattle.task_machine.specs.Step.{State, task_at, bit}
use Rattle.task_machine.specs.History.{IsMerge, led, calls_of}
use Rattle.queue_model.specs.Clock.{Window, behind, ahead}
use Rattle.run_model.specs.Book.{Book}
use Rattle.run_model.specs.Lawful.{RoundOf}
use Rattle.run_model.specs.Standing.{Standing, book_at, blank_book, draws_of, next_tick, turn_ended, is_served, was_drawn}
use Rattle.run_model.specs.Tables.{home_of}
use Rattle.step_tables.specs.Sound.{is_sound}
use Rattle.turn_steps.proofs.Fit.{IsFit-sound, sound_parts, within-parts}
use Rattle.standing.specs.Between.{entered, round_takes}
use Rattle.standing.specs.Firm.{Firm}
use Rattle.standing.specs.Going.{gone_on}
use Rattle.standing.specs.Laws.{takes_by}
use Rattle.standing.proofs.ClockKept.{clock-round, DelaysAreIn-sound}
use Rattle.standing.proofs.Firm.{firm-round, firm-calls}
use Rattle.standing.proofs.Lawful.{takes_all}
use Rattle.standing.proofs.Merge.{state-gone_on}
use Rattle.standing.proofs.Rounds.{made-round}
use Rattle.standing.proofs.Served.{served-by}
use Rattle.standing.proofs.Steps.{boxed-in}
use Rattle.history_weave.specs.Places.{log_at, entry_count}
use Rattle.history_weave.proofs.Merges.{IsMerge-one_end}
use Rattle.wake_board.specs.Rows.{WordRow}
use Rattle.wake_board.specs.Start.{state_by}
use Rattle.wake_board.specs.Between.{PlacedBy, StandBetween}
use Rattle.wake_board.specs.Seen.{Held}
use Rattle.wake_board.specs.Own.{takes_in}
use Rattle.wake_board.specs.Ends.{AllBack, AreHolders, Finishes, entries_in, entries_of, own_by}
use Rattle.wake_board.proofs.Opens.{state-is}
use Rattle.thread_loop.specs.Boards.{draws_in, in_hand}
use Rattle.thread_loop.specs.Idle as idle
use Rattle.thread_loop.specs.Idle.{book_now, Opened}
use Rattle.thread_loop.specs.Holders.{holder_by}
use Rattle.thread_loop.specs.Plants.{Holds, IsRun, IsTurned, MayEnd, EndsTurn, IsStopped, HasEnded, standing_of}
use Rattle.thread_loop.specs.Workers.{tick_of, takes_of, Fits}
use Rattle.thread_loop.specs.declared.plant.Plant.{Plant}
use Rattle.thread_loop.specs.declared.plant.RoundInHand.{RoundInHand}
use Rattle.thread_loop.specs.declared.worker.Worker.{Worker}
use Rattle.thread_loop.proofs.Holding.{home-in, holder-placed, shared-placed, holders-are}
use Rattle.thread_loop.proofs.Merged.{boxed-is, has-drawn, merged-round}
use Rattle.thread_loop.proofs.Opened.{few_workers}
use Rattle.thread_loop.proofs.Windows.{window_now}

-- ---- the passes

holding-not : (o : Own) → in_hand o ≡ 0 → o ≢ holding
holding-not o h e = let one : in_hand o ≡ 1 = ap in_hand e in absurd (omega arith)

pub all-back : (s : Script) (g : Opened) (p : Plant) (h : RoundInHand) (d : Worker) → IsRun s g p h → AllBack h.board h.passes
all-back s g p h d run =
    let workers : h.board.start.state.workers ≡ s.workers = ap (λ (m : State). m.workers) run.state ∙ run.firm.places.workers in
    record {
      count = run.count ∙ ap suc (sym workers);
      back = λ k le. elim (cases_lt k s.workers) [
        | inl lt ↦
            (let w = run.turned k d lt in
            let t = w.2 in
            (w.0, w.1, record { board = t.pass.board; start = t.pass.start; who = t.who; outs = t.outs; undrawn = λ i less. t.listed.draws i; ended = λ i less. t.listed.runs i }))
        | inr ge ↦
            (let x = run.injected in
            let t = x.2 in
            let same : k ≡ s.workers = omega arith in
            (x.0, subst (λ (j : ℕ). get_or h.passes j None ≡ Some x.0) (sym same) x.1, record { board = t.pass.board; start = t.pass.start; who = t.who ∙ sym same; outs = t.outs; undrawn = λ i less. not_drawing (own_by x.0 i) (t.free i); ended = λ i less. not_running (own_by x.0 i) (t.free i) }))
      ];
    }
  where
    not_drawing : (o : Own) → o ≡ away → o ≢ drawing
    not_drawing o e f = let bad : away ≡ drawing = sym e ∙ f in cc

    not_running : (o : Own) → o ≡ away → o ≢ running
    not_running o e f = let bad : away ≡ running = sym e ∙ f in cc

-- the entries of the passes are the logs
pub entries-logged : (s : Script) (g : Opened) (p : Plant) (h : RoundInHand) (d : Worker) (k : ℕ) → IsRun s g p h → entries_of h.passes k ≡ log_at p.logs.items k
entries-logged s g p h d k run =
    elim (cases_lt k s.workers) [
      | inl lt ↦ (let w = run.turned k d lt in ap entries_in w.1 ∙ w.2.entries)
      | inr ge ↦ elim (cases_eq k s.workers) [
        | inl same ↦ (let x = run.injected in rw same (ap entries_in x.1 ∙ x.2.entries))
        | inr ne ↦ ap entries_in (get_or_past h.passes k None (omega (arith, run.count))) ∙ sym (ap (λ (l : Logged). l.entries) (get_or_past p.logs.items k (record { entries = []; room = 0 }) (omega (arith, run.holds.logs))))
      ]
    ]

pub logs-past : (s : Script) (g : Opened) (p : Plant) (h : RoundInHand) (k : ℕ) → IsRun s g p h → s.workers < k → log_at p.logs.items k ≡ []
logs-past s g p h k run lt = ap (λ (l : Logged). l.entries) (get_or_past p.logs.items k (record { entries = []; room = 0 }) (omega (arith, run.holds.logs)))

same_merge : (a b : State) (f k : ℕ → List Entry) (es : List Entry) → a ≡ b → ((j : ℕ) → f j ≡ k j) → IsMerge a f es → IsMerge b k es
same_merge a b f k es e same m = subst (λ (x : State). IsMerge x k es) e (m.0, λ j. m.1 j ∙ same j)

pub merge-logged : (s : Script) (g : Opened) (p : Plant) (h : RoundInHand) (d : Worker) (ws : WordRow) → IsRun s g p h → (f : Finishes h.board h.passes ws) → IsMerge g.old.state (log_at p.logs.items) f.history
merge-logged s g p h d ws run f = same_merge h.board.start.state g.old.state (entries_of h.passes) (log_at p.logs.items) f.history run.state (λ k. entries-logged s g p h d k run) f.merge

-- ---- the holders

-- each worker's own tasks have the worker as their holder just where it has them in its hands
pub record HoldsAll (s : Script) (p q : Plant) : Type 0 where
  pub own : (k i : ℕ) (o : Own) (d : Logged) → k < s.workers → i < length p.holders.items → get_or p.homes.items i 0 ≡ k → get_or p.holders.items i 0 ≡ holder_by k o → get_or q.holders.items i 0 ≡ holder_by k (own_of i o (get_or p.logs.items k d).entries)
  pub others : (i : ℕ) → s.workers ≤ get_or p.homes.items i 0 → get_or q.holders.items i 0 ≡ get_or p.holders.items i 0
  pub count : length q.holders.items ≡ length p.holders.items

placed-at : (s : Script) (g : Opened) (p : Plant) (h : RoundInHand) (i : ℕ) → IsRun s g p h → i < length s.tasks → PlacedBy p.words.workers (home_of s i) (get_or p.holders.items i 0) (task_at g.old.state i).place
placed-at s g p h i run lt =
    let st = run.holds.stands in
    let count : i < p.words.tasks = omega (arith, st.count, run.firm.places.tasks) in
    let home : get_or p.homes.items i 0 ≡ home_of s i = ap (λ (xs : List ℕ). get_or xs i 0) run.holds.homes ∙ home-in s i lt in
    subst (λ (x : ℕ). PlacedBy p.words.workers x (get_or p.holders.items i 0) (task_at g.old.state i).place) home (st.placed i count)

words-workers : (s : Script) (g : Opened) (p : Plant) (h : RoundInHand) → IsRun s g p h → p.words.workers ≡ s.workers
words-workers s g p h run = sym run.holds.stands.workers ∙ run.firm.places.workers

own-held : (s : Script) (g : Opened) (p q : Plant) (h : RoundInHand) (d : Worker) (k i : ℕ) (w : Held) → IsRun s g p h → HoldsAll s p q → k < s.workers → i < length s.tasks → home_of s i ≡ k → IsTurned s g h.board k (get_or p.workers.items k d) (log_at p.logs.items k) w → get_or q.holders.items i 0 ≡ holder_by k (own_by w i)
own-held s g p q h d k i w run all among lt home t =
    let place = (task_at g.old.state i).place in
    let before : get_or p.holders.items i 0 ≡ holder_by k (own_at k place) = holder-placed s g.tick (g.round * round_takes s) g.old p.words.workers k i (get_or p.holders.items i 0) run.firm (words-workers s g p h run) home (subst (λ (x : ℕ). PlacedBy p.words.workers x (get_or p.holders.items i 0) place) home (placed-at s g p h i run lt)) in
    let at : get_or p.homes.items i 0 ≡ k = ap (λ (xs : List ℕ). get_or xs i 0) run.holds.homes ∙ home-in s i lt ∙ home in
    let after = all.own k i (own_at k place) (record { entries = []; room = 0 }) among (omega (arith, run.holds.holders)) at before in
    let start : (task_at w.start.state i).place ≡ place = ap (λ (m : State). (task_at m i).place) (ap (λ o. o.state) t.pass.start ∙ run.state) in
    let own : own_by w i ≡ own_of i (own_at k place) (log_at p.logs.items k) = own_same w i k place (log_at p.logs.items k) t.who start t.entries in
    after ∙ sym (ap (holder_by k) own)
  where
    own_same : (w : Held) (i k : ℕ) (place : _) (es : List Entry) → w.who ≡ k → (task_at w.start.state i).place ≡ place → w.entries ≡ es → own_by w i ≡ own_of i (own_at k place) es
    own_same w i k place es a b c = ap (λ (x : ℕ). own_of i (own_at x (task_at w.start.state i).place) w.entries) a ∙ ap (λ x. own_of i (own_at k x) w.entries) b ∙ ap (λ (ys : List Entry). own_of i (own_at k place) ys) c

pub holders-over : (s : Script) (g : Opened) (p q : Plant) (h : RoundInHand) (d : Worker) → IsRun s g p h → HoldsAll s p q → AreHolders (length h.board.start.state.tasks) h.passes q.holders.items
holders-over s g p q h d run all =
    let size : length h.board.start.state.tasks ≡ length s.tasks = ap (λ (m : State). length m.tasks) run.state ∙ run.firm.places.tasks in
    let fit = IsFit-sound s run.sound in
    holders-are s (length h.board.start.state.tasks) h.passes q.holders.items size run.count (λ i. fit.homes i) (λ k lt.
    let w = run.turned k d lt in
    let t = w.2 in
    (w.0, w.1, (λ i own. let one : in_hand (own_by w.0 i) ≡ 1 = ap in_hand own in let listed = t.listed.hands i in t.own.lists i (omega arith)), (λ i less home. own-held s g p q h d k i w.0 run all lt (omega arith) home t))) (let x = run.injected in (x.0, x.1, x.2.free)) (λ i less home.
    let lt : i < length s.tasks = omega arith in
    let at : get_or p.homes.items i 0 ≡ s.workers = ap (λ (xs : List ℕ). get_or xs i 0) run.holds.homes ∙ home-in s i lt ∙ home in
    let same = all.others i (omega arith) in
    same ∙ shared-placed s g.tick (g.round * round_takes s) g.old p.words.workers i (get_or p.holders.items i 0) run.firm (words-workers s g p h run) home (subst (λ (x : ℕ). PlacedBy p.words.workers x (get_or p.holders.items i 0) (task_at g.old.state i).place) home (placed-at s g p h i run lt)))

-- ---- the round

-- the shared box was served
draws-log : (s : Script) (k : ℕ) (es ys : List Entry) → calls_of k es ≡ ys → draws_in ys ≡ s.depth → draws_of k es ≡ s.depth
draws-log s k es ys same h = ap draws_in same ∙ h

pub served-run : (s : Script) (g : Opened) (p : Plant) (h : RoundInHand) (d : Worker) (ws : WordRow) (es : List Entry) → IsRun s g p h → Finishes h.board h.passes ws → IsMerge g.old.state (log_at p.logs.items) es → is_served s g.old.state es ≡ true
served-run s g p h d ws es run f merge =
    served-by s g.old.state es (λ k lt.
    let w = run.turned k d lt in
    elim w.2.served [
      | inl all ↦ inl (draws-log s k es (log_at p.logs.items k) (merge.1 k) all)
      | inr each ↦
          inr (λ i boxed.
          let lt_tasks : i < length s.tasks = omega (arith, boxed-in g.old.state s.workers i boxed, run.firm.places.tasks) in
          let missed = each i lt_tasks in
          let workers : h.board.start.state.workers ≡ s.workers = ap (λ (m : State). m.workers) run.state ∙ run.firm.places.workers in
          let at : (task_at h.board.start.state i).place ≡ places.Boxed h.board.start.state.workers = ap (λ (m : State). (task_at m i).place) run.state ∙ boxed-is s.workers (task_at g.old.state i).place boxed ∙ ap places.Boxed (sym workers) in
          let by = f.drawn k i missed.0 w.0 w.1 missed.1 at in
          let drawn = has-drawn i (entries_of h.passes by.0) by.1 in
          (by.0, subst (λ (ys : List Entry). was_drawn_in i ys) (entries-logged s g p h d by.0 run ∙ sym (merge.1 by.0)) drawn))
    ])
  where
    was_drawn_in : ℕ → List Entry → Type 0
    was_drawn_in i ys = was_drawn i ys ≡ true

-- the plant after the round was ended
pub record IsLeft (s : Script) (p q : Plant) : Type 0 where
  pub count : length q.workers.items ≡ length p.workers.items
  pub workers : (k : ℕ) (d : Worker) → k < length p.workers.items → EndsTurn s (get_or p.workers.items k d) (get_or q.workers.items k d)
  pub logs : q.logs.items ≡ p.logs.items
  pub homes : q.homes.items ≡ p.homes.items
  pub nexts : q.nexts ≡ p.nexts
  pub queue : length q.queue.ranks ≡ length p.queue.ranks
  pub ended : q.ended ≡ p.ended + 1
  pub ran : q.ran ≡ false
  pub holders : HoldsAll s p q

-- what the words stand for
pub stands-over : (s : Script) (g : Opened) (p q : Plant) (h : RoundInHand) (d : Worker) → IsRun s g p h → IsLeft s p q → (f : Finishes h.board h.passes q.words) → StandBetween q.words q.homes.items q.holders.items q.nexts (led g.old.state f.history)
stands-over s g p q h d run left f =
    let stands = f.stands q.holders.items (holders-over s g p q h d run left.holders) in
    let homes : h.board.start.homes ≡ q.homes.items = run.homes ∙ sym (left.homes ∙ run.holds.homes) in
    let nexts : h.board.start.nexts ≡ q.nexts = run.nexts ∙ sym (left.nexts ∙ run.holds.nexts) in
    subst (λ (m : State). StandBetween q.words q.homes.items q.holders.items q.nexts (led m f.history)) run.state (subst (λ (ns : List (List ℕ)). StandBetween q.words q.homes.items q.holders.items ns (led h.board.start.state f.history)) nexts (subst (λ (hs : List ℕ). StandBetween q.words hs q.holders.items h.board.start.nexts (led h.board.start.state f.history)) homes stands))

pub standing-state : (p : Plant) → (standing_of p).state ≡ state_by p.words p.homes.items p.holders.items
unfolding standing_of
standing-state p = refl

pub standing-books : (p : Plant) → (standing_of p).books ≡ map book_now p.workers.items
unfolding standing_of
standing-books p = refl

standing-is : (p : Plant) → standing_of p ≡ (let st : Standing = record { state = (standing_of p).state; books = (standing_of p).books } in st)
standing-is p = refl

pub state-over : (s : Script) (g : Opened) (p q : Plant) (h : RoundInHand) (d : Worker) → IsRun s g p h → IsLeft s p q → (f : Finishes h.board h.passes q.words) → (standing_of q).state ≡ led g.old.state f.history
state-over s g p q h d run left f =
    standing-state q ∙ sym (state-is q.words q.homes.items q.holders.items q.nexts (led g.old.state f.history) (stands-over s g p q h d run left f))

pub book-over : (p : Plant) (k : ℕ) (d : Worker) (b : Book) → k < length p.workers.items → get_or (standing_of p).books k b ≡ book_now (get_or p.workers.items k d)
book-over p k d b lt = ap (λ (bs : List Book). get_or bs k b) (standing-books p) ∙ get_or-map book_now p.workers.items k d b lt

-- a worker's book once its turn is ended
pub turn-left : (s : Script) (g : Opened) (p q : Plant) (h : RoundInHand) (d : Worker) (k : ℕ) → IsRun s g p h → IsLeft s p q → k < s.workers → EndsTurn s (get_or p.workers.items k d) (get_or q.workers.items k d)
turn-left s g p q h d k run left lt = left.workers k d (omega (arith, run.holds.count))

pub round-over : (s : Script) (g : Opened) (p q : Plant) (h : RoundInHand) (d : Worker) (es : List Entry) → IsRun s g p h → IsLeft s p q → Finishes h.board h.passes q.words → IsMerge g.old.state (log_at p.logs.items) es → RoundOf s g.round g.tick g.old (record { tick = g.tick; entries = es }) (standing_of q)
round-over s g p q h d es run left f merge =
    let state : (standing_of q).state ≡ led g.old.state es = state-over s g p q h d run left f ∙ IsMerge-one_end g.old.state (log_at p.logs.items) f.history es (merge-logged s g p h d q.words run f) merge in
    let count : length q.workers.items ≡ s.workers = left.count ∙ run.holds.count in
    let books : length (standing_of q).books ≡ s.workers = ap (λ (bs : List Book). length bs) (standing-books q) ∙ length-map q.workers.items book_now ∙ count in
    merged-round s g.round g.tick g.old (log_at p.logs.items) es (standing_of q).state (standing_of q).books run.firm.places.books books merge (λ k lt. logs-past s g p h k run lt) (λ k lt.
    let w = run.turned k d lt in
    let ends = turn-left s g p q h d k run left lt in
    let at : get_or (standing_of q).books k (blank_book 0) ≡ book_now (get_or q.workers.items k d) = book-over q k d (blank_book 0) (omega arith) in
    (book_now (get_or p.workers.items k d), w.2.turn, at ∙ ends.book ∙ ap (λ T. turn_ended s T (book_now (get_or p.workers.items k d))) w.2.tick)) run.injected.2.injects (served-run s g p h d q.words es run f merge) state

-- ---- the plant before the next round

-- the takes of a task among some entries, counted either way
take_one : (i : ℕ) (e : Entry) (ys : List Entry) (b : Bool) → is_take i e.call ≡ b → takes_by i (e ∷ ys) ≡ bit b + takes_by i ys
take_one i e ys true h = rw h (omega arith)
take_one i e ys false h = rw h (omega arith)

takes-both : (i : ℕ) (es : List Entry) → takes_in i es ≡ takes_by i es
takes-both i [] = refl
takes-both i (e ∷ es) = let later = takes-both i es in let one = take_one i e es (is_take i e.call) refl in omega arith

-- what is no task was never taken
takes-past : (s : Script) (w : Worker) (i : ℕ) → Fits s w → length s.tasks ≤ i → takes_of w i ≡ 0
unfolding Fits takes_of
takes-past s w i fits le = get_or_past w.takes.items i 0 (omega (arith, fits.rows.takes))

task-past : (s : Script) (state : State) (i : ℕ) → length state.tasks ≡ length s.tasks → length s.tasks ≤ i → (task_at state i).takes ≡ 0
task-past s state i count le = ap (λ (t : TaskState). t.takes) (get_or_past state.tasks i resting (omega (arith, count)))

-- a worker's own task that is not gone was taken as often as the worker knows
own-takes : (s : Script) (g : Opened) (p q : Plant) (h : RoundInHand) (d : Worker) (k i : ℕ) (es : List Entry) (new : Standing) → IsRun s g p h → k < s.workers → home_of s i ≡ k → IsMerge g.old.state (log_at p.logs.items) es → RoundOf s g.round g.tick g.old (record { tick = g.tick; entries = es }) new → is_gone (task_at new.state i).place ≡ false → takes_of (get_or p.workers.items k d) i ≡ (task_at new.state i).takes
own-takes s g p q h d k i es new run among home merge round live =
    let w = run.turned k d among in
    let t = w.2 in
    let c = entered s g.round g.tick g.old in
    let made = made-round s g.round g.tick g.old (record { tick = g.tick; entries = es }) new run.firm.places.books round in
    let homes = (firm-calls s g.round g.tick (g.round * round_takes s) g.old [] run.sound run.firm tt).1 in
    let leads : new.state ≡ (gone_on s g.tick c es).state = round.history.1 ∙ sym (state-gone_on s g.tick c es) in
    let lives : is_gone (task_at (gone_on s g.tick c es).state i).place ≡ false = ap (λ (m : State). is_gone (task_at m i).place) (sym leads) ∙ live in
    let told = takes_all s g.tick k i c es run.sound homes among home made.going lives in
    elim (cases_lt i (length s.tasks)) [
      | inr past ↦
          (let count : length new.state.tasks ≡ length s.tasks = (firm-round s g.round g.tick (g.round * round_takes s) g.old (record { tick = g.tick; entries = es }) new run.sound run.firm round).places.tasks in
          takes-past s (get_or p.workers.items k d) i t.fits past ∙ sym (task-past s new.state i count past))
      | inl exists ↦
          (
          let at : task_at w.0.start.state i ≡ task_at g.old.state i = ap (λ o. task_at o.state i) t.pass.start ∙ ap (λ (m : State). task_at m i) run.state in
          let known = t.takes i exists (home ∙ sym t.number) (ap (λ (x : TaskState). is_gone x.place) at ∙ told.0) in
          let before : (task_at w.0.start.state i).takes ≡ (task_at g.old.state i).takes = ap (λ (x : TaskState). x.takes) at in
          let mine : takes_in i w.0.entries ≡ takes_by i (calls_of k es) = ap (takes_in i) (t.entries ∙ sym (merge.1 k)) ∙ takes-both i (calls_of k es) in
          let after : (task_at new.state i).takes ≡ (task_at g.old.state i).takes + takes_by i (calls_of k es) = ap (λ (m : State). (task_at m i).takes) leads ∙ told.1 in
          known ∙ (let sum : (task_at w.0.start.state i).takes + takes_in i w.0.entries ≡ (task_at new.state i).takes = omega arith in sum))
    ]

idle-over : (s : Script) (g : Opened) (p q : Plant) (h : RoundInHand) (d : Worker) (k : ℕ) (es : List Entry) → IsRun s g p h → IsLeft s p q → k < s.workers → IsMerge g.old.state (log_at p.logs.items) es → RoundOf s g.round g.tick g.old (record { tick = g.tick; entries = es }) (standing_of q) → idle.IsIdle s (g.round + 1) k (standing_of q).state (get_or q.workers.items k d)
idle-over s g p q h d k es run left among merge round =
    let t = (run.turned k d among).2 in
    let clock = clock-round s g.round g.tick (g.round * round_takes s) g.old (record { tick = g.tick; entries = es }) (standing_of q) (IsFit-sound s run.sound) run.firm.tick (DelaysAreIn-sound s run.sound) run.firm.places run.firm.clock round k among in
    let v = get_or q.workers.items k d in
    let ends = turn-left s g p q h d k run left among in
    let book : book_at (standing_of q) k ≡ book_now v = book-over q k d (blank_book 0) (omega (arith, left.count, run.holds.count)) in
    let tick : tick_of v ≡ g.tick = ends.tick ∙ t.tick in
    record {
      fits = ends.fits;
      number = ends.number ∙ t.number;
      turns = ends.turns ∙ t.turns;
      over = ends.over;
      window = subst (λ (T : ℕ). Window behind T (book_now v).wait) (sym tick) (window_now g.tick (book_now v) run.firm.tick (subst (λ (b : Book). Window ahead g.tick b.wait) book clock));
      takes = λ i home live. ends.takes i ∙ own-takes s g p q h d k i es (standing_of q) run among home merge round live;
    }

-- the entries of all logs are few
sum-below : (logs : List Logged) → ((k : ℕ) → k < length logs → length (log_at logs k) < 2 ^ 20) → entry_count logs ≤ length logs * 2 ^ 20
sum-below [] h = omega arith
sum-below (l ∷ ls) h =
    let here = h 0 (omega arith) in
    let later = sum-below ls (λ k lt. h (suc k) (omega arith)) in
    omega (arith, counted l ls)
  where
    counted : (l : Logged) (ls : List Logged) → entry_count (l ∷ ls) ≡ length l.entries + entry_count ls
    counted l ls = sum_by-cons (λ (x : Logged). length x.entries) l ls

few-entries : (s : Script) (g : Opened) (p : Plant) (h : RoundInHand) (d : Worker) → IsRun s g p h → entry_count p.logs.items < 2 ^ 32
few-entries s g p h d run =
    let most = sum-below p.logs.items (λ k lt. elim (cases_lt k s.workers) [
      | inl less ↦ (run.turned k d less).2.short
      | inr ge ↦ (let same : s.workers ≡ k = omega (arith, run.holds.logs) in subst (λ (j : ℕ). length (log_at p.logs.items j) < 2 ^ 20) same run.injected.2.short)
    ]) in
    let workers = few_workers s run.sound in
    omega (arith, run.holds.logs)

takes_more : (r t : ℕ) → r * t + t ≡ (r + 1) * t
takes_more r t = omega arith

-- each worker's turn may be ended once the round was run
pub may-end : (s : Script) (g : Opened) (p : Plant) (h : RoundInHand) → IsRun s g p h → (k : ℕ) (d : Worker) → k < length p.workers.items → MayEnd s (get_or p.workers.items k d)
may-end s g p h run k d lt = let t = (run.turned k d (omega (arith, run.holds.count))).2 in record { fits = t.fits; over = t.over }

-- what holds of the plant whatever its tick
pub holds-over : (s : Script) (g : Opened) (p q : Plant) (h : RoundInHand) (d : Worker) → IsRun s g p h → IsLeft s p q → Finishes h.board h.passes q.words → Holds s (standing_of q) q
holds-over s g p q h d run left f =
    let state = state-over s g p q h d run left f in
    record {
      stands = subst (λ (m : State). StandBetween q.words q.homes.items q.holders.items q.nexts m) (sym state) (stands-over s g p q h d run left f);
      homes = left.homes ∙ run.holds.homes;
      nexts = left.nexts ∙ run.holds.nexts;
      count = left.count ∙ run.holds.count;
      logs = ap (λ (ls : List Logged). length ls) left.logs ∙ run.holds.logs;
      holders = left.holders.count ∙ run.holds.holders;
      queue = left.queue ∙ run.holds.queue;
    }

pub stopped : (s : Script) (g : Opened) (p q : Plant) (h : RoundInHand) (d : Worker) → IsRun s g p h → IsLeft s p q → Finishes h.board h.passes q.words → IsStopped s q
stopped s g p q h d run left f = record {
  sound = run.sound;
  holds = holds-over s g p q h d run left f;
  fits = λ k e lt. (turn-left s g p q h e k run left lt).fits;
}

pub ended : (s : Script) (g : Opened) (p q : Plant) (h : RoundInHand) (d : Worker) → IsRun s g p h → IsLeft s p q → Finishes h.board h.passes q.words → q.tick ≡ next_tick s g.round g.tick (standing_of q) → HasEnded s g q
ended s g p q h d run left f tick =
    let merge = merge-logged s g p h d q.words run f in
    let same_logs : (es : List Entry) → IsMerge g.old.state (log_at q.logs.items) es → IsMerge g.old.state (log_at p.logs.items) es = λ es m. subst (λ (ls : List Logged). IsMerge g.old.state (log_at ls) es) left.logs m in
    let round = round-over s g p q h d f.history run left f merge in
    let limit = takes_more g.round (round_takes s) in
    let firm = firm-round s g.round g.tick (g.round * round_takes s) g.old (record { tick = g.tick; entries = f.history }) (standing_of q) run.sound run.firm round in
    record {
      ready = record {
        sound = run.sound;
        holds = holds-over s g p q h d run left f;
        firm = subst (λ (T : ℕ). Firm s T ((g.round + 1) * round_takes s) (standing_of q)) (sym tick) (subst (λ (n : ℕ). Firm s (next_tick s g.round g.tick (standing_of q)) n (standing_of q)) limit firm);
        idle = λ k d among. idle-over s g p q h d k f.history run left among merge round;
        ended = left.ended ∙ ap (λ n. n + 1) run.ended;
        ran = left.ran;
      };
      tick = tick;
      few = subst (λ (ls : List Logged). entry_count ls < 2 ^ 32) (sym left.logs) (few-entries s g p h d run);
      merge = (f.history, subst (λ (ls : List Logged). IsMerge g.old.state (log_at ls) f.history) (sym left.logs) merge);
      round = λ es m. round-over s g p q h d es run left f (same_logs es m);
    }

-- ---- from what the calls answer

pub first-worker : (ws : List Worker) → 0 < length ws → Worker
first-worker [] h = absurd (omega arith)
first-worker (w ∷ ws) h = w

pub a-worker : (s : Script) (g : Opened) (p : Plant) (h : RoundInHand) → IsRun s g p h → Worker
a-worker s g p h run = let workers = few_workers s run.sound in first-worker p.workers.items (omega (arith, run.holds.count))

pub holds-all : (s : Script) (p q : Plant) (hs homes new : List ℕ) (logs : List Logged) (w : ℕ) → hs ≡ p.holders.items → homes ≡ p.homes.items → logs ≡ p.logs.items → w ≡ s.workers → q.holders.items ≡ new → ((k i : ℕ) (o : Own) (d : Logged) → k < w → i < length hs → get_or homes i 0 ≡ k → get_or hs i 0 ≡ holder_by k o → get_or new i 0 ≡ holder_by k (own_of i o (get_or logs k d).entries)) → ((i : ℕ) → w ≤ get_or homes i 0 → get_or new i 0 ≡ get_or hs i 0) → length new ≡ length hs → HoldsAll s p q
holds-all s p q hs homes new logs w a b c e f own others count = record {
  own = λ k i o d lt less home before.
      let size : length hs ≡ length p.holders.items = ap (λ (xs : List ℕ). length xs) a in
      ap (λ (xs : List ℕ). get_or xs i 0) f ∙ own k i o d (omega arith) (omega arith) (ap (λ (xs : List ℕ). get_or xs i 0) b ∙ home) (ap (λ (xs : List ℕ). get_or xs i 0) a ∙ before) ∙ ap (λ (ls : List Logged). holder_by k (own_of i o (get_or ls k d).entries)) c;
  others = λ i le.
      let at : get_or homes i 0 ≡ get_or p.homes.items i 0 = ap (λ (xs : List ℕ). get_or xs i 0) b in
      ap (λ (xs : List ℕ). get_or xs i 0) f ∙ others i (omega arith) ∙ ap (λ (xs : List ℕ). get_or xs i 0) a;
  count = ap (λ (xs : List ℕ). length xs) f ∙ count ∙ ap (λ (xs : List ℕ). length xs) a;
}

few_rounds : (s : Script) → IsTrue (is_sound s) → s.rounds ≤ 100000
few_rounds s h = (within-parts 1 100000 s.rounds (sound_parts s h).rounds).1

pub few-ended : (s : Script) (g : Opened) (p : Plant) (h : RoundInHand) → IsRun s g p h → p.ended + 1 < 2 ^ 32
few-ended s g p h run = let rounds = few_rounds s run.sound in omega (arith, run.ended, run.more)
