-- What was run on threads is a round that can be ended.
use Rattle.std.proofs.Common.{◌≡◌, ℕ, zero, suc, ◌+◌, ◌*◌, ◌^◌, ◌<◌, ◌≤◌, true, leb, IsTrue, List, [], ◌∷◌, ◌++◌, filter, length, get_or, Option, None, Some, refl, sym, ap, subst, ◌∙◌, arith, ◌==◌}
use Rattle.std.specs.Int.{div_ceil}
use Rattle.std.proofs.lemmas.Bool.{leb-true}
use Rattle.std.proofs.lemmas.List.Sums.{length-filter, count_by-le-length}
use Rattle.std.proofs.lemmas.List.{get_or-map, length-map, length-append, get_or_push, get_or_append_left}
use Rattle.step_tables.specs.declared.tables.Action.{Action}
use Rattle.step_tables.specs.declared.tables.Script.{Script}
use Rattle.std.specs.List.{list_all}
use Rattle.step_tables.specs.Sound.{within, is_sound_task, is_sound}
use Rattle.task_machine.specs.declared.calls.Entry.{Entry}
use Rattle.task_machine.specs.Logged.{Logged}
use Rattle.run_model.specs.Book.{Book}
use Rattle.run_model.specs.Lawful.{Injects}
use Rattle.run_model.specs.Standing.{book_at, blank_book}
use Rattle.run_model.specs.Tables.{groups, actions_in}
use Rattle.run_model.specs.Turn.{Turn}
use Rattle.run_model.proofs.Readings.{both}
use Rattle.turn_steps.specs.Left.{asked, at_events, injector}
use Rattle.turn_steps.specs.Counts.{calls_left}
use Rattle.turn_steps.specs.Has.{caller}
use Rattle.turn_steps.proofs.Fit.{IsFit-sound, sound_parts, within-parts}
use Rattle.turn_steps.proofs.Hears.{rest-short, turns_short}
use Rattle.turn_steps.proofs.Turns.{rest-injects}
use Rattle.wake_board.specs.Rows.{WordRow}
use Rattle.wake_board.specs.Between.{StandBetween}
use Rattle.wake_board.specs.Seen.{Held, Laid}
use Rattle.wake_board.specs.Ends.{fresh}
use Rattle.history_weave.specs.Places.{log_at}
use Rattle.thread_loop.specs.Boards.{log_of, IsSame, HasListed, HasServed, IsOwn}
use Rattle.thread_loop.specs.Idle.{book_now, IsIdle}
use Rattle.thread_loop.specs.Plants.{CanRun, HasTurned, AllTurned, IsRun, IsTurned, IsInjected, next_round, standing_of}
use Rattle.thread_loop.specs.Rounds.{HasInjected, HasMade, AreSwapped}
use Rattle.thread_loop.specs.Workers.{number_of, tick_of, book_at_tick, Fits}
use Rattle.thread_loop.specs.declared.plant.Plant.{Plant}
use Rattle.thread_loop.specs.declared.plant.RoundInHand.{RoundInHand}
use Rattle.thread_loop.specs.declared.worker.Worker.{Worker}
use Rattle.thread_loop.proofs.Opened.{few_tasks}
use Rattle.thread_loop.proofs.Over.{book-over}
use Rattle.thread_loop.proofs.Running.{fresh_list, at-fresh}
use Rattle.thread_loop.proofs.TimersOf.{few_timers}

-- ---- each turn

pub record Each (s : Script) (T : ℕ) (ws : List Worker) (ps : List Held) (vs : List Worker) (qs : List Held) : Type 0 where
  pub workers : length vs ≡ length ws
  pub passes : length qs ≡ length ws
  pub turned : (i : ℕ) (d : Worker) (e : Held) → i < length ws → HasTurned s T (get_or ws i d) (get_or ps i e) (get_or vs i d) (get_or qs i e)

pub each-turned : (s : Script) (T : ℕ) (ws : List Worker) (ps : List Held) (vs : List Worker) (qs : List Held) → AllTurned s T ws ps vs qs → Each s T ws ps vs qs
each-turned s T [] [] [] [] h = record { workers = refl; passes = refl; turned = λ i d e lt. absurd (omega arith) }
each-turned s T (w ∷ ws) (p ∷ ps) (v ∷ vs) (q ∷ qs) h =
    let later = each-turned s T ws ps vs qs h.1 in
    record {
      workers = ap suc later.workers;
      passes = ap suc later.passes;
      turned = λ i d e lt. nth later.turned i d e lt;
    }
  where
    nth : ((i : ℕ) (d : Worker) (e : Held) → i < length ws → HasTurned s T (get_or ws i d) (get_or ps i e) (get_or vs i d) (get_or qs i e)) → (i : ℕ) (d : Worker) (e : Held) → i < suc (length ws) → HasTurned s T (get_or (w ∷ ws) i d) (get_or (p ∷ ps) i e) (get_or (v ∷ vs) i d) (get_or (q ∷ qs) i e)
    nth more zero d e lt = h.0
    nth more (suc i) d e lt = more i d e (omega arith)
each-turned s T (w ∷ ws) [] vs qs h = absurd h
each-turned s T [] (p ∷ ps) vs qs h = absurd h
each-turned s T [] [] (v ∷ vs) qs h = absurd h
each-turned s T [] [] [] (q ∷ qs) h = absurd h
each-turned s T (w ∷ ws) (p ∷ ps) [] qs h = absurd h
each-turned s T (w ∷ ws) (p ∷ ps) (v ∷ vs) [] h = absurd h

-- ---- a turn is short

few-book : (s : Script) (T : ℕ) (w : Worker) → Fits s w → length (book_at_tick T w).wait.items ≤ length s.tasks
unfolding Fits book_at_tick
few-book s T w fits = few_timers s w.turn.queues T fits.turn.queues

turn-short : (s : Script) (k T : ℕ) (w : Worker) (es : List Entry) (d : Book) → IsTrue (is_sound s) → Fits s w → Turn s (caller k) T (book_now w) es d → length es < 2 ^ 20
turn-short s k T w es d sound fits turn =
    let parts = sound_parts s sound in
    let most = turns_short s (caller k) T (book_now w) es d sound turn in
    let timers = few-book s (tick_of w) w fits in
    let depth = within-parts 1 1000 s.depth parts.depth in
    let tasks = few_tasks s sound in
    let some_groups : groups s ≤ length s.tasks + 1 = groups_most (length s.tasks) in
    omega (arith, depth.1)
  where
    groups_most : (n : ℕ) → div_ceil n 64 ≤ n + 1
    groups_most n = omega arith

events-short : (depth : ℕ) (actions : List Action) (b : Book) → calls_left depth (at_events actions b).left (at_events actions b).book ≤ 2 * length actions
events-short depth [] b = omega arith
events-short depth (a ∷ more) b = omega arith

few_events : (s : Script) → IsTrue (is_sound s) → length s.events ≤ 65536
unfolding is_sound
few_events s h =
    let v = both (within 1 2 s.version) _ h in
    let a = both (within 1 16 s.workers) _ v.1 in
    let b = both (within 1 1000 s.depth) _ a.1 in
    let c = both (leb s.start 4294967295) _ b.1 in
    let d = both (within 1 1048576 s.step) _ c.1 in
    let e = both (within 1 100000 s.rounds) _ d.1 in
    let f = both (leb (length s.tasks) 4096) _ e.1 in
    let g = both (list_all (is_sound_task s.workers (length s.tasks)) s.tasks) _ f.1 in
    let k = both _ _ g.1 in
    leb-true (length s.events) 65536 (both (leb (length s.events) 65536) _ k.1).0

injects-short : (s : Script) (r : ℕ) (es : List Entry) → IsTrue (is_sound s) → Injects s r es → length es < 2 ^ 20
injects-short s r es sound h =
    let rest = rest-injects s r 0 (blank_book 0) es h in
    let most = rest-short s (caller s.workers) 0 (injector s r (blank_book 0)) es (blank_book 0) (IsFit-sound s sound) rest in
    let events = events-short s.depth (actions_in s r) (blank_book 0) in
    let few = few_actions s r sound in
    omega arith
  where
    few_actions : (s : Script) (r : ℕ) → IsTrue (is_sound s) → length (actions_in s r) ≤ 65536
    few_actions s r sound =
        let size = length-map (filter (λ e. e.round == r) s.events) (λ e. e.action) in
        let kept = length-filter (λ e. e.round == r) s.events in
        let most = count_by-le-length (λ e. e.round == r) s.events in
        let events = few_events s sound in
        omega arith

-- ---- what the swap of the logs leaves

pub book-same : (v x : Worker) → IsSame v x → book_now x ≡ book_now v
book-same v x same = ap (λ T. book_at_tick T x) same.tick ∙ same.book (tick_of v)

pub is-turned : (s : Script) (r : ℕ) (p : Plant) (h : RoundInHand) (b : Laid) (k : ℕ) (d w v x : Worker) (es : List Entry) (q : Held) → CanRun s r p h → b ≡ h.board → k < s.workers → w ≡ get_or p.workers.items k d → HasTurned s p.tick w (fresh h.board k) v q → IsSame v x → es ≡ (log_of v).entries → IsTurned s (next_round r p) b k x es q
is-turned s r p h b k d w v x es q can board lt at t same log =
    let idle = subst (λ (y : Worker). IsIdle s r k (standing_of p).state y) (sym at) (can.ready.idle k d lt) in
    let book : book_at (standing_of p) k ≡ book_now w = book-over p k d (blank_book 0) (omega (arith, can.ready.holds.count)) ∙ ap book_now (sym at) in
    let now = book-same v x same in
    let turn : Turn s (caller k) p.tick (book_at (standing_of p) k) es (book_now x) =
    subst (λ (y : Book). Turn s (caller k) p.tick (book_at (standing_of p) k) es y) (sym now)
    (subst (λ (ys : List Entry). Turn s (caller k) p.tick (book_at (standing_of p) k) ys (book_now v)) (sym log)
    (subst (λ (y : Book). Turn s (caller k) p.tick y (log_of v).entries (book_now v)) (sym book)
    (subst (λ (j : ℕ). Turn s (caller j) p.tick (book_now w) (log_of v).entries (book_now v)) idle.number t.turn))) in
    record {
      fits = same.fits s t.fits;
      over = ap (asked s) (same.stage s) ∙ t.over;
      number = same.number ∙ t.number ∙ idle.number;
      tick = same.tick ∙ t.tick;
      turns = same.turns ∙ t.turns ∙ ap (λ n. n + 1) idle.turns;
      turn = turn;
      served = subst (λ (ys : List Entry). HasServed s ys q) (sym log) t.served;
      listed = subst (λ (y : Book). HasListed y q) (sym now) t.listed;
      takes = λ i exists home live. same.takes i ∙ t.takes i exists (home ∙ same.number) live;
      own = subst (λ (y : Book). IsOwn s k y) (sym now) (subst (λ (j : ℕ). IsOwn s j (book_now v)) (t.number ∙ idle.number) t.own);
      pass = record { board = t.grown.board ∙ ap (λ (y : Laid). y.board) (sym board); start = t.grown.start ∙ ap (λ (y : Laid). y.start) (sym board) };
      who = t.grown.who;
      entries = t.grown.entries ∙ sym log;
      outs = t.grown.outs;
      short = subst (λ (ys : List Entry). length ys < 2 ^ 20) (sym log) (turn-short s (number_of w) p.tick w (log_of v).entries (book_now v) can.ready.sound idle.fits t.turn);
    }

pub is-injected : (s : Script) (r : ℕ) (p : Plant) (h : RoundInHand) (b : Laid) (log : Logged) (es : List Entry) (q : Held) → CanRun s r p h → b ≡ h.board → HasInjected s r (fresh h.board s.workers) log q → es ≡ log.entries → IsInjected s (next_round r p) b es q
is-injected s r p h b log es q can board t same = record {
  injects = subst (λ (ys : List Entry). Injects s r ys) (sym same) t.injects;
  free = t.free;
  pass = record { board = ap (λ (x : Held). x.board) t.grown ∙ ap (λ (y : Laid). y.board) (sym board); start = ap (λ (x : Held). x.start) t.grown ∙ ap (λ (y : Laid). y.start) (sym board) };
  who = ap (λ (x : Held). x.who) t.grown;
  entries = ap (λ (x : Held). x.entries) t.grown ∙ sym same;
  outs = ap (λ (x : Held). x.outs) t.grown;
  short = subst (λ (ys : List Entry). length ys < 2 ^ 20) (sym same) (injects-short s r log.entries can.ready.sound t.injects);
}

-- a swap of equal lists
pub swapped-here : (ws ws2 : List Worker) (log : Logged) (before before2 : List Logged) (vs vs2 : List Worker) (other : Logged) (new new2 : List Logged) → AreSwapped ws log before vs other new → ws ≡ ws2 → before ≡ before2 → vs2 ≡ vs → new2 ≡ new → AreSwapped ws2 log before2 vs2 other new2
swapped-here ws ws2 log before before2 vs vs2 other new new2 h a b c d =
    subst (λ (xs : List Worker). AreSwapped xs log before2 vs2 other new2) a
    (subst (λ (xs : List Logged). AreSwapped ws log xs vs2 other new2) b
    (subst (λ (xs : List Worker). AreSwapped ws log before xs other new2) (sym c)
    (subst (λ (xs : List Logged). AreSwapped ws log before vs other xs) (sym d) h)))

-- ---- the whole round

-- the plant after the round was run
pub record IsRanBy (s : Script) (p q : Plant) : Type 0 where
  pub words : q.words ≡ p.words
  pub homes : q.homes.items ≡ p.homes.items
  pub holders : q.holders.items ≡ p.holders.items
  pub nexts : q.nexts ≡ p.nexts
  pub queue : length q.queue.ranks ≡ length p.queue.ranks
  pub tick : q.tick ≡ p.tick
  pub ended : q.ended ≡ p.ended
  pub ran : q.ran ≡ true

pub is-run : (s : Script) (r : ℕ) (p q : Plant) (h i : RoundInHand) (vs : List Worker) (log : Logged) → CanRun s r p h → i.board ≡ h.board → HasMade s p.tick r p.workers.items (fresh_list h.board 0 s.workers) (fresh h.board s.workers) vs log i.passes → AreSwapped vs log p.logs.items q.workers.items q.injector q.logs.items → IsRanBy s p q → IsRun s (next_round r p) q i
is-run s r p q h i vs log can board made swapped left =
    let ready = can.ready in
    let each = each-turned s p.tick p.workers.items (fresh_list h.board 0 s.workers) vs made.after made.turned in
    let count : length vs ≡ s.workers = each.workers ∙ ready.holds.count in
    let size : length made.after ≡ s.workers = each.passes ∙ ready.holds.count in
    let all : List Held = made.after ++ made.last ∷ [] in
    let all_size : length all ≡ suc s.workers = length-append made.after (made.last ∷ []) ∙ (let one : length made.after + 1 ≡ suc s.workers = omega arith in one) in
    let e : Held = fresh h.board 0 in
    let place : (k : ℕ) (x : Held) → k < suc s.workers → get_or all k e ≡ x → get_or i.passes k None ≡ Some x = λ k x lt at. ap (λ (xs : List (Option Held)). get_or xs k None) made.places_are ∙ get_or-map Some all k e None (omega arith) ∙ ap Some at in
    record {
      sound = ready.sound;
      more = can.more;
      firm = ready.firm;
      holds = record {
        stands = subst (λ (hs : List ℕ). StandBetween q.words q.homes.items hs q.nexts (standing_of p).state) (sym left.holders) (subst (λ (ns : List (List ℕ)). StandBetween q.words q.homes.items p.holders.items ns (standing_of p).state) (sym left.nexts) (subst (λ (hs : List ℕ). StandBetween q.words hs p.holders.items p.nexts (standing_of p).state) (sym left.homes) (subst (λ (ws : WordRow). StandBetween ws p.homes.items p.holders.items p.nexts (standing_of p).state) (sym left.words) ready.holds.stands)));
        homes = left.homes ∙ ready.holds.homes;
        nexts = left.nexts ∙ ready.holds.nexts;
        count = swapped.count ∙ count;
        logs = swapped.size ∙ ready.holds.logs;
        holders = ap (λ (hs : List ℕ). length hs) left.holders ∙ ready.holds.holders;
        queue = left.queue ∙ ready.holds.queue;
      };
      state = ap (λ (y : Laid). y.start.state) board ∙ can.opened.state;
      homes = ap (λ (y : Laid). y.start.homes) board ∙ can.opened.homes;
      nexts = ap (λ (y : Laid). y.start.nexts) board ∙ can.opened.nexts;
      count = ap (λ (xs : List (Option Held)). length xs) made.places_are ∙ length-map all Some ∙ all_size;
      turned = λ k d lt.
          let x = get_or made.after k e in
          let here : get_or all k e ≡ x = get_or_append_left made.after (made.last ∷ []) e k (omega arith) in
          let own : get_or (fresh_list h.board 0 s.workers) k e ≡ fresh h.board k = at-fresh h.board 0 s.workers k e lt ∙ (let none : 0 + k ≡ k = omega arith in ap (fresh h.board) none) in
          let turned = subst (λ (y : Held). HasTurned s p.tick (get_or p.workers.items k d) y (get_or vs k d) x) own (each.turned k d e (omega (arith, ready.holds.count))) in
          let logged : log_at q.logs.items k ≡ (log_of (get_or vs k d)).entries = ap (λ (l : Logged). l.entries) (swapped.logs k d (record { entries = []; room = 0 }) (omega arith)) in
          (x, place k x (omega arith) here, is-turned s r p h i.board k d (get_or p.workers.items k d) (get_or vs k d) (get_or q.workers.items k d) (log_at q.logs.items k) x can board lt refl turned (swapped.same k d (omega arith)) logged);
      injected =
          let last : get_or all s.workers e ≡ made.last = get_or_push made.after made.last e s.workers size in
          let logged : log_at q.logs.items s.workers ≡ log.entries = ap (λ (n : ℕ). log_at q.logs.items n) (sym count) ∙ ap (λ (l : Logged). l.entries) (swapped.last (record { entries = []; room = 0 })) in
          (made.last, place s.workers made.last (omega arith) last, is-injected s r p h i.board log (log_at q.logs.items s.workers) made.last can board made.injected logged);
      ended = left.ended ∙ ready.ended;
      tick = left.tick;
      ran = left.ran;
    }
