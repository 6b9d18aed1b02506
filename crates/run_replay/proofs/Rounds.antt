-- A round from its begin to its end, as a watcher sees it.
use Rattle.std.proofs.Common.{◌≡◌, ◌≢◌, ℕ, suc, ◌+◌, ◌-◌, ◌*◌, ◌^◌, ◌<◌, ◌≤◌, inl, inr, IsTrue, List, [], ◌∷◌, length, map, get_or, None, refl, sym, ap, ◌∙◌, arith, subst}
use Rattle.std.proofs.lemmas.List.{get_or-map}
use Rattle.std.proofs.Math.Nat.{mul-le-mul_left, mul-le-mul_right}
use Rattle.std.specs.List.{range_with_len}
use Rattle.step_tables.specs.declared.tables.Script.{Script}
use Rattle.step_tables.specs.Sound.{is_sound}
use Rattle.task_machine.specs.declared.calls.Entry.{Entry}
use Rattle.task_machine.specs.Step.{State}
use Rattle.queue_model.specs.Clock.{Window, behind, ahead}
use Rattle.run_model.specs.Book.{Book}
use Rattle.run_model.specs.Lawful.{RoundOf}
use Rattle.run_model.specs.Standing.{Standing, book_at, blank_book, turn_ended, next_tick}
use Rattle.run_model.specs.Tables.{groups}
use Rattle.turn_steps.specs.Left.{Stage, asked, begun, at_events}
use Rattle.turn_steps.specs.Has.{drawn_by}
use Rattle.turn_steps.proofs.Fit.{IsFit-sound, sound_parts, within-parts}
use Rattle.turn_steps.proofs.Stages.{has-gets}
use Rattle.standing.specs.Going.{IsDone}
use Rattle.standing.specs.Between.{entered, round_takes, books_of}
use Rattle.standing.specs.Firm.{Firm}
use Rattle.standing.proofs.ClockKept.{clock-round, DelaysAreIn-sound}
use Rattle.standing.proofs.Firm.{firm-round}
use Rattle.standing.proofs.Rounds.{worker_stage, injector_stage, round-made}
use Rattle.fronts.specs.Lines.{IsWhole}
use Rattle.thread_loop.specs.Workers.{number_of, stage_of}
use Rattle.thread_loop.specs.Idle.{book_now}
use Rattle.thread_loop.specs.Plants.{MayEnd, EndsTurn}
use Rattle.thread_loop.proofs.Windows.{window_now}
use Rattle.run_replay.specs.Watching.{CanBegin, Begun}
use Rattle.thread_loop.specs.declared.worker.Worker.{Worker}
use Rattle.run_replay.specs.Floors.{after_all, Making, Turning}
use Rattle.thread_loop.specs.Idle.{Opened}
use Rattle.run_replay.specs.Injections.{AtEvents, actions_left, owing, stage_in}
use Rattle.run_replay.specs.SharedBoxes.{Counts}
use Rattle.run_replay.specs.Watching.{standing_of, left_after, IsReady, IsWithin, IsOver, opened}
use Rattle.run_replay.specs.declared.floor.Floor.{Floor}
use Rattle.run_replay.specs.declared.watcher.Watcher.{Watcher}
use Rattle.run_replay.proofs.Injections.{nothing-asked, events-next}
use Rattle.run_replay.proofs.Making.{tasks-making}
use Rattle.run_replay.proofs.SharedBoxes.{counts-between}

-- ---- the begin

few_takes : (a b c : ℕ) → a ≤ 100000 → b ≤ 17 → c ≤ 2003 → a * (b * c) ≤ 100000 * (17 * 2003)
few_takes a b c h g f =
    let inner : b * c ≤ 17 * c = mul-le-mul_right c g in
    let most : b * c ≤ 17 * 2003 = omega arith in
    let outer : a * (b * c) ≤ a * (17 * 2003) = mul-le-mul_left a most in
    omega arith

-- no task is taken too often in a round of the script
few-sound : (s : Script) (r : ℕ) → IsTrue (is_sound s) → r < s.rounds → r * round_takes s + round_takes s < 2 ^ 48 - 1
few-sound s r h lt =
    let parts = sound_parts s h in
    let workers = within-parts 1 16 s.workers parts.workers in
    let depth = within-parts 1 1000 s.depth parts.depth in
    let rounds = within-parts 1 100000 s.rounds parts.rounds in
    let most = few_takes (r + 1) (s.workers + 1) (2 * s.depth + 3) (omega (arith, rounds.1)) (omega (arith, workers.1)) (omega (arith, depth.1)) in
    let same : (r + 1) * round_takes s ≡ r * round_takes s + round_takes s = one_more r (round_takes s) in
    omega arith
  where
    one_more : (r t : ℕ) → (r + 1) * t ≡ r * t + t
    one_more r t = omega arith

book-standing : (w : Watcher) (k : ℕ) (d : Worker) → k < length w.workers.items → book_at (standing_of w) k ≡ book_now (get_or w.workers.items k d)
book-standing w k d lt = get_or-map book_now w.workers.items k d (blank_book 0) lt

pub can-begin : (s : Script) (r T : ℕ) (w : Watcher) → IsReady s r T w → (k : ℕ) (d : Worker) → k < length w.workers.items → CanBegin s T (get_or w.workers.items k d)
can-begin s r T w ready k d lt =
    let among : k < s.workers = omega (arith, ready.count) in
    let idle = ready.idle k d among in
    let more = ready.round in
    let rounds = within-parts 1 100000 s.rounds (sound_parts s ready.sound).rounds in
    record {
      fits = idle.fits;
      over = idle.over;
      few = omega (arith, idle.turns, rounds.1);
      before = idle.window;
      after = subst (λ (b : Book). Window behind T b.wait) (book-standing w k d lt) (ready.firm.clock k among);
    }

-- the turns and the shared box were begun
pub within-begun : (s : Script) (r T : ℕ) (w new : Watcher) → IsReady s r T w → new.floor ≡ w.floor → new.injection ≡ w.injection → length new.workers.items ≡ length w.workers.items → ((k : ℕ) (d : Worker) → k < length w.workers.items → Begun s T (get_or w.workers.items k d) (get_or new.workers.items k d)) → Counts s r w.floor.machine w.floor.machine [] new.shared → IsWithin s (opened r T (standing_of w)) [] new
within-begun s r T w new ready floor injection count begun_all counts =
    let same = ready.count in
    let g = opened r T (standing_of w) in
    record {
      making = subst (λ (f : Floor). Making s g [] f) (sym floor) (record {
        sound = ready.sound;
        round = ready.round;
        few = few-sound s r ready.sound ready.round;
        firm = ready.firm;
        going = tt;
        state = refl;
        rows = ready.rows;
      });
      count = count ∙ ready.count;
      turning = λ k d less.
          let b = begun_all k d (omega arith) in
          let idle = ready.idle k d less in
          let number : number_of (get_or new.workers.items k d) ≡ k = b.number ∙ idle.number in
          subst (λ (f : Floor). Turning s g [] f.machine (get_or new.workers.items k d)) (sym floor) (record {
            fits = b.fits;
            among = omega arith;
            tick = b.tick;
            turns = b.turns ∙ ap (λ n. n + 1) idle.turns;
            stage = b.stage ∙ ap (begun s T) (sym (book-standing w k d (omega arith))) ∙ sym (worker_stage s r T (standing_of w) k less) ∙ ap (entered s r T (standing_of w)).at (sym number);
            book = b.book;
            takes = λ i mine live. elim mine [
              | inl home ↦ b.takes i ∙ idle.takes i (home ∙ number) live
              | inr is_drawn ↦
                  (let none : drawn_by i (stage_of s (get_or new.workers.items k d)).left ≡ 0 = ap (λ (x : Stage). drawn_by i x.left) b.stage ∙ (has-gets s T i (range_with_len 0 (groups s)) (book_now (get_or w.workers.items k d))).draws in
                  absurd (omega arith))
            ];
          });
      numbers = λ k d less. (begun_all k d (omega arith)).number ∙ (ready.idle k d less).number;
      injection = subst (λ i. AtEvents s r i) (sym injection) ready.injection;
      injects = ap (stage_in s r) injection ∙ ap (λ o. owing o (actions_left s r w.injection)) ready.held ∙ sym (injector_stage s r T (standing_of w) s.workers refl ∙ ap (λ xs. at_events xs (blank_book 0)) ready.now);
      shared = subst (λ (f : Floor). Counts s r w.floor.machine f.machine [] new.shared) (sym floor) counts;
    }

-- ---- the end

books_now : (s : Script) (T : ℕ) (at : ℕ → Stage) (n : ℕ) (ws : List Worker) → ((k : ℕ) (d : Worker) → k < length ws → book_now (get_or ws k d) ≡ turn_ended s T (at (n + k)).book) → books_of s T at n (length ws) ≡ map book_now ws
books_now s T at n [] h = refl
books_now s T at n (w ∷ ws) h =
    let zero_more : n ≡ n + 0 = omega arith in
    let here : turn_ended s T (at n).book ≡ book_now w = ap (λ k. turn_ended s T (at k).book) zero_more ∙ sym (h 0 w (omega arith)) in
    let later : books_of s T at (n + 1) (length ws) ≡ map book_now ws = books_now s T at (n + 1) ws (λ k d lt. let next : n + suc k ≡ n + 1 + k = omega arith in h (suc k) d (omega arith) ∙ ap (λ j. turn_ended s T (at j).book) next) in
    ap (λ b. b ∷ books_of s T at (n + 1) (length ws)) here ∙ ap (λ bs. book_now w ∷ bs) later

same_standing : (a b : State) (bs cs : List Book) → a ≡ b → bs ≡ cs → (let x : Standing = record { state = a; books = bs } in x) ≡ (let x : Standing = record { state = b; books = cs } in x)
same_standing a b bs cs p q = ap (λ (x : State). let st : Standing = record { state = x; books = bs } in st) p ∙ ap (λ (xs : List Book). let st : Standing = record { state = b; books = xs } in st) q

-- where a worker stands
pub worker-at : (s : Script) (g : Opened) (es : List Entry) (w : Watcher) (k : ℕ) (d : Worker) → IsWithin s g es w → k < s.workers → stage_of s (get_or w.workers.items k d) ≡ (after_all s g es).at k
worker-at s g es w k d h less = (h.turning k d less).stage ∙ ap (after_all s g es).at (h.numbers k d less)

worker_done : (s : Script) (g : Opened) (es : List Entry) (w : Watcher) (k : ℕ) (d : Worker) → IsWithin s g es w → IsDone s (after_all s g es) → k < s.workers → asked s (stage_of s (get_or w.workers.items k d)) ≡ None
worker_done s g es w k d h done less = ap (asked s) (worker-at s g es w k d h less) ∙ done k (omega arith)

-- the turns of a whole round may be ended
pub may-end-all : (s : Script) (g : Opened) (es : List Entry) (w : Watcher) → IsWithin s g es w → IsDone s (after_all s g es) → (k : ℕ) (d : Worker) → k < length w.workers.items → MayEnd s (get_or w.workers.items k d)
may-end-all s g es w h done k d lt =
    let less : k < s.workers = omega (arith, h.count) in
    record { fits = (h.turning k d less).fits; over = worker_done s g es w k d h done less }

-- the turns were ended
pub record AllEnd (s : Script) (w n : Watcher) : Type 0 where
  pub count : length n.workers.items ≡ length w.workers.items
  pub ended : (k : ℕ) (d : Worker) → k < length w.workers.items → EndsTurn s (get_or w.workers.items k d) (get_or n.workers.items k d)

-- a watcher with the workers of another one
abbrev pub with_workers : Watcher → Watcher → Watcher
with_workers w n = record w { workers = n.workers }

book_ended : (s : Script) (g : Opened) (es : List Entry) (w n : Watcher) (k : ℕ) (d : Worker) → IsWithin s g es w → IsDone s (after_all s g es) → AllEnd s w n → k < s.workers → book_now (get_or n.workers.items k d) ≡ turn_ended s g.tick ((after_all s g es).at k).book
book_ended s g es w n k d h done all less =
    let t = h.turning k d less in
    let before : book_now (get_or w.workers.items k d) ≡ ((after_all s g es).at k).book = t.book (worker_done s g es w k d h done less) ∙ ap (λ (x : Stage). x.book) (worker-at s g es w k d h less) in
    (all.ended k d (omega (arith, h.count))).book ∙ ap (λ (T : ℕ). turn_ended s T (book_now (get_or w.workers.items k d))) t.tick ∙ ap (turn_ended s g.tick) before

-- what stands then is what the entries leave
pub standing-left : (s : Script) (g : Opened) (es : List Entry) (w n : Watcher) → IsWithin s g es w → IsDone s (after_all s g es) → AllEnd s w n → standing_of (with_workers w n) ≡ left_after s g es
standing-left s g es w n h done all =
    let c = after_all s g es in
    let count : length n.workers.items ≡ s.workers = all.count ∙ h.count in
    let books : books_of s g.tick c.at 0 (length n.workers.items) ≡ map book_now n.workers.items = books_now s g.tick c.at 0 n.workers.items (λ k d lt.
    let none : k ≡ 0 + k = omega arith in
    book_ended s g es w n k d h done all (omega arith) ∙ ap (λ j. turn_ended s g.tick (c.at j).book) none) in
    sym (same_standing c.state w.floor.machine (books_of s g.tick c.at 0 s.workers) (map book_now n.workers.items) (sym h.making.state) (ap (books_of s g.tick c.at 0) (sym count) ∙ books))

round_left : (s : Script) (g : Opened) (es : List Entry) (w n : Watcher) → IsWithin s g es w → IsWhole s g.round g.tick g.old es → standing_of n ≡ left_after s g es → RoundOf s g.round g.tick g.old (record { tick = g.tick; entries = es }) (standing_of n)
round_left s g es w n h whole left = subst (λ (st : Standing). RoundOf s g.round g.tick g.old (record { tick = g.tick; entries = es }) st) (sym left) (round-made s g.round g.tick g.old es h.making.firm.places.books h.making.going whole.0 whole.1)

-- nothing is owed, and no action is left
pub injection-done : (s : Script) (g : Opened) (es : List Entry) (w : Watcher) → IsWithin s g es w → IsDone s (after_all s g es) → (w.injection.held ≡ None) × (actions_left s g.round w.injection ≡ [])
injection-done s g es w h done =
    nothing-asked s w.injection.held (actions_left s g.round w.injection) (ap (asked s) h.injects ∙ done s.workers (omega arith))

-- the round is closed
pub is-over : (s : Script) (g : Opened) (es : List Entry) (w n : Watcher) → IsWithin s g es w → IsWhole s g.round g.tick g.old es → AllEnd s w n → IsOver s g.round (with_workers w n)
is-over s g es w n h whole all =
    let m = h.making in
    let new = with_workers w n in
    let none = injection-done s g es w h whole.0 in
    let count : length n.workers.items ≡ s.workers = all.count ∙ h.count in
    let made = round_left s g es w new h whole (standing-left s g es w n h whole.0 all) in
    record {
      sound = m.sound;
      round = m.round;
      tasks = tasks-making s g es w.floor m;
      count = count;
      idle = λ k d less.
          let t = h.turning k d less in
          let ends = all.ended k d (omega (arith, h.count)) in
          let v = get_or n.workers.items k d in
          let clock = clock-round s g.round g.tick (g.round * round_takes s) g.old (record { tick = g.tick; entries = es }) (standing_of new) (IsFit-sound s m.sound) m.firm.tick (DelaysAreIn-sound s m.sound) m.firm.places m.firm.clock made k less in
          let book : book_at (standing_of new) k ≡ book_now v = book-standing new k d (omega arith) in
          record {
            fits = ends.fits;
            number = ends.number ∙ h.numbers k d less;
            turns = ends.turns ∙ t.turns;
            over = ends.over;
            window = subst (λ (T : ℕ). Window behind T (book_now v).wait) (sym (ends.tick ∙ t.tick)) (window_now g.tick (book_now v) m.firm.tick (subst (λ (b : Book). Window ahead g.tick b.wait) book clock));
            takes = λ i home live. ends.takes i ∙ t.takes i (inl (home ∙ sym (h.numbers k d less))) live;
          };
      rows = m.rows;
      injection = events-next s g.round w.injection h.injection none.1;
      now = h.injection.later (g.round + 1) (omega arith);
      held = none.0;
      shared = counts-between s g.round g.old.state w.floor.machine es w.shared h.shared;
    }

-- and the watcher is ready for the next one
pub ready-next : (s : Script) (g : Opened) (es : List Entry) (w n : Watcher) (number tick : ℕ) → IsWithin s g es w → IsWhole s g.round g.tick g.old es → IsOver s g.round n → standing_of n ≡ left_after s g es → g.round + 1 ≢ s.rounds → number ≡ g.round + 1 → tick ≡ next_tick s g.round g.tick (standing_of n) → IsReady s number tick n
ready-next s g es w n number tick h whole o left more is_next at_tick =
    let m = h.making in
    let firm = firm-round s g.round g.tick (g.round * round_takes s) g.old (record { tick = g.tick; entries = es }) (standing_of n) m.sound m.firm (round_left s g es w n h whole left) in
    let takes = more_takes g.round (round_takes s) in
    let lt = m.round in
    subst (λ (r : ℕ). IsReady s r tick n) (sym is_next) (record {
      sound = m.sound;
      round = omega (arith, more);
      firm = subst (λ (c : ℕ). Firm s tick c (standing_of n)) takes (subst (λ (T : ℕ). Firm s T (g.round * round_takes s + round_takes s) (standing_of n)) (sym at_tick) firm);
      count = o.count;
      idle = o.idle;
      rows = o.rows;
      injection = o.injection;
      now = o.now;
      held = o.held;
      shared = o.shared;
    })
  where
    more_takes : (r t : ℕ) → r * t + t ≡ (r + 1) * t
    more_takes r t = omega arith
