-- A round that was begun may be run, and what was run is a round.
use Rattle.std.proofs.Common.{◌≡◌, ◌≢◌, ℕ, zero, suc, ◌+◌, ◌*◌, ◌^◌, ◌<◌, ◌≤◌, ◌==◌, Bool, IsTrue, if◌then◌else◌, List, [], ◌∷◌, ◌++◌, map, length, get_or, None, Some, refl, sym, ap, subst, ◌∙◌, inl, inr, arith, eq-eqb, ne_eqb}
use Rattle.std.specs.List.{AllByRecursion}
use Rattle.std.proofs.Math.Nat.{mul-le-mul_right}
use Rattle.std.proofs.lemmas.Bool.{cases_eq, cases_lt}
use Rattle.std.proofs.lemmas.List.{get_or-map, length-map, length-append, ext_get_or, get_or_push, get_or_append_left}
use Rattle.step_tables.specs.declared.tables.Script.{Script}
use Rattle.step_tables.specs.Sound.{is_sound}
use Rattle.task_machine.specs.declared.task.Place.{Place}
use Rattle.task_machine.specs.declared.task.Place.TheVariants as places
use Rattle.task_machine.specs.Own.{Own, away, holding, drawing, running, own_at}
use Rattle.task_machine.specs.Task.{in_hands, in_run, in_draw, is_gone}
use Rattle.task_machine.specs.Step.{State, task_at, bit}
use Rattle.queue_model.specs.Clock.{Window, behind}
use Rattle.run_model.specs.Book.{Book}
use Rattle.run_model.specs.Standing.{Standing, book_at, blank_book}
use Rattle.run_model.specs.Tables.{home_of}
use Rattle.turn_steps.specs.Times.{listed}
use Rattle.turn_steps.specs.Has.{caller}
use Rattle.turn_steps.proofs.Fit.{sound_parts, within-parts}
use Rattle.standing.specs.Between.{round_takes}
use Rattle.wake_board.specs.Seen.{Held, Laid}
use Rattle.wake_board.specs.Ends.{fresh}
use Rattle.thread_loop.specs.Boards.{in_hand, IsBoardOf}
use Rattle.thread_loop.specs.Idle.{book_now}
use Rattle.thread_loop.specs.Plants.{IsReady, IsOpened, CanRun, CanTurn, AllCanTurn, standing_of}
use Rattle.thread_loop.specs.Rounds.{AreNumbered, CanMake}
use Rattle.thread_loop.specs.Workers.{number_of}
use Rattle.thread_loop.specs.declared.plant.Plant.{Plant}
use Rattle.thread_loop.specs.declared.plant.RoundInHand.{RoundInHand}
use Rattle.thread_loop.specs.declared.worker.Worker.{Worker}
use Rattle.thread_loop.proofs.Holding.{home-in}
use Rattle.thread_loop.proofs.Over.{book-over}

-- ---- what a caller has of a task at the opening

hand-at : (k : ℕ) (p : Place) → in_hand (own_at k p) ≡ bit (in_hands (caller k) p)
hand-at k places.Rest = refl
hand-at k (places.Hands j) = elim (cases_eq j.0 k) [
  | inl same ↦ ap (λ (b : Bool). in_hand (if b then holding else away)) (eq-eqb j.0 k same) ∙ sym (ap bit (eq-eqb k j.0 (sym same)))
  | inr ne ↦ ap (λ (b : Bool). in_hand (if b then holding else away)) (ne_eqb j.0 k ne) ∙ sym (ap bit (ne_eqb k j.0 (λ e. ne (sym e))))
]
hand-at k (places.Boxed b) = refl
hand-at k (places.Drawn j) = elim (cases_eq j.0 k) [
  | inl same ↦ ap (λ (b : Bool). in_hand (if b then drawing else away)) (eq-eqb j.0 k same)
  | inr ne ↦ ap (λ (b : Bool). in_hand (if b then drawing else away)) (ne_eqb j.0 k ne)
]
hand-at k (places.Runs j) = elim (cases_eq j.0 k) [
  | inl same ↦ ap (λ (b : Bool). in_hand (if b then running else away)) (eq-eqb j.0 k same)
  | inr ne ↦ ap (λ (b : Bool). in_hand (if b then running else away)) (ne_eqb j.0 k ne)
]
hand-at k places.Gone = refl

-- a caller that neither runs nor has drawn the task
at-rest : (k : ℕ) (p : Place) → bit (in_run (caller k) p) ≡ 0 → bit (in_draw (caller k) p) ≡ 0 → (own_at k p ≢ running) × (own_at k p ≢ drawing)
at-rest k places.Rest r d = (λ e. cc, λ e. cc)
at-rest k (places.Hands j) r d = elim (cases_eq j.0 k) [
  | inl same ↦ (let here : own_at k (places.Hands j) ≡ holding = ap (λ (b : Bool). if b then holding else away) (eq-eqb j.0 k same) in (λ e. (let bad : holding ≡ running = sym here ∙ e in cc), λ e. (let bad : holding ≡ drawing = sym here ∙ e in cc)))
  | inr ne ↦ (let here : own_at k (places.Hands j) ≡ away = ap (λ (b : Bool). if b then holding else away) (ne_eqb j.0 k ne) in (λ e. (let bad : away ≡ running = sym here ∙ e in cc), λ e. (let bad : away ≡ drawing = sym here ∙ e in cc)))
]
at-rest k (places.Boxed b) r d = (λ e. cc, λ e. cc)
at-rest k (places.Drawn j) r d = elim (cases_eq j.0 k) [
  | inl same ↦ (let one : bit (k == j.0) ≡ 1 = ap bit (eq-eqb k j.0 (sym same)) in absurd (omega arith))
  | inr ne ↦ (let here : own_at k (places.Drawn j) ≡ away = ap (λ (b : Bool). if b then drawing else away) (ne_eqb j.0 k ne) in (λ e. (let bad : away ≡ running = sym here ∙ e in cc), λ e. (let bad : away ≡ drawing = sym here ∙ e in cc)))
]
at-rest k (places.Runs j) r d = elim (cases_eq j.0 k) [
  | inl same ↦ (let one : bit (k == j.0) ≡ 1 = ap bit (eq-eqb k j.0 (sym same)) in absurd (omega arith))
  | inr ne ↦ (let here : own_at k (places.Runs j) ≡ away = ap (λ (b : Bool). if b then running else away) (ne_eqb j.0 k ne) in (λ e. (let bad : away ≡ running = sym here ∙ e in cc), λ e. (let bad : away ≡ drawing = sym here ∙ e in cc)))
]
at-rest k places.Gone r d = (λ e. cc, λ e. cc)

-- and has it not in its hands
only-away : (o : Own) → in_hand o ≡ 0 → o ≢ running → o ≢ drawing → o ≡ away
only-away away h r d = refl
only-away holding h r d = absurd (omega arith)
only-away drawing h r d = absurd (d refl)
only-away running h r d = absurd (r refl)

-- ---- the passes

-- n fresh passes of a board, from caller k on
abbrev pub fresh_list : Laid → ℕ → ℕ → List Held
fresh_list b k zero = []
fresh_list b k (suc n) = fresh b k ∷ fresh_list b (suc k) n

length-fresh : (b : Laid) (k n : ℕ) → length (fresh_list b k n) ≡ n
length-fresh b k zero = refl
length-fresh b k (suc n) = ap suc (length-fresh b (suc k) n)

pub at-fresh : (b : Laid) (k n i : ℕ) (d : Held) → i < n → get_or (fresh_list b k n) i d ≡ fresh b (k + i)
at-fresh b k zero i d lt = absurd (omega arith)
at-fresh b k (suc n) zero d lt = let same : k ≡ k + 0 = omega arith in ap (fresh b) same
at-fresh b k (suc n) (suc i) d lt = let same : suc k + i ≡ k + suc i = omega arith in at-fresh b (suc k) n i d (omega arith) ∙ ap (fresh b) same

numbered-fresh : (b : Laid) (k n : ℕ) (p : Held) → p.who ≡ k + n → AreNumbered k (fresh_list b k n ++ p ∷ [])
numbered-fresh b k zero p last = (last ∙ (let same : k + 0 ≡ k = omega arith in same), tt)
numbered-fresh b k (suc n) p last = (refl, numbered-fresh b (suc k) n p (last ∙ (let same : k + suc n ≡ suc k + n = omega arith in same)))

pub places-fresh : (s : Script) (st : Standing) (h : RoundInHand) → IsOpened s st h → h.passes ≡ map Some (fresh_list h.board 0 s.workers ++ fresh h.board s.workers ∷ [])
places-fresh s st h opened =
    let b = h.board in
    let all : List Held = fresh_list b 0 s.workers ++ fresh b s.workers ∷ [] in
    let size : length all ≡ suc s.workers = length-append (fresh_list b 0 s.workers) (fresh b s.workers ∷ []) ∙ (let n = length-fresh b 0 s.workers in let one : length (fresh_list b 0 s.workers) + 1 ≡ suc s.workers = omega arith in one) in
    ext_get_or None h.passes (map Some all) (opened.count ∙ sym (length-map all Some ∙ size)) (λ i lt.
    let le : i ≤ s.workers = omega (arith, opened.count) in
    opened.each i le ∙ sym (get_or-map Some all i (fresh b 0) None (omega arith) ∙ ap Some (at_all b s.workers i (fresh b 0) le)))
  where
    at_all : (b : Laid) (w i : ℕ) (d : Held) → i ≤ w → get_or (fresh_list b 0 w ++ fresh b w ∷ []) i d ≡ fresh b i
    at_all b w i d le = elim (cases_lt i w) [
      | inl lt ↦ get_or_append_left (fresh_list b 0 w) (fresh b w ∷ []) d i (omega (arith, length-fresh b 0 w)) ∙ at-fresh b 0 w i d lt ∙ (let same : 0 + i ≡ i = omega arith in ap (fresh b) same)
      | inr ge ↦ (let same : i ≡ w = omega arith in rw same (get_or_push (fresh_list b 0 w) (fresh b w) d w (length-fresh b 0 w)))
    ]

-- ---- the workers

all_can : (s : Script) (T : ℕ) (b : Laid) (k : ℕ) (ws : List Worker) → ((i : ℕ) (d : Worker) → i < length ws → CanTurn s T b (get_or ws i d) (fresh b (k + i))) → AllCanTurn s T b ws (fresh_list b k (length ws))
all_can s T b k [] h = tt
all_can s T b k (w ∷ ws) h =
    let here : k + 0 ≡ k = omega arith in (
      subst (λ (x : ℕ). CanTurn s T b w (fresh b x)) here (h 0 w (omega arith)),
      all_can s T b (suc k) ws (λ i d lt. let next : k + suc i ≡ suc k + i = omega arith in subst (λ (x : ℕ). CanTurn s T b (get_or ws i d) (fresh b x)) next (h (suc i) d (omega arith))),
    )

few_of : (r t : ℕ) → r < 100000 → t ≤ 17 * 2003 → r * t < 2 ^ 47
few_of r t a b =
    let outer : r * t ≤ 100000 * t = mul-le-mul_right t (omega arith) in
    omega arith

round_most : (s : Script) → IsTrue (is_sound s) → round_takes s ≤ 17 * 2003
round_most s h =
    let parts = sound_parts s h in
    let workers = within-parts 1 16 s.workers parts.workers in
    let depth = within-parts 1 1000 s.depth parts.depth in
    let a : (s.workers + 1) * (2 * s.depth + 3) ≤ 17 * (2 * s.depth + 3) = mul-le-mul_right (2 * s.depth + 3) (omega (arith, workers.1)) in
    omega (arith, depth.1)

pub few_takes : (s : Script) (r i : ℕ) (p : Plant) → IsReady s r p → r < s.rounds → (task_at (standing_of p).state i).takes < 2 ^ 47
few_takes s r i p ready more =
    let rounds = within-parts 1 100000 s.rounds (sound_parts s ready.sound).rounds in
    let most = few_of r (round_takes s) (omega (arith, rounds.1)) (round_most s ready.sound) in
    let takes = ready.firm.places.takes i in
    omega arith

pub can-turn : (s : Script) (r : ℕ) (p : Plant) (h : RoundInHand) (k : ℕ) (d : Worker) → CanRun s r p h → k < s.workers → CanTurn s p.tick h.board (get_or p.workers.items k d) (fresh h.board k)
can-turn s r p h k d can lt =
    let ready = can.ready in
    let st = standing_of p in
    let w = get_or p.workers.items k d in
    let idle = ready.idle k d lt in
    let book : book_at st k ≡ book_now w = book-over p k d (blank_book 0) (omega (arith, ready.holds.count)) in
    let place : (i : ℕ) → (task_at h.board.start.state i).place ≡ (task_at st.state i).place = λ i. ap (λ (m : State). (task_at m i).place) can.opened.state in
    let rounds = within-parts 1 100000 s.rounds (sound_parts s ready.sound).rounds in
    let rests = λ (i : ℕ). at-rest k (task_at h.board.start.state i).place (ap (λ q. bit (in_run (caller k) q)) (place i) ∙ ready.firm.places.runs k i (omega arith)) (ap (λ q. bit (in_draw (caller k) q)) (place i) ∙ ready.firm.places.draws k i (omega arith)) in
    record {
      fits = idle.fits;
      over = idle.over;
      few = omega (arith, idle.turns, can.more, rounds.1);
      before = idle.window;
      after = subst (λ (b : Book). Window behind p.tick b.wait) book (ready.firm.clock k lt);
      reserved = can.roomy.workers k d lt;
      pass = record { board = refl; start = refl };
      number = sym idle.number;
      outs = refl;
      listed = record {
        hands = λ i. hand-at k (task_at h.board.start.state i).place ∙ ap (λ q. bit (in_hands (caller k) q)) (place i) ∙ ready.firm.places.hands k i lt ∙ ap (listed i) book;
        runs = λ i. (rests i).0;
        draws = λ i. (rests i).1;
      };
      takes = λ i exists home live.
          let at : task_at h.board.start.state i ≡ task_at st.state i = ap (λ (m : State). task_at m i) can.opened.state in
          let known = idle.takes i (home ∙ idle.number) (ap (λ t. is_gone t.place) (sym at) ∙ live) in
          known ∙ ap (λ t. t.takes) (sym at) ∙ (let none : (task_at h.board.start.state i).takes ≡ (task_at h.board.start.state i).takes + 0 = omega arith in none);
      few_takes = λ i exists home.
          let at : (task_at h.board.start.state i).takes ≡ (task_at st.state i).takes = ap (λ (m : State). (task_at m i).takes) can.opened.state in
          let few = few_takes s r i p ready can.more in
          omega arith;
      few_entries = omega arith;
      own = record {
        lists = λ i some. ready.firm.homes.lists k i lt (subst (λ (b : Book). 0 < listed i b) (sym book) some) ∙ sym idle.number;
        timers = subst (λ (b : Book). AllByRecursion (λ y. home_of s y.task ≡ number_of w) b.wait.items) book (subst (λ (j : ℕ). AllByRecursion (λ y. home_of s y.task ≡ j) (book_at st k).wait.items) (sym idle.number) (ready.firm.homes.timers k lt));
      };
    }

-- the board is one of the script
pub board-of : (s : Script) (r : ℕ) (p : Plant) (h : RoundInHand) → CanRun s r p h → IsBoardOf s h.board
board-of s r p h can = record {
  workers = ap (λ (m : State). m.workers) can.opened.state ∙ can.ready.firm.places.workers;
  tasks = ap (λ (m : State). length m.tasks) can.opened.state ∙ can.ready.firm.places.tasks;
  homes = λ i lt. ap (λ (xs : List ℕ). get_or xs i 0) can.opened.homes ∙ home-in s i lt;
}

pub can-make : (s : Script) (r : ℕ) (p : Plant) (h : RoundInHand) → CanRun s r p h → CanMake s p.tick r h.board p.workers.items p.injector h.passes (fresh_list h.board 0 s.workers) (fresh h.board s.workers)
can-make s r p h can =
    let ready = can.ready in
    let st = standing_of p in
    let place : (i : ℕ) → (task_at h.board.start.state i).place ≡ (task_at st.state i).place = λ i. ap (λ (m : State). (task_at m i).place) can.opened.state in
    record {
      places_are = places-fresh s st h can.opened;
      numbers = numbered-fresh h.board 0 s.workers (fresh h.board s.workers) (let e : s.workers ≡ 0 + s.workers = omega arith in e);
      count = length-fresh h.board 0 s.workers;
      turns = subst (λ (n : ℕ). AllCanTurn s p.tick h.board p.workers.items (fresh_list h.board 0 n)) ready.holds.count (all_can s p.tick h.board 0 p.workers.items (λ i d lt. let e : i ≡ 0 + i = omega arith in subst (λ (j : ℕ). CanTurn s p.tick h.board (get_or p.workers.items i d) (fresh h.board j)) e (can-turn s r p h i d can (omega (arith, ready.holds.count)))));
      injects = record {
        reserved = can.roomy.injector;
        pass = record { board = refl; start = refl };
        number = refl;
        outs = refl;
        free = λ i.
            let q = (task_at h.board.start.state i).place in
            let none : in_hand (own_at s.workers q) ≡ 0 = hand-at s.workers q ∙ ap (λ x. bit (in_hands (caller s.workers) x)) (place i) ∙ ready.firm.places.free i in
            let rests = at-rest s.workers q (ap (λ x. bit (in_run (caller s.workers) x)) (place i) ∙ ready.firm.places.runs s.workers i (omega arith)) (ap (λ x. bit (in_draw (caller s.workers) x)) (place i) ∙ ready.firm.places.draws s.workers i (omega arith)) in
            only-away (own_at s.workers q) none rests.0 rests.1;
      };
    }
