-- What a plant starts from.
use Rattle.std.proofs.Common.{◌≡◌, ℕ, zero, suc, ◌+◌, ◌<◌, ◌≤◌, Bool, true, false, List, [], ◌∷◌, ◌++◌, map, length, replicate, get_or, None, IsTrue, refl, sym, ap, ◌∙◌, subst, arith, inl, inr, if◌then◌else◌}
use Rattle.std.proofs.lemmas.Bool.{cases_eq, leb-true}
use Rattle.std.proofs.lemmas.List.{length-map, map-append, length-replicate, length-set, get_or-map, get_or-set_same, get_or-set_other, get_or_push, get_or_append_left, ext_get_or}
use Rattle.step_tables.specs.declared.tables.Script.{Script}
use Rattle.task_machine.specs.declared.task.TaskState.{TaskState}
use Rattle.task_machine.specs.Task.{resting, seated}
use Rattle.task_machine.specs.Step.{State, task_at, put_task}
use Rattle.queue_model.specs.Ticks.{is_set}
use Rattle.queue_model.specs.WaitList.{expiry_of}
use Rattle.queue_model.specs.Clock.{Window, behind}
use Rattle.run_model.specs.Book.{Book}
use Rattle.run_model.specs.Standing.{opening, opened, blank_book}
use Rattle.run_model.specs.Tables.{home_of, def_of, blank_task}
use Rattle.standing.proofs.Opening.{opening_each}
use Rattle.step_tables.specs.Sound.{is_sound, rising_below}
use Rattle.turn_steps.proofs.Fit.{sound_parts, within-parts, IsFit-sound}
use Rattle.turn_steps.specs.Left.{asked}
use Rattle.thread_loop.specs.Workers.{number_of, tick_of, turns_of, takes_of, book_at_tick, stage_of, Fits}
use Rattle.thread_loop.specs.Idle.{book_now, IsIdle}
use Rattle.thread_loop.specs.declared.worker.Worker.{Worker}

-- ---- the machine

-- the machine whose first n tasks stand as they open
pub record OpensTo (s : Script) (n : ℕ) (m : State) : Type 0 where
  pub workers : m.workers ≡ s.workers
  pub count : length m.tasks ≡ length s.tasks
  pub before : (k : ℕ) → k < n → task_at m k ≡ opened s (def_of s k)
  pub behind : (k : ℕ) → n ≤ k → task_at m k ≡ resting

pub opens_first : (s : Script) (m : State) (tasks workers : ℕ) → tasks ≡ length s.tasks → workers ≡ s.workers → m ≡ record { workers = workers; tasks = replicate tasks resting } → OpensTo s 0 m
opens_first s m tasks workers count same is = subst (λ m. OpensTo s 0 m) (sym is) (record {
  workers = same;
  count = length-replicate tasks resting ∙ count;
  before = λ k lt. absurd (omega arith);
  behind = λ k le. rests tasks k;
})
  where
    rests : (n k : ℕ) → get_or (replicate n resting) k resting ≡ resting
    rests zero k = refl
    rests (suc n) zero = refl
    rests (suc n) (suc k) = rests n k

-- one task more that is not to run from the start on
pub opens_rest : (s : Script) (n : ℕ) (m : State) (init : Bool) → OpensTo s n m → init ≡ (def_of s n).init → init ≡ false → OpensTo s (n + 1) m
opens_rest s n m init h is none = record {
  workers = h.workers;
  count = h.count;
  before = λ k lt. elim (cases_eq k n) [
    | inl e ↦ (let here = h.behind k (omega arith) in here ∙ sym (ap (λ (b : Bool). if b then seated (home_of s n) resting else resting) (sym is ∙ none)) ∙ ap (λ i. opened s (def_of s i)) (sym e))
    | inr ne ↦ h.before k (omega arith)
  ];
  behind = λ k le. h.behind k (omega arith);
}

-- one task more that is
pub opens_seat : (s : Script) (n home : ℕ) (m new : State) (init : Bool) → OpensTo s n m → n < length s.tasks → init ≡ (def_of s n).init → init ≡ true → home ≡ home_of s n → new ≡ put_task m n (seated home (task_at m n)) → OpensTo s (n + 1) new
opens_seat s n home m new init h lt is some same new_is = subst (λ m. OpensTo s (n + 1) m) (sym new_is) (record {
  workers = h.workers;
  count = length-set m.tasks n _ ∙ h.count;
  before = λ k below. elim (cases_eq k n) [
    | inl e ↦ rw e (get_or-set_same m.tasks n (seated home (task_at m n)) resting (omega (arith, h.count)) ∙ here)
    | inr differs ↦ get_or-set_other m.tasks n k (seated home (task_at m n)) resting differs ∙ h.before k (omega arith)
  ];
  behind = λ k le. get_or-set_other m.tasks n k (seated home (task_at m n)) resting (λ e. ne k (sym e) le) ∙ h.behind k (omega arith);
})
  where
    here : seated home (task_at m n) ≡ opened s (def_of s n)
    here = ap (λ t. seated home t) (h.behind n (omega arith)) ∙ ap (λ b. seated b resting) same ∙ sym (ap (λ (b : Bool). if b then seated (home_of s n) resting else resting) (sym is ∙ some))

    ne : (k : ℕ) → n ≡ k → n + 1 ≤ k → ⊥
    ne k e le = omega arith

-- the whole
pub opens_all : (s : Script) (n : ℕ) (m : State) → n ≡ length s.tasks → OpensTo s n m → m ≡ (opening s).state
opens_all s n m e h =
    let tasks : m.tasks ≡ map (opened s) s.tasks = ext_get_or resting m.tasks (map (opened s) s.tasks) (h.count ∙ sym (length-map s.tasks (opened s))) (λ i lt. h.before i (omega (arith, h.count)) ∙ sym (get_or-map (opened s) s.tasks i blank_task resting (omega (arith, h.count)))) in
    same m s.workers (map (opened s) s.tasks) h.workers tasks
  where
    same : (m : State) (w : ℕ) (ts : List TaskState) → m.workers ≡ w → m.tasks ≡ ts → m ≡ record { workers = w; tasks = ts }
    same m w ts e f =
        let front : m ≡ record { workers = w; tasks = m.tasks } = ap (λ (n : ℕ). record { workers = n; tasks = m.tasks }) e in
        front ∙ ap (λ (us : List TaskState). record { workers = w; tasks = us }) f

-- ---- the rows, and the workers

blank_window : (T n : ℕ) → Window behind T (blank_book n).wait
blank_window T n = record {
  keys = tt;
  sorted = tt;
  ends = λ i is. (let none : is_set (expiry_of (blank_book n).wait i) ≡ false = ap is_set (zeros n i) in cc);
}
  where
    zeros : (n i : ℕ) → expiry_of (blank_book n).wait i ≡ 0
    zeros zero i = refl
    zeros (suc n) zero = refl
    zeros (suc n) (suc i) = zeros n i

-- a new worker
pub idle_first : (s : Script) (k : ℕ) (w : Worker) → Fits s w → number_of w ≡ k → turns_of w ≡ 0 → ((i : ℕ) → takes_of w i ≡ 0) → asked s (stage_of s w) ≡ None → ((T : ℕ) → book_at_tick T w ≡ blank_book (length s.tasks)) → IsIdle s 0 k (opening s).state w
idle_first s k w fits number turns takes over book = record {
  fits = fits;
  number = number;
  turns = turns;
  over = over;
  window = subst (λ (b : Book). Window behind (tick_of w) b.wait) (sym (book (tick_of w))) (blank_window (tick_of w) (length s.tasks));
  takes = λ i home live. takes i ∙ sym (opening_each s i (λ (t : TaskState). t.takes ≡ 0) refl refl);
}

-- one worker more
pub idle_more : (s : Script) (n : ℕ) (ws new : List Worker) (w : Worker) → length ws ≡ n → ((k : ℕ) (d : Worker) → k < n → IsIdle s 0 k (opening s).state (get_or ws k d)) → IsIdle s 0 n (opening s).state w → new ≡ ws ++ w ∷ [] → (k : ℕ) (d : Worker) → k < n + 1 → IsIdle s 0 k (opening s).state (get_or new k d)
idle_more s n ws new w count idle last is k d lt =
    elim (cases_eq k n) [
      | inl e ↦ (let at : get_or new k d ≡ w = ap (λ (xs : List Worker). get_or xs k d) is ∙ get_or_push ws w d k (count ∙ sym e) in
          subst (λ (x : Worker). IsIdle s 0 k (opening s).state x) (sym at) (subst (λ (j : ℕ). IsIdle s 0 j (opening s).state w) (sym e) last))
      | inr differs ↦ subst (λ (x : Worker). IsIdle s 0 k (opening s).state x) (sym (ap (λ xs. get_or xs k d) is ∙ get_or_append_left ws (w ∷ []) d k (omega arith))) (idle k d (omega arith))
    ]

-- ---- what a sound script has

pub few_tasks : (s : Script) → IsTrue (is_sound s) → length s.tasks ≤ 4096
few_tasks s h = leb-true (length s.tasks) 4096 (sound_parts s h).tasks

pub few_workers : (s : Script) → IsTrue (is_sound s) → (1 ≤ s.workers) × (s.workers ≤ 16)
few_workers s h = within-parts 1 16 s.workers (sound_parts s h).workers

pub home_below : (s : Script) (i : ℕ) → IsTrue (is_sound s) → home_of s i < s.workers + 1
home_below s i h = (IsFit-sound s h).homes i

-- ---- the shared tasks

-- ---- the books, and the events

-- one blank book more
pub books_more : (s : Script) (n : ℕ) (ws new : List Worker) (w : Worker) → map book_now ws ≡ replicate n (blank_book (length s.tasks)) → book_now w ≡ blank_book (length s.tasks) → new ≡ ws ++ w ∷ [] → map book_now new ≡ replicate (n + 1) (blank_book (length s.tasks))
books_more s n ws new w h book is =
    let blank : Book = blank_book (length s.tasks) in
    let more : replicate (n + 1) blank ≡ replicate n blank ++ blank ∷ [] = more_blank n blank in
    ap (λ (xs : List Worker). map book_now xs) is ∙ map-append book_now ws (w ∷ []) ∙ ap (λ (bs : List Book). bs ++ book_now w ∷ []) h ∙ ap (λ (b : Book). replicate n blank ++ b ∷ []) book ∙ sym more
  where
    more_blank : (n : ℕ) (b : Book) → replicate (n + 1) b ≡ replicate n b ++ b ∷ []
    more_blank n b = (let number : n + 1 ≡ suc n = omega arith in rw number (front n b))
      where
        front : (n : ℕ) (b : Book) → replicate (suc n) b ≡ replicate n b ++ b ∷ []
        front zero b = refl
        front (suc n) b = ap (λ (bs : List Book). b ∷ bs) (front n b)

-- the events come by rising rounds
pub events_rise : (s : Script) → IsTrue (is_sound s) → rising_below 0 s.rounds s.events ≡ true
events_rise s h = (sound_parts s h).rising

pub same_standing : (s : Script) (state : State) (books : List Book) → state ≡ (opening s).state → books ≡ (opening s).books → record { state = state; books = books } ≡ opening s
same_standing s state books e f =
    let front : record { state = state; books = books } ≡ record { state = (opening s).state; books = books } = ap (λ (m : State). record { state = m; books = books }) e in
    front ∙ ap (λ (bs : List Book). record { state = (opening s).state; books = bs }) f
