-- The begin of a turn on a board, and what it comes to.
use Rattle.std.proofs.Common.{◌≡◌, ◌≢◌, ℕ, zero, suc, ◌+◌, ◌*◌, ◌^◌, ◌<◌, ◌≤◌, ◌⊎◌, inl, inr, false, List, [], ◌++◌, length, None, refl, sym, ap, ◌∙◌, arith, subst, ne_eqb}
use Rattle.std.specs.Int.{div_ceil}
use Rattle.std.specs.List.{range_with_len, AllByRecursion}
use Rattle.std.proofs.lemmas.List.FromFn.{length-range_with_len}
use Rattle.step_tables.specs.declared.tables.Script.{Script}
use Rattle.task_machine.specs.declared.calls.Entry.{Entry}
use Rattle.task_machine.specs.Own.{Own, away, holding, drawing, running}
use Rattle.run_model.specs.Book.{Book}
use Rattle.run_model.specs.Tables.{groups}
use Rattle.run_model.specs.Turn.{Turn}
use Rattle.turn_steps.specs.Left.{Stage, asked, begun, draws_now, Rest}
use Rattle.turn_steps.specs.Told.{Told, told}
use Rattle.turn_steps.specs.Has.{caller, drawn_by}
use Rattle.turn_steps.specs.Ranges.{TimersIn}
use Rattle.turn_steps.specs.Counts.{calls_left, draws_ahead, is_injectors}
use Rattle.turn_steps.proofs.Budget.{costs-gets}
use Rattle.turn_steps.proofs.Measure.{within-gets}
use Rattle.turn_steps.proofs.Ranges.{in-gets}
use Rattle.turn_steps.proofs.Stages.{has-gets}
use Rattle.turn_steps.proofs.Told.{told-rest}
use Rattle.turn_steps.proofs.Turns.{turns}
use Rattle.standing.proofs.Ahead.{ahead-gets, idle-draws}
use Rattle.standing.proofs.Enter.{ended_has}
use Rattle.standing.proofs.Homes.{homed-gets}
use Rattle.wake_board.specs.Seen.{Held, Laid, IsPassOf}
use Rattle.wake_board.specs.Ends.{own_by}
use Rattle.thread_loop.specs.Workers.{number_of, tick_of, takes_of, book_at_tick, stage_of, Fits}
use Rattle.thread_loop.specs.Workers.{calls_in}
use Rattle.thread_loop.specs.Boards.{log_of, turn_room, IsBoardOf, HasListed, KeepsTakes, FewKnown, IsOwn, IsMissed, HasServed, HasGrown}
use Rattle.thread_loop.specs.BoardTurns as by
use Rattle.thread_loop.specs.BoardTurns.{AtStage, OnBoard, HasCalled}
use Rattle.thread_loop.specs.declared.worker.Worker.{Worker}
use Rattle.thread_loop.proofs.BoardTurns.{sound-fits, number-fits}
use Rattle.thread_loop.proofs.BoardDraws.{draws-told}
use Rattle.thread_loop.proofs.TimersOf.{timers_are_tasks, few_timers}
use Rattle.thread_loop.proofs.Workers.{begun_calls}

-- ---- the begin

timers-fit : (s : Script) (w : Worker) (T : ℕ) → Fits s w → TimersIn (length s.tasks) (book_at_tick T w)
unfolding Fits book_at_tick
timers-fit s w T h = timers_are_tasks s w.turn.queues T h.turn.queues

few-timers-fit : (s : Script) (w : Worker) (T : ℕ) → Fits s w → length (book_at_tick T w).wait.items ≤ length s.tasks
unfolding Fits book_at_tick
few-timers-fit s w T h = few_timers s w.turn.queues T h.turn.queues

groups_below : (n g m from : ℕ) → g ≡ div_ceil n 64 → from + m ≤ g → AllByRecursion (λ x. 64 * x < n) (range_with_len from m)
groups_below n g zero from e h = tt
groups_below n g (suc m) from e h = (ceiling n g from e (omega arith), groups_below n g m (from + 1) e (omega arith))
  where
    ceiling : (n g x : ℕ) → g ≡ div_ceil n 64 → x < g → 64 * x < n
    ceiling n g x e h = omega arith

no_run : (o : Own) → o ≢ running → by.in_run o ≡ 0
no_run away h = refl
no_run holding h = refl
no_run drawing h = refl
no_run running h = absurd (h refl)

no_draw : (o : Own) → o ≢ drawing → by.in_draw o ≡ 0
no_draw away h = refl
no_draw holding h = refl
no_draw drawing h = absurd (h refl)
no_draw running h = refl

-- what stands as a worker begins its turn at tick T with an empty log
pub record IsBegun (s : Script) (b : Laid) (T : ℕ) (w v : Worker) (p : Held) : Type 0 where
  pub fits : Fits s w
  pub later : Fits s v
  pub stage : stage_of s v ≡ begun s T (book_at_tick T w)
  pub number : number_of v ≡ number_of w
  pub tick : tick_of v ≡ T
  pub takes : (i : ℕ) → takes_of v i ≡ takes_of w i
  pub book : asked s (stage_of s v) ≡ None → book_at_tick (tick_of v) v ≡ (stage_of s v).book
  pub entries : (log_of v).entries ≡ []
  pub room : (log_of v).room ≡ (log_of w).room
  pub reserved : turn_room s ≤ (log_of w).room
  pub board : IsBoardOf s b
  pub pass : IsPassOf b p
  pub who : p.who ≡ number_of w
  pub listed : HasListed (book_at_tick T w) p
  pub kept : KeepsTakes s w p
  pub few_takes : FewKnown s (number_of w) p
  pub few_entries : length p.entries < 2 ^ 39
  pub own : IsOwn s (number_of w) (book_at_tick T w)

at_begun : (s : Script) (b : Laid) (T : ℕ) (w v : Worker) (p : Held) → IsBegun s b T w v p → AtStage s b (number_of w) (begun s T (book_at_tick T w)) p
at_begun s b T w v p h =
    let k = number_of w in
    let book = book_at_tick T w in
    let gs = range_with_len 0 (groups s) in
    let lt = number-fits s w h.fits in
    record {
      sound = sound-fits s w h.fits;
      board = h.board;
      pass = h.pass;
      number = h.who;
      among = omega arith;
      part = (costs-gets s T gs book).part ∙ sym (ne_eqb k s.workers (omega arith));
      hands = λ i. h.listed.hands i ∙ sym (has-gets s T i gs book).hands;
      runs = λ i. no_run (own_by p i) (h.listed.runs i) ∙ sym (has-gets s T i gs book).runs;
      draws = λ i. no_draw (own_by p i) (h.listed.draws i) ∙ sym (has-gets s T i gs book).draws;
      range = in-gets s T (length s.tasks) gs book (groups_below (length s.tasks) (groups s) (groups s) 0 refl (omega arith)) (timers-fit s w T h.fits);
      homed = homed-gets s k T gs book (h.own.lists, h.own.timers);
    }

few_begun : (s : Script) (T : ℕ) (b : Book) → length b.wait.items ≤ length s.tasks → calls_left s.depth (begun s T b).left (begun s T b).book ≤ turn_room s
few_begun s T b few =
    let most = (within-gets s T (range_with_len 0 (groups s)) b).calls in
    let count = length-range_with_len 0 (groups s) in
    omega arith

pub on-begun : (s : Script) (b : Laid) (T : ℕ) (w v : Worker) (p : Held) → IsBegun s b T w v p → OnBoard s b v p
on-begun s b T w v p h =
    let book = book_at_tick T w in
    let few = few-timers-fit s w T h.fits in
    let calls : calls_in s v ≤ turn_room s = subst (λ (g : Stage). calls_left s.depth g.left g.book ≤ turn_room s) (sym h.stage) (few_begun s T book few) in
    let most : calls_in s v ≤ 75265 = subst (λ (g : Stage). calls_left s.depth g.left g.book ≤ 75265) (sym h.stage) (begun_calls s T book (sound-fits s w h.fits) few) in
    record {
      fits = h.later;
      stage = subst (λ (k : ℕ). AtStage s b k (stage_of s v) p) (sym h.number) (subst (λ (g : Stage). AtStage s b (number_of w) g p) (sym h.stage) (at_begun s b T w v p h));
      takes = λ i lt home live. h.takes i ∙ h.kept i lt (home ∙ h.number) live;
      book = h.book;
      spare = (let none = ap (λ (es : List Entry). length es) h.entries in let room = h.room in let enough = h.reserved in omega arith);
      entries = (let few_entries = h.few_entries in omega arith);
      few = λ i lt home. let known = h.few_takes i lt (home ∙ h.number) in omega arith;
    }

pub undrawn-begun : (s : Script) (b : Laid) (T : ℕ) (w v : Worker) (p : Held) (i : ℕ) → IsBegun s b T w v p → drawn_by i (stage_of s v).left ≡ 0
undrawn-begun s b T w v p i h = ap (λ (g : Stage). drawn_by i g.left) h.stage ∙ (has-gets s T i (range_with_len 0 (groups s)) (book_at_tick T w)).draws

-- ---- the end

-- what stands as the turn is over: the calls that it made led from its begin
pub record IsOver (s : Script) (b : Laid) (T : ℕ) (w v x : Worker) (p q : Held) : Type 0 where
  pub begun : IsBegun s b T w v p
  pub on : OnBoard s b x q
  pub called : HasCalled s v p x q
  pub over : asked s (stage_of s x) ≡ None

pub number-over : (s : Script) (b : Laid) (T : ℕ) (w v x : Worker) (p q : Held) → IsOver s b T w v x p q → number_of x ≡ number_of w
number-over s b T w v x p q h = h.called.number ∙ h.begun.number

pub tick-over : (s : Script) (b : Laid) (T : ℕ) (w v x : Worker) (p q : Held) → IsOver s b T w v x p q → tick_of x ≡ T
tick-over s b T w v x p q h = h.called.tick ∙ h.begun.tick

log_over : (s : Script) (b : Laid) (T : ℕ) (w v x : Worker) (p q : Held) → (h : IsOver s b T w v x p q) → (log_of x).entries ≡ h.called.more
log_over s b T w v x p q h = h.called.logged ∙ ap (λ es. es ++ h.called.more) h.begun.entries

-- the calls follow the turn from its begin
followed : (s : Script) (b : Laid) (T : ℕ) (w v x : Worker) (p q : Held) → IsOver s b T w v x p q → Told s (caller (number_of w)) T (begun s T (book_at_tick T w)) (log_of x).entries × (stage_of s x ≡ told s (caller (number_of w)) T (begun s T (book_at_tick T w)) (log_of x).entries)
followed s b T w v x p q h =
    let P : ℕ → ℕ → Stage → List Entry → Type 0 = λ k U g es. Told s (caller k) U g es × (stage_of s x ≡ told s (caller k) U g es) in
    let first : P (number_of v) (tick_of v) (stage_of s v) h.called.more = (h.called.followed, h.called.stage) in
    let second = subst (λ (k : ℕ). P k (tick_of v) (stage_of s v) h.called.more) h.begun.number first in
    let third = subst (λ (U : ℕ). P (number_of w) U (stage_of s v) h.called.more) h.begun.tick second in
    let fourth = subst (λ (g : Stage). P (number_of w) T g h.called.more) h.begun.stage third in
    subst (λ (es : List Entry). P (number_of w) T (begun s T (book_at_tick T w)) es) (sym (log_over s b T w v x p q h)) fourth

book_over : (s : Script) (b : Laid) (T : ℕ) (w v x : Worker) (p q : Held) → IsOver s b T w v x p q → (stage_of s x).book ≡ book_at_tick T x
book_over s b T w v x p q h = sym (h.on.book h.over) ∙ ap (λ U. book_at_tick U x) (tick-over s b T w v x p q h)

pub turn-over : (s : Script) (b : Laid) (T : ℕ) (w v x : Worker) (p q : Held) → IsOver s b T w v x p q → Turn s (caller (number_of w)) T (book_at_tick T w) (log_of x).entries (book_at_tick T x)
turn-over s b T w v x p q h =
    let k = caller (number_of w) in
    let g = begun s T (book_at_tick T w) in
    let es = (log_of x).entries in
    let f = followed s b T w v x p q h in
    let rest = told-rest s k T g es f.0 (ap (asked s) (sym f.1) ∙ h.over) in
    let end : (told s k T g es).book ≡ book_at_tick T x = ap (λ (y : Stage). y.book) (sym f.1) ∙ book_over s b T w v x p q h in
    (turns s k T (book_at_tick T w) es (book_at_tick T x)).1 (subst (λ (d : Book). Rest s k T g es d) end rest)

pub grown-over : (s : Script) (b : Laid) (T : ℕ) (w v x : Worker) (p q : Held) → IsOver s b T w v x p q → HasGrown p (log_of x).entries q
grown-over s b T w v x p q h = subst (λ (es : List Entry). HasGrown p es q) (sym (log_over s b T w v x p q h)) h.called.grown

pub served-over : (s : Script) (b : Laid) (T : ℕ) (w v x : Worker) (p q : Held) → IsOver s b T w v x p q → (draws_now s (stage_of s x) ≡ 0) ⊎ ((i : ℕ) → i < length s.tasks → IsMissed q i) → HasServed s (log_of x).entries q
served-over s b T w v x p q h served =
    let k = caller (number_of w) in
    let g = begun s T (book_at_tick T w) in
    let es = (log_of x).entries in
    let f = followed s b T w v x p q h in
    let all = draws-told s k T g es f.0 in
    let full = ahead-gets s T (range_with_len 0 (groups s)) (book_at_tick T w) in
    let left : draws_ahead s.depth (told s k T g es).left ≡ draws_ahead s.depth (stage_of s x).left = ap (λ (y : Stage). draws_ahead s.depth y.left) (sym f.1) in
    let lt = number-fits s x h.on.fits in
    let part : is_injectors (stage_of s x).left ≡ false = h.on.stage.part ∙ ne_eqb (number_of x) s.workers (omega arith) in
    let idle = idle-draws s (stage_of s x).left (stage_of s x).book h.over part in
    elim served [ inl none ↦ inl (omega arith) | inr missed ↦ inr missed ]

run_one : (o : Own) → by.in_run o ≡ 0 → o ≢ running
run_one o e same = let one = ap by.in_run same in absurd (omega arith)

draw_one : (o : Own) → by.in_draw o ≡ 0 → o ≢ drawing
draw_one o e same = let one = ap by.in_draw same in absurd (omega arith)

pub listed-over : (s : Script) (b : Laid) (T : ℕ) (w v x : Worker) (p q : Held) → IsOver s b T w v x p q → HasListed (book_at_tick T x) q
listed-over s b T w v x p q h =
    let none = λ (i : ℕ). ended_has s (stage_of s x).left (stage_of s x).book i h.over in
    subst (λ (d : Book). HasListed d q) (book_over s b T w v x p q h) (record {
      hands = λ i. (let n = (none i).0 in let e = h.on.stage.hands i in omega arith);
      runs = λ i. run_one (own_by q i) (h.on.stage.runs i ∙ (none i).1);
      draws = λ i. draw_one (own_by q i) (h.on.stage.draws i ∙ (none i).2);
    })

pub own-over : (s : Script) (b : Laid) (T : ℕ) (w v x : Worker) (p q : Held) → IsOver s b T w v x p q → IsOwn s (number_of x) (book_at_tick T x)
own-over s b T w v x p q h =
    subst (λ (d : Book). IsOwn s (number_of x) d) (book_over s b T w v x p q h) (record { lists = h.on.stage.homed.lists; timers = h.on.stage.homed.timers })
