-- The end of a turn: where no call is asked any more, the timers settle.
use Rattle.std.proofs.Common.{◌≡◌, ℕ, ◌+◌, ◌*◌, ◌^◌, ◌≤◌, ◌==◌, ◌⊎◌, true, false, List, [], ◌∷◌, None, inl, inr, refl, sym, ap, ◌∙◌, arith, eq-eqb, leb, ◌<◌}
use Rattle.std.proofs.lemmas.Bool.{cases_Bool, eqb-true, le-leb}
use Rattle.std.proofs.lemmas.Bool.Decides.{nat_tests}
use Rattle.queue_model.specs.Settle.{settled, IsSettled, StandsAtExpiry}
use Rattle.queue_model.specs.WaitList.{WaitItem, WaitList, expiry_of}
use Rattle.queue_model.proofs.Settles.{settled-is}
use Rattle.step_tables.specs.declared.tables.Action.{Action}
use Rattle.step_tables.specs.declared.tables.Row.{Row}
use Rattle.step_tables.specs.declared.tables.Script.{Script}
use Rattle.run_model.specs.Book.{Book}
use Rattle.run_model.specs.Standing.{turn_ended}
use Rattle.run_model.specs.Versions.{is_second}
use Rattle.turn_steps.specs.Left as steps
use Rattle.turn_steps.specs.Left.{Left, Stage, stage}
use Rattle.turn_steps.specs.Has.{has}
use Rattle.turn_steps.specs.Counts.{calls_left}
use Rattle.standing.proofs.Ended.{listed-ended}
use Rattle.thread_loop.specs.Queues.{book_of, made_of}
use Rattle.thread_loop.specs.Turns.{acting, actions_from, onward_of, row_of, stage_at, unsettled, unsettled_in, ended, NamesTasks}
use Rattle.thread_loop.specs.Workers.{room_left}
use Rattle.thread_loop.proofs.Workers.{over_book}
use Rattle.thread_loop.specs.declared.queues.Queues.{Queues}
use Rattle.thread_loop.specs.declared.turn.Phase.{Phase}
use Rattle.thread_loop.specs.declared.turn.Phase.TheVariants.{Gets, Wakes, Runs, Acts, Posts, Drops, Retires, Returns, Drawn}

acts_asked : (s : Script) (actions : List Action) (i : ℕ) (row : Row) (q : steps.Onward) (b : Book) → steps.asked s (stage (acting actions i row q) b) ≡ None → ⊥
acts_asked s [] i row q b h = cc
acts_asked s (a ∷ more) i row q b h = cc

-- a book whose timers alone have changed
abbrev timed : Book → WaitList → Book
timed b w = record b { wait = w }

next_timed : (q : steps.Onward) (b : Book) (w : WaitList) → steps.next_in q (timed b w) ≡ steps.next_in q b
next_timed (steps.by_class c) b w = refl
next_timed (steps.by_draw n) b w = refl

-- the stage of other queues that differ in their timers alone, and what they ask
pub over_stage : (s : Script) (T : ℕ) (q r : Queues) (p : Phase) (w : WaitList) → steps.asked s (stage_at s T q p) ≡ None → book_of T r ≡ timed (book_of T q) w → (stage_at s T r p ≡ stage (stage_at s T q p).left (timed (stage_at s T q p).book w)) × (steps.asked s (stage_at s T r p) ≡ None)
over_stage s T q r (Runs o) w h e =
    let same : stage_at s T r (Runs o) ≡ stage (steps.runs (onward_of o)) (timed (book_of T q) w) = ap (stage (steps.runs (onward_of o))) e in
    let next : steps.take_call (steps.next_in (onward_of o) (timed (book_of T q) w)) ≡ steps.take_call (steps.next_in (onward_of o) (book_of T q)) = ap steps.take_call (next_timed (onward_of o) (book_of T q) w) in
    let asks : steps.asked s (stage_at s T r (Runs o)) ≡ steps.asked s (stage (steps.runs (onward_of o)) (timed (book_of T q) w)) = ap (steps.asked s) same in
    (same, asks ∙ (next ∙ h))
over_stage s T q r (Gets g) w h e = cc
over_stage s T q r (Wakes j) w h e = cc
over_stage s T q r (Acts run n) w h e = absurd (acts_asked s (actions_from n s run) run.task.0 (row_of s run) (onward_of run.onward) (book_of T q) h)
over_stage s T q r (Posts run n j) w h e = cc
over_stage s T q r (Drops j o) w h e = cc
over_stage s T q r (Retires held j o) w h e = cc
over_stage s T q r (Returns j o) w h e = cc
over_stage s T q r (Drawn j n) w h e = cc

-- ---- the list is settled, or it stays

unsettled_none : (l : WaitList) → IsSettled l → unsettled l ≡ 0
unsettled_none l h = first l.items h
  where
    first : (items : List WaitItem) → StandsAtExpiry l items → unsettled_in l items ≡ 0
    first [] h = refl
    first (y ∷ ys) h = rw (eq-eqb (expiry_of l y.task) y.key h) refl

unsettled_some : (l : WaitList) → (unsettled l ≡ 1) ⊎ IsSettled l
unsettled_some l = first l.items
  where
    first : (items : List WaitItem) → (unsettled_in l items ≡ 1) ⊎ StandsAtExpiry l items
    first [] = inr tt
    first (y ∷ ys) = elim (cases_Bool (expiry_of l y.task == y.key)) [ inl k ↦ inr (eqb-true (expiry_of l y.task) y.key k) | inr k ↦ rw k (inl refl) ]

-- what was put in as the timers settled
pub settled_room : (T n : ℕ) (q r : Queues) → book_of T r ≡ timed (book_of T q) (settled T (book_of T q).wait) → made_of r ≤ made_of q + n → n ≤ 4096 → (IsSettled (book_of T q).wait → made_of r ≡ made_of q) → made_of r + 2 ^ 13 * unsettled (book_of T r).wait ≤ made_of q + 2 ^ 13 * unsettled (book_of T q).wait
settled_room T n q r e bound few stays =
    let none : unsettled (book_of T r).wait ≡ 0 = ap (λ (b : Book). unsettled b.wait) e ∙ unsettled_none (settled T (book_of T q).wait) (settled-is T (book_of T q).wait) in
    elim (unsettled_some (book_of T q).wait) [
      | inl one ↦ omega arith
      | inr is ↦ let same = stays is in omega arith
    ]

-- ---- by the version

pub is_first : (s : Script) (v : ℕ) → v ≡ s.version → v < 2 → is_second s ≡ false
is_first s v same lt = let few : s.version < 2 = omega arith in below s.version few
  where
    below : (n : ℕ) → n < 2 → leb 2 n ≡ false
    below n h = grind (arith, nat_tests)

pub is_later : (s : Script) (v : ℕ) → v ≡ s.version → 2 ≤ v → is_second s ≡ true
is_later s v same ge = le-leb 2 s.version (omega arith)

pub first_ended : (s : Script) (T : ℕ) (b : Book) → is_second s ≡ false → turn_ended s T b ≡ b
first_ended s T b h = rw h refl

pub second_ended : (s : Script) (T : ℕ) (b : Book) → is_second s ≡ true → turn_ended s T b ≡ timed b (settled T b.wait)
second_ended s T b h = rw h refl

pub first_stage : (s : Script) (T : ℕ) (g : Stage) → is_second s ≡ false → g ≡ ended s T g
first_stage s T g h = ap (stage g.left) (sym (first_ended s T g.book h))

pub second_stage : (s : Script) (T : ℕ) (g : Stage) → is_second s ≡ true → stage g.left (timed g.book (settled T g.book.wait)) ≡ ended s T g
second_stage s T g h = ap (stage g.left) (sym (second_ended s T g.book h))

pub later_stage : (s : Script) (T : ℕ) (q r : Queues) (p : Phase) → is_second s ≡ true → steps.asked s (stage_at s T q p) ≡ None → book_of T r ≡ timed (book_of T q) (settled T (book_of T q).wait) → stage_at s T r p ≡ ended s T (stage_at s T q p)
later_stage s T q r p second over e =
    let g : Stage = stage_at s T q p in
    let moved : stage_at s T r p ≡ stage g.left (timed g.book (settled T (book_of T q).wait)) = (over_stage s T q r p (settled T (book_of T q).wait) over e).0 in
    let here : stage g.left (timed g.book (settled T (book_of T q).wait)) ≡ stage g.left (timed g.book (settled T g.book.wait)) = ap (λ (b : Book). stage g.left (timed g.book (settled T b.wait))) (over_book s T q p over) in
    moved ∙ (here ∙ second_stage s T g second)

-- ---- what a worker keeps

calls_over : (s : Script) (l : Left) (b d : Book) → steps.asked s (stage l b) ≡ None → calls_left s.depth l d ≡ calls_left s.depth l b
calls_over s (steps.gets g gs) b d h = cc
calls_over s (steps.wakes i is) b d h = refl
calls_over s (steps.runs q) b d h = refl
calls_over s (steps.acts a more i row q) b d h = refl
calls_over s (steps.posts j more i row q) b d h = refl
calls_over s (steps.drops i q) b d h = refl
calls_over s (steps.retires held i q) b d h = refl
calls_over s (steps.returns i q) b d h = refl
calls_over s (steps.drawn i n) b d h = refl
calls_over s (steps.injects a more) b d h = refl
calls_over s (steps.carries j more) b d h = refl
calls_over s steps.over b d h = refl

pub room_over : (s : Script) (T : ℕ) (g h : Stage) (b d : Book) (m n t : ℕ) → steps.asked s g ≡ None → b ≡ g.book → h ≡ ended s T g → d ≡ turn_ended s T b → n + 2 ^ 13 * unsettled d.wait ≤ m + 2 ^ 13 * unsettled b.wait → m + room_left s g ≤ t → n + room_left s h ≤ t
room_over s T g h b d m n t over same is ends grows room =
    let calls : calls_left s.depth h.left h.book ≡ calls_left s.depth g.left g.book = ap (λ (x : Stage). calls_left s.depth x.left x.book) is ∙ calls_over s g.left g.book (turn_ended s T g.book) over in
    let u : unsettled b.wait ≡ unsettled g.book.wait = ap (λ (x : Book). unsettled x.wait) same in
    let v : unsettled d.wait ≡ unsettled h.book.wait = ap (λ (x : Book). unsettled x.wait) (ends ∙ ap (turn_ended s T) same ∙ sym (ap (λ (x : Stage). x.book) is)) in
    omega arith

pub names_over : (s : Script) (T : ℕ) (g h : Stage) → h ≡ ended s T g → NamesTasks s g → NamesTasks s h
names_over s T g h is names i some =
    let same : has i h ≡ has i g = ap (has i) is ∙ has_ended s T g i in
    names i (omega arith)
  where
    has_ended : (s : Script) (T : ℕ) (g : Stage) (i : ℕ) → has i (ended s T g) ≡ has i g
    has_ended s T g i = let same = listed-ended s T i g.book in omega arith
