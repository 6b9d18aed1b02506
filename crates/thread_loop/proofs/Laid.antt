-- The words before the first round.
use Rattle.std.proofs.Common.{◌≡◌, ℕ, ◌+◌, ◌<◌, ◌≤◌, true, false, Bool, IsTrue, List, length, replicate, get_or, refl, sym, ap, ◌∙◌, subst, arith, inl, inr}
use Rattle.std.proofs.lemmas.Bool.{cases_lt}
use Rattle.std.proofs.lemmas.List.{length-set, length-replicate, length-map, get_or_past, get_or_default}
use Rattle.step_tables.specs.declared.tables.Script.{Script}
use Rattle.step_tables.specs.declared.tables.TaskDef.{TaskDef}
use Rattle.step_tables.specs.Nexts.{nexts_of}
use Rattle.step_tables.specs.Sound.{is_sound}
use Rattle.task_machine.specs.Task.{resting, seated}
use Rattle.task_machine.specs.Step.{State, task_at, put_task}
use Rattle.run_model.specs.Standing.{opening}
use Rattle.run_model.specs.Tables.{home_in, home_of, def_of, blank_task}
use Rattle.wake_board.specs.Rows.{WordRow, blank_row, row_seated, task_word, width}
use Rattle.wake_board.specs.Between.{StandBetween}
use Rattle.wake_board.specs.Start.{no_holder}
use Rattle.wake_board.proofs.Seats.{new-stands, seated-stands}
use Rattle.thread_loop.specs.Plants.{homes_of, nobody}
use Rattle.thread_loop.proofs.Opened.{OpensTo, opens_first, opens_rest, opens_seat, opens_all, few_workers, home_below}
use Rattle.thread_loop.proofs.Holding.{home-in}

-- words that stand for the machine whose first n tasks stand as they open
pub record WordsTo (s : Script) (n : ℕ) (ws : WordRow) : Type 0 where
  pub state : State
  pub opens : OpensTo s n state
  pub stands : StandBetween ws (homes_of s) (nobody s) (nexts_of s) state
  pub wide : length ws.row ≡ width ws.workers ws.tasks
  pub workers : ws.workers ≡ s.workers
  pub tasks : ws.tasks ≡ length s.tasks

home_most : (s : Script) (i : ℕ) → IsTrue (is_sound s) → get_or (homes_of s) i 0 ≤ s.workers
home_most s i sound = elim (cases_lt i (length s.tasks)) [
  | inl lt ↦ (let below = home_below s i sound in let at = home-in s i lt in omega arith)
  | inr past ↦ (let none : get_or (homes_of s) i 0 ≡ 0 = get_or_past (homes_of s) i 0 (omega (arith, length-map s.tasks (λ d. home_in_of s d))) in omega arith)
]
  where
    home_in_of : Script → TaskDef → ℕ
    home_in_of s d = home_in s d.kind

pub words_first : (s : Script) (tasks workers : ℕ) (ws : WordRow) → IsTrue (is_sound s) → tasks ≡ length s.tasks → workers ≡ s.workers → ws ≡ blank_row tasks workers → WordsTo s 0 ws
words_first s tasks workers ws sound count same is =
    let m : State = record { workers = workers; tasks = replicate tasks resting } in
    let few = few_workers s sound in
    let stands = new-stands tasks workers (homes_of s) (nexts_of s) (omega arith) (λ i lt. let most = home_most s i sound in omega arith) in
    subst (λ (x : WordRow). WordsTo s 0 x) (sym is) (record {
      state = m;
      opens = opens_first s m tasks workers count same refl;
      stands = subst (λ (n : ℕ). StandBetween (blank_row tasks workers) (homes_of s) (replicate n no_holder) (nexts_of s) m) count stands;
      wide = length-replicate (width workers tasks) 0;
      workers = same;
      tasks = count;
    })

pub words_rest : (s : Script) (n : ℕ) (ws : WordRow) (init : Bool) → WordsTo s n ws → init ≡ (def_of s n).init → init ≡ false → WordsTo s (n + 1) ws
words_rest s n ws init h is none = record {
  state = h.state;
  opens = opens_rest s n h.state init h.opens is none;
  stands = h.stands;
  wide = h.wide;
  workers = h.workers;
  tasks = h.tasks;
}

seated_at : (s : Script) (n home : ℕ) (ws : WordRow) → (h : WordsTo s n ws) → n < length s.tasks → home ≡ home_of s n → (task_word ws n ≡ 0) × StandBetween (row_seated ws n home) (homes_of s) (nobody s) (nexts_of s) (put_task h.state n (seated home (task_at h.state n)))
seated_at s n home ws h lt same =
    let here = h.opens.behind n (omega arith) in
    seated-stands ws (homes_of s) (nobody s) (nexts_of s) h.state n home h.wide h.stands (omega (arith, h.tasks)) (ap (λ t. t.place) here) (ap (λ t. t.takes) here) (home-in s n lt ∙ sym same)

pub untouched : (s : Script) (n home : ℕ) (ws : WordRow) → WordsTo s n ws → n < length s.tasks → home ≡ home_of s n → task_word ws n ≡ 0
untouched s n home ws h lt same = (seated_at s n home ws h lt same).0

pub words_seat : (s : Script) (n home : ℕ) (ws new : WordRow) (init : Bool) → WordsTo s n ws → n < length s.tasks → init ≡ (def_of s n).init → init ≡ true → home ≡ home_of s n → new ≡ row_seated ws n home → WordsTo s (n + 1) new
words_seat s n home ws new init h lt is some same new_is =
    subst (λ (x : WordRow). WordsTo s (n + 1) x) (sym new_is) (record {
      state = put_task h.state n (seated home (task_at h.state n));
      opens = opens_seat s n home h.state (put_task h.state n (seated home (task_at h.state n))) init h.opens lt is some same refl;
      stands = (seated_at s n home ws h lt same).1;
      wide = length-set _ _ _ ∙ length-set ws.row _ _ ∙ h.wide;
      workers = h.workers;
      tasks = h.tasks;
    })

pub words_all : (s : Script) (n : ℕ) (ws : WordRow) → n ≡ length s.tasks → WordsTo s n ws → StandBetween ws (homes_of s) (nobody s) (nexts_of s) (opening s).state
words_all s n ws e h = subst (λ (m : State). StandBetween ws (homes_of s) (nobody s) (nexts_of s) m) (opens_all s n h.state e h.opens) h.stands

-- whether a task, as it was read, is to run from the start on
pub init-read : (s : Script) (n : ℕ) (tasks : List TaskDef) (d : TaskDef) → d ≡ get_or tasks n d → tasks ≡ s.tasks → n < length tasks → d.init ≡ (def_of s n).init
init-read s n tasks d is same lt =
    let size = ap (λ (ts : List TaskDef). length ts) same in
    ap (λ (t : TaskDef). t.init) (is ∙ ap (λ (ts : List TaskDef). get_or ts n d) same ∙ get_or_default s.tasks n d blank_task (omega arith))
