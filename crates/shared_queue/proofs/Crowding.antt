-- Words of shared tasks that are seated one after another.
use Rattle.std.proofs.Common.{◌≡◌, ℕ, suc, ◌+◌, ◌/◌, ◌%◌, ◌^◌, ◌<◌, ◌≤◌, List, [], length, replicate, get_or, set, Option, Some, None, refl, sym, ap, subst, ◌∙◌, inl, inr, arith, get_or-set_same, get_or-set_other}
use Rattle.std.proofs.lemmas.Bool.{cases_lt, cases_eq}
use Rattle.std.proofs.lemmas.List.{get_or_past, get_or-replicate, length-replicate, length-set}
use Rattle.sched_base.specs.KeyedList.{KeyedList, blank}
use Rattle.task_machine.specs.declared.task.TaskState.{TaskState}
use Rattle.task_machine.specs.Task.{resting, seated}
use Rattle.task_machine.specs.Step.{State, task_at, put_task}
use Rattle.std.specs.Prelude.{bit_or}
use Rattle.wake_board.specs.Rows.{WordRow, width, box_at, with_bit, task_word, blank_row, row_seated}
use Rattle.wake_board.specs.Start.{no_holder}
use Rattle.wake_board.specs.Between.{StandBetween, FewTakes}
use Rattle.wake_board.specs.Laws.{NewWordsStand, SeatedWordsStand}
use Rattle.wake_board.specs.Seen.{Held, Laid, IsPassOf}
use Rattle.wake_board.specs.Ends.{Opens, fresh}
use Rattle.shared_queue.specs.Crowds.{IsCrowd}

-- the homes of n shared tasks among two workers, and their holders
abbrev pub homes_of : ℕ → List ℕ
homes_of n = replicate n 2

abbrev pub holders_of : ℕ → List ℕ
holders_of n = replicate n no_holder

-- words of n shared tasks, of which those from `next` on rest
pub record IsCrowding (ws : WordRow) (n next : ℕ) : Type 0 where
  pub state : State
  pub stands : (nexts : List (List ℕ)) → StandBetween ws (homes_of n) (holders_of n) nexts state
  pub wide : length ws.row ≡ width ws.workers ws.tasks
  pub count : ws.tasks ≡ n
  pub workers : ws.workers ≡ 2
  pub later : (j : ℕ) → next ≤ j → task_at state j ≡ resting
  pub few : (j : ℕ) → (task_at state j).takes ≡ 0

rests_at : (n j : ℕ) → get_or (replicate n resting) j resting ≡ resting
rests_at n j = elim (cases_lt j n) [
  | inl lt ↦ get_or-replicate n j resting resting lt
  | inr le ↦ get_or_past (replicate n resting) j resting (omega (arith, length-replicate n resting))
]

pub crowding_none : (ws : WordRow) (n : ℕ) → NewWordsStand → ws ≡ blank_row n 2 → IsCrowding ws n 0
crowding_none ws n law is =
    let m : State = record { workers = 2; tasks = replicate n resting } in
    record {
      state = m;
      stands = λ nexts.
          subst (λ (x : WordRow). StandBetween x (homes_of n) (holders_of n) nexts m) (sym is) (law n 2 (homes_of n) nexts (omega arith) (λ j l. (let e : get_or (homes_of n) j 0 ≡ 2 = get_or-replicate n j 2 0 l in omega arith)));
      wide = subst (λ (x : WordRow). length x.row ≡ width x.workers x.tasks) (sym is) (length-replicate (width 2 n) 0);
      count = ap (λ (x : WordRow). x.tasks) is;
      workers = ap (λ (x : WordRow). x.workers) is;
      later = λ j l. rests_at n j;
      few = λ j. ap (λ (t : TaskState). t.takes) (rests_at n j);
    }

-- what seating one more task gives
pub record Seats (ws : WordRow) (n i : ℕ) : Type 0 where
  pub word : task_word ws i ≡ 0
  pub next : IsCrowding (row_seated ws i 2) n (i + 1)

pub crowding_more : (ws : WordRow) (n next i : ℕ) → SeatedWordsStand → IsCrowding ws n next → next ≤ i → i < n → Seats ws n i
crowding_more ws n next i law r le l =
    let m : State = r.state in
    let count = r.count in
    let rests : task_at m i ≡ resting = r.later i le in
    let task : TaskState = seated 2 (task_at m i) in
    let both : (nexts : List (List ℕ)) → (task_word ws i ≡ 0) × StandBetween (row_seated ws i 2) (homes_of n) (holders_of n) nexts (put_task m i task) = λ nexts.
    law ws (homes_of n) (holders_of n) nexts m i 2 r.wide (r.stands nexts) (omega arith) (ap (λ (t : TaskState). t.place) rests) (r.few i) (get_or-replicate n i 2 0 l) in
    let long : length m.tasks ≡ ws.tasks = (r.stands []).count in
    record {
      word = (both []).0;
      next = record {
        state = put_task m i task;
        stands = λ nexts. (both nexts).1;
        wide = wide (box_at ws.tasks 2 (i / 64)) (i % 64);
        count = r.count;
        workers = r.workers;
        later = λ j lj. get_or-set_other m.tasks i j task resting (omega arith) ∙ r.later j (omega arith);
        few = λ j. elim (cases_eq j i) [
          | inl same ↦
              (let here : task_at (put_task m i task) i ≡ task = get_or-set_same m.tasks i task resting (omega arith) in
              ap (λ (k : ℕ). (task_at (put_task m i task) k).takes) same ∙ (ap (λ (t : TaskState). t.takes) here ∙ r.few i))
          | inr ne ↦ ap (λ (t : TaskState). t.takes) (get_or-set_other m.tasks i j task resting ne) ∙ r.few j
        ];
      };
    }
  where
    wide : (at bit : ℕ) → length (with_bit (set ws.row (suc i) 258) at bit) ≡ width ws.workers ws.tasks
    wide at bit =
        length-set (set ws.row (suc i) 258) at (bit_or (get_or (set ws.row (suc i) 258) at 0) (2 ^ bit)) ∙ (length-set ws.row (suc i) 258 ∙ r.wide)

pub crowding_at : (ws new : WordRow) (n next later : ℕ) → IsCrowding ws n next → new ≡ ws → later ≡ next → IsCrowding new n later
crowding_at ws new n next later r words is =
    subst (λ (x : WordRow). IsCrowding x n later) (sym words) (subst (IsCrowding ws n) (sym is) r)

-- with these homes and holders the words stand for a state of few takes
pub crowding_stands : (ws : WordRow) (n next : ℕ) (homes holders : List ℕ) (nexts : List (List ℕ)) → IsCrowding ws n next → homes ≡ homes_of n → holders ≡ holders_of n → (m : State) × StandBetween ws homes holders nexts m × FewTakes homes m
crowding_stands ws n next homes holders nexts r own free =
    (r.state, subst (λ (hs : List ℕ). StandBetween ws hs holders nexts r.state) (sym own) (subst (λ (ks : List ℕ). StandBetween ws (homes_of n) ks nexts r.state) (sym free) (r.stands nexts)), λ i l shared lives. (let none = r.few i in omega arith))

pub crowded : (ws : WordRow) (n next : ℕ) (homes holders : List ℕ) (nexts : List (List ℕ)) (b : Laid) (passes : List (Option Held)) → IsCrowding ws n next → Opens ws homes holders nexts b passes → IsCrowd n b passes
crowded ws n next homes holders nexts b passes r o =
    let workers = r.workers in
    record { tasks = o.stands.count ∙ r.count; each = λ k l. o.each k (omega arith) }

-- ---- the passes of such a board

some_same : (a b : Held) → Some a ≡ Some b → a ≡ b
some_same a b e = cc

of_fresh : (b : Laid) (p : Held) (k : ℕ) → p ≡ fresh b k → IsPassOf b p
of_fresh b p k e =
    let there : IsPassOf b (fresh b k) = record { board = refl; start = refl } in subst (IsPassOf b) (sym e) there

pub crowd_pass : (n k : ℕ) (b : Laid) (all : List (Option Held)) (p : Held) → k ≤ 2 → IsCrowd n b all → Some p ≡ get_or all k None → IsPassOf b p
crowd_pass n k b all p l r e = of_fresh b p k (some_same p (fresh b k) (e ∙ r.each k l))

pub crowd_second : (n : ℕ) (b : Laid) (all ps : List (Option Held)) (p : Held) → IsCrowd n b all → ps ≡ set all 0 None → Some p ≡ get_or ps 1 None → IsPassOf b p
crowd_second n b all ps p r is e =
    crowd_pass n 1 b all p (omega arith) r (e ∙ (ap (λ (l : List (Option Held)). get_or l 1 None) is ∙ get_or-set_other all 0 1 None None (omega arith)))

-- ---- new lists are empty

pub blank_items : (n root : ℕ) → (get_or (replicate n blank) root blank).items ≡ []
blank_items n root = elim (cases_lt root n) [
  | inl lt ↦ ap (λ (l : KeyedList). l.items) (get_or-replicate n root blank blank lt)
  | inr le ↦ ap (λ (l : KeyedList). l.items) (get_or_past (replicate n blank) root blank (omega (arith, length-replicate n blank)))
]
