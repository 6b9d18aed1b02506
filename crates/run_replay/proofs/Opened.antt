-- A watcher before the first line.
use Rattle.std.proofs.Common.{◌≡◌, ℕ, zero, suc, ◌*◌, ◌<◌, None, IsTrue, List, length, map, drop, replicate, get_or, refl, sym, ap, ◌∙◌, arith, subst}
use Rattle.std.proofs.lemmas.List.{length-replicate}
use Rattle.step_tables.specs.declared.tables.Script.{Script}
use Rattle.step_tables.specs.Sound.{is_sound}
use Rattle.task_machine.specs.Step.{State, task_at}
use Rattle.run_model.specs.Book.{Book}
use Rattle.run_model.specs.Standing.{Standing, opening}
use Rattle.run_model.specs.Tables.{row_number, actions_in}
use Rattle.standing.specs.Between.{round_takes}
use Rattle.standing.specs.Firm.{Firm}
use Rattle.standing.proofs.Firm.{firm-opening}
use Rattle.standing.proofs.Limits.{takes-sound}
use Rattle.standing.proofs.Opening.{KeepsBetween-opening}
use Rattle.fronts.specs.Lines.{begins}
use Rattle.thread_loop.specs.Idle.{book_now, IsIdle}
use Rattle.thread_loop.specs.declared.worker.Worker.{Worker}
use Rattle.run_replay.specs.Floors.{KnowsRows}
use Rattle.run_replay.specs.Injections.{actions_of}
use Rattle.run_replay.specs.SharedBoxes.{CountsBetween}
use Rattle.run_replay.specs.Watching.{IsAt, standing_of}
use Rattle.run_replay.specs.declared.injection.Injection.{Injection}
use Rattle.run_replay.specs.declared.watcher.Position.TheVariants as position
use Rattle.run_replay.specs.declared.watcher.Watcher.{Watcher}
use Rattle.run_replay.proofs.Injections.{events-first}
use Rattle.run_replay.proofs.Watching.{stands-begins}

no_takes : (s : Script) (i : ℕ) → (task_at (opening s).state i).takes ≡ 0
no_takes s i = (let most = (KeepsBetween-opening s).takes i in omega arith)

knows_first : (s : Script) (state : State) (rows : List ℕ) → state ≡ (opening s).state → rows ≡ replicate (length s.tasks) 0 → KnowsRows s state rows
knows_first s state rows e f = record {
  count = ap length f ∙ length-replicate (length s.tasks) 0;
  known = λ i live. ap (λ rows. row_in rows i) f ∙ zeros (length s.tasks) i ∙ sym (ap (λ t. row_number s i t) (ap (λ st. (task_at st i).takes) e ∙ no_takes s i));
}
  where
    row_in : List ℕ → ℕ → ℕ
    row_in rows i = get_or rows i 0

    zeros : (n i : ℕ) → row_in (replicate n 0) i ≡ 0
    zeros zero i = refl
    zeros (suc n) zero = refl
    zeros (suc n) (suc i) = zeros n i

same_standing : (s : Script) (state : State) (books : List Book) → state ≡ (opening s).state → books ≡ (opening s).books → record { state = state; books = books } ≡ opening s
same_standing s state books e f =
    let front : record { state = state; books = books } ≡ record { state = (opening s).state; books = books } = ap (λ (m : State). record { state = m; books = books }) e in
    front ∙ ap (λ (bs : List Book). record { state = (opening s).state; books = bs }) f

pub begins-first : (s : Script) (w : Watcher) → IsTrue (is_sound s) → w.position ≡ position.Start → w.floor.machine ≡ (opening s).state → w.floor.rows.items ≡ replicate (length s.tasks) 0 → length w.workers.items ≡ s.workers → map book_now w.workers.items ≡ (opening s).books → ((k : ℕ) (d : Worker) → k < s.workers → IsIdle s 0 k (opening s).state (get_or w.workers.items k d)) → w.injection ≡ record { next = 0; held = None } → CountsBetween s 0 w.floor.machine w.shared → IsAt s begins w
begins-first s w sound start machine rows count books idle injection counts =
    let standing : standing_of w ≡ opening s = same_standing s w.floor.machine (map book_now w.workers.items) machine books in
    let next : w.injection.next ≡ 0 = ap (λ (i : Injection). i.next) injection in
    let none : 0 ≡ 0 * round_takes s = omega arith in
    stands-begins s w start standing (record {
      sound = sound;
      round = (takes-sound s sound).0;
      firm = subst (λ (st : Standing). Firm s s.start (0 * round_takes s) st) (sym standing) (subst (λ (n : ℕ). Firm s s.start n (opening s)) none (firm-opening s sound));
      count = count;
      idle = λ k d lt. subst (λ (m : State). IsIdle s 0 k m (get_or w.workers.items k d)) (sym machine) (idle k d lt);
      rows = knows_first s w.floor.machine w.floor.rows.items machine rows;
      injection = events-first s w.injection sound next;
      now = all_left s w.injection.next next;
      held = ap (λ (i : Injection). i.held) injection;
      shared = counts;
    })
  where
    all_left : (s : Script) (n : ℕ) → n ≡ 0 → actions_in s 0 ≡ actions_of 0 (drop n s.events)
    all_left s n e = ap (λ m. actions_of 0 (drop m s.events)) (sym e)
