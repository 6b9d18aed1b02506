-- A round made whole: its logs have a legal merge, which is a lawful round.
use Rattle.std.proofs.Common.{◌≡◌, ℕ, suc, ◌+◌, ◌^◌, ◌<◌, ◌≤◌, List, [], ◌∷◌, ◌++◌, length, refl, sym, ap, subst, ◌∙◌, arith}
use Rattle.std.specs.List.{flat_map, range_with_len}
use Rattle.std.proofs.lemmas.List.Sums.{sum_by-cons}
use Rattle.step_tables.specs.declared.tables.Script.{Script}
use Rattle.task_machine.specs.declared.calls.Call.{Call}
use Rattle.task_machine.specs.declared.calls.Call.TheVariants as calls
use Rattle.task_machine.specs.declared.calls.Entry.{Entry}
use Rattle.task_machine.specs.Logged.{Logged}
use Rattle.task_machine.specs.Step.{State, task_at}
use Rattle.task_machine.specs.History.{IsMerge, calls_of}
use Rattle.run_model.specs.Lawful.{RoundOf}
use Rattle.run_model.specs.Standing.{Standing}
use Rattle.history_weave.specs.Places.{log_at, entry_count}
use Rattle.history_weave.specs.Weaving.{HasMerge, HasTakesLeft, take_of, takes_in, take_count}
use Rattle.thread_loop.specs.Crews.{kept, kept_logs, kept_calls}
use Rattle.thread_loop.specs.Plants.{IsReady, HasEnded, next_round, standing_of}
use Rattle.thread_loop.specs.Mergers.{IsMade}
use Rattle.thread_loop.specs.declared.crew.Kept.{Kept}
use Rattle.thread_loop.specs.declared.plant.Plant.{Plant}
use Rattle.thread_loop.proofs.Running.{few_takes}

-- ---- no task is taken too often

one_take : (c : Call) → take_of c ≤ 1
one_take (calls.Take i) = omega arith
one_take (calls.Wake i f) = omega arith
one_take (calls.Kill i) = omega arith
one_take (calls.Post i b) = omega arith
one_take (calls.Get g) = omega arith
one_take (calls.Draw i) = omega arith
one_take (calls.DropRun i) = omega arith
one_take (calls.Retire i) = omega arith

takes-most : (es : List Entry) → takes_in es ≤ length es
takes-most [] = omega arith
takes-most (e ∷ es) = let here = one_take e.call in let later = takes-most es in omega arith

takes-few : (logs : List Logged) → take_count logs ≤ entry_count logs
takes-few [] = omega arith
takes-few (l ∷ ls) =
    let here = takes-most l.entries in
    let later = takes-few ls in
    omega (arith, sum_by-cons (λ (x : Logged). takes_in x.entries) l ls, sum_by-cons (λ (x : Logged). length x.entries) l ls)

pub takes-left : (s : Script) (r : ℕ) (p : Plant) (m : State) (logs : List Logged) → IsReady s r p → r < s.rounds → m ≡ (standing_of p).state → entry_count logs < 2 ^ 32 → HasTakesLeft m logs
takes-left s r p m logs ready more same few i =
    let before = few_takes s r i p ready more in
    let most = takes-few logs in
    let at : (task_at m i).takes ≡ (task_at (standing_of p).state i).takes = ap (λ (x : State). (task_at x i).takes) same in
    omega arith

-- ---- what the crew tells

kept-from : (r k : ℕ) (logs : List Logged) (es : List Entry) → ((i : ℕ) → i < length logs → calls_of (k + i) es ≡ log_at logs i) → flat_map (λ (log : Logged). kept r log.entries) logs ≡ flat_map (λ (j : ℕ). kept r (calls_of j es)) (range_with_len k (length logs))
kept-from r k [] es h = refl
kept-from r k (l ∷ ls) es h =
    let none : k + 0 ≡ k = omega arith in
    let here : calls_of k es ≡ l.entries = ap (λ (j : ℕ). calls_of j es) (sym none) ∙ h 0 (omega arith) in
    let later = kept-from r (k + 1) ls es (λ i lt. let next : k + 1 + i ≡ k + suc i = omega arith in ap (λ (j : ℕ). calls_of j es) next ∙ h (suc i) (omega arith)) in
    ap (λ (xs : List Entry). kept r xs ++ flat_map (λ (log : Logged). kept r log.entries) ls) (sym here) ∙ ap (λ (ks : List Kept). kept r (calls_of k es) ++ ks) later

pub kept-merged : (s : Script) (r w : ℕ) (m : State) (logs : List Logged) (es : List Entry) → length logs ≡ suc w → IsMerge m (log_at logs) es → kept_logs r logs ≡ kept_calls r (suc w) es
kept-merged s r w m logs es count merge =
    kept-from r 0 logs es (λ i lt. let none : 0 + i ≡ i = omega arith in ap (λ (j : ℕ). calls_of j es) none ∙ merge.1 i) ∙ ap (λ (n : ℕ). flat_map (λ (j : ℕ). kept r (calls_of j es)) (range_with_len 0 n)) count

-- ---- the round

lawful : (s : Script) (r : ℕ) (p0 p1 p3 : Plant) → HasEnded s (next_round r p1) p3 → standing_of p1 ≡ standing_of p0 → p1.tick ≡ p0.tick → (es : List Entry) → IsMerge (standing_of p0).state (log_at p3.logs.items) es → RoundOf s r p0.tick (standing_of p0) (record { tick = p0.tick; entries = es }) (standing_of p3)
lawful s r p0 p1 p3 ended same tick es merge =
    let back = subst (λ (st : Standing). IsMerge st.state (log_at p3.logs.items) es) (sym same) merge in
    subst (λ (T : ℕ). RoundOf s r T (standing_of p0) (record { tick = T; entries = es }) (standing_of p3)) tick (subst (λ (st : Standing). RoundOf s r p1.tick st (record { tick = p1.tick; entries = es }) (standing_of p3)) same (ended.round es back))

pub made : (s : Script) (r : ℕ) (p0 p1 p3 : Plant) → IsReady s r p0 → r < s.rounds → HasEnded s (next_round r p1) p3 → standing_of p1 ≡ standing_of p0 → p1.tick ≡ p0.tick → IsMade s r p0.tick (standing_of p0) p3.logs.items (standing_of p3)
made s r p0 p1 p3 ready more ended same tick = record {
  count = ended.ready.holds.logs;
  few = ended.few;
  takes_left = takes-left s r p0 (standing_of p0).state p3.logs.items ready more refl ended.few;
  merge = subst (λ (st : Standing). HasMerge st.state p3.logs.items) same ended.merge;
  round = lawful s r p0 p1 p3 ended same tick;
}

-- other logs, for as many callers, change nothing of where the plant stands
pub ready-swapped : (s : Script) (r : ℕ) (p q : Plant) → q ≡ record p { logs = q.logs } → length q.logs.items ≡ suc s.workers → IsReady s r p → IsReady s r q
unfolding standing_of
ready-swapped s r p q same count ready = subst (λ (x : Plant). IsReady s r x) (sym same) (record {
  sound = ready.sound;
  holds = record {
    stands = ready.holds.stands;
    homes = ready.holds.homes;
    nexts = ready.holds.nexts;
    count = ready.holds.count;
    logs = count;
    holders = ready.holds.holders;
    queue = ready.holds.queue;
  };
  firm = ready.firm;
  idle = ready.idle;
  ended = ready.ended;
  ran = ready.ran;
})
