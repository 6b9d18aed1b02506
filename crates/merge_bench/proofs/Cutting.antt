-- A history that is cut into logs has a merge.
use Rattle.std.proofs.Common.{◌≡◌, ◌≢◌, ℕ, ◌+◌, ◌-◌, ◌^◌, ◌<◌, ◌≤◌, inl, inr, Bool, true, false, Option, Some, None, List, [], ◌∷◌, ◌++◌, length, get_or, take, refl, sym, ap, subst, ◌∙◌, arith, append-nil, replicate}
use Rattle.std.specs.Prelude.{MatchOption}
use Rattle.std.specs.Bool.{OnTrue}
use Rattle.std.proofs.lemmas.Bool.{cases_lt}
use Rattle.std.proofs.lemmas.List.{take_more, get_or-replicate, get_or_past, length-replicate}
use Rattle.task_machine.specs.declared.calls.Entry.{Entry}
use Rattle.task_machine.specs.Logged.{Logged}
use Rattle.task_machine.specs.Task.{resting}
use Rattle.task_machine.specs.Step.{State, task_at, Step, AllRoom}
use Rattle.task_machine.specs.History.{Legal, History, calls_of}
use Rattle.task_machine.proofs.After.{length-after}
use Rattle.task_machine.proofs.Takes.{TakesWithin-after, AllRoom-within}
use Rattle.task_machine.proofs.Histories.{History-append, History-step, calls_of-append}
use Rattle.history_weave.specs.Places.{log_at, no_log, entry_count}
use Rattle.history_weave.specs.Weaving.{HasMerge, HasTakesLeft, take_count}
use Rattle.history_weave.proofs.Futures.{whose}
use Rattle.history_weave.proofs.Sums.{log_at-past}
use Rattle.history_weave.proofs.Weaves.{merge-counts, takes_in-le, legal-callers}
use Rattle.merge_bench.specs.Histories.{TakenAtMost, AreCut}

-- one entry more of a list
take-on : (es : List Entry) (i : ℕ) (e : Entry) → i < length es → e ≡ get_or es i e → take (i + 1) es ≡ take i es ++ e ∷ []
take-on es i e lt is = take_more es i e lt ∙ ap (λ x. take i es ++ x ∷ []) (sym is)

pub history-on : (s mid new : State) (es : List Entry) (i : ℕ) (e : Entry) → i < length es → e ≡ get_or es i e → History s (take i es) mid → Step mid e new → History s (take (i + 1) es) new
history-on s mid new es i e lt is h step =
    subst (λ (l : List Entry). History s l new) (sym (take-on es i e lt is)) (History-append s mid new (take i es) (e ∷ []) h (History-step mid e new step))

-- one entry more in a log, or not
pub own-on : (k : ℕ) (es log new : List Entry) (i : ℕ) (e : Entry) → i < length es → e ≡ get_or es i e → e.caller.0 ≡ k → log ≡ calls_of k (take i es) → new ≡ log ++ e ∷ [] → new ≡ calls_of k (take (i + 1) es)
own-on k es log new i e lt is own h made =
    let one : calls_of k (e ∷ []) ≡ e ∷ [] =
    elim (whose k e []) [ inl mine ↦ mine.1 | inr others ↦ absurd (others.0 own) ] in
    made ∙ ap (λ l. l ++ e ∷ []) h ∙
    sym (ap (calls_of k) (take-on es i e lt is) ∙ calls_of-append k (take i es) (e ∷ []) ∙ ap (λ l. calls_of k (take i es) ++ l) one)

pub own-off : (k : ℕ) (es log : List Entry) (i : ℕ) (e : Entry) → i < length es → e ≡ get_or es i e → e.caller.0 ≢ k → log ≡ calls_of k (take i es) → log ≡ calls_of k (take (i + 1) es)
own-off k es log i e lt is ne h =
    let none : calls_of k (e ∷ []) ≡ [] =
    elim (whose k e []) [ inl mine ↦ absurd (ne mine.0) | inr others ↦ others.1 ] in
    h ∙
    sym (ap (calls_of k) (take-on es i e lt is) ∙ calls_of-append k (take i es) (e ∷ []) ∙ ap (λ l. calls_of k (take i es) ++ l) none ∙ append-nil (calls_of k (take i es)))

-- the logs of a history have a merge
pub HasMerge-cut : (s new : State) (es : List Entry) (logs : List Logged) → History s es new → AreCut logs (s.workers + 1) es → HasMerge s logs
HasMerge-cut s new es logs h cut = (
  es,
  (
    h.0,
    λ k. elim (cases_lt k (s.workers + 1)) [
      | inl lt ↦ sym (cut.own k lt)
      | inr past ↦ (let c = cut.count in legal-callers s es k h.0 past ∙ sym (log_at-past logs k (omega arith)))
    ],
  ),
)

pub count-cut : (s new : State) (es : List Entry) (logs : List Logged) → History s es new → AreCut logs (s.workers + 1) es → entry_count logs ≡ length es
unfolding HasMerge-cut
count-cut s new es logs h cut = sym (merge-counts s logs (HasMerge-cut s new es logs h cut) cut.count).0

pub takes-cut : (s new : State) (es : List Entry) (logs : List Logged) → History s es new → AreCut logs (s.workers + 1) es → TakenAtMost 0 s → length es < 2 ^ 48 - 1 → HasTakesLeft s logs
unfolding HasMerge-cut
takes-cut s new es logs h cut none few i =
    let counted = (merge-counts s logs (HasMerge-cut s new es logs h cut) cut.count).1 in
    let most = takes_in-le es in
    let zero = none i in omega arith

-- a call takes a task once at most, if it is allowed
pub taken-on : (old new : State) (o : Option Entry) → MatchOption o (new ≡ old) (λ e. Step old e new) → (n : ℕ) → TakenAtMost n old → TakenAtMost (n + 1) new
taken-on old new None same n h i = rw same (let t = h i in omega arith)
taken-on old new (Some e) step n h i = TakesWithin-after n old e new step h i

pub tasks-on : (old new : State) (o : Option Entry) → MatchOption o (new ≡ old) (λ e. Step old e new) → length new.tasks ≡ length old.tasks
tasks-on old new None same = ap (λ (s : State). length s.tasks) same
tasks-on old new (Some e) step = ap (λ (s : State). length s.tasks) step.state ∙ length-after old e.caller e.call

-- no task of a new machine was taken
pub taken-new : (n w : ℕ) → TakenAtMost 0 (record { workers = w; tasks = replicate n resting })
taken-new n w i =
    elim (cases_lt i n) [
      | inl lt ↦ rw (get_or-replicate n i resting resting lt) (omega arith)
      | inr past ↦ rw (get_or_past (replicate n resting) i resting (rw length-replicate past)) (omega arith)
    ]

pub on_true : (b : Bool) (P : Type 0) → b ≡ true → OnTrue b P → P
on_true true P e h = h
on_true false P e h = cc
