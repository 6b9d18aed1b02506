-- Who has which task in its hands between rounds.
use Rattle.std.proofs.Common.{◌≡◌, ◌≢◌, ℕ, suc, ◌+◌, ◌<◌, ◌≤◌, ◌==◌, true, false, Bool, if◌then◌else◌, List, length, get_or, Option, None, Some, refl, sym, ap, subst, ◌∙◌, inl, inr, arith, eq-eqb}
use Rattle.std.proofs.lemmas.Bool.{cases_eq, cases_lt}
use Rattle.std.proofs.lemmas.List.{get_or-map, get_or_past}
use Rattle.sched_base.specs.declared.names.CallerId.{CallerId}
use Rattle.step_tables.specs.declared.tables.Script.{Script}
use Rattle.step_tables.specs.declared.tables.TaskDef.{TaskDef}
use Rattle.task_machine.specs.declared.task.Place.{Place}
use Rattle.task_machine.specs.declared.task.Place.TheVariants as places
use Rattle.task_machine.specs.Own.{Own, away, holding, drawing, running, own_at}
use Rattle.task_machine.specs.Step.{task_at, bit}
use Rattle.run_model.specs.Standing.{Standing}
use Rattle.run_model.specs.Tables.{home_of, home_in, blank_task}
use Rattle.turn_steps.specs.Has.{caller}
use Rattle.standing.specs.Places.{held}
use Rattle.standing.specs.Firm.{Firm}
use Rattle.wake_board.specs.Start.{no_holder}
use Rattle.wake_board.specs.Between.{PlacedBy}
use Rattle.wake_board.specs.Seen.{Held}
use Rattle.wake_board.specs.Ends.{own_by, own_in, AreHolders}
use Rattle.thread_loop.specs.Boards.{in_hand}
use Rattle.thread_loop.specs.Holders.{holder_by}
use Rattle.thread_loop.specs.Plants.{homes_of}

-- the homes of the script's tasks, by number
pub home-in : (s : Script) (i : ℕ) → i < length s.tasks → get_or (homes_of s) i 0 ≡ home_of s i
home-in s i lt = get_or-map (λ (d : TaskDef). home_in s d.kind) s.tasks i blank_task 0 lt

held-hands : (st : Standing) (i : ℕ) (j : CallerId) → (task_at st.state i).place ≡ places.Hands j → held (caller j.0) st.state i ≡ 1
held-hands st i j at = ap (λ (p : Place). bit (in_hands_of j p)) at ∙ ap bit (eq-eqb j.0 j.0 refl)
  where
    in_hands_of : CallerId → Place → Bool
    in_hands_of j (places.Hands k) = j.0 == k.0
    in_hands_of j p = false

-- a task in a caller's hands between rounds is that worker's own
pub own-hands : (s : Script) (T limit : ℕ) (st : Standing) (i : ℕ) (j : CallerId) → Firm s T limit st → (task_at st.state i).place ≡ places.Hands j → j.0 ≤ s.workers → (home_of s i ≡ j.0) × (j.0 < s.workers)
own-hands s T limit st i j firm at le =
    let one = held-hands st i j at in
    elim (cases_lt j.0 s.workers) [
      | inl lt ↦ (let lists = firm.places.hands j.0 i lt in (firm.homes.lists j.0 i lt (omega arith), lt))
      | inr ge ↦
          (let same : s.workers ≡ j.0 = omega arith in
          let none : held (caller j.0) st.state i ≡ 0 = subst (λ (k : ℕ). held (caller k) st.state i ≡ 0) same (firm.places.free i) in
          absurd (omega arith))
    ]

-- the holder of a task of worker k, by what the worker has of it
holder_placed : (w k holder : ℕ) (p : Place) → PlacedBy w k holder p → ((j : CallerId) → p ≡ places.Hands j → j.0 ≤ w → k ≡ j.0) → holder ≡ holder_by k (own_at k p)
holder_placed w k holder places.Rest h own = h
holder_placed w k holder (places.Hands j) h own =
    let same : k ≡ j.0 = own j refl h.1 in
    let here : (j.0 == k) ≡ true = eq-eqb j.0 k (sym same) in
    h.0 ∙ sym same ∙ sym (ap (λ (b : Bool). holder_by k (if b then holding else away)) here)
holder_placed w k holder (places.Boxed b) h own = h.0
holder_placed w k holder (places.Drawn j) h own = absurd h
holder_placed w k holder (places.Runs j) h own = absurd h
holder_placed w k holder places.Gone h own = h

pub holder-placed : (s : Script) (T limit : ℕ) (st : Standing) (w k i holder : ℕ) → Firm s T limit st → w ≡ s.workers → home_of s i ≡ k → PlacedBy w k holder (task_at st.state i).place → holder ≡ holder_by k (own_at k (task_at st.state i).place)
holder-placed s T limit st w k i holder firm same home placed =
    holder_placed w k holder (task_at st.state i).place placed (λ j at le. sym home ∙ (own-hands s T limit st i j firm at (omega arith)).0)

-- nobody holds a shared task between rounds
nobody_placed : (w home holder : ℕ) (p : Place) → PlacedBy w home holder p → ((j : CallerId) → p ≡ places.Hands j → j.0 ≤ w → ⊥) → holder ≡ no_holder
nobody_placed w home holder places.Rest h own = h
nobody_placed w home holder (places.Hands j) h own = absurd (own j refl h.1)
nobody_placed w home holder (places.Boxed b) h own = h.0
nobody_placed w home holder (places.Drawn j) h own = absurd h
nobody_placed w home holder (places.Runs j) h own = absurd h
nobody_placed w home holder places.Gone h own = h

pub shared-placed : (s : Script) (T limit : ℕ) (st : Standing) (w i holder : ℕ) → Firm s T limit st → w ≡ s.workers → home_of s i ≡ s.workers → PlacedBy w s.workers holder (task_at st.state i).place → holder ≡ no_holder
shared-placed s T limit st w i holder firm same home placed =
    nobody_placed w s.workers holder (task_at st.state i).place placed (λ j at le. let own = own-hands s T limit st i j firm at (omega arith) in let far = own.1 in let at_home = own.0 in omega arith)

-- what a holder tells
pub holds_holding : (k : ℕ) (o : Own) → o ≡ holding → holder_by k o ≡ k
holds_holding k o e = ap (holder_by k) e

pub holds_none : (k : ℕ) (o : Own) → o ≢ holding → holder_by k o ≡ no_holder
holds_none k away ne = refl
holds_none k holding ne = absurd (ne refl)
holds_none k drawing ne = refl
holds_none k running ne = refl

in_hand-holding : (o : Own) → o ≡ holding → in_hand o ≡ 1
in_hand-holding o e = ap in_hand e

not_away : away ≢ holding
not_away e = cc

-- the holders are the hands of the passes, where each caller's own tasks have it as their holder just where it has them
-- in its hands, and each caller's hands are its own tasks
pub holders-are : (s : Script) (n : ℕ) (passes : List (Option Held)) (holders : List ℕ) → n ≡ length s.tasks → length passes ≡ suc s.workers → ((i : ℕ) → home_of s i < s.workers + 1) → ((k : ℕ) → k < s.workers → (q : Held) × (get_or passes k None ≡ Some q) × ((i : ℕ) → own_by q i ≡ holding → home_of s i ≡ k) × ((i : ℕ) → i < n → home_of s i ≡ k → get_or holders i 0 ≡ holder_by k (own_by q i))) → ((q : Held) × (get_or passes s.workers None ≡ Some q) × ((i : ℕ) → own_by q i ≡ away)) → ((i : ℕ) → i < n → home_of s i ≡ s.workers → get_or holders i 0 ≡ no_holder) → AreHolders n passes holders
holders-are s n passes holders size count homes workers injector shared = record {
  held = λ i k lt has. elim (cases_lt k s.workers) [
    | inl less ↦
        (let w = workers k less in
        let own : own_by w.0 i ≡ holding = sym (ap (λ (p : Option Held). own_in p i) w.1) ∙ has in
        w.3 i lt (w.2 i own) ∙ holds_holding k (own_by w.0 i) own)
    | inr ge ↦ absurd (not_away (sym (far k i ge) ∙ has))
  ];
  free = λ i lt none. elim (cases_lt (home_of s i) s.workers) [
    | inl less ↦
        (let k = home_of s i in
        let w = workers k less in
        let ne : own_by w.0 i ≢ holding = λ e. none k (ap (λ (p : Option Held). own_in p i) w.1 ∙ e) in
        w.3 i lt refl ∙ holds_none k (own_by w.0 i) ne)
    | inr ge ↦ (let below = homes i in shared i lt (omega arith))
  ];
}
  where
    far : (k i : ℕ) → s.workers ≤ k → own_in (get_or passes k None) i ≡ away
    far k i ge = elim (cases_eq k s.workers) [
      | inl same ↦ rw same (ap (λ (p : Option Held). own_in p i) injector.1 ∙ injector.2 i)
      | inr ne ↦ ap (λ (p : Option Held). own_in p i) (get_or_past passes k None (omega arith))
    ]
