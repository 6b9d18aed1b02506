-- A step on a task's word: what is left to show for each call.
use Rattle.std.proofs.Common.{◌≡◌, ◌≢◌, ℕ, suc, ◌+◌, ◌<◌, true, List, [], ◌∷◌, length, get_or, set, refl, sym, ap, subst, ◌∙◌, inl, inr, ⊎_elim}
use Rattle.std.proofs.lemmas.Bool.{cases_eq}
use mathlib.Core.Option.{Option, some, some-injective}
use lib.ListN.{get_elem?}
use Rattle.atomic_table.specs.Table as table
use Rattle.sched_base.specs.declared.names.CallerId.{CallerId}
use Rattle.task_machine.specs.declared.task.Place.{Place}
use Rattle.task_machine.specs.declared.task.Place.TheVariants as places
use Rattle.task_machine.specs.declared.task.TaskState.{TaskState}
use Rattle.task_machine.specs.declared.calls.Call.{Call}
use Rattle.task_machine.specs.declared.calls.Reply.{Reply}
use Rattle.task_machine.specs.declared.calls.Reply.TheVariants as replies
use Rattle.task_machine.specs.declared.calls.Entry.{Entry}
use Rattle.task_machine.specs.Task.{is_boxed, seen_of}
use Rattle.task_machine.specs.Step.{State, task_at, subject, names, needs, Roomy, changed, IsReply, Allowed}
use Rattle.task_machine.specs.History.{stepped}
use Rattle.task_machine.specs.Own.{own_at, own_of}
use Rattle.task_machine.proofs.About.{NoGet}
use Rattle.task_machine.proofs.Own.{own-led}
use Rattle.task_word.specs.Word.{seen_in, StandsFor}
use Rattle.task_word.proofs.Words.{seen_in-stands}
use Rattle.wake_board.specs.declared.body.Body.{Body}
use Rattle.wake_board.specs.declared.views.Opening.{Opening}
use Rattle.wake_board.specs.declared.views.Out.{Out}
use Rattle.wake_board.specs.declared.views.View.{View}
use Rattle.step_tables.specs.Nexts.{row_after}
use Rattle.wake_board.specs.Start.{Start, start_of, start_in, IsShared}
use Rattle.wake_board.specs.Rule.{now_of, IsHomed, TakesAtHome, IsPaced, Leads, gain, IsOut, IsAway, Housed, IsKept}
use Rattle.wake_board.specs.Seen.{entry_by, own_log, logged, own_view}
use Rattle.wake_board.specs.Outs.{NoBody}
use Rattle.wake_board.proofs.Tasks.{OneTask, one-after, worded-one, each_part, IsAway-set}
use Rattle.wake_board.proofs.Moves.{own_first, kept-call}
use Rattle.wake_board.proofs.Wakes.{named-now}

-- what is to be shown of a call on its task's word n, which becomes y, while the task t becomes u
pub record LookStep (o : Start) (m : State) (k : CallerId) (c : Call) (t u : TaskState) (y : ℕ) : Type 0 where
  pub no_get : NoGet c
  pub named : names m k c ≡ true
  pub fit : needs m.workers k c t.place ≡ true
  pub room : Roomy c t
  pub reply : IsReply m k c (replies.Task (seen_of (task_at m (subject c))))
  pub change : changed k c t ≡ u
  pub stands : StandsFor y (seen_of u)
  pub boxed : (b : ℕ) → is_boxed b u.place ≡ is_boxed b t.place
  pub homed : IsHomed o (subject c) u.place
  pub home : TakesAtHome o k c

-- such a call is allowed, and keeps the rule where it keeps the bodies
pub look-kept : (o : Opening) (s : table.State Body View) (r : IsKept o s) (id : ℕ) (v : View) (c : Call) (u : TaskState) (y : ℕ) → get_elem? s.views id ≡ some v → v.logs ≡ own_log v.logs ∷ [] → subject c < length (start_of o).state.tasks
    → LookStep (start_of o) (now_of (start_of o) r.history) (record { 0 = v.first }) c (task_at (now_of (start_of o) r.history) (subject c)) u y
    → IsPaced (start_of o) (length (own_log v.logs)) c
    → (let m : State = now_of (start_of o) r.history in
    let e : Entry = entry_by v.first c (replies.Task (seen_in (get_or s.words (suc (subject c)) 0))) in
    (OneTask m (stepped m e) (subject c) u → Housed (start_of o) r.owner (stepped m e) s.homes (set s.views id (logged v e))) → Allowed m e × IsKept o (let x : table.State Body View = record { words = set s.words (suc (subject c)) y; homes = s.homes; views = set s.views id (logged v e) } in x))
look-kept o s r id v c u y at one within step pace housed =
    let k : CallerId = record { 0 = v.first } in
    let m : State = now_of (start_of o) r.history in
    let i : ℕ = subject c in
    let n : ℕ = get_or s.words (suc i) 0 in
    let a : Reply = replies.Task (seen_in n) in
    let e : Entry = entry_by v.first c a in
    let seen : seen_in n ≡ seen_of (task_at m i) = seen_in-stands n (seen_of (task_at m i)) (r.words.tasks i within) in
    let named = named-now o s r id v c at one within step.named in
    let allowed : Allowed m e = record { named = named; fit = step.fit; room = step.room; reply = subst (IsReply m k c) (sym (ap replies.Task seen)) step.reply } in
    let moved = one-after m k c step.no_get named in
    let one_task : OneTask m (stepped m e) i u = record { here = moved.here ∙ step.change; others = moved.others } in
    let worded = worded-one (start_of o) s.words m (stepped m e) i u y r.words one_task within step.stands step.boxed step.homed in
    (allowed, kept-call o s r id v e (set s.words (suc i) y) s.homes at one refl allowed step.home pace worded (housed one_task))

-- a task whose body is out with no seat may go on: bodies stay where they are
pub housed-free : (o : Start) (owner : ℕ → ℕ) (m m' : State) (homes : List (Option Body)) (views : List View) (id : ℕ) (v w : View) (i : ℕ) (u : TaskState) → Housed o owner m homes views → OneTask m m' i u → ((p : ℕ) (x : Out) → IsOut o owner m homes p x → (q : View) (j : ℕ) → get_elem? views p ≡ some q → get_elem? q.outs j ≡ some x → x.task ≢ i) → (IsShared o i → u.place ≢ places.Gone → ((task_at m i).place ≢ places.Gone) × (u.takes ≡ (task_at m i).takes)) → get_elem? views id ≡ some v → w.outs ≡ v.outs → Housed o owner m' homes (set views id w)
housed-free o owner m m' homes views id v w i u r one free kept at outs =
    let out_view = each_part (λ (q : View). q.outs) (λ p l. (j : ℕ) (x : Out) → get_elem? l j ≡ some x → IsOut o owner m homes p x × (x.task ≢ i)) views id v w at outs (λ p q a j x b. let is = r.outs p q j x a b in (is, free p x is q j a b)) in
    let apart_view = each_part (λ (q : View). q.outs) (λ p l. (j k : ℕ) (x y : Out) → get_elem? l j ≡ some x → get_elem? l k ≡ some y → x.task ≡ y.task → j ≡ k) views id v w at outs (λ p q a j k x y. r.apart p q j k x y a) in
    record {
      outs = λ p q j x a b.
          let is = out_view p q a j x b in
          let same : task_at m' x.task ≡ task_at m x.task = one.others x.task is.1 in
          record {
            exists = is.0.exists;
            shared = is.0.shared;
            leads = subst (λ (t : TaskState). Leads owner p t.place) (sym same) is.0.leads;
            takes = subst (λ (t : TaskState). t.takes ≡ x.takes + gain t.place) (sym same) is.0.takes;
            away = is.0.away;
          };
      apart = λ p q j k x y a. apart_view p q a j k x y;
      bodies = λ j l shared lives.
          let before : ((task_at m j).place ≢ places.Gone) × ((task_at m' j).takes ≡ (task_at m j).takes) = elim (cases_eq j i) [
            | inl same ↦
                (let shared' : IsShared o i = subst (IsShared o) same shared in
                let here : task_at m' j ≡ u = subst (λ (x : ℕ). task_at m' x ≡ u) (sym same) one.here in
                let lives' : u.place ≢ places.Gone = λ e. lives (ap (λ (t : TaskState). t.place) here ∙ e) in
                let old = kept shared' lives' in (
                  (λ e. old.0 (ap (λ (x : ℕ). (task_at m x).place) (sym same) ∙ e)),
                  ap (λ (t : TaskState). t.takes) here ∙ (old.1 ∙ ap (λ (x : ℕ). (task_at m x).takes) (sym same)),
                ))
            | inr ne ↦
                (let same = one.others j ne in
                ((λ e. lives (ap (λ (t : TaskState). t.place) same ∙ e)), ap (λ (t : TaskState). t.takes) same))
          ] in
          ⊎_elim (λ h. inl (h.0, h.1, (h.2.0 ∙ sym before.1, h.2.1 ∙ ap (row_after o.nexts j) (sym before.1)))) (λ a. inr (IsAway-set views id v w j at outs a)) (r.bodies j l shared before.0);
    }

-- a task whose body is out with the seat that leads it is taken: bodies stay where they are
pub housed-taken : (o : Start) (owner : ℕ → ℕ) (m m' : State) (homes : List (Option Body)) (views : List View) (id : ℕ) (v w : View) (i : ℕ) (u : TaskState) → Housed o owner m homes views → OneTask m m' i u → get_elem? views id ≡ some v → w.outs ≡ v.outs → IsAway views i → ((p : ℕ) → Leads owner p (task_at m i).place → Leads owner p u.place) → ((n : ℕ) → (task_at m i).takes ≡ n + gain (task_at m i).place → u.takes ≡ n + gain u.place) → Housed o owner m' homes (set views id w)
housed-taken o owner m m' homes views id v w i u r one at outs away leads grown =
    let out_view = each_part (λ (q : View). q.outs) (λ p l. (j : ℕ) (x : Out) → get_elem? l j ≡ some x → IsOut o owner m homes p x) views id v w at outs (λ p q a j x. r.outs p q j x a) in
    let apart_view = each_part (λ (q : View). q.outs) (λ p l. (j k : ℕ) (x y : Out) → get_elem? l j ≡ some x → get_elem? l k ≡ some y → x.task ≡ y.task → j ≡ k) views id v w at outs (λ p q a j k x y. r.apart p q j k x y a) in
    record {
      outs = λ p q j x a b.
          let is = out_view p q a j x b in
          elim (cases_eq x.task i) [
            | inl here ↦ record {
              exists = is.exists;
              shared = is.shared;
              leads = subst (λ (n : ℕ). Leads owner p (task_at m' n).place) (sym here) (subst (λ (t : TaskState). Leads owner p t.place) (sym one.here) (leads p (subst (λ (n : ℕ). Leads owner p (task_at m n).place) here is.leads)));
              takes = subst (λ (n : ℕ). (task_at m' n).takes ≡ x.takes + gain (task_at m' n).place) (sym here) (subst (λ (t : TaskState). t.takes ≡ x.takes + gain t.place) (sym one.here) (grown x.takes (subst (λ (n : ℕ). (task_at m n).takes ≡ x.takes + gain (task_at m n).place) here is.takes)));
              away = is.away;
            }
            | inr ne ↦ record {
              exists = is.exists;
              shared = is.shared;
              leads = subst (λ (t : TaskState). Leads owner p t.place) (sym (one.others x.task ne)) is.leads;
              takes = subst (λ (t : TaskState). t.takes ≡ x.takes + gain t.place) (sym (one.others x.task ne)) is.takes;
              away = is.away;
            }
          ];
      apart = λ p q j k x y a. apart_view p q a j k x y;
      bodies = λ j l shared lives.
          elim (cases_eq j i) [
            | inl here ↦ inr (subst (IsAway (set views id w)) (sym here) (IsAway-set views id v w i at outs away))
            | inr ne ↦
                (let same = one.others j ne in
                let takes : (task_at m' j).takes ≡ (task_at m j).takes = ap (λ (t : TaskState). t.takes) same in
                ⊎_elim (λ h. inl (h.0, h.1, (h.2.0 ∙ sym takes, h.2.1 ∙ ap (row_after o.nexts j) (sym takes)))) (λ a. inr (IsAway-set views id v w j at outs a)) (r.bodies j l shared (λ gone'. lives (ap (λ (t : TaskState). t.place) same ∙ gone'))))
          ];
    }

-- nobody leads a task in hands, and one that is led has its body out with its leader alone
pub free_hands : (o : Start) (owner : ℕ → ℕ) (m : State) (homes : List (Option Body)) (views : List View) (i : ℕ) (k : CallerId) → (task_at m i).place ≡ places.Hands k → (p : ℕ) (x : Out) → IsOut o owner m homes p x → (q : View) (j : ℕ) → get_elem? views p ≡ some q → get_elem? q.outs j ≡ some x → x.task ≢ i
free_hands o owner m homes views i k place p x is q j a b same =
    subst (λ (z : Place). Leads owner p z) (ap (λ (n : ℕ). (task_at m n).place) same ∙ place) is.leads

pub free_led : (o : Start) (owner : ℕ → ℕ) (m : State) (homes : List (Option Body)) (views : List View) (i : ℕ) (id : ℕ) (v : View) → get_elem? views id ≡ some v → ((p : ℕ) → Leads owner p (task_at m i).place → p ≡ id) → NoBody v.outs i → (p : ℕ) (x : Out) → IsOut o owner m homes p x → (q : View) (j : ℕ) → get_elem? views p ≡ some q → get_elem? q.outs j ≡ some x → x.task ≢ i
free_led o owner m homes views i id v at mine none_out p x is q j a b same =
    let here : p ≡ id = mine p (subst (λ (n : ℕ). Leads owner p (task_at m n).place) same is.leads) in
    let isv : q ≡ v = some-injective q v (sym (subst (λ (n : ℕ). get_elem? views n ≡ some q) here a) ∙ at) in
    none_out j x (subst (λ (z : View). get_elem? z.outs j ≡ some x) isv b) same

pub free_own : (o : Start) (owner : ℕ → ℕ) (m : State) (homes : List (Option Body)) (views : List View) (i : ℕ) → ¬ IsShared o i → (p : ℕ) (x : Out) → IsOut o owner m homes p x → (q : View) (j : ℕ) → get_elem? views p ≡ some q → get_elem? q.outs j ≡ some x → x.task ≢ i
free_own o owner m homes views i not_shared p x is q j a b same = not_shared (subst (IsShared o) same is.shared)

-- what the caller of a seat has of a task, in the state
pub own-now : (o : Opening) (s : table.State Body View) (r : IsKept o s) (id : ℕ) (v : View) (i : ℕ) → get_elem? s.views id ≡ some v → v.logs ≡ own_log v.logs ∷ [] → own_at v.first (task_at (now_of (start_of o) r.history) i).place ≡ own_view v i
own-now o s r id v i at one =
    let own = own_first o s r id v at one in
    own-led (start_of o).state r.history v.first i r.legal ∙ (ap (own_of i (own_at v.first (task_at (start_of o).state i).place)) own.2 ∙ ap (λ (x : Start). own_of i (own_at v.first (task_at x.state i).place) (own_log v.logs)) (ap start_in (sym own.3)))
