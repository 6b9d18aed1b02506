-- A step that changes the state of one task.
use Rattle.std.proofs.Common.{◌≡◌, ◌≢◌, ℕ, suc, ◌+◌, ◌*◌, ◌<◌, Bool, true, if◌then◌else◌, List, length, get_or, set, refl, sym, ap, subst, ◌∙◌, inl, inr, ⊎_elim, arith}
use Rattle.std.proofs.lemmas.Bool.{cases_eq}
use Rattle.std.proofs.lemmas.List.{get_or-set_same, get_or-set_other}
use Rattle.std.proofs.Math.ListN.{length-set}
use mathlib.Core.Option.{Option, some, some-injective}
use lib.ListN.{get_elem?}
use Rattle.atomic_table.proofs.Lists.{at_set, set_here, set_else}
use Rattle.sched_base.specs.declared.names.CallerId.{CallerId}
use Rattle.task_machine.specs.declared.task.Place.TheVariants as places
use Rattle.task_machine.specs.declared.task.TaskState.{TaskState}
use Rattle.task_machine.specs.declared.calls.Call.{Call}
use Rattle.task_machine.specs.Task.{is_boxed, seen_of}
use Rattle.task_machine.specs.Step.{State, task_at, subject, is_named, changed, after, bit, IsBox}
use Rattle.task_machine.proofs.About.{NoGet, is_about-subject, is_about-other}
use Rattle.task_machine.proofs.After.{task_at-after, subject-lt}
use Rattle.step_tables.specs.Nexts.{row_after}
use Rattle.task_word.specs.Word.{StandsFor}
use Rattle.wake_board.specs.declared.body.Body.{Body}
use Rattle.wake_board.specs.declared.views.Out.{Out}
use Rattle.wake_board.specs.declared.views.View.{View}
use Rattle.wake_board.specs.Rows.{box_at}
use Rattle.wake_board.specs.Start.{Start}
use Rattle.wake_board.proofs.Tables.{at_below}
use Rattle.wake_board.specs.Rule.{IsHomed, Worded, Leads, gain, IsOut, IsAway, Housed}

-- the state m' is m with task i as u
pub record OneTask (m m' : State) (i : ℕ) (u : TaskState) : Type 0 where
  pub here : task_at m' i ≡ u
  pub others : (j : ℕ) → j ≢ i → task_at m' j ≡ task_at m j

-- a call that names one task changes that one
pub one-after : (m : State) (k : CallerId) (c : Call) → NoGet c → is_named m k c ≡ true → OneTask m (after m k c) (subject c) (changed k c (task_at m (subject c)))
one-after m k c ng named =
    record {
      here = task_at-after m k c (subject c) (subject-lt m k c named) ∙ ap (λ (b : Bool). if b then changed k c (task_at m (subject c)) else task_at m (subject c)) (is_about-subject c ng);
      others = λ j ne. task_at-after m k c j (subject-lt m k c named) ∙ ap (λ (b : Bool). if b then changed k c (task_at m j) else task_at m j) (is_about-other j c ng ne);
    }

-- a fact of all tasks, after a change of one
pub each_task : (m m' : State) (i : ℕ) (u : TaskState) (P : ℕ → TaskState → Type 0) → OneTask m m' i u → P i u → ((j : ℕ) → j ≢ i → P j (task_at m j)) → (j : ℕ) → P j (task_at m' j)
each_task m m' i u P one here others j =
    elim (cases_eq j i) [
      | inl same ↦ subst (λ (n : ℕ). P n (task_at m' n)) (sym same) (subst (P i) (sym one.here) here)
      | inr ne ↦ subst (P j) (sym (one.others j ne)) (others j ne)
    ]

-- boxes that hold the same tasks have the same words
pub IsBox-same : (m m' : State) (b g n : ℕ) → ((j : ℕ) → is_boxed b (task_at m' j).place ≡ is_boxed b (task_at m j).place) → IsBox m b g n → IsBox m' b g n
IsBox-same m m' b g n same h = (h.0, λ j l. h.1 j l ∙ ap bit (sym (same (64 * g + j))))

box_apart : (n b g i : ℕ) → i < n → box_at n b g ≢ suc i
box_apart n b g i h e = omega arith

pub get_word-other : (words : List ℕ) (x j y : ℕ) → j ≢ x → get_or (set words x y) j 0 ≡ get_or words j 0
get_word-other words x j y ne = get_or-set_other words x j y 0 ne

-- a step on a task's word that leaves the task in the box where it is, if it is in one
pub worded-one : (o : Start) (words : List ℕ) (m m' : State) (i : ℕ) (u : TaskState) (y : ℕ) → Worded o words m → OneTask m m' i u → i < length o.state.tasks → StandsFor y (seen_of u) → ((b : ℕ) → is_boxed b u.place ≡ is_boxed b (task_at m i).place) → IsHomed o i u.place → Worded o (set words (suc i) y) m'
worded-one o words m m' i u y r one within stands boxed homed =
    let wide = r.wide in
    let row : List ℕ = set words (suc i) y in
    let room : suc i < length words = omega arith in
    record {
      wide = length-set words (suc i) y ∙ r.wide;
      tasks = λ j l. each_task m m' i u (λ k t. k < length o.state.tasks → StandsFor (get_or row (suc k) 0) (seen_of t)) one (λ _. subst (λ n. StandsFor n (seen_of u)) (sym (get_or-set_same words (suc i) y 0 room)) stands) (λ k ne l'. subst (λ n. StandsFor n (seen_of (task_at m k))) (sym (get_word-other words (suc i) (suc k) y (λ e. ne (omega arith)))) (r.tasks k l')) j l;
      boxes = λ b g lb lg. subst (λ n. IsBox m' b g n) (sym (get_word-other words (suc i) (box_at (length o.state.tasks) b g) y (box_apart (length o.state.tasks) b g i within))) (IsBox-same m m' b g (get_or words (box_at (length o.state.tasks) b g) 0) (λ j. each_task m m' i u (λ k t. is_boxed b t.place ≡ is_boxed b (task_at m k).place) one (boxed b) (λ k ne. refl) j) (r.boxes b g lb lg));
      homed = each_task m m' i u (λ k t. IsHomed o k t.place) one homed (λ k ne. r.homed k);
    }

-- nobody's lead of the task changes, and it is gone only where it was, and its takes stay
pub record SameLead (t u : TaskState) : Type 0 where
  pub leads : (owner : ℕ → ℕ) (p : ℕ) → Leads owner p t.place → Leads owner p u.place
  pub gained : gain u.place ≡ gain t.place
  pub takes : u.takes ≡ t.takes
  pub lives : u.place ≢ places.Gone → t.place ≢ places.Gone

pub same_lead : (t : TaskState) → SameLead t t
same_lead t = record { leads = λ owner p h. h; gained = refl; takes = refl; lives = λ h. h }

pub IsOut-same : (o : Start) (owner : ℕ → ℕ) (m m' : State) (homes : List (Option Body)) (p : ℕ) (x : Out) → ((j : ℕ) → SameLead (task_at m j) (task_at m' j)) → IsOut o owner m homes p x → IsOut o owner m' homes p x
IsOut-same o owner m m' homes p x same r =
    let s = same x.task in
    record {
      exists = r.exists;
      shared = r.shared;
      leads = s.leads owner p r.leads;
      takes = s.takes ∙ (r.takes ∙ ap (λ n. x.takes + n) (sym s.gained));
      away = r.away;
    }

-- a fact of each seat and a part of its view, after one view changed to another with the same part
pub each_part : {X : Type 0} (f : View → X) (P : ℕ → X → Type 0) (views : List View) (id : ℕ) (v w : View) → get_elem? views id ≡ some v → f w ≡ f v → ((p : ℕ) (u : View) → get_elem? views p ≡ some u → P p (f u)) → (p : ℕ) (u : View) → get_elem? (set views id w) p ≡ some u → P p (f u)
each_part f P views id v w at same h p u at' =
    elim (at_set views id p w u at') [
      | inl here ↦ subst (λ (n : ℕ). P n (f u)) (sym here.0) (subst (λ (z : View). P id (f z)) here.1 (subst (P id) (sym same) (h id v at)))
      | inr else' ↦ h p u else'.1
    ]

-- a view with the same bodies out
pub IsAway-set : (views : List View) (id : ℕ) (v w : View) (i : ℕ) → get_elem? views id ≡ some v → w.outs ≡ v.outs → IsAway views i → IsAway (set views id w) i
IsAway-set views id v w i at same (p, u, j, x, at', out, is) =
    elim (cases_eq p id) [
      | inl here ↦
          (let isv : u ≡ v = some-injective u v (sym (subst (λ (n : ℕ). get_elem? views n ≡ some u) here at') ∙ at) in
          let out' : get_elem? w.outs j ≡ some x = subst (λ (l : List Out). get_elem? l j ≡ some x) (sym same) (subst (λ (z : View). get_elem? z.outs j ≡ some x) isv out) in
          (id, w, j, x, set_here views id w (at_below views id v at), out', is))
      | inr ne ↦ (p, u, j, x, set_else views id p w ne ∙ at', out, is)
    ]

-- bodies stay where they are
pub housed-same : (o : Start) (owner : ℕ → ℕ) (m m' : State) (homes : List (Option Body)) (views : List View) (id : ℕ) (v w : View) → Housed o owner m homes views → ((j : ℕ) → SameLead (task_at m j) (task_at m' j)) → get_elem? views id ≡ some v → w.outs ≡ v.outs → Housed o owner m' homes (set views id w)
housed-same o owner m m' homes views id v w r same at outs =
    let out_view = each_part (λ (u : View). u.outs) (λ p l. (j : ℕ) (x : Out) → get_elem? l j ≡ some x → IsOut o owner m homes p x) views id v w at outs (λ p u a j x. r.outs p u j x a) in
    let apart_view = each_part (λ (u : View). u.outs) (λ p l. (i j : ℕ) (x y : Out) → get_elem? l i ≡ some x → get_elem? l j ≡ some y → x.task ≡ y.task → i ≡ j) views id v w at outs (λ p u a i j x y. r.apart p u i j x y a) in
    record {
      outs = λ p u j x a b. IsOut-same o owner m m' homes p x same (out_view p u a j x b);
      apart = λ p u i j x y a. apart_view p u a i j x y;
      bodies = λ i l shared lives. ⊎_elim (λ h. inl (h.0, h.1, (h.2.0 ∙ sym (same i).takes, h.2.1 ∙ ap (row_after o.nexts i) (sym (same i).takes)))) (λ a. inr (IsAway-set views id v w i at outs a)) (r.bodies i l shared ((same i).lives lives));
    }
