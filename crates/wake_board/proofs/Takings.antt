-- What a pass knows of a task that it may take.
use Rattle.std.proofs.Common.{◌≡◌, ◌≢◌, ℕ, suc, ◌+◌, ◌-◌, ◌^◌, ◌<◌, List, [], ◌∷◌, length, get_or, set, refl, sym, ap, subst, ◌∙◌, inl, inr, arith}
use Rattle.std.proofs.lemmas.List.{set-get_or}
use mathlib.Core.Option.{some, none}
use lib.ListN.{get_elem?}
use Rattle.atomic_table.specs.Table as table
use Rattle.atomic_table.specs.Seated.{TableId}
use Rattle.atomic_table.proofs.Lists.{set_again}
use Rattle.task_machine.specs.declared.task.Place.{Place}
use Rattle.task_machine.specs.declared.task.Place.TheVariants as places
use Rattle.task_machine.specs.declared.task.Stand.TheVariants as stands
use Rattle.task_machine.specs.declared.task.TaskState.{TaskState}
use Rattle.task_machine.specs.Task.{seen_at}
use Rattle.task_machine.specs.Step.{task_at}
use Rattle.task_word.specs.Word.{StandsFor, word_takes, taken_word}
use Rattle.task_word.proofs.Words.{word_takes-stands}
use Rattle.wake_board.specs.declared.body.Body.{Body}
use Rattle.wake_board.specs.declared.views.Opening.{Opening}
use Rattle.wake_board.specs.declared.views.View.{View}
use Rattle.wake_board.specs.Start.{Start, start_of, start_in, home_of}
use Rattle.wake_board.specs.Rule.{now_of, IsKept}
use Rattle.wake_board.specs.Seen.{own_log, TellsTake}
use Rattle.wake_board.specs.Own.{known_takes, held_by, IsPass}
use Rattle.wake_board.specs.Bodies.{MayTakeOwn, MayTake, TellsLook}
use Rattle.wake_board.proofs.Moves.{own_first}
use Rattle.wake_board.proofs.Runs.{held-now, drawn-now, takes_own_on, takes_drawn_on}

-- what a pass may take, by the number of its seat
pub by_number : (board : TableId) (who : ℕ) (me : table.Me Body View) (i t : ℕ) → IsPass who me → MayTake (held_by board who me.0) i t → MayTake (held_by board me.0.first me.0) i t
by_number board who me i t r may = subst (λ (n : ℕ). MayTake (held_by board n me.0) i t) (sym r.number) may

-- an own task that a pass may take, by the opening
record IsOwnTask (o : Start) (v : View) (i t : ℕ) : Type 0 where
  home : home_of o i ≡ v.first
  worker : v.first < o.state.workers
  known : t ≡ known_takes o (own_log v.logs) i

own_at_opening : (o : Start) (board : TableId) (v : View) (i t : ℕ) → start_in v.start ≡ o → MayTakeOwn (held_by board v.first v) i t → IsOwnTask o v i t
own_at_opening o board v i t start m =
    subst (λ (q : Start). IsOwnTask q v i t) start (record { home = m.home; worker = m.worker; known = sym m.known })

-- a task that a pass may take has the takes that the pass knows
takes-now : (o : Opening) (s : table.State Body View) (r : IsKept o s) (id : ℕ) (board : TableId) (v : View) (i t : ℕ) → get_elem? s.views id ≡ some v → v.logs ≡ own_log v.logs ∷ [] → MayTake (held_by board v.first v) i t → ((task_at (now_of (start_of o) r.history) i).place ≢ places.Gone) × ((task_at (now_of (start_of o) r.history) i).takes ≡ t)
takes-now o s r id board v i t at one (inl m) =
    let own = own_at_opening (start_of o) board v i t (ap start_in (own_first o s r id v at one).3) m in
    let here = held-now o s r id v i t at one m.held own.home own.worker own.known in
    ((λ gone'. (let z = sym here.0 ∙ gone' in cc)), here.1)
takes-now o s r id board v i t at one (inr m) =
    let here = drawn-now o s r id v i t at one m.drawn m.out in
    ((λ gone'. (let z = sym here.0 ∙ gone' in cc)), here.1)

-- and its word has them
word_takes-at : (p : Place) (t : TaskState) (n : ℕ) → p ≢ places.Gone → StandsFor n (seen_at p t) → word_takes n ≡ t.takes
word_takes-at places.Rest t n lives h = word_takes-stands n stands.Rest t.pending t.takes t.killed h
word_takes-at (places.Hands k) t n lives h = word_takes-stands n stands.Queued t.pending t.takes t.killed h
word_takes-at (places.Boxed b) t n lives h = word_takes-stands n stands.Queued t.pending t.takes t.killed h
word_takes-at (places.Drawn k) t n lives h = word_takes-stands n stands.Queued t.pending t.takes t.killed h
word_takes-at (places.Runs k) t n lives h = word_takes-stands n stands.Runs t.pending t.takes t.killed h
word_takes-at places.Gone t n lives h = absurd (lives refl)

looks_at : (o : Opening) (slots id : ℕ) (me : table.Me Body View) (i : ℕ) → me.0.logs ≡ own_log me.0.logs ∷ [] → i < length (start_of o).state.tasks → table.Allows (IsKept o) slots id me (suc i) (λ n. n) (TellsLook (table.step slots (suc i) 0 0 none) me)
looks_at o slots id me i one within s r sized at wide =
    let n : ℕ = get_or s.words (suc i) 0 in
    let words : set s.words (suc i) n ≡ s.words = set-get_or s.words (suc i) 0 in
    let views : set s.views id me.0 ≡ s.views = set_again s.views id me.0 at in
    let K : List ℕ → List View → Type 0 = λ ws vs. IsKept o (let x : table.State Body View = record { words = ws; homes = s.homes; views = vs } in x) in (
      me.0,
      table.keeps,
      tt,
      subst (λ (ws : List ℕ). K ws (set s.views id me.0)) (sym words) (subst (K s.words) (sym views) r),
      record {
        seat = refl;
        takes = λ board j t word may.
            let same : i ≡ j = omega arith in
            let known = takes-now o s r id board me.0 j t at one may in
            let t' : TaskState = task_at (now_of (start_of o) r.history) j in
            word_takes-at t'.place t' n known.0 (subst (λ (q : ℕ). StandsFor n (seen_at (task_at (now_of (start_of o) r.history) q).place (task_at (now_of (start_of o) r.history) q))) same (r.words.tasks i within)) ∙ known.1;
      },
    )

-- a look at a task's word is allowed
pub looks_on : (o : Opening) (slots id : ℕ) (me : table.Me Body View) (i x : ℕ) → me.0.logs ≡ own_log me.0.logs ∷ [] → i < length (start_of o).state.tasks → x ≡ i + 1 → table.Allows (IsKept o) slots id me x (λ n. n) (TellsLook (table.step slots x 0 0 none) me)
looks_on o slots id me i x one within place =
    let at : x ≡ suc i = omega arith in
    subst (λ (y : ℕ). table.Allows (IsKept o) slots id me y (λ n. n) (TellsLook (table.step slots y 0 0 none) me)) (sym at) (looks_at o slots id me i one within)

-- and so is the step of a take
pub may_take : (o : Opening) (slots id : ℕ) (board : TableId) (me : table.Me Body View) (i x t word : ℕ) → me.0.logs ≡ own_log me.0.logs ∷ [] → start_in me.0.start ≡ start_of o → i < length (start_of o).state.tasks → MayTake (held_by board me.0.first me.0) i t → t < 2 ^ 48 - 1 → x ≡ i + 1 → word ≡ taken_word t → table.Allows (IsKept o) slots id me x (λ n. word) (TellsTake (table.step slots x word 0 none) me)
may_take o slots id board me i x t word one start within (inl m) small place is =
    let own = own_at_opening (start_of o) board me.0 i t start m in
    takes_own_on o slots id me i x t word one within m.held own.home own.worker own.known small place is
may_take o slots id board me i x t word one start within (inr m) small place is =
    takes_drawn_on o slots id me i x t word one within m.drawn m.out m.early small place is
