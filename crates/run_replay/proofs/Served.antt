-- Whether the shared box was served in a round, by what is counted and by who may still draw.
use Rattle.std.proofs.Common.{◌≡◌, ℕ, zero, suc, ◌+◌, ◌<◌, ◌||◌, ◌&&◌, ◌==◌, ◌⊎◌, Bool, true, false, not, None, List, length, refl, sym, ap, ◌∙◌, arith, subst, inl, inr, ne_eqb, eqb-true}
use Rattle.std.specs.List.{filter, list_all, range_with_len}
use Rattle.std.proofs.lemmas.Bool.{cases_Bool, and_parts}
use Rattle.step_tables.specs.declared.tables.Script.{Script}
use Rattle.task_machine.specs.declared.calls.Entry.{Entry}
use Rattle.task_machine.specs.Task.{is_boxed}
use Rattle.task_machine.specs.Step.{task_at}
use Rattle.run_model.specs.Standing.{was_drawn, draws_of, in_shared, is_served}
use Rattle.turn_steps.specs.Left.{asked, draws_now}
use Rattle.turn_steps.specs.Counts.{is_injectors}
use Rattle.standing.specs.Between.{entered}
use Rattle.standing.specs.Going.{IsDone}
use Rattle.standing.proofs.Ahead.{draws-going, idle-draws}
use Rattle.standing.proofs.Enter.{full-entered}
use Rattle.standing.proofs.Served.{unserved}
use Rattle.standing.proofs.Steps.{boxed-in}
use Rattle.run_replay.specs.Floors.{after_all, Making}
use Rattle.thread_loop.specs.Idle.{Opened}
use Rattle.run_replay.specs.SharedBoxes.{is_shared_at, waits, Counts}
use Rattle.run_replay.specs.declared.floor.Floor.{Floor}
use Rattle.run_replay.specs.declared.shared_box.SharedBox.{SharedBox}
use Rattle.run_replay.proofs.Making.{keeps-making}
use Rattle.run_replay.proofs.SharedBoxes.{tally-zero, tally-none}

-- where no call is asked, the draws made and those that may come are all draws
draws_left : (s : Script) (g : Opened) (es : List Entry) (floor : Floor) (k : ℕ) → Making s g es floor → k < s.workers → asked s ((after_all s g es).at k) ≡ None → draws_of k es + draws_now s ((after_all s g es).at k) ≡ s.depth
draws_left s g es floor k h lt quiet =
    let x = (after_all s g es).at k in
    let part : is_injectors x.left ≡ false = (keeps-making s g es floor h).part k (omega arith) ∙ ne_eqb k s.workers (omega arith) in
    let idle = idle-draws s x.left x.book quiet part in
    let all = draws-going s g.tick (entered s g.round g.tick g.old) es h.going k in
    let full = full-entered s g.round g.tick g.old k lt in
    omega arith

both_hold : (a b : Bool) → a ≡ true → b ≡ false → (a && not b) ≡ true
both_hold a b h k = rw (h, k) refl

-- served, where no task waits
pub served-empty : (s : Script) (g : Opened) (es : List Entry) (floor : Floor) (b : SharedBox) → Making s g es floor → Counts s g.round g.old.state floor.machine es b → b.waiting ≡ 0 → is_served s g.old.state es ≡ true
served-empty s g es floor b h counts none =
    elim (cases_Bool (is_served s g.old.state es)) [
      | inl served ↦ served
      | inr not_served ↦
          (let u = unserved s g.old.state es not_served in
          let there : u.task < length s.tasks = subst (λ (n : ℕ). u.task < n) h.firm.places.tasks (boxed-in g.old.state s.workers u.task u.boxed) in
          let fails = tally-zero (waits s g.old.state es) (length s.tasks) (sym counts.waiting ∙ none) u.task there in
          let holds = both_hold (is_shared_at s g.old.state u.task) (was_drawn u.task es) u.boxed u.waits in
          absurd (let is : true ≡ false = sym holds ∙ fails in cc))
    ]

-- or where no worker may draw
pub served-drawn : (s : Script) (g : Opened) (es : List Entry) (floor : Floor) → Making s g es floor → IsDone s (after_all s g es) → ((k : ℕ) → k < s.workers → draws_now s ((after_all s g es).at k) ≡ 0) → is_served s g.old.state es ≡ true
served-drawn s g es floor h done none =
    elim (cases_Bool (is_served s g.old.state es)) [
      | inl served ↦ served
      | inr not_served ↦
          (let u = unserved s g.old.state es not_served in
          let among = u.among in
          let all = draws_left s g es floor u.worker h u.among (done u.worker (omega arith)) in
          let zero_left = none u.worker u.among in
          absurd (u.fewer (omega arith)))
    ]

all_in : (f p : ℕ → Bool) (m n : ℕ) → list_all f (filter p (range_with_len m n)) ≡ true → (x : ℕ) → x < n → p (m + x) ≡ true → f (m + x) ≡ true
all_in f p m zero h x lt is = absurd (omega arith)
all_in f p m (suc n) h zero lt is =
    let same : m + 0 ≡ m = omega arith in
    let here : p m ≡ true = ap p (sym same) ∙ is in
    let both : (f m && list_all f (filter p (range_with_len (m + 1) n))) ≡ true = rw here at h in
    ap f same ∙ (and_parts (f m) (list_all f (filter p (range_with_len (m + 1) n))) both).0
all_in f p m (suc n) h (suc x) lt is =
    let same : m + suc x ≡ m + 1 + x = omega arith in
    let rest : list_all f (filter p (range_with_len (m + 1) n)) ≡ true = elim (cases_Bool (p m)) [
      | inl k ↦ (let both : (f m && list_all f (filter p (range_with_len (m + 1) n))) ≡ true = rw k at h in (and_parts (f m) (list_all f (filter p (range_with_len (m + 1) n))) both).1)
      | inr k ↦ (rw k at h)
    ] in
    ap f same ∙ all_in f p (m + 1) n rest x (omega arith) (ap p (sym same) ∙ is)

all_range : (f : ℕ → Bool) (m n : ℕ) → list_all f (range_with_len m n) ≡ true → (x : ℕ) → x < n → f (m + x) ≡ true
all_range f m zero h x lt = absurd (omega arith)
all_range f m (suc n) h zero lt =
    let same : m + 0 ≡ m = omega arith in
    ap f same ∙ (and_parts (f m) (list_all f (range_with_len (m + 1) n)) h).0
all_range f m (suc n) h (suc x) lt =
    let same : m + suc x ≡ m + 1 + x = omega arith in
    ap f same ∙ all_range f (m + 1) n (and_parts (f m) (list_all f (range_with_len (m + 1) n)) h).1 x (omega arith)

or_true : (a b : Bool) → (a || b) ≡ true → (a ≡ true) ⊎ (b ≡ true)
or_true true b h = inl refl
or_true false b h = inr h

waits_none : (a b : Bool) → (a ≡ true → b ≡ true) → (a && not b) ≡ false
waits_none true b h = rw (h refl) refl
waits_none false b h = refl

-- a box that was served has no task that waits, or no worker that may draw
pub served-parts : (s : Script) (g : Opened) (es : List Entry) (floor : Floor) (b : SharedBox) → Making s g es floor → Counts s g.round g.old.state floor.machine es b → IsDone s (after_all s g es) → is_served s g.old.state es ≡ true → (b.waiting ≡ 0) ⊎ ((k : ℕ) → k < s.workers → draws_now s ((after_all s g es).at k) ≡ 0)
served-parts s g es floor b h counts done served =
    let st = g.old.state in
    let tasks : length st.tasks ≡ length s.tasks = h.firm.places.tasks in
    elim (or_true (list_all (λ i. was_drawn i es) (in_shared s st)) (list_all (λ w. draws_of w es == s.depth) (range_with_len 0 s.workers)) served) [
      | inl all ↦ inl (counts.waiting ∙ tally-none (waits s st es) (length s.tasks) (λ i lt. waits_none (is_shared_at s st i) (was_drawn i es) (λ boxed.
          let first : 0 + i ≡ i = omega arith in
          ap (λ x. was_drawn x es) (sym first) ∙ all_in (λ x. was_drawn x es) (λ x. is_boxed s.workers (task_at st x).place) 0 (length st.tasks) all i (omega arith) (ap (λ x. is_boxed s.workers (task_at st x).place) first ∙ boxed))))
      | inr each ↦ inr (λ k lt.
          let first : 0 + k ≡ k = omega arith in
          let made : draws_of k es ≡ s.depth = eqb-true (draws_of k es) s.depth (ap (λ x. draws_of x es == s.depth) (sym first) ∙ all_range (λ w. draws_of w es == s.depth) 0 s.workers each k lt) in
          let all = draws_left s g es floor k h lt (done k (omega arith)) in
          omega arith)
    ]
