-- Each legal merge of the calls of a round is a lawful round.
use Rattle.std.proofs.Common.{◌≡◌, ◌≢◌, ℕ, zero, suc, ◌+◌, ◌<◌, ◌||◌, true, false, Bool, nat_le, List, [], ◌∷◌, length, get_or, refl, sym, ap, subst, ◌∙◌, inl, inr, arith, eq-eqb, ne_eqb}
use Rattle.std.specs.List.{list_all}
use Rattle.std.proofs.lemmas.Bool.{cases_eq, cases_lt, and_from, le-leb}
use Rattle.std.proofs.lemmas.List.{append-nil}
use mathlib.Core.Option.{some, some-injective, some-ne-none}
use lib.ListN.{get_elem?}
use Rattle.step_tables.specs.declared.tables.Script.{Script}
use Rattle.task_machine.specs.declared.task.Place.{Place}
use Rattle.task_machine.specs.declared.task.Place.TheVariants as places
use Rattle.task_machine.specs.declared.calls.Call.{Call}
use Rattle.task_machine.specs.declared.calls.Call.TheVariants as calls
use Rattle.task_machine.specs.declared.calls.Entry.{Entry}
use Rattle.task_machine.specs.Task.{is_boxed}
use Rattle.task_machine.specs.Step.{State}
use Rattle.task_machine.specs.History.{calls_of, IsMerge, led}
use Rattle.run_model.specs.Book.{Book}
use Rattle.run_model.specs.Lawful.{Injects, RoundOf, Turns}
use Rattle.run_model.specs.Standing.{Standing, book_at, blank_book, turn_ended, was_drawn, is_draw_of, is_served}
use Rattle.run_model.specs.Turn.{Turn}
use Rattle.turn_steps.specs.Has.{caller}
use Rattle.standing.proofs.Merge.{own_calls, other_calls}
use Rattle.wake_board.specs.Rule.{IsDraw, HasDraw}

-- entries of callers up to w
pub callers-none : (w : ℕ) (es : List Entry) → ((k : ℕ) → w < k → calls_of k es ≡ []) → list_all (λ e. nat_le e.caller.0 w) es ≡ true
callers-none w [] h = refl
callers-none w (e ∷ es) h =
    elim (cases_lt w e.caller.0) [
      | inl lt ↦ (let none = h e.caller.0 lt in let some_call = own_calls e es in absurd (cons_nil e (calls_of e.caller.0 es) (sym some_call ∙ none)))
      | inr le ↦ and_from (nat_le e.caller.0 w) (list_all (λ x. nat_le x.caller.0 w) es) (le-leb e.caller.0 w le) (callers-none w es (λ k lt. let ne : k ≢ e.caller.0 = λ same. omega arith in sym (other_calls k e es ne) ∙ h k lt))
    ]
  where
    cons_nil : (x : Entry) (xs : List Entry) → x ∷ xs ≡ [] → ⊥
    cons_nil x xs e = cc

-- a turn that leads to a book, which is then settled
abbrev pub Ends : Script → ℕ → ℕ → Book → List Entry → Book → Type 0
Ends s T k b es c = (m : Book) × Turn s (caller k) T b es m × (c ≡ turn_ended s T m)

-- the turns of workers from k on
pub turns-all : (s : Script) (T : ℕ) (es : List Entry) (k : ℕ) (bs cs : List Book) (d : Book) → length cs ≡ length bs → ((i : ℕ) → i < length bs → Ends s T (k + i) (get_or bs i d) (calls_of (k + i) es) (get_or cs i d)) → Turns s T es k bs cs
turns-all s T es k [] [] d n h = tt
turns-all s T es k [] (c ∷ cs) d n h = absurd (omega arith)
turns-all s T es k (b ∷ bs) [] d n h = absurd (omega arith)
turns-all s T es k (b ∷ bs) (c ∷ cs) d n h =
    let here : k + 0 ≡ k = omega arith in
    let turn : Ends s T k b (calls_of k es) c = subst (λ (v : ℕ). Ends s T v b (calls_of v es) c) here (h 0 (omega arith)) in (
      record { first = calls_of k es; second = []; between = turn.0; joined = sym (append-nil (calls_of k es)); front = turn.1; back = (refl, turn.2) },
      turns-all s T es (k + 1) bs cs d (omega arith) (λ i lt. let next : k + suc i ≡ k + 1 + i = omega arith in subst (λ (v : ℕ). Ends s T v (get_or bs i d) (calls_of v es) (get_or cs i d)) next (h (suc i) (omega arith))),
    )

-- a draw that stands in a list was made
is_drawn : (i : ℕ) (c : Call) → IsDraw i c → is_draw_of i c ≡ true
is_drawn i (calls.Draw j) h = eq-eqb i j.0 h
is_drawn i (calls.Wake j f) h = absurd h
is_drawn i (calls.Kill j) h = absurd h
is_drawn i (calls.Post j b) h = absurd h
is_drawn i (calls.Get g) h = absurd h
is_drawn i (calls.Take j) h = absurd h
is_drawn i (calls.DropRun j) h = absurd h
is_drawn i (calls.Retire j) h = absurd h

drawn_at : (i j : ℕ) (e : Entry) (es : List Entry) → get_elem? es j ≡ some e → IsDraw i e.call → was_drawn i es ≡ true
drawn_at i j e [] at h = absurd (some-ne-none e (sym at))
drawn_at i zero e (x ∷ es) at h =
    let same : x ≡ e = some-injective x e at in
    let here : is_draw_of i x.call ≡ true = ap (λ (y : Entry). is_draw_of i y.call) same ∙ is_drawn i e.call h in
    rw here refl
drawn_at i (suc j) e (x ∷ es) at h = or_true (is_draw_of i x.call) (was_drawn i es) (drawn_at i j e es at h)
  where
    or_true : (a b : Bool) → b ≡ true → (a || b) ≡ true
    or_true true b h = refl
    or_true false b h = h

pub has-drawn : (i : ℕ) (es : List Entry) → HasDraw i es → was_drawn i es ≡ true
has-drawn i es h = drawn_at i h.0 h.1 es h.2 h.3

-- the box that has a task
pub boxed-is : (b : ℕ) (p : Place) → is_boxed b p ≡ true → p ≡ places.Boxed b
boxed-is b (places.Boxed c) h = elim (cases_eq b c) [
  | inl same ↦ ap places.Boxed (sym same)
  | inr ne ↦ (let no = ne_eqb b c ne in cc)
]
boxed-is b places.Rest h = cc
boxed-is b (places.Hands k) h = cc
boxed-is b (places.Drawn k) h = cc
boxed-is b (places.Runs k) h = cc
boxed-is b places.Gone h = cc

-- a legal merge of the calls of all callers is a lawful round, where each worker's are a lawful turn, the injector's its
-- part, and the shared box was served
pub merged-round : (s : Script) (r T : ℕ) (old : Standing) (logs : ℕ → List Entry) (es : List Entry) (state : State) (books : List Book) → length old.books ≡ s.workers → length books ≡ s.workers → IsMerge old.state logs es → ((k : ℕ) → s.workers < k → logs k ≡ []) → ((k : ℕ) → k < s.workers → Ends s T k (book_at old k) (logs k) (get_or books k (blank_book 0))) → Injects s r (logs s.workers) → is_served s old.state es ≡ true → state ≡ led old.state es → RoundOf s r T old (record { tick = T; entries = es }) (record { state = state; books = books })
merged-round s r T old logs es state books before after merge none turns injects served leads =
    record {
      tick = refl;
      history = (merge.0, leads);
      turns = turns-all s T es 0 old.books books (blank_book 0) (omega arith) (λ i lt.
          let zero_more : i ≡ 0 + i = omega arith in
          let own : Ends s T i (get_or old.books i (blank_book 0)) (calls_of i es) (get_or books i (blank_book 0)) = subst (λ (ys : List Entry). Ends s T i (get_or old.books i (blank_book 0)) ys (get_or books i (blank_book 0))) (sym (merge.1 i)) (turns i (omega arith)) in
          subst (λ (v : ℕ). Ends s T v (get_or old.books i (blank_book 0)) (calls_of v es) (get_or books i (blank_book 0))) zero_more own);
      injects = subst (λ (ys : List Entry). Injects s r ys) (sym (merge.1 s.workers)) injects;
      callers = callers-none s.workers es (λ k lt. merge.1 k ∙ none k lt);
      served = served;
    }
