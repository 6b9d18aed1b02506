-- From any calls of a round on it can be brought to its end: whoever has a call goes next, and where nobody has one
-- and the shared box was not served, some worker may draw.
use Rattle.std.proofs.Common.{◌≡◌, ℕ, zero, suc, ◌+◌, ◌^◌, ◌<◌, ◌≤◌, true, false, ◌⊎◌, inl, inr, List, [], ◌∷◌, ◌++◌, Option, None, Some, refl, sym, ap, ◌∙◌, arith, subst, ne_eqb}
use Rattle.std.proofs.lemmas.Bool.{cases_Bool, cases_lt}
use Rattle.std.proofs.lemmas.List.{append_assoc, append-nil}
use Rattle.step_tables.specs.declared.tables.Script.{Script}
use Rattle.task_machine.specs.declared.calls.Call.{Call}
use Rattle.task_machine.specs.declared.calls.Call.TheVariants.{Draw}
use Rattle.task_machine.specs.declared.calls.Reply.TheVariants.{Done}
use Rattle.task_machine.specs.declared.calls.Entry.{Entry}
use Rattle.task_machine.specs.Task.{is_boxed}
use Rattle.task_machine.specs.Step.{task_at, reply_of}
use Rattle.task_machine.specs.History.{led}
use Rattle.run_model.specs.Standing.{is_served}
use Rattle.turn_steps.specs.Left.{asked, draws_now, went}
use Rattle.turn_steps.specs.Has.{caller, said}
use Rattle.turn_steps.specs.Counts.{draws_ahead, calls_left, is_injectors}
use Rattle.turn_steps.specs.Ranges.{IsFit}
use Rattle.turn_steps.proofs.Measure.{calls_left-went}
use Rattle.standing.specs.Keeps.{Callers, Keeps}
use Rattle.standing.specs.Going.{called, IsNext, Going, gone_on, IsDone, all_calls}
use Rattle.standing.proofs.Ahead.{draws-going, idle-draws}
use Rattle.standing.proofs.Boxes.{stays-led}
use Rattle.standing.proofs.Merge.{legal-going, state-gone_on}
use Rattle.standing.proofs.Served.{unserved}
use Rattle.standing.proofs.Steps.{Next-allowed, Draw-allowed, Keeps-going, sum-set}

-- a call leaves fewer calls
pub all_calls-called : (s : Script) (T : ℕ) (c : Callers) (e : Entry) → IsFit s → IsNext s c e → all_calls s (called s T c e) < all_calls s c
all_calls-called s T c e fit next =
    let j = e.caller.0 in
    let x = went s e.caller T e.call e.reply (c.at j) in
    omega (arith, sum-set (s.workers + 1) j (λ g. calls_left s.depth g.left g.book) x c.at (omega (arith, next.caller)), calls_left-went s e.caller T e.call e.reply (c.at j) fit next.asks)

pub going-append : (s : Script) (T : ℕ) (c : Callers) (xs ys : List Entry) → Going s T c xs → Going s T (gone_on s T c xs) ys → Going s T c (xs ++ ys)
going-append s T c [] ys h g = g
going-append s T c (x ∷ xs) ys h g = (h.0, going-append s T (called s T c x) xs ys h.1 g)

pub going-front : (s : Script) (T : ℕ) (c : Callers) (xs ys : List Entry) → Going s T c (xs ++ ys) → Going s T c xs
going-front s T c [] ys h = tt
going-front s T c (x ∷ xs) ys h = (h.0, going-front s T (called s T c x) xs ys h.1)

pub gone_on-append : (s : Script) (T : ℕ) (c : Callers) (xs ys : List Entry) → gone_on s T c (xs ++ ys) ≡ gone_on s T (gone_on s T c xs) ys
gone_on-append s T c [] ys = refl
gone_on-append s T c (x ∷ xs) ys = gone_on-append s T (called s T c x) xs ys

-- some caller below n that asks for a call, or none
record Asker (s : Script) (c : Callers) (n : ℕ) : Type 0 where
  who : ℕ
  among : who < n
  call : Call
  asks : asked s (c.at who) ≡ Some call

asks_here : (s : Script) (c : Callers) (k : ℕ) (o : Option Call) → asked s (c.at k) ≡ o → (asked s (c.at k) ≡ None) ⊎ Asker s c (suc k)
asks_here s c k None e = inl e
asks_here s c k (Some call) e = inr (record { who = k; among = omega arith; call = call; asks = e })

below_suc : (k n : ℕ) → k < suc n → (k < n) ⊎ (k ≡ n)
below_suc k n h = elim (cases_lt k n) [ inl lt ↦ inl lt | inr le ↦ inr (omega arith) ]

asker : (s : Script) (c : Callers) (n : ℕ) → Asker s c n ⊎ ((k : ℕ) → k < n → asked s (c.at k) ≡ None)
asker s c zero = inr (λ k h. absurd (omega arith))
asker s c (suc n) =
    elim (asker s c n) [
      | inl a ↦ inl (record { who = a.who; among = omega (arith, a.among); call = a.call; asks = a.asks })
      | inr silent ↦
          elim (asks_here s c n (asked s (c.at n)) refl) [
            | inl quiet ↦ inr (λ k h. elim (below_suc k n h) [ inl lt ↦ silent k lt | inr same ↦ rw same quiet ])
            | inr a ↦ inl a
          ]
    ]

-- a worker that may draw, and a task in the shared box
record Waits (s : Script) (c : Callers) : Type 0 where
  who : ℕ
  among : who < s.workers
  ahead : 0 < draws_ahead s.depth (c.at who).left
  task : ℕ
  boxed : is_boxed s.workers (task_at c.state task).place ≡ true

waits : (s : Script) (T : ℕ) (c : Callers) (es : List Entry) → c.state.workers ≡ s.workers → ((k : ℕ) → k < s.workers → draws_ahead s.depth (c.at k).left ≡ s.depth) → Going s T c es → is_served s c.state es ≡ false → Waits s (gone_on s T c es)
waits s T c es w full h not_yet =
    let u = unserved s c.state es not_yet in
    let here : is_boxed c.state.workers (task_at c.state u.task).place ≡ true = subst (λ (b : ℕ). is_boxed b (task_at c.state u.task).place ≡ true) (sym w) u.boxed in
    let stays = stays-led c.state es u.task (legal-going s T c es h) u.waits here in
    record {
      who = u.worker;
      among = u.among;
      ahead = (let fewer = u.fewer in omega (arith, draws-going s T c es h u.worker, full u.worker u.among));
      task = u.task;
      boxed = rw (state-gone_on s T c es) (subst (λ (b : ℕ). is_boxed b (task_at (led c.state es) u.task).place ≡ true) w stays);
    }

-- calls that bring a round to its end
pub record Finishes (s : Script) (T : ℕ) (c : Callers) (es : List Entry) : Type 0 where
  pub more : List Entry
  pub going : Going s T c (es ++ more)
  pub done : IsDone s (gone_on s T c (es ++ more))
  pub served : is_served s c.state (es ++ more) ≡ true

-- where a round begins
record Begins (s : Script) (T limit : ℕ) (c : Callers) : Type 0 where
  fit : IsFit s
  below : limit < 2 ^ 48
  keeps : Keeps s limit c
  full : (k : ℕ) → k < s.workers → draws_ahead s.depth (c.at k).left ≡ s.depth

-- a call more, which brings a round nearer to its end
one_more : (s : Script) (T limit n : ℕ) (c : Callers) (es : List Entry) (e : Entry) → Begins s T limit c → Going s T c es → all_calls s (gone_on s T c es) ≤ suc n → IsNext s (gone_on s T c es) e → Going s T c (es ++ e ∷ []) × (all_calls s (gone_on s T c (es ++ e ∷ [])) ≤ n)
one_more s T limit n c es e b h le next = (
  going-append s T c es (e ∷ []) h (next, tt),
  (let less = all_calls-called s T (gone_on s T c es) e b.fit next in
      let same = ap (all_calls s) (gone_on-append s T c es (e ∷ [])) in
      omega arith),
)

finished-after : (s : Script) (T : ℕ) (c : Callers) (es : List Entry) (e : Entry) → Finishes s T c (es ++ e ∷ []) → Finishes s T c es
finished-after s T c es e f =
    let same = append_assoc es (e ∷ []) f.more in
    record {
      more = e ∷ f.more;
      going = subst (λ (ys : List Entry). Going s T c ys) same f.going;
      done = subst (λ (ys : List Entry). IsDone s (gone_on s T c ys)) same f.done;
      served = subst (λ (ys : List Entry). is_served s c.state ys ≡ true) same f.served;
    }

none_more : (s : Script) (T : ℕ) (c : Callers) (es : List Entry) → Going s T c es → IsDone s (gone_on s T c es) → is_served s c.state es ≡ true → Finishes s T c es
none_more s T c es h done served =
    let same = sym (append-nil es) in
    record {
      more = [];
      going = subst (λ (ys : List Entry). Going s T c ys) same h;
      done = subst (λ (ys : List Entry). IsDone s (gone_on s T c ys)) same done;
      served = subst (λ (ys : List Entry). is_served s c.state ys ≡ true) same served;
    }

-- what comes next where the round is not at its end
record Further (s : Script) (c : Callers) : Type 0 where
  entry : Entry
  next : IsNext s c entry

go_on : (s : Script) (limit : ℕ) (c : Callers) → IsFit s → limit < 2 ^ 48 → Keeps s limit c → Asker s c (s.workers + 1) → Further s c
go_on s limit c fit below keeps a =
    let le : a.who ≤ s.workers = omega (arith, a.among) in
    record {
      entry = said (caller a.who) a.call (reply_of c.state (caller a.who) a.call);
      next = record { caller = le; asks = inl a.asks; allowed = Next-allowed s limit c a.who a.call fit below keeps le a.asks };
    }

draw_on : (s : Script) (limit : ℕ) (c : Callers) → Keeps s limit c → IsDone s c → Waits s c → Further s c
draw_on s limit c keeps done w =
    let le : w.who ≤ s.workers = omega (arith, w.among) in
    let worker : is_injectors (c.at w.who).left ≡ false = keeps.part w.who le ∙ ne_eqb w.who s.workers (omega (arith, w.among)) in
    let idle = idle-draws s (c.at w.who).left (c.at w.who).book (done w.who le) worker in
    let may : 0 < draws_now s (c.at w.who) = omega (arith, idle, w.ahead) in
    record {
      entry = said (caller w.who) (Draw (record { 0 = w.task })) Done;
      next = Draw-allowed s limit c w.who w.task keeps le may w.boxed;
    }

-- the end of a round, or a call more
step_on : (s : Script) (T limit : ℕ) (c : Callers) (es : List Entry) → Begins s T limit c → Going s T c es → Finishes s T c es ⊎ Further s (gone_on s T c es)
step_on s T limit c es b h =
    let now = gone_on s T c es in
    let keeps = Keeps-going s T limit c es b.fit b.keeps h in
    elim (asker s now (s.workers + 1)) [
      | inl a ↦ inr (go_on s limit now b.fit b.below keeps a)
      | inr silent ↦
          (let done : IsDone s now = λ k le. silent k (omega arith) in
          elim (cases_Bool (is_served s c.state es)) [
            | inl served ↦ inl (none_more s T c es h done served)
            | inr not_yet ↦ inr (draw_on s limit now keeps done (waits s T c es b.keeps.workers b.full h not_yet))
          ])
    ]

finishes-by : (s : Script) (T limit n : ℕ) (c : Callers) (es : List Entry) → Begins s T limit c → Going s T c es → all_calls s (gone_on s T c es) ≤ n → Finishes s T c es
finishes-by s T limit zero c es b h le =
    elim (step_on s T limit c es b h) [
      | inl f ↦ f
      | inr g ↦ absurd (let less = all_calls-called s T (gone_on s T c es) g.entry b.fit g.next in omega arith)
    ]
finishes-by s T limit (suc n) c es b h le =
    elim (step_on s T limit c es b h) [
      | inl f ↦ f
      | inr g ↦
          (let more = one_more s T limit n c es g.entry b h le g.next in
          finished-after s T c es g.entry (finishes-by s T limit n c (es ++ g.entry ∷ []) b more.0 more.1))
    ]

pub Finishes-all : (s : Script) (T limit : ℕ) (c : Callers) (es : List Entry) → IsFit s → limit < 2 ^ 48 → Keeps s limit c → ((k : ℕ) → k < s.workers → draws_ahead s.depth (c.at k).left ≡ s.depth) → Going s T c es → Finishes s T c es
Finishes-all s T limit c es fit below keeps full h =
    let begins : Begins s T limit c = record { fit = fit; below = below; keeps = keeps; full = full } in
    finishes-by s T limit (all_calls s (gone_on s T c es)) c es begins h (omega arith)
