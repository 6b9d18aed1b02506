-- What an entry makes of the shared box, and of what is counted of it.
use Rattle.std.proofs.Common.{◌≡◌, ◌≢◌, ℕ, zero, suc, ◌+◌, ◌<◌, ◌≤◌, ◌==◌, ◌||◌, ◌&&◌, not, Bool, true, false, List, [], ◌∷◌, ◌++◌, length, get_or, set, replicate, refl, sym, ap, ◌∙◌, arith, subst, inl, inr, eq-eqb, ne_eqb}
use Rattle.std.proofs.lemmas.Bool.{cases_eq}
use Rattle.std.proofs.lemmas.List.{get_or-set_same, get_or-set_other, get_or_default, length-set, length-replicate}
use Rattle.sched_base.specs.declared.names.CallerId.{CallerId}
use Rattle.sched_base.specs.declared.names.TaskId.{TaskId}
use Rattle.step_tables.specs.declared.tables.Script.{Script}
use Rattle.task_machine.specs.declared.task.Place.{Place}
use Rattle.task_machine.specs.declared.task.Place.TheVariants as places
use Rattle.task_machine.specs.declared.calls.Call.{Call}
use Rattle.task_machine.specs.declared.calls.Call.TheVariants as calls
use Rattle.task_machine.specs.declared.calls.Reply.{Reply}
use Rattle.task_machine.specs.declared.calls.Entry.{Entry}
use Rattle.task_machine.specs.Task.{is_boxed, in_hands}
use Rattle.task_machine.specs.Step.{State, task_at, bit, is_about, Allowed}
use Rattle.task_machine.specs.History.{stepped}
use Rattle.run_model.specs.Standing.{is_draw_of, was_drawn}
use Rattle.standing.proofs.Boxes.{stays-step, comes-step, PostsTo}
use Rattle.standing.proofs.Effects.{by_step}
use Rattle.standing.proofs.Steps.{boxed-in, held-in}
use Rattle.run_replay.specs.SharedBoxes.{tally, is_shared_at, waits, Counts, CountsBetween}
use Rattle.run_replay.specs.declared.shared_box.SharedBox.{SharedBox}

-- ---- tallies

pub tally-same : (f h : ℕ → Bool) (n : ℕ) → ((i : ℕ) → i < n → f i ≡ h i) → tally f n ≡ tally h n
tally-same f h zero e = refl
tally-same f h (suc n) e =
    let here : f n ≡ h n = e n (omega arith) in
    let below : tally f n ≡ tally h n = tally-same f h n (λ i lt. e i (omega arith)) in
    ap (λ b. bit b + tally f n) here ∙ ap (λ m. bit (h n) + m) below

-- one number more
pub tally-one : (f h : ℕ → Bool) (n j : ℕ) → j < n → f j ≡ true → h j ≡ false → ((i : ℕ) → i ≢ j → f i ≡ h i) → tally f n ≡ tally h n + 1
tally-one f h zero j lt holds fails e = absurd (omega arith)
tally-one f h (suc n) j lt holds fails e =
    elim (cases_eq n j) [
      | inl same ↦
          (let one : bit (f n) ≡ 1 = ap bit (ap f same ∙ holds) in
          let none : bit (h n) ≡ 0 = ap bit (ap h same ∙ fails) in
          let below = tally-same f h n (λ i less. e i (λ is. absurd (omega arith))) in
          omega arith)
      | inr differs ↦
          (let here : bit (f n) ≡ bit (h n) = ap bit (e n differs) in
          let below = tally-one f h n j (omega (arith, differs)) holds fails e in
          omega arith)
    ]

pub tally-zero : (f : ℕ → Bool) (n : ℕ) → tally f n ≡ 0 → (i : ℕ) → i < n → f i ≡ false
tally-zero f zero none i lt = absurd (omega arith)
tally-zero f (suc n) none i lt =
    elim (cases_eq i n) [
      | inl same ↦ ap f same ∙ unset (f n) (omega arith)
      | inr differs ↦ tally-zero f n (omega arith) i (omega (arith, differs))
    ]
  where
    unset : (b : Bool) → bit b ≡ 0 → b ≡ false
    unset true h = absurd (omega arith)
    unset false h = refl

pub tally-none : (f : ℕ → Bool) (n : ℕ) → ((i : ℕ) → i < n → f i ≡ false) → tally f n ≡ 0
tally-none f zero e = refl
tally-none f (suc n) e =
    let here : bit (f n) ≡ 0 = ap bit (e n (omega arith)) in
    let below = tally-none f n (λ i lt. e i (omega arith)) in
    omega arith

pub tally-most : (f : ℕ → Bool) (n : ℕ) → tally f n ≤ n
tally-most f zero = omega arith
tally-most f (suc n) =
    let below = tally-most f n in
    let here = one_bit (f n) in
    omega arith
  where
    one_bit : (b : Bool) → bit b ≤ 1
    one_bit true = omega arith
    one_bit false = omega arith

pub tally-some : (f : ℕ → Bool) (n j : ℕ) → j < n → f j ≡ true → 0 < tally f n
tally-some f zero j lt holds = absurd (omega arith)
tally-some f (suc n) j lt holds =
    elim (cases_eq j n) [
      | inl same ↦ (let one : bit (f n) ≡ 1 = ap bit (ap f (sym same) ∙ holds) in omega arith)
      | inr differs ↦ (let below = tally-some f n j (omega (arith, differs)) holds in omega arith)
    ]

-- ---- a step

both_ways : (a b : Bool) → (a ≡ true → b ≡ true) → (b ≡ true → a ≡ true) → a ≡ b
both_ways true b f g = sym (f refl)
both_ways false true f g = g refl
both_ways false false f g = refl

-- a task that is not drawn, nor posted to the shared box, stays where it is, in that box or out of it
kept-step : (s : State) (e : Entry) (i : ℕ) → Allowed s e → is_draw_of i e.call ≡ false → (PostsTo s.workers e.call → is_about i e.call ≡ true → ⊥) → is_boxed s.workers (task_at (stepped s e) i).place ≡ is_boxed s.workers (task_at s i).place
kept-step s e i a d none = both_ways (is_boxed s.workers (task_at (stepped s e) i).place) (is_boxed s.workers (task_at s i).place) (λ now. elim (comes-step s e s.workers i a now) [ inl was ↦ was | inr posts ↦ absurd (none posts.0 posts.1) ]) (λ was. stays-step s e i a d was)

held_unboxed : (k : CallerId) (b : ℕ) (p : Place) → in_hands k p ≡ true → is_boxed b p ≡ false
held_unboxed k b places.Rest h = cc
held_unboxed k b (places.Hands j) h = refl
held_unboxed k b (places.Boxed c) h = cc
held_unboxed k b (places.Drawn j) h = cc
held_unboxed k b (places.Runs j) h = cc
held_unboxed k b places.Gone h = cc

abbrev pub posting : CallerId → TaskId → ℕ → Reply → Entry
posting k j b r = record { caller = k; call = calls.Post j b; reply = r }

abbrev pub drawing : CallerId → TaskId → Reply → Entry
drawing k j r = record { caller = k; call = calls.Draw j; reply = r }

posted-step : (s : State) (k : CallerId) (j : TaskId) (b : ℕ) (r : Reply) → Allowed s (posting k j b r) → is_boxed b (task_at (stepped s (posting k j b r)) j.0).place ≡ true
posted-step s k j b r a = by_step s (posting k j b r) j.0 (λ t. is_boxed b t.place ≡ true) a (λ about. eq-eqb b b refl) (λ apart. absurd (let same : (j.0 == j.0) ≡ true = eq-eqb j.0 j.0 refl in cc))

drawn-step : (s : State) (k : CallerId) (j : TaskId) (b : ℕ) (r : Reply) → Allowed s (drawing k j r) → is_boxed b (task_at (stepped s (drawing k j r)) j.0).place ≡ false
drawn-step s k j b r a = by_step s (drawing k j r) j.0 (λ t. is_boxed b t.place ≡ false) a (λ about. refl) (λ apart. absurd (let same : (j.0 == j.0) ≡ true = eq-eqb j.0 j.0 refl in cc))

or_assoc : (a b c : Bool) → ((a || b) || c) ≡ (a || (b || c))
or_assoc true b c = refl
or_assoc false b c = refl

or_none : (a : Bool) → (a || false) ≡ a
or_none true = refl
or_none false = refl

drawn-push : (i : ℕ) (es : List Entry) (e : Entry) → was_drawn i (es ++ e ∷ []) ≡ was_drawn i es || is_draw_of i e.call
drawn-push i [] e = or_none (is_draw_of i e.call)
drawn-push i (x ∷ es) e = ap (λ b. is_draw_of i x.call || b) (drawn-push i es e) ∙ sym (or_assoc (is_draw_of i x.call) (was_drawn i es) (is_draw_of i e.call))

-- a task that the entry does not draw waits as before
waits-other : (s : Script) (opened : State) (es : List Entry) (e : Entry) (i : ℕ) → is_draw_of i e.call ≡ false → waits s opened (es ++ e ∷ []) i ≡ waits s opened es i
waits-other s opened es e i h = ap (λ b. is_shared_at s opened i && not b) (drawn-push i es e ∙ ap (λ b. was_drawn i es || b) h ∙ or_none (was_drawn i es))

and_none : (a : Bool) → (a && false) ≡ false
and_none true = refl
and_none false = refl

or_all : (a : Bool) → (a || true) ≡ true
or_all true = refl
or_all false = refl

-- and one that it draws waits no more
waits-drawn : (s : Script) (opened : State) (es : List Entry) (e : Entry) (i : ℕ) → is_draw_of i e.call ≡ true → waits s opened (es ++ e ∷ []) i ≡ false
waits-drawn s opened es e i h = ap (λ b. is_shared_at s opened i && not b) (drawn-push i es e ∙ ap (λ b. was_drawn i es || b) h ∙ or_all (was_drawn i es)) ∙ and_none (is_shared_at s opened i)

-- ---- what is counted

-- an entry that neither draws a task nor posts one to the shared box
pub counts-other : (s : Script) (r : ℕ) (opened state : State) (es : List Entry) (e : Entry) (b : SharedBox) → Allowed state e → state.workers ≡ s.workers → ((i : ℕ) → is_draw_of i e.call ≡ false) → (PostsTo s.workers e.call → ⊥) → Counts s r opened state es b → Counts s r opened (stepped state e) (es ++ e ∷ []) b
counts-other s r opened state es e b a w d none h =
    let kept : (i : ℕ) → is_shared_at s (stepped state e) i ≡ is_shared_at s state i = λ i. subst (λ (n : ℕ). is_boxed n (task_at (stepped state e) i).place ≡ is_boxed n (task_at state i).place) w (kept-step state e i a (d i) (λ posts about. none (subst (λ (n : ℕ). PostsTo n e.call) w posts))) in
    record {
      count = h.count;
      inside = h.inside ∙ tally-same (is_shared_at s state) (is_shared_at s (stepped state e)) (length s.tasks) (λ i lt. sym (kept i));
      waiting = h.waiting ∙ tally-same (waits s opened es) (waits s opened (es ++ e ∷ [])) (length s.tasks) (λ i lt. sym (waits-other s opened es e i (d i)));
      early = λ i. waits-other s opened es e i (d i) ∙ h.early i ∙ ap (λ x. x && not (get_or b.posted.items i 0 == r + 1)) (sym (kept i));
      past = h.past;
    }

-- a post to the shared box
pub counts-posted : (s : Script) (r : ℕ) (opened state : State) (es : List Entry) (k : CallerId) (j : TaskId) (c n : ℕ) (q : Reply) (b new : SharedBox) → Allowed state (posting k j c q) → state.workers ≡ s.workers → c ≡ s.workers → j.0 < length s.tasks → n ≡ r + 1 → new.inside ≡ b.inside + 1 → new.waiting ≡ b.waiting → new.posted.items ≡ set b.posted.items j.0 n → Counts s r opened state es b → Counts s r opened (stepped state (posting k j c q)) (es ++ posting k j c q ∷ []) new
counts-posted s r opened state es k j c n q b new a w is lt stamp more waiting posted h =
    let e = posting k j c q in
    let apart : (i : ℕ) → i ≢ j.0 → (i == j.0) ≡ false = λ i ne. ne_eqb i j.0 ne in
    let kept : (i : ℕ) → i ≢ j.0 → is_shared_at s (stepped state e) i ≡ is_shared_at s state i = λ i ne. subst (λ (m : ℕ). is_boxed m (task_at (stepped state e) i).place ≡ is_boxed m (task_at state i).place) w (kept-step state e i a refl (λ posts about. (let fails = apart i ne in cc))) in
    let now : is_shared_at s (stepped state e) j.0 ≡ true = subst (λ (m : ℕ). is_boxed m (task_at (stepped state e) j.0).place ≡ true) is (posted-step state k j c q a) in
    let before : is_shared_at s state j.0 ≡ false = held_unboxed k s.workers (task_at state j.0).place a.fit in
    let at : get_or new.posted.items j.0 0 ≡ r + 1 = ap (λ xs. get_or xs j.0 0) posted ∙ get_or-set_same b.posted.items j.0 n 0 (omega (arith, h.count)) ∙ stamp in
    let others : (i : ℕ) → i ≢ j.0 → get_or new.posted.items i 0 ≡ get_or b.posted.items i 0 = λ i ne. ap (λ xs. get_or xs i 0) posted ∙ get_or-set_other b.posted.items j.0 i n 0 ne in
    record {
      count = ap length posted ∙ length-set b.posted.items j.0 n ∙ h.count;
      inside = more ∙ ap (λ m. m + 1) h.inside ∙ sym (tally-one (is_shared_at s (stepped state e)) (is_shared_at s state) (length s.tasks) j.0 lt now before kept);
      waiting = waiting ∙ h.waiting ∙ tally-same (waits s opened es) (waits s opened (es ++ e ∷ [])) (length s.tasks) (λ i less. sym (waits-other s opened es e i refl));
      early = λ i. waits-other s opened es e i refl ∙ h.early i ∙ elim (cases_eq i j.0) [
        | inl same ↦
            (let was : is_shared_at s state i && not (get_or b.posted.items i 0 == r + 1) ≡ false = ap (λ x. x && not (get_or b.posted.items i 0 == r + 1)) (ap (is_shared_at s state) same ∙ before) in
            let fresh : (get_or new.posted.items i 0 == r + 1) ≡ true = eq-eqb (get_or new.posted.items i 0) (r + 1) (ap (λ x. get_or new.posted.items x 0) same ∙ at) in
            was ∙ sym (ap (λ x. is_shared_at s (stepped state e) i && not x) fresh ∙ and_none (is_shared_at s (stepped state e) i)))
        | inr ne ↦ ap (λ x. x && not (get_or b.posted.items i 0 == r + 1)) (sym (kept i ne)) ∙ ap (λ x. is_shared_at s (stepped state e) i && not (x == r + 1)) (sym (others i ne))
      ];
      past = λ i. elim (cases_eq i j.0) [
        | inl same ↦ (let here = ap (λ x. get_or new.posted.items x 0) same ∙ at in omega arith)
        | inr ne ↦ (let here = others i ne in let le = h.past i in omega arith)
      ];
    }

-- a draw, of a task that waits or not
pub counts-drawn : (s : Script) (r : ℕ) (opened state : State) (es : List Entry) (k : CallerId) (j : TaskId) (q : Reply) (b new : SharedBox) (early : Bool) → Allowed state (drawing k j q) → state.workers ≡ s.workers → length state.tasks ≡ length s.tasks → waits s opened es j.0 ≡ early → new.inside + 1 ≡ b.inside → new.waiting + bit early ≡ b.waiting → new.posted.items ≡ b.posted.items → Counts s r opened state es b → Counts s r opened (stepped state (drawing k j q)) (es ++ drawing k j q ∷ []) new
counts-drawn s r opened state es k j q b new early a w size waits_as less waiting posted h =
    let e = drawing k j q in
    let other : (i : ℕ) → i ≢ j.0 → is_draw_of i e.call ≡ false = λ i ne. ne_eqb i j.0 ne in
    let kept : (i : ℕ) → i ≢ j.0 → is_shared_at s (stepped state e) i ≡ is_shared_at s state i = λ i ne. subst (λ (m : ℕ). is_boxed m (task_at (stepped state e) i).place ≡ is_boxed m (task_at state i).place) w (kept-step state e i a (other i ne) (λ posts about. posts)) in
    let before : is_shared_at s state j.0 ≡ true = subst (λ (m : ℕ). is_boxed m (task_at state j.0).place ≡ true) w a.fit in
    let now : is_shared_at s (stepped state e) j.0 ≡ false = drawn-step state k j s.workers q a in
    let lt : j.0 < length s.tasks = subst (λ (m : ℕ). j.0 < m) size (boxed-in state s.workers j.0 before) in
    let gone : waits s opened (es ++ e ∷ []) j.0 ≡ false = waits-drawn s opened es e j.0 (eq-eqb j.0 j.0 refl) in
    let rest : (i : ℕ) → i ≢ j.0 → waits s opened es i ≡ waits s opened (es ++ e ∷ []) i = λ i ne. sym (waits-other s opened es e i (other i ne)) in
    record {
      count = ap length posted ∙ h.count;
      inside = (let one = tally-one (is_shared_at s state) (is_shared_at s (stepped state e)) (length s.tasks) j.0 lt before now (λ i ne. sym (kept i ne)) in let was = h.inside in omega arith);
      waiting = (let was = h.waiting in let one = fewer (waits s opened es) (waits s opened (es ++ e ∷ [])) (length s.tasks) j.0 early lt waits_as gone rest in omega arith);
      early = λ i. elim (cases_eq i j.0) [
        | inl same ↦ ap (waits s opened (es ++ e ∷ [])) same ∙ gone ∙ sym (ap (λ x. x && not (get_or new.posted.items i 0 == r + 1)) (ap (is_shared_at s (stepped state e)) same ∙ now))
        | inr ne ↦ sym (rest i ne) ∙ h.early i ∙ ap (λ x. x && not (get_or b.posted.items i 0 == r + 1)) (sym (kept i ne)) ∙ ap (λ xs. is_shared_at s (stepped state e) i && not (get_or xs i 0 == r + 1)) (sym posted)
      ];
      past = λ i. (let here = ap (λ xs. get_or xs i 0) posted in let le = h.past i in omega arith);
    }
  where
    fewer : (f u : ℕ → Bool) (n j : ℕ) (c : Bool) → j < n → f j ≡ c → u j ≡ false → ((i : ℕ) → i ≢ j → f i ≡ u i) → tally f n ≡ tally u n + bit c
    fewer f u n j true lt is none others = tally-one f u n j lt is none others
    fewer f u n j false lt is none others =
        let same = tally-same f u n (λ i less. elim (cases_eq i j) [ inl e ↦ ap f e ∙ is ∙ sym (ap u e ∙ none) | inr ne ↦ others i ne ]) in
        omega arith

-- the round is opened
pub counts-opened : (s : Script) (r : ℕ) (state : State) (b new : SharedBox) → CountsBetween s r state b → new.inside ≡ b.inside → new.waiting ≡ b.inside → new.posted.items ≡ b.posted.items → Counts s r state state [] new
counts-opened s r state b new h inside waiting posted = record {
  count = ap length posted ∙ h.count;
  inside = inside ∙ h.inside;
  waiting = waiting ∙ h.inside ∙ tally-same (is_shared_at s state) (waits s state []) (length s.tasks) (λ i lt. sym (all (is_shared_at s state i)));
  early = λ i.
      let at = ap (λ xs. get_or xs i 0) posted in
      let le = h.past i in
      let old : (get_or new.posted.items i 0 == r + 1) ≡ false = ne_eqb (get_or new.posted.items i 0) (r + 1) (λ same. absurd (omega arith)) in
      ap (λ x. is_shared_at s state i && not x) (sym old);
  past = λ i. (let at = ap (λ xs. get_or xs i 0) posted in let le = h.past i in omega arith);
}
  where
    all : (b : Bool) → (b && true) ≡ b
    all true = refl
    all false = refl

-- and it is over
pub counts-between : (s : Script) (r : ℕ) (opened state : State) (es : List Entry) (b : SharedBox) → Counts s r opened state es b → CountsBetween s (r + 1) state b
counts-between s r opened state es b h = record { count = h.count; inside = h.inside; past = h.past }

pub counts-first : (s : Script) (state : State) (b : SharedBox) → b.inside ≡ tally (is_shared_at s state) (length s.tasks) → b.posted.items ≡ replicate (length s.tasks) 0 → CountsBetween s 0 state b
counts-first s state b inside posted = record {
  count = ap length posted ∙ length-replicate (length s.tasks) 0;
  inside = inside;
  past = λ i. (let at : get_or b.posted.items i 0 ≡ 0 = ap (λ xs. stamp xs i) posted ∙ zeros (length s.tasks) i in omega arith);
}
  where
    stamp : List ℕ → ℕ → ℕ
    stamp xs i = get_or xs i 0

    zeros : (n i : ℕ) → stamp (replicate n 0) i ≡ 0
    zeros zero i = refl
    zeros (suc n) zero = refl
    zeros (suc n) (suc i) = zeros n i

-- ---- the same of any entry with such a call

pub counts-post : (s : Script) (r : ℕ) (opened state : State) (es : List Entry) (e : Entry) (j : TaskId) (c n : ℕ) (b new : SharedBox) → e.call ≡ calls.Post j c → Allowed state e → state.workers ≡ s.workers → length state.tasks ≡ length s.tasks → c ≡ s.workers → n ≡ r + 1 → new.inside ≡ b.inside + 1 → new.waiting ≡ b.waiting → new.posted.items ≡ set b.posted.items j.0 n → Counts s r opened state es b → Counts s r opened (stepped state e) (es ++ e ∷ []) new
counts-post s r opened state es e j c n b new is a w size here stamp more waiting posted h =
    let P : Call → Type 0 = λ x. Allowed state (record e { call = x }) → Counts s r opened (stepped state (record e { call = x })) (es ++ record e { call = x } ∷ []) new in
    subst P (sym is) (λ b0. counts-posted s r opened state es e.caller j c n e.reply b new b0 w here (held_exists s state e.caller j size b0.fit) stamp more waiting posted h) a
  where
    held_exists : (s : Script) (state : State) (k : CallerId) (j : TaskId) → length state.tasks ≡ length s.tasks → in_hands k (task_at state j.0).place ≡ true → j.0 < length s.tasks
    held_exists s state k j size held = (let lt = held-in state k j.0 (let one : bit (in_hands k (task_at state j.0).place) ≡ 1 = ap bit held in omega arith) in omega arith)

pub counts-elsewhere : (s : Script) (r : ℕ) (opened state : State) (es : List Entry) (e : Entry) (j : TaskId) (c : ℕ) (b : SharedBox) → e.call ≡ calls.Post j c → Allowed state e → state.workers ≡ s.workers → c ≢ s.workers → Counts s r opened state es b → Counts s r opened (stepped state e) (es ++ e ∷ []) b
counts-elsewhere s r opened state es e j c b is a w other h =
    counts-other s r opened state es e b a w (λ i. ap (is_draw_of i) is) (λ posts. other (subst (λ (x : Call). PostsTo s.workers x) is posts)) h

pub counts-draw : (s : Script) (r : ℕ) (opened state : State) (es : List Entry) (e : Entry) (j : TaskId) (b new : SharedBox) (early : Bool) → e.call ≡ calls.Draw j → Allowed state e → state.workers ≡ s.workers → length state.tasks ≡ length s.tasks → waits s opened es j.0 ≡ early → new.inside + 1 ≡ b.inside → new.waiting + bit early ≡ b.waiting → new.posted.items ≡ b.posted.items → Counts s r opened state es b → Counts s r opened (stepped state e) (es ++ e ∷ []) new
counts-draw s r opened state es e j b new early is a w size waits_as less waiting posted h =
    let P : Call → Type 0 = λ x. Allowed state (record e { call = x }) → Counts s r opened (stepped state (record e { call = x })) (es ++ record e { call = x } ∷ []) new in
    subst P (sym is) (λ b0. counts-drawn s r opened state es e.caller j e.reply b new early b0 w size waits_as less waiting posted h) a

pub stamp-at : (b : SharedBox) (size j n : ℕ) → length b.posted.items ≡ size → j < size → n ≡ get_or b.posted.items j n → n ≡ get_or b.posted.items j 0
stamp-at b size j n same lt is = is ∙ get_or_default b.posted.items j n 0 (omega arith)

-- a task that is drawn is in the box, and waits where it was not posted in this round
pub draws-boxed : (s : Script) (r : ℕ) (opened state : State) (es : List Entry) (e : Entry) (j : TaskId) (b : SharedBox) → e.call ≡ calls.Draw j → Allowed state e → state.workers ≡ s.workers → length state.tasks ≡ length s.tasks → Counts s r opened state es b → (is_shared_at s state j.0 ≡ true) × (j.0 < length s.tasks) × (0 < b.inside)
draws-boxed s r opened state es e j b is a w size h =
    let P : Call → Type 0 = λ x. Allowed state (record e { call = x }) → is_shared_at s state j.0 ≡ true in
    let here : is_shared_at s state j.0 ≡ true = subst P (sym is) (λ b0. subst (λ (m : ℕ). is_boxed m (task_at state j.0).place ≡ true) w b0.fit) a in
    let lt : j.0 < length s.tasks = subst (λ (m : ℕ). j.0 < m) size (boxed-in state s.workers j.0 here) in
    (here, lt, (let some = tally-some (is_shared_at s state) (length s.tasks) j.0 lt here in let same = h.inside in omega arith))

pub waits-early : (s : Script) (r : ℕ) (opened state : State) (es : List Entry) (j : ℕ) (b : SharedBox) → is_shared_at s state j ≡ true → get_or b.posted.items j 0 ≤ r → Counts s r opened state es b → waits s opened es j ≡ true
waits-early s r opened state es j b here le h =
    let other : (get_or b.posted.items j 0 == r + 1) ≡ false = ne_eqb (get_or b.posted.items j 0) (r + 1) (λ same. absurd (omega arith)) in
    h.early j ∙ ap (λ x. x && not (get_or b.posted.items j 0 == r + 1)) here ∙ ap not other

pub waits-late : (s : Script) (r : ℕ) (opened state : State) (es : List Entry) (j : ℕ) (b : SharedBox) → r < get_or b.posted.items j 0 → Counts s r opened state es b → waits s opened es j ≡ false
waits-late s r opened state es j b lt h =
    let past = h.past j in
    let same : (get_or b.posted.items j 0 == r + 1) ≡ true = eq-eqb (get_or b.posted.items j 0) (r + 1) (omega arith) in
    h.early j ∙ ap (λ x. is_shared_at s state j && not x) same ∙ and_none (is_shared_at s state j)
