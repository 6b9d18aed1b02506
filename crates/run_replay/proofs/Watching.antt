-- Where a watcher stands, and what a line makes of it.
use Rattle.std.proofs.Common.{◌≡◌, ◌≢◌, ◌↔◌, ◌⊎◌, ℕ, ◌+◌, ◌*◌, ◌<◌, ◌≤◌, inl, inr, Bool, true, false, IsTrue, MatchBool, List, [], ◌∷◌, ◌++◌, length, get_or, set, None, Some, Option, IfSome, ◌==◌, not, is_some, nat_lt, refl, sym, ap, ◌∙◌, arith, subst, eq-eqb, ne_eqb, drop, filter}
use Rattle.std.proofs.lemmas.Bool.{cases_eq}
use Rattle.std.proofs.lemmas.List.{get_or-set_same, get_or-set_other, length-map, length-set}
use Rattle.sched_base.specs.declared.names.TaskId.{TaskId}
use Rattle.step_tables.specs.declared.tables.Action.{Action}
use Rattle.step_tables.specs.declared.tables.Event.{Event}
use Rattle.step_tables.specs.declared.tables.Script.{Script}
use Rattle.task_machine.specs.declared.calls.Call.{Call}
use Rattle.task_machine.specs.declared.calls.Entry.{Entry}
use Rattle.task_machine.specs.Step.{State, bit, Allowed}
use Rattle.task_machine.specs.History.{stepped}
use Rattle.run_model.specs.Standing.{Standing, opening, next_tick, no_later, has_event}
use Rattle.run_model.specs.Tables.{actions_in}
use Rattle.turn_steps.specs.Left.{Stage, asked, draws_now, heard}
use Rattle.turn_steps.specs.Has.{caller, due}
use Rattle.turn_steps.proofs.Asked.{went-asked}
use Rattle.standing.specs.Keeps.{Callers}
use Rattle.standing.specs.Going.{IsNext, IsDone}
use Rattle.standing.specs.Between.{round_takes}
use Rattle.standing.proofs.Steps.{held-in}
use Rattle.transcript.specs.declared.lines.Line.TheVariants as line
use Rattle.fronts.specs.Lines.{Track, begins, within, ended, MayEnter, IsWhole, May}
use Rattle.fronts.proofs.Fronts.{enters-next}
use Rattle.thread_loop.specs.Workers.{number_of, stage_of, Fits}
use Rattle.thread_loop.specs.declared.worker.Worker.{Worker}
use Rattle.run_replay.specs.Floors.{after_all, Made, Turning, Works}
use Rattle.thread_loop.specs.Idle.{Opened}
use Rattle.run_replay.specs.Injections.{AtEvents, HoldsTask, actions_of, actions_left, owing, stage_in}
use Rattle.run_replay.specs.SharedBoxes.{Counts}
use Rattle.run_replay.specs.Watching.{AsksNext, CanOpen, Ends, EndsAfter, Follows, GoesOn, IsAt, IsOver, IsReady, IsWithin, left_after, opened, standing_of}
use Rattle.run_replay.specs.declared.watcher.Position.{Position}
use Rattle.run_replay.specs.declared.watcher.Position.TheVariants as position
use Rattle.run_replay.specs.declared.injection.Injection.{Injection}
use Rattle.run_replay.specs.declared.shared_box.SharedBox.{SharedBox}
use Rattle.run_replay.specs.declared.watcher.Watcher.{Watcher}
use Rattle.run_replay.proofs.Facts.{answered, never, surely, through}
use Rattle.run_replay.proofs.Making.{keeps-making, making-next, stage-next, others-next, tasks-making, workers-making}
use Rattle.run_replay.proofs.Turning.{turning-other}
use Rattle.run_replay.proofs.Rounds.{worker-at, ready-next}
use Rattle.thread_loop.proofs.NextTick.{event-by}
use Rattle.run_replay.proofs.Limits.{few_rounds}
use Rattle.run_replay.proofs.Resting.{later_by}
use Rattle.run_replay.proofs.Served.{served-drawn, served-parts}

-- ---- positions

abbrev number_in : Position → ℕ
number_in position.Start = 0
number_in (position.Round n T) = n
number_in position.End = 0

abbrev tick_in : Position → ℕ
tick_in position.Start = 0
tick_in (position.Round n T) = T
tick_in position.End = 0

-- within a round
pub record Inside (s : Script) (t : Track) (n T : ℕ) (w : Watcher) : Type 0 where
  pub old : Standing
  pub entries : List Entry
  pub track : t ≡ within n T old entries
  pub stands : IsWithin s (opened n T old) entries w

pub inside : (s : Script) (t : Track) (w : Watcher) (n T : ℕ) → IsAt s t w → w.position ≡ position.Round n T → Inside s t n T w
unfolding IsAt
inside s begins w n T at is = absurd (let e : position.Start ≡ position.Round n T = sym at.0 ∙ is in cc)
inside s (within r U old es) w n T at is =
    let e : position.Round r U ≡ position.Round n T = sym at.0 ∙ is in
    let number : r ≡ n = ap (λ p. number_in p) e in
    let tick : U ≡ T = ap (λ p. tick_in p) e in
    record {
      old = old;
      entries = es;
      track = ap (λ m. within m U old es) number ∙ ap (λ m. within n m old es) tick;
      stands = subst (λ (m : ℕ). IsWithin s (opened n m old) es w) tick (subst (λ (m : ℕ). IsWithin s (opened m U old) es w) number at.1);
    }
inside s ended w n T at is = absurd (let e : position.End ≡ position.Round n T = sym at ∙ is in cc)

-- at the start
pub at-start : (s : Script) (t : Track) (w : Watcher) → IsAt s t w → w.position ≡ position.Start → (t ≡ begins) × (standing_of w ≡ opening s) × IsReady s 0 s.start w
unfolding IsAt
at-start s begins w at is = (refl, at.1, at.2)
at-start s (within r U old es) w at is = absurd (let e : position.Round r U ≡ position.Start = sym at.0 ∙ is in cc)
at-start s ended w at is = absurd (let e : position.End ≡ position.Start = sym at ∙ is in cc)

-- and at the end
pub at-end : (s : Script) (t : Track) (w : Watcher) → IsAt s t w → w.position ≡ position.End → t ≡ ended
unfolding IsAt
at-end s begins w at is = absurd (let e : position.Start ≡ position.End = sym at.0 ∙ is in cc)
at-end s (within r U old es) w at is = absurd (let e : position.Round r U ≡ position.End = sym at.0 ∙ is in cc)
at-end s ended w at is = refl

pub stands-begins : (s : Script) (w : Watcher) → w.position ≡ position.Start → standing_of w ≡ opening s → IsReady s 0 s.start w → IsAt s begins w
unfolding IsAt
stands-begins s w is standing ready = (is, standing, ready)

pub stands-within : (s : Script) (r T : ℕ) (old : Standing) (es : List Entry) (w : Watcher) → w.position ≡ position.Round r T → IsWithin s (opened r T old) es w → IsAt s (within r T old es) w
unfolding IsAt
stands-within s r T old es w is h = (is, h)

pub stands-ended : (s : Script) (w : Watcher) → w.position ≡ position.End → IsAt s ended w
unfolding IsAt
stands-ended s w is = is

-- ---- an entry

pub next-of : (s : Script) (g : Opened) (es : List Entry) (w : Watcher) (e : Entry) → IsWithin s g es w → MayEnter s (after_all s g es) e → IsNext s (after_all s g es) e
next-of s g es w e h may = enters-next s (g.round * round_takes s + round_takes s) (after_all s g es) e (keeps-making s g es w.floor h.making) may

-- what is asked and allowed may come
pub may-enter : (s : Script) (g : Opened) (es : List Entry) (w : Watcher) (e : Entry) → IsWithin s g es w → AsksNext s (after_all s g es) e → Allowed w.floor.machine e → MayEnter s (after_all s g es) e
may-enter s g es w e h asks allowed = record {
  caller = asks.0;
  asks = asks.1;
  allowed = subst (λ (st : State). Allowed st e) h.making.state allowed;
}

pub enters-asked : (s : Script) (c : Callers) (e : Entry) → MayEnter s c e → AsksNext s c e
enters-asked s c e may = (may.caller, may.asks)

pub enters-allowed : (s : Script) (g : Opened) (es : List Entry) (w : Watcher) (e : Entry) → IsWithin s g es w → MayEnter s (after_all s g es) e → Allowed w.floor.machine e
enters-allowed s g es w e h may = subst (λ (st : State). Allowed st e) (sym h.making.state) may.allowed

-- a fact of each worker where one is changed
each_set : (P : ℕ → Worker → Type 0) (ws : List Worker) (n m : ℕ) (v : Worker) → n < length ws → P n v → ((k : ℕ) (d : Worker) → k ≢ n → k < m → P k (get_or ws k d)) → (k : ℕ) (d : Worker) → k < m → P k (get_or (set ws n v) k d)
each_set P ws n m v lt here others k d h =
    elim (cases_eq k n) [
      | inl same ↦ subst (λ (x : ℕ). P x (get_or (set ws n v) x d)) (sym same) (subst (λ (w : Worker). P n w) (sym (get_or-set_same ws n v d lt)) here)
      | inr ne ↦ subst (λ (w : Worker). P k w) (sym (get_or-set_other ws n k v d ne)) (others k d ne h)
    ]

-- the worker that makes an entry
pub works-at : (s : Script) (g : Opened) (es : List Entry) (w : Watcher) (v : Worker) (k : ℕ) → IsWithin s g es w → k < length w.workers.items → v ≡ get_or w.workers.items k v → Works s g es w.floor v × (number_of v ≡ k)
works-at s g es w v k h lt at =
    let among : k < s.workers = omega (arith, h.count) in (
      record { making = h.making; turning = subst (λ (x : Worker). Turning s g es w.floor.machine x) (sym at) (h.turning k v among) },
      ap number_of at ∙ h.numbers k v among,
    )

-- after an entry of a worker
pub within-worker : (s : Script) (g : Opened) (es : List Entry) (e : Entry) (w new : Watcher) (v u : Worker) → IsWithin s g es w → IsNext s (after_all s g es) e → Made s e w.floor new.floor → e.caller.0 < length w.workers.items → v ≡ get_or w.workers.items e.caller.0 v → number_of u ≡ number_of v → Turning s g (es ++ e ∷ []) new.floor.machine u → new.workers.items ≡ set w.workers.items e.caller.0 u → new.injection ≡ w.injection → Counts s g.round g.old.state new.floor.machine (es ++ e ∷ []) new.shared → IsWithin s g (es ++ e ∷ []) new
within-worker s g es e w new v u h next made lt at same turned workers injection counts =
    let k = e.caller.0 in
    let among : k < s.workers = omega (arith, h.count) in
    let number : number_of u ≡ k = same ∙ (works-at s g es w v k h lt at).1 in
    let ws = set w.workers.items k u in
    record {
      making = making-next s g es e w.floor new.floor h.making next made;
      count = ap length workers ∙ length-set w.workers.items k u ∙ h.count;
      turning = λ j d less. subst (λ (xs : List Worker). Turning s g (es ++ e ∷ []) new.floor.machine (get_or xs j d)) (sym workers) (each_set (λ i x. Turning s g (es ++ e ∷ []) new.floor.machine x) w.workers.items k s.workers u lt turned (λ i c ne small. turning-other s g es e w.floor new.floor (get_or w.workers.items i c) h.making next made (λ is. ne (sym (h.numbers i c small) ∙ is)) (h.turning i c small)) j d less);
      numbers = λ j d less. subst (λ (xs : List Worker). number_of (get_or xs j d) ≡ j) (sym workers) (each_set (λ i x. number_of x ≡ i) w.workers.items k s.workers u lt number (λ i c ne small. h.numbers i c small) j d less);
      injection = subst (λ (i : Injection). AtEvents s g.round i) (sym injection) h.injection;
      injects = ap (stage_in s g.round) injection ∙ h.injects ∙ sym (others-next s g es e s.workers (λ is. absurd (omega arith)));
      shared = counts;
    }

owing-draws : (s : Script) (o : Option TaskId) (xs : List Action) → draws_now s (owing o xs) ≡ 0
owing-draws s None [] = refl
owing-draws s None (x ∷ xs) = refl
owing-draws s (Some j) xs = refl

-- after an entry of the injector
pub within-injector : (s : Script) (g : Opened) (es : List Entry) (e : Entry) (w new : Watcher) → IsWithin s g es w → IsNext s (after_all s g es) e → Made s e w.floor new.floor → length w.workers.items ≤ e.caller.0 → new.workers.items ≡ w.workers.items → AtEvents s g.round new.injection → ((k tick : ℕ) → stage_in s g.round new.injection ≡ heard s (caller k) tick e.reply (stage_in s g.round w.injection)) → Counts s g.round g.old.state new.floor.machine (es ++ e ∷ []) new.shared → IsWithin s g (es ++ e ∷ []) new
within-injector s g es e w new h next made le workers events hears counts =
    let last : e.caller.0 ≡ s.workers = (let most = next.caller in omega (arith, h.count)) in
    let c = after_all s g es in
    let at : (after_all s g es).at e.caller.0 ≡ stage_in s g.round w.injection = ap c.at last ∙ sym h.injects in
    let asks : asked s (c.at e.caller.0) ≡ Some e.call = elim next.asks [
      | inl it ↦ it
      | inr draw ↦ (let some = draw.some in let none : draws_now s (c.at e.caller.0) ≡ 0 = ap (draws_now s) at ∙ owing-draws s w.injection.held (actions_left s g.round w.injection) in absurd (omega arith))
    ] in
    record {
      making = making-next s g es e w.floor new.floor h.making next made;
      count = ap length workers ∙ h.count;
      turning = λ j d less. subst (λ (xs : List Worker). Turning s g (es ++ e ∷ []) new.floor.machine (get_or xs j d)) (sym workers) (turning-other s g es e w.floor new.floor (get_or w.workers.items j d) h.making next made (λ is. absurd (let number = h.numbers j d less in omega arith)) (h.turning j d less));
      numbers = λ j d less. subst (λ (xs : List Worker). number_of (get_or xs j d) ≡ j) (sym workers) (h.numbers j d less);
      injection = events;
      injects = hears e.caller.0 g.tick ∙ ap (heard s e.caller g.tick e.reply) (sym at) ∙ sym (went-asked s e.caller g.tick e.call e.reply (c.at e.caller.0) asks) ∙ sym (stage-next s g es e) ∙ ap (after_all s g (es ++ e ∷ [])).at last;
      shared = counts;
    }

-- the injector holds a task of the script
pub holds-within : (s : Script) (g : Opened) (es : List Entry) (w : Watcher) → IsWithin s g es w → HoldsTask s w.injection
holds-within s g es w h = by w.injection.held h.injects
  where
    by : (o : Option TaskId) → owing o (actions_left s g.round w.injection) ≡ (after_all s g es).at s.workers → IfSome o (λ j. j.0 < length s.tasks)
    by None same = tt
    by (Some j) same =
        let keeps = keeps-making s g es w.floor h.making in
        let owns = keeps.owns s.workers (omega arith) in
        let one : due j.0 ((after_all s g es).at s.workers).left ≡ 1 = ap (λ (x : Stage). due j.0 x.left) (sym same) ∙ ap bit (eq-eqb j.0 j.0 refl) in
        let holds = owns.hands j.0 in
        let lt = held-in (after_all s g es).state (caller s.workers) j.0 (omega arith) in
        subst (λ (n : ℕ). j.0 < n) keeps.tasks lt

-- ---- the lines

-- the answer on a round's line at the start
pub open-start : (s : Script) (t : Track) (w : Watcher) (number tick : ℕ) (b : Bool) → IsAt s t w → w.position ≡ position.Start → IsTrue b ↔ ((number ≡ 0) × (tick ≡ s.start)) → MatchBool b (CanOpen s t number tick w) ((u : Track) → May s t (line.Round number tick) u → ⊥)
open-start s t w number tick b at is h =
    let p = at-start s t w at is in
    answered b ((number ≡ 0) × (tick ≡ s.start)) (CanOpen s t number tick w) ((u : Track) → May s t (line.Round number tick) u → ⊥) h
    (λ x. subst (λ (v : Track). CanOpen s v number tick w) (sym p.0) ((x.0, x.1, ap (λ n. within n tick (standing_of w) []) x.0 ∙ ap (λ T. within 0 T (standing_of w) []) x.1 ∙ ap (λ st. within 0 s.start st []) p.1), subst (λ (n : ℕ). IsReady s n tick w) (sym x.0) (subst (λ (T : ℕ). IsReady s 0 T w) (sym x.1) p.2)))
    (λ fails u may. (let m = subst (λ (v : Track). May s v (line.Round number tick) u) p.0 may in fails (m.0, m.1)))

-- and within a round
pub open-inside : (s : Script) (t : Track) (w new : Watcher) (n T number tick : ℕ) (b : Bool) → IsAt s t w → w.position ≡ position.Round n T → ((g : Opened) (es : List Entry) → IsWithin s g es w → g.round ≡ n → g.tick ≡ T → MatchBool b (Follows s g es number tick × IsOver s n new × (standing_of new ≡ left_after s g es)) (Follows s g es number tick → ⊥)) → MatchBool b (CanOpen s t number tick new) ((u : Track) → May s t (line.Round number tick) u → ⊥)
open-inside s t w new n T number tick b at is answer =
    let p = inside s t w n T at is in
    by b p (answer (opened n T p.old) p.entries p.stands refl refl)
  where
    by : (b : Bool) (p : Inside s t n T w) → (let g = opened n T p.old in MatchBool b (Follows s g p.entries number tick × IsOver s n new × (standing_of new ≡ left_after s g p.entries)) (Follows s g p.entries number tick → ⊥)) → MatchBool b (CanOpen s t number tick new) ((u : Track) → May s t (line.Round number tick) u → ⊥)
    by true p x =
        let g = opened n T p.old in
        let st = left_after s g p.entries in
        let f = x.0 in
        let left : standing_of new ≡ st = x.2 in
        let at_tick : tick ≡ next_tick s n T st = f.2.2 in
        let track : within number tick (standing_of new) [] ≡ within (n + 1) (next_tick s n T st) st [] = ap (λ m. within m tick (standing_of new) []) f.1 ∙ ap (λ U. within (n + 1) U (standing_of new) []) at_tick ∙ ap (λ y. within (n + 1) (next_tick s n T st) y []) left in
        subst (λ (v : Track). CanOpen s v number tick new) (sym p.track) ((f.0, f.2.1, f.2.0, f.1, at_tick, track), ready-next s g p.entries w new number tick p.stands f.0 x.1 left f.2.0 f.1 (at_tick ∙ ap (next_tick s n T) (sym left)))
    by false p fails = λ u may. (let m = subst (λ (v : Track). May s v (line.Round number tick) u) p.track may in fails (m.0, m.3, (m.2, m.1, m.4)))

-- one round follows another
pub follows-or-not : (s : Script) (g : Opened) (es : List Entry) (new : Watcher) (r T number tick : ℕ) (b : Bool) → g.round ≡ r → g.tick ≡ T → number ≡ r + 1 → IsWhole s g.round g.tick g.old es → IsOver s r new → standing_of new ≡ left_after s g es → IsTrue b ↔ GoesOn s r T tick (standing_of new) → MatchBool b (Follows s g es number tick × IsOver s r new × (standing_of new ≡ left_after s g es)) (Follows s g es number tick → ⊥)
follows-or-not s g es new r T number tick b same at is whole o left h =
    answered b (GoesOn s r T tick (standing_of new)) (Follows s g es number tick × IsOver s r new × (standing_of new ≡ left_after s g es)) (Follows s g es number tick → ⊥) h
    (λ x. ((whole, is ∙ ap (λ m. m + 1) (sym same), moved r T (standing_of new) g.round g.tick (left_after s g es) (sym same) (sym at) left x), o, left))
    (λ fails f. fails (moved g.round g.tick (left_after s g es) r T (standing_of new) same at (sym left) f.2))
  where
    moved : (r T : ℕ) (st : Standing) (q U : ℕ) (su : Standing) → r ≡ q → T ≡ U → st ≡ su → GoesOn s r T tick st → GoesOn s q U tick su
    moved r T st q U su a b c x = subst (λ (y : Standing). GoesOn s q U tick y) c (subst (λ (V : ℕ). GoesOn s q V tick st) b (subst (λ (m : ℕ). GoesOn s m T tick st) a x))

-- and at the end
pub open-end : (s : Script) (t : Track) (w : Watcher) (number tick : ℕ) → IsAt s t w → w.position ≡ position.End → (u : Track) → May s t (line.Round number tick) u → ⊥
open-end s t w number tick at is u may = subst (λ (v : Track). May s v (line.Round number tick) u) (at-end s t w at is) may

-- the round was begun
pub opened-round : (s : Script) (t : Track) (w new : Watcher) (number tick : ℕ) → CanOpen s t number tick w → new.position ≡ position.Round number tick → IsWithin s (opened number tick (standing_of w)) [] new → (u : Track) × May s t (line.Round number tick) u × IsAt s u new
opened-round s t w new number tick can is h = (within number tick (standing_of w) [], can.0, stands-within s number tick (standing_of w) [] new is h)

-- the answer on an entry
pub enter-inside : (s : Script) (t : Track) (w new : Watcher) (e : Entry) (n T : ℕ) (b : Bool) → IsAt s t w → w.position ≡ position.Round n T → new.position ≡ w.position → ((g : Opened) (es : List Entry) → IsWithin s g es w → g.round ≡ n → MatchBool b (MayEnter s (after_all s g es) e × IsWithin s g (es ++ e ∷ []) new) (MayEnter s (after_all s g es) e → ⊥)) → MatchBool b ((u : Track) × May s t (line.Entry e) u × IsAt s u new) ((u : Track) → May s t (line.Entry e) u → ⊥)
enter-inside s t w new e n T b at is same answer =
    let p = inside s t w n T at is in
    let g = opened n T p.old in
    by b p (answer g p.entries p.stands refl)
  where
    by : (b : Bool) (p : Inside s t n T w) → MatchBool b (MayEnter s (after_all s (opened n T p.old) p.entries) e × IsWithin s (opened n T p.old) (p.entries ++ e ∷ []) new) (MayEnter s (after_all s (opened n T p.old) p.entries) e → ⊥) → MatchBool b ((u : Track) × May s t (line.Entry e) u × IsAt s u new) ((u : Track) → May s t (line.Entry e) u → ⊥)
    by true p h = (within n T p.old (p.entries ++ e ∷ []), subst (λ (v : Track). May s v (line.Entry e) (within n T p.old (p.entries ++ e ∷ []))) (sym p.track) (h.0, refl), stands-within s n T p.old (p.entries ++ e ∷ []) new (same ∙ is) h.1)
    by false p h = λ u may. (let m = subst (λ (v : Track). May s v (line.Entry e) u) p.track may in h m.0)

-- no entry comes before the first round or after the end
pub enter-start : (s : Script) (t : Track) (w : Watcher) (e : Entry) → IsAt s t w → w.position ≡ position.Start → (u : Track) → May s t (line.Entry e) u → ⊥
enter-start s t w e at is u may = subst (λ (v : Track). May s v (line.Entry e) u) (at-start s t w at is).0 may

pub enter-end : (s : Script) (t : Track) (w : Watcher) (e : Entry) → IsAt s t w → w.position ≡ position.End → (u : Track) → May s t (line.Entry e) u → ⊥
enter-end s t w e at is u may = subst (λ (v : Track). May s v (line.Entry e) u) (at-end s t w at is) may

-- the answer on the end line
pub end-inside : (s : Script) (t : Track) (w : Watcher) (rest : Bool) (last n T : ℕ) (b : Bool) → IsAt s t w → w.position ≡ position.Round n T → ((g : Opened) (es : List Entry) → IsWithin s g es w → g.round ≡ n → IsTrue b ↔ EndsAfter s g es rest last) → MatchBool b (May s t (line.End rest last) ended) ((u : Track) → May s t (line.End rest last) u → ⊥)
end-inside s t w rest last n T b at is answer =
    let p = inside s t w n T at is in
    let g = opened n T p.old in
    answered b (EndsAfter s g p.entries rest last) (May s t (line.End rest last) ended) ((u : Track) → May s t (line.End rest last) u → ⊥) (answer g p.entries p.stands refl)
    (λ x. subst (λ (v : Track). May s v (line.End rest last) ended) (sym p.track) (x.0, x.1, x.2, refl))
    (λ fails u may. (let m = subst (λ (v : Track). May s v (line.End rest last) u) p.track may in fails (m.0, m.1, m.2)))

-- a run ends after a round
pub ends-or-not : (s : Script) (g : Opened) (es : List Entry) (new : Watcher) (r last : ℕ) (rest b : Bool) → g.round ≡ r → last ≡ r → IsWhole s g.round g.tick g.old es → standing_of new ≡ left_after s g es → IsTrue b ↔ Ends s r rest (standing_of new) → IsTrue b ↔ EndsAfter s g es rest last
ends-or-not s g es new r last rest b same is whole left h =
    through b (Ends s r rest (standing_of new)) (EndsAfter s g es rest last) h
    (λ x. (whole, is ∙ sym same, subst (λ (y : Standing). Ends s g.round rest y) left (subst (λ (m : ℕ). Ends s m rest (standing_of new)) (sym same) x)))
    (λ x. subst (λ (y : Standing). Ends s r rest y) (sym left) (subst (λ (m : ℕ). Ends s m rest (left_after s g es)) same x.2))

pub end-start : (s : Script) (t : Track) (w : Watcher) (rest : Bool) (last : ℕ) → IsAt s t w → w.position ≡ position.Start → (u : Track) → May s t (line.End rest last) u → ⊥
end-start s t w rest last at is u may = subst (λ (v : Track). May s v (line.End rest last) u) (at-start s t w at is).0 may

pub end-end : (s : Script) (t : Track) (w : Watcher) (rest : Bool) (last : ℕ) → IsAt s t w → w.position ≡ position.End → (u : Track) → May s t (line.End rest last) u → ⊥
end-end s t w rest last at is u may = subst (λ (v : Track). May s v (line.End rest last) u) (at-end s t w at is) may

-- ---- whole rounds, and what comes behind them

-- the rounds of a script are few
pub few-within : (s : Script) (g : Opened) (es : List Entry) (w : Watcher) → IsWithin s g es w → g.round + 1 ≤ 100000
few-within s g es w h = (let few = few_rounds s h.making.sound in let lt = h.making.round in omega arith)

pub few-over : (s : Script) (r : ℕ) (w : Watcher) → IsOver s r w → r + 1 ≤ 100000
few-over s r w o = (let few = few_rounds s o.sound in let lt = o.round in omega arith)

-- a worker of a round that is closed
pub fits-over : (s : Script) (r : ℕ) (w : Watcher) → IsOver s r w → (k : ℕ) (d : Worker) → k < length w.workers.items → Fits s (get_or w.workers.items k d)
fits-over s r w o k d lt = (o.idle k d (omega (arith, o.count))).fits

-- whether events are left
pub rest-later : (s : Script) (r : ℕ) (w : Watcher) → IsOver s r w → (w.injection.next == length s.events) ≡ no_later s r
rest-later s r w o =
    later_by s r w.injection o.injection (λ q le. elim (cases_eq q (r + 1)) [
      | inl same ↦ subst (λ (n : ℕ). actions_in s n ≡ actions_of n (drop w.injection.next s.events)) (sym same) o.now
      | inr ne ↦ o.injection.later q (omega (arith, ne))
    ])

-- whether the next round has an event
asks_some : (s : Script) (o : Option TaskId) (xs : List Action) → o ≡ None → is_some (asked s (owing o xs)) ≡ not (length xs == 0)
asks_some s None [] e = refl
asks_some s None (x ∷ xs) e = sym (ap not (ne_eqb (length (x ∷ xs)) 0 (λ z. omega arith)))
asks_some s (Some j) xs e = cc

pub next-event : (s : Script) (r : ℕ) (w : Watcher) (c : Option Call) → IsOver s r w → c ≡ asked s (stage_in s (r + 1) w.injection) → is_some c ≡ has_event s (r + 1)
next-event s r w c o is =
    let es = filter (λ (e : Event). e.round == r + 1) s.events in
    let count : length (actions_left s (r + 1) w.injection) ≡ length es = ap length (sym o.now) ∙ length-map es (λ (e : Event). e.action) in
    ap is_some is ∙ asks_some s w.injection.held (actions_left s (r + 1) w.injection) o.held ∙ ap (λ n. not (n == 0)) count ∙ event-by s (r + 1) es refl

-- no caller has a call left
pub done-all : (s : Script) (g : Opened) (es : List Entry) (w : Watcher) → IsWithin s g es w → ((k : ℕ) (d : Worker) → k < length w.workers.items → asked s (stage_of s (get_or w.workers.items k d)) ≡ None) → asked s (stage_in s g.round w.injection) ≡ None → IsDone s (after_all s g es)
done-all s g es w h none last k le =
    elim (cases_eq k s.workers) [
      | inl same ↦ subst (λ (j : ℕ). asked s ((after_all s g es).at j) ≡ None) (sym same) (ap (asked s) (sym h.injects) ∙ last)
      | inr ne ↦ (let lt : k < s.workers = omega (arith, ne) in by k lt (workers-some w.workers.items k (omega (arith, h.count))))
    ]
  where
    workers-some : (ws : List Worker) (k : ℕ) → k < length ws → Worker
    workers-some [] k lt = absurd (omega arith)
    workers-some (v ∷ ws) k lt = v

    by : (k : ℕ) → k < s.workers → Worker → asked s ((after_all s g es).at k) ≡ None
    by k lt d = ap (asked s) (sym (worker-at s g es w k d h lt)) ∙ none k d (omega (arith, h.count))

pub done-worker : (s : Script) (g : Opened) (es : List Entry) (w : Watcher) (k : ℕ) (d : Worker) → IsWithin s g es w → IsDone s (after_all s g es) → k < length w.workers.items → asked s (stage_of s (get_or w.workers.items k d)) ≡ None
done-worker s g es w k d h done lt =
    let less : k < s.workers = omega (arith, h.count) in
    ap (asked s) (worker-at s g es w k d h less) ∙ done k (omega arith)

pub done-injection : (s : Script) (g : Opened) (es : List Entry) (w : Watcher) → IsWithin s g es w → IsDone s (after_all s g es) → asked s (stage_in s g.round w.injection) ≡ None
done-injection s g es w h done = ap (asked s) h.injects ∙ done s.workers (omega arith)

no_test : (n : ℕ) → nat_lt 0 n ≡ false → n ≡ 0
no_test n h = grind arith

-- no worker may draw
pub whole-drawn : (s : Script) (g : Opened) (es : List Entry) (w : Watcher) → IsWithin s g es w → IsDone s (after_all s g es) → ((k : ℕ) (d : Worker) → k < length w.workers.items → nat_lt 0 (draws_now s (stage_of s (get_or w.workers.items k d))) ≡ false) → IsWhole s g.round g.tick g.old es
whole-drawn s g es w h done none = (done, served-drawn s g es w.floor h.making done (λ k lt. by k lt (some w.workers.items (omega (arith, h.count)))))
  where
    some : (ws : List Worker) → 0 < length ws → Worker
    some [] lt = absurd (omega arith)
    some (v ∷ ws) lt = v

    by : (k : ℕ) → k < s.workers → Worker → draws_now s ((after_all s g es).at k) ≡ 0
    by k lt d = ap (draws_now s) (sym (worker-at s g es w k d h lt)) ∙ no_test (draws_now s (stage_of s (get_or w.workers.items k d))) (none k d (omega (arith, h.count)))

-- and one may, while a task waits
pub not-whole : (s : Script) (g : Opened) (es : List Entry) (w : Watcher) (k : ℕ) → IsWithin s g es w → IsDone s (after_all s g es) → (w.shared.waiting == 0) ≡ false → k < length w.workers.items → ((d : Worker) → 0 < draws_now s (stage_of s (get_or w.workers.items k d))) → IsWhole s g.round g.tick g.old es → ⊥
not-whole s g es w k h done waits lt draws whole =
    let less : k < s.workers = omega (arith, h.count) in
    elim (served-parts s g es w.floor w.shared h.making h.shared done whole.1) [
      | inl none ↦ (let is = eq-eqb w.shared.waiting 0 none in let it = waits in cc)
      | inr each ↦ (by (some w.workers.items (omega arith)) (each k less) less)
    ]
  where
    some : (ws : List Worker) → 0 < length ws → Worker
    some [] lt = absurd (omega arith)
    some (v ∷ ws) lt = v

    by : Worker → draws_now s ((after_all s g es).at k) ≡ 0 → k < s.workers → ⊥
    by d none less = (let has_some = draws d in let here = ap (draws_now s) (worker-at s g es w k d h less) in omega arith)

-- ---- an entry that is made

-- what is counted of the shared box goes on with an entry
abbrev pub NotesNext : Script → ℕ → Entry → SharedBox → SharedBox → Type 0
NotesNext s r e old new = (opened state : State) (es : List Entry) → Counts s r opened state es old → Allowed state e → state.workers ≡ s.workers → length state.tasks ≡ length s.tasks → Counts s r opened (stepped state e) (es ++ e ∷ []) new

counts-next : (s : Script) (g : Opened) (es : List Entry) (e : Entry) (r : ℕ) (w new : Watcher) → IsWithin s g es w → g.round ≡ r → Allowed w.floor.machine e → Made s e w.floor new.floor → NotesNext s r e w.shared new.shared → Counts s g.round g.old.state new.floor.machine (es ++ e ∷ []) new.shared
counts-next s g es e r w new h same a made notes =
    let here : Counts s r g.old.state w.floor.machine es w.shared = subst (λ (n : ℕ). Counts s n g.old.state w.floor.machine es w.shared) same h.shared in
    let there = notes g.old.state w.floor.machine es here a (workers-making s g es w.floor h.making) (tasks-making s g es w.floor h.making) in
    subst (λ (n : ℕ). Counts s n g.old.state new.floor.machine (es ++ e ∷ []) new.shared) (sym same) (subst (λ (st : State). Counts s r g.old.state st (es ++ e ∷ []) new.shared) (sym made.state) there)

pub makes-worker : (s : Script) (g : Opened) (es : List Entry) (e : Entry) (r : ℕ) (w new : Watcher) (v u : Worker) → IsWithin s g es w → g.round ≡ r → AsksNext s (after_all s g es) e → Allowed w.floor.machine e → Made s e w.floor new.floor → NotesNext s r e w.shared new.shared → e.caller.0 < length w.workers.items → v ≡ get_or w.workers.items e.caller.0 v → number_of u ≡ number_of v → (Works s g es w.floor v → IsNext s (after_all s g es) e → number_of v ≡ e.caller.0 → Turning s g (es ++ e ∷ []) new.floor.machine u) → new.workers.items ≡ set w.workers.items e.caller.0 u → new.injection ≡ w.injection → MayEnter s (after_all s g es) e × IsWithin s g (es ++ e ∷ []) new
makes-worker s g es e r w new v u h same asks a made notes lt at number turned workers injection =
    let may = may-enter s g es w e h asks a in
    let next = next-of s g es w e h may in
    let works = works-at s g es w v e.caller.0 h lt at in
    (may, within-worker s g es e w new v u h next made lt at number (turned works.0 next works.1) workers injection (counts-next s g es e r w new h same a made notes))

pub makes-injector : (s : Script) (g : Opened) (es : List Entry) (e : Entry) (r : ℕ) (w new : Watcher) → IsWithin s g es w → g.round ≡ r → AsksNext s (after_all s g es) e → Allowed w.floor.machine e → Made s e w.floor new.floor → NotesNext s r e w.shared new.shared → length w.workers.items ≤ e.caller.0 → new.workers.items ≡ w.workers.items → AtEvents s r new.injection → ((k tick : ℕ) → stage_in s r new.injection ≡ heard s (caller k) tick e.reply (stage_in s r w.injection)) → MayEnter s (after_all s g es) e × IsWithin s g (es ++ e ∷ []) new
makes-injector s g es e r w new h same asks a made notes le workers events hears =
    let may = may-enter s g es w e h asks a in
    let next = next-of s g es w e h may in
    let at : AtEvents s g.round new.injection = subst (λ (n : ℕ). AtEvents s n new.injection) (sym same) events in
    let heard_it : (k tick : ℕ) → stage_in s g.round new.injection ≡ heard s (caller k) tick e.reply (stage_in s g.round w.injection) = λ k tick. subst (λ (n : ℕ). stage_in s n new.injection ≡ heard s (caller k) tick e.reply (stage_in s n w.injection)) (sym same) (hears k tick) in
    (may, within-injector s g es e w new h next made le workers at heard_it (counts-next s g es e r w new h same a made notes))

-- ---- answers on a whole round

pub whole-or-not : (s : Script) (g : Opened) (es : List Entry) (w : Watcher) (b : Bool) → IsWithin s g es w → IsDone s (after_all s g es) → (w.shared.waiting == 0) ≡ false → MatchBool b ((k : ℕ) × (k < length w.workers.items) × ((d : Worker) → 0 < draws_now s (stage_of s (get_or w.workers.items k d)))) ((k : ℕ) (d : Worker) → k < length w.workers.items → nat_lt 0 (draws_now s (stage_of s (get_or w.workers.items k d))) ≡ false) → IsTrue (not b) ↔ IsWhole s g.round g.tick g.old es
whole-or-not s g es w true h done waits m = never (IsWhole s g.round g.tick g.old es) (not-whole s g es w m.0 h done waits m.1 m.2)
whole-or-not s g es w false h done waits m = surely (IsWhole s g.round g.tick g.old es) (whole-drawn s g es w h done m)

pub done-or-not : (s : Script) (g : Opened) (es : List Entry) (w : Watcher) (r : ℕ) (o : Option Call) (b : Bool) → IsWithin s g es w → g.round ≡ r → ((k : ℕ) (d : Worker) → k < length w.workers.items → asked s (stage_of s (get_or w.workers.items k d)) ≡ None) → o ≡ asked s (stage_in s r w.injection) → is_some o ≡ not b → IsTrue b ↔ IsDone s (after_all s g es)
done-or-not s g es w r None true h same none is none_is =
    let here : asked s (stage_in s g.round w.injection) ≡ None = ap (λ n. asked s (stage_in s n w.injection)) same ∙ sym is in
    surely (IsDone s (after_all s g es)) (done-all s g es w h none here)
done-or-not s g es w r None false h same none is none_is = cc
done-or-not s g es w r (Some x) true h same none is none_is = cc
done-or-not s g es w r (Some x) false h same none is none_is =
    never (IsDone s (after_all s g es)) (λ done. (let here : Some x ≡ None = is ∙ ap (λ n. asked s (stage_in s n w.injection)) (sym same) ∙ done-injection s g es w h done in cc))

-- a position that is in no round
pub other-position : (p : Position) → ((n T : ℕ) → p ≡ position.Round n T → ⊥) → (p ≡ position.Start) ⊎ (p ≡ position.End)
other-position position.Start other = inl refl
other-position (position.Round n T) other = absurd (other n T refl)
other-position position.End other = inr refl
