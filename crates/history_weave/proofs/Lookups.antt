-- What the index tells of the next look and the next get.
use Rattle.std.proofs.Common.{◌≡◌, ◌≢◌, ℕ, zero, suc, ◌+◌, ◌/◌, ◌%◌, ◌<◌, ◌≤◌, inl, inr, Bool, true, false, ◌==◌, List, [], ◌∷◌, length, get_or, drop, refl, sym, ap, subst, ◌∙◌, arith, eq-eqb, eqb-true}
use Rattle.std.proofs.lemmas.Bool.{cases_eq, cases_lt, cases_Bool}
use Rattle.std.specs.Int.{bit_at}
use Rattle.task_machine.specs.declared.task.Place.{Place}
use Rattle.task_machine.specs.declared.task.Place.TheVariants as places
use Rattle.task_machine.specs.declared.task.Seen.{Seen}
use Rattle.task_machine.specs.declared.task.Seen.TheVariants as views
use Rattle.task_machine.specs.declared.task.TaskState.{TaskState}
use Rattle.task_machine.specs.Task.{seen_at, seen_of}
use Rattle.task_machine.specs.declared.calls.Call.{Call}
use Rattle.task_machine.specs.declared.calls.Call.TheVariants as calls
use Rattle.task_machine.specs.declared.calls.Reply.{Reply}
use Rattle.task_machine.specs.declared.calls.Reply.TheVariants as replies
use Rattle.task_machine.specs.declared.calls.Entry.{Entry}
use Rattle.task_machine.specs.Event.{Change, Event, sees, gets, misses, gathers, event_at}
use Rattle.task_machine.specs.Logged.{Logged}
use Rattle.history_weave.specs.declared.index.Index.{Index}
use Rattle.history_weave.specs.declared.kinds.Kind.{Kind}
use Rattle.history_weave.specs.declared.kinds.Kind.TheVariants as kinds
use Rattle.history_weave.specs.Rule.{is_quiet, Lets, LetsBy, Holds, HoldsBy, SawTakes, TellsTakes, TellsTakesBy, draws_in, IsLastDraw}
use Rattle.history_weave.specs.Kinds.{kind, is_look, looks_at, is_get, gathers_at, seen_mark, kind_mark, LooksQuietly, HoldsTask, SameTakes, SawTakesOf}
use Rattle.history_weave.specs.Places.{entry_at, place_at, none, log_at, left_of, sum_over}
use Rattle.history_weave.specs.Indexed.{groups, tasks_of, IsIndexed, IsNextKind}
use Rattle.history_weave.proofs.NextPlaces.{Passes, Found, found, not_found}
use Rattle.history_weave.proofs.Entering.{draws-read}
use Rattle.history_weave.proofs.KindEvents.{Events, Events-kind, gathers-look, draw-here}
use Rattle.history_weave.proofs.Sums.{entry_count-more, entry_count-whole, sum_over-raise, sum_over-zero, sum_over-term, sum_over-two, left_of-past}

-- what decides nothing
lets-skip : (x : Seen) (v : Event) (later : Type 0) → is_look v ≡ false → (LetsBy x v later → later) × (later → LetsBy x v later)
lets-skip x (sees y c) later h = (cc)
lets-skip x v later h = (λ a. a, λ a. a)

lets-passes : (i : ℕ) (x : Seen) → Passes (looks_at i) (Lets i x)
lets-passes i x e es h = lets-skip x (event_at i e) (Lets i x es) h

tells-skip : (m : ℕ) (v : Event) (later : Type 0) → is_look v ≡ false → (TellsTakesBy m v later → later) × (later → TellsTakesBy m v later)
tells-skip m (sees y c) later h = (cc)
tells-skip m v later h = (λ a. a, λ a. a)

tells-passes : (i m : ℕ) → Passes (looks_at i) (TellsTakes i m)
tells-passes i m e es h = tells-skip m (event_at i e) (TellsTakes i m es) h

-- whether an event is a get's
abbrev is_gather : Event → Bool
is_gather gets = true
is_gather misses = true
is_gather v = false

holds-skip : (v : Event) (later : Type 0) → is_gather v ≡ false → (HoldsBy v later → later) × (later → HoldsBy v later)
holds-skip gets later h = (cc)
holds-skip misses later h = (cc)
holds-skip v later h = (λ a. a, λ a. a)

no_gather : (κ : Kind) (r : Reply) (v : ℕ → Event) (i : ℕ) → Events κ r v → is_get (i / 64) κ ≡ false → is_gather (v i) ≡ false
no_gather (kinds.Look t x q) r v i h miss =
    elim (cases_eq i t) [ inl same ↦ rw (same, h.2) refl | inr ne ↦ rw (h.3 i ne) refl ]
no_gather (kinds.Post t b) r v i h miss =
    elim (cases_eq i t) [ inl same ↦ rw (same, h.0) refl | inr ne ↦ rw (h.1 i ne) refl ]
no_gather (kinds.Get g) r v i h miss =
    rw (h.3 i (λ e. (let hit = eq-eqb (i / 64) g e in cc))) refl
no_gather (kinds.Draw t) r v i h miss =
    elim (cases_eq i t) [ inl same ↦ rw (same, h.0) refl | inr ne ↦ rw (h.1 i ne) refl ]
no_gather kinds.Apart r v i h miss = rw (h i) refl

holds-passes : (i : ℕ) → Passes (gathers_at (i / 64)) (Holds i)
holds-passes i e es h =
    holds-skip (event_at i e) (Holds i es) (no_gather (kind e.call e.reply) e.reply (λ j. event_at j e) i (Events-kind (kind e.call e.reply) e refl) h)

-- a look decides
look-by : (κ : Kind) (r : Reply) (v : ℕ → Event) (i : ℕ) → Events κ r v → is_look (v i) ≡ true → (x : Seen) × (c : Change) × (κ ≡ kinds.Look i x (is_quiet x c)) × (v i ≡ sees x c)
look-by (kinds.Look t x q) r v i h hit =
    elim (cases_eq i t) [
      | inl same ↦ (x, h.0, ap (λ s. kinds.Look s x q) (sym same) ∙ ap (λ b. kinds.Look i x b) h.1, ap v same ∙ h.2)
      | inr ne ↦ absurd (let miss = h.3 i ne in let f = ap is_look miss in cc)
    ]
look-by (kinds.Post t b) r v i h hit =
    elim (cases_eq i t) [
      | inl same ↦ absurd (let p = ap v same ∙ h.0 in let f = ap is_look p in cc)
      | inr ne ↦ absurd (let miss = h.1 i ne in let f = ap is_look miss in cc)
    ]
look-by (kinds.Get g) r v i h hit =
    elim (cases_eq (i / 64) g) [
      | inl same ↦ absurd (let p = h.2 i same in let f = ap is_look p ∙ gathers-look i h.0 in cc)
      | inr ne ↦ absurd (let miss = h.3 i ne in let f = ap is_look miss in cc)
    ]
look-by (kinds.Draw t) r v i h hit =
    elim (cases_eq i t) [
      | inl same ↦ absurd (let p = ap v same ∙ h.0 in let f = ap is_look p in cc)
      | inr ne ↦ absurd (let miss = h.1 i ne in let f = ap is_look miss in cc)
    ]
look-by kinds.Apart r v i h hit = absurd (let miss = h i in let f = ap is_look miss in cc)

-- what a look is, in all respects
pub record IsLook (i : ℕ) (e : Entry) : Type 0 where
  pub saw : Seen
  pub change : Change
  pub kind_is : kind e.call e.reply ≡ kinds.Look i saw (is_quiet saw change)
  pub event : event_at i e ≡ sees saw change

is_look-here : (i : ℕ) (e : Entry) → looks_at i e ≡ true → IsLook i e
is_look-here i e hit =
    let h = look-by (kind e.call e.reply) e.reply (λ j. event_at j e) i (Events-kind (kind e.call e.reply) e refl) hit in
    record { saw = h.0; change = h.1; kind_is = h.2; event = h.3 }

look-lets : (i : ℕ) (e : Entry) (x : Seen) (later : Type 0) → looks_at i e ≡ true → (LooksQuietly x (kind e.call e.reply) → ⊥) → LetsBy x (event_at i e) later
look-lets i e x later hit loud =
    let l = is_look-here i e hit in
    rw l.event (λ same. quiet_not (is_quiet l.saw l.change) (λ quiet. loud (rw l.kind_is (quiet, same))))
  where
    quiet_not : (b : Bool) → (b ≡ true → ⊥) → b ≡ false
    quiet_not true h = absurd (h refl)
    quiet_not false h = refl

look-refutes : (i : ℕ) (e : Entry) (x : Seen) (later : Type 0) → looks_at i e ≡ true → LooksQuietly x (kind e.call e.reply) → LetsBy x (event_at i e) later → ⊥
look-refutes i e x later hit quiet lets =
    let l = is_look-here i e hit in
    let q : LooksQuietly x (kinds.Look i l.saw (is_quiet l.saw l.change)) = rw l.kind_is at quiet in
    let f : LetsBy x (sees l.saw l.change) later = rw l.event at lets in
    let loud = f q.1 in let still = q.0 in cc

-- where the next entry stands that a test passes, as the code knows it
pub record At (logs : List Logged) (k p : ℕ) (e : Entry) : Type 0 where
  pub entry : (d : Entry) → entry_at logs k p d ≡ e

pub at-read : (logs : List Logged) (k p q : ℕ) (e : Entry) → p ≡ q → ((d : Entry) → entry_at logs k p d ≡ e) → At logs k q e
at-read logs k p q e same h = record { entry = λ d. ap (λ r. entry_at logs k r d) (sym same) ∙ h d }

log-few : (logs : List Logged) (x : Index) (k : ℕ) → IsIndexed logs x → k < length logs → length (log_at logs k) ≤ none
log-few logs x k ix lk =
    let few = ix.layout.few in
    let more = entry_count-more logs k lk in let whole = entry_count-whole logs (k + 1) in omega arith

-- the next look at task i in log k
look-found : (logs : List Logged) (x : Index) (i k : ℕ) (F : List Entry → Type 0) (d : Entry) → IsIndexed logs x → i < tasks_of x → k < length logs → place_at x.looks i k ≢ none → Passes (looks_at i) F → Found (looks_at i) F (log_at logs k) (get_or x.next.items k 0) (place_at x.looks i k) d
look-found logs x i k F d ix li lk ne pass =
    found (looks_at i) F (log_at logs k) (get_or x.next.items k 0) (place_at x.looks i k) d pass (sym (ix.looks.firsts i k li lk)) ne

look-none : (logs : List Logged) (x : Index) (i k : ℕ) (F : List Entry → Type 0) → IsIndexed logs x → i < tasks_of x → k < length logs → place_at x.looks i k ≡ none → Passes (looks_at i) F → (F (left_of logs x.next.items k) → F []) × (F [] → F (left_of logs x.next.items k))
look-none logs x i k F ix li lk no_place pass =
    not_found (looks_at i) F (log_at logs k) (get_or x.next.items k 0) pass (log-few logs x k ix lk) (ix.layout.within k lk) (sym (ix.looks.firsts i k li lk) ∙ no_place)

some_entry : Entry
some_entry = record { caller = record { 0 = 0 }; call = calls.Get 0; reply = replies.Done }

pub look-within : (logs : List Logged) (x : Index) (i k : ℕ) → IsIndexed logs x → i < tasks_of x → k < length logs → place_at x.looks i k ≢ none → place_at x.looks i k < length (log_at logs k)
look-within logs x i k ix li lk ne =
    (look-found logs x i k (Lets i views.Gone) some_entry ix li lk ne (lets-passes i views.Gone)).within

hit-entry : (f : Entry → Bool) (logs : List Logged) (k p : ℕ) (e d : Entry) → At logs k p e → f (entry_at logs k p d) ≡ true → f e ≡ true
hit-entry f logs k p e d at h = sym (ap f (at.entry d)) ∙ h

pub lets-none : (logs : List Logged) (x : Index) (i k : ℕ) (saw : Seen) → IsIndexed logs x → i < tasks_of x → k < length logs → place_at x.looks i k ≡ none → Lets i saw (left_of logs x.next.items k)
lets-none logs x i k saw ix li lk e = (look-none logs x i k (Lets i saw) ix li lk e (lets-passes i saw)).1 tt

pub lets-found : (logs : List Logged) (x : Index) (i k : ℕ) (saw : Seen) (e : Entry) → IsIndexed logs x → i < tasks_of x → k < length logs → place_at x.looks i k ≢ none → At logs k (place_at x.looks i k) e → (LooksQuietly saw (kind e.call e.reply) → ⊥) → Lets i saw (left_of logs x.next.items k)
lets-found logs x i k saw e ix li lk ne at loud =
    let f = look-found logs x i k (Lets i saw) e ix li lk ne (lets-passes i saw) in
    let rest = drop (suc (place_at x.looks i k)) (log_at logs k) in
    let here : entry_at logs k (place_at x.looks i k) e ≡ e = at.entry e in
    let hit : looks_at i e ≡ true = hit-entry (looks_at i) logs k (place_at x.looks i k) e e at f.hit in
    f.back (subst (λ (d : Entry). Lets i saw (d ∷ rest)) (sym here) (look-lets i e saw (Lets i saw rest) hit loud))

pub lets-refuted : (logs : List Logged) (x : Index) (i k : ℕ) (saw : Seen) (e : Entry) → IsIndexed logs x → i < tasks_of x → k < length logs → place_at x.looks i k ≢ none → At logs k (place_at x.looks i k) e → LooksQuietly saw (kind e.call e.reply) → Lets i saw (left_of logs x.next.items k) → ⊥
lets-refuted logs x i k saw e ix li lk ne at quiet lets =
    let f = look-found logs x i k (Lets i saw) e ix li lk ne (lets-passes i saw) in
    let rest = drop (suc (place_at x.looks i k)) (log_at logs k) in
    let here : entry_at logs k (place_at x.looks i k) e ≡ e = at.entry e in
    let hit : looks_at i e ≡ true = hit-entry (looks_at i) logs k (place_at x.looks i k) e e at f.hit in
    look-refutes i e saw (Lets i saw rest) hit quiet (subst (λ (d : Entry). Lets i saw (d ∷ rest)) here (f.there lets))

-- what is quiet and saw x has the mark of x
quiet-mark : (x : Seen) (κ : Kind) → LooksQuietly x κ → kind_mark κ ≡ seen_mark x
quiet-mark x (kinds.Look t y q) h = rw (h.0, h.1) refl
quiet-mark x (kinds.Post t b) h = absurd h
quiet-mark x (kinds.Get g) h = absurd h
quiet-mark x (kinds.Draw t) h = absurd h
quiet-mark x kinds.Apart h = absurd h

-- a log whose next look has another mark lets what was seen go
pub lets-marked : (logs : List Logged) (x : Index) (i k : ℕ) (saw : Seen) → IsIndexed logs x → i < tasks_of x → k < length logs → place_at x.marks i k ≢ seen_mark saw → Lets i saw (left_of logs x.next.items k)
lets-marked logs x i k saw ix li lk differs =
    elim (cases_eq (place_at x.looks i k) none) [
      | inl no_place ↦ lets-none logs x i k saw ix li lk no_place
      | inr ne ↦
          let p = place_at x.looks i k in
          let e = entry_at logs k p some_entry in
          let within = look-within logs x i k ix li lk ne in
          let reads : (d : Entry) → entry_at logs k p d ≡ e = λ d. any_default (log_at logs k) p d some_entry within in
          let at : At logs k p e = record { entry = reads } in
          let mark = ix.marked i k e (rw ix.shape.look_rows li) (rw ix.shape.look_columns lk) ne (reads e) in
          lets-found logs x i k saw e ix li lk ne at (λ quiet. differs (mark ∙ quiet-mark saw (kind e.call e.reply) quiet))
    ]
  where
    any_default : (es : List Entry) (p : ℕ) (d f : Entry) → p < length es → get_or es p d ≡ get_or es p f
    any_default [] p d f lt = absurd (omega arith)
    any_default (e ∷ es) zero d f lt = refl
    any_default (e ∷ es) (suc p) d f lt = any_default es p d f (omega arith)

-- the next look of caller k tells the takes
look-reply : (c : Call) (r : Reply) (t : ℕ) (y : Seen) (q : Bool) → kind c r ≡ kinds.Look t y q → r ≡ replies.Task y
look-reply (calls.Wake i f) (replies.Task x) t y q h = let e : x ≡ y = cc in ap replies.Task e
look-reply (calls.Kill i) (replies.Task x) t y q h = let e : x ≡ y = cc in ap replies.Task e
look-reply (calls.Take i) (replies.Task x) t y q h = let e : x ≡ y = cc in ap replies.Task e
look-reply (calls.DropRun i) (replies.Task x) t y q h = let e : x ≡ y = cc in ap replies.Task e
look-reply (calls.Retire i) (replies.Task x) t y q h = let e : x ≡ y = cc in ap replies.Task e
look-reply (calls.Get g) (replies.Group n) t y q h = cc
look-reply c r t y q h = cc

same-saw : (x y : Seen) (m : ℕ) → SawTakes m y → SameTakes x y → SawTakes m x
same-saw views.Gone y m saw same = same
same-saw (views.Live st p b n) views.Gone m saw same = absurd saw
same-saw (views.Live st p b n) (views.Live su q c o) m saw same = same ∙ saw

saw-same : (x y : Seen) (m : ℕ) → SawTakes m y → SawTakes m x → SameTakes x y
saw-same views.Gone y m saw here = here
saw-same (views.Live st p b n) views.Gone m saw here = saw
saw-same (views.Live st p b n) (views.Live su q c o) m saw here = here ∙ sym saw

same-some : (x y : Seen) → SameTakes x y → (m : ℕ) × SawTakes m y
same-some views.Gone y h = absurd h
same-some (views.Live st p b n) views.Gone h = absurd h
same-some (views.Live st p b n) (views.Live su q c o) h = (o, refl)

saw-some : (r : Reply) (y : Seen) → SawTakesOf r y → (m : ℕ) × SawTakes m y
saw-some (replies.Task x) y h = same-some x y h
saw-some (replies.Group n) y h = absurd h
saw-some replies.Done y h = absurd h

pub tells-sound : (logs : List Logged) (x : Index) (i k : ℕ) (now : Seen) (e : Entry) → IsIndexed logs x → i < tasks_of x → k < length logs → place_at x.looks i k ≢ none → At logs k (place_at x.looks i k) e → SawTakesOf e.reply now → (m : ℕ) × SawTakes m now × TellsTakes i m (left_of logs x.next.items k)
tells-sound logs x i k now e ix li lk ne at saw =
    let some = saw-some e.reply now saw in
    let m = some.0 in
    let f = look-found logs x i k (TellsTakes i m) e ix li lk ne (tells-passes i m) in
    let rest = drop (suc (place_at x.looks i k)) (log_at logs k) in
    let here : entry_at logs k (place_at x.looks i k) e ≡ e = at.entry e in
    let hit : looks_at i e ≡ true = hit-entry (looks_at i) logs k (place_at x.looks i k) e e at f.hit in
    let l = is_look-here i e hit in
    let r = look-reply e.call e.reply i l.saw (is_quiet l.saw l.change) l.kind_is in
    let same : SameTakes l.saw now = subst (λ (q : Reply). SawTakesOf q now) r saw in
    let tells : TellsTakesBy m (event_at i e) (TellsTakes i m rest) = rw l.event (same-saw l.saw now m some.1 same) in
    (m, some.1, f.back (subst (λ (d : Entry). TellsTakes i m (d ∷ rest)) (sym here) tells))

pub tells-complete : (logs : List Logged) (x : Index) (i k m : ℕ) (now : Seen) (e : Entry) → IsIndexed logs x → i < tasks_of x → k < length logs → place_at x.looks i k ≢ none → At logs k (place_at x.looks i k) e → SawTakes m now → TellsTakes i m (left_of logs x.next.items k) → SawTakesOf e.reply now
tells-complete logs x i k m now e ix li lk ne at saw tells =
    let f = look-found logs x i k (TellsTakes i m) e ix li lk ne (tells-passes i m) in
    let rest = drop (suc (place_at x.looks i k)) (log_at logs k) in
    let here : entry_at logs k (place_at x.looks i k) e ≡ e = at.entry e in
    let hit : looks_at i e ≡ true = hit-entry (looks_at i) logs k (place_at x.looks i k) e e at f.hit in
    let l = is_look-here i e hit in
    let r = look-reply e.call e.reply i l.saw (is_quiet l.saw l.change) l.kind_is in
    let by : TellsTakesBy m (event_at i e) (TellsTakes i m rest) = subst (λ (d : Entry). TellsTakes i m (d ∷ rest)) here (f.there tells) in
    let told : TellsTakesBy m (sees l.saw l.change) (TellsTakes i m rest) = rw l.event at by in
    subst (λ (q : Reply). SawTakesOf q now) (sym r) (saw-same l.saw now m saw told)

pub tells-none : (logs : List Logged) (x : Index) (i k m : ℕ) → IsIndexed logs x → i < tasks_of x → k < length logs → place_at x.looks i k ≡ none → TellsTakes i m (left_of logs x.next.items k) → ⊥
tells-none logs x i k m ix li lk e tells =
    (look-none logs x i k (TellsTakes i m) ix li lk e (tells-passes i m)).0 tells

-- the next get of task i's group in log k
get-found : (logs : List Logged) (x : Index) (i k : ℕ) (d : Entry) → IsIndexed logs x → i / 64 < groups (tasks_of x) → k < length logs → place_at x.gets (i / 64) k ≢ none → Found (gathers_at (i / 64)) (Holds i) (log_at logs k) (get_or x.next.items k 0) (place_at x.gets (i / 64) k) d
get-found logs x i k d ix li lk ne =
    found (gathers_at (i / 64)) (Holds i) (log_at logs k) (get_or x.next.items k 0) (place_at x.gets (i / 64) k) d (holds-passes i) (sym (ix.gets.firsts (i / 64) k li lk)) ne

pub get-within : (logs : List Logged) (x : Index) (i k : ℕ) → IsIndexed logs x → i / 64 < groups (tasks_of x) → k < length logs → place_at x.gets (i / 64) k ≢ none → place_at x.gets (i / 64) k < length (log_at logs k)
get-within logs x i k ix li lk ne = (get-found logs x i k some_entry ix li lk ne).within

pub holds-none : (logs : List Logged) (x : Index) (i k : ℕ) → IsIndexed logs x → i / 64 < groups (tasks_of x) → k < length logs → place_at x.gets (i / 64) k ≡ none → Holds i (left_of logs x.next.items k)
holds-none logs x i k ix li lk e =
    (not_found (gathers_at (i / 64)) (Holds i) (log_at logs k) (get_or x.next.items k 0) (holds-passes i) (log-few logs x k ix lk) (ix.layout.within k lk) (sym (ix.gets.firsts (i / 64) k li lk) ∙ e)).1 tt

get-by : (κ : Kind) (r : Reply) (v : ℕ → Event) (i : ℕ) → Events κ r v → is_get (i / 64) κ ≡ true → (n : ℕ) × (r ≡ replies.Group n) × (v i ≡ gathers i (replies.Group n))
get-by (kinds.Get g) r v i h hit = (h.0, h.1, h.2 i (eqb-true (i / 64) g hit))
get-by (kinds.Look t x q) r v i h hit = cc
get-by (kinds.Post t b) r v i h hit = cc
get-by (kinds.Draw t) r v i h hit = cc
get-by kinds.Apart r v i h hit = cc

gather-holds : (n i : ℕ) (later : Type 0) → bit_at n (i % 64) ≡ 1 → HoldsBy (gathers i (replies.Group n)) later
gather-holds n i later h = let hit = eq-eqb (bit_at n (i % 64)) 1 h in rw hit tt

holds-gather : (n i : ℕ) (later : Type 0) → HoldsBy (gathers i (replies.Group n)) later → bit_at n (i % 64) ≡ 1
holds-gather n i later h =
    elim (cases_Bool (bit_at n (i % 64) == 1)) [
      | inl hit ↦ eqb-true (bit_at n (i % 64)) 1 hit
      | inr miss ↦ (let g : HoldsBy misses later = rw miss at h in absurd g)
    ]

get-holds : (i : ℕ) (e : Entry) (later : Type 0) → gathers_at (i / 64) e ≡ true → HoldsTask i e.reply → HoldsBy (event_at i e) later
get-holds i e later hit h =
    let g = get-by (kind e.call e.reply) e.reply (λ j. event_at j e) i (Events-kind (kind e.call e.reply) e refl) hit in
    let here : HoldsTask i (replies.Group g.0) = subst (λ (r : Reply). HoldsTask i r) g.1 h in
    subst (λ (v : Event). HoldsBy v later) (sym g.2) (gather-holds g.0 i later here)

holds-get : (i : ℕ) (e : Entry) (later : Type 0) → gathers_at (i / 64) e ≡ true → HoldsBy (event_at i e) later → HoldsTask i e.reply
holds-get i e later hit h =
    let g = get-by (kind e.call e.reply) e.reply (λ j. event_at j e) i (Events-kind (kind e.call e.reply) e refl) hit in
    let here = holds-gather g.0 i later (subst (λ (v : Event). HoldsBy v later) g.2 h) in
    subst (λ (r : Reply). HoldsTask i r) (sym g.1) here

pub holds-found : (logs : List Logged) (x : Index) (i k : ℕ) (e : Entry) → IsIndexed logs x → i / 64 < groups (tasks_of x) → k < length logs → place_at x.gets (i / 64) k ≢ none → At logs k (place_at x.gets (i / 64) k) e → HoldsTask i e.reply → Holds i (left_of logs x.next.items k)
holds-found logs x i k e ix li lk ne at h =
    let f = get-found logs x i k e ix li lk ne in
    let rest = drop (suc (place_at x.gets (i / 64) k)) (log_at logs k) in
    let here : entry_at logs k (place_at x.gets (i / 64) k) e ≡ e = at.entry e in
    let hit : gathers_at (i / 64) e ≡ true = hit-entry (gathers_at (i / 64)) logs k (place_at x.gets (i / 64) k) e e at f.hit in
    f.back (subst (λ (d : Entry). Holds i (d ∷ rest)) (sym here) (get-holds i e (Holds i rest) hit h))

pub found-holds : (logs : List Logged) (x : Index) (i k : ℕ) (e : Entry) → IsIndexed logs x → i / 64 < groups (tasks_of x) → k < length logs → place_at x.gets (i / 64) k ≢ none → At logs k (place_at x.gets (i / 64) k) e → Holds i (left_of logs x.next.items k) → HoldsTask i e.reply
found-holds logs x i k e ix li lk ne at h =
    let f = get-found logs x i k e ix li lk ne in
    let rest = drop (suc (place_at x.gets (i / 64) k)) (log_at logs k) in
    let here : entry_at logs k (place_at x.gets (i / 64) k) e ≡ e = at.entry e in
    let hit : gathers_at (i / 64) e ≡ true = hit-entry (gathers_at (i / 64)) logs k (place_at x.gets (i / 64) k) e e at f.hit in
    holds-get i e (Holds i rest) hit (subst (λ (d : Entry). Holds i (d ∷ rest)) here (f.there h))

-- draws that are left
first-draw : (e : Entry) (es l : List Entry) (t : ℕ) → l ≡ e ∷ es → kind e.call e.reply ≡ kinds.Draw t → 1 ≤ draws_in t l
first-draw e es l t h d = let one = draw-here t e d in let more = ap (draws_in t) h in omega arith

pub last-sound : (logs : List Logged) (x : Index) (k t n : ℕ) → IsIndexed logs x → t < tasks_of x → k < length logs → IsNextKind logs x.next.items k (kinds.Draw t) → n ≡ get_or x.draws.items t n → n ≡ 1 → IsLastDraw (left_of logs x.next.items) k t
last-sound logs x k t n ix lt lk first read one =
    let f : ℕ → ℕ = λ j. draws_in t (left_of logs x.next.items j) in
    let now : get_or x.draws.items t 0 ≡ 1 = sym (draws-read logs x t n ix lt read) ∙ one in
    let total : sum_over f 0 (length logs) ≡ 1 = sym (ix.draws t lt) ∙ now in
    let some : 1 ≤ f k = first-draw first.0 first.1 (left_of logs x.next.items k) t first.2 first.3 in
    let most = sum_over-term f 0 (length logs) k (omega arith) (omega arith) in (
      omega arith,
      λ j ne. elim (cases_lt j (length logs)) [
        | inl lj ↦
            (let two = sum_over-two f 0 (length logs) j k (omega arith) (omega arith) (omega arith) (omega arith) ne in omega arith)
        | inr past ↦ ap (draws_in t) (left_of-past logs x.next.items j past)
      ],
    )

pub last-complete : (logs : List Logged) (x : Index) (k t n : ℕ) → IsIndexed logs x → t < tasks_of x → k < length logs → n ≡ get_or x.draws.items t n → IsLastDraw (left_of logs x.next.items) k t → n ≡ 1
last-complete logs x k t n ix lt lk read last =
    let f : ℕ → ℕ = λ j. draws_in t (left_of logs x.next.items j) in
    let nothing : ℕ → ℕ = λ j. 0 in
    let one : f k ≡ 1 + nothing k = (let h = last.0 in omega arith) in
    let total = sum_over-raise nothing f 0 (length logs) k 1 (omega arith) (omega arith) one (λ j ne. last.1 j ne) in
    let rest = sum_over-zero nothing 0 (length logs) (λ j. refl) in
    let now : n ≡ sum_over f 0 (length logs) = draws-read logs x t n ix lt read ∙ ix.draws t lt in omega arith

-- a task in a box is seen with its takes
pub saw-boxed : (t : TaskState) (b : ℕ) → t.place ≡ places.Boxed b → SawTakes t.takes (seen_of t)
saw-boxed t b h = let e = ap (λ p. seen_at p t) h in rw e refl

saw-at : (p : Place) (t : TaskState) (m : ℕ) → SawTakes m (seen_at p t) → t.takes ≡ m
saw-at places.Gone t m h = absurd h
saw-at places.Rest t m h = h
saw-at p t m h = h

-- what a task is seen with is its takes
pub saw-task : (t : TaskState) (m : ℕ) → SawTakes m (seen_of t) → t.takes ≡ m
saw-task t m h = saw-at t.place t m h
