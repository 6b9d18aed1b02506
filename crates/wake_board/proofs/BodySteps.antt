-- The steps by which a body leaves its place, and comes back.
use Rattle.std.proofs.Common.{◌≡◌, ◌≢◌, ◌⊎◌, ℕ, ◌+◌, ◌-◌, ◌^◌, ◌<◌, ◌≤◌, ◌==◌, if◌then◌else◌, Bool, true, false, List, [], ◌∷◌, length, get_or, set, refl, sym, ap, subst, ◌∙◌, inl, inr, arith, eq-eqb}
use Rattle.std.proofs.lemmas.List.{set-get_or}
use mathlib.Core.Option.{Option, some, none, some-injective}
use lib.ListN.{get_elem?}
use Rattle.atomic_table.specs.Table as table
use Rattle.sched_base.specs.declared.names.CallerId.{CallerId}
use Rattle.task_machine.specs.declared.task.Place.{Place}
use Rattle.task_machine.specs.declared.task.Place.TheVariants as places
use Rattle.task_machine.specs.declared.task.TaskState.{TaskState}
use Rattle.task_machine.specs.declared.calls.Entry.{Entry}
use Rattle.task_machine.specs.Step.{State, task_at}
use Rattle.task_machine.specs.Own.{away, drawing, running, own_at}
use Rattle.step_tables.specs.Nexts.{row_after}
use Rattle.wake_board.specs.declared.body.Body.{Body}
use Rattle.wake_board.specs.declared.views.Opening.{Opening}
use Rattle.wake_board.specs.declared.views.Out.{Out}
use Rattle.wake_board.specs.declared.views.View.{View}
use Rattle.wake_board.specs.Start.{Start, start_of, start_in, IsShared}
use Rattle.wake_board.specs.Rule.{now_of, IsHomed, Leads, gain, IsOut, IsHome, IsAway, IsKept}
use Rattle.wake_board.specs.Outs.{out_of, HasBody, NoBody, without, gained, Carries}
use Rattle.wake_board.specs.Seen.{own_log, own_view, with_out, WasTaken, TellsOut, TellsFront, outs_after, TellsBack}
use Rattle.wake_board.proofs.Tables.{at_single}
use Rattle.wake_board.proofs.Moves.{own_first}
use Rattle.wake_board.proofs.Looks.{own-now}
use Rattle.wake_board.proofs.Runs.{caller, drawn_by}
use Rattle.wake_board.proofs.Pace.{few_takes}
use Rattle.wake_board.proofs.Places.{runner_near}
use Rattle.wake_board.proofs.Fronts.{Apart, cut, carried_at, slot_of, fronted, front_old, front_new, front_apart}
use Rattle.wake_board.proofs.Housing.{kept-outs, housed-out, housed-in, housed-order}

-- the body of a task that a caller has drawn is at home, where it is not out with its seat
at_home : (o : Opening) (s : table.State Body View) (r : IsKept o s) (id : ℕ) (v : View) (i : ℕ) → get_elem? s.views id ≡ some v → v.logs ≡ own_log v.logs ∷ [] → (task_at (now_of (start_of o) r.history) i).place ≡ places.Drawn (caller v.first) → NoBody v.outs i → IsHome (start_of o) (now_of (start_of o) r.history) s.homes i ⊎ IsAway s.views i → IsHome (start_of o) (now_of (start_of o) r.history) s.homes i
at_home o s r id v i at one place none_out (inl h) = h
at_home o s r id v i at one place none_out (inr (p, u, j, x, at', out, is)) =
    let led = (r.housed.outs p u j x at' out).leads in
    let m : State = now_of (start_of o) r.history in
    let here : r.owner v.first ≡ p = subst (Leads r.owner p) place (subst (λ (n : ℕ). Leads r.owner p (task_at m n).place) is led) in
    let mine : p ≡ id = sym here ∙ (own_first o s r id v at one).0 in
    let isv : u ≡ v = some-injective u v (sym (subst (λ (n : ℕ). get_elem? s.views n ≡ some u) mine at') ∙ at) in
    absurd (none_out j x (subst (λ (z : View). get_elem? z.outs j ≡ some x) isv out) is)

-- a drawn task's body goes out to its caller's seat
pub goes_out : (o : Opening) (slots id : ℕ) (me : table.Me Body View) (i : ℕ) → me.0.logs ≡ own_log me.0.logs ∷ [] → i < length (start_of o).state.tasks → own_view me.0 i ≡ drawing → NoBody me.0.outs i → table.Allows (IsKept o) slots id me 0 (λ n. n) (TellsOut i (table.step slots 0 0 0 none) me)
goes_out o slots id me i one within drew none_out s r sized at wide =
    let v : View = me.0 in
    let k : CallerId = caller v.first in
    let m : State = now_of (start_of o) r.history in
    let t : TaskState = task_at m i in
    let own = own_first o s r id v at one in
    let place : t.place ≡ places.Drawn k = drawn_by v.first t.place (own-now o s r id v i at one ∙ drew) in
    let shared : IsShared (start_of o) i = subst (IsHomed (start_of o) i) place (r.words.homed i) in
    let lives : t.place ≢ places.Gone = λ gone'. (let z = sym place ∙ gone' in cc) in
    let home = at_home o s r id v i at one place none_out (r.housed.bodies i within shared lives) in
    let body : Body = home.0 in
    let takes : body.takes ≡ t.takes = home.2.0 in
    let leads : Leads r.owner id t.place = subst (Leads r.owner id) (sym place) own.0 in
    let fits : t.takes ≡ body.takes + gain t.place = subst (λ (p : Place). t.takes ≡ body.takes + gain p) (sym place) (omega arith) in
    let same : set s.words 0 (get_or s.words 0 0) ≡ s.words = set-get_or s.words 0 0 in
    let start : start_of o ≡ start_in v.start = ap start_in (sym own.3) in
    let few : body.takes < 2 ^ 48 - 1 = (let z = few_takes o s r i within shared lives in omega arith) in (
      with_out v (out_of i body.takes ∷ v.outs),
      table.takes i body,
      home.1,
      kept-outs o s r id v (out_of i body.takes ∷ v.outs) (set s.words 0 (get_or s.words 0 0)) (set s.homes i none) same at (housed-out (start_of o) r.owner m s.homes s.views id v i body r.housed at within shared leads fits home.1),
      (
        body,
        record {
          seat = refl;
          shared = subst (λ (q : Start). IsShared q i) start shared;
          row = subst (λ (q : Start). body.row ≡ row_after q.nexts i body.takes) start (home.2.1 ∙ ap (row_after (start_of o).nexts i) (sym takes));
          room = few;
          taken = subst (λ (q : Start). WasTaken q v.first (own_log v.logs) i body.takes) start (r.history, r.legal, own.2, sym takes);
        },
      ),
    )

-- the caller of a seat with one log
seat_caller : (o : Opening) (s : table.State Body View) (r : IsKept o s) (id : ℕ) (v : View) (k : ℕ) → get_elem? s.views id ≡ some v → v.logs ≡ own_log v.logs ∷ [] → k ≤ (start_of o).state.workers → r.owner k ≡ id → k ≡ v.first
seat_caller o s r id v k at one near mine =
    let q = r.seated k near in
    let l = r.logs q.seat q.view q.place q.log q.at q.found in
    let there : q.seat ≡ id = sym (subst (λ (n : ℕ). r.owner n ≡ q.seat) q.caller l.owned) ∙ mine in
    let isv : q.view ≡ v = some-injective q.view v (sym (subst (λ (n : ℕ). get_elem? s.views n ≡ some q.view) there q.at) ∙ at) in
    let found : get_elem? (own_log v.logs ∷ []) q.place ≡ some q.log = subst (λ (ls : List (List Entry)). get_elem? ls q.place ≡ some q.log) one (subst (λ (z : View). get_elem? z.logs q.place ≡ some q.log) isv q.found) in
    let none' : q.place ≡ 0 = (at_single (own_log v.logs) q.log q.place found).0 in
    let first : v.first + q.place ≡ k = subst (λ (z : View). z.first + q.place ≡ k) isv q.caller in
    omega arith

none_gained : (b : Bool) → 0 ≡ gained (if b then drawing else away)
none_gained true = refl
none_gained false = refl

-- how the takes of a task whose body is out grew is told by what the caller has of it
led_gain : (o : Opening) (s : table.State Body View) (r : IsKept o s) (id : ℕ) (v : View) (i : ℕ) → get_elem? s.views id ≡ some v → v.logs ≡ own_log v.logs ∷ [] → i < length (start_of o).state.tasks → (p : Place) → (task_at (now_of (start_of o) r.history) i).place ≡ p → Leads r.owner id p → gain p ≡ gained (own_at v.first p)
led_gain o s r id v i at one within places.Rest e l = absurd l
led_gain o s r id v i at one within (places.Hands k) e l = absurd l
led_gain o s r id v i at one within (places.Boxed b) e l = absurd l
led_gain o s r id v i at one within places.Gone e l = absurd l
led_gain o s r id v i at one within (places.Drawn k) e l = none_gained (k.0 == v.first)
led_gain o s r id v i at one within (places.Runs k) e l =
    let near = runner_near o s r i within k e in
    let same : k.0 ≡ v.first = seat_caller o s r id v k.0 at one near l in
    ap (λ (b : Bool). gained (if b then running else away)) (sym (eq-eqb k.0 v.first same))

-- the first body that is out with a seat comes back
pub goes_in : (o : Opening) (slots id : ℕ) (me : table.Me Body View) (x : Out) (xs : List Out) (body : Body) (ys : List (ℕ × Body)) → me.0.logs ≡ own_log me.0.logs ∷ [] → me.0.outs ≡ x ∷ xs → me.1 ≡ (x.task, body) ∷ ys → body.takes ≡ x.takes + gained (own_view me.0 x.task) → body.row ≡ row_after (start_of o).nexts x.task body.takes → table.Allows (IsKept o) slots id me 0 (λ n. n) (TellsBack (table.step slots 0 0 0 none) me)
goes_in o slots id me x xs body ys one outs_are slots_are takes row s r sized at wide =
    let v : View = me.0 in
    let m : State = now_of (start_of o) r.history in
    let t : TaskState = task_at m x.task in
    let is : IsOut (start_of o) r.owner m s.homes id x = r.housed.outs id v 0 x at (subst (λ (l : List Out). get_elem? l 0 ≡ some x) (sym outs_are) refl) in
    let grew : gain t.place ≡ gained (own_view v x.task) = led_gain o s r id v x.task at one is.exists t.place refl is.leads ∙ ap gained (own-now o s r id v x.task at one) in
    let fits : body.takes ≡ t.takes = takes ∙ sym (is.takes ∙ ap (λ (n : ℕ). x.takes + n) grew) in
    let same : set s.words 0 (get_or s.words 0 0) ≡ s.words = set-get_or s.words 0 0 in
    let P : List (ℕ × Body) → List Out → Type 0 = λ c l. IsKept o (let y : table.State Body View = record { words = set s.words 0 (get_or s.words 0 0); homes = table.put_back s.homes c; views = set s.views id (with_out v (outs_after l)) } in y) in
    let made : P ((x.task, body) ∷ ys) (x ∷ xs) = kept-outs o s r id v xs (set s.words 0 (get_or s.words 0 0)) (set s.homes x.task (some body)) same at (housed-in (start_of o) r.owner m s.homes s.views id v x xs body r.housed at outs_are fits row) in (
      with_out v (outs_after v.outs),
      table.gives,
      tt,
      subst (λ (c : List (ℕ × Body)). P c v.outs) (sym slots_are) (subst (P ((x.task, body) ∷ ys)) (sym outs_are) made),
      refl,
    )

abbrev pub seat_of : View → List (ℕ × Body) → table.Me Body View
seat_of v l = (v, l)

-- the slot of a body that is out comes before the others of its seat
pub comes_first : (o : Opening) (slots id : ℕ) (me : table.Me Body View) (i t : ℕ) → Carries me.1 me.0.outs → HasBody me.0.outs i t → table.Allows (IsKept o) slots id me 0 (λ n. n) (TellsFront i (table.step slots 0 0 0 none) me)
comes_first o slots id me i t carries has s r sized at wide =
    let v : View = me.0 in
    let apart : Apart v.outs = λ j k x y. r.housed.apart id v j k x y at in
    let c = carried_at me.1 v.outs i has.0 (out_of i t) carries apart has.1 refl in
    let away : (q : ℕ) (y : ℕ × Body) → get_elem? me.1 q ≡ some y → get_elem? s.homes y.0 ≡ some none = λ q y a. (let x = slot_of me.1 v.outs q y carries a in ap (get_elem? s.homes) x.2 ∙ (r.housed.outs id v q x.0 at x.1).away) in
    let slots_apart : (p q : ℕ) (x y : ℕ × Body) → get_elem? me.1 p ≡ some x → get_elem? me.1 q ≡ some y → x.0 ≡ y.0 → p ≡ q = λ p q x y a b same. (let f = slot_of me.1 v.outs p x carries a in let g = slot_of me.1 v.outs q y carries b in apart p q f.0 g.0 f.1 g.1 (sym f.2 ∙ (same ∙ g.2))) in
    let f = fronted s.homes me.1 has.0 c.slot c.at away slots_apart in
    let outs : List Out = out_of i t ∷ without i v.outs in
    let words : List ℕ = set s.words 0 (get_or s.words 0 0) in
    let views : List View = set s.views id (with_out v outs) in
    let kept = kept-outs o s r id v outs words s.homes (set-get_or s.words 0 0) at (housed-order (start_of o) r.owner (now_of (start_of o) r.history) s.homes s.views id v outs r.housed at (front_old i t v.outs has) (front_new i t v.outs apart has) (front_apart i t v.outs apart)) in (
      with_out v outs,
      f.act,
      f.valid,
      subst (λ (h : List (Option Body)). IsKept o (let y : table.State Body View = record { words = words; homes = h; views = views } in y)) (sym f.homes_are) kept,
      λ u has'.
          let place : has'.0 ≡ has.0 = apart has'.0 has.0 (out_of i u) (out_of i t) has'.1 has.1 refl in
          let both : some (out_of i t) ≡ some (out_of i u) = sym has.1 ∙ (ap (get_elem? v.outs) (sym place) ∙ has'.1) in
          let same : t ≡ u = ap (λ (x : Out). x.takes) (some-injective (out_of i t) (out_of i u) both) in
          record {
            body = c.slot.1;
            slots = cut has.0 me.1;
            seat = ap (seat_of (with_out v outs)) (f.slots_are ∙ ap (λ (e : ℕ). (e, c.slot.1) ∷ cut has.0 me.1) c.task) ∙ ap (λ (e : ℕ). seat_of (with_out v (out_of i e ∷ without i v.outs)) ((i, c.slot.1) ∷ cut has.0 me.1)) same;
            carries = c.others;
          },
    )

-- the slot that came first, with a body written into it, goes back
pub goes_back : (o : Opening) (slots id : ℕ) (v : View) (new : table.Me Body View) (i n : ℕ) (body : Body) (others : List (ℕ × Body)) → new ≡ seat_of (with_out v (out_of i n ∷ without i v.outs)) ((i, body) ∷ others) → v.logs ≡ own_log v.logs ∷ [] → body.takes ≡ n + gained (own_view v i) → body.row ≡ row_after (start_of o).nexts i body.takes → table.Allows (IsKept o) slots id new 0 (λ x. x) (TellsBack (table.step slots 0 0 0 none) new)
goes_back o slots id v new i n body others is one takes row =
    subst (λ (z : table.Me Body View). table.Allows (IsKept o) slots id z 0 (λ x. x) (TellsBack (table.step slots 0 0 0 none) z)) (sym is) (goes_in o slots id (seat_of (with_out v (out_of i n ∷ without i v.outs)) ((i, body) ∷ others)) (out_of i n) (without i v.outs) body others one refl refl takes row)
