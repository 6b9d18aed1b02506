-- Between any two steps each body is in one place.
use Rattle.std.proofs.Common.{◌≡◌, ◌⊎◌, ℕ, suc, ◌+◌, ◌<◌, Bool, length, get_or, refl, sym, ap, subst, ◌∙◌, inl, inr, arith}
use mathlib.Core.Option.{some, none, some-injective}
use lib.ListN.{get_elem?}
use Rattle.atomic_table.specs.Table as table
use Rattle.task_machine.specs.declared.task.Place.{Place}
use Rattle.task_machine.specs.declared.task.Place.TheVariants as places
use Rattle.task_machine.specs.declared.task.Stand.{Stand}
use Rattle.task_machine.specs.declared.task.Seen.TheVariants as views
use Rattle.task_machine.specs.declared.task.TaskState.{TaskState}
use Rattle.task_machine.specs.Task.{seen_of}
use Rattle.task_machine.specs.Step.{task_at}
use Rattle.task_machine.specs.Own.{Own, drawing, running, own_at}
use Rattle.task_word.specs.Word.{seen_in}
use Rattle.task_word.proofs.Words.{seen_in-stands}
use Rattle.step_tables.specs.Nexts.{row_after}
use Rattle.wake_board.specs.declared.body.Body.{Body}
use Rattle.wake_board.specs.declared.views.Opening.{Opening}
use Rattle.wake_board.specs.declared.views.Out.{Out}
use Rattle.wake_board.specs.declared.views.View.{View}
use Rattle.wake_board.specs.Start.{start_of, IsShared}
use Rattle.wake_board.specs.Rule.{now_of, Leads, gain, IsOut, IsAway, IsKept}
use Rattle.wake_board.specs.Laws.{HasBy, IsHomeWith, IsOutAt, IsOutWithHolder}
use Rattle.wake_board.proofs.Housing.{one_leader}
use Rattle.wake_board.proofs.Pace.{seen_takes}
use Rattle.wake_board.proofs.Places.{runner_near, drawer_near, by_seat, own_one}

-- the seat of a caller that leads the task
seat_of_leader : (o : Opening) (s : table.State Body View) (r : IsKept o s) (k i p : ℕ) (own : Own) (h : HasBy o s.views k i own) → r.owner k ≡ p → p ≡ h.seat
seat_of_leader o s r k i p own h mine =
    let l = r.logs h.seat h.view h.place h.log h.at h.found in
    sym mine ∙ subst (λ (n : ℕ). r.owner n ≡ h.seat) h.caller l.owned

-- where a task is led, it is so by a caller with a seat, which has its body out
led_by : (o : Opening) (s : table.State Body View) (r : IsKept o s) (i t p : ℕ) (x : Out) → i < length (start_of o).state.tasks → (place : Place) → (task_at (now_of (start_of o) r.history) i).place ≡ place → Leads r.owner p place → IsOutAt s p i x → t ≡ x.takes + gain place → IsOutWithHolder o s i t
led_by o s r i t p x within places.Rest e l out takes = absurd l
led_by o s r i t p x within (places.Hands k) e l out takes = absurd l
led_by o s r i t p x within (places.Boxed b) e l out takes = absurd l
led_by o s r i t p x within places.Gone e l out takes = absurd l
led_by o s r i t p x within (places.Drawn k) e l out takes =
    let h = by_seat o s r i within k.0 drawing (drawer_near o s r i within k e) (ap (own_at k.0) e ∙ own_one o s r i within k.0 drawing) in
    record {
      out = x;
      caller = k.0;
      has = drawing;
      holder = h;
      leads = inl refl;
      away = subst (λ (n : ℕ). IsOutAt s n i x) (seat_of_leader o s r k.0 i p drawing h l) out;
      takes = takes;
    }
led_by o s r i t p x within (places.Runs k) e l out takes =
    let h = by_seat o s r i within k.0 running (runner_near o s r i within k e) (ap (own_at k.0) e ∙ own_one o s r i within k.0 running) in
    record {
      out = x;
      caller = k.0;
      has = running;
      holder = h;
      leads = inr refl;
      away = subst (λ (n : ℕ). IsOutAt s n i x) (seat_of_leader o s r k.0 i p running h l) out;
      takes = takes;
    }

pub body_somewhere : (o : Opening) (s : table.State Body View) (i : ℕ) (st : Stand) (n : ℕ) (b : Bool) (t : ℕ) → IsKept o s → i < length (start_of o).state.tasks → IsShared (start_of o) i → seen_in (get_or s.words (i + 1) 0) ≡ views.Live st n b t → IsHomeWith o s i t ⊎ IsOutWithHolder o s i t
body_somewhere o s i st n b t r within shared seen =
    let x : TaskState = task_at (now_of (start_of o) r.history) i in
    let next : i + 1 ≡ suc i = omega arith in
    let is : seen_in (get_or s.words (suc i) 0) ≡ seen_of x = seen_in-stands (get_or s.words (suc i) 0) (seen_of x) (r.words.tasks i within) in
    let here : seen_of x ≡ views.Live st n b t = sym is ∙ (ap (λ (k : ℕ). seen_in (get_or s.words k 0)) (sym next) ∙ seen) in
    let parts = seen_takes x.place x st n b t here in
    elim (r.housed.bodies i within shared parts.1) [
      | inl h ↦ inl (h.0, h.1, (h.2.0 ∙ parts.0, h.2.1 ∙ ap (row_after (start_of o).nexts i) parts.0))
      | inr a ↦ inr (away_out o s r i t within (sym parts.0) a)
    ]
  where
    away_out : (o : Opening) (s : table.State Body View) (r : IsKept o s) (i t : ℕ) → i < length (start_of o).state.tasks → t ≡ (task_at (now_of (start_of o) r.history) i).takes → IsAway s.views i → IsOutWithHolder o s i t
    away_out o s r i t within same (p, v, j, y, at, found, is) =
        let out = r.housed.outs p v j y at found in
        let m = now_of (start_of o) r.history in
        led_by o s r i t p y within (task_at m i).place refl (subst (λ (n : ℕ). Leads r.owner p (task_at m n).place) is out.leads) (record { view = v; place = j; at = at; found = found; task = is }) (same ∙ subst (λ (n : ℕ). (task_at m n).takes ≡ y.takes + gain (task_at m n).place) is out.takes)

pub body_once : (o : Opening) (s : table.State Body View) (i p q : ℕ) (x y : Out) → IsKept o s → IsOutAt s p i x → IsOutAt s q i y → (p ≡ q) × (x ≡ y)
body_once o s i p q x y r a b =
    let m = now_of (start_of o) r.history in
    let one : IsOut (start_of o) r.owner m s.homes p x = r.housed.outs p a.view a.place x a.at a.found in
    let two : IsOut (start_of o) r.owner m s.homes q y = r.housed.outs q b.view b.place y b.at b.found in
    let same : x.task ≡ y.task = a.task ∙ sym b.task in
    let seats : p ≡ q = one_leader r.owner p q (task_at m y.task).place (subst (λ (n : ℕ). Leads r.owner p (task_at m n).place) same one.leads) two.leads in
    let at : get_elem? s.views p ≡ some b.view = subst (λ (n : ℕ). get_elem? s.views n ≡ some b.view) (sym seats) b.at in
    let isv : a.view ≡ b.view = some-injective a.view b.view (sym a.at ∙ at) in
    let found : get_elem? a.view.outs b.place ≡ some y = subst (λ (v : View). get_elem? v.outs b.place ≡ some y) (sym isv) b.found in
    let places' : a.place ≡ b.place = r.housed.apart p a.view a.place b.place x y a.at a.found found same in
    (seats, some-injective x y (sym a.found ∙ (ap (get_elem? a.view.outs) places' ∙ found)))

pub body_not_both : (o : Opening) (s : table.State Body View) (i t p : ℕ) (x : Out) → IsKept o s → IsHomeWith o s i t → ¬ IsOutAt s p i x
body_not_both o s i t p x r home out =
    let is = r.housed.outs p out.view out.place x out.at out.found in
    let z : some none ≡ some (some home.0) = sym is.away ∙ (ap (get_elem? s.homes) out.task ∙ home.1) in cc
