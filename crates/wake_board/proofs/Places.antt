-- Between any two steps each task is in one place.
use Rattle.std.proofs.Common.{◌≡◌, ◌≢◌, ◌⊎◌, ℕ, suc, ◌+◌, ◌*◌, ◌/◌, ◌%◌, ◌<◌, ◌≤◌, Bool, true, false, not, ◌==◌, ◌||◌, if◌then◌else◌, length, get_or, refl, sym, ap, subst, ◌∙◌, inl, inr, arith, eq-eqb, ne_eqb}
use Rattle.std.proofs.lemmas.Bool.{cases_lt}
use Rattle.std.proofs.lemmas.Bool.Decides.{nat_tests}
use Rattle.atomic_table.specs.Table as table
use Rattle.sched_base.specs.declared.names.CallerId.{CallerId}
use Rattle.task_machine.specs.declared.task.Place.{Place}
use Rattle.task_machine.specs.declared.task.Place.TheVariants as places
use Rattle.task_machine.specs.declared.task.Stand.{Stand}
use Rattle.task_machine.specs.declared.task.Seen.TheVariants as views
use Rattle.task_machine.specs.declared.task.TaskState.{TaskState}
use Rattle.task_machine.specs.Task.{is_busy, is_boxed, seen_of, seen_at, ValidAt}
use Rattle.task_machine.specs.Step.{task_at, bit}
use Rattle.task_machine.specs.History.{calls_of}
use Rattle.task_machine.specs.Own.{Own, away, holding, drawing, running, own_at, own_of}
use Rattle.task_machine.proofs.Own.{own-led}
use Rattle.task_machine.proofs.Validity.{Legal-valid}
use Rattle.task_word.specs.Word.{seen_in}
use Rattle.task_word.proofs.Words.{seen_in-stands}
use Rattle.wake_board.specs.declared.body.Body.{Body}
use Rattle.wake_board.specs.declared.views.Opening.{Opening}
use Rattle.wake_board.specs.declared.views.View.{View}
use Rattle.wake_board.specs.Start.{start_of, home_of}
use Rattle.wake_board.specs.Rule.{now_of, IsHomed, IsKept}
use Rattle.wake_board.specs.Laws.{HasBy, IsHadAt}
use Rattle.wake_board.proofs.Boxes.{in_group, bit_one, boxed_place}
use Rattle.wake_board.proofs.Runs.{hands_by, drawn_by, runs_by}
use Rattle.wake_board.proofs.Ends.{calls_of-none, held_caller, never_drawn, never_run}

module _ (o : Opening) (s : table.State Body View) (r : IsKept o s) (i : ℕ) (within : i < length (start_of o).state.tasks) where
  abbrev w : ℕ
  w = (start_of o).state.workers

  abbrev t : TaskState
  t = task_at (now_of (start_of o) r.history) i

  abbrev first : Place
  first = (task_at (start_of o).state i).place

  -- what a caller has by its own entries is what it has in the state
  own_here : (k : ℕ) → own_at k t.place ≡ own_of i (own_at k first) (calls_of k r.history)
  own_here k = own-led (start_of o).state r.history k i r.legal

  by_state : (k : ℕ) (own : Own) → HasBy o s.views k i own → own_at k t.place ≡ own
  by_state k own h =
      let l = r.logs h.seat h.view h.place h.log h.at h.found in
      let mine : calls_of k r.history ≡ h.log = subst (λ (n : ℕ). calls_of n r.history ≡ h.log) h.caller l.calls in
      own_here k ∙ (ap (own_of i (own_at k first)) mine ∙ h.own)

  -- who is no caller has nothing
  is_caller : (k : ℕ) (own : Own) → own ≢ away → own_at k t.place ≡ own → ((w < k → own_at k first ≢ own)) → k ≤ w
  is_caller k own some' h far =
      elim (cases_lt w k) [
        | inl lt ↦ absurd (far lt (sym (own_here k ∙ ap (own_of i (own_at k first)) (calls_of-none (start_of o).state r.history k r.legal lt)) ∙ h))
        | inr le ↦ le
      ]

  pub by_seat : (k : ℕ) (own : Own) → k ≤ w → own_at k t.place ≡ own → HasBy o s.views k i own
  by_seat k own near h =
      let q = r.seated k near in
      let l = r.logs q.seat q.view q.place q.log q.at q.found in
      let mine : calls_of k r.history ≡ q.log = subst (λ (n : ℕ). calls_of n r.history ≡ q.log) q.caller l.calls in
      record {
        seat = q.seat;
        view = q.view;
        place = q.place;
        log = q.log;
        at = q.at;
        found = q.found;
        caller = q.caller;
        own = ap (own_of i (own_at k first)) (sym mine) ∙ (sym (own_here k) ∙ h);
      }

  -- where a task is had is where it is
  is_there : (p : Place) → IsHadAt o s i p → t.place ≡ p
  is_there places.Rest h = absurd h
  is_there (places.Hands k) h = hands_by k.0 t.place (by_state k.0 holding h)
  is_there (places.Boxed b) h =
      let low : i % 64 < 64 = omega arith in
      let box = r.words.boxes b (i / 64) h.0 (omega arith) in
      let is : bit (is_boxed b (task_at (now_of (start_of o) r.history) (64 * (i / 64) + i % 64)).place) ≡ 1 = sym (box.1 (i % 64) low) ∙ h.1 in
      let here : bit (is_boxed b t.place) ≡ 1 = subst (λ (n : ℕ). bit (is_boxed b (task_at (now_of (start_of o) r.history) n).place) ≡ 1) (in_group i) is in
      boxed_place b t.place (bit_one (is_boxed b t.place) here)
  is_there (places.Drawn k) h = drawn_by k.0 t.place (by_state k.0 drawing h)
  is_there (places.Runs k) h = runs_by k.0 t.place (by_state k.0 running h)
  is_there places.Gone h = absurd h

  pub own_one : (k : ℕ) (own : Own) → (if k == k then own else away) ≡ own
  own_one k own = ap (λ (b : Bool). if b then own else away) (eq-eqb k k refl)

  -- who runs a task, or has drawn it, is a caller
  pub runner_near : (k : CallerId) → t.place ≡ places.Runs k → k.0 ≤ w
  runner_near k e =
      let has : own_at k.0 t.place ≡ running = ap (own_at k.0) e ∙ own_one k.0 running in
      is_caller k.0 running (λ z. cc) has (λ far h. never_run w (home_of (start_of o) i) (get_or o.holders.items i 0) k.0 first (r.opened.placed i (omega (arith, r.opened.count))) h)

  pub drawer_near : (k : CallerId) → t.place ≡ places.Drawn k → k.0 ≤ w
  drawer_near k e =
      let has : own_at k.0 t.place ≡ drawing = ap (own_at k.0) e ∙ own_one k.0 drawing in
      is_caller k.0 drawing (λ z. cc) has (λ far h. never_drawn w (home_of (start_of o) i) (get_or o.holders.items i 0) k.0 first (r.opened.placed i (omega (arith, r.opened.count))) h)

  -- a live task with something to run for is had where it is
  is_had : (p : Place) (st : Stand) (n : ℕ) (b : Bool) (m : ℕ) → t.place ≡ p → seen_at p t ≡ views.Live st n b m → is_busy t ≡ true → IsHadAt o s i p
  is_had places.Rest st n b m e seen busy =
      let v : is_busy t ≡ false = subst (λ (p : Place). ValidAt p t) e (Legal-valid (start_of o).state r.history r.legal r.opened.valid i) in
      let z : true ≡ false = sym busy ∙ v in cc
  is_had (places.Hands k) st n b m e seen busy =
      let has : own_at k.0 t.place ≡ holding = ap (own_at k.0) e ∙ own_one k.0 holding in
      by_seat k.0 holding (is_caller k.0 holding (λ z. cc) has (λ far h. (let near = held_caller w (home_of (start_of o) i) (get_or o.holders.items i 0) k.0 first (r.opened.placed i (omega (arith, r.opened.count))) h in omega arith))) has
  is_had (places.Boxed b') st n b m e seen busy =
      let low : i % 64 < 64 = omega arith in
      let home : home_of (start_of o) i ≡ b' = subst (IsHomed (start_of o) i) e (r.words.homed i) in
      let near : b' ≤ w = (let h = r.opened.boxed i (omega (arith, r.opened.count)) in omega arith) in
      let box = r.words.boxes b' (i / 64) near (omega arith) in
      let here : is_boxed b' (task_at (now_of (start_of o) r.history) (64 * (i / 64) + i % 64)).place ≡ true = ap (λ (n : ℕ). is_boxed b' (task_at (now_of (start_of o) r.history) n).place) (in_group i) ∙ (ap (is_boxed b') e ∙ eq-eqb b' b' refl) in
      (near, box.1 (i % 64) low ∙ ap bit here)
  is_had (places.Drawn k) st n b m e seen busy =
      let has : own_at k.0 t.place ≡ drawing = ap (own_at k.0) e ∙ own_one k.0 drawing in
      by_seat k.0 drawing (is_caller k.0 drawing (λ z. cc) has (λ far h. never_drawn w (home_of (start_of o) i) (get_or o.holders.items i 0) k.0 first (r.opened.placed i (omega (arith, r.opened.count))) h)) has
  is_had (places.Runs k) st n b m e seen busy =
      let has : own_at k.0 t.place ≡ running = ap (own_at k.0) e ∙ own_one k.0 running in
      by_seat k.0 running (is_caller k.0 running (λ z. cc) has (λ far h. never_run w (home_of (start_of o) i) (get_or o.holders.items i 0) k.0 first (r.opened.placed i (omega (arith, r.opened.count))) h)) has
  is_had places.Gone st n b m e seen busy = cc

  -- what is seen of a task with something to run for
  busy_seen : (p : Place) (st : Stand) (n : ℕ) (b : Bool) (m : ℕ) → seen_at p t ≡ views.Live st n b m → (t.pending ≡ n) × (t.killed ≡ b)
  busy_seen places.Rest st n b m e = (cc, cc)
  busy_seen (places.Hands k) st n b m e = (cc, cc)
  busy_seen (places.Boxed c) st n b m e = (cc, cc)
  busy_seen (places.Drawn k) st n b m e = (cc, cc)
  busy_seen (places.Runs k) st n b m e = (cc, cc)
  busy_seen places.Gone st n b m e = cc

  busy_by : (n : ℕ) (b : Bool) → (n ≢ 0) ⊎ (b ≡ true) → (not (n == 0) || b) ≡ true
  busy_by n b (inl ne) = ap (λ (x : Bool). not x || b) (ne_eqb n 0 ne)
  busy_by n true (inr e) = grind (arith, nat_tests)
  busy_by n false (inr e) = cc

  pub somewhere : (st : Stand) (n : ℕ) (b : Bool) (m : ℕ) → seen_in (get_or s.words (i + 1) 0) ≡ views.Live st n b m → (n ≢ 0) ⊎ (b ≡ true) → (p : Place) × IsHadAt o s i p
  somewhere st n b m seen work =
      let next : i + 1 ≡ suc i = omega arith in
      let is : seen_in (get_or s.words (suc i) 0) ≡ seen_of t = seen_in-stands (get_or s.words (suc i) 0) (seen_of t) (r.words.tasks i within) in
      let here : seen_of t ≡ views.Live st n b m = sym is ∙ (ap (λ (k : ℕ). seen_in (get_or s.words k 0)) (sym next) ∙ seen) in
      let parts = busy_seen t.place st n b m here in
      let busy : is_busy t ≡ true = ap (λ (k : ℕ). not (k == 0) || t.killed) parts.0 ∙ (ap (λ (x : Bool). not (n == 0) || x) parts.1 ∙ busy_by n b work) in
      (t.place, is_had t.place st n b m refl here busy)

  pub once : (p q : Place) → IsHadAt o s i p → IsHadAt o s i q → p ≡ q
  once p q a b = sym (is_there p a) ∙ is_there q b
