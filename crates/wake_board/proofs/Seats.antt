-- Words that stand between rounds still do after a task was seated or dealt.
use Rattle.std.proofs.Common.{◌≡◌, ◌≢◌, ℕ, suc, ◌+◌, ◌*◌, ◌/◌, ◌%◌, ◌^◌, ◌<◌, ◌≤◌, Bool, true, false, not, ◌==◌, ◌||◌, List, length, replicate, get_or, set, bit_or, bit_and, refl, sym, ap, subst, ◌∙◌, inl, inr, arith, eq-eqb, ne_eqb}
use Rattle.std.proofs.lemmas.Bool.{cases_eq, cases_lt}
use Rattle.std.proofs.lemmas.Bool.Decides.{nat_tests}
use Rattle.std.proofs.lemmas.List.{get_or-set_same, get_or-set_other, get_or_past, get_or-replicate, length-replicate}
use Rattle.std.proofs.lemmas.Nat.Bits.{bit_at_clear_same, bit_at_clear_other, bit_at-zero}
use Rattle.std.proofs.Math.ListN.{length-set}
use Rattle.std.specs.Int.{bit_at, bit_not, w64}
use Rattle.std.specs.Int.Bits.{and_lt}
use Rattle.sched_base.specs.ReasonNames.{init}
use Rattle.task_machine.specs.declared.task.Place.{Place}
use Rattle.task_machine.specs.declared.task.Place.TheVariants as places
use Rattle.task_machine.specs.declared.task.Stand.TheVariants as stands
use Rattle.task_machine.specs.declared.task.Seen.TheVariants as views
use Rattle.task_machine.specs.declared.task.TaskState.{TaskState}
use Rattle.task_machine.specs.Task.{resting, is_boxed, put, seated, seen_of, seen_at, ValidAt, IsValidTask}
use Rattle.task_machine.specs.Step.{State, task_at, put_task, bit, IsBox, IsValid}
use Rattle.task_machine.proofs.Validity.{seating-valid, dealt-valid}
use Rattle.task_word.specs.Word.{StandsFor, word_with}
use Rattle.wake_board.specs.declared.body.Body.{Body}
use Rattle.wake_board.specs.Rows.{WordRow, box_at, width, first_body, task_word, box_word, blank_row, row_seated, row_dealt}
use Rattle.wake_board.specs.Start.{Start, home_of, no_holder}
use Rattle.wake_board.specs.Between.{PlacedBy, BodyFits, StandBetween}
use Rattle.wake_board.specs.Rule.{IsHomed, Worded}
use Rattle.wake_board.specs.Seen.{bit_mask}
use Rattle.wake_board.proofs.Tasks.{OneTask, each_task, worded-one}
use Rattle.wake_board.proofs.Opens.{homed_by}
use Rattle.wake_board.proofs.Boxes.{boxes_after, tasks_after, in_group, box_posted, mask_pow}

-- the box word after the bit of one task was cleared
pub box_cleared : (m m' : State) (b i n : ℕ) (u : TaskState) → OneTask m m' i u → is_boxed b u.place ≡ false → IsBox m b (i / 64) n → IsBox m' b (i / 64) (bit_and n (bit_not w64 (bit_mask (i % 64))))
box_cleared m m' b i n u one apart h =
    let low : i % 64 < 64 = omega arith in (
      and_lt 64 n (bit_not w64 (bit_mask (i % 64))) h.0 (omega arith),
      λ j l. elim (cases_eq j (i % 64)) [
        | inl same ↦
            (let here : task_at m' (64 * (i / 64) + i % 64) ≡ u = ap (task_at m') (in_group i) ∙ one.here in
            subst (λ (x : ℕ). bit_at (bit_and n (bit_not w64 (bit_mask (i % 64)))) x ≡ bit (is_boxed b (task_at m' (64 * (i / 64) + x)).place)) (sym same) (bit_at_clear_same w64 n (i % 64) low ∙ sym (ap (λ (t : TaskState). bit (is_boxed b t.place)) here ∙ ap bit apart)))
        | inr ne ↦
            (let other : 64 * (i / 64) + j ≢ i = λ e. ne (omega arith) in
            bit_at_clear_other w64 n (i % 64) low j l ne ∙ (h.1 j l ∙ ap (λ (t : TaskState). bit (is_boxed b t.place)) (sym (one.others (64 * (i / 64) + j) other))))
      ],
    )

-- the words after a task that is in no box came into one
pub worded-boxed : (o : Start) (words : List ℕ) (m m' : State) (b i : ℕ) → Worded o words m → b ≤ o.state.workers → i < length o.state.tasks → OneTask m m' i (put (places.Boxed b) (task_at m i)) → seen_of (put (places.Boxed b) (task_at m i)) ≡ seen_of (task_at m i) → ((x : ℕ) → is_boxed x (task_at m i).place ≡ false) → home_of o i ≡ b → Worded o (set words (box_at (length o.state.tasks) b (i / 64)) (bit_or (get_or words (box_at (length o.state.tasks) b (i / 64)) 0) (bit_mask (i % 64)))) m'
worded-boxed o words m m' b i r lb within one seen free home =
    let n : ℕ = length o.state.tasks in
    let x : ℕ = box_at n b (i / 64) in
    let word : ℕ = get_or words x 0 in
    let y : ℕ = bit_or word (bit_mask (i % 64)) in
    let u : TaskState = put (places.Boxed b) (task_at m i) in
    let group : 64 * (i / 64) < n = omega arith in
    let boxed : is_boxed b (places.Boxed b) ≡ true = eq-eqb b b refl in
    record {
      wide = length-set words x y ∙ r.wide;
      tasks = tasks_after o words m m' b (i / 64) y r (each_task m m' i u (λ j q. seen_of q ≡ seen_of (task_at m j)) one seen (λ j ne. refl));
      boxes = boxes_after o words m m' b (i / 64) y r lb group (box_posted m m' b i word u one boxed (r.boxes b (i / 64) lb group)) (λ z h j l apart.
          elim (cases_eq (64 * h + j) i) [
            | inl same ↦
                (let group' : h ≡ i / 64 = omega arith in
                let ne : z ≢ b = λ e'. apart (e', group') in
                ap (λ (q : ℕ). is_boxed z (task_at m' q).place) same ∙ (ap (λ (q : TaskState). is_boxed z q.place) one.here ∙ (ne_eqb z b ne ∙ sym (ap (λ (q : ℕ). is_boxed z (task_at m q).place) same ∙ free z))))
            | inr ne ↦ ap (λ (q : TaskState). is_boxed z q.place) (one.others (64 * h + j) ne)
          ]);
      homed = each_task m m' i u (λ j q. IsHomed o j q.place) one home (λ j ne. r.homed j);
    }

-- the words after a task left its box for no other
pub worded-unboxed : (o : Start) (words : List ℕ) (m m' : State) (b i : ℕ) (u : TaskState) → Worded o words m → b ≤ o.state.workers → i < length o.state.tasks → OneTask m m' i u → (task_at m i).place ≡ places.Boxed b → seen_of u ≡ seen_of (task_at m i) → ((x : ℕ) → is_boxed x u.place ≡ false) → IsHomed o i u.place → Worded o (set words (box_at (length o.state.tasks) b (i / 64)) (bit_and (get_or words (box_at (length o.state.tasks) b (i / 64)) 0) (bit_not w64 (bit_mask (i % 64))))) m'
worded-unboxed o words m m' b i u r lb within one place seen free home =
    let n : ℕ = length o.state.tasks in
    let x : ℕ = box_at n b (i / 64) in
    let word : ℕ = get_or words x 0 in
    let y : ℕ = bit_and word (bit_not w64 (bit_mask (i % 64))) in
    let group : 64 * (i / 64) < n = omega arith in
    record {
      wide = length-set words x y ∙ r.wide;
      tasks = tasks_after o words m m' b (i / 64) y r (each_task m m' i u (λ j q. seen_of q ≡ seen_of (task_at m j)) one seen (λ j ne. refl));
      boxes = boxes_after o words m m' b (i / 64) y r lb group (box_cleared m m' b i word u one (free b) (r.boxes b (i / 64) lb group)) (λ z h j l apart.
          elim (cases_eq (64 * h + j) i) [
            | inl same ↦
                (let group' : h ≡ i / 64 = omega arith in
                let ne : z ≢ b = λ e'. apart (e', group') in
                ap (λ (q : ℕ). is_boxed z (task_at m' q).place) same ∙ (ap (λ (q : TaskState). is_boxed z q.place) one.here ∙ (free z ∙ sym (ap (λ (q : ℕ). is_boxed z (task_at m q).place) same ∙ (ap (is_boxed z) place ∙ ne_eqb z b ne)))))
            | inr ne ↦ ap (λ (q : TaskState). is_boxed z q.place) (one.others (64 * h + j) ne)
          ]);
      homed = each_task m m' i u (λ j q. IsHomed o j q.place) one home (λ j ne. r.homed j);
    }

-- the state with another state of one task
one_put : (m : State) (i : ℕ) (u : TaskState) → i < length m.tasks → OneTask m (put_task m i u) i u
one_put m i u l =
    record { here = get_or-set_same m.tasks i u resting l; others = λ j ne. get_or-set_other m.tasks i j u resting ne }

one_again : (m : State) (i : ℕ) (u v : TaskState) → i < length m.tasks → OneTask (put_task m i u) (put_task m i v) i v
one_again m i u v l =
    record {
      here = (one_put m i v l).here;
      others = λ j ne. (one_put m i v l).others j ne ∙ sym ((one_put m i u l).others j ne);
    }

-- the parts of words that stand between rounds which the rule of a board has too
worded_between : (ws : WordRow) (homes holders : List ℕ) (nexts : List (List ℕ)) (m : State) → length ws.row ≡ width ws.workers ws.tasks → StandBetween ws homes holders nexts m → Worded (record { state = m; homes = homes; nexts = nexts }) ws.row m
worded_between ws homes holders nexts m wide r =
    let o : Start = record { state = m; homes = homes; nexts = nexts } in
    let count = r.count in
    let workers = r.workers in
    record {
      wide = wide ∙ (ap (λ (w : ℕ). width w ws.tasks) (sym r.workers) ∙ ap (width m.workers) (sym r.count));
      tasks = λ i l. r.tasks i (omega arith);
      boxes = λ b g lb lg. subst (λ (k : ℕ). IsBox m b g (get_or ws.row (box_at k b g) 0)) (sym r.count) (r.boxes b g (omega arith) (omega arith));
      homed = λ i. elim (cases_lt i ws.tasks) [
        | inl lt ↦ homed_by o ws.workers (get_or homes i 0) (get_or holders i 0) i (task_at m i).place refl (r.placed i lt)
        | inr le ↦
            (let past : task_at m i ≡ resting = get_or_past m.tasks i resting (omega arith) in
            subst (λ (t : TaskState). IsHomed o i t.place) (sym past) tt)
      ];
    }

-- words that stand for a state stand for the one in which one task is another
between_put : (ws : WordRow) (homes others holders : List ℕ) (nexts : List (List ℕ)) (m : State) (i : ℕ) (u : TaskState) (row : List ℕ) → StandBetween ws homes holders nexts m → i < ws.tasks → IsValid (put_task m i u) → ((j : ℕ) → j ≢ i → get_or others j 0 ≡ get_or homes j 0) → get_or others i 0 ≤ ws.workers → Worded (record { state = m; homes = others; nexts = nexts }) row (put_task m i u) → PlacedBy ws.workers (get_or others i 0) (get_or holders i 0) u.place → (get_or others i 0 ≡ ws.workers → BodyFits nexts i (get_or ws.bodies i first_body) u.takes) → StandBetween (let x : WordRow = record ws { row = row } in x) others holders nexts (put_task m i u)
between_put ws homes others holders nexts m i u row r within valid same box worded placed body =
    let count = r.count in
    let workers = r.workers in
    let one : OneTask m (put_task m i u) i u = one_put m i u (omega arith) in
    record {
      workers = r.workers;
      few = r.few;
      count = length-set m.tasks i u ∙ r.count;
      boxed = λ j l. elim (cases_eq j i) [
        | inl here ↦ subst (λ (k : ℕ). get_or others k 0 ≤ ws.workers) (sym here) box
        | inr ne ↦ subst (λ (h : ℕ). h ≤ ws.workers) (sym (same j ne)) (r.boxed j l)
      ];
      valid = valid;
      tasks = λ j l. worded.tasks j (omega arith);
      boxes = λ b g lb lg. subst (λ (k : ℕ). IsBox (put_task m i u) b g (get_or row (box_at k b g) 0)) r.count (worded.boxes b g (omega arith) (omega arith));
      placed = λ j l. each_task m (put_task m i u) i u (λ k t. k < ws.tasks → PlacedBy ws.workers (get_or others k 0) (get_or holders k 0) t.place) one (λ lt. placed) (λ k ne lt. subst (λ (h : ℕ). PlacedBy ws.workers h (get_or holders k 0) (task_at m k).place) (sym (same k ne)) (r.placed k lt)) j l;
      bodies = λ j l. each_task m (put_task m i u) i u (λ k t. k < ws.tasks → get_or others k 0 ≡ ws.workers → t.place ≢ places.Gone → BodyFits nexts k (get_or ws.bodies k first_body) t.takes) one (λ lt shared lives. body shared) (λ k ne lt shared lives. r.bodies k lt (sym (same k ne) ∙ shared) lives) j l;
    }

-- a task at rest that was never taken has nothing
idle : (n : ℕ) (b : Bool) → (not (n == 0) || b) ≡ false → (n ≡ 0) × (b ≡ false)
idle n true h = absurd (grind (arith, nat_tests))
idle n false h = (grind (arith, nat_tests), refl)

pub record IsFresh (t : TaskState) : Type 0 where
  pub pending : t.pending ≡ 0
  pub killed : t.killed ≡ false

fresh_task : (t : TaskState) → t.place ≡ places.Rest → IsValidTask t → IsFresh t
fresh_task t rests valid =
    let both = idle t.pending t.killed (subst (λ (p : Place). ValidAt p t) rests valid) in
    record { pending = both.0; killed = both.1 }

rest_word : ℕ → Bool → ℕ → ℕ
rest_word n b m = word_with false false b n m

blank_word : (w : ℕ) (t : TaskState) → t.place ≡ places.Rest → t.takes ≡ 0 → IsValidTask t → StandsFor w (seen_of t) → w ≡ 0
unfolding rest_word
blank_word w t rests untaken valid stands =
    let f = fresh_task t rests valid in
    let s : StandsFor w (seen_at places.Rest t) = subst (λ (p : Place). StandsFor w (seen_at p t)) rests stands in
    let one : rest_word t.pending t.killed t.takes ≡ rest_word 0 t.killed t.takes = ap (λ (n : ℕ). rest_word n t.killed t.takes) f.pending in
    let two : rest_word 0 t.killed t.takes ≡ rest_word 0 false t.takes = ap (λ (b : Bool). rest_word 0 b t.takes) f.killed in
    let three : rest_word 0 false t.takes ≡ rest_word 0 false 0 = ap (rest_word 0 false) untaken in
    s.0 ∙ (one ∙ (two ∙ three))

first_word : (b : Bool) (m : ℕ) → b ≡ false → m ≡ 0 → StandsFor 258 (views.Live stands.Queued init b m)
first_word b m eb em =
    let there : StandsFor 258 (views.Live stands.Queued init false 0) = (refl, (omega arith, omega arith)) in
    subst (λ (x : Bool). StandsFor 258 (views.Live stands.Queued init x m)) (sym eb) (subst (λ (x : ℕ). StandsFor 258 (views.Live stands.Queued init false x)) (sym em) there)

unboxed : (x : ℕ) (p : Place) → p ≡ places.Rest → is_boxed x p ≡ false
unboxed x p e = ap (is_boxed x) e

-- the first caller's hands, through which a task goes from one box word to another
abbrev held : TaskState → TaskState
held t = put (places.Hands (record { 0 = 0 })) t

pub seated-stands : (ws : WordRow) (homes holders : List ℕ) (nexts : List (List ℕ)) (m : State) (i b : ℕ) → length ws.row ≡ width ws.workers ws.tasks → StandBetween ws homes holders nexts m → i < ws.tasks → (task_at m i).place ≡ places.Rest → (task_at m i).takes ≡ 0 → get_or homes i 0 ≡ b → (task_word ws i ≡ 0) × StandBetween (row_seated ws i b) homes holders nexts (put_task m i (seated b (task_at m i)))
seated-stands ws homes holders nexts m i b wide r within rests untaken home =
    let t : TaskState = task_at m i in
    let u : TaskState = held (seated b t) in
    let o : Start = record { state = m; homes = homes; nexts = nexts } in
    let m1 : State = put_task m i u in
    let m2 : State = put_task m i (seated b t) in
    let count = r.count in
    let workers = r.workers in
    let fresh = fresh_task t rests (r.valid i) in
    let lm : i < length m.tasks = omega arith in
    let before = worded_between ws homes holders nexts m wide r in
    let one : OneTask m m1 i u = one_put m i u lm in
    let first : Worded o (set ws.row (suc i) 258) m1 = worded-one o ws.row m m1 i u 258 before one lm (first_word t.killed t.takes fresh.killed untaken) (λ x. sym (unboxed x t.place rests)) tt in
    let box : b ≤ ws.workers = (let h = r.boxed i within in omega arith) in
    let here : task_at m1 i ≡ u = one.here in
    let again : OneTask m1 m2 i (put (places.Boxed b) (task_at m1 i)) = subst (λ (q : TaskState). OneTask m1 m2 i (put (places.Boxed b) q)) (sym here) (one_again m i u (seated b t) lm) in
    let second = worded-boxed o (set ws.row (suc i) 258) m1 m2 b i first (omega arith) lm again (subst (λ (q : TaskState). seen_of (put (places.Boxed b) q) ≡ seen_of q) (sym here) refl) (λ x. ap (λ (q : TaskState). is_boxed x q.place) here) home in
    let P : ℕ → ℕ → Type 0 = λ n k. Worded o (let row : List ℕ = set ws.row (suc i) 258 in set row (box_at n b (i / 64)) (bit_or (get_or row (box_at n b (i / 64)) 0) k)) m2 in
    let low : i % 64 < 64 = omega arith in
    let third : P ws.tasks (2 ^ (i % 64)) = subst (P ws.tasks) (mask_pow (i % 64) low) (subst (λ (n : ℕ). P n (bit_mask (i % 64))) r.count second) in
    let free : PlacedBy ws.workers (get_or homes i 0) (get_or holders i 0) places.Rest = subst (PlacedBy ws.workers (get_or homes i 0) (get_or holders i 0)) rests (r.placed i within) in
    let lives : t.place ≢ places.Gone = λ e. (let z = sym rests ∙ e in cc) in (
      blank_word (task_word ws i) t rests untaken (r.valid i) (r.tasks i within),
      between_put ws homes homes holders nexts m i (seated b t) _ r within (seating-valid m i b r.valid) (λ j ne. refl) (r.boxed i within) third (free, sym home) (λ shared. r.bodies i within shared lives),
    )

IsHomed-home : (o q : Start) (i : ℕ) (p : Place) → home_of o i ≡ home_of q i → o.state.workers ≡ q.state.workers → IsHomed o i p → IsHomed q i p
IsHomed-home o q i places.Rest e w h = tt
IsHomed-home o q i (places.Hands k) e w h = tt
IsHomed-home o q i (places.Boxed b) e w h = sym e ∙ h
IsHomed-home o q i (places.Drawn k) e w h = sym e ∙ (h ∙ w)
IsHomed-home o q i (places.Runs k) e w h = tt
IsHomed-home o q i places.Gone e w h = tt

queued_seen : (p : Place) (c : ℕ) (t : TaskState) → t.place ≡ places.Boxed c → seen_of (held t) ≡ seen_of t
queued_seen p c t e = sym (ap (λ (q : Place). seen_at q t) e)

pub dealt-stands : (ws : WordRow) (homes holders : List ℕ) (nexts : List (List ℕ)) (m : State) (i w : ℕ) → length ws.row ≡ width ws.workers ws.tasks → StandBetween ws homes holders nexts m → i < ws.tasks → w < ws.workers → (task_at m i).place ≡ places.Boxed ws.workers → (bit_at (box_word ws ws.workers (i / 64)) (i % 64) ≡ 1) × StandBetween (row_dealt ws i w) (set homes i w) holders nexts (put_task m i (put (places.Boxed w) (task_at m i)))
dealt-stands ws homes holders nexts m i w wide r within worker place =
    let t : TaskState = task_at m i in
    let u : TaskState = held t in
    let v : TaskState = put (places.Boxed w) t in
    let new : List ℕ = set homes i w in
    let o : Start = record { state = m; homes = homes; nexts = nexts } in
    let q : Start = record { state = m; homes = new; nexts = nexts } in
    let m1 : State = put_task m i u in
    let m2 : State = put_task m i v in
    let count = r.count in
    let workers = r.workers in
    let lm : i < length m.tasks = omega arith in
    let old : PlacedBy ws.workers (get_or homes i 0) (get_or holders i 0) (places.Boxed ws.workers) = subst (PlacedBy ws.workers (get_or homes i 0) (get_or holders i 0)) place (r.placed i within) in
    let long : i < length homes = elim (cases_lt i (length homes)) [
      | inl lt ↦ lt
      | inr le ↦ (let none : get_or homes i 0 ≡ 0 = get_or_past homes i 0 le in let shared = old.1 in absurd (omega arith))
    ] in
    let home : get_or new i 0 ≡ w = get_or-set_same homes i w 0 long in
    let others : (j : ℕ) → j ≢ i → get_or new j 0 ≡ get_or homes j 0 = λ j ne. get_or-set_other homes i j w 0 ne in
    let group : 64 * (i / 64) < ws.tasks = omega arith in
    let low : i % 64 < 64 = omega arith in
    let one : OneTask m m1 i u = one_put m i u lm in
    let here : task_at m1 i ≡ u = one.here in
    let first = worded-unboxed o ws.row m m1 ws.workers i u (worded_between ws homes holders nexts m wide r) (omega arith) lm one place (queued_seen t.place ws.workers t place) (λ x. refl) tt in
    let row1 : List ℕ = set ws.row (box_at (length m.tasks) ws.workers (i / 64)) (bit_and (get_or ws.row (box_at (length m.tasks) ws.workers (i / 64)) 0) (bit_not w64 (bit_mask (i % 64)))) in
    let turned : Worded q row1 m1 = record {
      wide = first.wide;
      tasks = first.tasks;
      boxes = first.boxes;
      homed = each_task m m1 i u (λ j p. IsHomed q j p.place) one tt (λ j ne. IsHomed-home o q j (task_at m j).place (sym (others j ne)) refl (subst (λ (p : TaskState). IsHomed o j p.place) (one.others j ne) (first.homed j)));
    } in
    let again : OneTask m1 m2 i (put (places.Boxed w) (task_at m1 i)) = subst (λ (p : TaskState). OneTask m1 m2 i (put (places.Boxed w) p)) (sym here) (one_again m i u v lm) in
    let second = worded-boxed q row1 m1 m2 w i turned (omega arith) lm again (subst (λ (p : TaskState). seen_of (put (places.Boxed w) p) ≡ seen_of p) (sym here) refl) (λ x. ap (λ (p : TaskState). is_boxed x p.place) here) home in
    let P : ℕ → ℕ → Type 0 = λ n k. Worded q (let row : List ℕ = set ws.row (box_at n ws.workers (i / 64)) (bit_and (get_or ws.row (box_at n ws.workers (i / 64)) 0) (bit_not w64 k)) in set row (box_at n w (i / 64)) (bit_or (get_or row (box_at n w (i / 64)) 0) k)) m2 in
    let third : P ws.tasks (2 ^ (i % 64)) = subst (P ws.tasks) (mask_pow (i % 64) low) (subst (λ (n : ℕ). P n (bit_mask (i % 64))) r.count second) in
    let boxed : is_boxed ws.workers (task_at m (64 * (i / 64) + i % 64)).place ≡ true = ap (λ (k : ℕ). is_boxed ws.workers (task_at m k).place) (in_group i) ∙ (ap (is_boxed ws.workers) place ∙ eq-eqb ws.workers ws.workers refl) in (
      (r.boxes ws.workers (i / 64) (omega arith) group).1 (i % 64) low ∙ ap bit boxed,
      between_put ws homes new holders nexts m i v _ r within (dealt-valid m i ws.workers w place r.valid) others (omega arith) third (old.0, sym home) (λ shared. absurd (omega arith)),
    )

resting_valid : (n i : ℕ) → IsValidTask (get_or (replicate n resting) i resting)
resting_valid n i = subst IsValidTask (sym (like n i)) refl
  where
    like : (n i : ℕ) → get_or (replicate n resting) i resting ≡ resting
    like n i = elim (cases_lt i n) [
      | inl lt ↦ get_or-replicate n i resting resting lt
      | inr le ↦ get_or_past (replicate n resting) i resting (omega (arith, length-replicate n resting))
    ]

rests_all : (n i : ℕ) → get_or (replicate n resting) i resting ≡ resting
rests_all n i = elim (cases_lt i n) [
  | inl lt ↦ get_or-replicate n i resting resting lt
  | inr le ↦ get_or_past (replicate n resting) i resting (omega (arith, length-replicate n resting))
]

abbrev nought : ℕ
nought = 0

zeros : (n i : ℕ) → get_or (replicate n nought) i nought ≡ nought
zeros n i = elim (cases_lt i n) [
  | inl lt ↦ get_or-replicate n i nought nought lt
  | inr le ↦ get_or_past (replicate n nought) i nought (omega (arith, length-replicate n nought))
]

bodies_all : (n i : ℕ) → get_or (replicate n first_body) i first_body ≡ first_body
bodies_all n i = elim (cases_lt i n) [
  | inl lt ↦ get_or-replicate n i first_body first_body lt
  | inr le ↦ get_or_past (replicate n first_body) i first_body (omega (arith, length-replicate n first_body))
]

first_fits : (nexts : List (List ℕ)) (i : ℕ) → BodyFits nexts i first_body 0
unfolding Rattle.step_tables.specs.Nexts.row_after
first_fits nexts i = (refl, refl)

pub new-stands : (n w : ℕ) (homes : List ℕ) (nexts : List (List ℕ)) → w ≤ 64 → ((i : ℕ) → i < n → get_or homes i 0 ≤ w) → StandBetween (blank_row n w) homes (replicate n no_holder) nexts (record { workers = w; tasks = replicate n resting })
new-stands n w homes nexts few boxes =
    record {
      workers = refl;
      few = few;
      count = length-replicate n resting;
      boxed = boxes;
      valid = resting_valid n;
      tasks = λ i l. subst (λ (k : ℕ). StandsFor k (seen_of (get_or (replicate n resting) i resting))) (sym (zeros (width w n) (suc i))) (subst (λ (t : TaskState). StandsFor 0 (seen_of t)) (sym (rests_all n i)) (refl, (omega arith, omega arith)));
      boxes = λ b g lb lg. subst (λ (k : ℕ). IsBox (let m : State = record { workers = w; tasks = replicate n resting } in m) b g k) (sym (zeros (width w n) (box_at n b g))) (omega arith, λ j l. bit_at-zero j ∙ ap (λ (t : TaskState). bit (is_boxed b t.place)) (sym (rests_all n (64 * g + j))));
      placed = λ i l. subst (λ (t : TaskState). PlacedBy w (get_or homes i 0) (get_or (replicate n no_holder) i 0) t.place) (sym (rests_all n i)) (get_or-replicate n i no_holder 0 l);
      bodies = λ i l shared lives. subst (λ (b : Body). BodyFits nexts i b (get_or (replicate n resting) i resting).takes) (sym (bodies_all n i)) (subst (λ (t : TaskState). BodyFits nexts i first_body t.takes) (sym (rests_all n i)) (first_fits nexts i));
    }
