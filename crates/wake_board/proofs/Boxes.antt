-- The steps on a box word: a post and a get.
use Rattle.std.proofs.Common.{◌≡◌, ◌≢◌, ℕ, suc, ◌+◌, ◌*◌, ◌/◌, ◌%◌, ◌^◌, ◌<◌, ◌≤◌, Bool, true, false, ◌==◌, if◌then◌else◌, List, [], ◌∷◌, length, get_or, set, bit_or, refl, sym, ap, subst, ◌∙◌, inl, inr, arith, eq-eqb, ne_eqb, eqb-true}
use Rattle.std.proofs.lemmas.Bool.{cases_eq, lt-ltb}
use Rattle.std.proofs.lemmas.List.{get_or-set_same}
use Rattle.std.proofs.lemmas.Nat.{or_lt, same_from_place, mul-add-lt}
use Rattle.std.proofs.lemmas.Nat.Bits.{bit_at_set_same, bit_at_set_other, bit_at-zero, bit_at-pow_same, bit_at-pow_other}
use Rattle.std.proofs.Math.ListN.{length-set}
use Rattle.std.proofs.Math.Nat.{mul_comm}
use Rattle.std.proofs.Math.Pow.{pow-lt}
use Rattle.std.specs.Int.{bit_at, w64}
use mathlib.Core.Option.{none}
use Rattle.atomic_table.specs.Table as table
use Rattle.sched_base.specs.declared.names.CallerId.{CallerId}
use Rattle.task_machine.specs.declared.task.Place.{Place}
use Rattle.task_machine.specs.declared.task.Place.TheVariants as places
use Rattle.task_machine.specs.declared.task.TaskState.{TaskState}
use Rattle.task_machine.specs.declared.calls.Call.{Call}
use Rattle.task_machine.specs.declared.calls.Call.TheVariants as calls
use Rattle.task_machine.specs.declared.calls.Reply.TheVariants as replies
use Rattle.task_machine.specs.declared.calls.Entry.{Entry}
use Rattle.task_machine.specs.Task.{is_boxed, in_hands, put, got, seen_of, seen_at}
use Rattle.task_machine.specs.Step.{State, task_at, bit, IsBox, Allowed}
use Rattle.task_machine.specs.History.{stepped}
use Rattle.task_machine.specs.Own.{holding, own_at}
use Rattle.task_machine.proofs.After.{task_at-after}
use Rattle.task_word.specs.Word.{StandsFor}
use Rattle.wake_board.specs.declared.body.Body.{Body}
use Rattle.wake_board.specs.declared.views.Opening.{Opening}
use Rattle.wake_board.specs.declared.views.View.{View}
use Rattle.wake_board.specs.Rows.{groups, box_at, width}
use Rattle.wake_board.specs.Start.{Start, start_of, start_in, home_of}
use Rattle.wake_board.specs.Rule.{now_of, IsHomed, Worded, IsKept}
use Rattle.wake_board.specs.Seen.{entry_by, own_log, logged, bit_mask, count_in, own_view, BringsHome, Told, TellsPost, TellsGet}
use Rattle.wake_board.proofs.Tasks.{OneTask, one-after, each_task, get_word-other, SameLead, same_lead, housed-same}
use Rattle.wake_board.proofs.Moves.{own_first, kept-call, attests-call}
use Rattle.wake_board.proofs.Wakes.{workers-led, length-led, named-now}
use Rattle.wake_board.proofs.Looks.{own-now}
use Rattle.wake_board.proofs.Runs.{hands_by}

-- a task with these parts
abbrev parts : Place → ℕ → Bool → ℕ → TaskState
parts p n b m = record { place = p; pending = n; killed = b; takes = m }

-- two places of box words are one only for one group of one box
pub box_places : (n b g x y : ℕ) → 64 * g < n → 64 * y < n → box_at n b g ≡ box_at n x y → (b ≡ x) × (g ≡ y)
box_places n b g x y lg ly e =
    let same : b * groups n + g ≡ x * groups n + y = omega arith in
    same_from_place b g x y (groups n) (omega arith) (omega arith) same

pub box_within : (w n b g : ℕ) → b ≤ w → 64 * g < n → box_at n b g < width w n
box_within w n b g lb lg =
    let less : b * groups n + g < groups n * (w + 1) = mul-add-lt b (groups n) g (w + 1) (omega arith) (omega arith) in
    let turn : groups n * (w + 1) ≡ (w + 1) * groups n = mul_comm (groups n) (w + 1) in
    omega arith

pub task_apart : (n b g j : ℕ) → j < n → suc j ≢ box_at n b g
task_apart n b g j h e = omega arith

-- what a box word tells depends on its own tasks alone
pub IsBox-group : (m m' : State) (b g n : ℕ) → ((j : ℕ) → j < 64 → is_boxed b (task_at m' (64 * g + j)).place ≡ is_boxed b (task_at m (64 * g + j)).place) → IsBox m b g n → IsBox m' b g n
IsBox-group m m' b g n same h = (h.0, λ j l. h.1 j l ∙ ap bit (sym (same j l)))

-- all box words after a step on one of them
pub boxes_after : (o : Start) (words : List ℕ) (m m' : State) (b g y : ℕ) → Worded o words m → b ≤ o.state.workers → 64 * g < length o.state.tasks → IsBox m' b g y → ((x h j : ℕ) → j < 64 → ((x ≡ b) × (h ≡ g) → ⊥) → is_boxed x (task_at m' (64 * h + j)).place ≡ is_boxed x (task_at m (64 * h + j)).place) → (x h : ℕ) → x ≤ o.state.workers → 64 * h < length o.state.tasks → IsBox m' x h (get_or (set words (box_at (length o.state.tasks) b g) y) (box_at (length o.state.tasks) x h) 0)
boxes_after o words m m' b g y r lb lg here others x h lx lh =
    let n : ℕ = length o.state.tasks in
    let at : ℕ = box_at n b g in
    let room : at < length words = subst (λ (k : ℕ). at < k) (sym r.wide) (box_within o.state.workers n b g lb lg) in
    elim (cases_eq (box_at n x h) at) [
      | inl same ↦
          (let one = box_places n x h b g lh lg same in
          let value : get_or (set words at y) (box_at n x h) 0 ≡ y = ap (λ (k : ℕ). get_or (set words at y) k 0) same ∙ get_or-set_same words at y 0 room in
          subst (IsBox m' x h) (sym value) (subst (λ (k : ℕ). IsBox m' k h y) (sym one.0) (subst (λ (k : ℕ). IsBox m' b k y) (sym one.1) here)))
      | inr ne ↦
          subst (IsBox m' x h) (sym (get_word-other words at (box_at n x h) y ne)) (IsBox-group m m' x h (get_or words (box_at n x h) 0) (λ j l. others x h j l (λ e. ne (ap (λ (k : ℕ). box_at n k h) e.0 ∙ ap (λ (k : ℕ). box_at n b k) e.1))) (r.boxes x h lx lh))
    ]

-- a step on a box word leaves the words of tasks that are seen as before
pub tasks_after : (o : Start) (words : List ℕ) (m m' : State) (b g y : ℕ) → Worded o words m → ((j : ℕ) → seen_of (task_at m' j) ≡ seen_of (task_at m j)) → (j : ℕ) → j < length o.state.tasks → StandsFor (get_or (set words (box_at (length o.state.tasks) b g) y) (suc j) 0) (seen_of (task_at m' j))
tasks_after o words m m' b g y r seen j l =
    subst (λ (k : ℕ). StandsFor k (seen_of (task_at m' j))) (sym (get_word-other words (box_at (length o.state.tasks) b g) (suc j) y (task_apart (length o.state.tasks) b g j l))) (subst (StandsFor (get_or words (suc j) 0)) (sym (seen j)) (r.tasks j l))

pub in_group : (i : ℕ) → 64 * (i / 64) + i % 64 ≡ i
in_group i = omega arith

group_of : (g j : ℕ) → j < 64 → ((64 * g + j) / 64 ≡ g) × ((64 * g + j) % 64 ≡ j)
group_of g j l = (omega arith, omega arith)

-- a task that is posted
posted_seen : (b : ℕ) (k : CallerId) (t : TaskState) → t.place ≡ places.Hands k → seen_of (put (places.Boxed b) t) ≡ seen_of t
posted_seen b k t e = sym (ap (λ (p : Place). seen_at p t) e)

posted_lead : (b : ℕ) (k : CallerId) (t : TaskState) → t.place ≡ places.Hands k → SameLead t (put (places.Boxed b) t)
posted_lead b k t e =
    subst (λ (p : Place). SameLead (let x : TaskState = record t { place = p } in x) (put (places.Boxed b) t)) (sym e) (record { leads = λ owner p l. l; gained = refl; takes = refl; lives = λ h x. cc })

-- the box word after a post
pub box_posted : (m m' : State) (b i n : ℕ) (u : TaskState) → OneTask m m' i u → is_boxed b u.place ≡ true → IsBox m b (i / 64) n → IsBox m' b (i / 64) (bit_or n (bit_mask (i % 64)))
box_posted m m' b i n u one boxed h =
    let low : i % 64 < 64 = omega arith in
    let small : bit_mask (i % 64) < 2 ^ 64 = omega arith in (
      or_lt 64 n (bit_mask (i % 64)) h.0 small,
      λ j l. elim (cases_eq j (i % 64)) [
        | inl same ↦
            (let here : task_at m' (64 * (i / 64) + i % 64) ≡ u = ap (task_at m') (in_group i) ∙ one.here in
            subst (λ (x : ℕ). bit_at (bit_or n (bit_mask (i % 64))) x ≡ bit (is_boxed b (task_at m' (64 * (i / 64) + x)).place)) (sym same) (bit_at_set_same w64 n (i % 64) low ∙ sym (ap (λ (t : TaskState). bit (is_boxed b t.place)) here ∙ ap bit boxed)))
        | inr ne ↦
            (let apart : 64 * (i / 64) + j ≢ i = λ e. ne (omega arith) in
            bit_at_set_other w64 n (i % 64) low j ne ∙ (h.1 j l ∙ ap (λ (t : TaskState). bit (is_boxed b t.place)) (sym (one.others (64 * (i / 64) + j) apart))))
      ],
    )

-- a bit is known by its mask
pub mask_pow : (j : ℕ) → j < 64 → bit_mask j ≡ 2 ^ j
mask_pow j l =
    let below : 2 ^ j < 2 ^ 64 = pow-lt l in omega arith

pub mask_same : (a b : ℕ) → a < 64 → b < 64 → bit_mask a ≡ bit_mask b → a ≡ b
mask_same a b la lb e =
    elim (cases_eq a b) [
      | inl same ↦ same
      | inr ne ↦
          (let pows : 2 ^ a ≡ 2 ^ b = sym (mask_pow a la) ∙ (e ∙ mask_pow b lb) in
          let one : bit_at (2 ^ a) a ≡ 1 = bit_at-pow_same a in
          let none' : bit_at (2 ^ b) a ≡ 0 = bit_at-pow_other b a ne in
          let bits : bit_at (2 ^ a) a ≡ bit_at (2 ^ b) a = ap (λ (x : ℕ). bit_at x a) pows in
          absurd (omega arith))
    ]

no_get_post : (i b g : ℕ) → calls.Post (record { 0 = i }) b ≢ calls.Get g
no_get_post i b g e = cc

pub posts_at : (o : Opening) (slots id : ℕ) (me : table.Me Body View) (i b : ℕ) → me.0.logs ≡ own_log me.0.logs ∷ [] → i < length (start_of o).state.tasks → b ≤ (start_of o).state.workers → own_view me.0 i ≡ holding → home_of (start_of o) i ≡ b → table.Allows (IsKept o) slots id me (box_at (length (start_of o).state.tasks) b (i / 64)) (λ n. bit_or n (bit_mask (i % 64))) (TellsPost (table.step slots (box_at (length (start_of o).state.tasks) b (i / 64)) (bit_mask (i % 64)) 0 none) me)
posts_at o slots id me i b one within lb held home s r sized at wide =
    let v : View = me.0 in
    let k : CallerId = record { 0 = v.first } in
    let c : Call = calls.Post (record { 0 = i }) b in
    let m : State = now_of (start_of o) r.history in
    let t : TaskState = task_at m i in
    let n : ℕ = length (start_of o).state.tasks in
    let x : ℕ = box_at n b (i / 64) in
    let word : ℕ = get_or s.words x 0 in
    let y : ℕ = bit_or word (bit_mask (i % 64)) in
    let e : Entry = entry_by v.first c replies.Done in
    let u : TaskState = put (places.Boxed b) t in
    let group : 64 * (i / 64) < n = omega arith in
    let place : t.place ≡ places.Hands k = hands_by v.first t.place (own-now o s r id v i at one ∙ held) in
    let w = workers-led (start_of o).state r.history in
    let named = named-now o s r id v c at one within (lt-ltb b (m.workers + 1) (omega arith)) in
    let allowed : Allowed m e = record { named = named; fit = subst (λ (p : Place). in_hands k p ≡ true) (sym place) (eq-eqb v.first v.first refl); room = tt; reply = refl } in
    let one_task : OneTask m (stepped m e) i u = one-after m k c (no_get_post i b) named in
    let boxed : is_boxed b (places.Boxed b) ≡ true = eq-eqb b b refl in
    let worded : Worded (start_of o) (set s.words x y) (stepped m e) = record {
      wide = length-set s.words x y ∙ r.words.wide;
      tasks = tasks_after (start_of o) s.words m (stepped m e) b (i / 64) y r.words (each_task m (stepped m e) i u (λ j q. seen_of q ≡ seen_of (task_at m j)) one_task (posted_seen b k t place) (λ j ne. refl));
      boxes = boxes_after (start_of o) s.words m (stepped m e) b (i / 64) y r.words lb group (box_posted m (stepped m e) b i word u one_task boxed (r.words.boxes b (i / 64) lb group)) (λ z h j l apart.
          elim (cases_eq (64 * h + j) i) [
            | inl same ↦
                (let group' : h ≡ i / 64 = omega arith in
                let ne : z ≢ b = λ e'. apart (e', group') in
                ap (λ (q : ℕ). is_boxed z (task_at (stepped m e) q).place) same ∙ (ap (λ (q : TaskState). is_boxed z q.place) one_task.here ∙ (ne_eqb z b ne ∙ sym (ap (λ (q : ℕ). is_boxed z (task_at m q).place) same ∙ ap (is_boxed z) place))))
            | inr ne ↦ ap (λ (q : TaskState). is_boxed z q.place) (one_task.others (64 * h + j) ne)
          ]);
      homed = each_task m (stepped m e) i u (λ j q. IsHomed (start_of o) j q.place) one_task home (λ j ne. r.words.homed j);
    } in
    let leads = each_task m (stepped m e) i u (λ j q. SameLead (task_at m j) q) one_task (posted_lead b k t place) (λ j ne. same_lead (task_at m j)) in
    let housed = housed-same (start_of o) r.owner m (stepped m e) s.homes s.views id v (logged v e) r.housed leads at refl in (
      logged v e,
      table.keeps,
      tt,
      kept-call o s r id v e (set s.words x y) s.homes at one refl allowed tt tt worded housed,
      λ j z lj lz place' mask.
          let start : start_in v.start ≡ start_of o = ap start_in (own_first o s r id v at one).3 in
          let count : count_in v ≡ n = ap (λ (q : Start). length q.state.tasks) start in
          let lj' : 64 * (j / 64) < n = omega arith in
          let both = box_places n b (i / 64) z (j / 64) group lj' (place' ∙ ap (λ (q : ℕ). box_at q z (j / 64)) count) in
          let low = mask_same (i % 64) (j % 64) (omega arith) (omega arith) mask in
          let high = both.1 in
          let same : i ≡ j = omega arith in
          subst (λ (q : ℕ). Told me (calls.Post (record { 0 = q }) z) replies.Done (logged v e, me.1)) same (subst (λ (q : ℕ). Told me (calls.Post (record { 0 = i }) q) replies.Done (logged v e, me.1)) both.0 (record { seat = refl; attested = attests-call o s r id v c replies.Done at one allowed })),
    )

pub posts_on : (o : Opening) (slots id : ℕ) (me : table.Me Body View) (i b x mask : ℕ) → me.0.logs ≡ own_log me.0.logs ∷ [] → i < length (start_of o).state.tasks → b ≤ (start_of o).state.workers → own_view me.0 i ≡ holding → home_of (start_of o) i ≡ b → x ≡ box_at (length (start_of o).state.tasks) b (i / 64) → mask ≡ bit_mask (i % 64) → table.Allows (IsKept o) slots id me x (λ n. bit_or n mask) (TellsPost (table.step slots x mask 0 none) me)
posts_on o slots id me i b x mask one within lb held home place is =
    let P : ℕ → ℕ → Type 0 = λ y q. table.Allows (IsKept o) slots id me y (λ n. bit_or n q) (TellsPost (table.step slots y q 0 none) me) in
    subst (λ (y : ℕ). P y mask) (sym place) (subst (P (box_at (length (start_of o).state.tasks) b (i / 64))) (sym is) (posts_at o slots id me i b one within lb held home))

-- a task that may be got
got_seen : (k : CallerId) (p : Place) (n : ℕ) (b : Bool) (m : ℕ) → seen_of (got k (parts p n b m)) ≡ seen_of (parts p n b m)
got_seen k places.Rest n b m = refl
got_seen k (places.Hands j) n b m = refl
got_seen k (places.Boxed c) n b m = either' (k.0 == c)
  where
    either' : (q : Bool) → seen_of (if q then parts (places.Hands k) n b m else parts (places.Boxed c) n b m) ≡ seen_of (parts (places.Boxed c) n b m)
    either' true = refl
    either' false = refl
got_seen k (places.Drawn j) n b m = refl
got_seen k (places.Runs j) n b m = refl
got_seen k places.Gone n b m = refl

got_homed : (o : Start) (i : ℕ) (k : CallerId) (p : Place) (n : ℕ) (b : Bool) (m : ℕ) → IsHomed o i p → IsHomed o i (got k (parts p n b m)).place
got_homed o i k places.Rest n b m h = tt
got_homed o i k (places.Hands j) n b m h = tt
got_homed o i k (places.Boxed c) n b m h = either' (k.0 == c)
  where
    either' : (q : Bool) → IsHomed o i (if q then parts (places.Hands k) n b m else parts (places.Boxed c) n b m).place
    either' true = tt
    either' false = h
got_homed o i k (places.Drawn j) n b m h = h
got_homed o i k (places.Runs j) n b m h = tt
got_homed o i k places.Gone n b m h = tt

boxed_lead : (k : CallerId) (c : ℕ) (n : ℕ) (b : Bool) (m : ℕ) (q : Bool) → SameLead (parts (places.Boxed c) n b m) (if q then parts (places.Hands k) n b m else parts (places.Boxed c) n b m)
boxed_lead k c n b m true = record { leads = λ owner p l. l; gained = refl; takes = refl; lives = λ h e. cc }
boxed_lead k c n b m false = same_lead (parts (places.Boxed c) n b m)

got_lead : (k : CallerId) (p : Place) (n : ℕ) (b : Bool) (m : ℕ) → SameLead (parts p n b m) (got k (parts p n b m))
got_lead k places.Rest n b m = same_lead (parts places.Rest n b m)
got_lead k (places.Hands j) n b m = same_lead (parts (places.Hands j) n b m)
got_lead k (places.Boxed c) n b m = boxed_lead k c n b m (k.0 == c)
got_lead k (places.Drawn j) n b m = same_lead (parts (places.Drawn j) n b m)
got_lead k (places.Runs j) n b m = same_lead (parts (places.Runs j) n b m)
got_lead k places.Gone n b m = same_lead (parts places.Gone n b m)

-- after a get the caller's own box holds none of the group, and other boxes hold what they held
got_empty : (k : CallerId) (p : Place) (n : ℕ) (b : Bool) (m : ℕ) → is_boxed k.0 (got k (parts p n b m)).place ≡ false
got_empty k places.Rest n b m = refl
got_empty k (places.Hands j) n b m = refl
got_empty k (places.Boxed c) n b m = either' (k.0 == c) refl
  where
    either' : (q : Bool) → (k.0 == c) ≡ q → is_boxed k.0 (if q then parts (places.Hands k) n b m else parts (places.Boxed c) n b m).place ≡ false
    either' true e = refl
    either' false e = e
got_empty k (places.Drawn j) n b m = refl
got_empty k (places.Runs j) n b m = refl
got_empty k places.Gone n b m = refl

got_others : (k : CallerId) (x : ℕ) (p : Place) (n : ℕ) (b : Bool) (m : ℕ) → x ≢ k.0 → is_boxed x (got k (parts p n b m)).place ≡ is_boxed x p
got_others k x places.Rest n b m ne = refl
got_others k x (places.Hands j) n b m ne = refl
got_others k x (places.Boxed c) n b m ne = either' (k.0 == c) refl
  where
    either' : (q : Bool) → (k.0 == c) ≡ q → is_boxed x (if q then parts (places.Hands k) n b m else parts (places.Boxed c) n b m).place ≡ (x == c)
    either' true e = sym (ne_eqb x c (λ same. ne (same ∙ sym (eqb-true k.0 c e))))
    either' false e = refl
got_others k x (places.Drawn j) n b m ne = refl
got_others k x (places.Runs j) n b m ne = refl
got_others k x places.Gone n b m ne = refl

pub bit_one : (b : Bool) → bit b ≡ 1 → b ≡ true
bit_one true e = refl
bit_one false e = cc

pub boxed_place : (b : ℕ) (p : Place) → is_boxed b p ≡ true → p ≡ places.Boxed b
boxed_place b places.Rest e = cc
boxed_place b (places.Hands j) e = cc
boxed_place b (places.Boxed c) e = ap places.Boxed (sym (eqb-true b c e))
boxed_place b (places.Drawn j) e = cc
boxed_place b (places.Runs j) e = cc
boxed_place b places.Gone e = cc

-- a fact of each task after a get, by whether the get is about it
each_got : (m m' : State) (k : CallerId) (g : ℕ) (P : ℕ → TaskState → Type 0) → ((j : ℕ) → task_at m' j ≡ (if j / 64 == g then got k (task_at m j) else task_at m j)) → ((j : ℕ) → P j (got k (task_at m j))) → ((j : ℕ) → P j (task_at m j)) → (j : ℕ) → P j (task_at m' j)
each_got m m' k g P is hit miss j =
    subst (P j) (sym (is j)) (either' (j / 64 == g))
  where
    either' : (q : Bool) → P j (if q then got k (task_at m j) else task_at m j)
    either' true = hit j
    either' false = miss j

pub gets_at : (o : Opening) (slots id : ℕ) (me : table.Me Body View) (g : ℕ) → me.0.logs ≡ own_log me.0.logs ∷ [] → 64 * g < length (start_of o).state.tasks → me.0.first < (start_of o).state.workers → table.Allows (IsKept o) slots id me (box_at (length (start_of o).state.tasks) me.0.first g) (λ n. 0) (TellsGet (table.step slots (box_at (length (start_of o).state.tasks) me.0.first g) 0 0 none) me)
gets_at o slots id me g one within worker s r sized at wide =
    let v : View = me.0 in
    let k : CallerId = record { 0 = v.first } in
    let c : Call = calls.Get g in
    let m : State = now_of (start_of o) r.history in
    let n : ℕ = length (start_of o).state.tasks in
    let x : ℕ = box_at n v.first g in
    let word : ℕ = get_or s.words x 0 in
    let e : Entry = entry_by v.first c (replies.Group word) in
    let lb : v.first ≤ (start_of o).state.workers = omega arith in
    let w = workers-led (start_of o).state r.history in
    let l = length-led (start_of o).state r.history in
    let mine = own_first o s r id v at one in
    let before : IsBox m v.first g word = r.words.boxes v.first g lb within in
    let named = named-now o s r id v c at one within (lt-ltb v.first m.workers (omega arith)) in
    let allowed : Allowed m e = record { named = named; fit = refl; room = tt; reply = (word, refl, before) } in
    let after : (j : ℕ) → task_at (stepped m e) j ≡ (if j / 64 == g then got k (task_at m j) else task_at m j) = λ j. task_at-after m k c j (omega arith) in
    let in_here : (j : ℕ) → j < 64 → task_at (stepped m e) (64 * g + j) ≡ got k (task_at m (64 * g + j)) = λ j lj. after (64 * g + j) ∙ ap (λ (q : Bool). if q then got k (task_at m (64 * g + j)) else task_at m (64 * g + j)) (eq-eqb ((64 * g + j) / 64) g (group_of g j lj).0) in
    let empty : IsBox (stepped m e) v.first g 0 = (omega arith, λ j lj. bit_at-zero j ∙ sym (ap (λ (q : TaskState). bit (is_boxed v.first q.place)) (in_here j lj) ∙ ap bit (let t : TaskState = task_at m (64 * g + j) in got_empty k t.place t.pending t.killed t.takes))) in
    let worded : Worded (start_of o) (set s.words x 0) (stepped m e) = record {
      wide = length-set s.words x 0 ∙ r.words.wide;
      tasks = tasks_after (start_of o) s.words m (stepped m e) v.first g 0 r.words (each_got m (stepped m e) k g (λ j q. seen_of q ≡ seen_of (task_at m j)) after (λ j. let t : TaskState = task_at m j in got_seen k t.place t.pending t.killed t.takes) (λ j. refl));
      boxes = boxes_after (start_of o) s.words m (stepped m e) v.first g 0 r.words lb within empty (λ z h j lj apart.
          elim (cases_eq h g) [
            | inl same ↦
                (let ne : z ≢ v.first = λ e'. apart (e', same) in
                let t : TaskState = task_at m (64 * h + j) in
                let about : (64 * h + j) / 64 ≡ g = (group_of h j lj).0 ∙ same in
                ap (λ (q : TaskState). is_boxed z q.place) (after (64 * h + j) ∙ ap (λ (q : Bool). if q then got k t else t) (eq-eqb ((64 * h + j) / 64) g about)) ∙ got_others k z t.place t.pending t.killed t.takes ne)
            | inr ne ↦
                (let t : TaskState = task_at m (64 * h + j) in
                let about : (64 * h + j) / 64 ≢ g = λ e'. ne (sym (group_of h j lj).0 ∙ e') in
                ap (λ (q : TaskState). is_boxed z q.place) (after (64 * h + j) ∙ ap (λ (q : Bool). if q then got k t else t) (ne_eqb ((64 * h + j) / 64) g about)))
          ]);
      homed = each_got m (stepped m e) k g (λ j q. IsHomed (start_of o) j q.place) after (λ j. let t : TaskState = task_at m j in got_homed (start_of o) j k t.place t.pending t.killed t.takes (r.words.homed j)) r.words.homed;
    } in
    let leads = each_got m (stepped m e) k g (λ j q. SameLead (task_at m j) q) after (λ j. let t : TaskState = task_at m j in got_lead k t.place t.pending t.killed t.takes) (λ j. same_lead (task_at m j)) in
    let housed = housed-same (start_of o) r.owner m (stepped m e) s.homes s.views id v (logged v e) r.housed leads at refl in
    let start : start_in v.start ≡ start_of o = ap start_in mine.3 in
    let brings : BringsHome v g word = λ j lj set'.
    let boxed : is_boxed v.first (task_at m (64 * g + j)).place ≡ true = bit_one (is_boxed v.first (task_at m (64 * g + j)).place) (sym (before.1 j lj) ∙ set') in
    let place : (task_at m (64 * g + j)).place ≡ places.Boxed v.first = boxed_place v.first (task_at m (64 * g + j)).place boxed in (
      ap (λ (q : Start). home_of q (64 * g + j)) start ∙ subst (IsHomed (start_of o) (64 * g + j)) place (r.words.homed (64 * g + j)),
      sym (own-now o s r id v (64 * g + j) at one) ∙ ap (own_at v.first) place,
    ) in (
      logged v e,
      table.keeps,
      tt,
      kept-call o s r id v e (set s.words x 0) s.homes at one refl allowed tt tt worded housed,
      λ h lh place'.
          let count : count_in v ≡ n = ap (λ (q : Start). length q.state.tasks) start in
          let same = (box_places n v.first g v.first h within (omega arith) (place' ∙ ap (λ (q : ℕ). box_at q v.first h) count)).1 in (
            subst (λ (q : ℕ). Told me (calls.Get q) (replies.Group word) (logged v e, me.1)) same (record { seat = refl; attested = attests-call o s r id v c (replies.Group word) at one allowed }),
            subst (λ (q : ℕ). BringsHome v q word) same brings,
          ),
    )

pub gets_on : (o : Opening) (slots id : ℕ) (me : table.Me Body View) (g x : ℕ) → me.0.logs ≡ own_log me.0.logs ∷ [] → 64 * g < length (start_of o).state.tasks → me.0.first < (start_of o).state.workers → x ≡ box_at (length (start_of o).state.tasks) me.0.first g → table.Allows (IsKept o) slots id me x (λ n. 0) (TellsGet (table.step slots x 0 0 none) me)
gets_on o slots id me g x one within worker place =
    subst (λ (y : ℕ). table.Allows (IsKept o) slots id me y (λ n. 0) (TellsGet (table.step slots y 0 0 none) me)) (sym place) (gets_at o slots id me g one within worker)
