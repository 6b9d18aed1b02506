-- Words and holders stand for one state, and a board opened with them keeps the rule.
use Rattle.std.proofs.Common.{◌≡◌, ◌≢◌, ℕ, zero, suc, ◌+◌, ◌<◌, ◌≤◌, Bool, if◌then◌else◌, List, [], replicate, length, get_or, refl, sym, ap, subst, ◌∙◌, inl, inr, arith, eq-eqb, ne_eqb}
use Rattle.std.proofs.lemmas.Bool.{cases_lt}
use Rattle.std.proofs.lemmas.List.{same_lists, get_or_default, get_or_past}
use mathlib.Core.Option.{some, some-injective, some-ne-none}
use lib.ListN.{get_elem?}
use Rattle.atomic_table.specs.Table as table
use Rattle.atomic_table.proofs.Lists.{at_map}
use Rattle.sched_base.specs.declared.names.CallerId.{CallerId}
use Rattle.task_machine.specs.declared.task.Place.{Place}
use Rattle.task_machine.specs.declared.task.Place.TheVariants as places
use Rattle.task_machine.specs.declared.task.TaskState.{TaskState}
use Rattle.task_machine.specs.declared.calls.Entry.{Entry}
use Rattle.task_machine.specs.Task.{resting, seen_of, ValidAt}
use Rattle.task_machine.specs.Step.{State, task_at}
use Rattle.task_word.specs.Word.{seen_in}
use Rattle.task_word.proofs.Words.{seen_in-stands}
use Rattle.wake_board.specs.declared.body.Body.{Body}
use Rattle.wake_board.specs.declared.views.Opening.{Opening}
use Rattle.wake_board.specs.declared.views.View.{View}
use Rattle.wake_board.specs.Rows.{WordRow, task_word, box_at, width, first_body}
use Rattle.wake_board.specs.Start.{Start, start_of, no_holder, task_by, tasks_by, state_by}
use Rattle.wake_board.specs.Between.{PlacedBy, StandBetween, FewTakes}
use Rattle.wake_board.specs.Rule.{IsHomed, IsLogged, IsKept, first_view}
use Rattle.wake_board.specs.Gathered.{IsOpening}
use Rattle.wake_board.specs.Lent.{AreLent}
use Rattle.wake_board.proofs.Tables.{at_single}

-- a task with these parts
abbrev at_parts : Place → ℕ → Bool → ℕ → TaskState
at_parts p n b m = record { place = p; pending = n; killed = b; takes = m }

pub length-tasks_by : (ws : WordRow) (homes holders : List ℕ) (i n : ℕ) → length (tasks_by ws homes holders i n) ≡ n
unfolding tasks_by
length-tasks_by ws homes holders i zero = refl
length-tasks_by ws homes holders i (suc n) = ap suc (length-tasks_by ws homes holders (suc i) n)

pub get_or-tasks_by : (ws : WordRow) (homes holders : List ℕ) (i n j : ℕ) → j < n → get_or (tasks_by ws homes holders i n) j resting ≡ task_by (get_or homes (i + j) 0) (get_or holders (i + j) 0) (seen_in (task_word ws (i + j)))
unfolding tasks_by
get_or-tasks_by ws homes holders i zero j h = absurd (omega arith)
get_or-tasks_by ws homes holders i (suc n) zero h =
    let z : i + 0 ≡ i = omega arith in
    ap (λ (k : ℕ). task_by (get_or homes k 0) (get_or holders k 0) (seen_in (task_word ws k))) (sym z)
get_or-tasks_by ws homes holders i (suc n) (suc j) h =
    let z : suc i + j ≡ i + suc j = omega arith in
    get_or-tasks_by ws homes holders (suc i) n j (omega arith) ∙ ap (λ (k : ℕ). task_by (get_or homes k 0) (get_or holders k 0) (seen_in (task_word ws k))) z

pub task_at-state_by : (ws : WordRow) (homes holders : List ℕ) (i : ℕ) → i < ws.tasks → task_at (state_by ws homes holders) i ≡ task_by (get_or homes i 0) (get_or holders i 0) (seen_in (task_word ws i))
task_at-state_by ws homes holders i h =
    let z : 0 + i ≡ i = omega arith in
    get_or-tasks_by ws homes holders 0 ws.tasks i h ∙ ap (λ (k : ℕ). task_by (get_or homes k 0) (get_or holders k 0) (seen_in (task_word ws k))) z

pick_place : ℕ → ℕ → Bool → Place
pick_place home holder b = if b then places.Boxed home else places.Hands (record { 0 = holder })

-- a task is known by its home, its holder and what is seen of it
task_by-seen : (w home holder : ℕ) (p : Place) (n : ℕ) (b : Bool) (m : ℕ) → w ≤ 64 → PlacedBy w home holder p → ValidAt p (at_parts p n b m) → task_by home holder (seen_of (at_parts p n b m)) ≡ at_parts p n b m
unfolding pick_place
task_by-seen w home holder places.Rest n b m few placed valid = refl
task_by-seen w home holder (places.Hands k) n b m few placed valid =
    let held = placed.0 in
    let caller = placed.1 in
    let ne : holder ≢ no_holder = omega arith in
    let same : record { 0 = holder } ≡ k = ap (λ (x : ℕ). let c : CallerId = record { 0 = x } in c) held in
    ap (λ (x : Bool). at_parts (pick_place home holder x) n b m) (ne_eqb holder no_holder ne) ∙ ap (λ (c : CallerId). at_parts (places.Hands c) n b m) same
task_by-seen w home holder (places.Boxed c) n b m few placed valid =
    ap (λ (x : Bool). at_parts (pick_place home holder x) n b m) (eq-eqb holder no_holder placed.0) ∙ ap (λ (x : ℕ). at_parts (places.Boxed x) n b m) (sym placed.1)
task_by-seen w home holder (places.Drawn k) n b m few placed valid = absurd placed
task_by-seen w home holder (places.Runs k) n b m few placed valid = absurd placed
task_by-seen w home holder places.Gone n b m few placed valid = sym valid

-- the words and holders stand for no other state
pub state-is : (ws : WordRow) (homes holders : List ℕ) (nexts : List (List ℕ)) (m : State) → StandBetween ws homes holders nexts m → m ≡ state_by ws homes holders
state-is ws homes holders nexts m r =
    let count = r.count in
    let each : (i : ℕ) → i < ws.tasks → task_at m i ≡ task_at (state_by ws homes holders) i = λ i l.
    let t : TaskState = task_at m i in
    let seen : seen_in (task_word ws i) ≡ seen_of t = seen_in-stands (task_word ws i) (seen_of t) (r.tasks i l) in
    sym (task_at-state_by ws homes holders i l ∙ (ap (task_by (get_or homes i 0) (get_or holders i 0)) seen ∙ task_by-seen ws.workers (get_or homes i 0) (get_or holders i 0) t.place t.pending t.killed t.takes r.few (r.placed i l) (r.valid i))) in
    let lists : m.tasks ≡ tasks_by ws homes holders 0 ws.tasks = same_lists m.tasks (tasks_by ws homes holders 0 ws.tasks) (r.count ∙ sym (length-tasks_by ws homes holders 0 ws.tasks)) (λ i d l. get_or_default m.tasks i d resting l ∙ (each i (omega arith) ∙ sym (get_or_default (tasks_by ws homes holders 0 ws.tasks) i d resting (omega (arith, length-tasks_by ws homes holders 0 ws.tasks))))) in
    ap (λ (w : ℕ). let x : State = record { workers = w; tasks = m.tasks } in x) r.workers ∙ ap (λ (ts : List TaskState). let x : State = record { workers = ws.workers; tasks = ts } in x) lists

pub one_state : (ws : WordRow) (homes holders : List ℕ) (nexts : List (List ℕ)) (m n : State) → StandBetween ws homes holders nexts m → StandBetween ws homes holders nexts n → m ≡ n
one_state ws homes holders nexts m n a b = state-is ws homes holders nexts m a ∙ sym (state-is ws homes holders nexts n b)

-- what stands in a list of like items
at_replicate : {A : Type 0} (n : ℕ) (a : A) (j : ℕ) (b : A) → get_elem? (replicate n a) j ≡ some b → (j < n) × (b ≡ a)
at_replicate zero a j b e = absurd (some-ne-none b (sym e))
at_replicate (suc n) a zero b e = (omega arith, sym (some-injective a b e))
at_replicate (suc n) a (suc j) b e = let m = at_replicate n a j b e in let l = m.0 in (omega arith, m.1)

at_like : {A : Type 0} (n : ℕ) (a : A) (j : ℕ) → j < n → get_elem? (replicate n a) j ≡ some a
at_like zero a j l = absurd (omega arith)
at_like (suc n) a zero l = refl
at_like (suc n) a (suc j) l = at_like n a j (omega arith)

pub homed_by : (o : Start) (w home holder : ℕ) (i : ℕ) (p : Place) → get_or o.homes i 0 ≡ home → PlacedBy w home holder p → IsHomed o i p
homed_by o w home holder i places.Rest e h = tt
homed_by o w home holder i (places.Hands k) e h = tt
homed_by o w home holder i (places.Boxed b) e h = e ∙ sym h.1
homed_by o w home holder i (places.Drawn k) e h = absurd h
homed_by o w home holder i (places.Runs k) e h = tt
homed_by o w home holder i places.Gone e h = tt

opens_homed : (o : Opening) → StandBetween o.words.value o.homes.items o.holders.items o.nexts.value (start_of o).state → (i : ℕ) → IsHomed (start_of o) i (task_at (start_of o).state i).place
opens_homed o r i =
    let ws : WordRow = o.words.value in
    elim (cases_lt i ws.tasks) [
      | inl lt ↦ homed_by (start_of o) ws.workers (get_or o.homes.items i 0) (get_or o.holders.items i 0) i (task_at (start_of o).state i).place refl (r.placed i lt)
      | inr le ↦
          (let past : task_at (start_of o).state i ≡ resting = get_or_past (start_of o).state.tasks i resting (omega (arith, r.count)) in
          subst (λ (t : TaskState). IsHomed (start_of o) i t.place) (sym past) tt)
    ]

-- a board that is opened keeps the rule
pub opens : (o : Opening) (row : List ℕ) (bodies : List Body) → row ≡ o.words.value.row → AreLent o.words.value o.homes.items bodies → length row ≡ width o.words.value.workers o.words.value.tasks → StandBetween o.words.value o.homes.items o.holders.items o.nexts.value (start_of o).state → FewTakes o.homes.items (start_of o).state → IsKept o (table.opening row bodies (first_view o))
opens o row bodies is_row lent wide r few =
    let ws : WordRow = o.words.value in
    let count : length (start_of o).state.tasks ≡ ws.tasks = r.count in
    let n : ℕ = length (start_of o).state.tasks in
    record {
      history = [];
      owner = λ k. 0;
      legal = tt;
      opened = r;
      few = few;
      words = record {
        wide = wide ∙ ap (width ws.workers) (sym count);
        tasks = λ i l. subst (λ (x : List ℕ). Rattle.task_word.specs.Word.StandsFor (get_or x (suc i) 0) (seen_of (task_at (start_of o).state i))) (sym is_row) (r.tasks i (omega arith));
        boxes = λ b g lb lg. subst (λ (x : List ℕ). Rattle.task_machine.specs.Step.IsBox (start_of o).state b g (get_or x (box_at n b g) 0)) (sym is_row) (subst (λ (k : ℕ). Rattle.task_machine.specs.Step.IsBox (start_of o).state b g (get_or ws.row (box_at k b g) 0)) (sym count) (r.boxes b g lb (omega arith)));
        homed = opens_homed o r;
      };
      takes = λ j e a. absurd (some-ne-none e (sym a));
      paced = λ k. tt;
      logs = λ p v j es at log.
          let here = at_single (first_view o) v p at in
          let item = at_replicate (suc ws.workers) [] j es (subst (λ (x : View). get_elem? x.logs j ≡ some es) (sym here.1) log) in
          let first : IsLogged o (λ k. 0) [] 0 (first_view o) j [] = record { start = refl; owned = refl; caller = (let l = item.0 in omega arith); calls = refl } in
          subst (λ (q : ℕ). IsLogged o (λ k. 0) [] q v j es) (sym here.0) (subst (λ (x : View). IsLogged o (λ k. 0) [] 0 x j es) here.1 (subst (λ (l : List Entry). IsLogged o (λ k. 0) [] 0 (first_view o) j l) (sym item.1) first));
      seated = λ k l. record { seat = 0; view = first_view o; place = k; log = []; at = refl; found = at_like (suc ws.workers) [] k (omega arith); caller = (let z : 0 + k ≡ k = omega arith in z) };
      missed = λ p v j i at miss boxed.
          let here = at_single (first_view o) v p at in
          absurd (some-ne-none i (sym (subst (λ (x : View). get_elem? x.misses j ≡ some i) (sym here.1) miss)));
      housed = record {
        outs = λ p v j x at out.
            let here = at_single (first_view o) v p at in
            absurd (some-ne-none x (sym (subst (λ (y : View). get_elem? y.outs j ≡ some x) (sym here.1) out)));
        apart = λ p v i j x y at out more same.
            let here = at_single (first_view o) v p at in
            absurd (some-ne-none x (sym (subst (λ (z : View). get_elem? z.outs i ≡ some x) (sym here.1) out)));
        bodies = λ i l shared lives.
            let body : Body = get_or ws.bodies i first_body in
            inl (body, at_map some bodies i body (lent.shared i (omega arith) shared), r.bodies i (omega arith) shared lives);
      };
    }

-- the opening that a board is given stands for the state that the words stand for
pub opening_stands : (o : Opening) (ws : WordRow) (homes holders : List ℕ) (nexts : List (List ℕ)) (m : State) → IsOpening o ws homes holders nexts → StandBetween ws homes holders nexts m → FewTakes homes m → StandBetween o.words.value o.homes.items o.holders.items o.nexts.value (start_of o).state × FewTakes o.homes.items (start_of o).state
opening_stands o ws homes holders nexts m is stands few =
    let a : StandBetween o.words.value homes holders nexts m = subst (λ (x : WordRow). StandBetween x homes holders nexts m) (sym is.words) stands in
    let b : StandBetween o.words.value o.homes.items holders nexts m = subst (λ (x : List ℕ). StandBetween o.words.value x holders nexts m) (sym is.homes) a in
    let c : StandBetween o.words.value o.homes.items o.holders.items nexts m = subst (λ (x : List ℕ). StandBetween o.words.value o.homes.items x nexts m) (sym is.holders) b in
    let d : StandBetween o.words.value o.homes.items o.holders.items o.nexts.value m = subst (λ (x : List (List ℕ)). StandBetween o.words.value o.homes.items o.holders.items x m) (sym is.nexts) c in
    let same : m ≡ (start_of o).state = state-is o.words.value o.homes.items o.holders.items o.nexts.value m d in (
      subst (StandBetween o.words.value o.homes.items o.holders.items o.nexts.value) same d,
      subst (FewTakes o.homes.items) same (subst (λ (x : List ℕ). FewTakes x m) (sym is.homes) few),
    )

-- a row by its parts
pub same_row : (a w n t : ℕ) (r q : List ℕ) (bodies : List Body) → a ≡ w → n ≡ t → r ≡ q → (let x : WordRow = record { workers = a; tasks = n; row = r; bodies = bodies } in x) ≡ record { workers = w; tasks = t; row = q; bodies = bodies }
same_row a w n t r q bodies e f g =
    ap (λ (k : ℕ). let x : WordRow = record { workers = k; tasks = n; row = r; bodies = bodies } in x) e ∙ (ap (λ (k : ℕ). let x : WordRow = record { workers = w; tasks = k; row = r; bodies = bodies } in x) f ∙ ap (λ (l : List ℕ). let x : WordRow = record { workers = w; tasks = t; row = l; bodies = bodies } in x) g)
