-- What a caller has after a call, and a board of tasks at rest.
use Rattle.std.proofs.Common.{◌≡◌, ◌≢◌, ℕ, zero, suc, ◌+◌, ◌/◌, ◌%◌, ◌-◌, ◌^◌, ◌<◌, ◌≤◌, Bool, true, false, ◌==◌, if◌then◌else◌, List, [], ◌∷◌, length, replicate, get_or, set, Option, Some, None, refl, sym, ap, subst, ◌∙◌, inl, inr, arith, eq-eqb}
use Rattle.std.proofs.lemmas.Bool.{cases_lt, cases_eq}
use Rattle.std.proofs.lemmas.List.{get_or_past, get_or-replicate, length-replicate, get_or-set_same, get_or-set_other}
use Rattle.std.proofs.lemmas.Option.{slice_get-get_or}
use Rattle.std.proofs.Math.ListN.{length-set}
use Rattle.std.specs.List.{slice_get}
use mathlib.Core.Option.{some, some-ne-none}
use lib.ListN.{get_elem?}
use Rattle.wake_board.specs.declared.views.Out.{Out}
use Rattle.std.specs.Int.{bit_at}
use Rattle.task_machine.specs.declared.task.Seen.{Seen}
use Rattle.task_machine.specs.declared.task.TaskState.{TaskState}
use Rattle.sched_base.specs.declared.names.TaskId.{TaskId}
use Rattle.task_machine.specs.declared.calls.Call.{Call}
use Rattle.task_machine.specs.declared.calls.Call.TheVariants as calls
use Rattle.task_machine.specs.declared.calls.Reply.{Reply}
use Rattle.task_machine.specs.declared.calls.Reply.TheVariants as replies
use Rattle.task_machine.specs.declared.calls.Entry.{Entry}
use Rattle.task_machine.specs.Task.{resting, seated}
use Rattle.task_machine.specs.Step.{State, task_at, put_task, subject, is_about, bit}
use Rattle.task_machine.specs.Since.{is_take}
use Rattle.task_machine.specs.Event.{apart, gets, misses, event_of, event_at}
use Rattle.task_machine.specs.Own.{Own, away, holding, drawing, running, saw_rest, saw_busy, own_at, own_next}
use Rattle.task_machine.proofs.About.{NoGet, is_about-subject, is_about-other}
use Rattle.wake_board.specs.Rows.{WordRow, width, task_word, blank_row, row_seated}
use Rattle.wake_board.specs.Start.{Start, no_holder, home_of}
use Rattle.wake_board.specs.Outs.{NoBody}
use Rattle.wake_board.specs.Own.{known_takes}
use Rattle.wake_board.specs.Bodies.{MayTake}
use Rattle.wake_board.specs.Between.{StandBetween, FewTakes}
use Rattle.wake_board.specs.Seen.{Held, Laid, entry_by, with_call, with_misses, Calls, Misses}
use Rattle.wake_board.specs.Ends.{Opens, own_by, fresh, IsIdle, AllBack}
use Rattle.wake_board.specs.Laws.{NewWordsStand, SeatedWordsStand, WordsStandForOneState}
use Rattle.wake_board.proofs.Grown.{own-called, takes-called}
use Rattle.board_bench.specs.declared.caller.Caller.{Caller}
use Rattle.board_bench.specs.declared.driven.Driven.{Driven}
use Rattle.board_bench.specs.declared.has.Has.{Has}
use Rattle.board_bench.specs.declared.has.Has.TheVariants as has
use Rattle.board_bench.specs.Callers.{own_in, IsUsed, IsListed, IsLaid, IsLook, IsAtRest, IsDriven, IsAt, HasShared}

-- n tasks that rest, and w workers
abbrev pub all_rest : ℕ → ℕ → State
all_rest n w = record { workers = w; tasks = replicate n resting }

pub rests_at : (n w i : ℕ) → task_at (all_rest n w) i ≡ resting
rests_at n w i = elim (cases_lt i n) [
  | inl lt ↦ get_or-replicate n i resting resting lt
  | inr le ↦ get_or_past (replicate n resting) i resting (omega (arith, length-replicate n resting))
]

pub words_stand : (ws : WordRow) (n w : ℕ) (homes holders : List ℕ) (nexts : List (List ℕ)) → NewWordsStand → ws ≡ blank_row n w → holders ≡ replicate n no_holder → w ≤ 64 → ((i : ℕ) → i < n → get_or homes i 0 ≤ w) → StandBetween ws homes holders nexts (all_rest n w)
words_stand ws n w homes holders nexts law is free few boxes =
    subst (λ (x : WordRow). StandBetween x homes holders nexts (all_rest n w)) (sym is) (subst (λ (hs : List ℕ). StandBetween (blank_row n w) homes hs nexts (all_rest n w)) (sym free) (law n w homes nexts few boxes))

pub few_takes : (homes : List ℕ) (n w : ℕ) → FewTakes homes (all_rest n w)
few_takes homes n w i l shared lives =
    let none : (task_at (all_rest n w) i).takes ≡ 0 = ap (λ (t : TaskState). t.takes) (rests_at n w i) in omega arith

pub is_laid : (ws : WordRow) (n w : ℕ) (homes holders : List ℕ) (nexts : List (List ℕ)) (b : Laid) (passes : List (Option Held)) → WordsStandForOneState → StandBetween ws homes holders nexts (all_rest n w) → ws ≡ blank_row n w → Opens ws homes holders nexts b passes → IsLaid n w homes b passes
is_laid ws n w homes holders nexts b passes law stands is r =
    let workers : ws.workers ≡ w = ap (λ (x : WordRow). x.workers) is in
    record {
      state = law ws homes holders nexts b.start.state (all_rest n w) r.stands stands;
      homes_are = r.homes_are;
      count = r.count ∙ ap suc workers;
      each = λ k l. r.each k (omega arith);
    }

bit_one : (b : Bool) → bit b ≤ 1
bit_one true = omega arith
bit_one false = omega arith

-- a call leaves of which board a pass is, and that no body is out with it
pub used_after : (b : Laid) (p q : Held) (c : Call) (r : Reply) → IsUsed b p → Calls p c r q → IsUsed b q
used_after b p q c r u t =
    let there : IsUsed b (with_call p c r) = record { board = u.board; start = u.start; outs = u.outs } in
    subst (IsUsed b) (sym t.entry) there

-- the list after a call that names a task
pub changed : (b : Laid) (p q : Held) (list : List Has) (n m : ℕ) (c : Call) (r : Reply) (j : ℕ) (x : Has) → NoGet c → subject c ≡ j → IsListed b p list n → Calls p c r q → j < length list → own_in x ≡ own_next (own_in (get_or list j has.Nothing)) (event_of j c r) → ((i : ℕ) → n + bit (is_take i c) ≤ m) → IsListed b q (set list j x) m
changed b p q list n m c r j x ng is l t within becomes room =
    let e : Entry = entry_by p.who c r in
    let count = length-set list j x in
    record {
      used = used_after b p q c r l.used t;
      count = count ∙ l.count;
      own = λ i lt.
          let lt' : i < length list = omega arith in
          let before = l.own i lt' in
          own-called p q c r i t ∙ (ap (λ (o : Own). own_next o (event_at i e)) before ∙ elim (cases_eq i j) [
            | inl same ↦
                (let about : is_about j c ≡ true = subst (λ (k : ℕ). is_about k c ≡ true) is (is_about-subject c ng) in
                let event : event_at j e ≡ event_of j c r = ap (λ (y : Bool). if y then event_of j c r else apart) about in
                let here : own_next (own_in (get_or list j has.Nothing)) (event_at j e) ≡ own_in (get_or (set list j x) j has.Nothing) = ap (own_next (own_in (get_or list j has.Nothing))) event ∙ (sym becomes ∙ ap own_in (sym (get_or-set_same list j x has.Nothing within))) in
                subst (λ (k : ℕ). own_next (own_in (get_or list k has.Nothing)) (event_at k e) ≡ own_in (get_or (set list j x) k has.Nothing)) (sym same) here)
            | inr ne ↦
                (let other : is_about i c ≡ false = is_about-other i c ng (λ z. ne (z ∙ is)) in
                let event : event_at i e ≡ apart = ap (λ (y : Bool). if y then event_of i c r else apart) other in
                ap (own_next (own_in (get_or list i has.Nothing))) event ∙ ap own_in (sym (get_or-set_other list j i x has.Nothing ne)))
          ]);
      takes = λ i. (let a = takes-called p q c r i t in let k = l.takes i in let z = room i in omega arith);
    }

got_own : (o : Own) (h : Has) (y : Bool) → o ≡ own_in h → own_next o (if y then gets else misses) ≡ own_in (if y then has.Hands else h)
got_own o h true e = refl
got_own o h false e = e

-- the list after a get of the first group
pub gathered : (b : Laid) (p q : Held) (list new : List Has) (n word : ℕ) → IsListed b p list n → Calls p (calls.Get 0) (replies.Group word) q → length list ≤ 64 → length new ≡ length list → ((i : ℕ) → i < length list → get_or new i has.Nothing ≡ (if bit_at word i == 1 then has.Hands else get_or list i has.Nothing)) → IsListed b q new n
gathered b p q list new n word l t few count each =
    let e : Entry = entry_by p.who (calls.Get 0) (replies.Group word) in
    record {
      used = used_after b p q (calls.Get 0) (replies.Group word) l.used t;
      count = count ∙ l.count;
      own = λ i lt.
          let lt' : i < length list = omega arith in
          let about : (i / 64 == 0) ≡ true = eq-eqb (i / 64) 0 (omega arith) in
          let low : i % 64 ≡ i = omega arith in
          let event : event_at i e ≡ (if bit_at word i == 1 then gets else misses) = ap (λ (y : Bool). if y then (if bit_at word (i % 64) == 1 then gets else misses) else apart) about ∙ ap (λ (k : ℕ). if bit_at word k == 1 then gets else misses) low in
          own-called p q (calls.Get 0) (replies.Group word) i t ∙ (ap (own_next (own_by p i)) event ∙ (got_own (own_by p i) (get_or list i has.Nothing) (bit_at word i == 1) (l.own i lt') ∙ ap own_in (sym (each i lt'))));
      takes = λ i. (let a = takes-called p q (calls.Get 0) (replies.Group word) i t in let k = l.takes i in omega arith);
    }

pub bits_below : (i : ℕ) (c : Call) (n : ℕ) → n + bit (is_take i c) ≤ n + 1
bits_below i c n = let z = bit_one (is_take i c) in omega arith

-- a call that looks at a task is no get
pub look_no_get : (c : Call) → IsLook c → NoGet c
look_no_get (calls.Wake i f) h = λ g e. cc
look_no_get (calls.Kill i) h = λ g e. cc
look_no_get (calls.Post i b) h = absurd h
look_no_get (calls.Get g) h = absurd h
look_no_get (calls.Draw i) h = absurd h
look_no_get (calls.Take i) h = λ g e. cc
look_no_get (calls.DropRun i) h = λ g e. cc
look_no_get (calls.Retire i) h = λ g e. cc

-- what a fresh pass of a board of tasks at rest has
pub fresh_away : (b : Laid) (k n i : ℕ) → IsAtRest b n → own_by (fresh b k) i ≡ away
fresh_away b k n i r =
    let here : task_at b.start.state i ≡ resting = ap (λ (ts : List TaskState). get_or ts i resting) r.tasks ∙ rests_at n 0 i in
    ap (λ (t : TaskState). own_at k t.place) here

never_drawing : (h : Has) → own_in h ≢ drawing
never_drawing has.Nothing e = cc
never_drawing has.Hands e = cc
never_drawing has.Run e = cc

only_run : (h : Has) → h ≢ has.Run → own_in h ≢ running
only_run has.Nothing ne e = cc
only_run has.Hands ne e = cc
only_run has.Run ne e = ne refl

-- a caller that runs nothing may give its pass back for good
pub idle_after : (b : Laid) (p : Held) (list : List Has) (n k : ℕ) → IsListed b p list n → p.who ≡ k → ((i : ℕ) → i < length list → get_or list i has.Nothing ≢ has.Run) → IsIdle b k p
idle_after b p list n k l who still =
    let count = l.count in
    record {
      board = l.used.board;
      start = l.used.start;
      who = who;
      outs = l.used.outs;
      undrawn = λ i lt e. never_drawing (get_or list i has.Nothing) (sym (l.own i (omega arith)) ∙ e);
      ended = λ i lt e. only_run (get_or list i has.Nothing) (still i (omega arith)) (sym (l.own i (omega arith)) ∙ e);
    }

fresh_idle : (b : Laid) (k n : ℕ) → IsAtRest b n → IsIdle b k (fresh b k)
fresh_idle b k n r =
    record {
      board = refl;
      start = refl;
      who = refl;
      outs = refl;
      undrawn = λ i l e. (let z : away ≡ drawing = sym (fresh_away b k n i r) ∙ e in cc);
      ended = λ i l e. (let z : away ≡ running = sym (fresh_away b k n i r) ∙ e in cc);
    }

-- the passes with both callers' back
pub both_back : (b : Laid) (outs passes : List (Option Held)) (p q : Held) → length outs ≡ suc b.start.state.workers → 1 ≤ b.start.state.workers → passes ≡ set (set outs 0 (Some p)) 1 (Some q) → IsIdle b 0 p → IsIdle b 1 q → ((k : ℕ) → 1 < k → k ≤ b.start.state.workers → get_or outs k None ≡ Some (fresh b k)) → ((k : ℕ) → IsIdle b k (fresh b k)) → AllBack b passes
both_back b outs passes p q count some' is one two others new =
    let first : List (Option Held) = set outs 0 (Some p) in
    let long : length first ≡ suc b.start.state.workers = length-set outs 0 (Some p) ∙ count in
    let wide : length (set first 1 (Some q)) ≡ suc b.start.state.workers = length-set first 1 (Some q) ∙ long in
    let made : AllBack b (set first 1 (Some q)) = record {
      count = wide;
      back = λ k l. elim (cases_eq k 1) [
        | inl same ↦ (q, ap (λ (n : ℕ). get_or (set first 1 (Some q)) n None) same ∙ get_or-set_same first 1 (Some q) None (omega arith), subst (λ (n : ℕ). IsIdle b n q) (sym same) two)
        | inr ne ↦ elim (cases_eq k 0) [
          | inl zero' ↦ (p, get_or-set_other first 1 k (Some q) None ne ∙ (ap (λ (n : ℕ). get_or first n None) zero' ∙ get_or-set_same outs 0 (Some p) None (omega arith)), subst (λ (n : ℕ). IsIdle b n p) (sym zero') one)
          | inr more ↦ (fresh b k, get_or-set_other first 1 k (Some q) None ne ∙ (get_or-set_other outs 0 k (Some p) None more ∙ others k (omega arith) l), new k)
        ]
      ];
    } in
    subst (AllBack b) (sym is) made

pub all_back : (d : Driven) (hs : List ℕ) (w : ℕ) (passes : List (Option Held)) → IsDriven d hs w → passes ≡ set (set d.passes 0 (Some d.first.pass)) 1 (Some d.second.pass) → ((i : ℕ) → i < length d.first.has.items → get_or d.first.has.items i has.Nothing ≢ has.Run) → ((i : ℕ) → i < length d.second.has.items → get_or d.second.has.items i has.Nothing ≢ has.Run) → 1 ≤ w → AllBack d.board passes
all_back d hs w passes r is one two some' =
    let workers = r.workers in
    both_back d.board d.passes passes d.first.pass d.second.pass (r.count ∙ ap suc (sym r.workers)) (omega arith) is (idle_after d.board d.first.pass d.first.has.items d.first.takes 0 r.first r.who_first one) (idle_after d.board d.second.pass d.second.has.items d.second.takes 1 r.second r.who_second two) (λ k more l. r.others k more (omega arith)) (λ k. fresh_idle d.board k (length hs) r.rest)

pub put_both : (d : Driven) (hs : List ℕ) (w : ℕ) (ps qs : List (Option Held)) → IsDriven d hs w → ps ≡ set d.passes d.first.pass.who (Some d.first.pass) → qs ≡ set ps d.second.pass.who (Some d.second.pass) → qs ≡ set (set d.passes 0 (Some d.first.pass)) 1 (Some d.second.pass)
put_both d hs w ps qs r a b =
    let one : ps ≡ set d.passes 0 (Some d.first.pass) = a ∙ ap (λ (k : ℕ). set d.passes k (Some d.first.pass)) r.who_first in
    b ∙ (ap (λ (k : ℕ). set ps k (Some d.second.pass)) r.who_second ∙ ap (λ (x : List (Option Held)). set x 1 (Some d.second.pass)) one)

pub some_same : (a b : Held) → Some a ≡ Some b → a ≡ b
some_same a b e = cc

-- the passes without those of callers 0 and 1
pub record AreOut (w : ℕ) (b : Laid) (passes : List (Option Held)) : Type 0 where
  pub count : length passes ≡ suc w
  pub out_first : slice_get passes 0 ≡ Some None
  pub out_second : slice_get passes 1 ≡ Some None
  pub others : (k : ℕ) → 1 < k → k ≤ w → get_or passes k None ≡ Some (fresh b k)

pub taken_out : (n w : ℕ) (homes : List ℕ) (b : Laid) (all ps qs : List (Option Held)) → 1 ≤ w → IsLaid n w homes b all → ps ≡ set all 0 None → qs ≡ set ps 1 None → AreOut w b qs
taken_out n w homes b all ps qs some' r a e =
    let made : List (Option Held) = set (set all 0 None) 1 None in
    let same : qs ≡ made = e ∙ ap (λ (x : List (Option Held)). set x 1 None) a in
    let long : length (set all 0 None) ≡ suc w = length-set all 0 None ∙ r.count in
    let wide : length made ≡ suc w = length-set (set all 0 None) 1 None ∙ long in
    let all_long = r.count in
    let there : AreOut w b made = record {
      count = wide;
      out_first = slice_get-get_or made 0 None (omega arith) ∙ ap Some (get_or-set_other (set all 0 None) 1 0 None None (λ z. cc) ∙ get_or-set_same all 0 None None (omega arith));
      out_second = slice_get-get_or made 1 None (omega arith) ∙ ap Some (get_or-set_same (set all 0 None) 1 None None (omega arith));
      others = λ k more le. get_or-set_other (set all 0 None) 1 k None None (λ z. omega arith) ∙ (get_or-set_other all 0 k None None (λ z. omega arith) ∙ r.each k le);
    } in
    subst (AreOut w b) (sym same) there

-- the pass that was taken out
pub first_out : (n w : ℕ) (homes : List ℕ) (b : Laid) (all : List (Option Held)) (p : Held) → IsLaid n w homes b all → Some p ≡ get_or all 0 None → p ≡ fresh b 0
first_out n w homes b all p r e = some_same p (fresh b 0) (e ∙ r.each 0 (omega arith))

pub second_out : (n w : ℕ) (homes : List ℕ) (b : Laid) (all ps : List (Option Held)) (p : Held) → 1 ≤ w → IsLaid n w homes b all → ps ≡ set all 0 None → Some p ≡ get_or ps 1 None → p ≡ fresh b 1
second_out n w homes b all ps p some' r a e =
    some_same p (fresh b 1) (e ∙ (ap (λ (x : List (Option Held)). get_or x 1 None) a ∙ (get_or-set_other all 0 1 None None (λ z. cc) ∙ r.each 1 some')))

pub no_body : (p : Held) (i : ℕ) (b : Laid) → IsUsed b p → NoBody p.outs i
no_body p i b u j x e =
    absurd (some-ne-none x (sym (subst (λ (l : List Out). get_elem? l j ≡ some x) u.outs e)))

-- what the pass has of its own task after a call on it
at_call : (b : Laid) (p q : Held) (c : Call) (r : Reply) (i n m : ℕ) (has then' : Own) → IsAt b p i has n → Calls p c r q → own_next has (event_at i (entry_by p.who c r)) ≡ then' → n + bit (is_take i c) ≤ m → IsAt b q i then' m
at_call b p q c r i n m has then' a t becomes room =
    let who : q.who ≡ p.who = ap (λ (x : Held). x.who) t.entry in
    record {
      used = used_after b p q c r a.used t;
      own = own-called p q c r i t ∙ (ap (λ (o : Own). own_next o (event_at i (entry_by p.who c r))) a.own ∙ becomes);
      home = a.home ∙ sym who;
      worker = subst (λ (k : ℕ). k < b.start.state.workers) (sym who) a.worker;
      takes = (let z = takes-called p q c r i t in let y = a.takes in omega arith);
    }

about_self : (i : ℕ) → (i == i) ≡ true
about_self i = eq-eqb i i refl

pub at_wake : (b : Laid) (p q : Held) (id : TaskId) (f n : ℕ) (seen : Seen) → IsAt b p id.0 away n → Calls p (calls.Wake id f) (replies.Task seen) q → saw_rest seen ≡ true → IsAt b q id.0 holding n
at_wake b p q id f n seen a t rested =
    at_call b p q (calls.Wake id f) (replies.Task seen) id.0 n n away holding a t (ap (λ (y : Bool). own_next away (if y then event_of id.0 (calls.Wake id f) (replies.Task seen) else apart)) (about_self id.0) ∙ ap (λ (y : Bool). if y then holding else away) rested) (omega arith)

-- a worker may take a task of its own that is in its hands
pub may_take_own : (b : Laid) (p : Held) (i : ℕ) → p.start ≡ b.start → own_by p i ≡ holding → home_of b.start i ≡ p.who → p.who < b.start.state.workers → known_takes b.start p.entries i < 2 ^ 40 → (t : ℕ) × MayTake p i t × (t < 2 ^ 48 - 1)
may_take_own b p i start held home near few =
    let worker : p.who < p.start.state.workers = subst (λ (o : Start). p.who < o.state.workers) (sym start) near in (
      known_takes b.start p.entries i,
      inl (record { held = held; home = ap (λ (o : Start). home_of o i) start ∙ home; worker = worker; known = ap (λ (o : Start). known_takes o p.entries i) start }),
      omega arith,
    )

pub at_may_take : (b : Laid) (p : Held) (i n : ℕ) → IsAt b p i holding n → n < 2 ^ 40 → (t : ℕ) × MayTake p i t × (t < 2 ^ 48 - 1)
at_may_take b p i n a few =
    let takes = a.takes in
    let same : known_takes p.start p.entries i ≡ known_takes b.start p.entries i = ap (λ (o : Start). known_takes o p.entries i) a.used.start in
    may_take_own b p i a.used.start a.own a.home a.worker (omega arith)

pub at_take : (b : Laid) (p q : Held) (id : TaskId) (n : ℕ) (seen : Seen) → IsAt b p id.0 holding n → Calls p (calls.Take id) (replies.Task seen) q → IsAt b q id.0 running (n + 1)
at_take b p q id n seen a t =
    at_call b p q (calls.Take id) (replies.Task seen) id.0 n (n + 1) holding running a t (ap (λ (y : Bool). own_next holding (if y then event_of id.0 (calls.Take id) (replies.Task seen) else apart)) (about_self id.0)) (bits_below id.0 (calls.Take id) n)

pub at_drop : (b : Laid) (p q : Held) (id : TaskId) (n : ℕ) (seen : Seen) → IsAt b p id.0 running n → Calls p (calls.DropRun id) (replies.Task seen) q → saw_busy seen ≡ false → IsAt b q id.0 away n
at_drop b p q id n seen a t idle =
    at_call b p q (calls.DropRun id) (replies.Task seen) id.0 n n running away a t (ap (λ (y : Bool). own_next running (if y then event_of id.0 (calls.DropRun id) (replies.Task seen) else apart)) (about_self id.0) ∙ ap (λ (y : Bool). if y then holding else away) idle) (omega arith)

-- a fresh pass has nothing of its own task
pub at_first : (b : Laid) (p : Held) (k n : ℕ) → IsAtRest b n → p ≡ fresh b k → home_of b.start k ≡ k → k < b.start.state.workers → IsAt b p k away 0
at_first b p k n r is home worker =
    let none : (task_at b.start.state k).takes ≡ 0 = ap (λ (ts : List TaskState). (get_or ts k resting).takes) r.tasks ∙ ap (λ (t : TaskState). t.takes) (rests_at n 0 k) in
    let there : IsAt b (fresh b k) k away 0 = record {
      used = record { board = refl; start = refl; outs = refl };
      own = fresh_away b k n k r;
      home = home;
      worker = worker;
      takes = omega arith;
    } in
    subst (λ (x : Held). IsAt b x k away 0) (sym is) there

-- a call of one caller leaves a driven board driven
pub driven_first : (d : Driven) (c : Caller) (hs : List ℕ) (w : ℕ) → IsDriven d hs w → IsListed d.board c.pass c.has.items c.takes → c.pass.who ≡ d.first.pass.who → IsDriven (record d { first = c }) hs w
driven_first d c hs w r l who =
    record {
      workers = r.workers;
      rest = r.rest;
      homes = r.homes;
      first = l;
      second = r.second;
      who_first = who ∙ r.who_first;
      who_second = r.who_second;
      count = r.count;
      out_first = r.out_first;
      out_second = r.out_second;
      others = r.others;
    }

pub driven_second : (d : Driven) (c : Caller) (hs : List ℕ) (w : ℕ) → IsDriven d hs w → IsListed d.board c.pass c.has.items c.takes → c.pass.who ≡ d.second.pass.who → IsDriven (record d { second = c }) hs w
driven_second d c hs w r l who =
    record {
      workers = r.workers;
      rest = r.rest;
      homes = r.homes;
      first = r.first;
      second = l;
      who_first = r.who_first;
      who_second = who ∙ r.who_second;
      count = r.count;
      out_first = r.out_first;
      out_second = r.out_second;
      others = r.others;
    }

-- such a caller has drawn nothing
pub undrawn : (b : Laid) (p : Held) (list : List Has) (n i : ℕ) → IsListed b p list n → i < length p.start.state.tasks → own_by p i ≢ drawing
undrawn b p list n i l lt e =
    let count = l.count in
    let same = ap (λ (o : Start). length o.state.tasks) l.used.start in
    never_drawing (get_or list i has.Nothing) (sym (l.own i (omega arith)) ∙ e)

-- misses leave of which board a pass is
pub used_missed : (b : Laid) (p q : Held) (tasks : List ℕ) → IsUsed b p → Misses p tasks q → IsUsed b q
used_missed b p q tasks u t =
    let there : IsUsed b (with_misses p tasks) = record { board = u.board; start = u.start; outs = u.outs } in
    subst (IsUsed b) (sym t.noted) there

-- one task in the shared box of two workers
pub shared_stands : (ws new : WordRow) (nexts : List (List ℕ)) → NewWordsStand → SeatedWordsStand → ws ≡ blank_row 1 2 → (task_word ws 0 ≡ 0) × ((new ≡ row_seated ws 0 2) → StandBetween new (2 ∷ []) (no_holder ∷ []) nexts (put_task (all_rest 1 2) 0 (seated 2 (task_at (all_rest 1 2) 0))))
shared_stands ws new nexts blank law is =
    let homes : List ℕ = 2 ∷ [] in
    let holders : List ℕ = no_holder ∷ [] in
    let before : StandBetween ws homes holders nexts (all_rest 1 2) = words_stand ws 1 2 homes holders nexts blank is refl (omega arith) (λ i l. (let z : i ≡ 0 = omega arith in subst (λ (k : ℕ). get_or homes k 0 ≤ 2) (sym z) (omega arith))) in
    let wide : length ws.row ≡ width ws.workers ws.tasks = subst (λ (x : WordRow). length x.row ≡ width x.workers x.tasks) (sym is) refl in
    let some_task : 0 < ws.tasks = subst (λ (x : WordRow). 0 < x.tasks) (sym is) (omega arith) in
    let both = law ws homes holders nexts (all_rest 1 2) 0 2 wide before some_task refl refl refl in
    (both.0, λ e. subst (λ (x : WordRow). StandBetween x homes holders nexts (put_task (all_rest 1 2) 0 (seated 2 (task_at (all_rest 1 2) 0)))) (sym e) both.1)

pub few_shared : FewTakes (2 ∷ []) (put_task (all_rest 1 2) 0 (seated 2 (task_at (all_rest 1 2) 0)))
few_shared i l shared lives =
    let z : i ≡ 0 = omega arith in
    subst (λ (k : ℕ). (task_at (put_task (all_rest 1 2) 0 (seated 2 (task_at (all_rest 1 2) 0))) k).takes < 2 ^ 47) (sym z) (omega arith)

-- a fresh pass of such a board has nothing
seated_away : (k i : ℕ) → own_at k (task_at (put_task (all_rest 1 2) 0 (seated 2 (task_at (all_rest 1 2) 0))) i).place ≡ away
seated_away k zero = refl
seated_away k (suc i) = refl

pub has_shared : (b : Laid) (passes : List (Option Held)) → b.start.homes ≡ 2 ∷ [] → b.start.state ≡ put_task (all_rest 1 2) 0 (seated 2 (task_at (all_rest 1 2) 0)) → length passes ≡ 3 → ((k : ℕ) → k ≤ 2 → get_or passes k None ≡ Some (fresh b k)) → HasShared b passes
has_shared b passes homes state count each =
    record {
      tasks = ap (λ (s : State). length s.tasks) state;
      workers = ap (λ (s : State). s.workers) state;
      home = ap (λ (l : List ℕ). get_or l 0 0) homes;
      count = count;
      each = each;
      away_all = λ k i. ap (λ (s : State). own_at k (task_at s i).place) state ∙ seated_away k i;
    }
