-- The reader of a turn reads the lawful turns, and the reader of an injector's round the lawful ones.
use Rattle.std.proofs.Common.{◌≡◌, ℕ, zero, suc, ◌+◌, ◌<◌, ◌≤◌, List, [], ◌∷◌, ◌++◌, Option, None, Some, refl, sym, ap, subst, ◌∙◌, arith, ◌⊎◌, inl, inr, append_assoc, eqb-true, eq-eqb, ◌==◌}
use Rattle.std.proofs.lemmas.Bool.{cases_Bool}
use Rattle.std.specs.List.{range_with_len}
use Rattle.sched_base.specs.declared.names.CallerId.{CallerId}
use Rattle.sched_base.specs.declared.names.Class.{Class}
use Rattle.sched_base.specs.declared.names.Class.TheVariants.{Urgent, Normal, Bulk, Heavy}
use Rattle.queue_model.specs.Classes.{Classes, Next, of_class, spent, run_in, first_run, next_run}
use Rattle.queue_model.specs.Sweep.{fired}
use Rattle.step_tables.specs.declared.tables.Action.{Action}
use Rattle.step_tables.specs.declared.tables.Row.{Row}
use Rattle.step_tables.specs.declared.tables.Script.{Script}
use Rattle.task_machine.specs.declared.calls.Call.{Call}
use Rattle.task_machine.specs.declared.calls.Call.TheVariants.{Wake, Kill, Post, Get, Draw, Take, DropRun, Retire}
use Rattle.task_machine.specs.declared.calls.Entry.{Entry}
use Rattle.run_model.specs.Parts.{Part, Then, Makes, Each}
use Rattle.run_model.specs.Replies.{takes_in}
use Rattle.run_model.specs.Tables.{home_of, row_by, target, groups, actions_in}
use Rattle.run_model.specs.Book.{Book, taken_from, filled}
use Rattle.run_model.specs.Turn.{Posts, Acts, Gets, Fires, Hands, Returns, Retires, Drops, RunsRow, RunOf, RunsOf, Runs, DrawsOf, Draws, Turn}
use Rattle.run_model.specs.Reader.{Got, Reader, in_turn, making}
use Rattle.run_model.specs.TurnReader.{posting, acting, getting, firing, handing, returning, retiring, dropping, running_row, running, running_on, running_all, runs_left, drawn_by, drawn_first, draw_one, drawing, turning, injecting}
use Rattle.run_model.proofs.Readings.{Took, Reads, ReadsLast, some_inj, chained, reads-quiet, reads-nothing, reads-then, reads-asks, reads-makes, reads-either, reads-from, reads-each, reads-last, then_sound, joined_read, joined_last}

pub reads-posts : {B : Type 0} (k : CallerId) (i to : ℕ) → Reads {B = B} (Posts k i to) (posting k i to)
reads-posts k i to = reads-makes k _ _

pub reads-acts : {B : Type 0} (k : CallerId) (P : ℕ → Part B) (r : ℕ → Reader B) → ((i : ℕ) → Reads (P i) (r i)) → (a : Action) → Reads (Acts k P a) (acting k r a)
reads-acts k P r h a = reads-asks k _ _ _ (λ reply. reads-either _ _ _ _ _ (h (target a)) reads-nothing)

reads-gets : (s : Script) (w : CallerId) → Reads (Gets s w) (getting s w)
reads-gets s w = reads-each _ _ (λ g. reads-makes w _ _) (range_with_len 0 (groups s))

reads-fires : (s : Script) (w : CallerId) (T : ℕ) → Reads (Fires s w T) (firing s w T)
reads-fires s w T = reads-from _ _ (λ old. reads-then _ _ _ _ (reads-quiet _) (reads-each _ _ (λ i. reads-makes w _ _) (fired T old.wait)))

reads-hands : (s : Script) (w : CallerId) (i : ℕ) → Reads (Hands s w i) (handing s w i)
reads-hands s w i = reads-either _ _ _ _ _ (reads-quiet _) (reads-posts w i (home_of s i))

reads-returns : (s : Script) (w : CallerId) (i : ℕ) → Reads (Returns s w i) (returning s w i)
reads-returns s w i = reads-either _ _ _ _ _ (reads-posts w i s.workers) (reads-quiet _)

reads-retires : (w : CallerId) (i : ℕ) → Reads (Retires w i) (retiring w i)
reads-retires w i = reads-makes w _ _

reads-drops : (s : Script) (w : CallerId) (i : ℕ) → Reads (Drops s w i) (dropping s w i)
reads-drops s w i = reads-asks w _ _ _ (λ reply.
    reads-either _ _ _ _ _ (reads-retires w i) (reads-either _ _ _ _ _ (reads-returns s w i) reads-nothing))

reads-row : (s : Script) (w : CallerId) (T i : ℕ) (row : Row) → Reads (RunsRow s w T i row) (running_row s w T i row)
reads-row s w T i row = reads-then _ _ _ _
    (reads-each _ _ (reads-acts w _ _ (reads-hands s w)) row.actions)
    (reads-then _ _ _ _ (reads-quiet _) (reads-drops s w i))

reads-run : (s : Script) (w : CallerId) (T i : ℕ) → Reads (RunOf s w T i) (running s w T i)
reads-run s w T i = reads-asks w _ _ _ (λ reply.
    reads-either _ _ _ _ _ (reads-retires w i) (reads-row s w T i (row_by s i (takes_in reply))))

-- where an item comes next, its class has a run left
next_in : (k : Class) (is : List ℕ) (n : ℕ) (other : Option Next) (x : Next) → run_in k is n other ≡ Some x → ((x.class ≡ k) × (0 < n)) ⊎ (other ≡ Some x)
next_in k [] n other x e = inr e
next_in k (i ∷ is) zero other x e = inr e
next_in k (i ∷ is) (suc n) other x e = inl (ap (λ (y : Next). y.class) (sym (some_inj _ _ e)), omega arith)

next_first : (ks : List Class) (c : Classes (List ℕ)) (q : Classes ℕ) (x : Next) → first_run ks c q ≡ Some x → 0 < of_class x.class q
next_first [] c q x e = cc
next_first (k ∷ ks) c q x e =
    elim (next_in k (of_class k c) (of_class k q) (first_run ks c q) x e) [
      | inl h ↦ subst (λ (j : Class). 0 < of_class j q) (sym h.0) h.1
      | inr h ↦ next_first ks c q x h
    ]

spends : (k : Class) (q : Classes ℕ) → 0 < of_class k q → runs_left (spent k q) + 1 ≡ runs_left q
spends Urgent q h = omega arith
spends Normal q h = omega arith
spends Bulk q h = omega arith
spends Heavy q h = omega arith

pub next_spends : (c : Classes (List ℕ)) (q : Classes ℕ) (x : Next) → next_run c q ≡ Some x → runs_left (spent x.class q) + 1 ≡ runs_left q
next_spends c q x e = spends x.class q (next_first (Urgent ∷ Normal ∷ Bulk ∷ Heavy ∷ []) c q x e)

runs_sound : (s : Script) (w : CallerId) (T n : ℕ) (q : Classes ℕ) (o : Option Next) (b : Book) (es : List Entry) (g : Got Book) → o ≡ next_run b.lists q → running_on s w T n q o b es ≡ Some g → (m : ℕ) × Took (RunsOf s w T m q) b es g
runs_sound s w T n q None b es g h e =
    let one = (reads-nothing).sound b es g e in
    (0, record { front = one.front; joined = one.joined; held = (sym h, one.held) })
runs_sound s w T zero q (Some x) b es g h e = cc
runs_sound s w T (suc n) q (Some x) b es g h e =
    let p = spent x.class q in
    let k = chained (λ (k : Got Book). running_on s w T n p (next_run k.new.lists p) k.new k.rest) (running s w T x.task (taken_from x.class b) es) g e in
    let one = (reads-run s w T x.task).sound (taken_from x.class b) es k.0 k.1 in
    let more = runs_sound s w T n p (next_run k.0.new.lists p) k.0.new k.0.rest g refl k.2 in
    let two = more.1 in (
      suc more.0,
      record {
        front = one.front ++ two.front;
        joined = one.joined ∙ (ap (λ zs. one.front ++ zs) two.joined ∙ sym (append_assoc one.front two.front g.rest));
        held = (x, sym h, record { first = one.front; second = two.front; between = k.0.new; joined = refl; front = one.held; back = two.held });
      },
    )

runs_whole : (s : Script) (w : CallerId) (T m n : ℕ) (q : Classes ℕ) (o : Option Next) (b : Book) (xs : List Entry) (c : Book) (rest : List Entry) → o ≡ next_run b.lists q → runs_left q ≤ n → RunsOf s w T m q b xs c → running_on s w T n q o b (xs ++ rest) ≡ Some (record { new = c; rest = rest })
runs_whole s w T zero n q o b xs c rest h room p =
    subst (λ (o : Option Next). running_on s w T n q o b (xs ++ rest) ≡ Some (record { new = c; rest = rest })) (sym (h ∙ p.0))
    ((reads-nothing).whole b xs c rest p.1)
runs_whole s w T (suc m) zero q o b xs c rest h room p = let e : runs_left (spent p.0.class q) + 1 ≡ runs_left q = next_spends _ q p.0 p.1 in absurd (omega arith)
runs_whole s w T (suc m) (suc n) q o b xs c rest h room p =
    let x = p.0 in
    let left = spent x.class q in
    let t = p.2 in
    let e : runs_left left + 1 ≡ runs_left q = next_spends _ q x p.1 in
    subst (λ (o : Option Next). running_on s w T (suc n) q o b (xs ++ rest) ≡ Some (record { new = c; rest = rest })) (sym (h ∙ p.1))
    (joined_read (running s w T x.task) (λ d. running_on s w T n left (next_run d.lists left) d) (taken_from x.class b) xs t.first t.second t.between c rest t.joined
    ((reads-run s w T x.task).whole _ t.first t.between (t.second ++ rest) t.front)
    (runs_whole s w T m n left _ t.between t.second c rest refl (omega arith) t.back))

all_sound : (s : Script) (w : CallerId) (T : ℕ) (b : Book) (es : List Entry) (g : Got Book) → running_all s w T b es ≡ Some g → Took (Runs s w T) b es g
all_sound s w T b es g e =
    let k = runs_sound s w T _ _ _ b es g refl e in
    record { front = k.1.front; joined = k.1.joined; held = (k.0, k.1.held) }

reads-runs : (s : Script) (w : CallerId) (T : ℕ) → Reads (Runs s w T) (running_all s w T)
reads-runs s w T = record {
  sound = all_sound s w T;
  whole = λ b xs c rest p. runs_whole s w T p.0 _ _ _ b xs c rest refl (omega arith) p.1;
}

-- a first entry that draws a shared task
drawn-shared : (s : Script) (c : Call) (i : ℕ) → drawn_by s c ≡ Some i → home_of s i ≡ s.workers
drawn-shared s (Draw j) i e =
    elim (cases_Bool (home_of s j.0 == s.workers)) [
      | inl k ↦ let same : j.0 ≡ i = some_inj _ _ (rw k at e) in subst (λ n. home_of s n ≡ s.workers) same (eqb-true _ _ k)
      | inr k ↦ let none : None ≡ Some i = rw k at e in cc
    ]
drawn-shared s (Wake j f) i e = cc
drawn-shared s (Kill j) i e = cc
drawn-shared s (Post j b) i e = cc
drawn-shared s (Get g) i e = cc
drawn-shared s (Take j) i e = cc
drawn-shared s (DropRun j) i e = cc
drawn-shared s (Retire j) i e = cc

first-shared : (s : Script) (es : List Entry) (i : ℕ) → drawn_first s es ≡ Some i → home_of s i ≡ s.workers
first-shared s [] i e = cc
first-shared s (x ∷ es) i e = drawn-shared s x.call i e

-- a piece: a draw, and a run of the task that was drawn
reads-draw : (s : Script) (w : CallerId) (i : ℕ) → Reads (Makes w (Draw (record { 0 = i })) (λ reply (b : Book). b)) (making w (Draw (record { 0 = i })) (λ reply (b : Book). b))
reads-draw s w i = reads-makes w _ _

abbrev piece : Script → CallerId → ℕ → ℕ → ℕ → Reader Book
piece s w T n i = in_turn (making w (Draw (record { 0 = i })) (λ reply b. b)) (in_turn (running s w T i) (drawing s w T n))

-- at most n pieces were taken
abbrev TookDraws : Script → CallerId → ℕ → ℕ → Book → List Entry → Got Book → Type 0
TookDraws s w T n b es g = (m : ℕ) × (m ≤ n) × Took (DrawsOf s w T m) b es g

piece_sound : (s : Script) (w : CallerId) (T n : ℕ) (o : Option ℕ) (b : Book) (es : List Entry) (g : Got Book) → ((i : ℕ) → o ≡ Some i → home_of s i ≡ s.workers) → ((c : Book) (ds : List Entry) (k : Got Book) → drawing s w T n c ds ≡ Some k → TookDraws s w T n c ds k) → draw_one o (piece s w T n) b es ≡ Some g → TookDraws s w T (suc n) b es g
piece_sound s w T n None b es g shared ih e =
    let one = (reads-nothing).sound b es g e in
    (0, omega arith, record { front = one.front; joined = one.joined; held = one.held })
piece_sound s w T n (Some i) b es g shared ih e =
    let x = chained (λ (k : Got Book). in_turn (running s w T i) (drawing s w T n) k.new k.rest) (making w (Draw (record { 0 = i })) (λ reply (c : Book). c) b es) g e in
    let y = chained (λ (k : Got Book). drawing s w T n k.new k.rest) (running s w T i x.0.new x.0.rest) g x.2 in
    let one = (reads-draw s w i).sound b es x.0 x.1 in
    let two = (reads-run s w T i).sound x.0.new x.0.rest y.0 y.1 in
    let more = ih y.0.new y.0.rest g y.2 in
    let three = more.2 in
    let joined : x.0.rest ≡ (two.front ++ three.front) ++ g.rest = two.joined ∙ (ap (λ zs. two.front ++ zs) three.joined ∙ sym (append_assoc two.front three.front g.rest)) in (
      suc more.0,
      omega arith,
      record {
        front = one.front ++ (two.front ++ three.front);
        joined = one.joined ∙ (ap (λ zs. one.front ++ zs) joined ∙ sym (append_assoc one.front (two.front ++ three.front) g.rest));
        held = (
          i,
          shared i refl,
          record {
            first = one.front;
            second = two.front ++ three.front;
            between = x.0.new;
            joined = refl;
            front = one.held;
            back = record { first = two.front; second = three.front; between = y.0.new; joined = refl; front = two.held; back = three.held };
          },
        );
      },
    )

draws_sound : (s : Script) (w : CallerId) (T n : ℕ) (b : Book) (es : List Entry) (g : Got Book) → drawing s w T n b es ≡ Some g → TookDraws s w T n b es g
draws_sound s w T zero b es g e =
    let one = (reads-nothing).sound b es g e in
    (0, omega arith, record { front = one.front; joined = one.joined; held = one.held })
draws_sound s w T (suc n) b es g e = piece_sound s w T n (drawn_first s es) b es g (first-shared s es) (draws_sound s w T n) e

-- entries that begin with a draw of a shared task
first-draws : (s : Script) (w : CallerId) (i : ℕ) (b c : Book) (xs first second : List Entry) → home_of s i ≡ s.workers → xs ≡ first ++ second → Makes w (Draw (record { 0 = i })) (λ reply (d : Book). d) b first c → drawn_first s xs ≡ Some i
first-draws s w i b c xs first second shared joined p =
    ap (drawn_first s) (joined ∙ ap (λ zs. zs ++ second) p.begins) ∙ rw (eq-eqb _ _ shared) refl

draws_whole : (s : Script) (w : CallerId) (T m n : ℕ) (b : Book) (xs : List Entry) (c : Book) → m ≤ n → DrawsOf s w T m b xs c → drawing s w T n b xs ≡ Some (record { new = c; rest = [] })
draws_whole s w T zero zero b xs c le p = rw (p.0, p.1) refl
draws_whole s w T zero (suc n) b xs c le p = rw (p.0, p.1) refl
draws_whole s w T (suc m) zero b xs c le p = absurd (omega arith)
draws_whole s w T (suc m) (suc n) b xs c le p =
    let i = p.0 in
    let t = p.2 in
    let u = t.back in
    let some : drawn_first s xs ≡ Some i = first-draws s w i b t.between xs t.first t.second p.1 t.joined t.front in
    let rest : in_turn (running s w T i) (drawing s w T n) t.between t.second ≡ Some (record { new = c; rest = [] }) =
    joined_last (running s w T i) (drawing s w T n) t.between t.second u.first u.second u.between c u.joined
    ((reads-run s w T i).whole t.between u.first u.between u.second u.front)
    (draws_whole s w T m n u.between u.second c (omega arith) u.back) in
    ap (λ (o : Option ℕ). draw_one o (piece s w T n) b xs) some ∙
    joined_last (making w (Draw (record { 0 = i })) (λ reply (d : Book). d)) (in_turn (running s w T i) (drawing s w T n)) b xs t.first t.second t.between c t.joined ((reads-draw s w i).whole b t.first t.between t.second t.front) rest

reads-draws : (s : Script) (w : CallerId) (T : ℕ) → ReadsLast (Draws s w T) (drawing s w T s.depth)
reads-draws s w T = record {
  sound = λ b es g e. let k = draws_sound s w T s.depth b es g e in record { front = k.2.front; joined = k.2.joined; held = (k.0, k.1, k.2.held) };
  whole = λ b xs c p. draws_whole s w T p.0 s.depth b xs c p.1 p.2;
}

pub reads-turn : (s : Script) (w : CallerId) (T : ℕ) → ReadsLast (Turn s w T) (turning s w T)
reads-turn s w T =
    reads-last _ _ _ _ (reads-gets s w)
    (reads-last _ _ _ _ (reads-fires s w T)
    (reads-last _ _ _ _ (reads-quiet (filled s.depth))
    (reads-last _ _ _ _ (reads-runs s w T) (reads-draws s w T))))

pub reads-injects : (s : Script) (r : ℕ) → Reads (Each (Acts (record { 0 = s.workers }) (λ i. Posts (record { 0 = s.workers }) i (home_of s i))) (actions_in s r)) (injecting s r)
reads-injects s r = reads-each _ _ (reads-acts (record { 0 = s.workers }) _ _ (λ i. reads-posts (record { 0 = s.workers }) i (home_of s i))) (actions_in s r)
