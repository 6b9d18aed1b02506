-- Calls of all callers one after another are a legal history in which each caller goes through its own part.
use Rattle.std.proofs.Common.{◌≡◌, ◌≢◌, ℕ, zero, suc, ◌+◌, ◌<◌, ◌≤◌, true, nat_le, inl, inr, List, [], ◌∷◌, length, get_or, refl, sym, ap, ◌∙◌, arith, eq-eqb, ne_eqb, subst}
use Rattle.std.specs.List.{list_all}
use Rattle.std.proofs.lemmas.Bool.{cases_eq, and_from, and_parts, le-leb, leb-true}
use Rattle.step_tables.specs.declared.tables.Script.{Script}
use Rattle.task_machine.specs.declared.calls.Entry.{Entry}
use Rattle.task_machine.specs.History.{Legal, led, calls_of}
use Rattle.run_model.specs.Parts.{Then, Quiet}
use Rattle.run_model.specs.Book.{Book}
use Rattle.run_model.specs.Turn.{Turn}
use Rattle.run_model.specs.Lawful.{Turns}
use Rattle.run_model.specs.Standing.{turn_ended}
use Rattle.turn_steps.specs.Left.{Stage, went, Rest}
use Rattle.turn_steps.specs.Has.{caller}
use Rattle.standing.specs.Keeps.{Callers, set_at}
use Rattle.standing.specs.Going.{called, Going, gone_on, IsDone}
use Rattle.standing.specs.Between.{books_of}
use Rattle.standing.proofs.Steps.{at_each}

pub state-gone_on : (s : Script) (T : ℕ) (c : Callers) (es : List Entry) → (gone_on s T c es).state ≡ led c.state es
state-gone_on s T c [] = refl
state-gone_on s T c (e ∷ es) = state-gone_on s T (called s T c e) es

pub legal-going : (s : Script) (T : ℕ) (c : Callers) (es : List Entry) → Going s T c es → Legal c.state es
legal-going s T c [] h = tt
legal-going s T c (e ∷ es) h = (h.0.allowed, legal-going s T (called s T c e) es h.1)

pub callers-going : (s : Script) (T : ℕ) (c : Callers) (es : List Entry) → Going s T c es → list_all (λ e. nat_le e.caller.0 s.workers) es ≡ true
callers-going s T c [] h = refl
callers-going s T c (e ∷ es) h =
    and_from (nat_le e.caller.0 s.workers) (list_all (λ x. nat_le x.caller.0 s.workers) es) (le-leb e.caller.0 s.workers h.0.caller) (callers-going s T (called s T c e) es h.1)

pub set_same : (j : ℕ) (g : Stage) (at : ℕ → Stage) → set_at j g at j ≡ g
set_same j g at = rw (eq-eqb j j refl) refl

pub set_other : (j k : ℕ) (g : Stage) (at : ℕ → Stage) → k ≢ j → set_at j g at k ≡ at k
set_other j k g at ne = rw (ne_eqb k j ne) refl

pub own_calls : (e : Entry) (es : List Entry) → calls_of e.caller.0 (e ∷ es) ≡ e ∷ calls_of e.caller.0 es
own_calls e es = rw (eq-eqb e.caller.0 e.caller.0 refl) refl

pub other_calls : (k : ℕ) (e : Entry) (es : List Entry) → k ≢ e.caller.0 → calls_of k (e ∷ es) ≡ calls_of k es
other_calls k e es ne = let no : e.caller.0 ≢ k = λ same. ne (sym same) in rw (ne_eqb e.caller.0 k no) refl

-- each caller's calls are the rest of its part
pub rest-going : (s : Script) (T : ℕ) (c : Callers) (es : List Entry) → Going s T c es → IsDone s (gone_on s T c es) → (k : ℕ) → k ≤ s.workers → Rest s (caller k) T (c.at k) (calls_of k es) ((gone_on s T c es).at k).book
rest-going s T c [] h done k le = (done k le, refl)
rest-going s T c (e ∷ es) h done k le =
    let later = rest-going s T (called s T c e) es h.1 done k le in
    let end = ((gone_on s T (called s T c e) es).at k).book in
    elim (cases_eq k e.caller.0) [
      | inl same ↦
          (let new = went s e.caller T e.call e.reply (c.at e.caller.0) in
          let after : Rest s e.caller T new (calls_of e.caller.0 es) ((gone_on s T (called s T c e) es).at e.caller.0).book = subst (λ (x : Stage). Rest s e.caller T x (calls_of e.caller.0 es) ((gone_on s T (called s T c e) es).at e.caller.0).book) (set_same e.caller.0 new c.at) (rest-going s T (called s T c e) es h.1 done e.caller.0 h.0.caller) in
          let own : Rest s e.caller T (c.at e.caller.0) (calls_of e.caller.0 (e ∷ es)) ((gone_on s T c (e ∷ es)).at e.caller.0).book = subst (λ (ys : List Entry). Rest s e.caller T (c.at e.caller.0) ys ((gone_on s T c (e ∷ es)).at e.caller.0).book) (sym (own_calls e es)) (refl, h.0.asks, after) in
          subst (λ (v : ℕ). Rest s (caller v) T (c.at v) (calls_of v (e ∷ es)) ((gone_on s T c (e ∷ es)).at v).book) (sym same) own)
      | inr ne ↦
          rw (other_calls k e es ne) (subst (λ (x : Stage). Rest s (caller k) T x (calls_of k es) end) (set_other e.caller.0 k (went s e.caller T e.call e.reply (c.at e.caller.0)) c.at ne) later)
    ]

-- and a legal history in which they are is such a sequence of calls
pub record Made (s : Script) (T : ℕ) (c : Callers) (es : List Entry) (new : ℕ → Book) : Type 0 where
  pub going : Going s T c es
  pub done : IsDone s (gone_on s T c es)
  pub books : (k : ℕ) → k ≤ s.workers → new k ≡ ((gone_on s T c es).at k).book

pub going-rest : (s : Script) (T : ℕ) (c : Callers) (es : List Entry) (new : ℕ → Book) → Legal c.state es → list_all (λ e. nat_le e.caller.0 s.workers) es ≡ true → ((k : ℕ) → k ≤ s.workers → Rest s (caller k) T (c.at k) (calls_of k es) (new k)) → Made s T c es new
going-rest s T c [] new l among h = record { going = tt; done = λ k le. (h k le).0; books = λ k le. (h k le).1 }
going-rest s T c (e ∷ es) new l among h =
    let parts = and_parts (nat_le e.caller.0 s.workers) (list_all (λ x. nat_le x.caller.0 s.workers) es) among in
    let le = leb-true e.caller.0 s.workers parts.0 in
    let mine : Rest s e.caller T (c.at e.caller.0) (e ∷ calls_of e.caller.0 es) (new e.caller.0) = subst (λ (ys : List Entry). Rest s e.caller T (c.at e.caller.0) ys (new e.caller.0)) (own_calls e es) (h e.caller.0 le) in
    let x = went s e.caller T e.call e.reply (c.at e.caller.0) in
    let made = going-rest s T (called s T c e) es new l.1 parts.1 (λ k within. at_each (λ k g. Rest s (caller k) T g (calls_of k es) (new k)) e.caller.0 k x c.at (λ same. rw same mine.2) (λ ne. subst (λ (ys : List Entry). Rest s (caller k) T (c.at k) ys (new k)) (other_calls k e es ne) (h k within))) in
    record {
      going = (record { caller = le; asks = mine.1; allowed = l.0 }, made.going);
      done = made.done;
      books = made.books;
    }

-- a turn and the settling after it
abbrev pub Whole : Script → ℕ → ℕ → Book → List Entry → Book → Type 0
Whole s w T b es c = Then (Turn s (caller w) T) (Quiet (turn_ended s T)) b es c

turn-at : (s : Script) (T : ℕ) (es : List Entry) (w : ℕ) (b c : Book) (bs cs : List Book) → Whole s w T b (calls_of w es) c → ((i : ℕ) (d : Book) → i < length bs → Whole s (w + 1 + i) T (get_or bs i d) (calls_of (w + 1 + i) es) (get_or cs i d)) → (i : ℕ) (d : Book) → i < suc (length bs) → Whole s (w + i) T (get_or (b ∷ bs) i d) (calls_of (w + i) es) (get_or (c ∷ cs) i d)
turn-at s T es w b c bs cs here later zero d h =
    let e : w ≡ w + 0 = omega arith in
    subst (λ (v : ℕ). Whole s v T b (calls_of v es) c) e here
turn-at s T es w b c bs cs here later (suc i) d h =
    let e : w + 1 + i ≡ w + suc i = omega arith in
    subst (λ (v : ℕ). Whole s v T (get_or bs i d) (calls_of v es) (get_or cs i d)) e (later i d (omega arith))

pub turns-each : (s : Script) (T : ℕ) (es : List Entry) (w : ℕ) (bs cs : List Book) → Turns s T es w bs cs → (length cs ≡ length bs) × ((i : ℕ) (d : Book) → i < length bs → Whole s (w + i) T (get_or bs i d) (calls_of (w + i) es) (get_or cs i d))
turns-each s T es w [] [] h = (refl, λ i d lt. absurd (omega arith))
turns-each s T es w [] (c ∷ cs) h = absurd h
turns-each s T es w (b ∷ bs) [] h = absurd h
turns-each s T es w (b ∷ bs) (c ∷ cs) h =
    let later = turns-each s T es (w + 1) bs cs h.1 in
    (ap suc later.0, turn-at s T es w b c bs cs h.0 later.1)

pub length-books_of : (s : Script) (T : ℕ) (at : ℕ → Stage) (w n : ℕ) → length (books_of s T at w n) ≡ n
length-books_of s T at w zero = refl
length-books_of s T at w (suc n) = ap suc (length-books_of s T at (w + 1) n)

pub get-books_of : (s : Script) (T : ℕ) (at : ℕ → Stage) (w n i : ℕ) (d : Book) → i < n → get_or (books_of s T at w n) i d ≡ turn_ended s T (at (w + i)).book
get-books_of s T at w zero i d h = absurd (omega arith)
get-books_of s T at w (suc n) zero d h = let e : w ≡ w + 0 = omega arith in ap (λ v. turn_ended s T (at v).book) e
get-books_of s T at w (suc n) (suc i) d h =
    let e : w + 1 + i ≡ w + suc i = omega arith in
    get-books_of s T at (w + 1) n i d (omega arith) ∙ ap (λ v. turn_ended s T (at v).book) e

pub each-turns : (s : Script) (T : ℕ) (es : List Entry) (w : ℕ) (bs : List Book) (d : Book) (at : ℕ → Stage) → ((i : ℕ) → i < length bs → Whole s (w + i) T (get_or bs i d) (calls_of (w + i) es) (turn_ended s T (at (w + i)).book)) → Turns s T es w bs (books_of s T at w (length bs))
each-turns s T es w [] d at h = tt
each-turns s T es w (b ∷ bs) d at h =
    let e : w + 0 ≡ w = omega arith in
    let first : Whole s w T b (calls_of w es) (turn_ended s T (at w).book) = subst (λ (v : ℕ). Whole s v T b (calls_of v es) (turn_ended s T (at v).book)) e (h 0 (omega arith)) in
    (first, each-turns s T es (w + 1) bs d at (λ i lt. let next : w + suc i ≡ w + 1 + i = omega arith in subst (λ (v : ℕ). Whole s v T (get_or bs i d) (calls_of v es) (turn_ended s T (at v).book)) next (h (suc i) (omega arith))))
