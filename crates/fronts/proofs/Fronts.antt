-- Lines that are allowed one after another are the first lines of a lawful run, and no others are.
use Rattle.std.proofs.Common.{◌≡◌, ◌≢◌, ◌↔◌, ℕ, suc, ◌+◌, ◌-◌, ◌*◌, ◌<◌, ◌==◌, Bool, true, false, refl, sym, ap, ◌∙◌, subst, arith, eq-eqb, eqb-true, inl, inr, IsTrue, MatchBool, List, [], ◌∷◌, ◌++◌, map, length}
use Rattle.std.proofs.lemmas.List.{append_assoc, append-nil, same_lists, get_or_default}
use Rattle.sched_base.specs.declared.names.TaskId.{TaskId}
use Rattle.step_tables.specs.declared.tables.Script.{Script}
use Rattle.step_tables.specs.Sound.{is_sound}
use Rattle.task_machine.specs.declared.calls.Call.{Call}
use Rattle.task_machine.specs.declared.calls.Call.TheVariants as calls
use Rattle.task_machine.specs.declared.calls.Entry.{Entry}
use Rattle.task_machine.specs.Task.{is_boxed}
use Rattle.task_machine.specs.Step.{task_at, fits}
use Rattle.run_model.specs.Run.{Round, Run}
use Rattle.run_model.specs.Lawful.{RoundOf, Goes, LawfulRun}
use Rattle.run_model.specs.Standing.{Standing, opening, blank_book, is_draw, is_at_rest, next_tick, turn_ended}
use Rattle.transcript.specs.declared.lines.Line.{Line}
use Rattle.transcript.specs.declared.lines.Line.TheVariants as line
use Rattle.run_texts.specs.RunLines.{lines_from, lines_of_run}
use Rattle.run_texts.specs.Front.{Front}
use Rattle.turn_steps.proofs.Fit.{IsFit-sound}
use Rattle.standing.specs.Keeps.{Callers, Keeps}
use Rattle.standing.specs.Going.{IsNext, called, Going, gone_on}
use Rattle.standing.specs.Between.{KeepsBetween, entered, books_of, left_by, round_takes}
use Rattle.standing.specs.Passes.{Passes}
use Rattle.standing.proofs.Enter.{Keeps-entered, IsLeft}
use Rattle.standing.proofs.Finish.{going-append}
use Rattle.standing.proofs.Lawful.{runs_go_on}
use Rattle.standing.proofs.Limits.{takes-sound}
use Rattle.standing.proofs.Merge.{length-books_of, get-books_of}
use Rattle.standing.proofs.Opening.{KeepsBetween-opening}
use Rattle.standing.proofs.Rounds.{made-round, left_after, round-made, KeepsBetween-round}
use Rattle.standing.proofs.Steps.{Keeps-going}
use Rattle.standing.proofs.Whole.{KeepsBetween-passes, goes-passes}
use Rattle.fronts.specs.Lines.{Track, begins, within, ended, callers_at, stands_at, MayEnter, IsWhole, May, AllMay}

-- the lines of whole rounds from round r on
abbrev pub before : ℕ → List Round → List Line
before r [] = []
before r (round ∷ more) = line.Round r round.tick ∷ (map line.Entry round.entries ++ before (r + 1) more)

before-split : (r : ℕ) (rounds more : List Round) (rest : Bool) → lines_from r (rounds ++ more) rest ≡ before r rounds ++ lines_from (r + length rounds) more rest
before-split r [] more rest = let e : r ≡ r + 0 = omega arith in ap (λ q. lines_from q more rest) e
before-split r (round ∷ rounds) more rest =
    let e : r + 1 + length rounds ≡ r + suc (length rounds) = omega arith in
    let later = before-split (r + 1) rounds more rest ∙ ap (λ q. before (r + 1) rounds ++ lines_from q more rest) e in
    ap (λ ls. line.Round r round.tick ∷ (map line.Entry round.entries ++ ls)) later ∙
    ap (λ ls. line.Round r round.tick ∷ ls) (sym (append_assoc (map line.Entry round.entries) (before (r + 1) rounds) (lines_from (r + suc (length rounds)) more rest)))

before-push : (r : ℕ) (rounds : List Round) (round : Round) → before r (rounds ++ round ∷ []) ≡ before r rounds ++ (line.Round (r + length rounds) round.tick ∷ map line.Entry round.entries)
before-push r [] round =
    let e : r ≡ r + 0 = omega arith in
    ap (λ ls. line.Round r round.tick ∷ ls) (append-nil (map line.Entry round.entries)) ∙ ap (λ q. line.Round q round.tick ∷ map line.Entry round.entries) e
before-push r (x ∷ rounds) round =
    let e : r + 1 + length rounds ≡ r + suc (length rounds) = omega arith in
    let last : ℕ → List Line = λ q. line.Round q round.tick ∷ map line.Entry round.entries in
    ap (λ ls. line.Round r x.tick ∷ (map line.Entry x.entries ++ ls)) (before-push (r + 1) rounds round ∙ ap (λ q. before (r + 1) rounds ++ last q) e) ∙
    ap (λ ls. line.Round r x.tick ∷ ls) (sym (append_assoc (map line.Entry x.entries) (before (r + 1) rounds) (last (r + suc (length rounds)))))

passes-length : (s : Script) (r T : ℕ) (old : Standing) (rounds : List Round) (q U : ℕ) (new : Standing) → Passes s r T old rounds q U new → r + length rounds ≡ q
passes-length s r T old [] q U new h = omega (arith, h.0)
passes-length s r T old (round ∷ more) q U new h =
    omega (arith, passes-length s (r + 1) (next_tick s r T h.0) h.0 more q U new h.4)

passes-push : (s : Script) (r T : ℕ) (old : Standing) (rounds : List Round) (q U : ℕ) (mid : Standing) (round : Round) (new : Standing) → Passes s r T old rounds q U mid → RoundOf s q U mid round new → is_at_rest s q new ≡ false → q + 1 ≢ s.rounds → Passes s r T old (rounds ++ round ∷ []) (q + 1) (next_tick s q U new) new
passes-push s r T old [] q U mid round new h is rest more =
    let first = subst (λ (st : Standing). RoundOf s q U st round new) h.2 is in
    let second = subst (λ (t : ℕ). RoundOf s q t old round new) h.1 first in
    let third = subst (λ (n : ℕ). RoundOf s n T old round new) h.0 second in
    let at_rest = subst (λ (n : ℕ). is_at_rest s n new ≡ false) h.0 rest in
    let number : q + 1 ≡ r + 1 = omega (arith, h.0) in
    (new, third, at_rest, (λ e. more (omega (arith, h.0, e))), (number, ap (λ (n : ℕ). next_tick s n U new) h.0 ∙ ap (λ (t : ℕ). next_tick s r t new) h.1, refl))
passes-push s r T old (x ∷ rounds) q U mid round new h is rest more =
    (h.0, h.1, h.2, h.3, passes-push s (r + 1) (next_tick s r T h.0) h.0 rounds q U mid round new h.4 is rest more)

map-push : (es : List Entry) (e : Entry) → map line.Entry (es ++ e ∷ []) ≡ map line.Entry es ++ line.Entry e ∷ []
map-push [] e = refl
map-push (x ∷ es) e = ap (λ ls. line.Entry x ∷ ls) (map-push es e)

map-append : (es more : List Entry) → map line.Entry (es ++ more) ≡ map line.Entry es ++ map line.Entry more
map-append [] more = refl
map-append (x ∷ es) more = ap (λ ls. line.Entry x ∷ ls) (map-append es more)

going-back : (s : Script) (T : ℕ) (c : Callers) (xs ys : List Entry) → Going s T c (xs ++ ys) → Going s T (gone_on s T c xs) ys
going-back s T c [] ys h = h
going-back s T c (x ∷ xs) ys h = going-back s T (called s T c x) xs ys h.1

-- what lines have come to
abbrev pub Reached : Script → Track → List Line → Type 0
Reached s begins ls = ls ≡ []
Reached s (within r T old es) ls =
    (rounds : List Round) × Passes s 0 s.start (opening s) rounds r T old × Going s T (entered s r T old) es × (ls ≡ before 0 rounds ++ (line.Round r T ∷ map line.Entry es))
Reached s ended ls = (run : Run) × LawfulRun s run × (lines_of_run run ≡ ls)

-- what stands together before the round that whole rounds lead to
pub record Before (s : Script) (r : ℕ) (old : Standing) : Type 0 where
  pub limit : ℕ
  pub keeps : KeepsBetween s limit old

before-passes : (s : Script) (rounds : List Round) (r T : ℕ) (old : Standing) → IsTrue (is_sound s) → Passes s 0 s.start (opening s) rounds r T old → Before s r old
before-passes s rounds r T old sound h =
    let t = takes-sound s sound in
    let p = KeepsBetween-passes s 0 0 s.start (opening s) rounds r T old (IsFit-sound s sound) t.0 (KeepsBetween-opening s) h in
    record { limit = 0 + p.count * round_takes s; keeps = p.keeps }

draw_call : (c : Call) → is_draw c ≡ true → (i : TaskId) × (c ≡ calls.Draw i)
draw_call (calls.Wake i f) h = cc
draw_call (calls.Kill i) h = cc
draw_call (calls.Post i b) h = cc
draw_call (calls.Get g) h = cc
draw_call (calls.Draw i) h = (i, refl)
draw_call (calls.Take i) h = cc
draw_call (calls.DropRun i) h = cc
draw_call (calls.Retire i) h = cc

-- an entry that may come is a next call
pub enters-next : (s : Script) (limit : ℕ) (c : Callers) (e : Entry) → Keeps s limit c → MayEnter s c e → IsNext s c e
enters-next s limit c e keeps h =
    record {
      caller = h.caller;
      asks = elim h.asks [
        | inl same ↦ inl same
        | inr draw ↦
            let d = draw_call e.call draw.0 in
            let fit : fits c.state e.caller (calls.Draw d.0) ≡ true = subst (λ (x : Call). fits c.state e.caller x ≡ true) d.1 h.allowed.fit in
            let boxed : is_boxed s.workers (task_at c.state d.0.0).place ≡ true = subst (λ (w : ℕ). is_boxed w (task_at c.state d.0.0).place ≡ true) keeps.workers fit in
            inr (record { task = d.0.0; call = d.1; shared = keeps.shared d.0.0 boxed; some = draw.1 })
      ];
      allowed = h.allowed;
    }

pub next-enters : (s : Script) (c : Callers) (e : Entry) → IsNext s c e → MayEnter s c e
next-enters s c e h =
    record {
      caller = h.caller;
      asks = elim h.asks [
        | inl same ↦ inl same
        | inr draw ↦ inr (ap is_draw draw.call, draw.some)
      ];
      allowed = h.allowed;
    }

keeps-at : (s : Script) (r T : ℕ) (old : Standing) (es : List Entry) → IsTrue (is_sound s) → (b : Before s r old) → Going s T (entered s r T old) es → Keeps s (b.limit + round_takes s) (callers_at s r T old es)
keeps-at s r T old es sound b going =
    let fit = IsFit-sound s sound in
    Keeps-going s T (b.limit + round_takes s) (entered s r T old) es fit (Keeps-entered s r T b.limit old fit b.keeps) going

-- the round that lines have made whole
round-whole : (s : Script) (r T : ℕ) (old : Standing) (es : List Entry) → Before s r old → Going s T (entered s r T old) es → IsWhole s r T old es → RoundOf s r T old (record { tick = T; entries = es }) (stands_at s r T old es)
round-whole s r T old es b going whole = round-made s r T old es b.keeps.books going whole.0 whole.1

-- the end that may come is the end that the run has
end_goes : (s : Script) (r : ℕ) (rest b : Bool) (P : Type 0) → MatchBool b (rest ≡ true) ((r + 1 ≡ s.rounds) × (rest ≡ false)) → MatchBool b ((◌≡◌ {A = List Round} [] []) × (rest ≡ true)) (MatchBool (r + 1 == s.rounds) ((◌≡◌ {A = List Round} [] []) × (rest ≡ false)) P)
end_goes s r rest true P h = (refl, h)
end_goes s r rest false P h = rw (eq-eqb (r + 1) s.rounds h.0) (refl, h.1)

pub reached-step : (s : Script) (t : Track) (l : Line) (u : Track) (ls : List Line) → IsTrue (is_sound s) → May s t l u → Reached s t ls → Reached s u (ls ++ l ∷ [])
reached-step s begins (line.Round number tick) u ls sound h at =
    let here : Reached s (within 0 s.start (opening s) []) (ls ++ line.Round number tick ∷ []) = ([], (refl, refl, refl), tt, rw (at, h.0, h.1) refl) in
    subst (λ (v : Track). Reached s v (ls ++ line.Round number tick ∷ [])) (sym h.2) here
reached-step s begins (line.Entry e) u ls sound h at = absurd h
reached-step s begins (line.End rest last) u ls sound h at = absurd h
reached-step s (within r T old es) (line.Round number tick) u ls sound h at =
    let rounds = at.0 in
    let st = stands_at s r T old es in
    let b = before-passes s rounds r T old sound at.1 in
    let is = round-whole s r T old es b at.2 h.0 in
    let n = passes-length s 0 s.start (opening s) rounds r T old at.1 in
    let lines : ls ++ line.Round number tick ∷ [] ≡ before 0 (rounds ++ record { tick = T; entries = es } ∷ []) ++ (line.Round (r + 1) (next_tick s r T st) ∷ []) =
    rw (h.3, h.4) (ap (λ xs. xs ++ line.Round (r + 1) (next_tick s r T st) ∷ []) (at.3 ∙ sym (before-push 0 rounds (record { tick = T; entries = es }) ∙ ap (λ q. before 0 rounds ++ (line.Round q T ∷ map line.Entry es)) n))) in
    let here : Reached s (within (r + 1) (next_tick s r T st) st []) (ls ++ line.Round number tick ∷ []) =
    (rounds ++ record { tick = T; entries = es } ∷ [], passes-push s 0 s.start (opening s) rounds r T old (record { tick = T; entries = es }) st at.1 is h.1 h.2, tt, lines) in
    subst (λ (v : Track). Reached s v (ls ++ line.Round number tick ∷ [])) (sym h.5) here
reached-step s (within r T old es) (line.Entry e) u ls sound h at =
    let rounds = at.0 in
    let b = before-passes s rounds r T old sound at.1 in
    let next = enters-next s (b.limit + round_takes s) (callers_at s r T old es) e (keeps-at s r T old es sound b at.2) h.0 in
    let going = going-append s T (entered s r T old) es (e ∷ []) at.2 (next, tt) in
    let lines : ls ++ line.Entry e ∷ [] ≡ before 0 rounds ++ (line.Round r T ∷ map line.Entry (es ++ e ∷ [])) =
    ap (λ xs. xs ++ line.Entry e ∷ []) at.3 ∙ append_assoc (before 0 rounds) (line.Round r T ∷ map line.Entry es) (line.Entry e ∷ []) ∙ ap (λ xs. before 0 rounds ++ (line.Round r T ∷ xs)) (sym (map-push es e)) in
    let here : Reached s (within r T old (es ++ e ∷ [])) (ls ++ line.Entry e ∷ []) = (rounds, at.1, going, lines) in
    subst (λ (v : Track). Reached s v (ls ++ line.Entry e ∷ [])) (sym h.1) here
reached-step s (within r T old es) (line.End rest last) u ls sound h at =
    let rounds = at.0 in
    let round : Round = record { tick = T; entries = es } in
    let st = stands_at s r T old es in
    let b = before-passes s rounds r T old sound at.1 in
    let is = round-whole s r T old es b at.2 h.0 in
    let goes : Goes s rest r T old (round ∷ []) = (st, is, end_goes s r rest (is_at_rest s r st) (Goes s rest (r + 1) (next_tick s r T st) st []) h.2) in
    let lawful = goes-passes s rest 0 s.start (opening s) rounds r T old (round ∷ []) at.1 goes in
    let n = passes-length s 0 s.start (opening s) rounds r T old at.1 in
    let one_less : r + 1 - 1 ≡ last = omega (arith, h.1) in
    let lines : lines_from 0 (rounds ++ round ∷ []) rest ≡ ls ++ line.End rest last ∷ [] =
    before-split 0 rounds (round ∷ []) rest ∙ ap (λ q. before 0 rounds ++ lines_from q (round ∷ []) rest) n ∙
    ap (λ q. before 0 rounds ++ (line.Round r T ∷ (map line.Entry es ++ line.End rest q ∷ []))) one_less ∙
    sym (append_assoc (before 0 rounds) (line.Round r T ∷ map line.Entry es) (line.End rest last ∷ [])) ∙ ap (λ xs. xs ++ line.End rest last ∷ []) (sym at.3) in
    let here : Reached s ended (ls ++ line.End rest last ∷ []) = (record { rounds = rounds ++ round ∷ []; rest = rest }, lawful, lines) in
    subst (λ (v : Track). Reached s v (ls ++ line.End rest last ∷ [])) (sym h.3) here
reached-step s ended l u ls sound h at = absurd h

-- lines that have come are the first lines of a lawful run
reached-front : (s : Script) (t : Track) (ls : List Line) → IsTrue (is_sound s) → Reached s t ls → Front s ls
reached-front s begins ls sound at =
    let x = runs_go_on s [] 0 s.start (opening s) [] sound (refl, refl, refl) tt in
    let run : Run = record { rounds = record { tick = s.start; entries = x.1 } ∷ x.2; rest = x.0 } in
    (run, lines_of_run run, x.3, rw at refl)
reached-front s (within r T old es) ls sound at =
    let rounds = at.0 in
    let x = runs_go_on s rounds r T old es sound at.1 at.2 in
    let round : Round = record { tick = T; entries = es ++ x.1 } in
    let run : Run = record { rounds = rounds ++ round ∷ x.2; rest = x.0 } in
    let n = passes-length s 0 s.start (opening s) rounds r T old at.1 in
    let later = lines_from (r + 1) x.2 x.0 in
    let more = map line.Entry x.1 ++ later in
    let lines : lines_of_run run ≡ ls ++ more =
    before-split 0 rounds (round ∷ x.2) x.0 ∙ ap (λ q. before 0 rounds ++ lines_from q (round ∷ x.2) x.0) n ∙
    ap (λ xs. before 0 rounds ++ (line.Round r T ∷ xs)) (ap (λ ys. ys ++ later) (map-append es x.1) ∙ append_assoc (map line.Entry es) (map line.Entry x.1) later) ∙
    sym (append_assoc (before 0 rounds) (line.Round r T ∷ map line.Entry es) more) ∙ ap (λ xs. xs ++ more) (sym at.3) in
    (run, more, x.3, lines)
reached-front s ended ls sound at = (at.0, [], at.1, at.2 ∙ sym (append-nil ls))

pub allowed-front : (s : Script) (t : Track) (ls more : List Line) → IsTrue (is_sound s) → AllMay s t more → Reached s t ls → Front s (ls ++ more)
allowed-front s t ls [] sound h at = rw (append-nil ls) (reached-front s t ls sound at)
allowed-front s t ls (l ∷ more) sound h at =
    rw (← append_assoc ls (l ∷ []) more) (allowed-front s h.0 (ls ++ l ∷ []) more sound h.2 (reached-step s t l h.0 ls sound h.1 at))

-- the first of lines that are allowed are allowed
pub allowed-first : (s : Script) (t : Track) (ls more : List Line) → AllMay s t (ls ++ more) → AllMay s t ls
allowed-first s t [] more h = tt
allowed-first s t (l ∷ ls) more h = (h.0, h.1, allowed-first s h.0 ls more h.2)

-- the entries of a round are allowed one after another
allowed-entries : (s : Script) (r T : ℕ) (old : Standing) (xs ys : List Entry) (ls : List Line) → Going s T (entered s r T old) (xs ++ ys) → AllMay s (within r T old (xs ++ ys)) ls → AllMay s (within r T old xs) (map line.Entry ys ++ ls)
allowed-entries s r T old xs [] ls going h =
    subst (λ (es : List Entry). AllMay s (within r T old es) ls) (append-nil xs) h
allowed-entries s r T old xs (y ∷ ys) ls going h =
    let same : xs ++ y ∷ ys ≡ (xs ++ y ∷ []) ++ ys = sym (append_assoc xs (y ∷ []) ys) in
    let next = (going-back s T (entered s r T old) xs (y ∷ ys) going).0 in
    let later = allowed-entries s r T old (xs ++ y ∷ []) ys ls (subst (λ (es : List Entry). Going s T (entered s r T old) es) same going) (subst (λ (es : List Entry). AllMay s (within r T old es) ls) same h) in
    (within r T old (xs ++ y ∷ []), (next-enters s (callers_at s r T old xs) y next, refl), later)

same_standing : (st : Standing) (x y : Standing) → x.state ≡ y.state → x.books ≡ y.books → x ≡ y
same_standing st x y h g = ap (λ z. record { state = z; books = x.books }) h ∙ ap (λ z. record { state = y.state; books = z }) g

-- what a lawful round leaves is what its calls lead to
left-is : (s : Script) (T : ℕ) (c : Callers) (new : Standing) → IsLeft s T c new → new ≡ left_by s T c
left-is s T c new h =
    same_standing new new (left_by s T c) h.state (same_lists new.books (books_of s T c.at 0 s.workers) (h.count ∙ sym (length-books_of s T c.at 0 s.workers)) (λ i d lt.
    let below : i < s.workers = omega (arith, h.count) in
    let first : 0 + i ≡ i = omega arith in
    get_or_default new.books i d (blank_book 0) lt ∙ h.books i below ∙
    ap (λ (k : ℕ). turn_ended s T (c.at k).book) (sym first) ∙ sym (get-books_of s T c.at 0 s.workers i d below)))

-- where more rounds come after what stands so, their lines are allowed
abbrev GoOn : Script → Bool → ℕ → ℕ → Standing → List Round → Type 0
GoOn s rest r T st [] = Unit {0}
GoOn s rest r T st (x ∷ xs) = Goes s rest r T st (x ∷ xs) → AllMay s (within r T st []) (map line.Entry x.entries ++ lines_from (r + 1) xs rest)

-- the lines after a whole round are allowed
after_round : (s : Script) (rest : Bool) (r T : ℕ) (old : Standing) (es : List Entry) (more : List Round) (b n : Bool) → is_at_rest s r (stands_at s r T old es) ≡ b → (r + 1 == s.rounds) ≡ n → IsWhole s r T old es → GoOn s rest (r + 1) (next_tick s r T (stands_at s r T old es)) (stands_at s r T old es) more → MatchBool b ((more ≡ []) × (rest ≡ true)) (MatchBool n ((more ≡ []) × (rest ≡ false)) (Goes s rest (r + 1) (next_tick s r T (stands_at s r T old es)) (stands_at s r T old es) more)) → AllMay s (within r T old es) (lines_from (r + 1) more rest)
after_round s rest r T old es more true n e f whole go h =
    let one_less : r + 1 - 1 ≡ r = omega arith in
    rw h.0 ((ended, (whole, one_less, rw e h.1, refl), tt))
after_round s rest r T old es more false true e f whole go h =
    let one_less : r + 1 - 1 ≡ r = omega arith in
    rw h.0 ((ended, (whole, one_less, rw e (eqb-true (r + 1) s.rounds f, h.1), refl), tt))
after_round s rest r T old es [] false false e f whole go h = absurd h
after_round s rest r T old es (x ∷ more) false false e f whole go h =
    let st = stands_at s r T old es in
    (within (r + 1) (next_tick s r T st) st [], (whole, e, (λ same. let other = eq-eqb (r + 1) s.rounds same in cc), refl, h.1.tick, refl), go h)

-- what a lawful round leaves, and what comes after it
pub record Leaves (s : Script) (rest : Bool) (r T limit : ℕ) (old : Standing) (es : List Entry) (more : List Round) : Type 0 where
  pub going : Going s T (entered s r T old) es
  pub whole : IsWhole s r T old es
  pub keeps : KeepsBetween s (limit + round_takes s) (stands_at s r T old es)
  pub ends : MatchBool (is_at_rest s r (stands_at s r T old es)) ((more ≡ []) × (rest ≡ true)) (MatchBool (r + 1 == s.rounds) ((more ≡ []) × (rest ≡ false)) (Goes s rest (r + 1) (next_tick s r T (stands_at s r T old es)) (stands_at s r T old es) more))

leaves-goes : (s : Script) (rest : Bool) (r T limit : ℕ) (old : Standing) (round : Round) (more : List Round) → IsTrue (is_sound s) → KeepsBetween s limit old → Goes s rest r T old (round ∷ more) → Leaves s rest r T limit old round.entries more
leaves-goes s rest r T limit old round more sound keeps g =
    let new = g.0 in
    let made = made-round s r T old round new keeps.books g.1 in
    let same : new ≡ stands_at s r T old round.entries = left-is s T (callers_at s r T old round.entries) new (left_after s r T old round new keeps.books g.1) in
    record {
      going = made.going;
      whole = (made.done, g.1.served);
      keeps = subst (λ (st : Standing). KeepsBetween s (limit + round_takes s) st) same (KeepsBetween-round s r T limit old round new (IsFit-sound s sound) keeps g.1);
      ends = subst (λ (st : Standing). MatchBool (is_at_rest s r st) ((more ≡ []) × (rest ≡ true)) (MatchBool (r + 1 == s.rounds) ((more ≡ []) × (rest ≡ false)) (Goes s rest (r + 1) (next_tick s r T st) st more))) same g.2;
    }

-- the lines of rounds that go on lawfully are allowed
goes-allowed : (s : Script) (rest : Bool) (r T limit : ℕ) (old : Standing) (round : Round) (more : List Round) → IsTrue (is_sound s) → KeepsBetween s limit old → Goes s rest r T old (round ∷ more) → AllMay s (within r T old []) (map line.Entry round.entries ++ lines_from (r + 1) more rest)
goes-allowed s rest r T limit old round [] sound keeps g =
    let l = leaves-goes s rest r T limit old round [] sound keeps g in
    let st = stands_at s r T old round.entries in
    allowed-entries s r T old [] round.entries (lines_from (r + 1) [] rest) l.going (after_round s rest r T old round.entries [] (is_at_rest s r st) (r + 1 == s.rounds) refl refl l.whole tt l.ends)
goes-allowed s rest r T limit old round (x ∷ more) sound keeps g =
    let l = leaves-goes s rest r T limit old round (x ∷ more) sound keeps g in
    let st = stands_at s r T old round.entries in
    allowed-entries s r T old [] round.entries (lines_from (r + 1) (x ∷ more) rest) l.going (after_round s rest r T old round.entries (x ∷ more) (is_at_rest s r st) (r + 1 == s.rounds) refl refl l.whole (λ h. goes-allowed s rest (r + 1) (next_tick s r T st) (limit + round_takes s) st x more sound l.keeps h) l.ends)

pub run-allowed : (s : Script) (rest : Bool) (rounds : List Round) → IsTrue (is_sound s) → Goes s rest 0 s.start (opening s) rounds → AllMay s begins (lines_from 0 rounds rest)
run-allowed s rest [] sound g = absurd g
run-allowed s rest (round ∷ more) sound g =
    (within 0 s.start (opening s) [], (refl, g.1.tick, refl), goes-allowed s rest 0 s.start 0 (opening s) round more sound (KeepsBetween-opening s) g)

pub fronts : (s : Script) (ls : List Line) → IsTrue (is_sound s) → Front s ls ↔ AllMay s begins ls
fronts s ls sound =
    (λ f. allowed-first s begins ls f.1 (subst (λ (xs : List Line). AllMay s begins xs) f.3 (run-allowed s f.0.rest f.0.rounds sound f.2)), λ h. allowed-front s begins [] ls sound h refl)
