-- The test for lawful runs decides them.
use Rattle.std.proofs.Common.{◌≡◌, ℕ, ◌+◌, ◌==◌, ◌&&◌, not, Bool, true, false, List, [], ◌∷◌, ◌++◌, Option, None, Some, option_and_then, option_map, is_some, MatchBool, refl, sym, ap, ap₂, subst, ◌∙◌, append-nil, eqb-true, eq-eqb, if◌then◌else◌}
use Rattle.std.specs.Option.{option_map_or}
use Rattle.step_tables.specs.declared.tables.Script.{Script}
use Rattle.task_machine.specs.declared.calls.Entry.{Entry}
use Rattle.task_machine.specs.Step.{State}
use Rattle.task_machine.specs.History.{led, calls_of}
use Rattle.run_model.specs.Run.{Round}
use Rattle.run_model.specs.Parts.{Part, Then, Quiet}
use Rattle.run_model.specs.Book.{Book}
use Rattle.run_model.specs.Turn.{Turn}
use Rattle.run_model.specs.Standing.{Standing, opening, turn_ended, next_tick, is_at_rest}
use Rattle.run_model.specs.Lawful.{Turns, RoundOf, Goes}
use Rattle.run_model.specs.Laws.{LawfulRunsAreDecided}
use Rattle.run_model.specs.Reader.{Got, Reader, in_turn, quietly}
use Rattle.run_model.specs.TurnReader.{turning, injecting}
use Rattle.run_model.specs.IsLawful.{if_none_left, reads_all, books_after, is_framed, if_framed, after_round, is_done, is_going}
use Rattle.run_model.proofs.Readings.{ReadsLast, some_inj, both, chained, last-reads, reads-quiet_last}
use Rattle.run_model.proofs.TurnReadings.{reads-turn, reads-injects}
use Rattle.run_model.proofs.HistoryTest.{legal_true, true_legal}

none_left : {B : Type 0} (b : B) (es : List Entry) (c : B) → if_none_left b es ≡ Some c → (es ≡ []) × (b ≡ c)
none_left b [] c e = (refl, some_inj _ _ e)
none_left b (x ∷ es) c e = cc

all_sound : {B : Type 0} (P : Part B) (r : Reader B) → ReadsLast P r → (b : B) (es : List Entry) (c : B) → reads_all r b es ≡ Some c → P b es c
all_sound {B} P r h b es c e =
    let k = chained (λ (g : Got B). if_none_left g.new g.rest) (r b es) c e in
    let n = none_left k.0.new k.0.rest c k.2 in
    let t = h.sound b es k.0 k.1 in
    let at : es ≡ t.front = t.joined ∙ (ap (λ zs. t.front ++ zs) n.0 ∙ append-nil t.front) in
    subst (λ (d : B). P b es d) n.1 (subst (λ (zs : List Entry). P b zs k.0.new) (sym at) t.held)

all_whole : {B : Type 0} (P : Part B) (r : Reader B) → ReadsLast P r → (b : B) (es : List Entry) (c : B) → P b es c → reads_all r b es ≡ Some c
all_whole {B} P r h b es c p =
    ap (λ (o : Option (Got B)). option_and_then (λ g. if_none_left g.new g.rest) o) (h.whole b es c p)

mapped : {A C : Type 0} (f : A → C) (o : Option A) (c : C) → option_map f o ≡ Some c → (x : A) × (o ≡ Some x) × (f x ≡ c)
mapped f None c e = cc
mapped f (Some x) c e = (x, refl, some_inj _ _ e)

-- a turn of worker w, with its end
reads-ended : (s : Script) (w T : ℕ) → ReadsLast (Then (Turn s (record { 0 = w }) T) (Quiet (turn_ended s T))) (in_turn (turning s (record { 0 = w }) T) (quietly (turn_ended s T)))
reads-ended s w T = reads-quiet_last _ _ (turn_ended s T) (reads-turn s (record { 0 = w }) T)

turns_sound : (s : Script) (T : ℕ) (es : List Entry) (w : ℕ) (bs cs : List Book) → books_after s T es w bs ≡ Some cs → Turns s T es w bs cs
turns_sound s T es w [] [] e = tt
turns_sound s T es w [] (c ∷ cs) e = cc
turns_sound s T es w (b ∷ bs) cs e =
    let k = chained (λ c. option_map (λ ds. c ∷ ds) (books_after s T es (w + 1) bs)) (reads_all (in_turn (turning s (record { 0 = w }) T) (quietly (turn_ended s T))) b (calls_of w es)) cs e in
    let m = mapped (λ ds. k.0 ∷ ds) (books_after s T es (w + 1) bs) cs k.2 in
    subst (λ (ds : List Book). Turns s T es w (b ∷ bs) ds) m.2
    (all_sound _ _ (reads-ended s w T) b (calls_of w es) k.0 k.1, turns_sound s T es (w + 1) bs m.0 m.1)

turns_whole : (s : Script) (T : ℕ) (es : List Entry) (w : ℕ) (bs cs : List Book) → Turns s T es w bs cs → books_after s T es w bs ≡ Some cs
turns_whole s T es w [] [] h = refl
turns_whole s T es w [] (c ∷ cs) h = absurd h
turns_whole s T es w (b ∷ bs) [] h = absurd h
turns_whole s T es w (b ∷ bs) (c ∷ cs) h =
    rw (all_whole _ _ (reads-ended s w T) b (calls_of w es) c h.0, turns_whole s T es (w + 1) bs cs h.1) refl

done_true : (rounds : List Round) → is_done rounds ≡ true → rounds ≡ []
done_true [] e = refl
done_true (x ∷ xs) e = cc

framed_some : (t : Bool) (o : Option Standing) (new : Standing) → if_framed t o ≡ Some new → (t ≡ true) × (o ≡ Some new)
framed_some true o new e = (refl, e)
framed_some false o new e = cc

is_some_true : {A : Type 0} (o : Option A) → is_some o ≡ true → (x : A) × (o ≡ Some x)
is_some_true None e = cc
is_some_true (Some x) e = (x, refl)

-- what stands after a round
abbrev stands : Standing → Round → List Book → Standing
stands old round books = record old { state = led old.state round.entries; books = books }

round_sound : (s : Script) (r T : ℕ) (old : Standing) (round : Round) (new : Standing) → after_round s r T old round ≡ Some new → RoundOf s r T old round new
round_sound s r T old round new e =
    let f = framed_some _ _ new e in
    let m = mapped (stands old round) (books_after s T round.entries 0 old.books) new f.1 in
    let a = both _ _ f.0 in
    let b = both _ _ a.1 in
    let c = both _ _ b.1 in
    let d = both _ _ c.1 in
    let i = is_some_true _ c.0 in
    subst (λ (st : Standing). RoundOf s r T old round st) m.2 (record {
      tick = eqb-true _ _ a.0;
      history = (legal_true old.state round.entries b.0, refl);
      turns = turns_sound s T round.entries 0 old.books m.0 m.1;
      injects = all_sound _ _ (last-reads _ _ (reads-injects s r)) (tt {0}) (calls_of s.workers round.entries) i.0 i.1;
      callers = d.0;
      served = d.1;
    })

framed_true : (s : Script) (r T : ℕ) (old : Standing) (round : Round) (new : Standing) → RoundOf s r T old round new → is_framed s r T old round ≡ true
framed_true s r T old round new h =
    let i : reads_all (injecting s r) (tt {0}) (calls_of s.workers round.entries) ≡ Some (tt {0}) = all_whole _ _ (last-reads _ _ (reads-injects s r)) (tt {0}) (calls_of s.workers round.entries) (tt {0}) h.injects in
    rw (eq-eqb _ _ h.tick, true_legal old.state round.entries h.history.0, i, h.callers, h.served) refl

round_whole : (s : Script) (r T : ℕ) (old : Standing) (round : Round) (new : Standing) → RoundOf s r T old round new → after_round s r T old round ≡ Some new
round_whole s r T old round new h =
    let at : stands old round new.books ≡ new = ap (λ (st : State). record old { state = st; books = new.books }) (sym h.history.1) in
    ap₂ (λ t o. if_framed t (option_map (stands old round) o)) (framed_true s r T old round new h) (turns_whole s T round.entries 0 old.books new.books h.turns) ∙ ap (λ st. Some st) at

map_or_true : {A : Type 0} (f : A → Bool) (o : Option A) → option_map_or f o false ≡ true → (x : A) × (o ≡ Some x) × (f x ≡ true)
map_or_true f None e = cc
map_or_true f (Some x) e = (x, refl, e)

-- the choice between two ends and no end, as a test and as a fact
choice_sound : (a b x y z : Bool) (X Y Z : Type 0) → (x ≡ true → X) → (y ≡ true → Y) → (z ≡ true → Z) → (if a then x else if b then y else z) ≡ true → MatchBool a X (MatchBool b Y Z)
choice_sound true b x y z X Y Z f g h e = f e
choice_sound false true x y z X Y Z f g h e = g e
choice_sound false false x y z X Y Z f g h e = h e

choice_whole : (a b x y z : Bool) (X Y Z : Type 0) → (X → x ≡ true) → (Y → y ≡ true) → (Z → z ≡ true) → MatchBool a X (MatchBool b Y Z) → (if a then x else if b then y else z) ≡ true
choice_whole true b x y z X Y Z f g h e = f e
choice_whole false true x y z X Y Z f g h e = g e
choice_whole false false x y z X Y Z f g h e = h e

ends_rest : (more : List Round) (rest : Bool) → (is_done more && rest) ≡ true → (more ≡ []) × (rest ≡ true)
ends_rest more rest e = let k = both _ _ e in (done_true more k.0, k.1)

ends_limit : (more : List Round) (rest : Bool) → (is_done more && not rest) ≡ true → (more ≡ []) × (rest ≡ false)
ends_limit more true e = let f : false ≡ true = (both (is_done more) false e).1 in cc
ends_limit more false e = let k = both _ _ e in (done_true more k.0, refl)

rest_ends : (more : List Round) (rest : Bool) → (more ≡ []) × (rest ≡ true) → (is_done more && rest) ≡ true
rest_ends more rest h = rw (h.0, h.1) refl

limit_ends : (more : List Round) (rest : Bool) → (more ≡ []) × (rest ≡ false) → (is_done more && not rest) ≡ true
limit_ends more rest h = rw (h.0, h.1) refl

going_sound : (s : Script) (rest : Bool) (r T : ℕ) (old : Standing) (rounds : List Round) → is_going s rest r T old rounds ≡ true → Goes s rest r T old rounds
going_sound s rest r T old [] e = cc
going_sound s rest r T old (round ∷ more) e =
    let k = map_or_true (λ new.
    if is_at_rest s r new then is_done more && rest
    else if r + 1 == s.rounds then is_done more && not rest
    else is_going s rest (r + 1) (next_tick s r T new) new more) (after_round s r T old round) e in (
      k.0,
      round_sound s r T old round k.0 k.1,
      choice_sound _ _ _ _ _ _ _ _ (ends_rest more rest) (ends_limit more rest) (going_sound s rest (r + 1) (next_tick s r T k.0) k.0 more) k.2,
    )

going_whole : (s : Script) (rest : Bool) (r T : ℕ) (old : Standing) (rounds : List Round) → Goes s rest r T old rounds → is_going s rest r T old rounds ≡ true
going_whole s rest r T old [] h = absurd h
going_whole s rest r T old (round ∷ more) h =
    ap (λ (o : Option Standing). option_map_or (λ new.
    if is_at_rest s r new then is_done more && rest
    else if r + 1 == s.rounds then is_done more && not rest
    else is_going s rest (r + 1) (next_tick s r T new) new more) o false) (round_whole s r T old round h.0 h.1) ∙
    choice_whole _ _ _ _ _ _ _ _ (rest_ends more rest) (limit_ends more rest) (going_whole s rest (r + 1) (next_tick s r T h.0) h.0 more) h.2

pub the_test_decides : LawfulRunsAreDecided
the_test_decides s run = (going_sound s run.rest 0 s.start (opening s) run.rounds, going_whole s run.rest 0 s.start (opening s) run.rounds)
