-- A run round by round: what is written of it.
use Rattle.std.proofs.Common.{◌≡◌, ℕ, ◌+◌, ◌-◌, ◌≤◌, Bool, true, false, List, [], ◌∷◌, ◌++◌, length, IsTrue, Option, Some, None, Result, Ok, Err, OnErr, refl, sym, ap, ◌∙◌, subst, arith, append_assoc, append-nil, if◌then◌else◌, zero-add, inl, inr}
use Rattle.std.proofs.lemmas.List.{length-append}
use Rattle.sched_base.specs.Streams.{Appends, AppendsFront, Rose}
use Rattle.step_tables.specs.declared.tables.Script.{Script}
use Rattle.step_tables.specs.Sound.{is_sound}
use Rattle.run_model.specs.Run.{Round, Run}
use Rattle.run_model.specs.Lawful.{LawfulRun}
use Rattle.run_model.specs.Standing.{Standing, opening}
use Rattle.standing.specs.Passes.{Passes}
use Rattle.standing.proofs.Lawful.{runs_go_on, reasons_all}
use Rattle.transcript.specs.Spelling.{head_text, round_text, end_text}
use Rattle.run_texts.specs.RunText.{text_of, rounds_text}
use Rattle.run_texts.proofs.Pieces.{text_of_pieces, rounds_text-append}
use Rattle.run_texts.proofs.RunsAgain.{text_again}
use Rattle.thread_loop.specs.declared.crew.Kept.{Kept}
use Rattle.taskrun.specs.Headline.{IsRunOf}
use Rattle.taskrun.specs.Answers.{Wrote, WroteFront}
use Rattle.taskrun.specs.declared.courses.AfterRound.{AfterRound}
use Rattle.taskrun.specs.declared.courses.Course.{Course}
use Rattle.taskrun.specs.Courses.{Runs, Advances}
use Rattle.taskrun.specs.Rounds.{Adds, Underway}
use Rattle.program_edges.proofs.Joined.{appends_more}
use Rattle.taskrun.proofs.Advanced.{runs_length}
use Rattle.taskrun.proofs.RunTexts.{lawful_has_text}

-- ---- texts

-- the text of a run that begins with these rounds
begin_text : (rounds later : List Round) (rest : Bool) → (tail : List ℕ) × (text_of (record { rounds = rounds ++ later; rest = rest }) ≡ (head_text ++ rounds_text 0 rounds) ++ tail)
begin_text rounds later rest =
    let all = rounds ++ later in
    let end = end_text rest (length all - 1) in (
      rounds_text (0 + length rounds) later ++ end,
      text_of_pieces (record { rounds = all; rest = rest })
          ∙ ap (λ t. head_text ++ (t ++ end)) (rounds_text-append 0 rounds later)
          ∙ ap (λ t. head_text ++ t) (append_assoc (rounds_text 0 rounds) (rounds_text (0 + length rounds) later) end)
          ∙ sym (append_assoc head_text (rounds_text 0 rounds) (rounds_text (0 + length rounds) later ++ end)),
    )

-- the text of whole rounds with one more
one_more : (rounds : List Round) (round : Round) (q : ℕ) → length rounds ≡ q → rounds_text 0 (rounds ++ round ∷ []) ≡ rounds_text 0 rounds ++ round_text q round.tick round.entries
one_more rounds round q e =
    rounds_text-append 0 rounds (round ∷ [])
    ∙ ap (λ t. rounds_text 0 rounds ++ t) (append-nil (round_text (0 + length rounds) round.tick round.entries))
    ∙ ap (λ n. rounds_text 0 rounds ++ round_text n round.tick round.entries) (zero-add (length rounds) ∙ e)

-- ---- what is written

-- a run that is lawful is a run of the script
pub run_of : (s : Script) (run : Run) → LawfulRun s run → IsRunOf s run
run_of s run h = record { lawful = h; reasons = reasons_all s run h }

-- whole rounds begin a lawful run
pub rounds_begin : (s : Script) (rounds : List Round) (q U : ℕ) (st : Standing) → IsTrue (is_sound s) → Passes s 0 s.start (opening s) rounds q U st → (run : Run) × LawfulRun s run × (tail : List ℕ) × (text_of run ≡ (head_text ++ rounds_text 0 rounds) ++ tail)
rounds_begin s rounds q U st sound h =
    let g = runs_go_on s rounds q U st [] sound h tt in
    let later = record { tick = U; entries = g.1 } ∷ g.2 in
    let t = begin_text rounds later g.0 in
    (record { rounds = rounds ++ later; rest = g.0 }, g.3, t.0, t.1)

-- what was appended in front of a text, and done some first part of what comes next
front_more : (a b c : Option (List ℕ)) (x y z tail whole : List ℕ) → Appends a b x → AppendsFront b c y → x ++ y ≡ z → whole ≡ z ++ tail → AppendsFront a c whole
front_more a b c x y z tail whole p q e f = (
  x ++ q.0,
  q.1 ++ tail,
  f ∙ ap (λ t. t ++ tail) (sym e ∙ ap (λ t. x ++ t) q.2 ∙ sym (append_assoc x q.0 q.1)) ∙ append_assoc (x ++ q.0) q.1 tail,
  appends_more a b c x q.0 p q.3,
)

-- nothing more
appends_none : (a : Option (List ℕ)) → Appends a a []
appends_none None = tt
appends_none (Some s) = ap Some (sym (append-nil s))

pub front_none : (a : Option (List ℕ)) (y : List ℕ) → AppendsFront a a y
front_none a y = ([], y, refl, appends_none a)

-- nothing is written yet
pub unstarted : (s : Script) (a : Option (List ℕ)) → IsTrue (is_sound s) → WroteFront a a s
unstarted s a sound =
    let g = rounds_begin s [] 0 s.start (opening s) sound (refl, refl, refl) in
    (g.0, run_of s g.0 g.1, front_none a (text_of g.0))

-- what is written before a round is a first part
pub stopped : (s : Script) (before now : Option (List ℕ)) (told tells : Option (List Kept)) (buffer : List ℕ) (q : ℕ) (c : Course) → IsTrue (is_sound s) → Underway s before now told tells buffer q c → WroteFront before now s
stopped s before now told tells buffer q c sound h =
    let g = rounds_begin s h.rounds q c.tick h.runs.old sound h.runs.passes in
    (g.0, run_of s g.0 g.1, front_more before now now h.written buffer _ g.2 (text_of g.0) h.appended (front_none now buffer) h.text g.3)

-- the rounds with the one that was added, and their text
joined : (s : Script) (before now : Option (List ℕ)) (told here tells : Option (List Kept)) (buffer after : List ℕ) (q : ℕ) (c d : Course) (over : Bool) → (h : Underway s before now told here buffer q c) → (adds : Adds s h.rounds q told tells buffer after d over) → h.written ++ after ≡ (head_text ++ rounds_text 0 (h.rounds ++ adds.round ∷ [])) ++ (if over then end_text adds.rest q else [])
joined s before now told here tells buffer after q c d over h adds =
    let text = round_text q adds.round.tick adds.round.entries in
    let end = if over then end_text adds.rest q else [] in
    let more = one_more h.rounds adds.round q (runs_length s h.rounds q told here c h.runs) in
    ap (λ t. h.written ++ t) adds.text
    ∙ sym (append_assoc h.written buffer (text ++ end))
    ∙ ap (λ t. t ++ (text ++ end)) h.text
    ∙ sym (append_assoc (head_text ++ rounds_text 0 h.rounds) text end)
    ∙ ap (λ t. t ++ end) (append_assoc head_text (rounds_text 0 h.rounds) text ∙ ap (λ t. head_text ++ t) (sym more))

-- the text of the run that ends with the round that was added
finished : (s : Script) (before now : Option (List ℕ)) (told here tells : Option (List Kept)) (buffer after : List ℕ) (q : ℕ) (c d : Course) → (h : Underway s before now told here buffer q c) → (adds : Adds s h.rounds q told tells buffer after d true) → text_of (record { rounds = h.rounds ++ adds.round ∷ []; rest = adds.rest }) ≡ h.written ++ after
finished s before now told here tells buffer after q c d h adds =
    let all = h.rounds ++ adds.round ∷ [] in
    let run : Run = record { rounds = all; rest = adds.rest } in
    let count = runs_length s h.rounds q told here c h.runs in
    let number : length all - 1 ≡ q = (let l = length-append h.rounds (adds.round ∷ []) in omega arith) in
    text_of_pieces run
    ∙ sym (append_assoc head_text (rounds_text 0 all) (end_text adds.rest (length all - 1)))
    ∙ ap (λ n. (head_text ++ rounds_text 0 all) ++ end_text adds.rest n) number
    ∙ sym (joined s before now told here tells buffer after q c d true h adds)

-- all is written
pub all_written : (s : Script) (before now done : Option (List ℕ)) (told here tells : Option (List Kept)) (buffer after : List ℕ) (q : ℕ) (c d : Course) → IsTrue (is_sound s) → (h : Underway s before now told here buffer q c) → Adds s h.rounds q told tells buffer after d true → Appends now done after → Wrote before done told tells s
all_written s before now done told here tells buffer after q c d sound h adds appended =
    let run : Run = record { rounds = h.rounds ++ adds.round ∷ []; rest = adds.rest } in
    let ends = adds.ends refl in (
      run,
      run_of s run ends.lawful,
      text_again run (lawful_has_text s run sound ends.lawful),
      subst (λ t. Appends before done t) (sym (finished s before now told here tells buffer after q c d h adds)) (appends_more before now done h.written after h.appended appended),
      ends.grown,
    )

-- a round more, whose text is in the buffer
pub next_round : (s : Script) (before now : Option (List ℕ)) (told here tells : Option (List Kept)) (buffer after : List ℕ) (q : ℕ) (c d : Course) → (h : Underway s before now told here buffer q c) → Adds s h.rounds q told tells buffer after d false → Underway s before now told tells after (q + 1) d
next_round s before now told here tells buffer after q c d h adds = record {
  rounds = h.rounds ++ adds.round ∷ [];
  runs = adds.runs refl;
  written = h.written;
  appended = h.appended;
  text = joined s before now told here tells buffer after q c d false h adds ∙ append-nil _;
}

-- the buffer is written out
pub flushed : (s : Script) (before now done : Option (List ℕ)) (told tells : Option (List Kept)) (buffer : List ℕ) (q : ℕ) (c : Course) → Underway s before now told tells buffer q c → Appends now done buffer → Underway s before done told tells [] q c
flushed s before now done told tells buffer q c h appended = record {
  rounds = h.rounds;
  runs = h.runs;
  written = h.written ++ buffer;
  appended = appends_more before now done h.written buffer h.appended appended;
  text = append-nil (h.written ++ buffer) ∙ h.text;
}

-- some first part of what was added is written
pub cut_short : (s : Script) (before now done : Option (List ℕ)) (told here tells : Option (List Kept)) (buffer after : List ℕ) (q : ℕ) (c d : Course) (over : Bool) → IsTrue (is_sound s) → (h : Underway s before now told here buffer q c) → Adds s h.rounds q told tells buffer after d over → AppendsFront now done after → WroteFront before done s
cut_short s before now done told here tells buffer after q c d true sound h adds front =
    let run : Run = record { rounds = h.rounds ++ adds.round ∷ []; rest = adds.rest } in
    (run, run_of s run (adds.ends refl).lawful, front_more before now done h.written after _ [] (text_of run) h.appended front refl (finished s before now told here tells buffer after q c d h adds ∙ sym (append-nil _)))
cut_short s before now done told here tells buffer after q c d false sound h adds front =
    let on = adds.runs refl in
    let g = rounds_begin s (h.rounds ++ adds.round ∷ []) (q + 1) d.tick on.old sound on.passes in
    (g.0, run_of s g.0 g.1, front_more before now done h.written after _ g.2 (text_of g.0) h.appended front (joined s before now told here tells buffer after q c d false h adds ∙ append-nil _) g.3)

-- the first line is in the buffer
pub started : (s : Script) (before : Option (List ℕ)) (told tells : Option (List Kept)) (buffer : List ℕ) (c : Course) → buffer ≡ head_text → Runs s [] 0 told tells c → Underway s before before told tells buffer 0 c
started s before told tells buffer c text runs = record {
  rounds = [];
  runs = runs;
  written = [];
  appended = appends_none before;
  text = text ∙ sym (append-nil head_text);
}

-- ---- the goals of the code

-- what holds in any case holds after an error
pub after_error : {T E : Type 0} (r : Result T E) (P : Type 0) → P → OnErr r P
after_error (Ok x) P p = tt
after_error (Err e) P p = p

-- a count that rose later rose
pub rose_later : (a b c : ℕ) → a ≤ b → Rose b c → Rose a c
rose_later a b c le (inl less) = inl (omega arith)
rose_later a b c le (inr top) = inr top

-- a round was added, and the run goes on
pub adds_round : (s : Script) (rounds : List Round) (q : ℕ) (told tells : Option (List Kept)) (before after : List ℕ) (d : Course) (a : AfterRound) → Advances s rounds q told tells (λ round. after ≡ before ++ round_text q round.tick round.entries) d a → a.over ≡ false → Adds s rounds q told tells before after d a.over
adds_round s rounds q told tells before after d a h on = record {
  round = h.round;
  rest = a.rest;
  text = h.noted ∙ ap (λ t. before ++ t) (sym (append-nil _) ∙ ap (λ (b : Bool). round_text q h.round.tick h.round.entries ++ (if b then end_text a.rest q else [])) (sym on));
  ends = h.ends;
  runs = h.runs;
}

-- a round was added, and the end line
pub adds_end : (s : Script) (rounds : List Round) (q : ℕ) (told tells : Option (List Kept)) (before here after : List ℕ) (d : Course) (a : AfterRound) → Advances s rounds q told tells (λ round. here ≡ before ++ round_text q round.tick round.entries) d a → a.over ≡ true → after ≡ here ++ end_text a.rest q → Adds s rounds q told tells before after d a.over
adds_end s rounds q told tells before here after d a h end all = record {
  round = h.round;
  rest = a.rest;
  text = all
      ∙ ap (λ t. t ++ end_text a.rest q) h.noted
      ∙ append_assoc before (round_text q h.round.tick h.round.entries) (end_text a.rest q)
      ∙ ap (λ (b : Bool). before ++ (round_text q h.round.tick h.round.entries ++ (if b then end_text a.rest q else []))) (sym end);
  ends = h.ends;
  runs = h.runs;
}
