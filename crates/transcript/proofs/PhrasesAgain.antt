-- A line of a run is read as it is written.
use Rattle.std.proofs.Common.{◌≡◌, ℕ, ◌^◌, ◌<◌, Bool, true, false, ◌==◌, List, [], ◌∷◌, ◌++◌, Option, Some, refl, ap, ◌∙◌, sym, arith, append-nil}
use Rattle.std.specs.List.{list_all, join_with_byte}
use Rattle.std.proofs.lemmas.List.Folds.{list_all-append}
use Rattle.std.proofs.lemmas.Bool.{and_from}
use Rattle.task_machine.specs.declared.task.Stand.TheVariants as stands
use Rattle.transcript.specs.Types.{Seen, Call, Reply, Line, Name, Said, Holds}
use Rattle.task_machine.specs.declared.task.Seen.TheVariants as seens
use Rattle.task_machine.specs.declared.calls.Call.TheVariants as calls
use Rattle.task_machine.specs.declared.calls.Reply.TheVariants as replies
use Rattle.text_lines.specs.Steps.{◌>>=◌, ◌or_else◌}
use Rattle.text_lines.specs.Pieces.{Word}
use Rattle.text_lines.specs.Names.{plain}
use Rattle.text_lines.specs.Numbers.{number}
use Rattle.text_lines.specs.Slots.{Value, of_small, of_number, of_index, number_at}
use Rattle.text_lines.specs.Shapes.{Fits, words, row_words}
use Rattle.text_lines.proofs.NumbersAgain.{number_again}
use Rattle.text_lines.proofs.FrontAgain.{front_again}
use Rattle.text_lines.proofs.Parts.{part_again, part_alone}
use Rattle.text_lines.proofs.Plain.{decimal_plain, row_plain, slots_plain, pieces_joined}
use Rattle.transcript.specs.declared.lines.Line.TheVariants as line
use Rattle.transcript.specs.declared.shape.Answer.TheVariants as answers
use Rattle.transcript.specs.declared.shape.Name.TheVariants as names
use Rattle.transcript.specs.Tables.{row, all_names, answer_of, mask_slots}
use Rattle.transcript.specs.HasText.{HasTextSeen, HasTextCall, HasTextLine, TellsTask, FitsReply, FitsCall}
use Rattle.transcript.specs.Spelling.{name_of, call_values, call_words, seen_name, seen_values, seen_words, fate_index, reply_words, caller_word, end_index, line_words}
use Rattle.transcript.specs.Grammar.{call_of, seen_of, line_of, at_end, alone, seen_in, reply_in, entry_of, entry_in, plain_in, said_by, said}
use Rattle.transcript.proofs.Rows.{row_found, row_sound, name_plain, row_slots_plain}

-- a call's values are those of its row, and make the call
call_same : (c : Call) → call_of (name_of c) (call_values c) ≡ Some c
call_same (calls.Wake i f) = refl
call_same c = refl

call_fits : (c : Call) (r : Reply) → FitsCall c → HasTextCall c r → Fits (row (name_of c)).slots (call_values c)
call_fits (calls.Wake i f) r fits has = (fits.0, ((has.0, fits.1), tt))
call_fits (calls.Post i b) r fits has = (fits.0, (fits.1, tt))
call_fits c r fits has = (fits, tt)

killed_again : (k : Bool) → (fate_index k == 1) ≡ k
killed_again true = refl
killed_again false = refl

fate_fits : (k : Bool) → fate_index k < 2
fate_fits true = omega arith
fate_fits false = omega arith

seen_same : (s : Seen) → seen_of (seen_name s) (seen_values s) ≡ Some s
seen_same seens.Gone = refl
seen_same (seens.Live stands.Rest p k n) = ap (λ b. Some (seens.Live stands.Rest p b n)) (killed_again k)
seen_same (seens.Live stands.Queued p k n) = ap (λ b. Some (seens.Live stands.Queued p b n)) (killed_again k)
seen_same (seens.Live stands.Runs p k n) = ap (λ b. Some (seens.Live stands.Runs p b n)) (killed_again k)

seen_fits : (s : Seen) → FitsReply (replies.Task s) → HasTextSeen s → Fits (row (seen_name s)).slots (seen_values s)
seen_fits seens.Gone fits has = tt
seen_fits (seens.Live stands.Rest p k n) fits has = (fits, (fate_fits k, (has, tt)))
seen_fits (seens.Live stands.Queued p k n) fits has = (fits, (fate_fits k, (has, tt)))
seen_fits (seens.Live stands.Runs p k n) fits has = (fits, (fate_fits k, (has, tt)))

-- a row that stands alone
alone_again : {A : Type 0} (make : Name → List Value → Option A) (k : Name) (vs : List Value) (x : A) → Fits (row k).slots vs → make k vs ≡ Some x → alone make (row_words (row k) vs) ≡ Some x
alone_again make k vs x fits e =
    ap (λ o. o >>= (λ p. make p.kind p.values >>= at_end p.rest)) (part_alone row all_names k vs (row_found k) (row_sound k) fits) ∙ ap (λ o. o >>= at_end []) e

seen_again : (s : Seen) → FitsReply (replies.Task s) → HasTextSeen s → seen_in (seen_words s) ≡ Some s
seen_again s fits has = alone_again seen_of (seen_name s) (seen_values s) s (seen_fits s fits has) (seen_same s)

task_again : (r : Reply) → TellsTask r → FitsReply r → reply_in answers.Seen (reply_words r) ≡ Some r
task_again (replies.Task s) has fits = ap (λ o. o >>= (λ s. Some (replies.Task s))) (seen_again s fits has)
task_again (replies.Group m) has fits = absurd has
task_again replies.Done has fits = absurd has

group_again : (m : ℕ) → m < 2 ^ 64 → reply_in answers.Group (words mask_slots (of_number m ∷ [])) ≡ Some (replies.Group m)
group_again m fits =
    let read = ap (λ o. o >>= (λ r. at_end r.1 (replies.Group (number_at r.0 0)))) (front_again mask_slots (of_number m ∷ []) [] refl (fits, tt)) in
    ap (reply_in answers.Group) (sym (append-nil (words mask_slots (of_number m ∷ [])))) ∙ read

reply_again : (c : Call) (r : Reply) → HasTextCall c r → FitsReply r → reply_in (answer_of (name_of c)) (reply_words r) ≡ Some r
reply_again (calls.Wake i f) r has fits = task_again r has.1 fits
reply_again (calls.Kill i) r has fits = task_again r has fits
reply_again (calls.Take i) r has fits = task_again r has fits
reply_again (calls.DropRun i) r has fits = task_again r has fits
reply_again (calls.Retire i) r has fits = task_again r has fits
reply_again (calls.Get g) (replies.Group m) has fits = group_again m fits
reply_again (calls.Post i b) replies.Done has fits = refl
reply_again (calls.Draw i) replies.Done has fits = refl
reply_again c r has fits = absurd (assumption has)

-- an entry, by its caller's number, its call and its answer
abbrev entry_read : ℕ → Call → Reply → Said
entry_read k c r = Holds (line.Entry (record { caller = record { 0 = k }; call = c; reply = r }))

entry_again : (k : ℕ) (c : Call) (r : Reply) → k < 2 ^ 32 → FitsCall c → FitsReply r → HasTextCall c r → entry_in (caller_word k ∷ (call_words c ++ reply_words r)) ≡ Some (entry_read k c r)
entry_again k c r below fits rfits has =
    ap (λ o. o >>= (λ k. entry_of k (call_words c ++ reply_words r))) (number_again 4294967295 k (omega arith) (omega arith))
    ∙ ap (λ o. o >>= (λ p. call_of p.kind p.values >>= (λ c. reply_in (answer_of p.kind) p.rest >>= (λ r. Some (entry_read k c r))))) (part_again row all_names (name_of c) (call_values c) (reply_words r) (row_found _) (row_sound _) (call_fits c r fits has))
    ∙ ap (λ o. o >>= (λ c_2. reply_in (answer_of (name_of c)) (reply_words r) >>= (λ r. Some (entry_read k c_2 r)))) (call_same c)
    ∙ ap (λ o. o >>= (λ r. Some (entry_read k c r))) (reply_again c r has rfits)

rest_again : (r : Bool) → (end_index r == 0) ≡ r
rest_again true = refl
rest_again false = refl

end_fits : (r : Bool) → end_index r < 2
end_fits true = omega arith
end_fits false = omega arith

-- what is read of the words of a line
words_again : (l : Line) → HasTextLine l → said_by (line_words l) ≡ Some (Holds l)
words_again (line.Round number tick) has = alone_again line_of names.Round (of_small number ∷ of_small tick ∷ []) _ (has.0, (tt, (has.1, tt))) refl
words_again (line.Entry e) has =
    ap (λ o. o or_else plain_in (line_words (line.Entry e))) (entry_again e.caller.0 e.call e.reply has.0.0 has.0.1 has.0.2 has.1)
words_again (line.End rest last) has =
    alone_again line_of names.End (of_index (end_index rest) ∷ of_small last ∷ []) _ (end_fits rest, (has, tt)) (ap (λ r. Some (Holds (line.End r last))) (rest_again rest))

-- the words of a line are plain
reply_plain : (c : Call) (r : Reply) → HasTextCall c r → FitsReply r → list_all plain (reply_words r) ≡ true
reply_plain c (replies.Task seens.Gone) has fits = row_plain (row names.Gone) [] refl refl tt
reply_plain c (replies.Task (seens.Live s p k n)) has fits = told c has where
  here : HasTextSeen (seens.Live s p k n) → list_all plain (seen_words (seens.Live s p k n)) ≡ true
  here small = row_plain (row (seen_name (seens.Live s p k n))) (seen_values (seens.Live s p k n)) (name_plain _) (row_slots_plain _) (seen_fits (seens.Live s p k n) fits small)

  told : (c : Call) → HasTextCall c (replies.Task (seens.Live s p k n)) → list_all plain (seen_words (seens.Live s p k n)) ≡ true
  told (calls.Wake i f) has = here has.1
  told (calls.Kill i) has = here has
  told (calls.Take i) has = here has
  told (calls.DropRun i) has = here has
  told (calls.Retire i) has = here has
  told c has = absurd (assumption has)
reply_plain c (replies.Group m) has fits = slots_plain mask_slots (of_number m ∷ []) refl (fits, tt)
reply_plain c replies.Done has fits = refl

entry_plain : (c : Call) (r : Reply) → FitsCall c → FitsReply r → HasTextCall c r → list_all plain (call_words c ++ reply_words r) ≡ true
entry_plain c r fits rfits has =
    list_all-append plain (call_words c) (reply_words r) ∙ and_from _ _ (row_plain (row (name_of c)) (call_values c) (name_plain _) (row_slots_plain _) (call_fits c r fits has)) (reply_plain c r has rfits)

-- the first word of a line, and those behind it
pub first_word : Line → Word
first_word (line.Round number tick) = (row names.Round).name
first_word (line.Entry e) = caller_word e.caller.0
first_word (line.End rest last) = (row names.End).name

pub more_words : Line → List Word
more_words (line.Round number tick) = words (row names.Round).slots (of_small number ∷ of_small tick ∷ [])
more_words (line.Entry e) = call_words e.call ++ reply_words e.reply
more_words (line.End rest last) = words (row names.End).slots (of_index (end_index rest) ∷ of_small last ∷ [])

pub words_are : (l : Line) → line_words l ≡ first_word l ∷ more_words l
unfolding first_word more_words
words_are (line.Round number tick) = refl
words_are (line.Entry e) = refl
words_are (line.End rest last) = refl

pub first_plain : (l : Line) → HasTextLine l → plain (first_word l) ≡ true
unfolding first_word
first_plain (line.Round number tick) has = refl
first_plain (line.Entry e) has = decimal_plain e.caller.0 (omega (arith, has.0.0))
first_plain (line.End rest last) has = refl

pub more_plain : (l : Line) → HasTextLine l → list_all plain (more_words l) ≡ true
unfolding more_words
more_plain (line.Round number tick) has = slots_plain (row names.Round).slots _ (row_slots_plain names.Round) (has.0, (tt, (has.1, tt)))
more_plain (line.Entry e) has = entry_plain e.call e.reply has.0.1 has.0.2 has.1
more_plain (line.End rest last) has = slots_plain (row names.End).slots _ (row_slots_plain names.End) (end_fits rest, (has, tt))

-- a line of a run is read as it is written
pub line_again : (l : Line) → HasTextLine l → said (join_with_byte 32 (first_word l ∷ more_words l)) ≡ Some (Holds l)
unfolding said
line_again l has =
    ap said_by (pieces_joined (first_word l) (more_words l) (first_plain l has) (more_plain l has) ∙ sym (words_are l)) ∙ words_again l has
