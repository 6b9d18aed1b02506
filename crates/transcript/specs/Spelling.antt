-- The words of each line, and the text that they make: docs/TRANSCRIPT.md, "Words".
use Rattle.std.specs.Prelude.{ℕ, Bool, true, false, List, [], ◌∷◌, ◌++◌, decimal}
use Rattle.std.specs.List.{flat_map}
use Rattle.transcript.specs.Types.{Stand, Seen, Call, Reply, Entry, Line, Name}
use Rattle.task_machine.specs.declared.task.Stand.TheVariants as stands
use Rattle.task_machine.specs.declared.task.Seen.TheVariants as seens
use Rattle.task_machine.specs.declared.calls.Call.TheVariants as calls
use Rattle.task_machine.specs.declared.calls.Reply.TheVariants as replies
use Rattle.text_lines.specs.Pieces.{Word}
use Rattle.text_lines.specs.Added.{spelled}
use Rattle.text_lines.specs.Slots.{Value, of_small, of_number, of_reasons, of_index}
use Rattle.text_lines.specs.Shapes.{words, row_words}
use Rattle.transcript.specs.declared.lines.Line.TheVariants as line
use Rattle.transcript.specs.declared.shape.Name.TheVariants as names
use Rattle.transcript.specs.Tables.{row, mask_slots}

-- the name of a call
abbrev pub name_of : Call → Name
name_of (calls.Wake i f) = names.Wake
name_of (calls.Kill i) = names.Kill
name_of (calls.Post i box) = names.Post
name_of (calls.Get group) = names.Get
name_of (calls.Draw i) = names.Draw
name_of (calls.Take i) = names.Take
name_of (calls.DropRun i) = names.DropRun
name_of (calls.Retire i) = names.Retire

-- the values of a call
abbrev pub call_values : Call → List Value
call_values (calls.Wake i f) = of_small i.0 ∷ of_reasons f ∷ []
call_values (calls.Kill i) = of_small i.0 ∷ []
call_values (calls.Post i box) = of_small i.0 ∷ of_small box ∷ []
call_values (calls.Get group) = of_small group ∷ []
call_values (calls.Draw i) = of_small i.0 ∷ []
call_values (calls.Take i) = of_small i.0 ∷ []
call_values (calls.DropRun i) = of_small i.0 ∷ []
call_values (calls.Retire i) = of_small i.0 ∷ []

-- a call
abbrev pub call_words : Call → List Word
call_words c = row_words (row (name_of c)) (call_values c)

-- where a task stands
abbrev pub stand_name : Stand → Name
stand_name stands.Rest = names.Rest
stand_name stands.Queued = names.Queued
stand_name stands.Runs = names.Runs

abbrev pub seen_name : Seen → Name
seen_name seens.Gone = names.Gone
seen_name (seens.Live s pending killed takes) = stand_name s

-- the place of the word for whether a task was killed
abbrev pub fate_index : Bool → ℕ
fate_index false = 0
fate_index true = 1

-- what a call saw of its task
abbrev pub seen_values : Seen → List Value
seen_values seens.Gone = []
seen_values (seens.Live s pending killed takes) = of_reasons pending ∷ of_index (fate_index killed) ∷ of_number takes ∷ []

abbrev pub seen_words : Seen → List Word
seen_words s = row_words (row (seen_name s)) (seen_values s)

-- the answer to a call
abbrev pub reply_words : Reply → List Word
reply_words (replies.Task s) = seen_words s
reply_words (replies.Group mask) = words mask_slots (of_number mask ∷ [])
reply_words replies.Done = []

-- the first word of an entry: the letter c and the caller's number
abbrev pub caller_word : ℕ → Word
caller_word k = 99 ∷ decimal k

-- an entry: the caller, the call, and the answer
abbrev pub entry_words : Entry → List Word
entry_words e = caller_word e.caller.0 ∷ (call_words e.call ++ reply_words e.reply)

-- the place of the word for how a run ended
abbrev pub end_index : Bool → ℕ
end_index true = 0
end_index false = 1

-- the words of a line
abbrev pub line_words : Line → List Word
line_words (line.Round number tick) = row_words (row names.Round) (of_small number ∷ of_small tick ∷ [])
line_words (line.Entry e) = entry_words e
line_words (line.End rest last) = row_words (row names.End) (of_index (end_index rest) ∷ of_small last ∷ [])

-- the words of the first line: the name and the version
abbrev pub first_words : List Word
first_words = row_words (row names.First) []

-- a line as text
abbrev pub line_text : Line → List ℕ
line_text l = spelled (line_words l)

-- the first line
unfoldable pub head_text : List ℕ
head_text = spelled first_words

-- a text of these lines behind the first one
unfoldable pub lines_text : List Line → List ℕ
lines_text ls = head_text ++ flat_map line_text ls

-- an entry as text
abbrev pub entry_text : Entry → List ℕ
entry_text e = spelled (entry_words e)

-- the entries of a round, a line each
unfoldable pub entries_text : List Entry → List ℕ
entries_text entries = flat_map entry_text entries

-- a round: its own line, and its entries
unfoldable pub round_text : ℕ → ℕ → List Entry → List ℕ
round_text number tick entries = line_text (line.Round number tick) ++ entries_text entries

-- the end line
unfoldable pub end_text : Bool → ℕ → List ℕ
end_text rest last = line_text (line.End rest last)
