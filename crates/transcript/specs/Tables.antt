-- The table of a transcript's lines: docs/TRANSCRIPT.md, "Words".
use Rattle.std.specs.Prelude.{List, [], ◌∷◌, ◌++◌, codes}
use Rattle.text_lines.specs.Slots.{Slot, Row, word, small, large, mask, reasons, pending, choice}
use Rattle.transcript.specs.Types.{Name}
use Rattle.transcript.specs.declared.shape.Name.TheVariants as names
use Rattle.transcript.specs.declared.shape.Answer.{Answer}
use Rattle.transcript.specs.declared.shape.Answer.TheVariants.{Seen, Group, Nothing}

-- behind where a live task stands: its pending reasons, whether it was killed, its takes
abbrev pub live : List Slot
live = pending ∷ choice (codes "live" ∷ codes "killed" ∷ []) ∷ large ∷ []

-- a row's name, and the slots behind it: of the calls, of what they saw of their task, and of the lines that are no entries
abbrev pub row : Name → Row
row names.Wake = record { name = codes "wake"; slots = small ∷ reasons ∷ [] }
row names.Kill = record { name = codes "kill"; slots = small ∷ [] }
row names.Post = record { name = codes "post"; slots = small ∷ small ∷ [] }
row names.Get = record { name = codes "get"; slots = small ∷ [] }
row names.Draw = record { name = codes "draw"; slots = small ∷ [] }
row names.Take = record { name = codes "take"; slots = small ∷ [] }
row names.DropRun = record { name = codes "drop"; slots = small ∷ [] }
row names.Retire = record { name = codes "retire"; slots = small ∷ [] }
row names.Gone = record { name = codes "gone"; slots = [] }
row names.Rest = record { name = codes "rest"; slots = live }
row names.Queued = record { name = codes "queued"; slots = live }
row names.Runs = record { name = codes "runs"; slots = live }
row names.First = record { name = codes "taskrun"; slots = word (codes "1") ∷ [] }
row names.Round = record { name = codes "round"; slots = small ∷ word (codes "tick") ∷ small ∷ [] }
row names.End = record { name = codes "end"; slots = choice (codes "rest" ∷ codes "limit" ∷ []) ∷ small ∷ [] }

-- the rows of calls, the others, and all
abbrev pub calls : List Name
calls = names.Wake ∷ names.Kill ∷ names.Post ∷ names.Get ∷ names.Draw ∷ names.Take ∷ names.DropRun ∷ names.Retire ∷ []

abbrev pub others : List Name
others = names.Gone ∷ names.Rest ∷ names.Queued ∷ names.Runs ∷ names.First ∷ names.Round ∷ names.End ∷ []

abbrev pub all_names : List Name
all_names = calls ++ others

-- what an entry tells behind its call
abbrev pub answer_of : Name → Answer
answer_of names.Post = Nothing
answer_of names.Get = Group
answer_of names.Draw = Nothing
answer_of k = Seen

-- the tasks that a get took
abbrev pub mask_slots : List Slot
mask_slots = mask ∷ []
