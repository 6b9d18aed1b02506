-- Readers that decide whether entries are put together from parts (docs/MODEL.md, "A test for lawful runs").
use Rattle.std.specs.Prelude.{◌==◌, ◌&&◌, Bool, true, false, List, [], ◌∷◌, Option, None, Some, option_and_then}
use Rattle.sched_base.specs.declared.names.CallerId.{CallerId}
use Rattle.task_machine.specs.declared.calls.Call.{Call}
use Rattle.task_machine.specs.declared.calls.Call.TheVariants.{Wake, Kill, Post, Get, Draw, Take, DropRun, Retire}
use Rattle.task_machine.specs.declared.calls.Reply.{Reply}
use Rattle.task_machine.specs.declared.calls.Entry.{Entry}

-- what a reader gives: the book after the part that it read, and the entries that are left
pub record Got (B : Type 0) : Type 0 where
  pub new : B
  pub rest : List Entry

-- a reader of a part: nothing where the entries do not begin with it
abbrev pub Reader : Type 0 → Type 0
Reader B = B → List Entry → Option (Got B)

-- it reads no entry, and changes the book
abbrev pub quietly : {B : Type 0} → (B → B) → Reader B
quietly f b es = Some (record { new = f b; rest = es })

-- it changes nothing
abbrev pub nothing : {B : Type 0} → Reader B
nothing = quietly (λ b. b)

-- the one reader and then the other
abbrev pub in_turn : {B : Type 0} → Reader B → Reader B → Reader B
in_turn r q b es = option_and_then (λ g. q g.new g.rest) (r b es)

-- whether two calls are the same
abbrev pub same_call : Call → Call → Bool
same_call (Wake i f) (Wake j g) = i.0 == j.0 && f == g
same_call (Kill i) (Kill j) = i.0 == j.0
same_call (Post i b) (Post j c) = i.0 == j.0 && b == c
same_call (Get g) (Get h) = g == h
same_call (Draw i) (Draw j) = i.0 == j.0
same_call (Take i) (Take j) = i.0 == j.0
same_call (DropRun i) (DropRun j) = i.0 == j.0
same_call (Retire i) (Retire j) = i.0 == j.0
same_call c d = false

-- the reader that a reply asks for, after an entry that is the expected one
abbrev pub if_asked : {B : Type 0} → Bool → (Reply → Reader B) → Reply → Reader B
if_asked true r reply b es = r reply b es
if_asked false r reply b es = None

-- an entry of caller k with this call, and then the reader that its reply asks for
abbrev pub asking : {B : Type 0} → CallerId → Call → (Reply → Reader B) → Reader B
asking k call r b [] = None
asking k call r b (e ∷ es) = if_asked (k.0 == e.caller.0 && same_call call e.call) r e.reply b es

-- an entry of caller k with this call, and the change that its reply makes
abbrev pub making : {B : Type 0} → CallerId → Call → (Reply → B → B) → Reader B
making k call f = asking k call (λ reply. quietly (f reply))

-- the one reader or the other
abbrev pub either : {B : Type 0} → Bool → Reader B → Reader B → Reader B
either true r q = r
either false r q = q

-- a reader that depends on the book at its start
abbrev pub from_book : {B : Type 0} → (B → Reader B) → Reader B
from_book r b es = r b b es

-- one reader for each item of a list
abbrev pub one_each : {A B : Type 0} → (A → Reader B) → List A → Reader B
one_each r [] = nothing
one_each r (x ∷ xs) = in_turn (r x) (one_each r xs)
