-- What each answer says (docs/PICTURES.md, "Answers").
use Rattle.std.specs.Prelude.{◌≡◌, ℕ, false, List, Option, Some, None, Result, Ok, Err, Vec}
use Rattle.std.specs.declared.alloc.Global.{Global}
use Rattle.sched_base.specs.Streams.{Appends, AppendsFront}
use Rattle.run_picture.specs.declared.requests.Request.{Request}
use Rattle.run_picture.specs.declared.inputs.Refusal.{Refusal}
use Rattle.run_picture.specs.declared.inputs.InputError.{InputError}
use Rattle.run_picture.specs.declared.inputs.InputError.TheVariants as errors
use Rattle.run_picture.specs.declared.status.Status.{Status}
use Rattle.run_picture.specs.declared.status.Status.TheVariants.{Done, Usage, ReadFault, WriteFault, NoMemory, Refused}
use Rattle.run_picture.specs.Bars.{bars_of}
use Rattle.run_picture.specs.Drawing.{Draws}
use Rattle.run_picture.specs.Inputs.{Told}

-- a text that shows what the input tells as it was asked for: where not as text, it draws the bars of the lines
abbrev pub IsPicture : Request → Told → List ℕ → Type 0
IsPicture request told text = request.is_text ≡ false → Draws (bars_of request.rounds told.lines) text

-- there is a request and an input, and a picture of both, of which this is said
abbrev pub Shows : Option Request → Result Told Refusal → (List ℕ → Type 0) → Type 0
Shows asked told P = (request : Request) × (input : Told) × (text : List ℕ) × (asked ≡ Some request) × (told ≡ Ok input) × IsPicture request input text × P text

-- something is asked for
abbrev pub IsAsked : Option Request → Type 0
IsAsked None = ⊥
IsAsked (Some request) = Unit {0}

-- what an answer says of the words, of the input, and of what the sink held before and holds after
abbrev pub Answers : Option Request → Result Told Refusal → Option (List ℕ) → Option (List ℕ) → Status → Type 0
Answers asked told before after Done = Shows asked told (λ text. Appends before after text)
Answers asked told before after Usage = (asked ≡ None) × (after ≡ before)
Answers asked told before after ReadFault = after ≡ before
Answers asked told before after WriteFault = Shows asked told (λ text. AppendsFront before after text)
Answers asked told before after NoMemory = after ≡ before
Answers asked told before after (Refused refusal) = IsAsked asked × (told ≡ Err refusal) × (after ≡ before)

-- an answer that comes once the input is read
abbrev pub IsRunning : Status → Type 0
IsRunning Done = Unit {0}
IsRunning Usage = ⊥
IsRunning ReadFault = ⊥
IsRunning WriteFault = Unit {0}
IsRunning NoMemory = Unit {0}
IsRunning (Refused refusal) = Unit {0}

-- a picture of what was told, or why there is none
abbrev pub GivesPicture : Request → Result Told Refusal → Result (Vec ℕ Global) InputError → Type 0
GivesPicture request told (Ok text) = (input : Told) × (told ≡ Ok input) × IsPicture request input text.items
GivesPicture request told (Err (errors.Refused refusal)) = told ≡ Err refusal
GivesPicture request told (Err errors.Memory) = Unit {0}

-- an answer after which nothing was written
abbrev pub IsUnwritten : Status → Type 0
IsUnwritten Done = ⊥
IsUnwritten Usage = Unit {0}
IsUnwritten ReadFault = Unit {0}
IsUnwritten WriteFault = ⊥
IsUnwritten NoMemory = Unit {0}
IsUnwritten (Refused refusal) = Unit {0}

-- usage, or want of memory
abbrev pub IsUsage : Status → Type 0
IsUsage Done = ⊥
IsUsage Usage = Unit {0}
IsUsage ReadFault = ⊥
IsUsage WriteFault = ⊥
IsUsage NoMemory = Unit {0}
IsUsage (Refused refusal) = ⊥

-- an answer to words that ask for something
abbrev pub IsOfRequest : Status → Type 0
IsOfRequest Done = Unit {0}
IsOfRequest Usage = ⊥
IsOfRequest ReadFault = Unit {0}
IsOfRequest WriteFault = Unit {0}
IsOfRequest NoMemory = Unit {0}
IsOfRequest (Refused refusal) = Unit {0}

-- the answers that words may have; Usage comes exactly where they ask for nothing
abbrev pub IsAmong : Option Request → Status → Type 0
IsAmong None status = IsUsage status
IsAmong (Some request) status = IsOfRequest status
