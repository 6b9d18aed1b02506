-- The answers of the top call, from those of its parts.
use Rattle.std.proofs.Common.{◌≡◌, ℕ, List, take, sym, ap, ◌∙◌, subst, Option, Some, None, IfSome}
use Rattle.run_picture.specs.declared.requests.Request.{Request}
use Rattle.run_picture.specs.declared.status.Status.{Status}
use Rattle.run_picture.specs.Inputs.{input_of}
use Rattle.run_picture.specs.declared.status.Status.TheVariants.{Done, Usage, ReadFault, WriteFault, NoMemory, Refused}
use Rattle.run_picture.specs.Answers.{Answers, IsAmong, IsOfRequest, IsRunning}

-- what an answer says of the bytes that were read it says of those that the source had
pub answers_cut : (asked : Option Request) (request : Request) (source : Option (List ℕ)) (read seen : List ℕ) (before after : Option (List ℕ)) (status : Status) → asked ≡ Some request → IfSome source (λ all. read ≡ take 71303169 all) → seen ≡ read → Answers (Some request) (input_of seen) before after status → IfSome source (λ bytes. Answers asked (input_of (take 71303169 bytes)) before after status)
answers_cut asked request None read seen before after status is cut same h = tt
answers_cut asked request (Some all) read seen before after status is cut same h =
    subst (λ (o : Option Request). Answers o (input_of (take 71303169 all)) before after status) (sym is) (subst (λ (bytes : List ℕ). Answers (Some request) (input_of bytes) before after status) (same ∙ cut) h)

-- an answer once the input is read is one to words that ask for something
of_running : (s : Status) → IsRunning s → IsOfRequest s
of_running Done h = tt
of_running Usage h = absurd h
of_running ReadFault h = tt
of_running WriteFault h = tt
of_running NoMemory h = tt
of_running (Refused refusal) h = tt

-- an answer to words that ask for something is among theirs
pub among_asked : (asked : Option Request) (request : Request) (s : Status) → asked ≡ Some request → IsOfRequest s → IsAmong asked s
among_asked asked request s is h = subst (λ (o : Option Request). IsAmong o s) (sym is) h

pub among_running : (asked : Option Request) (request : Request) (s : Status) → asked ≡ Some request → IsRunning s → IsAmong asked s
among_running asked request s is h = among_asked asked request s is (of_running s h)

-- want of memory may come to all words
pub among_memory : (asked : Option Request) → IsAmong asked NoMemory
among_memory None = tt
among_memory (Some request) = tt

-- words that ask for nothing ask for no request
pub asks_something : {R : Type 0} (asked : Option Request) (request : Request) → asked ≡ Some request → asked ≡ None → R
asks_something asked request is none = let apart : Some request ≡ None = sym is ∙ none in cc
