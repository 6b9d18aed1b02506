-- What the words of the command line ask for (docs/PICTURES.md, "The words").
use Rattle.std.specs.Prelude.{◌≡◌, ℕ, ◌+◌, Bool, true, false, if◌then◌else◌, nat_le, min, List, [], ◌∷◌, codes, bytes_eq, Option, Some, None, Result, Ok, Err}
use Rattle.text_lines.specs.Numbers.{number}
use Rattle.clap.specs.Words.{App, Row, Rule, Shape, Text, fault_of, first_of, matches_of, new_app, new_rule, with_rule}
use Rattle.clap.specs.Simple.{on_top}
use Rattle.clap.specs.Kinds.{Kinds}
use Rattle.clap.specs.declared.builder.action.ArgAction.{ArgAction}
use Rattle.clap.specs.declared.builder.action.ArgAction.TheVariants.{Set, SetTrue}
use Rattle.run_picture.specs.declared.bars.Rounds.{Rounds}
use Rattle.run_picture.specs.declared.requests.Request.{Request}
use Rattle.run_picture.specs.declared.requests.WordsError.{WordsError}
use Rattle.run_picture.specs.declared.requests.WordsError.TheVariants.{Usage, Memory}

-- an argument `--NAME`
abbrev pub long_rule : Text → ArgAction → Rule
long_rule name action = record (new_rule name) { long = Some name; action = Some action }

-- the arguments: `--from R`, `--to R` and `--text`, each at most once
unfoldable pub command : App
command =
    let plain = on_top (λ s. record s { no_binary_name = true; disable_help_flag = true }) (new_app (codes "taskpicture")) in
    with_rule (with_rule (with_rule plain (long_rule (codes "from") Set)) (long_rule (codes "to") Set)) (long_rule (codes "text") SetTrue)

-- the number of a round
abbrev pub bound_of : ℕ → Option Text → Option ℕ
bound_of otherwise None = Some otherwise
bound_of otherwise (Some word) = number 4294967295 word

-- the rounds from one to another, and at most 2,000 of them
abbrev pub rounds_of : ℕ → ℕ → Rounds
rounds_of first last = record { first = first; last = min last (min (first + 1999) 4294967295) }

-- whether the word is there that stands for a flag
abbrev pub is_set : Option Text → Bool
is_set None = false
is_set (Some word) = bytes_eq word (codes "true")

-- what is asked for by the bounds
abbrev pub asked_from : Option ℕ → Option ℕ → Bool → Option Request
asked_from (Some first) (Some last) is_text = if nat_le first last then Some (record { rounds = rounds_of first last; is_text = is_text }) else None
asked_from None last is_text = None
asked_from (Some first) None is_text = None

abbrev pub asked_by : List Row → Option Request
asked_by rows = asked_from (bound_of 0 (first_of (codes "from") rows)) (bound_of 4294967295 (first_of (codes "to") rows)) (is_set (first_of (codes "text") rows))

-- no fault, and what then stands
abbrev pub asked_unless : Kinds → Option Request → Option Request
asked_unless [] request = request
asked_unless (kind ∷ kinds) request = None

-- what the words behind the program's name ask for, where they are a command
unfoldable pub request_of : List Text → Option Request
request_of words = asked_unless (fault_of command words) (asked_by (matches_of command words))

-- an answer that may want memory
abbrev pub Asks : Result Request WordsError → Option Request → Type 0
Asks (Ok request) asked = asked ≡ Some request
Asks (Err Usage) asked = asked ≡ None
Asks (Err Memory) asked = Unit {0}
