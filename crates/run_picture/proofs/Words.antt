-- What the words ask for, by what was found of them.
use Rattle.std.proofs.Common.{◌≡◌, ◌≢◌, ◌⊎◌, inl, inr, List, [], ◌∷◌, true, refl, sym, ap, ◌∙◌, subst, codes, Option, Some, None, Result, Ok, Err}
use Rattle.clap.specs.Words.{App, HasKind, IsAmong, Kinds, Row, Text, fault_of, is_simple, is_simple_and_free, kind_of, matches_of}
use Rattle.clap.specs.declared.error.Error.{Error}
use Rattle.clap.specs.declared.error.kind.ErrorKind.{ErrorKind}
use Rattle.clap.specs.declared.error.kind.ErrorKind.TheVariants.{OutOfMemory}
use Rattle.clap.proofs.OnLiterals.{clap_on_literals}
use Rattle.run_picture.specs.declared.requests.Request.{Request}
use Rattle.run_picture.specs.declared.requests.WordsError.{WordsError}
use Rattle.run_picture.specs.declared.requests.WordsError.TheVariants.{Usage, Memory}
use Rattle.run_picture.specs.Requests.{command, request_of, asked_by, asked_unless, Asks}

pub command_simple : is_simple command ≡ true
unfolding command clap_on_literals
command_simple = refl

pub command_free : is_simple_and_free command ≡ true
unfolding command clap_on_literals
command_free = refl

pub asked_fine : (r : Result Request WordsError) (words : List Text) (rows : List Row) → rows ≡ matches_of command words → fault_of command words ≡ [] → Asks r (asked_by rows) → Asks r (request_of words)
unfolding request_of
asked_fine r words rows same none h =
    subst (Asks r) (ap asked_by same ∙ sym (ap (λ kinds. asked_unless kinds (asked_by (matches_of command words))) none)) h

among_none : (kind : ErrorKind) (kinds : Kinds) (o : Option Request) → IsAmong kind kinds → asked_unless kinds o ≡ None
among_none kind [] o h = absurd h
among_none kind (k ∷ ks) o h = refl

refused_none : (words : List Text) (e : Error) → kind_of e ≢ OutOfMemory → HasKind (fault_of command words) e → request_of words ≡ None
unfolding request_of
refused_none words e never (inl memory) = absurd (never memory)
refused_none words e never (inr among) = among_none (kind_of e) (fault_of command words) (asked_by (matches_of command words)) among

pub asked_refused : (w : WordsError) (words : List Text) (e : Error) → (w ≡ Usage → kind_of e ≢ OutOfMemory) → HasKind (fault_of command words) e → Asks (Err w) (request_of words)
asked_refused Usage words e never h = refused_none words e (never refl) h
asked_refused Memory words e never h = tt
