-- What each command's answers say.
use Rattle.std.proofs.Common.{◌≡◌, ℕ, List, Option, Some, None, refl, sym, inl}
use Rattle.command_line.specs.declared.command.Command.{Command}
use Rattle.command_line.specs.declared.command.Command.TheVariants.{Run, Replay, Gen}
use Rattle.taskrun.specs.declared.status.Status.TheVariants.{NoMemory}
use Rattle.text_lines.specs.Pieces.{Word}
use Rattle.command_line.specs.Commands.{command_of}
use Rattle.command_line.proofs.Sizes.{sizes_in_range}
use Rattle.thread_loop.specs.declared.crew.Kept.{Kept}
use Rattle.taskrun.specs.Answers.{AnswersTo, ExpectedOf, HasSize}

run_began : (source before : Option (List ℕ)) (told tells : Option (List Kept)) → AnswersTo (Some Run) source before before told tells NoMemory
run_began None before told tells = tt
run_began (Some bytes) before told tells = inl refl

replay_began : (source before : Option (List ℕ)) → AnswersTo (Some Replay) source before before None None NoMemory
replay_began None before = tt
replay_began (Some bytes) before = refl

-- want of memory before anything was done
pub memory_answers : (command : Option Command) (source before : Option (List ℕ)) (told tells : Option (List Kept)) → AnswersTo command source before before told tells NoMemory
memory_answers None source before told tells = refl
memory_answers (Some Run) source before told tells = run_began source before told tells
memory_answers (Some Replay) source before told tells = replay_began source before
memory_answers (Some (Gen seed size)) source before told tells = inl refl

run_none : (source : Option (List ℕ)) → ExpectedOf (Some Run) source NoMemory
run_none None = tt
run_none (Some bytes) = tt

replay_none : (source : Option (List ℕ)) → ExpectedOf (Some Replay) source NoMemory
replay_none None = tt
replay_none (Some bytes) = tt

pub memory_expected : (command : Option Command) (source : Option (List ℕ)) → ExpectedOf command source NoMemory
memory_expected None source = tt
memory_expected (Some Run) source = run_none source
memory_expected (Some Replay) source = replay_none source
memory_expected (Some (Gen seed size)) source = tt

-- a script that is to be generated has a size in range
pub has_size : (command : Option Command) (words : List Word) → command ≡ command_of words → HasSize command
has_size None words e = tt
has_size (Some Run) words e = tt
has_size (Some Replay) words e = tt
has_size (Some (Gen seed size)) words e = sizes_in_range words seed size (sym e)
