-- The words of the command line are the arguments behind the first.
use Rattle.std.proofs.Common.{◌≡◌, List, IfOk, Result, Ok, Err, Option, ap, ◌∙◌, map, drop, subst}
use Rattle.std.specs.Vec.Iter.{into_iter_items}
use Rattle.std.specs.Prelude.{String}
use Rattle.std.specs.String.{string_bytes}
use Rattle.std.specs.declared.alloc.Global.{Global}
use Rattle.sched_base.specs.Streams.{Rose}
use Rattle.command_line.specs.declared.command.Command.{Command}
use Rattle.command_line.specs.Commands.{command_of}
use Rattle.taskrun.specs.Answers.{AnswersTo, ExpectedOf, IsAmong}
use Rattle.taskrun.specs.Arguments.{command_among}
use Rattle.taskrun.proofs.arguments.answer.Goals as goal

-- what is said of the command in the words that were seen, said of the one among the arguments
of_arguments : {A E : Type 0} (P : Option Command → Type 0) (args : Result A E) (items : A → List (String Global)) (words seen : List (String Global)) → IfOk args (λ all. words ≡ drop 1 (items all)) → seen ≡ words → P (command_of (map (λ word. string_bytes word) seen)) → IfOk args (λ all. P (command_among (items all)))
of_arguments P (Ok all) items words seen behind same p = subst P (ap (λ ws. command_of (map (λ word. string_bytes word) ws)) (same ∙ behind)) p
of_arguments P (Err e) items words seen behind same p = tt

-- what holds of each command holds of the one among the arguments
of_each : {A E : Type 0} (P : Option Command → Type 0) (args : Result A E) (items : A → List (String Global)) → ((c : Option Command) → P c) → IfOk args (λ all. P (command_among (items all)))
of_each P (Ok all) items each = each (command_among (items all))
of_each P (Err e) items each = tt

pub returns-in-Ok-clause-answers : goal.returns-in-Ok-clause-answers
returns-in-Ok-clause-answers g c =
    of_arguments (λ k. AnswersTo k (g.S.Source.left c.args.src.now) (g.O.Sink.held c.args.out.now) (g.O.Sink.held c.taskrun.new.out) (g.C.Crew.told c.args.crew.now) (g.C.Crew.told c.taskrun.new.crew) c.taskrun.result) c.args.args into_iter_items c.in-Ok.words.items c.deref.result.now c.in-Ok.ensures.words c.deref.ensures.value c.taskrun.ensures.answers

pub returns-in-Ok-clause-among : goal.returns-in-Ok-clause-among
returns-in-Ok-clause-among g c =
    of_arguments (λ k. IsAmong k c.taskrun.result) c.args.args into_iter_items c.in-Ok.words.items c.deref.result.now c.in-Ok.ensures.words c.deref.ensures.value c.taskrun.ensures.among

pub returns-in-Ok-clause-complete : goal.returns-in-Ok-clause-complete
returns-in-Ok-clause-complete g c =
    of_arguments (λ k. (Rose (g.S.Source.faults c.args.src.now) (g.S.Source.faults c.taskrun.new.src) → ⊥) → (Rose (g.O.Sink.faults c.args.out.now) (g.O.Sink.faults c.taskrun.new.out) → ⊥) → ExpectedOf k (g.S.Source.left c.args.src.now) c.taskrun.result) c.args.args into_iter_items c.in-Ok.words.items c.deref.result.now c.in-Ok.ensures.words c.deref.ensures.value c.taskrun.ensures.complete
