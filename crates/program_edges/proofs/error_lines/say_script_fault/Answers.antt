-- What is said is the line of the fault.
use Rattle.std.proofs.Common.{◌≡◌, ◌++◌, codes, decimal, ap, ◌∙◌, subst}
use Rattle.sched_base.specs.Streams.{Appends, AppendsFront}
use Rattle.program_edges.specs.ErrorLines.{script_fault_line}
use Rattle.program_edges.proofs.error_lines.say_script_fault.Goals as goal

pub returns-clause-whole : goal.returns-clause-whole
unfolding script_fault_line
returns-clause-whole g c = λ calm.
    subst (Appends (g.E.Sink.held c.args.err.now) (g.E.Sink.held c.say.new.err)) (c.as_str.ensures.value ∙ c.fault_line.ensures ∙ ap (λ n. codes "script: line " ++ (decimal c.args.line ++ (codes ": " ++ (n ++ codes "\n")))) c.script_fault_name-name.ensures.name) (c.say.ensures.whole calm)

pub returns-clause-front : goal.returns-clause-front
unfolding script_fault_line
returns-clause-front g c =
    subst (AppendsFront (g.E.Sink.held c.args.err.now) (g.E.Sink.held c.say.new.err)) (c.as_str.ensures.value ∙ c.fault_line.ensures ∙ ap (λ n. codes "script: line " ++ (decimal c.args.line ++ (codes ": " ++ (n ++ codes "\n")))) c.script_fault_name-name.ensures.name) c.say.ensures.front
