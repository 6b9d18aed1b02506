-- The line of each answer is told whole where no write failed.
use Rattle.std.proofs.Common.{◌≡◌, ℕ, List, ◌++◌, Option, codes, decimal, sym, ap, ◌∙◌, subst}
use Rattle.sched_base.specs.Streams.{Appends}
use Rattle.taskrun.specs.declared.status.Status.TheVariants.{Usage, ReadFault, WriteFault, NoMemory}
use Rattle.taskrun.specs.ErrorLines.{error_line}
use Rattle.taskrun.proofs.error_lines.tell.Goals as goal

as_line : {R : Type 0} (a b : Option (List ℕ)) (x y : List ℕ) → x ≡ y → (R → Appends a b x) → R → Appends a b y
as_line a b x y e told calm = subst (λ t. Appends a b t) e (told calm)

pub returns-in-ScriptRefused-clause-whole : goal.returns-in-ScriptRefused-clause-whole
unfolding error_line
returns-in-ScriptRefused-clause-whole g c =
    as_line (g.E.Sink.held c.args.err.now) (g.E.Sink.held c.say.new.err) c.as_str.result.now (error_line c.args.status.now) (c.as_str.ensures.value ∙ c.fault_line.ensures ∙ ap (λ n. codes "script: line " ++ (decimal c.in-ScriptRefused.fault.line ++ (codes ": " ++ (n ++ codes "\n")))) c.script_fault_name-name.ensures.name ∙ ap error_line (sym c.in-ScriptRefused.is)) c.say.ensures.whole

pub returns-in-Usage-clause-whole : goal.returns-in-Usage-clause-whole
unfolding error_line
returns-in-Usage-clause-whole g c =
    as_line (g.E.Sink.held c.args.err.now) (g.E.Sink.held c.say-in-Usage.new.err) (error_line Usage) (error_line c.args.status.now) (ap error_line (sym c.in-Usage.is)) c.say-in-Usage.ensures.whole

pub returns-in-ReadFault-clause-whole : goal.returns-in-ReadFault-clause-whole
unfolding error_line
returns-in-ReadFault-clause-whole g c =
    as_line (g.E.Sink.held c.args.err.now) (g.E.Sink.held c.say-in-ReadFault.new.err) (error_line ReadFault) (error_line c.args.status.now) (ap error_line (sym c.in-ReadFault.is)) c.say-in-ReadFault.ensures.whole

pub returns-in-WriteFault-clause-whole : goal.returns-in-WriteFault-clause-whole
unfolding error_line
returns-in-WriteFault-clause-whole g c =
    as_line (g.E.Sink.held c.args.err.now) (g.E.Sink.held c.say-in-WriteFault.new.err) (error_line WriteFault) (error_line c.args.status.now) (ap error_line (sym c.in-WriteFault.is)) c.say-in-WriteFault.ensures.whole

pub returns-in-NoMemory-clause-whole : goal.returns-in-NoMemory-clause-whole
unfolding error_line
returns-in-NoMemory-clause-whole g c =
    as_line (g.E.Sink.held c.args.err.now) (g.E.Sink.held c.say-in-NoMemory.new.err) (error_line NoMemory) (error_line c.args.status.now) (ap error_line (sym c.in-NoMemory.is)) c.say-in-NoMemory.ensures.whole

pub returns-in-NotLawful-clause-whole : goal.returns-in-NotLawful-clause-whole
unfolding error_line
returns-in-NotLawful-clause-whole g c =
    as_line (g.E.Sink.held c.args.err.now) (g.E.Sink.held c.say-in-NotLawful.new.err) c.as_str-in-NotLawful.result.now (error_line c.args.status.now) (c.as_str-in-NotLawful.ensures.value ∙ c.unlawful_line.ensures ∙ ap error_line (sym c.in-NotLawful.is)) c.say-in-NotLawful.ensures.whole

pub returns-in-TextRefused-clause-whole : goal.returns-in-TextRefused-clause-whole
unfolding error_line
returns-in-TextRefused-clause-whole g c =
    as_line (g.E.Sink.held c.args.err.now) (g.E.Sink.held c.say-in-TextRefused.new.err) c.as_str-in-TextRefused.result.now (error_line c.args.status.now) (c.as_str-in-TextRefused.ensures.value ∙ c.fault_line-in-TextRefused.ensures ∙ ap (λ n. codes "transcript: line " ++ (decimal c.in-TextRefused.fault.line ++ (codes ": " ++ (n ++ codes "\n")))) c.text_fault_name-name.ensures.name ∙ ap error_line (sym c.in-TextRefused.is)) c.say-in-TextRefused.ensures.whole
