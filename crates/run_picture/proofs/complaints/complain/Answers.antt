-- The line of each answer is told whole where no write failed.
use Rattle.std.proofs.Common.{◌≡◌, ℕ, List, Option, sym, ap, subst}
use Rattle.sched_base.specs.Streams.{Appends}
use Rattle.run_picture.specs.declared.status.Status.TheVariants.{Usage, ReadFault, WriteFault, NoMemory, Refused}
use Rattle.run_picture.specs.ErrorLines.{error_line}
use Rattle.run_picture.proofs.complaints.complain.Goals as goal

as_line : {R : Type 0} (a b : Option (List ℕ)) (x y : List ℕ) → x ≡ y → (R → Appends a b x) → R → Appends a b y
as_line a b x y e told calm = subst (λ t. Appends a b t) e (told calm)

pub returns-in-Usage-clause-whole : goal.returns-in-Usage-clause-whole
unfolding error_line
returns-in-Usage-clause-whole g c =
    as_line (g.E.Sink.held c.args.err.now) (g.E.Sink.held c.say.new.err) (error_line Usage) (error_line c.args.status.now) (ap error_line (sym c.in-Usage.is)) c.say.ensures.whole

pub returns-in-ReadFault-clause-whole : goal.returns-in-ReadFault-clause-whole
unfolding error_line
returns-in-ReadFault-clause-whole g c =
    as_line (g.E.Sink.held c.args.err.now) (g.E.Sink.held c.say-in-ReadFault.new.err) (error_line ReadFault) (error_line c.args.status.now) (ap error_line (sym c.in-ReadFault.is)) c.say-in-ReadFault.ensures.whole

pub returns-in-WriteFault-clause-whole : goal.returns-in-WriteFault-clause-whole
unfolding error_line
returns-in-WriteFault-clause-whole g c =
    as_line (g.E.Sink.held c.args.err.now) (g.E.Sink.held c.say-in-WriteFault.new.err) (error_line WriteFault) (error_line c.args.status.now) (ap error_line (sym c.in-WriteFault.is)) c.say-in-WriteFault.ensures.whole

pub returns-in-NoMemory-clause-whole : goal.returns-in-NoMemory-clause-whole
unfolding error_line
returns-in-NoMemory-clause-whole g c =
    as_line (g.E.Sink.held c.args.err.now) (g.E.Sink.held c.say-in-NoMemory.new.err) (error_line NoMemory) (error_line c.args.status.now) (ap error_line (sym c.in-NoMemory.is)) c.say-in-NoMemory.ensures.whole

pub returns-in-Refused-clause-whole : goal.returns-in-Refused-clause-whole
unfolding error_line
returns-in-Refused-clause-whole g c =
    as_line (g.E.Sink.held c.args.err.now) (g.E.Sink.held c.say_refusal.new.err) (error_line (Refused c.in-Refused.refusal)) (error_line c.args.status.now) (ap error_line (sym c.in-Refused.is)) c.say_refusal.ensures.whole
