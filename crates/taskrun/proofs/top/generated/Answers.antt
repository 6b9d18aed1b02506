use Rattle.std.proofs.Common.{subst}
use Rattle.step_tables.specs.declared.tables.Script.{Script}
use Rattle.taskrun.specs.Answers.{Sums}
use Rattle.taskrun.proofs.Determined.{one_summary}
use Rattle.taskrun.proofs.top.generated.Goals as goal

pub returns-in-Ok-clause-one : goal.returns-in-Ok-clause-one
returns-in-Ok-clause-one g c =
    let held = g.O.Sink.held in
    let told = g.C.Crew.told in
    let sums = subst (λ (s : Script). Sums s (held c.args.out.now) (held c.sum_script.new.out) (told c.args.crew.now) (told c.sum_script.new.crew) c.sum_script.result) c.in-Ok.ensures.same c.sum_script.ensures.answers in
    one_summary c.args.seed c.args.size _ _ _ _ c.sum_script.result c.requires.size.0 c.requires.size.1 sums
