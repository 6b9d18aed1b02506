use Rattle.std.proofs.Common.{refl, arith}
use Rattle.taskrun.proofs.Advanced.{can_merge, can_note, more_rounds, next_comes, rounds_between, advances_last, advances_on, ready_after}
use Rattle.taskrun.proofs.courses.Course.advance.Goals as goal

pub note_merged-requires-clause-merge : goal.note_merged-requires-clause-merge
note_merged-requires-clause-merge g c = let r = c.requires.runs in can_merge c.args.script.now r.0 c.args.round r.1 _ c.args.self.now c.requires.sound r.2

pub note_merged-requires-clause-can : goal.note_merged-requires-clause-can
note_merged-requires-clause-can g c = let r = c.requires.runs in can_note (g.S.Scribe.can_note c.args.round) c.args.scribe.now c.args.script.now r.0 c.args.round r.1 _ c.args.self.now r.2 c.requires.can

pub returns-then-after : goal.returns-then-after
returns-then-after g c = record { advanced = λ rounds told runs. advances_last c.args.script.now rounds c.args.round told _ (λ next. g.S.Scribe.notes c.args.round next c.args.scribe.now c.note_merged.new.scribe) c.args.self.now _ c.note_merged.new.merger c.args.self.now.after runs refl c.if-after.true c.in_ok-note_merged.ensures.merged c.in_ok-note_merged.ensures.noted }

pub go_on-requires-clause-more : goal.go_on-requires-clause-more
go_on-requires-clause-more g c κs within = let r = c.requires.runs in next_comes c.args.script.now r.0 c.args.round r.1 _ c.args.self.now c.requires.sound r.2 c.if-after.false

pub go_on-requires-clause-short : goal.go_on-requires-clause-short
go_on-requires-clause-short g c κs within =
    let r = c.requires.runs in
    let more = more_rounds c.args.script.now r.0 c.args.round r.1 _ c.args.self.now c.requires.sound r.2 in
    let few = rounds_between c.args.script.now c.requires.sound in
    omega arith

pub go_on-requires-clause-merge : goal.go_on-requires-clause-merge
go_on-requires-clause-merge g c κs within = let r = c.requires.runs in can_merge c.args.script.now r.0 c.args.round r.1 _ c.args.self.now c.requires.sound r.2

pub go_on-requires-clause-can : goal.go_on-requires-clause-can
go_on-requires-clause-can g c κs within = let r = c.requires.runs in can_note (g.S.Scribe.can_note c.args.round) c.args.scribe.now c.args.script.now r.0 c.args.round r.1 _ c.args.self.now r.2 c.requires.can

pub overflow_add-round : goal.overflow_add-round
overflow_add-round g c =
    let r = c.requires.runs in
    let more = more_rounds c.args.script.now r.0 c.args.round r.1 _ c.args.self.now c.requires.sound r.2 in
    let few = rounds_between c.args.script.now c.requires.sound in
    omega arith

pub after_round-self-requires-clause-ready : goal.after_round-self-requires-clause-ready
after_round-self-requires-clause-ready g c =
    let r = c.requires.runs in
    let went = c.in_ok-go_on.ensures in
    ready_after c.args.script.now r.0 c.args.round r.1 _ _ c.args.self.now c.go_on.new.merger c.take_over.new.self c.go_on.new.plant c.take_over.new.plant r.2 went.noted.merged went.plays c.take_over.ensures

pub after_round-self-requires-clause-more : goal.after_round-self-requires-clause-more
after_round-self-requires-clause-more g c = let r = c.requires.runs in next_comes c.args.script.now r.0 c.args.round r.1 _ c.args.self.now c.requires.sound r.2 c.if-after.false

pub returns : goal.returns
returns g c =
    let went = c.in_ok-go_on.ensures in
    record { advanced = λ rounds told runs. advances_on c.args.script.now rounds c.args.round told _ _ (λ next. g.S.Scribe.notes c.args.round next c.args.scribe.now c.go_on.new.scribe) c.args.self.now _ c.go_on.new.plant c.go_on.new.merger c.args.self.now.after runs refl c.if-after.false went.plays went.noted.merged went.noted.noted c.take_over.ensures c.tick-tick.ensures c.after_round-self.ensures.rest c.after_round-self.ensures.over }
