use Rattle.std.proofs.Common.{Option, List, ℕ, ◌+◌, subst, sym}
use Rattle.sched_base.specs.Streams.{Appends, AppendsFront}
use Rattle.thread_loop.specs.declared.crew.Kept.{Kept}
use Rattle.taskrun.specs.Answers.{WroteFront}
use Rattle.taskrun.specs.Rounds.{Adds, Underway}
use Rattle.taskrun.proofs.Played.{after_error, all_written, next_round, flushed, cut_short, stopped}
use Rattle.taskrun.proofs.rounds.play_round.Goals as goal

pub add_round-requires-clause-runs : goal.add_round-requires-clause-runs
add_round-requires-clause-runs g c κs within = (c.requires.under.2.rounds, c.requires.under.1, c.requires.under.2.runs)

pub returns-in_err-over-clause-err : goal.returns-in_err-over-clause-err
returns-in_err-over-clause-err g c =
    let all : (before : Option (List ℕ)) (told : Option (List Kept)) → Underway c.args.script.now before (g.O.Sink.held c.args.out.now) told (g.C.Crew.told c.args.crew.now) c.args.text.now.items c.args.round c.args.course.now → WroteFront before (g.O.Sink.held c.args.out.now) c.args.script.now =
    λ before told under. stopped c.args.script.now before _ told _ _ _ _ c.requires.sound under in
    after_error _ _ all

pub returns-in_err-write_all-clause-err : goal.returns-in_err-write_all-clause-err
returns-in_err-write_all-clause-err g c =
    let all : (before : Option (List ℕ)) (told : Option (List Kept)) → Underway c.args.script.now before (g.O.Sink.held c.args.out.now) told (g.C.Crew.told c.args.crew.now) c.args.text.now.items c.args.round c.args.course.now → WroteFront before (g.O.Sink.held c.write_all.new.out) c.args.script.now =
    λ before told under. cut_short c.args.script.now before _ _ told _ (g.C.Crew.told c.add_round.new.crew) _ c.add_round.new.text.items _ _ c.add_round.new.course c.in_ok-over.over c.requires.sound under (c.in_ok-over.ensures under.rounds told under.runs)
    (subst (λ t. AppendsFront (g.O.Sink.held c.args.out.now) (g.O.Sink.held c.write_all.new.out) t) c.deref.ensures.value c.in_err-write_all.ensures.err) in
    after_error _ _ all

pub returns-in_ok-write_all-clause-over : goal.returns-in_ok-write_all-clause-over
returns-in_ok-write_all-clause-over g c = λ before told under over.
    all_written c.args.script.now before _ _ told _ (g.C.Crew.told c.add_round.new.crew) _ c.add_round.new.text.items _ _ c.add_round.new.course c.requires.sound under
    (subst (λ b. Adds c.args.script.now under.rounds c.args.round told (g.C.Crew.told c.add_round.new.crew) c.args.text.now.items c.add_round.new.text.items c.add_round.new.course b) over (c.in_ok-over.ensures under.rounds told under.runs))
    (subst (λ t. Appends (g.O.Sink.held c.args.out.now) (g.O.Sink.held c.write_all.new.out) t) c.deref.ensures.value c.in_ok-write_all.ensures.ok)

pub returns-in_ok-write_all-clause-more : goal.returns-in_ok-write_all-clause-more
returns-in_ok-write_all-clause-more g c = λ before told under over.
    subst (λ t. Underway c.args.script.now before (g.O.Sink.held c.write_all.new.out) told (g.C.Crew.told c.add_round.new.crew) t (c.args.round + 1) c.add_round.new.course) (sym c.clear.ensures.items)
    (flushed c.args.script.now before _ _ told _ c.add_round.new.text.items _ _ (next_round c.args.script.now before _ told _ (g.C.Crew.told c.add_round.new.crew) _ c.add_round.new.text.items _ _ c.add_round.new.course under
    (subst (λ b. Adds c.args.script.now under.rounds c.args.round told (g.C.Crew.told c.add_round.new.crew) c.args.text.now.items c.add_round.new.text.items c.add_round.new.course b) over (c.in_ok-over.ensures under.rounds told under.runs)))
    (subst (λ t. Appends (g.O.Sink.held c.args.out.now) (g.O.Sink.held c.write_all.new.out) t) c.deref.ensures.value c.in_ok-write_all.ensures.ok))

pub returns-else-len-ge-FULL-clause-more : goal.returns-else-len-ge-FULL-clause-more
returns-else-len-ge-FULL-clause-more g c = λ before told under over.
    next_round c.args.script.now before _ told _ (g.C.Crew.told c.add_round.new.crew) _ c.add_round.new.text.items _ _ c.add_round.new.course under
    (subst (λ b. Adds c.args.script.now under.rounds c.args.round told (g.C.Crew.told c.add_round.new.crew) c.args.text.now.items c.add_round.new.text.items c.add_round.new.course b) over (c.in_ok-over.ensures under.rounds told under.runs))
