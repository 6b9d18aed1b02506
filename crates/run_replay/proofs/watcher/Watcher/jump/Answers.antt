use Rattle.std.proofs.Common.{◌≡◌, ◌+◌, arith, sym, ◌∙◌, true, false}
use Rattle.std.proofs.lemmas.Bool.{le-leb}
use Rattle.run_model.specs.Standing.{has_event}
use Rattle.run_model.specs.Versions.{is_second}
use Rattle.thread_loop.proofs.NextTick.{jump_event, jump_some}
use Rattle.run_replay.specs.Watching.{standing_of}
use Rattle.run_replay.proofs.Watching.{few-over, next-event}
use Rattle.run_replay.proofs.watcher.Watcher.jump.Goals as goal

pub overflow_add-round : goal.overflow_add-round
overflow_add-round c = let few = few-over c.args.script.now c.args.round c.args.self.now c.requires in omega arith

pub returns-then-is_some : goal.returns-then-is_some
returns-then-is_some c =
    let s = c.args.script.now in
    let w = c.args.self.now in
    jump_event s c.args.round c.args.now (standing_of w) (sym (next-event s c.args.round w c.next_call.result c.requires c.next_call.ensures) ∙ sym c.is_some.ensures ∙ c.if-is_some.true)

pub returns : goal.returns
returns c =
    let s = c.args.script.now in
    let w = c.args.self.now in
    let version = c.version.ensures.same in
    let late = c.if-version-lt2.false in
    let second : is_second s ≡ true = le-leb 2 s.version (omega arith) in
    let none : has_event s (c.args.round + 1) ≡ false = sym (next-event s c.args.round w c.next_call.result c.requires c.next_call.ensures) ∙ sym c.is_some.ensures ∙ c.if-is_some.false in
    c.in-Some.ensures ∙ jump_some s c.args.round c.args.now (standing_of w) second none (sym c.is_still.ensures ∙ c.if-not-is_still.false)
