use Rattle.std.proofs.Common.{◌∙◌}
use Rattle.thread_loop.proofs.BoardTurns.{called-trans}
use Rattle.thread_loop.proofs.BoardBegun.{IsBegun, on-begun, undrawn-begun, IsOver, number-over, tick-over, turn-over, grown-over, served-over, listed-over, own-over}
use Rattle.thread_loop.proofs.worker.Worker.turn.Goals as goal

begun : (g : _) (c : goal.After-make_calls-arg-2-1 g) → IsBegun c.args.script.now c.args.board.now c.args.now c.args.self.now c.begin_log.new.self c.args.pass.now
begun g c = record {
  fits = c.requires.fits;
  later = c.begin_log.ensures.fits;
  stage = c.begin_log.ensures.stage;
  number = c.begin_log.ensures.number;
  tick = c.begin_log.ensures.tick;
  takes = c.begin_log.ensures.takes;
  book = c.begin_log.ensures.book;
  entries = c.begin_log.ensures.entries;
  room = c.begin_log.ensures.room;
  reserved = c.requires.reserved;
  board = c.requires.board;
  pass = c.requires.pass;
  who = c.requires.number;
  listed = c.requires.listed;
  kept = c.requires.takes;
  few_takes = c.requires.few_takes;
  few_entries = c.requires.few_entries;
  own = c.requires.own;
}

pub make_calls-requires-clause-on : goal.make_calls-requires-clause-on
make_calls-requires-clause-on g c = on-begun _ _ _ _ _ _ (begun g c)

pub make_calls-requires-clause-undrawn : goal.make_calls-requires-clause-undrawn
make_calls-requires-clause-undrawn g c i = undrawn-begun _ _ _ _ _ _ i (begun g c)

pub make_draws-requires-clause-outs : goal.make_draws-requires-clause-outs
make_draws-requires-clause-outs g c = c.make_calls.ensures.called.grown.outs ∙ c.requires.outs

over : (g : _) (c : goal.After-make_draws g) → IsOver c.args.script.now c.args.board.now c.args.now c.args.self.now c.begin_log.new.self c.make_draws.new.self c.args.pass.now c.make_draws.new.pass
over g c = record {
  begun = record {
    fits = c.requires.fits;
    later = c.begin_log.ensures.fits;
    stage = c.begin_log.ensures.stage;
    number = c.begin_log.ensures.number;
    tick = c.begin_log.ensures.tick;
    takes = c.begin_log.ensures.takes;
    book = c.begin_log.ensures.book;
    entries = c.begin_log.ensures.entries;
    room = c.begin_log.ensures.room;
    reserved = c.requires.reserved;
    board = c.requires.board;
    pass = c.requires.pass;
    who = c.requires.number;
    listed = c.requires.listed;
    kept = c.requires.takes;
    few_takes = c.requires.few_takes;
    few_entries = c.requires.few_entries;
    own = c.requires.own;
  };
  on = c.make_draws.ensures.on;
  called = called-trans c.args.script.now c.begin_log.new.self c.make_calls.new.self c.make_draws.new.self c.args.pass.now c.make_calls.new.pass c.make_draws.new.pass c.make_calls.ensures.called c.make_draws.ensures.called;
  over = c.make_draws.ensures.over;
}

pub returns-clause-fits : goal.returns-clause-fits
returns-clause-fits g c = c.make_draws.ensures.on.fits

pub returns-clause-number : goal.returns-clause-number
returns-clause-number g c = number-over c.args.script.now c.args.board.now c.args.now c.args.self.now c.begin_log.new.self c.make_draws.new.self c.args.pass.now c.make_draws.new.pass (over g c)

pub returns-clause-tick : goal.returns-clause-tick
returns-clause-tick g c = tick-over c.args.script.now c.args.board.now c.args.now c.args.self.now c.begin_log.new.self c.make_draws.new.self c.args.pass.now c.make_draws.new.pass (over g c)

pub returns-clause-turns : goal.returns-clause-turns
returns-clause-turns g c = c.make_draws.ensures.called.turns ∙ c.make_calls.ensures.called.turns ∙ c.begin_log.ensures.turns

pub returns-clause-turn : goal.returns-clause-turn
returns-clause-turn g c = turn-over c.args.script.now c.args.board.now c.args.now c.args.self.now c.begin_log.new.self c.make_draws.new.self c.args.pass.now c.make_draws.new.pass (over g c)

pub returns-clause-grown : goal.returns-clause-grown
returns-clause-grown g c = grown-over c.args.script.now c.args.board.now c.args.now c.args.self.now c.begin_log.new.self c.make_draws.new.self c.args.pass.now c.make_draws.new.pass (over g c)

pub returns-clause-served : goal.returns-clause-served
returns-clause-served g c = served-over c.args.script.now c.args.board.now c.args.now c.args.self.now c.begin_log.new.self c.make_draws.new.self c.args.pass.now c.make_draws.new.pass (over g c) c.make_draws.ensures.served

pub returns-clause-listed : goal.returns-clause-listed
returns-clause-listed g c = listed-over c.args.script.now c.args.board.now c.args.now c.args.self.now c.begin_log.new.self c.make_draws.new.self c.args.pass.now c.make_draws.new.pass (over g c)

pub returns-clause-takes : goal.returns-clause-takes
returns-clause-takes g c = c.make_draws.ensures.on.takes

pub returns-clause-own : goal.returns-clause-own
returns-clause-own g c = own-over c.args.script.now c.args.board.now c.args.now c.args.self.now c.begin_log.new.self c.make_draws.new.self c.args.pass.now c.make_draws.new.pass (over g c)

pub returns-clause-room : goal.returns-clause-room
returns-clause-room g c = c.make_draws.ensures.called.room ∙ c.make_calls.ensures.called.room ∙ c.begin_log.ensures.room
