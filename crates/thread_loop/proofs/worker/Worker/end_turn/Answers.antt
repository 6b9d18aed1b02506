use Rattle.std.proofs.Common.{◌≡◌, sym, ap, ◌∙◌, arith}
use Rattle.thread_loop.specs.Queues.{book_of, made_of}
use Rattle.thread_loop.specs.Turns.{stage_in}
use Rattle.thread_loop.specs.Workers.{Fits, stage_of, tick_of, book_at_tick}
use Rattle.thread_loop.proofs.Ended.{room_over, names_over}
use Rattle.thread_loop.proofs.Workers.{over_book}
use Rattle.thread_loop.proofs.worker.Worker.end_turn.Goals as goal

pub end-requires-clause-room : goal.end-requires-clause-room
unfolding Fits
end-requires-clause-room c = let f = c.requires.fits in let few = f.turn.queues.few in let room = f.room in let turns = f.turns in omega arith

pub returns-clause-book : goal.returns-clause-book
unfolding tick_of book_at_tick
returns-clause-book c = ap (λ T. book_of T c.end.new.self.queues) (sym c.end.ensures.tick) ∙ c.end.ensures.book

pub returns-clause-fits : goal.returns-clause-fits
unfolding Fits stage_of
returns-clause-fits c =
    let s = c.args.script.now in
    let t = c.args.self.now.turn in
    let f = c.requires.fits in
    let same : book_of t.tick t.queues ≡ (stage_in s t).book = over_book s t.tick t.queues t.phase c.requires.over in
    record {
      sound = f.sound;
      turn = c.end.ensures.fits;
      tasks = names_over s t.tick (stage_in s t) (stage_in s c.end.new.self) c.end.ensures.stage f.tasks;
      rows = f.rows;
      number = f.number;
      turns = f.turns;
      room = room_over s t.tick (stage_in s t) (stage_in s c.end.new.self) (book_of t.tick t.queues) _ (made_of t.queues) (made_of c.end.new.self.queues) _ c.requires.over same c.end.ensures.stage c.end.ensures.book c.end.ensures.room f.room;
    }
