use Rattle.std.proofs.Common.{◌≡◌, ◌+◌, length, ap, ◌∙◌, arith}
use Rattle.std.proofs.lemmas.List.{length_push}
use Rattle.thread_loop.proofs.Opened.{idle_first, idle_more, books_more}
use Rattle.thread_loop.specs.Workers.{tick_of}
use Rattle.thread_loop.proofs.opening.workers_of.Goals as goal

pub loop-number-preserved : goal.loop-number-preserved
loop-number-preserved c =
    let s = c.args.script.now in
    let w = c.in_ok-new.field-0 in
    let is = c.in_ok-new.ensures in
    let first = idle_first s c.loop-number.number w is.fits is.number is.turns is.takes is.over is.book in
    let count : length c.push.new.self.items ≡ length c.loop-number.workers.items + 1 = ap length c.in_ok-push.ensures.items ∙ length_push c.loop-number.workers.items w in
    record {
      books = books_more s c.loop-number.number c.loop-number.workers.items c.push.new.self.items w c.loop-number.invariant.books (is.book (tick_of w)) c.in_ok-push.ensures.items;
      count = omega (arith, c.loop-number.invariant.count);
      idle = idle_more s c.loop-number.number c.loop-number.workers.items c.push.new.self.items w c.loop-number.invariant.count c.loop-number.invariant.idle first c.in_ok-push.ensures.items;
    }
