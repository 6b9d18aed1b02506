-- Each line adds its bar, and is passed.
use Rattle.std.proofs.Common.{◌≡◌, ℕ, ◌+◌, ◌-◌, ◌<◌, ◌≤◌, List, [], ◌++◌, length, take, drop, reverse, sym, ap, subst, arith}
use Rattle.std.specs.Prelude.{option_to_list}
use Rattle.transcript.specs.declared.lines.Line.{Line}
use Rattle.run_picture.specs.declared.bars.Bar.{Bar}
use Rattle.run_picture.specs.Bars.{bars_from, bars_of, most_bars}
use Rattle.run_picture.specs.Scans.{Follows}
use Rattle.run_picture.proofs.Lines.{past_more, still_few, stretches_len}
use Rattle.run_picture.proofs.BarsMore.{bars_more, bars_done, stretch_here, stretch_small}
use Rattle.run_picture.proofs.scans.bars_of.Goals as goal

pub loop-place-init : goal.loop-place-init
loop-place-init c =
    let none = c.new-bars.ensures.items in
    record {
      follows = c.in_ok-scan.ensures;
      few = omega (arith, ap length none);
      bars = ap (λ (xs : List Bar). xs ++ take (most_bars - length xs) (bars_from c.args.rounds.now [] c.args.lines.now)) none;
    }

pub index-requires : goal.index-requires
index-requires c =
    omega (arith, stretches_len c.args.lines.now, ap length c.in_ok-stretches.ensures, c.in_ok-stretches.stretches.ok.0)

pub bar_at-bar-requires-clause-few : goal.bar_at-bar-requires-clause-few
bar_at-bar-requires-clause-few c =
    let p = c.loop-place in
    let here = stretch_here c.args.lines.now p.place c.index-lines-place.result c.in_ok-stretches.stretches.items c.index.result.now c.loop-place-test.true c.index-lines-place.is c.in_ok-stretches.ensures c.index.ensures in
    omega (arith, c.requires, stretch_small c.args.lines.now p.place c.index-lines-place.result c.index.result.now here)

pub loop-place-preserved : goal.loop-place-preserved
loop-place-preserved c =
    let p = c.loop-place in
    let ls = c.args.lines.now in
    let l = c.index-lines-place.result in
    let past = reverse (take p.place ls) in
    let added = c.in_ok-add_up_to.ensures in
    let here = stretch_here ls p.place l c.in_ok-stretches.stretches.items c.index.result.now c.loop-place-test.true c.index-lines-place.is c.in_ok-stretches.ensures c.index.ensures in
    record {
      follows = subst (λ (lines : List Line). Follows lines c.pass.new.self) (sym (past_more ls p.place l c.loop-place-test.true c.index-lines-place.is)) (c.pass.ensures past p.invariant.follows);
      few = subst (λ (xs : List Bar). length xs ≤ most_bars) (sym added) (still_few most_bars p.bars.items (option_to_list c.bar_at-bar.result) p.invariant.few);
      bars = bars_more c.args.rounds.now ls p.place l p.bars.items c.add_up_to.new.bars.items (option_to_list c.bar_at-bar.result) _ c.loop-place-test.true c.index-lines-place.is p.invariant.few added (c.bar_at-bar.ensures past (drop (p.place + 1) ls) p.invariant.follows here) p.invariant.bars;
    }

pub returns : goal.returns
unfolding bars_of
returns c = bars_done c.args.rounds.now c.args.lines.now c.loop-place.place c.loop-place.bars.items _ c.loop-place-test.false c.loop-place.invariant.bars
