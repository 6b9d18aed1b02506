-- The bars so far, and those of the lines that are left, as far as there is room for them.
use Rattle.std.proofs.Common.{◌≡◌, ◌≤◌, ◌++◌, ◌-◌, length, take, drop, reverse, []}
use Rattle.run_picture.specs.Bars.{bars_from, most_bars}
use Rattle.run_picture.specs.Scans.{Follows}
use Rattle.run_picture.proofs.scans.bars_of.Given as goal

abbrev pub invariant-loop-place : goal.invariant-loop-place
invariant-loop-place l = record {
  follows : Follows (reverse (take l.place l.lines)) l.scan;
  few : length l.bars.items ≤ most_bars;
  bars : l.bars.items ++ take (most_bars - length l.bars.items) (bars_from l.rounds (reverse (take l.place l.lines)) (drop l.place l.lines)) ≡ take most_bars (bars_from l.rounds [] l.lines);
}
