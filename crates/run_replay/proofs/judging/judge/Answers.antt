use Rattle.std.proofs.Common.{◌≡◌, ◌<◌, ◌∙◌, List, length, take, get_or, refl, sym, ap, subst, arith}
use Rattle.transcript.specs.declared.lines.Line.{Line}
use Rattle.fronts.specs.Lines.{Track, begins, May}
use Rattle.run_replay.specs.Watching.{IsAt}
use Rattle.run_replay.proofs.Facts.{on-true, on-false}
use Rattle.run_replay.proofs.Judged.{Leads, sound-begins, leads-push, take_more, take_all, are-lawful, not-of-run, first-not, line_in}
use Rattle.run_replay.proofs.judging.judge.Goals as goal

pub loop-index-init : goal.loop-index-init
loop-index-init c = (begins, c.in_ok-watcher.ensures, refl)

pub allows-requires : goal.allows-requires
allows-requires c = (c.loop-index.invariant.0, c.loop-index.invariant.1)

pub loop-index-preserved : goal.loop-index-preserved
loop-index-preserved c =
    let s = c.args.script.now in
    let ls = c.args.transcript.now in
    let t = c.loop-index.invariant.0 in
    let l = c.line-item.result in
    let i = c.loop-index.index in
    let same = c.as_slice-line-items.ensures in
    let size = ap length same in
    let lt : i < length ls = (let below = c.loop-index-test.true in omega arith) in
    let at : l ≡ get_or ls i l = c.line-item.is ∙ ap (λ xs. get_or xs i l) same in
    let next = on-true c.allows.result ((u : Track) × May s t l u × IsAt s u c.allows.new.self) ((u : Track) → May s t l u → ⊥) c.if-not-allows.false (c.allows.ensures t c.loop-index.invariant.1) in
    (next.0, next.2, subst (λ (xs : List Line). Leads s begins xs next.0) (sym (take_more ls i l lt at)) (leads-push s begins (take i ls) l t next.0 c.loop-index.invariant.2 next.1))

pub returns-then-not-allows-clause-lawful : goal.returns-then-not-allows-clause-lawful
returns-then-not-allows-clause-lawful c =
    let s = c.args.script.now in
    let ls = c.args.transcript.now in
    let t = c.loop-index.invariant.0 in
    let l = c.line-item.result in
    let i = c.loop-index.index in
    let same = c.as_slice-line-items.ensures in
    let size = ap length same in
    let lt : i < length ls = (let below = c.loop-index-test.true in omega arith) in
    let at : l ≡ get_or ls i l = c.line-item.is ∙ ap (λ xs. get_or xs i l) same in
    let refused = on-false c.allows.result ((u : Track) × May s t l u × IsAt s u c.allows.new.self) ((u : Track) → May s t l u → ⊥) c.if-not-allows.true (c.allows.ensures t c.loop-index.invariant.1) in
    ((λ e. cc), (λ run. absurd (not-of-run s ls i l t (sound-begins s c.in_ok-watcher.watcher c.in_ok-watcher.ensures) lt at c.loop-index.invariant.2 refused run)))

pub returns-then-not-allows-clause-line : goal.returns-then-not-allows-clause-line
returns-then-not-allows-clause-line c = λ n e.
    let s = c.args.script.now in
    let ls = c.args.transcript.now in
    let t = c.loop-index.invariant.0 in
    let l = c.line-item.result in
    let i = c.loop-index.index in
    let same = c.as_slice-line-items.ensures in
    let size = ap length same in
    let lt : i < length ls = (let below = c.loop-index-test.true in omega arith) in
    let at : l ≡ get_or ls i l = c.line-item.is ∙ ap (λ xs. get_or xs i l) same in
    let refused = on-false c.allows.result ((u : Track) × May s t l u × IsAt s u c.allows.new.self) ((u : Track) → May s t l u → ⊥) c.if-not-allows.true (c.allows.ensures t c.loop-index.invariant.1) in
    first-not s ls i n l t (sound-begins s c.in_ok-watcher.watcher c.in_ok-watcher.ensures) lt (sym (ap line_in e)) at c.loop-index.invariant.2 refused

pub returns-clause-lawful : goal.returns-clause-lawful
returns-clause-lawful c =
    let s = c.args.script.now in
    let ls = c.args.transcript.now in
    let t = c.loop-index.invariant.0 in
    let i = c.loop-index.index in
    let size = ap length c.as_slice-line-items.ensures in
    let above = c.loop-index-test.false in
    let all : take i ls ≡ ls = take_all ls i (omega arith) in
    ((λ e. are-lawful s ls t (sound-begins s c.in_ok-watcher.watcher c.in_ok-watcher.ensures) c.requires (subst (λ (xs : List Line). Leads s begins xs t) all c.loop-index.invariant.2)), (λ run. refl))
