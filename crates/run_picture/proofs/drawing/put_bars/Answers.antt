-- Each bar is appended behind those before it.
use Rattle.std.proofs.Common.{◌≡◌, ◌+◌, List, [], ◌∷◌, ◌++◌, take, ap, sym, ◌∙◌, subst}
use Rattle.std.proofs.lemmas.List.{take_more, take_all}
use Rattle.text_lines.proofs.KeptFront.{kept_same, kept_then}
use Rattle.run_picture.specs.declared.bars.Bar.{Bar}
use Rattle.run_picture.specs.Drawing.{AddsEach}
use Rattle.run_picture.proofs.Drawn.{adds_none, adds_more}
use Rattle.run_picture.proofs.drawing.put_bars.Goals as goal

pub loop-bar-init : goal.loop-bar-init
loop-bar-init c = (kept_same _, adds_none _)

pub loop-bar-preserved : goal.loop-bar-preserved
loop-bar-preserved c =
    let p = c.loop-bar in
    let bars = c.args.scene.now.bars.now in
    let more : take (p.bar-index + 1) bars ≡ take p.bar-index bars ++ c.bar-item.result ∷ [] = take_more bars p.bar-index c.bar-item.result c.loop-bar-test.true ∙ ap (λ x. take p.bar-index bars ++ x ∷ []) (sym c.bar-item.is) in
    (kept_then _ _ _ p.invariant.0 c.in_ok-put_bar.ensures.kept, subst (λ (xs : List Bar). AddsEach xs c.args.out.now.items c.put_bar.new.out.items) (sym more) (adds_more _ _ _ _ _ p.invariant.1 c.in_ok-put_bar.ensures.drawn))
