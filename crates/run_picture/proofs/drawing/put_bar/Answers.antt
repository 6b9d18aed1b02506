-- The bar is begun, its tip told, and nothing behind that takes anything back.
use Rattle.text_lines.proofs.KeptFront.{kept_then}
use Rattle.run_picture.proofs.Drawn.{adds_told, on_ok_any}
use Rattle.run_picture.proofs.drawing.put_bar.Goals as goal

pub returns-clause-drawn : goal.returns-clause-drawn
returns-clause-drawn c =
    let begun = c.begin_bar.new.out.items in
    let named = c.put_name.new.out.items in
    let told = c.put_tip.new.out.items in
    let body = c.put_body.new.out.items in
    let words = c.put_words.new.out.items in
    let end = c.put_bytes.new.out.items in
    on_ok_any c.put_bytes.result _ (adds_told c.args.bar.now c.left_of-x.result c.args.out.now.items begun named told end c.in_ok-begin_bar.ensures.written c.put_name.ensures c.in_ok-put_tip.ensures.written
    (kept_then told words end (kept_then told body words c.put_body.ensures c.put_words.ensures) c.put_bytes.ensures.kept))
