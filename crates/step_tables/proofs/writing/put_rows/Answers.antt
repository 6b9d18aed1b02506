use Rattle.std.proofs.Common.{◌++◌, length, ap, sym, ◌∙◌, append-nil, refl}
use Rattle.std.proofs.lemmas.Option.{slice_get_read}
use Rattle.step_tables.specs.Text.{names_of}
use Rattle.step_tables.proofs.LineTexts.{rows_put, rows_none}
use Rattle.step_tables.proofs.writing.put_rows.Goals as goal

pub loop-number-init : goal.loop-number-init
loop-number-init c =
    sym (append-nil c.args.out.now.items) ∙ ap (λ r. c.args.out.now.items ++ r) (sym (rows_none (names_of c.args.tasks.now) c.as_slice-name.result.now c.as_slice-row-items.result.now))

pub loop-number-preserved : goal.loop-number-preserved
loop-number-preserved c =
    rows_put (names_of c.args.tasks.now) c.as_slice-name.result.now c.as_slice-row-items.result.now c.loop-number.number c.row-item.result
    c.args.out.now.items c.loop-number.out.items c.put_row.new.out.items
    (slice_get_read c.as_slice-row-items.result.now (length c.as_slice-row-items.result.now) c.loop-number.number c.row-item.result refl c.loop-number-test.true c.row-item.is)
    c.loop-number.invariant c.in_ok-put_row.ensures
