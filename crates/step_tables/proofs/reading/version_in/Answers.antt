use Rattle.std.proofs.Common.{◌≡◌, [], ◌∙◌, ap, sym, length, take}
use Rattle.std.specs.Prelude.{slice_index_or, unwrap_or}
use Rattle.std.proofs.lemmas.List.{take_min}
use Rattle.std.proofs.Math.Nat.{min_comm}
use Rattle.step_tables.specs.Limits.{newest}
use Rattle.step_tables.specs.Words.{pieces}
use Rattle.step_tables.specs.Judging.{version_of, version_in, first_line}
use Rattle.step_tables.proofs.reading.version_in.Goals as goal

pub returns : goal.returns
unfolding version_in
returns c =
    let bytes = c.args.bytes.now in
    let front : take c.min.result bytes ≡ take 13 bytes = ap (λ n. take n bytes) (c.min.ensures ∙ min_comm (length bytes) 13) ∙ take_min 13 bytes in
    let line : c.next_line.result.0.now ≡ first_line bytes = ap (λ ps. slice_index_or ps 0 []) (sym c.next_line.ensures.parted ∙ ap (pieces 10) front) in
    c.unwrap_or.ensures ∙ ap (λ v. unwrap_or v newest) (c.version_of.ensures ∙ ap version_of line)
