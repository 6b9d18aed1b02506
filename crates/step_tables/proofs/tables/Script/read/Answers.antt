use Rattle.std.proofs.Common.{◌≡◌, ◌+◌, ◌∙◌, ap, subst, length, min, take}
use Rattle.std.proofs.lemmas.List.{take_min}
use Rattle.std.proofs.Math.Nat.{min_comm}
use Rattle.step_tables.specs.declared.limits.Limits.{Limits}
use Rattle.step_tables.specs.Limits.{limits_of}
use Rattle.step_tables.specs.Judging.{script_of, script_within, most_bytes}
use Rattle.step_tables.specs.Views.{Gives}
use Rattle.step_tables.proofs.ReadBack.{gives_sound}
use Rattle.step_tables.proofs.tables.Script.read.Goals as goal

pub returns-clause-same : goal.returns-clause-same
unfolding script_of
returns-clause-same c =
    let bytes = c.args.bytes.now in
    let top = most_bytes bytes in
    let most : c.of-most.result.bytes ≡ top = ap (λ (l : Limits). l.bytes) c.of-most.ensures ∙ ap (λ v. (limits_of v).bytes) c.version_in.ensures in
    let end : c.min-end.result ≡ min (top + 1) (length bytes) = c.min-end.ensures ∙ ap (λ m. min (length bytes) (m + 1)) most ∙ min_comm (length bytes) (top + 1) in
    subst (λ m. Gives c.script_within.result (script_within m (take (top + 1) bytes))) most
    (subst (λ bs. Gives c.script_within.result (script_within c.of-most.result.bytes bs)) (ap (λ n. take n bytes) end ∙ take_min (top + 1) bytes) c.script_within.ensures)

pub returns-clause-sound : goal.returns-clause-sound
returns-clause-sound c = gives_sound c.script_within.result c.of-most.result.bytes (take c.min-end.result c.args.bytes.now) c.script_within.ensures
