-- What is left of the bytes, and where the script ends in it.
use Rattle.std.proofs.Common.{◌≡◌, ◌≤◌, ◌+◌, length}
use Rattle.text_lines.specs.Pieces.{pieces}
use Rattle.program_edges.specs.Inputs.{through_end, script_length}
use Rattle.program_edges.proofs.inputs.script_length.Given as goal

abbrev pub invariant-loop-next : goal.invariant-loop-next
invariant-loop-next l =
    (length l.rest ≤ length l.fn.bytes) × (script_length l.fn.bytes + length l.rest ≡ length l.fn.bytes + through_end (pieces 10 l.rest))

abbrev pub decreases-loop-next : goal.decreases-loop-next
decreases-loop-next l = length l.rest
