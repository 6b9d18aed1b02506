use Rattle.std.proofs.Common.{◌-◌, ◌^◌, ◌<◌, ◌≤◌, arith, rules}
use Rattle.std.specs.Int.Bits.{bit_xor}
use Rattle.std.specs.Int.Count.{count_leading_zeros}
use Rattle.eb32_core.proofs.HighestBit.{highest_bit, zeros_before}
use Rattle.eb32_core.proofs.branching.top_bit.Goals as goal

pub overflow_sub-result : goal.overflow_sub-result
overflow_sub-result c =
    let fo : c.args.own < 2 ^ 32 = search rules in
    let fk : c.args.key < 2 ^ 32 = search rules in
    zeros_before c.args.own c.args.key fo fk c.requires

pub returns : goal.returns
returns c =
    let fo : c.args.own < 2 ^ 32 = search rules in
    let fk : c.args.key < 2 ^ 32 = search rules in
    let z : count_leading_zeros 32 (bit_xor c.args.own c.args.key) ≤ 31 = zeros_before c.args.own c.args.key fo fk c.requires in
    highest_bit c.args.own c.args.key (31 - count_leading_zeros 32 (bit_xor c.args.own c.args.key)) fo fk c.requires (omega (arith, z))
