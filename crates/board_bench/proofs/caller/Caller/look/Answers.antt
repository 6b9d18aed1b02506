use Rattle.std.proofs.Common.{◌≡◌, ℕ, ◌+◌, ◌<◌, length, get_or, ap, ◌∙◌, arith}
use Rattle.std.proofs.lemmas.List.{get_or_default}
use Rattle.task_machine.specs.declared.calls.Call.{Call}
use Rattle.task_machine.specs.declared.calls.Reply.{Reply}
use Rattle.task_machine.specs.declared.calls.Reply.TheVariants as replies
use Rattle.task_machine.specs.Event.{event_of}
use Rattle.task_machine.specs.Own.{own_next}
use Rattle.board_bench.specs.declared.has.Has.{Has}
use Rattle.board_bench.specs.declared.has.Has.TheVariants as kinds
use Rattle.board_bench.specs.Callers.{own_in}
use Rattle.board_bench.proofs.Callers.{changed, bits_below, look_no_get}
use Rattle.board_bench.proofs.caller.Caller.look.Goals as goal

pub returns-clause-listed : goal.returns-clause-listed
returns-clause-listed c =
    let me = c.args.self.now in
    let call : Call = c.args.call.now in
    let named = c.in_ok-id.ensures in
    let index : ℕ = c.in_ok-id.id.0 in
    let within : index < length me.has.items = (let z = c.if-index-len.false in let y = c.len.ensures in omega arith) in
    let read : c.index-has.result.now ≡ get_or me.has.items index kinds.Nothing = c.index-has.ensures ∙ get_or_default me.has.items index c.index-has.result.now kinds.Nothing within in
    let reply : Reply = replies.Task c.in-Some.seen in
    let becomes : own_in c.next.result ≡ own_next (own_in (get_or me.has.items index kinds.Nothing)) (event_of index call reply) = c.next.ensures ∙ (ap (λ (k : ℕ). own_next (own_in c.index-has.result.now) (event_of k call reply)) named.1 ∙ ap (λ (h : Has). own_next (own_in h) (event_of index call reply)) read) in
    changed c.args.board.now me.pass c.look.new.pass me.has.items me.takes (me.takes + 1) call reply index c.next.result (look_no_get call named.0) named.1 c.requires.listed c.in-Some.ensures.called within becomes (λ i. bits_below i call me.takes)
