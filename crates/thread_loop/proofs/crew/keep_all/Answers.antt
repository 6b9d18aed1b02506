use Rattle.std.proofs.Common.{◌≡◌, ◌≤◌, ◌<◌, ◌+◌, ℕ, zero, suc, List, [], ◌∷◌, take, length, get_or, ap, ◌∙◌, arith}
use Rattle.std.proofs.lemmas.List.{length-append, length-map}
use Rattle.task_machine.specs.declared.calls.Entry.{Entry}
use Rattle.task_machine.specs.Logged.{Logged}
use Rattle.thread_loop.specs.declared.crew.Kept.{Kept}
use Rattle.thread_loop.specs.Crews.{kept, kept_logs}
use Rattle.thread_loop.proofs.crew.keep_all.Goals as goal

kept_length : (r : ℕ) (es : List Entry) → length (kept r es) ≡ length es
kept_length r es = length-map es (λ e. let k : Kept = record { round = r; entry = e } in k)

-- the logs before one, with that one, are no more than all
kept_fits : (r : ℕ) (logs : List Logged) (i : ℕ) (l : Logged) → i < length logs → l ≡ get_or logs i l → length (kept_logs r (take i logs)) + length l.entries ≤ length (kept_logs r logs)
kept_fits r [] i l lt is = absurd (omega arith)
kept_fits r (x ∷ xs) zero l lt is =
    let here = kept_length r x.entries in
    let whole = length-append (kept r x.entries) (kept_logs r xs) in
    let same : length l.entries ≡ length x.entries = ap (λ (y : Logged). length y.entries) is in
    omega arith
kept_fits r (x ∷ xs) (suc i) l lt is =
    let later = kept_fits r xs i l (omega arith) is in
    let whole = length-append (kept r x.entries) (kept_logs r xs) in
    let part = length-append (kept r x.entries) (kept_logs r (take i xs)) in
    omega arith

pub returns-then-not-keep-clause-full : goal.returns-then-not-keep-clause-full
returns-then-not-keep-clause-full c = λ no.
    let r = c.args.round in
    let logs = c.args.logs.now in
    let before = c.args.calls.now.items in
    let so_far = ap length c.loop-log.invariant.so_far ∙ length-append before (kept_logs r (take c.loop-log.log-index logs)) in
    let one = kept_fits r logs c.loop-log.log-index c.log-item.result (omega (arith, c.loop-log-test.true)) c.log-item.is in
    let full = c.keep.ensures.full c.if-not-keep.true in
    let entries : length c.as_slice.result.now ≡ length c.log-item.result.entries = ap length c.as_slice.ensures in
    let room = c.loop-log.invariant.room in
    omega arith
