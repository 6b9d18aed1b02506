use Rattle.std.proofs.Common.{length}
use Rattle.history_weave.proofs.Chains.{entry_any}
use Rattle.history_weave.proofs.Entering.{stands-read}
use Rattle.history_weave.proofs.index.entry_at.Goals as goal

pub returns : goal.returns
returns c = λ d.
    let logs = c.args.logs.now in
    let e = c.index-as_slice-place.result in
    entry_any (length logs) logs c.args.k c.args.place e d (stands-read logs c.args.k c.args.place c.index-logs-k.result c.as_slice.result.now e c.requires.caller c.requires.within c.index-logs-k.is c.as_slice.ensures c.index-as_slice-place.is)
