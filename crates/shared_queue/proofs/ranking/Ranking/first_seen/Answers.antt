use Rattle.std.proofs.Common.{List, MatchOption, sym, subst}
use Rattle.std.specs.Prelude.{ℤ}
use Rattle.shared_queue.specs.declared.spans.Span.{Span}
use Rattle.shared_queue.specs.Looking.{IsFirst, NoneSet}
use Rattle.shared_queue.specs.Spans.{AreSpans}
use Rattle.shared_queue.proofs.Firsts.{first_ranked}
use Rattle.shared_queue.proofs.ranking.Ranking.first_seen.Goals as goal

pub returns : goal.returns
returns c =
    let nices : List ℤ = c.self.inside.nices.items in
    let words = c.args.words.now in
    let found = c.first_set.result in
    let are : AreSpans nices c.as_slice.result.now = subst (λ (spans : List Span). AreSpans nices spans) (sym c.as_slice.ensures.value) c.self.invariant.spans in
    subst (λ (ranks : List ℤ). MatchOption found (NoneSet ranks words) (IsFirst ranks words)) c.self.view_is (first_ranked nices c.as_slice.result.now words found are c.first_set.ensures)
