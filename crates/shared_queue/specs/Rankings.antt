-- What a ranking keeps.
use Rattle.std.specs.Prelude.{◌≡◌, ℕ, ◌≤◌, ℤ, List, length}
use Rattle.shared_queue.specs.declared.spans.Span.{Span}
use Rattle.shared_queue.specs.Spans.{AreSpans}

-- a place for each task, room for as many spans, and the spans of the tasks
pub record IsRanking (ranks : List ℤ) (listed reserved : ℕ) (laid : List Span) : Type 0 where
  pub few : length ranks ≤ 65536
  pub places : listed ≡ length ranks
  pub room : length ranks ≤ reserved
  pub spans : AreSpans ranks laid
