-- The parts of a weaver between merges (docs/WEAVE.md, "The index").
use Rattle.std.specs.Prelude.{◌≡◌, ◌+◌, ◌≤◌, length, vec_capacity}
use Rattle.history_weave.specs.declared.weaver.Weaver.TheInside.{Inside}
use Rattle.history_weave.specs.Indexed.{tasks_of, HasLinkRoom, IsClear}

-- there is room for what it says, and nothing is left of the last merge in the index
pub record IsWhole (w : Inside) : Type 0 where
  pub capacity : w.room ≤ vec_capacity w.entries
  pub count : length w.entries.items ≤ w.room
  pub links : HasLinkRoom w.room w.index
  pub tasks : tasks_of w.index ≡ w.tasks
  pub clear : IsClear (w.workers + 1) w.index
