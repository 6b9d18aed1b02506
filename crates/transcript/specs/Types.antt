-- The types of a transcript: its lines, the names in them, and the calls and answers that they tell of.
pub use Rattle.task_machine.specs.declared.calls.Call.{Call}
pub use Rattle.task_machine.specs.declared.calls.Reply.{Reply}
pub use Rattle.task_machine.specs.declared.calls.Entry.{Entry}
pub use Rattle.task_machine.specs.declared.task.Stand.{Stand}
pub use Rattle.task_machine.specs.declared.task.Seen.{Seen}
pub use Rattle.transcript.specs.declared.lines.Line.{Line}
pub use Rattle.transcript.specs.declared.shape.Name.{Name}
pub use Rattle.transcript.specs.declared.shape.Said.{Said}
pub use Rattle.transcript.specs.declared.shape.Progress.{Progress}
pub use Rattle.transcript.specs.declared.shape.Said.TheVariants.{First, Holds}
