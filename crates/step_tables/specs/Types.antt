-- The types of a script's tables, and the settings.
pub use Rattle.sched_base.specs.declared.names.Class.{Class}
pub use Rattle.sched_base.specs.declared.names.Class.TheVariants.{Urgent, Normal, Bulk, Heavy}
pub use Rattle.step_tables.specs.declared.tables.Action.{Action}
pub use Rattle.step_tables.specs.declared.tables.Action.TheVariants.{Wake, Kill}
pub use Rattle.step_tables.specs.declared.tables.Expiry.{Expiry}
pub use Rattle.step_tables.specs.declared.tables.Expiry.TheVariants.{Keep, After, Never}
pub use Rattle.step_tables.specs.declared.tables.Kind.{Kind}
pub use Rattle.step_tables.specs.declared.tables.Kind.TheVariants.{Pinned, Shared, Tasklet}
pub use Rattle.step_tables.specs.declared.tables.Row.{Row}
pub use Rattle.step_tables.specs.declared.tables.TaskDef.{TaskDef}
pub use Rattle.step_tables.specs.declared.tables.Event.{Event}
pub use Rattle.step_tables.specs.declared.shapes.Setting.{Setting}
pub use Rattle.step_tables.specs.declared.shapes.Setting.TheVariants.{Workers, Depth, Start, Step, Rounds}
