-- What a worker keeps, and how it changes (docs/MODEL.md, "Rows and books").
use Rattle.std.specs.Prelude.{ℕ, ◌-◌, List, [], ◌∷◌, length, fold}
use Rattle.sched_base.specs.declared.names.Class.{Class}
use Rattle.sched_base.specs.declared.names.Class.TheVariants.{Normal}
use Rattle.queue_model.specs.Ticks.{later}
use Rattle.queue_model.specs.RunList.{RunList, arrived, least, without_least}
use Rattle.queue_model.specs.WaitList.{WaitList, armed, with_expiry, unlinked}
use Rattle.queue_model.specs.Classes.{Classes, pushed, popped}
use Rattle.step_tables.specs.declared.tables.Expiry.{Expiry}
use Rattle.step_tables.specs.declared.tables.Expiry.TheVariants.{Keep, After, Never}
use Rattle.step_tables.specs.declared.tables.Kind.{Kind}
use Rattle.step_tables.specs.declared.tables.Kind.TheVariants.{Pinned, Shared, Tasklet}
use Rattle.step_tables.specs.declared.tables.Row.{Row}
use Rattle.step_tables.specs.declared.tables.Script.{Script}
use Rattle.run_model.specs.Tables.{def_of}

-- a worker's book: its wait list, its run list and its class lists
pub record Book : Type 0 where
  pub wait : WaitList
  pub run : RunList
  pub lists : Classes (List ℕ)

-- a task of this kind queued: put into the run list with its nice, or a tasklet at the end of its class's list
abbrev pub queued_as : Kind → Script → ℕ → Book → Book
queued_as (Pinned home nice) s i b = record b { run = arrived s.depth i nice b.run }
queued_as (Shared nice) s i b = record b { run = arrived s.depth i nice b.run }
queued_as (Tasklet home class) s i b = record b { lists = pushed class (i ∷ []) b.lists }

-- a task queued
abbrev pub queued : Script → ℕ → Book → Book
queued s i b = queued_as (def_of s i).kind s i b

-- tasks queued one after another
abbrev pub queued_all : Script → List ℕ → Book → Book
queued_all s ids b = fold (λ b i. queued s i b) b ids

-- the least tasks moved from the run list to the end of the normal list, until that has depth items
abbrev pub filled : ℕ → Book → Book
filled depth b =
    let n = depth - length b.lists.normal in
    record b { run = without_least n b.run; lists = pushed Normal (least n b.run) b.lists }

-- the first task of a class's list gone
abbrev pub taken_from : Class → Book → Book
taken_from k b = record b { lists = popped k b.lists }

-- a task unlinked from the wait list, its expiry unset
abbrev pub untimed : ℕ → Book → Book
untimed i b = record b { wait = unlinked i b.wait }

-- a row's expiry at tick T: kept, set so many ticks ahead and armed, or unset with a standing item left in place
abbrev pub timed : ℕ → ℕ → Expiry → WaitList → WaitList
timed T i Keep l = l
timed T i (After delay) l = armed T i (with_expiry i (later T delay) l)
timed T i Never l = with_expiry i 0 l

-- what follows the actions of a row: its expiry
abbrev pub row_ended : ℕ → ℕ → Row → Book → Book
row_ended T i row b = record b { wait = timed T i row.expiry b.wait }
