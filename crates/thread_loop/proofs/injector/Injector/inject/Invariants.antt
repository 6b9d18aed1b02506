use Rattle.std.proofs.Common.{◌≡◌, ◌+◌, ◌*◌, ◌≤◌, drop, length}
use Rattle.thread_loop.specs.Events.{actions_all}
use Rattle.thread_loop.specs.BoardTurns.{AtActions, HasInjected}
use Rattle.thread_loop.proofs.injector.Injector.inject.Given as goal

-- the later events are left
abbrev pub invariant-loop-event : goal.invariant-loop-event
invariant-loop-event g l = record {
  at : AtActions l.script l.board (actions_all (drop l.event-index l.events)) l.pass;
  injected : HasInjected l.script (actions_all l.events) (actions_all (drop l.event-index l.events)) l.initial.pass l.self.entries l.pass;
  spare : length l.self.entries + 2 * length (drop l.event-index l.events) ≤ l.self.room;
  room : l.self.room ≡ l.initial.self.room;
}
