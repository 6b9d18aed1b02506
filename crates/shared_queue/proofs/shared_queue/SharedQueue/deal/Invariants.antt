use Rattle.std.proofs.Common.{◌≡◌, ◌≤◌, length}
use Rattle.queue_model.specs.RunList.{without_least, hands_out}
use Rattle.shared_queue.specs.Sharing.{shared_list, Moves}
use Rattle.shared_queue.specs.Dealing.{AreBoxed, words_dealt, homes_dealt}
use Rattle.shared_queue.proofs.shared_queue.SharedQueue.deal.Given as goal

-- so many tasks were dealt
abbrev pub invariant-loop-picks : goal.invariant-loop-picks
invariant-loop-picks g l = record {
  count : l.picks ≤ length (shared_list l.fn.self).items;
  list : shared_list l.self ≡ without_least l.picks (shared_list l.fn.self);
  words : l.words ≡ words_dealt (hands_out l.fn.words.workers l.picks (shared_list l.fn.self)) l.fn.words;
  homes : l.homes ≡ homes_dealt (hands_out l.fn.words.workers l.picks (shared_list l.fn.self)) l.fn.homes;
  boxed : AreBoxed (shared_list l.self) l.words;
  tasks : l.words.tasks ≡ l.fn.words.tasks;
  workers : l.words.workers ≡ l.fn.words.workers;
  moves : Moves l.fn.self l.self;
}
