use Rattle.std.proofs.Common.{◌≡◌, ◌%◌, ℕ, List, [], map, sym, ap, ◌∙◌, arith}
use Rattle.queue_model.specs.RunList.{RunList, least, without_least}
use Rattle.wake_board.specs.Rows.{WordRow}
use Rattle.shared_queue.specs.Sharing.{shared_list}
use Rattle.shared_queue.specs.Dealing.{words_dealt, homes_dealt}
use Rattle.shared_queue.proofs.Deals.{AreAll, none_left, over, over_least, over_list, over_hands, more, words_step, homes_step, sizes_step, without_more}
use Rattle.shared_queue.proofs.Moved.{moves_more}
use Rattle.shared_queue.proofs.shared_queue.SharedQueue.deal.Goals as goal

pub returns-then-not-deal_one-clause-count : goal.returns-then-not-deal_one-clause-count
returns-then-not-deal_one-clause-count g c =
    let l : RunList = shared_list c.args.self.now in
    let m : RunList = shared_list c.loop-picks.self in
    let n : ℕ = c.loop-picks.picks in
    let inv = c.loop-picks.invariant in
    let none : m.items ≡ [] = over l m n inv.list (sym c.if-not-deal_one.ensures.some) in
    let all : AreAll c.args.words.now.workers n c.args.most l = none_left c.args.words.now.workers n c.args.most l inv.count (omega arith) (over_least l m n inv.list none) in
    sym all.count

pub returns-then-not-deal_one-clause-list : goal.returns-then-not-deal_one-clause-list
returns-then-not-deal_one-clause-list g c =
    let l : RunList = shared_list c.args.self.now in
    let m : RunList = shared_list c.loop-picks.self in
    let n : ℕ = c.loop-picks.picks in
    let inv = c.loop-picks.invariant in
    let none : m.items ≡ [] = over l m n inv.list (sym c.if-not-deal_one.ensures.some) in
    let all : AreAll c.args.words.now.workers n c.args.most l = none_left c.args.words.now.workers n c.args.most l inv.count (omega arith) (over_least l m n inv.list none) in
    c.deal_one.ensures.list ∙ (over_list m none ∙ (inv.list ∙ sym all.list))

pub returns-then-not-deal_one-clause-words : goal.returns-then-not-deal_one-clause-words
returns-then-not-deal_one-clause-words g c =
    let l : RunList = shared_list c.args.self.now in
    let m : RunList = shared_list c.loop-picks.self in
    let n : ℕ = c.loop-picks.picks in
    let inv = c.loop-picks.invariant in
    let none : m.items ≡ [] = over l m n inv.list (sym c.if-not-deal_one.ensures.some) in
    let all : AreAll c.args.words.now.workers n c.args.most l = none_left c.args.words.now.workers n c.args.most l inv.count (omega arith) (over_least l m n inv.list none) in
    let start : WordRow = c.args.words.now in
    c.deal_one.ensures.words ∙ (ap (λ (hs : List (ℕ × ℕ)). words_dealt hs c.loop-picks.words) (over_hands (λ i. (n % c.workers-workers.result, i)) m none) ∙ (inv.words ∙ ap (λ (hs : List (ℕ × ℕ)). words_dealt hs start) (sym all.hands)))

pub returns-then-not-deal_one-clause-homes : goal.returns-then-not-deal_one-clause-homes
returns-then-not-deal_one-clause-homes g c =
    let l : RunList = shared_list c.args.self.now in
    let m : RunList = shared_list c.loop-picks.self in
    let n : ℕ = c.loop-picks.picks in
    let inv = c.loop-picks.invariant in
    let none : m.items ≡ [] = over l m n inv.list (sym c.if-not-deal_one.ensures.some) in
    let all : AreAll c.args.words.now.workers n c.args.most l = none_left c.args.words.now.workers n c.args.most l inv.count (omega arith) (over_least l m n inv.list none) in
    let start : List ℕ = c.args.homes.now in
    c.deal_one.ensures.homes ∙ (ap (λ (hs : List (ℕ × ℕ)). homes_dealt hs c.loop-picks.homes) (over_hands (λ i. (n % c.workers-workers.result, i)) m none) ∙ (inv.homes ∙ ap (λ (hs : List (ℕ × ℕ)). homes_dealt hs start) (sym all.hands)))

pub loop-picks-preserved : goal.loop-picks-preserved
loop-picks-preserved g c =
    let l : RunList = shared_list c.args.self.now in
    let m : RunList = shared_list c.loop-picks.self in
    let n : ℕ = c.loop-picks.picks in
    let inv = c.loop-picks.invariant in
    let w : ℕ = c.args.words.now.workers in
    let worker : ℕ = n % c.workers-workers.result in
    let turn : worker ≡ n % w = ap (λ (k : ℕ). n % k) c.workers-workers.ensures in
    let said = c.deal_one.ensures in
    let hands : List (ℕ × ℕ) = map (λ (i : ℕ). let h : ℕ × ℕ = (worker, i) in h) (least 1 m) in
    let sizes = sizes_step hands c.loop-picks.words c.deal_one.new.words said.words in
    record {
      count = more l m n inv.list (sym c.if-not-deal_one.ensures.some);
      list = said.list ∙ (ap (without_least 1) inv.list ∙ without_more n l);
      words = words_step w worker n l m c.args.words.now c.loop-picks.words c.deal_one.new.words inv.list turn inv.count inv.words said.words;
      homes = homes_step w worker n l m c.args.homes.now c.loop-picks.homes c.deal_one.new.homes inv.list turn inv.count inv.homes said.homes;
      boxed = said.boxed;
      tasks = sizes.0 ∙ inv.tasks;
      workers = sizes.1 ∙ inv.workers;
      moves = moves_more c.args.self.now c.loop-picks.self c.deal_one.new.self inv.moves said.moves;
    }
