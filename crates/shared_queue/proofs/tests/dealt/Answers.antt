use Rattle.std.proofs.Common.{◌≡◌, arith}
use Rattle.queue_model.specs.RunList.{hands_out}
use Rattle.shared_queue.specs.Sharing.{shared_list}
use Rattle.shared_queue.proofs.Deals.{sizes_step}
use Rattle.shared_queue.proofs.tests.dealt.Goals as goal

pub box_word-requires-clause-exists : goal.box_word-requires-clause-exists
box_word-requires-clause-exists g c =
    let words = c.in_ok-words.words in
    let sizes = sizes_step (hands_out words.workers c.args.most (shared_list c.gather.new.self)) words c.deal-count.new.words c.deal-count.ensures.words in
    let tasks : c.deal-count.new.words.tasks ≡ words.tasks = sizes.0 in
    let three : words.tasks ≡ 3 = c.in_ok-words.ensures in
    omega arith

pub box_word-requires-2-clause-exists : goal.box_word-requires-2-clause-exists
box_word-requires-2-clause-exists g c =
    let words = c.in_ok-words.words in
    let sizes = sizes_step (hands_out words.workers c.args.most (shared_list c.gather.new.self)) words c.deal-count.new.words c.deal-count.ensures.words in
    let tasks : c.deal-count.new.words.tasks ≡ words.tasks = sizes.0 in
    let three : words.tasks ≡ 3 = c.in_ok-words.ensures in
    omega arith
