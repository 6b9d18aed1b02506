use Rattle.std.proofs.Common.{◌≡◌, ◌+◌, min, refl, ap, ◌∙◌}
use Rattle.sched_base.specs.declared.names.Class.TheVariants.{Urgent, Normal, Bulk, Heavy}
use Rattle.queue_model.specs.Classes.{share}
use Rattle.tasklet_lists.specs.Links.{lists_of}
use Rattle.tasklet_lists.proofs.Shares.{all_count, is-share, same-sum, same-four}
use Rattle.tasklet_lists.proofs.tasklet_lists.TaskletLists.quotas.Goals as goal

pub returns : goal.returns
returns c =
    let f = c.self.inside.following.items in
    let a = c.self.inside.ends in
    let d = c.args.depth in
    let u = c.weight_of.result in
    let n = c.weight_of-2.result in
    let b = c.weight_of-3.result in
    let h = c.weight_of-4.result in
    let sum : u + n + b + h ≡ all_count a = same-sum u n b h _ _ _ _ c.weight_of.ensures c.weight_of-2.ensures c.weight_of-3.ensures c.weight_of-4.ensures in
    let urgent = is-share d Urgent f a u (u + n + b + h) c.share_of.result refl c.weight_of.ensures sum c.share_of.ensures in
    let normal = is-share d Normal f a n (u + n + b + h) c.share_of-2.result refl c.weight_of-2.ensures sum c.share_of-2.ensures in
    let bulk = is-share d Bulk f a b (u + n + b + h) c.share_of-3.result refl c.weight_of-3.ensures sum c.share_of-3.ensures in
    let heavy = is-share d Heavy f a h (u + n + b + h) c.share_of-4.result refl c.weight_of-4.ensures sum c.share_of-4.ensures in
    rw (← c.self.view_is) (same-four _ _ _ _ _ _ _ _ urgent normal bulk (c.at_most_one.ensures ∙ ap (λ m. min 1 m) heavy))
