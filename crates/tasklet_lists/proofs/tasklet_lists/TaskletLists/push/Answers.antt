use Rattle.std.proofs.Common.{◌≡◌, ℕ, ◌+◌, ◌<◌, ◌≤◌, List, [], ◌∷◌, length, refl, sym, ap, ◌∙◌, arith}
use Rattle.queue_model.specs.Classes.{Classes, pushed}
use Rattle.tasklet_lists.specs.Links.{lists_of, ends_of, with_ends, list_of, in_all, AreSound, joined, joined_ends}
use Rattle.tasklet_lists.proofs.Four.{absent, last-within, lists-joined, sound-joined, room-for, length-joined}
use Rattle.tasklet_lists.proofs.tasklet_lists.TaskletLists.push.Goals as goal

pub join-longer-requires-clause-last : goal.join-longer-requires-clause-last
join-longer-requires-clause-last c =
    rw c.of-ends.ensures (last-within (length c.self.inside.following.items) c.args.class c.self.inside.following.items c.self.inside.ends c.self.invariant.sound)

pub join-longer-requires-clause-few : goal.join-longer-requires-clause-few
join-longer-requires-clause-few c =
    let f = c.self.inside.following.items in
    let a = c.self.inside.ends in
    let lt = rw (← c.self.view_is) at c.requires.exists in
    let none = rw (← c.self.view_is) at c.requires.apart in
    rw c.of-ends.ensures (omega (arith, room-for (length f) c.args.class f a c.args.id.0 lt (absent c.args.id.0 (lists_of f a) none) c.self.invariant.sound, c.self.invariant.few))

pub invariant_of-self : goal.invariant_of-self
invariant_of-self c =
    let f = c.self.inside.following.items in
    let a = c.self.inside.ends in
    let k = c.args.class in
    let i = c.args.id.0 in
    let lt = rw (← c.self.view_is) at c.requires.exists in
    let none = rw (← c.self.view_is) at c.requires.apart in
    let sound = sound-joined (length f) k a (lists_of f a) i lt (absent i (lists_of f a) none) c.self.invariant.sound in
    rw (c.join-longer.ensures.linked, c.set.ensures, c.join-longer.ensures.ends, c.of-ends.ensures) (record {
      sound = rw (lists-joined (length f) k f a i refl c.self.invariant.sound, length-joined f (ends_of k a) i) sound;
      few = rw (length-joined f (ends_of k a) i) c.self.invariant.few;
    })

pub returns : goal.returns
returns c =
    let f = c.self.inside.following.items in
    let a = c.self.inside.ends in
    let k = c.args.class in
    let i = c.args.id.0 in
    rw (← c.self.view_is, c.join-longer.ensures.linked, c.set.ensures, c.join-longer.ensures.ends, c.of-ends.ensures, length-joined f (ends_of k a) i, lists-joined (length f) k f a i refl c.self.invariant.sound)
