use Rattle.std.proofs.Common.{◌≡◌, ◌+◌, ◌^◌, ◌<◌, length, ap, ◌∙◌, subst, arith}
use Rattle.eb_arena.specs.Shape.{HasShape}
use Rattle.eb32_core.proofs.Standing.{Stood, entries_are, root_fits, made_is}
use Rattle.eb32_core.proofs.keyed.ForestKeyedLists.insert.Goals as goal

pub prove-unreachable-requires : goal.prove-unreachable-requires
prove-unreachable-requires c =
    let s : Stood c.args.self.now = record { counts = c.arena.ensures.counts; shape = subst HasShape c.arena.ensures.same c.arena.ensures.shape } in
    let x : c.args.root < length c.args.self.now.parts.links = root_fits _ _ s c.requires.root_exists in
    let y : c.roots-roots.result ≡ length c.args.self.now.parts.links = c.roots-roots.ensures.count ∙ ap (λ a. length a.links) c.arena.ensures.same in
    omega (arith, c.if-prove.true)

pub put-requires-clause-root_exists : goal.put-requires-clause-root_exists
put-requires-clause-root_exists c =
    let s : Stood c.args.self.now = record { counts = c.arena.ensures.counts; shape = subst HasShape c.arena.ensures.same c.arena.ensures.shape } in
    root_fits _ _ s c.requires.root_exists

pub put-requires-clause-room : goal.put-requires-clause-room
put-requires-clause-room c =
    let s : Stood c.args.self.now = record { counts = c.arena.ensures.counts; shape = subst HasShape c.arena.ensures.same c.arena.ensures.shape } in
    subst (λ n. n + 1 < 2 ^ 63) (made_is _ _ s c.requires.root_exists) c.requires.room

pub put-requires-clause-entry_exists : goal.put-requires-clause-entry_exists
put-requires-clause-entry_exists c = subst (λ n. c.args.entry < n) (entries_are c.args.self.now) c.requires.entry_exists
