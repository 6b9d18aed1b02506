use Rattle.std.proofs.Common.{◌≡◌, ◌<◌, false, length, sym, ap, ◌∙◌, subst}
use Rattle.eb_arena.specs.Parts.{element_at}
use Rattle.eb32_walk.specs.Search.{own_key}
use Rattle.eb32_core.proofs.Landings.{land}
use Rattle.eb32_core.proofs.Placing.{land_some, land_fits}
use Rattle.eb32_core.proofs.Plants.{landed_head, landed_none}
use Rattle.eb32_core.proofs.heads.head_of_key.Goals as goal

pub index-requires : goal.index-requires
index-requires c = land_some _ _ _ _ (land _ _ _ _ _ _ c.in_ok-part.ensures.reached.1)

pub element-requires : goal.element-requires
element-requires c = subst (λ n. n < length c.args.arena.now.elements) (sym c.index.ensures) (land_fits _ _ _ _ (land _ _ _ _ _ _ c.in_ok-part.ensures.reached.1))

pub returns-then-element-key : goal.returns-then-element-key
returns-then-element-key c =
    let o : own_key c.args.arena.now c.in_ok-part.part ≡ c.args.key = sym (ap (λ x. x.key) (c.element.ensures ∙ ap (element_at c.args.arena.now) c.index.ensures)) ∙ c.if-element-key.true in
    landed_head c.args.arena.now c.requires.shape.0 c.args.root c.args.key c.in_ok-part.part (land _ _ _ _ _ _ c.in_ok-part.ensures.reached.1) c.requires.shape.1 c.requires.exists o

pub returns-else-element-key : goal.returns-else-element-key
returns-else-element-key c =
    let same : c.element.result.key ≡ own_key c.args.arena.now c.in_ok-part.part = ap (λ x. x.key) (c.element.ensures ∙ ap (element_at c.args.arena.now) c.index.ensures) in
    landed_none c.args.arena.now c.args.root c.args.key c.in_ok-part.part (land _ _ _ _ _ _ c.in_ok-part.ensures.reached.1) (λ e. c.if-element-key.false (same ∙ e))
