use Rattle.std.proofs.Common.{◌≡◌, ℕ, ◌<◌, length, sym, ap, ◌∙◌, subst}
use Rattle.eb_arena.specs.Parts.{element_at}
use Rattle.eb32_walk.specs.Search.{Reaches, own_key}
use Rattle.eb32_core.specs.Landing.{IsLanding}
use Rattle.eb32_core.proofs.Landings.{land}
use Rattle.eb32_core.proofs.Placing.{land_some, land_fits}
use Rattle.eb32_core.proofs.Plants.{landed_head, landed_rises, twin_planted, visits_twin, visits_branch, visits_none}
use Rattle.eb32_core.proofs.planting.plant.Goals as goal

pub plant_first-requires-clause-empty : goal.plant_first-requires-clause-empty
plant_first-requires-clause-empty g c = c.in_default.ensures.empty

pub returns-in_default-clause-visits : goal.returns-in_default-clause-visits
returns-in_default-clause-visits g c = visits_none _ _ _ _ _ c.in_default.ensures

pub index-requires : goal.index-requires
index-requires g c = land_some _ _ _ _ (land _ _ _ _ _ _ c.in-Some.ensures)

pub element-requires : goal.element-requires
element-requires g c = subst (λ n. n < length c.args.arena.now.elements) (sym c.index.ensures) (land_fits _ _ _ _ (land _ _ _ _ _ _ c.in-Some.ensures))

pub insert_dup-requires-clause-head : goal.insert_dup-requires-clause-head
insert_dup-requires-clause-head g c =
    let k : c.element-key.result.key ≡ (element_at c.args.arena.now c.args.entry).key = ap (λ x. x.key) c.element-key.ensures in
    let l : IsLanding c.args.arena.now c.args.root (element_at c.args.arena.now c.args.entry).key c.in-Some.part = subst (λ x. IsLanding c.args.arena.now c.args.root x c.in-Some.part) k (land _ _ _ _ _ _ c.in-Some.ensures) in
    let o : own_key c.args.arena.now c.in-Some.part ≡ (element_at c.args.arena.now c.args.entry).key = sym (ap (λ x. x.key) (c.element.ensures ∙ ap (element_at c.args.arena.now) c.index.ensures)) ∙ (c.if-element-key.true ∙ k) in
    (landed_head c.args.arena.now c.requires.roomy.trees c.args.root _ c.in-Some.part l c.requires.roomy.shape c.requires.root_exists o).0

pub insert_dup-requires-clause-room : goal.insert_dup-requires-clause-room
insert_dup-requires-clause-room g c =
    let o : own_key c.args.arena.now c.in-Some.part ≡ c.element-key.result.key = sym (ap (λ x. x.key) (c.element.ensures ∙ ap (element_at c.args.arena.now) c.index.ensures)) ∙ c.if-element-key.true in
    landed_rises c.args.arena.now c.args.root _ c.in-Some.part (land _ _ _ _ _ _ c.in-Some.ensures) c.requires.roomy c.requires.root_exists o

pub returns-then-element-key-clause-plants : goal.returns-then-element-key-clause-plants
returns-then-element-key-clause-plants g c =
    let k : c.element-key.result.key ≡ (element_at c.args.arena.now c.args.entry).key = ap (λ x. x.key) c.element-key.ensures in
    let l : IsLanding c.args.arena.now c.args.root (element_at c.args.arena.now c.args.entry).key c.in-Some.part = subst (λ x. IsLanding c.args.arena.now c.args.root x c.in-Some.part) k (land _ _ _ _ _ _ c.in-Some.ensures) in
    let o : own_key c.args.arena.now c.in-Some.part ≡ (element_at c.args.arena.now c.args.entry).key = sym (ap (λ x. x.key) (c.element.ensures ∙ ap (element_at c.args.arena.now) c.index.ensures)) ∙ (c.if-element-key.true ∙ k) in
    twin_planted c.args.arena.now c.insert_dup.new.arena c.args.root c.in-Some.part c.args.entry l c.requires.root_exists o c.insert_dup.ensures.adds

pub returns-then-element-key-clause-visits : goal.returns-then-element-key-clause-visits
returns-then-element-key-clause-visits g c =
    let k : c.element-key.result.key ≡ (element_at c.args.arena.now c.args.entry).key = ap (λ x. x.key) c.element-key.ensures in
    let r : Reaches c.args.arena.now c.args.root (element_at c.args.arena.now c.args.entry).key c.args.steps.now c.descend.new.steps c.in-Some.part = subst (λ x. Reaches c.args.arena.now c.args.root x c.args.steps.now c.descend.new.steps c.in-Some.part) k c.in-Some.ensures in
    let o : own_key c.args.arena.now c.in-Some.part ≡ (element_at c.args.arena.now c.args.entry).key = sym (ap (λ x. x.key) (c.element.ensures ∙ ap (element_at c.args.arena.now) c.index.ensures)) ∙ (c.if-element-key.true ∙ k) in
    visits_twin _ _ _ _ _ _ _ r o c.insert_dup.ensures.steps

pub branch_off-requires-clause-lands : goal.branch_off-requires-clause-lands
branch_off-requires-clause-lands g c =
    let k : c.element-key.result.key ≡ (element_at c.args.arena.now c.args.entry).key = ap (λ x. x.key) c.element-key.ensures in
    subst (λ x. IsLanding c.args.arena.now c.args.root x c.in-Some.part) k (land _ _ _ _ _ _ c.in-Some.ensures)

pub returns-clause-visits : goal.returns-clause-visits
returns-clause-visits g c =
    let k : c.element-key.result.key ≡ (element_at c.args.arena.now c.args.entry).key = ap (λ x. x.key) c.element-key.ensures in
    let r : Reaches c.args.arena.now c.args.root (element_at c.args.arena.now c.args.entry).key c.args.steps.now c.descend.new.steps c.in-Some.part = subst (λ x. Reaches c.args.arena.now c.args.root x c.args.steps.now c.descend.new.steps c.in-Some.part) k c.in-Some.ensures in
    let same : c.element.result.key ≡ own_key c.args.arena.now c.in-Some.part = ap (λ x. x.key) (c.element.ensures ∙ ap (element_at c.args.arena.now) c.index.ensures) in
    visits_branch _ _ _ _ _ _ r (λ e. c.if-element-key.false (same ∙ (e ∙ sym k)))
