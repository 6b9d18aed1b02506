use Rattle.std.proofs.Common.{◌≡◌, ◌+◌, ◌<◌, ◌^◌, set, length, slice_index, sym, ap, ◌∙◌, subst}
use Rattle.std.proofs.lemmas.List.{get_or_default}
use Rattle.sched_base.specs.KeyedList.{inserted_into, IsFree}
use Rattle.eb_arena.specs.declared.links.Place.TheVariants as places
use Rattle.eb_arena.specs.Parts.{Parts, element_at}
use Rattle.eb_dups.specs.Cost.{ChangesFew}
use Rattle.eb_dups.proofs.Cost.{keeps_set, few_after}
use Rattle.eb32_core.specs.Forest.{Grove, IsTended, InTrees, Gains, IsBrief, seen_of}
use Rattle.eb32_core.specs.Planted.{Plants, IsRoomy, Visits}
use Rattle.eb32_core.proofs.Groves.{Inserted, keyed, key_leaf, key_shape, roomy, inserted_grove, gains, brief}
use Rattle.eb32_core.proofs.Standing.{tended, free_nowhere}
use Rattle.eb32_core.proofs.forest.Forest.insert.Goals as goal

pub plant-requires-clause-roomy : goal.plant-requires-clause-roomy
plant-requires-clause-roomy g c =
    let f : Grove = record { parts = c.self.inside.arena; made = c.self.inside.made.items } in
    let v : f ≡ c.args.self.now = c.self.view_is in
    let se : c.set_key.new.self ≡ keyed c.self.inside.arena c.args.entry c.args.key = c.set_key.ensures in
    let r : c.args.root < length f.parts.links = subst (λ x. c.args.root < length x.parts.links) (sym v) c.requires.root_exists in
    let e : c.args.entry < length f.parts.elements = subst (λ x. c.args.entry < length x.parts.elements) (sym v) c.requires.entry_exists in
    let n : (element_at f.parts c.args.entry).leaf_p ≡ places.Nowhere = free_nowhere f c.args.entry (tended f c.self.invariant) e (subst (λ x. IsFree c.args.entry (seen_of x)) (sym v) c.requires.free) in
    let m : slice_index f.made c.args.root + 1 < 2 ^ 63 = subst (λ x. slice_index x.made c.args.root + 1 < 2 ^ 63) (sym v) c.requires.room in
    subst (λ z. IsRoomy z c.args.root) (sym se) (roomy f c.args.root c.args.entry c.args.key c.self.invariant r e n m)

pub plant-requires-clause-free : goal.plant-requires-clause-free
plant-requires-clause-free g c =
    let f : Grove = record { parts = c.self.inside.arena; made = c.self.inside.made.items } in
    let v : f ≡ c.args.self.now = c.self.view_is in
    let se : c.set_key.new.self ≡ keyed c.self.inside.arena c.args.entry c.args.key = c.set_key.ensures in
    let e : c.args.entry < length f.parts.elements = subst (λ x. c.args.entry < length x.parts.elements) (sym v) c.requires.entry_exists in
    let n : (element_at f.parts c.args.entry).leaf_p ≡ places.Nowhere = free_nowhere f c.args.entry (tended f c.self.invariant) e (subst (λ x. IsFree c.args.entry (seen_of x)) (sym v) c.requires.free) in
    subst (λ z. (element_at z c.args.entry).leaf_p ≡ places.Nowhere) (sym se) (key_leaf f.parts c.args.entry c.args.key c.args.entry e ∙ n)

pub invariant_of-self : goal.invariant_of-self
invariant_of-self g c =
    let f : Grove = record { parts = c.self.inside.arena; made = c.self.inside.made.items } in
    let v : f ≡ c.args.self.now = c.self.view_is in
    let se : c.set_key.new.self ≡ keyed c.self.inside.arena c.args.entry c.args.key = c.set_key.ensures in
    let r : c.args.root < length f.parts.links = subst (λ x. c.args.root < length x.parts.links) (sym v) c.requires.root_exists in
    let e : c.args.entry < length f.parts.elements = subst (λ x. c.args.entry < length x.parts.elements) (sym v) c.requires.entry_exists in
    let n : (element_at f.parts c.args.entry).leaf_p ≡ places.Nowhere = free_nowhere f c.args.entry (tended f c.self.invariant) e (subst (λ x. IsFree c.args.entry (seen_of x)) (sym v) c.requires.free) in
    let i : Inserted f (record { parts = c.plant.new.arena; made = set f.made c.args.root (slice_index f.made c.args.root + 1) }) c.args.root c.args.entry c.args.key = inserted_grove f c.plant.new.arena c.args.root c.args.entry c.args.key c.self.invariant r e n (subst (λ a. Plants a c.plant.new.arena c.args.root c.args.entry) se c.plant.ensures.plants) in
    let rm : c.args.root < length f.made = subst (λ y. c.args.root < y) (sym c.self.invariant.counts) r in
    let x : c.index_mut.result.now ≡ slice_index f.made c.args.root = c.index_mut.ensures.value ∙ get_or_default f.made c.args.root c.index_mut.result.now 0 rm in
    subst (λ y. IsTended (record { parts = c.plant.new.arena; made = set f.made c.args.root (y + 1) })) (sym x) i.tended

pub returns-clause-inserts : goal.returns-clause-inserts
returns-clause-inserts g c =
    let f : Grove = record { parts = c.self.inside.arena; made = c.self.inside.made.items } in
    let v : f ≡ c.args.self.now = c.self.view_is in
    let se : c.set_key.new.self ≡ keyed c.self.inside.arena c.args.entry c.args.key = c.set_key.ensures in
    let r : c.args.root < length f.parts.links = subst (λ x. c.args.root < length x.parts.links) (sym v) c.requires.root_exists in
    let e : c.args.entry < length f.parts.elements = subst (λ x. c.args.entry < length x.parts.elements) (sym v) c.requires.entry_exists in
    let n : (element_at f.parts c.args.entry).leaf_p ≡ places.Nowhere = free_nowhere f c.args.entry (tended f c.self.invariant) e (subst (λ x. IsFree c.args.entry (seen_of x)) (sym v) c.requires.free) in
    let i : Inserted f (record { parts = c.plant.new.arena; made = set f.made c.args.root (slice_index f.made c.args.root + 1) }) c.args.root c.args.entry c.args.key = inserted_grove f c.plant.new.arena c.args.root c.args.entry c.args.key c.self.invariant r e n (subst (λ a. Plants a c.plant.new.arena c.args.root c.args.entry) se c.plant.ensures.plants) in
    let rm : c.args.root < length f.made = subst (λ y. c.args.root < y) (sym c.self.invariant.counts) r in
    let x : c.index_mut.result.now ≡ slice_index f.made c.args.root = c.index_mut.ensures.value ∙ get_or_default f.made c.args.root c.index_mut.result.now 0 rm in
    let s : seen_of (record { parts = c.plant.new.arena; made = set f.made c.args.root (c.index_mut.result.now + 1) }) ≡ inserted_into c.args.root c.args.entry c.args.key (seen_of f) = ap (λ y. seen_of (record { parts = c.plant.new.arena; made = set f.made c.args.root (y + 1) })) x ∙ i.seen in
    s ∙ ap (λ y. inserted_into c.args.root c.args.entry c.args.key (seen_of y)) v

pub returns-clause-few : goal.returns-clause-few
returns-clause-few g c =
    let f : Grove = record { parts = c.self.inside.arena; made = c.self.inside.made.items } in
    subst (λ x. ChangesFew 3 c.args.entry x.parts c.plant.new.arena) c.self.view_is (few_after 3 c.args.entry f.parts c.set_key.new.self c.plant.new.arena (keeps_set f.parts c.set_key.new.self c.args.entry (record (element_at f.parts c.args.entry) { key = c.args.key }) c.set_key.ensures) c.plant.ensures.few)

pub returns-clause-trees : goal.returns-clause-trees
returns-clause-trees g c =
    let f : Grove = record { parts = c.self.inside.arena; made = c.self.inside.made.items } in
    let v : f ≡ c.args.self.now = c.self.view_is in
    let se : c.set_key.new.self ≡ keyed c.self.inside.arena c.args.entry c.args.key = c.set_key.ensures in
    let r : c.args.root < length f.parts.links = subst (λ x. c.args.root < length x.parts.links) (sym v) c.requires.root_exists in
    let e : c.args.entry < length f.parts.elements = subst (λ x. c.args.entry < length x.parts.elements) (sym v) c.requires.entry_exists in
    let n : (element_at f.parts c.args.entry).leaf_p ≡ places.Nowhere = free_nowhere f c.args.entry (tended f c.self.invariant) e (subst (λ x. IsFree c.args.entry (seen_of x)) (sym v) c.requires.free) in
    subst (λ x. InTrees x.parts c.plant.new.arena (Gains (length x.parts.links) c.args.root c.args.entry c.args.key)) v (gains f c.plant.new.arena c.args.root c.args.entry c.args.key r e n (subst (λ a. Plants a c.plant.new.arena c.args.root c.args.entry) se c.plant.ensures.plants))

pub returns-clause-steps : goal.returns-clause-steps
returns-clause-steps g c =
    let f : Grove = record { parts = c.self.inside.arena; made = c.self.inside.made.items } in
    let v : f ≡ c.args.self.now = c.self.view_is in
    let se : c.set_key.new.self ≡ keyed c.self.inside.arena c.args.entry c.args.key = c.set_key.ensures in
    let r : c.args.root < length f.parts.links = subst (λ x. c.args.root < length x.parts.links) (sym v) c.requires.root_exists in
    let e : c.args.entry < length f.parts.elements = subst (λ x. c.args.entry < length x.parts.elements) (sym v) c.requires.entry_exists in
    let n : (element_at f.parts c.args.entry).leaf_p ≡ places.Nowhere = free_nowhere f c.args.entry (tended f c.self.invariant) e (subst (λ x. IsFree c.args.entry (seen_of x)) (sym v) c.requires.free) in
    let k : Parts = keyed f.parts c.args.entry c.args.key in
    let visits : Visits k c.args.root (element_at k c.args.entry).key c.args.steps.now c.plant.new.steps = subst (λ a. Visits a c.args.root (element_at a c.args.entry).key c.args.steps.now c.plant.new.steps) se c.plant.ensures.visits in
    subst (λ x. IsBrief (slice_index x.made c.args.root) c.args.steps.now c.plant.new.steps) v (brief k c.self.invariant.trees (slice_index f.made c.args.root) c.args.root (element_at k c.args.entry).key _ _ (key_shape f.parts c.self.invariant.trees c.args.entry c.args.key c.self.invariant.shape e n) r (c.self.invariant.spines c.args.root r) visits)
