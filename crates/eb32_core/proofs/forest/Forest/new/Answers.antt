use Rattle.std.proofs.Common.{◌≡◌, ℕ, List, sym, ap, ◌∙◌, subst, replicate}
use Rattle.eb_arena.specs.Parts.{Parts, unused}
use Rattle.eb_arena.specs.declared.links.Target.TheVariants as targets
use Rattle.eb32_core.specs.Forest.{IsTended, seen_of}
use Rattle.eb32_core.proofs.Groves.{empty_tended, empty_seen}
use Rattle.eb32_core.proofs.forest.Forest.new.Goals as goal

pub invariant_of-result : goal.invariant_of-result
invariant_of-result c =
    let m : c.in_ok-made.made.items ≡ replicate c.args.roots 0 = c.in_ok-made.ensures.items_if_clones_equal (λ y e. e) in
    subst (λ (p : Parts). IsTended (record { parts = p; made = c.in_ok-made.made.items })) (sym c.in_ok-arena.ensures) (subst (λ (l : List ℕ). IsTended (record { parts = record { elements = replicate c.args.entries unused; links = replicate c.args.roots targets.Nothing }; made = l })) (sym m) (empty_tended c.args.roots c.args.entries c.requires))

pub returns-clause-empty : goal.returns-clause-empty
returns-clause-empty c =
    let m : c.in_ok-made.made.items ≡ replicate c.args.roots 0 = c.in_ok-made.ensures.items_if_clones_equal (λ y e. e) in
    ap (λ (p : Parts). seen_of (record { parts = p; made = c.in_ok-made.made.items })) c.in_ok-arena.ensures ∙ (ap (λ (l : List ℕ). seen_of (record { parts = record { elements = replicate c.args.entries unused; links = replicate c.args.roots targets.Nothing }; made = l })) m ∙ empty_seen c.args.roots c.args.entries)
