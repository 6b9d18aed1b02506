-- Whether two sides are the same.
use Rattle.std.proofs.Common.{◌≡◌, Bool, true, false, not, refl, sym, ◌∙◌}
use denote.Enum.Bare.{sameb}
use Rattle.eb_arena.specs.contracts.links.Side.{the_type}
use Rattle.eb_arena.specs.declared.links.Side.{Side}
use Rattle.eb_arena.specs.declared.links.Side.TheVariants as sides
use Rattle.eb_arena.specs.Links.{opposite}

not_true_false : true ≡ false → ⊥
not_true_false h = cc

pub ne_same : (s t u : Side) (b : Bool) → b ≡ false → b ≡ not (sameb the_type s t) → s ≡ u → u ≡ t
ne_same sides.Left sides.Left u b h g e = sym e
ne_same sides.Right sides.Right u b h g e = sym e
ne_same sides.Left sides.Right u b h g e = let x : true ≡ false = sym g ∙ h in absurd (not_true_false x)
ne_same sides.Right sides.Left u b h g e = let x : true ≡ false = sym g ∙ h in absurd (not_true_false x)

pub ne_differ : (s t u : Side) (b : Bool) → b ≡ true → b ≡ not (sameb the_type s t) → s ≡ u → u ≡ t → ⊥
ne_differ sides.Left sides.Left u b h g e f = let x : true ≡ false = sym h ∙ g in not_true_false x
ne_differ sides.Right sides.Right u b h g e f = let x : true ≡ false = sym h ∙ g in not_true_false x
ne_differ sides.Left sides.Right u b h g e f = let x : sides.Left ≡ sides.Right = e ∙ f in cc
ne_differ sides.Right sides.Left u b h g e f = let x : sides.Right ≡ sides.Left = e ∙ f in cc

-- of two sides, the one that is not the first is its opposite
pub other_is : (s t : Side) → (s ≡ t → ⊥) → opposite s ≡ t
other_is sides.Left sides.Left n = absurd (n refl)
other_is sides.Left sides.Right n = refl
other_is sides.Right sides.Left n = refl
other_is sides.Right sides.Right n = absurd (n refl)
