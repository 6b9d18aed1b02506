-- Where the descent for a new key ends, and where the key branches off (docs/TREES.md, "Insertion").
use Rattle.std.specs.Prelude.{◌≡◌, ◌≢◌, ℕ, ◌/◌, ◌^◌, ◌<◌}
use Rattle.eb_arena.specs.declared.links.Side.{Side}
use Rattle.eb_arena.specs.declared.links.Side.TheVariants as sides
use Rattle.eb_arena.specs.declared.links.Target.{Target}
use Rattle.eb_arena.specs.Parts.{Parts}
use Rattle.eb_arena.specs.Shape.{Keys}
use Rattle.eb32_walk.specs.Search.{Narrow, own_key}
use Rattle.eb_dups.specs.Spine.{IsTwins}

-- bit b is the highest in which the two keys differ
pub record IsTopBit (own key b : ℕ) : Type 0 where
  pub small : b < 32
  pub differ : own / 2 ^ b ≢ key / 2 ^ b
  pub above : own / 2 ^ b / 2 ≡ key / 2 ^ b / 2

-- a part of a root's tree that holds all of the key, or from which the key branches off
pub record IsLanding (a : Parts) (root key : ℕ) (target : Target) : Type 0 where
  pub narrow : Narrow a root key target
  pub twins : own_key a target ≡ key → IsTwins narrow.tree
  pub same : own_key a target ≡ key → Keys (λ x. x ≡ key) narrow.tree
  pub less : own_key a target < key → Keys (λ x. x < key) narrow.tree
  pub more : key < own_key a target → Keys (λ x. key < x) narrow.tree
  pub near : (b : ℕ) → IsTopBit (own_key a target) key b → Keys (λ x. x / 2 ^ b ≡ own_key a target / 2 ^ b) narrow.tree

-- the side of a new key beside another
pub record SideIs (own key : ℕ) (side : Side) : Type 0 where
  pub left : side ≡ sides.Left → key < own
  pub right : side ≡ sides.Right → own < key
