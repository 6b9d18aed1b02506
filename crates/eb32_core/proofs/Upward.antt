-- The way up from an entry to its root.
use Rattle.std.proofs.Common.{◌≡◌, ℕ, ◌+◌, ◌-◌, ◌<◌, ◌≤◌, List, [], ◌∷◌, length, true, refl, sym, ap, ◌∙◌, subst, arith}
use Rattle.std.specs.Prelude.{Option, Some, None, IsSomeAnd}
use Rattle.std.specs.List.{list_any}
use Rattle.sched_base.specs.KeyedList.{is_entry}
use Rattle.eb_arena.specs.declared.links.Place.{Place}
use Rattle.eb_arena.specs.Links.{place_index}
use Rattle.eb_arena.specs.Parts.{Parts, element_at}
use Rattle.eb_arena.specs.Shape.{Tree, tip, Split, HasLeaf, IsRoot, HasShape, InSome, list_of}
use Rattle.eb_arena.specs.Way.{Step, from_left, from_right, plug, Leads}
use Rattle.eb_arena.proofs.Reading.{list_of_is}
use Rattle.eb_arena.proofs.Ways.{LeafWay, leaf_way}
use Rattle.eb32_walk.specs.Ends.{IsIn, IsPlace}
use Rattle.eb32_walk.proofs.Up.{Climb, climb}
use Rattle.eb32_core.proofs.Standing.{leaf_held}

-- from the place a way leads up to a root in which the entry stands
pub record IsOver (a : Parts) (e : ℕ) (place : Place) : Type 0 where
  pub root : ℕ
  pub way : List Step
  pub tree : Tree
  pub leads : Leads a root place way
  pub split : Split (plug way tree)
  pub exists : root < length a.links
  pub held : list_any (is_entry e) (list_of a root) ≡ true

over_at : (a : Parts) (q e : ℕ) (o : Option Tree) → q < length a.links → IsRoot a q o → IsSomeAnd o (HasLeaf e) → IsOver a e (element_at a e).leaf_p
over_at a q e None f r h = absurd h
over_at a q e (Some t) f r h =
    let w : LeafWay a q t e = leaf_way a q t [] _ _ e r.0 refl h in
    record { root = q; way = w.way; tree = tip e (element_at a e).key; leads = w.leads; split = subst Split (sym w.whole_is) r.1; exists = f; held = ap (list_any (is_entry e)) (list_of_is a q (Some t) r) ∙ leaf_held e t h }

-- the place of the entry is such a place
pub over_start : (a : Parts) (e : ℕ) (place : Place) → HasShape a → IsIn a e → place ≡ (element_at a e).leaf_p → IsOver a e place
over_start a e place h i is =
    let s : InSome a h.0 (HasLeaf e) = h.1.leaves e i.0 i.1 in
    subst (IsOver a e) (sym is) (over_at a s.0 e (h.0 s.0) s.1.0 (h.1.roots s.0 s.1.0) s.1.1)

pub over_place : (a : Parts) (e : ℕ) (place : Place) → IsOver a e place → IsPlace a place
over_place a e place h = record { root = h.root; way = h.way; tree = h.tree; leads = h.leads; split = h.split }

-- and so is the one above it
pub over_up : (a : Parts) (e : ℕ) (place next : Place) → IsOver a e place → place_index place < length a.elements → next ≡ (element_at a (place_index place)).node_p → IsOver a e next
over_up a e place next h f is =
    let c : Climb a h.root place = climb a h.root place h.way h.tree h.leads h.split f in
    record { root = h.root; way = c.way; tree = c.tree; leads = subst (λ p. Leads a h.root p c.way) (sym is) c.leads; split = c.split; exists = h.exists; held = h.held }

root_by_way : (a : Parts) (q : ℕ) (place : Place) (w : List Step) → Leads a q place w → length a.elements ≤ place_index place → place_index place - length a.elements ≡ q
root_by_way a q place [] h f = let x : place_index place ≡ length a.elements + q = ap place_index h in omega arith
root_by_way a q place (from_left i b r ∷ w) h f = let x : place_index place ≡ i = ap place_index h.0 in let y : i < length a.elements = h.1 in absurd (omega arith)
root_by_way a q place (from_right i b r ∷ w) h f = let x : place_index place ≡ i = ap place_index h.0 in let y : i < length a.elements = h.1 in absurd (omega arith)

-- behind all elements the place tells the root
pub over_root : (a : Parts) (e : ℕ) (place : Place) (h : IsOver a e place) → length a.elements ≤ place_index place → place_index place - length a.elements ≡ h.root
over_root a e place h f = root_by_way a h.root place h.way h.leads f
