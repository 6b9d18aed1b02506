-- The end of a descent.
use Rattle.std.proofs.Common.{◌≡◌, ℕ, suc, ◌+◌, ◌*◌, ◌/◌, ◌^◌, ◌<◌, inl, inr, refl, sym, ap, ◌∙◌, subst, arith}
use Rattle.std.specs.Prelude.{pos, negsuc, None}
use Rattle.std.proofs.lemmas.Bool.{cases_lt}
use Rattle.std.proofs.lemmas.Nat.{pow-add}
use Rattle.std.proofs.Math.Nat.{div-div-eq-div-mul}
use Rattle.eb_arena.specs.declared.links.Target.{Target}
use Rattle.eb_arena.specs.declared.links.Target.TheVariants as targets
use Rattle.eb_arena.specs.declared.links.Place.{Place}
use Rattle.eb_arena.specs.Links.{index_of}
use Rattle.eb_arena.specs.Parts.{Parts, element_at}
use Rattle.eb_arena.specs.Shape.{Tree, tip, fork, Keys, Hangs, Split, DividesAt, Equals}
use Rattle.eb_arena.proofs.Trees.{Has, keys_at, keys_map, div_level}
use Rattle.eb_arena.proofs.Ways.{part_split, leaf_key}
use Rattle.eb32_walk.specs.Search.{Narrow, Reaches, own_key, turn_of}
use Rattle.eb32_walk.proofs.Seeking.{Lies, node_lies, leaf_lies, turn_none}
use Rattle.eb_dups.specs.Spine.{IsTwins}
use Rattle.eb32_core.specs.Landing.{IsTopBit, IsLanding}

-- how a part is where the key branches off
pub record Ends (own key : ℕ) (t : Tree) : Type 0 where
  pub twins : own ≡ key → IsTwins t
  pub near : (b : ℕ) → IsTopBit own key b → Keys (λ x. x / 2 ^ b ≡ own / 2 ^ b) t

near_equal : (own b : ℕ) (t : Tree) → Keys (λ x. x ≡ own) t → Keys (λ x. x / 2 ^ b ≡ own / 2 ^ b) t
near_equal own b t h = keys_map (λ x. x ≡ own) (λ x. x / 2 ^ b ≡ own / 2 ^ b) t (λ x e. ap (λ z. z / 2 ^ b) e) h

half_is : (b x : ℕ) → x / 2 ^ b / 2 ≡ x / 2 ^ suc b
half_is b x =
    let e : suc b ≡ b + 1 = omega arith in
    let p : 2 ^ suc b ≡ 2 ^ b * 2 = ap (λ y. 2 ^ y) e ∙ pow-add 2 b 1 in
    div-div-eq-div-mul x (2 ^ b) 2 ∙ ap (λ y. x / y) (sym p)

leaf_ends : (a : Parts) (key i : ℕ) (place : Place) (t : Tree) → Hangs a (targets.Leaf i) place t → Ends (element_at a i).key key t
leaf_ends a key i place (tip e k) s =
    let o : k ≡ (element_at a i).key = sym s.3 ∙ ap (λ m. (element_at a m).key) (sym (ap index_of s.0)) in
    record { twins = λ h. tt; near = λ b h. near_equal (element_at a i).key b (tip e k) o }
leaf_ends a key i place (fork j b l r) s = let x : targets.Leaf i ≡ targets.Node j = s.0 in cc

node_ends : (a : Parts) (key i : ℕ) (place : Place) (t : Tree) → Hangs a (targets.Node i) place t → Split t → turn_of (element_at a i).key (element_at a i).bit key ≡ None → Ends (element_at a i).key key t
node_ends a key i place (tip e k) s p t = let x : targets.Node i ≡ targets.Leaf e = s.0 in cc
node_ends a key i place (fork j (negsuc n) l r) s p t =
    let e : j ≡ i = sym (ap index_of s.0) in
    let v : Equals n l r = p.2 in
    let own : ℕ = (element_at a i).key in
    let k : Has (element_at a j).key (fork j (negsuc n) l r) = leaf_key a (fork j (negsuc n) l r) _ place j s p.0 in
    let o : own ≡ v.k = ap (λ m. (element_at a m).key) (sym e) ∙ keys_at (λ x. x ≡ v.k) (fork j (negsuc n) l r) (element_at a j).key (v.left, v.right) k in
    let all : Keys (λ x. x ≡ own) (fork j (negsuc n) l r) = keys_map (λ x. x ≡ v.k) (λ x. x ≡ own) (fork j (negsuc n) l r) (λ x f. f ∙ sym o) (v.left, v.right) in
    record { twins = λ h. tt; near = λ b h. near_equal own b (fork j (negsuc n) l r) all }
node_ends a key i place (fork j (pos b) l r) s p t =
    let e : j ≡ i = sym (ap index_of s.0) in
    let d : DividesAt b l r = p.2 in
    let own : ℕ = (element_at a i).key in
    let bit : (element_at a i).bit ≡ pos b = ap (λ m. (element_at a m).bit) (sym e) ∙ s.3 in
    let no : key / 2 ^ b / 2 ≡ own / 2 ^ b / 2 → ⊥ = turn_none own b key (sym (ap (λ z. turn_of own z key) bit) ∙ t) in
    let up : Keys (λ x. x / 2 ^ b / 2 ≡ d.q) (fork j (pos b) l r) = (keys_map (λ x. x / 2 ^ b ≡ 2 * d.q) (λ x. x / 2 ^ b / 2 ≡ d.q) l (λ x f. omega arith) d.left, keys_map (λ x. x / 2 ^ b ≡ 2 * d.q + 1) (λ x. x / 2 ^ b / 2 ≡ d.q) r (λ x f. omega arith) d.right) in
    let k : Has (element_at a j).key (fork j (pos b) l r) = leaf_key a (fork j (pos b) l r) _ place j s p.0 in
    let o : own / 2 ^ b / 2 ≡ d.q = ap (λ m. (element_at a m).key / 2 ^ b / 2) (sym e) ∙ keys_at (λ x. x / 2 ^ b / 2 ≡ d.q) (fork j (pos b) l r) (element_at a j).key up k in
    record {
      twins = λ h. absurd (no (ap (λ z. z / 2 ^ b / 2) (sym h)));
      near = λ c h.
          let lt : b < c = elim (cases_lt b c) [
            | inl lt ↦ lt
            | inr le ↦
                let u : own / 2 ^ suc c ≡ key / 2 ^ suc c = sym (half_is c own) ∙ (h.above ∙ half_is c key) in
                let v : own / 2 ^ suc b ≡ key / 2 ^ suc b = div_level (suc c) (suc b) own key (omega arith) u in
                absurd (no (half_is b key ∙ (sym v ∙ sym (half_is b own))))
          ] in
          keys_map (λ x. x / 2 ^ b / 2 ≡ d.q) (λ x. x / 2 ^ c ≡ own / 2 ^ c) (fork j (pos b) l r) (λ x f. div_level (suc b) c x own (omega arith) (sym (half_is b x) ∙ (f ∙ (sym o ∙ half_is b own)))) up;
    }

land_at : (a : Parts) (q key : ℕ) (target : Target) (n : Narrow a q key target) → Lies (own_key a target) key n.tree → Ends (own_key a target) key n.tree → IsLanding a q key target
land_at a q key target n l e = record { narrow = n; twins = e.twins; same = l.same; less = l.less; more = l.more; near = e.near }

-- where a descent stops, the key branches off or all of it stands there
pub land : (a : Parts) (q key old new : ℕ) (part : Target) → Reaches a q key old new part → IsLanding a q key part
land a q key old new targets.Nothing r = absurd r.stops
land a q key old new (targets.Leaf i) r =
    land_at a q key (targets.Leaf i) r.narrow (leaf_lies a key i r.narrow.place r.narrow.tree r.narrow.stands) (leaf_ends a key i r.narrow.place r.narrow.tree r.narrow.stands)
land a q key old new (targets.Node i) r =
    let s : Split r.narrow.tree = part_split r.narrow.way r.narrow.tree r.narrow.split in
    land_at a q key (targets.Node i) r.narrow (node_lies a key i r.narrow.place r.narrow.tree r.narrow.stands s r.stops) (node_ends a key i r.narrow.place r.narrow.tree r.narrow.stands s r.stops)
