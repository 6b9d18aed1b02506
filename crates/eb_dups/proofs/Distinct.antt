-- The parts of a tree are distinct, and those of different trees too.
use Rattle.std.proofs.Common.{◌≡◌, ℕ, ◌⊎◌, inl, inr, List, [], ◌∷◌, ◌++◌, get_or, reverse, refl, sym, ap, ◌∙◌, subst, append_assoc}
use Rattle.std.specs.Prelude.{ℤ}
use Rattle.std.proofs.lemmas.List.{reverse-append, append_cancel_right}
use Rattle.eb_arena.specs.declared.links.Target.{Target}
use Rattle.eb_arena.specs.declared.links.Place.{Place}
use Rattle.eb_arena.specs.declared.links.Place.TheVariants as places
use Rattle.eb_arena.specs.Parts.{Parts, element_at}
use Rattle.eb_arena.specs.Shape.{Tree, tip, fork, Hangs, Split, HasLeaf, HasNode, root_place}
use Rattle.eb_arena.specs.Way.{Step, from_left, from_right, plug, Leads}
use Rattle.eb_arena.proofs.Unique.{one_way, leads_somewhere}
use Rattle.eb_arena.proofs.Frame.{not_below}

-- each node is above the leaf of its own entry
pub node_leaf : (t : Tree) (n : ℕ) → Split t → HasNode n t → HasLeaf n t
node_leaf (tip e k) n s h = absurd h
node_leaf (fork i b l r) n s h =
    elim h [
      | inl e ↦ subst (λ m. HasLeaf m l ⊎ HasLeaf m r) (sym e) s.0
      | inr g ↦ elim g [ inl g ↦ inl (node_leaf l n s.3 g) | inr g ↦ inr (node_leaf r n s.4 g) ]
    ]

-- the way up from a leaf of a part goes on by the part's way
pub record LeafFoot (a : Parts) (q : ℕ) (c : List Step) (e : ℕ) : Type 0 where
  pub foot : List Step
  pub leads : Leads a q (element_at a e).leaf_p (foot ++ c)

pub leaf_foot : (a : Parts) (q : ℕ) (t : Tree) (c : List Step) (target : Target) (place : Place) (e : ℕ) → Hangs a target place t → Leads a q place c → HasLeaf e t → LeafFoot a q c e
leaf_foot a q (tip f m) c target place e s w h =
    record { foot = []; leads = subst (λ p. Leads a q p c) (sym s.2 ∙ ap (λ n. (element_at a n).leaf_p) (sym h)) w }
leaf_foot a q (fork i b l r) c target place e s w h =
    let up : Leads a q (element_at a i).node_p c = subst (λ p. Leads a q p c) (sym s.2) w in
    elim h [
      | inl g ↦ let f : LeafFoot a q (from_left i b r ∷ c) e = leaf_foot a q l (from_left i b r ∷ c) _ _ e s.4 (refl, s.1, s.3, s.5, up) g in
          record { foot = f.foot ++ from_left i b r ∷ []; leads = subst (λ x. Leads a q (element_at a e).leaf_p x) (sym (append_assoc f.foot (from_left i b r ∷ []) c)) f.leads }
      | inr g ↦ let f : LeafFoot a q (from_right i b l ∷ c) e = leaf_foot a q r (from_right i b l ∷ c) _ _ e s.5 (refl, s.1, s.3, s.4, up) g in
          record { foot = f.foot ++ from_right i b l ∷ []; leads = subst (λ x. Leads a q (element_at a e).leaf_p x) (sym (append_assoc f.foot (from_right i b l ∷ []) c)) f.leads }
    ]

last_same : (f g c : List Step) (x y : Step) → f ++ x ∷ c ≡ g ++ y ∷ c → x ≡ y
last_same f g c x y h =
    let e : (f ++ x ∷ []) ++ c ≡ (g ++ y ∷ []) ++ c = append_assoc f (x ∷ []) c ∙ (h ∙ sym (append_assoc g (y ∷ []) c)) in
    let s : f ++ x ∷ [] ≡ g ++ y ∷ [] = append_cancel_right (f ++ x ∷ []) (g ++ y ∷ []) c e in
    let r : x ∷ reverse f ≡ y ∷ reverse g = sym (reverse-append f (x ∷ [])) ∙ (ap reverse s ∙ reverse-append g (y ∷ [])) in
    ap (λ l. get_or l 0 x) r

-- two trees that share no leaf and no node
pub record NoShare (t u : Tree) : Type 0 where
  pub leaves : (x : ℕ) → HasLeaf x t → HasLeaf x u → ⊥
  pub nodes : (x : ℕ) → HasNode x t → HasNode x u → ⊥

-- no leaf and no node is twice in the tree
abbrev pub Distinct : Tree → Type 0
Distinct (tip e k) = Unit {0}
Distinct (fork i b l r) = NoShare l r × (HasNode i l → ⊥) × (HasNode i r → ⊥) × Distinct l × Distinct r

sides_leaf : (a : Parts) (q i x : ℕ) (b : ℤ) (l r : Tree) (c : List Step) (target : Target) (place : Place) → Hangs a target place (fork i b l r) → Leads a q place c → HasLeaf x l → HasLeaf x r → ⊥
sides_leaf a q i x b l r c target place s w h g =
    let up : Leads a q (element_at a i).node_p c = subst (λ p. Leads a q p c) (sym s.2) w in
    let f : LeafFoot a q (from_left i b r ∷ c) x = leaf_foot a q l (from_left i b r ∷ c) _ _ x s.4 (refl, s.1, s.3, s.5, up) h in
    let d : LeafFoot a q (from_right i b l ∷ c) x = leaf_foot a q r (from_right i b l ∷ c) _ _ x s.5 (refl, s.1, s.3, s.4, up) g in
    let e : f.foot ++ from_left i b r ∷ c ≡ d.foot ++ from_right i b l ∷ c = (one_way a q q (element_at a x).leaf_p _ _ f.leads d.leads).1 in
    let z : from_left i b r ≡ from_right i b l = last_same f.foot d.foot c (from_left i b r) (from_right i b l) e in
    cc

pub distinct : (a : Parts) (q : ℕ) (t : Tree) (c : List Step) (target : Target) (place : Place) → Hangs a target place t → Leads a q place c → Split t → Distinct t
distinct a q (tip e k) c target place s w p = tt
distinct a q (fork i b l r) c target place s w p =
    let up : Leads a q (element_at a i).node_p c = subst (λ p. Leads a q p c) (sym s.2) w in (
      record {
        leaves = λ x h g. sides_leaf a q i x b l r c target place s w h g;
        nodes = λ x h g. sides_leaf a q i x b l r c target place s w (node_leaf l x p.3 h) (node_leaf r x p.4 g);
      },
      λ h. not_below a i b l r target place s (inl h),
      λ h. not_below a i b l r target place s (inr h),
      distinct a q l (from_left i b r ∷ c) _ _ s.4 (refl, s.1, s.3, s.5, up) p.3,
      distinct a q r (from_right i b l ∷ c) _ _ s.5 (refl, s.1, s.3, s.4, up) p.4,
    )

pub part_distinct : (w : List Step) (t : Tree) → Distinct (plug w t) → Distinct t
part_distinct [] t d = d
part_distinct (from_left i b r ∷ w) t d = (part_distinct w (fork i b t r) d).3
part_distinct (from_right i b l ∷ w) t d = (part_distinct w (fork i b l t) d).4

-- nothing of the tree is on the way or beside it
abbrev pub Away : List Step → Tree → Type 0
Away [] t = Unit {0}
Away (from_left i b r ∷ w) t = (HasNode i t → ⊥) × NoShare t r × Away w t
Away (from_right i b l ∷ w) t = (HasNode i t → ⊥) × NoShare t l × Away w t

share_sub : (t u v : Tree) → ((x : ℕ) → HasLeaf x u → HasLeaf x t) → ((x : ℕ) → HasNode x u → HasNode x t) → NoShare t v → NoShare u v
share_sub t u v f g n = record { leaves = λ x h k. n.leaves x (f x h) k; nodes = λ x h k. n.nodes x (g x h) k }

away_sub : (w : List Step) (t u : Tree) → ((x : ℕ) → HasLeaf x u → HasLeaf x t) → ((x : ℕ) → HasNode x u → HasNode x t) → Away w t → Away w u
away_sub [] t u f g h = tt
away_sub (from_left i b r ∷ w) t u f g h = (λ x. h.0 (g i x), share_sub t u r f g h.1, away_sub w t u f g h.2)
away_sub (from_right i b l ∷ w) t u f g h = (λ x. h.0 (g i x), share_sub t u l f g h.1, away_sub w t u f g h.2)

swap_share : (t u : Tree) → NoShare t u → NoShare u t
swap_share t u n = record { leaves = λ x h g. n.leaves x g h; nodes = λ x h g. n.nodes x g h }

pub away : (w : List Step) (t : Tree) → Distinct (plug w t) → Away w t
away [] t d = tt
away (from_left i b r ∷ w) t d =
    let p : Distinct (fork i b t r) = part_distinct w (fork i b t r) d in
    (p.1, p.0, away_sub w (fork i b t r) t (λ x h. inl h) (λ x h. inr (inl h)) (away w (fork i b t r) d))
away (from_right i b l ∷ w) t d =
    let p : Distinct (fork i b l t) = part_distinct w (fork i b l t) d in
    (p.2, swap_share l t p.0, away_sub w (fork i b l t) t (λ x h. inr h) (λ x h. inr (inr h)) (away w (fork i b l t) d))

-- trees of different roots share nothing
pub roots_apart : (a : Parts) (q r : ℕ) (s z : Target) (t u : Tree) → Hangs a s (root_place a q) t → Hangs a z (root_place a r) u → Split t → Split u → (q ≡ r → ⊥) → NoShare t u
roots_apart a q r s z t u h g p o n =
    let no : (x : ℕ) → HasLeaf x t → HasLeaf x u → ⊥ = λ x f d.
    let v : LeafFoot a q [] x = leaf_foot a q t [] _ _ x h refl f in
    let w : LeafFoot a r [] x = leaf_foot a r u [] _ _ x g refl d in
    n (one_way a q r (element_at a x).leaf_p _ _ v.leads w.leads).0
    in record { leaves = no; nodes = λ x f d. no x (node_leaf t x p f) (node_leaf u x o d) }

-- an entry that is in no tree
pub record Fresh (e : ℕ) (t : Tree) : Type 0 where
  pub leaf : HasLeaf e t → ⊥
  pub node : HasNode e t → ⊥

pub fresh : (a : Parts) (q e : ℕ) (t : Tree) (target : Target) (place : Place) (c : List Step) → Hangs a target place t → Leads a q place c → Split t → (element_at a e).leaf_p ≡ places.Nowhere → Fresh e t
fresh a q e t target place c s w p n =
    let no : HasLeaf e t → ⊥ = λ h. let f : LeafFoot a q c e = leaf_foot a q t c target place e s w h in leads_somewhere a q (element_at a e).leaf_p (f.foot ++ c) f.leads n in
    record { leaf = no; node = λ h. no (node_leaf t e p h) }

-- nor on a way or beside it
abbrev pub FreshWay : ℕ → List Step → Type 0
FreshWay e [] = Unit {0}
FreshWay e (from_left i b r ∷ w) = (i ≡ e → ⊥) × Fresh e r × FreshWay e w
FreshWay e (from_right i b l ∷ w) = (i ≡ e → ⊥) × Fresh e l × FreshWay e w

pub fresh_part : (w : List Step) (t : Tree) (e : ℕ) → Fresh e (plug w t) → Fresh e t
fresh_part [] t e f = f
fresh_part (from_left i b r ∷ w) t e f = let p : Fresh e (fork i b t r) = fresh_part w (fork i b t r) e f in record { leaf = λ h. p.leaf (inl h); node = λ h. p.node (inr (inl h)) }
fresh_part (from_right i b l ∷ w) t e f = let p : Fresh e (fork i b l t) = fresh_part w (fork i b l t) e f in record { leaf = λ h. p.leaf (inr h); node = λ h. p.node (inr (inr h)) }

pub fresh_way : (w : List Step) (t : Tree) (e : ℕ) → Fresh e (plug w t) → FreshWay e w
fresh_way [] t e f = tt
fresh_way (from_left i b r ∷ w) t e f =
    let p : Fresh e (fork i b t r) = fresh_part w (fork i b t r) e f in
    (λ x. p.node (inl (sym x)), record { leaf = λ h. p.leaf (inr h); node = λ h. p.node (inr (inr h)) }, fresh_way w (fork i b t r) e f)
fresh_way (from_right i b l ∷ w) t e f =
    let p : Fresh e (fork i b l t) = fresh_part w (fork i b l t) e f in
    (λ x. p.node (inl (sym x)), record { leaf = λ h. p.leaf (inl h); node = λ h. p.node (inr (inl h)) }, fresh_way w (fork i b l t) e f)
