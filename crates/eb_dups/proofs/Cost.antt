-- Each write changes one element or one root link.
use Rattle.std.proofs.Common.{◌≡◌, ℕ, ◌+◌, ◌-◌, ◌≤◌, inl, inr, ℤ, List, [], ◌∷◌, ◌++◌, length, cond, refl, sym, ap, ◌∙◌, subst, arith, lt-ltb, le-ltb}
use Rattle.std.proofs.lemmas.Bool.{cases_lt}
use Rattle.std.proofs.lemmas.List.{get_or-set_other}
use Rattle.eb_arena.specs.declared.links.Side.{Side}
use Rattle.eb_arena.specs.declared.links.Target.{Target}
use Rattle.eb_arena.specs.declared.links.Target.TheVariants as targets
use Rattle.eb_arena.specs.declared.links.Place.{Place}
use Rattle.eb_arena.specs.declared.links.Place.TheVariants as places
use Rattle.eb_arena.specs.declared.element.Element.{Element}
use Rattle.eb_arena.specs.Links.{index_of, opposite}
use Rattle.eb_arena.specs.Parts.{Parts, element_at, link_at, with_element, with_link, with_child, hung, linked}
use Rattle.eb_arena.proofs.Frame.{at_other}
use Rattle.eb_dups.specs.Grown.{grown_element, attached}
use Rattle.eb_dups.specs.Cost.{IsAway, ChangesFew}

-- the elements with all other numbers stay, and all root links
pub record Keeps (at : List ℕ) (a z : Parts) : Type 0 where
  pub elements : (i : ℕ) → IsAway i at → element_at z i ≡ element_at a i
  pub links : (q : ℕ) → link_at z q ≡ link_at a q

-- what is in neither of two lists
pub away_left : (i : ℕ) (xs ys : List ℕ) → IsAway i (xs ++ ys) → IsAway i xs
away_left i [] ys w = tt
away_left i (x ∷ xs) ys w = (w.0, away_left i xs ys w.1)

pub away_right : (i : ℕ) (xs ys : List ℕ) → IsAway i (xs ++ ys) → IsAway i ys
away_right i [] ys w = w
away_right i (x ∷ xs) ys w = away_right i xs ys w.1

-- one change after another
pub keeps_then : (xs ys : List ℕ) (a b z : Parts) → Keeps xs a b → Keeps ys b z → Keeps (xs ++ ys) a z
keeps_then xs ys a b z h g =
    record { elements = λ i w. g.elements i (away_right i xs ys w) ∙ h.elements i (away_left i xs ys w); links = λ q. g.links q ∙ h.links q }

-- a list that has at least as much
pub keeps_more : (xs ys : List ℕ) (a z : Parts) → ((i : ℕ) → IsAway i ys → IsAway i xs) → Keeps xs a z → Keeps ys a z
keeps_more xs ys a z f h = record { elements = λ i w. h.elements i (f i w); links = h.links }

-- an element
pub keeps_set : (a z : Parts) (i : ℕ) (e : Element) → z ≡ with_element a i e → Keeps (i ∷ []) a z
keeps_set a z i e h =
    subst (Keeps (i ∷ []) a) (sym h) (record { elements = λ x w. at_other a i x e w.0; links = λ q. refl })

-- a link up
pub keeps_hung : (a z : Parts) (t : Target) (p : Place) → z ≡ hung a t p → Keeps (index_of t ∷ []) a z
keeps_hung a z targets.Nothing p h = subst (Keeps (0 ∷ []) a) (sym h) (record { elements = λ x w. refl; links = λ q. refl })
keeps_hung a z (targets.Leaf i) p h = keeps_set a z i (record (element_at a i) { leaf_p = p }) h
keeps_hung a z (targets.Node i) p h = keeps_set a z i (record (element_at a i) { node_p = p }) h

-- a root link
pub few_link : (entry : ℕ) (others : List ℕ) (a b z : Parts) (q : ℕ) (t : Target) → Keeps (entry ∷ others) a b → z ≡ with_link b q t → ChangesFew (length (entry ∷ others)) entry a z
few_link entry others a b z q t k h =
    subst (ChangesFew (length (entry ∷ others)) entry a) (sym h) (record {
      others = others;
      few = omega arith;
      elements = k.elements;
      root = q;
      links = λ r n. get_or-set_other b.links q r t targets.Nothing n ∙ k.links r;
    })

-- no root link
pub few_keeps : (entry : ℕ) (others : List ℕ) (a z : Parts) → Keeps (entry ∷ others) a z → ChangesFew (length (entry ∷ others)) entry a z
few_keeps entry others a z k = record { others = others; few = omega arith; elements = k.elements; root = 0; links = λ q n. k.links q }

-- a greater bound
pub few_more : (m n entry : ℕ) (a z : Parts) → m ≤ n → ChangesFew m entry a z → ChangesFew n entry a z
few_more m n entry a z f c = record { others = c.others; few = let x : length (entry ∷ c.others) ≤ m = c.few in omega (arith, x, f); elements = c.elements; root = c.root; links = c.links }

-- a link down
few_under : (entry : ℕ) (others : List ℕ) (a b : Parts) (i : ℕ) (s : Side) (t : Target) → Keeps (entry ∷ others) a b → ChangesFew (length (entry ∷ i ∷ others)) entry a (linked b (places.Under i s) t)
few_under entry others a b i s t k =
    elim (cases_lt i (length b.elements)) [
      | inl lt ↦
          let d : Element = with_child s t (element_at b i) in
          let e : linked b (places.Under i s) t ≡ with_element b i d = ap (λ x. cond x (with_element b i d) (with_link b (i - length b.elements) t)) (lt-ltb i (length b.elements) lt) in
          let f : Keeps (entry ∷ i ∷ others) a (with_element b i d) = record { elements = λ x w. at_other b i x d w.1.0 ∙ k.elements x (w.0, w.1.1); links = k.links } in
          subst (ChangesFew (length (entry ∷ i ∷ others)) entry a) (sym e) (few_keeps entry (i ∷ others) a (with_element b i d) f)
      | inr le ↦
          let e : linked b (places.Under i s) t ≡ with_link b (i - length b.elements) t = ap (λ x. cond x (with_element b i (with_child s t (element_at b i))) (with_link b (i - length b.elements) t)) (le-ltb i (length b.elements) le) in
          let f : Keeps (entry ∷ i ∷ others) a b = keeps_more (entry ∷ others) (entry ∷ i ∷ others) a b (λ x w. (w.0, w.1.1)) k in
          few_link entry (i ∷ others) a b _ (i - length b.elements) t f e
    ]

pub few_linked : (entry : ℕ) (others : List ℕ) (a b z : Parts) (p : Place) (t : Target) → Keeps (entry ∷ others) a b → z ≡ linked b p t → ChangesFew (length (entry ∷ others) + 1) entry a z
few_linked entry others a b z places.Nowhere t k h =
    subst (ChangesFew (length (entry ∷ others) + 1) entry a) (sym h) (few_more (length (entry ∷ others)) (length (entry ∷ others) + 1) entry a b (omega arith) (few_keeps entry others a b k))
few_linked entry others a b z (places.Under i s) t k h =
    subst (ChangesFew (length (entry ∷ others) + 1) entry a) (sym h) (few_more (length (entry ∷ i ∷ others)) (length (entry ∷ others) + 1) entry a (linked b (places.Under i s) t) (omega arith) (few_under entry others a b i s t k))

-- the key of the entry was written before
pub few_after : (most entry : ℕ) (a b z : Parts) → Keeps (entry ∷ []) a b → ChangesFew most entry b z → ChangesFew most entry a z
few_after most entry a b z k c =
    record { others = c.others; few = c.few; elements = λ i w. c.elements i w ∙ k.elements i (w.0, tt); root = c.root; links = λ q n. c.links q n ∙ k.links q }

-- a node that is put in above a part
pub few_attached : (a z : Parts) (part : Target) (place : Place) (entry : ℕ) (side : Side) (bit : ℤ) → z ≡ attached a part place entry side bit → ChangesFew 3 entry a z
few_attached a z part place entry side bit h =
    let b : Parts = hung a part (places.Under entry (opposite side)) in
    let e : Element = grown_element part place entry side bit (element_at a entry).key in
    let c : Parts = with_element b entry e in
    let k : Keeps (index_of part ∷ entry ∷ []) a c = keeps_then (index_of part ∷ []) (entry ∷ []) a b c (keeps_hung a b part _ refl) (keeps_set b c entry e refl) in
    few_linked entry (index_of part ∷ []) a c z place (targets.Node entry) (keeps_more (index_of part ∷ entry ∷ []) (entry ∷ index_of part ∷ []) a c (λ i w. (w.1.0, (w.0, tt))) k) h
