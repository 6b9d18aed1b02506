-- How few elements and root links an insertion and a deletion change.
use Rattle.std.proofs.Common.{◌≡◌, ℕ, ◌+◌, ◌<◌, ◌≤◌, inl, inr, [], ◌∷◌, ◌++◌, length, sym, ap, ◌∙◌, subst, arith}
use Rattle.std.specs.Prelude.{Option, Some, None}
use Rattle.std.proofs.lemmas.Bool.{cases_lt}
use Rattle.std.proofs.lemmas.List.{get_or_past, length-append}
use Rattle.eb_arena.specs.declared.links.Target.{Target}
use Rattle.eb_arena.specs.declared.links.Target.TheVariants as targets
use Rattle.eb_arena.specs.declared.links.Place.{Place}
use Rattle.eb_arena.specs.declared.element.Element.{Element}
use Rattle.eb_arena.specs.Links.{index_of}
use Rattle.eb_arena.specs.Parts.{Parts, link_at, with_element, with_link, hung, linked}
use Rattle.eb_arena.specs.Shape.{Tree, tip, fork, HasLeaf, IsRoot, Shape, HasShape, InSome}
use Rattle.eb32_walk.specs.Ends.{IsIn}
use Rattle.eb_dups.specs.Grown.{with_tree}
use Rattle.eb_dups.specs.Cost.{ChangesFew}
use Rattle.eb_dups.proofs.Cost.{Keeps, away_left, away_right, keeps_then, keeps_more, keeps_set, keeps_hung, few_link, few_linked}
use Rattle.eb_dups.proofs.Regrown.{tree_other}
use Rattle.eb32_core.specs.Removal.{Uprooted, Uproots}
use Rattle.eb32_core.proofs.UnlinkReads.{Writes}

-- the leaf of an entry gets another link up
leaf_keeps : (a b : Parts) (e : ℕ) (leaf : Target) (up : Place) → leaf ≡ targets.Leaf e → b ≡ hung a leaf up → Keeps (e ∷ []) a b
leaf_keeps a b e leaf up hl hb = keeps_hung a b (targets.Leaf e) up (hb ∙ ap (λ t. hung a t up) hl)

-- the first entry of a root
pub first_few : (a b z : Parts) (e q : ℕ) (leaf t : Target) (up : Place) → leaf ≡ targets.Leaf e → b ≡ hung a leaf up → z ≡ with_link b q t → ChangesFew 1 e a z
first_few a b z e q leaf t up hl hb hz = few_link e [] a b z q t (leaf_keeps a b e leaf up hl hb) hz

-- the only entry of a root
pub clear_few : (a b z : Parts) (e : ℕ) (leaf t : Target) (up place : Place) → leaf ≡ targets.Leaf e → b ≡ hung a leaf up → z ≡ linked b place t → ChangesFew 2 e a z
clear_few a b z e leaf t up place hl hb hz = few_linked e [] a b z place t (leaf_keeps a b e leaf up hl hb) hz

-- a leaf and the node above it
pub unlink_few : (a b c d z : Parts) (e freed : ℕ) (leaf top sibling : Target) (none above : Place) → Writes a b c d z e freed leaf top sibling none above → ChangesFew 4 e a z
unlink_few a b c d z e freed leaf top sibling none above w =
    let x : Keeps (e ∷ []) a b = leaf_keeps a b e leaf none w.leaf_is w.first in
    let y : Keeps (index_of top ∷ index_of sibling ∷ []) b d = keeps_then (index_of top ∷ []) (index_of sibling ∷ []) b c d (keeps_hung b c top none w.second) (keeps_hung c d sibling above w.third) in
    few_linked e (index_of top ∷ index_of sibling ∷ []) a d z above sibling (keeps_then (e ∷ []) (index_of top ∷ index_of sibling ∷ []) a b d x y) w.fourth

-- a node in the place of another
pub replace_few : (a b c d w z : Parts) (e h : ℕ) (l r t u : Target) (p o none place : Place) (el : Element) → b ≡ hung a l p → c ≡ hung b r o → t ≡ targets.Node e → d ≡ hung c t none → w ≡ with_element d h el → z ≡ linked w place u → ChangesFew 5 e a z
replace_few a b c d w z e h l r t u p o none place el hb hc ht hd hw hz =
    let x : Keeps (index_of l ∷ index_of r ∷ []) a c = keeps_then (index_of l ∷ []) (index_of r ∷ []) a b c (keeps_hung a b l p hb) (keeps_hung b c r o hc) in
    let y : Keeps (e ∷ h ∷ []) c w = keeps_then (e ∷ []) (h ∷ []) c d w (keeps_hung c d (targets.Node e) none (hd ∙ ap (λ n. hung c n none) ht)) (keeps_set d w h el hw) in
    let v : Keeps (index_of l ∷ index_of r ∷ e ∷ h ∷ []) a w = keeps_then (index_of l ∷ index_of r ∷ []) (e ∷ h ∷ []) a c w x y in
    few_linked e (index_of l ∷ index_of r ∷ h ∷ []) a w z place u (keeps_more (index_of l ∷ index_of r ∷ e ∷ h ∷ []) (e ∷ index_of l ∷ index_of r ∷ h ∷ []) a w (λ i n. (n.1.0, (n.1.1.0, (n.0, n.1.1.1)))) v) hz

-- what hangs on a root is the top of its tree
abbrev top : Option Tree → Target
top None = targets.Nothing
top (Some (tip e k)) = targets.Leaf e
top (Some (fork i b l r)) = targets.Node i

top_is : (a : Parts) (q : ℕ) (o : Option Tree) → IsRoot a q o → link_at a q ≡ top o
top_is a q None r = r
top_is a q (Some (tip e k)) r = r.0.0
top_is a q (Some (fork i b l s)) r = r.0.0

-- where one root got another tree, all other root links are the same
other_links : (a z : Parts) (ts : ℕ → Option Tree) (root : ℕ) (o : Option Tree) (q : ℕ) → Shape a ts → Shape z (with_tree ts root o) → length z.links ≡ length a.links → (q ≡ root → ⊥) → link_at z q ≡ link_at a q
other_links a z ts root o q s g n d =
    elim (cases_lt q (length a.links)) [
      | inl lt ↦ top_is z q (ts q) (subst (IsRoot z q) (tree_other ts root q o d) (g.roots q (subst (λ m. q < m) (sym n) lt))) ∙ sym (top_is a q (ts q) (s.roots q lt))
      | inr le ↦ get_or_past z.links q targets.Nothing (subst (λ m. m ≤ q) (sym n) le) ∙ sym (get_or_past a.links q targets.Nothing le)
    ]

-- two changes, of which no two root links come out
pub few_both : (a b z : Parts) (e : ℕ) → ChangesFew 4 e a b → ChangesFew 5 e b z → HasShape a → IsIn a e → Uproots a z e → ChangesFew 8 e a z
few_both a b z e f g sh i u =
    let s : InSome a sh.0 (HasLeaf e) = sh.1.leaves e i.0 i.1 in
    let r : Uprooted a z sh.0 s.0 e = u sh.0 s.0 sh.1 s.1.0 s.1.1 in
    let n : length (f.others ++ g.others) ≡ length f.others + length g.others = length-append f.others g.others in
    let x : length (e ∷ f.others) ≤ 4 = f.few in
    let y : length (e ∷ g.others) ≤ 5 = g.few in
    record {
      others = f.others ++ g.others;
      few = omega (arith, n, x, y);
      elements = λ j w. g.elements j (w.0, away_right j f.others g.others w.1) ∙ f.elements j (w.0, away_left j f.others g.others w.1);
      root = s.0;
      links = λ q d. other_links a z sh.0 s.0 r.after q sh.1 r.shape r.roots d;
    }
