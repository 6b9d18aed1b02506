-- Parts of a line by the tables of their kinds.
use Rattle.std.proofs.Common.{◌≡◌, Bool, true, false, cond, List, [], ◌∷◌, ◌++◌, refl, ap, sym, ◌∙◌, subst, append-nil}
use Rattle.std.specs.Prelude.{Option, Some, None, bytes_eq}
use Rattle.std.specs.List.{list_all}
use Rattle.std.specs.Cmp.Lexicographic.{same_text}
use Rattle.std.proofs.lemmas.Option.{none-some}
use Rattle.text_lines.specs.Steps.{◌>>=◌, ◌or_else◌}
use Rattle.text_lines.specs.Pieces.{Word}
use Rattle.text_lines.specs.Slots.{Value, Row}
use Rattle.text_lines.specs.Shapes.{Front, front, words, Fits, is_sound_slot, kind_named, Part, part_of, of_kind, part_at, row_words}
use Rattle.text_lines.proofs.Steps.{some_same, bind_some, find_some}
use Rattle.text_lines.proofs.FrontAgain.{front_again}
use Rattle.text_lines.proofs.FrontBack.{front_back}

-- a row is read as it is written
pub part_again : {K : Type 0} (row : K → Row) (kinds : List K) (k : K) (vs : List Value) (ws : List Word) → kind_named row kinds (row k).name ≡ Some k → list_all is_sound_slot (row k).slots ≡ true → Fits (row k).slots vs → part_at row kinds (row_words (row k) vs ++ ws) ≡ Some (part_of k vs ws)
unfolding part_at
part_again row kinds k vs ws found sound fits =
    ap (λ o. o >>= (λ j. of_kind j (front (row j).slots (words (row k).slots vs ++ ws)))) found ∙ ap (of_kind k) (front_again (row k).slots vs ws sound fits)

-- the same with no word behind it
pub part_alone : {K : Type 0} (row : K → Row) (kinds : List K) (k : K) (vs : List Value) → kind_named row kinds (row k).name ≡ Some k → list_all is_sound_slot (row k).slots ≡ true → Fits (row k).slots vs → part_at row kinds (row_words (row k) vs) ≡ Some (part_of k vs [])
part_alone row kinds k vs found sound fits =
    ap (part_at row kinds) (sym (append-nil (row_words (row k) vs))) ∙ part_again row kinds k vs [] found sound fits

-- what is read of a row is written as the same words
abbrev pub PartBack : {K : Type 0} → (K → Row) → List Word → Part K → Type 0
PartBack row ws p = (ws ≡ row_words (row p.kind) p.values ++ p.rest) × Fits (row p.kind).slots p.values

of_kind_some : {K : Type 0} (k : K) (r : Option Front) (p : Part K) → of_kind k r ≡ Some p → (q : Front) × (r ≡ Some q) × (part_of k q.0 q.1 ≡ p)
of_kind_some k None p e = absurd (none-some p e)
of_kind_some k (Some q) p e = (q, refl, some_same e)

pub part_back : {K : Type 0} (row : K → Row) (kinds : List K) (ws : List Word) (p : Part K) → part_at row kinds ws ≡ Some p → PartBack row ws p
unfolding part_at
part_back row kinds [] p e = absurd (none-some p e)
part_back row kinds (w ∷ ws) p e =
    let k = bind_some (kind_named row kinds w) _ p e in
    let q = of_kind_some k.0 (front (row k.0).slots ws) p k.2 in
    let back = front_back (row k.0).slots ws q.0 q.1 in
    let named : (row k.0).name ≡ w = same_text (row k.0).name w (sym (find_some (λ j. bytes_eq (row j).name w) kinds k.0 k.1)) in
    subst (PartBack row (w ∷ ws)) q.2 (cons (sym named) back.0, back.1) where
      cons : {a b : Word} {xs ys : List Word} → a ≡ b → xs ≡ ys → (a ∷ xs) ≡ (b ∷ ys)
      cons p q = cc

-- a name is looked for among some kinds, then among others
pub named_then : {K : Type 0} (row : K → Row) (xs ys : List K) (w : Word) → kind_named row (xs ++ ys) w ≡ (kind_named row xs w or_else kind_named row ys w)
named_then row [] ys w = refl
named_then row (x ∷ xs) ys w = go (bytes_eq (row x).name w) (named_then row xs ys w) where
  go : (b : Bool) → kind_named row (xs ++ ys) w ≡ (kind_named row xs w or_else kind_named row ys w) → cond b (Some x) (kind_named row (xs ++ ys) w) ≡ (cond b (Some x) (kind_named row xs w) or_else kind_named row ys w)
  go true more = refl
  go false more = more
