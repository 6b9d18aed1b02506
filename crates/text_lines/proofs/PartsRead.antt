-- A part of a line, as it is read by its first word.
use Rattle.std.proofs.Common.{◌≡◌, List, ap, sym, ◌∙◌}
use Rattle.std.specs.Prelude.{Option, Some, None}
use Rattle.text_lines.specs.Steps.{◌>>=◌}
use Rattle.text_lines.specs.Pieces.{Word, word_at}
use Rattle.text_lines.specs.Slots.{Row}
use Rattle.text_lines.specs.Shapes.{Front, front, kind_named, of_kind, part_at}
use Rattle.text_lines.proofs.FrontSteps.{word_there, no_word}

pub part_none : {K : Type 0} (row : K → Row) (kinds : List K) (ws : List Word) → None ≡ word_at ws → None ≡ part_at row kinds ws
unfolding part_at
part_none row kinds ws e = sym (ap (part_at row kinds) (no_word ws (sym e)))

pub part_unknown : {K : Type 0} (row : K → Row) (kinds : List K) (ws : List Word) (x : Word × List Word) → Some x ≡ word_at ws → None ≡ kind_named row kinds x.0 → None ≡ part_at row kinds ws
unfolding part_at
part_unknown row kinds ws x e u =
    ap (λ o. o >>= (λ k. of_kind k (front (row k).slots x.1))) u ∙ sym (ap (part_at row kinds) (word_there ws x (sym e)))

pub part_found : {K : Type 0} (row : K → Row) (kinds : List K) (ws : List Word) (x : Word × List Word) (k : K) (o : Option Front) → Some x ≡ word_at ws → Some k ≡ kind_named row kinds x.0 → o ≡ front (row k).slots x.1 → of_kind k o ≡ part_at row kinds ws
unfolding part_at
part_found row kinds ws x k o e u f =
    ap (of_kind k) f ∙ ap (λ o. o >>= (λ k. of_kind k (front (row k).slots x.1))) u ∙ sym (ap (part_at row kinds) (word_there ws x (sym e)))
