-- Bars that are drawn one after another.
use Rattle.std.proofs.Common.{◌≡◌, ℕ, List, [], ◌∷◌, ◌++◌, refl, sym, ap, ◌∙◌, append_assoc, append-nil, length, take, drop, Result, Ok, Err, OnOk}
use Rattle.std.proofs.lemmas.List.{take-append-drop}
use Rattle.text_lines.specs.Added.{Kept}
use Rattle.std.proofs.lemmas.Grind.{flat_map-append}
use Rattle.run_picture.specs.declared.bars.Bar.{Bar}
use Rattle.run_picture.specs.Drawing.{DrawsBar, DrawsEach, Draws, Adds, AddsEach, bar_begin, tip_text, joined}

-- one bar more
each_more : (bars : List Bar) (pieces : List (List ℕ)) (bar : Bar) (piece : List ℕ) → DrawsEach bars pieces → DrawsBar bar piece → DrawsEach (bars ++ bar ∷ []) (pieces ++ piece ∷ [])
each_more [] [] bar piece each draws = (draws, tt)
each_more [] (p ∷ pieces) bar piece each draws = absurd each
each_more (b ∷ bars) [] bar piece each draws = absurd each
each_more (b ∷ bars) (p ∷ pieces) bar piece each draws = (each.0, each_more bars pieces bar piece each.1 draws)

joined_more : (pieces : List (List ℕ)) (piece : List ℕ) → joined (pieces ++ piece ∷ []) ≡ joined pieces ++ piece
joined_more pieces piece = flat_map-append (λ p. p) pieces (piece ∷ []) ∙ ap (λ t. joined pieces ++ t) (append-nil piece)

pub adds_none : (text : List ℕ) → AddsEach [] text text
adds_none text = ([], sym (append-nil text), tt)

pub adds_more : (bars : List Bar) (bar : Bar) (before mid after : List ℕ) → AddsEach bars before mid → Adds bar mid after → AddsEach (bars ++ bar ∷ []) before after
adds_more bars bar before mid after all one =
    (all.0 ++ one.0 ∷ [], one.1 ∙ ap (λ t. t ++ one.0) all.1 ∙ append_assoc before (joined all.0) one.0 ∙ ap (λ t. before ++ t) (sym (joined_more all.0 one.0)), each_more bars all.0 bar one.0 all.2 one.2)

-- what stands in front, and what was written behind it
kept_parts : (mid new : List ℕ) → Kept mid new → new ≡ mid ++ drop (length mid) new
kept_parts mid new kept = sym (take-append-drop (length mid) new) ∙ ap (λ t. t ++ drop (length mid) new) kept.front

-- a bar that was begun, a name, the bar's tip, and whatever was written behind that
pub adds_told : (bar : Bar) (x : ℕ) (old begun named told new : List ℕ) → begun ≡ old ++ bar_begin bar x → Kept begun named → told ≡ named ++ tip_text bar → Kept told new → Adds bar old new
adds_told bar x old begun named told new begins name tip kept =
    let tag = drop (length begun) named in
    let rest = drop (length told) new in
    let more = tip_text bar ++ rest in
    (bar_begin bar x ++ (tag ++ more), kept_parts told new kept ∙ ap (λ t. t ++ rest) tip ∙ append_assoc named (tip_text bar) rest ∙ ap (λ t. t ++ more) (kept_parts begun named name) ∙ append_assoc begun tag more ∙ ap (λ t. t ++ (tag ++ more)) begins ∙ append_assoc old (bar_begin bar x) (tag ++ more), (x, tag, rest, refl))

-- bars that were drawn behind a front, and whatever was written behind them
pub draws_between : (bars : List Bar) (front mid new : List ℕ) → AddsEach bars front mid → Kept mid new → Draws bars new
draws_between bars front mid new all kept =
    let back = drop (length mid) new in
    record {
      front = front;
      pieces = all.0;
      back = back;
      parts = kept_parts mid new kept ∙ ap (λ t. t ++ back) all.1 ∙ append_assoc front (joined all.0) back;
      each = all.2;
    }

pub on_ok_any : {A E : Type 0} (r : Result A E) (P : Type 0) → P → OnOk r P
on_ok_any (Ok x) P p = p
on_ok_any (Err e) P p = tt
