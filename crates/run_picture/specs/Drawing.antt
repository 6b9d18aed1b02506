-- How bars are drawn (docs/PICTURES.md, "The drawing").
use Rattle.std.specs.Prelude.{◌≡◌, ℕ, ◌+◌, ◌*◌, ◌==◌, min, Bool, if◌then◌else◌, List, [], ◌∷◌, ◌++◌, codes, decimal, Option, Some, None}
use Rattle.std.specs.List.{flat_map}
use Rattle.text_lines.specs.Reasons.{reasons_word}
use Rattle.run_picture.specs.declared.bars.Bar.{Bar}
use Rattle.run_picture.specs.declared.bars.Spot.{Spot}

-- the top of a lane's bars, in pixels
abbrev pub top_of : ℕ → ℕ
top_of lane = 96 + 68 * lane

-- how the drawing of a bar begins whose left edge is at x: with the line of its take, its place, and its task
abbrev pub bar_begin : Bar → ℕ → List ℕ
bar_begin bar x = codes "<g id='L" ++ (decimal bar.spot.line ++ (codes "' transform='translate(" ++ (decimal x ++ (codes "," ++ (decimal (top_of bar.spot.lane) ++ (codes ")'><title>task " ++ decimal bar.task.0))))))

-- which take of its task a bar is, of which so many were before
abbrev pub take_text : ℕ → List ℕ
take_text takes = codes ": take " ++ (decimal (min (takes + 1) 18446744073709551615) ++ codes " for ")

-- why a run was made: its reasons, and behind them whether its task was killed
abbrev pub bare_cause : Bool → List ℕ
bare_cause is_killed = if is_killed then codes "killed" else codes "none"

abbrev pub cause_text : ℕ → Bool → List ℕ
cause_text reasons is_killed =
    if reasons == 0 then bare_cause is_killed else (if is_killed then reasons_word reasons ++ codes ",killed" else reasons_word reasons)

-- where a bar stands
abbrev pub spot_text : Spot → List ℕ
spot_text spot = codes ", round " ++ (decimal spot.round ++ (codes ", line " ++ decimal spot.line))

-- in which line its task was raised, if in any
abbrev pub raised_text : Option Spot → List ℕ
raised_text None = []
raised_text (Some from) = codes ", raised in line " ++ decimal from.line

-- the end of its tip
abbrev pub end_text : Bool → List ℕ
end_text is_retired = if is_retired then codes ", retired</title>" else codes "</title>"

-- the tip of a bar behind the name of its task
unfoldable pub tip_text : Bar → List ℕ
tip_text bar = take_text bar.takes ++ (cause_text bar.reasons bar.is_killed ++ (spot_text bar.spot ++ (raised_text bar.raised ++ end_text bar.is_retired)))

-- the drawing of a bar: how it begins, maybe a name, its tip, and more
abbrev pub DrawsBar : Bar → List ℕ → Type 0
DrawsBar bar piece = (x : ℕ) × (name : List ℕ) × (rest : List ℕ) × (piece ≡ bar_begin bar x ++ (name ++ (tip_text bar ++ rest)))

-- one piece for each bar, in order
abbrev pub DrawsEach : List Bar → List (List ℕ) → Type 0
DrawsEach [] [] = Unit {0}
DrawsEach [] (piece ∷ pieces) = ⊥
DrawsEach (bar ∷ bars) [] = ⊥
DrawsEach (bar ∷ bars) (piece ∷ pieces) = DrawsBar bar piece × DrawsEach bars pieces

-- the pieces, one after another
abbrev pub joined : List (List ℕ) → List ℕ
joined = flat_map (λ piece. piece)

-- a text that draws exactly these bars, in their order, and other things before and behind them
pub record Draws (bars : List Bar) (text : List ℕ) : Type 0 where
  pub front : List ℕ
  pub pieces : List (List ℕ)
  pub back : List ℕ
  pub parts : text ≡ front ++ (joined pieces ++ back)
  pub each : DrawsEach bars pieces

-- the drawing of a bar was appended
abbrev pub Adds : Bar → List ℕ → List ℕ → Type 0
Adds bar before after = (piece : List ℕ) × (after ≡ before ++ piece) × DrawsBar bar piece

-- the drawings of bars were appended
abbrev pub AddsEach : List Bar → List ℕ → List ℕ → Type 0
AddsEach bars before after = (pieces : List (List ℕ)) × (after ≡ before ++ joined pieces) × DrawsEach bars pieces
