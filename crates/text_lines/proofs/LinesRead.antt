-- A text read line by line: what is left of it, and room to count its lines.
use Rattle.std.proofs.Common.{◌≡◌, ℕ, ◌+◌, ◌^◌, ◌<◌, ◌≤◌, Bool, true, false, eqb, List, [], ◌∷◌, length, Option, Some, None, Result, Ok, Err, refl, ap, ◌∙◌, sym, subst, arith, if◌then◌else◌, ⊎_elim, ◌⊎◌, nat_le, take, count_by, ◌==◌}
use Rattle.std.proofs.lemmas.Bool.{eq-eqb, cases_lt, leb-true}
use Rattle.std.proofs.lemmas.List.{length-take}
use Rattle.std.proofs.lemmas.List.Sums.{count_by-le-length}
use Rattle.text_lines.specs.Pieces.{pieces}
use Rattle.text_lines.specs.Lines.{Format, at_line, line_taken, closed, go_on, folded, line_over}
use Rattle.text_lines.proofs.Cuts.{pieces_some}

-- so many bytes have no more lines than can be counted
abbrev pub HasRoom : Option ℕ → ℕ → ℕ → Type 0
HasRoom None n left = n + left < 2 ^ 32
HasRoom (Some m) n left = (n ≤ m) × (m < 2 ^ 32)

-- the last piece
pub read_closed : {P K : Type 0} (f : Format P K) (over : Option ℕ) (n : ℕ) (p : P) (ws : List (List ℕ)) (text : List ℕ) → ws ≡ text ∷ [] → folded f over n p ws ≡ closed f over n p text
unfolding folded
read_closed f over n p ws text e = ap (folded f over n p) e

-- a whole line, with what follows it
pub read_line : {P K : Type 0} (f : Format P K) (over : Option ℕ) (n : ℕ) (p : P) (ws : List (List ℕ)) (text next : List ℕ) → ws ≡ text ∷ pieces 10 next → folded f over n p ws ≡ go_on (line_taken f over n p text) (λ q. folded f over (n + 1) q (pieces 10 next))
unfolding folded
read_line f over n p ws text next e =
    let q = pieces_some 10 next in
    ap (folded f over n p) e ∙ subst (λ more. folded f over n p (text ∷ more) ≡ go_on (line_taken f over n p text) (λ q. folded f over (n + 1) q more)) (sym q.2) refl

-- a line that was taken, and one that was refused
pub read_taken : {P K : Type 0} (f : Format P K) (over : Option ℕ) (n : ℕ) (p q : P) (ws : List (List ℕ)) (text next : List ℕ) → ws ≡ text ∷ pieces 10 next → line_taken f over n p text ≡ Ok q → folded f over n p ws ≡ folded f over (n + 1) q (pieces 10 next)
read_taken f over n p q ws text next e t =
    read_line f over n p ws text next e ∙ ap (λ v. go_on v (λ q. folded f over (n + 1) q (pieces 10 next))) t

pub read_refused : {P K : Type 0} (f : Format P K) (over : Option ℕ) (n : ℕ) (p : P) (first : ℕ × K) (ws : List (List ℕ)) (text next : List ℕ) → ws ≡ text ∷ pieces 10 next → line_taken f over n p text ≡ Err first → folded f over n p ws ≡ Err first
read_refused f over n p first ws text next e t =
    read_line f over n p ws text next e ∙ ap (λ v. go_on v (λ q. folded f over (n + 1) q (pieces 10 next))) t

stopped : {P K : Type 0} (ended over : Bool) (a b : ℕ × K) (r : Result P (ℕ × K)) (q : P) → over ≡ true → (if ended then Err a else (if over then Err b else r)) ≡ Ok q → ⊥
stopped true over a b r q e t = cc
stopped false true a b r q e t = cc
stopped false false a b r q e t = cc

-- a line that was taken is not the one at which the limit is passed
not_over : {P K : Type 0} (f : Format P K) (m n : ℕ) (p q : P) (text : List ℕ) → line_taken f (Some m) n p text ≡ Ok q → n ≡ m → ⊥
unfolding line_taken
not_over f m n p q text t e =
    stopped (f.has_ended p) (eqb n m) (n, f.behind) (n, f.over) (at_line n (f.judge n p text)) q (eq-eqb n m e) t

pub room_taken : {P K : Type 0} (f : Format P K) (over : Option ℕ) (n left less : ℕ) (p q : P) (text : List ℕ) → line_taken f over n p text ≡ Ok q → less < left → HasRoom over n left → HasRoom over (n + 1) less
room_taken f None n left less p q text t fewer room = omega arith
room_taken f (Some m) n left less p q text t fewer room =
    let here : (n < m) ⊎ (m ≤ n) = cases_lt n m in
    let before : m ≤ n → n < m = λ le. absurd (not_over f m n p q text t (omega (arith, room.0))) in
    (omega (arith, ⊎_elim (λ lt. lt) before here), room.1)

-- there is room before the first line
pub room_first : (most : ℕ) (b : List ℕ) → most + 2 < 2 ^ 32 → HasRoom (line_over most b) 1 (length b)
unfolding line_over
room_first most b small = go (nat_le (length b) most) refl where
  go : (t : Bool) → nat_le (length b) most ≡ t → HasRoom (if t then None else Some (1 + count_by (λ c. c == 10) (take most b))) 1 (length b)
  go true e = omega (arith, leb-true (length b) most e)
  go false e = (omega arith, omega (arith, count_by-le-length (λ c. c == 10) (take most b), length-take most b))

-- a line that has room can be counted
pub room_fits : (over : Option ℕ) (n left : ℕ) → HasRoom over n left → n < 2 ^ 32
room_fits None n left room = omega arith
room_fits (Some m) n left room = omega (arith, room.0, room.1)
