-- A text that is longer than its limit is judged by the bytes up to the one behind it.
use Rattle.std.proofs.Common.{◌≡◌, ℕ, zero, suc, ◌+◌, ◌<◌, ◌≤◌, Bool, true, false, cond, eqb, if◌then◌else◌, nat_le, List, [], ◌∷◌, ◌++◌, length, take, count_by, ◌==◌, Some, None, Result, Ok, Err, refl, ap, ◌∙◌, sym, subst, arith, append_assoc, ⊎_elim, add_assoc, zero-add}
use Rattle.std.specs.List.{All, onto_first}
use Rattle.std.proofs.lemmas.Bool.{cond-true, cond-false, eq-eqb, lt-leb, cases_Bool, cases_lt, true≢false}
use Rattle.std.proofs.lemmas.List.Splits.{slice_split_at, slice_split-cons_no}
use Rattle.std.proofs.lemmas.List.Sums.{sum_by-cons}
use Rattle.std.proofs.lemmas.List.{take-take, length-take}
use Rattle.std.proofs.lemmas.List.Elements.{All-nil, All-push}
use Rattle.text_lines.specs.Pieces.{pieces}
use Rattle.text_lines.specs.Lines.{Format, at_line, line_taken, closed, go_on, folded, line_over, read_within}
use Rattle.text_lines.proofs.Cuts.{pieces_some}
use Rattle.text_lines.proofs.LinesTaken.{go_back}
use Rattle.text_lines.proofs.LinesRead.{read_line}

-- no line feed
abbrev NoFeed : List ℕ → Type 0
NoFeed w = All (λ b. (b == 10) ≡ false) w

-- how many line feeds
abbrev feeds : List ℕ → ℕ
feeds bytes = count_by (λ b. b == 10) bytes

-- the answer at the line at which the limit is passed
stopped : {P K : Type 0} → Format P K → ℕ → P → Result P (ℕ × K)
stopped f n p = if f.has_ended p then Err (n, f.behind) else Err (n, f.over)

stopped_line : {P K : Type 0} (f : Format P K) (n : ℕ) (p : P) (text : List ℕ) (more : P → Result P (ℕ × K)) → go_on (line_taken f (Some n) n p text) more ≡ stopped f n p
unfolding stopped line_taken
stopped_line {P} {K} f n p text more = go (f.has_ended p) (eqb n n) (eq-eqb n n refl) where
  go : (b o : Bool) → o ≡ true → go_on (if◌then◌else◌ {A = Result P (ℕ × K)} b (Err (n, f.behind)) (if◌then◌else◌ {A = Result P (ℕ × K)} o (Err (n, f.over)) (at_line n (f.judge n p text)))) more ≡ if◌then◌else◌ {A = Result P (ℕ × K)} b (Err (n, f.behind)) (Err (n, f.over))
  go true o e = refl
  go false true e = refl
  go false false e = absurd (true≢false (sym e))

stopped_closed : {P K : Type 0} (f : Format P K) (n : ℕ) (p : P) (x : ℕ) (xs : List ℕ) → closed f (Some n) n p (x ∷ xs) ≡ stopped f n p
unfolding stopped closed
stopped_closed {P} {K} f n p x xs = go (f.has_ended p) (eqb n n) (eq-eqb n n refl) where
  go : (b o : Bool) → o ≡ true → if◌then◌else◌ {A = Result P (ℕ × K)} b (Err (n, f.behind)) (if◌then◌else◌ {A = Result P (ℕ × K)} o (Err (n, f.over)) (Err (n, f.short))) ≡ if◌then◌else◌ {A = Result P (ℕ × K)} b (Err (n, f.behind)) (Err (n, f.over))
  go true o e = refl
  go false true e = refl
  go false false e = absurd (true≢false (sym e))

-- a piece that is not empty, at the line at which the limit is passed
stopped_at : {P K : Type 0} (f : Format P K) (n : ℕ) (p : P) (ws : List (List ℕ)) (x : ℕ) (xs : List ℕ) (more : List (List ℕ)) → ws ≡ (x ∷ xs) ∷ more → folded f (Some n) n p ws ≡ stopped f n p
unfolding folded
stopped_at f n p ws x xs [] e = ap (folded f (Some n) n p) e ∙ stopped_closed f n p x xs
stopped_at f n p ws x xs (next ∷ more) e = ap (folded f (Some n) n p) e ∙ stopped_line f n p (x ∷ xs) _

-- the first piece of a text that begins with no line feed is not empty
first_piece : (c : ℕ) (rest : List ℕ) → (c == 10) ≡ false → (z : List ℕ) × (zs : List (List ℕ)) × (pieces 10 (c ∷ rest) ≡ (c ∷ z) ∷ zs)
first_piece c rest apart =
    let some = pieces_some 10 rest in
    (some.0, some.1, slice_split-cons_no (λ b. b == 10) c rest apart ∙ ap (onto_first c) some.2)

stopped_start : {P K : Type 0} (f : Format P K) (n : ℕ) (p : P) (c : ℕ) (rest : List ℕ) → (c == 10) ≡ false → folded f (Some n) n p (pieces 10 (c ∷ rest)) ≡ stopped f n p
stopped_start f n p c rest apart =
    let first = first_piece c rest apart in
    stopped_at f n p (pieces 10 (c ∷ rest)) c first.0 first.1 first.2

-- the same with bytes in front that are no line feeds
stopped_behind : {P K : Type 0} (f : Format P K) (w : List ℕ) (n : ℕ) (p : P) (x : ℕ) (rest : List ℕ) → NoFeed w → (x == 10) ≡ false → folded f (Some n) n p (pieces 10 (w ++ x ∷ rest)) ≡ stopped f n p
stopped_behind f [] n p x rest none apart = stopped_start f n p x rest apart
stopped_behind f (a ∷ ws) n p x rest none apart = stopped_start f n p a (ws ++ x ∷ rest) (none 0 0 (omega arith))

-- a whole line in front
split_feed : (w : List ℕ) (x : ℕ) (rest : List ℕ) → NoFeed w → (x == 10) ≡ true → pieces 10 (w ++ x ∷ rest) ≡ w ∷ pieces 10 rest
split_feed w x rest none ends = slice_split_at (λ b. b == 10) w x rest none ends

stopped_feed : {P K : Type 0} (f : Format P K) (w : List ℕ) (n : ℕ) (p : P) (x : ℕ) (rest : List ℕ) → NoFeed w → (x == 10) ≡ true → folded f (Some n) n p (pieces 10 (w ++ x ∷ rest)) ≡ stopped f n p
stopped_feed f w n p x rest none ends =
    read_line f (Some n) n p (pieces 10 (w ++ x ∷ rest)) w rest (split_feed w x rest none ends) ∙ stopped_line f n p w _

-- any byte at the line at which the limit is passed stops the reading
stopped_byte : {P K : Type 0} (f : Format P K) (w : List ℕ) (n : ℕ) (p : P) (x : ℕ) (rest : List ℕ) → NoFeed w → folded f (Some n) n p (pieces 10 (w ++ x ∷ rest)) ≡ stopped f n p
stopped_byte f w n p x rest none = ⊎_elim (stopped_feed f w n p x rest none) (stopped_behind f w n p x rest none) (cases_Bool (x == 10))

same_goes_on : {P K : Type 0} (v : Result P (ℕ × K)) (f g : P → Result P (ℕ × K)) → ((s : P) → f s ≡ g s) → go_on v f ≡ go_on v g
same_goes_on (Ok s) f g same = same s
same_goes_on (Err kind) f g same = refl

more : (x : ℕ) (rest : List ℕ) → feeds (x ∷ rest) ≡ cond (x == 10) 1 0 + feeds rest
more x rest = sum_by-cons (λ b. cond (b == 10) 1 0) x rest

cut_at : {P K : Type 0} (f : Format P K) (bytes : List ℕ) (k : ℕ) (w : List ℕ) (n at : ℕ) (p : P) → NoFeed w → k < length bytes → at ≡ n + feeds (take k bytes) → folded f (Some at) n p (pieces 10 (w ++ bytes)) ≡ folded f (Some at) n p (pieces 10 (w ++ take (suc k) bytes))
cut_at f [] k w n at p none below e = absurd (omega arith)
cut_at f (x ∷ bs) zero w n at p none below e =
    let here : n ≡ at = omega arith in
    let all : (rest : List ℕ) → folded f (Some n) n p (pieces 10 (w ++ x ∷ rest)) ≡ stopped f n p = λ rest. stopped_byte f w n p x rest none in
    subst (λ a. folded f (Some a) n p (pieces 10 (w ++ x ∷ bs)) ≡ folded f (Some a) n p (pieces 10 (w ++ x ∷ []))) here (all bs ∙ sym (all []))
cut_at {P} {K} f (x ∷ bs) (suc k) w n at p none below e =
    let Goal : Type 0 = folded f (Some at) n p (pieces 10 (w ++ x ∷ bs)) ≡ folded f (Some at) n p (pieces 10 (w ++ x ∷ take (suc k) bs)) in
    let feed : (x == 10) ≡ true → Goal = λ ends.
    let counted : at ≡ n + 1 + feeds (take k bs) = e ∙ ap (λ c. n + c) (more x (take k bs)) ∙ ap (λ c. n + (c + feeds (take k bs))) (cond-true (x == 10) 1 0 ends) ∙ sym (add_assoc n 1 (feeds (take k bs))) in
    read_line f (Some at) n p (pieces 10 (w ++ x ∷ bs)) w bs (split_feed w x bs none ends) ∙ same_goes_on (line_taken f (Some at) n p w) _ _ (λ s. cut_at f bs k [] (n + 1) at s (All-nil (λ b. (b == 10) ≡ false)) (omega arith) counted) ∙ sym (read_line f (Some at) n p (pieces 10 (w ++ x ∷ take (suc k) bs)) w (take (suc k) bs) (split_feed w x (take (suc k) bs) none ends)) in
    let other : (x == 10) ≡ false → Goal = λ apart.
    let counted : at ≡ n + feeds (take k bs) = e ∙ ap (λ c. n + c) (more x (take k bs)) ∙ ap (λ c. n + (c + feeds (take k bs))) (cond-false (x == 10) 1 0 apart) ∙ ap (λ c. n + c) (zero-add (feeds (take k bs))) in
    let lies : NoFeed (w ++ x ∷ []) = All-push (λ b. (b == 10) ≡ false) w x none apart in
    let text : List ℕ → Result P (ℕ × K) = λ t. folded f (Some at) n p (pieces 10 t) in
    ap text (sym (append_assoc w (x ∷ []) bs)) ∙ cut_at f bs k (w ++ x ∷ []) n at p lies (omega arith) counted ∙ ap text (append_assoc w (x ∷ []) (take (suc k) bs)) in
    ⊎_elim feed other (cases_Bool (x == 10))

over_is : (most : ℕ) (b : List ℕ) → most < length b → line_over most b ≡ Some (1 + feeds (take most b))
unfolding line_over
over_is most b long = cond-false (nat_le (length b) most) None (Some (1 + feeds (take most b))) (lt-leb (length b) most long)

pub long_text : {P K : Type 0} (f : Format P K) (start : P) (most : ℕ) (b : List ℕ) → most < length b → read_within f start most b ≡ read_within f start most (take (suc most) b)
long_text f start most b long =
    let front = take (suc most) b in
    let longer : most < length front = omega (arith, length-take (suc most) b) in
    let same : 1 + feeds (take most front) ≡ 1 + feeds (take most b) = ap (λ t. 1 + feeds t) (take-take most (suc most) b (omega arith)) in
    let at = 1 + feeds (take most b) in
    ap (λ over. folded f over 1 start (pieces 10 b)) (over_is most b long) ∙ cut_at f b most [] 1 at start (All-nil (λ b. (b == 10) ≡ false)) long refl ∙ sym (ap (λ over. folded f over 1 start (pieces 10 front)) (over_is most front longer ∙ ap Some same))

-- a text that is read is within its limit
not_stopped : {P K : Type 0} (f : Format P K) (n : ℕ) (p q : P) → stopped f n p ≡ Ok q → ⊥
unfolding stopped
not_stopped {P} {K} f n p q e = go (f.has_ended p) e where
  go : (b : Bool) → if◌then◌else◌ {A = Result P (ℕ × K)} b (Err (n, f.behind)) (Err (n, f.over)) ≡ Ok q → ⊥
  go true e = cc
  go false e = cc

never_read : {P K : Type 0} (f : Format P K) (bytes : List ℕ) (k : ℕ) (w : List ℕ) (n at : ℕ) (p q : P) → NoFeed w → k < length bytes → at ≡ n + feeds (take k bytes) → folded f (Some at) n p (pieces 10 (w ++ bytes)) ≡ Ok q → ⊥
never_read f [] k w n at p q none below e g = absurd (omega arith)
never_read f (x ∷ bs) zero w n at p q none below e g =
    let here : at ≡ n = omega arith in
    not_stopped f n p q (sym (stopped_byte f w n p x bs none) ∙ subst (λ a. folded f (Some a) n p (pieces 10 (w ++ x ∷ bs)) ≡ Ok q) here g)
never_read f (x ∷ bs) (suc k) w n at p q none below e g =
    let feed : (x == 10) ≡ true → ⊥ = λ ends.
    let counted : at ≡ n + 1 + feeds (take k bs) = e ∙ ap (λ c. n + c) (more x (take k bs)) ∙ ap (λ c. n + (c + feeds (take k bs))) (cond-true (x == 10) 1 0 ends) ∙ sym (add_assoc n 1 (feeds (take k bs))) in
    let next = go_back (line_taken f (Some at) n p w) _ q (sym (read_line f (Some at) n p (pieces 10 (w ++ x ∷ bs)) w bs (split_feed w x bs none ends)) ∙ g) in
    never_read f bs k [] (n + 1) at next.0 q (All-nil (λ b. (b == 10) ≡ false)) (omega arith) counted next.2 in
    let other : (x == 10) ≡ false → ⊥ = λ apart.
    let counted : at ≡ n + feeds (take k bs) = e ∙ ap (λ c. n + c) (more x (take k bs)) ∙ ap (λ c. n + (c + feeds (take k bs))) (cond-false (x == 10) 1 0 apart) ∙ ap (λ c. n + c) (zero-add (feeds (take k bs))) in
    never_read f bs k (w ++ x ∷ []) n at p q (All-push (λ b. (b == 10) ≡ false) w x none apart) (omega arith) counted (ap (λ t. folded f (Some at) n p (pieces 10 t)) (append_assoc w (x ∷ []) bs) ∙ g) in
    ⊎_elim feed other (cases_Bool (x == 10))

pub within_limit : {P K : Type 0} (f : Format P K) (start q : P) (most : ℕ) (b : List ℕ) → read_within f start most b ≡ Ok q → length b ≤ most
within_limit f start q most b e = ⊎_elim long (λ few. few) (cases_lt most (length b))
  where
    long : most < length b → length b ≤ most
    long past = absurd (never_read f b most [] 1 (1 + feeds (take most b)) start q (All-nil (λ b. (b == 10) ≡ false)) past refl (sym (ap (λ over. folded f over 1 start (pieces 10 b)) (over_is most b past)) ∙ e))
