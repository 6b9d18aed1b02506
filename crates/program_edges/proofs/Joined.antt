-- Reads and writes that follow one another.
use Rattle.std.proofs.Common.{◌≡◌, ℕ, ◌+◌, ◌-◌, ◌≤◌, List, ◌++◌, Option, Some, None, take, drop, length, sym, ◌∙◌, ap, subst, append_assoc, min, arith}
use Rattle.std.proofs.lemmas.List.{take-append-drop, take_rest, length-take, length-append}
use Rattle.std.proofs.Math.Seq.{take-add}
use Rattle.sched_base.specs.Streams.{Appends, AppendsFront, Reads}
use Rattle.program_edges.specs.Texts.{ReadsAtMost}

-- what was appended in two steps was appended
pub appends_more : (a b c : Option (List ℕ)) (x y : List ℕ) → Appends a b x → Appends b c y → Appends a c (x ++ y)
appends_more None b c x y p q = tt
appends_more (Some s) b c x y p q =
    let next : Appends (Some (s ++ x)) c y = subst (λ o. Appends o c y) p q in
    next ∙ ap Some (append_assoc s x y)

-- a text that was written up to n, and then m bytes of its rest, is written up to n + m
pub appends_up_to : (a b c : Option (List ℕ)) (text : List ℕ) (n m : ℕ) → Appends a b (take n text) → Appends b c (take m (take (length text - n) (drop n text))) → Appends a c (take (n + m) text)
appends_up_to a b c text n m p q =
    let rest : Appends b c (take m (drop n text)) = subst (λ x. Appends b c (take m x)) (take_rest text n) q in
    let front : Appends a c (take n text ++ take m (drop n text)) = appends_more a b c _ _ p rest in
    subst (λ x. Appends a c x) (sym (take-add n m text)) front

-- a text that was written up to n was written in front
pub front_up_to : (a b c : Option (List ℕ)) (text : List ℕ) (n : ℕ) → Appends a b (take n text) → c ≡ b → AppendsFront a c text
front_up_to a b c text n p e =
    (take n text, drop n text, sym (take-append-drop n text), subst (λ o. Appends a o (take n text)) (sym e) p)

-- what was read in two steps was read
pub reads_more : (a b c : Option (List ℕ)) (x y : List ℕ) → Reads a b x → Reads b c y → Reads a c (x ++ y)
reads_more None b c x y p q = tt
reads_more (Some s) None c x y p q = absurd p
reads_more (Some s) (Some r) None x y p q = absurd q
reads_more (Some s) (Some r) (Some t) x y p q = p ∙ ap (λ zs. x ++ zs) q ∙ sym (append_assoc x y t)

-- what was read, and then n bytes more, is no more than the limit
pub reads_few : (a b c : Option (List ℕ)) (x y : List ℕ) (n most : ℕ) → Reads a b x → Reads b c (take n y) → length x + n ≤ most → ReadsAtMost most a c
reads_few a b c x y n most p q few =
    let cut : length (take n y) ≡ min n (length y) = length-take n y in
    let all : length (x ++ take n y) ≡ length x + length (take n y) = length-append x (take n y) in
    (x ++ take n y, omega arith, reads_more a b c x (take n y) p q)
