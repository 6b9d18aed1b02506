-- What is read of a line is written as the same words.
use Rattle.std.proofs.Common.{◌≡◌, ℕ, ◌^◌, ◌<◌, Bool, true, false, ◌==◌, if◌then◌else◌, List, [], ◌∷◌, ◌++◌, Option, Some, None, refl, ap, ◌∙◌, sym, subst, arith, append-nil, ⊎_elim, suc, zero}
use Rattle.std.specs.List.{join_with_byte}
use Rattle.std.proofs.lemmas.Option.{none-some}
use Rattle.std.proofs.lemmas.Bool.{eqb-true}
use Rattle.std.proofs.lemmas.List.Splits.{join_with_byte-slice_split}
use Rattle.transcript.specs.Types.{Stand, Seen, Call, Reply, Name, Said, First, Holds}
use Rattle.task_machine.specs.declared.calls.Reply.TheVariants as replies
use Rattle.text_lines.specs.Pieces.{Word, pieces}
use Rattle.text_lines.specs.Numbers.{number}
use Rattle.text_lines.specs.Slots.{Value, of_small, of_number, of_reasons, of_index, number_at}
use Rattle.text_lines.specs.Shapes.{Fits, front, part_at, words, row_words}
use Rattle.text_lines.proofs.Steps.{some_same, bind_some, or_some}
use Rattle.text_lines.proofs.NumbersAgain.{number_back}
use Rattle.text_lines.proofs.FrontBack.{front_back}
use Rattle.text_lines.proofs.Parts.{part_back}
use Rattle.task_machine.specs.declared.task.Stand.TheVariants as stands
use Rattle.transcript.specs.declared.shape.Name.TheVariants as names
use Rattle.transcript.specs.declared.shape.Answer.{Answer}
use Rattle.transcript.specs.declared.shape.Answer.TheVariants as answers
use Rattle.transcript.specs.Tables.{row, all_names, answer_of, mask_slots, live}
use Rattle.transcript.specs.HasText.{HasTextSeen, HasTextCall, HasTextLine, TellsTask, TellsGroup, TellsNothing, FitsReply, FitsCall}
use Rattle.transcript.specs.Spelling.{call_words, seen_words, fate_index, stand_name, reply_words, caller_word, end_index, line_words, first_words}
use Rattle.transcript.specs.Grammar.{call_of, live_of, seen_of, line_of, at_end, alone, seen_in, reply_in, caller_in, entry_in, plain_in, said_by, said}

-- no word was left
nothing_left : {A : Type 0} (ws : List Word) (x y : A) → at_end ws x ≡ Some y → (ws ≡ []) × (x ≡ y)
nothing_left [] x y e = (refl, some_same e)
nothing_left (w ∷ ws) x y e = absurd (none-some y e)

-- the answer is of this kind
abbrev Answers : Answer → Reply → Type 0
Answers answers.Seen r = TellsTask r
Answers answers.Group r = TellsGroup r
Answers answers.Nothing r = TellsNothing r

-- the call of the values of a row has these values
pub record CallBack (k : Name) (vs : List Value) (c : Call) : Type 0 where
  pub words : row_words (row k) vs ≡ call_words c
  pub fits : FitsCall c
  pub texts : (r : Reply) → Answers (answer_of k) r → HasTextCall c r

call_back : (k : Name) (vs : List Value) (c : Call) → Fits (row k).slots vs → call_of k vs ≡ Some c → CallBack k vs c
call_back names.Wake (of_small i ∷ of_reasons f ∷ []) c fits e = subst (CallBack names.Wake _) (some_same e) (record { words = refl; fits = (fits.0, fits.1.0.1); texts = λ r t. (fits.1.0.0, t) })
call_back names.Kill (of_small i ∷ []) c fits e = subst (CallBack names.Kill _) (some_same e) (record { words = refl; fits = fits.0; texts = λ r t. t })
call_back names.Post (of_small i ∷ of_small b ∷ []) c fits e = subst (CallBack names.Post _) (some_same e) (record { words = refl; fits = (fits.0, fits.1.0); texts = λ r t. t })
call_back names.Get (of_small g ∷ []) c fits e = subst (CallBack names.Get _) (some_same e) (record { words = refl; fits = fits.0; texts = λ r t. t })
call_back names.Draw (of_small i ∷ []) c fits e = subst (CallBack names.Draw _) (some_same e) (record { words = refl; fits = fits.0; texts = λ r t. t })
call_back names.Take (of_small i ∷ []) c fits e = subst (CallBack names.Take _) (some_same e) (record { words = refl; fits = fits.0; texts = λ r t. t })
call_back names.DropRun (of_small i ∷ []) c fits e = subst (CallBack names.DropRun _) (some_same e) (record { words = refl; fits = fits.0; texts = λ r t. t })
call_back names.Retire (of_small i ∷ []) c fits e = subst (CallBack names.Retire _) (some_same e) (record { words = refl; fits = fits.0; texts = λ r t. t })
call_back k vs c fits e = absurd (first_of ((assumption fits), (cc)))

-- the row that stands alone
record AloneBack {A : Type 0} (make : Name → List Value → Option A) (ws : List Word) (x : A) : Type 0 where
  kind : Name
  values : List Value
  words : row_words (row kind) values ≡ ws
  fits : Fits (row kind).slots values
  makes : make kind values ≡ Some x

alone_back : {A : Type 0} (make : Name → List Value → Option A) (ws : List Word) (x : A) → alone make ws ≡ Some x → AloneBack make ws x
alone_back make ws x e =
    let (p, found, more) = bind_some (part_at row all_names ws) _ x e in
    let (y, makes, last) = bind_some (make p.kind p.values) _ x more in
    let (end, same) = nothing_left p.rest y x last in
    let (is, fits) = part_back row all_names ws p found in
    record { kind = p.kind; values = p.values; words = sym (is ∙ ap (λ rest. row_words (row p.kind) p.values ++ rest) end ∙ append-nil (row_words (row p.kind) p.values)); fits = fits; makes = makes ∙ ap Some same }

-- what a call saw
abbrev SeenBack : List Word → Seen → Type 0
SeenBack ws s = (ws ≡ seen_words s) × FitsReply (replies.Task s) × HasTextSeen s

fate_same : (i : ℕ) → i < 2 → fate_index (i == 1) ≡ i
fate_same zero below = refl
fate_same (suc zero) below = refl
fate_same (suc (suc i)) below = absurd (omega arith)

live_back : (stand : Stand) (vs : List Value) (s : Seen) → Fits live vs → Some (live_of stand vs) ≡ Some s → SeenBack (row_words (row (stand_name stand)) vs) s
live_back stand (of_reasons p ∷ of_index i ∷ of_number n ∷ []) s fits e =
    subst (SeenBack _) (some_same e) (ap (λ j. row_words (row (stand_name stand)) (of_reasons p ∷ of_index j ∷ of_number n ∷ [])) (sym (fate_same i fits.1.0)), fits.0, fits.1.1.0)
live_back stand vs s fits e = absurd (assumption fits)

seen_values_back : (k : Name) (vs : List Value) (s : Seen) → Fits (row k).slots vs → seen_of k vs ≡ Some s → SeenBack (row_words (row k) vs) s
seen_values_back names.Gone [] s fits e = subst (SeenBack _) (some_same e) (refl, tt, tt)
seen_values_back names.Rest vs s fits e = live_back stands.Rest vs s fits e
seen_values_back names.Queued vs s fits e = live_back stands.Queued vs s fits e
seen_values_back names.Runs vs s fits e = live_back stands.Runs vs s fits e
seen_values_back k vs s fits e = absurd (first_of ((assumption fits), (cc)))

seen_back : (ws : List Word) (s : Seen) → seen_in ws ≡ Some s → SeenBack ws s
seen_back ws s e =
    let p = alone_back seen_of ws s e in
    subst (λ ws. SeenBack ws s) p.words (seen_values_back p.kind p.values s p.fits p.makes)

-- the answer to a call
abbrev ReplyBack : Answer → List Word → Reply → Type 0
ReplyBack a ws r = (ws ≡ reply_words r) × FitsReply r × Answers a r

mask_fits : (vs : List Value) → Fits mask_slots vs → (n : ℕ) × (vs ≡ of_number n ∷ []) × (n < 2 ^ 64)
mask_fits (of_number n ∷ []) fits = (n, refl, fits.0)
mask_fits vs fits = absurd (assumption fits)

group_back : (ws : List Word) (r : Reply) → reply_in answers.Group ws ≡ Some r → ReplyBack answers.Group ws r
group_back ws r e =
    let p = bind_some (front mask_slots ws) _ r e in
    let end = nothing_left p.0.1 (replies.Group (number_at p.0.0 0)) r p.2 in
    let back = front_back mask_slots ws p.0 p.1 in
    let m = mask_fits p.0.0 back.1 in
    let whole : words mask_slots (of_number m.0 ∷ []) ≡ ws = sym (back.0 ∙ ap (λ rest. words mask_slots p.0.0 ++ rest) end.0 ∙ append-nil (words mask_slots p.0.0) ∙ ap (words mask_slots) m.1) in
    let same : replies.Group m.0 ≡ r = ap (λ vs. replies.Group (number_at vs 0)) (sym m.1) ∙ end.1 in
    subst (λ ws. ReplyBack answers.Group ws r) whole (subst (ReplyBack answers.Group (words mask_slots (of_number m.0 ∷ []))) same (refl, m.2, tt))

reply_back : (a : Answer) (ws : List Word) (r : Reply) → reply_in a ws ≡ Some r → ReplyBack a ws r
reply_back answers.Seen ws r e =
    let p = bind_some (seen_in ws) _ r e in
    let back = seen_back ws p.0 p.1 in
    subst (ReplyBack answers.Seen ws) (some_same p.2) (back.0, back.1, back.2)
reply_back answers.Group ws r e = group_back ws r e
reply_back answers.Nothing ws r e =
    let end = nothing_left ws replies.Done r e in
    subst (ReplyBack answers.Nothing ws) end.1 (end.0, tt, tt)

caller_back : (w : Word) (k : ℕ) → caller_in w ≡ Some k → (w ≡ caller_word k) × (k < 2 ^ 32)
caller_back [] k e = absurd (none-some k e)
caller_back (c ∷ w) k e = go (c == 99) refl e where
  go : (b : Bool) → (c == 99) ≡ b → (if b then number 4294967295 w else None) ≡ Some k → (c ∷ w ≡ caller_word k) × (k < 2 ^ 32)
  go true t e =
      let b = number_back 4294967295 k w (omega arith) e in
      let letter : c ≡ 99 = eqb-true c 99 t in
      (ap (λ c. c ∷ w) letter ∙ ap (λ w. 99 ∷ w) b.0, omega (arith, b.1))
  go false t e = absurd (none-some k e)

-- what a line says, and its words
abbrev pub SaidBack : List Word → Said → Type 0
SaidBack ws First = ws ≡ first_words
SaidBack ws (Holds l) = (ws ≡ line_words l) × HasTextLine l

cons_same : {a b : Word} {xs ys : List Word} → a ≡ b → xs ≡ ys → (a ∷ xs) ≡ (b ∷ ys)
cons_same p q = cc

entry_back : (ws : List Word) (s : Said) → entry_in ws ≡ Some s → SaidBack ws s
entry_back [] s e = absurd (none-some s e)
entry_back (w ∷ ws) s e =
    let k = bind_some (caller_in w) _ s e in
    let p = bind_some (part_at row all_names ws) _ s k.2 in
    let c = bind_some (call_of p.0.kind p.0.values) _ s p.2 in
    let r = bind_some (reply_in (answer_of p.0.kind) p.0.rest) _ s c.2 in
    let caller = caller_back w k.0 k.1 in
    let part = part_back row all_names ws p.0 p.1 in
    let call = call_back p.0.kind p.0.values c.0 part.1 c.1 in
    let reply = reply_back (answer_of p.0.kind) p.0.rest r.0 r.1 in
    let more : ws ≡ call_words c.0 ++ reply_words r.0 = part.0 ∙ ap (λ x. x ++ p.0.rest) call.words ∙ ap (λ x. call_words c.0 ++ x) reply.0 in
    subst (SaidBack (w ∷ ws)) (some_same r.2) (cons_same caller.0 more, ((caller.1, call.fits, reply.1), call.texts r.0 reply.2))

rest_same : (i : ℕ) → i < 2 → end_index (i == 0) ≡ i
rest_same zero below = refl
rest_same (suc zero) below = refl
rest_same (suc (suc i)) below = absurd (omega arith)

line_values_back : (k : Name) (vs : List Value) (s : Said) → Fits (row k).slots vs → line_of k vs ≡ Some s → SaidBack (row_words (row k) vs) s
line_values_back names.First [] s fits e = subst (SaidBack _) (some_same e) refl
line_values_back names.Round (of_small n ∷ of_small t ∷ []) s fits e = subst (SaidBack _) (some_same e) (refl, (fits.0, fits.1.1.0))
line_values_back names.End (of_index i ∷ of_small n ∷ []) s fits e =
    subst (SaidBack _) (some_same e) (ap (λ i. row_words (row names.End) (of_index i ∷ of_small n ∷ [])) (sym (rest_same i fits.0)), fits.1.0)
line_values_back k vs s fits e = absurd (first_of ((assumption fits), (cc)))

plain_back : (ws : List Word) (s : Said) → plain_in ws ≡ Some s → SaidBack ws s
plain_back ws s e =
    let p = alone_back line_of ws s e in
    subst (λ ws. SaidBack ws s) p.words (line_values_back p.kind p.values s p.fits p.makes)

said_by_back : (ws : List Word) (s : Said) → said_by ws ≡ Some s → SaidBack ws s
said_by_back ws s e = ⊎_elim (entry_back ws s) (plain_back ws s) (or_some (entry_in ws) (plain_in ws) s e)

-- a line is its words, joined by spaces
pub said_back : (text : List ℕ) (s : Said) → said text ≡ Some s → (text ≡ join_with_byte 32 (pieces 32 text)) × SaidBack (pieces 32 text) s
unfolding said
said_back text s e = (sym (join_with_byte-slice_split 32 text), said_by_back (pieces 32 text) s e)
