-- An entry, part by part as it is written.
use Rattle.std.proofs.Common.{◌≡◌, ℕ, List, [], ◌∷◌, ◌++◌, ap, ◌∙◌, append_assoc, decimal}
use Rattle.task_machine.specs.declared.calls.Entry.{Entry}
use Rattle.text_lines.specs.Added.{spaced}
use Rattle.text_lines.proofs.Spaces.{spelled_cons, spaced_append}
use Rattle.transcript.specs.Spelling.{entry_text, call_words, reply_words}

entry_parts : (e : Entry) → entry_text e ≡ 99 ∷ (decimal e.caller.0 ++ (spaced (call_words e.call) ++ (spaced (reply_words e.reply) ++ 10 ∷ [])))
entry_parts e =
    spelled_cons (99 ∷ decimal e.caller.0) (call_words e.call ++ reply_words e.reply) ∙ ap (λ t. 99 ∷ (decimal e.caller.0 ++ t)) (ap (λ t. t ++ 10 ∷ []) (spaced_append (call_words e.call) (reply_words e.reply)) ∙ append_assoc (spaced (call_words e.call)) (spaced (reply_words e.reply)) (10 ∷ []))

-- the parts, written one after another
pub entry_written : (e : Entry) (old c number call reply new : List ℕ) → c ≡ old ++ 99 ∷ [] → number ≡ c ++ decimal e.caller.0 → call ≡ number ++ spaced (call_words e.call) → reply ≡ call ++ spaced (reply_words e.reply) → new ≡ reply ++ 10 ∷ [] → new ≡ old ++ entry_text e
entry_written e old c number call reply new ec en ek er el = rw (el, er, ek, en, ec, entry_parts e) (simp append_assoc)
