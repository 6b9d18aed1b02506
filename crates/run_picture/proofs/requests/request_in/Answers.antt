-- Each word that was found is the one of its row.
use Rattle.std.proofs.Common.{◌≡◌, ◌∙◌, ap, sym, subst, codes, Option, Bool, ℕ}
use Rattle.clap.specs.Words.{Text, first_of, found_of, rows_of}
use Rattle.clap.proofs.WalkLemmas.{first_value-rows}
use Rattle.run_picture.specs.Requests.{asked_from, bound_of, is_set, Asks}
use Rattle.run_picture.proofs.requests.request_in.Goals as goal

pub returns : goal.returns
returns c =
    let found = found_of c.args.matches.now in
    let rows = rows_of found in
    let first = c.bound_of-first.ensures ∙ ap (bound_of 0) (c.get_str.ensures ∙ first_value-rows found (codes "from")) in
    let last = c.bound_of-last.ensures ∙ ap (bound_of 4294967295) (c.get_str-2.ensures ∙ first_value-rows found (codes "to")) in
    let text = c.is_set-is_text.ensures ∙ ap is_set (c.get_str-3.ensures ∙ first_value-rows found (codes "text")) in
    subst (λ (b : Bool). Asks c.asked_from.result (asked_from (bound_of 0 (first_of (codes "from") rows)) (bound_of 4294967295 (first_of (codes "to") rows)) b)) text
    (subst (λ (o : Option ℕ). Asks c.asked_from.result (asked_from (bound_of 0 (first_of (codes "from") rows)) o c.is_set-is_text.result)) last
    (subst (λ (o : Option ℕ). Asks c.asked_from.result (asked_from o c.bound_of-last.result c.is_set-is_text.result)) first c.asked_from.ensures))
