use Rattle.std.proofs.Common.{◌≡◌, ◌<◌, length, sym, ap, ◌∙◌, subst}
use Rattle.std.proofs.lemmas.List.{get_or_default}
use Rattle.sched_base.specs.KeyedList.{KeyedList, root_at}
use Rattle.eb32_core.specs.Forest.{Grove, seen_of}
use Rattle.eb32_core.proofs.Standing.{tended, root_is}
use Rattle.eb32_core.proofs.forest.Forest.insertions.Goals as goal

pub returns-clause-seen : goal.returns-clause-seen
returns-clause-seen c =
    let f : Grove = record { parts = c.self.inside.arena; made = c.self.inside.made.items } in
    let r : c.args.root < length f.parts.links = subst (λ x. c.args.root < length x.parts.links) (sym c.self.view_is) c.requires in
    let within : c.args.root < length f.made = subst (λ n. c.args.root < n) (sym c.self.invariant.counts) r in
    c.index.ensures ∙ get_or_default f.made c.args.root _ 0 within ∙ sym (ap (λ (l : KeyedList). l.insertions) (root_is f c.args.root (tended f c.self.invariant) r)) ∙ ap (λ x. (root_at c.args.root (seen_of x)).insertions) c.self.view_is
