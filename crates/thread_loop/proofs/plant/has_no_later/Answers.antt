use Rattle.std.proofs.Common.{◌<◌, List, leb, ap, sym, ◌∙◌, length, arith, inl, inr}
use Rattle.std.specs.List.{list_all}
use Rattle.std.proofs.lemmas.Bool.{cases_eq}
use Rattle.step_tables.specs.declared.tables.Event.{Event}
use Rattle.step_tables.specs.Sound.{rising_below}
use Rattle.thread_loop.proofs.Opened.{events_rise}
use Rattle.thread_loop.proofs.PlantRests.{later-by-last}
use Rattle.thread_loop.proofs.plant.has_no_later.Goals as goal

pub returns : goal.returns
returns c =
    let s = c.args.script.now in
    let es = c.events-events.result.now in
    let same = c.events-events.ensures.same in
    let rises = ap (rising_below 0 s.rounds) same ∙ events_rise s c.events-events.ensures.sound in
    let some : 0 < length es = elim (cases_eq (length es) 0) [ inl none ↦ absurd (c.if-count-eq0.false none) | inr ne ↦ omega arith ] in
    sym (later-by-last c.args.round 0 s.rounds es c.index-events-count.result rises some) ∙ ap (λ (xs : List Event). list_all (λ e. leb e.round c.args.round) xs) same
