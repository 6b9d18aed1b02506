use Rattle.std.proofs.Common.{◌≡◌, ◌∙◌, ℕ, Bool, false, List, get_or, set, ap, subst, sym, inl, inr, arith}
use Rattle.std.proofs.lemmas.Bool.{cases_eq}
use Rattle.std.proofs.lemmas.List.{length-set, get_or-set_same, get_or-set_other}
use Rattle.std.specs.Mem.Slots.{slots_items, slots_filled}
use mathlib.Core.Option.{some, some-injective}
use lib.ListN.{get_elem?}
use Rattle.wake_board.specs.declared.body.Body.{Body}
use Rattle.atomic_table.proofs.Lists.{set_here, set_else}
use Rattle.wake_board.proofs.Tables.{at_below}
use Rattle.wake_board.proofs.words.take_bodies.Goals as goal

pub loop-i-preserved : goal.loop-i-preserved
loop-i-preserved c =
    let r = c.loop-i.invariant in
    let slots = c.loop-i.closed.slots in
    let bodies = c.loop-i.bodies in
    let items = slots_items c.args.closed.now.slots in
    let filled = slots_filled slots in
    let i : ℕ = c.loop-i.i in
    let before = c.loop-i-test.true in
    let sized = c.requires.sized in
    let laid = slots.ok in
    let len = r.len in
    let o = c.take.ensures.others in
    let here : get_elem? items i ≡ some c.take.result = subst (λ (xs : List Body). get_elem? xs i ≡ some c.take.result) r.items c.take.ensures.value in
    record {
      words = o.3 ∙ r.words;
      items = o.0 ∙ r.items;
      len = o.2 ∙ r.len;
      empty = λ k l. subst (λ (fs : List Bool). get_or fs k false ≡ false) (sym o.1) (elim (cases_eq k i) [
        | inl same ↦ subst (λ (j : ℕ). get_or (set filled i false) j false ≡ false) (sym same) (get_or-set_same filled i false false (omega arith))
        | inr ne ↦ get_or-set_other filled i k false false ne ∙ r.empty k (omega arith)
      ]);
      full = λ k l m. ap (λ (fs : List Bool). get_or fs k false) o.1 ∙ (get_or-set_other filled i k false false (λ e. omega arith) ∙ r.full k (omega arith) m);
      taken = λ k b l at. elim (cases_eq k i) [
        | inl same ↦
            (let there : get_elem? items i ≡ some b = subst (λ (j : ℕ). get_elem? items j ≡ some b) same at in
            let one : c.take.result ≡ b = some-injective c.take.result b (sym here ∙ there) in
            subst (λ (j : ℕ). get_elem? (set bodies i c.take.result) j ≡ some b) (sym same) (set_here bodies i c.take.result (omega (arith, r.count)) ∙ ap some one))
        | inr ne ↦ set_else bodies i k c.take.result ne ∙ r.taken k b (omega arith) at
      ];
      count = length-set bodies i c.take.result ∙ r.count;
    }

pub returns-clause-bodies : goal.returns-clause-bodies
returns-clause-bodies c =
    let sized = c.requires.sized in
    let laid = c.args.closed.now.slots.ok in
    let items = slots_items c.args.closed.now.slots in
    let over = c.loop-i-test.false in
    λ k b at. let l = at_below items k b at in c.loop-i.invariant.taken k b (omega (arith, c.slot_count-i-end.ensures)) at
