-- Slot by slot, by the word that was taken.
use Rattle.std.proofs.Common.{arith, length, ◌∷◌, [], length-append, List}
use Rattle.text_lines.specs.Pieces.{Word}
use Rattle.text_lines.specs.Pieces.{words_in}
use Rattle.text_lines.specs.Slots.{value_of, values_of}
use Rattle.text_lines.proofs.FrontSteps.{slot_refused, slot_short, slot_fixed, slot_held, slots_done, room_for_one, room_still}
use Rattle.text_lines.proofs.shapes.front.Goals as goal
use Rattle.text_lines.proofs.shapes.front.Goals.{in-Fixed, in-Holds}

pub returns-in_default : goal.returns-in_default
returns-in_default c =
    let p = c.loop-slot in
    slot_short c.args.slots.now p.slot-index (values_of p.values.items) (words_in p.rest) _ c.loop-slot-test.true c.in_default.ensures p.invariant.1

pub returns-in-Refused : goal.returns-in-Refused
returns-in-Refused c =
    let p = c.loop-slot in
    slot_refused c.args.slots.now p.slot-index _ (values_of p.values.items) (words_in p.rest) (c.in-Some.word.now, words_in c.in-Some.more) _ c.loop-slot-test.true c.in-Some.ensures c.in-Refused.ensures p.invariant.1

pub push-requires : goal.push-requires
push-requires c =
    let p = c.loop-slot in
    let one = room_for_one c.args.slots.now p.slot-index _ c.in-Some.word.now (value_of c.in-Holds.value) (length p.values.items) c.loop-slot-test.true c.in-Holds.ensures p.invariant.0 in
    omega arith

pub loop-slot-preserved : goal.loop-slot-preserved
loop-slot-preserved c =
    let p = c.loop-slot in
    let word : Word × List Word = (c.in-Some.word.now, words_in c.in-Some.more) in
    elim c.match-taken.branch [
      | in-Fixed w ↦ rw (w.values-is, w.rest-is) (room_still c.args.slots.now p.slot-index (length p.values.items) c.loop-slot-test.true p.invariant.0, slot_fixed c.args.slots.now p.slot-index _ (values_of p.values.items) (words_in p.rest) word _ c.loop-slot-test.true c.in-Some.ensures w.in-Fixed.ensures p.invariant.1)
      | in-Holds w ↦ rw (w.values-is, w.rest-is) (let one = room_for_one c.args.slots.now p.slot-index _ c.in-Some.word.now (value_of w.in-Holds.value) (length p.values.items) c.loop-slot-test.true w.in-Holds.ensures p.invariant.0 in omega (arith, w.push.ensures.items, length-append p.values.items (w.in-Holds.value ∷ [])), slot_held c.args.slots.now p.slot-index _ p.values.items _ w.in-Holds.value (words_in p.rest) word _ c.loop-slot-test.true c.in-Some.ensures w.in-Holds.ensures w.push.ensures.items p.invariant.1)
    ]

pub returns : goal.returns
returns c =
    let p = c.loop-slot in
    slots_done c.args.slots.now p.slot-index (values_of p.values.items) (words_in p.rest) _ c.loop-slot-test.false p.invariant.1
