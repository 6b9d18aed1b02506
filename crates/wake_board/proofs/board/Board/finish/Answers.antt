use Rattle.std.proofs.Common.{◌≡◌, ◌∙◌, ℕ, List, Option, sym, subst}
use Rattle.std.specs.Mem.Slots.{slots_items}
use mathlib.Core.Option.{some}
use lib.ListN.{get_elem?}
use Rattle.wake_board.specs.declared.body.Body.{Body}
use Rattle.wake_board.specs.Start.{start_of}
use Rattle.wake_board.specs.Seen.{Held, Laid}
use Rattle.wake_board.specs.Ends.{AllBack, Finishes}
use Rattle.wake_board.proofs.Opens.{length-tasks_by, same_row}
use Rattle.wake_board.proofs.Ends.{finishes}
use Rattle.wake_board.proofs.board.Board.finish.Goals as goal

pub returns : goal.returns
returns c =
    let table = c.self.inside.table in
    let o = table.shared.key in
    let b : Laid = record { board = table.shared.table_id; start = start_of o } in
    let view : b ≡ c.args.self = c.self.view_is in
    let passes : c.passes.inside.places.items ≡ c.args.passes = c.passes.view_is in
    let back : AllBack b c.passes.inside.places.items = subst (λ (x : Laid). AllBack x c.passes.inside.places.items) (sym view) (subst (AllBack c.args.self) (sym passes) c.requires) in
    let final = c.close_with.ensures.values.2 in
    let row = slots_items c.close_with.result.words in
    let bodies = c.filled.result.bodies in
    let homes : (k : ℕ) (y : Body) → get_elem? final.0.homes k ≡ some (some y) → get_elem? bodies k ≡ some y = λ k y at. c.filled.ensures.bodies k y (final.4 k y at) in
    let end = finishes o table.shared.table_id final.0 final.1.0 c.gather-seat.result.id c.gather-seat.result.me.0 c.passes.inside.places.items final.1.1 c.gather-seat.ensures.all back bodies homes in
    let tasks : o.words.value.tasks ≡ c.self.inside.words.tasks = sym (length-tasks_by o.words.value o.homes.items o.holders.items 0 o.words.value.tasks) ∙ c.self.invariant.tasks in
    let ws = same_row o.words.value.workers c.self.inside.words.workers o.words.value.tasks c.self.inside.words.tasks final.0.words row bodies c.self.invariant.workers tasks final.2 in
    subst (λ (x : Laid). Finishes x c.args.passes c.filled.result) view (subst (λ (ps : List (Option Held)). Finishes b ps c.filled.result) passes (subst (Finishes b c.passes.inside.places.items) (ws ∙ sym c.filled.ensures.words) end))
