use Rattle.std.proofs.Common.{◌≡◌, ℕ, List, length, sym, ap, subst, ◌∙◌}
use Rattle.wake_board.specs.Rows.{WordRow, width}
use Rattle.wake_board.specs.Lent.{AreLent}
use Rattle.wake_board.specs.Start.{start_of}
use Rattle.wake_board.specs.Between.{StandBetween}
use Rattle.wake_board.proofs.Opens.{opens}
use Rattle.wake_board.proofs.open.lay.Goals as goal

pub new-requires : goal.new-requires
new-requires c =
    let o = c.args.opening.now in
    let bodies = c.in_ok-bodies.bodies.items in
    let ws : WordRow = record { workers = c.words.inside.workers; tasks = c.words.inside.tasks; row = c.words.inside.row.items; bodies = c.words.inside.bodies.items } in
    let view : ws ≡ o.words.value = c.words.view_is ∙ sym c.requires.words in
    let sizes = c.words.invariant in
    let wide : length c.words.inside.row.items ≡ width o.words.value.workers o.words.value.tasks = sizes.3 ∙ ap (λ (w : WordRow). width w.workers w.tasks) view in
    let lent : AreLent o.words.value o.homes.items bodies = subst (λ (hs : List ℕ). AreLent o.words.value hs bodies) c.as_slice.ensures.value (subst (λ (w : WordRow). AreLent w c.as_slice.result.now bodies) (sym c.requires.words) c.in_ok-bodies.ensures) in
    let stands : StandBetween o.words.value o.homes.items o.holders.items o.nexts.value (start_of o).state = subst (λ (w : WordRow). StandBetween w o.homes.items o.holders.items o.nexts.value (start_of o).state) (sym c.requires.words) c.requires.stands in
    opens o c.as_slice-2.result.now bodies (c.as_slice-2.ensures.value ∙ ap (λ (w : WordRow). w.row) view) lent (ap length c.as_slice-2.ensures.value ∙ wide) stands c.requires.few
