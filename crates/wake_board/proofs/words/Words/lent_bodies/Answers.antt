use Rattle.std.proofs.Common.{◌≡◌, ◌∙◌, List, length, ap, sym, subst, arith, get_or}
use Rattle.std.proofs.lemmas.List.{get_or_default}
use Rattle.atomic_table.proofs.Lists.{at_index}
use Rattle.wake_board.specs.declared.body.Body.{Body}
use Rattle.wake_board.specs.Rows.{WordRow, first_body}
use Rattle.wake_board.proofs.words.Words.lent_bodies.Goals as goal

pub returns : goal.returns
returns c =
    let ws : WordRow = c.args.self.now in
    let bodies = c.in_ok-bodies.bodies.items in
    let copied : bodies ≡ ws.bodies = c.in_ok-bodies.ensures in
    let count : length bodies ≡ ws.tasks = ap length copied ∙ subst (λ (w : WordRow). length w.bodies ≡ w.tasks) c.self.view_is c.self.invariant.4 in
    record {
      few = omega arith;
      shared = λ i l home.
          let body : Body = get_or ws.bodies i first_body in
          at_index bodies i body (omega arith) (ap (λ (xs : List Body). get_or xs i first_body) (sym copied) ∙ get_or_default bodies i first_body body (omega arith));
    }
