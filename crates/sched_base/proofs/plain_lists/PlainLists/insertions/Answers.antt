use Rattle.std.proofs.Common.{◌≡◌, ◌<◌, length, get_or, sym, ap, ◌∙◌, arith}
use Rattle.std.proofs.lemmas.List.{get_or_default}
use Rattle.sched_base.specs.KeyedList.{KeyedList, root_at}
use Rattle.sched_base.proofs.Rows.{roots_of, list_at}
use Rattle.sched_base.proofs.plain_lists.PlainLists.insertions.Goals as goal

pub index-requires : goal.index-requires
index-requires c = omega (arith, c.requires, roots_of _ _ _ c.args.self.now c.self.view_is, c.self.inside.insertions.ok)

pub returns : goal.returns
returns c =
    let within : c.args.root < length c.self.inside.insertions.items = omega (arith, c.requires, roots_of _ _ _ c.args.self.now c.self.view_is) in
    let count : (root_at c.args.root c.args.self.now).insertions ≡ get_or c.self.inside.insertions.items c.args.root 0 = ap (λ (l : KeyedList). l.insertions) (list_at _ _ _ c.args.self.now c.self.view_is c.args.root c.requires) in
    c.index.ensures ∙ get_or_default c.self.inside.insertions.items c.args.root _ 0 within ∙ sym count
