use Rattle.std.proofs.Common.{◌≡◌, suc, ◌+◌, ◌<◌, sym, ◌∙◌, inl, inr, arith}
use Rattle.history_weave.specs.declared.kinds.Kind.TheVariants as kinds
use Rattle.history_weave.specs.Indexed.{groups, tasks_of}
use Rattle.history_weave.proofs.Entering.{leaves-read, link-read, mark-read, named-read, group-lt, draws-read, left-look, left-get, left-draw, left-other, draw-some}
use Rattle.history_weave.proofs.index.Index.leave.Goals as goal

pub overflow_sub-index_mut : goal.overflow_sub-index_mut
overflow_sub-index_mut c =
    let x = c.args.self.now in
    let logs = c.args.logs.now in
    let e = c.index-as_slice-place.result in
    let t = c.in-Draw.task in
    let r = leaves-read logs x c.args.k c.index-place.result.now c.index.result.now c.index-logs-k.result c.as_slice.result.now e c.requires.indexed c.requires.caller c.requires.some c.index-place.ensures c.index.ensures c.index-logs-k.is c.as_slice.ensures c.index-as_slice-place.is in
    let h = sym c.kind_of.ensures ∙ c.in-Draw.is in
    let lt : t < tasks_of x = named-read logs (tasks_of x) c.args.k c.index-place.result.now e (kinds.Draw t) c.requires.named r.stands h in
    draw-some logs x c.args.k c.index-place.result.now t c.index_mut-in-Draw.result.now e c.requires.indexed r.stands r.next h lt (draws-read logs x t c.index_mut-in-Draw.result.now c.requires.indexed lt c.index_mut-in-Draw.ensures.value)

pub returns-in-Look-clause-indexed : goal.returns-in-Look-clause-indexed
returns-in-Look-clause-indexed c =
    let x = c.args.self.now in
    let logs = c.args.logs.now in
    let e = c.index-as_slice-place.result in
    let p = c.index-place.result.now in
    let t = c.in-Look.task in
    let κ = kinds.Look t c.in-Look.seen c.in-Look.quiet in
    let r = leaves-read logs x c.args.k c.index-place.result.now c.index.result.now c.index-logs-k.result c.as_slice.result.now e c.requires.indexed c.requires.caller c.requires.some c.index-place.ensures c.index.ensures c.index-logs-k.is c.as_slice.ensures c.index-as_slice-place.is in
    let h = sym c.kind_of.ensures ∙ c.in-Look.is in
    let lt : t < tasks_of x = named-read logs (tasks_of x) c.args.k p e κ c.requires.named r.stands h in
    let link = link-read logs x c.args.k p c.index.result.now c.index-later.result.now e c.requires.indexed r c.index-later.ensures in
    let mark = mark-read logs x c.args.k p c.index.result.now c.index-mark.result.now e c.requires.indexed r c.index-mark.ensures in
    let on : p + 1 ≡ suc p = omega arith in
    rw on (left-look logs x c.args.k p t c.in-Look.seen c.in-Look.quiet e c.set.new.self c.set-in-Look.new.self c.index-later.result.now c.index-mark.result.now c.requires.indexed r.stands r.next h lt link mark (record { rows = c.set.ensures.rows; columns = c.set.ensures.columns; same = c.set.ensures.same; others = c.set.ensures.others }) (record { rows = c.set-in-Look.ensures.rows; columns = c.set-in-Look.ensures.columns; same = c.set-in-Look.ensures.same; others = c.set-in-Look.ensures.others }))

pub returns-in-Get-clause-indexed : goal.returns-in-Get-clause-indexed
returns-in-Get-clause-indexed c =
    let x = c.args.self.now in
    let logs = c.args.logs.now in
    let e = c.index-as_slice-place.result in
    let p = c.index-place.result.now in
    let g = c.in-Get.group in
    let r = leaves-read logs x c.args.k c.index-place.result.now c.index.result.now c.index-logs-k.result c.as_slice.result.now e c.requires.indexed c.requires.caller c.requires.some c.index-place.ensures c.index.ensures c.index-logs-k.is c.as_slice.ensures c.index-as_slice-place.is in
    let h = sym c.kind_of.ensures ∙ c.in-Get.is in
    let lt : g < groups (tasks_of x) = group-lt g (tasks_of x) (named-read logs (tasks_of x) c.args.k p e (kinds.Get g) c.requires.named r.stands h) in
    let link = link-read logs x c.args.k p c.index.result.now c.index-in-Get.result.now e c.requires.indexed r c.index-in-Get.ensures in
    let on : p + 1 ≡ suc p = omega arith in
    rw on (left-get logs x c.args.k p g e c.set-in-Get.new.self c.index-in-Get.result.now c.requires.indexed r.stands r.next h lt link (record { rows = c.set-in-Get.ensures.rows; columns = c.set-in-Get.ensures.columns; same = c.set-in-Get.ensures.same; others = c.set-in-Get.ensures.others }))

pub returns-in-Draw-clause-indexed : goal.returns-in-Draw-clause-indexed
returns-in-Draw-clause-indexed c =
    let x = c.args.self.now in
    let logs = c.args.logs.now in
    let e = c.index-as_slice-place.result in
    let p = c.index-place.result.now in
    let t = c.in-Draw.task in
    let r = leaves-read logs x c.args.k c.index-place.result.now c.index.result.now c.index-logs-k.result c.as_slice.result.now e c.requires.indexed c.requires.caller c.requires.some c.index-place.ensures c.index.ensures c.index-logs-k.is c.as_slice.ensures c.index-as_slice-place.is in
    let h = sym c.kind_of.ensures ∙ c.in-Draw.is in
    let lt : t < tasks_of x = named-read logs (tasks_of x) c.args.k p e (kinds.Draw t) c.requires.named r.stands h in
    let on : p + 1 ≡ suc p = omega arith in
    rw on (left-draw logs x c.args.k p t c.index_mut-in-Draw.result.now e c.requires.indexed r.stands r.next h lt (draws-read logs x t c.index_mut-in-Draw.result.now c.requires.indexed lt c.index_mut-in-Draw.ensures.value))

pub returns-in-Post-clause-indexed : goal.returns-in-Post-clause-indexed
returns-in-Post-clause-indexed c =
    let x = c.args.self.now in
    let logs = c.args.logs.now in
    let e = c.index-as_slice-place.result in
    let p = c.index-place.result.now in
    let r = leaves-read logs x c.args.k c.index-place.result.now c.index.result.now c.index-logs-k.result c.as_slice.result.now e c.requires.indexed c.requires.caller c.requires.some c.index-place.ensures c.index.ensures c.index-logs-k.is c.as_slice.ensures c.index-as_slice-place.is in
    let on : p + 1 ≡ suc p = omega arith in
    rw on (elim c.in-Post.is [
      | inl post ↦ left-other logs x c.args.k p e (kinds.Post post.0 post.1) c.requires.indexed r.stands r.next (sym c.kind_of.ensures ∙ post.2) tt tt tt
      | inr apart ↦ left-other logs x c.args.k p e kinds.Apart c.requires.indexed r.stands r.next (sym c.kind_of.ensures ∙ apart) tt tt tt
    ])
