use Rattle.std.proofs.Common.{◌<◌, sym, ◌∙◌, inl, inr, arith}
use Rattle.history_weave.specs.declared.kinds.Kind.TheVariants as kinds
use Rattle.history_weave.specs.Indexed.{groups, tasks_of}
use Rattle.history_weave.proofs.Entering.{enters-read, named-read, group-lt, draws-read, entered-look, entered-get, entered-draw, entered-other, draw-fits}
use Rattle.history_weave.proofs.index.Index.enter.Goals as goal

pub overflow_add-index_mut : goal.overflow_add-index_mut
overflow_add-index_mut c =
    let x = c.args.self.now in
    let logs = c.args.logs.now in
    let e = c.index-as_slice-place.result in
    let t = c.in-Draw.task in
    let r = enters-read logs x c.args.k c.args.place c.index.result.now c.index-logs-k.result c.as_slice.result.now e c.requires.indexed c.requires.caller c.requires.next c.index.ensures c.index-logs-k.is c.as_slice.ensures c.index-as_slice-place.is in
    let h = sym c.kind_of.ensures ∙ c.in-Draw.is in
    let lt : t < tasks_of x = named-read logs (tasks_of x) c.args.k c.args.place e (kinds.Draw t) c.requires.named r.stands h in
    let fits = draw-fits logs x c.args.k c.args.place t c.index_mut-in-Draw.result.now e c.requires.indexed r.stands r.next h lt (draws-read logs x t c.index_mut-in-Draw.result.now c.requires.indexed lt c.index_mut-in-Draw.ensures.value) in omega arith

pub returns-in-Look-clause-indexed : goal.returns-in-Look-clause-indexed
returns-in-Look-clause-indexed c =
    let x = c.args.self.now in
    let logs = c.args.logs.now in
    let e = c.index-as_slice-place.result in
    let t = c.in-Look.task in
    let κ = kinds.Look t c.in-Look.seen c.in-Look.quiet in
    let r = enters-read logs x c.args.k c.args.place c.index.result.now c.index-logs-k.result c.as_slice.result.now e c.requires.indexed c.requires.caller c.requires.next c.index.ensures c.index-logs-k.is c.as_slice.ensures c.index-as_slice-place.is in
    let h = sym c.kind_of.ensures ∙ c.in-Look.is in
    let lt : t < tasks_of x = named-read logs (tasks_of x) c.args.k c.args.place e κ c.requires.named r.stands h in
    rw r.first (entered-look logs x c.args.k c.args.place t c.in-Look.seen c.in-Look.quiet e c.set.new.self c.set-in-Look.new.self c.at.result c.at-in-Look.result c.requires.indexed r.stands r.next h lt c.at.ensures c.at-in-Look.ensures (record { rows = c.set.ensures.rows; columns = c.set.ensures.columns; same = c.set.ensures.same; others = c.set.ensures.others }) (record { rows = c.set-in-Look.ensures.rows; columns = c.set-in-Look.ensures.columns; same = c.set-in-Look.ensures.same ∙ c.look_mark.ensures; others = c.set-in-Look.ensures.others }))

pub returns-in-Get-clause-indexed : goal.returns-in-Get-clause-indexed
returns-in-Get-clause-indexed c =
    let x = c.args.self.now in
    let logs = c.args.logs.now in
    let e = c.index-as_slice-place.result in
    let g = c.in-Get.group in
    let r = enters-read logs x c.args.k c.args.place c.index.result.now c.index-logs-k.result c.as_slice.result.now e c.requires.indexed c.requires.caller c.requires.next c.index.ensures c.index-logs-k.is c.as_slice.ensures c.index-as_slice-place.is in
    let h = sym c.kind_of.ensures ∙ c.in-Get.is in
    let lt : g < groups (tasks_of x) = group-lt g (tasks_of x) (named-read logs (tasks_of x) c.args.k c.args.place e (kinds.Get g) c.requires.named r.stands h) in
    rw r.first (entered-get logs x c.args.k c.args.place g e c.set-in-Get.new.self c.at-in-Get.result c.requires.indexed r.stands r.next h lt c.at-in-Get.ensures (record { rows = c.set-in-Get.ensures.rows; columns = c.set-in-Get.ensures.columns; same = c.set-in-Get.ensures.same; others = c.set-in-Get.ensures.others }))

pub returns-in-Draw-clause-indexed : goal.returns-in-Draw-clause-indexed
returns-in-Draw-clause-indexed c =
    let x = c.args.self.now in
    let logs = c.args.logs.now in
    let e = c.index-as_slice-place.result in
    let t = c.in-Draw.task in
    let r = enters-read logs x c.args.k c.args.place c.index.result.now c.index-logs-k.result c.as_slice.result.now e c.requires.indexed c.requires.caller c.requires.next c.index.ensures c.index-logs-k.is c.as_slice.ensures c.index-as_slice-place.is in
    let h = sym c.kind_of.ensures ∙ c.in-Draw.is in
    let lt : t < tasks_of x = named-read logs (tasks_of x) c.args.k c.args.place e (kinds.Draw t) c.requires.named r.stands h in
    entered-draw logs x c.args.k c.args.place t c.index_mut-in-Draw.result.now e c.requires.indexed r.stands r.next h lt (draws-read logs x t c.index_mut-in-Draw.result.now c.requires.indexed lt c.index_mut-in-Draw.ensures.value)

pub returns-in-Post-clause-indexed : goal.returns-in-Post-clause-indexed
returns-in-Post-clause-indexed c =
    let x = c.args.self.now in
    let logs = c.args.logs.now in
    let e = c.index-as_slice-place.result in
    let r = enters-read logs x c.args.k c.args.place c.index.result.now c.index-logs-k.result c.as_slice.result.now e c.requires.indexed c.requires.caller c.requires.next c.index.ensures c.index-logs-k.is c.as_slice.ensures c.index-as_slice-place.is in
    elim c.in-Post.is [
      | inl post ↦ entered-other logs x c.args.k c.args.place e (kinds.Post post.0 post.1) c.requires.indexed r.stands r.next (sym c.kind_of.ensures ∙ post.2) tt tt tt
      | inr apart ↦ entered-other logs x c.args.k c.args.place e kinds.Apart c.requires.indexed r.stands r.next (sym c.kind_of.ensures ∙ apart) tt tt tt
    ]
