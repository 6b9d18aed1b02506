use Rattle.std.proofs.Common.{List, ltb, leb, arith, rules, ap, length}
use Rattle.std.proofs.lemmas.List.Sorted.{IsPartitionPoint-from_clause, IsPartitionedBy-leb, IsPartitionedBy-ltb}
use Rattle.step_tables.specs.declared.tables.Event.{Event}
use Rattle.thread_loop.proofs.RoundEvents.{events-rise, points-found, points-order, actions-between}
use Rattle.thread_loop.proofs.injector.events_of.Goals as goal

pub slice_bounds-result-count : goal.slice_bounds-result-count
slice_bounds-result-count c =
    let es = c.args.script.now.events in
    let r = c.args.round in
    let same = c.events-events.ensures.same in
    let rise = events-rise c.args.script.now c.events-events.ensures.sound in
    let first = IsPartitionPoint-from_clause (λ (e : Event). ltb e.round r) es c.partition_point-first.result (rw same at c.partition_point-first.ensures.partitioned) (IsPartitionedBy-ltb (λ (e : Event). e.round) es r rise) (λ a q k h. search rules) in
    let end = IsPartitionPoint-from_clause (λ (e : Event). leb e.round r) es c.partition_point-end.result (rw same at c.partition_point-end.ensures.partitioned) (IsPartitionedBy-leb (λ (e : Event). e.round) es r rise) (λ a q k h. search rules) in
    let long = ap (λ (xs : List Event). length xs) same in
    let before = c.partition_point-first.ensures.bound in
    let bound = c.partition_point-end.ensures.bound in
    let points = points-found r es c.partition_point-first.result c.partition_point-end.result (omega arith) first end in
    let order = points-order r es c.partition_point-first.result c.partition_point-end.result points (omega arith) in
    order

pub slice_bounds-result-start : goal.slice_bounds-result-start
slice_bounds-result-start c =
    let es = c.args.script.now.events in
    let r = c.args.round in
    let same = c.events-events.ensures.same in
    let rise = events-rise c.args.script.now c.events-events.ensures.sound in
    let first = IsPartitionPoint-from_clause (λ (e : Event). ltb e.round r) es c.partition_point-first.result (rw same at c.partition_point-first.ensures.partitioned) (IsPartitionedBy-ltb (λ (e : Event). e.round) es r rise) (λ a q k h. search rules) in
    let end = IsPartitionPoint-from_clause (λ (e : Event). leb e.round r) es c.partition_point-end.result (rw same at c.partition_point-end.ensures.partitioned) (IsPartitionedBy-leb (λ (e : Event). e.round) es r rise) (λ a q k h. search rules) in
    let long = ap (λ (xs : List Event). length xs) same in
    let before = c.partition_point-first.ensures.bound in
    let bound = c.partition_point-end.ensures.bound in
    let points = points-found r es c.partition_point-first.result c.partition_point-end.result (omega arith) first end in
    let order = points-order r es c.partition_point-first.result c.partition_point-end.result points (omega arith) in
    order

pub returns-clause-actions : goal.returns-clause-actions
returns-clause-actions c =
    let es = c.args.script.now.events in
    let r = c.args.round in
    let same = c.events-events.ensures.same in
    let rise = events-rise c.args.script.now c.events-events.ensures.sound in
    let first = IsPartitionPoint-from_clause (λ (e : Event). ltb e.round r) es c.partition_point-first.result (rw same at c.partition_point-first.ensures.partitioned) (IsPartitionedBy-ltb (λ (e : Event). e.round) es r rise) (λ a q k h. search rules) in
    let end = IsPartitionPoint-from_clause (λ (e : Event). leb e.round r) es c.partition_point-end.result (rw same at c.partition_point-end.ensures.partitioned) (IsPartitionedBy-leb (λ (e : Event). e.round) es r rise) (λ a q k h. search rules) in
    let long = ap (λ (xs : List Event). length xs) same in
    let before = c.partition_point-first.ensures.bound in
    let bound = c.partition_point-end.ensures.bound in
    let points = points-found r es c.partition_point-first.result c.partition_point-end.result (omega arith) first end in
    let order = points-order r es c.partition_point-first.result c.partition_point-end.result points (omega arith) in
    rw same (actions-between c.args.script.now r c.partition_point-first.result c.partition_point-end.result points order)
