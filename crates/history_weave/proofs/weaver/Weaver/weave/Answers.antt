use Rattle.std.proofs.Common.{◌≡◌, ◌+◌, ◌≤◌, length, arith, ap, sym, ◌∙◌, refl}
use Rattle.history_weave.specs.Indexed.{tasks_of}
use Rattle.history_weave.specs.Weaving.{Weaving}
use Rattle.history_weave.proofs.Advances.{underway-went, fits_together}
use Rattle.history_weave.proofs.Entering.{same_room, cleared}
use Rattle.history_weave.proofs.Weaves.{HasMerge-named, underway-start, underway-goes_on, underway-empty}
use Rattle.history_weave.proofs.weaver.Weaver.weave.Goals as goal

pub enter_all-total-requires-clause-named : goal.enter_all-total-requires-clause-named
enter_all-total-requires-clause-named c =
    let s = c.args.machine.now in
    let logs = c.args.logs.now in
    let tasks : tasks_of c.self.inside.index ≡ length s.tasks =
    c.self.invariant.tasks ∙ ap (λ (w : Weaving). w.tasks) c.self.view_is ∙ sym c.requires.same_tasks in
    let callers : length logs ≡ s.workers + 1 = c.requires.one_log_each ∙ ap (λ n. n + 1) (sym c.requires.same_workers) in
    rw tasks (HasMerge-named s logs c.requires.mergeable callers)

pub steps-init : goal.steps-init
steps-init c =
    let s = c.args.machine.now in
    let logs = c.args.logs.now in
    let tasks = ap (λ (w : Weaving). w.tasks) c.self.view_is in
    let workers = ap (λ (w : Weaving). w.workers) c.self.view_is in
    let room = ap (λ (w : Weaving). w.room) c.self.view_is in
    let callers : length logs ≡ s.workers + 1 = c.requires.one_log_each ∙ ap (λ n. n + 1) (sym c.requires.same_workers) in
    let e = c.enter_all-total.ensures in
    let start = underway-start s logs c.enter_all-total.new.self.next.items c.requires.mergeable c.requires.takes_left callers e.next in
    record {
      underway = rw (e.total, c.clear.ensures.items) start;
      indexed = e.indexed;
      index_tasks = e.tasks ∙ c.self.invariant.tasks ∙ tasks;
      links = same_room _ _ _ e.links c.self.invariant.links;
      capacity = rw c.clear.ensures.capacity c.self.invariant.capacity;
      tasks = tasks;
      workers = workers;
      room = room;
      last = (let n = c.requires.one_log_each in omega arith);
    }

pub advance-last-requires-clause-reserved : goal.advance-last-requires-clause-reserved
advance-last-requires-clause-reserved c =
    let v = c.steps.invariant in
    let total = c.enter_all-total.ensures.total in
    let few = c.requires.reserved in
    let len = c.len.ensures in
    let test = c.steps-test.true in
    let capacity = v.capacity in let room = v.room in omega arith

pub advance-last-requires-clause-together : goal.advance-last-requires-clause-together
advance-last-requires-clause-together c =
    let s = c.args.machine.now in
    let logs = c.args.logs.now in
    let v = c.steps.invariant in
    let callers : length logs ≡ s.workers + 1 = c.requires.one_log_each ∙ ap (λ n. n + 1) (sym c.requires.same_workers) in
    fits_together s logs c.enter_all-total.result c.steps.self-inside.index c.steps.self-inside.entries.items c.steps.machine c.requires.mergeable callers v.underway v.indexed (v.index_tasks ∙ sym c.requires.same_tasks)

pub advance-last-requires-clause-goes_on : goal.advance-last-requires-clause-goes_on
advance-last-requires-clause-goes_on c =
    let v = c.steps.invariant in
    let len = c.len.ensures in
    let test = c.steps-test.true in
    let same = c.steps.self-inside.entries.ok.0 in
    underway-goes_on c.args.machine.now c.args.logs.now c.enter_all-total.result c.steps.self-inside.entries.items c.steps.self-inside.index.next.items c.steps.machine v.underway (omega arith)

pub steps-preserved : goal.steps-preserved
steps-preserved c =
    let v = c.steps.invariant in
    let len = c.len.ensures in
    let test = c.steps-test.true in
    let same = c.steps.self-inside.entries.ok.0 in
    let w = c.advance-last.ensures.went in
    record {
      underway = underway-went c.args.machine.now c.args.logs.now c.enter_all-total.result c.steps.self-inside.index c.advance-last.new.index c.steps.self-inside.entries.items c.advance-last.new.entries.items c.steps.machine c.advance-last.new.machine v.underway (omega arith) v.indexed w;
      indexed = w.went.indexed;
      index_tasks = w.went.tasks ∙ v.index_tasks;
      links = same_room _ _ _ w.went.links v.links;
      capacity = rw c.advance-last.ensures.capacity v.capacity;
      tasks = v.tasks;
      workers = v.workers;
      room = v.room;
      last = c.advance-last.ensures.caller;
    }

pub invariant_of-self : goal.invariant_of-self
invariant_of-self c =
    let v = c.steps.invariant in
    let logs = c.args.logs.now in
    let len = c.len.ensures in
    let test = c.steps-test.false in
    let same = c.steps.self-inside.entries.ok.0 in
    let total = c.enter_all-total.ensures.total in
    let few = c.requires.reserved in
    let count = v.underway.count in
    let room = v.room in
    let done : c.enter_all-total.result ≤ length c.steps.self-inside.entries.items = omega arith in
    let callers : length logs ≡ c.steps.self-inside.workers + 1 = c.requires.one_log_each ∙ ap (λ n. n + 1) (sym v.workers) in
    record {
      capacity = v.capacity;
      count = omega arith;
      links = v.links;
      tasks = v.index_tasks ∙ sym v.tasks;
      clear = rw (← callers) (cleared logs c.steps.self-inside.index v.indexed (underway-empty c.args.machine.now logs c.enter_all-total.result c.steps.self-inside.entries.items c.steps.self-inside.index.next.items c.steps.machine v.underway done));
    }

pub returns-clause-same : goal.returns-clause-same
returns-clause-same c = let v = c.steps.invariant in rw (v.tasks, v.workers, v.room) refl
