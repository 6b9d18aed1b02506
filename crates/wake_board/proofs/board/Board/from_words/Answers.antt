use Rattle.std.proofs.Common.{◌≡◌, ◌+◌, ◌∙◌, ℕ, suc, List, length, ap, sym, subst, arith}
use Rattle.wake_board.specs.declared.views.Opening.{Opening}
use Rattle.wake_board.specs.Rows.{WordRow, width}
use Rattle.wake_board.specs.Start.{start_of}
use Rattle.wake_board.specs.Between.{StandBetween}
use Rattle.wake_board.specs.Gathered.{IsOpening}
use Rattle.wake_board.proofs.Opens.{opening_stands, length-tasks_by}
use Rattle.wake_board.proofs.board.Board.from_words.Goals as goal

pub lay-requires : goal.lay-requires
lay-requires c =
    let o = c.in_ok-opening.opening in
    let is : IsOpening o c.args.words c.args.homes.now c.args.holders.now c.args.nexts.now = c.in_ok-opening.ensures in
    let both = opening_stands o c.args.words c.args.homes.now c.args.holders.now c.args.nexts.now c.requires.0 is c.requires.1 c.requires.2 in
    record {
      words = is.words;
      stands = subst (λ (w : WordRow). StandBetween w o.homes.items o.holders.items o.nexts.value (start_of o).state) is.words both.0;
      few = both.1;
    }

pub invariant_of-result : goal.invariant_of-result
invariant_of-result c =
    let o = c.in_ok-opening.opening in
    let key = c.in_ok-table.table.shared.key in
    let is : IsOpening o c.args.words c.args.homes.now c.args.holders.now c.args.nexts.now = c.in_ok-opening.ensures in
    let same : key ≡ o = c.in_ok-table.ensures.2 in
    let words : key.words.value ≡ c.args.words = ap (λ (k : Opening). k.words.value) same ∙ is.words in
    let sizes = c.words.invariant in
    let view = c.words.view_is in
    let wide : length c.args.words.row ≡ width c.args.words.workers c.args.words.tasks = subst (λ (w : WordRow). length w.row ≡ width w.workers w.tasks) view sizes.3 in
    record {
      words = c.in_ok-table.ensures.0 ∙ wide;
      slots = c.in_ok-table.ensures.1;
      workers = ap (λ (w : WordRow). w.workers) words;
      tasks = length-tasks_by key.words.value key.homes.items key.holders.items 0 key.words.value.tasks ∙ ap (λ (w : WordRow). w.tasks) words;
      few_tasks = (let t = ap (λ (w : WordRow). w.tasks) view in let s = sizes.0 in omega arith);
      few_workers = (let t = ap (λ (w : WordRow). w.workers) view in let s = sizes.2 in omega arith);
    }

pub returns : goal.returns
returns c =
    let o = c.in_ok-opening.opening in
    let key = c.in_ok-table.table.shared.key in
    let is : IsOpening o c.args.words c.args.homes.now c.args.holders.now c.args.nexts.now = c.in_ok-opening.ensures in
    let same : key ≡ o = c.in_ok-table.ensures.2 in
    let both = opening_stands o c.args.words c.args.homes.now c.args.holders.now c.args.nexts.now c.requires.0 is c.requires.1 c.requires.2 in
    let a : StandBetween c.args.words o.homes.items o.holders.items o.nexts.value (start_of o).state = subst (λ (w : WordRow). StandBetween w o.homes.items o.holders.items o.nexts.value (start_of o).state) is.words both.0 in
    let b : StandBetween c.args.words c.args.homes.now o.holders.items o.nexts.value (start_of o).state = subst (λ (x : List ℕ). StandBetween c.args.words x o.holders.items o.nexts.value (start_of o).state) is.homes a in
    let d : StandBetween c.args.words c.args.homes.now c.args.holders.now o.nexts.value (start_of o).state = subst (λ (x : List ℕ). StandBetween c.args.words c.args.homes.now x o.nexts.value (start_of o).state) is.holders b in
    let e : StandBetween c.args.words c.args.homes.now c.args.holders.now c.args.nexts.now (start_of o).state = subst (λ (x : List (List ℕ)). StandBetween c.args.words c.args.homes.now c.args.holders.now x (start_of o).state) is.nexts d in
    let callers = c.workers.ensures in
    record {
      homes_are = ap (λ (k : Opening). k.homes.items) same ∙ is.homes;
      nexts_are = ap (λ (k : Opening). k.nexts.value) same ∙ is.nexts;
      stands = subst (λ (k : Opening). StandBetween c.args.words c.args.homes.now c.args.holders.now c.args.nexts.now (start_of k).state) (sym same) e;
      count = c.in_ok-places.ensures.count ∙ (let one : c.workers.result + 1 ≡ suc c.args.words.workers = omega arith in one);
      each = λ k l. c.in_ok-places.ensures.each k (omega arith);
    }
