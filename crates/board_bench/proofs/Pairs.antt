-- Two callers that have nothing.
use Rattle.std.proofs.Common.{◌≡◌, ◌≢◌, ℕ, suc, ◌<◌, ◌≤◌, List, [], length, replicate, get_or, set, Option, Some, None, refl, sym, ap, subst, ◌∙◌, inl, inr, arith}
use Rattle.std.proofs.lemmas.List.{get_or-replicate, length-replicate, get_or-set_same, get_or-set_other}
use Rattle.std.proofs.lemmas.Option.{slice_get-get_or}
use Rattle.std.proofs.Math.ListN.{length-set}
use Rattle.std.specs.List.{slice_get}
use Rattle.task_machine.specs.Task.{resting}
use Rattle.task_machine.specs.Step.{State}
use Rattle.task_machine.specs.Own.{away, drawing, running}
use Rattle.wake_board.specs.Seen.{Held, Laid}
use Rattle.wake_board.specs.Ends.{own_by, fresh, IsIdle, AllBack}
use Rattle.board_bench.specs.declared.pair.Pair.{Pair}
use Rattle.board_bench.specs.Callers.{IsLaid, HasShared}
use Rattle.board_bench.specs.Drawn.{IsClear, IsSharedTask}
use Rattle.board_bench.specs.Pairs.{AreFresh, IsPair, IsNewPair}
use Rattle.board_bench.proofs.Callers.{some_same, both_back, fresh_away}

clear_idle : (b : Laid) (k : ℕ) (p : Held) → IsClear b p → p.who ≡ k → IsIdle b k p
clear_idle b k p r who =
    record {
      board = r.used.board;
      start = r.used.start;
      who = who;
      outs = r.used.outs;
      undrawn = λ i l e. (let z : away ≡ drawing = sym (r.away_all i) ∙ e in cc);
      ended = λ i l e. (let z : away ≡ running = sym (r.away_all i) ∙ e in cc);
    }

fresh_clear : (b : Laid) (k : ℕ) → ((i : ℕ) → own_by (fresh b k) i ≡ away) → IsClear b (fresh b k)
fresh_clear b k r = record { used = record { board = refl; start = refl; outs = refl }; away_all = r }

-- such passes may be given back for good
pub pair_back : (d : Pair) (ps qs : List (Option Held)) → IsPair d → ps ≡ set d.passes d.first.who (Some d.first) → qs ≡ set ps d.second.who (Some d.second) → AllBack d.board qs
pair_back d ps qs r a e =
    let one : ps ≡ set d.passes 0 (Some d.first) = a ∙ ap (λ (k : ℕ). set d.passes k (Some d.first)) r.who_first in
    let is : qs ≡ set (set d.passes 0 (Some d.first)) 1 (Some d.second) = e ∙ (ap (λ (k : ℕ). set ps k (Some d.second)) r.who_second ∙ ap (λ (x : List (Option Held)). set x 1 (Some d.second)) one) in
    both_back d.board d.passes qs d.first d.second r.count r.some_workers is (clear_idle d.board 0 d.first r.first r.who_first) (clear_idle d.board 1 d.second r.second r.who_second) r.others (λ k. clear_idle d.board k (fresh d.board k) (fresh_clear d.board k (r.away_all k)) refl)

pub never_drawn : (b : Laid) (p : Held) (i : ℕ) → IsClear b p → own_by p i ≢ drawing
never_drawn b p i r e = let z : away ≡ drawing = sym (r.away_all i) ∙ e in cc

-- the second pass may go where the first went
pub second_out : (d : Pair) (ps : List (Option Held)) → IsPair d → ps ≡ set d.passes d.first.who (Some d.first) → slice_get ps d.second.who ≡ Some None
second_out d ps r a =
    let long = r.count in
    let some' = r.some_workers in
    let one : ps ≡ set d.passes 0 (Some d.first) = a ∙ ap (λ (k : ℕ). set d.passes k (Some d.first)) r.who_first in
    let wide = length-set d.passes 0 (Some d.first) in
    let old : get_or d.passes 1 None ≡ None = other d.passes (slice_get-get_or d.passes 1 None (omega arith)) r.out_second in
    let here : slice_get (set d.passes 0 (Some d.first)) 1 ≡ Some None = slice_get-get_or (set d.passes 0 (Some d.first)) 1 None (omega arith) ∙ ap Some (get_or-set_other d.passes 0 1 (Some d.first) None (λ z. cc) ∙ old) in
    subst (λ (k : ℕ). slice_get ps k ≡ Some None) (sym r.who_second) (subst (λ (x : List (Option Held)). slice_get x 1 ≡ Some None) (sym one) here)
  where
    other : (xs : List (Option Held)) → slice_get xs 1 ≡ Some (get_or xs 1 None) → slice_get xs 1 ≡ Some None → get_or xs 1 None ≡ None
    other xs a e = let z : Some (get_or xs 1 None) ≡ Some None = sym a ∙ e in cc

-- the two passes of a board that was just made
pub new_pair : (d : Pair) (all ps : List (Option Held)) → AreFresh d.board all → Some d.first ≡ get_or all 0 None → ps ≡ set all 0 None → Some d.second ≡ get_or ps 1 None → d.passes ≡ set ps 1 None → IsNewPair d
new_pair d all ps r found out found' out' =
    let b : Laid = d.board in
    let long = r.count in
    let some' = r.some_workers in
    let first : d.first ≡ fresh b 0 = some_same d.first (fresh b 0) (found ∙ r.each 0 (omega arith)) in
    let second : d.second ≡ fresh b 1 = some_same d.second (fresh b 1) (found' ∙ (ap (λ (x : List (Option Held)). get_or x 1 None) out ∙ (get_or-set_other all 0 1 None None (λ z. cc) ∙ r.each 1 (omega arith)))) in
    let made : List (Option Held) = set (set all 0 None) 1 None in
    let is : d.passes ≡ made = out' ∙ ap (λ (x : List (Option Held)). set x 1 None) out in
    let one = length-set all 0 None in
    let wide : length made ≡ length all = length-set (set all 0 None) 1 None ∙ one in
    let gone_first : slice_get made 0 ≡ Some None = slice_get-get_or made 0 None (omega arith) ∙ ap Some (get_or-set_other (set all 0 None) 1 0 None None (λ z. cc) ∙ get_or-set_same all 0 None None (omega arith)) in
    let gone_second : slice_get made 1 ≡ Some None = slice_get-get_or made 1 None (omega arith) ∙ ap Some (get_or-set_same (set all 0 None) 1 None None (omega arith)) in
    record {
      pair = record {
        some_workers = r.some_workers;
        first = subst (IsClear b) (sym first) (fresh_clear b 0 (r.away_all 0));
        second = subst (IsClear b) (sym second) (fresh_clear b 1 (r.away_all 1));
        who_first = ap (λ (p : Held). p.who) first;
        who_second = ap (λ (p : Held). p.who) second;
        count = ap length is ∙ (wide ∙ r.count);
        out_first = subst (λ (x : List (Option Held)). slice_get x 0 ≡ Some None) (sym is) gone_first;
        out_second = subst (λ (x : List (Option Held)). slice_get x 1 ≡ Some None) (sym is) gone_second;
        others = λ k more le. ap (λ (x : List (Option Held)). get_or x k None) is ∙ (get_or-set_other (set all 0 None) 1 k None None (λ z. omega arith) ∙ (get_or-set_other all 0 k None None (λ z. omega arith) ∙ r.each k le));
        away_all = r.away_all;
      };
      first_new = ap (λ (p : Held). p.entries) first;
      second_new = ap (λ (p : Held). p.entries) second;
    }

-- the passes of a board of one shared task
pub shared_fresh : (b : Laid) (passes : List (Option Held)) → HasShared b passes → AreFresh b passes
shared_fresh b passes r =
    let w = r.workers in
    record {
      some_workers = omega arith;
      count = r.count ∙ ap suc (sym r.workers);
      each = λ k l. r.each k (omega arith);
      away_all = r.away_all;
    }

pub shared_task : (b : Laid) (passes : List (Option Held)) → HasShared b passes → IsSharedTask b 0 2
shared_task b passes r = let n = r.tasks in record { exists = omega arith; home = r.home; count = r.workers }

all_same : (n i x : ℕ) → i < n → get_or (replicate n x) i 0 ≡ x
all_same n i x l = get_or-replicate n i x 0 l

pub all_two : (homes : List ℕ) (n i : ℕ) → homes ≡ replicate n 2 → i < length homes → get_or homes i 0 ≡ 2
all_two homes n i is l =
    let long : length homes ≡ n = ap length is ∙ length-replicate n 2 in
    ap (λ (hs : List ℕ). get_or hs i 0) is ∙ all_same n i 2 (omega arith)

-- the passes of a board of tasks at rest
pub laid_fresh : (n w : ℕ) (homes : List ℕ) (b : Laid) (passes : List (Option Held)) → 1 ≤ w → IsLaid n w homes b passes → AreFresh b passes
laid_fresh n w homes b passes some' r =
    let workers : b.start.state.workers ≡ w = ap (λ (s : State). s.workers) r.state in
    record {
      some_workers = omega arith;
      count = r.count ∙ ap suc (sym workers);
      each = λ k l. r.each k (omega arith);
      away_all = λ k i. fresh_away b k n i (record { tasks = ap (λ (s : State). s.tasks) r.state });
    }

pub laid_tasks : (n : ℕ) (homes : List ℕ) (b : Laid) (passes : List (Option Held)) → homes ≡ replicate n 2 → IsLaid (length homes) 2 homes b passes → (i : ℕ) → i < n → IsSharedTask b i 2
laid_tasks n homes b passes is r i l =
    let long : length homes ≡ n = ap length is ∙ length-replicate n 2 in
    let tasks : length b.start.state.tasks ≡ length homes = ap (λ (s : State). length s.tasks) r.state ∙ length-replicate (length homes) resting in
    record {
      exists = omega arith;
      home = ap (λ (hs : List ℕ). get_or hs i 0) r.homes_are ∙ all_two homes n i is (omega arith);
      count = ap (λ (s : State). s.workers) r.state;
    }
