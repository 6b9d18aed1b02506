-- How far a step of a sweep has come.
use Rattle.std.proofs.Common.{◌≡◌, ℕ, ◌+◌, ◌≤◌, ◌<◌, length, refl, sym, ap, ◌∙◌, arith}
use Rattle.sched_base.specs.KeyedList.{KeyedRoots, AreKeyed, ChangesRoot}
use Rattle.queue_model.specs.Sweep.{due}
use Rattle.queue_model.specs.SweepStep.{first_fired, swept_once}
use Rattle.wait_queue.specs.Timers.{Timers, wait_list, Fits, IsSameQueue, Inserts, insertions_of}
use Rattle.wait_queue.proofs.Meaning.{changes_none, due_bound}

-- from queue and lists at the start to those now
pub record SoFar (now : ℕ) (q0 : Timers) (s0 : KeyedRoots) (q : Timers) (s : KeyedRoots) : Type 0 where
  pub fits : Fits q s
  pub fired : first_fired now (wait_list now q s) ≡ first_fired now (wait_list now q0 s0)
  pub list : swept_once now (wait_list now q s) ≡ swept_once now (wait_list now q0 s0)
  pub others : ChangesRoot q0.root s0 s
  pub same : IsSameQueue q0 q
  pub grows : insertions_of q0 s0 ≤ insertions_of q s
  pub bound : insertions_of q s + length (due now (wait_list now q s)) ≤ insertions_of q0 s0 + length (due now (wait_list now q0 s0))

pub start : (now : ℕ) (q : Timers) (s : KeyedRoots) → Fits q s → SoFar now q s q s
start now q s f = record {
  fits = f;
  fired = refl;
  list = refl;
  others = changes_none q.root s;
  same = record { root = refl; tasks = refl };
  grows = omega arith;
  bound = omega arith;
}

-- the insertions of a queue with another's root
pub insertions_at : (q r : Timers) (s : KeyedRoots) → r.root ≡ q.root → insertions_of r s ≡ insertions_of q s
insertions_at q r s e = ap (λ k. insertions_of (record { root = k; expiries = q.expiries }) s) e

-- the insertions at the end, where something was still due
pub inserts_fired : (now : ℕ) (q0 : Timers) (s0 : KeyedRoots) (q : Timers) (s t : KeyedRoots) → SoFar now q0 s0 q s → Inserts 1 q s t → Fits q0 s0 → AreKeyed s0 → 0 < length (due now (wait_list now q s)) → Inserts (length q0.expiries) q0 s0 t
inserts_fired now q0 s0 q s t far inserts f0 keyed some =
    let whole : length (due now (wait_list now q0 s0)) ≤ length q0.expiries = due_bound now q0 s0 f0 keyed in
    let c : insertions_of q t ≡ insertions_of q0 t = insertions_at q0 q t far.same.root in
    record {
      grows = omega (arith, c, far.grows, inserts.grows);
      bound = omega (arith, c, far.bound, inserts.bound);
    }

-- and where the last look left all as it was
pub inserts_settled : (now : ℕ) (q0 : Timers) (s0 : KeyedRoots) (q : Timers) (s t : KeyedRoots) → SoFar now q0 s0 q s → Fits q0 s0 → AreKeyed s0 → t ≡ s → Inserts (length q0.expiries) q0 s0 t
inserts_settled now q0 s0 q s t far f0 keyed same =
    let whole : length (due now (wait_list now q0 s0)) ≤ length q0.expiries = due_bound now q0 s0 f0 keyed in
    let c : insertions_of q0 t ≡ insertions_of q s = ap (insertions_of q0) same ∙ sym (insertions_at q0 q s far.same.root) in
    record {
      grows = omega (arith, c, far.grows);
      bound = omega (arith, c, far.bound);
    }
