-- How passes leave their places for a round and come back, and how logs change hands.
use Rattle.std.proofs.Common.{◌≡◌, ◌≢◌, ℕ, zero, suc, ◌+◌, ◌<◌, ◌≤◌, List, [], ◌∷◌, ◌++◌, map, take, set, replicate, length, get_or, Option, None, Some, slice_get, refl, sym, ap, subst, ◌∙◌, inl, inr, arith}
use Rattle.std.proofs.lemmas.Bool.{cases_eq}
use Rattle.std.proofs.lemmas.Grind.{get_or-set_at}
use Rattle.std.proofs.lemmas.List.{ext_get_or, length-set, length-append, length-map, length-replicate, get_or-set_other, get_or-replicate, get_or-map, get_or-take, get_or_push, get_or_past, map-append, take_more, take_all, take_at, take-take}
use Rattle.std.proofs.lemmas.Option.{slice_get-get_or}
use Rattle.task_machine.specs.Logged.{Logged}
use Rattle.task_machine.specs.Own.{drawing}
use Rattle.wake_board.specs.Seen.{Held}
use Rattle.wake_board.specs.Ends.{own_by}
use Rattle.thread_loop.specs.Boards.{log_of, IsSame}
use Rattle.thread_loop.specs.Rounds.{AreNumbered, AllIdle, AreSwapped}
use Rattle.thread_loop.specs.declared.worker.Worker.{Worker}

-- ---- out of their places

-- the passes of the first n places are out, in order
pub record IsOut (all places : List (Option Held)) (out : List Held) (n : ℕ) : Type 0 where
  pub count : length places ≡ length all
  pub taken : map Some out ≡ take n all
  pub below : (k : ℕ) → k < n → get_or places k None ≡ None
  pub above : (k : ℕ) → n ≤ k → get_or places k None ≡ get_or all k None
  pub size : length out ≡ n

pub out-none : (all : List (Option Held)) (out : List Held) → out ≡ [] → IsOut all all out 0
out-none all out empty = record {
  count = refl;
  taken = ap (λ (ps : List Held). map Some ps) empty;
  below = λ k lt. absurd (omega arith);
  above = λ k le. refl;
  size = ap (λ (ps : List Held). length ps) empty;
}

pub out-more : (all places : List (Option Held)) (out : List Held) (n : ℕ) (p : Held) → IsOut all places out n → n < length all → get_or places n None ≡ Some p → IsOut all (set places n None) (out ++ p ∷ []) (n + 1)
out-more all places out n p h lt at = record {
  count = length-set places n None ∙ h.count;
  taken = map-append Some out (p ∷ []) ∙ ap (λ (ps : List (Option Held)). ps ++ Some p ∷ []) h.taken ∙ ap (λ (x : Option Held). take n all ++ x ∷ []) (sym at ∙ h.above n (omega arith)) ∙ sym (take_more all n None lt);
  below = λ k less. elim (cases_eq k n) [
    | inl same ↦ get_or-set_at places n k None None same (omega (arith, h.count))
    | inr ne ↦ get_or-set_other places n k None None ne ∙ h.below k (omega arith)
  ];
  above = λ k more. get_or-set_other places n k None None (λ e. absurd (omega arith)) ∙ h.above k (omega arith);
  size = length-append out (p ∷ []) ∙ ap (λ (m : ℕ). m + 1) h.size;
}

pub out-all : (all places : List (Option Held)) (out : List Held) (n : ℕ) → IsOut all places out n → n ≡ length all → (map Some out ≡ all) × (places ≡ replicate n None)
out-all all places out n h whole = (
  h.taken ∙ take_all n all (omega arith),
  ext_get_or None places (replicate n None) (h.count ∙ sym whole ∙ sym (length-replicate n None)) (λ k lt. h.below k (omega (arith, h.count)) ∙ sym (get_or-replicate n k None None (omega (arith, h.count)))),
)

-- ---- back into them

pub numbered-at : (k : ℕ) (ps : List Held) (i : ℕ) (d : Held) → AreNumbered k ps → i < length ps → (get_or ps i d).who ≡ k + i
numbered-at k [] i d h lt = absurd (omega arith)
numbered-at k (p ∷ ps) zero d h lt = h.0 ∙ (let none : k ≡ k + 0 = omega arith in none)
numbered-at k (p ∷ ps) (suc i) d h lt = numbered-at (suc k) ps i d h.1 (omega arith) ∙ (let same : suc k + i ≡ k + suc i = omega arith in same)

-- a pass with no body out and no task drawn
pub record IsIdlePass (p : Held) : Type 0 where
  pub outs : p.outs ≡ []
  pub draws : (i : ℕ) → i < length p.start.state.tasks → own_by p i ≢ drawing

pub idle-at : (ps : List Held) (i : ℕ) (d : Held) → AllIdle ps → i < length ps → IsIdlePass (get_or ps i d)
idle-at [] i d h lt = absurd (omega arith)
idle-at (p ∷ ps) zero d h lt = record { outs = h.0; draws = h.1 }
idle-at (p ∷ ps) (suc i) d h lt = idle-at ps i d h.2 (omega arith)

-- the passes of the first places are out, in order, and the others are back
pub record IsBack (all : List Held) (places : List (Option Held)) (out : List Held) : Type 0 where
  pub count : length places ≡ length all
  pub few : length out ≤ length all
  pub front : out ≡ take (length out) all
  pub below : (k : ℕ) → k < length out → get_or places k None ≡ None
  pub above : (k : ℕ) → length out ≤ k → get_or places k None ≡ get_or (map Some all) k None

pub back-none : (all : List Held) (places : List (Option Held)) → places ≡ replicate (length all) None → IsBack all places all
back-none all places none = record {
  count = ap (λ (ps : List (Option Held)). length ps) none ∙ length-replicate (length all) None;
  few = omega arith;
  front = sym (take_all (length all) all (omega arith));
  below = λ k lt. ap (λ (ps : List (Option Held)). get_or ps k None) none ∙ get_or-replicate (length all) k None None lt;
  above = λ k le. ap (λ (ps : List (Option Held)). get_or ps k None) none ∙ get_or_past (replicate (length all) None) k None (omega (arith, length-replicate {A = Option Held} (length all) None)) ∙ sym (get_or_past (map Some all) k None (omega (arith, length-map all (λ (p : Held). Some p))));
}

-- the last pass that is out
pub record IsLast (all : List Held) (places : List (Option Held)) (out more : List Held) (p : Held) : Type 0 where
  pub size : length out ≡ length more + 1
  pub at : get_or all (length more) p ≡ p
  pub some : length more < length all
  pub empty : slice_get places (length more) ≡ Some None

pub back-last : (all : List Held) (places : List (Option Held)) (out more : List Held) (p : Held) → IsBack all places out → out ≡ more ++ p ∷ [] → IsLast all places out more p
back-last all places out more p h is =
    let size : length out ≡ length more + 1 = ap (λ (ps : List Held). length ps) is ∙ length-append more (p ∷ []) in
    let n : ℕ = length more in
    record {
      size = size;
      at = sym (get_or-take (length out) all n p (omega arith)) ∙ ap (λ (ps : List Held). get_or ps n p) (sym h.front ∙ is) ∙ get_or_push more p p n refl;
      some = omega (arith, h.few);
      empty = slice_get-get_or places n None (omega (arith, h.few, h.count)) ∙ ap Some (h.below n (omega arith));
    }

pub back-more : (all : List Held) (places : List (Option Held)) (out more : List Held) (p : Held) (who : ℕ) → IsBack all places out → out ≡ more ++ p ∷ [] → who ≡ length more → IsBack all (set places who (Some p)) more
back-more all places out more p who h is same =
    let last = back-last all places out more p h is in
    let n : ℕ = length more in
    record {
      count = length-set places who (Some p) ∙ h.count;
      few = omega (arith, last.some);
      front = sym (take_at more (p ∷ []) n refl) ∙ ap (λ (ps : List Held). take n ps) (sym is ∙ h.front) ∙ take-take n (length out) all (omega (arith, last.size));
      below = λ k lt. get_or-set_other places who k (Some p) None (λ e. absurd (omega arith)) ∙ h.below k (omega (arith, last.size));
      above = λ k le. elim (cases_eq k who) [
        | inl here ↦ get_or-set_at places who k (Some p) None here (omega (arith, h.count, last.some)) ∙ ap Some (sym last.at) ∙ sym (get_or-map Some all n p None last.some) ∙ ap (λ (j : ℕ). get_or (map Some all) j None) (let e : n ≡ k = omega arith in e)
        | inr ne ↦ get_or-set_other places who k (Some p) None ne ∙ h.above k (omega (arith, last.size))
      ];
    }

pub back-all : (all : List Held) (places : List (Option Held)) (out : List Held) → IsBack all places out → out ≡ [] → places ≡ map Some all
back-all all places out h none =
    let size : length out ≡ 0 = ap (λ (ps : List Held). length ps) none in
    ext_get_or None places (map Some all) (h.count ∙ sym (length-map all Some)) (λ k lt. h.above k (omega arith))

-- a list of no elements
pub none-left : {A : Type 0} (xs : List A) → length xs ≡ 0 → xs ≡ []
none-left [] e = refl
none-left (x ∷ xs) e = absurd (omega arith)

-- ---- logs change hands

pub same-self : (w : Worker) → IsSame w w
same-self w = record { number = refl; tick = refl; turns = refl; takes = λ i. refl; book = λ T. refl; stage = λ s. refl; fits = λ s h. h }

-- the logs of the first n workers are in the list
pub record IsSwapping (ws : List Worker) (before : List Logged) (vs : List Worker) (logs : List Logged) (n : ℕ) : Type 0 where
  pub count : length vs ≡ length ws
  pub size : length logs ≡ length before
  pub same : (k : ℕ) (d : Worker) → k < length ws → IsSame (get_or ws k d) (get_or vs k d)
  pub later : (k : ℕ) (d : Worker) → n ≤ k → get_or vs k d ≡ get_or ws k d
  pub given : (k : ℕ) (d : Worker) (l : Logged) → k < n → get_or logs k l ≡ log_of (get_or ws k d)

pub swapped-none : (ws : List Worker) (before : List Logged) → IsSwapping ws before ws before 0
swapped-none ws before = record {
  count = refl;
  size = refl;
  same = λ k d lt. same-self (get_or ws k d);
  later = λ k d le. refl;
  given = λ k d l lt. absurd (omega arith);
}

-- one default or the other
any-default : {A : Type 0} (xs : List A) (i : ℕ) (d e : A) → i < length xs → get_or xs i d ≡ get_or xs i e
any-default [] i d e lt = absurd (omega arith)
any-default (x ∷ xs) zero d e lt = refl
any-default (x ∷ xs) (suc i) d e lt = any-default xs i d e (omega arith)

pub swapped-more : (ws : List Worker) (before : List Logged) (vs : List Worker) (logs : List Logged) (n : ℕ) (w v : Worker) (log : Logged) → IsSwapping ws before vs logs n → n < length ws → length ws < length before → w ≡ get_or vs n w → log ≡ log_of w → IsSame w v → IsSwapping ws before (set vs n v) (set logs n log) (n + 1)
swapped-more ws before vs logs n w v log h lt more at is same =
    let was : (d : Worker) → get_or ws n d ≡ w = λ d. any-default ws n d w lt ∙ sym (h.later n w (omega arith)) ∙ sym at in
    record {
      count = length-set vs n v ∙ h.count;
      size = length-set logs n log ∙ h.size;
      same = λ k d less. elim (cases_eq k n) [
        | inl here ↦ subst (λ (y : Worker). IsSame (get_or ws k d) y) (sym (get_or-set_at vs n k v d here (omega (arith, h.count)))) (subst (λ (x : Worker). IsSame x v) (sym (ap (λ (j : ℕ). get_or ws j d) here ∙ was d)) same)
        | inr ne ↦ subst (λ (y : Worker). IsSame (get_or ws k d) y) (sym (get_or-set_other vs n k v d ne)) (h.same k d less)
      ];
      later = λ k d le. get_or-set_other vs n k v d (λ e. absurd (omega arith)) ∙ h.later k d (omega arith);
      given = λ k d l less. elim (cases_eq k n) [
        | inl here ↦ get_or-set_at logs n k log l here (omega (arith, h.size)) ∙ is ∙ ap log_of (sym (was d)) ∙ ap (λ (j : ℕ). log_of (get_or ws j d)) (sym here)
        | inr ne ↦ get_or-set_other logs n k log l ne ∙ h.given k d l (omega arith)
      ];
    }

pub swapped-all : (ws : List Worker) (injector : Logged) (before : List Logged) (vs : List Worker) (other : Logged) (logs : List Logged) (n last : ℕ) (log : Logged) → IsSwapping ws before vs logs n → n ≡ length ws → last ≡ length ws → length ws < length before → log ≡ injector → AreSwapped ws injector before vs other (set logs last log)
swapped-all ws injector before vs other logs n last log h whole end more is = record {
  count = h.count;
  same = h.same;
  logs = λ k d l lt. get_or-set_other logs last k log l (λ e. absurd (omega arith)) ∙ h.given k d l (omega arith);
  last = λ l. get_or-set_at logs last (length ws) log l (sym end) (omega (arith, h.size)) ∙ is;
  size = length-set logs last log ∙ h.size;
}
