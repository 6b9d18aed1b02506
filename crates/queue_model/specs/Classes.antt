-- The four lists of runnable work, their quotas, and which item runs next (docs/MODEL.md, "Class lists").
use Rattle.std.specs.Prelude.{ℕ, zero, suc, ◌+◌, ◌-◌, ◌*◌, min, List, [], ◌∷◌, ◌++◌, drop, length, Option, None, Some, nat_lt, if◌then◌else◌}
use Rattle.std.specs.Int.{div_ceil}
use Rattle.sched_base.specs.declared.names.Class.{Class}
use Rattle.sched_base.specs.declared.names.Class.TheVariants.{Urgent, Normal, Bulk, Heavy}

-- a value for each class
pub record Classes (A : Type 0) : Type 0 where
  pub urgent : A
  pub normal : A
  pub bulk : A
  pub heavy : A

-- the value of a class
abbrev pub of_class : {A : Type 0} → Class → Classes A → A
of_class Urgent c = c.urgent
of_class Normal c = c.normal
of_class Bulk c = c.bulk
of_class Heavy c = c.heavy

-- the value of a class changed
abbrev pub with_class : {A : Type 0} → Class → A → Classes A → Classes A
with_class Urgent x c = record c { urgent = x }
with_class Normal x c = record c { normal = x }
with_class Bulk x c = record c { bulk = x }
with_class Heavy x c = record c { heavy = x }

-- tasks added at the end of a class's list
abbrev pub pushed : Class → List ℕ → Classes (List ℕ) → Classes (List ℕ)
pushed k ids c = with_class k (of_class k c ++ ids) c

-- the first task of a class's list gone
abbrev pub popped : Class → Classes (List ℕ) → Classes (List ℕ)
popped k c = with_class k (drop 1 (of_class k c)) c

-- how much of a turn each class may claim
abbrev pub weights : Classes ℕ
weights = record { urgent = 64; normal = 48; bulk = 16; heavy = 1 }

-- the weight of a class, if its list has an item
abbrev pub weight_in : Classes (List ℕ) → Class → ℕ
weight_in c k = if nat_lt 0 (length (of_class k c)) then of_class k weights else 0

-- the weights of those that have an item, added up
abbrev pub total : Classes (List ℕ) → ℕ
total c = weight_in c Urgent + weight_in c Normal + weight_in c Bulk + weight_in c Heavy

-- the share of a class in depth runs, rounded up; nothing where it is empty
abbrev pub share : ℕ → Classes (List ℕ) → Class → ℕ
share depth c k = if nat_lt 0 (length (of_class k c)) then div_ceil (depth * of_class k weights) (total c) else 0

-- how many items of each class may run in a turn; of the heavy ones at most one
abbrev pub quotas : ℕ → Classes (List ℕ) → Classes ℕ
quotas depth c = record {
  urgent = share depth c Urgent;
  normal = share depth c Normal;
  bulk = share depth c Bulk;
  heavy = min 1 (share depth c Heavy);
}

-- a quota with one run spent
abbrev pub spent : Class → Classes ℕ → Classes ℕ
spent k q = with_class k (of_class k q - 1) q

-- one item to run: its class, and the task
pub record Next : Type 0 where
  pub class : Class
  pub task : ℕ

-- the first item of a class's list, where a run of it is left; else what another class offers
abbrev pub run_in : Class → List ℕ → ℕ → Option Next → Option Next
run_in k [] n other = other
run_in k (i ∷ is) zero other = other
run_in k (i ∷ is) (suc n) other = Some (record { class = k; task = i })

-- the first item of the first of these classes with an item and a run left
abbrev pub first_run : List Class → Classes (List ℕ) → Classes ℕ → Option Next
first_run [] c q = None
first_run (k ∷ ks) c q = run_in k (of_class k c) (of_class k q) (first_run ks c q)

-- the item that runs next, the most pressing class first
abbrev pub next_run : Classes (List ℕ) → Classes ℕ → Option Next
next_run = first_run (Urgent ∷ Normal ∷ Bulk ∷ Heavy ∷ [])
