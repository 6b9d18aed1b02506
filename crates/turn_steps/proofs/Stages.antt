-- Which tasks a caller has at the stages that follow silent changes and replies.
use Rattle.std.proofs.Common.{◌≡◌, ℕ, ◌+◌, ◌==◌, ◌||◌, Bool, true, false, List, [], ◌∷◌, refl, ◌∙◌, arith, if◌then◌else◌}
use Rattle.sched_base.specs.declared.names.CallerId.{CallerId}
use Rattle.queue_model.specs.Sweep.{fired, swept}
use Rattle.step_tables.specs.declared.tables.Action.{Action}
use Rattle.step_tables.specs.declared.tables.Row.{Row}
use Rattle.step_tables.specs.declared.tables.Script.{Script}
use Rattle.task_machine.specs.Step.{bit}
use Rattle.task_machine.specs.declared.calls.Reply.{Reply}
use Rattle.run_model.specs.Replies.{takes_in}
use Rattle.run_model.specs.Tables.{home_of, row_by}
use Rattle.run_model.specs.Book.{Book, queued}
use Rattle.turn_steps.specs.Left.{Onward, Stage, at_runs, at_gets, at_wakes, at_acts, at_events, acted, handed, run_begun, returned, dropped_live, dropped_as, injected, waked}
use Rattle.turn_steps.specs.Times.{listed}
use Rattle.turn_steps.specs.Has.{due, run_by, drawn_by}
use Rattle.turn_steps.proofs.Books.{listed-queued, listed-filled}

-- in hand so often, run so often, and not drawn
pub record Has (i : ℕ) (g : Stage) (n m : ℕ) : Type 0 where
  pub hands : due i g.left + listed i g.book ≡ n
  pub runs : run_by i g.left ≡ m
  pub draws : drawn_by i g.left ≡ 0

pub has-as : (i : ℕ) (g : Stage) (n m o : ℕ) → Has i g n o → n ≡ m → Has i g m o
has-as i g n m o h e = record { hands = h.hands ∙ e; runs = h.runs; draws = h.draws }

pub has-runs : (s : Script) (i : ℕ) (b : Book) → Has i (at_runs s b) (listed i b) 0
has-runs s i b = record { hands = let e = listed-filled s.depth i b in omega arith; runs = refl; draws = refl }

pub has-wakes : (s : Script) (i : ℕ) (is : List ℕ) (b : Book) → Has i (at_wakes s is b) (listed i b) 0
has-wakes s i [] b = has-runs s i b
has-wakes s i (j ∷ js) b = record { hands = omega arith; runs = refl; draws = refl }

pub has-gets : (s : Script) (T i : ℕ) (gs : List ℕ) (b : Book) → Has i (at_gets s T gs b) (listed i b) 0
has-gets s T i [] b = has-wakes s i (fired T b.wait) (record b { wait = swept T b.wait })
has-gets s T i (g ∷ gs) b = record { hands = omega arith; runs = refl; draws = refl }

pub has-acts : (T i : ℕ) (more : List Action) (j : ℕ) (row : Row) (q : Onward) (b : Book) → Has i (at_acts T more j row q b) (listed i b) (bit (i == j))
has-acts T i [] j row q b = record { hands = omega arith; runs = refl; draws = refl }
has-acts T i (a ∷ more) j row q b = record { hands = omega arith; runs = refl; draws = refl }

pub has-events : (i : ℕ) (more : List Action) (b : Book) → Has i (at_events more b) (listed i b) 0
has-events i [] b = record { hands = omega arith; runs = refl; draws = refl }
has-events i (a ∷ more) b = record { hands = omega arith; runs = refl; draws = refl }

pub listed-waked : (s : Script) (i : ℕ) (rest : Bool) (j : ℕ) (b : Book) → listed i (waked s rest j b) ≡ listed i b + (if rest then bit (i == j) else 0)
listed-waked s i true j b = listed-queued s i j b
listed-waked s i false j b = omega arith

pub has-handed : (s : Script) (T i : ℕ) (own : Bool) (x : ℕ) (more : List Action) (j : ℕ) (row : Row) (q : Onward) (b : Book) → Has i (handed s T own x more j row q b) (listed i b + bit (i == x)) (bit (i == j))
has-handed s T i true x more j row q b = has-as i (at_acts T more j row q (queued s x b)) _ _ _ (has-acts T i more j row q (queued s x b)) (listed-queued s i x b)
has-handed s T i false x more j row q b = record { hands = omega arith; runs = refl; draws = refl }

pub has-acted : (s : Script) (w : CallerId) (T i : ℕ) (rest : Bool) (x : ℕ) (more : List Action) (j : ℕ) (row : Row) (q : Onward) (b : Book) → Has i (acted s w T rest x more j row q b) (listed i b + (if rest then bit (i == x) else 0)) (bit (i == j))
has-acted s w T i true x more j row q b = has-handed s T i (home_of s x == w.0) x more j row q b
has-acted s w T i false x more j row q b = has-as i (at_acts T more j row q b) _ _ _ (has-acts T i more j row q b) (omega arith)

pub has-run_begun : (s : Script) (T : ℕ) (r : Reply) (i : ℕ) (killed : Bool) (j : ℕ) (q : Onward) (b : Book) → Has i (run_begun s T r killed j q b) (listed i b) (bit (i == j))
has-run_begun s T r i true j q b = record { hands = omega arith; runs = refl; draws = refl }
has-run_begun s T r i false j q b = has-acts T i (row_by s j (takes_in r)).actions j (row_by s j (takes_in r)) q b

pub has-returned : (s : Script) (i : ℕ) (shared : Bool) (j : ℕ) (q : Onward) (b : Book) → Has i (returned s shared j q b) (listed i b + bit (i == j)) 0
has-returned s i true j q b = record { hands = omega arith; runs = refl; draws = refl }
has-returned s i false j q b = record { hands = let e = listed-queued s i j b in omega arith; runs = refl; draws = refl }

pub has-dropped_live : (s : Script) (i : ℕ) (busy : Bool) (j : ℕ) (q : Onward) (b : Book) → Has i (dropped_live s busy j q b) (listed i b + (if busy then bit (i == j) else 0)) 0
has-dropped_live s i true j q b = has-returned s i (home_of s j == s.workers) j q b
has-dropped_live s i false j q b = record { hands = omega arith; runs = refl; draws = refl }

pub has-dropped_as : (s : Script) (i : ℕ) (killed busy : Bool) (j : ℕ) (q : Onward) (b : Book) → Has i (dropped_as s killed busy j q b) (listed i b + (if busy || killed then bit (i == j) else 0)) 0
has-dropped_as s i true true j q b = record { hands = omega arith; runs = refl; draws = refl }
has-dropped_as s i true false j q b = record { hands = omega arith; runs = refl; draws = refl }
has-dropped_as s i false true j q b = has-dropped_live s i true j q b
has-dropped_as s i false false j q b = has-dropped_live s i false j q b

pub has-injected : (i : ℕ) (rest : Bool) (x : ℕ) (more : List Action) (b : Book) → Has i (injected rest x more b) (listed i b + (if rest then bit (i == x) else 0)) 0
has-injected i true x more b = record { hands = omega arith; runs = refl; draws = refl }
has-injected i false x more b = has-as i (at_events more b) _ _ _ (has-events i more b) (omega arith)
