-- What a pass knows of a task that it takes, and of a body that is out with it (docs/BOARD.md, "Bodies").
use Rattle.std.specs.Prelude.{◌≡◌, ◌⊎◌, ℕ, ◌+◌, ◌^◌, ◌<◌, List, length}
use Rattle.atomic_table.specs.Seated.{TableId}
use Rattle.atomic_table.specs.Table.{Me, Step}
use Rattle.task_machine.specs.Own.{holding, drawing}
use Rattle.task_word.specs.Word.{word_takes}
use Rattle.wake_board.specs.declared.body.Body.{Body}
use Rattle.wake_board.specs.declared.views.Out.{Out}
use Rattle.wake_board.specs.declared.views.View.{View}
use Rattle.wake_board.specs.Start.{home_of}
use Rattle.wake_board.specs.Outs.{HasBody, gained}
use Rattle.wake_board.specs.Seen.{Held, own_view}
use Rattle.wake_board.specs.Own.{known_takes, held_by}
use Rattle.wake_board.specs.Ends.{own_by}

-- the pass with these bodies out
abbrev pub with_outs : Held → List Out → Held
with_outs p outs = record p { outs = outs }

-- the body of task i is out with the pass, which knows that the task was taken t times
abbrev pub IsOutWith : Held → ℕ → ℕ → Type 0
IsOutWith p i t = (n : ℕ) × HasBody p.outs i n × (t ≡ n + gained (own_by p i))

-- the same, by the view of a seat
abbrev pub IsKnownOut : View → ℕ → ℕ → Type 0
IsKnownOut v i t = (n : ℕ) × HasBody v.outs i n × (t ≡ n + gained (own_view v i))

-- a worker has task i in its hands, whose home is its own box, and knows that it was taken t times
pub record MayTakeOwn (p : Held) (i t : ℕ) : Type 0 where
  pub held : own_by p i ≡ holding
  pub home : home_of p.start i ≡ p.who
  pub worker : p.who < p.start.state.workers
  pub known : known_takes p.start p.entries i ≡ t

-- a pass of fewer than 2^40 entries has drawn task i, has its body out, and knows by it that it was taken t times
pub record MayTakeDrawn (p : Held) (i t : ℕ) : Type 0 where
  pub drawn : own_by p i ≡ drawing
  pub out : HasBody p.outs i t
  pub early : length p.entries < 2 ^ 40

abbrev pub MayTake : Held → ℕ → ℕ → Type 0
MayTake p i t = MayTakeOwn p i t ⊎ MayTakeDrawn p i t

-- a look at a task's word: where the caller may take the task, the word has the takes that the pass knows
pub record TellsLook (st : Step Body) (me : Me Body View) (n : ℕ) (new : Me Body View) : Type 0 where
  pub seat : new ≡ me
  pub takes : (board : TableId) (i t : ℕ) → st.word ≡ i + 1 → MayTake (held_by board me.0.first me.0) i t → word_takes n ≡ t
