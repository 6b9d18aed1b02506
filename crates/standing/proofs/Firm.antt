-- All that stands together before a round holds at the opening and after each round.
use Rattle.std.proofs.Common.{◌≡◌, ℕ, ◌+◌, ◌*◌, ◌<◌, List, [], ◌∷◌, IsTrue, sym, arith, subst}
use Rattle.step_tables.specs.declared.tables.Script.{Script}
use Rattle.step_tables.specs.Sound.{is_sound}
use Rattle.task_machine.specs.declared.calls.Entry.{Entry}
use Rattle.run_model.specs.Run.{Round}
use Rattle.run_model.specs.Lawful.{RoundOf}
use Rattle.run_model.specs.Standing.{Standing, opening, next_tick}
use Rattle.turn_steps.proofs.Fit.{sound_parts, within-parts, IsFit-sound}
use Rattle.std.proofs.lemmas.Bool.{leb-true}
use Rattle.standing.specs.Between.{entered, round_takes}
use Rattle.standing.specs.Clock.{KeepsClock}
use Rattle.standing.specs.Firm.{Firm}
use Rattle.standing.specs.Going.{Going, gone_on}
use Rattle.standing.specs.Homes.{KeepsHomes}
use Rattle.standing.specs.Keeps.{Keeps}
use Rattle.standing.specs.Passes.{Passes}
use Rattle.standing.proofs.ClockKept.{clock-going, clock-entered, clock-round, clock-next, clock-opening, DelaysAreIn-sound}
use Rattle.standing.proofs.Enter.{Keeps-entered}
use Rattle.standing.proofs.HomesKept.{KeepsHomes-going, KeepsHomes-entered, HomesBetween-round, HomesBetween-opening, TimersHaveHomes-sound}
use Rattle.standing.proofs.Opening.{KeepsBetween-opening}
use Rattle.standing.proofs.Rounds.{KeepsBetween-round}
use Rattle.standing.proofs.Steps.{Keeps-going}

pub firm-opening : (s : Script) → IsTrue (is_sound s) → Firm s s.start 0 (opening s)
firm-opening s h = record {
  tick = (let le = leb-true s.start 4294967295 (sound_parts s h).start in omega arith);
  places = KeepsBetween-opening s;
  homes = HomesBetween-opening s;
  clock = clock-opening s;
}

pub firm-round : (s : Script) (r T limit : ℕ) (old : Standing) (round : Round) (new : Standing) → IsTrue (is_sound s) → Firm s T limit old → RoundOf s r T old round new → Firm s (next_tick s r T new) (limit + round_takes s) new
firm-round s r T limit old round new h firm is =
    let fit = IsFit-sound s h in
    let places = KeepsBetween-round s r T limit old round new fit firm.places is in
    let step = within-parts 1 1048576 s.step (sound_parts s h).step in
    let after = clock-round s r T limit old round new fit firm.tick (DelaysAreIn-sound s h) firm.places firm.clock is in
    let next = clock-next s r T new firm.tick (omega (arith, step.1)) places.books after in
    record {
      tick = next.0;
      places = places;
      homes = HomesBetween-round s r T limit old round new (TimersHaveHomes-sound s h) firm.places firm.homes is;
      clock = next.1;
    }

-- within a round
pub firm-calls : (s : Script) (r T limit : ℕ) (st : Standing) (es : List Entry) → IsTrue (is_sound s) → Firm s T limit st → Going s T (entered s r T st) es → Keeps s (limit + round_takes s) (gone_on s T (entered s r T st) es) × KeepsHomes s (gone_on s T (entered s r T st) es) × KeepsClock s T (gone_on s T (entered s r T st) es)
firm-calls s r T limit st es h firm going =
    let fit = IsFit-sound s h in
    let c = entered s r T st in (
      Keeps-going s T (limit + round_takes s) c es fit (Keeps-entered s r T limit st fit firm.places) going,
      KeepsHomes-going s T c es (TimersHaveHomes-sound s h) (KeepsHomes-entered s r T st firm.homes) going,
      clock-going s T c es firm.tick (DelaysAreIn-sound s h) (clock-entered s r T st firm.clock) going,
    )

-- what whole rounds lead to
pub record Firmly (s : Script) (limit r q U : ℕ) (new : Standing) : Type 0 where
  pub count : ℕ
  pub rounds : q ≡ r + count
  pub below : q < s.rounds
  pub firm : Firm s U (limit + count * round_takes s) new

pub firm-passes : (s : Script) (limit r T : ℕ) (old : Standing) (rounds : List Round) (q U : ℕ) (new : Standing) → IsTrue (is_sound s) → r < s.rounds → Firm s T limit old → Passes s r T old rounds q U new → Firmly s limit r q U new
firm-passes s limit r T old [] q U new h lt firm p =
    let same : limit ≡ limit + 0 * round_takes s = omega arith in
    record {
      count = 0;
      rounds = omega (arith, p.0);
      below = omega (arith, p.0);
      firm = subst (λ (st : Standing). Firm s U (limit + 0 * round_takes s) st) (sym p.2) (subst (λ (V : ℕ). Firm s V (limit + 0 * round_takes s) old) (sym p.1) (subst (λ (n : ℕ). Firm s T n old) same firm));
    }
firm-passes s limit r T old (round ∷ more) q U new h lt firm p =
    let mid = p.0 in
    let ne = p.3 in
    let after = firm-round s r T limit old round mid h firm p.1 in
    let later = firm-passes s (limit + round_takes s) (r + 1) (next_tick s r T mid) mid more q U new h (omega arith) after p.4 in
    let same : limit + round_takes s + later.count * round_takes s ≡ limit + (later.count + 1) * round_takes s = one_more (round_takes s) later.count limit in
    record {
      count = later.count + 1;
      rounds = omega (arith, later.rounds);
      below = later.below;
      firm = subst (λ (n : ℕ). Firm s U n new) same later.firm;
    }
  where
    one_more : (t n limit : ℕ) → limit + t + n * t ≡ limit + (n + 1) * t
    one_more t n limit = omega arith
