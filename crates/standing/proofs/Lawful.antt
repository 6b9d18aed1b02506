-- The laws, from the lemmas.
use Rattle.std.proofs.Common.{◌≡◌, ℕ, ◌+◌, ◌*◌, ◌^◌, ◌<◌, ◌≤◌, ◌++◌, arith, subst}
use Rattle.std.proofs.Math.Nat.{mul-le-mul_right}
use Rattle.run_model.specs.Standing.{opening}
use Rattle.turn_steps.proofs.Fit.{IsFit-sound}
use Rattle.standing.specs.Between.{entered, round_takes}
use Rattle.standing.specs.Firm.{Firm}
use Rattle.standing.specs.Laws.{RoundsKeep, NextCallsAreAllowed, RunsCanGoOn, RoundsAreCalls, CallersHear, RoundsStandFirm, RunsStandFirm, TakesAreTold, RunsTellReasons}
use Rattle.standing.proofs.Enter.{Keeps-entered}
use Rattle.standing.proofs.Finish.{going-front}
use Rattle.standing.proofs.Firm.{firm-opening, firm-calls, firm-round, firm-passes}
use Rattle.standing.proofs.Hears.{can_give-owns}
use Rattle.standing.proofs.HomesKept.{TimersHaveHomes-sound}
use Rattle.standing.proofs.Limits.{takes-sound}
use Rattle.standing.proofs.Opening.{KeepsBetween-opening}
use Rattle.standing.proofs.ReasonsTold.{reasons-told}
use Rattle.standing.proofs.Rounds.{made-round, KeepsBetween-round}
use Rattle.standing.proofs.Steps.{Next-allowed, Draw-allowed, Keeps-going}
use Rattle.standing.proofs.TakesTold.{takes-told}
use Rattle.standing.proofs.Told.{Owns-told}
use Rattle.standing.proofs.Whole.{extends}

pub rounds_keep_all : RoundsKeep
rounds_keep_all = record {
  opening = KeepsBetween-opening;
  enter = λ s r T limit st sound keeps. Keeps-entered s r T limit st (IsFit-sound s sound) keeps;
  calls = λ s T limit c es sound keeps going. Keeps-going s T limit c es (IsFit-sound s sound) keeps going;
  round = λ s r T limit old round new sound keeps is. KeepsBetween-round s r T limit old round new (IsFit-sound s sound) keeps is;
}

pub next_calls_all : NextCallsAreAllowed
next_calls_all = record {
  next = λ s limit c k call sound below keeps le asks. Next-allowed s limit c k call (IsFit-sound s sound) below keeps le asks;
  draw = λ s limit c k i sound keeps le may boxed. Draw-allowed s limit c k i keeps le may boxed;
}

pub runs_go_on : RunsCanGoOn
runs_go_on s rounds q U st es sound passes going =
    let t = takes-sound s sound in
    let e = extends s rounds q U st es (IsFit-sound s sound) t.0 t.1 passes going in
    (e.rest, e.more, e.later, e.lawful)

pub rounds_are : RoundsAreCalls
rounds_are s r T limit old new es more keeps is =
    going-front s T (entered s r T old) es more (made-round s r T old (record { tick = T; entries = es ++ more }) new keeps.books is).going

pub callers_hear_all : CallersHear
callers_hear_all = record { owns = Owns-told; gives = can_give-owns }

pub rounds_firm : RoundsStandFirm
rounds_firm = record { opening = firm-opening; calls = firm-calls; round = firm-round }

pub runs_firm : RunsStandFirm
runs_firm s rounds q U st sound passes =
    let t = takes-sound s sound in
    let f = firm-passes s 0 0 s.start (opening s) rounds q U st sound t.0 (firm-opening s sound) passes in
    let same : f.count ≡ q = omega (arith, f.rounds) in
    let none : 0 + f.count * round_takes s ≡ q * round_takes s = rw same (omega arith) in
    (f.below, has_room (round_takes s) q s.rounds f.below t.1, subst (λ (n : ℕ). Firm s U n st) none f.firm)
  where
    has_room : (t q all : ℕ) → q < all → all * t < 2 ^ 48 → q * t + t < 2 ^ 48
    has_room t q all lt h =
        let below : q + 1 ≤ all = omega arith in
        let le : (q + 1) * t ≤ all * t = mul-le-mul_right t below in
        omega arith

pub takes_all : TakesAreTold
takes_all s T w i c es sound keeps lt home going live =
    takes-told s T w i c es (TimersHaveHomes-sound s sound) keeps lt home going live

pub reasons_all : RunsTellReasons
reasons_all s run h = reasons-told s run h
