-- A round on threads is made: what is taken out, and what comes back.
use Rattle.std.proofs.Common.{◌≡◌, ◌≢◌, ℕ, suc, ◌+◌, ◌<◌, List, [], ◌∷◌, ◌++◌, map, take, length, get_or, Option, None, Some, IsSome, refl, sym, ap, ap₂, subst, ◌∙◌, arith}
use Rattle.std.proofs.lemmas.List.{length-append, length-map, get_or-map, get_or_push, take_at}
use Rattle.step_tables.specs.declared.tables.Script.{Script}
use Rattle.task_machine.specs.Logged.{Logged}
use Rattle.task_machine.specs.Own.{away, drawing}
use Rattle.wake_board.specs.Seen.{Held, Laid}
use Rattle.wake_board.specs.Ends.{own_by}
use Rattle.thread_loop.specs.Plants.{AllCanTurn, AllTurned}
use Rattle.thread_loop.specs.Rounds.{CanInject, HasInjected, AreNumbered, AllIdle, CanMake, HasMade}
use Rattle.thread_loop.specs.declared.worker.Worker.{Worker}

-- ---- what is taken out

some-same : (xs ys : List Held) → map Some xs ≡ map Some ys → xs ≡ ys
some-same [] [] e = refl
some-same (x ∷ xs) (y ∷ ys) e =
    let both : Some x ∷ map Some xs ≡ Some y ∷ map Some ys = e in
    let here : x ≡ y = cc in
    let more : map Some xs ≡ map Some ys = cc in
    ap₂ ◌∷◌ here (some-same xs ys more)
some-same [] (y ∷ ys) e = let bad : [] ≡ Some y ∷ map Some ys = e in cc
some-same (x ∷ xs) [] e = let bad : Some x ∷ map Some xs ≡ [] = e in cc

push-same : (xs ys : List Held) (x y : Held) → xs ++ x ∷ [] ≡ ys ++ y ∷ [] → (xs ≡ ys) × (x ≡ y)
push-same xs ys x y e =
    let size : length xs + 1 ≡ length ys + 1 = sym (length-append xs (x ∷ [])) ∙ ap (λ (ps : List Held). length ps) e ∙ length-append ys (y ∷ []) in
    let n : ℕ = length xs in (
      sym (take_at xs (x ∷ []) n refl) ∙ ap (λ (ps : List Held). take n ps) e ∙ take_at ys (y ∷ []) n (omega arith),
      sym (get_or_push xs x x n refl) ∙ ap (λ (ps : List Held). get_or ps n x) e ∙ get_or_push ys y x n (omega arith),
    )

-- what was taken out, without the last pass, are the workers' passes, and the last is the injector's
pub taken-out : (places : List (Option Held)) (out more : List Held) (q : Held) (ps : List Held) (p : Held) → map Some out ≡ places → places ≡ map Some (ps ++ p ∷ []) → out ≡ more ++ q ∷ [] → (more ≡ ps) × (q ≡ p)
taken-out places out more q ps p a b c = push-same more ps q p (sym c ∙ some-same out (ps ++ p ∷ []) (a ∙ b))

pub caller-count : (s : Script) (T r : ℕ) (b : Laid) (ws : List Worker) (log : Logged) (places : List (Option Held)) (ps : List Held) (p : Held) → CanMake s T r b ws log places ps p → length places ≡ s.workers + 1
caller-count s T r b ws log places ps p can =
    ap (λ (xs : List (Option Held)). length xs) can.places_are ∙ length-map (ps ++ p ∷ []) Some ∙ length-append ps (p ∷ []) ∙ ap (λ (n : ℕ). n + 1) can.count

pub caller-back : (s : Script) (T r : ℕ) (b : Laid) (ws : List Worker) (log : Logged) (places : List (Option Held)) (ps : List Held) (p : Held) (k : ℕ) → CanMake s T r b ws log places ps p → k < s.workers + 1 → IsSome (get_or places k None)
caller-back s T r b ws log places ps p k can lt =
    let size : length (ps ++ p ∷ []) ≡ s.workers + 1 = length-append ps (p ∷ []) ∙ ap (λ (n : ℕ). n + 1) can.count in
    let at : get_or places k None ≡ Some (get_or (ps ++ p ∷ []) k p) = ap (λ (xs : List (Option Held)). get_or xs k None) can.places_are ∙ get_or-map Some (ps ++ p ∷ []) k p None (omega arith) in
    subst (λ (x : Option Held). IsSome x) (sym at) refl

-- ---- what comes back

pub as-turned : (s : Script) (T : ℕ) (ws : List Worker) (ps : List Held) (vs : List Worker) (qs : List Held) → AllTurned s T ws ps vs qs → length qs ≡ length ps
as-turned s T [] [] [] [] h = refl
as-turned s T (w ∷ ws) (p ∷ ps) (v ∷ vs) (q ∷ qs) h = ap suc (as-turned s T ws ps vs qs h.1)
as-turned s T (w ∷ ws) [] vs qs h = absurd h
as-turned s T [] (p ∷ ps) vs qs h = absurd h
as-turned s T [] [] (v ∷ vs) qs h = absurd h
as-turned s T [] [] [] (q ∷ qs) h = absurd h
as-turned s T (w ∷ ws) (p ∷ ps) [] qs h = absurd h
as-turned s T (w ∷ ws) (p ∷ ps) (v ∷ vs) [] h = absurd h

pub numbered-after : (s : Script) (T k : ℕ) (ws : List Worker) (ps : List Held) (vs : List Worker) (qs : List Held) (p q : Held) → AreNumbered k (ps ++ p ∷ []) → AllTurned s T ws ps vs qs → q.who ≡ p.who → AreNumbered k (qs ++ q ∷ [])
numbered-after s T k [] [] [] [] p q n h same = (same ∙ n.0, tt)
numbered-after s T k (w ∷ ws) (x ∷ ps) (v ∷ vs) (y ∷ qs) p q n h same = (h.0.grown.who ∙ n.0, numbered-after s T (suc k) ws ps vs qs p q n.1 h.1 same)
numbered-after s T k (w ∷ ws) [] vs qs p q n h same = absurd h
numbered-after s T k [] (x ∷ ps) vs qs p q n h same = absurd h
numbered-after s T k [] [] (v ∷ vs) qs p q n h same = absurd h
numbered-after s T k [] [] [] (y ∷ qs) p q n h same = absurd h
numbered-after s T k (w ∷ ws) (x ∷ ps) [] qs p q n h same = absurd h
numbered-after s T k (w ∷ ws) (x ∷ ps) (v ∷ vs) [] p q n h same = absurd h

idle-turned : (s : Script) (T : ℕ) (b : Laid) (ws : List Worker) (ps : List Held) (vs : List Worker) (qs : List Held) (q : Held) → AllCanTurn s T b ws ps → AllTurned s T ws ps vs qs → q.outs ≡ [] → ((i : ℕ) → own_by q i ≢ drawing) → AllIdle (qs ++ q ∷ [])
idle-turned s T b [] [] [] [] q can h outs draws = (outs, (λ i lt. draws i), tt)
idle-turned s T b (w ∷ ws) (x ∷ ps) (v ∷ vs) (y ∷ qs) q can h outs draws = (h.0.grown.outs ∙ can.0.outs, (λ i lt. h.0.listed.draws i), idle-turned s T b ws ps vs qs q can.1 h.1 outs draws)
idle-turned s T b (w ∷ ws) [] vs qs q can h outs draws = absurd h
idle-turned s T b [] (x ∷ ps) vs qs q can h outs draws = absurd h
idle-turned s T b [] [] (v ∷ vs) qs q can h outs draws = absurd h
idle-turned s T b [] [] [] (y ∷ qs) q can h outs draws = absurd h
idle-turned s T b (w ∷ ws) (x ∷ ps) [] qs q can h outs draws = absurd h
idle-turned s T b (w ∷ ws) (x ∷ ps) (v ∷ vs) [] q can h outs draws = absurd h

pub idle-after : (s : Script) (T r : ℕ) (b : Laid) (ws : List Worker) (ps : List Held) (vs : List Worker) (qs : List Held) (before log : Logged) (p q : Held) → AllCanTurn s T b ws ps → AllTurned s T ws ps vs qs → CanInject s r b before p → HasInjected s r p log q → AllIdle (qs ++ q ∷ [])
idle-after s T r b ws ps vs qs before log p q can h may injected =
    idle-turned s T b ws ps vs qs q can h (ap (λ (x : Held). x.outs) injected.grown ∙ may.outs) (λ i e. (let bad : away ≡ drawing = sym (injected.free i) ∙ e in cc))

pub who-after : (s : Script) (r : ℕ) (p q : Held) (log : Logged) → HasInjected s r p log q → q.who ≡ p.who
who-after s r p q log h = ap (λ (x : Held). x.who) h.grown

pub has-made : (s : Script) (T r : ℕ) (ws : List Worker) (ps : List Held) (p : Held) (more : List Held) (q : Held) (vs : List Worker) (after : List Held) (last : Held) (log : Logged) (places : List (Option Held)) → more ≡ ps → q ≡ p → AllTurned s T ws more vs after → HasInjected s r q log last → places ≡ map Some (after ++ last ∷ []) → HasMade s T r ws ps p vs log places
has-made s T r ws ps p more q vs after last log places same here turned injected are = record {
  after = after;
  last = last;
  places_are = are;
  turned = subst (λ (xs : List Held). AllTurned s T ws xs vs after) same turned;
  injected = subst (λ (x : Held). HasInjected s r x log last) here injected;
}
