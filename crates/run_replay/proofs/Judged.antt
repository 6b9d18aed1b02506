-- Lines one after another, and what the first that may not come says of all of them.
use Rattle.std.proofs.Common.{◌≡◌, ℕ, zero, suc, ◌+◌, ◌-◌, ◌<◌, ◌≤◌, Bool, true, false, IsTrue, List, [], ◌∷◌, ◌++◌, length, take, drop, get_or, refl, sym, ap, ◌∙◌, arith, subst}
use Rattle.std.proofs.lemmas.List.{append_assoc, append-nil}
use Rattle.step_tables.specs.declared.tables.Script.{Script}
use Rattle.step_tables.specs.Sound.{is_sound}
use Rattle.transcript.specs.declared.lines.Line.{Line}
use Rattle.transcript.specs.declared.lines.Line.TheVariants as line
use Rattle.transcript.specs.Judging.{GoesOn, is_end, rounds_with}
use Rattle.run_texts.specs.Front.{Front}
use Rattle.fronts.specs.Lines.{Track, begins, within, ended, May, AllMay}
use Rattle.fronts.proofs.Fronts.{Reached, reached-step, allowed-first, fronts}
use Rattle.run_replay.specs.Verdicts.{AreOfRun, FirstNotLawful}
use Rattle.run_replay.specs.Watching.{IsAt}
use Rattle.run_replay.specs.declared.judging.Verdict.{Verdict}
use Rattle.run_replay.specs.declared.judging.Verdict.TheVariants as verdict
use Rattle.run_replay.specs.declared.watcher.Watcher.{Watcher}

-- lines lead from a track to another
abbrev pub Leads : Script → Track → List Line → Track → Type 0
Leads s t [] u = u ≡ t
Leads s t (l ∷ ls) u = (v : Track) × May s t l v × Leads s v ls u

pub leads-push : (s : Script) (t : Track) (ls : List Line) (l : Line) (u v : Track) → Leads s t ls u → May s u l v → Leads s t (ls ++ l ∷ []) v
leads-push s t [] l u v h may = (v, subst (λ (x : Track). May s x l v) h may, refl)
leads-push s t (x ∷ ls) l u v h may = (h.0, h.1, leads-push s h.0 ls l u v h.2 may)

leads-may : (s : Script) (t : Track) (ls : List Line) (u : Track) → Leads s t ls u → AllMay s t ls
leads-may s t [] u h = tt
leads-may s t (l ∷ ls) u h = (h.0, h.1, leads-may s h.0 ls u h.2)

-- a line leads to one track at most
may-one : (s : Script) (t : Track) (l : Line) (u v : Track) → May s t l u → May s t l v → u ≡ v
may-one s begins (line.Round number tick) u v h k = h.2 ∙ sym k.2
may-one s begins (line.Entry e) u v h k = absurd h
may-one s begins (line.End rest last) u v h k = absurd h
may-one s (within r T old es) (line.Round number tick) u v h k = h.5 ∙ sym k.5
may-one s (within r T old es) (line.Entry e) u v h k = h.1 ∙ sym k.1
may-one s (within r T old es) (line.End rest last) u v h k = h.3 ∙ sym k.3
may-one s ended l u v h k = absurd h

leads-not : (s : Script) (t : Track) (ls : List Line) (l : Line) (u : Track) → Leads s t ls u → ((v : Track) → May s u l v → ⊥) → AllMay s t (ls ++ l ∷ []) → ⊥
leads-not s t [] l u h fails all = fails all.0 (subst (λ (x : Track). May s x l all.0) (sym h) all.1)
leads-not s t (x ∷ ls) l u h fails all =
    let same : all.0 ≡ h.0 = may-one s t x all.0 h.0 all.1 h.1 in
    leads-not s h.0 ls l u h.2 fails (subst (λ (y : Track). AllMay s y (ls ++ l ∷ [])) same all.2)

reached-leads : (s : Script) (t : Track) (xs ls : List Line) (u : Track) → IsTrue (is_sound s) → Reached s t xs → Leads s t ls u → Reached s u (xs ++ ls)
reached-leads s t xs [] u sound at h = subst (λ (ys : List Line). Reached s u ys) (sym (append-nil xs)) (subst (λ (y : Track). Reached s y xs) (sym h) at)
reached-leads s t xs (l ∷ ls) u sound at h =
    subst (λ (ys : List Line). Reached s u ys) (append_assoc xs (l ∷ []) ls) (reached-leads s h.0 (xs ++ l ∷ []) ls u sound (reached-step s t l h.0 xs sound h.1 at) h.2)

end-ends : (s : Script) (t : Track) (l : Line) (v : Track) → May s t l v → is_end l ≡ true → v ≡ ended
end-ends s begins (line.Round number tick) v may is = cc
end-ends s begins (line.Entry e) v may is = cc
end-ends s begins (line.End rest last) v may is = absurd may
end-ends s (within r T old es) (line.Round number tick) v may is = cc
end-ends s (within r T old es) (line.Entry e) v may is = cc
end-ends s (within r T old es) (line.End rest last) v may is = may.3
end-ends s ended l v may is = absurd may

-- lines that go on to their end lead to the end
leads-ended : (s : Script) (t : Track) (ls : List Line) (u : Track) (r : ℕ) (b : Bool) → GoesOn r b ls → (b ≡ true → t ≡ ended) → Leads s t ls u → u ≡ ended
leads-ended s t [] u r b go is h = h ∙ is go
leads-ended s t (l ∷ ls) u r b go is h = leads-ended s h.0 ls u (rounds_with r l) (is_end l) go.2 (end-ends s t l h.0 h.1) h.2

pub sound-begins : (s : Script) (w : Watcher) → IsAt s begins w → IsTrue (is_sound s)
unfolding IsAt
sound-begins s w at = at.2.sound

-- ---- the verdict

pub are-lawful : (s : Script) (ls : List Line) (t : Track) → IsTrue (is_sound s) → GoesOn 0 false ls → Leads s begins ls t → AreOfRun s ls
are-lawful s ls t sound go h =
    let last : t ≡ ended = leads-ended s begins ls t 0 false go (λ e. cc) h in
    let at : Reached s ended ls = subst (λ (y : Track). Reached s y ls) last (reached-leads s begins [] ls t sound refl h) in
    (at.0, at.1, sym at.2)

of-run-may : (s : Script) (ls : List Line) → IsTrue (is_sound s) → AreOfRun s ls → AllMay s begins ls
of-run-may s ls sound run = (fronts s ls sound).0 (run.0, [], run.1, sym run.2 ∙ sym (append-nil ls))

-- the lines to the first that may not come, and those after it
split_at : (ls : List Line) (i : ℕ) (d : Line) → i < length ls → ls ≡ (take i ls ++ get_or ls i d ∷ []) ++ drop (i + 1) ls
split_at [] i d lt = absurd (omega arith)
split_at (x ∷ ls) zero d lt = refl
split_at (x ∷ ls) (suc i) d lt =
    let up : suc i + 1 ≡ suc (i + 1) = omega arith in
    ap (λ ys. x ∷ ys) (split_at ls i d (omega arith)) ∙ ap (λ n. (take (suc i) (x ∷ ls) ++ get_or (x ∷ ls) (suc i) d ∷ []) ++ drop n (x ∷ ls)) (sym up)

pub take_more : (ls : List Line) (i : ℕ) (l : Line) → i < length ls → l ≡ get_or ls i l → take (i + 1) ls ≡ take i ls ++ l ∷ []
take_more [] i l lt at = absurd (omega arith)
take_more (x ∷ ls) zero l lt at = ap (λ y. y ∷ []) (sym at)
take_more (x ∷ ls) (suc i) l lt at =
    let up : suc i + 1 ≡ suc (i + 1) = omega arith in
    ap (λ n. take n (x ∷ ls)) up ∙ ap (λ ys. x ∷ ys) (take_more ls i l (omega arith) at)

pub not-of-run : (s : Script) (ls : List Line) (i : ℕ) (l : Line) (t : Track) → IsTrue (is_sound s) → i < length ls → l ≡ get_or ls i l → Leads s begins (take i ls) t → ((u : Track) → May s t l u → ⊥) → AreOfRun s ls → ⊥
not-of-run s ls i l t sound lt at h fails run =
    let here : ls ≡ (take i ls ++ l ∷ []) ++ drop (i + 1) ls = split_at ls i l lt ∙ ap (λ x. (take i ls ++ x ∷ []) ++ drop (i + 1) ls) (sym at) in
    leads-not s begins (take i ls) l t h fails (allowed-first s begins (take i ls ++ l ∷ []) (drop (i + 1) ls) (subst (λ (xs : List Line). AllMay s begins xs) here (of-run-may s ls sound run)))

pub first-not : (s : Script) (ls : List Line) (i n : ℕ) (l : Line) (t : Track) → IsTrue (is_sound s) → i < length ls → n ≡ i + 2 → l ≡ get_or ls i l → Leads s begins (take i ls) t → ((u : Track) → May s t l u → ⊥) → FirstNotLawful s ls n
first-not s ls i n l t sound lt same at h fails =
    let two : n - 2 ≡ i = omega arith in
    let one : n - 1 ≡ i + 1 = omega arith in
    record {
      behind = omega arith;
      among = omega arith;
      front = subst (λ (m : ℕ). Front s (take m ls)) (sym two) ((fronts s (take i ls) sound).1 (leads-may s begins (take i ls) t h));
      none = λ f. leads-not s begins (take i ls) l t h fails ((fronts s (take i ls ++ l ∷ []) sound).0 (subst (λ (xs : List Line). Front s xs) (ap (λ m. take m ls) one ∙ take_more ls i l lt at) f));
    }

pub take_all : (ls : List Line) (n : ℕ) → length ls ≤ n → take n ls ≡ ls
take_all [] zero le = refl
take_all [] (suc n) le = refl
take_all (x ∷ ls) zero le = absurd (omega arith)
take_all (x ∷ ls) (suc n) le = ap (λ ys. x ∷ ys) (take_all ls n (omega arith))

-- the line that a verdict names
abbrev pub line_in : Verdict → ℕ
line_in verdict.Lawful = 0
line_in (verdict.NotLawful n) = n
