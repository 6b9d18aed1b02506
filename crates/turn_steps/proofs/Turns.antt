-- A lawful turn is what is left at its begin, and so is a lawful injector round.
use Rattle.std.proofs.Common.{◌≡◌, ℕ, zero, suc, ◌+◌, ◌-◌, ◌<◌, ◌≤◌, ◌==◌, Bool, true, false, List, [], ◌∷◌, ◌++◌, Option, Some, None, refl, sym, ap, ap₂, subst, ◌∙◌, arith, append_assoc, append-nil, eqb-true, inl, inr, if◌then◌else◌}
use Rattle.std.specs.List.{range_with_len}
use Rattle.sched_base.specs.ReasonNames.{timer}
use Rattle.sched_base.specs.declared.names.CallerId.{CallerId}
use Rattle.queue_model.specs.Classes.{Classes, Next, quotas, spent, next_run}
use Rattle.queue_model.specs.Sweep.{fired, swept}
use Rattle.step_tables.specs.declared.tables.Action.{Action}
use Rattle.step_tables.specs.declared.tables.Row.{Row}
use Rattle.step_tables.specs.declared.tables.Script.{Script}
use Rattle.task_machine.specs.declared.calls.Call.{Call}
use Rattle.task_machine.specs.declared.calls.Call.TheVariants.{Wake, Post, Draw, Take}
use Rattle.task_machine.specs.declared.calls.Reply.{Reply}
use Rattle.task_machine.specs.declared.calls.Entry.{Entry}
use Rattle.run_model.specs.Parts.{Part, Quiet, Nothing, Then, Makes, Either, Each}
use Rattle.run_model.specs.Replies.{is_rest, is_killed, has_reasons, takes_in}
use Rattle.run_model.specs.Tables.{home_of, row_by, groups, target, actions_in}
use Rattle.run_model.specs.Book.{Book, queued, filled, taken_from, untimed, row_ended}
use Rattle.run_model.specs.Turn.{Posts, Acts, Gets, Fires, Hands, Returns, Retires, Drops, RunsRow, RunOf, RunsOf, Runs, DrawsOf, Draws, Turn}
use Rattle.run_model.specs.TurnReader.{runs_left}
use Rattle.run_model.specs.Lawful.{Injects}
use Rattle.run_model.proofs.TurnReadings.{next_spends}
use Rattle.turn_steps.specs.Left.{Onward, by_class, by_draw, next_in, spent_in, gets, wakes, runs, acts, posts, drops, retires, returns, drawn, injects, carries, over, Stage, stage, at_runs, at_wakes, at_sweep, at_gets, at_acts, at_events, begun, injector, take_call, asked, handed, acted, run_begun, taken, returned, dropped_live, dropped_as, injected, draws_if, draws_now, drew, went, Rest}
use Rattle.turn_steps.specs.Laws.{TurnsAreRests, InjectsAreRests}
use Rattle.turn_steps.proofs.Leads.{Leads, leads-quiet, leads-then, leads-asks, leads-from, leads-each}

module _ (s : Script) (w : CallerId) (T : ℕ) where
  -- ---- a run

  abbrev on : Onward → Book → Stage
  on q b = stage (runs q) b

  leads-retires : (held : Bool) (i : ℕ) (q : Onward) (b : Book) → Leads s w T (Retires w i) b (stage (retires held i q) b) (on q)
  leads-retires held i q b = leads-asks s w T _ _ b (stage (retires held i q) b) (on q) refl (λ r. leads-quiet s w T (untimed i) b (on q))

  leads-hands : (own : Bool) (j : ℕ) (more : List Action) (i : ℕ) (row : Row) (q : Onward) (b : Book) → Leads s w T (Either own (Quiet (queued s j)) (Posts w j (home_of s j))) b (handed s T own j more i row q b) (at_acts T more i row q)
  leads-hands true j more i row q b = leads-quiet s w T (queued s j) b (at_acts T more i row q)
  leads-hands false j more i row q b = leads-asks s w T _ _ b (stage (posts j more i row q) b) (at_acts T more i row q) refl (λ r. leads-quiet s w T (λ (c : Book). c) b (at_acts T more i row q))

  leads-acted : (rest : Bool) (j : ℕ) (more : List Action) (i : ℕ) (row : Row) (q : Onward) (b : Book) → Leads s w T (Either rest (Hands s w j) Nothing) b (acted s w T rest j more i row q b) (at_acts T more i row q)
  leads-acted true j more i row q b = leads-hands (home_of s j == w.0) j more i row q b
  leads-acted false j more i row q b = leads-quiet s w T (λ (c : Book). c) b (at_acts T more i row q)

  leads-act : (i : ℕ) (row : Row) (q : Onward) (a : Action) (more : List Action) (b : Book) → Leads s w T (Acts w (Hands s w) a) b (at_acts T (a ∷ more) i row q b) (at_acts T more i row q)
  leads-act i row q a more b = leads-asks s w T _ _ b (stage (acts a more i row q) b) (at_acts T more i row q) refl (λ r. leads-acted (is_rest r) (target a) more i row q b)

  leads-returns : (shared : Bool) (i : ℕ) (q : Onward) (b : Book) → (home_of s i == s.workers) ≡ shared → Leads s w T (Either shared (Posts w i s.workers) (Quiet (queued s i))) b (returned s shared i q b) (on q)
  leads-returns true i q b e = leads-asks s w T _ _ b (stage (returns i q) b) (on q) (ap (λ n. Some (Post (record { 0 = i }) n)) (eqb-true _ _ e)) (λ r. leads-quiet s w T (λ (c : Book). c) b (on q))
  leads-returns false i q b e = leads-quiet s w T (queued s i) b (on q)

  leads-live : (busy : Bool) (i : ℕ) (q : Onward) (b : Book) → Leads s w T (Either busy (Returns s w i) Nothing) b (dropped_live s busy i q b) (on q)
  leads-live true i q b = leads-returns (home_of s i == s.workers) i q b refl
  leads-live false i q b = leads-quiet s w T (λ (c : Book). c) b (on q)

  leads-dropped : (killed busy : Bool) (i : ℕ) (q : Onward) (b : Book) → Leads s w T (Either killed (Retires w i) (Either busy (Returns s w i) Nothing)) b (dropped_as s killed busy i q b) (on q)
  leads-dropped true busy i q b = leads-retires true i q b
  leads-dropped false busy i q b = leads-live busy i q b

  leads-drops : (i : ℕ) (q : Onward) (b : Book) → Leads s w T (Drops s w i) b (stage (drops i q) b) (on q)
  leads-drops i q b = leads-asks s w T _ _ b (stage (drops i q) b) (on q) refl (λ r. leads-dropped (is_killed r) (has_reasons r) i q b)

  leads-row : (i : ℕ) (row : Row) (q : Onward) (b : Book) → Leads s w T (RunsRow s w T i row) b (at_acts T row.actions i row q b) (on q)
  leads-row i row q b =
      leads-then s w T _ _ b _ (at_acts T [] i row q) (on q)
      (leads-each s w T (Acts w (Hands s w)) (λ more c. at_acts T more i row q c) row.actions b (λ a more c. leads-act i row q a more c))
      (λ c. leads-then s w T _ _ c _ (λ d. stage (drops i q) d) (on q)
      (leads-quiet s w T (row_ended T i row) c (λ d. stage (drops i q) d))
      (λ d. leads-drops i q d))

  leads-begun : (r : Reply) (killed : Bool) (i : ℕ) (q : Onward) (b : Book) → Leads s w T (Either killed (Retires w i) (RunsRow s w T i (row_by s i (takes_in r)))) b (run_begun s T r killed i q b) (on q)
  leads-begun r true i q b = leads-retires false i q b
  leads-begun r false i q b = leads-row i (row_by s i (takes_in r)) q b

  -- the run of the item that comes next, and that of a task that was drawn
  leads-next : (q : Onward) (x : Next) (b : Book) → next_in q b ≡ Some x → Leads s w T (RunOf s w T x.task) (taken_from x.class b) (stage (runs q) b) (on (spent_in x.class q))
  leads-next q x b e =
      leads-asks s w T (Take (record { 0 = x.task })) _ (taken_from x.class b) (stage (runs q) b) (on (spent_in x.class q)) (ap take_call e) (λ r.
      subst (λ (g : Stage). Leads s w T (Either (is_killed r) (Retires w x.task) (RunsRow s w T x.task (row_by s x.task (takes_in r)))) (taken_from x.class b) g (on (spent_in x.class q))) (sym (ap (λ (o : Option Next). taken s T r q o b) e))
      (leads-begun r (is_killed r) x.task (spent_in x.class q) (taken_from x.class b)))

  leads-drawn : (i n : ℕ) (b : Book) → Leads s w T (RunOf s w T i) b (stage (drawn i n) b) (on (by_draw n))
  leads-drawn i n b = leads-asks s w T _ _ b (stage (drawn i n) b) (on (by_draw n)) refl (λ r. leads-begun r (is_killed r) i (by_draw n) b)

  -- ---- once no item comes next, what is left are the draws

  idle : (g h : Stage) (zs : List Entry) (d : Book) → asked s g ≡ None → asked s h ≡ None → draws_now s g ≡ draws_now s h → g.book ≡ h.book → Rest s w T g zs d → Rest s w T h zs d
  idle g h [] d eg eh draws book rest = (eh, rest.1 ∙ book)
  idle g h (e ∷ es) d eg eh draws book rest =
      elim rest.1 [
        | inl is ↦ let no : None ≡ Some e.call = sym eg ∙ is in cc
        | inr m ↦
            let some : 0 < draws_now s h = subst (λ n. 0 < n) draws m.some in
            let same : went s w T e.call e.reply g ≡ went s w T e.call e.reply h = rw m.call (ap₂ (λ n b. stage (drawn m.task (n - 1)) b) draws book) in
            (rest.0, inr (record { task = m.task; call = m.call; shared = m.shared; some = some }), subst (λ (k : Stage). Rest s w T k es d) same rest.2)
      ]

  idle-runs : (q : Classes ℕ) (b : Book) (zs : List Entry) (d : Book) → next_run b.lists q ≡ None → Rest s w T (stage (runs (by_class q)) b) zs d → Rest s w T (stage (runs (by_draw s.depth)) b) zs d
  idle-runs q b zs d e rest = idle (stage (runs (by_class q)) b) (stage (runs (by_draw s.depth)) b) zs d (ap take_call e) refl (ap (λ (o : Option Next). draws_if o s.depth) e) refl rest

  idle-draws : (q : Classes ℕ) (b : Book) (zs : List Entry) (d : Book) → next_run b.lists q ≡ None → Rest s w T (stage (runs (by_draw s.depth)) b) zs d → Rest s w T (stage (runs (by_class q)) b) zs d
  idle-draws q b zs d e rest = idle (stage (runs (by_draw s.depth)) b) (stage (runs (by_class q)) b) zs d refl (ap take_call e) (sym (ap (λ (o : Option Next). draws_if o s.depth) e)) refl rest

  runs_to : (n : ℕ) (q : Classes ℕ) (b c : Book) (xs ys : List Entry) (d : Book) → RunsOf s w T n q b xs c → Rest s w T (stage (runs (by_draw s.depth)) c) ys d → Rest s w T (stage (runs (by_class q)) b) (xs ++ ys) d
  runs_to zero q b c xs ys d p rest =
      let here : Rest s w T (stage (runs (by_draw s.depth)) b) ys d = subst (λ (k : Book). Rest s w T (stage (runs (by_draw s.depth)) k) ys d) p.1.1 rest in
      subst (λ (zs : List Entry). Rest s w T (stage (runs (by_class q)) b) (zs ++ ys) d) (sym p.1.0) (idle-draws q b ys d p.0 here)
  runs_to (suc n) q b c xs ys d p rest =
      let x = p.0 in
      let t = p.2 in
      let more = runs_to n (spent x.class q) t.between c t.second ys d t.back rest in
      let e : xs ++ ys ≡ t.first ++ (t.second ++ ys) = ap (λ zs. zs ++ ys) t.joined ∙ append_assoc t.first t.second ys in
      subst (λ (zs : List Entry). Rest s w T (stage (runs (by_class q)) b) zs d) (sym e) ((leads-next (by_class q) x b p.1).to t.between t.first (t.second ++ ys) d t.front more)

  -- what the runs leave
  abbrev RunsFrom : Classes ℕ → Book → List Entry → Book → Type 0
  RunsFrom q b zs d = (c : Book) × (xs : List Entry) × (ys : List Entry) × (zs ≡ xs ++ ys) × ((n : ℕ) × RunsOf s w T n q b xs c) × Rest s w T (stage (runs (by_draw s.depth)) c) ys d

  runs_next : (n : ℕ) (q : Classes ℕ) (b : Book) (zs : List Entry) (d : Book) (o : Option Next) → next_run b.lists q ≡ o → runs_left q ≤ n → ((m : ℕ) (p : Classes ℕ) (c : Book) (ys : List Entry) → suc m ≡ n → runs_left p ≤ m → Rest s w T (stage (runs (by_class p)) c) ys d → RunsFrom p c ys d) → Rest s w T (stage (runs (by_class q)) b) zs d → RunsFrom q b zs d
  runs_next n q b zs d None e le ih rest = (b, [], zs, refl, (0, (e, (refl, refl))), idle-runs q b zs d e rest)
  runs_next zero q b zs d (Some x) e le ih rest = let h : runs_left (spent x.class q) + 1 ≡ runs_left q = next_spends b.lists q x e in absurd (omega arith)
  runs_next (suc n) q b zs d (Some x) e le ih rest =
      let h : runs_left (spent x.class q) + 1 ≡ runs_left q = next_spends b.lists q x e in
      let one = (leads-next (by_class q) x b e).from zs d rest in
      let two = ih n (spent x.class q) one.0 one.2 refl (omega arith) one.5 in
      let joined : zs ≡ (one.1 ++ two.1) ++ two.2 = one.3 ∙ (ap (λ xs. one.1 ++ xs) two.3 ∙ sym (append_assoc one.1 two.1 two.2)) in
      (two.0, one.1 ++ two.1, two.2, joined, (suc two.4.0, (x, e, record { first = one.1; second = two.1; between = one.0; joined = refl; front = one.4; back = two.4.1 })), two.5)

  runs_from : (n : ℕ) (q : Classes ℕ) (b : Book) (zs : List Entry) (d : Book) → runs_left q ≤ n → Rest s w T (stage (runs (by_class q)) b) zs d → RunsFrom q b zs d
  runs_from zero q b zs d le rest = runs_next zero q b zs d (next_run b.lists q) refl le (λ m p c ys e. absurd (omega arith)) rest
  runs_from (suc n) q b zs d le rest = runs_next (suc n) q b zs d (next_run b.lists q) refl le (λ m p c ys e le' r. runs_from n p c ys d (omega arith) r) rest

  leads-runs : (b : Book) → Leads s w T (Runs s w T) b (stage (runs (by_class (quotas s.depth b.lists))) b) (on (by_draw s.depth))
  leads-runs b = record {
    to = λ c xs ys d p rest. runs_to p.0 (quotas s.depth b.lists) b c xs ys d p.1 rest;
    from = λ zs d rest. runs_from (runs_left (quotas s.depth b.lists)) (quotas s.depth b.lists) b zs d (omega arith) rest;
  }

  -- ---- the draws

  -- the last stage of a turn, from which nothing comes
  abbrev last : Book → Stage
  last b = stage (runs (by_draw 0)) b

  last-none : (b : Book) (ys : List Entry) (d : Book) → Rest s w T (last b) ys d → (ys ≡ []) × (d ≡ b)
  last-none b [] d rest = (refl, rest.1)
  last-none b (e ∷ es) d rest =
      elim rest.1 [
        | inl is ↦ cc
        | inr m ↦ let some : 0 < 0 = m.some in absurd (omega arith)
      ]

  draws_to : (m n : ℕ) (b c : Book) (xs ys : List Entry) (d : Book) → m ≤ n → DrawsOf s w T m b xs c → Rest s w T (last c) ys d → Rest s w T (stage (runs (by_draw n)) b) (xs ++ ys) d
  draws_to zero n b c xs ys d le p rest =
      let end = last-none c ys d rest in
      rw (p.0, end.0) (refl, end.1 ∙ p.1)
  draws_to (suc m) zero b c xs ys d le p rest = absurd (omega arith)
  draws_to (suc m) (suc n) b c xs ys d le p rest =
      let i = p.0 in
      let t = p.2 in
      let u = t.back in
      let f = t.front in
      let more = draws_to m n u.between c u.second ys d (omega arith) u.back rest in
      let here : u.first ++ (u.second ++ ys) ≡ t.second ++ ys = sym (append_assoc u.first u.second ys) ∙ ap (λ zs. zs ++ ys) (sym u.joined) in
      let book : t.between ≡ b = f.goes_on.1 in
      let run : Rest s w T (stage (drawn i n) b) (t.second ++ ys) d = subst (λ (k : Book). Rest s w T (stage (drawn i n) k) (t.second ++ ys) d) book (subst (λ (zs : List Entry). Rest s w T (stage (drawn i n) t.between) zs d) here ((leads-drawn i n t.between).to u.between u.first (u.second ++ ys) d u.front more)) in
      let less : suc n - 1 ≡ n = omega arith in
      let drew_to : Rest s w T (drew s i (stage (runs (by_draw (suc n))) b)) (t.second ++ ys) d = subst (λ k. Rest s w T (stage (drawn i k) b) (t.second ++ ys) d) (sym less) run in
      let first : t.first ≡ record { caller = w; call = Draw (record { 0 = i }); reply = f.reply } ∷ [] = f.begins ∙ ap (λ zs. record { caller = w; call = Draw (record { 0 = i }); reply = f.reply } ∷ zs) f.goes_on.0 in
      let e : xs ++ ys ≡ record { caller = w; call = Draw (record { 0 = i }); reply = f.reply } ∷ (t.second ++ ys) = ap (λ zs. zs ++ ys) (t.joined ∙ ap (λ zs. zs ++ t.second) first) in
      subst (λ (zs : List Entry). Rest s w T (stage (runs (by_draw (suc n))) b) zs d) (sym e) (refl, inr (record { task = i; call = refl; shared = p.1; some = omega arith }), drew_to)

  -- what the draws leave
  abbrev DrawsFrom : ℕ → Book → List Entry → Book → Type 0
  DrawsFrom n b zs d = (c : Book) × (xs : List Entry) × (ys : List Entry) × (zs ≡ xs ++ ys) × ((m : ℕ) × (m ≤ n) × DrawsOf s w T m b xs c) × Rest s w T (last c) ys d

  draws_none : (n : ℕ) (b : Book) (d : Book) → d ≡ b → DrawsFrom n b [] d
  draws_none n b d e = (b, [], [], refl, (0, omega arith, (refl, refl)), (refl, e))

  draws_from : (n : ℕ) (b : Book) (zs : List Entry) (d : Book) → Rest s w T (stage (runs (by_draw n)) b) zs d → DrawsFrom n b zs d
  draws_from n b [] d rest = draws_none n b d rest.1
  draws_from zero b (e ∷ es) d rest = let none = last-none b (e ∷ es) d rest in let no = none.0 in cc
  draws_from (suc n) b (e ∷ es) d rest =
      elim rest.1 [
        | inl is ↦ cc
        | inr m ↦
            let i = m.task in
            let less : suc n - 1 ≡ n = omega arith in
            let run : Rest s w T (stage (drawn i (suc n - 1)) b) es d = rw m.call at rest.2 in
            let one = (leads-drawn i n b).from es d (subst (λ k. Rest s w T (stage (drawn i k) b) es d) less run) in
            let two = draws_from n one.0 one.2 d one.5 in
            let entry : e ≡ record { caller = w; call = Draw (record { 0 = i }); reply = e.reply } = ap₂ (λ (k : CallerId) (c : Call). record { caller = k; call = c; reply = e.reply }) rest.0 m.call in
            let joined : e ∷ es ≡ (e ∷ (one.1 ++ two.1)) ++ two.2 = ap (λ zs. e ∷ zs) (one.3 ∙ (ap (λ xs. one.1 ++ xs) two.3 ∙ sym (append_assoc one.1 two.1 two.2))) in
            let le = two.4.1 in (
              two.0,
              e ∷ (one.1 ++ two.1),
              two.2,
              joined,
              (
                suc two.4.0,
                omega arith,
                (
                  i,
                  m.shared,
                  record {
                    first = e ∷ [];
                    second = one.1 ++ two.1;
                    between = b;
                    joined = refl;
                    front = record { reply = e.reply; rest = []; begins = ap (λ x. x ∷ []) entry; goes_on = (refl, refl) };
                    back = record { first = one.1; second = two.1; between = one.0; joined = refl; front = one.4; back = two.4.2 };
                  },
                ),
              ),
              two.5,
            )
      ]

  leads-draws : (b : Book) → Leads s w T (Draws s w T) b (stage (runs (by_draw s.depth)) b) last
  leads-draws b = record {
    to = λ c xs ys d p rest. draws_to p.0 s.depth b c xs ys d p.1 p.2 rest;
    from = λ zs d rest. draws_from s.depth b zs d rest;
  }

  -- ---- a turn

  leads-gets : (b : Book) → Leads s w T (Gets s w) b (begun s T b) (at_sweep s T)
  leads-gets b = leads-each s w T _ (at_gets s T) (range_with_len 0 (groups s)) b (λ g more c. leads-asks s w T _ _ c (stage (gets g more) c) (at_gets s T more) refl (λ r. leads-quiet s w T _ c (at_gets s T more)))

  abbrev WakesOne : ℕ → Part Book
  WakesOne i = Makes w (Wake (record { 0 = i }) timer) (λ r c. if is_rest r then queued s i c else c)

  leads-fires : (b : Book) → Leads s w T (Fires s w T) b (at_sweep s T b) (at_runs s)
  leads-fires b =
      leads-from s w T (λ old. Then (Quiet (λ c. record c { wait = swept T c.wait })) (Each WakesOne (fired T old.wait))) b (at_sweep s T b) (at_runs s)
      (leads-then s w T (Quiet (λ c. record c { wait = swept T c.wait })) (Each WakesOne (fired T b.wait)) b (at_sweep s T b) (at_wakes s (fired T b.wait)) (at_runs s)
      (leads-quiet s w T (λ (c : Book). record c { wait = swept T c.wait }) b (at_wakes s (fired T b.wait)))
      (λ c. leads-each s w T WakesOne (at_wakes s) (fired T b.wait) c (λ i more d. leads-asks s w T _ _ d (stage (wakes i more) d) (at_wakes s more) refl (λ r. leads-quiet s w T (λ e. if is_rest r then queued s i e else e) d (at_wakes s more)))))

  abbrev filled_at : Book → Stage
  filled_at b = stage (runs (by_class (quotas s.depth b.lists))) b

  leads-turn : (b : Book) → Leads s w T (Turn s w T) b (begun s T b) last
  leads-turn b =
      leads-then s w T _ _ b (begun s T b) (at_sweep s T) last (leads-gets b)
      (λ c. leads-then s w T _ _ c (at_sweep s T c) (at_runs s) last (leads-fires c)
      (λ d. leads-then s w T _ _ d (at_runs s d) filled_at last (leads-quiet s w T (filled s.depth) d filled_at)
      (λ e. leads-then s w T _ _ e (filled_at e) (on (by_draw s.depth)) last (leads-runs e) (λ f. leads-draws f))))

  pub rest-turn : (b : Book) (es : List Entry) (d : Book) → Turn s w T b es d → Rest s w T (begun s T b) es d
  rest-turn b es d turn =
      subst (λ (zs : List Entry). Rest s w T (begun s T b) zs d) (append-nil es) ((leads-turn b).to d es [] d turn (refl, refl))

  pub turn-rest : (b : Book) (es : List Entry) (d : Book) → Rest s w T (begun s T b) es d → Turn s w T b es d
  turn-rest b es d rest =
      let one = (leads-turn b).from es d rest in
      let end = last-none one.0 one.2 d one.5 in
      let e : es ≡ one.1 = one.3 ∙ (ap (λ zs. one.1 ++ zs) end.0 ∙ append-nil one.1) in
      subst (λ (c : Book). Turn s w T b es c) (sym end.1) (subst (λ (zs : List Entry). Turn s w T b zs one.0) (sym e) one.4)

-- ---- the injector

module _ (s : Script) (T : ℕ) (b : Book) where
  abbrev inj : CallerId
  inj = record { 0 = s.workers }

  leads-injected : (rest : Bool) (j : ℕ) (more : List Action) → Leads {B = Unit {0}} s inj T (Either rest (Posts inj j (home_of s j)) Nothing) (tt {0}) (injected rest j more b) (λ u. at_events more b)
  leads-injected true j more = leads-asks s inj T _ _ (tt {0}) (stage (carries j more) b) (λ u. at_events more b) refl (λ r. leads-quiet s inj T (λ (u : Unit {0}). u) (tt {0}) (λ u. at_events more b))
  leads-injected false j more = leads-quiet s inj T (λ (u : Unit {0}). u) (tt {0}) (λ u. at_events more b)

  leads-injects : (actions : List Action) → Leads {B = Unit {0}} s inj T (Each (Acts inj (λ i. Posts inj i (home_of s i))) actions) (tt {0}) (at_events actions b) (λ u. stage over b)
  leads-injects actions =
      leads-each s inj T (Acts inj (λ i. Posts inj i (home_of s i))) (λ more u. at_events more b) actions (tt {0})
      (λ a more u. leads-asks s inj T _ _ u (stage (injects a more) b) (λ v. at_events more b) refl (λ r. leads-injected (is_rest r) (target a) more))

  over-none : (ys : List Entry) (d : Book) → Rest s inj T (stage over b) ys d → (ys ≡ []) × (d ≡ b)
  over-none [] d rest = (refl, rest.1)
  over-none (e ∷ es) d rest =
      elim rest.1 [
        | inl is ↦ cc
        | inr m ↦ let some : 0 < 0 = m.some in absurd (omega arith)
      ]

pub rest-injects : (s : Script) (r T : ℕ) (b : Book) (es : List Entry) → Injects s r es → Rest s (record { 0 = s.workers }) T (injector s r b) es b
rest-injects s r T b es h =
    subst (λ (zs : List Entry). Rest s (record { 0 = s.workers }) T (injector s r b) zs b) (append-nil es) ((leads-injects s T b (actions_in s r)).to (tt {0}) es [] b h (refl, refl))

pub book-injects : (s : Script) (r T : ℕ) (b : Book) (es : List Entry) (d : Book) → Rest s (record { 0 = s.workers }) T (injector s r b) es d → d ≡ b
book-injects s r T b es d rest =
    let one = (leads-injects s T b (actions_in s r)).from es d rest in
    (over-none s T b one.2 d one.5).1

pub injects-rest : (s : Script) (r T : ℕ) (b : Book) (es : List Entry) (d : Book) → Rest s (record { 0 = s.workers }) T (injector s r b) es d → Injects s r es
injects-rest s r T b es d rest =
    let one = (leads-injects s T b (actions_in s r)).from es d rest in
    let end = over-none s T b one.2 d one.5 in
    let e : es ≡ one.1 = one.3 ∙ (ap (λ zs. one.1 ++ zs) end.0 ∙ append-nil one.1) in
    subst (λ (zs : List Entry). Injects s r zs) (sym e) one.4

pub turns : TurnsAreRests
turns s w T b es d = (rest-turn s w T b es d, turn-rest s w T b es d)

pub injects_all : InjectsAreRests
injects_all s r T b es = (rest-injects s r T b es, injects-rest s r T b es b)
