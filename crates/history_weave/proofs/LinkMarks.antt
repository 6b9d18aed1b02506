-- The marks beside the links, when an entry is entered into the index or leaves it.
use Rattle.std.proofs.Common.{◌≡◌, ◌≢◌, ℕ, suc, ◌+◌, ◌<◌, ◌≤◌, Bool, true, List, length, get_or, set, refl, sym, ap, ◌∙◌, inl, inr, arith}
use Rattle.std.proofs.lemmas.Bool.{cases_eq}
use Rattle.std.proofs.lemmas.List.{get_or-set_same, get_or-set_other}
use Rattle.task_machine.specs.declared.task.Seen.{Seen}
use Rattle.task_machine.specs.declared.calls.Entry.{Entry}
use Rattle.task_machine.specs.Logged.{Logged}
use Rattle.history_weave.specs.declared.index.Index.{Index}
use Rattle.history_weave.specs.declared.kinds.Kind.TheVariants as kinds
use Rattle.history_weave.specs.Kinds.{kind, kind_mark, looks_at}
use Rattle.history_weave.specs.Places.{entry_at, place_at, none, next_place, log_at}
use Rattle.history_weave.specs.Indexed.{tasks_of, AreLinksMarked, IsIndexed}
use Rattle.history_weave.proofs.Chains.{Stands, Links_apart, Passes_none, entry_any, links_kept}
use Rattle.history_weave.proofs.KindEvents.{look-passes}

-- the mark that belongs beside the link of an entry that stands there
abbrev Belongs : List Logged → ℕ → ℕ → ℕ → ℕ → Type 0
Belongs logs k p i n =
    (d : Entry) → let later = next_place (looks_at i) (log_at logs k) (suc p) in later ≢ none → entry_at logs k later d ≡ d → n ≡ kind_mark (kind d.call d.reply)

-- one entry more is left; the marks beside the links of all others stay
marks-enter : (rows : ℕ) (logs : List Logged) (next starts marks ms : List ℕ) (k p : ℕ) (e : Entry) → AreLinksMarked rows logs next starts marks → Stands (length logs) logs k p e → length next ≡ length logs → get_or next k 0 ≡ suc p → ((j q : ℕ) → j < length logs → q < length (log_at logs j) → (j ≡ k → q ≡ p → ⊥) → get_or ms (get_or starts j 0 + q) 0 ≡ get_or marks (get_or starts j 0 + q) 0) → ((i : ℕ) → i < rows → looks_at i e ≡ true → Belongs logs k p i (get_or ms (get_or starts k 0 + p) 0)) → AreLinksMarked rows logs (set next k p) starts ms
marks-enter rows logs next starts marks ms k p e c s n m kept here i j q d f li lj from lq hit ne stands =
    elim (cases_eq j k) [
      | inl same ↦ elim (cases_eq q p) [
        | inl place ↦
            let passes : looks_at i e ≡ true = sym (ap (looks_at i) (entry_any (length logs) logs k p e d s)) ∙ (rw (same, place) at hit) in
            rw (same, place) (here i li passes f (rw (same, place) at ne) (rw (same, place) at stands))
        | inr away ↦
            let first : get_or (set next k p) k 0 ≡ p = get_or-set_same next k p 0 (let l = s.caller in omega arith) in
            let low : get_or (set next k p) k 0 ≤ q = rw same at from in
            let on : get_or next j 0 ≤ q = rw (same, m) (omega arith) in
            kept j q lj lq (λ a b. away b) ∙ c i j q d f li lj on lq hit ne stands
      ]
      | inr other ↦
          let on : get_or next j 0 ≤ q = rw (get_or-set_other next k j p 0 other) at from in
          kept j q lj lq (λ a b. other a) ∙ c i j q d f li lj on lq hit ne stands
    ]

-- a look is entered, and beside its link the mark that its task had in its log
pub marks_enter-look : (logs : List Logged) (x : Index) (k p t : ℕ) (saw : Seen) (q : Bool) (e : Entry) → IsIndexed logs x → Stands (length logs) logs k p e → get_or x.next.items k 0 ≡ suc p → kind e.call e.reply ≡ kinds.Look t saw q → t < tasks_of x → Links_apart (length logs) logs x.starts.items k p → get_or x.starts.items k 0 + p < length x.link_marks.items → AreLinksMarked (tasks_of x) logs (set x.next.items k p) x.starts.items (set x.link_marks.items (get_or x.starts.items k 0 + p) (place_at x.marks t k))
marks_enter-look logs x k p t saw q e ix s m h lt apart within =
    let cell = get_or x.starts.items k 0 + p in
    let mk = place_at x.marks t k in
    let next : place_at x.looks t k ≡ next_place (looks_at t) (log_at logs k) (suc p) = ix.looks.firsts t k lt s.caller ∙ ap (next_place (looks_at t) (log_at logs k)) m in
    let row : t < x.looks.rows = rw ix.shape.look_rows lt in
    let column : k < x.looks.columns = rw ix.shape.look_columns s.caller in
    let here : (i : ℕ) → i < tasks_of x → looks_at i e ≡ true → Belongs logs k p i (get_or (set x.link_marks.items cell mk) cell 0) =
    λ i li hit d ne stands. elim (cases_eq i t) [
      | inl same ↦
          let there : place_at x.looks t k ≢ none = λ none_left. (let later : next_place (looks_at t) (log_at logs k) (suc p) ≢ none = rw same at ne in later (sym next ∙ none_left)) in
          let found : entry_at logs k (place_at x.looks t k) d ≡ d = rw next (rw same at stands) in
          get_or-set_same x.link_marks.items cell mk 0 within ∙ ix.marked t k d row column there found
      | inr away ↦ absurd (let miss = (look-passes t saw q e h).1 i away in cc)
    ] in
    marks-enter (tasks_of x) logs x.next.items x.starts.items x.link_marks.items (set x.link_marks.items cell mk) k p e ix.links_marked s ix.shape.next_len m (links_kept (length logs) logs x.starts.items x.link_marks.items k p mk apart) here

-- an entry is entered that is no look
pub marks_enter-miss : (logs : List Logged) (x : Index) (k p : ℕ) (e : Entry) → IsIndexed logs x → Stands (length logs) logs k p e → get_or x.next.items k 0 ≡ suc p → Passes_none looks_at e → AreLinksMarked (tasks_of x) logs (set x.next.items k p) x.starts.items x.link_marks.items
marks_enter-miss logs x k p e ix s m miss =
    marks-enter (tasks_of x) logs x.next.items x.starts.items x.link_marks.items x.link_marks.items k p e ix.links_marked s ix.shape.next_len m (λ j q lj lq ne. refl) (λ i li hit. absurd (let none_passes = miss i in cc))

-- an entry leaves
pub marks_leave : (logs : List Logged) (x : Index) (k p : ℕ) (e : Entry) → IsIndexed logs x → Stands (length logs) logs k p e → get_or x.next.items k 0 ≡ p → AreLinksMarked (tasks_of x) logs (set x.next.items k (suc p)) x.starts.items x.link_marks.items
marks_leave logs x k p e ix s m i j q d f li lj from lq hit ne stands =
    elim (cases_eq j k) [
      | inl same ↦
          let low : get_or (set x.next.items k (suc p)) k 0 ≤ q = rw same at from in
          let first : get_or (set x.next.items k (suc p)) k 0 ≡ suc p = get_or-set_same x.next.items k (suc p) 0 (let l = s.caller in let n = ix.shape.next_len in omega arith) in
          let on : get_or x.next.items j 0 ≤ q = rw (same, m) (omega arith) in ix.links_marked i j q d f li lj on lq hit ne stands
      | inr other ↦
          let on : get_or x.next.items j 0 ≤ q = rw (get_or-set_other x.next.items k j (suc p) 0 other) at from in
          ix.links_marked i j q d f li lj on lq hit ne stands
    ]

-- the mark beside the link of a look that leaves is that of the look to which the link leads
pub mark_of_link : (logs : List Logged) (x : Index) (k p t : ℕ) (saw : Seen) (q : Bool) (e : Entry) (v mk : ℕ) → IsIndexed logs x → Stands (length logs) logs k p e → get_or x.next.items k 0 ≡ p → kind e.call e.reply ≡ kinds.Look t saw q → t < tasks_of x → v ≡ get_or x.links.items (get_or x.starts.items k 0 + p) 0 → mk ≡ get_or x.link_marks.items (get_or x.starts.items k 0 + p) 0 → (d : Entry) → v ≢ none → entry_at logs k v d ≡ d → mk ≡ kind_mark (kind d.call d.reply)
mark_of_link logs x k p t saw q e v mk ix s m h lt read marked d ne stands =
    let hit : looks_at t (entry_at logs k p e) ≡ true = rw s.entry (look-passes t saw q e h).0 in
    let from : get_or x.next.items k 0 ≤ p = omega arith in
    let on : v ≡ next_place (looks_at t) (log_at logs k) (suc p) = read ∙ ix.looks.linked t k p e lt s.caller from s.within hit in
    let there : next_place (looks_at t) (log_at logs k) (suc p) ≢ none = λ n. ne (on ∙ n) in
    marked ∙ ix.links_marked t k p e d lt s.caller from s.within hit there (rw on at stands)
