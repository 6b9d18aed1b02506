-- What the index tells of the logs (docs/WEAVE.md, "The index").
use Rattle.std.specs.Prelude.{◌≡◌, ◌≢◌, ℕ, suc, ◌+◌, ◌/◌, ◌<◌, ◌≤◌, Bool, true, List, ◌∷◌, take, length, slice_index, vec_len}
use Rattle.task_machine.specs.declared.calls.Entry.{Entry}
use Rattle.task_machine.specs.Logged.{Logged}
use Rattle.history_weave.specs.declared.index.Index.{Index}
use Rattle.history_weave.specs.Rule.{draws_in}
use Rattle.history_weave.specs.declared.kinds.Kind.{Kind}
use Rattle.history_weave.specs.Kinds.{looks_at, gathers_at, kind, kind_mark, KindNamed}
use Rattle.history_weave.specs.Places.{PlaceTable, place_at, none, next_place, log_at, entry_at, left_of, entry_count, sum_over}

-- how many groups so many tasks make
abbrev pub groups : ℕ → ℕ
groups n = (n + 63) / 64

-- in row r and column k the table has the place of the first entry left in log k that passes test r;
-- and the links of such entries have the place of the next one
pub record IsChain (f : ℕ → Entry → Bool) (rows callers : ℕ) (logs : List Logged) (next starts : List ℕ) (table : PlaceTable) (links : List ℕ) : Type 0 where
  pub firsts : (r k : ℕ) → r < rows → k < callers → place_at table r k ≡ next_place (f r) (log_at logs k) (slice_index next k)
  pub linked : (r k p : ℕ) (e : Entry) → r < rows → k < callers → slice_index next k ≤ p → p < length (log_at logs k) → f r (entry_at logs k p e) ≡ true → slice_index links (slice_index starts k + p) ≡ next_place (f r) (log_at logs k) (suc p)

-- how many tasks the index is for
abbrev pub tasks_of : Index → ℕ
tasks_of x = vec_len x.draws

-- the parts of the index are of the right sizes for so many callers
pub record HasShape (callers : ℕ) (x : Index) : Type 0 where
  pub look_rows : x.looks.rows ≡ tasks_of x
  pub look_columns : x.looks.columns ≡ callers
  pub mark_rows : x.marks.rows ≡ tasks_of x
  pub mark_columns : x.marks.columns ≡ callers
  pub get_rows : x.gets.rows ≡ groups (tasks_of x)
  pub get_columns : x.gets.columns ≡ callers
  pub starts_len : length x.starts.items ≡ callers
  pub next_len : length x.next.items ≡ callers
  pub draws_len : length x.draws.items ≡ tasks_of x

-- there are links, and marks beside them, for so many entries
pub record HasLinkRoom (entries : ℕ) (x : Index) : Type 0 where
  pub links : entries ≤ length x.links.items
  pub marks : entries ≤ length x.link_marks.items

-- there are as many links, and marks beside them, as there were
pub record HasAsManyLinks (x y : Index) : Type 0 where
  pub links : length y.links.items ≡ length x.links.items
  pub marks : length y.link_marks.items ≡ length x.link_marks.items

-- nothing is left
pub record IsClear (callers : ℕ) (x : Index) : Type 0 where
  pub shape : HasShape callers x
  pub looks : (i k : ℕ) → i < tasks_of x → k < callers → place_at x.looks i k ≡ none
  pub gets : (g k : ℕ) → g < groups (tasks_of x) → k < callers → place_at x.gets g k ≡ none
  pub draws : (i : ℕ) → i < tasks_of x → slice_index x.draws.items i ≡ 0

-- the links of a log stand behind those of the logs before it, and no more entries are left than the
-- log has
pub record IsLaidOut (logs : List Logged) (x : Index) : Type 0 where
  pub starts : (k : ℕ) → k < length logs → slice_index x.starts.items k ≡ entry_count (take k logs)
  pub room : HasLinkRoom (entry_count logs) x
  pub few : entry_count logs ≤ none
  pub within : (k : ℕ) → k < length logs → slice_index x.next.items k ≤ length (log_at logs k)

-- how many draws of task i are left
abbrev pub draws_left : List Logged → List ℕ → ℕ → ℕ
draws_left logs next i = sum_over (λ k. draws_in i (left_of logs next k)) 0 (length logs)

-- beside each place of a look stands the mark of the entry there
abbrev pub AreMarked : List Logged → PlaceTable → PlaceTable → Type 0
AreMarked logs looks marks =
    (i k : ℕ) (e : Entry) → i < looks.rows → k < looks.columns → place_at looks i k ≢ none → entry_at logs k (place_at looks i k) e ≡ e → place_at marks i k ≡ kind_mark (kind e.call e.reply)

-- beside the link of a look that is left stands the mark of the next look at the same task in that log
abbrev pub AreLinksMarked : ℕ → List Logged → List ℕ → List ℕ → List ℕ → Type 0
AreLinksMarked rows logs next starts marks =
    (i k p : ℕ) (d e : Entry) → i < rows → k < length logs → slice_index next k ≤ p → p < length (log_at logs k) → looks_at i (entry_at logs k p d) ≡ true → let later = next_place (looks_at i) (log_at logs k) (suc p) in later ≢ none → entry_at logs k later e ≡ e → slice_index marks (slice_index starts k + p) ≡ kind_mark (kind e.call e.reply)

-- the index tells of the logs, of which the entries are left that its own list says
pub record IsIndexed (logs : List Logged) (x : Index) : Type 0 where
  pub shape : HasShape (length logs) x
  pub layout : IsLaidOut logs x
  pub looks : IsChain looks_at (tasks_of x) (length logs) logs x.next.items x.starts.items x.looks x.links.items
  pub marked : AreMarked logs x.looks x.marks
  pub links_marked : AreLinksMarked (tasks_of x) logs x.next.items x.starts.items x.link_marks.items
  pub gets : IsChain gathers_at (groups (tasks_of x)) (length logs) logs x.next.items x.starts.items x.gets x.links.items
  pub draws : (i : ℕ) → i < tasks_of x → slice_index x.draws.items i ≡ draws_left logs x.next.items i

-- what the entries name is there: each has a kind that names what so many tasks and boxes have
abbrev pub AreNamed : List Logged → ℕ → Type 0
AreNamed logs n =
    (k p : ℕ) (e : Entry) → k < length logs → p < length (log_at logs k) → let d = entry_at logs k p e in KindNamed n (length logs) (kind d.call d.reply)

-- this is the kind of the first entry that is left of log k
abbrev pub IsNextKind : List Logged → List ℕ → ℕ → Kind → Type 0
IsNextKind logs next k κ =
    (e : Entry) × (es : List Entry) × (left_of logs next k ≡ e ∷ es) × (kind e.call e.reply ≡ κ)

-- the entries of log k are caller k's
abbrev pub AreOwn : List Logged → Type 0
AreOwn logs =
    (k p : ℕ) (e : Entry) → k < length logs → p < length (log_at logs k) → (entry_at logs k p e).caller.0 ≡ k
