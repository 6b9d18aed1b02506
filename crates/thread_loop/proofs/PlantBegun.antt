-- A plant before its first round, and one that begins a round.
use Rattle.std.proofs.Common.{◌≡◌, ℕ, suc, ◌*◌, ◌<◌, ◌≤◌, false, IsTrue, List, [], map, length, get_or, refl, sym, ap, subst, ◌∙◌, arith, ◌∷◌, vec_capacity}
use Rattle.std.proofs.lemmas.List.{length-replicate}
use Rattle.step_tables.specs.declared.tables.Script.{Script}
use Rattle.step_tables.specs.Nexts.{nexts_of}
use Rattle.step_tables.specs.Sound.{is_sound}
use Rattle.task_machine.specs.Step.{State}
use Rattle.queue_model.specs.Clock.{Window, behind}
use Rattle.run_model.specs.Book.{Book}
use Rattle.run_model.specs.Standing.{Standing, opening}
use Rattle.standing.specs.Between.{round_takes}
use Rattle.standing.specs.Firm.{Firm}
use Rattle.standing.proofs.Firm.{firm-opening}
use Rattle.wake_board.specs.Rows.{WordRow}
use Rattle.turn_steps.specs.Left.{asked}
use Rattle.wake_board.specs.Start.{no_holder, state_by}
use Rattle.wake_board.specs.Between.{StandBetween, FewTakes}
use Rattle.wake_board.specs.Ends.{Opens}
use Rattle.wake_board.proofs.Opens.{state-is, one_state}
use Rattle.thread_loop.specs.Boards.{IsSame}
use Rattle.thread_loop.specs.Idle.{book_now, IsIdle}
use Rattle.thread_loop.specs.Plants.{IsReady, IsRoomy, IsOpened, CanRun, standing_of, homes_of, nobody}
use Rattle.thread_loop.specs.Workers.{tick_of}
use Rattle.thread_loop.specs.declared.plant.Plant.{Plant}
use Rattle.thread_loop.specs.declared.plant.RoundInHand.{RoundInHand}
use Rattle.thread_loop.specs.declared.worker.Worker.{Worker}
use Rattle.thread_loop.proofs.Opened.{same_standing}
use Rattle.thread_loop.proofs.Over.{standing-state, standing-books}
use Rattle.thread_loop.proofs.Ran.{book-same}
use Rattle.thread_loop.proofs.Running.{few_takes}

-- ---- the first

-- the parts of a plant as they are made
pub record IsMade (s : Script) (p : Plant) : Type 0 where
  pub sound : IsTrue (is_sound s)
  pub stands : StandBetween p.words (homes_of s) (nobody s) (nexts_of s) (opening s).state
  pub homes : p.homes.items ≡ homes_of s
  pub holders : p.holders.items ≡ nobody s
  pub nexts : p.nexts ≡ nexts_of s
  pub count : length p.workers.items ≡ s.workers
  pub books : map book_now p.workers.items ≡ (opening s).books
  pub idle : (k : ℕ) (d : Worker) → k < s.workers → IsIdle s 0 k (opening s).state (get_or p.workers.items k d)
  pub queue : length p.queue.ranks ≡ length s.tasks
  pub logs : length p.logs.items ≡ suc s.workers
  pub tick : p.tick ≡ s.start
  pub ended : p.ended ≡ 0
  pub ran : p.ran ≡ false

made-stands : (s : Script) (p : Plant) → IsMade s p → StandBetween p.words p.homes.items p.holders.items p.nexts (opening s).state
made-stands s p made = subst (λ (ns : List (List ℕ)). StandBetween p.words p.homes.items p.holders.items ns (opening s).state) (sym made.nexts) (subst (λ (hs : List ℕ). StandBetween p.words p.homes.items hs (nexts_of s) (opening s).state) (sym made.holders) (subst (λ (hs : List ℕ). StandBetween p.words hs (nobody s) (nexts_of s) (opening s).state) (sym made.homes) made.stands))

pub opens : (s : Script) (p : Plant) → IsMade s p → standing_of p ≡ opening s
opens s p made =
    let state : (standing_of p).state ≡ (opening s).state = standing-state p ∙ sym (state-is p.words p.homes.items p.holders.items p.nexts (opening s).state (made-stands s p made)) in
    same_standing s (standing_of p).state (standing_of p).books state (standing-books p ∙ made.books)

pub ready-first : (s : Script) (p : Plant) → IsMade s p → IsReady s 0 p
ready-first s p made =
    let same = sym (opens s p made) in
    let none : 0 ≡ 0 * round_takes s = omega arith in
    record {
      sound = made.sound;
      holds = record {
        stands = subst (λ (st : Standing). StandBetween p.words p.homes.items p.holders.items p.nexts st.state) same (made-stands s p made);
        homes = made.homes;
        nexts = made.nexts;
        count = made.count;
        logs = made.logs;
        holders = ap (λ (hs : List ℕ). length hs) made.holders ∙ length-replicate (length s.tasks) no_holder;
        queue = made.queue;
      };
      firm = subst (λ (n : ℕ). Firm s p.tick n (standing_of p)) none (subst (λ (st : Standing). Firm s p.tick 0 st) same (subst (λ (T : ℕ). Firm s T 0 (opening s)) (sym made.tick) (firm-opening s made.sound)));
      idle = λ k d lt. subst (λ (st : Standing). IsIdle s 0 k st.state (get_or p.workers.items k d)) same (made.idle k d lt);
      ended = made.ended;
      ran = made.ran;
    }

-- ---- with room for a round

-- nothing changed but the room of the logs
pub record IsLike (p q : Plant) : Type 0 where
  pub count : length q.workers.items ≡ length p.workers.items
  pub same : (k : ℕ) (d : Worker) → k < length p.workers.items → IsSame (get_or p.workers.items k d) (get_or q.workers.items k d)
  pub words : q.words ≡ p.words
  pub homes : q.homes.items ≡ p.homes.items
  pub holders : q.holders.items ≡ p.holders.items
  pub nexts : q.nexts ≡ p.nexts
  pub queue : length q.queue.ranks ≡ length p.queue.ranks
  pub logs : length q.logs.items ≡ length p.logs.items
  pub tick : q.tick ≡ p.tick
  pub ended : q.ended ≡ p.ended
  pub ran : q.ran ≡ p.ran

same_books : (ws vs : List Worker) → length vs ≡ length ws → ((k : ℕ) (d : Worker) → k < length ws → IsSame (get_or ws k d) (get_or vs k d)) → map book_now vs ≡ map book_now ws
same_books [] [] n h = refl
same_books [] (v ∷ vs) n h = absurd (omega arith)
same_books (w ∷ ws) [] n h = absurd (omega arith)
same_books (w ∷ ws) (v ∷ vs) n h =
    let here = book-same w v (h 0 w (omega arith)) in
    let later = same_books ws vs (omega arith) (λ k d lt. h (suc k) d (omega arith)) in
    ap (λ (b : Book). b ∷ map book_now vs) here ∙ ap (λ (bs : List Book). book_now w ∷ bs) later

pub standing-like : (p q : Plant) → IsLike p q → standing_of q ≡ standing_of p
unfolding standing_of
standing-like p q like =
    let books = same_books p.workers.items q.workers.items like.count like.same in
    ap (λ (ws : WordRow). let st : Standing = record { state = state_by ws q.homes.items q.holders.items; books = map book_now q.workers.items } in st) like.words
    ∙ ap (λ (hs : List ℕ). let st : Standing = record { state = state_by p.words hs q.holders.items; books = map book_now q.workers.items } in st) like.homes
    ∙ ap (λ (hs : List ℕ). let st : Standing = record { state = state_by p.words p.homes.items hs; books = map book_now q.workers.items } in st) like.holders
    ∙ ap (λ (bs : List Book). let st : Standing = record { state = state_by p.words p.homes.items p.holders.items; books = bs } in st) books

idle-same : (s : Script) (r k : ℕ) (m : State) (w v : Worker) → IsSame w v → IsIdle s r k m w → IsIdle s r k m v
idle-same s r k m w v same h = record {
  fits = same.fits s h.fits;
  number = same.number ∙ h.number;
  turns = same.turns ∙ h.turns;
  over = ap (asked s) (same.stage s) ∙ h.over;
  window = subst (λ (T : ℕ). Window behind T (book_now v).wait) (sym same.tick) (subst (λ (b : Book). Window behind (tick_of w) b.wait) (sym (book-same w v same)) h.window);
  takes = λ i home live. same.takes i ∙ h.takes i home live;
}

pub ready-like : (s : Script) (r : ℕ) (p q : Plant) → IsLike p q → IsReady s r p → IsReady s r q
ready-like s r p q like h =
    let same = sym (standing-like p q like) in
    let stands = h.holds.stands in
    record {
      sound = h.sound;
      holds = record {
        stands = subst (λ (st : Standing). StandBetween q.words q.homes.items q.holders.items q.nexts st.state) same (subst (λ (ns : List (List ℕ)). StandBetween q.words q.homes.items q.holders.items ns (standing_of p).state) (sym like.nexts) (subst (λ (hs : List ℕ). StandBetween q.words q.homes.items hs p.nexts (standing_of p).state) (sym like.holders) (subst (λ (hs : List ℕ). StandBetween q.words hs p.holders.items p.nexts (standing_of p).state) (sym like.homes) (subst (λ (ws : WordRow). StandBetween ws p.homes.items p.holders.items p.nexts (standing_of p).state) (sym like.words) stands))));
        homes = like.homes ∙ h.holds.homes;
        nexts = like.nexts ∙ h.holds.nexts;
        count = like.count ∙ h.holds.count;
        logs = like.logs ∙ h.holds.logs;
        holders = ap (λ (hs : List ℕ). length hs) like.holders ∙ h.holds.holders;
        queue = like.queue ∙ h.holds.queue;
      };
      firm = subst (λ (T : ℕ). Firm s T (r * round_takes s) (standing_of q)) (sym like.tick) (subst (λ (st : Standing). Firm s p.tick (r * round_takes s) st) same h.firm);
      idle = λ k d lt. subst (λ (st : Standing). IsIdle s r k st.state (get_or q.workers.items k d)) same (idle-same s r k (standing_of p).state (get_or p.workers.items k d) (get_or q.workers.items k d) (like.same k d (omega (arith, h.holds.count))) (h.idle k d lt));
      ended = like.ended ∙ h.ended;
      ran = like.ran ∙ h.ran;
    }

-- ---- a board is opened

pub can-open : (s : Script) (r : ℕ) (p : Plant) → IsReady s r p → r < s.rounds → (m : State) × StandBetween p.words p.homes.items p.holders.items p.nexts m × FewTakes p.homes.items m
can-open s r p ready more = ((standing_of p).state, ready.holds.stands, λ i exists shared live. few_takes s r i p ready more)

pub opened : (s : Script) (r : ℕ) (p : Plant) (h : RoundInHand) → IsReady s r p → Opens p.words p.homes.items p.holders.items p.nexts h.board h.passes → h.out.items ≡ [] → length p.logs.items ≤ vec_capacity h.out → IsOpened s (standing_of p) h
opened s r p h ready o empty room =
    let stands = ready.holds.stands in
    let workers : p.words.workers ≡ s.workers = sym stands.workers ∙ ready.firm.places.workers in
    record {
      state = one_state p.words p.homes.items p.holders.items p.nexts h.board.start.state (standing_of p).state o.stands stands;
      homes = o.homes_are ∙ ready.holds.homes;
      nexts = o.nexts_are ∙ ready.holds.nexts;
      count = o.count ∙ ap suc workers;
      each = λ k le. o.each k (omega arith);
      empty = empty;
      room = omega (arith, ready.holds.logs);
    }

pub can-open-by : (s : Script) (r : ℕ) (p : Plant) (ws : WordRow) (hs ks : List ℕ) → ws ≡ p.words → hs ≡ p.homes.items → ks ≡ p.holders.items → IsReady s r p → r < s.rounds → (m : State) × StandBetween ws hs ks p.nexts m × FewTakes hs m
can-open-by s r p ws hs ks a b c ready more =
    subst (λ (x : WordRow). (m : State) × StandBetween x hs ks p.nexts m × FewTakes hs m) (sym a) (subst (λ (xs : List ℕ). (m : State) × StandBetween p.words xs ks p.nexts m × FewTakes xs m) (sym b) (subst (λ (xs : List ℕ). (m : State) × StandBetween p.words p.homes.items xs p.nexts m × FewTakes p.homes.items m) (sym c) (can-open s r p ready more)))

pub opened-by : (s : Script) (r : ℕ) (p : Plant) (h : RoundInHand) (ws : WordRow) (hs ks : List ℕ) → ws ≡ p.words → hs ≡ p.homes.items → ks ≡ p.holders.items → IsReady s r p → r < s.rounds → IsRoomy s r p → Opens ws hs ks p.nexts h.board h.passes → h.out.items ≡ [] → length p.logs.items ≤ vec_capacity h.out → CanRun s r p h
opened-by s r p h ws hs ks a b c ready more roomy o empty room = record {
  ready = ready;
  more = more;
  roomy = roomy;
  opened = opened s r p h ready (subst (λ (x : WordRow). Opens x p.homes.items p.holders.items p.nexts h.board h.passes) a (subst (λ (xs : List ℕ). Opens ws xs p.holders.items p.nexts h.board h.passes) b (subst (λ (xs : List ℕ). Opens ws hs xs p.nexts h.board h.passes) c o))) empty room;
}
