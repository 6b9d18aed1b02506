-- Turns of some workers, cut into two runs.
use Rattle.std.proofs.Common.{◌≡◌, ℕ, zero, suc, ◌<◌, List, [], ◌∷◌, ◌++◌, take, drop, set, length, get_or, refl, sym, ap, subst, arith}
use Rattle.task_machine.specs.declared.calls.Entry.{Entry}
use Rattle.sched_base.specs.declared.names.CallerId.{CallerId}
use Rattle.step_tables.specs.declared.tables.Script.{Script}
use Rattle.run_model.specs.Book.{Book}
use Rattle.run_model.specs.Turn.{Turn}
use Rattle.wake_board.specs.Seen.{Held, Laid}
use Rattle.thread_loop.specs.Boards.{HasListed, IsOwn}
use Rattle.thread_loop.specs.Idle.{book_now}
use Rattle.thread_loop.specs.Plants.{HasTurned, AllCanTurn, AllTurned}
use Rattle.thread_loop.specs.Workers.{number_of, tick_of, book_at_tick}
use Rattle.thread_loop.specs.declared.worker.Worker.{Worker}

pub as-many : (s : Script) (T : ℕ) (b : Laid) (ws : List Worker) (ps : List Held) → AllCanTurn s T b ws ps → length ps ≡ length ws
as-many s T b [] [] h = refl
as-many s T b (w ∷ ws) (p ∷ ps) h = ap suc (as-many s T b ws ps h.1)
as-many s T b (w ∷ ws) [] h = absurd h
as-many s T b [] (p ∷ ps) h = absurd h

pub can-front : (s : Script) (T : ℕ) (b : Laid) (k : ℕ) (ws : List Worker) (ps : List Held) → AllCanTurn s T b ws ps → AllCanTurn s T b (take k ws) (take k ps)
can-front s T b zero ws ps h = tt
can-front s T b (suc k) [] [] h = tt
can-front s T b (suc k) (w ∷ ws) (p ∷ ps) h = (h.0, can-front s T b k ws ps h.1)
can-front s T b (suc k) (w ∷ ws) [] h = absurd h
can-front s T b (suc k) [] (p ∷ ps) h = absurd h

pub can-back : (s : Script) (T : ℕ) (b : Laid) (k : ℕ) (ws : List Worker) (ps : List Held) → AllCanTurn s T b ws ps → AllCanTurn s T b (drop k ws) (drop k ps)
can-back s T b zero ws ps h = h
can-back s T b (suc k) [] [] h = tt
can-back s T b (suc k) (w ∷ ws) (p ∷ ps) h = can-back s T b k ws ps h.1
can-back s T b (suc k) (w ∷ ws) [] h = absurd h
can-back s T b (suc k) [] (p ∷ ps) h = absurd h

pub turned-both : (s : Script) (T : ℕ) (ws : List Worker) (ps : List Held) (vs : List Worker) (qs : List Held) (ws2 : List Worker) (ps2 : List Held) (vs2 : List Worker) (qs2 : List Held) → AllTurned s T ws ps vs qs → AllTurned s T ws2 ps2 vs2 qs2 → AllTurned s T (ws ++ ws2) (ps ++ ps2) (vs ++ vs2) (qs ++ qs2)
turned-both s T [] [] [] [] ws2 ps2 vs2 qs2 h more = more
turned-both s T (w ∷ ws) (p ∷ ps) (v ∷ vs) (q ∷ qs) ws2 ps2 vs2 qs2 h more = (h.0, turned-both s T ws ps vs qs ws2 ps2 vs2 qs2 h.1 more)
turned-both s T (w ∷ ws) [] vs qs ws2 ps2 vs2 qs2 h more = absurd h
turned-both s T [] (p ∷ ps) vs qs ws2 ps2 vs2 qs2 h more = absurd h
turned-both s T [] [] (v ∷ vs) qs ws2 ps2 vs2 qs2 h more = absurd h
turned-both s T [] [] [] (q ∷ qs) ws2 ps2 vs2 qs2 h more = absurd h
turned-both s T (w ∷ ws) (p ∷ ps) [] qs ws2 ps2 vs2 qs2 h more = absurd h
turned-both s T (w ∷ ws) (p ∷ ps) (v ∷ vs) [] ws2 ps2 vs2 qs2 h more = absurd h

pub turned-halves : (s : Script) (T : ℕ) (ws : List Worker) (ps : List Held) (front : List Worker) (left : List Held) (back : List Worker) (right : List Held) (vs : List Worker) (qs : List Held) (vs2 : List Worker) (qs2 : List Held) → ws ≡ front ++ back → ps ≡ left ++ right → AllTurned s T front left vs qs → AllTurned s T back right vs2 qs2 → AllTurned s T ws ps (vs ++ vs2) (qs ++ qs2)
turned-halves s T ws ps front left back right vs qs vs2 qs2 workers passes h more =
    subst (λ (xs : List Worker). AllTurned s T xs ps (vs ++ vs2) (qs ++ qs2)) (sym workers)
    (subst (λ (ys : List Held). AllTurned s T (front ++ back) ys (vs ++ vs2) (qs ++ qs2)) (sym passes)
    (turned-both s T front left vs qs back right vs2 qs2 h more))

-- ---- one worker

pub turned-one : (s : Script) (T : ℕ) (b : Laid) (ws : List Worker) (ps : List Held) (d : Worker) (e : Held) (v : Worker) (q : Held) → AllCanTurn s T b ws ps → length ws ≡ 1 → HasTurned s T (get_or ws 0 d) (get_or ps 0 e) v q → AllTurned s T ws ps (set ws 0 v) (set ps 0 q)
turned-one s T b [] ps d e v q h one turned = absurd (omega arith)
turned-one s T b (x ∷ ws) [] d e v q h one turned = absurd h
turned-one s T b (x ∷ []) (y ∷ []) d e v q h one turned = (turned, tt)
turned-one s T b (x ∷ []) (y ∷ z ∷ ps) d e v q h one turned = absurd h.1
turned-one s T b (x ∷ z ∷ ws) (y ∷ ps) d e v q h one turned = absurd (omega arith)

pub book-any : (T : ℕ) (ws : List Worker) (d e : Worker) → 0 < length ws → book_at_tick T (get_or ws 0 d) ≡ book_now (get_or ws 0 d) → book_at_tick T (get_or ws 0 e) ≡ book_now (get_or ws 0 e)
book-any T [] d e some h = absurd (omega arith)
book-any T (w ∷ ws) d e some h = h

pub turn-now : (s : Script) (k : CallerId) (T : ℕ) (w v : Worker) (es : List Entry) → book_at_tick T w ≡ book_now w → tick_of v ≡ T → Turn s k T (book_at_tick T w) es (book_at_tick T v) → Turn s k T (book_now w) es (book_now v)
turn-now s k T w v es book tick turn =
    subst (λ (b : Book). Turn s k T b es (book_now v)) book (subst (λ (n : ℕ). Turn s k T (book_at_tick T w) es (book_at_tick n v)) (sym tick) turn)

pub listed-now : (T : ℕ) (v : Worker) (q : Held) → tick_of v ≡ T → HasListed (book_at_tick T v) q → HasListed (book_now v) q
listed-now T v q tick h = subst (λ (n : ℕ). HasListed (book_at_tick n v) q) (sym tick) h

pub own-now : (s : Script) (T : ℕ) (v : Worker) → tick_of v ≡ T → IsOwn s (number_of v) (book_at_tick T v) → IsOwn s (number_of v) (book_now v)
own-now s T v tick h = subst (λ (n : ℕ). IsOwn s (number_of v) (book_at_tick n v)) (sym tick) h
