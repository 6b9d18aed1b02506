-- The readers of the parts: each reads what its part allows, and nothing else.
use Rattle.std.proofs.Common.{◌≡◌, ℕ, ◌==◌, ◌&&◌, Bool, true, false, List, [], ◌∷◌, ◌++◌, Option, None, Some, option_and_then, refl, sym, ap, ap₂, ◌∙◌, append_assoc, append-nil, eqb-true, eq-eqb}
use Rattle.sched_base.specs.declared.names.CallerId.{CallerId}
use Rattle.task_machine.specs.declared.calls.Call.{Call}
use Rattle.task_machine.specs.declared.calls.Call.TheVariants.{Wake, Kill, Post, Get, Draw, Take, DropRun, Retire}
use Rattle.task_machine.specs.declared.calls.Reply.{Reply}
use Rattle.task_machine.specs.declared.calls.Entry.{Entry}
use Rattle.run_model.specs.Parts.{Part, Quiet, Nothing, Then, Asks, Makes, Either, From, Each}
use Rattle.run_model.specs.Reader.{Got, Reader, quietly, nothing, in_turn, same_call, if_asked, asking, making, either, from_book, one_each}

-- the entries begin with those of a part, and the reader took these
pub record Took {B : Type 0} (P : Part B) (b : B) (es : List Entry) (g : Got B) : Type 0 where
  pub front : List Entry
  pub joined : es ≡ front ++ g.rest
  pub held : P b front g.new

-- what the reader takes is of the part, and it takes what is of the part
pub record Reads {B : Type 0} (P : Part B) (r : Reader B) : Type 0 where
  pub sound : (b : B) (es : List Entry) (g : Got B) → r b es ≡ Some g → Took P b es g
  pub whole : (b : B) (xs : List Entry) (c : B) (rest : List Entry) → P b xs c → r b (xs ++ rest) ≡ Some (record { new = c; rest = rest })

-- the same of a part that comes last: it takes what is of the part where nothing follows
pub record ReadsLast {B : Type 0} (P : Part B) (r : Reader B) : Type 0 where
  pub sound : (b : B) (es : List Entry) (g : Got B) → r b es ≡ Some g → Took P b es g
  pub whole : (b : B) (xs : List Entry) (c : B) → P b xs c → r b xs ≡ Some (record { new = c; rest = [] })

pub some_inj : {A : Type 0} (x y : A) → Some x ≡ Some y → x ≡ y
some_inj x y e = cc

-- both tests of a conjunction that is true
pub both : (a b : Bool) → (a && b) ≡ true → (a ≡ true) × (b ≡ true)
both true true e = (refl, refl)
both true false e = cc
both false b e = cc

-- where a chain of two gives a value, the first gave one and the second made this of it
pub chained : {A C : Type 0} (f : A → Option C) (o : Option A) (c : C) → option_and_then f o ≡ Some c → (x : A) × (o ≡ Some x) × (f x ≡ Some c)
chained f None c e = cc
chained f (Some x) c e = (x, refl, e)

pub reads-quiet : {B : Type 0} (f : B → B) → Reads (Quiet f) (quietly f)
reads-quiet {B} f = record {
  sound = λ b es g e.
      let h : record { new = f b; rest = es } ≡ g = some_inj _ _ e in
      record { front = []; joined = ap (λ (k : Got B). k.rest) h; held = (refl, sym (ap (λ (k : Got B). k.new) h)) };
  whole = λ b xs c rest p. rw (p.0, p.1) refl;
}

pub reads-nothing : {B : Type 0} → Reads {B = B} Nothing nothing
reads-nothing = reads-quiet _

pub then_sound : {B : Type 0} (P Q : Part B) (r q : Reader B) → ((b : B) (es : List Entry) (g : Got B) → r b es ≡ Some g → Took P b es g) → ((b : B) (es : List Entry) (g : Got B) → q b es ≡ Some g → Took Q b es g) → (b : B) (es : List Entry) (g : Got B) → in_turn r q b es ≡ Some g → Took (Then P Q) b es g
then_sound {B} P Q r q hr hq b es g e =
    let x = chained (λ (k : Got B). q k.new k.rest) (r b es) g e in
    let one = hr b es x.0 x.1 in
    let two = hq x.0.new x.0.rest g x.2 in
    record {
      front = one.front ++ two.front;
      joined = one.joined ∙ (ap (λ zs. one.front ++ zs) two.joined ∙ sym (append_assoc one.front two.front g.rest));
      held = record { first = one.front; second = two.front; between = x.0.new; joined = refl; front = one.held; back = two.held };
    }

-- two readers in turn read what each of them reads
pub joined_read : {B : Type 0} (r q : Reader B) (b : B) (xs first second : List Entry) (between c : B) (rest : List Entry) → xs ≡ first ++ second → r b (first ++ (second ++ rest)) ≡ Some (record { new = between; rest = second ++ rest }) → q between (second ++ rest) ≡ Some (record { new = c; rest = rest }) → in_turn r q b (xs ++ rest) ≡ Some (record { new = c; rest = rest })
joined_read {B} r q b xs first second between c rest joined one two =
    let k = λ (o : Option (Got B)). option_and_then (λ g. q g.new g.rest) o in
    let e : xs ++ rest ≡ first ++ (second ++ rest) = ap (λ zs. zs ++ rest) joined ∙ append_assoc first second rest in
    ap (λ zs. k (r b zs)) e ∙ (ap k one ∙ two)

then_whole : {B : Type 0} (P Q : Part B) (r q : Reader B) → Reads P r → Reads Q q → (b : B) (xs : List Entry) (c : B) (rest : List Entry) → Then P Q b xs c → in_turn r q b (xs ++ rest) ≡ Some (record { new = c; rest = rest })
then_whole P Q r q hr hq b xs c rest p =
    joined_read r q b xs p.first p.second p.between c rest p.joined (hr.whole b p.first p.between (p.second ++ rest) p.front) (hq.whole p.between p.second c rest p.back)

pub reads-then : {B : Type 0} (P Q : Part B) (r q : Reader B) → Reads P r → Reads Q q → Reads (Then P Q) (in_turn r q)
reads-then P Q r q hr hq = record { sound = then_sound P Q r q hr.sound hq.sound; whole = then_whole P Q r q hr hq }

-- the same where nothing follows
pub joined_last : {B : Type 0} (r q : Reader B) (b : B) (xs first second : List Entry) (between c : B) → xs ≡ first ++ second → r b (first ++ second) ≡ Some (record { new = between; rest = second }) → q between second ≡ Some (record { new = c; rest = [] }) → in_turn r q b xs ≡ Some (record { new = c; rest = [] })
joined_last {B} r q b xs first second between c joined one two =
    let k = λ (o : Option (Got B)). option_and_then (λ g. q g.new g.rest) o in
    ap (λ zs. k (r b zs)) joined ∙ (ap k one ∙ two)

pub reads-last : {B : Type 0} (P Q : Part B) (r q : Reader B) → Reads P r → ReadsLast Q q → ReadsLast (Then P Q) (in_turn r q)
reads-last P Q r q hr hq = record {
  sound = then_sound P Q r q hr.sound hq.sound;
  whole = λ b xs c p. joined_last r q b xs p.first p.second p.between c p.joined (hr.whole b p.first p.between p.second p.front) (hq.whole p.between p.second c p.back);
}

pub last-reads : {B : Type 0} (P : Part B) (r : Reader B) → Reads P r → ReadsLast P r
last-reads {B} P r h = record {
  sound = h.sound;
  whole = λ b xs c p. ap (λ zs. r b zs) (sym (append-nil xs)) ∙ h.whole b xs c [] p;
}

-- a change of the book after the last part
pub reads-quiet_last : {B : Type 0} (P : Part B) (r : Reader B) (f : B → B) → ReadsLast P r → ReadsLast (Then P (Quiet f)) (in_turn r (quietly f))
reads-quiet_last {B} P r f h = record {
  sound = then_sound P (Quiet f) r (quietly f) h.sound (reads-quiet f).sound;
  whole = λ b xs c p.
      let at : xs ≡ p.first = p.joined ∙ (ap (λ zs. p.first ++ zs) p.back.0 ∙ append-nil p.first) in
      let k = λ (o : Option (Got B)). option_and_then (λ g. quietly f g.new g.rest) o in
      ap (λ zs. k (r b zs)) at ∙ (ap k (h.whole b p.first p.between p.front) ∙ ap (λ d. Some (record { new = d; rest = [] })) (sym p.back.1));
}

pub same_call_true : (c d : Call) → same_call c d ≡ true → c ≡ d
same_call_true (Wake i f) (Wake j g) e = let h = both _ _ e in ap₂ (λ n m. Wake (record { 0 = n }) m) (eqb-true _ _ h.0) (eqb-true _ _ h.1)
same_call_true (Kill i) (Kill j) e = ap (λ n. Kill (record { 0 = n })) (eqb-true _ _ e)
same_call_true (Post i b) (Post j c) e = let h = both _ _ e in ap₂ (λ n m. Post (record { 0 = n }) m) (eqb-true _ _ h.0) (eqb-true _ _ h.1)
same_call_true (Get g) (Get h) e = ap (λ n. Get n) (eqb-true _ _ e)
same_call_true (Draw i) (Draw j) e = ap (λ n. Draw (record { 0 = n })) (eqb-true _ _ e)
same_call_true (Take i) (Take j) e = ap (λ n. Take (record { 0 = n })) (eqb-true _ _ e)
same_call_true (DropRun i) (DropRun j) e = ap (λ n. DropRun (record { 0 = n })) (eqb-true _ _ e)
same_call_true (Retire i) (Retire j) e = ap (λ n. Retire (record { 0 = n })) (eqb-true _ _ e)
same_call_true c d e = cc

pub same_number : (n : ℕ) → (n == n) ≡ true
same_number n = eq-eqb n n refl

pub same_call_refl : (c : Call) → same_call c c ≡ true
same_call_refl (Wake i f) = rw (same_number i.0, same_number f) refl
same_call_refl (Kill i) = same_number _
same_call_refl (Post i b) = rw (same_number i.0, same_number b) refl
same_call_refl (Get g) = same_number _
same_call_refl (Draw i) = same_number _
same_call_refl (Take i) = same_number _
same_call_refl (DropRun i) = same_number _
same_call_refl (Retire i) = same_number _

-- an entry that passed its test has that caller and call
entry_is : (k : CallerId) (call : Call) (x : Entry) → (k.0 == x.caller.0 && same_call call x.call) ≡ true → x ≡ record { caller = k; call = call; reply = x.reply }
entry_is k call x e =
    let h = both _ _ e in
    sym (ap₂ (λ n c. record { caller = record { 0 = n }; call = c; reply = x.reply }) (eqb-true _ _ h.0) (same_call_true _ _ h.1))

asked_some : {B : Type 0} (t : Bool) (r : Reply → Reader B) (reply : Reply) (b : B) (es : List Entry) (g : Got B) → if_asked t r reply b es ≡ Some g → (t ≡ true) × (r reply b es ≡ Some g)
asked_some true r reply b es g e = (refl, e)
asked_some false r reply b es g e = cc

asks_sound : {B : Type 0} (k : CallerId) (call : Call) (P : Reply → Part B) (r : Reply → Reader B) → ((reply : Reply) → Reads (P reply) (r reply)) → (b : B) (es : List Entry) (g : Got B) → asking k call r b es ≡ Some g → Took (Asks k call P) b es g
asks_sound k call P r h b [] g e = cc
asks_sound k call P r h b (x ∷ es) g e =
    let t = asked_some _ r x.reply b es g e in
    let one = (h x.reply).sound b es g t.1 in
    record {
      front = x ∷ one.front;
      joined = ap (λ zs. x ∷ zs) one.joined;
      held = record { reply = x.reply; rest = one.front; begins = ap (λ y. y ∷ one.front) (entry_is k call x t.0); goes_on = one.held };
    }

asks_whole : {B : Type 0} (k : CallerId) (call : Call) (P : Reply → Part B) (r : Reply → Reader B) → ((reply : Reply) → Reads (P reply) (r reply)) → (b : B) (xs : List Entry) (c : B) (rest : List Entry) → Asks k call P b xs c → asking k call r b (xs ++ rest) ≡ Some (record { new = c; rest = rest })
asks_whole k call P r h b xs c rest p =
    ap (λ zs. asking k call r b (zs ++ rest)) p.begins ∙
    (ap₂ (λ t u. if_asked (t && u) r p.reply b (p.rest ++ rest)) (same_number k.0) (same_call_refl call) ∙ (h p.reply).whole b p.rest c rest p.goes_on)

pub reads-asks : {B : Type 0} (k : CallerId) (call : Call) (P : Reply → Part B) (r : Reply → Reader B) → ((reply : Reply) → Reads (P reply) (r reply)) → Reads (Asks k call P) (asking k call r)
reads-asks k call P r h = record { sound = asks_sound k call P r h; whole = asks_whole k call P r h }

pub reads-makes : {B : Type 0} (k : CallerId) (call : Call) (f : Reply → B → B) → Reads (Makes k call f) (making k call f)
reads-makes k call f = reads-asks k call _ _ (λ reply. reads-quiet (f reply))

pub reads-either : {B : Type 0} (t : Bool) (P Q : Part B) (r q : Reader B) → Reads P r → Reads Q q → Reads (Either t P Q) (either t r q)
reads-either true P Q r q hr hq = hr
reads-either false P Q r q hr hq = hq

from_sound : {B : Type 0} (P : B → Part B) (r : B → Reader B) → ((b : B) → Reads (P b) (r b)) → (b : B) (es : List Entry) (g : Got B) → from_book r b es ≡ Some g → Took (From P) b es g
from_sound P r h b es g e = let one = (h b).sound b es g e in record { front = one.front; joined = one.joined; held = one.held }

pub reads-from : {B : Type 0} (P : B → Part B) (r : B → Reader B) → ((b : B) → Reads (P b) (r b)) → Reads (From P) (from_book r)
reads-from P r h = record { sound = from_sound P r h; whole = λ b xs c rest p. (h b).whole b xs c rest p }

pub reads-each : {A B : Type 0} (P : A → Part B) (r : A → Reader B) → ((x : A) → Reads (P x) (r x)) → (xs : List A) → Reads (Each P xs) (one_each r xs)
reads-each P r h [] = reads-nothing
reads-each P r h (x ∷ xs) = reads-then _ _ _ _ (h x) (reads-each P r h xs)
