-- All four lists while a task joins one or leaves one.
use Rattle.std.proofs.Common.{◌≡◌, ℕ, suc, ◌+◌, ◌-◌, ◌<◌, ◌≤◌, Bool, true, false, ◌||◌, refl, sym, ap, ◌∙◌, arith, ne_eqb, eq-eqb, inl, inr, List, [], ◌∷◌, ◌++◌, drop, length, get_or, ◌==◌, if◌then◌else◌}
use Rattle.std.proofs.lemmas.Bool.{cases_eq, cases_Bool}
use Rattle.std.proofs.Math.ListN.{length-set}
use Rattle.sched_base.specs.declared.names.Class.{Class}
use Rattle.sched_base.specs.declared.names.Class.TheVariants.{Urgent, Normal, Bulk, Heavy}
use Rattle.queue_model.specs.Classes.{Classes, of_class, with_class, pushed, popped}
use Rattle.tasklet_lists.specs.declared.tasklet_lists.Ends.{Ends}
use Rattle.tasklet_lists.specs.declared.tasklet_lists.AllEnds.{AllEnds}
use Rattle.tasklet_lists.specs.ClassLists.{stands_in, is_pushed}
use Rattle.tasklet_lists.specs.Links.{linked, list_of, lists_of, ends_of, with_ends, times, in_all, EndsAt, AreSound, joined, joined_ends, left_ends}
use Rattle.tasklet_lists.proofs.Chains.{times-push, times-absent, length-linked, EndsAt-push, EndsAt-rest, last-stands, joined-own, joined-other, list_of-first}
use Rattle.tasklet_lists.proofs.Few.{few}

pub of_class-lists_of : (k : Class) (f : List ℕ) (a : AllEnds) → of_class k (lists_of f a) ≡ list_of f (ends_of k a)
of_class-lists_of Urgent f a = refl
of_class-lists_of Normal f a = refl
of_class-lists_of Bulk f a = refl
of_class-lists_of Heavy f a = refl

pub length-of_class : (k : Class) (f : List ℕ) (a : AllEnds) → length (of_class k (lists_of f a)) ≡ (ends_of k a).len
length-of_class k f a = rw (of_class-lists_of k f a) (length-linked f (ends_of k a).first (ends_of k a).len)

or_false_l : (a b : Bool) → (a || b) ≡ false → a ≡ false
or_false_l true b h = cc
or_false_l false b h = refl

or_false_r : (a b : Bool) → (a || b) ≡ false → b ≡ false
or_false_r true b h = cc
or_false_r false b h = h

-- a task that is in no list is there no time
pub absent : (i : ℕ) (c : Classes (List ℕ)) → is_pushed i c ≡ false → in_all i c ≡ 0
absent i c h =
    let u = stands_in i c.urgent in
    let n = stands_in i c.normal in
    let b = stands_in i c.bulk in
    let v = stands_in i c.heavy in
    let first = or_false_r u (n || (b || v)) h in
    let second = or_false_r n (b || v) first in
    omega (arith, times-absent i c.urgent (or_false_l u (n || (b || v)) h), times-absent i c.normal (or_false_l n (b || v) first), times-absent i c.bulk (or_false_l b v second), times-absent i c.heavy (or_false_r b v second))

-- the last task of a list that has one stands there
stands : (f : List ℕ) (e : Ends) → EndsAt e.last (list_of f e) → 0 < e.len → 1 ≤ times e.last (list_of f e)
stands f e ends h =
    let first : EndsAt e.last (e.first ∷ linked f (get_or f e.first 0) (e.len - 1)) = rw (← list_of-first f e h) ends in
    rw (list_of-first f e h) (last-stands e.last e.first (linked f (get_or f e.first 0) (e.len - 1)) first)

-- a class's last task is among the tasks
pub last-within : (n : ℕ) (k : Class) (f : List ℕ) (a : AllEnds) → AreSound n a (lists_of f a) → 0 < (ends_of k a).len → (ends_of k a).last < n
last-within n Urgent f a s h = s.tasks a.urgent.last (omega (arith, stands f a.urgent s.urgent h))
last-within n Normal f a s h = s.tasks a.normal.last (omega (arith, stands f a.normal s.normal h))
last-within n Bulk f a s h = s.tasks a.bulk.last (omega (arith, stands f a.bulk s.bulk h))
last-within n Heavy f a s h = s.tasks a.heavy.last (omega (arith, stands f a.heavy s.heavy h))

same_classes : (a b : Classes (List ℕ)) → a.urgent ≡ b.urgent → a.normal ≡ b.normal → a.bulk ≡ b.bulk → a.heavy ≡ b.heavy → a ≡ b
same_classes a b u n k v =
    ap (λ x. record { urgent = x; normal = a.normal; bulk = a.bulk; heavy = a.heavy }) u ∙
    ap (λ x. record { urgent = b.urgent; normal = x; bulk = a.bulk; heavy = a.heavy }) n ∙
    ap (λ x. record { urgent = b.urgent; normal = b.normal; bulk = x; heavy = a.heavy }) k ∙
    ap (λ x. record { urgent = b.urgent; normal = b.normal; bulk = b.bulk; heavy = x }) v

-- the task that joins a class's list stands at its end, and the other lists stay
pub lists-joined : (n : ℕ) (k : Class) (f : List ℕ) (a : AllEnds) (i : ℕ) → length f ≡ n → AreSound n a (lists_of f a) → lists_of (joined f (ends_of k a) i) (with_ends k (joined_ends (ends_of k a) i) a) ≡ pushed k (i ∷ []) (lists_of f a)
lists-joined n Urgent f a i l s =
    let new = joined f a.urgent i in
    let e = joined_ends a.urgent i in
    same_classes (lists_of new (with_ends Urgent e a)) (pushed Urgent (i ∷ []) (lists_of f a)) (joined-own f a.urgent i s.urgent (omega (arith, s.once a.urgent.last)) (λ h. rw l (last-within n Urgent f a s h))) (joined-other f a.urgent a.normal i s.urgent (omega (arith, s.once a.urgent.last))) (joined-other f a.urgent a.bulk i s.urgent (omega (arith, s.once a.urgent.last))) (joined-other f a.urgent a.heavy i s.urgent (omega (arith, s.once a.urgent.last)))
lists-joined n Normal f a i l s =
    let new = joined f a.normal i in
    let e = joined_ends a.normal i in
    same_classes (lists_of new (with_ends Normal e a)) (pushed Normal (i ∷ []) (lists_of f a)) (joined-other f a.normal a.urgent i s.normal (omega (arith, s.once a.normal.last))) (joined-own f a.normal i s.normal (omega (arith, s.once a.normal.last)) (λ h. rw l (last-within n Normal f a s h))) (joined-other f a.normal a.bulk i s.normal (omega (arith, s.once a.normal.last))) (joined-other f a.normal a.heavy i s.normal (omega (arith, s.once a.normal.last)))
lists-joined n Bulk f a i l s =
    let new = joined f a.bulk i in
    let e = joined_ends a.bulk i in
    same_classes (lists_of new (with_ends Bulk e a)) (pushed Bulk (i ∷ []) (lists_of f a)) (joined-other f a.bulk a.urgent i s.bulk (omega (arith, s.once a.bulk.last))) (joined-other f a.bulk a.normal i s.bulk (omega (arith, s.once a.bulk.last))) (joined-own f a.bulk i s.bulk (omega (arith, s.once a.bulk.last)) (λ h. rw l (last-within n Bulk f a s h))) (joined-other f a.bulk a.heavy i s.bulk (omega (arith, s.once a.bulk.last)))
lists-joined n Heavy f a i l s =
    let new = joined f a.heavy i in
    let e = joined_ends a.heavy i in
    same_classes (lists_of new (with_ends Heavy e a)) (pushed Heavy (i ∷ []) (lists_of f a)) (joined-other f a.heavy a.urgent i s.heavy (omega (arith, s.once a.heavy.last))) (joined-other f a.heavy a.normal i s.heavy (omega (arith, s.once a.heavy.last))) (joined-other f a.heavy a.bulk i s.heavy (omega (arith, s.once a.heavy.last))) (joined-own f a.heavy i s.heavy (omega (arith, s.once a.heavy.last)) (λ h. rw l (last-within n Heavy f a s h)))

counted : (j i n : ℕ) → i < n → (m new : ℕ) → new ≡ m + (if j == i then 1 else 0) → (j ≡ i → m ≡ 0) → m ≤ 1 → new ≤ 1
counted j i n lt m new e none once =
    elim (cases_eq j i) [
      | inl same ↦ let hit = eq-eqb j i same in let f : new ≡ m + 1 = rw hit at e in omega (arith, none same)
      | inr ne ↦ let miss = ne_eqb j i ne in let f : new ≡ m + 0 = rw miss at e in omega arith
    ]

placed : (j i n : ℕ) → i < n → (m new : ℕ) → new ≡ m + (if j == i then 1 else 0) → (0 < m → j < n) → 0 < new → j < n
placed j i n lt m new e tasks h =
    elim (cases_eq j i) [
      | inl same ↦ rw same lt
      | inr ne ↦ let miss = ne_eqb j i ne in let f : new ≡ m + 0 = rw miss at e in tasks (omega arith)
    ]

-- lists stay sound where a task that is in none joins one
pub sound-joined : (n : ℕ) (k : Class) (a : AllEnds) (c : Classes (List ℕ)) (i : ℕ) → i < n → in_all i c ≡ 0 → AreSound n a c → AreSound n (with_ends k (joined_ends (ends_of k a) i) a) (pushed k (i ∷ []) c)
sound-joined n Urgent a c i lt none s =
    record {
      urgent = EndsAt-push i c.urgent;
      normal = s.normal;
      bulk = s.bulk;
      heavy = s.heavy;
      once = λ j. counted j i n lt (in_all j c) (in_all j (pushed Urgent (i ∷ []) c)) (omega (arith, times-push j i c.urgent)) (λ e. rw e none) (s.once j);
      tasks = λ j h. placed j i n lt (in_all j c) (in_all j (pushed Urgent (i ∷ []) c)) (omega (arith, times-push j i c.urgent)) (s.tasks j) h;
    }
sound-joined n Normal a c i lt none s =
    record {
      urgent = s.urgent;
      normal = EndsAt-push i c.normal;
      bulk = s.bulk;
      heavy = s.heavy;
      once = λ j. counted j i n lt (in_all j c) (in_all j (pushed Normal (i ∷ []) c)) (omega (arith, times-push j i c.normal)) (λ e. rw e none) (s.once j);
      tasks = λ j h. placed j i n lt (in_all j c) (in_all j (pushed Normal (i ∷ []) c)) (omega (arith, times-push j i c.normal)) (s.tasks j) h;
    }
sound-joined n Bulk a c i lt none s =
    record {
      urgent = s.urgent;
      normal = s.normal;
      bulk = EndsAt-push i c.bulk;
      heavy = s.heavy;
      once = λ j. counted j i n lt (in_all j c) (in_all j (pushed Bulk (i ∷ []) c)) (omega (arith, times-push j i c.bulk)) (λ e. rw e none) (s.once j);
      tasks = λ j h. placed j i n lt (in_all j c) (in_all j (pushed Bulk (i ∷ []) c)) (omega (arith, times-push j i c.bulk)) (s.tasks j) h;
    }
sound-joined n Heavy a c i lt none s =
    record {
      urgent = s.urgent;
      normal = s.normal;
      bulk = s.bulk;
      heavy = EndsAt-push i c.heavy;
      once = λ j. counted j i n lt (in_all j c) (in_all j (pushed Heavy (i ∷ []) c)) (omega (arith, times-push j i c.heavy)) (λ e. rw e none) (s.once j);
      tasks = λ j h. placed j i n lt (in_all j c) (in_all j (pushed Heavy (i ∷ []) c)) (omega (arith, times-push j i c.heavy)) (s.tasks j) h;
    }

-- the first task of a class's list leaves it
pub popped-none : (k : Class) (f : List ℕ) (a : AllEnds) → (ends_of k a).len ≡ 0 → (of_class k (lists_of f a) ≡ []) × (popped k (lists_of f a) ≡ lists_of f a)
popped-none Urgent f a h = rw h (refl, refl)
popped-none Normal f a h = rw h (refl, refl)
popped-none Bulk f a h = rw h (refl, refl)
popped-none Heavy f a h = rw h (refl, refl)

pub lists-left : (k : Class) (f : List ℕ) (a : AllEnds) → 0 < (ends_of k a).len → lists_of f (with_ends k (left_ends f (ends_of k a)) a) ≡ popped k (lists_of f a)
lists-left Urgent f a h = ap (λ is. record (lists_of f a) { urgent = is }) (sym (ap (drop 1) (list_of-first f a.urgent h)))
lists-left Normal f a h = ap (λ is. record (lists_of f a) { normal = is }) (sym (ap (drop 1) (list_of-first f a.normal h)))
lists-left Bulk f a h = ap (λ is. record (lists_of f a) { bulk = is }) (sym (ap (drop 1) (list_of-first f a.bulk h)))
lists-left Heavy f a h = ap (λ is. record (lists_of f a) { heavy = is }) (sym (ap (drop 1) (list_of-first f a.heavy h)))

times-drop : (i : ℕ) (is : List ℕ) → times i (drop 1 is) ≤ times i is
times-drop i [] = omega arith
times-drop i (j ∷ js) = omega arith

pub sound-left : (n : ℕ) (k : Class) (f : List ℕ) (a : AllEnds) (c : Classes (List ℕ)) → AreSound n a c → AreSound n (with_ends k (left_ends f (ends_of k a)) a) (popped k c)
sound-left n Urgent f a c s =
    record {
      urgent = EndsAt-rest a.urgent.last c.urgent s.urgent;
      normal = s.normal;
      bulk = s.bulk;
      heavy = s.heavy;
      once = λ j. omega (arith, times-drop j c.urgent, s.once j);
      tasks = λ j h. s.tasks j (omega (arith, times-drop j c.urgent));
    }
sound-left n Normal f a c s =
    record {
      urgent = s.urgent;
      normal = EndsAt-rest a.normal.last c.normal s.normal;
      bulk = s.bulk;
      heavy = s.heavy;
      once = λ j. omega (arith, times-drop j c.normal, s.once j);
      tasks = λ j h. s.tasks j (omega (arith, times-drop j c.normal));
    }
sound-left n Bulk f a c s =
    record {
      urgent = s.urgent;
      normal = s.normal;
      bulk = EndsAt-rest a.bulk.last c.bulk s.bulk;
      heavy = s.heavy;
      once = λ j. omega (arith, times-drop j c.bulk, s.once j);
      tasks = λ j h. s.tasks j (omega (arith, times-drop j c.bulk));
    }
sound-left n Heavy f a c s =
    record {
      urgent = s.urgent;
      normal = s.normal;
      bulk = s.bulk;
      heavy = EndsAt-rest a.heavy.last c.heavy s.heavy;
      once = λ j. omega (arith, times-drop j c.heavy, s.once j);
      tasks = λ j h. s.tasks j (omega (arith, times-drop j c.heavy));
    }

-- a class's list is one of the four
in-class : (i : ℕ) (k : Class) (f : List ℕ) (a : AllEnds) → times i (list_of f (ends_of k a)) ≤ in_all i (lists_of f a)
in-class i Urgent f a = omega arith
in-class i Normal f a = omega arith
in-class i Bulk f a = omega arith
in-class i Heavy f a = omega arith

first-stands : (i : ℕ) (is : List ℕ) → 1 ≤ times i (i ∷ is)
first-stands i is = rw (eq-eqb i i refl) (omega arith)

length-push : (is : List ℕ) (i : ℕ) → length (is ++ i ∷ []) ≡ length is + 1
length-push [] i = omega arith
length-push (j ∷ js) i = omega (arith, length-push js i)

-- where a task is in no list, a class's list has room for it
pub room-for : (n : ℕ) (k : Class) (f : List ℕ) (a : AllEnds) (i : ℕ) → i < n → in_all i (lists_of f a) ≡ 0 → AreSound n a (lists_of f a) → (ends_of k a).len + 1 ≤ n
room-for n k f a i lt none s =
    let e = ends_of k a in
    let is = list_of f e in
    let within : (j : ℕ) → times j is ≤ in_all j (lists_of f a) = λ j. in-class j k f a in
    let more : (j : ℕ) → times j (is ++ i ∷ []) ≤ 1 = λ j. counted j i n lt (times j is) (times j (is ++ i ∷ [])) (times-push j i is) (λ same. rw same (omega (arith, within i, none))) (omega (arith, within j, s.once j)) in
    let below : (j : ℕ) → 0 < times j (is ++ i ∷ []) → j < n = λ j h. placed j i n lt (times j is) (times j (is ++ i ∷ [])) (times-push j i is) (λ g. s.tasks j (omega (arith, within j))) h in
    omega (arith, few (is ++ i ∷ []) n more below, length-push is i, length-linked f e.first e.len)

pub length-joined : (f : List ℕ) (e : Ends) (i : ℕ) → length (joined f e i) ≡ length f
length-joined f e i =
    elim (cases_Bool (e.len == 0)) [
      | inl none ↦ rw none refl
      | inr some ↦ rw some (length-set f e.last i)
    ]

-- a list's first task is among the tasks
pub first-within : (n : ℕ) (k : Class) (f : List ℕ) (a : AllEnds) → AreSound n a (lists_of f a) → 0 < (ends_of k a).len → (ends_of k a).first < n
first-within n k f a s h =
    let e = ends_of k a in
    let hit : 1 ≤ times e.first (list_of f e) = rw (list_of-first f e h) (first-stands e.first (linked f (get_or f e.first 0) (e.len - 1))) in
    s.tasks e.first (omega (arith, in-class e.first k f a))
