-- How often items can newly begin in a run: there is such a number, and the events alone tell it.
use Rattle.std.proofs.Common.{◌≡◌, ◌⊎◌, inl, inr, ℕ, ◌+◌, ◌≤◌, List, [], ◌∷◌, map, refl, sym, ◌∙◌, subst, Option, None, Some, length, arith}
use Rattle.std.proofs.lemmas.Bool.{cases_eq}
use Rattle.dataflow.specs.System.{In, Distinct, Input, StoredScalar, ClosedArray, ElementOf, ElementAt, Effect, System}
use Rattle.dataflow.specs.Laws.{Laws}
use Rattle.dataflow.specs.Machine.{Item, State, Event, Holds, ClosedByRights, IsElementKnown, IsKnown, Enabled, Steps, Run, start}
use Rattle.dataflow.specs.History.{log_of_step}
use Rattle.dataflow.specs.Events.{CanBegin, NewlyAt, NewlyAlong, Newly}
use Rattle.dataflow.proofs.Lists.{in_map}
use Rattle.dataflow.proofs.Follows.{Follows, reads_enabled, sees_enabled}
use Rattle.dataflow.proofs.Decide.{in_is, value_is, distinct_within}
use Rattle.dataflow.proofs.Known.{one_value, sees, sees_only}
use Rattle.dataflow.proofs.Numbers.{number_of_item, Numbered, step_numbered, start_numbered}
use Rattle.dataflow.proofs.Steps.{start_follow, step_follow}
use Rattle.dataflow.proofs.Determined.{Alike, step_alike}

-- the members of a list that pass a test
pub record Picked {X : Type 0} (P : X → Type 0) (xs : List X) : Type 0 where
  pub picked : List X
  pub once : Distinct picked
  pub pass : (x : X) → In x picked → P x
  pub from : (x : X) → In x picked → In x xs
  pub all : (x : X) → In x xs → P x → In x picked

pub picked_of : {X : Type 0} (P : X → Type 0) → ((x : X) → P x ⊎ (P x → ⊥)) → (xs : List X) → Distinct xs → Picked P xs
picked_of P test [] d = record { picked = []; once = tt; pass = λ x h. absurd h; from = λ x h. h; all = λ x h p. h }
picked_of {X} P test (y ∷ xs) d = by (test y) (picked_of P test xs d.1)
  where
    by : P y ⊎ (P y → ⊥) → Picked P xs → Picked P (y ∷ xs)
    by (inl p) r = record {
      picked = y ∷ r.picked;
      once = ((λ h. d.0 (r.from y h)), r.once);
      pass = λ x h. elim h [ inl q ↦ subst P (sym q) p | inr i ↦ r.pass x i ];
      from = λ x h. elim h [ inl q ↦ inl q | inr i ↦ inr (r.from x i) ];
      all = λ x h g. elim h [ inl q ↦ inl q | inr i ↦ inr (r.all x i g) ];
    }
    by (inr n) r = record {
      picked = r.picked;
      once = r.once;
      pass = r.pass;
      from = λ x h. inr (r.from x h);
      all = λ x h g. elim h [ inl q ↦ absurd (n (subst P q g)) | inr i ↦ r.all x i g ];
    }

module _ {T D K V E : Type 0} (S : System T D K V E) (L : Laws S) where
  -- whether an input is known
  no_writer_is : (a : D) (items : List (Item T)) → ((i : Item T) → In i items → In a (S.may_write i.task) → ⊥) ⊎ (((i : Item T) → In i items → In a (S.may_write i.task) → ⊥) → ⊥)
  no_writer_is a [] = inl (λ i h m. h)
  no_writer_is a (j ∷ items) = by (in_is S L a (S.may_write j.task)) (no_writer_is a items)
    where
      Nobody : List (Item T) → Type 0
      Nobody is = (i : Item T) → In i is → In a (S.may_write i.task) → ⊥

      by : (In a (S.may_write j.task) ⊎ (In a (S.may_write j.task) → ⊥)) → (((i : Item T) → In i items → In a (S.may_write i.task) → ⊥) ⊎ (((i : Item T) → In i items → In a (S.may_write i.task) → ⊥) → ⊥)) → ((i : Item T) → In i (j ∷ items) → In a (S.may_write i.task) → ⊥) ⊎ (((i : Item T) → In i (j ∷ items) → In a (S.may_write i.task) → ⊥) → ⊥)
      by (inl m) r = inr (λ n. n j (inl refl) m)
      by (inr m) (inl n) = inl (λ i h w. elim h [ inl p ↦ m (subst (λ (y : Item T). In a (S.may_write y.task)) p w) | inr g ↦ n i g w ])
      by (inr m) (inr n) = inr (λ g. n (λ i h w. g i (inr h) w))

  closed_is : (s : State T D K V E) (a : D) → ClosedByRights S s a ⊎ (ClosedByRights S s a → ⊥)
  closed_is s a = by (in_is S L a s.places) (no_writer_is a s.items)
    where
      by : (In a s.places ⊎ (In a s.places → ⊥)) → (((i : Item T) → In i s.items → In a (S.may_write i.task) → ⊥) ⊎ (((i : Item T) → In i s.items → In a (S.may_write i.task) → ⊥) → ⊥)) → ClosedByRights S s a ⊎ (ClosedByRights S s a → ⊥)
      by (inl i) (inl n) = inl (record { there = i; nobody = n })
      by (inr m) r = inr (λ c. m c.there)
      by (inl i) (inr m) = inr (λ c. m c.nobody)

  element_is : (s : State T D K V E) (a : D) (k : K) → IsElementKnown S s a k ⊎ (IsElementKnown S s a k → ⊥)
  element_is s a k = by (value_is S L a k s.stored) (closed_is s a)
    where
      by : (((v : V) × Holds S s a k v) ⊎ ((v : V) → Holds S s a k v → ⊥)) → (ClosedByRights S s a ⊎ (ClosedByRights S s a → ⊥)) → IsElementKnown S s a k ⊎ (IsElementKnown S s a k → ⊥)
      by (inl h) r = inl (inl h)
      by (inr n) (inl c) = inl (inr c)
      by (inr n) (inr m) = inr (λ x. elim x [ inl h ↦ n h.0 h.1 | inr c ↦ m c ])

  module _ (s : State T D K V E) (log : List (T × Effect T D K V)) (f : Follows S s log) where
    -- an element's key that a scalar has is one key
    element_at_is : (a d : D) → IsKnown S s (ElementAt a d) ⊎ (IsKnown S s (ElementAt a d) → ⊥)
    element_at_is a d = by (value_is S L d S.only s.stored)
      where
        by : (((v : V) × Holds S s d S.only v) ⊎ ((v : V) → Holds S s d S.only v → ⊥)) → IsKnown S s (ElementAt a d) ⊎ (IsKnown S s (ElementAt a d) → ⊥)
        by (inr n) = inr (λ x. n x.0 x.1)
        by (inl h) = elim (element_is s a (S.key_of h.0)) [ inl g ↦ inl (h.0, h.1, g) | inr n ↦ inr (λ x. n (subst (λ (v : V). IsElementKnown S s a (S.key_of v)) (one_value S L s log f d S.only x.0 h.0 x.1 h.1) x.2)) ]

    known_is : (n : Input D K) → IsKnown S s n ⊎ (IsKnown S s n → ⊥)
    known_is (StoredScalar d) = elim (value_is S L d S.only s.stored) [ inl h ↦ inl h | inr n ↦ inr (λ x. n x.0 x.1) ]
    known_is (ClosedArray a) = closed_is s a
    known_is (ElementOf a k) = element_is s a k
    known_is (ElementAt a d) = element_at_is a d

    all_known_is : (is : List (Input D K)) → ((n : Input D K) → In n is → IsKnown S s n) ⊎ (((n : Input D K) → In n is → IsKnown S s n) → ⊥)
    all_known_is [] = inl (λ n h. absurd h)
    all_known_is (i ∷ is) = by (known_is i) (all_known_is is)
      where
        by : (IsKnown S s i ⊎ (IsKnown S s i → ⊥)) → (((n : Input D K) → In n is → IsKnown S s n) ⊎ (((n : Input D K) → In n is → IsKnown S s n) → ⊥)) → ((n : Input D K) → In n (i ∷ is) → IsKnown S s n) ⊎ (((n : Input D K) → In n (i ∷ is) → IsKnown S s n) → ⊥)
        by (inl k) (inl r) = inl (λ n h. elim h [ inl p ↦ subst (λ (z : Input D K). IsKnown S s z) (sym p) k | inr g ↦ r n g ])
        by (inr m) r = inr (λ g. m (g i (inl refl)))
        by (inl k) (inr m) = inr (λ g. m (λ n h. g n (inr h)))

    Ready : ℕ → Item T → Type 0
    Ready k i = (i.number ≡ k) × (i.runs ≡ None) × Enabled S s i.task

    idle_is : (r : Option ℕ) → (r ≡ None) ⊎ (r ≡ None → ⊥)
    idle_is None = inl refl
    idle_is (Some w) = inr (λ h. (let no : ⊥ = cc in no))

    item_is : (k : ℕ) (i : Item T) → Ready k i ⊎ (Ready k i → ⊥)
    unfolding Ready
    item_is k i = by (cases_eq i.number k) (idle_is i.runs) (all_known_is (S.inputs i.task))
      where
        by : ((i.number ≡ k) ⊎ (i.number ≡ k → ⊥)) → ((i.runs ≡ None) ⊎ (i.runs ≡ None → ⊥)) → (Enabled S s i.task ⊎ (Enabled S s i.task → ⊥)) → ((i.number ≡ k) × (i.runs ≡ None) × Enabled S s i.task) ⊎ (((i.number ≡ k) × (i.runs ≡ None) × Enabled S s i.task) → ⊥)
        by (inl p) (inl q) (inl e) = inl (p, q, e)
        by (inr n) q e = inr (λ x. n x.0)
        by (inl p) (inr n) e = inr (λ x. n x.1)
        by (inl p) (inl q) (inr n) = inr (λ x. n x.2)

    some_is : (k : ℕ) (items : List (Item T)) → ((i : Item T) × In i items × Ready k i) ⊎ (((i : Item T) × In i items × Ready k i) → ⊥)
    some_is k [] = inr (λ x. x.1)
    some_is k (j ∷ items) = by (item_is k j) (some_is k items)
      where
        by : (Ready k j ⊎ (Ready k j → ⊥)) → (((i : Item T) × In i items × Ready k i) ⊎ (((i : Item T) × In i items × Ready k i) → ⊥)) → ((i : Item T) × In i (j ∷ items) × Ready k i) ⊎ (((i : Item T) × In i (j ∷ items) × Ready k i) → ⊥)
        by (inl r) x = inl (j, inl refl, r)
        by (inr n) (inl x) = inl (x.0, inr x.1, x.2)
        by (inr n) (inr m) = inr (λ x. elim x.1 [ inl p ↦ n (subst (λ (i : Item T). Ready k i) p x.2) | inr h ↦ m (x.0, h, x.2) ])

    -- whether an item can begin
    pub can_begin_is : (k : ℕ) → CanBegin S s k ⊎ (CanBegin S s k → ⊥)
    unfolding Ready
    can_begin_is k = by (some_is k s.items)
      where
        by : ((i : Item T) × In i s.items × ((i.number ≡ k) × (i.runs ≡ None) × Enabled S s i.task)) ⊎ (((i : Item T) × In i s.items × ((i.number ≡ k) × (i.runs ≡ None) × Enabled S s i.task)) → ⊥) → CanBegin S s k ⊎ (CanBegin S s k → ⊥)
        by (inl x) = inl (record { item = x.0; there = x.1; number_is = x.2.0; idle = x.2.1; enabled = x.2.2 })
        by (inr n) = inr (λ c. n (c.item, c.there, (c.number_is, c.idle, c.enabled)))

  -- the items that a step lets begin
  newly_at : (s new : State T D K V E) (log more : List (T × Effect T D K V)) → Follows S s log → Follows S new more → Numbered S new → (numbers : List ℕ) × NewlyAt S s new numbers
  newly_at s new log more f g numbered = (r.picked, record { once = r.once; all = all; can = λ k h. (r.pass k h).0; could_not = λ k h. (r.pass k h).1 })
    where
      Newer : ℕ → Type 0
      Newer k = CanBegin S new k × (CanBegin S s k → ⊥)

      newer_is : (k : ℕ) → (CanBegin S new k × (CanBegin S s k → ⊥)) ⊎ ((CanBegin S new k × (CanBegin S s k → ⊥)) → ⊥)
      newer_is k = by (can_begin_is new more g k) (can_begin_is s log f k)
        where
          by : (CanBegin S new k ⊎ (CanBegin S new k → ⊥)) → (CanBegin S s k ⊎ (CanBegin S s k → ⊥)) → (CanBegin S new k × (CanBegin S s k → ⊥)) ⊎ ((CanBegin S new k × (CanBegin S s k → ⊥)) → ⊥)
          by (inl c) (inl d) = inr (λ x. x.1 d)
          by (inl c) (inr n) = inl (c, n)
          by (inr n) d = inr (λ x. n x.0)

      r : Picked (λ (k : ℕ). CanBegin S new k × (CanBegin S s k → ⊥)) (map number_of_item new.items)
      r = picked_of (λ (k : ℕ). CanBegin S new k × (CanBegin S s k → ⊥)) newer_is (map number_of_item new.items) numbered.once

      all : (k : ℕ) → CanBegin S new k → (CanBegin S s k → ⊥) → In k r.picked
      all k c n = r.all k (subst (λ (m : ℕ). In m (map number_of_item new.items)) c.number_is (in_map number_of_item c.item new.items c.there)) (c, n)

  -- there is such a number
  newly_is : (es : List Event) (s new : State T D K V E) (log : List (T × Effect T D K V)) → Follows S s log → Numbered S s → Steps S s es new → (n : ℕ) × NewlyAlong S s es n
  newly_is [] s new log f numbered x = (0, refl)
  newly_is (e ∷ es) s new log f numbered x =
      let g = step_follow S L s x.0 log f e x.1 in
      let after = step_numbered S s e x.0 numbered x.1 in
      let here = newly_at s x.0 log (log_of_step S s e x.0 x.1 log) f g after in
      let rest = newly_is es x.0 new (log_of_step S s e x.0 x.1 log) g after x.2 in
      (length here.0 + rest.0, (x.0, x.1, (here.0, here.1, (rest.0, rest.1, refl))))

  -- states that are alike let the same items begin
  can_begin_alike : (s s' : State T D K V E) (log : List (T × Effect T D K V)) → Follows S s log → Follows S s' log → Alike S L s s' → (k : ℕ) → CanBegin S s k → CanBegin S s' k
  can_begin_alike s s' log f f' alike k c =
      let wait = f.items.waits c.item c.there in
      let a = sees S L s log f c.item.task c.enabled in
      let reads = reads_enabled S L s log f c.item.task wait a.0 a.1 in
      record {
        item = c.item;
        there = subst (λ (is : List (Item T)). In c.item is) alike.items c.there;
        number_is = c.number_is;
        idle = c.idle;
        enabled = sees_only S L s' log f' c.item.task a.0 (sees_enabled S L s' log f' c.item.task wait a.0 reads);
      }

  alike_back : (s s' : State T D K V E) → Alike S L s s' → Alike S L s' s
  alike_back s s' a = record { items = sym a.items; next = sym a.next; lines = sym a.lines; fault = sym a.fault }

  -- so they are as many
  newly_at_alike : (s s' new new' : State T D K V E) (log more : List (T × Effect T D K V)) → Follows S s log → Follows S s' log → Alike S L s s' → Follows S new more → Follows S new' more → Alike S L new new' → (xs ys : List ℕ) → NewlyAt S s new xs → NewlyAt S s' new' ys → length xs ≤ length ys
  newly_at_alike s s' new new' log more f f' alike g g' alike' xs ys x y =
      distinct_within xs ys x.once (λ k h. y.all k (can_begin_alike new new' more g g' alike' k (x.can k h)) (λ c. x.could_not k h (can_begin_alike s' s log f' f (alike_back s s' alike) k c)))

  -- and the number is one
  newly_alike : (es : List Event) (s s' : State T D K V E) (log : List (T × Effect T D K V)) → Follows S s log → Follows S s' log → Alike S L s s' → Numbered S s → (n m : ℕ) → NewlyAlong S s es n → NewlyAlong S s' es m → n ≡ m
  newly_alike [] s s' log f f' alike numbered n m x y = x ∙ sym y
  newly_alike (e ∷ es) s s' log f f' alike numbered n m x y =
      let new = x.0 in
      let new' = y.0 in
      let r = step_alike S L s s' log f f' alike numbered e new new' x.1 y.1 in
      let more = log_of_step S s e new x.1 log in
      let g = step_follow S L s new log f e x.1 in
      let g' = subst (λ (l : List (T × Effect T D K V)). Follows S new' l) (sym r.log_is) (step_follow S L s' new' log f' e y.1) in
      let a = newly_at_alike s s' new new' log more f f' alike g g' r.states x.2.0 y.2.0 x.2.1 y.2.1 in
      let b = newly_at_alike s' s new' new log more f' f (alike_back s s' alike) g' g (alike_back new new' r.states) y.2.0 x.2.0 y.2.1 x.2.1 in
      let rest = newly_alike es new new' more g g' r.states (step_numbered S s e new numbered x.1) x.2.2.0 y.2.2.0 x.2.2.1 y.2.2.1 in
      let p = x.2.2.2 in
      let q = y.2.2.2 in
      omega arith

  pub one_newly : (es : List Event) (s : State T D K V E) → Run S es s → (n : ℕ) × Newly S es n × ((m : ℕ) → Newly S es m → m ≡ n)
  one_newly es s x =
      let r = newly_is es (start S) s [] (start_follow S L) (start_numbered S) x in
      (r.0, r.1, λ m y. newly_alike es (start S) (start S) [] (start_follow S L) (start_follow S L) (record { items = refl; next = refl; lines = refl; fault = refl }) (start_numbered S) m r.0 y r.1)
