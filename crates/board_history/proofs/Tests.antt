-- What the tests of a state tell.
use Rattle.std.proofs.Common.{◌≡◌, ◌⊎◌, inl, inr, Bool, true, false, not, ◌&&◌, ◌||◌, List, [], ◌∷◌, refl, sym, ap, ◌∙◌, subst, Option, None, Some, if◌then◌else◌}
use Rattle.std.specs.List.{filter}
use Rattle.std.proofs.lemmas.Bool.{and_from, not-true, or_cases, or_parts, or_left, or_right, and_parts}
use Rattle.dataflow.specs.System.{In, Write, Effect, System}
use Rattle.dataflow.specs.Machine.{Item, State, ClosedByRights, Free, Clashes}
use Rattle.board_history.specs.Replay.{Tests, AreTests, is_among, has_reader, has_writer, is_closed, is_used, value_at, elements_at, is_there, clashes}

-- a choice, by what its test says
pub choose : {A : Type 0} (P : A → Type 0) (b : Bool) (x y : A) → (b ≡ true → P x) → (b ≡ false → P y) → P (if b then x else y)
choose P true x y f g = f refl
choose P false x y f g = g refl

pub yes_no : {A : Type 0} {b : Bool} → b ≡ true → b ≡ false → A
yes_no {A} {b} h k = let no : true ≡ false = sym h ∙ k in absurd (cc)

pub none_some : {A B : Type 0} {x : A} → ◌≡◌ {A = Option A} None (Some x) → B
none_some h = absurd (cc)

pub some_same : {X : Type 0} {a b : X} → ◌≡◌ {A = Option X} (Some a) (Some b) → a ≡ b
some_same h = cc

-- a list is empty or not
pub none_or : {X : Type 0} (xs : List X) → (xs ≡ []) ⊎ (xs ≡ [] → ⊥)
none_or [] = inl refl
none_or (y ∷ ys) = inr (λ h. absurd (cc (h)))

-- what a filter keeps
pub in_kept : {X : Type 0} (p : X → Bool) (x : X) (xs : List X) → In x (filter p xs) → In x xs × (p x ≡ true)
in_kept p x [] h = absurd h
in_kept {X} p x (y ∷ xs) h =
    choose (λ (l : List X). In x l → In x (y ∷ xs) × (p x ≡ true)) (p y) (y ∷ filter p xs) (filter p xs)
    (λ t g. elim g [ inl e ↦ (inl e, ap p e ∙ t) | inr i ↦ (let r = in_kept p x xs i in (inr r.0, r.1)) ])
    (λ t g. let r = in_kept p x xs g in (inr r.0, r.1))
    h

pub kept_in : {X : Type 0} (p : X → Bool) (x : X) (xs : List X) → In x xs → p x ≡ true → In x (filter p xs)
kept_in p x [] h u = absurd h
kept_in {X} p x (y ∷ xs) h u =
    choose (λ (l : List X). In x l) (p y) (y ∷ filter p xs) (filter p xs)
    (λ z. elim h [ inl e ↦ inl e | inr g ↦ inr (kept_in p x xs g u) ])
    (λ z. elim h [ inl e ↦ yes_no (ap p (sym e) ∙ u) z | inr g ↦ kept_in p x xs g u ])

pub true_not : (a : Bool) → (a ≡ true → ⊥) → not a ≡ true
true_not true h = absurd (h refl)
true_not false h = refl

module _ {T D K V E : Type 0} (S : System T D K V E) (X : Tests D K V) (R : AreTests S X) where
  pub same_of : (a b : D) → a ≡ b → X.same_place a b ≡ true
  same_of a b p = subst (λ (x : D). X.same_place a x ≡ true) p (R.place_same a)

  pub among_in : (a : D) (bs : List D) → is_among S X a bs ≡ true → In a bs
  among_in a [] h = yes_no h refl
  among_in a (b ∷ bs) h = elim (or_cases (X.same_place a b) (is_among S X a bs) h) [ inl p ↦ inl (R.place_sound a b p) | inr i ↦ inr (among_in a bs i) ]

  pub in_among : (a : D) (bs : List D) → In a bs → is_among S X a bs ≡ true
  in_among a [] h = absurd h
  in_among a (b ∷ bs) h =
      elim h [ inl p ↦ or_left (X.same_place a b) (is_among S X a bs) (same_of a b p) | inr i ↦ or_right (X.same_place a b) (is_among S X a bs) (in_among a bs i) ]

  -- who may read or write
  pub no_writer : (is : List (Item T)) (a : D) → has_writer S X is a ≡ false → (i : Item T) → In i is → In a (S.may_write i.task) → ⊥
  no_writer [] a h i m w = m
  no_writer (j ∷ is) a h i m w =
      let r = or_parts (is_among S X a (S.may_write j.task)) (has_writer S X is a) h in
      elim m [ inl p ↦ yes_no (in_among a (S.may_write j.task) (subst (λ (x : Item T). In a (S.may_write x.task)) p w)) r.0 | inr g ↦ no_writer is a r.1 i g w ]

  pub a_writer : (is : List (Item T)) (a : D) → has_writer S X is a ≡ true → (i : Item T) × In i is × In a (S.may_write i.task)
  a_writer [] a h = yes_no h refl
  a_writer (j ∷ is) a h =
      elim (or_cases (is_among S X a (S.may_write j.task)) (has_writer S X is a) h) [
        | inl p ↦ (j, inl refl, among_in a (S.may_write j.task) p)
        | inr q ↦ (let r = a_writer is a q in (r.0, inr r.1, r.2))
      ]

  pub no_reader : (is : List (Item T)) (a : D) → has_reader S X is a ≡ false → (i : Item T) → In i is → In a (S.may_read i.task) → ⊥
  no_reader [] a h i m w = m
  no_reader (j ∷ is) a h i m w =
      let r = or_parts (is_among S X a (S.may_read j.task)) (has_reader S X is a) h in
      elim m [ inl p ↦ yes_no (in_among a (S.may_read j.task) (subst (λ (x : Item T). In a (S.may_read x.task)) p w)) r.0 | inr g ↦ no_reader is a r.1 i g w ]

  pub a_reader : (is : List (Item T)) (a : D) → has_reader S X is a ≡ true → (i : Item T) × In i is × In a (S.may_read i.task)
  a_reader [] a h = yes_no h refl
  a_reader (j ∷ is) a h =
      elim (or_cases (is_among S X a (S.may_read j.task)) (has_reader S X is a) h) [
        | inl p ↦ (j, inl refl, among_in a (S.may_read j.task) p)
        | inr q ↦ (let r = a_reader is a q in (r.0, inr r.1, r.2))
      ]

  pub closed_sound : (s : State T D K V E) (a : D) → is_closed S X s a ≡ true → ClosedByRights S s a
  closed_sound s a h =
      let r = and_parts (is_among S X a s.places) (not (has_writer S X s.items a)) h in
      record { there = among_in a s.places r.0; nobody = no_writer s.items a (not-true (has_writer S X s.items a) r.1) }

  pub closed_told : (s : State T D K V E) (a : D) → ClosedByRights S s a → is_closed S X s a ≡ true
  closed_told s a c =
      and_from (is_among S X a s.places) (not (has_writer S X s.items a)) (in_among a s.places c.there) (true_not (has_writer S X s.items a) (λ h. let w = a_writer s.items a h in c.nobody w.0 w.1 w.2))

  pub unused_free : (s : State T D K V E) (a : D) → is_used S X s.items a ≡ false → Free S s a
  unused_free s a h =
      let r = or_parts (has_reader S X s.items a) (has_writer S X s.items a) h in
      record { unread = no_reader s.items a r.0; unwritten = no_writer s.items a r.1 }

  pub used_not_free : (s : State T D K V E) (a : D) → is_used S X s.items a ≡ true → Free S s a → ⊥
  used_not_free s a h f =
      elim (or_cases (has_reader S X s.items a) (has_writer S X s.items a) h) [
        | inl p ↦ (let r = a_reader s.items a p in f.unread r.0 r.1 r.2)
        | inr p ↦ (let r = a_writer s.items a p in f.unwritten r.0 r.1 r.2)
      ]

  -- values
  pub value_held : (ws : List (Write D K V)) (a : D) (k : K) (v : V) → value_at S X ws a k ≡ Some v → In (record { place = a; key = k; value = v }) ws
  value_held [] a k v = λ h. none_some h
  value_held (w ∷ ws) a k v =
      choose (λ (r : Option V). r ≡ Some v → In (record { place = a; key = k; value = v }) (w ∷ ws)) (X.same_place a w.place && X.same_key k w.key) (Some w.value) (value_at S X ws a k)
      (λ t h. let r = and_parts (X.same_place a w.place) (X.same_key k w.key) t in
      let p = R.place_sound a w.place r.0 in
      let q = R.key_sound k w.key r.1 in
      let u : w.value ≡ v = cc in
      inl (λ i. record { place = p i; key = q i; value = sym u i }))
      (λ t h. inr (value_held ws a k v h))

  pub held_value : (ws : List (Write D K V)) (a : D) (k : K) (v : V) → In (record { place = a; key = k; value = v }) ws → (u : V) × (value_at S X ws a k ≡ Some u)
  held_value [] a k v h = absurd h
  held_value (w ∷ ws) a k v h =
      choose (λ (r : Option V). (u : V) × (r ≡ Some u)) (X.same_place a w.place && X.same_key k w.key) (Some w.value) (value_at S X ws a k)
      (λ t. (w.value, refl))
      (λ t. elim h [
        | inl e ↦ yes_no (and_from (X.same_place a w.place) (X.same_key k w.key) (same_of a w.place (ap (λ (x : Write D K V). x.place) e)) (subst (λ (l : K). X.same_key k l ≡ true) (ap (λ (x : Write D K V). x.key) e) (R.key_same k))) t
        | inr i ↦ held_value ws a k v i
      ])

  pub element_held : (ws : List (Write D K V)) (a : D) (k : K) (v : V) → In (k, v) (elements_at S X ws a) → In (record { place = a; key = k; value = v }) ws
  element_held [] a k v = λ h. absurd h
  element_held (w ∷ ws) a k v =
      choose (λ (l : List (K × V)). In (k, v) l → In (record { place = a; key = k; value = v }) (w ∷ ws)) (X.same_place a w.place) ((w.key, w.value) ∷ elements_at S X ws a) (elements_at S X ws a)
      (λ t h. let p = R.place_sound a w.place t in elim h [ inl q ↦ inl (λ i. record { place = p i; key = (q i).0; value = (q i).1 }) | inr i ↦ inr (element_held ws a k v i) ])
      (λ t h. inr (element_held ws a k v h))

  pub held_element : (ws : List (Write D K V)) (a : D) (k : K) (v : V) → In (record { place = a; key = k; value = v }) ws → In (k, v) (elements_at S X ws a)
  held_element [] a k v h = h
  held_element (w ∷ ws) a k v h =
      choose (λ (l : List (K × V)). In (k, v) l) (X.same_place a w.place) ((w.key, w.value) ∷ elements_at S X ws a) (elements_at S X ws a)
      (λ t. elim h [ inl e ↦ inl (ap (λ (y : Write D K V). (y.key, y.value)) e) | inr i ↦ inr (held_element ws a k v i) ])
      (λ t. elim h [ inl e ↦ yes_no (same_of a w.place (ap (λ (x : Write D K V). x.place) e)) t | inr i ↦ held_element ws a k v i ])

  -- writes of elements that are there
  abbrev Clash : List (Write D K V) → List (Write D K V) → Type 0
  Clash stored ws = (a : D) × (k : K) × (v : V) × (w : V) × (S.is_array a ≡ true) × In (record { place = a; key = k; value = v }) ws × In (record { place = a; key = k; value = w }) stored

  there_some : (r : Option V) → is_there S X r ≡ true → (v : V) × (r ≡ Some v)
  there_some None h = yes_no h refl
  there_some (Some v) h = (v, refl)

  clash_sound : (stored ws : List (Write D K V)) → clashes S X stored ws ≡ true → Clash stored ws
  clash_sound stored [] h = yes_no h refl
  clash_sound stored (w ∷ ws) h =
      elim (or_cases (S.is_array w.place && is_there S X (value_at S X stored w.place w.key)) (clashes S X stored ws) h) [
        | inl p ↦ (let r = and_parts (S.is_array w.place) (is_there S X (value_at S X stored w.place w.key)) p in
            let v = there_some (value_at S X stored w.place w.key) r.1 in
            (w.place, w.key, w.value, v.0, r.0, inl refl, value_held stored w.place w.key v.0 v.1))
        | inr p ↦ (let x = clash_sound stored ws p in (x.0, x.1, x.2, x.3, x.4, inr x.5, x.6))
      ]

  clash_told : (stored ws : List (Write D K V)) → Clash stored ws → clashes S X stored ws ≡ true
  clash_told stored [] x = absurd x.5
  clash_told stored (w ∷ ws) x =
      elim x.5 [
        | inl e ↦ (let v = held_value stored w.place w.key x.3 (subst (λ (y : Write D K V). In (record { place = y.place; key = y.key; value = x.3 }) stored) e x.6) in
            or_left (S.is_array w.place && is_there S X (value_at S X stored w.place w.key)) (clashes S X stored ws)
            (and_from (S.is_array w.place) (is_there S X (value_at S X stored w.place w.key)) (sym (ap (λ (y : Write D K V). S.is_array y.place) e) ∙ x.4) (ap (is_there S X) v.1)))
        | inr i ↦ or_right (S.is_array w.place && is_there S X (value_at S X stored w.place w.key)) (clashes S X stored ws) (clash_told stored ws (x.0, x.1, x.2, x.3, x.4, i, x.6))
      ]

  pub clashes_sound : (s : State T D K V E) (e : Effect T D K V) → clashes S X s.stored e.writes ≡ true → Clashes S s e
  clashes_sound s e h = clash_sound s.stored e.writes h

  pub clashes_not : (s : State T D K V E) (e : Effect T D K V) → clashes S X s.stored e.writes ≡ false → Clashes S s e → ⊥
  clashes_not s e h x = yes_no (clash_told s.stored e.writes x) h
