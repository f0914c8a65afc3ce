-- What is stored.
use Rattle.std.proofs.Common.{◌≡◌, ◌≢◌, ◌⊎◌, ◌∙◌, refl, sym, ap, subst, inl, inr, ℕ, suc, ◌<◌, ◌≤◌, List, [], ◌∷◌, length, option_map, Option, Some, None, Bool, true, false, ◌&&◌, arith}
use Rattle.std.specs.Prelude.{if◌then◌else◌, nat_eq}
use Rattle.std.proofs.lemmas.Bool.{cases_eq, cases_Bool, eqb-true}
use Rattle.dataflow.specs.System.{In}
use Rattle.data_store.specs.Arrays.{Array, room_for, with_element}
use Rattle.data_store.specs.Data.{IsArray, array_in, with_array, with_value}
use Rattle.data_store.specs.Stores.{IsArrayAt, Store, array_at, at, changed, datum}
use Rattle.data_store.specs.declared.datum.Content.{Content}
use Rattle.data_store.specs.declared.datum.Content.TheVariants.{OfArray, OfScalar}
use Rattle.data_store.specs.declared.datum.Datum.{Datum}
use Rattle.board_history.specs.Ending.{ContentAfter}
use Rattle.task_code.specs.Compute.{Elements, pairs}
use Rattle.task_code.specs.Effects.{only}
use Rattle.values.specs.Keys.{key_below, same_key}
use Rattle.values.specs.Maps.{element, found, inserted, rising}
use Rattle.values.specs.declared.key.Key.{Key}
use Rattle.values.specs.declared.map.Element.{Element}
use Rattle.values.specs.declared.value.Scalar.{Scalar}
use Rattle.values.proofs.Keys.{below_differs, key_below-trans}
use Rattle.values.proofs.Maps.{found-inserted_other}
use Rattle.board_data.specs.Data.{given, is_keyed, is_unset}
use Rattle.board_data.specs.Stored.{StoresIn, Takes}
use Rattle.board_data.specs.View.{content_view}
use Rattle.board_data.proofs.Changes.{room_less, set_elsewhere, set_here, set_nowhere, with_elements}
use Rattle.board_data.proofs.Given.{differ}
use Rattle.board_data.proofs.Steps.{one_by_one}

-- nothing is stored
same_after : (c : Content) → ContentAfter (content_view c) [] (content_view c)
same_after (OfScalar None) = refl
same_after (OfScalar (Some v)) = refl
same_after (OfArray a) = (pairs a.elements, refl, (λ p i. inl i), (λ p i. elim i [ inl j ↦ j | inr j ↦ absurd j ]))

pub stored_nothing : (xs : Elements) (s t : Store) → t ≡ s → StoresIn None xs s t
stored_nothing xs s t e = record {
  there = λ d x h. (x.content, ap (λ u. at u d) e ∙ h, same_after x.content);
  nothing = λ d h. ap (λ u. at u d) e ∙ h;
}

-- in one datum, where the others stay
module _ (k : ℕ) (xs : Elements) (s t : Store) where
  StoredHere : Type 0
  StoredHere = (x : Datum) → at s k ≡ Some x → (c : Content) × (at t k ≡ Some (record { content = c; reads = x.reads; writes = x.writes })) × ContentAfter (content_view x.content) xs (content_view c)

  pub stored_in : ((x : Datum) → at s k ≡ Some x → (c : Content) × (at t k ≡ Some (record { content = c; reads = x.reads; writes = x.writes })) × ContentAfter (content_view x.content) xs (content_view c)) → (at s k ≡ None → at t k ≡ None) → ((d : ℕ) → d ≢ k → at t d ≡ at s d) → StoresIn (Some k) xs s t
  stored_in here gone others = record {
    there = λ d x e. elim (cases_Bool (nat_eq d k)) [
      | inl y ↦ (let q = eqb-true d k y in
          let h = here x (ap (at s) (sym q) ∙ e) in
          (h.0, ap (at t) q ∙ h.1, subst (λ b. ContentAfter (content_view x.content) (if b then xs else []) (content_view h.0)) (sym y) h.2))
      | inr n ↦ (x.content, others d (differ d k n) ∙ e, subst (λ b. ContentAfter (content_view x.content) (if b then xs else []) (content_view x.content)) (sym n) (same_after x.content))
    ];
    nothing = λ d e. elim (cases_eq d k) [
      | inl q ↦ subst (λ j. at t j ≡ None) (sym q) (gone (ap (at s) (sym q) ∙ e))
      | inr n ↦ others d n ∙ e
    ];
  }

-- a scalar
module _ (d : ℕ) (v : Scalar) (s : Store) where
  given_by : (x : Datum) → at s d ≡ Some x → is_keyed (Some x) ≡ false → (c : Content) × (at (given d v s) d ≡ Some (record { content = c; reads = x.reads; writes = x.writes })) × ContentAfter (content_view x.content) ((only, v) ∷ []) (content_view c)
  given_by x e k = by x.content refl
    where
      test : (b : Bool) → is_unset (Some x) ≡ b → at (given d v s) d ≡ at (if b then changed d (with_value v) s else s) d
      test b q = ap (λ z. at (if z then changed d (with_value v) s else s) d) (ap is_unset e ∙ q)

      by : (c : Content) → x.content ≡ c → (o : Content) × (at (given d v s) d ≡ Some (record { content = o; reads = x.reads; writes = x.writes })) × ContentAfter (content_view x.content) ((only, v) ∷ []) (content_view o)
      by (OfScalar None) q = (
        OfScalar (Some v),
        test true (ap (λ c. is_unset (Some (record { content = c; reads = x.reads; writes = x.writes }))) q) ∙ set_here s d x (option_map (with_value v) (at s d)) e ∙ ap (option_map (with_value v)) e,
        subst (λ c. ContentAfter (content_view c) ((only, v) ∷ []) (content_view (OfScalar (Some v)))) (sym q) refl,
      )
      by (OfScalar (Some w)) q = (
        x.content,
        test false (ap (λ c. is_unset (Some (record { content = c; reads = x.reads; writes = x.writes }))) q) ∙ e,
        subst (λ c. ContentAfter (content_view c) ((only, v) ∷ []) (content_view c)) (sym q) refl,
      )
      by (OfArray a) q = (let n : true ≡ false = sym (ap (λ c. is_keyed (Some (record { content = c; reads = x.reads; writes = x.writes }))) q) ∙ k in absurd cc)

  given_elsewhere : (e : ℕ) → e ≢ d → at (given d v s) e ≡ at s e
  given_elsewhere e n = by (is_unset (at s d))
    where
      by : (b : Bool) → at (if b then changed d (with_value v) s else s) e ≡ at s e
      by true = set_elsewhere s d e (option_map (with_value v) (at s d)) n
      by false = refl

  given_nowhere : at s d ≡ None → at (given d v s) d ≡ None
  given_nowhere e = ap (λ c. at (if is_unset c then changed d (with_value v) s else s) d) e ∙ e

pub stored_scalar : (d : ℕ) (v : Scalar) (s t : Store) → t ≡ given d v s → is_keyed (at s d) ≡ false → StoresIn (Some d) ((only, v) ∷ []) s t
stored_scalar d v s t e k = subst (λ u. StoresIn (Some d) ((only, v) ∷ []) s u) (sym e) (stored_in d ((only, v) ∷ []) s (given d v s) (λ x h. given_by d v s x h (sym (ap is_keyed h) ∙ k)) (given_nowhere d v s) (given_elsewhere d v s))

-- elements
module _ (k : Key) (v : Scalar) where
  inserted_all : (es : List Element) (p : Key × Scalar) → found k es ≡ None → In p (pairs es) → In p (pairs (inserted k v es))
  inserted_all [] p n i = absurd i
  inserted_all (e ∷ es) p n i = elim (cases_Bool (same_key e.key k)) [
    | inl same ↦ (let q : Some e.value ≡ None = sym (ap (λ b. if b then Some e.value else found k es) same) ∙ n in absurd cc)
    | inr other ↦ (let rest : found k es ≡ None = sym (ap (λ b. if b then Some e.value else found k es) other) ∙ n in
        subst (λ b. In p (pairs (if b then element k v ∷ es else (if key_below k e.key then element k v ∷ e ∷ es else e ∷ inserted k v es)))) (sym other) (by (key_below k e.key) (λ h. inserted_all es p rest h)))
  ]
    where
      by : (b : Bool) → (In p (pairs es) → In p (pairs (inserted k v es))) → In p (pairs (if b then element k v ∷ e ∷ es else e ∷ inserted k v es))
      by true rec = inr i
      by false rec = elim i [ inl h ↦ inl h | inr h ↦ inr (rec h) ]

  inserted_new : (es : List Element) → In (k, v) (pairs (inserted k v es))
  inserted_new [] = inl refl
  inserted_new (e ∷ es) = by (same_key e.key k) (key_below k e.key) (inserted_new es)
    where
      by : (a b : Bool) → In (k, v) (pairs (inserted k v es)) → In (k, v) (pairs (if a then element k v ∷ es else (if b then element k v ∷ e ∷ es else e ∷ inserted k v es)))
      by true b rec = inl refl
      by false true rec = inl refl
      by false false rec = inr rec

  inserted_only : (es : List Element) (p : Key × Scalar) → In p (pairs (inserted k v es)) → In p (pairs es) ⊎ In p ((k, v) ∷ [])
  inserted_only [] p i = inr i
  inserted_only (e ∷ es) p i = by (same_key e.key k) (key_below k e.key) (λ h. inserted_only es p h) i
    where
      by : (a b : Bool) → (In p (pairs (inserted k v es)) → In p (pairs es) ⊎ In p ((k, v) ∷ [])) → In p (pairs (if a then element k v ∷ es else (if b then element k v ∷ e ∷ es else e ∷ inserted k v es))) → In p (pairs (e ∷ es)) ⊎ In p ((k, v) ∷ [])
      by true b rec i = elim i [ inl h ↦ inr (inl h) | inr h ↦ inl (inr h) ]
      by false true rec i = elim i [ inl h ↦ inr (inl h) | inr h ↦ inl h ]
      by false false rec i = elim i [ inl h ↦ inl (inl h) | inr h ↦ elim (rec h) [ inl g ↦ inl (inr g) | inr g ↦ inr g ] ]

-- of elements by rising keys the first is below each other one
and_left : (p q : Bool) → (p && q) ≡ true → p ≡ true
and_left true q h = refl
and_left false q h = h

and_right : (p q : Bool) → (p && q) ≡ true → q ≡ true
and_right true q h = h
and_right false q h = absurd cc

below_rest : (e f : Element) (es : List Element) → rising (e ∷ es) ≡ true → In f es → key_below e.key f.key ≡ true
below_rest e f [] r i = absurd i
below_rest e f (g ∷ es) r i =
    let first = and_left (key_below e.key g.key) (rising (g ∷ es)) r in
    elim i [
      | inl h ↦ ap (λ (x : Element). key_below e.key x.key) h ∙ first
      | inr h ↦ key_below-trans e.key g.key f.key first (below_rest g f es (and_right (key_below e.key g.key) (rising (g ∷ es)) r) h)
    ]

rising_rest : (e : Element) (es : List Element) → rising (e ∷ es) ≡ true → rising es ≡ true
rising_rest e [] r = refl
rising_rest e (g ∷ es) r = and_right (key_below e.key g.key) (rising (g ∷ es)) r

module _ (d : ℕ) where
  abbrev pub put_in : Element → Store → Store
  put_in e s = changed d (with_array (with_element e.key e.value)) s

  -- an array that is there
  ArrayIs : Store → Array → Datum → Type 0
  ArrayIs s a x = (at s d ≡ Some x) × (x.content ≡ OfArray a)

  is_there : (s : Store) → IsArrayAt s d → (x : Datum) × (a : Array) × (at s d ≡ Some x) × (x.content ≡ OfArray a)
  is_there s h = by (at s d) refl h
    where
      content : (x : Datum) → at s d ≡ Some x → (c : Content) → x.content ≡ c → IsArray c → (y : Datum) × (a : Array) × (at s d ≡ Some y) × (y.content ≡ OfArray a)
      content x e (OfScalar v) q i = absurd i
      content x e (OfArray a) q i = (x, a, e, q)

      by : (c : Option Datum) → at s d ≡ c → Rattle.std.specs.Prelude.IsSomeAnd c (λ x. IsArray x.content) → (x : Datum) × (a : Array) × (at s d ≡ Some x) × (x.content ≡ OfArray a)
      by None e i = absurd i
      by (Some x) e i = content x e x.content refl i

  put_here : (s : Store) (e : Element) (x : Datum) (a : Array) → at s d ≡ Some x → x.content ≡ OfArray a → at (put_in e s) d ≡ Some (record { content = OfArray (with_element e.key e.value a); reads = x.reads; writes = x.writes })
  put_here s e x a h q = set_here s d x (option_map (with_array (with_element e.key e.value)) (at s d)) h ∙ ap (option_map (with_array (with_element e.key e.value))) h ∙ ap (λ c. Some (record { content = OfArray (with_element e.key e.value (array_in c)); reads = x.reads; writes = x.writes })) q

  array_is : (s : Store) (x : Datum) (a : Array) → at s d ≡ Some x → x.content ≡ OfArray a → array_at s d ≡ a
  array_is s x a h q = ap (λ c. array_in (Rattle.data_store.specs.Stores.or_none c).content) h ∙ ap array_in q

  writes_are : (s : Store) (x : Datum) → at s d ≡ Some x → (datum s d).writes ≡ x.writes
  writes_are s x h = ap (λ c. (Rattle.data_store.specs.Stores.or_none c).writes) h

  -- what it takes of one element and the rest
  pub takes_next : (e : Element) (es : List Element) (s : Store) → Takes d (e ∷ es) s → Takes d es (put_in e s)
  takes_next e es s t =
      let y = is_there s t.is_array in
      let x = y.0 in
      let a = y.1 in
      let now = put_here s e x a y.2 y.3 in
      let new : Datum = record { content = OfArray (with_element e.key e.value a); reads = x.reads; writes = x.writes } in
      let is = array_is (put_in e s) new (with_element e.key e.value a) now refl in
      record {
        is_array = subst (λ c. Rattle.std.specs.Prelude.IsSomeAnd c (λ x. IsArray x.content)) (sym now) tt;
        is_open = subst (λ n. 0 < n) (sym (writes_are (put_in e s) new now)) (subst (λ n. 0 < n) (writes_are s x y.2) t.is_open);
        has_room = λ f i. subst (λ (b : Array). length es ≤ room_for f.key b) (sym is) (room_less f.key e.key e.value a (length es) (subst (λ (b : Array). suc (length es) ≤ room_for f.key b) (array_is s x a y.2 y.3) (t.has_room f (inr i))));
        apart = rising_rest e es t.apart;
        unused = λ f i. ap (λ (b : Array). found f.key b.elements) is ∙ ap (found f.key) (with_elements e.key e.value a) ∙ found-inserted_other e.key f.key e.value a.elements (below_differs e.key f.key (below_rest e f es t.apart i)) ∙ sym (ap (λ (b : Array). found f.key b.elements) (array_is s x a y.2 y.3)) ∙ t.unused f (inr i);
      }

  -- all of them
  put_elsewhere : (es : List Element) (s : Store) (e : ℕ) → e ≢ d → at (one_by_one put_in es s) e ≡ at s e
  put_elsewhere [] s e n = refl
  put_elsewhere (x ∷ es) s e n = put_elsewhere es (put_in x s) e n ∙ set_elsewhere s d e (option_map (with_array (with_element x.key x.value)) (at s d)) n

  put_nowhere : (es : List Element) (s : Store) → at s d ≡ None → at (one_by_one put_in es s) d ≡ None
  put_nowhere [] s e = e
  put_nowhere (x ∷ es) s e = put_nowhere es (put_in x s) (ap (λ c. at (record s { cells = Rattle.std.specs.Prelude.slice_set s.cells d (option_map (with_array (with_element x.key x.value)) c) }) d) e ∙ set_nowhere s.cells d e)

  abbrev Holds : List Element → Array → Array → Type 0
  Holds es a b = ((p : Key × Scalar) → In p (pairs b.elements) → In p (pairs a.elements) ⊎ In p (pairs es)) × ((p : Key × Scalar) → In p (pairs a.elements) ⊎ In p (pairs es) → In p (pairs b.elements))

  put_all : (es : List Element) (s : Store) (x : Datum) (a : Array) → at s d ≡ Some x → x.content ≡ OfArray a → Takes d es s → (b : Array) × (at (one_by_one put_in es s) d ≡ Some (record { content = OfArray b; reads = x.reads; writes = x.writes })) × Holds es a b
  put_all [] s x a h q t = (a, h ∙ ap (λ c. Some (record { content = c; reads = x.reads; writes = x.writes })) q, ((λ p i. inl i), (λ p i. elim i [ inl j ↦ j | inr j ↦ absurd j ])))
  put_all (e ∷ es) s x a h q t =
      let new : Datum = record { content = OfArray (with_element e.key e.value a); reads = x.reads; writes = x.writes } in
      let r = put_all es (put_in e s) new (with_element e.key e.value a) (put_here s e x a h q) refl (takes_next e es s t) in
      let none : found e.key a.elements ≡ None = sym (ap (λ (b : Array). found e.key b.elements) (array_is s x a h q)) ∙ t.unused e (inl refl) in (
        r.0,
        r.1,
        (
          (λ p i. elim (r.2.0 p i) [
            | inl j ↦ elim (inserted_only e.key e.value a.elements p (subst (λ (xs : List Element). In p (pairs xs)) (with_elements e.key e.value a) j)) [ inl g ↦ inl g | inr g ↦ elim g [ inl w ↦ inr (inl w) | inr w ↦ absurd w ] ]
            | inr j ↦ inr (inr j)
          ]),
          (λ p i. r.2.1 p (elim i [
            | inl j ↦ inl (subst (λ (xs : List Element). In p (pairs xs)) (sym (with_elements e.key e.value a)) (inserted_all e.key e.value a.elements p none j))
            | inr j ↦ elim j [
              | inl w ↦ inl (subst (λ (xs : List Element). In p (pairs xs)) (sym (with_elements e.key e.value a)) (let P : Key × Scalar → Type 0 = λ z. In z (pairs (inserted e.key e.value a.elements)) in subst P (sym w) (inserted_new e.key e.value a.elements)))
              | inr w ↦ inr w
            ]
          ])),
        ),
      )

  put_stored : (es : List Element) (s : Store) → Takes d es s → StoresIn (Some d) (pairs es) s (one_by_one put_in es s)
  put_stored es s t = stored_in d (pairs es) s (one_by_one put_in es s) here (put_nowhere es s) (put_elsewhere es s)
    where
      here : (x : Datum) → at s d ≡ Some x → (c : Content) × (at (one_by_one put_in es s) d ≡ Some (record { content = c; reads = x.reads; writes = x.writes })) × ContentAfter (content_view x.content) (pairs es) (content_view c)
      here x h =
          let y = is_there s t.is_array in
          let same : Some y.0 ≡ Some x = sym y.2 ∙ h in
          let e : y.0 ≡ x = cc in
          let q : x.content ≡ OfArray y.1 = ap (λ (z : Datum). z.content) (sym e) ∙ y.3 in
          let r = put_all es s x y.1 h q t in
          (OfArray r.0, r.1, subst (λ c. ContentAfter (content_view c) (pairs es) (content_view (OfArray r.0))) (sym q) (pairs r.0.elements, refl, r.2.0, r.2.1))

  -- one by one, as far as they are taken
  pub step_stored : (e : Element) (es : List Element) (s t u : Store) → Takes d (e ∷ es) s → one_by_one put_in (e ∷ es) s ≡ u → (IsArrayAt s d → 0 < (datum s d).writes → found e.key (array_at s d).elements ≡ None → 0 < room_for e.key (array_at s d) → t ≡ changed d (with_array (with_element e.key e.value)) s) → Takes d es t × (one_by_one put_in es t ≡ u)
  step_stored e es s t u k o step =
      let q = step k.is_array k.is_open (k.unused e (inl refl)) (some (length es) (room_for e.key (array_at s d)) (k.has_room e (inl refl))) in
      (subst (λ z. Takes d es z) (sym q) (takes_next e es s k), ap (one_by_one put_in es) q ∙ o)
    where
      some : (n r : ℕ) → suc n ≤ r → 0 < r
      some n r h = omega (arith, h)

  pub end_stored : (es : List Element) (s t : Store) → Takes d es s → t ≡ one_by_one put_in es s → StoresIn (Some d) (pairs es) s t
  end_stored es s t k e = subst (λ z. StoresIn (Some d) (pairs es) s z) (sym e) (put_stored es s k)

-- none is left
pub last_stored : (d : ℕ) (all es : List Element) (s t : Store) → length es ≡ 0 → (Takes d all s → Takes d es t × (one_by_one (put_in d) es t ≡ one_by_one (put_in d) all s)) → Takes d all s → StoresIn (Some d) (pairs all) s t
last_stored d all [] s t h so k = end_stored d all s t k (so k).1
last_stored d all (e ∷ es) s t h so k = absurd (omega (arith, h))
