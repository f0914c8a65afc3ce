-- Data for one variable more.
use Rattle.std.proofs.Common.{◌≡◌, ◌≢◌, ◌⊎◌, ◌∙◌, refl, sym, ap, subst, inl, inr, ℕ, ◌<◌, ◌≤◌, ◌+◌, List, length, get_or, Option, Some, None, arith}
use Rattle.std.specs.Prelude.{slice_set}
use Rattle.std.specs.List.{slice_get}
use Rattle.std.proofs.lemmas.Bool.{cases_eq}
use Rattle.std.proofs.lemmas.List.{get_or-set_same, get_or-set_other}
use Rattle.std.proofs.lemmas.Option.{slice_get-get_or}
use Rattle.data_store.specs.Stores.{Store, at}
use Rattle.data_store.specs.declared.datum.Datum.{Datum}
use Rattle.board_program.specs.declared.program.LocalVariable.{LocalVariable}
use Rattle.board_instances.specs.declared.instance.Slot.{Slot}
use Rattle.board_instances.specs.declared.instance.Slot.TheVariants as Slots
use Rattle.board_data.specs.Made.{DataMade, Makes, NewAt, new_datum, slot_in}
use Rattle.values.specs.declared.value.Scalar.{Scalar}

some_none : {X : Type 0} (r : Option X) (x : X) → r ≡ Some x → r ≡ None → ⊥
some_none r x s n = let e : Some x ≡ None = sym s ∙ n in absurd cc

-- below one more: below, or the last
below : (i n : ℕ) → i < n + 1 → (i < n) ⊎ (i ≡ n)
below i n h = elim (cases_eq i n) [ inl e ↦ inr e | inr d ↦ inl (omega (arith, h, d)) ]

apart_of : (i n : ℕ) → i < n → i ≢ n
apart_of i n h e = omega (arith, h, e)

module _ (own : List LocalVariable) (first : ℕ → Option Scalar) (n : ℕ) (old mid : Store) (xs : List Slot) (o : LocalVariable) (slot : Slot) (so : DataMade own first n old xs mid) (is : slice_get own n ≡ Some o) (most : n < length own) (room : n < length xs) where
  after : List Slot
  after = slice_set xs n slot

  last : slot_in (slice_set xs n slot) n ≡ slot
  last = get_or-set_same xs n slot Slots.Absent room

  other : (i : ℕ) → i < n → slot_in (slice_set xs n slot) i ≡ slot_in xs i
  other i h = get_or-set_other xs n i slot Slots.Absent (apart_of i n h)

  same_own : (i : ℕ) (p : LocalVariable) → i ≡ n → slice_get own i ≡ Some p → p ≡ o
  same_own i p e s = let q : Some p ≡ Some o = sym s ∙ ap (slice_get own) e ∙ is in cc

  last_at : (i : ℕ) → i ≡ n → slot_in (slice_set xs n slot) i ≡ slot
  last_at i e = ap (slot_in (slice_set xs n slot)) e ∙ last

  -- a slot that names a datum names one that is there
  named : (i d : ℕ) → i < n → slot_in xs i ≡ Slots.Datum d → (x : Datum) × (at mid d ≡ Some x)
  named i d h e = elim (cases_eq (p.reads + p.writes) 0) [
    | inl none ↦ (let q : Slots.Absent ≡ Slots.Datum d = sym (so.absent i p h got none) ∙ e in absurd cc)
    | inr some ↦ (let m = so.made i p h got (omega (arith, some)) in
        let q : Slots.Datum m.key ≡ Slots.Datum d = sym m.slot_is ∙ e in
        let k : m.key ≡ d = cc in
        (new_datum p (first i), ap (at mid) (sym k) ∙ m.has))
  ]
    where
      p : LocalVariable
      p = get_or own i o

      got : slice_get own i ≡ Some (get_or own i o)
      got = slice_get-get_or own i o (omega (arith, h, most))

  -- nobody names it: nothing is made
  pub made_nothing : (new : Store) → o.reads + o.writes ≡ 0 → slot ≡ Slots.Absent → new ≡ mid → DataMade own first (n + 1) old (slice_set xs n slot) new
  made_nothing new none absent same = subst (λ s. DataMade own first (n + 1) old (slice_set xs n slot) s) (sym same) (record {
    absent = λ i p h s z. elim (below i n h) [ inl m ↦ other i m ∙ so.absent i p m s z | inr e ↦ last_at i e ∙ absent ];
    made = λ i p h s z. elim (below i n h) [
      | inl m ↦ subst (λ (y : Slot). NewAt old y (new_datum p (first i)) mid) (sym (other i m)) (so.made i p m s z)
      | inr e ↦ absurd (omega (arith, none, z, ap (λ (q : LocalVariable). q.reads + q.writes) (same_own i p e s)))
    ];
    apart = λ i j d h g a b. elim (below i n h) [
      | inl m ↦ elim (below j n g) [
        | inl k ↦ so.apart i j d m k (sym (other i m) ∙ a) (sym (other j k) ∙ b)
        | inr e ↦ (let q : Slots.Absent ≡ Slots.Datum d = sym absent ∙ sym (last_at j e) ∙ b in absurd cc)
      ]
      | inr e ↦ (let q : Slots.Absent ≡ Slots.Datum d = sym absent ∙ sym (last_at i e) ∙ a in absurd cc)
    ];
    older = so.older;
    only = λ d x h. elim (so.only d x h) [ inl e ↦ inl e | inr w ↦ inr (w.0, omega (arith, w.1), other w.0 w.1 ∙ w.2) ];
    room = omega (arith, so.room);
  })

  -- a datum is made for it
  pub made_one : (new : Store) → 0 < o.reads + o.writes → Makes mid (new_datum o (first n)) slot new → DataMade own first (n + 1) old (slice_set xs n slot) new
  made_one new some m = record {
    absent = λ i p h s z. elim (below i n h) [
      | inl l ↦ other i l ∙ so.absent i p l s z
      | inr e ↦ absurd (omega (arith, some, z, ap (λ (q : LocalVariable). q.reads + q.writes) (same_own i p e s)))
    ];
    made = λ i p h s z. elim (below i n h) [
      | inl l ↦ (let y = so.made i p l s z in
          record { key = y.key; slot_is = other i l ∙ y.slot_is; was_free = y.was_free; has = m.others y.key (differs y.key (new_datum p (first i)) y.has) ∙ y.has })
      | inr e ↦ record { key = m.key; slot_is = last_at i e ∙ m.slot_is; was_free = free m.key m.was_free; has = m.has ∙ ap Some (ap (λ (q : LocalVariable). new_datum q (first n)) (sym (same_own i p e s)) ∙ ap (λ k. new_datum p (first k)) (sym e)) }
    ];
    apart = λ i j d h g a b. elim (below i n h) [
      | inl l ↦ elim (below j n g) [
        | inl k ↦ so.apart i j d l k (sym (other i l) ∙ a) (sym (other j k) ∙ b)
        | inr e ↦ absurd (taken i d l (sym (other i l) ∙ a) (sym (last_at j e) ∙ b))
      ]
      | inr e ↦ elim (below j n g) [
        | inl k ↦ absurd (taken j d k (sym (other j k) ∙ b) (sym (last_at i e) ∙ a))
        | inr f ↦ e ∙ sym f
      ]
    ];
    older = λ d x h. let s = so.older d x h in m.others d (differs d x s) ∙ s;
    only = λ d x h. elim (cases_eq d m.key) [
      | inl e ↦ inr (n, omega arith, last ∙ m.slot_is ∙ ap Slots.Datum (sym e))
      | inr e ↦ elim (so.only d x (sym (m.others d e) ∙ h)) [ inl f ↦ inl f | inr w ↦ inr (w.0, omega (arith, w.1), other w.0 w.1 ∙ w.2) ]
    ];
    room = omega (arith, so.room, m.room);
  }
    where
      differs : (d : ℕ) (x : Datum) → at mid d ≡ Some x → d ≢ m.key
      differs d x s e = some_none (at mid d) x s (ap (at mid) e ∙ m.was_free)

      free : (d : ℕ) → at mid d ≡ None → at old d ≡ None
      free d e = by (at old d) refl
        where
          by : (r : Option Datum) → at old d ≡ r → r ≡ None
          by None q = refl
          by (Some x) q = absurd (some_none (at mid d) x (so.older d x q) e)

      taken : (i d : ℕ) → i < n → slot_in xs i ≡ Slots.Datum d → slot ≡ Slots.Datum d → ⊥
      taken i d l a b =
          let q : Slots.Datum m.key ≡ Slots.Datum d = sym m.slot_is ∙ b in
          let k : m.key ≡ d = cc in
          let y = named i d l a in
          some_none (at mid d) y.0 y.1 (ap (at mid) (sym k) ∙ m.was_free)

-- one variable more
pub made_next : (own : List LocalVariable) (first : ℕ → Option Scalar) (n : ℕ) (old mid new : Store) (xs ys : List Slot) (d : LocalVariable) (v : Option Scalar) (slot : Slot) →
    DataMade own first n old xs mid → n < length own → n < length xs → ys ≡ slice_set xs n slot → v ≡ first n →
    ((get_or own n d).reads + (get_or own n d).writes ≡ 0 → slot ≡ Slots.Absent) → ((get_or own n d).reads + (get_or own n d).writes ≡ 0 → new ≡ mid) →
    (0 < (get_or own n d).reads + (get_or own n d).writes → Makes mid (new_datum (get_or own n d) v) slot new) → DataMade own first (n + 1) old ys new
made_next own first n old mid new xs ys d v slot so most room ys_is v_is absent same makes =
    subst (λ zs. DataMade own first (n + 1) old zs new) (sym ys_is) (elim (cases_eq ((get_or own n d).reads + (get_or own n d).writes) 0) [
      | inl z ↦ made_nothing own first n old mid xs (get_or own n d) slot so (slice_get-get_or own n d most) most room new z (absent z) (same z)
      | inr s ↦ (let p : 0 < (get_or own n d).reads + (get_or own n d).writes = omega (arith, s) in
          made_one own first n old mid xs (get_or own n d) slot so (slice_get-get_or own n d most) most room new p (subst (λ (w : Option Scalar). Makes mid (new_datum (get_or own n d) w) slot new) v_is (makes p)))
    ])

-- room for one less, where nothing or one is made
pub room_next : (most : ℕ) (mid new : Store) (n : ℕ) (o : LocalVariable) (v : Option Scalar) (slot : Slot) → most ≤ mid.room + n → (o.reads + o.writes ≡ 0 → new ≡ mid) → (0 < o.reads + o.writes → Makes mid (new_datum o v) slot new) → most ≤ new.room + (n + 1)
room_next most mid new n o v slot h same makes = elim (cases_eq (o.reads + o.writes) 0) [
  | inl z ↦ omega (arith, h, ap (λ (s : Store). s.room) (same z))
  | inr s ↦ omega (arith, h, (makes (omega (arith, s))).room)
]
