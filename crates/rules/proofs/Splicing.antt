-- Notes that are taken out of their lists.
use Rattle.std.proofs.Common.{arith, ◌≡◌, ◌≢◌, inl, inr, ℕ, ◌+◌, ◌-◌, ◌<◌, ◌%◌, List, length, set, get_or, refl, sym, ap, subst, ◌∙◌}
use Rattle.std.proofs.lemmas.Bool.{cases_eq, cases_lt}
use Rattle.std.proofs.lemmas.List.{get_or-set_same, get_or-set_other, length-set}
use Rattle.rules.specs.declared.subscribers.SlotNote.{SlotNote}
use Rattle.rules.specs.Places.{blank, no_slot, note_at, Noted, IsAllBut, IsLast, IsLinked}

-- of the same addresses, and of no more slots
record IsThinner (old new : List SlotNote) : Type 0 where
  size : length new ≡ length old
  addresses : (j : ℕ) → (note_at new j).address ≡ (note_at old j).address
  slots : (j : ℕ) → (note_at new j).slot ≢ no_slot → (note_at old j).slot ≢ no_slot

last_thinner : (n : ℕ) (old new : List SlotNote) (b c end : ℕ) → IsThinner old new → IsLast n old b c end → IsLast n new b c end
last_thinner n old new b c end thin l = record {
  within = l.within;
  last = λ p. ap (λ a. a % n) (thin.addresses (c - 1)) ∙ l.last p;
  others = λ j from to real e. l.others j from to (thin.slots j real) (ap (λ a. a % n) (sym (thin.addresses j)) ∙ e);
}

thin_same : (notes : List SlotNote) → IsThinner notes notes
thin_same notes = record { size = refl; addresses = λ j. refl; slots = λ j h. h }

-- what one note more or less says of the others
set_field : (f : SlotNote → ℕ) (notes : List SlotNote) (i : ℕ) (x : SlotNote) → i < length notes → f x ≡ f (note_at notes i) → (j : ℕ) → f (note_at (set notes i x) j) ≡ f (note_at notes j)
set_field f notes i x below same j =
    elim (cases_eq j i) [
      | inl e ↦ subst (λ m. f (note_at (set notes i x) m) ≡ f (note_at notes m)) (sym e) (ap f (get_or-set_same notes i x blank below) ∙ same)
      | inr differs ↦ ap f (get_or-set_other notes i j x blank differs)
    ]

thin_retired : (notes : List SlotNote) (i : ℕ) (x : SlotNote) → i < length notes → x.address ≡ (note_at notes i).address → x.slot ≡ no_slot → IsThinner notes (set notes i x)
thin_retired notes i x below address gone = record {
  size = length-set notes i x;
  addresses = set_field (λ n. n.address) notes i x below address;
  slots = λ j real. elim (cases_eq j i) as (λ _. (note_at notes j).slot ≢ no_slot) [
    | inl e ↦ absurd (real (ap (λ m. (note_at (set notes i x) m).slot) e ∙ ap (λ n. n.slot) (get_or-set_same notes i x blank below) ∙ gone))
    | inr differs ↦ λ q. real (ap (λ n. n.slot) (get_or-set_other notes i j x blank differs) ∙ q)
  ];
}

thin_moved : (notes : List SlotNote) (i : ℕ) (x : SlotNote) → i < length notes → x.address ≡ (note_at notes i).address → x.slot ≡ (note_at notes i).slot → IsThinner notes (set notes i x)
thin_moved notes i x below address slot = record {
  size = length-set notes i x;
  addresses = set_field (λ n. n.address) notes i x below address;
  slots = λ j real q. real (set_field (λ n. n.slot) notes i x below slot j ∙ q);
}

-- other heads and other links, which lead to the notes that there were
linked_from : (heads new : List ℕ) (notes after : List SlotNote) → length new ≡ length heads → IsThinner notes after
    → ((b : ℕ) → b < length heads → IsLast (length heads) notes b (get_or new b 0) (length notes))
    → ((i : ℕ) → i < length notes → IsLast (length heads) notes ((note_at notes i).address % length heads) (note_at after i).earlier i)
    → (length heads ≡ 0 → length notes ≡ 0) → IsLinked new after
linked_from heads new notes after same thin tops links bare = record {
  tops = λ b h. subst (λ m. IsLast m after b (get_or new b 0) (length after)) (sym same)
      (subst (λ m. IsLast (length heads) after b (get_or new b 0) m) (sym thin.size)
      (last_thinner (length heads) notes after b (get_or new b 0) (length notes) thin (tops b (subst (λ m. b < m) same h))));
  links = λ i h. subst (λ m. IsLast m after ((note_at after i).address % m) (note_at after i).earlier i) (sym same)
      (subst (λ a. IsLast (length heads) after (a % length heads) (note_at after i).earlier i) (sym (thin.addresses i))
      (last_thinner (length heads) notes after ((note_at notes i).address % length heads) (note_at after i).earlier i thin (links i (subst (λ m. i < m) thin.size h))));
  none = λ e. thin.size ∙ bare (sym same ∙ e);
}

-- a link that leads past a note of no slot
past : (n : ℕ) (notes : List SlotNote) (b number end : ℕ) → IsLast n notes b (number + 1) end → (note_at notes number).slot ≡ no_slot
    → IsLast n notes ((note_at notes number).address % n) (note_at notes number).earlier number → IsLast n notes b (note_at notes number).earlier end
past n notes b number end l gone link =
    let here : (note_at notes number).address % n ≡ b = subst (λ m. (note_at notes m).address % n ≡ b) (omega arith) (l.last (omega arith)) in
    record {
      within = omega (arith, l.within, link.within);
      last = λ p. link.last p ∙ here;
      others = λ j from to real e. elim (cases_lt j number) [
        | inl below ↦ link.others j from below real (e ∙ sym here)
        | inr above ↦ elim (cases_eq j number) [
          | inl same ↦ real (ap (λ m. (note_at notes m).slot) same ∙ gone)
          | inr differs ↦ l.others j (omega (arith, above, differs)) to real e
        ]
      ];
    }

-- a note is of no slot any more
pub linked_retired : (heads : List ℕ) (notes : List SlotNote) (i : ℕ) (x : SlotNote) → i < length notes → x.address ≡ (note_at notes i).address → x.slot ≡ no_slot → x.earlier ≡ (note_at notes i).earlier
    → IsLinked heads notes → IsLinked heads (set notes i x)
linked_retired heads notes i x below address gone earlier old =
    linked_from heads heads notes (set notes i x) refl (thin_retired notes i x below address gone) old.tops
    (λ j h. subst (λ c. IsLast (length heads) notes ((note_at notes j).address % length heads) c j) (sym (set_field (λ n. n.earlier) notes i x below earlier j)) (old.links j h)) old.none

-- a head leads past it
pub linked_first : (heads : List ℕ) (notes : List SlotNote) (list number : ℕ) → number < length notes → list < length heads → get_or heads list 0 ≡ number + 1 → (note_at notes number).slot ≡ no_slot
    → IsLinked heads notes → IsLinked (set heads list (note_at notes number).earlier) notes
linked_first heads notes list number below fits leads gone old =
    let x = (note_at notes number).earlier in
    linked_from heads (set heads list x) notes notes (length-set heads list x) (thin_same notes)
    (λ b h. elim (cases_eq b list) as (λ _. IsLast (length heads) notes b (get_or (set heads list x) b 0) (length notes)) [
      | inl e ↦ subst (λ c. IsLast (length heads) notes b c (length notes)) (sym (ap (λ m. get_or (set heads list x) m 0) e ∙ get_or-set_same heads list x 0 fits))
          (past (length heads) notes b number (length notes) (subst (λ c. IsLast (length heads) notes b c (length notes)) (ap (λ m. get_or heads m 0) e ∙ leads) (old.tops b h)) gone (old.links number below))
      | inr differs ↦ subst (λ c. IsLast (length heads) notes b c (length notes)) (sym (get_or-set_other heads list b x 0 differs)) (old.tops b h)
    ]) old.links old.none

-- a note leads past it
pub linked_next : (heads : List ℕ) (notes : List SlotNote) (i number : ℕ) (x : SlotNote) → number < length notes → i < length notes → (note_at notes i).earlier ≡ number + 1 → (note_at notes number).slot ≡ no_slot
    → x.address ≡ (note_at notes i).address → x.slot ≡ (note_at notes i).slot → x.earlier ≡ (note_at notes number).earlier
    → IsLinked heads notes → IsLinked heads (set notes i x)
linked_next heads notes i number x below fits leads gone address slot earlier old =
    linked_from heads heads notes (set notes i x) refl (thin_moved notes i x fits address slot) old.tops
    (λ j h. elim (cases_eq j i) as (λ _. IsLast (length heads) notes ((note_at notes j).address % length heads) (note_at (set notes i x) j).earlier j) [
      | inl e ↦ subst (λ c. IsLast (length heads) notes ((note_at notes j).address % length heads) c j) (sym (ap (λ m. (note_at (set notes i x) m).earlier) e ∙ ap (λ n. n.earlier) (get_or-set_same notes i x blank fits) ∙ earlier))
          (past (length heads) notes ((note_at notes j).address % length heads) number j (subst (λ c. IsLast (length heads) notes ((note_at notes j).address % length heads) c j) (ap (λ m. (note_at notes m).earlier) e ∙ leads) (old.links j h)) gone (old.links number below))
      | inr differs ↦ subst (λ c. IsLast (length heads) notes ((note_at notes j).address % length heads) c j) (sym (ap (λ n. n.earlier) (get_or-set_other notes i j x blank differs))) (old.links j h)
    ]) old.none

-- what the others note
pub all_retired : (old new : Noted) (i : ℕ) (x : SlotNote) → new ≡ record old { notes = set old.notes i x } → i < length old.notes → x.address ≡ (note_at old.notes i).address → IsAllBut old new i
all_retired old new i x is below address = rw is (record {
  lists = refl;
  strays = refl;
  place = refl;
  size = length-set old.notes i x;
  addresses = set_field (λ n. n.address) old.notes i x below address;
  slots = λ j differs. ap (λ n. n.slot) (get_or-set_other old.notes i j x blank differs);
})

pub all_moved : (old new : Noted) (number i : ℕ) (x : SlotNote) → new ≡ record old { notes = set old.notes i x } → i < length old.notes → x.address ≡ (note_at old.notes i).address → x.slot ≡ (note_at old.notes i).slot → IsAllBut old new number
all_moved old new number i x is below address slot = rw is (record {
  lists = refl;
  strays = refl;
  place = refl;
  size = length-set old.notes i x;
  addresses = set_field (λ n. n.address) old.notes i x below address;
  slots = λ j differs. set_field (λ n. n.slot) old.notes i x below slot j;
})

pub all_same : (old new : Noted) (number : ℕ) → new ≡ old → IsAllBut old new number
all_same old new number is = rw is (record { lists = refl; strays = refl; place = refl; size = refl; addresses = λ j. refl; slots = λ j d. refl })

pub all_on : (a b c : Noted) (number : ℕ) → IsAllBut a b number → IsAllBut b c number → IsAllBut a c number
all_on a b c number g h = record {
  lists = h.lists ∙ g.lists;
  strays = h.strays ∙ g.strays;
  place = h.place ∙ g.place;
  size = h.size ∙ g.size;
  addresses = λ j. h.addresses j ∙ g.addresses j;
  slots = λ j d. h.slots j d ∙ g.slots j d;
}
