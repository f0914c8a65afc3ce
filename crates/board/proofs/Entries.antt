-- The numbers of a priority among entries that come and go.
use Rattle.std.proofs.Common.{◌≡◌, ◌⊎◌, inl, inr, ℕ, Bool, true, false, cond, ◌||◌, List, [], ◌∷◌, refl, sym, ap, ◌∙◌, subst, if◌then◌else◌, arith}
use Rattle.std.specs.Prelude.{ℤ}
use Rattle.std.specs.Ordering.{int_eq}
use Rattle.std.proofs.lemmas.Int.{ints}
use Rattle.dataflow.specs.System.{Distinct, In}
use Rattle.board_history.proofs.Tests.{choose, yes_no}
use Rattle.work_queue.specs.declared.entry.QueueEntry.{QueueEntry}
use Rattle.work_queue.specs.Entries.{erased, holds, inserted}
use Rattle.work_queue.specs.Order.{precedes, same}
use Rattle.work_queue.proofs.OrderLaws.{equal_same, same_itself}
use Rattle.board_items.specs.View.{numbers_at}
use Rattle.std.proofs.lemmas.Bool.{or_right}

pub int_sound : (a b : ℤ) → int_eq a b ≡ true → a ≡ b
int_sound a b h = grind (arith, ints)

pub int_same : (a b : ℤ) → a ≡ b → int_eq a b ≡ true
int_same a b h = grind (arith, ints)

entry_same : (x y : QueueEntry) → x.no ≡ y.no → x.priority ≡ y.priority → x ≡ y
entry_same x y e f = λ i. record { priority = f i; no = e i }

-- one entry in front
abbrev front : ℤ → QueueEntry → List ℕ → List ℕ
front z y l = if int_eq y.priority z then y.no ∷ l else l

front_split : (z : ℤ) (y : QueueEntry) (l : List ℕ) (m : ℕ) → In m (front z y l) → ((m ≡ y.no) × (y.priority ≡ z)) ⊎ In m l
front_split z y l m =
    choose (λ (ns : List ℕ). In m ns → ((m ≡ y.no) × (y.priority ≡ z)) ⊎ In m l) (int_eq y.priority z) (y.no ∷ l) l
    (λ b h. elim h [ inl e ↦ inl (e, int_sound y.priority z b) | inr g ↦ inr g ])
    (λ b h. inr h)

front_here : (z : ℤ) (y : QueueEntry) (l : List ℕ) → y.priority ≡ z → In y.no (front z y l)
front_here z y l e =
    choose (λ (ns : List ℕ). In y.no ns) (int_eq y.priority z) (y.no ∷ l) l
    (λ b. inl refl)
    (λ b. yes_no (int_same y.priority z e) b)

front_later : (z : ℤ) (y : QueueEntry) (l : List ℕ) (m : ℕ) → In m l → In m (front z y l)
front_later z y l m h =
    choose (λ (ns : List ℕ). In m ns) (int_eq y.priority z) (y.no ∷ l) l
    (λ b. inr h)
    (λ b. h)

front_once : (z : ℤ) (y : QueueEntry) (l : List ℕ) → Distinct l → (In y.no l → ⊥) → Distinct (front z y l)
front_once z y l d not =
    choose (λ (ns : List ℕ). Distinct ns) (int_eq y.priority z) (y.no ∷ l) l
    (λ b. (not, d))
    (λ b. d)

once_behind : (z : ℤ) (y : QueueEntry) (l : List ℕ) → Distinct (front z y l) → Distinct l
once_behind z y l =
    choose (λ (ns : List ℕ). Distinct ns → Distinct l) (int_eq y.priority z) (y.no ∷ l) l
    (λ b d. d.1)
    (λ b d. d)

once_front : (z : ℤ) (y : QueueEntry) (l : List ℕ) → Distinct (front z y l) → y.priority ≡ z → In y.no l → ⊥
once_front z y l =
    choose (λ (ns : List ℕ). Distinct ns → y.priority ≡ z → In y.no l → ⊥) (int_eq y.priority z) (y.no ∷ l) l
    (λ b d e. d.0)
    (λ b d e. yes_no (int_same y.priority z e) b)

-- a number comes
pub inserted_new : (x : QueueEntry) (es : List QueueEntry) → In x.no (numbers_at x.priority (inserted x es))
inserted_new x [] = front_here x.priority x [] refl
inserted_new x (y ∷ ys) =
    elim (precedes x y) as (λ b. In x.no (numbers_at x.priority (cond b (x ∷ y ∷ ys) (y ∷ inserted x ys)))) [
      | true ↦ front_here x.priority x (numbers_at x.priority (y ∷ ys)) refl
      | false ↦ front_later x.priority y (numbers_at x.priority (inserted x ys)) x.no (inserted_new x ys)
    ]

pub inserted_old : (z : ℤ) (m : ℕ) (x : QueueEntry) (es : List QueueEntry) → In m (numbers_at z es) → In m (numbers_at z (inserted x es))
inserted_old z m x [] h = absurd h
inserted_old z m x (y ∷ ys) h =
    elim (precedes x y) as (λ b. In m (numbers_at z (cond b (x ∷ y ∷ ys) (y ∷ inserted x ys)))) [
      | true ↦ front_later z x (numbers_at z (y ∷ ys)) m h
      | false ↦ by (front_split z y (numbers_at z ys) m h) (λ g. inserted_old z m x ys g)
    ]
  where
    by : ((m ≡ y.no) × (y.priority ≡ z)) ⊎ In m (numbers_at z ys) → (In m (numbers_at z ys) → In m (numbers_at z (inserted x ys))) → In m (front z y (numbers_at z (inserted x ys)))
    by (inl p) f = subst (λ (k : ℕ). In k (front z y (numbers_at z (inserted x ys)))) (sym p.0) (front_here z y (numbers_at z (inserted x ys)) p.1)
    by (inr g) f = front_later z y (numbers_at z (inserted x ys)) m (f g)

pub inserted_only : (z : ℤ) (m : ℕ) (x : QueueEntry) (es : List QueueEntry) → In m (numbers_at z (inserted x es)) → ((m ≡ x.no) × (x.priority ≡ z)) ⊎ In m (numbers_at z es)
inserted_only z m x [] h = front_split z x [] m h
inserted_only z m x (y ∷ ys) t =
    elim (precedes x y) as (λ b. In m (numbers_at z (cond b (x ∷ y ∷ ys) (y ∷ inserted x ys))) → ((m ≡ x.no) × (x.priority ≡ z)) ⊎ In m (numbers_at z (y ∷ ys))) [
      | true ↦ λ h. front_split z x (numbers_at z (y ∷ ys)) m h
      | false ↦ λ h. by (front_split z y (numbers_at z (inserted x ys)) m h) (λ g. inserted_only z m x ys g)
    ] t
  where
    by : ((m ≡ y.no) × (y.priority ≡ z)) ⊎ In m (numbers_at z (inserted x ys)) → (In m (numbers_at z (inserted x ys)) → ((m ≡ x.no) × (x.priority ≡ z)) ⊎ In m (numbers_at z ys)) → ((m ≡ x.no) × (x.priority ≡ z)) ⊎ In m (front z y (numbers_at z ys))
    by (inl p) f = inr (subst (λ (k : ℕ). In k (front z y (numbers_at z ys))) (sym p.0) (front_here z y (numbers_at z ys) p.1))
    by (inr g) f = elim (f g) [ inl p ↦ inl p | inr q ↦ inr (front_later z y (numbers_at z ys) m q) ]

pub inserted_once : (z : ℤ) (x : QueueEntry) (es : List QueueEntry) → Distinct (numbers_at z es) → (In x.no (numbers_at z es) → ⊥) → Distinct (numbers_at z (inserted x es))
inserted_once z x [] d not = front_once z x [] d not
inserted_once z x (y ∷ ys) d not =
    elim (precedes x y) as (λ b. Distinct (numbers_at z (cond b (x ∷ y ∷ ys) (y ∷ inserted x ys)))) [
      | true ↦ front_once z x (numbers_at z (y ∷ ys)) d not
      | false ↦ by (inserted_once z x ys (once_behind z y (numbers_at z ys) d) (λ g. not (front_later z y (numbers_at z ys) x.no g)))
    ]
  where
    by : Distinct (numbers_at z (inserted x ys)) → Distinct (front z y (numbers_at z (inserted x ys)))
    by e =
        choose (λ (ns : List ℕ). Distinct ns) (int_eq y.priority z) (y.no ∷ numbers_at z (inserted x ys)) (numbers_at z (inserted x ys))
        (λ b. (
          λ h. elim (inserted_only z y.no x ys h) [
            | inl p ↦ not (subst (λ (k : ℕ). In k (front z y (numbers_at z ys))) p.0 (front_here z y (numbers_at z ys) (int_sound y.priority z b)))
            | inr g ↦ once_front z y (numbers_at z ys) d (int_sound y.priority z b) g
          ],
          e,
        ))
        (λ b. e)

-- a number goes
pub erased_only : (z : ℤ) (m : ℕ) (x : QueueEntry) (es : List QueueEntry) → In m (numbers_at z (erased x es)) → In m (numbers_at z es)
erased_only z m x [] h = h
erased_only z m x (y ∷ ys) t =
    elim (same x y) as (λ b. In m (numbers_at z (cond b ys (y ∷ erased x ys))) → In m (numbers_at z (y ∷ ys))) [
      | true ↦ λ h. front_later z y (numbers_at z ys) m h
      | false ↦ λ h. by (front_split z y (numbers_at z (erased x ys)) m h) (λ g. erased_only z m x ys g)
    ] t
  where
    by : ((m ≡ y.no) × (y.priority ≡ z)) ⊎ In m (numbers_at z (erased x ys)) → (In m (numbers_at z (erased x ys)) → In m (numbers_at z ys)) → In m (front z y (numbers_at z ys))
    by (inl p) f = subst (λ (k : ℕ). In k (front z y (numbers_at z ys))) (sym p.0) (front_here z y (numbers_at z ys) p.1)
    by (inr g) f = front_later z y (numbers_at z ys) m (f g)

pub erased_old : (z : ℤ) (m : ℕ) (x : QueueEntry) (es : List QueueEntry) → In m (numbers_at z es) → (m ≡ x.no → x.priority ≡ z → ⊥) → In m (numbers_at z (erased x es))
erased_old z m x [] h not = h
erased_old z m x (y ∷ ys) h not =
    elim (same x y) as (λ b. same x y ≡ b → In m (numbers_at z (cond b ys (y ∷ erased x ys)))) [
      | true ↦ λ e. gone (equal_same x y e) (front_split z y (numbers_at z ys) m h)
      | false ↦ λ e. by (front_split z y (numbers_at z ys) m h) (λ g. erased_old z m x ys g not)
    ] refl
  where
    gone : x ≡ y → ((m ≡ y.no) × (y.priority ≡ z)) ⊎ In m (numbers_at z ys) → In m (numbers_at z ys)
    gone e (inl p) = absurd (not (p.0 ∙ ap (λ (q : QueueEntry). q.no) (sym e)) (ap (λ (q : QueueEntry). q.priority) e ∙ p.1))
    gone e (inr g) = g

    by : ((m ≡ y.no) × (y.priority ≡ z)) ⊎ In m (numbers_at z ys) → (In m (numbers_at z ys) → In m (numbers_at z (erased x ys))) → In m (front z y (numbers_at z (erased x ys)))
    by (inl p) f = subst (λ (k : ℕ). In k (front z y (numbers_at z (erased x ys)))) (sym p.0) (front_here z y (numbers_at z (erased x ys)) p.1)
    by (inr g) f = front_later z y (numbers_at z (erased x ys)) m (f g)

pub erased_once : (z : ℤ) (x : QueueEntry) (es : List QueueEntry) → Distinct (numbers_at z es) → Distinct (numbers_at z (erased x es))
erased_once z x [] d = d
erased_once z x (y ∷ ys) d =
    elim (same x y) as (λ b. Distinct (numbers_at z (cond b ys (y ∷ erased x ys)))) [
      | true ↦ once_behind z y (numbers_at z ys) d
      | false ↦ by (erased_once z x ys (once_behind z y (numbers_at z ys) d))
    ]
  where
    by : Distinct (numbers_at z (erased x ys)) → Distinct (front z y (numbers_at z (erased x ys)))
    by e =
        choose (λ (ns : List ℕ). Distinct ns) (int_eq y.priority z) (y.no ∷ numbers_at z (erased x ys)) (numbers_at z (erased x ys))
        (λ b. (λ h. once_front z y (numbers_at z ys) d (int_sound y.priority z b) (erased_only z y.no x ys h), e))
        (λ b. e)

pub erased_gone : (x : QueueEntry) (es : List QueueEntry) → Distinct (numbers_at x.priority es) → In x.no (numbers_at x.priority (erased x es)) → holds x es ≡ true → ⊥
erased_gone x [] d h there = yes_no there refl
erased_gone x (y ∷ ys) d t u =
    elim (same x y) as (λ b. same x y ≡ b → In x.no (numbers_at x.priority (cond b ys (y ∷ erased x ys))) → (b || holds x ys) ≡ true → ⊥) [
      | true ↦ λ e h there. here (equal_same x y e) h
      | false ↦ λ e h there. by e (front_split x.priority y (numbers_at x.priority (erased x ys)) x.no h) (λ g. erased_gone x ys (once_behind x.priority y (numbers_at x.priority ys) d) g there)
    ] refl t u
  where
    here : x ≡ y → In x.no (numbers_at x.priority ys) → ⊥
    here e h = once_front x.priority y (numbers_at x.priority ys) d (ap (λ (q : QueueEntry). q.priority) (sym e)) (subst (λ (k : ℕ). In k (numbers_at x.priority ys)) (ap (λ (q : QueueEntry). q.no) e) h)

    by : same x y ≡ false → ((x.no ≡ y.no) × (y.priority ≡ x.priority)) ⊎ In x.no (numbers_at x.priority (erased x ys)) → (In x.no (numbers_at x.priority (erased x ys)) → ⊥) → ⊥
    by e (inl p) f =
        let both : x ≡ y = entry_same x y p.0 (sym p.1) in
        yes_no (subst (λ (q : QueueEntry). same x q ≡ true) both (same_itself x)) e
    by e (inr g) f = f g

abbrev one : ℤ → ℕ → QueueEntry
one z m = record { priority = z; no = m }

-- a number of a priority is an entry
pub number_held : (z : ℤ) (m : ℕ) (es : List QueueEntry) → In m (numbers_at z es) → holds (record { priority = z; no = m }) es ≡ true
number_held z m [] h = absurd h
number_held z m (y ∷ ys) h = by (front_split z y (numbers_at z ys) m h) (λ g. number_held z m ys g)
  where
    by : ((m ≡ y.no) × (y.priority ≡ z)) ⊎ In m (numbers_at z ys) → (In m (numbers_at z ys) → holds (one z m) ys ≡ true) → (same (one z m) y || holds (one z m) ys) ≡ true
    by (inl p) f =
        let both : one z m ≡ y = entry_same (one z m) y p.0 (sym p.1) in
        ap (λ (c : Bool). c || holds (one z m) ys) (subst (λ (q : QueueEntry). same (one z m) q ≡ true) both (same_itself (one z m)))
    by (inr g) f = or_right (same (one z m) y) (holds (one z m) ys) (f g)
