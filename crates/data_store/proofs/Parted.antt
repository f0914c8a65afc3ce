-- Elements under numbers with elements under texts behind them.
use Rattle.std.proofs.Common.{◌≡◌, ◌∙◌, sym, ap, subst, inl, inr, ℕ, ◌-◌, List, [], ◌∷◌, ◌++◌, None, Some, Ok, Err, true, false, refl}
use Rattle.std.specs.Prelude.{ℤ, Bool, Option, Result, IsTrue, OnOk, OnErr, if◌then◌else◌}
use Rattle.std.specs.Option.{option_or}
use Rattle.std.proofs.lemmas.Bool.{cases_Bool}
use Rattle.values.specs.declared.key.Key.{Key}
use Rattle.values.specs.declared.key.Key.TheVariants.{Number, Text}
use Rattle.values.specs.declared.map.Element.{Element}
use Rattle.values.specs.declared.value.Scalar.{Scalar}
use Rattle.values.specs.Keys.{key_below, same_key}
use Rattle.values.specs.Maps.{rising, found, inserted, element}
use Rattle.data_store.specs.Arrays.{is_number, together, with_element, with_entry, AreParted, Array, HaveKind, Table}

-- what the first find, or else the others
found_both : (k : Key) (es fs : List Element) → found k (es ++ fs) ≡ option_or (found k es) (found k fs)
found_both k [] fs = refl
found_both k (e ∷ es) fs = elim (cases_Bool (same_key e.key k)) [
  | inl same ↦ rw same refl
  | inr other ↦ rw other (found_both k es fs)
]

option_or-none : (o : Option Scalar) → option_or o None ≡ o
option_or-none None = refl
option_or-none (Some v) = refl

-- keys of two kinds differ
kinds_differ : (number : Bool) (a b : Key) → is_number a ≡ number → is_number b ≡ (if number then false else true) → same_key a b ≡ false
kinds_differ true (Number a) (Number b) p q = absurd (cc (q))
kinds_differ true (Number a) (Text b) p q = refl
kinds_differ true (Text a) b p q = absurd (cc (p))
kinds_differ false (Number a) b p q = absurd (cc (p))
kinds_differ false (Text a) (Number b) p q = refl
kinds_differ false (Text a) (Text b) p q = absurd (cc (q))

-- a key of the other kind finds nothing
other_kind : (number : Bool) (k : Key) (es : List Element) → HaveKind number es → is_number k ≡ (if number then false else true) → found k es ≡ None
other_kind number k [] h q = refl
other_kind number k (e ∷ es) h q = rw (kinds_differ number e.key k h.0 q) (other_kind number k es h.1 q)

pub found_number : (n : ℤ) (es fs : List Element) → HaveKind false fs → found (Number n) (es ++ fs) ≡ found (Number n) es
found_number n es fs h = found_both (Number n) es fs ∙ ap (λ o. option_or (found (Number n) es) o) (other_kind false (Number n) fs h refl) ∙ option_or-none (found (Number n) es)

pub found_text : (bytes : List ℕ) (es fs : List Element) → HaveKind true es → found (Text bytes) (es ++ fs) ≡ found (Text bytes) fs
found_text bytes es fs h = found_both (Text bytes) es fs ∙ ap (λ o. option_or o (found (Text bytes) fs)) (other_kind true (Text bytes) es h refl)

-- a number is put among the numbers
pub inserted_number : (n : ℤ) (v : Scalar) (es fs : List Element) → HaveKind false fs → inserted (Number n) v (es ++ fs) ≡ inserted (Number n) v es ++ fs
inserted_number n v [] [] h = refl
inserted_number n v [] (f ∷ fs) h = in_front f.key f.value fs h.0 where
  in_front : (k : Key) (w : Scalar) (fs : List Element) → is_number k ≡ false → inserted (Number n) v (element k w ∷ fs) ≡ element (Number n) v ∷ element k w ∷ fs
  in_front (Number m) w fs q = absurd (cc (q))
  in_front (Text bytes) w fs q = refl
inserted_number n v (e ∷ es) fs h = elim (cases_Bool (same_key e.key (Number n))) [
  | inl same ↦ rw same refl
  | inr other ↦ elim (cases_Bool (key_below (Number n) e.key)) [
    | inl below ↦ rw (other, below) refl
    | inr more ↦ rw (other, more) (ap (λ xs. e ∷ xs) (inserted_number n v es fs h))
  ]
]

behind : (bytes : List ℕ) (v : Scalar) (k : Key) (w : Scalar) (es : List Element) → is_number k ≡ true → inserted (Text bytes) v (element k w ∷ es) ≡ element k w ∷ inserted (Text bytes) v es
behind bytes v (Number m) w es q = refl
behind bytes v (Text other) w es q = absurd (cc (q))

-- and a text among the texts
pub inserted_text : (bytes : List ℕ) (v : Scalar) (es fs : List Element) → HaveKind true es → inserted (Text bytes) v (es ++ fs) ≡ es ++ inserted (Text bytes) v fs
inserted_text bytes v [] fs h = refl
inserted_text bytes v (e ∷ es) fs h = behind bytes v e.key e.value (es ++ fs) h.0 ∙ ap (λ xs. e ∷ xs) (inserted_text bytes v es fs h.1)

-- an element of their kind leaves them of their kind
pub kind_inserted : (number : Bool) (k : Key) (v : Scalar) (es : List Element) → is_number k ≡ number → HaveKind number es → HaveKind number (inserted k v es)
kind_inserted number k v [] q h = (q, tt)
kind_inserted number k v (e ∷ es) q h = elim (cases_Bool (same_key e.key k)) [
  | inl same ↦ rw same (q, h.1)
  | inr other ↦ elim (cases_Bool (key_below k e.key)) [
    | inl below ↦ rw (other, below) (q, h)
    | inr more ↦ rw (other, more) (h.0, kind_inserted number k v es q h.1)
  ]
]

-- numbers with texts behind them rise
pub rising_both : (es fs : List Element) → AreParted es fs → IsTrue (rising es) → IsTrue (rising fs) → IsTrue (rising (es ++ fs))
rising_both es fs p = by es fs p.numbers p.texts where
  last : (e f : Element) (fs : List Element) → is_number e.key ≡ true → is_number f.key ≡ false → IsTrue (rising (f ∷ fs)) → IsTrue (rising (e ∷ f ∷ fs))
  last e f fs p q s = rw (low e.key f.key p q) s where
    low : (a b : Key) → is_number a ≡ true → is_number b ≡ false → key_below a b ≡ true
    low (Number a) (Number b) p q = absurd (cc (q))
    low (Number a) (Text b) p q = refl
    low (Text a) b p q = absurd (cc (p))

  by : (es fs : List Element) → HaveKind true es → HaveKind false fs → IsTrue (rising es) → IsTrue (rising fs) → IsTrue (rising (es ++ fs))
  by [] fs h g r s = s
  by (e ∷ []) [] h g r s = r
  by (e ∷ []) (f ∷ fs) h g r s = last e f fs h.0 g.0 s
  by (e ∷ d ∷ es) fs h g r s = elim (cases_Bool (key_below e.key d.key)) [
    | inl below ↦ let r' = rw below at r in rw below (by (d ∷ es) fs h.1 g r' s)
    | inr more ↦ let r' = rw more at r in absurd (cc (r'))
  ]

-- the same of tables
pub number_got : (key : Key) (n k : ℤ) (numbers texts : Table) → key ≡ Number n → k ≡ n → HaveKind false texts.entries → found (Number k) numbers.entries ≡ found key (together numbers texts).elements
number_got key n k numbers texts is same h =
    sym (found_number k numbers.entries texts.entries h) ∙ ap (λ j. found j (numbers.entries ++ texts.entries)) (ap Number same ∙ sym is)

pub text_got : (key : Key) (bytes : List ℕ) (numbers texts : Table) → key ≡ Text bytes → HaveKind true numbers.entries → found (Text bytes) texts.entries ≡ found key (together numbers texts).elements
text_got key bytes numbers texts is h =
    sym (found_text bytes numbers.entries texts.entries h) ∙ ap (λ j. found j (numbers.entries ++ texts.entries)) (sym is)

abbrev array : List Element → ℕ → ℕ → Array
array es n m = record { elements = es; room = n; text_room = m }

pub number_put : (key : Key) (n k : ℤ) (v : Scalar) (new old texts : Table) → key ≡ Number n → k ≡ n → HaveKind false texts.entries → new ≡ with_entry (Number k) v old → together new texts ≡ with_element key v (together old texts)
number_put key n k v new old texts is same h e =
    ap (λ t. together t texts) e
    ∙ ap (λ es. array es (old.places - 1) texts.places) (sym (inserted_number k v old.entries texts.entries h))
    ∙ ap (λ j. with_element j v (together old texts)) (ap Number same ∙ sym is)

pub text_put : (key : Key) (bytes : List ℕ) (v : Scalar) (numbers new old : Table) → key ≡ Text bytes → HaveKind true numbers.entries → new ≡ with_entry (Text bytes) v old → together numbers new ≡ with_element key v (together numbers old)
text_put key bytes v numbers new old is h e =
    ap (λ t. together numbers t) e
    ∙ ap (λ es. array es numbers.places (old.places - 1)) (sym (inserted_text bytes v numbers.entries old.entries h))
    ∙ ap (λ j. with_element j v (together numbers old)) (sym is)

-- what holds after a change, whether it was made or refused
pub either_way : {X E : Type 0} (P : Table → Type 0) (r : Result X E) (new changed old : Table) → OnOk r (new ≡ changed) → OnErr r (new ≡ old) → P changed → P old → P new
either_way P (Ok x) new changed old e f p q = subst P (sym e) p
either_way P (Err x) new changed old e f p q = subst P (sym f) q
