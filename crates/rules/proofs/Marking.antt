-- Inputs of a list that become known, one after another.
use Rattle.std.proofs.Common.{arith, ◌≡◌, ◌≢◌, ◌⊎◌, inl, inr, ℕ, zero, suc, ◌+◌, ◌-◌, ◌<◌, ◌≤◌, ◌||◌, Bool, true, false, not, cond, nat_eq, List, [], ◌∷◌, length, filter, replicate, set, get_or, Option, Some, None, refl, sym, ap, subst, ◌∙◌}
use Rattle.std.specs.Prelude.{IfSome}
use Rattle.std.specs.List.{list_any}
use Rattle.std.proofs.lemmas.Bool.{cases_eq, cases_lt, cases_Bool, or_cases, and_parts}
use Rattle.std.proofs.lemmas.List.{get_or-set_same, get_or-set_other, length-set, get_or-replicate, get_or_past, length-replicate}
use Rattle.rules.specs.declared.input.Input.{Input}
use Rattle.rules.specs.declared.input.Input.TheVariants.{Whole, Element}
use Rattle.rules.specs.declared.many_inputs.InputIndex.{InputIndex}
use Rattle.rules.specs.declared.subscribers.SlotNote.{SlotNote}
use Rattle.rules.specs.Inputs.{covers}
use Rattle.rules.specs.Places.{Noted, Grows, IsAt, is_at}
use Rattle.rules.specs.Many.{input_at, is_known, left_of, left_in, known_in, knows, AreNoted, IsFresh, IsIndexed, Marks}
use Rattle.rules.proofs.Noting.{true_false, nat_sound, equal_at}

-- where none is known all are left
left_all : (is : List Input) (known : ℕ → Bool) → ((k : ℕ) → known k ≡ false) → left_of is known ≡ is
left_all [] known none = refl
left_all (i ∷ rest) known none = rw (none 0) (ap (λ js. i ∷ js) (left_all rest (λ k. known (suc k)) (λ k. none (suc k))))

left_same : (is : List Input) (old new : ℕ → Bool) → ((k : ℕ) → new k ≡ old k) → left_of is new ≡ left_of is old
left_same [] old new same = refl
left_same (i ∷ rest) old new same =
    ap (λ b. cond b (left_of rest (λ k. new (suc k))) (i ∷ left_of rest (λ k. new (suc k)))) (same 0)
    ∙ ap (λ js. cond (old 0) js (i ∷ js)) (left_same rest (λ k. old (suc k)) (λ k. new (suc k)) (λ k. same (suc k)))

-- where those become known that pass a test, the others are left of what was left
pub left_marked : (p : Input → Bool) (is : List Input) (old new : ℕ → Bool) → ((k : ℕ) → old k ≡ true → new k ≡ true)
    → ((k : ℕ) → new k ≡ true → (old k ≡ true) ⊎ (p (input_at is k) ≡ true)) → ((k : ℕ) → k < length is → p (input_at is k) ≡ true → new k ≡ true)
    → left_of is new ≡ filter (λ j. not (p j)) (left_of is old)
left_marked p [] old new kept only all = refl
left_marked p (i ∷ rest) old new kept only all =
    let later : left_of rest (λ k. new (suc k)) ≡ filter (λ j. not (p j)) (left_of rest (λ k. old (suc k))) =
    left_marked p rest (λ k. old (suc k)) (λ k. new (suc k)) (λ k. kept (suc k)) (λ k. only (suc k)) (λ k below. all (suc k) (omega (arith, below))) in
    elim (cases_Bool (old 0)) [
      | inl was ↦ rw (was, kept 0 was) later
      | inr was ↦ elim (cases_Bool (p i)) [
        | inl hit ↦ rw (was, all 0 (omega arith) hit, hit) later
        | inr lacks ↦ elim (cases_Bool (new 0)) [
          | inl now ↦ elim (only 0 now) [
            | inl e ↦ absurd (true_false (sym e ∙ was))
            | inr e ↦ absurd (true_false (sym e ∙ lacks))
          ]
          | inr now ↦ rw (was, now, lacks) (ap (λ js. i ∷ js) later)
        ]
      ]
    ]

-- where one more becomes known, one less is left
pub left_one : (is : List Input) (old new : ℕ → Bool) (k : ℕ) → k < length is → old k ≡ false → new k ≡ true → ((j : ℕ) → j ≢ k → new j ≡ old j)
    → length (left_of is old) ≡ length (left_of is new) + 1
left_one [] old new k below was now others = absurd (omega (arith, below))
left_one (i ∷ rest) old new zero below was now others =
    rw (was, now) (omega (arith, ap length (left_same rest (λ j. old (suc j)) (λ j. new (suc j)) (λ j. others (suc j) (λ q. absurd (omega (arith, q)))))))
left_one (i ∷ rest) old new (suc k) below was now others =
    let later : length (left_of rest (λ j. old (suc j))) ≡ length (left_of rest (λ j. new (suc j))) + 1 =
    left_one rest (λ j. old (suc j)) (λ j. new (suc j)) k (omega (arith, below)) was now (λ j differs. others (suc j) (λ q. differs (omega (arith, q)))) in
    elim (cases_Bool (old 0)) [
      | inl e ↦ rw (others 0 (λ q. absurd (omega (arith, q))), e) later
      | inr e ↦ rw (others 0 (λ q. absurd (omega (arith, q))), e) (omega (arith, later))
    ]

-- one that is left passes a test
pub record IsSomewhere (p : Input → Bool) (is : List Input) (known : ℕ → Bool) : Type 0 where
  pub at : ℕ
  pub below : at < length is
  pub left : known at ≡ false
  pub passes : p (input_at is at) ≡ true

pub any_left : (p : Input → Bool) (is : List Input) (known : ℕ → Bool) → list_any p (left_of is known) ≡ true → IsSomewhere p is known
any_left p [] known h = absurd (true_false (sym h))
any_left p (i ∷ rest) known h =
    let further : IsSomewhere p rest (λ k. known (suc k)) → IsSomewhere p (i ∷ rest) known =
    λ s. record { at = suc s.at; below = omega (arith, s.below); left = s.left; passes = s.passes } in
    elim (cases_Bool (known 0)) as (λ _. IsSomewhere p (i ∷ rest) known) [
      | inl e ↦ further (any_left p rest (λ k. known (suc k)) (subst (λ b. list_any p (cond b (left_of rest (λ k. known (suc k))) (i ∷ left_of rest (λ k. known (suc k)))) ≡ true) e h))
      | inr e ↦ elim (or_cases (p i) (list_any p (left_of rest (λ k. known (suc k)))) (subst (λ b. list_any p (cond b (left_of rest (λ k. known (suc k))) (i ∷ left_of rest (λ k. known (suc k)))) ≡ true) e h)) as (λ _. IsSomewhere p (i ∷ rest) known) [
        | inl here ↦ record { at = 0; below = omega arith; left = e; passes = here }
        | inr later ↦ further (any_left p rest (λ k. known (suc k)) later)
      ]
    ]

-- the same where there may be no index
pub any_left_in : (p : Input → Bool) (is : List Input) (index : Option InputIndex) → list_any p (left_in is index) ≡ true → IsSomewhere p is (known_in index)
any_left_in p is None h = any_left p is (λ k. false) (subst (λ js. list_any p js ≡ true) (sym (left_all is (λ k. false) (λ k. refl))) h)
any_left_in p is (Some index) h = any_left p is (is_known index) h

none_true : (n k : ℕ) → get_or (replicate n false) k false ≡ false
none_true n k =
    elim (cases_lt k n) [
      | inl below ↦ get_or-replicate n k false false below
      | inr past ↦ get_or_past (replicate n false) k false (omega (arith, past, length-replicate n false))
    ]

-- with a new index all are left
pub fresh_left : (is : List Input) (index : InputIndex) → IsFresh is index → left_of is (is_known index) ≡ is
fresh_left is index new = left_all is (is_known index) (λ k. rw new.known (none_true (length is) k))

pub fresh_indexed : (is : List Input) (index : InputIndex) → IsFresh is index → IsIndexed is index
fresh_indexed is index new = record {
  size = ap length new.known ∙ length-replicate (length is) false;
  left = new.left ∙ sym (ap length (fresh_left is index new));
  noted = new.noted;
  last = λ k below h. absurd (true_false (sym h ∙ ap (λ l. knows l (input_at is k)) new.last));
}

-- of a list whose index is new, if it has one, all are left
pub of_list : (is : List Input) (index : Option InputIndex) → IfSome index (IsFresh is) → left_in is index ≡ is
of_list is None new = refl
of_list is (Some index) new = fresh_left is index new

pub of_indexed : (is : List Input) (index : Option InputIndex) → IfSome index (IsFresh is) → IfSome index (IsIndexed is)
of_indexed is None new = tt
of_indexed is (Some index) new = fresh_indexed is index new

pub marks_none : (i : Input) (is : List Input) (index : InputIndex) → index.left ≡ length (left_of is (is_known index)) → Marks i is index index
marks_none i is index left = record { places = refl; size = refl; left = left; kept = λ k h. h; only = λ k h. inl h }

pub marks_on : (i : Input) (is : List Input) (a b c : InputIndex) → Marks i is a b → Marks i is b c → Marks i is a c
marks_on i is a b c g h = record {
  places = h.places ∙ g.places;
  size = h.size ∙ g.size;
  left = h.left;
  kept = λ k e. h.kept k (g.kept k e);
  only = λ k e. elim (h.only k e) [
    | inl was ↦ g.only k was
    | inr hit ↦ inr hit
  ];
}

-- what covers an input covers all that this one covers
pub covers_on : (a b c : Input) → covers a b ≡ true → covers b c ≡ true → covers a c ≡ true
covers_on (Whole a) (Whole b) (Whole c) g h = equal_at c a (sym (nat_sound b c h) ∙ sym (nat_sound a b g))
covers_on (Whole a) (Whole b) (Element c m) g h = equal_at c a (sym (nat_sound b c h) ∙ sym (nat_sound a b g))
covers_on (Whole a) (Element b l) (Whole c) g h = absurd (true_false (sym h))
covers_on (Whole a) (Element b l) (Element c m) g h = equal_at c a (sym (nat_sound b c (and_parts (nat_eq b c) (nat_eq l m) h).0) ∙ sym (nat_sound a b g))
covers_on (Element a k) (Whole b) c g h = absurd (true_false (sym g))
covers_on (Element a k) (Element b l) (Whole c) g h = absurd (true_false (sym h))
covers_on (Element a k) (Element b l) (Element c m) g h =
    let first = and_parts (nat_eq a b) (nat_eq k l) g in
    let second = and_parts (nat_eq b c) (nat_eq l m) h in
    rw (equal_at c a (sym (nat_sound b c second.0) ∙ sym (nat_sound a b first.0)), equal_at m k (sym (nat_sound l m second.1) ∙ sym (nat_sound k l first.1))) refl

-- what was learnt last covers all that an input covers which it knows
pub knows_on : (last : Option Input) (i j : Input) → knows last i ≡ true → covers i j ≡ true → knows last j ≡ true
knows_on None i j g h = absurd (true_false (sym g))
knows_on (Some l) i j g h = covers_on l i j g h

-- one place more is noted
pub place_noted : (is : List Input) (old new : Noted) (at : ℕ) (x : Input) → x ≡ input_at is at → Grows old new
    → ((k : ℕ) → k < at → (a : ℕ) → is_at a (input_at is k) ≡ true → IsAt old.notes a k) → ((a : ℕ) → is_at a x ≡ true → IsAt new.notes a at)
    → (k : ℕ) → k < at + 1 → (a : ℕ) → is_at a (input_at is k) ≡ true → IsAt new.notes a k
place_noted is old new at x same g was now k below a h =
    elim (cases_eq k at) as (λ _. IsAt new.notes a k) [
      | inl e ↦ subst (IsAt new.notes a) (sym e) (now a (ap (is_at a) (same ∙ ap (input_at is) (sym e)) ∙ h))
      | inr differs ↦ g.notes a k (was k (omega (arith, below, differs)) a h)
    ]

-- a slot is noted for one place more
pub slot_noted : (is : List Input) (known : ℕ → Bool) (old new : Noted) (at slot : ℕ) → Grows old new
    → ((k : ℕ) → k < at → known k ≡ false → (a : ℕ) → is_at a (input_at is k) ≡ true → IsAt old.notes a slot)
    → (known at ≡ false → (a : ℕ) → is_at a (input_at is at) ≡ true → IsAt new.notes a slot)
    → (k : ℕ) → k < at + 1 → known k ≡ false → (a : ℕ) → is_at a (input_at is k) ≡ true → IsAt new.notes a slot
slot_noted is known old new at slot g was now k below left a h =
    elim (cases_eq k at) as (λ _. IsAt new.notes a slot) [
      | inl e ↦ now (subst (λ m. known m ≡ false) e left) a (subst (λ m. is_at a (input_at is m) ≡ true) e h)
      | inr differs ↦ g.notes a slot (was k (omega (arith, below, differs)) left a h)
    ]

-- where it is noted for all places, it is noted for all inputs that are left
pub left_noted : (is : List Input) (index : Option InputIndex) (notes : List SlotNote) (end slot : ℕ) → length is ≤ end
    → ((k : ℕ) → k < end → known_in index k ≡ false → (a : ℕ) → is_at a (input_at is k) ≡ true → IsAt notes a slot)
    → (a : ℕ) → list_any (is_at a) (left_in is index) ≡ true → IsAt notes a slot
left_noted is index notes end slot fits all a h =
    let s = any_left_in (is_at a) is index h in all s.at (omega (arith, s.below, fits)) s.left a s.passes

-- one more is marked
pub one_marked : (i : Input) (is : List Input) (old new : InputIndex) (at : ℕ) → at < length is → is_known old at ≡ false → covers i (input_at is at) ≡ true
    → length old.known.items ≡ length is → old.left ≡ length (left_of is (is_known old))
    → new.places ≡ old.places → new.left ≡ old.left - 1 → new.known.items ≡ set old.known.items at true → Marks i is old new
one_marked i is old new at below was hit size left same fewer now =
    let there : is_known new at ≡ true = rw now (get_or-set_same old.known.items at true false (omega (arith, below, size))) in
    let others : (j : ℕ) → j ≢ at → is_known new j ≡ is_known old j = λ j differs. rw now (get_or-set_other old.known.items at j true false differs) in
    record {
      places = same;
      size = ap length now ∙ length-set old.known.items at true;
      left = omega (arith, fewer, left, left_one is (is_known old) (is_known new) at below was there others);
      kept = λ k e. elim (cases_eq k at) as (λ _. is_known new k ≡ true) [
        | inl q ↦ subst (λ m. is_known new m ≡ true) (sym q) there
        | inr differs ↦ others k differs ∙ e
      ];
      only = λ k e. elim (cases_eq k at) as (λ _. (is_known old k ≡ true) ⊎ (covers i (input_at is k) ≡ true)) [
        | inl q ↦ inr (subst (λ m. covers i (input_at is m) ≡ true) (sym q) hit)
        | inr differs ↦ inl (sym (others k differs) ∙ e)
      ];
    }

-- an index that has learnt all that an input covers
pub learnt_indexed : (i : Input) (is : List Input) (old marked new : InputIndex) → IsIndexed is old → Marks i is old marked
    → ((k : ℕ) → k < length is → covers i (input_at is k) ≡ true → is_known marked k ≡ true) → new ≡ record marked { last = Some i } → IsIndexed is new
learnt_indexed i is old marked new before marks all same = rw same (record {
  size = marks.size ∙ before.size;
  left = marks.left;
  noted = subst (λ p. AreNoted is p.notes) (sym marks.places) before.noted;
  last = all;
})

-- where all that an input covers are known, it takes nothing out
pub none_marked : (i : Input) (is : List Input) (index : InputIndex) → IsIndexed is index → knows index.last i ≡ true
    → left_of is (is_known index) ≡ filter (λ j. not (covers i j)) (left_of is (is_known index))
none_marked i is index indexed h =
    left_marked (covers i) is (is_known index) (is_known index) (λ k e. e) (λ k e. inl e)
    (λ k below hit. indexed.last k below (knows_on index.last i (input_at is k) h hit))
