-- Two lists by rising keys with the same elements.
use Rattle.std.proofs.Common.{◌≡◌, ◌∙◌, refl, sym, ap, subst, inl, inr, ◌≤◌, true, false, List, [], ◌∷◌, length, Some, None, arith}
use Rattle.std.specs.Prelude.{if◌then◌else◌}
use Rattle.std.proofs.lemmas.Bool.{cases_Bool, and_parts}
use Rattle.board_history.proofs.Tests.{none_some, some_same}
use Rattle.values.proofs.Keys.{above_differs, below_differs, key_below-other, key_below-trans, same_key-eq, same_key-other}
use Rattle.values.specs.Keys.{key_below, same_key}
use Rattle.values.specs.Maps.{found, rising}
use Rattle.values.specs.declared.key.Key.{Key}
use Rattle.values.specs.declared.map.Element.{Element}

-- all keys are above this one
abbrev pub Above : Key → List Element → Type 0
Above k [] = Unit {0}
Above k (x ∷ xs) = (key_below k x.key ≡ true) × Above k xs

-- all these are found
abbrev pub AllFound : List Element → List Element → Type 0
AllFound es [] = Unit {0}
AllFound es (y ∷ ys) = (found y.key es ≡ Some y.value) × AllFound es ys

above_more : (j k : Key) (xs : List Element) → key_below j k ≡ true → Above k xs → Above j xs
above_more j k [] h a = tt
above_more j k (x ∷ xs) h a = (key_below-trans j k x.key h a.0, above_more j k xs h a.1)

pub tail_rises : (e : Element) (es : List Element) → rising (e ∷ es) ≡ true → rising es ≡ true
tail_rises e [] h = refl
tail_rises e (f ∷ es) h = (and_parts (key_below e.key f.key) (rising (f ∷ es)) h).1

pub all_above : (e : Element) (es : List Element) → rising (e ∷ es) ≡ true → Above e.key es
all_above e [] h = tt
all_above e (f ∷ es) h = (let p = and_parts (key_below e.key f.key) (rising (f ∷ es)) h in (p.0, above_more e.key f.key es p.0 (all_above f es p.1)))

none_above : (k : Key) (es : List Element) → Above k es → found k es ≡ None
none_above k [] a = refl
none_above k (e ∷ es) a = ap (λ b. if b then Some e.value else found k es) (above_differs e.key k a.0) ∙ none_above k es a.1

all_behind : (e : Element) (es ys : List Element) → Above e.key ys → AllFound (e ∷ es) ys → AllFound es ys
all_behind e es [] a h = tt
all_behind e es (y ∷ ys) a h = (sym (ap (λ b. if b then Some e.value else found y.key es) (below_differs e.key y.key a.0)) ∙ h.0, all_behind e es ys a.1 h.1)

-- one whose first is not that of the others lies behind it
behind : (y e : Element) (ys es : List Element) → rising (y ∷ ys) ≡ true → rising (e ∷ es) ≡ true → same_key e.key y.key ≡ false → AllFound (e ∷ es) (y ∷ ys) → AllFound es (y ∷ ys)
behind y e ys es ry re d h = elim (cases_Bool (key_below y.key e.key)) [
  | inl b ↦ none_some (sym (ap (λ c. if c then Some e.value else found y.key es) d ∙ none_above y.key es (above_more y.key e.key es b (all_above e es re))) ∙ h.0)
  | inr b ↦ (let up : key_below e.key y.key ≡ true = key_below-other y.key e.key (same_key-other e.key y.key d) b in
      all_behind e es (y ∷ ys) (up, above_more e.key y.key ys up (all_above y ys ry)) h)
]

first_same : (y e : Element) (ys es : List Element) → rising (y ∷ ys) ≡ true → same_key e.key y.key ≡ true → AllFound (e ∷ es) (y ∷ ys) → AllFound es ys
first_same y e ys es ry s h = all_behind e es ys (subst (λ k. Above k ys) (sym (same_key-eq e.key y.key s)) (all_above y ys ry)) h.1

fewer : (es ys : List Element) → rising ys ≡ true → rising es ≡ true → AllFound es ys → length ys ≤ length es
fewer es [] ry re h = omega arith
fewer [] (y ∷ ys) ry re h = none_some h.0
fewer (e ∷ es) (y ∷ ys) ry re h = elim (cases_Bool (same_key e.key y.key)) [
  | inl s ↦ (let f = fewer es ys (tail_rises y ys ry) (tail_rises e es re) (first_same y e ys es ry s h) in omega (arith, f))
  | inr d ↦ (let f = fewer es (y ∷ ys) ry (tail_rises e es re) (behind y e ys es ry re d h) in omega (arith, f))
]

pub same_listed : (es ys : List Element) → rising ys ≡ true → rising es ≡ true → length ys ≡ length es → AllFound es ys → ys ≡ es
same_listed [] [] ry re n h = refl
same_listed (e ∷ es) [] ry re n h = absurd (omega (arith, n))
same_listed [] (y ∷ ys) ry re n h = none_some h.0
same_listed (e ∷ es) (y ∷ ys) ry re n h = elim (cases_Bool (same_key e.key y.key)) [
  | inl s ↦ (let rest = same_listed es ys (tail_rises y ys ry) (tail_rises e es re) (omega (arith, n)) (first_same y e ys es ry s h) in
      let v : e.value ≡ y.value = some_same (sym (ap (λ b. if b then Some e.value else found y.key es) s) ∙ h.0) in
      λ i. record { key = sym (same_key-eq e.key y.key s) i; value = sym v i } ∷ rest i)
  | inr d ↦ (let f = fewer es (y ∷ ys) ry (tail_rises e es re) (behind y e ys es ry re d h) in absurd (omega (arith, f, n)))
]
