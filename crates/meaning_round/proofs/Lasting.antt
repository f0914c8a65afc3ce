-- More is known where instances are opened, arrays are closed, and facts are added.
use Rattle.std.specs.Prelude.{◌≡◌, ◌⊎◌, ℕ, Bool, true, false, ◌&&◌, ◌||◌, List, [], ◌∷◌, ◌++◌, nat_eq, is_some, Option, Some, None, if◌then◌else◌, refl}
use Rattle.std.specs.HashSet.{contains}
use Rattle.std.proofs.Common.{inl, inr, sym, ap, ◌∙◌, subst, arith}
use Rattle.std.proofs.lemmas.Bool.{cases_Bool, eq-eqb, eqb-true}
use Rattle.values.specs.declared.key.Key.{Key}
use Rattle.values.specs.declared.value.Scalar.{Scalar}
use Rattle.values.specs.declared.value.Value.{Value}
use Rattle.values.specs.Keys.{hash_of, same_key}
use Rattle.values.proofs.Keys.{same_key-eq}
use Rattle.language.specs.Members.{◌∈◌, first, later}
use Rattle.meaning_steps.specs.Kept.{scalar_by}
use Rattle.meaning_facts.specs.declared.facts.Fact.{Fact}
use Rattle.meaning_facts.specs.declared.facts.Fact.TheVariants as Is
use Rattle.meaning_facts.specs.declared.facts.FaultFact.{FaultFact}
use Rattle.meaning_facts.specs.declared.facts.Facts.{Facts}
use Rattle.meaning_facts.specs.declared.facts.Place.{Place}
use Rattle.meaning_facts.specs.declared.facts.Write.{Write}
use Rattle.meaning_facts.specs.declared.fact_base.FactBase.{FactBase}
use Rattle.meaning_facts.specs.Added.{first_of, with_write, IsAdded}
use Rattle.meaning_facts.specs.Growing.{with_facts}
use Rattle.meaning_facts.specs.Keeping.{same_fault}
use Rattle.meaning_facts.specs.Sighted.{closed_at}
use Rattle.meaning_facts.specs.Store.{is_written_in, line_at, same_place, value_at, variable_in, variables_of, writes_at, writes_under}
use Rattle.meaning_facts.proofs.Adding.{same_place-eq}
use Rattle.meaning_facts.proofs.Growing.{value_stays}
use Rattle.meaning_round.specs.declared.worklist.WakeEvent.{WakeEvent}
use Rattle.meaning_round.specs.Hearing.{closed_too, comes_with}
use Rattle.meaning_round.specs.More.{KnowsMore}
use Rattle.meaning_round.specs.Reads.{at, IsSame}

-- ONE FACT MORE

values_stay : (k j : Facts) (f : Fact) → IsAdded k f j → (q : Place) (u : Value) → value_at k q ≡ Some u → value_at j q ≡ Some u
values_stay k j (Is.Value p v) a q u e = a.values q ∙ value_stays p q (value_at k q) v u e
values_stay k j (Is.Element p w) a q u e = a.values q ∙ e
values_stay k j (Is.Line p v) a q u e = a.values q ∙ e
values_stay k j (Is.Fault f) a q u e = a.values q ∙ e

some_stays : {X : Type 0} (p q : Place) (o : Option X) (v : X) → is_some o ≡ true → is_some (if same_place p q then first_of o v else o) ≡ true
some_stays p q (Some u) v e = ap is_some (value_stays p q (Some u) v u refl)
some_stays p q None v e = absurd (cc (e))

lines_stay : (k j : Facts) (f : Fact) → IsAdded k f j → (q : Place) → is_some (line_at k q) ≡ true → is_some (line_at j q) ≡ true
lines_stay k j (Is.Value p v) a q e = ap is_some (a.lines q) ∙ e
lines_stay k j (Is.Element p w) a q e = ap is_some (a.lines q) ∙ e
lines_stay k j (Is.Line p v) a q e = ap is_some (a.lines q) ∙ some_stays p q (line_at k q) v e
lines_stay k j (Is.Fault f) a q e = ap is_some (a.lines q) ∙ e

in_front : (ws us : List Write) (k : Key) (p : Place) → is_written_in ws k p ≡ true → is_written_in (ws ++ us) k p ≡ true
in_front [] us k p e = absurd (cc (e))
in_front (w ∷ ws) us k p e = by (same_key w.key k && same_place w.writer p) (λ f. in_front ws us k p f) e
  where
    by : (b : Bool) → (is_written_in ws k p ≡ true → is_written_in (ws ++ us) k p ≡ true) → b || is_written_in ws k p ≡ true → b || is_written_in (ws ++ us) k p ≡ true
    by true rec e = refl
    by false rec e = rec e

with_written : (ws : List Write) (w : Write) (k : Key) (p : Place) → is_written_in ws k p ≡ true → is_written_in (with_write ws w) k p ≡ true
with_written ws w k p e = by (is_written_in ws w.key w.writer)
  where
    by : (b : Bool) → is_written_in (if b then ws else ws ++ w ∷ []) k p ≡ true
    by true = e
    by false = in_front ws (w ∷ []) k p e

at_written : (q r : Place) (ws : List Write) (w : Write) (k : Key) (p : Place) → is_written_in ws k p ≡ true → is_written_in (if same_place q r then with_write ws w else ws) k p ≡ true
at_written q r ws w k p e = by (same_place q r)
  where
    by : (b : Bool) → is_written_in (if b then with_write ws w else ws) k p ≡ true
    by true = with_written ws w k p e
    by false = e

written_stays : (k j : Facts) (f : Fact) → IsAdded k f j → (q : Place) (key : Key) (p : Place) → is_written_in (writes_at k q) key p ≡ true → is_written_in (writes_at j q) key p ≡ true
written_stays k j (Is.Value x v) a q key p e = ap (λ (ws : List Write). is_written_in ws key p) (a.writes q) ∙ e
written_stays k j (Is.Element x w) a q key p e = ap (λ (ws : List Write). is_written_in ws key p) (a.writes q) ∙ at_written x q (writes_at k q) w key p e
written_stays k j (Is.Line x v) a q key p e = ap (λ (ws : List Write). is_written_in ws key p) (a.writes q) ∙ e
written_stays k j (Is.Fault f) a q key p e = ap (λ (ws : List Write). is_written_in ws key p) (a.writes q) ∙ e

true_stays : (b c : Bool) → c ≡ true → (if b then true else c) ≡ true
true_stays true c e = refl
true_stays false c e = e

faults_stay : (k j : Facts) (f : Fact) → IsAdded k f j → (g : FaultFact) → contains same_fault k.faults g ≡ true → contains same_fault j.faults g ≡ true
faults_stay k j (Is.Value x v) a g e = a.faults g ∙ e
faults_stay k j (Is.Element x w) a g e = a.faults g ∙ e
faults_stay k j (Is.Line x v) a g e = a.faults g ∙ e
faults_stay k j (Is.Fault f) a g e = a.faults g ∙ true_stays (same_fault f g) (contains same_fault k.faults g) e

pub more_by_one : (l : FactBase) (f : Fact) (k : Facts) → IsAdded l.facts f k → KnowsMore l (with_facts l k)
more_by_one l f k a = record {
  grows = record { longer = omega arith; path_same = λ i b. refl };
  spots = λ i x b. refl;
  scalars = λ p b e. ap (λ (o : Option Value). scalar_by o (variable_in (variables_of l.instances.all.items p.instance) p.node)) e;
  values = λ q v e. values_stay l.facts k f a q v e;
  lines = λ q e. lines_stay l.facts k f a q e;
  written = λ q key p e. written_stays l.facts k f a q key p e;
  faults = λ g e. faults_stay l.facts k f a g e;
}

-- WHAT COMES WITH IT

-- nothing comes elsewhere
elsewhere : {X : Type 0} (p q : Place) (x y : X) → same_place p q ≡ false → (if same_place p q then x else y) ≡ y
elsewhere p q x y e = ap (λ (b : Bool). if b then x else y) e

-- an event by its place and its hash
is_event : (p : Place) (n : ℕ) (e : WakeEvent) → p ≡ e.place → n ≡ e.hash → record { place = p; hash = n } ≡ e
is_event p n e f g = λ i. record { place = f i; hash = g i }

not_zero : (n : ℕ) → nat_eq n 0 ≡ false → n ≡ 0 → ⊥
not_zero n e z = let h : true ≡ false = sym (eq-eqb n 0 z) ∙ e in absurd (cc (h))

-- keys of other marks are others
other_key : (a b : Key) (n : ℕ) → nat_eq n (hash_of a) ≡ false → hash_of b ≡ n → same_key a b ≡ false
other_key a b n e z = elim (cases_Bool (same_key a b)) [
  | inr other ↦ other
  | inl same ↦ (
      let h : true ≡ false = sym (eq-eqb n (hash_of a) (sym z ∙ ap hash_of (sym (same_key-eq a b same)))) ∙ e in
      absurd (cc (h))
      )
]

module _ (l : FactBase) (k : Facts) where
  -- where the same is there, nothing has come
  same_here : (e : WakeEvent) → value_at k e.place ≡ value_at l.facts e.place → writes_at k e.place ≡ writes_at l.facts e.place → IsSame l (with_facts l k) e
  same_here e v w = record { value = λ z. v; closed = λ z. refl; elements = λ z c. w; writes = λ key z. ap (λ (ws : List Write). writes_under ws key) w }

  -- a write of another key leaves what is under a key
  module _ (w : Write) where
    under_more : (ws : List Write) (key : Key) → same_key w.key key ≡ false → writes_under (ws ++ w ∷ []) key ≡ writes_under ws key
    under_more [] key e = ap (λ (b : Bool). if b then w.value ∷ [] else []) e
    under_more (u ∷ ws) key e = by (same_key u.key key) (under_more ws key e)
      where
        by : (b : Bool) → writes_under (ws ++ w ∷ []) key ≡ writes_under ws key
            → (if b then u.value ∷ writes_under (ws ++ w ∷ []) key else writes_under (ws ++ w ∷ []) key) ≡ (if b then u.value ∷ writes_under ws key else writes_under ws key)
        by true rec = ap (λ (z : List Scalar). u.value ∷ z) rec
        by false rec = rec

    under_with : (ws : List Write) (key : Key) → same_key w.key key ≡ false → writes_under (with_write ws w) key ≡ writes_under ws key
    under_with ws key e = by (is_written_in ws w.key w.writer)
      where
        by : (b : Bool) → writes_under (if b then ws else ws ++ w ∷ []) key ≡ writes_under ws key
        by true = refl
        by false = under_more ws key e

  -- what comes of a value
  value_comes : (p : Place) (v : Value) → IsAdded l.facts (Is.Value p v) k → (e : WakeEvent) → (e ∈ (at p ∷ [])) ⊎ IsSame l (with_facts l k) e
  value_comes p v a e = elim (cases_Bool (same_place p e.place)) [
    | inr other ↦ inr (same_here e (a.values e.place ∙ elsewhere p e.place (first_of (value_at l.facts e.place) v) (value_at l.facts e.place) other) (a.writes e.place))
    | inl same ↦ elim (cases_Bool (nat_eq e.hash 0)) [
      | inl whole ↦ inl (subst (λ (z : WakeEvent). z ∈ (at p ∷ [])) (is_event p 0 e (same_place-eq p e.place same) (sym (eqb-true e.hash 0 whole))) first)
      | inr marked ↦ inr (record {
        value = λ z. absurd (not_zero e.hash marked z);
        closed = λ z. refl;
        elements = λ z c. a.writes e.place;
        writes = λ key z. ap (λ (ws : List Write). writes_under ws key) (a.writes e.place);
      })
    ]
  ]

  -- what comes of a write
  write_comes : (p : Place) (w : Write) → IsAdded l.facts (Is.Element p w) k → (e : WakeEvent) → (e ∈ comes_with l (Is.Element p w)) ⊎ IsSame l (with_facts l k) e
  write_comes p w a e = elim (cases_Bool (same_place p e.place)) [
    | inr other ↦ inr (same_here e (a.values e.place) (a.writes e.place ∙ elsewhere p e.place (with_write (writes_at l.facts e.place) w) (writes_at l.facts e.place) other))
    | inl same ↦ here (same_place-eq p e.place same) (a.writes e.place ∙ ap (λ (b : Bool). if b then with_write (writes_at l.facts e.place) w else writes_at l.facts e.place) same)
  ]
    where
      whole : (b : Bool) → closed_at l p ≡ b → p ≡ e.place → e.hash ≡ 0 → (closed_at l e.place ≡ true) → e ∈ closed_too b p
      whole true f g z c = subst (λ (y : WakeEvent). y ∈ (at p ∷ [])) (is_event p 0 e g (sym z)) first
      whole false f g z c = let h : true ≡ false = sym c ∙ ap (closed_at l) (sym g) ∙ f in absurd (cc (h))

      open_array : p ≡ e.place → writes_at k e.place ≡ with_write (writes_at l.facts e.place) w → nat_eq e.hash (hash_of w.key) ≡ false → (e.hash ≡ 0 → closed_at l e.place ≡ true → ⊥) → IsSame l (with_facts l k) e
      open_array g h other never = record {
        value = λ z. a.values e.place;
        closed = λ z. refl;
        elements = λ z c. absurd (never z c);
        writes = λ key z. ap (λ (ws : List Write). writes_under ws key) h ∙ under_with w (writes_at l.facts e.place) key (other_key w.key key e.hash other z);
      }

      here : p ≡ e.place → writes_at k e.place ≡ with_write (writes_at l.facts e.place) w → (e ∈ comes_with l (Is.Element p w)) ⊎ IsSame l (with_facts l k) e
      here g h = elim (cases_Bool (nat_eq e.hash (hash_of w.key))) [
        | inl under_key ↦ inl (subst (λ (z : WakeEvent). z ∈ comes_with l (Is.Element p w)) (is_event p (hash_of w.key) e g (sym (eqb-true e.hash (hash_of w.key) under_key))) first)
        | inr other ↦ elim (cases_Bool (nat_eq e.hash 0)) [
          | inr marked ↦ inr (open_array g h other (λ z c. not_zero e.hash marked z))
          | inl unmarked ↦ elim (cases_Bool (closed_at l e.place)) [
            | inl c ↦ inl (later (whole (closed_at l p) refl g (eqb-true e.hash 0 unmarked) c))
            | inr c ↦ inr (open_array g h other (λ z d. (let y : true ≡ false = sym d ∙ c in absurd (cc (y)))))
          ]
        ]
      ]

  -- at each event a fact comes, or nothing has come
  pub comes_or_same : (f : Fact) → IsAdded l.facts f k → (e : WakeEvent) → (e ∈ comes_with l f) ⊎ IsSame l (with_facts l k) e
  comes_or_same (Is.Value p v) a e = value_comes p v a e
  comes_or_same (Is.Element p w) a e = write_comes p w a e
  comes_or_same (Is.Line p v) a e = inr (same_here e (a.values e.place) (a.writes e.place))
  comes_or_same (Is.Fault f) a e = inr (same_here e (a.values e.place) (a.writes e.place))

-- ONE AFTER THE OTHER

pub more_same : (l : FactBase) → KnowsMore l l
more_same l = record {
  grows = record { longer = omega arith; path_same = λ i b. refl };
  spots = λ i x b. refl;
  scalars = λ p b e. refl;
  values = λ q v e. e;
  lines = λ q e. e;
  written = λ q key p e. e;
  faults = λ g e. e;
}

pub more_and_more : (l m n : FactBase) → KnowsMore l m → KnowsMore m n → KnowsMore l n
more_and_more l m n a b = record {
  grows = record {
    longer = omega (arith, a.grows.longer, b.grows.longer);
    path_same = λ i h. b.grows.path_same i (omega (arith, h, a.grows.longer)) ∙ a.grows.path_same i h;
  };
  spots = λ i x h. b.spots i x (omega (arith, h, a.grows.longer)) ∙ a.spots i x h;
  scalars = λ p h e. (let c = between p (value_at l.facts p) (value_at m.facts p) refl refl e in b.scalars p (omega (arith, h, a.grows.longer)) (e ∙ sym c) ∙ a.scalars p h c);
  values = λ q v e. b.values q v (a.values q v e);
  lines = λ q e. b.lines q (a.lines q e);
  written = λ q key p e. b.written q key p (a.written q key p e);
  faults = λ g e. b.faults g (a.faults g e);
}
  where
    between : (p : Place) (o u : Option Value) → value_at l.facts p ≡ o → value_at m.facts p ≡ u → value_at n.facts p ≡ value_at l.facts p → value_at m.facts p ≡ value_at l.facts p
    between p (Some v) u f g e = a.values p v f ∙ sym f
    between p None None f g e = g ∙ sym f
    between p None (Some v) f g e = let z : Some v ≡ None = sym (b.values p v g) ∙ e ∙ f in absurd (cc (z))

pub same_and_same : (l m n : FactBase) (e : WakeEvent) → IsSame l m e → IsSame m n e → IsSame l n e
same_and_same l m n e a b = record {
  value = λ z. b.value z ∙ a.value z;
  closed = λ z. b.closed z ∙ a.closed z;
  elements = λ z c. b.elements z (a.closed z ∙ c) ∙ a.elements z c;
  writes = λ key z. b.writes key z ∙ a.writes key z;
}

pub same_self : (l : FactBase) (e : WakeEvent) → IsSame l l e
same_self l e = record { value = λ z. refl; closed = λ z. refl; elements = λ z c. refl; writes = λ key z. refl }
