-- What is known with one fact more.
use Rattle.std.specs.Prelude.{◌≡◌, ℕ, Bool, true, false, ◌&&◌, List, [], nat_eq, Option, Some, None, is_some, if◌then◌else◌, cond, refl}
use Rattle.std.specs.HashMap.{get}
use Rattle.std.specs.HashSet.{contains}
use Rattle.std.proofs.Common.{inl, inr, sym, ap, ◌∙◌, subst}
use Rattle.std.proofs.lemmas.Bool.{cases_Bool, eqb-true}
use Rattle.values.specs.declared.value.Value.{Value}
use Rattle.meaning_facts.specs.declared.facts.Place.{Place}
use Rattle.meaning_facts.specs.declared.facts.Write.{Write}
use Rattle.meaning_facts.specs.declared.facts.FaultFact.{FaultFact}
use Rattle.meaning_facts.specs.declared.facts.Fact.TheVariants as Is
use Rattle.meaning_facts.specs.declared.facts.Facts.{Facts}
use Rattle.meaning_facts.specs.Added.{first_of, with_write, IsAdded, HasSame}
use Rattle.meaning_facts.specs.Keeping.{same_fault}
use Rattle.meaning_facts.specs.Store.{same_place, same_pair, value_at, line_at, listed_writes}

both_true : (a b : Bool) → a && b ≡ true → (a ≡ true) × (b ≡ true)
both_true true b h = (refl, h)
both_true false b h = absurd (cc (h))

pub same_place-eq : (p q : Place) → same_place p q ≡ true → p ≡ q
same_place-eq p q h =
    let b = both_true (nat_eq p.instance q.instance) (nat_eq p.node q.node) h in
    λ i. record { instance = eqb-true p.instance q.instance b.0 i; node = eqb-true p.node q.node b.1 i }

module _ {X : Type 0} where
  -- what is put where nothing was
  put_absent : (f : Place → Option X) (p q : Place) (v : X) → f p ≡ None → cond (same_place p q) (Some v) (f q) ≡ (if same_place p q then first_of (f q) v else f q)
  put_absent f p q v e = elim (cases_Bool (same_place p q)) [
    | inl same ↦
        let none : f q ≡ None = subst (λ (z : Place). f z ≡ None) (same_place-eq p q same) e in
        rw same (ap (λ (o : Option X). first_of o v) (sym none))
    | inr other ↦ rw other refl
  ]

  -- what is there stays
  kept_present : (f : Place → Option X) (p q : Place) (u v : X) → f p ≡ Some u → f q ≡ (if same_place p q then first_of (f q) v else f q)
  kept_present f p q u v e = elim (cases_Bool (same_place p q)) [
    | inl same ↦
        let there : f q ≡ Some u = subst (λ (z : Place). f z ≡ Some u) (same_place-eq p q same) e in
        rw same (there ∙ sym (ap (λ (o : Option X). first_of o v) there))
    | inr other ↦ rw other refl
  ]

  some_of : (o : Option X) → is_some o ≡ true → (x : X) × (o ≡ Some x)
  some_of (Some x) h = (x, refl)
  some_of None h = absurd (cc (h))

  none_of : (o : Option X) → is_some o ≡ false → o ≡ None
  none_of (Some x) h = absurd (cc (h))
  none_of None h = refl

pub value_kept : (k : Facts) (p : Place) (v : Value) → is_some (value_at k p) ≡ true → IsAdded k (Is.Value p v) k
value_kept k p v h = record {
  values = λ q. (let s = some_of (value_at k p) h in kept_present (value_at k) p q s.0 v s.1);
  lines = λ q. refl;
  writes = λ q. refl;
  faults = λ g. refl;
}

pub value_added : (k l : Facts) (p : Place) (v : Value) → is_some (value_at k p) ≡ false
    → ((q : ℕ × ℕ) → get same_pair l.values q ≡ cond (same_pair (p.instance, p.node) q) (Some v) (get same_pair k.values q))
    → l.lines ≡ k.lines → l.writes ≡ k.writes → l.faults ≡ k.faults → IsAdded k (Is.Value p v) l
value_added k l p v h u a b c = record {
  values = λ q. u (q.instance, q.node) ∙ put_absent (value_at k) p q v (none_of (value_at k p) h);
  lines = λ q. ap (λ z. get same_pair z (q.instance, q.node)) a;
  writes = λ q. ap (λ z. listed_writes (get same_pair z (q.instance, q.node))) b;
  faults = λ g. ap (λ z. contains same_fault z g) c;
}

pub line_kept : (k : Facts) (p : Place) (v : List ℕ) → is_some (line_at k p) ≡ true → IsAdded k (Is.Line p v) k
line_kept k p v h = record {
  values = λ q. refl;
  lines = λ q. (let s = some_of (line_at k p) h in kept_present (line_at k) p q s.0 v s.1);
  writes = λ q. refl;
  faults = λ g. refl;
}

pub line_added : (k l : Facts) (p : Place) (v : List ℕ) → is_some (line_at k p) ≡ false
    → ((q : ℕ × ℕ) → get same_pair l.lines q ≡ cond (same_pair (p.instance, p.node) q) (Some v) (get same_pair k.lines q))
    → l.values ≡ k.values → l.writes ≡ k.writes → l.faults ≡ k.faults → IsAdded k (Is.Line p v) l
line_added k l p v h u a b c = record {
  values = λ q. ap (λ z. get same_pair z (q.instance, q.node)) a;
  lines = λ q. u (q.instance, q.node) ∙ put_absent (line_at k) p q v (none_of (line_at k p) h);
  writes = λ q. ap (λ z. listed_writes (get same_pair z (q.instance, q.node))) b;
  faults = λ g. ap (λ z. contains same_fault z g) c;
}

pub fault_added : (k l : Facts) (f : FaultFact) → ((q : FaultFact) → contains same_fault l.faults q ≡ cond (same_fault f q) true (contains same_fault k.faults q))
    → l.values ≡ k.values → l.lines ≡ k.lines → l.writes ≡ k.writes → IsAdded k (Is.Fault f) l
fault_added k l f u a b c = record {
  values = λ q. ap (λ z. get same_pair z (q.instance, q.node)) a;
  lines = λ q. ap (λ z. get same_pair z (q.instance, q.node)) b;
  writes = λ q. ap (λ z. listed_writes (get same_pair z (q.instance, q.node))) c;
  faults = u;
}

-- LISTS OF WRITES

-- an empty list where none was
empty_put : (f : Place → Option (List Write)) (p q : Place) (v : List Write) → f p ≡ None → v ≡ [] → listed_writes (cond (same_place p q) (Some v) (f q)) ≡ listed_writes (f q)
empty_put f p q v e n = elim (cases_Bool (same_place p q)) [
  | inl same ↦
      let none : f q ≡ None = subst (λ (z : Place). f z ≡ None) (same_place-eq p q same) e in
      rw same (n ∙ sym (ap listed_writes none))
  | inr other ↦ rw other refl
]

list_put : (f : Place → Option (List Write)) (p q : Place) (v u : List Write) (w : Write) → f p ≡ Some v → u ≡ with_write v w
    → listed_writes (cond (same_place p q) (Some u) (f q)) ≡ (if same_place p q then with_write (listed_writes (f q)) w else listed_writes (f q))
list_put f p q v u w e n = elim (cases_Bool (same_place p q)) [
  | inl same ↦
      let there : f q ≡ Some v = subst (λ (z : Place). f z ≡ Some v) (same_place-eq p q same) e in
      rw same (n ∙ sym (ap (λ (o : Option (List Write)). with_write (listed_writes o) w) there))
  | inr other ↦ rw other refl
]

pub list_made : (k l : Facts) (p : Place) (v : List Write) → is_some (get same_pair k.writes (p.instance, p.node)) ≡ false → v ≡ []
    → ((q : ℕ × ℕ) → get same_pair l.writes q ≡ cond (same_pair (p.instance, p.node) q) (Some v) (get same_pair k.writes q))
    → l.values ≡ k.values → l.lines ≡ k.lines → l.faults ≡ k.faults → HasSame k l
list_made k l p v h n u a b c = record {
  values = λ q. ap (λ z. get same_pair z (q.instance, q.node)) a;
  lines = λ q. ap (λ z. get same_pair z (q.instance, q.node)) b;
  writes = λ q. ap listed_writes (u (q.instance, q.node)) ∙ empty_put (λ (x : Place). get same_pair k.writes (x.instance, x.node)) p q v (none_of (get same_pair k.writes (p.instance, p.node)) h) n;
  faults = λ g. ap (λ z. contains same_fault z g) c;
}

pub write_added : (k l : Facts) (p : Place) (w : Write) (v u : List Write) → get same_pair k.writes (p.instance, p.node) ≡ Some v → u ≡ with_write v w
    → ((q : ℕ × ℕ) → get same_pair l.writes q ≡ cond (same_pair (p.instance, p.node) q) (Some u) (get same_pair k.writes q))
    → l.values ≡ k.values → l.lines ≡ k.lines → l.faults ≡ k.faults → IsAdded k (Is.Element p w) l
write_added k l p w v u e n h a b c = record {
  values = λ q. ap (λ z. get same_pair z (q.instance, q.node)) a;
  lines = λ q. ap (λ z. get same_pair z (q.instance, q.node)) b;
  writes = λ q. ap listed_writes (h (q.instance, q.node)) ∙ list_put (λ (x : Place). get same_pair k.writes (x.instance, x.node)) p q v u w e n;
  faults = λ g. ap (λ z. contains same_fault z g) c;
}

-- what is added to the same is added
pub added_same : (j k l : Facts) (p : Place) (w : Write) → HasSame j k → IsAdded k (Is.Element p w) l → IsAdded j (Is.Element p w) l
added_same j k l p w s h = record {
  values = λ q. h.values q ∙ s.values q;
  lines = λ q. h.lines q ∙ s.lines q;
  writes = λ q. h.writes q ∙ ap (λ (z : List Write). if same_place p q then with_write z w else z) (s.writes q);
  faults = λ g. h.faults g ∙ s.faults g;
}
