-- What a program holds is what is known with one fact more.
use Rattle.std.specs.Prelude.{◌≡◌, ◌⊎◌, ℕ, ◌<◌, Bool, true, List, length, Option, Some, if◌then◌else◌, refl}
use Rattle.std.specs.HashSet.{contains}
use Rattle.std.proofs.Common.{inl, inr, sym, ap, ◌∙◌, subst}
use Rattle.std.proofs.lemmas.Bool.{cases_Bool, eq-eqb}
use denote.Enum.Bare.{true_same}
use Rattle.language.specs.Facts as script
use Rattle.language.specs.Facts.{Fault, Knowledge}
use Rattle.language.specs.Members.{◌∈◌}
use Rattle.language.specs.Places.{Place}
use Rattle.meaning_facts.specs.declared.facts.Fact.{Fact}
use Rattle.meaning_facts.specs.declared.facts.Fact.TheVariants as Is
use Rattle.meaning_facts.specs.declared.facts.FaultFact.{FaultFact}
use Rattle.paths.specs.contracts.faults.FaultKind as kinds
use Rattle.meaning_facts.specs.declared.facts.Facts.{Facts}
use Rattle.meaning_facts.specs.declared.facts.Place.{Place as Spot}
use Rattle.meaning_facts.specs.declared.facts.Write.{Write}
use Rattle.meaning_facts.specs.declared.instances.Instance.{Instance}
use Rattle.meaning_facts.specs.declared.fact_base.FactBase.{FactBase}
use Rattle.meaning_facts.specs.Added.{first_of, with_write, IsAdded}
use Rattle.meaning_facts.specs.Growing.{fact_view, IsWithin, With, IsAgreed, with_facts}
use Rattle.meaning_facts.specs.Keeping.{place_view, same_fault}
use Rattle.meaning_facts.specs.Kinds.{kind_view}
use Rattle.meaning_facts.specs.Paths.{IsTree}
use Rattle.meaning_facts.specs.Store.{same_place, value_at, line_at, writes_at}
use Rattle.meaning_facts.proofs.Adding.{same_place-eq}
use Rattle.meaning_facts.proofs.Growing.{fault_eq, fact_more, place_same, put_value, value_stays, value_there}
use Rattle.meaning_invariants.specs.Held.{AreWithin, HasLine, HasFault, Holds}

-- ONE MORE AT A PLACE

-- a place of one that is there, or of the one that comes
put_within : (n : ℕ) {X : Type 0} (p q : Spot) (o : Option X) (v w : X) → p.instance < n → (o ≡ Some w → q.instance < n) → (if same_place p q then first_of o v else o) ≡ Some w → q.instance < n
put_within n p q o v w b f e = elim (put_value p q o v w e) [ inl old ↦ f old | inr new ↦ subst (λ (z : Spot). z.instance < n) new.0 b ]

-- FAULTS

fault_itself : (f : FaultFact) → same_fault f f ≡ true
fault_itself f = rw (true_same kinds.the_type f.kind f.kind refl) (rw (eq-eqb f.at f.at refl) (place_same f.place))

either_fault : (f g : FaultFact) (b : Bool) → (if same_fault f g then true else b) ≡ true → (b ≡ true) ⊎ (f ≡ g)
either_fault f g b e = elim (cases_Bool (same_fault f g)) [ inl same ↦ inr (fault_eq f g same) | inr other ↦ inl (rw other at e) ]

fault_still : (f g : FaultFact) (b : Bool) → b ≡ true → (if same_fault f g then true else b) ≡ true
fault_still f g b e = elim (cases_Bool (same_fault f g)) [ inl same ↦ rw same refl | inr other ↦ rw other e ]

fault_now : (f : FaultFact) (b : Bool) → (if same_fault f f then true else b) ≡ true
fault_now f b = rw (fault_itself f) refl

-- ONE FACT MORE

module _ (ns : List Instance) (k l : Facts) (w : AreWithin ns k) where
  pub within_more : (f : Fact) → IsAdded k f l → IsWithin ns f → AreWithin ns l
  within_more (Is.Value p v) a b = record {
    values = λ q u e. put_within (length ns) p q (value_at k q) v u b (w.values q u) (sym (a.values q) ∙ e);
    lines = λ q u e. w.lines q u (sym (a.lines q) ∙ e);
    writes = λ q u i. w.writes q u (subst (λ (z : List Write). u ∈ z) (a.writes q) i);
    faults = λ g e. w.faults g (sym (a.faults g) ∙ e);
  }
  within_more (Is.Line p v) a b = record {
    values = λ q u e. w.values q u (sym (a.values q) ∙ e);
    lines = λ q u e. put_within (length ns) p q (line_at k q) v u b (w.lines q u) (sym (a.lines q) ∙ e);
    writes = λ q u i. w.writes q u (subst (λ (z : List Write). u ∈ z) (a.writes q) i);
    faults = λ g e. w.faults g (sym (a.faults g) ∙ e);
  }
  within_more (Is.Element p x) a b = record {
    values = λ q u e. w.values q u (sym (a.values q) ∙ e);
    lines = λ q u e. w.lines q u (sym (a.lines q) ∙ e);
    writes = λ q u i. in_written q u (subst (λ (z : List Write). u ∈ z) (a.writes q) i);
    faults = λ g e. w.faults g (sym (a.faults g) ∙ e);
  }
    where
      in_written : (q : Spot) (u : Write) → u ∈ (if same_place p q then with_write (writes_at k q) x else writes_at k q) → q.instance < length ns
      in_written q u i = elim (cases_Bool (same_place p q)) [
        | inl same ↦ subst (λ (z : Spot). z.instance < length ns) (same_place-eq p q same) b.0
        | inr other ↦ w.writes q u (rw other at i)
      ]
  within_more (Is.Fault f) a b = record {
    values = λ q u e. w.values q u (sym (a.values q) ∙ e);
    lines = λ q u e. w.lines q u (sym (a.lines q) ∙ e);
    writes = λ q u i. w.writes q u (subst (λ (z : List Write). u ∈ z) (a.writes q) i);
    faults = λ g e. elim (either_fault f g (contains same_fault k.faults g) (sym (a.faults g) ∙ e)) [ inl old ↦ w.faults g old | inr new ↦ subst (λ (z : FaultFact). z.place.instance < length ns) new b ];
  }

-- a writer has one line
abbrev pub OneLine : Knowledge → Type 0
OneLine K = (w : Place) (b c : List ℕ) → K (script.line w b) → K (script.line w c) → b ≡ c

module _ (K : Knowledge) (l : FactBase) (k : Facts) (h : IsTree l.instances) (holds : Holds K l) where
  abbrev ns : List Instance
  ns = l.instances.all.items

  same_line : (q : Place) (bytes : List ℕ) → ((p : Spot) → line_at k p ≡ line_at l.facts p) → HasLine ns l.facts q bytes → HasLine ns k q bytes
  same_line q bytes e x = record { writer = x.writer; located = x.located; there = e x.writer ∙ x.there }

  same_held : (f : Fault) (at : ℕ) (q : Place) → ((g : FaultFact) → contains same_fault k.faults g ≡ contains same_fault l.facts.faults g) → HasFault ns l.facts f at q → HasFault ns k f at q
  same_held f at q e x = record { held = x.held; located = x.located; kind_is = x.kind_is; at_is = x.at_is; there = e x.held ∙ x.there }

  -- LINES

  line_so : (f : Fact) → IsAdded l.facts f k → (p : Spot) (bytes : List ℕ) → line_at k p ≡ Some bytes → With K (fact_view ns f) (script.line (place_view ns p) bytes)
  line_so (Is.Value r v) a p bytes e = inl (holds.line_so p bytes (sym (a.lines p) ∙ e))
  line_so (Is.Element r v) a p bytes e = inl (holds.line_so p bytes (sym (a.lines p) ∙ e))
  line_so (Is.Fault r) a p bytes e = inl (holds.line_so p bytes (sym (a.lines p) ∙ e))
  line_so (Is.Line r v) a p bytes e = elim (put_value r p (line_at l.facts p) v bytes (sym (a.lines p) ∙ e)) [
    | inl old ↦ inl (holds.line_so p bytes old)
    | inr new ↦ inr (λ i. script.line (place_view ns (sym new.0 i)) (sym new.1 i))
  ]

  line_all : (f : Fact) → IsAdded l.facts f k → IsWithin ns f → OneLine (With K (fact_view ns f)) → (q : Place) (bytes : List ℕ) → With K (fact_view ns f) (script.line q bytes) → HasLine ns k q bytes
  line_all (Is.Value r v) a b one q bytes x = elim x [ inl y ↦ same_line q bytes a.lines (holds.line_all q bytes y) | inr e ↦ absurd (cc (e)) ]
  line_all (Is.Element r v) a b one q bytes x = elim x [ inl y ↦ same_line q bytes a.lines (holds.line_all q bytes y) | inr e ↦ absurd (cc (e)) ]
  line_all (Is.Fault r) a b one q bytes x = elim x [ inl y ↦ same_line q bytes a.lines (holds.line_all q bytes y) | inr e ↦ absurd (cc (e)) ]
  line_all (Is.Line r v) a b one q bytes (inl y) =
      let x = holds.line_all q bytes y in
      record { writer = x.writer; located = x.located; there = a.lines x.writer ∙ value_stays r x.writer (line_at l.facts x.writer) v bytes x.there }
  line_all (Is.Line r v) a b one q bytes (inr e) =
      let place_is : q ≡ place_view ns r = cc (e) in
      let bytes_are : bytes ≡ v = cc (e) in
      record {
        writer = r;
        located = record { within = b; view_is = sym place_is };
        there = a.lines r ∙ value_there r (line_at l.facts r) v (λ u d. one (place_view ns r) u v (inl (holds.line_so r u d)) (inr refl)) ∙ ap Some (sym bytes_are);
      }

  -- FAULTS

  fault_so : (f : Fact) → IsAdded l.facts f k → (g : FaultFact) → contains same_fault k.faults g ≡ true → With K (fact_view ns f) (script.fault (kind_view g.kind) g.at (place_view ns g.place))
  fault_so (Is.Value r v) a g e = inl (holds.fault_so g (sym (a.faults g) ∙ e))
  fault_so (Is.Element r v) a g e = inl (holds.fault_so g (sym (a.faults g) ∙ e))
  fault_so (Is.Line r v) a g e = inl (holds.fault_so g (sym (a.faults g) ∙ e))
  fault_so (Is.Fault r) a g e = elim (either_fault r g (contains same_fault l.facts.faults g) (sym (a.faults g) ∙ e)) [
    | inl old ↦ inl (holds.fault_so g old)
    | inr new ↦ inr (ap (λ (z : FaultFact). script.fault (kind_view z.kind) z.at (place_view ns z.place)) (sym new))
  ]

  fault_all : (f : Fact) → IsAdded l.facts f k → IsWithin ns f → (x : Fault) (at : ℕ) (q : Place) → With K (fact_view ns f) (script.fault x at q) → HasFault ns k x at q
  fault_all (Is.Value r v) a b x at q y = elim y [ inl z ↦ same_held x at q a.faults (holds.fault_all x at q z) | inr e ↦ absurd (cc (e)) ]
  fault_all (Is.Element r v) a b x at q y = elim y [ inl z ↦ same_held x at q a.faults (holds.fault_all x at q z) | inr e ↦ absurd (cc (e)) ]
  fault_all (Is.Line r v) a b x at q y = elim y [ inl z ↦ same_held x at q a.faults (holds.fault_all x at q z) | inr e ↦ absurd (cc (e)) ]
  fault_all (Is.Fault r) a b x at q (inl z) =
      let y = holds.fault_all x at q z in
      record { held = y.held; located = y.located; kind_is = y.kind_is; at_is = y.at_is; there = a.faults y.held ∙ fault_still r y.held (contains same_fault l.facts.faults y.held) y.there }
  fault_all (Is.Fault r) a b x at q (inr e) =
      let kind_is : x ≡ kind_view r.kind = cc (e) in
      let at_is : at ≡ r.at = cc (e) in
      let place_is : q ≡ place_view ns r.place = cc (e) in
      record {
        held = r;
        located = record { within = b; view_is = sym place_is };
        kind_is = sym kind_is;
        at_is = sym at_is;
        there = a.faults r ∙ fault_now r (contains same_fault l.facts.faults r);
      }

  pub holds_more : (f : Fact) → IsAdded l.facts f k → IsWithin ns f → IsAgreed (With K (fact_view ns f)) → OneLine (With K (fact_view ns f)) → Holds (With K (fact_view ns f)) (with_facts l k)
  holds_more f a b agreed one = record {
    keeps = fact_more K l k h (holds.keeps) f a b agreed;
    within = within_more ns l.facts k (holds.within) f a b;
    line_so = line_so f a;
    line_all = line_all f a b one;
    fault_so = fault_so f a;
    fault_all = fault_all f a b;
  }
