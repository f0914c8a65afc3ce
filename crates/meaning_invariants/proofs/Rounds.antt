-- What a program holds goes from one round to the next, where it adds what the round tells.
use Rattle.std.specs.Prelude.{◌≡◌, ◌↔◌, ◌⊎◌, ℕ, suc, Bool, false, List, [], ◌∷◌, map, Option, Some, None, is_some, refl}
use Rattle.std.proofs.Common.{inl, inr, sym, ap, ◌∙◌, subst}
use Rattle.std.proofs.lemmas.Option.{none-some}
use Rattle.values.specs.declared.key.Key.{Key}
use Rattle.language.specs.Core.{Core}
use Rattle.language.specs.Facts as script
use Rattle.language.specs.Facts.{Knowledge}
use Rattle.language.specs.Meaning.{Known}
use Rattle.language.specs.Members.{◌∈◌, first, later}
use Rattle.language.specs.Places.{Place}
use Rattle.language.specs.Single.{SinglyAssigned}
use Rattle.language.specs.WellFormed.{WellFormed}
use Rattle.language.proofs.Members.{split_in}
use Rattle.language_laws.proofs.Ever as law
use Rattle.meaning_steps.specs.Kept.{AreApart}
use Rattle.meaning_steps.specs.News.{NodesTell}
use Rattle.meaning_facts.specs.declared.facts.Fact.{Fact}
use Rattle.paths.specs.declared.faults.FaultKind.{FaultKind}
use Rattle.meaning_facts.specs.declared.facts.Facts.{Facts}
use Rattle.meaning_facts.specs.declared.facts.Place.{Place as Spot}
use Rattle.meaning_facts.specs.declared.facts.Write.{Write}
use Rattle.meaning_facts.specs.declared.instances.Instance.{Instance}
use Rattle.meaning_facts.specs.declared.fact_base.FactBase.{FactBase}
use Rattle.meaning_facts.specs.Added.{IsNothing}
use Rattle.meaning_facts.specs.Growing.{fact_view, IsWithin, With, IsAgreed, with_facts}
use Rattle.meaning_facts.specs.Keeping.{by_place, in_instance, has_kind, kept_of, kind_of, write_view}
use Rattle.meaning_facts.specs.Paths.{at_path, IsTree}
use Rattle.meaning_facts.specs.Store.{value_at, line_at, writes_at, is_written_in}
use Rattle.meaning_facts.proofs.Growing.{false_true}
use Rattle.meaning_invariants.specs.Held.{Holds, AreAdded, no_more, one_more}
use Rattle.meaning_invariants.proofs.Adding.{OneLine, holds_more}
use Rattle.meaning_invariants.proofs.Lines.{one_line}

-- NOTHING IS HELD BEFORE THE FIRST ROUND

module _ (l : FactBase) (e : IsNothing l.facts) where
  nothing_by : {X : Type 0} (x : X) (f : Spot → X) → ((p : Spot) → f p ≡ x) → (o : Option ℕ) (n : ℕ) → in_instance x f o n ≡ x
  nothing_by x f z (Some i) n = z (record { instance = i; node = n })
  nothing_by x f z None n = refl

  nothing_at : {X : Type 0} (x : X) (f : Spot → X) → ((p : Spot) → f p ≡ x) → (q : Place) → by_place l.instances x f q ≡ x
  nothing_at x f z q = nothing_by x f z (at_path l.instances q.0) q.1

  no_value : (q : Place) → (kept_of l).value q ≡ None
  no_value q = nothing_at None (value_at l.facts) e.values q

  no_writes : (q : Place) → (kept_of l).writes q ≡ []
  no_writes q = nothing_at [] (λ p. map (write_view l.instances.all.items) (writes_at l.facts p)) (λ p. ap (map (write_view l.instances.all.items)) (e.writes p)) q

  no_kind : (o : Option FaultKind) (at : ℕ) (p : Spot) → has_kind l.facts o at p ≡ false
  no_kind None at p = refl
  no_kind (Some kind) at p = e.faults (record { kind = kind; at = at; place = p })

  no_member : {X : Type 0} {x : X} (xs : List X) → xs ≡ [] → x ∈ xs → ⊥
  no_member {X} {x} xs d i = none (subst (λ (z : List X). x ∈ z) d i)
    where
      none : x ∈ [] → ⊥
      none i = elim i [ ]

  pub nothing_held : (s : Core) → Holds (Known s 0) l
  nothing_held s = record {
    keeps = record {
      value_so = λ q v d. absurd (none-some v (sym (no_value q) ∙ d));
      value_all = λ q v x. absurd x;
      write_so = λ q w i. absurd (no_member ((kept_of l).writes q) (no_writes q) i);
      write_all = λ q key w v x. absurd x;
      write_once = λ q. subst AreApart (sym (no_writes q)) tt;
      written_so = λ q key w d. absurd (false_true (sym (no_writer q key w) ∙ d));
      written_all = λ q key w v x. absurd x;
      lined_so = λ q d. absurd (false_true (sym (nothing_at false (λ p. is_line p) (λ p. no_line p) q) ∙ d));
      faulted_so = λ f at q d. absurd (false_true (sym (nothing_at false (λ p. has_kind l.facts (kind_of f) at p) (λ p. no_kind (kind_of f) at p) q) ∙ d));
      writers = λ a w i. absurd (no_member (writes_at l.facts a) (e.writes a) i);
    };
    within = record {
      values = λ p v d. absurd (none-some v (sym (e.values p) ∙ d));
      lines = λ p v d. absurd (none-some v (sym (e.lines p) ∙ d));
      writes = λ p w i. absurd (no_member (writes_at l.facts p) (e.writes p) i);
      faults = λ g d. absurd (false_true (sym (e.faults g) ∙ d));
    };
    line_so = λ p bytes d. absurd (none-some bytes (sym (e.lines p) ∙ d));
    line_all = λ q bytes x. absurd x;
    fault_so = λ g d. absurd (false_true (sym (e.faults g) ∙ d));
    fault_all = λ f at q x. absurd x;
  }
    where
      is_line : Spot → Bool
      is_line p = is_some (line_at l.facts p)

      no_line : (p : Spot) → is_line p ≡ false
      no_line p = ap is_some (e.lines p)

      no_writer : (a : Place) (key : Key) (w : Place) → (kept_of l).written a key w ≡ false
      no_writer a key w =
          nothing_at false (λ p. by_place l.instances false (is_written_in (writes_at l.facts p) key) w)
          (λ p. nothing_at false (is_written_in (writes_at l.facts p) key) (λ r. ap (λ (ws : List Write). is_written_in ws key r) (e.writes p)) w) a

-- FROM ONE ROUND TO THE NEXT

-- what is known with facts more
abbrev pub AlsoAll : Knowledge → List script.Fact → Knowledge
AlsoAll K [] = K
AlsoAll K (f ∷ fs) = AlsoAll (With K f) fs

also_either : (K : Knowledge) (fs : List script.Fact) (f : script.Fact) → AlsoAll K fs f → K f ⊎ (f ∈ fs)
also_either K [] f x = inl x
also_either K (g ∷ gs) f x = elim (also_either (With K g) gs f x) [
  | inl y ↦ elim y [ inl k ↦ inl k | inr e ↦ inr (subst (λ (z : script.Fact). z ∈ (g ∷ gs)) (sym e) first) ]
  | inr i ↦ inr (later i)
]

also_from : (K : Knowledge) (fs : List script.Fact) (f : script.Fact) → K f ⊎ (f ∈ fs) → AlsoAll K fs f
also_from K [] f (inl k) = k
also_from K [] f (inr i) = elim i [ ]
also_from K (g ∷ gs) f (inl k) = also_from (With K g) gs f (inl (inl k))
also_from K (g ∷ gs) f (inr i) = elim (split_in i) [ inl e ↦ also_from (With K g) gs f (inl (inr e)) | inr j ↦ also_from (With K g) gs f (inr j) ]

-- the same knowledge
pub holds_same : (K M : Knowledge) → ((f : script.Fact) → K f → M f) → ((f : script.Fact) → M f → K f) → (l : FactBase) → Holds K l → Holds M l
holds_same K M to from l h = record {
  keeps = record {
    value_so = λ q v e. to (script.value q v) (h.keeps.value_so q v e);
    value_all = λ q v x. h.keeps.value_all q v (from (script.value q v) x);
    write_so = λ q w i. to (script.element q w.key w.writer w.value) (h.keeps.write_so q w i);
    write_all = λ q key w v x. h.keeps.write_all q key w v (from (script.element q key w v) x);
    write_once = h.keeps.write_once;
    written_so = λ q key w e. (let r = h.keeps.written_so q key w e in (r.0, to (script.element q key w r.0) r.1));
    written_all = λ q key w v x. h.keeps.written_all q key w v (from (script.element q key w v) x);
    lined_so = λ q e. (let r = h.keeps.lined_so q e in (r.0, to (script.line q r.0) r.1));
    faulted_so = λ f at q e. to (script.fault f at q) (h.keeps.faulted_so f at q e);
    writers = h.keeps.writers;
  };
  within = h.within;
  line_so = λ p bytes e. to _ (h.line_so p bytes e);
  line_all = λ q bytes x. h.line_all q bytes (from (script.line q bytes) x);
  fault_so = λ g e. to _ (h.fault_so g e);
  fault_all = λ f at q x. h.fault_all f at q (from (script.fault f at q) x);
}

module _ (M : Knowledge) (agreed : IsAgreed M) (one : OneLine M) (l : FactBase) (tree : IsTree l.instances) where
  abbrev inside : List Instance
  inside = l.instances.all.items

  agreed_below : (K : Knowledge) → ((f : script.Fact) → K f → M f) → IsAgreed K
  agreed_below K into = record {
    values = λ p v u x y. agreed.values p v u (into (script.value p v) x) (into (script.value p u) y);
    writes = λ a key w v u x y. agreed.writes a key w v u (into (script.element a key w v) x) (into (script.element a key w u) y);
  }

  one_below : (K : Knowledge) → ((f : script.Fact) → K f → M f) → OneLine K
  one_below K into p b c x y = one p b c (into (script.line p b) x) (into (script.line p c) y)

  pub held_after : (K : Knowledge) (j : Facts) (fs : List Fact) (k : Facts) → AreAdded j fs k → Holds K (with_facts l j) → ((f : script.Fact) → K f → M f)
      → ((f : Fact) → f ∈ fs → M (fact_view inside f)) → ((f : Fact) → f ∈ fs → IsWithin inside f) → Holds (AlsoAll K (map (fact_view inside) fs)) (with_facts l k)
  held_after K j fs k no_more h into news within = h
  held_after K j fs k (one_more {j = i} {f = f} {fs = gs} a rest) h into news within =
      let more : (g : script.Fact) → With K (fact_view inside f) g → M g = λ g x. elim x [ inl y ↦ into g y | inr e ↦ subst M (sym e) (news f first) ] in
      held_after (With K (fact_view inside f)) i gs k rest
      (holds_more K (with_facts l j) i tree h f a (within f first) (agreed_below (With K (fact_view inside f)) more) (one_below (With K (fact_view inside f)) more))
      more (λ g m. news g (later m)) (λ g m. within g (later m))

in_views : (ns : List Instance) (fs : List Fact) (f : Fact) → f ∈ fs → fact_view ns f ∈ map (fact_view ns) fs
in_views ns fs f (first {xs = gs}) = first
in_views ns fs f (later {xs = gs} i) = later (in_views ns gs f i)

module _ (s : Core) (w : WellFormed s) (single : SinglyAssigned s) (nodes : NodesTell s) where
  pub agreed_known : (n : ℕ) → IsAgreed (Known s n)
  agreed_known n = record {
    values = ((law.sound s w single n).one_each).one_value;
    writes = ((law.sound s w single n).one_each).one_element;
  }

  pub round_held : (n : ℕ) (l : FactBase) (fs : List Fact) (k : Facts) → IsTree l.instances → Holds (Known s n) l → AreAdded l.facts fs k → ((f : Fact) → f ∈ fs → IsWithin l.instances.all.items f)
      → ((f : script.Fact) → Known s (suc n) f ↔ (Known s n f ⊎ (f ∈ map (fact_view l.instances.all.items) fs))) → Holds (Known s (suc n)) (with_facts l k)
  round_held n l fs k tree h added within round =
      let views = map (fact_view l.instances.all.items) fs in
      let after = held_after (Known s (suc n)) (agreed_known (suc n)) (one_line s w single nodes (suc n)) l tree (Known s n) l.facts fs k added h (λ f x. inl x)
      (λ f i. (round (fact_view l.instances.all.items f)).1 (inr (in_views l.instances.all.items fs f i))) within in
      holds_same (AlsoAll (Known s n) views) (Known s (suc n)) (λ f x. (round f).1 (also_either (Known s n) views f x)) (λ f x. also_from (Known s n) views f ((round f).0 x)) (with_facts l k) after
