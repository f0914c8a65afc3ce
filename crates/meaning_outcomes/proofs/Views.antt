-- Blocked statements and faults as they are read off what is known.
use Rattle.std.proofs.Common.{◌≡◌, ℕ, Bool, true, false, ◌||◌, List, [], ◌∷◌, map, refl, sym, ap, ◌∙◌, subst, inl, inr}
use Rattle.std.specs.Prelude.{◌&&◌, ◌⊎◌, nat_eq, reverse}
use Rattle.std.specs.HashSet.{contains, keys}
use Rattle.std.specs.List.{list_any}
use Rattle.std.proofs.lemmas.Bool.{and_from}
use denote.Enum.Bare.{sameb}
use Rattle.language.specs.Core.{Core}
use Rattle.language.specs.Facts as script
use Rattle.language.specs.Facts.{fault}
use Rattle.language.specs.Meaning.{Known}
use Rattle.language.specs.Members.{◌∈◌, first, later}
use Rattle.language.specs.Outcomes.{Blocked}
use Rattle.language.specs.Places.{Path, Place}
use Rattle.language.proofs.Members.{split_in}
use Rattle.paths.specs.contracts.faults.FaultKind as kinds
use Rattle.meaning_facts.specs.declared.facts.FaultFact.{FaultFact}
use Rattle.paths.specs.declared.faults.FaultKind.{FaultKind}
use Rattle.paths.specs.declared.faults.FaultKind.TheVariants as Kind
use Rattle.meaning_facts.specs.declared.facts.Facts.{Facts}
use Rattle.meaning_facts.specs.declared.instances.Instance.{Instance}
use Rattle.paths.specs.declared.steps.Step.{Step}
use Rattle.meaning_facts.specs.Keeping.{place_view}
use Rattle.meaning_facts.specs.Keeping as keeping
use Rattle.meaning_facts.specs.Kinds.{kind_view}
use Rattle.meaning_facts.specs.Paths.{step_view}
use Rattle.meaning_facts.specs.Store.{same_place}
use Rattle.meaning_facts.proofs.Growing.{fault_eq, place_same}
use Rattle.meaning_round.proofs.Listed.{mapped_in}
use Rattle.meaning_outcomes.specs.declared.knowledge.Knowledge.{Knowledge}
use Rattle.meaning_outcomes.specs.declared.knowledge.BlockedId.{BlockedId}
use Rattle.paths.specs.declared.faults.Fault.{Fault}
use Rattle.paths.specs.declared.statements.StatementInstance.{StatementInstance}
use Rattle.meaning_outcomes.specs.Known.{IsKnowledgeOf}
use Rattle.meaning_outcomes.specs.Lists.{Lists}
use Rattle.paths.specs.Order.{fault_below, same_fault, same_statement, statement_below}
use Rattle.meaning_outcomes.specs.Read.{held_mark, mark_of, path_of, point_of, stuck_point, AreBlocked, AreFaults, Mark, Point}
use Rattle.paths.proofs.Points.{fault_is, point_is}
use Rattle.paths.proofs.Points as told
use Rattle.meaning_outcomes.proofs.Told.{number_own}

-- LISTS THAT ARE TOLD BY THE SAME

pub unmap : {Y Z : Type 0} (g : Y → Z) (ys : List Y) (z : Z) → z ∈ map g ys → (y : Y) × (y ∈ ys) × (z ≡ g y)
unmap g [] z i = elim i [ ]
unmap g (y ∷ ys) z i = elim (split_in i) [ inl e ↦ (y, first, e) | inr j ↦ (let r = unmap g ys z j in (r.0, later r.1, r.2)) ]

matched : {X Y Z : Type 0} (f : X → Z) (g : Y → Z) (xs : List X) (ys : List Y) → map f xs ≡ map g ys → (x : X) → x ∈ xs → (y : Y) × (y ∈ ys) × (f x ≡ g y)
matched {Z = Z} f g xs ys e x i = unmap g ys (f x) (subst (λ (zs : List Z). f x ∈ zs) e (mapped_in f xs i))

-- FAULTS IN A SET

any_in : {X : Type 0} (p : X → Bool) (xs : List X) → list_any p xs ≡ true → (x : X) × (x ∈ xs) × (p x ≡ true)
any_in p [] h = absurd (cc (h))
any_in p (x ∷ xs) h = by (p x) refl h (λ k. any_in p xs k)
  where
    by : (b : Bool) → p x ≡ b → (b || list_any p xs) ≡ true → (list_any p xs ≡ true → (y : _) × (y ∈ xs) × (p y ≡ true)) → (y : _) × (y ∈ (x ∷ xs)) × (p y ≡ true)
    by true e k rec = (x, first, e)
    by false e k rec = let r = rec k in (r.0, later r.1, r.2)

in_any : {X : Type 0} (p : X → Bool) (xs : List X) (x : X) → x ∈ xs → p x ≡ true → list_any p xs ≡ true
in_any p [] x i h = elim i [ ]
in_any {X} p (y ∷ ys) x i h = by (p y) refl (split_in i) (λ j. in_any p ys x j h)
  where
    by : (b : Bool) → p y ≡ b → (x ≡ y) ⊎ (x ∈ ys) → (x ∈ ys → list_any p ys ≡ true) → (b || list_any p ys) ≡ true
    by true e o rec = refl
    by false e (inl q) rec = let z : true ≡ false = sym h ∙ ap p q ∙ e in absurd (cc (z))
    by false e (inr j) rec = rec j

same_kind : (k : FaultKind) → sameb kinds.the_type k k ≡ true
same_kind Kind.Overflow = refl
same_kind Kind.DivideByZero = refl
same_kind Kind.NoElement = refl
same_kind Kind.ElementTwice = refl
same_kind Kind.BadStep = refl
same_kind Kind.TooDeep = refl
same_kind Kind.NotANumber = refl
same_kind Kind.AssertFailed = refl

fault_own : (g : FaultFact) → keeping.same_fault g g ≡ true
fault_own g = and_from (sameb kinds.the_type g.kind g.kind) _ (same_kind g.kind) (and_from (nat_eq g.at g.at) (same_place g.place g.place) (number_own g.at) (place_same g.place))

held_in : (k : Facts) (g : FaultFact) → g ∈ keys k.faults → contains keeping.same_fault k.faults g ≡ true
held_in k g i = in_any (keeping.same_fault g) (keys k.faults) g i (fault_own g)

in_held : (k : Facts) (g : FaultFact) → contains keeping.same_fault k.faults g ≡ true → g ∈ keys k.faults
in_held k g h = let r = any_in (keeping.same_fault g) (keys k.faults) h in subst (λ (x : FaultFact). x ∈ keys k.faults) (sym (fault_eq g r.0 r.2)) r.1

-- WHAT IS READ

module _ (s : Core) (k : Knowledge) (h : IsKnowledgeOf s k) where
  abbrev ns : List Instance
  ns = k.fact_base.instances.all.items

  pub blocked_read : (found bs : List StatementInstance) → map point_of found ≡ map (stuck_point ns) k.stuck.items → Lists statement_below same_statement found bs → AreBlocked s (Known s k.rounds) bs
  blocked_read found bs e l = record {
    order = l.in_order;
    each = λ b i. (
        let r = matched point_of (stuck_point ns) found k.stuck.items e b (l.each b i) in
        subst (λ (p : Point). Blocked s (Known s k.rounds) p.at p.path) (sym r.2) (h.stuck.each r.0 r.1)
        );
    all = λ at path x. (
        let q = h.stuck.all at path x in
        let r = matched (stuck_point ns) point_of k.stuck.items found (sym e) q.0 q.1 in
        let t = l.all r.0 r.1 in
        let p = point_is r.0 t.0 t.2 in (
          t.0,
          t.1,
          sym (ap (λ (z : told.Point). z.1) p) ∙ sym (ap (λ (z : Point). z.at) r.2) ∙ q.2,
          sym (ap (λ (z : told.Point). reverse (map step_view z.0)) p) ∙ sym (ap (λ (z : Point). z.path) r.2) ∙ q.3,
        )
        );
  }

  pub faults_read : (found fs : List Fault) → map mark_of found ≡ map (held_mark ns) (keys k.fact_base.facts.faults) → Lists fault_below same_fault found fs → AreFaults (Known s k.rounds) fs
  faults_read found fs e l = record {
    order = l.in_order;
    each = λ f i. (
        let r = matched mark_of (held_mark ns) found (keys k.fact_base.facts.faults) e f (l.each f i) in
        let so = h.holds.fault_so r.0 (held_in k.fact_base.facts r.0 r.1) in
        (r.0.place.node, subst (λ (m : Mark). Known s k.rounds (fault (kind_view m.kind) m.point.at (m.point.path, r.0.place.node))) (sym r.2) so)
        );
    all = λ kind at path x. (
        let q = h.holds.fault_all kind at (path, x.0) x.1 in
        let r = matched (held_mark ns) mark_of (keys k.fact_base.facts.faults) found (sym e) q.held (in_held k.fact_base.facts q.held q.there) in
        let t = l.all r.0 r.1 in
        let p = fault_is r.0 t.0 t.2 in (
          t.0,
          t.1,
          ap kind_view (sym p.1 ∙ sym (ap (λ (m : Mark). m.kind) r.2)) ∙ q.kind_is,
          sym (ap (λ (z : told.Point). z.1) p.0) ∙ sym (ap (λ (m : Mark). m.point.at) r.2) ∙ q.at_is,
          sym (ap (λ (z : told.Point). reverse (map step_view z.0)) p.0) ∙ sym (ap (λ (m : Mark). m.point.path) r.2) ∙ ap (λ (z : Place). z.0) q.located.view_is,
        )
        );
  }
