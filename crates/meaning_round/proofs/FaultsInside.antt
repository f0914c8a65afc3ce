-- Facts that are added at places of instances lie in instances.
use Rattle.std.specs.Prelude.{◌≡◌, ℕ, ◌<◌, List, [], ◌∷◌, ◌++◌, length}
use Rattle.std.proofs.Common.{inl, inr, subst, sym}
use Rattle.language.specs.Members.{◌∈◌}
use Rattle.language.proofs.Members.{either, split_in}
use Rattle.meaning_facts.specs.declared.facts.Fact.{Fact}
use Rattle.meaning_facts.specs.declared.facts.Fact.TheVariants as Is
use Rattle.meaning_facts.specs.declared.facts.FaultFact.{FaultFact}
use Rattle.meaning_facts.specs.declared.facts.Place.{Place}
use Rattle.meaning_facts.specs.declared.instances.Instance.{Instance}
use Rattle.meaning_facts.specs.Growing.{IsWithin}
use Rattle.meaning_invariants.specs.Held.{AreInside, StayInside}

pub one_inside : (ns : List Instance) (fs : List Fact) (f : Fact) → AreInside ns fs → IsWithin ns f → AreInside ns (fs ++ f ∷ [])
one_inside ns fs f a b = record { each = each }
  where
    each : (x : Fact) → x ∈ (fs ++ f ∷ []) → IsWithin ns x
    each x i = elim (either fs (f ∷ []) i) [
      | inl j ↦ a.each x j
      | inr j ↦ elim (split_in j) [ inl e ↦ subst (IsWithin ns) (sym e) b | inr k ↦ elim k [ ] ]
    ]

pub fault_added : (ns : List Instance) (i : ℕ) {old new : List Fact} (f : FaultFact) (n : ℕ) → new ≡ old ++ Is.Fault f ∷ [] → f.place ≡ record { instance = i; node = n }
    → StayInside ns i old new
fault_added ns i {old} f n e q h a = subst (AreInside ns) (sym e) (one_inside ns old (Is.Fault f) a (subst (λ (z : Place). z.instance < length ns) (sym q) h.within))
