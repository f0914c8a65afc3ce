-- Values, lines and writes that are added at places of instances lie in instances.
use Rattle.std.specs.Prelude.{◌≡◌, ℕ, ◌<◌, List, [], ◌∷◌, ◌++◌, length}
use Rattle.std.proofs.Common.{subst, sym}
use Rattle.values.specs.declared.value.Value.{Value}
use Rattle.language.specs.Core.{Name}
use Rattle.meaning_facts.specs.declared.facts.Fact.{Fact}
use Rattle.meaning_facts.specs.declared.facts.Fact.TheVariants as Is
use Rattle.meaning_facts.specs.declared.facts.Place.{Place}
use Rattle.meaning_facts.specs.declared.facts.Write.{Write}
use Rattle.meaning_facts.specs.declared.instances.Instance.{Instance}
use Rattle.meaning_facts.specs.Store.{spot}
use Rattle.meaning_invariants.specs.Held.{AreInside, StayInside}
use Rattle.meaning_round.proofs.FaultsInside.{one_inside}

module _ (ns : List Instance) (i : ℕ) {old new : List Fact} where
  pub value_added : (p : Place) (v : Value) (n : ℕ) → new ≡ old ++ Is.Value p v ∷ [] → p ≡ record { instance = i; node = n } → StayInside ns i old new
  value_added p v n e q h a = subst (AreInside ns) (sym e) (one_inside ns old (Is.Value p v) a (subst (λ (z : Place). z.instance < length ns) (sym q) h.within))

  pub named_added : (p : Place) (v : Value) (x : Name) → new ≡ old ++ Is.Value p v ∷ [] → p ≡ spot ns i x → StayInside ns i old new
  named_added p v x e q h a = subst (AreInside ns) (sym e) (one_inside ns old (Is.Value p v) a (subst (λ (z : Place). z.instance < length ns) (sym q) (h.names x)))

  pub line_added : (p : Place) (bytes : List ℕ) (n : ℕ) → new ≡ old ++ Is.Line p bytes ∷ [] → p ≡ record { instance = i; node = n } → StayInside ns i old new
  line_added p bytes n e q h a = subst (AreInside ns) (sym e) (one_inside ns old (Is.Line p bytes) a (subst (λ (z : Place). z.instance < length ns) (sym q) h.within))

  pub write_added : (p : Place) (w : Write) (x : Name) (n : ℕ) → new ≡ old ++ Is.Element p w ∷ [] → p ≡ spot ns i x → w.writer ≡ record { instance = i; node = n } → StayInside ns i old new
  write_added p w x n e q r h a =
      subst (AreInside ns) (sym e)
      (one_inside ns old (Is.Element p w) a (subst (λ (z : Place). z.instance < length ns) (sym q) (h.names x), subst (λ (z : Place). z.instance < length ns) (sym r) h.within))
