-- Whether no key has two writers, as it is read off what is known.
use Rattle.std.proofs.Common.{◌≡◌, ℕ, ◌<◌, Bool, true, List, map, [], ◌∷◌, length, refl, sym, subst}
use Rattle.std.specs.Prelude.{◌↔◌, IsTrue}
use Rattle.language.specs.Facts.{element, Knowledge, OneWriter}
use Rattle.language.specs.Members.{◌∈◌, first}
use Rattle.language.specs.Places.{Place}
use Rattle.meaning_steps.specs.Kept.{Write as KeptWrite}
use Rattle.meaning_facts.specs.declared.facts.Place.{Place as Spot}
use Rattle.meaning_facts.specs.declared.facts.Write.{Write}
use Rattle.meaning_facts.specs.declared.fact_base.FactBase.{FactBase}
use Rattle.meaning_facts.specs.Keeping.{kept_of, place_view, write_view}
use Rattle.meaning_facts.specs.Paths.{IsTree}
use Rattle.meaning_facts.specs.Indexed.{one_writer_in}
use Rattle.meaning_facts.specs.Store.{writes_at}
use Rattle.meaning_facts.proofs.Growing.{looked, spot_view}
use Rattle.meaning_facts.proofs.Keeping.{found_there}
use Rattle.meaning_invariants.specs.Held.{Holds}
use Rattle.meaning_invariants.proofs.Apart.{one_all, one_so}

module _ (K : Knowledge) (l : FactBase) (tree : IsTree l.instances) (holds : Holds K l) where
  spots_so : ((p : Spot) → one_writer_in (writes_at l.facts p) ≡ true) → (a : Place) → OneWriter K a
  spots_so h a = λ k w w' v v' x y.
      let at = looked l.instances (λ (ws : List KeptWrite). record { key = k; writer = w; value = v } ∈ ws) [] (λ p. map (write_view l.instances.all.items) (writes_at l.facts p)) a (λ i. elim i [ ]) (holds.keeps.write_all a k w v x) in
      let place_is = spot_view l.instances tree a at.instance at.found in
      let within = (found_there l.instances tree a.0 at.instance at.found).0 in
      subst (λ (b : Place). OneWriter K b) place_is (one_so K l tree holds.keeps at.instance within a.1 (h (record { instance = at.instance; node = a.1 }))) k w w' v v' x y

  places_so : ((a : Place) → OneWriter K a) → (p : Spot) → one_writer_in (writes_at l.facts p) ≡ true
  places_so h p = by (writes_at l.facts p) refl
    where
      by : (ws : List Write) → writes_at l.facts p ≡ ws → one_writer_in ws ≡ true
      by [] e = refl
      by (w ∷ ws) e =
          let within = holds.within.writes p w (subst (λ (z : List Write). w ∈ z) (sym e) first) in
          subst (λ (z : List Write). one_writer_in z ≡ true) e (one_all K l tree holds.keeps p.instance within p.node (h (place_view l.instances.all.items p)))

  pub clean_read : (b : Bool) → (IsTrue b ↔ ((p : Spot) → IsTrue (one_writer_in (writes_at l.facts p)))) → IsTrue b ↔ ((a : Place) → OneWriter K a)
  clean_read b h = (λ t. spots_so (h.0 t), λ one. h.1 (places_so one))
