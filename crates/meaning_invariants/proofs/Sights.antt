-- What an instance sees is what is known and taken at its path.
use Rattle.std.specs.Prelude.{◌≡◌, ℕ, ◌<◌, Bool, true, ◌&&◌, List, [], ◌∷◌, length, map, is_some, Option, Some, None, refl}
use Rattle.std.proofs.Common.{sym, ap, ◌∙◌, subst}
use Rattle.std.proofs.lemmas.Bool.{and_from}
use Rattle.language.specs.Core.{Awaited, scalar, array, Block, wait, Core}
use Rattle.language.specs.Facts.{Knowledge, OneWriter}
use Rattle.language.specs.Members.{◌∈◌, first, later}
use Rattle.language.specs.Places.{Path, Place, place}
use Rattle.meaning_steps.specs.Kept.{element_of, by_key, sight_by}
use Rattle.meaning_steps.proofs.Written.{elements, elements_one}
use Rattle.meaning_steps.specs.Environment.{Sight}
use Rattle.meaning_steps.specs.Taken.{ComeBy, ReadyBy, by_cells, by_names}
use Rattle.meaning_facts.specs.declared.fact_base.FactBase.{FactBase}
use Rattle.meaning_cells.specs.Chosen.{has_come_in, have_come_in}
use Rattle.meaning_facts.specs.Growing.{KeepsFacts}
use Rattle.meaning_facts.specs.Keeping.{kept_of, IsPlaced}
use Rattle.meaning_facts.specs.Paths.{path_of}
use Rattle.meaning_facts.specs.Sighted.{sight_of}
use Rattle.meaning_cells.specs.Taking.{SeesBy}
use Rattle.meaning_facts.proofs.Growing.{both}
use Rattle.meaning_facts.proofs.Keeping.{sees_kept}
use Rattle.meaning_invariants.specs.Active.{Active, taken_by}

module _ (s : Core) (K : Knowledge) (l : FactBase) (ls : List Active) (placed : IsPlaced s l.instances) (keeps : KeepsFacts K l)
    (apart : (a : Place) → (kept_of l).closed a ≡ true → OneWriter K a) where
  kept_sees : (path : Path) → SeesBy s K (taken_by l ls) path (sight_by s (kept_of l) path)
  kept_sees path = record {
    cell_so = λ n v e. keeps.value_so (path, n) v e;
    cell_all = λ n v k. keeps.value_all (path, n) v k;
    closed_so = λ a e. e;
    closed_all = λ a e. e;
    elements_so = λ a c. elements K (kept_of l).writes keeps.write_so keeps.write_all keeps.write_once (place s path a) (apart (place s path a) c);
    elements_all = λ a es c x. elements_one K (kept_of l).writes keeps.write_so keeps.write_all keeps.write_once (place s path a) es (by_key (map element_of ((kept_of l).writes (place s path a)))) x
        (elements K (kept_of l).writes keeps.write_so keeps.write_all keeps.write_once (place s path a) (apart (place s path a) c));
  }

  pub sees : (i : ℕ) → i < length l.instances.all.items → SeesBy s K (taken_by l ls) (path_of l.instances.all.items i) (sight_of l i)
  sees i within =
      subst (λ (g : Sight). SeesBy s K (taken_by l ls) (path_of l.instances.all.items i) g) (sym (sees_kept s l placed i within)) (kept_sees (path_of l.instances.all.items i))

-- WHAT A WAIT WAITS FOR

pub some_is : {X : Type 0} (o : Option X) → is_some o ≡ true → (x : X) × (o ≡ Some x)
some_is (Some x) e = (x, refl)
some_is None e = absurd (cc (e))

module _ (s : Core) (l : FactBase) (ls : List Active) (path : Path) where
  abbrev seen : Sight
  seen = sight_by s (kept_of l) path

  one_so : (x : Awaited) → has_come_in seen x ≡ true → ComeBy s (taken_by l ls) path x
  one_so (scalar x) e = some_is (seen.scalar x) e
  one_so (array x) e = e

  one_all : (x : Awaited) → ComeBy s (taken_by l ls) path x → has_come_in seen x ≡ true
  one_all (scalar x) h = ap is_some h.1
  one_all (array x) h = h

  names_so : (ns : List Awaited) → have_come_in seen ns ≡ true → (x : Awaited) → x ∈ ns → ComeBy s (taken_by l ls) path x
  names_so [] e x m = elim m [ ]
  names_so (n ∷ ns) e x first = one_so n (both (has_come_in seen n) (have_come_in seen ns) e).0
  names_so (n ∷ ns) e x (later m) = names_so ns (both (has_come_in seen n) (have_come_in seen ns) e).1 x m

  names_all : (ns : List Awaited) → ((x : Awaited) → x ∈ ns → ComeBy s (taken_by l ls) path x) → have_come_in seen ns ≡ true
  names_all [] f = refl
  names_all (n ∷ ns) f = and_from _ _ (one_all n (f n first)) (names_all ns (λ x m. f x (later m)))

module _ (s : Core) (l : FactBase) (ls : List Active) (placed : IsPlaced s l.instances) (i : ℕ) (within : i < length l.instances.all.items) where
  pub come_so : (ns : List Awaited) → have_come_in (sight_of l i) ns ≡ true → (x : Awaited) → x ∈ ns → ComeBy s (taken_by l ls) (path_of l.instances.all.items i) x
  come_so ns e = names_so s l ls (path_of l.instances.all.items i) ns (subst (λ (g : Sight). have_come_in g ns ≡ true) (sees_kept s l placed i within) e)

  pub come_all : (ns : List Awaited) → ((x : Awaited) → x ∈ ns → ComeBy s (taken_by l ls) (path_of l.instances.all.items i) x) → have_come_in (sight_of l i) ns ≡ true
  come_all ns f = subst (λ (g : Sight). have_come_in g ns ≡ true) (sym (sees_kept s l placed i within)) (names_all s l ls (path_of l.instances.all.items i) ns f)

-- the names of a `wait` that is ready
pub ready_names : {s : Core} {K : Knowledge} {l : FactBase} {ls : List Active} {path : Path} {ns : List Awaited} {b : Block} → ReadyBy s K (taken_by l ls) path (wait ns b) []
    → (x : Awaited) → x ∈ ns → ComeBy s (taken_by l ls) path x
ready_names (by_cells k d) = elim d [ ]
ready_names (by_names f) = f
