-- What is seen and was told by what is kept is what is known.
use Rattle.std.specs.Prelude.{◌≡◌, true, [], ◌∷◌, length, map, Option, Some, None, refl}
use Rattle.std.proofs.Common.{inl, inr, sym, ap, ◌∙◌, subst}
use Rattle.std.proofs.lemmas.Bool.{eqb-true, eq-eqb}
use Rattle.std.proofs.lemmas.Option.{same_Some}
use Rattle.values.specs.declared.key.Key.{Key}
use Rattle.values.specs.declared.value.Scalar.{Scalar}
use Rattle.values.specs.declared.value.Value.{Value}
use Rattle.values.specs.declared.value.Value.TheVariants.{One, Many}
use Rattle.language.specs.Core.{Core}
use Rattle.language.specs.Facts.{value, element, Knowledge, OneWrite, OneWriter}
use Rattle.language.specs.Meaning.{Closed, closed, HasValue, stored, in_turn}
use Rattle.language.specs.Places.{Path, Place, place, max_path_steps}
use Rattle.language_laws.proofs.PlacesEqual.{place_is}
use Rattle.meaning_steps.specs.Environment.{Sees}
use Rattle.meaning_steps.specs.News.{Recalls}
use Rattle.meaning_steps.specs.Kept.{Write, Kept, Keeps, scalar_by, values_under, element_of, by_key, sight_by, is_there, several_in, past_by}
use Rattle.meaning_steps.proofs.Written.{elements, elements_one}
use Rattle.meaning_steps.proofs.Lists.{none_so, none_all, one_so, one_all, two_so, two_all}

module _ (s : Core) (K : Knowledge) (k : Kept) (h : Keeps s K k) (one : (p : Place) (v u : Scalar) → HasValue s K p v → HasValue s K p u → v ≡ u) where
  scalar_so : (p : Place) (o : Option Value) (v : Scalar) → k.value p ≡ o → scalar_by o (k.turn p) ≡ Some v → HasValue s K p v
  scalar_so p (Some (One u)) v e q = subst (λ (z : Scalar). HasValue s K p z) (same_Some _ _ q) (stored (h.value_so p (One u) e))
  scalar_so p (Some (Many es)) v e q = h.turn_so p v q
  scalar_so p None v e q = h.turn_so p v q

  turn_is : (p : Place) (o : Option Value) (v : Scalar) → k.value p ≡ o → k.turn p ≡ Some v → scalar_by o (k.turn p) ≡ Some v
  turn_is p (Some (One u)) v e q = ap Some (one p u v (stored (h.value_so p (One u) e)) (h.turn_so p v q))
  turn_is p (Some (Many es)) v e q = q
  turn_is p None v e q = q

  scalar_all : {p : Place} {v : Scalar} → HasValue s K p v → scalar_by (k.value p) (k.turn p) ≡ Some v
  scalar_all (stored {at = p} {v = v} q) = ap (λ (z : Option Value). scalar_by z (k.turn p)) (h.value_all p (One v) q)
  scalar_all (in_turn {path = path} {c = c} {at = at} {n = n} {x = x} {header = header} {vs = vs} {k = key} {b = b} {v = v} l m r o t d) =
      turn_is ((at, key) ∷ path, x) (k.value ((at, key) ∷ path, x)) v refl (h.turn_all path c at n x header vs key b v l m r o t d)

  one_writer : {a : Place} → Closed s K a → OneWriter K a
  one_writer (closed l m f o) = o

  -- WRITES

  written_once : (a : Place) (key : Key) (v : Scalar) → values_under (k.writes a) key ≡ v ∷ [] → OneWrite K a key v
  written_once a key v e =
      let r = one_so (k.writes a) key v e in
      record {
        writer = r.is.writer;
        write = subst (λ (z : Scalar). K (element a key r.is.writer z)) r.value_is (subst (λ (z : Key). K (element a z r.is.writer r.is.value)) r.key_is (h.write_so a r.is r.there));
        only = λ w u q. ap (λ (z : Write). z.writer) (r.only (record { key = key; writer = w; value = u }) (h.write_all a key w u q) refl);
      }

  once_written : (a : Place) (key : Key) (v : Scalar) → OneWrite K a key v → values_under (k.writes a) key ≡ v ∷ []
  once_written a key v o =
      one_all (k.writes a) key (record { key = key; writer = o.writer; value = v }) (h.write_once a) (h.write_all a key o.writer v o.write) refl
      (λ u i e. o.only u.writer u.value (subst (λ (z : Key). K (element a z u.writer u.value)) e (h.write_so a u i)))

  never_so : (a : Place) (key : Key) → values_under (k.writes a) key ≡ [] → (w : Place) (v : Scalar) → K (element a key w v) → ⊥
  never_so a key e w v q = none_so (k.writes a) key e (record { key = key; writer = w; value = v }) (h.write_all a key w v q) refl

  never_all : (a : Place) (key : Key) → ((w : Place) (v : Scalar) → K (element a key w v) → ⊥) → values_under (k.writes a) key ≡ []
  never_all a key f = none_all (k.writes a) key (λ u i e. f u.writer u.value (subst (λ (z : Key). K (element a z u.writer u.value)) e (h.write_so a u i)))

  -- WHAT IS SEEN IS WHAT IS KNOWN
  pub sees : (path : Path) → Sees s K path (sight_by s k path)
  sees path = record {
    scalar_so = λ x v e. scalar_so (place s path x) (k.value (place s path x)) v refl e;
    scalar_all = λ x v q. scalar_all q;
    closed_so = λ a e. h.closed_so (place s path a) e;
    closed_all = λ a c. h.closed_all (place s path a) c;
    elements_so = λ a c. elements K k.writes h.write_so h.write_all h.write_once (place s path a) (one_writer c);
    elements_all = λ a es c x. elements_one K k.writes h.write_so h.write_all h.write_once (place s path a) es (by_key (map element_of (k.writes (place s path a)))) x (elements K k.writes h.write_so h.write_all h.write_once (place s path a) (one_writer c));
    once_so = λ a key v e. written_once (place s path a) key v e;
    once_all = λ a key v o. once_written (place s path a) key v o;
    never_so = λ a key e. never_so (place s path a) key e;
    never_all = λ a key f. never_all (place s path a) key f;
    cell_so = λ n v e. h.value_so (path, n) v e;
    cell_all = λ n v q. h.value_all (path, n) v q;
  }

  -- WHAT WAS TOLD IS WHAT IS KNOWN

  valued_so : (p : Place) (o : Option Value) → k.value p ≡ o → is_there o ≡ true → (v : Value) × K (value p v)
  valued_so p (Some v) e q = (v, h.value_so p v e)
  valued_so p None e q = absurd (cc (q))

  twice_so : (a : Place) (key : Key) (p : Place) → several_in (values_under (k.writes a) key) ≡ true → (w : Place) × (u : Scalar) × K (element a key w u) × (w ≡ p → ⊥)
  twice_so a key p e =
      let r = two_so (k.writes a) key (h.write_once a) e in
      elim (place_is r.one.writer p) [
        | inl q ↦ (r.other.writer, r.other.value, subst (λ (z : Key). K (element a z r.other.writer r.other.value)) r.other_key (h.write_so a r.other r.other_there), λ i. r.apart (q ∙ sym i))
        | inr q ↦ (r.one.writer, r.one.value, subst (λ (z : Key). K (element a z r.one.writer r.one.value)) r.one_key (h.write_so a r.one r.one_there), q)
      ]

  twice_all : (a : Place) (key : Key) (p w : Place) (v u : Scalar) → K (element a key p v) → K (element a key w u) → (w ≡ p → ⊥) → several_in (values_under (k.writes a) key) ≡ true
  twice_all a key p w v u x y d =
      two_all (k.writes a) key (record { key = key; writer = w; value = u }) (record { key = key; writer = p; value = v }) (h.write_all a key w u y) (h.write_all a key p v x) refl refl d

  pub recalls : (path : Path) → Recalls s K path (past_by s k path)
  recalls path = record {
    valued_so = λ x e. valued_so (place s path x) (k.value (place s path x)) refl e;
    written_so = λ a key n e. h.written_so (place s path a) key (path, n) e;
    written_all = λ a key n v q. h.written_all (place s path a) key (path, n) v q;
    twice_so = λ a key n e. twice_so (place s path a) key (path, n) e;
    twice_all = λ a key n w v u x y d. twice_all (place s path a) key (path, n) w v u x y d;
    lined_so = λ n e. h.lined_so (path, n) e;
    faulted_so = λ f at n e. h.faulted_so f at (path, n) e;
    deep_so = λ e. eqb-true (length path) max_path_steps e;
    deep_all = λ e. eq-eqb (length path) max_path_steps e;
  }
