-- What is written, by rising key, is the elements of an array of which no key has two writers.
use Rattle.std.specs.Prelude.{◌≡◌, List, map}
use Rattle.std.proofs.Common.{sym, ap, ◌∙◌, subst}
use Rattle.values.specs.declared.key.Key.{Key}
use Rattle.values.specs.declared.map.Element.{Element}
use Rattle.values.specs.declared.value.Scalar.{Scalar}
use Rattle.values.specs.Maps.{element as entry}
use Rattle.language.specs.Facts.{element, Knowledge, OneWriter, Elements}
use Rattle.language.specs.Members.{◌∈◌}
use Rattle.language.specs.Places.{Place}
use Rattle.language_laws.proofs.Rising.{rising_same}
use Rattle.meaning_steps.specs.Kept.{AreApart, Write, element_of, by_key}
use Rattle.meaning_steps.proofs.Firsts.{by_key_rising, by_key_from, by_key_all}
use Rattle.meaning_steps.proofs.Lists.{in_map, of_map, same_value}

module _ (K : Knowledge) (writes : Place → List Write) (so : (a : Place) (w : Write) → w ∈ writes a → K (element a w.key w.writer w.value))
    (every : (a : Place) (key : Key) (w : Place) (v : Scalar) → K (element a key w v) → record { key = key; writer = w; value = v } ∈ writes a) (once : (a : Place) → AreApart (writes a)) where
  -- what is written under a key by one writer is one scalar
  one_value : (a : Place) → OneWriter K a → (key : Key) (v u : Scalar) → entry key v ∈ map element_of (writes a) → entry key u ∈ map element_of (writes a) → v ≡ u
  one_value a o key v u m i =
      let r = of_map (writes a) m in
      let q = of_map (writes a) i in
      let r_key : key ≡ r.0.key = ap (λ (z : Element). z.key) r.2 in
      let q_key : key ≡ q.0.key = ap (λ (z : Element). z.key) q.2 in
      let r_value : v ≡ r.0.value = ap (λ (z : Element). z.value) r.2 in
      let q_value : u ≡ q.0.value = ap (λ (z : Element). z.value) q.2 in
      let other = subst (λ (z : Key). K (element a z q.0.writer q.0.value)) (sym q_key ∙ r_key) (so a q.0 q.1) in
      let writer = o r.0.key r.0.writer q.0.writer r.0.value q.0.value (so a r.0 r.1) other in
      r_value ∙ same_value (writes a) (once a) r.0 q.0 r.1 q.1 (sym r_key ∙ q_key) writer ∙ sym q_value

  written : (a : Place) (key : Key) (v : Scalar) → entry key v ∈ by_key (map element_of (writes a)) → (w : Place) × K (element a key w v)
  written a key v m =
      let r = of_map (writes a) (by_key_from (map element_of (writes a)) (entry key v) m) in
      let same_k : key ≡ r.0.key = ap (λ (z : Element). z.key) r.2 in
      let same_v : v ≡ r.0.value = ap (λ (z : Element). z.value) r.2 in
      (r.0.writer, subst (λ (z : Key). K (element a z r.0.writer v)) (sym same_k) (subst (λ (z : Scalar). K (element a r.0.key r.0.writer z)) (sym same_v) (so a r.0 r.1)))

  all_there : (a : Place) → OneWriter K a → (key : Key) (w : Place) (v : Scalar) → K (element a key w v) → entry key v ∈ by_key (map element_of (writes a))
  all_there a o key w v q =
      by_key_all (map element_of (writes a)) (one_value a o) (entry key v) (in_map (writes a) (every a key w v q))

  -- the elements by what is written, where no key has two writers
  pub elements : (a : Place) → OneWriter K a → Elements K a (by_key (map element_of (writes a)))
  elements a o = record {
    in_order = by_key_rising (map element_of (writes a));
    written = written a;
    all = all_there a o;
  }

  pub elements_one : (a : Place) (es fs : List Element) → Elements K a es → Elements K a fs → es ≡ fs
  elements_one a es fs x y =
      rising_same es fs x.in_order y.in_order
      (λ p i. (let w = x.written p.key p.value i in y.all p.key w.0 p.value w.1))
      (λ p i. (let w = y.written p.key p.value i in x.all p.key w.0 p.value w.1))
