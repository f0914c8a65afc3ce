-- Steps of what the facts and the instances of a program say.
use Rattle.std.specs.Prelude.{◌≡◌, ℕ, zero, suc, ◌-◌, IsTrue, List, Option, Some, None, refl}
use Rattle.std.proofs.Common.{ap, arith}
use Rattle.values.specs.declared.map.Element.{Element}
use Rattle.values.specs.declared.value.Scalar.{Scalar}
use Rattle.values.specs.Maps.{rising, found, inserted}
use Rattle.values.proofs.Maps.{rising-inserted}
use Rattle.meaning_facts.specs.declared.facts.Write.{Write}
use Rattle.meaning_facts.specs.declared.instances.Instance.{Instance}
use Rattle.meaning_facts.specs.Store.{outward, parent_of, put_unless, put_write}

pub outward_step : (ns : List Instance) (up i : ℕ) → (up ≡ 0 → ⊥) → outward ns up i ≡ outward ns (up - 1) (parent_of ns i)
outward_step ns zero i h = absurd (h refl)
outward_step ns (suc up) i h = let e : up ≡ suc up - 1 = omega arith in ap (λ (z : ℕ). outward ns z (parent_of ns i)) e

put_some : (o : Option Scalar) (v : Scalar) (w : Write) (es : List Element) → o ≡ Some v → es ≡ put_unless o w es
put_some (Some u) v w es e = refl
put_some None v w es e = absurd (cc (e))

put_none : (o : Option Scalar) (w : Write) (es : List Element) → o ≡ None → inserted w.key w.value es ≡ put_unless o w es
put_none (Some u) w es e = absurd (cc (e))
put_none None w es e = refl

pub put_rising : (w : Write) (es : List Element) → IsTrue (rising es) → IsTrue (rising (put_write es w))
put_rising w es h = by (found w.key es)
  where
    by : (o : Option Scalar) → IsTrue (rising (put_unless o w es))
    by (Some v) = h
    by None = rising-inserted w.key w.value es h

pub put_new : (w : Write) (es : List Element) → found w.key es ≡ None → inserted w.key w.value es ≡ put_write es w
put_new w es h = put_none (found w.key es) w es h

pub put_kept : (w : Write) (es : List Element) (v : Scalar) → found w.key es ≡ Some v → es ≡ put_write es w
put_kept w es v h = put_some (found w.key es) v w es h
