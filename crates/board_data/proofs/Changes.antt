-- One datum has changed.
use Rattle.std.proofs.Common.{◌≡◌, ◌≢◌, refl, ℕ, zero, suc, ◌<◌, ◌≤◌, List, [], ◌∷◌, length, Option, Some, None, arith}
use Rattle.std.specs.Prelude.{slice_index_or, slice_set}
use Rattle.std.proofs.lemmas.List.{get_or-set_same, get_or-set_other}
use Rattle.data_store.specs.Arrays.{Array, room_for, with_element}
use Rattle.data_store.specs.Stores.{Store, at}
use Rattle.data_store.specs.declared.datum.Datum.{Datum}
use Rattle.values.specs.Maps.{inserted}
use Rattle.values.specs.declared.key.Key.{Key}
use Rattle.values.specs.declared.key.Key.TheVariants.{Number, Text}
use Rattle.values.specs.declared.value.Scalar.{Scalar}

within : {X : Type 0} (cs : List (Option X)) (d : ℕ) (x : X) → slice_index_or cs d None ≡ Some x → d < length cs
within [] d x e = absurd cc
within (c ∷ cs) zero x e = omega arith
within (c ∷ cs) (suc d) x e = omega (arith, within cs d x e)

pub set_here : (s : Store) (d : ℕ) (x : Datum) (y : Option Datum) → at s d ≡ Some x → slice_index_or (slice_set s.cells d y) d None ≡ y
set_here s d x y e = get_or-set_same s.cells d y None (within s.cells d x e)

pub set_elsewhere : (s : Store) (d e : ℕ) (y : Option Datum) → e ≢ d → slice_index_or (slice_set s.cells d y) e None ≡ at s e
set_elsewhere s d e y n = get_or-set_other s.cells d e y None n

pub set_nowhere : {X : Type 0} (cs : List (Option X)) (d : ℕ) → slice_index_or cs d None ≡ None → slice_index_or (slice_set cs d None) d None ≡ None
set_nowhere [] zero e = refl
set_nowhere [] (suc d) e = refl
set_nowhere (c ∷ cs) zero e = refl
set_nowhere (c ∷ cs) (suc d) e = set_nowhere cs d e

-- one element more, which takes one place of the room of its kind
pub with_elements : (k : Key) (v : Scalar) (a : Array) → (with_element k v a).elements ≡ inserted k v a.elements
with_elements (Number z) v a = refl
with_elements (Text bytes) v a = refl

pub room_less : (k l : Key) (v : Scalar) (a : Array) (n : ℕ) → suc n ≤ room_for k a → n ≤ room_for k (with_element l v a)
room_less (Number x) (Number y) v a n h = omega (arith, h)
room_less (Number x) (Text y) v a n h = omega (arith, h)
room_less (Text x) (Number y) v a n h = omega (arith, h)
room_less (Text x) (Text y) v a n h = omega (arith, h)
