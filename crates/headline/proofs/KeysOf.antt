-- A value that is a key is a scalar, and its key belongs to that scalar.
use Rattle.std.specs.Prelude.{◌≡◌, refl}
use Rattle.values.specs.declared.key.Key.{Key}
use Rattle.values.specs.declared.value.Scalar.{Scalar}
use Rattle.values.specs.declared.value.Scalar.TheVariants.{Number, Text}
use Rattle.values.specs.declared.value.Value.{Value}
use Rattle.values.specs.declared.value.Value.TheVariants.{One}
use Rattle.values.specs.Keys.{key_of}
use Rattle.language.specs.Facts.{IsKey, a_number, a_text}

pub key_as : {v : Value} {key : Key} → IsKey v key → (u : Scalar) × (v ≡ One u) × (key_of u ≡ key)
key_as (a_number {z = z}) = (Number z, refl, refl)
key_as (a_text {bytes = bytes}) = (Text bytes, refl, refl)

pub key_of_is : {u : Scalar} {key : Key} → IsKey (One u) key → key_of u ≡ key
key_of_is a_number = refl
key_of_is a_text = refl
