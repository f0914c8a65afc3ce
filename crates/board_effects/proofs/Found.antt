-- Elements that are there.
use Rattle.std.proofs.Common.{◌≡◌, refl, Option, Some, None}
use Rattle.std.specs.Prelude.{is_some}
use Rattle.board_history.specs.Needs.{has}
use Rattle.values.specs.declared.value.Scalar.{Scalar}

pub is_found : (o : Option Scalar) → is_some o ≡ has o
is_found None = refl
is_found (Some v) = refl
