-- Number and name of each typing rule. An allocation failure is not a refusal and has no number.
use Rattle.std.specs.Prelude.{ℕ, List, codes}
use Rattle.types.specs.declared.fault.TypeFault.{TypeFault}
use Rattle.types.specs.declared.fault.TypeFault.TheVariants as Typing

abbrev pub type_name : TypeFault → List ℕ
type_name (Typing.Unknown at) = codes "Y1 Unknown"
type_name (Typing.Declared at) = codes "Y2 Declared"
type_name (Typing.Mismatch at) = codes "Y3 Mismatch"
type_name (Typing.WrongCount at) = codes "Y4 WrongCount"
type_name (Typing.BadFormat at) = codes "Y5 BadFormat"
type_name (Typing.NotAFunction at) = codes "Y6 NotAFunction"
type_name Typing.Memory = codes "no memory"
