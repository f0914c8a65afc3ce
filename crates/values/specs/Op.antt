-- The operation of a node of a program.
use Rattle.values.specs.declared.op.Op.{Op}
use Rattle.values.specs.declared.op.Op.TheVariants.{Sum, Product, Compare, Equal, Unequal, And, Or, Not, Negate, Join, FromInt, ToInt, Size, Printf, Assert, Literal}
use Rattle.values.specs.Operators.{Operation, sum_of, product_of, compare, equal, unequal, all_true, any_true, not_true, negate, join, from_int, to_int, size, printf, assert, literal}

-- an Op borrows the operators of a chain and the format; its operation has them by value
abbrev pub operation_of : Op → Operation
operation_of (Sum signs) = sum_of signs.now
operation_of (Product factors) = product_of factors.now
operation_of (Compare order) = compare order
operation_of Equal = equal
operation_of Unequal = unequal
operation_of And = all_true
operation_of Or = any_true
operation_of Not = not_true
operation_of Negate = negate
operation_of Join = join
operation_of FromInt = from_int
operation_of ToInt = to_int
operation_of Size = size
operation_of (Printf format) = printf format.now
operation_of Assert = assert
operation_of Literal = literal
