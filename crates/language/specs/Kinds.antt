-- Classification of token kinds. States docs/LANGUAGE.md: Grammar.
use Rattle.std.specs.Prelude.{Bool, true, false, Option, Some, None}
use denote.Enum.Bare.{sameb}
use Rattle.lexer.specs.declared.token.TokenKind.{TokenKind}
use Rattle.lexer.specs.declared.token.TokenKind.TheVariants as Kind
use Rattle.language.specs.declared.tree.Level.{Level}
use Rattle.lexer.specs.contracts.token.TokenKind as kinds
use Rattle.language.specs.contracts.tree.Level as levels
use Rattle.language.specs.declared.tree.Operator.{Operator}
use Rattle.language.specs.declared.tree.Base.{Base}
use Rattle.language.specs.declared.tree.Keys.{Keys}
use Rattle.language.specs.declared.tree.Keys.TheVariants.{Numbers, Texts}

-- the type of an index of an array under such keys
abbrev pub base_of_keys : Keys → Base
base_of_keys Numbers = Base.Int
base_of_keys Texts = Base.Text

-- whether two kinds of tokens are equal
abbrev pub same : TokenKind → TokenKind → Bool
same a b = sameb kinds.the_type a b

-- whether two levels are equal
abbrev pub same_level : Level → Level → Bool
same_level a b = sameb levels.the_type a b

-- the binary operator of a kind
abbrev pub operator_of : TokenKind → Option Operator
operator_of Kind.Or = Some Operator.Or
operator_of Kind.And = Some Operator.And
operator_of Kind.Equal = Some Operator.Equal
operator_of Kind.NotEqual = Some Operator.NotEqual
operator_of Kind.Less = Some Operator.Less
operator_of Kind.AtMost = Some Operator.AtMost
operator_of Kind.Greater = Some Operator.Greater
operator_of Kind.AtLeast = Some Operator.AtLeast
operator_of Kind.Plus = Some Operator.Plus
operator_of Kind.Minus = Some Operator.Minus
operator_of Kind.Times = Some Operator.Times
operator_of Kind.Quotient = Some Operator.Quotient
operator_of Kind.Remainder = Some Operator.Remainder
operator_of _ = None

-- the type that a kind names
abbrev pub base_of : TokenKind → Option Base
base_of Kind.Int = Some Base.Int
base_of Kind.String = Some Base.Text
base_of Kind.Boolean = Some Base.Boolean
base_of _ = None

-- the level of an operator
abbrev pub level_of : Operator → Level
level_of Operator.Or = Level.Or
level_of Operator.And = Level.And
level_of Operator.Equal = Level.Equality
level_of Operator.NotEqual = Level.Equality
level_of Operator.Less = Level.Order
level_of Operator.AtMost = Level.Order
level_of Operator.Greater = Level.Order
level_of Operator.AtLeast = Level.Order
level_of Operator.Plus = Level.Sum
level_of Operator.Minus = Level.Sum
level_of Operator.Times = Level.Product
level_of Operator.Quotient = Level.Product
level_of Operator.Remainder = Level.Product

-- whether operators of the level may follow one another
abbrev pub repeats : Level → Bool
repeats Level.Or = true
repeats Level.And = true
repeats Level.Equality = false
repeats Level.Order = false
repeats Level.Sum = true
repeats Level.Product = true
