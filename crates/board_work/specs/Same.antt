-- Equality of entries and of answers.
use Rattle.std.specs.Prelude.{Bool, true, false, ◌&&◌, Option, Some, None, nat_eq}
use Rattle.std.specs.Ordering.{int_eq}
use lib.Pointwise.{pointwise}
use Rattle.dataflow.specs.System.{Answer, Found, Missing, Content}
use Rattle.values.specs.declared.format.FormatPiece.{FormatPiece}
use Rattle.values.specs.declared.format.FormatPiece.TheVariants as Of
use Rattle.values.specs.declared.key.Key.{Key}
use Rattle.values.specs.declared.op.Sign.{Sign}
use Rattle.values.specs.declared.op.Sign.TheVariants.{Plus, Minus}
use Rattle.values.specs.declared.op.Factor.{Factor}
use Rattle.values.specs.declared.op.Factor.TheVariants.{Times, Divide, Remainder}
use Rattle.values.specs.declared.op.Order.{Order}
use Rattle.values.specs.declared.op.Order.TheVariants.{Less, LessOrEqual, Greater, GreaterOrEqual}
use Rattle.values.specs.declared.value.Scalar.{Scalar}
use Rattle.values.specs.declared.value.Value.TheVariants.{One}
use Rattle.values.specs.Keys.{same_key}
use Rattle.values.specs.Values.{same}
use Rattle.values.specs.Operators.{Operation, sum_of, product_of, compare, equal, unequal, all_true, any_true, not_true, negate, join, from_int, to_int, size, printf, assert, literal}
use Rattle.task_code.specs.Code.{Need, Stored, Closed, At, AtKey, Expr, constant, need, operation, Exprs, no_operand, operand, Argument, Named, Fixed, Loop, Header, Act, Cell, Read, Call, Set, Fill, Copy, InsertElement, Print, Assert, If, Range, Each, Wait, Entry}
use Rattle.task_code.specs.Places.{name_eq}

-- both values exist and are equal, or neither exists
abbrev pub option_eq : {X : Type 0} → (X → X → Bool) → Option X → Option X → Bool
option_eq f None None = true
option_eq f (Some x) (Some y) = f x y
option_eq f _ _ = false

-- the same number, truth value or text
abbrev pub scalar_eq : Scalar → Scalar → Bool
scalar_eq v w = same (One v) (One w)

-- needs, and arguments of a call
abbrev pub need_eq : Need → Need → Bool
need_eq (Stored r) (Stored s) = name_eq r s
need_eq (Closed r) (Closed s) = name_eq r s
need_eq (At a r) (At b s) = name_eq a b && name_eq r s
need_eq (AtKey a k) (AtKey b l) = name_eq a b && same_key k l
need_eq _ _ = false

abbrev pub argument_eq : Argument → Argument → Bool
argument_eq (Named r) (Named s) = name_eq r s
argument_eq (Fixed v) (Fixed w) = scalar_eq v w
argument_eq _ _ = false

-- operators
abbrev pub sign_eq : Sign → Sign → Bool
sign_eq Plus Plus = true
sign_eq Minus Minus = true
sign_eq _ _ = false

abbrev pub factor_eq : Factor → Factor → Bool
factor_eq Times Times = true
factor_eq Divide Divide = true
factor_eq Remainder Remainder = true
factor_eq _ _ = false

abbrev pub order_eq : Order → Order → Bool
order_eq Less Less = true
order_eq LessOrEqual LessOrEqual = true
order_eq Greater Greater = true
order_eq GreaterOrEqual GreaterOrEqual = true
order_eq _ _ = false

abbrev pub piece_eq : FormatPiece → FormatPiece → Bool
piece_eq (Of.Byte b) (Of.Byte c) = nat_eq b c
piece_eq Of.Number Of.Number = true
piece_eq Of.Text Of.Text = true
piece_eq _ _ = false

abbrev pub operation_eq : Operation → Operation → Bool
operation_eq (sum_of ss) (sum_of ts) = pointwise sign_eq ss ts
operation_eq (product_of fs) (product_of gs) = pointwise factor_eq fs gs
operation_eq (compare o) (compare p) = order_eq o p
operation_eq equal equal = true
operation_eq unequal unequal = true
operation_eq all_true all_true = true
operation_eq any_true any_true = true
operation_eq not_true not_true = true
operation_eq negate negate = true
operation_eq join join = true
operation_eq from_int from_int = true
operation_eq to_int to_int = true
operation_eq size size = true
operation_eq (printf ps) (printf qs) = pointwise piece_eq ps qs
operation_eq assert assert = true
operation_eq literal literal = true
operation_eq _ _ = false

-- expressions
abbrev mutual
  pub expr_eq : Expr → Expr → Bool
  expr_eq (constant v) (constant w) = scalar_eq v w
  expr_eq (need m) (need n) = nat_eq m n
  expr_eq (operation o es) (operation p fs) = operation_eq o p && exprs_eq es fs
  expr_eq _ _ = false

  pub exprs_eq : Exprs → Exprs → Bool
  exprs_eq no_operand no_operand = true
  exprs_eq (operand e es) (operand f fs) = expr_eq e f && exprs_eq es fs
  exprs_eq _ _ = false

-- acts and entries
abbrev pub loop_eq : Loop → Loop → Bool
loop_eq w x = nat_eq w.body x.body && (nat_eq w.value x.value && option_eq nat_eq w.turn x.turn)

abbrev pub header_eq : Header → Header → Bool
header_eq h i = nat_eq h.at i.at && pointwise need_eq h.needs i.needs

abbrev pub act_eq : Act → Act → Bool
act_eq (Cell e) (Cell f) = expr_eq e f
act_eq Read Read = true
act_eq (Call b rs os) (Call c ss ps) = nat_eq b c && (pointwise argument_eq rs ss && pointwise name_eq os ps)
act_eq (Set r e) (Set s f) = name_eq r s && expr_eq e f
act_eq (Fill r es) (Fill s fs) = name_eq r s && exprs_eq es fs
act_eq (Copy r) (Copy s) = name_eq r s
act_eq (InsertElement r i e) (InsertElement s j f) = name_eq r s && (expr_eq i j && expr_eq e f)
act_eq (Print e) (Print f) = expr_eq e f
act_eq (Assert e) (Assert f) = expr_eq e f
act_eq (If e b c) (If f d x) = expr_eq e f && (nat_eq b d && option_eq nat_eq c x)
act_eq (Range l h s w) (Range m i t x) = expr_eq l m && (expr_eq h i && (expr_eq s t && loop_eq w x))
act_eq (Each w) (Each x) = loop_eq w x
act_eq (Wait hs b) (Wait is c) = pointwise header_eq hs is && nat_eq b c
act_eq _ _ = false

abbrev pub entry_eq : Entry → Entry → Bool
entry_eq e f =
    nat_eq e.node f.node
    && (nat_eq e.at f.at
    && (nat_eq e.offset f.offset
    && (int_eq e.priority f.priority
    && (pointwise need_eq e.needs f.needs
    && (act_eq e.act f.act
    && (pointwise name_eq e.reads f.reads
    && pointwise name_eq e.writes f.writes))))))

-- answers
abbrev pub element_eq : Key × Scalar → Key × Scalar → Bool
element_eq x y = same_key x.0 y.0 && scalar_eq x.1 y.1

abbrev pub answer_eq : Answer Key Scalar → Answer Key Scalar → Bool
answer_eq (Found v) (Found w) = scalar_eq v w
answer_eq Missing Missing = true
answer_eq (Content xs) (Content ys) = pointwise element_eq xs ys
answer_eq _ _ = false
