-- Expressions as lists of tokens, by which a proof distinguishes them.
use Rattle.std.specs.Prelude.{◌≡◌, ℕ, zero, suc, List, [], ◌∷◌, refl}
use Rattle.std.specs.Coded.{Coded, code_by, coded_list}
use Rattle.std.proofs.Common.{ap, ap₂, ◌∙◌}
use Rattle.values.specs.declared.value.Scalar.{Scalar}
use Rattle.values.specs.Operators.{Operation}
use Rattle.task_code.specs.Code.{Expr, constant, need, operation, Exprs, no_operand, operand}

-- a constant, a need, or an operation after its operands, with their number
pub data Token : Type 0 where
  Given : Scalar → Token
  Needed : ℕ → Token
  Applied : Operation → ℕ → Token

-- the number of operands
abbrev pub operand_count : Exprs → ℕ
operand_count no_operand = zero
operand_count (operand e es) = suc (operand_count es)

-- the tokens of an expression followed by others: its operands from the last to the first, and then its operation
abbrev mutual
  pub tokens : Expr → List Token → List Token
  tokens (constant v) ts = Given v ∷ ts
  tokens (need n) ts = Needed n ∷ ts
  tokens (operation o es) ts = operand_tokens es (Applied o (operand_count es) ∷ ts)

  pub operand_tokens : Exprs → List Token → List Token
  operand_tokens no_operand ts = ts
  operand_tokens (operand e es) ts = operand_tokens es (tokens e ts)

-- operands followed by others
abbrev pub in_front_of : Exprs → Exprs → Exprs
in_front_of no_operand fs = fs
in_front_of (operand e es) fs = operand e (in_front_of es fs)

-- the first n operands, and the others
abbrev pub front : ℕ → Exprs → Exprs
front zero es = no_operand
front (suc n) no_operand = no_operand
front (suc n) (operand e es) = operand e (front n es)

abbrev pub behind : ℕ → Exprs → Exprs
behind zero es = es
behind (suc n) no_operand = no_operand
behind (suc n) (operand e es) = behind n es

-- reads tokens from left to right, onto a stack of the expressions read before
abbrev pub read_tokens : List Token → Exprs → Exprs
read_tokens [] es = es
read_tokens (Given v ∷ ts) es = read_tokens ts (operand (constant v) es)
read_tokens (Needed n ∷ ts) es = read_tokens ts (operand (need n) es)
read_tokens (Applied o n ∷ ts) es = read_tokens ts (operand (operation o (front n es)) (behind n es))

abbrev pub first_read : Exprs → Expr
first_read no_operand = need 0
first_read (operand e es) = e

abbrev pub front-in_front_of : (es fs : Exprs) → front (operand_count es) (in_front_of es fs) ≡ es
front-in_front_of no_operand fs = refl
front-in_front_of (operand e es) fs = ap (operand e) (front-in_front_of es fs)

abbrev pub behind-in_front_of : (es fs : Exprs) → behind (operand_count es) (in_front_of es fs) ≡ fs
behind-in_front_of no_operand fs = refl
behind-in_front_of (operand e es) fs = behind-in_front_of es fs

abbrev pub in_front_of-none : (es : Exprs) → in_front_of es no_operand ≡ es
in_front_of-none no_operand = refl
in_front_of-none (operand e es) = ap (operand e) (in_front_of-none es)

-- reading the tokens of an expression returns the expression
abbrev mutual
  pub read-tokens : (e : Expr) (ts : List Token) (fs : Exprs) → read_tokens (tokens e ts) fs ≡ read_tokens ts (operand e fs)
  read-tokens (constant v) ts fs = refl
  read-tokens (need n) ts fs = refl
  read-tokens (operation o es) ts fs =
      read-operand_tokens es (Applied o (operand_count es) ∷ ts) fs
      ∙ ap₂ (λ a b. read_tokens ts (operand (operation o a) b)) (front-in_front_of es fs) (behind-in_front_of es fs)

  pub read-operand_tokens : (es : Exprs) (ts : List Token) (fs : Exprs) → read_tokens (operand_tokens es ts) fs ≡ read_tokens ts (in_front_of es fs)
  read-operand_tokens no_operand ts fs = refl
  read-operand_tokens (operand e es) ts fs = read-operand_tokens es (tokens e ts) fs ∙ read-tokens e ts (in_front_of es fs)

-- the coding of expressions, from that of tokens
abbrev pub expr_code : Coded Token → Coded Expr
expr_code token_code =
    code_by (List Token) (coded_list token_code) (λ e. tokens e []) (λ ts. first_read (read_tokens ts no_operand))
    (λ e. ap first_read (read-tokens e [] no_operand))

abbrev pub exprs_code : Coded Token → Coded Exprs
exprs_code token_code =
    code_by (List Token) (coded_list token_code) (λ es. operand_tokens es []) (λ ts. read_tokens ts no_operand)
    (λ es. read-operand_tokens es [] no_operand ∙ in_front_of-none es)
