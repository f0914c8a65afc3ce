-- Chains of numbers.
use Rattle.std.proofs.Common.{◌≡◌, ◌∙◌, ℕ, ◌≤◌, List, [], ◌∷◌, length, drop, ap, refl}
use Rattle.std.proofs.lemmas.List.{drop_all}
use Rattle.std.specs.Prelude.{ℤ, Result, Ok}
use Rattle.dataflow.specs.System.{Answer}
use Rattle.values.specs.declared.fault.OpFault.{OpFault}
use Rattle.values.specs.declared.key.Key.{Key}
use Rattle.values.specs.declared.value.Scalar.{Scalar}
use Rattle.values.specs.Operators.{all_values}
use Rattle.task_code.specs.declared.expr.Expr.{Expr}
use Rattle.task_code.specs.Compute.{evals}
use Rattle.task_code.specs.View.{exprs_view}
use Rattle.board_work.specs.Chains.{chain_from}

none_left : {O : Type 0} (step : O → ℤ → ℤ → Result ℤ OpFault) (x : ℤ) (os : List O) → chain_from step x os (Ok []) ≡ Ok x
none_left step x [] = refl
none_left step x (o ∷ os) = refl

-- a chain of which no operand is left is the number that it has come to
pub chain_done : {O : Type 0} (step : O → ℤ → ℤ → Result ℤ OpFault) (x : ℤ) (xs : List (Answer Key Scalar)) (os : List O) (es : List Expr) (i : ℕ) → length es ≤ i → chain_from step x (drop i os) (all_values (evals xs (exprs_view (drop i es)))) ≡ Ok x
chain_done step x xs os es i l = ap (λ (fs : List Expr). chain_from step x (drop i os) (all_values (evals xs (exprs_view fs)))) (drop_all i es l) ∙ none_left step x (drop i os)
