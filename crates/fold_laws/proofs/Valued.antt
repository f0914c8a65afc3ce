-- An expression of literals has its one value under all knowledge.
use Rattle.std.specs.Prelude.{◌≡◌, List, ◌∷◌, map, Result, Ok, refl}
use Rattle.std.proofs.Common.{sym, ap, ◌∙◌}
use Rattle.values.specs.declared.fault.OpFault.{OpFault}
use Rattle.values.specs.declared.value.Scalar.{Scalar}
use Rattle.values.specs.declared.value.Value.{Value}
use Rattle.values.specs.declared.value.Value.TheVariants.{One}
use Rattle.values.specs.Operators.{evaluated}
use Rattle.language.specs.Core.{Core, Expr, Exprs}
use Rattle.language.specs.Facts.{Knowledge}
use Rattle.language.specs.Meaning.{ValueUnder, of_literal, of_operator, ValuesUnder, no_operand, operand}
use Rattle.language.specs.Places.{Path}
use Rattle.fold_laws.specs.Same as same
use Rattle.fold_laws.specs.Same.{ComesTo, a_literal, an_operator, AllComeTo}

abbrev pub results : List Scalar → List (Result Value OpFault)
results vs = map (λ u. Ok (One u)) vs

module _ (s : Core) (K : Knowledge) (path : Path) where
  mutual
    pub has_it : {e : Expr} {v : Scalar} → ComesTo e v → ValueUnder s K path e (Ok (One v))
    has_it a_literal = of_literal
    has_it (an_operator h is) = of_operator (have_them h) is

    have_them : {es : Exprs} {vs : List Scalar} → AllComeTo es vs → ValuesUnder s K path es (results vs)
    have_them same.no_operand = no_operand
    have_them (same.operand h hs) = operand (has_it h) (have_them hs)

  mutual
    pub no_other : {e : Expr} {v : Scalar} {r : Result Value OpFault} → ComesTo e v → ValueUnder s K path e r → r ≡ Ok (One v)
    no_other a_literal of_literal = refl
    no_other (an_operator {o} h is) (of_operator ws e) = sym e ∙ ap (λ rs. evaluated o rs) (no_others h ws) ∙ is

    no_others : {es : Exprs} {vs : List Scalar} {rs : List (Result Value OpFault)} → AllComeTo es vs → ValuesUnder s K path es rs → rs ≡ results vs
    no_others same.no_operand no_operand = refl
    no_others (same.operand {v} h hs) (operand {rs} w ws) = ap (λ r. r ∷ rs) (no_other h w) ∙ ap (λ rs. Ok (One v) ∷ rs) (no_others hs ws)
