-- The signs of a chain are those of its operators one by one, and so are the factors.
use Rattle.std.proofs.Common.{◌≡◌, List, [], ◌∷◌, map, refl, ap}
use Rattle.language.specs.declared.tree.Operator.{Operator}
use Rattle.language.specs.declared.tree.Operator.TheVariants.{Minus, Quotient, Remainder}
use Rattle.language.specs.Resolved.{signs, factors}
use Rattle.lowering.specs.View.{sign_of, factor_of}

signs_more : (o : Operator) (os : List Operator) → signs (o ∷ os) ≡ sign_of o ∷ signs os
signs_more Minus os = refl
signs_more _ os = refl

factors_more : (o : Operator) (os : List Operator) → factors (o ∷ os) ≡ factor_of o ∷ factors os
factors_more Quotient os = refl
factors_more Remainder os = refl
factors_more _ os = refl

pub signs_are : (os : List Operator) → signs os ≡ map sign_of os
signs_are [] = refl
signs_are (o ∷ os) = rw (signs_more o os) (ap (λ xs. sign_of o ∷ xs) (signs_are os))

pub factors_are : (os : List Operator) → factors os ≡ map factor_of os
factors_are [] = refl
factors_are (o ∷ os) = rw (factors_more o os) (ap (λ xs. factor_of o ∷ xs) (factors_are os))
