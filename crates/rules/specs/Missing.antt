-- The inputs that the compact representations stand for.
use Rattle.std.specs.Prelude.{List, [], ◌∷◌}
use Rattle.rules.specs.declared.input.Input.{Input}
use Rattle.rules.specs.declared.input.Input.TheVariants.{Whole, Element}
use Rattle.rules.specs.declared.missing.Missing.{Missing}
use Rattle.rules.specs.declared.missing.Missing.TheVariants.{Nothing, OneWhole, OneElement, TwoWholes, WholeAndElement, ElementAndWhole, TwoElements, More}
use Rattle.rules.specs.declared.missing.InputCount.{InputCount}
use Rattle.rules.specs.declared.missing.InputCount.TheVariants as Lists

-- the missing inputs, in order
abbrev pub inputs_in : Missing → List Input
inputs_in Nothing = []
inputs_in (OneWhole a) = Whole a ∷ []
inputs_in (OneElement a k) = Element a k ∷ []
inputs_in (TwoWholes a b) = Whole a ∷ Whole b ∷ []
inputs_in (WholeAndElement a b l) = Whole a ∷ Element b l ∷ []
inputs_in (ElementAndWhole a k b) = Element a k ∷ Whole b ∷ []
inputs_in (TwoElements a k b l) = Element a k ∷ Element b l ∷ []
inputs_in (More many) = many

-- the inputs, in order
abbrev pub inputs_of : InputCount → List Input
inputs_of Lists.Nothing = []
inputs_of (Lists.One i) = i ∷ []
inputs_of (Lists.Two i j) = i ∷ j ∷ []
inputs_of (Lists.More many) = many.now
