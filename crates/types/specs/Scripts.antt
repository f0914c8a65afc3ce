-- The check of a script, part by part.
use Rattle.std.specs.Prelude.{ℕ, ◌+◌, List, [], ◌∷◌, Option, Some, None, cond, nat_lt}
use Rattle.types.specs.declared.fault.TypeFault.TheVariants.{Declared}
use Rattle.types.specs.declared.typed.Binding.{Binding}
use Rattle.types.specs.declared.typed.Binding.TheVariants.{Input, Output}
use Rattle.types.specs.declared.typed.Builtin.{Builtin}
use Rattle.language.specs.Tree.{Word, Declaration, Composite, import, function, single, Tree}
use Rattle.language.specs.Scopes.{declared_type, Signature, signatures}
use Rattle.types.specs.Known.{Around, nowhere}
use Rattle.types.specs.Outcomes.{Outcome, refused, got, Check, ◌>>=◌}
use Rattle.types.specs.Names.{fresh, added, builtin_of, Found, missing, found, find}
use Rattle.types.specs.Statements.{stated, enclosed}

-- outputs or inputs of a function, each with its position
abbrev pub parameters : (ℕ → Binding) → Around → ℕ → List Declaration → Check Around
parameters owned g i [] settled = got g settled
parameters owned g i (d ∷ ds) settled =
    fresh g d.name settled >>= λ u. parameters owned (added g d.name (owned i) (declared_type d)) (i + 1) ds

-- a check that the name of a function is not that of one above it
abbrev pub name_by : Found → ℕ → Word → Check (Unit {0})
name_by missing above w settled = got tt settled
name_by (found n f) above w settled = cond (nat_lt n above) (refused (Declared w.span)) (got tt settled)

-- a check that it is not that of a built-in function either
abbrev pub name_of : Option Builtin → List Signature → ℕ → Word → Check (Unit {0})
name_of None fs above w settled = name_by (find fs w.text) above w settled
name_of (Some b) fs above w settled = refused (Declared w.span)

-- a function after `above` others; its body sees its outputs and inputs, and no variable of the script
abbrev pub function_checked : List Signature → ℕ → Composite → Check (Unit {0})
function_checked fs above f settled =
    parameters Output nowhere 0 f.outputs settled >>= λ g s. name_of (builtin_of f.name.text) fs above f.name s
    >>= λ u s. parameters Input g 0 f.inputs s >>= λ h. enclosed fs h f.body

-- the parts in order
abbrev pub parts_checked : List Signature → ℕ → Around → Tree → Check (Unit {0})
parts_checked fs above g [] settled = got tt settled
parts_checked fs above g (import sp ∷ ps) settled = parts_checked fs above g ps settled
parts_checked fs above g (function f ∷ ps) settled = function_checked fs above f settled >>= λ u. parts_checked fs (above + 1) g ps
parts_checked fs above g (single st ∷ ps) settled = stated fs g st settled >>= λ h. parts_checked fs above h ps

-- the check of a script: its recorded names, or the first fault
abbrev pub checked : Tree → Outcome (Unit {0})
checked tree = parts_checked (signatures tree) 0 nowhere tree []
