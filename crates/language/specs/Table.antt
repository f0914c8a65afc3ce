-- The table of a script's names: the result of checking its types. States docs/LANGUAGE.md: Types.
use Rattle.std.specs.Prelude.{ℕ, List, codes}
use Rattle.language.specs.declared.tree.Shape.{Shape}
use Rattle.language.specs.Core.{Name}

-- the predefined functions
pub data Builtin : Type 0 where
  strcat fromint toint size printf assert : Builtin

abbrev pub builtin_text : Builtin → List ℕ
builtin_text strcat = codes "strcat"
builtin_text fromint = codes "fromint"
builtin_text toint = codes "toint"
builtin_text size = codes "size"
builtin_text printf = codes "printf"
builtin_text assert = codes "assert"

-- the callee of a called name: a function of the script, by its index, or a built-in one
pub data Callee : Type 0 where
  composite : (function : ℕ) → Callee
  built_in : Builtin → Callee

-- by node number: the reference of a name, its shape, and the callee of a called name
pub record Table : Type 0 where
  pub name_of : ℕ → Name
  pub shape_of : ℕ → Shape
  pub callee_of : ℕ → Callee
