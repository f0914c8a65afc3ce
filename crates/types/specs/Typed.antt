-- The table of a checked script.
use Rattle.std.specs.Prelude.{ℕ, List, [], ◌∷◌, Option, Some, None, slice_get, cond, nat_eq}
use Rattle.types.specs.declared.typed.Typed as typed
use Rattle.types.specs.declared.typed.NameMeaning.{NameMeaning}
use Rattle.types.specs.declared.typed.NameMeaning.TheVariants.{Nothing, Variable, Called}
use Rattle.types.specs.declared.typed.NameEntry.{NameEntry}
use Rattle.types.specs.declared.typed.Reference.{Reference}
use Rattle.types.specs.declared.typed.Binding.{Binding}
use Rattle.types.specs.declared.typed.Binding.TheVariants.{Local, Input, Output}
use Rattle.types.specs.declared.typed.Callee.{Callee}
use Rattle.types.specs.declared.typed.Callee.TheVariants.{Function, BuiltIn}
use Rattle.types.specs.declared.typed.Builtin.{Builtin}
use Rattle.types.specs.declared.typed.Builtin.TheVariants as Named
use Rattle.language.specs.declared.tree.Shape.{Shape}
use Rattle.language.specs.declared.tree.Shape.TheVariants.{Scalar}
use Rattle.language.specs.Core.{Name, local, input, output, here}
use Rattle.language.specs.Core as core
use Rattle.language.specs.Table.{Table, composite, built_in, strcat, fromint, toint, size, printf, assert}
use Rattle.language.specs.Table as table

-- bindings, references and callees of the program, as those of the language
abbrev pub owned_name : Binding → core.Owned
owned_name (Local node) = local node
owned_name (Input i) = input i
owned_name (Output i) = output i

abbrev pub reference_name : Reference → Name
reference_name r = record { up = r.up; what = owned_name r.what }

abbrev pub builtin_name : Builtin → table.Builtin
builtin_name Named.Strcat = strcat
builtin_name Named.FromInt = fromint
builtin_name Named.ToInt = toint
builtin_name Named.Size = size
builtin_name Named.Printf = printf
builtin_name Named.Assert = assert

abbrev pub callee_name : Callee → table.Callee
callee_name (Function place) = composite place
callee_name (BuiltIn b) = built_in (builtin_name b)

-- the name, the shape and the callee for the meaning at a number, with defaults where it has none
abbrev pub name_in : Option NameMeaning → Name
name_in None = here 0
name_in (Some Nothing) = here 0
name_in (Some (Called c)) = here 0
name_in (Some (Variable r s)) = reference_name r

abbrev pub shape_in : Option NameMeaning → Shape
shape_in None = Scalar
shape_in (Some Nothing) = Scalar
shape_in (Some (Called c)) = Scalar
shape_in (Some (Variable r s)) = s

abbrev pub callee_in : Option NameMeaning → table.Callee
callee_in None = composite 0
callee_in (Some Nothing) = composite 0
callee_in (Some (Called c)) = callee_name c
callee_in (Some (Variable r s)) = composite 0

-- the table by node number
abbrev pub table_of : typed.Typed → Table
table_of t = record {
  name_of = λ n. name_in (slice_get t.meanings.items n);
  shape_of = λ n. shape_in (slice_get t.meanings.items n);
  callee_of = λ n. callee_in (slice_get t.meanings.items n);
}

-- the meaning at a number, or `Nothing` if there is none
abbrev pub or_nothing : Option NameMeaning → NameMeaning
or_nothing None = Nothing
or_nothing (Some m) = m

abbrev pub meaning_at : typed.Typed → ℕ → NameMeaning
meaning_at t n = or_nothing (slice_get t.meanings.items n)

-- the last recorded meaning of a number, or the given one
abbrev pub settled_at : List NameEntry → ℕ → NameMeaning → NameMeaning
settled_at [] n m = m
settled_at (s ∷ ss) n m = settled_at ss n (cond (nat_eq s.number n) s.meaning m)
