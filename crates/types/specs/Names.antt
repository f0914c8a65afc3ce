-- Resolution of names to variables, functions and built-in functions.
use Rattle.std.specs.Prelude.{ℕ, List, [], ◌∷◌, ◌++◌, ◌-◌, ◌+◌, length, Option, Some, None, codes, cond, nat_eq}
use Rattle.std.specs.Str.{bytes_eq}
use Rattle.types.specs.declared.fault.TypeFault.TheVariants.{Unknown, Declared, WrongCount, NotAFunction}
use Rattle.types.specs.declared.typed.Binding.{Binding}
use Rattle.types.specs.declared.typed.NameMeaning.{NameMeaning}
use Rattle.types.specs.declared.typed.NameMeaning.TheVariants.{Variable, Called}
use Rattle.types.specs.declared.typed.NameEntry.{NameEntry}
use Rattle.types.specs.declared.typed.Callee.{Callee}
use Rattle.types.specs.declared.typed.Callee.TheVariants.{Function}
use Rattle.types.specs.declared.typed.Builtin.{Builtin}
use Rattle.types.specs.declared.typed.Builtin.TheVariants as Named
use Rattle.language.specs.Tree.{Word}
use Rattle.language.specs.Scopes.{Typ, Signature}
use Rattle.types.specs.Known.{Seen, Around}
use Rattle.types.specs.Outcomes.{refused, got, Check}

-- the recorded names, with the meaning of one more
abbrev pub settles : Word → NameMeaning → List NameEntry → List NameEntry
settles w m settled = settled ++ record { number = w.number; meaning = m } ∷ []

-- VARIABLES

-- the first variable with this name
abbrev pub seen : List Seen → List ℕ → Option Seen
seen [] text = None
seen (k ∷ ks) text = cond (bytes_eq k.text text) (Some k) (seen ks text)

abbrev pub referred : Around → Word → Option Seen → Check Typ
referred g w None settled = refused (Unknown w.span)
referred g w (Some k) settled = got k.of (settles w (Variable (record { up = g.depth - k.depth; what = k.what }) k.of.shape) settled)

-- the type of the variable that a name refers to, which is recorded
abbrev pub refer : Around → Word → Check Typ
refer g w = referred g w (seen g.names w.text)

abbrev pub free : Word → Option Seen → Check (Unit {0})
free w None settled = got tt settled
free w (Some k) settled = refused (Declared w.span)

-- a check that a name is not visible
abbrev pub fresh : Around → Word → Check (Unit {0})
fresh g w = free w (seen g.names w.text)

-- the scope with one more variable
abbrev pub added : Around → Word → Binding → Typ → Around
added g w what of = record { depth = g.depth; names = g.names ++ record { text = w.text; depth = g.depth; what = what; of = of } ∷ [] }

-- FUNCTIONS

abbrev pub builtin_of : List ℕ → Option Builtin
builtin_of text =
    cond (bytes_eq text (codes "strcat")) (Some Named.Strcat)
    (cond (bytes_eq text (codes "fromint")) (Some Named.FromInt)
    (cond (bytes_eq text (codes "toint")) (Some Named.ToInt)
    (cond (bytes_eq text (codes "size")) (Some Named.Size)
    (cond (bytes_eq text (codes "printf")) (Some Named.Printf)
    (cond (bytes_eq text (codes "assert")) (Some Named.Assert) None)))))

-- a function with its position among those of the script
pub data Found : Type 0 where
  missing : Found
  found : (place : ℕ) → Signature → Found

-- the first function with this name, counted from position n
abbrev pub find_from : ℕ → List Signature → List ℕ → Found
find_from n [] text = missing
find_from n (f ∷ fs) text = cond (bytes_eq f.text text) (found n f) (find_from (n + 1) fs text)

abbrev pub find : List Signature → List ℕ → Found
find = find_from 0

abbrev pub place_of : Found → Option ℕ
place_of missing = None
place_of (found n f) = Some n

-- a function with these numbers of inputs and outputs, which is recorded
abbrev pub counted : Word → ℕ → ℕ → Found → Check Signature
counted w inputs outputs missing settled = refused (NotAFunction w.span)
counted w inputs outputs (found n f) settled =
    cond (nat_eq (length f.inputs) inputs)
    (cond (nat_eq (length f.outputs) outputs) (got f (settles w (Called (Function n)) settled)) (refused (WrongCount w.span)))
    (refused (WrongCount w.span))

abbrev pub function_called : List Signature → Word → ℕ → ℕ → Check Signature
function_called fs w inputs outputs = counted w inputs outputs (find fs w.text)

-- a called name is recorded
abbrev pub called : Word → Callee → Check (Unit {0})
called w c settled = got tt (settles w (Called c) settled)
