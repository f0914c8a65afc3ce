-- Names, needs and expressions of a core in the form of code.
use Rattle.std.specs.Prelude.{ℕ, suc, ◌+◌, Bool, true, false, List, [], ◌∷◌, ◌++◌, map, if◌then◌else◌}
use Rattle.language.specs.Core.{Owned, local, input, output, Name, Expr, Exprs, literal, name, whole, operator, none, also, Awaited, scalar, array}
use Rattle.task_code.specs.Code as C
use Rattle.task_code.specs.Code.{Need, Stored, Closed, At, AtKey, Local, Parameter, Header, constant, need, operation, no_operand, operand}
use Rattle.task_code.specs.Shape.{is_same_plain}

-- the meaning of a name in its own block; of a function's parameters the k inputs come first
abbrev pub owned_as : ℕ → Bool → Owned → C.Owned
owned_as k b (local n) = Local (record { node = n; array = b })
owned_as k b (input i) = Parameter i b
owned_as k b (output j) = Parameter (k + j) b

-- a name of a scalar (false) or an array (true)
abbrev pub name_as : ℕ → Bool → Name → C.Name
name_as k b x = record { up = x.up; owned = owned_as k b x.what }

-- the needs of an expression, in reading order
abbrev mutual
  pub wanted : ℕ → Expr → List Need
  wanted k (literal v) = []
  wanted k (name x) = Stored (name_as k false x) ∷ []
  wanted k (whole a) = Closed (name_as k true a) ∷ []
  wanted k (operator o es) = wanted_all k es

  pub wanted_all : ℕ → Exprs → List Need
  wanted_all k none = []
  wanted_all k (also e es) = wanted k e ++ wanted_all k es

-- the needs other than this one
abbrev pub without : Need → List Need → List Need
without n [] = []
without n (m ∷ ms) = if is_same_plain n m then without n ms else m ∷ without n ms

-- each need once, at its first occurrence
abbrev pub each_once : List Need → List Need
each_once [] = []
each_once (n ∷ ns) = n ∷ without n (each_once ns)

-- the index of a need in a list
abbrev pub place_in : Need → List Need → ℕ
place_in n [] = 0
place_in n (m ∷ ms) = if is_same_plain n m then 0 else suc (place_in n ms)

-- an expression over these needs
abbrev mutual
  pub over : ℕ → List Need → Expr → C.Expr
  over k ns (literal v) = constant v
  over k ns (name x) = need (place_in (Stored (name_as k false x)) ns)
  over k ns (whole a) = need (place_in (Closed (name_as k true a)) ns)
  over k ns (operator o es) = operation o (all_over k ns es)

  pub all_over : ℕ → List Need → Exprs → C.Exprs
  all_over k ns none = no_operand
  all_over k ns (also e es) = operand (over k ns e) (all_over k ns es)

-- the need of a wait for one name
abbrev pub awaited_need : ℕ → Awaited → Need
awaited_need k (scalar x) = Stored (name_as k false x)
awaited_need k (array x) = Closed (name_as k true x)

abbrev pub header : ℕ → ℕ → List Awaited → Header
header k at ns = record { at = at; needs = map (awaited_need k) ns }
