-- Whether the control paths through a block assign a variable, by its name. A loop is on every control path and
-- counts as assigning nothing.
use Rattle.std.specs.Prelude.{ℕ, Bool, true, false, List, [], ◌∷◌, Option, Some, None, if◌then◌else◌, ◌&&◌, ◌||◌}
use Rattle.std.specs.Str.{bytes_eq}
use Rattle.language.specs.Tree.{Word, Declaration, RightSide, Statement, statement, Command, declare, assign, write, assign_all, calls, choice, choice_else, loop, waits, Body, body, Statements, no_statements, and_statement}

-- the variable is among the targets
abbrev pub is_among : List ℕ → List Word → Bool
is_among name [] = false
is_among name (w ∷ ws) = if bytes_eq w.text name then true else is_among name ws

abbrev pub declaration_assigns : List ℕ → Declaration → Option RightSide → Bool
declaration_assigns name d None = false
declaration_assigns name d (Some r) = bytes_eq d.name.text name

-- both branches for every control path, otherwise at least one
abbrev pub both_or_one : Bool → Bool → Bool → Bool
both_or_one true one other = one && other
both_or_one false one other = one || other

-- every control path assigns the name, or some control path does
abbrev mutual
  pub assigns_in : Bool → List ℕ → Statement → Bool
  assigns_in each name (statement nd c) = command_assigns each name c

  pub command_assigns : Bool → List ℕ → Command → Bool
  command_assigns each name (declare d r) = declaration_assigns name d r
  command_assigns each name (assign w r) = bytes_eq w.text name
  command_assigns each name (write w i e) = false
  command_assigns each name (assign_all ws c) = is_among name ws
  command_assigns each name (calls p c) = false
  command_assigns each name (choice e b) = both_or_one each (body_assigns each name b) false
  command_assigns each name (choice_else e b d) = both_or_one each (body_assigns each name b) (body_assigns each name d)
  command_assigns each name (loop v k o b) = false
  command_assigns each name (waits ws b) = body_assigns each name b

  pub body_assigns : Bool → List ℕ → Body → Bool
  body_assigns each name (body from ss) = any_assigns each name ss

  pub any_assigns : Bool → List ℕ → Statements → Bool
  any_assigns each name no_statements = false
  any_assigns each name (and_statement s ss) = if assigns_in each name s then true else any_assigns each name ss

-- a branch that may be missing, and then assigns nothing
abbrev pub branch_assigns : Bool → List ℕ → Option Body → Bool
branch_assigns each name None = false
branch_assigns each name (Some b) = body_assigns each name b
