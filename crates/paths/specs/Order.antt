-- The order of statements and faults in listings: by path, step by step from the outermost one, then by offset, then by
-- fault number.
use Rattle.std.specs.Prelude.{ℕ, Bool, true, false, ◌&&◌, ◌||◌, nat_eq, nat_lt, List, [], ◌∷◌}
use Rattle.values.specs.Keys.{key_below, same_key}
use Rattle.paths.specs.declared.faults.FaultKind.{FaultKind}
use Rattle.paths.specs.declared.faults.FaultKind.TheVariants as Kind
use Rattle.paths.specs.declared.steps.Step.{Step}
use Rattle.paths.specs.declared.faults.Fault.{Fault}
use Rattle.paths.specs.declared.statements.StatementInstance.{StatementInstance}

-- by offset, then by key
abbrev pub step_below : Step → Step → Bool
step_below s t = nat_lt s.offset t.offset || (nat_eq s.offset t.offset && key_below s.key t.key)

abbrev pub same_step : Step → Step → Bool
same_step s t = nat_eq s.offset t.offset && same_key s.key t.key

-- lexicographic: step by step, where a proper prefix comes first
abbrev pub path_below : List Step → List Step → Bool
path_below [] [] = false
path_below [] (t ∷ q) = true
path_below (s ∷ p) [] = false
path_below (s ∷ p) (t ∷ q) = step_below s t || (same_step s t && path_below p q)

abbrev pub same_path : List Step → List Step → Bool
same_path [] [] = true
same_path [] (t ∷ q) = false
same_path (s ∷ p) [] = false
same_path (s ∷ p) (t ∷ q) = same_step s t && same_path p q

-- by path, then by offset
abbrev pub statement_below : StatementInstance → StatementInstance → Bool
statement_below s t = path_below s.path.items t.path.items || (same_path s.path.items t.path.items && nat_lt s.at t.at)

abbrev pub same_statement : StatementInstance → StatementInstance → Bool
same_statement s t = same_path s.path.items t.path.items && nat_eq s.at t.at

-- the number of a kind of fault
abbrev pub fault_number : FaultKind → ℕ
fault_number Kind.Overflow = 1
fault_number Kind.DivideByZero = 2
fault_number Kind.NoElement = 3
fault_number Kind.ElementTwice = 4
fault_number Kind.BadStep = 5
fault_number Kind.TooDeep = 6
fault_number Kind.NotANumber = 7
fault_number Kind.AssertFailed = 8

-- by statement, then by fault number
abbrev pub fault_below : Fault → Fault → Bool
fault_below f g = statement_below f.statement g.statement || (same_statement f.statement g.statement && nat_lt (fault_number f.kind) (fault_number g.kind))

abbrev pub same_fault : Fault → Fault → Bool
same_fault f g = same_statement f.statement g.statement && nat_eq (fault_number f.kind) (fault_number g.kind)
