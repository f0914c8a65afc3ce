-- Summaries of the uses of a variable, in one pass over all uses, and the faults that follow from them.
use Rattle.std.specs.Prelude.{Bool, true, false, ◌&&◌, ◌||◌, cond, List, [], ◌∷◌, ◌++◌, Option, Some, None}
use Rattle.std.specs.Option.{is_none}
use Rattle.lexer.specs.declared.token.Span.{Span}
use Rattle.language.specs.declared.tree.Shape.{Shape}
use Rattle.language.specs.declared.tree.Shape.TheVariants.{Scalar, Array}
use Rattle.language.specs.Core.{Owned}
use Rattle.assign_check.specs.declared.fault.AssignFault.{AssignFault}
use Rattle.assign_check.specs.declared.fault.AssignFault.TheVariants.{NeverAssigned, WholeAndElements, OutputUnassigned}
use Rattle.assign_check.specs.declared.summaries.use_summary.UseSummary.{UseSummary}
use Rattle.assign_check.specs.Outline.{Kind, named, written, read, Use, Role, own, result, given}
use Rattle.assign_check.specs.Faults.{same}

abbrev pub unused : UseSummary
unused = record { read = false; named = None; written = None; named_first = false }

abbrev pub first_of : Option Span → Span → Option Span
first_of None at = Some at
first_of (Some there) at = Some there

-- a summary with one more use
abbrev pub more : UseSummary → Kind → Span → UseSummary
more t read at = record { read = true; named = t.named; written = t.written; named_first = t.named_first }
more t named at = record { read = t.read; named = first_of t.named at; written = t.written; named_first = t.named_first || is_none t.written }
more t written at = record { read = t.read; named = t.named; written = first_of t.written at; named_first = t.named_first }

abbrev pub more_if : Bool → UseSummary → Kind → Span → UseSummary
more_if true t k at = more t k at
more_if false t k at = t

-- a summary with those uses in a list that are of the variable
abbrev pub tally_from : UseSummary → Owned → List Use → UseSummary
tally_from t x [] = t
tally_from t x (u ∷ us) = tally_from (more_if (same u.of x) t u.kind u.span) x us

-- the summary reset if the variable is among the used ones
abbrev pub cleared : UseSummary → Owned → List Use → UseSummary
cleared t x [] = t
cleared t x (u ∷ us) = cleared (cond (same u.of x) unused t) x us

abbrev pub place_faults : Option Span → List AssignFault
place_faults None = []
place_faults (Some at) = WholeAndElements at ∷ []

-- the first target whose form differs from the very first target
abbrev pub other_form : UseSummary → Option Span
other_form t = cond t.named_first t.written t.named

abbrev pub never_faults : Shape → Span → UseSummary → List AssignFault
never_faults (Array κ) at t = []
never_faults Scalar at t = cond (t.read && is_none t.named) (NeverAssigned at ∷ []) []

abbrev pub output_faults : Span → UseSummary → List AssignFault
output_faults at t = cond (is_none t.named && is_none t.written) (OutputUnassigned at ∷ []) []

abbrev pub tally_faults : Role → Shape → Span → UseSummary → List AssignFault
tally_faults own s at t = never_faults s at t ++ place_faults (other_form t)
tally_faults result s at t = never_faults s at t ++ output_faults at t ++ place_faults (other_form t)
tally_faults given s at t = place_faults t.written
