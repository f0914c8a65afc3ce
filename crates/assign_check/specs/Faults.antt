-- The faults of an outline against single assignment. States docs/LANGUAGE.md: Single assignment.
use Rattle.std.specs.Prelude.{ℕ, ◌+◌, Bool, true, false, not, ◌&&◌, ◌||◌, cond, nat_eq, nat_lt, List, [], ◌∷◌, ◌++◌, map, Option, Some, None}
use Rattle.std.specs.List.{list_any, flat_map}
use Rattle.lexer.specs.declared.token.Span.{Span}
use Rattle.language.specs.declared.tree.Shape.{Shape}
use Rattle.language.specs.declared.tree.Shape.TheVariants.{Scalar, Array}
use Rattle.language.specs.Core.{Owned, local, input, output}
use Rattle.language.specs.Table.{Table}
use Rattle.language.specs.Tree.{Tree}
use Rattle.assign_check.specs.declared.fault.AssignFault.{AssignFault}
use Rattle.assign_check.specs.declared.fault.AssignFault.TheVariants.{AssignedTwice, PartlyAssigned, NeverAssigned, OuterInLoop, WholeAndElements, OutputUnassigned, Memory}
use Rattle.assign_check.specs.Outline.{Kind, named, written, read, Use, Role, own, result, given, Declared, Outline, nothing, followed, Step, declares, uses, splits, repeats, encloses, outlines}

-- VARIABLES

abbrev pub same : Owned → Owned → Bool
same (local m) (local n) = nat_eq m n
same (input i) (input j) = nat_eq i j
same (output i) (output j) = nat_eq i j
same _ _ = false

abbrev pub one_if : Bool → ℕ
one_if true = 1
one_if false = 0

-- the number of occurrences of a variable in a list
abbrev pub times : Owned → List Owned → ℕ
times x [] = 0
times x (y ∷ ys) = one_if (same y x) + times x ys

abbrev pub is_among : Owned → List Owned → Bool
is_among x ys = list_any (λ y. same y x) ys

-- a variable is declared before the statement with this number: numbers are in reading order, and inputs and outputs
-- precede all
abbrev pub is_before : ℕ → Owned → Bool
is_before n (local m) = nat_lt m n
is_before n (input i) = true
is_before n (output i) = true

-- in a loop, a variable that is declared outside it; the loop is given by its number
abbrev pub is_outer : Option ℕ → Owned → Bool
is_outer None x = false
is_outer (Some n) x = is_before n x

-- CONTROL PATHS

abbrev pub named_by : Option ℕ → Kind → Owned → List Owned
named_by l named x = cond (is_outer l x) [] (x ∷ [])
named_by l written x = []
named_by l read x = []

abbrev pub given_by : Role → Owned → List Owned
given_by given x = x ∷ []
given_by own x = []
given_by result x = []

-- the variables that some control path assigns by name, or that count as assigned at their declaration; assignments to
-- outer variables of the innermost loop do not count
abbrev mutual
  pub way : Option ℕ → Outline → List Owned
  way l nothing = []
  way l (followed s o) = step_way l s ++ way l o

  pub step_way : Option ℕ → Step → List Owned
  step_way l (declares d) = given_by d.role d.what
  step_way l (uses u) = named_by l u.kind u.of
  step_way l (splits n at o p) = way l o ++ way l p
  step_way l (repeats n o) = []
  step_way l (encloses o) = way l o

-- FAULTS OF TARGETS

-- the fault of a target, if these variables are assigned on some control path before it
abbrev pub target_faults : Option ℕ → List Owned → Kind → Owned → Span → List AssignFault
target_faults l before named x at = cond (is_outer l x) (OuterInLoop at ∷ []) (cond (is_among x before) (AssignedTwice at ∷ []) [])
target_faults l before written x at = []
target_faults l before read x at = []

-- the faults of targets in a block, in a loop or none, if these variables are assigned on some control path before it
abbrev mutual
  pub way_faults : Option ℕ → List Owned → Outline → List AssignFault
  way_faults l before nothing = []
  way_faults l before (followed s o) = step_faults l before s ++ way_faults l (before ++ step_way l s) o

  pub step_faults : Option ℕ → List Owned → Step → List AssignFault
  step_faults l before (declares d) = []
  step_faults l before (uses u) = target_faults l before u.kind u.of u.span
  step_faults l before (splits n at o p) = way_faults l before o ++ way_faults l before p
  step_faults l before (repeats n o) = way_faults (Some n) before o
  step_faults l before (encloses o) = way_faults l before o

-- NUMBERS OF ASSIGNMENTS

-- the sum of each number of one list and each of the other
abbrev pub sums : List ℕ → List ℕ → List ℕ
sums [] ns = []
sums (m ∷ ms) ns = map (λ n. m + n) ns ++ sums ms ns

-- the numbers of assignments by name to a variable, over all control paths; outer variables of the innermost loop have
-- none
abbrev mutual
  pub counts : Option ℕ → Owned → Outline → List ℕ
  counts l x nothing = 0 ∷ []
  counts l x (followed s o) = sums (step_counts l x s) (counts l x o)

  pub step_counts : Option ℕ → Owned → Step → List ℕ
  step_counts l x (declares d) = 0 ∷ []
  step_counts l x (uses u) = times x (named_by l u.kind u.of) ∷ []
  step_counts l x (splits n at o p) = counts l x o ++ counts l x p
  step_counts l x (repeats n o) = 0 ∷ []
  step_counts l x (encloses o) = counts l x o

abbrev pub is_in : ℕ → List ℕ → Bool
is_in n ns = list_any (nat_eq n) ns

-- some number of the one list is not in the other
abbrev pub has_more : List ℕ → List ℕ → Bool
has_more ms ns = list_any (λ m. not (is_in m ns)) ms

-- FAULTS OF BRANCHES

-- a variable from outside an `if` has other numbers of assignments in the one branch than in the other
abbrev pub is_uneven : Option ℕ → ℕ → Outline → Outline → Owned → Bool
is_uneven l n o p x = is_before n x && (has_more (counts l x o) (counts l x p) || has_more (counts l x p) (counts l x o))

abbrev pub branch_faults : Option ℕ → ℕ → Span → Outline → Outline → List AssignFault
branch_faults l n at o p = cond (list_any (is_uneven l n o p) (way l o ++ way l p)) (PartlyAssigned at ∷ []) []

-- the faults of the `if`s in a block, in a loop or none
abbrev mutual
  pub split_faults : Option ℕ → Outline → List AssignFault
  split_faults l nothing = []
  split_faults l (followed s o) = split_step l s ++ split_faults l o

  pub split_step : Option ℕ → Step → List AssignFault
  split_step l (declares d) = []
  split_step l (uses u) = []
  split_step l (splits n at o p) = split_faults l o ++ split_faults l p ++ branch_faults l n at o p
  split_step l (repeats n o) = split_faults (Some n) o
  split_step l (encloses o) = split_faults l o

-- FAULTS OF A VARIABLE

-- all uses in a block and its nested blocks, and all declarations
abbrev mutual
  pub uses_in : Outline → List Use
  uses_in nothing = []
  uses_in (followed s o) = uses_at s ++ uses_in o

  pub uses_at : Step → List Use
  uses_at (declares d) = []
  uses_at (uses u) = u ∷ []
  uses_at (splits n at o p) = uses_in o ++ uses_in p
  uses_at (repeats n o) = uses_in o
  uses_at (encloses o) = uses_in o

abbrev mutual
  pub declared_in : Outline → List Declared
  declared_in nothing = []
  declared_in (followed s o) = declared_at s ++ declared_in o

  pub declared_at : Step → List Declared
  declared_at (declares d) = d ∷ []
  declared_at (uses u) = []
  declared_at (splits n at o p) = declared_in o ++ declared_in p
  declared_at (repeats n o) = declared_in o
  declared_at (encloses o) = declared_in o

abbrev pub is_kind : Kind → Kind → Bool
is_kind named named = true
is_kind written written = true
is_kind read read = true
is_kind _ _ = false

-- a variable has a use of this kind
abbrev pub is_used : Kind → Owned → List Use → Bool
is_used k x us = list_any (λ u. is_kind u.kind k && same u.of x) us

-- the first target of the other form, if an earlier target or the declaration has the first form
abbrev pub other_form : Kind → Owned → List Use → List AssignFault
other_form k x [] = []
other_form k x (u ∷ us) = cond (same u.of x && not (is_kind u.kind read) && not (is_kind u.kind k)) (WholeAndElements u.span ∷ []) (other_form k x us)

abbrev pub form_faults : Owned → List Use → List AssignFault
form_faults x [] = []
form_faults x (u ∷ us) = cond (same u.of x && not (is_kind u.kind read)) (other_form u.kind x us) (form_faults x us)

-- a scalar that is read and not assigned
abbrev pub never_faults : Shape → Owned → Span → List Use → List AssignFault
never_faults (Array κ) x at us = []
never_faults Scalar x at us = cond (is_used read x us && not (is_used named x us)) (NeverAssigned at ∷ []) []

abbrev pub output_faults : Owned → Span → List Use → List AssignFault
output_faults x at us = cond (is_used named x us || is_used written x us) [] (OutputUnassigned at ∷ [])

abbrev pub role_faults : Role → Shape → Owned → Span → List Use → List AssignFault
role_faults own s x at us = never_faults s x at us ++ form_faults x us
role_faults result s x at us = never_faults s x at us ++ output_faults x at us ++ form_faults x us
role_faults given s x at us = other_form named x us

abbrev pub variable_faults : List Use → Declared → List AssignFault
variable_faults us d = role_faults d.role d.shape d.what d.span us

-- ALL FAULTS

-- the faults of an outline
abbrev pub faults_of : Outline → List AssignFault
faults_of o = way_faults None [] o ++ split_faults None o ++ flat_map (variable_faults (uses_in o)) (declared_in o)

-- the faults of a script
abbrev pub faults : Table → Tree → List AssignFault
faults t tree = flat_map faults_of (outlines t tree)

-- THE REPORTED FAULT

abbrev pub place : AssignFault → ℕ
place (AssignedTwice at) = at.from
place (PartlyAssigned at) = at.from
place (NeverAssigned at) = at.from
place (OuterInLoop at) = at.from
place (WholeAndElements at) = at.from
place (OutputUnassigned at) = at.from
place Memory = 0

-- the number of the rule
abbrev pub code : AssignFault → ℕ
code (AssignedTwice at) = 1
code (PartlyAssigned at) = 2
code (NeverAssigned at) = 3
code (OuterInLoop at) = 4
code (WholeAndElements at) = 5
code (OutputUnassigned at) = 6
code Memory = 0

-- one fault takes precedence over another: it begins first, or they begin together and its code is smaller
abbrev pub precedes : AssignFault → AssignFault → Bool
precedes f g = nat_lt (place f) (place g) || (nat_eq (place f) (place g) && nat_lt (code f) (code g))

abbrev pub earlier : Option AssignFault → AssignFault → Option AssignFault
earlier None g = Some g
earlier (Some f) g = cond (precedes g f) (Some g) (Some f)

-- the reported fault, which no other one precedes
abbrev pub first_among : Option AssignFault → List AssignFault → Option AssignFault
first_among best [] = best
first_among best (f ∷ fs) = first_among (earlier best f) fs

abbrev pub first_fault : List AssignFault → Option AssignFault
first_fault fs = first_among None fs
