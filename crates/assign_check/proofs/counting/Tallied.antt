-- What the tally of a variable says of its faults.
use Rattle.std.proofs.Common.{◌≡◌, List, [], ◌∷◌, ◌++◌, Bool, true, false, cond, refl, ap, ap₂, sym, ◌∙◌}
use Rattle.std.specs.Prelude.{Option, Some, None, not, ◌&&◌, ◌||◌}
use Rattle.std.specs.List.{flat_map, list_any}
use Rattle.std.specs.Option.{is_none}
use Rattle.lexer.specs.declared.token.Span.{Span}
use Rattle.language.specs.declared.tree.Shape.{Shape}
use Rattle.language.specs.declared.tree.Shape.TheVariants.{Scalar, Array}
use Rattle.language.specs.Core.{Owned}
use Rattle.assign_check.specs.declared.fault.AssignFault.{AssignFault}
use Rattle.assign_check.specs.declared.fault.AssignFault.TheVariants.{NeverAssigned, WholeAndElements, OutputUnassigned}
use Rattle.assign_check.specs.declared.summaries.use_summary.UseSummary.{UseSummary}
use Rattle.assign_check.specs.Outline.{Kind, named, written, read, Use, Role, own, result, given, Declared}
use Rattle.assign_check.specs.Faults as faults
use Rattle.assign_check.specs.Faults.{same, is_kind, is_used, form_faults, role_faults, variable_faults}
use Rattle.assign_check.specs.Tallies.{unused, first_of, more, more_if, tally_from, cleared, place_faults, other_form, never_faults, output_faults, tally_faults}

-- FLAGS

or_twice : (a b c : Bool) → ((a || b) || c) ≡ (a || (b || c))
or_twice true b c = refl
or_twice false b c = refl

flagged : (f : UseSummary → Bool) (k : Kind) → ((b : Bool) (t : UseSummary) (j : Kind) (at : Span) → f (more_if b t j at) ≡ (f t || (is_kind j k && b)))
    → (t : UseSummary) (x : Owned) (us : List Use) → f (tally_from t x us) ≡ (f t || is_used k x us)
flagged f k step t x [] = or_none (f t)
  where
    or_none : (b : Bool) → b ≡ (b || false)
    or_none true = refl
    or_none false = refl
flagged f k step t x (u ∷ us) =
    flagged f k step (more_if (same u.of x) t u.kind u.span) x us
    ∙ ap (λ (b : Bool). b || is_used k x us) (step (same u.of x) t u.kind u.span)
    ∙ or_twice (f t) (is_kind u.kind k && same u.of x) (is_used k x us)

or_true : (b : Bool) → true ≡ (b || true)
or_true true = refl
or_true false = refl

or_false : (b : Bool) → b ≡ (b || false)
or_false true = refl
or_false false = refl

reads : (b : Bool) (t : UseSummary) (j : Kind) (at : Span) → (more_if b t j at).read ≡ (t.read || (is_kind j read && b))
reads true t read at = or_true t.read
reads true t named at = or_false t.read
reads true t written at = or_false t.read
reads false t read at = or_false t.read
reads false t named at = or_false t.read
reads false t written at = or_false t.read

there_now : (o : Option Span) (at : Span) → not (is_none (first_of o at)) ≡ (not (is_none o) || true)
there_now None at = refl
there_now (Some s) at = refl

names : (b : Bool) (t : UseSummary) (j : Kind) (at : Span) → not (is_none (more_if b t j at).named) ≡ (not (is_none t.named) || (is_kind j named && b))
names true t read at = or_false (not (is_none t.named))
names true t named at = there_now t.named at
names true t written at = or_false (not (is_none t.named))
names false t read at = or_false (not (is_none t.named))
names false t named at = or_false (not (is_none t.named))
names false t written at = or_false (not (is_none t.named))

writes : (b : Bool) (t : UseSummary) (j : Kind) (at : Span) → not (is_none (more_if b t j at).written) ≡ (not (is_none t.written) || (is_kind j written && b))
writes true t read at = or_false (not (is_none t.written))
writes true t named at = or_false (not (is_none t.written))
writes true t written at = there_now t.written at
writes false t read at = or_false (not (is_none t.written))
writes false t named at = or_false (not (is_none t.written))
writes false t written at = or_false (not (is_none t.written))

twice_not : (b : Bool) → not (not b) ≡ b
twice_not true = refl
twice_not false = refl

is_read : (x : Owned) (us : List Use) → (tally_from unused x us).read ≡ is_used read x us
is_read x us = flagged (λ t. t.read) read reads unused x us

is_named : (x : Owned) (us : List Use) → is_none (tally_from unused x us).named ≡ not (is_used named x us)
is_named x us = sym (twice_not (is_none (tally_from unused x us).named)) ∙ ap not (flagged (λ t. not (is_none t.named)) named names unused x us)

is_written : (x : Owned) (us : List Use) → is_none (tally_from unused x us).written ≡ not (is_used written x us)
is_written x us = sym (twice_not (is_none (tally_from unused x us).written)) ∙ ap not (flagged (λ t. not (is_none t.written)) written writes unused x us)

-- FORMS

-- a tally where both forms are there, one of them, or none
abbrev whole_then : Bool → Span → Span → UseSummary
whole_then r a s = record { read = r; named = Some a; written = Some s; named_first = true }

abbrev elements_then : Bool → Span → Span → UseSummary
elements_then r a s = record { read = r; named = Some a; written = Some s; named_first = false }

abbrev whole_only : Bool → Span → UseSummary
whole_only r a = record { read = r; named = Some a; written = None; named_first = true }

abbrev elements_only : Bool → Span → UseSummary
elements_only r s = record { read = r; named = None; written = Some s; named_first = false }

abbrev no_target : Bool → UseSummary
no_target r = record { read = r; named = None; written = None; named_first = false }

after_whole : (r : Bool) (a s : Span) (x : Owned) (us : List Use) → other_form (tally_from (whole_then r a s) x us) ≡ Some s
after_whole r a s x [] = refl
after_whole r a s x (u ∷ us) = step (same u.of x) u.kind u.span (λ q. after_whole q a s x us)
  where
    step : (b : Bool) (k : Kind) (at : Span) → ((q : Bool) → other_form (tally_from (whole_then q a s) x us) ≡ Some s) → other_form (tally_from (more_if b (whole_then r a s) k at) x us) ≡ Some s
    step false k at ih = ih r
    step true read at ih = ih true
    step true named at ih = ih r
    step true written at ih = ih r

after_elements : (r : Bool) (a s : Span) (x : Owned) (us : List Use) → other_form (tally_from (elements_then r a s) x us) ≡ Some a
after_elements r a s x [] = refl
after_elements r a s x (u ∷ us) = step (same u.of x) u.kind u.span (λ q. after_elements q a s x us)
  where
    step : (b : Bool) (k : Kind) (at : Span) → ((q : Bool) → other_form (tally_from (elements_then q a s) x us) ≡ Some a) → other_form (tally_from (more_if b (elements_then r a s) k at) x us) ≡ Some a
    step false k at ih = ih r
    step true read at ih = ih true
    step true named at ih = ih r
    step true written at ih = ih r

one_whole : (r : Bool) (a : Span) (x : Owned) (us : List Use) → place_faults (other_form (tally_from (whole_only r a) x us)) ≡ faults.other_form named x us
one_whole r a x [] = refl
one_whole r a x (u ∷ us) = step (same u.of x) u.kind u.span (λ q. one_whole q a x us)
  where
    step : (b : Bool) (k : Kind) (at : Span) → ((q : Bool) → place_faults (other_form (tally_from (whole_only q a) x us)) ≡ faults.other_form named x us)
        → place_faults (other_form (tally_from (more_if b (whole_only r a) k at) x us)) ≡ cond (b && not (is_kind k read) && not (is_kind k named)) (WholeAndElements at ∷ []) (faults.other_form named x us)
    step false k at ih = ih r
    step true read at ih = ih true
    step true named at ih = ih r
    step true written at ih = ap place_faults (after_whole r a at x us)

one_by_elements : (r : Bool) (s : Span) (x : Owned) (us : List Use) → place_faults (other_form (tally_from (elements_only r s) x us)) ≡ faults.other_form written x us
one_by_elements r s x [] = refl
one_by_elements r s x (u ∷ us) = step (same u.of x) u.kind u.span (λ q. one_by_elements q s x us)
  where
    step : (b : Bool) (k : Kind) (at : Span) → ((q : Bool) → place_faults (other_form (tally_from (elements_only q s) x us)) ≡ faults.other_form written x us)
        → place_faults (other_form (tally_from (more_if b (elements_only r s) k at) x us)) ≡ cond (b && not (is_kind k read) && not (is_kind k written)) (WholeAndElements at ∷ []) (faults.other_form written x us)
    step false k at ih = ih r
    step true read at ih = ih true
    step true named at ih = ap place_faults (after_elements r at s x us)
    step true written at ih = ih r

both_forms : (r : Bool) (x : Owned) (us : List Use) → place_faults (other_form (tally_from (no_target r) x us)) ≡ form_faults x us
both_forms r x [] = refl
both_forms r x (u ∷ us) = step (same u.of x) u.kind u.span (λ q. both_forms q x us)
  where
    step : (b : Bool) (k : Kind) (at : Span) → ((q : Bool) → place_faults (other_form (tally_from (no_target q) x us)) ≡ form_faults x us)
        → place_faults (other_form (tally_from (more_if b (no_target r) k at) x us)) ≡ cond (b && not (is_kind k read)) (faults.other_form k x us) (form_faults x us)
    step false k at ih = ih r
    step true read at ih = ih true
    step true named at ih = one_whole r at x us
    step true written at ih = one_by_elements r at x us

-- a variable that counts as assigned whole
still_written : (t : UseSummary) (s : Span) (x : Owned) (us : List Use) → t.written ≡ Some s → (tally_from t x us).written ≡ Some s
still_written t s x [] is = is
still_written t s x (u ∷ us) is = still_written (more_if (same u.of x) t u.kind u.span) s x us (step (same u.of x) t u.kind u.span is)
  where
    step : (b : Bool) (t : UseSummary) (k : Kind) (at : Span) → t.written ≡ Some s → (more_if b t k at).written ≡ Some s
    step false t k at is = is
    step true t read at is = is
    step true t named at is = is
    step true t written at is = ap (λ o. first_of o at) is

given_form : (t : UseSummary) (x : Owned) (us : List Use) → t.written ≡ None → place_faults (tally_from t x us).written ≡ faults.other_form named x us
given_form t x [] is = ap place_faults is
given_form t x (u ∷ us) is = step (same u.of x) u.kind u.span (λ t' is'. given_form t' x us is')
  where
    step : (b : Bool) (k : Kind) (at : Span) → ((t' : UseSummary) → t'.written ≡ None → place_faults (tally_from t' x us).written ≡ faults.other_form named x us)
        → place_faults (tally_from (more_if b t k at) x us).written ≡ cond (b && not (is_kind k read) && not (is_kind k named)) (WholeAndElements at ∷ []) (faults.other_form named x us)
    step false k at ih = ih t is
    step true read at ih = ih (more t read at) is
    step true named at ih = ih (more t named at) is
    step true written at ih = ap place_faults (still_written (more t written at) at x us (ap (λ o. first_of o at) is))

-- ALL

never : (s : Shape) (at : Span) (x : Owned) (us : List Use) → never_faults s at (tally_from unused x us) ≡ faults.never_faults s x at us
never (Array κ) at x us = refl
never Scalar at x us = ap₂ (λ (a b : Bool). cond (a && b) (NeverAssigned at ∷ []) []) (is_read x us) (is_named x us)

unassigned : (a b : Bool) (at : Span) → cond (not a && not b) (OutputUnassigned at ∷ []) [] ≡ cond (a || b) [] (OutputUnassigned at ∷ [])
unassigned true b at = refl
unassigned false true at = refl
unassigned false false at = refl

outputs : (at : Span) (x : Owned) (us : List Use) → output_faults at (tally_from unused x us) ≡ faults.output_faults x at us
outputs at x us = ap₂ (λ (a b : Bool). cond (a && b) (OutputUnassigned at ∷ []) []) (is_named x us) (is_written x us) ∙ unassigned (is_used named x us) (is_used written x us) at

pub tallied : (r : Role) (s : Shape) (x : Owned) (at : Span) (us : List Use) → tally_faults r s at (tally_from unused x us) ≡ role_faults r s x at us
tallied own s x at us = ap₂ (λ (a b : List AssignFault). a ++ b) (never s at x us) (both_forms false x us)
tallied result s x at us =
    ap₂ (λ (a b : List AssignFault). a ++ b) (ap₂ (λ (a b : List AssignFault). a ++ b) (never s at x us) (outputs at x us)) (both_forms false x us)
tallied given s x at us = given_form unused x us refl

-- of all that are declared
pub all_tallied : (f : Owned → UseSummary) (us : List Use) → ((x : Owned) → f x ≡ tally_from unused x us) → (ds : List Declared)
    → flat_map (λ d. tally_faults d.role d.shape d.span (f d.what)) ds ≡ flat_map (variable_faults us) ds
all_tallied f us is [] = refl
all_tallied f us is (d ∷ ds) =
    ap₂ (λ (a b : List AssignFault). a ++ b) (ap (tally_faults d.role d.shape d.span) (is d.what) ∙ tallied d.role d.shape d.what d.span us) (all_tallied f us is ds)

-- UNUSED AGAIN

abbrev among : Owned → List Use → Bool
among x us = list_any (λ u. same u.of x) us

still_unused : (x : Owned) (us : List Use) → cleared unused x us ≡ unused
still_unused x [] = refl
still_unused x (u ∷ us) = ap (λ (t : UseSummary). cleared t x us) (either (same u.of x)) ∙ still_unused x us
  where
    either : (b : Bool) → cond b unused unused ≡ unused
    either true = refl
    either false = refl

-- a variable that was tallied by these uses
pub all_cleared : (t : UseSummary) (x : Owned) (us : List Use) → t ≡ tally_from unused x us → cleared t x us ≡ unused
all_cleared t x us is = ap (λ (z : UseSummary). cleared z x us) is ∙ gone x us unused refl
  where
    gone : (x : Owned) (us : List Use) (t : UseSummary) → t ≡ unused → cleared (tally_from t x us) x us ≡ unused
    gone x [] t none = none
    gone x (u ∷ us) t none = step (same u.of x) u.kind u.span (λ (e : unused ≡ unused). gone x us unused e)
      where
        step : (b : Bool) (k : Kind) (at : Span) → (unused ≡ unused → cleared (tally_from unused x us) x us ≡ unused) → cleared (cond b unused (tally_from (more_if b t k at) x us)) x us ≡ unused
        step true k at ih = still_unused x us
        step false k at ih = ap (λ (z : UseSummary). cleared (tally_from z x us) x us) none ∙ ih refl
