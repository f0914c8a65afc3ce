-- Literals that a call hands over.
use Rattle.std.proofs.Common.{◌≡◌, ◌∙◌, refl, sym, ap, ℕ, zero, suc, ◌<◌, ◌≤◌, List, [], ◌∷◌, ◌++◌, length, map, Option, Some, None, arith}
use Rattle.std.specs.Prelude.{slice_index_or}
use Rattle.board_history.specs.Fields.{fixed_in, literal}
use Rattle.task_code.specs.Code.{arguments, blank_entry, Code, Entry, entry, Name, nth}
use Rattle.task_code.specs.Code as Pure
use Rattle.task_code.specs.View.{argument_view}
use Rattle.task_code.specs.declared.entry.Name.{Name as GivenName}
use Rattle.task_code.specs.declared.entry.Argument.{Argument}
use Rattle.task_code.specs.declared.entry.Argument.TheVariants.{Fixed, Named}
use Rattle.values.specs.declared.value.Scalar.{Scalar}

blank : (es : List Entry) (i : ℕ) → length es ≤ i → nth blank_entry es i ≡ blank_entry
blank [] i h = refl
blank (e ∷ es) zero h = absurd (omega (arith, h))
blank (e ∷ es) (suc i) h = blank es i (omega (arith, h))

-- an entry that is not there hands over nothing
pub none_past : (C : Code) (i k : ℕ) → length C.entries ≤ i → literal C i k ≡ None
none_past C i k h = ap (λ (e : Entry). fixed_in (arguments e.act) k) (blank C.entries i h)

module _ (os : List Name) where
  of_names : (k : ℕ) (rs : List Name) → fixed_in (map Pure.Named rs) k ≡ None
  of_names k [] = refl
  of_names zero (r ∷ rs) = refl
  of_names (suc k) (r ∷ rs) = of_names k rs

  abbrev by_argument : Argument → Option Scalar
  by_argument (Fixed v) = Some v
  by_argument (Named r) = None

  at_place : (xs : List Argument) (k : ℕ) (d : Argument) → k < length xs → fixed_in (map argument_view xs ++ map Pure.Named os) k ≡ by_argument (slice_index_or xs k d)
  at_place [] k d h = absurd (omega (arith, h))
  at_place (Fixed v ∷ xs) zero d h = refl
  at_place (Named r ∷ xs) zero d h = refl
  at_place (Fixed v ∷ xs) (suc k) d h = at_place xs k d (omega (arith, h))
  at_place (Named r ∷ xs) (suc k) d h = at_place xs k d (omega (arith, h))

-- the literal or name at a place, and none past the inputs
pub fixed_at : (os : List Name) (xs : List Argument) (k : ℕ) (x : Argument) (v : Scalar) → k < length xs → x ≡ slice_index_or xs k x → x ≡ Fixed v → fixed_in (map argument_view xs ++ map Pure.Named os) k ≡ Some v
fixed_at os xs k x v h i e = at_place os xs k x h ∙ ap (by_argument os) (sym i ∙ e)

pub named_at : (os : List Name) (xs : List Argument) (k : ℕ) (x : Argument) (r : GivenName) → k < length xs → x ≡ slice_index_or xs k x → x ≡ Named r → fixed_in (map argument_view xs ++ map Pure.Named os) k ≡ None
named_at os xs k x r h i e = at_place os xs k x h ∙ ap (by_argument os) (sym i ∙ e)

pub none_at : (os : List Name) (xs : List Argument) (k : ℕ) → length xs ≤ k → fixed_in (map argument_view xs ++ map Pure.Named os) k ≡ None
none_at os [] k h = of_names os k os
none_at os (x ∷ xs) zero h = absurd (omega (arith, h))
none_at os (Fixed v ∷ xs) (suc k) h = none_at os xs k (omega (arith, h))
none_at os (Named r ∷ xs) (suc k) h = none_at os xs k (omega (arith, h))
