-- What a change of one datum leaves under each number, for callers.
use Rattle.std.proofs.Common.{◌≡◌, ap, sym, subst, ℕ, zero, suc, List, [], ◌∷◌, refl}
use Rattle.std.specs.Prelude.{Option, Some, None, option_map, slice_set, slice_index_or, IsSomeAnd}
use Rattle.data_store.specs.Arrays.{Array}
use Rattle.data_store.specs.declared.datum.Datum.{Datum}
use Rattle.data_store.specs.Data.{IsArray, with_array}
use Rattle.data_store.specs.Stores.{Store, at, changed, given_up, kept_after, IsArrayAt}

set_here : (f : Option Datum → Option Datum) (xs : List (Option Datum)) (d : ℕ) → f None ≡ None → slice_index_or (slice_set xs d (f (slice_index_or xs d None))) d None ≡ f (slice_index_or xs d None)
set_here f [] d e = sym e
set_here f (x ∷ xs) zero e = refl
set_here f (x ∷ xs) (suc d) e = set_here f xs d e

set_there : (x : Option Datum) (xs : List (Option Datum)) (d e : ℕ) → (e ≡ d → ⊥) → slice_index_or (slice_set xs d x) e None ≡ slice_index_or xs e None
set_there x [] d e h = refl
set_there x (y ∷ ys) zero zero h = absurd (h refl)
set_there x (y ∷ ys) zero (suc e) h = refl
set_there x (y ∷ ys) (suc d) zero h = refl
set_there x (y ∷ ys) (suc d) (suc e) h = set_there x ys d e (λ q. h (ap suc q))

-- the datum itself
pub at_changed : (d : ℕ) (f : Datum → Datum) (s : Store) → at (changed d f s) d ≡ option_map f (at s d)
at_changed d f s = set_here (option_map f) s.cells d refl

pub at_given_up : (d : ℕ) (f : Datum → Datum) (s : Store) → at (given_up d f s) d ≡ kept_after f (at s d)
at_given_up d f s = set_here (kept_after f) s.cells d refl

-- each other datum
pub at_changed_other : (d e : ℕ) (f : Datum → Datum) (s : Store) → (e ≡ d → ⊥) → at (changed d f s) e ≡ at s e
at_changed_other d e f s h = set_there (option_map f (at s d)) s.cells d e h

pub at_given_up_other : (d e : ℕ) (f : Datum → Datum) (s : Store) → (e ≡ d → ⊥) → at (given_up d f s) e ≡ at s e
at_given_up_other d e f s h = set_there (kept_after f (at s d)) s.cells d e h

stays_array : (f : Array → Array) (o : Option Datum) → IsSomeAnd o (λ x. IsArray x.content) → IsSomeAnd (option_map (with_array f) o) (λ x. IsArray x.content)
stays_array f None h = h
stays_array f (Some x) h = tt

-- an array stays one
pub array_stays : (f : Array → Array) (d : ℕ) (s : Store) → IsArrayAt s d → IsArrayAt (changed d (with_array f) s) d
array_stays f d s h = subst (λ o. IsSomeAnd o (λ x. IsArray x.content)) (sym (at_changed d (with_array f) s)) (stays_array f (at s d) h)
