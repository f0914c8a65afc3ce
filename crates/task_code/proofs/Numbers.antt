-- The entry or body of a number, among those that are shared.
use Rattle.std.proofs.Common.{◌≡◌, ℕ, zero, suc, ◌<◌, ◌≤◌, List, [], ◌∷◌, map, length, Some, arith, sym, ap, refl, ◌∙◌}
use Rattle.std.specs.Arc.{arc_value}
use Rattle.std.specs.List.{slice_get}
use Rattle.std.specs.Option.{option_map}
use Rattle.std.specs.declared.alloc.Global.{Global}
use Rattle.std.specs.declared.sync.Arc.{Arc}
use Rattle.std.proofs.lemmas.List.{length-map}
use Rattle.std.proofs.lemmas.Option.{slice_get_within, slice_get-map, none-some, same_Some}
use Rattle.task_code.specs.Code.{nth}

-- what is found at a number
pub nth_found : {X Y : Type 0} (f : X → Y) (d : Y) (xs : List X) (n : ℕ) (x : X) → slice_get xs n ≡ Some x → f x ≡ nth d (map f xs) n
nth_found f d [] n x is = absurd (none-some x is)
nth_found f d (y ∷ ys) zero x is = ap f (sym (same_Some y x is))
nth_found f d (y ∷ ys) (suc n) x is = nth_found f d ys n x is

-- there is nothing past the end
pub nth_past : {X : Type 0} (d : X) (xs : List X) (n : ℕ) → length xs ≤ n → nth d xs n ≡ d
nth_past d [] n past = refl
nth_past d (x ∷ xs) zero past = absurd (omega (arith, past))
nth_past d (x ∷ xs) (suc n) past = nth_past d xs n (omega (arith, past))

-- what is found among shared values, which are viewed one by one
pub shared_found : {X Y : Type 0} (f : X → Y) (d : Y) (xs : List (Arc X Global)) (n : ℕ) (x : Arc X Global) → slice_get xs n ≡ Some x
    → (n < length (map f (map arc_value xs))) × (f (arc_value x) ≡ nth d (map f (map arc_value xs)) n)
shared_found f d xs n x is =
    let inside : n < length xs = slice_get_within xs n x is in
    let at : slice_get (map arc_value xs) n ≡ Some (arc_value x) = slice_get-map arc_value xs n ∙ ap (option_map arc_value) is in
    (rw (length-map, length-map) inside, nth_found f d (map arc_value xs) n (arc_value x) at)
