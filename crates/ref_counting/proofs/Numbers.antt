-- What is found at a number, among entries or bodies that are viewed one by one.
use Rattle.std.proofs.Common.{◌≡◌, ℕ, zero, suc, ◌<◌, List, [], ◌∷◌, map, length, Some, arith, ap, sym}
use Rattle.std.specs.List.{slice_get}
use Rattle.std.proofs.lemmas.Option.{none-some, same_Some}
use Rattle.task_code.specs.Code.{nth}

pub found_at : {X Y : Type 0} (f : X → Y) (d : Y) (xs : List X) (n : ℕ) (x : X) → slice_get xs n ≡ Some x → (n < length (map f xs)) × (f x ≡ nth d (map f xs) n)
found_at f d [] n x is = absurd (none-some x is)
found_at f d (y ∷ ys) zero x is = (omega arith, ap f (sym (same_Some y x is)))
found_at f d (y ∷ ys) (suc n) x is =
    let later : (n < length (map f ys)) × (f x ≡ nth d (map f ys) n) = found_at f d ys n x is in
    let within : n < length (map f ys) = later.0 in
    (omega arith, later.1)
