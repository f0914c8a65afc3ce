-- Lists with some members taken out, and what they keep.
use Rattle.std.specs.Prelude.{◌≡◌, ℕ, ◌≤◌, ◌<◌, true, List, [], ◌∷◌, ◌++◌, map, Option, Some, None, option_map}
use Rattle.std.proofs.Common.{arith}
use Rattle.std.specs.List.{flat_map}
use Rattle.language.specs.Numbers.{option_numbers}
use Rattle.language.specs.Distinct.{distinct}
use Rattle.language.proofs.TreeNumbers.{times, few_distinct, distinct_few}
use Rattle.language_laws.specs.Offsets.{maybe_numbers}
use Rattle.language_accepted.specs.Placed.{Rise}

-- the members of one list, in their order, with some taken out
pub data Sub {X : Type 0} : List X → List X → Type 0 where
  nothing : Sub [] []
  kept : {x : X} {xs ys : List X} → Sub xs ys → Sub (x ∷ xs) (x ∷ ys)
  left_out : {y : X} {xs ys : List X} → Sub xs ys → Sub xs (y ∷ ys)

pub sub_all : {X : Type 0} (xs : List X) → Sub xs xs
sub_all [] = nothing
sub_all (x ∷ xs) = kept (sub_all xs)

pub sub_none : {X : Type 0} (ys : List X) → Sub [] ys
sub_none [] = nothing
sub_none (y ∷ ys) = left_out (sub_none ys)

pub sub_both : {X : Type 0} {xs ys us vs : List X} → Sub xs ys → Sub us vs → Sub (xs ++ us) (ys ++ vs)
sub_both nothing k = k
sub_both (kept h) k = kept (sub_both h k)
sub_both (left_out h) k = left_out (sub_both h k)

pub sub_each : {X Y : Type 0} (f : X → List Y) (g : X → X) → ((x : X) → Sub (f (g x)) (f x)) → (xs : List X) → Sub (flat_map f (map g xs)) (flat_map f xs)
sub_each f g h [] = nothing
sub_each f g h (x ∷ xs) = sub_both (h x) (sub_each f g h xs)

pub sub_option : {X : Type 0} (f : X → List ℕ) (g : X → X) → ((x : X) → Sub (f (g x)) (f x)) → (o : Option X) → Sub (option_numbers f (option_map g o)) (option_numbers f o)
sub_option f g h None = nothing
sub_option f g h (Some x) = h x

pub sub_maybe : {X : Type 0} (f : X → List ℕ) (g : X → X) → ((x : X) → Sub (f (g x)) (f x)) → (o : Option X) → Sub (maybe_numbers f (option_map g o)) (maybe_numbers f o)
sub_maybe f g h None = nothing
sub_maybe f g h (Some x) = h x

-- RISING

rise_from : (n m : ℕ) (xs : List ℕ) → n ≤ m → Rise m xs → Rise n xs
rise_from n m [] h r = tt
rise_from n m (x ∷ xs) h r = (let below : m < x = r.0 in omega arith, r.1)

pub sub_rises : {xs ys : List ℕ} → Sub xs ys → (n : ℕ) → Rise n ys → Rise n xs
sub_rises nothing n r = tt
sub_rises (kept {x} h) n r = (r.0, sub_rises h x r.1)
sub_rises (left_out {y} {xs} h) n r = rise_from n y xs (let below : n < y = r.0 in omega arith) (sub_rises h y r.1)

sub_times : {xs ys : List ℕ} → Sub xs ys → (n : ℕ) → times n xs ≤ times n ys
sub_times nothing n = omega arith
sub_times (kept h) n = let e = sub_times h n in omega arith
sub_times (left_out h) n = let e = sub_times h n in omega arith

pub sub_distinct : {xs ys : List ℕ} → Sub xs ys → distinct ys ≡ true → distinct xs ≡ true
sub_distinct {xs} {ys} h d = few_distinct xs (λ n. (let e = sub_times h n in let f = distinct_few ys d n in omega arith))
