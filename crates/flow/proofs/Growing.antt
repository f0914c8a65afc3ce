-- Lists of cells that grow.
use Rattle.std.proofs.Common.{◌≡◌, ◌<◌, ℕ, zero, suc, ◌⊎◌, inl, inr, List, [], ◌∷◌, ◌++◌, length, get_or, sym, subst, arith}
use Rattle.std.specs.List.{flat_map}
use Rattle.language.specs.Members.{◌∈◌}
use Rattle.language.proofs.Members.{to_left, to_right, either}
use Rattle.flow.specs.Cells.{Anchor, AreAmong, AnchorsGrow}

-- AMONG

pub among_self : (xs : List Anchor) → AreAmong xs xs
among_self xs = λ x m. m

pub among_none : (xs : List Anchor) → AreAmong [] xs
among_none xs = λ x m. elim m [ ]

pub among_then : {xs ys zs : List Anchor} → AreAmong xs ys → AreAmong ys zs → AreAmong xs zs
among_then f g = λ x m. g x (f x m)

pub among_left : (xs ys : List Anchor) → AreAmong xs (xs ++ ys)
among_left xs ys = λ x m. to_left xs ys m

pub among_right : (xs ys : List Anchor) → AreAmong ys (xs ++ ys)
among_right xs ys = λ x m. to_right xs ys m

pub among_both : (xs ys : List Anchor) {zs : List Anchor} → AreAmong xs zs → AreAmong ys zs → AreAmong (xs ++ ys) zs
among_both xs ys {zs} f g = λ x m. by x (either xs ys m)
  where
    by : (x : Anchor) → (x ∈ xs) ⊎ (x ∈ ys) → x ∈ zs
    by x (inl i) = f x i
    by x (inr j) = g x j

-- two lists among two
pub among_each : (xs ys us vs : List Anchor) → AreAmong xs us → AreAmong ys vs → AreAmong (xs ++ ys) (us ++ vs)
among_each xs ys us vs f g = among_both xs ys (among_then f (among_left us vs)) (among_then g (among_right us vs))

-- what is made of one element is among what is made of all
pub among_all : {X : Type 0} (f : X → List Anchor) (xs : List X) (i : ℕ) (x : X) → i < length xs → x ≡ get_or xs i x → AreAmong (f x) (flat_map f xs)
among_all f [] i x below is = absurd (omega (arith, below))
among_all f (y ∷ ys) zero x below is = subst (λ z. AreAmong (f z) (f y ++ flat_map f ys)) (sym is) (among_left (f y) (flat_map f ys))
among_all f (y ∷ ys) (suc i) x below is = among_then (among_all f ys i x (omega (arith, below)) is) (among_right (f y) (flat_map f ys))

-- the same, seen otherwise
pub among_as : {xs ys zs : List Anchor} → xs ≡ ys → AreAmong ys zs → AreAmong xs zs
among_as {zs = zs} same f = subst (λ us. AreAmong us zs) (sym same) f

pub among_equal : {xs ys : List Anchor} → xs ≡ ys → AreAmong xs ys
among_equal {ys = ys} same = among_as same (among_self ys)

-- GROWN

pub grows_none : (xs more : List Anchor) → AnchorsGrow xs xs more
grows_none xs more = record { each = among_left xs more }

pub grows_same : (xs ys more : List Anchor) → ys ≡ xs → AnchorsGrow xs ys more
grows_same xs ys more same = subst (λ zs. AnchorsGrow xs zs more) (sym same) (grows_none xs more)

-- by exactly these
pub grows_by : (xs ys more : List Anchor) → ys ≡ xs ++ more → AnchorsGrow xs ys more
grows_by xs ys more is = record { each = subst (λ zs. AreAmong zs (xs ++ more)) (sym is) (among_self (xs ++ more)) }

-- by no others than these
pub grows_among : {xs ys more all : List Anchor} → AnchorsGrow xs ys more → AreAmong more all → AnchorsGrow xs ys all
grows_among {xs} {ys} {more} {all} g f = record { each = among_then g.each (among_each xs more xs all (among_self xs) f) }

-- by the same, seen otherwise
pub grows_as : {xs ys more others : List Anchor} → others ≡ more → AnchorsGrow xs ys more → AnchorsGrow xs ys others
grows_as {xs} {ys} same g = subst (λ zs. AnchorsGrow xs ys zs) (sym same) g

-- by the same once more
pub grows_again : {xs ys zs more : List Anchor} → AnchorsGrow xs ys more → AnchorsGrow ys zs more → AnchorsGrow xs zs more
grows_again {xs} {ys} {zs} {more} g h = record { each = among_then h.each (among_both ys more g.each (among_right xs more)) }

-- by some and then by none
pub grows_still : {xs ys zs more : List Anchor} → AnchorsGrow xs ys more → AnchorsGrow ys zs [] → AnchorsGrow xs zs more
grows_still {xs} {ys} {zs} {more} g h = grows_again g (grows_among h (among_none more))

-- by some and then by others
pub grows_both : {xs ys zs : List Anchor} (more others : List Anchor) → AnchorsGrow xs ys more → AnchorsGrow ys zs others → AnchorsGrow xs zs (more ++ others)
grows_both more others g h = grows_again (grows_among g (among_left more others)) (grows_among h (among_right more others))

-- from nothing
pub grows_from_none : {xs more : List Anchor} → AnchorsGrow [] xs more → AreAmong xs more
grows_from_none g = g.each
