-- What stands right before a part.
use Rattle.std.proofs.Common.{◌≡◌, ℕ, zero, suc, Bool, true, false, ◌||◌, ◌<◌, ◌≤◌, ◌+◌, List, [], ◌∷◌, ◌++◌, map, length, refl, sym, ap, subst, ◌∙◌, take, drop, get_or, Option, Some, None, arith}
use Rattle.std.specs.List.{list_any}
use Rattle.std.proofs.lemmas.List.{take_all, take_more, map-append}
use Rattle.language.specs.Core.{Name, Part, inner, calls}
use Rattle.code_rules.specs.Laying.{local_node, same_node, gives}
use Rattle.emit_cells.specs.Before.{last_of, before, gives_node}

-- one of those that are left is such
at_drop : {X : Type 0} (p : X → Bool) (xs : List X) (i : ℕ) (d : X) → i < length xs → true ≡ p (get_or xs i d) → list_any p (drop i xs) ≡ true
at_drop p [] i d below e = absurd (omega arith)
at_drop p (x ∷ xs) zero d below e = ap (λ b. b || list_any p xs) (sym e)
at_drop p (x ∷ xs) (suc i) d below e = at_drop p xs i d (omega arith) e

pub any_at : {X : Type 0} (p : X → Bool) (xs ys : List X) (i : ℕ) (d : X) → ys ≡ xs → i < length ys → true ≡ p (get_or ys i d) → list_any p (drop i xs) ≡ true
any_at p xs ys i d is below e = at_drop p xs i d (subst (λ l. i < length l) is below) (subst (λ l. true ≡ p (get_or l i d)) is e)

pub any_none : {X : Type 0} (p : X → Bool) (xs : List X) (i : ℕ) → length xs ≤ i → list_any p (drop i xs) ≡ false
any_none p [] zero h = refl
any_none p [] (suc i) h = refl
any_none p (x ∷ xs) zero h = absurd (omega arith)
any_none p (x ∷ xs) (suc i) h = any_none p xs i (omega arith)

pub any_mapped : {X Y : Type 0} (p : Y → Bool) (V : X → Y) (xs : List X) → list_any p (map V xs) ≡ list_any (λ x. p (V x)) xs
any_mapped p V [] = refl
any_mapped p V (x ∷ xs) = ap (λ b. p (V x) || b) (any_mapped p V xs)

pub last_behind : (p : Option Part) (xs : List Part) (x : Part) → last_of p (xs ++ x ∷ []) ≡ Some x
last_behind p [] x = refl
last_behind p (y ∷ xs) x = last_behind (Some y) xs x

pub take_mapped : {X Y : Type 0} (V : X → Y) (xs : List X) (i : ℕ) → take i (map V xs) ≡ map V (take i xs)
take_mapped V xs zero = refl
take_mapped V [] (suc i) = refl
take_mapped V (x ∷ xs) (suc i) = ap (λ l. V x ∷ l) (take_mapped V xs i)

-- behind a part it is the part before
pub before_more : {X : Type 0} (V : X → Part) (xs : List X) (i : ℕ) (x : X) → i < length xs → x ≡ get_or xs i x → before (map V xs) (i + 1) ≡ Some (V x)
before_more V xs i x below is =
    ap (last_of None) (take_mapped V xs (i + 1) ∙ ap (map V) (take_more xs i x below ∙ ap (λ y. take i xs ++ y ∷ []) (sym is)) ∙ map-append V (take i xs) (x ∷ []))
    ∙ last_behind None (map V (take i xs)) (V x)

pub before_at : {X : Type 0} (V : X → Part) (xs : List X) (at i : ℕ) (x : X) → at ≡ i + 1 → i < length xs → x ≡ get_or xs i x → before (map V xs) at ≡ Some (V x)
before_at V xs at i x e below is = ap (before (map V xs)) e ∙ before_more V xs i x below is

pub before_all : {X : Type 0} (V : X → Part) (xs : List X) → before (map V xs) (length xs) ≡ last_of None (map V xs)
before_all V xs = ap (last_of None) (take_mapped V xs (length xs) ∙ ap (map V) (take_all (length xs) xs (omega arith)))

-- a name of another block is given by none
none_among : (xs : List Name) → list_any (λ y. same_node None (local_node y)) xs ≡ false
none_among [] = refl
none_among (x ∷ xs) = none_among xs

pub gives_far : (p : Option Part) (x : Name) → local_node x ≡ None → gives p x ≡ false
gives_far None x e = refl
gives_far (Some (inner c)) x e = refl
gives_far (Some (calls c)) x e = ap (λ n. list_any (λ y. same_node n (local_node y)) c.outputs) e ∙ none_among c.outputs

pub gives_near : (p : Option Part) (x : Name) (n : ℕ) → local_node x ≡ Some n → gives p x ≡ gives_node p n
gives_near None x n e = refl
gives_near (Some (inner c)) x n e = refl
gives_near (Some (calls c)) x n e = ap (λ m. list_any (λ y. same_node m (local_node y)) c.outputs) e
