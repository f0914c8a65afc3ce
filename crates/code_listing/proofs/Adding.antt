-- Parts of a text, one after another.
use Rattle.std.specs.Prelude.{◌≤◌, Bool, true, false, if◌then◌else◌, nat_lt}
use Rattle.std.proofs.lemmas.Bool.{ltb-true, lt-ltb}
use Rattle.std.proofs.Common.{◌≡◌, arith, sym, ap, ◌∙◌, refl, ℕ, zero, suc, ◌+◌, ◌<◌, List, [], ◌∷◌, ◌++◌, length, drop, map, get_or, append-nil, append_assoc, subst}
use Rattle.std.proofs.lemmas.List.{drop_more}
use Rattle.std.specs.List.{flat_map}
use Rattle.task_code.specs.Code.{nth}
use Rattle.code_listing.specs.Buffers.{Adds, Leaves}
use Rattle.code_listing.specs.Listing.{Signature, no_signature, function_at}
use Rattle.code_listing.specs.declared.text_buffer.TextBuffer.{TextBuffer}

-- a part, and one more
pub adds_more : (a b c : TextBuffer) (s t : List ℕ) → Adds a b s → Adds b c t → Adds a c (s ++ t)
adds_more a b c s t p q h =
    let r = q h in
    let l = p r.0 in
    (l.0, r.1 ∙ ap (λ xs. xs ++ t) l.1 ∙ append_assoc a.bytes.items s t)

-- nothing was added
pub adds_none : (a : TextBuffer) → Adds a a []
adds_none a h = (h, sym (append-nil a.bytes.items))

-- the same bytes in another form
pub adds_same : (a b : TextBuffer) (s t : List ℕ) → s ≡ t → Adds a b s → Adds a b t
adds_same a b s t e p = subst (Adds a b) e p

-- the first part is all that is left
pub leaves_all : (a : TextBuffer) (whole : List ℕ) → Leaves a a whole whole
leaves_all a whole h = (h, refl)

-- a part less is left
pub leaves_less : (a b c : TextBuffer) (whole s rest : List ℕ) → Leaves a b whole (s ++ rest) → Adds b c s → Leaves a c whole rest
leaves_less a b c whole s rest p q h =
    let r = q h in
    let l = p r.0 in
    (l.0, ap (λ xs. xs ++ rest) r.1 ∙ append_assoc b.bytes.items s rest ∙ l.1)

-- nothing is left
pub leaves_none : (a b : TextBuffer) (whole : List ℕ) → Leaves a b whole [] → Adds a b whole
leaves_none a b whole p h = let l = p h in (l.0, sym (append-nil b.bytes.items) ∙ l.1)

-- the texts that are left begin with the next one
pub texts_step : {X Y : Type 0} (v : X → Y) (f : Y → List ℕ) (xs : List X) (i : ℕ) (d : X) → i < length xs → get_or xs i d ≡ d → flat_map f (map v (drop i xs)) ≡ f (v d) ++ flat_map f (map v (drop (i + 1) xs))
texts_step v f xs i d l e = ap (λ zs. flat_map f (map v zs)) (drop_more xs i d l) ∙ ap (λ z. f (v z) ++ flat_map f (map v (drop (i + 1) xs))) e

-- NUMBERS WITHIN A LIST

pub if_so : {X : Type 0} (i n : ℕ) (x y : X) → i < n → (if nat_lt i n then x else y) ≡ x
if_so i n x y l = ap (λ (b : Bool). if b then x else y) (lt-ltb i n l)

pub if_not : {X : Type 0} (i n : ℕ) (x y : X) → n ≤ i → (if nat_lt i n then x else y) ≡ y
if_not {X} i n x y l = by (nat_lt i n) refl
  where
    by : (b : Bool) → nat_lt i n ≡ b → (if b then x else y) ≡ y
    by true e = let h = ltb-true i n e in absurd (omega (arith, l, h))
    by false e = refl

-- ENTRIES OF A LIST IN TWO PARTS

pub nth_left : {X : Type 0} (d : X) (xs ys : List X) (n : ℕ) → n < length xs → nth d (xs ++ ys) n ≡ nth d xs n
nth_left d [] ys n l = absurd (omega (arith, l))
nth_left d (x ∷ xs) ys zero l = refl
nth_left d (x ∷ xs) ys (suc n) l = nth_left d xs ys n (omega (arith, l))

pub nth_right : {X : Type 0} (d : X) (xs ys : List X) (n k : ℕ) → length xs + k ≡ n → nth d (xs ++ ys) n ≡ nth d ys k
nth_right d [] ys n k e = let same : n ≡ k = omega (arith, e) in ap (nth d ys) same
nth_right d (x ∷ xs) ys zero k e = absurd (omega (arith, e))
nth_right d (x ∷ xs) ys (suc n) k e = nth_right d xs ys n k (omega (arith, e))

pub nth_at : {X Y : Type 0} (f : X → Y) (d : Y) (xs : List X) (n : ℕ) (x : X) → n < length xs → x ≡ get_or xs n x → nth d (map f xs) n ≡ f x
nth_at f d [] n x l e = absurd (omega (arith, l))
nth_at f d (y ∷ ys) zero x l e = ap f (sym e)
nth_at f d (y ∷ ys) (suc n) x l e = nth_at f d ys n x (omega (arith, l)) e

pub nth_beyond : {X Y : Type 0} (f : X → Y) (d : Y) (xs : List X) (n : ℕ) → length xs ≤ n → nth d (map f xs) n ≡ d
nth_beyond f d [] n l = refl
nth_beyond f d (y ∷ ys) zero l = absurd (omega (arith, l))
nth_beyond f d (y ∷ ys) (suc n) l = nth_beyond f d ys n (omega (arith, l))

pub none_in : {X : Type 0} (xs : List X) → length xs ≡ 0 → xs ≡ []
none_in [] e = refl
none_in (x ∷ xs) e = absurd (omega (arith, e))

-- the function of a number that is not 0
pub function_past : (fs : List Signature) (n k : ℕ) → 1 + k ≡ n → function_at fs n ≡ nth no_signature fs k
function_past fs zero k e = absurd (omega (arith, e))
function_past fs (suc n) k e = let same : n ≡ k = omega (arith, e) in ap (nth no_signature fs) same
