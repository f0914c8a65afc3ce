-- The rest of a list from a place on.
use Rattle.std.proofs.Common.{◌≡◌, ℕ, ◌<◌, ◌+◌, List, ◌∷◌, drop, length, get_or, true, false, ap, sym, ◌∙◌}
use Rattle.std.proofs.lemmas.List.{drop_more}
use Rattle.std.specs.Str.{bytes_eq}
use Rattle.std.specs.Prelude.{Some, cond}
use Rattle.language.specs.Scopes.{Signature}
use Rattle.types.specs.Known.{Seen}
use Rattle.types.specs.Names.{seen, find_from, found}

-- what a function says of the rest is what it says of the next one and of those behind it
pub rest_more : {X Y : Type 0} (F : List X → Y) (xs : List X) (i : ℕ) (x : X) → i < length xs → x ≡ get_or xs i x → F (drop i xs) ≡ F (x ∷ drop (i + 1) xs)
rest_more F xs i x below is = ap F (drop_more xs i x below ∙ ap (λ y. y ∷ drop (i + 1) xs) (sym is))

pub seen_other : (k : Seen) (ks : List Seen) (text : List ℕ) → bytes_eq k.text text ≡ false → seen (k ∷ ks) text ≡ seen ks text
seen_other k ks text other = ap (λ b. cond b (Some k) (seen ks text)) other

pub seen_this : (k : Seen) (ks : List Seen) (text : List ℕ) → bytes_eq k.text text ≡ true → seen (k ∷ ks) text ≡ Some k
seen_this k ks text same = ap (λ b. cond b (Some k) (seen ks text)) same

pub find_other : (n : ℕ) (f : Signature) (fs : List Signature) (text : List ℕ) → bytes_eq f.text text ≡ false → find_from n (f ∷ fs) text ≡ find_from (n + 1) fs text
find_other n f fs text other = ap (λ b. cond b (found n f) (find_from (n + 1) fs text)) other

pub find_this : (n : ℕ) (f : Signature) (fs : List Signature) (text : List ℕ) → bytes_eq f.text text ≡ true → find_from n (f ∷ fs) text ≡ found n f
find_this n f fs text same = ap (λ b. cond b (found n f) (find_from (n + 1) fs text)) same
