-- Walks over lists that add something for each element, as the trees have them.
use Rattle.std.proofs.Common.{◌≡◌, ℕ, ◌<◌, ◌+◌, List, [], ◌∷◌, ◌++◌, map, take, length, get_or, ap, ap₂, sym, ◌∙◌}
use Rattle.std.proofs.lemmas.List.{map_push}
use Rattle.syntax_trees.proofs.Numbering.{viewed_more}
pub use Rattle.language.proofs.Walks.{walked_more, walked_all}

-- one more, where what is found of each is something of what it is seen as
pub found_more : {X Y V Z : Type 0} (v : X → V) (h : V → Z) (f : Y → Z) (xs : List X) (ys : List Y) (i : ℕ) (x : X) (y : Y)
    → map f ys ≡ map h (map v (take i xs)) → i < length xs → x ≡ get_or xs i x → f y ≡ h (v x)
    → map f (ys ++ y ∷ []) ≡ map h (map v (take (i + 1) xs))
found_more v h f xs ys i x y before below is here =
    map_push f ys y ∙ ap₂ (λ a b. a ++ b ∷ []) before here
    ∙ sym (ap (map h) (viewed_more v xs i x below is) ∙ map_push h (map v (take i xs)) (v x))
