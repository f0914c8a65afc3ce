-- Lists in which one element after another is put in the place of one that is seen alike.
use Rattle.std.proofs.Common.{◌≡◌, ℕ, ◌<◌, ◌+◌, List, [], ◌∷◌, ◌++◌, map, take, length, arith, slice_set, slice_index_or, Bool, true, ◌&&◌, IsTrue, refl, ap, ap₂, sym, ◌∙◌, subst}
use Rattle.std.specs.List.{flat_map}
use Rattle.std.proofs.Math.Seq.{map-set_same}
use Rattle.std.proofs.lemmas.List.{take_more_set}
use Rattle.wait_merge.specs.Merged.{Seen, all_merged}

pub kept_at : {X Y : Type 0} (view : X → Y) (xs olds : List X) (i : ℕ) (x y : X)
    → map view xs ≡ map view olds → x ≡ slice_index_or xs i x → view y ≡ view x → map view (slice_set xs i y) ≡ map view olds
kept_at view xs olds i x y before is same = map-set_same view xs i y x (same ∙ ap view is) ∙ before

-- what is made of one element after another is the same where that of each is
pub joined_same : {X Y : Type 0} (f : X → List Y) (xs ys : List X) → map f xs ≡ map f ys → flat_map f xs ≡ flat_map f ys
joined_same f [] [] same = refl
joined_same f [] (y ∷ ys) same = absurd (cc (same))
joined_same f (x ∷ xs) [] same = absurd (cc (same))
joined_same {X} {Y} f (x ∷ xs) (y ∷ ys) same =
    let first : f x ≡ f y = cc (same) in
    let rest : map f xs ≡ map f ys = cc (same) in
    ap₂ (λ (a b : List Y). a ++ b) first (joined_same f xs ys rest)

pub both_true : (a b : Bool) → IsTrue a → IsTrue b → IsTrue (a && b)
both_true a b p q = grind arith

merged_behind : {X : Type 0} (seen : X → Seen) (xs : List X) (y : X) → IsTrue (all_merged (map seen xs)) → IsTrue ((seen y).merged) → IsTrue (all_merged (map seen (xs ++ y ∷ [])))
merged_behind seen [] y before one = both_true ((seen y).merged) true one refl
merged_behind seen (x ∷ xs) y before one =
    both_true ((seen x).merged) (all_merged (map seen (xs ++ y ∷ []))) (grind arith) (merged_behind seen xs y (grind arith) one)

pub merged_more : {X : Type 0} (seen : X → Seen) (xs : List X) (i : ℕ) (y : X)
    → IsTrue (all_merged (map seen (take i xs))) → i < length xs → IsTrue ((seen y).merged) → IsTrue (all_merged (map seen (take (i + 1) (slice_set xs i y))))
merged_more seen xs i y before below one =
    subst (λ zs. IsTrue (all_merged (map seen zs))) (sym (take_more_set xs i y below)) (merged_behind seen (take i xs) y before one)
