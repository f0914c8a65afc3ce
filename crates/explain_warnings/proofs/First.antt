-- What the first expression of a list, or a list without statements, says of its view; a list to which three or four are appended.
use Rattle.std.proofs.Common.{◌≡◌, ℕ, ◌≤◌, ◌==◌, length, List, [], ◌∷◌, map, ◌++◌, ◌∙◌, refl, ap, sym, slice_index_or, rules}
use Rattle.std.proofs.lemmas.List.{append_assoc}
use Rattle.language.specs.Tree.{Expression, expressions_of, Statement, statements_of}
use Rattle.explain_warnings.specs.Forms.{is_without}
use Rattle.explain_warnings.specs.Mentions.{first_mistakes, argument_mistakes, first_failures, argument_failures}

pub first_of : {X : Type 0} (f : X → Expression) (called : List ℕ) (xs : List X) (x : X) → 1 ≤ length xs → x ≡ slice_index_or xs 0 x → argument_mistakes called (map f xs) ≡ first_mistakes called (f x)
first_of f called [] x h e = search rules
first_of f called (y ∷ ys) x h e = ap (λ z. first_mistakes called (f z)) (sym e)

pub first_fails : {X : Type 0} (f : X → Expression) (called : List ℕ) (xs : List X) (x : X) → 1 ≤ length xs → x ≡ slice_index_or xs 0 x
    → argument_failures called (expressions_of (map f xs)) ≡ first_failures called (f x)
first_fails f called [] x h e = search rules
first_fails f called (y ∷ ys) x h e = ap (λ z. first_failures called (f z)) (sym e)

pub without_is : {X : Type 0} (f : X → Statement) (xs : List X) → (length xs == 0) ≡ is_without (statements_of (map f xs))
without_is f [] = refl
without_is f (x ∷ xs) = search rules

pub three_appended : {X : Type 0} (old a b c x y z : List X) → x ≡ old ++ a → y ≡ x ++ b → z ≡ y ++ c → z ≡ old ++ (a ++ (b ++ c))
three_appended old a b c x y z first second third =
    third ∙ ap (λ l. l ++ c) (second ∙ ap (λ l. l ++ b) first) ∙ append_assoc (old ++ a) b c ∙ append_assoc old a (b ++ c)

pub four_appended : {X : Type 0} (old a b c d w x y z : List X) → w ≡ old ++ a → x ≡ w ++ b → y ≡ x ++ c → z ≡ y ++ d → z ≡ old ++ (a ++ (b ++ (c ++ d)))
four_appended old a b c d w x y z first second third fourth =
    three_appended w b c d x y z second third fourth ∙ ap (λ l. l ++ (b ++ (c ++ d))) first ∙ append_assoc old a (b ++ (c ++ d))
