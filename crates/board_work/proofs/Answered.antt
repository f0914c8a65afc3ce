-- Answers by their places, and elements as pairs.
use Rattle.std.proofs.Common.{◌≡◌, ℕ, zero, suc, List, [], ◌∷◌, map, Some, None, arith, ap, refl, sym, subst}
use Rattle.std.specs.Prelude.{IsTrue, if◌then◌else◌}
use Rattle.dataflow.specs.System.{Content}
use Rattle.values.specs.Maps.{rising}
use Rattle.std.specs.List.{slice_get}
use Rattle.std.proofs.lemmas.Option.{none-some, same_Some}
use Rattle.values.specs.declared.map.Element.{Element}
use Rattle.task_code.specs.Compute.{answer_at, content, elements, pairs}
use Rattle.board_work.specs.declared.answer.Answer.{Answer}
use Rattle.board_work.specs.View.{answer_view}

pub answer_at_found : (xs : List Answer) (n : ℕ) (x : Answer) → slice_get xs n ≡ Some x → answer_at (map answer_view xs) n ≡ Some (answer_view x)
answer_at_found [] n x is = absurd (none-some x is)
answer_at_found (y ∷ ys) zero x is = ap (λ z. Some (answer_view z)) (same_Some y x is)
answer_at_found (y ∷ ys) (suc n) x is = answer_at_found ys n x is

pub answer_at_past : (xs : List Answer) (n : ℕ) → slice_get xs n ≡ None → answer_at (map answer_view xs) n ≡ None
answer_at_past [] n is = refl
answer_at_past (y ∷ ys) zero is = absurd (grind arith)
answer_at_past (y ∷ ys) (suc n) is = answer_at_past ys n is

-- elements that are taken apart and put together again
pub elements_of_pairs : (es : List Element) → elements (pairs es) ≡ es
elements_of_pairs [] = refl
elements_of_pairs (e ∷ es) = ap (λ fs. e ∷ fs) (elements_of_pairs es)

-- elements whose keys rise are all listed
pub content_of_rising : (es : List Element) → IsTrue (rising es) → content (Some (Content (pairs es))) ≡ pairs es
content_of_rising es up =
    let P : List Element → Type 0 = λ fs. IsTrue (rising fs) in
    ap (λ b. if b then pairs es else []) (subst P (sym (elements_of_pairs es)) up)
