-- Texts of which a beginning was taken.
use Rattle.std.proofs.Common.{◌≡◌, ◌∙◌, sym, ap, subst, ℕ, ◌+◌, List, ◌++◌, length, take, arith, append_assoc, length-append}
use Rattle.std.proofs.lemmas.Grind.{common_steps}
use Rattle.std.proofs.Math.Seq.{take-append-add}
use Rattle.values.specs.Pages.{OnPage}
use Rattle.values.specs.Sinks.{Beginning}

-- all of the first part and a beginning of the second
pub second_part : (old mid new front part : List ℕ) → mid ≡ old ++ front → Beginning mid part new → Beginning old (front ++ part) new
second_part old mid new front part e b = (
  length front + b.0,
  rw length-append (omega (arith, b.1)),
  b.2 ∙ ap (λ xs. xs ++ take b.0 part) e ∙ append_assoc old front (take b.0 part) ∙ ap (λ xs. old ++ xs) (sym (take-append-add front part b.0)),
)

-- a beginning of the first part
pub in_front : (old new front part : List ℕ) → Beginning old front new → Beginning old (front ++ part) new
in_front old new front part b =
    (b.0, rw length-append (omega (arith, b.1)), b.2 ∙ ap (λ xs. old ++ xs) (grind (arith, common_steps, b.1)))

-- a beginning of what waits and of a part behind it is one of the whole
pub lost_behind : (old mid new page text part : List ℕ) → OnPage old mid page text → Beginning mid (page ++ part) new → Beginning old (text ++ part) new
lost_behind old mid new page text part a b =
    subst (λ (xs : List ℕ). Beginning old xs new) (sym (append_assoc a.gone page part) ∙ ap (λ xs. xs ++ part) a.text_is)
    (second_part old mid new a.gone (page ++ part) a.taken b)

-- what waits behind a further part
pub more_on_page : (old mid new page after text part : List ℕ) → OnPage old mid page text → OnPage mid new after (page ++ part) → OnPage old new after (text ++ part)
more_on_page old mid new page after text part a b = record {
  gone = a.gone ++ b.gone;
  taken = b.taken ∙ ap (λ xs. xs ++ b.gone) a.taken ∙ append_assoc old a.gone b.gone;
  text_is = append_assoc a.gone b.gone after ∙ ap (λ xs. a.gone ++ xs) b.text_is ∙ sym (append_assoc a.gone page part) ∙ ap (λ xs. xs ++ part) a.text_is;
}

-- a beginning of what waits is one of the whole
pub lost : (old mid new page text : List ℕ) → OnPage old mid page text → Beginning mid page new → Beginning old text new
lost old mid new page text a b = subst (λ (xs : List ℕ). Beginning old xs new) a.text_is (second_part old mid new a.gone page a.taken b)
