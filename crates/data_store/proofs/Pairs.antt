-- Pairs of a number or a text and a scalar, as elements.
use Rattle.std.proofs.Common.{◌≡◌, ◌∙◌, sym, ap, ℕ, ◌+◌, List, [], ◌∷◌, ◌++◌, length, map, None, Some, refl}
use Rattle.std.specs.Prelude.{ℤ, if◌then◌else◌}
use Rattle.std.specs.Cmp.Lexicographic.{nat_list_eq_equiv}
use Rattle.std.specs.Map.{lookup}
use Rattle.std.specs.Ordering.{int_eq}
use Rattle.std.specs.Str.{bytes_eq}
use Rattle.std.proofs.lemmas.Cmp.{int_eq_equiv}
use Rattle.std.proofs.lemmas.List.{length-map, map-append}
use Rattle.values.specs.declared.key.Key.{Key}
use Rattle.values.specs.declared.key.Key.TheVariants.{Number, Text}
use Rattle.values.specs.declared.map.Element.{Element}
use Rattle.values.specs.declared.value.Scalar.{Scalar}
use Rattle.values.specs.Maps.{found}
use Rattle.data_store.specs.Arrays.{arranged, number_element, text_element}
use Rattle.data_store.specs.Filled.{IsPut}
use Rattle.data_store.proofs.Arranged.{found_arranged, FindsMore}

-- a number finds among elements what it finds in the table, and a text nothing
pub found_numbers : (q : ℤ) (es : List (ℤ × Scalar)) → found (Number q) (map number_element es) ≡ lookup (int_eq q) es
found_numbers q [] = refl
found_numbers q (e ∷ es) = λ i. if int_eq_equiv.symm e.0 q i then Some e.1 else found_numbers q es i

pub no_text : (bytes : List ℕ) (es : List (ℤ × Scalar)) → found (Text bytes) (map number_element es) ≡ None
no_text bytes [] = refl
no_text bytes (e ∷ es) = no_text bytes es

-- the same the other way round
pub found_texts : (bytes : List ℕ) (es : List (List ℕ × Scalar)) → found (Text bytes) (map text_element es) ≡ lookup (bytes_eq bytes) es
found_texts bytes [] = refl
found_texts bytes (e ∷ es) = λ i. if nat_list_eq_equiv.symm e.0 bytes i then Some e.1 else found_texts bytes es i

pub no_number : (q : ℤ) (es : List (List ℕ × Scalar)) → found (Number q) (map text_element es) ≡ None
no_number q [] = refl
no_number q (e ∷ es) = no_number q es

-- what a table finds is found in rising order
pub found_as_number : (n k : ℤ) (es : List (ℤ × Scalar)) → k ≡ n → lookup (int_eq k) es ≡ found (Number n) (arranged (map number_element es))
found_as_number n k es is = ap (λ j. lookup (int_eq j) es) is ∙ sym (found_numbers n es) ∙ sym (found_arranged (Number n) (map number_element es))

pub found_as_text : (bytes : List ℕ) (es : List (List ℕ × Scalar)) → lookup (bytes_eq bytes) es ≡ found (Text bytes) (arranged (map text_element es))
found_as_text bytes es = sym (found_texts bytes es) ∙ sym (found_arranged (Text bytes) (map text_element es))

-- what holds of all keys where it holds of those that a table has
pub numbers_more : (n : ℤ) (v : Scalar) (es fs : List (ℤ × Scalar)) → IsPut n v es fs → FindsMore (Number n) v (map number_element es) (map number_element fs)
numbers_more n v es fs put (Number q) = found_numbers q fs ∙ put.finds q ∙ ap (λ o. if int_eq n q then Some v else o) (sym (found_numbers q es))
numbers_more n v es fs put (Text bytes) = no_text bytes fs ∙ sym (no_text bytes es)

pub numbers_same : (es fs : List (ℤ × Scalar)) → ((q : ℤ) → lookup (int_eq q) fs ≡ lookup (int_eq q) es) → (j : Key) → found j (map number_element fs) ≡ found j (map number_element es)
numbers_same es fs h (Number q) = found_numbers q fs ∙ h q ∙ sym (found_numbers q es)
numbers_same es fs h (Text bytes) = no_text bytes fs ∙ sym (no_text bytes es)

pub texts_more : (b : List ℕ) (v : Scalar) (es fs : List (List ℕ × Scalar)) → ((q : List ℕ) → lookup (bytes_eq q) fs ≡ (if bytes_eq b q then Some v else lookup (bytes_eq q) es)) → FindsMore (Text b) v (map text_element es) (map text_element fs)
texts_more b v es fs h (Number q) = no_number q fs ∙ sym (no_number q es)
texts_more b v es fs h (Text q) = found_texts q fs ∙ h q ∙ ap (λ o. if bytes_eq b q then Some v else o) (sym (found_texts q es))

pub texts_same : (es fs : List (List ℕ × Scalar)) → ((q : List ℕ) → lookup (bytes_eq q) fs ≡ lookup (bytes_eq q) es) → (j : Key) → found j (map text_element fs) ≡ found j (map text_element es)
texts_same es fs h (Number q) = no_number q fs ∙ sym (no_number q es)
texts_same es fs h (Text q) = found_texts q fs ∙ h q ∙ sym (found_texts q es)

-- as many elements as pairs
pub longer_elements : {K : Type 0} (f : K × Scalar → Element) (es fs : List (K × Scalar)) → length fs ≡ length es + 1 → length (map f fs) ≡ length (map f es) + 1
longer_elements f es fs e = length-map fs f ∙ e ∙ ap (λ n. n + 1) (sym (length-map es f))

pub as_many_elements : {K : Type 0} (f : K × Scalar → Element) (es fs : List (K × Scalar)) → length fs ≡ length es → length (map f fs) ≡ length (map f es)
as_many_elements f es fs e = length-map fs f ∙ e ∙ sym (length-map es f)

-- pairs that are listed one behind the other
pub listed_both : {K : Type 0} (f : K × Scalar → Element) (es fs : List (K × Scalar)) (xs ys zs : List Element) → xs ≡ [] → ys ≡ xs ++ map f es → zs ≡ ys ++ map f fs → zs ≡ map f (es ++ fs)
listed_both f es fs xs ys zs none first second =
    second ∙ ap (λ (us : List Element). us ++ map f fs) (first ∙ ap (λ (us : List Element). us ++ map f es) none) ∙ sym (map-append f es fs)
