-- Whether answers are those that there are.
use Rattle.std.proofs.Common.{◌≡◌, ◌∙◌, ◌↔◌, refl, sym, ap, subst, inl, inr, ℕ, Bool, true, false, ◌&&◌, not, List, [], ◌∷◌, length, Option, Some, None}
use Rattle.std.specs.Prelude.{IsTrue, if◌then◌else◌}
use Rattle.std.specs.List.{list_all}
use Rattle.std.proofs.lemmas.Bool.{cases_Bool, and_from, and_parts}
use Rattle.board_work.proofs.Comparisons.{same_answers}
use Rattle.board_work.specs.Same.{answer_eq, option_eq, scalar_eq}
use Rattle.data_store.specs.Stores.{Store, array_at, at}
use Rattle.dataflow.specs.System as flow
use Rattle.board_history.specs.Fields.{slot_at}
use Rattle.board_history.proofs.Tests.{some_same}
use Rattle.task_code.specs.Compute.{elements, pairs}
use Rattle.values.proofs.Keys.{below_differs, same_key-refl}
use Rattle.values.specs.Maps.{found, rising}
use Rattle.values.specs.declared.key.Key.{Key}
use Rattle.values.specs.declared.map.Element.{Element}
use Rattle.values.specs.declared.value.Scalar.{Scalar}
use Rattle.board_data.specs.Answered.{cell_answer}
use Rattle.board_data.specs.Data.{is_keyed}
use Rattle.board_data.specs.View.{cells_view}
use Rattle.board_data.proofs.Answered.{list_answer, whole}
use Rattle.board_data.proofs.Listed.{Above, AllFound, all_above, same_listed, tail_rises}

-- equal answers
one_true : (b : Bool) → (b && true) ≡ b
one_true true = refl
one_true false = refl

abbrev pub Ans : Type 0
Ans = flow.Answer Key Scalar

pub answer_is : (a b : Ans) → IsTrue (answer_eq b a) ↔ (a ≡ b)
answer_is a b = (
  λ h. head_same (sym ((same_answers (b ∷ []) (a ∷ [])).0 (one_true (answer_eq b a) ∙ h))),
  λ e. sym (one_true (answer_eq b a)) ∙ (same_answers (b ∷ []) (a ∷ [])).1 (ap (λ x. x ∷ []) (sym e)),
)
  where
    head_same : {x y : flow.Answer Key Scalar} → ◌≡◌ {A = List (flow.Answer Key Scalar)} (x ∷ []) (y ∷ []) → x ≡ y
    head_same h = cc

found_is : (a b : Option Scalar) → IsTrue (option_eq scalar_eq a b) ↔ (a ≡ b)
found_is None None = (λ h. refl, λ h. refl)
found_is None (Some w) = (λ h. absurd (cc), λ h. absurd (cc))
found_is (Some v) None = (λ h. absurd (cc), λ h. absurd (cc))
found_is (Some v) (Some w) = (
  λ h. ap Some (found_same ((answer_is (flow.Found w) (flow.Found v)).0 h)),
  λ e. (answer_is (flow.Found w) (flow.Found v)).1 (ap flow.Found (sym (some_same e))),
)
  where
    found_same : {x y : Scalar} → ◌≡◌ {A = flow.Answer Key Scalar} (flow.Found x) (flow.Found y) → y ≡ x
    found_same h = cc

-- all are found
all_found : (es ys : List Element) → list_all (λ (e : Element). option_eq scalar_eq (found e.key es) (Some e.value)) ys ≡ true → AllFound es ys
all_found es [] h = tt
all_found es (y ∷ ys) h = (let p = and_parts (option_eq scalar_eq (found y.key es) (Some y.value)) _ h in
    ((found_is (found y.key es) (Some y.value)).0 p.0, all_found es ys p.1))

found_all : (es ys : List Element) → AllFound es ys → list_all (λ (e : Element). option_eq scalar_eq (found e.key es) (Some e.value)) ys ≡ true
found_all es [] h = refl
found_all es (y ∷ ys) h = and_from (option_eq scalar_eq (found y.key es) (Some y.value)) _ ((found_is (found y.key es) (Some y.value)).1 h.0) (found_all es ys h.1)

all_more : (e : Element) (es ys : List Element) → Above e.key ys → AllFound es ys → AllFound (e ∷ es) ys
all_more e es [] a h = tt
all_more e es (y ∷ ys) a h = (ap (λ b. if b then Some e.value else found y.key es) (below_differs e.key y.key a.0) ∙ h.0, all_more e es ys a.1 h.1)

all_there : (es : List Element) → rising es ≡ true → AllFound es es
all_there [] h = tt
all_there (e ∷ es) h = (ap (λ b. if b then Some e.value else found e.key es) (same_key-refl e.key), all_more e es es (all_above e es h) (all_there es (tail_rises e es h)))

-- as many, and all found: the same elements
same_content : (es ys : List Element) → length ys ≡ length es → rising ys ≡ true → rising es ≡ true → (list_all (λ (e : Element). option_eq scalar_eq (found e.key es) (Some e.value)) ys ≡ true) ↔ (ys ≡ es)
same_content es ys n up rises = (
  λ h. same_listed es ys up rises n (all_found es ys h),
  λ e. found_all es ys (subst (λ zs. AllFound es zs) (sym e) (all_there es rises)),
)

pub content_told : (es ys zs : List Element) (b : Bool) → b ≡ list_all (λ (e : Element). option_eq scalar_eq (found e.key es) (Some e.value)) zs → zs ≡ ys → length ys ≡ length es → IsTrue (rising ys) → IsTrue (rising es) → IsTrue b ↔ (ys ≡ es)
content_told es ys zs b t e n up rises = (let told = t ∙ ap (λ xs. list_all (λ (e : Element). option_eq scalar_eq (found e.key es) (Some e.value)) xs) e in
    (λ h. (same_content es ys n up rises).0 (sym told ∙ h), λ h. told ∙ (same_content es ys n up rises).1 h))

-- what is found, by whether there is any
pub found_one : (v : Scalar) (f : Option Scalar) (w : Scalar) → Some v ≡ f → scalar_eq v w ≡ option_eq scalar_eq f (Some w)
found_one v f w e = ap (λ g. option_eq scalar_eq g (Some w)) e

-- the answer that is a whole array
elements_again : (es : List Element) → elements (pairs es) ≡ es
elements_again [] = refl
elements_again (e ∷ es) = ap (λ fs. e ∷ fs) (elements_again es)

pairs_same : (xs ys : List Element) → pairs xs ≡ pairs ys → xs ≡ ys
pairs_same xs ys h = sym (elements_again xs) ∙ ap elements h ∙ elements_again ys

content_same : {xs ys : List (Key × Scalar)} → ◌≡◌ {A = flow.Answer Key Scalar} (flow.Content xs) (flow.Content ys) → xs ≡ ys
content_same h = cc

the_array : (s : Store) (d : ℕ) → is_keyed (at s d) ≡ true → cell_answer (slot_at (cells_view s.cells) d) ≡ flow.Content (pairs (array_at s d).elements)
the_array s d k = whole s d ∙ ap (λ b. list_answer (if b then Some (array_at s d).elements else None)) k

no_array : (s : Store) (d : ℕ) → is_keyed (at s d) ≡ false → cell_answer (slot_at (cells_view s.cells) d) ≡ flow.Missing
no_array s d k = whole s d ∙ ap (λ b. list_answer (if b then Some (array_at s d).elements else None)) k

-- an array is the answer where it is the one there
pub content_listed : (s : Store) (d : ℕ) (m : List Element) (b : Bool) → is_keyed (at s d) ≡ true → IsTrue b ↔ (m ≡ (array_at s d).elements) → IsTrue b ↔ (flow.Content (pairs m) ≡ cell_answer (slot_at (cells_view s.cells) d))
content_listed s d m b k t = (
  λ h. ap (λ es. flow.Content (pairs es)) (t.0 h) ∙ sym (the_array s d k),
  λ e. t.1 (pairs_same m (array_at s d).elements (content_same (e ∙ the_array s d k))),
)

pub content_unlisted : (s : Store) (d : ℕ) (es : List (Key × Scalar)) → is_keyed (at s d) ≡ false → IsTrue false ↔ (flow.Content es ≡ cell_answer (slot_at (cells_view s.cells) d))
content_unlisted s d es k = (λ h. absurd (cc (h)), λ e. apart (e ∙ no_array s d k))
  where
    apart : ◌≡◌ {A = flow.Answer Key Scalar} (flow.Content es) flow.Missing → false ≡ true
    apart h = absurd (cc (h))

pub missing_listed : (s : Store) (d : ℕ) → IsTrue (not (is_keyed (at s d))) ↔ (flow.Missing ≡ cell_answer (slot_at (cells_view s.cells) d))
missing_listed s d = elim (cases_Bool (is_keyed (at s d))) [
  | inl k ↦ (λ h. absurd (cc (h, k)), λ e. apart (e ∙ the_array s d k))
  | inr k ↦ (λ h. sym (no_array s d k), λ e. ap not k)
]
  where
    apart : {es : List (Key × Scalar)} {A : Type 0} → ◌≡◌ {A = flow.Answer Key Scalar} flow.Missing (flow.Content es) → A
    apart h = absurd (cc (h))

pub found_unlisted : (s : Store) (d : ℕ) (v : Scalar) → IsTrue false ↔ (flow.Found v ≡ cell_answer (slot_at (cells_view s.cells) d))
found_unlisted s d v = elim (cases_Bool (is_keyed (at s d))) [
  | inl k ↦ (λ h. absurd (cc (h)), λ e. an_array (e ∙ the_array s d k))
  | inr k ↦ (λ h. absurd (cc (h)), λ e. nothing (e ∙ no_array s d k))
]
  where
    an_array : {es : List (Key × Scalar)} {A : Type 0} → ◌≡◌ {A = flow.Answer Key Scalar} (flow.Found v) (flow.Content es) → A
    an_array h = absurd (cc (h))

    nothing : {A : Type 0} → ◌≡◌ {A = flow.Answer Key Scalar} (flow.Found v) flow.Missing → A
    nothing h = absurd (cc (h))

-- a list of answers, by its first
pub same_first : {A : Type 0} (a b : A) (xs ys : List A) → a ≡ b → (xs ≡ ys) ↔ (a ∷ xs ≡ b ∷ ys)
same_first a b xs ys e = (λ h. ap (λ l. a ∷ l) h ∙ ap (λ x. x ∷ ys) e, λ h. cc (h))
