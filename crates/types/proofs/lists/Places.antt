-- The first function of each name, by a map from names to places.
use Rattle.std.proofs.Common.{◌≡◌, ℕ, ◌+◌, ◌<◌, ◌≤◌, Bool, true, false, cond, List, [], ◌∷◌, map, drop, length, get_or, Some, None, option_map, slice_get, refl, sym, ap, ◌∙◌, subst, arith}
use Rattle.std.specs.Str.{bytes_eq}
use Rattle.std.specs.Map.{lookup}
use Rattle.std.proofs.lemmas.Option.{slice_get-map, slice_get_read, slice_get_past}
use Rattle.std.proofs.lemmas.Slice.Eq.{bytes_eq-Decides}
use Rattle.indexmap.specs.IndexMap.{insert_entry}
use Rattle.language.specs.Scopes.{Signature}
use Rattle.types.specs.Names.{Found, missing, found, find, find_from, place_of}
use Rattle.types.proofs.lists.ByText.{bytes_eq-sym}
use Rattle.types.proofs.lists.Rest.{rest_more}
use Rattle.types.proofs.settled.Settling.{find_there}

cond_same : {X : Type 0} (a b : Bool) (x y z : X) → b ≡ a → cond b x z ≡ cond a x (cond b y z)
cond_same true b x y z is = ap (λ c. cond c x z) is
cond_same false b x y z is = ap (λ c. cond c x z) is ∙ sym (ap (λ c. cond c y z) is)

cond_apart : {X : Type 0} (a b : Bool) (x y z : X) → (a ≡ true → b ≡ true → ⊥) → cond b y (cond a x z) ≡ cond a x (cond b y z)
cond_apart true true x y z apart = absurd (apart refl refl)
cond_apart true false x y z apart = refl
cond_apart false true x y z apart = refl
cond_apart false false x y z apart = refl

-- what is found behind a key that was inserted
pub lookup_inserted : {K V : Type 0} (text_of : K → List ℕ) (es : List (K × V)) (key : K) (v : V) (text : List ℕ)
    → lookup (λ k. bytes_eq text (text_of k)) (insert_entry (λ x y. bytes_eq (text_of x) (text_of y)) es key v)
    ≡ cond (bytes_eq text (text_of key)) (Some v) (lookup (λ k. bytes_eq text (text_of k)) es)
lookup_inserted text_of [] key v text = refl
lookup_inserted text_of (e ∷ es) key v text = by (bytes_eq (text_of key) (text_of e.0)) refl (lookup_inserted text_of es key v text)
  where
    by : (b : Bool) → bytes_eq (text_of key) (text_of e.0) ≡ b
        → lookup (λ k. bytes_eq text (text_of k)) (insert_entry (λ x y. bytes_eq (text_of x) (text_of y)) es key v) ≡ cond (bytes_eq text (text_of key)) (Some v) (lookup (λ k. bytes_eq text (text_of k)) es)
        → lookup (λ k. bytes_eq text (text_of k)) (insert_entry (λ x y. bytes_eq (text_of x) (text_of y)) (e ∷ es) key v) ≡ cond (bytes_eq text (text_of key)) (Some v) (lookup (λ k. bytes_eq text (text_of k)) (e ∷ es))
    by true is rest =
        let same = (bytes_eq-Decides (text_of key) (text_of e.0)).0 is in
        ap (λ b. lookup (λ k. bytes_eq text (text_of k)) (cond b ((e.0, v) ∷ es) (e ∷ insert_entry (λ x y. bytes_eq (text_of x) (text_of y)) es key v))) is
        ∙ cond_same (bytes_eq text (text_of key)) (bytes_eq text (text_of e.0)) (Some v) (Some e.1) (lookup (λ k. bytes_eq text (text_of k)) es) (ap (bytes_eq text) (sym same))
    by false is rest =
        ap (λ b. lookup (λ k. bytes_eq text (text_of k)) (cond b ((e.0, v) ∷ es) (e ∷ insert_entry (λ x y. bytes_eq (text_of x) (text_of y)) es key v))) is
        ∙ ap (cond (bytes_eq text (text_of e.0)) (Some e.1)) rest
        ∙ cond_apart (bytes_eq text (text_of key)) (bytes_eq text (text_of e.0)) (Some v) (Some e.1) (lookup (λ k. bytes_eq text (text_of k)) es)
        (λ one other. (
        let both : text_of key ≡ text_of e.0 = sym ((bytes_eq-Decides text (text_of key)).0 one) ∙ (bytes_eq-Decides text (text_of e.0)).0 other in
        let same : bytes_eq (text_of key) (text_of e.0) ≡ true = (bytes_eq-Decides (text_of key) (text_of e.0)).1 both in
        cc))

place_cond : (b : Bool) (n : ℕ) (f : Signature) (o : Found) → place_of (cond b (found n f) o) ≡ cond b (Some n) (place_of o)
place_cond true n f o = refl
place_cond false n f o = refl

-- the first place from one on is that one, or the first behind it
pub place_next : {X : Type 0} (h : X → Signature) (fs : List X) (n m : ℕ) (x : X) (text : List ℕ) → n < length fs → x ≡ get_or fs n x → m ≡ n + 1
    → place_of (find_from n (map h (drop n fs)) text) ≡ cond (bytes_eq text (h x).text) (Some n) (place_of (find_from m (map h (drop m fs)) text))
place_next h fs n m x text below is next =
    rest_more (λ ys. place_of (find_from n (map h ys) text)) fs n x below is
    ∙ place_cond (bytes_eq (h x).text text) n (h x) (find_from (n + 1) (map h (drop (n + 1) fs)) text)
    ∙ ap (λ b. cond b (Some n) (place_of (find_from (n + 1) (map h (drop (n + 1) fs)) text))) (bytes_eq-sym (h x).text text)
    ∙ ap (λ k. cond (bytes_eq text (h x).text) (Some n) (place_of (find_from k (map h (drop k fs)) text))) (sym next)

placed : (o : Found) (n : ℕ) → place_of o ≡ Some n → (f : Signature) × (o ≡ found n f)
placed missing n is = absurd (cc)
placed (found m f) n is = (f, (let same : m ≡ n = cc in ap (λ k. found k f) same))

-- the function at the first place
at_place : (fs : List Signature) (text : List ℕ) (n : ℕ) → place_of (find fs text) ≡ Some n → (f : Signature) × (find fs text ≡ found n f) × (slice_get fs n ≡ Some f)
at_place fs text n is =
    let it = placed (find fs text) n is in
    let there = find_there 0 fs text n it.0 it.1 in
    let place : there.0 ≡ n = omega (arith, there.1) in
    let P : ℕ → Type 0 = λ i. slice_get fs i ≡ Some it.0 in
    (it.0, it.1, subst P place there.2)

pub function_at : {X : Type 0} (h : X → Signature) (fs ys : List X) (text : List ℕ) (n : ℕ) (x : X) → place_of (find (map h fs) text) ≡ Some n → ys ≡ fs → n < length ys → x ≡ get_or ys n x
    → find (map h fs) text ≡ found n (h x)
function_at h fs ys text n x is same below read =
    let it = at_place (map h fs) text n is in
    let this : slice_get fs n ≡ Some x = ap (λ (zs : List _). slice_get zs n) (sym same) ∙ slice_get_read ys (length ys) n x refl below read in
    let equal : Some (h x) ≡ Some it.0 = sym (slice_get-map h fs n ∙ ap (option_map h) this) ∙ it.2 in
    let one : h x ≡ it.0 = cc in
    it.1 ∙ ap (found n) (sym one)

pub function_there : {X : Type 0} (h : X → Signature) (fs ys : List X) (text : List ℕ) (n : ℕ) → place_of (find (map h fs) text) ≡ Some n → ys ≡ fs → length ys ≤ n → ⊥
function_there h fs ys text n is same past =
    let it = at_place (map h fs) text n is in
    let none : slice_get fs n ≡ None = ap (λ (zs : List _). slice_get zs n) (sym same) ∙ slice_get_past ys n past in
    let equal : None ≡ Some it.0 = sym (slice_get-map h fs n ∙ ap (option_map h) none) ∙ it.2 in
    cc
