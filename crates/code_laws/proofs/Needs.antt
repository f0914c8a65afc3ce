-- What an expression needs: scalars and whole arrays, each once, and all that it uses.
use Rattle.std.proofs.Common.{◌≡◌, ◌⊎◌, inl, inr, ℕ, suc, ◌<◌, Bool, true, false, List, [], ◌∷◌, length, refl, sym, ap, ◌∙◌, subst, arith}
use Rattle.std.specs.Prelude.{not, ◌||◌, nat_lt, if◌then◌else◌, map}
use Rattle.std.specs.List.{list_all, list_any, flat_map}
use Rattle.std.proofs.lemmas.Bool.{and_from}
use Rattle.dataflow.specs.System.{In}
use Rattle.dataflow.proofs.Lists.{in_left, in_right, in_split}
use Rattle.language.specs.Core.{Owned, local, input, output, Name, Expr, Exprs, literal, name, whole, operator, none, also, Awaited, scalar, array, Stmt, Block}
use Rattle.task_code.specs.Code.{Need, Stored, Closed, At, AtKey, Header, is_array_name, is_array_owned}
use Rattle.task_code.specs.Shape.{fits_kinds, is_plain, is_same_plain, is_fed, are_fed}
use Rattle.task_code.proofs.Equal.{name_sound, name_same, in_every}
use Rattle.code_rules.specs.CodeNames.{owned_as, name_as, wanted, wanted_all, without, each_once, place_in, over, all_over, awaited_need, header}
use Rattle.code_rules.specs.Laying.{Headers, one_header, more_headers}

-- KINDS OF NAMES

flag_owned : (k : ℕ) (b : Bool) (x : Owned) → is_array_owned (owned_as k b x) ≡ b
flag_owned k b (local n) = refl
flag_owned k b (input i) = refl
flag_owned k b (output j) = refl

pub flag_of : (k : ℕ) (b : Bool) (x : Name) → is_array_name (name_as k b x) ≡ b
flag_of k b x = flag_owned k b x.what

pub no_array : (k : ℕ) (x : Name) → not (is_array_name (name_as k false x)) ≡ true
no_array k x = ap not (flag_of k false x)

-- EACH NEED ONCE

pub plain_sound : (n m : Need) → is_same_plain n m ≡ true → n ≡ m
plain_sound (Stored r) (Stored s) h = ap Stored (name_sound r s h)
plain_sound (Closed r) (Closed s) h = ap Closed (name_sound r s h)
plain_sound _ _ h = absurd (cc)

pub plain_same : (n : Need) → is_plain n ≡ true → is_same_plain n n ≡ true
plain_same (Stored r) h = name_same r
plain_same (Closed r) h = name_same r
plain_same (At a r) h = absurd (cc (h))
plain_same (AtKey a k) h = absurd (cc (h))

in_without : (n m : Need) (xs : List Need) → In m xs → (m ≡ n) ⊎ In m (without n xs)
in_without n m [] h = absurd h
in_without n m (x ∷ xs) h = by (is_same_plain n x) refl h (λ i. in_without n m xs i)
  where
    by : (b : Bool) → is_same_plain n x ≡ b → In m (x ∷ xs) → (In m xs → (m ≡ n) ⊎ In m (without n xs)) → (m ≡ n) ⊎ In m (if b then without n xs else x ∷ without n xs)
    by true e (inl q) rec = inl (q ∙ sym (plain_sound n x e))
    by true e (inr i) rec = rec i
    by false e (inl q) rec = inr (inl q)
    by false e (inr i) rec = elim (rec i) [ inl q ↦ inl q | inr k ↦ inr (inr k) ]

of_without : (n m : Need) (xs : List Need) → In m (without n xs) → In m xs
of_without n m [] h = h
of_without n m (x ∷ xs) h = by (is_same_plain n x) h (λ i. of_without n m xs i)
  where
    by : (b : Bool) → In m (if b then without n xs else x ∷ without n xs) → (In m (without n xs) → In m xs) → In m (x ∷ xs)
    by true i rec = inr (rec i)
    by false (inl q) rec = inl q
    by false (inr i) rec = inr (rec i)

pub in_once : (m : Need) (xs : List Need) → In m xs → In m (each_once xs)
in_once m [] h = h
in_once m (x ∷ xs) (inl e) = inl e
in_once m (x ∷ xs) (inr i) = elim (in_without x m (each_once xs) (in_once m xs i)) [ inl e ↦ inl e | inr k ↦ inr k ]

pub of_once : (m : Need) (xs : List Need) → In m (each_once xs) → In m xs
of_once m [] h = h
of_once m (x ∷ xs) (inl e) = inl e
of_once m (x ∷ xs) (inr i) = inr (of_once m xs (of_without x m (each_once xs) i))

-- WHAT IS WANTED

-- a scalar that is named as one, or an array
abbrev pub IsFine : Need → Type 0
IsFine n = (fits_kinds n ≡ true) × (is_plain n ≡ true)

abbrev pub AllFine : List Need → Type 0
AllFine ns = (n : Need) → In n ns → IsFine n

one_fine : (n m : Need) → IsFine m → In n (m ∷ []) → IsFine n
one_fine n m f (inl e) = subst IsFine (sym e) f
one_fine n m f (inr z) = absurd z

mutual
  pub wanted_fine : (k : ℕ) (e : Expr) → AllFine (wanted k e)
  wanted_fine k (literal v) n h = absurd h
  wanted_fine k (name x) n h = one_fine n (Stored (name_as k false x)) (no_array k x, refl) h
  wanted_fine k (whole a) n h = one_fine n (Closed (name_as k true a)) (flag_of k true a, refl) h
  wanted_fine k (operator o es) n h = all_fine k es n h

  all_fine : (k : ℕ) (es : Exprs) → AllFine (wanted_all k es)
  all_fine k none n h = absurd h
  all_fine k (also e es) n h = elim (in_split n (wanted k e) (wanted_all k es) h) [ inl i ↦ wanted_fine k e n i | inr i ↦ all_fine k es n i ]

pub flat_fine : (k : ℕ) (es : List Expr) → AllFine (flat_map (wanted k) es)
flat_fine k [] n h = absurd h
flat_fine k (e ∷ es) n h = elim (in_split n (wanted k e) (flat_map (wanted k) es) h) [ inl i ↦ wanted_fine k e n i | inr i ↦ flat_fine k es n i ]

pub once_fine : (ns : List Need) → AllFine ns → AllFine (each_once ns)
once_fine ns f n h = f n (of_once n ns h)

pub fine_kinds : (ns : List Need) → AllFine ns → list_all fits_kinds ns ≡ true
fine_kinds ns f = in_every fits_kinds ns (λ n h. (f n h).0)

pub fine_plain : (ns : List Need) → AllFine ns → list_all is_plain ns ≡ true
fine_plain ns f = in_every is_plain ns (λ n h. (f n h).1)

-- WHAT IS FED

below : (j n : ℕ) → j < n → nat_lt j n ≡ true
below j n h = grind (arith, h)

in_place : (n : Need) (ns : List Need) → is_plain n ≡ true → In n ns → place_in n ns < length ns
in_place n [] p h = absurd h
in_place n (m ∷ ms) p h = by (is_same_plain n m) refl h (λ i. in_place n ms p i)
  where
    by : (b : Bool) → is_same_plain n m ≡ b → In n (m ∷ ms) → (In n ms → place_in n ms < length ms) → (if b then 0 else suc (place_in n ms)) < suc (length ms)
    by true e h rec = omega arith
    by false e (inl q) rec = absurd (let t : is_same_plain n m ≡ true = subst (λ (z : Need). is_same_plain n z ≡ true) q (plain_same n p) in cc (e, t))
    by false e (inr i) rec = let r = rec i in omega arith

mutual
  pub is_fed_over : (k : ℕ) (ns : List Need) (e : Expr) → ((n : Need) → In n (wanted k e) → In n ns) → is_fed (length ns) (over k ns e) ≡ true
  is_fed_over k ns (literal v) h = refl
  is_fed_over k ns (name x) h = below _ _ (in_place (Stored (name_as k false x)) ns refl (h _ (inl refl)))
  is_fed_over k ns (whole a) h = below _ _ (in_place (Closed (name_as k true a)) ns refl (h _ (inl refl)))
  is_fed_over k ns (operator o es) h = all_fed_over k ns es h

  pub all_fed_over : (k : ℕ) (ns : List Need) (es : Exprs) → ((n : Need) → In n (wanted_all k es) → In n ns) → are_fed (length ns) (all_over k ns es) ≡ true
  all_fed_over k ns none h = refl
  all_fed_over k ns (also e es) h =
      and_from (is_fed (length ns) (over k ns e)) (are_fed (length ns) (all_over k ns es)) (is_fed_over k ns e (λ n i. h n (in_left n (wanted k e) (wanted_all k es) i))) (all_fed_over k ns es (λ n i. h n (in_right n (wanted k e) (wanted_all k es) i)))

-- HEADERS

awaited_fine : (k : ℕ) (x : Awaited) → IsFine (awaited_need k x)
awaited_fine k (scalar x) = (no_array k x, refl)
awaited_fine k (array x) = (flag_of k true x, refl)

awaited_all : (k : ℕ) (xs : List Awaited) → AllFine (map (awaited_need k) xs)
awaited_all k [] n h = absurd h
awaited_all k (x ∷ xs) n (inl e) = subst IsFine (sym e) (awaited_fine k x)
awaited_all k (x ∷ xs) n (inr i) = awaited_all k xs n i

abbrev pub HeadersFine : List Header → Type 0
HeadersFine hs = (h : Header) → In h hs → AllFine h.needs

header_more : (k at : ℕ) (ns : List Awaited) (gs hs : List Header) → HeadersFine gs → hs ≡ header k at ns ∷ gs → HeadersFine hs
header_more k at ns gs hs f e h i = by (subst (λ (z : List Header). In h z) e i)
  where
    by : In h (header k at ns ∷ gs) → AllFine h.needs
    by (inl q) = subst (λ (z : Header). AllFine z.needs) (sym q) (awaited_all k ns)
    by (inr j) = f h j

pub headers_fine : {k : ℕ} {st : Stmt} {hs : List Header} {b : Block} → Headers k st hs b → HeadersFine hs
headers_fine {k} (one_header {at = at} {ns = ns} {hs = hs} lone e) = header_more k at ns [] hs (λ h i. absurd i) e
headers_fine {k} (more_headers {at = at} {ns = ns} {gs = gs} {hs = hs} h e) = header_more k at ns gs hs (headers_fine h) e

pub headers_flat : (hs : List Header) → HeadersFine hs → AllFine (flat_map (λ h. h.needs) hs)
headers_flat [] f n i = absurd i
headers_flat (h ∷ hs) f n i = elim (in_split n h.needs (flat_map (λ h. h.needs) hs) i) [ inl j ↦ f h (inl refl) n j | inr j ↦ headers_flat hs (λ g m. f g (inr m)) n j ]

pub in_flat : (hs : List Header) (h : Header) (n : Need) → In h hs → In n h.needs → In n (flat_map (λ h. h.needs) hs)
in_flat [] h n i j = absurd i
in_flat (g ∷ gs) h n (inl e) j = in_left n g.needs (flat_map (λ h. h.needs) gs) (subst (λ (z : Header). In n z.needs) e j)
in_flat (g ∷ gs) h n (inr i) j = in_right n g.needs (flat_map (λ h. h.needs) gs) (in_flat gs h n i j)

pub of_flat : (hs : List Header) (n : Need) → In n (flat_map (λ h. h.needs) hs) → (h : Header) × In h hs × In n h.needs
of_flat [] n i = absurd i
of_flat (g ∷ gs) n i = elim (in_split n g.needs (flat_map (λ h. h.needs) gs) i) [
  | inl j ↦ (g, inl refl, j)
  | inr j ↦ (let r = of_flat gs n j in (r.0, inr r.1, r.2))
]

pub any_in : {X : Type 0} (p : X → Bool) (x : X) (xs : List X) → In x xs → p x ≡ true → list_any p xs ≡ true
any_in p x [] i h = absurd i
any_in {X} p x (y ∷ ys) (inl e) h = subst (λ (z : Bool). (z || list_any p ys) ≡ true) (sym (subst (λ (w : X). p w ≡ true) e h)) refl
any_in p x (y ∷ ys) (inr i) h = by (p y) (any_in p x ys i h)
  where
    by : (b : Bool) → list_any p ys ≡ true → (b || list_any p ys) ≡ true
    by true h = refl
    by false h = h
