-- The turns of a chunk.
use Rattle.std.proofs.Common.{◌≡◌, ◌∙◌, refl, sym, ap, ℕ, zero, suc, ◌+◌, ◌-◌, ◌*◌, ◌<◌, min, true, false, nat_lt, List, [], ◌∷◌, take, drop, length, ℤ, pos, arith}
use Rattle.std.proofs.lemmas.List.{drop_min, length-drop, take_min}
use Rattle.task_code.specs.Compute.{pairs, range_turns}
use Rattle.task_code.specs.Effects.{chunk, is_some_list, left_at}
use Rattle.values.specs.Ranges.{value_in}
use Rattle.values.specs.declared.key.Key.TheVariants.{Number as number_key}
use Rattle.values.specs.declared.map.Element.{Element}
use Rattle.values.specs.declared.value.Scalar.TheVariants.{Number}
use Rattle.values.specs.Limits.{chunk_size}

drop_none : {X : Type 0} (n : ℕ) → ◌≡◌ {A = List X} (drop n []) []
drop_none zero = refl
drop_none (suc n) = refl

drop_twice : {X : Type 0} (m n : ℕ) (xs : List X) → drop n (drop m xs) ≡ drop (m + n) xs
drop_twice zero n xs = ap (λ i. drop i xs) (same n)
  where
    same : (n : ℕ) → n ≡ 0 + n
    same n = omega arith
drop_twice (suc m) n [] = drop_none n ∙ sym (drop_none (suc m + n))
drop_twice (suc m) n (x ∷ xs) = drop_twice m n xs ∙ ap (λ i. drop i (x ∷ xs)) (later m n)
  where
    later : (m n : ℕ) → suc (m + n) ≡ suc m + n
    later m n = omega arith

-- what is left before a chunk
pub left_by : {X : Type 0} (c : ℕ) (xs : List X) → left_at c xs ≡ drop (c * chunk_size) xs
left_by zero xs = refl
left_by (suc c) xs = left_by c (drop chunk_size xs) ∙ drop_twice chunk_size (c * chunk_size) xs ∙ ap (λ n. drop n xs) (next c)
  where
    next : (c : ℕ) → chunk_size + c * chunk_size ≡ suc c * chunk_size
    next c = omega arith

-- turns of a range
drop_range : (low step : ℤ) (k n m : ℕ) → drop k (range_turns low step n m) ≡ range_turns low step (n + k) (m - k)
drop_range low step zero n m = ap (λ i. range_turns low step i m) (none n) ∙ ap (range_turns low step (n + 0)) (all m)
  where
    none : (n : ℕ) → n ≡ n + 0
    none n = omega arith

    all : (m : ℕ) → m ≡ m - 0
    all m = omega arith
drop_range low step (suc k) n zero = ap (range_turns low step (n + suc k)) (past k)
  where
    past : (k : ℕ) → 0 ≡ 0 - suc k
    past k = omega arith
drop_range low step (suc k) n (suc m) = drop_range low step k (suc n) m ∙ ap (λ i. range_turns low step i (m - k)) (later n k) ∙ ap (range_turns low step (n + suc k)) (less m k)
  where
    later : (n k : ℕ) → suc n + k ≡ n + suc k
    later n k = omega arith

    less : (m k : ℕ) → m - k ≡ suc m - suc k
    less m k = omega arith

take_range : (low step : ℤ) (k n m : ℕ) → take k (range_turns low step n m) ≡ range_turns low step n (min k m)
take_range low step zero n m = ap (range_turns low step n) (none m)
  where
    none : (m : ℕ) → 0 ≡ min 0 m
    none m = omega arith
take_range low step (suc k) n zero = ap (range_turns low step n) (none k)
  where
    none : (k : ℕ) → 0 ≡ min (suc k) 0
    none k = omega arith
take_range low step (suc k) n (suc m) = ap (λ ts. (number_key (pos n), Number (value_in low step n)) ∷ ts) (take_range low step k (suc n) m) ∙ ap (range_turns low step n) (both k m)
  where
    both : (k m : ℕ) → suc (min k m) ≡ min (suc k) (suc m)
    both k m = omega arith

pub range_length : (low step : ℤ) (n m : ℕ) → length (range_turns low step n m) ≡ m
range_length low step n zero = refl
range_length low step n (suc m) = ap suc (range_length low step (suc n) m)

-- no turn, whatever comes first
same_range : (low step : ℤ) (a b m n : ℕ) → m ≡ n → (0 < n → a ≡ b) → range_turns low step a m ≡ range_turns low step b n
same_range low step a b m zero e h = ap (range_turns low step a) e
same_range low step a b m (suc n) e h = ap (range_turns low step a) e ∙ ap (λ i. range_turns low step i (suc n)) (h (omega arith))

pub range_chunk : (low step : ℤ) (c count : ℕ) → range_turns low step (min (c * chunk_size) count) (min (min (c * chunk_size + chunk_size) count) count - min (c * chunk_size) count) ≡ chunk c (range_turns low step 0 count)
range_chunk low step c count =
    same_range low step (min (c * chunk_size) count) (0 + c * chunk_size) (min (min (c * chunk_size + chunk_size) count) count - min (c * chunk_size) count) (min chunk_size (count - c * chunk_size)) (here (c * chunk_size) count) (there (c * chunk_size) count)
    ∙ sym (take_range low step chunk_size (0 + c * chunk_size) (count - c * chunk_size))
    ∙ ap (take chunk_size) (sym (left_by c (range_turns low step 0 count) ∙ drop_range low step (c * chunk_size) 0 count))
  where
    here : (m n : ℕ) → min (min (m + chunk_size) n) n - min m n ≡ min chunk_size (n - m)
    here m n = omega arith

    there : (m n : ℕ) → 0 < min chunk_size (n - m) → min m n ≡ 0 + m
    there m n h = omega (arith, h)

-- whether there are turns in a chunk, and whether some are left behind it
some_left : {X : Type 0} (k : ℕ) (xs : List X) → is_some_list (drop k xs) ≡ nat_lt k (length xs)
some_left zero [] = refl
some_left zero (x ∷ xs) = some (length xs)
  where
    some : (n : ℕ) → true ≡ nat_lt 0 (suc n)
    some n = grind arith
some_left (suc k) [] = past k
  where
    past : (k : ℕ) → false ≡ nat_lt (suc k) 0
    past k = grind arith
some_left (suc k) (x ∷ xs) = some_left k xs ∙ next k (length xs)
  where
    next : (k n : ℕ) → nat_lt k n ≡ nat_lt (suc k) (suc n)
    next k n = grind arith

some_first : {X : Type 0} (xs : List X) → is_some_list (take chunk_size xs) ≡ is_some_list xs
some_first [] = refl
some_first (x ∷ xs) = refl

pub some_chunk : {X : Type 0} (c : ℕ) (xs : List X) → is_some_list (chunk c xs) ≡ nat_lt (c * chunk_size) (length xs)
some_chunk c xs = some_first (left_at c xs) ∙ ap is_some_list (left_by c xs) ∙ some_left (c * chunk_size) xs

pub some_behind : {X : Type 0} (c : ℕ) (xs : List X) → is_some_list (left_at (suc c) xs) ≡ nat_lt (c * chunk_size + chunk_size) (length xs)
some_behind c xs = ap is_some_list (left_by (suc c) xs) ∙ some_left (suc c * chunk_size) xs ∙ ap (λ n. nat_lt n (length xs)) (next c)
  where
    next : (c : ℕ) → suc c * chunk_size ≡ c * chunk_size + chunk_size
    next c = omega arith

-- elements of an array
drop_pairs : (n : ℕ) (es : List Element) → drop n (pairs es) ≡ pairs (drop n es)
drop_pairs zero es = refl
drop_pairs (suc n) [] = refl
drop_pairs (suc n) (e ∷ es) = drop_pairs n es

take_pairs : (n : ℕ) (es : List Element) → take n (pairs es) ≡ pairs (take n es)
take_pairs zero es = refl
take_pairs (suc n) [] = refl
take_pairs (suc n) (e ∷ es) = ap (λ l. (e.key, e.value) ∷ l) (take_pairs n es)

pub pairs_length : (es : List Element) → length (pairs es) ≡ length es
pairs_length [] = refl
pairs_length (e ∷ es) = ap suc (pairs_length es)

pub elements_chunk : (c : ℕ) (es : List Element) (first end : ℕ) → first ≡ min (c * chunk_size) (length es) → end ≡ min (c * chunk_size + chunk_size) (length es) → pairs (take (end - first) (drop first es)) ≡ chunk c (pairs es)
elements_chunk c es first end begins ends =
    ap (λ l. pairs (take (end - first) l)) (ap (λ n. drop n es) begins ∙ drop_min (c * chunk_size) es)
    ∙ ap (λ n. pairs (take n (drop (c * chunk_size) es))) (here (c * chunk_size) (length es) first end begins ends ∙ ap (min chunk_size) (sym (length-drop (c * chunk_size) es)))
    ∙ ap pairs (take_min chunk_size (drop (c * chunk_size) es))
    ∙ sym (take_pairs chunk_size (drop (c * chunk_size) es))
    ∙ ap (take chunk_size) (sym (drop_pairs (c * chunk_size) es) ∙ sym (left_by c (pairs es)))
  where
    here : (m n f e : ℕ) → f ≡ min m n → e ≡ min (m + chunk_size) n → e - f ≡ min chunk_size (n - m)
    here m n f e q r = omega (arith, q, r)
