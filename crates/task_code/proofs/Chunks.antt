-- A loop's turns fall apart into chunks.
use Rattle.std.proofs.Common.{◌≡◌, inl, inr, ℕ, zero, suc, ◌≤◌, Bool, true, false, List, [], ◌∷◌, map, refl, sym, ap, ◌∙◌, subst, Option, None, Some, arith}
use Rattle.std.specs.Prelude.{ℤ, pos, Result, Ok, Err, length, if◌then◌else◌}
use Rattle.std.specs.Prelude.{drop, take}
use Rattle.dataflow.specs.System.{Answer, Content, Distinct, Found, In, Missing}
use Rattle.task_code.proofs.Equal.{keys, rising_distinct}
use Rattle.task_code.specs.Code.{Act, Assert, Call, Cell, Copy, Each, Fill, If, Print, InsertElement, Range, Read, Set, Wait}
use Rattle.task_code.specs.Compute.{Computed, Elements, Inserts, answer_at, branched, compute, content, elements, eval, evals, filled, given, in_key_order, pairs, insert_element, range_turns, ranged, read, turns_or}
use Rattle.task_code.specs.Effects.{chunk, left_at, turns_of}
use Rattle.values.specs.Maps.{rising}
use Rattle.values.specs.Numbers.{fits}
use Rattle.values.specs.Operators.{all_values, literal, numbered, on_all}
use Rattle.values.specs.Ranges.{range_count}
use Rattle.values.specs.Values.{number_of}
use Rattle.values.specs.declared.fault.OpFault.{OpFault}
use Rattle.values.specs.declared.fault.OpFault.TheVariants.{Overflow}
use Rattle.values.specs.declared.key.Key.{Key}
use Rattle.values.specs.declared.key.Key.TheVariants.{Number as number_key}
use Rattle.values.specs.declared.map.Element.{Element}
use Rattle.values.specs.declared.value.Scalar.{Scalar}
use Rattle.values.specs.declared.value.Value.{Value}
use Rattle.values.specs.declared.value.Value.TheVariants.{Many}
use Rattle.values.proofs.Literals.{rising_numbered}
use Rattle.values.specs.Limits.{chunk_size}

elements_pairs : (es : List Element) → elements (pairs es) ≡ es
elements_pairs [] = refl
elements_pairs (e ∷ es) = ap (λ (l : List Element). e ∷ l) (elements_pairs es)

pub in_taken : {X : Type 0} (n : ℕ) (xs : List X) (x : X) → In x (take n xs) → In x xs
in_taken zero xs x h = absurd h
in_taken (suc n) [] x h = absurd h
in_taken (suc n) (y ∷ xs) x h = elim h [ inl p ↦ inl p | inr i ↦ inr (in_taken n xs x i) ]

in_dropped : {X : Type 0} (n : ℕ) (xs : List X) (x : X) → In x (drop n xs) → In x xs
in_dropped zero xs x h = h
in_dropped (suc n) [] x h = absurd h
in_dropped (suc n) (y ∷ xs) x h = inr (in_dropped n xs x h)

in_left_at : {X : Type 0} (c : ℕ) (xs : List X) (x : X) → In x (left_at c xs) → In x xs
in_left_at zero xs x h = h
in_left_at (suc c) xs x h = in_dropped chunk_size xs x (in_left_at c (drop chunk_size xs) x h)

pub in_chunk : {X : Type 0} (c : ℕ) (xs : List X) (x : X) → In x (chunk c xs) → In x xs
in_chunk c xs x h = in_left_at c xs x (in_taken chunk_size (left_at c xs) x h)

distinct_taken : {X : Type 0} (n : ℕ) (xs : List X) → Distinct xs → Distinct (take n xs)
distinct_taken zero xs d = tt
distinct_taken (suc n) [] d = tt
distinct_taken (suc n) (y ∷ xs) d = (λ i. d.0 (in_taken n xs y i), distinct_taken n xs d.1)

distinct_dropped : {X : Type 0} (n : ℕ) (xs : List X) → Distinct xs → Distinct (drop n xs)
distinct_dropped zero xs d = d
distinct_dropped (suc n) [] d = tt
distinct_dropped (suc n) (y ∷ xs) d = distinct_dropped n xs d.1

distinct_left : {X : Type 0} (c : ℕ) (xs : List X) → Distinct xs → Distinct (left_at c xs)
distinct_left zero xs d = d
distinct_left (suc c) xs d = distinct_left c (drop chunk_size xs) (distinct_dropped chunk_size xs d)

pub distinct_chunk : {X : Type 0} (c : ℕ) (xs : List X) → Distinct xs → Distinct (chunk c xs)
distinct_chunk c xs d = distinct_taken chunk_size (left_at c xs) (distinct_left c xs d)

cut : {X : Type 0} (n : ℕ) (xs : List X) → Distinct xs → (x : X) → In x (take n xs) → In x (drop n xs) → ⊥
cut zero xs d x i j = i
cut (suc n) [] d x i j = i
cut {X} (suc n) (y ∷ xs) d x i j =
    elim i [ inl p ↦ d.0 (subst (λ (z : X). In z xs) p (in_dropped n xs x j)) | inr i' ↦ cut n xs d.1 x i' j ]

pub chunk_once : {X : Type 0} (xs : List X) (c d : ℕ) (x : X) → Distinct xs → In x (chunk c xs) → In x (chunk d xs) → c ≡ d
chunk_once xs zero zero x ds i j = refl
chunk_once xs zero (suc d) x ds i j = absurd (cut chunk_size xs ds x i (in_chunk d (drop chunk_size xs) x j))
chunk_once xs (suc c) zero x ds i j = absurd (cut chunk_size xs ds x j (in_chunk c (drop chunk_size xs) x i))
chunk_once xs (suc c) (suc d) x ds i j = ap suc (chunk_once (drop chunk_size xs) c d x (distinct_dropped chunk_size xs ds) i j)

map_taken : {X Y : Type 0} (f : X → Y) (n : ℕ) (xs : List X) → map f (take n xs) ≡ take n (map f xs)
map_taken f zero xs = refl
map_taken f (suc n) [] = refl
map_taken f (suc n) (x ∷ xs) = ap (λ l. f x ∷ l) (map_taken f n xs)

map_dropped : {X Y : Type 0} (f : X → Y) (n : ℕ) (xs : List X) → map f (drop n xs) ≡ drop n (map f xs)
map_dropped f zero xs = refl
map_dropped f (suc n) [] = refl
map_dropped f (suc n) (x ∷ xs) = map_dropped f n xs

map_left : {X Y : Type 0} (f : X → Y) (c : ℕ) (xs : List X) → map f (left_at c xs) ≡ left_at c (map f xs)
map_left f zero xs = refl
map_left f (suc c) xs = map_left f c (drop chunk_size xs) ∙ ap (left_at c) (map_dropped f chunk_size xs)

pub map_chunk : {X Y : Type 0} (f : X → Y) (c : ℕ) (xs : List X) → map f (chunk c xs) ≡ chunk c (map f xs)
map_chunk f c xs = map_taken f chunk_size (left_at c xs) ∙ ap (take chunk_size) (map_left f c xs)

-- the turns of a loop, and the elements of an array, have different keys
whole_same : {a b : ℕ} → number_key (pos a) ≡ number_key (pos b) → a ≡ b
whole_same h = cc

from_turns : (low step : ℤ) (n c : ℕ) (k : Key) → In k (keys (range_turns low step n c)) → (m : ℕ) × (k ≡ number_key (pos m)) × (n ≤ m)
from_turns low step n zero k h = absurd h
from_turns low step n (suc c) k h =
    elim h [
      | inl p ↦ (n, p, omega arith)
      | inr i ↦ (let r = from_turns low step (suc n) c k i in (r.0, r.1, (let l = r.2 in omega arith)))
    ]

distinct_turns : (low step : ℤ) (n c : ℕ) → Distinct (keys (range_turns low step n c))
distinct_turns low step n zero = tt
distinct_turns low step n (suc c) =
    (λ i. (let r = from_turns low step (suc n) c (number_key (pos n)) i in let e = whole_same r.1 in let l = r.2 in absurd (omega arith)), distinct_turns low step (suc n) c)

-- the elements of a literal have different keys
distinct_pairs : (es : List Element) → rising es ≡ true → Distinct (keys (pairs es))
distinct_pairs es h = rising_distinct (pairs es) (subst (λ (l : List Element). rising l ≡ true) (sym (elements_pairs es)) h)

abbrev pub inserted_of : Computed → Elements
inserted_of (Inserts xs) = xs
inserted_of _ = []

-- both at once
abbrev pub Apart : Computed → Type 0
Apart x = Distinct (keys (turns_of x)) × Distinct (keys (inserted_of x))

given_apart : (r : Result Value OpFault) → Apart (given r)
given_apart (Ok v) = (tt, tt)
given_apart (Err f) = (tt, tt)

read_apart : (o : Option (Answer Key Scalar)) → Apart (read o)
read_apart None = (tt, tt)
read_apart (Some (Found v)) = (tt, tt)
read_apart (Some Missing) = (tt, tt)
read_apart (Some (Content xs)) = (tt, tt)

some_literal : (b : Bool) (vs : List Value) → Apart (filled (if b then Ok (Many (numbered 0 vs)) else Err Overflow))
some_literal true vs = (tt, distinct_pairs (numbered 0 vs) (rising_numbered 0 vs))
some_literal false vs = (tt, tt)

literal_apart : (r : Result (List Value) OpFault) → Apart (filled (on_all literal r))
literal_apart (Ok vs) = some_literal (fits (pos (length vs))) vs
literal_apart (Err f) = (tt, tt)

listed_apart : (xs : Elements) (b : Bool) → in_key_order xs ≡ b → Distinct (keys (if b then xs else []))
listed_apart xs true h = rising_distinct xs h
listed_apart xs false h = tt

content_apart : (o : Option (Answer Key Scalar)) → Distinct (keys (content o))
content_apart None = tt
content_apart (Some (Found v)) = tt
content_apart (Some Missing) = tt
content_apart (Some (Content xs)) = listed_apart xs (in_key_order xs) refl

put_apart : (i v : Result Value OpFault) → Apart (insert_element i v)
put_apart (Err f) v = (tt, tt)
put_apart (Ok i) (Err f) = (tt, tt)
put_apart (Ok i) (Ok v) = (tt, ((λ h. h), tt))

branched_apart : (r : Result Value OpFault) → Apart (branched r)
branched_apart (Ok v) = (tt, tt)
branched_apart (Err f) = (tt, tt)

turns_apart : (r : Result ℕ OpFault) (low step : ℤ) → Apart (turns_or r low step)
turns_apart (Ok n) low step = (distinct_turns low step 0 n, tt)
turns_apart (Err f) low step = (tt, tt)

ranged_apart : (l h s : Result Value OpFault) → Apart (ranged l h s)
ranged_apart (Err f) h s = (tt, tt)
ranged_apart (Ok l) (Err f) s = (tt, tt)
ranged_apart (Ok l) (Ok h) (Err f) = (tt, tt)
ranged_apart (Ok l) (Ok h) (Ok s) = turns_apart (range_count (number_of l) (number_of h) (number_of s)) (number_of l) (number_of s)

pub computed_apart : (a : Act) (xs : List (Answer Key Scalar)) → Apart (compute a xs)
computed_apart (Cell e) xs = given_apart (eval xs e)
computed_apart Read xs = read_apart (answer_at xs 0)
computed_apart (Call b rs os) xs = (tt, tt)
computed_apart (Set r e) xs = given_apart (eval xs e)
computed_apart (Fill r es) xs = literal_apart (all_values (evals xs es))
computed_apart (Copy r) xs = (tt, content_apart (answer_at xs 0))
computed_apart (InsertElement r i e) xs = put_apart (eval xs i) (eval xs e)
computed_apart (Print e) xs = given_apart (eval xs e)
computed_apart (Assert e) xs = given_apart (eval xs e)
computed_apart (If e b d) xs = branched_apart (eval xs e)
computed_apart (Range l h s w) xs = ranged_apart (eval xs l) (eval xs h) (eval xs s)
computed_apart (Each w) xs = (content_apart (answer_at xs 0), tt)
computed_apart (Wait hs b) xs = (tt, tt)
