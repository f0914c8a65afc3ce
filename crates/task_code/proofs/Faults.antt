-- No entry has the fault that memory was refused: what it computes asks for none.
use Rattle.std.proofs.Common.{◌≡◌, ℕ, Bool, true, false, List, [], ◌∷◌, subst, Option, None, Some}
use Rattle.std.specs.Prelude.{ℤ, pos, neg_ℤ, Result, Ok, Err, length, if◌then◌else◌, nat_eq, nat_le, int_lt, int_div, int_rem, ◌+ℤ◌, ◌-ℤ◌, ◌*ℤ◌}
use Rattle.dataflow.specs.System.{Answer, Found, Missing, Content, Effect, Outcome, Bad}
use Rattle.dataflow.specs.Log.{Ready}
use Rattle.dataflow.specs.Machine.{Fault, OfTask}
use Rattle.dataflow.proofs.Follows.{FaultIs, Follows}
use Rattle.values.specs.declared.fault.OpFault.{OpFault}
use Rattle.values.specs.declared.fault.OpFault.TheVariants.{AssertFailed, BadStep, DivideByZero, Memory, NotANumber, Overflow}
use Rattle.values.specs.declared.key.Key.{Key}
use Rattle.values.specs.declared.op.Factor.{Factor}
use Rattle.values.specs.declared.op.Factor.TheVariants.{Times, Divide, Remainder}
use Rattle.values.specs.declared.op.Sign.{Sign}
use Rattle.values.specs.declared.op.Sign.TheVariants.{Plus, Minus}
use Rattle.values.specs.declared.value.Scalar.{Scalar}
use Rattle.values.specs.declared.value.Value.{Value}
use Rattle.values.specs.declared.value.Value.TheVariants.{Many}
use Rattle.values.specs.Numbers.{fits, in_range, is_zero, number_in, number_or_not, signed, spelled}
use Rattle.values.specs.Operators.{Operation, sum_of, product_of, compare, equal, unequal, all_true, any_true, not_true, negate, join, from_int, to_int, size, printf, assert, literal, added, all_values, applied, chain, chained, evaluated, from_there, joined, numbered, on_all, scaled, spelling, whole, with_value, yes_or_no}
use Rattle.values.specs.Ranges.{range_count, values_in}
use Rattle.values.specs.Values.{first, is_text, number_of, size_of, text_of, truth_of}
use Rattle.task_code.specs.Code.{Act, Cell, Read, Call, Set, Fill, Copy, InsertElement, Print, Assert, If, Range, Each, Wait, Code, Expr, constant, need, operation, Exprs, no_operand, operand, entry}
use Rattle.task_code.specs.Compute.{EntryFault, InOperation, TooDeep, Computed, Fails, Gives, Inserts, Takes, Turns, Opens, answer_at, branched, compute, eval, evals, filled, given, insert_element, ranged, read, turns_or}
use Rattle.task_code.specs.Effects.{Task, Main, Item, effect_at, instances, is_too_deep, limited, outcome_of}
use Rattle.task_code.specs.Places.{Place}
use Rattle.task_code.specs.System.{answered, code_system, task_effect}
use Rattle.task_code.specs.Machine.{CodeState}
use Rattle.values.specs.Limits.{max_range}

-- the result is no refusal of memory
abbrev IsFree : {A : Type 0} → Result A OpFault → Type 0
IsFree (Ok v) = Unit {0}
IsFree (Err f) = f ≡ Memory → ⊥

range_free : (b : Bool) (z : ℤ) → IsFree (if b then Ok z else Err Overflow)
range_free true z = tt
range_free false z = λ h. absurd (cc)

in_range_free : (z : ℤ) → IsFree (in_range z)
in_range_free z = range_free (fits z) z

quotient_free : (b : Bool) (x y : ℤ) → IsFree (if b then Err DivideByZero else in_range (int_div x y))
quotient_free true x y = λ h. absurd (cc)
quotient_free false x y = in_range_free (int_div x y)

remainder_free : (b : Bool) (x y : ℤ) → IsFree (if b then Err DivideByZero else Ok (int_rem x y))
remainder_free true x y = λ h. absurd (cc)
remainder_free false x y = tt

added_free : (o : Sign) (x y : ℤ) → IsFree (added o x y)
added_free Plus x y = in_range_free (x +ℤ y)
added_free Minus x y = in_range_free (x -ℤ y)

scaled_free : (o : Factor) (x y : ℤ) → IsFree (scaled o x y)
scaled_free Times x y = in_range_free (x *ℤ y)
scaled_free Divide x y = quotient_free (is_zero y) x y
scaled_free Remainder x y = remainder_free (is_zero y) x y

there_free : (f : ℤ → Result ℤ OpFault) → ((z : ℤ) → IsFree (f z)) → (r : Result ℤ OpFault) → IsFree r → IsFree (from_there f r)
there_free f h (Ok z) g = h z
there_free f h (Err e) g = g

chained_free : {O : Type 0} (step : O → ℤ → ℤ → Result ℤ OpFault) → ((o : O) (x y : ℤ) → IsFree (step o x y)) → (x : ℤ) (os : List O) (vs : List Value) → IsFree (chained step x os vs)
chained_free step h x [] vs = tt
chained_free step h x (o ∷ os) [] = tt
chained_free step h x (o ∷ os) (v ∷ vs) = there_free (λ z. chained step z os vs) (λ z. chained_free step h z os vs) (step o x (number_of v)) (h o x (number_of v))

chain_free : {O : Type 0} (step : O → ℤ → ℤ → Result ℤ OpFault) → ((o : O) (x y : ℤ) → IsFree (step o x y)) → (os : List O) (vs : List Value) → IsFree (chain step os vs)
chain_free step h os [] = tt
chain_free step h os (v ∷ vs) = chained_free step h (number_of v) os vs

whole_free : (r : Result ℤ OpFault) → IsFree r → IsFree (whole r)
whole_free (Ok z) h = tt
whole_free (Err f) h = h

number_free : (o : Option ℤ) → IsFree (number_or_not o)
number_free None = λ h. absurd (cc)
number_free (Some z) = by (fits z)
  where
    by : (b : Bool) → IsFree (if b then Ok z else Err NotANumber)
    by true = tt
    by false = λ h. absurd (cc)

number_in_free : (cs : List ℕ) → IsFree (number_in cs)
number_in_free [] = λ h. absurd (cc)
number_in_free (c ∷ cs) = number_free (if nat_eq c 45 then signed true (spelled cs) else signed false (spelled (c ∷ cs)))

sum_free : (b : Bool) (signs : List Sign) (vs : List Value) → IsFree (if b then spelling (joined vs) else whole (chain added signs vs))
sum_free true signs vs = tt
sum_free false signs vs = whole_free (chain added signs vs) (chain_free added added_free signs vs)

assert_free : (b : Bool) → IsFree (if b then yes_or_no true else Err AssertFailed)
assert_free true = tt
assert_free false = λ h. absurd (cc)

literal_free : (b : Bool) (vs : List Value) → IsFree (if b then Ok (Many (numbered 0 vs)) else Err Overflow)
literal_free true vs = tt
literal_free false vs = λ h. absurd (cc)

-- no operation asks for memory
applied_free : (o : Operation) (vs : List Value) → IsFree (applied o vs)
applied_free (sum_of signs) vs = sum_free (is_text (first vs)) signs vs
applied_free (product_of factors) vs = whole_free (chain scaled factors vs) (chain_free scaled scaled_free factors vs)
applied_free (compare order) vs = tt
applied_free equal vs = tt
applied_free unequal vs = tt
applied_free all_true vs = tt
applied_free any_true vs = tt
applied_free not_true vs = tt
applied_free negate vs = whole_free _ (in_range_free (neg_ℤ (number_of (first vs))))
applied_free join vs = tt
applied_free from_int vs = tt
applied_free to_int vs = whole_free _ (number_in_free (text_of (first vs)))
applied_free size vs = whole_free _ (in_range_free (pos (size_of (first vs))))
applied_free (printf pieces) vs = tt
applied_free assert vs = assert_free (truth_of (first vs))
applied_free literal vs = literal_free (fits (pos (length vs))) vs

abbrev AreFree : List (Result Value OpFault) → Type 0
AreFree [] = Unit {0}
AreFree (r ∷ rs) = IsFree r × AreFree rs

with_free : (v : Value) (r : Result (List Value) OpFault) → IsFree r → IsFree (with_value v r)
with_free v (Ok vs) h = tt
with_free v (Err f) h = h

all_free : (rs : List (Result Value OpFault)) → AreFree rs → IsFree (all_values rs)
all_free [] h = tt
all_free (Err f ∷ rs) h = h.0
all_free (Ok v ∷ rs) h = with_free v (all_values rs) (all_free rs h.1)

on_free : (o : Operation) (r : Result (List Value) OpFault) → IsFree r → IsFree (on_all o r)
on_free o (Ok vs) h = applied_free o vs
on_free o (Err f) h = h

mutual
  eval_free : (xs : List (Answer Key Scalar)) (e : Expr) → IsFree (eval xs e)
  eval_free xs (constant v) = tt
  eval_free xs (need n) = tt
  eval_free xs (operation o es) = on_free o (all_values (evals xs es)) (all_free (evals xs es) (evals_free xs es))

  evals_free : (xs : List (Answer Key Scalar)) (es : Exprs) → AreFree (evals xs es)
  evals_free xs no_operand = tt
  evals_free xs (operand e es) = (eval_free xs e, evals_free xs es)

-- nor has any entry such a fault
abbrev IsFreeOf : Computed → Type 0
IsFreeOf (Fails f) = f ≡ InOperation Memory → ⊥
IsFreeOf (Gives v) = Unit {0}
IsFreeOf (Inserts xs) = Unit {0}
IsFreeOf (Takes b) = Unit {0}
IsFreeOf (Turns ts) = Unit {0}
IsFreeOf Opens = Unit {0}

in_operation : {f : OpFault} → (f ≡ Memory → ⊥) → InOperation f ≡ InOperation Memory → ⊥
in_operation h e = h (cc (e))

given_free : (r : Result Value OpFault) → IsFree r → IsFreeOf (given r)
given_free (Ok v) h = tt
given_free (Err f) h = in_operation h

filled_free : (r : Result Value OpFault) → IsFree r → IsFreeOf (filled r)
filled_free (Ok v) h = tt
filled_free (Err f) h = in_operation h

branched_free : (r : Result Value OpFault) → IsFree r → IsFreeOf (branched r)
branched_free (Ok v) h = tt
branched_free (Err f) h = in_operation h

put_free : (r s : Result Value OpFault) → IsFree r → IsFree s → IsFreeOf (insert_element r s)
put_free (Err f) s h k = in_operation h
put_free (Ok i) (Err f) h k = in_operation k
put_free (Ok i) (Ok v) h k = tt

read_free : (o : Option (Answer Key Scalar)) → IsFreeOf (read o)
read_free None = tt
read_free (Some (Found v)) = tt
read_free (Some Missing) = λ h. absurd (cc)
read_free (Some (Content xs)) = tt

most_free : (b : Bool) (n : ℕ) → IsFree (if b then Ok n else Err Overflow)
most_free true n = tt
most_free false n = λ h. absurd (cc)

count_free : (b : Bool) (n : ℕ) → IsFree (if b then Err BadStep else (if nat_le n max_range then Ok n else Err Overflow))
count_free true n = λ h. absurd (cc)
count_free false n = most_free (nat_le n max_range) n

turns_free : (r : Result ℕ OpFault) (low step : ℤ) → IsFree r → IsFreeOf (turns_or r low step)
turns_free (Ok n) low step h = tt
turns_free (Err f) low step h = in_operation h

ranged_free : (l h s : Result Value OpFault) → IsFree l → IsFree h → IsFree s → IsFreeOf (ranged l h s)
ranged_free (Err f) h s a b c = in_operation a
ranged_free (Ok l) (Err f) s a b c = in_operation b
ranged_free (Ok l) (Ok h) (Err f) a b c = in_operation c
ranged_free (Ok l) (Ok h) (Ok s) a b c =
    turns_free (range_count (number_of l) (number_of h) (number_of s)) (number_of l) (number_of s) (count_free (int_lt (number_of s) (pos 1)) (values_in (number_of h -ℤ number_of l) (number_of s)))

computed_free : (a : Act) (xs : List (Answer Key Scalar)) → IsFreeOf (compute a xs)
computed_free (Cell e) xs = given_free (eval xs e) (eval_free xs e)
computed_free Read xs = read_free (answer_at xs 0)
computed_free (Call b rs os) xs = tt
computed_free (Set r e) xs = given_free (eval xs e) (eval_free xs e)
computed_free (Fill r es) xs = filled_free (evaluated literal (evals xs es)) (on_free literal (all_values (evals xs es)) (all_free (evals xs es) (evals_free xs es)))
computed_free (Copy r) xs = tt
computed_free (InsertElement r i e) xs = put_free (eval xs i) (eval xs e) (eval_free xs i) (eval_free xs e)
computed_free (Print e) xs = given_free (eval xs e) (eval_free xs e)
computed_free (Assert e) xs = given_free (eval xs e) (eval_free xs e)
computed_free (If e b d) xs = branched_free (eval xs e) (eval_free xs e)
computed_free (Range l h s w) xs = ranged_free (eval xs l) (eval xs h) (eval xs s) (eval_free xs l) (eval_free xs h) (eval_free xs s)
computed_free (Each w) xs = tt
computed_free (Wait hs b) xs = tt

module _ (C : Code) where
  limited_free : (b : Bool) (e : Effect Task Place Key Scalar) → ◌≡◌ {A = Outcome Task Place Key Scalar EntryFault} (limited b e) (Bad (InOperation Memory)) → ⊥
  limited_free true e h = (let q : TooDeep ≡ InOperation Memory = cc (h) in absurd (cc))
  limited_free false e h = absurd (cc)

  outcome_free : (x : Computed) (b : Bool) (e : Effect Task Place Key Scalar) → IsFreeOf x → ◌≡◌ {A = Outcome Task Place Key Scalar EntryFault} (outcome_of x b e) (Bad (InOperation Memory)) → ⊥
  outcome_free (Fails f) b e h q = h (cc (q))
  outcome_free (Gives v) b e h q = limited_free b e q
  outcome_free (Inserts xs) b e h q = limited_free b e q
  outcome_free (Takes t) b e h q = limited_free b e q
  outcome_free (Turns ts) b e h q = limited_free b e q
  outcome_free Opens b e h q = limited_free b e q

  effect_free : (t : Task) (xs : List (Answer Key Scalar)) → task_effect C t xs ≡ Bad (InOperation Memory) → ⊥
  effect_free Main xs h = absurd (cc)
  effect_free (Item i p c) xs h =
      let x = compute (entry C i).act (answered C p (entry C i).needs xs) in
      outcome_free x (is_too_deep (entry C i).act p (instances (entry C i).act (entry C i).offset p c x)) (effect_at C i p c x) (computed_free (entry C i).act (answered C p (entry C i).needs xs)) h

  -- so no run has
  pub never_memory : (s : CodeState) (log : List (Task × Effect Task Place Key Scalar)) → Follows (code_system C) s log → (t : Task) → s.fault ≡ Some (t, OfTask (InOperation Memory)) → ⊥
  never_memory s log f t h =
      let r : Ready (code_system C) log t (Bad (InOperation Memory)) = subst (λ (o : Option (Task × Fault EntryFault)). FaultIs (code_system C) o log) h f.fault in
      effect_free t r.answers r.is
