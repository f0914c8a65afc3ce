-- The turns of a loop, one after the other.
use Rattle.std.proofs.Common.{◌≡◌, ◌∙◌, refl, sym, ap, subst, rules, ℕ, zero, suc, ◌+◌, ◌-◌, ◌<◌, ◌≤◌, List, [], ◌∷◌, ◌++◌, map, take, get_or, length, Option, Some, ℤ, pos, arith}
use Rattle.std.specs.List.{AllZip}
use Rattle.std.proofs.lemmas.List.{append_assoc, append-nil, map-append, take_more}
use Rattle.board_history.specs.Fields.{Frame, path_of}
use Rattle.task_code.specs.Code.{Body, Code, blank_body, body, nth}
use Rattle.task_code.specs.Effects.{step_at}
use Rattle.task_code.specs.Compute.{Elements, key_scalar, pairs, range_turns}
use Rattle.values.specs.declared.map.Element.{Element}
use Rattle.values.specs.declared.key.Key.{Key}
use Rattle.values.specs.declared.key.Key.TheVariants.{Number as number_key}
use Rattle.values.specs.declared.value.Scalar.{Scalar}
use Rattle.values.specs.declared.value.Scalar.TheVariants.{Number}
use Rattle.values.specs.Ranges.{value_in}
use Rattle.board_instances.specs.Made.{block_of}
use Rattle.board_instances.specs.View.{opening_frame}
use Rattle.board_instances.specs.Turns.{AddsTurns, IsOpening, IsTurn}
use Rattle.board_instances.specs.declared.pending.PendingInstance.{PendingInstance}

-- a body that there is not has no entries
blank_past : (bs : List Body) (n : ℕ) → length bs ≤ n → (nth blank_body bs n).entries ≡ []
blank_past [] n h = refl
blank_past (b ∷ bs) zero h = absurd (omega (arith, h))
blank_past (b ∷ bs) (suc n) h = blank_past bs n (omega (arith, h))

pub not_blank : {B : Type 0} (C : Code) (n : ℕ) → length C.bodies ≤ n → 0 < length (body C n).entries → B
not_blank C n h some = (let e : length (body C n).entries ≡ 0 = ap length (blank_past C.bodies n h) in absurd (omega (arith, e, some)))

module _ (C : Code) (fs : List (Option Frame)) (at number offset : ℕ) where
  zip_more : (ts us : Elements) (xs ys : List PendingInstance) → AllZip (IsTurn C fs at number offset) ts xs → AllZip (IsTurn C fs at number offset) us ys → AllZip (IsTurn C fs at number offset) (ts ++ us) (xs ++ ys)
  zip_more [] us [] ys a b = b
  zip_more [] us (x ∷ xs) ys a b = absurd a
  zip_more (t ∷ ts) us [] ys a b = absurd a
  zip_more (t ∷ ts) us (x ∷ xs) ys a b = (a.0, zip_more ts us xs ys a.1 b)

  -- no turn is added yet
  pub turns_none : (old : List PendingInstance) → AddsTurns C fs at number offset [] old old
  turns_none old = record { added = []; new_is = sym (append-nil old); each = search rules }

  -- more turns are added
  pub turns_more : (ts us : Elements) (old mid new : List PendingInstance) → AddsTurns C fs at number offset ts old mid → AddsTurns C fs at number offset us mid new → AddsTurns C fs at number offset (ts ++ us) old new
  turns_more ts us old mid new a b = record {
    added = a.added ++ b.added;
    new_is = b.new_is ∙ ap (λ xs. xs ++ b.added) a.new_is ∙ append_assoc old a.added b.added;
    each = zip_more ts us a.added b.added a.each b.each;
  }

  -- one turn
  pub one_turn : (key : Key) (value turn : Scalar) (old new : List PendingInstance) (o : PendingInstance) → new ≡ old ++ o ∷ [] → turn ≡ key_scalar key → IsOpening C fs at number (Some (record { offset = offset; key = key })) [] (Some value) (Some turn) o → AddsTurns C fs at number offset ((key, value) ∷ []) old new
  one_turn key value turn old new o e t x = record { added = o ∷ []; new_is = e; each = (record { inner = x.inner; value_is = x.value_is; turn_is = x.turn_is ∙ ap (λ v. Some v) t }, search rules) }

  pub turns_are : (ts us : Elements) (old new : List PendingInstance) → ts ≡ us → AddsTurns C fs at number offset ts old new → AddsTurns C fs at number offset us old new
  turns_are ts us old new e x = subst (λ (vs : Elements). AddsTurns C fs at number offset vs old new) e x

-- one turn of a range more
pub range_more : (low step : ℤ) (n c : ℕ) → range_turns low step n (c + 1) ≡ range_turns low step n c ++ (number_key (pos (n + c)), Number (value_in low step (n + c))) ∷ []
range_more low step n zero = ap (λ m. (number_key (pos m), Number (value_in low step m)) ∷ []) (none n)
  where
    none : (n : ℕ) → n ≡ n + 0
    none n = omega arith
range_more low step n (suc c) = ap (range_turns low step n) (one c) ∙ ap (λ ts. (number_key (pos n), Number (value_in low step n)) ∷ ts) (range_more low step (suc n) c) ∙ ap (λ m. (number_key (pos n), Number (value_in low step n)) ∷ (range_turns low step (suc n) c ++ (number_key (pos m), Number (value_in low step m)) ∷ [])) (next n c)
  where
    one : (c : ℕ) → suc c + 1 ≡ suc (c + 1)
    one c = omega arith

    next : (n c : ℕ) → suc n + c ≡ n + suc c
    next n c = omega arith

-- the turns from one on, and the next
pub range_to : (low step : ℤ) (first n : ℕ) → first ≤ n → range_turns low step first (n - first) ++ (number_key (pos n), Number (value_in low step n)) ∷ [] ≡ range_turns low step first (n + 1 - first)
range_to low step first n h = ap (λ m. range_turns low step first (n - first) ++ (number_key (pos m), Number (value_in low step m)) ∷ []) (here first n h) ∙ sym (range_more low step first (n - first)) ∙ ap (range_turns low step first) (more first n h)
  where
    here : (first n : ℕ) → first ≤ n → n ≡ first + (n - first)
    here first n h = omega (arith, h)

    more : (first n : ℕ) → first ≤ n → n - first + 1 ≡ n + 1 - first
    more first n h = omega (arith, h)

pub range_from : (low step : ℤ) (first : ℕ) → [] ≡ range_turns low step first (first - first)
range_from low step first = ap (range_turns low step first) (none first)
  where
    none : (n : ℕ) → 0 ≡ n - n
    none n = omega arith

pub range_done : (low step : ℤ) (first n last end : ℕ) → last ≡ end → n - first ≤ last - first → last ≤ n → range_turns low step first (n - first) ≡ range_turns low step first (end - first)
range_done low step first n last end e to past = ap (range_turns low step first) (same first n last to past ∙ ap (λ m. m - first) e)
  where
    same : (first n last : ℕ) → n - first ≤ last - first → last ≤ n → n - first ≡ last - first
    same first n last to past = omega (arith, to, past)

pub to_first : (first last : ℕ) → first - first ≤ last - first
to_first first last = omega arith

pub to_next : (first n last : ℕ) → n < last → n + 1 - first ≤ last - first
to_next first n last h = omega (arith, h)

-- the elements up to one, and the next
pub elements_step : (es : List Element) (i : ℕ) (one : Element) (key : Key) (value : Scalar) → i < length es → one ≡ get_or es i one → key ≡ one.key → value ≡ one.value → pairs (take i es) ++ (key, value) ∷ [] ≡ pairs (take (i + 1) es)
elements_step es i one key value h is k v =
    ap (λ (q : Key). pairs (take i es) ++ (q, value) ∷ []) k
    ∙ ap (λ (q : Scalar). pairs (take i es) ++ (one.key, q) ∷ []) v
    ∙ ap (λ (e : Element). pairs (take i es) ++ (e.key, e.value) ∷ []) is
    ∙ sym (map-append (λ (e : Element). (e.key, e.value)) (take i es) (get_or es i one ∷ []))
    ∙ ap pairs (sym (take_more es i one h))

-- a turn of a range is told by its key and its value
pub turn_same : (a b : ℤ) (low step : ℤ) (n : ℕ) → a ≡ pos n → b ≡ value_in low step n → ◌≡◌ {A = Elements} ((number_key a, Number b) ∷ []) ((number_key (pos n), Number (value_in low step n)) ∷ [])
turn_same a b low step n e f = ap (λ (z : ℤ). (number_key z, Number b) ∷ []) e ∙ ap (λ (z : ℤ). (number_key (pos n), Number z) ∷ []) f

-- instances of turns are of the blocks that steps lead to
pub turns_blocks : (C : Code) (fs : List (Option Frame)) (at number offset : ℕ) (turns : Elements) (added : List PendingInstance) → AllZip (IsTurn C fs at number offset) turns added → map (block_of fs (Some at)) (map opening_frame added) ≡ map (λ (t : Key × Scalar). (number, step_at offset t.0 (path_of fs at))) turns
turns_blocks C fs at number offset [] [] x = refl
turns_blocks C fs at number offset [] (o ∷ os) x = absurd x
turns_blocks C fs at number offset (t ∷ ts) [] x = absurd x
turns_blocks C fs at number offset (t ∷ ts) (o ∷ os) x =
    ap (λ (f : Frame). block_of fs (Some at) f ∷ map (block_of fs (Some at)) (map opening_frame os)) x.0.inner.is
    ∙ ap (λ bs. (number, step_at offset t.0 (path_of fs at)) ∷ bs) (turns_blocks C fs at number offset ts os x.1)
