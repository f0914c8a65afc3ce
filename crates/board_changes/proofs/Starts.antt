-- What a turn's variables start with.
use Rattle.std.proofs.Common.{◌≡◌, ◌∙◌, refl, sym, ap, subst, inl, inr, ℕ, Bool, true, false, List, Option, Some, None, ◌+◌, arith}
use Rattle.std.specs.Prelude.{if◌then◌else◌}
use Rattle.std.specs.List.{slice_get}
use Rattle.std.proofs.lemmas.Bool.{cases_Bool}
use Rattle.board_history.proofs.Next.{nat_same, nat_sound}
use Rattle.board_history.specs.Ending.{empty_content, turn_content}
use Rattle.board_history.specs.Fields.{Content, Holding}
use Rattle.task_code.proofs.Equal.{variable_same, variable_sound}
use Rattle.task_code.specs.Code.{Loop, Variable, scalar}
use Rattle.task_code.specs.Compute.{key_scalar}
use Rattle.task_code.specs.Places.{variable_eq}
use Rattle.values.specs.declared.key.Key.{Key}
use Rattle.values.specs.declared.value.Scalar.{Scalar}
use Rattle.board_program.specs.Spots.{place_from}
use Rattle.board_program.specs.Tables.{is_place, shape_of}
use Rattle.board_data.specs.Made.{start_at, started}
use Rattle.board_data.specs.View.{content_view}
use Rattle.board_data.specs.declared.making.InitialValues.{InitialValues}
use Rattle.board_changes.proofs.Cells.{place_is, same_at}

same_truth : (a b : Bool) → (a ≡ true → b ≡ true) → (b ≡ true → a ≡ true) → a ≡ b
same_truth true b f g = sym (f refl)
same_truth false true f g = g refl
same_truth false false f g = refl

-- at the place of a variable stands another exactly where they are the same
pub place_test : (vs : List Variable) (k : ℕ) (v u : Variable) → place_from 0 v vs ≡ Some k → variable_eq v u ≡ is_place k (place_from 0 u vs)
place_test vs k v u e = same_truth (variable_eq v u) (is_place k (place_from 0 u vs)) to from
  where
    to : variable_eq v u ≡ true → is_place k (place_from 0 u vs) ≡ true
    to q = ap (is_place k) (ap (λ (z : Variable). place_from 0 z vs) (sym (variable_sound v u q)) ∙ e) ∙ nat_same k

    at : (r : Option ℕ) → is_place k r ≡ true → r ≡ Some k
    at None q = absurd (cc)
    at (Some n) q = ap Some (sym (nat_sound k n q))

    place : (z : Variable) → place_from 0 z vs ≡ Some k → slice_get vs k ≡ Some z
    place z h = let p = place_is 0 z vs k h in subst (λ i. slice_get vs i ≡ Some z) (back k p.after p.is) p.there
      where
        back : (k a : ℕ) → k ≡ 0 + a → a ≡ k
        back k a h = omega (arith, h)

    from : is_place k (place_from 0 u vs) ≡ true → variable_eq v u ≡ true
    from q = subst (λ (z : Variable). variable_eq v z ≡ true) (same_at vs k v u (place v e) (place u (at (place_from 0 u vs) q))) (variable_same v)

pub started_empty : (a : Bool) → content_view (started (shape_of a) None) ≡ empty_content a
started_empty false = refl
started_empty true = refl

-- no values are brought
pub starts_none : (v : Variable) (k : ℕ) (s : InitialValues) → s.value ≡ None → s.turn ≡ None → content_view (started (shape_of v.array) (start_at s k)) ≡ empty_content v.array
starts_none v k s a b = ap (λ (y : Option Scalar). content_view (started (shape_of v.array) y)) none ∙ started_empty v.array
  where
    none : start_at s k ≡ None
    none = elim (cases_Bool (is_place k s.value_at)) [
      | inl t ↦ ap (λ c. if c then s.value else (if is_place k s.turn_at then s.turn else None)) t ∙ a
      | inr f ↦ ap (λ c. if c then s.value else (if is_place k s.turn_at then s.turn else None)) f ∙ elim (cases_Bool (is_place k s.turn_at)) [
        | inl t ↦ ap (λ c. if c then s.turn else None) t ∙ b
        | inr g ↦ ap (λ c. if c then s.turn else None) g
      ]
    ]

held : (v : Variable) (n : ℕ) (y : Scalar) → v ≡ scalar n → content_view (started (shape_of v.array) (Some y)) ≡ Holding y
held v n y e = ap (λ (z : Variable). content_view (started (shape_of z.array) (Some y))) e

-- the values of a turn are brought
module _ (w : Loop) (t : Key × Scalar) (v : Variable) (k : ℕ) (s : InitialValues) (value : s.value ≡ Some t.1) (turn : s.turn ≡ Some (key_scalar t.0)) (here : variable_eq v (scalar w.value) ≡ is_place k s.value_at) where
  content : Option Scalar → Content
  content y = content_view (started (shape_of v.array) y)

  rest : Content
  rest = elim w.turn [ None ↦ empty_content v.array | Some n ↦ if variable_eq v (scalar n) then Holding (key_scalar t.0) else empty_content v.array ]

  pub starts_turn : (w.turn ≡ None → s.turn_at ≡ None) → ((n : ℕ) → w.turn ≡ Some n → variable_eq v (scalar n) ≡ is_place k s.turn_at) → content_view (started (shape_of v.array) (start_at s k)) ≡ turn_content w t v
  starts_turn none some = elim (cases_Bool (variable_eq v (scalar w.value))) [
    | inl q ↦ ap (λ c. content_view (started (shape_of v.array) (if c then s.value else (if is_place k s.turn_at then s.turn else None)))) (sym here ∙ q)
        ∙ ap (λ y. content_view (started (shape_of v.array) y)) value ∙ held v w.value t.1 (variable_sound v (scalar w.value) q)
        ∙ sym (ap (λ c. if c then Holding t.1 else (elim w.turn [ None ↦ empty_content v.array | Some n ↦ if variable_eq v (scalar n) then Holding (key_scalar t.0) else empty_content v.array ])) q)
    | inr q ↦ ap (λ c. content_view (started (shape_of v.array) (if c then s.value else (if is_place k s.turn_at then s.turn else None)))) (sym here ∙ q)
        ∙ by w.turn refl
        ∙ sym (ap (λ c. if c then Holding t.1 else (elim w.turn [ None ↦ empty_content v.array | Some n ↦ if variable_eq v (scalar n) then Holding (key_scalar t.0) else empty_content v.array ])) q)
  ]
    where
      by : (r : Option ℕ) → w.turn ≡ r → content_view (started (shape_of v.array) (if is_place k s.turn_at then s.turn else None)) ≡ elim r [ None ↦ empty_content v.array | Some n ↦ if variable_eq v (scalar n) then Holding (key_scalar t.0) else empty_content v.array ]
      by None e = ap (λ (p : Option ℕ). content_view (started (shape_of v.array) (if is_place k p then s.turn else None))) (none e) ∙ started_empty v.array
      by (Some n) e = elim (cases_Bool (variable_eq v (scalar n))) [
        | inl q ↦ ap (λ c. content_view (started (shape_of v.array) (if c then s.turn else None))) (sym (some n e) ∙ q) ∙ ap (λ y. content_view (started (shape_of v.array) y)) turn ∙ held v n (key_scalar t.0) (variable_sound v (scalar n) q)
            ∙ sym (ap (λ c. if c then Holding (key_scalar t.0) else empty_content v.array) q)
        | inr q ↦ ap (λ c. content_view (started (shape_of v.array) (if c then s.turn else None))) (sym (some n e) ∙ q) ∙ started_empty v.array
            ∙ sym (ap (λ c. if c then Holding (key_scalar t.0) else empty_content v.array) q)
      ]
