-- Lists of literals, one after another.
use Rattle.std.proofs.Common.{◌≡◌, ℕ, ◌<◌, ◌≤◌, ◌+◌, List, [], ◌∷◌, ◌++◌, map, drop, length, Option, Some, None, option_map, Result, Ok, refl, ap, sym, ◌∙◌, get_or}
use Rattle.std.proofs.lemmas.List.{append_assoc, append-nil, drop_more, drop_all}
use Rattle.values.specs.declared.fault.OpFault.{OpFault}
use Rattle.values.specs.declared.value.Scalar.{Scalar}
use Rattle.values.specs.declared.value.Value.{Value}
use Rattle.values.specs.declared.value.Value.TheVariants.{One}
use Rattle.language.specs.Tree.{Expression, expressions_of}
use Rattle.constant_fold.specs.Folded.{also_scalar, scalars_of}
use Rattle.constant_fold.specs.Literals.{scalar_of}
use Rattle.constant_fold.specs.Made.{operands}

-- the operands that are there, and those of literals behind them
abbrev pub behind : List (Result Value OpFault) → Option (List Scalar) → Option (List (Result Value OpFault))
behind done None = None
behind done (Some vs) = Some (done ++ operands vs)

pub behind_more : (done : List (Result Value OpFault)) (v : Scalar) (vs : Option (List Scalar)) → behind done (also_scalar (Some v) vs) ≡ behind (done ++ Ok (One v) ∷ []) vs
behind_more done v None = refl
behind_more done v (Some vs) = ap Some (sym (append_assoc done (Ok (One v) ∷ []) (operands vs)))

pub behind_start : (vs : Option (List Scalar)) → option_map operands vs ≡ behind [] vs
behind_start None = refl
behind_start (Some vs) = refl

module _ {X : Type 0} (view : X → Expression) (xs : List X) (i : ℕ) (x : X) where
  rest : i < length xs → x ≡ get_or xs i x → scalars_of (expressions_of (map view (drop i xs))) ≡ also_scalar (scalar_of (view x)) (scalars_of (expressions_of (map view (drop (i + 1) xs))))
  rest below is = ap (λ (ys : List X). scalars_of (expressions_of (map view ys))) (drop_more xs i x below)
      ∙ ap (λ (y : X). also_scalar (scalar_of (view y)) (scalars_of (expressions_of (map view (drop (i + 1) xs))))) (sym is)

  pub lacks_one : (whole : Option (List (Result Value OpFault))) (done : List (Result Value OpFault)) → whole ≡ behind done (scalars_of (expressions_of (map view (drop i xs))))
      → i < length xs → x ≡ get_or xs i x → None ≡ scalar_of (view x) → whole ≡ None
  lacks_one whole done before below is found = before ∙ ap (behind done) (rest below is) ∙ ap (λ (s : Option Scalar). behind done (also_scalar s (scalars_of (expressions_of (map view (drop (i + 1) xs)))))) (sym found)

  pub one_more : (whole : Option (List (Result Value OpFault))) (done : List (Result Value OpFault)) (v : Scalar) → whole ≡ behind done (scalars_of (expressions_of (map view (drop i xs))))
      → i < length xs → x ≡ get_or xs i x → Some v ≡ scalar_of (view x) → whole ≡ behind (done ++ Ok (One v) ∷ []) (scalars_of (expressions_of (map view (drop (i + 1) xs))))
  one_more whole done v before below is found = before ∙ ap (behind done) (rest below is)
      ∙ ap (λ (s : Option Scalar). behind done (also_scalar s (scalars_of (expressions_of (map view (drop (i + 1) xs)))))) (sym found)
      ∙ behind_more done v (scalars_of (expressions_of (map view (drop (i + 1) xs))))

pub all_done : {X : Type 0} (view : X → Expression) (xs : List X) (i : ℕ) (whole : Option (List (Result Value OpFault))) (done : List (Result Value OpFault))
    → whole ≡ behind done (scalars_of (expressions_of (map view (drop i xs)))) → length xs ≤ i → Some done ≡ whole
all_done view xs i whole done before over = sym (before ∙ ap (λ (ys : List _). behind done (scalars_of (expressions_of (map view ys)))) (drop_all i xs over) ∙ ap Some (append-nil done))
