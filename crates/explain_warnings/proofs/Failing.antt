-- Chains whose first operation overflows, and the operands of a chain, one after another.
use Rattle.std.proofs.Common.{rules, arith, ◌≡◌, ℕ, zero, suc, ◌<◌, ◌≤◌, ◌+◌, ◌-◌, List, [], ◌∷◌, ◌++◌, Option, map, drop, length, get_or, slice_get, slice_index_or, append_assoc, ap, sym, ◌∙◌}
use Rattle.std.proofs.lemmas.List.{drop_more}
use Rattle.language.specs.declared.tree.Operator.{Operator}
use Rattle.language.specs.Tree.{Expression, expressions_of}
use Rattle.explain_warnings.specs.declared.name_use.NameUse.{NameUse}
use Rattle.explain_warnings.specs.declared.name_use.NameUseKind.TheVariants.{AlwaysFails}
use Rattle.explain_warnings.specs.Failures.{both_overflow, right_overflows, operands_overflow, some_division, divides_at, is_zero_divisor}
use Rattle.explain_warnings.specs.Mentions.{reads_of, operand_reads, noted, at_expression}

-- the first of the operands
pub second_literal : {X : Type 0} (f : X → Expression) (o : Option Operator) (left : Expression) (xs : List X) (x : X) → 1 ≤ length xs → x ≡ slice_index_or xs 0 x
    → right_overflows o left (expressions_of (map f xs)) ≡ both_overflow o left (f x)
second_literal f o left [] x h e = search rules
second_literal f o left (y ∷ ys) x h e = ap (λ z. both_overflow o left (f z)) (sym e)

pub first_literal : {X : Type 0} (f : X → Expression) (o : Option Operator) (xs : List X) (x : X) → 1 ≤ length xs → x ≡ slice_index_or xs 0 x
    → operands_overflow o (expressions_of (map f xs)) ≡ right_overflows o (f x) (expressions_of (map f (drop 1 xs)))
first_literal f o [] x h e = search rules
first_literal f o (y ∷ ys) x h e = ap (λ z. right_overflows o (f z) (expressions_of (map f ys))) (sym e)

-- the operator before an operand other than the first
pub division_before : (os : List Operator) (i : ℕ) → 1 ≤ i → divides_at os i ≡ some_division (slice_get os (i - 1))
division_before os zero h = search rules
division_before os (suc i) h =
    let e : suc i - 1 ≡ i = omega arith in
    ap (λ j. some_division (slice_get os j)) (sym e)

-- one more operand
pub operands_more : {X : Type 0} (view : X → Expression) (os : List Operator) (total front between after : List NameUse) (xs : List X) (j i : ℕ) (x : X)
    → total ≡ front ++ operand_reads os i (expressions_of (map view (drop j xs))) → j < length xs → x ≡ get_or xs j x
    → between ≡ front ++ noted (is_zero_divisor os i (view x)) (at_expression AlwaysFails (view x)) → after ≡ between ++ reads_of (view x)
    → total ≡ after ++ operand_reads os (i + 1) (expressions_of (map view (drop (j + 1) xs)))
operands_more {X = X} view os total front between after xs j i x before below is notes adds =
    let rest = operand_reads os (i + 1) (expressions_of (map view (drop (j + 1) xs))) in
    let own = noted (is_zero_divisor os i (view x)) (at_expression AlwaysFails (view x)) in
    before
    ∙ ap (λ ys. front ++ operand_reads os i (expressions_of (map view ys))) (drop_more xs j x below)
    ∙ ap (λ (y : X). front ++ (noted (is_zero_divisor os i (view y)) (at_expression AlwaysFails (view y)) ++ (reads_of (view y) ++ rest))) (sym is)
    ∙ sym (append_assoc front own (reads_of (view x) ++ rest))
    ∙ ap (λ (w : List NameUse). w ++ (reads_of (view x) ++ rest)) (sym notes)
    ∙ sym (append_assoc between (reads_of (view x)) rest)
    ∙ ap (λ (w : List NameUse). w ++ rest) (sym adds)
