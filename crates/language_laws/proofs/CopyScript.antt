-- A script with whole copies: int A[] = [4, 5]; int B[] = A; int C[]; C = B; printf("%i %i", size(C), C[1]);
use Rattle.std.specs.Prelude.{◌≡◌, ◌≢◌, ℕ, List, [], ◌∷◌, pos, refl, codes}
use Rattle.std.specs.Fmt.{digits}
use Rattle.std.proofs.Common.{inl, inr, ap, arith}
use Rattle.values.specs.declared.key.Key.{Key}
use Rattle.values.specs.declared.map.Element.{Element}
use Rattle.values.specs.declared.value.Scalar.{Scalar}
use Rattle.values.specs.declared.value.Scalar.TheVariants.{Number}
use Rattle.values.specs.declared.value.Value.TheVariants.{One, Many}
use Rattle.values.specs.Maps.{element as entry}
use Rattle.language.specs.Core.{local, Name, Stmt, Core}
use Rattle.language_laws.specs.ArrayExamples as example
use Rattle.language.specs.Facts.{value, element, line, Elements, a_number}
use Rattle.language.specs.Meaning.{script, Closed, closed, Finished, no_target, value_known, of_literal, of_name, of_array, of_operator, no_operand, operand, stored, computed, found, now, in_block, cell_value, filled, printed, Known, Meaning}
use Rattle.language.specs.Members.{◌∈◌, first, later}
use Rattle.language.specs.Outcomes.{Lines}
use Rattle.language.specs.Parts.{block_list, script_stmts}
use Rattle.language.specs.Places.{Place, place}
use Rattle.language.specs.Single.{SinglyAssigned}
use Rattle.language.specs.WellFormed.{WellFormed}
use Rattle.language.proofs.Members.{split_in}
use Rattle.language_laws.proofs.ArrayWriters.{Writer, writers, sole_writer, one_writer, one_write, filled_elements}
use Rattle.language_laws.proofs.Declared.{local_same}
use Rattle.language_laws.proofs.Printing.{flat_prints, one_line}
use Rattle.language_laws.proofs.TestedNames.{well_formed}
use Rattle.language_laws.proofs.TestedSingle.{singly_assigned}

abbrev S : Core
S = example.whole_copies

formed : WellFormed S
formed = well_formed S (record { nodes_once = refl; writers_once = refl; offsets_once = refl; targets = refl; named = refl; script_body = refl; headers = refl; waits = refl; functions = refl; calls = refl; hidden = refl; fills = refl })

single : SinglyAssigned S
single = singly_assigned S (record { declared = refl; outputs = refl; inputs = refl; loops = refl })

abbrev four_five : List Element
four_five = entry (Key.Number (pos 0)) (Number (pos 4)) ∷ entry (Key.Number (pos 1)) (Number (pos 5)) ∷ []

other : {m n i j : ℕ} → m ≢ n → ◌≡◌ {A = Place} ([], m) ([], n) → i ≡ j
other d e = absurd (d (ap (λ (z : Place). z.1) e))

not_this : {m n : ℕ} → m ≢ n → local m ∈ (local n ∷ []) → ⊥
not_this d h = elim (split_in h) [ inl e ↦ d (local_same e) | inr m ↦ elim m [ ] ]

-- WHO WRITES

only_a : (i : ℕ) (x : Name) → ◌∈◌ {X = Writer} (i, x) (writers (script_stmts S)) → place S [] x ≡ ([], 2) → i ≡ 1
only_a i x first e = refl
only_a i x (later first) e = other (λ q. absurd (omega arith)) e
only_a i x (later (later first)) e = other (λ q. absurd (omega arith)) e
only_a i x (later (later (later m))) e = elim m [ ]

only_b : (i : ℕ) (x : Name) → ◌∈◌ {X = Writer} (i, x) (writers (script_stmts S)) → place S [] x ≡ ([], 7) → i ≡ 6
only_b i x first e = other (λ q. absurd (omega arith)) e
only_b i x (later first) e = refl
only_b i x (later (later first)) e = other (λ q. absurd (omega arith)) e
only_b i x (later (later (later m))) e = elim m [ ]

only_c : (i : ℕ) (x : Name) → ◌∈◌ {X = Writer} (i, x) (writers (script_stmts S)) → place S [] x ≡ ([], 11) → i ≡ 12
only_c i x first e = other (λ q. absurd (omega arith)) e
only_c i x (later first) e = other (λ q. absurd (omega arith)) e
only_c i x (later (later first)) e = refl
only_c i x (later (later (later m))) e = elim m [ ]

sole_a : (m : ℕ) (k : Key) (w : Place) (v : Scalar) → Known S m (element ([], 2) k w v) → w ≡ ([], 1)
sole_a = sole_writer S refl ([], 2) 1 only_a

sole_b : (m : ℕ) (k : Key) (w : Place) (v : Scalar) → Known S m (element ([], 7) k w v) → w ≡ ([], 6)
sole_b = sole_writer S refl ([], 7) 6 only_b

sole_c : (m : ℕ) (k : Key) (w : Place) (v : Scalar) → Known S m (element ([], 11) k w v) → w ≡ ([], 12)
sole_c = sole_writer S refl ([], 11) 12 only_c

-- ROUND BY ROUND

a_value : Known S 1 (value ([], 3) (Many four_five))
a_value = inr (cell_value (in_block script (later first)) first (computed (of_operator (operand of_literal (operand of_literal no_operand)) refl)))

a_finished : (st : Stmt) → st ∈ block_list S.body → Finished S (Known S 1) (local 2) [] st
a_finished _ first = no_target (λ h. elim h [ ])
a_finished _ (later first) = value_known a_value
a_finished _ (later (later first)) = no_target (λ h. elim h [ ])
a_finished _ (later (later (later first))) = no_target (not_this (λ q. absurd (omega arith)))
a_finished _ (later (later (later (later first)))) = no_target (λ h. elim h [ ])
a_finished _ (later (later (later (later (later first))))) = no_target (not_this (λ q. absurd (omega arith)))
a_finished _ (later (later (later (later (later (later first)))))) = no_target (λ h. elim h [ ])
a_finished _ (later (later (later (later (later (later (later m))))))) = elim m [ ]

a_closed : Closed S (Known S 1) ([], 2)
a_closed = closed script first a_finished (one_writer S ([], 2) 1 sole_a 1)

a_elements : Elements (Known S 1) ([], 2) four_five
a_elements = filled_elements S ([], 2) 1 sole_a formed single 1 0 _ _ (later first) refl four_five refl a_value

b_value : Known S 2 (value ([], 8) (Many four_five))
b_value = inr (cell_value (in_block script (later (later (later first)))) first (computed (of_array a_closed a_elements)))

b_finished : (st : Stmt) → st ∈ block_list S.body → Finished S (Known S 2) (local 7) [] st
b_finished _ first = no_target (λ h. elim h [ ])
b_finished _ (later first) = no_target (not_this (λ q. absurd (omega arith)))
b_finished _ (later (later first)) = no_target (λ h. elim h [ ])
b_finished _ (later (later (later first))) = value_known b_value
b_finished _ (later (later (later (later first)))) = no_target (λ h. elim h [ ])
b_finished _ (later (later (later (later (later first))))) = no_target (not_this (λ q. absurd (omega arith)))
b_finished _ (later (later (later (later (later (later first)))))) = no_target (λ h. elim h [ ])
b_finished _ (later (later (later (later (later (later (later m))))))) = elim m [ ]

b_closed : Closed S (Known S 2) ([], 7)
b_closed = closed script (later (later first)) b_finished (one_writer S ([], 7) 6 sole_b 2)

b_elements : Elements (Known S 2) ([], 7) four_five
b_elements = filled_elements S ([], 7) 6 sole_b formed single 2 18 _ _ (later (later (later first))) refl four_five refl b_value

c_value : Known S 3 (value ([], 14) (Many four_five))
c_value = inr (cell_value (in_block script (later (later (later (later (later first)))))) first (computed (of_array b_closed b_elements)))

c_element : Known S 3 (element ([], 11) (Key.Number (pos 1)) ([], 12) (Number (pos 5)))
c_element = inr (filled (in_block script (later (later (later (later (later first)))))) (now (computed (of_array b_closed b_elements))) (later first))

c_finished : (st : Stmt) → st ∈ block_list S.body → Finished S (Known S 4) (local 11) [] st
c_finished _ first = no_target (λ h. elim h [ ])
c_finished _ (later first) = no_target (not_this (λ q. absurd (omega arith)))
c_finished _ (later (later first)) = no_target (λ h. elim h [ ])
c_finished _ (later (later (later first))) = no_target (not_this (λ q. absurd (omega arith)))
c_finished _ (later (later (later (later first)))) = no_target (λ h. elim h [ ])
c_finished _ (later (later (later (later (later first))))) = value_known (inl c_value)
c_finished _ (later (later (later (later (later (later first)))))) = no_target (λ h. elim h [ ])
c_finished _ (later (later (later (later (later (later (later m))))))) = elim m [ ]

c_closed : Closed S (Known S 4) ([], 11)
c_closed = closed script (later (later (later (later first)))) c_finished (one_writer S ([], 11) 12 sole_c 4)

c_elements : Elements (Known S 4) ([], 11) four_five
c_elements = filled_elements S ([], 11) 12 sole_c formed single 4 40 _ _ (later (later (later (later (later first))))) refl four_five refl (inl c_value)

the_index : Known S 1 (value ([], 26) (One (Number (pos 1))))
the_index = inr (cell_value (in_block script (later (later (later (later (later (later first))))))) first (computed of_literal))

the_read : Known S 4 (value ([], 24) (One (Number (pos 5))))
the_read = inr (cell_value (in_block script (later (later (later (later (later (later first))))))) (later first) (found (inl (inl the_index)) a_number (one_write S ([], 11) 12 sole_c 3 _ _ c_element)))

the_line : Known S 5 (line ([], 16) (codes "2 5"))
unfolding digits
the_line = inr (printed (in_block script (later (later (later (later (later (later first)))))))
    (now (computed (of_operator (operand (of_operator (operand (of_array c_closed c_elements) no_operand) refl) (operand (of_name (stored the_read)) no_operand)) refl))))

pub prints_copied : Lines (Meaning S) (codes "2 5" ∷ [])
prints_copied = one_line S formed single 16 _ (flat_prints S refl) (codes "2 5") (5, the_line)
