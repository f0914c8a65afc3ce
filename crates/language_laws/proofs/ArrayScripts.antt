-- What small scripts with arrays mean.
use Rattle.std.specs.Prelude.{◌≡◌, ℕ, List, [], ◌∷◌, pos, refl, codes}
use Rattle.std.specs.Fmt.{digits}
use Rattle.std.proofs.Common.{inl, inr}
use Rattle.values.specs.declared.key.Key.{Key}
use Rattle.values.specs.declared.map.Element.{Element}
use Rattle.values.specs.declared.value.Scalar.{Scalar}
use Rattle.values.specs.declared.value.Scalar.TheVariants.{Number}
use Rattle.values.specs.declared.value.Value.TheVariants.{One, Many}
use Rattle.values.specs.Maps.{element as entry}
use Rattle.language.specs.Core.{local, Name, here, Awaited, array, Stmt, Core}
use Rattle.language_laws.specs.ArrayExamples as example
use Rattle.language.specs.Facts.{value, element, line, Elements, a_number}
use Rattle.language.specs.Meaning.{script, waited, Closed, closed, Finished, no_target, value_known, names_known, Come, array_closed, of_literal, of_name, of_array, of_operator, no_operand, operand, stored, computed, found, now, in_block, cell_value, filled, printed, Known, Meaning}
use Rattle.language.specs.Members.{◌∈◌, first, later}
use Rattle.language.specs.Outcomes.{Lines}
use Rattle.language.specs.Parts.{block_list, script_stmts}
use Rattle.language.specs.Places.{Place, place}
use Rattle.language.specs.Single.{SinglyAssigned}
use Rattle.language.specs.WellFormed.{WellFormed}
use Rattle.language_laws.proofs.ArrayWriters.{Writer, writers, sole_writer, one_writer, one_write, filled_elements}
use Rattle.language_laws.proofs.Printing.{flat_prints, one_line}
use Rattle.language_laws.proofs.TestedNames.{well_formed}
use Rattle.language_laws.proofs.TestedSingle.{singly_assigned}

-- AN ARRAY THAT NOBODY WRITES

abbrev N : Core
N = example.nobody_writes

n_formed : WellFormed N
n_formed = well_formed N (record { nodes_once = refl; writers_once = refl; offsets_once = refl; targets = refl; named = refl; script_body = refl; headers = refl; waits = refl; functions = refl; calls = refl; hidden = refl; fills = refl })

n_single : SinglyAssigned N
n_single = singly_assigned N (record { declared = refl; outputs = refl; inputs = refl; loops = refl })

n_none : (k : Key) (w : Place) (v : Scalar) → Known N 0 (element ([], 2) k w v) → ⊥
n_none k w v f = f

n_finished : (st : Stmt) → st ∈ block_list N.body → Finished N (Known N 0) (local 2) [] st
n_finished _ first = no_target (λ h. elim h [ ])
n_finished _ (later first) = no_target (λ h. elim h [ ])
n_finished _ (later (later h)) = elim h [ ]

n_closed : Closed N (Known N 0) ([], 2)
n_closed = closed script first n_finished (λ k w w' v v' f g. absurd f)

n_elements : Elements (Known N 0) ([], 2) []
n_elements = record { in_order = refl; written = λ k v m. elim m [ ]; all = λ k w v f. absurd f }

n_line : Known N 1 (line ([], 3) (codes "0"))
unfolding digits
n_line = inr (printed (in_block script (later first)) (now (computed (of_operator (operand (of_operator (operand (of_array n_closed n_elements) no_operand) refl) no_operand) refl))))

pub prints_zero : Lines (Meaning N) (codes "0" ∷ [])
prints_zero = one_line N n_formed n_single 3 _ (flat_prints N refl) (codes "0") (1, n_line)

-- AN ARRAY LITERAL

abbrev A : Core
A = example.array_literal

a_formed : WellFormed A
a_formed = well_formed A (record { nodes_once = refl; writers_once = refl; offsets_once = refl; targets = refl; named = refl; script_body = refl; headers = refl; waits = refl; functions = refl; calls = refl; hidden = refl; fills = refl })

a_single : SinglyAssigned A
a_single = singly_assigned A (record { declared = refl; outputs = refl; inputs = refl; loops = refl })

abbrev four_five : List Element
four_five = entry (Key.Number (pos 0)) (Number (pos 4)) ∷ entry (Key.Number (pos 1)) (Number (pos 5)) ∷ []

a_only : (i : ℕ) (x : Name) → ◌∈◌ {X = Writer} (i, x) (writers (script_stmts A)) → place A [] x ≡ ([], 2) → i ≡ 1
a_only i x first e = refl
a_only i x (later m) e = elim m [ ]

a_sole : (m : ℕ) (k : Key) (w : Place) (v : Scalar) → Known A m (element ([], 2) k w v) → w ≡ ([], 1)
a_sole = sole_writer A refl ([], 2) 1 a_only

a_value : Known A 1 (value ([], 3) (Many four_five))
a_value = inr (cell_value (in_block script (later first)) first (computed (of_operator (operand of_literal (operand of_literal no_operand)) refl)))

a_element : Known A 1 (element ([], 2) (Key.Number (pos 1)) ([], 1) (Number (pos 5)))
a_element = inr (filled (in_block script (later first)) (now (computed (of_operator (operand of_literal (operand of_literal no_operand)) refl))) (later first))

a_index : Known A 1 (value ([], 16) (One (Number (pos 1))))
a_index = inr (cell_value (in_block script (later (later first))) first (computed of_literal))

a_read : Known A 2 (value ([], 14) (One (Number (pos 5))))
a_read = inr (cell_value (in_block script (later (later first))) (later first) (found a_index a_number (one_write A ([], 2) 1 a_sole 1 _ _ a_element)))

a_finished : (st : Stmt) → st ∈ block_list A.body → Finished A (Known A 2) (local 2) [] st
a_finished _ first = no_target (λ h. elim h [ ])
a_finished _ (later first) = value_known (inl a_value)
a_finished _ (later (later first)) = no_target (λ h. elim h [ ])
a_finished _ (later (later (later h))) = elim h [ ]

a_closed : Closed A (Known A 2) ([], 2)
a_closed = closed script first a_finished (one_writer A ([], 2) 1 a_sole 2)

a_elements : Elements (Known A 2) ([], 2) four_five
a_elements = filled_elements A ([], 2) 1 a_sole a_formed a_single 2 0 _ _ (later first) refl four_five refl (inl a_value)

a_line : Known A 3 (line ([], 6) (codes "2 5"))
unfolding digits
a_line = inr (printed (in_block script (later (later first))) (now (computed (of_operator (operand (of_operator (operand (of_array a_closed a_elements) no_operand) refl) (operand (of_name (stored a_read)) no_operand)) refl))))

pub prints_two_five : Lines (Meaning A) (codes "2 5" ∷ [])
prints_two_five = one_line A a_formed a_single 6 _ (flat_prints A refl) (codes "2 5") (3, a_line)

-- A WAIT FOR AN ARRAY

abbrev W : Core
W = example.wait_for_array

w_formed : WellFormed W
w_formed = well_formed W (record { nodes_once = refl; writers_once = refl; offsets_once = refl; targets = refl; named = refl; script_body = refl; headers = refl; waits = refl; functions = refl; calls = refl; hidden = refl; fills = refl })

w_single : SinglyAssigned W
w_single = singly_assigned W (record { declared = refl; outputs = refl; inputs = refl; loops = refl })

w_only : (i : ℕ) (x : Name) → ◌∈◌ {X = Writer} (i, x) (writers (script_stmts W)) → place W [] x ≡ ([], 2) → i ≡ 1
w_only i x first e = refl
w_only i x (later m) e = elim m [ ]

w_sole : (m : ℕ) (k : Key) (w : Place) (v : Scalar) → Known W m (element ([], 2) k w v) → w ≡ ([], 1)
w_sole = sole_writer W refl ([], 2) 1 w_only

abbrev seven : List Element
seven = entry (Key.Number (pos 0)) (Number (pos 7)) ∷ []

w_value : Known W 1 (value ([], 3) (Many seven))
w_value = inr (cell_value (in_block script (later first)) first (computed (of_operator (operand of_literal no_operand) refl)))

w_finished : (st : Stmt) → st ∈ block_list W.body → Finished W (Known W 1) (local 2) [] st
w_finished _ first = no_target (λ h. elim h [ ])
w_finished _ (later first) = value_known w_value
w_finished _ (later (later first)) = no_target (λ h. elim h [ ])
w_finished _ (later (later (later h))) = elim h [ ]

w_closed : Closed W (Known W 1) ([], 2)
w_closed = closed script first w_finished (one_writer W ([], 2) 1 w_sole 1)

w_elements : Elements (Known W 1) ([], 2) seven
w_elements = filled_elements W ([], 2) 1 w_sole w_formed w_single 1 0 _ _ (later first) refl seven refl w_value

w_names : (x : Awaited) → x ∈ (array (here 2) ∷ []) → Come W (Known W 1) [] x
w_names _ first = array_closed w_closed
w_names _ (later m) = elim m [ ]

w_line : Known W 2 (line ([], 7) (codes "1"))
unfolding digits
w_line = inr (printed (in_block (waited script (later (later first)) (names_known w_names)) first) (now (computed (of_operator (operand (of_operator (operand (of_array w_closed w_elements) no_operand) refl) no_operand) refl))))

pub prints_one : Lines (Meaning W) (codes "1" ∷ [])
prints_one = one_line W w_formed w_single 7 _ (flat_prints W refl) (codes "1") (2, w_line)
