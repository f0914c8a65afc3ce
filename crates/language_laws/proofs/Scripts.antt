-- What small scripts mean.
use Rattle.std.specs.Prelude.{◌≢◌, ℕ, zero, suc, ◌-◌, ◌<◌, [], ◌∷◌, pos, refl, codes}
use Rattle.std.specs.Fmt.{digits}
use Rattle.std.proofs.Common.{inl, inr, ap, arith}
use Rattle.values.specs.declared.fault.OpFault.TheVariants.{Overflow, DivideByZero}
use Rattle.values.specs.declared.key.Key.{Key}
use Rattle.values.specs.declared.format.FormatPiece.TheVariants as Piece
use Rattle.values.specs.declared.op.Sign.TheVariants as Sign
use Rattle.values.specs.Operators as op
use Rattle.values.specs.declared.value.Scalar.TheVariants.{Number}
use Rattle.values.specs.declared.value.Value.TheVariants.{One}
use Rattle.language.specs.Core.{input, output, here, name, operator, none, compute, inner, Awaited, scalar, Stmt, stmt, call_alone, print, wait, Block}
use Rattle.language_laws.specs.Examples as example
use Rattle.language_laws.specs.Examples.{plain, num, block_of}
use Rattle.language_laws.specs.HeaderExamples.{nested_calls}
use Rattle.language.specs.Facts.{operation, element_twice, too_deep, value, element, line, fault, a_number}
use Rattle.language.specs.Meaning.{Live, script, waited, called, names_known, Come, scalar_known, stored, of_literal, of_name, of_operator, no_operand, operand, computed, faulty, now, LiveStmt, in_block, cell_value, cell_fault, assigned, inserted, printed, written_twice, too_deep_call, Known}
use Rattle.language.specs.Members.{◌∈◌, first, later}
use Rattle.language.specs.Places.{Path, Place, max_path_steps}
use Rattle.language_laws.proofs.DeepPaths.{deep_length}

-- READ BEFORE ASSIGNMENT

read_y : Known example.read_before_assignment 1 (value ([], 4) (One (Number (pos 2))))
read_y = inr (assigned (in_block script (later (later (later first)))) (now (computed of_literal)))

read_x : Known example.read_before_assignment 2 (value ([], 2) (One (Number (pos 3))))
read_x = inr (assigned (in_block script (later (later first))) (now (computed (of_operator (operand (of_name (stored read_y)) (operand of_literal no_operand)) refl))))

pub prints_three : Known example.read_before_assignment 3 (line ([], 14) (codes "3"))
unfolding digits
prints_three = inr (printed (in_block script (later (later (later (later first))))) (now (computed (of_operator (operand (of_name (stored read_x)) no_operand) refl))))

-- TWO WRITES OF ONE KEY

twice_first : Known example.key_written_twice 1 (element ([], 2) (Key.Number (pos 0)) ([], 3) (Number (pos 1)))
twice_first = inr (inserted (in_block script (later first)) (now (computed of_literal)) a_number (now (computed of_literal)))

twice_second : Known example.key_written_twice 1 (element ([], 2) (Key.Number (pos 0)) ([], 7) (Number (pos 2)))
twice_second = inr (inserted (in_block script (later (later first))) (now (computed of_literal)) a_number (now (computed of_literal)))

differ : (m n : ℕ) → m ≢ n → let w : Place = ([], m) in let u : Place = ([], n) in w ≢ u
differ m n d e = d (ap (λ (p : Place). p.1) e)

pub twice_at_first : Known example.key_written_twice 2 (fault element_twice 9 ([], 3))
twice_at_first = inr (written_twice (in_block script (later first)) twice_first twice_second (differ 7 3 (omega arith)))

pub twice_at_second : Known example.key_written_twice 2 (fault element_twice 19 ([], 7))
twice_at_second = inr (written_twice (in_block script (later (later first))) twice_second twice_first (differ 3 7 (omega arith)))

-- FAULTS

pub index_fault : Known example.fault_in_index 1 (fault (operation DivideByZero) 47 ([], 26))
index_fault = inr (cell_fault (in_block script (later (later (later (later (later (later first))))))) first (faulty (of_operator (operand of_literal (operand of_literal no_operand)) refl)))

pub and_fault : Known example.strict_and 1 (fault (operation DivideByZero) 0 ([], 3))
and_fault = inr (cell_fault (in_block script (later first)) first
    (faulty (of_operator (operand of_literal (operand (of_operator (operand (of_operator (operand of_literal (operand of_literal no_operand)) refl) (operand of_literal no_operand)) refl) no_operand)) refl)))

pub sum_fault : Known example.too_large 1 (fault (operation Overflow) 0 ([], 3))
sum_fault = inr (cell_fault (in_block script (later first)) first (faulty (of_operator (operand of_literal (operand of_literal no_operand)) refl)))

-- OUTPUTS OF A CALL

abbrev in_two : Path
in_two = (75, Key.Number (pos 0)) ∷ []

two_argument : Known example.outputs_are_the_callers 1 (value ([], 27) (One (Number (pos 3))))
two_argument = inr (cell_value (in_block script (later (later first))) first (computed of_literal))

two_p : Known example.outputs_are_the_callers 2 (value ([], 19) (One (Number (pos 4))))
two_p = inr (assigned (in_block (called script (later (later first)) first refl (omega arith)) first) (now (computed (of_operator (operand (of_name (stored two_argument)) (operand of_literal no_operand)) refl))))

two_q : Known example.outputs_are_the_callers 3 (value ([], 21) (One (Number (pos 8))))
two_q = inr (assigned (in_block (called script (later (later first)) first refl (omega arith)) (later first)) (now (computed (of_operator (operand (of_name (stored two_p)) (operand of_literal no_operand)) refl))))

pub prints_both : Known example.outputs_are_the_callers 4 (line ([], 28) (codes "4 8"))
unfolding digits
prints_both = inr (printed (in_block script (later (later (later first)))) (now (computed (of_operator (operand (of_name (stored (inl two_p))) (operand (of_name (stored two_q)) no_operand)) refl))))

-- A PATH THAT WOULD BE TOO LONG

abbrev f_body : Block
f_body = block_of (
    stmt 19 5 (call_alone (pos 0) (inner (record { node = 9; form = compute (operator (op.sum_of (Sign.Plus ∷ [])) (example.two (name (record { up = 0; what = input 0 })) (num 1))) }) ∷ [])
    (record { at = 23; function = 0; inputs = here 9 ∷ []; outputs = record { up = 0; what = output 0 } ∷ [] })) ∷ [])

abbrev calls_deep : ℕ → Path
calls_deep d = nested_calls 48 23 d

deep_live : (d : ℕ) → d < max_path_steps → Live example.calls_without_end (Known example.calls_without_end 0) (calls_deep d) f_body
deep_live zero h = called script first first refl (omega arith)
deep_live (suc d) h = let l = deep_length 48 23 d in called (deep_live d (omega arith)) first first refl (omega arith)

pub too_deep_at_last : Known example.calls_without_end 1 (fault too_deep 19 (calls_deep (max_path_steps - 1), 5))
too_deep_at_last = let l = deep_length 48 23 (max_path_steps - 1) in inr (too_deep_call (in_block (deep_live (max_path_steps - 1) (omega arith)) first) first (omega arith))

-- NESTED WAITS

waits_x : Known example.nested_waits 1 (value ([], 2) (One (Number (pos 1))))
waits_x = inr (assigned (in_block script (later first)) (now (computed of_literal)))

abbrev pub inner_wait : Stmt
inner_wait = stmt 50 18 (wait (scalar (here 5) ∷ []) (block_of (stmt 61 20 (print (pos 0) (plain 21 (operator (op.printf (Piece.Byte 113 ∷ [])) none))) ∷ [])))

waits_names : (x : Awaited) → x ∈ (scalar (here 2) ∷ []) → Come example.nested_waits (Known example.nested_waits 1) [] x
waits_names _ first = scalar_known (stored waits_x)
waits_names _ (later m) = elim m [ ]

pub inner_live : LiveStmt example.nested_waits (Known example.nested_waits 1) [] inner_wait
inner_live = in_block (waited script (later (later (later (later (later (later first)))))) (names_known waits_names)) first
