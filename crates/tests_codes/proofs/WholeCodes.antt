-- The codes that tests run are whole.
use Rattle.std.proofs.Common.{Bool, List, refl}
use Rattle.values.specs.declared.format.FormatPiece.{FormatPiece}
use Rattle.task_code.specs.Whole.{IsCode}
use Rattle.task_code.proofs.Checked.{code_checked}
use Rattle.tests_codes.specs.Codes.{asserts, prints}

pub prints_whole : (ps : List FormatPiece) → IsCode (prints ps)
prints_whole ps = code_checked (prints ps) refl

pub asserts_whole : (b : Bool) → IsCode (asserts b)
asserts_whole b = code_checked (asserts b) refl
