-- The answers to needs.
use Rattle.std.specs.Prelude.{List, Option, Some, None}
use Rattle.board_program.specs.declared.program.ResolvedNeed.{ResolvedNeed}
use Rattle.board_program.specs.declared.program.ResolvedNeed.TheVariants as Waits
use Rattle.board_program.specs.declared.lexical_address.LexicalAddress.{LexicalAddress}
use Rattle.dataflow.specs.System.{Answer, Found, Missing, Content}
use Rattle.board_history.specs.Fields.{Absent, Counted, DatumOf, LiteralOf, Slot, slot_at}
use Rattle.board_history.specs.Fields as fields
use Rattle.task_code.specs.Code.{Code}
use Rattle.values.specs.declared.key.Key.{Key}
use Rattle.values.specs.declared.value.Scalar.{Scalar}
use Rattle.board_data.specs.Wanted.{wanted_found}

-- the scalar, or that there is none
abbrev pub scalar_answer : Option Scalar → Answer Key Scalar
scalar_answer None = Missing
scalar_answer (Some v) = Found v

-- a whole array
abbrev pub content_answer : fields.Content → Answer Key Scalar
content_answer fields.Unset = Missing
content_answer (fields.Holding v) = Missing
content_answer (fields.Mapping xs) = Content xs

abbrev pub cell_answer : Option Counted → Answer Key Scalar
cell_answer None = Missing
cell_answer (Some c) = content_answer c.content

module _ (C : Code) (cs : List (Option Counted)) where
  abbrev pub array_answer : Slot → Answer Key Scalar
  array_answer Absent = Missing
  array_answer (DatumOf d) = cell_answer (slot_at cs d)
  array_answer (LiteralOf e k) = Missing

  -- the answer to a need, by the slots of its names
  abbrev pub wanted_answer : (Option LexicalAddress → Slot) → ResolvedNeed → Answer Key Scalar
  wanted_answer f (Waits.Stored r) = scalar_answer (wanted_found C cs f (Waits.Stored r))
  wanted_answer f (Waits.Closed r) = array_answer (f r)
  wanted_answer f (Waits.At a r) = scalar_answer (wanted_found C cs f (Waits.At a r))
  wanted_answer f (Waits.AtKey a k) = scalar_answer (wanted_found C cs f (Waits.AtKey a k))
