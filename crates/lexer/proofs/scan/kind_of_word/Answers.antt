use Rattle.std.proofs.Common.{refl, sym, ◌∙◌}
use Rattle.lexer.proofs.Words.{first_of, of_two, of_four, of_six, of_seven}
use Rattle.lexer.proofs.scan.kind_of_word.Goals as goal

pub returns-in-2 : goal.returns-in-2
returns-in-2 c =
    first_of _ _ c.either.ensures c.as_slice-in-2.ensures (first_of _ _ c.either-or_in.ensures c.as_slice.ensures refl)
    ∙ sym (of_two c.args.word.now c.in-2.is)

pub returns-in-4 : goal.returns-in-4
returns-in-4 c =
    first_of _ _ c.either-in-4.ensures c.as_slice-in-4-3.ensures
    (first_of _ _ c.either-or_wait.ensures c.as_slice-in-4-2.ensures (first_of _ _ c.either-or_true.ensures c.as_slice-in-4.ensures refl))
    ∙ sym (of_four c.args.word.now c.in-4.is)

pub returns-in-6 : goal.returns-in-6
returns-in-6 c =
    first_of _ _ c.either-in-6.ensures c.as_slice-in-6-2.ensures (first_of _ _ c.either-or_import.ensures c.as_slice-in-6.ensures refl)
    ∙ sym (of_six c.args.word.now c.in-6.is)

pub returns-in-7 : goal.returns-in-7
returns-in-7 c =
    first_of _ _ c.either-in-7.ensures c.as_slice-in-7-2.ensures (first_of _ _ c.either-or_foreach.ensures c.as_slice-in-7.ensures refl)
    ∙ sym (of_seven c.args.word.now c.in-7.is)
