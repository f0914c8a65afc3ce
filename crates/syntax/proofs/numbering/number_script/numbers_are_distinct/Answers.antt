use Rattle.language.proofs.Numbers.{numbers-numbered}
use Rattle.syntax.proofs.numbering.number_script.numbers_are_distinct.Goals as goal

pub returns : goal.returns
returns c = numbers-numbered 1
