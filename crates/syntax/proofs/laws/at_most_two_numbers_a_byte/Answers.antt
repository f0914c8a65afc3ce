use Rattle.syntax.proofs.Sizes.{script_fits, tokens_fit}
use Rattle.syntax.proofs.laws.at_most_two_numbers_a_byte.Goals as goal

pub returns-clause-tokens : goal.returns-clause-tokens
returns-clause-tokens c = script_fits

pub returns-clause-bytes : goal.returns-clause-bytes
returns-clause-bytes c = tokens_fit
