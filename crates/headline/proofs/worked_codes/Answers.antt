use Rattle.headline.proofs.Worked.{fibonacci_is, fibonacci_whole, fibonacci_nodes, fibonacci_exact, filled_is, filled_whole, filled_nodes, filled_exact}
use Rattle.headline.proofs.worked_codes.Goals as goal

pub returns-clause-fibonacci : goal.returns-clause-fibonacci
returns-clause-fibonacci g = (fibonacci_is, fibonacci_whole, fibonacci_nodes, fibonacci_exact)

pub returns-clause-filled : goal.returns-clause-filled
returns-clause-filled g = (filled_is, filled_whole, filled_nodes, filled_exact)
