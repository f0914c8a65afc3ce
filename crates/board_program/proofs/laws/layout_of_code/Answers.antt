use Rattle.board_program.proofs.Laid.{is_layout, leads_somewhere, need_leads, own_leads, parameter_leads}
use Rattle.board_program.proofs.laws.layout_of_code.Goals as goal

pub returns-clause-laid : goal.returns-clause-laid
returns-clause-laid g = λ C I. is_layout C I

pub returns-clause-leads : goal.returns-clause-leads
returns-clause-leads g = λ C I b r reached h. leads_somewhere C I b r reached h

pub returns-clause-waits : goal.returns-clause-waits
returns-clause-waits g = λ C I b i n r reached ih hn hr. need_leads C I b i n r reached ih hn hr

pub returns-clause-own : goal.returns-clause-own
returns-clause-own g = λ C I b v h. own_leads C I b v h

pub returns-clause-passed : goal.returns-clause-passed
returns-clause-passed g = λ C I b k a e. parameter_leads C I b k a e
