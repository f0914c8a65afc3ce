use Rattle.board_instances.proofs.Opened.{inner_opened, outermost_opened, placed_made, placed_nested, placed_opens, placed_rows, stands_nested}
use Rattle.board_instances.proofs.Passed.{passes_over}
use Rattle.board_instances.proofs.Turned.{turns_blocks}
use Rattle.board_instances.proofs.laws.opened_instances.Goals as goal

pub returns-clause-opens : goal.returns-clause-opens
returns-clause-opens c = λ C fs middle gs around frames entries old new last all fit more x. placed_opens C fs middle gs around frames entries old new last all fit more x

pub returns-clause-made : goal.returns-clause-made
returns-clause-made c = λ C fs middle gs around frames entries old new last t computed h x. placed_made C fs middle gs around frames entries old new last x t computed h

pub returns-clause-rows : goal.returns-clause-rows
returns-clause-rows c = λ C fs middle gs around frames entries old new last h x. placed_rows C fs middle gs around frames entries old new last x h

pub returns-clause-nested : goal.returns-clause-nested
returns-clause-nested c = λ C fs middle gs around frames entries old new last nested all fit more x. placed_nested C fs middle gs around frames entries old new last all fit more x nested

pub returns-clause-stands : goal.returns-clause-stands
returns-clause-stands c = λ C L events F x. stands_nested C L events F x

pub returns-clause-inner : goal.returns-clause-inner
returns-clause-inner c = λ C fs at number way passed xs f deep some x. inner_opened C fs at number way passed xs f deep some x

pub returns-clause-outermost : goal.returns-clause-outermost
returns-clause-outermost c = λ C fs xs some. outermost_opened C fs xs some

pub returns-clause-passes : goal.returns-clause-passes
returns-clause-passes c = λ C fs k e chunk m f some x. passes_over C fs k e chunk m f some x

pub returns-clause-turns : goal.returns-clause-turns
returns-clause-turns c = λ C fs at number offset turns added x. turns_blocks C fs at number offset turns added x
