use Rattle.code_laws.proofs.SourcesFound.{cells_follow, sources_found}
use Rattle.code_laws.proofs.scalar_sources.laid_code_finds_sources.Goals as goal

pub returns-clause-sources : goal.returns-clause-sources
returns-clause-sources g = λ t tree fs ds C place typed single kinds declared emitted. sources_found t tree fs ds C place typed single kinds declared emitted

pub returns-clause-order : goal.returns-clause-order
returns-clause-order g = λ t tree fs ds C place typed single emitted. cells_follow t tree fs ds C place typed single emitted
