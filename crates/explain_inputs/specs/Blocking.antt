-- The missing inputs of a blocked statement.
use Rattle.std.specs.Prelude.{◌≡◌, ℕ, ◌<◌, length}
use Rattle.language.specs.Core.{Core, Action, stmt}
use Rattle.language.specs.Meaning.{Known}
use Rattle.meaning_facts.specs.Paths as instances
use Rattle.meaning_outcomes.specs.declared.knowledge.Knowledge.{Knowledge}
use Rattle.paths.specs.declared.statements.StatementInstance.{StatementInstance}
use Rattle.meaning_outcomes.specs.Read.{path_of}
use Rattle.flow_index.specs.Sites.{site_view}
use Rattle.explain_inputs.specs.declared.blocked_statement.BlockedStatement.{BlockedStatement}
use Rattle.explain_inputs.specs.Inputs.{inputs_of, inputs_view}
use Rattle.explain_inputs.specs.Missing.{AreMissing}

-- the site is of this statement, the instance is the one at its path, and `missing` is exactly its inputs that are
-- not known
pub record IsWaiting {A : Type 0} (s : Core) (k : Knowledge) (b : StatementInstance) (n : ℕ) (a : Action) (w : BlockedStatement A) : Type 0 where
  pub statement : site_view w.site.now ≡ stmt b.at n a
  pub within : w.instance < length k.fact_base.instances.all.items
  pub path : instances.path_of k.fact_base.instances.all.items w.instance ≡ path_of b
  pub missing : AreMissing s (Known s k.rounds) (path_of b) (inputs_of a) (inputs_view w.missing.items)
