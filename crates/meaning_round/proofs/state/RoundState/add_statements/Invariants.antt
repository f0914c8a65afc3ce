use Rattle.std.proofs.Common.{◌≡◌, ◌++◌, take}
use Rattle.flow.specs.declared.statement.Block.{out-Block}
use Rattle.flow.specs.View.{block_view, statements_view}
use Rattle.meaning_invariants.specs.Listed.{all_active}
use Rattle.meaning_round.specs.Made.{arrays_of, declares_here, tasks_of, waiting_of}
use Rattle.meaning_round.proofs.state.RoundState.add_statements.Given as goal

abbrev pub invariant-loop-statement : goal.invariant-loop-statement
invariant-loop-statement g l = record {
  tasks : tasks_of {A = g.row.A.Denot} l.self ≡ tasks_of {A = g.row.A.Denot} l.fn.self ++ all_active l.instance (statements_view (take l.statement-index (out-Block g.row.A.Denot l.block).statements.items));
  worklist : l.self.worklist ≡ l.fn.self.worklist;
  arrays : arrays_of {A = g.row.A.Denot} l.self
      ≡ arrays_of {A = g.row.A.Denot} l.fn.self ++ declares_here l.instance (block_view {A = g.row.A.Denot} l.block) (statements_view (take l.statement-index (out-Block g.row.A.Denot l.block).statements.items));
  fact_base : l.self.fact_base ≡ l.fn.self.fact_base;
  flow : l.self.flow.now ≡ l.fn.self.flow.now;
  passed : l.self.passed ≡ l.fn.self.passed;
  waiting : waiting_of {A = g.row.A.Denot} l.self ≡ waiting_of {A = g.row.A.Denot} l.fn.self;
}
