use Rattle.std.proofs.Common.{rules, arith, ◌≡◌, ◌<◌, ◌≤◌, ◌++◌, ◌∷◌, [], length, get_or, take, sym, ap, ◌∙◌}
use Rattle.std.proofs.lemmas.List.{take_all}
use Rattle.flow.specs.declared.statement.Block.{out-Block}
use Rattle.flow.specs.declared.statement.Statement.{Statement}
use Rattle.flow.specs.View.{block_view, statement_view}
use Rattle.meaning_round.specs.Made.{arrays_of, declares_here, tasks_of}
use Rattle.meaning_invariants.specs.Active.{Active, Candidate}
use Rattle.meaning_invariants.specs.Listed.{all_active}
use Rattle.meaning_round.proofs.Made.{declares_joins, active_joins, made_all, made_step}
use Rattle.meaning_round.proofs.state.RoundState.add_statements.Goals as goal

pub loop-statement-preserved : goal.loop-statement-preserved
loop-statement-preserved g c =
    let A = g.row.A.Denot in
    let i = c.args.instance in
    let b = block_view {A = A} c.args.block.now in
    let ss = (out-Block A c.args.block.now).statements.items in
    let within : c.loop-statement.statement-index < length (out-Block g.row.A.Denot c.args.block.now).statements.items = grind arith in
    let item : get_or (out-Block g.row.A.Denot c.args.block.now).statements.items c.loop-statement.statement-index c.statement-item.result ≡ c.statement-item.result = search rules in
    record {
      tasks = made_step A Active (λ z. all_active i z) (active_joins i) ss c.loop-statement.statement-index c.statement-item.result
          (tasks_of {A = A} c.args.self.now) (tasks_of {A = A} c.loop-statement.self) (tasks_of {A = A} c.add_statement.new.self) within c.loop-statement.invariant.tasks
          (c.in_ok-add_statement.ensures.tasks ∙ ap (λ (z : Statement A). tasks_of {A = A} c.loop-statement.self ++ all_active i (statement_view {A = A} z ∷ [])) (sym item));
      worklist = c.add_statement.ensures.worklist ∙ c.loop-statement.invariant.worklist;
      arrays = made_step A Candidate (λ z. declares_here i b z) (declares_joins i b) ss c.loop-statement.statement-index c.statement-item.result
          (arrays_of {A = A} c.args.self.now) (arrays_of {A = A} c.loop-statement.self) (arrays_of {A = A} c.add_statement.new.self) within c.loop-statement.invariant.arrays
          (c.in_ok-add_statement.ensures.arrays ∙ ap (λ (z : Statement A). arrays_of {A = A} c.loop-statement.self ++ declares_here i b (statement_view {A = A} z ∷ [])) (sym item));
      fact_base = c.add_statement.ensures.fact_base ∙ c.loop-statement.invariant.fact_base;
      flow = c.add_statement.ensures.flow ∙ c.loop-statement.invariant.flow;
      passed = c.add_statement.ensures.passed ∙ c.loop-statement.invariant.passed;
      waiting = c.add_statement.ensures.waiting ∙ c.loop-statement.invariant.waiting;
    }

pub returns : goal.returns
returns g c =
    let A = g.row.A.Denot in
    let i = c.args.instance in
    let ss = (out-Block A c.args.block.now).statements.items in
    let past : length (out-Block g.row.A.Denot c.args.block.now).statements.items ≤ c.loop-statement.statement-index = grind arith in
    let full = take_all c.loop-statement.statement-index ss past in
    record {
      tasks = made_all A Active (λ z. all_active i z) c.args.block.now (take c.loop-statement.statement-index ss) (tasks_of {A = A} c.args.self.now) (tasks_of {A = A} c.loop-statement.self) full c.loop-statement.invariant.tasks;
      worklist = c.loop-statement.invariant.worklist;
      arrays = made_all A Candidate (λ z. declares_here i (block_view {A = A} c.args.block.now) z) c.args.block.now (take c.loop-statement.statement-index ss)
          (arrays_of {A = A} c.args.self.now) (arrays_of {A = A} c.loop-statement.self) full c.loop-statement.invariant.arrays;
      fact_base = c.loop-statement.invariant.fact_base;
      flow = c.loop-statement.invariant.flow;
      passed = c.loop-statement.invariant.passed;
      waiting = c.loop-statement.invariant.waiting;
    }
