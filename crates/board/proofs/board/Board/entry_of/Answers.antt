use Rattle.std.proofs.Common.{rules, ◌∙◌, sym, ap}
use Rattle.board_instances.specs.View.{job_view, row_view}
use Rattle.board.proofs.Remaining.{entry_told, nothing_told, past_told, script_told}
use Rattle.board.proofs.board.Board.entry_of.Goals as goal

pub returns-in-Does-clause-left : goal.returns-in-Does-clause-left
returns-in-Does-clause-left c =
    rw (← c.self.view_is) (entry_told c.self.inside c.self.invariant c.args.number (row_view c.in-Some.found) (search rules) _ c.in-Does.entry _ (sym c.job.ensures ∙ ap job_view c.in-Does.is))

pub returns-in-Does-clause-none : goal.returns-in-Does-clause-none
returns-in-Does-clause-none c =
    rw (← c.self.view_is) (past_told c.self.inside c.self.invariant c.args.number (row_view c.in-Some.found) (search rules))

pub returns-in-Script-clause-left : goal.returns-in-Script-clause-left
returns-in-Script-clause-left c =
    rw (← c.self.view_is) (λ i left. absurd (script_told c.self.inside c.self.invariant c.args.number (row_view c.in-Some.found) (search rules) (sym c.job.ensures ∙ ap job_view c.in-Script.is) i left.0 left.1))

pub returns-in-None-clause-left : goal.returns-in-None-clause-left
returns-in-None-clause-left c =
    rw (← c.self.view_is) (λ i left. absurd (nothing_told c.self.inside c.self.invariant c.args.number (search rules) i left.0 left.1))
