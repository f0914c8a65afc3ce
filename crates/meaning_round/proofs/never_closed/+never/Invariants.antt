use Rattle.std.proofs.Common.{◌≡◌, ℕ, drop}
use Rattle.std.specs.Prelude.{◌&&◌, ◌||◌, nat_eq}
use Rattle.std.specs.HashSet.{contains}
use Rattle.flow.specs.declared.statement.Block.{out-Block}
use Rattle.flow.specs.View.{block_view, block_of, statements_view}
use Rattle.language.specs.Core.{local}
use Rattle.meaning_invariants.specs.Never.{never_in}
use Rattle.meaning_round.specs.Made.{is_sought, no_calls}
use Rattle.meaning_round.proofs.never_closed.+never.Given as goal

abbrev pub invariant-add_never_closed-loop-statement : goal.invariant-add_never_closed-loop-statement
invariant-add_never_closed-loop-statement g l = (n : ℕ) →
    contains nat_eq l.fn.never_closed n || (is_sought l.sought n && never_in no_calls (local n) (block_view l.block))
    ≡ contains nat_eq l.never_closed n || (is_sought l.sought n && never_in no_calls (local n) (block_of (statements_view (drop l.statement-index (out-Block g.row.A.Denot l.block).statements.items))))
