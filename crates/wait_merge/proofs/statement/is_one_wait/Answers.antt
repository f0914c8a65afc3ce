use Rattle.std.proofs.Common.{map, ap, sym, ◌∙◌, arith, List}
use Rattle.std.proofs.lemmas.Grind.{common_steps}
use Rattle.flow.specs.declared.statement.Statement.{Statement}
use Rattle.wait_merge.specs.Merged.{Seen, alone, statement_seen}
use Rattle.wait_merge.proofs.Actions.{seen_statement}
use Rattle.wait_merge.proofs.Blocks.{seen_alone, alone_one, alone_empty, alone_many}
use Rattle.wait_merge.proofs.statement.is_one_wait.Goals as goal

pub returns-in-len1 : goal.returns-in-len1
returns-in-len1 g c =
    let A = g.row.A.Denot in
    let x = c.only-item.result in
    c.is_wait.ensures
    ∙ ap (λ (s : Seen). s.wait) (sym (seen_statement A x))
    ∙ alone_one (statement_seen {A = A}) c.as_slice.result.now x (grind (arith, common_steps)) (grind (arith, common_steps))
    ∙ ap (λ (ys : List (Statement A)). alone (map (statement_seen {A = A}) ys)) c.as_slice.ensures.value
    ∙ sym (seen_alone A c.args.block.now)

pub returns-in_default : goal.returns-in_default
returns-in_default g c =
    let A = g.row.A.Denot in
    alone_empty (statement_seen {A = A}) c.as_slice.result.now (grind (arith, common_steps))
    ∙ ap (λ (ys : List (Statement A)). alone (map (statement_seen {A = A}) ys)) c.as_slice.ensures.value
    ∙ sym (seen_alone A c.args.block.now)

pub returns-in_default-2 : goal.returns-in_default-2
returns-in_default-2 g c =
    let A = g.row.A.Denot in
    alone_many (statement_seen {A = A}) c.as_slice.result.now (grind (arith, common_steps))
    ∙ ap (λ (ys : List (Statement A)). alone (map (statement_seen {A = A}) ys)) c.as_slice.ensures.value
    ∙ sym (seen_alone A c.args.block.now)
