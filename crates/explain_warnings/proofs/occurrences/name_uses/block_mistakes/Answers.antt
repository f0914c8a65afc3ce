use Rattle.std.proofs.Common.{rules, ◌≡◌, ◌++◌, map, ap, sym, ◌∙◌, append_assoc}
use Rattle.std.proofs.lemmas.Result.{on_ok_weaker}
use Rattle.syntax_trees.specs.View.{statement_view}
use Rattle.syntax_trees.specs.declared.tree.Block.{out-Block}
use Rattle.syntax_trees.proofs.Views.{view-Block}
use Rattle.language.specs.Tree.{statements_of}
use Rattle.explain_warnings.specs.declared.name_use.NameUseKind.TheVariants.{EmptyBlock}
use Rattle.explain_warnings.specs.Forms.{is_without}
use Rattle.explain_warnings.specs.Mentions.{byte_at, block_mistakes}
use Rattle.explain_warnings.specs.Occurrences.{noted}
use Rattle.explain_warnings.specs.Lists.{list_mistakes}
use Rattle.explain_warnings.proofs.First.{without_is}
use Rattle.explain_warnings.proofs.occurrences.name_uses.block_mistakes.Goals as goal

pub returns : goal.returns
returns g c =
    let A = g.row.A.Denot in
    let own = out-Block A c.args.body.now in
    let ss = statements_of (map (statement_view {A = A}) own.statements.items) in
    let old = c.args.name_uses.now.items in
    let empty : c.is_empty.result ≡ is_without ss =
    let w = without_is (statement_view {A = A}) own.statements.items in search rules in
    on_ok_weaker c.list_mistakes.result (λ adds. adds ∙ ap (λ l. l ++ list_mistakes ss)
    (c.in_ok-note.ensures
    ∙ ap (λ h. old ++ noted h (record { kind = EmptyBlock; number = 0; at = record { from = own.from; to = c.saturating_add.result } })) empty
    ∙ ap (λ t. old ++ noted (is_without ss) (record { kind = EmptyBlock; number = 0; at = record { from = own.from; to = t } })) c.saturating_add.ensures)
    ∙ append_assoc old (noted (is_without ss) (record { kind = EmptyBlock; number = 0; at = byte_at own.from })) (list_mistakes ss)
    ∙ ap (λ l. old ++ l) (sym (ap block_mistakes (view-Block A c.args.body.now)))) c.list_mistakes.ensures
