use Rattle.std.proofs.Common.{◌∙◌, sym}
use Rattle.board_data.proofs.Compared.{content_listed, content_unlisted}
use Rattle.board_data.proofs.answers.is_listed.Goals as goal

pub returns-then-is_array : goal.returns-then-is_array
returns-then-is_array c =
    λ rises. rw c.in-Content.is (content_listed c.args.store.now c.args.d c.in-Content.map c.is_content.result (sym c.is_array.ensures ∙ c.if-is_array.true) (c.is_content.ensures rises))

pub returns-else-is_array : goal.returns-else-is_array
returns-else-is_array c =
    λ rises. rw (c.in-Content.is, c.if-is_array.false) (content_unlisted c.args.store.now c.args.d _ (sym c.is_array.ensures ∙ c.if-is_array.false))
