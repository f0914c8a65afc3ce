use Rattle.std.proofs.Common.{◌∙◌, ap, ◌+◌, length}
use Rattle.std.proofs.lemmas.List.{length_push}
use Rattle.ref_counting.specs.Rows.{row}
use Rattle.ref_counting.proofs.Filling.{row_empty, rows_of}
use Rattle.ref_counting.proofs.numbered_lists.NumberedLists.new.Goals as goal

pub loop-row-preserved : goal.loop-row-preserved
loop-row-preserved g c = record {
  count = ap length c.in_ok-push.ensures.items ∙ length_push c.loop-row.rows.items c.new.result ∙ ap (λ n. n + 1) c.loop-row.invariant.count;
  empty = λ k. ap (λ vs. row (rows_of vs) k) c.in_ok-push.ensures.items ∙ row_empty c.loop-row.rows.items c.new.result c.new.ensures.items c.loop-row.invariant.empty k;
}
