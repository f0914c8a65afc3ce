use Rattle.std.proofs.Common.{rules, ap}
use Rattle.syntax_trees.specs.View.{over_of, range_of}
use Rattle.language.specs.Numbered.{over_size}
use Rattle.syntax.proofs.numbering.number_statements.source.Goals as goal

pub returns-in-Range-clause-next : goal.returns-in-Range-clause-next
returns-in-Range-clause-next g c =
    let same = ap (λ s. over_size (over_of {A = g.row.A.Denot} s)) c.in-Range.is in
    let here = ap (λ r. over_size (range_of {A = g.row.A.Denot} r)) c.deref_mut.ensures.value in
    search rules
