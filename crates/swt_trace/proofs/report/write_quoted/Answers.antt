use Rattle.std.proofs.Common.{rules, ◌∙◌, refl, ap, [], ◌∷◌, ◌++◌, append_assoc}
use Rattle.std.specs.List.{flat_map}
use Rattle.values.specs.Sinks.{Beginning}
use Rattle.swt_trace.specs.Report.{quoted, spelled}
use Rattle.swt_trace.proofs.Pieces.{beginning_in}
use Rattle.swt_trace.proofs.Parts.{behind_on_err, in_front}
use Rattle.swt_trace.proofs.report.write_quoted.Goals as goal

pub returns-in_err-write_all-clause-err : goal.returns-in_err-write_all-clause-err
returns-in_err-write_all-clause-err g c =
    let b : Beginning (g.W.Sink.taken c.args.sink.now) (quoted c.args.bytes.now) (g.W.Sink.taken c.write_all.new.sink) =
    in_front _ _ (34 ∷ []) (flat_map spelled c.args.bytes.now ++ 34 ∷ []) c.in_err-write_all.ensures.err in
    search (rules, b)

pub returns-in_err-write_spelled-clause-err : goal.returns-in_err-write_spelled-clause-err
returns-in_err-write_spelled-clause-err g c =
    let b : Beginning (g.W.Sink.taken c.args.sink.now) (quoted c.args.bytes.now) (g.W.Sink.taken c.write_spelled.new.sink) =
    beginning_in _ (g.W.Sink.taken c.write_all.new.sink) _ (quoted c.args.bytes.now) (34 ∷ []) (flat_map spelled c.args.bytes.now) (34 ∷ []) refl c.in_ok-write_all.ensures.ok c.in_err-write_spelled.ensures.err in
    search (rules, b)

pub returns-clause-err : goal.returns-clause-err
returns-clause-err g c =
    let old = g.W.Sink.taken c.args.sink.now in
    behind_on_err c.write_all-2.result old (g.W.Sink.taken c.write_spelled.new.sink) _ (34 ∷ flat_map spelled c.args.bytes.now) (34 ∷ [])
    (c.in_ok-write_spelled.ensures.ok ∙ ap (λ xs. xs ++ flat_map spelled c.args.bytes.now) c.in_ok-write_all.ensures.ok ∙ append_assoc old (34 ∷ []) (flat_map spelled c.args.bytes.now))
    c.write_all-2.ensures.err
