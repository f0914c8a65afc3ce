use Rattle.std.proofs.Common.{rules, ◌≡◌, ◌∙◌, sym, ap, [], ◌∷◌, ◌++◌, append-nil, append_assoc}
use Rattle.std.specs.Fmt.{decimal}
use Rattle.values.specs.Sinks.{Beginning}
use Rattle.swt_trace.specs.Report.{text_line, statement_text, path_text}
use Rattle.swt_trace.proofs.Pieces.{beginning_in}
use Rattle.swt_trace.proofs.Parts.{behind_on_err, line_parts, line_end}
use Rattle.swt_trace.proofs.report.write_statement.Goals as goal

pub returns-in_err-write_all-clause-err : goal.returns-in_err-write_all-clause-err
returns-in_err-write_all-clause-err g c =
    let s = c.args.statement.now in let start = c.args.start.now in
    let before : c.as_bytes.result.now ≡ start ++ (decimal s.at ++ 32 ∷ []) = c.as_bytes.ensures.value ∙ c.as_str.ensures.value ∙ c.before_path-before.ensures in
    let b : Beginning (g.W.Sink.taken c.args.sink.now) (text_line (start ++ statement_text s)) (g.W.Sink.taken c.write_all.new.sink) =
    beginning_in _ (g.W.Sink.taken c.args.sink.now) _ _ [] c.as_bytes.result.now (path_text s.path.items ++ 10 ∷ [])
    (line_parts start (decimal s.at) (path_text s.path.items) ∙ ap (λ xs. xs ++ (path_text s.path.items ++ 10 ∷ [])) (sym before)) (sym (append-nil _)) c.in_err-write_all.ensures.err in
    search (rules, b)

pub returns-in_err-write_path-clause-err : goal.returns-in_err-write_path-clause-err
returns-in_err-write_path-clause-err g c =
    let s = c.args.statement.now in let start = c.args.start.now in
    let before : c.as_bytes.result.now ≡ start ++ (decimal s.at ++ 32 ∷ []) = c.as_bytes.ensures.value ∙ c.as_str.ensures.value ∙ c.before_path-before.ensures in
    let b : Beginning (g.W.Sink.taken c.args.sink.now) (text_line (start ++ statement_text s)) (g.W.Sink.taken c.write_path.new.sink) =
    beginning_in _ (g.W.Sink.taken c.write_all.new.sink) _ _ (start ++ (decimal s.at ++ 32 ∷ [])) (path_text s.path.items) (10 ∷ [])
    (line_parts start (decimal s.at) (path_text s.path.items)) (c.in_ok-write_all.ensures.ok ∙ ap (λ xs. g.W.Sink.taken c.args.sink.now ++ xs) before) c.in_err-write_path.ensures.err in
    search (rules, b)

pub returns-clause-err : goal.returns-clause-err
returns-clause-err g c =
    let s = c.args.statement.now in let start = c.args.start.now in let old = g.W.Sink.taken c.args.sink.now in
    let before : c.as_bytes.result.now ≡ start ++ (decimal s.at ++ 32 ∷ []) = c.as_bytes.ensures.value ∙ c.as_str.ensures.value ∙ c.before_path-before.ensures in
    rw (line_end start (decimal s.at) (path_text s.path.items))
    (behind_on_err c.write_all-2.result old (g.W.Sink.taken c.write_path.new.sink) _ ((start ++ (decimal s.at ++ 32 ∷ [])) ++ path_text s.path.items) (10 ∷ [])
    (c.in_ok-write_path.ensures.ok ∙ ap (λ xs. xs ++ path_text s.path.items) (c.in_ok-write_all.ensures.ok ∙ ap (λ xs. old ++ xs) before) ∙ append_assoc old _ _)
    c.write_all-2.ensures.err)
