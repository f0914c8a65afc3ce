use Rattle.std.proofs.Common.{rules, ◌≡◌, ◌∙◌, ap, subst, List, ℕ, [], ◌∷◌, ◌++◌, OnErr}
use Rattle.std.specs.Fmt.{decimal}
use Rattle.paths.specs.declared.steps.Step.{Step}
use Rattle.values.specs.Sinks.{Beginning}
use Rattle.swt_trace.specs.Report.{quoted, step_text}
use Rattle.swt_trace.proofs.Parts.{behind_on_err, in_front, text_step}
use Rattle.swt_trace.proofs.report.write_step.Goals as goal

pub returns-in_err-write_all-in-Text-clause-err : goal.returns-in_err-write_all-in-Text-clause-err
returns-in_err-write_all-in-Text-clause-err g c =
    let s : Step = c.args.step.now in
    let start : List ℕ = 47 ∷ decimal c.args.step.now.offset ++ 46 ∷ [] in
    let is : c.as_bytes-in-Text.result.now ≡ 47 ∷ decimal c.args.step.now.offset ++ 46 ∷ [] = c.as_bytes-in-Text.ensures.value ∙ c.as_str-in-Text.ensures.value ∙ c.start_of_step-start.ensures in
    let part : Beginning (g.W.Sink.taken c.args.sink.now) (47 ∷ decimal c.args.step.now.offset ++ 46 ∷ []) (g.W.Sink.taken c.write_all-in-Text.new.sink) =
    subst (λ (xs : List ℕ). Beginning (g.W.Sink.taken c.args.sink.now) xs (g.W.Sink.taken c.write_all-in-Text.new.sink)) is c.in_err-write_all-in-Text.ensures.err in
    let b : Beginning (g.W.Sink.taken c.args.sink.now) (step_text c.args.step.now) (g.W.Sink.taken c.write_all-in-Text.new.sink) =
    subst (λ (xs : List ℕ). Beginning (g.W.Sink.taken c.args.sink.now) xs (g.W.Sink.taken c.write_all-in-Text.new.sink)) (text_step s c.in-Text.key c.in-Text.is)
    (in_front (g.W.Sink.taken c.args.sink.now) (g.W.Sink.taken c.write_all-in-Text.new.sink) start (quoted c.in-Text.key) part) in
    search (rules, b)

pub returns-in_ok-write_all-in-Text-clause-err : goal.returns-in_ok-write_all-in-Text-clause-err
returns-in_ok-write_all-in-Text-clause-err g c =
    let s : Step = c.args.step.now in
    let old : List ℕ = g.W.Sink.taken c.args.sink.now in
    let new : List ℕ = g.W.Sink.taken c.write_quoted.new.sink in
    let start : List ℕ = 47 ∷ decimal c.args.step.now.offset ++ 46 ∷ [] in
    let is : c.as_bytes-in-Text.result.now ≡ 47 ∷ decimal c.args.step.now.offset ++ 46 ∷ [] = c.as_bytes-in-Text.ensures.value ∙ c.as_str-in-Text.ensures.value ∙ c.start_of_step-start.ensures in
    subst (λ (xs : List ℕ). OnErr c.write_quoted.result (Beginning (g.W.Sink.taken c.args.sink.now) xs (g.W.Sink.taken c.write_quoted.new.sink)))
    (ap (λ (xs : List ℕ). start ++ quoted xs) c.as_bytes-in-Text-2.ensures ∙ text_step s c.in-Text.key c.in-Text.is)
    (behind_on_err c.write_quoted.result old (g.W.Sink.taken c.write_all-in-Text.new.sink) new start (quoted c.as_bytes-in-Text-2.result.now)
    (c.in_ok-write_all-in-Text.ensures.ok ∙ ap (λ (xs : List ℕ). old ++ xs) is) c.write_quoted.ensures.err)
