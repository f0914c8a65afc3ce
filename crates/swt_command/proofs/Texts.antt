-- Reports that tell the same have one text and one status.
use Rattle.std.proofs.Common.{◌≡◌, ℕ, List, [], ◌∷◌, ◌++◌, map, length, refl, sym, ap, ap₂, ◌∙◌}
use Rattle.std.specs.Prelude.{codes}
use Rattle.std.specs.List.{flat_map}
use Rattle.std.specs.Fmt.{decimal}
use Rattle.task_code.specs.Places as Places
use Rattle.task_code.specs.declared.event.Event.{Event}
use Rattle.paths.specs.Names.{fault_name}
use Rattle.paths.specs.declared.faults.Fault.{Fault}
use Rattle.paths.specs.declared.faults.FaultKind.{FaultKind}
use Rattle.paths.specs.declared.statements.StatementInstance.{StatementInstance}
use Rattle.paths.specs.declared.steps.Step.{Step}
use Rattle.board.specs.View.{path_view}
use Rattle.board_runs.specs.declared.report.End.{End}
use Rattle.board_runs.specs.declared.report.End.TheVariants as Ends
use Rattle.board_runs.specs.declared.report.Report.{Report}
use Rattle.board_runs.specs.Same.{SameEnd, place_view}
use Rattle.board_runs.proofs.Ordered.{same_path}
use Rattle.swt_status.specs.declared.status.Status.{Status}
use Rattle.swt_status.specs.Statuses.{end_status, report_status}
use Rattle.swt_trace.specs.Report.{ReportText, blocked_line, end_text, fault_line, limit_line, path_text, statement_text, text_line}
use Rattle.swt_command.specs.Same.{TellSame}

statement_same : (s t : StatementInstance) → place_view s ≡ place_view t → statement_text s ≡ statement_text t
statement_same s t e =
    let path : s.path.items ≡ t.path.items = same_path s.path.items t.path.items (ap (λ (x : ℕ × List Places.Step). x.1) e) in
    ap₂ (λ (n : ℕ) (p : List Step). decimal n ++ 32 ∷ path_text p) (ap (λ (x : ℕ × List Places.Step). x.0) e) path

fault_same : (f g : Fault) → f.kind ≡ g.kind → place_view f.statement ≡ place_view g.statement → fault_line f ≡ fault_line g
fault_same f g kind place =
    ap₂ (λ (k : FaultKind) (text : List ℕ). text_line (codes "swt: fault " ++ (fault_name k ++ 32 ∷ text))) kind (statement_same f.statement g.statement place)

blocked_same : (ss ts : List StatementInstance) → map place_view ss ≡ map place_view ts → flat_map blocked_line ss ≡ flat_map blocked_line ts
blocked_same [] [] e = refl
blocked_same [] (t ∷ ts) e = absurd (cc (e))
blocked_same (s ∷ ss) [] e = absurd (cc (e))
blocked_same (s ∷ ss) (t ∷ ts) e =
    let one : place_view s ≡ place_view t = cc in
    let rest : map place_view ss ≡ map place_view ts = cc in
    ap₂ (λ (line lines : List ℕ). line ++ lines) (ap (λ (text : List ℕ). text_line (codes "swt: blocked " ++ text)) (statement_same s t one)) (blocked_same ss ts rest)

ends_same : (d e : End) (r s : Report) → SameEnd d e → r.history.items ≡ s.history.items → map place_view r.blocked.items ≡ map place_view s.blocked.items → end_text d r ≡ end_text e s
ends_same (Ends.Fault f) (Ends.Fault g) r s x history blocked = fault_same f g x.0 x.1
ends_same (Ends.Fault f) Ends.Quiet r s x history blocked = absurd x
ends_same (Ends.Fault f) Ends.Limit r s x history blocked = absurd x
ends_same Ends.Quiet (Ends.Fault g) r s x history blocked = absurd x
ends_same Ends.Quiet Ends.Quiet r s x history blocked = blocked_same r.blocked.items s.blocked.items blocked
ends_same Ends.Quiet Ends.Limit r s x history blocked = absurd x
ends_same Ends.Limit (Ends.Fault g) r s x history blocked = absurd x
ends_same Ends.Limit Ends.Quiet r s x history blocked = absurd x
ends_same Ends.Limit Ends.Limit r s x history blocked = ap (λ (es : List Event). limit_line (length es)) history

pub one_text : (r s : Report) → TellSame r s → ReportText r ≡ ReportText s
one_text r s x = ap₂ (λ (lines rest : List ℕ). lines ++ rest) (ap (λ (ls : List (List ℕ)). flat_map text_line ls) x.lines) (ends_same r.end s.end r s x.end x.history x.blocked)

statuses_same : (d e : End) (ss ts : List StatementInstance) → SameEnd d e → map place_view ss ≡ map place_view ts → end_status d ss ≡ end_status e ts
statuses_same (Ends.Fault f) (Ends.Fault g) ss ts x blocked = refl
statuses_same (Ends.Fault f) Ends.Quiet ss ts x blocked = absurd x
statuses_same (Ends.Fault f) Ends.Limit ss ts x blocked = absurd x
statuses_same Ends.Quiet (Ends.Fault g) ss ts x blocked = absurd x
statuses_same Ends.Quiet Ends.Quiet [] [] x blocked = refl
statuses_same Ends.Quiet Ends.Quiet [] (t ∷ ts) x blocked = absurd (cc (blocked))
statuses_same Ends.Quiet Ends.Quiet (s ∷ ss) [] x blocked = absurd (cc (blocked))
statuses_same Ends.Quiet Ends.Quiet (s ∷ ss) (t ∷ ts) x blocked = refl
statuses_same Ends.Quiet Ends.Limit ss ts x blocked = absurd x
statuses_same Ends.Limit (Ends.Fault g) ss ts x blocked = absurd x
statuses_same Ends.Limit Ends.Quiet ss ts x blocked = absurd x
statuses_same Ends.Limit Ends.Limit ss ts x blocked = refl

pub one_status : (r s : Report) → TellSame r s → report_status r ≡ report_status s
one_status r s x = statuses_same r.end s.end r.blocked.items s.blocked.items x.end x.blocked
