-- A report of a run of a script's code, against the script.
use Rattle.std.proofs.Common.{◌≡◌, ℕ, ◌+◌, List, [], ◌∷◌, ◌++◌, refl, sym, subst}
use Rattle.dataflow.specs.Machine.{Event, Begin, End as Over, Back, Steps, start}
use Rattle.language.specs.Core.{Core}
use Rattle.language.specs.Meaning.{Meaning}
use Rattle.language.specs.Outcomes.{Clean, Lines, Faults}
use Rattle.language.specs.Resolved.{core}
use Rattle.task_code.specs.Code.{Code}
use Rattle.task_code.specs.Machine.{CodeState, CodeStep, Run, Quiet}
use Rattle.task_code.specs.System.{code_system}
use Rattle.headline.specs.Headline.{Headline, Agrees, PartOfLines, script_path, script_fault}
use Rattle.paths.specs.declared.faults.Fault.{Fault}
use Rattle.board.specs.Blocked.{AreBlocked, IsFaultOf, path_of}
use Rattle.board.specs.Board.{Seen}
use Rattle.board_effects.specs.Effects.{kind_of_fault}
use Rattle.board_runs.specs.declared.report.End.{End}
use Rattle.board_runs.specs.declared.report.End.TheVariants as Ends
use Rattle.board_runs.specs.declared.report.Report.{Report}
use Rattle.board_runs.specs.Report.{AreBlockedAt, EndsAs, Reports, Tells}
use Rattle.board_runs.proofs.Printed.{texts_told}
use Rattle.workers.specs.declared.run.PoolCount.{PoolCount}
use Rattle.workers.specs.Reports.{IsReport}
use Rattle.workers.specs.Threads.{RunsTo, nothing, begins, ends, gives_back}
use Rattle.compile.specs.Compiled.{IsCompiled}
use Rattle.swt_command.specs.OneThread.{IsWhole, IsScriptFault}

whole_of : (s : Core) (C : Code) (b : Seen) (r : Report) → Headline s C → b.code ≡ C → Run C b.history b.state → Tells b r → Quiet b.code b.state
    → AreBlocked b.code b.state r.blocked.items → IsWhole s r
whole_of s C b r h code run tells quiet blocked =
    let all = h.all b.history b.state run (subst (λ (D : Code). Quiet D b.state) code quiet) in
    let stuck = subst (λ (D : Code). AreBlocked D b.state r.blocked.items) code blocked in
    record {
      no_fault = all.no_fault;
      lines = subst (λ (ls : List (List ℕ)). Lines (Meaning s) ls) (sym (texts_told b r all.printed tells all.printed_is)) all.lines;
      blocked = λ t i. all.blocked t.at (path_of t) (stuck.only t i);
      blocked_all = λ at path k. stuck.all at path (all.blocked_all at path k);
      order = stuck.order;
    }

-- the report tells what a board shows over the code, whose history is a run of it
pub record IsOfRun (code : Code) (r : Report) : Type 0 where
  pub board : Seen
  pub code_is : board.code ≡ code
  pub run : Run code board.history board.state
  pub tells : Tells board r

pub of_one : (code : Code) (limit : ℕ) (r : Report) → Reports code limit r → IsOfRun code r
of_one code limit r t = record { board = t.board; code_is = t.code; run = t.run; tells = t.tells }

-- a step behind steps
one_more : (C : Code) (events : List Event) (e : Event) (first old new : CodeState) → Steps (code_system C) first events old → CodeStep C old e new → Steps (code_system C) first (events ++ e ∷ []) new
one_more C [] e first old new same step = (new, subst (λ (x : CodeState). CodeStep C x e new) (sym same) step, refl)
one_more C (x ∷ events) e first old new (mid, here, rest) step = (mid, here, one_more C events e mid old new rest step)

-- a run by engines and workers is a run
pub is_run : (C : Code) (engines workers : ℕ) (events : List Event) (n : ℕ) (st : CodeState) → RunsTo C engines workers events n st → Run C events st
is_run C e k _ _ _ nothing = refl
is_run C e k _ _ _ (begins {events = events} {enabled = n} {w = w} {number = i} {old = old} {new = new} runs step item there is place newly) = one_more C events (Begin w i) (start (code_system C)) old new (is_run C e k events n old runs) step
is_run C e k _ _ _ (ends {events = events} {enabled = n} {w = w} {number = i} {old = old} {new = new} runs step theirs newly) = one_more C events (Over w i) (start (code_system C)) old new (is_run C e k events n old runs) step
is_run C e k _ _ _ (gives_back {events = events} {enabled = n} {w = w} {number = i} {old = old} {new = new} runs step theirs newly) = one_more C events (Back w i) (start (code_system C)) old new (is_run C e k events n old runs) step

pub of_threads : (code : Code) (limit engines workers : ℕ) (r : Report) (p : PoolCount) → IsReport code limit engines workers r p → IsOfRun code r
of_threads code limit engines workers r p t =
    record { board = t.board; code_is = t.code; run = is_run code engines workers t.board.history (p.offered + p.full) t.board.state t.run; tells = t.tells }

pub whole_report : (src : List ℕ) (code : Code) (r : Report) (w : IsCompiled src code) → IsOfRun code r → r.end ≡ Ends.Quiet → IsWhole (core w.table w.tree) r
whole_report src code r w t quiet =
    whole_of (core w.table w.tree) code t.board r w.headline t.code_is t.run t.tells
    (subst (EndsAs t.board) quiet t.tells.end)
    (subst (λ (e : End). AreBlockedAt t.board e r.blocked.items) quiet t.tells.blocked)

pub reported : (src : List ℕ) (code : Code) (limit : ℕ) (r : Report) (w : IsCompiled src code) → Reports code limit r → r.end ≡ Ends.Quiet → IsWhole (core w.table w.tree) r
reported src code limit r w t quiet = whole_report src code r w (of_one code limit r t) quiet

fault_of : (s : Core) (C : Code) (st : CodeState) (f : Fault) → Agrees s C st → IsFaultOf C st f → IsScriptFault s f
fault_of s C st f a i =
    subst (λ (at : ℕ). Faults (Meaning s) (script_fault (kind_of_fault f.kind)) at (script_path (path_of f.statement))) (sym i.stands)
    (a.fault _ (kind_of_fault f.kind) i.is)

pub part_report : (src : List ℕ) (code : Code) (r : Report) (w : IsCompiled src code) → Clean (core w.table w.tree) → IsOfRun code r → PartOfLines (Meaning (core w.table w.tree)) r.lines.items
part_report src code r w clean t =
    let a = w.headline.agrees clean t.board.history t.board.state t.run in
    subst (λ (ls : List (List ℕ)). PartOfLines (Meaning (core w.table w.tree)) ls) (sym (texts_told t.board r a.printed t.tells a.printed_is)) a.lines

pub fault_report : (src : List ℕ) (code : Code) (r : Report) (f : Fault) (w : IsCompiled src code) → Clean (core w.table w.tree) → IsOfRun code r → r.end ≡ Ends.Fault f → IsScriptFault (core w.table w.tree) f
fault_report src code r f w clean t faulty =
    fault_of (core w.table w.tree) code t.board.state f
    (w.headline.agrees clean t.board.history t.board.state t.run)
    (subst (λ (D : Code). IsFaultOf D t.board.state f) t.code_is (subst (EndsAs t.board) faulty t.tells.end))

pub reported_part : (src : List ℕ) (code : Code) (limit : ℕ) (r : Report) (w : IsCompiled src code) → Clean (core w.table w.tree) → Reports code limit r → PartOfLines (Meaning (core w.table w.tree)) r.lines.items
reported_part src code limit r w clean t = part_report src code r w clean (of_one code limit r t)

pub reported_fault : (src : List ℕ) (code : Code) (limit : ℕ) (r : Report) (f : Fault) (w : IsCompiled src code) → Clean (core w.table w.tree) → Reports code limit r → r.end ≡ Ends.Fault f → IsScriptFault (core w.table w.tree) f
reported_fault src code limit r f w clean t faulty = fault_report src code r f w clean (of_one code limit r t) faulty
