-- A report of a run of code is one of every code that is alike, but for its program.
use Rattle.std.proofs.Common.{◌≡◌, ◌≤◌, ◌⊎◌, inl, inr, ℕ, Bool, List, [], ◌∷◌, refl, sym, ap, ◌∙◌, subst, Some}
use Rattle.dataflow.specs.System.{In, Input}
use Rattle.dataflow.specs.Machine.{Event, Fault, IsKnown}
use Rattle.values.specs.declared.key.Key.{Key}
use Rattle.task_code.specs.Code as code
use Rattle.task_code.specs.Code.{Act, Code, Header, Need, Wait, entry}
use Rattle.task_code.specs.Compute.{EntryFault}
use Rattle.task_code.specs.Machine.{CodeState, Quiet}
use Rattle.task_code.specs.Places.{Place, Step}
use Rattle.task_code.specs.Runs.{Blocked, FaultAt, FirstUnknown, IsBlockedAt, IsHeaderKnown, counts}
use Rattle.task_code.specs.System.{code_system, inputs_at}
use Rattle.paths.specs.declared.statements.StatementInstance.{StatementInstance}
use Rattle.board.specs.Blocked.{AreBlocked, IsFaultOf, path_of}
use Rattle.board.specs.Board.{Seen}
use Rattle.board_effects.specs.Effects.{kind_of_fault}
use Rattle.board_runs.specs.declared.report.End.{End}
use Rattle.board_runs.specs.declared.report.End.TheVariants as Ends
use Rattle.board_runs.specs.declared.report.Report.{Report}
use Rattle.board_runs.specs.Report.{AreBlockedAt, EndsAs, Reports}
use Rattle.board_runs.specs.Same.{SameReport}
use Rattle.code_laws.specs.Alike.{AreAlike, DoSame}
use Rattle.code_laws.proofs.Codes.{argument_same, same_at, same_back}
use Rattle.code_laws.proofs.Runs.{input_same, known_moves, quiet_alike, runs_alike, tasks_same}
use Rattle.compile.specs.Compiled.{IsCompiled}
use Rattle.compile.proofs.Alike.{text_alike}
use Rattle.swt_trace.specs.Replay.{IsFirstNoStep, IsTraceOf, IsWrongEnd, ReplaysTo}
use Rattle.swt_trace.specs.Report.{TraceOf, ending_of}
use Rattle.swt_trace.specs.Trace.{IsFirstBad, max_events}
use Rattle.swt_trace.proofs.Again.{its_trace, not_bad, not_refused, not_wrong, same_again}
use Rattle.swt_command.specs.Same.{TellSame, of_code}

-- what is known in a state of code
abbrev KnownIn : Code → CodeState → Input Place Key → Type 0
KnownIn C s = IsKnown (code_system C) s

-- the other way round
back : (C D : Code) → AreAlike C D → AreAlike D C
back C D al = record {
  bodies = sym al.bodies;
  entries = same_back C.entries D.entries al.entries;
  rights = λ i. record { reads = λ r. (((al.rights i).reads r).1, ((al.rights i).reads r).0); writes = λ r. (((al.rights i).writes r).1, ((al.rights i).writes r).0) };
}

same_entry : (C D : Code) → AreAlike C D → (i : ℕ) → DoSame (entry C i) (entry D i)
same_entry C D al i = same_at C D al.bodies al.entries i

fault_alike : (C D : Code) → AreAlike C D → (s : CodeState) (f : Fault EntryFault) (at : ℕ) (path : List Step) → FaultAt C s f at path → FaultAt D s f at path
fault_alike C D al s f at path x = record { number = x.number; chunk = x.chunk; is = x.is; stands = x.stands ∙ (same_entry C D al x.number).at }

header_known : (C D : Code) → AreAlike C D → (s : CodeState) (p : List Step) (h : Header) → IsHeaderKnown C (KnownIn C s) p h → IsHeaderKnown D (KnownIn D s) p h
header_known C D al s p h k n i there m =
    known_moves C D (tasks_same C D al) s i (k n i there (subst (λ (is : List (Input Place Key)). In i is) (sym (input_same C D (argument_same C D al.bodies al.entries) p n)) m))

first_unknown : (C D : Code) → AreAlike C D → (s : CodeState) (p : List Step) (hs : List Header) (at : ℕ) → FirstUnknown C (KnownIn C s) p hs at → FirstUnknown D (KnownIn D s) p hs at
first_unknown C D al s p [] at x = x
first_unknown C D al s p (h ∷ hs) at (inl x) = inl ((λ k. x.0 (header_known D C (back C D al) s p h k)), x.1)
first_unknown C D al s p (h ∷ hs) at (inr x) = inr (header_known C D al s p h x.0, first_unknown C D al s p hs at x.1)

stands_alike : (C D : Code) → AreAlike C D → (s : CodeState) (p : List Step) (a : Act) (own at : ℕ) → IsBlockedAt C (KnownIn C s) p a own at → IsBlockedAt D (KnownIn D s) p a own at
stands_alike C D al s p (code.Cell e) own at x = x
stands_alike C D al s p code.Read own at x = x
stands_alike C D al s p (code.Call b rs os) own at x = x
stands_alike C D al s p (code.Set r e) own at x = x
stands_alike C D al s p (code.Fill r es) own at x = x
stands_alike C D al s p (code.Copy r) own at x = x
stands_alike C D al s p (code.InsertElement r i e) own at x = x
stands_alike C D al s p (code.Print e) own at x = x
stands_alike C D al s p (code.Assert e) own at x = x
stands_alike C D al s p (code.If e b d) own at x = x
stands_alike C D al s p (code.Range l h t w) own at x = x
stands_alike C D al s p (code.Each w) own at x = x
stands_alike C D al s p (code.Wait hs b) own at x = first_unknown C D al s p hs at x

blocked_alike : (C D : Code) → AreAlike C D → (s : CodeState) (at : ℕ) (path : List Step) → Blocked C s at path → Blocked D s at path
blocked_alike C D al s at path b =
    let d = same_entry C D al b.number in
    record {
      item = b.item;
      there = b.there;
      number = b.number;
      chunk = b.chunk;
      is = b.is;
      counted = ap counts (sym d.act) ∙ b.counted;
      stands = subst (λ (a : Act). IsBlockedAt D (KnownIn D s) path a (entry D b.number).at at) d.act
          (subst (λ (own : ℕ). IsBlockedAt D (KnownIn D s) path (entry C b.number).act own at) d.at (stands_alike C D al s path (entry C b.number).act (entry C b.number).at at b.stands));
    }

all_blocked : (C D : Code) → AreAlike C D → (s : CodeState) (ss : List StatementInstance) → AreBlocked C s ss → AreBlocked D s ss
all_blocked C D al s ss x = record {
  all = λ at path k. x.all at path (blocked_alike D C (back C D al) s at path k);
  only = λ t i. blocked_alike C D al s t.at (path_of t) (x.only t i);
  order = x.order;
}

-- a board of this code, with all else of another
abbrev shown : Code → Seen → Seen
shown C b = record { code = C; limit = b.limit; state = b.state; history = b.history; newly = b.newly }

ends_alike : (C D : Code) → AreAlike C D → (b : Seen) (e : End) → EndsAs (shown C b) e → EndsAs (shown D b) e
ends_alike C D al b (Ends.Fault f) x = fault_alike C D al b.state (kind_of_fault f.kind) f.statement.at (path_of f.statement) x
ends_alike C D al b Ends.Quiet x = quiet_alike C D al b.state x
ends_alike C D al b Ends.Limit x = (x.0, (λ q. x.1 (quiet_alike D C (back C D al) b.state q)), x.2)

left_alike : (C D : Code) → AreAlike C D → (b : Seen) (e : End) (ss : List StatementInstance) → AreBlockedAt (shown C b) e ss → AreBlockedAt (shown D b) e ss
left_alike C D al b (Ends.Fault f) ss x = x
left_alike C D al b Ends.Quiet ss x = all_blocked C D al b.state ss x
left_alike C D al b Ends.Limit ss x = x

pub reports_alike : (C D : Code) → AreAlike C D → (limit : ℕ) (r : Report) → Reports C limit r → Reports D limit (of_code D r)
reports_alike C D al limit r p =
    let b = p.board in
    let ends : EndsAs (shown C b) r.end = subst (λ (E : Code). EndsAs (shown E b) r.end) p.code p.tells.end in
    let left : AreBlockedAt (shown C b) r.end r.blocked.items = subst (λ (E : Code). AreBlockedAt (shown E b) r.end r.blocked.items) p.code p.tells.blocked in
    record {
      board = shown D b;
      code = refl;
      limit_is = p.limit_is;
      run = runs_alike C D al b.history b.state p.run;
      within = p.within;
      tells = record {
        code = refl;
        history = p.tells.history;
        workers = p.tells.workers;
        numbers = p.tells.numbers;
        lines = p.tells.lines;
        end = ends_alike C D al b r.end ends;
        blocked = left_alike C D al b r.end r.blocked.items left;
        tallies = p.tells.tallies;
      };
    }

-- the same told, whatever the code
pub told_same : (D : Code) (r s : Report) → SameReport (of_code D r) s → TellSame r s
told_same D r s x = record { history = x.history; lines = x.lines; end = x.end; blocked = x.blocked; tallies = x.tallies }

module _ (src : List ℕ) (C D : Code) (limit : ℕ) (r : Report) (x : IsCompiled src C) (y : IsCompiled src D) (few : limit ≤ max_events) (p : Reports C limit r) where
  too : Reports D limit (of_code D r)
  too = reports_alike C D (text_alike src C D x y) limit r p

  of_report : IsTraceOf D (TraceOf r) (of_code D r)
  of_report = record { limit = limit; few = few; reports = too; text = refl }

  pub replayed_same : (s : Report) → ReplaysTo D (TraceOf r) s → TellSame r s
  replayed_same s z = told_same D r s (same_again D (TraceOf r) (of_code D r) of_report y.whole s z)

  -- the trace is not refused
  pub never_bad : (n : ℕ) → IsFirstBad (TraceOf r) n → ⊥
  never_bad n z = not_bad D (TraceOf r) (of_code D r) of_report n z

  pub never_refused : (n : ℕ) → IsFirstNoStep D (TraceOf r) n → ⊥
  never_refused n z = not_refused D y.whole (TraceOf r) limit (of_code D r) (Some (ending_of r.end)) (its_trace D (TraceOf r) (of_code D r) of_report) too n z

  pub never_wrong : (n : ℕ) → IsWrongEnd D (TraceOf r) n → ⊥
  never_wrong n z = not_wrong D y.whole (TraceOf r) limit (of_code D r) (Some (ending_of r.end)) (its_trace D (TraceOf r) (of_code D r) of_report) too refl n z
