-- What `mean` prints where its rounds were enough.
use Rattle.std.proofs.Common.{◌≡◌, subst, inl, inr, ◌⊎◌, ℕ, Bool, true, List}
use Rattle.language.specs.Core.{Core}
use Rattle.language.specs.Facts.{Knowledge}
use Rattle.language.specs.Meaning.{Known, Meaning}
use Rattle.headline.specs.Headline.{script_fault, script_path}
use Rattle.board.specs.Blocked.{path_of}
use Rattle.board_effects.specs.Effects.{kind_of_fault}
use Rattle.paths.specs.declared.faults.Fault.{Fault}
use Rattle.paths.specs.declared.statements.StatementInstance.{StatementInstance}
use Rattle.swt_arguments.specs.declared.line.Line.TheVariants.{Mean}
use Rattle.swt_command.specs.declared.meaning_summary.MeaningSummary.{MeaningSummary}
use Rattle.swt_command.specs.Causes.{Informed, IsDone, LeftBlocked, MetFault}
use Rattle.swt_command.specs.Files.{Files}
use Rattle.swt_command.specs.Means.{AreEnough, AreOutcomes, IsMeaning, IsTold, PrintsMeaning}
use Rattle.swt_command.specs.Owes.{Owes}
use Rattle.swt_command.specs.Sinks.{Held}
use Rattle.swt_command.proofs.Endings.{blocked_tells, done_tells, fault_tells}
use Rattle.swt_command.proofs.Enough.{Same, enough, other_way, same_blocked, same_faults, same_lines}

-- the outcomes are those of any knowledge that is the same
outcomes : (s : Core) (K L : Knowledge) → Same K L → (lines : List (List ℕ)) (bs : List StatementInstance) (fs : List Fault) → AreOutcomes s K lines bs fs → AreOutcomes s L lines bs fs
outcomes s K L e lines bs fs x = record {
  lines_are = same_lines K L e lines x.lines_are;
  lines_in_order = x.lines_in_order;
  blocked_in_order = x.blocked_in_order;
  each_blocked = λ b i. same_blocked s K L e b.at (script_path (path_of b)) (x.each_blocked b i);
  all_blocked = λ at path h. x.all_blocked at path (same_blocked s L K (other_way K L e) at path h);
  faults_in_order = x.faults_in_order;
  each_fault = λ f i. same_faults K L e (script_fault (kind_of_fault f.kind)) f.statement.at (script_path (path_of f.statement)) (x.each_fault f i);
  all_faults = λ kind at path h. x.all_faults kind at path (same_faults L K (other_way K L e) kind at path h);
}

pub told_meant : (s : Core) (limit : ℕ) (t : MeaningSummary) → IsTold s limit t → t.enough ≡ true → IsMeaning s t
told_meant s limit t told is =
    let finished = (subst (λ (x : Bool). AreEnough s told.rounds limit x) is told.are_enough).0 in
    outcomes s (Known s told.rounds) (Meaning s) (enough s told.rounds finished) t.lines.items t.blocked.items t.faults.items told.are_known

module _ (file : List ℕ) (rounds : ℕ) (files : Files) (out new : Held) where
  whole : (t : MeaningSummary) → Informed (Mean file rounds) files t out new → t.enough ≡ true → PrintsMeaning files rounds out new
  whole t is known = (is.0.0, is.0.1, (t, told_meant is.0.0 rounds t is.0.2 known, known, is.1))

  when_done : IsDone (Mean file rounds) files out new → PrintsMeaning files rounds out new
  when_done (inl h) = absurd h.1
  when_done (inr (inl h)) = whole h.0 h.1 h.2
  when_done (inr (inr h)) = absurd h

  when_faulty : MetFault (Mean file rounds) files out new → PrintsMeaning files rounds out new
  when_faulty (inl h) = absurd h.2
  when_faulty (inr h) = whole h.0 h.2 h.3

  when_blocked : LeftBlocked (Mean file rounds) files out new → PrintsMeaning files rounds out new
  when_blocked (inl h) = absurd h.2
  when_blocked (inr h) = whole h.0 h.2 h.3

pub mean_prints : (file : List ℕ) (rounds : ℕ) (files : Files) (out out_new err err_new trace trace_new : Held) (number : ℕ)
    → Owes (Mean file rounds) files out out_new err err_new trace trace_new number → (number ≡ 0) ⊎ ((number ≡ 3) ⊎ (number ≡ 4)) → PrintsMeaning files rounds out out_new
mean_prints file rounds files out out_new err err_new trace trace_new number o h = by h
  where
    by : (number ≡ 0) ⊎ ((number ≡ 3) ⊎ (number ≡ 4)) → PrintsMeaning files rounds out out_new
    by (inl e) = when_done file rounds files out out_new (done_tells (Mean file rounds) files out out_new err err_new trace trace_new number o e)
    by (inr (inl e)) = when_faulty file rounds files out out_new (fault_tells (Mean file rounds) files out out_new err err_new trace trace_new number o e)
    by (inr (inr e)) = when_blocked file rounds files out out_new (blocked_tells (Mean file rounds) files out out_new err err_new trace trace_new number o e)
