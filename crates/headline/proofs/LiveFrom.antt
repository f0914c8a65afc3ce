-- What is live in the script is live in the code, by the script's answers.
use Rattle.std.proofs.Common.{[], ◌∷◌, refl}
use Rattle.dataflow.specs.Facts.{Live}
use Rattle.language.specs.Core as Co
use Rattle.language.specs.Core.{Name, Expr, Cell, Call, Part, Outer, Awaited, Stmt, stmt, Action, when, choose, range, each, wait, Block, stmts, no_stmts, Function, Core}
use Rattle.language.specs.Facts.{Knowledge}
use Rattle.language.specs.Meaning as Mn
use Rattle.language.specs.Meaning.{ValueUnder, LiveStmt, in_block, Ready, cells_known, source_closed, names_known, Come, scalar_known, array_closed}
use Rattle.language.specs.Places.{Path}
use Rattle.headline.proofs.LiveBy as By
use Rattle.headline.proofs.LiveBy.{Feed}
use Rattle.language.specs.WellFormed.{WellFormed}
use Rattle.task_code.specs.Code.{Code}
use Rattle.task_code.specs.Effects.{Task, Main, block}
use Rattle.task_code.specs.System.{code_system}
use Rattle.task_code.specs.Whole.{IsCode}
use Rattle.headline.specs.Answered.{Reading}
use Rattle.headline.specs.Backs.{Backs}
use Rattle.headline.specs.Chains.{Answers}
use Rattle.code_rules.specs.CodeNames.{header}
use Rattle.language_laws.specs.Scoped.{Scoped}
use Rattle.code_rules.specs.IsCodeOf.{IsCodeOf}

module _ (s : Core) (C : Code) (w : IsCodeOf s C) (K : Knowledge) (wf : WellFormed s) (kn : Backs s K) (I : IsCode C) (sc : Scoped s) where
  pub main_reading : Reading (code_system C) (Answers s K) Main (record { writes = []; lines = []; opens = block C (0, []) ∷ [] })
  main_reading = record { answers = []; read = tt; is = refl }

  -- each reading by the script's answers
  abbrev pub by_answers : Feed s C w K wf kn I sc
  by_answers = record {
    Fact = λ t e. Reading (code_system C) (Answers s K) t e;
    Fed = λ p n. Unit {0};
    ScalarFed = λ pl. Unit {0};
    ArrayFed = λ pl. Unit {0};
    main = main_reading;
    yields = λ j c p e l f r. r;
    cell = λ p t k b ch j there at n a m c i u kv x h g. tt;
    scalar = λ p t k b ch j there x i h f. tt;
    array = λ p t k b ch j there x i h f. tt;
  }

  abbrev pub Alive : Task → Type 0
  Alive t = Live (code_system C) (Reading (code_system C) (Answers s K)) t

  abbrev pub Where : Path → Block → Type 0
  Where path b = By.Where s C w K wf kn I sc by_answers path b

  pub no_need : (path : Path) (a : Action) → By.ReadyFed s C w K wf kn I sc by_answers path a
  no_need path (each a x y d) = tt
  no_need path (wait ns d) = λ x i. by x
    where
      by : (x : Awaited) → By.ComeFed s C w K wf kn I sc by_answers path x
      by (Co.scalar x) = tt
      by (Co.array x) = tt
  no_need path (Co.declare v) = tt
  no_need path (Co.call_alone x y z) = tt
  no_need path (Co.assign x y) = tt
  no_need path (Co.fill x y) = tt
  no_need path (Co.insert x y z) = tt
  no_need path (Co.print x y) = tt
  no_need path (Co.assert x y) = tt
  no_need path (when x y) = tt
  no_need path (choose x y z) = tt
  no_need path (range x y z a b d) = tt

  pub live_from : {path : Path} {b : Block} → Mn.Live s K path b → Where path b
  live_from Mn.script = By.live_script s C w K wf kn I sc by_answers
  live_from (Mn.opened {path = path} {header = header} lv m r o dp) = By.opened_from s C w K wf kn I sc by_answers (live_from lv) m r (no_need path header) o dp
  live_from (Mn.waited {path = path} {c = c} {ns = ns} lv m r) = By.waited_from s C w K wf kn I sc by_answers (live_from lv) m r (no_need path (wait ns c))
  live_from (Mn.called lv m n fq dp) = By.called_from s C w K wf kn I sc by_answers (live_from lv) m n fq dp
