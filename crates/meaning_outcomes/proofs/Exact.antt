-- Of an accepted script, the test finds just the live statements that are blocked.
use Rattle.std.specs.Prelude.{◌≡◌, ◌↔◌, ℕ, ◌<◌, true, List, length}
use Rattle.std.proofs.Common.{sym, subst}
use Rattle.language.specs.Core.{Action, stmt}
use Rattle.language.specs.Meaning.{Known, LiveStmt}
use Rattle.language.specs.Outcomes.{Stuck}
use Rattle.language.specs.Reads.{Reads}
use Rattle.language.specs.Resolved.{core}
use Rattle.language.specs.Single.{SinglyAssigned}
use Rattle.language.specs.Table.{Table}
use Rattle.language.specs.Tree.{Tree}
use Rattle.language.specs.Typing.{WellTyped}
use Rattle.language_laws.proofs.Declared.{stmt_in}
use Rattle.language_laws.proofs.Whole.{one_scalar_known}
use Rattle.language_accepted.proofs.Accepted.{accepted_formed}
use Rattle.meaning_steps.specs.Environment.{Sight, Sees}
use Rattle.meaning_steps.specs.News.{Past, Recalls}
use Rattle.meaning_steps.specs.Kept.{Keeps}
use Rattle.meaning_steps.proofs.Seen as seen
use Rattle.meaning_facts.specs.declared.fact_base.FactBase.{FactBase}
use Rattle.meaning_facts.specs.Keeping.{kept_of, IsPlaced}
use Rattle.meaning_facts.specs.Paths.{path_of}
use Rattle.meaning_facts.proofs.Keeping.{sees_kept, recalls_kept}
use Rattle.meaning_invariants.specs.Held.{Holds}
use Rattle.meaning_invariants.proofs.Indexes.{has_indexes}
use Rattle.meaning_outcomes.specs.Stuck.{is_stuck_in}
use Rattle.meaning_outcomes.proofs.Finding as law

pub stuck_exact : (bytes : List ℕ) (t : Table) (tree : Tree) → Reads bytes tree → WellTyped tree t → SinglyAssigned (core t tree)
    → (n : ℕ) (l : FactBase) → IsPlaced (core t tree) l.instances → Keeps (core t tree) (Known (core t tree) n) (kept_of l) → Holds (Known (core t tree) n) l
    → (i : ℕ) → i < length l.instances.all.items → (at m : ℕ) (a : Action) → LiveStmt (core t tree) (Known (core t tree) n) (path_of l.instances.all.items i) (stmt at m a)
    → (is_stuck_in l i (stmt at m a) ≡ true) ↔ Stuck (core t tree) (Known (core t tree) n) (path_of l.instances.all.items i) at m a
stuck_exact bytes t tree r w single n l placed keeps holds i within at m a live =
    let s = core t tree in
    let formed = accepted_formed bytes t tree r w single in
    let one = one_scalar_known s formed single n in
    let path = path_of l.instances.all.items i in
    let sees = subst (λ (g : Sight). Sees s (Known s n) path g) (sym (sees_kept s l placed i within)) (seen.sees s (Known s n) (kept_of l) keeps one path) in
    let recalls = subst (λ (g : Past). Recalls s (Known s n) path g) (sym (recalls_kept s l placed i within)) (seen.recalls s (Known s n) (kept_of l) keeps one path) in
    let indexes = has_indexes s formed single n in (
      λ e. law.stuck_so s (Known s n) l placed.tree holds i within sees recalls indexes at m a (stmt_in s live) live e,
      λ h. law.stuck_all s (Known s n) l placed.tree holds i within sees recalls indexes at m a h,
    )
