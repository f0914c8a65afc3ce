-- What was opened so far is so where more is known.
use Rattle.std.specs.Prelude.{ℕ, List, Option}
use Rattle.std.proofs.Common.{inl, inr}
use Rattle.values.specs.declared.key.Key.{Key}
use Rattle.values.specs.declared.value.Scalar.{Scalar}
use Rattle.language.specs.Core.{Core}
use Rattle.language.specs.Facts.{Knowledge}
use Rattle.language.specs.Places.{Path}
use Rattle.language_laws.proofs.Growth.{Grows, keeps_closed, keeps_live, keeps_ready, keeps_stmt}
use Rattle.meaning_facts.specs.declared.facts.Facts.{Facts}
use Rattle.meaning_facts.specs.declared.fact_base.FactBase.{FactBase}
use Rattle.meaning_facts.specs.Growing.{with_facts}
use Rattle.meaning_invariants.specs.Held.{Holds}
use Rattle.meaning_invariants.specs.Active.{Active, Candidate}
use Rattle.meaning_invariants.specs.Opened.{ArePassed, IsOpened, nothing, branches, content, IsSoFar, Origin, of_header, of_call}

module _ (s : Core) (K K' : Knowledge) (g : Grows s K K') where
  origin_later : {path : Path} {at : ℕ} {k : Key} {variable : ℕ → Option Scalar} → Origin s K path at k variable → Origin s K' path at k variable
  origin_later (of_header l r o all so) = of_header (keeps_stmt s K K' g l) (keeps_ready s K K' g r) o all so
  origin_later (of_call l m e none) = of_call (keeps_stmt s K K' g l) m e none

  module _ (levels : ℕ) (l : FactBase) (k : Facts) (ls : List Active) (arrays : List Candidate) where
    opened_later : {a : Active} → IsOpened s K l ls a → IsOpened s K' (with_facts l k) ls a
    opened_later (nothing p q) = nothing p q
    opened_later (branches r b f) = branches (keeps_ready s K K' g r) b (λ c d o h. (let x = f c d o h in record { instance = x.instance; opened = x.opened; listed = x.listed }))
    opened_later (content ns b e f) = content ns b e f

    pub passed_later : (ps ws : List Active) → ArePassed s K l ls ps ws → ArePassed s K' (with_facts l k) ls ps ws
    passed_later ps ws p = record {
      called = λ a i c f j e h. (let x = p.called a i c f j e h in record { instance = x.instance; opened = x.opened; listed = x.listed });
      opened = λ a i. elim (p.opened a i) [ inl o ↦ inl (opened_later o) | inr w ↦ inr w ];
    }

    pub so_far_later : IsSoFar s K levels l ls arrays → Holds K' (with_facts l k) → IsSoFar s K' levels (with_facts l k) ls arrays
    so_far_later far holds = record {
      holds = holds;
      placed = far.placed;
      live = λ a m. (let x = far.live a m in record { within = x.within; so = keeps_stmt s K K' g x.so });
      closed = λ p e. (let x = far.closed p e in record { within = x.within; so = keeps_closed s K K' g x.so });
      origins = λ i at c j e. origin_later (far.origins i at c j e);
      script = far.script;
      declared = far.declared;
      candidates = λ p b m. (let x = far.candidates p b m in record { within = x.within; live = keeps_live s K K' g x.live; at = x.at; node = x.node; there = x.there });
    }
