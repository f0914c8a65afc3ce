-- After the rounds of an accepted script, what the next round tells is just what it adds.
use Rattle.std.specs.Prelude.{◌⊎◌, ℕ, suc}
use Rattle.std.proofs.Common.{inl, inr}
use Rattle.language.specs.Core.{Core}
use Rattle.language.specs.Facts.{Fact}
use Rattle.language.specs.Meaning.{Known, IsFinished}
use Rattle.language.specs.Places.{Path}
use Rattle.language.specs.Single.{SinglyAssigned}
use Rattle.language.specs.WellFormed.{WellFormed}
use Rattle.meaning_steps.specs.Environment.{Sight, Sees}
use Rattle.meaning_steps.specs.News.{Past, Recalls, NodesTell, ToldOf}
use Rattle.meaning_steps.proofs.News.{news_so, news_is}
use Rattle.meaning_steps.proofs.Steady.{steady}

module _ (s : Core) (w : WellFormed s) (single : SinglyAssigned s) (apart : NodesTell s) (n : ℕ) (g : Path → Sight) (m : Path → Past)
    (sees : (path : Path) → Sees s (Known s n) path (g path)) (recalls : (path : Path) → Recalls s (Known s n) path (m path)) where
  pub added : (f : Fact) → Known s (suc n) f → Known s n f ⊎ ToldOf s (Known s n) g m f
  added f (inl k) = inl k
  added f (inr x) = elim (news_is s (Known s n) g m sees recalls (steady s w single apart n) x) [ inl t ↦ inr t | inr k ↦ inl k ]

  pub adds : (f : Fact) → Known s n f ⊎ ToldOf s (Known s n) g m f → Known s (suc n) f
  adds f (inl k) = inl k
  adds f (inr t) = inr (news_so s (Known s n) t.path (g t.path) (m t.path) (sees t.path) (recalls t.path) t.st f t.live t.told)

  pub no_more : IsFinished s n → (f : Fact) → ToldOf s (Known s n) g m f → Known s n f
  no_more h f t = h f (adds f (inr t))

  pub ends : ((f : Fact) → ToldOf s (Known s n) g m f → Known s n f) → IsFinished s n
  ends h f k = elim (added f k) [ inl j ↦ j | inr t ↦ h f t ]
