-- Instances and statements become more; what was found stays.
use Rattle.std.specs.Prelude.{ℕ, ◌<◌, List, length, refl}
use Rattle.std.proofs.Common.{inl, inr, sym, ap, ◌∙◌, subst}
use Rattle.values.specs.declared.key.Key.{Key}
use Rattle.language.specs.Core.{Block, Core}
use Rattle.language.specs.Facts.{Knowledge}
use Rattle.language.specs.Members.{◌∈◌}
use Rattle.language.specs.Meaning.{Ready}
use Rattle.language.specs.Parts.{stmt_action}
use Rattle.language.specs.Places.{Path, max_path_steps}
use Rattle.meaning_facts.specs.declared.fact_base.FactBase.{FactBase}
use Rattle.meaning_facts.specs.Paths.{path_of}
use Rattle.meaning_cells.specs.Chosen.{chosen_in, have_come_in}
use Rattle.meaning_steps.specs.Environment.{Sight}
use Rattle.meaning_invariants.specs.Active.{Active, active, HasBlock}
use Rattle.meaning_invariants.specs.Opened.{AreCalled, ArePassed, IsOpened, nothing, branches, content, IsUnready, GoesOn}

pub goes_further : (l m r : FactBase) (ls ms rs : List Active) → GoesOn l ls m ms → GoesOn m ms r rs → GoesOn l ls r rs
goes_further l m r ls ms rs g h = record {
  within = λ i w. h.within i (g.within i w);
  path_same = λ i w. h.path_same i (g.within i w) ∙ g.path_same i w;
  children = λ i at k j e. h.children i at k j (g.children i at k j e);
  sight_same = λ i w. h.sight_same i (g.within i w) ∙ g.sight_same i w;
  listed = λ a x. h.listed a (g.listed a x);
}

pub goes_nowhere : (l : FactBase) (ls ms : List Active) → ((a : Active) → a ∈ ls → a ∈ ms) → GoesOn l ls l ms
goes_nowhere l ls ms f = record {
  within = λ i w. w;
  path_same = λ i w. refl;
  children = λ i at k j e. e;
  sight_same = λ i w. refl;
  listed = f;
}

module _ (l m : FactBase) (ls ms : List Active) (g : GoesOn l ls m ms) where
  pub block_stays : {i at : ℕ} {k : Key} {b : Block} → HasBlock l ls i at k b → HasBlock m ms i at k b
  block_stays {i} {at} {k} {b} x = record { instance = x.instance; opened = g.children i at k x.instance x.opened; listed = λ st j. g.listed (active x.instance st) (x.listed st j) }

  shorter : (i : ℕ) → i < length l.instances.all.items → length (path_of m.instances.all.items i) < max_path_steps → length (path_of l.instances.all.items i) < max_path_steps
  shorter i w h = subst (λ (p : Path). length p < max_path_steps) (g.path_same i w) h

  pub called_stays : (s : Core) (a : Active) → a.instance < length l.instances.all.items → AreCalled s l ls a → AreCalled s m ms a
  called_stays s a w f = λ c x i e h. block_stays (f c x i e (shorter a.instance w h))

  pub opened_stays : {s : Core} {K : Knowledge} (a : Active) → a.instance < length l.instances.all.items → IsOpened s K l ls a → IsOpened s K m ms a
  opened_stays {s} {K} a w (nothing p q) = nothing p q
  opened_stays {s} {K} a w (branches {vs = vs} r b f) =
      branches (subst (λ (p : Path). Ready s K p (stmt_action a.statement) vs) (sym (g.path_same a.instance w)) r) b (λ k c o h. block_stays (f k c o (shorter a.instance w h)))
  opened_stays {s} {K} a w (content ns b e f) = content ns b e (λ st j. g.listed (active a.instance st) (f st j))

  pub unready_stays : (a : Active) → a.instance < length l.instances.all.items → IsUnready l a → IsUnready m a
  unready_stays a w u = record {
    choice = ap (λ (z : Sight). chosen_in z (stmt_action a.statement)) (g.sight_same a.instance w) ∙ u.choice;
    names = λ ns b e. ap (λ (z : Sight). have_come_in z ns) (g.sight_same a.instance w) ∙ u.names ns b e;
  }

  pub passed_stays : {s : Core} {K : Knowledge} (ps ws : List Active) → ((a : Active) → a ∈ ps → a.instance < length l.instances.all.items)
      → ArePassed s K l ls ps ws → ArePassed s K m ms ps ws
  passed_stays {s} {K} ps ws f p = record {
    called = λ a i. called_stays s a (f a i) (p.called a i);
    opened = λ a i. elim (p.opened a i) [ inl o ↦ inl (opened_stays a (f a i) o) | inr w ↦ inr w ];
  }
