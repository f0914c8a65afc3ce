-- What was opened so far is so where a block becomes live behind a step.
use Rattle.std.specs.Prelude.{◌≡◌, ℕ, ◌<◌, List, [], ◌∷◌, ◌++◌, length, Some, refl}
use Rattle.std.proofs.Common.{sym, ap, subst, arith, length-append}
use Rattle.language.specs.Core.{Block, Core}
use Rattle.language.specs.Facts.{Knowledge}
use Rattle.language.specs.Meaning.{Live}
use Rattle.language.specs.Parts.{block_list}
use Rattle.language.specs.Places.{Path}
use Rattle.meaning_facts.specs.declared.instances.InstanceBindings.{InstanceBindings}
use Rattle.paths.specs.declared.steps.Step.{Step}
use Rattle.meaning_facts.specs.declared.fact_base.FactBase.{FactBase}
use Rattle.meaning_facts.specs.Paths.{child_at, path_of}
use Rattle.meaning_facts.proofs.Tree.{found_itself, path_comes}
use Rattle.meaning_invariants.specs.Held.{with_instances}
use Rattle.meaning_invariants.specs.Active.{Active, Candidate, HasBlock}
use Rattle.meaning_invariants.specs.Listed.{all_active, declares}
use Rattle.meaning_invariants.specs.Opened.{GoesOn, IsChildOf, was_there, is_new, IsOpening, IsSoFar}
use Rattle.meaning_invariants.proofs.Going.{goes_further}
use Rattle.meaning_invariants.proofs.Opening.{goes_on, so_far_opened}
use Rattle.meaning_invariants.proofs.Blocks.{block_goes_on, block_listed, so_far_listed}

-- a block became live
pub record IsEntered (s : Core) (K : Knowledge) (levels : ℕ) (l : FactBase) (ls : List Active) (arrays : List Candidate) (i : ℕ) (x : Step) (b : Block) (m : FactBase) (child : ℕ) : Type 0 where
  pub so : IsSoFar s K levels m (ls ++ all_active child (block_list b)) (arrays ++ declares s levels child b (block_list b))
  pub goes : GoesOn l ls m (ls ++ all_active child (block_list b))
  pub block : HasBlock m (ls ++ all_active child (block_list b)) i x.offset x.key b

module _ (s : Core) (K : Knowledge) (levels : ℕ) (l : FactBase) (ls : List Active) (arrays : List Candidate) (far : IsSoFar s K levels l ls arrays)
    (i : ℕ) (x : Step) (g : InstanceBindings) (b : Block) (opening : IsOpening s K l i x g b) where
  -- in the instance that is the child
  in_child : (m : FactBase) (child : ℕ) → IsSoFar s K levels m ls arrays → GoesOn l ls m ls → child_at m.instances i x.offset x.key ≡ Some child
      → child < length m.instances.all.items → path_of m.instances.all.items child ≡ (x.offset, x.key) ∷ path_of l.instances.all.items i → IsEntered s K levels l ls arrays i x b m child
  in_child m child so goes found within path =
      let live : Live s K (path_of m.instances.all.items child) b = subst (λ (p : Path). Live s K p b) (sym path) opening.live in
      record {
        so = so_far_listed s K levels m ls arrays so child within b live;
        goes = goes_further l m m ls ls (ls ++ all_active child (block_list b)) goes (block_goes_on s K levels m ls arrays so child within b live);
        block = record { instance = child; opened = found; listed = block_listed s K levels m ls arrays so child within b live };
      }

  pub entered : (m : FactBase) (child : ℕ) → IsChildOf l i x g m child → IsEntered s K levels l ls arrays i x b m child
  entered m child (was_there e) =
      let c = far.placed.tree.opens i x.offset x.key child e in
      in_child l child far (record { within = λ j w. w; path_same = λ j w. refl; children = λ j at k d h. h; sight_same = λ j w. refl; listed = λ a h. h }) e c.within c.path_is
  entered m child (is_new {u = u} lacks o) =
      in_child (with_instances l u) (length l.instances.all.items)
      (so_far_opened s K levels l ls arrays far i opening.within x g u o lacks opening.short opening.inputs opening.outputs opening.origin)
      (goes_on s K levels l ls arrays far i opening.within x g u o lacks opening.short)
      (found_itself l.instances u i x g o)
      (omega (arith, ap length o.all, length-append l.instances.all.items (o.made ∷ [])))
      (path_comes l.instances u i x g o)
