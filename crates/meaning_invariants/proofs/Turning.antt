-- What an instance sees of a header's choice may be opened in each turn.
use Rattle.std.specs.Prelude.{◌≡◌, ℕ, ◌<◌, List, [], length, Some, refl}
use Rattle.std.proofs.Common.{sym, ap, ◌∙◌, subst}
use Rattle.values.specs.declared.key.Key.{Key}
use Rattle.language.specs.Core.{Action, Block, Core, stmt}
use Rattle.language.specs.Facts.{Knowledge}
use Rattle.language.specs.Members.{◌∈◌}
use Rattle.language.specs.Openings.{InTurn, Opens}
use Rattle.language.specs.Places.{Path, max_path_steps}
use Rattle.language.specs.WellFormed.{WellFormed}
use Rattle.language_laws.proofs.Declared.{stmt_in}
use Rattle.meaning_steps.specs.Taken.{Taken}
use Rattle.meaning_steps.proofs.Settled.{ready_so}
use Rattle.meaning_facts.specs.declared.instances.InstanceBindings.{InstanceBindings}
use Rattle.paths.specs.declared.steps.Step.{Step}
use Rattle.meaning_facts.specs.declared.instances.LoopVariable.{LoopVariable}
use Rattle.meaning_facts.specs.declared.fact_base.FactBase.{FactBase}
use Rattle.meaning_cells.specs.Chosen.{Chosen, block_in, chosen_in, count_in, key_in}
use Rattle.meaning_facts.specs.Paths.{path_of}
use Rattle.meaning_facts.specs.Sighted.{sight_of}
use Rattle.meaning_facts.specs.Store.{variable_in}
use Rattle.meaning_cells.specs.Taking.{SeesBy}
use Rattle.meaning_cells.proofs.Readying.{IsReady, chosen_ready}
use Rattle.meaning_invariants.specs.Active.{Active, active, Candidate, taken_by}
use Rattle.meaning_invariants.specs.Turns.{turn_variables}
use Rattle.meaning_invariants.proofs.EndedRight.{right_apart, right_so}
use Rattle.meaning_invariants.proofs.Sights.{sees}
use Rattle.meaning_invariants.proofs.EndedTurning.{by_given, by_ready}
use Rattle.meaning_invariants.specs.Opened.{IsOpening, IsSoFar, OffsetsApart}
use Rattle.meaning_invariants.proofs.Calling.{turn_opening}
use Rattle.meaning_invariants.proofs.Right.{is_right}

module _ (s : Core) (w : WellFormed s) (offsets : OffsetsApart s) (K : Knowledge) (levels : ℕ) (l : FactBase) (ls : List Active) (arrays : List Candidate)
    (far : IsSoFar s K levels l ls arrays) (i : ℕ) (x : Step) (g : InstanceBindings) (short : length (path_of l.instances.all.items i) < max_path_steps) (at n : ℕ) (header : Action) (c : Chosen) (j : ℕ) (b : Block)
    (there : active i (stmt at n header) ∈ ls) (chosen : chosen_in (sight_of l i) header ≡ Some c) (below : j < count_in c) (block : block_in header c ≡ Some b) where
  abbrev T : Taken
  T = taken_by l ls

  abbrev path : Path
  path = path_of l.instances.all.items i

  seen : SeesBy s K T path (sight_of l i)
  seen = sees s K l ls far.placed far.holds.keeps (right_apart s K l ls (is_right s K levels l ls arrays far)) i (far.live (active i (stmt at n header)) there).within

  ready : IsReady s K T path header c
  ready = chosen_ready s K T path (sight_of l i) seen header c chosen

  opens : Opens header ready.values (key_in c j) b
  opens = ready.opens.so j b below block

  pub seen_opening : x.offset ≡ at → x.key ≡ key_in c j → g.inputs.items ≡ [] → g.outputs.items ≡ [] → g.variables.items ≡ turn_variables header c j → IsOpening s K l i x g b
  seen_opening at_is key ins outs variables =
      turn_opening s w.names K levels l ls arrays far i x g short offsets at n header ready.values b there (ready_so s K T (right_so s K l ls far.holds.keeps (is_right s K levels l ls arrays far)) ready.ready)
      at_is (subst (λ (k : Key). Opens header ready.values k b) (sym key) opens) ins outs
      (λ y v t. ap (λ (vs : List LoopVariable). variable_in vs y) variables
      ∙ by_ready s w.loops at n K T path (sight_of l i) seen header ready.values (stmt_in s (far.live (active i (stmt at n header)) there).so) c chosen ready.ready j below (key_in c j) refl y v
      (subst (λ (k : Key). InTurn header ready.values k y v) key t))
      (λ y v e. subst (λ (k : Key). InTurn header ready.values k y v) (sym key)
      (by_given s K T path (sight_of l i) seen header ready.values c chosen ready.ready j below y v (sym (ap (λ (vs : List LoopVariable). variable_in vs y) variables) ∙ e)))
