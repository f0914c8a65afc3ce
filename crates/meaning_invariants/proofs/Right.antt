-- What was opened so far is right, and what instances see of choices is so.
use Rattle.std.specs.Prelude.{◌≡◌, ℕ, zero, suc, ◌<◌, true, false, List, [], ◌∷◌, length, Option, Some, None, refl}
use Rattle.std.proofs.Common.{sym, ap, ◌∙◌, subst, arith}
use Rattle.values.specs.declared.key.Key.{Key}
use Rattle.values.specs.declared.value.Scalar.{Scalar}
use Rattle.language.specs.Core.{Action, Awaited, Block, Core, wait}
use Rattle.language.specs.Facts.{Knowledge}
use Rattle.language.specs.Meaning.{Closed, HasValue, in_block, in_turn, Ready}
use Rattle.language.specs.Places.{Path, Place, max_path_steps}
use Rattle.meaning_steps.specs.Taken.{Taken, by_names}
use Rattle.meaning_steps.proofs.Settled.{ready_so}
use Rattle.meaning_facts.specs.declared.instances.LoopVariable.{LoopVariable}
use Rattle.meaning_facts.specs.declared.fact_base.FactBase.{FactBase}
use Rattle.meaning_cells.specs.Chosen.{Chosen, chosen_in, have_come_in}
use Rattle.meaning_facts.specs.Keeping.{in_instance, turn_at}
use Rattle.meaning_facts.specs.Paths.{at_path, path_of}
use Rattle.meaning_facts.specs.Sighted.{closed_at, sight_of}
use Rattle.meaning_facts.specs.Store.{parent_of, variable_in, variables_of}
use Rattle.meaning_facts.proofs.Keeping.{found_there}
use Rattle.meaning_cells.proofs.Readying.{chosen_ready}
use Rattle.meaning_invariants.specs.Active.{Active, Candidate, IsRight, taken_by}
use Rattle.meaning_invariants.proofs.EndedRight.{right_apart, right_so}
use Rattle.meaning_invariants.proofs.Sights.{come_so, sees}
use Rattle.meaning_invariants.specs.Opened.{IsChoice, IsSoFar, Origin, of_header, of_call, SeesChoices}

-- what a variable is by what opened its instance
origin_value : {s : Core} {K : Knowledge} {path : Path} {at : ℕ} {k : Key} {variable : ℕ → Option Scalar} → Origin s K path at k variable → length path < max_path_steps
    → (x : ℕ) (v : Scalar) → variable x ≡ Some v → HasValue s K ((at, k) ∷ path, x) v
origin_value (of_header (in_block l m) r o all so) short x v e = in_turn l m r o (so x v e) short
origin_value (of_call l m e none) short x v q = let z : None ≡ Some v = sym (none x) ∙ q in absurd (cc (z))

module _ (s : Core) (K : Knowledge) (levels : ℕ) (l : FactBase) (ls : List Active) (arrays : List Candidate) (far : IsSoFar s K levels l ls arrays) where
  closed_found : (a : Place) (o : Option ℕ) → at_path l.instances a.0 ≡ o → in_instance false (closed_at l) o a.1 ≡ true → Closed s K a
  closed_found a (Some j) q e = subst (λ (p : Path). Closed s K (p, a.1)) (found_there l.instances far.placed.tree a.0 j q).1 (far.closed (record { instance = j; node = a.1 }) e).so
  closed_found a None q e = absurd (cc (e))

  turn_in : (j x : ℕ) (v : Scalar) → j < length l.instances.all.items → variable_in (variables_of l.instances.all.items j) x ≡ Some v → HasValue s K (path_of l.instances.all.items j, x) v
  turn_in zero x v w e =
      let none : variable_in (variables_of l.instances.all.items 0) x ≡ None = ap (λ (vs : List LoopVariable). variable_in vs x) far.placed.tree.root_variables in
      let z : None ≡ Some v = sym none ∙ e in
      absurd (cc (z))
  turn_in (suc j) x v w e =
      let o = far.placed.tree.opened (suc j) (omega arith) w in
      let i = parent_of l.instances.all.items (suc j) in
      let c = far.placed.tree.opens i o.at o.key (suc j) o.opened in
      let short : length (path_of l.instances.all.items i) < max_path_steps = omega (arith, far.placed.tree.short (suc j), ap length c.path_is) in
      subst (λ (p : Path). HasValue s K (p, x) v) (sym c.path_is) (origin_value (far.origins i o.at o.key (suc j) o.opened) short x v e)

  turn_found : (a : Place) (v : Scalar) (o : Option ℕ) → at_path l.instances a.0 ≡ o → in_instance None (turn_at l) o a.1 ≡ Some v → HasValue s K a v
  turn_found a v (Some j) q e =
      let f = found_there l.instances far.placed.tree a.0 j q in
      subst (λ (p : Path). HasValue s K (p, a.1) v) f.1 (turn_in j a.1 v f.0 e)
  turn_found a v None q e = absurd (cc (e))

  pub is_right : IsRight s K l ls
  is_right = record {
    within = λ a m. (far.live a m).within;
    live = λ a m. (far.live a m).so;
    closed = λ a e. closed_found a (at_path l.instances a.0) refl e;
    turn = λ p v e. turn_found p v (at_path l.instances p.0) refl e;
  }

  abbrev T : Taken
  T = taken_by l ls

  choice_seen : (i : ℕ) (x : Action) (c : Chosen) → i < length l.instances.all.items → chosen_in (sight_of l i) x ≡ Some c → IsChoice s K (path_of l.instances.all.items i) x c
  choice_seen i x c w e =
      let r = chosen_ready s K T (path_of l.instances.all.items i) (sight_of l i) (sees s K l ls far.placed far.holds.keeps (right_apart s K l ls is_right) i w) x c e in
      record { values = r.values; ready = ready_so s K T (right_so s K l ls far.holds.keeps is_right) r.ready; opens = r.opens }

  names_seen : (i : ℕ) (ns : List Awaited) (b : Block) → i < length l.instances.all.items → have_come_in (sight_of l i) ns ≡ true → Ready s K (path_of l.instances.all.items i) (wait ns b) []
  names_seen i ns b w e = ready_so s K T (right_so s K l ls far.holds.keeps is_right) (by_names (come_so s l ls far.placed i w ns e))

  pub sees_choices : SeesChoices s K l
  sees_choices = record { choice = choice_seen; names = names_seen }
