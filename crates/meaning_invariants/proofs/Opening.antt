-- What was opened so far is so with one instance more.
use Rattle.std.specs.Prelude.{◌≡◌, ℕ, ◌<◌, Bool, List, [], ◌∷◌, length, Some, None, if◌then◌else◌, refl}
use Rattle.std.proofs.Common.{inl, inr, sym, ap, ◌∙◌, subst, arith, length-append}
use Rattle.std.proofs.lemmas.Bool.{cases_Bool}
use mathlib.Core.Path.{fun_ext}
use Rattle.values.specs.declared.key.Key.{Key}
use Rattle.language.specs.Core.{Block, Core, Name}
use Rattle.language.specs.Facts.{Knowledge}
use Rattle.language.specs.Meaning.{Closed, Live, LiveStmt}
use Rattle.language.specs.Parts.{call_at, input_name, output_name}
use Rattle.language.specs.Places.{Path, max_path_steps}
use Rattle.meaning_facts.specs.declared.facts.Place.{Place as Spot}
use Rattle.meaning_facts.specs.declared.instances.InstanceBindings.{InstanceBindings}
use Rattle.meaning_facts.specs.declared.instances.Instances.{Instances}
use Rattle.paths.specs.declared.steps.Step.{Step}
use Rattle.meaning_facts.specs.declared.instances.LoopVariable.{LoopVariable}
use Rattle.meaning_facts.specs.declared.fact_base.FactBase.{FactBase}
use Rattle.meaning_facts.specs.Keeping.{IsPlaced}
use Rattle.meaning_facts.specs.Paths.{path_of, child_at, same_step, IsOpen, IsTree}
use Rattle.meaning_facts.specs.Sighted.{closed_at, scalar_at, sight_of}
use Rattle.meaning_facts.specs.Store.{elements_from, given_at, spot, value_at, variable_in, variables_in, variables_of, writes_at, writes_under}
use Rattle.meaning_facts.proofs.Keeping.{name_located, sight_is}
use Rattle.meaning_facts.proofs.Placing.{placed_more, spot_stays}
use Rattle.meaning_facts.proofs.Tree.{comes, found_stays, path_stays, same_step_is, stays}
use Rattle.meaning_steps.specs.Kept.{scalar_by}
use Rattle.meaning_invariants.specs.Held.{with_instances}
use Rattle.meaning_invariants.proofs.HeldOpening.{grows_by_one, holds_still}
use Rattle.meaning_invariants.specs.Active.{Active, Candidate}
use Rattle.meaning_invariants.specs.Opened.{GoesOn, IsActive, IsCandidate, IsClosedSo, IsSoFar, Origin}

module _ (s : Core) (K : Knowledge) (levels : ℕ) (l : FactBase) (ls : List Active) (arrays : List Candidate) (far : IsSoFar s K levels l ls arrays)
    (i : ℕ) (within : i < length l.instances.all.items) (x : Step) (g : InstanceBindings) (u : Instances) (o : IsOpen l.instances i x g u) (lacks : child_at l.instances i x.offset x.key ≡ None)
    (short : length (path_of l.instances.all.items i) < max_path_steps) where
  abbrev t : Instances
  t = l.instances

  abbrev pub now : FactBase
  now = with_instances l u

  tree : IsTree t
  tree = far.placed.tree

  longer : (j : ℕ) → j < length t.all.items → j < length u.all.items
  longer j w = omega (arith, ap length o.all, length-append t.all.items (o.made ∷ []), w)

  same_path : (j : ℕ) → j < length t.all.items → path_of u.all.items j ≡ path_of t.all.items j
  same_path j w = path_stays t u i x g o j w

  -- WHAT INSTANCES SEE
  scalar_same : (p : Spot) → p.instance < length t.all.items → scalar_at now p ≡ scalar_at l p
  scalar_same p w = ap (λ (vs : List LoopVariable). scalar_by (value_at l.facts p) (variable_in vs p.node)) (ap variables_in (stays t u i x g o p.instance w))

  sees_same : (j : ℕ) → j < length t.all.items → sight_of now j ≡ sight_of l j
  sees_same j w =
      let at : (y : Name) → spot u.all.items j y ≡ spot t.all.items j y = spot_stays s t u i x g o tree j w in
      sight_is (sight_of now j) (sight_of l j)
      (fun_ext (λ y. ap (scalar_at now) (at y) ∙ scalar_same (spot t.all.items j y) (name_located s l far.placed j w y).within))
      (fun_ext (λ y. ap (closed_at l) (at y)))
      (fun_ext (λ y. ap (λ (p : Spot). elements_from [] (writes_at l.facts p)) (at y)))
      (fun_ext (λ y. fun_ext (λ k. ap (λ (p : Spot). writes_under (writes_at l.facts p) k) (at y))))
      refl

  pub goes_on : GoesOn l ls now ls
  goes_on = record {
    within = longer;
    path_same = same_path;
    children = λ j at k c e. found_stays t u i x g o tree within lacks short j at k c e;
    sight_same = sees_same;
    listed = λ a m. m;
  }

  -- WHAT IS SO
  module _ (xs : (j : ℕ) → given_at g.inputs.items j i ≡ spot t.all.items i (input_name (call_at s x.offset) j))
      (ys : (j : ℕ) → given_at g.outputs.items j i ≡ spot t.all.items i (output_name (call_at s x.offset) j))
      (origin : Origin s K (path_of t.all.items i) x.offset x.key (variable_in g.variables.items)) where
    placed_now : IsPlaced s u
    placed_now = placed_more s t u i x g o tree far.placed within xs ys lacks short

    active_now : (a : Active) → IsActive s K l a → IsActive s K now a
    active_now a h = record { within = longer a.instance h.within; so = subst (λ (p : Path). LiveStmt s K p a.statement) (sym (same_path a.instance h.within)) h.so }

    closed_now : (p : Spot) → IsClosedSo s K l p → IsClosedSo s K now p
    closed_now p h = record {
      within = longer p.instance h.within;
      so = subst (λ (q : Path). Closed s K (q, p.node)) (sym (same_path p.instance h.within)) h.so;
    }

    candidate_now : (p : Spot) (b : Block) → IsCandidate s K l p b → IsCandidate s K now p b
    candidate_now p b h = record {
      within = longer p.instance h.within;
      live = subst (λ (q : Path). Live s K q b) (sym (same_path p.instance h.within)) h.live;
      at = h.at;
      node = h.node;
      there = h.there;
    }

    abbrev FromAt : ℕ → ℕ → Key → ℕ → Type 0
    FromAt j at k c = Origin s K (path_of u.all.items j) at k (variable_in (variables_of u.all.items c))

    origin_new : FromAt i x.offset x.key (length t.all.items)
    origin_new =
        subst (λ (p : Path). Origin s K p x.offset x.key (variable_in (variables_of u.all.items (length t.all.items)))) (sym (same_path i within))
        (subst (λ (vs : List LoopVariable). Origin s K (path_of t.all.items i) x.offset x.key (variable_in vs)) (sym (ap variables_in (comes t u i x g o) ∙ ap (λ (z : InstanceBindings). z.variables.items) o.given_is)) origin)

    origin_old : (j at : ℕ) (k : Key) (c : ℕ) → child_at t j at k ≡ Some c → FromAt j at k c
    origin_old j at k c e =
        let h = tree.opens j at k c e in
        let jw : j < length t.all.items = omega (arith, h.within, h.behind) in
        subst (λ (p : Path). Origin s K p at k (variable_in (variables_of u.all.items c))) (sym (same_path j jw))
        (subst (λ (vs : List LoopVariable). Origin s K (path_of t.all.items j) at k (variable_in vs)) (sym (ap variables_in (stays t u i x g o c h.within))) (far.origins j at k c e))

    origins_now : (j at : ℕ) (k : Key) (c : ℕ) → child_at u j at k ≡ Some c → FromAt j at k c
    origins_now j at k c e = elim (cases_Bool (same_step (i, x.offset, x.key) (j, at, k))) [
      | inl same ↦
          let z = same_step_is i j x.offset at x.key k same in
          let number : Some (length t.all.items) ≡ Some c = sym (o.found j at k ∙ ap (λ (b : Bool). if b then Some (length t.all.items) else child_at t j at k) same) ∙ e in
          let last : length t.all.items ≡ c = cc (number) in
          subst (λ (m : ℕ). FromAt j at k m) last
          (subst (λ (q : Key). FromAt j at q (length t.all.items)) z.key_same
          (subst (λ (a : ℕ). FromAt j a x.key (length t.all.items)) z.at_same (subst (λ (n : ℕ). FromAt n x.offset x.key (length t.all.items)) z.parent_same origin_new)))
      | inr other ↦
          origin_old j at k c (sym (o.found j at k ∙ ap (λ (b : Bool). if b then Some (length t.all.items) else child_at t j at k) other) ∙ e)
    ]

    pub so_far_opened : IsSoFar s K levels now ls arrays
    so_far_opened = record {
      holds = holds_still K l u tree placed_now.tree (grows_by_one t u i x g o) far.holds;
      placed = placed_now;
      live = λ a m. active_now a (far.live a m);
      closed = λ p e. closed_now p (far.closed p e);
      origins = origins_now;
      script = far.script;
      declared = far.declared;
      candidates = λ p b m. candidate_now p b (far.candidates p b m);
    }
