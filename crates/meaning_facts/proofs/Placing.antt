-- Instances that stand at their paths do so where one more is opened.
use Rattle.std.specs.Prelude.{◌≡◌, ℕ, zero, suc, ◌<◌, List, [], ◌∷◌, length, None, refl}
use Rattle.std.proofs.Common.{inl, inr, sym, ap, ◌∙◌, subst, arith, length-append}
use Rattle.std.proofs.lemmas.Bool.{cases_lt}
use Rattle.language.specs.Core.{Owned, local, input, output, Name, Core}
use Rattle.language.specs.Parts.{call_at, input_name, output_name}
use Rattle.language.specs.Places.{Path, max_path_steps}
use Rattle.meaning_facts.specs.declared.facts.Place.{Place as Spot}
use Rattle.meaning_facts.specs.declared.instances.InstanceBindings.{InstanceBindings}
use Rattle.paths.specs.declared.steps.Step.{Step}
use Rattle.meaning_facts.specs.declared.instances.Instances.{Instances}
use Rattle.meaning_facts.specs.Keeping.{IsPlaced}
use Rattle.meaning_facts.specs.Paths.{path_of, child_at, IsOpen, IsTree}
use Rattle.meaning_facts.specs.Stands.{Stands, at_root, behind}
use Rattle.meaning_facts.specs.Store.{parent_of, inputs_in, inputs_of, outputs_in, outputs_of, outward, given_at, owner_spot, spot}
use Rattle.meaning_facts.proofs.Tree.{stays, comes, path_stays, parent_stays, path_comes, parent_comes, grows}

parent_within : (t : Instances) → IsTree t → (i : ℕ) → i < length t.all.items → parent_of t.all.items i < length t.all.items
parent_within t h zero l = subst (λ (z : ℕ). z < length t.all.items) (sym h.root_parent) l
parent_within t h (suc i) l =
    let o = h.opened (suc i) (omega arith) l in
    let c = h.opens (parent_of t.all.items (suc i)) o.at o.key (suc i) o.opened in
    omega (arith, c.behind)

module _ (s : Core) (t u : Instances) (p : ℕ) (x : Step) (g : InstanceBindings) (o : IsOpen t p x g u) (h : IsTree t) where
  -- where names lie stays
  pub owner_stays : (i : ℕ) → i < length t.all.items → (what : Owned) → owner_spot u.all.items i what ≡ owner_spot t.all.items i what
  owner_stays i l (local n) = refl
  owner_stays i l (input j) =
      ap (λ (z : List Spot). given_at z j (parent_of u.all.items i)) (ap inputs_in (stays t u p x g o i l)) ∙ ap (given_at (inputs_of t.all.items i) j) (parent_stays t u p x g o i l)
  owner_stays i l (output j) =
      ap (λ (z : List Spot). given_at z j (parent_of u.all.items i)) (ap outputs_in (stays t u p x g o i l)) ∙ ap (given_at (outputs_of t.all.items i) j) (parent_stays t u p x g o i l)

  spot_from : (up : ℕ) (i : ℕ) → i < length t.all.items → (what : Owned) → owner_spot u.all.items (outward u.all.items up i) what ≡ owner_spot t.all.items (outward t.all.items up i) what
  spot_from zero i l what = owner_stays i l what
  spot_from (suc up) i l what =
      ap (λ (z : ℕ). owner_spot u.all.items (outward u.all.items up z) what) (parent_stays t u p x g o i l)
      ∙ spot_from up (parent_of t.all.items i) (parent_within t h i l) what

  pub spot_stays : (i : ℕ) → i < length t.all.items → (y : Name) → spot u.all.items i y ≡ spot t.all.items i y
  spot_stays i l y = spot_from y.up i l y.what

  stands_stays : (i : ℕ) (path : Path) → Stands s t.all.items i path → i < length t.all.items → Stands s u.all.items i path
  stands_stays i path (at_root e f k) l = at_root (parent_stays t u p x g o 0 l ∙ e) (ap inputs_in (stays t u p x g o 0 l) ∙ f) (ap outputs_in (stays t u p x g o 0 l) ∙ k)
  stands_stays i path (behind {at = at} {path = rest} q xs ys) l =
      let up = parent_of t.all.items i in
      let within = parent_within t h i l in
      behind (subst (λ (z : ℕ). Stands s u.all.items z rest) (sym (parent_stays t u p x g o i l)) (stands_stays (parent_of t.all.items i) rest q within))
      (λ j. owner_stays i l (input j) ∙ xs j ∙ sym (spot_stays (parent_of t.all.items i) within (input_name (call_at s at) j)) ∙ ap (λ (z : ℕ). spot u.all.items z (input_name (call_at s at) j)) (sym (parent_stays t u p x g o i l)))
      (λ j. owner_stays i l (output j) ∙ ys j ∙ sym (spot_stays (parent_of t.all.items i) within (output_name (call_at s at) j)) ∙ ap (λ (z : ℕ). spot u.all.items z (output_name (call_at s at) j)) (sym (parent_stays t u p x g o i l)))

  module _ (placed : IsPlaced s t) (within : p < length t.all.items)
      (xs : (j : ℕ) → given_at g.inputs.items j p ≡ spot t.all.items p (input_name (call_at s x.offset) j))
      (ys : (j : ℕ) → given_at g.outputs.items j p ≡ spot t.all.items p (output_name (call_at s x.offset) j)) where
    inputs_come : inputs_of u.all.items (length t.all.items) ≡ g.inputs.items
    inputs_come = ap inputs_in (comes t u p x g o) ∙ ap (λ (z : InstanceBindings). z.inputs.items) o.given_is

    outputs_come : outputs_of u.all.items (length t.all.items) ≡ g.outputs.items
    outputs_come = ap outputs_in (comes t u p x g o) ∙ ap (λ (z : InstanceBindings). z.outputs.items) o.given_is

    stands_new : Stands s u.all.items (length t.all.items) ((x.offset, x.key) ∷ path_of t.all.items p)
    stands_new =
        behind (subst (λ (z : ℕ). Stands s u.all.items z (path_of t.all.items p)) (sym (parent_comes t u p x g o)) (stands_stays p (path_of t.all.items p) (placed.stands p within) within))
        (λ j. ap (λ (z : List Spot). given_at z j (parent_of u.all.items (length t.all.items))) inputs_come ∙ ap (given_at g.inputs.items j) (parent_comes t u p x g o) ∙ xs j
        ∙ sym (spot_stays p within (input_name (call_at s x.offset) j)) ∙ ap (λ (z : ℕ). spot u.all.items z (input_name (call_at s x.offset) j)) (sym (parent_comes t u p x g o)))
        (λ j. ap (λ (z : List Spot). given_at z j (parent_of u.all.items (length t.all.items))) outputs_come ∙ ap (given_at g.outputs.items j) (parent_comes t u p x g o) ∙ ys j
        ∙ sym (spot_stays p within (output_name (call_at s x.offset) j)) ∙ ap (λ (z : ℕ). spot u.all.items z (output_name (call_at s x.offset) j)) (sym (parent_comes t u p x g o)))

    stands_all : (i : ℕ) → i < length u.all.items → Stands s u.all.items i (path_of u.all.items i)
    stands_all i l = elim (cases_lt i (length t.all.items)) [
      | inl b ↦ subst (Stands s u.all.items i) (sym (path_stays t u p x g o i b)) (stands_stays i (path_of t.all.items i) (placed.stands i b) b)
      | inr b ↦
          let last : i ≡ length t.all.items = omega (arith, ap length o.all, length-append t.all.items (o.made ∷ [])) in
          let path : path_of u.all.items i ≡ (x.offset, x.key) ∷ path_of t.all.items p = ap (path_of u.all.items) last ∙ path_comes t u p x g o in
          subst (Stands s u.all.items i) (sym path) (subst (λ (z : ℕ). Stands s u.all.items z ((x.offset, x.key) ∷ path_of t.all.items p)) (sym last) stands_new)
    ]

    pub placed_more : child_at t p x.offset x.key ≡ None → length (path_of t.all.items p) < max_path_steps → IsPlaced s u
    placed_more lacks fits = record { tree = grows t u p x g o h within lacks fits; stands = stands_all }
