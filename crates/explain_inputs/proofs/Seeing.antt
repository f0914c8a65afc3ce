-- An input is seen just where it is known.
use Rattle.std.specs.Prelude.{◌≡◌, ℕ, ◌<◌, Bool, true, false, List, [], ◌∷◌, ◌++◌, length, is_some, Option, Some, None, refl}
use Rattle.std.proofs.Common.{sym, ap, ◌∙◌, subst}
use Rattle.values.specs.declared.key.Key.{Key}
use Rattle.values.specs.declared.value.Scalar.{Scalar}
use Rattle.values.specs.declared.value.Value.{Value}
use Rattle.values.specs.declared.value.Value.TheVariants.{One, Many}
use Rattle.language.specs.Core.{Core, Name}
use Rattle.language.specs.Facts.{Knowledge, a_number, a_text, IsKey, OneWrite}
use Rattle.language.specs.Meaning.{Known}
use Rattle.language.specs.Places.{Path, place}
use Rattle.language.specs.Reads.{Reads}
use Rattle.language.specs.Resolved.{core}
use Rattle.language.specs.Single.{SinglyAssigned}
use Rattle.language.specs.Table.{Table}
use Rattle.language.specs.Tree.{Tree}
use Rattle.language.specs.Typing.{WellTyped}
use Rattle.language_laws.proofs.Whole.{one_scalar_known}
use Rattle.language_accepted.proofs.Accepted.{accepted_formed}
use Rattle.meaning_steps.specs.Environment.{Sight, Sees}
use Rattle.meaning_steps.proofs.Seen as seen
use Rattle.meaning_facts.specs.Keeping.{kept_of}
use Rattle.meaning_facts.specs.Paths.{path_of}
use Rattle.meaning_facts.specs.Sighted.{sight_of}
use Rattle.meaning_facts.proofs.Keeping.{sees_kept}
use Rattle.meaning_outcomes.specs.declared.knowledge.Knowledge.{Knowledge as Learning}
use Rattle.meaning_outcomes.specs.Known.{IsKnowledgeOf}
use Rattle.explain_inputs.specs.Inputs.{Input, one_scalar, whole_array, an_element}
use Rattle.explain_inputs.specs.Missing.{is_once, element_seen, is_seen, unless, not_seen, IsThere, has_value, is_closed, is_written, AreMissing, no_input, there, missing}

some_of : {X : Type 0} (o : Option X) → is_some o ≡ true → (v : X) × (o ≡ Some v)
some_of (Some v) e = (v, refl)
some_of None e = absurd (cc (e))

once_of : (vs : List Scalar) → is_once vs ≡ true → (v : Scalar) × (vs ≡ v ∷ [])
once_of [] e = absurd (cc (e))
once_of (v ∷ []) e = (v, refl)
once_of (v ∷ u ∷ vs) e = absurd (cc (e))

module _ (s : Core) (K : Knowledge) (path : Path) (g : Sight) (sees : Sees s K path g) where
  element_so : (a : Name) (i : ℕ) (o : Option Value) → g.cell i ≡ o → element_seen g a o ≡ true → IsThere s K path (an_element a i)
  element_so a i (Some (One (Scalar.Number z))) q e =
      let one = once_of (g.writes a (Key.Number z)) e in
      is_written (sees.cell_so i (One (Scalar.Number z)) q) a_number (sees.once_so a (Key.Number z) one.0 one.1)
  element_so a i (Some (One (Scalar.Text t))) q e =
      let one = once_of (g.writes a (Key.Text t)) e in
      is_written (sees.cell_so i (One (Scalar.Text t)) q) a_text (sees.once_so a (Key.Text t) one.0 one.1)
  element_so a i (Some (One (Scalar.Truth b))) q e = absurd (cc (e))
  element_so a i (Some (Many es)) q e = absurd (cc (e))
  element_so a i None q e = absurd (cc (e))

  there_so : (x : Input) → is_seen g x ≡ true → IsThere s K path x
  there_so (one_scalar x) e = let v = some_of (g.scalar x) e in has_value (sees.scalar_so x v.0 v.1)
  there_so (whole_array a) e = is_closed (sees.closed_so a e)
  there_so (an_element a i) e = element_so a i (g.cell i) refl e

  element_all : (a : Name) (u : Value) (k : Key) (v : Scalar) → IsKey u k → OneWrite K (place s path a) k v → element_seen g a (Some u) ≡ true
  element_all a _ _ v (a_number {z = z}) w = ap is_once (sees.once_all a (Key.Number z) v w)
  element_all a _ _ v (a_text {bytes = t}) w = ap is_once (sees.once_all a (Key.Text t) v w)

  there_all : (x : Input) → IsThere s K path x → is_seen g x ≡ true
  there_all _ (has_value {x = x} {v = v} h) = ap is_some (sees.scalar_all x v h)
  there_all _ (is_closed {a = a} h) = sees.closed_all a h
  there_all _ (is_written {a = a} {i = i} {u = u} {k = k} {v = v} c k_is w) = ap (element_seen g a) (sees.cell_all i u c) ∙ element_all a u k v k_is w

  one_exact : (x : Input) (xs ys : List Input) (b : Bool) → is_seen g x ≡ b → AreMissing s K path xs ys → AreMissing s K path (x ∷ xs) (unless b x ++ ys)
  one_exact x xs ys true e m = there (there_so x e) m
  one_exact x xs ys false e m = missing (λ h. absurd (cc (e, there_all x h))) m

  exact : (xs : List Input) → AreMissing s K path xs (not_seen g xs)
  exact [] = no_input
  exact (x ∷ xs) = one_exact x xs (not_seen g xs) (is_seen g x) refl (exact xs)

-- of the inputs of a statement just those are not known that are not seen
pub not_seen_exact : (bytes : List ℕ) (t : Table) (tree : Tree) → Reads bytes tree → WellTyped tree t → SinglyAssigned (core t tree)
    → (k : Learning) → IsKnowledgeOf (core t tree) k → (i : ℕ) → i < length k.fact_base.instances.all.items → (xs : List Input)
    → AreMissing (core t tree) (Known (core t tree) k.rounds) (path_of k.fact_base.instances.all.items i) xs (not_seen (sight_of k.fact_base i) xs)
not_seen_exact bytes t tree r w single k known i within xs =
    let s = core t tree in
    let path = path_of k.fact_base.instances.all.items i in
    let one = one_scalar_known s (accepted_formed bytes t tree r w single) single k.rounds in
    let sees = subst (λ (g : Sight). Sees s (Known s k.rounds) path g) (sym (sees_kept s k.fact_base known.placed i within))
    (seen.sees s (Known s k.rounds) (kept_of k.fact_base) known.keeps one path) in
    exact s (Known s k.rounds) path (sight_of k.fact_base i) sees xs
