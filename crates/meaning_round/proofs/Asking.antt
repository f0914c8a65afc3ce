-- What is told by those who are asked, one after another.
use Rattle.std.specs.Prelude.{◌≡◌, ℕ, ◌+◌, ◌≤◌, List, [], ◌∷◌, ◌++◌, length, Option, Some, None, option_to_list, slice_get, refl}
use Rattle.std.proofs.Common.{sym, ap, ◌∙◌, subst, arith}
use Rattle.std.proofs.lemmas.List.{append_assoc, append-nil, length-map}
use Rattle.language.specs.Facts.{Fact}
use Rattle.language.specs.Members.{◌∈◌, first}
use Rattle.language.proofs.Members.{to_left, to_right}
use Rattle.meaning_facts.specs.declared.facts.Fact.{Fact as Known}
use Rattle.meaning_facts.specs.declared.instances.Instance.{Instance}
use Rattle.meaning_facts.specs.declared.fact_base.FactBase.{FactBase}
use Rattle.meaning_facts.specs.Growing.{fact_view}
use Rattle.meaning_invariants.specs.Active.{Active}
use Rattle.meaning_invariants.specs.Held.{HasPlaces}
use Rattle.meaning_round.specs.Viewed.{facts_view}
use Rattle.meaning_round.specs.Made.{picks}
use Rattle.meaning_round.specs.Standing.{active_news, actives_news, HavePlaces}
use Rattle.meaning_round.proofs.Steps.{actives_append}

-- the first of those who are left, and then the others
pub asked_next : (l : FactBase) (ls : List Active) (k : ℕ) (ks : List ℕ) (xs ys whole : List Fact) → xs ++ actives_news l (picks ls (k ∷ ks)) ≡ whole
    → ys ≡ xs ++ actives_news l (picks ls (k ∷ [])) → ys ++ actives_news l (picks ls ks) ≡ whole
asked_next l ls k ks xs ys whole e f =
    ap (λ (z : List Fact). z ++ actives_news l (picks ls ks)) f
    ∙ append_assoc xs (actives_news l (picks ls (k ∷ []))) (actives_news l (picks ls ks))
    ∙ ap (λ (z : List Fact). xs ++ z)
    (sym (actives_append l (picks ls (k ∷ [])) (picks ls ks)) ∙ ap (λ (z : List Active). actives_news l z) (one_and_others (option_to_list (slice_get ls k))))
    ∙ e
  where
    one_and_others : (os : List Active) → (os ++ []) ++ picks ls ks ≡ os ++ picks ls ks
    one_and_others os = ap (λ (z : List Active). z ++ picks ls ks) (append-nil os)

pub asked_last : (l : FactBase) (ls : List Active) (ks : List ℕ) (xs whole : List Fact) → ks ≡ [] → xs ++ actives_news l (picks ls ks) ≡ whole → xs ≡ whole
asked_last l ls ks xs whole e f = sym (append-nil xs) ∙ ap (λ (z : List ℕ). xs ++ actives_news l (picks ls z)) (sym e) ∙ f

pub places_next : (ns : List Instance) (ls : List Active) (k : ℕ) (ks : List ℕ) → HavePlaces ns (picks ls (k ∷ ks)) → HavePlaces ns (picks ls (k ∷ [])) × HavePlaces ns (picks ls ks)
places_next ns ls k ks h = (
  λ a i. h a (to_left (option_to_list (slice_get ls k)) (picks ls ks) (subst (λ (z : List Active). a ∈ z) (append-nil (option_to_list (slice_get ls k))) i)),
  λ a i. h a (to_right (option_to_list (slice_get ls k)) (picks ls ks) i),
)

-- nobody has that number
pub nobody_tells : (l : FactBase) (ls : List Active) (k : ℕ) (xs : List Fact) → slice_get ls k ≡ None → xs ≡ xs ++ actives_news l (picks ls (k ∷ []))
nobody_tells l ls k xs e = sym (append-nil xs) ∙ ap (λ (o : Option Active). xs ++ actives_news l (option_to_list o ++ [])) (sym e)

-- what the one of a number tells
pub one_tells : (l : FactBase) (ls : List Active) (k : ℕ) (a : Active) (xs ys : List Fact) → slice_get ls k ≡ Some a → ys ≡ xs ++ active_news l a → ys ≡ xs ++ actives_news l (picks ls (k ∷ []))
one_tells l ls k a xs ys e f =
    f ∙ ap (λ (z : List Fact). xs ++ z) (sym (append-nil (active_news l a)))
    ∙ ap (λ (o : Option Active). xs ++ actives_news l (option_to_list o ++ [])) (sym e)

pub places_one : (ns : List Instance) (ls : List Active) (k : ℕ) (a : Active) → slice_get ls k ≡ Some a → HavePlaces ns (picks ls (k ∷ [])) → HasPlaces ns a.instance
places_one ns ls k a e h = h a (subst (λ (o : Option Active). a ∈ (option_to_list o ++ [])) (sym e) first)

-- who has told nothing, by how many facts there are
pub told_nothing : (ns : List Instance) (fs gs : List Known) (ks : List Fact) → facts_view ns gs ≡ facts_view ns fs ++ ks → length gs ≤ length fs → ks ≡ []
told_nothing ns fs gs ks e few =
    let p = sym (length-map gs (fact_view ns)) ∙ ap length e ∙ length_both (facts_view ns fs) ks ∙ ap (λ (n : ℕ). n + length ks) (length-map fs (fact_view ns)) in
    none ks p
  where
    length_both : (xs zs : List Fact) → length (xs ++ zs) ≡ length xs + length zs
    length_both [] zs = omega arith
    length_both (x ∷ xs) zs = let e = length_both xs zs in omega (arith, e)

    none : (zs : List Fact) → length gs ≡ length fs + length zs → zs ≡ []
    none [] p = refl
    none (z ∷ zs) p = absurd (omega (arith, p, few))
