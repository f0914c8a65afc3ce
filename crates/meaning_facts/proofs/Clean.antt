-- Whether no key of any array has two writers, by the lists of the map.
use Rattle.std.specs.Prelude.{◌≡◌, ◌↔◌, ℕ, Bool, true, false, ◌&&◌, List, [], ◌∷◌, nat_eq, Option, None, IsTrue, refl}
use Rattle.std.specs.List.{list_all, AllByRecursion, IsDistinct}
use Rattle.std.specs.Map.{lookup, keys_of, values_of}
use Rattle.std.proofs.Common.{inl, inr, sym, ◌∙◌, subst}
use Rattle.std.proofs.lemmas.Bool.{cases_Bool, eqb-true, eq-eqb}
use Rattle.meaning_facts.specs.declared.facts.Place.{Place}
use Rattle.meaning_facts.specs.declared.facts.Write.{Write}
use Rattle.meaning_facts.specs.declared.facts.Facts.{Facts}
use Rattle.meaning_facts.specs.Indexed.{one_writer_in}
use Rattle.meaning_facts.specs.Store.{listed_writes, same_pair, writes_at}

abbrev pub Entries : Type 0
Entries = List ((ℕ × ℕ) × List Write)

both : (a b : Bool) → a && b ≡ true → (a ≡ true) × (b ≡ true)
both true b h = (refl, h)
both false b h = absurd (cc (h))

pair_same : (p : ℕ × ℕ) → same_pair p p ≡ true
pair_same p = rw (eq-eqb p.0 p.0 refl) (eq-eqb p.1 p.1 refl)

pair_eq : (p q : ℕ × ℕ) → same_pair p q ≡ true → p ≡ q
pair_eq p q h =
    let b = both (nat_eq p.0 q.0) (nat_eq p.1 q.1) h in
    λ i. (eqb-true p.0 q.0 b.0 i, eqb-true p.1 q.1 b.1 i)

pub all_so : (es : Entries) → list_all one_writer_in (values_of es) ≡ true → (q : ℕ × ℕ) → IsTrue (one_writer_in (listed_writes (lookup (same_pair q) es)))
all_so [] h q = refl
all_so (e ∷ es) h q = elim (cases_Bool (same_pair q e.0)) [
  | inl same ↦ rw same (both (one_writer_in e.1) (list_all one_writer_in (values_of es)) h).0
  | inr other ↦ rw other (all_so es (both (one_writer_in e.1) (list_all one_writer_in (values_of es)) h).1 q)
]

absent : (k : ℕ × ℕ) (es : Entries) → AllByRecursion (λ y. same_pair k y ≡ false) (keys_of es) → lookup (same_pair k) es ≡ None
absent k [] h = refl
absent k (e ∷ es) h = rw h.0 (absent k es h.1)

pub all_all : (es : Entries) → IsDistinct same_pair (keys_of es) → ((q : ℕ × ℕ) → IsTrue (one_writer_in (listed_writes (lookup (same_pair q) es)))) → list_all one_writer_in (values_of es) ≡ true
unfolding IsDistinct
all_all [] d f = refl
all_all (e ∷ es) d f =
    let head : one_writer_in e.1 ≡ true = rw (pair_same e.0) at (f e.0) in
    let rest : list_all one_writer_in (values_of es) ≡ true = all_all es d.1 (λ q. elim (cases_Bool (same_pair q e.0)) [
      | inl same ↦
          let none : lookup (same_pair q) es ≡ None = subst (λ (z : ℕ × ℕ). lookup (same_pair z) es ≡ None) (sym (pair_eq q e.0 same)) (absent e.0 es d.0) in
          subst (λ (z : Option (List Write)). IsTrue (one_writer_in (listed_writes z))) (sym none) refl
      | inr other ↦ rw other at (f q)
    ]) in
    rw head rest

pub clean_is : (k : Facts) → IsDistinct same_pair (keys_of k.writes.entries) → list_all one_writer_in (values_of k.writes.entries) ≡ true → (a : Place) → IsTrue (one_writer_in (writes_at k a))
clean_is k d h a = all_so k.writes.entries h (a.instance, a.node)

pub all_clean : (k : Facts) → IsDistinct same_pair (keys_of k.writes.entries) → ((a : Place) → IsTrue (one_writer_in (writes_at k a))) → list_all one_writer_in (values_of k.writes.entries) ≡ true
all_clean k d f = all_all k.writes.entries d (λ q. f (record { instance = q.0; node = q.1 }))

-- the end of a search
pub clean_all : (k : Facts) → IsDistinct same_pair (keys_of k.writes.entries) → list_all one_writer_in (values_of k.writes.entries) ≡ true → IsTrue true ↔ ((a : Place) → IsTrue (one_writer_in (writes_at k a)))
clean_all k d h = (λ _. clean_is k d h, λ _. refl)

pub not_clean : (k : Facts) → IsDistinct same_pair (keys_of k.writes.entries) → list_all one_writer_in (values_of k.writes.entries) ≡ false → IsTrue false ↔ ((a : Place) → IsTrue (one_writer_in (writes_at k a)))
not_clean k d h = (λ e. absurd (cc (e)), λ f. sym h ∙ all_clean k d f)
