-- The lines that are held, as they are read off what is known: one of each writer.
use Rattle.std.proofs.Common.{◌≡◌, ℕ, ◌<◌, Bool, true, false, List, [], ◌∷◌, length, map, Option, None, Some, refl, sym, ap, ◌∙◌, subst, inl, inr}
use Rattle.std.specs.Prelude.{◌⊎◌, cond, IsPermutation}
use Rattle.std.specs.HashMap.{IsUnique}
use Rattle.std.specs.List.{AllByRecursion, IsDistinct}
use Rattle.std.specs.Map.{keys_of, lookup, values_of}
use Rattle.std.proofs.lemmas.Bool.{and_parts, eqb-true}
use Rattle.std.proofs.lemmas.Option.{none-some, same_Some}
use Rattle.language.specs.Core.{Core}
use Rattle.language.specs.Facts.{line, Knowledge}
use Rattle.language.specs.Meaning.{Known}
use Rattle.language.specs.Members.{◌∈◌, first, later}
use Rattle.language.specs.Outcomes.{texts, Lines, OnceEach, Written}
use Rattle.language.specs.Places.{Path, Place}
use Rattle.language.proofs.Members.{split_in}
use Rattle.meaning_facts.specs.declared.facts.Place.{Place as Spot}
use Rattle.meaning_facts.specs.declared.instances.Instance.{Instance}
use Rattle.meaning_facts.specs.declared.fact_base.FactBase.{FactBase}
use Rattle.meaning_facts.specs.Keeping.{place_view}
use Rattle.meaning_facts.specs.Paths.{at_path, IsTree}
use Rattle.meaning_facts.specs.Store.{all_lines, line_at, same_pair}
use Rattle.meaning_facts.proofs.Growing.{at_view}
use Rattle.meaning_invariants.specs.Held.{Holds}
use Rattle.meaning_round.proofs.Listed.{mapped_in}
use Rattle.meaning_outcomes.proofs.Views.{unmap}
use Rattle.meaning_outcomes.proofs.Told.{number_own}

-- a line of the map
abbrev Entry : Type 0
Entry = (ℕ × ℕ) × List ℕ

abbrev spot_of : Entry → Spot
spot_of e = record { instance = e.0.0; node = e.0.1 }

-- LOOK-UPS WHERE NO TWO KEYS ARE THE SAME

pair_own : (p : ℕ × ℕ) → same_pair p p ≡ true
pair_own p = rw (number_own p.0) (rw (number_own p.1) refl)

record ArePair (p q : ℕ × ℕ) : Type 0 where
  one : p.0 ≡ q.0
  two : p.1 ≡ q.1

pair_parts : (p q : ℕ × ℕ) → same_pair p q ≡ true → ArePair p q
pair_parts p q h = let b = and_parts _ _ h in record { one = eqb-true p.0 q.0 b.0; two = eqb-true p.1 q.1 b.1 }

-- a key is none of those behind it
apart_all : (p : ℕ × ℕ) (es : List Entry) → AllByRecursion (λ (q : ℕ × ℕ). same_pair p q ≡ false) (keys_of es) → (e : Entry) → ◌∈◌ {X = Entry} e es → same_pair p e.0 ≡ false
apart_all p [] h e i = elim i [ ]
apart_all p (d ∷ es) h e i = elim (split_in {X = Entry} i) [ inl q ↦ ap (λ (z : Entry). same_pair p z.0) q ∙ h.0 | inr j ↦ apart_all p es h.1 e j ]

abbrev AreApart : List Entry → Type 0
AreApart [] = Unit {0}
AreApart (d ∷ es) = ((e : Entry) → ◌∈◌ {X = Entry} e es → same_pair d.0 e.0 ≡ false) × AreApart es

distinct_apart : (es : List Entry) → IsDistinct same_pair (keys_of es) → AreApart es
unfolding IsDistinct
distinct_apart [] h = tt
distinct_apart (d ∷ es) h = ((λ e i. apart_all d.0 es h.0 e i), distinct_apart es h.1)

clash : {b : Bool} → b ≡ true → b ≡ false → ⊥
clash p q = let e : true ≡ false = sym p ∙ q in absurd (cc (e))

turned : (p q : ℕ × ℕ) → same_pair p q ≡ true → same_pair q p ≡ true
turned p q h = let r = pair_parts p q h in rw (sym r.one) (rw (sym r.two) (pair_own p))

-- each entry is found
found : (es : List Entry) → AreApart es → (e : Entry) → ◌∈◌ {X = Entry} e es → lookup (same_pair e.0) es ≡ Some e.1
found [] a e i = elim i [ ]
found (d ∷ es) a e i = by (split_in {X = Entry} i) (same_pair e.0 d.0) refl (λ j. found es a.1 e j)
  where
    by : (◌≡◌ {A = Entry} e d) ⊎ (◌∈◌ {X = Entry} e es) → (b : Bool) → same_pair e.0 d.0 ≡ b → (◌∈◌ {X = Entry} e es → lookup (same_pair e.0) es ≡ Some e.1) → cond b (Some d.1) (lookup (same_pair e.0) es) ≡ Some e.1
    by (inl q) true h rec = ap (λ (z : Entry). Some z.1) (sym q)
    by (inl q) false h rec = absurd (clash (ap (λ (z : Entry). same_pair e.0 z.0) (sym q) ∙ pair_own e.0) h)
    by (inr j) true h rec = absurd (clash (turned e.0 d.0 h) (a.0 e j))
    by (inr j) false h rec = rec j

-- what is found is an entry
record IsEntry (p : ℕ × ℕ) (bytes : List ℕ) (es : List Entry) : Type 0 where
  entry : Entry
  there : ◌∈◌ {X = Entry} entry es
  key_is : ArePair p entry.0
  text_is : entry.1 ≡ bytes

entry_of : (es : List Entry) (p : ℕ × ℕ) (bytes : List ℕ) → lookup (same_pair p) es ≡ Some bytes → IsEntry p bytes es
entry_of [] p bytes h = absurd (none-some bytes h)
entry_of (d ∷ es) p bytes h = by (same_pair p d.0) refl h (λ k. entry_of es p bytes k)
  where
    by : (b : Bool) → same_pair p d.0 ≡ b → cond b (Some d.1) (lookup (same_pair p) es) ≡ Some bytes → (lookup (same_pair p) es ≡ Some bytes → IsEntry p bytes es) → IsEntry p bytes (d ∷ es)
    by true e k rec = record { entry = d; there = first; key_is = pair_parts p d.0 e; text_is = same_Some d.1 bytes k }
    by false e k rec = let r = rec k in record { entry = r.entry; there = later r.there; key_is = r.key_is; text_is = r.text_is }

-- THE LINES

module _ (K : Knowledge) (l : FactBase) (tree : IsTree l.instances) (holds : Holds K l) (unique : IsUnique same_pair l.facts.lines) where
  abbrev ns : List Instance
  ns = l.instances.all.items

  abbrev entries : List Entry
  entries = l.facts.lines.entries

  abbrev line_of : Entry → Written
  line_of e = (place_view ns (spot_of e), e.1)

  there : (e : Entry) → ◌∈◌ {X = Entry} e entries → line_at l.facts (spot_of e) ≡ Some e.1
  there e i = found entries (distinct_apart entries unique) e i

  -- writers at one place of the script are one
  same_writer : (p q : Spot) → p.instance < length ns → q.instance < length ns → place_view ns p ≡ place_view ns q → (p.instance ≡ q.instance) × (p.node ≡ q.node)
  same_writer p q lp lq e = (
    same_Some p.instance q.instance (sym (at_view l.instances tree p lp) ∙ ap (λ (z : Place). at_path l.instances z.0) e ∙ at_view l.instances tree q lq),
    ap (λ (z : Place). z.1) e,
  )

  once_each : (es : List Entry) → AreApart es → ((e : Entry) → ◌∈◌ {X = Entry} e es → ◌∈◌ {X = Entry} e entries) → OnceEach (map line_of es)
  once_each [] a h = tt
  once_each (d ∷ es) a h = ((λ bytes i. twice bytes i), once_each es a.1 (λ e i. h e (later i)))
    where
      twice : (bytes : List ℕ) → ◌∈◌ {X = Written} (place_view ns (spot_of d), bytes) (map line_of es) → ⊥
      twice bytes i =
          let r = unmap line_of es (place_view ns (spot_of d), bytes) i in
          let e : Entry = r.0 in
          let views : place_view ns (spot_of d) ≡ place_view ns (spot_of e) = ap (λ (z : Written). z.0) r.2 in
          let here = holds.within.lines (spot_of d) d.1 (there d (h d first)) in
          let other = holds.within.lines (spot_of e) e.1 (there e (h e (later r.1))) in
          let w = same_writer (spot_of d) (spot_of e) here other views in
          clash (rw (sym w.0) (rw (sym w.1) (pair_own d.0))) (a.0 e r.1)

  texts_are : (es : List Entry) → texts (map line_of es) ≡ values_of es
  texts_are [] = refl
  texts_are (e ∷ es) = ap (λ (z : List (List ℕ)). e.1 ∷ z) (texts_are es)

  pub lines_read : (lines : List (List ℕ)) → IsPermutation (all_lines l.facts) lines → Lines K lines
  lines_read lines moved = record {
    listing = map line_of entries;
    once = once_each entries (distinct_apart entries unique) (λ e i. i);
    known = λ w bytes i. (
        let r = unmap line_of entries (w, bytes) i in
        let e : Entry = r.0 in
        let so = holds.line_so (spot_of e) e.1 (there e r.1) in
        subst (λ (z : Written). K (line z.0 z.1)) (sym r.2) so
        );
    all = λ w bytes k. (
        let h = holds.line_all w bytes k in
        let r = entry_of entries (h.writer.instance, h.writer.node) bytes h.there in
        let place : place_view ns (spot_of r.entry) ≡ w = ap (λ (p : Spot). place_view ns p) (λ i. record { instance = (sym r.key_is.one) i; node = (sym r.key_is.two) i }) ∙ h.located.view_is in
        let same : ◌≡◌ {A = Written} (line_of r.entry) (w, bytes) = λ i. (place i, r.text_is i) in
        subst (λ (z : Written). ◌∈◌ {X = Written} z (map line_of entries)) same (mapped_in line_of entries r.there)
        );
    permuted = subst (λ (z : List (List ℕ)). IsPermutation z lines) (sym (texts_are entries)) moved;
  }
