-- No key of an array has two writers just where no two of its writes have one key.
use Rattle.std.specs.Prelude.{◌≡◌, ◌⊎◌, ℕ, ◌<◌, Bool, true, false, not, ◌&&◌, List, [], ◌∷◌, length, map, refl}
use Rattle.std.proofs.Common.{inl, inr, sym, ap, ◌∙◌, subst}
use Rattle.values.specs.declared.key.Key.{Key}
use Rattle.values.specs.Keys.{same_key}
use Rattle.values.proofs.Keys.{same_key-eq, same_key-refl}
use Rattle.language.specs.Facts.{element, Knowledge, OneWriter}
use Rattle.language.specs.Members.{◌∈◌, first, later}
use Rattle.language.specs.Places.{Place}
use Rattle.language.proofs.Members.{split_in}
use Rattle.meaning_steps.specs.Kept.{AreApart}
use Rattle.meaning_steps.specs.Kept.{Write as KeptWrite}
use Rattle.meaning_facts.specs.declared.facts.Place.{Place as Spot}
use Rattle.meaning_facts.specs.declared.facts.Write.{Write}
use Rattle.meaning_facts.specs.declared.instances.Instance.{Instance}
use Rattle.meaning_facts.specs.declared.fact_base.FactBase.{FactBase}
use Rattle.meaning_facts.specs.Growing.{KeepsFacts}
use Rattle.meaning_facts.specs.Keeping.{kept_of, place_view, write_view}
use Rattle.meaning_facts.specs.Paths.{path_of, IsTree}
use Rattle.meaning_facts.specs.Indexed.{has_key_in, one_writer_in}
use Rattle.meaning_facts.specs.Store.{writes_at}
use Rattle.meaning_facts.proofs.Growing.{both, or_cases, or_right, in_views, of_views}
use Rattle.meaning_facts.proofs.Keeping.{by_located}
use Rattle.meaning_invariants.proofs.Aiming.{or_left}

key_there : (ws : List Write) (w : Write) → w ∈ ws → has_key_in ws w.key ≡ true
key_there ws w (first {xs = xs}) = or_left (has_key_in xs w.key) (same_key-refl w.key)
key_there ws w (later {y = y} {xs = xs} m) = or_right (same_key y.key w.key) (key_there xs w m)

not_both : {b : Bool} → not b ≡ true → b ≡ true → ⊥
not_both {b = true} p q = absurd (cc (p))
not_both {b = false} p q = absurd (cc (q))

-- of writes of which no two have one key, two of one key are one
one_of : (ws : List Write) → one_writer_in ws ≡ true → (x y : Write) → x ∈ ws → y ∈ ws → x.key ≡ y.key → x ≡ y
one_of [] h x y m k e = elim m [ ]
one_of (w ∷ ws) h x y m k e = by (split_in m) (split_in k) (λ i j. one_of ws (both (not (has_key_in ws w.key)) (one_writer_in ws) h).1 x y i j e)
  where
    alone : (z : Write) → z ∈ ws → z.key ≡ w.key → ⊥
    alone z i q = not_both (both (not (has_key_in ws w.key)) (one_writer_in ws) h).0 (subst (λ (t : Key). has_key_in ws t ≡ true) q (key_there ws z i))

    by : (x ≡ w) ⊎ (x ∈ ws) → (y ≡ w) ⊎ (y ∈ ws) → (x ∈ ws → y ∈ ws → x ≡ y) → x ≡ y
    by (inl p) (inl q) rec = p ∙ sym q
    by (inl p) (inr j) rec = absurd (alone y j (sym e ∙ ap (λ (z : Write). z.key) p))
    by (inr i) (inl q) rec = absurd (alone x i (e ∙ ap (λ (z : Write). z.key) q))
    by (inr i) (inr j) rec = rec i j

-- a key that is there is some write's
some_key : (ws : List Write) (k : Key) → has_key_in ws k ≡ true → (w : Write) × (w ∈ ws) × (w.key ≡ k)
some_key [] k h = absurd (cc (h))
some_key (w ∷ ws) k h = elim (or_cases (same_key w.key k) (has_key_in ws k) h) [
  | inl q ↦ (w, first, same_key-eq w.key k q)
  | inr q ↦ let r = some_key ws k q in (r.0, later r.1, r.2)
]

module _ (K : Knowledge) (ns : List Instance) (a : Place) (one : OneWriter K a) where
  all_one : (ws : List Write) → AreApart (map (write_view ns) ws) → ((w : Write) → w ∈ ws → K (element a w.key (place_view ns w.writer) w.value)) → one_writer_in ws ≡ true
  all_one [] d h = refl
  all_one (w ∷ ws) d h = by (has_key_in ws w.key) refl (all_one ws d.1 (λ u m. h u (later m)))
    where
      clash : (u : Write) → u ∈ ws → u.key ≡ w.key → ⊥
      clash u m e =
          let other = subst (λ (z : Key). K (element a z (place_view ns u.writer) u.value)) e (h u (later m)) in
          d.0 (write_view ns u) (in_views ns ws u m) e (one w.key (place_view ns u.writer) (place_view ns w.writer) u.value w.value other (h w first))

      by : (b : Bool) → has_key_in ws w.key ≡ b → one_writer_in ws ≡ true → not (has_key_in ws w.key) && one_writer_in ws ≡ true
      by true e q = let r = some_key ws w.key e in absurd (clash r.0 r.1 r.2)
      by false e q = ap (λ (z : Bool). not z && one_writer_in ws) e ∙ q

module _ (K : Knowledge) (l : FactBase) (tree : IsTree l.instances) (keeps : KeepsFacts K l) (i : ℕ) (within : i < length l.instances.all.items) (n : ℕ) where
  abbrev at : Spot
  at = record { instance = i; node = n }

  abbrev place : Place
  place = (path_of l.instances.all.items i, n)

  views_are : (kept_of l).writes place ≡ map (write_view l.instances.all.items) (writes_at l.facts at)
  views_are = by_located l.instances tree [] (λ p. map (write_view l.instances.all.items) (writes_at l.facts p)) at place (record { within = within; view_is = refl })

  known : (w : Write) → w ∈ writes_at l.facts at → K (element place w.key (place_view l.instances.all.items w.writer) w.value)
  known w m = keeps.write_so place (write_view l.instances.all.items w) (subst (λ (z : List KeptWrite). write_view l.instances.all.items w ∈ z) (sym views_are) (in_views l.instances.all.items (writes_at l.facts at) w m))

  pub one_all : OneWriter K place → one_writer_in (writes_at l.facts at) ≡ true
  one_all one = all_one K l.instances.all.items place one (writes_at l.facts at) (subst (λ (z : List KeptWrite). AreApart z) views_are (keeps.write_once place)) known

  pub one_so : one_writer_in (writes_at l.facts at) ≡ true → OneWriter K place
  one_so h = λ k w w' v v' x y.
      let p = of_views l.instances.all.items (writes_at l.facts at) (record { key = k; writer = w; value = v }) (subst (λ (z : List KeptWrite). record { key = k; writer = w; value = v } ∈ z) views_are (keeps.write_all place k w v x)) in
      let q = of_views l.instances.all.items (writes_at l.facts at) (record { key = k; writer = w'; value = v' }) (subst (λ (z : List KeptWrite). record { key = k; writer = w'; value = v' } ∈ z) views_are (keeps.write_all place k w' v' y)) in
      let p_key : k ≡ p.write.key = ap (λ (z : KeptWrite). z.key) p.is in
      let q_key : k ≡ q.write.key = ap (λ (z : KeptWrite). z.key) q.is in
      let same = one_of (writes_at l.facts at) h p.write q.write p.there q.there (sym p_key ∙ q_key) in
      let p_writer : w ≡ place_view l.instances.all.items p.write.writer = ap (λ (z : KeptWrite). z.writer) p.is in
      let q_writer : w' ≡ place_view l.instances.all.items q.write.writer = ap (λ (z : KeptWrite). z.writer) q.is in
      p_writer ∙ ap (λ (z : Write). place_view l.instances.all.items z.writer) same ∙ sym q_writer
