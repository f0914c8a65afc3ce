-- What a program holds stays where more instances are opened.
use Rattle.std.specs.Prelude.{◌≡◌, ℕ, ◌<◌, ◌≤◌, Bool, true, false, List, [], ◌∷◌, length, map, is_some, Option, Some, None, refl}
use Rattle.std.specs.HashSet.{contains}
use Rattle.std.proofs.Common.{inl, inr, sym, ap, ◌∙◌, subst, arith}
use Rattle.std.proofs.lemmas.Bool.{cases_lt, false_from_ne_true}
use Rattle.values.specs.declared.key.Key.{Key}
use Rattle.language.specs.Facts.{Fault, line, fault, Knowledge}
use Rattle.language.specs.Members.{◌∈◌, first, later}
use Rattle.language.specs.Places.{Place}
use Rattle.meaning_steps.specs.Kept.{AreApart}
use Rattle.meaning_steps.specs.Kept.{Write as KeptWrite}
use Rattle.paths.specs.declared.faults.FaultKind.{FaultKind}
use Rattle.meaning_facts.specs.declared.facts.Place.{Place as Spot}
use Rattle.meaning_facts.specs.declared.facts.Write.{Write}
use Rattle.meaning_facts.specs.declared.instances.InstanceBindings.{InstanceBindings}
use Rattle.meaning_facts.specs.declared.instances.Instances.{Instances}
use Rattle.paths.specs.declared.steps.Step.{Step}
use Rattle.meaning_facts.specs.declared.fact_base.FactBase.{FactBase}
use Rattle.meaning_facts.specs.Growing.{KeepsFacts}
use Rattle.meaning_facts.specs.Keeping.{by_place, in_instance, fault_at, has_kind, kept_of, kind_of, place_view, write_view, same_fault, IsLocated}
use Rattle.meaning_facts.specs.Kinds.{kind_view}
use Rattle.meaning_facts.specs.Paths.{at_path, IsOpen, IsTree}
use Rattle.meaning_facts.specs.Store.{value_at, line_at, writes_at, is_written_in}
use Rattle.meaning_facts.proofs.Growing.{found_write, in_same}
use Rattle.meaning_facts.proofs.Keeping.{at_path_of, found_there, one_instance}
use Rattle.meaning_facts.proofs.Tree.{path_stays}
use Rattle.meaning_invariants.specs.Held.{AreWithin, HasLine, HasFault, Holds, Grows, with_instances}
use Rattle.std.proofs.Common.{length-append}
use Rattle.std.proofs.lemmas.Option.{none-some}

-- one that is opened
pub grows_by_one : (t u : Instances) (p : ℕ) (x : Step) (g : InstanceBindings) → IsOpen t p x g u → Grows t.all.items u.all.items
grows_by_one t u p x g o = record {
  longer = omega (arith, ap length o.all, length-append t.all.items (o.made ∷ []));
  path_same = λ i l. path_stays t u p x g o i l;
}

-- LOOK-UPS

none_of : {X : Type 0} (o : Option X) → ((x : X) → o ≡ Some x → ⊥) → o ≡ None
none_of (Some x) f = absurd (f x refl)
none_of None f = refl

empty_of : {X : Type 0} (xs : List X) → ((x : X) → x ∈ xs → ⊥) → xs ≡ []
empty_of [] f = refl
empty_of (x ∷ xs) f = absurd (f x first)

not_less : (m n : ℕ) → m ≤ n → n < m → ⊥
not_less m n a b = omega (arith, a, b)

module _ (t u : Instances) (h : IsTree t) (k : IsTree u) (g : Grows t.all.items u.all.items) where
  -- what is nothing where no instance was is found where it was
  stays_by : {X : Type 0} (x : X) (f : Spot → X) → ((p : Spot) → length t.all.items ≤ p.instance → f p ≡ x) → (q : Place)
      → (o r : Option ℕ) → at_path u q.0 ≡ o → at_path t q.0 ≡ r → in_instance x f o q.1 ≡ in_instance x f r q.1
  stays_by x f z q (Some i) (Some j) e d =
      let a = found_there u k q.0 i e in
      let b = found_there t h q.0 j d in
      let same : i ≡ j = one_instance u k i j a.0 (omega (arith, b.0, g.longer)) (a.1 ∙ sym (g.path_same j b.0 ∙ b.1)) in
      ap (λ (m : ℕ). f (record { instance = m; node = q.1 })) same
  stays_by x f z q (Some i) None e d =
      let a = found_there u k q.0 i e in
      elim (cases_lt i (length t.all.items)) [
        | inl b ↦
            let there : at_path t q.0 ≡ Some i = ap (at_path t) (sym (sym (g.path_same i b) ∙ a.1)) ∙ at_path_of t h i b in
            absurd (none-some i (sym d ∙ there))
        | inr b ↦ z (record { instance = i; node = q.1 }) (omega (arith, b))
      ]
  stays_by x f z q None (Some j) e d =
      let b = found_there t h q.0 j d in
      let there : at_path u q.0 ≡ Some j = ap (at_path u) (sym (g.path_same j b.0 ∙ b.1)) ∙ at_path_of u k j (omega (arith, b.0, g.longer)) in
      absurd (none-some j (sym e ∙ there))
  stays_by x f z q None None e d = refl

  stays : {X : Type 0} (x : X) (f : Spot → X) → ((p : Spot) → length t.all.items ≤ p.instance → f p ≡ x) → (q : Place) → by_place u x f q ≡ by_place t x f q
  stays x f z q = stays_by x f z q (at_path u q.0) (at_path t q.0) refl refl

  view_stays : (p : Spot) → p.instance < length t.all.items → place_view u.all.items p ≡ place_view t.all.items p
  view_stays p l = λ i. (g.path_same p.instance l i, p.node)

  located_still : (p : Spot) (q : Place) → IsLocated t.all.items p q → IsLocated u.all.items p q
  located_still p q x = record { within = omega (arith, x.within, g.longer); view_is = view_stays p x.within ∙ x.view_is }

  views_same : (ws : List Write) → ((w : Write) → w ∈ ws → w.writer.instance < length t.all.items) → map (write_view u.all.items) ws ≡ map (write_view t.all.items) ws
  views_same [] f = refl
  views_same (w ∷ ws) f =
      let head : write_view u.all.items w ≡ write_view t.all.items w = ap (λ (p : Place). record { key = w.key; writer = p; value = w.value }) (view_stays w.writer (f w first)) in
      (λ i. head i ∷ views_same ws (λ x m. f x (later m)) i)

-- WRITES

-- a writer that is found has a write
writer_there : (n : ℕ) (ws : List Write) (key : Key) (p : Spot) → ((w : Write) → w ∈ ws → w.writer.instance < n) → is_written_in ws key p ≡ true → p.instance < n
writer_there n ws key p f e = let x = found_write ws key p e in subst (λ (z : Spot). z.instance < n) x.writer_is (f x.write x.there)

-- MORE INSTANCES

module _ (K : Knowledge) (l : FactBase) (u : Instances) (h : IsTree l.instances) (k : IsTree u) (g : Grows l.instances.all.items u.all.items) (holds : Holds K l) where
  abbrev count : ℕ
  count = length l.instances.all.items

  abbrev now : FactBase
  now = with_instances l u

  value_same : (q : Place) → (kept_of now).value q ≡ (kept_of l).value q
  value_same q = stays l.instances u h k g None (value_at l.facts) (λ p z. none_of (value_at l.facts p) (λ v e. not_less count p.instance z (holds.within.values p v e))) q

  no_writes : (p : Spot) → count ≤ p.instance → writes_at l.facts p ≡ []
  no_writes p z = empty_of (writes_at l.facts p) (λ w m. not_less count p.instance z (holds.within.writes p w m))

  writes_same : (q : Place) → (kept_of now).writes q ≡ (kept_of l).writes q
  writes_same q =
      in_same {X = List KeptWrite} [] (λ p. map (write_view u.all.items) (writes_at l.facts p)) (λ p. map (write_view l.instances.all.items) (writes_at l.facts p))
      (λ p. views_same l.instances u h k g (writes_at l.facts p) (λ w m. holds.keeps.writers p w m)) (at_path u q.0) q.1
      ∙ stays l.instances u h k g [] (λ p. map (write_view l.instances.all.items) (writes_at l.facts p)) (λ p z. ap (map (write_view l.instances.all.items)) (no_writes p z)) q

  written_same : (a : Place) (key : Key) (w : Place) → (kept_of now).written a key w ≡ (kept_of l).written a key w
  written_same a key w =
      in_same false (λ p. by_place u false (is_written_in (writes_at l.facts p) key) w) (λ p. by_place l.instances false (is_written_in (writes_at l.facts p) key) w)
      (λ p. stays l.instances u h k g false (is_written_in (writes_at l.facts p) key)
      (λ r z. false_from_ne_true (is_written_in (writes_at l.facts p) key r) (λ e. not_less count r.instance z (writer_there count (writes_at l.facts p) key r (holds.keeps.writers p) e))) w) (at_path u a.0) a.1
      ∙ stays l.instances u h k g false (λ p. by_place l.instances false (is_written_in (writes_at l.facts p) key) w) (λ p z. nothing (at_path l.instances w.0) p z) a
    where
      nothing : (o : Option ℕ) (p : Spot) → count ≤ p.instance → in_instance false (is_written_in (writes_at l.facts p) key) o w.1 ≡ false
      nothing None p z = refl
      nothing (Some i) p z = ap (λ (ws : List Write). is_written_in ws key (record { instance = i; node = w.1 })) (no_writes p z)

  no_line : (p : Spot) → count ≤ p.instance → is_some (line_at l.facts p) ≡ false
  no_line p z = ap is_some (none_of (line_at l.facts p) (λ b e. not_less count p.instance z (holds.within.lines p b e)))

  lined_same : (q : Place) → (kept_of now).lined q ≡ (kept_of l).lined q
  lined_same q = stays l.instances u h k g false (λ p. is_some (line_at l.facts p)) no_line q

  no_kind : (o : Option FaultKind) (at : ℕ) (p : Spot) → count ≤ p.instance → has_kind l.facts o at p ≡ false
  no_kind None at p z = refl
  no_kind (Some kind) at p z =
      false_from_ne_true (contains same_fault l.facts.faults (record { kind = kind; at = at; place = p })) (λ e. not_less count p.instance z (holds.within.faults (record { kind = kind; at = at; place = p }) e))

  faulted_same : (f : Fault) (at : ℕ) (q : Place) → (kept_of now).faulted f at q ≡ (kept_of l).faulted f at q
  faulted_same f at q = stays l.instances u h k g false (fault_at l.facts f at) (λ p z. no_kind (kind_of f) at p z) q

  keeps_still : KeepsFacts K now
  keeps_still = record {
    value_so = λ q v e. holds.keeps.value_so q v (sym (value_same q) ∙ e);
    value_all = λ q v x. value_same q ∙ holds.keeps.value_all q v x;
    write_so = λ q w i. holds.keeps.write_so q w (subst (λ (z : List KeptWrite). w ∈ z) (writes_same q) i);
    write_all = λ q key w v x. subst (λ (z : List KeptWrite). record { key = key; writer = w; value = v } ∈ z) (sym (writes_same q)) (holds.keeps.write_all q key w v x);
    write_once = λ q. subst AreApart (sym (writes_same q)) (holds.keeps.write_once q);
    written_so = λ q key w e. holds.keeps.written_so q key w (sym (written_same q key w) ∙ e);
    written_all = λ q key w v x. written_same q key w ∙ holds.keeps.written_all q key w v x;
    lined_so = λ q e. holds.keeps.lined_so q (sym (lined_same q) ∙ e);
    faulted_so = λ f at q e. holds.keeps.faulted_so f at q (sym (faulted_same f at q) ∙ e);
    writers = λ a w i. (let b = holds.keeps.writers a w i in omega (arith, b, g.longer));
  }

  within_still : AreWithin u.all.items l.facts
  within_still = record {
    values = λ p v e. (let b = holds.within.values p v e in omega (arith, b, g.longer));
    lines = λ p v e. (let b = holds.within.lines p v e in omega (arith, b, g.longer));
    writes = λ p w i. (let b = holds.within.writes p w i in omega (arith, b, g.longer));
    faults = λ f e. (let b = holds.within.faults f e in omega (arith, b, g.longer));
  }

  line_there : (q : Place) (bytes : List ℕ) → HasLine l.instances.all.items l.facts q bytes → HasLine u.all.items l.facts q bytes
  line_there q bytes x = record { writer = x.writer; located = located_still l.instances u h k g x.writer q x.located; there = x.there }

  fault_there : (f : Fault) (at : ℕ) (q : Place) → HasFault l.instances.all.items l.facts f at q → HasFault u.all.items l.facts f at q
  fault_there f at q x = record { held = x.held; located = located_still l.instances u h k g x.held.place q x.located; kind_is = x.kind_is; at_is = x.at_is; there = x.there }

  pub holds_still : Holds K now
  holds_still = record {
    keeps = keeps_still;
    within = within_still;
    line_so = λ p bytes e. subst (λ (z : Place). K (line z bytes)) (sym (view_stays l.instances u h k g p (holds.within.lines p bytes e))) (holds.line_so p bytes e);
    line_all = λ q bytes x. line_there q bytes (holds.line_all q bytes x);
    fault_so = λ f e. subst (λ (z : Place). K (fault (kind_view f.kind) f.at z)) (sym (view_stays l.instances u h k g f.place (holds.within.faults f e))) (holds.fault_so f e);
    fault_all = λ f at q x. fault_there f at q (holds.fault_all f at q x);
  }
