-- What an instance sees and was told is what is kept at its path.
use Rattle.std.specs.Prelude.{◌≡◌, ℕ, zero, suc, ◌<◌, ◌≤◌, false, List, [], ◌∷◌, length, map, nat_eq, nat_le, is_some, Option, Some, None, if◌then◌else◌, refl}
use Rattle.std.proofs.Common.{sym, ap, ◌∙◌, subst, arith}
use Rattle.std.proofs.lemmas.Bool.Decides.{nat_tests}
use mathlib.Core.Path.{fun_ext}
use Rattle.values.specs.declared.key.Key.{Key}
use Rattle.values.specs.declared.map.Element.{Element}
use Rattle.values.specs.declared.value.Scalar.{Scalar}
use Rattle.values.specs.declared.value.Value.{Value}
use Rattle.values.specs.Keys.{same_key}
use Rattle.values.specs.Maps.{found}
use Rattle.language.specs.Core.{Owned, local, input, output, Name, Core}
use Rattle.language.specs.Parts.{call_at, input_name, output_name}
use Rattle.language.specs.Places.{Path, Place, place, place_of, max_path_steps}
use Rattle.language.specs.Places.{Step as PathStep}
use Rattle.meaning_steps.specs.Environment.{Sight}
use Rattle.meaning_steps.specs.News.{Past}
use Rattle.meaning_steps.specs.Kept.{Kept, by_key, by_key_beside, element_of, is_there, put_first, scalar_by, several_in, values_under, sight_by, past_by}
use Rattle.meaning_steps.specs.Kept as kept
use Rattle.meaning_facts.specs.declared.facts.Place.{Place as Spot}
use Rattle.meaning_facts.specs.declared.facts.Write.{Write}
use Rattle.meaning_facts.specs.declared.instances.Instance.{Instance}
use Rattle.meaning_facts.specs.declared.instances.Instances.{Instances}
use Rattle.meaning_facts.specs.declared.fact_base.FactBase.{FactBase}
use Rattle.meaning_facts.specs.Keeping.{by_place, fault_at, in_instance, kept_of, past_of, turn_at, write_view, IsLocated, IsPlaced}
use Rattle.meaning_facts.specs.Paths.{path_of, child_behind, at_path, IsTree}
use Rattle.meaning_facts.specs.Sighted.{closed_at, sight_of}
use Rattle.meaning_facts.specs.Stands.{Stands, at_root, behind}
use Rattle.meaning_facts.specs.Store.{value_at, line_at, writes_at, writes_under, is_written_in, put_unless, put_write, elements_from, parent_of, inputs_of, outputs_of, outward, given_at, owner_spot, spot}

module _ (t : Instances) (h : IsTree t) where
  -- an instance is found at its path
  pub at_path_below : (n j : ℕ) → j < n → j < length t.all.items → at_path t (path_of t.all.items j) ≡ Some j
  at_path_below zero j b l = absurd (omega arith)
  at_path_below (suc n) zero b l = ap (at_path t) h.root_path
  at_path_below (suc n) (suc j) b l =
      let o = h.opened (suc j) (omega arith) l in
      let c = h.opens (parent_of t.all.items (suc j)) o.at o.key (suc j) o.opened in
      let up = at_path_below n (parent_of t.all.items (suc j)) (omega (arith, c.behind)) (omega (arith, c.behind)) in
      ap (at_path t) c.path_is ∙ ap (λ (z : Option ℕ). child_behind t z o.at o.key) up ∙ o.opened

  pub at_path_of : (j : ℕ) → j < length t.all.items → at_path t (path_of t.all.items j) ≡ Some j
  at_path_of j l = at_path_below (suc j) j (omega arith) l

  -- and what is found at a path has it
  pub found_there : (p : Path) (j : ℕ) → at_path t p ≡ Some j → (j < length t.all.items) × (path_of t.all.items j ≡ p)
  found_there [] j e =
      let q : 0 ≡ j = cc (e) in (
        subst (λ (z : ℕ). z < length t.all.items) q h.rooted,
        subst (λ (z : ℕ). path_of t.all.items z ≡ []) q h.root_path,
      )
  found_there (s ∷ p) j e = by (at_path t p) (λ i. found_there p i) e
    where
      by : (o : Option ℕ) → ((i : ℕ) → o ≡ Some i → (i < length t.all.items) × (path_of t.all.items i ≡ p)) → child_behind t o s.0 s.1 ≡ Some j
          → (j < length t.all.items) × (path_of t.all.items j ≡ (s ∷ p))
      by (Some i) f q = let c = h.opens i s.0 s.1 j q in (c.within, c.path_is ∙ ap (λ (z : Path). s ∷ z) (f i refl).1)
      by None f q = absurd (cc (q))

  pub one_instance : (i j : ℕ) → i < length t.all.items → j < length t.all.items → path_of t.all.items i ≡ path_of t.all.items j → i ≡ j
  one_instance i j a b e = let q : Some i ≡ Some j = sym (at_path_of i a) ∙ ap (at_path t) e ∙ at_path_of j b in cc (q)

  -- WHERE NAMES LIE
  module _ (s : Core) where
    pub outward_root : (up : ℕ) → outward t.all.items up 0 ≡ 0
    outward_root zero = refl
    outward_root (suc up) = ap (outward t.all.items up) h.root_parent ∙ outward_root up

    pub root_located : (n : ℕ) → IsLocated t.all.items (record { instance = 0; node = n }) ([], n)
    root_located n = record { within = h.rooted; view_is = λ i. (h.root_path i, n) }

    pub parent_path : (i : ℕ) (x : PathStep) (rest : Path) → i < length t.all.items → path_of t.all.items i ≡ x ∷ rest → (parent_of t.all.items i < length t.all.items) × (path_of t.all.items (parent_of t.all.items i) ≡ rest)
    parent_path zero x rest l e = let q : [] ≡ x ∷ rest = sym h.root_path ∙ e in absurd (cc (q))
    parent_path (suc i) x rest l e =
        let o = h.opened (suc i) (omega arith) l in
        let c = h.opens (parent_of t.all.items (suc i)) o.at o.key (suc i) o.opened in
        let q : (o.at, o.key) ∷ path_of t.all.items (parent_of t.all.items (suc i)) ≡ x ∷ rest = sym c.path_is ∙ e in
        (omega (arith, c.behind), ap tail_of q)
      where
        tail_of : Path → Path
        tail_of [] = []
        tail_of (y ∷ ys) = ys

    pub located_root : (up : ℕ) (what : Owned) → inputs_of t.all.items 0 ≡ [] → outputs_of t.all.items 0 ≡ [] → IsLocated t.all.items (owner_spot t.all.items 0 what) (place_of s [] up what)
    located_root up (local n) f g = root_located n
    located_root up (input j) f g =
        let q : owner_spot t.all.items 0 (input j) ≡ record { instance = 0; node = 0 } = ap (λ (z : List Spot). given_at z j (parent_of t.all.items 0)) f ∙ ap (λ (z : ℕ). record { instance = z; node = 0 }) h.root_parent in
        subst (λ (z : Spot). IsLocated t.all.items z ([], 0)) (sym q) (root_located 0)
    located_root up (output j) f g =
        let q : owner_spot t.all.items 0 (output j) ≡ record { instance = 0; node = 0 } = ap (λ (z : List Spot). given_at z j (parent_of t.all.items 0)) g ∙ ap (λ (z : ℕ). record { instance = z; node = 0 }) h.root_parent in
        subst (λ (z : Spot). IsLocated t.all.items z ([], 0)) (sym q) (root_located 0)

    -- a name lies in an instance where it denotes at the instance's path
    pub located : (i : ℕ) (path : Path) → Stands s t.all.items i path → i < length t.all.items → path_of t.all.items i ≡ path → (up : ℕ) (what : Owned)
        → IsLocated t.all.items (owner_spot t.all.items (outward t.all.items up i) what) (place_of s path up what)
    located i path (at_root e f g) l q up what =
        subst (λ (z : ℕ). IsLocated t.all.items (owner_spot t.all.items z what) (place_of s [] up what)) (sym (outward_root up)) (located_root up what f g)
    located i path (behind {at = at} {k = k} {path = rest} p xs ys) l q (suc up) what =
        let b = parent_path i (at, k) rest l q in
        located (parent_of t.all.items i) rest p b.0 b.1 up what
    located i path (behind p xs ys) l q zero (local n) = record { within = l; view_is = λ j. (q j, n) }
    located i path (behind {at = at} {k = k} {path = rest} p xs ys) l q zero (input j) =
        let x = input_name (call_at s at) j in
        let b = parent_path i (at, k) rest l q in
        subst (λ (z : Spot). IsLocated t.all.items z (place_of s rest x.up x.what)) (sym (xs j)) (located (parent_of t.all.items i) rest p b.0 b.1 x.up x.what)
    located i path (behind {at = at} {k = k} {path = rest} p xs ys) l q zero (output j) =
        let x = output_name (call_at s at) j in
        let b = parent_path i (at, k) rest l q in
        subst (λ (z : Spot). IsLocated t.all.items z (place_of s rest x.up x.what)) (sym (ys j)) (located (parent_of t.all.items i) rest p b.0 b.1 x.up x.what)

  -- what is kept at a place is what is learned there
  pub by_located : {X : Type 0} (x : X) (f : Spot → X) (p : Spot) (q : Place) → IsLocated t.all.items p q → by_place t x f q ≡ f p
  by_located x f p q k =
      sym (ap (by_place t x f) k.view_is) ∙ ap (λ (z : Option ℕ). in_instance x f z p.node) (at_path_of p.instance k.within)

-- LISTS OF WRITES

module _ (ns : List Instance) where
  pub put_same : (w : Write) (es : List Element) → put_write es w ≡ put_first es (element_of (write_view ns w))
  put_same w es = by (found w.key es)
    where
      by : (o : Option Scalar) → put_unless o w es ≡ kept.put_unless o (element_of (write_view ns w)) es
      by (Some v) = refl
      by None = refl

  pub elements_same : (es : List Element) (ws : List Write) → elements_from es ws ≡ by_key_beside es (map element_of (map (write_view ns) ws))
  elements_same es [] = refl
  elements_same es (w ∷ ws) = elements_same (put_write es w) ws ∙ ap (λ (z : List Element). by_key_beside z (map element_of (map (write_view ns) ws))) (put_same w es)

  pub under_same : (ws : List Write) (k : Key) → writes_under ws k ≡ values_under (map (write_view ns) ws) k
  under_same [] k = refl
  under_same (w ∷ ws) k = ap (λ (z : List Scalar). if same_key w.key k then w.value ∷ z else z) (under_same ws k)

pub sight_is : (a b : Sight) → a.scalar ≡ b.scalar → a.closed ≡ b.closed → a.elements ≡ b.elements → a.writes ≡ b.writes → a.cell ≡ b.cell → a ≡ b
sight_is a b p q r u v = λ i. record { scalar = p i; closed = q i; elements = r i; writes = u i; cell = v i }

pub past_is : (a b : Past) → a.valued ≡ b.valued → a.written ≡ b.written → a.twice ≡ b.twice → a.lined ≡ b.lined → a.faulted ≡ b.faulted → a.deep ≡ b.deep → a ≡ b
past_is a b p q r u v w = λ i. record { valued = p i; written = q i; twice = r i; lined = u i; faulted = v i; deep = w i }

pub deep_same : (n : ℕ) → n ≤ max_path_steps → nat_le max_path_steps n ≡ nat_eq n max_path_steps
deep_same n l = grind (arith, nat_tests)

module _ (s : Core) (l : FactBase) (h : IsPlaced s l.instances) (i : ℕ) (within : i < length l.instances.all.items) where
  -- where a name lies
  pub name_located : (x : Name) → IsLocated l.instances.all.items (spot l.instances.all.items i x) (place s (path_of l.instances.all.items i) x)
  name_located x = located l.instances h.tree s i (path_of l.instances.all.items i) (h.stands i within) within refl x.up x.what

  pub node_located : (n : ℕ) → IsLocated l.instances.all.items (record { instance = i; node = n }) (path_of l.instances.all.items i, n)
  node_located n = record { within = within; view_is = refl }

  pub at_name : {X : Type 0} (x : X) (f : Spot → X) (a : Name) → f (spot l.instances.all.items i a) ≡ by_place l.instances x f (place s (path_of l.instances.all.items i) a)
  at_name x f a = sym (by_located l.instances h.tree x f (spot l.instances.all.items i a) (place s (path_of l.instances.all.items i) a) (name_located a))

  pub at_node : {X : Type 0} (x : X) (f : Spot → X) (n : ℕ) → f (record { instance = i; node = n }) ≡ by_place l.instances x f (path_of l.instances.all.items i, n)
  at_node x f n = sym (by_located l.instances h.tree x f (record { instance = i; node = n }) (path_of l.instances.all.items i, n) (node_located n))

  abbrev pub views : Spot → List kept.Write
  views p = map (write_view l.instances.all.items) (writes_at l.facts p)

  -- WHAT AN INSTANCE SEES
  pub sees_kept : sight_of l i ≡ sight_by s (kept_of l) (path_of l.instances.all.items i)
  sees_kept =
      sight_is (sight_of l i) (sight_by s (kept_of l) (path_of l.instances.all.items i))
      (fun_ext (λ x. ap (λ (z : Option Value). scalar_by z (turn_at l (spot l.instances.all.items i x))) (at_name None (value_at l.facts) x)
      ∙ ap (scalar_by ((kept_of l).value (place s (path_of l.instances.all.items i) x))) (at_name None (turn_at l) x)))
      (fun_ext (λ a. at_name false (closed_at l) a))
      (fun_ext (λ a. elements_same l.instances.all.items [] (writes_at l.facts (spot l.instances.all.items i a)) ∙ ap (λ (z : List kept.Write). by_key (map element_of z)) (at_name [] views a)))
      (fun_ext (λ a. fun_ext (λ k. under_same l.instances.all.items (writes_at l.facts (spot l.instances.all.items i a)) k ∙ ap (λ (z : List kept.Write). values_under z k) (at_name [] views a))))
      (fun_ext (λ n. at_node None (value_at l.facts) n))

  -- WHAT WAS TOLD OF IT
  pub recalls_kept : past_of l i ≡ past_by s (kept_of l) (path_of l.instances.all.items i)
  recalls_kept =
      past_is (past_of l i) (past_by s (kept_of l) (path_of l.instances.all.items i))
      (fun_ext (λ x. ap is_there (at_name None (value_at l.facts) x)))
      (fun_ext (λ a. fun_ext (λ k. fun_ext (λ n. at_node false (is_written_in (writes_at l.facts (spot l.instances.all.items i a)) k) n
      ∙ at_name false (λ p. by_place l.instances false (is_written_in (writes_at l.facts p) k) (path_of l.instances.all.items i, n)) a))))
      (fun_ext (λ a. fun_ext (λ k. ap several_in (under_same l.instances.all.items (writes_at l.facts (spot l.instances.all.items i a)) k ∙ ap (λ (z : List kept.Write). values_under z k) (at_name [] views a)))))
      (fun_ext (λ n. at_node false (λ p. is_some (line_at l.facts p)) n))
      (fun_ext (λ f. fun_ext (λ at. fun_ext (λ n. at_node false (fault_at l.facts f at) n))))
      (deep_same (length (path_of l.instances.all.items i)) (h.tree.short i))
