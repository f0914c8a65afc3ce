-- Instances stay a tree where one is opened, and each is found at its path.
use Rattle.std.specs.Prelude.{◌≡◌, ◌⊎◌, ℕ, zero, suc, ◌+◌, ◌<◌, ◌≤◌, Bool, true, false, ◌&&◌, List, [], ◌∷◌, ◌++◌, length, map, nat_eq, Option, Some, None, cond, slice_get, if◌then◌else◌, ℤ, refl}
use Rattle.std.specs.HashMap.{get}
use Rattle.std.proofs.Common.{inl, inr, sym, ap, ◌∙◌, subst, arith, length-append}
use Rattle.std.proofs.lemmas.Bool.{cases_Bool, cases_lt, cases_order, eqb-true, eq-eqb}
use Rattle.std.proofs.lemmas.List.{get_or_append_left}
use Rattle.std.proofs.lemmas.Option.{slice_get-get_or, slice_get_past}
use Rattle.std.proofs.Math.Seq.{get_or-append_seam}
use Rattle.values.specs.declared.key.Key.{Key}
use Rattle.values.specs.declared.key.Key.TheVariants.{Number, Text}
use Rattle.values.specs.Keys.{same_key}
use Rattle.values.proofs.Keys.{same_key-eq, same_key-refl}
use Rattle.language.specs.Places.{Path, max_path_steps}
use Rattle.meaning_facts.specs.declared.instances.InstanceBindings.{InstanceBindings}
use Rattle.paths.specs.declared.steps.Step.{Step}
use Rattle.meaning_facts.specs.declared.instances.Instance.{Instance}
use Rattle.meaning_facts.specs.declared.instances.Instances.{Instances}
use Rattle.meaning_facts.specs.Paths.{step_view, path_in, path_of, same_step, same_turn, named_in, child_at, IsChild, IsOpened, IsOpen, IsTree}
use Rattle.meaning_facts.specs.Store.{same_pair, parent_in, parent_of, inputs_in, inputs_of, outputs_in, outputs_of, variables_in, variables_of}

-- THE FIRST INSTANCE

pub one_is_tree : (t : Instances) (n : Instance) → t.all.items ≡ n ∷ [] → n.parent ≡ 0 → n.path.items ≡ [] → n.given.inputs.items ≡ [] → n.given.outputs.items ≡ [] → n.given.variables.items ≡ []
    → t.opened.entries ≡ [] → t.named.entries ≡ [] → IsTree t
one_is_tree t n e p q i o v m w = record {
  rooted = subst (λ (z : List Instance). 0 < length z) (sym e) (omega arith);
  root_path = ap (λ (z : List Instance). path_of z 0) e ∙ ap (map step_view) q;
  root_parent = ap (λ (z : List Instance). parent_of z 0) e ∙ p;
  root_inputs = ap (λ (z : List Instance). inputs_of z 0) e ∙ i;
  root_outputs = ap (λ (z : List Instance). outputs_of z 0) e ∙ o;
  root_variables = ap (λ (z : List Instance). variables_of z 0) e ∙ v;
  opens = λ j at k l h. absurd (nothing j at k l h);
  opened = λ j l b. absurd (few j l b);
  short = short;
}
  where
    nothing : (j at : ℕ) (k : Key) (l : ℕ) → child_at t j at k ≡ Some l → ⊥
    nothing j at (Number z) l h = let x : None ≡ Some l = rw m at h in absurd (cc (x))
    nothing j at (Text bytes) l h = let x : None ≡ Some l = rw w at h in absurd (cc (x))

    few : (j : ℕ) → 0 < j → j < length t.all.items → ⊥
    few j l b = let x : length t.all.items ≡ 1 = ap length e in omega arith

    short : (j : ℕ) → length (path_of t.all.items j) ≤ max_path_steps
    short zero =
        let none : path_of t.all.items 0 ≡ [] = ap (λ (z : List Instance). path_of z 0) e ∙ ap (map step_view) q in
        subst (λ (z : Path). length z ≤ max_path_steps) (sym none) (omega arith)
    short (suc j) =
        let past : slice_get t.all.items (suc j) ≡ None = ap (λ (z : List Instance). slice_get z (suc j)) e ∙ slice_get_past (n ∷ []) (suc j) (omega arith) in
        subst (λ (z : Option Instance). length (path_in z) ≤ max_path_steps) (sym past) (omega arith)

-- ONE MORE

module _ (ns : List Instance) (n : Instance) where
  pub old_at : (j : ℕ) → j < length ns → slice_get (ns ++ n ∷ []) j ≡ slice_get ns j
  old_at j l =
      let more : j < length (ns ++ n ∷ []) = omega (arith, length-append ns (n ∷ [])) in
      slice_get-get_or (ns ++ n ∷ []) j n more ∙ ap Some (get_or_append_left ns (n ∷ []) n j l) ∙ sym (slice_get-get_or ns j n l)

  pub new_at : slice_get (ns ++ n ∷ []) (length ns) ≡ Some n
  new_at =
      let more : length ns < length (ns ++ n ∷ []) = omega (arith, length-append ns (n ∷ [])) in
      slice_get-get_or (ns ++ n ∷ []) (length ns) n more ∙ ap Some (get_or-append_seam ns n [] n)

  pub past_at : (j : ℕ) → length ns < j → slice_get (ns ++ n ∷ []) j ≡ None
  past_at j l = slice_get_past (ns ++ n ∷ []) j (omega (arith, length-append ns (n ∷ [])))

pub both : (a b : Bool) → a && b ≡ true → (a ≡ true) × (b ≡ true)
both true b h = (refl, h)
both false b h = absurd (cc (h))

pub record IsSameStep (p i at a : ℕ) (k l : Key) : Type 0 where
  pub parent_same : p ≡ i
  pub at_same : at ≡ a
  pub key_same : k ≡ l

pub same_step_is : (p i at a : ℕ) (k l : Key) → same_step (p, at, k) (i, a, l) ≡ true → IsSameStep p i at a k l
same_step_is p i at a k l h =
    let b = both (nat_eq p i && nat_eq at a) (same_key k l) h in
    let c = both (nat_eq p i) (nat_eq at a) b.0 in
    record { parent_same = eqb-true p i c.0; at_same = eqb-true at a c.1; key_same = same_key-eq k l b.1 }

pub step_itself : (p at : ℕ) (k : Key) → same_step (p, at, k) (p, at, k) ≡ true
step_itself p at k = rw (eq-eqb p p refl) (rw (eq-eqb at at refl) (same_key-refl k))

-- what is opened is found by both tables alone
pub same_child : (t u : Instances) → u.opened ≡ t.opened → u.named ≡ t.named → (i at : ℕ) (k : Key) → child_at u i at k ≡ child_at t i at k
same_child t u o n i at (Number z) = ap (λ m. get same_turn m (i, at, z)) o
same_child t u o n i at (Text bytes) = ap (λ m. named_in (get same_pair m (i, at)) bytes) n

and_false : (b : Bool) → b && false ≡ false
and_false true = refl
and_false false = refl

-- one more under a number
module _ (t u : Instances) (p at number : ℕ) where
  pub turn_noted : (z : ℤ) → ((q : ℕ × ℕ × ℤ) → get same_turn u.opened q ≡ cond (same_turn (p, at, z) q) (Some number) (get same_turn t.opened q)) → u.named ≡ t.named
      → (i a : ℕ) (k : Key) → child_at u i a k ≡ (if same_step (p, at, Number z) (i, a, k) then Some number else child_at t i a k)
  turn_noted z put n i a (Number y) = put (i, a, y)
  turn_noted z put n i a (Text bytes) =
      ap (λ m. named_in (get same_pair m (i, a)) bytes) n
      ∙ ap (λ (b : Bool). if b then Some number else child_at t i a (Text bytes)) (sym (and_false (nat_eq p i && nat_eq at a)))

module _ (t u : Instances) (p : ℕ) (s : Step) (g : InstanceBindings) (o : IsOpen t p s g u) where
  pub count : length u.all.items ≡ length t.all.items + 1
  count = ap length o.all ∙ length-append t.all.items (o.made ∷ [])

  pub stays : (j : ℕ) → j < length t.all.items → slice_get u.all.items j ≡ slice_get t.all.items j
  stays j l = ap (λ (z : List Instance). slice_get z j) o.all ∙ old_at t.all.items o.made j l

  pub comes : slice_get u.all.items (length t.all.items) ≡ Some o.made
  comes = ap (λ (z : List Instance). slice_get z (length t.all.items)) o.all ∙ new_at t.all.items o.made

  pub path_stays : (j : ℕ) → j < length t.all.items → path_of u.all.items j ≡ path_of t.all.items j
  path_stays j l = ap path_in (stays j l)

  pub parent_stays : (j : ℕ) → j < length t.all.items → parent_of u.all.items j ≡ parent_of t.all.items j
  parent_stays j l = ap parent_in (stays j l)

  pub path_comes : path_of u.all.items (length t.all.items) ≡ (s.offset, s.key) ∷ path_of t.all.items p
  path_comes = ap path_in comes ∙ o.path_is

  pub parent_comes : parent_of u.all.items (length t.all.items) ≡ p
  parent_comes = ap parent_in comes ∙ o.parent_is

  pub found_itself : child_at u p s.offset s.key ≡ Some (length t.all.items)
  found_itself =
      o.found p s.offset s.key ∙ ap (λ (b : Bool). if b then Some (length t.all.items) else child_at t p s.offset s.key) (step_itself p s.offset s.key)

  pub found_other : (i at : ℕ) (k : Key) → same_step (p, s.offset, s.key) (i, at, k) ≡ false → child_at u i at k ≡ child_at t i at k
  found_other i at k h = o.found i at k ∙ ap (λ (b : Bool). if b then Some (length t.all.items) else child_at t i at k) h

  module _ (h : IsTree t) (within : p < length t.all.items) (lacks : child_at t p s.offset s.key ≡ None) (fits : length (path_of t.all.items p) < max_path_steps) where
    -- what was found is found
    pub found_stays : (i at : ℕ) (k : Key) (j : ℕ) → child_at t i at k ≡ Some j → child_at u i at k ≡ Some j
    found_stays i at k j e = elim (cases_Bool (same_step (p, s.offset, s.key) (i, at, k))) [
      | inl same ↦
          let x = same_step_is p i s.offset at s.key k same in
          let none : child_at t i at k ≡ None = subst (λ (z : ℕ). child_at t z at k ≡ None) x.parent_same (subst (λ (z : ℕ). child_at t p z k ≡ None) x.at_same (subst (λ (z : Key). child_at t p s.offset z ≡ None) x.key_same lacks)) in
          absurd (let q : None ≡ Some j = sym none ∙ e in cc (q))
      | inr other ↦ found_other i at k other ∙ e
    ]

    pub child_new : IsChild u.all.items p s.offset s.key (length t.all.items)
    child_new = record {
      within = omega (arith, count);
      behind = within;
      parent_is = parent_comes;
      path_is = path_comes ∙ ap (λ (z : Path). (s.offset, s.key) ∷ z) (sym (path_stays p within));
    }

    pub child_old : (i at : ℕ) (k : Key) (j : ℕ) → IsChild t.all.items i at k j → IsChild u.all.items i at k j
    child_old i at k j c = record {
      within = omega (arith, count, c.within);
      behind = c.behind;
      parent_is = parent_stays j c.within ∙ c.parent_is;
      path_is = path_stays j c.within ∙ c.path_is ∙ ap (λ (z : Path). (at, k) ∷ z) (sym (path_stays i (omega (arith, c.within, c.behind))));
    }

    pub opens : (i at : ℕ) (k : Key) (j : ℕ) → child_at u i at k ≡ Some j → IsChild u.all.items i at k j
    opens i at k j e = elim (cases_Bool (same_step (p, s.offset, s.key) (i, at, k))) [
      | inl same ↦
          let x = same_step_is p i s.offset at s.key k same in
          let number : Some (length t.all.items) ≡ Some j = sym (o.found i at k ∙ ap (λ (b : Bool). if b then Some (length t.all.items) else child_at t i at k) same) ∙ e in
          let q : length t.all.items ≡ j = cc (number) in
          subst (λ (z : ℕ). IsChild u.all.items z at k j) x.parent_same (subst (λ (z : ℕ). IsChild u.all.items p z k j) x.at_same
          (subst (λ (z : Key). IsChild u.all.items p s.offset z j) x.key_same (subst (λ (z : ℕ). IsChild u.all.items p s.offset s.key z) q child_new)))
      | inr other ↦ child_old i at k j (h.opens i at k j (sym (found_other i at k other) ∙ e))
    ]

    pub last_or : (j : ℕ) → j < length u.all.items → (j < length t.all.items) ⊎ (j ≡ length t.all.items)
    last_or j l = elim (cases_lt j (length t.all.items)) [ inl q ↦ inl q | inr q ↦ inr (omega (arith, count)) ]

    pub opened : (j : ℕ) → 0 < j → j < length u.all.items → IsOpened u j
    opened j l b = elim (last_or j b) [
      | inl q ↦
          let x = h.opened j l q in
          record { at = x.at; key = x.key; opened = ap (λ (z : ℕ). child_at u z x.at x.key) (parent_stays j q) ∙ found_stays (parent_of t.all.items j) x.at x.key j x.opened }
      | inr q ↦
          record { at = s.offset; key = s.key; opened = ap (λ (z : ℕ). child_at u (parent_of u.all.items z) s.offset s.key) q ∙ ap (λ (z : ℕ). child_at u z s.offset s.key) parent_comes ∙ found_itself ∙ ap Some (sym q) }
    ]

    pub short : (j : ℕ) → length (path_of u.all.items j) ≤ max_path_steps
    short j = elim (cases_order j (length t.all.items)) [
      | inr (inl q) ↦ subst (λ (z : Path). length z ≤ max_path_steps) (sym (path_stays j q)) (h.short j)
      | inl q ↦
          let e : path_of u.all.items j ≡ (s.offset, s.key) ∷ path_of t.all.items p = ap (path_of u.all.items) q ∙ path_comes in
          subst (λ (z : Path). length z ≤ max_path_steps) (sym e) (omega (arith, fits))
      | inr (inr q) ↦
          let e : slice_get u.all.items j ≡ None = ap (λ (z : List Instance). slice_get z j) o.all ∙ past_at t.all.items o.made j q in
          subst (λ (z : Option Instance). length (path_in z) ≤ max_path_steps) (sym e) (omega arith)
    ]

    pub grows : IsTree u
    grows = record {
      rooted = omega (arith, count);
      root_path = path_stays 0 h.rooted ∙ h.root_path;
      root_parent = parent_stays 0 h.rooted ∙ h.root_parent;
      root_inputs = ap inputs_in (stays 0 h.rooted) ∙ h.root_inputs;
      root_outputs = ap outputs_in (stays 0 h.rooted) ∙ h.root_outputs;
      root_variables = ap variables_in (stays 0 h.rooted) ∙ h.root_variables;
      opens = opens;
      opened = opened;
      short = short;
    }
