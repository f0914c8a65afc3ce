-- What an item opens, and who opened a block.
use Rattle.std.proofs.Common.{◌≡◌, ◌⊎◌, inl, inr, ℕ, zero, suc, Bool, true, false, List, [], ◌∷◌, map, refl, sym, ap, ◌∙◌, subst, Option, None, Some, arith}
use Rattle.std.specs.Prelude.{pos}
use Rattle.dataflow.specs.Laws.{Can, Coherent}
use Rattle.dataflow.specs.System.{Bad, Distinct, Effect, Good, In, Opening, Outcome}
use Rattle.std.specs.List.{flat_map}
use Rattle.task_code.proofs.Chunks.{chunk_once, computed_apart, map_chunk}
use Rattle.task_code.proofs.Equal.{keys}
use Rattle.task_code.proofs.Places.{argued, declared_at}
use Rattle.task_code.specs.Code.{Act, Assert, ByCalls, ByMain, ByStep, ByWait, Call, Calling, Cell, Code, Copy, Each, Entry, Fill, If, InPlace, Loop, Name, Opener, Print, InsertElement, Range, Read, Set, Through, Variable, Wait, Way, body, call_at, entry, loop_of, ways}
use Rattle.task_code.specs.Compute.{Computed, EntryFault, Fails, Gives, Inserts, Opens, Takes, Turns, compute}
use Rattle.task_code.specs.Effects.{Item, Task, at_first, block, branch_instances, chunk, effect_at, instances, is_some_list, is_too_deep, left_at, limited, outcome_of, rest, rest_if, turn_instances, turns_of}
use Rattle.task_code.specs.Places.{Datum, Place, Step, place_at}
use Rattle.task_code.specs.System.{answered, code_system, inputs_at}
use Rattle.task_code.specs.Whole.{Declared, IsCode, OpenedBy, Seen, SeenFrom}
use Rattle.values.specs.Values.{same}
use Rattle.values.specs.declared.key.Key.{Key}
use Rattle.values.specs.declared.key.Key.TheVariants.{Number as number_key}
use Rattle.values.specs.declared.value.Scalar.{Scalar}
use Rattle.dataflow.proofs.Lists.{in_map, in_unmap, in_split}

abbrev pub stepped : ℕ → Key → List Step → List Step
stepped offset k p = record { offset = offset; key = k } ∷ p

abbrev pub PathBy : Way → ℕ → List Step → Key → List Step → Type 0
PathBy InPlace offset p k q = q ≡ p
PathBy Through offset p k q = q ≡ stepped offset k p
PathBy Calling offset p k q = q ≡ stepped offset k p

-- the chunk that has a block: the first one of an entry that is no loop, the one of its key of a loop
abbrev pub Slot : Act → ℕ → List Step → ℕ → Computed → Key → ℕ × List Step → Type 0
Slot a offset p c x k s =
    ((c ≡ 0) × (loop_of a ≡ None)) ⊎ ((w : Loop) × (loop_of a ≡ Some w) × (s.0 ≡ w.body) × (s.1 ≡ stepped offset k p) × In k (keys (chunk c (turns_of x))))

pub record InstanceBy (a : Act) (offset : ℕ) (p : List Step) (c : ℕ) (x : Computed) (s : ℕ × List Step) : Type 0 where
  pub way : Way
  pub key : Key
  pub is_way : In (way, s.0) (ways a)
  pub path_is : PathBy way offset p key s.1
  pub slot : Slot a offset p c x key s

some_none : {A B : Type 0} {x : A} → ◌≡◌ {A = Option A} (Some x) None → B
some_none h = absurd (cc)

pub some_same : {A : Type 0} {x y : A} → ◌≡◌ {A = Option A} (Some x) (Some y) → x ≡ y
some_same h = cc

in_first : {X : Type 0} (o : X) (c : ℕ) (xs : List X) → In o (at_first c xs) → (c ≡ 0) × In o xs
in_first o zero xs h = (refl, h)
in_first o (suc c) xs h = absurd h

in_one : {X : Type 0} (o x : X) → In o (x ∷ []) → o ≡ x
in_one o x h = elim h [ inl q ↦ q | inr n ↦ absurd n ]

-- a block that stands alone
one_instance : (a : Act) (offset : ℕ) (p : List Step) (c : ℕ) (x : Computed) (w : Way) (b : ℕ) (k : Key) (q : List Step) (s : ℕ × List Step) → c ≡ 0 → loop_of a ≡ None → In (w, b) (ways a) → PathBy w offset p k q → s ≡ (b, q) → InstanceBy a offset p c x s
one_instance a offset p c x w b k q s z n i pi e =
    subst (λ (t : ℕ × List Step). InstanceBy a offset p c x t) (sym e) (record { way = w; key = k; is_way = i; path_is = pi; slot = inl (z, n) })

module _ (C : Code) where
  branch_inv : (e : _) (b : ℕ) (d : Option ℕ) (offset : ℕ) (p : List Step) (c : ℕ) (x y : Computed) (s : ℕ × List Step) → c ≡ 0 → In s (branch_instances y b d offset p) → InstanceBy (If e b d) offset p c x s
  branch_inv e b d offset p c x (Takes true) s z h = one_instance (If e b d) offset p c x Through b (number_key (pos 0)) (stepped offset (number_key (pos 0)) p) s z refl (first d) refl (in_one s _ h)
    where
      first : (d : Option ℕ) → In (Through, b) (ways (If e b d))
      first None = inl refl
      first (Some n) = inl refl
  branch_inv e b None offset p c x (Takes false) s z h = absurd h
  branch_inv e b (Some d) offset p c x (Takes false) s z h = one_instance (If e b (Some d)) offset p c x Through d (number_key (pos 1)) (stepped offset (number_key (pos 1)) p) s z refl (inr (inl refl)) refl (in_one s _ h)
  branch_inv e b d offset p c x (Fails f) s z h = absurd h
  branch_inv e b d offset p c x (Gives v) s z h = absurd h
  branch_inv e b d offset p c x (Inserts xs) s z h = absurd h
  branch_inv e b d offset p c x (Turns ts) s z h = absurd h
  branch_inv e b d offset p c x Opens s z h = absurd h

  turns_inv : (a : Act) (w : Loop) (offset : ℕ) (p : List Step) (c : ℕ) (x : Computed) (s : ℕ × List Step) → loop_of a ≡ Some w → In (Through, w.body) (ways a) → In s (turn_instances w offset p (chunk c (turns_of x))) → InstanceBy a offset p c x s
  turns_inv a w offset p c x s l i h =
      let r = in_unmap (λ (t : Key × Scalar). (w.body, stepped offset t.0 p)) s (chunk c (turns_of x)) h in
      subst (λ (t : ℕ × List Step). InstanceBy a offset p c x t) r.2 (record {
        way = Through;
        key = r.0.0;
        is_way = i;
        path_is = refl;
        slot = inr (w, l, refl, refl, in_map (λ (t : Key × Scalar). t.0) r.0 (chunk c (turns_of x)) r.1);
      })

  instances_inv : (a : Act) (offset : ℕ) (p : List Step) (c : ℕ) (x : Computed) (s : ℕ × List Step) → In s (instances a offset p c x) → InstanceBy a offset p c x s
  instances_inv (Cell e) offset p c x s h = absurd h
  instances_inv Read offset p c x s h = absurd h
  instances_inv (Call b rs os) offset p c x s h =
      let f = in_first s c _ h in
      one_instance (Call b rs os) offset p c x Calling b (number_key (pos 0)) (stepped offset (number_key (pos 0)) p) s f.0 refl (inl refl) refl (in_one s _ f.1)
  instances_inv (Set r e) offset p c x s h = absurd h
  instances_inv (Fill r es) offset p c x s h = absurd h
  instances_inv (Copy r) offset p c x s h = absurd h
  instances_inv (InsertElement r i e) offset p c x s h = absurd h
  instances_inv (Print e) offset p c x s h = absurd h
  instances_inv (Assert e) offset p c x s h = absurd h
  instances_inv (If e b d) offset p c x s h = let f = in_first s c (branch_instances x b d offset p) h in branch_inv e b d offset p c x x s f.0 f.1
  instances_inv (Range l h' st w) offset p c x s h = turns_inv (Range l h' st w) w offset p c x s refl (inl refl) h
  instances_inv (Each w) offset p c x s h = turns_inv (Each w) w offset p c x s refl (inl refl) h
  instances_inv (Wait hs b) offset p c x s h =
      let f = in_first s c _ h in
      one_instance (Wait hs b) offset p c x InPlace b (number_key (pos 0)) p s f.0 refl (inl refl) refl (in_one s _ f.1)

  -- an entry that is no loop opens one block at most
  at_most_one : (a : Act) (offset : ℕ) (p : List Step) (c : ℕ) (x : Computed) (s t : ℕ × List Step) → loop_of a ≡ None → In s (instances a offset p c x) → In t (instances a offset p c x) → s ≡ t
  at_most_one (Cell e) offset p c x s t n h k = absurd h
  at_most_one Read offset p c x s t n h k = absurd h
  at_most_one (Call b rs os) offset p c x s t n h k = (let f = in_first s c _ h in let g = in_first t c _ k in in_one s _ f.1 ∙ sym (in_one t _ g.1))
  at_most_one (Set r e) offset p c x s t n h k = absurd h
  at_most_one (Fill r es) offset p c x s t n h k = absurd h
  at_most_one (Copy r) offset p c x s t n h k = absurd h
  at_most_one (InsertElement r i e) offset p c x s t n h k = absurd h
  at_most_one (Print e) offset p c x s t n h k = absurd h
  at_most_one (Assert e) offset p c x s t n h k = absurd h
  at_most_one (If e b d) offset p c x s t n h k =
      let f = in_first s c (branch_instances x b d offset p) h in
      let g = in_first t c (branch_instances x b d offset p) k in
      by x d f.1 g.1
    where
      by : (y : Computed) (d : Option ℕ) → In s (branch_instances y b d offset p) → In t (branch_instances y b d offset p) → s ≡ t
      by (Takes true) d h k = in_one s _ h ∙ sym (in_one t _ k)
      by (Takes false) None h k = absurd h
      by (Takes false) (Some d) h k = in_one s _ h ∙ sym (in_one t _ k)
      by (Fails f) d h k = absurd h
      by (Gives v) d h k = absurd h
      by (Inserts xs) d h k = absurd h
      by (Turns ts) d h k = absurd h
      by Opens d h k = absurd h
  at_most_one (Range l h' st w) offset p c x s t n h k = some_none n
  at_most_one (Each w) offset p c x s t n h k = some_none n
  at_most_one (Wait hs b) offset p c x s t n h k = (let f = in_first s c _ h in let g = in_first t c _ k in in_one s _ f.1 ∙ sym (in_one t _ g.1))

  -- an opening is a block, or the rest of a loop
  pub record OpensBlock (i : ℕ) (p : List Step) (c : ℕ) (x : Computed) (o : Opening Task Place) : Type 0 where
    pub instance : ℕ × List Step
    pub there : In instance (instances (entry C i).act (entry C i).offset p c x)
    pub by : InstanceBy (entry C i).act (entry C i).offset p c x instance
    pub is : o ≡ block C instance

  pub record IsRest (i : ℕ) (p : List Step) (c : ℕ) (o : Opening Task Place) : Type 0 where
    pub loop : Loop
    pub loops : loop_of (entry C i).act ≡ Some loop
    pub is : o ≡ record { makes = []; tasks = Item i p (suc c) ∷ [] }

  rest_inv : (i : ℕ) (p : List Step) (c : ℕ) (x : Computed) (o : Opening Task Place) (l : Option Loop) → loop_of (entry C i).act ≡ l → In o (rest l i p c x) → IsRest i p c o
  rest_inv i p c x o None e h = absurd h
  rest_inv i p c x o (Some w) e h = by (is_some_list (left_at (suc c) (turns_of x))) h
    where
      by : (b : Bool) → In o (rest_if b i p c) → IsRest i p c o
      by true h = record { loop = w; loops = e; is = in_one o _ h }
      by false h = absurd h

  opens_inv : (i : ℕ) (p : List Step) (c : ℕ) (x : Computed) (o : Opening Task Place) → In o (effect_at C i p c x).opens → OpensBlock i p c x o ⊎ IsRest i p c o
  opens_inv i p c x o h =
      elim (in_split o (map (block C) (instances (entry C i).act (entry C i).offset p c x)) (rest (loop_of (entry C i).act) i p c x) h) [
        | inl g ↦ (let r = in_unmap (block C) o (instances (entry C i).act (entry C i).offset p c x) g in inl (record { instance = r.0; there = r.1; by = instances_inv (entry C i).act (entry C i).offset p c x r.0 r.1; is = sym r.2 }))
        | inr g ↦ inr (rest_inv i p c x o (loop_of (entry C i).act) refl g)
      ]

  good_same : {x y : Effect Task Place Key Scalar} → ◌≡◌ {A = Outcome Task Place Key Scalar EntryFault} (Good x) (Good y) → x ≡ y
  good_same h = cc

  bad_good : {f : EntryFault} {y : Effect Task Place Key Scalar} {B : Type 0} → ◌≡◌ {A = Outcome Task Place Key Scalar EntryFault} (Bad f) (Good y) → B
  bad_good h = absurd (cc)

  limited_is : (b : Bool) (e e' : Effect Task Place Key Scalar) → limited b e ≡ Good e' → e ≡ e'
  limited_is true e e' h = bad_good h
  limited_is false e e' h = good_same h

  outcome_is : (x : Computed) (b : Bool) (e e' : Effect Task Place Key Scalar) → outcome_of x b e ≡ Good e' → e ≡ e'
  outcome_is (Fails f) b e e' h = bad_good h
  outcome_is (Gives v) b e e' h = limited_is b e e' h
  outcome_is (Inserts xs) b e e' h = limited_is b e e' h
  outcome_is (Takes t) b e e' h = limited_is b e e' h
  outcome_is (Turns ts) b e e' h = limited_is b e e' h
  outcome_is Opens b e e' h = limited_is b e e' h

  -- what an item has computed
  abbrev pub found : {i c : ℕ} {p : List Step} {e : Effect Task Place Key Scalar} → Can (code_system C) (Item i p c) e → Computed
  found {i} {p = p} can = compute (entry C i).act (answered C p (entry C i).needs can.answers)

  pub effect_is : (i c : ℕ) (p : List Step) (e : Effect Task Place Key Scalar) (can : Can (code_system C) (Item i p c) e) → effect_at C i p c (found can) ≡ e
  effect_is i c p e can = outcome_is (found can) (is_too_deep (entry C i).act p (instances (entry C i).act (entry C i).offset p c (found can))) (effect_at C i p c (found can)) e can.is

  pub opened : (i c : ℕ) (p : List Step) (e : Effect Task Place Key Scalar) (can : Can (code_system C) (Item i p c) e) (o : Opening Task Place) → In o e.opens → OpensBlock i p c (found can) o ⊎ IsRest i p c o
  opened i c p e can o io = opens_inv i p c (found can) o (subst (λ (x : Effect Task Place Key Scalar). In o x.opens) (sym (effect_is i c p e can)) io)

  pub no_loop_one : (i c : ℕ) (p : List Step) (x : Computed) (o o' : Opening Task Place) (b : OpensBlock i p c x o) (b' : OpensBlock i p c x o') → loop_of (entry C i).act ≡ None → b.instance ≡ b'.instance
  no_loop_one i c p x o o' b b' n = at_most_one (entry C i).act (entry C i).offset p c x b.instance b'.instance n b.there b'.there

  pub no_loop_rest : (i c : ℕ) (p : List Step) (o : Opening Task Place) {B : Type 0} → IsRest i p c o → loop_of (entry C i).act ≡ None → B
  no_loop_rest i c p o r n = some_none (sym r.loops ∙ n)

  -- the members of a block and of the rest
  pub in_block : (s : ℕ × List Step) (o : Opening Task Place) (u : Task) → o ≡ block C s → In u o.tasks → (j : ℕ) × In j (body C s.0).entries × (u ≡ Item j s.1 0)
  in_block s o u e h =
      let r = in_unmap (λ j. Item j s.1 0) u (body C s.0).entries (subst (λ (x : Opening Task Place). In u x.tasks) e h) in
      (r.0, r.1, sym r.2)

  pub made_in : (s : ℕ × List Step) (o : Opening Task Place) (a : Place) → o ≡ block C s → In a o.makes → (v : Variable) × In v (body C s.0).makes × (a ≡ Datum s.1 v)
  made_in s o a e h =
      let r = in_unmap (Datum s.1) a (body C s.0).makes (subst (λ (x : Opening Task Place). In a x.makes) e h) in
      (r.0, r.1, sym r.2)

  pub in_rest : (i c : ℕ) (p : List Step) (o : Opening Task Place) (u : Task) → IsRest i p c o → In u o.tasks → u ≡ Item i p (suc c)
  in_rest i c p o u r h = in_one u _ (subst (λ (x : Opening Task Place). In u x.tasks) r.is h)

  pub rest_makes : (i c : ℕ) (p : List Step) (o : Opening Task Place) (a : Place) → IsRest i p c o → In a o.makes → ⊥
  rest_makes i c p o a r h = subst (λ (x : Opening Task Place). In a x.makes) r.is h

  -- a name means the same, seen from the body and from outside
  pub seen_place : (w : Way) (offset : ℕ) (p : List Step) (k : Key) (q : List Step) (r s : Name) → PathBy w offset p k q → Seen C offset w r s → place_at C q r ≡ place_at C p s
  seen_place InPlace offset p k q r s h e = λ i. place_at C (h i) (e i)
  seen_place Through offset p k q r s h e = λ i. place_at C (h i) (e i)
  seen_place Calling offset p k q r s h e = (λ i. place_at C (h i) (e.2 i)) ∙ ap (argued C p) e.3

  abbrev pub Covers : (Entry → List Name) → ℕ → Way → ℕ → Type 0
  Covers rights i w b = (j : ℕ) (r : Name) → In j (body C b).entries → In r (rights (entry C j)) → Declared C b r ⊎ SeenFrom C rights i w r

  -- what a body's entries may use, its opener may use, or it is declared there
  pub covered : (rights : Entry → List Name) (i b : ℕ) (w : Way) (p q : List Step) (k : Key) → Covers rights i w b → PathBy w (entry C i).offset p k q → (j : ℕ) (a : Place) → In j (body C b).entries → In a (map (place_at C q) (rights (entry C j))) → In a (map (Datum q) (body C b).makes) ⊎ In a (map (place_at C p) (rights (entry C i)))
  covered rights i b w p q k cov path j a ij h =
      let r = in_unmap (place_at C q) a (rights (entry C j)) h in
      elim (cov j r.0 ij r.1) [
        | inl d ↦ (let same : a ≡ Datum q d.variable = sym r.2 ∙ ap (place_at C q) d.is ∙ declared_at C q d.variable in
            inl (subst (λ (x : Place). In x (map (Datum q) (body C b).makes)) (sym same) (in_map (Datum q) d.variable (body C b).makes d.made)))
        | inr s ↦ (let same : place_at C p s.outside ≡ a = sym (seen_place w (entry C i).offset p k q r.0 s.outside path s.seen) ∙ r.2 in
            inr (subst (λ (x : Place). In x (map (place_at C p) (rights (entry C i)))) same (in_map (place_at C p) s.outside (rights (entry C i)) s.right)))
      ]

  -- who opened a block
  abbrev opener_of : Opener → List Step → Option (ℕ × List Step)
  opener_of ByMain p = None
  opener_of (ByWait i) p = Some (i, p)
  opener_of (ByStep i) [] = None
  opener_of (ByStep i) (s ∷ p) = Some (i, p)
  opener_of ByCalls [] = None
  opener_of ByCalls (s ∷ p) = Some (call_at C s.offset, p)

  opener_is : (i : ℕ) (w : Way) (o : Opener) (p q : List Step) (k : Key) → OpenedBy C i w o → PathBy w (entry C i).offset p k q → opener_of o q ≡ Some (i, p)
  opener_is i InPlace o p q k h path = λ j. opener_of (h j) (path j)
  opener_is i Through o p q k h path = λ j. opener_of (h j) (path j)
  opener_is i Calling o p q k h path = (λ j. opener_of (h.0 j) (path j)) ∙ ap (λ (n : ℕ). Some (n, p)) h.1

  main_opens_none : (i : ℕ) (w : Way) (o : Opener) → OpenedBy C i w o → o ≡ ByMain → ⊥
  main_opens_none i InPlace o h e = (let n : ByWait i ≡ ByMain = sym h ∙ e in absurd (cc))
  main_opens_none i Through o h e = (let n : ByStep i ≡ ByMain = sym h ∙ e in absurd (cc))
  main_opens_none i Calling o h e = (let n : ByCalls ≡ ByMain = sym h.0 ∙ e in absurd (cc))

  module _ (W : IsCode C) where
    pub not_script : (i c : ℕ) (p : List Step) (x : Computed) (o : Opening Task Place) (b : OpensBlock i p c x o) → b.instance.0 ≡ 0 → ⊥
    not_script i c p x o b e =
        main_opens_none i b.by.way (body C b.instance.0).opener (W.fits i b.by.way b.instance.0 b.by.is_way).opened (ap (λ (n : ℕ). (body C n).opener) e ∙ W.script)

    opener_here : (i c : ℕ) (p : List Step) (x : Computed) (o : Opening Task Place) (b : OpensBlock i p c x o) → opener_of (body C b.instance.0).opener b.instance.1 ≡ Some (i, p)
    opener_here i c p x o b =
        opener_is i b.by.way (body C b.instance.0).opener p b.instance.1 b.by.key (W.fits i b.by.way b.instance.0 b.by.is_way).opened b.by.path_is

    -- a block tells its opener, and its chunk
    pub same_opener : (i i' c c' : ℕ) (p p' : List Step) (x x' : Computed) (o o' : Opening Task Place) (b : OpensBlock i p c x o) (b' : OpensBlock i' p' c' x' o') → b.instance ≡ b'.instance → (◌≡◌ {A = ℕ × List Step} (i, p) (i', p') → x ≡ x') → Distinct (keys (turns_of x)) → Item i p c ≡ Item i' p' c'
    same_opener i i' c c' p p' x x' o o' b b' es coherent differ =
        λ k. Item (same k).0 (same k).1 (by_slot b.by.slot b'.by.slot k)
      where
        same : ◌≡◌ {A = ℕ × List Step} (i, p) (i', p')
        same = some_same (sym (opener_here i c p x o b) ∙ ap (λ (s : ℕ × List Step). opener_of (body C s.0).opener s.1) es ∙ opener_here i' c' p' x' o' b')

        act_same : (entry C i).act ≡ (entry C i').act
        act_same = ap (λ (y : ℕ × List Step). (entry C y.0).act) same

        by_slot : Slot (entry C i).act (entry C i).offset p c x b.by.key b.instance → Slot (entry C i').act (entry C i').offset p' c' x' b'.by.key b'.instance → c ≡ c'
        by_slot (inl z) (inl z') = z.0 ∙ sym z'.0
        by_slot (inl z) (inr z') = some_none (sym z'.1 ∙ sym (ap loop_of act_same) ∙ z.1)
        by_slot (inr z) (inl z') = some_none (sym z.1 ∙ ap loop_of act_same ∙ z'.1)
        by_slot (inr z) (inr z') =
            let e : stepped (entry C i).offset b.by.key p ≡ stepped (entry C i').offset b'.by.key p' = sym z.3 ∙ ap (λ (s : ℕ × List Step). s.1) es ∙ z'.3 in
            let h : ◌≡◌ {A = Step} (record { offset = (entry C i).offset; key = b.by.key }) (record { offset = (entry C i').offset; key = b'.by.key }) = cc (e) in
            let key_same : b.by.key ≡ b'.by.key = ap (λ (s : Step). s.key) h in
            let there : In b.by.key (keys (chunk c' (turns_of x))) = subst (λ (y : Computed). In b.by.key (keys (chunk c' (turns_of y)))) (sym (coherent same)) (subst (λ (k : Key). In k (keys (chunk c' (turns_of x')))) (sym key_same) z'.4) in
            chunk_once (keys (turns_of x)) c c' b.by.key differ
            (subst (λ (l : List Key). In b.by.key l) (map_chunk (λ (t : Key × Scalar). t.0) c (turns_of x)) z.4)
            (subst (λ (l : List Key). In b.by.key l) (map_chunk (λ (t : Key × Scalar). t.0) c' (turns_of x)) there)

    pub result_same : (i i' c c' : ℕ) (p p' : List Step) (e e' : Effect Task Place Key Scalar) (can : Can (code_system C) (Item i p c) e) (can' : Can (code_system C) (Item i' p' c') e') → Coherent (code_system C) can can' → ◌≡◌ {A = ℕ × List Step} (i, p) (i', p') → found can ≡ found can'
    result_same i i' c c' p p' e e' can can' coherent same =
        let answers = coherent (ap (λ (y : ℕ × List Step). flat_map (inputs_at C y.1) (entry C y.0).needs) same) in
        λ k. compute (entry C (same k).0).act (answered C (same k).1 (entry C (same k).0).needs (answers k))

    -- two blocks with a place or an entry in common are one block
    pub item_maker : (i i' c c' : ℕ) (p p' : List Step) (e e' : Effect Task Place Key Scalar) (can : Can (code_system C) (Item i p c) e) (can' : Can (code_system C) (Item i' p' c') e') (o o' : Opening Task Place) (a : Place) → Coherent (code_system C) can can' → In o e.opens → In o' e'.opens → In a o.makes → In a o'.makes → Item i p c ≡ Item i' p' c'
    item_maker i i' c c' p p' e e' can can' o o' a coherent io io' ia ia' =
        by_kind (opened i c p e can o io) (opened i' c' p' e' can' o' io')
      where
        by_kind : OpensBlock i p c (found can) o ⊎ IsRest i p c o → OpensBlock i' p' c' (found can') o' ⊎ IsRest i' p' c' o' → Item i p c ≡ Item i' p' c'
        by_kind (inl b) (inl b') =
            let n = made_in b.instance o a b.is ia in
            let n' = made_in b'.instance o' a b'.is ia' in
            let e : Datum b.instance.1 n.0 ≡ Datum b'.instance.1 n'.0 = sym n.2 ∙ n'.2 in
            let ep : b.instance.1 ≡ b'.instance.1 = cc (e) in
            let en : n.0 ≡ n'.0 = cc (e) in
            let eb = W.makes_once b.instance.0 b'.instance.0 n'.0 (subst (λ (m : Variable). In m (body C b.instance.0).makes) en n.1) n'.1 in
            same_opener i i' c c' p p' (found can) (found can') o o' b b' (λ k. (eb k, ep k)) (result_same i i' c c' p p' _ _ can can' coherent) (computed_apart (entry C i).act (answered C p (entry C i).needs can.answers)).0
        by_kind (inl b) (inr r') = absurd (rest_makes i' c' p' o' a r' ia')
        by_kind (inr r) b' = absurd (rest_makes i c p o a r ia)

    pub item_opener : (i i' c c' : ℕ) (p p' : List Step) (u : Task) (e e' : Effect Task Place Key Scalar) (can : Can (code_system C) (Item i p c) e) (can' : Can (code_system C) (Item i' p' c') e') (o o' : Opening Task Place) → Coherent (code_system C) can can' → In o e.opens → In o' e'.opens → In u o.tasks → In u o'.tasks → Item i p c ≡ Item i' p' c'
    item_opener i i' c c' p p' u e e' can can' o o' coherent io io' iu iu' =
        by_kind (opened i c p e can o io) (opened i' c' p' e' can' o' io')
      where
        zero_suc : {j n m : ℕ} {q q' : List Step} {B : Type 0} → Item j q 0 ≡ Item n q' (suc m) → B
        zero_suc {m = m} h = (let e : 0 ≡ suc m = cc (h) in absurd (omega arith))

        by_kind : OpensBlock i p c (found can) o ⊎ IsRest i p c o → OpensBlock i' p' c' (found can') o' ⊎ IsRest i' p' c' o' → Item i p c ≡ Item i' p' c'
        by_kind (inl b) (inl b') =
            let n = in_block b.instance o u b.is iu in
            let n' = in_block b'.instance o' u b'.is iu' in
            let e : Item n.0 b.instance.1 0 ≡ Item n'.0 b'.instance.1 0 = sym n.2 ∙ n'.2 in
            let ep : b.instance.1 ≡ b'.instance.1 = cc (e) in
            let en : n.0 ≡ n'.0 = cc (e) in
            let eb = W.entries_once b.instance.0 b'.instance.0 n'.0 (subst (λ (m : ℕ). In m (body C b.instance.0).entries) en n.1) n'.1 in
            same_opener i i' c c' p p' (found can) (found can') o o' b b' (λ k. (eb k, ep k)) (result_same i i' c c' p p' _ _ can can' coherent) (computed_apart (entry C i).act (answered C p (entry C i).needs can.answers)).0
        by_kind (inl b) (inr r') = zero_suc (sym (in_block b.instance o u b.is iu).2 ∙ in_rest i' c' p' o' u r' iu')
        by_kind (inr r) (inl b') = zero_suc (sym (in_block b'.instance o' u b'.is iu').2 ∙ in_rest i c p o u r iu)
        by_kind (inr r) (inr r') =
            let e : Item i p (suc c) ≡ Item i' p' (suc c') = sym (in_rest i c p o u r iu) ∙ in_rest i' c' p' o' u r' iu' in
            let ei : i ≡ i' = cc (e) in
            let ep : p ≡ p' = cc (e) in
            let es : suc c ≡ suc c' = cc (e) in
            let ec : c ≡ c' = omega arith in
            λ k. Item (ei k) (ep k) (ec k)
