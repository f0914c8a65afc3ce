-- Whole code keeps each law of a system of tasks.
use Rattle.std.proofs.Common.{◌≡◌, ◌⊎◌, inl, inr, ℕ, zero, suc, Bool, true, false, List, [], ◌∷◌, ◌++◌, map, refl, sym, ap, ◌∙◌, subst, Option, None, Some, arith}
use Rattle.dataflow.specs.Laws.{Can, Coherent, Laws}
use Rattle.dataflow.specs.System.{Answer, Distinct, Effect, Good, In, Input, Opening, Outcome, Write, reads_of, tasks_of}
use Rattle.std.specs.List.{flat_map}
use Rattle.task_code.proofs.Chunks.{computed_apart, distinct_chunk, inserted_of, map_chunk}
use Rattle.task_code.proofs.Equal.{key_is, key_once, keys, one_order, place_is, task_is}
use Rattle.task_code.proofs.Listed.{code_listed}
use Rattle.task_code.proofs.Opens.{IsRest, OpensBlock, PathBy, covered, effect_is, found, in_block, in_rest, item_maker, item_opener, made_in, no_loop_one, no_loop_rest, not_script, opened, rest_makes, seen_place, stepped}
use Rattle.task_code.proofs.Places.{argued, head_same, scalar_name, spot_path, spot_variable}
use Rattle.task_code.proofs.Rights.{Binds, Bound, IntoTarget, apart_valid, bound_at, bound_inv, declared_name, declared_place, declared_same, in_gather, inserted_inv, loop_declares, loop_instances, names_apart, stored_once, stored_target, stores_inv, target_no_loop, target_opens_none, turn_is_bound, turn_variable, value_bound}
use Rattle.task_code.specs.Code.{Act, Assert, At, AtKey, Call, Calling, Cell, Closed, Code, Copy, Each, Entry, Fill, If, InPlace, Loop, Name, Need, Print, InsertElement, Range, Read, Set, Stored, Through, Variable, Wait, Way, body, entry, here, is_array_name, loop_of, needed, scalar, turn_variables}
use Rattle.task_code.specs.Compute.{Computed, Elements, EntryFault, Fails, Gives, Inserts, Opens, Takes, Turns, compute, key_scalar}
use Rattle.task_code.specs.Effects.{Item, Main, Task, at_first, block, bound, branch_instances, chunk, effect_at, inserted_at, instances, is_some_list, left_at, rest, rest_if, stored_at, stores, turn_instances, turns_of}
use Rattle.task_code.specs.Places.{Constant, Datum, Nowhere, Place, Step, place_array, place_at}
use Rattle.task_code.specs.System.{answered, code_system, data_among, element_input, inputs_at, is_valid, key_input, scalar_input, task_inputs, task_reads, task_writes, whole_input}
use Rattle.task_code.specs.Whole.{Declared, Fixes, IsCode, SeenFrom}
use Rattle.values.specs.Values.{same}
use Rattle.values.specs.declared.key.Key.{Key}
use Rattle.values.specs.declared.value.Scalar.{Scalar}
use Rattle.dataflow.proofs.Lists.{in_left, in_map, in_unmap, distinct_append, in_tasks}

abbrev E : Type 0
E = Effect Task Place Key Scalar

abbrev O : Type 0
O = Opening Task Place

abbrev W : Type 0
W = Write Place Key Scalar

module _ (C : Code) (I : IsCode C) where
  good_is : {x y : E} → ◌≡◌ {A = Outcome Task Place Key Scalar EntryFault} (Good x) (Good y) → x ≡ y
  good_is h = cc

  abbrev main_effect : E
  main_effect = record { writes = []; lines = []; opens = block C (0, []) ∷ [] }

  main_is : (e : E) → Can (code_system C) Main e → main_effect ≡ e
  main_is e can = good_is can.is

  -- the main task opens the script
  main_opens : (e : E) (o : O) → Can (code_system C) Main e → In o e.opens → o ≡ block C (0, [])
  main_opens e o can io = elim (subst (λ (x : E). In o x.opens) (sym (main_is e can)) io) [ inl q ↦ q | inr n ↦ absurd n ]

  not_main : {i c : ℕ} {p : List Step} {B : Type 0} → Main ≡ Item i p c → B
  not_main h = absurd (cc)

  chunk_apart : {j n m : ℕ} {q q' : List Step} {B : Type 0} → Item j q 0 ≡ Item n q' (suc m) → B
  chunk_apart {m = m} h = (let e : 0 ≡ suc m = cc (h) in absurd (omega arith))

  -- what an item of a block may write, by the name it has
  named : (rights : Entry → List Name) (q : List Step) (j : ℕ) (a : Place) → In a (map (place_at C q) (rights (entry C j))) → (r : Name) × In r (rights (entry C j)) × (place_at C q r ≡ a)
  named rights q j a h = in_unmap (place_at C q) a (rights (entry C j)) h

  opened_valid : (t u : Task) (e : E) (o : O) → Can (code_system C) t e → In o e.opens → In u o.tasks → is_valid C u ≡ true
  opened_valid Main u e o can io iu =
      let m = in_block C (0, []) o u (main_opens e o can io) iu in
      subst (λ (x : Task). is_valid C x ≡ true) (sym m.2) (apart_valid C m.0 0 [] (λ r s ir is same sc. declared_name C 0 0 [] [] r s (I.script_writes m.0 r m.1 ir) (I.script_writes m.0 s m.1 is) same))
  opened_valid (Item i p c) u e o can io iu = by (opened C i c p e can o io)
    where
      by : OpensBlock C i p c (found C can) o ⊎ IsRest C i p c o → is_valid C u ≡ true
      by (inl b) =
          let m = in_block C b.instance o u b.is iu in
          subst (λ (x : Task). is_valid C x ≡ true) (sym m.2) (apart_valid C m.0 0 b.instance.1 (λ r s ir is same sc. names_apart C I i c p can.valid b.by.way b.instance.0 b.by.is_way b.by.key b.instance.1 b.by.path_is m.0 m.0 r s m.1 m.1 ir is same sc))
      by (inr r) = subst (λ (x : Task). is_valid C x ≡ true) (sym (in_rest C i c p o u r iu)) can.valid

  -- a bound variable is made by the block of its turn
  bound_made : (i c : ℕ) (p : List Step) (x : Computed) (w : W) → (b : Binds C (entry C i).act (entry C i).offset p c x w) → (o : O) × In o (effect_at C i p c x).opens × In w.place o.makes
  bound_made i c p x w b =
      let at = bound_at C b.loop (entry C i).offset p b.turn w b.bound in
      let s : ℕ × List Step = (b.loop.body, stepped (entry C i).offset b.turn.0 p) in
      let is : In s (turn_instances b.loop (entry C i).offset p (chunk c (turns_of x))) = in_map (λ (t : Key × Scalar). (b.loop.body, stepped (entry C i).offset t.0 p)) b.turn (chunk c (turns_of x)) b.there in
      let is' : In s (instances (entry C i).act (entry C i).offset p c x) = subst (λ (l : List (ℕ × List Step)). In s l) (sym (loop_instances C (entry C i).act b.loop (entry C i).offset p c x b.loops)) is in (
        block C s,
        in_left (block C s) (map (block C) (instances (entry C i).act (entry C i).offset p c x)) (rest (loop_of (entry C i).act) i p c x) (in_map (block C) s _ is'),
        subst (λ (a : Place). In a (map (Datum s.1) (body C s.0).makes)) (sym at.2) (in_map (Datum s.1) at.0 (body C s.0).makes ((I.loops i b.loop b.loops).made at.0 at.1)),
      )

  writes_covered : (t : Task) (e : E) → Can (code_system C) t e → (w : W) → In w e.writes → In w.place (task_writes C t) ⊎ ((o : O) × In o e.opens × In w.place o.makes)
  writes_covered Main e can w h = absurd (subst (λ (x : E). In w x.writes) (sym (main_is e can)) h)
  writes_covered (Item i p c) e can w h =
      by (stores_inv C (entry C i).act (entry C i).node (entry C i).offset p c (found C can) w (subst (λ (x : E). In w x.writes) (sym same) h))
    where
      same : effect_at C i p c (found C can) ≡ e
      same = effect_is C i c p e can

      by : IntoTarget C (entry C i).act (entry C i).node p w ⊎ Binds C (entry C i).act (entry C i).offset p c (found C can) w → In w.place (map (place_at C p) (entry C i).writes) ⊎ ((o : O) × In o e.opens × In w.place o.makes)
      by (inl t) = inl (subst (λ (a : Place). In a (map (place_at C p) (entry C i).writes)) (sym t.is) (in_map (place_at C p) t.target (entry C i).writes (I.stores i t.target (stored_target C (entry C i).act (entry C i).node t.target t.there))))
      by (inr b) = (let m = bound_made i c p (found C can) w b in inr (m.0, subst (λ (x : E). In m.0 x.opens) same m.1, m.2))

  -- a place that is no literal
  data IsDatum : Place → Type 0 where
    spot_datum : (p : List Step) (v : Variable) → IsDatum (Datum p v)
    nowhere_datum : IsDatum Nowhere

  in_data : (a : Place) (ds : List Place) → IsDatum a → In a ds → In a (data_among ds)
  in_data a [] d h = absurd h
  in_data a (Datum p v ∷ ds) d h = elim h [ inl q ↦ inl q | inr i ↦ inr (in_data a ds d i) ]
  in_data a (Constant v ∷ ds) d h = elim h [ inl q ↦ absurd (not_literal (subst (λ (x : Place). IsDatum x) q d)) | inr i ↦ in_data a ds d i ]
    where
      not_literal : IsDatum (Constant v) → ⊥
      not_literal x = elim x [ ]
  in_data a (Nowhere ∷ ds) d h = elim h [ inl q ↦ inl q | inr i ↦ inr (in_data a ds d i) ]

  data_in : (a : Place) (ds : List Place) → In a (data_among ds) → In a ds × IsDatum a
  data_in a [] h = absurd h
  data_in a (Datum p v ∷ ds) h = elim h [ inl q ↦ (inl q, subst (λ (x : Place). IsDatum x) (sym q) (spot_datum p v)) | inr i ↦ (let r = data_in a ds i in (inr r.0, r.1)) ]
  data_in a (Constant v ∷ ds) h = (let r = data_in a ds h in (inr r.0, r.1))
  data_in a (Nowhere ∷ ds) h = elim h [ inl q ↦ (inl q, subst (λ (x : Place). IsDatum x) (sym q) nowhere_datum) | inr i ↦ (let r = data_in a ds i in (inr r.0, r.1)) ]

  of_one : (i x : Input Place Key) (a : Place) (ds : List Place) → In i (x ∷ []) → In a (reads_of i) → ((a : Place) → In a (reads_of x) → In a ds × IsDatum a) → In a ds × IsDatum a
  of_one i x a ds h m f = elim h [ inl q ↦ f a (subst (λ (z : Input Place Key). In a (reads_of z)) q m) | inr n ↦ absurd n ]

  one_datum : (a d : Place) → IsDatum d → In a (d ∷ []) → In a (d ∷ []) × IsDatum a
  one_datum a d x h = (h, elim h [ inl q ↦ subst (λ (z : Place). IsDatum z) (sym q) x | inr n ↦ absurd n ])

  two_data : (a d e : Place) → IsDatum d → IsDatum e → In a (d ∷ e ∷ []) → In a (d ∷ e ∷ []) × IsDatum a
  two_data a d e x y h = (h, elim h [ inl q ↦ subst (λ (z : Place). IsDatum z) (sym q) x | inr g ↦ elim g [ inl q ↦ subst (λ (z : Place). IsDatum z) (sym q) y | inr n ↦ absurd n ] ])

  scalar_reads : (d : Place) (i : Input Place Key) (a : Place) → In i (scalar_input d) → In a (reads_of i) → In a (d ∷ []) × IsDatum a
  scalar_reads (Datum p v) i a h m = of_one i _ a (Datum p v ∷ []) h m (λ a g. one_datum a (Datum p v) (spot_datum p v) g)
  scalar_reads (Constant v) i a h m = absurd h
  scalar_reads Nowhere i a h m = of_one i _ a (Nowhere ∷ []) h m (λ a g. one_datum a Nowhere nowhere_datum g)

  whole_reads : (d : Place) (i : Input Place Key) (a : Place) → In i (whole_input d) → In a (reads_of i) → In a (d ∷ []) × IsDatum a
  whole_reads (Datum p v) i a h m = of_one i _ a (Datum p v ∷ []) h m (λ a g. one_datum a (Datum p v) (spot_datum p v) g)
  whole_reads (Constant v) i a h m = absurd h
  whole_reads Nowhere i a h m = of_one i _ a (Nowhere ∷ []) h m (λ a g. one_datum a Nowhere nowhere_datum g)

  key_reads : (d : Place) (k : Key) (i : Input Place Key) (a : Place) → In i (key_input d k) → In a (reads_of i) → In a (d ∷ []) × IsDatum a
  key_reads (Datum p v) k i a h m = of_one i _ a (Datum p v ∷ []) h m (λ a g. one_datum a (Datum p v) (spot_datum p v) g)
  key_reads (Constant v) k i a h m = absurd h
  key_reads Nowhere k i a h m = of_one i _ a (Nowhere ∷ []) h m (λ a g. one_datum a Nowhere nowhere_datum g)

  element_reads : (d e : Place) (i : Input Place Key) (a : Place) → In i (element_input d e) → In a (reads_of i) → In a (d ∷ e ∷ []) × IsDatum a
  element_reads (Datum p v) (Constant w) i a h m = (let x = key_reads (Datum p v) _ i a h m in (in_left a (Datum p v ∷ []) (Constant w ∷ []) x.0, x.1))
  element_reads (Constant v) (Constant w) i a h m = absurd h
  element_reads Nowhere (Constant w) i a h m = (let x = key_reads Nowhere _ i a h m in (in_left a (Nowhere ∷ []) (Constant w ∷ []) x.0, x.1))
  element_reads (Datum p v) (Datum q w) i a h m = of_one i _ a (Datum p v ∷ Datum q w ∷ []) h m (λ a g. two_data a (Datum p v) (Datum q w) (spot_datum p v) (spot_datum q w) g)
  element_reads (Datum p v) Nowhere i a h m = of_one i _ a (Datum p v ∷ Nowhere ∷ []) h m (λ a g. two_data a (Datum p v) Nowhere (spot_datum p v) nowhere_datum g)
  element_reads (Constant v) (Datum q w) i a h m = absurd h
  element_reads (Constant v) Nowhere i a h m = absurd h
  element_reads Nowhere (Datum q w) i a h m = of_one i _ a (Nowhere ∷ Datum q w ∷ []) h m (λ a g. two_data a Nowhere (Datum q w) nowhere_datum (spot_datum q w) g)
  element_reads Nowhere Nowhere i a h m = of_one i _ a (Nowhere ∷ Nowhere ∷ []) h m (λ a g. two_data a Nowhere Nowhere nowhere_datum nowhere_datum g)

  needs_read : (p : List Step) (n : Need) (i : Input Place Key) (a : Place) → In i (inputs_at C p n) → In a (reads_of i) → In a (map (place_at C p) (needed n)) × IsDatum a
  needs_read p (Stored r) i a h m = scalar_reads (place_at C p r) i a h m
  needs_read p (Closed r) i a h m = whole_reads (place_at C p r) i a h m
  needs_read p (At d r) i a h m = element_reads (place_at C p d) (place_at C p r) i a h m
  needs_read p (AtKey d k) i a h m = key_reads (place_at C p d) k i a h m

  reads_covered : (t : Task) (i : Input Place Key) (a : Place) → In i (task_inputs C t) → In a (reads_of i) → In a (task_reads C t)
  reads_covered Main i a h m = absurd h
  reads_covered (Item j p c) i a h m =
      let n = in_gather C (inputs_at C p) (entry C j).needs i h in
      let x = needs_read p n.0 i a n.2 m in
      let r = in_unmap (place_at C p) a (needed n.0) x.0 in
      in_data a (map (place_at C p) (entry C j).reads) x.1 (subst (λ (x : Place). In x (map (place_at C p) (entry C j).reads)) r.2 (in_map (place_at C p) r.0 (entry C j).reads (I.needs j n.0 r.0 n.1 r.1)))

  -- a fixed parameter is a literal
  fixed_place : (w : Way) (offset : ℕ) (p : List Step) (k : Key) (q : List Step) (r : Name) → PathBy w offset p k q → Fixes C offset w r → (v : Scalar) × (place_at C q r ≡ Constant v)
  fixed_place InPlace offset p k q r h e = absurd e
  fixed_place Through offset p k q r h e = absurd e
  fixed_place Calling offset p k q r h e = (e.2, (λ i. place_at C (h i) (e.3 i)) ∙ ap (argued C p) e.4)

  no_datum : (a : Place) (v : Scalar) → a ≡ Constant v → IsDatum a → ⊥
  no_datum a v e d = literal (subst (λ (x : Place). IsDatum x) e d)
    where
      literal : IsDatum (Constant v) → ⊥
      literal x = elim x [ ]

  opens_reads : (t u : Task) (e : E) (o : O) (a : Place) → Can (code_system C) t e → In o e.opens → In u o.tasks → In a (task_reads C u) → In a o.makes ⊎ In a (task_reads C t)
  opens_reads Main u e o a can io iu h =
      let q = main_opens e o can io in
      let m = in_block C (0, []) o u q iu in
      let r = named (λ e. e.reads) [] m.0 a (data_in a (map (place_at C []) (entry C m.0).reads) (subst (λ (x : Task). In a (task_reads C x)) m.2 h)).0 in
      let d = I.script_reads m.0 r.0 m.1 r.1 in
      let at : a ≡ Datum [] d.variable = sym r.2 ∙ declared_place C 0 [] r.0 d in
      inl (subst (λ (x : O). In a x.makes) (sym q) (subst (λ (x : Place). In x (map (Datum []) (body C 0).makes)) (sym at) (in_map (Datum []) d.variable (body C 0).makes d.made)))
  opens_reads (Item i p c) u e o a can io iu h = by (opened C i c p e can o io)
    where
      by : OpensBlock C i p c (found C can) o ⊎ IsRest C i p c o → In a o.makes ⊎ In a (data_among (map (place_at C p) (entry C i).reads))
      by (inr r) = inr (subst (λ (x : Task). In a (task_reads C x)) (in_rest C i c p o u r iu) h)
      by (inl b) = by_cover ((I.fits i b.by.way b.instance.0 b.by.is_way).reads m.0 r.0 m.1 r.1)
        where
          m : (j : ℕ) × In j (body C b.instance.0).entries × (u ≡ Item j b.instance.1 0)
          m = in_block C b.instance o u b.is iu

          x : In a (map (place_at C b.instance.1) (entry C m.0).reads) × IsDatum a
          x = data_in a (map (place_at C b.instance.1) (entry C m.0).reads) (subst (λ (x : Task). In a (task_reads C x)) m.2 h)

          r : (r : Name) × In r (entry C m.0).reads × (place_at C b.instance.1 r ≡ a)
          r = named (λ e. e.reads) b.instance.1 m.0 a x.0

          by_cover : (Declared C b.instance.0 r.0 ⊎ SeenFrom C (λ e. e.reads) i b.by.way r.0) ⊎ Fixes C (entry C i).offset b.by.way r.0 → In a o.makes ⊎ In a (data_among (map (place_at C p) (entry C i).reads))
          by_cover (inl (inl d)) =
              let at : a ≡ Datum b.instance.1 d.variable = sym r.2 ∙ declared_place C b.instance.0 b.instance.1 r.0 d in
              inl (subst (λ (x : O). In a x.makes) (sym b.is) (subst (λ (x : Place). In x (map (Datum b.instance.1) (body C b.instance.0).makes)) (sym at) (in_map (Datum b.instance.1) d.variable (body C b.instance.0).makes d.made)))
          by_cover (inl (inr s)) =
              let same : place_at C p s.outside ≡ a = sym (seen_place C b.by.way (entry C i).offset p b.by.key b.instance.1 r.0 s.outside b.by.path_is s.seen) ∙ r.2 in
              inr (in_data a (map (place_at C p) (entry C i).reads) x.1 (subst (λ (z : Place). In z (map (place_at C p) (entry C i).reads)) same (in_map (place_at C p) s.outside (entry C i).reads s.right)))
          by_cover (inr f) =
              let v = fixed_place b.by.way (entry C i).offset p b.by.key b.instance.1 r.0 b.by.path_is f in
              absurd (no_datum a v.0 (sym r.2 ∙ v.1) x.1)

  opens_covered : (t u : Task) (e : E) (o : O) (a : Place) → Can (code_system C) t e → In o e.opens → In u o.tasks → In a (task_writes C u) → In a o.makes ⊎ In a (task_writes C t)
  opens_covered Main u e o a can io iu h =
      let q = main_opens e o can io in
      let m = in_block C (0, []) o u q iu in
      let r = named (λ e. e.writes) [] m.0 a (subst (λ (x : Task). In a (task_writes C x)) m.2 h) in
      let d = I.script_writes m.0 r.0 m.1 r.1 in
      let at : a ≡ Datum [] d.variable = sym r.2 ∙ declared_place C 0 [] r.0 d in
      inl (subst (λ (x : O). In a x.makes) (sym q) (subst (λ (x : Place). In x (map (Datum []) (body C 0).makes)) (sym at) (in_map (Datum []) d.variable (body C 0).makes d.made)))
  opens_covered (Item i p c) u e o a can io iu h = by (opened C i c p e can o io)
    where
      by : OpensBlock C i p c (found C can) o ⊎ IsRest C i p c o → In a o.makes ⊎ In a (map (place_at C p) (entry C i).writes)
      by (inl b) =
          let m = in_block C b.instance o u b.is iu in
          elim (covered C (λ e. e.writes) i b.instance.0 b.by.way p b.instance.1 b.by.key (I.fits i b.by.way b.instance.0 b.by.is_way).writes b.by.path_is m.0 a m.1 (subst (λ (x : Task). In a (task_writes C x)) m.2 h)) [
            | inl k ↦ inl (subst (λ (x : O). In a x.makes) (sym b.is) k)
            | inr k ↦ inr k
          ]
      by (inr r) = inr (subst (λ (x : Task). In a (task_writes C x)) (in_rest C i c p o u r iu) h)

  one_maker : (t t' : Task) (e e' : E) (o o' : O) (a : Place) (x : Can (code_system C) t e) (y : Can (code_system C) t' e') → Coherent (code_system C) x y → In o e.opens → In o' e'.opens → In a o.makes → In a o'.makes → t ≡ t'
  one_maker Main Main e e' o o' a x y co io io' ia ia' = refl
  one_maker Main (Item i p c) e e' o o' a x y co io io' ia ia' = by (opened C i c p e' y o' io')
    where
      by : OpensBlock C i p c (found C y) o' ⊎ IsRest C i p c o' → Main ≡ Item i p c
      by (inl b) =
          let m = made_in C (0, []) o a (main_opens e o x io) ia in
          let n = made_in C b.instance o' a b.is ia' in
          let v : m.0 ≡ n.0 = spot_variable (sym m.2 ∙ n.2) in
          absurd (not_script C I i c p (found C y) o' b (I.makes_once b.instance.0 0 n.0 n.1 (subst (λ (z : Variable). In z (body C 0).makes) v m.1)))
      by (inr r) = absurd (rest_makes C i c p o' a r ia')
  one_maker (Item i p c) Main e e' o o' a x y co io io' ia ia' = by (opened C i c p e x o io)
    where
      by : OpensBlock C i p c (found C x) o ⊎ IsRest C i p c o → Item i p c ≡ Main
      by (inl b) =
          let m = made_in C (0, []) o' a (main_opens e' o' y io') ia' in
          let n = made_in C b.instance o a b.is ia in
          let v : m.0 ≡ n.0 = spot_variable (sym m.2 ∙ n.2) in
          absurd (not_script C I i c p (found C x) o b (I.makes_once b.instance.0 0 n.0 n.1 (subst (λ (z : Variable). In z (body C 0).makes) v m.1)))
      by (inr r) = absurd (rest_makes C i c p o a r ia)
  one_maker (Item i p c) (Item i' p' c') e e' o o' a x y co io io' ia ia' = item_maker C I i i' c c' p p' e e' x y o o' a co io io' ia ia'

  one_opener : (t t' u : Task) (e e' : E) (o o' : O) (x : Can (code_system C) t e) (y : Can (code_system C) t' e') → Coherent (code_system C) x y → In o e.opens → In o' e'.opens → In u o.tasks → In u o'.tasks → t ≡ t'
  one_opener Main Main u e e' o o' x y co io io' iu iu' = refl
  one_opener Main (Item i p c) u e e' o o' x y co io io' iu iu' = by (opened C i c p e' y o' io')
    where
      by : OpensBlock C i p c (found C y) o' ⊎ IsRest C i p c o' → Main ≡ Item i p c
      by (inl b) =
          let m = in_block C (0, []) o u (main_opens e o x io) iu in
          let n = in_block C b.instance o' u b.is iu' in
          let q : Item m.0 [] 0 ≡ Item n.0 b.instance.1 0 = sym m.2 ∙ n.2 in
          let v : m.0 ≡ n.0 = cc (q) in
          absurd (not_script C I i c p (found C y) o' b (I.entries_once b.instance.0 0 n.0 n.1 (subst (λ (z : ℕ). In z (body C 0).entries) v m.1)))
      by (inr r) = (let m = in_block C (0, []) o u (main_opens e o x io) iu in chunk_apart (sym m.2 ∙ in_rest C i c p o' u r iu'))
  one_opener (Item i p c) Main u e e' o o' x y co io io' iu iu' = by (opened C i c p e x o io)
    where
      by : OpensBlock C i p c (found C x) o ⊎ IsRest C i p c o → Item i p c ≡ Main
      by (inl b) =
          let m = in_block C (0, []) o' u (main_opens e' o' y io') iu' in
          let n = in_block C b.instance o u b.is iu in
          let q : Item m.0 [] 0 ≡ Item n.0 b.instance.1 0 = sym m.2 ∙ n.2 in
          let v : m.0 ≡ n.0 = cc (q) in
          absurd (not_script C I i c p (found C x) o b (I.entries_once b.instance.0 0 n.0 n.1 (subst (λ (z : ℕ). In z (body C 0).entries) v m.1)))
      by (inr r) = (let m = in_block C (0, []) o' u (main_opens e' o' y io') iu' in chunk_apart (sym m.2 ∙ in_rest C i c p o u r iu))
  one_opener (Item i p c) (Item i' p' c') u e e' o o' x y co io io' iu iu' = item_opener C I i i' c c' p p' u e e' x y o o' co io io' iu iu'

  main_is_first : (t : Task) (e : E) (o : O) → Can (code_system C) t e → In o e.opens → In Main o.tasks → ⊥
  main_is_first Main e o can io h = not_main (in_block C (0, []) o Main (main_opens e o can io) h).2
  main_is_first (Item i p c) e o can io h = by (opened C i c p e can o io)
    where
      by : OpensBlock C i p c (found C can) o ⊎ IsRest C i p c o → ⊥
      by (inl b) = not_main (in_block C b.instance o Main b.is h).2
      by (inr r) = not_main (in_rest C i c p o Main r h)

  one_opening : (t : Task) (e : E) (o o' : O) (a : Place) → Can (code_system C) t e → In o e.opens → In o' e.opens → In a o.makes → In a o'.makes → o ≡ o'
  one_opening Main e o o' a can io io' ia ia' = main_opens e o can io ∙ sym (main_opens e o' can io')
  one_opening (Item i p c) e o o' a can io io' ia ia' = by (opened C i c p e can o io) (opened C i c p e can o' io')
    where
      by : OpensBlock C i p c (found C can) o ⊎ IsRest C i p c o → OpensBlock C i p c (found C can) o' ⊎ IsRest C i p c o' → o ≡ o'
      by (inl b) (inl b') =
          let m = made_in C b.instance o a b.is ia in
          let n = made_in C b'.instance o' a b'.is ia' in
          let q = sym m.2 ∙ n.2 in
          let ep : b.instance.1 ≡ b'.instance.1 = spot_path q in
          let eb : b.instance.0 ≡ b'.instance.0 = I.makes_once b.instance.0 b'.instance.0 n.0 (subst (λ (z : Variable). In z (body C b.instance.0).makes) (spot_variable q) m.1) n.1 in
          b.is ∙ (λ k. block C (eb k, ep k)) ∙ sym b'.is
      by (inl b) (inr r) = absurd (rest_makes C i c p o' a r ia')
      by (inr r) b = absurd (rest_makes C i c p o a r ia)

  -- the tasks of different blocks
  distinct_items : (q : List Step) (js : List ℕ) → Distinct js → Distinct (map (λ j. Item j q 0) js)
  distinct_items q [] d = tt
  distinct_items q (j ∷ js) d =
      (λ h. (let r = in_unmap (λ j. Item j q 0) (Item j q 0) js h in let e : r.0 ≡ j = cc (r.2) in d.0 (subst (λ (z : ℕ). In z js) e r.1)), distinct_items q js d.1)

  distinct_blocks : (ss : List (ℕ × List Step)) → Distinct ss → Distinct (tasks_of (map (block C) ss))
  distinct_blocks [] d = tt
  distinct_blocks (s ∷ ss) d =
      distinct_append (map (λ j. Item j s.1 0) (body C s.0).entries) (tasks_of (map (block C) ss)) (distinct_items s.1 (body C s.0).entries (I.entries_distinct s.0)) (distinct_blocks ss d.1) apart
    where
      apart : (u : Task) → In u (map (λ j. Item j s.1 0) (body C s.0).entries) → In u (tasks_of (map (block C) ss)) → ⊥
      apart u h g =
          let m = in_unmap (λ j. Item j s.1 0) u (body C s.0).entries h in
          let o = in_tasks u (map (block C) ss) g in
          let t = in_unmap (block C) o.0 ss o.1 in
          let n = in_block C t.0 o.0 u (sym t.2) o.2 in
          let q : Item m.0 s.1 0 ≡ Item n.0 t.0.1 0 = m.2 ∙ n.2 in
          let ej : m.0 ≡ n.0 = cc (q) in
          let ep : s.1 ≡ t.0.1 = cc (q) in
          let eb : s.0 ≡ t.0.0 = I.entries_once s.0 t.0.0 n.0 (subst (λ (z : ℕ). In z (body C s.0).entries) ej m.1) n.1 in
          let es : ◌≡◌ {A = ℕ × List Step} t.0 s = λ k. (sym eb k, sym ep k) in
          d.0 (subst (λ (z : ℕ × List Step). In z ss) es t.1)

  distinct_one : (c : ℕ) (s : ℕ × List Step) → Distinct (at_first c (s ∷ []))
  distinct_one zero s = ((λ h. h), tt)
  distinct_one (suc c) s = tt

  distinct_branches : (c : ℕ) (x : Computed) (b : ℕ) (d : Option ℕ) (offset : ℕ) (p : List Step) → Distinct (at_first c (branch_instances x b d offset p))
  distinct_branches (suc c) x b d offset p = tt
  distinct_branches zero (Takes true) b d offset p = ((λ h. h), tt)
  distinct_branches zero (Takes false) b None offset p = tt
  distinct_branches zero (Takes false) b (Some d) offset p = ((λ h. h), tt)
  distinct_branches zero (Fails f) b d offset p = tt
  distinct_branches zero (Gives v) b d offset p = tt
  distinct_branches zero (Inserts xs) b d offset p = tt
  distinct_branches zero (Turns ts) b d offset p = tt
  distinct_branches zero Opens b d offset p = tt

  distinct_turn_instances : (l : Loop) (offset : ℕ) (p : List Step) (ts : Elements) → Distinct (keys ts) → Distinct (turn_instances l offset p ts)
  distinct_turn_instances l offset p [] d = tt
  distinct_turn_instances l offset p (t ∷ ts) d = (
    λ h. (let r = in_unmap (λ (t : Key × Scalar). (l.body, stepped offset t.0 p)) (l.body, stepped offset t.0 p) ts h in
        let q : stepped offset r.0.0 p ≡ stepped offset t.0 p = ap (λ (z : ℕ × List Step). z.1) r.2 in
        let e : r.0.0 ≡ t.0 = ap (λ (z : Step). z.key) (head_same q) in
        d.0 (subst (λ (k : Key). In k (keys ts)) e (in_map (λ (t : Key × Scalar). t.0) r.0 ts r.1))),
    distinct_turn_instances l offset p ts d.1,
  )

  distinct_instances : (a : Act) (offset : ℕ) (p : List Step) (c : ℕ) (x : Computed) → Distinct (keys (chunk c (turns_of x))) → Distinct (instances a offset p c x)
  distinct_instances (Cell e) offset p c x d = tt
  distinct_instances Read offset p c x d = tt
  distinct_instances (Call b rs os) offset p c x d = distinct_one c _
  distinct_instances (Set r e) offset p c x d = tt
  distinct_instances (Fill r es) offset p c x d = tt
  distinct_instances (Copy r) offset p c x d = tt
  distinct_instances (InsertElement r i e) offset p c x d = tt
  distinct_instances (Print e) offset p c x d = tt
  distinct_instances (Assert e) offset p c x d = tt
  distinct_instances (If e b f) offset p c x d = distinct_branches c x b f offset p
  distinct_instances (Range lo h s l) offset p c x d = distinct_turn_instances l offset p (chunk c (turns_of x)) d
  distinct_instances (Each l) offset p c x d = distinct_turn_instances l offset p (chunk c (turns_of x)) d
  distinct_instances (Wait hs b) offset p c x d = distinct_one c _

  tasks_append : (xs ys : List O) → tasks_of (xs ++ ys) ≡ tasks_of xs ++ tasks_of ys
  tasks_append [] ys = refl
  tasks_append (o ∷ xs) ys = ap (λ (l : List Task). o.tasks ++ l) (tasks_append xs ys) ∙ sym (append_again o.tasks (tasks_of xs) (tasks_of ys))
    where
      append_again : (a b c : List Task) → (a ++ b) ++ c ≡ a ++ (b ++ c)
      append_again [] b c = refl
      append_again (x ∷ a) b c = ap (λ (l : List Task). x ∷ l) (append_again a b c)

  chunk_keys : (i c : ℕ) (xs : List (Answer Key Scalar)) → Distinct (keys (chunk c (turns_of (compute (entry C i).act xs))))
  chunk_keys i c xs =
      let x = compute (entry C i).act xs in
      subst (λ (l : List Key). Distinct l) (sym (map_chunk (λ (t : Key × Scalar). t.0) c (turns_of x))) (distinct_chunk c (keys (turns_of x)) (computed_apart (entry C i).act xs).0)

  opens_distinct : (t : Task) (e : E) → Can (code_system C) t e → Distinct (tasks_of e.opens)
  opens_distinct Main e can =
      subst (λ (x : E). Distinct (tasks_of x.opens)) (main_is e can) (distinct_blocks ((0, []) ∷ []) ((λ h. h), tt))
  opens_distinct (Item i p c) e can =
      subst (λ (x : E). Distinct (tasks_of x.opens)) (effect_is C i c p e can) (subst (λ (l : List Task). Distinct l) (sym (tasks_append bs rs)) (distinct_append (tasks_of bs) (tasks_of rs) (distinct_blocks _ (distinct_instances (entry C i).act (entry C i).offset p c (found C can) (chunk_keys i c (answered C p (entry C i).needs can.answers)))) (of_rest (loop_of (entry C i).act)) apart))
    where
      bs : List O
      bs = map (block C) (instances (entry C i).act (entry C i).offset p c (found C can))

      rs : List O
      rs = rest (loop_of (entry C i).act) i p c (found C can)

      of_rest : (l : Option Loop) → Distinct (tasks_of (rest l i p c (found C can)))
      of_rest None = tt
      of_rest (Some l) = by (is_some_list (left_at (suc c) (turns_of (found C can))))
        where
          by : (b : Bool) → Distinct (tasks_of (rest_if b i p c))
          by true = ((λ h. h), tt)
          by false = tt

      in_rs : (l : Option Loop) (u : Task) → In u (tasks_of (rest l i p c (found C can))) → u ≡ Item i p (suc c)
      in_rs None u h = absurd h
      in_rs (Some l) u h = by (is_some_list (left_at (suc c) (turns_of (found C can)))) h
        where
          by : (b : Bool) → In u (tasks_of (rest_if b i p c)) → u ≡ Item i p (suc c)
          by true h = elim h [ inl q ↦ q | inr n ↦ absurd n ]
          by false h = absurd h

      apart : (u : Task) → In u (tasks_of bs) → In u (tasks_of rs) → ⊥
      apart u h g =
          let o = in_tasks u bs h in
          let s = in_unmap (block C) o.0 (instances (entry C i).act (entry C i).offset p c (found C can)) o.1 in
          let m = in_block C s.0 o.0 u (sym s.2) o.2 in
          chunk_apart (sym m.2 ∙ in_rs (loop_of (entry C i).act) u g)

  -- one effect writes a key once
  module _ (i c : ℕ) (p : List Step) (xs : List (Answer Key Scalar)) where
    abbrev act : Act
    act = (entry C i).act

    abbrev offset : ℕ
    offset = (entry C i).offset

    abbrev got : Computed
    got = compute (entry C i).act xs

    stored_same : (d a : Place) (k : Key) (v w : Scalar) → In (record { place = a; key = k; value = v }) (stored_at d got) → In (record { place = a; key = k; value = w }) (stored_at d got) → v ≡ w
    stored_same d a k v w h g = ap (λ (y : W). y.value) (stored_once C d got (record { place = a; key = k; value = v }) (record { place = a; key = k; value = w }) h g)

    inserted_same : (d a : Place) (k : Key) (v w : Scalar) → In (record { place = a; key = k; value = v }) (inserted_at d got) → In (record { place = a; key = k; value = w }) (inserted_at d got) → v ≡ w
    inserted_same d a k v w h g =
        let x = inserted_inv C d got (record { place = a; key = k; value = v }) h in
        let y = inserted_inv C d got (record { place = a; key = k; value = w }) g in
        key_once (inserted_of got) (computed_apart (entry C i).act xs).1 k v w x.1 y.1

    bound_same : (l : Loop) → loop_of (entry C i).act ≡ Some l → (a : Place) (k : Key) (v w : Scalar) → In (record { place = a; key = k; value = v }) (flat_map (bound l (entry C i).offset p) (chunk c (turns_of got))) → In (record { place = a; key = k; value = w }) (flat_map (bound l (entry C i).offset p) (chunk c (turns_of got))) → v ≡ w
    bound_same l e a k v w h g =
        by (bound_inv C l (entry C i).offset p x.0 (record { place = a; key = k; value = v }) x.2) (bound_inv C l (entry C i).offset p y.0 (record { place = a; key = k; value = w }) y.2)
      where
        x : (t : Key × Scalar) × In t (chunk c (turns_of got)) × In (record { place = a; key = k; value = v }) (bound l (entry C i).offset p t)
        x = in_gather C (bound l (entry C i).offset p) (chunk c (turns_of got)) (record { place = a; key = k; value = v }) h

        y : (t : Key × Scalar) × In t (chunk c (turns_of got)) × In (record { place = a; key = k; value = w }) (bound l (entry C i).offset p t)
        y = in_gather C (bound l (entry C i).offset p) (chunk c (turns_of got)) (record { place = a; key = k; value = w }) g

        -- one place is bound by one turn
        turn_key : {q r : Variable} → Datum (stepped (entry C i).offset x.0.0 p) q ≡ Datum (stepped (entry C i).offset y.0.0 p) r → x.0.0 ≡ y.0.0
        turn_key s = ap (λ (z : Step). z.key) (head_same (spot_path s))

        apart : (n : ℕ) → l.turn ≡ Some n → scalar l.value ≡ scalar n → ⊥
        apart n en q = ((I.loops i l e).distinct).0 (subst (λ (z : Variable). In z (turn_variables l.turn)) (sym q) (turn_variable C l n en))

        by : Bound C l (entry C i).offset p x.0 (record { place = a; key = k; value = v }) → Bound C l (entry C i).offset p y.0 (record { place = a; key = k; value = w }) → v ≡ w
        by (value_bound s z) (value_bound s' z') =
            let ek = turn_key (sym s ∙ s') in
            z ∙ key_once (chunk c (turns_of got)) (chunk_keys i c xs) x.0.0 x.0.1 y.0.1 x.1 (subst (λ (j : Key). In (j, y.0.1) (chunk c (turns_of got))) (sym ek) y.1) ∙ sym z'
        by (value_bound s z) (turn_is_bound n en s' z') = absurd (apart n en (spot_variable (sym s ∙ s')))
        by (turn_is_bound n en s z) (value_bound s' z') = absurd (apart n en (spot_variable (sym s' ∙ s)))
        by (turn_is_bound n en s z) (turn_is_bound m em s' z') = z ∙ ap key_scalar (turn_key (sym s ∙ s')) ∙ sym z'

    writes_once : (b : Act) → (entry C i).act ≡ b → (a : Place) (k : Key) (v w : Scalar) → In (record { place = a; key = k; value = v }) (stores C b (entry C i).node (entry C i).offset p c got) → In (record { place = a; key = k; value = w }) (stores C b (entry C i).node (entry C i).offset p c got) → v ≡ w
    writes_once (Cell e) q a k v w h g = stored_same _ a k v w h g
    writes_once Read q a k v w h g = stored_same _ a k v w h g
    writes_once (Call b rs os) q a k v w h g = absurd h
    writes_once (Set r e) q a k v w h g = stored_same _ a k v w h g
    writes_once (Fill r es) q a k v w h g = inserted_same _ a k v w h g
    writes_once (Copy r) q a k v w h g = inserted_same _ a k v w h g
    writes_once (InsertElement r n e) q a k v w h g = inserted_same _ a k v w h g
    writes_once (Print e) q a k v w h g = absurd h
    writes_once (Assert e) q a k v w h g = absurd h
    writes_once (If e b d) q a k v w h g = absurd h
    writes_once (Range lo hi st l) q a k v w h g = bound_same l (ap loop_of q) a k v w h g
    writes_once (Each l) q a k v w h g = bound_same l (ap loop_of q) a k v w h g
    writes_once (Wait hs b) q a k v w h g = absurd h

  keys_once : (t : Task) (e : E) (a : Place) (k : Key) (v w : Scalar) → Can (code_system C) t e → In (record { place = a; key = k; value = v }) e.writes → In (record { place = a; key = k; value = w }) e.writes → v ≡ w
  keys_once Main e a k v w can h g = absurd (subst (λ (x : E). In (record { place = a; key = k; value = v }) x.writes) (sym (main_is e can)) h)
  keys_once (Item i p c) e a k v w can h g =
      let same = sym (effect_is C i c p e can) in
      writes_once i c p (answered C p (entry C i).needs can.answers) (entry C i).act refl a k v w (subst (λ (x : E). In (record { place = a; key = k; value = v }) x.writes) same h) (subst (λ (x : E). In (record { place = a; key = k; value = w }) x.writes) same g)

  -- a loop has no right to a scalar
  loop_no_scalar : (i : ℕ) (p : List Step) (d : Place) (l : Loop) → loop_of (entry C i).act ≡ Some l → place_array d ≡ false → In d (map (place_at C p) (entry C i).writes) → ⊥
  loop_no_scalar i p d l e sc h =
      let r = in_unmap (place_at C p) d (entry C i).writes h in
      (I.loops i l e).arrays r.0 r.1 (scalar_name C p r.0.up r.0.owned (subst (λ (a : Place). place_array a ≡ false) (sym r.2) sc))

  no_rest : (i c : ℕ) (p : List Step) (o : O) (u : Task) (d : Place) → IsRest C i p c o → In u o.tasks → place_array d ≡ false → In d (task_writes C u) → ⊥
  no_rest i c p o u d r iu sc h =
      loop_no_scalar i p d r.loop r.loops sc (subst (λ (x : Task). In d (task_writes C x)) (in_rest C i c p o u r iu) h)

  item_again : (j j' : ℕ) (q q' : List Step) → j ≡ j' → q ≡ q' → Item j q 0 ≡ Item j' q' 0
  item_again j j' q q' a b = λ k. Item (a k) (b k) 0

  one_holder : (t u u' : Task) (e : E) (o o' : O) (d : Place) → place_array d ≡ false → Can (code_system C) t e → In o e.opens → In o' e.opens → In u o.tasks → In u' o'.tasks → In d (task_writes C u) → In d (task_writes C u') → u ≡ u'
  one_holder Main u u' e o o' d sc can io io' iu iu' h h' =
      let m = in_block C (0, []) o u (main_opens e o can io) iu in
      let n = in_block C (0, []) o' u' (main_opens e o' can io') iu' in
      let r = named (λ e. e.writes) [] m.0 d (subst (λ (x : Task). In d (task_writes C x)) m.2 h) in
      let s = named (λ e. e.writes) [] n.0 d (subst (λ (x : Task). In d (task_writes C x)) n.2 h') in
      let same : r.0 ≡ s.0 = declared_name C 0 0 [] [] r.0 s.0 (I.script_writes m.0 r.0 m.1 r.1) (I.script_writes n.0 s.0 n.1 s.1) (r.2 ∙ sym s.2) in
      let sr : is_array_name r.0 ≡ false = scalar_name C [] r.0.up r.0.owned (subst (λ (a : Place). place_array a ≡ false) (sym r.2) sc) in
      let ej : m.0 ≡ n.0 = I.one_assigner 0 m.0 n.0 r.0 m.1 n.1 r.1 (subst (λ (z : Name). In z (entry C n.0).writes) (sym same) s.1) sr in
      m.2 ∙ item_again m.0 n.0 [] [] ej refl ∙ sym n.2
  one_holder (Item i p c) u u' e o o' d sc can io io' iu iu' h h' = by (opened C i c p e can o io) (opened C i c p e can o' io')
    where
      by : OpensBlock C i p c (found C can) o ⊎ IsRest C i p c o → OpensBlock C i p c (found C can) o' ⊎ IsRest C i p c o' → u ≡ u'
      by (inr r) x = absurd (no_rest i c p o u d r iu sc h)
      by (inl b) (inr r) = absurd (no_rest i c p o' u' d r iu' sc h')
      by (inl b) (inl b') = by_loop (loop_of (entry C i).act) refl
        where
          m : (j : ℕ) × In j (body C b.instance.0).entries × (u ≡ Item j b.instance.1 0)
          m = in_block C b.instance o u b.is iu

          n : (j : ℕ) × In j (body C b'.instance.0).entries × (u' ≡ Item j b'.instance.1 0)
          n = in_block C b'.instance o' u' b'.is iu'

          r : (r : Name) × In r (entry C m.0).writes × (place_at C b.instance.1 r ≡ d)
          r = named (λ e. e.writes) b.instance.1 m.0 d (subst (λ (x : Task). In d (task_writes C x)) m.2 h)

          s : (r : Name) × In r (entry C n.0).writes × (place_at C b'.instance.1 r ≡ d)
          s = named (λ e. e.writes) b'.instance.1 n.0 d (subst (λ (x : Task). In d (task_writes C x)) n.2 h')

          scalar_r : place_array (place_at C b.instance.1 r.0) ≡ false
          scalar_r = subst (λ (a : Place). place_array a ≡ false) (sym r.2) sc

          scalar_s : place_array (place_at C b'.instance.1 s.0) ≡ false
          scalar_s = subst (λ (a : Place). place_array a ≡ false) (sym s.2) sc

          finish : b.instance.0 ≡ b'.instance.0 → b.instance.1 ≡ b'.instance.1 → r.0 ≡ s.0 → u ≡ u'
          finish eb ep same =
              let jn : In n.0 (body C b.instance.0).entries = subst (λ (z : ℕ). In n.0 (body C z).entries) (sym eb) n.1 in
              let ej : m.0 ≡ n.0 = I.one_assigner b.instance.0 m.0 n.0 r.0 m.1 jn r.1 (subst (λ (z : Name). In z (entry C n.0).writes) (sym same) s.1) (scalar_name C b.instance.1 r.0.up r.0.owned scalar_r) in
              m.2 ∙ item_again m.0 n.0 b.instance.1 b'.instance.1 ej ep ∙ sym n.2

          by_loop : (l : Option Loop) → loop_of (entry C i).act ≡ l → u ≡ u'
          by_loop None el =
              let es = no_loop_one C i c p (found C can) o o' b b' el in
              let eb : b.instance.0 ≡ b'.instance.0 = ap (λ (z : ℕ × List Step). z.0) es in
              let ep : b.instance.1 ≡ b'.instance.1 = ap (λ (z : ℕ × List Step). z.1) es in
              let jn : In n.0 (body C b.instance.0).entries = subst (λ (z : ℕ). In n.0 (body C z).entries) (sym eb) n.1 in
              let s2 : place_at C b.instance.1 s.0 ≡ d = ap (λ (q : List Step). place_at C q s.0) ep ∙ s.2 in
              finish eb ep (names_apart C I i c p can.valid b.by.way b.instance.0 b.by.is_way b.by.key b.instance.1 b.by.path_is m.0 n.0 r.0 s.0 m.1 jn r.1 s.1 (r.2 ∙ sym s2) scalar_r)
          by_loop (Some l) el =
              let dr = loop_declares C I i c p can.valid b.by.way b.instance.0 b.by.is_way b.by.key b.instance.1 b.by.path_is l el m.0 r.0 m.1 r.1 scalar_r in
              let ds = loop_declares C I i c p can.valid b'.by.way b'.instance.0 b'.by.is_way b'.by.key b'.instance.1 b'.by.path_is l el n.0 s.0 n.1 s.1 scalar_s in
              let q = declared_same C b.instance.0 b'.instance.0 b.instance.1 b'.instance.1 r.0 s.0 dr ds (r.2 ∙ sym s.2) in
              let eb : b.instance.0 ≡ b'.instance.0 = I.makes_once b.instance.0 b'.instance.0 ds.variable (subst (λ (z : Variable). In z (body C b.instance.0).makes) (spot_variable q) dr.made) ds.made in
              finish eb (spot_path q) (declared_name C b.instance.0 b'.instance.0 b.instance.1 b'.instance.1 r.0 s.0 dr ds (r.2 ∙ sym s.2))

  holder_last : (t u : Task) (e : E) (o : O) (w : W) → place_array w.place ≡ false → Can (code_system C) t e → In w e.writes → In o e.opens → In u o.tasks → In w.place (task_writes C u) → ⊥
  holder_last Main u e o w sc can iw io iu h = subst (λ (x : E). In w x.writes) (sym (main_is e can)) iw
  holder_last (Item i p c) u e o w sc can iw io iu h =
      by (stores_inv C (entry C i).act (entry C i).node (entry C i).offset p c (found C can) w (subst (λ (x : E). In w x.writes) (sym (effect_is C i c p e can)) iw)) (opened C i c p e can o io)
    where
      by : IntoTarget C (entry C i).act (entry C i).node p w ⊎ Binds C (entry C i).act (entry C i).offset p c (found C can) w → OpensBlock C i p c (found C can) o ⊎ IsRest C i p c o → ⊥
      by (inl t) (inl b) = target_opens_none C (entry C i).act (entry C i).node (entry C i).offset p c (found C can) t.target b.instance t.there b.there
      by (inl t) (inr r) = no_loop_rest C i c p o r (target_no_loop C (entry C i).act (entry C i).node t.target t.there)
      by (inr z) (inr r) = no_rest i c p o u w.place r iu sc h
      by (inr z) (inl b) =
          let at = bound_at C z.loop (entry C i).offset p z.turn w z.bound in
          let m = in_block C b.instance o u b.is iu in
          let r = named (λ e. e.writes) b.instance.1 m.0 w.place (subst (λ (x : Task). In w.place (task_writes C x)) m.2 h) in
          let dr = loop_declares C I i c p can.valid b.by.way b.instance.0 b.by.is_way b.by.key b.instance.1 b.by.path_is z.loop z.loops m.0 r.0 m.1 r.1 (subst (λ (a : Place). place_array a ≡ false) (sym r.2) sc) in
          let q : Datum b.instance.1 dr.variable ≡ Datum (stepped (entry C i).offset z.turn.0 p) at.0 = sym (declared_place C b.instance.0 b.instance.1 r.0 dr) ∙ r.2 ∙ at.2 in
          let ev : dr.variable ≡ at.0 = spot_variable q in
          let made = (I.loops i z.loop z.loops).made at.0 at.1 in
          let eb : b.instance.0 ≡ z.loop.body = I.makes_once b.instance.0 z.loop.body at.0 (subst (λ (x : Variable). In x (body C b.instance.0).makes) ev dr.made) made in
          let jm : In m.0 (body C z.loop.body).entries = subst (λ (x : ℕ). In m.0 (body C x).entries) eb m.1 in
          (I.loops i z.loop z.loops).kept at.0 m.0 at.1 jm (subst (λ (x : Name). In x (entry C m.0).writes) (dr.is ∙ ap here ev) r.1)

  pub code_laws : Laws (code_system C)
  code_laws = record {
    main_valid = refl;
    opened_valid = opened_valid;
    main_writes_nothing = λ a h. h;
    writes_covered = writes_covered;
    reads_covered = λ t i a v h m. reads_covered t i a h m;
    opens_reads = opens_reads;
    opens_covered = opens_covered;
    one_maker = one_maker;
    one_opening = one_opening;
    one_opener = one_opener;
    main_is_first = main_is_first;
    opens_distinct = opens_distinct;
    keys_once = keys_once;
    one_holder = one_holder;
    holder_last = holder_last;
    one_order = one_order;
    can_be_listed = code_listed;
    task_is = task_is;
    place_is = place_is;
    key_is = key_is;
  }
