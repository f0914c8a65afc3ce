-- What an item's being finished in the code comes to: it has no right, or its fact is there, and all blocks that it and its rests open are finished.
use Rattle.std.proofs.Common.{◌≡◌, ◌⊎◌, inl, inr, ℕ, zero, suc, Bool, true, false, List, [], ◌∷◌, map, refl, sym, ap, ◌∙◌, subst, Option, Some, None}
use Rattle.std.specs.Prelude.{take, drop}
use Rattle.dataflow.specs.System.{In, Input, StoredScalar, ClosedArray, ElementOf, ElementAt, Answer, Found, Missing, Content, Effect, Opening, Outcome, Good}
use Rattle.dataflow.specs.Facts as Fa
use Rattle.dataflow.specs.Facts.{idle, done}
use Rattle.dataflow.proofs.Lists.{in_left, in_right, in_map}
use Rattle.values.specs.declared.key.Key.{Key}
use Rattle.values.specs.declared.value.Scalar.{Scalar}
use Rattle.language.specs.Core.{Core}
use Rattle.language.specs.Facts.{element, Knowledge}
use Rattle.language.specs.Places.{Place}
use Rattle.task_code.specs.Code.{Loop, Act, Code, entry, body, loop_of}
use Rattle.task_code.specs.Compute.{Computed, Fails, Gives, Inserts, Takes, Turns, Opens, EntryFault, compute, key_of}
use Rattle.task_code.specs.Effects.{Task, Item, block, effect_at, instances, turns_of, chunk, left_at, is_some_list, rest, rest_if, step_at, outcome_of, limited, is_too_deep}
use Rattle.task_code.specs.Places.{Step, Datum, Constant, Nowhere}
use Rattle.task_code.specs.Places as CodePlaces
use Rattle.task_code.specs.System.{answered, code_system, task_inputs}
use Rattle.task_code.specs.Whole.{IsCode}
use Rattle.task_code.proofs.Equal.{one_order}
use Rattle.task_code.proofs.Kept.{code_laws}
use Rattle.task_code.proofs.Opens.{some_same}
use Rattle.task_code.proofs.Rights.{loop_instances}
use Rattle.headline.specs.Headline.{script_place}
use Rattle.headline.specs.Answered.{Reading}
use Rattle.headline.specs.Knows.{Knows}
use Rattle.headline.specs.Inclusions.{Facts}
use Rattle.headline.specs.Chains.{AllElements, Has, HasElement, HasAll, Answers}
use Rattle.headline.proofs.Transfer.{same_answers}
use Rattle.values.specs.Limits.{chunk_size}

-- LISTS IN CHUNKS

pub split_taken : {X : Type 0} (n : ℕ) (xs : List X) (x : X) → In x xs → In x (take n xs) ⊎ In x (drop n xs)
split_taken n [] x h = absurd h
split_taken zero (y ∷ xs) x h = inr h
split_taken (suc n) (y ∷ xs) x (inl e) = inl (inl e)
split_taken (suc n) (y ∷ xs) x (inr h) = elim (split_taken n xs x h) [ inl m ↦ inl (inr m) | inr m ↦ inr m ]

pub next_left : {X : Type 0} (c : ℕ) (xs : List X) → drop chunk_size (left_at c xs) ≡ left_at (suc c) xs
next_left zero xs = refl
next_left (suc c) xs = next_left c (drop chunk_size xs)

none_left : {X : Type 0} (xs : List X) (x : X) → is_some_list xs ≡ false → In x xs → ⊥
none_left [] x q h = h
none_left (y ∷ xs) x q h = absurd (cc (q))

none_some : {A : Type 0} {x : A} → ◌≡◌ {A = Option A} None (Some x) → ⊥
none_some h = cc

limited_is : (b : Bool) (e e' : Effect Task CodePlaces.Place Key Scalar) → ◌≡◌ {A = Outcome Task CodePlaces.Place Key Scalar EntryFault} (limited b e) (Good e') → e ≡ e'
limited_is true e e' h = absurd (cc (h))
limited_is false e e' h = cc

outcome_is : (x : Computed) (b : Bool) (e e' : Effect Task CodePlaces.Place Key Scalar) → ◌≡◌ {A = Outcome Task CodePlaces.Place Key Scalar EntryFault} (outcome_of x b e) (Good e') → e ≡ e'
outcome_is (Fails f) b e e' h = absurd (cc (h))
outcome_is (Gives v) b e e' h = limited_is b e e' h
outcome_is (Inserts xs) b e e' h = limited_is b e e' h
outcome_is (Takes t) b e e' h = limited_is b e e' h
outcome_is (Turns ts) b e e' h = limited_is b e e' h
outcome_is Opens b e e' h = limited_is b e e' h

-- a block that an item opens from its chunk on, itself or by the rest
pub data InAll (act : Act) (offset : ℕ) (p : List Step) (c : ℕ) (x : Computed) (q : ℕ × List Step) : Type 0 where
  now_opened : In q (instances act offset p c x) → InAll act offset p c x q
  rest_opened : (lp : Loop) (y : Key × Scalar) → loop_of act ≡ Some lp → In y (left_at (suc c) (turns_of x)) → q ≡ (lp.body, step_at offset y.0 p) → InAll act offset p c x q

-- every turn of a loop is in its first chunk or in the rest
pub turn_in_all : (C : Code) (act : Act) (offset : ℕ) (p : List Step) (x : Computed) (lp : Loop) → loop_of act ≡ Some lp → (y : Key × Scalar) → In y (turns_of x) → InAll act offset p 0 x (lp.body, step_at offset y.0 p)
turn_in_all C act offset p x lp q y h =
    elim (split_taken chunk_size (turns_of x) y h) [
      | inl m ↦ now_opened (subst (λ (l : List (ℕ × List Step)). In (lp.body, step_at offset y.0 p) l) (sym (loop_instances C act lp offset p 0 x q)) (in_map (λ (u : Key × Scalar). (lp.body, step_at offset u.0 p)) y (chunk 0 (turns_of x)) m))
      | inr m ↦ rest_opened lp y q m refl
    ]

module _ (s : Core) (C : Code) (K : Knowledge) (kn : Knows s K) (I : IsCode C) where
  -- ONE ANSWER
  same_all : {a : Place} {xs ys : List (Key × Scalar)} → AllElements s K a xs → AllElements s K a ys → xs ≡ ys
  same_all {xs = xs} {ys = ys} f g = one_order xs ys f.in_order g.in_order (λ p i. (let z = f.only p.0 p.1 i in g.all p.0 z.0 p.1 z.1)) (λ p i. (let z = g.only p.0 p.1 i in f.all p.0 z.0 p.1 z.1))

  one_scalar : (d : CodePlaces.Place) (v u : Scalar) → Has s K d v → Has s K d u → v ≡ u
  one_scalar (Datum p x) v u h g = kn.one_scalar (script_place p x) v u h g
  one_scalar (Constant c) v u h g = absurd h
  one_scalar Nowhere v u h g = absurd h

  one_element : (a : CodePlaces.Place) (k : Key) (x y : Answer Key Scalar) → HasElement s K a k x → HasElement s K a k y → x ≡ y
  one_element (Datum p v) k (Found x) (Found y) f g =
      let e : f.writer ≡ g.writer = g.only f.writer x f.write in
      ap Found (kn.one_element (script_place p v) k g.writer x y (subst (λ (w : Place). K (element (script_place p v) k w x)) e f.write) g.write)
  one_element (Datum p v) k (Found x) Missing f g = absurd (g.none f.writer x f.write)
  one_element (Datum p v) k (Found x) (Content ys) f g = absurd g
  one_element (Datum p v) k Missing (Found y) f g = absurd (f.none g.writer y g.write)
  one_element (Datum p v) k Missing Missing f g = refl
  one_element (Datum p v) k Missing (Content ys) f g = absurd g
  one_element (Datum p v) k (Content xs) y f g = absurd f
  one_element (Constant c) k x y f g = absurd f
  one_element Nowhere k x y f g = absurd f

  one_all : (a : CodePlaces.Place) (x y : Answer Key Scalar) → HasAll s K a x → HasAll s K a y → x ≡ y
  one_all (Datum p v) x y f g = f.2 ∙ ap Content (same_all f.1 g.1) ∙ sym g.2
  one_all (Constant c) x y f g = absurd f
  one_all Nowhere x y f g = absurd f

  pub one_answer : (i : Input CodePlaces.Place Key) (x y : Answer Key Scalar) → Answers s K i x → Answers s K i y → x ≡ y
  one_answer (StoredScalar d) x y f g = f.2 ∙ ap Found (one_scalar d f.0 g.0 f.1 g.1) ∙ sym g.2
  one_answer (ClosedArray a) x y f g = one_all a x y f g
  one_answer (ElementOf a k) x y f g = one_element a k x y f g
  one_answer (ElementAt a d) x y f g = one_element a (key_of f.0) x y f.2 (subst (λ (v : Scalar). HasElement s K a (key_of v) y) (sym (one_scalar d f.0 g.0 f.1 g.1)) g.2)

  -- what the entry of an item computes, by its reading
  abbrev pub computes_by : {i c : ℕ} {p : List Step} {e : Effect Task CodePlaces.Place Key Scalar} → Reading (code_system C) (Answers s K) (Item i p c) e → Computed
  computes_by {i} {c} {p} f = compute (entry C i).act (answered C p (entry C i).needs f.answers)

  pub one_computed : {i c d : ℕ} {p : List Step} {e e' : Effect Task CodePlaces.Place Key Scalar} (f : Reading (code_system C) (Answers s K) (Item i p c) e) (g : Reading (code_system C) (Answers s K) (Item i p d) e') → computes_by f ≡ computes_by g
  one_computed {i} {c} {d} {p} f g =
      ap (λ (l : List (Answer Key Scalar)). compute (entry C i).act (answered C p (entry C i).needs l)) (same_answers (code_system C) (code_laws C I) (Answers s K) one_answer (task_inputs C (Item i p 0)) f.answers g.answers f.read g.read)

  pub effect_by : {i c : ℕ} {p : List Step} {e : Effect Task CodePlaces.Place Key Scalar} (f : Reading (code_system C) (Answers s K) (Item i p c) e) → effect_at C i p c (computes_by f) ≡ e
  effect_by {i} {c} {p} {e} f = outcome_is (computes_by f) (is_too_deep (entry C i).act p (instances (entry C i).act (entry C i).offset p c (computes_by f))) (effect_at C i p c (computes_by f)) e f.is

  module _ (a : CodePlaces.Place) (G : ℕ → List Step → Type 0) where
    pub record DoneBy (i : ℕ) (p : List Step) (c : ℕ) : Type 0 where
      pub effect : Effect Task CodePlaces.Place Key Scalar
      pub fact : Facts s C K (Item i p c) effect
      pub below : (q : ℕ × List Step) → InAll (entry C i).act (entry C i).offset p c (computes_by fact.reading) q → (j : ℕ) → In j (body C q.0).entries → G j q.1

    abbrev pub Step_ : ℕ → List Step → ℕ → Type 0
    Step_ i p c = (In a ((code_system C).may_write (Item i p 0)) → ⊥) ⊎ DoneBy i p c

    module _ (close : (i : ℕ) (p : List Step) → Step_ i p 0 → G i p) where
      opens_now : {i c : ℕ} {p : List Step} {e : Effect Task CodePlaces.Place Key Scalar} (f : Facts s C K (Item i p c) e) (q : ℕ × List Step) → In q (instances (entry C i).act (entry C i).offset p c (computes_by f.reading)) → In (block C q) e.opens
      opens_now {i} {c} {p} f q h =
          subst (λ (z : Effect Task CodePlaces.Place Key Scalar). In (block C q) z.opens) (effect_by f.reading)
          (in_left (block C q) (map (block C) (instances (entry C i).act (entry C i).offset p c (computes_by f.reading))) _ (in_map (block C) q (instances (entry C i).act (entry C i).offset p c (computes_by f.reading)) h))

      rest_now : {i c : ℕ} {p : List Step} {e : Effect Task CodePlaces.Place Key Scalar} (f : Facts s C K (Item i p c) e) (lp : Loop) → loop_of (entry C i).act ≡ Some lp → is_some_list (left_at (suc c) (turns_of (computes_by f.reading))) ≡ true → In (record { makes = []; tasks = Item i p (suc c) ∷ [] }) e.opens
      rest_now {i} {c} {p} f lp q h =
          subst (λ (z : Effect Task CodePlaces.Place Key Scalar). In (record { makes = []; tasks = Item i p (suc c) ∷ [] }) z.opens) (effect_by f.reading)
          (in_right _ (map (block C) (instances (entry C i).act (entry C i).offset p c (computes_by f.reading))) _
          (subst (λ (o : Option Loop). In (record { makes = []; tasks = Item i p (suc c) ∷ [] }) (rest o i p c (computes_by f.reading))) (sym q)
          (subst (λ (b : Bool). In (record { makes = []; tasks = Item i p (suc c) ∷ [] }) (rest_if b i p c)) (sym h) (inl refl))))

      abbrev Below : List Step → ℕ → (e : Effect Task CodePlaces.Place Key Scalar) → Type 0
      Below p i e = (o : Opening Task CodePlaces.Place) → In o e.opens → (j c : ℕ) (q : List Step) → In (Item j q c) o.tasks → Step_ j q c

      -- what is done, by what its openings come to
      done_step : (i c : ℕ) (p : List Step) (e : Effect Task CodePlaces.Place Key Scalar) (f : Facts s C K (Item i p c) e) → Below p i e → Step_ i p c
      done_step i c p e f rec = by_loop (loop_of (entry C i).act) refl
        where
          X : Computed
          X = computes_by f.reading

          at_once : (q : ℕ × List Step) → In q (instances (entry C i).act (entry C i).offset p c (computes_by f.reading)) → (j : ℕ) → In j (body C q.0).entries → G j q.1
          at_once q h j m = close j q.1 (rec (block C q) (opens_now f q h) j 0 q.1 (in_map (λ (z : ℕ). Item z q.1 0) j (body C q.0).entries m))

          with_rest : (lp : Loop) → loop_of (entry C i).act ≡ Some lp → DoneBy i p (suc c) → (y : Key × Scalar) → In y (left_at (suc c) (turns_of (computes_by f.reading))) → (j : ℕ) → In j (body C lp.body).entries → G j (step_at (entry C i).offset y.0 p)
          with_rest lp q d y h j m =
              let same : computes_by f.reading ≡ computes_by (d.fact).reading = one_computed f.reading (d.fact).reading in
              let h' : In y (left_at (suc c) (turns_of (computes_by (d.fact).reading))) = subst (λ (z : Computed). In y (left_at (suc c) (turns_of z))) same h in
              d.below (lp.body, step_at (entry C i).offset y.0 p) (elim (split_taken chunk_size (left_at (suc c) (turns_of (computes_by (d.fact).reading))) y h') [
                | inl n ↦ now_opened (subst (λ (l : List (ℕ × List Step)). In (lp.body, step_at (entry C i).offset y.0 p) l) (sym (loop_instances C (entry C i).act lp (entry C i).offset p (suc c) (computes_by (d.fact).reading) q))
                    (in_map (λ (u : Key × Scalar). (lp.body, step_at (entry C i).offset u.0 p)) y (chunk (suc c) (turns_of (computes_by (d.fact).reading))) n))
                | inr n ↦ rest_opened lp y q (subst (λ (l : List (Key × Scalar)). In y l) (next_left (suc c) (turns_of (computes_by (d.fact).reading))) n) refl
              ]) j m

          by_rest : (lp : Loop) → loop_of (entry C i).act ≡ Some lp → (b : Bool) → is_some_list (left_at (suc c) (turns_of (computes_by f.reading))) ≡ b → Step_ i p c
          by_rest lp q false z = inr (record { effect = e; fact = f; below = λ u h. by u h })
            where
              by : (u : ℕ × List Step) → InAll (entry C i).act (entry C i).offset p c (computes_by f.reading) u → (j : ℕ) → In j (body C u.0).entries → G j u.1
              by u (now_opened h) j m = at_once u h j m
              by u (rest_opened l y e' h r) j m = absurd (none_left _ y z h)
          by_rest lp q true z =
              elim (rec (record { makes = []; tasks = Item i p (suc c) ∷ [] }) (rest_now f lp q z) i (suc c) p (inl refl)) [
                | inl z ↦ inl z
                | inr d ↦ inr (record { effect = e; fact = f; below = λ u h. by d u h })
              ]
            where
              by : DoneBy i p (suc c) → (u : ℕ × List Step) → InAll (entry C i).act (entry C i).offset p c (computes_by f.reading) u → (j : ℕ) → In j (body C u.0).entries → G j u.1
              by d u (now_opened h) j m = at_once u h j m
              by d u (rest_opened l y e' h r) j m =
                  let same : lp ≡ l = some_same (sym q ∙ e') in
                  let r' : u ≡ (lp.body, step_at (entry C i).offset y.0 p) = r ∙ ap (λ (z : Loop). (z.body, step_at (entry C i).offset y.0 p)) (sym same) in
                  subst (λ (z : ℕ × List Step). G j z.1) (sym r') (with_rest lp q d y h j (subst (λ (z : ℕ × List Step). In j (body C z.0).entries) r' m))

          by_loop : (l : Option Loop) → loop_of (entry C i).act ≡ l → Step_ i p c
          by_loop (Some lp) q = by_rest lp q (is_some_list (left_at (suc c) (turns_of (computes_by f.reading)))) refl
          by_loop None q = inr (record { effect = e; fact = f; below = λ u h. by u h })
            where
              by : (u : ℕ × List Step) → InAll (entry C i).act (entry C i).offset p c (computes_by f.reading) u → (j : ℕ) → In j (body C u.0).entries → G j u.1
              by u (now_opened h) j m = at_once u h j m
              by u (rest_opened l y e' h r) j m = absurd (none_some (sym q ∙ e'))

      -- WHAT BEING FINISHED COMES TO
      pub finished_step : {u : Task} → Fa.Finished (code_system C) (Facts s C K) a u → (i c : ℕ) (p : List Step) → u ≡ Item i p c → Step_ i p c
      finished_step (idle h) i c p q = inl (λ m. h (subst (λ (z : Task). In a ((code_system C).may_write z)) (sym q) m))
      finished_step (done {e = e} f rec) i c p q =
          done_step i c p e (subst (λ (z : Task). Facts s C K z e) q f) (λ o io j d r m. finished_step (rec o (Item j r d) io m) j d r refl)

      pub item_closes : (i : ℕ) (p : List Step) → Fa.Finished (code_system C) (Facts s C K) a (Item i p 0) → G i p
      item_closes i p h = close i p (finished_step h i 0 p refl)
