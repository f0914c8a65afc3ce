-- From the lemmas to the first inclusion: all that the code ever knows is what the script's answers yield.
use Rattle.std.proofs.Common.{◌≡◌, inl, inr, Bool, true, false, List, refl, sym, ap, ◌∙◌, subst}
use Rattle.dataflow.specs.System.{In, Input, StoredScalar, ClosedArray, ElementOf, ElementAt, Answer, Found, Missing, Content, Effect, reads_of}
use Rattle.dataflow.specs.Facts as Fa
use Rattle.dataflow.specs.Facts.{Written, OneWriter, Gives, GivesElement, Ever, Clean}
use Rattle.values.specs.declared.key.Key.{Key}
use Rattle.values.specs.declared.value.Scalar.{Scalar}
use Rattle.language.specs.Core.{Core}
use Rattle.language.specs.Facts.{element, Knowledge}
use Rattle.language.specs.Meaning.{HasValue}
use Rattle.language.specs.Places.{Place}
use Rattle.task_code.specs.Code.{Variable, Code}
use Rattle.task_code.specs.Compute.{key_of}
use Rattle.task_code.specs.Effects.{Task, only}
use Rattle.task_code.specs.Places.{Step, Datum, Constant, Nowhere, place_array}
use Rattle.task_code.specs.Places as CodePlaces
use Rattle.task_code.specs.System.{code_system}
use Rattle.task_code.specs.Whole.{IsCode}
use Rattle.task_code.proofs.Equal.{one_order}
use Rattle.task_code.proofs.Kept.{code_laws}
use Rattle.task_code.proofs.Places.{spot_path, spot_variable, not_constant, not_nowhere}
use Rattle.headline.specs.Headline.{script_place}
use Rattle.headline.specs.Answered.{IsRight}
use Rattle.headline.specs.Knows as Know
use Rattle.headline.specs.Inclusions.{Facts, LiveTask, Knows, IsRead, WrittenTo, WrittenFrom, ClosedTo, ClosedFrom, IsDatumOf, FitsKind, InputsFit, ArraysOnce}
use Rattle.headline.specs.Chains.{AllElements, Has, HasElement, HasAll, Answers}
use Rattle.headline.proofs.Transfer.{ever_shown, clean_shown, shown_writer, reading_valid}

module _ (s : Core) (C : Code) (I : IsCode C) (K : Knowledge) (kn : Know.Knows s K)
    (written_to : WrittenTo s C K) (written_from : WrittenFrom s C K) (closed_to : ClosedTo s C K) (closed_from : ClosedFrom s C K) (fits : InputsFit s C K) (once : ArraysOnce s C K) where
  -- ONE ANSWER
  found_same : {v u : Scalar} → ◌≡◌ {A = Answer Key Scalar} (Found v) (Found u) → v ≡ u
  found_same h = cc

  same_all : {a : Place} {xs ys : List (Key × Scalar)} → AllElements s K a xs → AllElements s K a ys → xs ≡ ys
  same_all {xs = xs} {ys = ys} f g = one_order xs ys f.in_order g.in_order (λ p i. (let z = f.only p.0 p.1 i in g.all p.0 z.0 p.1 z.1)) (λ p i. (let z = g.only p.0 p.1 i in f.all p.0 z.0 p.1 z.1))

  one_scalar : (d : CodePlaces.Place) (v u : Scalar) → Has s K d v → Has s K d u → v ≡ u
  one_scalar (Datum p x) v u h g = kn.one_scalar (script_place p x) v u h g
  one_scalar (Constant c) v u h g = absurd h
  one_scalar Nowhere v u h g = absurd h

  one_element : (a : CodePlaces.Place) (k : Key) (x y : Answer Key Scalar) → HasElement s K a k x → HasElement s K a k y → x ≡ y
  one_element (Datum p v) k (Found x) (Found y) f g =
      let e : f.writer ≡ g.writer = g.only f.writer x f.write in
      ap Found (kn.one_element (script_place p v) k g.writer x y (subst (λ (w : Place). K (element (script_place p v) k w x)) e f.write) g.write)
  one_element (Datum p v) k (Found x) Missing f g = absurd (g.none f.writer x f.write)
  one_element (Datum p v) k (Found x) (Content ys) f g = absurd g
  one_element (Datum p v) k Missing (Found y) f g = absurd (f.none g.writer y g.write)
  one_element (Datum p v) k Missing Missing f g = refl
  one_element (Datum p v) k Missing (Content ys) f g = absurd g
  one_element (Datum p v) k (Content xs) y f g = absurd f
  one_element (Constant c) k x y f g = absurd f
  one_element Nowhere k x y f g = absurd f

  one_all : (a : CodePlaces.Place) (x y : Answer Key Scalar) → HasAll s K a x → HasAll s K a y → x ≡ y
  one_all (Datum p v) x y f g = f.2 ∙ ap Content (same_all f.1 g.1) ∙ sym g.2
  one_all (Constant c) x y f g = absurd f
  one_all Nowhere x y f g = absurd f

  one_answer : (i : Input CodePlaces.Place Key) (x y : Answer Key Scalar) → Answers s K i x → Answers s K i y → x ≡ y
  one_answer (StoredScalar d) x y f g = f.2 ∙ ap Found (one_scalar d f.0 g.0 f.1 g.1) ∙ sym g.2
  one_answer (ClosedArray a) x y f g = one_all a x y f g
  one_answer (ElementOf a k) x y f g = one_element a k x y f g
  one_answer (ElementAt a d) x y f g = one_element a (key_of f.0) x y f.2 (subst (λ (v : Scalar). HasElement s K a (key_of v) y) (sym (one_scalar d f.0 g.0 f.1 g.1)) g.2)

  -- WRITTEN, AT A DATUM
  to_at : (p : List Step) (v : Variable) (key : Key) (x : Scalar) → Written (code_system C) (Facts s C K) (Datum p v) key x → Knows s C K v.array (script_place p v) key x
  to_at p v key x h =
      let r = written_to (Datum p v) key x h in
      subst (λ (z : Variable). Knows s C K z.array (script_place p z) key x) (sym (spot_variable r.2)) (subst (λ (z : List Step). Knows s C K r.1.array (script_place z r.1) key x) (sym (spot_path r.2)) r.3)

  to_element : (p : List Step) (v : Variable) → v.array ≡ true → (key : Key) (x : Scalar) → Written (code_system C) (Facts s C K) (Datum p v) key x → (u : Place) × K (element (script_place p v) key u x)
  to_element p v q key x h = subst (λ (b : Bool). Knows s C K b (script_place p v) key x) q (to_at p v key x h)

  to_scalar : (p : List Step) (v : Variable) → v.array ≡ false → (key : Key) (x : Scalar) → Written (code_system C) (Facts s C K) (Datum p v) key x → (key ≡ only) × HasValue s K (script_place p v) x
  to_scalar p v q key x h = subst (λ (b : Bool). Knows s C K b (script_place p v) key x) q (to_at p v key x h)

  from_element : (p : List Step) (v : Variable) → v.array ≡ true → IsRead s C K (Datum p v) → (key : Key) (u : Place) (x : Scalar) → K (element (script_place p v) key u x) → Written (code_system C) (Facts s C K) (Datum p v) key x
  from_element p v q r key u x h = written_from p v key x r (subst (λ (b : Bool). Knows s C K b (script_place p v) key x) (sym q) (u, h))

  from_scalar : (p : List Step) (v : Variable) → v.array ≡ false → IsRead s C K (Datum p v) → (x : Scalar) → HasValue s K (script_place p v) x → Written (code_system C) (Facts s C K) (Datum p v) only x
  from_scalar p v q r x h = written_from p v only x r (subst (λ (b : Bool). Knows s C K b (script_place p v) only x) (sym q) (refl, h))

  abbrev R : Input CodePlaces.Place Key → Answer Key Scalar → Type 0
  R i x = Answers s K i x

  one_writer : (a : CodePlaces.Place) → OneWriter (code_system C) (Facts s C K) a
  one_writer a = shown_writer (code_system C) (code_laws C I) (Answers s K) one_answer arrays a
    where
      arrays : (a : CodePlaces.Place) → place_array a ≡ true → OneWriter (code_system C) (Facts s C K) a
      arrays (Datum p v) h = once p v h
      arrays (Constant c) h = λ k x y f g. (let z = written_to (Constant c) k x f in absurd (not_constant z.2))
      arrays Nowhere h = λ k x y f g. (let z = written_to Nowhere k x f in absurd (not_nowhere z.2))

  -- FROM THE SCRIPT'S ANSWERS TO THE CODE'S
  value_given : (d : CodePlaces.Place) → IsDatumOf s C K false d → IsRead s C K d → (v : Scalar) → Has s K d v → Fa.HasValue (code_system C) (Facts s C K) d only v
  value_given d z r v h =
      let p = z.0 in
      let x = z.1 in
      let h' : HasValue s K (script_place p x) v = subst (λ (y : CodePlaces.Place). Has s K y v) z.2 h in
      let f = from_scalar p x z.3 (subst (λ (y : CodePlaces.Place). IsRead s C K y) z.2 r) v h' in
      subst (λ (y : CodePlaces.Place). Fa.HasValue (code_system C) (Facts s C K) y only v) (sym z.2) (record { written = f; one_writer = λ u g. one_writer (Datum p x) only u v g f })

  closed_given : (p : List Step) (v : Variable) → v.array ≡ true → IsRead s C K (Datum p v) → (xs : List (Key × Scalar)) → AllElements s K (script_place p v) xs → Fa.IsContent (code_system C) (Facts s C K) (Datum p v) xs
  closed_given p v q r xs h = record {
    closed = closed_from p v q r h.closed;
    in_order = h.in_order;
    all = λ k x f. (let z = to_element p v q k x f in h.all k z.0 x z.1);
    only = λ k x i. (let z = h.only k x i in from_element p v q r k z.0 x z.1);
  }

  element_given : (a : CodePlaces.Place) → IsDatumOf s C K true a → IsRead s C K a → (k : Key) (y : Answer Key Scalar) → HasElement s K a k y → GivesElement (code_system C) (Facts s C K) a k y
  element_given a z r k y h =
      subst (λ (d : CodePlaces.Place). GivesElement (code_system C) (Facts s C K) d k y) (sym z.2) (by y (subst (λ (d : CodePlaces.Place). HasElement s K d k y) z.2 h))
    where
      r' : IsRead s C K (Datum z.0 z.1)
      r' = subst (λ (d : CodePlaces.Place). IsRead s C K d) z.2 r

      by : (y : Answer Key Scalar) → HasElement s K (Datum z.0 z.1) k y → GivesElement (code_system C) (Facts s C K) (Datum z.0 z.1) k y
      by (Found x) h = (let f = from_element z.0 z.1 z.3 r' k h.writer x h.write in record { written = f; one_writer = λ u g. one_writer (Datum z.0 z.1) k u x g f })
      by Missing h = record { closed = closed_from z.0 z.1 z.3 r' h.closed; none = λ v f. (let g = to_element z.0 z.1 z.3 k v f in h.none g.0 v g.1) }
      by (Content xs) h = absurd h

  answers_given : (i : Input CodePlaces.Place Key) → FitsKind s C K i → ((a : CodePlaces.Place) → In a (reads_of i) → IsRead s C K a) → (x : Answer Key Scalar) → Answers s K i x → Gives (code_system C) (Facts s C K) i x
  answers_given (StoredScalar d) z r x h = (h.0, value_given d z (r d (inl refl)) h.0 h.1, h.2)
  answers_given (ClosedArray a) z r x h =
      let h' = subst (λ (d : CodePlaces.Place). HasAll s K d x) z.2 h in
      subst (λ (d : CodePlaces.Place). Gives (code_system C) (Facts s C K) (ClosedArray d) x) (sym z.2)
      (h'.0, closed_given z.0 z.1 z.3 (subst (λ (d : CodePlaces.Place). IsRead s C K d) z.2 (r a (inl refl))) h'.0 h'.1, h'.2)
  answers_given (ElementOf a k) z r x h = element_given a z (r a (inl refl)) k x h
  answers_given (ElementAt a d) z r x h = (h.0, value_given d z.1 (r d (inr (inl refl))) h.0 h.1, element_given a z.0 (r a (inl refl)) (key_of h.0) x h.2)

  -- AND BACK
  value_taken : (d : CodePlaces.Place) → IsDatumOf s C K false d → (v : Scalar) → Fa.HasValue (code_system C) (Facts s C K) d only v → Has s K d v
  value_taken d z v h =
      subst (λ (y : CodePlaces.Place). Has s K y v) (sym z.2) (to_scalar z.0 z.1 z.3 only v (subst (λ (y : CodePlaces.Place). Fa.HasValue (code_system C) (Facts s C K) y only v) z.2 h).written).1

  closed_taken : (p : List Step) (v : Variable) → v.array ≡ true → IsRead s C K (Datum p v) → (xs : List (Key × Scalar)) → Fa.IsContent (code_system C) (Facts s C K) (Datum p v) xs → AllElements s K (script_place p v) xs
  closed_taken p v q r xs h = record {
    closed = closed_to p v q h.closed;
    in_order = h.in_order;
    all = λ k w x f. h.all k x (from_element p v q r k w x f);
    only = λ k x i. to_element p v q k x (h.only k x i);
  }

  element_taken : (a : CodePlaces.Place) → IsDatumOf s C K true a → IsRead s C K a → (k : Key) (y : Answer Key Scalar) → GivesElement (code_system C) (Facts s C K) a k y → HasElement s K a k y
  element_taken a z r k y h =
      subst (λ (d : CodePlaces.Place). HasElement s K d k y) (sym z.2) (by y (subst (λ (d : CodePlaces.Place). GivesElement (code_system C) (Facts s C K) d k y) z.2 h))
    where
      r' : IsRead s C K (Datum z.0 z.1)
      r' = subst (λ (d : CodePlaces.Place). IsRead s C K d) z.2 r

      by : (y : Answer Key Scalar) → GivesElement (code_system C) (Facts s C K) (Datum z.0 z.1) k y → HasElement s K (Datum z.0 z.1) k y
      by (Found x) h = (let g = to_element z.0 z.1 z.3 k x h.written in record { writer = g.0; write = g.1; only = λ w u f. kn.one_writer (script_place z.0 z.1) k w g.0 u x f g.1 })
      by Missing h = record { closed = closed_to z.0 z.1 z.3 h.closed; none = λ w v f. h.none v (from_element z.0 z.1 z.3 r' k w v f) }
      by (Content xs) h = absurd h

  answers_taken : (i : Input CodePlaces.Place Key) → FitsKind s C K i → ((a : CodePlaces.Place) → In a (reads_of i) → IsRead s C K a) → (x : Answer Key Scalar) → Gives (code_system C) (Facts s C K) i x → Answers s K i x
  answers_taken (StoredScalar d) z r x h = (h.0, value_taken d z h.0 h.1, h.2)
  answers_taken (ClosedArray a) z r x h =
      let h' = subst (λ (d : CodePlaces.Place). Gives (code_system C) (Facts s C K) (ClosedArray d) x) z.2 h in
      subst (λ (d : CodePlaces.Place). HasAll s K d x) (sym z.2)
      (h'.0, closed_taken z.0 z.1 z.3 (subst (λ (d : CodePlaces.Place). IsRead s C K d) z.2 (r a (inl refl))) h'.0 h'.1, h'.2)
  answers_taken (ElementOf a k) z r x h = element_taken a z (r a (inl refl)) k x h
  answers_taken (ElementAt a d) z r x h = (h.0, value_taken d z.1 h.0 h.1, element_taken a z.0 (r a (inl refl)) (key_of h.0) x h.2)

  read_by : (t : Task) (i : Input CodePlaces.Place Key) → LiveTask s C K t → In i ((code_system C).inputs t) → (a : CodePlaces.Place) → In a (reads_of i) → IsRead s C K a
  read_by t i lv m a h = (t, lv, (code_laws C I).reads_covered t i a (reading_valid (code_system C) (code_laws C I) (Answers s K) lv) m h)

  -- THE SCRIPT'S READING OF THE CODE'S INPUTS IS RIGHT
  pub right : IsRight (code_system C) (Answers s K)
  right = record {
    one = one_answer;
    to = λ t i x lv m h. answers_given i (fits t i lv m) (read_by t i lv m) x h;
    from = λ t i x lv m h. answers_taken i (fits t i lv m) (read_by t i lv m) x h;
    arrays = λ a h. one_writer a;
  }

  -- THE CODE WITHIN THE SCRIPT
  pub code_within_script : (t : Task) (e : Effect Task CodePlaces.Place Key Scalar) → Ever (code_system C) t e → Facts s C K t e
  code_within_script t e x = ever_shown (code_system C) (code_laws C I) (Answers s K) right t e x

  pub code_clean : Clean (code_system C)
  code_clean = clean_shown (code_system C) (code_laws C I) (Answers s K) right
