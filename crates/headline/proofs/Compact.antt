-- What is read off all that a clean script ever knows is read off what it knows after some round: so the code has it, once it has what each half round yields.
use Rattle.std.proofs.Common.{ℕ, List, [], ◌∷◌, max, arith}
use Rattle.std.specs.Prelude.{◌≤◌}
use Rattle.dataflow.specs.System.{Input, StoredScalar, ClosedArray, ElementOf, ElementAt, Answer, Found, Missing, Content, Effect, System}
use Rattle.dataflow.specs.Facts.{Live, live_main, live_opened, Ever}
use Rattle.dataflow.proofs.Frozen.{live_grows}
use Rattle.values.specs.declared.key.Key.{Key}
use Rattle.values.specs.declared.value.Scalar.{Scalar}
use Rattle.language.specs.Core.{Core}
use Rattle.language.specs.Facts.{Knowledge, OneWriter}
use Rattle.language.specs.Meaning.{Known, Meaning}
use Rattle.language.specs.Outcomes.{Clean}
use Rattle.language.specs.Places.{Place}
use Rattle.language.specs.Single.{SinglyAssigned}
use Rattle.language.specs.WellFormed.{WellFormed}
use Rattle.language_laws.proofs.Compact.{closed_round, value_round}
use Rattle.language_laws.proofs.Ever.{grow, closed_full}
use Rattle.language_laws.proofs.Growth.{Grows, keeps_closed, keeps_value}
use Rattle.task_code.specs.Code.{Code}
use Rattle.task_code.specs.Compute.{key_of}
use Rattle.task_code.specs.Effects.{Task}
use Rattle.task_code.specs.Places.{Datum, Constant, Nowhere}
use Rattle.task_code.specs.Places as CodePlaces
use Rattle.task_code.specs.System.{code_system}
use Rattle.headline.specs.Headline.{script_place}
use Rattle.headline.specs.Answered.{ReadAll, Reading, Shown}
use Rattle.headline.specs.Chains.{Has, HasAll, HasElement, Answers}
use Rattle.headline.specs.Halves.{Half, HalfIn}
use Rattle.headline.specs.Inclusions.{Facts}
use Rattle.headline.proofs.Halves.{grows_half, clean_half}

-- WHAT IS READ MORE OFTEN YIELDS MORE

module _ {T D K V E : Type 0} (S : System T D K V E) (R Q : Input D K → Answer K V → Type 0) (up : (i : Input D K) (x : Answer K V) → R i x → Q i x) where
  read_up : (is : List (Input D K)) (xs : List (Answer K V)) → ReadAll S R is xs → ReadAll S Q is xs
  read_up [] [] h = tt
  read_up [] (x ∷ xs) h = absurd h
  read_up (i ∷ is) [] h = absurd h
  read_up (i ∷ is) (x ∷ xs) h = (up i x h.0, read_up is xs h.1)

  reading_up : (t : T) (e : Effect T D K V) → Reading S R t e → Reading S Q t e
  reading_up t e r = record { answers = r.answers; read = read_up (S.inputs t) r.answers r.read; is = r.is }

  pub shown_up : (t : T) (e : Effect T D K V) → Shown S R t e → Shown S Q t e
  shown_up t e f = record { live = live_grows S (Reading S R) (Reading S Q) reading_up f.live; reading = reading_up t e f.reading }

  live_up : {t : T} → Live S (Reading S R) t → Live S (Reading S Q) t
  live_up l = live_grows S (Reading S R) (Reading S Q) reading_up l

-- AN ANSWER IS KEPT AS KNOWLEDGE GROWS

module _ (s : Core) (K K' : Knowledge) (g : Grows s K K') (clean : (a : Place) → OneWriter K' a) where
  has_up : (d : CodePlaces.Place) (v : Scalar) → Has s K d v → Has s K' d v
  has_up (Datum p x) v h = keeps_value s K K' g h
  has_up (Constant c) v h = absurd h
  has_up Nowhere v h = absurd h

  element_up : (d : CodePlaces.Place) (k : Key) (x : Answer Key Scalar) → HasElement s K d k x → HasElement s K' d k x
  element_up (Datum p a) k (Found v) h = record { writer = h.writer; write = g.more _ h.write; only = λ u x f. clean (script_place p a) k u h.writer x v f (g.more _ h.write) }
  element_up (Datum p a) k Missing h = record { closed = keeps_closed s K K' g h.closed; none = λ w v f. h.none w v (g.stays _ h.closed _ w v f) }
  element_up (Datum p a) k (Content xs) h = absurd h
  element_up (Constant c) k x h = absurd h
  element_up Nowhere k x h = absurd h

  all_up : (d : CodePlaces.Place) (x : Answer Key Scalar) → HasAll s K d x → HasAll s K' d x
  all_up (Datum p a) x h =
      let e = h.1 in
      (h.0, record { closed = keeps_closed s K K' g e.closed; in_order = e.in_order; all = λ k w v f. e.all k w v (g.stays _ e.closed k w v f); only = λ k v i. (let z = e.only k v i in (z.0, g.more _ z.1)) }, h.2)
  all_up (Constant c) x h = absurd h
  all_up Nowhere x h = absurd h

  pub answers_up : (i : Input CodePlaces.Place Key) (x : Answer Key Scalar) → Answers s K i x → Answers s K' i x
  answers_up (StoredScalar d) x h = (h.0, has_up d h.0 h.1, h.2)
  answers_up (ClosedArray a) x h = all_up a x h
  answers_up (ElementOf a k) x h = element_up a k x h
  answers_up (ElementAt a d) x h = (h.0, has_up d h.0 h.1, element_up a (key_of h.0) x h.2)

-- AN ANSWER COMES IN A ROUND

module _ (s : Core) (C : Code) (wf : WellFormed s) (single : SinglyAssigned s) (clean : Clean s) where
  has_round : (d : CodePlaces.Place) (v : Scalar) → Has s (Meaning s) d v → (n : ℕ) × Has s (Known s n) d v
  has_round (Datum p x) v h = value_round s (grow s wf single) h
  has_round (Constant c) v h = absurd h
  has_round Nowhere v h = absurd h

  element_round : (d : CodePlaces.Place) (k : Key) (x : Answer Key Scalar) → HasElement s (Meaning s) d k x → (n : ℕ) × HasElement s (Known s n) d k x
  element_round (Datum p a) k (Found v) h = ((h.write).0, record { writer = h.writer; write = (h.write).1; only = λ u x f. h.only u x ((h.write).0, f) })
  element_round (Datum p a) k Missing h = (let c = closed_round s (grow s wf single) h.closed in (c.0, record { closed = c.1; none = λ w v f. h.none w v (c.0, f) }))
  element_round (Datum p a) k (Content xs) h = absurd h
  element_round (Constant c) k x h = absurd h
  element_round Nowhere k x h = absurd h

  -- a closed array has all its elements by then
  all_round : (d : CodePlaces.Place) (x : Answer Key Scalar) → HasAll s (Meaning s) d x → (n : ℕ) × HasAll s (Known s n) d x
  all_round (Datum p a) x h =
      let e = h.1 in
      let c = closed_round s (grow s wf single) e.closed in
      (c.0, (h.0, record { closed = c.1; in_order = e.in_order; all = λ k w v f. e.all k w v (c.0, f); only = λ k v i. (let z = e.only k v i in (z.0, closed_full s wf single c.0 (script_place p a) c.1 k z.0 v z.1)) }, h.2))
  all_round (Constant c) x h = absurd h
  all_round Nowhere x h = absurd h

  later : (n m : ℕ) → n ≤ m → (i : Input CodePlaces.Place Key) (x : Answer Key Scalar) → Answers s (Known s n) i x → Answers s (Known s m) i x
  later n m h = answers_up s (Known s n) (Known s m) (grow s wf single n m h) (clean m)

  answer_round : (i : Input CodePlaces.Place Key) (x : Answer Key Scalar) → Answers s (Meaning s) i x → (n : ℕ) × Answers s (Known s n) i x
  answer_round (StoredScalar d) x h = (let r = has_round d h.0 h.1 in (r.0, (h.0, r.1, h.2)))
  answer_round (ClosedArray a) x h = all_round a x h
  answer_round (ElementOf a k) x h = element_round a k x h
  answer_round (ElementAt a d) x h =
      let r = has_round d h.0 h.1 in
      let q = element_round a (key_of h.0) x h.2 in
      let n = max r.0 q.0 in
      (n, (h.0, has_up s (Known s r.0) (Known s n) (grow s wf single r.0 n (omega arith)) (clean n) d h.0 r.1, element_up s (Known s q.0) (Known s n) (grow s wf single q.0 n (omega arith)) (clean n) a (key_of h.0) x q.1))

  abbrev Read : ℕ → Task → Effect Task CodePlaces.Place Key Scalar → Type 0
  Read n = Reading (code_system C) (Answers s (Known s n))

  read_round : (is : List (Input CodePlaces.Place Key)) (xs : List (Answer Key Scalar)) → ReadAll (code_system C) (Answers s (Meaning s)) is xs → (n : ℕ) × ReadAll (code_system C) (Answers s (Known s n)) is xs
  read_round [] [] h = (0, tt)
  read_round [] (x ∷ xs) h = absurd h
  read_round (i ∷ is) [] h = absurd h
  read_round (i ∷ is) (x ∷ xs) h =
      let a = answer_round i x h.0 in
      let r = read_round is xs h.1 in
      let n = max a.0 r.0 in
      (n, (later a.0 n (omega arith) i x a.1, read_up (code_system C) (Answers s (Known s r.0)) (Answers s (Known s n)) (later r.0 n (omega arith)) is xs r.1))

  reading_round : (t : Task) (e : Effect Task CodePlaces.Place Key Scalar) → Reading (code_system C) (Answers s (Meaning s)) t e → (n : ℕ) × Read n t e
  reading_round t e f = (let r = read_round ((code_system C).inputs t) f.answers f.read in (r.0, record { answers = f.answers; read = r.1; is = f.is }))

  live_later : {t : Task} (n m : ℕ) → n ≤ m → Live (code_system C) (Read n) t → Live (code_system C) (Read m) t
  live_later n m h l = live_up (code_system C) (Answers s (Known s n)) (Answers s (Known s m)) (later n m h) l

  reading_later : (t : Task) (e : Effect Task CodePlaces.Place Key Scalar) (n m : ℕ) → n ≤ m → Read n t e → Read m t e
  reading_later t e n m h f = reading_up (code_system C) (Answers s (Known s n)) (Answers s (Known s m)) (later n m h) t e f

  live_round : {t : Task} → Live (code_system C) (Reading (code_system C) (Answers s (Meaning s))) t → (n : ℕ) × Live (code_system C) (Read n) t
  live_round live_main = (0, live_main)
  live_round (live_opened t u e o l f io iu) =
      let a = live_round l in
      let b = reading_round t e f in
      let n = max a.0 b.0 in
      (n, live_opened t u e o (live_later a.0 n (omega arith) a.1) (reading_later t e b.0 n (omega arith) b.1) io iu)

  -- EACH FACT IS ONE OF SOME ROUND
  pub fact_round : (t : Task) (e : Effect Task CodePlaces.Place Key Scalar) → Facts s C (Meaning s) t e → (n : ℕ) × Facts s C (Known s n) t e
  fact_round t e f =
      let a = live_round f.live in
      let b = reading_round t e f.reading in
      let n = max a.0 b.0 in
      (n, record { live = live_later a.0 n (omega arith) a.1; reading = reading_later t e b.0 n (omega arith) b.1 })

  -- and so of some half round
  pub known_in_half : (n : ℕ) (t : Task) (e : Effect Task CodePlaces.Place Key Scalar) → Facts s C (Known s n) t e → Facts s C (Half s n) t e
  known_in_half n = shown_up (code_system C) (Answers s (Known s n)) (Answers s (Half s n)) (answers_up s (Known s n) (Half s n) (grows_half s wf single n n (omega arith)) (clean_half s wf single n (clean n)))

  pub meaning_in : ((n : ℕ) → HalfIn s C n) → (t : Task) (e : Effect Task CodePlaces.Place Key Scalar) → Facts s C (Meaning s) t e → Ever (code_system C) t e
  meaning_in into t e f = (let r = fact_round t e f in into r.0 t e (known_in_half r.0 t e r.1))
