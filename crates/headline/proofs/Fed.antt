-- What feeds the code's meaning: an array that is closed by facts that the code comes to, whose writes to it the script knows, is answered by the code as by the script.
use Rattle.std.proofs.Common.{◌≡◌, inl, inr, List, [], ◌∷◌, refl}
use Rattle.dataflow.specs.System.{In, Input, ClosedArray, ElementOf, Answer, Missing, Content, Effect, Good}
use Rattle.dataflow.specs.Facts as Fa
use Rattle.dataflow.specs.Facts.{Live, live_main, live_opened, Written, Ever}
use Rattle.dataflow.proofs.Ever.{ever_settled, ever_saturated}
use Rattle.dataflow.proofs.Frozen.{Within, finished_grows, made_grows, written_grows, frozen_write}
use Rattle.dataflow.proofs.Settled.{Settled, settled_grounded}
use Rattle.values.specs.declared.key.Key.{Key}
use Rattle.values.specs.declared.value.Scalar.{Scalar}
use Rattle.language.specs.Core.{Core}
use Rattle.language.specs.Facts.{element, Knowledge}
use Rattle.language.specs.Places.{Place}
use Rattle.task_code.specs.Code.{Variable, Code}
use Rattle.task_code.specs.Effects.{Task}
use Rattle.task_code.specs.Machine.{CleanCode}
use Rattle.task_code.specs.Places.{Step, Datum}
use Rattle.task_code.specs.Places as CodePlaces
use Rattle.task_code.specs.System.{code_system}
use Rattle.task_code.specs.Whole.{IsCode}
use Rattle.task_code.proofs.Kept.{code_laws}
use Rattle.headline.specs.Headline.{script_place}
use Rattle.headline.specs.Answered.{ReadAll}
use Rattle.headline.specs.Chains.{AllElements, Lacks, Answers}

abbrev pub TaskEffect : Type 0
TaskEffect = Effect Task CodePlaces.Place Key Scalar

abbrev Got : Type 0
Got = Answer Key Scalar

-- a fact, each of whose writes to the array is an element that is known there
abbrev pub WritesKnown : Knowledge → (Task → Effect Task CodePlaces.Place Key Scalar → Type 0) → List Step → Variable → Task → Effect Task CodePlaces.Place Key Scalar → Type 0
WritesKnown K F p v t e = F t e × ((k : Key) (x : Scalar) → In (record { place = Datum p v; key = k; value = x }) e.writes → (writer : Place) × K (element (script_place p v) k writer x))

module _ (s : Core) (C : Code) (I : IsCode C) (clean : CleanCode C) (K : Knowledge) where
  abbrev pub Comes_to : Task → TaskEffect → Type 0
  Comes_to = Ever (code_system C)

  pub settled : Settled (code_system C) (Ever (code_system C))
  settled = ever_settled (code_system C) (code_laws C I) clean

  pub come : (t : Task) (e : TaskEffect) (xs : List Got) → Live (code_system C) (Ever (code_system C)) t → Fa.GivesAll (code_system C) (Ever (code_system C)) ((code_system C).inputs t) xs → (code_system C).effect t xs ≡ Good e → Comes_to t e
  come t e xs l g q = ever_saturated (code_system C) (code_laws C I) clean t e (record { live = l; answers = xs; known = g; is = q })

  -- INPUTS THAT THE SCRIPT ANSWERS AND THE CODE COMES TO
  pub given : (is : List (Input CodePlaces.Place Key)) → ((i : Input CodePlaces.Place Key) → In i is → (x : Got) → Answers s K i x → Fa.Gives (code_system C) (Ever (code_system C)) i x) → (xs : List Got) → ReadAll (code_system C) (Answers s K) is xs → Fa.GivesAll (code_system C) (Ever (code_system C)) is xs
  given [] f [] h = tt
  given [] f (x ∷ xs) h = absurd h
  given (i ∷ is) f [] h = absurd h
  given (i ∷ is) f (x ∷ xs) h = (f i (inl refl) x h.0, given is (λ j m. f j (inr m)) xs h.1)

  -- AN ARRAY THAT IS CLOSED BY FACTS WHOSE WRITES TO IT ARE KNOWN
  module _ (F : Task → TaskEffect → Type 0) (into : Within F (Ever (code_system C))) (p : List Step) (v : Variable) where
    abbrev Known_ : Task → TaskEffect → Type 0
    Known_ = WritesKnown K F p v

    within : Within Known_ (Ever (code_system C))
    within t e f = into t e f.0

    -- no more is ever written to it
    pub known_write : Fa.Closed (code_system C) Known_ (Datum p v) → (k : Key) (x : Scalar) → Written (code_system C) (Ever (code_system C)) (Datum p v) k x → (w : Place) × K (element (script_place p v) k w x)
    known_write c k x y =
        let z = frozen_write (code_system C) Known_ (Ever (code_system C)) within (code_laws C I) (settled_grounded (code_system C) (code_laws C I) (Ever (code_system C)) settled) settled.one_effect (Datum p v) k x c y in
        (z.fact).1 k x z.write

    closed_ever : Fa.Closed (code_system C) Known_ (Datum p v) → Fa.Closed (code_system C) (Ever (code_system C)) (Datum p v)
    closed_ever c = record {
      made = made_grows (code_system C) Known_ (Ever (code_system C)) within c.made;
      finished = λ u i. finished_grows (code_system C) Known_ (Ever (code_system C)) within (c.finished u i);
      one_writer = settled.one_writer (Datum p v);
    }

    pub array_fed : Fa.Closed (code_system C) Known_ (Datum p v) → (xs : List (Key × Scalar)) → AllElements s K (script_place p v) xs → ((k : Key) (x : Scalar) → In (k, x) xs → Written (code_system C) F (Datum p v) k x)
        → Fa.Gives (code_system C) (Ever (code_system C)) (ClosedArray (Datum p v)) (Content xs)
    array_fed c xs all stored = (
      xs,
      record {
        closed = closed_ever c;
        in_order = all.in_order;
        all = λ k x y. (let z = known_write c k x y in all.all k z.0 x z.1);
        only = λ k x i. written_grows (code_system C) F (Ever (code_system C)) into (stored k x i);
      },
      refl,
    )

    pub missing_fed : Fa.Closed (code_system C) Known_ (Datum p v) → (k : Key) → Lacks s K (script_place p v) k → Fa.Gives (code_system C) (Ever (code_system C)) (ElementOf (Datum p v) k) Missing
    missing_fed c k h = record { closed = closed_ever c; none = λ x y. (let z = known_write c k x y in h.none z.0 x z.1) }
