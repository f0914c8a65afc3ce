-- What a header waits for is known in the code's meaning where the script has it, and the other way round; once all that the script's answers yield is in the code's meaning.
use Rattle.std.proofs.Common.{inl, inr, ℕ, true, false, List, map, refl, sym, subst}
use Rattle.dataflow.specs.System.{In, Input, StoredScalar, ClosedArray, Effect}
use Rattle.dataflow.specs.Facts as Fa
use Rattle.dataflow.specs.Facts.{Live, Gives, Ever, EverGiven}
use Rattle.dataflow.proofs.Ever.{ever_settled}
use Rattle.dataflow.proofs.Frozen.{live_grows}
use Rattle.dataflow.proofs.Settled.{Settled, gives_grows, settled_grounded}
use Rattle.values.specs.declared.key.Key.{Key}
use Rattle.values.specs.declared.value.Scalar.{Scalar}
use Rattle.language.specs.Core as Co
use Rattle.language.specs.Core.{Name, Awaited, Block, Core}
use Rattle.language.specs.Facts.{Knowledge}
use Rattle.language.specs.Meaning.{Come, scalar_known, array_closed}
use Rattle.language.specs.Members.{◌∈◌}
use Rattle.language.specs.Places.{place}
use Rattle.language.specs.Single.{SinglyAssigned}
use Rattle.language.specs.WellFormed.{WellFormed}
use Rattle.task_code.specs.Code.{Need, Code, entry, body}
use Rattle.task_code.specs.Effects.{Task, Item}
use Rattle.task_code.specs.Exact.{IsExact}
use Rattle.task_code.specs.Places as CodePlaces
use Rattle.task_code.specs.Places.{Step, Datum, Constant, Nowhere, place_at}
use Rattle.task_code.specs.Runs.{IsHeaderKnown}
use Rattle.task_code.specs.System.{inputs_at, scalar_input, whole_input, code_system}
use Rattle.task_code.specs.Whole.{IsCode}
use Rattle.task_code.proofs.Counted.{gather_in}
use Rattle.task_code.proofs.Kept.{code_laws}
use Rattle.code_rules.specs.CodeNames.{name_as, awaited_need, header}
use Rattle.headline.specs.Headline.{script_path}
use Rattle.code_rules.specs.IsCodeOf.{IsCodeOf}
use Rattle.code_rules.specs.NodesOnce.{NodesOnce}
use Rattle.language_laws.specs.Scoped.{AwaitedIn, Scoped}
use Rattle.language_laws.specs.TypedValues.{TypedValues}
use Rattle.headline.specs.Answered.{Reading, IsRight}
use Rattle.headline.specs.Chains.{Answers, HasAll, Chain}
use Rattle.headline.specs.Inclusions.{Facts}
use Rattle.headline.specs.Knows.{Knows}
use Rattle.headline.proofs.Backing.{backs}
use Rattle.headline.proofs.BlockedRounds.{live_round, scalar_given, array_given}
use Rattle.headline.proofs.Evaluate.{Got, AsValue, AsScalar}
use Rattle.headline.proofs.HeaderWorks.{come_answer, awaited_of}
use Rattle.headline.proofs.Readings.{IsSame, name_stands, same_array, says_script}
use Rattle.headline.proofs.Transfer.{live_shown, live_reading, shown_one, shown_grounded, shown_writer}
use Rattle.headline.proofs.Within.{script_right, ever_in, clean_code}

module _ (s : Core) (C : Code) (w : IsCodeOf s C) (K : Knowledge) (wf : WellFormed s) (kn : Knows s K) (I : IsCode C) (sc : Scoped s) (ty : TypedValues s K) (nodes : NodesOnce C) (ex : IsExact C) (single : SinglyAssigned s)
    (back : (t : Task) (e : Effect Task CodePlaces.Place Key Scalar) → Facts s C K t e → Ever (code_system C) t e) where
  abbrev pub Reads : Task → Effect Task CodePlaces.Place Key Scalar → Type 0
  Reads t e = Reading (code_system C) (Answers s K) t e

  abbrev pub Alive : Task → Type 0
  Alive t = Live (code_system C) (Reading (code_system C) (Answers s K)) t

  right : IsRight (code_system C) (Answers s K)
  right = script_right s C w K wf kn I sc ty nodes ex single

  -- LIVE TASKS
  pub alive_of : (n : ℕ) {t : Task} → Live (code_system C) (Fa.Known (code_system C) n) t → Alive t
  alive_of n l = live_reading (code_system C) (code_laws C I) (Answers s K)
      (live_grows (code_system C) (Fa.Known (code_system C) n) (λ t e. Facts s C K t e) (λ t e h. ever_in s C w K wf kn I sc ty nodes ex single t e (record { round = n; known = h })) l)

  pub round_of : {t : Task} → Alive t → (n : ℕ) × Live (code_system C) (Fa.Known (code_system C) n) t
  round_of l = live_round (code_system C) (code_laws C I) (live_grows (code_system C) (λ t e. Facts s C K t e) (Ever (code_system C)) back (live_shown (code_system C) (code_laws C I) (Answers s K) l))

  -- ONE INPUT
  settled : Settled (code_system C) (Ever (code_system C))
  settled = ever_settled (code_system C) (code_laws C I) (clean_code s C w K wf kn I sc ty nodes ex single)

  to_ever : (i : Input CodePlaces.Place Key) (x : Got) → Gives (code_system C) (λ t e. Facts s C K t e) i x → Gives (code_system C) (Ever (code_system C)) i x
  to_ever i x g = gives_grows (code_system C) (code_laws C I) (λ t e. Facts s C K t e) (Ever (code_system C)) back (settled_grounded (code_system C) (code_laws C I) (Ever (code_system C)) settled) settled.one_effect settled.one_writer i x g

  to_facts : (n : ℕ) (i : Input CodePlaces.Place Key) (x : Got) → Gives (code_system C) (Fa.Known (code_system C) n) i x → Gives (code_system C) (λ t e. Facts s C K t e) i x
  to_facts n i x g =
      gives_grows (code_system C) (code_laws C I) (Fa.Known (code_system C) n) (λ t e. Facts s C K t e) (λ t e h. ever_in s C w K wf kn I sc ty nodes ex single t e (record { round = n; known = h }))
      (shown_grounded (code_system C) (code_laws C I) (Answers s K) right.one) (shown_one (code_system C) (code_laws C I) (Answers s K) right.one) (shown_writer (code_system C) (code_laws C I) (Answers s K) right.one right.arrays) i x g

  scalar_ever : (t : Task) (d : CodePlaces.Place) (x : Got) → Alive t → In (StoredScalar d) ((code_system C).inputs t) → Answers s K (StoredScalar d) x → EverGiven (code_system C) (StoredScalar d)
  scalar_ever t d x l m a = (let g = to_ever (StoredScalar d) x (right.to t (StoredScalar d) x l m a) in scalar_given (code_system C) (code_laws C I) d g.0 g.1)

  array_ever : (t : Task) (d : CodePlaces.Place) (x : Got) → Alive t → In (ClosedArray d) ((code_system C).inputs t) → Answers s K (ClosedArray d) x → EverGiven (code_system C) (ClosedArray d)
  array_ever t d x l m a = (let g = to_ever (ClosedArray d) x (right.to t (ClosedArray d) x l m a) in array_given (code_system C) (code_laws C I) d g.0 g.1)

  answered_by : (t : Task) (i : Input CodePlaces.Place Key) → Alive t → In i ((code_system C).inputs t) → EverGiven (code_system C) i → (x : Got) × Answers s K i x
  answered_by t i l m g = (g.answer, right.from t i g.answer l m (to_facts g.round i g.answer g.gives))

  -- AN ITEM OF A LIVE BLOCK
  module _ {p : List Step} {t k : ℕ} {b : Block} (ch : Chain s C w.layout K p t k b) (i c : ℕ) (there : In i (body C t).entries) (live : Alive (Item i p c)) where
    abbrev NeedIn : Need → Type 0
    NeedIn n = In n (entry C i).needs

    input_in : (n : Need) (x : Input CodePlaces.Place Key) → In n (entry C i).needs → In x (inputs_at C p n) → In x ((code_system C).inputs (Item i p c))
    input_in n x h m = gather_in (inputs_at C p) (entry C i).needs n x h m

    -- from the script
    scalar_so : (d : CodePlaces.Place) (y : Got) → AsScalar s C K d y → (x : Input CodePlaces.Place Key) → In x (scalar_input d) → In x ((code_system C).inputs (Item i p c)) → EverGiven (code_system C) x
    scalar_so (Datum q v) y a x (inl e) m =
        subst (λ (z : Input CodePlaces.Place Key). EverGiven (code_system C) z) (sym e) (scalar_ever (Item i p c) (Datum q v) y live (subst (λ (z : Input CodePlaces.Place Key). In z ((code_system C).inputs (Item i p c))) e m) a)
    scalar_so (Datum q v) y a x (inr z) m = absurd z
    scalar_so (Constant u) y a x h m = absurd h
    scalar_so Nowhere y a x h m = absurd a.1

    whole_so : (d : CodePlaces.Place) (y : Got) → HasAll s K d y → (x : Input CodePlaces.Place Key) → In x (whole_input d) → In x ((code_system C).inputs (Item i p c)) → EverGiven (code_system C) x
    whole_so (Datum q v) y a x (inl e) m =
        subst (λ (z : Input CodePlaces.Place Key). EverGiven (code_system C) z) (sym e) (array_ever (Item i p c) (Datum q v) y live (subst (λ (z : Input CodePlaces.Place Key). In z ((code_system C).inputs (Item i p c))) e m) a)
    whole_so (Datum q v) y a x (inr z) m = absurd z
    whole_so (Constant u) y a x h m = absurd h
    whole_so Nowhere y a x h m = absurd a

    come_ever : (x : Awaited) → AwaitedIn k x → NeedIn (awaited_need k x) → Come s K (script_path p) x → (z : Input CodePlaces.Place Key) → In z (inputs_at C p (awaited_need k x)) → EverGiven (code_system C) z
    come_ever (Co.scalar x) g m h z j =
        let r = come_answer s C w K wf (backs s K kn) I sc ch i there (Co.scalar x) g m h in
        scalar_so (place_at C p (name_as k false x)) r.0 r.1 z j (input_in (awaited_need k (Co.scalar x)) z m j)
    come_ever (Co.array x) g m h z j =
        let r = come_answer s C w K wf (backs s K kn) I sc ch i there (Co.array x) g m h in
        whole_so (place_at C p (name_as k true x)) r.0 r.1 z j (input_in (awaited_need k (Co.array x)) z m j)

    pub header_ever : (at : ℕ) (ns : List Awaited) → ((x : Awaited) → x ∈ ns → AwaitedIn k x) → ((n : Need) → In n (map (awaited_need k) ns) → NeedIn n) → ((x : Awaited) → x ∈ ns → Come s K (script_path p) x)
        → IsHeaderKnown C (EverGiven (code_system C)) p (header k at ns)
    header_ever at ns g sub h n z m j =
        let x = awaited_of s C w K wf (backs s K kn) I sc k ns n m in
        come_ever x.0 (g x.0 x.1) (subst (λ (y : Need). NeedIn y) x.2 (sub n m)) (h x.0 x.1) z (subst (λ (y : Need). In z (inputs_at C p y)) x.2 j)

    -- and to the script
    abbrev AllGiven : Need → Type 0
    AllGiven n = (z : Input CodePlaces.Place Key) → In z (inputs_at C p n) → EverGiven (code_system C) z

    scalar_back : (d : CodePlaces.Place) → ((z : Input CodePlaces.Place Key) → In z (scalar_input d) → (x : Got) × Answers s K z x) → (v : Scalar) × AsValue s C K d v
    scalar_back (Datum q v) f = (let r = f (StoredScalar (Datum q v)) (inl refl) in (r.1.0, r.1.1))
    scalar_back (Constant u) f = (u, refl)
    scalar_back Nowhere f = (let r = f (StoredScalar Nowhere) (inl refl) in absurd r.1.1)

    whole_back : (x : Name) → IsSame s wf K (place_at C p (name_as k true x)) (place s (script_path p) x) → ((z : Input CodePlaces.Place Key) → In z (whole_input (place_at C p (name_as k true x))) → (y : Got) × Answers s K z y)
        → (y : Got) × HasAll s K (place_at C p (name_as k true x)) y
    whole_back x e f =
        subst (λ (d : CodePlaces.Place). (y : Got) × HasAll s K d y) (sym e.is)
        (by (subst (λ (d : CodePlaces.Place). (z : Input CodePlaces.Place Key) → In z (whole_input d) → (y : Got) × Answers s K z y) e.is f))
      where
        by : ((z : Input CodePlaces.Place Key) → In z (whole_input (Datum e.path e.variable)) → (y : Got) × Answers s K z y) → (y : Got) × HasAll s K (Datum e.path e.variable) y
        by g = g (ClosedArray (Datum e.path e.variable)) (inl refl)

    pub come_back : (x : Awaited) → AwaitedIn k x → NeedIn (awaited_need k x) → AllGiven (awaited_need k x) → Come s K (script_path p) x
    come_back (Co.scalar x) g m f =
        let r = scalar_back (place_at C p (name_as k false x)) (λ z j. answered_by (Item i p c) z live (input_in (awaited_need k (Co.scalar x)) z m j) (f z j)) in
        scalar_known ((says_script s wf K (backs s K kn) C w.layout I sc ch i there kn).scalar x g m r.0 r.1)
    come_back (Co.array x) g m f =
        let e = same_array s wf K (name_stands s wf K (backs s K kn) C w.layout I sc ch i there true x (awaited_need k (Co.array x)) g m (inl refl)) refl in
        let r = whole_back x e (λ z j. answered_by (Item i p c) z live (input_in (awaited_need k (Co.array x)) z m j) (f z j)) in
        array_closed ((says_script s wf K (backs s K kn) C w.layout I sc ch i there kn).array x g m r.0 r.1).2
