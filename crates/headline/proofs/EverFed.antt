-- Knowledge whose values and elements clean code comes to: then clean code comes to all that the script's answers yield by it.
use Rattle.std.proofs.Common.{◌≡◌, ◌⊎◌, inl, inr, ℕ, Bool, true, false, List, [], ◌∷◌, refl, sym, ap, ◌∙◌, subst}
use Rattle.std.specs.Prelude.{not}
use Rattle.std.specs.List.{list_all}
use Rattle.dataflow.specs.System.{In, Input, StoredScalar, ClosedArray, ElementAt, Found, Missing, Content}
use Rattle.dataflow.specs.Facts as Fa
use Rattle.dataflow.specs.Facts.{Live, live_main, live_opened, Written, Ever}
use Rattle.values.specs.declared.key.Key.{Key}
use Rattle.values.specs.declared.value.Scalar.{Scalar}
use Rattle.values.specs.declared.value.Value.{Value}
use Rattle.values.specs.declared.value.Value.TheVariants.{One}
use Rattle.language.specs.Core.{Name, here, name, Expr, Form, compute, read, Cell, Outer, stmt, Action, fill, Block, Core}
use Rattle.language.specs.Facts.{value, element, Knowledge}
use Rattle.language.specs.Meaning as Mn
use Rattle.language.specs.Meaning.{HasValue, stored, in_block}
use Rattle.language.specs.Members.{◌∈◌}
use Rattle.language.specs.Parts.{cells, block_list}
use Rattle.language.specs.Places.{Place, place}
use Rattle.language.specs.Single.{SinglyAssigned}
use Rattle.language.specs.WellFormed.{IsMany, WellFormed}
use Rattle.language_laws.proofs.Declared.{stmt_in, place_here}
use Rattle.language_laws.proofs.Sources.{IsFull, outer_in}
use Rattle.language_laws.specs.Scoped.{IsIn, Scoped}
use Rattle.task_code.specs.Code as code
use Rattle.task_code.specs.Code.{Variable, Need, Code, entry, body, scalar, is_array_name}
use Rattle.task_code.specs.Compute.{key_of}
use Rattle.task_code.specs.Effects.{Task, Main, Item, only}
use Rattle.task_code.specs.Exact.{IsExact}
use Rattle.task_code.specs.Machine.{CleanCode}
use Rattle.task_code.specs.Places as CodePlaces
use Rattle.task_code.specs.Places.{Step, Datum, Constant, Nowhere, place_at}
use Rattle.task_code.specs.Shape.{fits_kinds, has_shape}
use Rattle.task_code.specs.System.{scalar_input, whole_input, key_input, element_input, inputs_at, code_system}
use Rattle.task_code.specs.Whole.{IsCode}
use Rattle.task_code.proofs.Equal.{every_in}
use Rattle.task_code.proofs.Kept.{code_laws}
use Rattle.task_code.proofs.Places.{spot_path, spot_variable, not_constant}
use Rattle.task_code.proofs.Rights.{in_gather}
use Rattle.code_rules.specs.CodeNames.{name_as, wanted}
use Rattle.headline.specs.Headline.{script_path, script_place}
use Rattle.code_rules.specs.IsCodeOf.{seen, seen_as, own_form, own_expr, IsCodeOf}
use Rattle.headline.specs.Answered.{Reading}
use Rattle.headline.specs.Backs.{Backs}
use Rattle.headline.specs.Chains.{HasElement, HasAll, Answers, Chain, Stands, same, plain, constant}
use Rattle.headline.specs.Inclusions.{Facts}
use Rattle.headline.proofs.ClosingFrom.{Ends}
use Rattle.headline.proofs.Derived.{EndedAt, ended_by, value_by}
use Rattle.headline.proofs.Evaluate.{Got, AsValue}
use Rattle.headline.proofs.Exact.{kind_of}
use Rattle.headline.proofs.Fed.{WritesKnown, settled, come, given, array_fed, missing_fed}
use Rattle.headline.proofs.Hits.{Kind, right_kind}
use Rattle.headline.proofs.LiveBy.{TaskEffect, Feed}
use Rattle.headline.proofs.LiveKinds.{StandingItem, live_item}
use Rattle.headline.proofs.Means.{chain_live, covering_reads}
use Rattle.headline.proofs.Readings.{cell_has, to_code, name_stands, same_array}
use Rattle.headline.proofs.Transfer.{reading_valid}
use Rattle.headline.proofs.WrittenFrom.{path_same}
use Rattle.std.proofs.lemmas.Bool.{not-true, and_parts}

module _ (s : Core) (C : Code) (w : IsCodeOf s C) (wf : WellFormed s) (I : IsCode C) (sc : Scoped s) (clean : CleanCode C) (K : Knowledge) where
  abbrev E : Task → TaskEffect → Type 0
  E t e = Ever (code_system C) t e

  abbrev Gets : Input CodePlaces.Place Key → Got → Type 0
  Gets i x = Fa.Gives (code_system C) (Ever (code_system C)) i x

  abbrev pub Stored : List Step → Variable → Key → Scalar → Type 0
  Stored q v key x = Written (code_system C) (Ever (code_system C)) (Datum q v) key x

  -- a need whose inputs the code answers as the script does
  abbrev pub NeedFed : List Step → Need → Type 0
  NeedFed p n = (i : Input CodePlaces.Place Key) → In i (inputs_at C p n) → (x : Got) → Answers s K i x → Fa.Gives (code_system C) (Ever (code_system C)) i x

  -- a scalar that the code stores, where it is a datum
  abbrev pub IsStored : CodePlaces.Place → Scalar → Type 0
  IsStored a u = (q : List Step) (v : Variable) → a ≡ Datum q v → v.array ≡ false → w.layout.plain v.node ≡ false → Stored q v only u

  abbrev pub ScalarEver : Place → Type 0
  ScalarEver pl = (u : Scalar) × HasValue s K pl u × ((d : Bool) (a : CodePlaces.Place) → Stands s C w.layout K d a pl → d ≡ false → IsStored a u)

  -- an array that the code closes, by facts whose writes to it are known
  abbrev pub ArrayEver : Place → Type 0
  ArrayEver pl = (q : List Step) (v : Variable) → v.array ≡ true → script_place q v ≡ pl → w.layout.array v.node ≡ true → Fa.Closed (code_system C) (WritesKnown K (Ever (code_system C)) q v) (Datum q v)

  -- the elements that are known, the code writes
  abbrev pub ElementsStored : Type 0
  ElementsStored = (q : List Step) (v : Variable) (key : Key) (x : Scalar) (u : Place) → v.array ≡ true → K (element (script_place q v) key u x) → Stored q v key x

  -- the scalars that are known, the code stores
  pub record Behind : Type 0 where
    pub scalar : (pl : Place) (u : Scalar) → K (value pl (One u)) → (d : Bool) (a : CodePlaces.Place) → Stands s C w.layout K d a pl → d ≡ false → IsStored a u
    -- the names in the expression of a cell whose value is known
    pub under : (p : List Step) (t k : ℕ) (b : Block) → Chain s C w.layout K p t k b → (j : ℕ) → In j (body C t).entries → (at n : ℕ) (a : Action) → stmt at n a ∈ block_list b → (c : Cell) → c ∈ cells (stmt at n a) → (v : Value) → K (value (script_path p, c.node) v) → (e : Expr) → c.form ≡ compute e
        → (z : Need) → In z (wanted k e) → In z (entry C j).needs → NeedFed p z

  -- ANSWERS
  has_stored : (q : List Step) (v : Variable) (key : Key) (u : Scalar) → Stored q v key u → Fa.HasValue (code_system C) (Ever (code_system C)) (Datum q v) key u
  has_stored q v key u z = record { written = z; one_writer = λ x y. (settled s C I clean K).one_writer (Datum q v) key x u y z }

  module _ (kn : Backs s K) (el : ElementsStored) where
    scalar_gets : (q : List Step) (v : Variable) (u : Scalar) → HasValue s K (script_place q v) u → Stored q v only u → (x : Got) → Answers s K (StoredScalar (Datum q v)) x → Gets (StoredScalar (Datum q v)) x
    scalar_gets q v u h z x a = (u, has_stored q v only u z, a.2 ∙ ap Found (kn.one_scalar (script_place q v) a.0 u a.1 h))

    array_gets : (q : List Step) (v : Variable) → v.array ≡ true → Fa.Closed (code_system C) (WritesKnown K (Ever (code_system C)) q v) (Datum q v) → (x : Got) → HasAll s K (Datum q v) x → Gets (ClosedArray (Datum q v)) x
    array_gets q v va c x a =
        subst (λ (z : Got). Gets (ClosedArray (Datum q v)) z) (sym a.2)
        (array_fed s C I clean K (Ever (code_system C)) (λ t e f. f) q v c a.0 a.1 (λ key y i. (let z = (a.1).only key y i in el q v key y z.0 va z.1)))

    element_gets : (q : List Step) (v : Variable) → v.array ≡ true → (Mn.Closed s K (script_place q v) → Fa.Closed (code_system C) (WritesKnown K (Ever (code_system C)) q v) (Datum q v)) → (key : Key) (x : Got) → HasElement s K (Datum q v) key x → Fa.GivesElement (code_system C) (Ever (code_system C)) (Datum q v) key x
    element_gets q v va c key (Found x) a = has_stored q v key x (el q v key x a.writer va a.write)
    element_gets q v va c key Missing a = missing_fed s C I clean K (Ever (code_system C)) (λ t e f. f) q v (c a.closed) key a
    element_gets q v va c key (Content xs) a = absurd a

    -- NAMES
    pub scalar_fed : (p : List Step) (t k : ℕ) (b : Block) → Chain s C w.layout K p t k b → (j : ℕ) → In j (body C t).entries → (x : Name) → IsIn k x → In (code.Stored (name_as k false x)) (entry C j).needs → ScalarEver (place s (script_path p) x) → NeedFed p (code.Stored (name_as k false x))
    scalar_fed p t k b ch j there x g need sf i h y a = by (place_at C p (name_as k false x)) refl h
      where
        st : Stands s C w.layout K false (place_at C p (name_as k false x)) (place s (script_path p) x)
        st = name_stands s wf K kn C w.layout I sc ch j there false x _ g need (inl refl)

        by : (d : CodePlaces.Place) → place_at C p (name_as k false x) ≡ d → In i (scalar_input d) → Gets i y
        by (Datum q v) e (inl z) =
            let kd = right_kind s C w K wf I sc (λ e. e.reads) (covering_reads s C w.layout K wf.names I sc) ch j there (name_as k false x) (I.needs j _ (name_as k false x) need (inl refl)) q v e in
            let wr = sf.2 false _ st refl q v e (sym kd.of_name ∙ kind_of k false x) kd.real in
            let hv : HasValue s K (script_place q v) sf.0 = subst (λ (d : CodePlaces.Place). AsValue s C K d sf.0) e (to_code s wf K kn C w.layout st sf.0 sf.1) in
            subst (λ (u : Input CodePlaces.Place Key). Gets u y) (sym z) (scalar_gets q v sf.0 hv wr y (subst (λ (u : Input CodePlaces.Place Key). Answers s K u y) z a))
        by (Datum q v) e (inr z) = absurd z
        by (Constant c) e z = absurd z
        by Nowhere e (inl z) = (let r = subst (λ (u : Input CodePlaces.Place Key). Answers s K u y) z a in absurd r.1)
        by Nowhere e (inr z) = absurd z

    pub array_fed_by : (p : List Step) (t k : ℕ) (b : Block) → Chain s C w.layout K p t k b → (j : ℕ) → In j (body C t).entries → (x : Name) → IsIn k x → In (code.Closed (name_as k true x)) (entry C j).needs → ArrayEver (place s (script_path p) x) → NeedFed p (code.Closed (name_as k true x))
    array_fed_by p t k b ch j there x g need af i h y a =
        let sm = same_array s wf K (name_stands s wf K kn C w.layout I sc ch j there true x _ g need (inl refl)) refl in
        let kd = right_kind s C w K wf I sc (λ e. e.reads) (covering_reads s C w.layout K wf.names I sc) ch j there (name_as k true x) (I.needs j _ (name_as k true x) need (inl refl)) sm.path sm.variable sm.is in
        let cl = af sm.path sm.variable sm.array (sym sm.place_is) (sym kd.of_layout ∙ sm.array) in
        elim (subst (λ (d : CodePlaces.Place). In i (whole_input d)) sm.is h) [
          | inl z ↦ subst (λ (u : Input CodePlaces.Place Key). Gets u y) (sym z) (array_gets sm.path sm.variable sm.array cl y (subst (λ (u : Input CodePlaces.Place Key). Answers s K u y) z a))
          | inr z ↦ absurd z
        ]

    module _ (bd : Behind) where
      -- CELLS
      known_ever : (pl : Place) (u : Scalar) → K (value pl (One u)) → ScalarEver pl
      known_ever pl u kv = (u, stored kv, λ d a st e. bd.scalar pl u kv d a st e)

      cell_fed : (p : List Step) (t k : ℕ) (b : Block) → Chain s C w.layout K p t k b → (j : ℕ) → In j (body C t).entries → (at n : ℕ) (a : Action) → stmt at n a ∈ block_list b → (c : Cell) → c ∈ cells (stmt at n a) → (u : Scalar) → K (value (script_path p, c.node) (One u)) → (z : Need) → In z (wanted k (seen w.layout c)) → In z (entry C j).needs → NeedFed p z
      cell_fed p t k b ch j there at n a m c cm u kv z zi zn = by (w.layout.plain c.node) c.form refl zi
        where
          own : In z (wanted k (name (here c.node))) → NeedFed p z
          own (inl e) =
              subst (λ (y : Need). NeedFed p y) (sym e)
              (scalar_fed p t k b ch j there (here c.node) (λ i q. absurd (cc (q))) (subst (λ (y : Need). In y (entry C j).needs) e zn) (subst (λ (y : Place). ScalarEver y) (sym (place_here s (script_path p) c.node)) (known_ever (script_path p, c.node) u kv)))
          own (inr h) = absurd h

          by : (d : Bool) (f : Form) → c.form ≡ f → In z (wanted k (seen_as d c.node f)) → NeedFed p z
          by true (compute e) q h = bd.under p t k b ch j there at n a m c cm (One u) kv e q z h zn
          by true (read y i) q h = own h
          by false f q h = own h

      -- LOOP VARIABLES
      turn_stored : {pl : Place} {u : Scalar} (q : List Step) (x : ℕ) → HasValue s K pl u → (script_path q, x) ≡ pl → Stored q (scalar x) only u → {d : Bool} {a : CodePlaces.Place} → Stands s C w.layout K d a pl → d ≡ false → IsStored a u
      turn_stored {u = u} q x h e wr (same {p = p} {v = v}) de q' v' ae va pl =
          let eq : q ≡ q' = path_same q p (ap (λ (z : Place). z.0) e) ∙ spot_path ae in
          let en : x ≡ v'.node = ap (λ (z : Place). z.1) e ∙ ap (λ (z : Variable). z.node) (spot_variable ae) in
          subst (λ (z : CodePlaces.Place). Written (code_system C) (Ever (code_system C)) z only u) (λ i. Datum (eq i) (record { node = en i; array = sym va i })) wr
      turn_stored {u = u} q x h e wr (plain {path = path} {st = st} {n = n} {x = y} {a = a} live i pf sd) de q' v' ae va pl =
          bd.scalar (path, n) u (cell_has s wf K h path st _ (stmt_in s live) i refl) false a (plain live i pf sd) refl q' v' ae va pl
      turn_stored q x h e wr (constant live i pf) de q' v' ae va pl = absurd (not_constant ae)

      -- THE FACTS OF CLEAN CODE
      abbrev ever_feed : Feed s C w K wf kn I sc
      ever_feed = record {
        Fact = λ t e. Ever (code_system C) t e;
        Fed = λ p n. NeedFed p n;
        ScalarFed = λ pl. ScalarEver pl;
        ArrayFed = λ pl. ArrayEver pl;
        main = come s C I clean K Main _ [] live_main tt refl;
        yields = λ j c p e l f r. come s C I clean K (Item j p c) e r.answers l (given s C I clean K _ (λ i m x a. (let n = in_gather C (inputs_at C p) (entry C j).needs i m in f n.0 n.1 i n.2 x a)) r.answers r.read) r.is;
        cell = λ p t k b ch j there at n a m c cm u kv z zi zn. cell_fed p t k b ch j there at n a m c cm u kv z zi zn;
        scalar = λ p t k b ch j there x g need sf. scalar_fed p t k b ch j there x g need sf;
        array = λ p t k b ch j there x g need af. array_fed_by p t k b ch j there x g need af;
      }

      module _ (full : IsFull s K) (ex : IsExact C) (single : SinglyAssigned s) where
        -- the right side of a whole array is an expression
        right_fed : (p : List Step) (t k : ℕ) (b : Block) → Chain s C w.layout K p t k b → (j : ℕ) → In j (body C t).entries → (at n : ℕ) (x : Name) (o : Outer) (v : Value) → stmt at n (fill x o) ∈ block_list b → K (value (script_path p, o.cell.node) v) → (z : Need) → In z (wanted k (own_expr o)) → In z (entry C j).needs → NeedFed p z
        right_fed p t k b ch j there at n x o v m kv z zi zn = by o.cell.form refl zi (wf.cells.fill_many at n x o (stmt_in s (in_block (chain_live s C w.layout K wf.names I sc ch) m)))
          where
            by : (f : Form) → o.cell.form ≡ f → In z (wanted k (own_form o.cell.node f)) → IsMany o.cell.form → NeedFed p z
            by (compute e) q h many = bd.under p t k b ch j there at n (fill x o) m o.cell (outer_in o.parts o.cell) v kv e q z h zn
            by (read y i) q h many = absurd (no_read (subst IsMany q many))
              where
                no_read : {y : Name} {i : ℕ} → IsMany (read y i) → ⊥
                no_read h = elim h [ ]

        abbrev ever_ends : Ends s C w K wf kn I sc ever_feed
        ever_ends = record {
          Counted = λ q v t e. WritesKnown K (Ever (code_system C)) q v t e;
          main = λ q v. (come s C I clean K Main _ [] live_main tt refl, λ k x i. absurd i);
          counts = λ q v j c p x va l f kw. (f, λ k y i. kw q v k y va i);
          right = λ p t k b ch j there at n x o v m kv z zi zn. right_fed p t k b ch j there at n x o v m kv z zi zn;
        }

        close : (pl : Place) → EndedAt s C w K wf kn I sc ever_feed ever_ends full ex single pl → ArrayEver pl
        close pl h q v va e la =
            let r = h q v va e la in
            record {
              made = r.made;
              finished = r.finished;
              one_writer = λ k x y a b. (settled s C I clean K).one_writer (Datum q v) k x y (record { task = a.task; effect = a.effect; fact = (a.fact).0; write = a.write }) (record { task = b.task; effect = b.effect; fact = (b.fact).0; write = b.write });
            }

        turned : (pl : Place) (u : Scalar) → HasValue s K pl u → (q : List Step) (x : ℕ) → (script_path q, x) ≡ pl → Written (code_system C) (Ever (code_system C)) (Datum q (scalar x)) only u → ScalarEver pl
        turned pl u h q x e wr = (u, h, λ d a st de. turn_stored q x h e wr st de)

        -- a closed array, and a scalar
        pub closed_ever : {pl : Place} → Mn.Closed s K pl → ArrayEver pl
        closed_ever {pl} c = close pl (ended_by s C w K wf kn I sc ever_feed ever_ends full ex single (λ t e. Ever (code_system C) t e) (λ j c p e l f. f) close known_ever turned c)

        scalar_ever : {pl : Place} {u : Scalar} → HasValue s K pl u → ScalarEver pl
        scalar_ever h = value_by s C w K wf kn I sc ever_feed ever_ends full ex single (λ t e. Ever (code_system C) t e) (λ j c p e l f. f) close known_ever turned h

        -- INPUTS OF LIVE ITEMS
        stored_in : (q : List Step) (v : Variable) → v.array ≡ false → w.layout.plain v.node ≡ false → (u : Scalar) → HasValue s K (script_place q v) u → Stored q v only u
        stored_in q v va pl u h =
            let r = scalar_ever h in
            let e : r.0 ≡ u = kn.one_scalar (script_place q v) r.0 u r.1 h in
            subst (λ (z : Scalar). Stored q v only z) e (r.2 v.array (Datum q v) same va q v refl va pl)

        -- a name of a scalar, and of an array, at its place
        abbrev ScalarName : CodePlaces.Place → Type 0
        ScalarName d = (q : List Step) (v : Variable) → d ≡ Datum q v → (v.array ≡ false) × (w.layout.plain v.node ≡ false)

        abbrev ArrayName : CodePlaces.Place → Type 0
        ArrayName d = (q : List Step) (v : Variable) → d ≡ Datum q v → (v.array ≡ true) × (w.layout.array v.node ≡ true)

        stored_gets : (d : CodePlaces.Place) → ScalarName d → (x : Got) → Answers s K (StoredScalar d) x → Gets (StoredScalar d) x
        stored_gets (Datum q v) f x a = (let k = f q v refl in (a.0, has_stored q v only a.0 (stored_in q v k.0 k.1 a.0 a.1), a.2))
        stored_gets (Constant c) f x a = absurd a.1
        stored_gets Nowhere f x a = absurd a.1

        closed_gets : (d : CodePlaces.Place) → ArrayName d → (x : Got) → HasAll s K d x → Gets (ClosedArray d) x
        closed_gets (Datum q v) f x a = (let k = f q v refl in array_gets q v k.0 (closed_ever ((a.1).closed) q v k.0 refl k.1) x a)
        closed_gets (Constant c) f x a = absurd a
        closed_gets Nowhere f x a = absurd a

        at_key : (d : CodePlaces.Place) → ArrayName d → (key : Key) (x : Got) → HasElement s K d key x → Fa.GivesElement (code_system C) (Ever (code_system C)) d key x
        at_key (Datum q v) f key x a = (let k = f q v refl in element_gets q v k.0 (λ c. closed_ever c q v k.0 refl k.1) key x a)
        at_key (Constant c) f key x a = absurd a
        at_key Nowhere f key x a = absurd a

        at_scalar : (a d : CodePlaces.Place) → ArrayName a → ScalarName d → (x : Got) → Answers s K (ElementAt a d) x → Gets (ElementAt a d) x
        at_scalar a (Datum q v) f g x h = (let k = g q v refl in (h.0, has_stored q v only h.0 (stored_in q v k.0 k.1 h.0 h.1), at_key a f (key_of h.0) x h.2))
        at_scalar a (Constant c) f g x h = absurd h.1
        at_scalar a Nowhere f g x h = absurd h.1

        -- the inputs of a need
        in_one : {X : Type 0} {x y : X} → In x (y ∷ []) → x ≡ y
        in_one (inl e) = e
        in_one (inr z) = absurd z

        moved : {i j : Input CodePlaces.Place Key} (x : Got) → i ≡ j → (Answers s K j x → Gets j x) → Answers s K i x → Gets i x
        moved x e f a = subst (λ (z : Input CodePlaces.Place Key). Gets z x) (sym e) (f (subst (λ (z : Input CodePlaces.Place Key). Answers s K z x) e a))

        scalar_in : (d : CodePlaces.Place) → ScalarName d → (i : Input CodePlaces.Place Key) → In i (scalar_input d) → (x : Got) → Answers s K i x → Gets i x
        scalar_in (Datum q v) f i h x = moved x (in_one h) (stored_gets (Datum q v) f x)
        scalar_in (Constant c) f i h x = absurd h
        scalar_in Nowhere f i h x = moved x (in_one h) (stored_gets Nowhere f x)

        whole_in : (d : CodePlaces.Place) → ArrayName d → (i : Input CodePlaces.Place Key) → In i (whole_input d) → (x : Got) → Answers s K i x → Gets i x
        whole_in (Datum q v) f i h x = moved x (in_one h) (closed_gets (Datum q v) f x)
        whole_in (Constant c) f i h x = absurd h
        whole_in Nowhere f i h x = moved x (in_one h) (closed_gets Nowhere f x)

        key_in : (d : CodePlaces.Place) (key : Key) → ArrayName d → (i : Input CodePlaces.Place Key) → In i (key_input d key) → (x : Got) → Answers s K i x → Gets i x
        key_in (Datum q v) key f i h x = moved x (in_one h) (at_key (Datum q v) f key x)
        key_in (Constant c) key f i h x = absurd h
        key_in Nowhere key f i h x = moved x (in_one h) (at_key Nowhere f key x)

        element_in : (a d : CodePlaces.Place) → ArrayName a → ScalarName d → (i : Input CodePlaces.Place Key) → In i (element_input a d) → (x : Got) → Answers s K i x → Gets i x
        element_in (Datum p v) (Datum q u) f g i h x = moved x (in_one h) (at_scalar (Datum p v) (Datum q u) f g x)
        element_in (Datum p v) (Constant c) f g i h x = key_in (Datum p v) _ f i h x
        element_in (Datum p v) Nowhere f g i h x = moved x (in_one h) (at_scalar (Datum p v) Nowhere f g x)
        element_in (Constant c) (Datum q u) f g i h x = absurd h
        element_in (Constant c) (Constant e) f g i h x = absurd h
        element_in (Constant c) Nowhere f g i h x = absurd h
        element_in Nowhere (Datum q u) f g i h x = moved x (in_one h) (at_scalar Nowhere (Datum q u) f g x)
        element_in Nowhere (Constant c) f g i h x = key_in Nowhere _ f i h x
        element_in Nowhere Nowhere f g i h x = moved x (in_one h) (at_scalar Nowhere Nowhere f g x)

        module _ (p : List Step) (j : ℕ) (kinds : (r : code.Name) → In r (entry C j).reads → (q : List Step) (v : Variable) → place_at C p r ≡ Datum q v → Kind s C w K wf I sc r v) where
          scalar_name : (n : Need) (r : code.Name) → In n (entry C j).needs → In r (code.needed n) → is_array_name r ≡ false → ScalarName (place_at C p r)
          scalar_name n r m h e q v pe = (let k = kinds r (I.needs j n r m h) q v pe in (sym k.of_name ∙ e, k.real))

          array_name : (n : Need) (r : code.Name) → In n (entry C j).needs → In r (code.needed n) → is_array_name r ≡ true → ArrayName (place_at C p r)
          array_name n r m h e q v pe = (let k = kinds r (I.needs j n r m h) q v pe in (sym k.of_name ∙ e, sym k.of_layout ∙ sym k.of_name ∙ e))

          need_in : (n : Need) → In n (entry C j).needs → fits_kinds n ≡ true → NeedFed p n
          need_in (code.Stored r) m f i h x = scalar_in (place_at C p r) (scalar_name (code.Stored r) r m (inl refl) (not-true (is_array_name r) f)) i h x
          need_in (code.Closed r) m f i h x = whole_in (place_at C p r) (array_name (code.Closed r) r m (inl refl) f) i h x
          need_in (code.At a r) m f i h x =
              let q = and_parts (is_array_name a) (not (is_array_name r)) f in
              element_in (place_at C p a) (place_at C p r) (array_name (code.At a r) a m (inl refl) q.0) (scalar_name (code.At a r) r m (inr (inl refl)) (not-true (is_array_name r) q.1)) i h x
          need_in (code.AtKey a key) m f i h x = key_in (place_at C p a) key (array_name (code.AtKey a key) a m (inl refl) f) i h x

          needs_in : (n : Need) → In n (entry C j).needs → NeedFed p n
          needs_in n m = need_in n m (every_in fits_kinds (entry C j).needs (and_parts (list_all fits_kinds (entry C j).needs) (has_shape (entry C j).act (entry C j).needs) (I.shape j)).0 n m)

        task_in : {t : Task} → (t ≡ Main) ⊎ StandingItem s C w K wf I sc t → (i : Input CodePlaces.Place Key) → In i ((code_system C).inputs t) → (x : Got) → Answers s K i x → Gets i x
        task_in (inl q) i h x a = absurd (subst (λ (z : Task). In i ((code_system C).inputs z)) q h)
        task_in (inr it) i h x a =
            let n = in_gather C (inputs_at C it.path) (entry C it.number).needs i (subst (λ (z : Task). In i ((code_system C).inputs z)) it.is h) in
            needs_in it.path it.number it.kinds n.0 n.1 i n.2 x a

        read_in : {t : Task} {e : TaskEffect} → Live (code_system C) (Reading (code_system C) (Answers s K)) t → Reading (code_system C) (Answers s K) t e → Live (code_system C) (Ever (code_system C)) t → Ever (code_system C) t e
        read_in {t} {e} lv f l =
            let it = live_item s C w K wf I sc (Reading (code_system C) (Answers s K)) (λ t e lv f. record { answers = f.answers; is = f.is; valid = reading_valid (code_system C) (code_laws C I) (Answers s K) lv }) lv in
            come s C I clean K t e f.answers l (given s C I clean K ((code_system C).inputs t) (task_in it) f.answers f.read) f.is

        live_in : {t : Task} → Live (code_system C) (Reading (code_system C) (Answers s K)) t → Live (code_system C) (Ever (code_system C)) t
        live_in live_main = live_main
        live_in (live_opened t u e o lv f io iu) = (let l = live_in lv in live_opened t u e o l (read_in lv f l) io iu)

        -- ALL THAT THE SCRIPT'S ANSWERS YIELD, THE CODE COMES TO
        pub facts_ever : (t : Task) (e : TaskEffect) → Facts s C K t e → Ever (code_system C) t e
        facts_ever t e f = read_in f.live f.reading (live_in f.live)
