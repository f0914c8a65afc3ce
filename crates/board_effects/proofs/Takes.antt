-- The datum that an item stores into takes what is stored.
use Rattle.std.proofs.Common.{◌≡◌, ◌∙◌, refl, sym, ap, subst, inl, inr, ℕ, zero, suc, ◌<◌, ◌≤◌, Bool, true, false, List, [], ◌∷◌, ◌++◌, length, Option, Some, None, option_map, arith}
use Rattle.std.specs.Prelude.{Err, IsSomeAnd, Ok, Result, if◌then◌else◌}
use Rattle.std.proofs.lemmas.Bool.{and_parts}
use Rattle.dataflow.specs.Machine.{End, Event, SeesAll}
use Rattle.dataflow.specs.System.{Answer, Content as ContentAnswer, Found, In, Missing}
use Rattle.data_store.specs.Data.{IsArray}
use Rattle.data_store.specs.Stores.{IsArrayAt, Store, array_at, at, datum, or_none}
use Rattle.data_store.specs.declared.datum.Content.{Content}
use Rattle.data_store.specs.declared.datum.Content.TheVariants.{OfArray, OfScalar}
use Rattle.data_store.specs.declared.datum.Datum.{Datum}
use Rattle.board_history.specs.CodeReplay.{replayed}
use Rattle.board_history.specs.Ending.{job_slot}
use Rattle.board_history.specs.Fields.{Counted, DatumOf, Does, Fields, Job, Row, Script, path_of, row_of, slot_at, task_of}
use Rattle.board_history.specs.Needs.{cell_element}
use Rattle.board_history.specs.Stands.{ContentStands, Stands}
use Rattle.board_history.specs.Static.{computed_by}
use Rattle.board_history.proofs.Next.{nat_same}
use Rattle.board_history.proofs.Standing.{writes_told}
use Rattle.board_history.proofs.Tests.{none_some, some_same}
use Rattle.task_code.proofs.Places.{argument_kind, spot_variable}
use Rattle.task_code.specs.Code.{Act, Argument, Assert, Call, Cell, Code, Copy, Each, Fill, Fixed, If, Local, Name, Named, Need, Owned, Parameter, Print, InsertElement, Range, Read, Set, Variable, Wait, argument, arguments, call_at, entry, is_array_name, is_array_owned, stored_of}
use Rattle.task_code.specs.Compute.{Computed, Elements, Gives, Inserts, answer_at, compute, elements, eval, given, pairs, read}
use Rattle.task_code.specs.Machine.{CodeState}
use Rattle.task_code.specs.Places.{Constant, Datum as DatumAt, Nowhere, Place, Step, place_at, resolve}
use Rattle.task_code.specs.Shape.{has_shape}
use Rattle.task_code.specs.System.{answered, code_system, task_inputs}
use Rattle.task_code.specs.Whole.{IsCode}
use Rattle.values.specs.Maps.{element, found, rising}
use Rattle.values.specs.declared.fault.OpFault.{OpFault}
use Rattle.values.specs.declared.key.Key.{Key}
use Rattle.values.specs.declared.map.Element.{Element}
use Rattle.values.specs.declared.value.Scalar.{Scalar}
use Rattle.values.specs.declared.value.Value.{Value}
use Rattle.board_program.specs.Spots.{layout_of}
use Rattle.board_program.specs.Tables.{is_place}
use Rattle.board_data.proofs.Cells.{cell_there, element_there}
use Rattle.board_data.specs.Data.{is_keyed}
use Rattle.board_data.specs.Stored.{HasPlacesFor, IsScalarTarget, Takes}
use Rattle.board_data.specs.View.{cell_view, cells_view, content_view}
use Rattle.board_effects.specs.Effects.{CanStore, GoesWell, IsEffect, IsTarget, target_in, values_in}
use Rattle.board_effects.specs.declared.effect.Effect.{Effect}
use Rattle.board_effects.specs.declared.effect.Effect.TheVariants as To
use Rattle.board_effects.proofs.Tells.{leads, not_closed, not_constant, not_nowhere, right, scalar_place, scalar_target}
use Rattle.board_effects.proofs.Values.{elements_back}

-- an array's name is of an array
array_place : (C : Code) (p : List Step) (up : ℕ) (o : Owned) (q : List Step) (v : Variable) → is_array_owned o ≡ true → resolve C p up o ≡ DatumAt q v → v.array ≡ true
array_place C [] zero (Local u) q v h e = ap (λ (y : Variable). y.array) (sym (spot_variable e)) ∙ h
array_place C [] zero (Parameter k b) q v h e = not_nowhere e
array_place C [] (suc up) o q v h e = not_nowhere e
array_place C (z ∷ p) zero (Local u) q v h e = ap (λ (y : Variable). y.array) (sym (spot_variable e)) ∙ h
array_place C (z ∷ p) zero (Parameter k b) q v h e = by (λ r g i. array_place C p r.up r.owned q v g i) (argument C z.offset k b) refl e
  where
    by : ((r : Name) → is_array_owned r.owned ≡ true → resolve C p r.up r.owned ≡ DatumAt q v → v.array ≡ true) → (o : Option Argument) → argument C z.offset k b ≡ o → (elim o [ None ↦ Nowhere | Some a ↦ elim a [ Named r ↦ resolve C p r.up r.owned | Fixed c ↦ Constant c ] ]) ≡ DatumAt q v → v.array ≡ true
    by f None g i = not_nowhere i
    by f (Some (Fixed c)) g i = not_constant i
    by f (Some (Named r)) g i = f r (argument_kind (arguments (entry C (call_at C z.offset)).act) k b r g ∙ h) i
array_place C (z ∷ p) (suc up) o q v h e = array_place C p up o q v h e

no_given : {B : Type 0} (r : Result Value OpFault) (ys : Elements) → given r ≡ Inserts ys → B
no_given (Ok u) ys h = absurd (cc h)
no_given (Err f) ys h = absurd (cc h)

no_read : {B : Type 0} (o : Option (Answer Key Scalar)) (ys : Elements) → read o ≡ Inserts ys → B
no_read None ys h = absurd (cc h)
no_read (Some (Found v)) ys h = absurd (cc h)
no_read (Some Missing) ys h = absurd (cc h)
no_read (Some (ContentAnswer zs)) ys h = absurd (cc h)

array_target : (a : Act) (ns : List Need) (node : ℕ) (xs : List (Answer Key Scalar)) (r : Name) (ys : Elements) → has_shape a ns ≡ true → In r (stored_of node a) → compute a xs ≡ Inserts ys → is_array_name r ≡ true
array_target (Cell e) ns node xs r ys sh i g = no_given (eval xs e) ys g
array_target Read ns node xs r ys sh i g = no_read (answer_at xs 0) ys g
array_target (Call b rs os) ns node xs r ys sh i g = absurd i
array_target (Set q e) ns node xs r ys sh i g = no_given (eval xs e) ys g
array_target (Fill q es) ns node xs r ys sh i g = elim i [ inl p ↦ ap is_array_name p ∙ (and_parts _ _ sh).0 | inr z ↦ absurd z ]
array_target (Copy q) ns node xs r ys sh i g = elim i [ inl p ↦ ap is_array_name p ∙ (and_parts _ _ sh).0 | inr z ↦ absurd z ]
array_target (InsertElement q k e) ns node xs r ys sh i g = elim i [ inl p ↦ ap is_array_name p ∙ (and_parts _ _ sh).0 | inr z ↦ absurd z ]
array_target (Print e) ns node xs r ys sh i g = absurd i
array_target (Assert e) ns node xs r ys sh i g = absurd i
array_target (If e b d) ns node xs r ys sh i g = absurd i
array_target (Range lo hi st w) ns node xs r ys sh i g = absurd i
array_target (Each w) ns node xs r ys sh i g = absurd i
array_target (Wait hs b) ns node xs r ys sh i g = absurd i

-- a datum is a scalar or an array as its content is
of_datum : (o : Option Datum) (c : Counted) → option_map cell_view o ≡ Some c → (y : Datum) × (o ≡ Some y) × (cell_view y ≡ c)
of_datum None c h = none_some h
of_datum (Some y) c h = (y, refl, some_same h)

unkeyed : (C : Code) (s : CodeState) (a : Place) (y : Datum) (ct : Content) (b : Bool) → y.content ≡ ct → b ≡ false → ContentStands C s a b (content_view ct) → is_keyed (Some y) ≡ false
unkeyed C s a y ct true e h st = absurd (cc h)
unkeyed C s a y (OfScalar None) false e h st = ap (λ (z : Content). is_keyed (Some (record { content = z; reads = y.reads; writes = y.writes }))) e
unkeyed C s a y (OfScalar (Some v)) false e h st = ap (λ (z : Content). is_keyed (Some (record { content = z; reads = y.reads; writes = y.writes }))) e
unkeyed C s a y (OfArray z) false e h st = absurd st

keyed : (C : Code) (s : CodeState) (a : Place) (ct : Content) (b : Bool) → b ≡ true → ContentStands C s a b (content_view ct) → IsArray ct
keyed C s a ct false h st = absurd (cc h)
keyed C s a (OfScalar None) true h st = absurd st
keyed C s a (OfScalar (Some v)) true h st = absurd st
keyed C s a (OfArray z) true h st = tt

positive : (n : ℕ) → (n ≡ 0 → ⊥) → 0 < n
positive zero h = absurd (h refl)
positive (suc n) h = omega arith

absent : (o : Option Scalar) → ((v : Scalar) → o ≡ Some v → ⊥) → o ≡ None
absent None h = refl
absent (Some v) h = absurd (h v refl)

pair_in : (es : List Element) (e : Element) → In e es → In (e.key, e.value) (pairs es)
pair_in [] e i = absurd i
pair_in (x ∷ es) e (inl p) = inl (λ i. ((p i).key, (p i).value))
pair_in (x ∷ es) e (inr m) = inr (pair_in es e m)

module _ (C : Code) (I : IsCode C) (es : List Event) (F : Fields) (x : Stands C (layout_of C) es F) (w n : ℕ) (t : CodeState) (reached : replayed C (es ++ End w n ∷ []) ≡ Some t) (row : Row) (row_is : row_of F.rows n ≡ Some row) (xs : List (Answer Key Scalar)) (known : SeesAll (code_system C) x.state (task_inputs C (task_of F.frames row.job)) xs) (store : Store) (cells : F.cells ≡ cells_view store.cells) where
  abbrev of_job : Job → Computed
  of_job j = computed_by C (task_of F.frames j) xs

  module _ (k e c : ℕ) (is : row.job ≡ Does k e c) (d : ℕ) (to : IsTarget C F.frames (Does k e c) d) where
    ld : (d' : ℕ) × (q : List Step) × (v : Variable) × (job_slot C (layout_of C) F.frames (Does k e c) to.0 ≡ DatumOf d') × (place_at C (path_of F.frames k) to.0 ≡ DatumAt q v) × In (d', DatumAt q v) x.names
    ld = leads C I es F x w n t reached row row_is xs known k e c is to.0 (right C I es F x w n t reached row row_is xs known k e c is to.0 to.1)

    abbrev place : Place
    place = DatumAt ld.1 ld.2

    named : In (d, place) x.names
    named = (let same : ld.0 ≡ d = cc (ld.3, to.2) in subst (λ (m : ℕ). In (m, place) x.names) same ld.5)

    cell : (y : Datum) × (at store d ≡ Some y) × (slot_at F.cells d ≡ Some (cell_view y)) × ContentStands C x.state place ld.2.array (content_view y.content)
    cell =
        let z = x.data_stand.there d place named in
        let y = of_datum (at store d) z.0 (sym (cell_there store.cells d) ∙ sym (ap (λ l. slot_at l d) cells) ∙ z.1) in
        (y.0, y.1, z.1 ∙ ap (λ (o : Counted). Some o) (sym y.2), subst (λ (o : Counted). ContentStands C x.state place ld.2.array o.content) (sym y.2) z.2.content)

    shape : has_shape (entry C e).act (entry C e).needs ≡ true
    shape = (and_parts _ _ (I.shape e)).1

    pub scalar_there : (u : Scalar) → of_job (Does k e c) ≡ Gives u → is_keyed (at store d) ≡ false
    scalar_there u g =
        let plain : ld.2.array ≡ false = scalar_place C (path_of F.frames k) to.0.up to.0.owned ld.1 ld.2 (scalar_target (entry C e).act (entry C e).needs (entry C e).node (answered C (path_of F.frames k) (entry C e).needs xs) to.0 u shape to.1 g) ld.4 in
        ap is_keyed cell.1 ∙ unkeyed C x.state place cell.0 cell.0.content ld.2.array refl plain cell.3

    pub array_there : (ys : Elements) → of_job (Does k e c) ≡ Inserts ys → IsArrayAt store d × (0 < (datum store d).writes)
    array_there ys g =
        let many : ld.2.array ≡ true = array_place C (path_of F.frames k) to.0.up to.0.owned ld.1 ld.2 (array_target (entry C e).act (entry C e).needs (entry C e).node (answered C (path_of F.frames k) (entry C e).needs xs) to.0 ys shape to.1 g) ld.4 in
        let open_ = positive cell.0.writes (λ z. not_closed C I es F x w n t reached row row_is xs known k e c is to.0 (right C I es F x w n t reached row row_is xs known k e c is to.0 to.1) ld.1 ld.2 ld.4 ((writes_told C I (layout_of C) es F x d place (cell_view cell.0) named cell.2).0 z)) in (
          subst (λ (o : Option Datum). IsSomeAnd o (λ y. IsArray y.content)) (sym cell.1) (keyed C x.state place cell.0.content ld.2.array many cell.3),
          subst (λ (o : Option Datum). 0 < (or_none o).writes) (sym cell.1) open_,
        )

  -- what goes well takes its elements
  takes : (j : Job) → row.job ≡ j → (e : Effect) → GoesWell C F.frames F.cells j (of_job j) e → (ys : List Element) → of_job j ≡ Inserts (pairs ys) → values_in e ≡ pairs ys → (d : ℕ) → target_in e ≡ Some d → HasPlacesFor ys (array_at store d) → Takes d ys store
  takes Script is e g ys q vs d td room = absurd (g.leads d td)
  takes (Does k i c) is e g ys q vs d td room =
      let z = array_there k i c is d (g.leads d td) (pairs ys) q in
      record {
        is_array = z.0;
        is_open = z.1;
        has_room = room;
        apart = sym (ap rising (ap elements vs ∙ elements_back ys)) ∙ g.rises;
        unused = λ one m. absent (found one.key (array_at store d).elements) (λ v h. g.apart (record {
          key = d;
          element = (one.key, one.value);
          older = v;
          elements = pairs ys;
          inserts = q;
          stores = subst (λ l. In (one.key, one.value) l) (sym (ap (λ (o : Option ℕ). if is_place d o then values_in e else []) td ∙ ap (λ b. if b then values_in e else []) (nat_same d) ∙ vs) ∙ g.stored d) (pair_in ys one m);
          has = ap (λ l. cell_element one.key (slot_at l d)) cells ∙ element_there store d one.key ∙ h;
        }));
      }

  unkeyed_target : (j : Job) → row.job ≡ j → (o : Option ℕ) (v : Scalar) → GoesWell C F.frames F.cells j (of_job j) (To.Stores o v) → IsScalarTarget o store
  unkeyed_target Script is o v g d h = absurd (g.leads d h)
  unkeyed_target (Does k i c) is o v g d h = scalar_there k i c is d (g.leads d h) v g.computed

  pub can_store : (e : Effect) → IsEffect C F.frames F.cells row.job (of_job row.job) e → CanStore e store
  can_store (To.Fails f) g = tt
  can_store (To.Stores d v) g = unkeyed_target row.job refl d v g
  can_store (To.InsertsElement d k v) g = λ m h room. takes row.job refl (To.InsertsElement d k v) g (element k v ∷ []) g.computed refl m h room
  can_store (To.Inserts d ys) g = λ m h room. takes row.job refl (To.Inserts d ys) g ys.items g.computed refl m h room
  can_store (To.Prints v) g = tt
  can_store To.Passes g = tt
  can_store (To.Opens o) g = tt
