-- Whole code whose scalars have sources, as a system: what an item stores or opens, it hands the right on.
use Rattle.std.proofs.Common.{◌≡◌, ◌⊎◌, inl, inr, ℕ, Bool, true, false, List, [], ◌∷◌, map, refl, sym, ap, ◌∙◌, subst, Option, None, Some}
use Rattle.std.specs.Prelude.{◌&&◌, Result, Ok, Err, pos}
use Rattle.std.specs.List.{flat_map, list_all}
use Rattle.std.proofs.lemmas.Bool.{and_parts}
use Rattle.dataflow.specs.System.{In, Answer, Found, Missing, Content, Bad, Effect, Good, Opening, Outcome, Write}
use Rattle.dataflow.specs.Laws.{Can}
use Rattle.dataflow.proofs.Lists.{in_left, in_map, in_unmap, tasks_in}
use Rattle.dataflow.proofs.Settled.{good_same}
use Rattle.values.specs.Values.{scalar_of, truth_of}
use Rattle.values.specs.declared.fault.OpFault.{OpFault}
use Rattle.values.specs.declared.key.Key.{Key}
use Rattle.values.specs.declared.key.Key.TheVariants.{Number as number_key}
use Rattle.values.specs.declared.value.Scalar.{Scalar}
use Rattle.values.specs.declared.value.Value.{Value}
use Rattle.task_code.specs.Code.{Act, Assert, ByCalls, ByMain, ByStep, ByWait, Call, Calling, Cell, Code, Copy, Each, Fill, If, InPlace, Loop, Name, Need, Opener, Print, InsertElement, Range, Read, Set, Through, Variable, Wait, Way, body, entry, here, is_array_name, loop_of, loop_variables, scalar, stored_of, turn_variables, ways}
use Rattle.task_code.specs.Compute.{Computed, EntryFault, Fails, Gives, Inserts, Opens, Takes, Turns, answer_at, branched, compute, eval, given, key_scalar, read}
use Rattle.task_code.specs.Effects.{Item, Main, Task, block, bound, branch_instances, chunk, effect_at, instances, is_too_deep, only, outcome_of, rest, step_at, stored_at, stores, turn_bound, turns_of}
use Rattle.task_code.specs.Places.{Datum, Place, Step, place_array, place_at}
use Rattle.task_code.specs.Shape.{fits_kinds, has_shape}
use Rattle.task_code.specs.System.{answered, code_system, data_among, task_reads, task_writes}
use Rattle.task_code.specs.Places.{Constant, Nowhere}
use Rattle.task_code.specs.Whole.{IsCode, OpenedBy}
use Rattle.task_code.proofs.Counted.{gather_in}
use Rattle.task_code.proofs.Opens.{IsRest, OpensBlock, effect_is, found, in_block, in_rest, made_in, no_loop_rest, opened, rest_makes, seen_place, some_same, stepped}
use Rattle.task_code.proofs.Places.{declared_at, only_here, scalar_name}
use Rattle.code_laws.specs.Sources.{FindsSources, HandsOn, IsAssigned, IsTurns, Reached, at_start, by_entry, always_opens}
use Rattle.code_laws.proofs.Holders.{IsSourced, Supplies}

abbrev E : Type 0
E = Effect Task Place Key Scalar

abbrev O : Type 0
O = Opening Task Place

-- a result that is no fault
abbrev IsFound : Computed → Type 0
IsFound (Fails f) = ⊥
IsFound (Gives v) = Unit {0}
IsFound (Inserts xs) = Unit {0}
IsFound (Takes b) = Unit {0}
IsFound (Turns ts) = Unit {0}
IsFound Opens = Unit {0}

given_is : (r : Result Value OpFault) → IsFound (given r) → (v : Scalar) × (given r ≡ Gives v)
given_is (Ok v) h = (scalar_of v, refl)
given_is (Err f) h = absurd h

read_is : (o : Option (Answer Key Scalar)) → IsFound (read o) → (v : Scalar) × (read o ≡ Gives v)
read_is None h = (_, refl)
read_is (Some (Found v)) h = (v, refl)
read_is (Some Missing) h = absurd h
read_is (Some (Content xs)) h = (_, refl)

always_no_loop : (a : Act) → always_opens a ≡ true → loop_of a ≡ None
always_no_loop (Call b rs os) h = refl
always_no_loop (If e b d) h = refl
always_no_loop (Wait hs b) h = refl
always_no_loop (Cell e) h = refl
always_no_loop Read h = refl
always_no_loop (Set r e) h = refl
always_no_loop (Fill r es) h = refl
always_no_loop (Copy r) h = refl
always_no_loop (InsertElement r i e) h = refl
always_no_loop (Print e) h = refl
always_no_loop (Assert e) h = refl
always_no_loop (Range l h' s w) h = absurd (cc)
always_no_loop (Each w) h = absurd (cc)

-- an act that always opens a block has one
opens_one : (a : Act) (offset : ℕ) (p : List Step) (xs : List (Answer Key Scalar)) → always_opens a ≡ true → IsFound (compute a xs) → (s : ℕ × List Step) × In s (instances a offset p 0 (compute a xs))
opens_one (Call b rs os) offset p xs h g = ((b, step_at offset (number_key (pos 0)) p), inl refl)
opens_one (Wait hs b) offset p xs h g = ((b, p), inl refl)
opens_one (If e b (Some d)) offset p xs h g = by (eval xs e) g
  where
    at : (t : Bool) → (s : ℕ × List Step) × In s (branch_instances (Takes t) b (Some d) offset p)
    at true = ((b, step_at offset (number_key (pos 0)) p), inl refl)
    at false = ((d, step_at offset (number_key (pos 1)) p), inl refl)

    by : (r : Result Value OpFault) → IsFound (branched r) → (s : ℕ × List Step) × In s (branch_instances (branched r) b (Some d) offset p)
    by (Ok v) g = at (truth_of v)
    by (Err f) g = absurd g
opens_one (If e b None) offset p xs h g = absurd (cc)
opens_one (Cell e) offset p xs h g = absurd (cc)
opens_one Read offset p xs h g = absurd (cc)
opens_one (Set r e) offset p xs h g = absurd (cc)
opens_one (Fill r es) offset p xs h g = absurd (cc)
opens_one (Copy r) offset p xs h g = absurd (cc)
opens_one (InsertElement r i e) offset p xs h g = absurd (cc)
opens_one (Print e) offset p xs h g = absurd (cc)
opens_one (Assert e) offset p xs h g = absurd (cc)
opens_one (Range l h' s w) offset p xs h g = absurd (cc)
opens_one (Each w) offset p xs h g = absurd (cc)

-- what is opened by a step is opened by one entry
stepped_by : (C : Code) (i n : ℕ) (w : Way) (o : Opener) → OpenedBy C i w o → o ≡ ByStep n → n ≡ i
stepped_by C i n InPlace o h e = (let q : ByWait i ≡ ByStep n = sym h ∙ e in absurd (cc))
stepped_by C i n Through o h e = (let q : ByStep n ≡ ByStep i = sym e ∙ h in cc)
stepped_by C i n Calling o h e = (let q : ByCalls ≡ ByStep n = sym h.0 ∙ e in absurd (cc))

pub among_in : (a : Place) (ds : List Place) → In a (data_among ds) → In a ds
among_in a [] h = absurd h
among_in a (Datum p v ∷ ds) h = elim h [ inl q ↦ inl q | inr i ↦ inr (among_in a ds i) ]
among_in a (Constant v ∷ ds) h = inr (among_in a ds h)
among_in a (Nowhere ∷ ds) h = elim h [ inl q ↦ inl q | inr i ↦ inr (among_in a ds i) ]

module _ (C : Code) where
  found_is : (x : Computed) (b : Bool) (e e' : E) → outcome_of x b e ≡ Good e' → IsFound x
  found_is (Fails f) b e e' h = (let q : ◌≡◌ {A = Outcome Task Place Key Scalar EntryFault} (Bad f) (Good e') = h in absurd (cc))
  found_is (Gives v) b e e' h = tt
  found_is (Inserts xs) b e e' h = tt
  found_is (Takes t) b e e' h = tt
  found_is (Turns ts) b e e' h = tt
  found_is Opens b e e' h = tt

  pub main_opens : (e : E) (o : O) → Can (code_system C) Main e → In o e.opens → o ≡ block C (0, [])
  main_opens e o can io = elim (subst (λ (x : E). In o x.opens) (sym (good_same can.is)) io) [ inl q ↦ q | inr n ↦ absurd n ]

  -- what is made is a datum
  pub makes_data : (t : Task) (e : E) (o : O) (d : Place) → Can (code_system C) t e → In o e.opens → In d o.makes → (p : List Step) × (v : Variable) × (d ≡ Datum p v)
  makes_data Main e o d can io id = (let k = made_in C (0, []) o d (main_opens e o can io) id in ([], k.0, k.2))
  makes_data (Item i p c) e o d can io id = by (opened C i c p e can o io)
    where
      by : OpensBlock C i p c (found C can) o ⊎ IsRest C i p c o → (p : List Step) × (v : Variable) × (d ≡ Datum p v)
      by (inl b) = (let k = made_in C b.instance o d b.is id in (b.instance.1, k.0, k.2))
      by (inr r) = absurd (rest_makes C i c p o d r id)

  -- an entry of a body that is reached, of the first chunk or a loop
  record IsBegun (i c : ℕ) : Type 0 where
    pub home : ℕ
    pub reached : Reached C home
    pub stands : In i (body C home).entries
    pub begins : (c ≡ 0) ⊎ ((l : Loop) × (loop_of (entry C i).act ≡ Some l))

  abbrev Begun : Task → Type 0
  Begun Main = Unit {0}
  Begun (Item i p c) = IsBegun i c

  -- the body that it opens is reached
  reached_by : {i c : ℕ} (z : IsBegun i c) (p : List Step) (x : Computed) (o : O) (b : OpensBlock C i p c x o) → Reached C b.instance.0
  reached_by {i} z p x o b = by_entry i b.by.way z.reached z.stands b.by.is_way

  opened_begun : (t u : Task) (e : E) (o : O) → Begun t → Can (code_system C) t e → In o e.opens → In u o.tasks → Begun u
  opened_begun Main u e o z can io iu =
      let m = in_block C (0, []) o u (main_opens e o can io) iu in
      subst (λ (x : Task). Begun x) (sym m.2) (record { home = 0; reached = at_start; stands = m.1; begins = inl refl })
  opened_begun (Item i p c) u e o z can io iu = by (opened C i c p e can o io)
    where
      by : OpensBlock C i p c (found C can) o ⊎ IsRest C i p c o → Begun u
      by (inl b) =
          let m = in_block C b.instance o u b.is iu in
          subst (λ (x : Task). Begun x) (sym m.2) (record { home = b.instance.0; reached = reached_by z p (found C can) o b; stands = m.1; begins = inl refl })
      by (inr r) = subst (λ (x : Task). Begun x) (sym (in_rest C i c p o u r iu)) (record { home = z.home; reached = z.reached; stands = z.stands; begins = inr (r.loop, r.loops) })

  -- what a block's entry may read of its own block, it has the right to by the variable's name
  read_here : (q : List Step) (j : ℕ) (v : Variable) → In (Datum q v) (task_reads C (Item j q 0)) → In (here v) (entry C j).reads
  read_here q j v h =
      let r = in_unmap (place_at C q) (Datum q v) (entry C j).reads (among_in (Datum q v) (map (place_at C q) (entry C j).reads) h) in
      let n : r.0 ≡ here v = only_here C q r.0.up r.0.owned v r.2 in
      subst (λ (x : Name). In x (entry C j).reads) n r.1

  -- an entry of the block may write it
  assigned_in : (s : ℕ × List Step) (e : E) (o : O) (v : Variable) → o ≡ block C s → In o e.opens → IsAssigned C s.0 v → Supplies (code_system C) e (Datum s.1 v)
  assigned_in s e o v q io a =
      inr (
        Item a.assigner s.1 0,
        tasks_in (Item a.assigner s.1 0) o e.opens io (subst (λ (x : O). In (Item a.assigner s.1 0) x.tasks) (sym q) (in_map (λ j. Item j s.1 0) a.assigner (body C s.0).entries a.there)),
        subst (λ (x : Place). In x (map (place_at C s.1) (entry C a.assigner).writes)) (declared_at C s.1 v) (in_map (place_at C s.1) (here v) (entry C a.assigner).writes a.right),
      )

  loop_stores : (a : Act) (l : Loop) (node offset : ℕ) (p : List Step) (c : ℕ) (x : Computed) → loop_of a ≡ Some l → stores C a node offset p c x ≡ flat_map (bound l offset p) (chunk c (turns_of x))
  loop_stores (Range lo h s v) l node offset p c x e = ap (λ (z : Loop). flat_map (bound z offset p) (chunk c (turns_of x))) (some_same e)
  loop_stores (Each v) l node offset p c x e = ap (λ (z : Loop). flat_map (bound z offset p) (chunk c (turns_of x))) (some_same e)
  loop_stores (Cell y) l node offset p c x e = absurd (cc)
  loop_stores Read l node offset p c x e = absurd (cc)
  loop_stores (Call b rs os) l node offset p c x e = absurd (cc)
  loop_stores (Set t y) l node offset p c x e = absurd (cc)
  loop_stores (Fill t es) l node offset p c x e = absurd (cc)
  loop_stores (Copy t) l node offset p c x e = absurd (cc)
  loop_stores (InsertElement t i y) l node offset p c x e = absurd (cc)
  loop_stores (Print y) l node offset p c x e = absurd (cc)
  loop_stores (Assert y) l node offset p c x e = absurd (cc)
  loop_stores (If y b d) l node offset p c x e = absurd (cc)
  loop_stores (Wait hs b) l node offset p c x e = absurd (cc)

  -- a turn stores each of its variables
  turn_stores : (l : Loop) (offset : ℕ) (p : List Step) (t : Key × Scalar) (v : Variable) → In v (loop_variables l) → (x : Scalar) × In (record { place = Datum (stepped offset t.0 p) v; key = only; value = x }) (bound l offset p t)
  turn_stores l offset p t v (inl q) = (t.1, inl (λ i. record { place = Datum (stepped offset t.0 p) (q i); key = only; value = t.1 }))
  turn_stores l offset p t v (inr h) = (let r = by l.turn h in (r.0, inr r.1))
    where
      by : (o : Option ℕ) → In v (turn_variables o) → (x : Scalar) × In (record { place = Datum (stepped offset t.0 p) v; key = only; value = x }) (turn_bound o (stepped offset t.0 p) t.0)
      by None h = absurd h
      by (Some n) h =
          elim h [
            | inl q ↦ (key_scalar t.0, inl (λ i. record { place = Datum (stepped offset t.0 p) (q i); key = only; value = key_scalar t.0 }))
            | inr z ↦ absurd z
          ]

  -- a scalar is stored
  one_stored : (p : List Step) (r t : Name) (y : Computed) → r ≡ t → ((v : Scalar) × (y ≡ Gives v)) → (v : Scalar) × In (record { place = place_at C p r; key = only; value = v }) (stored_at (place_at C p t) y)
  one_stored p r t y q x =
      (x.0, subst (λ (z : Computed). In (record { place = place_at C p r; key = only; value = x.0 }) (stored_at (place_at C p t) z)) (sym x.1) (inl (λ i. record { place = place_at C p (q i); key = only; value = x.0 })))

  no_array : (r t : Name) (b : Bool) {B : Type 0} → r ≡ t → is_array_name r ≡ false → (is_array_name t && b) ≡ true → B
  no_array r t b q n h = (let m = (and_parts (is_array_name t) b h).0 in let k = sym (ap is_array_name q) ∙ n in absurd (cc))

  stored_itself : (a : Act) (ns : List Need) (node offset : ℕ) (p : List Step) (c : ℕ) (xs : List (Answer Key Scalar)) (r : Name) → has_shape a ns ≡ true → In r (stored_of node a) → is_array_name r ≡ false → IsFound (compute a xs) → (v : Scalar) × In (record { place = place_at C p r; key = only; value = v }) (stores C a node offset p c (compute a xs))
  stored_itself (Cell e) ns node offset p c xs r sh h n g = elim h [ inl q ↦ one_stored p r (here (scalar node)) (given (eval xs e)) q (given_is (eval xs e) g) | inr z ↦ absurd z ]
  stored_itself Read ns node offset p c xs r sh h n g = elim h [ inl q ↦ one_stored p r (here (scalar node)) (read (answer_at xs 0)) q (read_is (answer_at xs 0) g) | inr z ↦ absurd z ]
  stored_itself (Set t e) ns node offset p c xs r sh h n g = elim h [ inl q ↦ one_stored p r t (given (eval xs e)) q (given_is (eval xs e) g) | inr z ↦ absurd z ]
  stored_itself (Fill t es) ns node offset p c xs r sh h n g = elim h [ inl q ↦ no_array r t _ q n sh | inr z ↦ absurd z ]
  stored_itself (Copy t) ns node offset p c xs r sh h n g = elim h [ inl q ↦ no_array r t _ q n sh | inr z ↦ absurd z ]
  stored_itself (InsertElement t i e) ns node offset p c xs r sh h n g = elim h [ inl q ↦ no_array r t _ q n sh | inr z ↦ absurd z ]
  stored_itself (Call b rs os) ns node offset p c xs r sh h n g = absurd h
  stored_itself (Print e) ns node offset p c xs r sh h n g = absurd h
  stored_itself (Assert e) ns node offset p c xs r sh h n g = absurd h
  stored_itself (If e b d) ns node offset p c xs r sh h n g = absurd h
  stored_itself (Range lo hi st w) ns node offset p c xs r sh h n g = absurd h
  stored_itself (Each w) ns node offset p c xs r sh h n g = absurd h
  stored_itself (Wait hs b) ns node offset p c xs r sh h n g = absurd h

  module _ (I : IsCode C) (F : FindsSources C) where
    pub shape : (i : ℕ) → has_shape (entry C i).act (entry C i).needs ≡ true
    shape i = (and_parts (list_all fits_kinds (entry C i).needs) _ (I.shape i)).1

    -- a loop that opens the block stores it
    turned_in : (i c : ℕ) (p : List Step) (e : E) (o : O) (can : Can (code_system C) (Item i p c) e) (b : OpensBlock C i p c (found C can) o) (v : Variable) → IsTurns C b.instance.0 v → Supplies (code_system C) e (Datum b.instance.1 v)
    turned_in i c p e o can b v t = by b.by.slot
      where
        opener : t.opener ≡ i
        opener = stepped_by C i t.opener b.by.way (body C b.instance.0).opener (I.fits i b.by.way b.instance.0 b.by.is_way).opened t.opens

        loops : loop_of (entry C i).act ≡ Some t.loop
        loops = subst (λ (n : ℕ). loop_of (entry C n).act ≡ Some t.loop) opener t.loops

        by : ((c ≡ 0) × (loop_of (entry C i).act ≡ None)) ⊎ ((w : Loop) × (loop_of (entry C i).act ≡ Some w) × (b.instance.0 ≡ w.body) × (b.instance.1 ≡ stepped (entry C i).offset b.by.key p) × In b.by.key (map (λ (x : Key × Scalar). x.0) (chunk c (turns_of (found C can))))) → Supplies (code_system C) e (Datum b.instance.1 v)
        by (inl z) = (let q : ◌≡◌ {A = Option Loop} (Some t.loop) None = sym loops ∙ z.1 in absurd (cc))
        by (inr z) =
            let turn = in_unmap (λ (x : Key × Scalar). x.0) b.by.key (chunk c (turns_of (found C can))) z.4 in
            let w = turn_stores t.loop (entry C i).offset p turn.0 v t.variable in
            let path : stepped (entry C i).offset turn.0.0 p ≡ b.instance.1 = ap (λ (k : Key). stepped (entry C i).offset k p) turn.2 ∙ sym z.3 in
            let there = gather_in (bound t.loop (entry C i).offset p) (chunk c (turns_of (found C can))) turn.0 _ turn.1 w.1 in
            let stored = subst (λ (l : List (Write Place Key Scalar)). In (record { place = Datum (stepped (entry C i).offset turn.0.0 p) v; key = only; value = w.0 }) l) (sym (loop_stores (entry C i).act t.loop (entry C i).node (entry C i).offset p c (found C can) loops)) there in
            let written = subst (λ (x : E). In (record { place = Datum (stepped (entry C i).offset turn.0.0 p) v; key = only; value = w.0 }) x.writes) (effect_is C i c p e can) stored in
            inl (w.0, subst (λ (q : List Step). In (record { place = Datum q v; key = only; value = w.0 }) e.writes) path written)

    assigned : (t u : Task) (e : E) (o : O) (d : Place) → Begun t → Can (code_system C) t e → In o e.opens → In u o.tasks → place_array d ≡ false → In d o.makes → In d (task_reads C u) → Supplies (code_system C) e d
    assigned Main u e o d z can io iu sc id ir =
        let q = main_opens e o can io in
        let m = in_block C (0, []) o u q iu in
        let k = made_in C (0, []) o d q id in
        subst (λ (x : Place). Supplies (code_system C) e x) (sym k.2) (by q k.0 (F.assigned 0 m.0 k.0 at_start k.1 (subst (λ (a : Place). place_array a ≡ false) k.2 sc) m.1 (read_here [] m.0 k.0 (reads m.2 k.2))))
      where
        reads : {j : ℕ} {v : Variable} → u ≡ Item j [] 0 → d ≡ Datum [] v → In (Datum [] v) (task_reads C (Item j [] 0))
        reads {j} {v} p q = subst (λ (a : Place). In a (task_reads C (Item j [] 0))) q (subst (λ (x : Task). In d (task_reads C x)) p ir)

        by : o ≡ block C (0, []) → (v : Variable) → IsTurns C 0 v ⊎ IsAssigned C 0 v → Supplies (code_system C) e (Datum [] v)
        by q v (inl t) = (let h : ByMain ≡ ByStep t.opener = sym I.script ∙ t.opens in absurd (cc))
        by q v (inr a) = assigned_in (0, []) e o v q io a
    assigned (Item i p c) u e o d z can io iu sc id ir = by (opened C i c p e can o io)
      where
        by : OpensBlock C i p c (found C can) o ⊎ IsRest C i p c o → Supplies (code_system C) e d
        by (inr r) = absurd (rest_makes C i c p o d r id)
        by (inl b) = subst (λ (x : Place). Supplies (code_system C) e x) (sym k.2) (at (F.assigned b.instance.0 m.0 k.0 (reached_by z p (found C can) o b) k.1 (subst (λ (a : Place). place_array a ≡ false) k.2 sc) m.1 (read_here b.instance.1 m.0 k.0 reads)))
          where
            m : (j : ℕ) × In j (body C b.instance.0).entries × (u ≡ Item j b.instance.1 0)
            m = in_block C b.instance o u b.is iu

            k : (v : Variable) × In v (body C b.instance.0).makes × (d ≡ Datum b.instance.1 v)
            k = made_in C b.instance o d b.is id

            reads : In (Datum b.instance.1 k.0) (task_reads C (Item m.0 b.instance.1 0))
            reads = subst (λ (a : Place). In a (task_reads C (Item m.0 b.instance.1 0))) k.2 (subst (λ (x : Task). In d (task_reads C x)) m.2 ir)

            at : IsTurns C b.instance.0 k.0 ⊎ IsAssigned C b.instance.0 k.0 → Supplies (code_system C) e (Datum b.instance.1 k.0)
            at (inl t) = turned_in i c p e o can b k.0 t
            at (inr a) = assigned_in b.instance e o k.0 b.is io a

    handed : (t : Task) (e : E) (d : Place) → Begun t → Can (code_system C) t e → place_array d ≡ false → In d (task_writes C t) → Supplies (code_system C) e d
    handed Main e d z can sc h = absurd h
    handed (Item i p c) e d z can sc h = by (F.handed z.home i r.0 z.reached z.stands r.1 scalar_r)
      where
        r : (r : Name) × In r (entry C i).writes × (place_at C p r ≡ d)
        r = in_unmap (place_at C p) d (entry C i).writes h

        scalar_r : is_array_name r.0 ≡ false
        scalar_r = scalar_name C p r.0.up r.0.owned (subst (λ (a : Place). place_array a ≡ false) (sym r.2) sc)

        is_found : IsFound (found C can)
        is_found = found_is (found C can) (is_too_deep (entry C i).act p (instances (entry C i).act (entry C i).offset p c (found C can))) (effect_at C i p c (found C can)) e can.is

        first : always_opens (entry C i).act ≡ true → c ≡ 0
        first a = at z.begins
          where
            at : (c ≡ 0) ⊎ ((l : Loop) × (loop_of (entry C i).act ≡ Some l)) → c ≡ 0
            at (inl q) = q
            at (inr l) = (let q : ◌≡◌ {A = Option Loop} (Some l.0) None = sym l.1 ∙ always_no_loop (entry C i).act a in absurd (cc))

        -- the block that it opens
        opens : always_opens (entry C i).act ≡ true → (o : O) × In o e.opens
        opens a =
            let x = opens_one (entry C i).act (entry C i).offset p (answered C p (entry C i).needs can.answers) a is_found in
            let is : In x.0 (instances (entry C i).act (entry C i).offset p c (found C can)) = subst (λ (n : ℕ). In x.0 (instances (entry C i).act (entry C i).offset p n (found C can))) (sym (first a)) x.1 in (
              block C x.0,
              subst (λ (y : E). In (block C x.0) y.opens) (effect_is C i c p e can) (in_left (block C x.0) (map (block C) (instances (entry C i).act (entry C i).offset p c (found C can))) (rest (loop_of (entry C i).act) i p c (found C can)) (in_map (block C) x.0 _ is)),
            )

        handed_on : always_opens (entry C i).act ≡ true → ((w : Way) (b : ℕ) → In (w, b) (ways (entry C i).act) → HandsOn C i w b r.0) → (o : O) → In o e.opens → OpensBlock C i p c (found C can) o ⊎ IsRest C i p c o → Supplies (code_system C) e d
        handed_on a g o io (inr x) = no_loop_rest C i c p o x (always_no_loop (entry C i).act a)
        handed_on a g o io (inl b) =
            let x = g b.by.way b.instance.0 b.by.is_way in
            let same : place_at C b.instance.1 x.inside ≡ d = seen_place C b.by.way (entry C i).offset p b.by.key b.instance.1 x.inside r.0 b.by.path_is x.seen ∙ r.2 in
            inr (
              Item x.holder b.instance.1 0,
              tasks_in (Item x.holder b.instance.1 0) o e.opens io (subst (λ (y : O). In (Item x.holder b.instance.1 0) y.tasks) (sym b.is) (in_map (λ j. Item j b.instance.1 0) x.holder (body C b.instance.0).entries x.there)),
              subst (λ (y : Place). In y (map (place_at C b.instance.1) (entry C x.holder).writes)) same (in_map (place_at C b.instance.1) x.inside (entry C x.holder).writes x.right),
            )

        by : (In r.0 (stored_of (entry C i).node (entry C i).act) ⊎ ((always_opens (entry C i).act ≡ true) × ((w : Way) (b : ℕ) → In (w, b) (ways (entry C i).act) → HandsOn C i w b r.0))) → Supplies (code_system C) e d
        by (inl m) =
            let x = stored_itself (entry C i).act (entry C i).needs (entry C i).node (entry C i).offset p c (answered C p (entry C i).needs can.answers) r.0 (shape i) m scalar_r is_found in
            let w = subst (λ (y : E). In (record { place = place_at C p r.0; key = only; value = x.0 }) y.writes) (effect_is C i c p e can) x.1 in
            inl (x.0, subst (λ (a : Place). In (record { place = a; key = only; value = x.0 }) e.writes) r.2 w)
        by (inr g) = (let o = opens g.0 in handed_on g.0 g.1 o.0 o.1 (opened C i c p e can o.0 o.1))

    pub sourced : IsSourced (code_system C)
    sourced = record {
      Begun = Begun;
      main_begun = tt;
      opened_begun = opened_begun;
      main_reads_nothing = λ a h. h;
      assigned = assigned;
      handed = handed;
    }
