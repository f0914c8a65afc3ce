-- A scalar that an entry of its own block may read has a source there.
use Rattle.std.proofs.Common.{◌≡◌, ◌⊎◌, inl, inr, ℕ, zero, suc, ◌<◌, Bool, true, false, List, [], ◌∷◌, length, refl, sym, ap, ◌∙◌, subst, Option, Some, None}
use Rattle.dataflow.specs.System.{In}
use Rattle.dataflow.proofs.Lists.{in_split}
use Rattle.language.specs.Core.{Owned, local, input, output, Name, Cell, Call, Part, inner, calls, Stmt, stmt, Action, declare, call_alone, when, choose, range, Block, Core}
use Rattle.language.specs.Members.{◌∈◌, first, later}
use Rattle.language.specs.Parts.{block_list, owners}
use Rattle.language.specs.Single.{SinglyAssigned, declared_here, IsRead}
use Rattle.language_laws.proofs.Declared.{local_same}
use Rattle.language_laws.specs.Scoped.{Scoped}
use Rattle.language_laws.specs.TypedValues.{own_parts}
use Rattle.task_code.specs.Code as code
use Rattle.task_code.specs.Code.{Variable, Local, Act, Code, Way, Through, Calling, Opener, ByStep, entry, body, here, loop_of, loop_variables, scalar, targets, targets_of, ways}
use Rattle.task_code.specs.Exact.{itself}
use Rattle.task_code.specs.Whole.{IsCode}
use Rattle.code_rules.specs.CodeNames.{owned_as}
use Rattle.code_rules.specs.Emitted.{HasRights}
use Rattle.code_rules.specs.IsCodeOf as of
use Rattle.code_rules.specs.IsCodeOf.{Layout}
use Rattle.code_rules.specs.Laying.{Kinds, PlainAs, plain_after, cell_data, data_in, data_of, node_here, one_output, output_scalars}
use Rattle.code_rules.specs.Laid.{Table, Stands, StmtLaid, declares_laid, call_laid, simple_laid, branch_laid, branches_laid, range_laid, each_laid, wait_laid, StmtsLaid, none_laid, one_laid, BodyLaid, IsLaid}
use Rattle.code_laws.specs.Standing.{CallsAreFound}
use Rattle.code_laws.proofs.Lookup.{before_own}
use Rattle.code_laws.proofs.MadeWhole.{data_before, plain_before}
use Rattle.code_laws.proofs.WholeOpenings.{no_simple_way, OpensAs, opens_header, opens_wait, opens_call, opens_as}
use Rattle.code_laws.proofs.Scoping.{before}
use Rattle.code_laws.proofs.Roles.{OwnOf, own_simple, own_branch, own_branches, own_range, own_each, own_wait, Role}
use Rattle.code_laws.proofs.Shapes.{home_in, body_within}
use Rattle.code_laws.specs.Sources.{IsTurns, IsAssigned, Reached, at_start, by_entry}
use Rattle.code_laws.proofs.Counting.{named_target}
use Rattle.code_laws.proofs.Handed.{kinds_same}
use Rattle.code_laws.proofs.Levels.{SameSlot, level, same_here, apart}
use Rattle.code_laws.proofs.Named.{call_among, output_named, Held, held}
use Rattle.code_laws.proofs.Reading.{Parted, parted, Use, of_an_array, of_a_write, of_a_read, uses, cell_stored}

-- DATA OF PARTS

-- a scalar of these parts is a cell that is not plain, or the output of a call
data OfParts (l : Layout) (ps : List Part) (v : Variable) : Type 0 where
  of_a_cell : (c : Cell) → inner c ∈ ps → l.plain c.node ≡ false → v ≡ scalar c.node → OfParts l ps v
  of_a_call : (c : Call) (n : ℕ) → calls c ∈ ps → local n ∈ owners c.outputs → v ≡ scalar n → OfParts l ps v

one_later : {l : Layout} {p : Part} {ps : List Part} {v : Variable} → OfParts l ps v → OfParts l (p ∷ ps) v
one_later (of_a_cell c m e q) = of_a_cell c (later m) e q
one_later (of_a_call c n m i q) = of_a_call c n (later m) i q

of_output : (up : ℕ) (o : Owned) (v : Variable) → In v (one_output (node_here up o)) → (n : ℕ) × (o ≡ local n) × (v ≡ scalar n)
of_output zero (local n) v (inl e) = (n, refl, e)
of_output zero (local n) v (inr z) = absurd z
of_output zero (input i) v h = absurd h
of_output zero (output j) v h = absurd h
of_output (suc up) (local n) v h = absurd h
of_output (suc up) (input i) v h = absurd h
of_output (suc up) (output j) v h = absurd h

of_outputs : (xs : List Name) (v : Variable) → In v (output_scalars xs) → (n : ℕ) × (local n ∈ owners xs) × (v ≡ scalar n)
of_outputs [] v h = absurd h
of_outputs (x ∷ xs) v h = elim (in_split v (one_output (node_here x.up x.what)) (output_scalars xs) h) [
  | inl i ↦ (let r = of_output x.up x.what v i in (r.0, subst (λ (o : Owned). o ∈ (x.what ∷ owners xs)) r.1 first, r.2))
  | inr i ↦ (let r = of_outputs xs v i in (r.0, later r.1, r.2))
]

of_cell_data : (b : Bool) (n : ℕ) (v : Variable) → In v (cell_data b n) → (b ≡ false) × (v ≡ scalar n)
of_cell_data true n v h = absurd h
of_cell_data false n v (inl e) = (refl, e)
of_cell_data false n v (inr z) = absurd z

of_data : (l : Layout) (p : Option Part) (ps : List Part) (v : Variable) → PlainAs l p ps → In v (data_in p ps) → OfParts l ps v
of_data l p [] v f h = absurd h
of_data l p (inner c ∷ ps) v f h = elim (in_split v (cell_data (plain_after p c.form) c.node) (data_in (Some (inner c)) ps) h) [
  | inl i ↦ (let r = of_cell_data (plain_after p c.form) c.node v i in of_a_cell c first (f.0 ∙ r.0) r.1)
  | inr i ↦ one_later (of_data l (Some (inner c)) ps v f.1 i)
]
of_data l p (calls c ∷ ps) v f h = elim (in_split v (output_scalars c.outputs) (data_in (Some (calls c)) ps) h) [
  | inl i ↦ (let r = of_outputs c.outputs v i in of_a_call c r.0 first r.1 r.2)
  | inr i ↦ one_later (of_data l (Some (calls c)) ps v f i)
]

-- of a statement
of_before : {l : Layout} (a : Action) {v : Variable} → OfParts l (before a) v → OfParts l (own_parts a) v
of_before a (of_a_cell c m e q) = of_a_cell c (before_own a m) e q
of_before a (of_a_call c n m i q) = of_a_call c n (before_own a m) i q

of_statement : (l : Layout) (a : Action) (v : Variable) → PlainAs l None (own_parts a) → In v (data_of a) → OfParts l (own_parts a) v
of_statement l a v f h = of_before a (of_data l None (before a) v (plain_before l a f) (subst (λ (vs : List Variable). In v vs) (data_before a) h))

module _ (C : Code) (l : Layout) (T : Table) where
  -- a variable is declared by a statement, or one of its data
  data Made (sts : List Stmt) (v : Variable) : Type 0 where
    by_declaration : (at m n : ℕ) (b : Bool) → stmt at m (declare n) ∈ sts → v ≡ record { node = n; array = b } → Made sts v
    by_data : (at n : ℕ) (a : Action) → stmt at n a ∈ sts → In v (data_of a) → Made sts v

  later_made : {st : Stmt} {sts : List Stmt} {v : Variable} → Made sts v → Made (st ∷ sts) v
  later_made (by_declaration at m n b i e) = by_declaration at m n b (later i) e
  later_made (by_data at n a i h) = by_data at n a (later i) h

  stmt_makes : {k : ℕ} {st : Stmt} {sts : List Stmt} {es : List ℕ} {vs : List Variable} (v : Variable) → StmtLaid C l T k st es vs → In v vs → Made (st ∷ sts) v
  stmt_makes v (declares_laid {at = at} {n = n} {v = w} b) (inl e) = by_declaration at n w b first e
  stmt_makes v (declares_laid b) (inr z) = absurd z
  stmt_makes v (call_laid {at = at} {n = n} {p = p} {ps = ps} {c = c} as') h = by_data at n (call_alone p ps c) first h
  stmt_makes v (simple_laid {at = at} {n = n} j {a = a} z as' en nd e) h = by_data at n a first h
  stmt_makes v (branch_laid {at = at} {n = n} j {c = c} {b = b} as' en mk st e) h = by_data at n (when c b) first h
  stmt_makes v (branches_laid {at = at} {n = n} j {c = c} {b = b} {d = d} as' en mk st su e) h = by_data at n (choose c b d) first h
  stmt_makes v (range_laid {at = at} {n = n} {x = x} j {lo = lo} {hi = hi} {st = so} {y = y} {b = b} as' en mk st e) h = by_data at n (range lo hi so x y b) first h
  stmt_makes v (each_laid j en mk st e) h = absurd h
  stmt_makes v (wait_laid j hd en st e) h = absurd h

  stmts_make : {k : ℕ} {sts : List Stmt} {es : List ℕ} {own : List Variable} (v : Variable) → StmtsLaid C l T k sts es own → In v own → Made sts v
  stmts_make v none_laid h = absurd h
  stmts_make v (one_laid {vs = vs} {ws = ws} one rest e q) h = elim (in_split v vs ws (subst (λ (z : List Variable). In v z) q h)) [
    | inl i ↦ stmt_makes v one i
    | inr i ↦ later_made (stmts_make v rest i)
  ]

local_is : (k : ℕ) (o : Owned) (v : Variable) → Local v ≡ owned_as k false o → o ≡ local v.node
local_is k (local n) v e = ap local (sym (ap number e))
  where
    number : code.Owned → ℕ
    number (Local w) = w.node
    number (code.Parameter i b) = i
local_is k (input i) v e = absurd (cc (e))
local_is k (output j) v e = absurd (cc (e))

module _ {s : Core} {fs : List Kinds} {ds : List (ℕ × Bool)} (C : Code) (l : Layout) (L : IsLaid s fs ds C l) (R : HasRights C) (found : CallsAreFound C) (scoped : Scoped s) (single : SinglyAssigned s) (I : IsCode C) where
  abbrev T : Table
  T = L.table

  abbrev K : (t u : ℕ) (v w : Variable) → In v (body C t).makes → In w (body C u).makes → v.node ≡ w.node → v ≡ w
  K = kinds_same L

  -- TURNS

  -- a way into a body, that is through a step
  by_act : (i : ℕ) {a : Act} (y : Way × ℕ) → (entry C i).act ≡ a → In y (ways (entry C i).act) → In y (ways a)
  by_act i y e h = subst (λ (z : Act). In y (ways z)) e h

  no_variable : {A : Type 0} {t k : ℕ} {b : Block} {w : Opener} (v : Variable) → Stands C l T k b [] w t → In v (T.variables_of t) → A
  no_variable v st h = absurd (subst (λ (vs : List Variable). In v vs) st.variables h)

  way_body : {w w' : Way} {b b' : ℕ} → ◌≡◌ {A = Way × ℕ} (w, b) (w', b') → b ≡ b'
  way_body e = ap (λ (z : Way × ℕ). z.1) e

  only_way : {w w' : Way} {b b' : ℕ} → In {X = Way × ℕ} (w, b) ((w', b') ∷ []) → b ≡ b'
  only_way (inl e) = way_body e
  only_way (inr z) = absurd z

  stands_at : {t u k : ℕ} {b : Block} {vs : List Variable} {w : Opener} → t ≡ u → Stands C l T k b vs w u → Stands C l T k b vs w t
  stands_at {k = k} {b = b} {vs = vs} {w = w} e st = subst (λ (z : ℕ). Stands C l T k b vs w z) (sym e) st

  turns_of : {t k : ℕ} {b : Block} (i : ℕ) (lw : code.Loop) (v : Variable) → loop_of (entry C i).act ≡ Some lw → Stands C l T k b (loop_variables lw) (ByStep i) t → In v (T.variables_of t) → IsTurns C t v
  turns_of i lw v e st h = record { opener = i; opens = st.opener; loop = lw; loops = e; variable = subst (λ (vs : List Variable). In v vs) st.variables h }

  own_turned : {t k i : ℕ} {st : Stmt} (w : Way) (v : Variable) → OwnOf C l T k st i → In {X = Way × ℕ} (w, t) (ways (entry C i).act) → In v (T.variables_of t) → IsTurns C t v
  own_turned {t} {k} {i} w v (own_simple {a = a} z en nd) p h = no_simple_way l k a (w, t) z (by_act i (w, t) en.act_is p)
  own_turned {t} {i = i} w v (own_branch en mk st) p h = no_variable v (stands_at (only_way (by_act i (w, t) en.act_is p)) st) h
  own_turned {t} {i = i} w v (own_branches {t = x} {u = y} en mk st su) p h = by (by_act i (w, t) en.act_is p)
    where
      by : In {X = Way × ℕ} (w, t) ((Through, x) ∷ (Through, y) ∷ []) → IsTurns C t v
      by (inl e) = no_variable v (stands_at (way_body e) st) h
      by (inr i) = no_variable v (stands_at (only_way i) su) h
  own_turned {t} {i = i} w v (own_range en mk st) p h = turns_of i _ v (ap loop_of en.act_is) (stands_at (only_way (by_act i (w, t) en.act_is p)) st) h
  own_turned {t} {i = i} w v (own_each en mk st) p h = turns_of i _ v (ap loop_of en.act_is) (stands_at (only_way (by_act i (w, t) en.act_is p)) st) h
  own_turned {t} {i = i} w v (own_wait hd en st) p h = no_variable v (stands_at (only_way (by_act i (w, t) en.act_is p)) st) h

  only_at : (i : ℕ) (y : Way × ℕ) (j : ℕ) (a : Act) → In i (j ∷ []) → (entry C j).act ≡ a → In y (ways (entry C i).act) → In y (ways a)
  only_at i y j a (inl e) q h = subst (λ (z : Act). In y (ways z)) q (subst (λ (z : ℕ). In y (ways (entry C z).act)) e h)
  only_at i y j a (inr z) q h = absurd z

  part_calls : {k at : ℕ} {p : _} {all : List Part} {x : Part} {js : List ℕ} (i : ℕ) (w : Way) (b : ℕ) → of.PartAs C l k all at p x js → In i js → In {X = Way × ℕ} (w, b) (ways (entry C i).act) → w ≡ Calling
  part_calls i w b (of.plain_literal z) h p = absurd h
  part_calls i w b (of.plain_name z) h p = absurd h
  part_calls i w b (of.a_cell {j = j} z nd en) h p = absurd (only_at i (w, b) j _ h en.act_is p)
  part_calls i w b (of.a_read {j = j} z nd ix en) h p = absurd (only_at i (w, b) j _ h en.act_is p)
  part_calls i w b (of.a_call {j = j} ca) h p = elim (only_at i (w, b) j _ h (ca.is).act_is p) [ inl e ↦ ap (λ (z : Way × ℕ). z.0) e | inr z ↦ absurd z ]

  called_none : {A : Type 0} {u i t : ℕ} {st : Stmt} (w : Way) (v : Variable) → w ≡ Calling → OpensAs s C l T u i st w t → In v (T.variables_of t) → A
  called_none w v e (opens_header vs r m c mk st) h = absurd (cc (e))
  called_none w v e (opens_wait m hd st) h = absurd (cc (e))
  called_none w v e (opens_call at p m kc ca fn st q) h = no_variable v st h

  turned : (t : ℕ) (v : Variable) → Reached C t → In v (T.variables_of t) → IsTurns C t v
  turned t v at_start h = no_variable v L.script h
  turned t v (by_entry {b = u} i w x g p) h = (let y = home_in C l L u i g in by y.role)
    where
      by : {st : Stmt} → Role C l T (T.inputs_of u) st i → IsTurns C t v
      by (inl q) = called_none w v (part_calls i w t q.as_part q.among p) (opens_as C l L scoped u i t w g p).1 h
      by (inr o) = own_turned w v o p h

  -- ASSIGNED

  written : {t : ℕ} (x : Reached C t) (j : ℕ) (v : Variable) (r : code.Name) → In v (body C t).makes → In j (body C t).entries → In r (entry C j).writes → SameSlot (Local v) r.owned → IsAssigned C t v
  written x j v r iv h right slot = record { assigner = j; there = h; right = subst (λ (z : code.Name). In z (entry C j).writes) (same_here C I K x j r v h right slot iv) right }

  targeted : {t : ℕ} (x : Reached C t) (j : ℕ) (v : Variable) (r : code.Name) → In v (body C t).makes → In j (body C t).entries → In r (targets (entry C j)) → SameSlot (Local v) r.owned → IsAssigned C t v
  targeted x j v r iv h u slot = written x j v r iv h (R.all_writes j r (itself j r u)) slot

  slot_to : (k : ℕ) (b : Bool) (v : Variable) (n : ℕ) (o : code.Owned) → v.node ≡ n → o ≡ owned_as k b (local n) → SameSlot (Local v) o
  slot_to k b v n o e q = subst (λ (z : code.Owned). SameSlot (Local v) z) (sym q) e

  of_parts : (t at n : ℕ) (a : Action) (v : Variable) (x : Reached C t) → stmt at n a ∈ block_list (T.block_of t) → Parted C l T (T.inputs_of t) (stmt at n a) (body C t).entries → In v (body C t).makes → OfParts l (own_parts a) v → IsAssigned C t v
  of_parts t at n a v x m P iv (of_a_cell c i e q) =
      let y = cell_stored C l T c (inl e) P.parts_as i in
      targeted x y.0 v (here (scalar c.node)) iv (P.among_them y.0 y.1) y.2 (ap (λ (z : Variable). z.node) q)
  of_parts t at n a v x m P iv (of_a_call c d i o q) =
      let y = call_among C l P.parts_as i in
      let z = output_named C l (local d) (y.call_as).outputs o in
      targeted x y.number v z.1 iv (P.among_them y.number y.there) (subst (λ (b : Act). In z.1 (targets_of (entry C y.number).node b)) (sym ((y.call_as).is).act_is) z.2)
      (slot_to (T.inputs_of t) z.0 v d (z.1).owned (ap (λ (w : Variable). w.node) q) z.3)

  -- one that a statement declares, and that is read
  of_read : (t at m : ℕ) (v : Variable) (x : Reached C t) → t < length C.bodies → stmt at m (declare v.node) ∈ block_list (T.block_of t) → In v (body C t).makes → IsRead (local v.node) (T.block_of t) → IsAssigned C t v
  of_read t at m v x lt i iv rd = by (held C l L I x (local v.node) stands (named_target (single.assigned (local v.node) (T.block_of t) (declared_here (L.bodies t lt).there i) rd)))
    where
      stands : Stands C l T (T.inputs_of t) (T.block_of t) (T.variables_of t) (body C t).opener t
      stands = record { within = lt; block = refl; inputs = refl; variables = refl; opener = refl }

      by : Held C l L I t (level x) (T.inputs_of t) (local v.node) → IsAssigned C t v
      by (inl z) = written x z.number v z.name iv z.there z.right (slot_to (T.inputs_of t) z.flag v v.node (z.name).owned refl z.is)
      by (inr z) = apart C I K x z.reached v (record { node = z.node; array = z.flag }) iv z.made (local_same z.is) z.deeper

  declared : (t at m n j : ℕ) (b : Bool) (v : Variable) (x : Reached C t) → t < length C.bodies → stmt at m (declare n) ∈ block_list (T.block_of t) → v ≡ record { node = n; array = b } → In v (body C t).makes → v.array ≡ false → Use C l L R scoped t (here v) → IsAssigned C t v
  declared t at m n j b v x lt i e iv sc (of_an_array z) = absurd (let q : true ≡ false = sym z ∙ sc in cc (q))
  declared t at m n j b v x lt i e iv sc (of_a_write k h right) = record { assigner = k; there = h; right = right }
  declared t at m n j b v x lt i e iv sc (of_a_read o rd q) =
      of_read t at m v x lt (subst (λ (z : ℕ). stmt at m (declare z) ∈ block_list (T.block_of t)) (sym (ap (λ (z : Variable). z.node) e)) i) iv
      (subst (λ (z : Owned). IsRead z (T.block_of t)) (local_is (T.inputs_of t) o v q) rd)

  -- WHERE A SCALAR COMES FROM
  pub assigned : (t j : ℕ) (v : Variable) → Reached C t → In v (body C t).makes → v.array ≡ false → In j (body C t).entries → In (here v) (entry C j).reads → IsTurns C t v ⊎ IsAssigned C t v
  assigned t j v x iv sc h right = elim (in_split v (T.variables_of t) (bd.own) (subst (λ (vs : List Variable). In v vs) bd.makes iv)) [
    | inl i ↦ inl (turned t v x i)
    | inr i ↦ inr (by (stmts_make C l T v bd.stmts i))
  ]
    where
      lt : t < length C.bodies
      lt = body_within C t j h

      bd : BodyLaid C l T s t
      bd = L.bodies t lt

      by : Made C l T (block_list (T.block_of t)) v → IsAssigned C t v
      by (by_declaration at m n b i e) = declared t at m n j b v x lt i e iv sc (uses C l L R scoped found t j (here v) h (R.reads j (here v) right))
      by (by_data at n a i d) = of_parts t at n a v x i (parted C l T bd.stmts i) iv (of_statement l a v (bd.suits at n a i).parts_plain d)
