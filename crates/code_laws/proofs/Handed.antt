-- Who may write a scalar stores it, or always opens a block and hands the right on.
use Rattle.std.proofs.Common.{◌≡◌, ◌⊎◌, inl, inr, ℕ, suc, ◌+◌, ◌<◌, ◌≤◌, Bool, true, false, List, [], ◌∷◌, ◌++◌, map, length, refl, sym, ap, ap₂, ◌∙◌, subst, Option, Some, None, arith}
use Rattle.std.proofs.lemmas.Option.{slice_get_within, same_Some}
use Rattle.std.specs.Prelude.{slice_get}
use Rattle.dataflow.specs.System.{In}
use Rattle.language.specs.Core as Co
use Rattle.language.specs.Core.{Owned, local, input, output, Name, Call, Part, calls, Outer, Stmt, stmt, Action, declare, call_alone, assign, fill, insert, print, assert, when, choose, range, each, wait, Block, Function, Core}
use Rattle.language.specs.Members.{◌∈◌}
use Rattle.language.specs.Parts.{block_list, targets_in}
use Rattle.language.specs.Scopes.{Typ, Signature}
use Rattle.language.specs.Single.{SinglyAssigned, StmtWay, simple, taken, skipped, then_way, else_way}
use Rattle.language.specs.WellFormed.{WellFormed}
use Rattle.language_laws.proofs.OneAssign.{function_in}
use Rattle.language_laws.proofs.Ways.{some_way, reach_within}
use Rattle.language_laws.specs.Scoped.{Scoped}
use Rattle.task_code.specs.Code as code
use Rattle.task_code.specs.Code.{Variable, Local, Parameter, Argument, Named, Act, Code, Way, InPlace, Through, Calling, entry, body, argument, argument_in, arguments, is_array_name, loop_of, stored_of, targets, targets_of, ways}
use Rattle.task_code.specs.Exact.{Leads, itself, through}
use Rattle.task_code.specs.Whole.{IsCode, Declared, SeenFrom, Seen}
use Rattle.code_rules.specs.CodeNames.{owned_as}
use Rattle.code_rules.specs.Emitted.{HasRights}
use Rattle.code_rules.specs.IsCodeOf as of
use Rattle.code_rules.specs.IsCodeOf.{Layout, own_expr, own_needs, fill_act, simple_act, CallAs}
use Rattle.code_rules.specs.Laying.{Kinds}
use Rattle.code_rules.specs.Laid.{Stands, IsLaid}
use Rattle.code_rules.specs.NodesOnce.{TellsNode}
use Rattle.code_laws.specs.Described.{is_array_shape, kinds_of_signature}
use Rattle.code_laws.specs.Standing.{CallsAreFound}
use Rattle.code_laws.proofs.Aims.{alone, named_of, Calls, Assigned, Aims, at_cell, at_hidden, at_alone, at_own, aims}
use Rattle.code_laws.proofs.Arguments.{arg_at, get_map, get_right, get_some, inputs_length, out_at}
use Rattle.code_laws.proofs.Bases.{only, Assigns, names, further_in}
use Rattle.code_laws.proofs.WholeOpenings.{OpensAs, opens_header, opens_wait, opens_call, opens_as, call_of_stmt}
use Rattle.code_laws.proofs.Owners.{owned_scope, Round, round}
use Rattle.code_laws.proofs.Roles.{own_of, OwnOf, own_simple, own_branch, own_branches, own_range, own_each, own_wait, Role}
use Rattle.code_laws.proofs.Settling.{ScriptScoped}
use Rattle.code_laws.proofs.Shapes.{home_in, body_within}
use Rattle.code_laws.proofs.Singles.{only_in, stmt_way}
use Rattle.code_laws.specs.Sources.{HandsOn, Reached, by_entry, always_opens}
use Rattle.code_laws.proofs.Counting.{counted_target, named_target, written_target}
use Rattle.code_laws.proofs.Levels.{SameSlot, step_deeper, level, level_same, named_same, Declarer, declarer, apart, unique}
use Rattle.code_laws.proofs.Named.{local_of, Held, Writes, held}

-- a variable of code is the same one, wherever it is made
pub kinds_same : {s : Core} {fs : List Kinds} {ds : List (ℕ × Bool)} {C : Code} {l : Layout} → IsLaid s fs ds C l → (t u : ℕ) (v w : Variable) → In v (body C t).makes → In w (body C u).makes → v.node ≡ w.node → v ≡ w
kinds_same {l = l} L t u v w i j e = ap₂ (λ (n : ℕ) (b : Bool). record { node = n; array = b }) e (L.kinds t v i ∙ (ap l.array e ∙ sym (L.kinds u w j)))

slot_as : (k : ℕ) (b b' : Bool) (o : Owned) → SameSlot (owned_as k b o) (owned_as k b' o)
slot_as k b b' (local n) = refl
slot_as k b b' (input i) = refl
slot_as k b b' (output j) = refl

-- what an act stores into, it stores itself, or it is a call
stored_or_call : (n : ℕ) (a : Act) (r : code.Name) → In r (targets_of n a) → In r (stored_of n a) ⊎ ((b : ℕ) × (rs : List Argument) × (os : List code.Name) × (a ≡ code.Call b rs os))
stored_or_call n (code.Cell e) r h = inl h
stored_or_call n code.Read r h = inl h
stored_or_call n (code.Call b rs os) r h = inr (b, rs, os, refl)
stored_or_call n (code.Set x e) r h = inl h
stored_or_call n (code.Fill x es) r h = inl h
stored_or_call n (code.Copy x) r h = inl h
stored_or_call n (code.InsertElement x i e) r h = inl h
stored_or_call n (code.Print e) r h = inl h
stored_or_call n (code.Assert e) r h = inl h
stored_or_call n (code.If e b d) r h = inl h
stored_or_call n (code.Range lo hi st w) r h = inl h
stored_or_call n (code.Each w) r h = inl h
stored_or_call n (code.Wait hs b) r h = inl h

-- what opens bodies: one way always, a loop, or a condition
data Opens (a : Act) : Type 0 where
  opens_one : (w : Way) (b : ℕ) → always_opens a ≡ true → ways a ≡ (w, b) ∷ [] → Opens a
  opens_turns : (l : code.Loop) → loop_of a ≡ Some l → Opens a
  opens_branch : (e : code.Expr) (b : ℕ) (d : Option ℕ) → a ≡ code.If e b d → Opens a

opens_of : (a : Act) (y : Way × ℕ) → In y (ways a) → Opens a
opens_of (code.Call b rs os) y h = opens_one Calling b refl refl
opens_of (code.Wait hs b) y h = opens_one InPlace b refl refl
opens_of (code.Range lo hi st w) y h = opens_turns w refl
opens_of (code.Each w) y h = opens_turns w refl
opens_of (code.If e b d) y h = opens_branch e b d refl
opens_of (code.Cell e) y h = absurd h
opens_of code.Read y h = absurd h
opens_of (code.Set x e) y h = absurd h
opens_of (code.Fill x es) y h = absurd h
opens_of (code.Copy x) y h = absurd h
opens_of (code.InsertElement x i e) y h = absurd h
opens_of (code.Print e) y h = absurd h
opens_of (code.Assert e) y h = absurd h

no_fill_if : {A : Type 0} (l : Layout) (k : ℕ) (ms : List code.Need) (x : Name) (z e : _) (b : ℕ) (d : Option ℕ) → fill_act l k ms x z ≡ code.If e b d → A
no_fill_if l k ms x (Co.whole y) e b d h = absurd (cc (h))
no_fill_if l k ms x (Co.literal y) e b d h = absurd (cc (h))
no_fill_if l k ms x (Co.name y) e b d h = absurd (cc (h))
no_fill_if l k ms x (Co.operator y es) e b d h = absurd (cc (h))

no_simple_if : {A : Type 0} (l : Layout) (k : ℕ) (a : Action) (e : code.Expr) (b : ℕ) (d : Option ℕ) → of.IsSimple a → simple_act l k (own_needs l k a) a ≡ code.If e b d → A
no_simple_if l k (assign x o) e b d z h = absurd (cc (h))
no_simple_if l k (fill x o) e b d z h = no_fill_if l k (own_needs l k (fill x o)) x (own_expr o) e b d h
no_simple_if l k (insert x i o) e b d z h = absurd (cc (h))
no_simple_if l k (print p o) e b d z h = absurd (cc (h))
no_simple_if l k (assert p o) e b d z h = absurd (cc (h))
no_simple_if l k (declare v) e b d z h = absurd z
no_simple_if l k (call_alone p ps c) e b d z h = absurd z
no_simple_if l k (when c x) e b d z h = absurd z
no_simple_if l k (choose c x y) e b d z h = absurd z
no_simple_if l k (range lo hi st v t x) e b d z h = absurd z
no_simple_if l k (each y v t x) e b d z h = absurd z
no_simple_if l k (wait ns x) e b d z h = absurd z

module _ {s : Core} {fs : List Kinds} {ds : List (ℕ × Bool)} (C : Code) (l : Layout) (L : IsLaid s fs ds C l) (R : HasRights C) (found : CallsAreFound C) (scoped : Scoped s)
    (sigs : List Signature) (type_of : ℕ → Typ) (S : ScriptScoped sigs type_of s) (D : (n : ℕ) (b : Bool) → ◌∈◌ {X = ℕ × Bool} (n, b) ds → is_array_shape (type_of n).shape ≡ b) (kinds : fs ≡ map kinds_of_signature sigs) (single : SinglyAssigned s)
    (I : IsCode C) (formed : WellFormed s) where
  abbrev K : (t u : ℕ) (v w : Variable) → In v (body C t).makes → In w (body C u).makes → v.node ≡ w.node → v ≡ w
  K = kinds_same L

  abbrev k_of : ℕ → ℕ
  k_of t = L.table.inputs_of t

  abbrev HandedOn : ℕ → code.Name → Type 0
  HandedOn i r = In r (stored_of (entry C i).node (entry C i).act) ⊎ ((always_opens (entry C i).act ≡ true) × ((w : Way) (d : ℕ) → In {X = Way × ℕ} (w, d) (ways (entry C i).act) → HandsOn C i w d r))

  -- where an entry opens one body alone
  one_hands : (i : ℕ) (r : code.Name) (v : Way) (b : ℕ) → always_opens (entry C i).act ≡ true → ways (entry C i).act ≡ (v, b) ∷ [] → HandsOn C i v b r → HandedOn i r
  one_hands i r v b always one h =
      inr (always, λ w d p. subst (λ (z : Way × ℕ). HandsOn C i z.0 z.1 r) (sym (only (subst (λ (zs : List (Way × ℕ)). In {X = Way × ℕ} (w, d) zs) one p))) h)

  -- CALLS
  argument_is : {k at i : ℕ} {p : _} {all : List Part} {c : Call} (b : ℕ) (ca : CallAs C l k all at p c i) → In {X = Way × ℕ} (Calling, b) (ways (entry C i).act) → (kk : ℕ) (bb : Bool) → argument C (entry C i).offset kk bb ≡ argument_in (ca.ins ++ map Named ca.outs) kk bb
  argument_is {i = i} b ca h kk bb = ap (λ (u : ℕ). argument_in (arguments (entry C u).act) kk bb) (found i b h) ∙ ap (λ (u : Act). argument_in (arguments u) kk bb) (ca.is).act_is

  parameter_place : {k k' : ℕ} {b b' : Bool} → Parameter k b ≡ Parameter k' b' → k ≡ k'
  parameter_place h = cc

  -- the name that stands for an output in the called body
  output_hands : {t i b at' : ℕ} {p : _} {all : List Part} {c : Call} (f : Function) (ca : CallAs C l (k_of t) all at' p c i) → In {X = Way × ℕ} (Calling, b) (ways (entry C i).act) → length ca.ins ≡ f.inputs → (j : ℕ) (r : code.Name) → slice_get ca.outs j ≡ Some r
      → Writes C l L I b f.inputs (output j) → HandsOn C i Calling b r
  output_hands {t} {i} {b} f ca way counted j r at_j z = by ((I.fits i Calling b way).writes z.number z.name z.there z.right)
    where
      by_place : (q : code.Name) (k : ℕ) (bb : Bool) → z.name ≡ record { up = 0; owned = Parameter k bb } → argument C (entry C i).offset k bb ≡ Some (Named q) → HandsOn C i Calling b r
      by_place q k bb e ar =
          let place : k ≡ f.inputs + j = parameter_place (sym (ap (λ (y : code.Name). y.owned) e) ∙ z.is) in
          let a = arg_at (ca.ins ++ map Named ca.outs) k bb (Named q) (sym (argument_is b ca way k bb) ∙ ar) in
          let e1 : k ≡ length ca.ins + j = place ∙ ap (λ (x : ℕ). x + j) (sym counted) in
          let here_q : slice_get (map Named ca.outs) j ≡ Some (Named q) = sym (get_right ca.ins (map Named ca.outs) j) ∙ subst (λ (x : ℕ). slice_get (ca.ins ++ map Named ca.outs) x ≡ Some (Named q)) e1 a.0 in
          let same : q ≡ r = named_same (same_Some _ _ (sym here_q ∙ get_map Named ca.outs j r at_j)) in
          record { holder = z.number; there = z.there; inside = z.name; seen = (k, bb, e, subst (λ (y : code.Name). argument C (entry C i).offset k bb ≡ Some (Named y)) same ar); right = z.right }

      by : Declared C b z.name ⊎ SeenFrom C (λ e. e.writes) i Calling z.name → HandsOn C i Calling b r
      by (inl d) = absurd (let q : Parameter (f.inputs + j) z.flag ≡ Local d.variable = sym z.is ∙ ap (λ (y : code.Name). y.owned) d.is in cc (q))
      by (inr y) = by_place y.outside y.seen.0 y.seen.1 y.seen.2 y.seen.3

  no_output_local : {A : Type 0} {j n : ℕ} → output j ≡ local n → A
  no_output_local h = absurd (cc (h))

  call_hands : {t i b at' : ℕ} {p : _} {c : Call} {f : Function} {vs : List Variable} {u : code.Opener} (st : Stmt) (x : Reached C t) → t < length C.bodies → st ∈ block_list (L.table.block_of t) → calls c ∈ own_of st → (ca : CallAs C l (k_of t) (own_of st) at' p c i)
      → slice_get s.functions c.function ≡ Some f → Stands C l L.table f.inputs f.body vs u b → In i (body C t).entries → In {X = Way × ℕ} (Calling, b) (ways (entry C i).act) → (r : code.Name) → In r (targets (entry C i)) → HandsOn C i Calling b r
  call_hands {t} {i} {b} {c = c} {f = f} st x lt m kc ca fn stands h way r u =
      let among_calls = call_of_stmt st kc in
      let count = formed.names.call_count (L.table.block_of t) st c f (L.bodies t lt).there m among_calls fn in
      let o = get_some ca.outs r (subst (λ (z : Act). In r (targets_of (entry C i).node z)) (ca.is).act_is u) in
      let y = out_at C l o.0 r ca.outputs o.1 in
      let below : o.0 < f.outputs = subst (λ (n : ℕ). o.0 < n) count (slice_get_within c.outputs o.0 y.0 y.2) in
      let called = scoped.calls st c (Rattle.code_laws.proofs.WholeOpenings.stmt_in C l L t lt m) among_calls in
      let counted : length ca.ins ≡ f.inputs = sym (inputs_length C l ca.inputs) ∙ (called.2 ∙ ap (λ (g : Function). g.inputs) (same_Some _ _ (sym called.1 ∙ fn))) in
      let target : output o.0 ∈ targets_in f.body = elim (single.output_assigned f o.0 (function_in s.functions c.function f fn) below) [ inl z ↦ named_target z | inr z ↦ written_target z ] in
      by o.0 o.1 counted (held C l L I (by_entry i Calling x h way) (output o.0) stands target)
    where
      by : (j : ℕ) → slice_get ca.outs j ≡ Some r → length ca.ins ≡ f.inputs → Held C l L I b 0 f.inputs (output j) → HandsOn C i Calling b r
      by j e q (inl z) = output_hands {t = t} f ca way q j r e z
      by j e q (inr z) = no_output_local z.is

  called_hands : {t i b : ℕ} {st : Stmt} (w : Way) → w ≡ Calling → (x : Reached C t) → In i (body C t).entries → In {X = Way × ℕ} (w, b) (ways (entry C i).act) → OpensAs s C l L.table t i st w b → (r : code.Name) → In r (targets (entry C i)) → HandsOn C i Calling b r
  called_hands w e x h way (opens_header vs v m c mk st) r u = absurd (cc (e))
  called_hands w e x h way (opens_wait m hd st) r u = absurd (cc (e))
  called_hands {t} {i} w e x h way (opens_call {st = st} {f = f} at p m kc ca fn stands q) r u = call_hands {f = f} st x (body_within C t i h) m kc ca fn stands h way r u

  -- CONDITIONS

  -- a body of a branch, whose block assigns what the entry may write
  branch_hands : {t i b : ℕ} {c : Block} {vs : List Variable} {u : code.Opener} (x : Reached C t) → In i (body C t).entries → In {X = Way × ℕ} (Through, b) (ways (entry C i).act) → Stands C l L.table (k_of t) c vs u b
      → (r : code.Name) (o : Owned) → In r (entry C i).writes → r.owned ≡ owned_as (k_of t) false o → o ∈ targets_in c → HandsOn C i Through b r
  branch_hands {t} {i} {b} {c} x h way stands r o right is m = by (held C l L I y o stands m)
    where
      y : Reached C b
      y = by_entry i Through x h way

      deeper : level x < level y
      deeper = step_deeper Through (level x) (λ e. absurd (cc (e)))

      -- what lies further in makes it not
      further : {A : Type 0} {d n : ℕ} (z : Reached C d) (f : Bool) → level x < level z → o ≡ local n → In (record { node = n; array = f }) (body C d).makes → A
      further {n = n} z f less e made =
          let own : r.owned ≡ Local (record { node = n; array = false }) = is ∙ ap (λ (q : Owned). owned_as (k_of t) false q) e in
          let q = declarer C I x i r (record { node = n; array = false }) h right own in
          apart C I K q.reached z (record { node = n; array = false }) (record { node = n; array = f }) q.made made refl (nearer q q.far)
        where
          nearer : (q : Declarer C I t (level x) r.up (record { node = n; array = false })) → ((q.home ≡ t) × (r.up ≡ 0)) ⊎ (level q.reached < level x) → level q.reached < level z
          nearer q (inl k) = (let g = level_same C I q.reached x k.0 in omega arith)
          nearer q (inr k) = omega arith

      of_writes : (z : Writes C l L I b (k_of t) o) → Declared C b z.name ⊎ SeenFrom C (λ e. e.writes) i Through z.name → HandsOn C i Through b r
      of_writes z (inl d) =
          let v = local_of (k_of t) z.flag o d.variable (sym z.is ∙ ap (λ (q : code.Name). q.owned) d.is) in
          further y z.flag deeper v.1 (subst (λ (q : Variable). In q (body C b).makes) v.2 d.made)
      of_writes z (inr q) =
          let own : q.outside.owned ≡ owned_as (k_of t) z.flag o = sym (ap (λ (n : code.Name). n.owned) q.seen) ∙ z.is in
          let slot : SameSlot q.outside.owned r.owned = subst (λ (a : code.Owned). SameSlot a r.owned) (sym own) (subst (λ (a : code.Owned). SameSlot (owned_as (k_of t) z.flag o) a) (sym is) (slot_as (k_of t) z.flag false o)) in
          let same = unique C I K x i i q.outside r h h q.right right slot in
          record { holder = z.number; there = z.there; inside = z.name; seen = subst (λ (n : code.Name). z.name ≡ record { up = suc n.up; owned = n.owned }) same q.seen; right = z.right }

      by : Held C l L I b (level y) (k_of t) o → HandsOn C i Through b r
      by (inl z) = of_writes z ((I.fits i Through b way).writes z.number z.name z.there z.right)
      by (inr z) = (let q : suc (level x) < level z.reached = z.deeper in further z.reached z.flag (omega arith) z.is z.made)

  -- what a statement assigns, its block does
  lift : {at n : ℕ} {a : Action} {b : Block} {w : Owned} → stmt at n a ∈ block_list b → Assigns false (alone (stmt at n a)) w → Assigns false b w
  lift {b = b} m (names d m' i e) = names false (subst (λ (z : Stmt). z ∈ block_list b) (sym (only_in m')) m) i e
  lift {b = b} m (further_in d m' i h) = further_in false (subst (λ (z : Stmt). z ∈ block_list b) (sym (only_in m')) m) i h

  none_when : {A : Type 0} {t at n m : ℕ} {c : Outer} {d : Block} {o : Owned} → stmt at n (when c d) ∈ block_list (L.table.block_of t) → Round s single (L.table.block_of t) o → StmtWay o (stmt at n (when c d)) m → 1 ≤ m → A
  none_when m q (simple z w) k = absurd z
  none_when {at = at} {n = n} {m = i} {c = c} {d = d} {o = o} m q (taken w) k = (let z = single.alone o q.owner at n c d i q.owns (reach_within q.reach m) w in absurd (omega arith))
  none_when m q skipped k = absurd (omega arith)

  both_choose : {t at n m : ℕ} {c : Outer} {d e : Block} {o : Owned} → stmt at n (choose c d e) ∈ block_list (L.table.block_of t) → Round s single (L.table.block_of t) o → StmtWay o (stmt at n (choose c d e)) m → 1 ≤ m → (o ∈ targets_in d) × (o ∈ targets_in e)
  both_choose m q (simple z w) k = absurd z
  both_choose {at = at} {n = n} {m = i} {c = c} {d = d} {e = e} {o = o} m q (then_way w) k =
      let v = some_way o e in
      let z = single.alike o q.owner at n c d e i v.0 q.owns (reach_within q.reach m) w v.1 in
      (counted_target w k, counted_target v.1 (subst (λ (x : ℕ). 1 ≤ x) z k))
  both_choose {at = at} {n = n} {m = i} {c = c} {d = d} {e = e} {o = o} m q (else_way w) k =
      let v = some_way o d in
      let z = single.alike o q.owner at n c d e v.0 i q.owns (reach_within q.reach m) v.1 w in
      (counted_target v.1 (subst (λ (x : ℕ). 1 ≤ x) (sym z) k), counted_target w k)

  abbrev Given : ℕ → Stmt → code.Name → Type 0
  Given t st r = Assigned C l L found scoped sigs type_of S D kinds single t st r

  own_hands : {t at n i : ℕ} {a : Action} (e : code.Expr) (b : ℕ) (d : Option ℕ) → (entry C i).act ≡ code.If e b d → (x : Reached C t) → In i (body C t).entries → stmt at n a ∈ block_list (L.table.block_of t) → OwnOf C l L.table (k_of t) (stmt at n a) i
      → (r : code.Name) → In r (entry C i).writes → Given t (stmt at n a) r → HandedOn i r
  own_hands {t} {i = i} {a = a} e b d act x h m (own_simple z en nd) r right A = no_simple_if l (k_of t) a e b d z (sym en.act_is ∙ act)
  own_hands e b d act x h m (own_range en mk st) r right A = absurd (let q = sym en.act_is ∙ act in cc (q))
  own_hands e b d act x h m (own_each en mk st) r right A = absurd (let q = sym en.act_is ∙ act in cc (q))
  own_hands e b d act x h m (own_wait hd en st) r right A = absurd (let q = sym en.act_is ∙ act in cc (q))
  own_hands {t} {at} {n} {i} {a} e b d act x h m (own_branch {c = c} {b = y} en mk st) r right A =
      let w = stmt_way s single a m A.owner A.assigns in
      none_when {t = t} m (round s single A.owner (named_of (lift m A.assigns))) w.1 w.2
  own_hands {t} {at} {n} {i} {a} e b d act x h m (own_branches {t = u} {u = v} {c = c} {b = y} {d = z} en mk st su) r right A =
      let w = stmt_way s single a m A.owner A.assigns in
      let both = both_choose {t = t} m (round s single A.owner (named_of (lift m A.assigns))) w.1 w.2 in
      let own : r.owned ≡ owned_as (k_of t) false A.name.what = ap (λ (q : code.Name). q.owned) A.is in
      let first_way = subst (λ (q : Act). In {X = Way × ℕ} (Through, u) (ways q)) (sym en.act_is) (inl refl) in
      let other_way = subst (λ (q : Act). In {X = Way × ℕ} (Through, v) (ways q)) (sym en.act_is) (inr (inl refl)) in
      two_hands {i = i} {u = u} {v = v} r en.act_is (branch_hands x h first_way st r A.name.what right own both.0) (branch_hands x h other_way su r A.name.what right own both.1)
    where
      two_hands : {i u v : ℕ} {e : code.Expr} (r : code.Name) → (entry C i).act ≡ code.If e u (Some v) → HandsOn C i Through u r → HandsOn C i Through v r → HandedOn i r
      two_hands {i} {u} {v} r q one two = inr (subst (λ (y : Act). always_opens y ≡ true) (sym q) refl, λ w d p. by w d (subst (λ (y : Act). In {X = Way × ℕ} (w, d) (ways y)) q p))
        where
          by : (w : Way) (d : ℕ) → In {X = Way × ℕ} (w, d) ((Through, u) ∷ (Through, v) ∷ []) → HandsOn C i w d r
          by w d (inl f) = subst (λ (y : Way × ℕ). HandsOn C i y.0 y.1 r) (sym f) one
          by w d (inr (inl f)) = subst (λ (y : Way × ℕ). HandsOn C i y.0 y.1 r) (sym f) two
          by w d (inr (inr f)) = absurd f

  branch_handed : (t i : ℕ) (e : code.Expr) (b : ℕ) (d : Option ℕ) → (entry C i).act ≡ code.If e b d → (x : Reached C t) → In i (body C t).entries → (r : code.Name) → In r (entry C i).writes → is_array_name r ≡ false → HandedOn i r
  branch_handed t i e b d act x h r right one = (let y = home_in C l L t i h in of_stmt (y.of).st (y.of).there y.role)
    where
      lt : t < length C.bodies
      lt = body_within C t i h

      of_stmt : (st : Stmt) → st ∈ block_list (L.table.block_of t) → Role C l L.table (k_of t) st i → HandedOn i r
      of_stmt (stmt at n a) m role = by (aims C l L found scoped sigs type_of S D kinds single t (owned_scope s single sigs type_of S (L.bodies t lt).scope) lt r one at n a i m role h (R.writes i r right))
        where
          no_calls : {A : Type 0} {c : Call} {n : ℕ} → Calls C i c n → A
          no_calls {n = n} k = call_branch d (subst (λ (z : Act). In {X = Way × ℕ} (Calling, n) (ways z)) act k.opens)
            where
              call_branch : {A : Type 0} (f : Option ℕ) → In {X = Way × ℕ} (Calling, n) (ways (code.If e b f)) → A
              call_branch None (inl q) = absurd (let z = ap (λ (y : Way × ℕ). y.0) q in cc (z))
              call_branch None (inr q) = absurd q
              call_branch (Some g) (inl q) = absurd (let z = ap (λ (y : Way × ℕ). y.0) q in cc (z))
              call_branch (Some g) (inr (inl q)) = absurd (let z = ap (λ (y : Way × ℕ). y.0) q in cc (z))
              call_branch (Some g) (inr (inr q)) = absurd q

          by : Aims C l L found scoped sigs type_of S D kinds single t (stmt at n a) i r → HandedOn i r
          by (at_cell k tells z q) = absurd (subst TellsNode act tells)
          by (at_hidden k z q w c) = no_calls c
          by (at_alone p ps q c A) = no_calls c
          by (at_own o A) = own_hands e b d act x h m o r right A

  -- WHO MAY WRITE A SCALAR
  pub handed : (t i : ℕ) (r : code.Name) → Reached C t → In i (body C t).entries → In r (entry C i).writes → is_array_name r ≡ false → HandedOn i r
  handed t i r x h right one = by (R.writes i r right)
    where
      of_call : (b : ℕ) (rs : List Argument) (os : List code.Name) → (entry C i).act ≡ code.Call b rs os → In r (targets (entry C i)) → HandedOn i r
      of_call b rs os q u =
          let way : In {X = Way × ℕ} (Calling, b) (ways (entry C i).act) = subst (λ (z : Act). In {X = Way × ℕ} (Calling, b) (ways z)) (sym q) (inl refl) in
          one_hands i r Calling b (subst (λ (z : Act). always_opens z ≡ true) (sym q) refl) (ap ways q) (called_hands Calling refl x h way (opens_as C l L scoped t i b Calling h way).1 r u)

      of_way : (w : Way) (d j : ℕ) (q : code.Name) → In {X = Way × ℕ} (w, d) (ways (entry C i).act) → In j (body C d).entries → Leads C targets j q → Seen C (entry C i).offset w q r → Opens (entry C i).act → HandedOn i r
      of_way w d j q way g ld seen (opens_one v b always one_way) =
          let same = only (subst (λ (zs : List (Way × ℕ)). In {X = Way × ℕ} (w, d) zs) one_way way) in
          one_hands i r v b always one_way (subst (λ (z : Way × ℕ). HandsOn C i z.0 z.1 r) same (record { holder = j; there = g; inside = q; seen = seen; right = R.all_writes j q ld }))
      of_way w d j q way g ld seen (opens_turns k e) = absurd ((I.loops i k e).arrays r right one)
      of_way w d j q way g ld seen (opens_branch e b f act) = branch_handed t i e b f act x h r right one

      by : Leads C targets i r → HandedOn i r
      by (itself _ _ u) = elim (stored_or_call (entry C i).node (entry C i).act r u) [ inl z ↦ inl z | inr z ↦ of_call z.0 z.1 z.2 z.3 u ]
      by (through _ j d w _ q way g ld nd seen) = of_way w d j q way g ld seen (opens_of (entry C i).act (w, d) way)
