-- What an entry of a statement may write that is a scalar: its own datum, the output of a call in an expression, or what its statement assigns.
use Rattle.std.proofs.Common.{◌≡◌, ◌⊎◌, inl, inr, ℕ, suc, ◌+◌, ◌<◌, ℤ, Bool, true, false, List, [], ◌∷◌, ◌++◌, map, length, refl, sym, ap, ap₂, ◌∙◌, subst, Some}
use Rattle.std.specs.Prelude.{slice_get}
use Rattle.dataflow.specs.System.{In}
use Rattle.language.specs.Core as Co
use Rattle.language.specs.Core.{Owned, input, Name, Expr, Cell, Call, Part, inner, calls, Outer, Awaited, Stmt, stmt, Action, declare, call_alone, assign, fill, insert, print, assert, when, choose, range, each, wait, Block, no_stmts, stmts, Function, Core}
use Rattle.language.specs.Members.{◌∈◌, first}
use Rattle.language.specs.Parts.{block_list, blocks_of, by_name, script_stmts}
use Rattle.language.specs.Scopes.{Typ, Scope, Signature, further}
use Rattle.language.specs.Single.{SinglyAssigned, IsNamed, an_input}
use Rattle.language.specs.WellFormed.{header_blocks}
use Rattle.language.proofs.Blocks.{header_inner, inner_below, among}
use Rattle.language.proofs.Members.{split_in}
use Rattle.language.proofs.Tested.{roles_of}
use Rattle.language_laws.proofs.OneAssign.{function_in, outwards}
use Rattle.task_code.specs.Code as code
use Rattle.task_code.specs.Code.{Variable, Need, Parameter, Argument, Named, Fixed, Act, Way as Opening, InPlace, Through, Calling, Code, Entry, entry, body, ways, is_array_name, scalar, argument, targets, targets_of, loop_of}
use Rattle.task_code.specs.Exact.{Leads, itself, through}
use Rattle.task_code.specs.Whole.{Declared, Seen}
use Rattle.language_laws.specs.Scoped.{Scoped}
use Rattle.language_laws.specs.TypedValues.{own_parts}
use Rattle.code_rules.specs.CodeNames.{name_as}
use Rattle.code_rules.specs.IsCodeOf.{Layout, own_expr, own_needs, fill_act, simple_act, IsSimple, CallAs, PartAs, plain_literal, plain_name, a_cell, a_read, a_call}
use Rattle.code_rules.specs.Laying.{Kinds, Headers}
use Rattle.code_rules.specs.Laid.{Stands, IsLaid}
use Rattle.code_rules.specs.NodesOnce.{TellsNode}
use Rattle.language_accepted.proofs.Given.{no_target}
use Rattle.code_laws.specs.Described.{is_array_shape, kinds_of_signature}
use Rattle.code_laws.specs.Standing.{CallsAreFound}
use Rattle.code_laws.proofs.Needs.{flag_of}
use Rattle.code_laws.proofs.Roles.{own_of, OwnOf, own_simple, own_branch, own_branches, own_range, own_each, own_wait, Role}
use Rattle.code_laws.proofs.WholeOpenings.{OpensAs, opens_header, opens_wait, opens_call, opens_by}
use Rattle.code_laws.proofs.Scoping.{SeesAs, before, InScopes, Hidden, OutputsCome}
use Rattle.code_laws.proofs.Settling.{IsParameter, is_output, is_input, FunctionScoped, ScriptScoped}
use Rattle.code_laws.proofs.Lookup.{deeper_of, HeaderScope, StmtAt, lookup}
use Rattle.code_laws.proofs.Arguments.{arg_at, get_right, get_unmap, get_in, get_one, get_some, out_at, inputs_length, comes_length, out_type}
use Rattle.code_laws.proofs.Led.{SeenAs, flag_is, step_out, parameter_is, Within, Settled, CallKnown, call_known_of, handed, Content, content, led}
use Rattle.code_laws.proofs.Bases.{Assigns, names, further_in, has_target, keeps_targets, base_written}
use Rattle.code_laws.proofs.Owners.{OwnerOf, OwnedScope, owner_at}
use Rattle.std.proofs.lemmas.Option.{slice_get_within, same_Some}

-- the block of one statement
abbrev pub alone : Stmt → Block
alone st = stmts st no_stmts

only_in : {X : Type 0} {x y : X} → x ∈ (y ∷ []) → x ≡ y
only_in m = elim (split_in m) [ inl e ↦ e | inr i ↦ elim i [ ] ]

only : {X : Type 0} {x y : X} → In x (y ∷ []) → x ≡ y
only (inl e) = e
only (inr z) = absurd z

-- what is assigned by name
pub named_of : {b : Block} {w : Owned} → Assigns false b w → IsNamed w b
named_of (names d {b = b} {x = x} m i e) = record { st = _; target = x; there = among (blocks_of b) first m; assigns = i; is = e }
named_of (further_in d {b = b} m i h) = outwards b (inner_below b m i) (named_of h)

-- an entry that calls
pub record Calls (C : Code) (j : ℕ) (c : Call) (b : ℕ) : Type 0 where
  pub offset : (entry C j).offset ≡ c.at
  pub opens : In {X = Opening × ℕ} (Calling, b) (ways (entry C j).act)

module _ {s : Core} {fs : List Kinds} {ds : List (ℕ × Bool)} (C : Code) (l : Layout) (L : IsLaid s fs ds C l) (found : CallsAreFound C) (scoped : Scoped s)
    (sigs : List Signature) (type_of : ℕ → Typ) (S : ScriptScoped sigs type_of s) (D : (n : ℕ) (b : Bool) → ◌∈◌ {X = ℕ × Bool} (n, b) ds → is_array_shape (type_of n).shape ≡ b) (kinds : fs ≡ map kinds_of_signature sigs) (single : SinglyAssigned s) where
  abbrev k_of : ℕ → ℕ
  k_of t = L.table.inputs_of t

  -- what a statement assigns itself or in a block inside it, whose owner is known
  pub record Assigned (t : ℕ) (st : Stmt) (r : code.Name) : Type 0 where
    pub name : Name
    pub is : r ≡ name_as (k_of t) false name
    pub assigns : Assigns false (alone st) name.what
    pub owner : OwnerOf s single (L.table.block_of t) name.what

  pub data Aims (t : ℕ) (st : Stmt) (j : ℕ) (r : code.Name) : Type 0 where
    at_cell : {c : Cell} → inner c ∈ own_of st → TellsNode (entry C j).act → (entry C j).node ≡ c.node → r ≡ code.here (scalar c.node) → Aims t st j r
    at_hidden : {c : Call} {n b : ℕ} → calls c ∈ own_of st → calls c ∈ before (Rattle.language.specs.Parts.stmt_action st) → c.outputs ≡ Co.here n ∷ [] → r ≡ code.here (scalar n) → Calls C j c b → Aims t st j r
    at_alone : {c : Call} {b : ℕ} (p : ℤ) (ps : List Part) → Rattle.language.specs.Parts.stmt_action st ≡ call_alone p ps c → Calls C j c b → Assigned t st r → Aims t st j r
    at_own : OwnOf C l L.table (k_of t) st j → Assigned t st r → Aims t st j r

  abbrev Here : ℕ → Scope → Action → Type 0
  Here t g a = Within C l L found scoped sigs type_of S D t g a

  abbrev CallIn : Scope → Action → Call → Type 0
  CallIn g a c = CallKnown C l L found scoped sigs type_of S D Assigns (keeps_targets s single) g a c

  at_entry : {i j : ℕ} (r : code.Name) → In i (j ∷ []) → In r (targets (entry C i)) → In r (targets (entry C j))
  at_entry r m u = subst (λ (z : ℕ). In r (targets (entry C z))) (only m) u

  by_target : (j n : ℕ) (a : Act) (r : code.Name) → (entry C j).act ≡ a → In r (targets_of n (entry C j).act) → In r (targets_of n a)
  by_target j n a r e h = subst (λ (z : Act). In r (targets_of n z)) e h

  not_array : {A : Type 0} (k : ℕ) (x : Name) (r : code.Name) → is_array_name r ≡ false → r ≡ name_as k true x → A
  not_array k x r q e = absurd (let z : true ≡ false = sym (flag_of k true x) ∙ (ap is_array_name (sym e) ∙ q) in cc (z))

  fill_stores : (k n : ℕ) (ms : List Need) (x : Name) (e : Expr) (r : code.Name) → In r (targets_of n (fill_act l k ms x e)) → r ≡ name_as k true x
  fill_stores k n ms x (Co.whole y) r h = only h
  fill_stores k n ms x (Co.literal y) r h = only h
  fill_stores k n ms x (Co.name y) r h = only h
  fill_stores k n ms x (Co.operator y es) r h = only h

  module _ (t : ℕ) (g : OwnedScope s single sigs type_of S (L.table.block_of t)) (lt : t < length C.bodies) (r : code.Name) (one : is_array_name r ≡ false) where
    abbrev KnownAt : Action → Type 0
    KnownAt a = StmtAt sigs type_of g.scope (L.table.block_of t) a

    -- a variable that the statement sees
    seen_owner : {a : Action} {x : Name} {d : Bool} (k : KnownAt a) → SeesAs k.scope x d → OwnerOf s single (L.table.block_of t) x.what
    seen_owner k z = subst (λ (y : Name). OwnerOf s single (L.table.block_of t) y.what) (sym z.is) (owner_at s single sigs type_of S g k z.variable z.visible)

    -- CALLS
    call_aims : {at n i : ℕ} {a : Action} {c : Call} {at' : ℕ} {q : ℤ} (k : KnownAt a) → calls c ∈ own_parts a → (ca : CallAs C l (k_of t) (own_parts a) at' q c i) → (m : ℕ) → slice_get ca.outs m ≡ Some r → Aims t (stmt at n a) i r
    call_aims {at} {n} {i} {a} {c} k m ca j e = by (out_at C l j r ca.outputs e) (known.outputs)
      where
        known : CallIn k.scope a c
        known = call_known_of C l L found scoped sigs type_of S D Assigns (keeps_targets s single) k.comes m

        called : Calls C i c (l.body_of c.function)
        called = record { offset = ca.offset_is; opens = subst (λ (z : Act). In {X = Opening × ℕ} (Calling, l.body_of c.function) (ways z)) (sym (ca.is).act_is) (inl refl) }

        by : ((x : Name) × (f : Bool) × (slice_get c.outputs j ≡ Some x) × (r ≡ name_as (k_of t) f x))
            → ((calls c ∈ before a × Hidden c.outputs known.signature.outputs) ⊎ ((p : ℤ) × (ps : List Part) × (a ≡ call_alone p ps c) × OutputsCome k.scope c.outputs known.signature.outputs)) → Aims t (stmt at n a) i r
        by o (inl h) =
            let here_is : Co.here (h.1).node ≡ o.0 = (get_one (Co.here (h.1).node) o.0 j (subst (λ (xs : List Name). slice_get xs j ≡ Some o.0) (h.1).is o.2)).1 in
            let flag : o.1 ≡ false = flag_is (k_of t) o.1 false o.0 r o.3 one in
            at_hidden m h.0 (h.1).is (o.3 ∙ ap₂ (λ (f : Bool) (x : Name). name_as (k_of t) f x) flag (sym here_is)) called
        by o (inr h) =
            let flag : o.1 ≡ false = flag_is (k_of t) o.1 false o.0 r o.3 one in
            let z = out_type j o.0 h.3 o.2 in
            at_alone h.0 h.1 h.2 called (record {
              name = o.0;
              is = o.3 ∙ ap (λ (f : Bool). name_as (k_of t) f o.0) flag;
              assigns = names false {at = at} {n = n} {a = a} first (subst (λ (y : Action). o.0 ∈ by_name y) (sym h.2) (get_in c.outputs j o.0 o.2)) refl;
              owner = seen_owner k z.2;
            })

    -- ITSELF
    simple_aims : {at n j : ℕ} (a : Action) (k : KnownAt a) → IsSimple a → OwnOf C l L.table (k_of t) (stmt at n a) j → In r (targets_of (entry C j).node (simple_act l (k_of t) (own_needs l (k_of t) a) a)) → Aims t (stmt at n a) j r
    simple_aims {at} {n} (assign x o) k z w h = at_own w (record { name = x; is = only h; assigns = names false {at = at} {n = n} {a = assign x o} first first refl; owner = seen_owner k (k.comes.own).0 })
    simple_aims {j = j} (fill x o) k z w h = not_array (k_of t) x r one (fill_stores (k_of t) (entry C j).node _ x (own_expr o) r h)
    simple_aims (insert x i o) k z w h = not_array (k_of t) x r one (only h)
    simple_aims (print p o) k z w h = absurd h
    simple_aims (assert p o) k z w h = absurd h
    simple_aims (declare v) k z w h = absurd z
    simple_aims (call_alone q ps c) k z w h = absurd z
    simple_aims (when c b) k z w h = absurd z
    simple_aims (choose c b d) k z w h = absurd z
    simple_aims (range lo hi st v u b) k z w h = absurd z
    simple_aims (each x v u b) k z w h = absurd z
    simple_aims (wait ns b) k z w h = absurd z

    own_aims : {at n : ℕ} (j : ℕ) (a : Action) (k : KnownAt a) → OwnOf C l L.table (k_of t) (stmt at n a) j → In r (targets (entry C j)) → Aims t (stmt at n a) j r
    own_aims j a k (own_simple z e q) h = simple_aims a k z (own_simple z e q) (by_target j (entry C j).node _ r e.act_is h)
    own_aims j a k (own_branch e mk s) h = absurd (by_target j (entry C j).node _ r e.act_is h)
    own_aims j a k (own_branches e mk s s') h = absurd (by_target j (entry C j).node _ r e.act_is h)
    own_aims j a k (own_range e mk s) h = absurd (by_target j (entry C j).node _ r e.act_is h)
    own_aims j a k (own_each e mk s) h = absurd (by_target j (entry C j).node _ r e.act_is h)
    own_aims j a k (own_wait hd e s) h = absurd (by_target j (entry C j).node _ r e.act_is h)

    tells : (j : ℕ) {a : Act} → (entry C j).act ≡ a → TellsNode a → TellsNode (entry C j).act
    tells j e h = subst (λ (z : Act). TellsNode z) (sym e) h

    node_is : (n m : ℕ) → r ≡ code.here (scalar n) → n ≡ m → r ≡ code.here (scalar m)
    node_is n m e q = e ∙ ap (λ (z : ℕ). code.here (scalar z)) q

    part_aims : {at n at' : ℕ} {q : ℤ} {a : Action} {x : Part} {js : List ℕ} (i : ℕ) (k : KnownAt a) → x ∈ own_parts a → PartAs C l (k_of t) (own_parts a) at' q x js → In i js → In r (targets (entry C i)) → Aims t (stmt at n a) i r
    part_aims i k m (plain_literal z) h u = absurd h
    part_aims i k m (plain_name z) h u = absurd h
    part_aims {at} {n} {a = a} i k m (a_cell {j = j} z q en) h u = subst (λ (y : ℕ). Aims t (stmt at n a) y r) (sym (only h)) (at_cell m (tells j en.act_is tt) q (node_is (entry C j).node _ (only (by_target j (entry C j).node _ r en.act_is (at_entry r h u))) q))
    part_aims {at} {n} {a = a} i k m (a_read {j = j} z q ix en) h u = subst (λ (y : ℕ). Aims t (stmt at n a) y r) (sym (only h)) (at_cell m (tells j en.act_is tt) q (node_is (entry C j).node _ (only (by_target j (entry C j).node _ r en.act_is (at_entry r h u))) q))
    part_aims {at} {n} {a = a} i k m (a_call {j = j} ca) h u =
        let o = get_some ca.outs r (by_target j (entry C j).node _ r (ca.is).act_is (at_entry r h u)) in
        subst (λ (y : ℕ). Aims t (stmt at n a) y r) (sym (only h)) (call_aims k m ca o.0 o.1)

    -- THROUGH ANOTHER BODY
    abbrev InnerAt : ℕ → Scope → code.Name → Type 0
    InnerAt b h q = Settled C l L found scoped sigs type_of S D Assigns b h q

    inner_led : (b j : ℕ) (h : Scope) (q : code.Name) → In j (body C b).entries → InScopes sigs type_of h (L.table.block_of b) → Leads C targets j q → InnerAt b h q
    inner_led b j h q i sc ld = led C l L found scoped sigs type_of S D Assigns (keeps_targets s single) targets (base_written C l L found scoped sigs type_of S D single kinds) b j h q i sc ld

    header_aims : {at n i b : ℕ} {a : Action} {c : Block} {vs : List Variable} {o : code.Opener} (j : ℕ) (q : code.Name) (k : KnownAt a) → OwnOf C l L.table (k_of t) (stmt at n a) i → ((x : ℕ) → x ∈ roles_of a → In (scalar x) vs) → c ∈ header_blocks a
        → Stands C l L.table (k_of t) c vs o b → In j (body C b).entries → Leads C targets j q → (Declared C b q → ⊥) → q ≡ record { up = suc r.up; owned = r.owned } → Aims t (stmt at n a) i r
    header_aims {at} {n} {i} {b} {a} {c} {vs} j q k own roles m st h ld nd seen = by (inner_led b j x.scope q h (subst (λ (y : Block). InScopes sigs type_of x.scope y) (sym st.block) x.inner) ld)
      where
        x : HeaderScope sigs type_of k.scope a c
        x = k.headers c m

        made : (v : Variable) → In v vs → In v (body C b).makes
        made v h =
            let y = L.bodies b st.within in
            subst (λ (z : List Variable). In v z) (sym y.makes) (Rattle.dataflow.proofs.Lists.in_left v (L.table.variables_of b) y.own (subst (λ (z : List Variable). In v z) (sym st.variables) h))

        by : InnerAt b x.scope q → Aims t (stmt at n a) i r
        by (inl d) = absurd (nd d)
        by (inr z) = elim (x.sees z.sees.variable z.sees.visible) [
          | inl e ↦ (let u = deeper_of k.scope z.sees.variable e in
              let name_is : z.name ≡ further u.variable.refers_to = z.sees.is ∙ u.is in
              let is : q ≡ name_as (k_of t) z.flag (further u.variable.refers_to) = z.is ∙ ap₂ (λ (p : ℕ) (y : Name). name_as p z.flag y) st.inputs name_is in
              let out : r ≡ name_as (k_of t) z.flag u.variable.refers_to = step_out (k_of t) z.flag u.variable.refers_to r (sym seen ∙ is) in
              let flag : z.flag ≡ false = flag_is (k_of t) z.flag false u.variable.refers_to r out one in
              let inside : Assigns false c u.variable.refers_to.what = subst (λ (f : Bool). Assigns f c u.variable.refers_to.what) flag (subst (λ (y : Name). Assigns z.flag c y.what) name_is (subst (λ (y : Block). Assigns z.flag y z.name.what) st.block z.kept)) in
              at_own own (record {
                name = u.variable.refers_to;
                is = out ∙ ap (λ (f : Bool). name_as (k_of t) f u.variable.refers_to) flag;
                assigns = further_in false {at = at} {n = n} {a = a} first (header_inner a m) inside;
                owner = owner_at s single sigs type_of S g k u.variable u.there;
              }))
          | inr v ↦ (let flag : z.flag ≡ false = sym z.sees.shape ∙ v.shape in
              let is : q ≡ code.here (scalar v.node) = z.is ∙ ap₂ (λ (f : Bool) (y : Name). name_as (L.table.inputs_of b) f y) flag (z.sees.is ∙ v.is) in
              absurd (nd (record { variable = scalar v.node; is = is; made = made (scalar v.node) (roles v.node v.role) })))
        ]

    wait_aims : {at n i b : ℕ} {ns : List Awaited} {d c : Block} {hs : List code.Header} {vs : List Variable} {o : code.Opener} (j : ℕ) (q : code.Name) (k : KnownAt (wait ns d)) → OwnOf C l L.table (k_of t) (stmt at n (wait ns d)) i → Headers (k_of t) (stmt at n (wait ns d)) hs c
        → Stands C l L.table (k_of t) c vs o b → In j (body C b).entries → Leads C targets j q → (Declared C b q → ⊥) → q ≡ r → Aims t (stmt at n (wait ns d)) i r
    wait_aims {at} {n} {i} {b} {ns} {d} {c} j q k own hd st h ld nd seen = by (inner_led b j k.scope q h (subst (λ (y : Block). InScopes sigs type_of k.scope y) (sym st.block) x.scoped_in) ld)
      where
        x : Content C l L found scoped sigs type_of S D Assigns (keeps_targets s single) k.scope (alone (stmt at n (wait ns d))) c
        x = content C l L found scoped sigs type_of S D Assigns (keeps_targets s single) at n ns d (alone (stmt at n (wait ns d))) k.scope hd refl first (k.content ns d refl)

        by : InnerAt b k.scope q → Aims t (stmt at n (wait ns d)) i r
        by (inl e) = absurd (nd e)
        by (inr z) =
            let out : r ≡ name_as (k_of t) z.flag z.name = sym seen ∙ (z.is ∙ ap (λ (p : ℕ). name_as p z.flag z.name) st.inputs) in
            let flag : z.flag ≡ false = flag_is (k_of t) z.flag false z.name r out one in
            let inside : Assigns false c z.name.what = subst (λ (f : Bool). Assigns f c z.name.what) flag (subst (λ (y : Block). Assigns z.flag y z.name.what) st.block z.kept) in
            at_own own (record { name = z.name; is = out ∙ ap (λ (f : Bool). name_as (k_of t) f z.name) flag; assigns = x.kept false z.name.what inside; owner = seen_owner k z.sees })

    through_call : {at n i b at' : ℕ} {p : ℤ} {a : Action} {c : Call} {f : Function} {vs : List Variable} {o : code.Opener} (j : ℕ) (q : code.Name) (k : KnownAt a) → calls c ∈ own_parts a → (ca : CallAs C l (k_of t) (own_parts a) at' p c i)
        → In {X = Opening × ℕ} (Calling, b) (ways (entry C i).act) → slice_get s.functions c.function ≡ Some f → Stands C l L.table f.inputs f.body vs o b → In j (body C b).entries → Leads C targets j q → (Declared C b q → ⊥)
        → (kk : ℕ) (bb : Bool) → q ≡ record { up = 0; owned = Parameter kk bb } → argument C (entry C i).offset kk bb ≡ Some (Named r) → Aims t (stmt at n a) i r
    through_call {at} {n} {i} {b} {a = a} {c = c} {f = f} j q k m ca way fn st h ld nd kk bb seen ar = by (inner_led b j F.scope q h (subst (λ (y : Block). InScopes sigs type_of F.scope y) (sym st.block) F.body) ld)
      where
        F : FunctionScoped sigs type_of sigs c.function f
        F = S.functions c.function f fn

        known : CallIn k.scope a c
        known = call_known_of C l L found scoped sigs type_of S D Assigns (keeps_targets s single) k.comes m

        counted : length ca.ins ≡ f.inputs
        counted = sym (inputs_length C l ca.inputs) ∙ (comes_length known.inputs ∙ (ap (λ (u : Signature). length u.inputs) (same_Some _ _ (sym known.there ∙ F.there)) ∙ F.inputs))

        named_same : {x y : code.Name} → Named x ≡ Named y → x ≡ y
        named_same h = cc

        parameter : (z : SeenAs (L.table.inputs_of b) F.scope (λ d w. Assigns d (L.table.block_of b) w) q) → IsParameter F.signature z.sees.variable → Aims t (stmt at n a) i r
        parameter z (is_input w e ty) =
            absurd (no_target s single (an_input (function_in s.functions c.function f fn) (subst (λ (x : ℕ). w < x) F.inputs (slice_get_within F.signature.inputs w z.sees.variable.type ty)))
            (has_target (subst (λ (y : Name). Assigns z.flag f.body y.what) (z.sees.is ∙ e) (subst (λ (y : Block). Assigns z.flag y z.name.what) st.block z.kept))))
        parameter z (is_output w e ty) =
            let u = parameter_is (sym seen ∙ (z.is ∙ ap₂ (λ (x : ℕ) (y : Name). name_as x z.flag y) st.inputs (z.sees.is ∙ e))) in
            let got = arg_at (ca.ins ++ map Named ca.outs) kk bb (Named r) (sym (handed C l L found scoped sigs type_of S D Assigns (keeps_targets s single) b ca way kk bb) ∙ ar) in
            let place : kk ≡ length ca.ins + w = u.0 ∙ ap (λ (x : ℕ). x + w) (sym counted) in
            let at_out : slice_get (map Named ca.outs) w ≡ Some (Named r) = sym (get_right ca.ins (map Named ca.outs) w) ∙ subst (λ (x : ℕ). slice_get (ca.ins ++ map Named ca.outs) x ≡ Some (Named r)) place got.0 in
            let y = get_unmap Named ca.outs w (Named r) at_out in
            call_aims k m ca w (y.1 ∙ ap (λ (x : code.Name). Some x) (named_same y.2))

        by : InnerAt b F.scope q → Aims t (stmt at n a) i r
        by (inl e) = absurd (nd e)
        by (inr z) = parameter z (F.parameters z.sees.variable z.sees.visible)

    way_is : {v w : Opening} {b c : ℕ} → ◌≡◌ {A = Opening × ℕ} (v, b) (w, c) → v ≡ w
    way_is e = ap (λ (z : Opening × ℕ). z.0) e

    part_way : {k at' : ℕ} {q : ℤ} {all : List Part} {x : Part} {js : List ℕ} (i b : ℕ) (w : Opening) → PartAs C l k all at' q x js → In i js → In {X = Opening × ℕ} (w, b) (ways (entry C i).act) → w ≡ Calling
    part_way i b w (plain_literal z) h u = absurd h
    part_way i b w (plain_name z) h u = absurd h
    part_way i b w (a_cell {j = j} z q en) h u = absurd (subst (λ (y : Act). In {X = Opening × ℕ} (w, b) (ways y)) en.act_is (subst (λ (y : ℕ). In {X = Opening × ℕ} (w, b) (ways (entry C y).act)) (only h) u))
    part_way i b w (a_read {j = j} z q ix en) h u = absurd (subst (λ (y : Act). In {X = Opening × ℕ} (w, b) (ways y)) en.act_is (subst (λ (y : ℕ). In {X = Opening × ℕ} (w, b) (ways (entry C y).act)) (only h) u))
    part_way i b w (a_call {c = c} {j = j} ca) h u =
        way_is (only {x = (w, b)} {y = (Calling, l.body_of c.function)} (subst (λ (y : Act). In {X = Opening × ℕ} (w, b) (ways y)) (ca.is).act_is (subst (λ (y : ℕ). In {X = Opening × ℕ} (w, b) (ways (entry C y).act)) (only h) u)))

    own_role : {at n : ℕ} {a : Action} (i b : ℕ) (w : Opening) → (w ≡ Calling → ⊥) → Role C l L.table (k_of t) (stmt at n a) i → In {X = Opening × ℕ} (w, b) (ways (entry C i).act) → OwnOf C l L.table (k_of t) (stmt at n a) i
    own_role i b w f (inl p) h = absurd (f (part_way i b w p.as_part p.among h))
    own_role i b w f (inr o) h = o

    no_through : Through ≡ Calling → ⊥
    no_through e = absurd (cc (e))

    no_place : InPlace ≡ Calling → ⊥
    no_place e = absurd (cc (e))

    opening_aims : {at n : ℕ} {a : Action} (i j b : ℕ) (w : Opening) (q : code.Name) (k : KnownAt a) → Role C l L.table (k_of t) (stmt at n a) i → In {X = Opening × ℕ} (w, b) (ways (entry C i).act) → OpensAs s C l L.table t i (stmt at n a) w b
        → In j (body C b).entries → Leads C targets j q → (Declared C b q → ⊥) → Seen C (entry C i).offset w q r → Aims t (stmt at n a) i r
    opening_aims i j b w q k role way (opens_header vs roles m c mk st) h ld nd seen = header_aims j q k (own_role i b Through no_through role way) roles c st h ld nd seen
    opening_aims i j b w q k role way (opens_wait m hd st) h ld nd seen = wait_aims j q k (own_role i b InPlace no_place role way) hd st h ld nd seen
    opening_aims i j b w q k role way (opens_call at' p m c ca fn st e) h ld nd seen = through_call j q k c ca way fn st h ld nd seen.0 seen.1 seen.2 seen.3

    -- WHAT AN ENTRY AIMS AT
    pub aims : (at n : ℕ) (a : Action) (j : ℕ) → stmt at n a ∈ block_list (L.table.block_of t) → Role C l L.table (k_of t) (stmt at n a) j → In j (body C t).entries → Leads C targets j r → Aims t (stmt at n a) j r
    aims at n a j m role h (itself i x u) = (let k = lookup sigs type_of g.scoped_in m in elim role [ inl p ↦ part_aims j k p.there p.as_part p.among u | inr o ↦ own_aims j a k o u ])
    aims at n a j m role h (through i j' b w x q way h' ld nd seen) =
        opening_aims j j' b w q (lookup sigs type_of g.scoped_in m) role way (opens_by C l L scoped t j b w (stmt at n a) m role h way) h' ld nd seen
