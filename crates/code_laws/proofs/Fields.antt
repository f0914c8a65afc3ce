-- What the entries of a body may read and write is declared in it, or seen from the entry that opens it.
use Rattle.std.proofs.Common.{◌≡◌, ◌⊎◌, inl, inr, ℕ, suc, ◌+◌, ◌<◌, ℤ, Bool, true, false, List, [], ◌∷◌, ◌++◌, map, length, refl, sym, ap, ap₂, ◌∙◌, subst, Some}
use Rattle.std.specs.Prelude.{slice_get}
use Rattle.dataflow.specs.System.{In}
use Rattle.language.specs.Core.{Owned, input, Name, here, Cell, Call, Part, inner, calls, Stmt, stmt, Action, Block, Function, Core}
use Rattle.language.specs.Members.{◌∈◌, first, later}
use Rattle.language.specs.Parts.{block_list, part_cells, part_calls, script_blocks, script_stmts, stmt_action}
use Rattle.language.specs.Scopes.{Typ, Scope, Signature}
use Rattle.language.specs.Single.{SinglyAssigned}
use Rattle.language.proofs.Members.{split_in}
use Rattle.language.specs.WellFormed.{header_blocks}
use Rattle.language.proofs.Tested.{among_split, roles_of}
use Rattle.task_code.specs.Code as code
use Rattle.task_code.specs.Code.{Variable, Parameter, Argument, Named, Fixed, Way, InPlace, Through, Calling, Code, Entry, entry, body, ways, is_array_name, scalar, argument}
use Rattle.task_code.specs.Exact.{Leads, through}
use Rattle.task_code.specs.Places.{name_eq}
use Rattle.task_code.specs.Whole.{Declared, Seen, SeenFrom, Fixes}
use Rattle.task_code.proofs.Equal.{name_sound, name_same}
use Rattle.language_laws.specs.Scoped.{InScope, of_script, of_function, inside, in_wait, Scoped}
use Rattle.language_laws.specs.TypedValues.{own_parts}
use Rattle.code_rules.specs.CodeNames.{name_as}
use Rattle.code_rules.specs.IsCodeOf.{Layout, CallAs}
use Rattle.code_rules.specs.Laying.{Kinds, StandsAmong, is_array_argument, IsCallOf}
use Rattle.code_rules.specs.Laid.{Stands, IsLaid}
use Rattle.language_accepted.proofs.Bodies.{scoped_block}
use Rattle.code_laws.specs.Described.{is_array_shape, kinds_of_signature}
use Rattle.code_laws.specs.Standing.{CallsAreFound}
use Rattle.code_laws.proofs.Roles.{own_of}
use Rattle.code_laws.proofs.WholeOpenings.{OpensAs, opens_header, opens_wait, opens_call, home_of, opener_within, opens_as}
use Rattle.code_laws.proofs.Scoping.{before, InScopes}
use Rattle.code_laws.proofs.Settling.{IsParameter, is_output, is_input, FunctionScoped, ScriptScoped}
use Rattle.code_laws.proofs.Lookup.{deeper_of, HeaderScope, lookup, before_own}
use Rattle.code_laws.proofs.Arguments.{Kind, arg_of, get_left, get_right, get_map, get_one, out_of, input_of, inputs_length, InputComes, come_at, comes_length, outs_at}
use Rattle.code_laws.proofs.Led.{SeenAs, Keeping, Within, Settled, CallKnown, call_known_of, handed, led}
use Rattle.code_laws.proofs.Bases.{call_kind}
use Rattle.std.proofs.lemmas.Option.{slice_get_within, same_Some}

-- whether a name is declared in a body is told by its variables
find_variable : (r : code.Name) (vs : List Variable) → ((v : Variable) × In v vs × (r ≡ code.here v)) ⊎ ((v : Variable) → In v vs → r ≡ code.here v → ⊥)
find_variable r [] = inr (λ v h e. h)
find_variable r (u ∷ vs) = by (name_eq r (code.here u)) refl (find_variable r vs)
  where
    by : (b : Bool) → name_eq r (code.here u) ≡ b → (((v : Variable) × In v vs × (r ≡ code.here v)) ⊎ ((v : Variable) → In v vs → r ≡ code.here v → ⊥)) → ((v : Variable) × In v (u ∷ vs) × (r ≡ code.here v)) ⊎ ((v : Variable) → In v (u ∷ vs) → r ≡ code.here v → ⊥)
    by true e rec = inl (u, inl refl, name_sound r (code.here u) e)
    by false e (inl q) = inl (q.0, inr q.1, q.2)
    by false e (inr f) = inr (λ v h z. elim h [
      | inl q ↦ absurd (let t : name_eq r (code.here u) ≡ true = subst (λ (x : code.Name). name_eq r x ≡ true) (z ∙ ap code.here q) (name_same r) in cc (e, t))
      | inr i ↦ f v i z
    ])

pub declared_or : (C : Code) (b : ℕ) (r : code.Name) → Declared C b r ⊎ (Declared C b r → ⊥)
declared_or C b r = elim (find_variable r (body C b).makes) [ inl q ↦ inl (record { variable = q.0; is = q.2; made = q.1 }) | inr f ↦ inr (λ d. f d.variable d.made d.is) ]

among_cells : (ps : List Part) {c : Cell} → inner c ∈ ps → c ∈ part_cells ps
among_cells [] h = elim h [ ]
among_cells (inner d ∷ ps) {c} h = elim (split_in h) [ inl e ↦ subst (λ (x : Cell). x ∈ (d ∷ part_cells ps)) (sym (inner_same e)) first | inr i ↦ later (among_cells ps i) ]
  where
    inner_same : {x y : Cell} → inner x ≡ inner y → x ≡ y
    inner_same h = cc
among_cells (calls d ∷ ps) h = elim (split_in h) [ inl e ↦ absurd (cc (e)) | inr i ↦ among_cells ps i ]

calls_part : (ps : List Part) {c : Call} → c ∈ part_calls ps → calls c ∈ ps
calls_part [] m = elim m [ ]
calls_part (inner d ∷ ps) m = later (calls_part ps m)
calls_part (calls d ∷ ps) {c} m = elim (split_in m) [ inl e ↦ subst (λ (z : Call). calls c ∈ (calls z ∷ ps)) e first | inr i ↦ later (calls_part ps i) ]

kind_by : (a : Argument) (d : Bool) → is_array_argument a ≡ d → Kind a d
kind_by (Named r) d e = e
kind_by (Fixed v) d e = sym e

module _ {s : Core} {fs : List Kinds} {ds : List (ℕ × Bool)} (C : Code) (l : Layout) (L : IsLaid s fs ds C l) (found : CallsAreFound C) (scoped : Scoped s)
    (sigs : List Signature) (type_of : ℕ → Typ) (S : ScriptScoped sigs type_of s) (D : (n : ℕ) (b : Bool) → ◌∈◌ {X = ℕ × Bool} (n, b) ds → is_array_shape (type_of n).shape ≡ b) (kinds : fs ≡ map kinds_of_signature sigs) (single : SinglyAssigned s) where
  -- EACH BLOCK STANDS IN A SCOPE
  pub record Somewhere (b : Block) : Type 0 where
    pub scope : Scope
    pub scoped_in : InScopes sigs type_of scope b

  pub scope_of : {k : ℕ} {b : Block} → InScope s k b → Somewhere b
  scope_of of_script = record { scope = []; scoped_in = S.script }
  scope_of (of_function i {f = f} e) = let F = S.functions i f e in record { scope = F.scope; scoped_in = F.body }
  scope_of (inside {c = c} h m i) = let r = scope_of h in let q = (lookup sigs type_of r.scoped_in m).headers c i in record { scope = q.scope; scoped_in = q.inner }
  scope_of (in_wait {c = c} {ns = ns} h m) = let r = scope_of h in let q = lookup sigs type_of r.scoped_in m in record { scope = q.scope; scoped_in = q.content ns c refl }

  pub body_scope : (t : ℕ) → t < length C.bodies → Somewhere (L.table.block_of t)
  body_scope t h = scope_of (L.bodies t h).scope

  module _ (Q : Bool → Block → Owned → Type 0) (K : Keeping s Q) (own : Entry → List code.Name) (rights : Entry → List code.Name)
      (sound : (i : ℕ) (r : code.Name) → In r (rights (entry C i)) → Leads C own i r) (complete : (i : ℕ) (r : code.Name) → Leads C own i r → In r (rights (entry C i)))
      (base : (t j : ℕ) (g : Scope) (r : code.Name) → In j (body C t).entries → InScopes sigs type_of g (L.table.block_of t) → In r (own (entry C j)) → Settled C l L found scoped sigs type_of S D Q t g r) where
    abbrev At : ℕ → Scope → code.Name → Type 0
    At t g r = Settled C l L found scoped sigs type_of S D Q t g r

    abbrev CallIn : Scope → Action → Call → Type 0
    CallIn g a c = CallKnown C l L found scoped sigs type_of S D Q K g a c

    pub rights_settled : (t j : ℕ) (g : Scope) (r : code.Name) → In j (body C t).entries → InScopes sigs type_of g (L.table.block_of t) → In r (rights (entry C j)) → At t g r
    rights_settled t j g r h sc i = led C l L found scoped sigs type_of S D Q K own base t j g r h sc (sound j r i)

    -- THE SCRIPT
    pub script_settled : (j : ℕ) (r : code.Name) → In j (body C 0).entries → In r (rights (entry C j)) → Declared C 0 r
    script_settled j r h i = elim (rights_settled 0 j [] r h (subst (λ (b : Block). InScopes sigs type_of [] b) (sym L.script.block) S.script) i) [
      | inl d ↦ d
      | inr z ↦ (let m = z.sees.visible in elim m [ ])
    ]

    -- a parameter that stands for a literal
    pub record Literal (i b : ℕ) (r : code.Name) : Type 0 where
      pub fixes : Fixes C (entry C i).offset Calling r
      pub function : Function
      pub place : ℕ
      pub there : slice_get s.functions place ≡ Some function
      pub index : ℕ
      pub below : index < function.inputs
      pub flag : Bool
      pub kept : Q flag function.body (input index)

    abbrev pub Outcome : ℕ → ℕ → Way → code.Name → Type 0
    Outcome i b w r = (Declared C b r ⊎ SeenFrom C rights i w r) ⊎ ((w ≡ Calling) × Literal i b r)

    -- what is not declared passes out
    pass : (i j b : ℕ) (w : Way) (r q : code.Name) → In {X = Way × ℕ} (w, b) (ways (entry C i).act) → In j (body C b).entries → In r (rights (entry C j)) → Seen C (entry C i).offset w r q → Outcome i b w r
    pass i j b w r q way h right seen = elim (declared_or C b r) [
      | inl d ↦ inl (inl d)
      | inr nd ↦ inl (inr (record { outside = q; seen = seen; right = complete i q (through i j b w q r way h (sound j r right) nd seen) }))
    ]

    stand : {k b : ℕ} {c : Block} {vs : List Variable} {o : code.Opener} {g : Scope} → Stands C l L.table k c vs o b → InScopes sigs type_of g c → InScopes sigs type_of g (L.table.block_of b)
    stand {g = g} st i = subst (λ (z : Block). InScopes sigs type_of g z) (sym st.block) i

    role_made : {k b : ℕ} {c : Block} {vs : List Variable} {o : code.Opener} (v : Variable) → Stands C l L.table k c vs o b → In v vs → In v (body C b).makes
    role_made {b = b} v st h =
        let y = L.bodies b st.within in
        subst (λ (z : List Variable). In v z) (sym y.makes) (Rattle.dataflow.proofs.Lists.in_left v (L.table.variables_of b) y.own (subst (λ (z : List Variable). In v z) (sym st.variables) h))

    -- THE OUTPUTS OF A CALL
    out_name : {g : Scope} {a : Action} {c : Call} (k : CallIn g a c) (j : ℕ) (τ : Typ) → slice_get k.signature.outputs j ≡ Some τ → (x : Name) × (slice_get c.outputs j ≡ Some x)
    out_name {c = c} k j τ e = elim k.outputs [
      | inl h ↦ (let z = (get_one (h.1).type τ j (subst (λ (xs : List Typ). slice_get xs j ≡ Some τ) (h.1).typed e)).0 in
          (here (h.1).node, subst (λ (n : ℕ). slice_get c.outputs n ≡ Some (here (h.1).node)) (sym z) (subst (λ (xs : List Name). slice_get xs 0 ≡ Some (here (h.1).node)) (sym (h.1).is) refl)))
      | inr h ↦ (let q = outs_at j τ h.3 e in (q.0, q.1))
    ]

    -- the kind of what a call hands over for an input is that of the input
    in_kind : {k i at : ℕ} {q : ℤ} {all : List Part} {c : Call} {sig : Signature} → slice_get sigs c.function ≡ Some sig → l.body_of c.function ≡ suc c.function → (ca : CallAs C l k all at q c i) → (j : ℕ) (a : Argument) (τ : Typ)
        → slice_get ca.ins j ≡ Some a → slice_get sig.inputs j ≡ Some τ → is_array_argument a ≡ is_array_shape τ.shape
    in_kind {i = i} {c = c} {sig = sig} there e ca j a τ o ty = by f.0 f.1 f.2
      where
        f : (st : Stmt) × st ∈ script_stmts s × IsCallOf fs (own_parts (stmt_action st)) (entry C i) c.function ca.ins ca.outs
        f = L.fit i c.function ca.ins ca.outs ((ca.is).act_is ∙ ap (λ (b : ℕ). code.Call b ca.ins ca.outs) e)

        by : (st : Stmt) → st ∈ script_stmts s → IsCallOf fs (own_parts (stmt_action st)) (entry C i) c.function ca.ins ca.outs → is_array_argument a ≡ is_array_shape τ.shape
        by (stmt at n act) m q =
            let b = among_split (script_blocks s) m in
            let sc = scope_of (scoped_block s b.1).1 in
            let at_stmt = lookup sigs type_of sc.scoped_in b.2 in
            let known : CallIn at_stmt.scope act q.call = call_known_of C l L found scoped sigs type_of S D Q K at_stmt.comes (calls_part (own_parts act) q.there) in
            let same : known.signature ≡ sig = same_Some _ _ (sym known.there ∙ (ap (λ (n : ℕ). slice_get sigs n) q.function ∙ there)) in
            let come = come_at j τ known.inputs (subst (λ (z : Signature). slice_get z.inputs j ≡ Some τ) (sym same) ty) in
            q.fits.inputs (kinds_of_signature sig) j come.0 a (is_array_shape τ.shape)
            (subst (λ (n : ℕ). slice_get fs n ≡ Some (kinds_of_signature sig)) (sym q.function) (subst (λ (z : List Kinds). slice_get z c.function ≡ Some (kinds_of_signature sig)) (sym kinds) (get_map kinds_of_signature sigs c.function sig there)))
            come.1 o (get_map (λ (z : Typ). is_array_shape z.shape) sig.inputs j τ ty) (λ z. standing z come.2)
          where
            standing : {g : Scope} {x : Name} → is_array_shape τ.shape ≡ false → InputComes g (before act) x τ → StandsAmong (own_parts act) x
            standing z (inl h) = absurd (let w = h.0 in cc (z, w))
            standing z (inr h) = record { cell = (h.1).0; there = among_cells (own_parts act) (before_own act (h.1).1); is = (h.1).2 }

    -- WHAT PASSES OUT
    abbrev Here : ℕ → Scope → Action → Type 0
    Here t g a = Within C l L found scoped sigs type_of S D t g a

    out_header : {t i b : ℕ} {g : Scope} {a : Action} {c : Block} {vs : List Variable} {o : code.Opener} (j : ℕ) (r : code.Name) (w : Here t g a) → ((x : ℕ) → x ∈ roles_of a → In (scalar x) vs) → c ∈ header_blocks a
        → Stands C l L.table (L.table.inputs_of t) c vs o b → In {X = Way × ℕ} (Through, b) (ways (entry C i).act) → In j (body C b).entries → In r (rights (entry C j)) → Outcome i b Through r
    out_header {i = i} {b = b} {a = a} {c = c} j r w roles m st way h right = by (rights_settled b j x.scope r h (stand st x.inner) right)
      where
        x : HeaderScope sigs type_of w.known.scope a c
        x = w.known.headers c m

        by : At b x.scope r → Outcome i b Through r
        by (inl d) = inl (inl d)
        by (inr z) = elim (x.sees z.sees.variable z.sees.visible) [
          | inl k ↦ (let u = deeper_of w.known.scope z.sees.variable k in
              pass i j b Through r (name_as (L.table.inputs_of b) z.flag u.variable.refers_to) way h right (z.is ∙ ap (λ (y : Name). name_as (L.table.inputs_of b) z.flag y) (z.sees.is ∙ u.is)))
          | inr v ↦ inl (inl (record {
            variable = scalar v.node;
            is = z.is ∙ ap₂ (λ (f : Bool) (y : Name). name_as (L.table.inputs_of b) f y) (sym z.sees.shape ∙ v.shape) (z.sees.is ∙ v.is);
            made = role_made (scalar v.node) st (roles v.node v.role);
          }))
        ]

    out_call : {t i b at : ℕ} {p : ℤ} {g : Scope} {a : Action} {c : Call} {f : Function} {vs : List Variable} {o : code.Opener} (j : ℕ) (r : code.Name) (w : Here t g a) → l.body_of c.function ≡ suc c.function → calls c ∈ own_parts a
        → CallAs C l (L.table.inputs_of t) (own_parts a) at p c i → In {X = Way × ℕ} (Calling, b) (ways (entry C i).act) → slice_get s.functions c.function ≡ Some f → Stands C l L.table f.inputs f.body vs o b → In j (body C b).entries → In r (rights (entry C j)) → Outcome i b Calling r
    out_call {t} {i} {b} {g = g} {a = a} {c = c} {f = f} j r w bf m ca way fn st h right = by (rights_settled b j F.scope r h (stand st F.body) right)
      where
        F : FunctionScoped sigs type_of sigs c.function f
        F = S.functions c.function f fn

        known : CallIn w.known.scope a c
        known = call_known_of C l L found scoped sigs type_of S D Q K w.known.comes m

        same : F.signature ≡ known.signature
        same = same_Some _ _ (sym F.there ∙ known.there)

        counted : length ca.ins ≡ f.inputs
        counted = sym (inputs_length C l ca.inputs) ∙ (comes_length known.inputs ∙ (ap (λ (u : Signature). length u.inputs) (sym same) ∙ F.inputs))

        named : (z : SeenAs (L.table.inputs_of b) F.scope (λ d v. Q d (L.table.block_of b) v) r) → r ≡ name_as f.inputs z.flag z.sees.variable.refers_to
        named z = z.is ∙ ap₂ (λ (n : ℕ) (y : Name). name_as n z.flag y) st.inputs z.sees.is

        given : (kk : ℕ) (d : Bool) (arg : Argument) → r ≡ record { up = 0; owned = Parameter kk d } → slice_get (ca.ins ++ map Named ca.outs) kk ≡ Some arg → Kind arg d
            → ((v : _) → arg ≡ Fixed v → Fixes C (entry C i).offset Calling r → Outcome i b Calling r) → Outcome i b Calling r
        given kk d arg e q k lit = of_kind arg refl
          where
            found_arg : argument C (entry C i).offset kk d ≡ Some arg
            found_arg = handed C l L found scoped sigs type_of S D Q K b ca way kk d ∙ arg_of (ca.ins ++ map Named ca.outs) kk d arg q k

            of_kind : (x : Argument) → arg ≡ x → Outcome i b Calling r
            of_kind (Named y) z = pass i j b Calling r y way h right (kk, d, e, found_arg ∙ ap (λ (u : Argument). Some u) z)
            of_kind (Fixed v) z = lit v z (kk, d, v, e, found_arg ∙ ap (λ (u : Argument). Some u) z)

        parameter : (z : SeenAs (L.table.inputs_of b) F.scope (λ d v. Q d (L.table.block_of b) v) r) → IsParameter F.signature z.sees.variable → Outcome i b Calling r
        parameter z (is_output k e ty) =
            let τ = z.sees.variable.type in
            let ty' : slice_get known.signature.outputs k ≡ Some τ = subst (λ (v : Signature). slice_get v.outputs k ≡ Some τ) same ty in
            let x = out_name known k τ ty' in
            let o = out_of C l k x.0 ca.outputs x.1 in
            let kind : is_array_name o.0 ≡ z.flag = call_kind C l L found scoped sigs type_of S D single kinds known.there bf ca k o.0 τ o.1 ty' ∙ z.sees.shape in
            let place : slice_get (ca.ins ++ map Named ca.outs) (f.inputs + k) ≡ Some (Named o.0) =
            subst (λ (n : ℕ). slice_get (ca.ins ++ map Named ca.outs) (n + k) ≡ Some (Named o.0)) counted (get_right ca.ins (map Named ca.outs) k ∙ get_map Named ca.outs k o.0 o.1) in
            given (f.inputs + k) z.flag (Named o.0) (named z ∙ ap (λ (y : Name). name_as f.inputs z.flag y) e) place kind (λ v q. absurd (cc (q)))
        parameter z (is_input k e ty) =
            let τ = z.sees.variable.type in
            let ty' : slice_get known.signature.inputs k ≡ Some τ = subst (λ (v : Signature). slice_get v.inputs k ≡ Some τ) same ty in
            let x = come_at k τ known.inputs ty' in
            let y = input_of C l k x.0 ca.inputs x.1 in
            let kind : is_array_argument y.0 ≡ z.flag = in_kind known.there bf ca k y.0 τ y.1 ty' ∙ z.sees.shape in
            let kept : Q z.flag f.body (input k) = subst (λ (v : Name). Q z.flag f.body v.what) (z.sees.is ∙ e) (subst (λ (v : Block). Q z.flag v z.name.what) st.block z.kept) in
            given k z.flag y.0 (named z ∙ ap (λ (u : Name). name_as f.inputs z.flag u) e) (get_left ca.ins (map Named ca.outs) k y.0 y.1) (kind_by y.0 z.flag kind)
            (λ v q fixes. inr (refl, record { fixes = fixes; function = f; place = c.function; there = fn; index = k; below = subst (λ (n : ℕ). k < n) F.inputs (slice_get_within F.signature.inputs k τ ty); flag = z.flag; kept = kept }))

        by : At b F.scope r → Outcome i b Calling r
        by (inl d) = inl (inl d)
        by (inr z) = parameter z (F.parameters z.sees.variable z.sees.visible)

    -- EACH NAME OF A BODY THAT IS OPENED IS DECLARED OR SEEN
    pub passes : (i b : ℕ) (w : Way) (j : ℕ) (r : code.Name) → In {X = Way × ℕ} (w, b) (ways (entry C i).act) → In j (body C b).entries → In r (rights (entry C j)) → Outcome i b w r
    passes i b w j r way h right =
        let e = home_of C l L i (opener_within C l L i (w, b) way) in
        by e.home e.within_code (body_scope e.home e.within_code) w (opens_as C l L scoped e.home i b w e.stands way).1 way
      where
        within : {t at n : ℕ} {a : Action} → t < length C.bodies → (g : Somewhere (L.table.block_of t)) → stmt at n a ∈ block_list (L.table.block_of t) → Here t g.scope a
        within lt g m = record { at = _; node = _; there = m; known = lookup sigs type_of g.scoped_in m; in_code = lt }

        by : (t : ℕ) {y : Stmt} → t < length C.bodies → Somewhere (L.table.block_of t) → (w : Way) → OpensAs s C l L.table t i y w b → In {X = Way × ℕ} (w, b) (ways (entry C i).act) → Outcome i b w r
        by t lt g Through (opens_header vs roles m c mk st) way = out_header j r (within lt g m) roles c st way h right
        by t lt g InPlace (opens_wait m hd st) way = pass i j b InPlace r r way h right refl
        by t lt g Calling (opens_call {st = u} {c = c} {f = f} at p m k ca fn st e) way = of_stmt u m k ca
          where
            of_stmt : (u : Stmt) → u ∈ block_list (L.table.block_of t) → calls c ∈ own_of u → CallAs C l (L.table.inputs_of t) (own_of u) at p c i → Outcome i b Calling r
            of_stmt (stmt at' n a) m k ca = out_call j r (within lt g m) (((L.bodies t lt).suits at' n a m).bodies c.function) k ca way fn st h right
