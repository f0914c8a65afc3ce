-- What an entry of laid code leads to is declared in its body, or is a variable that its block sees.
use Rattle.std.proofs.Common.{◌≡◌, ◌⊎◌, inl, inr, ℕ, suc, ◌+◌, ◌<◌, Bool, true, false, List, [], ◌∷◌, ◌++◌, map, length, refl, sym, ap, ap₂, ◌∙◌, subst, Some, arith}
use Rattle.std.specs.Prelude.{slice_get, ℤ}
use Rattle.dataflow.specs.System.{In}
use Rattle.language.specs.Core.{Owned, input, Name, here, Cell, Call, Part, inner, calls, Awaited, Stmt, stmt, Action, call_alone, wait, Block, no_stmts, stmts, Function, Core}
use Rattle.language.specs.Members.{◌∈◌, first, later}
use Rattle.language.specs.Parts.{block_list, part_cells}
use Rattle.language.specs.Scopes.{Typ, Visible, Scope, further, Signature}
use Rattle.language.specs.WellFormed.{header_blocks}
use Rattle.language.proofs.Blocks.{inner_blocks, header_inner}
use Rattle.language.proofs.Members.{split_in}
use Rattle.language.proofs.Tested.{roles_of}
use Rattle.task_code.specs.Code as code
use Rattle.task_code.specs.Code.{Variable, Local, Parameter, Argument, Named, Fixed, Header, Way, InPlace, Through, Calling, Code, Entry, ByStep, ByWait, ByCalls, entry, body, ways, is_array_name, scalar, arguments, argument, argument_in, call_at}
use Rattle.task_code.specs.Exact.{Leads, itself, through}
use Rattle.task_code.specs.Whole.{Declared, Seen}
use Rattle.language_laws.specs.Scoped.{Scoped}
use Rattle.language_laws.specs.TypedValues.{own_parts}
use Rattle.code_rules.specs.CodeNames.{name_as}
use Rattle.code_rules.specs.IsCodeOf.{Layout, InputAs, of_literal, of_name, of_datum, of_array, CallAs, OutputsAs}
use Rattle.code_rules.specs.Laying.{Kinds, Headers, one_header, more_headers}
use Rattle.code_rules.specs.Laid.{Table, Stands, IsLaid}
use Rattle.code_laws.specs.Described.{is_array_shape}
use Rattle.code_laws.specs.Standing.{CallsAreFound}
use Rattle.code_laws.proofs.Needs.{flag_of}
use Rattle.code_laws.proofs.Roles.{own_of}
use Rattle.code_laws.proofs.Shapes.{body_within}
use Rattle.code_laws.proofs.WholeOpenings.{OpensAs, opens_header, opens_wait, opens_call, opens_as}
use Rattle.code_laws.proofs.Scoping.{SeesAs, Comes, of_scope, of_cell, of_call, before, Hidden, OutputsCome, InputsCome, StmtComes, InScopes}
use Rattle.code_laws.proofs.Settling.{IsParameter, is_output, is_input, FunctionScoped, ScriptScoped}
use Rattle.code_laws.proofs.Lookup.{deeper_of, HeaderScope, StmtAt, lookup, one_wait, inner_before, call_comes}
use Rattle.code_laws.proofs.MadeWhole.{declares, PartsMade, parts_made, cell_declared, read_declared, call_declared}
use Rattle.code_laws.proofs.Arguments.{arg_at, get_left, get_right, get_unmap, get_in, get_one, out_at, input_at, input_of, inputs_length, InputComes, come_at, comes_length, outs_at}
use Rattle.std.proofs.lemmas.Option.{slice_get_within, same_Some}

-- a name of code that is this one, of a variable that is seen
pub record SeenAs (k : ℕ) (g : Scope) (Q : Bool → Owned → Type 0) (r : code.Name) : Type 0 where
  pub flag : Bool
  pub name : Name
  pub is : r ≡ name_as k flag name
  pub sees : SeesAs g name flag
  pub kept : Q flag name.what

pub cell_part : (ps : List Part) {c : Cell} → c ∈ part_cells ps → inner c ∈ ps
cell_part [] m = elim m [ ]
cell_part (inner d ∷ ps) {c} m = elim (split_in m) [ inl e ↦ subst (λ (z : Cell). inner c ∈ (inner z ∷ ps)) e first | inr i ↦ later (cell_part ps i) ]
cell_part (calls d ∷ ps) m = later (cell_part ps m)

pub seen_at : {g : Scope} {x y : Name} {d : Bool} → x ≡ y → SeesAs g x d → SeesAs g y d
seen_at {g} {d = d} e s = subst (λ (z : Name). SeesAs g z d) e s

pub flag_is : (k : ℕ) (d b : Bool) (x : Name) (r : code.Name) → r ≡ name_as k d x → is_array_name r ≡ b → d ≡ b
flag_is k d b x r e q = sym (flag_of k d x) ∙ (ap is_array_name (sym e) ∙ q)

-- a name that is seen through a step
pub step_out : (k : ℕ) (d : Bool) (y : Name) (r : code.Name) → record { up = suc r.up; owned = r.owned } ≡ name_as k d (further y) → r ≡ name_as k d y
step_out k d y r e =
    let a : suc r.up ≡ suc y.up = ap (λ (z : code.Name). z.up) e in
    let b : r.up ≡ y.up = omega arith in
    ap₂ (λ (u : ℕ) (o : code.Owned). record { up = u; owned = o }) b (ap (λ (z : code.Name). z.owned) e)

parameter_same : {i j : ℕ} {a b : Bool} → Parameter i a ≡ Parameter j b → (i ≡ j) × (a ≡ b)
parameter_same h = (cc, cc)

pub parameter_is : {i j : ℕ} {a b : Bool} → ◌≡◌ {A = code.Name} (record { up = 0; owned = Parameter i a }) (record { up = 0; owned = Parameter j b }) → (i ≡ j) × (a ≡ b)
parameter_is e = parameter_same (ap (λ (z : code.Name). z.owned) e)

call_same : {b b' : ℕ} {is is' : List Argument} {os os' : List code.Name} → code.Call b is os ≡ code.Call b' is' os' → (is ≡ is') × (os ≡ os')
call_same h = (cc, cc)

-- what is kept of the names that are led to, from an inner block to the one round it and from a called function to the call
pub record Keeping (s : Core) (Q : Bool → Block → Owned → Type 0) : Type 0 where
  pub inside : (b c : Block) (at n : ℕ) (a : Action) (d : Bool) (w : Owned) → stmt at n a ∈ block_list b → c ∈ inner_blocks a → Q d c w → Q d b w
  pub from_input : (f : Function) (i j : ℕ) (d : Bool) → slice_get s.functions i ≡ Some f → j < f.inputs → Q d f.body (input j) → (e : Bool) (b : Block) (w : Owned) → Q e b w
  pub to_output : (b : Block) (at n : ℕ) (p : ℤ) (ps : List Part) (c : Call) (d : Bool) (y : Name) → stmt at n (call_alone p ps c) ∈ block_list b → y ∈ c.outputs → Q d b y.what

module _ {s : Core} {fs : List Kinds} {ds : List (ℕ × Bool)} (C : Code) (l : Layout) (L : IsLaid s fs ds C l) (found : CallsAreFound C) (scoped : Scoped s)
    (sigs : List Signature) (type_of : ℕ → Typ) (S : ScriptScoped sigs type_of s) (D : (n : ℕ) (b : Bool) → ◌∈◌ {X = ℕ × Bool} (n, b) ds → is_array_shape (type_of n).shape ≡ b) where
  abbrev T : Table
  T = L.table

  -- A STATEMENT OF A BODY, IN ITS SCOPE
  pub record Within (t : ℕ) (g : Scope) (a : Action) : Type 0 where
    pub at : ℕ
    pub node : ℕ
    pub there : stmt at node a ∈ block_list (T.block_of t)
    pub known : StmtAt sigs type_of g (T.block_of t) a
    pub in_code : t < length C.bodies

  module _ (Q : Bool → Block → Owned → Type 0) where
    abbrev pub Settled : ℕ → Scope → code.Name → Type 0
    Settled t g r = Declared C t r ⊎ SeenAs (T.inputs_of t) g (λ d w. Q d (T.block_of t) w) r

    -- what a statement sees is declared in its block, or seen by it
    pub settle : {t : ℕ} {g : Scope} {a : Action} {d : Bool} {x : Name} (w : Within t g a) → SeesAs w.known.scope x d → Q d (T.block_of t) x.what → (r : code.Name) → r ≡ name_as (T.inputs_of t) d x → Settled t g r
    settle {t} {g} {a} {d} {x} w s q r e = elim (w.known.grows s.variable s.visible) [
      | inl i ↦ inr (record { flag = d; name = x; is = e; sees = record { variable = s.variable; visible = i; is = s.is; shape = s.shape }; kept = q })
      | inr b ↦ (let same : x ≡ here b.node = s.is ∙ b.is in
          let flag : is_array_shape (type_of b.node).shape ≡ d = ap (λ (τ : Typ). is_array_shape τ.shape) b.typed ∙ s.shape in
          let m = declares C l L type_of D t b.at b.stmt_node b.node w.in_code b.there in
          inl (record {
            variable = record { node = b.node; array = d };
            is = e ∙ ap (λ (z : Name). name_as (T.inputs_of t) d z) same;
            made = subst (λ (z : Bool). In (record { node = b.node; array = z }) (body C t).makes) flag m;
          }))
    ]

    -- a scalar that an expression names
    pub come : {t : ℕ} {g : Scope} {a : Action} {x : Name} (w : Within t g a) (p : PartsMade C l L t a) → Comes w.known.scope (before a) x → Q false (T.block_of t) x.what → (r : code.Name) → r ≡ name_as (T.inputs_of t) false x → Settled t g r
    come w p (of_scope s) q r e = settle w s q r e
    come {t} w p (of_cell m) q r e = inl (subst (λ (z : code.Name). Declared C t z) (sym e) (read_declared C l L p m))
    come {t} w p (of_call m o) q r e = inl (subst (λ (z : code.Name). Declared C t z) (sym e) (call_declared C l L p m o))

    module _ (K : Keeping s Q) where
      -- the content of waits
      pub record Content (g : Scope) (b c : Block) : Type 0 where
        pub scoped_in : InScopes sigs type_of g c
        pub kept : (d : Bool) (w : Owned) → Q d c w → Q d b w

      pub content : {k : ℕ} {st : Stmt} {hs : List Header} {c : Block} (at n : ℕ) (ns : List Awaited) (d b : Block) (g : Scope) → Headers k st hs c → st ≡ stmt at n (wait ns d) → st ∈ block_list b → InScopes sigs type_of g d → Content g b c
      content at n ns d b g (one_header {at = at'} {n = n'} {ns = ns'} {b = c} lone e) q m i =
          record { scoped_in = subst (λ (z : Block). InScopes sigs type_of g z) (sym (content_same q)) i; kept = λ f w h. K.inside b _ _ _ _ f w m first h }
        where
          content_same : stmt at' n' (wait ns' c) ≡ stmt at n (wait ns d) → c ≡ d
          content_same h = cc
      content at n ns d b g (more_headers {at = at'} {n = n'} {ns = ns'} {st = st} h e) q m i =
          let same : stmts st no_stmts ≡ d = content_same q in
          by st h refl (subst (λ (z : Block). InScopes sigs type_of g z) (sym same) i) (λ at' n' ns' d' e' i'. content at' n' ns' d' (stmts st no_stmts) g h e' first i')
        where
          content_same : stmt at' n' (wait ns' (stmts st no_stmts)) ≡ stmt at n (wait ns d) → stmts st no_stmts ≡ d
          content_same h = cc

          by : {k : ℕ} {hs : List Header} {c : Block} (u : Stmt) → Headers k u hs c → st ≡ u → InScopes sigs type_of g (stmts st no_stmts)
              → ((at' n' : ℕ) (ns' : List Awaited) (d' : Block) → st ≡ stmt at' n' (wait ns' d') → InScopes sigs type_of g d' → Content g (stmts st no_stmts) c) → Content g b c
          by u (one_header {at = a1} {n = n1} {ns = ns1} {b = b1} lone z) e i rec =
              let w = one_wait sigs type_of (subst (λ (x : Stmt). InScopes sigs type_of g (stmts x no_stmts)) e i) in
              let r = rec a1 n1 ns1 b1 e w.content in
              record { scoped_in = r.scoped_in; kept = λ f o x. K.inside b _ _ _ _ f o m first (r.kept f o x) }
          by u (more_headers {at = a1} {n = n1} {ns = ns1} {st = s1} y z) e i rec =
              let w = one_wait sigs type_of (subst (λ (x : Stmt). InScopes sigs type_of g (stmts x no_stmts)) e i) in
              let r = rec a1 n1 ns1 (stmts s1 no_stmts) e w.content in
              record { scoped_in = r.scoped_in; kept = λ f o x. K.inside b _ _ _ _ f o m first (r.kept f o x) }

      -- WHAT A CALL HANDS OVER
      pub record CallKnown (g : Scope) (a : Action) (c : Call) : Type 0 where
        pub signature : Signature
        pub there : slice_get sigs c.function ≡ Some signature
        pub inputs : InputsCome g (before a) c.inputs signature.inputs
        pub outputs : (calls c ∈ before a × Hidden c.outputs signature.outputs) ⊎ ((p : ℤ) × (ps : List Part) × (a ≡ call_alone p ps c) × OutputsCome g c.outputs signature.outputs)

      pub call_known_of : {g : Scope} {a : Action} {c : Call} → StmtComes sigs g a → calls c ∈ own_parts a → CallKnown g a c
      call_known_of {a = a} w m = elim (call_comes sigs type_of a w m) [
        | inl h ↦ record { signature = (h.1).signature; there = (h.1).there; inputs = (h.1).inputs; outputs = inl (h.0, (h.1).outputs) }
        | inr h ↦ record { signature = (h.comes).signature; there = (h.comes).there; inputs = (h.comes).inputs; outputs = inr (h.priority, h.parts, h.is, (h.comes).outputs) }
      ]

      pub call_known : {t : ℕ} {g : Scope} {a : Action} {c : Call} (w : Within t g a) → calls c ∈ own_parts a → CallKnown w.known.scope a c
      call_known w m = call_known_of w.known.comes m

      pub handed : {k at i : ℕ} {p : ℤ} {all : List Part} {c : Call} (b : ℕ) (ca : CallAs C l k all at p c i) → In {X = Way × ℕ} (Calling, b) (ways (entry C i).act) → (kk : ℕ) (bb : Bool)
          → argument C (entry C i).offset kk bb ≡ argument_in (ca.ins ++ map Named ca.outs) kk bb
      handed {i = i} b ca h kk bb = ap (λ (u : ℕ). argument_in (arguments (entry C u).act) kk bb) (found i b h) ∙ ap (λ (u : code.Act). argument_in (arguments u) kk bb) (ca.is).act_is

      pub out_settled : {t : ℕ} {g : Scope} {a : Action} {c : Call} {outs : List code.Name} (w : Within t g a) → PartsMade C l L t a → (k : CallKnown w.known.scope a c) → OutputsAs C l (T.inputs_of t) c.outputs outs
          → (j : ℕ) (τ : Typ) (d : Bool) (r : code.Name) → slice_get k.signature.outputs j ≡ Some τ → is_array_shape τ.shape ≡ d → slice_get outs j ≡ Some r → is_array_name r ≡ d → Settled t g r
      out_settled {t} {g} {a} {c} w p k os j τ d r ty sh e fl = by (out_at C l j r os e) k.outputs
        where
          by : ((x : Name) × (f : Bool) × (slice_get c.outputs j ≡ Some x) × (r ≡ name_as (T.inputs_of t) f x))
              → ((calls c ∈ before a × Hidden c.outputs k.signature.outputs) ⊎ ((p : ℤ) × (ps : List Part) × (a ≡ call_alone p ps c) × OutputsCome w.known.scope c.outputs k.signature.outputs)) → Settled t g r
          by o (inl h) =
              let here_is : here (h.1).node ≡ o.0 = (get_one (here (h.1).node) o.0 j (subst (λ (xs : List Name). slice_get xs j ≡ Some o.0) (h.1).is o.2)).1 in
              let type_is : (h.1).type ≡ τ = (get_one (h.1).type τ j (subst (λ (xs : List Typ). slice_get xs j ≡ Some τ) (h.1).typed ty)).1 in
              let no_array : d ≡ false = sym sh ∙ (ap (λ (z : Typ). is_array_shape z.shape) (sym type_is) ∙ (h.1).scalar) in
              let flag : o.1 ≡ false = flag_is (T.inputs_of t) o.1 d o.0 r o.3 fl ∙ no_array in
              let same : r ≡ name_as (T.inputs_of t) false (here (h.1).node) = o.3 ∙ ap₂ (λ (f : Bool) (x : Name). name_as (T.inputs_of t) f x) flag (sym here_is) in
              inl (subst (λ (z : code.Name). Declared C t z) (sym same) (call_declared C l L p h.0 (h.1).is))
          by o (inr h) =
              let q = outs_at j τ h.3 ty in
              let same : q.0 ≡ o.0 = same_Some _ _ (sym q.1 ∙ o.2) in
              let flag : o.1 ≡ d = flag_is (T.inputs_of t) o.1 d o.0 r o.3 fl in
              let sees : SeesAs w.known.scope o.0 d = seen_at same (subst (λ (f : Bool). SeesAs w.known.scope q.0 f) sh q.2) in
              settle w sees (K.to_output (T.block_of t) w.at w.node h.0 h.1 c d o.0 (subst (λ (z : Action). stmt w.at w.node z ∈ block_list (T.block_of t)) h.2 w.there) (get_in c.outputs j o.0 o.2)) r
              (o.3 ∙ ap (λ (f : Bool). name_as (T.inputs_of t) f o.0) flag)

      named_same : {r r' : code.Name} → Named r ≡ Named r' → r ≡ r'
      named_same h = cc

      in_settled : {t : ℕ} {g : Scope} {a : Action} {x : Name} {y : Argument} (w : Within t g a) → PartsMade C l L t a → InputAs C l (T.inputs_of t) (own_parts a) x y → (τ : Typ) → InputComes w.known.scope (before a) x τ
          → (d : Bool) (r : code.Name) → y ≡ Named r → is_array_shape τ.shape ≡ d → is_array_name r ≡ d → ((e : Bool) (o : Owned) → Q e (T.block_of t) o) → Settled t g r
      in_settled w p (of_literal m e) τ ic d r q sh fl kept = absurd (cc (q))
      in_settled {t} {a = a} w p (of_name {n = n} {x = y} m e) τ ic d r q sh fl kept = come w p (w.known.comes.parts _ (inner_before sigs type_of a (cell_part (own_parts a) m))) (kept false y.what) r (sym (named_same q))
      in_settled {t} {a = a} w p (of_datum m e) τ ic d r q sh fl kept =
          inl (subst (λ (z : code.Name). Declared C t z) (named_same q) (cell_declared C l L p (inner_before sigs type_of a (cell_part (own_parts a) m)) e))
      in_settled {t} {g} {a} w p (of_array {x = x}) τ ic d r q sh fl kept = by ic
        where
          array : true ≡ d
          array = flag_is (T.inputs_of t) true d x r (sym (named_same q)) fl

          by : InputComes w.known.scope (before a) x τ → Settled t g r
          by (inl h) = settle w h.1 (kept true x.what) r (sym (named_same q))
          by (inr h) = absurd (let z : true ≡ false = array ∙ (sym sh ∙ h.0) in cc (z))

      -- what a called function knows as a parameter, outside
      signature_same : {x y : Signature} → Some x ≡ Some y → x ≡ y
      signature_same h = cc

      pub outside_call : {t i at : ℕ} {p : ℤ} {g : Scope} {a : Action} {c : Call} {f : Function} {x : Visible} (b : ℕ) (w : Within t g a) → PartsMade C l L t a → calls c ∈ own_parts a → CallAs C l (T.inputs_of t) (own_parts a) at p c i
          → In {X = Way × ℕ} (Calling, b) (ways (entry C i).act) → slice_get s.functions c.function ≡ Some f → (F : FunctionScoped sigs type_of sigs c.function f) → IsParameter F.signature x → (d : Bool) → is_array_shape x.type.shape ≡ d → Q d f.body x.refers_to.what
          → (kk : ℕ) (bb : Bool) (r : code.Name) → ◌≡◌ {A = code.Name} (record { up = 0; owned = Parameter kk bb }) (name_as f.inputs d x.refers_to) → argument C (entry C i).offset kk bb ≡ Some (Named r) → Settled t g r
      outside_call {t} {g = g} {a = a} {c = c} {f = f} {x = x} b w p m ca way fn F parameter d sh kept kk bb r z ar = by parameter
        where
          known : CallKnown w.known.scope a c
          known = call_known w m

          same : F.signature ≡ known.signature
          same = signature_same (sym F.there ∙ known.there)

          counted : length ca.ins ≡ f.inputs
          counted = sym (inputs_length C l ca.inputs) ∙ (comes_length known.inputs ∙ (ap (λ (u : Signature). length u.inputs) (sym same) ∙ F.inputs))

          got : (slice_get (ca.ins ++ map Named ca.outs) kk ≡ Some (Named r)) × (is_array_name r ≡ bb)
          got = arg_at (ca.ins ++ map Named ca.outs) kk bb (Named r) (sym (handed b ca way kk bb) ∙ ar)

          by : IsParameter F.signature x → Settled t g r
          by (is_output j e ty) =
              let u = parameter_is (z ∙ ap (λ (v : Name). name_as f.inputs d v) e) in
              let place : kk ≡ length ca.ins + j = u.0 ∙ ap (λ (n : ℕ). n + j) (sym counted) in
              let at_out : slice_get (map Named ca.outs) j ≡ Some (Named r) = sym (get_right ca.ins (map Named ca.outs) j) ∙ subst (λ (n : ℕ). slice_get (ca.ins ++ map Named ca.outs) n ≡ Some (Named r)) place got.0 in
              let o = get_unmap Named ca.outs j (Named r) at_out in
              let e' : slice_get ca.outs j ≡ Some r = o.1 ∙ ap Some (named_same o.2) in
              out_settled w p known ca.outputs j x.type d r (subst (λ (v : Signature). slice_get v.outputs j ≡ Some x.type) same ty) sh e' (got.1 ∙ u.1)
          by (is_input j e ty) =
              let u = parameter_is (z ∙ ap (λ (v : Name). name_as f.inputs d v) e) in
              let come = come_at j x.type known.inputs (subst (λ (v : Signature). slice_get v.inputs j ≡ Some x.type) same ty) in
              let arg = input_of C l j come.0 ca.inputs come.1 in
              let full : slice_get (ca.ins ++ map Named ca.outs) kk ≡ Some arg.0 = subst (λ (n : ℕ). slice_get (ca.ins ++ map Named ca.outs) n ≡ Some arg.0) (sym u.0) (get_left ca.ins (map Named ca.outs) j arg.0 arg.1) in
              let is : arg.0 ≡ Named r = same_Some _ _ (sym full ∙ got.0) in
              let inn = input_at C l j arg.0 ca.inputs arg.1 in
              let here_is : come.0 ≡ inn.0 = same_Some _ _ (sym come.1 ∙ inn.1) in
              in_settled w p inn.2 x.type (subst (λ (v : Name). InputComes w.known.scope (before a) v x.type) here_is come.2) d r is sh (got.1 ∙ u.1)
              (λ q o. K.from_input f c.function j d fn (subst (λ (n : ℕ). j < n) F.inputs (slice_get_within F.signature.inputs j x.type ty)) (subst (λ (v : Name). Q d f.body v.what) e kept) q (T.block_of t) o)

      -- WHAT IS LED TO
      module _ (own : Entry → List code.Name) (base : (t j : ℕ) (g : Scope) (r : code.Name) → In j (body C t).entries → InScopes sigs type_of g (T.block_of t) → In r (own (entry C j)) → Settled t g r) where
        -- what is settled in an inner body, given the scope that it stands in
        abbrev Inner : ℕ → code.Name → Type 0
        Inner b q = (g : Scope) → InScopes sigs type_of g (T.block_of b) → Settled b g q

        stand : {k b : ℕ} {c : Block} {vs : List Variable} {o : code.Opener} {g : Scope} → Stands C l T k c vs o b → InScopes sigs type_of g c → InScopes sigs type_of g (T.block_of b)
        stand {g = g} st i = subst (λ (z : Block). InScopes sigs type_of g z) (sym st.block) i

        role_made : {k b : ℕ} {c : Block} {vs : List Variable} {o : code.Opener} (v : Variable) → Stands C l T k c vs o b → In v vs → In v (body C b).makes
        role_made {b = b} v st h =
            let y = L.bodies b st.within in
            subst (λ (z : List Variable). In v z) (sym y.makes) (Rattle.dataflow.proofs.Lists.in_left v (T.variables_of b) y.own (subst (λ (z : List Variable). In v z) (sym st.variables) h))

        by_header : {t b : ℕ} {g : Scope} {a : Action} {c : Block} {vs : List Variable} {o : code.Opener} (q r : code.Name) (w : Within t g a) → ((x : ℕ) → x ∈ roles_of a → In (scalar x) vs) → c ∈ header_blocks a
            → Stands C l T (T.inputs_of t) c vs o b → (Declared C b q → ⊥) → q ≡ record { up = suc r.up; owned = r.owned } → Inner b q → Settled t g r
        by_header {t} {b} {g} {a} {c} {vs} q r w roles m st nd seen rec = by (rec h.scope (stand st h.inner))
          where
            h : HeaderScope sigs type_of w.known.scope a c
            h = w.known.headers c m

            by : Settled b h.scope q → Settled t g r
            by (inl d) = absurd (nd d)
            by (inr z) = elim (h.sees z.sees.variable z.sees.visible) [
              | inl i ↦ (let u = deeper_of w.known.scope z.sees.variable i in
                  let name_is : z.name ≡ further u.variable.refers_to = z.sees.is ∙ u.is in
                  let is : q ≡ name_as (T.inputs_of t) z.flag (further u.variable.refers_to) = z.is ∙ ap₂ (λ (k : ℕ) (x : Name). name_as k z.flag x) st.inputs name_is in
                  let sees : SeesAs w.known.scope u.variable.refers_to z.flag = record { variable = u.variable; visible = u.there; is = refl; shape = ap (λ (τ : Typ). is_array_shape τ.shape) (sym u.type) ∙ z.sees.shape } in
                  let kept : Q z.flag c z.name.what = subst (λ (x : Block). Q z.flag x z.name.what) st.block z.kept in
                  settle w sees (K.inside (T.block_of t) c w.at w.node a z.flag u.variable.refers_to.what w.there (header_inner a m) (subst (λ (x : Name). Q z.flag c x.what) name_is kept)) r (step_out (T.inputs_of t) z.flag u.variable.refers_to r (sym seen ∙ is)))
              | inr v ↦ (let flag : z.flag ≡ false = sym z.sees.shape ∙ v.shape in
                  let is : q ≡ code.here (scalar v.node) = z.is ∙ ap₂ (λ (f : Bool) (x : Name). name_as (T.inputs_of b) f x) flag (z.sees.is ∙ v.is) in
                  absurd (nd (record { variable = scalar v.node; is = is; made = role_made (scalar v.node) st (roles v.node v.role) })))
            ]

        by_wait : {t b : ℕ} {g : Scope} {ns : List Awaited} {d c : Block} {hs : List Header} {vs : List Variable} {o : code.Opener} (q r : code.Name) (w : Within t g (wait ns d)) → Headers (T.inputs_of t) (stmt w.at w.node (wait ns d)) hs c
            → Stands C l T (T.inputs_of t) c vs o b → (Declared C b q → ⊥) → q ≡ r → Inner b q → Settled t g r
        by_wait {t} {b} {g} {ns} {d} {c} q r w hd st nd seen rec = by (rec w.known.scope (stand st k.scoped_in))
          where
            k : Content w.known.scope (T.block_of t) c
            k = content w.at w.node ns d (T.block_of t) w.known.scope hd refl w.there (w.known.content ns d refl)

            by : Settled b w.known.scope q → Settled t g r
            by (inl e) = absurd (nd e)
            by (inr z) = settle w z.sees (k.kept z.flag z.name.what (subst (λ (x : Block). Q z.flag x z.name.what) st.block z.kept)) r (sym seen ∙ (z.is ∙ ap (λ (n : ℕ). name_as n z.flag z.name) st.inputs))

        by_call : {t i b at : ℕ} {p : ℤ} {g : Scope} {a : Action} {c : Call} {f : Function} {vs : List Variable} {o : code.Opener} (q r : code.Name) (w : Within t g a) → PartsMade C l L t a → calls c ∈ own_parts a → CallAs C l (T.inputs_of t) (own_parts a) at p c i
            → In {X = Way × ℕ} (Calling, b) (ways (entry C i).act) → slice_get s.functions c.function ≡ Some f → Stands C l T f.inputs f.body vs o b → (Declared C b q → ⊥)
            → (kk : ℕ) (bb : Bool) → q ≡ record { up = 0; owned = Parameter kk bb } → argument C (entry C i).offset kk bb ≡ Some (Named r) → Inner b q → Settled t g r
        by_call {t} {i} {b} {g = g} {a = a} {c = c} {f = f} q r w p m ca way fn st nd kk bb seen ar rec = by (rec F.scope (stand st F.body))
          where
            F : FunctionScoped sigs type_of sigs c.function f
            F = S.functions c.function f fn

            by : Settled b F.scope q → Settled t g r
            by (inl e) = absurd (nd e)
            by (inr z) =
                let kept : Q z.flag f.body z.sees.variable.refers_to.what = subst (λ (x : Name). Q z.flag f.body x.what) z.sees.is (subst (λ (x : Block). Q z.flag x z.name.what) st.block z.kept) in
                outside_call b w p m ca way fn F (F.parameters z.sees.variable z.sees.visible) z.flag z.sees.shape kept kk bb r (sym seen ∙ (z.is ∙ ap₂ (λ (n : ℕ) (x : Name). name_as n z.flag x) st.inputs z.sees.is)) ar

        abbrev pub within_of : {t at n : ℕ} {g : Scope} {a : Action} → t < length C.bodies → InScopes sigs type_of g (T.block_of t) → stmt at n a ∈ block_list (T.block_of t) → Within t g a
        within_of h i m = record { at = _; node = _; there = m; known = lookup sigs type_of i m; in_code = h }

        by_way : {t i b : ℕ} {g : Scope} {u : Stmt} (v : Way) (q r : code.Name) → In i (body C t).entries → InScopes sigs type_of g (T.block_of t) → In {X = Way × ℕ} (v, b) (ways (entry C i).act) → OpensAs s C l T t i u v b → (Declared C b q → ⊥)
            → Seen C (entry C i).offset v q r → Inner b q → Settled t g r
        by_way {t} {i} v q r h sc way (opens_header vs roles m c mk st) nd seen rec = by_header q r (within_of (body_within C t i h) sc m) roles c st nd seen rec
        by_way {t} {i} v q r h sc way (opens_wait m hd st) nd seen rec = by_wait q r (within_of (body_within C t i h) sc m) hd st nd seen rec
        by_way {t} {i} {b} {g} v q r h sc way (opens_call {st = u} {c = c} {f = f} at p m k ca fn st e) nd seen rec = of_stmt u m k ca
          where
            of_stmt : (u : Stmt) → u ∈ block_list (T.block_of t) → calls c ∈ own_of u → CallAs C l (T.inputs_of t) (own_of u) at p c i → Settled t g r
            of_stmt (stmt at' n a) m k ca = by_call q r (within_of (body_within C t i h) sc m) (made_of m) k ca way fn st nd seen.0 seen.1 seen.2 seen.3 rec
              where
                made_of : stmt at' n a ∈ block_list (T.block_of t) → PartsMade C l L t a
                made_of m = Rattle.code_laws.proofs.MadeWhole.stmt_made C l L t at' n a (body_within C t i h) m

        pub led : (t j : ℕ) (g : Scope) (r : code.Name) → In j (body C t).entries → InScopes sigs type_of g (T.block_of t) → Leads C own j r → Settled t g r
        led t j g r h sc (itself i x u) = base t j g r h sc u
        led t j g r h sc (through i j' b w x q way m' ld nd seen) = by_way w q r h sc way (opens_as C l L scoped t j b w h way).1 nd seen (λ g' sc'. led b j' g' q m' sc' ld)
