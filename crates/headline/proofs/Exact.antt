-- What an entry leads to write is a target of its statement: so a statement without the target has no right, where rights are exact.
use Rattle.std.proofs.Common.{◌≡◌, ◌⊎◌, inl, inr, ℕ, zero, suc, ◌<◌, ◌+◌, Bool, true, false, List, [], ◌∷◌, ◌++◌, map, length, refl, sym, ap, ◌∙◌, subst, Some, arith}
use Rattle.std.specs.Prelude.{pos, ℤ, slice_get}
use Rattle.dataflow.specs.System.{In}
use Rattle.language.specs.Core as Co
use Rattle.language.specs.Core.{Owned, local, input, output, Name, here, Expr, Cell, Call, Part, Outer, Awaited, Stmt, stmt, Action, declare, call_alone, assign, fill, insert, print, assert, when, choose, range, each, wait, Block, stmts, no_stmts, Function, Core}
use Rattle.language.specs.Members.{◌∈◌, first, later}
use Rattle.language.specs.Parts.{stmt_calls, block_list, script_blocks}
use Rattle.language.specs.WellFormed.{IsOwnTarget, header_blocks, Declares, Uses, IsAlone, WellFormed}
use Rattle.language.proofs.Blocks.{header_inner, inner_block, function_block, among_script}
use Rattle.task_code.specs.Code as code
use Rattle.task_code.specs.Code.{Variable, Local, Parameter, Argument, Named, Fixed, Header, Act, Way, InPlace, Through, Calling, Entry, Code, entry, body, targets, ways, argument, arguments, argument_in, is_array_name, scalar, targets_of}
use Rattle.task_code.specs.Exact.{IsExact, Leads, itself, through}
use Rattle.task_code.specs.Whole.{Declared, Seen, IsCode}
use Rattle.task_code.proofs.Places.{argument_kind}
use Rattle.code_rules.specs.CodeNames.{owned_as, name_as}
use Rattle.language_laws.specs.Scoped.{IsIn, InScope, of_function, inside, in_wait, Scoped}
use Rattle.code_rules.specs.IsCodeOf.{Layout, own_needs, own_expr, fill_act, simple_act, IsSimple, OutputsAs, no_output, one_output, CallAs, PartAs, plain_literal, plain_name, a_cell, a_read, a_call, WaitAs, one_wait, merged, BodyAs, body_as, IsCodeOf}
use Rattle.headline.proofs.LiveTo.{call_of}
use Rattle.headline.proofs.Means.{output_at, past_inputs, parameter_parts, local_parts}
use Rattle.headline.proofs.Rights.{only_one}
use Rattle.headline.proofs.Roles.{PartOf, OwnAs, own_simple, own_branch, own_branches, own_range, own_each, own_wait, find_role, parts_of}
use Rattle.headline.proofs.Targets.{UsesIn, own_target, in_header, in_content, uses_block}

pub kind_of : (k : ℕ) (b : Bool) (x : Name) → is_array_name (name_as k b x) ≡ b
kind_of k b x = by x.what
  where
    by : (what : Owned) → is_array_name (record { up = x.up; owned = owned_as k b what }) ≡ b
    by (local n) = refl
    by (input i) = refl
    by (output j) = refl

owned_same : (k : ℕ) (b d : Bool) (what y : Owned) → owned_as k b what ≡ owned_as k d y → ((i : ℕ) → what ≡ input i → i < k) → ((i : ℕ) → y ≡ input i → i < k) → what ≡ y
owned_same k b d (local n) (local m) e f g = (let q = local_parts e in ap (λ (z : Variable). local z.node) q)
owned_same k b d (local n) (input m) e f g = absurd (cc (e))
owned_same k b d (local n) (output m) e f g = absurd (cc (e))
owned_same k b d (input n) (local m) e f g = absurd (cc (e))
owned_same k b d (input n) (input m) e f g = ap input (parameter_parts e).0
owned_same k b d (input n) (output m) e f g = (let q = (parameter_parts e).0 in let z = f n refl in absurd (omega arith))
owned_same k b d (output n) (local m) e f g = absurd (cc (e))
owned_same k b d (output n) (input m) e f g = (let q = (parameter_parts e).0 in let z = g m refl in absurd (omega arith))
owned_same k b d (output n) (output m) e f g = (let q = (parameter_parts e).0 in let z : n ≡ m = omega arith in ap output z)

-- two names with one name in code are one
pub same_name : (k : ℕ) (b d : Bool) (x y : Name) → name_as k b x ≡ name_as k d y → IsIn k x → IsIn k y → x ≡ y
same_name k b d x y e f g =
    let u : x.up ≡ y.up = ap (λ (z : code.Name). z.up) e in
    let o = owned_same k b d x.what y.what (ap (λ (z : code.Name). z.owned) e) f g in
    λ i. record { up = u i; what = o i }

one_way : {A : Type 0} {x y : A} → In x (y ∷ []) → x ≡ y
one_way (inl e) = e
one_way (inr z) = absurd z

module _ (C : Code) (l : Layout) where
  output_name_of : {k : ℕ} {xs : List Name} {outs : List code.Name} (r : code.Name) → OutputsAs C l k xs outs → In r outs → (d : Bool) × (y : Name) × (y ∈ xs) × (r ≡ name_as k d y)
  output_name_of r no_output h = absurd h
  output_name_of r (one_output d {x = y} os) (inl e) = (d, y, first, e)
  output_name_of r (one_output d os) (inr h) = (let z = output_name_of r os h in (z.0, z.1, later z.2, z.3))

  pub simple_no_ways : (k : ℕ) (a : Action) → IsSimple a → (y : Way × ℕ) → In y (ways (simple_act l k (own_needs l k a) a)) → ⊥
  simple_no_ways k (assign x o) z y' h = h
  simple_no_ways k (fill x o) z y h = by (own_expr o) h
    where
      by : (e : Expr) → In y (ways (fill_act l k (own_needs l k (fill x o)) x e)) → ⊥
      by (Co.whole a) h = h
      by (Co.literal a) h = h
      by (Co.name a) h = h
      by (Co.operator a es) h = h
  simple_no_ways k (insert x i o) z y' h = h
  simple_no_ways k (print x o) z y' h = h
  simple_no_ways k (assert x o) z y' h = h
  simple_no_ways k (declare v) z y' h = absurd z
  simple_no_ways k (call_alone x y o) z y' h = absurd z
  simple_no_ways k (when o d) z y' h = absurd z
  simple_no_ways k (choose o d e) z y' h = absurd z
  simple_no_ways k (range o d e f g i) z y' h = absurd z
  simple_no_ways k (each o d e f) z y' h = absurd z
  simple_no_ways k (wait o d) z y' h = absurd z

module _ (s : Core) (C : Code) (w : IsCodeOf s C) (wf : WellFormed s) (I : IsCode C) (sc : Scoped s) (ex : IsExact C) where
  -- a local array is declared somewhere
  pub record IsArr (x : Name) : Type 0 where
    pub of_layout : (n : ℕ) → x.what ≡ local n → w.layout.array n ≡ true
    pub declared : (n : ℕ) → x.what ≡ local n → (b : Block) × (b ∈ script_blocks s) × Declares b (local n)

  -- an output of a call alone
  pub record AloneOut (st : Stmt) (x : Name) (part : Part) : Type 0 where
    pub call : Call
    pub is_part : part ≡ Co.calls call
    pub alone : IsAlone st call
    pub out : x ∈ call.outputs

  abbrev pub InPart : ℕ → Stmt → ℕ → Type 0
  InPart k st j = PartOf C w.layout k st j ⊎ OwnAs C w.layout k st j

  -- what is to be shown of what an entry leads to
  abbrev pub Led : ℕ → code.Name → Type 0
  Led j r = (k : ℕ) (b : Block) (st : Stmt) → st ∈ block_list b → InScope s k b → b ∈ script_blocks s → InPart k st j → (x : Name) → name_as k true x ≡ r → IsIn k x → IsArr x → UsesIn st x.up x.what

  in_body : {j : ℕ} {r : code.Name} → Led j r → (k : ℕ) (c : Block) (u : ℕ) → BodyAs C w.layout k c u → In j (body C u).entries → InScope s k c → c ∈ script_blocks s → (x : Name) → name_as k true x ≡ r → IsIn k x → IsArr x → Uses c x.up x.what
  in_body {j} led k c u (body_as bl mk) h g bs x e i a = (let r = find_role C w.layout bl h in uses_block (led k c r.st r.there g bs r.role x e i a) r.there)

  -- CALLS
  module _ (k : ℕ) (b : Block) (st : Stmt) (m : st ∈ block_list b) (g : InScope s k b) (bs : b ∈ script_blocks s) (x : Name) (i : IsIn k x) (a : IsArr x) {c : Call} {all : List Part} {at : ℕ} {pr : ℤ} {j : ℕ} (cm : c ∈ stmt_calls st) (ca : CallAs C w.layout k all at pr c j) where
    alone_out : (d : Bool) (y : Name) → y ∈ c.outputs → name_as k true x ≡ name_as k d y → AloneOut st x (Co.calls c)
    alone_out d y yo e =
        let same = same_name k true d x y e i ((sc.statements k b st g m).in_outputs c y cm yo) in
        elim (wf.names.call_kinds b st c bs m cm) [
          | inl al ↦ record { call = c; is_part = refl; alone = al; out = subst (λ (z : Name). z ∈ c.outputs) (sym same) yo }
          | inr hd ↦ (let yh : y ≡ here hd.node = only_one (subst (λ (l : List Name). y ∈ l) hd.is yo) in
              let wh : x.what ≡ local hd.node = ap (λ (z : Name). z.what) (same ∙ yh) in
              let db = a.declared hd.node wh in
              absurd (hd.undeclared db.0 db.1 db.2))
        ]

    found : (f : Function) × (slice_get s.functions c.function ≡ Some f) × (length c.inputs ≡ f.inputs)
    found = sc.calls st c (among_script s bs m) cm

    call_itself : (r : code.Name) → name_as k true x ≡ r → In r (targets (entry C j)) → AloneOut st x (Co.calls c)
    call_itself r e h =
        let o = output_name_of C w.layout r ca.outputs (subst (λ (z : Act). In r (targets_of (entry C j).node z)) ca.is.act_is h) in
        alone_out o.0 o.1 o.2 (e ∙ o.3)

    calls_it : In (Calling, w.layout.body_of c.function) (ways (entry C j).act)
    calls_it = subst (λ (y : Act). In (Calling, w.layout.body_of c.function) (ways y)) (sym ca.is.act_is) (inl refl)

    argument_is : (n : ℕ) (d : Bool) → argument C (entry C j).offset n d ≡ argument_in (ca.ins ++ map Named ca.outs) n d
    argument_is n d =
        ap (λ (z : ℕ). argument_in (arguments (entry C z).act) n d) (I.fits j Calling (w.layout.body_of c.function) calls_it).opened.1
        ∙ ap (λ (y : Act). argument_in (arguments y) n d) ca.is.act_is

    call_through : (j' u : ℕ) (r q : code.Name) → u ≡ w.layout.body_of c.function → In j' (body C u).entries → Led j' q → Seen C (entry C j).offset Calling q r → name_as k true x ≡ r → AloneOut st x (Co.calls c)
    call_through j' u r q uq h led sn e = by (below sn.0 (length c.inputs))
      where
        arg : argument_in (ca.ins ++ map Named ca.outs) sn.0 sn.1 ≡ Some (Named r)
        arg = sym (argument_is sn.0 sn.1) ∙ sn.3

        kind : sn.1 ≡ true
        kind = sym (argument_kind (ca.ins ++ map Named ca.outs) sn.0 sn.1 r arg) ∙ sym (ap is_array_name e) ∙ kind_of k true x

        below : (n m : ℕ) → (n < m) ⊎ ((z : ℕ) × (n ≡ m + z))
        below n zero = inr (n, omega arith)
        below zero (suc m) = inl (omega arith)
        below (suc n) (suc m) = elim (below n m) [ inl z ↦ inl (omega arith) | inr z ↦ inr (z.0, (let y = z.1 in omega arith)) ]

        by : (sn.0 < length c.inputs) ⊎ ((z : ℕ) × (sn.0 ≡ length c.inputs + z)) → AloneOut st x (Co.calls c)
        by (inl lt) =
            let f = found.0 in
            let qe : name_as f.inputs true (record { up = 0; what = input sn.0 }) ≡ q = (λ z. record { up = 0; owned = Parameter sn.0 (sym kind z) }) ∙ sym sn.2 in
            let us = in_body led f.inputs f.body u (subst (λ (z : ℕ). BodyAs C w.layout f.inputs f.body z) (sym uq) (w.functions c.function f found.1)) h (of_function c.function found.1) (function_block s c.function f found.1)
            (record { up = 0; what = input sn.0 }) qe (λ n y. (let ln = found.2 in let nn : sn.0 ≡ n = input_same y in omega arith)) (record { of_layout = λ n y. absurd (cc (y)); declared = λ n y. absurd (cc (y)) }) in
            elim (wf.names.function_names c.function f 0 (input sn.0) found.1 us).1 [
              | inl d ↦ (let z : input sn.0 ≡ local d.node = d.is in absurd (cc (z)))
              | inr o ↦ absurd (cc (o.1))
            ]
          where
            input_same : {n m : ℕ} → input n ≡ input m → n ≡ m
            input_same y = cc
        by (inr z) =
            let o = output_at C w.layout z.0 sn.1 (Named r) ca.outputs (sym (past_inputs C w.layout (map Named ca.outs) z.0 sn.0 sn.1 ca.inputs z.1) ∙ arg) in
            alone_out o.0 _ o.2 (e ∙ sym (named_eq o.1))
          where
            named_eq : {p q : code.Name} → Named p ≡ Named q → p ≡ q
            named_eq y = cc

  -- PARTS
  pub no_way : (j : ℕ) {act : Act} (y : Way × ℕ) → (entry C j).act ≡ act → ways act ≡ [] → In y (ways (entry C j).act) → ⊥
  no_way j y e z h = subst (λ (l : List (Way × ℕ)). In y l) (ap ways e ∙ z) h

  pub scalar_target : (k j : ℕ) (x : Name) (r : code.Name) (act : Act) → (entry C j).act ≡ act → targets (record { node = (entry C j).node; at = 0; offset = 0; priority = pos 0; needs = []; act = act; reads = []; writes = [] }) ≡ code.here (scalar (entry C j).node) ∷ [] → name_as k true x ≡ r → In r (targets (entry C j)) → ⊥
  scalar_target k j x r act e z q h =
      let h' : In r (targets_of (entry C j).node act) = subst (λ (y : Act). In r (targets_of (entry C j).node y)) e h in
      let o : r ≡ code.here (scalar (entry C j).node) = one_way (subst (λ (l : List code.Name). In r l) z h') in
      absurd (cc (sym (kind_of k true x) ∙ ap is_array_name (q ∙ o)))

  part_itself : (k : ℕ) (b : Block) (st : Stmt) → st ∈ block_list b → InScope s k b → b ∈ script_blocks s → (j : ℕ) (po : PartOf C w.layout k st j) → (x : Name) (r : code.Name) → name_as k true x ≡ r → IsIn k x → IsArr x → In r (targets (entry C j)) → AloneOut st x po.part
  part_itself k b st m g bs j po x r e i a h = by po.as_part po.there po.in_stmt
    where
      by : {y : Part} {js : List ℕ} → PartAs C w.layout k po.all po.at po.priority y js → In j js → y ∈ parts_of st → AloneOut st x y
      by (plain_literal z) n v = absurd n
      by (plain_name z) n v = absurd n
      by (a_cell {j = j'} z nd en) n v = absurd (scalar_target k j x r _ (ap (λ (z : ℕ). (entry C z).act) (one_way n) ∙ en.act_is) refl e h)
      by (a_read {j = j'} z nd ix en) n v = absurd (scalar_target k j x r _ (ap (λ (z : ℕ). (entry C z).act) (one_way n) ∙ en.act_is) refl e h)
      by (a_call {c = c} {j = j'} ca) n v = call_itself k b st m g bs x i a (call_of st c v) (subst (λ (z : ℕ). CallAs C w.layout k po.all po.at po.priority c z) (sym (one_way n)) ca) r e h

  part_through : (k : ℕ) (b : Block) (st : Stmt) → st ∈ block_list b → InScope s k b → b ∈ script_blocks s → (j : ℕ) (po : PartOf C w.layout k st j) → (x : Name) (r : code.Name) → name_as k true x ≡ r → IsIn k x → IsArr x
      → (wy : Way) (u j' : ℕ) (q : code.Name) → In (wy, u) (ways (entry C j).act) → In j' (body C u).entries → Led j' q → Seen C (entry C j).offset wy q r → AloneOut st x po.part
  part_through k b st m g bs j po x r e i a wy u j' q wi ij led sn = by po.as_part po.there po.in_stmt
    where
      by : {y : Part} {js : List ℕ} → PartAs C w.layout k po.all po.at po.priority y js → In j js → y ∈ parts_of st → AloneOut st x y
      by (plain_literal z) n v = absurd n
      by (plain_name z) n v = absurd n
      by (a_cell {j = j''} z nd en) n v = absurd (no_way j (wy, u) (ap (λ (z : ℕ). (entry C z).act) (one_way n) ∙ en.act_is) refl wi)
      by (a_read {j = j''} z nd ix en) n v = absurd (no_way j (wy, u) (ap (λ (z : ℕ). (entry C z).act) (one_way n) ∙ en.act_is) refl wi)
      by (a_call {c = c} {j = j''} ca) n v =
          let ca' = subst (λ (z : ℕ). CallAs C w.layout k po.all po.at po.priority c z) (sym (one_way n)) ca in
          let e' : ◌≡◌ {A = Way × ℕ} (wy, u) (Calling, w.layout.body_of c.function) = one_way (subst (λ (z : Act). In (wy, u) (ways z)) ca'.is.act_is wi) in
          call_through k b st m g bs x i a (call_of st c v) ca' j' u r q (ap (λ (z : Way × ℕ). z.1) e') ij led (subst (λ (z : Way). Seen C (entry C j).offset z q r) (ap (λ (z : Way × ℕ). z.0) e') sn) e

  alone_uses : {st : Stmt} {x : Name} {part : Part} → AloneOut st x part → UsesIn st x.up x.what
  alone_uses {st} {x} o = subst (λ (z : Stmt). UsesIn z x.up x.what) (sym (o.alone).is) (own_target (inl o.out))

  -- A STATEMENT'S OWN ENTRY
  own_itself : (k : ℕ) (b : Block) (st : Stmt) → st ∈ block_list b → InScope s k b → (j : ℕ) → OwnAs C w.layout k st j → (x : Name) (r : code.Name) → name_as k true x ≡ r → IsIn k x → In r (targets (entry C j)) → UsesIn st x.up x.what
  own_itself k b st m g j (own_simple {at = at} {n = n} {a = a} z en nd) x r e i h =
      by a z m (subst (λ (y : Act). In r (targets_of (entry C j).node y)) en.act_is h)
    where
      target : {a : Action} (d : Bool) (y : Name) → stmt at n a ∈ block_list b → IsOwnTarget y a → IsIn k y → r ≡ name_as k d y → UsesIn (stmt at n a) x.up x.what
      target {a} d y m t iy q = (let z = same_name k true d x y (e ∙ q) i iy in subst (λ (u : Name). UsesIn (stmt at n a) u.up u.what) (sym z) (own_target t))

      by : (a : Action) → IsSimple a → stmt at n a ∈ block_list b → In r (targets_of (entry C j).node (simple_act w.layout k (own_needs w.layout k a) a)) → UsesIn (stmt at n a) x.up x.what
      by (assign y o) z m h = target false y m (inl first) ((sc.statements k b (stmt at n (assign y o)) g m).in_targets y first) (one_way h)
      by (fill y o) z m h = by_fill (own_expr o) h
        where
          by_fill : (E : Expr) → In r (targets_of (entry C j).node (fill_act w.layout k (own_needs w.layout k (fill y o)) y E)) → UsesIn (stmt at n (fill y o)) x.up x.what
          by_fill (Co.whole z) h = target true y m (inl first) ((sc.statements k b (stmt at n (fill y o)) g m).in_targets y first) (one_way h)
          by_fill (Co.literal z) h = target true y m (inl first) ((sc.statements k b (stmt at n (fill y o)) g m).in_targets y first) (one_way h)
          by_fill (Co.name z) h = target true y m (inl first) ((sc.statements k b (stmt at n (fill y o)) g m).in_targets y first) (one_way h)
          by_fill (Co.operator z es) h = target true y m (inl first) ((sc.statements k b (stmt at n (fill y o)) g m).in_targets y first) (one_way h)
      by (insert y f o) z m h = target true y m (inr first) ((sc.statements k b (stmt at n (insert y f o)) g m).in_elements y first) (one_way h)
      by (print y o) z m h = absurd h
      by (assert y o) z m h = absurd h
      by (declare v) z m h = absurd z
      by (call_alone y f o) z m h = absurd z
      by (when o d) z m h = absurd z
      by (choose o d f) z m h = absurd z
      by (range o d f f' f'' i') z m h = absurd z
      by (each o d f f') z m h = absurd z
      by (wait o d) z m h = absurd z
  own_itself k b st m g j (own_branch en mk ba) x r e i h = absurd (subst (λ (y : Act). In r (targets_of (entry C j).node y)) en.act_is h)
  own_itself k b st m g j (own_branches en mk ba bb) x r e i h = absurd (subst (λ (y : Act). In r (targets_of (entry C j).node y)) en.act_is h)
  own_itself k b st m g j (own_range en mk ba) x r e i h = absurd (subst (λ (y : Act). In r (targets_of (entry C j).node y)) en.act_is h)
  own_itself k b st m g j (own_each en mk ba) x r e i h = absurd (subst (λ (y : Act). In r (targets_of (entry C j).node y)) en.act_is h)
  own_itself k b st m g j (own_wait wa en) x r e i h = absurd (subst (λ (y : Act). In r (targets_of (entry C j).node y)) en.act_is h)

  -- waits: the content, innermost of those merged
  wait_uses : (k u : ℕ) (x : Name) {st : Stmt} {hs : List Header} {b : Block} → WaitAs C w.layout k st hs u → st ∈ block_list b → InScope s k b → b ∈ script_blocks s
      → ((c : Block) → BodyAs C w.layout k c u → InScope s k c → c ∈ script_blocks s → Uses c x.up x.what × (Declares c x.what → ⊥)) → UsesIn st x.up x.what
  wait_uses k u x (one_wait {b = c} ba q) m g bs h = (let r = h c ba (in_wait g m) (inner_block s bs m first) in in_content r.0 r.1)
  wait_uses k u x (merged {st = st'} wa q) m g bs h = in_content (uses_block (wait_uses k u x wa first (in_wait g m) (inner_block s bs m first) h) first) (no_declare wa)
    where
      no_declare : {st : Stmt} {gs : List Header} → WaitAs C w.layout k st gs u → Declares (stmts st no_stmts) x.what → ⊥
      no_declare (one_wait ba q) d = (let e = only_one d.there in absurd (cc (e)))
      no_declare (merged wa q) d = (let e = only_one d.there in absurd (cc (e)))

  own_through : (k : ℕ) (b : Block) (st : Stmt) → st ∈ block_list b → InScope s k b → b ∈ script_blocks s → (j : ℕ) → OwnAs C w.layout k st j → (x : Name) (r : code.Name) → name_as k true x ≡ r → IsIn k x → IsArr x
      → (wy : Way) (u j' : ℕ) (q : code.Name) → In (wy, u) (ways (entry C j).act) → In j' (body C u).entries → Led j' q → (Declared C u q → ⊥) → Seen C (entry C j).offset wy q r → UsesIn st x.up x.what
  own_through k b st m g bs j ow x r e i a wy u j' q wi ij led nd sn = by ow m
    where
      header : {at n t : ℕ} {act : Action} {c : Block} → stmt at n act ∈ block_list b → ◌≡◌ {A = Way × ℕ} (wy, u) (Through, t) → BodyAs C w.layout k c t → c ∈ header_blocks act → UsesIn (stmt at n act) x.up x.what
      header {t = t} {c = c} m e' ba cm =
          let sn' : q ≡ record { up = suc r.up; owned = r.owned } = subst (λ (z : Way). Seen C (entry C j).offset z q r) (ap (λ (z : Way × ℕ). z.0) e') sn in
          let qe : name_as k true (record { up = suc x.up; what = x.what }) ≡ q = (λ z. record { up = suc (e z).up; owned = (e z).owned }) ∙ sym sn' in
          in_header cm (in_body led k c u (subst (λ (z : ℕ). BodyAs C w.layout k c z) (sym (ap (λ (z : Way × ℕ). z.1) e')) ba) ij (inside g m cm) (inner_block s bs m (header_inner _ cm)) (record { up = suc x.up; what = x.what }) qe i
          (record { of_layout = a.of_layout; declared = a.declared }))

      one_of : {t : ℕ} {v : Way} {act : Act} → (entry C j).act ≡ act → ways act ≡ (v, t) ∷ [] → ◌≡◌ {A = Way × ℕ} (wy, u) (v, t)
      one_of e' z = one_way (subst (λ (l : List (Way × ℕ)). In (wy, u) l) (ap ways e' ∙ z) wi)

      by : {st : Stmt} → OwnAs C w.layout k st j → st ∈ block_list b → UsesIn st x.up x.what
      by (own_simple {a = act} z en nd') m = absurd (simple_no_ways C w.layout k act z (wy, u) (subst (λ (y : Act). In (wy, u) (ways y)) en.act_is wi))
      by (own_branch en mk ba) m = header m (one_of en.act_is refl) ba first
      by (own_branches en mk ba bb) m = elim (subst (λ (y : Act). In (wy, u) (ways y)) en.act_is wi) [ inl z ↦ header m z ba first | inr z ↦ header m (one_way z) bb (later first) ]
      by (own_range en mk ba) m = header m (one_of en.act_is refl) ba first
      by (own_each en mk ba) m = header m (one_of en.act_is refl) ba first
      by (own_wait {t = t} wa en) m = wait_uses k t x wa m g bs content
        where
          e' : ◌≡◌ {A = Way × ℕ} (wy, u) (InPlace, t)
          e' = one_of en.act_is refl

          qe : name_as k true x ≡ q
          qe = e ∙ sym (subst (λ (z : Way). Seen C (entry C j).offset z q r) (ap (λ (z : Way × ℕ). z.0) e') sn)

          content : (c : Block) → BodyAs C w.layout k c t → InScope s k c → c ∈ script_blocks s → Uses c x.up x.what × (Declares c x.what → ⊥)
          content c ba g' cs = (us, undeclared)
            where
              ba' : BodyAs C w.layout k c u
              ba' = subst (λ (z : ℕ). BodyAs C w.layout k c z) (sym (ap (λ (z : Way × ℕ). z.1) e')) ba

              us : Uses c x.up x.what
              us = in_body led k c u ba' ij g' cs x qe i a

              made : BodyAs C w.layout k c u → (d : Declares c x.what) → In (record { node = d.node; array = w.layout.array d.node }) (body C u).makes
              made (body_as bl mk) d = mk.declared d.at d.stmt_node d.node d.there

              undeclared : Declares c x.what → ⊥
              undeclared d =
                  let up_is : x.up ≡ 0 = wf.names.wait_names c x.up x.what cs us d in
                  let arr = a.of_layout d.node d.is in
                  nd (record {
                    variable = record { node = d.node; array = true };
                    is = sym qe ∙ (λ z. record { up = up_is z; owned = owned_as k true (d.is z) });
                    made = subst (λ (z : Bool). In (record { node = d.node; array = z }) (body C u).makes) arr (made ba' d);
                  })

  -- WHAT AN ENTRY LEADS TO WRITE, ITS STATEMENT USES
  pub leads_in : {j : ℕ} {r : code.Name} → Leads C targets j r → Led j r
  leads_in (itself j r h) k b st m g bs (inl po) x e i a = alone_uses (part_itself k b st m g bs j po x r e i a h)
  leads_in (itself j r h) k b st m g bs (inr ow) x e i a = own_itself k b st m g j ow x r e i h
  leads_in (through j j' u wy r q wi ij lead nd sn) k b st m g bs (inl po) x e i a = alone_uses (part_through k b st m g bs j po x r e i a wy u j' q wi ij (leads_in lead) sn)
  leads_in (through j j' u wy r q wi ij lead nd sn) k b st m g bs (inr ow) x e i a = own_through k b st m g bs j ow x r e i a wy u j' q wi ij (leads_in lead) nd sn

  -- an entry of a part has no use of an array but as an output of a call alone
  pub part_leads : {j : ℕ} {r : code.Name} → Leads C targets j r → (k : ℕ) (b : Block) (st : Stmt) → st ∈ block_list b → InScope s k b → b ∈ script_blocks s → (po : PartOf C w.layout k st j) → (x : Name) → name_as k true x ≡ r → IsIn k x → IsArr x → AloneOut st x po.part
  part_leads (itself j r h) k b st m g bs po x e i a = part_itself k b st m g bs j po x r e i a h
  part_leads (through j j' u wy r q wi ij lead nd sn) k b st m g bs po x e i a = part_through k b st m g bs j po x r e i a wy u j' q wi ij (leads_in lead) sn
