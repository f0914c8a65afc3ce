-- The bodies that an entry of laid code opens: an inner block, the content of waits, or a function's body.
use Rattle.std.proofs.Common.{◌≡◌, inl, inr, ℕ, suc, ◌<◌, ℤ, Bool, List, [], ◌∷◌, ◌++◌, length, refl, sym, ap, subst, Option, Some, None}
use Rattle.std.specs.Prelude.{slice_get}
use Rattle.dataflow.specs.System.{In}
use Rattle.language.specs.Core as Co
use Rattle.language.specs.Core.{Name, Expr, Call, Part, calls, Outer, Awaited, Stmt, stmt, Action, declare, call_alone, assign, fill, insert, print, assert, when, choose, range, each, wait, Block, Function, Core}
use Rattle.language.specs.Members.{◌∈◌, first, later}
use Rattle.language.specs.Parts.{block_list, parts, part_calls, stmt_calls, script_stmts, script_blocks}
use Rattle.language.specs.WellFormed.{header_blocks}
use Rattle.language.proofs.Members.{split_in, to_left, to_right, either}
use Rattle.language.proofs.Blocks.{among}
use Rattle.language.proofs.Tested.{roles_of, with_turn}
use Rattle.task_code.specs.Code as code
use Rattle.task_code.specs.Code.{Variable, Header, Loop, Act, Way, InPlace, Through, Calling, Code, ByCalls, ByStep, ByWait, Opener, entry, body, ways, loop_of, loop_variables, turn_variables, scalar, blank_entry, Entry}
use Rattle.language_laws.specs.Scoped.{Scoped}
use Rattle.language_laws.specs.TypedValues.{own_cell, own_outer, own_parts}
use Rattle.code_rules.specs.IsCodeOf.{Layout, own_expr, own_needs, fill_act, simple_act, IsSimple, CallAs, PartAs, plain_literal, plain_name, a_cell, a_read, a_call}
use Rattle.code_rules.specs.Laying.{Kinds, Headers}
use Rattle.code_rules.specs.Laid.{Table, Stands, IsLaid}
use Rattle.code_laws.proofs.Roles.{own_of, OwnOf, own_simple, own_branch, own_branches, own_range, own_each, own_wait, Role}
use Rattle.code_laws.proofs.Shapes.{within, HomeIn, home_in}

-- PARTS

own_cell_in : (c : Co.Cell) (f : Co.Form) {x : Part} → x ∈ own_cell c f → x ∈ (Co.inner c ∷ [])
own_cell_in c (Co.compute e) h = elim h [ ]
own_cell_in c (Co.read a i) h = h

own_outer_in : (o : Outer) {x : Part} → x ∈ own_outer o → x ∈ (o.parts ++ Co.inner o.cell ∷ [])
own_outer_in o h = elim (either o.parts (own_cell o.cell o.cell.form) h) [ inl i ↦ to_left o.parts _ i | inr i ↦ to_right o.parts _ (own_cell_in o.cell o.cell.form i) ]

-- the parts that make entries are parts of the statement
pub part_of_stmt : (a : Action) {x : Part} → x ∈ own_parts a → x ∈ parts a
part_of_stmt (declare v) h = h
part_of_stmt (call_alone p ps c) h = h
part_of_stmt (assign y o) h = own_outer_in o h
part_of_stmt (fill b o) h = own_outer_in o h
part_of_stmt (insert b i o) h = h
part_of_stmt (print p o) h = own_outer_in o h
part_of_stmt (assert p o) h = own_outer_in o h
part_of_stmt (when c b) h = h
part_of_stmt (choose c b d) h = h
part_of_stmt (range lo hi st v t b) h = h
part_of_stmt (each b v t d) h = h
part_of_stmt (wait ns b) h = h

pub call_among : {c : Call} (ps : List Part) → calls c ∈ ps → c ∈ part_calls ps
call_among [] h = elim h [ ]
call_among (Co.inner d ∷ ps) h = elim (split_in h) [ inl e ↦ absurd (cc (e)) | inr i ↦ call_among ps i ]
call_among (calls d ∷ ps) h = elim (split_in h) [ inl e ↦ subst (λ (x : Call). x ∈ (d ∷ part_calls ps)) (sym (calls_same e)) first | inr i ↦ later (call_among ps i) ]
  where
    calls_same : {x y : Call} → calls x ≡ calls y → x ≡ y
    calls_same h = cc

pub call_of_stmt : (st : Stmt) {c : Call} → calls c ∈ own_of st → c ∈ stmt_calls st
call_of_stmt (stmt at n a) h = call_among (parts a) (part_of_stmt a h)

-- LOOPS

-- a loop of a script, as a loop of code, with its body
pub data LoopsOver : Stmt → Loop → Block → Type 0 where
  over_range : {at n x t : ℕ} {lo hi : Outer} {st : Option Outer} {y : Option ℕ} {b : Block} → LoopsOver (stmt at n (range lo hi st x y b)) (record { body = t; value = x; turn = y }) b
  over_each : {at n x t : ℕ} {a : Name} {y : Option ℕ} {b : Block} → LoopsOver (stmt at n (each a x y b)) (record { body = t; value = x; turn = y }) b

role_made : (x : ℕ) (y : Option ℕ) (z : ℕ) → z ∈ with_turn x y → In (scalar z) (scalar x ∷ turn_variables y)
role_made x None z m = elim (split_in m) [ inl e ↦ inl (ap scalar e) | inr i ↦ elim i [ ] ]
role_made x (Some t) z m = elim (split_in m) [ inl e ↦ inl (ap scalar e) | inr i ↦ elim (split_in i) [ inl e ↦ inr (inl (ap scalar e)) | inr j ↦ elim j [ ] ] ]

no_fill_way : {A : Type 0} (l : Layout) (k : ℕ) (ms : List code.Need) (x : Name) (e : Expr) (y : Way × ℕ) → In y (ways (fill_act l k ms x e)) → A
no_fill_way l k ms x (Co.whole b) y h = absurd h
no_fill_way l k ms x (Co.literal v) y h = absurd h
no_fill_way l k ms x (Co.name z) y h = absurd h
no_fill_way l k ms x (Co.operator o es) y h = absurd h

no_fill_loop : {A : Type 0} (l : Layout) (k : ℕ) (ms : List code.Need) (x : Name) (e : Expr) (w : Loop) → loop_of (fill_act l k ms x e) ≡ Some w → A
no_fill_loop l k ms x (Co.whole b) w h = absurd (cc (h))
no_fill_loop l k ms x (Co.literal v) w h = absurd (cc (h))
no_fill_loop l k ms x (Co.name z) w h = absurd (cc (h))
no_fill_loop l k ms x (Co.operator o es) w h = absurd (cc (h))

pub no_simple_way : {A : Type 0} (l : Layout) (k : ℕ) (a : Action) (y : Way × ℕ) → IsSimple a → In y (ways (simple_act l k (own_needs l k a) a)) → A
no_simple_way l k (assign x o) y z h = absurd h
no_simple_way l k (fill x o) y z h = no_fill_way l k _ x (own_expr o) y h
no_simple_way l k (insert x i o) y z h = absurd h
no_simple_way l k (print p o) y z h = absurd h
no_simple_way l k (assert p o) y z h = absurd h
no_simple_way l k (declare v) y z h = absurd z
no_simple_way l k (call_alone p ps c) y z h = absurd z
no_simple_way l k (when c b) y z h = absurd z
no_simple_way l k (choose c b d) y z h = absurd z
no_simple_way l k (range lo hi st v t b) y z h = absurd z
no_simple_way l k (each a v t b) y z h = absurd z
no_simple_way l k (wait ns b) y z h = absurd z

pub no_simple_loop : {A : Type 0} (l : Layout) (k : ℕ) (a : Action) (w : Loop) → IsSimple a → loop_of (simple_act l k (own_needs l k a) a) ≡ Some w → A
no_simple_loop l k (assign x o) w z h = absurd (cc (h))
no_simple_loop l k (fill x o) w z h = no_fill_loop l k _ x (own_expr o) w h
no_simple_loop l k (insert x i o) w z h = absurd (cc (h))
no_simple_loop l k (print p o) w z h = absurd (cc (h))
no_simple_loop l k (assert p o) w z h = absurd (cc (h))
no_simple_loop l k (declare v) w z h = absurd z
no_simple_loop l k (call_alone p ps c) w z h = absurd z
no_simple_loop l k (when c b) w z h = absurd z
no_simple_loop l k (choose c b d) w z h = absurd z
no_simple_loop l k (range lo hi st v t b) w z h = absurd z
no_simple_loop l k (each a v t b) w z h = absurd z
no_simple_loop l k (wait ns b) w z h = absurd z

module _ (s : Core) (C : Code) (l : Layout) (T : Table) where
  -- an entry of a body opens another body so
  pub data OpensAs (t i : ℕ) : Stmt → Way → ℕ → Type 0 where
    opens_header : {at n b : ℕ} {a : Action} {c : Block} (vs : List Variable) → ((x : ℕ) → x ∈ roles_of a → In (scalar x) vs) → stmt at n a ∈ block_list (T.block_of t) → c ∈ header_blocks a → (entry C i).offset ≡ at → Stands C l T (T.inputs_of t) c vs (ByStep i) b → OpensAs t i (stmt at n a) Through b
    opens_wait : {at n b : ℕ} {ns : List Awaited} {d c : Block} {hs : List Header} → stmt at n (wait ns d) ∈ block_list (T.block_of t) → Headers (T.inputs_of t) (stmt at n (wait ns d)) hs c
        → Stands C l T (T.inputs_of t) c [] (ByWait i) b → OpensAs t i (stmt at n (wait ns d)) InPlace b
    opens_call : {b : ℕ} {st : Stmt} {c : Call} {f : Function} (at : ℕ) (p : ℤ) → st ∈ block_list (T.block_of t) → calls c ∈ own_of st → CallAs C l (T.inputs_of t) (own_of st) at p c i
        → slice_get s.functions c.function ≡ Some f → Stands C l T f.inputs f.body [] ByCalls b → b ≡ suc c.function → OpensAs t i st Calling b

  one_way : {i b t : ℕ} {w : Way} {st : Stmt} (v : Way) (u : ℕ) → OpensAs t i st v u → In {X = Way × ℕ} (w, b) ((v, u) ∷ []) → OpensAs t i st w b
  one_way {i} {t = t} {st = st} v u o (inl e) = subst (λ (z : Way × ℕ). OpensAs t i st z.0 z.1) (sym e) o
  one_way v u o (inr z) = absurd z

  two_ways : {i b t : ℕ} {w : Way} {st : Stmt} (v v' : Way) (u u' : ℕ) → OpensAs t i st v u → OpensAs t i st v' u' → In {X = Way × ℕ} (w, b) ((v, u) ∷ (v', u') ∷ []) → OpensAs t i st w b
  two_ways {i} {t = t} {st = st} v v' u u' o p (inl e) = subst (λ (z : Way × ℕ). OpensAs t i st z.0 z.1) (sym e) o
  two_ways v v' u u' o p (inr h) = one_way v' u' p h

  by_act : (i : ℕ) (y : Way × ℕ) {a : Act} → (entry C i).act ≡ a → In y (ways (entry C i).act) → In y (ways a)
  by_act i y e h = subst (λ (z : Act). In y (ways z)) e h

  loop_by : (i : ℕ) {a : Act} {w : Loop} → (entry C i).act ≡ a → loop_of (entry C i).act ≡ Some w → loop_of a ≡ Some w
  loop_by i {w = w} e h = subst (λ (z : Act). loop_of z ≡ Some w) e h

  own_opens : {t : ℕ} (i b : ℕ) (w : Way) {st : Stmt} → st ∈ block_list (T.block_of t) → OwnOf C l T (T.inputs_of t) st i → In (w, b) (ways (entry C i).act) → OpensAs t i st w b
  own_opens {t} i b w m (own_simple {a = a} z e q) h = no_simple_way l (T.inputs_of t) a (w, b) z (by_act i (w, b) e.act_is h)
  own_opens i b w m (own_branch {t = u} e q s) h = one_way Through u (opens_header [] (λ x i. elim i [ ]) m first q s) (by_act i (w, b) e.act_is h)
  own_opens i b w m (own_branches {t = u} {u = v} e q s r) h = two_ways Through Through u v (opens_header [] (λ x i. elim i [ ]) m first q s) (opens_header [] (λ x i. elim i [ ]) m (later first) q r) (by_act i (w, b) e.act_is h)
  own_opens i b w m (own_range {t = u} {x = x} {y = y} e q s) h = one_way Through u (opens_header _ (role_made x y) m first q s) (by_act i (w, b) e.act_is h)
  own_opens i b w m (own_each {t = u} {x = x} {y = y} e q s) h = one_way Through u (opens_header _ (role_made x y) m first q s) (by_act i (w, b) e.act_is h)
  own_opens i b w m (own_wait {t = u} x e s) h = one_way InPlace u (opens_wait m x s) (by_act i (w, b) e.act_is h)

  -- a call's entry, where the called function stands
  abbrev CallOpens : ℕ → Stmt → Type 0
  CallOpens t st = (c : Call) (f : ℕ) → calls c ∈ own_of st → l.body_of c.function ≡ suc c.function × (g : Function) × (slice_get s.functions c.function ≡ Some g) × Stands C l T g.inputs g.body [] ByCalls (suc c.function)

  call_opens : {t j at : ℕ} {p : ℤ} {st : Stmt} {c : Call} (i b : ℕ) (w : Way) → CallOpens t st → st ∈ block_list (T.block_of t) → calls c ∈ own_of st → CallAs C l (T.inputs_of t) (own_of st) at p c j → In i (j ∷ []) → In (w, b) (ways (entry C i).act)
      → OpensAs t i st w b
  call_opens {at = at} {p = p} {c = c} i b w f m k a (inr z) h = absurd z
  call_opens {t} {at = at} {p = p} {st = st} {c = c} i b w f m k a (inl e) h =
      let r = f c 0 k in
      let a' = subst (λ (z : ℕ). CallAs C l (T.inputs_of t) (own_of st) at p c z) (sym e) a in
      let h' : In (w, b) ((Calling, suc c.function) ∷ []) = subst (λ (z : ℕ). In {X = Way × ℕ} (w, b) ((Calling, z) ∷ [])) r.0 (by_act i (w, b) (a'.is).act_is h) in
      one_way Calling (suc c.function) (opens_call at p m k a' r.2 r.3 refl) h'

  part_opens : {t at : ℕ} {p : ℤ} {st : Stmt} {x : Part} {js : List ℕ} (i b : ℕ) (w : Way) → CallOpens t st → st ∈ block_list (T.block_of t) → x ∈ own_of st → PartAs C l (T.inputs_of t) (own_of st) at p x js → In i js → In (w, b) (ways (entry C i).act)
      → OpensAs t i st w b
  part_opens i b w f m k (plain_literal h) j g = absurd j
  part_opens i b w f m k (plain_name h) j g = absurd j
  part_opens i b w f m k (a_cell {j = y} h q e) (inl r) g = absurd (by_act y (w, b) e.act_is (subst (λ (z : ℕ). In (w, b) (ways (entry C z).act)) r g))
  part_opens i b w f m k (a_cell h q e) (inr z) g = absurd z
  part_opens i b w f m k (a_read {j = y} h q x e) (inl r) g = absurd (by_act y (w, b) e.act_is (subst (λ (z : ℕ). In (w, b) (ways (entry C z).act)) r g))
  part_opens i b w f m k (a_read h q x e) (inr z) g = absurd z
  part_opens i b w f m k (a_call c) j g = call_opens i b w f m k c j g

  -- LOOPS
  pub record LoopIn (t i : ℕ) (w : Loop) : Type 0 where
    pub st : Stmt
    pub block : Block
    pub there : st ∈ block_list (T.block_of t)
    pub over : LoopsOver st w block
    pub stands : Stands C l T (T.inputs_of t) block (loop_variables w) (ByStep i) w.body

  loop_same : {x y : Loop} → Some x ≡ Some y → x ≡ y
  loop_same h = cc

  loop_in : {t i : ℕ} {st : Stmt} {b : Block} {w w' : Loop} → st ∈ block_list (T.block_of t) → LoopsOver st w b → Stands C l T (T.inputs_of t) b (loop_variables w) (ByStep i) w.body → Some w ≡ Some w' → LoopIn t i w'
  loop_in {t} {i} m o s e = subst (λ (z : Loop). LoopIn t i z) (loop_same e) (record { st = _; block = _; there = m; over = o; stands = s })

  own_loop : {t : ℕ} {st : Stmt} (i : ℕ) (w : Loop) → st ∈ block_list (T.block_of t) → OwnOf C l T (T.inputs_of t) st i → loop_of (entry C i).act ≡ Some w → LoopIn t i w
  own_loop {t} i w m (own_simple {a = a} z e q) h = no_simple_loop l (T.inputs_of t) a w z (loop_by i e.act_is h)
  own_loop i w m (own_branch e q s) h = let g = loop_by i e.act_is h in absurd (cc (g))
  own_loop i w m (own_branches e q s r) h = let g = loop_by i e.act_is h in absurd (cc (g))
  own_loop i w m (own_range e q s) h = loop_in m over_range s (loop_by i e.act_is h)
  own_loop i w m (own_each e q s) h = loop_in m over_each s (loop_by i e.act_is h)
  own_loop i w m (own_wait x e s) h = let g = loop_by i e.act_is h in absurd (cc (g))

  part_loop : {A : Type 0} {k at : ℕ} {p : ℤ} {all : List Part} {x : Part} {js : List ℕ} (i : ℕ) (w : Loop) → PartAs C l k all at p x js → In i js → loop_of (entry C i).act ≡ Some w → A
  part_loop i w (plain_literal h) j g = absurd j
  part_loop i w (plain_name h) j g = absurd j
  part_loop i w (a_cell {j = y} h q e) (inl r) g = let d = loop_by y e.act_is (subst (λ (z : ℕ). loop_of (entry C z).act ≡ Some w) r g) in absurd (cc (d))
  part_loop i w (a_cell h q e) (inr z) g = absurd z
  part_loop i w (a_read {j = y} h q x e) (inl r) g = let d = loop_by y e.act_is (subst (λ (z : ℕ). loop_of (entry C z).act ≡ Some w) r g) in absurd (cc (d))
  part_loop i w (a_read h q x e) (inr z) g = absurd z
  part_loop i w (a_call {j = y} c) (inl r) g = let d = loop_by y (c.is).act_is (subst (λ (z : ℕ). loop_of (entry C z).act ≡ Some w) r g) in absurd (cc (d))
  part_loop i w (a_call c) (inr z) g = absurd z

module _ {s : Core} {fs : List Kinds} {ds : List (ℕ × Bool)} (C : Code) (l : Layout) (L : IsLaid s fs ds C l) where
  -- a statement of a body's block is one of the script
  pub stmt_in : (t : ℕ) → t < length C.bodies → {st : Stmt} → st ∈ block_list (L.table.block_of t) → st ∈ script_stmts s
  stmt_in t h m = among (script_blocks s) (L.bodies t h).there m

  -- where an entry that opens a body stands
  pub record HomeOf (i : ℕ) : Type 0 where
    pub home : ℕ
    pub within_code : home < length C.bodies
    pub stands : In i (body C home).entries

  pub home_of : (i : ℕ) → i < length C.entries → HomeOf i
  home_of i h = let r = L.stands i h in record { home = r.0; within_code = Rattle.code_laws.proofs.Shapes.body_within C r.0 i r.1; stands = r.1 }

  acts_within : (i : ℕ) → ((entry C i).act ≡ blank_entry.act → ⊥) → i < length C.entries
  acts_within i f = elim (within blank_entry C.entries i) [ inl h ↦ h | inr e ↦ absurd (f (ap (λ (x : Entry). x.act) e)) ]

  pub opener_within : (i : ℕ) (y : Way × ℕ) → In y (ways (entry C i).act) → i < length C.entries
  opener_within i y h = acts_within i (λ e. absurd (subst (λ (z : Act). In y (ways z)) e h))

  pub loop_within : (i : ℕ) (w : Loop) → loop_of (entry C i).act ≡ Some w → i < length C.entries
  loop_within i w h = acts_within i (λ e. (let g : loop_of blank_entry.act ≡ Some w = subst (λ (z : Act). loop_of z ≡ Some w) e h in absurd (cc (g))))

  -- WHAT AN ENTRY OPENS
  pub opens_by : Scoped s → (t i b : ℕ) (w : Way) (st : Stmt) → st ∈ block_list (L.table.block_of t) → Role C l L.table (L.table.inputs_of t) st i → In i (body C t).entries → In (w, b) (ways (entry C i).act) → OpensAs s C l L.table t i st w b
  opens_by scoped t i b w st m role h g = elim role [ inl p ↦ part_opens s C l L.table i b w known m p.there p.as_part p.among g | inr o ↦ own_opens s C l L.table i b w m o g ]
    where
      known : CallOpens s C l L.table t st
      known c f k =
          let r = scoped.calls st c (stmt_in t (Rattle.code_laws.proofs.Shapes.body_within C t i h) m) (call_of_stmt st k) in
          (L.places c.function, r.0, r.1, L.functions c.function r.0 r.1)

  pub opens_as : Scoped s → (t i b : ℕ) (w : Way) → In i (body C t).entries → In (w, b) (ways (entry C i).act) → (st : Stmt) × OpensAs s C l L.table t i st w b
  opens_as scoped t i b w h g = let x = home_in C l L t i h in ((x.of).st, opens_by scoped t i b w (x.of).st (x.of).there x.role h g)

  pub loop_as : (t i : ℕ) (w : Loop) → In i (body C t).entries → loop_of (entry C i).act ≡ Some w → LoopIn s C l L.table t i w
  loop_as t i w h g =
      let x = home_in C l L t i h in
      elim x.role [ inl p ↦ part_loop s C l L.table i w p.as_part p.among g | inr o ↦ own_loop s C l L.table i w (x.of).there o g ]
