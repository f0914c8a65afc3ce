-- Layings of one block do the same, entry by entry, and have the same bodies.
use Rattle.std.proofs.Common.{◌≡◌, ℕ, suc, ◌+◌, Bool, true, false, List, [], ◌∷◌, ◌++◌, length, refl, sym, ap, ap₂, ◌∙◌, subst, None, Some}
use Rattle.std.specs.Prelude.{ℤ, pos}
use Rattle.std.specs.List.{flat_map}
use Rattle.language.specs.Core as Co
use Rattle.language.specs.Core.{Expr, Part, inner, calls, Call, Awaited, Stmt, stmt, Action, declare, call_alone, when, choose, range, each, wait, Block, no_stmts, stmts, Core}
use Rattle.language.specs.Members.{◌∈◌, first, later}
use Rattle.language.specs.Parts.{block_list, part_calls, script_blocks, script_stmts}
use Rattle.language.proofs.Blocks.{inner_block, among_script}
use Rattle.language.proofs.Members.{to_left, to_right}
use Rattle.language_laws.specs.TypedValues.{own_parts}
use Rattle.task_code.specs.Code.{Variable, Header, Entry, Body, ByStep, ByWait, If, Need, Range, Each, Wait, loop_variables}
use Rattle.code_rules.specs.CodeNames.{each_once, header, over}
use Rattle.code_rules.specs.IsCodeOf.{Layout, IsEntry, IsSimple, fill_act, own_expr, own_needs, own_priority, seen, simple_act, step_expr}
use Rattle.code_rules.specs.Emitted.{ReadsStand}
use Rattle.code_rules.specs.Laying.{Kinds, Laying, IndexesStand, LaysParts, PlainAs, Suits, code_of, counted, with_bodies, with_entry, next_body, is_wait_alone, Headers, one_header, more_headers, LaysStmt, declares, calls_alone, simple, branch, branches, range_loop, array_loop, waits, LaysBlock, no_statement, one_statement}
use Rattle.code_laws.specs.Alike.{AllDoSame, DoSame, OpensAtMark}
use Rattle.code_laws.proofs.Adding.{header_block}
use Rattle.code_laws.proofs.Parts.{ArePinned, parts_same, same-append, same-length, same_entry}

-- the same is laid so far, but for what a listing shows
pub record SameLaying (s t : Laying) : Type 0 where
  pub entries : AllDoSame s.entries t.entries
  pub bodies : s.bodies ≡ t.bodies

pub record Both (s t : Laying) (es fs : List ℕ) (vs ws : List Variable) : Type 0 where
  pub laid : SameLaying s t
  pub numbers : es ≡ fs
  pub makes : vs ≡ ws

many : (s t : Laying) → SameLaying s t → length s.entries ≡ length t.entries
many s t h = same-length s.entries t.entries h.entries

moved : (s t s' t' : Laying) → s ≡ s' → t ≡ t' → SameLaying s' t' → SameLaying s t
moved s t s' t' p q h = subst (λ (z : Laying). SameLaying z t) (sym p) (subst (λ (z : Laying). SameLaying s' z) (sym q) h)

entry_added : (s t : Laying) (e f : Entry) → SameLaying s t → DoSame e f → SameLaying (with_entry s e) (with_entry t f)
entry_added s t e f h d = record { entries = same-append s.entries t.entries (e ∷ []) (f ∷ []) h.entries (d, tt); bodies = h.bodies }

bodies_added : (s t : Laying) (bs cs : List Body) → SameLaying s t → bs ≡ cs → SameLaying (with_bodies s bs) (with_bodies t cs)
bodies_added s t bs cs h q = record { entries = h.entries; bodies = ap₂ (λ (x y : List Body). x ++ y) h.bodies q }

call_part : (ps : List Part) {c : Call} → calls c ∈ ps → c ∈ part_calls ps
call_part [] m = elim m [ ]
call_part (inner d ∷ ps) (later m) = call_part ps m
call_part (calls d ∷ ps) first = first
call_part (calls d ∷ ps) (later m) = later (call_part ps m)

next_same : (roots : ℕ) (s t : Laying) → SameLaying s t → next_body roots s ≡ next_body roots t
next_same roots s t h = ap (λ (bs : List Body). roots + length bs) h.bodies

-- WAITS

header_wait : {k : ℕ} {st : Stmt} {hs : List Header} {b : Block} → Headers k st hs b → is_wait_alone st no_stmts ≡ true
header_wait (one_header lone e) = refl
header_wait (more_headers h e) = refl

no_two : {X : Type 0} {b : Bool} → b ≡ true → b ≡ false → X
no_two h g = let z = sym h ∙ g in absurd (cc (z))

record SameHeaders (hs gs : List Header) (b d : Block) : Type 0 where
  headers : hs ≡ gs
  block : b ≡ d

headers_same : {k : ℕ} {st : Stmt} {hs gs : List Header} {b d : Block} → Headers k st hs b → Headers k st gs d → SameHeaders hs gs b d
headers_same (one_header lone e) (one_header lone' f) = record { headers = e ∙ sym f; block = refl }
headers_same (one_header lone e) (more_headers h f) = no_two (header_wait h) lone
headers_same (more_headers h e) (one_header lone f) = no_two (header_wait h) lone
headers_same {k} (more_headers {at = at} {ns = ns} h e) (more_headers g f) =
    let r = headers_same h g in
    record { headers = e ∙ ap (λ (z : List Header). header k at ns ∷ z) r.headers ∙ sym f; block = r.block }

-- SIMPLE ENTRIES

simple_mark : (l : Layout) (k : ℕ) (ns : List Need) (a : Action) → IsSimple a → OpensAtMark (simple_act l k ns a) → ⊥
simple_mark l k ns (Co.assign x o) z h = h
simple_mark l k ns (Co.fill x o) z h = by (own_expr o) h
  where
    by : (e : Expr) → OpensAtMark (fill_act l k ns x e) → ⊥
    by (Co.whole y) h = h
    by (Co.literal y) h = h
    by (Co.name y) h = h
    by (Co.operator y es) h = h
simple_mark l k ns (Co.insert x i o) z h = h
simple_mark l k ns (Co.print x o) z h = h
simple_mark l k ns (Co.assert x o) z h = h
simple_mark l k ns (declare v) z h = z
simple_mark l k ns (call_alone x y o) z h = z
simple_mark l k ns (when o d) z h = z
simple_mark l k ns (choose o d e) z h = z
simple_mark l k ns (range o d e f g h') z h = z
simple_mark l k ns (each o d e f) z h = z
simple_mark l k ns (wait o d) z h = z

-- each variable is declared as it is by this
abbrev pub AsShape : (ℕ → Bool) → List (ℕ × Bool) → Type 0
AsShape shape ds = (v : ℕ) (b : Bool) → ◌∈◌ {X = ℕ × Bool} (v, b) ds → b ≡ shape v

shape_left : (shape : ℕ → Bool) (ds bs cs : List (ℕ × Bool)) → ds ≡ bs ++ cs → AsShape shape ds → AsShape shape bs
shape_left shape ds bs cs e h v b m = h v b (subst (λ (z : List (ℕ × Bool)). ◌∈◌ {X = ℕ × Bool} (v, b) z) (sym e) (to_left bs cs m))

shape_right : (shape : ℕ → Bool) (ds bs cs : List (ℕ × Bool)) → ds ≡ bs ++ cs → AsShape shape ds → AsShape shape cs
shape_right shape ds bs cs e h v b m = h v b (subst (λ (z : List (ℕ × Bool)). ◌∈◌ {X = ℕ × Bool} (v, b) z) (sym e) (to_right bs cs m))

module _ (c : Core) (fs : List Kinds) (roots : ℕ) (l : Layout) (suits : (at n : ℕ) (a : Action) → stmt at n a ∈ script_stmts c → Suits l a) (stands : ReadsStand c)
    (pinned : (at n : ℕ) (a : Action) → stmt at n a ∈ script_stmts c → ArePinned fs (own_parts a)) (shape : ℕ → Bool) (k : ℕ) where
  laid_parts : {all : List Part} {at : ℕ} {p : ℤ} {s s' t t' : Laying} {es es' : List ℕ} → LaysParts fs k all at p s t es → LaysParts fs k all at p s' t' es' → SameLaying s s'
      → PlainAs l None all → ((i : ℕ) → l.body_of i ≡ suc i) → IndexesStand all → ArePinned fs all → SameLaying t t' × (es ≡ es')
  laid_parts {all} {at} {p} {s} {s'} {t} {t'} {es} {es'} x y h plain bodies st pi =
      let len = many s s' h in
      let more : AllDoSame x.more y.more = parts_same fs l bodies k all pi at p (code_of t) (code_of t') all es es' s.entries s'.entries x.more y.more x.more y.more (λ z m. call_part all m) len x.entries y.entries (λ e i. i) (λ e i. i) x.fit y.fit x.numbers y.numbers
      (x.parts_as l plain bodies st) (y.parts_as l plain bodies st) in (
        record {
          entries = subst (λ (z : List Entry). AllDoSame z t'.entries) (sym x.entries) (subst (λ (z : List Entry). AllDoSame (s.entries ++ x.more) z) (sym y.entries) (same-append s.entries s'.entries x.more y.more h.entries more));
          bodies = x.bodies ∙ h.bodies ∙ sym y.bodies;
        },
        x.numbers ∙ ap₂ counted len (same-length x.more y.more more) ∙ sym y.numbers,
      )

  last_same : (t t' : Laying) (is is' es es' : List ℕ) → SameLaying t t' → is ≡ is' → es ≡ is ++ length t.entries ∷ [] → es' ≡ is' ++ length t'.entries ∷ [] → es ≡ es'
  last_same t t' is is' es es' h q e f = e ∙ ap₂ (λ (xs : List ℕ) (n : ℕ). xs ++ n ∷ []) q (many t t' h) ∙ sym f

  opened : (u u' w w' : Laying) (e f : Entry) (bs cs : List Body) → w ≡ with_bodies (with_entry u e) bs → w' ≡ with_bodies (with_entry u' f) cs → SameLaying u u' → DoSame e f → bs ≡ cs → SameLaying w w'
  opened u u' w w' e f bs cs we we' h d q = moved w w' (with_bodies (with_entry u e) bs) (with_bodies (with_entry u' f) cs) we we' (bodies_added (with_entry u e) (with_entry u' f) bs cs (entry_added u u' e f h d) q)

  step_body : (u u' : Laying) (vs ws : List Variable) (js ks : List ℕ) → SameLaying u u' → vs ≡ ws → js ≡ ks → ◌≡◌ {A = List Body} (record { opener = ByStep (length u.entries); makes = vs; entries = js } ∷ []) (record { opener = ByStep (length u'.entries); makes = ws; entries = ks } ∷ [])
  step_body u u' vs ws js ks h p q = ap₂ (λ (n : ℕ) (z : List Variable × List ℕ). record { opener = ByStep n; makes = z.0; entries = z.1 } ∷ []) (many u u' h) (λ z. (p z, q z))

  mutual
    pub stmt_pinned : {st : Stmt} {ds ds' : List (ℕ × Bool)} {s s' t t' : Laying} {es es' : List ℕ} {vs vs' : List Variable} → LaysStmt fs roots k st ds s t es vs → LaysStmt fs roots k st ds' s' t' es' vs' → SameLaying s s' → AsShape shape ds → AsShape shape ds'
        → (B : Block) → B ∈ script_blocks c → st ∈ block_list B → Both t t' es es' vs vs'
    stmt_pinned (declares {v = v} b) (declares d) h sh sh' B m i =
        let same : b ≡ d = sh v b first ∙ sym (sh' v d first) in
        record { laid = h; numbers = refl; makes = λ z. record { node = v; array = same z } ∷ [] }
    stmt_pinned (declares b) (simple e sim lp ow nd ue ee) h sh sh' B m i = absurd sim
    stmt_pinned (calls_alone {at = at} {n = n} {p = p} {ps = ps} {c = d} lp) (calls_alone lq) h sh sh' B m i =
        let j = among_script c m i in
        let su = suits at n (call_alone p ps d) j in
        let r = laid_parts lp lq h su.parts_plain su.bodies (stands at n (call_alone p ps d) j) (pinned at n (call_alone p ps d) j) in
        record { laid = r.0; numbers = r.1; makes = refl }
    stmt_pinned (calls_alone lp) (simple e sim lq ow nd ue ee) h sh sh' B m i = absurd sim
    stmt_pinned (simple e sim lp ow nd ue ee) (declares d) h sh sh' B m i = absurd sim
    stmt_pinned (simple e sim lp ow nd ue ee) (calls_alone lq) h sh sh' B m i = absurd sim
    stmt_pinned (simple {at = at} {n = n} {a = a} e {t = t} {u = u} {es = es} {is = is} sim lp ow nd ue ee) (simple f {t = t'} {u = u'} {es = es'} {is = is'} sim' lq ow' nd' ue' ee') h sh sh' B m i =
        let j = among_script c m i in
        let su = suits at n a j in
        let r = laid_parts lp lq h su.parts_plain su.bodies (stands at n a j) (pinned at n a j) in
        let d = same_entry (ow l su) (ow' l su) (λ z. nd.0 ∙ sym nd'.0) (λ z. absurd (simple_mark l k (own_needs l k a) a sim z)) in
        record { laid = moved u u' (with_entry t e) (with_entry t' f) ue ue' (entry_added t t' e f r.0 d); numbers = last_same t t' is is' es es' r.0 r.1 ee ee'; makes = refl }
    stmt_pinned (simple e sim lp ow nd ue ee) (branch f lq bl ow' mk we ff) h sh sh' B m i = absurd sim
    stmt_pinned (simple e sim lp ow nd ue ee) (branches f lq bl dl de ow' mk we ff) h sh sh' B m i = absurd sim
    stmt_pinned (simple e sim lp ow nd ue ee) (range_loop f lq bl ow' mk we ff) h sh sh' B m i = absurd sim
    stmt_pinned (simple e sim lp ow nd ue ee) (array_loop f bl ow' mk we ff) h sh sh' B m i = absurd sim
    stmt_pinned (simple e sim lp ow nd ue ee) (waits f hd bl en we ff) h sh sh' B m i = absurd sim
    stmt_pinned (branch e lp bl ow mk we ee) (simple f sim lq ow' nd ue ff) h sh sh' B m i = absurd sim
    stmt_pinned (branch {at = at} {n = n} {c = co} {b = b} e {u = u} {w = w} {es = es} {is = is} {js = js} {vs = vs} lp bl ow mk we ee) (branch f {u = u'} {w = w'} {es = es'} {is = is'} {js = js'} {vs = vs'} lq bl' ow' mk' we' ee') h sh sh' B m i =
        let j = among_script c m i in
        let a = when co b in
        let su = suits at n a j in
        let r = laid_parts lp lq h su.parts_plain su.bodies (stands at n a j) (pinned at n a j) in
        let x = block_pinned bl bl' r.0 sh sh' b (inner_block c m i first) (λ y z. z) in
        let d = same_entry (ow l su) (subst (λ (z : ℕ). IsEntry f at (own_priority a) (own_needs l k a) (If (over k (own_needs l k a) (seen l co.cell)) z None)) (sym (next_same roots u u' x.laid)) (ow' l su)) (λ z. absurd z) (λ z. mk ∙ sym mk') in
        record {
          laid = opened u u' w w' e f _ _ we we' x.laid d (step_body u u' vs vs' js js' x.laid x.makes x.numbers);
          numbers = last_same u u' is is' es es' x.laid r.1 ee ee';
          makes = refl;
        }
    stmt_pinned (branches e lp bl dl de ow mk we ee) (simple f sim lq ow' nd ue ff) h sh sh' B m i = absurd sim
    stmt_pinned (branches {at = at} {n = n} {c = co} {b = b} {d = d} {bs = bs} {cs = cs} {ds = ds} e {v = v} {w = w} {es = es} {is = is} {js = js} {ks = ks} {vs = vs} {ws = ws} lp bl dl de ow mk we ee) (branches {bs = bs'} {cs = cs'} {ds = ds'} f {v = v'} {w = w'} {es = es'} {is = is'} {js = js'} {ks = ks'} {vs = vs'} {ws = ws'} lq bl' dl' de' ow' mk' we' ee') h sh sh' B m i =
        let j = among_script c m i in
        let a = choose co b d in
        let su = suits at n a j in
        let r = laid_parts lp lq h su.parts_plain su.bodies (stands at n a j) (pinned at n a j) in
        let x = block_pinned bl bl' r.0 (shape_left shape ds bs cs de sh) (shape_left shape ds' bs' cs' de' sh') b (inner_block c m i first) (λ y z. z) in
        let y = block_pinned dl dl' x.laid (shape_right shape ds bs cs de sh) (shape_right shape ds' bs' cs' de' sh') d (inner_block c m i (later first)) (λ y z. z) in
        let g = same_entry (ow l su) (subst (λ (z : ℕ). IsEntry f at (own_priority a) (own_needs l k a) (If (over k (own_needs l k a) (seen l co.cell)) z (Some (suc z)))) (sym (next_same roots v v' y.laid)) (ow' l su)) (λ z. absurd z) (λ z. mk ∙ sym mk') in
        record {
          laid = opened v v' w w' e f _ _ we we' y.laid g (ap₂ (λ (p q : List Body). p ++ q) (step_body v v' vs vs' js js' y.laid x.makes x.numbers) (step_body v v' ws ws' ks ks' y.laid y.makes y.numbers));
          numbers = last_same v v' is is' es es' y.laid r.1 ee ee';
          makes = refl;
        }
    stmt_pinned (range_loop e lp bl ow mk we ee) (simple f sim lq ow' nd ue ff) h sh sh' B m i = absurd sim
    stmt_pinned (range_loop {at = at} {n = n} {x = x} {lo = lo} {hi = hi} {st = so} {y = y} {b = b} e {u = u} {w = w} {es = es} {is = is} {js = js} {vs = vs} lp bl ow mk we ee) (range_loop f {u = u'} {w = w'} {es = es'} {is = is'} {js = js'} {vs = vs'} lq bl' ow' mk' we' ee') h sh sh' B m i =
        let j = among_script c m i in
        let a = range lo hi so x y b in
        let su = suits at n a j in
        let r = laid_parts lp lq h su.parts_plain su.bodies (stands at n a j) (pinned at n a j) in
        let q = block_pinned bl bl' r.0 sh sh' b (inner_block c m i first) (λ y z. z) in
        let d = same_entry (ow l su)
        (subst (λ (z : ℕ). IsEntry f at (own_priority a) (own_needs l k a) (Range (over k (own_needs l k a) (seen l lo.cell)) (over k (own_needs l k a) (seen l hi.cell)) (over k (own_needs l k a) (step_expr l k so)) (record { body = z; value = x; turn = y })))
        (sym (next_same roots u u' q.laid)) (ow' l su)) (λ z. absurd z) (λ z. mk ∙ sym mk') in
        let us = loop_variables (record { body = 0; value = x; turn = y }) in
        record {
          laid = opened u u' w w' e f _ _ we we' q.laid d (step_body u u' (us ++ vs) (us ++ vs') js js' q.laid (ap (λ (z : List Variable). us ++ z) q.makes) q.numbers);
          numbers = last_same u u' is is' es es' q.laid r.1 ee ee';
          makes = refl;
        }
    stmt_pinned (array_loop e bl ow mk we ee) (simple f sim lq ow' nd ue ff) h sh sh' B m i = absurd sim
    stmt_pinned (array_loop {at = at} {n = n} {x = x} {a = ar} {y = y} {b = b} e {u = u} {w = w} {es = es} {js = js} {vs = vs} bl ow mk we ee) (array_loop f {u = u'} {w = w'} {es = es'} {js = js'} {vs = vs'} bl' ow' mk' we' ee') h sh sh' B m i =
        let j = among_script c m i in
        let a = each ar x y b in
        let su = suits at n a j in
        let q = block_pinned bl bl' h sh sh' b (inner_block c m i first) (λ y z. z) in
        let d = same_entry (ow l su) (subst (λ (z : ℕ). IsEntry f at (own_priority a) (own_needs l k a) (Each (record { body = z; value = x; turn = y }))) (sym (next_same roots u u' q.laid)) (ow' l su)) (λ z. absurd z) (λ z. mk ∙ sym mk') in
        let us = loop_variables (record { body = 0; value = x; turn = y }) in
        record {
          laid = opened u u' w w' e f _ _ we we' q.laid d (step_body u u' (us ++ vs) (us ++ vs') js js' q.laid (ap (λ (z : List Variable). us ++ z) q.makes) q.numbers);
          numbers = last_same u u' [] [] es es' q.laid refl ee ee';
          makes = refl;
        }
    stmt_pinned (waits e hd bl en we ee) (simple f sim lq ow' nd ue ff) h sh sh' B m i = absurd sim
    stmt_pinned (waits {at = at} {b = b} {hs = hs} e {u = u} {w = w} {es = es} {js = js} {vs = vs} hd bl en we ee) (waits {b = d} {hs = gs} {ds = ds'} f {s = s'} {u = u'} {w = w'} {es = es'} {js = js'} {vs = vs'} hd' bl' en' we' ee') h sh sh' B m i =
        let same = headers_same hd hd' in
        let bl'' : LaysBlock fs roots k b ds' s' u' js' vs' = subst (λ (z : Block). LaysBlock fs roots k z ds' s' u' js' vs') (sym same.block) bl' in
        let q = block_pinned bl bl'' h sh sh' b (header_block c hd B m i) (λ y z. z) in
        let en'' : IsEntry f at (pos 0) (each_once (flat_map (λ (z : Header). z.needs) hs)) (Wait hs (next_body roots u)) =
        subst (λ (z : ℕ). IsEntry f at (pos 0) (each_once (flat_map (λ (z : Header). z.needs) hs)) (Wait hs z)) (sym (next_same roots u u' q.laid))
        (subst (λ (xs : List Header). IsEntry f at (pos 0) (each_once (flat_map (λ (z : Header). z.needs) xs)) (Wait xs (next_body roots u'))) (sym same.headers) en'.0) in
        let g = same_entry en.0 en'' (λ z. absurd z) (λ z. absurd z) in
        record {
          laid = opened u u' w w' e f _ _ we we' q.laid g (ap₂ (λ (n : ℕ) (z : List Variable × List ℕ). record { opener = ByWait n; makes = z.0; entries = z.1 } ∷ []) (many u u' q.laid) (λ z. (q.makes z, q.numbers z)));
          numbers = last_same u u' [] [] es es' q.laid refl ee ee';
          makes = refl;
        }

    pub block_pinned : {b : Block} {ds ds' : List (ℕ × Bool)} {s s' t t' : Laying} {es es' : List ℕ} {vs vs' : List Variable} → LaysBlock fs roots k b ds s t es vs → LaysBlock fs roots k b ds' s' t' es' vs' → SameLaying s s' → AsShape shape ds → AsShape shape ds'
        → (B : Block) → B ∈ script_blocks c → ((y : Stmt) → y ∈ block_list b → y ∈ block_list B) → Both t t' es es' vs vs'
    block_pinned no_statement no_statement h sh sh' B m i = record { laid = h; numbers = refl; makes = refl }
    block_pinned (one_statement {st = st} {cs = cs} {ds = ds} {all = all} x xs de ee me) (one_statement {cs = cs'} {ds = ds'} {all = all'} y ys de' ee' me') h sh sh' B m i =
        let p = stmt_pinned x y h (shape_left shape all cs ds de sh) (shape_left shape all' cs' ds' de' sh') B m (i st first) in
        let q = block_pinned xs ys p.laid (shape_right shape all cs ds de sh) (shape_right shape all' cs' ds' de' sh') B m (λ z j. i z (later j)) in
        record {
          laid = q.laid;
          numbers = ee ∙ ap₂ (λ (a b : List ℕ). a ++ b) p.numbers q.numbers ∙ sym ee';
          makes = me ∙ ap₂ (λ (a b : List Variable). a ++ b) p.makes q.makes ∙ sym me';
        }
