-- A statement's entry may write what is a target in the statement, or in a block inside it: so an item without the right has no target.
use Rattle.std.proofs.Common.{◌≡◌, ◌⊎◌, inl, inr, ℕ, suc, Bool, true, false, List, [], ◌∷◌, refl, sym, ap, ◌∙◌, subst, arith}
use Rattle.dataflow.specs.System.{In}
use Rattle.dataflow.proofs.Lists.{in_right}
use Rattle.language.specs.Core as Co
use Rattle.language.specs.Core.{Owned, local, input, output, Name, Expr, Call, Part, Outer, Awaited, Stmt, stmt, Action, declare, call_alone, assign, fill, insert, print, assert, when, choose, range, each, wait, Block, stmts, no_stmts, Core}
use Rattle.language.specs.Members.{◌∈◌, first, later}
use Rattle.language.specs.Parts.{stmt_calls, block_list}
use Rattle.language.specs.WellFormed.{IsOwnTarget, header_blocks, Declares, Uses, own, inside, in_wait}
use Rattle.language.proofs.Members.{split_in, to_right}
use Rattle.task_code.specs.Code as code
use Rattle.task_code.specs.Code.{Variable, Local, Parameter, Argument, Named, Header, Act, Way, InPlace, Through, Calling, Code, entry, body, ways, targets_of, stored_of}
use Rattle.task_code.specs.Whole.{Declared, SeenFrom, IsCode}
use Rattle.code_rules.specs.CodeNames.{owned_as, name_as}
use Rattle.code_rules.specs.IsCodeOf.{Layout, own_expr, own_needs, fill_act, OutputsAs, no_output, one_output, StmtAs, declares, calls_alone, simple, branch, branches, range_loop, array_loop, waits, WaitAs, one_wait, merged, BodyAs, body_as}
use Rattle.std.specs.Prelude.{ℤ}
use Rattle.headline.proofs.Means.{here_owned}
use Rattle.headline.proofs.Roles.{call_among}
use Rattle.headline.proofs.HeaderWorks.{find_call, StmtFound, find_stmt}

pub only_one : {X : Type 0} {x y : X} → x ∈ (y ∷ []) → x ≡ y
only_one h = elim (split_in h) [ inl e ↦ e | inr z ↦ elim z [ ] ]

pub alone_call : (at n : ℕ) (p : ℤ) (ps : List Part) (c : Call) → c ∈ stmt_calls (stmt at n (call_alone p ps c))
alone_call at n p ps c = call_among _ (to_right ps (Co.calls c ∷ []) first)

module _ (C : Code) (l : Layout) (I : IsCode C) where
  -- a right to a name, as an array's or a scalar's
  pub record HasRight (k up : ℕ) (what : Owned) (es : List ℕ) : Type 0 where
    pub kind : Bool
    pub number : ℕ
    pub there : In number es
    pub right : In (name_as k kind (record { up = up; what = what })) (entry C number).writes

  pub output_right : {k : ℕ} {xs : List Name} {outs : List code.Name} {x : Name} → OutputsAs C l k xs outs → x ∈ xs → (d : Bool) × In (name_as k d x) outs
  output_right no_output h = elim h [ ]
  output_right (one_output d os) first = (d, inl refl)
  output_right (one_output d os) (later h) = let r = output_right os h in (r.0, inr r.1)

  pub target_right : (k j : ℕ) (d : Bool) (x : Name) {a : Act} → (entry C j).act ≡ a → In (name_as k d x) (targets_of (entry C j).node a) → In (name_as k d x) (entry C j).writes
  target_right k j d x e h = I.stores j (name_as k d x) (subst (λ (z : Act). In (name_as k d x) (targets_of (entry C j).node z)) (sym e) h)

  pub fill_target : (k n : ℕ) (ms : List code.Need) (x : Name) (e : Expr) → In (name_as k true x) (targets_of n (fill_act l k ms x e))
  fill_target k n ms x (Co.whole y) = inl refl
  fill_target k n ms x (Co.literal y) = inl refl
  fill_target k n ms x (Co.name y) = inl refl
  fill_target k n ms x (Co.operator y es) = inl refl

  pub fill_stored : (k n : ℕ) (ms : List code.Need) (x : Name) (e : Expr) → In (name_as k true x) (stored_of n (fill_act l k ms x e))
  fill_stored k n ms x (Co.whole y) = inl refl
  fill_stored k n ms x (Co.literal y) = inl refl
  fill_stored k n ms x (Co.name y) = inl refl
  fill_stored k n ms x (Co.operator y es) = inl refl

  -- a call alone has its call's entry
  alone_right : {k at n : ℕ} {p : ℤ} {ps : List Part} {c : Call} {x : Name} {es : List ℕ} → StmtAs C l k (stmt at n (call_alone p ps c)) es → x ∈ c.outputs → HasRight k x.up x.what es
  alone_right {k} {at} {n} {p} {ps} {c} {x} sa h =
      let f = find_call C l c sa (alone_call at n p ps c) in
      let r = output_right (f.as_call).outputs h in
      record { kind = r.0; number = f.number; there = f.there; right = target_right k f.number r.0 x (f.as_call).is.act_is r.1 }

  own_right : {k at n : ℕ} {a : Action} {x : Name} {es : List ℕ} → StmtAs C l k (stmt at n a) es → IsOwnTarget x a → HasRight k x.up x.what es
  own_right declares h = elim h [ inl m ↦ elim m [ ] | inr m ↦ elim m [ ] ]
  own_right (calls_alone {n = n} as') (inl m) = alone_right {n = n} (calls_alone as') m
  own_right (calls_alone as') (inr m) = elim m [ ]
  own_right {k} {x = x} (simple j {a = assign y o} {is = is} z op as' en nd q) (inl m) =
      record { kind = false; number = j; there = subst (λ (u : List ℕ). In j u) (sym q) (in_right j is (j ∷ []) (inl refl)); right = target_right k j false x en.act_is (inl (ap (name_as k false) (only_one m))) }
  own_right (simple j {a = assign y o} z op as' en nd q) (inr m) = elim m [ ]
  own_right {k} {x = x} (simple j {a = fill y o} {is = is} z op as' en nd q) (inl m) =
      record {
        kind = true;
        number = j;
        there = subst (λ (u : List ℕ). In j u) (sym q) (in_right j is (j ∷ []) (inl refl));
        right = target_right k j true x en.act_is (subst (λ (u : Name). In (name_as k true u) (targets_of (entry C j).node (fill_act l k (own_needs l k (fill y o)) y (own_expr o)))) (sym (only_one m)) (fill_target k (entry C j).node (own_needs l k (fill y o)) y (own_expr o)));
      }
  own_right (simple j {a = fill y o} z op as' en nd q) (inr m) = elim m [ ]
  own_right (simple j {a = insert y i o} z op as' en nd q) (inl m) = elim m [ ]
  own_right {k} {x = x} (simple j {a = insert y i o} {is = is} z op as' en nd q) (inr m) =
      record { kind = true; number = j; there = subst (λ (u : List ℕ). In j u) (sym q) (in_right j is (j ∷ []) (inl refl)); right = target_right k j true x en.act_is (inl (ap (name_as k true) (only_one m))) }
  own_right (simple j {a = print p o} z op as' en nd q) h = elim h [ inl m ↦ elim m [ ] | inr m ↦ elim m [ ] ]
  own_right (simple j {a = assert p o} z op as' en nd q) h = elim h [ inl m ↦ elim m [ ] | inr m ↦ elim m [ ] ]
  own_right (simple j {a = declare v} z op as' en nd q) h = absurd z
  own_right (simple j {a = call_alone p ps c} z op as' en nd q) h = absurd z
  own_right (simple j {a = when o d} z op as' en nd q) h = absurd z
  own_right (simple j {a = choose o d e} z op as' en nd q) h = absurd z
  own_right (simple j {a = range o d e f g i} z op as' en nd q) h = absurd z
  own_right (simple j {a = each o d e f} z op as' en nd q) h = absurd z
  own_right (simple j {a = wait o d} z op as' en nd q) h = absurd z
  own_right (branch j as' en mk ba q) h = elim h [ inl m ↦ elim m [ ] | inr m ↦ elim m [ ] ]
  own_right (branches j as' en mk ba bb q) h = elim h [ inl m ↦ elim m [ ] | inr m ↦ elim m [ ] ]
  own_right (range_loop j as' en mk ba q) h = elim h [ inl m ↦ elim m [ ] | inr m ↦ elim m [ ] ]
  own_right (array_loop j en mk ba q) h = elim h [ inl m ↦ elim m [ ] | inr m ↦ elim m [ ] ]
  own_right (waits j wa en q) h = elim h [ inl m ↦ elim m [ ] | inr m ↦ elim m [ ] ]

  -- the body of a block that a header opens, and its own entry
  pub record Inner (k : ℕ) (c : Block) (es : List ℕ) : Type 0 where
    pub number : ℕ
    pub there : In number es
    pub inner_body : ℕ
    pub opens : In (Through, inner_body) (ways (entry C number).act)
    pub stands : BodyAs C l k c inner_body

  header_inner : {k at n : ℕ} {a : Action} {c : Block} {es : List ℕ} → StmtAs C l k (stmt at n a) es → c ∈ header_blocks a → Inner k c es
  header_inner declares h = elim h [ ]
  header_inner (calls_alone as') h = elim h [ ]
  header_inner (simple j {a = assign y o} z op as' en nd q) h = elim h [ ]
  header_inner (simple j {a = fill y o} z op as' en nd q) h = elim h [ ]
  header_inner (simple j {a = insert y i o} z op as' en nd q) h = elim h [ ]
  header_inner (simple j {a = print p o} z op as' en nd q) h = elim h [ ]
  header_inner (simple j {a = assert p o} z op as' en nd q) h = elim h [ ]
  header_inner (simple j {a = declare v} z op as' en nd q) h = absurd z
  header_inner (simple j {a = call_alone p ps c} z op as' en nd q) h = absurd z
  header_inner (simple j {a = when o d} z op as' en nd q) h = absurd z
  header_inner (simple j {a = choose o d e} z op as' en nd q) h = absurd z
  header_inner (simple j {a = range o d e f g i} z op as' en nd q) h = absurd z
  header_inner (simple j {a = each o d e f} z op as' en nd q) h = absurd z
  header_inner (simple j {a = wait o d} z op as' en nd q) h = absurd z
  header_inner {k} (branch {t = t} j {is = is} as' en mk ba q) h =
      record { number = j; there = subst (λ (u : List ℕ). In j u) (sym q) (in_right j is (j ∷ []) (inl refl)); inner_body = t; opens = subst (λ (z : Act). In (Through, t) (ways z)) (sym en.act_is) (inl refl); stands = subst (λ (z : Block). BodyAs C l k z t) (sym (only_one h)) ba }
  header_inner {k} {c = c} {es = es} (branches {t = t} {u = u} j {is = is} as' en mk ba bb q) h =
      elim (split_in h) [
        | inl e ↦ record { number = j; there = subst (λ (u : List ℕ). In j u) (sym q) (in_right j is (j ∷ []) (inl refl)); inner_body = t; opens = subst (λ (z : Act). In (Through, t) (ways z)) (sym en.act_is) (inl refl); stands = subst (λ (z : Block). BodyAs C l k z t) (sym e) ba }
        | inr m ↦ record { number = j; there = subst (λ (u : List ℕ). In j u) (sym q) (in_right j is (j ∷ []) (inl refl)); inner_body = u; opens = subst (λ (z : Act). In (Through, u) (ways z)) (sym en.act_is) (inr (inl refl)); stands = subst (λ (z : Block). BodyAs C l k z u) (sym (only_one m)) bb }
      ]
  header_inner {k} (range_loop {t = t} j {is = is} as' en mk ba q) h =
      record { number = j; there = subst (λ (u : List ℕ). In j u) (sym q) (in_right j is (j ∷ []) (inl refl)); inner_body = t; opens = subst (λ (z : Act). In (Through, t) (ways z)) (sym en.act_is) (inl refl); stands = subst (λ (z : Block). BodyAs C l k z t) (sym (only_one h)) ba }
  header_inner {k} (array_loop {t = t} j en mk ba q) h =
      record { number = j; there = subst (λ (u : List ℕ). In j u) (sym q) (inl refl); inner_body = t; opens = subst (λ (z : Act). In (Through, t) (ways z)) (sym en.act_is) (inl refl); stands = subst (λ (z : Block). BodyAs C l k z t) (sym (only_one h)) ba }
  header_inner (waits j wa en q) h = elim h [ ]

  -- out of a block under a key
  pub step_right : (k : ℕ) (i u : ℕ) → In (Through, u) (ways (entry C i).act) → (up : ℕ) (what : Owned) → HasRight k (suc up) what (body C u).entries → (d : Bool) × In (name_as k d (record { up = up; what = what })) (entry C i).writes
  step_right k i u wy up what r = by ((I.fits i Through u wy).writes r.number _ r.there r.right)
    where
      by : (Declared C u (name_as k r.kind (record { up = suc up; what = what })) ⊎ SeenFrom C (λ e. e.writes) i Through (name_as k r.kind (record { up = suc up; what = what }))) → (d : Bool) × In (name_as k d (record { up = up; what = what })) (entry C i).writes
      by (inl h) = (let e : suc up ≡ 0 = ap (λ (z : code.Name). z.up) h.is in absurd (omega arith))
      by (inr h) =
          let e : up ≡ h.outside.up = (let z : suc up ≡ suc h.outside.up = ap (λ (z : code.Name). z.up) h.seen in omega arith) in
          let e' : owned_as k r.kind what ≡ h.outside.owned = ap (λ (z : code.Name). z.owned) h.seen in
          (r.kind, subst (λ (z : code.Name). In z (entry C i).writes) (λ j. record { up = sym e j; owned = sym e' j }) h.right)

  -- what is no array's name in a wait's content
  abbrev pub IsArray : Owned → Type 0
  IsArray what = (n : ℕ) → what ≡ local n → l.array n ≡ true

  -- an array that the content makes is declared in it
  not_made : {k t up : ℕ} {b : Block} {what : Owned} (d : Bool) → BodyAs C l k b t → IsArray what → (Declares b what → ⊥) → Declared C t (name_as k d (record { up = up; what = what })) → ⊥
  not_made {k} {t} {up} {b} {what} d (body_as bl mk) arr undeclared h =
      let v = h.variable in
      let o = here_owned k d what v (ap (λ (z : code.Name). z.owned) h.is) in
      let a : v.array ≡ true = mk.kinds v h.made ∙ arr v.node o.0 in
      let r = mk.arrays v.node (subst (λ (z : Variable). In z (body C t).makes) (λ i. record { node = v.node; array = a i }) h.made) in
      undeclared (record { node = v.node; at = r.0; stmt_node = r.1; is = o.0; there = r.2 })

  only_stmt : {st inner : Stmt} → st ∈ block_list (stmts inner no_stmts) → st ≡ inner
  only_stmt h = elim (split_in h) [ inl e ↦ e | inr z ↦ elim z [ ] ]

  waits_own_nothing : {k t at n : ℕ} {hs : List Header} {a : Action} {x : Name} → WaitAs C l k (stmt at n a) hs t → IsOwnTarget x a → ⊥
  waits_own_nothing (one_wait ba q) h = elim h [ inl m ↦ elim m [ ] | inr m ↦ elim m [ ] ]
  waits_own_nothing (merged wa q) h = elim h [ inl m ↦ elim m [ ] | inr m ↦ elim m [ ] ]

  waits_open_nothing : {k t at n : ℕ} {hs : List Header} {a : Action} {c : Block} → WaitAs C l k (stmt at n a) hs t → c ∈ header_blocks a → ⊥
  waits_open_nothing (one_wait ba q) h = elim h [ ]
  waits_open_nothing (merged wa q) h = elim h [ ]

  pub stmt_of_body : {k t : ℕ} {b : Block} {st : Stmt} → BodyAs C l k b t → st ∈ block_list b → StmtFound C l k st (body C t).entries
  stmt_of_body (body_as bl mk) m = find_stmt C l bl m

  -- a right that stands in a wait's content, and is not declared there
  pub record Outside (k up t : ℕ) (what : Owned) : Type 0 where
    pub has : HasRight k up what (body C t).entries
    pub undeclared : Declared C t (name_as k has.kind (record { up = up; what = what })) → ⊥

  -- what is to be shown of a block's target: at a body that stands for the block, and at a wait whose content the block is
  abbrev AtBody : Block → ℕ → Owned → Type 0
  AtBody b up what = (k t : ℕ) → BodyAs C l k b t → HasRight k up what (body C t).entries

  abbrev AtWait : Block → ℕ → Owned → Type 0
  AtWait b up what = (k t at n : ℕ) (ns : List Awaited) (hs : List Header) → WaitAs C l k (stmt at n (wait ns b)) hs t → (Declares b what → ⊥) → Outside k up t what

  -- at one wait, where several are told already
  at_wait : {b : Block} {up : ℕ} {what : Owned} → IsArray what → AtBody b up what → ((k t : ℕ) (st : Stmt) (gs : List Header) → b ≡ stmts st no_stmts → WaitAs C l k st gs t → Outside k up t what) → AtWait b up what
  at_wait arr f g k t at n ns hs (one_wait ba q) undeclared = let r = f k t ba in record { has = r; undeclared = not_made r.kind ba arr undeclared }
  at_wait arr f g k t at n ns hs (merged {st = st} {gs = gs} wa q) undeclared = g k t st gs refl wa

  in_one_stmt : {b : Block} {st inner : Stmt} → b ≡ stmts inner no_stmts → st ∈ block_list b → st ≡ inner
  in_one_stmt {st = st} e h = only_stmt (subst (λ (z : Block). st ∈ block_list z) e h)

  at_stmt : {k at n up : ℕ} {ns : List Awaited} {c : Block} {what : Owned} {es : List ℕ} → StmtAs C l k (stmt at n (wait ns c)) es → AtWait c up what → (Declares c what → ⊥) → HasRight k up what es
  at_stmt (simple j z op as' en nd q) g undeclared = absurd z
  at_stmt {k} {at} {n} {up} {ns} {c} {what} (waits {t = t} j {hs = hs} wa en q) g undeclared =
      let r = g k t at n ns hs wa undeclared in
      let wy : In (InPlace, t) (ways (entry C j).act) = subst (λ (z : Act). In (InPlace, t) (ways z)) (sym en.act_is) (inl refl) in
      elim ((I.fits j InPlace t wy).writes r.has.number _ r.has.there r.has.right) [
        | inl d ↦ absurd (r.undeclared d)
        | inr sf ↦ record { kind = r.has.kind; number = j; there = subst (λ (u : List ℕ). In j u) (sym q) (inl refl); right = subst (λ (z : code.Name). In z (entry C j).writes) (sym sf.seen) sf.right }
      ]

  own_body : {b : Block} {at n up : ℕ} {what : Owned} {a : Action} → stmt at n a ∈ block_list b → IsOwnTarget (record { up = up; what = what }) a → AtBody b up what
  own_body m tg k t ba =
      let s = stmt_of_body ba m in
      let r = own_right s.as_stmt tg in
      record { kind = r.kind; number = r.number; there = s.among r.number r.there; right = r.right }

  inside_body : {b c : Block} {at n up : ℕ} {what : Owned} {a : Action} → stmt at n a ∈ block_list b → c ∈ header_blocks a → AtBody c (suc up) what → AtBody b up what
  inside_body {up = up} {what = what} m cm deeper k t ba =
      let s = stmt_of_body ba m in
      let i = header_inner s.as_stmt cm in
      let r = step_right k i.number i.inner_body i.opens up what (deeper k i.inner_body i.stands) in
      record { kind = r.0; number = i.number; there = s.among i.number i.there; right = r.1 }

  wait_body : {b c : Block} {at n up : ℕ} {what : Owned} {ns : List Awaited} → stmt at n (wait ns c) ∈ block_list b → (Declares c what → ⊥) → AtWait c up what → AtBody b up what
  wait_body m undeclared inner k t ba =
      let s = stmt_of_body ba m in
      let r = at_stmt s.as_stmt inner undeclared in
      record { kind = r.kind; number = r.number; there = s.among r.number r.there; right = r.right }

  pub both : {b : Block} {up : ℕ} {what : Owned} → Uses b up what → IsArray what → AtBody b up what × AtWait b up what
  both (own m tg) arr = (own_body m tg, at_wait arr (own_body m tg) (λ k t st gs e wa. absurd (waits_own_nothing (subst (λ (z : Stmt). WaitAs C l k z gs t) (sym (in_one_stmt e m)) wa) tg)))
  both (inside m cm us) arr =
      let r = both us arr in
      (inside_body m cm r.0, at_wait arr (inside_body m cm r.0) (λ k t st gs e wa. absurd (waits_open_nothing (subst (λ (z : Stmt). WaitAs C l k z gs t) (sym (in_one_stmt e m)) wa) cm)))
  both (in_wait {at = at} {n = n} {ns = ns} m us undeclared) arr =
      let r = both us arr in
      (wait_body m undeclared r.1, at_wait arr (wait_body m undeclared r.1) (λ k t st gs e wa. r.1 k t at n ns gs (subst (λ (z : Stmt). WaitAs C l k z gs t) (sym (in_one_stmt e m)) wa) undeclared))

  -- A TARGET HAS A RIGHT
  pub right_of : {k t up : ℕ} {b : Block} {what : Owned} → BodyAs C l k b t → Uses b up what → IsArray what → HasRight k up what (body C t).entries
  right_of {k} {t} ba us arr = (both us arr).0 k t ba
