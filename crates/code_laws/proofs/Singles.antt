-- A scalar has one assigner in laid code of a singly assigned script, and a loop writes no scalar from outside.
use Rattle.std.proofs.Common.{◌≡◌, ◌⊎◌, inl, inr, ℕ, ◌+◌, ◌≤◌, ℤ, Bool, true, false, List, [], ◌∷◌, ◌++◌, refl, sym, ap, subst, Some, arith}
use Rattle.dataflow.specs.System.{In}
use Rattle.dataflow.proofs.Lists.{in_split}
use Rattle.language.specs.Core as Co
use Rattle.language.specs.Core.{Owned, local, output, Name, Cell, Call, Part, inner, calls, Outer, Awaited, Stmt, stmt, Action, declare, call_alone, assign, fill, insert, print, assert, when, choose, range, each, wait, Block, no_stmts, stmts, Core}
use Rattle.language.specs.Members.{◌∈◌, first, later}
use Rattle.language.specs.Parts.{block_list, by_name}
use Rattle.language.specs.Single.{SinglyAssigned, IsSimple, IsNamed, Way, way_on, StmtWay, simple, of_range, of_each}
use Rattle.language.proofs.Blocks.{inner_blocks, inner_below}
use Rattle.language.proofs.Members.{split_in}
use Rattle.language_laws.proofs.OneAssign.{outwards}
use Rattle.language_laws.proofs.Ways.{times_of, times_in, block_way, some_stmt_way, inside_way, in_when, in_then, in_else, in_content, reach_way, reach_within}
use Rattle.task_code.specs.Code as code
use Rattle.task_code.specs.Code.{Variable, Loop, Act, Calling, Through, InPlace, Code, entry, body, ways, scalar, is_array_name, loop_of, call_at}
use Rattle.code_rules.specs.IsCodeOf.{Layout, PartAs, plain_literal, plain_name, a_cell, a_read, a_call, own_needs, simple_act, own_expr, fill_act}
use Rattle.code_rules.specs.IsCodeOf as of
use Rattle.code_rules.specs.Laid.{Table, StmtLaid, declares_laid, call_laid, simple_laid, branch_laid, branches_laid, range_laid, each_laid, wait_laid, StmtsLaid, none_laid, one_laid}
use Rattle.code_rules.specs.NodesOnce.{TellsNode}
use Rattle.code_laws.proofs.Roles.{PartOf, OwnOf, own_simple, own_branch, own_branches, own_range, own_each, own_wait, Role, part_role, role_of, stmt_of}
use Rattle.code_laws.proofs.Bases.{Assigns, names, further_in}
use Rattle.code_laws.proofs.Owners.{OwnerOf, owned, unnamed, owner_inner, Round}
use Rattle.code_laws.proofs.Aims.{alone, named_of}

pub only_in : {X : Type 0} {x y : X} → x ∈ (y ∷ []) → x ≡ y
only_in m = elim (split_in m) [ inl e ↦ e | inr i ↦ elim i [ ] ]

only : {X : Type 0} {x y : X} → In x (y ∷ []) → x ≡ y
only (inl e) = e
only (inr z) = absurd z

action_same : {at n at' n' : ℕ} {a a' : Action} → stmt at n a ≡ stmt at' n' a' → a ≡ a'
action_same h = cc

is_simple : (a : Action) {x : Name} → x ∈ by_name a → IsSimple a
is_simple (declare v) m = tt
is_simple (call_alone p ps c) m = tt
is_simple (assign x e) m = tt
is_simple (fill a e) m = tt
is_simple (insert a k e) m = tt
is_simple (print p e) m = tt
is_simple (assert p e) m = tt
is_simple (when e b) m = elim m [ ]
is_simple (choose e b d) m = elim m [ ]
is_simple (range lo hi st v t b) m = elim m [ ]
is_simple (each a v t b) m = elim m [ ]
is_simple (wait ns b) m = elim m [ ]

-- WAYS

-- some way counts it
abbrev pub Counted : Owned → Block → Type 0
Counted w b = (n : ℕ) × Way w b n × (1 ≤ n)

abbrev pub CountedIn : Owned → Stmt → Type 0
CountedIn w st = (n : ℕ) × StmtWay w st n × (1 ≤ n)

module _ (s : Core) (single : SinglyAssigned s) where
  -- what a block in a statement assigns is counted, where the owner is known
  inner_way : {at n : ℕ} {w : Owned} {b c : Block} (a : Action) → stmt at n a ∈ block_list b → c ∈ inner_blocks a → OwnerOf s single b w → IsNamed w c → (OwnerOf s single c w → Counted w c) → CountedIn w (stmt at n a)
  inner_way (when x b) m first o d rec = let r = rec (owner_inner s single (when x b) m first o) in (r.0, inside_way in_when r.1, r.2)
  inner_way (choose x b e) m first o d rec = let r = rec (owner_inner s single (choose x b e) m first o) in (r.0, inside_way in_then r.1, r.2)
  inner_way (choose x b e) m (later first) o d rec = let r = rec (owner_inner s single (choose x b e) m (later first) o) in (r.0, inside_way in_else r.1, r.2)
  inner_way (wait ns b) m first o d rec = let r = rec (owner_inner s single (wait ns b) m first o) in (r.0, inside_way in_content r.1, r.2)
  inner_way (range lo hi st v k b) m first (unnamed z) d rec = absurd (z (outwards _ (inner_below _ m first) d))
  inner_way {w = w} (range lo hi st v k b) m first (owned o ow r) d rec = absurd (single.outside_loops w o b (inl ow) (of_range (reach_within r m)) d)
  inner_way (each y v k b) m first (unnamed z) d rec = absurd (z (outwards _ (inner_below _ m first) d))
  inner_way {w = w} (each y v k b) m first (owned o ow r) d rec = absurd (single.outside_loops w o b (inl ow) (of_each (reach_within r m)) d)
  inner_way (when x b) m (later h) o d rec = elim h [ ]
  inner_way (choose x b e) m (later (later h)) o d rec = elim h [ ]
  inner_way (wait ns b) m (later h) o d rec = elim h [ ]
  inner_way (range lo hi st v k b) m (later h) o d rec = elim h [ ]
  inner_way (each y v k b) m (later h) o d rec = elim h [ ]
  inner_way (declare v) m h o d rec = elim h [ ]
  inner_way (call_alone p ps c) m h o d rec = elim h [ ]
  inner_way (assign x e) m h o d rec = elim h [ ]
  inner_way (fill x e) m h o d rec = elim h [ ]
  inner_way (insert x k e) m h o d rec = elim h [ ]
  inner_way (print p e) m h o d rec = elim h [ ]
  inner_way (assert p e) m h o d rec = elim h [ ]

  own_way : {at n : ℕ} (w : Owned) (a : Action) (x : Name) → x ∈ by_name a → x.what ≡ w → CountedIn w (stmt at n a)
  own_way w a x i e = let q = times_of w (by_name a) in (q.0, simple (is_simple a i) q.1, times_in q.1 i e)

  through_block : {w : Owned} {b : Block} {st : Stmt} → st ∈ block_list b → CountedIn w st → Counted w b
  through_block {w} {b} m r = let q = block_way w b m r.1 in let l = q.2 in let k = r.2 in (q.0, q.1, omega arith)

  named_way : {w : Owned} {b : Block} → Assigns false b w → OwnerOf s single b w → Counted w b
  named_way {w} (names d {a = a} {x = x} m i e) o = through_block m (own_way w a x i e)
  named_way (further_in d {a = a} m i h) o = through_block m (inner_way a m i o (named_of h) (λ p. named_way h p))

  -- what a statement assigns is counted
  pub stmt_way : {at n : ℕ} {w : Owned} {b : Block} (a : Action) → stmt at n a ∈ block_list b → OwnerOf s single b w → Assigns false (alone (stmt at n a)) w → CountedIn w (stmt at n a)
  stmt_way {at} {n} {w} a m o (names d {a = a'} {x = x} m' i e) = own_way w a x (subst (λ (z : Action). x ∈ by_name z) (action_same (only_in m')) i) e
  stmt_way {at} {n} {w} a m o (further_in d {c = c} {a = a'} m' i h) = inner_way a m (subst (λ (z : Action). c ∈ inner_blocks z) (action_same (only_in m')) i) o (named_of h) (λ p. named_way h p)

  -- two statements of a block that assign it count twice, which no way does
  pub no_two : {A : Type 0} {w : Owned} {b : Block} → Round s single b w → (n : ℕ) → Way w b n → 2 ≤ n → A
  no_two {w = w} r n y two =
      let q = reach_way r.reach y in
      let few = single.once w r.owner q.0 r.owns q.1 in
      let l = q.2 in
      absurd (omega arith)

-- STATEMENTS OF TWO ENTRIES

module _ (C : Code) (l : Layout) (T : Table) where
  pub record Together (k : ℕ) (b : Block) (j j' : ℕ) : Type 0 where
    pub st : Stmt
    pub there : st ∈ block_list b
    pub numbers : List ℕ
    pub variables : List Variable
    pub laid : StmtLaid C l T k st numbers variables
    pub one : In j numbers
    pub other : In j' numbers

  pub record Apart (k : ℕ) (b : Block) (j j' : ℕ) : Type 0 where
    pub st : Stmt
    pub st' : Stmt
    pub there : st ∈ block_list b
    pub there' : st' ∈ block_list b
    pub role : Role C l T k st j
    pub role' : Role C l T k st' j'
    pub two : (w : Owned) (m m' : ℕ) → StmtWay w st m → StmtWay w st' m' → (n : ℕ) × Way w b n × (m + m' ≤ n)

  pub positions : {k : ℕ} (b : Block) {es : List ℕ} {own : List Variable} (j j' : ℕ) → StmtsLaid C l T k (block_list b) es own → In j es → In j' es → Together k b j j' ⊎ Apart k b j j'
  positions no_stmts j j' none_laid h h' = absurd h
  positions {k} (stmts st b) j j' (one_laid {is = is} {js = js} {vs = vs} one rest q r) h h' =
      by (in_split j is js (subst (λ (z : List ℕ). In j z) q h)) (in_split j' is js (subst (λ (z : List ℕ). In j' z) q h')) (λ i i'. positions b j j' rest i i')
    where
      by : (In j is ⊎ In j js) → (In j' is ⊎ In j' js) → (In j js → In j' js → Together k b j j' ⊎ Apart k b j j') → Together k (stmts st b) j j' ⊎ Apart k (stmts st b) j j'
      by (inl i) (inl i') rec = inl (record { st = st; there = first; numbers = is; variables = vs; laid = one; one = i; other = i' })
      by (inl i) (inr i') rec =
          let o = stmt_of C l T rest i' in
          inr (record {
            st = st;
            st' = o.st;
            there = first;
            there' = later o.there;
            role = role_of C l T one i;
            role' = role_of C l T o.laid o.among;
            two = λ w m m' x y. (let v = block_way w b o.there y in let e = v.2 in (m + v.0, way_on x v.1 refl, omega arith));
          })
      by (inr i) (inl i') rec =
          let o = stmt_of C l T rest i in
          inr (record {
            st = o.st;
            st' = st;
            there = later o.there;
            there' = first;
            role = role_of C l T o.laid o.among;
            role' = role_of C l T one i';
            two = λ w m m' x y. (let v = block_way w b o.there x in let e = v.2 in (m' + v.0, way_on y v.1 refl, omega arith));
          })
      by (inr i) (inr i') rec = elim (rec i i') [
        | inl t ↦ inl (record { st = t.st; there = later t.there; numbers = t.numbers; variables = t.variables; laid = t.laid; one = t.one; other = t.other })
        | inr t ↦ inr (record {
          st = t.st;
          st' = t.st';
          there = later t.there;
          there' = later t.there';
          role = t.role;
          role' = t.role';
          two = λ w m m' x y. (let v = t.two w m m' x y in let u = some_stmt_way w st in let e = v.2 in (u.0 + v.0, way_on u.1 v.1 refl, omega arith));
        })
      ]

  -- WHAT PARTS DO, STATEMENTS DO NOT
  abbrev is_part : Act → Bool
  is_part (code.Cell e) = true
  is_part code.Read = true
  is_part (code.Call b is os) = true
  is_part _ = false

  part_act : {k at : ℕ} {p : ℤ} {all : List Part} {x : Part} {js : List ℕ} (i : ℕ) → PartAs C l k all at p x js → In i js → is_part (entry C i).act ≡ true
  part_act i (plain_literal z) h = absurd h
  part_act i (plain_name z) h = absurd h
  part_act i (a_cell {j = j} z q en) h = subst (λ (y : ℕ). is_part (entry C y).act ≡ true) (sym (only h)) (subst (λ (y : Act). is_part y ≡ true) (sym en.act_is) refl)
  part_act i (a_read {j = j} z q ix en) h = subst (λ (y : ℕ). is_part (entry C y).act ≡ true) (sym (only h)) (subst (λ (y : Act). is_part y ≡ true) (sym en.act_is) refl)
  part_act i (a_call {j = j} ca) h = subst (λ (y : ℕ). is_part (entry C y).act ≡ true) (sym (only h)) (subst (λ (y : Act). is_part y ≡ true) (sym (ca.is).act_is) refl)

  fill_own : (k : ℕ) (ms : List code.Need) (x : Name) (e : Co.Expr) → is_part (fill_act l k ms x e) ≡ false
  fill_own k ms x (Co.whole b) = refl
  fill_own k ms x (Co.literal v) = refl
  fill_own k ms x (Co.name z) = refl
  fill_own k ms x (Co.operator o es) = refl

  simple_own : (k : ℕ) (a : Action) → of.IsSimple a → is_part (simple_act l k (own_needs l k a) a) ≡ false
  simple_own k (assign x o) z = refl
  simple_own k (fill x o) z = fill_own k _ x (own_expr o)
  simple_own k (insert x i o) z = refl
  simple_own k (print p o) z = refl
  simple_own k (assert p o) z = refl
  simple_own k (declare v) z = absurd z
  simple_own k (call_alone p ps c) z = absurd z
  simple_own k (when c b) z = absurd z
  simple_own k (choose c b d) z = absurd z
  simple_own k (range lo hi st v t b) z = absurd z
  simple_own k (each a v t b) z = absurd z
  simple_own k (wait ns b) z = absurd z

  own_act : {k : ℕ} {st : Stmt} {j : ℕ} → OwnOf C l T k st j → is_part (entry C j).act ≡ false
  own_act {k} (own_simple {a = a} z e q) = subst (λ (y : Act). is_part y ≡ false) (sym e.act_is) (simple_own k a z)
  own_act (own_branch e m s) = subst (λ (y : Act). is_part y ≡ false) (sym e.act_is) refl
  own_act (own_branches e m s u) = subst (λ (y : Act). is_part y ≡ false) (sym e.act_is) refl
  own_act (own_range e m s) = subst (λ (y : Act). is_part y ≡ false) (sym e.act_is) refl
  own_act (own_each e m s) = subst (λ (y : Act). is_part y ≡ false) (sym e.act_is) refl
  own_act (own_wait w e s) = subst (λ (y : Act). is_part y ≡ false) (sym e.act_is) refl

  part_own : {A : Type 0} {k : ℕ} {st st' : Stmt} {j : ℕ} → PartOf C l T k st j → OwnOf C l T k st' j → A
  part_own {j = j} p o = absurd (let a = part_act j p.as_part p.among in let b = own_act o in cc (a, b))

  last_of : {k : ℕ} {st : Stmt} {j i : ℕ} {es : List ℕ} (is : List ℕ) → es ≡ is ++ i ∷ [] → In j es → (In j is → PartOf C l T k st j) → OwnOf C l T k st j → j ≡ i
  last_of {j = j} {i = i} is q h f o = elim (in_split j is (i ∷ []) (subst (λ (z : List ℕ). In j z) q h)) [ inl m ↦ part_own (f m) o | inr m ↦ only m ]

  -- a statement has one entry of its own
  pub own_once : {k : ℕ} {st : Stmt} {es : List ℕ} {vs : List Variable} → StmtLaid C l T k st es vs → (i : ℕ) × ((j : ℕ) → In j es → OwnOf C l T k st j → j ≡ i)
  own_once (declares_laid b) = (0, λ j h o. absurd h)
  own_once (call_laid {n = n} {p = p} {ps = ps} {c = c} as') = (0, λ j h o. part_own (part_role C l T n (call_alone p ps c) as' h (λ x m. m)) o)
  own_once (simple_laid {n = n} i {a = a} {is = is} z as' e q r) = (i, λ j h o. last_of is r h (λ m. part_role C l T n a as' m (λ x y. y)) o)
  own_once (branch_laid {n = n} i {c = c} {b = b} {is = is} as' e m s r) = (i, λ j h o. last_of is r h (λ y. part_role C l T n (when c b) as' y (λ x z. z)) o)
  own_once (branches_laid {n = n} i {c = c} {b = b} {d = d} {is = is} as' e m s u r) = (i, λ j h o. last_of is r h (λ y. part_role C l T n (choose c b d) as' y (λ x z. z)) o)
  own_once (range_laid {n = n} {x = x} i {lo = lo} {hi = hi} {st = st} {y = y} {b = b} {is = is} as' e m s r) = (i, λ j h o. last_of is r h (λ w. part_role C l T n (range lo hi st x y b) as' w (λ v z. z)) o)
  own_once (each_laid i e m s r) = (i, λ j h o. last_of [] r h (λ z. absurd z) o)
  own_once (wait_laid i w e s r) = (i, λ j h o. last_of [] r h (λ z. absurd z) o)

-- LOOPS
pub loop_tells : {A : Type 0} (a : Act) (w : Loop) → loop_of a ≡ Some w → TellsNode a → A
loop_tells (code.Cell e) w h z = absurd (cc (h))
loop_tells code.Read w h z = absurd (cc (h))
loop_tells (code.Call b is os) w h z = absurd z
loop_tells (code.Set r e) w h z = absurd (cc (h))
loop_tells (code.Fill r es) w h z = absurd (cc (h))
loop_tells (code.Copy r) w h z = absurd (cc (h))
loop_tells (code.InsertElement r i e) w h z = absurd (cc (h))
loop_tells (code.Print e) w h z = absurd (cc (h))
loop_tells (code.Assert e) w h z = absurd (cc (h))
loop_tells (code.If e b d) w h z = absurd z
loop_tells (code.Range x h' s v) w h z = absurd z
loop_tells (code.Each v) w h z = absurd z
loop_tells (code.Wait hs b) w h z = absurd z

way_is : {v w : code.Way} {b c : ℕ} → ◌≡◌ {A = code.Way × ℕ} (v, b) (w, c) → v ≡ w
way_is e = ap (λ (z : code.Way × ℕ). z.0) e

pub loop_calls : {A : Type 0} (a : Act) (w : Loop) (b : ℕ) → loop_of a ≡ Some w → In {X = code.Way × ℕ} (Calling, b) (ways a) → A
loop_calls (code.Range x h' s v) w b h (inl e) = absurd (let q = way_is e in cc (q))
loop_calls (code.Range x h' s v) w b h (inr z) = absurd z
loop_calls (code.Each v) w b h (inl e) = absurd (let q = way_is e in cc (q))
loop_calls (code.Each v) w b h (inr z) = absurd z
loop_calls (code.Cell e) w b h i = absurd (cc (h))
loop_calls code.Read w b h i = absurd (cc (h))
loop_calls (code.Call c is os) w b h i = absurd (cc (h))
loop_calls (code.Set r e) w b h i = absurd (cc (h))
loop_calls (code.Fill r es) w b h i = absurd (cc (h))
loop_calls (code.Copy r) w b h i = absurd (cc (h))
loop_calls (code.InsertElement r j e) w b h i = absurd (cc (h))
loop_calls (code.Print e) w b h i = absurd (cc (h))
loop_calls (code.Assert e) w b h i = absurd (cc (h))
loop_calls (code.If e c d) w b h i = absurd (cc (h))
loop_calls (code.Wait hs c) w b h i = absurd (cc (h))
