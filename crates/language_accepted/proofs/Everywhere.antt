-- Each block of a core whose bodies are placed is placed, and what is visible in it is known.
use Rattle.std.specs.Prelude.{◌≡◌, ◌⊎◌, ℕ, suc, ◌<◌, ◌≤◌, List, [], ◌∷◌, Some, None}
use Rattle.std.proofs.Common.{inl, inr, sym, ap, ◌∙◌, subst, arith}
use Rattle.language.specs.Core.{Owned, local, input, output, Name, Stmt, stmt, Action, declare, call_alone, assign, fill, insert, print, assert, when, choose, range, each, wait, Block, Function, Core}
use Rattle.language.specs.Members.{◌∈◌, first, later}
use Rattle.language.specs.Parts.{block_list, blocks_of, blocks_below, script_blocks, script_stmts, stmt_action}
use Rattle.language.specs.Scopes.{Visible, Scope, deeper, Signature}
use Rattle.language.specs.Single.{Given, an_input, range_value, range_turn, each_value, each_key}
use Rattle.language.specs.WellFormed.{header_blocks}
use Rattle.language.proofs.Blocks.{inner_blocks, header_inner, inner_below, inner_block, of_below, below_below, among_script, main_block, function_block}
use Rattle.language.proofs.Members.{split_in}
use Rattle.language_laws.proofs.OneAssign.{function_in}
use Rattle.language.proofs.Tested.{flat_in, roles_of}
use Rattle.language_laws.proofs.TestedNames.{declared_by, all_declared}
use Rattle.language_laws.specs.Scoped.{InScope, of_script, of_function, inside, in_wait}
use Rattle.language_accepted.proofs.Placed.{Fits, IsPlain, Loops, over_range, over_each, IsRole, LoopSees, Placed, placed_end, placed_declaration, placed_plain, placed_when, placed_choose, placed_loop, placed_wait}
use Rattle.language_accepted.proofs.Placing.{deeper_of}
use Rattle.language_accepted.proofs.Standing.{Below, rises}

-- what a visible variable is, seen from a block of the script
pub data Stands (s : Core) (b : Block) (x : Owned) : Type 0 where
  an_output : (j : ℕ) → x ≡ output j → Stands s b x
  a_declared : (n : ℕ) → x ≡ local n → n ∈ all_declared s → Stands s b x
  a_given : (d : Block) → Given s x d → b ∈ blocks_of d → Stands s b x

abbrev pub Known : Core → Block → Scope → Type 0
Known s b g = (v : Visible) → v ∈ g → Stands s b v.refers_to.what

-- a function's body is placed behind its outputs and inputs
pub record IsParameter (f : Function) (x : Name) : Type 0 where
  pub near : x.up ≡ 0
  pub is : ((j : ℕ) × (x.what ≡ output j) × (j < f.outputs)) ⊎ ((i : ℕ) × (x.what ≡ input i) × (i < f.inputs))

pub record BodyPlaced (fs : List Signature) (f : Function) : Type 0 where
  pub scope : Scope
  pub from : ℕ
  pub to : ℕ
  pub placed : Placed fs f.inputs scope from f.body to
  pub parameters : (v : Visible) → v ∈ scope → IsParameter f v.refers_to

-- all bodies of a script are placed
pub record AllPlaced (fs : List Signature) (s : Core) : Type 0 where
  pub from : ℕ
  pub to : ℕ
  pub script : Placed fs 0 [] from s.body to
  pub functions : (f : Function) → f ∈ s.functions → BodyPlaced fs f

module _ (fs : List Signature) (s : Core) where
  -- a block is placed, and what is visible in it is known
  pub record BlockOk (k : ℕ) (b : Block) : Type 0 where
    pub scope : Scope
    pub from : ℕ
    pub to : ℕ
    pub placed : Placed fs k scope from b to
    pub below : Below fs k from scope
    pub known : Known s b scope

  -- what a header's block sees of its own block instance is given
  pub record HeaderOk (k : ℕ) (b : Block) : Type 0 where
    pub ok : BlockOk k b
    pub near : (v : Visible) → v ∈ ok.scope → v.refers_to.up ≡ 0 → Given s v.refers_to.what b

  pub record StmtOk (k : ℕ) (b : Block) (a : Action) : Type 0 where
    pub scope : Scope
    pub fits : Fits fs k scope a
    pub known : Known s b scope
    pub headers : (c : Block) → c ∈ header_blocks a → HeaderOk k c
    pub inner : (c : Block) → c ∈ inner_blocks a → BlockOk k c

  module _ (k : ℕ) where
    below_more : {g : Scope} (n m : ℕ) → n ≤ m → Below fs k n g → Below fs k m g
    below_more n m l h v o i e = let r = h v o i e in omega arith

    below_deeper : (g : Scope) (n : ℕ) → Below fs k n g → Below fs k n (deeper g)
    below_deeper g n h v o i e = let r = deeper_of g v i in h r.0 o r.1 (ap (λ (z : Name). z.what) (sym r.2) ∙ e)

    stands_in : (w d : Block) {x : Owned} → d ∈ blocks_below w → Stands s w x → Stands s d x
    stands_in w d m (an_output j e) = an_output j e
    stands_in w d m (a_declared n e i) = a_declared n e i
    stands_in w d m (a_given o g i) = a_given o g (of_below o (λ z. below_below o z m) i m)

    known_in : (w d : Block) {g : Scope} → d ∈ blocks_below w → Known s w g → Known s d g
    known_in w d m h v i = stands_in w d m (h v i)

    known_deeper : (w d : Block) (g : Scope) → d ∈ blocks_below w → Known s w g → Known s d (deeper g)
    known_deeper w d g m h v i = let r = deeper_of g v i in subst (λ (z : Name). Stands s d z.what) (sym r.2) (stands_in w d m (h r.0 r.1))

    deeper_far : {A : Type 0} (g : Scope) (v : Visible) → v ∈ deeper g → v.refers_to.up ≡ 0 → A
    deeper_far g v i e = let r = deeper_of g v i in let q : suc r.0.refers_to.up ≡ 0 = ap (λ (z : Name). z.up) (sym r.2) ∙ e in absurd (omega arith)

    role_given : {at n r : ℕ} {a : Action} {d : Block} → stmt at n a ∈ script_stmts s → Loops a d → r ∈ roles_of a → Given s (local r) d
    role_given {r = r} i (over_range {v = v} {t = None} {b = b}) m = elim (split_in m) [ inl e ↦ subst (λ (z : ℕ). Given s (local z) b) (sym e) (range_value i) | inr j ↦ elim j [ ] ]
    role_given {r = r} i (over_range {v = v} {t = Some t} {b = b}) m = elim (split_in m) [
      | inl e ↦ subst (λ (z : ℕ). Given s (local z) b) (sym e) (range_value i)
      | inr j ↦ elim (split_in j) [ inl e ↦ subst (λ (z : ℕ). Given s (local z) b) (sym e) (range_turn i) | inr l ↦ elim l [ ] ]
    ]
    role_given {r = r} i (over_each {v = v} {t = None} {b = b}) m = elim (split_in m) [ inl e ↦ subst (λ (z : ℕ). Given s (local z) b) (sym e) (each_value i) | inr j ↦ elim j [ ] ]
    role_given {r = r} i (over_each {v = v} {t = Some t} {b = b}) m = elim (split_in m) [
      | inl e ↦ subst (λ (z : ℕ). Given s (local z) b) (sym e) (each_value i)
      | inr j ↦ elim (split_in j) [ inl e ↦ subst (λ (z : ℕ). Given s (local z) b) (sym e) (each_key i) | inr l ↦ elim l [ ] ]
    ]

    loop_inner : {a : Action} {d : Block} → Loops a d → d ∈ inner_blocks a
    loop_inner over_range = first
    loop_inner over_each = first

    loop_only : {a : Action} {d c : Block} → Loops a d → c ∈ inner_blocks a → c ≡ d
    loop_only over_range m = elim (split_in m) [ inl e ↦ e | inr j ↦ elim j [ ] ]
    loop_only over_each m = elim (split_in m) [ inl e ↦ e | inr j ↦ elim j [ ] ]

    plain_none : (a : Action) {c : Block} {A : Type 0} → IsPlain a → c ∈ inner_blocks a → A
    plain_none (declare v) h m = absurd h
    plain_none (call_alone p ps c) h m = elim m [ ]
    plain_none (assign x e) h m = elim m [ ]
    plain_none (fill a e) h m = elim m [ ]
    plain_none (insert a j e) h m = elim m [ ]
    plain_none (print p e) h m = elim m [ ]
    plain_none (assert p e) h m = elim m [ ]
    plain_none (when c b) h m = absurd h
    plain_none (choose c b d) h m = absurd h
    plain_none (range lo hi st v t b) h m = absurd h
    plain_none (each a v t b) h m = absurd h
    plain_none (wait ns b) h m = absurd h

    -- a header's block that sees what is seen round it
    deeper_ok : (w d : Block) (g : Scope) (m l : ℕ) → d ∈ blocks_below w → Below fs k m g → Known s w g → Placed fs k (deeper g) m d l → HeaderOk k d
    deeper_ok w d g m l i below known p = record {
      ok = record { scope = deeper g; from = m; to = l; placed = p; below = below_deeper g m below; known = known_deeper w d g i known };
      near = λ v j e. deeper_far g v j e;
    }

    loop_ok : (w d : Block) (at n : ℕ) (a : Action) (g h : Scope) (m l : ℕ) → stmt at n a ∈ script_stmts s → d ∈ blocks_below w → Loops a d → LoopSees g a m h → Below fs k m g → Known s w g
        → Placed fs k h m d l → HeaderOk k d
    loop_ok w d at n a g h m l st i loops sees below known p = record {
      ok = record {
        scope = h;
        from = m;
        to = l;
        placed = p;
        below = λ v o j e. elim (sees v j) [
          | inl q ↦ below_deeper g m below v o q e
          | inr r ↦ (let same : r.node ≡ o = local_same (ap (λ (z : Name). z.what) (sym r.is) ∙ e) in let u = r.less in omega arith)
        ];
        known = λ v j. elim (sees v j) [
          | inl q ↦ known_deeper w d g i known v q
          | inr r ↦ a_given d (given v r) first
        ];
      };
      near = λ v j e. elim (sees v j) [ inl q ↦ deeper_far g v q e | inr r ↦ given v r ];
    }
      where
        local_same : {m n : ℕ} → local m ≡ local n → m ≡ n
        local_same h = cc

        given : (v : Visible) → IsRole a m v → Given s v.refers_to.what d
        given v r = subst (λ (z : Name). Given s z.what d) (sym r.is) (role_given st loops r.role)

    module _ (w : Block) (there : w ∈ script_blocks s) where
      -- each statement of a placed block, with the blocks inside it
      pub stmt_ok : {g : Scope} {from to : ℕ} {b : Block} → Placed fs k g from b to → Below fs k from g → Known s w g → ((st : Stmt) → st ∈ block_list b → st ∈ block_list w)
          → (st : Stmt) → st ∈ block_list b → StmtOk k w (stmt_action st)
      stmt_ok (placed_end e) below known f st m = elim m [ ]
      stmt_ok {g} (placed_declaration {v = v} {at = at} {n = n} {w = u} {b = b} t e l p) below known f st m =
          let more : Known s w (u ∷ g) = λ x i. elim (split_in i) [
            | inl q ↦ a_declared v (ap (λ (z : Visible). z.refers_to.what) q ∙ ap (λ (z : Name). z.what) e) (flat_in declared_by (script_stmts s) (among_script s there (f (stmt at n (declare v)) first)) first)
            | inr j ↦ known x j
          ] in
          let lower : Below fs k (suc v) (u ∷ g) = λ x o i q. elim (split_in i) [
            | inl r ↦ (let same : v ≡ o = local_same (sym (ap (λ (z : Visible). z.refers_to.what) r ∙ ap (λ (z : Name). z.what) e) ∙ q) in omega arith)
            | inr j ↦ (let r = below x o j q in omega arith)
          ] in
          elim (split_in m) [
            | inl q ↦ subst (λ (z : Stmt). StmtOk k w (stmt_action z)) (sym q) (record { scope = g; fits = t; known = known; headers = λ c i. elim i [ ]; inner = λ c i. elim i [ ] })
            | inr i ↦ stmt_ok p lower more (λ st j. f st (later j)) st i
          ]
        where
          local_same : {m n : ℕ} → local m ≡ local n → m ≡ n
          local_same h = cc
      stmt_ok {g} {from} (placed_plain {m = j} {at = at} {n = n} {a = a} {b = b} h t l p) below known f st m =
          elim (split_in m) [
            | inl q ↦ subst (λ (z : Stmt). StmtOk k w (stmt_action z)) (sym q) (record { scope = g; fits = t; known = known; headers = λ c i. plain_none a h (header_inner a i); inner = λ c i. plain_none a h i })
            | inr i ↦ stmt_ok p (below_more from j l below) known (λ st j. f st (later j)) st i
          ]
      stmt_ok {g} {from} (placed_when {m = m} {l = l} {j = j} {at = at} {n = n} {c = c} {d = d} {b = b} t e p o r) below known f st i =
          let u = rises fs k p in
          let one = deeper_ok w d g m l (inner_below w (f (stmt at n (when c d)) first) first) (below_more from m e below) known p in
          elim (split_in i) [
            | inl q ↦ subst (λ (z : Stmt). StmtOk k w (stmt_action z)) (sym q) (record {
              scope = g;
              fits = t;
              known = known;
              headers = λ z y. elim (split_in y) [ inl x ↦ subst (HeaderOk k) (sym x) one | inr x ↦ elim x [ ] ];
              inner = λ z y. elim (split_in y) [ inl x ↦ subst (BlockOk k) (sym x) one.ok | inr x ↦ elim x [ ] ];
            })
            | inr y ↦ stmt_ok r (below_more from j (omega arith) below) known (λ st x. f st (later x)) st y
          ]
      stmt_ok {g} {from} (placed_choose {m = m} {l = l} {i = h} {j = j} {at = at} {n = n} {c = c} {d = d} {e = e} {b = b} t a p o v r) below known f st i =
          let u = rises fs k p in
          let x = rises fs k o in
          let one = deeper_ok w d g m l (inner_below w (f (stmt at n (choose c d e)) first) first) (below_more from m a below) known p in
          let two = deeper_ok w e g l h (inner_below w (f (stmt at n (choose c d e)) first) (later first)) (below_more from l (omega arith) below) known o in
          elim (split_in i) [
            | inl q ↦ subst (λ (z : Stmt). StmtOk k w (stmt_action z)) (sym q) (record {
              scope = g;
              fits = t;
              known = known;
              headers = λ z y. elim (split_in y) [
                | inl x ↦ subst (HeaderOk k) (sym x) one
                | inr x ↦ elim (split_in x) [ inl s ↦ subst (HeaderOk k) (sym s) two | inr s ↦ elim s [ ] ]
              ];
              inner = λ z y. elim (split_in y) [
                | inl x ↦ subst (BlockOk k) (sym x) one.ok
                | inr x ↦ elim (split_in x) [ inl s ↦ subst (BlockOk k) (sym s) two.ok | inr s ↦ elim s [ ] ]
              ];
            })
            | inr y ↦ stmt_ok r (below_more from j (omega arith) below) known (λ st x. f st (later x)) st y
          ]
      stmt_ok {g} {from} (placed_loop {h = h} {m = m} {l = l} {j = j} {at = at} {n = n} {a = a} {d = d} {b = b} loops t sees e p o r) below known f st i =
          let u = rises fs k p in
          let i0 = f (stmt at n a) first in
          let one = loop_ok w d at n a g h m l (among_script s there i0) (inner_below w i0 (loop_inner loops)) loops sees (below_more from m e below) known p in
          elim (split_in i) [
            | inl q ↦ subst (λ (z : Stmt). StmtOk k w (stmt_action z)) (sym q) (record {
              scope = g;
              fits = t;
              known = known;
              headers = λ z y. subst (HeaderOk k) (sym (loop_only loops (header_inner a y))) one;
              inner = λ z y. subst (BlockOk k) (sym (loop_only loops y)) one.ok;
            })
            | inr y ↦ stmt_ok r (below_more from j (omega arith) below) known (λ st x. f st (later x)) st y
          ]
      stmt_ok {g} {from} (placed_wait {m = m} {l = l} {j = j} {at = at} {n = n} {ns = ns} {d = d} {b = b} t e p o r) below known f st i =
          let u = rises fs k p in
          let i0 = inner_below w (f (stmt at n (wait ns d)) first) first in
          let one : BlockOk k d = record { scope = g; from = m; to = l; placed = p; below = below_more from m e below; known = known_in w d i0 known } in
          elim (split_in i) [
            | inl q ↦ subst (λ (z : Stmt). StmtOk k w (stmt_action z)) (sym q) (record {
              scope = g;
              fits = t;
              known = known;
              headers = λ z y. elim y [ ];
              inner = λ z y. elim (split_in y) [ inl x ↦ subst (BlockOk k) (sym x) one | inr x ↦ elim x [ ] ];
            })
            | inr y ↦ stmt_ok r (below_more from j (omega arith) below) known (λ st x. f st (later x)) st y
          ]

  -- EVERY BLOCK

  pub in_script : {k : ℕ} {b : Block} → InScope s k b → b ∈ script_blocks s
  in_script of_script = main_block s
  in_script (of_function i {f = f} e) = function_block s i f e
  in_script (inside {a = a} h i m) = inner_block s (in_script h) i (header_inner a m)
  in_script (in_wait h i) = inner_block s (in_script h) i first

  pub stmt_of_ok : {k : ℕ} {b : Block} → InScope s k b → BlockOk k b → (st : Stmt) → st ∈ block_list b → StmtOk k b (stmt_action st)
  stmt_of_ok {k} {b} h o st i = stmt_ok k b (in_script h) o.placed o.below o.known (λ st j. j) st i

  module _ (all : AllPlaced fs s) where
    function_known : {f : Function} → f ∈ s.functions → (x : Name) → IsParameter f x → Stands s f.body x.what
    function_known {f} m x p = elim p.is [
      | inl r ↦ an_output r.0 r.1
      | inr r ↦ a_given f.body (subst (λ (z : Owned). Given s z f.body) (sym r.1) (an_input m r.2)) first
    ]

    function_below : (f : Function) (n o : ℕ) (x : Name) → IsParameter f x → x.what ≡ local o → o < n
    function_below f n o x p e = elim p.is [ inl r ↦ absurd (no_output r.0 (sym r.1 ∙ e)) | inr r ↦ absurd (no_input r.0 (sym r.1 ∙ e)) ]
      where
        no_output : (j : ℕ) → output j ≡ local o → ⊥
        no_output j q = cc

        no_input : (j : ℕ) → input j ≡ local o → ⊥
        no_input j q = cc

    pub block_ok : {k : ℕ} {b : Block} → InScope s k b → BlockOk k b
    block_ok of_script = record { scope = []; from = all.from; to = all.to; placed = all.script; below = λ v m i e. elim i [ ]; known = λ v i. elim i [ ] }
    block_ok (of_function i {f = f} e) =
        let m = function_in s.functions i f e in
        let b = all.functions f m in
        record {
          scope = b.scope;
          from = b.from;
          to = b.to;
          placed = b.placed;
          below = λ v o j q. function_below f b.from o v.refers_to (b.parameters v j) q;
          known = λ v j. function_known m v.refers_to (b.parameters v j);
        }
    block_ok (inside {c = c} {at = at} {n = n} {a = a} h i m) = (stmt_of_ok h (block_ok h) (stmt at n a) i).inner c (header_inner a m)
    block_ok (in_wait {c = c} {at = at} {n = n} {ns = ns} h i) = (stmt_of_ok h (block_ok h) (stmt at n (wait ns c)) i).inner c first

    pub each_stmt_ok : {k : ℕ} {b : Block} → InScope s k b → (st : Stmt) → st ∈ block_list b → StmtOk k b (stmt_action st)
    each_stmt_ok h st i = stmt_of_ok h (block_ok h) st i
