-- What the entries of laid code weigh, for any weights: no more than what the parts and statements of the core weigh.
use Rattle.std.proofs.Common.{◌≡◌, ℕ, suc, ◌+◌, ◌≤◌, Bool, List, [], ◌∷◌, ◌++◌, map, length, refl, sym, ap, ◌∙◌, subst, arith, None}
use Rattle.std.specs.Prelude.{ℤ}
use Rattle.language.specs.Core.{Part, Stmt, stmt, Action, call_alone, when, choose, range, each, wait, Block, Function, Core}
use Rattle.language.specs.Members.{◌∈◌, first, later}
use Rattle.language.specs.Parts.{parts, block_list, blocks_below, blocks_of, function_blocks, script_blocks, stmts_among, script_stmts}
use Rattle.language.proofs.Blocks.{inner_block, among_script}
use Rattle.language.proofs.Members.{to_right}
use Rattle.language_laws.specs.TypedValues.{own_parts}
use Rattle.task_code.specs.Code.{Act, If, Range, Each, Wait, Entry, Code, entry, blank_entry, nth}
use Rattle.code_rules.specs.IsCodeOf.{Layout, IsSimple, own_needs, simple_act, PartAs, PartsAs, no_part, one_part}
use Rattle.code_rules.specs.Laying.{Kinds, Laying, code_of, PlainAs, Suits, IndexesStand, bare, LaysParts, LaysStmt, declares, calls_alone, simple, branch, branches, range_loop, array_loop, waits, LaysBlock, no_statement, one_statement, LaysFunctions, no_function, one_function, LaysScript}
use Rattle.code_rules.specs.Emitted.{ReadsStand}
use Rattle.code_laws.proofs.Counts.{total, total-append}
use Rattle.code_laws.proofs.Adding.{nth_right, at_counted, within, inside, within-of, within-stmts, total-among, header_few, header_block, own_fewer, Adds, adds_none, adds_both, adds_one}

-- an act that opens blocks of a statement
abbrev pub OpensBlocks : Act → Type 0
OpensBlocks (If e b d) = Unit {0}
OpensBlocks (Range l h s w) = Unit {0}
OpensBlocks (Each w) = Unit {0}
OpensBlocks (Wait hs b) = Unit {0}
OpensBlocks _ = ⊥

-- an entry is a statement's own
pub data IsOwn (e : Entry) (n : ℕ) (a : Action) : Type 0 where
  it_works : (l : Layout) (k : ℕ) → IsSimple a → e.act ≡ simple_act l k (own_needs l k a) a → e.node ≡ n → IsOwn e n a
  it_opens : OpensBlocks e.act → IsOwn e n a

-- weights of entries, and of parts and statements, none less than what their entries weigh
pub record Weights : Type 0 where
  pub of_entry : Entry → ℕ
  pub of_part : Part → ℕ
  pub of_own : Stmt → ℕ
  pub bared : (e : Entry) → of_entry (bare e) ≡ of_entry e
  pub part_few : (C : Code) (l : Layout) (k : ℕ) (all : List Part) (at : ℕ) (p : ℤ) (x : Part) (is : List ℕ) → PartAs C l k all at p x is → total (λ j. of_entry (entry C j)) is ≤ of_part x
  pub own_few : (e : Entry) (at n : ℕ) (a : Action) → IsOwn e n a → of_entry e ≤ of_own (stmt at n a)

abbrev pub stmt_weight : Weights → Stmt → ℕ
stmt_weight W (stmt at n a) = total W.of_part (parts a) + W.of_own (stmt at n a)

module _ (W : Weights) where
  parts_few : {C : Code} {l : Layout} {k : ℕ} {all : List Part} {at : ℕ} {p : ℤ} {xs : List Part} {is : List ℕ} → PartsAs C l k all at p xs is → total (λ j. W.of_entry (entry C j)) is ≤ total W.of_part xs
  parts_few no_part = omega arith
  parts_few {C} {l} {k} {all} {at} {p} (one_part {x = x} {xs = xs} {is = is} {js = js} h hs e) =
      let a = W.part_few C l k all at p x is h in
      let b = parts_few hs in
      let d = total-append (λ j. W.of_entry (entry C j)) is js in
      subst (λ (z : List ℕ). total (λ j. W.of_entry (entry C j)) z ≤ W.of_part x + total W.of_part xs) (sym e) (omega arith)

  lays_parts : {fs : List Kinds} {k : ℕ} {all : List Part} {at : ℕ} {p : ℤ} {s t : Laying} {es : List ℕ} (l : Layout) → ((i : ℕ) → l.body_of i ≡ suc i) → PlainAs l None all → IndexesStand all → LaysParts fs k all at p s t es → Adds W.of_entry s t (total W.of_part all)
  lays_parts {fs} {k} {all} {at} {p} {s} {t} {es} l b pl st lp = record {
    more = lp.more;
    entries = lp.entries;
    few = (let x = subst (λ (z : List ℕ). total (λ j. W.of_entry (entry (code_of t) j)) z ≤ total W.of_part all) lp.numbers (parts_few (lp.parts_as l pl b st)) in
        let y = at_counted W.of_entry t.entries (length s.entries) lp.more (λ i h. ap (λ (E : List Entry). nth blank_entry E (length s.entries + i)) lp.entries ∙ nth_right blank_entry s.entries lp.more i) in
        omega arith);
  }

  module _ (c : Core) (l : Layout) (suits : (at n : ℕ) (a : Action) → stmt at n a ∈ script_stmts c → Suits l a) (stands : ReadsStand c) where
    -- the entries of a statement's parts, and then of what stands in its blocks, and its own
    around : {s t u v : Laying} (at n : ℕ) (a : Action) (m : ℕ) (e : Entry) → Adds W.of_entry s t (total W.of_part (own_parts a)) → Adds W.of_entry t u m → v.entries ≡ u.entries ++ e ∷ [] → IsOwn e n a
        → Adds W.of_entry s v (stmt_weight W (stmt at n a) + m)
    around {s} {t} {u} {v} at n a m e ps bs q o =
        let f = own_fewer W.of_part a in
        adds_both W.of_entry (total W.of_part (parts a) + W.of_own (stmt at n a) + m)
        (adds_both W.of_entry (total W.of_part (parts a) + m) ps bs (omega arith))
        (adds_one W.of_entry e q (W.own_few e at n a o)) (omega arith)

    module _ (fs : List Kinds) (roots : ℕ) (k : ℕ) where
      mutual
        pub stmt_few : {st : Stmt} {ds : List (ℕ × Bool)} {s t : Laying} {es : List ℕ} {vs : List _} → LaysStmt fs roots k st ds s t es vs → (B : Block) → B ∈ script_blocks c → st ∈ block_list B
            → Adds W.of_entry s t (stmt_weight W st + inside (stmt_weight W) st)
        stmt_few {s = s} (declares b) B m i = adds_none W.of_entry s _
        stmt_few (calls_alone {at = at} {n = n} {p = p} {ps = ps} {c = d} lp) B m i =
            let su = suits at n (call_alone p ps d) (among_script c m i) in
            let sx = stands at n (call_alone p ps d) (among_script c m i) in
            adds_both W.of_entry _ (lays_parts l su.bodies su.parts_plain sx lp) (adds_none W.of_entry _ 0) (omega arith)
        stmt_few (simple {at = at} {n = n} {a = a} e {t = t} {u = u} sim lp ow nd ue ee) B m i =
            let su = suits at n a (among_script c m i) in
            let sx = stands at n a (among_script c m i) in
            adds_both W.of_entry _
            (around at n a 0 e (lays_parts l su.bodies su.parts_plain sx lp) (adds_none W.of_entry t 0) (ap (λ (z : Laying). z.entries) ue) (it_works l k sim ((ow l su).act_is) nd.0))
            (adds_none W.of_entry u 0) (omega arith)
        stmt_few (branch {at = at} {n = n} {c = o} {b = b} e {u = u} lp bl ow mk we ee) B m i =
            let su = suits at n (when o b) (among_script c m i) in
            let sx = stands at n (when o b) (among_script c m i) in
            let q = within-of (stmt_weight W) b in
            adds_both W.of_entry _
            (around at n (when o b) (within (stmt_weight W) b) e (lays_parts l su.bodies su.parts_plain sx lp) (block_few bl b (inner_block c m i first) (λ x j. j)) (ap (λ (z : Laying). z.entries) we) (it_opens (subst OpensBlocks (sym (ow l su).act_is) tt)))
            (adds_none W.of_entry _ 0) (omega arith)
        stmt_few (branches {at = at} {n = n} {c = o} {b = b} {d = d} e lp bl dl de ow mk we ee) B m i =
            let su = suits at n (choose o b d) (among_script c m i) in
            let sx = stands at n (choose o b d) (among_script c m i) in
            let q = within-of (stmt_weight W) b in
            let r = within-of (stmt_weight W) d in
            let z = total-among (stmt_weight W) (b ∷ blocks_below b) (d ∷ blocks_below d) in
            adds_both W.of_entry _
            (around at n (choose o b d) (within (stmt_weight W) b + within (stmt_weight W) d) e (lays_parts l su.bodies su.parts_plain sx lp)
            (adds_both W.of_entry (within (stmt_weight W) b + within (stmt_weight W) d) (block_few bl b (inner_block c m i first) (λ x j. j)) (block_few dl d (inner_block c m i (later first)) (λ x j. j)) (omega arith))
            (ap (λ (z : Laying). z.entries) we) (it_opens (subst OpensBlocks (sym (ow l su).act_is) tt)))
            (adds_none W.of_entry _ 0) (omega arith)
        stmt_few (range_loop {at = at} {n = n} {x = x} {lo = lo} {hi = hi} {st = st} {y = y} {b = b} e lp bl ow mk we ee) B m i =
            let su = suits at n (range lo hi st x y b) (among_script c m i) in
            let sx = stands at n (range lo hi st x y b) (among_script c m i) in
            let q = within-of (stmt_weight W) b in
            adds_both W.of_entry _
            (around at n (range lo hi st x y b) (within (stmt_weight W) b) e (lays_parts l su.bodies su.parts_plain sx lp) (block_few bl b (inner_block c m i first) (λ x j. j)) (ap (λ (z : Laying). z.entries) we) (it_opens (subst OpensBlocks (sym (ow l su).act_is) tt)))
            (adds_none W.of_entry _ 0) (omega arith)
        stmt_few (array_loop {at = at} {n = n} {x = x} {a = a} {y = y} {b = b} e {s = s} bl ow mk we ee) B m i =
            let su = suits at n (each a x y b) (among_script c m i) in
            let q = within-of (stmt_weight W) b in
            adds_both W.of_entry _
            (around at n (each a x y b) (within (stmt_weight W) b) e (adds_none W.of_entry s 0) (block_few bl b (inner_block c m i first) (λ x j. j)) (ap (λ (z : Laying). z.entries) we) (it_opens (subst OpensBlocks (sym (ow l su).act_is) tt)))
            (adds_none W.of_entry _ 0) (omega arith)
        stmt_few (waits {at = at} {n = n} {ns = ns} {c = o} {b = b} e {s = s} hd bl en we ee) B m i =
            let q = header_few (stmt_weight W) hd in
            adds_both W.of_entry _
            (around at n (wait ns o) (within (stmt_weight W) b) e (adds_none W.of_entry s 0) (block_few bl b (header_block c hd B m i) (λ x j. j)) (ap (λ (z : Laying). z.entries) we) (it_opens (subst OpensBlocks (sym en.0.act_is) tt)))
            (adds_none W.of_entry _ 0) (omega arith)

        pub block_few : {b : Block} {ds : List (ℕ × Bool)} {s t : Laying} {es : List ℕ} {vs : List _} → LaysBlock fs roots k b ds s t es vs → (B : Block) → B ∈ script_blocks c → ((x : Stmt) → x ∈ block_list b → x ∈ block_list B)
            → Adds W.of_entry s t (within (stmt_weight W) b)
        block_few {s = s} no_statement B m i = adds_none W.of_entry s _
        block_few (one_statement {st = st} {b = b} x xs de ee me) B m i =
            let q = within-stmts (stmt_weight W) st b in
            adds_both W.of_entry _ (stmt_few x B m (i st first)) (block_few xs B m (λ y j. i y (later j))) (omega arith)

    functions_few : {fs : List Kinds} {roots : ℕ} {gs : List Function} {ds : List (ℕ × Bool)} {s t : Laying} {bs : List _} → LaysFunctions fs roots gs ds s t bs → ((b : Block) → b ∈ function_blocks gs → b ∈ script_blocks c)
        → Adds W.of_entry s t (total (stmt_weight W) (stmts_among (function_blocks gs)))
    functions_few {s = s} no_function i = adds_none W.of_entry s _
    functions_few {fs} {roots} (one_function {f = f} {gs = gs} x xs de be) i =
        let q = total-among (stmt_weight W) (blocks_of f.body) (function_blocks gs) in
        let r = within-of (stmt_weight W) f.body in
        adds_both W.of_entry _ (block_few fs roots f.inputs x f.body (i f.body first) (λ y j. j)) (functions_few xs (λ b j. i b (to_right (blocks_of f.body) (function_blocks gs) j))) (omega arith)

    bare_total : (E : List Entry) → total W.of_entry (map bare E) ≡ total W.of_entry E
    bare_total [] = refl
    bare_total (e ∷ E) = let a = W.bared e in let b = bare_total E in omega arith

    pub script_few : {fs : List Kinds} {ds : List (ℕ × Bool)} {C : Code} → LaysScript c fs ds C → total W.of_entry C.entries ≤ total (stmt_weight W) (script_stmts c)
    script_few {fs} {ds} {C} L =
        let a = block_few fs (suc (length c.functions)) 0 L.script c.body first (λ y j. j) in
        let b = functions_few L.functions (λ b j. to_right (blocks_of c.body) (function_blocks c.functions) j) in
        let q = total-among (stmt_weight W) (blocks_of c.body) (function_blocks c.functions) in
        let r = within-of (stmt_weight W) c.body in
        let z = adds_both W.of_entry (total (stmt_weight W) (script_stmts c)) a b (omega arith) in
        let y = z.few in
        let x : total W.of_entry (map bare C.entries) ≡ total W.of_entry z.more = ap (total W.of_entry) (L.entries ∙ z.entries) in
        let v = bare_total C.entries in
        omega arith
