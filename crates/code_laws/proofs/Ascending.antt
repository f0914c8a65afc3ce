-- The entries of each body of laid code are numbered upwards.
use Rattle.std.proofs.Common.{◌≡◌, inl, inr, ℕ, zero, suc, ◌+◌, ◌≤◌, Bool, List, [], ◌∷◌, ◌++◌, length, length-append, sym, ap, subst, arith}
use Rattle.std.specs.Prelude.{ℤ}
use Rattle.language.specs.Core.{Part, Stmt, Block, Function, Core}
use Rattle.language.specs.Members.{◌∈◌, first, later}
use Rattle.language.proofs.Members.{split_in, either}
use Rattle.task_code.specs.Code.{Variable, Entry, Body, Code, ByStep, ByWait, blank_body, body, nth, loop_variables}
use Rattle.code_rules.specs.Laying.{Kinds, Laying, counted, LaysParts, LaysStmt, declares, calls_alone, simple, branch, branches, range_loop, array_loop, waits, LaysBlock, no_statement, one_statement, LaysFunctions, no_function, one_function, LaysScript}
use Rattle.code_laws.proofs.Rows.{Row, row, bodies_in, stmt_rows, block_rows, inner_rows, function_rows, first_rows, later_rows, all_rows, all_bodies, roots_of}

-- each is above the one before it, the first not below the one number, the last below the other
abbrev pub Range : List ℕ → ℕ → ℕ → Type 0
Range [] a b = a ≤ b
Range (e ∷ es) a b = (a ≤ e) × Range es (suc e) b

range_le : (es : List ℕ) (a b : ℕ) → Range es a b → a ≤ b
range_le [] a b h = h
range_le (e ∷ es) a b h = (let x = h.0 in let y = range_le es (suc e) b h.1 in omega arith)

range_lower : (es : List ℕ) (a c b : ℕ) → c ≤ a → Range es a b → Range es c b
range_lower [] a c b l h = (let x : a ≤ b = h in let y : c ≤ b = omega arith in y)
range_lower (e ∷ es) a c b l h = (let x = h.0 in (omega arith, h.1))

range_none : (a : ℕ) → Range [] a a
range_none a = (let x : a ≤ a = omega arith in x)

range_both : (is js : List ℕ) (a b c : ℕ) → Range is a b → Range js b c → Range (is ++ js) a c
range_both [] js a b c h k = range_lower js b a c h k
range_both (e ∷ is) js a b c h k = (h.0, range_both is js (suc e) b c h.1 k)

range_counted : (n a b : ℕ) → b ≡ a + n → Range (counted a n) a b
range_counted zero a b e = (let x : a ≤ b = omega arith in x)
range_counted (suc n) a b e = (omega arith, range_counted n (suc a) b (omega arith))

abbrev pub Ascending : List ℕ → Type 0
Ascending es = (a : ℕ) × (b : ℕ) × Range es a b

pub left_range : (is js : List ℕ) (a b : ℕ) → Range (is ++ js) a b → (c : ℕ) × Range is a c
left_range [] js a b h = (a, range_none a)
left_range (e ∷ is) js a b h = (let r = left_range is js (suc e) b h.1 in (r.0, (h.0, r.1)))

pub right_range : (is js : List ℕ) (a b : ℕ) → Range (is ++ js) a b → (c : ℕ) × Range js c b
right_range [] js a b h = (a, h)
right_range (e ∷ is) js a b h = right_range is js (suc e) b h.1

abbrev AllAscend : List Row → Type 0
AllAscend rs = (r : Row) → r ∈ rs → Ascending r.body.entries

none_ascend : AllAscend []
none_ascend r m = elim m [ ]

both_ascend : (rs qs : List Row) → AllAscend rs → AllAscend qs → AllAscend (rs ++ qs)
both_ascend rs qs h k r m = elim (either rs qs m) [ inl i ↦ h r i | inr i ↦ k r i ]

one_ascends : (r : Row) (rs : List Row) → Ascending r.body.entries → AllAscend rs → AllAscend (r ∷ rs)
one_ascends r rs h k q m = elim (split_in m) [ inl e ↦ subst (λ (z : Row). Ascending z.body.entries) (sym e) h | inr i ↦ k q i ]

abbrev size : Laying → ℕ
size s = length s.entries

parts_range : {fs : List Kinds} {k : ℕ} {all : List Part} {at : ℕ} {p : ℤ} {s t : Laying} {es : List ℕ} → LaysParts fs k all at p s t es → Range es (size s) (size t)
parts_range {s = s} {t = t} lp =
    let x = length-append s.entries lp.more in
    let y = ap (λ (E : List Entry). length E) lp.entries in
    subst (λ (z : List ℕ). Range z (size s) (size t)) (sym lp.numbers) (range_counted (length lp.more) (size s) (size t) (omega arith))

-- a statement's parts, what its blocks add, and its own entry
own_range : (s t u w : Laying) (e : Entry) (is es : List ℕ) → Range is (size s) (size t) → size t ≤ size u → w.entries ≡ u.entries ++ e ∷ [] → es ≡ is ++ size u ∷ [] → Range es (size s) (size w)
own_range s t u w e is es h l q ee =
    let x = length-append u.entries (e ∷ []) in
    let y = ap (λ (E : List Entry). length E) q in
    let above : suc (size u) ≤ size w = omega arith in
    let last : Range (size u ∷ []) (size t) (size w) = (l, above) in
    subst (λ (z : List ℕ). Range z (size s) (size w)) (sym ee) (range_both is (size u ∷ []) (size s) (size t) (size w) h last)

entries_of : {w : Laying} {v : Laying} → w ≡ v → w.entries ≡ v.entries
entries_of e = ap (λ (z : Laying). z.entries) e

module _ (fs : List Kinds) (roots : ℕ) (k : ℕ) where
  mutual
    stmt_ascends : {st : Stmt} {ds : List (ℕ × Bool)} {s t : Laying} {es : List ℕ} {vs : List Variable} (x : LaysStmt fs roots k st ds s t es vs) → Range es (size s) (size t) × AllAscend (stmt_rows fs roots k x)
    stmt_ascends {s = s} (declares b) = (range_none (size s), none_ascend)
    stmt_ascends (calls_alone lp) = (parts_range lp, none_ascend)
    stmt_ascends (simple e {s = s} {t = t} {u = u} {es = es} {is = is} sim lp ow nd ue ee) = (own_range s t t u e is es (parts_range lp) (omega arith) (entries_of ue) ee, none_ascend)
    stmt_ascends (branch {b = d} e {s = s} {t = t} {u = u} {w = w} {es = es} {is = is} {js = js} {vs = vs} lp bl ow mk we ee) =
        let b = block_ascends bl in
        let r = row k d [] (ByStep (length u.entries)) vs js in (
          own_range s t u w e is es (parts_range lp) (range_le js (size t) (size u) b.0) (entries_of we) ee,
          both_ascend (block_rows fs roots k bl) (r ∷ []) b.1 (one_ascends r [] (size t, size u, b.0) none_ascend),
        )
    stmt_ascends (branches {b = bb} {d = dd} e {s = s} {t = t} {u = u} {v = v} {w = w} {es = es} {is = is} {js = js} {ks = ks} {vs = vs} {ws = ws} lp bl dl de ow mk we ee) =
        let b = block_ascends bl in
        let d = block_ascends dl in
        let x = range_le js (size t) (size u) b.0 in
        let y = range_le ks (size u) (size v) d.0 in
        let r = row k bb [] (ByStep (length v.entries)) vs js in
        let q = row k dd [] (ByStep (length v.entries)) ws ks in (
          own_range s t v w e is es (parts_range lp) (omega arith) (entries_of we) ee,
          both_ascend (block_rows fs roots k bl ++ block_rows fs roots k dl) (r ∷ q ∷ []) (both_ascend (block_rows fs roots k bl) (block_rows fs roots k dl) b.1 d.1)
              (one_ascends r (q ∷ []) (size t, size u, b.0) (one_ascends q [] (size u, size v, d.0) none_ascend)),
        )
    stmt_ascends (range_loop {x = x} {y = y} {b = d} e {s = s} {t = t} {u = u} {w = w} {es = es} {is = is} {js = js} {vs = vs} lp bl ow mk we ee) =
        let b = block_ascends bl in
        let r = row k d (loop_variables (record { body = 0; value = x; turn = y })) (ByStep (length u.entries)) vs js in (
          own_range s t u w e is es (parts_range lp) (range_le js (size t) (size u) b.0) (entries_of we) ee,
          both_ascend (block_rows fs roots k bl) (r ∷ []) b.1 (one_ascends r [] (size t, size u, b.0) none_ascend),
        )
    stmt_ascends (array_loop {x = x} {y = y} {b = d} e {s = s} {u = u} {w = w} {es = es} {js = js} {vs = vs} bl ow mk we ee) =
        let b = block_ascends bl in
        let r = row k d (loop_variables (record { body = 0; value = x; turn = y })) (ByStep (length u.entries)) vs js in (
          own_range s s u w e [] es (range_none (size s)) (range_le js (size s) (size u) b.0) (entries_of we) ee,
          both_ascend (block_rows fs roots k bl) (r ∷ []) b.1 (one_ascends r [] (size s, size u, b.0) none_ascend),
        )
    stmt_ascends (waits {b = d} e {s = s} {u = u} {w = w} {es = es} {js = js} {vs = vs} hd bl en we ee) =
        let b = block_ascends bl in
        let r = row k d [] (ByWait (length u.entries)) vs js in (
          own_range s s u w e [] es (range_none (size s)) (range_le js (size s) (size u) b.0) (entries_of we) ee,
          both_ascend (block_rows fs roots k bl) (r ∷ []) b.1 (one_ascends r [] (size s, size u, b.0) none_ascend),
        )

    block_ascends : {b : Block} {ds : List (ℕ × Bool)} {s t : Laying} {es : List ℕ} {vs : List Variable} (x : LaysBlock fs roots k b ds s t es vs) → Range es (size s) (size t) × AllAscend (block_rows fs roots k x)
    block_ascends {s = s} no_statement = (range_none (size s), none_ascend)
    block_ascends (one_statement {s = s} {t = t} {u = u} {is = is} {js = js} x xs de ee me) =
        let a = stmt_ascends x in
        let b = block_ascends xs in
        (subst (λ (z : List ℕ). Range z (size s) (size u)) (sym ee) (range_both is js (size s) (size t) (size u) a.0 b.0), both_ascend (stmt_rows fs roots k x) (block_rows fs roots k xs) a.1 b.1)

module _ (fs : List Kinds) (roots : ℕ) where
  functions_ascend : {gs : List Function} {ds : List (ℕ × Bool)} {s t : Laying} {bs : List Body} (x : LaysFunctions fs roots gs ds s t bs) → AllAscend (function_rows fs roots x) × AllAscend (inner_rows fs roots x)
  functions_ascend no_function = (none_ascend, none_ascend)
  functions_ascend (one_function {f = f} {s = s} {t = t} {js = js} {vs = vs} x xs de be) =
      let a = block_ascends fs roots f.inputs x in
      let b = functions_ascend xs in
      (one_ascends (row f.inputs f.body [] Rattle.task_code.specs.Code.ByCalls vs js) (function_rows fs roots xs) (size s, size t, a.0) b.0, both_ascend (block_rows fs roots f.inputs x) (inner_rows fs roots xs) a.1 b.1)

nth_ascends : (rs : List Row) (t : ℕ) → AllAscend rs → Ascending (nth blank_body (bodies_in rs) t).entries
nth_ascends [] t h = (0, 0, range_none 0)
nth_ascends (r ∷ rs) zero h = h r first
nth_ascends (r ∷ rs) (suc t) h = nth_ascends rs t (λ q m. h q (later m))

-- OF A SCRIPT
pub ascending : {c : Core} {fs : List Kinds} {ds : List (ℕ × Bool)} {C : Code} → LaysScript c fs ds C → (t : ℕ) → Ascending (body C t).entries
ascending {c} {fs} L t =
    let b = block_ascends fs (roots_of L) 0 L.script in
    let f = functions_ascend fs (roots_of L) L.functions in
    subst (λ (bs : List Body). Ascending (nth blank_body bs t).entries) (sym (all_bodies L))
    (nth_ascends (all_rows L) t
    (both_ascend (first_rows L) (later_rows L) (one_ascends (row 0 c.body [] Rattle.task_code.specs.Code.ByMain L.makes_are L.entries_are) (function_rows fs (roots_of L) L.functions) (size (record { entries = []; bodies = [] }), size L.first, b.0) f.0)
    (both_ascend (block_rows fs (roots_of L) 0 L.script) (inner_rows fs (roots_of L) L.functions) b.1 f.1)))
