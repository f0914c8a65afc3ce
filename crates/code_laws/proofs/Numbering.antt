-- The entries of laid code are numbered on: each number is of one body, once.
use Rattle.std.proofs.Common.{◌≡◌, ◌⊎◌, inl, inr, ℕ, zero, suc, ◌+◌, ◌≤◌, ◌<◌, Bool, List, [], ◌∷◌, ◌++◌, length, refl, sym, ap, ap₂, subst, arith}
use Rattle.language.specs.Core.{Stmt, Block, Function, Core}
use Rattle.language.specs.Members.{◌∈◌, first, later}
use Rattle.task_code.specs.Code.{Variable, Entry, Opener, Body, Code, ByStep, ByWait, loop_variables}
use Rattle.code_rules.specs.Laying.{Kinds, Laying, counted, bare, LaysParts, LaysStmt, declares, calls_alone, simple, branch, branches, range_loop, array_loop, waits, LaysBlock, no_statement, one_statement, LaysFunctions, no_function, one_function, LaysScript}
use Rattle.code_laws.proofs.Counts.{total, total-append, hit, hit_same, hit_split, count, count_in}
use Rattle.code_laws.proofs.Rows.{Row, row, length-map, stmt_rows, block_rows, inner_rows, function_rows, first_rows, later_rows, all_rows}
use Rattle.std.proofs.lemmas.List.{length-append}

-- COUNTED NUMBERS

pub counted_more : (j a m n : ℕ) → count j (counted a (m + n)) ≡ count j (counted a m) + count j (counted (a + m) n)
counted_more j a zero n =
    let x : zero + n ≡ n = omega arith in
    let y : a + 0 ≡ a = omega arith in
    let z : count j (counted a (zero + n)) ≡ count j (counted (a + 0) n) = ap₂ (λ (b c : ℕ). count j (counted b c)) (sym y) x in
    omega arith
counted_more j a (suc m) n =
    let x : suc m + n ≡ suc (m + n) = omega arith in
    let y : suc a + m ≡ a + suc m = omega arith in
    let z : count j (counted a (suc m + n)) ≡ count j (counted a (suc (m + n))) = ap (λ (c : ℕ). count j (counted a c)) x in
    let v : count j (counted (suc a + m) n) ≡ count j (counted (a + suc m) n) = ap (λ (c : ℕ). count j (counted c n)) y in
    let r = counted_more j (suc a) m n in
    omega arith

pub counted_below : (j a n : ℕ) → j ∈ counted a n → (a ≤ j) × (j < a + n)
counted_below j a zero m = elim m [ ]
counted_below j a (suc n) first = (omega arith, omega arith)
counted_below j a (suc n) (later m) = let r = counted_below j (suc a) n m in let x = r.0 in let y = r.1 in (omega arith, omega arith)

pub counted_few : (j a n : ℕ) → count j (counted a n) ≤ 1
counted_few j a zero = omega arith
counted_few j a (suc n) = by (hit_split j a) (counted_few j (suc a) n) (none_or (count j (counted (suc a) n)))
  where
    none_or : (m : ℕ) → (m ≡ 0) ⊎ (1 ≤ m)
    none_or zero = inl refl
    none_or (suc m) = inr (omega arith)

    by : ((j ≡ a) × (hit j a ≡ 1)) ⊎ (hit j a ≡ 0) → count j (counted (suc a) n) ≤ 1 → (count j (counted (suc a) n) ≡ 0) ⊎ (1 ≤ count j (counted (suc a) n)) → hit j a + count j (counted (suc a) n) ≤ 1
    by (inl e) r (inl z) = let x = e.1 in omega arith
    by (inl e) r (inr z) = let y = (counted_below j (suc a) n (count_in j (counted (suc a) n) z)).0 in let x = e.0 in absurd (omega arith)
    by (inr e) r z = omega arith

pub counted_has : (j a n : ℕ) → a ≤ j → j < a + n → 1 ≤ count j (counted a n)
counted_has j a zero h l = absurd (omega arith)
counted_has j a (suc n) h l = by (hit_split j a) (λ x y. counted_has j (suc a) n x y)
  where
    apart : (x y : ℕ) → x ≤ y → (hit y x ≡ 0) → (suc x ≤ y)
    apart x y h z = by' (eq-or x y h)
      where
        eq-or : (x y : ℕ) → x ≤ y → (x ≡ y) ⊎ (suc x ≤ y)
        eq-or zero zero h = inl refl
        eq-or zero (suc y) h = inr (omega arith)
        eq-or (suc x) zero h = absurd (omega arith)
        eq-or (suc x) (suc y) h = elim (eq-or x y (omega arith)) [ inl e ↦ inl (ap suc e) | inr k ↦ inr (omega arith) ]

        by' : (x ≡ y) ⊎ (suc x ≤ y) → suc x ≤ y
        by' (inl e) = let q = hit_same y x (sym e) in absurd (omega arith)
        by' (inr k) = k

    by : ((j ≡ a) × (hit j a ≡ 1)) ⊎ (hit j a ≡ 0) → (suc a ≤ j → j < suc a + n → 1 ≤ count j (counted (suc a) n)) → 1 ≤ hit j a + count j (counted (suc a) n)
    by (inl e) rec = let x = e.1 in omega arith
    by (inr e) rec = let z = apart a j h e in let q = rec z (omega arith) in omega arith

-- WHAT IS NUMBERED

abbrev pub row_count : ℕ → List Row → ℕ
row_count j rs = total (λ (r : Row). count j r.body.entries) rs

-- the numbers of what is added are of these entries and of the bodies added
pub record Numbered (s t : Laying) (es : List ℕ) (rs : List Row) : Type 0 where
  pub more : ℕ
  pub grown : length t.entries ≡ length s.entries + more
  pub each : (j : ℕ) → count j es + row_count j rs ≡ count j (counted (length s.entries) more)

numbered_none : (s : Laying) → Numbered s s [] []
numbered_none s = record { more = 0; grown = omega arith; each = λ j. refl }

numbered_both : {s t u : Laying} {is js : List ℕ} {rs qs : List Row} → Numbered s t is rs → Numbered t u js qs → Numbered s u (is ++ js) (rs ++ qs)
numbered_both {s} {t} {u} {is} {js} {rs} {qs} a b = record {
  more = a.more + b.more;
  grown = (let x = a.grown in let y = b.grown in omega arith);
  each = λ j. (let x = a.each j in
      let y = b.each j in
      let z = counted_more j (length s.entries) a.more b.more in
      let v = total-append (hit j) is js in
      let w = total-append (λ (r : Row). count j r.body.entries) rs qs in
      let e : count j (counted (length t.entries) b.more) ≡ count j (counted (length s.entries + a.more) b.more) = ap (λ (c : ℕ). count j (counted c b.more)) a.grown in
      omega arith);
}

numbered_parts : {fs : List Kinds} {k : ℕ} {all : List _} {at : ℕ} {p : _} {s t : Laying} {es : List ℕ} → LaysParts fs k all at p s t es → Numbered s t es []
numbered_parts {s = s} {t = t} lp = record {
  more = length lp.more;
  grown = (let x = length-append s.entries lp.more in let y = ap (λ (E : List Entry). length E) lp.entries in omega arith);
  each = λ j. (let x = ap (count j) lp.numbers in omega arith);
}

-- one more entry
numbered_one : (u w : Laying) (e : Entry) → w.entries ≡ u.entries ++ e ∷ [] → Numbered u w (length u.entries ∷ []) []
numbered_one u w e q = record { more = 1; grown = (let x = length-append u.entries (e ∷ []) in let y = ap (λ (E : List Entry). length E) q in omega arith); each = λ j. omega arith }

-- a statement's parts, what its blocks add, and its own entry; the entries of its blocks are those of the bodies that they are put into
numbered_opened : (s t u w : Laying) (e : Entry) (is js es : List ℕ) (rs qs : List Row) → Numbered s t is [] → Numbered t u js rs → w.entries ≡ u.entries ++ e ∷ [] → ((j : ℕ) → row_count j qs ≡ count j js)
    → es ≡ is ++ length u.entries ∷ [] → Numbered s w es (rs ++ qs)
numbered_opened s t u w e is js es rs qs a b q h ee =
    let all = numbered_both (numbered_both a b) (numbered_one u w e q) in
    record {
      more = all.more;
      grown = all.grown;
      each = λ j. (let x = all.each j in
          let v = total-append (hit j) (is ++ js) (length u.entries ∷ []) in
          let y = total-append (hit j) is js in
          let z = total-append (hit j) is (length u.entries ∷ []) in
          let o = ap (count j) ee in
          let m = total-append (λ (r : Row). count j r.body.entries) rs qs in
          let n = total-append (λ (r : Row). count j r.body.entries) rs [] in
          let k = h j in
          omega arith);
    }

one_row : (k : ℕ) (b : Block) (us : List Variable) (o : Opener) (vs : List Variable) (js : List ℕ) (j : ℕ) → row_count j (row k b us o vs js ∷ []) ≡ count j js
one_row k b us o vs js j = omega arith

module _ (fs : List Kinds) (roots : ℕ) (k : ℕ) where
  mutual
    pub stmt_numbered : {st : Stmt} {ds : List (ℕ × Bool)} {s t : Laying} {es : List ℕ} {vs : List Variable} (x : LaysStmt fs roots k st ds s t es vs) → Numbered s t es (stmt_rows fs roots k x)
    stmt_numbered {s = s} (declares b) = numbered_none s
    stmt_numbered (calls_alone lp) = numbered_parts lp
    stmt_numbered (simple e {s = s} {t = t} {u = u} {es = es} {is = is} sim lp ow nd ue ee) =
        numbered_opened s t t u e is [] es [] [] (numbered_parts lp) (numbered_none t) (ap (λ (z : Laying). z.entries) ue) (λ j. refl) ee
    stmt_numbered (branch {b = b} e {s = s} {t = t} {u = u} {w = w} {es = es} {is = is} {js = js} {vs = vs} lp bl ow mk we ee) =
        numbered_opened s t u w e is js es (block_rows fs roots k bl) _ (numbered_parts lp) (block_numbered bl) (ap (λ (z : Laying). z.entries) we) (one_row k b [] (ByStep (length u.entries)) vs js) ee
    stmt_numbered (branches {b = b} {d = d} e {s = s} {t = t} {u = u} {v = v} {w = w} {es = es} {is = is} {js = js} {ks = ks} {vs = vs} {ws = ws} lp bl dl de ow mk we ee) =
        numbered_opened s t v w e is (js ++ ks) es (block_rows fs roots k bl ++ block_rows fs roots k dl) (row k b [] (ByStep (length v.entries)) vs js ∷ row k d [] (ByStep (length v.entries)) ws ks ∷ [])
        (numbered_parts lp) (numbered_both (block_numbered bl) (block_numbered dl)) (ap (λ (z : Laying). z.entries) we) (λ j. (let a = total-append (hit j) js ks in omega arith)) ee
    stmt_numbered (range_loop {x = x} {y = y} {b = b} e {s = s} {t = t} {u = u} {w = w} {es = es} {is = is} {js = js} {vs = vs} lp bl ow mk we ee) =
        numbered_opened s t u w e is js es (block_rows fs roots k bl) _ (numbered_parts lp) (block_numbered bl) (ap (λ (z : Laying). z.entries) we) (one_row k b (loop_variables (record { body = 0; value = x; turn = y })) (ByStep (length u.entries)) vs js) ee
    stmt_numbered (array_loop {x = x} {y = y} {b = b} e {s = s} {u = u} {w = w} {es = es} {js = js} {vs = vs} bl ow mk we ee) =
        numbered_opened s s u w e [] js es (block_rows fs roots k bl) _ (numbered_none s) (block_numbered bl) (ap (λ (z : Laying). z.entries) we) (one_row k b (loop_variables (record { body = 0; value = x; turn = y })) (ByStep (length u.entries)) vs js) ee
    stmt_numbered (waits {b = b} e {s = s} {u = u} {w = w} {es = es} {js = js} {vs = vs} hd bl en we ee) =
        numbered_opened s s u w e [] js es (block_rows fs roots k bl) _ (numbered_none s) (block_numbered bl) (ap (λ (z : Laying). z.entries) we) (one_row k b [] (ByWait (length u.entries)) vs js) ee

    pub block_numbered : {b : Block} {ds : List (ℕ × Bool)} {s t : Laying} {es : List ℕ} {vs : List Variable} (x : LaysBlock fs roots k b ds s t es vs) → Numbered s t es (block_rows fs roots k x)
    block_numbered {s = s} no_statement = numbered_none s
    block_numbered (one_statement {s = s} {u = u} x xs de ee me) = subst (λ (z : List ℕ). Numbered s u z (stmt_rows fs roots k x ++ block_rows fs roots k xs)) (sym ee) (numbered_both (stmt_numbered x) (block_numbered xs))

-- OF A SCRIPT

module _ (fs : List Kinds) (roots : ℕ) where
  functions_numbered : {gs : List Function} {ds : List (ℕ × Bool)} {s t : Laying} {bs : List Body} (x : LaysFunctions fs roots gs ds s t bs) → Numbered s t [] (function_rows fs roots x ++ inner_rows fs roots x)
  functions_numbered {s = s} no_function = numbered_none s
  functions_numbered (one_function {f = f} {js = js} {vs = vs} x xs de be) =
      let a = block_numbered fs roots f.inputs x in
      let b = functions_numbered xs in
      let all = numbered_both a b in
      record {
        more = all.more;
        grown = all.grown;
        each = λ j. (let y = all.each j in
            let p = total-append (λ (r : Row). count j r.body.entries) (block_rows fs roots f.inputs x) (function_rows fs roots xs ++ inner_rows fs roots xs) in
            let q = total-append (λ (r : Row). count j r.body.entries) (function_rows fs roots xs) (inner_rows fs roots xs) in
            let v = total-append (λ (r : Row). count j r.body.entries) (function_rows fs roots xs) (block_rows fs roots f.inputs x ++ inner_rows fs roots xs) in
            let w = total-append (λ (r : Row). count j r.body.entries) (block_rows fs roots f.inputs x) (inner_rows fs roots xs) in
            let z = total-append (hit j) js [] in
            omega arith);
      }

module _ {c : Core} {fs : List Kinds} {ds : List (ℕ × Bool)} {C : Code} (L : LaysScript c fs ds C) where
  -- each number of an entry is in the bodies once, and no other is
  pub all_numbered : (j : ℕ) → row_count j (all_rows L) ≡ count j (counted 0 (length C.entries))
  all_numbered j =
      let a = block_numbered fs (suc (length c.functions)) 0 L.script in
      let b = functions_numbered fs (suc (length c.functions)) L.functions in
      let all = numbered_both a b in
      let y = all.each j in
      let fr = function_rows fs (suc (length c.functions)) L.functions in
      let br = block_rows fs (suc (length c.functions)) 0 L.script in
      let ir = inner_rows fs (suc (length c.functions)) L.functions in
      let p = total-append (λ (r : Row). count j r.body.entries) br (fr ++ ir) in
      let q = total-append (λ (r : Row). count j r.body.entries) fr ir in
      let v = total-append (λ (r : Row). count j r.body.entries) (first_rows L) (later_rows L) in
      let w = total-append (λ (r : Row). count j r.body.entries) br ir in
      let z = total-append (hit j) L.entries_are [] in
      let n = length-map bare C.entries in
      let m = ap (λ (E : List Entry). length E) L.entries in
      let g = all.grown in
      let o : length C.entries ≡ all.more = omega arith in
      let x = ap (λ (i : ℕ). count j (counted 0 i)) o in
      omega arith
