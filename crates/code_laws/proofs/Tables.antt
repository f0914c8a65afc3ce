-- The table of laid code: what each statement's entries are, and that each body is that of its block.
use Rattle.std.proofs.Common.{◌≡◌, ℕ, zero, suc, ◌+◌, ◌<◌, Bool, List, [], ◌∷◌, ◌++◌, map, length, refl, sym, ap, ap₂, ◌∙◌, arith, append_assoc, append-nil}
use Rattle.language.specs.Core.{Stmt, Block, Function}
use Rattle.task_code.specs.Code.{Variable, Entry, Opener, Body, Code, blank_body, nth}
use Rattle.code_rules.specs.IsCodeOf.{Layout}
use Rattle.code_rules.specs.Laid.{Table, Stands}
use Rattle.code_rules.specs.Laying.{Kinds, Laying, LaysStmt, declares, calls_alone, simple, branch, branches, range_loop, array_loop, waits, LaysBlock, no_statement, one_statement, LaysFunctions, no_function, one_function}
use Rattle.code_laws.proofs.Adding.{nth_right}
use Rattle.code_laws.proofs.Rows.{Row, row, blank_row, bodies_in, length-map}
use Rattle.std.proofs.lemmas.List.{length-append}

-- WHAT IS LAID GROWS

abbrev pub Grows : Laying → Laying → Type 0
Grows s t = (more : List Entry) × (t.entries ≡ s.entries ++ more)

grows_none : (s : Laying) → Grows s s
grows_none s = ([], sym (append-nil s.entries))

grows_both : (s t u : Laying) → Grows s t → Grows t u → Grows s u
grows_both s t u a b = (a.0 ++ b.0, b.1 ∙ (ap (λ (E : List Entry). E ++ b.0) a.1 ∙ append_assoc s.entries a.0 b.0))

grows_one : (s t : Laying) (e : Entry) → t.entries ≡ s.entries ++ e ∷ [] → Grows s t
grows_one s t e q = (e ∷ [], q)

module _ (fs : List Kinds) (roots : ℕ) (k : ℕ) where
  mutual
    pub stmt_grows : {st : Stmt} {ds : List (ℕ × Bool)} {s t : Laying} {es : List ℕ} {vs : List Variable} → LaysStmt fs roots k st ds s t es vs → Grows s t
    stmt_grows {s = s} (declares b) = grows_none s
    stmt_grows (calls_alone lp) = (lp.more, lp.entries)
    stmt_grows (simple e {s = s} {t = t} {u = u} sim lp ow nd ue ee) = grows_both s t u (lp.more, lp.entries) (grows_one t u e (ap (λ (z : Laying). z.entries) ue))
    stmt_grows (branch e {s = s} {t = t} {u = u} {w = w} lp bl ow mk we ee) = grows_both s t w (lp.more, lp.entries) (grows_both t u w (block_grows bl) (grows_one u w e (ap (λ (z : Laying). z.entries) we)))
    stmt_grows (branches e {s = s} {t = t} {u = u} {v = v} {w = w} lp bl dl de ow mk we ee) =
        grows_both s t w (lp.more, lp.entries) (grows_both t u w (block_grows bl) (grows_both u v w (block_grows dl) (grows_one v w e (ap (λ (z : Laying). z.entries) we))))
    stmt_grows (range_loop e {s = s} {t = t} {u = u} {w = w} lp bl ow mk we ee) = grows_both s t w (lp.more, lp.entries) (grows_both t u w (block_grows bl) (grows_one u w e (ap (λ (z : Laying). z.entries) we)))
    stmt_grows (array_loop e {s = s} {u = u} {w = w} bl ow mk we ee) = grows_both s u w (block_grows bl) (grows_one u w e (ap (λ (z : Laying). z.entries) we))
    stmt_grows (waits e {s = s} {u = u} {w = w} hd bl en we ee) = grows_both s u w (block_grows bl) (grows_one u w e (ap (λ (z : Laying). z.entries) we))

    pub block_grows : {b : Block} {ds : List (ℕ × Bool)} {s t : Laying} {es : List ℕ} {vs : List Variable} → LaysBlock fs roots k b ds s t es vs → Grows s t
    block_grows {s = s} no_statement = grows_none s
    block_grows (one_statement {s = s} {t = t} {u = u} x xs de ee me) = grows_both s t u (stmt_grows x) (block_grows xs)

module _ (fs : List Kinds) (roots : ℕ) where
  pub functions_grow : {gs : List Function} {ds : List (ℕ × Bool)} {s t : Laying} {bs : List Body} → LaysFunctions fs roots gs ds s t bs → Grows s t
  functions_grow {s = s} no_function = grows_none s
  functions_grow (one_function {f = f} {s = s} {t = t} {u = u} x xs de be) = grows_both s t u (block_grows fs roots f.inputs x) (functions_grow xs)

-- THE TABLE

pub nth-map : {X Y : Type 0} (f : X → Y) (d : X) (xs : List X) (i : ℕ) → nth (f d) (map f xs) i ≡ f (nth d xs i)
nth-map f d [] i = refl
nth-map f d (x ∷ xs) zero = refl
nth-map f d (x ∷ xs) (suc i) = nth-map f d xs i

-- rows stand in a list from a number on
pub record Sits (whole : List Row) (from : ℕ) (rs : List Row) : Type 0 where
  pub before : List Row
  pub after : List Row
  pub is : whole ≡ before ++ (rs ++ after)
  pub at : length before ≡ from

pub sits_left : {whole : List Row} {from : ℕ} (rs qs : List Row) → Sits whole from (rs ++ qs) → Sits whole from rs
sits_left rs qs h = record { before = h.before; after = qs ++ h.after; is = h.is ∙ ap (λ (z : List Row). h.before ++ z) (append_assoc rs qs h.after); at = h.at }

pub sits_right : {whole : List Row} (from to : ℕ) (rs qs : List Row) → Sits whole from (rs ++ qs) → from + length rs ≡ to → Sits whole to qs
sits_right from to rs qs h e = record {
  before = h.before ++ rs;
  after = h.after;
  is = h.is ∙ (ap (λ (z : List Row). h.before ++ z) (append_assoc rs qs h.after) ∙ sym (append_assoc h.before rs (qs ++ h.after)));
  at = (let a = length-append h.before rs in let b = h.at in omega arith);
}

pub sits_first : {whole : List Row} {from : ℕ} {r : Row} {rs : List Row} → Sits whole from (r ∷ rs) → (nth blank_row whole from ≡ r) × (from < length whole)
sits_first {whole} {from} {r} {rs} h =
    let z : from ≡ length h.before + 0 = (let a = h.at in omega arith) in
    let a = length-append h.before (r ∷ (rs ++ h.after)) in
    let b = ap (λ (x : List Row). length x) h.is in
    let c = h.at in
    (ap₂ (λ (x : List Row) (i : ℕ). nth blank_row x i) h.is z ∙ nth_right blank_row h.before (r ∷ (rs ++ h.after)) 0, omega arith)

abbrev pub table_of : List Row → Table
table_of rs = record { block_of = λ t. (nth blank_row rs t).block; inputs_of = λ t. (nth blank_row rs t).inputs; variables_of = λ t. (nth blank_row rs t).variables }

-- a row at a number, in code whose bodies are those of the rows
pub row_stands : {C : Code} (l : Layout) (whole : List Row) (t k : ℕ) (b : Block) (us : List Variable) (o : Opener) (vs : List Variable) (js : List ℕ) → C.bodies ≡ bodies_in whole → nth blank_row whole t ≡ row k b us o vs js → t < length whole
    → Stands C l (table_of whole) k b us o t
row_stands {C} l whole t k b us o vs js q e h = record {
  within = (let a = length-map (λ (r : Row). r.body) whole in let d = ap (λ (x : List Body). length x) q in omega arith);
  block = ap (λ (r : Row). r.block) e;
  inputs = ap (λ (r : Row). r.inputs) e;
  variables = ap (λ (r : Row). r.variables) e;
  opener = ap (λ (x : List Body). (nth blank_body x t).opener) q ∙ (ap (λ (x : Body). x.opener) (nth-map (λ (r : Row). r.body) blank_row whole t) ∙ ap (λ (r : Row). r.body.opener) e);
}
