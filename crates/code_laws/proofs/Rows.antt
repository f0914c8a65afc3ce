-- The bodies that laying adds, each with the block that it stands for.
use Rattle.std.proofs.Common.{◌≡◌, ℕ, suc, ◌+◌, Bool, List, [], ◌∷◌, ◌++◌, map, length, refl, sym, ap, ap₂, ◌∙◌, arith, append_assoc, append-nil}
use Rattle.language.specs.Core.{Stmt, Block, no_stmts, Function, Core}
use Rattle.task_code.specs.Code.{Variable, Entry, Opener, Body, Code, ByMain, ByCalls, ByStep, ByWait, loop_variables}
use Rattle.code_rules.specs.Laying.{Kinds, Laying, LaysStmt, declares, calls_alone, simple, branch, branches, range_loop, array_loop, waits, LaysBlock, no_statement, one_statement, LaysFunctions, no_function, one_function, LaysScript}
use Rattle.std.proofs.lemmas.List.{map-append}

-- a body with the block that it stands for, the number of inputs of that block's function, and the variables of the loop that opens it
pub record Row : Type 0 where
  pub block : Block
  pub inputs : ℕ
  pub variables : List Variable
  pub body : Body

abbrev pub blank_row : Row
blank_row = record { block = no_stmts; inputs = 0; variables = []; body = record { opener = ByMain; makes = []; entries = [] } }

abbrev pub row : ℕ → Block → List Variable → Opener → List Variable → List ℕ → Row
row k b us o vs js = record { block = b; inputs = k; variables = us; body = record { opener = o; makes = us ++ vs; entries = js } }

abbrev pub bodies_in : List Row → List Body
bodies_in rs = map (λ (r : Row). r.body) rs

pub length-map : {X Y : Type 0} (f : X → Y) (xs : List X) → length (map f xs) ≡ length xs
length-map f [] = refl
length-map f (x ∷ xs) = let a = length-map f xs in omega arith

module _ (fs : List Kinds) (roots : ℕ) (k : ℕ) where
  abbrev mutual
    pub stmt_rows : {st : Stmt} {ds : List (ℕ × Bool)} {s t : Laying} {es : List ℕ} {vs : List Variable} → LaysStmt fs roots k st ds s t es vs → List Row
    stmt_rows (declares b) = []
    stmt_rows (calls_alone lp) = []
    stmt_rows (simple e sim lp ow nd ue ee) = []
    stmt_rows (branch {b = b} e {u = u} {js = js} {vs = vs} lp bl ow mk we ee) = block_rows bl ++ row k b [] (ByStep (length u.entries)) vs js ∷ []
    stmt_rows (branches {b = b} {d = d} e {v = v} {js = js} {ks = ks} {vs = vs} {ws = ws} lp bl dl de ow mk we ee) =
        (block_rows bl ++ block_rows dl) ++ row k b [] (ByStep (length v.entries)) vs js ∷ row k d [] (ByStep (length v.entries)) ws ks ∷ []
    stmt_rows (range_loop {x = x} {y = y} {b = b} e {u = u} {js = js} {vs = vs} lp bl ow mk we ee) = block_rows bl ++ row k b (loop_variables (record { body = 0; value = x; turn = y })) (ByStep (length u.entries)) vs js ∷ []
    stmt_rows (array_loop {x = x} {y = y} {b = b} e {u = u} {js = js} {vs = vs} bl ow mk we ee) = block_rows bl ++ row k b (loop_variables (record { body = 0; value = x; turn = y })) (ByStep (length u.entries)) vs js ∷ []
    stmt_rows (waits {b = b} e {u = u} {js = js} {vs = vs} hd bl en we ee) = block_rows bl ++ row k b [] (ByWait (length u.entries)) vs js ∷ []

    pub block_rows : {b : Block} {ds : List (ℕ × Bool)} {s t : Laying} {es : List ℕ} {vs : List Variable} → LaysBlock fs roots k b ds s t es vs → List Row
    block_rows no_statement = []
    block_rows (one_statement x xs de ee me) = stmt_rows x ++ block_rows xs

  -- BODIES

  opened : (s t u w : Laying) (rs : List Row) (r : Row) (e : Entry) → t.bodies ≡ s.bodies → u.bodies ≡ t.bodies ++ bodies_in rs → w ≡ record { entries = u.entries ++ e ∷ []; bodies = u.bodies ++ r.body ∷ [] } → w.bodies ≡ s.bodies ++ bodies_in (rs ++ r ∷ [])
  opened s t u w rs r e p q we =
      ap (λ (z : Laying). z.bodies) we ∙ ap (λ (z : List Body). z ++ r.body ∷ []) (q ∙ ap (λ (z : List Body). z ++ bodies_in rs) p)
      ∙ append_assoc s.bodies (bodies_in rs) (r.body ∷ []) ∙ ap (λ (z : List Body). s.bodies ++ z) (sym (map-append (λ (r : Row). r.body) rs (r ∷ [])))

  mutual
    pub stmt_bodies : {st : Stmt} {ds : List (ℕ × Bool)} {s t : Laying} {es : List ℕ} {vs : List Variable} (x : LaysStmt fs roots k st ds s t es vs) → t.bodies ≡ s.bodies ++ bodies_in (stmt_rows x)
    stmt_bodies {s = s} (declares b) = sym (append-nil s.bodies)
    stmt_bodies {s = s} (calls_alone lp) = lp.bodies ∙ sym (append-nil s.bodies)
    stmt_bodies {s = s} (simple e sim lp ow nd ue ee) = ap (λ (z : Laying). z.bodies) ue ∙ lp.bodies ∙ sym (append-nil s.bodies)
    stmt_bodies (branch {b = b} e {s = s} {t = t} {u = u} {w = w} {js = js} {vs = vs} lp bl ow mk we ee) = opened s t u w (block_rows bl) (row k b [] (ByStep (length u.entries)) vs js) e lp.bodies (block_bodies bl) we
    stmt_bodies (branches {b = b} {d = d} e {s = s} {t = t} {u = u} {v = v} {js = js} {ks = ks} {vs = vs} {ws = ws} lp bl dl de ow mk we ee) =
        let r = row k b [] (ByStep (length v.entries)) vs js in
        let r' = row k d [] (ByStep (length v.entries)) ws ks in
        let both : v.bodies ≡ s.bodies ++ bodies_in (block_rows bl ++ block_rows dl) =
        block_bodies dl ∙ ap (λ (z : List Body). z ++ bodies_in (block_rows dl)) (block_bodies bl ∙ ap (λ (z : List Body). z ++ bodies_in (block_rows bl)) lp.bodies)
        ∙ append_assoc s.bodies (bodies_in (block_rows bl)) (bodies_in (block_rows dl)) ∙ ap (λ (z : List Body). s.bodies ++ z) (sym (map-append (λ (r : Row). r.body) (block_rows bl) (block_rows dl))) in
        ap (λ (z : Laying). z.bodies) we ∙ ap (λ (z : List Body). z ++ r.body ∷ r'.body ∷ []) both
        ∙ append_assoc s.bodies (bodies_in (block_rows bl ++ block_rows dl)) (r.body ∷ r'.body ∷ []) ∙ ap (λ (z : List Body). s.bodies ++ z) (sym (map-append (λ (r : Row). r.body) (block_rows bl ++ block_rows dl) (r ∷ r' ∷ [])))
    stmt_bodies (range_loop {x = x} {y = y} {b = b} e {s = s} {t = t} {u = u} {w = w} {js = js} {vs = vs} lp bl ow mk we ee) = opened s t u w (block_rows bl) (row k b (loop_variables (record { body = 0; value = x; turn = y })) (ByStep (length u.entries)) vs js) e lp.bodies (block_bodies bl) we
    stmt_bodies (array_loop {x = x} {y = y} {b = b} e {s = s} {u = u} {w = w} {js = js} {vs = vs} bl ow mk we ee) = opened s s u w (block_rows bl) (row k b (loop_variables (record { body = 0; value = x; turn = y })) (ByStep (length u.entries)) vs js) e refl (block_bodies bl) we
    stmt_bodies (waits {b = b} e {s = s} {u = u} {w = w} {js = js} {vs = vs} hd bl en we ee) = opened s s u w (block_rows bl) (row k b [] (ByWait (length u.entries)) vs js) e refl (block_bodies bl) we

    pub block_bodies : {b : Block} {ds : List (ℕ × Bool)} {s t : Laying} {es : List ℕ} {vs : List Variable} (x : LaysBlock fs roots k b ds s t es vs) → t.bodies ≡ s.bodies ++ bodies_in (block_rows x)
    block_bodies {s = s} no_statement = sym (append-nil s.bodies)
    block_bodies (one_statement {s = s} x xs de ee me) =
        block_bodies xs ∙ ap (λ (z : List Body). z ++ bodies_in (block_rows xs)) (stmt_bodies x) ∙ append_assoc s.bodies (bodies_in (stmt_rows x)) (bodies_in (block_rows xs))
        ∙ ap (λ (z : List Body). s.bodies ++ z) (sym (map-append (λ (r : Row). r.body) (stmt_rows x) (block_rows xs)))

-- OF FUNCTIONS AND THE SCRIPT

module _ (fs : List Kinds) (roots : ℕ) where
  abbrev pub inner_rows : {gs : List Function} {ds : List (ℕ × Bool)} {s t : Laying} {bs : List Body} → LaysFunctions fs roots gs ds s t bs → List Row
  inner_rows no_function = []
  inner_rows (one_function {f = f} x xs de be) = block_rows fs roots f.inputs x ++ inner_rows xs

  abbrev pub function_rows : {gs : List Function} {ds : List (ℕ × Bool)} {s t : Laying} {bs : List Body} → LaysFunctions fs roots gs ds s t bs → List Row
  function_rows no_function = []
  function_rows (one_function {f = f} {js = js} {vs = vs} x xs de be) = row f.inputs f.body [] ByCalls vs js ∷ function_rows xs

  pub inner_bodies : {gs : List Function} {ds : List (ℕ × Bool)} {s t : Laying} {bs : List Body} (x : LaysFunctions fs roots gs ds s t bs) → t.bodies ≡ s.bodies ++ bodies_in (inner_rows x)
  inner_bodies {s = s} no_function = sym (append-nil s.bodies)
  inner_bodies (one_function {f = f} {s = s} x xs de be) =
      inner_bodies xs ∙ ap (λ (z : List Body). z ++ bodies_in (inner_rows xs)) (block_bodies fs roots f.inputs x) ∙ append_assoc s.bodies (bodies_in (block_rows fs roots f.inputs x)) (bodies_in (inner_rows xs))
      ∙ ap (λ (z : List Body). s.bodies ++ z) (sym (map-append (λ (r : Row). r.body) (block_rows fs roots f.inputs x) (inner_rows xs)))

  pub function_bodies : {gs : List Function} {ds : List (ℕ × Bool)} {s t : Laying} {bs : List Body} (x : LaysFunctions fs roots gs ds s t bs) → bs ≡ bodies_in (function_rows x)
  function_bodies no_function = refl
  function_bodies (one_function {js = js} {vs = vs} x xs de be) = be ∙ ap (λ (z : List Body). record { opener = ByCalls; makes = vs; entries = js } ∷ z) (function_bodies xs)

  pub function_count : {gs : List Function} {ds : List (ℕ × Bool)} {s t : Laying} {bs : List Body} (x : LaysFunctions fs roots gs ds s t bs) → length (function_rows x) ≡ length gs
  function_count no_function = refl
  function_count (one_function x xs de be) = let a = function_count xs in omega arith

module _ {c : Core} {fs : List Kinds} {ds : List (ℕ × Bool)} {C : Code} (L : LaysScript c fs ds C) where
  abbrev pub roots_of : ℕ
  roots_of = suc (length c.functions)

  abbrev pub first_rows : List Row
  first_rows = row 0 c.body [] ByMain L.makes_are L.entries_are ∷ function_rows fs roots_of L.functions

  abbrev pub later_rows : List Row
  later_rows = block_rows fs roots_of 0 L.script ++ inner_rows fs roots_of L.functions

  abbrev pub all_rows : List Row
  all_rows = first_rows ++ later_rows

  pub first_count : length first_rows ≡ roots_of
  first_count = let a = function_count fs roots_of L.functions in omega arith

  pub all_bodies : C.bodies ≡ bodies_in all_rows
  all_bodies =
      let f = function_bodies fs roots_of L.functions in
      let last : L.last.bodies ≡ bodies_in later_rows =
      inner_bodies fs roots_of L.functions ∙ ap (λ (z : List Body). z ++ bodies_in (inner_rows fs roots_of L.functions)) (block_bodies fs roots_of 0 L.script)
      ∙ sym (map-append (λ (r : Row). r.body) (block_rows fs roots_of 0 L.script) (inner_rows fs roots_of L.functions)) in
      L.bodies ∙ ap₂ (λ (x y : List Body). (record { opener = ByMain; makes = L.makes_are; entries = L.entries_are } ∷ x) ++ y) f last
      ∙ sym (map-append (λ (r : Row). r.body) first_rows later_rows)
