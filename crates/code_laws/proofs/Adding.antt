-- Laying adds entries behind those that are there, and for each statement no more than its parts and itself account for.
use Rattle.std.proofs.Common.{◌≡◌, ℕ, zero, suc, ◌+◌, ◌≤◌, ◌<◌, List, [], ◌∷◌, ◌++◌, length, refl, sym, ap, ap₂, ◌∙◌, arith, append_assoc, append-nil}
use Rattle.language.specs.Core.{Form, compute, read, Part, inner, Outer, Stmt, Action, declare, call_alone, assign, fill, insert, print, assert, when, choose, range, each, wait, Block, no_stmts, stmts, Core}
use Rattle.language.specs.Members.{◌∈◌, first}
use Rattle.language.specs.Parts.{parts, block_list, blocks_below, blocks_in, script_blocks, stmts_among}
use Rattle.language.proofs.Blocks.{inner_block}
use Rattle.language_laws.specs.TypedValues.{own_cell, own_parts}
use Rattle.task_code.specs.Code.{Header, Entry, nth, blank_entry}
use Rattle.code_rules.specs.Laying.{Laying, counted, Headers, one_header, more_headers}
use Rattle.code_laws.proofs.Counts.{total, total-append}

-- MEMBERS OF LISTS BY THEIR NUMBERS

pub nth_left : {X : Type 0} (d : X) (xs ys : List X) (i : ℕ) → i < length xs → nth d (xs ++ ys) i ≡ nth d xs i
nth_left d [] ys i h = absurd (omega arith)
nth_left d (x ∷ xs) ys zero h = refl
nth_left d (x ∷ xs) ys (suc i) h = nth_left d xs ys i (omega arith)

pub nth_right : {X : Type 0} (d : X) (xs ys : List X) (i : ℕ) → nth d (xs ++ ys) (length xs + i) ≡ nth d ys i
nth_right d [] ys i = ap (nth d ys) (let z : 0 + i ≡ i = omega arith in z)
nth_right d (x ∷ xs) ys i = ap (nth d (x ∷ (xs ++ ys))) (let z : length (x ∷ xs) + i ≡ suc (length xs + i) = omega arith in z) ∙ nth_right d xs ys i

pub nth_beyond : {X : Type 0} (d : X) (xs : List X) (i : ℕ) → length xs ≤ i → nth d xs i ≡ d
nth_beyond d [] i h = refl
nth_beyond d (x ∷ xs) zero h = absurd (omega arith)
nth_beyond d (x ∷ xs) (suc i) h = nth_beyond d xs i (omega arith)

-- a sum over entries is one over their numbers
pub at_counted : (w : Entry → ℕ) (E : List Entry) (from : ℕ) (more : List Entry) → ((i : ℕ) → i < length more → nth blank_entry E (from + i) ≡ nth blank_entry more i)
    → total (λ j. w (nth blank_entry E j)) (counted from (length more)) ≡ total w more
at_counted w E from [] h = refl
at_counted w E from (m ∷ more) h =
    let z : from + 0 ≡ from = omega arith in
    let a : nth blank_entry E from ≡ m = ap (nth blank_entry E) (sym z) ∙ h 0 (omega arith) in
    let b = at_counted w E (suc from) more (λ i l. (let y : suc from + i ≡ from + suc i = omega arith in ap (nth blank_entry E) y ∙ h (suc i) (omega arith))) in
    ap₂ (λ (x y : ℕ). x + y) (ap w a) b

-- STATEMENTS AMONG BLOCKS

pub among-append : (bs cs : List Block) → stmts_among (bs ++ cs) ≡ stmts_among bs ++ stmts_among cs
among-append [] cs = refl
among-append (b ∷ bs) cs = ap (λ (xs : List Stmt). block_list b ++ xs) (among-append bs cs) ∙ sym (append_assoc (block_list b) (stmts_among bs) (stmts_among cs))

pub total-among : (v : Stmt → ℕ) (bs cs : List Block) → total v (stmts_among (bs ++ cs)) ≡ total v (stmts_among bs) + total v (stmts_among cs)
total-among v bs cs = ap (total v) (among-append bs cs) ∙ total-append v (stmts_among bs) (stmts_among cs)

-- what statements in a block and inside it come to, and those inside a statement
abbrev pub within : (Stmt → ℕ) → Block → ℕ
within v b = total v (block_list b) + total v (stmts_among (blocks_below b))

abbrev pub inside : (Stmt → ℕ) → Stmt → ℕ
inside v st = total v (stmts_among (blocks_in st))

pub within-of : (v : Stmt → ℕ) (b : Block) → total v (stmts_among (b ∷ blocks_below b)) ≡ within v b
within-of v b = total-append v (block_list b) (stmts_among (blocks_below b))

pub within-stmts : (v : Stmt → ℕ) (st : Stmt) (b : Block) → within v (stmts st b) ≡ (v st + inside v st) + within v b
within-stmts v st b = let a = total-among v (blocks_in st) (blocks_below b) in omega arith

pub header_few : (v : Stmt → ℕ) {k : ℕ} {st : Stmt} {hs : List Header} {b : Block} → Headers k st hs b → within v b ≤ inside v st
header_few v (one_header {b = b} lone e) = let a = within-of v b in omega arith
header_few v (more_headers {st = st} {b = b} h e) =
    let r = header_few v h in
    let a = within-of v (stmts st no_stmts) in
    let d = within-stmts v st no_stmts in
    omega arith

-- the content of the innermost of merged waits is a block of the script
pub header_block : (c : Core) {k : ℕ} {st : Stmt} {hs : List Header} {b : Block} → Headers k st hs b → (B : Block) → B ∈ script_blocks c → st ∈ block_list B → b ∈ script_blocks c
header_block c (one_header lone e) B m i = inner_block c m i first
header_block c (more_headers {at = at} {n = n} {st = st} h e) B m i = header_block c h (stmts st no_stmts) (inner_block c m i first) first

outer_fewer : (v : Part → ℕ) (o : Outer) → total v (o.parts ++ own_cell o.cell o.cell.form) ≤ total v (o.parts ++ inner o.cell ∷ [])
outer_fewer v o = by o.cell.form
  where
    by : (f : Form) → total v (o.parts ++ own_cell o.cell f) ≤ total v (o.parts ++ inner o.cell ∷ [])
    by (compute e) = let a = total-append v o.parts [] in let b = total-append v o.parts (inner o.cell ∷ []) in omega arith
    by (read a i) = omega arith

-- the parts that stand before a statement's own entry are among its parts
pub own_fewer : (v : Part → ℕ) (a : Action) → total v (own_parts a) ≤ total v (parts a)
own_fewer v (declare x) = omega arith
own_fewer v (call_alone p ps c) = omega arith
own_fewer v (assign x o) = outer_fewer v o
own_fewer v (fill a o) = outer_fewer v o
own_fewer v (insert a i o) = omega arith
own_fewer v (print p o) = outer_fewer v o
own_fewer v (assert p o) = outer_fewer v o
own_fewer v (when c b) = omega arith
own_fewer v (choose c b d) = omega arith
own_fewer v (range lo hi st x y b) = omega arith
own_fewer v (each a x y b) = omega arith
own_fewer v (wait ns b) = omega arith

-- WHAT IS ADDED

module _ (w : Entry → ℕ) where
  -- more entries, whose weights come to no more than this
  pub record Adds (s t : Laying) (most : ℕ) : Type 0 where
    pub more : List Entry
    pub entries : t.entries ≡ s.entries ++ more
    pub few : total w more ≤ most

  pub adds_none : (s : Laying) (n : ℕ) → Adds s s n
  adds_none s n = record { more = []; entries = sym (append-nil s.entries); few = omega arith }

  pub adds_both : {s t u : Laying} {m n : ℕ} (all : ℕ) → Adds s t m → Adds t u n → m + n ≤ all → Adds s u all
  adds_both {s} {t} {u} all a b l = record {
    more = a.more ++ b.more;
    entries = b.entries ∙ ap (λ (xs : List Entry). xs ++ b.more) a.entries ∙ append_assoc s.entries a.more b.more;
    few = (let e = total-append w a.more b.more in let x = a.few in let y = b.few in omega arith);
  }

  pub adds_one : {s t : Laying} {n : ℕ} (e : Entry) → t.entries ≡ s.entries ++ e ∷ [] → w e ≤ n → Adds s t n
  adds_one e q l = record { more = e ∷ []; entries = q; few = omega arith }
