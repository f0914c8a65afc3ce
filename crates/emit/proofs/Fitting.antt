-- Where statements fit, those among them fit too.
use Rattle.std.proofs.Common.{◌≡◌, inl, inr, ℕ, ◌+◌, ◌*◌, ◌≤◌, List, [], ◌∷◌, ◌++◌, length, sym, ap, ◌∙◌, subst, arith}
use Rattle.language.specs.Core.{Stmt, stmt, Block, no_stmts, stmts}
use Rattle.language.specs.Members.{◌∈◌, first, later}
use Rattle.language.specs.Parts.{block_list, blocks_below, blocks_in, stmts_among, stmts_within}
use Rattle.language.proofs.Members.{either, to_left, to_right}
use Rattle.code_rules.specs.IsCodeOf.{Layout}
use Rattle.code_rules.specs.Laying.{Headers, one_header, more_headers, Laying}
use Rattle.code_rules.specs.Emitted.{stmts_size}
use Rattle.code_rules.specs.Room.{BlockRoom, StmtRoom}
use Rattle.task_code.specs.Code.{Header}
use Rattle.code_laws.proofs.Adding.{among-append}
use Rattle.emit.specs.Emits.{Fits, with_inner}

-- SIZES AND MEMBERS

pub size-append : (xs ys : List Stmt) → stmts_size (xs ++ ys) ≡ stmts_size xs + stmts_size ys
size-append [] ys = omega arith
size-append (x ∷ xs) ys = let a = size-append xs ys in omega arith

pub size-among : (bs cs : List Block) → stmts_size (stmts_among (bs ++ cs)) ≡ stmts_size (stmts_among bs) + stmts_size (stmts_among cs)
size-among bs cs = ap stmts_size (among-append bs cs) ∙ size-append (stmts_among bs) (stmts_among cs)

pub among-left : (bs cs : List Block) {x : Stmt} → x ∈ stmts_among bs → x ∈ stmts_among (bs ++ cs)
among-left bs cs {x} m = subst (λ (xs : List Stmt). x ∈ xs) (sym (among-append bs cs)) (to_left (stmts_among bs) (stmts_among cs) m)

pub among-right : (bs cs : List Block) {x : Stmt} → x ∈ stmts_among cs → x ∈ stmts_among (bs ++ cs)
among-right bs cs {x} m = subst (λ (xs : List Stmt). x ∈ xs) (sym (among-append bs cs)) (to_right (stmts_among bs) (stmts_among cs) m)

-- the first statement of a block, and the others
pub size-first : (st : Stmt) (b : Block) → stmts_size (stmts_within (stmts st b)) ≡ stmts_size (with_inner st) + stmts_size (stmts_within b)
size-first st b =
    let x = size-append (block_list b) (stmts_among (blocks_in st ++ blocks_below b)) in
    let y = size-among (blocks_in st) (blocks_below b) in
    let z = size-append (block_list b) (stmts_among (blocks_below b)) in
    omega arith

pub first-in : (st : Stmt) (b : Block) {x : Stmt} → x ∈ with_inner st → x ∈ stmts_within (stmts st b)
first-in st b first = first
first-in st b (later m) = later (to_right (block_list b) (stmts_among (blocks_in st ++ blocks_below b)) (among-left (blocks_in st) (blocks_below b) m))

pub others-in : (st : Stmt) (b : Block) {x : Stmt} → x ∈ stmts_within b → x ∈ stmts_within (stmts st b)
others-in st b m =
    elim (either (block_list b) (stmts_among (blocks_below b)) m) [
      | inl i ↦ later (to_left (block_list b) (stmts_among (blocks_in st ++ blocks_below b)) i)
      | inr i ↦ later (to_right (block_list b) (stmts_among (blocks_in st ++ blocks_below b)) (among-right (blocks_in st) (blocks_below b) i))
    ]

-- those of one block, and of another behind it
pub left-in : (b d : Block) {x : Stmt} → x ∈ stmts_within b → x ∈ stmts_among (b ∷ (blocks_below b ++ d ∷ blocks_below d))
left-in b d m = among-left (b ∷ blocks_below b) (d ∷ blocks_below d) m

pub right-in : (b d : Block) {x : Stmt} → x ∈ stmts_within d → x ∈ stmts_among (b ∷ (blocks_below b ++ d ∷ blocks_below d))
right-in b d m = among-right (b ∷ blocks_below b) (d ∷ blocks_below d) m

pub size-both : (b d : Block) → stmts_size (stmts_among (b ∷ (blocks_below b ++ d ∷ blocks_below d))) ≡ stmts_size (stmts_within b) + stmts_size (stmts_within d)
size-both b d = size-among (b ∷ blocks_below b) (d ∷ blocks_below d)

-- the content of the innermost of merged waits
pub size-inside : {k : ℕ} {st : Stmt} {hs : List Header} {b : Block} → Headers k st hs b → stmts_size (stmts_within b) ≤ stmts_size (stmts_among (blocks_in st))
size-inside (one_header {b = b} lone e) = omega arith
size-inside (more_headers {st = st} h e) = let a = size-inside h in let d = size-first st no_stmts in omega arith

pub inside-in : {k : ℕ} {st : Stmt} {hs : List Header} {b : Block} → Headers k st hs b → (x : Stmt) → x ∈ stmts_within b → x ∈ stmts_among (blocks_in st)
inside-in (one_header lone e) x m = m
inside-in (more_headers {st = st} h e) x m = first-in st no_stmts (later (inside-in h x m))

pub inside-room : {k : ℕ} {st : Stmt} {hs : List Header} {b : Block} → Headers k st hs b → StmtRoom k st → BlockRoom k b
inside-room (one_header lone e) room = room.1
inside-room (more_headers h e) room = inside-room h room.1.0

-- FITTING

pub fits-part : {l : Layout} {roots : ℕ} {xs : List Stmt} {s : Laying} (ys : List Stmt) (t : Laying) → Fits l roots xs s → ((x : Stmt) → x ∈ ys → x ∈ xs)
    → length t.entries + stmts_size ys ≤ length s.entries + stmts_size xs → length t.bodies + 2 * stmts_size ys ≤ length s.bodies + 2 * stmts_size xs → Fits l roots ys t
fits-part {l} {roots} {xs} {s} ys t fits sub less few = record {
  suits = λ at n a m. fits.suits at n a (sub (stmt at n a) m);
  entries = (let a = fits.entries in omega arith);
  bodies = (let a = fits.bodies in omega arith);
}
