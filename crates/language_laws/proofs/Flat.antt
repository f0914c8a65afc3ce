-- Scripts without branches, loops and composite calls: their one path is the script's.
use Rattle.std.specs.Prelude.{◌≡◌, Bool, true, false, ◌&&◌, List, [], ◌∷◌, refl}
use Rattle.std.specs.List.{list_all}
use Rattle.std.proofs.lemmas.Bool.{and_parts}
use Rattle.values.specs.declared.key.Key.{Key}
use Rattle.values.specs.declared.value.Scalar.{Scalar}
use Rattle.values.specs.declared.value.Value.{Value}
use Rattle.values.specs.declared.value.Value.TheVariants.{One}
use Rattle.language.specs.Core.{Call, Stmt, Action, when, choose, range, each, Block, Core}
use Rattle.language.specs.Facts.{value, Knowledge}
use Rattle.language.specs.Meaning.{Live, script, opened, waited, called, LiveStmt, in_block, HasValue, stored, in_turn}
use Rattle.language.specs.Members.{◌∈◌, first, later}
use Rattle.language.specs.Openings.{Opens, then_alone, then_first, else_second, turn, item}
use Rattle.language.specs.Parts.{script_stmts, stmt_calls, stmt_action}
use Rattle.language.specs.Places.{Path, Place}
use Rattle.language_laws.proofs.Declared.{stmt_in}

-- no header that opens a block under a key
abbrev pub is_plain : Action → Bool
is_plain (when c b) = false
is_plain (choose c b d) = false
is_plain (range lo hi st x t b) = false
is_plain (each a x t b) = false
is_plain _ = true

abbrev is_none : List Call → Bool
is_none [] = true
is_none (c ∷ cs) = false

abbrev pub is_flat : Stmt → Bool
is_flat st = is_plain (stmt_action st) && is_none (stmt_calls st)

-- a script that opens no block under a key
abbrev pub Flat : Core → Type 0
Flat s = list_all is_flat (script_stmts s) ≡ true

pub opens_none : {a : Action} {vs : List Value} {k : Key} {c : Block} → is_plain a ≡ true → Opens a vs k c → ⊥
opens_none e then_alone = absurd (cc (e))
opens_none e then_first = absurd (cc (e))
opens_none e else_second = absurd (cc (e))
opens_none e (turn q g i) = absurd (cc (e))
opens_none e (item m) = absurd (cc (e))

none_in : (cs : List Call) {c : Call} → is_none cs ≡ true → c ∈ cs → ⊥
none_in [] e m = elim m [ ]
none_in (d ∷ cs) e m = absurd (cc (e))

all_of : (p : Stmt → Bool) (ss : List Stmt) {st : Stmt} → list_all p ss ≡ true → st ∈ ss → p st ≡ true
all_of p [] h m = elim m [ ]
all_of p (s ∷ ss) h first = (and_parts (p s) (list_all p ss) h).0
all_of p (s ∷ ss) h (later m) = all_of p ss (and_parts (p s) (list_all p ss) h).1 m

module _ (s : Core) (flat : Flat s) where
  pub plain_stmt : {st : Stmt} → st ∈ script_stmts s → is_plain (stmt_action st) ≡ true
  plain_stmt {st} m = (and_parts (is_plain (stmt_action st)) (is_none (stmt_calls st)) (all_of is_flat (script_stmts s) flat m)).0

  pub call_free : {st : Stmt} {c : Call} → st ∈ script_stmts s → c ∈ stmt_calls st → ⊥
  call_free {st} m i = none_in (stmt_calls st) (and_parts (is_plain (stmt_action st)) (is_none (stmt_calls st)) (all_of is_flat (script_stmts s) flat m)).1 i

  -- every live statement stands at the script's own path
  pub at_script : {K : Knowledge} {path : Path} {b : Block} → Live s K path b → path ≡ []
  at_script script = refl
  at_script (opened l m r o d) = absurd (opens_none (plain_stmt (stmt_in s (in_block l m))) o)
  at_script (waited l m r) = at_script l
  at_script (called l m c e d) = absurd (call_free (stmt_in s (in_block l m)) c)

  pub flat_stmt : {K : Knowledge} {path : Path} {st : Stmt} → LiveStmt s K path st → (path ≡ []) × (st ∈ script_stmts s)
  flat_stmt (in_block l m) = (at_script l, stmt_in s (in_block l m))

  -- each value is a stored one
  pub flat_value : {K : Knowledge} {p : Place} {v : Scalar} → HasValue s K p v → K (value p (One v))
  flat_value (stored k) = k
  flat_value (in_turn l m r o t d) = absurd (opens_none (plain_stmt (stmt_in s (in_block l m))) o)
