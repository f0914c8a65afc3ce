-- `IsWhole` as computable tests, statement by statement.
use Rattle.std.specs.Prelude.{ℕ, zero, suc, Bool, true, false, ◌&&◌, List, [], ◌∷◌, ◌++◌, length, nat_eq, nat_lt, option_to_list}
use Rattle.std.specs.List.{list_all}
use Rattle.language.specs.Core.{Owned, local, input, output, Name, Part, inner, calls, Stmt, stmt, Action, when, choose, range, each, wait, Block, no_stmts, stmts, Function, Core}
use Rattle.language.specs.Parts.{parts}
use Rattle.flow.specs.declared.statement.Header.{Header}
use Rattle.flow.specs.View.{names_view}
use Rattle.flow.specs.Names.{form_names, own_names}
use Rattle.flow.specs.Whole.{Owner, times, opened_owner, script_owner, function_owner, in_content}

abbrev pub is_one : ℕ → Bool
is_one n = nat_eq n 1

abbrev pub declares : Owner → Owned → Bool
declares o (local n) = is_one (times n o.nodes)
declares o (input i) = nat_lt i o.inputs
declares o (output i) = nat_lt i o.outputs

-- a name refers the given number of blocks outwards
abbrev pub leads : List Owner → ℕ → Owned → Bool
leads [] k x = false
leads (o ∷ os) zero x = declares o x
leads (o ∷ os) (suc k) x = leads os k x

abbrev pub is_declared : List Owner → Name → Bool
is_declared os x = leads os x.up x.what

abbrev pub are_declared : List Owner → List Name → Bool
are_declared os xs = list_all (is_declared os) xs

abbrev pub part_fits : List Owner → ℕ → Part → Bool
part_fits os fs (inner c) = are_declared os (form_names c.form)
part_fits os fs (calls c) = are_declared os (c.inputs ++ c.outputs) && nat_lt c.function fs

abbrev pub parts_fit : List Owner → ℕ → List Part → Bool
parts_fit os fs ps = list_all (part_fits os fs) ps

-- the names and functions that a statement uses outside its nested blocks
abbrev pub is_fit : List Owner → ℕ → Action → Bool
is_fit os fs a = are_declared os (own_names a) && parts_fit os fs (parts a)

-- a block with its nested blocks
abbrev mutual
  pub fits_inside : List Owner → ℕ → Action → Bool
  fits_inside os fs (when c b) = fits (opened_owner (record { variables = []; block = b }) ∷ os) fs b
  fits_inside os fs (choose c b d) = fits (opened_owner (record { variables = []; block = b }) ∷ os) fs b && fits (opened_owner (record { variables = []; block = d }) ∷ os) fs d
  fits_inside os fs (range lo hi st v k b) = fits (opened_owner (record { variables = v ∷ option_to_list k; block = b }) ∷ os) fs b
  fits_inside os fs (each a v k b) = fits (opened_owner (record { variables = v ∷ option_to_list k; block = b }) ∷ os) fs b
  fits_inside os fs (wait xs b) = fits (in_content b os) fs b
  fits_inside os fs _ = true

  pub fits_stmt : List Owner → ℕ → Stmt → Bool
  fits_stmt os fs (stmt at n a) = is_fit os fs a && fits_inside os fs a

  pub fits : List Owner → ℕ → Block → Bool
  fits os fs no_stmts = true
  fits os fs (stmts s b) = fits_stmt os fs s && fits os fs b

-- the waits merged into another one
abbrev pub headers_fit : {A : Type 0} → List Owner → List (Header A) → Bool
headers_fit os hs = list_all (λ h. are_declared os (names_view h.names.items)) hs

abbrev pub function_fits : ℕ → Function → Bool
function_fits fs f = fits (function_owner f ∷ []) fs f.body

abbrev pub is_whole : Core → Bool
is_whole s = fits (script_owner s ∷ []) (length s.functions) s.body && list_all (function_fits (length s.functions)) s.functions
