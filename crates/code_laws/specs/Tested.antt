-- Computable tests that scalars have sources and cells follow what they need.
use Rattle.std.specs.Prelude.{ℕ, Bool, false, not, ◌&&◌, ◌||◌, nat_lt, [], ◌∷◌, Option, Some, None}
use Rattle.std.specs.List.{list_all, list_any}
use Rattle.task_code.specs.Code.{Variable, Name, Loop, Entry, Opener, ByMain, ByWait, ByStep, ByCalls, Body, Code, Way, entry, body, here, scalar, is_array_name, stored_of, loop_of, loop_variables, ways}
use Rattle.task_code.specs.Check.{name_in, variable_in, every_at, is_seen}
use Rattle.task_code.specs.Exact.{needs_of}
use Rattle.code_laws.specs.Sources.{always_opens, is_cell}

-- a variable of the loop
abbrev pub in_loop : Variable → Option Loop → Bool
in_loop v None = false
in_loop v (Some l) = variable_in v (loop_variables l)

module _ (C : Code) where
  -- a variable of the loop that opens a body
  abbrev pub is_turn : Variable → Opener → Bool
  is_turn v ByMain = false
  is_turn v (ByWait i) = false
  is_turn v (ByStep i) = in_loop v (loop_of (entry C i).act)
  is_turn v ByCalls = false

  -- no entry of the body may read the variable, or it has a source there
  abbrev pub is_supplied : Body → Variable → Bool
  is_supplied x v =
      v.array || (is_turn v x.opener || (list_any (λ k. name_in (here v) (entry C k).writes) x.entries || list_all (λ j. not (name_in (here v) (entry C j).reads)) x.entries))

  -- an entry of the body that is opened this way may write the variable of the name
  abbrev pub hands_on : Entry → Name → Way × ℕ → Bool
  hands_on e r s = list_any (λ j. list_any (is_seen C (r ∷ []) e.offset s.0) (entry C j).writes) (body C s.1).entries

  -- the entry stores the scalar, or passes on the right to it
  abbrev pub is_handed : Entry → Name → Bool
  is_handed e r = is_array_name r || (name_in r (stored_of e.node e.act) || (always_opens e.act && list_all (hands_on e r) (ways e.act)))

  -- a cell does not need a later cell
  abbrev pub is_behind : ℕ → Entry → ℕ → Entry → Bool
  is_behind i e j d = not (is_cell e.act) || (not (is_cell d.act) || (not (name_in (here (scalar d.node)) (needs_of e)) || nat_lt j i))

  abbrev pub has_sources : Bool
  has_sources =
      every_at (λ b x. list_all (is_supplied x) x.makes) C.bodies
      && (every_at (λ i e. list_all (is_handed e) e.writes) C.entries && every_at (λ i e. every_at (is_behind i e) C.entries) C.entries)
