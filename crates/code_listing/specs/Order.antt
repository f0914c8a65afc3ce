-- The order of the bodies in a listing, and the entries that make the values without a name.
use Rattle.std.specs.Prelude.{◌≡◌, ℕ, ◌+◌, ◌<◌, List, [], ◌∷◌, ◌++◌, length, take, cond, if◌then◌else◌, nat_eq, nat_lt, IsPermutation, IsSortedByKey}
use Rattle.std.specs.List.Sorted.{IsStableByKey}
use Rattle.std.specs.Ordering.{nat_cmp}
use Rattle.task_code.specs.Code.{Owned, Local, Parameter, Name, Act, Cell, Read, Call, Set, Fill, Copy, InsertElement, Print, Assert, If, Range, Each, Wait, Code, nth, entry, body}
use Rattle.code_listing.specs.declared.source_map.BodyInfo.{BodyInfo}
use Rattle.code_listing.specs.declared.bodies.BodyPosition.{BodyPosition}

-- ORDER

-- numbers of bodies fit 32 bits
abbrev pub max_bodies : ℕ
max_bodies = 4294967296

abbrev pub position : BodyInfo → ℕ → BodyPosition
position i k = record { from = i.from; body = k }

-- bodies numbered from k on
abbrev pub numbered : ℕ → List BodyInfo → List BodyPosition
numbered k [] = []
numbered k (i ∷ is) = position i k ∷ numbered (k + 1) is

abbrev pub body_positions : List BodyInfo → List BodyPosition
body_positions is = numbered 0 (take max_bodies is)

-- the bodies by the offsets of their `{`; those of one offset by their numbers
pub record IsOrder (is : List BodyInfo) (ps : List BodyPosition) : Type 0 where
  pub all : IsPermutation (body_positions is) ps
  pub rising : IsSortedByKey (λ p. p.from) nat_cmp ps
  pub stable : IsStableByKey (λ p. p.from) nat_cmp (body_positions is) ps

-- the numbers of the bodies
abbrev pub numbers_of : List BodyPosition → List ℕ
numbers_of [] = []
numbers_of (p ∷ ps) = p.body ∷ numbers_of ps

-- the place of the last of these positions that is of a body, counted from k, else this one
abbrev pub place_among : ℕ → ℕ → List BodyPosition → ℕ → ℕ
place_among before k [] b = before
place_among before k (p ∷ ps) b = place_among (cond (nat_eq p.body b) k before) (k + 1) ps b

-- the place in the listing of each body
pub record ArePlaces (ps : List BodyPosition) (places : List ℕ) : Type 0 where
  pub many : length places ≡ length ps
  pub each : (b : ℕ) → b < length ps → nth 0 places b ≡ place_among 0 0 ps b

-- VALUES WITHOUT A NAME

abbrev pub local_node : Owned → List ℕ
local_node (Local v) = v.node ∷ []
local_node (Parameter k b) = []

-- an output of a call that belongs to the block of the call
abbrev pub own_node : Name → List ℕ
own_node x = if nat_eq x.up 0 then local_node x.owned else []

abbrev pub own_nodes : List Name → List ℕ
own_nodes [] = []
own_nodes (x ∷ xs) = own_node x ++ own_nodes xs

-- the nodes whose values an entry of a node makes
abbrev pub made_by : ℕ → Act → List ℕ
made_by n (Cell e) = n ∷ []
made_by n Read = n ∷ []
made_by n (Call b rs os) = own_nodes os
made_by n (Set x e) = []
made_by n (Fill x es) = []
made_by n (Copy x) = []
made_by n (InsertElement x i e) = []
made_by n (Print e) = []
made_by n (Assert e) = []
made_by n (If e b d) = []
made_by n (Range l h s w) = []
made_by n (Each w) = []
made_by n (Wait hs b) = []

-- a node, and the number in its body of an entry that makes its value
pub record Made : Type 0 where
  pub node : ℕ
  pub number : ℕ

abbrev pub made_all : ℕ → List ℕ → List Made
made_all k [] = []
made_all k (n ∷ ns) = record { node = n; number = k } ∷ made_all k ns

abbrev pub entry_made : Code → ℕ → ℕ → List Made
entry_made C k i = if nat_lt i (length C.entries) then made_all k (made_by (entry C i).node (entry C i).act) else []

abbrev pub entries_made : Code → ℕ → List ℕ → List Made
entries_made C k [] = []
entries_made C k (i ∷ is) = entry_made C (k + 1) i ++ entries_made C (k + 1) is

abbrev pub body_made : Code → ℕ → List Made
body_made C b = if nat_lt b (length C.bodies) then entries_made C 0 (body C b).entries else []

abbrev pub bodies_made : Code → List BodyPosition → List Made
bodies_made C [] = []
bodies_made C (p ∷ ps) = body_made C p.body ++ bodies_made C ps

-- the number of the last of these entries that makes the value of a node, else this one
abbrev pub maker_among : ℕ → List Made → ℕ → ℕ
maker_among before [] n = before
maker_among before (m ∷ ms) n = maker_among (cond (nat_eq m.node n) m.number before) ms n
