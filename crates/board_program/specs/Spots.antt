-- Resolution of the names of a body: to a slot of the body itself, or to the address that they have in the enclosing
-- body.
use Rattle.std.specs.Prelude.{◌^◌, min, ℕ, zero, suc, ◌+◌, ◌-◌, List, [], ◌∷◌, length, replicate, set, Option, Some, None, slice_index_or}
use Rattle.task_code.specs.Code.{body, Body, ByCalls, ByMain, ByStep, ByWait, Code, Local, Name, Opener, Owned, Parameter, Variable, nth}
use Rattle.task_code.specs.Places.{variable_eq}
use Rattle.std.specs.Prelude.{if◌then◌else◌}
use Rattle.board_history.specs.Fields.{Absent, Frame, Layout, Slot, frame_up}
use Rattle.board_program.specs.declared.lexical_address.LexicalAddress.{LexicalAddress}

-- the body is recorded for these entries
abbrev pub note : ℕ → List ℕ → List (Option ℕ) → List (Option ℕ)
note b [] hs = hs
note b (i ∷ is) hs = note b is (set hs i (Some b))

-- each body, from a number on, is recorded for its entries
abbrev pub noted : ℕ → List Body → List (Option ℕ) → List (Option ℕ)
noted b [] hs = hs
noted b (x ∷ xs) hs = noted (suc b) xs (note b x.entries hs)

-- the body that contains each entry
abbrev pub homes_of : Code → List (Option ℕ)
homes_of C = noted 0 C.bodies (replicate (length C.entries) None)

-- the index of a variable in a list, counted from n
abbrev pub place_from : ℕ → Variable → List Variable → Option ℕ
place_from n v [] = None
place_from n v (w ∷ ws) = if variable_eq w v then Some n else place_from (suc n) v ws

-- a parameter has a slot after the variables of its function's body; slot numbers saturate at 64 bits
abbrev pub parameter_slot : ℕ → ℕ → Opener → Option ℕ
parameter_slot n k ByMain = None
parameter_slot n k (ByWait i) = None
parameter_slot n k (ByStep i) = None
parameter_slot n k ByCalls = Some (min (n + k) (2 ^ 64 - 1))

-- the slot of a variable or parameter of the body itself
abbrev pub own_slot : Body → Owned → Option ℕ
own_slot b (Local v) = place_from 0 v b.makes
own_slot b (Parameter k a) = parameter_slot (length b.makes) k b.opener

-- the slot in the body itself, if the owner of the name lies no step further out
abbrev pub own_if : ℕ → Body → Owned → Option ℕ
own_if zero b x = own_slot b x
own_if (suc up) b x = None

-- the body that contains an entry, with the remaining steps
abbrev pub at_home : Option ℕ → ℕ → Option (ℕ × ℕ)
at_home None up = None
at_home (Some b) up = Some (b, up)

abbrev pub home_of : List (Option ℕ) → ℕ → Option ℕ
home_of hs i = slice_index_or hs i None

-- the body that encloses one with this opener: one step is consumed, unless a `wait` opens it
abbrev pub go_out : List (Option ℕ) → Opener → ℕ → Option (ℕ × ℕ)
go_out hs ByMain up = None
go_out hs ByCalls up = None
go_out hs (ByWait i) up = at_home (home_of hs i) up
go_out hs (ByStep i) zero = None
go_out hs (ByStep i) (suc up) = at_home (home_of hs i) up

-- n instances further out
abbrev pub further : ℕ → Option LexicalAddress → Option LexicalAddress
further n None = None
further n (Some s) = Some (record { levels = n + s.levels; slot = s.slot })

abbrev pub found_or : Option ℕ → Option LexicalAddress → Option LexicalAddress
found_or (Some n) r = Some (record { levels = 0; slot = n })
found_or None r = r

abbrev pub around : Option (ℕ × ℕ) → (ℕ → ℕ → Option LexicalAddress) → Option LexicalAddress
around None f = None
around (Some p) f = further 1 (f p.0 p.1)

-- the address of a name, searched through at most `most` bodies
abbrev pub spot_from : Code → List (Option ℕ) → (most body up : ℕ) → Owned → Option LexicalAddress
spot_from C hs zero b up x = None
spot_from C hs (suc m) b up x = found_or (own_if up (body C b) x) (around (go_out hs (body C b).opener up) (λ c n. spot_from C hs m c n x))

-- the address of a name of a body
abbrev pub spot_in : Code → ℕ → Name → Option LexicalAddress
spot_in C b r = spot_from C (homes_of C) (length C.bodies) b r.up r.owned

-- a name that does not resolve has a slot that no instance has
abbrev pub levels_of : Option LexicalAddress → ℕ
levels_of None = 0
levels_of (Some s) = s.levels

abbrev pub slot_of : Option LexicalAddress → ℕ
slot_of None = 2 ^ 64
slot_of (Some s) = s.slot

-- the addresses of the names of all bodies
abbrev pub layout_of : Code → Layout
layout_of C = record { levels = λ b r. levels_of (spot_in C b r); slot = λ b r. slot_of (spot_in C b r) }

-- the slot at an address, as seen from an instance
abbrev pub frame_slot : List (Option Frame) → ℕ → LexicalAddress → Slot
frame_slot fs k s = elim (frame_up fs s.levels k) [ None ↦ Absent | Some f ↦ nth Absent f.slots s.slot ]
