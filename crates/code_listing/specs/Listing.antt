-- The text of a listing: a line for each body, and one for each of its entries.
use Rattle.std.specs.Prelude.{ℕ, zero, suc, ◌+◌, List, [], ◌∷◌, ◌++◌, map, length, codes, Option, None, Some, slice_get, if◌then◌else◌, nat_lt}
use Rattle.std.specs.List.{flat_map}
use Rattle.std.specs.Fmt.{decimal, signed_decimal}
use Rattle.task_code.specs.Code.{Kind, Control, Leaf, Owned, Local, Parameter, Name, Need, Stored, Closed, At, AtKey, Act, Cell, Read, Call, Set, Fill, Copy, InsertElement, Print, Assert, If, Range, Each, Wait, Entry, Code, kind_of, nth, entry, body, ways}
use Rattle.code_listing.specs.declared.source_map.BodyInfo.{BodyInfo}
use Rattle.code_listing.specs.declared.source_map.BodyKind.{BodyKind}
use Rattle.code_listing.specs.declared.source_map.BodyKind.TheVariants as Of

-- a function as a listing shows it: its name, and the names of its parameters, inputs first
pub record Signature : Type 0 where
  pub name : List ℕ
  pub parameters : List (List ℕ)

abbrev pub no_signature : Signature
no_signature = record { name = []; parameters = [] }

-- what a listing shows of a script beside its code: the name of the variable of each node, empty if it has none; its
-- functions, which have the numbers from 1 on; and for each node the number in its body of the entry that makes its value
pub record Labels : Type 0 where
  pub names : ℕ → List ℕ
  pub functions : List Signature
  pub makers : ℕ → ℕ

-- the function of a number; one without names for the script itself
abbrev pub function_at : List Signature → ℕ → Signature
function_at fs zero = no_signature
function_at fs (suc n) = nth no_signature fs n

-- NEEDS

-- the name of a variable, or `#` and the number of the entry that makes its value
abbrev pub local_text : List ℕ → ℕ → List ℕ
local_text [] maker = 35 ∷ decimal maker
local_text (b ∷ bs) maker = b ∷ bs

-- in a body of the function of this number
abbrev pub owned_text : Labels → ℕ → Owned → List ℕ
owned_text l f (Local v) = local_text (l.names v.node) (l.makers v.node)
owned_text l f (Parameter k b) = nth [] (function_at l.functions f).parameters k

abbrev pub name_text : Labels → ℕ → Name → List ℕ
name_text l f x = 32 ∷ owned_text l f x.owned

-- an index stands before its array
abbrev pub need_text : Labels → ℕ → Need → List ℕ
need_text l f (Stored x) = name_text l f x
need_text l f (Closed a) = name_text l f a ++ codes "[]"
need_text l f (At a x) = name_text l f x ++ (name_text l f a ++ codes "[*]")
need_text l f (AtKey a k) = name_text l f a ++ codes "[*]"

-- ENTRIES

abbrev pub kind_text : Kind → List ℕ
kind_text Control = codes " control"
kind_text Leaf = codes " leaf"

abbrev pub act_text : Act → List ℕ
act_text (Cell e) = codes " cell "
act_text Read = codes " read "
act_text (Call b rs os) = codes " call "
act_text (Set x e) = codes " set "
act_text (Fill x es) = codes " fill "
act_text (Copy x) = codes " copy "
act_text (InsertElement x i e) = codes " put "
act_text (Print e) = codes " print "
act_text (Assert e) = codes " assert "
act_text (If e b d) = codes " if "
act_text (Range l h s w) = codes " range "
act_text (Each w) = codes " each "
act_text (Wait hs b) = codes " wait "

-- the kind, the act, the offset in the script and the priority of an entry
abbrev pub act_line : Entry → List ℕ
act_line e = kind_text (kind_of e.act) ++ ((act_text e.act ++ decimal e.offset) ++ (32 ∷ signed_decimal e.priority))

-- the number of a body in the listing
abbrev pub place_text : Option ℕ → List ℕ
place_text None = 32 ∷ []
place_text (Some place) = 32 ∷ decimal place

-- the bodies that an act opens, by their numbers in the listing
abbrev pub opened_text : List ℕ → List ℕ → List ℕ
opened_text places [] = []
opened_text places (b ∷ bs) = codes " >" ++ flat_map (λ c. place_text (slice_get places c)) (b ∷ bs)

abbrev pub bodies_opened : Act → List ℕ
bodies_opened a = map (λ w. w.1) (ways a)

-- the line of an entry, by its number in its body
abbrev pub entry_text : Labels → ℕ → List ℕ → ℕ → Entry → List ℕ
entry_text l f places number e =
    (codes "  " ++ decimal number) ++ (act_line e ++ (flat_map (need_text l f) e.needs ++ (opened_text places (bodies_opened e.act) ++ 10 ∷ [])))

-- the same by the entry's number in the code; nothing if there is none
abbrev pub entry_line : Code → Labels → ℕ → List ℕ → ℕ → ℕ → List ℕ
entry_line C l f places number i = if nat_lt i (length C.entries) then entry_text l f places number (entry C i) else []

-- the lines of the entries of a body, counted from a number on
abbrev pub entries_text : Code → Labels → ℕ → List ℕ → ℕ → List ℕ → List ℕ
entries_text C l f places n [] = []
entries_text C l f places n (i ∷ is) = entry_line C l f places (n + 1) i ++ entries_text C l f places (n + 1) is

-- BODIES

abbrev pub what_text : BodyKind → List ℕ
what_text Of.Script = codes " script"
what_text Of.Function = codes " function "
what_text Of.Then = codes " then"
what_text Of.Else = codes " else"
what_text Of.Loop = codes " loop"
what_text Of.Wait = codes " wait"

-- the name of the function whose body it is
abbrev pub whose : List Signature → BodyInfo → BodyKind → List ℕ
whose fs i Of.Function = (function_at fs i.function).name
whose fs i _ = []

abbrev pub title_text : List Signature → BodyInfo → ℕ → List ℕ
title_text fs i place = (codes "body " ++ decimal place) ++ (what_text i.what ++ whose fs i i.what)

-- a body with its entries, by its number in the code and its place in the listing
abbrev pub body_text : Code → List BodyInfo → Labels → List ℕ → ℕ → ℕ → List ℕ
body_text C infos l places place b = elim (slice_get infos b) [
  | None ↦ []
  | Some i ↦ if nat_lt b (length C.bodies) then title_text l.functions i place ++ (10 ∷ [] ++ entries_text C l i.function places 0 (body C b).entries) else []
]

-- bodies in this order, counted from a place on
abbrev pub bodies_text : Code → List BodyInfo → Labels → List ℕ → ℕ → List ℕ → List ℕ
bodies_text C infos l places place [] = []
bodies_text C infos l places place (b ∷ bs) = body_text C infos l places place b ++ bodies_text C infos l places (place + 1) bs
