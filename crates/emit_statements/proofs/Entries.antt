-- The own entries of statements that have blocks.
use Rattle.std.proofs.Common.{◌≡◌, ◌<◌, ◌^◌, ℕ, List, [], ◌∷◌, ◌++◌, map, length, length-append, refl, sym, ap, subst, ◌∙◌, Option, None, Some, true, arith}
use Rattle.std.specs.Prelude.{pos, option_to_list}
use Rattle.std.specs.List.{flat_map}
use Rattle.std.proofs.lemmas.List.{append-nil}
use Rattle.language.specs.Core.{Name, Expr, whole, Outer, Action, Block, when, choose, each, range}
use Rattle.language.specs.Parts.{outer_parts}
use Rattle.task_code.specs.Code as code
use Rattle.task_code.specs.Code.{Act, Each, Loop, Need, If, Closed, Range}
use Rattle.task_code.specs.View.{entry_view}
use Rattle.task_code.specs.declared.entry.Entry.{Entry as Made}
use Rattle.code_rules.specs.CodeNames.{name_as, wanted, each_once, over}
use Rattle.code_rules.specs.IsCodeOf.{Layout, own_exprs, own_needs, own_priority, seen, step_expr}
use Rattle.code_rules.specs.Laying.{PlainAs, Suits}
use Rattle.code_rules.specs.Room.{FormRoom, OuterRoom, StepRoom}
use Rattle.emit_cells.specs.PlainNeeds.{IsReady, Noted, need_of}
use Rattle.emit_cells.specs.declared.needs.PlainNeed.{PlainNeed}
use Rattle.emit_cells.specs.Made.{made}
use Rattle.emit_cells.specs.declared.entries.StatementContext.{StatementContext}
use Rattle.emit_cells.proofs.Ready.{ready_many}
use Rattle.emit_statements.specs.Seen.{seen_last}
use Rattle.emit_statements.proofs.Outers.{all_seen, few_as, own_entry}
use Rattle.emit_statements.specs.Blocks.{OwnAddedAs, branched, ranged, seen_step}

-- an entry stands behind the others, whatever needs it has
abbrev pub AddsEntry : StatementContext → ℕ → List PlainNeed → Act → List Made → List Made → Type 0
AddsEntry s n ks act old new = (ns : List Need) → Noted ns ks → map entry_view new ≡ map entry_view old ++ made s (record { node = n; offset = s.at }) (each_once ns) act ∷ []

own_added_as : (s : StatementContext) (n : ℕ) (a : Action) (es : List Expr) (F : List Need → List Expr → Act) (ks : List PlainNeed) (act : Act) (old new : List Made) → s.priority ≡ own_priority a
    → ((l : Layout) → Suits l a → es ≡ own_exprs l s.inputs a) → Noted (flat_map (wanted s.inputs) es) ks → act ≡ F (map need_of ks) es → AddsEntry s n ks act old new
    → OwnAddedAs s.inputs s.at a (λ l. F (own_needs l s.inputs a) (own_exprs l s.inputs a)) old new
own_added_as s n a es F ks act old new priority seen_is noted does adds = record {
  entry = made s (record { node = n; offset = s.at }) (each_once (flat_map (wanted s.inputs) es)) act;
  is = adds (flat_map (wanted s.inputs) es) noted;
  own = own_entry s n a es F ks act priority seen_is noted does;
  offset_is = refl;
}

-- BRANCHES

last_few : (k : ℕ) (o : Outer) → FormRoom k o.cell.form → length (wanted k (seen_last o)) < 2 ^ 30
last_few k o room = few_as k o.cell.node _ o.cell.form room

single : (k : ℕ) (e : Expr) (ks : List PlainNeed) → Noted (wanted k e) ks → Noted (flat_map (wanted k) (e ∷ [])) ks
single k e ks h = subst (λ ns. Noted ns ks) (sym (append-nil (wanted k e))) h

test_is : (k : ℕ) (o : Outer) (e : Expr) (ks : List PlainNeed) (x : code.Expr) → FormRoom k o.cell.form → e ≡ seen_last o → Noted (wanted k e) ks → (IsReady ks → x ≡ over k (map need_of ks) e) → x ≡ over k (map need_of ks) e
test_is k o e ks x room is noted placed = placed (ready_many (wanted k e) ks noted (let few = subst (λ y. length (wanted k y) < 2 ^ 30) (sym is) (last_few k o room) in omega arith))

pub when_added : (s : StatementContext) (n : ℕ) (o : Outer) (b : Block) (e : Expr) (t : ℕ) (m : Option ℕ) (ks : List PlainNeed) (x : code.Expr) (old new : List Made) → FormRoom s.inputs o.cell.form → s.priority ≡ pos 0 → m ≡ None → e ≡ seen_last o
    → Noted (wanted s.inputs e) ks → (IsReady ks → x ≡ over s.inputs (map need_of ks) e) → AddsEntry s n ks (If x t m) old new
    → OwnAddedAs s.inputs s.at (when o b) (λ l. If (over s.inputs (own_needs l s.inputs (when o b)) (seen l o.cell)) t None) old new
when_added s n o b e t m ks x old new room priority none is noted placed adds =
    own_added_as s n (when o b) (e ∷ []) (branched s.inputs t None) ks (If x t m) old new priority
    (λ l suits. ap (λ y. y ∷ []) is ∙ all_seen l (o ∷ []) suits.parts_plain) (single s.inputs e ks noted)
    (ap (λ y. If y t m) (test_is s.inputs o e ks x room is noted placed) ∙ ap (If (over s.inputs (map need_of ks) e) t) none) adds

pub choose_added : (s : StatementContext) (n : ℕ) (o : Outer) (b d : Block) (e : Expr) (t j : ℕ) (m : Option ℕ) (ks : List PlainNeed) (x : code.Expr) (old new : List Made) → FormRoom s.inputs o.cell.form → s.priority ≡ pos 0 → m ≡ Some j → e ≡ seen_last o
    → Noted (wanted s.inputs e) ks → (IsReady ks → x ≡ over s.inputs (map need_of ks) e) → AddsEntry s n ks (If x t m) old new
    → OwnAddedAs s.inputs s.at (choose o b d) (λ l. If (over s.inputs (own_needs l s.inputs (choose o b d)) (seen l o.cell)) t (Some j)) old new
choose_added s n o b d e t j m ks x old new room priority some is noted placed adds =
    own_added_as s n (choose o b d) (e ∷ []) (branched s.inputs t (Some j)) ks (If x t m) old new priority
    (λ l suits. ap (λ y. y ∷ []) is ∙ all_seen l (o ∷ []) suits.parts_plain) (single s.inputs e ks noted)
    (ap (λ y. If y t m) (test_is s.inputs o e ks x room is noted placed) ∙ ap (If (over s.inputs (map need_of ks) e) t) some) adds

-- RANGES

bounds_seen : (l : Layout) (k : ℕ) (lo hi : Outer) (st : Option Outer) → PlainAs l None (outer_parts (lo ∷ hi ∷ option_to_list st)) → seen_last lo ∷ seen_last hi ∷ seen_step st ∷ [] ≡ seen l lo.cell ∷ seen l hi.cell ∷ step_expr l k st ∷ []
bounds_seen l k lo hi None h = ap (λ es. es ++ seen_step None ∷ []) (all_seen l (lo ∷ hi ∷ []) h)
bounds_seen l k lo hi (Some o) h = all_seen l (lo ∷ hi ∷ o ∷ []) h

step_few : (k : ℕ) (st : Option Outer) → StepRoom k st → length (wanted k (seen_step st)) < 2 ^ 30
step_few k None room = omega arith
step_few k (Some o) room = last_few k o room.1

bounds_few : (k : ℕ) (lo hi : Outer) (st : Option Outer) → OuterRoom k lo → OuterRoom k hi → StepRoom k st → length (flat_map (wanted k) (seen_last lo ∷ seen_last hi ∷ seen_step st ∷ [])) < 2 ^ 32
bounds_few k lo hi st room_lo room_hi room_st =
    few (wanted k (seen_last lo)) (wanted k (seen_last hi)) (wanted k (seen_step st)) (last_few k lo room_lo.1) (last_few k hi room_hi.1) (step_few k st room_st)
  where
    few : (xs ys zs : List Need) → length xs < 2 ^ 30 → length ys < 2 ^ 30 → length zs < 2 ^ 30 → length (xs ++ (ys ++ (zs ++ []))) < 2 ^ 32
    few xs ys zs a b c =
        let d = length-append xs (ys ++ (zs ++ [])) in
        let e = length-append ys (zs ++ []) in
        let f = length-append zs [] in
        omega arith

pub range_added : (s : StatementContext) (n : ℕ) (lo hi : Outer) (st : Option Outer) (x : ℕ) (y : Option ℕ) (b : Block) (w : Loop) (ks : List PlainNeed) (act : Act) (old new : List Made)
    → OuterRoom s.inputs lo → OuterRoom s.inputs hi → StepRoom s.inputs st → s.priority ≡ pos 0
    → Noted (flat_map (wanted s.inputs) (seen_last lo ∷ seen_last hi ∷ seen_step st ∷ [])) ks → (IsReady ks → act ≡ ranged s.inputs w (map need_of ks) (seen_last lo ∷ seen_last hi ∷ seen_step st ∷ [])) → AddsEntry s n ks act old new
    → OwnAddedAs s.inputs s.at (range lo hi st x y b)
    (λ l. Range (over s.inputs (own_needs l s.inputs (range lo hi st x y b)) (seen l lo.cell)) (over s.inputs (own_needs l s.inputs (range lo hi st x y b)) (seen l hi.cell)) (over s.inputs (own_needs l s.inputs (range lo hi st x y b)) (step_expr l s.inputs st)) w) old new
range_added s n lo hi st x y b w ks act old new room_lo room_hi room_st priority noted placed adds =
    own_added_as s n (range lo hi st x y b) (seen_last lo ∷ seen_last hi ∷ seen_step st ∷ []) (ranged s.inputs w) ks act old new priority
    (λ l suits. bounds_seen l s.inputs lo hi st suits.parts_plain) noted (placed (ready_many _ ks noted (bounds_few s.inputs lo hi st room_lo room_hi room_st))) adds

-- ARRAYS

pub each_added : (s : StatementContext) (n : ℕ) (a : Name) (x : ℕ) (y : Option ℕ) (b : Block) (w : Loop) (ks : List PlainNeed) (old new : List Made) → s.priority ≡ pos 0 → Noted (Closed (name_as s.inputs true a) ∷ []) ks → AddsEntry s n ks (Each w) old new
    → OwnAddedAs s.inputs s.at (each a x y b) (λ l. Each w) old new
each_added s n a x y b w ks old new priority noted adds = own_added_as s n (each a x y b) (whole a ∷ []) (λ ns es. Each w) ks (Each w) old new priority (λ l suits. refl) noted refl adds
