-- Outermost cells, one behind another: their parts, their data, and what the own entry of their statement does.
use Rattle.std.proofs.Common.{◌≡◌, ◌<◌, ◌^◌, ℕ, ℤ, Bool, true, false, List, [], ◌∷◌, ◌++◌, map, length, refl, sym, ap, subst, ◌∙◌, None, Some, Option, arith, append_assoc}
use Rattle.std.specs.List.{flat_map}
use Rattle.indexmap.specs.IndexMap.{IndexMap}
use Rattle.language.specs.Core.{literal, name, whole, operator, Expr, Form, compute, read, Cell, Part, inner, calls, Outer, Action}
use Rattle.language.specs.Members.{◌∈◌, later}
use Rattle.language.specs.Parts.{outer_parts}
use Rattle.task_code.specs.Code.{Act, Need, Variable}
use Rattle.task_code.specs.declared.entry.Argument.{Argument as Handed}
use Rattle.task_code.specs.declared.entry.Entry.{Entry as Made}
use Rattle.code_rules.specs.CodeNames.{wanted, each_once}
use Rattle.code_rules.specs.IsCodeOf.{Layout, own_exprs, own_needs, own_priority, seen, seen_as}
use Rattle.code_rules.specs.Laying.{IsOwnEntry, Kinds, PlainAs, Suits, data_in, cell_data, plain_after}
use Rattle.code_rules.specs.Room.{FormRoom}
use Rattle.emit_cells.specs.Before.{last_of}
use Rattle.emit_cells.specs.PlainNeeds.{Noted, need_of}
use Rattle.emit_cells.specs.declared.needs.PlainNeed.{PlainNeed}
use Rattle.emit_cells.specs.Chunk.{Added, Inside, Passes}
use Rattle.emit_cells.specs.Made.{made}
use Rattle.emit_cells.specs.declared.entries.StatementContext.{StatementContext}
use Rattle.emit_cells.proofs.Chunks.{added_both}
use Rattle.emit_cells.proofs.Lasts.{data_both, inside_front}
use Rattle.emit_cells.proofs.Passing.{passes_both, told_in}
use Rattle.emit_statements.specs.Seen.{seen_last}
use Rattle.emit_statements.proofs.Starts.{inside_all}

-- A cell gives no scalar to the one behind it

plain_behind : (c : Cell) (f : Form) → plain_after (Some (inner c)) f ≡ plain_after None f
plain_behind c (compute (literal v)) = refl
plain_behind c (compute (name x)) = refl
plain_behind c (compute (whole a)) = refl
plain_behind c (compute (operator o es)) = refl
plain_behind c (read a i) = refl

first_plain : (l : Layout) (c : Cell) (ps : List Part) → PlainAs l (Some (inner c)) ps → PlainAs l None ps
first_plain l c [] h = tt
first_plain l c (inner d ∷ ps) h = (h.0 ∙ plain_behind c d.form, h.1)
first_plain l c (calls d ∷ ps) h = h

behind_plain : (l : Layout) (q : Option Part) (ps : List Part) (c : Cell) (qs : List Part) → PlainAs l q (ps ++ inner c ∷ qs) → PlainAs l None qs
behind_plain l q [] c qs h = first_plain l c qs h.1
behind_plain l q (inner d ∷ ps) c qs h = behind_plain l (Some (inner d)) ps c qs h.1
behind_plain l q (calls d ∷ ps) c qs h = behind_plain l (Some (calls d)) ps c qs h

behind_there : (x : Part) (ps : List Part) (y : Part) (qs : List Part) → x ∈ qs → x ∈ (ps ++ y ∷ qs)
behind_there x [] y qs i = later i
behind_there x (z ∷ ps) y qs i = later (behind_there x ps y qs i)

-- PARTS

outer_first : (o : Outer) (os : List Outer) → (o.parts ++ inner o.cell ∷ []) ++ outer_parts os ≡ outer_parts (o ∷ os)
outer_first o os = append_assoc o.parts (inner o.cell ∷ []) (outer_parts os)

-- the parts of the first one and those of the others stand among all
pub inside_first : (all : List Part) (o : Outer) (os : List Outer) → Inside all (outer_parts (o ∷ os)) → Inside all (o.parts ++ inner o.cell ∷ [])
inside_first all o os h = inside_front all (o.parts ++ inner o.cell ∷ []) (outer_parts os) (subst (Inside all) (sym (outer_first o os)) h)

pub inside_rest : (all : List Part) (o : Outer) (os : List Outer) → Inside all (outer_parts (o ∷ os)) → Inside all (outer_parts os)
inside_rest all o os h = record { plain = λ l a. behind_plain l None o.parts o.cell (outer_parts os) (h.plain l a); there = λ x i. h.there x (behind_there x o.parts (inner o.cell) (outer_parts os) i) }

pub passes_outer : {S : Type 0} {k : ℕ} {all : List Part} (o : Outer) (os : List Outer) (x y z : IndexMap ℕ Handed S) → Passes k all (o.parts ++ inner o.cell ∷ []) x y → Passes k all (outer_parts os) y z
    → Passes k all (outer_parts (o ∷ os)) x z
passes_outer {k = k} {all = all} o os x y z a b = subst (λ l. Passes k all l x z) (outer_first o os) (passes_both (o.parts ++ inner o.cell ∷ []) (outer_parts os) x y z a b)

pub added_outer : {fs : List Kinds} {k : ℕ} {all : List Part} {at : ℕ} {p : ℤ} (o : Outer) (os : List Outer) (x y z : List Made) → Added fs k all at p (o.parts ++ inner o.cell ∷ []) x y → Added fs k all at p (outer_parts os) y z
    → Added fs k all at p (outer_parts (o ∷ os)) x z
added_outer {fs = fs} {k = k} {all = all} {at = at} {p = p} o os x y z a b = subst (λ l. Added fs k all at p l x z) (outer_first o os) (added_both (o.parts ++ inner o.cell ∷ []) (outer_parts os) x y z a b)

-- DATA

data_behind : (c : Cell) (ps : List Part) → data_in (Some (inner c)) ps ≡ data_in None ps
data_behind c [] = refl
data_behind c (inner d ∷ ps) = ap (λ b. cell_data b d.node ++ data_in (Some (inner d)) ps) (plain_behind c d.form)
data_behind c (calls d ∷ ps) = refl

last_is : (q : Option Part) (ps : List Part) (x : Part) → last_of q (ps ++ x ∷ []) ≡ Some x
last_is q [] x = refl
last_is q (y ∷ ps) x = last_is (Some y) ps x

pub data_outer : (o : Outer) (os : List Outer) (old mid new : List Variable) → mid ≡ old ++ data_in None (o.parts ++ inner o.cell ∷ []) → new ≡ mid ++ data_in None (outer_parts os) → new ≡ old ++ data_in None (outer_parts (o ∷ os))
data_outer o os old mid new x y =
    let ps = o.parts ++ inner o.cell ∷ [] in
    let qs = outer_parts os in
    y ∙ ap (λ l. l ++ data_in None qs) x ∙ append_assoc old (data_in None ps) (data_in None qs)
    ∙ ap (λ l. old ++ (data_in None ps ++ l)) (sym (ap (λ q. data_in q qs) (last_is None o.parts (inner o.cell)) ∙ data_behind o.cell qs))
    ∙ ap (λ l. old ++ l) (sym (ap (data_in None) (sym (outer_first o os)) ∙ data_both None ps qs))

-- WHAT IS SEEN

first_seen : (l : Layout) (o : Outer) (os : List Outer) → PlainAs l None (outer_parts (o ∷ os)) → seen_last o ≡ seen l o.cell
first_seen l o os h = ap (λ t. seen_as t o.cell.node o.cell.form) (sym (told_in (outer_parts (o ∷ os)) (outer_parts (o ∷ os)) o.parts o.cell (outer_parts os) (inside_all (outer_parts (o ∷ os))) refl l h))

pub all_seen : (l : Layout) (os : List Outer) → PlainAs l None (outer_parts os) → map seen_last os ≡ map (λ o. seen l o.cell) os
all_seen l [] h = refl
all_seen l (o ∷ os) h = ap (λ e. e ∷ map seen_last os) (first_seen l o os h) ∙ ap (λ es. seen l o.cell ∷ es) (all_seen l os (behind_plain l None o.parts o.cell (outer_parts os) h))

pub few_as : (k n : ℕ) (b : Bool) (f : Form) → FormRoom k f → length (wanted k (seen_as b n f)) < 2 ^ 30
few_as k n true (compute e) room = room.1
few_as k n true (read a i) room = omega arith
few_as k n false f room = omega arith

-- the own entry of a statement, which works these expressions out
pub own_entry : (s : StatementContext) (n : ℕ) (a : Action) (es : List Expr) (F : List Need → List Expr → Act) (ks : List PlainNeed) (act : Act) → s.priority ≡ own_priority a
    → ((l : Layout) → Suits l a → es ≡ own_exprs l s.inputs a) → Noted (flat_map (wanted s.inputs) es) ks → act ≡ F (map need_of ks) es
    → IsOwnEntry (made s (record { node = n; offset = s.at }) (each_once (flat_map (wanted s.inputs) es)) act) s.at s.inputs a (λ l. F (own_needs l s.inputs a) (own_exprs l s.inputs a))
own_entry s n a es F ks act priority seen_is noted does =
    λ l suits. record {
      at_is = refl;
      priority_is = priority;
      needs_is = ap (λ x. each_once (flat_map (wanted s.inputs) x)) (seen_is l suits);
      act_is = does ∙ ap (λ ns. F ns es) noted.are ∙ ap (λ x. F (each_once (flat_map (wanted s.inputs) x)) x) (seen_is l suits);
    }
