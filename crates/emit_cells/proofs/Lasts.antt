-- Outermost cells, and the data of parts.
use Rattle.std.proofs.Common.{◌≡◌, ℕ, ◌+◌, ℤ, Bool, true, false, List, [], ◌∷◌, ◌++◌, refl, sym, ap, subst, ◌∙◌, Option, Some, None, take, append_assoc, true≢false}
use Rattle.std.proofs.lemmas.List.{append-nil}
use Rattle.indexmap.specs.IndexMap.{IndexMap}
use Rattle.language.specs.Core.{Name, literal, name, whole, operator, Form, compute, read, Cell, Call, Part, inner, calls}
use Rattle.language.specs.Members.{◌∈◌, first, later}
use Rattle.task_code.specs.Code.{Code, Variable}
use Rattle.task_code.specs.declared.entry.Argument.{Argument as Handed}
use Rattle.task_code.specs.declared.entry.Entry.{Entry as Made}
use Rattle.code_rules.specs.IsCodeOf.{Layout, PartAs, plain_literal, plain_name}
use Rattle.code_rules.specs.Laying.{Kinds, PlainAs, plain_after, data_in, cell_data, output_scalars, one_output, local_node}
use Rattle.emit_cells.specs.Before.{last_of, before}
use Rattle.emit_cells.specs.Chunk.{Inside, Told, Added, Passes, Puts, passed_as, part_at}
use Rattle.emit_cells.proofs.Chunks.{chunk_plain, added_none}
use Rattle.emit_cells.proofs.Passing.{in_place, cell_in, told_in, passed_handed, passes_cell, taken_more}

front_plain : (l : Layout) (p : Option Part) (ps qs : List Part) → PlainAs l p (ps ++ qs) → PlainAs l p ps
front_plain l p [] qs h = tt
front_plain l p (inner c ∷ ps) qs h = (h.0, front_plain l (Some (inner c)) ps qs h.1)
front_plain l p (calls c ∷ ps) qs h = front_plain l (Some (calls c)) ps qs h

front_there : (x : Part) (ps qs : List Part) → x ∈ ps → x ∈ (ps ++ qs)
front_there x (y ∷ ps) qs first = first
front_there x (y ∷ ps) qs (later i) = later (front_there x ps qs i)
front_there x [] qs i = elim i [ ]

pub inside_front : (all ps qs : List Part) → Inside all (ps ++ qs) → Inside all ps
inside_front all ps qs h = record { plain = λ l a. front_plain l None ps qs (h.plain l a); there = λ x i. h.there x (front_there x ps qs i) }

pub last_told : (all ps : List Part) (c : Cell) (b : Bool) → Inside all (ps ++ inner c ∷ []) → b ≡ plain_after (last_of None ps) c.form → Told all c.node b
last_told all ps c b inside e = subst (Told all c.node) (sym e) (told_in all (ps ++ inner c ∷ []) ps c [] inside refl)

pub last_there : (all ps : List Part) (c : Cell) → Inside all (ps ++ inner c ∷ []) → inner c ∈ all
last_there all ps c inside = inside.there (inner c) (in_place ps (inner c) [])

pub pass_last : {S : Type 0} (k : ℕ) (all ps : List Part) (c : Cell) (b : Bool) (old new : IndexMap ℕ Handed S) → Inside all (ps ++ inner c ∷ []) → b ≡ plain_after (last_of None ps) c.form
    → Puts c.node (passed_as k b c.node c.form) old new → Passes k all (inner c ∷ []) old new
pass_last k all ps c b old new inside e put =
    passes_cell c (passed_as k b c.node c.form) old new put
    (passed_handed k c.node all (last_of None ps) b c.form (cell_in all c (last_there all ps c inside)) (sym e) (last_told all ps c b inside e))

pub plain_last : (fs : List Kinds) (k : ℕ) (all : List Part) (at : ℕ) (p : ℤ) (ps : List Part) (c : Cell) (b : Bool) (old : List Made) → Inside all (ps ++ inner c ∷ []) → b ≡ plain_after (last_of None ps) c.form → b ≡ true
    → Added fs k all at p (inner c ∷ []) old old
plain_last fs k all at p ps c b old inside e datum =
    added_none (inner c ∷ []) old (chunk_plain (inner c) (λ C l agrees. as_plain C l c.node c.form (last_of None ps) (sym e ∙ datum) (subst (Told all c.node) datum (last_told all ps c b inside e) l agrees)))
  where
    as_plain : (C : Code) (l : Layout) (n : ℕ) (f : Form) (q : Option Part) → plain_after q f ≡ true → l.plain n ≡ true → PartAs C l k all at p (inner (record { node = n; form = f })) []
    as_plain C l n (compute (literal v)) q e h = plain_literal h
    as_plain C l n (compute (name y)) q e h = plain_name h
    as_plain C l n (compute (whole a)) q e h = absurd (true≢false (sym e))
    as_plain C l n (compute (operator o es)) q e h = absurd (true≢false (sym e))
    as_plain C l n (read a j) q e h = absurd (true≢false (sym e))

-- DATA

pub data_both : (p : Option Part) (xs ys : List Part) → data_in p (xs ++ ys) ≡ data_in p xs ++ data_in (last_of p xs) ys
data_both p [] ys = refl
data_both p (inner c ∷ xs) ys = ap (λ l. cell_data (plain_after p c.form) c.node ++ l) (data_both (Some (inner c)) xs ys) ∙ sym (append_assoc (cell_data (plain_after p c.form) c.node) (data_in (Some (inner c)) xs) (data_in (last_of (Some (inner c)) xs) ys))
data_both p (calls c ∷ xs) ys = ap (λ l. output_scalars c.outputs ++ l) (data_both (Some (calls c)) xs ys) ∙ sym (append_assoc (output_scalars c.outputs) (data_in (Some (calls c)) xs) (data_in (last_of (Some (calls c)) xs) ys))

-- the data of one more part
pub data_more : (ps : List Part) (i : ℕ) (old now new : List Variable) → now ≡ old ++ data_in None (take i ps) → new ≡ now ++ data_in (before ps i) (part_at ps i) → new ≡ old ++ data_in None (take (i + 1) ps)
data_more ps i old now new a b =
    b ∙ ap (λ l. l ++ data_in (before ps i) (part_at ps i)) a ∙ append_assoc old (data_in None (take i ps)) (data_in (before ps i) (part_at ps i))
    ∙ ap (λ l. old ++ l) (sym (ap (data_in None) (taken_more ps i) ∙ data_both None (take i ps) (part_at ps i)))

pub data_call : (q : Option Part) (ps : List Part) (d : Call) (old new : List Variable) → ps ≡ calls d ∷ [] → new ≡ old ++ output_scalars d.outputs → new ≡ old ++ data_in q ps
data_call q ps d old new is e = e ∙ ap (λ l. old ++ l) (sym (append-nil (output_scalars d.outputs))) ∙ ap (λ l. old ++ data_in q l) (sym is)

pub data_plain : (q : Option Part) (ps : List Part) (c : Cell) (old : List Variable) → ps ≡ inner c ∷ [] → plain_after q c.form ≡ true → old ≡ old ++ data_in q ps
data_plain q ps c old is e = sym (append-nil old) ∙ ap (λ b. old ++ (cell_data b c.node ++ [])) (sym e) ∙ ap (λ l. old ++ data_in q l) (sym is)

pub data_cell : (q : Option Part) (ps : List Part) (c : Cell) (old new : List Variable) → ps ≡ inner c ∷ [] → plain_after q c.form ≡ false → new ≡ old ++ cell_data false c.node → new ≡ old ++ data_in q ps
data_cell q ps c old new is e n = n ∙ ap (λ b. old ++ (cell_data b c.node ++ [])) (sym e) ∙ ap (λ l. old ++ data_in q l) (sym is)

outputs_both : (xs ys : List Name) → output_scalars (xs ++ ys) ≡ output_scalars xs ++ output_scalars ys
outputs_both [] ys = refl
outputs_both (x ∷ xs) ys = ap (λ l. one_output (local_node x) ++ l) (outputs_both xs ys) ∙ sym (append_assoc (one_output (local_node x)) (output_scalars xs) (output_scalars ys))
