-- Cells that a statement works out itself, and the data of outermost cells.
use Rattle.std.proofs.Common.{◌≡◌, ℕ, ℤ, Bool, true, false, List, [], ◌∷◌, ◌++◌, sym, ap, subst, ◌∙◌, Option, None, append_assoc}
use Rattle.std.proofs.lemmas.List.{append-nil}
use Rattle.language.specs.Core.{Name, Expr, Form, compute, read, Cell, Part, inner}
use Rattle.language.specs.Members.{◌∈◌}
use Rattle.language_laws.specs.TypedValues.{own_cell}
use Rattle.task_code.specs.Code.{Variable}
use Rattle.task_code.specs.declared.entry.Entry.{Entry as Made}
use Rattle.code_rules.specs.Laying.{Kinds, plain_after, data_in, cell_data}
use Rattle.emit_cells.specs.Before.{last_of}
use Rattle.emit_cells.specs.Chunk.{Inside, Told, Added}
use Rattle.emit_cells.proofs.Chunks.{added_none, chunk_none}
use Rattle.emit_cells.proofs.Lasts.{last_told, last_there, data_both}

pub own_worked : (fs : List Kinds) (k : ℕ) (all : List Part) (at : ℕ) (p : ℤ) (c : Cell) (e : Expr) (f : Form) (old : List Made) → f ≡ compute e → Added fs k all at p (own_cell c f) old old
own_worked fs k all at p c e f old is = subst (λ g. Added fs k all at p (own_cell c g) old old) (sym is) (added_none [] old chunk_none)

pub own_read : (fs : List Kinds) (k : ℕ) (all : List Part) (at : ℕ) (p : ℤ) (ps : List Part) (c : Cell) (a : Name) (i : ℕ) (old new : List Made) → c.form ≡ read a i → Inside all (ps ++ own_cell c c.form)
    → (inner c ∈ all → Told all c.node false → Added fs k all at p (inner c ∷ []) old new) → Added fs k all at p (own_cell c c.form) old new
own_read fs k all at p ps c a i old new is inside add =
    let here : Inside all (ps ++ inner c ∷ []) = subst (λ f. Inside all (ps ++ own_cell c f)) is inside in
    let none : false ≡ plain_after (last_of None ps) c.form = sym (ap (plain_after (last_of None ps)) is) in
    subst (λ f. Added fs k all at p (own_cell c f) old new) (sym is) (add (last_there all ps c here) (last_told all ps c false here none))

pub datum_plain : (q : Option Part) (c : Cell) (b : Bool) (old : List Variable) → b ≡ plain_after q c.form → b ≡ true → old ≡ old ++ data_in q (inner c ∷ [])
datum_plain q c b old e t = sym (append-nil old) ∙ ap (λ d. old ++ (cell_data d c.node ++ [])) (sym t ∙ e)

pub datum_cell : (q : Option Part) (c : Cell) (b : Bool) (old new : List Variable) → b ≡ plain_after q c.form → b ≡ false → new ≡ old ++ cell_data false c.node → new ≡ old ++ data_in q (inner c ∷ [])
datum_cell q c b old new e f n = n ∙ ap (λ d. old ++ (cell_data d c.node ++ [])) (sym f ∙ e)

pub datum_worked : (q : Option Part) (c : Cell) (x : Expr) (f : Form) (old : List Variable) → f ≡ compute x → old ≡ old ++ data_in q (own_cell c f)
datum_worked q c x f old is = sym (append-nil old) ∙ ap (λ g. old ++ data_in q (own_cell c g)) (sym is)

pub datum_read : (q : Option Part) (c : Cell) (a : Name) (i : ℕ) (old new : List Variable) → c.form ≡ read a i → new ≡ old ++ cell_data false c.node → new ≡ old ++ data_in q (own_cell c c.form)
datum_read q c a i old new is n =
    n ∙ ap (λ d. old ++ (cell_data d c.node ++ [])) (sym (ap (plain_after q) is)) ∙ ap (λ g. old ++ data_in q (own_cell c g)) (sym is)

pub data_two : (xs ys : List Part) (old now new : List Variable) → now ≡ old ++ data_in None xs → new ≡ now ++ data_in (last_of None xs) ys → new ≡ old ++ data_in None (xs ++ ys)
data_two xs ys old now new a b =
    b ∙ ap (λ l. l ++ data_in (last_of None xs) ys) a ∙ append_assoc old (data_in None xs) (data_in (last_of None xs) ys) ∙ ap (λ l. old ++ l) (sym (data_both None xs ys))
