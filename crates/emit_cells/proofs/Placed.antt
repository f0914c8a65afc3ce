-- The part at a place.
use Rattle.std.proofs.Common.{◌≡◌, ℕ, suc, ◌<◌, ◌≤◌, ℤ, Bool, true, false, List, [], ◌∷◌, ◌++◌, map, length, sym, ap, subst, ◌∙◌, Option, take, drop, get_or, arith, true≢false}
use Rattle.language.specs.Core.{literal, name, whole, operator, Form, compute, read, Cell, Call, Part, inner, calls}
use Rattle.language.specs.Members.{◌∈◌}
use Rattle.task_code.specs.Code.{Code}
use Rattle.task_code.specs.declared.entry.Entry.{Entry as Made}
use Rattle.code_rules.specs.IsCodeOf.{Layout, PartAs, plain_literal, plain_name}
use Rattle.code_rules.specs.Laying.{Kinds, plain_after}
use Rattle.code_rules.specs.Room.{Each, FormRoom, PartRoom}
use Rattle.emit_cells.specs.Before.{before}
use Rattle.emit_cells.specs.Chunk.{Inside, Told, Added, part_at}
use Rattle.emit_cells.proofs.Chunks.{chunk_plain, added_none}
use Rattle.emit_cells.proofs.Passing.{split_at, part_is, room_in, told_in, in_place}

module _ {X : Type 0} (V : X → Part) (fs : List Kinds) (k : ℕ) (all : List Part) (at : ℕ) (p : ℤ) (xs : List X) (i : ℕ) (x : X) where
  abbrev ps : List Part
  ps = map V xs

  split : (y : Part) → i < length xs → x ≡ get_or xs i x → V x ≡ y → ps ≡ take i ps ++ (y ∷ drop (suc i) ps)
  split y below is form = split_at V xs i x below is ∙ ap (λ z. take i ps ++ (z ∷ drop (suc i) ps)) form

  there : (y : Part) → i < length xs → x ≡ get_or xs i x → V x ≡ y → Inside all ps → y ∈ all
  there y below is form inside = inside.there y (subst (λ l. y ∈ l) (sym (split y below is form)) (in_place (take i ps) y (drop (suc i) ps)))

  room : (y : Part) → i < length xs → x ≡ get_or xs i x → V x ≡ y → Each (PartRoom k) ps → PartRoom k y
  room y below is form h = room_in (PartRoom k) (take i ps) y (drop (suc i) ps) (subst (Each (PartRoom k)) (split y below is form) h)

  here : (y : Part) (old new : List Made) → i < length xs → x ≡ get_or xs i x → V x ≡ y → Added fs k all at p (y ∷ []) old new → Added fs k all at p (part_at ps i) old new
  here y old new below is form a = subst (λ l. Added fs k all at p l old new) (sym (part_is V xs i x below is ∙ ap (λ z. z ∷ []) form)) a

  pub part_call : (d : Call) (old new : List Made) → i < length xs → x ≡ get_or xs i x → V x ≡ calls d → Each (PartRoom k) ps → Inside all ps
      → (PartRoom k (calls d) → calls d ∈ all → Added fs k all at p (calls d ∷ []) old new) → Added fs k all at p (part_at ps i) old new
  part_call d old new below is form fits inside add = here (calls d) old new below is form (add (room (calls d) below is form fits) (there (calls d) below is form inside))

  told : (c : Cell) (b : Bool) → i < length xs → x ≡ get_or xs i x → V x ≡ inner c → Inside all ps → (i ≤ length xs → b ≡ plain_after (before ps i) c.form) → Told all c.node b
  told c b below is form inside plain = subst (Told all c.node) (sym (plain (omega arith))) (told_in all ps (take i ps) c (drop (suc i) ps) inside (split (inner c) below is form))

  pub part_cell : (c : Cell) (b : Bool) (old new : List Made) → i < length xs → x ≡ get_or xs i x → V x ≡ inner c → Each (PartRoom k) ps → Inside all ps → (i ≤ length xs → b ≡ plain_after (before ps i) c.form) → b ≡ false
      → (FormRoom k c.form → inner c ∈ all → Told all c.node false → Added fs k all at p (inner c ∷ []) old new) → Added fs k all at p (part_at ps i) old new
  part_cell c b old new below is form fits inside plain no_datum add =
      here (inner c) old new below is form
      (add (room (inner c) below is form fits) (there (inner c) below is form inside) (subst (Told all c.node) no_datum (told c b below is form inside plain)))

  pub part_plain : (c : Cell) (b : Bool) (old : List Made) → i < length xs → x ≡ get_or xs i x → V x ≡ inner c → Inside all ps → (i ≤ length xs → b ≡ plain_after (before ps i) c.form) → b ≡ true
      → Added fs k all at p (part_at ps i) old old
  part_plain c b old below is form inside plain datum =
      here (inner c) old old below is form (added_none (inner c ∷ []) old (chunk_plain (inner c)
      (λ C l agrees. as_plain C l c.node c.form (before ps i) (sym (plain (omega arith)) ∙ datum) (subst (Told all c.node) datum (told c b below is form inside plain) l agrees))))
    where
      as_plain : (C : Code) (l : Layout) (n : ℕ) (f : Form) (q : Option Part) → plain_after q f ≡ true → l.plain n ≡ true → PartAs C l k all at p (inner (record { node = n; form = f })) []
      as_plain C l n (compute (literal v)) q e h = plain_literal h
      as_plain C l n (compute (name y)) q e h = plain_name h
      as_plain C l n (compute (whole a)) q e h = absurd (true≢false (sym e))
      as_plain C l n (compute (operator o es)) q e h = absurd (true≢false (sym e))
      as_plain C l n (read a j) q e h = absurd (true≢false (sym e))
