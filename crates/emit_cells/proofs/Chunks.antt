-- Chunks of entries, put together and one by one.
use Rattle.std.proofs.Common.{◌≡◌, inl, inr, ℕ, zero, suc, ◌+◌, ℤ, true, false, List, [], ◌∷◌, ◌++◌, map, length, refl, sym, ap, subst, ◌∙◌, Some, None, append_assoc, arith, length-append}
use Rattle.std.proofs.lemmas.List.{append-nil}
use Rattle.dataflow.proofs.Lists.{in_split}
use Rattle.language.specs.Core.{Name, here, Expr, compute, read, Cell, Part, inner}
use Rattle.language.specs.Members.{◌∈◌}
use Rattle.language.specs.Parts.{part_cells}
use Rattle.task_code.specs.Code as code
use Rattle.task_code.specs.Code.{Argument, Named, Fixed, Need, Code, Entry, entry, nth, blank_entry, is_array_name}
use Rattle.code_rules.specs.CodeNames.{name_as, wanted, each_once, over}
use Rattle.code_rules.specs.IsCodeOf.{Layout, IsEntry, IndexAs, at_literal, at_name, at_datum, PartAs, a_cell, a_read, PartsAs, no_part, one_part}
use Rattle.code_rules.specs.Laying.{CallsFit, IndexesStand, Kinds, PlainAs, counted}
use Rattle.emit_cells.specs.Chunk.{Told, HandedFor, literal_handed, name_handed, datum_handed, element_at, handed_in, IsPassed, Chunk, Added}
use Rattle.emit_cells.specs.Made.{made}
use Rattle.emit_cells.specs.declared.entries.EntryOrigin.{EntryOrigin}
use Rattle.emit_cells.specs.declared.entries.StatementContext.{StatementContext}
use Rattle.task_code.specs.View.{entry_view}
use Rattle.task_code.specs.declared.entry.Argument.{Argument as Handed}
use Rattle.task_code.specs.declared.entry.Entry.{Entry as Made}
use Rattle.indexmap.specs.IndexMap.{IndexMap}

-- NUMBERS

plus_zero : (a : ℕ) → a + 0 ≡ a
plus_zero a = omega arith

zero_plus : (n : ℕ) → n ≡ 0 + n
zero_plus n = omega arith

plus_suc : (a m : ℕ) → a + suc m ≡ suc a + m
plus_suc a m = omega arith

suc_plus : (m n : ℕ) → suc (m + n) ≡ suc m + n
suc_plus m n = omega arith

counted_both : (a m n : ℕ) → counted a m ++ counted (a + m) n ≡ counted a (m + n)
counted_both a zero n = ap (λ b. counted b n) (plus_zero a) ∙ ap (counted a) (zero_plus n)
counted_both a (suc m) n =
    ap (λ b. a ∷ (counted (suc a) m ++ counted b n)) (plus_suc a m) ∙ ap (λ l. a ∷ l) (counted_both (suc a) m n) ∙ ap (counted a) (suc_plus m n)

nth_at : (front : List Entry) (e : Entry) (rest : List Entry) → nth blank_entry (front ++ e ∷ rest) (length front) ≡ e
nth_at [] e rest = refl
nth_at (x ∷ front) e rest = nth_at front e rest

entry_at : (C : Code) (front rest : List Entry) (e : Entry) → C.entries ≡ front ++ (e ∷ rest) → entry C (length front) ≡ e
entry_at C front rest e is = ap (λ es. nth blank_entry es (length front)) is ∙ nth_at front e rest

parts_both : {C : Code} {l : Layout} {k : ℕ} {all : List Part} {at : ℕ} {p : ℤ} {ps qs : List Part} {is js : List ℕ} → PartsAs C l k all at p ps is → PartsAs C l k all at p qs js → PartsAs C l k all at p (ps ++ qs) (is ++ js)
parts_both no_part q = q
parts_both {js = js} (one_part {is = is} {js = hs} x xs e) q = one_part x (parts_both xs q) (ap (λ l. l ++ js) e ∙ append_assoc is hs js)

module _ {fs : List Kinds} {k : ℕ} {all : List Part} {at : ℕ} {p : ℤ} where
  pub chunk_none : Chunk fs k all at p [] []
  chunk_none = record { fit = λ e f ins outs i. absurd i; parts_as = λ C front rest is l plain bodies indexes. no_part }

  pub chunk_both : {ps qs : List Part} {m n : List Entry} → Chunk fs k all at p ps m → Chunk fs k all at p qs n → Chunk fs k all at p (ps ++ qs) (m ++ n)
  chunk_both {ps} {qs} {m} {n} a b = record {
    fit = λ e f ins outs i is. elim (in_split e m n i) [ inl q ↦ a.fit e f ins outs q is | inr q ↦ b.fit e f ins outs q is ];
    parts_as = λ C front rest is l plain bodies indexes.
        let one = a.parts_as C front (n ++ rest) (is ∙ ap (λ es. front ++ es) (append_assoc m n rest)) l plain bodies indexes in
        let two = b.parts_as C (front ++ m) rest (is ∙ ap (λ es. front ++ es) (append_assoc m n rest) ∙ sym (append_assoc front m (n ++ rest))) l plain bodies indexes in
        subst (PartsAs C l k all at p (ps ++ qs))
        (ap (λ h. counted (length front) (length m) ++ counted h (length n)) (length-append front m) ∙ counted_both (length front) (length m) (length n) ∙ ap (counted (length front)) (sym (length-append m n)))
        (parts_both one two);
  }

  -- one part without an entry, and one with an entry
  pub chunk_plain : (x : Part) → ((C : Code) (l : Layout) → PlainAs l None all → PartAs C l k all at p x []) → Chunk fs k all at p (x ∷ []) []
  chunk_plain x h = record { fit = λ e f ins outs i. absurd i; parts_as = λ C front rest is l plain bodies indexes. one_part (h C l plain) no_part refl }

  pub chunk_one : (x : Part) (e : Entry) → CallsFit fs all (e ∷ [])
      → ((C : Code) (j : ℕ) → entry C j ≡ e → (l : Layout) → PlainAs l None all → ((i : ℕ) → l.body_of i ≡ suc i) → IndexesStand all → PartAs C l k all at p x (j ∷ []))
      → Chunk fs k all at p (x ∷ []) (e ∷ [])
  chunk_one x e fit h = record {
    fit = fit;
    parts_as = λ C front rest is l plain bodies indexes. one_part (h C (length front) (entry_at C front rest e is) l plain bodies indexes) no_part refl;
  }

-- ENTRIES OF CELLS

fits_none : {fs : List Kinds} {all : List Part} (e : Entry) → ((f : ℕ) (ins : List Argument) (outs : List code.Name) → e.act ≡ code.Call (suc f) ins outs → ⊥) → CallsFit fs all (e ∷ [])
fits_none e h x f ins outs (inl is) act = absurd (h f ins outs (ap (λ (y : Entry). y.act) (sym is) ∙ act))
fits_none e h x f ins outs (inr i) act = absurd i

is_entry : {e x : Entry} {at : ℕ} {p : ℤ} {ns : List Need} {a : code.Act} → x ≡ e → IsEntry e at p ns a → IsEntry x at p ns a
is_entry {at = at} {p = p} {ns = ns} {a = a} is h = subst (λ (y : Entry). IsEntry y at p ns a) (sym is) h

-- a cell that works an expression out
pub chunk_computed : (fs : List Kinds) (k : ℕ) (all : List Part) (at : ℕ) (p : ℤ) (n : ℕ) (x : Expr) (e : Entry) → Told all n false → e.node ≡ n
    → IsEntry e at p (each_once (wanted k x)) (code.Cell (over k (each_once (wanted k x)) x)) → Chunk fs k all at p (inner (record { node = n; form = compute x }) ∷ []) (e ∷ [])
chunk_computed fs k all at p n x e told node is =
    chunk_one (inner (record { node = n; form = compute x })) e (fits_none e (λ f ins outs q. not_call (sym is.act_is ∙ q)))
    (λ C j same l plain bodies indexes. a_cell (told l plain) (ap (λ (y : Entry). y.node) same ∙ node) (is_entry same is))
  where
    not_call : {y : code.Expr} {b : ℕ} {ins : List Argument} {outs : List code.Name} → code.Cell y ≡ code.Call b ins outs → ⊥
    not_call q = cc

-- the element at what is handed over
index_handed : (k : ℕ) (all : List Part) (n : ℕ) (a : Argument) → HandedFor k all n a → (C : Code) (l : Layout) → PlainAs l None all → (x : Name) → IndexAs C l k all x n (element_at (name_as k true x) a)
index_handed k all n a (literal_handed there told is) C l plain x = subst (λ y. IndexAs C l k all x n (element_at (name_as k true x) y)) (sym is) (at_literal there (told l plain))
index_handed k all n a (name_handed there told is) C l plain x = subst (λ y. IndexAs C l k all x n (element_at (name_as k true x) y)) (sym is) (at_name there (told l plain))
index_handed k all n a (datum_handed {c} there node told is) C l plain x =
    subst (λ y. IndexAs C l k all x n (element_at (name_as k true x) y)) (sym is)
    (subst (λ m. IndexAs C l k all x m (code.At (name_as k true x) (name_as k false (here m)))) (sym node) (at_datum there (subst (λ m. l.plain m ≡ false) node (told l plain))))

-- a cell that reads an element
pub chunk_read : (fs : List Kinds) (k : ℕ) (all : List Part) (at : ℕ) (p : ℤ) (n i : ℕ) (x : Name) (need : Need) (e : Entry) → Told all n false → inner (record { node = n; form = read x i }) ∈ all
    → ((c : Cell) → c ∈ part_cells all → c.node ≡ i → (C : Code) (l : Layout) → PlainAs l None all → IndexAs C l k all x i need) → e.node ≡ n → IsEntry e at p (need ∷ []) code.Read
    → Chunk fs k all at p (inner (record { node = n; form = read x i }) ∷ []) (e ∷ [])
chunk_read fs k all at p n i x need e told there index node is =
    chunk_one (inner (record { node = n; form = read x i })) e (fits_none e (λ f ins outs q. not_call (sym is.act_is ∙ q)))
    (λ C j same l plain bodies indexes.
    let c = indexes n i x there in
    a_read (told l plain) (ap (λ (y : Entry). y.node) same ∙ node) (index c.0 c.1 c.2 C l plain) (is_entry same is))
  where
    not_call : {b : ℕ} {ins : List Argument} {outs : List code.Name} → code.Read ≡ code.Call b ins outs → ⊥
    not_call q = cc

pub index_found : {S : Type 0} (k : ℕ) (all : List Part) (m : IndexMap ℕ Handed S) (i : ℕ) (x : Name) (need : Need) → IsPassed k all m → ((a : Argument) → handed_in m i ≡ Some a → need ≡ element_at (name_as k true x) a)
    → (c : Cell) → c ∈ part_cells all → c.node ≡ i → (C : Code) (l : Layout) → PlainAs l None all → IndexAs C l k all x i need
index_found k all m i x need passed is c there node C l plain =
    let a = passed.found c there in
    let h : handed_in m i ≡ Some a.0 = ap (handed_in m) (sym node) ∙ a.1 in
    subst (λ y. IndexAs C l k all x i y) (sym (is a.0 h)) (index_handed k all i a.0 (passed.good i a.0 h) C l plain x)

-- ADDED

pub added_one : {fs : List Kinds} {k : ℕ} {all : List Part} {at : ℕ} {p : ℤ} (ps : List Part) (old new : List Made) (e : Entry) → map entry_view new ≡ map entry_view old ++ e ∷ [] → Chunk fs k all at p ps (e ∷ []) → Added fs k all at p ps old new
added_one ps old new e is chunk = record { more = e ∷ []; is = is; chunk = chunk }

pub added_none : {fs : List Kinds} {k : ℕ} {all : List Part} {at : ℕ} {p : ℤ} (ps : List Part) (old : List Made) → Chunk fs k all at p ps [] → Added fs k all at p ps old old
added_none ps old chunk = record { more = []; is = sym (append-nil (map entry_view old)); chunk = chunk }

pub added_both : {fs : List Kinds} {k : ℕ} {all : List Part} {at : ℕ} {p : ℤ} (ps qs : List Part) (x y z : List Made) → Added fs k all at p ps x y → Added fs k all at p qs y z → Added fs k all at p (ps ++ qs) x z
added_both ps qs x y z a b = record {
  more = a.more ++ b.more;
  is = b.is ∙ ap (λ l. l ++ b.more) a.is ∙ append_assoc (map entry_view x) a.more b.more;
  chunk = chunk_both a.chunk b.chunk;
}

-- A CELL'S ENTRY

pub computed_added : (fs : List Kinds) (k : ℕ) (all : List Part) (s : StatementContext) (w : EntryOrigin) (x : Expr) (old new : List Made) → Told all w.node false
    → map entry_view new ≡ map entry_view old ++ made s w (each_once (wanted k x)) (code.Cell (over k (each_once (wanted k x)) x)) ∷ []
    → Added fs k all s.at s.priority (inner (record { node = w.node; form = compute x }) ∷ []) old new
computed_added fs k all s w x old new told is =
    added_one _ old new (made s w (each_once (wanted k x)) (code.Cell (over k (each_once (wanted k x)) x))) is
    (chunk_computed fs k all s.at s.priority w.node x _ told refl (record { at_is = refl; priority_is = refl; needs_is = refl; act_is = refl }))

pub read_added : {S : Type 0} (fs : List Kinds) (k : ℕ) (all : List Part) (m : IndexMap ℕ Handed S) (s : StatementContext) (w : EntryOrigin) (i : ℕ) (x : Name) (need : Need) (old new : List Made) → IsPassed k all m → Told all w.node false
    → inner (record { node = w.node; form = read x i }) ∈ all → ((a : Argument) → handed_in m i ≡ Some a → need ≡ element_at (name_as k true x) a) → map entry_view new ≡ map entry_view old ++ made s w (need ∷ []) code.Read ∷ []
    → Added fs k all s.at s.priority (inner (record { node = w.node; form = read x i }) ∷ []) old new
read_added fs k all m s w i x need old new passed told there at is =
    added_one _ old new (made s w (need ∷ []) code.Read) is
    (chunk_read fs k all s.at s.priority w.node i x need _ told there (index_found k all m i x need passed at) refl (record { at_is = refl; priority_is = refl; needs_is = refl; act_is = refl }))
