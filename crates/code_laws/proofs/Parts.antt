-- What the entries of parts do is pinned by the parts: two layings of them do the same, entry by entry.
use Rattle.std.proofs.Common.{◌≡◌, ◌⊎◌, inl, inr, ℕ, suc, Bool, true, false, List, [], ◌∷◌, ◌++◌, length, refl, sym, ap, ◌∙◌, subst, append_assoc, Some}
use Rattle.std.specs.Prelude.{ℤ, slice_get}
use Rattle.dataflow.specs.System.{In}
use Rattle.language.specs.Core.{Owned, local, input, output, Name, here, literal, name, whole, operator, Form, compute, read, Cell, Call, Part, inner, calls}
use Rattle.language.specs.Members.{◌∈◌, first, later}
use Rattle.language.specs.Parts.{part_calls, part_cells}
use Rattle.task_code.specs.Code as code
use Rattle.task_code.specs.Code.{Act, Argument, Named, Fixed, At, AtKey, Code, Entry, Need, Read, blank_entry, entry, is_array_name, nth}
use Rattle.task_code.specs.Compute.{key_of}
use Rattle.code_rules.specs.CodeNames.{each_once, name_as, over, owned_as, wanted}
use Rattle.code_rules.specs.IsCodeOf.{Layout, IsEntry, InputAs, of_literal, of_name, of_datum, of_array, InputsAs, no_input, one_input, OutputsAs, no_output, one_output, IndexAs, at_literal, at_name, at_datum, CallAs, PartAs, plain_literal, plain_name, a_cell, a_read, a_call, PartsAs, no_part, one_part}
use Rattle.code_rules.specs.Laying.{CallFits, CallsFit, Kinds, StandsAmong, counted, is_array_argument}
use Rattle.code_laws.specs.Alike.{AllDoSame, DoSame, OpensAtMark, StoresAtNode}

-- LISTS

pub same-length : (es fs : List Entry) → AllDoSame es fs → length es ≡ length fs
same-length [] [] h = refl
same-length [] (f ∷ fs) h = absurd h
same-length (e ∷ es) [] h = absurd h
same-length (e ∷ es) (f ∷ fs) h = ap suc (same-length es fs h.1)

pub same-append : (es fs gs hs : List Entry) → AllDoSame es fs → AllDoSame gs hs → AllDoSame (es ++ gs) (fs ++ hs)
same-append [] [] gs hs a b = b
same-append [] (f ∷ fs) gs hs a b = absurd a
same-append (e ∷ es) [] gs hs a b = absurd a
same-append (e ∷ es) (f ∷ fs) gs hs a b = (a.0, same-append es fs gs hs a.1 b)

one_longer : (zs : List Entry) (z : Entry) → suc (length zs) ≡ length (zs ++ z ∷ [])
one_longer [] z = refl
one_longer (y ∷ zs) z = ap suc (one_longer zs z)

longer : (xs ys : List Entry) (x y : Entry) → length xs ≡ length ys → length (xs ++ x ∷ []) ≡ length (ys ++ y ∷ [])
longer xs ys x y q = sym (one_longer xs x) ∙ ap suc q ∙ one_longer ys y

-- ENTRIES

pub same_entry : {e f : Entry} {at : ℕ} {p : ℤ} {ns : List Need} {a : Act} → IsEntry e at p ns a → IsEntry f at p ns a → (StoresAtNode a → e.node ≡ f.node) → (OpensAtMark a → e.offset ≡ f.offset) → DoSame e f
same_entry h g node offset = record {
  at = h.at_is ∙ sym g.at_is;
  priority = h.priority_is ∙ sym g.priority_is;
  needs = h.needs_is ∙ sym g.needs_is;
  act = h.act_is ∙ sym g.act_is;
  node = λ z. node (subst StoresAtNode h.act_is z);
  offset = λ z. offset (subst OpensAtMark h.act_is z);
}

-- NAMES

owned_kind : (k : ℕ) (d : Bool) (u : ℕ) (o : Owned) → is_array_name (record { up = u; owned = owned_as k d o }) ≡ d
owned_kind k d u (local n) = refl
owned_kind k d u (input i) = refl
owned_kind k d u (output j) = refl

name_kind : (k : ℕ) (d : Bool) (x : Name) → is_array_name (name_as k d x) ≡ d
name_kind k d x = owned_kind k d x.up x.what

here_same : (m n : ℕ) → here m ≡ here n → m ≡ n
here_same m n q = let o : local m ≡ local n = ap (λ (z : Name). z.what) q in cc (o)

true_false : {X : Type 0} {b : Bool} → b ≡ true → b ≡ false → X
true_false h g = let z = sym h ∙ g in absurd (cc (z))

-- WHAT A CELL IS FOR OTHERS

-- the need of an element, by the cell that gives its index
abbrev index_need : Bool → Form → ℕ → ℕ → Name → Need
index_need false f n k a = At (name_as k true a) (name_as k false (here n))
index_need true (compute (literal v)) n k a = AtKey (name_as k true a) (key_of v)
index_need true (compute (name x)) n k a = At (name_as k true a) (name_as k false x)
index_need true (compute (whole x)) n k a = At (name_as k true a) (name_as k false (here n))
index_need true (compute (operator o es)) n k a = At (name_as k true a) (name_as k false (here n))
index_need true (read b i) n k a = At (name_as k true a) (name_as k false (here n))

-- what is handed over for a scalar
abbrev handed : Bool → Form → ℕ → ℕ → Argument
handed false f n k = Named (name_as k false (here n))
handed true (compute (literal v)) n k = Fixed v
handed true (compute (name x)) n k = Named (name_as k false x)
handed true (compute (whole x)) n k = Named (name_as k false (here n))
handed true (compute (operator o es)) n k = Named (name_as k false (here n))
handed true (read b i) n k = Named (name_as k false (here n))

handed_scalar : (b : Bool) (f : Form) (n k : ℕ) → is_array_argument (handed b f n k) ≡ false
handed_scalar false f n k = refl
handed_scalar true (compute (literal v)) n k = refl
handed_scalar true (compute (name x)) n k = name_kind k false x
handed_scalar true (compute (whole x)) n k = refl
handed_scalar true (compute (operator o es)) n k = refl
handed_scalar true (read b i) n k = refl

-- an input of which it is known whether it is an array
record Kinded (all : List Part) (x : Name) (a b : Argument) : Type 0 where
  kind : Bool
  left : (kind ≡ false → StandsAmong all x) → is_array_argument a ≡ kind
  right : (kind ≡ false → StandsAmong all x) → is_array_argument b ≡ kind

-- of a call it is known which inputs and outputs are arrays
pub record HasKinds (fs : List Kinds) (c : Call) : Type 0 where
  pub kinds : Kinds
  pub is : slice_get fs c.function ≡ Some kinds
  pub inputs : (j : ℕ) (x : Name) → slice_get c.inputs j ≡ Some x → (b : Bool) × (slice_get kinds.0 j ≡ Some b)
  pub outputs : (j : ℕ) (x : Name) → slice_get c.outputs j ≡ Some x → (b : Bool) × (slice_get kinds.1 j ≡ Some b)

-- of the parts of a statement each cell has a node of its own, each call an offset, and the kinds of calls are known
pub record ArePinned (fs : List Kinds) (all : List Part) : Type 0 where
  pub cells_once : (c d : Cell) → c ∈ part_cells all → d ∈ part_cells all → c.node ≡ d.node → c ≡ d
  pub calls_once : (c d : Call) → c ∈ part_calls all → d ∈ part_calls all → c.at ≡ d.at → c ≡ d
  pub kinds : (c : Call) → c ∈ part_calls all → HasKinds fs c

module _ (fs : List Kinds) (l : Layout) (bodies : (i : ℕ) → l.body_of i ≡ suc i) (k : ℕ) (all : List Part) (pinned : ArePinned fs all) where
  -- an index
  index_view : {E : Code} {a : Name} {n : ℕ} {m : Need} → IndexAs E l k all a n m → (c : Cell) × (c ∈ part_cells all) × (c.node ≡ n) × (m ≡ index_need (l.plain c.node) c.form c.node k a)
  index_view {a = a} (at_literal {n = n} {v = v} m h) = (record { node = n; form = compute (literal v) }, m, refl, ap (λ (b : Bool). index_need b (compute (literal v)) n k a) (sym h))
  index_view {a = a} (at_name {n = n} {x = x} m h) = (record { node = n; form = compute (name x) }, m, refl, ap (λ (b : Bool). index_need b (compute (name x)) n k a) (sym h))
  index_view {a = a} (at_datum {c = c} m h) = (c, m, refl, ap (λ (b : Bool). index_need b c.form c.node k a) (sym h))

  index_same : {C D : Code} {a : Name} {n : ℕ} {m m' : Need} → IndexAs C l k all a n m → IndexAs D l k all a n m' → m ≡ m'
  index_same {a = a} x y =
      let u = index_view x in
      let v = index_view y in
      u.3 ∙ ap (λ (c : Cell). index_need (l.plain c.node) c.form c.node k a) (pinned.cells_once u.0 v.0 u.1 v.1 (u.2 ∙ sym v.2)) ∙ sym v.3

  -- an input
  abbrev HandedOver : Name → Argument → Type 0
  HandedOver x a = (a ≡ Named (name_as k true x)) ⊎ ((c : Cell) × (c ∈ part_cells all) × (x ≡ here c.node) × (a ≡ handed (l.plain c.node) c.form c.node k))

  input_view : {E : Code} {x : Name} {a : Argument} → InputAs E l k all x a → HandedOver x a
  input_view (of_literal {n = n} {v = v} m h) = inr (record { node = n; form = compute (literal v) }, m, refl, ap (λ (b : Bool). handed b (compute (literal v)) n k) (sym h))
  input_view (of_name {n = n} {x = x} m h) = inr (record { node = n; form = compute (name x) }, m, refl, ap (λ (b : Bool). handed b (compute (name x)) n k) (sym h))
  input_view (of_datum {c = c} m h) = inr (c, m, refl, ap (λ (b : Bool). handed b c.form c.node k) (sym h))
  input_view of_array = inl refl

  handed_same : (x : Name) (a b : Argument) → HandedOver x a → HandedOver x b → Kinded all x a b → a ≡ b
  handed_same x a b (inl e) (inl f) q = e ∙ sym f
  handed_same x a b (inr c) (inr d) q = c.3 ∙ ap (λ (z : Cell). handed (l.plain z.node) z.form z.node k) (pinned.cells_once c.0 d.0 c.1 d.1 (here_same c.0.node d.0.node (sym c.2 ∙ d.2))) ∙ sym d.3
  handed_same x a b (inl e) (inr d) q =
      let stands : StandsAmong all x = record { cell = d.0; there = d.1; is = d.2 } in
      true_false (sym (q.left (λ z. stands)) ∙ ap is_array_argument e ∙ name_kind k true x) (sym (q.right (λ z. stands)) ∙ ap is_array_argument d.3 ∙ handed_scalar (l.plain d.0.node) d.0.form d.0.node k)
  handed_same x a b (inr c) (inl f) q =
      let stands : StandsAmong all x = record { cell = c.0; there = c.1; is = c.2 } in
      true_false (sym (q.right (λ z. stands)) ∙ ap is_array_argument f ∙ name_kind k true x) (sym (q.left (λ z. stands)) ∙ ap is_array_argument c.3 ∙ handed_scalar (l.plain c.0.node) c.0.form c.0.node k)

  inputs_same : {C D : Code} {xs : List Name} {ys zs : List Argument} → InputsAs C l k all xs ys → InputsAs D l k all xs zs
      → ((j : ℕ) (x : Name) (a b : Argument) → slice_get xs j ≡ Some x → slice_get ys j ≡ Some a → slice_get zs j ≡ Some b → Kinded all x a b) → ys ≡ zs
  inputs_same no_input no_input h = refl
  inputs_same (one_input {x = x} {a = a} i is) (one_input {a = b} j js) h =
      let one = handed_same x a b (input_view i) (input_view j) (h 0 x a b refl refl refl) in
      let rest = inputs_same is js (λ n. h (suc n)) in
      λ t. one t ∷ rest t

  outputs_same : {C D : Code} {xs : List Name} {ys zs : List code.Name} → OutputsAs C l k xs ys → OutputsAs D l k xs zs
      → ((j : ℕ) (x : Name) (r s : code.Name) → slice_get xs j ≡ Some x → slice_get ys j ≡ Some r → slice_get zs j ≡ Some s → is_array_name r ≡ is_array_name s) → ys ≡ zs
  outputs_same no_output no_output h = refl
  outputs_same (one_output b {x = x} os) (one_output d ps) h =
      let same : b ≡ d = sym (name_kind k b x) ∙ h 0 x (name_as k b x) (name_as k d x) refl refl refl ∙ name_kind k d x in
      let rest = outputs_same os ps (λ n. h (suc n)) in
      λ t. name_as k (same t) x ∷ rest t

  -- a call
  call_same : {C D : Code} {at : ℕ} {p : ℤ} {c : Call} {i j : ℕ} (x : CallAs C l k all at p c i) (y : CallAs D l k all at p c j) → CallFits fs all c x.ins x.outs → CallFits fs all c y.ins y.outs → HasKinds fs c → DoSame (entry C i) (entry D j)
  call_same {C} {D} {at} {p} {c} {i} {j} x y fx fy h =
      let ins : x.ins ≡ y.ins = inputs_same x.inputs y.inputs (λ n z a b q r s. (let g = h.inputs n z q in record { kind = g.0; left = fx.inputs h.kinds n z a g.0 h.is q r g.1; right = fy.inputs h.kinds n z b g.0 h.is q s g.1 })) in
      let outs : x.outs ≡ y.outs = outputs_same x.outputs y.outputs (λ n z r s q u v. (let g = h.outputs n z q in fx.outputs h.kinds n r g.0 h.is u g.1 ∙ sym (fy.outputs h.kinds n s g.0 h.is v g.1))) in
      let moved : IsEntry (entry D j) at p [] (code.Call (l.body_of c.function) x.ins x.outs) = subst (λ (zs : List Argument). IsEntry (entry D j) at p [] (code.Call (l.body_of c.function) zs x.outs)) (sym ins) (subst (λ (os : List code.Name). IsEntry (entry D j) at p [] (code.Call (l.body_of c.function) y.ins os)) (sym outs) y.is) in
      same_entry x.is moved (λ z. absurd z) (λ z. x.offset_is ∙ sym y.offset_is)

  -- what an entry that calls hands over is fitting, since its offset tells the call
  fits_of : {E : Code} {at : ℕ} {p : ℤ} {c : Call} {i : ℕ} (x : CallAs E l k all at p c i) (more : List Entry) → CallsFit fs all more → In (entry E i) more → c ∈ part_calls all → CallFits fs all c x.ins x.outs
  fits_of {E} {at} {p} {c} {i} x more fit there m =
      let f = fit (entry E i) c.function x.ins x.outs there ((x.is).act_is ∙ ap (λ (b : ℕ). code.Call b x.ins x.outs) (bodies c.function)) in
      subst (λ (z : Call). CallFits fs all z x.ins x.outs) (pinned.calls_once f.call c f.there m (sym f.offset ∙ x.offset_is)) f.fits

  -- PARTS

  module _ (at : ℕ) (p : ℤ) where
    abbrev FormAs : Code → Form → ℕ → Type 0
    FormAs E (compute e) j = IsEntry (entry E j) at p (each_once (wanted k e)) (code.Cell (over k (each_once (wanted k e)) e))
    FormAs E (read a i) j = (need : Need) × IndexAs E l k all a i need × IsEntry (entry E j) at p (need ∷ []) Read

    abbrev HasEntry : Code → Part → ℕ → Type 0
    HasEntry E (inner c) j = (l.plain c.node ≡ false) × ((entry E j).node ≡ c.node) × FormAs E c.form j
    HasEntry E (calls c) j = CallAs E l k all at p c j

    abbrev HasNone : Part → Type 0
    HasNone (inner c) = l.plain c.node ≡ true
    HasNone (calls c) = ⊥

    record One (E : Code) (x : Part) (is : List ℕ) : Type 0 where
      number : ℕ
      are : is ≡ number ∷ []
      has : HasEntry E x number

    record NoOne (x : Part) (is : List ℕ) : Type 0 where
      are : is ≡ []
      has : HasNone x

    part_view : {E : Code} {x : Part} {is : List ℕ} → PartAs E l k all at p x is → NoOne x is ⊎ One E x is
    part_view (plain_literal z) = inl (record { are = refl; has = z })
    part_view (plain_name z) = inl (record { are = refl; has = z })
    part_view (a_cell {j = j} z nd en) = inr (record { number = j; are = refl; has = (z, nd, en) })
    part_view (a_read {j = j} {need = need} z nd ix en) = inr (record { number = j; are = refl; has = (z, nd, (need, ix, en)) })
    part_view (a_call {j = j} ca) = inr (record { number = j; are = refl; has = ca })

    none_one : (E : Code) (x : Part) (j : ℕ) → HasNone x → HasEntry E x j → ⊥
    none_one E (inner c) j h g = true_false h g.0
    none_one E (calls c) j h g = h

    form_same : (C D : Code) (f : Form) (i j n : ℕ) → (entry C i).node ≡ n → (entry D j).node ≡ n → FormAs C f i → FormAs D f j → DoSame (entry C i) (entry D j)
    form_same C D (compute e) i j n a b x y = same_entry x y (λ z. a ∙ sym b) (λ z. absurd z)
    form_same C D (read q m) i j n a b x y =
        let same = index_same x.1 y.1 in
        same_entry x.2 (subst (λ (z : Need). IsEntry (entry D j) at p (z ∷ []) Read) (sym same) y.2) (λ z. a ∙ sym b) (λ z. absurd z)

    entry_same : (C D : Code) (x : Part) (i j : ℕ) (es fs' : List Entry) → HasEntry C x i → HasEntry D x j → ((c : Call) → x ≡ calls c → c ∈ part_calls all) → CallsFit fs all es → CallsFit fs all fs' → In (entry C i) es → In (entry D j) fs' → DoSame (entry C i) (entry D j)
    entry_same C D (inner c) i j es fs' h g m fe ff ie jf = form_same C D c.form i j c.node h.1 g.1 h.2 g.2
    entry_same C D (calls c) i j es fs' h g m fe ff ie jf = call_same h g (fits_of h es fe ie (m c refl)) (fits_of g fs' ff jf (m c refl)) (pinned.kinds c (m c refl))

    -- of several parts, one after another
    record Split (E : Code) (x : Part) (xs : List Part) (ks : List ℕ) : Type 0 where
      is : List ℕ
      js : List ℕ
      head : PartAs E l k all at p x is
      tail : PartsAs E l k all at p xs js
      are : ks ≡ is ++ js

    split : {E : Code} {x : Part} {xs : List Part} {ks : List ℕ} → PartsAs E l k all at p (x ∷ xs) ks → Split E x xs ks
    split (one_part {is = is} {js = js} a b e) = record { is = is; js = js; head = a; tail = b; are = e }

    none_numbers : {E : Code} {ks : List ℕ} → PartsAs E l k all at p [] ks → ks ≡ []
    none_numbers no_part = refl

    no_entry : (from : ℕ) (es : List Entry) → counted from (length es) ≡ [] → es ≡ []
    no_entry from [] h = refl
    no_entry from (e ∷ es) h = absurd (cc (h))

    nth_here : (pre : List Entry) (e : Entry) (es : List Entry) → nth blank_entry (pre ++ e ∷ es) (length pre) ≡ e
    nth_here [] e es = refl
    nth_here (d ∷ pre) e es = nth_here pre e es

    -- the first of some entries that are numbered on
    record First (E : Code) (from j : ℕ) (js : List ℕ) (es : List Entry) : Type 0 where
      head : Entry
      rest : List Entry
      are : es ≡ head ∷ rest
      number : j ≡ from
      numbers : js ≡ counted (suc from) (length rest)

    first_of : (E : Code) (from j : ℕ) (js : List ℕ) (es : List Entry) → j ∷ js ≡ counted from (length es) → First E from j js es
    first_of E from j js [] h = absurd (cc (h))
    first_of E from j js (e ∷ es) h = record { head = e; rest = es; are = refl; number = cc (h); numbers = cc (h) }

    -- code that has these entries behind so many
    record Holds (E : Code) (before es : List Entry) : Type 0 where
      are : E.entries ≡ before ++ es

    abbrev Among : List Part → Type 0
    Among xs = (c : Call) → calls c ∈ xs → c ∈ part_calls all

    -- every member of the later ones is one of all
    abbrev Within : List Entry → List Entry → Type 0
    Within es all_of = (e : Entry) → In e es → In e all_of

    -- what is to be shown of the parts behind one
    abbrev RestOf : Code → Code → List Part → List Entry → List Entry → Type 0
    RestOf C D xs es' gs' = (js ns : List ℕ) (b b' a a' : List Entry) → length b ≡ length b' → C.entries ≡ b ++ a → D.entries ≡ b' ++ a' → Within a es' → Within a' gs'
        → js ≡ counted (length b) (length a) → ns ≡ counted (length b') (length a') → PartsAs C l k all at p xs js → PartsAs D l k all at p xs ns → AllDoSame a a'

    both_have : (C D : Code) (part : Part) (xs : List Part) (ks ms : List ℕ) (before behind es gs es' gs' : List Entry) → Among (part ∷ xs) → length before ≡ length behind → C.entries ≡ before ++ es → D.entries ≡ behind ++ gs → Within es es' → Within gs gs' → CallsFit fs all es' → CallsFit fs all gs'
        → ks ≡ counted (length before) (length es) → ms ≡ counted (length behind) (length gs) → (s : Split C part xs ks) → (t : Split D part xs ms) → One C part s.is → One D part t.is → RestOf C D xs es' gs' → AllDoSame es gs
    both_have C D part xs ks ms before behind es gs es' gs' am len ce de we wg fe fg ke me s t u v rest =
        let cf = first_of C (length before) u.number s.js es (sym (ap (λ (z : List ℕ). z ++ s.js) u.are) ∙ sym s.are ∙ ke) in
        let df = first_of D (length behind) v.number t.js gs (sym (ap (λ (z : List ℕ). z ++ t.js) v.are) ∙ sym t.are ∙ me) in
        let c_is : C.entries ≡ before ++ cf.head ∷ cf.rest = ce ∙ ap (λ (z : List Entry). before ++ z) cf.are in
        let d_is : D.entries ≡ behind ++ df.head ∷ df.rest = de ∙ ap (λ (z : List Entry). behind ++ z) df.are in
        let c_here : entry C u.number ≡ cf.head = ap (λ (z : ℕ). entry C z) cf.number ∙ ap (λ (z : List Entry). nth blank_entry z (length before)) c_is ∙ nth_here before cf.head cf.rest in
        let d_here : entry D v.number ≡ df.head = ap (λ (z : ℕ). entry D z) df.number ∙ ap (λ (z : List Entry). nth blank_entry z (length behind)) d_is ∙ nth_here behind df.head df.rest in
        let c_in : In (entry C u.number) es' = we (entry C u.number) (subst (λ (z : List Entry). In (entry C u.number) z) (sym cf.are) (inl c_here)) in
        let d_in : In (entry D v.number) gs' = wg (entry D v.number) (subst (λ (z : List Entry). In (entry D v.number) z) (sym df.are) (inl d_here)) in
        let one : DoSame (entry C u.number) (entry D v.number) = entry_same C D part u.number v.number es' gs' u.has v.has (λ c q. am c (subst (λ (z : Part). z ∈ (part ∷ xs)) q first)) fe fg c_in d_in in
        let head : DoSame cf.head df.head = subst (λ (z : Entry). DoSame z df.head) c_here (subst (λ (z : Entry). DoSame (entry C u.number) z) d_here one) in
        let more : AllDoSame cf.rest df.rest = rest s.js t.js (before ++ cf.head ∷ []) (behind ++ df.head ∷ []) cf.rest df.rest (longer before behind cf.head df.head len)
        (c_is ∙ sym (append_assoc before (cf.head ∷ []) cf.rest)) (d_is ∙ sym (append_assoc behind (df.head ∷ []) df.rest))
        (λ e i. we e (subst (λ (z : List Entry). In e z) (sym cf.are) (inr i))) (λ e i. wg e (subst (λ (z : List Entry). In e z) (sym df.are) (inr i)))
        (cf.numbers ∙ ap (λ (n : ℕ). counted n (length cf.rest)) (one_longer before cf.head)) (df.numbers ∙ ap (λ (n : ℕ). counted n (length df.rest)) (one_longer behind df.head)) s.tail t.tail in
        subst (λ (z : List Entry). AllDoSame z gs) (sym cf.are) (subst (λ (z : List Entry). AllDoSame (cf.head ∷ cf.rest) z) (sym df.are) (head, more))

    pub parts_same : (C D : Code) (xs : List Part) (ks ms : List ℕ) (before behind es gs es' gs' : List Entry) → Among xs → length before ≡ length behind → C.entries ≡ before ++ es → D.entries ≡ behind ++ gs → Within es es' → Within gs gs' → CallsFit fs all es' → CallsFit fs all gs'
        → ks ≡ counted (length before) (length es) → ms ≡ counted (length behind) (length gs) → PartsAs C l k all at p xs ks → PartsAs D l k all at p xs ms → AllDoSame es gs
    parts_same C D [] ks ms before behind es gs es' gs' am len ce de we wg fe fg ke me x y =
        let a : es ≡ [] = no_entry (length before) es (sym ke ∙ none_numbers x) in
        let b : gs ≡ [] = no_entry (length behind) gs (sym me ∙ none_numbers y) in
        subst (λ (z : List Entry). AllDoSame z gs) (sym a) (subst (λ (z : List Entry). AllDoSame [] z) (sym b) tt)
    parts_same C D (part ∷ xs) ks ms before behind es gs es' gs' am len ce de we wg fe fg ke me x y =
        by (split x) (split y) (λ js ns b b' a a' q d d' w w' e e'. parts_same C D xs js ns b b' a a' es' gs' (λ c m. am c (later m)) q d d' w w' fe fg e e')
      where
        by : Split C part xs ks → Split D part xs ms → RestOf C D xs es' gs' → AllDoSame es gs
        by s t rest = pick (part_view s.head) (part_view t.head)
          where
            pick : NoOne part s.is ⊎ One C part s.is → NoOne part t.is ⊎ One D part t.is → AllDoSame es gs
            pick (inl u) (inl v) =
                rest s.js t.js before behind es gs len ce de we wg (sym (s.are ∙ ap (λ (z : List ℕ). z ++ s.js) u.are) ∙ ke) (sym (t.are ∙ ap (λ (z : List ℕ). z ++ t.js) v.are) ∙ me) s.tail t.tail
            pick (inl u) (inr v) = absurd (none_one D part v.number u.has v.has)
            pick (inr u) (inl v) = absurd (none_one C part u.number v.has u.has)
            pick (inr u) (inr v) = both_have C D part xs ks ms before behind es gs es' gs' am len ce de we wg fe fg ke me s t u v rest
