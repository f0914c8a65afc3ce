-- Inputs and outputs of calls.
use Rattle.std.proofs.Common.{◌≡◌, inl, inr, ℕ, zero, suc, ◌<◌, ◌+◌, Bool, true, false, List, [], ◌∷◌, ◌++◌, map, length, refl, sym, ap, subst, ◌∙◌, Option, Some, None, take, drop, get_or, arith}
use Rattle.std.specs.Prelude.{slice_get}
use Rattle.indexmap.specs.IndexMap.{IndexMap}
use Rattle.language.specs.Core.{Owned, local, input, output, Name, here, Call, Part, inner, calls}
use Rattle.language.specs.Members.{◌∈◌, first, later}
use Rattle.language.specs.Parts.{part_calls}
use Rattle.task_code.specs.Code as code
use Rattle.task_code.specs.Code.{Argument, Named, Fixed, Code, Entry, entry, is_array_name}
use Rattle.task_code.specs.View.{entry_view}
use Rattle.task_code.specs.declared.entry.Argument.{Argument as Handed}
use Rattle.task_code.specs.declared.entry.Entry.{Entry as Made}
use Rattle.code_rules.specs.CodeNames.{name_as}
use Rattle.code_rules.specs.IsCodeOf.{Layout, InputAs, of_literal, of_name, of_datum, of_array, InputsAs, no_input, one_input, OutputsAs, no_output, one_output, IsEntry, a_call}
use Rattle.code_rules.specs.Room.{Each}
use Rattle.code_rules.specs.Laying.{CallFits, CallsFit, Kinds, PlainAs, StandsAmong, is_array_argument, local_node}
use Rattle.emit_cells.specs.Chunk.{HandedFor, literal_handed, name_handed, datum_handed, handed_in, IsPassed, NamePasses, InputPasses, OutputPasses, OneByOne, no_pair, one_pair, Added, Calls}
use Rattle.emit_cells.specs.Made.{made}
use Rattle.emit_cells.specs.declared.entries.EntryOrigin.{EntryOrigin}
use Rattle.emit_cells.specs.declared.entries.StatementContext.{StatementContext}
use Rattle.emit_cells.proofs.Chunks.{chunk_one, added_one}

-- NAMES

pub array_as : (k : ℕ) (b : Bool) (x : Name) → is_array_name (name_as k b x) ≡ b
array_as k b x = by x.up x.what
  where
    by : (u : ℕ) (o : Owned) → is_array_name (name_as k b (record { up = u; what = o })) ≡ b
    by u (local n) = refl
    by u (input i) = refl
    by u (output j) = refl

near_is : (x : Name) (n : ℕ) → Some n ≡ local_node x → x ≡ here n
near_is x n e = by x.up x.what e
  where
    by : (u : ℕ) (o : Owned) → Some n ≡ local_node (record { up = u; what = o }) → ◌≡◌ {A = Name} (record { up = u; what = o }) (here n)
    by zero (local m) q = ap here (same q)
      where
        same : Some n ≡ Some m → m ≡ n
        same h = cc
    by zero (input i) q = absurd (cc)
    by zero (output i) q = absurd (cc)
    by (suc u) o q = absurd (cc)

handed_input : (k : ℕ) (all : List Part) (n : ℕ) (a : Argument) → HandedFor k all n a → (C : Code) (l : Layout) → PlainAs l None all → InputAs C l k all (here n) a
handed_input k all n a (literal_handed there told is) C l plain = subst (InputAs C l k all (here n)) (sym is) (of_literal there (told l plain))
handed_input k all n a (name_handed there told is) C l plain = subst (InputAs C l k all (here n)) (sym is) (of_name there (told l plain))
handed_input k all n a (datum_handed {c} there node told is) C l plain =
    subst (InputAs C l k all (here n)) (sym is)
    (subst (λ m. InputAs C l k all (here m) (Named (name_as k false (here m)))) (sym node) (of_datum there (subst (λ m. l.plain m ≡ false) node (told l plain))))

handed_scalar : (k : ℕ) (all : List Part) (n : ℕ) (a : Argument) → HandedFor k all n a → is_array_argument a ≡ false
handed_scalar k all n a (literal_handed there told is) = ap is_array_argument is
handed_scalar k all n a (name_handed {x} there told is) = ap is_array_argument is ∙ array_as k false x
handed_scalar k all n a (datum_handed there node told is) = ap is_array_argument is

-- what is handed over as a scalar
pub pass_handed : (k : ℕ) (all : List Part) (n : ℕ) (x : Name) (a : Argument) → HandedFor k all n a → Some n ≡ local_node x → NamePasses k all false x a
pass_handed k all n x a h e = record {
  input = λ C l plain. subst (λ y. InputAs C l k all y a) (sym (near_is x n e)) (handed_input k all n a h C l plain);
  array = λ stands. handed_scalar k all n a h;
}

-- and as an array
pub pass_array : (k : ℕ) (all : List Part) (x : Name) (a : Argument) → a ≡ Named (name_as k true x) → NamePasses k all true x a
pass_array k all x a is = record { input = λ C l plain. subst (InputAs C l k all x) (sym is) of_array; array = λ stands. ap is_array_argument is ∙ array_as k true x }

pub pass_no_cell : (k : ℕ) (all : List Part) (x : Name) (a : Argument) → a ≡ Named (name_as k true x) → (StandsAmong all x → ⊥) → NamePasses k all false x a
pass_no_cell k all x a is none = record { input = λ C l plain. subst (InputAs C l k all x) (sym is) of_array; array = λ stands. absurd (none (stands refl)) }

pub far_stands : (all : List Part) (x : Name) → None ≡ local_node x → StandsAmong all x → ⊥
far_stands all x e s = differ (e ∙ ap local_node s.is)
  where
    differ : {n : ℕ} → ◌≡◌ {A = Option ℕ} None (Some n) → ⊥
    differ q = cc

pub lost_stands : {S : Type 0} (k : ℕ) (all : List Part) (m : IndexMap ℕ Handed S) (n : ℕ) (x : Name) → IsPassed k all m → Some n ≡ local_node x → None ≡ handed_in m n → StandsAmong all x → ⊥
lost_stands k all m n x passed e lost s =
    let f = passed.found s.cell s.there in
    let same : ◌≡◌ {A = Option ℕ} (Some n) (Some s.cell.node) = e ∙ ap local_node s.is in
    differ (lost ∙ ap (handed_in m) (node same) ∙ f.1)
  where
    differ : {a : Argument} → ◌≡◌ {A = Option Argument} None (Some a) → ⊥
    differ q = cc

    node : {i j : ℕ} → ◌≡◌ {A = Option ℕ} (Some i) (Some j) → i ≡ j
    node q = cc

-- to a function whose kinds say whether it is an array
pub input_passes : (fs : List Kinds) (k : ℕ) (all : List Part) (f i : ℕ) (b : Bool) (x : Name) (a : Argument) → ((kinds : Kinds) (b' : Bool) → slice_get fs f ≡ Some kinds → slice_get kinds.0 i ≡ Some b' → b ≡ b')
    → NamePasses k all b x a → InputPasses fs k all f i x a
input_passes fs k all f i b x a told passes = record {
  input = passes.input;
  array = λ kinds b' at here stands. passes.array (λ e. stands (sym (told kinds b' at here) ∙ e)) ∙ told kinds b' at here;
}

pub output_passes : (fs : List Kinds) (k f i : ℕ) (b : Bool) (x : Name) (r : code.Name) → ((kinds : Kinds) (b' : Bool) → slice_get fs f ≡ Some kinds → slice_get kinds.1 i ≡ Some b' → b ≡ b') → r ≡ name_as k b x → OutputPasses fs k f i x r
output_passes fs k f i b x r told is = record { flag = b; is = is; array = λ kinds b' at here. ap is_array_name is ∙ array_as k b x ∙ told kinds b' at here }

-- ONE BY ONE

module _ {X Y : Type 0} (R : ℕ → X → Y → Type 0) where
  pub ones_both : (i j : ℕ) (xs us : List X) (ys vs : List Y) → j ≡ i + length xs → OneByOne R i xs ys → OneByOne R j us vs → OneByOne R i (xs ++ us) (ys ++ vs)
  ones_both i j [] us [] vs e no_pair b = subst (λ n. OneByOne R n us vs) (e ∙ zero_behind i) b
    where
      zero_behind : (n : ℕ) → n + 0 ≡ n
      zero_behind n = omega arith
  ones_both i j [] us (y ∷ ys) vs e a b = elim a [ ]
  ones_both i j (x ∷ xs) us [] vs e a b = elim a [ ]
  ones_both i j (x ∷ xs) us (y ∷ ys) vs e (one_pair r rs) b = one_pair r (ones_both (suc i) j xs us ys vs (e ∙ along i (length xs)) rs b)
    where
      along : (n m : ℕ) → n + suc m ≡ suc n + m
      along n m = omega arith

  one_right : (i : ℕ) (xs : List X) (ys : List Y) → OneByOne R i xs ys → (j : ℕ) (y : Y) → slice_get ys j ≡ Some y → (x : X) × R (i + j) x y × (slice_get xs j ≡ Some x)
  one_right i [] [] no_pair zero y e = absurd (cc)
  one_right i [] [] no_pair (suc j) y e = absurd (cc)
  one_right i [] (z ∷ ys) a j y e = elim a [ ]
  one_right i (x ∷ xs) [] a j y e = elim a [ ]
  one_right i (x ∷ xs) (z ∷ ys) (one_pair r rs) zero y e = (x, subst (λ n. R n x y) (zero_behind i) (subst (R i x) (same e) r), refl)
    where
      zero_behind : (n : ℕ) → n ≡ n + 0
      zero_behind n = omega arith

      same : Some z ≡ Some y → z ≡ y
      same q = cc
  one_right i (x ∷ xs) (z ∷ ys) (one_pair r rs) (suc j) y e = let h = one_right (suc i) xs ys rs j y e in (h.0, subst (λ n. R n h.0 y) (along i j) h.1, h.2)
    where
      along : (n m : ℕ) → suc n + m ≡ n + suc m
      along n m = omega arith

first_right : {X Y : Type 0} (R : ℕ → X → Y → Type 0) (xs : List X) (ys : List Y) → OneByOne R 0 xs ys → (j : ℕ) (y : Y) → slice_get ys j ≡ Some y → (x : X) × R j x y × (slice_get xs j ≡ Some x)
first_right R xs ys a j y e = let h = one_right R 0 xs ys a j y e in (h.0, subst (λ n. R n h.0 y) (none_before j) h.1, h.2)
  where
    none_before : (n : ℕ) → 0 + n ≡ n
    none_before n = omega arith

inputs_as : {fs : List Kinds} {k : ℕ} {all : List Part} {f i : ℕ} {xs : List Name} {zs : List Argument} → OneByOne (InputPasses fs k all f) i xs zs → (C : Code) (l : Layout) → PlainAs l None all → InputsAs C l k all xs zs
inputs_as no_pair C l plain = no_input
inputs_as (one_pair r rs) C l plain = one_input (r.input C l plain) (inputs_as rs C l plain)

outputs_as : {fs : List Kinds} {k : ℕ} {f i : ℕ} {xs : List Name} {rs : List code.Name} → OneByOne (OutputPasses fs k f) i xs rs → (C : Code) (l : Layout) → OutputsAs C l k xs rs
outputs_as no_pair C l = no_output
outputs_as {k = k} (one_pair {x = x} {xs = xs} {ys = ys} r rs) C l = subst (λ y. OutputsAs C l k (x ∷ xs) (y ∷ ys)) (sym r.is) (one_output r.flag (outputs_as rs C l))

call_in : (ps : List Part) (c : Call) → calls c ∈ ps → c ∈ part_calls ps
call_in [] c i = elim i [ ]
call_in (inner d ∷ ps) c (later i) = call_in ps c i
call_in (calls d ∷ ps) c first = first
call_in (calls d ∷ ps) c (later i) = later (call_in ps c i)

-- the entry of a call
pub call_added : (fs : List Kinds) (k : ℕ) (all : List Part) (s : StatementContext) (w : EntryOrigin) (c : Call) (ins : List Argument) (outs : List code.Name) (old new : List Made)
    → OneByOne (InputPasses fs k all c.function) 0 c.inputs ins → OneByOne (OutputPasses fs k c.function) 0 c.outputs outs → calls c ∈ all → w.offset ≡ c.at
    → map entry_view new ≡ map entry_view old ++ made s w [] (code.Call (suc c.function) ins outs) ∷ []
    → Added fs k all s.at s.priority (calls c ∷ []) old new
call_added fs k all s w c ins outs old new inputs outputs there offset is =
    added_one _ old new e is (chunk_one (calls c) e fit
    (λ C j same l plain bodies indexes. a_call (record {
      ins = ins;
      outs = outs;
      is = subst (λ (x : Entry). IsEntry x s.at s.priority [] (code.Call (l.body_of c.function) ins outs)) (sym same)
          (record { at_is = refl; priority_is = refl; needs_is = refl; act_is = ap (λ b. code.Call b ins outs) (sym (bodies c.function)) });
      offset_is = ap (λ (x : Entry). x.offset) same ∙ offset;
      inputs = inputs_as inputs C l plain;
      outputs = outputs_as outputs C l;
    })))
  where
    e : Entry
    e = made s w [] (code.Call (suc c.function) ins outs)

    same_function : {f g : ℕ} {xs ys : List Argument} {us vs : List code.Name} → code.Call (suc f) xs us ≡ code.Call (suc g) ys vs → (f ≡ g) × (xs ≡ ys) × (us ≡ vs)
    same_function q = (cc, cc, cc)

    fits : CallFits fs all c ins outs
    fits = record {
      inputs = λ kinds i x a b at name there kind stands.
          let h = first_right (InputPasses fs k all c.function) c.inputs ins inputs i a there in
          let y : h.0 ≡ x = same_name (sym h.2 ∙ name) in
          (subst (λ z. InputPasses fs k all c.function i z a) y h.1).array kinds b at kind stands;
      outputs = λ kinds i r b at there kind.
          let h = first_right (OutputPasses fs k c.function) c.outputs outs outputs i r there in
          h.1.array kinds b at kind;
    }
      where
        same_name : {x y : Name} → ◌≡◌ {A = Option Name} (Some x) (Some y) → x ≡ y
        same_name q = cc

    fit : CallsFit fs all (e ∷ [])
    fit x f xs us (inl is) act =
        let q = same_function (ap (λ (y : Entry). y.act) (sym is) ∙ act) in
        record {
          call = c;
          there = call_in all c there;
          function = q.0;
          offset = ap (λ (y : Entry). y.offset) is ∙ offset;
          fits = subst (λ vs. CallFits fs all c xs vs) q.2 (subst (λ ys. CallFits fs all c ys outs) q.1 fits);
        }
    fit x f xs us (inr i) act = absurd i

-- ONE MORE

taken_on : {X : Type 0} (xs : List X) (i : ℕ) → take (suc i) xs ≡ take i xs ++ take 1 (drop i xs)
taken_on [] zero = refl
taken_on [] (suc i) = refl
taken_on (x ∷ xs) zero = refl
taken_on (x ∷ xs) (suc i) = ap (λ l. x ∷ l) (taken_on xs i)

taken_length : {X : Type 0} (xs : List X) (i : ℕ) → i < length xs → i ≡ length (take i xs)
taken_length [] i below = absurd (omega arith)
taken_length (x ∷ xs) zero below = refl
taken_length (x ∷ xs) (suc i) below = ap suc (taken_length xs i (omega arith))

add_suc : (i : ℕ) → i + 1 ≡ suc i
add_suc i = omega arith

from_zero : (i j : ℕ) → i ≡ j → i ≡ 0 + j
from_zero i j e = omega arith

pub ones_more : {X Y : Type 0} (R : ℕ → X → Y → Type 0) (xs : List X) (i : ℕ) (ys zs : List Y) (y : Y) → i < length xs → OneByOne R 0 (take i xs) ys → OneByOne R i (take 1 (drop i xs)) (y ∷ []) → zs ≡ ys ++ y ∷ []
    → OneByOne R 0 (take (i + 1) xs) zs
ones_more R xs i ys zs y below a b e =
    subst (λ l. OneByOne R 0 l zs) (sym (ap (λ n. take n xs) (add_suc i) ∙ taken_on xs i))
    (subst (OneByOne R 0 (take i xs ++ take 1 (drop i xs))) (sym e) (ones_both R 0 i (take i xs) (take 1 (drop i xs)) ys (y ∷ []) (from_zero i (length (take i xs)) (taken_length xs i below)) a b))

-- the one of a number
pub one_at : {E X Y : Type 0} (V : E → X) (R : ℕ → X → Y → Type 0) (xs : List E) (i : ℕ) (x d : E) (y : Y) → i < length xs → x ≡ get_or xs i d → R i (V x) y → OneByOne R i (take 1 (drop i (map V xs))) (y ∷ [])
one_at {E = E} V R xs i x d y below is r = by xs i below is
  where
    by : (zs : List E) (j : ℕ) → j < length zs → x ≡ get_or zs j d → OneByOne R i (take 1 (drop j (map V zs))) (y ∷ [])
    by [] j b e = absurd (omega arith)
    by (z ∷ zs) zero b e = subst (λ w. OneByOne R i (V w ∷ []) (y ∷ [])) e (one_pair r no_pair)
    by (z ∷ zs) (suc j) b e = by zs j (omega arith) e

pub each_at : {E X : Type 0} (V : E → X) (P : X → Type 0) (xs : List E) (i : ℕ) (x d : E) → i < length xs → x ≡ get_or xs i d → Each P (map V xs) → P (V x)
each_at V P [] i x d below is h = absurd (omega arith)
each_at V P (y ∷ xs) zero x d below is h = subst (λ w. P (V w)) (sym is) h.0
each_at V P (y ∷ xs) (suc i) x d below is h = each_at V P xs i x d (omega arith) is h.1

pub next_is : (n : ℕ) → n + 1 ≡ suc n
next_is n = omega arith

pub calls_added : (fs : List Kinds) (k : ℕ) (all : List Part) (s : StatementContext) (w : EntryOrigin) (c : Call) (a : code.Act) (old new : List Made) → Calls fs k all c a → calls c ∈ all → w.offset ≡ c.at
    → map entry_view new ≡ map entry_view old ++ made s w [] a ∷ [] → Added fs k all s.at s.priority (calls c ∷ []) old new
calls_added fs k all s w c a old new h there offset is =
    call_added fs k all s w c h.ins h.outs old new h.inputs h.outputs there offset (is ∙ ap (λ y. map entry_view old ++ made s w [] y ∷ []) h.is)
