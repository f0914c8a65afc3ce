-- What is handed over for the cells among parts.
use Rattle.std.proofs.Common.{◌≡◌, ◌⊎◌, inl, inr, ℕ, zero, suc, ◌<◌, ◌≤◌, ◌+◌, Bool, true, false, List, [], ◌∷◌, ◌++◌, map, length, refl, sym, ap, subst, ◌∙◌, Option, Some, None, take, drop, get_or, cond, arith, true≢false}
use Rattle.std.specs.Prelude.{option_map, nat_eq}
use Rattle.std.proofs.lemmas.Bool.{cases_Bool, eqb-true, eq-eqb}
use Rattle.indexmap.specs.IndexMap.{IndexMap, get}
use Rattle.language.specs.Core.{literal, name, whole, operator, Expr, Form, compute, read, Cell, Call, Part, inner, calls}
use Rattle.language.specs.Members.{◌∈◌, first, later}
use Rattle.language.specs.Parts.{part_cells}
use Rattle.task_code.specs.Code.{Argument}
use Rattle.task_code.specs.View.{argument_view}
use Rattle.task_code.specs.declared.entry.Argument.{Argument as Handed}
use Rattle.code_rules.specs.IsCodeOf.{Layout}
use Rattle.code_rules.specs.Laying.{PlainAs, plain_after}
use Rattle.code_rules.specs.Room.{Each, FormRoom, PartRoom}
use Rattle.emit_cells.specs.Before.{last_of, before}
use Rattle.emit_cells.specs.Chunk.{Inside, Told, HandedFor, literal_handed, name_handed, datum_handed, passed_as, passed_expr, handed_in, Puts, IsGood, Passes, part_at}

-- LISTS

pub drop_mapped : {X Y : Type 0} (V : X → Y) (xs : List X) (i : ℕ) → drop i (map V xs) ≡ map V (drop i xs)
drop_mapped V xs zero = refl
drop_mapped V [] (suc i) = refl
drop_mapped V (x ∷ xs) (suc i) = drop_mapped V xs i

-- a member in its place
pub split_at : {X Y : Type 0} (V : X → Y) (xs : List X) (i : ℕ) (x : X) → i < length xs → x ≡ get_or xs i x → map V xs ≡ take i (map V xs) ++ (V x ∷ drop (suc i) (map V xs))
split_at V [] i x below is = absurd (omega arith)
split_at V (y ∷ xs) zero x below is = ap (λ z. V z ∷ map V xs) (sym is)
split_at V (y ∷ xs) (suc i) x below is = ap (λ l. V y ∷ l) (split_at V xs i x (omega arith) is)

pub part_is : {X : Type 0} (V : X → Part) (xs : List X) (i : ℕ) (x : X) → i < length xs → x ≡ get_or xs i x → part_at (map V xs) i ≡ V x ∷ []
part_is V [] i x below is = absurd (omega arith)
part_is V (y ∷ xs) zero x below is = ap (λ z. V z ∷ []) (sym is)
part_is V (y ∷ xs) (suc i) x below is = part_is V xs i x (omega arith) is

pub taken_more : (ps : List Part) (i : ℕ) → take (i + 1) ps ≡ take i ps ++ part_at ps i
taken_more ps i = ap (λ n. take n ps) (one i) ∙ by ps i
  where
    one : (i : ℕ) → i + 1 ≡ suc i
    one i = omega arith

    by : (ps : List Part) (i : ℕ) → take (suc i) ps ≡ take i ps ++ part_at ps i
    by [] zero = refl
    by [] (suc i) = refl
    by (x ∷ ps) zero = refl
    by (x ∷ ps) (suc i) = ap (λ l. x ∷ l) (by ps i)

-- what holds of each part holds of the one in its place
pub room_in : (P : Part → Type 0) (xs : List Part) (y : Part) (ys : List Part) → Each P (xs ++ (y ∷ ys)) → P y
room_in P [] y ys h = h.0
room_in P (x ∷ xs) y ys h = room_in P xs y ys h.1

-- PLAIN CELLS

plain_in : (l : Layout) (p : Option Part) (xs : List Part) (c : Cell) (ys : List Part) → PlainAs l p (xs ++ (inner c ∷ ys)) → l.plain c.node ≡ plain_after (last_of p xs) c.form
plain_in l p [] c ys h = h.0
plain_in l p (inner d ∷ xs) c ys h = plain_in l (Some (inner d)) xs c ys h.1
plain_in l p (calls d ∷ xs) c ys h = plain_in l (Some (calls d)) xs c ys h

-- a cell in its place among the parts is plain or not as the part before it says
pub told_in : (all ps xs : List Part) (c : Cell) (ys : List Part) → Inside all ps → ps ≡ xs ++ (inner c ∷ ys) → Told all c.node (plain_after (last_of None xs) c.form)
told_in all ps xs c ys inside is l plain = plain_in l None xs c ys (subst (PlainAs l None) is (inside.plain l plain))

pub in_place : (xs : List Part) (x : Part) (ys : List Part) → x ∈ (xs ++ (x ∷ ys))
in_place [] x ys = first
in_place (y ∷ xs) x ys = later (in_place xs x ys)

pub cell_in : (ps : List Part) (c : Cell) → inner c ∈ ps → c ∈ part_cells ps
cell_in [] c i = elim i [ ]
cell_in (inner d ∷ ps) c first = first
cell_in (inner d ∷ ps) c (later i) = later (cell_in ps c i)
cell_in (calls d ∷ ps) c (later i) = cell_in ps c i

-- WHAT IS HANDED OVER

plain_expr : (k n : ℕ) (all : List Part) (p : Option Part) (e : Expr) → record { node = n; form = compute e } ∈ part_cells all → plain_after p (compute e) ≡ true → Told all n true → HandedFor k all n (passed_expr k n e)
plain_expr k n all p (literal v) there q told = literal_handed there told refl
plain_expr k n all p (name x) there q told = name_handed there told refl
plain_expr k n all p (whole a) there q told = absurd (true≢false (sym q))
plain_expr k n all p (operator o es) there q told = absurd (true≢false (sym q))

pub passed_handed : (k n : ℕ) (all : List Part) (p : Option Part) (b : Bool) (f : Form) → record { node = n; form = f } ∈ part_cells all → plain_after p f ≡ b → Told all n b → HandedFor k all n (passed_as k b n f)
passed_handed k n all p true (compute e) there q told = plain_expr k n all p e there q told
passed_handed k n all p true (read a i) there q told = absurd (true≢false (sym q))
passed_handed k n all p false f there q told = datum_handed there refl told refl

pub cells_split : (ps qs : List Part) (c : Cell) → c ∈ part_cells (ps ++ qs) → (c ∈ part_cells ps) ⊎ (c ∈ part_cells qs)
cells_split [] qs c i = inr i
cells_split (inner d ∷ ps) qs c first = inl first
cells_split (inner d ∷ ps) qs c (later i) = elim (cells_split ps qs c i) [ inl j ↦ inl (later j) | inr j ↦ inr j ]
cells_split (calls d ∷ ps) qs c i = cells_split ps qs c i

module _ {S : Type 0} where
  put_good : (k : ℕ) (all : List Part) (n : ℕ) (v : Argument) (old new : IndexMap ℕ Handed S) → Puts n v old new → HandedFor k all n v → IsGood k all old → IsGood k all new
  put_good k all n v old new put h good m a e =
      elim (cases_Bool (nat_eq n m)) [
        | inl q ↦
            let same : n ≡ m = eqb-true n m q in
            let is : ◌≡◌ {A = Option Argument} (Some v) (Some a) = sym (put m ∙ ap (λ t. cond t (Some v) (handed_in old m)) q) ∙ e in
            subst (λ j. HandedFor k all j a) same (subst (HandedFor k all n) (cc) h)
        | inr q ↦ good m a (sym (put m ∙ ap (λ t. cond t (Some v) (handed_in old m)) q) ∙ e)
      ]

  put_kept : (n : ℕ) (v : Argument) (old new : IndexMap ℕ Handed S) → Puts n v old new → (m : ℕ) (a : Argument) → handed_in old m ≡ Some a → (b : Argument) × (handed_in new m ≡ Some b)
  put_kept n v old new put m a e =
      elim (cases_Bool (nat_eq n m)) [
        | inl q ↦ (v, put m ∙ ap (λ t. cond t (Some v) (handed_in old m)) q)
        | inr q ↦ (a, put m ∙ ap (λ t. cond t (Some v) (handed_in old m)) q ∙ e)
      ]

module _ {S : Type 0} {k : ℕ} {all : List Part} where
  pub passes_none : (m : IndexMap ℕ Handed S) → Passes k all [] m m
  passes_none m = record { good = λ h. h; kept = λ n a e. (a, e); found = none }
    where
      none : (c : Cell) → c ∈ part_cells [] → (a : Argument) × (handed_in m c.node ≡ Some a)
      none c i = elim i [ ]

  pub passes_call : (d : Call) (m : IndexMap ℕ Handed S) → Passes k all (calls d ∷ []) m m
  passes_call d m = record { good = λ h. h; kept = λ n a e. (a, e); found = (passes_none m).found }

  pub passes_both : (ps qs : List Part) (x y z : IndexMap ℕ Handed S) → Passes k all ps x y → Passes k all qs y z → Passes k all (ps ++ qs) x z
  passes_both ps qs x y z a b = record {
    good = λ h. b.good (a.good h);
    kept = λ n v e. let w = a.kept n v e in b.kept n w.0 w.1;
    found = λ c i. elim (cells_split ps qs c i) [ inl j ↦ (let w = a.found c j in b.kept c.node w.0 w.1) | inr j ↦ b.found c j ];
  }

  pub passes_cell : (c : Cell) (v : Argument) (old new : IndexMap ℕ Handed S) → Puts c.node v old new → HandedFor k all c.node v → Passes k all (inner c ∷ []) old new
  passes_cell c v old new put h = record { good = put_good k all c.node v old new put h; kept = put_kept c.node v old new put; found = one }
    where
      one : (d : Cell) → d ∈ part_cells (inner c ∷ []) → (a : Argument) × (handed_in new d.node ≡ Some a)
      one d first = (v, put c.node ∙ ap (λ t. cond t (Some v) (handed_in old c.node)) (eq-eqb c.node c.node refl))
      one d (later i) = elim i [ ]

-- one more value in a map
pub puts_view : {S : Type 0} (n : ℕ) (v : Handed) (a : Argument) (old new : IndexMap ℕ Handed S) → ((q : ℕ) → get nat_eq new q ≡ cond (nat_eq n q) (Some v) (get nat_eq old q)) → argument_view v ≡ a → Puts n a old new
puts_view n v a old new h e m = ap (option_map argument_view) (h m) ∙ by (nat_eq n m)
  where
    by : (b : Bool) → option_map argument_view (cond b (Some v) (get nat_eq old m)) ≡ cond b (Some a) (handed_in old m)
    by true = ap Some e
    by false = refl

-- the part at a place
pub pass_inner : {S X : Type 0} (V : X → Part) (k : ℕ) (all : List Part) (xs : List X) (i : ℕ) (x : X) (c : Cell) (b : Bool) (old new : IndexMap ℕ Handed S) → i < length xs → x ≡ get_or xs i x → V x ≡ inner c
    → Each (PartRoom k) (map V xs) → Inside all (map V xs) → (i ≤ length xs → b ≡ plain_after (before (map V xs) i) c.form) → (FormRoom k c.form → Puts c.node (passed_as k b c.node c.form) old new)
    → Passes k all (part_at (map V xs) i) old new
pass_inner {S} {X} V k all xs i x c b old new below is form room inside told put =
    let ps = map V xs in
    let split : ps ≡ take i ps ++ (inner c ∷ drop (suc i) ps) = split_at V xs i x below is ∙ ap (λ y. take i ps ++ (y ∷ drop (suc i) ps)) form in
    let plain : b ≡ plain_after (before ps i) c.form = told (omega arith) in
    let there : c ∈ part_cells all = cell_in all c (inside.there (inner c) (subst (λ l. inner c ∈ l) (sym split) (in_place (take i ps) (inner c) (drop (suc i) ps)))) in
    let handed : HandedFor k all c.node (passed_as k b c.node c.form) =
    passed_handed k c.node all (before ps i) b c.form there (sym plain) (subst (Told all c.node) (sym plain) (told_in all ps (take i ps) c (drop (suc i) ps) inside split)) in
    subst (λ l. Passes k all l old new) (sym (part_is V xs i x below is ∙ ap (λ y. y ∷ []) form))
    (passes_cell c (passed_as k b c.node c.form) old new (put (room_in (PartRoom k) (take i ps) (inner c) (drop (suc i) ps) (subst (Each (PartRoom k)) split room))) handed)

pub pass_calls : {S X : Type 0} (V : X → Part) (k : ℕ) (all : List Part) (xs : List X) (i : ℕ) (x : X) (d : Call) (old : IndexMap ℕ Handed S) → i < length xs → x ≡ get_or xs i x → V x ≡ calls d → Passes k all (part_at (map V xs) i) old old
pass_calls V k all xs i x d old below is form = subst (λ l. Passes k all l old old) (sym (part_is V xs i x below is ∙ ap (λ y. y ∷ []) form)) (passes_call d old)
