-- What the entries of parts are in one code they are in another that has the same entries there, whatever their rights.
use Rattle.std.proofs.Common.{◌≡◌, ℕ, suc, ◌<◌, List, ◌++◌, length, sym, ap, ◌∙◌, subst, arith, None}
use Rattle.std.specs.Prelude.{ℤ}
use Rattle.language.specs.Core.{Name, Part}
use Rattle.language.specs.Members.{◌∈◌, first}
use Rattle.language.proofs.Members.{to_left, to_right}
use Rattle.task_code.specs.Code as code
use Rattle.task_code.specs.Code.{Need, Argument, Act, Entry, Code, entry, nth, blank_entry}
use Rattle.code_rules.specs.IsCodeOf.{Layout, IsEntry, InputAs, of_literal, of_name, of_datum, of_array, InputsAs, no_input, one_input, OutputsAs, no_output, one_output, IndexAs, at_literal, at_name, at_datum, PartAs, plain_literal, plain_name, a_cell, a_read, a_call, PartsAs, no_part, one_part}
use Rattle.code_rules.specs.Laying.{Kinds, Laying, bare, PlainAs, IndexesStand, LaysParts}
use Rattle.code_laws.proofs.Adding.{nth_left}
use Rattle.code_laws.proofs.Numbering.{counted_below}
use Rattle.std.proofs.lemmas.List.{length-append}

pub entry_moves : {e d : Entry} {at : ℕ} {p : ℤ} {ns : List Need} {a : Act} → bare d ≡ e → IsEntry e at p ns a → IsEntry d at p ns a
entry_moves q h = record {
  at_is = ap (λ (z : Entry). z.at) q ∙ h.at_is;
  priority_is = ap (λ (z : Entry). z.priority) q ∙ h.priority_is;
  needs_is = ap (λ (z : Entry). z.needs) q ∙ h.needs_is;
  act_is = ap (λ (z : Entry). z.act) q ∙ h.act_is;
}

outputs_move : {D C : Code} {l : Layout} {k : ℕ} {xs : List Name} {ys : List code.Name} → OutputsAs D l k xs ys → OutputsAs C l k xs ys
outputs_move no_output = no_output
outputs_move (one_output b hs) = one_output b (outputs_move hs)

module _ {D C : Code} {l : Layout} {k : ℕ} {all : List Part} where
  input_moves : {x : Name} {a : Argument} → InputAs D l k all x a → InputAs C l k all x a
  input_moves (of_literal m h) = of_literal m h
  input_moves (of_name m h) = of_name m h
  input_moves (of_datum m h) = of_datum m h
  input_moves of_array = of_array

  inputs_move : {xs : List Name} {ys : List Argument} → InputsAs D l k all xs ys → InputsAs C l k all xs ys
  inputs_move no_input = no_input
  inputs_move (one_input h hs) = one_input (input_moves h) (inputs_move hs)

  index_moves : {a : Name} {i : ℕ} {n : Need} → IndexAs D l k all a i n → IndexAs C l k all a i n
  index_moves (at_literal m h) = at_literal m h
  index_moves (at_name m h) = at_name m h
  index_moves (at_datum m h) = at_datum m h

  part_moves : {at : ℕ} {p : ℤ} {x : Part} {is : List ℕ} → PartAs D l k all at p x is → ((j : ℕ) → j ∈ is → bare (entry C j) ≡ entry D j) → PartAs C l k all at p x is
  part_moves (plain_literal z) h = plain_literal z
  part_moves (plain_name z) h = plain_name z
  part_moves (a_cell {j = j} z nd en) h = a_cell z (ap (λ (e : Entry). e.node) (h j first) ∙ nd) (entry_moves (h j first) en)
  part_moves (a_read {j = j} z nd ix en) h = a_read z (ap (λ (e : Entry). e.node) (h j first) ∙ nd) (index_moves ix) (entry_moves (h j first) en)
  part_moves (a_call {j = j} ca) h = a_call (record { ins = ca.ins; outs = ca.outs; is = entry_moves (h j first) ca.is; offset_is = ap (λ (e : Entry). e.offset) (h j first) ∙ ca.offset_is; inputs = inputs_move ca.inputs; outputs = outputs_move ca.outputs })

  pub parts_move : {at : ℕ} {p : ℤ} {xs : List Part} {is : List ℕ} → PartsAs D l k all at p xs is → ((j : ℕ) → j ∈ is → bare (entry C j) ≡ entry D j) → PartsAs C l k all at p xs is
  parts_move no_part h = no_part
  parts_move (one_part {is = is} {js = js} x xs e) h =
      one_part (part_moves x (λ j m. h j (subst (λ (z : List ℕ). j ∈ z) (sym e) (to_left is js m)))) (parts_move xs (λ j m. h j (subst (λ (z : List ℕ). j ∈ z) (sym e) (to_right is js m)))) e

-- CODE THAT HAS WHAT IS LAID

-- code has the entries that are laid so far, with whatever rights
abbrev pub Has : Code → Laying → Type 0
Has C s = (j : ℕ) → j < length s.entries → bare (entry C j) ≡ nth blank_entry s.entries j

pub has_less : (C : Code) (s t : Laying) (more : List Entry) → t.entries ≡ s.entries ++ more → Has C t → Has C s
has_less C s t more e h j l =
    let a = length-append s.entries more in
    let b : length t.entries ≡ length (s.entries ++ more) = ap (λ (E : List Entry). length E) e in
    h j (omega arith) ∙ (ap (λ (E : List Entry). nth blank_entry E j) e ∙ nth_left blank_entry s.entries more j l)

pub parts_at : {C : Code} {l : Layout} {fs : List Kinds} {k : ℕ} {all : List Part} {at : ℕ} {p : ℤ} {s t : Laying} {es : List ℕ} → LaysParts fs k all at p s t es → Has C t → PlainAs l None all → ((i : ℕ) → l.body_of i ≡ suc i) → IndexesStand all
    → PartsAs C l k all at p all es
parts_at {C} {s = s} {t = t} {es = es} lp h pl b st =
    parts_move (lp.parts_as _ pl b st)
    (λ j m. h j
    (let x = counted_below j (length s.entries) (length lp.more) (subst (λ (z : List ℕ). j ∈ z) lp.numbers m) in
    let y = length-append s.entries lp.more in
    let z = ap (λ (E : List Entry). length E) lp.entries in
    let v = x.1 in
    omega arith))
