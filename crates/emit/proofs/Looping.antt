-- Statements that open a block many times.
use Rattle.std.proofs.Common.{◌≡◌, ℕ, suc, ◌+◌, ◌≤◌, ◌<◌, ◌^◌, Bool, List, [], ◌∷◌, ◌++◌, map, length, refl, sym, ap, ap₂, ◌∙◌, subst, arith, Option, None}
use Rattle.std.specs.Prelude.{pos, option_to_list}
use Rattle.std.proofs.lemmas.List.{length-map}
use Rattle.language.specs.Core.{Name, Outer, stmt, range, each, Block}
use Rattle.language.specs.Members.{first, later}
use Rattle.language.specs.Parts.{outer_parts, stmts_within}
use Rattle.task_code.specs.Code as code
use Rattle.task_code.specs.Code.{ByStep, Each, Entry, Loop, Range, Variable, loop_variables}
use Rattle.task_code.specs.View.{body_view, entry_view, variable_view}
use Rattle.task_code.specs.declared.entry.Entry.{Entry as Made}
use Rattle.task_code.specs.declared.code.Body.{Body as Opened}
use Rattle.code_rules.specs.CodeNames.{over}
use Rattle.code_rules.specs.IsCodeOf.{Layout, own_needs, seen, step_expr}
use Rattle.code_rules.specs.Laying.{IndexesStand, IsOwnEntry, Kinds, Laying, LaysBlock, PlainAs, array_loop, data_in, next_body, range_loop}
use Rattle.code_rules.specs.Room.{NameRoom, OuterRoom, StepRoom}
use Rattle.emit_statements.specs.Into.{laying}
use Rattle.emit_statements.specs.declared.block_builder.BlockBuilder.{BlockBuilder}
use Rattle.emit_statements.specs.Blocks.{Numbered, OwnAddedAs, PartsInto}
use Rattle.emit.specs.Emits.{EmitsBlock, EmitsStmt, Lays, state}
use Rattle.emit.proofs.Fitting.{fits-part}
use Rattle.emit.proofs.Opening.{one-more-long, body-is, own-number, own-listed, own-data, own-first, own-none}

abbrev turns : ℕ → Laying → ℕ → Option ℕ → Loop
turns roots s x y = record { body = next_body roots s; value = x; turn = y }

pub range-emits : (fs : List Kinds) (roots k at n : ℕ) (lo hi : Outer) (st : Option Outer) (x : ℕ) (y : Option ℕ) (b : Block) (ds : List (ℕ × Bool)) (E0 E1 E2 E3 : List Made) (B0 B2 B3 : List Opened) (F0 F1 F2 I0 I1 : BlockBuilder) (body number : ℕ) (w : Loop)
    → ((bodies : List code.Body) → OuterRoom k lo → OuterRoom k hi → StepRoom k st → length E1 ≤ 2 ^ 32 → PartsInto fs k (outer_parts (lo ∷ hi ∷ option_to_list st)) at (pos 0) (laying E0 bodies) (laying E1 bodies) F0 F1)
    → ((l : Layout) → OuterRoom k lo → OuterRoom k hi → StepRoom k st → PlainAs l None (outer_parts (lo ∷ hi ∷ option_to_list st)) → ((i : ℕ) → l.body_of i ≡ suc i) → IndexesStand (outer_parts (lo ∷ hi ∷ option_to_list st)) → length E1 ≤ length E0 + length (outer_parts (lo ∷ hi ∷ option_to_list st)))
    → I0.entries.items ≡ [] → ((z : ℕ) → map variable_view I0.makes.items ≡ loop_variables (record { body = z; value = x; turn = y }))
    → EmitsBlock fs roots k b ds (state E1 B0 I0) (state E2 B2 I1)
    → (roots + length B2 < 2 ^ 32 → body ≡ roots + length B2)
    → w ≡ record { body = body; value = x; turn = y }
    → Numbered number (length E2) F1 F2
    → (OuterRoom k lo → OuterRoom k hi → StepRoom k st → OwnAddedAs k at (range lo hi st x y b)
    (λ l. Range (over k (own_needs l k (range lo hi st x y b)) (seen l lo.cell)) (over k (own_needs l k (range lo hi st x y b)) (seen l hi.cell)) (over k (own_needs l k (range lo hi st x y b)) (step_expr l k st)) w) E2 E3)
    → map body_view B3 ≡ map body_view B2 ++ record { opener = ByStep number; makes = map variable_view I1.makes.items; entries = I1.entries.items } ∷ []
    → EmitsStmt fs roots k (stmt at n (range lo hi st x y b)) ds (state E0 B0 F0) (state E3 B3 F2)
range-emits fs roots k at n lo hi st x y b ds E0 E1 E2 E3 B0 B2 B3 F0 F1 F2 I0 I1 body number w into few none nil inner body_is loop_is numbered own_as made = record {
  lays = λ l room fits. (
      let a = range lo hi st x y b in
      let su = fits.suits at n a first in
      let m = few l room.0 room.1.0 room.1.1.0 su.0.parts_plain su.0.bodies su.1 in
      let fe = fits.entries in
      let fb = fits.bodies in
      let x0 = length-map E0 entry_view in
      let x1 = length-map E1 entry_view in
      let x2 = length-map E2 entry_view in
      let y0 = length-map B0 body_view in
      let x3 : length (state E3 B3 F2).laying.entries ≡ length E3 = length-map E3 entry_view in
      let y2 = length-map B2 body_view in
      let y3 : length (state E3 B3 F2).laying.bodies ≡ length B3 = length-map B3 body_view in
      let p = into (map body_view B0) room.0 room.1.0 room.1.1.0 (omega arith) in
      let r : Lays (LaysBlock fs roots k b ds) (stmts_within b) (state E1 B0 I0) (state E2 B2 I1) = inner.lays l room.1.1.1 (fits-part (stmts_within b) (laying E1 (map body_view B0)) fits (λ z h. later h) (omega arith) (omega arith)) in
      let re = r.few.entries in
      let rb = r.few.bodies in
      let number_is = own-number number E2 F1 F2 numbered (omega arith) in
      let bodies_are : body ≡ next_body roots (laying E2 (map body_view B2)) = body_is (omega arith) ∙ ap (λ (z : ℕ). roots + z) (sym y2) in
      let own = own_as room.0 room.1.0 room.1.1.0 in
      let turns_are : w ≡ turns roots (laying E2 (map body_view B2)) x y = loop_is ∙ ap (λ (z : ℕ). record { body = z; value = x; turn = y }) bodies_are in
      let le = one-more-long entry_view E2 E3 own.entry own.is in
      let us = loop_variables (turns roots (laying E2 (map body_view B2)) x y) in
      let opened = made ∙ ap (λ (z : code.Body). map body_view B2 ++ z ∷ []) (body-is (ByStep number) us I0 I1 r.data_are r.numbers none (nil (next_body roots (laying E2 (map body_view B2)))) r.entries r.makes ∙ ap (λ (z : ℕ). record { opener = ByStep z; makes = us ++ r.data_are; entries = r.numbers }) number_is) in
      let lb = one-more-long body_view B2 B3 _ opened in
      record {
        numbers = p.numbers ++ length (map entry_view E2) ∷ [];
        data_are = data_in None (outer_parts (lo ∷ hi ∷ option_to_list st));
        by_rule = range_loop own.entry p.laid r.by_rule
            (subst (λ (z : Loop). IsOwnEntry own.entry at k a (λ l. Range (over k (own_needs l k a) (seen l lo.cell)) (over k (own_needs l k a) (seen l hi.cell)) (over k (own_needs l k a) (step_expr l k st)) z)) turns_are own.own) own.offset_is
            (ap₂ (λ (es : List Entry) (bs : List code.Body). record { entries = es; bodies = bs }) own.is opened) refl;
        entries = own-listed number E2 F0 F1 F2 p.numbers numbered p.entries number_is;
        makes = own-data number E2 F1 F2 numbered ∙ p.makes;
        few = record { entries = omega arith; bodies = omega arith };
      }
      );
}

pub each-emits : (fs : List Kinds) (roots k at n : ℕ) (array : Name) (x : ℕ) (y : Option ℕ) (b : Block) (ds : List (ℕ × Bool)) (E1 E2 E3 : List Made) (B0 B2 B3 : List Opened) (F1 F2 I0 I1 : BlockBuilder) (body number : ℕ) (w : Loop)
    → I0.entries.items ≡ [] → ((z : ℕ) → map variable_view I0.makes.items ≡ loop_variables (record { body = z; value = x; turn = y }))
    → EmitsBlock fs roots k b ds (state E1 B0 I0) (state E2 B2 I1)
    → (roots + length B2 < 2 ^ 32 → body ≡ roots + length B2)
    → w ≡ record { body = body; value = x; turn = y }
    → Numbered number (length E2) F1 F2
    → (NameRoom k array → OwnAddedAs k at (each array x y b) (λ l. Each w) E2 E3)
    → map body_view B3 ≡ map body_view B2 ++ record { opener = ByStep number; makes = map variable_view I1.makes.items; entries = I1.entries.items } ∷ []
    → EmitsStmt fs roots k (stmt at n (each array x y b)) ds (state E1 B0 F1) (state E3 B3 F2)
each-emits fs roots k at n array x y b ds E1 E2 E3 B0 B2 B3 F1 F2 I0 I1 body number w none nil inner body_is loop_is numbered own_as made = record {
  lays = λ l room fits. (
      let a = each array x y b in
      let fe = fits.entries in
      let fb = fits.bodies in
      let x1 = length-map E1 entry_view in
      let x2 = length-map E2 entry_view in
      let x3 : length (state E3 B3 F2).laying.entries ≡ length E3 = length-map E3 entry_view in
      let y0 = length-map B0 body_view in
      let y2 = length-map B2 body_view in
      let y3 : length (state E3 B3 F2).laying.bodies ≡ length B3 = length-map B3 body_view in
      let r : Lays (LaysBlock fs roots k b ds) (stmts_within b) (state E1 B0 I0) (state E2 B2 I1) = inner.lays l room.1 (fits-part (stmts_within b) (laying E1 (map body_view B0)) fits (λ z h. later h) (omega arith) (omega arith)) in
      let re = r.few.entries in
      let rb = r.few.bodies in
      let number_is = own-number number E2 F1 F2 numbered (omega arith) in
      let bodies_are : body ≡ next_body roots (laying E2 (map body_view B2)) = body_is (omega arith) ∙ ap (λ (z : ℕ). roots + z) (sym y2) in
      let own = own_as room.0 in
      let turns_are : w ≡ turns roots (laying E2 (map body_view B2)) x y = loop_is ∙ ap (λ (z : ℕ). record { body = z; value = x; turn = y }) bodies_are in
      let le = one-more-long entry_view E2 E3 own.entry own.is in
      let us = loop_variables (turns roots (laying E2 (map body_view B2)) x y) in
      let opened = made ∙ ap (λ (z : code.Body). map body_view B2 ++ z ∷ []) (body-is (ByStep number) us I0 I1 r.data_are r.numbers none (nil (next_body roots (laying E2 (map body_view B2)))) r.entries r.makes ∙ ap (λ (z : ℕ). record { opener = ByStep z; makes = us ++ r.data_are; entries = r.numbers }) number_is) in
      let lb = one-more-long body_view B2 B3 _ opened in
      record {
        numbers = length (map entry_view E2) ∷ [];
        data_are = [];
        by_rule = array_loop own.entry r.by_rule (subst (λ (z : Loop). IsOwnEntry own.entry at k a (λ l. Each z)) turns_are own.own) own.offset_is
            (ap₂ (λ (es : List Entry) (bs : List code.Body). record { entries = es; bodies = bs }) own.is opened) refl;
        entries = own-first number E2 F1 F2 numbered number_is;
        makes = own-none number E2 F1 F2 numbered;
        few = record { entries = omega arith; bodies = omega arith };
      }
      );
}
