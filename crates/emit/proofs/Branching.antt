-- Statements that open blocks where a condition holds.
use Rattle.std.proofs.Common.{◌≡◌, ℕ, suc, ◌+◌, ◌≤◌, ◌<◌, ◌^◌, Bool, List, [], ◌∷◌, ◌++◌, map, length, refl, sym, ap, ap₂, ◌∙◌, subst, arith, Some, None}
use Rattle.std.specs.Prelude.{pos}
use Rattle.std.proofs.lemmas.List.{length-map}
use Rattle.language.specs.Core.{Outer, stmt, when, choose, Block}
use Rattle.language.specs.Members.{first, later}
use Rattle.language.specs.Parts.{outer_parts, stmts_within}
use Rattle.task_code.specs.Code as code
use Rattle.task_code.specs.Code.{ByStep, Entry, If, Variable}
use Rattle.task_code.specs.View.{body_view, entry_view, variable_view}
use Rattle.task_code.specs.declared.entry.Entry.{Entry as Made}
use Rattle.task_code.specs.declared.code.Body.{Body as Opened}
use Rattle.code_rules.specs.CodeNames.{over}
use Rattle.code_rules.specs.IsCodeOf.{Layout, own_needs, seen}
use Rattle.code_rules.specs.Laying.{IndexesStand, IsOwnEntry, Kinds, LaysBlock, PlainAs, branch, branches, data_in, next_body}
use Rattle.code_rules.specs.Room.{OuterRoom}
use Rattle.emit_statements.specs.Into.{laying}
use Rattle.emit_statements.specs.declared.block_builder.BlockBuilder.{BlockBuilder}
use Rattle.emit_statements.specs.Blocks.{Numbered, OwnAddedAs, PartsInto}
use Rattle.emit.specs.Emits.{EmitsBlock, EmitsStmt, Lays, state}
use Rattle.emit.proofs.Fitting.{fits-part, left-in, right-in, size-both}
use Rattle.emit.proofs.Opening.{one-more-long, body-is, own-number, own-listed, own-data, two-added}

pub branch-emits : (fs : List Kinds) (roots k at n : ℕ) (c : Outer) (b : Block) (ds : List (ℕ × Bool)) (E0 E1 E2 E3 : List Made) (B0 B2 B3 : List Opened) (F0 F1 F2 I0 I1 : BlockBuilder) (body number : ℕ)
    → ((bodies : List code.Body) → OuterRoom k c → length E1 ≤ 2 ^ 32 → PartsInto fs k (outer_parts (c ∷ [])) at (pos 0) (laying E0 bodies) (laying E1 bodies) F0 F1)
    → ((l : Layout) → OuterRoom k c → PlainAs l None (outer_parts (c ∷ [])) → ((i : ℕ) → l.body_of i ≡ suc i) → IndexesStand (outer_parts (c ∷ [])) → length E1 ≤ length E0 + length (outer_parts (c ∷ [])))
    → I0.entries.items ≡ [] → I0.makes.items ≡ []
    → EmitsBlock fs roots k b ds (state E1 B0 I0) (state E2 B2 I1)
    → (roots + length B2 < 2 ^ 32 → body ≡ roots + length B2)
    → Numbered number (length E2) F1 F2
    → (OuterRoom k c → OwnAddedAs k at (when c b) (λ l. If (over k (own_needs l k (when c b)) (seen l c.cell)) body None) E2 E3)
    → map body_view B3 ≡ map body_view B2 ++ record { opener = ByStep number; makes = map variable_view I1.makes.items; entries = I1.entries.items } ∷ []
    → EmitsStmt fs roots k (stmt at n (when c b)) ds (state E0 B0 F0) (state E3 B3 F2)
branch-emits fs roots k at n c b ds E0 E1 E2 E3 B0 B2 B3 F0 F1 F2 I0 I1 body number into few none nil inner body_is numbered own_as made = record {
  lays = λ l room fits. (
      let a = when c b in
      let su = fits.suits at n a first in
      let m = few l room.0 su.0.parts_plain su.0.bodies su.1 in
      let fe = fits.entries in
      let fb = fits.bodies in
      let x0 = length-map E0 entry_view in
      let x1 = length-map E1 entry_view in
      let x2 = length-map E2 entry_view in
      let y0 = length-map B0 body_view in
      let x3 : length (state E3 B3 F2).laying.entries ≡ length E3 = length-map E3 entry_view in
      let y2 = length-map B2 body_view in
      let y3 : length (state E3 B3 F2).laying.bodies ≡ length B3 = length-map B3 body_view in
      let p = into (map body_view B0) room.0 (omega arith) in
      let r : Lays (LaysBlock fs roots k b ds) (stmts_within b) (state E1 B0 I0) (state E2 B2 I1) = inner.lays l room.1 (fits-part (stmts_within b) (laying E1 (map body_view B0)) fits (λ y h. later h) (omega arith) (omega arith)) in
      let re = r.few.entries in
      let rb = r.few.bodies in
      let number_is = own-number number E2 F1 F2 numbered (omega arith) in
      let bodies_are : body ≡ next_body roots (laying E2 (map body_view B2)) = body_is (omega arith) ∙ ap (λ (z : ℕ). roots + z) (sym y2) in
      let own = own_as room.0 in
      let le = one-more-long entry_view E2 E3 own.entry own.is in
      let opened = made ∙ ap (λ (z : code.Body). map body_view B2 ++ z ∷ []) (body-is (ByStep number) [] I0 I1 r.data_are r.numbers none (ap (map variable_view) nil) r.entries r.makes ∙ ap (λ (z : ℕ). record { opener = ByStep z; makes = r.data_are; entries = r.numbers }) number_is) in
      let lb = one-more-long body_view B2 B3 _ opened in
      record {
        numbers = p.numbers ++ length (map entry_view E2) ∷ [];
        data_are = data_in None (outer_parts (c ∷ []));
        by_rule = branch own.entry p.laid r.by_rule
            (subst (λ (z : ℕ). IsOwnEntry own.entry at k a (λ l. If (over k (own_needs l k a) (seen l c.cell)) z None)) bodies_are own.own) own.offset_is
            (ap₂ (λ (es : List Entry) (bs : List code.Body). record { entries = es; bodies = bs }) own.is opened) refl;
        entries = own-listed number E2 F0 F1 F2 p.numbers numbered p.entries number_is;
        makes = own-data number E2 F1 F2 numbered ∙ p.makes;
        few = record { entries = omega arith; bodies = omega arith };
      }
      );
}

pub branches-emit : (fs : List Kinds) (roots k at n : ℕ) (c : Outer) (b d : Block) (ds es : List (ℕ × Bool)) (E0 E1 E2 E3 E4 : List Made) (B0 B2 B3 B4 B5 : List Opened) (F0 F1 F2 I0 I1 J0 J1 : BlockBuilder) (body other number : ℕ)
    → ((bodies : List code.Body) → OuterRoom k c → length E1 ≤ 2 ^ 32 → PartsInto fs k (outer_parts (c ∷ [])) at (pos 0) (laying E0 bodies) (laying E1 bodies) F0 F1)
    → ((l : Layout) → OuterRoom k c → PlainAs l None (outer_parts (c ∷ [])) → ((i : ℕ) → l.body_of i ≡ suc i) → IndexesStand (outer_parts (c ∷ [])) → length E1 ≤ length E0 + length (outer_parts (c ∷ [])))
    → I0.entries.items ≡ [] → I0.makes.items ≡ []
    → EmitsBlock fs roots k b ds (state E1 B0 I0) (state E2 B2 I1)
    → J0.entries.items ≡ [] → J0.makes.items ≡ []
    → EmitsBlock fs roots k d es (state E2 B2 J0) (state E3 B3 J1)
    → (roots + length B3 < 2 ^ 32 → body ≡ roots + length B3)
    → (body + 1 < 2 ^ 32 → other ≡ body + 1)
    → Numbered number (length E3) F1 F2
    → (OuterRoom k c → OwnAddedAs k at (choose c b d) (λ l. If (over k (own_needs l k (choose c b d)) (seen l c.cell)) body (Some other)) E3 E4)
    → map body_view B4 ≡ map body_view B3 ++ record { opener = ByStep number; makes = map variable_view I1.makes.items; entries = I1.entries.items } ∷ []
    → map body_view B5 ≡ map body_view B4 ++ record { opener = ByStep number; makes = map variable_view J1.makes.items; entries = J1.entries.items } ∷ []
    → EmitsStmt fs roots k (stmt at n (choose c b d)) (ds ++ es) (state E0 B0 F0) (state E4 B5 F2)
branches-emit fs roots k at n c b d ds es E0 E1 E2 E3 E4 B0 B2 B3 B4 B5 F0 F1 F2 I0 I1 J0 J1 body other number into few none nil inner none' nil' inner' body_is other_is numbered own_as made made' = record {
  lays = λ l room fits. (
      let a = choose c b d in
      let su = fits.suits at n a first in
      let m = few l room.0 su.0.parts_plain su.0.bodies su.1 in
      let fe = fits.entries in
      let fb = fits.bodies in
      let size = size-both b d in
      let x0 = length-map E0 entry_view in
      let x1 = length-map E1 entry_view in
      let x2 = length-map E2 entry_view in
      let x3 = length-map E3 entry_view in
      let x4 : length (state E4 B5 F2).laying.entries ≡ length E4 = length-map E4 entry_view in
      let y0 = length-map B0 body_view in
      let y2 = length-map B2 body_view in
      let y3 = length-map B3 body_view in
      let y5 : length (state E4 B5 F2).laying.bodies ≡ length B5 = length-map B5 body_view in
      let p = into (map body_view B0) room.0 (omega arith) in
      let r : Lays (LaysBlock fs roots k b ds) (stmts_within b) (state E1 B0 I0) (state E2 B2 I1) = inner.lays l room.1.0 (fits-part (stmts_within b) (laying E1 (map body_view B0)) fits (λ y h. later (left-in b d h)) (omega arith) (omega arith)) in
      let re = r.few.entries in
      let rb = r.few.bodies in
      let q : Lays (LaysBlock fs roots k d es) (stmts_within d) (state E2 B2 J0) (state E3 B3 J1) = inner'.lays l room.1.1 (fits-part (stmts_within d) (laying E2 (map body_view B2)) fits (λ y h. later (right-in b d h)) (omega arith) (omega arith)) in
      let qe = q.few.entries in
      let qb = q.few.bodies in
      let number_is = own-number number E3 F1 F2 numbered (omega arith) in
      let first_is = body_is (omega arith) in
      let second_is = other_is (omega arith) in
      let bodies_are : body ≡ next_body roots (laying E3 (map body_view B3)) = first_is ∙ ap (λ (z : ℕ). roots + z) (sym y3) in
      let others_are : other ≡ suc (next_body roots (laying E3 (map body_view B3))) = omega arith in
      let own = own_as room.0 in
      let le = one-more-long entry_view E3 E4 own.entry own.is in
      let one = body-is (ByStep number) [] I0 I1 r.data_are r.numbers none (ap (map variable_view) nil) r.entries r.makes ∙ ap (λ (z : ℕ). record { opener = ByStep z; makes = r.data_are; entries = r.numbers }) number_is in
      let two = body-is (ByStep number) [] J0 J1 q.data_are q.numbers none' (ap (map variable_view) nil') q.entries q.makes ∙ ap (λ (z : ℕ). record { opener = ByStep z; makes = q.data_are; entries = q.numbers }) number_is in
      let opened = two-added B3 B4 B5 _ _ _ _ made made' one two in
      let lb = one-more-long body_view B3 B4 _ made in
      let lb' = one-more-long body_view B4 B5 _ made' in
      record {
        numbers = p.numbers ++ length (map entry_view E3) ∷ [];
        data_are = data_in None (outer_parts (c ∷ []));
        by_rule = branches own.entry p.laid r.by_rule q.by_rule refl
            (subst (λ (z : ℕ). IsOwnEntry own.entry at k a (λ l. If (over k (own_needs l k a) (seen l c.cell)) (next_body roots (laying E3 (map body_view B3))) (Some z))) others_are
            (subst (λ (z : ℕ). IsOwnEntry own.entry at k a (λ l. If (over k (own_needs l k a) (seen l c.cell)) z (Some other))) bodies_are own.own)) own.offset_is
            (ap₂ (λ (xs : List Entry) (bs : List code.Body). record { entries = xs; bodies = bs }) own.is opened) refl;
        entries = own-listed number E3 F0 F1 F2 p.numbers numbered p.entries number_is;
        makes = own-data number E3 F1 F2 numbered ∙ p.makes;
        few = record { entries = omega arith; bodies = omega arith };
      }
      );
}
