-- Waits, with those that are merged with them.
use Rattle.std.proofs.Common.{◌≡◌, ℕ, ◌+◌, ◌<◌, ◌^◌, Bool, List, [], ◌∷◌, ◌++◌, map, length, refl, sym, ap, ap₂, ◌∙◌, subst, arith}
use Rattle.std.specs.Prelude.{false, pos}
use Rattle.std.specs.List.{flat_map}
use Rattle.std.proofs.lemmas.List.{length-map}
use Rattle.language.specs.Core.{Awaited, stmt, wait, Block}
use Rattle.language.specs.Members.{later}
use Rattle.language.specs.Parts.{stmts_within}
use Rattle.task_code.specs.Code as code
use Rattle.task_code.specs.Code.{ByWait, Entry, Wait}
use Rattle.task_code.specs.View.{body_view, entry_view, variable_view}
use Rattle.task_code.specs.declared.entry.Entry.{Entry as Made}
use Rattle.task_code.specs.declared.code.Body.{Body as Opened}
use Rattle.code_rules.specs.CodeNames.{each_once}
use Rattle.code_rules.specs.IsCodeOf.{IsEntry}
use Rattle.code_rules.specs.Laying.{Kinds, LaysBlock, is_one_wait, next_body, waits}
use Rattle.code_rules.specs.Room.{ActionRoom}
use Rattle.emit_statements.specs.Into.{laying}
use Rattle.emit_statements.specs.declared.block_builder.BlockBuilder.{BlockBuilder}
use Rattle.emit_statements.specs.Blocks.{Numbered, WaitAddedAs}
use Rattle.emit.specs.Emits.{EmitsBlock, EmitsStmt, Lays, state}
use Rattle.emit.proofs.Fitting.{fits-part, inside-in, inside-room, size-inside}
use Rattle.emit.proofs.Opening.{one-more-long, body-is, own-number, own-first, own-none}

pub wait-emits : (fs : List Kinds) (roots k at n : ℕ) (ns : List Awaited) (c b : Block) (ds : List (ℕ × Bool)) (E1 E2 E3 : List Made) (B0 B2 B3 : List Opened) (F1 F2 I0 I1 : BlockBuilder) (body number : ℕ)
    → is_one_wait b ≡ false → I0.entries.items ≡ [] → I0.makes.items ≡ []
    → EmitsBlock fs roots k b ds (state E1 B0 I0) (state E2 B2 I1)
    → (roots + length B2 < 2 ^ 32 → body ≡ roots + length B2)
    → Numbered number (length E2) F1 F2
    → (ActionRoom k (wait ns c) → WaitAddedAs k at n (wait ns c) b body E2 E3)
    → map body_view B3 ≡ map body_view B2 ++ record { opener = ByWait number; makes = map variable_view I1.makes.items; entries = I1.entries.items } ∷ []
    → EmitsStmt fs roots k (stmt at n (wait ns c)) ds (state E1 B0 F1) (state E3 B3 F2)
wait-emits fs roots k at n ns c b ds E1 E2 E3 B0 B2 B3 F1 F2 I0 I1 body number lone none nil inner body_is numbered own_as made = record {
  lays = λ l room fits. (
      let own = own_as room in
      let merged = own.merged lone in
      let size = size-inside merged in
      let fe = fits.entries in
      let fb = fits.bodies in
      let x1 = length-map E1 entry_view in
      let x2 = length-map E2 entry_view in
      let x3 : length (state E3 B3 F2).laying.entries ≡ length E3 = length-map E3 entry_view in
      let y0 = length-map B0 body_view in
      let y2 = length-map B2 body_view in
      let y3 : length (state E3 B3 F2).laying.bodies ≡ length B3 = length-map B3 body_view in
      let r : Lays (LaysBlock fs roots k b ds) (stmts_within b) (state E1 B0 I0) (state E2 B2 I1) = inner.lays l (inside-room merged room) (fits-part (stmts_within b) (laying E1 (map body_view B0)) fits (λ z h. later (inside-in merged z h)) (omega arith) (omega arith)) in
      let re = r.few.entries in
      let rb = r.few.bodies in
      let number_is = own-number number E2 F1 F2 numbered (omega arith) in
      let bodies_are : body ≡ next_body roots (laying E2 (map body_view B2)) = body_is (omega arith) ∙ ap (λ (z : ℕ). roots + z) (sym y2) in
      let le = one-more-long entry_view E2 E3 own.entry own.is in
      let opened = made ∙ ap (λ (z : code.Body). map body_view B2 ++ z ∷ []) (body-is (ByWait number) [] I0 I1 r.data_are r.numbers none (ap (map variable_view) nil) r.entries r.makes ∙ ap (λ (z : ℕ). record { opener = ByWait z; makes = r.data_are; entries = r.numbers }) number_is) in
      let lb = one-more-long body_view B2 B3 _ opened in
      record {
        numbers = length (map entry_view E2) ∷ [];
        data_are = [];
        by_rule = waits own.entry merged r.by_rule (subst (λ (z : ℕ). IsEntry own.entry at (pos 0) (each_once (flat_map (λ h. h.needs) own.headers)) (Wait own.headers z)) bodies_are own.own, own.offset_is)
            (ap₂ (λ (es : List Entry) (bs : List code.Body). record { entries = es; bodies = bs }) own.is opened) refl;
        entries = own-first number E2 F1 F2 numbered number_is;
        makes = own-none number E2 F1 F2 numbered;
        few = record { entries = omega arith; bodies = omega arith };
      }
      );
}
