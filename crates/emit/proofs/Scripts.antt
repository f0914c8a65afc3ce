-- Functions, one after another, and whole scripts.
use Rattle.std.proofs.Common.{◌≡◌, ℕ, suc, ◌+◌, ◌≤◌, ◌<◌, ◌^◌, Bool, List, [], ◌∷◌, ◌++◌, map, drop, get_or, length, refl, sym, ap, ap₂, ◌∙◌, subst, arith, append_assoc, append-nil}
use Rattle.std.specs.Prelude.{IsTrue}
use Rattle.std.proofs.lemmas.List.{drop_more, drop_all}
use Rattle.std.proofs.lemmas.Bool.{and_parts}
use Rattle.language.specs.Core.{Block, Function, Core}
use Rattle.language.specs.Parts.{blocks_of, function_blocks, script_stmts, stmts_among, stmts_within}
use Rattle.flow.specs.declared.script.Function.{Function as Found}
use Rattle.flow.specs.Shapes.{block_declared, functions_declared}
use Rattle.flow.specs.View.{function_view}
use Rattle.task_code.specs.Code as code
use Rattle.task_code.specs.Code.{ByCalls, ByMain, Opener, Variable}
use Rattle.task_code.specs.View.{body_view, variable_view}
use Rattle.task_code.specs.declared.entry.Entry.{Entry as Made}
use Rattle.task_code.specs.declared.code.Body.{Body as Opened}
use Rattle.code_rules.specs.Laying.{Kinds, Laying, LaysBlock, LaysScript, no_function, one_function}
use Rattle.emit_rights.specs.Granted.{laid_code}
use Rattle.code_laws.proofs.Layouts.{layout_of, layout_suits}
use Rattle.emit_statements.specs.Into.{laying}
use Rattle.emit_statements.specs.declared.block_builder.BlockBuilder.{BlockBuilder}
use Rattle.wait_merge.specs.Merged.{block_seen, functions_merged}
use Rattle.emit.specs.Emits.{CanBeEmitted, EmitsBlock, EmitsBody, EmitsFirst, EmitsFunctions, Fits, Lays, LaysBodies, LaysFirst, state}
use Rattle.emit.proofs.Bare.{bared, block-bare, functions-bare}
use Rattle.emit.proofs.Fitting.{among-left, among-right, fits-part, size-among}
use Rattle.emit.proofs.Opening.{body-is}

abbrev nothing : Laying
nothing = record { entries = []; bodies = [] }

-- a block that is laid into a body of its own
pub body-emits : (fs : List Kinds) (roots k : ℕ) (b : Block) (ds : List (ℕ × Bool)) (o : Opener) (E0 E1 : List Made) (B0 B1 : List Opened) (I0 I1 : BlockBuilder) (made : code.Body) → I0.makes.items ≡ [] → I0.entries.items ≡ []
    → EmitsBlock fs roots k b ds (state E0 B0 I0) (state E1 B1 I1) → made ≡ record { opener = o; makes = map variable_view I1.makes.items; entries = I1.entries.items }
    → EmitsBody fs roots k b ds o (laying E0 (map body_view B0)) (laying E1 (map body_view B1)) made
body-emits fs roots k b ds o E0 E1 B0 B1 I0 I1 made nil none inner is = record {
  lays = λ l room fits. (
      let r : Lays (LaysBlock fs roots k b ds) (stmts_within b) (state E0 B0 I0) (state E1 B1 I1) = inner.lays l room fits in
      record {
        numbers = r.numbers;
        data_are = r.data_are;
        by_rule = r.by_rule;
        is = is ∙ body-is o [] I0 I1 r.data_are r.numbers none (ap (map variable_view) nil) r.entries r.makes;
        few = r.few;
      }
      );
}

-- FUNCTIONS

pub function-emits : (fs : List Kinds) (roots : ℕ) (f : Function) (ds : List (ℕ × Bool)) (k : ℕ) (s t : Laying) (old new : List Opened) (made : code.Body) → k ≡ f.inputs → EmitsBody fs roots k f.body ds ByCalls s t made
    → map body_view new ≡ map body_view old ++ made ∷ [] → EmitsFirst fs roots f ds s t old new
function-emits fs roots f ds k s t old new made same inner is = record {
  lays = λ l room fits. (
      let r = (subst (λ (z : ℕ). EmitsBody fs roots z f.body ds ByCalls s t made) same inner).lays l room fits in
      record {
        numbers = r.numbers;
        data_are = r.data_are;
        by_rule = r.by_rule;
        is = is ∙ ap (λ (z : code.Body). map body_view old ++ z ∷ []) r.is;
        few = r.few;
      }
      );
}

-- a function, and then others behind it
pub functions-more : (fs : List Kinds) (roots : ℕ) (f : Function) (gs : List Function) (ds es : List (ℕ × Bool)) (s t u : Laying) (old mid new : List Opened) → EmitsFirst fs roots f ds s t old mid → EmitsFunctions fs roots gs es t u mid new
    → EmitsFunctions fs roots (f ∷ gs) (ds ++ es) s u old new
functions-more fs roots f gs ds es s t u old mid new one rest = record {
  lays = λ l room fits. (
      let size = size-among (blocks_of f.body) (function_blocks gs) in
      let x : LaysFirst fs roots f ds s t old mid = one.lays l room.0 (fits-part (stmts_within f.body) s fits (λ z h. among-left (blocks_of f.body) (function_blocks gs) h) (omega arith) (omega arith)) in
      let xe = x.few.entries in
      let xb = x.few.bodies in
      let y : LaysBodies fs roots gs es t u mid new = rest.lays l room.1 (fits-part (stmts_among (function_blocks gs)) t fits (λ z h. among-right (blocks_of f.body) (function_blocks gs) h) (omega arith) (omega arith)) in
      record {
        bodies = record { opener = ByCalls; makes = x.data_are; entries = x.numbers } ∷ y.bodies;
        by_rule = one_function x.by_rule y.by_rule refl refl;
        are = y.are ∙ ap (λ (bs : List code.Body). bs ++ y.bodies) x.is ∙ append_assoc (map body_view old) (record { opener = ByCalls; makes = x.data_are; entries = x.numbers } ∷ []) y.bodies;
      }
      );
}

pub functions-none : (fs : List Kinds) (roots : ℕ) (s : Laying) (old : List Opened) → EmitsFunctions fs roots [] [] s s old old
functions-none fs roots s old = record { lays = λ l room fits. record { bodies = []; by_rule = no_function; are = sym (append-nil (map body_view old)) } }

module _ {A : Type 0} (fs : List Kinds) (roots : ℕ) where
  abbrev pub EmitsOthers : List (Found A) → Laying → Laying → List Opened → List Opened → Type 0
  EmitsOthers gs s t old new = IsTrue (functions_merged gs) → EmitsFunctions fs roots (map function_view gs) (functions_declared gs) s t old new

  -- where the rest is laid from here on, all are
  pub record FunctionsOn (all rest : List (Found A)) (s t : Laying) (old mid : List Opened) : Type 0 where
    pub walks : (u : Laying) (new : List Opened) → EmitsOthers rest t u mid new → EmitsOthers all s u old new

  pub functions-start : (all : List (Found A)) (s : Laying) (old : List Opened) → FunctionsOn all all s s old old
  functions-start all s old = record { walks = λ u new rest. rest }

  pub functions-step : (all gs : List (Found A)) (i : ℕ) (f : Found A) (s t u : Laying) (old mid new : List Opened) → i < length gs → f ≡ get_or gs i f → FunctionsOn all (drop i gs) s t old mid
      → (IsTrue (block_seen f.body).merged → EmitsFirst fs roots (function_view f) (block_declared f.body) t u mid new) → FunctionsOn all (drop (i + 1) gs) s u old new
  functions-step all gs i f s t u old mid new below is before here =
      let e : drop i gs ≡ f ∷ drop (i + 1) gs = drop_more gs i f below ∙ ap (λ x. x ∷ drop (i + 1) gs) (sym is) in
      record {
        walks = λ v last rest. before.walks v last (subst (λ xs. EmitsOthers xs t v mid last) (sym e) (λ m. let both = and_parts (block_seen f.body).merged (functions_merged (drop (i + 1) gs)) m in functions-more fs roots (function_view f) (map function_view (drop (i + 1) gs)) (block_declared f.body) (functions_declared (drop (i + 1) gs)) t u v mid new last (here both.0) (rest both.1)));
      }

  pub functions-end : (all gs : List (Found A)) (i : ℕ) (s t : Laying) (old new : List Opened) → length gs ≤ i → FunctionsOn all (drop i gs) s t old new → EmitsOthers all s t old new
  functions-end all gs i s t old new done before = before.walks t new (subst (λ xs. EmitsOthers xs t t new new) (sym (drop_all i gs done)) (λ m. functions-none fs roots t new))

-- SCRIPTS

pub script-emits : (c : Core) (fs : List Kinds) (ds es : List (ℕ × Bool)) (count roots : ℕ) (E0 E1 E2 : List Made) (B0 B1 B2 R0 R1 R2 R3 : List Opened) (main : code.Body) → CanBeEmitted c
    → count ≡ length c.functions → (count + 1 < 2 ^ 64 → roots ≡ count + 1) → E0 ≡ [] → B0 ≡ [] → R0 ≡ []
    → EmitsBody fs roots 0 c.body ds ByMain (laying E0 (map body_view B0)) (laying E1 (map body_view B1)) main
    → map body_view R1 ≡ map body_view R0 ++ main ∷ []
    → EmitsFunctions fs roots c.functions es (laying E1 (map body_view B1)) (laying E2 (map body_view B2)) R1 R2
    → map body_view R3 ≡ map body_view R2 ++ map body_view B2
    → LaysScript c fs (ds ++ es) (laid_code R3 E2)
script-emits c fs ds es count roots E0 E1 E2 B0 B1 B2 R0 R1 R2 R3 main can count_is roots_are no_entries no_bodies no_roots script one functions both =
    let size = can.size in
    let sizes = size-among (blocks_of c.body) (function_blocks c.functions) in
    let root : roots ≡ suc (length c.functions) = roots_are (omega arith) ∙ (omega arith) in
    let start : laying E0 (map body_view B0) ≡ nothing = ap₂ (λ (xs : List Made) (bs : List Opened). laying xs (map body_view bs)) no_entries no_bodies in
    let l = layout_of c [] in
    let fits : Fits l (suc (length c.functions)) (script_stmts c) nothing = record { suits = λ at n a m. (layout_suits c [] can.cells at n a m, can.reads at n a m); entries = omega arith; bodies = omega arith } in
    let first_emits : EmitsBody fs (suc (length c.functions)) 0 c.body ds ByMain nothing (laying E1 (map body_view B1)) main =
    subst (λ (r : ℕ). EmitsBody fs r 0 c.body ds ByMain nothing (laying E1 (map body_view B1)) main) root (subst (λ (s : Laying). EmitsBody fs roots 0 c.body ds ByMain s (laying E1 (map body_view B1)) main) start script) in
    let x = first_emits.lays l can.room.0 (fits-part (stmts_within c.body) nothing fits (λ z h. among-left (blocks_of c.body) (function_blocks c.functions) h) (omega arith) (omega arith)) in
    let xe = x.few.entries in
    let xb = x.few.bodies in
    let rest : EmitsFunctions fs (suc (length c.functions)) c.functions es (laying E1 (map body_view B1)) (laying E2 (map body_view B2)) R1 R2 =
    subst (λ (r : ℕ). EmitsFunctions fs r c.functions es (laying E1 (map body_view B1)) (laying E2 (map body_view B2)) R1 R2) root functions in
    let y = rest.lays l can.room.1 (fits-part (stmts_among (function_blocks c.functions)) (laying E1 (map body_view B1)) fits (λ z h. among-right (blocks_of c.body) (function_blocks c.functions) h) (omega arith) (omega arith)) in
    record {
      own_declared = ds;
      function_declared = es;
      declared = refl;
      first = bared (laying E1 (map body_view B1));
      last = bared (laying E2 (map body_view B2));
      entries_are = x.numbers;
      makes_are = x.data_are;
      function_bodies = y.bodies;
      script = block-bare fs (suc (length c.functions)) 0 x.by_rule;
      functions = functions-bare y.by_rule;
      entries = refl;
      bodies = both ∙ ap (λ (bs : List code.Body). bs ++ map body_view B2) (y.are ∙ ap (λ (bs : List code.Body). bs ++ y.bodies) (one ∙ ap₂ (λ (rs : List Opened) (z : code.Body). map body_view rs ++ z ∷ []) no_roots x.is));
    }
