-- Blocks of a core with types, and what its names stand for at live paths.
use Rattle.std.specs.Prelude.{◌≡◌, ℕ, zero, suc, List, [], ◌∷◌, Option, Some, slice_get, option_to_list, pos, refl}
use Rattle.std.proofs.Common.{inl, inr, sym, ap, ◌∙◌, subst, arith}
use Rattle.values.specs.declared.key.Key.{Key}
use Rattle.language.specs.Core.{Owned, local, input, output, Name, Call, Part, inner, calls, Cell, Outer, Awaited, Stmt, stmt, Action, when, choose, range, each, wait, Block, no_stmts, stmts, Core}
use Rattle.language.specs.Facts.{Knowledge}
use Rattle.language.specs.Meaning.{Live, script, opened, waited, called}
use Rattle.language.specs.Members.{◌∈◌, first, later}
use Rattle.language.specs.Parts.{outer_parts, parts, part_cells, part_calls, stmt_calls, stmt_action, block_list, script_blocks, script_stmts, name_at, input_name, output_name, call_at}
use Rattle.language.specs.Places.{Path, place, place_of}
use Rattle.language.specs.Scopes.{Typ, Signature}
use Rattle.language.specs.WellFormed.{header_blocks}
use Rattle.language.proofs.Members.{split_in, either}
use Rattle.language.proofs.Tested.{among_split}
use Rattle.language_laws.proofs.Declared.{live_block, header_of}
use Rattle.language_laws.specs.Scoped.{InScope, of_script, of_function, inside, in_wait}
use Rattle.language_accepted.specs.Types.{no_signature, OwnedHas, NameHas, NamesHave, one_name, FormHas, CallHas, PartHas, OuterHas, OutersHave, BlockHas, a_statement, ActionHas, of_call, of_when, of_choose, of_range, of_each, of_wait, HasTypes, TypedAt}
use Rattle.language_accepted.proofs.Bodies.{scoped_block}

-- PARTS OF A STATEMENT

cell_part : (ps : List Part) {c : Cell} → c ∈ part_cells ps → inner c ∈ ps
cell_part [] m = elim m [ ]
cell_part (inner d ∷ ps) {c} m = elim (split_in m) [ inl e ↦ subst (λ (z : Cell). inner c ∈ (inner z ∷ ps)) e first | inr i ↦ later (cell_part ps i) ]
cell_part (calls d ∷ ps) m = later (cell_part ps m)

call_part : (ps : List Part) {c : Call} → c ∈ part_calls ps → calls c ∈ ps
call_part [] m = elim m [ ]
call_part (calls d ∷ ps) {c} m = elim (split_in m) [ inl e ↦ subst (λ (z : Call). calls c ∈ (calls z ∷ ps)) e first | inr i ↦ later (call_part ps i) ]
call_part (inner d ∷ ps) m = later (call_part ps m)

module _ (fs : List Signature) (type_of : ℕ → Typ) where
  -- a statement with types
  pub record StmtHas (f : Signature) (depth : ℕ) (a : Action) : Type 0 where
    pub outer : OutersHave fs type_of f depth a
    pub action : ActionHas fs type_of f depth a

  pub stmt_has : {f : Signature} {depth : ℕ} (b : Block) {st : Stmt} → BlockHas fs type_of f depth b → st ∈ block_list b → StmtHas f depth (stmt_action st)
  stmt_has no_stmts h m = elim m [ ]
  stmt_has {f} {depth} (stmts (stmt at n a) b) (a_statement ps h r) m = elim (split_in m) [
    | inl e ↦ subst (λ (z : Stmt). StmtHas f depth (stmt_action z)) (sym e) (record { outer = ps; action = h })
    | inr i ↦ stmt_has b r i
  ]

  -- a part of a statement: a cell, its outermost ones too, or a call
  abbrev pub SomePart : Signature → ℕ → Part → Type 0
  SomePart f depth (inner c) = FormHas fs type_of f depth c.form (type_of c.node)
  SomePart f depth (calls c) = CallHas fs type_of f depth c

  some_part : (f : Signature) (depth : ℕ) (p : Part) → PartHas fs type_of f depth p → SomePart f depth p
  some_part f depth (inner c) h = subst (FormHas fs type_of f depth c.form) (sym h.1) h.2
  some_part f depth (calls c) h = h

  outer_part : {f : Signature} {depth : ℕ} (os : List Outer) → ((o : Outer) → o ∈ os → OuterHas fs type_of f depth o) → {p : Part} → p ∈ outer_parts os → SomePart f depth p
  outer_part [] h m = elim m [ ]
  outer_part {f} {depth} (o ∷ os) h {p} m = elim (either o.parts (inner o.cell ∷ outer_parts os) m) [
    | inl i ↦ some_part f depth p ((h o first).before p i)
    | inr i ↦ elim (split_in i) [
      | inl e ↦ subst (SomePart f depth) (sym e) (h o first).cell
      | inr j ↦ outer_part os (λ z k. h z (later k)) j
    ]
  ]

  pub part_has : {f : Signature} {depth : ℕ} (a : Action) → StmtHas f depth a → {p : Part} → p ∈ parts a → SomePart f depth p
  part_has {f} {depth} (Action.call_alone q ps c) h {p} m = by h.action
    where
      by : ActionHas fs type_of f depth (Action.call_alone q ps c) → SomePart f depth p
      by (of_call before call) = elim (either ps (calls c ∷ []) m) [
        | inl i ↦ some_part f depth p (before p i)
        | inr i ↦ elim (split_in i) [ inl e ↦ subst (SomePart f depth) (sym e) call | inr j ↦ elim j [ ] ]
      ]
  part_has (Action.declare v) h m = elim m [ ]
  part_has (Action.assign x o) h m = outer_part (o ∷ []) h.outer m
  part_has (Action.fill x o) h m = outer_part (o ∷ []) h.outer m
  part_has (Action.insert x i o) h m = outer_part (i ∷ o ∷ []) h.outer m
  part_has (Action.print p o) h m = outer_part (o ∷ []) h.outer m
  part_has (Action.assert p o) h m = outer_part (o ∷ []) h.outer m
  part_has (when o b) h m = outer_part (o ∷ []) h.outer m
  part_has (choose o b d) h m = outer_part (o ∷ []) h.outer m
  part_has (range lo hi st x t b) h m = outer_part (lo ∷ hi ∷ option_to_list st) h.outer m
  part_has (each x v t b) h m = elim m [ ]
  part_has (wait ns b) h m = elim m [ ]

  pub cell_has : {f : Signature} {depth : ℕ} (a : Action) {c : Cell} → StmtHas f depth a → c ∈ part_cells (parts a) → FormHas fs type_of f depth c.form (type_of c.node)
  cell_has a {c} h m = part_has a h {p = inner c} (cell_part (parts a) m)

  pub call_has : {f : Signature} {depth : ℕ} (a : Action) {c : Call} → StmtHas f depth a → c ∈ part_calls (parts a) → CallHas fs type_of f depth c
  call_has a {c} h m = part_has a h {p = calls c} (call_part (parts a) m)

  -- the blocks inside
  pub header_has : {f : Signature} {depth : ℕ} {a : Action} {c : Block} → ActionHas fs type_of f depth a → c ∈ header_blocks a → BlockHas fs type_of f (suc depth) c
  header_has {f} {depth} {a = when o b} (of_when e h) m = elim (split_in m) [ inl q ↦ subst (BlockHas fs type_of f (suc depth)) (sym q) h | inr i ↦ elim i [ ] ]
  header_has {f} {depth} {a = choose o b d} (of_choose e h g) m = elim (split_in m) [
    | inl q ↦ subst (BlockHas fs type_of f (suc depth)) (sym q) h
    | inr i ↦ elim (split_in i) [ inl q ↦ subst (BlockHas fs type_of f (suc depth)) (sym q) g | inr j ↦ elim j [ ] ]
  ]
  header_has {f} {depth} {a = range lo hi st x t b} (of_range cs v u h) m = elim (split_in m) [ inl q ↦ subst (BlockHas fs type_of f (suc depth)) (sym q) h | inr i ↦ elim i [ ] ]
  header_has {f} {depth} {a = each x v t b} (of_each κ s w u h) m = elim (split_in m) [ inl q ↦ subst (BlockHas fs type_of f (suc depth)) (sym q) h | inr i ↦ elim i [ ] ]
  header_has {a = Action.declare v} h m = elim m [ ]
  header_has {a = Action.call_alone p ps c} h m = elim m [ ]
  header_has {a = Action.assign x o} h m = elim m [ ]
  header_has {a = Action.fill x o} h m = elim m [ ]
  header_has {a = Action.insert x i o} h m = elim m [ ]
  header_has {a = Action.print p o} h m = elim m [ ]
  header_has {a = Action.assert p o} h m = elim m [ ]
  header_has {a = wait ns b} h m = elim m [ ]

  pub content_has : {f : Signature} {depth : ℕ} {ns : List Awaited} {b : Block} → ActionHas fs type_of f depth (wait ns b) → BlockHas fs type_of f depth b
  content_has (of_wait w h) = h

  pub named_has : {f : Signature} {depth : ℕ} (xs : List Name) (τs : List Typ) (i : ℕ) (τ : Typ) → NamesHave fs type_of f depth xs τs → slice_get τs i ≡ Some τ → NameHas fs type_of f depth (name_at xs i) τ
  named_has [] (τ' ∷ τs) i τ h e = elim h [ ]
  named_has (x ∷ xs) [] i τ h e = elim h [ ]
  named_has [] [] zero τ h e = absurd (cc (e))
  named_has [] [] (suc i) τ h e = absurd (cc (e))
  named_has {f} {depth} (x ∷ xs) (τ' ∷ τs) zero τ (one_name h r) e = subst (NameHas fs type_of f depth x) (some_same e) h
    where
      some_same : {a b : Typ} → ◌≡◌ {A = Option Typ} (Some a) (Some b) → a ≡ b
      some_same q = cc
  named_has (x ∷ xs) (τ' ∷ τs) (suc i) τ (one_name h r) e = named_has xs τs i τ r e

  module _ (s : Core) (types : HasTypes fs type_of s) where
    -- EVERY BLOCK

    -- a block of a function or of the script
    pub record Placed (b : Block) : Type 0 where
      pub signature : Signature
      pub depth : ℕ
      pub typed : BlockHas fs type_of signature depth b

    placed_in : {k : ℕ} {b : Block} → InScope s k b → Placed b
    placed_in of_script = record { signature = no_signature; depth = 0; typed = types.script }
    placed_in (of_function i {f = f} e) = let q = types.functions i f e in record { signature = q.signature; depth = 0; typed = q.body }
    placed_in (inside {b = b} h i m) =
        let q = placed_in h in record { signature = q.signature; depth = suc q.depth; typed = header_has (stmt_has b q.typed i).action m }
    placed_in (in_wait {b = b} h i) =
        let q = placed_in h in record { signature = q.signature; depth = q.depth; typed = content_has (stmt_has b q.typed i).action }

    pub record StmtPlaced (a : Action) : Type 0 where
      pub signature : Signature
      pub depth : ℕ
      pub typed : StmtHas signature depth a

    pub stmt_placed : {st : Stmt} → st ∈ script_stmts s → StmtPlaced (stmt_action st)
    stmt_placed m =
        let r = among_split (script_blocks s) m in
        let q = placed_in (scoped_block s r.1).1 in
        record { signature = q.signature; depth = q.depth; typed = stmt_has r.0 q.typed r.2 }

    -- LIVE BLOCKS

    pub local_node : (path : Path) (up n : ℕ) → (place_of s path up (local n)).1 ≡ n
    local_node [] up n = refl
    local_node (step ∷ path) zero n = refl
    local_node (step ∷ path) (suc up) n = local_node path up n

    abbrev At : Path → Block → Type 0
    At path b = TypedAt fs type_of s path b

    module _ (found : (b : Block) (st : Stmt) (c : Call) → b ∈ script_blocks s → st ∈ block_list b → c ∈ stmt_calls st → call_at s c.at ≡ Some c) where
      none_named : (up : ℕ) (what : Owned) (τ : Typ) → OwnedHas fs type_of no_signature 0 up what τ → type_of (place_of s [] up what).1 ≡ τ
      none_named up (local n) τ h = h
      none_named up (input zero) τ h = absurd (cc (h.1))
      none_named up (input (suc i)) τ h = absurd (cc (h.1))
      none_named up (output zero) τ h = absurd (cc (h.1))
      none_named up (output (suc i)) τ h = absurd (cc (h.1))

      local_named : (path : Path) (up n : ℕ) (τ : Typ) → type_of n ≡ τ → type_of (place_of s path up (local n)).1 ≡ τ
      local_named path up n τ h = ap type_of (local_node path up n) ∙ h

      no_suc : {A : Type 0} (n : ℕ) → suc n ≡ 0 → A
      no_suc n e = absurd (omega arith)

      -- one header further in
      deeper_named : (path : Path) (b : Block) (step : ℕ × Key) (q : At path b) (up : ℕ) (what : Owned) (τ : Typ) → OwnedHas fs type_of q.signature (suc q.depth) up what τ → type_of (place_of s (step ∷ path) up what).1 ≡ τ
      deeper_named path b step q zero (local n) τ h = h
      deeper_named path b step q (suc up) (local n) τ h = local_named path up n τ h
      deeper_named path b step q zero (input i) τ h = no_suc q.depth (sym h.0)
      deeper_named path b step q zero (output i) τ h = no_suc q.depth (sym h.0)
      deeper_named path b step q (suc up) (input i) τ h = let e : suc up ≡ suc q.depth = h.0 in let d : up ≡ q.depth = omega arith in q.names (record { up = up; what = input i }) τ (d, h.1)
      deeper_named path b step q (suc up) (output i) τ h = let e : suc up ≡ suc q.depth = h.0 in let d : up ≡ q.depth = omega arith in q.names (record { up = up; what = output i }) τ (d, h.1)

      -- in the body of a called function
      called_named : (path : Path) (b : Block) (key : Key) (q : At path b) (c : Call) (h : CallHas fs type_of q.signature q.depth c) → call_at s c.at ≡ Some c
          → (up : ℕ) (what : Owned) (τ : Typ) → OwnedHas fs type_of h.signature 0 up what τ → type_of (place_of s ((c.at, key) ∷ path) up what).1 ≡ τ
      called_named path b key q c h e zero (local n) τ o = o
      called_named path b key q c h e (suc up) (local n) τ o = local_named path up n τ o
      called_named path b key q c h e zero (input i) τ o =
          subst (λ (z : Option Call). type_of (place s path (input_name z i)).1 ≡ τ) (sym e) (q.names (name_at c.inputs i) τ (named_has c.inputs h.signature.inputs i τ h.inputs o.1))
      called_named path b key q c h e zero (output i) τ o =
          subst (λ (z : Option Call). type_of (place s path (output_name z i)).1 ≡ τ) (sym e) (q.names (name_at c.outputs i) τ (named_has c.outputs h.signature.outputs i τ h.outputs o.1))
      called_named path b key q c h e (suc up) (input i) τ o = no_suc up o.0
      called_named path b key q c h e (suc up) (output i) τ o = no_suc up o.0

      pub live_stands : {K : Knowledge} {path : Path} {b : Block} → Live s K path b → At path b
      live_stands script = record { signature = no_signature; depth = 0; typed = types.script; names = λ x τ h. none_named x.up x.what τ h }
      live_stands (opened {path = path} {b = b} {at = at} {k = k} l i r o d) =
          let q = live_stands l in
          record { signature = q.signature; depth = suc q.depth; typed = header_has (stmt_has b q.typed i).action (header_of o); names = λ x τ h. deeper_named path b (at, k) q x.up x.what τ h }
      live_stands (waited {b = b} l i r) =
          let q = live_stands l in
          record { signature = q.signature; depth = q.depth; typed = content_has (stmt_has b q.typed i).action; names = q.names }
      live_stands (called {path = path} {b = b} {f = f} {st = stmt at n a} {c = c} l i m e d) =
          let q = live_stands l in
          let h : CallHas fs type_of q.signature q.depth c = call_has a (stmt_has b q.typed i) m in
          let g = types.functions c.function f e in
          record {
            signature = h.signature;
            depth = 0;
            typed = subst (λ (z : Signature). BlockHas fs type_of z 0 f.body) (some_same (sym g.there ∙ h.there)) g.body;
            names = λ x τ o. called_named path b (Key.Number (pos 0)) q c h (found b (stmt at n a) c (live_block s l) i m) x.up x.what τ o;
          }
        where
          some_same : {x y : Signature} → ◌≡◌ {A = Option Signature} (Some x) (Some y) → x ≡ y
          some_same h = cc
