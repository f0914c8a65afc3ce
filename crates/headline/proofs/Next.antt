-- From knowledge that clean code comes to, to the knowledge that follows from it.
use Rattle.std.proofs.Common.{◌≡◌, inl, inr, ℕ, Bool, List, Result, refl, sym, subst}
use Rattle.dataflow.specs.System.{In}
use Rattle.dataflow.specs.Facts.{Written, Ever}
use Rattle.dataflow.proofs.Frozen.{Within, written_grows, made_grows, finished_grows}
use Rattle.dataflow.proofs.Lists.{in_split}
use Rattle.values.specs.declared.fault.OpFault.{OpFault}
use Rattle.values.specs.declared.key.Key.{Key}
use Rattle.values.specs.declared.value.Scalar.{Scalar}
use Rattle.values.specs.declared.value.Value.{Value}
use Rattle.values.specs.declared.value.Value.TheVariants.{One}
use Rattle.language.specs.Core.{Expr, Exprs, compute, Cell, stmt, Action, Block, Core}
use Rattle.language.specs.Facts.{Fact, value, element, Knowledge}
use Rattle.language.specs.Meaning as Mn
use Rattle.language.specs.Meaning.{HasValue, New, ValueUnder, of_literal, of_name, of_array, of_operator, ValuesUnder, no_operand, operand, in_block}
use Rattle.language.specs.Members.{◌∈◌}
use Rattle.language.specs.Parts.{cells, block_list}
use Rattle.language.specs.Places.{Place}
use Rattle.language.specs.Single.{SinglyAssigned}
use Rattle.language.specs.WellFormed.{WellFormed}
use Rattle.language_laws.proofs.Declared.{stmt_in}
use Rattle.language_laws.proofs.Growth.{Grows, keeps_value}
use Rattle.language_laws.proofs.Sources.{IsFull, cell_gives}
use Rattle.language_laws.specs.Scoped.{AreIn, AllAreIn, FormIn, Scoped}
use Rattle.task_code.specs.Code.{Variable, Need, Code, entry, body}
use Rattle.task_code.specs.Effects.{Task}
use Rattle.task_code.specs.Exact.{IsExact}
use Rattle.task_code.specs.Machine.{CleanCode}
use Rattle.task_code.specs.Places as CodePlaces
use Rattle.task_code.specs.Places.{Step, Datum}
use Rattle.task_code.specs.System.{code_system}
use Rattle.task_code.specs.Whole.{IsCode}
use Rattle.task_code.proofs.Places.{spot_path, spot_variable, not_constant}
use Rattle.code_rules.proofs.Given.{gives_value}
use Rattle.code_rules.specs.CodeNames.{wanted, wanted_all}
use Rattle.headline.specs.Headline.{script_path, script_place}
use Rattle.code_rules.specs.IsCodeOf.{IsCodeOf}
use Rattle.headline.specs.Backs.{RightKnown, Backs}
use Rattle.headline.specs.Chains.{Chain, Stands, same, plain, constant}
use Rattle.headline.specs.Inclusions.{Facts}
use Rattle.headline.proofs.ElementsFrom.{element_from}
use Rattle.headline.proofs.Evaluate.{AsValue}
use Rattle.headline.proofs.EverFed.{Stored, NeedFed, IsStored, ArrayEver, ElementsStored, Behind, scalar_fed, array_fed_by, closed_ever, facts_ever}
use Rattle.headline.proofs.Fed.{WritesKnown, settled}
use Rattle.headline.proofs.LiveBy.{TaskEffect}
use Rattle.headline.proofs.Means.{chain_live, chain_scope}
use Rattle.headline.proofs.Readings.{name_inv, to_code_of}
use Rattle.headline.proofs.TurnsFrom.{turns_stored}
use Rattle.headline.proofs.WrittenFrom.{from_fact, scalars_from}

module _ (s : Core) (C : Code) (w : IsCodeOf s C) (wf : WellFormed s) (I : IsCode C) (sc : Scoped s) (clean : CleanCode C) where
  -- knowledge that the code comes to
  pub record Level (K : Knowledge) : Type 0 where
    pub backs : Backs s K
    pub full : IsFull s K
    pub elements : ElementsStored s C w wf I sc clean K
    pub behind : Behind s C w wf I sc clean K

  -- what follows from knowledge, with the values behind it
  pub record Follows (K' K : Knowledge) : Type 0 where
    pub grows : Grows s K' K
    pub news : (f : Fact) → K f → New s K' f
    pub scalars : (p : Place) (u : Scalar) → K (value p (One u)) → (x : New s K' (value p (One u))) × RightKnown s K' x
    pub elements : (a : Place) (k : Key) (u : Place) (x : Scalar) → K (element a k u x) → (n : New s K' (element a k u x)) × RightKnown s K' n

  module _ (ex : IsExact C) (single : SinglyAssigned s) (K' K : Knowledge) (lv : Level K') (fo : Follows K' K) where
    pub facts_level : (t : Task) (e : TaskEffect) → Facts s C K' t e → Ever (code_system C) t e
    facts_level = facts_ever s C w wf I sc clean K' lv.backs lv.elements lv.behind lv.full ex single

    ever_written : {q : List Step} {v : Variable} {key : Key} {x : Scalar} → Written (code_system C) (Facts s C K') (Datum q v) key x → Stored s C w wf I sc clean K q v key x
    ever_written z = written_grows (code_system C) (Facts s C K') (Ever (code_system C)) facts_level z

    elements_next : ElementsStored s C w wf I sc clean K
    elements_next q v key x u va h =
        let n = fo.elements (script_place q v) key u x h in
        let r = element_from s C w K' wf lv.backs I sc q v key u x va n.0 n.1 in
        ever_written r.2.0

    -- a scalar that has its value behind is stored
    from_behind : {pl : Place} {u : Scalar} → HasValue s K' pl u → {d : Bool} {a : CodePlaces.Place} → Stands s C w.layout K d a pl → IsStored s C w wf I sc clean K a u
    from_behind {u = u} h {a = a} st q v ae va pl =
        let hv : HasValue s K' (script_place q v) u = subst (λ (z : CodePlaces.Place). AsValue s C K' z u) ae (to_code_of s wf K' lv.backs C w.layout K st u h) in
        ever_written (scalars_from s C w K' wf lv.backs I sc (turns_stored s C w K' wf lv.backs I sc) q v u va pl hv refl)

    scalar_next : {pl : Place} {u : Scalar} → K (value pl (One u)) → {d : Bool} {a : CodePlaces.Place} → Stands s C w.layout K d a pl → IsStored s C w wf I sc clean K a u
    scalar_next {u = u} h (same {p = p} {v = y}) q v ae va pl =
        let n = fo.scalars (script_place p y) u h in
        ever_written (from_fact s C w K' wf lv.backs I sc (turns_stored s C w K' wf lv.backs I sc) q v u va pl n.0 n.1 (λ i. script_place (spot_path ae i) (spot_variable ae i)))
    scalar_next {u = u} h (plain {path = path} {n = n} live i pf sd) q v ae va pl =
        let g = (cell_gives s wf.cells K' (stmt_in s live) i (fo.scalars (path, n) u h).0).1 in
        from_behind (name_inv s wf K' (gives_value g refl) refl refl) sd q v ae va pl
    scalar_next h (constant live i pf) q v ae va pl = absurd (not_constant ae)

    -- arrays that are closed behind
    within : (q : List Step) (v : Variable) → Within (WritesKnown K' (Ever (code_system C)) q v) (WritesKnown K (Ever (code_system C)) q v)
    within q v t e f = (f.0, λ k x i. (let z = f.1 k x i in (z.0, (fo.grows).more _ z.1)))

    array_next : {pl : Place} → Mn.Closed s K' pl → ArrayEver s C w wf I sc clean K pl
    array_next c q v va e la =
        let r = closed_ever s C w wf I sc clean K' lv.backs lv.elements lv.behind lv.full ex single c q v va e la in
        record {
          made = made_grows (code_system C) (WritesKnown K' (Ever (code_system C)) q v) (WritesKnown K (Ever (code_system C)) q v) (within q v) r.made;
          finished = λ u i. finished_grows (code_system C) (WritesKnown K' (Ever (code_system C)) q v) (WritesKnown K (Ever (code_system C)) q v) (within q v) (r.finished u i);
          one_writer = λ k x y a b. (settled s C I clean K).one_writer (Datum q v) k x y (record { task = a.task; effect = a.effect; fact = (a.fact).0; write = a.write }) (record { task = b.task; effect = b.effect; fact = (b.fact).0; write = b.write });
        }

    module _ (kn : Backs s K) (full : IsFull s K) where
      -- the names of an expression that has its value behind
      module _ (p : List Step) (t k : ℕ) (b : Block) (ch : Chain s C w.layout K p t k b) (j : ℕ) (there : In j (body C t).entries) where
        mutual
          under_next : {e : Expr} {r : Result Value OpFault} → ValueUnder s K' (script_path p) e r → AreIn k e → (z : Need) → In z (wanted k e) → In z (entry C j).needs → NeedFed s C w wf I sc clean K p z
          under_next of_literal g z h zn = absurd h
          under_next (of_name {x = x} {v = v} hv) g z (inl q) zn =
              subst (λ (y : Need). NeedFed s C w wf I sc clean K p y) (sym q)
              (scalar_fed s C w wf I sc clean K kn elements_next p t k b ch j there x g (subst (λ (y : Need). In y (entry C j).needs) q zn) (v, keeps_value s K' K fo.grows hv, λ d a st e. from_behind hv st))
          under_next (of_name hv) g z (inr h) zn = absurd h
          under_next (of_array {a = x} c el) g z (inl q) zn =
              subst (λ (y : Need). NeedFed s C w wf I sc clean K p y) (sym q)
              (array_fed_by s C w wf I sc clean K kn elements_next p t k b ch j there x g (subst (λ (y : Need). In y (entry C j).needs) q zn) (array_next c))
          under_next (of_array c el) g z (inr h) zn = absurd h
          under_next (of_operator us q) g z h zn = under_all us g z h zn

          under_all : {es : Exprs} {rs : List (Result Value OpFault)} → ValuesUnder s K' (script_path p) es rs → AllAreIn k es → (z : Need) → In z (wanted_all k es) → In z (entry C j).needs → NeedFed s C w wf I sc clean K p z
          under_all no_operand g z h zn = absurd h
          under_all (operand {e = e} {es = es} u us) g z h zn = elim (in_split z (wanted k e) (wanted_all k es) h) [ inl i ↦ under_next u g.0 z i zn | inr i ↦ under_all us g.1 z i zn ]

      cell_next : (p : List Step) (t k : ℕ) (b : Block) (ch : Chain s C w.layout K p t k b) (j : ℕ) → In j (body C t).entries → (at n : ℕ) (a : Action) → stmt at n a ∈ block_list b → (c : Cell) → c ∈ cells (stmt at n a) → (v : Value) → K (value (script_path p, c.node) v) → (e : Expr) → c.form ≡ compute e
          → (z : Need) → In z (wanted k e) → In z (entry C j).needs → NeedFed s C w wf I sc clean K p z
      cell_next p t k b ch j there at n a m c cm v kv e f z zi zn =
          let g = (cell_gives s wf.cells K' (stmt_in s (in_block (chain_live s C w.layout K wf.names I sc ch) m)) cm (fo.news _ kv)).1 in
          under_next p t k b ch j there (gives_value g f) (subst (FormIn k) f ((sc.statements k b (stmt at n a) (chain_scope s C w.layout K wf.names I sc ch) m).in_cells c cm)) z zi zn

      -- THE NEXT KNOWLEDGE
      pub next_level : Level K
      next_level = record {
        backs = kn;
        full = full;
        elements = elements_next;
        behind = record { scalar = λ pl u h d a st e. scalar_next h st; under = λ p t k b ch j there at n a m c cm v kv e f z zi zn. cell_next p t k b ch j there at n a m c cm v kv e f z zi zn };
      }
