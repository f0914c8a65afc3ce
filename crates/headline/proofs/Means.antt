-- A name of an entry means what the script's name means: place for place, through branches, waits and calls.
use Rattle.std.proofs.Common.{◌≡◌, ◌⊎◌, inl, inr, ℕ, zero, suc, ◌<◌, ◌+◌, Bool, true, false, List, [], ◌∷◌, ◌++◌, map, length, refl, sym, ap, ◌∙◌, subst, Option, Some, None, arith}
use Rattle.std.specs.Prelude.{pos, slice_get, ℤ}
use Rattle.dataflow.specs.System.{In}
use Rattle.values.specs.declared.key.Key.{Key}
use Rattle.values.specs.declared.value.Scalar.{Scalar}
use Rattle.values.specs.Values.{same_truth}
use Rattle.language.specs.Core.{Owned, local, input, output, Name, here, Cell, Call, Part, Stmt, Block, Function, Core}
use Rattle.language.specs.Facts.{Knowledge}
use Rattle.language.specs.Meaning.{Live, script, opened, waited, called, in_block}
use Rattle.language.specs.Members.{◌∈◌, first, later}
use Rattle.language.specs.Parts.{call_at, input_name, output_name, name_at, part_cells, cells, stmt_calls, block_list}
use Rattle.language.specs.Places.{Path, Place, place, place_of}
use Rattle.language.specs.WellFormed.{NamesFound}
use Rattle.language_laws.proofs.Declared.{place_here, live_block, header_of}
use Rattle.task_code.specs.Code as code
use Rattle.task_code.specs.Code.{Variable, Local, Parameter, Argument, Named, Fixed, Entry, Code, Way, InPlace, Through, Calling, entry, body, ways, arguments, argument, argument_in, is_array_name}
use Rattle.task_code.specs.Places as CodePlaces
use Rattle.task_code.specs.Places.{Step, Datum, Constant, place_at}
use Rattle.task_code.specs.Whole.{Declared, SeenFrom, Fixes, IsCode}
use Rattle.task_code.proofs.Opens.{seen_place}
use Rattle.task_code.proofs.Places.{argument_kind, argued}
use Rattle.task_code.proofs.Rights.{declared_place}
use Rattle.headline.specs.Headline.{script_path}
use Rattle.code_rules.specs.CodeNames.{owned_as, name_as}
use Rattle.language_laws.specs.Scoped.{IsIn, IsScoped, InScope, of_script, of_function, inside, in_wait, Scoped}
use Rattle.code_rules.specs.IsCodeOf.{Layout, InputAs, of_literal, of_name, of_datum, of_array, InputsAs, no_input, one_input, OutputsAs, no_output, one_output, CallAs, BodyAs}
use Rattle.headline.specs.Chains.{Stands, same, plain, constant, Waited, one_ready, more_ready, Chain, at_script, by_header, by_wait, by_call}

-- NAMES

-- what an equation of names says of its parts
up_of : {r q : code.Name} → r ≡ q → r.up ≡ q.up
up_of h = ap (λ (z : code.Name). z.up) h

owned_of : {r q : code.Name} → r ≡ q → r.owned ≡ q.owned
owned_of h = ap (λ (z : code.Name). z.owned) h

pub local_parts : {v w : Variable} → Local v ≡ Local w → v ≡ w
local_parts h = cc

pub parameter_parts : {i m : ℕ} {b d : Bool} → Parameter i b ≡ Parameter m d → (i ≡ m) × (b ≡ d)
parameter_parts h = (cc (h), cc (h))

-- a name that is the code's name of a variable of the block
pub here_owned : (k : ℕ) (b : Bool) (what : Owned) (v : Variable) → owned_as k b what ≡ Local v → (what ≡ local v.node) × (b ≡ v.array)
here_owned k b (local n) v h =
    let q = local_parts h in (ap (λ (z : Variable). local z.node) q, ap (λ (z : Variable). z.array) q)
here_owned k b (input i) v h = absurd (cc (h))
here_owned k b (output j) v h = absurd (cc (h))

-- a name that is a parameter of the function
pub data IsParameter (k : ℕ) (i : ℕ) : Owned → Type 0 where
  an_input : IsParameter k i (input i)
  an_output : {j : ℕ} → k + j ≡ i → IsParameter k i (output j)

parameter_owned : (k : ℕ) (b : Bool) (what : Owned) (i : ℕ) (d : Bool) → owned_as k b what ≡ Parameter i d → IsParameter k i what × (b ≡ d)
parameter_owned k b (local n) i d h = absurd (cc (h))
parameter_owned k b (input m) i d h = let q = parameter_parts h in (subst (λ (z : ℕ). IsParameter k z (input m)) q.0 an_input, q.1)
parameter_owned k b (output j) i d h = let q = parameter_parts h in (an_output q.0, q.1)

-- ARGUMENTS

head_argument : (a : Argument) (rs : List Argument) (d : Bool) (x : Argument) → argument_in (a ∷ rs) 0 d ≡ Some x → (a ≡ x)
head_argument (Named r) rs d x h = by (same_truth (is_array_name r) d) h
  where
    by : (t : Bool) → elim t [ true ↦ Some (Named r) | false ↦ None ] ≡ Some x → Named r ≡ x
    by true e = cc (e)
    by false e = absurd (cc (e))
head_argument (Fixed v) rs d x h = by d h
  where
    by : (t : Bool) → elim t [ true ↦ None | false ↦ Some (Fixed v) ] ≡ Some x → Fixed v ≡ x
    by true e = absurd (cc (e))
    by false e = cc (e)

next_argument : (a : Argument) (rs : List Argument) (m : ℕ) (d : Bool) → argument_in (a ∷ rs) (suc m) d ≡ argument_in rs m d
next_argument (Named r) rs m d = refl
next_argument (Fixed v) rs m d = refl

module _ (C : Code) (l : Layout) where
  pub input_at : {k : ℕ} {all : List Part} {xs : List Name} {ins : List Argument} (outs : List Argument) (m : ℕ) (d : Bool) (x : Argument) → InputsAs C l k all xs ins
      → m < length xs → argument_in (ins ++ outs) m d ≡ Some x → InputAs C l k all (name_at xs m) x × (name_at xs m ∈ xs)
  input_at outs m d x no_input b h = absurd (omega arith)
  input_at {k} {all} outs zero d x (one_input {x = y} {a = a} {ys = ys} i is) b h = (subst (λ (z : Argument). InputAs C l k all y z) (head_argument a (ys ++ outs) d x h) i, first)
  input_at outs (suc m) d x (one_input {a = a} {ys = ys} i is) b h =
      let r = input_at outs m d x is (omega arith) (sym (next_argument a (ys ++ outs) m d) ∙ h) in (r.0, later r.1)

  pub output_at : {k : ℕ} {xs : List Name} {outs : List code.Name} (m : ℕ) (d : Bool) (x : Argument) → OutputsAs C l k xs outs → argument_in (map Named outs) m d ≡ Some x
      → (b : Bool) × (Named (name_as k b (name_at xs m)) ≡ x) × (name_at xs m ∈ xs)
  output_at m d x no_output h = absurd (cc)
  output_at {k} zero d x (one_output b {x = y} {ys = ys} os) h = (b, head_argument (Named (name_as k b y)) (map Named ys) d x h, first)
  output_at {k} (suc m) d x (one_output b {x = y} {ys = ys} os) h =
      let r = output_at m d x os (sym (next_argument (Named (name_as k b y)) (map Named ys) m d) ∙ h) in (r.0, r.1, later r.2)

  pub past_inputs : {k : ℕ} {all : List Part} {xs : List Name} {ins : List Argument} (outs : List Argument) (m n : ℕ) (d : Bool) → InputsAs C l k all xs ins → n ≡ length xs + m → argument_in (ins ++ outs) n d ≡ argument_in outs m d
  past_inputs outs m n d no_input h = let q : n ≡ m = omega arith in ap (λ (z : ℕ). argument_in outs z d) q
  past_inputs outs m zero d (one_input i is) h = absurd (omega arith)
  past_inputs outs m (suc n) d (one_input {a = a} {ys = ys} i is) h = next_argument a (ys ++ outs) n d ∙ past_inputs outs m n d is (omega arith)

kind_of_name : (k : ℕ) (b : Bool) (x : Name) → is_array_name (name_as k b x) ≡ b
kind_of_name k b x = by x.what
  where
    by : (what : Owned) → is_array_name (record { up = x.up; owned = owned_as k b what }) ≡ b
    by (local n) = refl
    by (input i) = refl
    by (output j) = refl

same_up : (k : ℕ) (b d : Bool) (x y : Name) → name_as k b x ≡ name_as k d y → b ≡ d
same_up k b d x y h = sym (kind_of_name k b x) ∙ ap is_array_name h ∙ kind_of_name k d y

module _ (s : Core) (C : Code) (l : Layout) (K : Knowledge) (w : NamesFound s) (I : IsCode C) (sc : Scoped s) where
  -- a live block with its body, on both sides
  pub chain_live : {p : List Step} {t k : ℕ} {b : Block} → Chain s C l K p t k b → Live s K (script_path p) b
  chain_live (at_script h) = script
  chain_live (by_header j ch m i mk wy h r o d) = opened (chain_live ch) m r o d
  chain_live (by_wait j ch m i wy h r) = waited_live (chain_live ch) m r
    where
      waited_live : {path : Path} {b c : Block} {st : Stmt} → Live s K path b → st ∈ block_list b → Waited s C l K path st c → Live s K path c
      waited_live lv m (one_ready r) = waited lv m r
      waited_live lv m (more_ready r ws) = waited_live (waited lv m r) first ws
  chain_live (by_call j ch m n i ca cs f q h d) = called (chain_live ch) m n f d

  pub chain_body : {p : List Step} {t k : ℕ} {b : Block} → Chain s C l K p t k b → BodyAs C l k b t
  chain_body (at_script h) = h
  chain_body (by_header j ch m i mk wy h r o d) = h
  chain_body (by_wait j ch m i wy h r) = h
  chain_body (by_call j ch m n i ca cs f q h d) = h

  pub chain_scope : {p : List Step} {t k : ℕ} {b : Block} → Chain s C l K p t k b → InScope s k b
  chain_scope (at_script h) = of_script
  chain_scope (by_header j ch m i mk wy h r o d) = inside (chain_scope ch) m (header_of o)
  chain_scope (by_wait j ch m i wy h r) = waited_scope (chain_scope ch) m r
    where
      waited_scope : {path : Path} {k : ℕ} {b c : Block} {st : Stmt} → InScope s k b → st ∈ block_list b → Waited s C l K path st c → InScope s k c
      waited_scope g m (one_ready r) = in_wait g m
      waited_scope g m (more_ready r ws) = waited_scope (in_wait g m) first ws
  chain_scope (by_call {c = c} j ch m n i ca cs f q h d) = of_function c.function f

  -- what the names of a right are covered by
  pub record Covering (rights : Entry → List code.Name) : Type 0 where
    pub in_script : (j : ℕ) (r : code.Name) → In j (body C 0).entries → In r (rights (entry C j)) → Declared C 0 r
    pub in_body : (i : ℕ) (v : Way) (u : ℕ) → In (v, u) (ways (entry C i).act) → (j : ℕ) (r : code.Name) → In j (body C u).entries → In r (rights (entry C j))
        → (Declared C u r ⊎ SeenFrom C rights i v r) ⊎ Fixes C (entry C i).offset v r

  pub covering_reads : Covering (λ e. e.reads)
  covering_reads = record { in_script = λ j r i h. I.script_reads j r i h; in_body = λ i v u h j r m n. (I.fits i v u h).reads j r m n }

  pub covering_writes : Covering (λ e. e.writes)
  covering_writes = record { in_script = λ j r i h. I.script_writes j r i h; in_body = λ i v u h j r m n. inl ((I.fits i v u h).writes j r m n) }

  abbrev Stand : Bool → CodePlaces.Place → Place → Type 0
  Stand d a x = Stands s C l K d a x

  moved : {d e : Bool} {a c : CodePlaces.Place} {x y : Place} → d ≡ e → a ≡ c → x ≡ y → Stand d a x → Stand e c y
  moved {d} {e} {a} {c} {x} {y} p q r h = subst (λ z. Stand z c y) p (subst (λ z. Stand d z y) q (subst (λ z. Stand d a z) r h))

  -- a name that the body declares
  declared_stands : (p : List Step) (t k : ℕ) (d : Bool) (x : Name) → Declared C t (name_as k d x) → Stand d (place_at C p (name_as k d x)) (place s (script_path p) x)
  declared_stands p t k d x h =
      let v = h.variable in
      let o = here_owned k d x.what v (owned_of h.is) in
      moved (sym o.1) (sym (declared_place C t p (name_as k d x) h))
      (sym (ap (λ (n : ℕ). place_of s (script_path p) n x.what) (up_of h.is) ∙ ap (λ (z : Owned). place_of s (script_path p) 0 z) o.0 ∙ place_here s (script_path p) v.node))
      (same {p = p} {v = v})

  fixed_kind : (rs : List Argument) (m : ℕ) (d : Bool) (v : Scalar) → argument_in rs m d ≡ Some (Fixed v) → d ≡ false
  fixed_kind [] m d v h = absurd (cc)
  fixed_kind (Named r ∷ rs) zero d v h = by (same_truth (is_array_name r) d) h
    where
      by : (t : Bool) → elim t [ true ↦ Some (Named r) | false ↦ None ] ≡ Some (Fixed v) → d ≡ false
      by true e = absurd (cc (e))
      by false e = absurd (cc (e))
  fixed_kind (Fixed u ∷ rs) zero true v h = absurd (cc (h))
  fixed_kind (Fixed u ∷ rs) zero false v h = refl
  fixed_kind (Named r ∷ rs) (suc m) d v h = fixed_kind rs m d v h
  fixed_kind (Fixed u ∷ rs) (suc m) d v h = fixed_kind rs m d v h

  pub named_same : {r q : code.Name} → Named r ≡ Named q → r ≡ q
  named_same h = cc

  fixed_same : {v u : Scalar} → Fixed v ≡ Fixed u → v ≡ u
  fixed_same h = cc

  module _ (rights : Entry → List code.Name) (cov : Covering rights) where
    -- the name has the same meaning on both sides, in the entries of this body
    abbrev Meant : List Step → ℕ → ℕ → Type 0
    Meant p j k = (d : Bool) (x : Name) → In (name_as k d x) (rights (entry C j)) → IsIn k x → Stand d (place_at C p (name_as k d x)) (place s (script_path p) x)

    -- through a step
    through_stands : (p : List Step) (at : ℕ) (key : Key) (j k : ℕ) → (entry C j).offset ≡ at → Meant p j k → (d : Bool) (x : Name) → SeenFrom C rights j Through (name_as k d x) → IsIn k x
        → Stand d (place_at C (record { offset = at; key = key } ∷ p) (name_as k d x)) (place s (script_path (record { offset = at; key = key } ∷ p)) x)
    through_stands p at key j k mk rec d x h g =
        let y : Name = record { up = h.outside.up; what = x.what } in
        let e : name_as k d y ≡ h.outside = λ i. record { up = h.outside.up; owned = owned_of h.seen i } in
        let r = rec d y (subst (λ (z : code.Name). In z (rights (entry C j))) (sym e) h.right) g in
        moved refl
        (ap (λ (z : code.Name). place_at C p z) e ∙ sym (seen_place C Through (entry C j).offset p key (record { offset = at; key = key } ∷ p) (name_as k d x) h.outside (λ i. record { offset = sym mk i; key = key } ∷ p) h.seen))
        (sym (ap (λ (n : ℕ). place_of s (script_path (record { offset = at; key = key } ∷ p)) n x.what) (up_of h.seen)))
        r

    -- through a call
    module _ {p : List Step} {t k : ℕ} {b : Block} {st : Stmt} {c : Call} {f : Function} {all : List Part} {at : ℕ} {pr : ℤ} (j : ℕ) (ch : Chain s C l K p t k b) (m : st ∈ block_list b) (n : c ∈ stmt_calls st)
        (ca : CallAs C l k all at pr c j) (cs : (d : Cell) → d ∈ part_cells all → d ∈ cells st) (q : slice_get s.functions c.function ≡ Some f) (len : length c.inputs ≡ f.inputs) (rec : Meant p j k) where
      abbrev inner_path : List Step
      inner_path = record { offset = c.at; key = Key.Number (pos 0) } ∷ p

      live : Live s K (script_path p) b
      live = chain_live ch

      found : call_at s c.at ≡ Some c
      found = w.call_found b st c (live_block s live) m n

      calls_it : In (Calling, l.body_of c.function) (ways (entry C j).act)
      calls_it = subst (λ (a : code.Act). In (Calling, l.body_of c.function) (ways a)) (sym ca.is.act_is) (inl refl)

      argument_is : (i : ℕ) (d : Bool) → argument C (entry C j).offset i d ≡ argument_in (ca.ins ++ map Named ca.outs) i d
      argument_is i d =
          ap (λ (z : ℕ). argument_in (arguments (entry C z).act) i d) (I.fits j Calling (l.body_of c.function) calls_it).opened.1
          ∙ ap (λ (a : code.Act). argument_in (arguments a) i d) ca.is.act_is

      scoped : IsScoped k st
      scoped = sc.statements k b st (chain_scope ch) m

      input_stands : {y : Name} {a : Argument} → InputAs C l k all y a → y ∈ c.inputs → (o : code.Name) → a ≡ Named o → (d : Bool) → is_array_name o ≡ d → In o (rights (entry C j)) → Stand d (place_at C p o) (place s (script_path p) y)
      input_stands (of_literal i pl) z o e d kd h = absurd (cc (e))
      input_stands (of_name {n = n'} {x = x} i pl) z o e d kd h =
          let eq = named_same e in
          let r = rec false x (subst (λ (z : code.Name). In z (rights (entry C j))) (sym eq) h) (scoped.in_cells _ (cs _ i)) in
          moved (sym (kind_of_name k false x) ∙ ap is_array_name eq ∙ kd) (ap (λ (z : code.Name). place_at C p z) eq) (sym (place_here s (script_path p) n')) (plain (in_block live m) (cs _ i) pl r)
      input_stands (of_datum {c = c'} i pl) z o e d kd h =
          let eq = named_same e in
          let r = rec false (here c'.node) (subst (λ (z : code.Name). In z (rights (entry C j))) (sym eq) h) (λ i e. absurd (cc (e))) in
          moved (ap is_array_name eq ∙ kd) (ap (λ (z : code.Name). place_at C p z) eq) refl r
      input_stands (of_array {x = x}) z o e d kd h =
          let eq = named_same e in
          let r = rec true x (subst (λ (z : code.Name). In z (rights (entry C j))) (sym eq) h) (scoped.in_inputs c x n z) in
          moved (sym (kind_of_name k true x) ∙ ap is_array_name eq ∙ kd) (ap (λ (z : code.Name). place_at C p z) eq) refl r

      input_constant : {y : Name} {a : Argument} → InputAs C l k all y a → (v : Scalar) → a ≡ Fixed v → Stand false (Constant v) (place s (script_path p) y)
      input_constant (of_literal {n = n'} {v = u} i pl) v e = moved refl (ap Constant (fixed_same e)) (sym (place_here s (script_path p) n')) (constant (in_block live m) (cs _ i) pl)
      input_constant (of_name i pl) v e = absurd (cc (e))
      input_constant (of_datum i pl) v e = absurd (cc (e))
      input_constant of_array v e = absurd (cc (e))

      input_place : (i : ℕ) → place_of s (script_path inner_path) 0 (input i) ≡ place s (script_path p) (name_at c.inputs i)
      input_place i = ap (λ (z : Option Call). place s (script_path p) (input_name z i)) found

      output_place : (i : ℕ) → place_of s (script_path inner_path) 0 (output i) ≡ place s (script_path p) (name_at c.outputs i)
      output_place i = ap (λ (z : Option Call). place s (script_path p) (output_name z i)) found

      in_range : (i : ℕ) (x : Name) → IsIn f.inputs x → x.what ≡ input i → i < length c.inputs
      in_range i x g e = let z = g i e in omega arith

      seen_in : (d : Bool) (x : Name) (h : SeenFrom C rights j Calling (name_as f.inputs d x)) → IsIn f.inputs x → (what : Owned) → x.what ≡ what → IsParameter f.inputs h.seen.0 what → d ≡ h.seen.1
          → Stand d (place_at C p h.outside) (place_of s (script_path inner_path) 0 what)
      seen_in d x h g (local n) e z kd = elim z [ ]
      seen_in d x h g (input i) e an_input kd =
          let a : argument_in (ca.ins ++ map Named ca.outs) h.seen.0 h.seen.1 ≡ Some (Named h.outside) = sym (argument_is h.seen.0 h.seen.1) ∙ h.seen.3 in
          let r = input_at C l (map Named ca.outs) h.seen.0 h.seen.1 (Named h.outside) ca.inputs (in_range h.seen.0 x g e) a in
          moved refl refl (sym (input_place h.seen.0)) (input_stands r.0 r.1 h.outside refl d (argument_kind (ca.ins ++ map Named ca.outs) h.seen.0 h.seen.1 h.outside a ∙ sym kd) h.right)
      seen_in d x h g (output i) e (an_output eq) kd =
          let a : argument_in (ca.ins ++ map Named ca.outs) h.seen.0 h.seen.1 ≡ Some (Named h.outside) = sym (argument_is h.seen.0 h.seen.1) ∙ h.seen.3 in
          let n' : h.seen.0 ≡ length c.inputs + i = omega arith in
          let r = output_at C l i h.seen.1 (Named h.outside) ca.outputs (sym (past_inputs C l (map Named ca.outs) i h.seen.0 h.seen.1 ca.inputs n') ∙ a) in
          let o = named_same r.1 in
          let z = rec r.0 (name_at c.outputs i) (subst (λ (z : code.Name). In z (rights (entry C j))) (sym o) h.right) (scoped.in_outputs c (name_at c.outputs i) n r.2) in
          moved (sym (kind_of_name k r.0 (name_at c.outputs i)) ∙ ap is_array_name o ∙ argument_kind (ca.ins ++ map Named ca.outs) h.seen.0 h.seen.1 h.outside a ∙ sym kd) (ap (λ (z : code.Name). place_at C p z) o) (sym (output_place i)) z

      call_stands : (d : Bool) (x : Name) → SeenFrom C rights j Calling (name_as f.inputs d x) → IsIn f.inputs x → Stand d (place_at C inner_path (name_as f.inputs d x)) (place s (script_path inner_path) x)
      call_stands d x h g =
          let z = parameter_owned f.inputs d x.what h.seen.0 h.seen.1 (owned_of h.seen.2) in
          moved refl (sym (seen_place C Calling (entry C j).offset p (Key.Number (pos 0)) inner_path (name_as f.inputs d x) h.outside (λ i. record { offset = sym ca.offset_is i; key = Key.Number (pos 0) } ∷ p) h.seen))
          (sym (ap (λ (n : ℕ). place_of s (script_path inner_path) n x.what) (up_of h.seen.2))) (seen_in d x h g x.what refl z.0 z.1)

      fixed_in : (d : Bool) (x : Name) (h : Fixes C (entry C j).offset Calling (name_as f.inputs d x)) → IsIn f.inputs x → (what : Owned) → x.what ≡ what → IsParameter f.inputs h.0 what
          → Stand false (Constant h.2) (place_of s (script_path inner_path) 0 what)
      fixed_in d x h g (local n) e z = elim z [ ]
      fixed_in d x h g (input i) e an_input =
          let a : argument_in (ca.ins ++ map Named ca.outs) h.0 h.1 ≡ Some (Fixed h.2) = sym (argument_is h.0 h.1) ∙ h.4 in
          let r = input_at C l (map Named ca.outs) h.0 h.1 (Fixed h.2) ca.inputs (in_range h.0 x g e) a in
          moved refl refl (sym (input_place h.0)) (input_constant r.0 h.2 refl)
      fixed_in d x h g (output i) e (an_output eq) =
          let a : argument_in (ca.ins ++ map Named ca.outs) h.0 h.1 ≡ Some (Fixed h.2) = sym (argument_is h.0 h.1) ∙ h.4 in
          let n' : h.0 ≡ length c.inputs + i = omega arith in
          let r = output_at C l i h.1 (Fixed h.2) ca.outputs (sym (past_inputs C l (map Named ca.outs) i h.0 h.1 ca.inputs n') ∙ a) in
          absurd (cc (r.1))

      constant_stands : (d : Bool) (x : Name) → Fixes C (entry C j).offset Calling (name_as f.inputs d x) → IsIn f.inputs x → Stand d (place_at C inner_path (name_as f.inputs d x)) (place s (script_path inner_path) x)
      constant_stands d x h g =
          let z = parameter_owned f.inputs d x.what h.0 h.1 (owned_of h.3) in
          let place_is : place_at C inner_path (name_as f.inputs d x) ≡ Constant h.2 =
          (λ i. place_at C (record { offset = sym ca.offset_is i; key = Key.Number (pos 0) } ∷ p) (h.3 i)) ∙ ap (argued C p) h.4 in
          moved (sym (z.1 ∙ fixed_kind (ca.ins ++ map Named ca.outs) h.0 h.1 h.2 (sym (argument_is h.0 h.1) ∙ h.4))) (sym place_is)
          (sym (ap (λ (n : ℕ). place_of s (script_path inner_path) n x.what) (up_of h.3))) (fixed_in d x h g x.what refl z.0)

    -- A NAME OF A RIGHT MEANS WHAT THE SCRIPT'S NAME MEANS
    pub means : {p : List Step} {t k : ℕ} {b : Block} → Chain s C l K p t k b → (j : ℕ) → In j (body C t).entries → Meant p j k
    means {p} {t} {k} (at_script h) j i d x m g = declared_stands p t k d x (cov.in_script j (name_as k d x) i m)
    means {p} {t} {k} (by_header {p = p'} {at = at} j' {key = key} ch m' i' mk wy h r o dp) j i d x m g =
        by (cov.in_body j' Through t wy j (name_as k d x) i m) (means ch j' i')
      where
        by : ((Declared C t (name_as k d x) ⊎ SeenFrom C rights j' Through (name_as k d x)) ⊎ Fixes C (entry C j').offset Through (name_as k d x)) → Meant p' j' k → Stand d (place_at C p (name_as k d x)) (place s (script_path p) x)
        by (inl (inl dd)) rec = declared_stands p t k d x dd
        by (inl (inr sf)) rec = through_stands p' at key j' k mk rec d x sf g
        by (inr fx) rec = absurd fx
    means {p} {t} {k} (by_wait j' ch m' i' wy h r) j i d x m g =
        by (cov.in_body j' InPlace t wy j (name_as k d x) i m) (means ch j' i')
      where
        by : ((Declared C t (name_as k d x) ⊎ SeenFrom C rights j' InPlace (name_as k d x)) ⊎ Fixes C (entry C j').offset InPlace (name_as k d x)) → Meant p j' k → Stand d (place_at C p (name_as k d x)) (place s (script_path p) x)
        by (inl (inl dd)) rec = declared_stands p t k d x dd
        by (inl (inr sf)) rec = rec d x (subst (λ (z : code.Name). In z (rights (entry C j'))) (sym sf.seen) sf.right) g
        by (inr fx) rec = absurd fx
    means {p} {t} {k} (by_call {p = p'} {k = k'} {c = c} {f = f} j' ch m' n' i' ca cs q len h dp) j i d x m g =
        by (cov.in_body j' Calling t (calls_it j' ch m' n' ca cs q len (means ch j' i')) j (name_as k d x) i m) (means ch j' i')
      where
        by : ((Declared C t (name_as k d x) ⊎ SeenFrom C rights j' Calling (name_as k d x)) ⊎ Fixes C (entry C j').offset Calling (name_as k d x)) → Meant p' j' k' → Stand d (place_at C p (name_as k d x)) (place s (script_path p) x)
        by (inl (inl dd)) rec = declared_stands p t k d x dd
        by (inl (inr sf)) rec = call_stands j' ch m' n' ca cs q len rec d x sf g
        by (inr fx) rec = constant_stands j' ch m' n' ca cs q len rec d x fx g
