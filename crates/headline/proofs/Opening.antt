-- What an item of a live block reads, and how deep its block lies.
use Rattle.std.proofs.Common.{◌≡◌, ◌⊎◌, inl, inr, ℕ, zero, suc, ◌<◌, Bool, true, false, List, [], ◌∷◌, length, refl, sym, ap, ◌∙◌, subst, Some, None, Result, Ok, arith}
use Rattle.std.specs.Prelude.{◌&&◌, nat_le, pos}
use Rattle.values.specs.Values.{same_truth}
use Rattle.std.specs.List.{list_all}
use Rattle.dataflow.specs.System.{In, Effect, Outcome, Good}
use Rattle.values.specs.declared.fault.OpFault.{OpFault}
use Rattle.values.specs.declared.key.Key.{Key}
use Rattle.values.specs.declared.value.Scalar.{Scalar}
use Rattle.values.specs.declared.value.Value.{Value}
use Rattle.values.specs.declared.value.Value.TheVariants.{One}
use Rattle.language.specs.Core.{Name, here, Expr, name, Form, compute, read, Cell, Stmt, Block, Core}
use Rattle.language.specs.Facts.{value, Knowledge}
use Rattle.language.specs.Meaning.{HasValue, ValueUnder, of_literal, of_name, of_array, of_operator, Gives, LiveStmt, cell_value, computed}
use Rattle.language.specs.Members.{◌∈◌}
use Rattle.language.specs.Parts.{cells}
use Rattle.language.specs.Places.{Path, place, max_path_steps}
use Rattle.language.specs.WellFormed.{WellFormed}
use Rattle.language_laws.proofs.Declared.{stmt_in, place_here}
use Rattle.task_code.specs.Code as code
use Rattle.task_code.specs.Code.{Need, Stored, At, AtKey, Named, Fixed, Entry, Code, Way, InPlace, Through, Calling, entry, body, ways, argument, arguments, is_array_name, argument_in}
use Rattle.task_code.specs.Compute.{Computed, Fails, Gives as GivesOne, Inserts, Takes, Turns, Opens, EntryFault}
use Rattle.task_code.specs.Effects.{Task, steps_on, is_some_list, is_too_deep, outcome_of}
use Rattle.task_code.specs.Places.{Step, Datum, Constant, place_at}
use Rattle.task_code.specs.Places as CodePlaces
use Rattle.task_code.specs.Shape.{fits_kinds, has_shape}
use Rattle.task_code.specs.Whole.{Declared, SeenFrom, Fixes, IsCode}
use Rattle.task_code.proofs.Equal.{every_in}
use Rattle.task_code.proofs.Opens.{seen_place}
use Rattle.task_code.proofs.Places.{argument_kind}
use Rattle.task_code.proofs.Rights.{declared_place}
use Rattle.headline.specs.Headline.{script_path}
use Rattle.headline.specs.Knows.{Knows}
use Rattle.headline.specs.Chains.{Chain, at_script, by_header, by_wait, by_call}
use Rattle.language_laws.specs.Scoped.{IsIn, AreIn, FormIn}
use Rattle.code_rules.specs.IsCodeOf.{Layout, seen, seen_as}
use Rattle.headline.proofs.Evaluate.{IsDatum, ArrayIsDatum, ArraysAreData}
use Rattle.headline.proofs.Readings.{cell_has}
use Rattle.std.proofs.lemmas.Bool.{and_from, and_parts}

-- HOW DEEP

pub shallow : (x : Computed) (b : Bool) (e f : Effect Task CodePlaces.Place Key Scalar) → ◌≡◌ {A = Outcome Task CodePlaces.Place Key Scalar EntryFault} (outcome_of x b e) (Good f) → b ≡ false
shallow (Fails g) b e f h = absurd (cc (h))
shallow (GivesOne v) true e f h = absurd (cc (h))
shallow (GivesOne v) false e f h = refl
shallow (Inserts xs) true e f h = absurd (cc (h))
shallow (Inserts xs) false e f h = refl
shallow (Takes t) true e f h = absurd (cc (h))
shallow (Takes t) false e f h = refl
shallow (Turns ts) true e f h = absurd (cc (h))
shallow (Turns ts) false e f h = refl
shallow Opens true e f h = absurd (cc (h))
shallow Opens false e f h = refl

some_list : {X : Type 0} (x : X) (xs : List X) → In x xs → is_some_list xs ≡ true
some_list x [] h = absurd h
some_list y (x ∷ xs) h = refl

not_both : (a b : Bool) → (a && b) ≡ false → b ≡ true → a ≡ false
not_both true b h q = sym q ∙ h
not_both false b h q = refl

below : (n : ℕ) → nat_le max_path_steps n ≡ false → n < max_path_steps
below n h = grind arith

path_length : (p : List Step) → length (script_path p) ≡ length p
path_length [] = refl
path_length (t ∷ p) = ap suc (path_length p)

pub depth_below : (a : code.Act) (p : List Step) (s : ℕ × List Step) (ss : List (ℕ × List Step)) → steps_on a ≡ true → In s ss → is_too_deep a p ss ≡ false → length (script_path p) < max_path_steps
depth_below a p s ss st i h =
    let q = below (length p) (not_both (nat_le max_path_steps (length p)) (steps_on a && is_some_list ss) h (and_from (steps_on a) (is_some_list ss) st (some_list s ss i))) in
    subst (λ (n : ℕ). n < max_path_steps) (sym (path_length p)) q

-- ARRAYS ARE DATA

pub kind_fixed : (rs : List code.Argument) (m : ℕ) (d : Bool) (v : Scalar) → argument_in rs m d ≡ Some (Fixed v) → d ≡ true → ⊥
kind_fixed [] m d v h q = absurd (cc (h))
kind_fixed (Named r ∷ rs) zero d v h q = by (same_truth (is_array_name r) d) h
  where
    by : (t : Bool) → elim t [ true ↦ Some (Named r) | false ↦ None ] ≡ Some (Fixed v) → ⊥
    by true e = absurd (cc (e))
    by false e = absurd (cc (e))
kind_fixed (Fixed u ∷ rs) zero true v h q = absurd (cc (h))
kind_fixed (Fixed u ∷ rs) zero false v h q = absurd (cc (q))
kind_fixed (Named r ∷ rs) (suc m) d v h q = kind_fixed rs m d v h q
kind_fixed (Fixed u ∷ rs) (suc m) d v h q = kind_fixed rs m d v h q

module _ (s : Core) (C : Code) (l : Layout) (K : Knowledge) (I : IsCode C) where
  declared_datum : (t : ℕ) (p : List Step) (r : code.Name) → Declared C t r → IsDatum (place_at C p r)
  declared_datum t p r h = subst IsDatum (sym (declared_place C t p r h)) tt

  seen_array : (j : ℕ) (v : Way) (r : code.Name) (h : SeenFrom C (λ e. e.reads) j v r) → is_array_name r ≡ true → is_array_name h.outside ≡ true
  seen_array j InPlace r h q = ap is_array_name (sym h.seen) ∙ q
  seen_array j Through r h q = ap is_array_name (sym h.seen) ∙ q
  seen_array j Calling r h q = argument_kind (arguments (entry C _).act) h.seen.0 h.seen.1 h.outside h.seen.3 ∙ sym (ap is_array_name h.seen.2) ∙ q

  fixed_array : (j : ℕ) (v : Way) (r : code.Name) → Fixes C (entry C j).offset v r → is_array_name r ≡ true → ⊥
  fixed_array j InPlace r h q = h
  fixed_array j Through r h q = h
  fixed_array j Calling r h q = kind_fixed (arguments (entry C _).act) h.0 h.1 h.2 h.4 (sym (ap is_array_name h.3) ∙ q)

  -- an array that an entry of a live block may read is a datum
  pub array_datum : {p : List Step} {t k : ℕ} {b : Block} → Chain s C l K p t k b → (j : ℕ) → In j (body C t).entries → (r : code.Name) → In r (entry C j).reads → is_array_name r ≡ true → IsDatum (place_at C p r)
  array_datum {p} {t} (at_script h) j i r m q = declared_datum t p r (I.script_reads j r i m)
  array_datum {p} {t} (by_header {p = p'} {at = at} j' {key = key} ch m' i' mk wy h o' o dp) j i r m q =
      by ((I.fits j' Through t wy).reads j r i m) (array_datum ch j' i')
    where
      by : ((Declared C t r ⊎ SeenFrom C (λ e. e.reads) j' Through r) ⊎ Fixes C (entry C j').offset Through r) → ((r : code.Name) → In r (entry C j').reads → is_array_name r ≡ true → IsDatum (place_at C p' r)) → IsDatum (place_at C p r)
      by (inl (inl d)) rec = declared_datum t p r d
      by (inl (inr sf)) rec = subst IsDatum (sym (seen_place C Through (entry C j').offset p' key p r sf.outside (λ i. record { offset = sym mk i; key = key } ∷ p') sf.seen)) (rec sf.outside sf.right (seen_array j' Through r sf q))
      by (inr fx) rec = absurd fx
  array_datum {p} {t} (by_wait j' ch m' i' wy h o) j i r m q =
      by ((I.fits j' InPlace t wy).reads j r i m) (array_datum ch j' i')
    where
      by : ((Declared C t r ⊎ SeenFrom C (λ e. e.reads) j' InPlace r) ⊎ Fixes C (entry C j').offset InPlace r) → ((r : code.Name) → In r (entry C j').reads → is_array_name r ≡ true → IsDatum (place_at C p r)) → IsDatum (place_at C p r)
      by (inl (inl d)) rec = declared_datum t p r d
      by (inl (inr sf)) rec = subst IsDatum (sym (seen_place C InPlace (entry C j').offset p (Key.Number (pos 0)) p r sf.outside refl sf.seen)) (rec sf.outside sf.right (seen_array j' InPlace r sf q))
      by (inr fx) rec = absurd fx
  array_datum {p} {t} (by_call {p = p'} {c = c} j' ch m' n' i' ca cs f len h dp) j i r m q =
      by ((I.fits j' Calling t calls_it).reads j r i m) (array_datum ch j' i')
    where
      calls_it : In (Calling, t) (ways (entry C j').act)
      calls_it = subst (λ (a : code.Act). In (Calling, t) (ways a)) (sym ca.is.act_is) (inl refl)

      by : ((Declared C t r ⊎ SeenFrom C (λ e. e.reads) j' Calling r) ⊎ Fixes C (entry C j').offset Calling r) → ((r : code.Name) → In r (entry C j').reads → is_array_name r ≡ true → IsDatum (place_at C p' r)) → IsDatum (place_at C p r)
      by (inl (inl d)) rec = declared_datum t p r d
      by (inl (inr sf)) rec = subst IsDatum (sym (seen_place C Calling (entry C j').offset p' (Key.Number (pos 0)) p r sf.outside (λ i. record { offset = sym ca.offset_is i; key = Key.Number (pos 0) } ∷ p') sf.seen)) (rec sf.outside sf.right (seen_array j' Calling r sf q))
      by (inr fx) rec = absurd (fixed_array j' Calling r fx q)

  -- so are those among its needs
  pub arrays_are_data : {p : List Step} {t k : ℕ} {b : Block} → Chain s C l K p t k b → (j : ℕ) → In j (body C t).entries → ArraysAreData s C K p (entry C j).needs
  arrays_are_data {p} ch j i = all_data (entry C j).needs (λ n m. m)
    where
      fits : (n : Need) → In n (entry C j).needs → fits_kinds n ≡ true
      fits n m = every_in fits_kinds (entry C j).needs (and_parts (list_all fits_kinds (entry C j).needs) (has_shape (entry C j).act (entry C j).needs) (I.shape j)).0 n m

      one : (n : Need) → In n (entry C j).needs → fits_kinds n ≡ true → ArrayIsDatum s C K p n
      one (Stored r) m f = tt
      one (code.Closed r) m f = array_datum ch j i r (I.needs j (code.Closed r) r m (inl refl)) f
      one (At a r) m f = array_datum ch j i a (I.needs j (At a r) a m (inl refl)) (and_parts _ _ f).0
      one (AtKey a key) m f = array_datum ch j i a (I.needs j (AtKey a key) a m (inl refl)) f

      all_data : (ns : List Need) → ((n : Need) → In n ns → In n (entry C j).needs) → ArraysAreData s C K p ns
      all_data [] g = tt
      all_data (n ∷ ns) g = (one n (g n (inl refl)) (fits n (g n (inl refl))), all_data ns (λ x m. g x (inr m)))

ok_in : {v u : Value} → ◌≡◌ {A = Result Value OpFault} (Ok v) (Ok u) → u ≡ v
ok_in h = cc

name_in : {x y : Name} → name x ≡ name y → x ≡ y
name_in h = cc

-- CELLS AS THEY ARE SEEN

module _ (s : Core) (wf : WellFormed s) (K : Knowledge) (kn : Knows s K) (l : Layout) where
  pub name_value : {path : Path} {x : Name} {e : Expr} {r : Result Value OpFault} {v : Value} → ValueUnder s K path e r → e ≡ name x → r ≡ Ok v → (u : Scalar) × (v ≡ One u) × HasValue s K (place s path x) u
  name_value of_literal e q = absurd (cc (e))
  name_value {path} {x} (of_name {x = y} {v = u} h) e q = (u, ok_in q, subst (λ (z : Name). HasValue s K (place s path z) u) (name_in e) h)
  name_value (of_array c es) e q = absurd (cc (e))
  name_value (of_operator us h) e q = absurd (cc (e))

  -- a cell that is seen to have a value has it
  pub seen_known : {path : Path} {st : Stmt} (c : Cell) {v : Value} → LiveStmt s K path st → c ∈ cells st → ValueUnder s K path (seen l c) (Ok v) → K (value (path, c.node) v)
  seen_known {path} {st} c {v} live i h = by (l.plain c.node) c.form refl h
    where
      own : ValueUnder s K path (name (here c.node)) (Ok v) → K (value (path, c.node) v)
      own h =
          let r = name_value h refl refl in
          subst (λ (z : Value). K (value (path, c.node) z)) (sym r.1) (cell_has s wf K r.2 path st c (stmt_in s live) i (place_here s path c.node))

      by : (b : Bool) (f : Form) → c.form ≡ f → ValueUnder s K path (seen_as b c.node f) (Ok v) → K (value (path, c.node) v)
      by true (compute e) q h = kn.shut _ (cell_value live i (subst (λ (z : Form). Gives s K path z (Ok v)) (sym q) (computed h)))
      by true (read a n) q h = own h
      by false f q h = own h

-- and it names what the cell names
pub seen_scoped : (k : ℕ) (l : Layout) (c : Cell) → FormIn k c.form → AreIn k (seen l c)
seen_scoped k l c g = by (l.plain c.node) c.form g
  where
    own : IsIn k (here c.node)
    own i e = absurd (cc (e))

    by : (b : Bool) (f : Form) → FormIn k f → AreIn k (seen_as b c.node f)
    by true (compute e) g = g
    by true (read a n) g = own
    by false f g = own
