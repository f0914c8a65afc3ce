-- What the script knows at the place that a code's name means, and what it knows at the place that the script's name means, are one.
use Rattle.std.proofs.Common.{◌≡◌, inl, inr, ℕ, Bool, true, false, List, [], ◌∷◌, refl, sym, ap, ◌∙◌, subst, Result, Ok}
use Rattle.std.specs.Prelude.{IsTrue}
use Rattle.dataflow.specs.System.{In, Answer, Found, Content}
use Rattle.values.specs.declared.fault.OpFault.{OpFault}
use Rattle.values.specs.declared.key.Key.{Key}
use Rattle.values.specs.declared.map.Element.{Element}
use Rattle.values.specs.declared.value.Scalar.{Scalar}
use Rattle.values.specs.declared.value.Value.{Value}
use Rattle.values.specs.declared.value.Value.TheVariants.{One}
use Rattle.values.specs.Maps.{rising, element as entry}
use Rattle.language.specs.Core.{Name, Expr, literal, name, compute, Cell, Stmt, stmt, Action, Block, Core}
use Rattle.language.specs.Facts.{value, Knowledge, Elements}
use Rattle.language.specs.Meaning.{Closed, HasValue, stored, in_turn, ValueUnder, of_literal, of_name, of_array, of_operator, computed, in_block, cell_value}
use Rattle.language.specs.Members.{◌∈◌, first, later}
use Rattle.language.specs.Openings.{InTurn, range_value, range_turn, each_value, each_key}
use Rattle.language.specs.Parts.{cells, script_stmts}
use Rattle.language.specs.Places.{Path, Place, place}
use Rattle.language.specs.WellFormed.{WellFormed, Role, range_value_role, range_turn_role, each_value_role, each_key_role}
use Rattle.language_laws.proofs.Declared.{stmt_in}
use Rattle.language_laws.proofs.Sources.{cell_gives}
use Rattle.language_laws.proofs.Rising.{rising_same}
use Rattle.task_code.specs.Code.{Variable, Need, Code, entry as entry_at, body, needed}
use Rattle.task_code.specs.Whole.{IsCode}
use Rattle.task_code.specs.Compute.{elements, in_key_order, pairs}
use Rattle.task_code.specs.Places.{Step, place_at, Datum, Constant, Nowhere}
use Rattle.task_code.specs.Places as CodePlaces
use Rattle.headline.specs.Headline.{script_path, script_place}
use Rattle.code_rules.proofs.Given.{gives_value}
use Rattle.headline.specs.Backs.{Backs}
use Rattle.headline.specs.Knows.{Knows}
use Rattle.code_rules.specs.CodeNames.{name_as}
use Rattle.language_laws.specs.Scoped.{IsIn, Scoped}
use Rattle.code_rules.specs.IsCodeOf.{Layout}
use Rattle.headline.specs.Chains.{AllElements, Chain, HasAll, Stands, same, plain, constant}
use Rattle.headline.proofs.Evaluate.{AsValue, IsDatum, SaysScript, SaysCode}
use Rattle.headline.proofs.Means.{means, covering_reads}

-- LISTS OF ELEMENTS

pub element_in : (xs : List (Key × Scalar)) (k : Key) (v : Scalar) → In (k, v) xs → entry k v ∈ elements xs
element_in [] k v h = absurd h
element_in (x ∷ xs) k v (inl e) = subst (λ (y : Key × Scalar). entry k v ∈ (entry y.0 y.1 ∷ elements xs)) e first
element_in (x ∷ xs) k v (inr h) = later (element_in xs k v h)

pub in_element : (xs : List (Key × Scalar)) (e : Element) → e ∈ elements xs → In (e.key, e.value) xs
in_element [] e h = elim h [ ]
in_element (x ∷ xs) e first = inl refl
in_element (x ∷ xs) e (later h) = inr (in_element xs e h)

pub elements_pairs : (es : List Element) → elements (pairs es) ≡ es
elements_pairs [] = refl
elements_pairs (e ∷ es) = λ i. e ∷ elements_pairs es i

one_in : {v u : Scalar} → ◌≡◌ {A = Result Value OpFault} (Ok (One v)) (Ok (One u)) → v ≡ u
one_in h = cc

name_in : {x y : Name} → name x ≡ name y → x ≡ y
name_in h = cc

literal_in : {x y : Scalar} → literal x ≡ literal y → x ≡ y
literal_in h = cc

-- LOOP VARIABLES

role_of : {at n x : ℕ} {a : Action} {vs : List Value} {k : Key} {v : Scalar} → InTurn a vs k x v → (r : Bool) × Role (stmt at n a) x r
role_of (range_value e q) = (true, range_value_role)
role_of (range_turn q) = (false, range_turn_role)
role_of (each_value m) = (true, each_value_role)
role_of (each_key q) = (false, each_key_role)

module _ (s : Core) (wf : WellFormed s) (K : Knowledge) where
  -- a cell has no value but its own
  pub cell_has : {pl : Place} {v : Scalar} → HasValue s K pl v → (path : Path) (st : Stmt) (c : Cell) → st ∈ script_stmts s → c ∈ cells st → pl ≡ (path, c.node) → K (value (path, c.node) (One v))
  cell_has {v = v} (stored k) path st c m i e = subst (λ (z : Place). K (value z (One v))) e k
  cell_has (in_turn {at = at} {n = n} {x = x} {header = h} lv m' r o t d) path st c m i e =
      let z = role_of {at = at} {n = n} t in
      absurd ((wf.loops).role_cells st (stmt at n h) c z.0 m (stmt_in s (in_block lv m')) i (subst (λ (y : ℕ). Role (stmt at n h) y z.0) (ap (λ (y : Place). y.1) e) z.1))

  pub name_inv : {path : Path} {x : Name} {v : Scalar} {e : Expr} {r : Result Value OpFault} → ValueUnder s K path e r → e ≡ name x → r ≡ Ok (One v) → HasValue s K (place s path x) v
  name_inv of_literal e q = absurd (cc (e))
  name_inv {path} {x} (of_name {x = y} {v = u} h) e q = subst (λ (z : Scalar). HasValue s K (place s path x) z) (one_in q) (subst (λ (z : Name). HasValue s K (place s path z) u) (name_in e) h)
  name_inv (of_array c es) e q = absurd (cc (e))
  name_inv (of_operator us h) e q = absurd (cc (e))

  pub literal_inv : {path : Path} {u v : Scalar} {e : Expr} {r : Result Value OpFault} → ValueUnder s K path e r → e ≡ literal u → r ≡ Ok (One v) → u ≡ v
  literal_inv of_literal e q = sym (literal_in e) ∙ one_in q
  literal_inv (of_name h) e q = absurd (cc (e))
  literal_inv (of_array c es) e q = absurd (cc (e))
  literal_inv (of_operator us h) e q = absurd (cc (e))

  module _ (kn : Backs s K) (C : Code) (l : Layout) where
    -- what the cell of a statement has
    cell_under : {path : Path} {st : Stmt} {n : ℕ} {e : Expr} {v : Scalar} {pl : Place} → st ∈ script_stmts s → record { node = n; form = compute e } ∈ cells st → HasValue s K pl v → pl ≡ (path, n) → ValueUnder s K path e (Ok (One v))
    cell_under {path} {st} {n} {e} {v} m i h q =
        let f = cell_has h path st (record { node = n; form = compute e }) m i q in
        gives_value (cell_gives s wf.cells K m i (kn.backed _ f)).1 refl

    -- FROM THE SCRIPT'S NAME TO THE CODE'S, by cells of statements that are live in any knowledge
    pub to_code_of : (L : Knowledge) {d : Bool} {a : CodePlaces.Place} {pl : Place} → Stands s C l L d a pl → (v : Scalar) → HasValue s K pl v → AsValue s C K a v
    to_code_of L same v h = h
    to_code_of L (plain live i pl st) v h = to_code_of L st v (name_inv (cell_under (stmt_in s live) i h refl) refl refl)
    to_code_of L (constant live i pl) v h = literal_inv (cell_under (stmt_in s live) i h refl) refl refl

    pub to_code : {d : Bool} {a : CodePlaces.Place} {pl : Place} → Stands s C l K d a pl → (v : Scalar) → HasValue s K pl v → AsValue s C K a v
    to_code st v h = to_code_of K st v h

  module _ (kn : Knows s K) (C : Code) (l : Layout) where
    -- FROM THE CODE'S NAME TO THE SCRIPT'S
    pub to_script : {d : Bool} {a : CodePlaces.Place} {pl : Place} → Stands s C l K d a pl → (v : Scalar) → AsValue s C K a v → HasValue s K pl v
    to_script same v h = h
    to_script (plain live i pl st) v h = stored (kn.shut _ (cell_value live i (computed (of_name (to_script st v h)))))
    to_script (constant {path = path} {v = u} live i pl) v h =
        stored (kn.shut _ (cell_value live i (computed (subst (λ (z : Scalar). ValueUnder s K path (literal u) (Ok (One z))) h of_literal))))

  -- AN ARRAY IS THE SAME PLACE
  pub record IsSame (a : CodePlaces.Place) (pl : Place) : Type 0 where
    pub path : List Step
    pub variable : Variable
    pub array : variable.array ≡ true
    pub is : a ≡ Datum path variable
    pub place_is : pl ≡ script_place path variable

  pub same_array : {C : Code} {l : Layout} {d : Bool} {a : CodePlaces.Place} {pl : Place} → Stands s C l K d a pl → d ≡ true → IsSame a pl
  same_array (same {p = p} {v = v}) e = record { path = p; variable = v; array = e; is = refl; place_is = refl }
  same_array (plain live i pl st) e = absurd (cc (e))
  same_array (constant live i pl) e = absurd (cc (e))

  pub is_datum : {a : CodePlaces.Place} {pl : Place} → IsSame a pl → IsDatum a
  is_datum h = subst IsDatum (sym h.is) tt

  -- all elements of an array, on both sides
  pub whole_script : {a : Place} {xs : List (Key × Scalar)} → AllElements s K a xs → Elements K a (elements xs)
  whole_script {xs = xs} h = record {
    in_order = h.in_order;
    written = λ k v i. h.only k v (in_element xs (entry k v) i);
    all = λ k w v f. element_in xs k v (h.all k w v f);
  }

  pub has_all : {a : CodePlaces.Place} {pl : Place} (z : IsSame a pl) {y : Answer Key Scalar} → HasAll s K a y → (xs : List (Key × Scalar)) × (y ≡ Content xs) × Closed s K pl × Elements K pl (elements xs)
  has_all {pl = pl} z {y} h =
      let r = subst (λ (d : CodePlaces.Place). HasAll s K d y) z.is h in
      (r.0, r.2, subst (λ (p : Place). Closed s K p) (sym z.place_is) r.1.closed, subst (λ (p : Place). Elements K p (elements r.0)) (sym z.place_is) (whole_script r.1))

  same_elements : {a : Place} {xs : List (Key × Scalar)} {es : List Element} → AllElements s K a xs → Elements K a es → elements xs ≡ es
  same_elements {xs = xs} {es = es} h e =
      let f = whole_script h in
      rising_same (elements xs) es f.in_order e.in_order
      (λ x m. (let w = f.written x.key x.value m in e.all x.key w.0 x.value w.1))
      (λ x m. (let w = e.written x.key x.value m in f.all x.key w.0 x.value w.1))

  pub all_has : {a : CodePlaces.Place} {pl : Place} (z : IsSame a pl) {es : List Element} → Closed s K pl → Elements K pl es → {y : Answer Key Scalar} → HasAll s K a y → (xs : List (Key × Scalar)) × (y ≡ Content xs) × (elements xs ≡ es)
  all_has {pl = pl} z {es} c e {y} h =
      let r = subst (λ (d : CodePlaces.Place). HasAll s K d y) z.is h in
      (r.0, r.2, same_elements r.1 (subst (λ (p : Place). Elements K p es) z.place_is e))

  -- and they stand in order
  pub all_in_order : {a : CodePlaces.Place} {pl : Place} (z : IsSame a pl) {es : List Element} → Closed s K pl → Elements K pl es → {y : Answer Key Scalar} → HasAll s K a y
      → (xs : List (Key × Scalar)) × (y ≡ Content xs) × (elements xs ≡ es) × (in_key_order xs ≡ true)
  all_in_order {pl = pl} z {es} c e {y} h =
      let r = subst (λ (d : CodePlaces.Place). HasAll s K d y) z.is h in
      (r.0, r.2, same_elements r.1 (subst (λ (p : Place). Elements K p es) z.place_is e), r.1.in_order)

  all_elements : {a : Place} {es : List Element} → Closed s K a → Elements K a es → AllElements s K a (pairs es)
  all_elements {a} {es} c e = record {
    closed = c;
    in_order = subst (λ (l : List Element). IsTrue (rising l)) (sym (elements_pairs es)) e.in_order;
    all = λ k w v f. in_pairs es (entry k v) (e.all k w v f);
    only = λ k v i. e.written k v (pairs_in es k v i);
  }
    where
      in_pairs : (es : List Element) (x : Element) → x ∈ es → In (x.key, x.value) (pairs es)
      in_pairs [] x h = elim h [ ]
      in_pairs (y ∷ ys) x first = inl refl
      in_pairs (y ∷ ys) x (later h) = inr (in_pairs ys x h)

      pairs_in : (es : List Element) (k : Key) (v : Scalar) → In (k, v) (pairs es) → entry k v ∈ es
      pairs_in [] k v h = absurd h
      pairs_in (y ∷ ys) k v (inl q) = subst (λ (z : Key × Scalar). entry z.0 z.1 ∈ (y ∷ ys)) (sym q) first
      pairs_in (y ∷ ys) k v (inr h) = later (pairs_in ys k v h)

  pub gives_all : {a : CodePlaces.Place} {pl : Place} (z : IsSame a pl) {es : List Element} → Closed s K pl → Elements K pl es → HasAll s K a (Content (pairs es))
  gives_all z {es} c e =
      subst (λ (d : CodePlaces.Place). HasAll s K d (Content (pairs es))) (sym z.is)
      (pairs es, all_elements (subst (λ (p : Place). Closed s K p) z.place_is c) (subst (λ (p : Place). Elements K p es) z.place_is e), refl)

  one_as_value : Backs s K → (C : Code) (a : CodePlaces.Place) (v u : Scalar) → AsValue s C K a v → AsValue s C K a u → v ≡ u
  one_as_value kn C (Datum p x) v u h g = kn.one_scalar (script_place p x) v u h g
  one_as_value kn C (Constant c) v u h g = sym h ∙ g
  one_as_value kn C Nowhere v u h g = absurd h

  -- WHAT THE NEEDS OF AN ENTRY SAY
  module _ (kn : Backs s K) (C : Code) (l : Layout) (I : IsCode C) (sc : Scoped s) {p : List Step} {t k : ℕ} {b : Block} (ch : Chain s C l K p t k b) (j : ℕ) (there : In j (body C t).entries) where
    pub name_stands : (d : Bool) (x : Name) (n : Need) → IsIn k x → In n (entry_at C j).needs → In (name_as k d x) (needed n) → Stands s C l K d (place_at C p (name_as k d x)) (place s (script_path p) x)
    name_stands d x n g i h = means s C l K wf.names I sc (λ e. e.reads) (covering_reads s C l K wf.names I sc) ch j there d x (I.needs j n (name_as k d x) i h) g

    pub says_script : Knows s K → SaysScript s C K p k (entry_at C j).needs
    says_script kn = record {
      scalar = λ x g i v h. to_script kn C l (name_stands false x _ g i (inl refl)) v h;
      array = λ x g i y h. has_all (same_array (name_stands true x _ g i (inl refl)) refl) h;
    }

    pub says_code : SaysCode s C K p k (entry_at C j).needs
    says_code = record {
      scalar = λ x g i v h y a. (let w = to_code kn C l (name_stands false x _ g i (inl refl)) v h in a.2 ∙ ap Found (one_as_value kn C (place_at C p (name_as k false x)) a.0 v a.1 w));
      array = λ x g i es c e y h. all_has (same_array (name_stands true x _ g i (inl refl)) refl) c e h;
    }
