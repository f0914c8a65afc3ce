-- The laws of the meaning of an accepted script.
use Rattle.std.specs.Prelude.{◌≡◌, ◌⊎◌, ◌↔◌, ℕ, zero, suc, ◌≤◌, Bool, IsTrue, List, refl, max}
use Rattle.std.proofs.Common.{inl, inr, sym, ap, subst, arith}
use Rattle.values.specs.declared.key.Key.{Key}
use Rattle.values.specs.declared.map.Element.{Element}
use Rattle.values.specs.declared.value.Scalar.{Scalar}
use Rattle.values.specs.declared.value.Value.{Value}
use Rattle.values.specs.declared.value.Value.TheVariants.{Many}
use Rattle.values.specs.Maps.{rising, element as entry}
use Rattle.language.specs.Core.{Cell, Stmt, Block, Core}
use Rattle.language.specs.Facts.{Fact, value, element, Knowledge, OneWriter}
use Rattle.language.specs.Meaning.{Live, Closed, Comes, before, now, LiveStmt, New, cell_value, Known, Meaning}
use Rattle.language.specs.Members.{◌∈◌}
use Rattle.language.specs.Outcomes.{Clean}
use Rattle.language.specs.Parts.{script_stmts, cells}
use Rattle.language.specs.Places.{Path, Place}
use Rattle.language.specs.Single.{SinglyAssigned}
use Rattle.language.specs.WellFormed.{WellFormed, Role}
use Rattle.language_laws.proofs.Compact.{meaning_closed}
use Rattle.language_laws.proofs.Declared.{stmt_in}
use Rattle.language_laws.proofs.Growth.{Grows, keeps_live, keeps_closed}
use Rattle.language_laws.proofs.Hinge.{grows}
use Rattle.language_laws.proofs.Keeps.{keeps_new}
use Rattle.language_laws.proofs.OneAssign.{one_assign}
use Rattle.language_laws.proofs.Rising.{rising_once}
use Rattle.language_laws.proofs.Rounds.{OneAssign, Sound, FromFill, From, came, known_later, fills_agree, inserts_agree, fill_not_insert, later_of, every_round, rounds_grow}
use Rattle.language_laws.proofs.Sources.{CellValue, AssignValue, value_view, FillElement, InsertElement, element_view, outer_in, index_in, right_in, many_given, cell_gives, known_full}

-- a set of facts is closed under the rules
abbrev IsShut : Core → Knowledge → Type 0
IsShut s G = (f : Fact) → New s G f → G f

-- each fact of a set follows from the set
abbrev IsBacked : Core → Knowledge → Type 0
IsBacked s G = (f : Fact) → G f → New s G f

abbrev OneValue : Knowledge → Type 0
OneValue G = (p : Place) (v u : Value) → G (value p v) → G (value p u) → v ≡ u

many_same : {es fs : List Element} → Many es ≡ Many fs → es ≡ fs
many_same h = cc

module _ (s : Core) (w : WellFormed s) (single : SinglyAssigned s) where
  one_assign_known : (n : ℕ) → Sound s (Known s n) → OneAssign s (Known s n)
  one_assign_known n g = one_assign s w.names w.calls single (Known s n) (later_of s w.names w.cells w.loops w.writers (Known s n) (Known s n) (known_full s w.cells n) g g (λ f k. k))

  pub sound : (n : ℕ) → Sound s (Known s n)
  sound n = every_round s w.names w.cells w.loops w.writers one_assign_known n

  pub grow : (n m : ℕ) → n ≤ m → Grows s (Known s n) (Known s m)
  grow n m h = rounds_grow s w.names w.cells w.loops w.writers one_assign_known n m h

  -- known values are one
  pub one_value : OneValue (Meaning s)
  one_value p v u h k =
      let m = max h.0 k.0 in
      (((sound m).one_each).one_value) p v u (known_later s h.0 m (value p v) (omega arith) h.1) (known_later s k.0 m (value p u) (omega arith) k.1)

  -- a writer has one value under a key
  pub one_element : (a : Place) (k : Key) (u : Place) (v x : Scalar) → Meaning s (element a k u v) → Meaning s (element a k u x) → v ≡ x
  one_element a k u v x h g =
      let m = max h.0 g.0 in
      (((sound m).one_each).one_element) a k u v x (known_later s h.0 m _ (omega arith) h.1) (known_later s g.0 m _ (omega arith) g.1)

  -- a closed array has all its elements
  pub closed_full : (n : ℕ) (a : Place) → Closed s (Known s n) a → (k : Key) (u : Place) (v : Scalar) → Meaning s (element a k u v) → Known s n (element a k u v)
  closed_full n a c k u v h =
      let m = max n h.0 in
      (grow n m (omega arith)).stays a c k u v (known_later s h.0 m _ (omega arith) h.1)

  pub grow_meaning : (n : ℕ) → Grows s (Known s n) (Meaning s)
  grow_meaning n = record { more = λ f k. (n, k); stays = λ a c k u v h. closed_full n a c k u v h }

  pub live_stays : (n m : ℕ) (path : Path) (b : Block) → n ≤ m → Live s (Known s n) path b → Live s (Known s m) path b
  live_stays n m path b h l = keeps_live s (Known s n) (Known s m) (grow n m h) l

  pub closed_stays : (n m : ℕ) (a : Place) → n ≤ m → Closed s (Known s n) a → Closed s (Known s m) a
  closed_stays n m a h c = keeps_closed s (Known s n) (Known s m) (grow n m h) c

  -- the meaning is closed under the rules
  pub shut : IsShut s (Meaning s)
  shut f h = meaning_closed s grow f h

  pub one_writer : Clean s → (a : Place) → OneWriter (Meaning s) a
  one_writer clean a k u u' v v' h g =
      let m = max h.0 g.0 in
      clean m a k u u' v v' (known_later s h.0 m _ (omega arith) h.1) (known_later s g.0 m _ (omega arith) g.1)

  -- of a clean script, each fact of the meaning follows from the meaning
  pub backed : Clean s → IsBacked s (Meaning s)
  backed clean f h =
      let c = came s h.0 f h.1 in
      keeps_new s (Known s c.round) (Meaning s) (grow_meaning c.round) (one_writer clean) c.new

  pub follows : Clean s → (f : Fact) → Meaning s f ↔ New s (Meaning s) f
  follows clean f = (backed clean f, shut f)

  module _ (G : Knowledge) (shut_here : IsShut s G) (backed_here : IsBacked s G) (one : OneValue G) (clean : (a : Place) → OneWriter G a) where
    comes_in : {path : Path} {st : Stmt} {c : Cell} {v : Value} → LiveStmt s G path st → c ∈ cells st → Comes s G path c v → G (value (path, c.node) v)
    comes_in l i (before k) = k
    comes_in l i (now g) = shut_here _ (cell_value l i g)

    wrote_in : (a : Place) (k : Key) (u : Place) (v : Scalar) → G (element a k u v) → From s G G a k u v
    wrote_in a k u v h = by (element_view (backed_here (element a k u v) h) refl)
      where
        by : (FillElement s G a k u v ⊎ InsertElement s G a k u v) → From s G G a k u v
        by (inl e) = inl (record {
          path = e.path;
          at = e.at;
          node = e.node;
          array = e.array;
          right = e.right;
          elements = e.elements;
          live = e.live;
          known = comes_in e.live (outer_in e.right.parts e.right.cell) e.comes;
          there = e.there;
          array_is = e.array_is;
          writer_is = e.writer_is;
        })
        by (inr e) = inr (record {
          path = e.path;
          at = e.at;
          node = e.node;
          array = e.array;
          index = e.index;
          right = e.right;
          index_value = e.index_value;
          live = e.live;
          known_index = comes_in e.live (index_in e.index e.right) e.comes_index;
          is_key = e.is_key;
          known = comes_in e.live (right_in e.index e.right) e.comes;
          array_is = e.array_is;
          writer_is = e.writer_is;
        })

    whole_in_order : {a : Place} {k : Key} {u : Place} {v : Scalar} (e : FromFill s G G a k u v) → IsTrue (rising e.elements)
    whole_in_order e =
        let m = stmt_in s e.live in
        let r = many_given ((w.cells).fill_many e.at e.node e.array e.right m) ((cell_gives s w.cells G m (outer_in e.right.parts e.right.cell) (backed_here _ e.known)).1) in
        subst (λ (l : List Element). IsTrue (rising l)) (sym (many_same r.is)) r.in_order

    one_element_in : (a : Place) (k : Key) (u : Place) (v x : Scalar) → G (element a k u v) → G (element a k u x) → v ≡ x
    one_element_in a k u v x f g = by (wrote_in a k u v f) (wrote_in a k u x g)
      where
        by : From s G G a k u v → From s G G a k u x → v ≡ x
        by (inl e) (inl h) =
            rising_once e.elements (whole_in_order e) k v x e.there (subst (λ (l : List Element). entry k x ∈ l) (sym (fills_agree s w.names w.cells w.loops w.writers G one e h)) h.there)
        by (inl e) (inr h) = fill_not_insert s w.names w.cells w.loops w.writers e h
        by (inr e) (inl h) = fill_not_insert s w.names w.cells w.loops w.writers h e
        by (inr e) (inr h) = (inserts_agree s w.names w.cells w.loops w.writers G one e h).1

    no_loop_value_in : (st : Stmt) (x : ℕ) (r : Bool) (path : Path) (v : Value) → st ∈ script_stmts s → Role st x r → G (value (path, x) v) → ⊥
    no_loop_value_in st x r path v m role h = by (value_view (backed_here (value (path, x) v) h) refl)
      where
        by : (CellValue s G (path, x) v ⊎ AssignValue s G (path, x) v) → ⊥
        by (inl e) = (w.loops).role_cells e.st st e.cell r (stmt_in s e.live) m e.there (subst (λ (z : ℕ). Role st z r) (ap (λ (z : Place). z.1) e.is) role)
        by (inr e) = (w.loops).role_assign e.at e.node e.target e.right st x r e.path path (stmt_in s e.live) m role (sym e.is)

    sound_in : Sound s G
    sound_in = record { one_each = record { one_value = one; one_element = one_element_in; no_loop_value = no_loop_value_in }; wrote = wrote_in }

    least_round : (n : ℕ) (f : Fact) → Known s n f → G f
    least_round zero f k = absurd k
    least_round (suc n) f (inl k) = least_round n f k
    least_round (suc n) f (inr k) =
        shut_here f (keeps_new s (Known s n) G (grows s w.names (Known s n) G (later_of s w.names w.cells w.loops w.writers (Known s n) G (known_full s w.cells n) (sound n) sound_in (λ e h. least_round n e h))) clean k)

    -- THE MEANING IS LEAST among the sets that are closed under the rules, follow from themselves and have one value at a place and one writer of a key
    pub least : (f : Fact) → Meaning s f → G f
    least f h = least_round h.0 f h.1
