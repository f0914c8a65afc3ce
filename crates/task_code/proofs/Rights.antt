-- Names of one body are places, and what an item stores it may.
use Rattle.std.proofs.Common.{◌≡◌, ◌⊎◌, inl, inr, ℕ, suc, Bool, true, false, not, ◌||◌, List, [], ◌∷◌, refl, sym, ap, ◌∙◌, subst, Option, None, Some, arith}
use Rattle.std.specs.Prelude.{length}
use Rattle.dataflow.specs.System.{In, Write}
use Rattle.std.specs.List.{flat_map, list_all}
use Rattle.task_code.proofs.Chunks.{inserted_of}
use Rattle.task_code.proofs.Equal.{every_in, in_every, name_same, name_sound, place_same, place_sound}
use Rattle.task_code.proofs.Opens.{PathBy, seen_place, some_same, stepped}
use Rattle.task_code.proofs.Places.{declared_at, no_longer, only_here, scalar_name, spot_variable}
use Rattle.task_code.specs.Code.{Act, Assert, Call, Calling, Cell, Code, Copy, Each, Fill, If, InPlace, Loop, Name, Named, Parameter, Print, InsertElement, Range, Read, Set, Through, Variable, Wait, Way, argument, body, entry, here, is_array_name, loop_of, loop_variables, scalar, stored_of, targets_of, turn_variables, ways}
use Rattle.task_code.specs.Compute.{Computed, Fails, Gives, Inserts, Opens, Takes, Turns, key_scalar}
use Rattle.task_code.specs.Effects.{Item, bound, chunk, inserted_at, instances, stored_at, stores, turn_bound, turn_instances, turns_of}
use Rattle.task_code.specs.Places.{Datum, Place, Step, name_eq, place_array, place_at, place_eq}
use Rattle.task_code.specs.System.{apart_at, is_valid}
use Rattle.task_code.specs.Whole.{Declared, Fits, IsCode, Seen, SeenFrom}
use Rattle.values.specs.Values.{same}
use Rattle.values.specs.declared.key.Key.{Key}
use Rattle.values.specs.declared.value.Scalar.{Scalar}
use Rattle.dataflow.proofs.Lists.{in_unmap, in_split}

by_or : (a b c : Bool) → (a || (b || not c)) ≡ true → b ≡ false → c ≡ true → a ≡ true
by_or true b c h p q = refl
by_or false true c h p q = absurd (cc)
by_or false false true h p q = h
by_or false false false h p q = q

or_by : (a b c : Bool) → (b ≡ false → c ≡ true → a ≡ true) → (a || (b || not c)) ≡ true
or_by true b c h = refl
or_by false true c h = refl
or_by false false true h = h refl refl
or_by false false false h = refl

module _ (C : Code) where
  -- in a valid item two names of one scalar are one name
  pub valid_apart : (i c : ℕ) (p : List Step) → is_valid C (Item i p c) ≡ true → (r s : Name) → In r (entry C i).writes → In s (entry C i).writes → place_at C p r ≡ place_at C p s → place_array (place_at C p r) ≡ false → r ≡ s
  valid_apart i c p v r s ir is same scalar =
      let x = every_in (apart_at C p r) (entry C i).writes (every_in (λ r. list_all (apart_at C p r) (entry C i).writes) (entry C i).writes v r ir) s is in
      name_sound r s (by_or (name_eq r s) (place_array (place_at C p r)) (place_eq (place_at C p r) (place_at C p s)) x scalar (subst (λ (a : Place). place_eq (place_at C p r) a ≡ true) same (place_same (place_at C p r))))

  pub apart_valid : (i c : ℕ) (p : List Step) → ((r s : Name) → In r (entry C i).writes → In s (entry C i).writes → place_at C p r ≡ place_at C p s → place_array (place_at C p r) ≡ false → r ≡ s) → is_valid C (Item i p c) ≡ true
  apart_valid i c p f =
      in_every (λ r. list_all (apart_at C p r) (entry C i).writes) (entry C i).writes (λ r ir.
      in_every (apart_at C p r) (entry C i).writes (λ s is.
      or_by (name_eq r s) (place_array (place_at C p r)) (place_eq (place_at C p r) (place_at C p s)) (λ sc e.
      subst (λ (y : Name). name_eq r y ≡ true) (f r s ir is (place_sound (place_at C p r) (place_at C p s) e) sc) (name_same r))))

  -- the place of a name that is declared
  pub declared_place : (b : ℕ) (q : List Step) (r : Name) (d : Declared C b r) → place_at C q r ≡ Datum q d.variable
  declared_place b q r d = ap (place_at C q) d.is ∙ declared_at C q d.variable

  pub declared_same : (b b' : ℕ) (q q' : List Step) (r r' : Name) (d : Declared C b r) (d' : Declared C b' r') → place_at C q r ≡ place_at C q' r' → Datum q d.variable ≡ Datum q' d'.variable
  declared_same b b' q q' r r' d d' e = sym (declared_place b q r d) ∙ e ∙ declared_place b' q' r' d'

  pub declared_name : (b b' : ℕ) (q q' : List Step) (r r' : Name) (d : Declared C b r) (d' : Declared C b' r') → place_at C q r ≡ place_at C q' r' → r ≡ r'
  declared_name b b' q q' r r' d d' e = d.is ∙ ap here (spot_variable (declared_same b b' q q' r r' d d' e)) ∙ sym d'.is

  -- what is declared inside is not what is seen outside
  outside_not : (i b : ℕ) (w : Way) (p q : List Step) (k : Key) → Fits C i w b → PathBy w (entry C i).offset p k q → (v : Variable) (s : Name) → In v (body C b).makes → In s (entry C i).writes → place_at C p s ≡ Datum q v → ⊥
  outside_not i b InPlace p q k f path v s iv is e =
      let h : s ≡ here v = only_here C p s.up s.owned v (e ∙ ap (λ (x : List Step). Datum x v) path) in
      f.inside refl v iv (subst (λ (x : Name). In x (entry C i).writes) h is)
  outside_not i b Through p q k f path v s iv is e = (let l = no_longer C p s.up s.owned q v e in let m = ap length path in omega arith)
  outside_not i b Calling p q k f path v s iv is e = (let l = no_longer C p s.up s.owned q v e in let m = ap length path in omega arith)

  module _ (W : IsCode C) (i c : ℕ) (p : List Step) (valid : is_valid C (Item i p c) ≡ true) (w : Way) (b : ℕ) (is_way : In (w, b) (ways (entry C i).act)) (k : Key) (q : List Step) (path : PathBy w (entry C i).offset p k q) where
    fits : Fits C i w b
    fits = W.fits i w b is_way

    -- two names of one body that mean one scalar are one name
    pub names_apart : (j j' : ℕ) (r r' : Name) → In j (body C b).entries → In j' (body C b).entries → In r (entry C j).writes → In r' (entry C j').writes → place_at C q r ≡ place_at C q r' → place_array (place_at C q r) ≡ false → r ≡ r'
    names_apart j j' r r' ij ij' ir ir' same scalar =
        by (fits.writes j r ij ir) (fits.writes j' r' ij' ir')
      where
        outward : (s : SeenFrom C (λ e. e.writes) i w r) (s' : SeenFrom C (λ e. e.writes) i w r') → s.outside ≡ s'.outside
        outward s s' =
            let x = seen_place C w (entry C i).offset p k q r s.outside path s.seen in
            let y = seen_place C w (entry C i).offset p k q r' s'.outside path s'.seen in
            valid_apart i c p valid s.outside s'.outside s.right s'.right (sym x ∙ same ∙ y) (subst (λ (a : Place). place_array a ≡ false) x scalar)

        scalar' : place_array (place_at C q r') ≡ false
        scalar' = subst (λ (a : Place). place_array a ≡ false) same scalar

        back : (v : Way) → w ≡ v → (s s' : Name) → s ≡ s' → Seen C (entry C i).offset v r s → Seen C (entry C i).offset v r' s' → r ≡ r'
        back InPlace ew s s' e x y = x ∙ e ∙ sym y
        back Through ew s s' e x y = x ∙ ap (λ (z : Name). record { up = suc z.up; owned = z.owned }) e ∙ sym y
        back Calling ew s s' e x y =
            let b0 : x.1 ≡ false = sym (ap is_array_name x.2) ∙ scalar_name C q r.up r.owned scalar in
            let b1 : y.1 ≡ false = sym (ap is_array_name y.2) ∙ scalar_name C q r'.up r'.owned scalar' in
            let rx : r ≡ record { up = 0; owned = Parameter x.0 false } = x.2 ∙ ap (λ (z : Bool). record { up = 0; owned = Parameter x.0 z }) b0 in
            let ry : r' ≡ record { up = 0; owned = Parameter y.0 false } = y.2 ∙ ap (λ (z : Bool). record { up = 0; owned = Parameter y.0 z }) b1 in
            let ax : argument C (entry C i).offset x.0 false ≡ Some (Named s) = subst (λ (z : Bool). argument C (entry C i).offset x.0 z ≡ Some (Named s)) b0 x.3 in
            let ay : argument C (entry C i).offset y.0 false ≡ Some (Named s) = subst (λ (z : Bool). argument C (entry C i).offset y.0 z ≡ Some (Named s')) b1 y.3 ∙ ap (λ (z : Name). Some (Named z)) (sym e) in
            let ek : x.0 ≡ y.0 = fits.outputs ew j j' x.0 y.0 s ij ij' (subst (λ (z : Name). In z (entry C j).writes) rx ir) (subst (λ (z : Name). In z (entry C j').writes) ry ir') ax ay in
            rx ∙ ap (λ (z : ℕ). record { up = 0; owned = Parameter z false }) ek ∙ sym ry

        by : (Declared C b r ⊎ SeenFrom C (λ e. e.writes) i w r) → (Declared C b r' ⊎ SeenFrom C (λ e. e.writes) i w r') → r ≡ r'
        by (inl d) (inl d') = declared_name b b q q r r' d d' same
        by (inl d) (inr s) =
            absurd (outside_not i b w p q k fits path d.variable s.outside d.made s.right (sym (seen_place C w (entry C i).offset p k q r' s.outside path s.seen) ∙ sym same ∙ declared_place b q r d))
        by (inr s) (inl d) =
            absurd (outside_not i b w p q k fits path d.variable s.outside d.made s.right (sym (seen_place C w (entry C i).offset p k q r s.outside path s.seen) ∙ same ∙ declared_place b q r' d))
        by (inr s) (inr s') = back w refl s.outside s'.outside (outward s s') s.seen s'.seen

    -- in a loop's body a scalar that is written is declared there
    pub loop_declares : (l : Loop) → loop_of (entry C i).act ≡ Some l → (j : ℕ) (r : Name) → In j (body C b).entries → In r (entry C j).writes → place_array (place_at C q r) ≡ false → Declared C b r
    loop_declares l e j r ij ir scalar =
        elim (fits.writes j r ij ir) [
          | inl d ↦ d
          | inr s ↦ absurd ((W.loops i l e).arrays s.outside s.right (scalar_name C p s.outside.up s.outside.owned (subst (λ (a : Place). place_array a ≡ false) (seen_place C w (entry C i).offset p k q r s.outside path s.seen) scalar)))
        ]

  -- what an item stores
  stored_inv : (d : Place) (x : Computed) (w : Write Place Key Scalar) → In w (stored_at d x) → w.place ≡ d
  stored_inv d (Fails f) w h = absurd h
  stored_inv d (Gives v) w h = elim h [ inl p ↦ ap (λ (y : Write Place Key Scalar). y.place) p | inr n ↦ absurd n ]
  stored_inv d (Inserts xs) w h = absurd h
  stored_inv d (Takes b) w h = absurd h
  stored_inv d (Turns ts) w h = absurd h
  stored_inv d Opens w h = absurd h

  pub stored_once : (d : Place) (x : Computed) (w u : Write Place Key Scalar) → In w (stored_at d x) → In u (stored_at d x) → w ≡ u
  stored_once d (Fails f) w u h g = absurd h
  stored_once d (Gives v) w u h g = elim h [ inl p ↦ elim g [ inl q ↦ p ∙ sym q | inr n ↦ absurd n ] | inr n ↦ absurd n ]
  stored_once d (Inserts xs) w u h g = absurd h
  stored_once d (Takes b) w u h g = absurd h
  stored_once d (Turns ts) w u h g = absurd h
  stored_once d Opens w u h g = absurd h

  pub inserted_inv : (d : Place) (x : Computed) (w : Write Place Key Scalar) → In w (inserted_at d x) → (w.place ≡ d) × In (w.key, w.value) (inserted_of x)
  inserted_inv d (Fails f) w h = absurd h
  inserted_inv d (Gives v) w h = absurd h
  inserted_inv d (Inserts xs) w h =
      let r = in_unmap (λ (x : Key × Scalar). record { place = d; key = x.0; value = x.1 }) w xs h in
      (sym (ap (λ (y : Write Place Key Scalar). y.place) r.2), subst (λ (y : Write Place Key Scalar). In (y.key, y.value) xs) r.2 r.1)
  inserted_inv d (Takes b) w h = absurd h
  inserted_inv d (Turns ts) w h = absurd h
  inserted_inv d Opens w h = absurd h

  pub in_gather : {A B : Type 0} (f : A → List B) (xs : List A) (y : B) → In y (flat_map f xs) → (x : A) × In x xs × In y (f x)
  in_gather f [] y h = absurd h
  in_gather {A} {B} f (x ∷ xs) y h = by (in_gather f xs y) (in_split y (f x) (flat_map f xs) h)
    where
      by : (In y (flat_map f xs) → (z : A) × In z xs × In y (f z)) → (In y (f x) ⊎ In y (flat_map f xs)) → (z : A) × In z (x ∷ xs) × In y (f z)
      by r (inl i) = (x, inl refl, i)
      by r (inr j) = let t = r j in (t.0, inr t.1, t.2)

  -- a loop binds its variables
  pub data Bound (l : Loop) (offset : ℕ) (p : List Step) (t : Key × Scalar) (w : Write Place Key Scalar) : Type 0 where
    value_bound : w.place ≡ Datum (stepped offset t.0 p) (scalar l.value) → w.value ≡ t.1 → Bound l offset p t w
    turn_is_bound : (n : ℕ) → l.turn ≡ Some n → w.place ≡ Datum (stepped offset t.0 p) (scalar n) → w.value ≡ key_scalar t.0 → Bound l offset p t w

  pub bound_inv : (l : Loop) (offset : ℕ) (p : List Step) (t : Key × Scalar) (w : Write Place Key Scalar) → In w (bound l offset p t) → Bound l offset p t w
  bound_inv l offset p t w (inl e) = value_bound (ap (λ (y : Write Place Key Scalar). y.place) e) (ap (λ (y : Write Place Key Scalar). y.value) e)
  bound_inv l offset p t w (inr h) = by l.turn refl h
    where
      by : (o : Option ℕ) → l.turn ≡ o → In w (turn_bound o (stepped offset t.0 p) t.0) → Bound l offset p t w
      by None e h = absurd h
      by (Some n) e h =
          elim h [
            | inl q ↦ turn_is_bound n e (ap (λ (y : Write Place Key Scalar). y.place) q) (ap (λ (y : Write Place Key Scalar). y.value) q)
            | inr z ↦ absurd z
          ]

  pub turn_variable : (l : Loop) (n : ℕ) → l.turn ≡ Some n → In (scalar n) (turn_variables l.turn)
  turn_variable l n e = subst (λ (o : Option ℕ). In (scalar n) (turn_variables o)) (sym e) (inl refl)

  -- the variable that is bound
  pub bound_at : (l : Loop) (offset : ℕ) (p : List Step) (t : Key × Scalar) (w : Write Place Key Scalar) → Bound l offset p t w → (v : Variable) × In v (loop_variables l) × (w.place ≡ Datum (stepped offset t.0 p) v)
  bound_at l offset p t w (value_bound a b) = (scalar l.value, inl refl, a)
  bound_at l offset p t w (turn_is_bound n e a b) = (scalar n, inr (turn_variable l n e), a)

  -- a write is into a target, or binds a loop's variable
  pub record IntoTarget (a : Act) (node : ℕ) (p : List Step) (w : Write Place Key Scalar) : Type 0 where
    pub target : Name
    pub there : In target (stored_of node a)
    pub is : w.place ≡ place_at C p target

  pub record Binds (a : Act) (offset : ℕ) (p : List Step) (c : ℕ) (x : Computed) (w : Write Place Key Scalar) : Type 0 where
    pub loop : Loop
    pub loops : loop_of a ≡ Some loop
    pub turn : Key × Scalar
    pub there : In turn (chunk c (turns_of x))
    pub bound : Bound loop offset p turn w

  into : (a : Act) (node : ℕ) (p : List Step) (w : Write Place Key Scalar) (r : Name) → In r (stored_of node a) → w.place ≡ place_at C p r → IntoTarget a node p w
  into a node p w r i e = record { target = r; there = i; is = e }

  binds : (a : Act) (l : Loop) (offset : ℕ) (p : List Step) (c : ℕ) (x : Computed) (w : Write Place Key Scalar) → loop_of a ≡ Some l → In w (flat_map (bound l offset p) (chunk c (turns_of x))) → Binds a offset p c x w
  binds a l offset p c x w e h =
      let r = in_gather (bound l offset p) (chunk c (turns_of x)) w h in
      record { loop = l; loops = e; turn = r.0; there = r.1; bound = bound_inv l offset p r.0 w r.2 }

  pub stores_inv : (a : Act) (node offset : ℕ) (p : List Step) (c : ℕ) (x : Computed) (w : Write Place Key Scalar) → In w (stores C a node offset p c x) → IntoTarget a node p w ⊎ Binds a offset p c x w
  stores_inv (Cell e) node offset p c x w h = inl (into (Cell e) node p w (here (scalar node)) (inl refl) (stored_inv _ x w h))
  stores_inv Read node offset p c x w h = inl (into Read node p w (here (scalar node)) (inl refl) (stored_inv _ x w h))
  stores_inv (Call b rs os) node offset p c x w h = absurd h
  stores_inv (Set r e) node offset p c x w h = inl (into (Set r e) node p w r (inl refl) (stored_inv _ x w h))
  stores_inv (Fill r es) node offset p c x w h = inl (into (Fill r es) node p w r (inl refl) (inserted_inv _ x w h).0)
  stores_inv (Copy r) node offset p c x w h = inl (into (Copy r) node p w r (inl refl) (inserted_inv _ x w h).0)
  stores_inv (InsertElement r i e) node offset p c x w h = inl (into (InsertElement r i e) node p w r (inl refl) (inserted_inv _ x w h).0)
  stores_inv (Print e) node offset p c x w h = absurd h
  stores_inv (Assert e) node offset p c x w h = absurd h
  stores_inv (If e b d) node offset p c x w h = absurd h
  stores_inv (Range l h' s v) node offset p c x w h = inr (binds (Range l h' s v) v offset p c x w refl h)
  stores_inv (Each v) node offset p c x w h = inr (binds (Each v) v offset p c x w refl h)
  stores_inv (Wait hs b) node offset p c x w h = absurd h

  -- what an entry stores into is its target
  pub stored_target : (a : Act) (node : ℕ) (r : Name) → In r (stored_of node a) → In r (targets_of node a)
  stored_target (Cell e) node r h = h
  stored_target Read node r h = h
  stored_target (Call b rs os) node r h = absurd h
  stored_target (Set t e) node r h = h
  stored_target (Fill t es) node r h = h
  stored_target (Copy t) node r h = h
  stored_target (InsertElement t i e) node r h = h
  stored_target (Print e) node r h = h
  stored_target (Assert e) node r h = h
  stored_target (If e b d) node r h = h
  stored_target (Range l h' s v) node r h = h
  stored_target (Each v) node r h = h
  stored_target (Wait hs b) node r h = h

  -- an entry that stores into a name opens nothing
  pub target_opens_none : (a : Act) (node offset : ℕ) (p : List Step) (c : ℕ) (x : Computed) (r : Name) (s : ℕ × List Step) → In r (stored_of node a) → In s (instances a offset p c x) → ⊥
  target_opens_none (Cell e) node offset p c x r s h g = g
  target_opens_none Read node offset p c x r s h g = g
  target_opens_none (Call b rs os) node offset p c x r s h g = h
  target_opens_none (Set t e) node offset p c x r s h g = g
  target_opens_none (Fill t es) node offset p c x r s h g = g
  target_opens_none (Copy t) node offset p c x r s h g = g
  target_opens_none (InsertElement t i e) node offset p c x r s h g = g
  target_opens_none (Print e) node offset p c x r s h g = h
  target_opens_none (Assert e) node offset p c x r s h g = h
  target_opens_none (If e b d) node offset p c x r s h g = h
  target_opens_none (Range l h' st v) node offset p c x r s h g = h
  target_opens_none (Each v) node offset p c x r s h g = h
  target_opens_none (Wait hs b) node offset p c x r s h g = h

  pub target_no_loop : (a : Act) (node : ℕ) (r : Name) → In r (stored_of node a) → loop_of a ≡ None
  target_no_loop (Cell e) node r h = refl
  target_no_loop Read node r h = refl
  target_no_loop (Call b rs os) node r h = refl
  target_no_loop (Set t e) node r h = refl
  target_no_loop (Fill t es) node r h = refl
  target_no_loop (Copy t) node r h = refl
  target_no_loop (InsertElement t i e) node r h = refl
  target_no_loop (Print e) node r h = refl
  target_no_loop (Assert e) node r h = refl
  target_no_loop (If e b d) node r h = refl
  target_no_loop (Range l h' st v) node r h = absurd h
  target_no_loop (Each v) node r h = absurd h
  target_no_loop (Wait hs b) node r h = refl

  pub loop_instances : (a : Act) (l : Loop) (offset : ℕ) (p : List Step) (c : ℕ) (x : Computed) → loop_of a ≡ Some l → instances a offset p c x ≡ turn_instances l offset p (chunk c (turns_of x))
  loop_instances (Range lo h s v) l offset p c x e = ap (λ (z : Loop). turn_instances z offset p (chunk c (turns_of x))) (some_same e)
  loop_instances (Each v) l offset p c x e = ap (λ (z : Loop). turn_instances z offset p (chunk c (turns_of x))) (some_same e)
  loop_instances (Cell y) l offset p c x e = absurd (cc)
  loop_instances Read l offset p c x e = absurd (cc)
  loop_instances (Call b rs os) l offset p c x e = absurd (cc)
  loop_instances (Set t y) l offset p c x e = absurd (cc)
  loop_instances (Fill t es) l offset p c x e = absurd (cc)
  loop_instances (Copy t) l offset p c x e = absurd (cc)
  loop_instances (InsertElement t i y) l offset p c x e = absurd (cc)
  loop_instances (Print y) l offset p c x e = absurd (cc)
  loop_instances (Assert y) l offset p c x e = absurd (cc)
  loop_instances (If y b d) l offset p c x e = absurd (cc)
  loop_instances (Wait hs b) l offset p c x e = absurd (cc)
