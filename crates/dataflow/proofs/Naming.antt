-- Names for data: they change nothing, and each step can be taken with any fresh names.
use Rattle.std.proofs.Common.{◌≡◌, ◌⊎◌, inl, inr, List, [], ◌∷◌, ◌++◌, map, refl, sym, ap, ◌∙◌, subst}
use Rattle.dataflow.specs.System.{In, System}
use Rattle.dataflow.specs.Laws.{Laws}
use Rattle.dataflow.specs.Machine.{State, Event, Step, Steps}
use Rattle.dataflow.specs.Names.{NamedState, IsNaming, NamedStep, NamedSteps, IsFresh}
use Rattle.dataflow.proofs.Lists.{in_left, in_right, in_map}
use Rattle.dataflow.proofs.Decide.{in_is}

-- names for data change nothing
pub forget_names : {T D K V E : Type 0} (S : System T D K V E) (N : Type 0) (es : List Event) (old new : NamedState S N) → NamedSteps S N old es new → Steps S old.state es new.state
forget_names S N [] old new h = ap (λ (x : NamedState S N). x.state) h
forget_names S N (e ∷ es) old new h = (h.0.state, h.1.step, forget_names S N es h.0 new h.2)

abbrev name_of : {N D : Type 0} → N × D → N
name_of p = p.0

module _ {T D K V E : Type 0} (S : System T D K V E) (L : Laws S) (N : Type 0) (fresh : List N → N) (is_fresh : IsFresh N fresh) (places : List D) (olds : List (N × D)) (was : IsNaming S N olds places) where
  -- names for these data: the old ones for old data, fresh ones for the others
  record Renamed (ps : List D) : Type 0 where
    names : List (N × D)
    is : IsNaming S N names ps
    kept : (n : N) (a : D) → In (n, a) names → In a places → In (n, a) olds
    new : (n : N) (a b : D) → In (n, a) names → (In a places → ⊥) → In (n, b) olds → ⊥

  renamed : (ps : List D) → Renamed ps
  renamed [] = record {
    names = [];
    is = record { named = λ a h. absurd h; there = λ n a h. h; one_name = λ n m a h. absurd h; one_datum = λ n a b h. absurd h };
    kept = λ n a h. absurd h;
    new = λ n a b h. absurd h;
  }
  renamed (p ∷ ps) = by (in_is S L p ps) (in_is S L p places) (renamed ps)
    where
      -- one more name
      with_name : (r : Renamed ps) → (In p ps → ⊥) → (m : N) → ((b : D) → In (m, b) r.names → ⊥) → (In p places → In (m, p) olds) → ((In p places → ⊥) → (b : D) → In (m, b) olds → ⊥) → Renamed (p ∷ ps)
      with_name r out m unused keep other =
          record {
            names = (m, p) ∷ r.names;
            is = record { named = named; there = there; one_name = one_name; one_datum = one_datum };
            kept = kept;
            new = new;
          }
        where
          datum : {n : N} {a : D} → ◌≡◌ {A = N × D} (n, a) (m, p) → a ≡ p
          datum q = ap (λ (x : N × D). x.1) q

          name : {n : N} {a : D} → ◌≡◌ {A = N × D} (n, a) (m, p) → n ≡ m
          name q = ap (λ (x : N × D). x.0) q

          named : (a : D) → In a (p ∷ ps) → (n : N) × In (n, a) ((m, p) ∷ r.names)
          named a (inl q) = (m, inl (λ k. (m, q k)))
          named a (inr h) = let x = r.is.named a h in (x.0, inr x.1)

          there : (n : N) (a : D) → In (n, a) ((m, p) ∷ r.names) → In a (p ∷ ps)
          there n a (inl q) = inl (datum q)
          there n a (inr h) = inr (r.is.there n a h)

          outside : (n : N) (a : D) → a ≡ p → In (n, a) r.names → ⊥
          outside n a q h = out (subst (λ (x : D). In x ps) q (r.is.there n a h))

          one_name : (n n' : N) (a : D) → In (n, a) ((m, p) ∷ r.names) → In (n', a) ((m, p) ∷ r.names) → n ≡ n'
          one_name n n' a (inl q) (inl q') = name q ∙ sym (name q')
          one_name n n' a (inl q) (inr h) = absurd (outside n' a (datum q) h)
          one_name n n' a (inr h) (inl q) = absurd (outside n a (datum q) h)
          one_name n n' a (inr h) (inr h') = r.is.one_name n n' a h h'

          one_datum : (n : N) (a b : D) → In (n, a) ((m, p) ∷ r.names) → In (n, b) ((m, p) ∷ r.names) → a ≡ b
          one_datum n a b (inl q) (inl q') = datum q ∙ sym (datum q')
          one_datum n a b (inl q) (inr h) = absurd (unused b (subst (λ (x : N). In (x, b) r.names) (name q) h))
          one_datum n a b (inr h) (inl q) = absurd (unused a (subst (λ (x : N). In (x, a) r.names) (name q) h))
          one_datum n a b (inr h) (inr h') = r.is.one_datum n a b h h'

          kept : (n : N) (a : D) → In (n, a) ((m, p) ∷ r.names) → In a places → In (n, a) olds
          kept n a (inl q) i = subst (λ (x : N × D). In x olds) (sym q) (keep (subst (λ (x : D). In x places) (datum q) i))
          kept n a (inr h) i = r.kept n a h i

          new : (n : N) (a b : D) → In (n, a) ((m, p) ∷ r.names) → (In a places → ⊥) → In (n, b) olds → ⊥
          new n a b (inl q) no_old h =
              other (λ i. no_old (subst (λ (x : D). In x places) (sym (datum q)) i)) b (subst (λ (x : N). In (x, b) olds) (name q) h)
          new n a b (inr g) no_old h = r.new n a b g no_old h

      -- an old datum's name is not used for another
      not_used : (r : Renamed ps) → (In p ps → ⊥) → (m : N) → In (m, p) olds → (b : D) → In (m, b) r.names → ⊥
      not_used r out m o b h = by_age (in_is S L b places)
        where
          by_age : (In b places ⊎ (In b places → ⊥)) → ⊥
          by_age (inl i) = out (subst (λ (x : D). In x ps) (was.one_datum m b p (r.kept m b h i) o) (r.is.there m b h))
          by_age (inr n) = r.new m b p h n o

      by : (In p ps ⊎ (In p ps → ⊥)) → (In p places ⊎ (In p places → ⊥)) → Renamed ps → Renamed (p ∷ ps)
      by (inl i) old r = record {
        names = r.names;
        is = record {
          named = λ a h. elim h [ inl q ↦ (let x = r.is.named p i in (x.0, subst (λ (z : D). In (x.0, z) r.names) (sym q) x.1)) | inr g ↦ r.is.named a g ];
          there = λ n a h. inr (r.is.there n a h);
          one_name = r.is.one_name;
          one_datum = r.is.one_datum;
        };
        kept = r.kept;
        new = r.new;
      }
      by (inr out) (inl old) r =
          let x = was.named p old in
          with_name r out x.0 (not_used r out x.0 x.1) (λ i. x.1) (λ no_old b h. no_old old)
      by (inr out) (inr no_old) r =
          let used = map name_of (r.names ++ olds) in
          let m = fresh used in
          let unseen : (b : D) → In (m, b) (r.names ++ olds) → ⊥ = λ b h. is_fresh used (in_map name_of (m, b) (r.names ++ olds) h) in
          with_name r out m (λ b h. unseen b (in_left (m, b) r.names olds h)) (λ i. absurd (no_old i)) (λ n b h. unseen b (in_right (m, b) r.names olds h))

-- each step of the machine can be taken with names, from any supply of fresh ones
pub named_step : {T D K V E : Type 0} (S : System T D K V E) (L : Laws S) (N : Type 0) (fresh : List N → N) → IsFresh N fresh → (old : NamedState S N) → IsNaming S N old.names old.state.places → (event : Event) (new : State T D K V E) → Step S old.state event new → (named : NamedState S N) × (named.state ≡ new) × NamedStep S N old event named
named_step {T} {D} {K} {V} {E} S L N fresh is_fresh old was event new x =
    let r = renamed S L N fresh is_fresh old.state.places old.names was new.places in (
      record { state = new; names = r.names },
      refl,
      record { step = x; naming = r.is; stays = stays r; fresh = not_taken r },
    )
  where
    stays : (r : Renamed S L N fresh is_fresh old.state.places old.names was new.places) → (n : N) (a : D) → In (n, a) old.names → In a new.places → In (n, a) r.names
    stays r n a h i =
        let m = r.is.named a i in
        let o = r.kept m.0 a m.1 (was.there n a h) in
        subst (λ (k : N). In (k, a) r.names) (was.one_name m.0 n a o h) m.1

    not_taken : (r : Renamed S L N fresh is_fresh old.state.places old.names was new.places) → (n : N) (a b : D) → In (n, a) r.names → In (n, b) old.names → a ≡ b
    not_taken r n a b h o = by_age (in_is S L a old.state.places)
      where
        by_age : (In a old.state.places ⊎ (In a old.state.places → ⊥)) → a ≡ b
        by_age (inl i) = was.one_datum n a b (r.kept n a h i) o
        by_age (inr no_old) = absurd (r.new n a b h no_old o)
