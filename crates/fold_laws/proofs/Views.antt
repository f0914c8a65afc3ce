-- What is read off the meaning of cores that are the same.
use Rattle.std.specs.Prelude.{ℕ, true, List}
use Rattle.std.proofs.Common.{subst}
use Rattle.values.specs.declared.value.Scalar.{Scalar}
use Rattle.values.specs.declared.value.Scalar.TheVariants.{Truth}
use Rattle.values.specs.declared.value.Value.TheVariants.{One}
use Rattle.language.specs.Core.{Core, Action}
use Rattle.language.specs.Facts.{Fact, value, element, fault, Knowledge}
use Rattle.language.specs.Meaning.{Closed, HasValue, Known, Meaning}
use Rattle.language.specs.Outcomes.{OwnFact, Counts, Blocked, Lines, Clean}
use Rattle.language.specs.Places.{Path, Place}
use Rattle.fold_laws.specs.Same.{SameAction, same_declare, same_call_alone, same_assign, same_fill, same_insert, same_print, same_assert, same_when, same_choose, same_range, same_each, same_wait, SameCore}
use Rattle.fold_laws.proofs.Kept.{place_is, same_writer, same_closed, same_ready, same_has, same_live_action}
use Rattle.fold_laws.proofs.Listed.{like_of, same_outer_cells}
use Rattle.fold_laws.proofs.Rounds.{same_known}
use Rattle.fold_laws.proofs.Turned.{turned_core, turned_action}

same_counts : {a b : Action} → SameAction a b → Counts a → Counts b
same_counts same_declare h = h
same_counts (same_call_alone k) h = h
same_counts (same_assign k) h = h
same_counts (same_fill k) h = h
same_counts (same_insert k l) h = h
same_counts (same_print k) h = h
same_counts (same_assert k) h = h
same_counts (same_when k m) h = h
same_counts (same_choose k m l) h = h
same_counts (same_range k l m o) h = h
same_counts (same_each m) h = h
same_counts (same_wait m) h = h

module _ (c d : Core) (same : SameCore c d) (K L : Knowledge) (to : (f : Fact) → K f → L f) (from : (f : Fact) → L f → K f) where
  same_own : (path : Path) (n : ℕ) {a b : Action} → SameAction a b → OwnFact c K path n a → OwnFact d L path n b
  same_own path n same_declare h = h
  same_own path n (same_call_alone k) h = h
  same_own path n (same_assign k) h = (h.0, to _ (subst (λ m. K (value (path, m) h.0)) k.cell.node h.1))
  same_own path n (same_fill k) h = (h.0, to _ (subst (λ m. K (value (path, m) h.0)) k.cell.node h.1))
  same_own path n (same_insert {a} k l) h = (h.0, h.1, to _ (subst (λ p. K (element p h.0 (path, n) h.1)) (place_is c d same K L to from path a) h.2))
  same_own path n (same_print k) h = (h.0, to _ h.1)
  same_own path n (same_assert k) h = to _ (subst (λ m. K (value (path, m) (One (Truth true)))) k.cell.node h)
  same_own path n (same_when k m) h = (h.0, same_ready c d same K L to from h.1 (same_when k m))
  same_own path n (same_choose k m l) h = (h.0, same_ready c d same K L to from h.1 (same_choose k m l))
  same_own path n (same_range k l m o) h = (h.0, same_ready c d same K L to from h.1 (same_range k l m o))
  same_own path n (same_each m) h = (h.0, same_ready c d same K L to from h.1 (same_each m))
  same_own path n (same_wait m) h = (h.0, same_ready c d same K L to from h.1 (same_wait m))

module _ (c d : Core) (same : SameCore c d) (K L : Knowledge) (to : (f : Fact) → K f → L f) (from : (f : Fact) → L f → K f) where
  pub same_blocked : {at : ℕ} {path : Path} → Blocked c K at path → Blocked d L at path
  same_blocked {at} {path} b =
      let x = b.2 in
      let r = same_live_action c d same K L to from x.live in
      let back = turned_action r.same_action in (
        b.0,
        r.action,
        record {
          live = r.live;
          counts = same_counts r.same_action x.counts;
          no_fact = λ h. x.no_fact (same_own d c (turned_core same) L K from to path b.0 back h);
          no_fault = λ f k. x.no_fault f (from _ k);
          no_cell_fault = λ k f i h. (let y = like_of (same_outer_cells back) i in x.no_cell_fault y.like f y.there (from _ (subst (λ m. L (fault f at (path, m))) y.same.node h)));
        },
      )

pub same_clean : (c d : Core) → SameCore c d → Clean c → Clean d
same_clean c d same clean n a = same_writer c d same (Known c n) (Known d n) (same_known c d same n) (same_known d c (turned_core same) n) (clean n a)

module _ (c d : Core) (same : SameCore c d) where
  pub meant : (f : Fact) → Meaning c f → Meaning d f
  meant f m = (m.0, same_known c d same m.0 f m.1)

  pub meant_back : (f : Fact) → Meaning d f → Meaning c f
  meant_back f m = (m.0, same_known d c (turned_core same) m.0 f m.1)

  pub closed_too : {a : Place} → Closed c (Meaning c) a → Closed d (Meaning d) a
  closed_too h = same_closed c d same (Meaning c) (Meaning d) meant meant_back h

  pub value_too : {a : Place} {v : Scalar} → HasValue c (Meaning c) a v → HasValue d (Meaning d) a v
  value_too h = same_has c d same (Meaning c) (Meaning d) meant meant_back h

  pub lines_too : {ls : List (List ℕ)} → Lines (Meaning c) ls → Lines (Meaning d) ls
  lines_too l = record { listing = l.listing; once = l.once; known = λ w bytes i. meant _ (l.known w bytes i); all = λ w bytes k. l.all w bytes (meant_back _ k); permuted = l.permuted }
