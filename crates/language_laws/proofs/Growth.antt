-- Where knowledge grows and closed arrays get no new element, what is live, closed, finished, ready and has a value stays so.
use Rattle.std.specs.Prelude.{List}
use Rattle.values.specs.declared.key.Key.{Key}
use Rattle.values.specs.declared.map.Element.{Element}
use Rattle.values.specs.declared.value.Scalar.{Scalar}
use Rattle.values.specs.declared.value.Value.{Value}
use Rattle.language.specs.Core.{Core, Owned, Stmt, Cell, Action, Awaited, Block}
use Rattle.language.specs.Facts.{Fact, element, Knowledge, Elements, KnownAll, no_cell, next_cell}
use Rattle.language.specs.Meaning.{Live, script, opened, waited, called, Closed, closed, Finished, no_target, value_known, write_known, body_finished, blocks_finished, content_finished, Ready, cells_known, source_closed, names_known, Come, scalar_known, array_closed, HasValue, stored, in_turn, LiveStmt, in_block}
use Rattle.language.specs.Places.{Path, Place}

-- K' knows what K does, and an array that is closed under K has no other elements in K'
pub record Grows (s : Core) (K K' : Knowledge) : Type 0 where
  pub more : (f : Fact) → K f → K' f
  pub stays : (a : Place) → Closed s K a → (k : Key) (w : Place) (v : Scalar) → K' (element a k w v) → K (element a k w v)

module _ (s : Core) (K K' : Knowledge) (g : Grows s K K') where
  pub keeps_all : {path : Path} {cs : List Cell} {vs : List Value} → KnownAll K path cs vs → KnownAll K' path cs vs
  keeps_all no_cell = no_cell
  keeps_all (next_cell k ks) = next_cell (g.more _ k) (keeps_all ks)

  pub keeps_elements : {a : Place} {es : List Element} → Closed s K a → Elements K a es → Elements K' a es
  keeps_elements c x = record {
    in_order = x.in_order;
    written = λ k v i. (let z = x.written k v i in (z.0, g.more _ z.1));
    all = λ k w v f. x.all k w v (g.stays _ c k w v f);
  }

  mutual
    pub keeps_live : {path : Path} {b : Block} → Live s K path b → Live s K' path b
    keeps_live script = script
    keeps_live (opened h i r o d) = opened (keeps_live h) i (keeps_ready r) o d
    keeps_live (waited h i r) = waited (keeps_live h) i (keeps_ready r)
    keeps_live (called h i m e d) = called (keeps_live h) i m e d

    pub keeps_closed : {a : Place} → Closed s K a → Closed s K' a
    keeps_closed (closed l m fs o) =
        closed (keeps_live l) m (λ st i. keeps_finished (fs st i))
        (λ k w w' v v' x y. o k w w' v v' (g.stays _ (closed l m fs o) k w v x) (g.stays _ (closed l m fs o) k w' v' y))

    pub keeps_finished : {a : Owned} {path : Path} {st : Stmt} → Finished s K a path st → Finished s K' a path st
    keeps_finished (no_target h) = no_target h
    keeps_finished (value_known k) = value_known (g.more _ k)
    keeps_finished (write_known k) = write_known (g.more _ k)
    keeps_finished (body_finished d fs) = body_finished d (λ j x st e t i. keeps_finished (fs j x st e t i))
    keeps_finished (blocks_finished h r d fs) = blocks_finished h (keeps_ready r) d (λ k b st o i. keeps_finished (fs k b st o i))
    keeps_finished (content_finished r fs) = content_finished (keeps_ready r) (λ st i. keeps_finished (fs st i))

    pub keeps_ready : {path : Path} {h : Action} {vs : List Value} → Ready s K path h vs → Ready s K' path h vs
    keeps_ready (cells_known vs d) = cells_known (keeps_all vs) d
    keeps_ready (source_closed c es) = source_closed (keeps_closed c) (keeps_elements c es)
    keeps_ready (names_known cs) = names_known (λ x i. keeps_come (cs x i))

    pub keeps_come : {path : Path} {x : Awaited} → Come s K path x → Come s K' path x
    keeps_come (scalar_known v) = scalar_known (keeps_value v)
    keeps_come (array_closed c) = array_closed (keeps_closed c)

    pub keeps_value : {p : Place} {v : Scalar} → HasValue s K p v → HasValue s K' p v
    keeps_value (stored k) = stored (g.more _ k)
    keeps_value (in_turn l m r o t d) = in_turn (keeps_live l) m (keeps_ready r) o t d

  pub keeps_stmt : {path : Path} {st : Stmt} → LiveStmt s K path st → LiveStmt s K' path st
  keeps_stmt (in_block h i) = in_block (keeps_live h) i
