-- The fact base as kept knowledge, indexed by the paths of its instances.
use Rattle.std.specs.Prelude.{◌≡◌, ℕ, ◌<◌, Bool, false, ◌&&◌, ◌||◌, List, [], ◌∷◌, length, map, nat_eq, nat_le, is_some, Option, Some, None}
use Rattle.std.specs.HashSet.{contains}
use denote.Enum.Bare.{sameb}
use Rattle.values.specs.declared.fault.OpFault.TheVariants as Op
use Rattle.values.specs.declared.value.Scalar.{Scalar}
use Rattle.language.specs.Core.{Core}
use Rattle.language.specs.Facts.{Fault, operation, no_element, element_twice, too_deep}
use Rattle.language.specs.Places.{Place, max_path_steps}
use Rattle.meaning_steps.specs.News.{Past}
use Rattle.meaning_steps.specs.Kept.{Kept, is_there, several_in}
use Rattle.meaning_steps.specs.Kept.{Write as KeptWrite}
use Rattle.paths.specs.contracts.faults.FaultKind as kinds
use Rattle.paths.specs.declared.faults.FaultKind.{FaultKind}
use Rattle.paths.specs.declared.faults.FaultKind.TheVariants as Kind
use Rattle.meaning_facts.specs.declared.facts.FaultFact.{FaultFact}
use Rattle.meaning_facts.specs.declared.facts.Facts.{Facts}
use Rattle.meaning_facts.specs.declared.facts.Place.{Place as Spot}
use Rattle.meaning_facts.specs.declared.facts.Write.{Write}
use Rattle.meaning_facts.specs.declared.instances.Instance.{Instance}
use Rattle.meaning_facts.specs.declared.instances.Instances.{Instances}
use Rattle.meaning_facts.specs.declared.fact_base.FactBase.{FactBase}
use Rattle.meaning_facts.specs.Paths.{path_of, at_path, IsTree}
use Rattle.meaning_facts.specs.Sighted.{closed_at}
use Rattle.meaning_facts.specs.Stands.{Stands}
use Rattle.meaning_facts.specs.Store.{value_at, line_at, writes_at, writes_under, is_written_in, variable_in, variables_of, spot, same_place}

-- FAULTS

abbrev pub same_fault : FaultFact → FaultFact → Bool
same_fault f g = sameb kinds.the_type f.kind g.kind && (nat_eq f.at g.at && same_place f.place g.place)

-- the kind of a fault; an allocation failure has none
abbrev pub kind_of : Fault → Option FaultKind
kind_of (operation Op.Overflow) = Some Kind.Overflow
kind_of (operation Op.DivideByZero) = Some Kind.DivideByZero
kind_of (operation Op.BadStep) = Some Kind.BadStep
kind_of (operation Op.NotANumber) = Some Kind.NotANumber
kind_of (operation Op.AssertFailed) = Some Kind.AssertFailed
kind_of (operation Op.Memory) = None
kind_of no_element = Some Kind.NoElement
kind_of element_twice = Some Kind.ElementTwice
kind_of too_deep = Some Kind.TooDeep

abbrev pub has_kind : Facts → Option FaultKind → (at : ℕ) → Spot → Bool
has_kind k (Some kind) at p = contains same_fault k.faults (record { kind = kind; at = at; place = p })
has_kind k None at p = false

abbrev pub fault_at : Facts → Fault → (at : ℕ) → Spot → Bool
fault_at k f at p = has_kind k (kind_of f) at p

abbrev pub all_kinds : List FaultKind
all_kinds = Kind.Overflow ∷ Kind.DivideByZero ∷ Kind.NoElement ∷ Kind.ElementTwice ∷ Kind.BadStep ∷ Kind.TooDeep ∷ Kind.NotANumber ∷ Kind.AssertFailed ∷ []

abbrev pub has_some : Facts → List FaultKind → (at : ℕ) → Spot → Bool
has_some k [] at p = false
has_some k (kind ∷ kinds) at p = has_kind k (Some kind) at p || has_some k kinds at p

-- some fault of the statement at an offset is known
abbrev pub some_fault_at : Facts → (at : ℕ) → Spot → Bool
some_fault_at k at p = has_some k all_kinds at p

-- KEPT KNOWLEDGE

-- a place of a program, as a place of the script
abbrev pub place_view : List Instance → Spot → Place
place_view ns p = (path_of ns p.instance, p.node)

abbrev pub write_view : List Instance → Write → KeptWrite
write_view ns w = record { key = w.key; writer = place_view ns w.writer; value = w.value }

-- the value of a loop variable
abbrev pub turn_at : FactBase → Spot → Option Scalar
turn_at l p = variable_in (variables_of l.instances.all.items p.instance) p.node

-- the entry of an instance at a node, or x without an instance
abbrev pub in_instance : {X : Type 0} → X → (Spot → X) → Option ℕ → ℕ → X
in_instance x f (Some i) n = f (record { instance = i; node = n })
in_instance x f None n = x

-- the entry at a place of the script, or x if no instance is at its path
abbrev pub by_place : {X : Type 0} → Instances → X → (Spot → X) → Place → X
by_place t x f p = in_instance x f (at_path t p.0) p.1

abbrev pub kept_of : FactBase → Kept
kept_of l = record {
  value = by_place l.instances None (value_at l.facts);
  turn = by_place l.instances None (turn_at l);
  closed = by_place l.instances false (closed_at l);
  writes = by_place l.instances [] (λ p. map (write_view l.instances.all.items) (writes_at l.facts p));
  written = λ a k w. by_place l.instances false (λ p. by_place l.instances false (is_written_in (writes_at l.facts p) k) w) a;
  lined = by_place l.instances false (λ p. is_some (line_at l.facts p));
  faulted = λ f at p. by_place l.instances false (fault_at l.facts f at) p;
}

-- FACTS DERIVED BEFORE

-- the facts derived before, as an instance sees them
abbrev pub past_of : FactBase → ℕ → Past
past_of l i = record {
  valued = λ x. is_there (value_at l.facts (spot l.instances.all.items i x));
  written = λ a k n. is_written_in (writes_at l.facts (spot l.instances.all.items i a)) k (record { instance = i; node = n });
  twice = λ a k. several_in (writes_under (writes_at l.facts (spot l.instances.all.items i a)) k);
  lined = λ n. is_some (line_at l.facts (record { instance = i; node = n }));
  faulted = λ f at n. fault_at l.facts f at (record { instance = i; node = n });
  deep = nat_le max_path_steps (length (path_of l.instances.all.items i));
}

-- PATHS OF INSTANCES

-- a place of a program is in one of its instances, at the path of a place of the script
pub record IsLocated (ns : List Instance) (p : Spot) (q : Place) : Type 0 where
  pub within : p.instance < length ns
  pub view_is : place_view ns p ≡ q

-- the instances are a tree, and each is at its path
pub record IsPlaced (s : Core) (t : Instances) : Type 0 where
  pub tree : IsTree t
  pub stands : (i : ℕ) → i < length t.all.items → Stands s t.all.items i (path_of t.all.items i)
