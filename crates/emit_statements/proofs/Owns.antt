-- Statements that work an outermost cell out themselves.
use Rattle.std.proofs.Common.{◌≡◌, ◌<◌, ◌^◌, ℕ, ℤ, true, false, List, [], ◌∷◌, ◌++◌, map, length, refl, sym, ap, subst, ◌∙◌, None, arith}
use Rattle.std.proofs.lemmas.List.{append-nil}
use Rattle.indexmap.specs.IndexMap.{IndexMap}
use Rattle.language.specs.Core.{Name, Form, compute, read, Cell, Part, inner, Outer}
use Rattle.language_laws.specs.TypedValues.{own_cell, own_outer, own_parts}
use Rattle.flow.specs.View.{name_view}
use Rattle.flow.specs.declared.name.Name.{Name as Named}
use Rattle.task_code.specs.Code.{Act, Need}
use Rattle.task_code.specs.View.{entry_view}
use Rattle.task_code.specs.declared.entry.Argument.{Argument as Handed}
use Rattle.task_code.specs.declared.entry.Entry.{Entry as Made}
use Rattle.code_rules.specs.CodeNames.{wanted, each_once}
use Rattle.code_rules.specs.IsCodeOf.{Layout, IsSimple, fill_act, own_form, own_needs, own_priority, seen_as, simple_act}
use Rattle.code_rules.specs.Laying.{data_in, data_of, plain_after}
use Rattle.code_rules.specs.Room.{ActionRoom, FormRoom, NameRoom, OuterRoom}
use Rattle.emit_cells.specs.Before.{last_of}
use Rattle.emit_cells.specs.PlainNeeds.{Noted, need_of}
use Rattle.emit_cells.specs.declared.needs.PlainNeed.{PlainNeed}
use Rattle.emit_cells.specs.Chunk.{Inside, Passes, Puts, passed_as}
use Rattle.emit_cells.specs.Made.{made}
use Rattle.emit_cells.specs.declared.entries.StatementContext.{StatementContext}
use Rattle.emit_cells.proofs.Lasts.{pass_last}
use Rattle.emit_statements.specs.Doing.{action_of}
use Rattle.emit_statements.specs.Into.{OwnAdded}
use Rattle.emit_statements.specs.declared.own.ValueUse.{ValueUse}
use Rattle.emit_statements.specs.declared.own.ValueUse.TheVariants as Uses

pub read_passes : {S : Type 0} (k : ℕ) (all ps : List Part) (c : Cell) (a : Name) (i : ℕ) (old new : IndexMap ℕ Handed S) → c.form ≡ read a i → Inside all (ps ++ own_cell c c.form)
    → Puts c.node (passed_as k false c.node c.form) old new → Passes k all (own_cell c c.form) old new
read_passes k all ps c a i old new is inside put =
    let here : Inside all (ps ++ inner c ∷ []) = subst (λ f. Inside all (ps ++ own_cell c f)) is inside in
    let none : false ≡ plain_after (last_of None ps) c.form = sym (ap (plain_after (last_of None ps)) is) in
    subst (λ f. Passes k all (own_cell c f) old new) (sym is) (pass_last k all ps c false old new here none put)

-- WHAT IS DONE

pub filled_done : (l : Layout) (k : ℕ) (p : ℤ) (ns : List Need) (a : Named) (d : ValueUse) (o : Outer) (act : Act) → d ≡ Uses.Fill a → ActionRoom k (action_of d p o)
    → (NameRoom k (name_view a) → FormRoom k o.cell.form → act ≡ fill_act l k ns (name_view a) (own_form o.cell.node o.cell.form)) → act ≡ simple_act l k ns (action_of d p o)
filled_done l k p ns a d o act is room f =
    let there : ActionRoom k (action_of (Uses.Fill a) p o) = subst (λ u. ActionRoom k (action_of u p o)) is room in
    subst (λ u. act ≡ simple_act l k ns (action_of u p o)) (sym is) (f there.0 there.1.1)

pub simple_done : (d : ValueUse) (p : ℤ) (o : Outer) → IsSimple (action_of d p o)
simple_done (Uses.Set x) p o = tt
simple_done (Uses.Fill a) p o = tt
simple_done Uses.Print p o = tt
simple_done Uses.Assert p o = tt

pub parts_done : (d : ValueUse) (p : ℤ) (o : Outer) → own_outer o ≡ own_parts (action_of d p o)
parts_done (Uses.Set x) p o = refl
parts_done (Uses.Fill a) p o = refl
parts_done Uses.Print p o = refl
parts_done Uses.Assert p o = refl

pub data_done : (d : ValueUse) (p : ℤ) (o : Outer) → data_in None (own_outer o) ≡ data_of (action_of d p o)
data_done (Uses.Set x) p o = refl
data_done (Uses.Fill a) p o = refl
data_done Uses.Print p o = refl
data_done Uses.Assert p o = refl

pub outer_room : (d : ValueUse) (k : ℕ) (p : ℤ) (o : Outer) → ActionRoom k (action_of d p o) → OuterRoom k o
outer_room (Uses.Set x) k p o room = room.1
outer_room (Uses.Fill a) k p o room = room.1
outer_room Uses.Print k p o room = room
outer_room Uses.Assert k p o room = room

-- NEEDS

own_seen : (n : ℕ) (f : Form) → seen_as true n f ≡ own_form n f
own_seen n (compute e) = refl
own_seen n (read a i) = refl

pub few_seen : (k n : ℕ) (f : Form) → FormRoom k f → length (wanted k (seen_as true n f)) < 2 ^ 30
few_seen k n (compute e) room = room.1
few_seen k n (read a i) room = omega arith

once_own : (k : ℕ) (o : Outer) → each_once (wanted k (seen_as true o.cell.node o.cell.form)) ≡ each_once (wanted k (own_form o.cell.node o.cell.form) ++ [])
once_own k o = ap each_once (ap (wanted k) (own_seen o.cell.node o.cell.form) ∙ sym (append-nil (wanted k (own_form o.cell.node o.cell.form))))

needs_done : (d : ValueUse) (l : Layout) (k : ℕ) (p : ℤ) (o : Outer) → each_once (wanted k (seen_as true o.cell.node o.cell.form)) ≡ own_needs l k (action_of d p o)
needs_done (Uses.Set x) l k p o = once_own k o
needs_done (Uses.Fill a) l k p o = once_own k o
needs_done Uses.Print l k p o = once_own k o
needs_done Uses.Assert l k p o = once_own k o

-- the own entry
pub own_added : (s : StatementContext) (n : ℕ) (d : ValueUse) (o : Outer) (ks : List PlainNeed) (act : Act) (old new : List Made) → s.priority ≡ own_priority (action_of d s.priority o)
    → Noted (wanted s.inputs (seen_as true o.cell.node o.cell.form)) ks → ((l : Layout) → act ≡ simple_act l s.inputs (map need_of ks) (action_of d s.priority o))
    → map entry_view new ≡ map entry_view old ++ made s (record { node = n; offset = s.at }) (each_once (wanted s.inputs (seen_as true o.cell.node o.cell.form))) act ∷ []
    → OwnAdded s.inputs s.at n (action_of d s.priority o) old new
own_added s n d o ks act old new priority noted does is = record {
  entry = made s (record { node = n; offset = s.at }) (each_once (wanted s.inputs (seen_as true o.cell.node o.cell.form))) act;
  is = is;
  own = λ l suits. record {
    at_is = refl;
    priority_is = priority;
    needs_is = needs_done d l s.inputs s.priority o;
    act_is = does l ∙ ap (λ ns. simple_act l s.inputs ns (action_of d s.priority o)) (noted.are ∙ needs_done d l s.inputs s.priority o);
  };
  node_is = refl;
  offset_is = refl;
}
