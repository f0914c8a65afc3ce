-- Entries that were given the rights that they lead to have them, and no others.
use Rattle.std.proofs.Common.{◌≡◌, sym, ap, ◌∙◌, subst, refl, ℕ, ◌<◌, List, [], ◌∷◌, ◌++◌, map, length}
use Rattle.std.proofs.lemmas.List.{length-map}
use Rattle.dataflow.specs.System.{Distinct, In}
use Rattle.task_code.specs.Code.{Code, Entry, Name, blank_entry, entry, nth, targets}
use Rattle.task_code.specs.Exact.{needs_of}
use Rattle.ref_counting.specs.declared.entry_name.EntryName.{EntryName}
use Rattle.ref_counting.specs.declared.uses.RightKind.TheVariants.{Read, Write}
use Rattle.ref_counting.specs.Leads.{names_of}
use Rattle.ref_counting.specs.Rights.{AreRights}
use Rattle.code_rules.specs.Emitted.{HasRights}
use Rattle.code_rules.specs.Laying.{bare}
use Rattle.task_code.specs.declared.entry.Entry.{Entry as LaidEntry}
use Rattle.task_code.specs.declared.code.Body.{Body as LaidBody}
use Rattle.task_code.specs.View.{body_view, entry_view}
use Rattle.emit_rights.specs.Granted.{EmittedAs, given_all, laid_code}
use Rattle.emit_rights.proofs.Bare.{leads_too, nth_same}
use Rattle.emit_rights.proofs.Giving.{all_given, all_length, all_reads_kept, all_same, all_writes_kept}

needs_bare : (e : Entry) → needs_of (bare e) ≡ needs_of e
needs_bare e = refl

targets_bare : (e : Entry) → targets (bare e) ≡ targets e
targets_bare e = refl

bare_bare : (es : List Entry) → map bare (map bare es) ≡ map bare es
bare_bare [] = refl
bare_bare (e ∷ es) = ap (λ xs. bare e ∷ xs) (bare_bare es)

-- laying leaves rights free
emitted_as : (C D : Code) → map bare D.entries ≡ map bare C.entries → D.bodies ≡ C.bodies → HasRights D → EmittedAs C D
emitted_as C D p q h c fs ds l = record {
  laid = record {
    own_declared = l.own_declared;
    function_declared = l.function_declared;
    declared = l.declared;
    first = l.first;
    last = l.last;
    entries_are = l.entries_are;
    makes_are = l.makes_are;
    function_bodies = l.function_bodies;
    script = l.script;
    functions = l.functions;
    entries = p ∙ l.entries;
    bodies = q ∙ l.bodies;
  };
  rights = h;
}

-- the code whose entries were given these rights to read and to write
pub record IsGranted (C D : Code) (reads writes : List EntryName) : Type 0 where
  pub bodies : D.bodies ≡ C.bodies
  pub entries : D.entries ≡ given_all Write (given_all Read (map bare C.entries) reads) writes
  pub reads_are : AreRights C needs_of reads
  pub writes_are : AreRights C targets writes

-- the steps of granting, from what is laid to what is granted
pub grants : (bs cs : List LaidBody) (es fs gs hs is : List LaidEntry) (laid D : Code) (reads writes : List EntryName) → laid ≡ laid_code bs es → map body_view cs ≡ laid.bodies → map entry_view fs ≡ laid.entries
    → map entry_view gs ≡ map bare (map entry_view fs) → map entry_view hs ≡ given_all Read (map entry_view gs) reads → map entry_view is ≡ given_all Write (map entry_view hs) writes → D ≡ laid_code cs is
    → AreRights laid needs_of reads → AreRights laid targets writes → IsGranted (laid_code bs es) D reads writes
grants bs cs es fs gs hs is laid D reads writes new bodies entries none read written made r w = record {
  bodies = ap (λ (x : Code). x.bodies) made ∙ bodies ∙ ap (λ (x : Code). x.bodies) new;
  entries =
      ap (λ (x : Code). x.entries) made
      ∙ written
      ∙ ap (λ (xs : List Entry). given_all Write xs writes) (read ∙ ap (λ (xs : List Entry). given_all Read xs reads) (none ∙ ap (map bare) (entries ∙ ap (λ (x : Code). x.entries) new)));
  reads_are = subst (λ (x : Code). AreRights x needs_of reads) new r;
  writes_are = subst (λ (x : Code). AreRights x targets writes) new w;
}

module _ (C D : Code) (reads writes : List EntryName) (g : IsGranted C D reads writes) where
  abbrev none : List Entry
  none = map bare C.entries

  pub granted_same : map bare D.entries ≡ map bare C.entries
  granted_same = ap (map bare) g.entries ∙ all_same Write (given_all Read none reads) writes ∙ all_same Read none reads ∙ bare_bare C.entries

  in_reads : (l : EntryName) → In l reads → l.entry < length none
  in_reads l t = subst (λ n. l.entry < n) (sym (length-map C.entries bare)) (g.reads_are.within l t)

  in_writes : (l : EntryName) → In l writes → l.entry < length (given_all Read none reads)
  in_writes l t = subst (λ n. l.entry < n) (sym (all_length Read reads none ∙ length-map C.entries bare)) (g.writes_are.within l t)

  has_reads : (i : ℕ) → (entry D i).reads ≡ names_of reads i
  has_reads i =
      ap (λ (es : List Entry). (nth blank_entry es i).reads) g.entries
      ∙ all_reads_kept writes (given_all Read none reads) i
      ∙ all_given Read reads none i in_reads
      ∙ ap (λ (e : Entry). e.reads ++ names_of reads i) (nth_same C.entries i)

  has_writes : (i : ℕ) → (entry D i).writes ≡ names_of writes i
  has_writes i =
      ap (λ (es : List Entry). (nth blank_entry es i).writes) g.entries
      ∙ all_given Write writes (given_all Read none reads) i in_writes
      ∙ ap (λ (ns : List Name). ns ++ names_of writes i) (all_writes_kept reads none i ∙ ap (λ (e : Entry). e.writes) (nth_same C.entries i))

  pub granted_rights : HasRights D
  granted_rights = record {
    reads = λ i r h. leads_too C D (sym granted_same) (sym g.bodies) needs_of needs_bare i r (g.reads_are.sound i r (subst (λ (ns : List Name). In r ns) (has_reads i) h));
    all_reads = λ i r h. subst (λ (ns : List Name). In r ns) (sym (has_reads i)) (g.reads_are.complete i r (leads_too D C granted_same g.bodies needs_of needs_bare i r h));
    writes = λ i r h. leads_too C D (sym granted_same) (sym g.bodies) targets targets_bare i r (g.writes_are.sound i r (subst (λ (ns : List Name). In r ns) (has_writes i) h));
    all_writes = λ i r h. subst (λ (ns : List Name). In r ns) (sym (has_writes i)) (g.writes_are.complete i r (leads_too D C granted_same g.bodies targets targets_bare i r h));
    reads_once = λ i. subst Distinct (sym (has_reads i)) (g.reads_are.once i);
    writes_once = λ i. subst Distinct (sym (has_writes i)) (g.writes_are.once i);
  }

  pub granted_emitted : EmittedAs C D
  granted_emitted = emitted_as C D granted_same g.bodies granted_rights
