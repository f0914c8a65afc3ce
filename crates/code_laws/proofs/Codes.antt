-- Codes that are laid for one core do the same, and where they have the rights that their entries lead to and no others, they are alike.
use Rattle.std.proofs.Common.{◌≡◌, inl, inr, ℕ, zero, suc, Bool, true, false, nat_eq, List, [], ◌∷◌, ◌++◌, map, length, refl, sym, ap, ap₂, ◌∙◌, subst}
use Rattle.std.specs.List.{flat_map}
use Rattle.dataflow.specs.System.{In}
use Rattle.language.specs.Core.{stmt, Action, Block, Function, Core}
use Rattle.language.specs.Members.{◌∈◌, first}
use Rattle.language.specs.Parts.{blocks_of, function_blocks, script_blocks, script_stmts}
use Rattle.language.proofs.Members.{to_left, to_right}
use Rattle.language_laws.specs.TypedValues.{own_parts}
use Rattle.task_code.specs.Code as code
use Rattle.task_code.specs.Code.{Act, Body, ByCalls, ByMain, Calling, Code, Entry, InPlace, Name, Through, Variable, Way, argument, arguments, argument_in, blank_body, blank_entry, body, call_at, call_from, entry, needed, nth, targets, targets_of, ways}
use Rattle.task_code.specs.Exact.{Leads, itself, through, needs_of}
use Rattle.task_code.specs.Whole.{Declared, Seen}
use Rattle.code_rules.specs.IsCodeOf.{Layout}
use Rattle.code_rules.specs.Emitted.{HasRights, ReadsStand}
use Rattle.code_rules.specs.Laying.{Kinds, Laying, LaysFunctions, LaysScript, Suits, bare, no_function, one_function}
use Rattle.code_laws.specs.Alike.{AllDoSame, AreAlike, DoSame, HaveSameRights, OpensAtMark, StoresAtNode}
use Rattle.code_laws.proofs.Parts.{ArePinned}
use Rattle.code_laws.proofs.Blocks.{AsShape, SameLaying, block_pinned}

-- FUNCTIONS AND SCRIPTS

record SameFunctions (s t : Laying) (bs ds : List Body) : Type 0 where
  laid : SameLaying s t
  bodies : bs ≡ ds

shape_first : (shape : ℕ → Bool) (ds bs cs : List (ℕ × Bool)) → ds ≡ bs ++ cs → AsShape shape ds → AsShape shape bs
shape_first shape ds bs cs e h v b m = h v b (subst (λ (z : List (ℕ × Bool)). ◌∈◌ {X = ℕ × Bool} (v, b) z) (sym e) (to_left bs cs m))

shape_rest : (shape : ℕ → Bool) (ds bs cs : List (ℕ × Bool)) → ds ≡ bs ++ cs → AsShape shape ds → AsShape shape cs
shape_rest shape ds bs cs e h v b m = h v b (subst (λ (z : List (ℕ × Bool)). ◌∈◌ {X = ℕ × Bool} (v, b) z) (sym e) (to_right bs cs m))

bare_same : {e f : Entry} → DoSame (bare e) (bare f) → DoSame e f
bare_same d = record { at = d.at; priority = d.priority; needs = d.needs; act = d.act; node = d.node; offset = d.offset }

all_bare : (es fs : List Entry) → AllDoSame (map bare es) (map bare fs) → AllDoSame es fs
all_bare [] [] h = tt
all_bare [] (f ∷ fs) h = absurd h
all_bare (e ∷ es) [] h = absurd h
all_bare (e ∷ es) (f ∷ fs) h = (bare_same h.0, all_bare es fs h.1)

module _ (c : Core) (fs : List Kinds) (l : Layout) (suits : (at n : ℕ) (a : Action) → stmt at n a ∈ script_stmts c → Suits l a) (stands : ReadsStand c)
    (pinned : (at n : ℕ) (a : Action) → stmt at n a ∈ script_stmts c → ArePinned fs (own_parts a)) (shape : ℕ → Bool) where
  functions_pinned : (roots : ℕ) (gs : List Function) {ds ds' : List (ℕ × Bool)} {s s' t t' : Laying} {bs bs' : List Body} → LaysFunctions fs roots gs ds s t bs → LaysFunctions fs roots gs ds' s' t' bs' → SameLaying s s' → AsShape shape ds → AsShape shape ds'
      → ((b : Block) → b ∈ function_blocks gs → b ∈ script_blocks c) → SameFunctions t t' bs bs'
  functions_pinned roots [] no_function no_function h sh sh' i = record { laid = h; bodies = refl }
  functions_pinned roots (f ∷ gs) (one_function {cs = cs} {ds = ds} {all = all} x xs de be) (one_function {cs = cs'} {ds = ds'} {all = all'} y ys de' be') h sh sh' i =
      let p = block_pinned c fs roots l suits stands pinned shape f.inputs x y h (shape_first shape all cs ds de sh) (shape_first shape all' cs' ds' de' sh') f.body (i f.body first) (λ z j. j) in
      let q = functions_pinned roots gs xs ys p.laid (shape_rest shape all cs ds de sh) (shape_rest shape all' cs' ds' de' sh') (λ b m. i b (to_right (blocks_of f.body) (function_blocks gs) m)) in
      record {
        laid = q.laid;
        bodies = be ∙ ap₂ (λ (z : List Variable × List ℕ) (zs : List Body). record { opener = ByCalls; makes = z.0; entries = z.1 } ∷ zs) (λ z. (p.makes z, p.numbers z)) q.bodies ∙ sym be';
      }

  -- what is laid for it does the same, and its bodies are the same
  pub record SameCode (C D : Code) : Type 0 where
    pub bodies : C.bodies ≡ D.bodies
    pub entries : AllDoSame C.entries D.entries

  pub script_pinned : {ds es : List (ℕ × Bool)} {C D : Code} → LaysScript c fs ds C → LaysScript c fs es D → AsShape shape ds → AsShape shape es → SameCode C D
  script_pinned {ds} {es} {C} {D} x y sh sh' =
      let p = block_pinned c fs (suc (length c.functions)) l suits stands pinned shape 0 x.script y.script (record { entries = tt; bodies = refl }) (shape_first shape ds x.own_declared x.function_declared x.declared sh) (shape_first shape es y.own_declared y.function_declared y.declared sh')
      c.body first (λ z j. j) in
      let q = functions_pinned (suc (length c.functions)) c.functions x.functions y.functions p.laid (shape_rest shape ds x.own_declared x.function_declared x.declared sh) (shape_rest shape es y.own_declared y.function_declared y.declared sh')
      (λ b m. to_right (blocks_of c.body) (function_blocks c.functions) m) in
      record {
        bodies = x.bodies ∙ ap₂ (λ (bs ms : List Body). bs ++ ms)
            (ap₂ (λ (z : List Variable × List ℕ) (zs : List Body). record { opener = ByMain; makes = z.0; entries = z.1 } ∷ zs) (λ z. (p.makes z, p.numbers z)) q.bodies) (q.laid).bodies ∙ sym y.bodies;
        entries = all_bare C.entries D.entries
            (subst (λ (z : List Entry). AllDoSame z (map bare D.entries)) (sym x.entries) (subst (λ (z : List Entry). AllDoSame x.last.entries z) (sym y.entries) (q.laid).entries));
      }

-- RIGHTS

blank_same : DoSame blank_entry blank_entry
blank_same = record { at = refl; priority = refl; needs = refl; act = refl; node = λ z. refl; offset = λ z. refl }

pub nth_same : (es fs : List Entry) → AllDoSame es fs → (i : ℕ) → DoSame (nth blank_entry es i) (nth blank_entry fs i)
nth_same [] [] h i = blank_same
nth_same [] (f ∷ fs) h i = absurd h
nth_same (e ∷ es) [] h i = absurd h
nth_same (e ∷ es) (f ∷ fs) h zero = h.0
nth_same (e ∷ es) (f ∷ fs) h (suc i) = nth_same es fs h.1 i

targets_node : (a : Act) (m n : ℕ) → (StoresAtNode a → m ≡ n) → targets_of m a ≡ targets_of n a
targets_node (code.Cell e) m n h = ap (λ (z : ℕ). targets_of z (code.Cell e)) (h tt)
targets_node code.Read m n h = ap (λ (z : ℕ). targets_of z code.Read) (h tt)
targets_node (code.Call b rs os) m n h = refl
targets_node (code.Set r e) m n h = refl
targets_node (code.Fill r es) m n h = refl
targets_node (code.Copy r) m n h = refl
targets_node (code.InsertElement r i e) m n h = refl
targets_node (code.Print e) m n h = refl
targets_node (code.Assert e) m n h = refl
targets_node (code.If e b d) m n h = refl
targets_node (code.Range a b s w) m n h = refl
targets_node (code.Each w) m n h = refl
targets_node (code.Wait hs b) m n h = refl

pub targets_same : (e f : Entry) → DoSame e f → targets e ≡ targets f
targets_same e f d = targets_node e.act e.node f.node d.node ∙ ap (λ (a : Act). targets_of f.node a) d.act

pub needs_same : (e f : Entry) → DoSame e f → needs_of e ≡ needs_of f
needs_same e f d = ap (λ ns. flat_map needed ns) d.needs

-- WHICH CALL A MARK TELLS

from_same : (i : ℕ) (a : Act) (m n : ℕ) (es fs : List Entry) (at : ℕ) → (OpensAtMark a → m ≡ n) → call_from (suc i) es at ≡ call_from (suc i) fs at
    → call_from i (record blank_entry { act = a; offset = m } ∷ es) at ≡ call_from i (record blank_entry { act = a; offset = n } ∷ fs) at
from_same i (code.Call b rs os) m n es fs at h r = ap₂ (λ (z y : ℕ). elim (nat_eq z at) [ true ↦ i | false ↦ y ]) (h tt) r
from_same i (code.Cell e) m n es fs at h r = r
from_same i code.Read m n es fs at h r = r
from_same i (code.Set x e) m n es fs at h r = r
from_same i (code.Fill x xs) m n es fs at h r = r
from_same i (code.Copy x) m n es fs at h r = r
from_same i (code.InsertElement x y e) m n es fs at h r = r
from_same i (code.Print e) m n es fs at h r = r
from_same i (code.Assert e) m n es fs at h r = r
from_same i (code.If e b d) m n es fs at h r = r
from_same i (code.Range a b s w) m n es fs at h r = r
from_same i (code.Each w) m n es fs at h r = r
from_same i (code.Wait hs b) m n es fs at h r = r

calls_same : (i : ℕ) (es fs : List Entry) (at : ℕ) → AllDoSame es fs → call_from i es at ≡ call_from i fs at
calls_same i [] [] at h = refl
calls_same i [] (f ∷ fs) at h = absurd h
calls_same i (e ∷ es) [] at h = absurd h
calls_same i (e ∷ es) (f ∷ fs) at h =
    ap (λ (a : Act). call_from i (record blank_entry { act = a; offset = e.offset } ∷ es) at) (h.0).act
    ∙ from_same i f.act e.offset f.offset es fs at (λ z. (h.0).offset (subst OpensAtMark (sym (h.0).act) z)) (calls_same (suc i) es fs at h.1)

module _ (C D : Code) (bodies : C.bodies ≡ D.bodies) (entries : AllDoSame C.entries D.entries) where
  pub same_at : (i : ℕ) → DoSame (entry C i) (entry D i)
  same_at = nth_same C.entries D.entries entries

  pub body_same : (b : ℕ) → body C b ≡ body D b
  body_same b = ap (λ bs. nth blank_body bs b) bodies

  pub argument_same : (at k : ℕ) (b : Bool) → argument C at k b ≡ argument D at k b
  argument_same at k b =
      ap (λ (i : ℕ). argument_in (arguments (entry C i).act) k b) (calls_same 0 C.entries D.entries at entries)
      ∙ ap (λ (a : Act). argument_in (arguments a) k b) (same_at (call_at D at)).act

  declared_back : (b : ℕ) (r : Name) → Declared D b r → Declared C b r
  declared_back b r d = record { variable = d.variable; is = d.is; made = subst (λ (x : Body). In d.variable x.makes) (sym (body_same b)) d.made }

  seen_moves : (i : ℕ) (w : Way) (b : ℕ) (r s : Name) → In {X = Way × ℕ} (w, b) (ways (entry C i).act) → Seen C (entry C i).offset w r s → Seen D (entry D i).offset w r s
  seen_moves i InPlace b r s m h = h
  seen_moves i Through b r s m h = h
  seen_moves i Calling b r s m h =
      (h.0, h.1, h.2, sym (argument_same (entry D i).offset h.0 h.1) ∙ ap (λ (z : ℕ). argument C z h.0 h.1) (sym ((same_at i).offset (calling_opens (entry C i).act b m))) ∙ h.3)
    where
      calling_opens : (a : Act) (b : ℕ) → In {X = Way × ℕ} (Calling, b) (ways a) → OpensAtMark a
      calling_opens (code.Call x rs os) b m = tt
      calling_opens (code.Cell e) b m = m
      calling_opens code.Read b m = m
      calling_opens (code.Set x e) b m = m
      calling_opens (code.Fill x xs) b m = m
      calling_opens (code.Copy x) b m = m
      calling_opens (code.InsertElement x y e) b m = m
      calling_opens (code.Print e) b m = m
      calling_opens (code.Assert e) b m = m
      calling_opens (code.If e x d) b m = tt
      calling_opens (code.Range p q s w) b m = tt
      calling_opens (code.Each w) b m = tt
      calling_opens (code.Wait hs x) b m = elim m [ inl q ↦ absurd (let z : Calling ≡ InPlace = ap (λ (y : Way × ℕ). y.0) q in cc (z)) | inr n ↦ absurd n ]

  leads_move : (own : Entry → List Name) → ((i : ℕ) → own (entry C i) ≡ own (entry D i)) → (i : ℕ) (r : Name) → Leads C own i r → Leads D own i r
  leads_move own same _ _ (itself i r m) = itself i r (subst (λ (xs : List Name). In r xs) (same i) m)
  leads_move own same _ _ (through i j b w r inner way there led out seen) =
      through i j b w r inner (subst (λ (a : Act). In {X = Way × ℕ} (w, b) (ways a)) (same_at i).act way) (subst (λ (x : Body). In j x.entries) (body_same b) there) (leads_move own same j inner led)
      (λ d. out (declared_back b inner d)) (seen_moves i w b inner r way seen)

pub same_back : (es fs : List Entry) → AllDoSame es fs → AllDoSame fs es
same_back [] [] h = tt
same_back [] (f ∷ fs) h = absurd h
same_back (e ∷ es) [] h = absurd h
same_back (e ∷ es) (f ∷ fs) h = (
  record {
    at = sym (h.0).at;
    priority = sym (h.0).priority;
    needs = sym (h.0).needs;
    act = sym (h.0).act;
    node = λ z. sym ((h.0).node (subst StoresAtNode (sym (h.0).act) z));
    offset = λ z. sym ((h.0).offset (subst OpensAtMark (sym (h.0).act) z));
  },
  same_back es fs h.1,
)

-- codes that do the same and have the rights that their entries lead to are alike
pub alike : (C D : Code) → C.bodies ≡ D.bodies → AllDoSame C.entries D.entries → HasRights C → HasRights D → AreAlike C D
alike C D bodies entries x y = record { bodies = bodies; entries = entries; rights = rights }
  where
    back : AllDoSame D.entries C.entries
    back = same_back C.entries D.entries entries

    needs_at : (i : ℕ) → needs_of (entry C i) ≡ needs_of (entry D i)
    needs_at i = needs_same (entry C i) (entry D i) (nth_same C.entries D.entries entries i)

    targets_at : (i : ℕ) → targets (entry C i) ≡ targets (entry D i)
    targets_at i = targets_same (entry C i) (entry D i) (nth_same C.entries D.entries entries i)

    rights : (i : ℕ) → HaveSameRights (entry C i) (entry D i)
    rights i = record {
      reads = λ r. (
        λ m. y.all_reads i r (leads_move C D bodies entries needs_of needs_at i r (x.reads i r m)),
        λ m. x.all_reads i r (leads_move D C (sym bodies) back needs_of (λ j. sym (needs_at j)) i r (y.reads i r m)),
      );
      writes = λ r. (
        λ m. y.all_writes i r (leads_move C D bodies entries targets targets_at i r (x.writes i r m)),
        λ m. x.all_writes i r (leads_move D C (sym bodies) back targets (λ j. sym (targets_at j)) i r (y.writes i r m)),
      );
    }
