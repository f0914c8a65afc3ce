-- Two live assignments of one place are one: single assignment counts them on one way.
use Rattle.std.specs.Prelude.{◌≡◌, ◌⊎◌, ℕ, zero, suc, ◌<◌, ◌≤◌, ℤ, pos, List, [], ◌∷◌, length, Option, Some, slice_get, refl}
use Rattle.std.proofs.Common.{inl, inr, sym, ap, ◌∙◌, subst, arith}
use Rattle.values.specs.declared.key.Key.{Key}
use Rattle.values.specs.declared.value.Value.{Value}
use Rattle.language.specs.Core.{Owned, local, output, Name, here, Call, Part, Outer, Awaited, Stmt, stmt, Action, declare, call_alone, assign, fill, insert, print, assert, when, choose, range, each, wait, Block, Function, Core}
use Rattle.language.specs.Facts.{Knowledge}
use Rattle.language.specs.Meaning.{Live, script, opened, waited, called, Ready, in_block}
use Rattle.language.specs.Members.{◌∈◌, first, later}
use Rattle.language.specs.Openings.{Opens, then_alone, then_first, else_second, turn, item}
use Rattle.language.specs.Parts.{block_list, script_blocks, script_stmts, stmts_among, stmts_within, blocks_of, blocks_below, stmt_calls, by_name, output_name}
use Rattle.language.specs.Places.{Path, Place, place, place_of}
use Rattle.language.specs.Single.{SinglyAssigned, Way, StmtWay, simple, IsNamed, Owns, declared_here, an_output, of_range, of_each}
use Rattle.language.specs.WellFormed.{header_blocks, Declares, Uses, own, inside, in_wait, IsHidden, IsAlone, NamesFound, CallsApart}
use Rattle.language.proofs.Blocks.{header_inner, inner_below, below_below, among, among_script, inner_block, main_block, function_block}
use Rattle.language_laws.proofs.Declared.{header_of, place_here, output_found, output_in, declared, live_block}
use Rattle.language_laws.proofs.Hinge.{Later, choice_stays}
use Rattle.language.proofs.Members.{split_in, either}
use Rattle.language_laws.proofs.Rounds.{OneAssign}
use Rattle.language_laws.proofs.Ways.{times_of, times_in, times_two, block_way, two_ways, Inside, in_when, in_then, in_else, in_content, inside_way, Reach, at_once, into, reach_way, reach_within}

-- TARGETS BY NAME

mutual
  -- a name is assigned in a block or inside it, so many steps further out as seen from this block
  data Assigns : Block → ℕ → Owned → Type 0 where
    by_one : {b : Block} {st : Stmt} {up : ℕ} {what : Owned} → st ∈ block_list b → AssignsIn st up what → Assigns b up what

  -- a name is assigned in a statement
  data AssignsIn : Stmt → ℕ → Owned → Type 0 where
    itself : {at n up : ℕ} {what : Owned} {a : Action} → record { up = up; what = what } ∈ by_name a → AssignsIn (stmt at n a) up what
    below : {at n up : ℕ} {what : Owned} {a : Action} {c : Block} → c ∈ header_blocks a → Assigns c (suc up) what → AssignsIn (stmt at n a) up what
    content : {at n up : ℕ} {what : Owned} {ns : List Awaited} {c : Block} → Assigns c up what → (Declares c what → ⊥) → AssignsIn (stmt at n (wait ns c)) up what

mutual
  uses_of : {b : Block} {up : ℕ} {what : Owned} → Assigns b up what → Uses b up what
  uses_of (by_one {st = stmt at n a} i h) = uses_in i h

  uses_in : {b : Block} {at n up : ℕ} {what : Owned} {a : Action} → stmt at n a ∈ block_list b → AssignsIn (stmt at n a) up what → Uses b up what
  uses_in i (itself m) = own i (inl m)
  uses_in i (below m h) = inside i m (uses_of h)
  uses_in i (content h d) = in_wait i (uses_of h) d

among_split : (bs : List Block) {st : Stmt} → st ∈ stmts_among bs → (b : Block) × (b ∈ bs) × (st ∈ block_list b)
among_split [] m = elim m [ ]
among_split (b ∷ bs) m = elim (either (block_list b) (stmts_among bs) m) [ inl i ↦ (b, first, i) | inr i ↦ (let r = among_split bs i in (r.0, later r.1, r.2)) ]

within_within : (b : Block) {c : Block} {st : Stmt} → c ∈ blocks_below b → st ∈ stmts_within c → st ∈ stmts_within b
within_within b {c} m i =
    let r = among_split (blocks_of c) i in
    among (blocks_of b) (elim (split_in r.1) [
      | inl e ↦ later (subst (λ (z : Block). z ∈ blocks_below b) (sym e) m)
      | inr k ↦ later (below_below b m k)
    ]) r.2

pub outwards : (b : Block) {c : Block} {what : Owned} → c ∈ blocks_below b → IsNamed what c → IsNamed what b
outwards b m h = record { st = h.st; target = h.target; there = within_within b m h.there; assigns = h.assigns; is = h.is }

mutual
  named_of : {b : Block} {up : ℕ} {what : Owned} → Assigns b up what → IsNamed what b
  named_of {b} (by_one {st = stmt at n a} i h) = named_in i h

  named_in : {b : Block} {at n up : ℕ} {what : Owned} {a : Action} → stmt at n a ∈ block_list b → AssignsIn (stmt at n a) up what → IsNamed what b
  named_in {b} {at} {n} {a = a} i (itself m) = record { st = stmt at n a; target = _; there = among (blocks_of b) first i; assigns = m; is = refl }
  named_in {b} {a = a} i (below m h) = outwards b (inner_below b i (header_inner a m)) (named_of h)
  named_in {b} i (content h d) = outwards b (inner_below b i first) (named_of h)

-- WHERE AN ASSIGNMENT STANDS

-- a block instance, a name as seen from it, and the block that owns the name in this body
record Spot : Type 0 where
  path : Path
  block : Block
  up : ℕ
  what : Owned
  owner : Block

-- one step from a block instance towards an assignment of the name
data Link (s : Core) (K : Knowledge) (x : Spot) : Spot → Type 0 where
  through_header : {at n : ℕ} {header : Action} {vs : List Value} {k : Key} {c : Block}
      → stmt at n header ∈ block_list x.block → Ready s K x.path header vs → Opens header vs k c → Assigns c (suc x.up) x.what
      → Link s K x (record { path = (at, k) ∷ x.path; block = c; up = suc x.up; what = x.what; owner = x.owner })
  through_wait : {at n : ℕ} {ns : List Awaited} {c : Block}
      → stmt at n (wait ns c) ∈ block_list x.block → Assigns c x.up x.what → (Declares c x.what → ⊥)
      → Link s K x (record { path = x.path; block = c; up = x.up; what = x.what; owner = x.owner })
  through_call : {at n j : ℕ} {p : ℤ} {ps : List Part} {c : Call} {f : Function}
      → stmt at n (call_alone p ps c) ∈ block_list x.block → slice_get c.outputs j ≡ Some (record { up = x.up; what = x.what })
      → slice_get s.functions c.function ≡ Some f → j < f.outputs
      → Link s K x (record { path = (c.at, Key.Number (pos 0)) ∷ x.path; block = f.body; up = 0; what = output j; owner = f.body })

-- where a place's assignments begin: in the block that declares it, or in the body whose call it is the output of
data Top (s : Core) (p : Place) : Spot → Type 0 where
  declared_top : {b : Block} {m : ℕ} {path : Path} → b ∈ script_blocks s → Declares b (local m) → p ≡ (path, m)
      → Top s p (record { path = path; block = b; up = 0; what = local m; owner = b })
  hidden_top : {st : Stmt} {c : Call} {f : Function} {path : Path} → st ∈ script_stmts s → c ∈ stmt_calls st → (h : IsHidden s c) → p ≡ (path, h.node)
      → slice_get s.functions c.function ≡ Some f → 0 < f.outputs
      → Top s p (record { path = (c.at, Key.Number (pos 0)) ∷ path; block = f.body; up = 0; what = output 0; owner = f.body })

data Depth : Type 0 where
  top : Depth
  under : Depth → Depth

-- the steps from there to a block instance
data Chain (s : Core) (K : Knowledge) (p : Place) : Depth → Spot → Type 0 where
  start : {x : Spot} → Top s p x → Chain s K p top x
  on : {d : Depth} {x y : Spot} → Chain s K p d x → Link s K x y → Chain s K p (under d) y

record Leads (s : Core) (K : Knowledge) (p : Place) (path : Path) (b : Block) (up : ℕ) (what : Owned) : Type 0 where
  depth : Depth
  owner : Block
  chain : Chain s K p depth (record { path = path; block = b; up = up; what = what; owner = owner })

only_name : {x : Name} {n : ℕ} {os : List Name} (j : ℕ) → os ≡ here n ∷ [] → slice_get os j ≡ Some x → j ≡ 0
only_name zero h e = refl
only_name {x} {n} (suc j) h e = let q : slice_get (here n ∷ []) (suc j) ≡ Some x = subst (λ (l : List Name). slice_get l (suc j) ≡ Some x) h e in nothing j q
  where
    nothing : {A : Type 0} (i : ℕ) → ◌≡◌ {A = Option Name} (slice_get [] i) (Some x) → A
    nothing zero e = absurd (cc (e))
    nothing (suc i) e = absurd (cc (e))

some_same : {A : Type 0} {x y : A} → ◌≡◌ {A = Option A} (Some x) (Some y) → x ≡ y
some_same h = cc

pub found_below : (xs : List Name) (j : ℕ) (x : Name) → slice_get xs j ≡ Some x → j < length xs
found_below [] zero x e = absurd (cc (e))
found_below [] (suc j) x e = absurd (cc (e))
found_below (y ∷ xs) zero x e = omega arith
found_below (y ∷ xs) (suc j) x e = let h = found_below xs j x e in omega arith

module _ (s : Core) (w : NamesFound s) (K : Knowledge) where
  own_top : (p : Place) {path : Path} {b : Block} {up : ℕ} {what : Owned} → b ∈ script_blocks s → Declares b what → up ≡ 0 → place_of s path up what ≡ p → Leads s K p path b up what
  own_top p {path} {b} {up} {what} m d z e =
      let d' : Declares b (local d.node) = subst (λ (o : Owned). Declares b o) d.is d in
      let spot : p ≡ (path, d.node) = sym e ∙ ap (λ (n : ℕ). place_of s path n what) z ∙ ap (λ (o : Owned). place_of s path 0 o) d.is ∙ place_here s path d.node in
      let c : Leads s K p path b 0 (local d.node) = record { depth = top; owner = b; chain = start (declared_top m d' spot) } in
      subst (λ (n : ℕ). Leads s K p path b n what) (sym z) (subst (λ (o : Owned). Leads s K p path b 0 o) (sym d.is) c)

  -- each live block with an assignment of the place in it is reached
  leads : (p : Place) {path : Path} {b : Block} → Live s K path b → (up : ℕ) (what : Owned) → Assigns b up what → place_of s path up what ≡ p → Leads s K p path b up what
  leads p script up what u e =
      let r = w.script_names up what (uses_of u) in own_top p (main_block s) r.1 r.0 e
  leads p {path = t ∷ path} (opened {b = b} {c = d} {at = at} {n = n} {header = a} l m r o q) (suc up) what u e =
      let c = leads p l up what (by_one m (below (header_of o) u)) e in
      record { depth = under c.depth; owner = c.owner; chain = on c.chain (through_header m r o u) }
  leads p (opened {b = b} {c = d} {at = at} {n = n} {header = a} l m r o q) zero what u e =
      let k = live_block s l in
      own_top p (inner_block s k m (header_inner a (header_of o))) (w.header_names b d at n a what k m (header_of o) (uses_of u)) refl e
  leads p {path} (waited {b = b} {c = d} {at = at} {n = n} {ns = ns} l m r) up what u e = by (declared d what) (λ x. leads p l up what (by_one m (content u x)) e)
    where
      by : (Declares d what ⊎ (Declares d what → ⊥)) → ((Declares d what → ⊥) → Leads s K p path b up what) → Leads s K p path d up what
      by (inl x) rec = let k = inner_block s (live_block s l) m first in own_top p k x (w.wait_names d up what k (uses_of u) x) e
      by (inr x) rec = let c = rec x in record { depth = under c.depth; owner = c.owner; chain = on c.chain (through_wait m u x) }
  leads p (called {path = path} {b = b} {f = f} {st = call_stmt} {c = x} l m n q d) up what u e =
      by (w.function_names x.function f up what q (uses_of u)) (λ up' what' u' e'. leads p l up' what' u' e')
    where
      here_path : Path
      here_path = (x.at, Key.Number (pos 0)) ∷ path

      by_output : (j : ℕ) → what ≡ output j → up ≡ 0 → ((up' : ℕ) (what' : Owned) → Assigns b up' what' → place_of s path up' what' ≡ p → Leads s K p path b up' what') → Leads s K p ((x.at, Key.Number (pos 0)) ∷ path) f.body up what
      by_output j ej ez rec = back (kind (w.call_kinds b call_stmt x (live_block s l) m n))
        where
          used : Uses f.body 0 (output j)
          used = subst (λ (z : ℕ). Uses f.body z (output j)) ez (subst (λ (z : Owned). Uses f.body up z) ej (uses_of u))

          out : (y : Name) × (slice_get x.outputs j ≡ Some y)
          out = w.call_outputs b call_stmt x f j (live_block s l) m n q used

          counted : length x.outputs ≡ f.outputs
          counted = w.call_count b call_stmt x f (live_block s l) m n q

          below_count : j < f.outputs
          below_count = let h = found_below x.outputs j out.0 out.1 in let c = counted in omega arith

          place_out : place_of s path out.0.up out.0.what ≡ p
          place_out =
              ap (λ (y : Name). place_of s path y.up y.what) (sym (ap (λ (o : Option Call). output_name o j) (w.call_found b call_stmt x (live_block s l) m n) ∙ output_found x.outputs j out.0 out.1))
              ∙ subst (λ (z : ℕ). place_of s ((x.at, Key.Number (pos 0)) ∷ path) z (output j) ≡ p) ez (subst (λ (z : Owned). place_of s ((x.at, Key.Number (pos 0)) ∷ path) up z ≡ p) ej e)

          back : Leads s K p ((x.at, Key.Number (pos 0)) ∷ path) f.body 0 (output j) → Leads s K p ((x.at, Key.Number (pos 0)) ∷ path) f.body up what
          back c = subst (λ (n : ℕ). Leads s K p ((x.at, Key.Number (pos 0)) ∷ path) f.body n what) (sym ez) (subst (λ (o : Owned). Leads s K p ((x.at, Key.Number (pos 0)) ∷ path) f.body 0 o) (sym ej) c)

          kind : (IsAlone call_stmt x ⊎ IsHidden s x) → Leads s K p ((x.at, Key.Number (pos 0)) ∷ path) f.body 0 (output j)
          kind (inl a) =
              let m' : stmt a.at a.node (call_alone a.priority a.parts x) ∈ block_list b = subst (λ (z : Stmt). z ∈ block_list b) a.is m in
              let c = rec out.0.up out.0.what (by_one m' (itself (output_in x.outputs j out.0 out.1))) place_out in
              record { depth = under c.depth; owner = f.body; chain = on c.chain (through_call m' out.1 q below_count) }
          kind (inr h) =
              let z : j ≡ 0 = only_name j h.is out.1 in
              let first_out : slice_get (here h.node ∷ []) 0 ≡ Some out.0 = subst (λ (l : List Name). slice_get l 0 ≡ Some out.0) h.is (subst (λ (i : ℕ). slice_get x.outputs i ≡ Some out.0) z out.1) in
              let y : here h.node ≡ out.0 = some_same first_out in
              let spot : p ≡ (path, h.node) = sym place_out ∙ ap (λ (o : Name). place_of s path o.up o.what) (sym y) ∙ place_here s path h.node in
              let c : Leads s K p ((x.at, Key.Number (pos 0)) ∷ path) f.body 0 (output 0) =
              record { depth = top; owner = f.body; chain = start (hidden_top (among_script s (live_block s l) m) n h spot q (subst (λ (i : ℕ). i < f.outputs) z below_count)) } in
              subst (λ (i : ℕ). Leads s K p ((x.at, Key.Number (pos 0)) ∷ path) f.body 0 (output i)) (sym z) c

      by : ((up ≡ 0) × (Declares f.body what ⊎ ((j : ℕ) × (what ≡ output j)))) → ((up' : ℕ) (what' : Owned) → Assigns b up' what' → place_of s path up' what' ≡ p → Leads s K p path b up' what') → Leads s K p ((x.at, Key.Number (pos 0)) ∷ path) f.body up what
      by r rec =
          elim r.1 [
            | inl dd ↦ own_top p (function_block s x.function f q) dd r.0 e
            | inr o ↦ by_output o.0 o.1 r.0 rec
          ]

-- THE COUNT

-- the owner of a name, and a block that is reached from there
record Owned_ (s : Core) (x : Spot) : Type 0 where
  owns : Owns s x.what x.owner
  reach : Reach x.owner x.block

pub function_in : (fs : List Function) (i : ℕ) (f : Function) → slice_get fs i ≡ Some f → f ∈ fs
function_in [] zero f e = absurd (cc (e))
function_in [] (suc i) f e = absurd (cc (e))
function_in (g ∷ fs) zero f e = let same : g ≡ f = cc (e) in subst (λ (z : Function). f ∈ (z ∷ fs)) (sym same) first
function_in (g ∷ fs) (suc i) f e = later (function_in fs i f e)

action_same : {at n at' n' : ℕ} {a b : Action} → stmt at n a ≡ stmt at' n' b → (at ≡ at') × (a ≡ b)
action_same h = (cc (h), cc (h))

opens_same : {a : Action} {vs : List Value} {k k' : Key} {c c' : Block} → Inside a c → Opens a vs k c → Opens a vs k' c' → (k ≡ k') × (c ≡ c')
opens_same i then_alone then_alone = (refl, refl)
opens_same i then_first then_first = (refl, refl)
opens_same i else_second else_second = (refl, refl)
opens_same i (turn e f l) (turn e' f' l') = elim i [ ]
opens_same i (item m) (item m') = elim i [ ]

opens_no_wait : {A : Type 0} {a : Action} {vs : List Value} {k : Key} {c d : Block} {ns : List Awaited} → Opens a vs k c → a ≡ wait ns d → A
opens_no_wait then_alone h = absurd (cc (h))
opens_no_wait then_first h = absurd (cc (h))
opens_no_wait else_second h = absurd (cc (h))
opens_no_wait (turn a b c) h = absurd (cc (h))
opens_no_wait (item m) h = absurd (cc (h))

opens_no_call : {A : Type 0} {a : Action} {vs : List Value} {k : Key} {b : Block} {p : ℤ} {ps : List Part} {c : Call} → Opens a vs k b → a ≡ call_alone p ps c → A
opens_no_call then_alone h = absurd (cc (h))
opens_no_call then_first h = absurd (cc (h))
opens_no_call else_second h = absurd (cc (h))
opens_no_call (turn a b c) h = absurd (cc (h))
opens_no_call (item m) h = absurd (cc (h))

opens_no_assign : {a : Action} {vs : List Value} {k : Key} {c : Block} {y : Name} {e : Outer} → Opens a vs k c → a ≡ assign y e → ⊥
opens_no_assign then_alone h = absurd (cc (h))
opens_no_assign then_first h = absurd (cc (h))
opens_no_assign else_second h = absurd (cc (h))
opens_no_assign (turn a b c) h = absurd (cc (h))
opens_no_assign (item m) h = absurd (cc (h))

wait_same : {ns ns' : List Awaited} {c c' : Block} → wait ns c ≡ wait ns' c' → c ≡ c'
wait_same h = cc

call_same : {p p' : ℤ} {ps ps' : List Part} {c c' : Call} → call_alone p ps c ≡ call_alone p' ps' c' → c ≡ c'
call_same h = cc

assign_same : {x x' : Name} {o o' : Outer} → assign x o ≡ assign x' o' → o ≡ o'
assign_same h = cc

wait_call : {A : Type 0} {ns : List Awaited} {d : Block} {p : ℤ} {ps : List Part} {c : Call} → wait ns d ≡ call_alone p ps c → A
wait_call h = absurd (cc (h))

depth_same : {d e : Depth} → under d ≡ under e → d ≡ e
depth_same h = cc

named_count : {what : Owned} {up : ℕ} (at n : ℕ) (a : Action) → record { up = up; what = what } ∈ by_name a → (m : ℕ) × StmtWay what (stmt at n a) m × (1 ≤ m)
named_count {what} at n (call_alone p ps c) m = let t = times_of what c.outputs in (t.0, simple tt t.1, times_in t.1 m refl)
named_count {what} at n (assign x e) m = let t = times_of what (x ∷ []) in (t.0, simple tt t.1, times_in t.1 m refl)
named_count {what} at n (fill x e) m = let t = times_of what (x ∷ []) in (t.0, simple tt t.1, times_in t.1 m refl)
named_count at n (declare v) m = elim m [ ]
named_count at n (insert x k e) m = elim m [ ]
named_count at n (print p e) m = elim m [ ]
named_count at n (assert p e) m = elim m [ ]
named_count at n (when c b) m = elim m [ ]
named_count at n (choose c b d) m = elim m [ ]
named_count at n (range lo hi st v k b) m = elim m [ ]
named_count at n (each x v k b) m = elim m [ ]
named_count at n (wait ns b) m = elim m [ ]

module _ (s : Core) (w : NamesFound s) (calls : CallsApart s) (single : SinglyAssigned s) where
  -- a header round an assignment of a name that it does not declare is no loop
  inside_of : {o b : Block} {what : Owned} {at n up : ℕ} {a : Action} {c : Block} → Owns s what o → Reach o b → stmt at n a ∈ block_list b → c ∈ header_blocks a → Assigns c up what → Inside a c
  inside_of {a = declare v} h r i m u = elim m [ ]
  inside_of {a = call_alone p ps c} h r i m u = elim m [ ]
  inside_of {a = assign x e} h r i m u = elim m [ ]
  inside_of {a = fill x e} h r i m u = elim m [ ]
  inside_of {a = insert x k e} h r i m u = elim m [ ]
  inside_of {a = print p e} h r i m u = elim m [ ]
  inside_of {a = assert p e} h r i m u = elim m [ ]
  inside_of {a = when x b} h r i first u = in_when
  inside_of {a = choose x b d} h r i first u = in_then
  inside_of {a = choose x b d} h r i (later first) u = in_else
  inside_of {o} {what = what} {a = range lo hi st v k b} h r i first u = absurd (single.outside_loops what o b (inl h) (of_range (reach_within r i)) (named_of u))
  inside_of {o} {what = what} {a = each x v k b} h r i first u = absurd (single.outside_loops what o b (inl h) (of_each (reach_within r i)) (named_of u))
  inside_of {a = wait ns b} h r i m u = elim m [ ]
  inside_of {a = when x b} h r i (later m) u = elim m [ ]
  inside_of {a = choose x b d} h r i (later (later m)) u = elim m [ ]
  inside_of {a = range lo hi st v k b} h r i (later m) u = elim m [ ]
  inside_of {a = each x v k b} h r i (later m) u = elim m [ ]

  mutual
    -- what is assigned counts on some way
    block_count : {o b : Block} {up : ℕ} {what : Owned} → Owns s what o → Reach o b → Assigns b up what → (m : ℕ) × Way what b m × (1 ≤ m)
    block_count {b = b} {what = what} h r (by_one i u) = let c = stmt_count h r i u in let d = block_way what b i c.1 in let l = c.2 in let k = d.2 in (d.0, d.1, omega arith)

    stmt_count : {o b : Block} {st : Stmt} {up : ℕ} {what : Owned} → Owns s what o → Reach o b → st ∈ block_list b → AssignsIn st up what → (m : ℕ) × StmtWay what st m × (1 ≤ m)
    stmt_count h r i (itself {at = at} {n = n} {a = a} m) = named_count at n a m
    stmt_count h r i (below m u) = let j = inside_of h r i m u in let c = block_count h (into r i j) u in (c.0, inside_way j c.1, c.2)
    stmt_count h r i (content u d) = let c = block_count h (into r i in_content) u in (c.0, inside_way in_content c.1, c.2)

  -- of the statements of a block, one assigns the name
  one_target : {o b : Block} {st st' : Stmt} {up up' : ℕ} {what : Owned} → Owns s what o → Reach o b → st ∈ block_list b → st' ∈ block_list b → AssignsIn st up what → AssignsIn st' up' what → st ≡ st'
  one_target {o} {b} {what = what} h r i j u v =
      let c = stmt_count h r i u in
      let d = stmt_count h r j v in
      elim (two_ways what b i j c.1 d.1) [
        | inl e ↦ e
        | inr q ↦ (let t = reach_way r q.1 in let few = single.once what o t.0 h t.1 in let a = c.2 in let b' = d.2 in let l = q.2 in let k = t.2 in absurd (omega arith))
      ]

  -- the outputs of one call are different variables
  one_output : {o b : Block} {at n up j j' : ℕ} {what : Owned} {p : ℤ} {ps : List Part} {c : Call} → Owns s what o → Reach o b → stmt at n (call_alone p ps c) ∈ block_list b
      → slice_get c.outputs j ≡ Some (record { up = up; what = what }) → slice_get c.outputs j' ≡ Some (record { up = up; what = what }) → j ≡ j'
  one_output {o} {b} {at} {n} {up} {j} {j'} {what} {p} {ps} {c} h r i e f =
      let t = times_of what c.outputs in
      elim (times_two c.outputs t.1 j j' _ _ e f refl refl) [
        | inl q ↦ q
        | inr l ↦ (let q = block_way what b i (simple {at = at} {n = n} {a = call_alone p ps c} tt t.1) in let x = reach_way r q.1 in let few = single.once what o x.0 h x.1 in let k = q.2 in let m = x.2 in absurd (omega arith))
      ]

  module _ (K : Knowledge) (here_later : Later s K K) (p : Place) where
    top_owned : {x : Spot} → Top s p x → Owned_ s x
    top_owned (declared_top {b = b} m d e) =
        let declared_it = d.there in
        record { owns = subst (λ (o : Owned). Owns s o b) (sym d.is) (declared_here m declared_it); reach = at_once }
    top_owned (hidden_top {c = c} {f = f} i m h e q l) = record { owns = an_output (function_in s.functions c.function f q) l; reach = at_once }

    link_owned : {x y : Spot} → Owned_ s x → Link s K x y → Owned_ s y
    link_owned o (through_header i r t u) = record { owns = o.owns; reach = into o.reach i (inside_of o.owns o.reach i (header_of t) u) }
    link_owned o (through_wait i u d) = record { owns = o.owns; reach = into o.reach i in_content }
    link_owned o (through_call {c = c} {f = f} i e q l) = record { owns = an_output (function_in s.functions c.function f q) l; reach = at_once }

    chain_owned : {d : Depth} {x : Spot} → Chain s K p d x → Owned_ s x
    chain_owned (start t) = top_owned t
    chain_owned (on c l) = link_owned (chain_owned c) l

    -- a step is taken through a statement that assigns the name
    record Taken (x : Spot) : Type 0 where
      st : Stmt
      there : st ∈ block_list x.block
      assigns : AssignsIn st x.up x.what
      no_assign : (at n : ℕ) (y : Name) (e : Outer) → st ≡ stmt at n (assign y e) → ⊥

    link_taken : {x y : Spot} → Link s K x y → Taken x
    link_taken (through_header {at = at} {n = n} {header = a} i r t u) = record { st = stmt at n a; there = i; assigns = below (header_of t) u; no_assign = λ at' n' y e h. opens_no_assign t (action_same h).1 }
    link_taken (through_wait {at = at} {n = n} {ns = ns} {c = c} i u d) = record { st = stmt at n (wait ns c); there = i; assigns = content u d; no_assign = λ at' n' y e h. (let q : wait ns c ≡ assign y e = (action_same h).1 in absurd (cc (q))) }
    link_taken (through_call {at = at} {n = n} {j = j} {p = pr} {ps = ps} {c = c} i e q l) = record { st = stmt at n (call_alone pr ps c); there = i; assigns = itself (output_in c.outputs j _ e); no_assign = λ at' n' y e' h. (let z : call_alone pr ps c ≡ assign y e' = (action_same h).1 in absurd (cc (z))) }

    -- two steps from one block instance are one
    link_same : {x a b : Spot} → Owned_ s x → Link s K x a → Link s K x b → a ≡ b
    link_same {x} o (through_header {at = at} {n = n} {header = h} {vs = vs} {k = k} {c = c} i r t u) (through_header {at = at'} {n = n'} {header = h'} {vs = vs'} {k = k'} {c = c'} i' r' t' u') =
        let e = action_same (one_target o.owns o.reach i i' (below (header_of t) u) (below (header_of t') u')) in
        let values : vs ≡ vs' = choice_stays s w K K here_later r (subst (λ (z : Action). Ready s K x.path z vs') (sym e.1) r') in
        let other : Opens h vs k' c' = subst (λ (z : List Value). Opens h z k' c') (sym values) (subst (λ (z : Action). Opens z vs' k' c') (sym e.1) t') in
        let q = opens_same (inside_of o.owns o.reach i (header_of t) u) t other in
        λ l. record { path = (e.0 l, q.0 l) ∷ x.path; block = q.1 l; up = suc x.up; what = x.what; owner = x.owner }
    link_same o (through_header i r t u) (through_wait i' u' d) =
        opens_no_wait t (action_same (one_target o.owns o.reach i i' (below (header_of t) u) (content u' d))).1
    link_same o (through_header i r t u) (through_call {c = c} i' e q l) =
        opens_no_call t (action_same (one_target o.owns o.reach i i' (below (header_of t) u) (itself (output_in c.outputs _ _ e)))).1
    link_same o (through_wait i' u' d) (through_header i r t u) =
        opens_no_wait t (action_same (one_target o.owns o.reach i i' (below (header_of t) u) (content u' d))).1
    link_same {x} o (through_wait i u d) (through_wait i' u' d') =
        let e = wait_same (action_same (one_target o.owns o.reach i i' (content u d) (content u' d'))).1 in
        λ l. record { path = x.path; block = e l; up = x.up; what = x.what; owner = x.owner }
    link_same o (through_wait i u d) (through_call {c = c} i' e q l) =
        wait_call (action_same (one_target o.owns o.reach i i' (content u d) (itself (output_in c.outputs _ _ e)))).1
    link_same o (through_call {c = c} i' e q l) (through_header i r t u) =
        opens_no_call t (action_same (one_target o.owns o.reach i i' (below (header_of t) u) (itself (output_in c.outputs _ _ e)))).1
    link_same o (through_call {c = c} i' e q l) (through_wait i u d) =
        wait_call (action_same (one_target o.owns o.reach i i' (content u d) (itself (output_in c.outputs _ _ e)))).1
    link_same {x} o (through_call {j = j} {c = c} {f = f} i e q l) (through_call {j = j'} {c = c'} {f = f'} i' e' q' l') =
        let same = call_same (action_same (one_target o.owns o.reach i i' (itself (output_in c.outputs _ _ e)) (itself (output_in c'.outputs _ _ e')))).1 in
        let index : j ≡ j' = one_output o.owns o.reach i e (subst (λ (z : Call). slice_get z.outputs j' ≡ Some (record { up = x.up; what = x.what })) (sym same) e') in
        let body : f ≡ f' = some_same (sym q ∙ ap (λ (z : Call). slice_get s.functions z.function) same ∙ q') in
        λ l. record { path = ((same l).at, Key.Number (pos 0)) ∷ x.path; block = (body l).body; up = 0; what = output (index l); owner = (body l).body }

    top_same : {a b : Spot} → Top s p a → Top s p b → a ≡ b
    top_same (declared_top {b = b} {m = m} {path = path} i d e) (declared_top {b = b'} {m = m'} {path = path'} i' d' e') =
        let q : ◌≡◌ {A = Place} (path, m) (path', m') = sym e ∙ e' in
        let blocks : b ≡ b' = w.one_block b b' (local m') i i' (subst (λ (z : Place). Declares b (local z.1)) q d) d' in
        λ l. record { path = (q l).0; block = blocks l; up = 0; what = local (q l).1; owner = blocks l }
    top_same (declared_top {b = b} {m = m} {path = path} i d e) (hidden_top {path = path'} i' m' h e' q l) =
        absurd (h.undeclared b i (subst (λ (z : Place). Declares b (local z.1)) (sym e ∙ e') d))
    top_same (hidden_top {path = path'} i' m' h e' q l) (declared_top {b = b} {m = m} {path = path} i d e) =
        absurd (h.undeclared b i (subst (λ (z : Place). Declares b (local z.1)) (sym e ∙ e') d))
    top_same (hidden_top {st = st} {c = c} {f = f} {path = path} i m h e q l) (hidden_top {st = st'} {c = c'} {f = f'} {path = path'} i' m' h' e' q' l') =
        let r : ◌≡◌ {A = Place} (path, h.node) (path', h'.node) = sym e ∙ e' in
        let same : c ≡ c' = calls.hidden_once st st' c c' h h' i i' m m' (ap (λ (z : Place). z.1) r) in
        let body : f ≡ f' = some_same (sym q ∙ ap (λ (z : Call). slice_get s.functions z.function) same ∙ q') in
        λ l. record { path = ((same l).at, Key.Number (pos 0)) ∷ (r l).0; block = (body l).body; up = 0; what = output 0; owner = (body l).body }

    -- as many steps lead to one block instance
    chain_same : {d e : Depth} {a b : Spot} → Chain s K p d a → Chain s K p e b → d ≡ e → a ≡ b
    chain_same (start t) (start t') h = top_same t t'
    chain_same (start t) (on c l) h = absurd (cc (h))
    chain_same (on c l) (start t) h = absurd (cc (h))
    chain_same (on {y = y} c l) (on {x = x'} {y = y'} c' l') h =
        let e = chain_same c c' (depth_same h) in
        link_same (chain_owned c') (subst (λ (z : Spot). Link s K z y) e l) l'

    data Before : Depth → Depth → Type 0 where
      right_before : {d : Depth} → Before d (under d)
      further_before : {d e : Depth} → Before d e → Before d (under e)

    before_under : {d e : Depth} → Before d e → Before (under d) (under e)
    before_under right_before = right_before
    before_under (further_before h) = further_before (before_under h)

    zero_before : (d : Depth) → Before top (under d)
    zero_before top = right_before
    zero_before (under d) = further_before (zero_before d)

    compare : (d e : Depth) → Before d e ⊎ ((d ≡ e) ⊎ Before e d)
    compare top top = inr (inl refl)
    compare top (under e) = inl (zero_before e)
    compare (under d) top = inr (inr (zero_before d))
    compare (under d) (under e) = elim (compare d e) [ inl h ↦ inl (before_under h) | inr q ↦ elim q [ inl h ↦ inr (inl (ap under h)) | inr h ↦ inr (inr (before_under h)) ] ]

    record Cut (d : Depth) : Type 0 where
      spot : Spot
      chain : Chain s K p d spot
      taken : Taken spot

    -- a longer chain takes a step where a shorter one ends
    cut : {d e : Depth} {b : Spot} → Chain s K p e b → Before d e → Cut d
    cut (on {x = x} c l) right_before = record { spot = x; chain = c; taken = link_taken l }
    cut (on c l) (further_before h) = cut c h
    cut (start t) h = elim h [ ]

    no_longer : {d e : Depth} {a b : Spot} {at n : ℕ} {o : Outer} → Chain s K p d a → stmt at n (assign (record { up = a.up; what = a.what }) o) ∈ block_list a.block → Chain s K p e b → Before d e → ⊥
    no_longer {a = a} {at = at} {n = n} {o = o} c i c' h =
        let q = cut c' h in
        let e : q.spot ≡ a = chain_same q.chain c refl in
        let k : Taken a = subst (λ (z : Spot). Taken z) e q.taken in
        let g = chain_owned c in
        k.no_assign at n (record { up = a.up; what = a.what }) o (sym (one_target g.owns g.reach i k.there (itself first) k.assigns))

  -- TWO LIVE ASSIGNMENTS OF ONE PLACE ARE ONE
  pub one_assign : (K : Knowledge) → Later s K K → OneAssign s K
  one_assign K l path path' at n at' n' x x' o o' (in_block {b = b} h i) (in_block {b = b'} h' i') e =
      let c = leads s w K (place s path x) h x.up x.what (by_one i (itself first)) refl in
      let c' = leads s w K (place s path x) h' x'.up x'.what (by_one i' (itself first)) (sym e) in
      elim (compare K l (place s path x) c.depth c'.depth) [
        | inl f ↦ absurd (no_longer K l (place s path x) c.chain i c'.chain f)
        | inr q ↦ elim q [
          | inr f ↦ absurd (no_longer K l (place s path x) c'.chain i' c.chain f)
          | inl f ↦ (let same = chain_same K l (place s path x) c.chain c'.chain f in
              let g = chain_owned K l (place s path x) c'.chain in
              let i2 : stmt at n (assign x o) ∈ block_list b' = subst (λ (z : Spot). stmt at n (assign x o) ∈ block_list z.block) same i in
              let u2 : AssignsIn (stmt at n (assign x o)) x'.up x'.what = subst (λ (z : Spot). AssignsIn (stmt at n (assign x o)) z.up z.what) same (itself first) in
              (ap (λ (z : Spot). z.path) same, assign_same (action_same (one_target g.owns g.reach i2 i' u2 (itself first))).1))
        ]
      ]
