-- A test that an entry has its node to itself.
use Rattle.std.proofs.Common.{◌≡◌, ℕ, zero, suc, ◌<◌, Bool, true, false, List, [], ◌∷◌, length, refl, sym, ap, subst, arith}
use Rattle.std.specs.Prelude.{◌&&◌, not, nat_eq}
use Rattle.std.specs.List.{list_all}
use Rattle.task_code.specs.Code as code
use Rattle.task_code.specs.Code.{Act, Entry, Code, entry, nth, blank_entry}
use Rattle.task_code.specs.Whole.{IsCode}
use Rattle.task_code.proofs.Equal.{nat_same}
use Rattle.code_rules.specs.NodesOnce.{TellsNode, NodesOnce}
use Rattle.std.proofs.lemmas.Bool.{and_from, and_parts}

abbrev tells : Act → Bool
tells (code.Cell e) = true
tells code.Read = true
tells (code.Call b rs os) = false
tells (code.Set r e) = true
tells (code.Fill r es) = true
tells (code.Copy r) = true
tells (code.InsertElement r i e) = true
tells (code.Print e) = true
tells (code.Assert e) = true
tells (code.If e b d) = false
tells (code.Range l h s w) = false
tells (code.Each w) = false
tells (code.Wait hs b) = false

-- two entries that tell the same node
abbrev clash : Entry → Entry → Bool
clash e f = tells e.act && (tells f.act && nat_eq e.node f.node)

abbrev pub nodes_apart : List Entry → Bool
nodes_apart [] = true
nodes_apart (e ∷ es) = list_all (λ f. not (clash e f)) es && nodes_apart es

tells_so : (a : Act) → TellsNode a → tells a ≡ true
tells_so (code.Cell e) h = refl
tells_so code.Read h = refl
tells_so (code.Call b rs os) h = absurd h
tells_so (code.Set r e) h = refl
tells_so (code.Fill r es) h = refl
tells_so (code.Copy r) h = refl
tells_so (code.InsertElement r i e) h = refl
tells_so (code.Print e) h = refl
tells_so (code.Assert e) h = refl
tells_so (code.If e b d) h = absurd h
tells_so (code.Range l h' s w) h = absurd h
tells_so (code.Each w) h = absurd h
tells_so (code.Wait hs b) h = absurd h

not_so : {A : Type 0} (b : Bool) → not b ≡ true → b ≡ true → A
not_so true h g = absurd (cc (h))
not_so false h g = absurd (cc (g))

clashes : (e f : Entry) → TellsNode e.act → TellsNode f.act → e.node ≡ f.node → clash e f ≡ true
clashes e f h g q = and_from (tells e.act) _ (tells_so e.act h) (and_from (tells f.act) _ (tells_so f.act g) (subst (λ (n : ℕ). nat_eq e.node n ≡ true) q (nat_same e.node)))

free_at : (e : Entry) (es : List Entry) (j : ℕ) → list_all (λ f. not (clash e f)) es ≡ true → j < length es → clash e (nth blank_entry es j) ≡ true → ⊥
free_at e [] j h l c = absurd (omega arith)
free_at e (f ∷ es) zero h l c = not_so (clash e f) (and_parts (not (clash e f)) _ h).0 c
free_at e (f ∷ es) (suc j) h l c = free_at e es j (and_parts (not (clash e f)) _ h).1 (omega arith) c

one_at : (es : List Entry) (i j : ℕ) → nodes_apart es ≡ true → i < length es → j < length es → TellsNode (nth blank_entry es i).act → TellsNode (nth blank_entry es j).act → (nth blank_entry es i).node ≡ (nth blank_entry es j).node → i ≡ j
one_at [] i j h l m a b q = absurd (omega arith)
one_at (e ∷ es) zero zero h l m a b q = refl
one_at (e ∷ es) zero (suc j) h l m a b q = absurd (free_at e es j (and_parts (list_all (λ f. not (clash e f)) es) _ h).0 (omega arith) (clashes e (nth blank_entry es j) a b q))
one_at (e ∷ es) (suc i) zero h l m a b q = absurd (free_at e es i (and_parts (list_all (λ f. not (clash e f)) es) _ h).0 (omega arith) (clashes e (nth blank_entry es i) b a (sym q)))
one_at (e ∷ es) (suc i) (suc j) h l m a b q = ap suc (one_at es i j (and_parts (list_all (λ f. not (clash e f)) es) _ h).1 (omega arith) (omega arith) a b q)

pub nodes_checked : (C : Code) → IsCode C → nodes_apart C.entries ≡ true → NodesOnce C
nodes_checked C I h t u i j a b f g q = one_at C.entries i j h (I.there t i a) (I.there u j b) f g q
