-- Each call of an accepted script has an offset of its own.
use Rattle.std.proofs.Common.{◌≡◌, inl, inr, ℕ, Bool, true, false, List, [], ◌∷◌, map, subst}
use Rattle.std.specs.Prelude.{not}
use Rattle.std.proofs.lemmas.Bool.{and_parts}
use Rattle.dataflow.specs.System.{In, Distinct}
use Rattle.language.specs.Core.{Call}
use Rattle.language.specs.Members.{◌∈◌, first, later}
use Rattle.language.specs.Parts.{calls_among, script_stmts}
use Rattle.language_accepted.specs.Placed.{IsPlaced}
use Rattle.language.specs.Resolved.{core}
use Rattle.language.specs.Table.{Table}
use Rattle.language.specs.Tree.{Tree}
use Rattle.language.proofs.Tested.{flat, has_in}
use Rattle.language.specs.Distinct.{distinct, has}
use Rattle.language_laws.proofs.TestedNames.{offset}
use Rattle.language_laws.proofs.TreeOffsets.{offsets_once}
use Rattle.code_rules.specs.Emitted.{CallsOnce}

lacks : (b : Bool) → not b ≡ true → b ≡ true → ⊥
lacks true h k = absurd (cc (h))
lacks false h k = absurd (cc (k))

in_flat : (n : ℕ) (cs : List Call) → In n (map (λ (c : Call). c.at) cs) → n ∈ flat offset cs
in_flat n [] h = absurd h
in_flat n (c ∷ cs) (inl e) = subst (λ (z : ℕ). n ∈ (z ∷ flat offset cs)) e first
in_flat n (c ∷ cs) (inr h) = later (in_flat n cs h)

apart_offsets : (cs : List Call) → distinct (flat offset cs) ≡ true → Distinct (map (λ (c : Call). c.at) cs)
apart_offsets [] h = tt
apart_offsets (c ∷ cs) h =
    let p = and_parts (not (has c.at (flat offset cs))) (distinct (flat offset cs)) h in
    (λ i. lacks (has c.at (flat offset cs)) p.0 (has_in (in_flat c.at cs i)), apart_offsets cs p.1)

pub accepted_calls : (t : Table) (tree : Tree) → IsPlaced tree → CallsOnce (core t tree)
accepted_calls t tree p = apart_offsets (calls_among (script_stmts (core t tree))) (offsets_once t tree p.apart)
