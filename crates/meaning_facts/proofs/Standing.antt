-- A name lies, in an instance, where it denotes at the instance's path.
use Rattle.std.specs.Prelude.{◌≡◌, ℕ, zero, suc, List, [], refl}
use Rattle.std.proofs.Common.{sym, ap, ◌∙◌, subst}
use Rattle.language.specs.Core.{Owned, local, input, output, Core}
use Rattle.language.specs.Parts.{call_at, input_name, output_name}
use Rattle.language.specs.Places.{Path, place_of}
use Rattle.meaning_facts.specs.declared.facts.Place.{Place as Spot}
use Rattle.meaning_facts.specs.declared.instances.Instance.{Instance}
use Rattle.meaning_facts.specs.Store.{parent_of, inputs_of, outputs_of, outward, given_at, owner_spot}
use Rattle.meaning_facts.specs.Stands.{Stands, at_root, behind, IsPlace}

module _ (s : Core) (ns : List Instance) where
  outward_root : parent_of ns 0 ≡ 0 → (up : ℕ) → outward ns up 0 ≡ 0
  outward_root e zero = refl
  outward_root e (suc up) = ap (outward ns up) e ∙ outward_root e up

  root_spot : Stands s ns 0 [] → parent_of ns 0 ≡ 0 → inputs_of ns 0 ≡ [] → outputs_of ns 0 ≡ [] → (up : ℕ) (what : Owned) → IsPlace s ns (owner_spot ns 0 what) (place_of s [] up what)
  root_spot r e f h up (local n) = record { stands = r; node_is = refl }
  root_spot r e f h up (input j) =
      let q : owner_spot ns 0 (input j) ≡ record { instance = 0; node = 0 } = ap (λ (z : List Spot). given_at z j (parent_of ns 0)) f ∙ ap (λ (z : ℕ). record { instance = z; node = 0 }) e in
      subst (λ (z : Spot). IsPlace s ns z ([], 0)) (sym q) (record { stands = r; node_is = refl })
  root_spot r e f h up (output j) =
      let q : owner_spot ns 0 (output j) ≡ record { instance = 0; node = 0 } = ap (λ (z : List Spot). given_at z j (parent_of ns 0)) h ∙ ap (λ (z : ℕ). record { instance = z; node = 0 }) e in
      subst (λ (z : Spot). IsPlace s ns z ([], 0)) (sym q) (record { stands = r; node_is = refl })

  -- WHERE NAMES LIE
  pub lies : (i : ℕ) (path : Path) → Stands s ns i path → (up : ℕ) (what : Owned) → IsPlace s ns (owner_spot ns (outward ns up i) what) (place_of s path up what)
  lies i path (at_root e f h) up what =
      subst (λ (z : ℕ). IsPlace s ns (owner_spot ns z what) (place_of s [] up what)) (sym (outward_root e up)) (root_spot (at_root e f h) e f h up what)
  lies i path (behind {path = rest} p xs ys) (suc up) what = lies (parent_of ns i) rest p up what
  lies i path (behind p xs ys) zero (local n) = record { stands = behind p xs ys; node_is = refl }
  lies i path (behind {at = at} {path = rest} p xs ys) zero (input j) =
      let x = input_name (call_at s at) j in
      subst (λ (z : Spot). IsPlace s ns z (place_of s rest x.up x.what)) (sym (xs j)) (lies (parent_of ns i) rest p x.up x.what)
  lies i path (behind {at = at} {path = rest} p xs ys) zero (output j) =
      let x = output_name (call_at s at) j in
      subst (λ (z : Spot). IsPlace s ns z (place_of s rest x.up x.what)) (sym (ys j)) (lies (parent_of ns i) rest p x.up x.what)
