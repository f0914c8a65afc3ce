-- What there is of a body that there is not.
use Rattle.std.proofs.Common.{◌≡◌, refl, sym, ap, ℕ, zero, suc, ◌≤◌, List, [], ◌∷◌, length, arith}
use Rattle.std.specs.Prelude.{not}
use Rattle.std.specs.List.{filter, flat_map}
use Rattle.task_code.specs.Check.{is_declared}
use Rattle.board_history.specs.Ending.{held_times}
use Rattle.board_history.specs.Static.{counted_names, names_in, outer_holds}
use Rattle.board_history.specs.Fields.{Slot}
use Rattle.task_code.specs.Code.{Body, Code, Entry, Name, blank_body, blank_entry, body, entry, nth}
use Rattle.board_program.specs.Tables.{at_name, own_from, spots_in}
use Rattle.board_program.specs.declared.lexical_address.LexicalAddress.{LexicalAddress}
use Rattle.board_changes.specs.Opened.{own_of}

past : {X : Type 0} (d : X) (xs : List X) (n : ℕ) → length xs ≤ n → nth d xs n ≡ d
past d [] n h = refl
past d (x ∷ xs) zero h = absurd (omega (arith, h))
past d (x ∷ xs) (suc n) h = past d xs n (omega (arith, h))

module _ (C : Code) (b : ℕ) (h : length C.bodies ≤ b) where
  none : body C b ≡ blank_body
  none = past blank_body C.bodies b h

  pub no_entries : [] ≡ (body C b).entries
  no_entries = sym (ap (λ (x : Body). x.entries) none)

  pub no_own : [] ≡ own_of C b
  no_own = sym (ap (λ (x : Body). own_from x.makes (names_in C (λ e. e.reads) b) (names_in C (λ e. e.writes) b) 0 x.makes) none)

  no_names : (rights : Entry → List Name) → names_in C rights b ≡ []
  no_names rights = ap (λ (x : Body). flat_map (λ j. rights (entry C j)) x.entries) none

  pub no_outer : (rights : Entry → List Name) (f : LexicalAddress → Slot) (d : ℕ) → 0 ≡ held_times (at_name C b f) d (outer_holds C rights b)
  no_outer rights f d = sym (ap (λ (rs : List Name). held_times (at_name C b f) d (counted_names (filter (λ r. not (is_declared C b r)) rs))) (no_names rights))

-- an entry that there is not has no rights
module _ (C : Code) (i : ℕ) (h : length C.entries ≤ i) where
  blank : entry C i ≡ blank_entry
  blank = past blank_entry C.entries i h

  pub no_reads : (b : ℕ) → [] ≡ spots_in C b (entry C i).reads
  no_reads b = sym (ap (λ (e : Entry). spots_in C b e.reads) blank)

  pub no_writes : (b : ℕ) → [] ≡ spots_in C b (entry C i).writes
  no_writes b = sym (ap (λ (e : Entry). spots_in C b e.writes) blank)
