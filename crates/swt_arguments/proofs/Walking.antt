-- The walk over words each of which is plain.
use Rattle.std.proofs.Common.{◌≤◌, ◌+◌, length, ◌≡◌, ◌∙◌, arith, ℕ, Bool, true, false, refl, sym, ap, List, [], ◌∷◌, ◌++◌, Option, Some, None, append-nil, append_assoc, true≢false, inl, inr}
use Rattle.std.specs.Prelude.{◌&&◌, ◌⊎◌, not, fold, codes, bytes_eq}
use Rattle.std.proofs.lemmas.Bool.{and_parts}
use Rattle.std.specs.List.{list_all}
use Rattle.std.proofs.lemmas.Slice.Eq.{bytes_eq-Decides}
use Rattle.clap.specs.Words.{Row, Text}
use Rattle.clap.specs.Simple.{Shape}
use Rattle.clap.specs.Walk.{Held, Walk, Waiting, idle, option, positional, settled_rows, settled, subcommand_met, walked, is_pending, with_values, has_row}
use Rattle.clap.specs.Faults.{settle_fault, turn_fault, walk_fault}
use Rattle.clap.specs.Kinds.{Kinds, or_else}
use Rattle.clap.specs.declared.error.kind.ErrorKind.TheVariants as kind
use Rattle.clap.specs.declared.builder.value_parser.Reading.TheVariants.{AsWritten}
use Rattle.clap.specs.declared.parser.matches.ValueSource.TheVariants.{CommandLine}
use Rattle.swt_arguments.specs.declared.command.Command.{Command}
use Rattle.swt_arguments.specs.Commands.{has_option}
use Rattle.swt_arguments.specs.Words.{marked, well_formed, files_in, values_of}
use Rattle.swt_arguments.specs.Reader.{is_name, is_plain}
use Rattle.swt_arguments.proofs.Arguments.{same, file_arg, option_word, unmarked, marked_name, named_word, IsReader, and_false}
use Rattle.swt_arguments.proofs.Rows.{kept, kept_same, kept_other, without_none, row_same, row_other, tally, tally_most}

-- ---- the walk, word by word

abbrev pub Pending : Type 0
Pending = Option (Text × List Text)

abbrev pub holding : List Row → Pending → Held
holding rows pending = record { rows = rows; pending = pending; skip = 0 }

abbrev pub standing : List Row → Pending → Waiting → Walk
standing rows pending waiting = record {
  held = holding rows pending;
  waiting = waiting;
  position = 1;
  is_trailing = false;
  stopped = None;
}

no_subcommand : (waiting : Waiting) (w : Text) → subcommand_met [] waiting w ≡ None
no_subcommand idle w = refl
no_subcommand (option id) w = refl
no_subcommand positional w = refl

-- no option waits for its value
abbrev pub awaits_none : Waiting → Bool
awaits_none idle = true
awaits_none positional = true
awaits_none (option id) = false

pub or_else_nil : (a : Kinds) → or_else a [] ≡ a
or_else_nil [] = refl
or_else_nil (k ∷ ks) = refl

module _ (c : Command) (s : Shape) (r : IsReader c s) where
  option_walked : (rows : List Row) (pending : Pending) (waiting : Waiting) (w : Text) → has_option c w ≡ true
      → walked s.rules [] (standing rows pending waiting) w ≡ standing (settled_rows s.rules pending rows) (Some (w, [])) (option w)
  unfolding walked
  option_walked rows pending waiting w is =
      let word = option_word c w is in
      rw (no_subcommand waiting w, word.no_end, word.long, r.long w is) refl

  option_turn : (rows : List Row) (pending : Pending) (waiting : Waiting) (w : Text) → has_option c w ≡ true
      → turn_fault s [] (standing rows pending waiting) w ≡ settle_fault s.rules s.args_override_self (holding rows pending)
  option_turn rows pending waiting w is =
      let word = option_word c w is in
      rw (no_subcommand waiting w, word.no_end, word.long, r.long w is) (or_else_nil _)

  value_walked : (rows : List Row) (o w : Text) → has_option c o ≡ true → marked w ≡ false
      → walked s.rules [] (standing rows (Some (o, [])) (option o)) w ≡ standing rows (Some (o, w ∷ [])) idle
  unfolding walked
  value_walked rows o w is not_marked =
      let plain = unmarked w not_marked in
      let own : bytes_eq o o ≡ true = (bytes_eq-Decides o o).1 refl in
      rw (plain.2, plain.0, plain.1, r.id o is, own) refl

  value_turn : (rows : List Row) (o w : Text) → has_option c o ≡ true → marked w ≡ false
      → turn_fault s [] (standing rows (Some (o, [])) (option o)) w ≡ []
  value_turn rows o w is not_marked =
      let plain = unmarked w not_marked in
      rw (plain.2, plain.0, plain.1) refl

  file_walked : (rows : List Row) (pending : Pending) (waiting : Waiting) (w : Text) → awaits_none waiting ≡ true → marked w ≡ false
      → walked s.rules [] (standing rows pending waiting) w ≡ standing (settled_rows s.rules pending rows) (Some (codes "FILE", w ∷ [])) positional
  unfolding walked
  file_walked rows pending (option id) w at not_marked = absurd (true≢false (sym at))
  file_walked rows pending idle w at not_marked =
      let plain = unmarked w not_marked in
      rw (plain.2, plain.0, plain.1, r.file_at, and_false (is_pending file_arg pending)) refl
  file_walked rows pending positional w at not_marked =
      let plain = unmarked w not_marked in
      rw (plain.2, plain.0, plain.1, r.file_at, and_false (is_pending file_arg pending)) refl

  file_turn : (rows : List Row) (pending : Pending) (waiting : Waiting) (w : Text) → awaits_none waiting ≡ true → marked w ≡ false
      → turn_fault s [] (standing rows pending waiting) w ≡ settle_fault s.rules s.args_override_self (holding rows pending)
  file_turn rows pending (option id) w at not_marked = absurd (true≢false (sym at))
  file_turn rows pending idle w at not_marked =
      let plain = unmarked w not_marked in
      rw (plain.2, plain.0, plain.1, r.file_at, and_false (is_pending file_arg pending)) refl
  file_turn rows pending positional w at not_marked =
      let plain = unmarked w not_marked in
      rw (plain.2, plain.0, plain.1, r.file_at, and_false (is_pending file_arg pending)) refl

  -- an option with no value cannot be used, and an argument with one can
  bare_fault : (rows : List Row) (o : Text) → has_option c o ≡ true
      → settle_fault s.rules s.args_override_self (holding rows (Some (o, []))) ≡ kind.InvalidValue ∷ []
  bare_fault rows o is = rw (r.id o is) refl

  option_settles : (rows : List Row) (o v : Text) → has_option c o ≡ true → has_row o rows ≡ false
      → settle_fault s.rules s.args_override_self (holding rows (Some (o, v ∷ []))) ≡ []
  option_settles rows o v is fresh = rw (r.id o is, fresh) refl

  -- and one that was used before cannot
  option_again : (rows : List Row) (o v : Text) → has_option c o ≡ true → has_row o rows ≡ true
      → settle_fault s.rules s.args_override_self (holding rows (Some (o, v ∷ []))) ≡ kind.ArgumentConflict ∷ []
  option_again rows o v is used = rw (r.id o is, used, r.once) refl

  file_settles : (rows : List Row) (v : Text) → settle_fault s.rules s.args_override_self (holding rows (Some (codes "FILE", v ∷ []))) ≡ []
  file_settles rows v = rw r.file_id refl

  option_rows : (rows : List Row) (o v : Text) → has_option c o ≡ true → has_row o rows ≡ false
      → settled_rows s.rules (Some (o, v ∷ [])) rows ≡ with_values o AsWritten CommandLine (v ∷ []) rows
  option_rows rows o v is fresh = rw (r.id o is) (ap (with_values o AsWritten CommandLine (v ∷ [])) (without_none o rows fresh))

  file_rows : (rows : List Row) (v : Text)
      → settled_rows s.rules (Some (codes "FILE", v ∷ [])) rows ≡ with_values (codes "FILE") AsWritten CommandLine (v ∷ []) rows
  file_rows rows v = rw r.file_id refl

  -- ---- the walk over all words

  -- a walk that ends well, with these files and values of each option, and no option used twice
  pub record Ends (faults : Kinds) (end : Walk) (fine : Bool) (f : List Text) (v : Text → List Text) (n : Text → ℕ) : Type 0 where
    pub is_fine : fine ≡ true
    pub clean : faults ≡ []
    pub settles : settle_fault s.rules s.args_override_self end.held ≡ []
    pub files : kept (codes "FILE") (settled s.rules end.held).rows ≡ f
    pub values : (o : Text) → has_option c o ≡ true → kept o (settled s.rules end.held).rows ≡ v o
    pub once : (o : Text) → has_option c o ≡ true → n o ≤ 1

  abbrev pub Twice : (Text → ℕ) → Type 0
  Twice n = (o : Text) × (has_option c o ≡ true) × (2 ≤ n o)

  -- one that is refused where the words are not well formed, or an option is used twice
  pub record Fails (faults : Kinds) (end : Walk) (fine : Bool) (n : Text → ℕ) : Type 0 where
    pub not_fine : (fine ≡ false) ⊎ Twice n
    pub fault : or_else faults (settle_fault s.rules s.args_override_self end.held) ≡ [] → ⊥

  abbrev pub Comes : Kinds → Walk → Bool → List Text → (Text → List Text) → (Text → ℕ) → Type 0
  Comes faults end fine f v n = Fails faults end fine n ⊎ Ends faults end fine f v n

  still_not : (fine fine2 : Bool) (n n2 : Text → ℕ) → fine ≡ fine2 → ((o : Text) → has_option c o ≡ true → n o ≡ n2 o)
      → (fine ≡ false) ⊎ Twice n → (fine2 ≡ false) ⊎ Twice n2
  still_not fine fine2 n n2 d g (inl h) = inl (sym d ∙ h)
  still_not fine fine2 n n2 d g (inr h) = inr (h.0, h.1, rw (← g h.0 h.1) h.2)

  comes_as : (faults faults2 : Kinds) (end end2 : Walk) (fine fine2 : Bool) (f f2 : List Text) (v v2 : Text → List Text) (n n2 : Text → ℕ)
      → faults ≡ faults2 → end ≡ end2 → fine ≡ fine2 → f ≡ f2 → ((o : Text) → has_option c o ≡ true → v o ≡ v2 o)
      → ((o : Text) → has_option c o ≡ true → n o ≡ n2 o) → Comes faults end fine f v n → Comes faults2 end2 fine2 f2 v2 n2
  comes_as faults faults2 end end2 fine fine2 f f2 v v2 n n2 a b d e g k (inl bad) =
      inl (record { not_fine = still_not fine fine2 n n2 d k bad.not_fine; fault = λ h. bad.fault (rw (a, b) h) })
  comes_as faults faults2 end end2 fine fine2 f f2 v v2 n n2 a b d e g k (inr good) = inr (record {
    is_fine = sym d ∙ good.is_fine;
    clean = sym a ∙ good.clean;
    settles = rw (← b) good.settles;
    files = rw (← b) good.files ∙ e;
    values = λ o is. rw (← b) (good.values o is) ∙ g o is;
    once = λ o is. rw (← k o is) (good.once o is);
  })

  next_fault : (at after : Walk) (w : Text) (ws : List Text) → walked s.rules [] at w ≡ after → turn_fault s [] at w ≡ []
      → walk_fault s [] after ws ≡ walk_fault s [] at (w ∷ ws)
  unfolding walk_fault
  next_fault at after w ws e t = rw (t, e) refl

  next_end : (at after : Walk) (w : Text) (ws : List Text) → walked s.rules [] at w ≡ after → fold (walked s.rules []) after ws ≡ fold (walked s.rules []) at (w ∷ ws)
  next_end at after w ws e = ap (λ x. fold (walked s.rules []) x ws) (sym e)

  -- the walk from where no option waits for its value
  abbrev pub FromFree : List Text → Type 0
  FromFree ws = (rows : List Row) (pending : Pending) (waiting : Waiting) → awaits_none waiting ≡ true
      → settle_fault s.rules s.args_override_self (holding rows pending) ≡ []
      → Comes (walk_fault s [] (standing rows pending waiting) ws) (fold (walked s.rules []) (standing rows pending waiting) ws) (well_formed c false ws)
      (kept (codes "FILE") (settled_rows s.rules pending rows) ++ files_in false ws) (λ o. kept o (settled_rows s.rules pending rows) ++ values_of o false ws)
      (λ o. tally o (settled_rows s.rules pending rows) + length (values_of o false ws))

  -- the walk from right behind the option o
  abbrev pub FromOption : List Text → Type 0
  FromOption ws = (rows : List Row) (o : Text) → has_option c o ≡ true
      → Comes (walk_fault s [] (standing rows (Some (o, [])) (option o)) ws) (fold (walked s.rules []) (standing rows (Some (o, [])) (option o)) ws) (well_formed c true ws)
      (kept (codes "FILE") rows ++ files_in true ws) (λ p. kept p rows ++ values_of p (bytes_eq o p) ws) (λ p. tally p rows + length (values_of p (bytes_eq o p) ws))

  no_option : (w o : Text) → marked w ≡ false → has_option c o ≡ true → bytes_eq w o ≡ false
  no_option w o m is = go (bytes_eq w o) refl
    where
      go : (b : Bool) → bytes_eq w o ≡ b → b ≡ false
      go false e = refl
      go true e = absurd (true≢false (sym (option_word c o is).is_marked ∙ (sym (ap marked (same w o e)) ∙ m)))

  free_option : (w : Text) (ws : List Text) → marked w ≡ true → has_option c w ≡ true → FromOption ws → FromFree (w ∷ ws)
  free_option w ws m is more rows pending waiting at fits =
      let rest = settled_rows s.rules pending rows in
      let step = option_walked rows pending waiting w is in
      comes_as _ _ _ _ _ _ _ _ _ _ _ _
      (next_fault (standing rows pending waiting) _ w ws step (option_turn rows pending waiting w is ∙ fits))
      (next_end (standing rows pending waiting) _ w ws step)
      (rw (m, is) refl) (rw m refl) (λ o own. refl) (λ o own. refl) (more rest w is)

  free_file : (w : Text) (ws : List Text) → marked w ≡ false → FromFree ws → FromFree (w ∷ ws)
  free_file w ws m more rows pending waiting at fits =
      let rest = settled_rows s.rules pending rows in
      let step = file_walked rows pending waiting w at m in
      comes_as _ _ _ _ _ _ _ _ _ _ _ _
      (next_fault (standing rows pending waiting) _ w ws step (file_turn rows pending waiting w at m ∙ fits))
      (next_end (standing rows pending waiting) _ w ws step)
      (rw m refl)
      (rw (file_rows rest w, kept_same (codes "FILE") (w ∷ []) rest, m) (append_assoc (kept (codes "FILE") rest) (w ∷ []) (files_in false ws)))
      (λ o own. rw (file_rows rest w, kept_other o (codes "FILE") (w ∷ []) rest (option_word c o own).file_not, no_option w o m own) refl)
      (λ o own. rw (file_rows rest w, row_other o (codes "FILE") (w ∷ []) rest (option_word c o own).file_not, no_option w o m own) refl)
      (more rest (Some (codes "FILE", w ∷ [])) positional refl (file_settles rest w))

  option_option : (w : Text) (ws : List Text) → marked w ≡ true → has_option c w ≡ true → FromOption (w ∷ ws)
  unfolding walk_fault
  option_option w ws m own rows o is = inl (record {
    not_fine = inl (rw m refl);
    fault = λ h.
        let turn : turn_fault s [] (standing rows (Some (o, [])) (option o)) w ≡ kind.InvalidValue ∷ [] =
        option_turn rows (Some (o, [])) (option o) w own ∙ bare_fault rows o is in
        let bad = rw turn at h in cc;
  })

  value_kept : (rows : List Row) (o p w : Text) (ws : List Text) → marked w ≡ false → has_option c p ≡ true
      → kept p (with_values o AsWritten CommandLine (w ∷ []) rows) ++ values_of p false ws ≡ kept p rows ++ values_of p (bytes_eq o p) (w ∷ ws)
  value_kept rows o p w ws m own = go (bytes_eq o p) refl
    where
      go : (b : Bool) → bytes_eq o p ≡ b
          → kept p (with_values o AsWritten CommandLine (w ∷ []) rows) ++ values_of p false ws ≡ kept p rows ++ values_of p (bytes_eq o p) (w ∷ ws)
      go true e =
          let self : bytes_eq p p ≡ true = (bytes_eq-Decides p p).1 refl in
          rw (same o p e, kept_same p (w ∷ []) rows, self, no_option w p m own) (append_assoc (kept p rows) (w ∷ []) (values_of p false ws))
      go false e = rw (kept_other p o (w ∷ []) rows e, e, no_option w p m own) refl

  -- a name of no option is refused, wherever it stands
  unknown_turn : (rows : List Row) (pending : Pending) (waiting : Waiting) (w : Text) → marked w ≡ true → is_name w ≡ true → has_option c w ≡ false
      → turn_fault s [] (standing rows pending waiting) w ≡ kind.UnknownArgument ∷ []
  unknown_turn rows pending waiting w m named is =
      let name = named_word w named in
      rw (no_subcommand waiting w, name.1, name.0, r.unknown w named is) refl

  unknown_fails : (rows : List Row) (pending : Pending) (waiting : Waiting) (behind : Bool) (w : Text) (ws : List Text) (n : Text → ℕ)
      → marked w ≡ true → is_name w ≡ true → has_option c w ≡ false
      → Fails (walk_fault s [] (standing rows pending waiting) (w ∷ ws)) (fold (walked s.rules []) (standing rows pending waiting) (w ∷ ws)) (well_formed c behind (w ∷ ws)) n
  unfolding walk_fault
  unknown_fails rows pending waiting behind w ws n m named is = record {
    not_fine = inl (rw (m, is) (none_well behind));
    fault = λ h. let bad = rw (unknown_turn rows pending waiting w m named is) at h in cc;
  }
    where
      none_well : (b : Bool) → (not b && false && well_formed c true ws) ≡ false
      none_well true = refl
      none_well false = refl

  uses_kept : (rows : List Row) (o p w : Text) (ws : List Text) → marked w ≡ false → has_option c p ≡ true → has_row o rows ≡ false
      → tally p (with_values o AsWritten CommandLine (w ∷ []) rows) + length (values_of p false ws) ≡ tally p rows + length (values_of p (bytes_eq o p) (w ∷ ws))
  uses_kept rows o p w ws m own fresh = go (bytes_eq o p) refl
    where
      go : (b : Bool) → bytes_eq o p ≡ b
          → tally p (with_values o AsWritten CommandLine (w ∷ []) rows) + length (values_of p false ws) ≡ tally p rows + length (values_of p (bytes_eq o p) (w ∷ ws))
      go true e =
          let self : bytes_eq p p ≡ true = (bytes_eq-Decides p p).1 refl in
          let unused : has_row p rows ≡ false = rw (← same o p e) fresh in
          rw (same o p e, row_same p (w ∷ []) rows, self, no_option w p m own, unused) (omega arith)
      go false e = rw (row_other p o (w ∷ []) rows e, e, no_option w p m own) refl

  -- where an option was used twice the walk fails, whatever follows
  doomed : (rows : List Row) (o w : Text) (ws : List Text) → has_option c o ≡ true → has_row o rows ≡ true → list_all is_plain ws ≡ true
      → or_else (walk_fault s [] (standing rows (Some (o, w ∷ [])) idle) ws)
      (settle_fault s.rules s.args_override_self (fold (walked s.rules []) (standing rows (Some (o, w ∷ [])) idle) ws).held) ≡ [] → ⊥
  unfolding walk_fault
  doomed rows o w [] is used k h = let bad = rw (option_again rows o w is used) at h in cc
  doomed rows o w (x ∷ xs) is used k h = go (marked x) (has_option c x) refl refl
    where
      go : (b t : Bool) → marked x ≡ b → has_option c x ≡ t → ⊥
      go true true m own =
          let turn = option_turn rows (Some (o, w ∷ [])) idle x own ∙ option_again rows o w is used in
          let bad = rw turn at h in cc
      go true false m own =
          let turn = unknown_turn rows (Some (o, w ∷ [])) idle x m (marked_name x m (and_parts _ _ k).0) own in
          let bad = rw turn at h in cc
      go false t m own =
          let turn = file_turn rows (Some (o, w ∷ [])) idle x refl m ∙ option_again rows o w is used in
          let bad = rw turn at h in cc

  twice_used : (rows : List Row) (o w : Text) (ws : List Text) → has_row o rows ≡ true → 2 ≤ tally o rows + length (values_of o (bytes_eq o o) (w ∷ ws))
  twice_used rows o w ws used =
      let own : bytes_eq o o ≡ true = (bytes_eq-Decides o o).1 refl in
      rw (used, own) (omega arith)

  option_value : (w : Text) (ws : List Text) → marked w ≡ false → list_all is_plain ws ≡ true → FromFree ws → FromOption (w ∷ ws)
  option_value w ws m k more rows o is = go (has_row o rows) refl
    where
      go : (b : Bool) → has_row o rows ≡ b
          → Comes (walk_fault s [] (standing rows (Some (o, [])) (option o)) (w ∷ ws)) (fold (walked s.rules []) (standing rows (Some (o, [])) (option o)) (w ∷ ws))
          (well_formed c true (w ∷ ws)) (kept (codes "FILE") rows ++ files_in true (w ∷ ws)) (λ p. kept p rows ++ values_of p (bytes_eq o p) (w ∷ ws))
          (λ p. tally p rows + length (values_of p (bytes_eq o p) (w ∷ ws)))
      go false fresh =
          let step = value_walked rows o w is m in
          comes_as _ _ _ _ _ _ _ _ _ _ _ _
          (next_fault (standing rows (Some (o, [])) (option o)) _ w ws step (value_turn rows o w is m))
          (next_end (standing rows (Some (o, [])) (option o)) _ w ws step)
          (rw m refl)
          (rw (option_rows rows o w is fresh, kept_other (codes "FILE") o (w ∷ []) rows (option_word c o is).no_file, m) refl)
          (λ p own. rw (option_rows rows o w is fresh) (value_kept rows o p w ws m own))
          (λ p own. rw (option_rows rows o w is fresh) (uses_kept rows o p w ws m own fresh))
          (more rows (Some (o, w ∷ [])) idle refl (option_settles rows o w is fresh))
      go true used =
          let step = value_walked rows o w is m in
          inl (record {
            not_fine = inr (o, is, twice_used rows o w ws used);
            fault = λ h. doomed rows o w ws is used k
                (rw (next_fault (standing rows (Some (o, [])) (option o)) _ w ws step (value_turn rows o w is m), next_end (standing rows (Some (o, [])) (option o)) _ w ws step) h);
          })

  pub from_both : (ws : List Text) → list_all is_plain ws ≡ true → FromFree ws × FromOption ws
  unfolding walk_fault
  from_both [] k = (
    λ rows pending waiting at fits. inr (record {
      is_fine = refl;
      clean = refl;
      settles = fits;
      files = sym (append-nil _);
      values = λ o own. sym (append-nil _);
      once = λ o own. omega (arith, tally_most o (settled_rows s.rules pending rows));
    }),
    λ rows o is. inl (record {
      not_fine = inl refl;
      fault = λ h. let bad = rw (bare_fault rows o is) at h in cc;
    }),
  )
  from_both (w ∷ ws) k = go (marked w) (has_option c w) refl refl (from_both ws (and_parts _ _ k).1)
    where
      go : (b t : Bool) → marked w ≡ b → has_option c w ≡ t → FromFree ws × FromOption ws → FromFree (w ∷ ws) × FromOption (w ∷ ws)
      go true true m is more = (free_option w ws m is more.1, option_option w ws m is)
      go true false m is more =
          let named : is_name w ≡ true = marked_name w m (and_parts _ _ k).0 in (
            λ rows pending waiting at fits. inl (unknown_fails rows pending waiting false w ws _ m named is),
            λ rows o own. inl (unknown_fails rows (Some (o, [])) (option o) true w ws _ m named is),
          )
      go false t m is more = (free_file w ws m more.0, option_value w ws m (and_parts _ _ k).1 more.0)
