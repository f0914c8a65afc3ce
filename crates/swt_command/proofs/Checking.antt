-- Files that are checked one after another.
use Rattle.std.proofs.Common.{◌≡◌, ◌∙◌, sym, ap, refl, inl, inr, subst, ◌⊎◌, ℕ, zero, suc, ◌+◌, ◌<◌, List, [], ◌∷◌, ◌++◌, length, get_or, arith, append-nil, append_assoc, length-append, Option, Some, None, Ok, Err}
use Rattle.std.specs.Prelude.{slice_get}
use Rattle.swt_status.specs.declared.refusal.Refusal.{Refusal}
use Rattle.swt_status.specs.Verdicts.{Verdict}
use Rattle.swt_status.specs.declared.status.Status.{Status}
use Rattle.swt_status.specs.declared.status.Status.TheVariants as Ends
use Rattle.swt_status.specs.declared.failure.CommandFailure.{CommandFailure}
use Rattle.swt_command.specs.Checks.{AreVerdicts, Checks, HasVerdict, IsSaid, Judged, StopsBy, after, check_status, verdict_line, verdict_lines}
use Rattle.swt_command.specs.Files.{Files, name_at, source_of}
use Rattle.swt_command.specs.Sinks.{Held, Took}
use Rattle.swt_command.proofs.Sinks.{took_both}

-- the name of a place
pub name_here : (names : List (List ℕ)) (place : ℕ) (d : List ℕ) → place < length names → get_or names place d ≡ name_at names place
name_here [] place d l = absurd (omega (arith, l))
name_here (name ∷ names) zero d l = refl
name_here (name ∷ names) (suc place) d l = name_here names place d (omega (arith, l))

no_lines : (names : List (List ℕ)) → verdict_lines names [] ≡ []
no_lines [] = refl
no_lines (name ∷ names) = refl

-- the lines of one verdict more
lines_next : (names : List (List ℕ)) (vs : List Verdict) (v : Verdict) → length vs < length names
    → verdict_lines names (vs ++ v ∷ []) ≡ verdict_lines names vs ++ verdict_line (name_at names (length vs)) v
lines_next [] vs v l = absurd (omega (arith, l))
lines_next (name ∷ names) [] v l = ap (λ xs. verdict_line name v ++ xs) (no_lines names) ∙ append-nil (verdict_line name v)
lines_next (name ∷ names) (u ∷ vs) v l =
    ap (λ xs. verdict_line name u ++ xs) (lines_next names vs v (omega (arith, l)))
    ∙ sym (append_assoc (verdict_line name u) (verdict_lines names vs) (verdict_line (name_at names (length vs)) v))

same_verdict : {v w : Verdict} → ◌≡◌ {A = Option Verdict} (Some v) (Some w) → v ≡ w
same_verdict h = cc

-- a member of a list with one more is one of the list, or the last
member_next : (vs : List Verdict) (v : Verdict) (place : ℕ) (w : Verdict) → slice_get (vs ++ v ∷ []) place ≡ Some w → (slice_get vs place ≡ Some w) ⊎ ((place ≡ length vs) × (v ≡ w))
member_next [] v zero w e = inr (refl, same_verdict e)
member_next [] v (suc place) w e = absurd (cc (e))
member_next (u ∷ vs) v zero w e = inl e
member_next (u ∷ vs) v (suc place) w e = elim (member_next vs v place w e) [ inl h ↦ inl h | inr h ↦ inr (ap suc h.0, h.1) ]

status_accepted : (vs : List Verdict) → check_status (vs ++ None ∷ []) ≡ check_status vs
status_accepted [] = refl
status_accepted (None ∷ vs) = status_accepted vs
status_accepted (Some r ∷ vs) = refl

status_refused : (vs : List Verdict) (r : Refusal) → check_status (vs ++ Some r ∷ []) ≡ Ends.Refused
status_refused [] r = refl
status_refused (None ∷ vs) r = status_refused vs r
status_refused (Some q ∷ vs) r = refl

-- the files before this place have their lines
pub record SoFar (names : List (List ℕ)) (files : Files) (place : ℕ) (status : Status) (out new : Held) : Type 0 where
  pub verdicts : List Verdict
  pub count : length verdicts ≡ place
  pub judged : Judged names files verdicts out new
  pub status_is : status ≡ check_status verdicts

none_judged : (names : List (List ℕ)) (files : Files) (out : Held) → Judged names files [] out out
none_judged names files out = record {
  verdicts = λ place v e. absurd (cc (e));
  printed = (sym (append-nil out.bytes) ∙ ap (λ xs. out.bytes ++ xs) (sym (no_lines names)), refl);
}

pub at_first : (names : List (List ℕ)) (files : Files) (out : Held) → SoFar names files 0 Ends.Done out out
at_first names files out = record { verdicts = []; count = refl; judged = none_judged names files out; status_is = refl }

verdicts_next : (files : Files) (vs : List Verdict) (v : Verdict) → AreVerdicts files vs → HasVerdict files (length vs) v → AreVerdicts files (vs ++ v ∷ [])
verdicts_next files vs v all last = λ place w e.
    elim (member_next vs v place w e) [ inl h ↦ all place w h | inr h ↦ subst (λ (k : ℕ). HasVerdict files k w) (sym h.0) (subst (λ (x : Verdict). HasVerdict files (length vs) x) h.1 last) ]

judged_next : (names : List (List ℕ)) (files : Files) (vs : List Verdict) (v : Verdict) (out mid new : Held) → length vs < length names → Judged names files vs out mid
    → IsSaid (name_at names (length vs)) files (length vs) v mid new → Judged names files (vs ++ v ∷ []) out new
judged_next names files vs v out mid new l j said = record {
  verdicts = verdicts_next files vs v j.verdicts said.0;
  printed = subst (λ (xs : List ℕ). Took out xs new) (sym (lines_next names vs v l))
      (took_both out mid new (verdict_lines names vs) (verdict_line (name_at names (length vs)) v) j.printed said.1);
}

status_next : (vs : List Verdict) (v : Verdict) (status : Status) → status ≡ check_status vs → after v status ≡ check_status (vs ++ v ∷ [])
status_next vs None status e = e ∙ sym (status_accepted vs)
status_next vs (Some r) status e = sym (status_refused vs r)

count_next : (vs : List Verdict) (v : Verdict) (place : ℕ) → length vs ≡ place → length (vs ++ v ∷ []) ≡ place + 1
count_next vs v place e = rw length-append (omega (arith, e))

pub at_next : (names : List (List ℕ)) (files : Files) (place : ℕ) (status : Status) (v : Verdict) (out mid new : Held) → SoFar names files place status out mid → place < length names
    → IsSaid (name_at names place) files place v mid new → SoFar names files (place + 1) (after v status) out new
at_next names files place status v out mid new s l said =
    let within : length s.verdicts < length names = omega (arith, s.count, l) in
    record {
      verdicts = s.verdicts ++ v ∷ [];
      count = count_next s.verdicts v place s.count;
      judged = judged_next names files s.verdicts v out mid new within s.judged (subst (λ (k : ℕ). IsSaid (name_at names k) files k v mid new) (sym s.count) said);
      status_is = status_next s.verdicts v status s.status_is;
    }

pub at_last : (names : List (List ℕ)) (files : Files) (place : ℕ) (status : Status) (out new : Held) → SoFar names files place status out new → place ≡ length names
    → Checks names files (Ok status) out new
at_last names files place status out new s e = (s.verdicts, s.count ∙ e, s.judged, s.status_is)

pub at_stop : (names : List (List ℕ)) (files : Files) (place : ℕ) (status : Status) (trouble : CommandFailure) (out mid new : Held) → SoFar names files place status out mid → place < length names
    → StopsBy (name_at names place) (source_of files place) trouble mid new → Checks names files (Err (record { place = place; trouble = trouble })) out new
at_stop names files place status trouble out mid new s l by = (s.verdicts, s.count, l, (mid, s.judged, by))
