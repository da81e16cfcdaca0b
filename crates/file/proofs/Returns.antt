-- What the code answers, from what it found.
-- Assumes nothing.
use mathlib.Core.Path.{◌≡◌, refl, sym, ◌∙◌, ap}
use mathlib.Core.Bool.{Bool, true, false}
use Prim.Native.Nat.{ℕ}
use Rattle.std.specs.Prelude.{Result, Ok, Err}
use Rattle.laws.specs.Choice.{pick}
use Rattle.outcome_rules.specs.Values.{Outcome, day_value, pfs_values, duration_values}
use Rattle.subject.specs.declared.Subject.{Subject}
use Rattle.subject.specs.Range.{in_range}
use Rattle.outcome.specs.declared.OutcomeResult.{OutcomeResult}
use Rattle.outcome.specs.ReadingOutcome.{Reading, refused, outcome, outcome_values, pfs_held, duration_held, outcome_of, reading_of, ReadsOutcome}
use Rattle.file.specs.Verdict.{refused as stopped, accepted, starts_late, file_values}
use Rattle.file.specs.Ending.{verdict_held, EndsFile}
use Rattle.outcome.specs.declared.OutOfRange.{OutOfRange}
use Rattle.file.specs.declared.FileRefusal.{FileRefusal}

-- ---- behind the last record

-- the outcome of a reading; another where there is none
abbrev outcome_in : Outcome → Reading → Outcome
outcome_in other (refused n) = other
outcome_in other (outcome o) = o

abbrev is_read : Reading → Bool
is_read (refused n) = false
is_read (outcome o) = true

read_in_range : (s : Subject) → is_read (reading_of s) ≡ in_range s
unfolding reading_of
read_in_range s = go (in_range s)
  where
    go : (x : Bool) → is_read (pick x (outcome (outcome_of s)) (refused 12)) ≡ x
    go true = refl
    go false = refl

module _ (s : Subject) (last : ℕ) where
  pub ends_outside : (a : Result OutcomeResult FileRefusal) (o : Result OutcomeResult OutOfRange) (none : OutOfRange) → ReadsOutcome s o → o ≡ Err none → file_values a ≡ stopped 12 last → EndsFile s last a
  unfolding verdict_held
  ends_outside a o none w q e =
      let outside : in_range s ≡ false = sym (read_in_range s) ∙ ap is_read (sym w.answer) ∙ rw q in
      record { answer = e ∙ rw outside }

  module _ (o : Result OutcomeResult OutOfRange) (r : OutcomeResult) (w : ReadsOutcome s o) (q : o ≡ Ok r) (x : Bool)
      (e : x ≡ starts_late (duration_values r.duration) (day_value s.followup.counting.firstresponse) (pfs_values r.pfs)) where
    inside : in_range s ≡ true
    inside = sym (read_in_range s) ∙ ap is_read (sym w.answer) ∙ rw q

    read_outcome : outcome_values r ≡ outcome_of s
    unfolding reading_of
    read_outcome =
        let read : outcome (outcome_values r) ≡ reading_of s = rw q at w.answer in
        let whole : outcome (outcome_values r) ≡ outcome (outcome_of s) = read ∙ rw inside in
        ap (outcome_in (outcome_of s)) whole

    late_held : x ≡ starts_late (duration_held s) (day_value s.followup.counting.firstresponse) (pfs_held s)
    unfolding outcome_of
    late_held = e ∙ (λ i. starts_late (read_outcome i).duration (day_value s.followup.counting.firstresponse) (read_outcome i).pfs)

    pub ends_late : (a : Result OutcomeResult FileRefusal) → x ≡ true → file_values a ≡ stopped 14 last → EndsFile s last a
    unfolding verdict_held
    ends_late a h f = record { answer = f ∙ rw (inside, ← late_held, h) }

    pub ends_accepted : x ≡ false → EndsFile s last (Ok r)
    unfolding verdict_held
    ends_accepted h = record { answer = rw (inside, ← late_held, h) (ap accepted read_outcome) }
