-- Every opening, reading and list of calls runs: whatever the promises say, some answer says it.
-- Assumes nothing.
use mathlib.Core.Path.{◌≡◌, refl, ap}
use mathlib.Core.Bool.{Bool, true, false}
use mathlib.Core.List.{List, [], ◌∷◌}
use Rattle.std.specs.Prelude.{Result, Ok, Err, Some, None}
use Rattle.laws.specs.Refusals.{◌when◌, Each}
use Rattle.laws.proofs.SomeCase.{Some as SomeCase}
use Rattle.laws.proofs.FirstRefusal.{among, each_append}
use Rattle.records.specs.declared.OwnRefusal.TheVariants as W
use Rattle.records.specs.declared.Record.{Record}
use Rattle.records.specs.Entries.{Five}
use Rattle.records.specs.Refusals.{refusals_of_record}
use Rattle.records.proofs.NoOwnRefusal.{each_own}
use Rattle.records.specs.Forms.{new_unit}
use Rattle.outcome_rules.specs.declared.PfsStatus.TheVariants as P
use Rattle.outcome_rules.specs.Values.{PfsWord, EVENT, CENSORED, Duration, no_duration, for_days, pfs_status_word, duration_values}
use Rattle.outcome_rules.specs.Adding.{not_baseline, refusals_of_opening, Call, add, read}
use Rattle.subject.specs.declared.Subject.{Subject}
use Rattle.subject.specs.declared.OpenRefusal.{OpenRefusal}
use Rattle.subject.specs.declared.OpenRefusal.TheVariants as N
use Rattle.subject.specs.Opening.{open_number, opened_subject, Opens}
use Rattle.subject.specs.Range.{in_range}
use Rattle.adding.specs.Promises.{subject_by, refusal_of_adding_held}
use Rattle.outcome.specs.declared.OutOfRange.{OutOfRange}
use Rattle.outcome.specs.declared.OutcomeResult.{OutcomeResult}
use Rattle.outcome.specs.ReadingOutcome.{pfs_held, duration_held, outcome_of, reading_of, ReadsOutcome}
use Rattle.outcome.specs.Demand3.{none, adds, reads, Runs}
use Rattle.outcome.proofs.EveryAdditionAnswered.{some_addition}

pub opens : (b : Record) → Five b → (a : Result (Unit {0}) OpenRefusal) × (s : Subject) × Opens b a s
unfolding refusals_of_opening
opens b five =
    let own = each_own new_unit (SomeCase open_number) (Err (N.Own W.NoSuchDate), refl) (Err (N.Own W.OutsideLimits), refl) (Err (N.Own W.NotZero), refl) b false false in
    let kind : Each (SomeCase open_number) (7 when not_baseline b.entry ∷ []) = ((Err N.NotBaseline, refl), tt) in
    let answer = among (SomeCase open_number) (refusals_of_opening new_unit b) (Ok tt, refl) (each_append (SomeCase open_number) (refusals_of_record new_unit b) (7 when not_baseline b.entry ∷ []) own kind) in
    (answer.0, opened_subject b, record { answer = answer.1; made = refl; five = five })

some_status : (w : PfsWord) → SomeCase pfs_status_word w
some_status EVENT = (P.Event, refl)
some_status CENSORED = (P.Censored, refl)

some_duration : (d : Duration) → SomeCase duration_values d
some_duration no_duration = (None, refl)
some_duration (for_days w n) = let s = some_status w in (Some (record { status = s.0; days = n }), ap (λ (v : PfsWord). for_days v n) s.1)

pub readable : (s : Subject) → (o : Result OutcomeResult OutOfRange) × ReadsOutcome s o
unfolding reading_of outcome_of
readable s = go (in_range s) refl
  where
    go : (x : Bool) → in_range s ≡ x → (o : Result OutcomeResult OutOfRange) × ReadsOutcome s o
    go false e = (Err (record {}), record { answer = rw e })
    go true e =
        let status = some_status (pfs_held s).status in
        let duration = some_duration (duration_held s) in
        let o = outcome_of s in (
          Ok
              (record {
                pfs = record { status = status.0; day = record { 0 = (pfs_held s).day } };
                best = s.followup.counting.best;
                duration = duration.0;
                settled = record { pfs = o.pfs_settled; best = o.best_settled; duration = o.duration_settled };
              }),
          record { answer = rw (e, status.1, duration.1) },
        )

pub runs : (s : Subject) (cs : List Call) → Runs s cs
runs s [] = record { replied = []; last = s; calls = none }
runs s (add r ∷ cs) =
    let now = some_addition s r in
    let later = runs (subject_by s r (refusal_of_adding_held s r)) cs in
    record { replied = _; last = later.last; calls = adds {a = now.0} now.1 later.calls }
runs s (read ∷ cs) =
    let now = readable s in
    let later = runs s cs in
    record { replied = _; last = later.last; calls = reads now.1 later.calls }
