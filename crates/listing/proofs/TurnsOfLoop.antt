-- A turn of the loop over a file's records, with the lines written on the way, and what the whole loop promises.
-- Assumes nothing.
use mathlib.Core.Path.{◌≡◌, refl, sym, ◌∙◌, ap, subst}
use mathlib.Core.Bool.{Bool, true, false, not}
use mathlib.Core.List.{List, [], ◌∷◌, ◌++◌, map, append-nil}
use Prim.Native.Nat.{ℕ, ◌+◌, ◌-◌, ◌/◌, ◌≤◌, ◌<◌}
use native.Mathlib.Omega.{arith}
use lib.ListN.{length, take}
use borrow.Author.Tests.{eqb-true}
use Rattle.std.specs.Prelude.{Result, is_err}
use Rattle.laws.specs.Refusals.{◌when◌}
use Rattle.records.specs.declared.Record.{Record}
use Rattle.records.specs.Entries.{date_of}
use Rattle.records.specs.Forms.{new_form, new_unit}
use Rattle.codec.specs.Bytes.{record_length}
use Rattle.codec.specs.Reading.{record_of_bytes}
use Rattle.codec.proofs.FiveMarksAndSizes.{found_five}
use Rattle.outcome_rules.specs.Values.{Outcome, day_value}
use Rattle.outcome_rules.specs.StudyRecords.{on_study_days}
use Rattle.outcome_rules.specs.VisitLines.{lines_in_order}
use Rattle.subject.specs.declared.Subject.{Subject}
use Rattle.subject.specs.declared.OpenRefusal.{OpenRefusal}
use Rattle.subject.specs.Opening.{open_number, OpensBytes}
use Rattle.adding.specs.Refusals.{AddAnswer}
use Rattle.adding.specs.Responses.{add_responses}
use Rattle.adding.specs.Refusals.{add_number}
use Rattle.adding.specs.Promises.{Adds, AddsBytes}
use Rattle.adding.proofs.Returns.{number_by_err}
use Rattle.outcome.specs.ReadingOutcome.{outcome, pfs_held, duration_held, outcome_of}
use Rattle.outcome.specs.Laws.{ReadingWithin}
use Rattle.outcome.proofs.CallsInRange.{calls_in_range, reading_in_range}
use Rattle.outcome.proofs.EveryCallAnswered.{readable}
use Rattle.codec.specs.Parts.{most_records, most_bytes, bad_length, parts_of}
use Rattle.file.specs.Verdict.{refused, accepted, unless_refused, starts_late, verdict_of, file_values, JudgesFile}
use Rattle.file.specs.Ending.{verdict_held, EndsFile}
use Rattle.file.proofs.VerdictsApart.{apart, accepted_same}
use Rattle.codec.proofs.PartsJoined.{part_at}
use Rattle.file.proofs.FileFollowsRecords.{alone, later_added, lines_more}
use Rattle.file.proofs.TurnsOfLoop.{from, Standing, bad, first_refused, first_standing, turn_refused, turn, ended}
use Rattle.listing_text.specs.Text.{lines_text}
use Rattle.listing_text.proofs.TextLengths.{lines_append}
use Rattle.listing.specs.Writing.{Wrote, AllWritable, SmallIndex, most_lines, JudgesInto}
use Rattle.listing.proofs.TextsWritten.{then, nothing, as_text}
use Rattle.listing.proofs.ResponsesWritable.{short_responses, shown_short}
use Rattle.outcome.specs.declared.OutcomeResult.{OutcomeResult}
use Rattle.file.specs.declared.FileRefusal.{FileRefusal}

-- the records before index k are taken, and their lines written
pub record Printing (l page₀ page : List ℕ) (s : Subject) (at k : ℕ) : Type 0 where
  pub standing : Standing l s k
  pub written : Wrote page₀ 0 (lines_text (lines_in_order (on_study_days new_unit standing.before))) at page

-- of a refused file nothing is promised of the text
module _ (l page left : List ℕ) (a : Result OutcomeResult FileRefusal) (m : ℕ) where
  refused_into : (n k : ℕ) → JudgesFile l a → file_values a ≡ refused n k → k < 100000 → m ≤ most_lines → (text : List ℕ) → Wrote page 0 text m left → JudgesInto l page a m left
  refused_into n k w e h b text u =
      record {
        answer = w.answer;
        index = subst SmallIndex (sym e) h;
        within = b;
        text = text;
        written = u;
        lines = λ o q. absurd (apart (sym w.answer ∙ e) q);
      }

  -- before the second record nothing is written
  early_into : (n : ℕ) → JudgesFile l a → left ≡ page → (file_values a ≡ refused n 0) × (m ≡ 0) → JudgesInto l page a m left
  early_into n w p e = refused_into n 0 w e.0 (omega arith) (omega (arith, e.1)) [] (rw (p, e.1) (nothing page 0))

  pub bad_into : bad_length new_form (length l) ≡ true → left ≡ page → (file_values a ≡ refused 13 0) × (m ≡ 0) → JudgesInto l page a m left
  bad_into h p e = early_into 13 (bad l a h e.0) p e

  pub first_into : bad_length new_form (length l) ≡ false → left ≡ page → (x : Result (Unit {0}) OpenRefusal) (s : Subject) → OpensBytes (take record_length l) x s →
      is_err x ≡ true → (file_values a ≡ refused (open_number x) 0) × (m ≡ 0) → JudgesInto l page a m left
  first_into h p x s w z e = early_into (open_number x) (first_refused l h x s w a z e.0) p e

  pub turn_into : (s : Subject) (at k : ℕ) → Printing l page left s at k → k < length l / record_length → length l ≤ most_bytes new_form → at ≤ most_lines →
      (x : AddAnswer) (t : Subject) → AddsBytes s (part_at new_form l k) x t → is_err x ≡ true → (file_values a ≡ refused (add_number x) k) × (m ≡ at) →
      JudgesInto l page a m left
  turn_into s at k w h b f x t v z e =
      refused_into (add_number x) k (turn_refused l s k w.standing h x t v a z e.0) e.0 (omega arith) (omega (arith, e.1))
      (lines_text (lines_in_order (on_study_days new_unit w.standing.before))) (rw e.1 w.written)

pub first_printing : (l page : List ℕ) → bad_length new_form (length l) ≡ false → (x : Result (Unit {0}) OpenRefusal) (s : Subject) → OpensBytes (take record_length l) x s →
    is_err x ≡ false → Printing l page page s 0 1
first_printing l page h x s w z =
    let r = record_of_bytes new_form (take record_length l) in
    record {
      standing = first_standing l h x s w z;
      written = as_text (ap lines_text (sym (alone (date_of r.entry) r.entry r.marks r.sizes))) (nothing page 0);
    }

module _ (l page₀ page : List ℕ) (s : Subject) (at k : ℕ) (w : Printing l page₀ page s at k) (h : k < length l / record_length) (x : AddAnswer) (t : Subject)
    (v : AddsBytes s (part_at new_form l k) x t) (z : is_err x ≡ false) where
  done : add_number x ≡ 0
  done = eqb-true (add_number x) 0 (number_by_err x ∙ ap not z)

  added : Adds s (record_of_bytes new_form (part_at new_form l k)) x t
  added = later_added w.standing.taken v done

  pub next_writable : AllWritable (add_responses x) × (length (lines_text (add_responses x)) ≤ 24)
  next_writable = short_responses x (shown_short w.standing.taken (record_of_bytes new_form (part_at new_form l k)) (found_five new_form (part_at new_form l k)) added done)

  pub turn_printing : (at' : ℕ) (page' : List ℕ) → Wrote page at (lines_text (add_responses x)) at' page' → Printing l page₀ page' t at' (k + 1)
  turn_printing at' page' u =
      record {
        standing = turn l s k w.standing h x t v z;
        written =
            as_text
            (sym (lines_append (lines_in_order (on_study_days new_unit w.standing.before)) (add_responses x))
            ∙ ap lines_text (sym (lines_more w.standing.taken (record_of_bytes new_form (part_at new_form l k)) added done)))
            (then w.written u);
      }

-- behind the last record
module _ (l page₀ page : List ℕ) (s : Subject) (at k : ℕ) (w : Printing l page₀ page s at k) (h : length l / record_length ≤ k) (b : k ≤ most_records) (m : at ≤ most_lines)
    (a : Result OutcomeResult FileRefusal) (v : EndsFile s (k - 1) a) where
  judged : JudgesFile l a
  judged = ended l s k w.standing h a v

  inside : file_values a
      ≡ unless_refused (14 when starts_late (duration_held s) (day_value s.followup.counting.firstresponse) (pfs_held s) ∷ []) (k - 1) (accepted (outcome_of s))
  unfolding verdict_held
  inside = v.answer ∙ rw w.standing.taken.held.inside

  reading_inside : ReadingWithin (outcome (outcome_of s))
  reading_inside =
      let read = readable s in
      subst ReadingWithin (read.1.answer ∙ reading_in_range s w.standing.taken.held.inside) (calls_in_range.outcome_read read.1 w.standing.taken.held.inside)

  small : SmallIndex (file_values a)
  small = subst SmallIndex (sym inside) (go (starts_late (duration_held s) (day_value s.followup.counting.firstresponse) (pfs_held s)))
    where
      go : (late : Bool) → SmallIndex (unless_refused (14 when late ∷ []) (k - 1) (accepted (outcome_of s)))
      go true = omega arith
      go false = tt

  outcome_read : (o : Outcome) → verdict_of new_form l ≡ accepted o → ReadingWithin (outcome o)
  outcome_read o e = go (starts_late (duration_held s) (day_value s.followup.counting.firstresponse) (pfs_held s)) (sym inside ∙ judged.answer ∙ e)
    where
      go : (late : Bool) → unless_refused (14 when late ∷ []) (k - 1) (accepted (outcome_of s)) ≡ accepted o → ReadingWithin (outcome o)
      go true q = absurd (apart refl q)
      go false q = subst (λ (u : Outcome). ReadingWithin (outcome u)) (accepted_same q) reading_inside

  every_record : w.standing.before ≡ map (record_of_bytes new_form) (parts_of new_form l)
  every_record =
      let z : length l / record_length - k ≡ 0 = omega arith in
      let none : from l k ≡ [] = rw z in
      sym (append-nil w.standing.before) ∙ ap (λ (ps : List (List ℕ)). w.standing.before ++ map (record_of_bytes new_form) ps) (sym none) ∙ w.standing.all

  pub ended_into : JudgesInto l page₀ a at page
  ended_into =
      record {
        answer = judged.answer;
        index = small;
        within = m;
        text = lines_text (lines_in_order (on_study_days new_unit w.standing.before));
        written = w.written;
        lines = λ o e. (outcome_read o e, ap (λ (rs : List Record). lines_text (lines_in_order (on_study_days new_unit rs))) every_record);
      }
