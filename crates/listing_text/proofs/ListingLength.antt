-- The listing of every file has at most 96,023 bytes: by recursion over its parts, as it is judged.
-- Assumes nothing.
use mathlib.Core.Path.{◌≡◌, refl, sym, ◌∙◌, ap, subst}
use mathlib.Core.Bool.{Bool, true, false}
use mathlib.Core.List.{List, [], ◌∷◌, ◌++◌, map, append-nil, append_assoc}
use Prim.Native.Nat.{ℕ, suc, ◌+◌, ◌-◌, ◌*◌, ◌/◌, ◌≤◌}
use native.Mathlib.Omega.{arith}
use lib.Dec.{eqb}
use lib.ListN.{length, drop, length-append, length-reverse, length-map}
use borrow.Author.Tests.{eqb-true}
use Rattle.laws.specs.Choice.{pick}
use Rattle.laws.specs.Refusals.{◌when◌}
use Rattle.records.specs.declared.BaselineEntry.{BaselineEntry}
use Rattle.records.specs.declared.Record.{Record}
use Rattle.records.proofs.NoOwnRefusal.{none_after_own}
use Rattle.records.specs.Forms.{new_form, new_unit}
use Rattle.codec.specs.Bytes.{record_length}
use Rattle.codec.specs.Reading.{record_of_bytes}
use Rattle.codec.proofs.FiveMarksAndSizes.{found_five}
use Rattle.outcome_rules.specs.StudyRecords.{Baseline, baseline, fields_pass, all_pass, on_study_days}
use Rattle.outcome_rules.specs.LawfulLists.{Past, latest_day}
use Rattle.outcome_rules.specs.Course.{course}
use Rattle.outcome_rules.specs.VisitLines.{visit_lines}
use Rattle.outcome_rules.specs.Settled.{outcome}
use Rattle.outcome_rules.specs.Adding.{refusals_of_study_record_in_order, refusals_of_opening, refusals_of_adding, refusal_of_adding}
use Rattle.outcome_rules.proofs.RefusalsOfAdding.{own_passed}
use Rattle.subject.specs.declared.Subject.{Subject}
use Rattle.subject.specs.Laws.{Within}
use Rattle.subject.specs.Summary.{summary}
use Rattle.subject.proofs.RangeLaws.{subject_within}
use Rattle.adding.specs.Promises.{subject_by, refusal_of_adding_held}
use Rattle.outcome.specs.Laws.{DurationWithin, ReadingWithin}
use Rattle.outcome.proofs.CallsInRange.{calls_in_range}
use Rattle.outcome.proofs.EveryCallAnswered.{opens, readable}
use Rattle.outcome.proofs.EveryAdditionAnswered.{some_addition}
use Rattle.outcome.proofs.Demand3.{opened_with, base, on_day_lem, past, past_one_more, Held, one_more_held, reading}
use Rattle.codec.specs.Parts.{most_records, bad_length, parts, parts_of}
use Rattle.file.specs.Verdict.{refusal_of_part, refused, accepted, unless_refused, response_starts_late, verdict_from, verdict_of}
use Rattle.file.proofs.FileFollowsRecords.{none_read, opened_taken}
use Rattle.codec.proofs.PartsJoined.{fair_length, length_parts}
use Rattle.listing_text.specs.Text.{outcome_text, refusal_text, lines_text, listing_text, listing_of, longest_listing}
use Rattle.listing_text.specs.Laws.{Lengths}
use Rattle.listing_text.proofs.DecimalDigits.{decimal_value_lem}
use Rattle.listing_text.proofs.TextLengths.{refusal_length, outcome_length}
use Rattle.listing_text.proofs.VisitLengths.{line_short, visits_length}
use Rattle.listing_text.proofs.RefusalDigits.{part_small}

-- the listing of the parts from index k on, behind the records accepted
abbrev listing_from : List Record → ℕ → List (List ℕ) → List ℕ
listing_from rs k ps = listing_text (verdict_from new_form rs k ps) (on_study_days new_unit (rs ++ map (record_of_bytes new_form) ps))

-- a part's number and index
refused_short : (rs : List Record) (k : ℕ) (part : List ℕ) → k ≤ most_records → length (refusal_text (refusal_of_part new_form rs part) k) ≤ 12
refused_short rs k part h = refusal_length (refusal_of_part new_form rs part) k (omega (arith, part_small rs part)) (omega arith)

module _ (x : BaselineEntry) (marks : List Bool) (sizes : List ℕ) (passes : fields_pass new_unit (baseline (base x marks sizes)) ≡ true) where
  abbrev b : Baseline
  b = base x marks sizes

  -- the records accepted, by those behind the baseline
  abbrev whole : List Record → List Record
  whole later = opened_with x marks sizes ∷ later

  -- those behind it, newest first and on their study days
  abbrev behind : List Record → Past
  behind = past x marks sizes

  -- what the records accepted behind the baseline bring: a held subject bounds every day, and fields that pass bound every change
  record Known (later : List Record) (s : Subject) : Type 0 where
    held : Held x marks sizes later s
    pass : all_pass new_unit (behind later) ≡ true

  module _ (later : List Record) (s : Subject) (h : Known later s) where
    -- every visit is on or before the latest day
    latest_within : Within (latest_day (behind later))
    unfolding summary
    latest_within = subst (λ (t : Subject). Within t.followup.latestday.0) h.held.same (subject_within s h.held.inside).followup.latestday

    reading_within : Within (outcome b (behind later)).pfs.day × DurationWithin (outcome b (behind later)).duration
    reading_within =
        let read = readable s in
        subst ReadingWithin (reading x marks sizes later h.held read.1) (calls_in_range.outcome_read read.1 h.held.inside)

    accepted_short : length (lines_text (visit_lines b (behind later)) ++ outcome_text (outcome b (behind later))) ≤ 24 * length later + 47
    accepted_short =
        let latest = latest_within in
        let lines = visits_length b (behind later) passes h.pass h.held.lawfully (omega arith) in
        let rest = outcome_length (outcome b (behind later)) reading_within.0 reading_within.1 in
        omega (
          arith,
          length-append (lines_text (visit_lines b (behind later))) (outcome_text (outcome b (behind later))),
          length-reverse (map (on_day_lem x marks sizes) later),
          length-map later (on_day_lem x marks sizes),
        )

    ended_short : (k : ℕ) → k ≤ most_records → length (listing_from (whole later) k []) ≤ 24 * length later + 47
    ended_short k l = rw (append-nil later) (go (response_starts_late (course b (behind later))))
      where
        go : (late : Bool) →
            length (listing_text (unless_refused (14 when late ∷ []) (k - 1) (accepted (outcome b (behind later)))) (on_study_days new_unit (whole later))) ≤ 24 * length later + 47
        go true = omega (arith, refusal_length 14 (k - 1) (omega arith) (omega arith))
        go false = accepted_short

    module _ (part : List ℕ) (e : refusal_of_part new_form (whole later) part ≡ 0) where
      abbrev r : Record
      r = record_of_bytes new_form part

      accepts : refusal_of_adding new_unit (whole later) r ≡ 0
      accepts = (none_read part (refusals_of_adding new_unit (whole later) r) e).1

      passed : fields_pass new_unit (on_day_lem x marks sizes r) ≡ true
      unfolding refusals_of_adding
      passed =
          own_passed x.date r (found_five new_form part)
          ((none_after_own new_unit r (refusals_of_study_record_in_order (on_study_days new_unit (whole later)) (on_day_lem x marks sizes r))).0 accepts).0

      one_more : Known (later ++ (r ∷ [])) (subject_by s r (refusal_of_adding_held s r))
      one_more =
          let added = (some_addition s r).1 in
          record {
            held = one_more_held x marks sizes later r h.held added (ap (λ (n : ℕ). eqb n 0) accepts);
            pass = ap (all_pass new_unit) (past_one_more x marks sizes later r) ∙ rw passed h.pass;
          }

  later_short : (later : List Record) (k : ℕ) (ps : List (List ℕ)) (s : Subject) → Known later s → k + length ps ≤ most_records →
      length (listing_from (whole later) k ps) ≤ 24 * (length later + length ps) + 47
  later_short later k [] s h l = omega (arith, ended_short later s h k (omega arith))
  later_short later k (part ∷ ps) s h l =
      go (eqb (refusal_of_part new_form (whole later) part) 0) refl (λ t m. later_short (later ++ (record_of_bytes new_form part ∷ [])) (suc k) ps t m (omega arith))
    where
      go : (z : Bool) → eqb (refusal_of_part new_form (whole later) part) 0 ≡ z →
          ((t : Subject) → Known (later ++ (record_of_bytes new_form part ∷ [])) t →
          length (listing_from (whole (later ++ (record_of_bytes new_form part ∷ []))) (suc k) ps) ≤ 24 * (length (later ++ (record_of_bytes new_form part ∷ [])) + length ps) + 47) →
          length
          (listing_text (pick z (verdict_from new_form (whole (later ++ (record_of_bytes new_form part ∷ []))) (suc k) ps) (refused (refusal_of_part new_form (whole later) part) k))
          (on_study_days new_unit (whole (later ++ map (record_of_bytes new_form) (part ∷ ps)))))
          ≤ 24 * (length later + length (part ∷ ps)) + 47
      go true q more =
          let bound = more (subject_by s (record_of_bytes new_form part) (refusal_of_adding_held s (record_of_bytes new_form part))) (one_more later s h part (eqb-true (refusal_of_part new_form (whole later) part) 0 q)) in
          let joined = append_assoc later (record_of_bytes new_form part ∷ []) (map (record_of_bytes new_form) ps) in
          omega (arith, rw joined at bound, length-append later (record_of_bytes new_form part ∷ []))
      go false q more = omega (arith, refused_short (whole later) k part (omega arith))

-- ---- the whole file

module _ (part : List ℕ) (ps : List (List ℕ)) (h : length ps ≤ 3999) where
  abbrev opening : Record
  opening = record_of_bytes new_form part

  -- an accepted opening leaves a held subject and nothing behind it
  opened_short : refusal_of_part new_form [] part ≡ 0 → length (listing_from (opening ∷ []) 1 ps) ≤ longest_listing
  unfolding refusals_of_opening
  opened_short e =
      let accepts = (none_read part (refusals_of_opening new_unit opening) e).1 in
      let own = (none_after_own new_unit opening _).0 accepts in
      let made = opens opening (found_five new_form part) in
      let t = opened_taken opening.entry opening.marks opening.sizes made.2 (made.2.answer ∙ accepts) own.1 in
      let alone : t.later ≡ [] = cc t.opens in
      let known : Known t.entry t.marks t.sizes t.passes t.later made.1 = record { held = t.held; pass = rw alone } in
      let bound = later_short t.entry t.marks t.sizes t.passes t.later 1 ps made.1 known (omega arith) in
      let bound_here = subst (λ (rs : List Record). length (listing_from rs 1 ps) ≤ 24 * (length t.later + length ps) + 47) (sym t.opens) bound in
      omega (arith, ap length alone)

  file_short : length (listing_from [] 0 (part ∷ ps)) ≤ longest_listing
  file_short = go (eqb (refusal_of_part new_form [] part) 0) refl
    where
      go : (z : Bool) → eqb (refusal_of_part new_form [] part) 0 ≡ z →
          length (listing_text (pick z (verdict_from new_form (opening ∷ []) 1 ps) (refused (refusal_of_part new_form [] part) 0)) (on_study_days new_unit (opening ∷ map (record_of_bytes new_form) ps))) ≤ longest_listing
      go true q = opened_short (eqb-true (refusal_of_part new_form [] part) 0 q)
      go false q = omega (arith, refused_short [] 0 part (omega arith))

listing_short : (s : List ℕ) → length (listing_of new_form s) ≤ longest_listing
unfolding listing_of verdict_of
listing_short s = go (bad_length new_form (length s)) refl
  where
    go : (z : Bool) → bad_length new_form (length s) ≡ z →
        length (listing_text (unless_refused (13 when z ∷ []) 0 (verdict_from new_form [] 0 (parts_of new_form s))) (on_study_days new_unit (map (record_of_bytes new_form) (parts_of new_form s)))) ≤ longest_listing
    go true q = omega (arith, refusal_length 13 0 (omega arith) (omega arith))
    go false q =
        let fair = fair_length new_form (length s) q in
        let one : length s / record_length ≡ suc (length s / record_length - 1) = omega arith in
        let rest = parts new_form (length s / record_length - 1) (drop record_length s) in
        rw one (file_short _ rest (omega (arith, length_parts new_form (length s / record_length - 1) (drop record_length s))))

pub lengths : Lengths
lengths = record { value_of_decimal = decimal_value_lem; line = line_short; listing = listing_short }
