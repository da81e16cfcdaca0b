-- A file that the old file call accepts and the converted one: each converted part is read as the record with each size times ten, and both files have the
-- same verdict, the same lines of visits and the same listing.
-- Assumes nothing.
use mathlib.Core.Path.{◌≡◌, refl, sym, ap, ◌∙◌}
use mathlib.Core.Bool.{Bool, true, false}
use mathlib.Core.List.{List, [], ◌∷◌, ◌++◌, map, map-append, reverse}
use Prim.Native.Nat.{ℕ, suc, ◌-◌, ◌*◌, ◌/◌, ◌%◌}
use native.Mathlib.Nat.{mul-div_cancel}
use native.Mathlib.Omega.{arith}
use lib.Dec.{ltb, eqb}
use lib.ListN.{length, take, drop, length-append, length-map}
use lib.Seq.{take-append_seam, drop-append_seam}
use borrow.Author.Tests.{eq-eqb, ne_eqb, le-ltb, eqb-true}
use Rattle.laws.specs.Choice.{pick}
use Rattle.laws.specs.Refusals.{Refusal, ◌when◌, first}
use Rattle.laws.proofs.FirstRefusal.{none_of_both}
use Rattle.records.specs.Forms.{old_form, old_unit, new_form, new_unit}
use Rattle.records.specs.Tenfold.{tenfold}
use Rattle.records.specs.Entries.{Five}
use Rattle.records.specs.Refusals.{refusal_of_record}
use Rattle.records.specs.declared.Record.{Record}
use Rattle.records.proofs.Tenfold.{same_refusals}
use Rattle.codec.specs.Bytes.{bytes_of}
use Rattle.codec.specs.Reading.{refusals_of_bytes, refusal_of_bytes, record_of_bytes}
use Rattle.codec.specs.Parts.{bad_length, parts, parts_of, joined}
use Rattle.codec.proofs.NoRefusalOfBytes.{bytes_numbered, found_fine}
use Rattle.codec.proofs.FiveMarksAndSizes.{found_five}
use Rattle.codec.proofs.PartsJoined.{fair_length, length_parts}
use Rattle.writing.proofs.ReadBack.{no_refusal_back, record_back}
use Rattle.outcome_rules.specs.Values.{Outcome}
use Rattle.outcome_rules.specs.StudyRecords.{StudyRecord, baseline, visit, therapy, death, on_study_days}
use Rattle.outcome_rules.specs.Course.{Course, course}
use Rattle.outcome_rules.specs.Settled.{outcome_from}
use Rattle.outcome_rules.specs.VisitLines.{VisitLine, lines_in_order}
use Rattle.outcome_rules.specs.Adding.{refusals_of_opening, refusals_of_adding}
use Rattle.outcome_rules.specs.Tenfold.{tenfold_baseline, tenfold_record}
use Rattle.outcome_rules.proofs.Tenfold.{turned, tenfold_lists}
use Rattle.file.specs.Verdict.{Verdict, refused, accepted, unless_refused, response_starts_late, refusal_of_part, verdict_on, verdict_from, verdict_of}
use Rattle.file.proofs.VerdictsApart.{apart}
use Rattle.listing_text.specs.Text.{lines_text, outcome_text, listing_text, listing_of}
use Rattle.converter.specs.Conversion.{converted_part, converted}

-- ---- one part

pub tenfold_own : (r : Record) → refusal_of_record new_unit (tenfold r) ≡ refusal_of_record old_unit r
tenfold_own r = ap first (same_refusals r false false)

pub tenfold_five : (r : Record) → Five r → Five (tenfold r)
tenfold_five r five = record { sizes = length-map r.sizes _ ∙ five.sizes; marks = five.marks }

module _ (part : List ℕ) (e : refusal_of_bytes old_form part ≡ 0) where
  abbrev r : Record
  r = record_of_bytes old_form part

  pub own : refusal_of_record new_unit (tenfold r) ≡ 0
  own = tenfold_own r ∙ found_fine old_form part e

  pub five : Five (tenfold r)
  five = tenfold_five r (found_five old_form part)

  pub read_again : refusal_of_bytes new_form (converted_part part) ≡ 0
  read_again = no_refusal_back (tenfold r) five own

  pub same_record : record_of_bytes new_form (converted_part part) ≡ tenfold r
  same_record = record_back (tenfold r) five own

-- what comes behind reading: opening or adding
module _ (part : List ℕ) (before after : Record → List Refusal) (same : (r : Record) → after (tenfold r) ≡ before r) where
  behind_reading : first (refusals_of_bytes old_form part ++ before (record_of_bytes old_form part)) ≡ 0 →
      (refusal_of_bytes old_form part ≡ 0) × (first (refusals_of_bytes new_form (converted_part part) ++ after (record_of_bytes new_form (converted_part part))) ≡ 0)
  behind_reading e =
      let none = (none_of_both (refusals_of_bytes old_form part) _ (bytes_numbered old_form part)).0 e in
      let placed = ap (λ (r : Record). first (after r)) (same_record part none.0) ∙ ap first (same (record_of_bytes old_form part)) ∙ none.1 in
      (none.0, (none_of_both (refusals_of_bytes new_form (converted_part part)) _ (bytes_numbered new_form (converted_part part))).1 (read_again part none.0, placed))

same_part : (rs : List Record) (part : List ℕ) → refusal_of_part old_form rs part ≡ 0 →
    (refusal_of_bytes old_form part ≡ 0) × (refusal_of_part new_form (map tenfold rs) (converted_part part) ≡ 0)
same_part [] part e = behind_reading part (refusals_of_opening old_unit) (refusals_of_opening new_unit) tenfold_lists.opening e
same_part (b ∷ rs) part e =
    behind_reading part (refusals_of_adding old_unit (b ∷ rs)) (refusals_of_adding new_unit (map tenfold (b ∷ rs))) (tenfold_lists.adding (b ∷ rs)) e

-- ---- behind the last record

ended_tenfold : (rs : List StudyRecord) (last : ℕ) → verdict_on (map tenfold_record rs) last ≡ verdict_on rs last
ended_tenfold [] last = refl
ended_tenfold (baseline b ∷ rs) last =
    ap (λ (c : Course). unless_refused (14 when response_starts_late c ∷ []) last (accepted (outcome_from b.assessed c)))
    (ap (course (tenfold_baseline b)) (turned rs) ∙ tenfold_lists.same_course b (reverse rs))
ended_tenfold (visit d v ∷ rs) last = refl
ended_tenfold (therapy d ∷ rs) last = refl
ended_tenfold (death d ∷ rs) last = refl

pub ended_same : (rs : List Record) (last : ℕ) → verdict_on (on_study_days new_unit (map tenfold rs)) last ≡ verdict_on (on_study_days old_unit rs) last
ended_same rs last = ap (λ (l : List StudyRecord). verdict_on l last) (tenfold_lists.on_days rs) ∙ ended_tenfold (on_study_days old_unit rs) last

-- ---- all parts

record Same (rs : List Record) (k : ℕ) (ps : List (List ℕ)) : Type 0 where
  verdict : verdict_from new_form (map tenfold rs) k (map converted_part ps) ≡ verdict_from old_form rs k ps
  records : map (record_of_bytes new_form) (map converted_part ps) ≡ map tenfold (map (record_of_bytes old_form) ps)

same_from : (rs : List Record) (k : ℕ) (ps : List (List ℕ)) {o : Outcome} → verdict_from old_form rs k ps ≡ accepted o → Same rs k ps
same_from rs k [] e = record { verdict = ended_same rs (k - 1); records = refl }
same_from rs k (part ∷ ps) {o} e = go (eqb (refusal_of_part old_form rs part) 0) refl e (same_from (rs ++ (record_of_bytes old_form part ∷ [])) (suc k) ps)
  where
    later : Verdict
    later = verdict_from old_form (rs ++ (record_of_bytes old_form part ∷ [])) (suc k) ps

    go : (x : Bool) → eqb (refusal_of_part old_form rs part) 0 ≡ x → pick x later (refused (refusal_of_part old_form rs part) k) ≡ accepted o →
        (later ≡ accepted o → Same (rs ++ (record_of_bytes old_form part ∷ [])) (suc k) ps) → Same rs k (part ∷ ps)
    go false q f next = absurd (apart refl f)
    go true q f next =
        let old = eqb-true (refusal_of_part old_form rs part) 0 q in
        let none = same_part rs part old in
        let found = same_record part none.0 in
        let rest = next f in
        let passed : eqb (refusal_of_part new_form (map tenfold rs) (converted_part part)) 0 ≡ true = eq-eqb _ 0 none.1 in
        let more : map tenfold rs ++ (record_of_bytes new_form (converted_part part) ∷ []) ≡ map tenfold (rs ++ (record_of_bytes old_form part ∷ [])) =
        ap (λ (r : Record). map tenfold rs ++ (r ∷ [])) found ∙ sym (map-append tenfold rs (record_of_bytes old_form part ∷ [])) in
        record {
          verdict = rw (passed, q) (ap (λ (l : List Record). verdict_from new_form l (suc k) (map converted_part ps)) more ∙ rest.verdict);
          records = λ i. found i ∷ rest.records i;
        }

-- ---- how the converted file is cut

pub part_length : (part : List ℕ) → length (converted_part part) ≡ 13
unfolding bytes_of
part_length part = refl

pub joined_length : (ps : List (List ℕ)) → length (joined (map converted_part ps)) ≡ length ps * 13
joined_length [] = refl
joined_length (part ∷ ps) = omega (arith, length-append (converted_part part) (joined (map converted_part ps)), part_length part, joined_length ps)

parts_again : (ps : List (List ℕ)) → parts new_form (length ps) (joined (map converted_part ps)) ≡ map converted_part ps
parts_again [] = refl
parts_again (part ∷ ps) =
    let rest = joined (map converted_part ps) in
    let front : take 13 (converted_part part ++ rest) ≡ converted_part part = ap (λ (n : ℕ). take n (converted_part part ++ rest)) (sym (part_length part)) ∙ take-append_seam (converted_part part) rest in
    let behind : drop 13 (converted_part part ++ rest) ≡ rest = ap (λ (n : ℕ). drop n (converted_part part ++ rest)) (sym (part_length part)) ∙ drop-append_seam (converted_part part) rest in
    λ i. front i ∷ (ap (parts new_form (length ps)) behind ∙ parts_again ps) i

module _ (s : List ℕ) where
  abbrev ps : List (List ℕ)
  ps = parts_of old_form s

  pub converted_length : length (converted s) ≡ length s / 11 * 13
  unfolding converted
  converted_length = joined_length ps ∙ ap (λ (n : ℕ). n * 13) (length_parts old_form (length s / 11) s)

  parts_converted : parts_of new_form (converted s) ≡ map converted_part ps
  unfolding converted
  parts_converted =
      ap (λ (n : ℕ). parts new_form (n / 13) (converted s)) (joined_length ps)
      ∙ ap (λ (n : ℕ). parts new_form n (converted s)) (mul-div_cancel (length ps) (omega arith))
      ∙ parts_again ps

  fair_converted : bad_length old_form (length s) ≡ false → bad_length new_form (length (converted s)) ≡ false
  unfolding bad_length
  fair_converted fair =
      let h = fair_length old_form (length s) fair in
      let n = length s / 11 in
      let some : eqb (n * 13) 0 ≡ false = ne_eqb (n * 13) 0 (λ e. omega arith) in
      let whole : eqb (n * 13 % 13) 0 ≡ true = eq-eqb (n * 13 % 13) 0 (omega arith) in
      let most : ltb 52000 (n * 13) ≡ false = le-ltb 52000 (n * 13) (omega arith) in
      rw converted_length (rw (some, whole, most))

  module _ {o : Outcome} (e : verdict_of old_form s ≡ accepted o) where
    fair : bad_length old_form (length s) ≡ false
    unfolding verdict_of
    fair = go (bad_length old_form (length s)) refl e
      where
        go : (x : Bool) → bad_length old_form (length s) ≡ x → unless_refused (13 when x ∷ []) 0 (verdict_from old_form [] 0 ps) ≡ accepted o → x ≡ false
        go true q f = absurd (apart refl f)
        go false q f = refl

    same : Same [] 0 ps
    unfolding verdict_of
    same = same_from [] 0 ps (rw fair at e)

    pub same_verdict : verdict_of new_form (converted s) ≡ verdict_of old_form s
    unfolding verdict_of
    same_verdict = rw (fair_converted fair, fair, parts_converted) same.verdict

    records_converted : map (record_of_bytes new_form) (parts_of new_form (converted s)) ≡ map tenfold (map (record_of_bytes old_form) ps)
    records_converted = ap (map (record_of_bytes new_form)) parts_converted ∙ same.records

    pub same_lines : lines_in_order (on_study_days new_unit (map (record_of_bytes new_form) (parts_of new_form (converted s))))
        ≡ lines_in_order (on_study_days old_unit (map (record_of_bytes old_form) ps))
    same_lines =
        ap (λ (rs : List Record). lines_in_order (on_study_days new_unit rs)) records_converted
        ∙ ap lines_in_order (tenfold_lists.on_days (map (record_of_bytes old_form) ps))
        ∙ tenfold_lists.same_lines (on_study_days old_unit (map (record_of_bytes old_form) ps))

    pub same_listing : listing_of new_form (converted s) ≡ listing_of old_form s
    unfolding listing_of
    same_listing =
        ap (λ (v : Verdict). listing_text v (on_study_days new_unit (map (record_of_bytes new_form) (parts_of new_form (converted s))))) (same_verdict ∙ e)
        ∙ ap (λ (ls : List VisitLine). lines_text ls ++ outcome_text o) same_lines
        ∙ ap (λ (v : Verdict). listing_text v (on_study_days old_unit (map (record_of_bytes old_form) ps))) (sym e)
