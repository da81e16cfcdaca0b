-- Demand 3: by induction on the calls, the subject is what is held after the records accepted so far.
-- Assumes nothing.
use mathlib.Core.Path.{◌≡◌, refl, sym, ap, ◌∙◌, subst}
use mathlib.Core.Bool.{Bool, true, false}
use mathlib.Core.List.{List, [], ◌∷◌, ◌++◌, map, map-append, reverse, reverse-append}
use Prim.Native.Nat.{ℕ}
use native.Mathlib.Omega.{arith}
use lib.Dec.{eqb}
use Rattle.std.specs.Prelude.{Result}
use Rattle.laws.specs.Choice.{pick}
use Rattle.laws.specs.Refusals.{◌when◌, first}
use Rattle.laws.proofs.FirstRefusal.{among, each_append}
use Rattle.records.specs.declared.BaselineEntry.{BaselineEntry}
use Rattle.records.specs.declared.Entry.{Entry}
use Rattle.records.specs.declared.Entry.TheVariants as E
use Rattle.records.specs.declared.Record.{Record}
use Rattle.records.specs.Entries.{Five}
use Rattle.records.specs.Refusals.{refusals_of_record}
use Rattle.records.proofs.NoOwnRefusal.{each_own, none_after_own}
use Rattle.records.specs.Forms.{new_unit}
use Rattle.outcome_rules.specs.StudyRecords.{Baseline, StudyRecord, on_study_day, on_study_days}
use Rattle.outcome_rules.specs.LawfulLists.{Past, lawful_behind}
use Rattle.outcome_rules.specs.MarksExact.{MarksExactOn}
use Rattle.outcome_rules.specs.VisitLines.{VisitLine}
use Rattle.outcome_rules.specs.Adding.{refusals_of_study_record, not_baseline, refusals_of_opening, refusal_of_opening, refusals_of_adding, refusal_of_adding, responses_of_adding, Call, add, accepted_after, accepted}
use Rattle.outcome_rules.proofs.RefusalsOfAdding.{each_behind}
use Rattle.outcome_rules.proofs.RecordsAccepted.{accepted_lawful, accepted_exact}
use Rattle.subject.specs.declared.Subject.{Subject}
use Rattle.subject.specs.Opening.{open_number, subject_of_entry, opened_subject, Opens}
use Rattle.subject.specs.Range.{in_range}
use Rattle.adding.specs.Refusals.{AddAnswer}
use Rattle.adding.specs.Responses.{add_responses}
use Rattle.adding.specs.Refusals.{add_number}
use Rattle.adding.specs.Promises.{responses_by, subject_by, refusal_of_adding_held, Adds}
use Rattle.subject.specs.Summary.{summary}
use Rattle.subject.proofs.HeldAfterBaseline.{baseline_of, opening_follows}
use Rattle.subject.specs.declared.OpenRefusal.{OpenRefusal}
use Rattle.outcome.specs.declared.OutOfRange.{OutOfRange}
use Rattle.outcome.specs.declared.OutcomeResult.{OutcomeResult}
use Rattle.outcome.specs.ReadingOutcome.{Reading, outcome, reading_values, outcome_of, ReadsOutcome}
use Rattle.outcome.specs.Demand3.{Reply, added, outcome_read, Calls, none, adds, reads, outcome_on, replies_after, Without12, ReportsOn, Claim, Holds, Demand3}
use Rattle.outcome.specs.HeldAfter.{Summarises, HeldAfterCalls}
use Rattle.outcome.proofs.CallsFollowRecords.{refusal_held, responses_held_lem, longer_lawful, added_held_lem, refused_held, outcome_held}
use Rattle.outcome.proofs.CallsInRange.{calls_in_range, reading_in_range}
use Rattle.outcome.proofs.EveryCallAnswered.{opens, runs, readable}

-- a number that is not 12
abbrev Not12 : ℕ → Type 0
Not12 n = n ≡ 12 → ⊥

module _ (x : BaselineEntry) (marks : List Bool) (sizes : List ℕ) where
  abbrev pub opened_with : Record
  opened_with = record { entry = E.Baseline x; sizes = sizes; marks = marks }

  abbrev pub base : Baseline
  base = baseline_of x marks sizes

  abbrev pub on_day_lem : Record → StudyRecord
  on_day_lem = on_study_day new_unit x.date

  -- the records behind the baseline, newest first
  abbrev pub past : List Record → Past
  past rs = reverse (map on_day_lem rs)

  pub past_one_more : (rs : List Record) (r : Record) → past (rs ++ (r ∷ [])) ≡ on_day_lem r ∷ past rs
  past_one_more rs r = ap reverse (map-append on_day_lem rs (r ∷ [])) ∙ reverse-append (map on_day_lem rs) (on_day_lem r ∷ [])

  -- what is held after the records
  abbrev pub held_after : List Record → Subject
  held_after rs = summary x.date base (past rs)

  pub record Held (rs : List Record) (s : Subject) : Type 0 where
    pub same : s ≡ held_after rs
    pub inside : in_range s ≡ true
    pub lawfully : lawful_behind base (past rs) ≡ true

  -- ---- adding

  not_12 : (rs : List Record) (r : Record) → Not12 (refusal_of_adding new_unit (opened_with ∷ rs) r)
  unfolding refusals_of_adding
  not_12 rs r =
      let own = each_own new_unit Not12 (λ e. omega arith) (λ e. omega arith) (λ e. omega arith) r false false in
      let behind = each_behind Not12 (λ e. omega arith) (λ e. omega arith) (λ e. omega arith) (λ e. omega arith) base (past rs) (on_day_lem r) in
      among Not12 (refusals_of_record new_unit r ++ refusals_of_study_record base (past rs) (on_day_lem r)) (λ e. omega arith)
      (each_append Not12 (refusals_of_record new_unit r) (refusals_of_study_record base (past rs) (on_day_lem r)) own behind)

  module _ (rs : List Record) (r : Record) {s t : Subject} {a : AddAnswer} (h : Held rs s) (w : Adds s r a t) where
    inside : in_range (held_after rs) ≡ true
    inside = ap in_range (sym h.same) ∙ h.inside

    pub number : add_number a ≡ refusal_of_adding new_unit (opened_with ∷ rs) r
    unfolding refusals_of_adding
    number = w.answer ∙ ap (λ (u : Subject). refusal_of_adding_held u r) h.same ∙ refusal_held x.date base (past rs) refl inside r

    next : t ≡ subject_by (held_after rs) r (refusal_of_adding_held (held_after rs) r)
    next = w.left ∙ ap (λ (u : Subject). subject_by u r (refusal_of_adding_held u r)) h.same

    pub responses : add_responses a ≡ responses_of_adding new_unit (opened_with ∷ rs) r
    unfolding refusals_of_adding
    responses = w.responses ∙ ap (λ (u : Subject). responses_by u r (refusal_of_adding_held u r)) h.same ∙ responses_held_lem x.date base (past rs) refl inside r

    kept : eqb (refusal_of_adding new_unit (opened_with ∷ rs) r) 0 ≡ false → Held rs t
    unfolding refusals_of_adding
    kept e =
        record {
          same = next ∙ refused_held x.date base (past rs) refl inside r e;
          inside = calls_in_range.added w h.inside;
          lawfully = h.lawfully;
        }

    pub one_more_held : eqb (refusal_of_adding new_unit (opened_with ∷ rs) r) 0 ≡ true → Held (rs ++ (r ∷ [])) t
    unfolding refusals_of_adding
    one_more_held e =
        record {
          same = next ∙ added_held_lem x.date base (past rs) refl inside r h.lawfully e ∙ ap (summary x.date base) (sym (past_one_more rs r));
          inside = calls_in_range.added w h.inside;
          lawfully = ap (lawful_behind base) (past_one_more rs r) ∙ longer_lawful x.date base (past rs) refl inside r h.lawfully e;
        }

  -- ---- reading

  pub reading : (rs : List Record) {s : Subject} {o : Result OutcomeResult OutOfRange} → Held rs s → ReadsOutcome s o → reading_values o ≡ outcome_on (on_study_days new_unit (opened_with ∷ rs))
  reading rs {s} h w = w.answer ∙ reading_in_range s h.inside ∙ ap outcome (ap outcome_of h.same ∙ outcome_held x.date base (past rs))

  -- ---- a list of calls

  record After (rs : List Record) (cs : List Call) (ys : List Reply) (t : Subject) : Type 0 where
    last : List Record
    behind : accepted_after new_unit (opened_with ∷ rs) cs ≡ opened_with ∷ last
    replied : ys ≡ replies_after (opened_with ∷ rs) cs
    without12 : Without12 ys
    held : Held last t

  module _ (rs : List Record) (r : Record) {cs : List Call} {ys : List Reply} {n : ℕ} {ls : List VisitLine} {u : Subject} (e : n ≡ refusal_of_adding new_unit (opened_with ∷ rs) r)
      (f : ls ≡ responses_of_adding new_unit (opened_with ∷ rs) r) where
    -- the records accepted are those accepted so far, or those and one more
    one_call : (ss : List Record) → pick (eqb (refusal_of_adding new_unit (opened_with ∷ rs) r) 0) (opened_with ∷ rs ++ (r ∷ [])) (opened_with ∷ rs) ≡ opened_with ∷ ss → After ss cs ys u →
        After rs (add r ∷ cs) (added n ls ∷ ys) u
    one_call ss q later =
        record {
          last = later.last;
          behind = ap (λ (l : List Record). accepted_after new_unit l cs) q ∙ later.behind;
          replied =
              let rest = later.replied ∙ ap (λ (l : List Record). replies_after l cs) (sym q) in
              λ i. added (e i) (f i) ∷ rest i;
          without12 = ((λ z. not_12 rs r (sym e ∙ z)), later.without12);
          held = later.held;
        }

  after : (rs : List Record) {s t : Subject} {cs : List Call} {ys : List Reply} → Held rs s → Calls s cs ys t → After rs cs ys t
  after rs h none = record { last = rs; behind = refl; replied = refl; without12 = tt; held = h }
  after rs h (adds {t = t} {u = u} {r = r} {a = a} {cs = cs} {ys = ys} w c) =
      go (eqb (refusal_of_adding new_unit (opened_with ∷ rs) r) 0) refl (λ k. after (rs ++ (r ∷ [])) k c) (λ k. after rs k c)
    where
      go : (z : Bool) → eqb (refusal_of_adding new_unit (opened_with ∷ rs) r) 0 ≡ z → (Held (rs ++ (r ∷ [])) t → After (rs ++ (r ∷ [])) cs ys u) →
          (Held rs t → After rs cs ys u) → After rs (add r ∷ cs) (added (add_number a) (add_responses a) ∷ ys) u
      go true e more same = one_call rs r (number rs r h w) (responses rs r h w) (rs ++ (r ∷ [])) (rw e) (more (one_more_held rs r h w e))
      go false e more same = one_call rs r (number rs r h w) (responses rs r h w) rs (rw e) (same (kept rs r h w e))
  after rs h (reads {ys = ys} w c) =
      let later = after rs h c in
      let outcome_of_records = reading rs h w in
      record {
        last = later.last;
        behind = later.behind;
        replied = λ i. outcome_read (outcome_of_records i) ∷ later.replied i;
        without12 = subst (λ (y : Reading). Without12 (outcome_read y ∷ ys)) (sym outcome_of_records) later.without12;
        held = later.held;
      }

  -- ---- the claim

  claim : (ss : List Record) {t : Subject} {o : Result OutcomeResult OutOfRange} → Held ss t → ReadsOutcome t o → MarksExactOn (on_study_days new_unit (opened_with ∷ ss)) → Claim o (opened_with ∷ ss)
  claim ss h w exact =
      subst (λ (y : Reading). ReportsOn y (on_study_days new_unit (opened_with ∷ ss))) (sym (reading ss h w))
      (record {
        pfs = refl;
        best = refl;
        duration = refl;
        pfs_mark = exact.pfs;
        best_mark = exact.best;
        duration_mark = exact.duration;
      })

  holds_from : {s t : Subject} {cs : List Call} {ys : List Reply} {o : Result OutcomeResult OutOfRange} → Five opened_with → refusal_of_opening new_unit opened_with ≡ 0 → Held [] s → Calls s cs ys t →
      ReadsOutcome t o → Holds opened_with cs ys o
  holds_from {cs = cs} {o = o} five accepts h c w =
      let all = after [] h c in
      let exact = subst (λ (l : List Record). MarksExactOn (on_study_days new_unit l)) all.behind (accepted_exact opened_with cs five accepts) in
      record {
        replied = all.replied;
        without12 = all.without12;
        lawfully = accepted_lawful opened_with cs accepts;
        claim = subst (Claim o) (sym all.behind) (claim all.last all.held w exact);
      }

-- what an accepted opening made
module _ {a : Result (Unit {0}) OpenRefusal} {s t : Subject} {cs : List Call} {ys : List Reply} (z : open_number a ≡ 0) (c : Calls s cs ys t) where
  module _ (x : BaselineEntry) (marks : List Bool) (sizes : List ℕ) (w : Opens (opened_with x marks sizes) a s) where
    accepts : refusal_of_opening new_unit (opened_with x marks sizes) ≡ 0
    accepts = sym w.answer ∙ z

    opening_held : Held x marks sizes [] s
    unfolding opened_subject
    opening_held =
        let made : opened_subject (opened_with x marks sizes) ≡ subject_of_entry (E.Baseline x) marks sizes = rw accepts in
        record { same = w.made ∙ made ∙ opening_follows x marks sizes; inside = calls_in_range.opened w z; lawfully = refl }

  -- a claim on the record opened with, where it holds of every baseline
  from_baseline : (Claimed : Record → Type 0) →
      ((x : BaselineEntry) (marks : List Bool) (sizes : List ℕ) → Opens (opened_with x marks sizes) a s → Claimed (opened_with x marks sizes)) →
      (r : Record) → Opens r a s → Claimed r
  unfolding refusals_of_opening
  from_baseline Claimed of-baseline r w = go r.entry w ((none_after_own new_unit r _).0 (sym w.answer ∙ z)).1
    where
      go : (e : Entry) → Opens (record { entry = e; sizes = r.sizes; marks = r.marks }) a s → first (7 when not_baseline e ∷ []) ≡ 0 →
          Claimed (record { entry = e; sizes = r.sizes; marks = r.marks })
      go (E.Baseline x) w n = of-baseline x r.marks r.sizes w
      go (E.Visit v) w n = absurd (let f : ⊥ = omega arith in f)
      go (E.Therapy d) w n = absurd (let f : ⊥ = omega arith in f)
      go (E.Death d) w n = absurd (let f : ⊥ = omega arith in f)

  from_opening : {o : Result OutcomeResult OutOfRange} → ReadsOutcome t o → (r : Record) → Opens r a s → Holds r cs ys o
  from_opening {o} q =
      from_baseline (λ (r : Record). Holds r cs ys o)
      (λ x marks sizes w. holds_from x marks sizes w.five (accepts x marks sizes w) (opening_held x marks sizes w) c q)

  summarised : (r : Record) → Opens r a s → Summarises (accepted new_unit r cs) t
  summarised =
      from_baseline (λ (r : Record). Summarises (accepted new_unit r cs) t)
      (λ x marks sizes w.
      let all = after x marks sizes [] (opening_held x marks sizes w) c in
      subst (λ (rs : List Record). Summarises rs t) (sym all.behind) all.held.same)

pub demand3 : Demand3
demand3 =
    record {
      holds = λ {b} w z c q. from_opening z c q b w;
      opening_exists = opens;
      calls_exist = runs;
      reading_exists = readable;
    }

pub held_after_calls : HeldAfterCalls
held_after_calls = record { summarises = λ {b} w z c. summarised z c b w }
