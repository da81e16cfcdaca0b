-- A turn of the loop over an old file's records as a step of the recursion over its parts: the records taken so far, each size times ten, are what is held.
-- Assumes nothing.
use mathlib.Core.Path.{◌≡◌, refl, sym, ap, ◌∙◌, subst}
use mathlib.Core.Bool.{Bool, true, false}
use mathlib.Core.List.{List, [], ◌∷◌, ◌++◌, map, map-append}
use Prim.Native.Nat.{ℕ, suc, ◌+◌, ◌-◌, ◌/◌, ◌≤◌, ◌<◌}
use native.Mathlib.Numerals.{add-one}
use native.Mathlib.Omega.{arith}
use lib.Dec.{eqb}
use lib.ListN.{length, take}
use borrow.Author.Tests.{eq-eqb, ne_eqb, eqb-true}
use Rattle.std.specs.Prelude.{Result}
use Rattle.laws.specs.Choice.{pick}
use Rattle.laws.specs.Refusals.{Refusal, ◌when◌, first}
use Rattle.laws.proofs.FirstRefusal.{none_of_both}
use Rattle.records.specs.Forms.{old_form, old_unit, new_unit}
use Rattle.records.specs.Tenfold.{tenfold}
use Rattle.records.specs.declared.Record.{Record}
use Rattle.records.proofs.NoOwnRefusal.{none_after_own}
use Rattle.codec.specs.Reading.{refusals_of_bytes, refusal_of_bytes, record_of_bytes}
use Rattle.codec.specs.Parts.{bad_length, parts, parts_of}
use Rattle.codec.proofs.NoRefusalOfBytes.{bytes_numbered, after_reading}
use Rattle.codec.proofs.PartsJoined.{one_part, part_at, parts_from, one_more}
use Rattle.outcome_rules.specs.Values.{Outcome}
use Rattle.outcome_rules.specs.Adding.{refusals_of_opening, refusals_of_adding}
use Rattle.outcome_rules.proofs.Tenfold.{tenfold_lists}
use Rattle.subject.specs.declared.Subject.{Subject}
use Rattle.subject.specs.Opening.{open_number}
use Rattle.adding.specs.Refusals.{add_number}
use Rattle.file.specs.Verdict.{Verdict, refused, accepted, unless_refused, refusal_of_part, verdict_from, verdict_of, file_values}
use Rattle.file.specs.Ending.{EndsFile}
use Rattle.file.proofs.FileFollowsRecords.{Taken, opened_taken, adding, more, ending}
use Rattle.file.proofs.VerdictsApart.{apart}
use Rattle.converter.specs.Judging.{number_behind, OpensOld, AddsOld, JudgesOldFile, AllRead}
use Rattle.converter.proofs.ConvertedFile.{ended_same}
use Rattle.outcome.specs.declared.OutcomeResult.{OutcomeResult}
use Rattle.file.specs.declared.FileRefusal.{FileRefusal}

-- the parts from index k on
abbrev pub from : List ℕ → ℕ → List (List ℕ)
from l k = parts_from old_form l (length l / 11) k

pub record Standing (l : List ℕ) (s : Subject) (k : ℕ) : Type 0 where
  pub before : List Record
  pub taken : Taken (map tenfold before) s
  pub rest : verdict_of old_form l ≡ verdict_from old_form before k (from l k)

pub bad : (l : List ℕ) (a : Result OutcomeResult FileRefusal) → bad_length old_form (length l) ≡ true → file_values a ≡ refused 13 0 → JudgesOldFile l a
unfolding verdict_of
bad l a h e = record { answer = e ∙ rw h }

-- the first of the refusals of reading and of those behind it
number_of : (part : List ℕ) (n m : ℕ) (behind : List Refusal) → n ≡ number_behind part m → m ≡ first behind → n ≡ first (refusals_of_bytes old_form part ++ behind)
number_of part n m behind e f = e ∙ ap (number_behind part) f ∙ sym (after_reading old_form part behind)

none_behind : (part : List ℕ) (behind : List Refusal) → first (refusals_of_bytes old_form part ++ behind) ≡ 0 → first behind ≡ 0
none_behind part behind e = ((none_of_both (refusals_of_bytes old_form part) behind (bytes_numbered old_form part)).0 e).1

-- ---- the first record

module _ (part : List ℕ) (n : ℕ) (s : Subject) (w : OpensOld part n s) where
  abbrev opening : Record
  opening = record_of_bytes old_form part

  opens_as : open_number w.answer ≡ first (refusals_of_opening old_unit opening)
  opens_as = w.opens.answer ∙ ap first (tenfold_lists.opening opening)

  opened_number : n ≡ refusal_of_part old_form [] part
  opened_number = number_of part n (open_number w.answer) (refusals_of_opening old_unit opening) w.number opens_as

  first_taken : n ≡ 0 → Taken (map tenfold (opening ∷ [])) s
  unfolding refusals_of_opening
  first_taken z =
      let done = opens_as ∙ none_behind part (refusals_of_opening old_unit opening) (sym opened_number ∙ z) in
      opened_taken opening.entry opening.marks _ w.opens done ((none_after_own new_unit (tenfold opening) _).0 (sym w.opens.answer ∙ done)).1

module _ (l : List ℕ) (fair : bad_length old_form (length l) ≡ false) where
  all_parts : verdict_of old_form l ≡ verdict_from old_form [] 0 (take 11 l ∷ from l 1)
  unfolding verdict_of
  all_parts = rw fair (ap (λ (n : ℕ). verdict_from old_form [] 0 (parts old_form n l)) (one_part old_form l fair))

  module _ (n : ℕ) (s : Subject) (w : OpensOld (take 11 l) n s) where
    pub first_refused : (a : Result OutcomeResult FileRefusal) → (n ≡ 0 → ⊥) → file_values a ≡ refused n 0 → JudgesOldFile l a
    first_refused a z e =
        let number = opened_number (take 11 l) n s w in
        let met : eqb (refusal_of_part old_form [] (take 11 l)) 0 ≡ false = ne_eqb _ 0 (λ q. z (number ∙ q)) in
        record { answer = e ∙ ap (λ (m : ℕ). refused m 0) number ∙ sym (all_parts ∙ rw met) }

    pub first_standing : n ≡ 0 → Standing l s 1
    first_standing z =
        let none : eqb (refusal_of_part old_form [] (take 11 l)) 0 ≡ true = eq-eqb _ 0 (sym (opened_number (take 11 l) n s w) ∙ z) in
        record {
          before = record_of_bytes old_form (take 11 l) ∷ [];
          taken = first_taken (take 11 l) n s w z;
          rest = all_parts ∙ rw none;
        }

-- ---- a later record

-- records that are taken are some
later_part : {s : Subject} (rs : List Record) (part : List ℕ) → Taken (map tenfold rs) s →
    refusal_of_part old_form rs part ≡ first (refusals_of_bytes old_form part ++ refusals_of_adding old_unit rs (record_of_bytes old_form part))
later_part [] part h = let q = ap length h.opens in absurd (let f : ⊥ = omega arith in f)
later_part (b ∷ rs) part h = refl

module _ (rs : List Record) {s t : Subject} {part : List ℕ} {n : ℕ} (h : Taken (map tenfold rs) s) (w : AddsOld s part n t) where
  abbrev later : Record
  later = record_of_bytes old_form part

  adds_as : add_number w.answer ≡ first (refusals_of_adding old_unit rs later)
  adds_as = adding h (tenfold later) w.adds ∙ ap first (tenfold_lists.adding rs later)

  later_number : n ≡ refusal_of_part old_form rs part
  later_number = number_of part n (add_number w.answer) (refusals_of_adding old_unit rs later) w.number adds_as ∙ sym (later_part rs part h)

  later_taken : n ≡ 0 → Taken (map tenfold (rs ++ (later ∷ []))) t
  later_taken z =
      let done = adds_as ∙ none_behind part (refusals_of_adding old_unit rs later) (sym (later_part rs part h) ∙ sym later_number ∙ z) in
      subst (λ (l : List Record). Taken l t) (sym (map-append tenfold rs (later ∷ []))) (more h (tenfold later) w.adds done)

module _ (l : List ℕ) (s : Subject) (k : ℕ) (w : Standing l s k) where
  module _ (h : k < length l / 11) (n : ℕ) (t : Subject) (v : AddsOld s (part_at old_form l k) n t) where
    next_part : verdict_of old_form l ≡ verdict_from old_form w.before k (part_at old_form l k ∷ from l (k + 1))
    next_part = w.rest ∙ ap (verdict_from old_form w.before k) (one_more old_form l (length l / 11) k h)

    pub turn_refused : (a : Result OutcomeResult FileRefusal) → (n ≡ 0 → ⊥) → file_values a ≡ refused n k → JudgesOldFile l a
    turn_refused a z e =
        let number = later_number w.before w.taken v in
        let met : eqb (refusal_of_part old_form w.before (part_at old_form l k)) 0 ≡ false = ne_eqb _ 0 (λ q. z (number ∙ q)) in
        record { answer = e ∙ ap (λ (m : ℕ). refused m k) number ∙ sym (next_part ∙ rw met) }

    pub turn : n ≡ 0 → Standing l t (k + 1)
    turn z =
        let none : eqb (refusal_of_part old_form w.before (part_at old_form l k)) 0 ≡ true = eq-eqb _ 0 (sym (later_number w.before w.taken v) ∙ z) in
        let r = record_of_bytes old_form (part_at old_form l k) in
        record {
          before = w.before ++ (r ∷ []);
          taken = later_taken w.before w.taken v z;
          rest = next_part ∙ rw none (ap (λ (j : ℕ). verdict_from old_form (w.before ++ (r ∷ [])) j (from l (k + 1))) (sym (add-one k)));
        }

  pub ended : length l / 11 ≤ k → (a : Result OutcomeResult FileRefusal) → EndsFile s (k - 1) a → JudgesOldFile l a
  ended h a v =
      let z : length l / 11 - k ≡ 0 = omega arith in
      let none : from l k ≡ [] = rw z in
      record { answer = ending w.taken (k - 1) a v ∙ ended_same w.before (k - 1) ∙ sym (w.rest ∙ ap (verdict_from old_form w.before k) none) }

-- ---- an accepted file

read_from : (rs : List Record) (k : ℕ) (ps : List (List ℕ)) {o : Outcome} → verdict_from old_form rs k ps ≡ accepted o → AllRead ps
read_from rs k [] e = tt
read_from rs k (part ∷ ps) {o} e = go (eqb (refusal_of_part old_form rs part) 0) refl e (read_from (rs ++ (record_of_bytes old_form part ∷ [])) (suc k) ps)
  where
    rest : Verdict
    rest = verdict_from old_form (rs ++ (record_of_bytes old_form part ∷ [])) (suc k) ps

    read_first : (rs : List Record) → refusal_of_part old_form rs part ≡ 0 → refusal_of_bytes old_form part ≡ 0
    read_first [] q = ((none_of_both (refusals_of_bytes old_form part) _ (bytes_numbered old_form part)).0 q).0
    read_first (b ∷ rs) q = ((none_of_both (refusals_of_bytes old_form part) _ (bytes_numbered old_form part)).0 q).0

    go : (x : Bool) → eqb (refusal_of_part old_form rs part) 0 ≡ x → pick x rest (refused (refusal_of_part old_form rs part) k) ≡ accepted o →
        (rest ≡ accepted o → AllRead ps) → AllRead (part ∷ ps)
    go false q f next = absurd (apart refl f)
    go true q f next = (read_first rs (eqb-true (refusal_of_part old_form rs part) 0 q), next f)

pub all_read : (s : List ℕ) {o : Outcome} → verdict_of old_form s ≡ accepted o → AllRead (parts_of old_form s)
unfolding verdict_of
all_read s {o} e = go (bad_length old_form (length s)) refl e
  where
    go : (x : Bool) → bad_length old_form (length s) ≡ x → unless_refused (13 when x ∷ []) 0 (verdict_from old_form [] 0 (parts_of old_form s)) ≡ accepted o → AllRead (parts_of old_form s)
    go true q f = absurd (apart refl f)
    go false q f = read_from [] 0 (parts_of old_form s) f
