-- A refusal is no acceptance, and acceptances that are the same have the same outcome.
-- Assumes nothing.
use mathlib.Core.Path.{◌≡◌, sym, ◌∙◌, ap}
use mathlib.Core.Bool.{Bool, true, false}
use Prim.Native.Nat.{ℕ}
use Rattle.laws.proofs.Tests.{never}
use Rattle.outcome_rules.specs.Values.{Outcome}
use Rattle.file.specs.Verdict.{Verdict, refused, accepted}

abbrev is_accepted : Verdict → Bool
is_accepted (refused n k) = false
is_accepted (accepted o) = true

abbrev outcome_in : Outcome → Verdict → Outcome
outcome_in other (refused n k) = other
outcome_in other (accepted o) = o

pub apart : {v : Verdict} {n k : ℕ} {o : Outcome} → v ≡ refused n k → v ≡ accepted o → ⊥
apart e f = never (sym (ap is_accepted (sym e ∙ f)))

pub accepted_same : {o u : Outcome} → accepted o ≡ accepted u → o ≡ u
accepted_same {o} e = ap (outcome_in o) e
