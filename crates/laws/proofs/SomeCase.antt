-- Some case of a declared answer has a value.
-- Assumes nothing.
use mathlib.Core.Path.{◌≡◌}
use mathlib.Core.Bool.{Bool, true, false}
use Rattle.laws.specs.Choice.{pick}

abbrev pub Some : {A W : Type 0} → (A → W) → W → Type 0
Some {A} value v = (a : A) × (value a ≡ v)

pub pick_some : {A W : Type 0} (value : A → W) (x : Bool) (v w : W) → Some value v → Some value w → Some value (pick x v w)
pick_some value true v w a b = a
pick_some value false v w a b = b
