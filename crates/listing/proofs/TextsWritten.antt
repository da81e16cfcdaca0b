-- One text written behind another is the two texts written as one, and texts that are the same are written alike.
-- Assumes nothing.
use mathlib.Core.Path.{◌≡◌, refl, sym, ◌∙◌, subst}
use mathlib.Core.List.{List, [], ◌∷◌, ◌++◌}
use Prim.Native.Nat.{ℕ, suc, ◌+◌}
use native.Mathlib.Nat.{add-zero}
use native.Mathlib.Omega.{arith}
use lib.ListN.{length, length-append}
use lib.Seq.{sets}
use Rattle.listing.specs.declared.page.Lines.{Lines}
use Rattle.listing.specs.Writing.{Wrote, Puts}

sets_append : (o : List ℕ) (i : ℕ) (a b : List ℕ) → sets (sets o i a) (i + length a) b ≡ sets o i (a ++ b)
sets_append o i [] b = rw add-zero
sets_append o i (x ∷ a) b =
    let e : i + suc (length a) ≡ suc i + length a = omega arith in
    rw e (sets_append _ (suc i) a b)

pub then : {o : List ℕ} {at : ℕ} {a : List ℕ} {r : ℕ} {o₁ b : List ℕ} {r₁ : ℕ} {o₂ : List ℕ} →
    Wrote o at a r o₁ → Wrote o₁ r b r₁ o₂ → Wrote o at (a ++ b) r₁ o₂
then {o} {at} {a} {r} {o₁} {b} u w =
    record { place = w.place ∙ rw (u.place, length-append) (omega arith); stored = w.stored ∙ rw (u.stored, u.place) (sets_append o at a b) }

pub nothing : (o : List ℕ) (at : ℕ) → Wrote o at [] at o
nothing o at = record { place = sym (add-zero at); stored = refl }

-- the same text by another name
pub as_text : {o : List ℕ} {at : ℕ} {a b : List ℕ} {r : ℕ} {o₁ : List ℕ} → a ≡ b → Wrote o at a r o₁ → Wrote o at b r o₁
as_text {o} {at} {a} {b} {r} {o₁} e w = subst (λ (t : List ℕ). Wrote o at t r o₁) e w

-- the same of lines in one page
pub then_puts : {a : Lines} {s : List ℕ} {b : Lines} {t : List ℕ} {c : Lines} → Puts a s b → Puts b t c → Puts a (s ++ t) c
then_puts u w = record { same_page = w.same_page ∙ u.same_page; same_length = w.same_length ∙ u.same_length; wrote = then u.wrote w.wrote }

pub as_puts : {a : Lines} {s t : List ℕ} {b : Lines} → s ≡ t → Puts a s b → Puts a t b
as_puts {a} {s} {t} {b} e w = subst (λ (x : List ℕ). Puts a x b) e w
