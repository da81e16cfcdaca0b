-- The digits that the code stores are those of the number.
-- Assumes nothing.
use mathlib.Core.Path.{◌≡◌, sym, ◌∙◌, ap}
use mathlib.Core.List.{[], ◌∷◌, ◌++◌, append_assoc}
use Prim.Native.Nat.{ℕ, ◌+◌, ◌/◌, ◌%◌, ◌≤◌, ◌<◌}
use native.Mathlib.Omega.{arith}
use Rattle.listing_text.specs.Decimal.{digit, decimal}
use Rattle.listing_text.specs.Text.{tenths_text}
use Rattle.listing_text.proofs.DecimalDigits.{one_digit, two_digits, three_digits, four_digits, five_digits}
use Rattle.listing.specs.declared.page.Lines.{Lines}
use Rattle.listing.specs.Writing.{Puts}
use Rattle.listing.proofs.TextsWritten.{as_puts}

module _ (a b : Lines) (n e : ℕ) (eq : e ≡ digit (n % 10)) where
  -- the number is written, in at most five bytes
  abbrev Written : Type 0
  Written = Puts a (decimal n) b × (b.at ≤ a.at + 5)

  pub wrote_one : n < 10 → Puts a (e ∷ []) b → Written
  wrote_one h w =
      let same : n % 10 ≡ n = omega arith in
      (as_puts (ap (λ (x : ℕ). x ∷ []) (eq ∙ ap digit same) ∙ sym (one_digit n h)) w, omega (arith, w.wrote.place))

  module _ (h₁ : 10 ≤ n) (d : ℕ) (dq : d ≡ digit (n / 10 % 10)) where
    pub wrote_two : n < 100 → Puts a (d ∷ e ∷ []) b → Written
    wrote_two h w =
        let same : n / 10 % 10 ≡ n / 10 = omega arith in
        (as_puts ((λ i. (dq ∙ ap digit same) i ∷ eq i ∷ []) ∙ sym (two_digits n h₁ h)) w, omega (arith, w.wrote.place))

    module _ (h₂ : 100 ≤ n) (c : ℕ) (cq : c ≡ digit (n / 100 % 10)) where
      pub wrote_three : n < 1000 → Puts a (c ∷ d ∷ e ∷ []) b → Written
      wrote_three h w =
          let same : n / 100 % 10 ≡ n / 100 = omega arith in
          (as_puts ((λ i. (cq ∙ ap digit same) i ∷ dq i ∷ eq i ∷ []) ∙ sym (three_digits n h₂ h)) w, omega (arith, w.wrote.place))

      module _ (h₃ : 1000 ≤ n) (f : ℕ) (fq : f ≡ digit (n / 1000 % 10)) where
        pub wrote_four : n < 10000 → Puts a (f ∷ c ∷ d ∷ e ∷ []) b → Written
        wrote_four h w =
            let same : n / 1000 % 10 ≡ n / 1000 = omega arith in
            (as_puts ((λ i. (fq ∙ ap digit same) i ∷ cq i ∷ dq i ∷ eq i ∷ []) ∙ sym (four_digits n h₃ h)) w, omega (arith, w.wrote.place))

        pub wrote_five : 10000 ≤ n → n < 100000 → (g : ℕ) → g ≡ digit (n / 10000) → Puts a (g ∷ f ∷ c ∷ d ∷ e ∷ []) b → Written
        wrote_five h₄ h g gq w =
            (as_puts ((λ i. gq i ∷ fq i ∷ cq i ∷ dq i ∷ eq i ∷ []) ∙ sym (five_digits n h₄ h)) w, omega (arith, w.wrote.place))

-- the tenths of a percent and the newline
pub tenths_text_lem : (n d : ℕ) → d ≡ digit (n % 10) → decimal (n / 10) ++ (46 ∷ d ∷ 10 ∷ []) ≡ tenths_text n ++ (10 ∷ [])
unfolding tenths_text
tenths_text_lem n d e =
    ap (λ (x : ℕ). decimal (n / 10) ++ (46 ∷ x ∷ 10 ∷ [])) e ∙ sym (append_assoc (decimal (n / 10)) (46 ∷ digit (n % 10) ∷ []) (10 ∷ []))
