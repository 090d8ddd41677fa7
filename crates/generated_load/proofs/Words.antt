-- Three words of a generator are a draw.
use Rattle.std.proofs.Common.{◌≡◌, ◌∙◌, ℕ, ap, ap₂}
use Rattle.rand_pcg.specs.Lcg.{Lcg}
use Rattle.rand_pcg.specs.Pcg.{pcg32}
use Rattle.the_run.specs.Commands.{drawn}
use Rattle.generated_load.specs.Draws.{draw}

module _ (step : Lcg → ℕ × Lcg) (g one two three : Lcg) (a s n : ℕ) (first : (a, one) ≡ step g) (second : (s, two) ≡ step one) (third : (n, three) ≡ step two) where
  after_one : one ≡ (step g).1
  after_one = ap (λ (p : ℕ × Lcg). p.1) first

  second_from : (s, two) ≡ step (step g).1
  second_from = second ∙ ap step after_one

  third_from : (n, three) ≡ step (step (step g).1).1
  third_from = third ∙ ap step (ap (λ (p : ℕ × Lcg). p.1) second_from)

  pub three_words : drawn a s n ≡ drawn (step g).0 (step (step g).1).0 (step (step (step g).1).1).0
  three_words =
      ap₂ (λ x y. drawn x y n) (ap (λ (p : ℕ × Lcg). p.0) first) (ap (λ (p : ℕ × Lcg). p.0) second_from)
      ∙ ap (drawn (step g).0 (step (step g).1).0) (ap (λ (p : ℕ × Lcg). p.0) third_from)

  pub after_three : three ≡ (step (step (step g).1).1).1
  after_three = ap (λ (p : ℕ × Lcg). p.1) third_from

module _ (g one two three : Lcg) (a s n : ℕ) (first : (a, one) ≡ pcg32 g) (second : (s, two) ≡ pcg32 one) (third : (n, three) ≡ pcg32 two) where
  pub is_drawn : drawn a s n ≡ (draw g).0
  unfolding draw
  is_drawn = three_words pcg32 g one two three a s n first second third

  pub is_after : three ≡ (draw g).1
  unfolding draw
  is_after = after_three pcg32 g one two three a s n first second third
