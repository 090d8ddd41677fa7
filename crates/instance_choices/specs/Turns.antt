-- Which operations of an instance come next: those of the number after the one that was done last.
use Rattle.std.specs.Prelude.{◌≡◌, ◌≢◌, ◌<◌, ◌+◌, ◌==◌, ℕ, true, false}

-- after the operations up to a number were done, n is the next one
pub record IsNext (done n : ℕ) : Type 0 where
  pub apart : n ≢ done
  pub next : (n == done + 1) ≡ true
  pub few : done < 4294967295

-- n is neither the last one nor the next
pub record IsOther (done n : ℕ) : Type 0 where
  pub apart : n ≢ done
  pub later : (n == done + 1) ≡ false
