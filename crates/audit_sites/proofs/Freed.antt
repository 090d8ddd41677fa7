-- A call that is no close frees no number.
use Rattle.std.proofs.Common.{◌≡◌, ℕ, false, not, List, [], ◌∷◌, refl, ap}
use Rattle.std.specs.Prelude.{filter}
use Rattle.trace_book.specs.declared.call.Call.{Call}
use Rattle.trace_book.specs.declared.call.Call.TheVariants as call
use Rattle.promises.specs.Past.{Named}
use Rattle.promises.specs.After.{is_freed}

not_freed : (words : Call) (process : ℕ) (d : Named) → ((fd : ℕ) → words ≡ call.Close fd → ⊥) → is_freed words process d ≡ false
not_freed (call.Create path sites) process d h = refl
not_freed (call.MakeDir path) process d h = refl
not_freed (call.Unlink path) process d h = refl
not_freed (call.RemoveDir path) process d h = refl
not_freed (call.Rename path name) process d h = refl
not_freed (call.List path) process d h = refl
not_freed (call.Stat path) process d h = refl
not_freed (call.Mail path bytes) process d h = refl
not_freed (call.Mails path) process d h = refl
not_freed (call.Open path mode) process d h = refl
not_freed (call.Read fd at len) process d h = refl
not_freed (call.Write fd at bytes) process d h = refl
not_freed (call.Cut fd len) process d h = refl
not_freed (call.Commit fd) process d h = refl
not_freed (call.Abort fd) process d h = refl
not_freed (call.Close fd) process d h = absurd (h fd refl)
not_freed (call.Mend file) process d h = refl

pub none_freed : (words : Call) (process : ℕ) → ((fd : ℕ) → words ≡ call.Close fd → ⊥) → (ds : List Named) → ds ≡ filter (λ (d : Named). not (is_freed words process d)) ds
none_freed words process h [] = refl
none_freed words process h (d ∷ ds) =
    rw (not_freed words process d h) (ap (λ (xs : List Named). d ∷ xs) (none_freed words process h ds))
