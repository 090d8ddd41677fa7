use Rattle.std.proofs.Common.{ℕ, List, length, nat_eq, refl, ap}
use Rattle.std.proofs.lemmas.Bool.{false≢true}
use Rattle.std.specs.Fmt.{digits}
use Rattle.lawful_trace.specs.Samples.{file, stamp}
use Rattle.box_samples.proofs.tried.wrong_boxes_are_told.Goals as goal

-- names of messages tell numbers; two must be there
pub returns-clause-lost : goal.returns-clause-lost
unfolding digits
returns-clause-lost c = (record { handled = refl; once = refl }, refl, refl, λ boxes. false≢true (ap (λ (names : List (List ℕ)). nat_eq (length names) 2) (boxes (file 0 2) (stamp 1 5) refl refl)))

pub returns-clause-back : goal.returns-clause-back
unfolding digits
returns-clause-back c = (record { handled = refl; once = refl }, refl, refl, λ boxes. false≢true (ap (λ (names : List (List ℕ)). nat_eq (length names) 2) (boxes (file 0 2) (stamp 1 5) refl refl)))

pub returns-clause-twice : goal.returns-clause-twice
unfolding digits
returns-clause-twice c = (record { handled = refl; once = refl }, refl, refl, λ boxes. false≢true (ap (λ (names : List (List ℕ)). nat_eq (length names) 2) (boxes (file 0 2) (stamp 1 5) refl refl)))

pub returns-clause-nobody : goal.returns-clause-nobody
unfolding digits
returns-clause-nobody c = (record { handled = refl; once = refl }, refl, refl, λ boxes. false≢true (ap (λ (names : List (List ℕ)). nat_eq (length names) 2) (boxes (file 0 2) (stamp 1 5) refl refl)))
