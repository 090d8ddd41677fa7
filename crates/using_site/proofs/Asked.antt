-- The waiting call that an answer is for, by its key.
use Rattle.std.proofs.Common.{◌≡◌, ℕ, Bool, List, Option, Some, None, refl, sym, ap, ◌∙◌, subst}
use Rattle.role_steps.proofs.of_plain_facts.Options.{some_same}
use Rattle.role_steps.specs.Tables.{row, first_that}
use Rattle.role_steps.specs.Requests.{waiting_key}
use Rattle.role_steps.specs.declared.users.WaitingCall.{WaitingCall}
use Rattle.keyed_tables.specs.Rising.{Rising}
use Rattle.waiting_calls.specs.Rows.{key_of}
use Rattle.using_site.proofs.Taken.{row_of_first}

none_key : {P : Type 0} (b : ℕ) → ◌≡◌ {A = Option ℕ} None (Some b) → P
none_key b e = absurd (cc)

-- where a key is found, some call passes, and that key is its row's
pub asker : {P : Type 0} (test : WaitingCall → Bool) (rows : List WaitingCall) (key : ℕ) → Rising waiting_key rows → ◌≡◌ {A = Option ℕ} (Some key) (key_of (first_that test rows)) → ((w : WaitingCall) → first_that test rows ≡ Some w → row waiting_key key rows ≡ Some w → P) → P
asker {P = P} test rows key r h f = by (first_that test rows) refl where
  by : (o : Option WaitingCall) → first_that test rows ≡ o → P
  by None e = none_key key (sym (h ∙ ap key_of e))
  by (Some w) e = f w e (subst (λ k. row waiting_key k rows ≡ Some w) (some_same (waiting_key w) key (sym (h ∙ ap key_of e))) (row_of_first waiting_key test w rows r e))
