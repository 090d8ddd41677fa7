-- What is true of the epochs in the past of consistent records, each by itself.
use Rattle.std.specs.Prelude.{ℕ, ◌≡◌, ◌==◌, ◌≤◌, Bool, true, List, length, filter, Some}
use Rattle.std.specs.List.{find, AllByRecursion}
use Rattle.locus_ids.specs.declared.ids.EpochId.{EpochId}
use Rattle.locus_ids.specs.declared.ids.Serial.{Serial}
use Rattle.trace_book.specs.Same.{same_serial}
use Rattle.tree_model.specs.declared.instance.Granted.{Granted}
use Rattle.promises.specs.Past.{Epoch, Instance, Left, is_named}
use Rattle.promises.specs.After.{is_epoch, is_copy_below}
use Rattle.past_laws.specs.Agreement.{ascends}
use Rattle.audit_laws.specs.Tidy.Sites.{HasEachOnce}

abbrev pub is_grant : Serial → Granted → Bool
is_grant i g = same_serial g.inst i

pub record EpochStands (t : Epoch) : Type 0 where
  -- a grant has a name of its own, and is open once, as it was granted
  pub grants : (i : Serial) → length (filter (is_grant i) t.granted) ≤ 1
  pub single : (i : Serial) → length (filter (is_named i) t.opened) ≤ 1
  pub as_granted : AllByRecursion (λ (x : Instance). find (is_grant x.grant.inst) t.granted ≡ Some x.grant) t.opened
  -- versions ascend, each once
  pub known : ascends is_copy_below t.known ≡ true
  -- a site joins once, and what it had when it left has a file once
  pub joined : (site : ℕ) → length (filter (λ n. n == site) t.joined) ≤ 1
  pub left : AllByRecursion (λ (l : Left). HasEachOnce l.held) t.left

pub record EpochsStand (epochs : List Epoch) : Type 0 where
  -- an epoch is there once
  pub once : (e : EpochId) → length (filter (is_epoch e) epochs) ≤ 1
  pub each : AllByRecursion EpochStands epochs
