-- What stands along a lawful trace of calls, of who uses which instance, and of open instances: what the proof that both
-- formulations agree carries from record to record.
use Rattle.std.specs.Prelude.{ℕ, ◌≡◌, ◌==◌, ◌≤◌, ◌<◌, ◌⊎◌, Bool, true, false, not, cond, ◌&&◌, List, [], length, filter, None, Some}
use Rattle.std.specs.List.{AllByRecursion}
use Rattle.locus_ids.specs.declared.ids.CallId.{CallId}
use Rattle.locus_ids.specs.declared.ids.EpochId.{EpochId}
use Rattle.locus_ids.specs.declared.ids.Serial.{Serial}
use Rattle.locus_ids.specs.declared.refusal.Refusal.{Refusal}
use Rattle.locus_ids.specs.declared.refusal.Refusal.TheVariants.{Changed}
use Rattle.trace_book.specs.Same.{same_call}
use Rattle.trace_book.specs.declared.call.Call.{Call}
use Rattle.trace_book.specs.declared.call.Call.TheVariants as call
use Rattle.trace_book.specs.declared.descriptor.Beginning.{Beginning}
use Rattle.trace_book.specs.declared.descriptor.Beginning.TheVariants as begins
use Rattle.trace_book.specs.declared.descriptor.Descriptor.{Descriptor}
use Rattle.tree_model.specs.declared.accepted.Waiting.{Waiting}
use Rattle.tree_model.specs.Calls.{call_named, waiting, is_of, granted_to, opening_of}
use Rattle.tree_model.specs.Epochs.{boot_of, calls_accepted}
use Rattle.tree_model.specs.Folds.{Trace}
use Rattle.promises.specs.of_lawful_trace.Tables.{descriptor, uses_of, use_number, close_of, has_named, is_call}
use Rattle.promises.specs.Past.{Epoch, CallSoFar, Instance, is_on, is_close, is_named}

-- Names of calls.

-- the name is of an earlier boot of its site, or of a call that it has accepted in this one
abbrev pub IsLow : Trace → CallId → Type 0
IsLow trace d = (d.boot < boot_of trace d.site) ⊎ ((d.boot ≡ boot_of trace d.site) × (d.n ≤ calls_accepted trace d.site))

-- Calls that aren't mends.

abbrev pub is_mend : Call → Bool
is_mend (call.Mend f) = true
is_mend _ = false

-- a call of the process, besides mends
abbrev pub is_alone : ℕ → ℕ → Waiting → Bool
is_alone site process w = is_of site process w && not (is_mend w.words)

abbrev pub is_open : Call → Bool
is_open (call.Open path how) = true
is_open _ = false

-- Who uses an instance by a descriptor.

-- no call has used or closed the instance by a descriptor
pub record IsUntouched (trace : Trace) (e : EpochId) (i : Serial) : Type 0 where
  pub unused : uses_of trace e i ≡ []
  pub unclosed : close_of trace e i ≡ None

-- what a descriptor stands for was granted to a call that was answered by it, and nothing has closed it
pub record StandsFor (trace : Trace) (x : Descriptor) : Type 0 where
  pub call : CallId
  pub granted : granted_to trace x.epoch x.inst ≡ Some call
  pub named : has_named trace call ≡ true
  pub unclosed : close_of trace x.epoch x.inst ≡ None

-- by the folds over the trace alone
pub record UsersStand (trace : Trace) : Type 0 where
  -- calls are counted in each boot of their site, so that a new name is new
  pub low : (d : CallId) (w : Waiting) → call_named trace d ≡ Some w → IsLow trace d
  pub low_named : (d : CallId) → has_named trace d ≡ true → IsLow trace d
  pub low_uses : (e : EpochId) (i : Serial) → AllByRecursion (IsLow trace) (uses_of trace e i)
  pub low_close : (e : EpochId) (i : Serial) (d : CallId) → close_of trace e i ≡ Some d → IsLow trace d
  -- a call that waits was accepted, and no descriptor has answered it
  pub waits : AllByRecursion (λ (w : Waiting). IsLow trace w.call × (has_named trace w.call ≡ false)) (waiting trace)
  -- a process waits for one call besides mends
  pub alone : (site process : ℕ) → length (filter (is_alone site process) (waiting trace)) ≤ 1
  -- what was granted to a call last was granted to no other
  pub opening : (d : CallId) (x : Descriptor) → opening_of trace d ≡ Some x → granted_to trace x.epoch x.inst ≡ Some d
  pub stands : (site process fd : ℕ) (x : Descriptor) → descriptor trace site process fd ≡ Some x → StandsFor trace x
  -- an instance has one descriptor
  pub single : (s q n t r m : ℕ) (x y : Descriptor) → descriptor trace s q n ≡ Some x → descriptor trace t r m ≡ Some y → x.epoch ≡ y.epoch → x.inst ≡ y.inst → (s ≡ t) × (q ≡ r) × (n ≡ m)
  -- one that none has named isn't used by any
  pub untouched : (e : EpochId) (i : Serial) → ((d : CallId) → granted_to trace e i ≡ Some d → has_named trace d ≡ false) → IsUntouched trace e i

-- Open instances.

-- the call is use number n of the instance by the value: the read that has opened it is the first, and others use its descriptor
abbrev pub is_use : EpochId → Instance → ℕ → CallSoFar → Bool
is_use e x n k = cond (x.again && (n == 1)) (same_call k.id x.grant.call) (is_on k.begins e x.grant.inst && (not (is_close k.words) && (k.turn == n)))

-- it is so where it is by the folds
abbrev pub HasTurn : Trace → EpochId → Instance → CallSoFar → Type 0
HasTurn trace e x k = (n : ℕ) → is_use e x n k ≡ is_call (use_number (uses_of trace e x.grant.inst) n) k.id

pub record InstanceStands (trace : Trace) (calls : List CallSoFar) (e : EpochId) (x : Instance) : Type 0 where
  pub granted : granted_to trace e x.grant.inst ≡ Some x.grant.call
  pub uses : x.uses ≡ length (uses_of trace e x.grant.inst)
  -- the call that has opened it again is its first use
  pub first : x.again ≡ true → is_call (use_number (uses_of trace e x.grant.inst) 1) x.grant.call ≡ true
  pub named : x.named ≡ true → has_named trace x.grant.call ≡ true
  pub unnamed : x.named ≡ false → IsUntouched trace e x.grant.inst
  -- and no descriptor names it
  pub undescribed : x.named ≡ false → (site process fd : ℕ) (y : Descriptor) → descriptor trace site process fd ≡ Some y → y.epoch ≡ e → y.inst ≡ x.grant.inst → ⊥
  pub turns : AllByRecursion (HasTurn trace e x) calls

pub record EpochStands (trace : Trace) (calls : List CallSoFar) (t : Epoch) : Type 0 where
  pub instances : AllByRecursion (InstanceStands trace calls t.id) t.opened
  -- an instance is open once
  pub single : (i : Serial) → length (filter (is_named i) t.opened) ≤ 1

-- Calls.

-- a refusal that doesn't say that the epoch has changed
abbrev pub SaysOther : Refusal → Type 0
SaysOther (Changed e) = ⊥
SaysOther _ = Unit {0}

-- what is denied where the call begins is refused so
abbrev pub BeginsWell : Beginning → Type 0
BeginsWell (begins.Denied why) = SaysOther why
BeginsWell _ = Unit {0}

pub record CallStands (trace : Trace) (k : CallSoFar) : Type 0 where
  pub low : IsLow trace k.id
  pub closes : (e : EpochId) (i : Serial) → (is_on k.begins e i && is_close k.words) ≡ is_call (close_of trace e i) k.id
  pub used : (e : EpochId) (i : Serial) → is_on k.begins e i && not (is_close k.words) ≡ true → uses_of trace e i ≡ [] → ⊥
  pub well : BeginsWell k.begins
  -- a call that uses or closes an instance was made in its epoch
  pub within : (e : EpochId) (i : Serial) → is_on k.begins e i ≡ true → k.epoch ≡ Some e
