-- Serial numbers at a using site: each is held by one waiting call or by one open descriptor, whose instance is there.
use Rattle.std.specs.Prelude.{ℕ, ◌≡◌, ◌≤◌, ◌+◌, ◌⊎◌, true, List, [], ◌∷◌, Option}
use Rattle.locus_ids.specs.declared.ids.EpochId.{EpochId}
use Rattle.trace_book.specs.declared.call.Call.{Call}
use Rattle.trace_book.specs.declared.call.Call.TheVariants as call
use Rattle.trace_book.specs.declared.descriptor.Beginning.{Beginning}
use Rattle.trace_book.specs.declared.descriptor.Beginning.TheVariants.{Uses}
use Rattle.call_rules.specs.Descriptors.{is_in}
use Rattle.call_rules.specs.declared.answer.Answer.{Answer}
use Rattle.call_rules.specs.declared.answer.Answer.TheVariants as answer
use Rattle.role_steps.specs.Views.{Users}
use Rattle.role_steps.specs.Requests.{waiting_key, descriptor_key}
use Rattle.role_steps.specs.Using.{last_opened, no_serial}
use Rattle.role_steps.specs.declared.users.Asking.{Asking}
use Rattle.role_steps.specs.declared.users.Asking.TheVariants as asking
use Rattle.role_steps.specs.declared.users.WaitingCall.{WaitingCall}
use Rattle.role_steps.specs.declared.users.DescriptorRow.{DescriptorRow}
use Rattle.role_steps.specs.declared.users.UserInstance.{UserInstance}
use Rattle.the_run.specs.Kept.{Among}
use Rattle.row_laws.specs.CallRows.Scripts.{EndsOpened}

-- the keys ascend, from this one on
abbrev pub Rises : {A : Type 0} → (A → ℕ) → ℕ → List A → Type 0
Rises key n [] = Unit {0}
Rises key n (x ∷ xs) = (n ≤ key x) × Rises key (key x + 1) xs

-- ---- what a call holds ----

-- the request asks an open or a close under this serial number
abbrev pub AsksUnder : ℕ → Asking → Type 0
AsksUnder s (asking.Open serial file how) = serial ≡ s
AsksUnder s (asking.Close serial ss) = serial ≡ s
AsksUnder s _ = ⊥

-- the answer opens it
abbrev pub Opens : ℕ → Answer → Type 0
Opens s (answer.Opened inst ino) = inst.serial ≡ s
Opens s (answer.Reading inst version) = inst.serial ≡ s
Opens s (answer.Merging inst kept) = inst.serial ≡ s
Opens s _ = ⊥

-- one of the answers does
abbrev pub OpenedBy : ℕ → List Answer → Type 0
OpenedBy s [] = ⊥
OpenedBy s (a ∷ rest) = Opens s a ⊎ OpenedBy s rest

abbrev pub BeginsOn : ℕ → Beginning → Type 0
BeginsOn s (Uses epoch inst) = inst.serial ≡ s
BeginsOn s _ = ⊥

-- the call closes the instance of its descriptor
abbrev pub Frees : ℕ → Call → Beginning → Type 0
Frees s (call.Close fd) begins = BeginsOn s begins
Frees s _ begins = ⊥

-- what the call may close
abbrev pub Own : ℕ → WaitingCall → Type 0
Own s w = OpenedBy s w.answers ⊎ Frees s w.words w.begins

abbrev pub Holds : ℕ → WaitingCall → Type 0
Holds s w = AsksUnder s w.asking ⊎ Own s w

-- ---- descriptors ----

abbrev pub serial_of : DescriptorRow → ℕ
serial_of d = d.descriptor.inst.serial

-- the descriptor is of the epoch that the site is in
abbrev pub IsOpenIn : Option EpochId → DescriptorRow → Type 0
IsOpenIn now d = is_in now d.descriptor.epoch ≡ true

-- an instance of this serial number is there
abbrev pub HasInstance : ℕ → Users → Type 0
HasInstance s u = (i : UserInstance) × (Among i u.instances × (i.serial ≡ s))

abbrev pub AsksOperation : Asking → Type 0
AsksOperation (asking.Op serial ss n o seen) = Unit {0}
AsksOperation _ = ⊥

-- what the call opened last is there while it asks an operation
abbrev pub HasOpened : Users → WaitingCall → Type 0
HasOpened u w = AsksOperation w.asking → EndsOpened w.answers → HasInstance (last_opened no_serial w.answers).serial u

-- the epochs of descriptors are known; serial numbers are of one call or of one descriptor of the epoch at hand
pub record Owned (known : EpochId → Type 0) (now : Option EpochId) (u : Users) : Type 0 where
  pub waiting : Rises waiting_key 0 u.waiting
  pub descriptors : Rises descriptor_key 0 u.descriptors
  pub held_low : (w : WaitingCall) (s : ℕ) → Among w u.waiting → Holds s w → s ≤ u.serials
  pub one_call : (w x : WaitingCall) (s : ℕ) → Among w u.waiting → Among x u.waiting → Holds s w → Holds s x → waiting_key w ≡ waiting_key x
  pub low : (d : DescriptorRow) → Among d u.descriptors → serial_of d ≤ u.serials
  pub no_call : (d : DescriptorRow) (w : WaitingCall) → Among d u.descriptors → IsOpenIn now d → Among w u.waiting → Holds (serial_of d) w → ⊥
  pub one_descriptor : (d e : DescriptorRow) → Among d u.descriptors → Among e u.descriptors → IsOpenIn now d → IsOpenIn now e → serial_of d ≡ serial_of e → descriptor_key d ≡ descriptor_key e
  pub there : (d : DescriptorRow) → Among d u.descriptors → IsOpenIn now d → HasInstance (serial_of d) u
  pub asked_there : (w : WaitingCall) → Among w u.waiting → HasOpened u w
  pub epochs : (d : DescriptorRow) → Among d u.descriptors → known d.descriptor.epoch
