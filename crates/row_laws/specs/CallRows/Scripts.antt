-- What a script may close, and when it replies to an open.
use Rattle.std.specs.Prelude.{◌≡◌, ◌⊎◌, true, List, [], ◌∷◌, Option, Some}
use Rattle.locus_ids.specs.declared.ids.EpochId.{EpochId}
use Rattle.locus_ids.specs.declared.ids.Serial.{Serial}
use Rattle.trace_book.specs.declared.call.Call.{Call}
use Rattle.trace_book.specs.declared.call.Call.TheVariants as call
use Rattle.trace_book.specs.declared.descriptor.Beginning.{Beginning}
use Rattle.trace_book.specs.declared.descriptor.Beginning.TheVariants as begins
use Rattle.trace_book.specs.declared.descriptor.Descriptor.{Descriptor}
use Rattle.trace_book.specs.declared.reply.Reply.{Reply}
use Rattle.call_rules.specs.Descriptors.{is_in}
use Rattle.trace_book.specs.declared.reply.Reply.TheVariants as reply
use Rattle.call_rules.specs.declared.answer.Answer.{Answer}
use Rattle.call_rules.specs.declared.answer.Answer.TheVariants as answer
use Rattle.call_rules.specs.declared.want.Want.{Want}
use Rattle.call_rules.specs.declared.want.Want.TheVariants as want

-- ---- instances that are a call's own ----

-- what the answer opens is the call's own
abbrev pub OwnAnswer : (Serial → Type 0) → Answer → Type 0
OwnAnswer O (answer.Opened inst ino) = O inst
OwnAnswer O (answer.Reading inst version) = O inst
OwnAnswer O (answer.Merging inst kept) = O inst
OwnAnswer O _ = Unit {0}

-- a close has the instance of its descriptor
abbrev pub BeginsOwn : (Serial → Type 0) → Call → Beginning → Type 0
BeginsOwn O (call.Close fd) (begins.Uses epoch inst) = O inst
BeginsOwn O _ _ = Unit {0}

abbrev pub IsOpened : Answer → Type 0
IsOpened (answer.Opened inst ino) = Unit {0}
IsOpened (answer.Reading inst version) = Unit {0}
IsOpened _ = ⊥

-- the last answer opens an instance
abbrev pub EndsOpened : List Answer → Type 0
EndsOpened [] = ⊥
EndsOpened (a ∷ []) = IsOpened a
EndsOpened (a ∷ b ∷ rest) = EndsOpened (b ∷ rest)

-- one operation was done on the instance that was opened
abbrev pub HasRead : List Answer → Type 0
HasRead (a ∷ answer.Did result ∷ []) = IsOpened a
HasRead _ = ⊥

abbrev pub HoldsOpened : List Answer → Type 0
HoldsOpened answers = EndsOpened answers ⊎ HasRead answers

-- the bytes of a version that was opened again are those of its one operation
abbrev pub GivesRead : Beginning → List Answer → Want → Type 0
GivesRead (begins.Reopens version last) answers (want.Give (reply.Data bytes)) = HasRead answers
GivesRead _ answers _ = Unit {0}

abbrev pub ClosedReply : Type 0 → Reply → Type 0
ClosedReply E (reply.Opened fd) = E
ClosedReply E _ = Unit {0}

-- what is closed is the call's own, and an open is replied to so
abbrev pub Closed : (Serial → Type 0) → Type 0 → Want → Type 0
Closed O E (want.Close i) = O i
Closed O E (want.Give r) = ClosedReply E r
Closed O E _ = Unit {0}

-- ---- the first request ----

-- the call begins on the instance of its descriptor
abbrev pub BeginsWith : Beginning → Serial → Type 0
BeginsWith b i = (e : EpochId) × (b ≡ begins.Uses e i)

-- the script asks something, or replies; an operation or a close is asked of the descriptor's instance
abbrev pub Starts : Beginning → Want → Type 0
Starts b (want.Do i o) = BeginsWith b i
Starts b (want.Close i) = BeginsWith b i
Starts b want.Never = ⊥
Starts b _ = Unit {0}

-- the descriptor is open in the epoch at hand, with this instance
pub record OnDescriptor (now : Option EpochId) (o : Option Descriptor) (i : Serial) : Type 0 where
  pub descriptor : Descriptor
  pub is : o ≡ Some descriptor
  pub open_now : is_in now descriptor.epoch ≡ true
  pub inst_is : descriptor.inst ≡ i
