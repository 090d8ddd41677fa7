-- Which use of a descriptor's instance a call is.
use Rattle.std.specs.Prelude.{ℕ, ◌+◌, ◌*◌, ◌%◌, ◌==◌, Bool, not, ◌&&◌, cond, Option, None, Some}
use Rattle.locus_ids.specs.declared.ids.EpochId.{EpochId}
use Rattle.locus_ids.specs.declared.ids.Serial.{Serial}
use Rattle.trace_book.specs.declared.call.Call.{Call}
use Rattle.trace_book.specs.declared.descriptor.Beginning.{Beginning}
use Rattle.trace_book.specs.declared.descriptor.Beginning.TheVariants.{Denied, Uses, Walks, Reopens, Frees}
use Rattle.key_places.specs.declared.key.Key.{Key}
use Rattle.promises.specs.Past.{CallSoFar, is_close, is_on}
use Rattle.audit_calls.specs.declared.uses.Use.{Use}

-- the call began on a descriptor of this instance as its n-th use
abbrev pub uses_as : EpochId → Serial → ℕ → CallSoFar → Bool
uses_as e i n k = is_on k.begins e i && (not (is_close k.words) && (k.turn == n))

-- the call is the close of a descriptor of this instance
abbrev pub closes : EpochId → Serial → CallSoFar → Bool
closes e i k = is_on k.begins e i && is_close k.words

-- What such a call is found by: the names of the epoch and of the instance, with the last bits of the turn. A call that is found so
-- is looked at whole.

-- how many turns a key tells apart
abbrev pub turn_span : ℕ
turn_span = 256 * 256

abbrev pub user_key : EpochId → Serial → ℕ → Key
user_key e i n = record { first = e.number; second = e.boot; third = i.serial; fourth = i.us + 256 * e.site + turn_span * (n % turn_span) }

abbrev pub closer_key : EpochId → Serial → Key
closer_key e i = user_key e i 0

abbrev pub no_use_key : Key
no_use_key = record { first = 0; second = 0; third = 0; fourth = 0 }

abbrev pub key_of_use : Beginning → Call → ℕ → Key
key_of_use (Uses e i) words n = cond (is_close words) (closer_key e i) (user_key e i n)
key_of_use (Denied why) words n = no_use_key
key_of_use (Walks id) words n = no_use_key
key_of_use (Reopens version last) words n = no_use_key
key_of_use Frees words n = no_use_key

abbrev pub use_key : CallSoFar → Key
use_key k = key_of_use k.begins k.words k.turn

-- Both kinds of use as they are sought in code: a turn, or none for a close.

abbrev pub has_turn : Option ℕ → CallSoFar → Bool
has_turn None k = is_close k.words
has_turn (Some n) k = not (is_close k.words) && (k.turn == n)

abbrev pub is_use : Use → CallSoFar → Bool
is_use u k = is_on k.begins u.epoch u.inst && has_turn u.turn k

abbrev pub turn_or_none : Option ℕ → ℕ
turn_or_none None = 0
turn_or_none (Some n) = n

abbrev pub sought_key : Use → Key
sought_key u = user_key u.epoch u.inst (turn_or_none u.turn)
