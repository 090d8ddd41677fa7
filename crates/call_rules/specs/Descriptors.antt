-- The descriptors of a process as a function from numbers, and where an accepted call begins by them.
use Rattle.std.specs.Prelude.{ℕ, zero, suc, ◌+◌, Bool, true, false, cond, Option, None, Some}
use Rattle.trace_book.specs.of_locus_ids.declared.ids.EpochId.{EpochId}
use Rattle.trace_book.specs.of_locus_ids.declared.ids.CallId.{CallId}
use Rattle.trace_book.specs.of_locus_ids.declared.refusal.Refusal.TheVariants.{BadDescriptor, Stale, ReadOnly, NoDescriptor, NoPartition, TooLong}
use Rattle.trace_book.specs.of_locus_ids.Sizes.{descriptors_max}
use Rattle.commit_graph.specs.Grants.{is_read}
use Rattle.trace_book.specs.Same.{same_epoch}
use Rattle.trace_book.specs.declared.call.Call.{Call}
use Rattle.trace_book.specs.declared.call.Call.TheVariants as call
use Rattle.trace_book.specs.declared.descriptor.Descriptor.{Descriptor}
use Rattle.trace_book.specs.declared.descriptor.OneVersion.{OneVersion}
use Rattle.trace_book.specs.declared.descriptor.Beginning.{Beginning}
use Rattle.trace_book.specs.declared.descriptor.Beginning.TheVariants.{Denied, Uses, Walks, Reopens, Frees}
use Rattle.call_rules.specs.Words.{is_too_long}

abbrev pub free_or : ℕ → Option ℕ → Option Descriptor → Option ℕ
free_or n later None = Some n
free_or n later (Some d) = later

-- the lowest free number from n on, where so many numbers are left
abbrev pub lowest_free_from : (ℕ → Option Descriptor) → ℕ → ℕ → Option ℕ
lowest_free_from table n zero = None
lowest_free_from table n (suc left) = free_or n (lowest_free_from table (n + 1) left) (table n)

-- the lowest free number
abbrev pub lowest_free : (ℕ → Option Descriptor) → Option ℕ
lowest_free table = lowest_free_from table 0 descriptors_max

abbrev pub is_in : Option EpochId → EpochId → Bool
is_in None e = false
is_in (Some now) e = same_epoch now e

-- A call on a descriptor that is open works on its instance while the site is in the epoch of that: the descriptor is held. One that isn't
-- held is stale, but a steady one isn't.
abbrev pub held_or : Option EpochId → Descriptor → Beginning → Beginning
held_or now d otherwise = cond (is_in now d.epoch) (Uses d.epoch d.inst) otherwise

abbrev pub stale_or : (OneVersion → Beginning) → EpochId → Option OneVersion → Beginning
stale_or steady last None = Denied (Stale last)
stale_or steady last (Some version) = steady version

-- a read by a steady one opens its version again, so the site must be in an epoch
abbrev pub begins_again : Option EpochId → EpochId → OneVersion → Beginning
begins_again None last version = Denied NoPartition
begins_again (Some e) last version = Reopens version last

abbrev pub begins_read : Option EpochId → Option Descriptor → Beginning
begins_read now None = Denied BadDescriptor
begins_read now (Some d) = held_or now d (stale_or (begins_again now d.epoch) d.epoch d.steady)

-- a close of a steady one asks nothing of anybody
abbrev pub begins_close : Option EpochId → Option Descriptor → Beginning
begins_close now None = Denied BadDescriptor
begins_close now (Some d) = held_or now d (stale_or (λ version. Frees) d.epoch d.steady)

-- what changes the file is refused where the descriptor is only read: of a steady one at once, of another one after it was found to be stale
abbrev pub begins_change : Option EpochId → Option Descriptor → Beginning
begins_change now None = Denied BadDescriptor
begins_change now (Some d) = by d.steady
  where
    by : Option OneVersion → Beginning
    by None = cond (is_in now d.epoch) (cond (is_read d.mode) (Denied ReadOnly) (Uses d.epoch d.inst)) (Denied (Stale d.epoch))
    by (Some version) = Denied ReadOnly

-- a call that walks a path: the site must be in an epoch
abbrev pub begins_walk : Option EpochId → CallId → Beginning
begins_walk None id = Denied NoPartition
begins_walk (Some e) id = Walks id

-- an open also wants a free descriptor, before that
abbrev pub begins_open : Option EpochId → CallId → Option ℕ → Beginning
begins_open now id None = Denied NoDescriptor
begins_open now id (Some fd) = begins_walk now id

-- Where a call of this name begins whose names are good, by the descriptors of its process and the epoch that its site is in. A write
-- past the greatest size is refused by its words, before any table is asked, and so is no use of a descriptor.
abbrev pub beginning : (ℕ → Option Descriptor) → Option EpochId → CallId → Call → Beginning
beginning table now id (call.Open path mode) = begins_open now id (lowest_free table)
beginning table now id (call.Read fd at len) = begins_read now (table fd)
beginning table now id (call.Write fd at bytes) = cond (is_too_long (call.Write fd at bytes)) (Denied TooLong) (begins_change now (table fd))
beginning table now id (call.Cut fd len) = begins_change now (table fd)
beginning table now id (call.Commit fd) = begins_change now (table fd)
beginning table now id (call.Abort fd) = begins_change now (table fd)
beginning table now id (call.Close fd) = begins_close now (table fd)
beginning table now id (call.Create path sites) = begins_walk now id
beginning table now id (call.MakeDir path) = begins_walk now id
beginning table now id (call.Unlink path) = begins_walk now id
beginning table now id (call.RemoveDir path) = begins_walk now id
beginning table now id (call.Rename path name) = begins_walk now id
beginning table now id (call.List path) = begins_walk now id
beginning table now id (call.Stat path) = begins_walk now id
beginning table now id (call.Mail path bytes) = begins_walk now id
beginning table now id (call.Mails path) = begins_walk now id
beginning table now id (call.Mend file) = begins_walk now id
