-- What a reader of traces asks of the numbers that records say.
use Rattle.std.specs.Prelude.{ℕ, ◌≡◌, ◌≤◌, true, ◌∷◌}
use Rattle.trace_book.specs.declared.entry.Entry.{Entry}
use Rattle.trace_book.specs.declared.record.Record.{Record}
use Rattle.trace_book.specs.declared.record.Record.TheVariants as says
use Rattle.tree_model.specs.Epochs.{boot_of}
use Rattle.tree_model.specs.Folds.{Trace}
use Rattle.record_reading.specs.Ranges.{is_counted}
use Rattle.packet_laws.specs.Fitting.Epochs.{IsUpTo}
use Rattle.packet_laws.specs.Fitting.Fields.{AreBoots, IsBoot, IsSite}

-- the record stands at a line that has a number
abbrev pub IsLined : Trace → Entry → Type 0
IsLined before r = is_counted r.line ≡ true

-- an accepted call has a number that its name can have
abbrev pub CountsRecord : Record → Type 0
CountsRecord (says.Accept site process id words) = is_counted id.n ≡ true
CountsRecord _ = Unit {0}

abbrev pub IsCountedCall : Trace → Entry → Type 0
IsCountedCall before r = CountsRecord r.what

-- the boot numbers that a site has had by this record, and before it, are ones that a record can say
pub record BootsAreLow (site : ℕ) (before : Trace) (r : Entry) : Type 0 where
  pub before_it : boot_of before site ≤ 134217729
  pub after_it : boot_of (r ∷ before) site ≤ 134217729

-- the epoch that is joined has a number of four bytes, is of one of the sixteen sites and of a boot that a run comes to, and lists a boot
-- number, or 0, for each of these sites
abbrev pub JoinFits : Record → Type 0
JoinFits (says.Join site e members) = (IsUpTo 134479873 e × (IsSite e.site × IsBoot e.boot)) × AreBoots members.boot
JoinFits _ = Unit {0}

abbrev pub IsJoinFit : Trace → Entry → Type 0
IsJoinFit before r = JoinFits r.what
