-- The numbers that records tell first: serial numbers of opens, and the numbers and sites of listed packets.
use Rattle.std.specs.Prelude.{ℕ, ◌≡◌, ◌≤◌}
use Rattle.locus_ids.specs.declared.ids.CallId.{CallId}
use Rattle.locus_ids.specs.declared.ids.Serial.{Serial}
use Rattle.trace_book.specs.declared.entry.Entry.{Entry}
use Rattle.trace_book.specs.declared.record.Record.{Record}
use Rattle.trace_book.specs.declared.record.Record.TheVariants as says
use Rattle.tree_model.specs.Folds.{Trace}
use Rattle.packet_laws.specs.Fitting.Fields.{IsSite}

-- the open is of the site of its call, under a serial number that a run comes to
pub record IsSerial (id : CallId) (i : Serial) : Type 0 where
  pub of_caller : i.us ≡ id.site
  pub least : 1 ≤ i.serial
  pub most : i.serial ≤ 134479872

-- the packet has a number that a run comes to, and is from and to one of the sixteen sites
pub record IsListed (n from to : ℕ) : Type 0 where
  pub least : 1 ≤ n
  pub most : n ≤ 134479872
  pub from_site : IsSite from
  pub to_site : IsSite to

abbrev pub ReachedRecord : Record → Type 0
ReachedRecord (says.Grant epoch id request i mode file stamp ss) = IsSerial id i
ReachedRecord (says.Refuse epoch id request i mode file why) = IsSerial id i
ReachedRecord (says.Packet n from to kind) = IsListed n from to
ReachedRecord _ = Unit {0}

abbrev pub IsReached : Trace → Entry → Type 0
IsReached before r = ReachedRecord r.what
