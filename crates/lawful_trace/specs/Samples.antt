-- Short ways to write down a schedule with a trace, and what it is for such a sample to be right or wrong.
use Rattle.std.specs.Prelude.{ℕ, ◌-◌, List, ◌++◌, length, drop, replicate}
use Rattle.locus_ids.specs.declared.ids.EpochId.{EpochId}
use Rattle.locus_ids.specs.declared.ids.CallId.{CallId}
use Rattle.locus_ids.specs.declared.ids.Serial.{Serial}
use Rattle.locus_ids.specs.declared.ids.FileId.{FileId}
use Rattle.locus_ids.specs.declared.ids.Stamp.{Stamp}
use Rattle.locus_ids.specs.declared.ids.Brought.{Brought}
use Rattle.locus_ids.specs.declared.sites.Members.{Members}
use Rattle.trace_book.specs.declared.record.Record.{Record}
use Rattle.trace_book.specs.declared.entry.Entry.{Entry}
use Rattle.disk_calls.specs.of_schedule_lines.declared.line.ScheduleLine.{ScheduleLine}
use Rattle.tree_model.specs.Folds.{Trace}
use Rattle.disk_calls.specs.of_schedule_lines.Cluster.{config_of}
use Rattle.lawful_trace.specs.Lawful.{IsConsistent, IsLawful}

pub record Sample : Type 0 where
  pub lines : List ScheduleLine
  pub trace : Trace

abbrev pub IsRight : Sample → Type 0
IsRight s = IsLawful s.lines s.trace

abbrev pub IsWrong : Sample → Type 0
IsWrong s = IsLawful s.lines s.trace → ⊥

-- wrong whatever the schedule is
abbrev pub IsBroken : Sample → Type 0
IsBroken s = IsConsistent (config_of s.lines) s.trace → ⊥

-- the earliest so many records
abbrev pub first_of : ℕ → Trace → Trace
first_of n trace = drop (length trace - n) trace

-- the record, at the line with this number
abbrev pub at : ℕ → Record → Entry
at line what = record { line = line; what = what }

abbrev pub epoch : ℕ → ℕ → ℕ → EpochId
epoch number site boot = record { number = number; site = site; boot = boot }

abbrev pub caller : ℕ → ℕ → ℕ → CallId
caller site boot n = record { site = site; boot = boot; n = n }

abbrev pub inst : ℕ → ℕ → Serial
inst us serial = record { us = us; serial = serial }

abbrev pub file : ℕ → ℕ → FileId
file group ino = record { group = group; ino = ino }

abbrev pub stamp : ℕ → ℕ → Stamp
stamp site n = record { site = site; n = n }

abbrev pub brought : ℕ → Stamp → Brought
brought ino s = record { ino = ino; stamp = s }

-- members with these boot numbers, site 1 first
abbrev pub members : List ℕ → Members
members boots = record { boot = boots ++ replicate (16 - length boots) 0 }
