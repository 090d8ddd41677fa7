-- What the samples of records are made of.
use Rattle.std.specs.Prelude.{ℕ, List}
use Rattle.std.specs.List.{flat_map}
use Rattle.locus_ids.specs.declared.ids.FileId.{FileId}
use Rattle.locus_ids.specs.declared.ids.Stamp.{Stamp}
use Rattle.locus_ids.specs.declared.ids.EpochId.{EpochId}
use Rattle.locus_ids.specs.declared.ids.CallId.{CallId}
use Rattle.locus_ids.specs.declared.ids.Serial.{Serial}
use Rattle.trace_book.specs.declared.record.Record.{Record}
use Rattle.trace_book.specs.Text.{entry_text}

abbrev pub epoch : EpochId
epoch = record { number = 3; site = 2; boot = 1 }

abbrev pub asked : CallId
asked = record { site = 4; boot = 1; n = 12 }

abbrev pub inst : Serial
inst = record { us = 4; serial = 7 }

abbrev pub file : FileId
file = record { group = 1; ino = 64 }

abbrev pub stamp : Stamp
stamp = record { site = 16; n = 9 }

abbrev pub other : Stamp
other = record { site = 2; n = 4294967295 }

-- the lines of these records, each on line 80
abbrev pub lines : List Record → List ℕ
lines records = flat_map (λ one. entry_text 80 one) records
