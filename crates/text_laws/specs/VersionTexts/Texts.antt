-- What records of versions name is in range.
use Rattle.std.specs.Prelude.{◌≡◌, true, Some}
use Rattle.trace_book.specs.declared.record.Record.{Record}
use Rattle.trace_book.specs.declared.record.Record.TheVariants.{Adopt, Commit, Release}
use Rattle.record_reading.specs.Ranges.{is_inode, is_stamp}

-- its file has the number of an inode, and its stamp is one
abbrev pub CommitFits : Record → Type 0
CommitFits (Commit f site stamp parents content) = (is_inode f.ino ≡ true) × (is_stamp stamp ≡ true)
CommitFits _ = Unit {0}

-- the version that is adopted or published is of a file with the number of an inode, and has a stamp
abbrev pub NameFits : Record → Type 0
NameFits (Adopt f site stamp) = (is_inode f.ino ≡ true) × (is_stamp stamp ≡ true)
NameFits (Release e inst f (Some stamp)) = (is_inode f.ino ≡ true) × (is_stamp stamp ≡ true)
NameFits _ = Unit {0}
