-- A reader over bytes that all lie in memory.
use Rattle.std.specs.Prelude.{drop}
use Rattle.field_codec.specs.declared.fields.Fields.TheInside.{Inside}
use Rattle.field_codec.specs.Codec.{Unread}

-- what a reader has still to read
abbrev pub unread : Inside → Unread
unread f = record { at = f.at; bytes = drop f.at f.bytes.now }
