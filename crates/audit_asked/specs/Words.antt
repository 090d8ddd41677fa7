-- The words of some replies.
use Rattle.std.specs.Prelude.{ℕ, List, [], ◌∷◌, Option, None, Some}
use Rattle.locus_ids.specs.declared.ids.FileId.{FileId}
use Rattle.locus_ids.specs.declared.ids.Kind.{Kind}
use Rattle.locus_ids.specs.declared.ids.Stamp.{Stamp}
use Rattle.trace_book.specs.Text.{file_text, kind_text, number, stamp_text}

-- the version that a commit or a close made, if it made one
abbrev pub version_words : Option Stamp → List (List ℕ)
version_words None = []
version_words (Some stamp) = stamp_text stamp ∷ []

-- what a file is
abbrev pub stat_words : Kind → FileId → ℕ → Stamp → List (List ℕ)
stat_words kind file size stamp = kind_text kind ∷ file_text file ∷ number size ∷ stamp_text stamp ∷ []
