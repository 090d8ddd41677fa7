-- The versions of root directories follow each other from the format's on.
use Rattle.std.specs.Prelude.{◌≡◌, List}
use Rattle.trace_book.specs.declared.record.Record.{Record}
use Rattle.trace_book.specs.declared.record.Record.TheVariants as says
use Rattle.role_steps.specs.Own.{Every}
use Rattle.role_steps.specs.Views.{Told, Shown}
use Rattle.site_laws.specs.Packs.Making.{NotEmpty}

abbrev pub RootRecord : Record → Type 0
RootRecord (says.Commit file s stamp parents content) = file.ino ≡ 1 → NotEmpty parents
RootRecord _ = Unit {0}

-- a commit of a root directory has parents
abbrev pub RootTold : Told → Type 0
RootTold (Shown r) = RootRecord r
RootTold _ = Unit {0}

abbrev pub RootsFollow : List Told → Type 0
RootsFollow past = Every RootTold past
