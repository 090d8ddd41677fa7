-- What the entries of directories name.
use Rattle.std.specs.Prelude.{ℕ, ◌≡◌, List, Some}
use Rattle.std.specs.List.{AllByRecursion}
use Rattle.locus_ids.specs.declared.config.Config.{Config}
use Rattle.locus_ids.specs.declared.ids.EpochId.{EpochId}
use Rattle.locus_ids.specs.declared.ids.Kind.{Kind}
use Rattle.locus_ids.specs.declared.ids.Mode.TheVariants as mode
use Rattle.locus_ids.specs.declared.ids.Stamp.{Stamp}
use Rattle.trace_book.specs.declared.call.Call.{Call}
use Rattle.trace_book.specs.declared.call.Call.TheVariants as call
use Rattle.trace_book.specs.declared.operation.Op.TheVariants as op
use Rattle.trace_book.specs.declared.record.Record.{Record}
use Rattle.trace_book.specs.declared.record.Record.TheVariants as says
use Rattle.dir_format.specs.declared.entry.Entry.{Entry}
use Rattle.dir_format.specs.Contents.{entries_of}
use Rattle.the_run.specs.Worlds.{Line}
use Rattle.tree_model.specs.declared.accepted.Waiting.{Waiting}
use Rattle.tree_model.specs.declared.instance.Granted.{Granted}
use Rattle.tree_model.specs.Calls.{call_named}
use Rattle.tree_model.specs.Epochs.{epoch_of}
use Rattle.tree_model.specs.Files.{kind_of_file}
use Rattle.lawful_trace.specs.TreeRows.{granted_group}
use Rattle.tree_laws.specs.Instances.{Stands}
use Rattle.tree_laws.specs.Past.{Printed, Was}
use Rattle.tree_laws.specs.Printed.{entries}

-- a file of this number and kind stands in the group
pub record NamesFile (c : Config) (trace : List Line) (group ino : ℕ) (kind : Kind) : Type 0 where
  pub stamp : Stamp
  pub stands : Stands c trace (record { group = group; ino = ino }) stamp
  pub kind_is : kind ≡ kind_of_file c (entries trace) (record { group = group; ino = ino })

-- an entry of this number is inserted in a directory of the group
abbrev pub InsertRecord : Config → ℕ → ℕ → List Line → Record → Type 0
InsertRecord c group ino older (says.Act e i n (op.Insert name number kind) result) = (granted_group (entries older) e i ≡ group) × (number ≡ ino)
InsertRecord c group ino older _ = ⊥

-- one was
abbrev pub WasInserted : Config → List Line → ℕ → ℕ → Type 0
WasInserted c trace group ino = Was (Printed (InsertRecord c group ino)) trace

-- an entry of this number and kind was inserted in the group, and a file there stands of this kind
pub record IsEntered (c : Config) (trace : List Line) (group ino : ℕ) (kind : Kind) : Type 0 where
  pub file : NamesFile c trace group ino kind
  pub inserted : WasInserted c trace group ino

-- so it is of each entry of the content of a directory of the group
abbrev pub EntriesName : Config → List Line → ℕ → List ℕ → Type 0
EntriesName c trace group content = AllByRecursion (λ (d : Entry). IsEntered c trace group d.ino d.kind) (entries_of content)

-- it is a mail
abbrev pub IsMail : Call → Type 0
IsMail (call.Mail path bytes) = Unit {0}
IsMail _ = ⊥

-- what is granted is the make of a message
pub record MakesMessage (trace : List Line) (g : Granted) : Type 0 where
  pub mode_is : g.mode ≡ mode.Make
  pub caller : Waiting
  pub named : call_named (entries trace) g.call ≡ Some caller
  pub mails : IsMail caller.words

-- A message's make in an epoch that its storage site has left: what had been written of it is lost, and where it wasn't committed its number
-- is free again, for a directory too.
abbrev pub IsLeftMessage : List Line → EpochId → Granted → Type 0
IsLeftMessage trace e g = MakesMessage trace g × (epoch_of (entries trace) g.ss ≡ Some e → ⊥)
