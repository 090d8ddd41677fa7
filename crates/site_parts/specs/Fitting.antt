-- What a packet for the storage site meets that may be none of the format: where this is of it, it isn't refused as unfit.
use Rattle.std.specs.Prelude.{ℕ, List, Option, None, Some}
use Rattle.locus_ids.specs.declared.ids.Serial.{Serial}
use Rattle.wire_messages.specs.declared.body.Body.{Body}
use Rattle.wire_messages.specs.declared.body.Body.TheVariants as body
use Rattle.trace_book.specs.declared.operation.Op.{Op}
use Rattle.trace_book.specs.declared.operation.Op.TheVariants as op
use Rattle.role_steps.specs.Adoption.{table_group}
use Rattle.role_steps.specs.OperationEffects.{Mending}
use Rattle.role_steps.specs.Storage.{instance_of}
use Rattle.role_steps.specs.Tables.{row}
use Rattle.role_steps.specs.Views.{Frame, Store}
use Rattle.role_steps.specs.declared.synchronizing.SyncTable.{SyncTable}
use Rattle.run_laws.specs.of_the_run.Steps.{from_user, group_of}
use Rattle.site_mends.specs.of_site_tables.Inodes.{AreInodes}
use Rattle.storage_site.specs.Fitting.{CanCloseAt, CanOpen, CanOperateAt}

abbrev pub AreInodesOf : Option SyncTable → Type 0
AreInodesOf None = Unit {0}
AreInodesOf (Some t) = AreInodes t

-- a mend rests on the table of its group, whose numbers are those of inodes; any other operation on none
abbrev pub CanRest : List SyncTable → ℕ → Op → Type 0
CanRest tables group op.Mend = AreInodesOf (row table_group group tables)
CanRest tables group _ = Unit {0}

-- an operation of this number on an instance of the store, with what a mend works on, at a site with packs of these groups
pub record CanOperateHere (f : Frame) (m : Mending) (tables : List SyncTable) (groups : List ℕ) (inst : Serial) (n : ℕ) (o : Op) (s : Store) : Type 0 where
  pub rests : CanRest tables (group_of (instance_of s inst)) o
  pub operates : CanOperateAt f m groups inst n o s

-- What the storage site takes, with these tables, packs of these groups on the disk of this site, and this store: an open, an
-- operation and a close that may be; anything else may ever.
abbrev pub CanTakeAtStore : Frame → (Serial → Mending) → List SyncTable → List ℕ → ℕ → ℕ → Body → Store → Type 0
CanTakeAtStore f m tables groups home from (body.OpenSs inst file mode set kind base vector parents) s =
    CanOpen f home (record { inst = inst; file = file; mode = mode; set = set; kind = kind; base = base; vector = vector; parents = parents })
CanTakeAtStore f m tables groups home from (body.Op serial n o seen) s = CanOperateHere f (m (from_user from serial)) tables groups (from_user from serial) n o s
CanTakeAtStore f m tables groups home from (body.Close serial) s = CanCloseAt f groups (from_user from serial) s
CanTakeAtStore f m tables groups home from _ s = Unit {0}
