-- What is told that leaves an instance of a storage site as it is.
use Rattle.std.specs.Prelude.{◌≡◌, List}
use Rattle.locus_ids.specs.declared.config.Config.{Config}
use Rattle.trace_book.specs.declared.record.Record.{Record}
use Rattle.trace_book.specs.declared.record.Record.TheVariants as says
use Rattle.role_steps.specs.Views.{Frame, Told, Shown, Shuts}
use Rattle.role_steps.specs.declared.instances.Instance.{Instance}
use Rattle.the_run.specs.Worlds.{Line}
use Rattle.tree_model.specs.declared.instance.Instance.{Instance as Open}
use Rattle.tree_laws.specs.Stores.{WorksAs}

-- the record is no operation of the instance, and no version of its file that this site commits while the instance runs
abbrev pub RecordAside : Config → List Line → Frame → Instance → Record → Type 0
RecordAside c trace f i (says.Act e inst n o result) = e ≡ f.epoch → inst ≡ i.inst → ⊥
RecordAside c trace f i (says.Commit file site stamp parents content) = (x : Open) → WorksAs c trace f i x → site ≡ f.me → file ≡ i.file → ⊥
RecordAside c trace f i _ = Unit {0}

-- nor does this site shut it
abbrev pub IsAside : Config → List Line → Frame → Instance → Told → Type 0
IsAside c trace f i (Shown r) = RecordAside c trace f i r
IsAside c trace f i (Shuts site e inst) = site ≡ f.me → e ≡ f.epoch → inst ≡ i.inst → ⊥
IsAside c trace f i _ = Unit {0}
