-- The rows of a table, with who is noted in them.
use Rattle.std.specs.Prelude.{ℕ, ◌≡◌, List, Some}
use Rattle.locus_ids.specs.declared.config.Config.{Config}
use Rattle.locus_ids.specs.declared.ids.EpochId.{EpochId}
use Rattle.role_steps.specs.Own.{Every}
use Rattle.role_steps.specs.declared.synchronizing.FileRow.{FileRow}
use Rattle.role_steps.specs.declared.synchronizing.Holding.{Holding}
use Rattle.role_steps.specs.declared.synchronizing.SyncTable.{SyncTable}
use Rattle.the_run.specs.Worlds.{Line}
use Rattle.tree_laws.specs.Instances.{held_in}
use Rattle.tree_laws.specs.Packets.{file_in}
use Rattle.tree_laws.specs.Printed.{entries}
use Rattle.tree_laws.specs.Tables.{AreRising, FileFact}

-- where this member is noted it is with what it has
abbrev pub IsNotedRight : Config → List Line → EpochId → ℕ → ℕ → FileRow → Type 0
IsNotedRight c trace e g from r = Every (λ (h : Holding). h.site ≡ from → held_in c (entries trace) e from (file_in g r.ino) ≡ Some h.stamp) r.holders

pub record RowsSo (c : Config) (trace : List Line) (e : EpochId) (g from : ℕ) (t : SyncTable) : Type 0 where
  pub rows : Every (FileFact c trace e g) t.files
  pub right : Every (IsNotedRight c trace e g from) t.files
  pub rise : AreRising t.files
