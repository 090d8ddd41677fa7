-- Requests that wait for the start of their group.
use Rattle.std.specs.Prelude.{ℕ, ◌≡◌, List}
use Rattle.locus_ids.specs.declared.config.Config.{Config}
use Rattle.wire_messages.specs.declared.body.Body.TheVariants as body
use Rattle.wire_messages.specs.declared.packet.Packet.{Packet}
use Rattle.role_steps.specs.Looks.{LookRequest}
use Rattle.role_steps.specs.Opens.{OpenRequest}
use Rattle.role_steps.specs.Reports.{on_look, on_open}
use Rattle.role_steps.specs.Views.{Frame}
use Rattle.role_steps.specs.declared.synchronizing.SyncTable.{SyncTable}
use Rattle.the_run.specs.Worlds.{Line}
use Rattle.tree_laws.specs.Doing.{TableFine}
use Rattle.store_laws.specs.OneTree.Rest.{AllRest}
use Rattle.store_laws.specs.OneTree.Roles.{Came, Ready, TableHere}

-- a synchronization site does opens and looks as it may, as they come
pub record RequestsDo (c : Config) : Type 0 where
  pub opens : (n : ℕ) (trace : List Line) (f : Frame) (p : Packet) (o : OpenRequest) (t : SyncTable) → Ready c trace f → TableHere c trace f t → Came c trace f p (body.Open o.serial o.call o.process o.request o.file o.how) → t.group ≡ o.file.group → AllRest c n trace (on_open f p.from o t).told → TableFine c n trace f o.file.group (on_open f p.from o t)
  pub looks : (n : ℕ) (trace : List Line) (f : Frame) (p : Packet) (l : LookRequest) (t : SyncTable) → Ready c trace f → TableHere c trace f t → Came c trace f p (body.Look l.call l.process l.request l.take l.file l.what) → t.group ≡ l.file.group → AllRest c n trace (on_look f p.from l t).told → TableFine c n trace f l.file.group (on_look f p.from l t)
