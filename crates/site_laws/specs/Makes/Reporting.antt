-- What a table waits for before it starts: reports of all the members of its epoch that have a pack of its group.
use Rattle.std.specs.Prelude.{ℕ, ◌≡◌, true, false, List, [], Some}
use Rattle.locus_ids.specs.Sites.{has}
use Rattle.locus_ids.specs.declared.config.Config.{Config}
use Rattle.role_steps.specs.Own.{Every}
use Rattle.role_steps.specs.Views.{SiteView, Told, members_of, pack_sites}
use Rattle.role_steps.specs.declared.rounds.InEpoch.{InEpoch}
use Rattle.role_steps.specs.declared.synchronizing.SyncTable.{SyncTable}
use Rattle.the_run.specs.Kept.{Among}
use Rattle.the_run.specs.Worlds.{World, Running, place_at}
use Rattle.site_laws.specs.Vectors.Written.{past_of}
use Rattle.site_laws.specs.Locks.Going.{WasStarted}

pub record TableReports (c : Config) (past : List Told) (e : InEpoch) (t : SyncTable) : Type 0 where
  -- before it starts its group hasn't started in the epoch, and no open has a row
  pub unstarted : t.started ≡ false → WasStarted past e.id t.group → ⊥
  pub empty : t.started ≡ false → t.opens ≡ []
  -- once it has, each member that has a pack of the group has reported
  pub reported : t.started ≡ true → (n : ℕ) → Among n (members_of e.members (pack_sites c t.group)) → has t.reported n ≡ true

-- so it is with each table of a running site
abbrev pub TablesHaveReports : Config → World → Type 0
TablesHaveReports c w = (s : ℕ) (v : SiteView) (e : InEpoch) → place_at w s ≡ Some (Running v) → v.epoch ≡ Some e → Every (TableReports c (past_of w.trace) e) v.tables
