-- The laws of the trace on which this one rests, as premises on what was told.
use Rattle.std.specs.Prelude.{List}
use Rattle.locus_ids.specs.declared.config.Config.{Config}
use Rattle.role_steps.specs.Own.{Every}
use Rattle.role_steps.specs.Views.{Told}
use Rattle.site_laws.specs.Vectors.Written.{InstancesAgree}
use Rattle.site_laws.specs.Vectors.HistoryCommits.{CommitsAreSited, NumbersFit}
use Rattle.site_laws.specs.Locks.Going.{InstancesGoOn}
use Rattle.site_laws.specs.Locks.Joins.{JoinsAreOnce}
use Rattle.site_laws.specs.Locks.Synced.{OneTold}
use Rattle.site_laws.specs.Packs.Packs.{ToldPacked}
use Rattle.site_laws.specs.Makes.RunningRunning.{BegunAtOneSite, PlainGrantsStand}
use Rattle.site_laws.specs.Makes.Fresh.{NumbersAreFresh}
use Rattle.site_laws.specs.Makes.Holding.{MakesAreReserved, ReservesAreOfMakes}
use Rattle.site_laws.specs.Makes.Locked.{HoldsAreLocked}

pub record Laws (c : Config) (past : List Told) : Type 0 where
  pub joins : JoinsAreOnce past
  pub lists : OneTold past
  pub goes : InstancesGoOn past
  pub agree : InstancesAgree past
  pub sites : BegunAtOneSite past
  pub stand : PlainGrantsStand past
  pub locked : HoldsAreLocked past
  pub fresh : NumbersAreFresh past
  pub reserved : MakesAreReserved past
  pub makes : ReservesAreOfMakes past
  pub packs : Every (ToldPacked c) past
  pub fit : NumbersFit past
  pub sited : CommitsAreSited past
