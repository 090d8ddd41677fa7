-- What the steps of a using site take of other laws, of each trace whose lines came as they may.
use Rattle.std.specs.Prelude.{◌≤◌, List, length}
use Rattle.locus_ids.specs.declared.config.Config.{Config}
use Rattle.the_run.specs.Worlds.{Line}
use Rattle.store_laws.specs.Users.Rests.{ActRests, CloseRests, LookRests, OpenRests, ReadRests, ReplyRests, RequestRests}
use Rattle.store_laws.specs.OneTree.Rest.{Past}

pub record UserRests (c : Config) : Type 0 where
  -- of the cluster: it has at most four groups
  pub few : length c.packs ≤ 4
  pub requests : (trace : List Line) → Past c trace → RequestRests c trace
  pub replies : (trace : List Line) → Past c trace → ReplyRests c trace
  pub looks : (trace : List Line) → Past c trace → LookRests c trace
  pub acts : (trace : List Line) → Past c trace → ActRests c trace
  pub reads : (trace : List Line) → Past c trace → ReadRests c trace
  pub opens : (trace : List Line) → Past c trace → OpenRests c trace
  pub closes : (trace : List Line) → Past c trace → CloseRests c trace
