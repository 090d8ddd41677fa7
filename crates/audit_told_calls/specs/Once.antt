-- Names stand for one thing each in what the records tell.
use Rattle.std.specs.Prelude.{◌≤◌, length, filter}
use Rattle.locus_ids.specs.declared.ids.EpochId.{EpochId}
use Rattle.locus_ids.specs.declared.ids.CallId.{CallId}
use Rattle.promises.specs.Past.{Past}
use Rattle.promises.specs.After.{is_epoch, is_id}

-- no two epochs and no two calls have one name
pub record OneEach (p : Past) : Type 0 where
  pub epochs : (e : EpochId) → length (filter (is_epoch e) p.epochs) ≤ 1
  pub calls : (id : CallId) → length (filter (is_id id) p.calls) ≤ 1
