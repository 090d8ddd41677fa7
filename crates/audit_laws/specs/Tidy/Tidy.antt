-- What is true of the past of consistent records, and what an audit that keeps it in tables rests on.
use Rattle.std.specs.Prelude.{◌≤◌, length, filter}
use Rattle.locus_ids.specs.declared.ids.FileId.{FileId}
use Rattle.commit_graph.specs.Versions.{same_file}
use Rattle.locus_ids.specs.declared.config.Config.{Config}
use Rattle.promises.specs.Past.{Past, Making}
use Rattle.audit_laws.specs.Tidy.Sites.{SitesStand}
use Rattle.audit_laws.specs.Tidy.Epochs.{EpochsStand}
use Rattle.audit_laws.specs.Tidy.Calls.{CallsStand}
use Rattle.audit_laws.specs.Tidy.Ties.{TiesStand}
use Rattle.audit_laws.specs.Tidy.Users.{UsersStand}

pub record IsTidy (c : Config) (p : Past) : Type 0 where
  pub sites : SitesStand c p.sites
  pub epochs : EpochsStand p.epochs
  pub calls : CallsStand p.sites p.calls
  pub ties : TiesStand p
  pub users : UsersStand p
  -- what a file is was told once
  pub files : (f : FileId) → length (filter (λ (m : Making). same_file m.file f) p.files) ≤ 1
