-- What using sites ask of instances: that it was granted at the site that is asked, and that some storage site has begun it.
use Rattle.std.specs.Prelude.{ℕ, ◌≡◌, List, Some}
use Rattle.locus_ids.specs.declared.ids.EpochId.{EpochId}
use Rattle.locus_ids.specs.declared.ids.FileId.{FileId}
use Rattle.role_steps.specs.Views.{SiteView, serial_key}
use Rattle.role_steps.specs.declared.rounds.InEpoch.{InEpoch}
use Rattle.role_steps.specs.declared.users.Asking.{Asking}
use Rattle.role_steps.specs.declared.users.Asking.TheVariants as asking
use Rattle.role_steps.specs.declared.users.WaitingCall.{WaitingCall}
use Rattle.the_run.specs.Kept.{Among}
use Rattle.the_run.specs.Steps.{from_user}
use Rattle.the_run.specs.Worlds.{World, Running, Line, place_at}
use Rattle.site_laws.specs.Vectors.Written.{past_of, WasTold}
use Rattle.site_laws.specs.Locks.Going.{WasBegunAt}
use Rattle.site_laws.specs.Locks.Facts.{GrantedAt}

-- the instance of the site with this serial number was granted at this storage site, and some storage site has begun it
pub record IsBegun (trace : List Line) (e : EpochId) (us serial ss : ℕ) : Type 0 where
  pub granted : WasTold (GrantedAt e (serial_key (from_user us serial)) ss) (past_of trace)
  pub at : ℕ
  pub file : FileId
  pub begun : WasBegunAt (past_of trace) at e (serial_key (from_user us serial)) file

-- of what is asked of an instance
abbrev pub AskedBegun : List Line → EpochId → ℕ → Asking → Type 0
AskedBegun trace e us (asking.Op serial ss n o seen) = IsBegun trace e us serial ss
AskedBegun trace e us (asking.Close serial ss) = IsBegun trace e us serial ss
AskedBegun trace e us _ = Unit {0}

-- so it is of each waiting call of a site in an epoch
abbrev pub WhatIsAskedIsBegun : World → Type 0
WhatIsAskedIsBegun w = (s : ℕ) (v : SiteView) (e : InEpoch) (x : WaitingCall) → place_at w s ≡ Some (Running v) → v.epoch ≡ Some e → Among x v.users.waiting → AskedBegun w.trace e.id s x.asking
