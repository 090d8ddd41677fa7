-- What a calm round comes to: at its end nothing is under way, so nothing is carried any more, and no call of a member waits.
use Rattle.std.specs.Prelude.{ℕ, ◌≡◌, false, [], Some, None}
use Rattle.locus_ids.specs.declared.config.Config.{Config}
use Rattle.role_steps.specs.Epochs.{frame_in}
use Rattle.role_steps.specs.Own.{Every}
use Rattle.role_steps.specs.Reports.{have_all_reported}
use Rattle.role_steps.specs.Views.{Frame, SiteView}
use Rattle.role_steps.specs.declared.rounds.InEpoch.{InEpoch}
use Rattle.role_steps.specs.declared.synchronizing.SyncTable.{SyncTable}
use Rattle.the_run.specs.Runs.{next_packet}
use Rattle.the_run.specs.Worlds.{World, Running, place_at, is_cut}
use Rattle.row_laws.specs.Orderly.Calm.{AreTogether}
use Rattle.calm_laws.specs.Carrying.{IsMember, IsAllCarried}

-- a group that hasn't started lacks the report of some member
abbrev pub StartsInTime : Frame → SyncTable → Type 0
StartsInTime f t = t.started ≡ false → have_all_reported f t ≡ false

-- so it is of each group that a site in an epoch synchronizes
abbrev pub GroupsStartInTime : Config → World → Type 0
GroupsStartInTime c w = (s : ℕ) (v : SiteView) (e : InEpoch) → place_at w s ≡ Some (Running v) → v.epoch ≡ Some e → Every (StartsInTime (frame_in c s v.boot e)) v.tables

-- no call of a member waits
abbrev pub NobodyWaits : InEpoch → World → Type 0
NobodyWaits e w = (s : ℕ) (v : SiteView) → IsMember e s → place_at w s ≡ Some (Running v) → v.users.waiting ≡ []

-- no member is cut off from itself
abbrev pub ReachThemselves : InEpoch → World → Type 0
ReachThemselves e w = (s : ℕ) → IsMember e s → is_cut w s s ≡ false

-- Where all members are together, no limit is passed, no packet can come any more, and all that waits is carried, no call of a member
-- waits.
abbrev pub NobodyWaitsAtTheEnd : Config → Type 0
NobodyWaitsAtTheEnd c = (e : InEpoch) (w : World) → AreTogether w e → ReachThemselves e w → w.over ≡ None → next_packet w ≡ None → GroupsStartInTime c w → IsAllCarried c e w → NobodyWaits e w
