-- What a site has, by the trace alone: in its epoch, outside of epochs, and stopped.
use Rattle.std.specs.Prelude.{ℕ, ◌≡◌, ◌⊎◌, true, false, List, [], ◌∷◌, map, filter, Option, None, Some}
use Rattle.locus_ids.specs.declared.config.Config.{Config}
use Rattle.locus_ids.specs.declared.ids.EpochId.{EpochId}
use Rattle.role_steps.specs.Adoption.{table_group}
use Rattle.role_steps.specs.Epochs.{frame_in, is_sync_site, own_groups}
use Rattle.role_steps.specs.Requests.{descriptor_key, instance_serial, waiting_key}
use Rattle.role_steps.specs.Own.{Every}
use Rattle.role_steps.specs.Pulling.{pull_key}
use Rattle.role_steps.specs.Views.{Frame, Users, SiteView, Told, DiskWrite, Outcome, sync_site}
use Rattle.role_steps.specs.declared.rounds.InEpoch.{InEpoch}
use Rattle.the_run.specs.Disks.{Disk}
use Rattle.the_run.specs.Worlds.{World, Place, Running, Stopped, Numbered, Line, place_at, told_onto}
use Rattle.tree_model.specs.declared.accepted.Waiting.{Waiting}
use Rattle.tree_model.specs.Calls.{waiting}
use Rattle.tree_model.specs.Epochs.{epoch_of, is_up, members_of}
use Rattle.tree_model.specs.Packs.{has_pack}
use Rattle.tree_laws.specs.Doing.{AllTold, FrameFact, IsOfUsers, IsOfStore, IsAdopted, IsOfTable, IsOfSite, IsPromise, WrittenFact, UsersInside, StoreHeld, PullsFact}
use Rattle.tree_laws.specs.of_lawful_trace.Tables.{descriptor}
use Rattle.tree_laws.specs.Following.{IsFollowed}
use Rattle.tree_laws.specs.Packets.{PacketFact}
use Rattle.tree_laws.specs.Printed.{entries}
use Rattle.tree_laws.specs.Stores.{Ascends, CopiesAreHeld}
use Rattle.tree_laws.specs.Tables.{TableFact}
use Rattle.tree_laws.specs.Users.{UsersFact, had}
use Rattle.store_laws.specs.Users.Leaving.{AreApart}
use Rattle.store_laws.specs.OneTree.Wants.{AskedFact}

-- ---- inside ----

-- the groups of which a member is the synchronization site, ascending
abbrev pub synced_groups : Frame → List ℕ
synced_groups f = filter (is_sync_site f.config f.me f.members) (own_groups f.config f.me)

-- the using site of a site in an epoch: its tables ascend, and of its waiting calls no two have one number
pub record UsersOf (c : Config) (f : Frame) (trace : List Line) (u : Users) : Type 0 where
  pub inside : UsersInside c f trace u
  pub apart : AreApart u.waiting
  pub waiting_ascends : Ascends waiting_key u.waiting
  pub instances_ascend : Ascends instance_serial u.instances
  pub descriptors_ascend : Ascends descriptor_key u.descriptors

-- a site in the epoch of the frame
pub record InsideFact (c : Config) (f : Frame) (trace : List Line) (v : SiteView) : Type 0 where
  pub frame : FrameFact c trace f
  pub users : UsersOf c f trace v.users
  pub store : StoreHeld c f trace v.store
  pub groups : map table_group v.tables ≡ synced_groups f
  pub tables : Every (TableFact c trace f) v.tables
  pub pulls : PullsFact c f trace v.pulls
  -- it pulls each file once
  pub pulls_ascend : Ascends pull_key v.pulls
  -- what it reports is of groups of which it has a pack
  pub reports : Every (λ (g : ℕ). has_pack c g f.me ≡ true) v.reports

-- ---- outside ----

-- no call waits at the site, and it has no instance
pub record IsIdle (c : Config) (trace : List Line) (me : ℕ) : Type 0 where
  pub none_waits : Every (λ (w : Waiting). w.site ≡ me → ⊥) (waiting (entries trace))
  pub has_none : had c trace me ≡ []

-- the using site of a site in no epoch
pub record UsersOutside (c : Config) (me boot : ℕ) (trace : List Line) (u : Users) : Type 0 where
  pub always : UsersFact c trace me boot u
  pub idle : IsIdle c trace me
  pub calls : u.waiting ≡ []
  pub instances : u.instances ≡ []
  pub hopeless : u.hopeless ≡ []
  pub descriptors_ascend : Ascends descriptor_key u.descriptors

pub record OutsideFact (c : Config) (me : ℕ) (trace : List Line) (v : SiteView) : Type 0 where
  pub up : is_up c (entries trace) me ≡ true
  pub outside : epoch_of (entries trace) me ≡ None
  pub users : UsersOutside c me v.boot trace v.users
  pub copies : CopiesAreHeld c trace me v.store
  pub instances : v.store.instances ≡ []
  pub steps : v.store.steps ≡ []
  pub tables : v.tables ≡ []
  pub pulls : v.pulls ≡ []

abbrev pub SiteIn : Config → ℕ → List Line → SiteView → Option InEpoch → Type 0
SiteIn c me trace v None = OutsideFact c me trace v
SiteIn c me trace v (Some e) = InsideFact c (frame_in c me v.boot e) trace v

-- a site that runs
abbrev pub SiteFact : Config → ℕ → List Line → SiteView → Type 0
SiteFact c me trace v = SiteIn c me trace v v.epoch

-- ---- stopped ----

pub record StoppedFact (c : Config) (me : ℕ) (trace : List Line) (d : Disk) : Type 0 where
  pub stopped : is_up c (entries trace) me ≡ false
  pub outside : epoch_of (entries trace) me ≡ None
  pub idle : IsIdle c trace me
  pub descriptors : (process fd : ℕ) → descriptor (entries trace) me process fd ≡ None
  pub copies : CopiesAreHeld c trace me (record { copies = d.copies; instances = []; steps = [] })

-- ---- an outcome of a site ----

-- the line is of a storage site's instances at this site
abbrev pub IsOfStores : List Line → ℕ → Told → Type 0
IsOfStores trace me x = (e : EpochId) × IsOfStore trace me e x

-- or of a group that this site synchronizes
pub record IsOfTables (c : Config) (trace : List Line) (me : ℕ) (x : Told) : Type 0 where
  pub frame : Frame
  pub config_is : frame.config ≡ c
  pub me_is : frame.me ≡ me
  pub members_are : members_of (entries trace) frame.epoch ≡ Some frame.members
  pub group : ℕ
  pub synced : sync_site frame.config frame.members group ≡ Some me
  pub of : IsOfTable frame group x

-- the site tells it, in one of its roles
abbrev pub IsOf : Config → List Line → ℕ → Told → Type 0
IsOf c trace me x = IsOfUsers me x ⊎ (IsOfSite me x ⊎ (IsAdopted me x ⊎ (IsOfStores trace me x ⊎ (IsOfTables c trace me x ⊎ IsPromise x))))

-- each line has the property, with those before it
abbrev pub AllAt : (List Line → Told → Type 0) → ℕ → List Line → List Told → Type 0
AllAt P n trace [] = Unit {0}
AllAt P n trace (x ∷ xs) = P trace x × AllAt P n (record { number = n; told = x } ∷ trace) xs

abbrev pub AllOf : Config → ℕ → List Line → ℕ → List Told → Type 0
AllOf c n trace me told = AllAt (λ t x. IsOf c t me x) n trace told

-- what a site does as it may: as Fine of tree_laws, of all its roles together
pub record SiteFine (c : Config) (n : ℕ) (trace : List Line) (me : ℕ) (F : List Line → SiteView → Type 0) (W : DiskWrite → Type 0) (o : Outcome SiteView) : Type 0 where
  pub told : AllTold c n trace o.told
  pub own : AllOf c n trace me o.told
  pub view : F (told_onto n o.told trace) o.view
  pub sent : Every (PacketFact c (told_onto n o.told trace)) o.sent
  pub written : WrittenFact W o.written

-- ---- the world ----

abbrev pub PlaceFact : Config → ℕ → List Line → Place → Type 0
PlaceFact c s trace (Running v) = SiteFact c s trace v
PlaceFact c s trace (Stopped d) = StoppedFact c s trace d

abbrev pub NumberedFact : Config → List Line → Numbered → Type 0
NumberedFact c trace x = PacketFact c trace x.packet

-- All that was told came as it may; each site has its fact by it, and each packet that was sent, delivered or not; and what sites want
-- is as they have it.
pub record WorldFact (c : Config) (w : World) : Type 0 where
  pub followed : IsFollowed c w.trace
  pub places : (s : ℕ) (p : Place) → place_at w s ≡ Some p → PlaceFact c s w.trace p
  pub sent : Every (NumberedFact c w.trace) w.sent
  pub underway : Every (NumberedFact c w.trace) w.underway
  pub asked : AskedFact c w
