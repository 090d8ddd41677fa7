-- What an event leaves of the waiting calls, the serial numbers and the descriptors of a site.
use Rattle.locus_ids.specs.declared.config.Config.{Config}
use Rattle.std.specs.Prelude.{ℕ, ◌≡◌, true, false, List, [], ◌∷◌, Option, Some, None}
use Rattle.locus_ids.specs.declared.ids.EpochId.{EpochId}
use Rattle.trace_book.specs.declared.record.Record.{Record}
use Rattle.trace_book.specs.declared.record.Record.TheVariants as says
use Rattle.role_steps.specs.Own.{Every}
use Rattle.role_steps.specs.Views.{Users, SiteView, Told, Shown, Outcome}
use Rattle.role_steps.specs.declared.rounds.InEpoch.{InEpoch}
use Rattle.tree_model.specs.Folds.{Trace}
use Rattle.tree_model.specs.Epochs.{has_joined}
use Rattle.the_run.specs.Steps.{epoch_id}
use Rattle.the_run.specs.Worlds.{World, Place, Running, Stopped, place_at}
use Rattle.row_laws.specs.Shown.{with_told, trace_of, EachRecord}
use Rattle.row_laws.specs.Inward.{LooksInward}
use Rattle.row_laws.specs.CallRows.Accepting.{IsAcceptRow}
use Rattle.row_laws.specs.CallRows.Serials.{Owned}
use Rattle.row_laws.specs.CallRows.Waiting.{after, AllAccepted, OfSite, Waits, NoneWaits}

-- ---- a part of the users of a site ----

pub record UsersDo (c : Config) (known : EpochId → Type 0) (s boot : ℕ) (now : Option EpochId) (m : ℕ) (trace : Trace) (o : Outcome Users) : Type 0 where
  pub waits : Waits c s boot (after m o.told trace) o.view.calls o.view.waiting
  pub owned : Owned known now o.view
  pub rows : AllAccepted c m o.told trace
  pub own : Every (OfSite s) o.told
  pub none : o.written ≡ None

-- ---- a site ----

-- the site has been in the epoch
abbrev pub WasIn : ℕ → Trace → EpochId → Type 0
WasIn s trace e = has_joined trace s e ≡ true

abbrev pub IsInside : ℕ → Trace → Option InEpoch → Type 0
IsInside s trace None = Unit {0}
IsInside s trace (Some e) = WasIn s trace e.id

-- a running site's calls wait as the records say, and its descriptors are of epochs that it was in
pub record Stands (c : Config) (s : ℕ) (trace : Trace) (v : SiteView) : Type 0 where
  pub waits : Waits c s v.boot trace v.users.calls v.users.waiting
  pub owned : Owned (WasIn s trace) (epoch_id v.epoch) v.users
  pub tables : Every LooksInward v.tables
  pub inside : IsInside s trace v.epoch

-- each join is of an epoch that its site was never in
abbrev pub NewRecord : Trace → Record → Type 0
NewRecord trace (says.Join site id members) = has_joined trace site id ≡ false
NewRecord trace _ = Unit {0}

abbrev pub NewTold : Trace → Told → Type 0
NewTold trace (Shown r) = NewRecord trace r
NewTold trace _ = Unit {0}

abbrev pub AllNew : ℕ → List Told → Trace → Type 0
AllNew m [] trace = Unit {0}
AllNew m (x ∷ xs) trace = NewTold trace x × AllNew m xs (with_told m x trace)

-- what an event, or a part of it, leaves and tells
pub record SiteDone (c : Config) (s m : ℕ) (trace : Trace) (o : Outcome SiteView) : Type 0 where
  pub view : Stands c s (after m o.told trace) o.view
  pub rows : AllAccepted c m o.told trace
  pub own : Every (OfSite s) o.told

-- where its joins are new
abbrev pub SiteDoes : Config → ℕ → ℕ → Trace → Outcome SiteView → Type 0
SiteDoes c s m trace o = AllNew m o.told trace → SiteDone c s m trace o

-- ---- the world ----

abbrev pub PlaceStands : Config → ℕ → Trace → Place → Type 0
PlaceStands c s trace (Running v) = Stands c s trace v
PlaceStands c s trace (Stopped d) = NoneWaits s trace

pub record CallsStand (c : Config) (w : World) : Type 0 where
  pub rows : EachRecord (IsAcceptRow c) (trace_of w)
  pub places : (s : ℕ) (p : Place) → place_at w s ≡ Some p → PlaceStands c s (trace_of w) p
