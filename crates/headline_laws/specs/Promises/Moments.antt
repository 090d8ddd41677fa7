-- What holds after each event of a run, and after each of its records.
use Rattle.std.specs.Prelude.{ℕ, ◌≡◌, ◌⊎◌, ◌≤◌, true, List, [], ◌∷◌, ◌++◌, take}
use Rattle.locus_ids.specs.declared.config.Config.{Config}
use Rattle.locus_ids.specs.declared.ids.EpochId.{EpochId}
use Rattle.locus_ids.specs.declared.ids.FileId.{FileId}
use Rattle.locus_ids.specs.declared.ids.Stamp.{Stamp}
use Rattle.commit_graph.specs.declared.history.Version.{Version}
use Rattle.commit_graph.specs.Versions.{is_ancestor, is_in, is_proper_ancestor}
use Rattle.schedule_lines.specs.declared.line.Line.TheVariants as line
use Rattle.schedule_lines.specs.declared.line.ScheduleLine.{ScheduleLine}
use Rattle.schedule_lines.specs.declared.line.ScheduleLine.TheVariants.{Event}
use Rattle.role_steps.specs.Views.{all_sites}
use Rattle.the_run.specs.Runs.{budget_ends, ticks_to, run_in}
use Rattle.the_run.specs.Worlds.{World}
use Rattle.tree_model.specs.Folds.{Trace}
use Rattle.tree_model.specs.Histories.{history}
use Rattle.tree_model.specs.State.{has_stamp}
use Rattle.tree_model.specs.Tree.{candidates, kept_in}
use Rattle.lawful_trace.specs.Places.{line_at, lines_before}
use Rattle.site_laws.specs.Kept.Vectors.{has_below}
use Rattle.rest_laws.specs.CopiesKept.Hold.{VersionsAndCopiesHold}
use Rattle.row_laws.specs.Orderly.Calm.{delivered, ticked}
use Rattle.row_laws.specs.Bounds.Asking.{RequestsBounded}
use Rattle.row_laws.specs.Bounds.Deliveries.{DeliveriesSendOne}
use Rattle.headline_laws.specs.WholeRuns.Disks.{DisksHold}
use Rattle.headline_laws.specs.Promises.Holding.{AtEachMoment, CommitsAreHeld}
use Rattle.headline_laws.specs.Promises.OneHistory.{HistoryIsOne}

-- ---- events ----

-- as the run stands after some ticks of a round
pub record IsTicking (c : Config) (lines : List ScheduleLine) (w : World) : Type 0 where
  pub n : ℕ
  pub most : ℕ
  pub settles : line_at lines n ≡ Event (line.Settle most)
  pub ticks : ℕ
  pub is_world : w ≡ ticked c n ticks (run_in c (lines_before lines n))

-- as it stands after all ticks of a round and some deliveries, no more than its budget
pub record IsDelivering (c : Config) (lines : List ScheduleLine) (w : World) : Type 0 where
  pub n : ℕ
  pub most : ℕ
  pub settles : line_at lines n ≡ Event (line.Settle most)
  pub deliveries : ℕ
  pub few : deliveries ≤ most
  pub is_world : w ≡ delivered c n deliveries (ticks_to c n all_sites (run_in c (lines_before lines n)))

-- A round is its ticks and its deliveries, one event each, and each other line is one event at most: so the run stands after its events.
abbrev pub IsAfterEvent : Config → List ScheduleLine → World → Type 0
IsAfterEvent c lines w = ((k : ℕ) × (w ≡ run_in c (take k lines))) ⊎ (IsTicking c lines w ⊎ IsDelivering c lines w)

-- these lines, and then a round of so many deliveries
abbrev pub with_round : List ScheduleLine → ℕ → List ScheduleLine
with_round lines most = lines ++ Event (line.Settle most) ∷ []

-- What stands so within a round is the end of one with a smaller budget, but for the record that it ended by that.
abbrev pub MomentsEndRounds : Config → List ScheduleLine → Type 0
MomentsEndRounds c lines = (w : World) (k : IsDelivering c lines w) → (run_in c (with_round (lines_before lines k.n) k.deliveries) ≡ w) ⊎ (run_in c (with_round (lines_before lines k.n) k.deliveries) ≡ budget_ends k.n w)

-- after each event the disks hold what the records tell; versions, by whichever name, are of one history; they have written vectors that
-- tell ancestors, and each copy is a version whole; the requests of calls are within their bounds, and one delivery more sends at most one
-- packet that serves a call
pub record EventsLeave (c : Config) (w : World) : Type 0 where
  pub disks : DisksHold c w
  pub history : HistoryIsOne c w
  pub versions : VersionsAndCopiesHold c w
  pub requests : RequestsBounded w
  pub deliveries : DeliveriesSendOne c w

abbrev pub HoldsAfterEvents : Config → List ScheduleLine → Type 0
HoldsAfterEvents c lines = (w : World) → IsAfterEvent c lines w → EventsLeave c w

-- ---- records ----

-- an ancestor of an ancestor of a version is one, and no two versions of a file are ancestors of each other
pub record AreOrdered (h : List Version) : Type 0 where
  pub through : (f : FileId) (a b d : Stamp) → is_in h f d ≡ true → is_ancestor h f a b ≡ true → is_ancestor h f b d ≡ true → is_ancestor h f a d ≡ true
  pub apart : (f : FileId) (a b : Stamp) → is_in h f b ≡ true → is_ancestor h f a b ≡ true → is_ancestor h f b a ≡ true → a ≡ b

-- the version is an ancestor of one that the epoch keeps
pub record IsUnderKept (c : Config) (now : Trace) (e : EpochId) (f : FileId) (stamp : Stamp) : Type 0 where
  pub top : Stamp
  pub is_kept : has_stamp (kept_in c now e f) top ≡ true
  pub above : is_ancestor (history c now) f stamp top ≡ true

-- what holds of the one history of these records
pub record VersionsHold (c : Config) (now : Trace) : Type 0 where
  pub ordered : AreOrdered (history c now)
  -- of two versions one is a proper ancestor of the other just where its written vector is below the other's
  pub vectors : (f : FileId) (a b : Stamp) → is_in (history c now) f a ≡ true → is_in (history c now) f b ≡ true → is_proper_ancestor (history c now) f a b ≡ has_below (history c now) f a b
  -- in each epoch each version that was brought to it or published in it, and each ancestor of one, is an ancestor of a kept one
  pub kept : (e : EpochId) (f : FileId) (known stamp : Stamp) → has_stamp (candidates c now e f) known ≡ true → is_ancestor (history c now) f stamp known ≡ true → IsUnderKept c now e f stamp
  -- everywhere and always each commit is an ancestor of what its own site holds
  pub held : CommitsAreHeld c now

-- so it is after each record
abbrev pub VersionsHoldThroughout : Config → Trace → Type 0
VersionsHoldThroughout c trace = AtEachMoment (VersionsHold c) trace
