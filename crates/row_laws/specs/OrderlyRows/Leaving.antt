-- Whom the lines of a trace tell to leave their epochs, and by which events a site does.
use Rattle.std.specs.Prelude.{ℕ, ◌≡◌, ◌≢◌, true}
use Rattle.locus_ids.specs.declared.sites.Links.{Links}
use Rattle.trace_book.specs.declared.record.Record.{Record}
use Rattle.trace_book.specs.declared.record.Record.TheVariants as says
use Rattle.wire_messages.specs.declared.body.Body.TheVariants as body
use Rattle.role_steps.specs.Epochs.{is_epoch_below}
use Rattle.role_steps.specs.Own.{Every}
use Rattle.role_steps.specs.Views.{SiteView, Told, Shown, Outcome, Event, Receives, Parts, Merges, GivesUp, boot_in}
use Rattle.run_laws.specs.Words.{InsideWrite}
use Rattle.the_run.specs.Worlds.{World, Line}
use Rattle.row_laws.specs.Orderly.Settling.{Starts}

-- ---- records ----

-- where it tells that a site leaves, that site has the property
abbrev pub LeaveRecord : (ℕ → Type 0) → Record → Type 0
LeaveRecord L (says.Leave site epoch) = L site
LeaveRecord L _ = Unit {0}

abbrev pub LeaveTold : (ℕ → Type 0) → Told → Type 0
LeaveTold L (Shown r) = LeaveRecord L r
LeaveTold L _ = Unit {0}

-- so in the lines with this number
abbrev pub LeaveLine : ℕ → (ℕ → Type 0) → Line → Type 0
LeaveLine n L x = x.number ≡ n → LeaveTold L x.told

abbrev pub Leavers : ℕ → (ℕ → Type 0) → World → Type 0
Leavers n L w = Every (LeaveLine n L) w.trace

-- ---- events ----

-- a site leaves by an event of its own line, or by a poll of a greater id than it has promised
abbrev pub HasLeave : SiteView → Event → Type 0
HasLeave v (Receives p) = (p.body ≡ body.Poll) × ((p.to_boot ≡ v.boot) × (is_epoch_below v.promised p.epoch ≡ true))
HasLeave v Parts = Unit {0}
HasLeave v Merges = Unit {0}
HasLeave v GivesUp = Unit {0}
HasLeave v _ = ⊥

-- an outcome tells of such leaves alone, and what it writes tells of none
pub record Leaves (L : ℕ → Type 0) (o : Outcome SiteView) : Type 0 where
  pub told : Every (LeaveTold L) o.told
  pub written : InsideWrite o.written

-- ---- a block ----

-- one of those that start asks this site
pub record IsAsked (R : Starts) (s : ℕ) : Type 0 where
  pub by : ℕ
  pub polled : Links
  pub starts : R by polled
  pub asked : boot_in polled.boot s ≢ 0
