-- How a call is cut off, by the lines of the schedule and in the world.
use Rattle.std.proofs.Common.{◌≡◌, refl, ap}
use Rattle.the_run.specs.Disks.{Cut, Stops as Stopping, Fails as Failing}
use Rattle.lawful_trace.specs.Disks.{Arming, Stops, Fails, cut_of}
use Rattle.headline_laws.specs.WholeRuns.CutCounts.{SameArming}

pub cut_same : (a : Arming) (how : Cut) → SameArming a how → cut_of a ≡ how
cut_same (Stops calls l) (Stopping left) h = ap Stopping h
cut_same (Stops calls l) Failing h = absurd h
cut_same (Fails calls) (Stopping left) h = absurd h
cut_same (Fails calls) Failing h = refl
