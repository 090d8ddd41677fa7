-- Rounds that are calm from their start: each member of an epoch stays up, inside and connected with each other one.
use Rattle.std.specs.Prelude.{ℕ, zero, suc, ◌≡◌, ◌≢◌, ◌≤◌, false, List, take, Option, Some, None}
use Rattle.locus_ids.specs.declared.config.Config.{Config}
use Rattle.schedule_lines.specs.declared.line.ScheduleLine.{ScheduleLine}
use Rattle.role_steps.specs.Own.{Every}
use Rattle.role_steps.specs.Views.{SiteView, boot_in, all_sites}
use Rattle.role_steps.specs.declared.rounds.InEpoch.{InEpoch}
use Rattle.the_run.specs.Joins.{IsAtMost}
use Rattle.the_run.specs.Worlds.{World, Running, Numbered, place_at, is_cut, script_of}
use Rattle.the_run.specs.Runs.{arrives, next_packet, ticks_to, settles, run_in}
use Rattle.row_laws.specs.Orderly.Quiet.{OnPoll}

-- a member of the epoch is up with its listed boot, and in it
pub record IsInside (w : World) (e : InEpoch) (s : ℕ) : Type 0 where
  pub view : SiteView
  pub here : place_at w s ≡ Some (Running view)
  pub boot : view.boot ≡ boot_in e.members.boot s
  pub epoch : view.epoch ≡ Some e

-- each member is, and no circuit between two of them is cut
pub record AreTogether (w : World) (e : InEpoch) : Type 0 where
  pub inside : (s : ℕ) → boot_in e.members.boot s ≢ 0 → IsInside w e s
  pub connected : (s t : ℕ) → boot_in e.members.boot s ≢ 0 → boot_in e.members.boot t ≢ 0 → s ≢ t → is_cut w s t ≡ false

-- no poll of a greater id than the epoch's is under way to a member
abbrev pub CallsNoneAway : InEpoch → Numbered → Type 0
CallsNoneAway e x = boot_in e.members.boot x.packet.to ≢ 0 → OnPoll (IsAtMost x.packet.epoch e.id) x.packet.body

-- The members are together, nobody has an undecided round, no poll calls a member away, and no member's disk is armed.
pub record StartsCalm (w : World) (e : InEpoch) : Type 0 where
  pub together : AreTogether w e
  pub rounds : (s : ℕ) (v : SiteView) → place_at w s ≡ Some (Running v) → v.round ≡ None
  pub polls : Every (CallsNoneAway e) w.underway
  pub unarmed : (s : ℕ) → boot_in e.members.boot s ≢ 0 → script_of w s ≡ None

-- ---- the moments of a round ----

abbrev pub delivers_next : Config → ℕ → World → Option Numbered → World
delivers_next c n w None = w
delivers_next c n w (Some x) = arrives c n x w

-- after so many deliveries, or fewer where no more packets can come
abbrev pub delivered : Config → ℕ → ℕ → World → World
delivered c n zero w = w
delivered c n (suc k) w = delivered c n k (delivers_next c n w (next_packet w))

-- after the ticks of these sites
abbrev pub ticked : Config → ℕ → ℕ → World → World
ticked c n k w = ticks_to c n (take k all_sites) w

-- ---- the law ----

-- A round with a budget of 262,144 or more: where it starts calm, the members are together after
-- each tick and each delivery, and it doesn't end by its budget.
abbrev pub RoundsStayCalm : Config → Type 0
RoundsStayCalm c = (lines : List ScheduleLine) (e : InEpoch) (n most : ℕ) → StartsCalm (run_in c lines) e → 262144 ≤ most →
    ((k : ℕ) → AreTogether (ticked c n k (run_in c lines)) e)
    × ((k : ℕ) → AreTogether (delivered c n k (ticks_to c n all_sites (run_in c lines))) e)
    × (settles c n most (run_in c lines) ≡ delivered c n most (ticks_to c n all_sites (run_in c lines)))
