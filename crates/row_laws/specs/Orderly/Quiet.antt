-- When sites are quiet: nobody has an undecided round, and no poll makes anybody leave any more.
use Rattle.std.specs.Prelude.{ℕ, ◌≡◌, Some, None}
use Rattle.wire_messages.specs.declared.packet.Packet.{Packet}
use Rattle.wire_messages.specs.declared.body.Body.{Body}
use Rattle.wire_messages.specs.declared.body.Body.TheVariants.{Poll}
use Rattle.role_steps.specs.Own.{Every}
use Rattle.role_steps.specs.Views.{SiteView}
use Rattle.the_run.specs.Joins.{IsAtMost}
use Rattle.the_run.specs.Worlds.{World, Running, Numbered, place_at}
use Rattle.run_laws.specs.Epochs.Known.{Places}

-- the receiver of the poll doesn't run in its boot, or has promised at least its id: it doesn't leave for it
abbrev pub IsDead : Places → Packet → Type 0
IsDead at p = (v : SiteView) → at p.to ≡ Some (Running v) → v.boot ≡ p.to_boot → IsAtMost p.epoch v.promised

-- this holds where the body is a poll
abbrev pub OnPoll : Type 0 → Body → Type 0
OnPoll A Poll = A
OnPoll A _ = Unit {0}

abbrev pub DeadPoll : Places → Numbered → Type 0
DeadPoll at x = OnPoll (IsDead at x.packet) x.packet.body

-- no running site has a round, and every poll that was ever sent is dead
pub record IsQuiet (w : World) : Type 0 where
  pub rounds : (s : ℕ) (v : SiteView) → place_at w s ≡ Some (Running v) → v.round ≡ None
  pub sent : Every (DeadPoll (place_at w)) w.sent
  pub underway : Every (DeadPoll (place_at w)) w.underway
