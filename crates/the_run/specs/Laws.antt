-- What holds in every run: what only grows, and whom an event touches.
use Rattle.std.specs.Prelude.{ℕ, ◌≡◌, ◌≢◌, ◌≤◌, List, ◌++◌, Option, Some, None}
use Rattle.role_steps.specs.Own.{Every, IsOwn}
use Rattle.the_run.specs.Worlds.{World, Place, Running, Stopped, Numbered, Line, place_at}

-- a later world has all packets and records of an earlier one, as they were, and its numbers are no lower
pub record Grows (earlier later : World) : Type 0 where
  pub packets : List Numbered
  pub sent : later.sent ≡ packets ++ earlier.sent
  pub lines : List Line
  pub trace : later.trace ≡ lines ++ earlier.trace
  pub count : earlier.packets ≤ later.packets

-- an event of a site leaves all other sites as they are, and the circuits
pub record TouchesOnly (s : ℕ) (before after : World) : Type 0 where
  pub others : (t : ℕ) → s ≢ t → place_at after t ≡ place_at before t
  pub circuits : after.circuits ≡ before.circuits
  pub lost : after.lost ≡ before.lost

-- ---- boot numbers ----

-- the boot number that a site runs with, or that its disk has
abbrev pub boot_on : Option Place → ℕ
boot_on None = 0
boot_on (Some (Running v)) = v.boot
boot_on (Some (Stopped d)) = d.label.boot

abbrev pub boot_number : World → ℕ → ℕ
boot_number w s = boot_on (place_at w s)

-- no site's boot number is lower later
abbrev pub BootsRise : World → World → Type 0
BootsRise earlier later = (s : ℕ) → boot_number earlier s ≤ boot_number later s

-- the packet names a boot that its sender has had: at most its last one
abbrev pub IsOfABoot : World → Numbered → Type 0
IsOfABoot w x = x.packet.from_boot ≤ boot_number w x.packet.from

abbrev pub EachOfABoot : World → Type 0
EachOfABoot w = Every (IsOfABoot w) w.sent

abbrev pub IsFrom : ℕ → ℕ → Numbered → Type 0
IsFrom s boot x = IsOwn s boot x.packet

-- each packet that an event adds names this site and this boot of it
pub record SendsAs (s boot : ℕ) (before after : World) : Type 0 where
  pub packets : List Numbered
  pub sent : after.sent ≡ packets ++ before.sent
  pub own : Every (IsFrom s boot) packets
