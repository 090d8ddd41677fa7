-- What a property of worlds has to keep so that it holds in every run: one field for each thing that happens.
use Rattle.std.specs.Prelude.{ℕ, ◌≡◌, ◌⊎◌, List, [], ◌∷◌, Some}
use Rattle.locus_ids.specs.declared.config.Config.{Config}
use Rattle.role_steps.specs.Views.{SiteView, Event, Receives}
use Rattle.the_run.specs.Disks.{Disk, Armed, boots}
use Rattle.the_run.specs.Steps.{step}
use Rattle.the_run.specs.Worlds.{World, Running, Stopped, Numbered, CutCircuit, place_at, links_of, script_of, acts, passed, loses, arms, voids}
use Rattle.the_run.specs.Runs.{asked_stop, boots_as, budget_ends, lists_pending}

-- x is one of the elements
abbrev pub Among : {A : Type 0} → A → List A → Type 0
Among x [] = ⊥
Among x (y ∷ ys) = (x ≡ y) ⊎ Among x ys

-- the packet was sent
abbrev pub WasSent : World → Numbered → Type 0
WasSent w x = Among x w.sent ⊎ Among x w.underway

-- an event that needs no packet
abbrev pub IsOwn : Event → Type 0
IsOwn (Receives p) = ⊥
IsOwn _ = Unit {0}

abbrev pub with_circuits : List CutCircuit → World → World
with_circuits xs w = record w { circuits = xs }

pub record Kept (c : Config) (P : World → Type 0) : Type 0 where
  -- a running site has a call, a tick or an epoch line
  pub steps : (n s : ℕ) (e : Event) (v : SiteView) (w : World) → place_at w s ≡ Some (Running v) → IsOwn e → P w → P (acts n s v (step c s (links_of w s) v e) w)
  -- it receives a packet that was sent
  pub receives : (n : ℕ) (x : Numbered) (v : SiteView) (w : World) → place_at w x.packet.to ≡ Some (Running v) → WasSent w x → P w →
      P (acts n x.packet.to v (step c x.packet.to (links_of (passed x.number w) x.packet.to) v (Receives x.packet)) (passed x.number w))
  pub passes : (k : ℕ) (w : World) → P w → P (passed k w)
  pub drops : (k : ℕ) (w : World) → P w → P (loses k w)
  pub recuts : (xs : List CutCircuit) (w : World) → P w → P (with_circuits xs w)
  pub arming : (a : Armed) (w : World) → P w → P (arms a w)
  pub voiding : (n : ℕ) (w : World) → P w → P (voids n w)
  pub budgets : (n : ℕ) (w : World) → P w → P (budget_ends n w)
  pub pending : (n : ℕ) (w : World) → P w → P (lists_pending n w)
  pub stopping : (n s : ℕ) (v : SiteView) (w : World) → place_at w s ≡ Some (Running v) → P w → P (asked_stop n s v w)
  pub booting : (n s : ℕ) (d : Disk) (w : World) → place_at w s ≡ Some (Stopped d) → P w → P (boots_as n s (boots (script_of w s) d) w)
