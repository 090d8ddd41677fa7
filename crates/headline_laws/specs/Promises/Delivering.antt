-- What calm rounds leave under way.
use Rattle.std.specs.Prelude.{ℕ, ◌≡◌, true, List, take}
use Rattle.locus_ids.specs.declared.config.Config.{Config}
use Rattle.locus_ids.specs.declared.ids.EpochId.{EpochId}
use Rattle.locus_ids.specs.declared.sites.Members.{Members}
use Rattle.schedule_lines.specs.declared.line.ScheduleLine.{ScheduleLine}
use Rattle.role_steps.specs.Own.{Every}
use Rattle.the_run.specs.Runs.{run_in}
use Rattle.the_run.specs.Worlds.{Numbered}
use Rattle.tree_model.specs.Packs.{is_member}
use Rattle.lawful_trace.specs.Calm.{IsCalmRound}
use Rattle.row_laws.specs.Shown.{trace_of}

-- the packet goes from one of the members to one of them, as all packets of their epoch do
pub record IsBetween (members : Members) (x : Numbered) : Type 0 where
  pub sender : is_member members x.packet.from ≡ true
  pub receiver : is_member members x.packet.to ≡ true

-- At the end of a calm round no packet of its epoch is under way.
abbrev pub CalmRoundsDeliverAll : Config → List ScheduleLine → Type 0
CalmRoundsDeliverAll c lines = (n : ℕ) (e : EpochId) (members : Members) → IsCalmRound lines (trace_of (run_in c lines)) n e members → Every (λ (x : Numbered). IsBetween members x → ⊥) (run_in c (take n lines)).underway
