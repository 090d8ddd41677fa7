-- The frame of a site in no epoch, as code has it: sixteen boot numbers of 0.
use Rattle.std.specs.Prelude.{ℕ, map}
use Rattle.locus_ids.specs.declared.config.Config.{Config}
use Rattle.role_steps.specs.Views.{Frame, all_sites}
use Rattle.role_steps.specs.Epochs.{frame_in}
use Rattle.role_steps.specs.declared.rounds.InEpoch.{InEpoch}
use Rattle.std.specs.Prelude.{Option, None, Some}

abbrev pub outside : Config → ℕ → ℕ → Frame
outside c me boot = record { config = c; me = me; boot = boot; epoch = record { number = 0; site = 0; boot = 0 }; members = record { boot = map (λ s. 0) all_sites } }

-- the frame of a call, as code has it
abbrev pub calling : Config → ℕ → ℕ → Option InEpoch → Frame
calling c me boot None = outside c me boot
calling c me boot (Some e) = frame_in c me boot e
