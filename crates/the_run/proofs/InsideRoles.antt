-- A call installs, refuses and joins nothing.
use Rattle.std.proofs.Common.{ℕ, Option}
use Rattle.locus_ids.specs.declared.ids.EpochId.{EpochId}
use Rattle.role_steps.specs.of_trace_book.declared.call.Call.{Call}
use Rattle.role_steps.specs.Views.{Frame, Users}
use Rattle.role_steps.specs.Using.{on_call}
use Rattle.the_run.specs.Joins.{Still}
use Rattle.the_run.proofs.InsideSync.{joins_nothing, plain_keeps}
use Rattle.the_run.proofs.RoleWalks.{on_call_walk}

pub on_call_still : (f : Frame) (now : Option EpochId) (process : ℕ) (words : Call) (u : Users) → Still (on_call f now process words u)
on_call_still f now process words u = on_call_walk joins_nothing f (plain_keeps f).users now process words u (λ n. tt)
