-- An open that comes again is answered as before.
use Rattle.std.proofs.Common.{ℕ, List, refl, subst, inr}
use Rattle.locus_ids.specs.declared.config.Config.{Config}
use Rattle.locus_ids.specs.declared.ids.CallId.{CallId}
use Rattle.locus_ids.specs.declared.ids.Mode.{Mode}
use Rattle.locus_ids.specs.declared.ids.Mode.TheVariants as mode
use Rattle.locus_ids.specs.declared.ids.Stamp.{Stamp}
use Rattle.role_steps.specs.Opens.{repeats_open, stamp_or_none}
use Rattle.role_steps.specs.Own.{Every}
use Rattle.role_steps.specs.Views.{Frame}
use Rattle.role_steps.specs.declared.synchronizing.OpenRow.{OpenRow}
use Rattle.role_steps.specs.declared.synchronizing.OpenStage.{OpenStage}
use Rattle.role_steps.specs.declared.synchronizing.OpenStage.TheVariants as stage
use Rattle.the_run.specs.Worlds.{Line}
use Rattle.tree_laws.specs.Packets.{PacketFact, JoinsParents, OpenSsFact}
use Rattle.tree_laws.specs.Tables.{AskedFact, RowFact, StageFact}

asked_again : (c : Config) (trace : List Line) (f : Frame) (r : OpenRow) (d : CallId) (m : Mode) → AskedFact c trace f.epoch r d m → JoinsParents c trace r.file r.parents r.vector → OpenSsFact c trace f.epoch r.ss r.inst r.file m r.set r.kind (stamp_or_none r.stamp) r.vector r.parents
asked_again c trace f r d mode.Make k j = (inr (inr k.make), k.parents_are, subst (λ (ps : List Stamp). JoinsParents c trace r.file ps r.vector) k.parents_are j)
asked_again c trace f r d mode.Read k j = k.1
asked_again c trace f r d mode.Write k j = k.1
asked_again c trace f r d mode.Resolve k j = k.1
asked_again c trace f r d mode.Mend k j = k.1

pub again : (c : Config) (trace : List Line) (f : Frame) (group : ℕ) (r : OpenRow) (k : RowFact c trace f.epoch group r) (s : OpenStage) → StageFact c trace f.epoch r k.call s → Every (PacketFact c trace) (repeats_open f r s)
again c trace f group r k stage.Asked h = (asked_again c trace f r k.call r.mode h k.vector_is, tt)
again c trace f group r k stage.Granted h = (record { call = k.call; request = r.request; mode = r.mode; file = r.file; stamp = r.stamp; was_granted = h.0.was_granted; number_is = refl; told_is = refl; sees = k.sees; sized = h.2 }, tt)
again c trace f group r k (stage.Refused why) h = ((k.call, r.request, r.mode, h), tt)
again c trace f group r k stage.Ended h = tt
