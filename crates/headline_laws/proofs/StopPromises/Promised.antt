-- The promise of stops, of a trace whose records come so and whose cuts are exact by the folds.
use Rattle.std.proofs.Common.{List, [], ◌∷◌, reverse, ℕ}
use Rattle.locus_ids.specs.declared.config.Config.{Config}
use Rattle.schedule_lines.specs.Cluster.{config_of}
use Rattle.schedule_lines.specs.declared.line.ScheduleLine.{ScheduleLine}
use Rattle.tree_model.specs.Folds.{Trace}
use Rattle.promises.specs.Stops.{StopsBy}
use Rattle.past_laws.specs.Along.{EachComesSo, IsNamed}
use Rattle.past_laws.proofs.Agreeing.{all_agrees}
use Rattle.headline_laws.specs.StopRuns.Stops.{AreExact}
use Rattle.headline_laws.specs.StopPromises.Alike.{EachAgreed}
use Rattle.headline_laws.proofs.StopPromises.Printed.{heeded}
use Rattle.headline_laws.proofs.StopPromises.Stopped.{each_is_cut}

pub each_agreed : (c : Config) → IsNamed c → (trace : Trace) → EachComesSo c trace → EachAgreed c trace
each_agreed c named [] k = tt
each_agreed c named (r ∷ before) k = (record { comes = k.0; agrees = all_agrees c named before k.1 }, each_agreed c named before k.1)

pub promised : (wrote : ℕ → List ℕ) (lines : List ScheduleLine) (trace : Trace) → IsNamed (config_of lines) → EachComesSo (config_of lines) trace → AreExact wrote (config_of lines) lines trace → StopsBy wrote lines (reverse trace)
promised wrote lines trace named k exact = record { cuts = each_is_cut wrote (config_of lines) lines trace (each_agreed (config_of lines) named trace k) exact.cuts; heeded = heeded wrote (config_of lines) lines trace (each_agreed (config_of lines) named trace k) exact.heeds }
