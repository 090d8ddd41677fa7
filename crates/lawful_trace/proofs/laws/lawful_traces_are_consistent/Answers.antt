use Rattle.disk_calls.specs.of_schedule_lines.Cluster.{config_of}
use Rattle.lawful_trace.proofs.Consistent.{consistent}
use Rattle.lawful_trace.proofs.laws.lawful_traces_are_consistent.Goals as goal

pub returns : goal.returns
returns c lines trace lawful = consistent (config_of lines) lines trace lawful.each
