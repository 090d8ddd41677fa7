use Rattle.lawful_trace.proofs.Growing.{lawful_at_first, grown}
use Rattle.lawful_trace.proofs.laws.lawful_traces_grow.Goals as goal

pub returns-clause-start : goal.returns-clause-start
returns-clause-start c lines quiet = lawful_at_first lines quiet

pub returns-clause-grow : goal.returns-clause-grow
returns-clause-grow c lines trace l new lawful step = grown lines l new trace lawful step
