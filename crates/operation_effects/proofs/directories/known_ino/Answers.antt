use Rattle.std.proofs.lemmas.Bool.{false≢true}
use Rattle.operation_effects.proofs.Inserting.{out_of_range}
use Rattle.operation_effects.proofs.directories.known_ino.Goals as goal

pub returns-in-None : goal.returns-in-None
returns-in-None c = record { value = tt; none = λ name. out_of_range name c.args.ino c.args.d.now c.as_slice-entries.ensures.is_dir.entries (λ h. false≢true (c.in-None.ensures.some.1 h)) }
