use Rattle.rest_laws.proofs.Fits.EntryOpen.{entries_numbered, instances_name, versions_name}
use Rattle.rest_laws.proofs.entry.directories_name_files.Goals as goal

pub returns : goal.returns
returns c = record { versions = versions_name; instances = instances_name; numbers = entries_numbered }
