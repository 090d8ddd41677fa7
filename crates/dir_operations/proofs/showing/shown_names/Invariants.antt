use Rattle.std.proofs.Common.{◌≡◌, take, map}
use Rattle.std.specs.Prelude.{filter}
use Rattle.dir_format.specs.Entries.{is_live}
use Rattle.dir_format.specs.Lookups.{is_shared, shown_name}
use Rattle.dir_operations.proofs.showing.shown_names.Given as goal

abbrev pub invariant-loop-entry : goal.invariant-loop-entry
invariant-loop-entry l = l.names ≡ map (λ d. shown_name d (is_shared l.entries d.name)) (filter is_live (take l.entry-index l.entries))
