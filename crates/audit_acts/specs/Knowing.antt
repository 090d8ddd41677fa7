-- What a history and an epoch tell by what they know alone.
use Rattle.std.specs.Prelude.{ℕ, cond, List, [], map}
use Rattle.std.specs.List.{flat_map}
use Rattle.locus_ids.specs.declared.ids.EpochId.{EpochId}
use Rattle.commit_graph.specs.declared.history.Version.{Version}
use Rattle.commit_graph.specs.Vectors.{vector_of}
use Rattle.dir_format.specs.declared.entry.Entry.{Entry}
use Rattle.dir_format.specs.Entries.{is_live}
use Rattle.dir_reconcile.specs.declared.kept.KeptVector.{KeptVector}
use Rattle.promises.specs.Past.{Another, Copy, Epoch, Instance, Past, kept_in, unformed}

-- a past of which the history is known alone
abbrev pub of_history : List Version → Past
of_history h = record { sites = []; epochs = []; calls = []; history = h; files = []; last = Another }

abbrev pub no_epoch : EpochId
no_epoch = record { number = 0; site = 0; boot = 0 }

-- an epoch of which the versions and the open instances are known alone
abbrev pub knowing : List Copy → List Instance → Epoch
knowing known opened = record (unformed no_epoch) { known = known; opened = opened }

-- the vectors of the kept versions of one file of a group
abbrev pub vectors_of : List Version → List Copy → (group ino : ℕ) → List KeptVector
vectors_of h known group ino = map (λ s. record { ino = ino; vector = vector_of h (record { group = group; ino = ino }) s }) (kept_in (of_history h) (knowing known []) (record { group = group; ino = ino }))

-- those of the removed entries of a directory of the group: a rescue asks for no others
abbrev pub vectors_removed : List Version → List Copy → ℕ → List Entry → List KeptVector
vectors_removed h known group ds = flat_map (λ (d : Entry). cond (is_live d) [] (vectors_of h known group d.ino)) ds
