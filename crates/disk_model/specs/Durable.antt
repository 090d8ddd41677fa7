-- What is durable of a disk in memory.
use Rattle.std.specs.Prelude.{ℕ, List}
use Rattle.disk_model.specs.declared.store.Store.{Store}
use Rattle.disk_model.specs.Store.{durable_of}

abbrev pub durable_in : Store → List ℕ
durable_in store = durable_of store.is_apart store.durable store.unsynced.items store.before.items store.seen
