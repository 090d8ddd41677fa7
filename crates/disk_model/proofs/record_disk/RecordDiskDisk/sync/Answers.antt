use Rattle.std.proofs.Common.{[], ap, sym, ◌∙◌, length}
use Rattle.std.proofs.lemmas.List.{append-nil}
use Rattle.disk_model.specs.declared.record_disk.Call.TheVariants.{Synced}
use Rattle.disk_model.specs.Images.{Same}
use Rattle.disk_model.proofs.Images.{only_image}
use Rattle.disk_model.proofs.Record.{goes, remembers, sync_images, sync_step}
use Rattle.disk_model.proofs.record_disk.RecordDiskDisk.sync.Goals as goal

pub returns-clause-durable : goal.returns-clause-durable
returns-clause-durable c =
    let old = c.args.self.now in
    let new = c.keep_sync.new.self in
    let k = c.keep_sync.ensures in
    λ image is. only_image old.seen.items image (sync_images old new (ap length k.seen) k.pool k.calls image is) ∙ sym k.seen

pub returns-clause-crash : goal.returns-clause-crash
returns-clause-crash c =
    let old = c.args.self.now in
    let new = c.keep_sync.new.self in
    let k = c.keep_sync.ensures in
    goes old new Synced [] (ap length k.seen) (k.pool ∙ sym (append-nil old.pool.items)) k.calls Same (sync_step old new (ap length k.seen) k.pool k.calls)

pub returns-clause-remembers : goal.returns-clause-remembers
returns-clause-remembers c =
    let old = c.args.self.now in
    let new = c.keep_sync.new.self in
    let k = c.keep_sync.ensures in
    remembers old new Synced [] (ap length k.seen) (k.pool ∙ sym (append-nil old.pool.items)) k.calls
