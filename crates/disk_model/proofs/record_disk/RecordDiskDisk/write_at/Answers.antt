use Rattle.std.proofs.Common.{◌≡◌, ap, ◌∙◌, length}
use Rattle.disk_model.specs.declared.record_disk.Call.TheVariants.{Wrote}
use Rattle.disk_model.specs.Images.{Torn}
use Rattle.disk_model.proofs.Spans.{length-overwritten}
use Rattle.disk_model.proofs.Record.{goes, remembers, write_step}
use Rattle.disk_model.proofs.record_disk.RecordDiskDisk.write_at.Goals as goal

pub returns-clause-crash : goal.returns-clause-crash
returns-clause-crash c =
    let old = c.args.self.now in
    let new = c.keep_write.new.self in
    let k = c.keep_write.ensures in
    let bytes = c.args.bytes.now in
    let call = Wrote (record { at = c.args.at; len = length bytes }) (length old.pool.items) in
    let same : length new.seen.items ≡ length old.seen.items = ap length k.seen ∙ length-overwritten old.seen.items c.args.at bytes c.requires in
    goes old new call bytes same k.pool k.calls (Torn c.args.at (length bytes)) (write_step old new c.args.at bytes c.requires same k.pool k.calls)

pub returns-clause-remembers : goal.returns-clause-remembers
returns-clause-remembers c =
    let old = c.args.self.now in
    let new = c.keep_write.new.self in
    let k = c.keep_write.ensures in
    let bytes = c.args.bytes.now in
    let call = Wrote (record { at = c.args.at; len = length bytes }) (length old.pool.items) in
    let same : length new.seen.items ≡ length old.seen.items = ap length k.seen ∙ length-overwritten old.seen.items c.args.at bytes c.requires in
    remembers old new call bytes same k.pool k.calls
