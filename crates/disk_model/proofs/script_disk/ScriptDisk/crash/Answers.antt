use Rattle.std.proofs.Common.{◌∙◌, sym, ap}
use Rattle.disk_model.specs.declared.script.Leave.{Leave}
use Rattle.disk_model.specs.declared.script_disk.ScriptDisk.{ScriptDisk}
use Rattle.disk_model.specs.ScriptDisk.{seen, unsynced, durable, crashed}
use Rattle.disk_model.proofs.Cuts.{spoil_is}
use Rattle.disk_model.proofs.script_disk.ScriptDisk.crash.Goals.{in-Old, in-New, in-Byte}
use Rattle.disk_model.proofs.script_disk.ScriptDisk.crash.Goals as goal

pub returns-clause-left : goal.returns-clause-left
returns-clause-left c =
    let old = c.args.self.now in
    let left = λ (leave : Leave). crashed leave (unsynced old) (durable old) (seen old) in
    elim c.match-leave.branch [
      | in-Old w ↦ ap (λ (d : ScriptDisk). seen d) w.self-is ∙ w.revert.ensures.seen ∙ sym (ap left w.in-Old.is)
      | in-New w ↦ ap (λ (d : ScriptDisk). seen d) w.self-is ∙ w.sync.ensures.seen ∙ sym (ap left w.in-New.is)
      | in-Byte w ↦ ap (λ (d : ScriptDisk). seen d) w.self-is ∙ spoil_is w.in-Byte.byte (unsynced old) (seen old) _ w.spoil.ensures.length w.spoil.ensures.seen ∙ sym (ap left w.in-Byte.is)
    ]
