use Rattle.std.proofs.Common.{sym, ◌∙◌, subst, List, ℕ, length}
use Rattle.disk_model.specs.Images.{Torn}
use Rattle.disk_model.proofs.Images.{torn_overwritten, torn_left, write_goes}
use Rattle.disk_model.proofs.Cuts.{passed_cut, stopped_cut}
use Rattle.disk_model.proofs.script_disk.ScriptDiskDisk.write_at.Goals as goal

pub returns-in-Passes-clause-crash : goal.returns-in-Passes-clause-crash
returns-in-Passes-clause-crash c =
    let old = c.args.self.now in
    let bytes = c.args.bytes.now in
    let n = length bytes in
    let torn : Torn c.args.at n old.store.seen c.write.new.self.seen = subst (λ (l : List ℕ). Torn c.args.at n old.store.seen l) (sym c.write.ensures.seen) (torn_overwritten old.store.seen c.args.at bytes c.requires) in
    write_goes old (record { store = c.write.new.self; script = c.next_write.new.self }) c.args.at n c.requires torn c.write.ensures.unsynced

pub returns-in-Stops-clause-failed : goal.returns-in-Stops-clause-failed
returns-in-Stops-clause-failed c =
    let old = c.args.self.now in
    let bytes = c.args.bytes.now in
    subst (λ (l : List ℕ). Torn c.args.at (length bytes) old.store.seen l) (sym c.stop_write.ensures.seen) (torn_left c.in-Stops.leave old.store.seen c.args.at bytes c.requires)

pub returns-in-Stops-clause-crash : goal.returns-in-Stops-clause-crash
returns-in-Stops-clause-crash c =
    let old = c.args.self.now in
    write_goes old (record { store = c.stop_write.new.self; script = c.next_write.new.self }) c.args.at (length c.args.bytes.now) c.requires (returns-in-Stops-clause-failed c) c.stop_write.ensures.unsynced

pub returns-in-Passes-clause-cut : goal.returns-in-Passes-clause-cut
returns-in-Passes-clause-cut c =
    passed_cut c.args.self.now (record { store = c.write.new.self; script = c.next_write.new.self }) c.args.at c.args.bytes.now c.requires (sym c.next_write.ensures.met ∙ c.in-Passes.is)
    c.next_write.ensures.script c.write.ensures.seen c.write.ensures.durable c.write.ensures.unsynced

pub returns-in-Stops-clause-cut : goal.returns-in-Stops-clause-cut
returns-in-Stops-clause-cut c =
    stopped_cut c.args.self.now (record { store = c.stop_write.new.self; script = c.next_write.new.self }) c.args.at c.args.bytes.now c.in-Stops.leave c.requires (sym c.next_write.ensures.met ∙ c.in-Stops.is)
    c.next_write.ensures.script c.stop_write.ensures.seen c.stop_write.ensures.durable c.stop_write.ensures.unsynced _
