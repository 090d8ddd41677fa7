use Rattle.std.proofs.Common.{◌≡◌, ◌<◌, ◌≤◌, ◌++◌, [], ◌∷◌, ap, ◌∙◌, Bool, cond, arith, length, vec_len, vec_capacity}
use Rattle.disk_model.specs.declared.record_disk.Call.{Call}
use Rattle.disk_model.specs.declared.record_disk.Call.TheVariants.{Synced}
use Rattle.disk_model.specs.RecordDisk.{pool_end, disk_end}
use Rattle.disk_model.proofs.Record.{replayed_sync, stand_push}
use Rattle.disk_model.proofs.record_disk.RecordDisk.keep_sync.Goals as goal

pub invariant_of-self : goal.invariant_of-self
invariant_of-self c =
    let old = c.args.self.now in
    let more = old.calls.items ++ Synced ∷ [] in
    let spare : vec_len old.calls < vec_capacity old.calls = omega (arith, old.calls_room_is) in
    let calls_are : c.push.new.self.items ≡ more = c.push.ensures.items ∙ ap (λ (b : Bool). cond b more old.calls.items) (c.push.ensures.succeeds spare) in
    record {
      short = old.short;
      bytes_room_is = old.bytes_room_is;
      bytes_fit = old.bytes_fit;
      calls_room_is = omega (arith, old.calls_room_is, c.push.ensures.capacity);
      calls_fit = omega (arith, c.push.ensures.upper_bound);
      in_pool = stand_push (λ (k : Call). pool_end k ≤ length old.pool.items) (λ (k : Call). pool_end k ≤ length old.pool.items) old.calls.items c.push.new.self.items Synced (λ k le. le) old.in_pool (omega arith) calls_are;
      on_disk = stand_push (λ (k : Call). disk_end k ≤ length old.seen.items) (λ (k : Call). disk_end k ≤ length old.seen.items) old.calls.items c.push.new.self.items Synced (λ k le. le) old.on_disk (omega arith) calls_are;
      replayed = replayed_sync old.pool.items old.seen.items old.calls.items c.push.new.self.items old.in_pool old.replayed calls_are;
    }
