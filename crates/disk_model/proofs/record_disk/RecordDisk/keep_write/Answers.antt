use Rattle.std.proofs.Common.{◌≡◌, ◌<◌, ◌≤◌, ◌+◌, ◌++◌, [], ◌∷◌, ap, sym, ◌∙◌, subst, List, ℕ, Bool, cond, arith, length, vec_len, vec_capacity, length-append}
use Rattle.std.specs.Vec.{with_items}
use Rattle.std.proofs.lemmas.List.{with_items_is}
use Rattle.disk_model.specs.declared.record_disk.Call.{Call}
use Rattle.disk_model.specs.declared.record_disk.Call.TheVariants.{Wrote}
use Rattle.disk_model.specs.Images.{overwritten}
use Rattle.disk_model.specs.RecordDisk.{pool_end, disk_end}
use Rattle.disk_model.proofs.Spans.{length-overwritten}
use Rattle.disk_model.proofs.Record.{replayed_write, stand_push}
use Rattle.disk_model.proofs.record_disk.RecordDisk.keep_write.Goals as goal

pub invariant_of-self : goal.invariant_of-self
invariant_of-self c =
    let old = c.args.self.now in
    let bytes = c.args.bytes.now in
    let from = c.len-from.result in
    let raw = Wrote (record { at = c.args.at; len = length bytes }) from in
    let call = Wrote (record { at = c.args.at; len = length bytes }) (length old.pool.items) in
    let from_is : from ≡ length old.pool.items = omega arith in
    let pool_room : vec_len old.pool + length bytes ≤ vec_capacity old.pool = omega (arith, old.bytes_room_is, old.bytes_fit) in
    let pool_is : c.extend_from_slice.new.self.items ≡ old.pool.items ++ bytes = c.extend_from_slice.ensures.items ∙ ap (λ (b : Bool). cond b (old.pool.items ++ bytes) old.pool.items) (c.extend_from_slice.ensures.succeeds pool_room) in
    let spare : vec_len old.calls < vec_capacity old.calls = omega (arith, old.calls_room_is) in
    let calls_are : c.push.new.self.items ≡ old.calls.items ++ call ∷ [] =
    c.push.ensures.items ∙ ap (λ (b : Bool). cond b (old.calls.items ++ raw ∷ []) old.calls.items) (c.push.ensures.succeeds spare)
    ∙ ap (λ (n : ℕ). old.calls.items ++ Wrote (record { at = c.args.at; len = length bytes }) n ∷ []) from_is in
    let put_is : c.put.new.to ≡ overwritten old.seen.items c.args.at bytes = c.put.ensures ∙ ap (λ (l : List ℕ). overwritten l c.args.at bytes) c.deref_mut.ensures.value in
    let long = length-overwritten old.seen.items c.args.at bytes c.requires.fits in
    let seen_is : (with_items old.seen c.put.new.to).items ≡ overwritten old.seen.items c.args.at bytes = with_items_is old.seen c.put.new.to (omega (arith, ap length put_is, long)) ∙ put_is in
    let same : length (with_items old.seen c.put.new.to).items ≡ length old.seen.items = ap length seen_is ∙ long in
    let wider : length c.extend_from_slice.new.self.items ≡ length old.pool.items + length bytes = omega (arith, ap length pool_is, length-append old.pool.items bytes) in
    let new_seen = with_items old.seen c.put.new.to in
    record {
      short = omega (arith, old.short, same);
      bytes_room_is = omega (arith, old.bytes_room_is, c.extend_from_slice.ensures.capacity);
      bytes_fit = omega (arith, wider);
      calls_room_is = omega (arith, old.calls_room_is, c.push.ensures.capacity);
      calls_fit = omega (arith, c.push.ensures.upper_bound);
      in_pool = stand_push (λ (k : Call). pool_end k ≤ length old.pool.items) (λ (k : Call). pool_end k ≤ length c.extend_from_slice.new.self.items) old.calls.items c.push.new.self.items call (λ k le. omega (arith, le, wider)) old.in_pool (omega (arith, wider)) calls_are;
      on_disk = stand_push (λ (k : Call). disk_end k ≤ length old.seen.items) (λ (k : Call). disk_end k ≤ length new_seen.items) old.calls.items c.push.new.self.items call (λ k le. subst (λ (n : ℕ). disk_end k ≤ n) (sym same) le) old.on_disk (subst (λ (n : ℕ). c.args.at + length bytes ≤ n) (sym same) c.requires.fits) calls_are;
      replayed = replayed_write (length old.seen.items) old.pool.items c.extend_from_slice.new.self.items bytes old.seen.items new_seen.items old.calls.items c.push.new.self.items c.args.at same old.in_pool old.replayed pool_is calls_are seen_is;
    }
