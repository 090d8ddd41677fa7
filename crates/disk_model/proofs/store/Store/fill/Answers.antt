use Rattle.std.proofs.Common.{◌≡◌, ◌≤◌, ◌+◌, ◌++◌, [], ◌∷◌, ap, sym, ◌∙◌, subst, arith, List, ℕ, length, replicate}
use Rattle.std.proofs.lemmas.List.{length-replicate}
use Rattle.disk_model.specs.declared.store.Span.{Span}
use Rattle.disk_model.specs.Images.{overwritten}
use Rattle.disk_model.specs.Store.{AreInRange, SameOutside, durable_of}
use Rattle.disk_model.proofs.Spans.{length-overwritten, synced_push, synced_write}
use Rattle.disk_model.proofs.store.Store.fill.Goals as goal

pub invariant_of-self : goal.invariant_of-self
invariant_of-self c =
    let s = c.keep.new.self in
    let old = c.make_bytes_room.new.self in
    let bytes = replicate c.args.span.len c.args.byte in
    let span : Span = c.args.span in
    let filled : length bytes ≡ span.len = length-replicate c.args.span.len c.args.byte in
    let same_seen : s.seen ≡ old.seen = c.keep.ensures.seen in
    let fits : c.args.span.at + length bytes ≤ length old.seen = omega (arith, ap (λ (l : List ℕ). length l) c.make_bytes_room.ensures.seen, ap (λ (l : List ℕ). length l) c.make_room.ensures.seen, filled, c.requires) in
    let is : c.fill.new.self ≡ overwritten old.seen c.args.span.at bytes = c.fill.ensures ∙ ap (λ (l : List ℕ). overwritten l c.args.span.at bytes) same_seen in
    let long : length c.fill.new.self ≡ length s.seen = ap (λ (l : List ℕ). length l) is ∙ length-overwritten old.seen c.args.span.at bytes fits ∙ sym (ap (λ (l : List ℕ). length l) same_seen) in
    let durable : durable_of s.is_apart s.durable s.unsynced.items s.before.items c.fill.new.self ≡ durable_of old.is_apart old.durable old.unsynced.items old.before.items old.seen = ap (λ (l : List ℕ). durable_of s.is_apart s.durable s.unsynced.items s.before.items l) is ∙ c.keep.ensures.later bytes filled in
    record {
      short = omega (arith, s.short, long);
      long = s.long ∙ sym long;
      room = s.room;
      bytes_room = s.bytes_room;
      in_range = subst (λ (n : ℕ). AreInRange s.unsynced.items n) (sym long) s.in_range;
      kept = s.kept;
      in_room = s.in_room;
      same_length = ap (λ (l : List ℕ). length l) durable ∙ old.same_length ∙ sym (long ∙ ap (λ (l : List ℕ). length l) same_seen);
      synced = subst (λ (l : List ℕ). SameOutside s.unsynced.items l c.fill.new.self) (sym durable)
          (subst (λ (l : List ℕ). SameOutside s.unsynced.items (durable_of old.is_apart old.durable old.unsynced.items old.before.items old.seen) l) (sym is)
          (subst (λ (l : List Span). SameOutside l (durable_of old.is_apart old.durable old.unsynced.items old.before.items old.seen) (overwritten old.seen c.args.span.at bytes)) (sym c.keep.ensures.unsynced)
          (synced_write old.unsynced.items span (durable_of old.is_apart old.durable old.unsynced.items old.before.items old.seen) old.seen bytes filled (omega (arith, fits, filled)) (synced_push old.unsynced.items span (durable_of old.is_apart old.durable old.unsynced.items old.before.items old.seen) old.seen old.synced))));
    }

pub returns-clause-durable : goal.returns-clause-durable
returns-clause-durable c =
    let s = c.keep.new.self in
    let bytes = replicate c.args.span.len c.args.byte in
    let is : c.fill.new.self ≡ overwritten c.make_bytes_room.new.self.seen c.args.span.at bytes = c.fill.ensures ∙ ap (λ (l : List ℕ). overwritten l c.args.span.at bytes) c.keep.ensures.seen in
    ap (λ (l : List ℕ). durable_of s.is_apart s.durable s.unsynced.items s.before.items l) is ∙ c.keep.ensures.later bytes (length-replicate c.args.span.len c.args.byte) ∙ c.make_bytes_room.ensures.durable ∙ c.make_room.ensures.durable
