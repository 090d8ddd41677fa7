use Rattle.std.proofs.Common.{◌≡◌, ◌≤◌, ◌<◌, ◌+◌, ◌++◌, [], ◌∷◌, ap, sym, subst, ◌∙◌, cond, Bool, List, ℕ, arith, length, vec_capacity}
use Rattle.disk_model.specs.declared.store.Span.{Span}
use Rattle.disk_model.specs.Images.{overwritten, bytes_at}
use Rattle.disk_model.specs.Store.{kept_max, AreInRange, SameOutside, bytes_in, durable_of}
use Rattle.disk_model.proofs.Spans.{in_range_push, synced_push}
use Rattle.disk_model.proofs.PutBack.{more_kept, more_in_room, same_kept, same_later}
use Rattle.disk_model.proofs.store.Store.keep.Goals as goal

pub returns-clause-durable : goal.returns-clause-durable
returns-clause-durable c =
    let s = c.args.self.now in
    same_kept s.is_apart s.durable s.unsynced.items c.args.span s.before.items s.seen _ _ s.kept c.requires.inside c.push_reserved.ensures.items c.save_unless.ensures.items

pub returns-clause-later : goal.returns-clause-later
returns-clause-later c = λ bytes long.
    let s = c.args.self.now in
    (λ i. durable_of s.is_apart s.durable (c.push_reserved.ensures.items i) (c.save_unless.ensures.items i) (overwritten s.seen c.args.span.at bytes))
    ∙ same_later s.is_apart s.durable s.unsynced.items c.args.span s.before.items s.seen bytes s.kept long c.requires.inside

pub invariant_of-self : goal.invariant_of-self
invariant_of-self c =
    let s = c.args.self.now in
    let span : Span = c.args.span in
    let fits : span.at + span.len ≤ length s.seen = c.requires.inside in
    let spans = s.unsynced.items ++ span ∷ [] in
    let waits : c.push_reserved.new.self.items ≡ spans = c.push_reserved.ensures.items in
    let holds : c.save_unless.new.before.items ≡ cond s.is_apart s.before.items (s.before.items ++ bytes_at s.seen span.at span.len) = c.save_unless.ensures.items in
    let same = same_kept s.is_apart s.durable s.unsynced.items span s.before.items s.seen _ _ s.kept fits waits holds in
    record {
      short = s.short;
      long = s.long;
      room = omega (arith, s.room, c.push_reserved.ensures.capacity);
      bytes_room = omega (arith, s.bytes_room, c.save_unless.ensures.room);
      in_range = subst (λ (l : List Span). AreInRange l (length s.seen)) (sym waits) (in_range_push s.unsynced.items span (length s.seen) s.in_range fits);
      kept = λ not. ap (λ (l : List ℕ). length l) holds ∙ more_kept s.is_apart s.unsynced.items span s.before.items s.seen s.kept fits not ∙ sym (ap (λ (l : List Span). bytes_in l) waits);
      in_room = omega (arith, ap (λ (l : List ℕ). length l) holds, more_in_room s.is_apart span s.before.items s.seen kept_max s.in_room c.requires.bytes fits);
      same_length = ap (λ (l : List ℕ). length l) same ∙ s.same_length;
      synced = subst (λ (l : List Span). SameOutside l (durable_of s.is_apart s.durable c.push_reserved.new.self.items c.save_unless.new.before.items s.seen) s.seen) (sym waits)
          (subst (λ (l : List ℕ). SameOutside spans l s.seen) (sym same) (synced_push s.unsynced.items span (durable_of s.is_apart s.durable s.unsynced.items s.before.items s.seen) s.seen s.synced));
    }
