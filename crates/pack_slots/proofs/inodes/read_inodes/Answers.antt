use Rattle.std.proofs.Common.{◌+◌, ℕ, List, Bool, length, get_or, sym, ◌∙◌, ap, arith, subst, [], ◌∷◌, ◌++◌, length-append}
use Rattle.std.specs.Prelude.{Option, None, Ok, IfSome}
use Rattle.disk_model.proofs.ReadRuns.{reads_join, goes_same}
use Rattle.pack_slots.specs.declared.inode_copy.InodeCopy.{InodeCopy}
use Rattle.pack_slots.specs.Tables.{IsUnread}
use Rattle.pack_slots.specs.Found.{copy_kept, loses_kept, first_bad}
use Rattle.pack_slots.specs.NextInode.{AddsInode}
use Rattle.pack_slots.proofs.SlotsRead.{IsSoFar, one_more, push_unread, kept_unread}
use Rattle.pack_slots.proofs.inodes.read_inodes.Goals as goal

pub returns-clause-before : goal.returns-clause-before
returns-clause-before g c first is =
    let so = c.loop-i.invariant.before first is in
    (so.0, omega (arith, so.1, c.loop-i.auto.i-end), so.2, so.3, so.4)

pub loop-i-preserved : goal.loop-i-preserved
loop-i-preserved g c =
    let base = c.args.base in
    let i = c.loop-i.i in
    let inv = c.loop-i.invariant in
    let seen = (g.D.Disk.moment c.args.disk.now).seen in
    let now = (g.D.Disk.moment c.loop-i.disk).seen in
    let copies = c.loop-i.inodes.copies.items in
    let losing = c.loop-i.inodes.losing.items in
    let bad = c.loop-i.inodes.bad in
    let one : AddsInode base (i + 1) seen c.loop-i.inodes c.add_next.new.self = subst (λ (n : ℕ). AddsInode base n seen c.loop-i.inodes c.add_next.new.self) c.nth_inode-ino.ensures
    (subst (λ (l : List ℕ). AddsInode base c.nth_inode-ino.result l c.loop-i.inodes c.add_next.new.self) inv.seen (c.in_ok-add_next.ensures base now c.in_ok-read_slots.ensures.first c.in_ok-read_slots.ensures.second)) in
    let read = one.read in
    let more = one_more base i seen copies losing inv.copies inv.losing bad read (inv.found, inv.before) one.found one.wrong in
    let new_copies = c.add_next.new.self.copies.items in
    let new_losing = c.add_next.new.self.losing.items in
    let whole : IsSoFar base (i + 1) seen c.add_next.new.self.bad new_copies new_losing = subst (λ (o : Option ℕ). IsSoFar base (i + 1) seen o new_copies new_losing) (sym one.bad)
    (subst (λ (l : List (Option InodeCopy)). IsSoFar base (i + 1) seen (first_bad bad (i + 1) read) l new_losing) (sym one.copies)
    (subst (λ (l : List Bool). IsSoFar base (i + 1) seen (first_bad bad (i + 1) read) (copies ++ copy_kept bad read ∷ []) l) (sym one.losing) more)) in
    record {
      copies = omega (arith, ap length one.copies, length-append copies (copy_kept bad read ∷ []), inv.copies);
      losing = omega (arith, ap length one.losing, length-append losing (loses_kept bad read ∷ []), inv.losing);
      unread = subst (λ (l : List (Option InodeCopy)). (k : ℕ) → IfSome (get_or l k None) IsUnread) (sym one.copies) (push_unread copies (copy_kept bad read) inv.unread (kept_unread base (i + 1) seen bad read one.found one.unread));
      found = whole.0;
      before = whole.1;
      seen = c.read_slots.ensures.seen ∙ inv.seen;
      goes = goes_same g.D.Disk.moment c.args.disk.now c.loop-i.disk c.read_slots.new.disk inv.goes c.read_slots.ensures.crash;
      cause = omega (arith, inv.cause, c.read_slots.ensures.cause.later);
      tells = reads_join (g.D.Disk.moment c.args.disk.now).passing (g.D.Disk.moment c.loop-i.disk).passing (g.D.Disk.moment c.read_slots.new.disk).passing (Ok tt) inv.tells c.in_ok-read_slots.ensures.tells;
      how = c.read_slots.ensures.how ∙ inv.how;
    }
