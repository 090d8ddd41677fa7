use Rattle.std.proofs.Common.{◌≡◌, ◌∙◌, ℕ, List, length, ap, sym, subst, arith}
use Rattle.std.specs.Prelude.{Ok, Err, is_some}
use Rattle.disk_model.specs.declared.disk.DiskFault.{DiskFault}
use Rattle.disk_model.specs.declared.disk.DiskFault.TheVariants.{Failed}
use Rattle.disk_model.specs.Moments.{LeavesOnly, TellsMany}
use Rattle.disk_model.proofs.ReadRuns.{leaves_same, leaves_joins, reads_alone, reads_then, reads_exact}
use Rattle.file_content.specs.Pages.{pages_of}
use Rattle.inode_pack.specs.declared.pack_fault.PackFault.{PackFault}
use Rattle.inode_pack.specs.of_new_contents.Changed.{needed}
use Rattle.inode_pack.specs.Committing.{commit_answer}
use Rattle.inode_pack.specs.of_new_contents.Marked.{marked}
use Rattle.inode_pack.proofs.of_new_contents.Marked.{needed_marked}
use Rattle.role_steps.specs.Tables.{with_row}
use Rattle.role_steps.specs.Storage.{copy_key}
use Rattle.site_packs.specs.Copies.{copies_on}
use Rattle.site_packs.specs.Packs.{PacksState, ArePacks, Stand, groups_of, pack_in, copy_at}
use Rattle.site_packs.specs.Committing.{MayBeLeft, IsOfStore, copy_made, room, blocks_over, calls_of, store_calls}
use Rattle.site_packs.specs.Marking.{FillsAt, blocks_at}
use Rattle.site_packs.proofs.Noted.{same_places, stand_noted}
use Rattle.site_packs.proofs.Stored.{stays}
use Rattle.page_marks.proofs.WrittenTables.{are_marked}
use Rattle.site_packs.proofs.Blocks.{admitted_blocks, written_size}
use Rattle.site_packs.proofs.Fills.{fills_at}
use Rattle.std.specs.Prelude.{OnErr}
use Rattle.disk_model.specs.Cut.{Cut}
use Rattle.disk_model.specs.Disk.{Exactly}
use Rattle.site_packs.specs.Cutting.{IsCut}
use Rattle.site_packs.proofs.packs.SitePacks.commit.Goals as goal

pub returns-in-Err-clause-any_moment : goal.returns-in-Err-clause-any_moment
returns-in-Err-clause-any_moment g c =
    let M = g.D.Disk.moment in
    let d = c.args.disk.now in
    let are = subst (λ (q : PacksState). ArePacks 0 0 q.site q.packs) c.self.view_is c.self.invariant in
    let x = copy_made c.args.file c.args.version.now c.args.content.now in
    leaves_same M d c.admit.new.disk (M d).seen (MayBeLeft c.args.self.now x (M d).seen) c.requires.stands.settled (g.met.D.Disk.only_now d) c.admit.ensures.crash (stays c.args.self.now x (M d).seen are c.requires.stands.shown)

pub store-requires-clause-fills : goal.store-requires-clause-fills
store-requires-clause-fills g c =
    let p = c.args.self.now in
    let seen = (g.D.Disk.moment c.args.disk.now).seen in
    let are = subst (λ (q : PacksState). ArePacks 0 0 q.site q.packs) c.self.view_is c.self.invariant in
    let admitted = c.in-Ok.ensures.admitted in
    let plan = admitted.plan in
    subst (λ (l : List ℕ). FillsAt (pack_in c.args.file.group p.packs) c.in-Ok.admitted.plan.ino c.args.content.now (marked c.args.content.now c.in-Ok.admitted.marks) l) (sym c.admit.ensures.seen)
    (fills_at p seen c.args.file c.in-Ok.admitted.plan.at c.in-Ok.admitted.plan.ino c.args.content.now c.in-Ok.admitted.marks are c.requires.stands.shown plan.inside plan.place plan.own plan.whole.low plan.whole.high admitted.keeps)

pub store-requires-clause-room : goal.store-requires-clause-room
store-requires-clause-room g c =
    let admitted = c.in-Ok.ensures.admitted in
    let need : needed (marked c.args.content.now c.in-Ok.admitted.marks) ≡ length c.args.changed.now = needed_marked c.args.content.now c.in-Ok.admitted.marks ∙ admitted.marks.number in
    let space = admitted.space in
    let same = ap (λ (l : List ℕ). room c.args.self.now l c.args.file.group) c.admit.ensures.seen in
    omega arith

pub returns-in-Ok-store-clause-any_moment : goal.returns-in-Ok-store-clause-any_moment
returns-in-Ok-store-clause-any_moment g c =
    let M = g.D.Disk.moment in
    let d = c.args.disk.now in
    let mid = c.admit.new.disk in
    let are = subst (λ (q : PacksState). ArePacks 0 0 q.site q.packs) c.self.view_is c.self.invariant in
    let x = copy_made c.args.file c.args.version.now c.args.content.now in
    let P = MayBeLeft c.args.self.now x (M d).seen in
    leaves_joins M d mid c.store.new.disk P
    (leaves_same M d mid (M d).seen P c.requires.stands.settled (g.met.D.Disk.only_now d) c.admit.ensures.crash (stays c.args.self.now x (M d).seen are c.requires.stands.shown))
    (subst (λ (l : List ℕ). LeavesOnly (M mid) (M c.store.new.disk) (MayBeLeft c.args.self.now x l)) c.admit.ensures.seen c.store.ensures.any_moment)

pub returns-in-Err-NoMemory-clause-any_moment : goal.returns-in-Err-NoMemory-clause-any_moment
returns-in-Err-NoMemory-clause-any_moment g c =
    let M = g.D.Disk.moment in
    let d = c.args.disk.now in
    let mid = c.admit.new.disk in
    let are = subst (λ (q : PacksState). ArePacks 0 0 q.site q.packs) c.self.view_is c.self.invariant in
    let x = copy_made c.args.file c.args.version.now c.args.content.now in
    let P = MayBeLeft c.args.self.now x (M d).seen in
    leaves_joins M d mid c.store.new.disk P
    (leaves_same M d mid (M d).seen P c.requires.stands.settled (g.met.D.Disk.only_now d) c.admit.ensures.crash (stays c.args.self.now x (M d).seen are c.requires.stands.shown))
    (subst (λ (l : List ℕ). LeavesOnly (M mid) (M c.store.new.disk) (MayBeLeft c.args.self.now x l)) c.admit.ensures.seen c.store.ensures.any_moment)

pub returns-in-Err-Disk-clause-any_moment : goal.returns-in-Err-Disk-clause-any_moment
returns-in-Err-Disk-clause-any_moment g c =
    let M = g.D.Disk.moment in
    let d = c.args.disk.now in
    let mid = c.admit.new.disk in
    let are = subst (λ (q : PacksState). ArePacks 0 0 q.site q.packs) c.self.view_is c.self.invariant in
    let x = copy_made c.args.file c.args.version.now c.args.content.now in
    let P = MayBeLeft c.args.self.now x (M d).seen in
    leaves_joins M d mid c.store.new.disk P
    (leaves_same M d mid (M d).seen P c.requires.stands.settled (g.met.D.Disk.only_now d) c.admit.ensures.crash (stays c.args.self.now x (M d).seen are c.requires.stands.shown))
    (subst (λ (l : List ℕ). LeavesOnly (M mid) (M c.store.new.disk) (MayBeLeft c.args.self.now x l)) c.admit.ensures.seen c.store.ensures.any_moment)

-- the blocks that are written, as the copies tell them
pub returns-in-Ok-store-clause-tells : goal.returns-in-Ok-store-clause-tells
returns-in-Ok-store-clause-tells g c =
    let M = g.D.Disk.moment in
    let p = c.args.self.now in
    let seen = (M c.admit.new.disk).seen in
    let are = subst (λ (q : PacksState). ArePacks 0 0 q.site q.packs) c.self.view_is c.self.invariant in
    let admitted = c.in-Ok.ensures.admitted in
    let same = admitted_blocks p (M c.args.disk.now).seen c.args.file c.args.version.now c.args.content.now c.args.changed.now c.in-Ok.admitted are c.requires.stands.shown admitted in
    let older = ap (λ (l : List ℕ). is_some (copy_at p l c.args.file)) c.admit.ensures.seen in
    let calls : calls_of (blocks_at (pack_in c.args.file.group p.packs) c.in-Ok.admitted.plan.ino (marked c.args.content.now c.in-Ok.admitted.marks)) (is_some (copy_at p (M c.admit.new.disk).seen c.args.file)) ≡ calls_of (blocks_over (copy_at p (M c.args.disk.now).seen c.args.file) c.args.content.now c.args.changed.now) (is_some (copy_at p (M c.args.disk.now).seen c.args.file)) = (λ i. calls_of (same i) (older i)) in
    let n = calls_of (blocks_over (copy_at p (M c.args.disk.now).seen c.args.file) c.args.content.now c.args.changed.now) (is_some (copy_at p (M c.args.disk.now).seen c.args.file)) in
    reads_then n (M c.args.disk.now).passing (M c.admit.new.disk).passing (M c.store.new.disk).passing (Ok tt) c.in-Ok.ensures.tells
    (subst (λ (m : ℕ). TellsMany {T = Unit {0}} {E = DiskFault} m (M c.admit.new.disk).passing (M c.store.new.disk).passing (Ok tt)) calls c.in-Ok-store.ensures.tells)

pub returns-in-Err-NoMemory-clause-tells : goal.returns-in-Err-NoMemory-clause-tells
returns-in-Err-NoMemory-clause-tells g c =
    let M = g.D.Disk.moment in
    let same = c.store.ensures.early (c.in-Err-NoMemory.is ∙ ap Err c.in-Err-NoMemory.field-0-is) in
    subst (λ d. TellsMany {T = Unit {0}} {E = DiskFault} 0 (M c.args.disk.now).passing (M d).passing (Ok tt)) (sym same)
    (reads_alone (M c.args.disk.now).passing (M c.admit.new.disk).passing c.in-Ok.ensures.tells)

pub returns-in-Err-NoMemory-clause-no_memory : goal.returns-in-Err-NoMemory-clause-no_memory
returns-in-Err-NoMemory-clause-no_memory g c is =
    let M = g.D.Disk.moment in
    let same = c.store.ensures.early (c.in-Err-NoMemory.is ∙ ap Err c.in-Err-NoMemory.field-0-is) in
    let kept : c.store.new.self ≡ c.args.self.now = c.in-Err-NoMemory.ensures.kept in (
      ap (λ d. (M d).seen) same ∙ c.admit.ensures.seen,
      subst (λ d. Stand c.store.new.self (M d)) (sym same) (subst (λ (q : PacksState). Stand q (M c.admit.new.disk)) (sym kept) c.admit.ensures.stands),
    )

pub returns-in-Err-Disk-clause-tells : goal.returns-in-Err-Disk-clause-tells
returns-in-Err-Disk-clause-tells g c =
    let M = g.D.Disk.moment in
    let p = c.args.self.now in
    let seen = (M c.admit.new.disk).seen in
    let are = subst (λ (q : PacksState). ArePacks 0 0 q.site q.packs) c.self.view_is c.self.invariant in
    let admitted = c.in-Ok.ensures.admitted in
    let same = admitted_blocks p (M c.args.disk.now).seen c.args.file c.args.version.now c.args.content.now c.args.changed.now c.in-Ok.admitted are c.requires.stands.shown admitted in
    let older = ap (λ (l : List ℕ). is_some (copy_at p l c.args.file)) c.admit.ensures.seen in
    let calls : calls_of (blocks_at (pack_in c.args.file.group p.packs) c.in-Ok.admitted.plan.ino (marked c.args.content.now c.in-Ok.admitted.marks)) (is_some (copy_at p (M c.admit.new.disk).seen c.args.file)) ≡ calls_of (blocks_over (copy_at p (M c.args.disk.now).seen c.args.file) c.args.content.now c.args.changed.now) (is_some (copy_at p (M c.args.disk.now).seen c.args.file)) = (λ i. calls_of (same i) (older i)) in
    let w = marked c.args.content.now c.in-Ok.admitted.marks in
    let n = calls_of (blocks_over (copy_at p (M c.args.disk.now).seen c.args.file) c.args.content.now c.args.changed.now) (is_some (copy_at p (M c.args.disk.now).seen c.args.file)) in
    let before = (M c.admit.new.disk).passing in
    let after = (M c.store.new.disk).passing in
    let disk = c.in-Err-Disk.field-0-is in
    reads_then n (M c.args.disk.now).passing before after (Err Failed) c.in-Ok.ensures.tells
    (subst (λ (m : ℕ). TellsMany {T = Unit {0}} {E = DiskFault} m before after (Err Failed)) calls
    (subst (λ (f : PackFault). TellsMany (store_calls {T = Unit {0}} (blocks_at (pack_in c.args.file.group p.packs) c.in-Ok.admitted.plan.ino w) (copy_at p seen c.args.file) (Err f)) before after (commit_answer {T = Unit {0}} (Err f))) disk c.in-Err-Disk.ensures.tells))

pub returns-in-Err-clause-size : goal.returns-in-Err-clause-size
returns-in-Err-clause-size g c = c.in-Err.ensures.unwritten _ _

pub returns-in-Err-Disk-clause-size : goal.returns-in-Err-Disk-clause-size
returns-in-Err-Disk-clause-size g c =
    let image = (g.D.Disk.moment c.args.disk.now).seen in
    let held = copy_at c.args.self.now image c.args.file in
    let head = c.head-before.ensures image c.requires.stands.shown in
    let size = written_size held c.args.content.now c.args.changed.now c.pages_before.result c.tables_written.result c.head-before.result head (c.pages_before.ensures held head)
    (c.tables_written.ensures.count c.args.changed.now (are_marked (pages_of (length c.args.content.now)) c.args.changed.now c.in-Ok.admitted.marks c.in-Ok.ensures.admitted.marks)) in
    (size.0, c.is_some-replaces.ensures ∙ size.1)

pub returns-in-Err-Disk-clause-cut : goal.returns-in-Err-Disk-clause-cut
returns-in-Err-Disk-clause-cut g c passed told =
    let M = g.D.Disk.moment in
    let d = c.args.disk.now in
    let mid = c.admit.new.disk in
    let p = c.args.self.now in
    let new = (M c.store.new.disk).left in
    let are = subst (λ (q : PacksState). ArePacks 0 0 q.site q.packs) c.self.view_is c.self.invariant in
    let admitted = c.in-Ok.ensures.admitted in
    let w = marked c.args.content.now c.in-Ok.admitted.marks in
    let at_store = blocks_at (pack_in c.args.file.group p.packs) c.in-Ok.admitted.plan.ino w in
    let same = admitted_blocks p (M d).seen c.args.file c.args.version.now c.args.content.now c.args.changed.now c.in-Ok.admitted are c.requires.stands.shown admitted in
    let x = copy_made c.args.file c.args.version.now c.args.content.now in
    let passing : (M mid).passing ≡ Exactly passed = reads_exact tt (M d).passing (M mid).passing passed c.in-Ok.ensures.tells told in
    let seen : (M mid).seen ≡ (M d).seen = c.admit.ensures.seen in
    let how : (M mid).how ≡ (M d).how = c.admit.ensures.how in
    let disk = c.in-Err-Disk.field-0-is in
    let cut : IsCut p x at_store (M mid).how passed (M mid).seen new =
    subst (λ (f : PackFault). OnErr (commit_answer {T = Unit {0}} (Err f)) (IsCut p x at_store (M mid).how passed (M mid).seen new)) disk (c.in-Err-Disk.ensures.cut passed passing) in
    subst (λ (n : ℕ). IsCut p x n (M d).how passed (M d).seen new) same
    (subst (λ (h : Cut). IsCut p x at_store h passed (M d).seen new) how (subst (λ (l : List ℕ). IsCut p x at_store (M mid).how passed l new) seen cut))

pub overflow_add-result : goal.overflow_add-result
overflow_add-result g c =
    let space = c.in-Ok.ensures.admitted.space in
    let few = c.tables_written.ensures.few in
    omega arith

-- the pack has room
pub returns-in-Err-NoSpace : goal.returns-in-Err-NoSpace
returns-in-Err-NoSpace g c = absurd (subst IsOfStore c.in-Err-NoSpace.field-0-is c.in-Err-NoSpace.ensures.only)

pub returns-in-Ok-store-clause-stands : goal.returns-in-Ok-store-clause-stands
returns-in-Ok-store-clause-stands g c =
    stand_noted c.args.self.now c.store.new.self c.note.new.self (g.D.Disk.moment c.args.disk.now).seen (g.D.Disk.moment c.store.new.disk) c.args.file c.args.version.now c.args.content.now c.store.ensures.places c.store.ensures.live c.note.ensures.same
    (subst (λ (l : List ℕ). copies_on (groups_of c.args.self.now) (g.D.Disk.moment c.store.new.disk).seen ≡ with_row copy_key (copy_made c.args.file c.args.version.now c.args.content.now) (copies_on (groups_of c.args.self.now) l)) c.admit.ensures.seen c.in-Ok-store.ensures.copies) c.requires.stands.live c.note.ensures.noted c.in-Ok-store.ensures.found

pub returns-in-Ok-store-clause-places : goal.returns-in-Ok-store-clause-places
returns-in-Ok-store-clause-places g c = same_places c.args.self.now c.store.new.self c.note.new.self c.store.ensures.places c.note.ensures.same
