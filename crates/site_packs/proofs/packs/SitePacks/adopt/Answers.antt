use Rattle.std.proofs.Common.{◌≡◌, ◌∙◌, ℕ, length, ap, sym, subst, arith}
use Rattle.std.specs.Prelude.{Ok, Err, OnErr, is_some}
use Rattle.disk_model.specs.declared.disk.DiskFault.{DiskFault}
use Rattle.disk_model.specs.declared.disk.DiskFault.TheVariants.{Failed}
use Rattle.disk_model.specs.Moments.{TellsMany}
use Rattle.disk_model.proofs.Moments.{leaves_start}
use Rattle.disk_model.proofs.Tells.{tells_none}
use Rattle.file_content.specs.Pages.{pages_of, tables_written}
use Rattle.inode_pack.specs.declared.pack_fault.PackFault.{PackFault}
use Rattle.inode_pack.specs.Committing.{commit_answer}
use Rattle.inode_pack.specs.of_new_contents.Laid.{working_of}
use Rattle.role_steps.specs.Storage.{content_of}
use Rattle.site_packs.specs.Packs.{PacksState, ArePacks, pack_in, copy_at}
use Rattle.site_packs.specs.Committing.{MayBeLeft, IsOfStore, calls_of, store_calls}
use Rattle.site_packs.specs.Cutting.{IsCut}
use Rattle.page_marks.specs.Laying.{AreLaid}
use Rattle.site_packs.specs.Laying.{IsLaidFit, content_over, copy_laid}
use Rattle.site_packs.specs.Marking.{blocks_at}
use Rattle.site_packs.proofs.Blocks.{blocks_laid, written_size}
use Rattle.site_packs.proofs.Laid.{laid_fills, laid_long}
use Rattle.site_packs.proofs.Noted.{same_places, stand_noted}
use Rattle.site_packs.proofs.Stored.{stays}
use Rattle.page_marks.proofs.WrittenTables.{are_marked}
use Rattle.site_packs.proofs.WrittenTables.{needed_laid}
use Rattle.site_packs.proofs.packs.SitePacks.adopt.Goals as goal

pub returns-then-pages-from-clause-any_moment : goal.returns-then-pages-from-clause-any_moment
returns-then-pages-from-clause-any_moment g c =
    let M = g.D.Disk.moment in
    let d = c.args.disk.now in
    let are = subst (λ (q : PacksState). ArePacks 0 0 q.site q.packs) c.self.view_is c.self.invariant in
    let x = copy_laid c.args.self.now (M d).seen c.args.file c.args.version.now c.args.came.now in
    let P = MayBeLeft c.args.self.now x (M d).seen in
    leaves_start M d P (λ y left. subst P (sym (c.requires.stands.settled y (g.met.D.Disk.only_now d y left))) (stays c.args.self.now x (M d).seen are c.requires.stands.shown))

pub returns-in_default-clause-any_moment : goal.returns-in_default-clause-any_moment
returns-in_default-clause-any_moment g c =
    let M = g.D.Disk.moment in
    let d = c.args.disk.now in
    let are = subst (λ (q : PacksState). ArePacks 0 0 q.site q.packs) c.self.view_is c.self.invariant in
    let x = copy_laid c.args.self.now (M d).seen c.args.file c.args.version.now c.args.came.now in
    let P = MayBeLeft c.args.self.now x (M d).seen in
    leaves_start M d P (λ y left. subst P (sym (c.requires.stands.settled y (g.met.D.Disk.only_now d y left))) (stays c.args.self.now x (M d).seen are c.requires.stands.shown))

pub returns-in_default-laid_marks-clause-any_moment : goal.returns-in_default-laid_marks-clause-any_moment
returns-in_default-laid_marks-clause-any_moment g c =
    let M = g.D.Disk.moment in
    let d = c.args.disk.now in
    let are = subst (λ (q : PacksState). ArePacks 0 0 q.site q.packs) c.self.view_is c.self.invariant in
    let x = copy_laid c.args.self.now (M d).seen c.args.file c.args.version.now c.args.came.now in
    let P = MayBeLeft c.args.self.now x (M d).seen in
    leaves_start M d P (λ y left. subst P (sym (c.requires.stands.settled y (g.met.D.Disk.only_now d y left))) (stays c.args.self.now x (M d).seen are c.requires.stands.shown))

-- the site may not keep it
pub returns-in_default-clause-unfit : goal.returns-in_default-clause-unfit
returns-in_default-clause-unfit g c is fit = c.in_default.ensures.none fit.whole

pub returns-in_default-laid_marks-clause-unfit : goal.returns-in_default-laid_marks-clause-unfit
returns-in_default-laid_marks-clause-unfit g c is fit =
    let image = (g.D.Disk.moment c.args.disk.now).seen in
    let held = copy_at c.args.self.now image c.args.file in
    let size = c.size_of.ensures held (c.head-before.ensures image c.requires.stands.shown) in
    c.in_default-laid_marks.ensures.none (subst (λ (n : ℕ). AreLaid n c.args.came.now) (sym size) fit.laid)

pub laid_marks-requires-clause-most : goal.laid_marks-requires-clause-most
laid_marks-requires-clause-most g c =
    let le = c.if-pages-from.false in
    let from = c.from.ensures in
    let free = c.free_pages.ensures (g.D.Disk.moment c.args.disk.now).seen c.requires.stands.shown in
    omega arith

pub lay-requires-clause-fills : goal.lay-requires-clause-fills
lay-requires-clause-fills g c =
    let p = c.args.self.now in
    let image = (g.D.Disk.moment c.args.disk.now).seen in
    let are = subst (λ (q : PacksState). ArePacks 0 0 q.site q.packs) c.self.view_is c.self.invariant in
    let held = copy_at p image c.args.file in
    let size = c.size_of.ensures held (c.head-before.ensures image c.requires.stands.shown) in
    let plan = c.in-Some.ensures.some in
    let fit : IsLaidFit p image c.args.file c.args.version.now c.args.came.now = record { whole = plan.whole; laid = subst (λ (n : ℕ). AreLaid n c.args.came.now) size c.in-Some-laid_marks.ensures.fit } in
    laid_fills p image c.args.file c.args.version.now c.args.came.now c.in-Some.plan.at c.in-Some.plan.ino are c.requires.stands.shown plan.inside plan.place plan.own fit

pub lay-requires-clause-room : goal.lay-requires-clause-room
lay-requires-clause-room g c =
    let image = (g.D.Disk.moment c.args.disk.now).seen in
    let came = c.args.came.now in
    let need = needed_laid came.size came.numbers.now came.bytes.now c.in-Some-laid_marks.marks c.in-Some-laid_marks.ensures.marks in
    let le = c.if-pages-from.false in
    let from = c.from.ensures in
    let free = c.free_pages.ensures image c.requires.stands.shown in
    omega arith

pub returns-in-Ok-clause-fit : goal.returns-in-Ok-clause-fit
returns-in-Ok-clause-fit g c =
    let image = (g.D.Disk.moment c.args.disk.now).seen in
    let held = copy_at c.args.self.now image c.args.file in
    let size = c.size_of.ensures held (c.head-before.ensures image c.requires.stands.shown) in
    record { whole = c.in-Some.ensures.some.whole; laid = subst (λ (n : ℕ). AreLaid n c.args.came.now) size c.in-Some-laid_marks.ensures.fit }

pub returns-in-Ok-clause-tells : goal.returns-in-Ok-clause-tells
returns-in-Ok-clause-tells g c =
    let image = (g.D.Disk.moment c.args.disk.now).seen in
    let before = (g.D.Disk.moment c.args.disk.now).passing in
    let after = (g.D.Disk.moment c.lay.new.disk).passing in
    let p = c.args.self.now in
    let are = subst (λ (q : PacksState). ArePacks 0 0 q.site q.packs) c.self.view_is c.self.invariant in
    let held = copy_at p image c.args.file in
    let size = c.size_of.ensures held (c.head-before.ensures image c.requires.stands.shown) in
    let plan = c.in-Some.ensures.some in
    let laid = subst (λ (n : ℕ). AreLaid n c.args.came.now) size c.in-Some-laid_marks.ensures.fit in
    let blocks = blocks_laid p image c.args.file c.in-Some.plan.at c.in-Some.plan.ino are c.requires.stands.shown plan.inside plan.place plan.own plan.whole.low plan.whole.high c.args.came.now c.in-Some-laid_marks.marks c.in-Some-laid_marks.ensures.marks laid in
    subst (λ (n : ℕ). TellsMany {T = Unit {0}} {E = DiskFault} (calls_of n (is_some held)) before after (Ok tt)) blocks c.in-Ok.ensures.tells

pub returns-in-Err-NoMemory-clause-tells : goal.returns-in-Err-NoMemory-clause-tells
returns-in-Err-NoMemory-clause-tells g c =
    let M = g.D.Disk.moment in
    let same = c.lay.ensures.early (c.in-Err-NoMemory.is ∙ ap Err c.in-Err-NoMemory.field-0-is) in
    subst (λ d. TellsMany {T = Unit {0}} {E = DiskFault} 0 (M c.args.disk.now).passing (M d).passing (Ok tt)) (sym same) (tells_none (M c.args.disk.now).passing)

pub returns-in-Err-Disk-clause-tells : goal.returns-in-Err-Disk-clause-tells
returns-in-Err-Disk-clause-tells g c =
    let image = (g.D.Disk.moment c.args.disk.now).seen in
    let before = (g.D.Disk.moment c.args.disk.now).passing in
    let after = (g.D.Disk.moment c.lay.new.disk).passing in
    let p = c.args.self.now in
    let are = subst (λ (q : PacksState). ArePacks 0 0 q.site q.packs) c.self.view_is c.self.invariant in
    let held = copy_at p image c.args.file in
    let size = c.size_of.ensures held (c.head-before.ensures image c.requires.stands.shown) in
    let plan = c.in-Some.ensures.some in
    let laid = subst (λ (n : ℕ). AreLaid n c.args.came.now) size c.in-Some-laid_marks.ensures.fit in
    let blocks = blocks_laid p image c.args.file c.in-Some.plan.at c.in-Some.plan.ino are c.requires.stands.shown plan.inside plan.place plan.own plan.whole.low plan.whole.high c.args.came.now c.in-Some-laid_marks.marks c.in-Some-laid_marks.ensures.marks laid in
    let w = working_of c.args.came.now in
    subst (λ (n : ℕ). TellsMany {T = Unit {0}} {E = DiskFault} (calls_of n (is_some held)) before after (Err Failed)) blocks
    (subst (λ (f : PackFault). TellsMany (store_calls {T = Unit {0}} (blocks_at (pack_in c.args.file.group p.packs) c.in-Some.plan.ino w) held (Err f)) before after (commit_answer {T = Unit {0}} (Err f))) c.in-Err-Disk.field-0-is c.in-Err-Disk.ensures.tells)

pub returns-in-Err-Disk-clause-size : goal.returns-in-Err-Disk-clause-size
returns-in-Err-Disk-clause-size g c =
    let image = (g.D.Disk.moment c.args.disk.now).seen in
    let p = c.args.self.now in
    let came = c.args.came.now in
    let held = copy_at p image c.args.file in
    let head = c.head-before.ensures image c.requires.stands.shown in
    let own = c.size_of.ensures held head in
    let laid = subst (λ (n : ℕ). AreLaid n came) own c.in-Some-laid_marks.ensures.fit in
    let new = content_over p image c.args.file came in
    let long : length new ≡ came.size = laid_long came.size came.numbers.now came.bytes.now (content_of held) laid.bytes laid.kept in
    let counted = c.tables_written.ensures.count came.numbers.now (are_marked (pages_of came.size) came.numbers.now c.in-Some-laid_marks.marks c.in-Some-laid_marks.ensures.marks) in
    let size = written_size held new came.numbers.now c.pages_before.result c.tables_written.result c.head-before.result head (c.pages_before.ensures held head) (counted ∙ ap (λ (n : ℕ). length (tables_written c.pages_before.result (pages_of n) came.numbers.now)) (sym long)) in
    (size.0, c.is_some-replaces.ensures ∙ size.1)

pub returns-in-Err-Disk-clause-cut : goal.returns-in-Err-Disk-clause-cut
returns-in-Err-Disk-clause-cut g c passed told =
    let M = g.D.Disk.moment in
    let d = c.args.disk.now in
    let p = c.args.self.now in
    let image = (M d).seen in
    let new = (M c.lay.new.disk).left in
    let are = subst (λ (q : PacksState). ArePacks 0 0 q.site q.packs) c.self.view_is c.self.invariant in
    let held = copy_at p image c.args.file in
    let size = c.size_of.ensures held (c.head-before.ensures image c.requires.stands.shown) in
    let plan = c.in-Some.ensures.some in
    let laid = subst (λ (n : ℕ). AreLaid n c.args.came.now) size c.in-Some-laid_marks.ensures.fit in
    let blocks = blocks_laid p image c.args.file c.in-Some.plan.at c.in-Some.plan.ino are c.requires.stands.shown plan.inside plan.place plan.own plan.whole.low plan.whole.high c.args.came.now c.in-Some-laid_marks.marks c.in-Some-laid_marks.ensures.marks laid in
    let w = working_of c.args.came.now in
    let x = copy_laid p image c.args.file c.args.version.now c.args.came.now in
    subst (λ (n : ℕ). IsCut p x n (M d).how passed image new) blocks
    (subst (λ (f : PackFault). OnErr (commit_answer {T = Unit {0}} (Err f)) (IsCut p x (blocks_at (pack_in c.args.file.group p.packs) c.in-Some.plan.ino w) (M d).how passed image new)) c.in-Err-Disk.field-0-is (c.in-Err-Disk.ensures.cut passed told))

pub overflow_add-result : goal.overflow_add-result
overflow_add-result g c =
    let few = c.tables_written.ensures.few in
    let le = c.if-pages-from.false in
    let from = c.from.ensures in
    let free = c.free_pages.type_inv in
    omega arith

-- the pack has room
pub returns-in-Err-NoSpace : goal.returns-in-Err-NoSpace
returns-in-Err-NoSpace g c = absurd (subst IsOfStore c.in-Err-NoSpace.field-0-is c.in-Err-NoSpace.ensures.only)

pub returns-in-Ok-clause-stands : goal.returns-in-Ok-clause-stands
returns-in-Ok-clause-stands g c =
    let p = c.args.self.now in
    let image = (g.D.Disk.moment c.args.disk.now).seen in
    let under = content_of (copy_at p image c.args.file) in
    stand_noted p c.lay.new.self c.note_laid.new.self image (g.D.Disk.moment c.lay.new.disk) c.args.file c.args.version.now (content_over p image c.args.file c.args.came.now) c.lay.ensures.places c.lay.ensures.live c.note_laid.ensures.same
    c.in-Ok.ensures.copies c.requires.stands.live (λ other e. c.note_laid.ensures.noted other under e) c.in-Ok.ensures.found

pub returns-in-Ok-clause-places : goal.returns-in-Ok-clause-places
returns-in-Ok-clause-places g c = same_places c.args.self.now c.lay.new.self c.note_laid.new.self c.lay.ensures.places c.note_laid.ensures.same
