use Rattle.std.proofs.Common.{◌≡◌, ℕ, List, sym, ap, subst, ◌∙◌, arith}
use Rattle.std.specs.Prelude.{Some, Result, Ok, Err, OnErr}
use Rattle.disk_model.specs.declared.disk.DiskFault.{DiskFault}
use Rattle.disk_model.specs.Moments.{TellsMany}
use Rattle.disk_model.proofs.Moments.{leaves_start, leaves_weaker, leaves_cut}
use Rattle.gate_switch.specs.Switch.{IsStage}
use Rattle.pack_layout.specs.Layout.{slot_at}
use Rattle.inode_switch.specs.Replace.{closing}
use Rattle.pack_slots.specs.Copies.{copy_of, AreCopies}
use Rattle.inode_pack.specs.declared.pack_fault.PackFault.{PackFault}
use Rattle.inode_pack.specs.declared.pack_fault.PackFault.TheVariants.{Disk, NoMemory}
use Rattle.inode_pack.specs.Pack.{PackState, Stands}
use Rattle.inode_pack.specs.Committing.{MayBeLeft, new_version, blocks_over, HoldsPages, commit_calls, commit_answer}
use Rattle.inode_pack.specs.Cutting.{IsCutCommit}
use Rattle.inode_pack.specs.PagePieces.{pieces_of, marked_tables}
use Rattle.inode_pack.proofs.Setup.{set_up}
use Rattle.inode_pack.proofs.WrittenTables.{marked_over, over_inside}
use Rattle.inode_pack.proofs.NewCopies.{own_copy, copies_after}
use Rattle.inode_pack.proofs.Committed.{left_at_start, given_may, given_closes, given_left, given_calls, given_shows, given_replaced, given_pages, given_blocks_are, given_cut, given_on, same_fault, other_answer, disk_no_space, disk_tells}
use Rattle.inode_pack.proofs.pack.Pack.store.Goals as goal

pub returns-in_err-room_for-clause-any_moment : goal.returns-in_err-room_for-clause-any_moment
returns-in_err-room_for-clause-any_moment g c =
    let pack = c.args.self.now in
    let disk = c.args.disk.now in
    let old = (g.D.Disk.moment disk).seen in
    let made = new_version pack.base c.args.ino c.args.version (g.C.NewContent.working c.args.content.now) old in
    leaves_start g.D.Disk.moment disk (MayBeLeft pack c.args.ino made old)
    (λ x left. subst (λ (y : List ℕ). MayBeLeft pack c.args.ino made old y) (sym (c.requires.stands.settled x (g.met.D.Disk.only_now disk x left)))
    (left_at_start pack c.args.ino made old c.in_err-room_for.ensures.copies c.requires.stands.shows))

pub returns-in_err-room_for-clause-no_space : goal.returns-in_err-room_for-clause-no_space
returns-in_err-room_for-clause-no_space g c pages free =
    let h = given_on c.from_residual.result _ c.from_residual.ensures in
    same_fault c.from_residual.result c.in_err-room_for.field-0.0 pages free _ (h.1 ∙ ap (λ (f : PackFault). Err f) h.2) (c.in_err-room_for.ensures.no_space pages free)

pub returns-in_err-room_for-clause-no_memory : goal.returns-in_err-room_for-clause-no_memory
returns-in_err-room_for-clause-no_memory g c is =
    let h = given_on c.from_residual.result _ c.from_residual.ensures in
    let fault : h.0 ≡ NoMemory = (let e : Err h.0 ≡ Err NoMemory = sym h.1 ∙ is in cc) in
    absurd (c.in_err-room_for.ensures.no_memory (ap (λ (f : PackFault). Err f) (sym h.2 ∙ fault)))

pub returns-in_err-prepared-clause-any_moment : goal.returns-in_err-prepared-clause-any_moment
returns-in_err-prepared-clause-any_moment g c =
    let pack = c.args.self.now in
    let disk = c.args.disk.now in
    let old = (g.D.Disk.moment disk).seen in
    let made = new_version pack.base c.args.ino c.args.version (g.C.NewContent.working c.args.content.now) old in
    leaves_start g.D.Disk.moment disk (MayBeLeft pack c.args.ino made old)
    (λ x left. subst (λ (y : List ℕ). MayBeLeft pack c.args.ino made old y) (sym (c.requires.stands.settled x (g.met.D.Disk.only_now disk x left)))
    (left_at_start pack c.args.ino made old c.in_err-prepared.ensures.copies c.requires.stands.shows))

pub returns-in_err-prepared-clause-no_space : goal.returns-in_err-prepared-clause-no_space
returns-in_err-prepared-clause-no_space g c pages free =
    let h = given_on c.from_residual-in_err-prepared.result _ c.from_residual-in_err-prepared.ensures in
    let r = c.from_residual-in_err-prepared.result in
    let is : r ≡ Err NoMemory = h.1 ∙ ap (λ (f : PackFault). Err f) h.2 in
    other_answer r tt pages free _ (λ e. absurd cc) (c.in_ok-room_for.ensures.no_space pages free)

pub invariant_of-pieces-clause-few : goal.invariant_of-pieces-clause-few
invariant_of-pieces-clause-few g c k lt is =
    let pack = c.args.self.now in
    let ino = c.args.ino in
    let w = (g.C.NewContent.working c.args.content.now) in
    let old = (g.D.Disk.moment c.args.disk.now).seen in
    let p = c.in_ok-prepared.prepared in
    let e = c.in_ok-prepared.ensures in
    let s = set_up pack ino c.args.version w p.made.copy e.low e.high e.copies c.requires.version (omega arith) c.requires.rests e.whole e.long e.makes in
    let o = copy_of pack.copies ino in
    let written = sym (e.tables k lt) ∙ is in
    s.tables.inside k (over_inside o w k written) written

pub replace_inode-requires-clause-may : goal.replace_inode-requires-clause-may
replace_inode-requires-clause-may g c =
    let pack = c.args.self.now in
    let ino = c.args.ino in
    let w = (g.C.NewContent.working c.args.content.now) in
    let old = (g.D.Disk.moment c.args.disk.now).seen in
    let p = c.in_ok-prepared.prepared in
    let e = c.in_ok-prepared.ensures in
    let s = set_up pack ino c.args.version w p.made.copy e.low e.high e.copies c.requires.version (omega arith) c.requires.rests e.whole e.long e.makes in
    let tables = marked_tables p.made.tables in
    let over = marked_over p.made.tables (copy_of pack.copies ino) w e.tables in
    let given = pieces_of c.base-base.result p.made.copy tables w in
    let are = ap (λ (b : ℕ). pieces_of b p.made.copy tables w) c.base-base.ensures in
    given_may pack ino w p.made.copy s old c.requires.stands.shows c.base-base.result given tables c.base-base.ensures are over

pub replace_inode-requires-clause-closes : goal.replace_inode-requires-clause-closes
replace_inode-requires-clause-closes g c =
    let pack = c.args.self.now in
    let ino = c.args.ino in
    let w = (g.C.NewContent.working c.args.content.now) in
    let old = (g.D.Disk.moment c.args.disk.now).seen in
    let p = c.in_ok-prepared.prepared in
    let e = c.in_ok-prepared.ensures in
    let s = set_up pack ino c.args.version w p.made.copy e.low e.high e.copies c.requires.version (omega arith) c.requires.rests e.whole e.long e.makes in
    let tables = marked_tables p.made.tables in
    let over = marked_over p.made.tables (copy_of pack.copies ino) w e.tables in
    let given = pieces_of c.base-base.result p.made.copy tables w in
    let are = ap (λ (b : ℕ). pieces_of b p.made.copy tables w) c.base-base.ensures in
    given_closes pack ino w p.made.copy s old c.requires.stands.shows c.base-base.result given tables c.base-base.ensures are over p.closes e.closes

pub returns-in_err-replace_inode-clause-any_moment : goal.returns-in_err-replace_inode-clause-any_moment
returns-in_err-replace_inode-clause-any_moment g c =
    let pack = c.args.self.now in
    let ino = c.args.ino in
    let w = (g.C.NewContent.working c.args.content.now) in
    let old = (g.D.Disk.moment c.args.disk.now).seen in
    let p = c.in_ok-prepared.prepared in
    let e = c.in_ok-prepared.ensures in
    let s = set_up pack ino c.args.version w p.made.copy e.low e.high e.copies c.requires.version (omega arith) c.requires.rests e.whole e.long e.makes in
    let tables = marked_tables p.made.tables in
    let over = marked_over p.made.tables (copy_of pack.copies ino) w e.tables in
    let given = pieces_of c.base-base.result p.made.copy tables w in
    let are = ap (λ (b : ℕ). pieces_of b p.made.copy tables w) c.base-base.ensures in
    leaves_weaker g.D.Disk.moment c.args.disk.now c.replace_inode.new.disk
    (IsStage given (slot_at c.base-base.result ino p.made.copy.half) (closing c.base-base.result ino p.made.copy.half old) old)
    (MayBeLeft pack ino (new_version pack.base ino c.args.version w old) old)
    (given_left pack ino w p.made.copy s old c.requires.stands.shows c.base-base.result given tables c.base-base.ensures are over c.args.version e.makes) c.replace_inode.ensures.stages

pub returns-in_err-replace_inode-clause-no_space : goal.returns-in_err-replace_inode-clause-no_space
returns-in_err-replace_inode-clause-no_space g c pages free =
    let h = given_on c.from_residual-in_err-replace_inode.result _ c.from_residual-in_err-replace_inode.ensures in
    let r = c.from_residual-in_err-replace_inode.result in
    let is : r ≡ Err Disk = h.1 ∙ ap (λ (f : PackFault). Err f) h.2 in
    other_answer r tt pages free _ (disk_no_space r pages free is) (c.in_ok-room_for.ensures.no_space pages free)

pub returns-in_err-replace_inode-clause-no_memory : goal.returns-in_err-replace_inode-clause-no_memory
returns-in_err-replace_inode-clause-no_memory g c is =
    let h = given_on c.from_residual-in_err-replace_inode.result _ c.from_residual-in_err-replace_inode.ensures in
    absurd (let e : Err Disk ≡ Err NoMemory = sym (h.1 ∙ ap (λ (f : PackFault). Err f) h.2) ∙ is in cc)

pub returns-in_err-replace_inode-clause-tells : goal.returns-in_err-replace_inode-clause-tells
returns-in_err-replace_inode-clause-tells g c =
    let pack = c.args.self.now in
    let ino = c.args.ino in
    let w = (g.C.NewContent.working c.args.content.now) in
    let old = (g.D.Disk.moment c.args.disk.now).seen in
    let p = c.in_ok-prepared.prepared in
    let e = c.in_ok-prepared.ensures in
    let s = set_up pack ino c.args.version w p.made.copy e.low e.high e.copies c.requires.version (omega arith) c.requires.rests e.whole e.long e.makes in
    let tables = marked_tables p.made.tables in
    let over = marked_over p.made.tables (copy_of pack.copies ino) w e.tables in
    let given = pieces_of c.base-base.result p.made.copy tables w in
    let are = ap (λ (b : ℕ). pieces_of b p.made.copy tables w) c.base-base.ensures in
    let h = given_on c.from_residual-in_err-replace_inode.result _ c.from_residual-in_err-replace_inode.ensures in
    let is = h.1 ∙ ap (λ (f : PackFault). Err f) h.2 in
    let before = (g.D.Disk.moment c.args.disk.now).passing in
    let after = (g.D.Disk.moment c.replace_inode.new.disk).passing in
    let tells = disk_tells _ _ before after c.in_err-replace_inode.field-0.0 (given_calls pack ino w p.made.copy s old c.requires.stands.shows c.base-base.result given tables c.base-base.ensures are over) c.in_err-replace_inode.ensures.tells in
    subst (λ (r : Result (Unit {0}) PackFault). TellsMany (commit_calls (blocks_over (copy_of pack.copies ino) w) (copy_of pack.copies ino) r) before after (commit_answer r)) (sym is) tells

pub put-requires-clause-copies : goal.put-requires-clause-copies
put-requires-clause-copies g c =
    let pack = c.args.self.now in
    let ino = c.args.ino in
    let w = (g.C.NewContent.working c.args.content.now) in
    let old = (g.D.Disk.moment c.args.disk.now).seen in
    let p = c.in_ok-prepared.prepared in
    let e = c.in_ok-prepared.ensures in
    let s = set_up pack ino c.args.version w p.made.copy e.low e.high e.copies c.requires.version (omega arith) c.requires.rests e.whole e.long e.makes in
    copies_after pack ino w p.made.copy s

pub returns-clause-any_moment : goal.returns-clause-any_moment
returns-clause-any_moment g c =
    let pack = c.args.self.now in
    let ino = c.args.ino in
    let w = (g.C.NewContent.working c.args.content.now) in
    let old = (g.D.Disk.moment c.args.disk.now).seen in
    let p = c.in_ok-prepared.prepared in
    let e = c.in_ok-prepared.ensures in
    let s = set_up pack ino c.args.version w p.made.copy e.low e.high e.copies c.requires.version (omega arith) c.requires.rests e.whole e.long e.makes in
    let tables = marked_tables p.made.tables in
    let over = marked_over p.made.tables (copy_of pack.copies ino) w e.tables in
    let given = pieces_of c.base-base.result p.made.copy tables w in
    let are = ap (λ (b : ℕ). pieces_of b p.made.copy tables w) c.base-base.ensures in
    leaves_weaker g.D.Disk.moment c.args.disk.now c.replace_inode.new.disk
    (IsStage given (slot_at c.base-base.result ino p.made.copy.half) (closing c.base-base.result ino p.made.copy.half old) old)
    (MayBeLeft pack ino (new_version pack.base ino c.args.version w old) old)
    (given_left pack ino w p.made.copy s old c.requires.stands.shows c.base-base.result given tables c.base-base.ensures are over c.args.version e.makes) c.replace_inode.ensures.stages

pub returns-clause-copies : goal.returns-clause-copies
returns-clause-copies g c =
    let pack = c.args.self.now in
    let ino = c.args.ino in
    let w = (g.C.NewContent.working c.args.content.now) in
    let old = (g.D.Disk.moment c.args.disk.now).seen in
    let p = c.in_ok-prepared.prepared in
    let e = c.in_ok-prepared.ensures in
    let s = set_up pack ino c.args.version w p.made.copy e.low e.high e.copies c.requires.version (omega arith) c.requires.rests e.whole e.long e.makes in
    record {
      made = p.made.copy;
      makes = e.makes;
      becomes = c.put.ensures;
      copy = ap (λ (k : PackState). copy_of k.copies ino) c.put.ensures ∙ own_copy pack.copies ino (Some p.made.copy) s.low (let count = s.are.count in let high = s.high in omega arith);
    }

pub returns-clause-stands : goal.returns-clause-stands
returns-clause-stands g c =
    let pack = c.args.self.now in
    let ino = c.args.ino in
    let w = (g.C.NewContent.working c.args.content.now) in
    let old = (g.D.Disk.moment c.args.disk.now).seen in
    let p = c.in_ok-prepared.prepared in
    let e = c.in_ok-prepared.ensures in
    let s = set_up pack ino c.args.version w p.made.copy e.low e.high e.copies c.requires.version (omega arith) c.requires.rests e.whole e.long e.makes in
    let tables = marked_tables p.made.tables in
    let over = marked_over p.made.tables (copy_of pack.copies ino) w e.tables in
    let given = pieces_of c.base-base.result p.made.copy tables w in
    let are = ap (λ (b : ℕ). pieces_of b p.made.copy tables w) c.base-base.ensures in
    subst (λ (new : PackState). Stands new (g.D.Disk.moment c.replace_inode.new.disk)) (sym c.put.ensures)
    (record { settled = c.in_ok-replace_inode.ensures.durable; shows = given_shows pack ino w p.made.copy s old c.requires.stands.shows c.base-base.result given tables c.base-base.ensures are over (g.D.Disk.moment c.replace_inode.new.disk).seen c.in_ok-replace_inode.ensures.done })

pub returns-clause-replaced : goal.returns-clause-replaced
returns-clause-replaced g c =
    let pack = c.args.self.now in
    let ino = c.args.ino in
    let w = (g.C.NewContent.working c.args.content.now) in
    let old = (g.D.Disk.moment c.args.disk.now).seen in
    let p = c.in_ok-prepared.prepared in
    let e = c.in_ok-prepared.ensures in
    let s = set_up pack ino c.args.version w p.made.copy e.low e.high e.copies c.requires.version (omega arith) c.requires.rests e.whole e.long e.makes in
    let tables = marked_tables p.made.tables in
    let over = marked_over p.made.tables (copy_of pack.copies ino) w e.tables in
    let given = pieces_of c.base-base.result p.made.copy tables w in
    let are = ap (λ (b : ℕ). pieces_of b p.made.copy tables w) c.base-base.ensures in
    given_replaced pack ino w p.made.copy s old c.requires.stands.shows c.base-base.result given tables c.base-base.ensures are over c.args.version e.makes (g.D.Disk.moment c.replace_inode.new.disk).seen c.in_ok-replace_inode.ensures.replaced

pub returns-clause-no_space : goal.returns-clause-no_space
returns-clause-no_space g c pages free = other_answer _ tt pages free _ (λ e. absurd cc) (c.in_ok-room_for.ensures.no_space pages free)

pub returns-clause-tells : goal.returns-clause-tells
returns-clause-tells g c =
    let pack = c.args.self.now in
    let ino = c.args.ino in
    let w = (g.C.NewContent.working c.args.content.now) in
    let old = (g.D.Disk.moment c.args.disk.now).seen in
    let p = c.in_ok-prepared.prepared in
    let e = c.in_ok-prepared.ensures in
    let s = set_up pack ino c.args.version w p.made.copy e.low e.high e.copies c.requires.version (omega arith) c.requires.rests e.whole e.long e.makes in
    let tables = marked_tables p.made.tables in
    let over = marked_over p.made.tables (copy_of pack.copies ino) w e.tables in
    let given = pieces_of c.base-base.result p.made.copy tables w in
    let are = ap (λ (b : ℕ). pieces_of b p.made.copy tables w) c.base-base.ensures in
    subst (λ (k : ℕ). TellsMany {T = Unit {0}} {E = DiskFault} k (g.D.Disk.moment c.args.disk.now).passing (g.D.Disk.moment c.replace_inode.new.disk).passing (Ok tt)) (given_calls pack ino w p.made.copy s old c.requires.stands.shows c.base-base.result given tables c.base-base.ensures are over) c.in_ok-replace_inode.ensures.tells

pub returns-clause-pages : goal.returns-clause-pages
returns-clause-pages g c =
    let pack = c.args.self.now in
    let ino = c.args.ino in
    let w = (g.C.NewContent.working c.args.content.now) in
    let old = (g.D.Disk.moment c.args.disk.now).seen in
    let p = c.in_ok-prepared.prepared in
    let e = c.in_ok-prepared.ensures in
    let s = set_up pack ino c.args.version w p.made.copy e.low e.high e.copies c.requires.version (omega arith) c.requires.rests e.whole e.long e.makes in
    let tables = marked_tables p.made.tables in
    let over = marked_over p.made.tables (copy_of pack.copies ino) w e.tables in
    let given = pieces_of c.base-base.result p.made.copy tables w in
    let are = ap (λ (b : ℕ). pieces_of b p.made.copy tables w) c.base-base.ensures in
    subst (λ (new : PackState). HoldsPages new ino w (g.D.Disk.moment c.replace_inode.new.disk).seen) (sym c.put.ensures)
    (given_pages pack ino w p.made.copy s old c.requires.stands.shows c.base-base.result given tables c.base-base.ensures are over (g.D.Disk.moment c.replace_inode.new.disk).seen c.in_ok-replace_inode.ensures.done)

pub returns-clause-good : goal.returns-clause-good
returns-clause-good g c =
    let pack = c.args.self.now in
    let ino = c.args.ino in
    let w = (g.C.NewContent.working c.args.content.now) in
    let old = (g.D.Disk.moment c.args.disk.now).seen in
    let p = c.in_ok-prepared.prepared in
    let e = c.in_ok-prepared.ensures in
    let s = set_up pack ino c.args.version w p.made.copy e.low e.high e.copies c.requires.version (omega arith) c.requires.rests e.whole e.long e.makes in
    subst (λ (new : PackState). AreCopies new.copies) (sym c.put.ensures) (copies_after pack ino w p.made.copy s)

pub returns-in_err-replace_inode-clause-cut : goal.returns-in_err-replace_inode-clause-cut
returns-in_err-replace_inode-clause-cut g c passed told =
    let pack = c.args.self.now in
    let ino = c.args.ino in
    let w = (g.C.NewContent.working c.args.content.now) in
    let old = (g.D.Disk.moment c.args.disk.now).seen in
    let p = c.in_ok-prepared.prepared in
    let e = c.in_ok-prepared.ensures in
    let s = set_up pack ino c.args.version w p.made.copy e.low e.high e.copies c.requires.version (omega arith) c.requires.rests e.whole e.long e.makes in
    let tables = marked_tables p.made.tables in
    let over = marked_over p.made.tables (copy_of pack.copies ino) w e.tables in
    let given = pieces_of c.base-base.result p.made.copy tables w in
    let are = ap (λ (b : ℕ). pieces_of b p.made.copy tables w) c.base-base.ensures in
    let M = g.D.Disk.moment in
    let before = c.args.disk.now in
    let after = c.replace_inode.new.disk in
    let h = given_on c.from_residual-in_err-replace_inode.result _ c.from_residual-in_err-replace_inode.ensures in
    let is = h.1 ∙ ap (λ (f : PackFault). Err f) h.2 in
    let made = new_version pack.base ino c.args.version w old in
    let blocks = blocks_over (copy_of pack.copies ino) w in
    let count = given_blocks_are pack ino w p.made.copy s old c.requires.stands.shows c.base-base.result given tables c.base-base.ensures are over in
    let cut = c.in_err-replace_inode.ensures.cut blocks passed count told in
    let left = leaves_cut M before after (MayBeLeft pack ino made old) (returns-in_err-replace_inode-clause-any_moment g c) (g.met.D.Disk.counts_now after) (g.met.D.Disk.leaves_an_image after) in
    subst (λ (r : Result (Unit {0}) PackFault). OnErr (commit_answer r) (IsCutCommit pack ino made blocks (M before).how passed old (M after).left)) (sym is)
    (given_cut pack ino w p.made.copy s old c.requires.stands.shows c.base-base.result given tables c.base-base.ensures are over c.args.version e.makes (M before).how passed (M after).left left cut)
