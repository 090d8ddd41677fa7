use Rattle.std.proofs.Common.{◌≡◌, ◌+◌, ◌∙◌, ℕ, List, length, get_or, refl, sym, ap, subst, arith, None, length-append}
use Rattle.std.specs.Prelude.{Ok, Err}
use Rattle.disk_model.specs.declared.disk.DiskFault.{DiskFault}
use Rattle.file_content.specs.Pages.{pages_of}
use Rattle.pack_layout.specs.Layout.{page_at}
use Rattle.gate_switch.specs.Switch.{Piece}
use Rattle.disk_model.specs.Moments.{TellsMany}
use Rattle.gate_switch.specs.Switch.{AreWithin, TornIn, written}
use Rattle.disk_model.proofs.Moments.{goes_start, goes_more}
use Rattle.gate_switch.proofs.Pieces.{torn_stays, torn_joins, torn_written, written-append}
use Rattle.disk_model.proofs.Tells.{tells_none, tells_join}
use Rattle.pack_slots.specs.Copies.{numbers_in}
use Rattle.new_contents.specs.Changed.{piece_at}
use Rattle.inode_pack.specs.PagePieces.{page_pieces}
use Rattle.inode_pack.proofs.Streaming.{torn_one, within_one, pieces_more, pieces_before, pieces_behind, longer, tells_short}
use Rattle.inode_pack.proofs.pieces.write_pages.Goals as goal

pub loop-i-init : goal.loop-i-init
loop-i-init g c =
    let base = c.args.base in
    let numbers = (numbers_in c.args.made.now) in
    let w = (g.C.NewContent.working c.args.content.now) in
    let row = c.args.row in
    let disk = c.args.disk.now in
    let none = pieces_before base numbers w row.first row.stop c.requires.changed (let a = c.requires.ordered in let b = c.requires.inside in omega arith) in
    record {
      seen = sym (ap (λ (l : List Piece). written (g.D.Disk.moment disk).seen l) none);
      long = refl;
      goes = goes_start g.D.Disk.moment (TornIn (page_pieces base numbers w (pages_of w.size))) disk (torn_stays (page_pieces base numbers w (pages_of w.size)));
      cause = omega arith;
      tells = subst (λ (l : List Piece). TellsMany {T = Unit {0}} {E = DiskFault} (length l) (g.D.Disk.moment disk).passing (g.D.Disk.moment disk).passing (Ok tt)) (sym none) (tells_none (g.D.Disk.moment disk).passing);
      how = refl;
    }

pub write_page-requires-clause-within : goal.write_page-requires-clause-within
write_page-requires-clause-within g c =
    let base = c.args.base in
    let numbers = (numbers_in c.args.made.now) in
    let w = (g.C.NewContent.working c.args.content.now) in
    let i = c.loop-i.i in
    let one = piece_at (page_at base (get_or numbers i 0)) (get_or w.pages i None) in
    let inside = c.requires.inside in
    subst (λ (n : ℕ). AreWithin one n) (sym c.loop-i.invariant.long) (within_one base numbers w (pages_of w.size) i (length (g.D.Disk.moment c.args.disk.now).seen) (omega arith) c.requires.within)

pub returns-in_err-write_page-clause-crash : goal.returns-in_err-write_page-clause-crash
returns-in_err-write_page-clause-crash g c =
    let base = c.args.base in
    let numbers = (numbers_in c.args.made.now) in
    let w = (g.C.NewContent.working c.args.content.now) in
    let i = c.loop-i.i in
    let one = piece_at (page_at base (get_or numbers i 0)) (get_or w.pages i None) in
    let all = page_pieces base numbers w (pages_of w.size) in
    let inside = c.requires.inside in
    goes_more g.D.Disk.moment (TornIn one) (TornIn all) c.args.disk.now c.loop-i.disk c.write_page.new.disk
    (λ a b torn. torn_one base numbers w (pages_of w.size) i a b (omega arith) torn) (torn_joins all) c.loop-i.invariant.goes c.write_page.ensures.crash

pub returns-in_err-write_page-clause-tells : goal.returns-in_err-write_page-clause-tells
returns-in_err-write_page-clause-tells g c =
    let base = c.args.base in
    let numbers = (numbers_in c.args.made.now) in
    let w = (g.C.NewContent.working c.args.content.now) in
    let i = c.loop-i.i in
    let so_far = page_pieces base numbers w i in
    let one = piece_at (page_at base (get_or numbers i 0)) (get_or w.pages i None) in
    let inside = c.requires.inside in
    let count : length so_far + length one ≡ length (page_pieces base numbers w (i + 1)) = sym (ap (λ (l : List Piece). length l) (pieces_more base numbers w i) ∙ length-append so_far one) in
    let fault = c.in_err-write_page.field-0.0 in
    let tells = tells_join (length so_far) (length one) _ _ _ (Err fault) c.loop-i.invariant.tells c.in_err-write_page.ensures.tells in
    tells_short (length so_far + length one) (length (page_pieces base numbers w (pages_of w.size))) _ _ c.from_residual.result fault (omega (arith, count, longer base numbers w (i + 1) (pages_of w.size) (omega arith))) c.from_residual.ensures.0 tells

pub loop-i-preserved : goal.loop-i-preserved
loop-i-preserved g c =
    let base = c.args.base in
    let numbers = (numbers_in c.args.made.now) in
    let w = (g.C.NewContent.working c.args.content.now) in
    let i = c.loop-i.i in
    let inv = c.loop-i.invariant in
    let old = (g.D.Disk.moment c.args.disk.now).seen in
    let mid = (g.D.Disk.moment c.loop-i.disk).seen in
    let so_far = page_pieces base numbers w i in
    let one = piece_at (page_at base (get_or numbers i 0)) (get_or w.pages i None) in
    let all = page_pieces base numbers w (pages_of w.size) in
    let inside = c.requires.inside in
    let within = subst (λ (n : ℕ). AreWithin one n) (sym inv.long) (within_one base numbers w (pages_of w.size) i (length old) (omega arith) c.requires.within) in
    let seen_is = c.in_ok-write_page.ensures.written in
    let more = pieces_more base numbers w i in
    let count : length so_far + length one ≡ length (page_pieces base numbers w (i + 1)) = sym (ap (λ (l : List Piece). length l) more ∙ length-append so_far one) in
    record {
      seen = seen_is ∙ ap (λ (l : List ℕ). written l one) inv.seen ∙ sym (written-append old so_far one) ∙ ap (λ (l : List Piece). written old l) (sym more);
      long = ap length seen_is ∙ (torn_written one mid within).long ∙ inv.long;
      goes = goes_more g.D.Disk.moment (TornIn one) (TornIn all) c.args.disk.now c.loop-i.disk c.write_page.new.disk
          (λ a b torn. torn_one base numbers w (pages_of w.size) i a b (omega arith) torn) (torn_joins all) inv.goes c.write_page.ensures.crash;
      cause = omega (arith, inv.cause, c.write_page.ensures.cause.later);
      tells = subst (λ (k : ℕ). TellsMany {T = Unit {0}} {E = DiskFault} k (g.D.Disk.moment c.args.disk.now).passing (g.D.Disk.moment c.write_page.new.disk).passing (Ok tt)) count
          (tells_join (length so_far) (length one) _ _ _ (Ok tt) inv.tells c.in_ok-write_page.ensures.tells);
      how = c.write_page.ensures.how ∙ inv.how;
    }

pub returns-clause-written : goal.returns-clause-written
returns-clause-written g c =
    let base = c.args.base in
    let numbers = (numbers_in c.args.made.now) in
    let w = (g.C.NewContent.working c.args.content.now) in
    let row = c.args.row in
    let inside = c.requires.inside in
    let ordered = c.requires.ordered in
    let behind = pieces_behind base numbers w row.first row.stop c.loop-i.i c.requires.changed (omega arith) (omega arith) in
    c.loop-i.invariant.seen ∙ ap (λ (l : List Piece). written (g.D.Disk.moment c.args.disk.now).seen l) (sym behind)

pub returns-clause-tells : goal.returns-clause-tells
returns-clause-tells g c =
    let base = c.args.base in
    let numbers = (numbers_in c.args.made.now) in
    let w = (g.C.NewContent.working c.args.content.now) in
    let row = c.args.row in
    let inside = c.requires.inside in
    let ordered = c.requires.ordered in
    let behind = pieces_behind base numbers w row.first row.stop c.loop-i.i c.requires.changed (omega arith) (omega arith) in
    subst (λ (l : List Piece). TellsMany {T = Unit {0}} {E = DiskFault} (length l) (g.D.Disk.moment c.args.disk.now).passing (g.D.Disk.moment c.loop-i.disk).passing (Ok tt)) (sym behind) c.loop-i.invariant.tells
