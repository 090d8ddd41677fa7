use Rattle.std.proofs.Common.{◌≡◌, ◌∙◌, ℕ, length, get_or, ap, subst, sym, None}
use Rattle.pack_layout.specs.Layout.{page_at}
use Rattle.disk_model.specs.Disk.{Goes}
use Rattle.disk_model.specs.Moments.{TellsMany}
use Rattle.disk_model.proofs.Moments.{on_ok}
use Rattle.gate_switch.specs.Switch.{AreWithin, TornIn, written}
use Rattle.pack_slots.specs.Copies.{numbers_in}
use Rattle.new_contents.specs.Changed.{piece_at}
use Rattle.inode_pack.proofs.pieces.write_page.Goals as goal

-- the page's place
pub put_page-requires : goal.put_page-requires
put_page-requires g c =
    let n = length (g.D.Disk.moment c.args.disk.now).seen in
    let o = get_or (g.C.NewContent.working c.args.content.now).pages c.args.i None in
    let place = c.page_at-at.ensures ∙ ap (λ (j : ℕ). page_at c.args.base j) c.page_number.ensures in
    subst (λ (a : ℕ). AreWithin (piece_at a o) n) (sym place) c.requires.within

pub returns-clause-written : goal.returns-clause-written
returns-clause-written g c =
    let old = (g.D.Disk.moment c.args.disk.now).seen in
    let o = get_or (g.C.NewContent.working c.args.content.now).pages c.args.i None in
    let place = c.page_at-at.ensures ∙ ap (λ (j : ℕ). page_at c.args.base j) c.page_number.ensures in
    on_ok c.put_page.result _ ((g.D.Disk.moment c.put_page.new.disk).seen ≡ written old (piece_at (page_at c.args.base (get_or (numbers_in c.args.made.now) c.args.i 0)) o))
    (λ e. e ∙ ap (λ (a : ℕ). written old (piece_at a o)) place) c.put_page.ensures.written

pub returns-clause-crash : goal.returns-clause-crash
returns-clause-crash g c =
    let o = get_or (g.C.NewContent.working c.args.content.now).pages c.args.i None in
    let place = c.page_at-at.ensures ∙ ap (λ (j : ℕ). page_at c.args.base j) c.page_number.ensures in
    subst (λ (a : ℕ). Goes (TornIn (piece_at a o)) (g.D.Disk.moment c.args.disk.now) (g.D.Disk.moment c.put_page.new.disk)) place c.put_page.ensures.crash

pub returns-clause-tells : goal.returns-clause-tells
returns-clause-tells g c =
    let o = get_or (g.C.NewContent.working c.args.content.now).pages c.args.i None in
    let place = c.page_at-at.ensures ∙ ap (λ (j : ℕ). page_at c.args.base j) c.page_number.ensures in
    subst (λ (a : ℕ). TellsMany (length (piece_at a o)) (g.D.Disk.moment c.args.disk.now).passing (g.D.Disk.moment c.put_page.new.disk).passing c.put_page.result) place c.put_page.ensures.tells
