use Rattle.std.proofs.Common.{◌≡◌, List, ℕ, ap, ◌∙◌, subst, sym, length, arith}
use Rattle.std.specs.Prelude.{Some}
use Rattle.locus_ids.specs.Sizes.{page_bytes}
use Rattle.disk_model.specs.Images.{bytes_at}
use Rattle.pack_layout.specs.Layout.{page_at}
use Rattle.inode_switch.specs.View.{Version, view}
use Rattle.disk_model.proofs.Moments.{on_ok}
use Rattle.inode_pack.specs.Pack.{PackState, number_in, IsPageOf}
use Rattle.pack_slots.specs.Copies.{AreCopies, copy_of}
use Rattle.inode_pack.proofs.Contents.{shown_page}
use Rattle.inode_pack.proofs.pack.Pack.read_page.Goals as goal

pub returns-clause-bytes : goal.returns-clause-bytes
returns-clause-bytes g c =
    let seen = (g.D.Disk.moment c.args.disk.now).seen in
    let number = number_in (copy_of c.args.self.now.copies c.args.ino) c.args.page in
    let at : c.page_at.result ≡ page_at c.args.self.now.base number = c.page_at.ensures ∙ ap (λ (v : PackState). page_at v.base c.number_of-number.result) c.self.view_is ∙ ap (λ (n : ℕ). page_at c.args.self.now.base n) c.number_of-number.ensures.number in
    let long : length c.args.buf.now ≡ page_bytes = omega arith in
    on_ok c.read.result _ (c.read.new.buf ≡ bytes_at seen (page_at c.args.self.now.base number) page_bytes)
    (λ read. read ∙ ap (λ (n : ℕ). bytes_at seen n (length c.args.buf.now)) at ∙ ap (λ (n : ℕ). bytes_at seen (page_at c.args.self.now.base number) n) long)
    c.read.ensures.bytes

pub returns-clause-content : goal.returns-clause-content
returns-clause-content g c =
    let seen = (g.D.Disk.moment c.args.disk.now).seen in
    let pack = c.args.self.now in
    let are = subst (λ (v : PackState). AreCopies v.copies) c.self.view_is c.self.invariant.0 in
    on_ok c.read.result _ ((v : Version) → view seen pack.base c.args.ino ≡ Some v → IsPageOf v.content c.args.page c.read.new.buf)
    (λ read v is. subst (λ (l : List ℕ). IsPageOf v.content c.args.page l) (sym read) (shown_page pack c.args.ino c.args.page seen are c.requires.stands.shows c.requires.page v is))
    (returns-clause-bytes g c)
