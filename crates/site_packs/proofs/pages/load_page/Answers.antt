use Rattle.std.proofs.Common.{◌≡◌, ◌∙◌, ◌-◌, ◌*◌, ◌<◌, ◌++◌, ℕ, List, length, take, ap, sym, subst, arith}
use Rattle.std.specs.Prelude.{min}
use Rattle.locus_ids.specs.Sizes.{page_bytes}
use Rattle.pack_slots.specs.of_inode_switch.View.{view}
use Rattle.inode_pack.specs.Pack.{IsPageOf}
use Rattle.inode_pack.specs.Committing.{content_of}
use Rattle.site_packs.proofs.PageBytes.{this_page, content_is, content_long, past_page}
use Rattle.site_packs.proofs.pages.load_page.Goals as goal

pub returns-then-from-size-clause-page : goal.returns-then-from-size-clause-page
returns-then-from-size-clause-page g c =
    let seen = (g.D.Disk.moment c.args.disk.now).seen in
    let content = content_of (view seen c.args.pack.now.base c.args.ino) in
    let long = content_long c.args.pack.now c.args.ino c.args.size seen c.requires.content in
    let le = c.if-from-size.true in
    let from = c.from.ensures in
    c.new-bytes.ensures ∙ sym (past_page content c.args.page (omega arith))

pub returns-clause-page : goal.returns-clause-page
returns-clause-page g c =
    let M = g.D.Disk.moment in
    let pack = c.args.pack.now in
    let seen = (M c.args.disk.now).seen in
    let content = content_of (view seen pack.base c.args.ino) in
    let i = c.args.page in
    let long = content_long pack c.args.ino c.args.size seen c.requires.content in
    let buf = c.read_page.new.buf in
    let is : IsPageOf content i buf = subst (λ (l : List ℕ). IsPageOf l i buf) (sym (content_is pack c.args.ino c.args.size seen c.requires.content))
    (c.in_ok-read_page.ensures.content c.requires.content.version c.requires.content.seen) in
    let gt = c.if-from-size.false in
    let from = c.from.ensures in
    let inside : page_bytes * i < length content = omega arith in
    let long2 : min page_bytes (c.args.size - page_bytes * i) ≡ min page_bytes (length content - page_bytes * i) = ap (λ (n : ℕ). min page_bytes (n - page_bytes * i)) (sym long) in
    c.in_ok-append_page.ensures ∙ ap (λ (l : List ℕ). l ++ take (min page_bytes (c.args.size - page_bytes * i)) buf) c.new-bytes.ensures
    ∙ ap (λ (n : ℕ). take n buf) long2 ∙ this_page content buf i is inside c.read_page.array_long
