use Rattle.std.proofs.Common.{◌≡◌, ◌∙◌, ◌*◌, ℕ, List, length, take, drop, sym, subst, arith, true, false}
use Rattle.std.proofs.lemmas.List.{take-take}
use Rattle.std.proofs.lemmas.Slice.Eq.{bytes_eq-Decides}
use Rattle.locus_ids.specs.Sizes.{page_bytes}
use Rattle.file_content.specs.Pages.{page_of}
use Rattle.pack_slots.specs.of_inode_switch.View.{view}
use Rattle.inode_pack.specs.Pack.{IsPageOf}
use Rattle.inode_pack.specs.Committing.{content_of}
use Rattle.site_packs.proofs.PageBytes.{page_part, content_is, content_long, short_page}
use Rattle.site_packs.proofs.pages.begins_page.Goals as goal

pub returns-then-from-bytes-clause-begins : goal.returns-then-from-bytes-clause-begins
returns-then-from-bytes-clause-begins g c =
    let seen = (g.D.Disk.moment c.args.disk.now).seen in
    let content = content_of (view seen c.args.pack.now.base c.args.ino) in
    let long = content_long c.args.pack.now c.args.ino c.args.size seen c.requires.content in
    let over = c.if-from-bytes.true in
    let from = c.from.ensures in
    let some = c.requires.some in
    (λ e. absurd (let f : false ≡ true = e in cc), λ e. absurd (short_page content c.args.page c.args.bytes.now some (omega arith) e))

pub returns-clause-begins : goal.returns-clause-begins
returns-clause-begins g c =
    let pack = c.args.pack.now in
    let seen = (g.D.Disk.moment c.args.disk.now).seen in
    let content = content_of (view seen pack.base c.args.ino) in
    let i = c.args.page in
    let n = length c.args.bytes.now in
    let long = content_long pack c.args.ino c.args.size seen c.requires.content in
    let buf = c.read_page.new.buf in
    let is : IsPageOf content i buf = subst (λ (l : List ℕ). IsPageOf l i buf) (sym (content_is pack c.args.ino c.args.size seen c.requires.content))
    (c.in_ok-read_page.ensures.content c.requires.content.version c.requires.content.seen) in
    let under = c.if-from-bytes.false in
    let from = c.from.ensures in
    let few = c.requires.few in
    let part = page_part content buf i n is (omega arith) few c.read_page.array_long in
    let same : take n buf ≡ take n (page_of content i) = part ∙ sym (take-take n page_bytes (drop (page_bytes * i) content) few) in
    let d = bytes_eq-Decides (take n buf) c.args.bytes.now in
    (λ e. sym same ∙ d.0 (sym c.eq.ensures ∙ e), λ e. c.eq.ensures ∙ d.1 (same ∙ e))
