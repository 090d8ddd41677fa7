use Rattle.std.proofs.Common.{◌≡◌, ◌∙◌, ◌-◌, ◌*◌, ◌<◌, ◌++◌, ℕ, List, length, take, ap, sym, subst, arith, append_assoc}
use Rattle.std.specs.Prelude.{Ok, min}
use Rattle.locus_ids.specs.Sizes.{page_bytes}
use Rattle.disk_model.proofs.ReadRuns.{reads_join, reads_ok, goes_same}
use Rattle.pack_slots.specs.of_inode_switch.View.{view}
use Rattle.inode_pack.specs.Pack.{IsPageOf}
use Rattle.inode_pack.specs.Committing.{content_of}
use Rattle.site_packs.proofs.PageBytes.{next_page, content_is, content_long}
use Rattle.site_packs.proofs.pages.read_content.Goals as goal

pub loop-i-preserved : goal.loop-i-preserved
loop-i-preserved g c =
    let M = g.D.Disk.moment in
    let inv = c.loop-i.invariant in
    let pack = c.args.pack.now in
    let seen = (M c.args.disk.now).seen in
    let content = content_of (view seen pack.base c.args.ino) in
    let i = c.loop-i.i in
    let long = content_long pack c.args.ino c.args.size seen c.requires.content in
    let buf = c.read_page.new.buf in
    let is : IsPageOf content i buf = subst (λ (l : List ℕ). IsPageOf l i buf) (sym (content_is pack c.args.ino c.args.size seen c.requires.content))
    (c.in_ok-read_page.ensures.content c.requires.content.version (ap (λ (l : List ℕ). view l pack.base c.args.ino) inv.seen ∙ c.requires.content.seen)) in
    let count = c.page_count-i-end.ensures.pages in
    let lt = c.loop-i-test.true in
    let few = c.requires.content.few in
    let inside : page_bytes * i < length content = omega arith in
    let next = next_page content buf i is inside c.read_page.array_long in
    let long2 : min page_bytes (c.args.size - page_bytes * i) ≡ min page_bytes (length content - page_bytes * i) = ap (λ (n : ℕ). min page_bytes (n - page_bytes * i)) (sym long) in
    record {
      out = c.in_ok-append_page.ensures ∙ ap (λ (l : List ℕ). l ++ take (min page_bytes (c.args.size - page_bytes * i)) buf) inv.out
          ∙ append_assoc c.args.out.now (take (page_bytes * i) content) (take (min page_bytes (c.args.size - page_bytes * i)) buf)
          ∙ ap (λ (n : ℕ). c.args.out.now ++ (take (page_bytes * i) content ++ take n buf)) long2
          ∙ ap (λ (l : List ℕ). c.args.out.now ++ l) next;
      stands = c.read_page.ensures.stands;
      seen = c.read_page.ensures.seen ∙ inv.seen;
      goes = goes_same M c.args.disk.now c.loop-i.disk c.read_page.new.disk inv.goes c.read_page.ensures.crash;
      cause = omega (arith, inv.cause, c.read_page.ensures.cause.later);
      tells = reads_join (M c.args.disk.now).passing (M c.loop-i.disk).passing (M c.read_page.new.disk).passing (Ok tt) inv.tells (reads_ok c.in_ok-read_page.field-0 _ _ c.in_ok-read_page.ensures.tells);
      how = c.read_page.ensures.how ∙ inv.how;
    }
