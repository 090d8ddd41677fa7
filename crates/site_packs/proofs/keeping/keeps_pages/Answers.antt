use Rattle.std.proofs.Common.{◌≡◌, ◌<◌, ◌≤◌, ◌∙◌, ℕ, List, false, subst, arith, ⊎_elim}
use Rattle.std.specs.Prelude.{Ok}
use Rattle.std.proofs.lemmas.Bool.{cases_lt}
use Rattle.disk_model.proofs.ReadRuns.{reads_join, reads_ok, goes_same}
use Rattle.pack_slots.specs.of_inode_switch.View.{view}
use Rattle.inode_pack.specs.of_new_contents.Marked.{is_marked}
use Rattle.inode_pack.specs.Committing.{content_of}
use Rattle.pack_layout.specs.of_stored_versions.Changes.{IsKept}
use Rattle.site_packs.proofs.keeping.keeps_pages.Goals as goal

pub loop-page-preserved : goal.loop-page-preserved
loop-page-preserved g c =
    let M = g.D.Disk.moment in
    let inv = c.loop-page.invariant in
    let page = c.loop-page.page in
    let base = c.args.pack.now.base in
    let here = subst (λ (l : List ℕ). is_marked c.args.marks.now page ≡ false → IsKept (content_of (view l base c.args.ino)) c.args.content.now page) inv.seen (c.in_ok-keeps_page.ensures.kept.0 c.if-not-branch.false) in
    record {
      kept = λ k lt unmarked. ⊎_elim
          (λ (less : k < page). inv.kept k less unmarked)
          (λ (ge : page ≤ k).
          let e : page ≡ k = omega arith in
          subst (λ (n : ℕ). is_marked c.args.marks.now n ≡ false → IsKept (content_of (view (M c.args.disk.now).seen base c.args.ino)) c.args.content.now n) e here unmarked)
          (cases_lt k page);
      stands = c.keeps_page.ensures.stands;
      seen = c.keeps_page.ensures.seen ∙ inv.seen;
      goes = goes_same M c.args.disk.now c.loop-page.disk c.keeps_page.new.disk inv.goes c.keeps_page.ensures.crash;
      cause = omega (arith, inv.cause, c.keeps_page.ensures.cause.later);
      tells = reads_join (M c.args.disk.now).passing (M c.loop-page.disk).passing (M c.keeps_page.new.disk).passing (Ok tt) inv.tells (reads_ok c.in_ok-keeps_page.field-0 _ _ c.in_ok-keeps_page.ensures.tells);
      how = c.keeps_page.ensures.how ∙ inv.how;
    }
