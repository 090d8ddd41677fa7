use Rattle.std.proofs.Common.{◌<◌, ◌∙◌, ℕ, false, sym, ap, arith, length, get_or}
use Rattle.std.proofs.lemmas.Bool.{false≢true}
use Rattle.file_content.specs.Pages.{pages_of}
use Rattle.site_packs.proofs.Fills.{none_kept}
use Rattle.site_packs.proofs.keeping.are_all_marked.Goals as goal

pub returns-then-not-marks-from : goal.returns-then-not-marks-from
returns-then-not-marks-from c =
    let lt = c.loop-page-test.true in
    let count = c.page_count-page-end.ensures.pages in
    let inside : c.loop-page.page < pages_of (length c.args.content.now) = omega arith in
    let unmarked = ap (λ (n : ℕ). get_or c.args.marks.now n false) (sym c.from.ensures) ∙ c.if-not-marks-from.true in
    (λ e. absurd (false≢true e), λ keeps. absurd (none_kept c.args.content.now c.loop-page.page inside (keeps c.loop-page.page inside unmarked)))
