use Rattle.std.proofs.Common.{◌≡◌, ◌++◌, ◌∷◌, [], ℕ, List, true, sym, subst}
use Rattle.std.specs.Prelude.{OnOk}
use Rattle.new_contents.specs.Laid.{has_come}
use Rattle.disk_tests.proofs.AllPages.{come_more}
use Rattle.disk_tests.proofs.packs.all_pages.Goals as goal

pub loop-page-preserved : goal.loop-page-preserved
loop-page-preserved g c page lt =
    let all = c.loop-page.numbers ++ c.loop-page.page ∷ [] in
    let pushed : c.push.new.self ≡ all = subst (λ r. OnOk r (c.push.new.self ≡ all)) c.expect.ensures c.push.ensures.ok in
    subst (λ (l : List ℕ). has_come l page ≡ true) (sym pushed) (come_more c.loop-page.numbers c.loop-page.page c.loop-page.invariant page lt)
