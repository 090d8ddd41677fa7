use Rattle.std.proofs.Common.{◌≡◌, ℕ, ◌<◌, get_or}
use Rattle.shadow_pages.specs.declared.base_page.BasePage.{BasePage}
use Rattle.shadow_pages.proofs.build.find.Given as goal

abbrev pub invariant-loop-page : goal.invariant-loop-page
invariant-loop-page l = (j : ℕ) (d : BasePage) → j < l.page-index → (get_or l.handed j d).page ≡ l.i → ⊥
