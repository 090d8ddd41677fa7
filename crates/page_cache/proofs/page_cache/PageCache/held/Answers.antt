use Rattle.std.proofs.Common.{◌≡◌, ◌++◌, Some, sym, ap, ◌∙◌}
use Rattle.page_cache.specs.Cached.{brought_first, found}
use Rattle.page_cache.specs.Parts.{bytes_within, name_in}
use Rattle.page_cache.proofs.Looking.{goes_on}
use Rattle.page_cache.proofs.page_cache.PageCache.held.Goals as goal

pub loop-page-preserved : goal.loop-page-preserved
loop-page-preserved c =
    let p = c.args.part.now in
    let pages = c.loop-page.self in
    let is_found : found (name_in p c.loop-page.page) pages ≡ Some c.in-Some.kept = sym (c.in-Some.ensures.bytes ∙ ap (λ k. found k pages) c.name.ensures) in
    let bytes : c.append.new.self ≡ c.loop-page.bytes ++ bytes_within p c.loop-page.page c.in-Some.kept = c.in_ok-append-in-Some.ensures.ok ∙ ap (λ ys. c.loop-page.bytes ++ ys) c.within.ensures in
    let used : c.get.new.self ≡ brought_first (name_in p c.loop-page.page) pages = c.in-Some.ensures.pages ∙ ap (λ k. brought_first k pages) c.name.ensures in
    rw (bytes, used) (goes_on p _ _ _ c.loop-page.bytes c.loop-page.page pages c.in-Some.kept c.loop-page-test.true is_found c.loop-page.invariant)
