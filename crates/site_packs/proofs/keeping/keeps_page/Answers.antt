use Rattle.std.proofs.Common.{◌*◌, List, ℕ, length, ap, drop, arith, length-take}
use Rattle.locus_ids.specs.Sizes.{page_bytes}
use Rattle.site_packs.proofs.keeping.keeps_page.Goals as goal

pub begins_page-requires-clause-few : goal.begins_page-requires-clause-few
begins_page-requires-clause-few g c =
    let e = ap (λ (l : List ℕ). length l) c.page_of-bytes.ensures in
    omega (arith, length-take page_bytes (drop (page_bytes * c.from-2.result) c.args.content.now))
