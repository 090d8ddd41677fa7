use Rattle.std.proofs.Common.{◌*◌, ℕ, List, length, take, drop, ap, sym, arith, length-take}
use Rattle.std.proofs.lemmas.List.{drop_all}
use Rattle.locus_ids.specs.Sizes.{page_bytes}
use Rattle.new_contents.proofs.laid_pages.page_at.Goals as goal

pub returns-clause-short : goal.returns-clause-short
returns-clause-short c =
    let is = ap (λ (l : List ℕ). length l) c.page_of.ensures in
    omega (arith, length-take page_bytes (drop (page_bytes * c.args.place) c.args.bytes.now))

pub returns-then-place-pages_of-clause-page : goal.returns-then-place-pages_of-clause-page
returns-then-place-pages_of-clause-page c =
    let many = c.pages_of.ensures in
    let past = c.if-place-pages_of.true in
    sym (ap (λ (l : List ℕ). take page_bytes l) (drop_all (page_bytes * c.args.place) c.args.bytes.now (omega arith)))
