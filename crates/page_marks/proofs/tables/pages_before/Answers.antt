use Rattle.std.proofs.Common.{◌∙◌, sym, ap, arith, ℕ, List, length}
use Rattle.page_marks.proofs.Reported.{size_reported, none_reported}
use Rattle.page_marks.proofs.tables.pages_before.Goals as goal

pub returns-in-Some : goal.returns-in-Some
returns-in-Some c held is =
    let size = size_reported c.in-Some.copy held (sym c.in-Some.is ∙ is) in
    let pages = c.div_ceil.ensures in
    omega arith

pub returns-in-None : goal.returns-in-None
returns-in-None c held is = let none = ap (λ (l : List ℕ). length l) (none_reported held (sym c.in-None.is ∙ is)) in omega arith
