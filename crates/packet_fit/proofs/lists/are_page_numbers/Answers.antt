use Rattle.std.proofs.Common.{arith}
use Rattle.packet_fit.proofs.lists.are_page_numbers.Goals as goal

pub returns-then-len-lt65536 : goal.returns-then-len-lt65536
returns-then-len-lt65536 c =
    let k = rw c.as_slice.ensures at c.are_pages_from.ensures in
    (λ fits. (omega (arith, c.if-len-lt65536.true, c.len.ensures), k.0 fits), λ h. k.1 h.1)
