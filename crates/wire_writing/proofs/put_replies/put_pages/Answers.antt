use Rattle.std.proofs.Common.{◌≡◌, ℕ, List, ◌+◌, ◌++◌, length, nat_le, refl, sym, ap, ◌∙◌}
use Rattle.std.specs.Int.{w16, to_be_bytes}
use Rattle.std.specs.List.{flat_map}
use Rattle.field_codec.specs.Codec.{u16, within}
use Rattle.field_codec.proofs.Loop.{spelled_alike}
use Rattle.wire_parts.proofs.Writing.{behind, respelled}
use Rattle.wire_messages.specs.Bodies.{page_numbers}
use Rattle.wire_writing.proofs.put_replies.put_pages.Goals as goal

pages_spelled : (xs : List ℕ) → to_be_bytes w16 (length xs) ++ flat_map u16.spell xs ≡ page_numbers.spell xs
pages_spelled xs = ap (λ (t : List ℕ). to_be_bytes w16 (length xs) ++ t) (sym (spelled_alike (λ floor. within (λ page. nat_le floor page) u16) (λ _ page. page + 1) u16.spell (λ _ _. refl) 0 xs))

pub returns : goal.returns
returns c =
    let xs = c.args.pages.now in
    respelled c.put_each_page.result c.args.out.now c.put_each_page.new.out (to_be_bytes w16 (length xs) ++ flat_map u16.spell xs) (page_numbers.spell xs) (pages_spelled xs)
    (behind c.put_each_page.result c.args.out.now c.put_u16.new.out c.put_each_page.new.out (to_be_bytes w16 (length xs)) (flat_map u16.spell xs) (c.in_ok-put_u16.ensures.ok ∙ ap (λ (n : ℕ). c.args.out.now ++ to_be_bytes w16 n) c.len.ensures)
    (rw c.as_slice.ensures at c.put_each_page.ensures))
