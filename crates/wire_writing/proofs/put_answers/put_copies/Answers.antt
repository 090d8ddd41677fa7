use Rattle.std.proofs.Common.{◌≡◌, ℕ, List, ◌+◌, ◌++◌, length, refl, sym, ap, ◌∙◌}
use Rattle.std.specs.Int.{w16, to_be_bytes}
use Rattle.std.specs.List.{flat_map}
use Rattle.field_codec.proofs.Loop.{spelled_alike}
use Rattle.wire_parts.proofs.Writing.{behind, respelled}
use Rattle.wire_messages.specs.declared.body.ReportedCopy.{ReportedCopy}
use Rattle.wire_messages.specs.Answers.{copies_from, reported_copies}
use Rattle.wire_writing.proofs.put_answers.put_copies.Goals as goal

copies_spelled : (xs : List ReportedCopy) → to_be_bytes w16 (length xs) ++ flat_map (copies_from 1).spell xs ≡ reported_copies.spell xs
copies_spelled xs = ap (λ (t : List ℕ). to_be_bytes w16 (length xs) ++ t) (sym (spelled_alike copies_from (λ _ copy. copy.ino + 1) (copies_from 1).spell (λ _ _. refl) 1 xs))

pub returns : goal.returns
returns c =
    let xs = c.args.copies.now in
    respelled c.put_each_copy.result c.args.out.now c.put_each_copy.new.out (to_be_bytes w16 (length xs) ++ flat_map (copies_from 1).spell xs) (reported_copies.spell xs) (copies_spelled xs)
    (behind c.put_each_copy.result c.args.out.now c.put_u16.new.out c.put_each_copy.new.out (to_be_bytes w16 (length xs)) (flat_map (copies_from 1).spell xs) (c.in_ok-put_u16.ensures.ok ∙ ap (λ (n : ℕ). c.args.out.now ++ to_be_bytes w16 n) c.len.ensures)
    (rw c.as_slice.ensures at c.put_each_copy.ensures))
