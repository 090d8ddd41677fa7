use Rattle.std.proofs.Common.{◌≡◌, ℕ, List, [], ◌∷◌, ◌++◌, length, None, Some, refl, sym, ap, ◌∙◌}
use Rattle.std.specs.List.{flat_map}
use Rattle.locus_ids.specs.declared.ids.Stamp.{Stamp}
use Rattle.field_codec.proofs.Loop.{spelled_alike}
use Rattle.wire_fields.specs.Parts.{stamps_after, stamps, ascending_stamps}
use Rattle.wire_parts.proofs.Writing.{behind, respelled}
use Rattle.wire_parts.proofs.stamps.put_ascending_stamps.Goals as goal

stamps_spelled : (xs : List Stamp) → length xs ∷ flat_map stamps.spell xs ≡ ascending_stamps.spell xs
stamps_spelled xs = ap (λ (t : List ℕ). length xs ∷ t) (sym (spelled_alike stamps_after (λ _ stamp. Some stamp) stamps.spell (λ _ _. refl) None xs))

pub returns : goal.returns
returns c =
    let xs = c.args.list.now in
    respelled c.put_stamps.result c.args.out.now c.put_stamps.new.out (length xs ∷ flat_map stamps.spell xs) (ascending_stamps.spell xs) (stamps_spelled xs)
    (behind c.put_stamps.result c.args.out.now c.put_u8.new.out c.put_stamps.new.out (length xs ∷ []) (flat_map stamps.spell xs) (c.in_ok-put_u8.ensures.ok ∙ ap (λ (n : ℕ). c.args.out.now ++ n ∷ []) c.len.ensures)
    (rw c.as_slice.ensures at c.put_stamps.ensures))
