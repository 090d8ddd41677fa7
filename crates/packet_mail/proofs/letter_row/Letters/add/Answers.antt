use Rattle.std.proofs.Common.{List, ℕ, [], ◌∷◌, ◌++◌, length, sym, ap, ◌∙◌}
use Rattle.wire_messages.specs.Packets.{packet_bytes}
use Rattle.packet_mail.proofs.Spans.{add_keeps, add_gives, add_in_row, taken_back, kept_row}
use Rattle.packet_mail.proofs.letter_row.Letters.add.Goals as goal

pub invariant_of-self-in_err-note_place : goal.invariant_of-self-in_err-note_place
invariant_of-self-in_err-note_place c =
    let row = c.self.inside.row in
    kept_row row c.note_place.new.row c.self.inside.places.items _ (taken_back row c.put_packet.new.out c.note_place.new.row (packet_bytes c.args.packet.now) _ c.len-start.ensures c.in_ok-put_packet.ensures.ok c.in_err-note_place.ensures.row_back) c.in_err-note_place.ensures.places_kept c.self.invariant

pub invariant_of-self-2 : goal.invariant_of-self-2
invariant_of-self-2 c =
    let row = c.self.inside.row in
    let longer = c.in_ok-note_place.ensures.row ∙ c.in_ok-put_packet.ensures.ok in
    let end = sym (ap (λ (bytes : List ℕ). length bytes) c.in_ok-note_place.ensures.row) in (
      add_keeps row c.note_place.new.row (packet_bytes c.args.packet.now) c.self.inside.places.items _ _ _ c.len-start.ensures longer end c.in_ok-note_place.ensures.places c.self.invariant.0,
      add_in_row row c.note_place.new.row (packet_bytes c.args.packet.now) c.self.inside.places.items _ _ _ c.len-start.ensures longer end c.in_ok-note_place.ensures.places c.self.invariant.0 c.self.invariant.1,
    )

pub returns : goal.returns
returns c =
    let longer = c.in_ok-note_place.ensures.row ∙ c.in_ok-put_packet.ensures.ok in
    let end = sym (ap (λ (bytes : List ℕ). length bytes) c.in_ok-note_place.ensures.row) in
    add_gives c.self.inside.row c.note_place.new.row (packet_bytes c.args.packet.now) c.self.inside.places.items _ _ _ c.len-start.ensures longer end c.in_ok-note_place.ensures.places c.self.invariant.0 ∙ ap (λ ls. ls ++ packet_bytes c.args.packet.now ∷ []) c.self.view_is
