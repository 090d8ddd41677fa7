use Rattle.std.proofs.Common.{◌≡◌, ◌∙◌, ap, take, ℕ, length, rules, ◌++◌, ◌∷◌, [], replicate, List}
use Rattle.std.specs.Int.{w16, w32, to_be_bytes}
use Rattle.std.specs.List.{flat_map}
use Rattle.locus_ids.specs.Sizes.{sites_max, slot_pages, content_tables_max}
use Rattle.pack_layout.specs.Layout.{layout, kind_number}
use Rattle.pack_layout.proofs.Body.{fields_are}
use Rattle.pack_layout.proofs.write.write_fields.Goals as goal

pub returns : goal.returns
returns c =
    let s = c.args.slot.now in
    let sites : length c.parts.result ≡ sites_max = search rules in
    let pages : length c.args.slot.now.pages ≡ slot_pages = search rules in
    let tables : length c.args.slot.now.tables ≡ content_tables_max = search rules in
    let all : length c.put_pages-2.new.out ≡ 203 = search rules in
    fields_are c.put.new.out c.put-2.new.out c.put-3.new.out c.put-4.new.out c.put-5.new.out c.put-6.new.out c.put_counters.new.out c.put_pages.new.out c.put_pages-2.new.out
    (c.args.slot.now.turn ∷ kind_number c.args.slot.now.kind ∷ []) (to_be_bytes w16 c.args.slot.now.ino) (to_be_bytes w16 c.args.slot.now.set.0) (to_be_bytes w32 c.args.slot.now.size)
    (c.args.slot.now.stamp.site ∷ []) (to_be_bytes w32 c.args.slot.now.stamp.n) (flat_map (to_be_bytes w32) c.args.slot.now.vector) (flat_map (to_be_bytes w16) c.args.slot.now.pages) (flat_map (to_be_bytes w16) c.args.slot.now.tables) (replicate layout.rest_length 0)
    (length c.parts.result) (length c.args.slot.now.pages) (length c.args.slot.now.tables)
    (rw c.number_of.ensures at c.put.ensures) (rw c.to_be_bytes.ensures at c.put-2.ensures) (rw c.to_be_bytes-2.ensures at c.put-3.ensures) (rw c.to_be_bytes-3.ensures at c.put-4.ensures)
    c.put-5.ensures (rw c.to_be_bytes-4.ensures at c.put-6.ensures) (c.put_counters.ensures ∙ ap (λ (v : List ℕ). take 15 c.put-6.new.out ++ flat_map (to_be_bytes w32) v) c.parts.ensures) sites c.put_pages.ensures pages c.put_pages-2.ensures tables all
