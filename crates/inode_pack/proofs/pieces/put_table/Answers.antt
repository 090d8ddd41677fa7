use Rattle.std.proofs.Common.{◌≡◌, ◌∙◌, ◌+◌, ◌-◌, ◌*◌, ℕ, List, [], ◌∷◌, length, take, drop, ap, subst, arith, length-take, length-drop}
use Rattle.locus_ids.specs.Sizes.{slot_pages, table_pages}
use Rattle.disk_model.specs.Images.{overwritten, Torn}
use Rattle.disk_model.proofs.Moments.{on_ok, goes_wider}
use Rattle.disk_model.proofs.Tells.{tells_one}
use Rattle.pack_layout.specs.Layout.{table_bytes, numbers_under}
use Rattle.gate_switch.specs.Switch.{TornIn, written}
use Rattle.gate_switch.proofs.Pieces.{torn_alone}
use Rattle.pack_slots.specs.Copies.{numbers_in}
use Rattle.inode_pack.specs.PagePieces.{table_piece}
use Rattle.new_contents.proofs.Whole.{alone_within}
use Rattle.inode_pack.proofs.pieces.put_table.Goals as goal

-- the numbers of a slice are those under the table
slice_under : (numbers all : List ℕ) (k n : ℕ) → n ≡ table_pages → numbers ≡ all → take n (drop (slot_pages + table_pages * k) numbers) ≡ numbers_under all k
slice_under numbers all k n e same = (λ i. take (e i) (drop (slot_pages + table_pages * k) (same i)))

pub write_table-requires : goal.write_table-requires
write_table-requires g c = simp (length-take, length-drop) (omega arith)

pub write_at-requires : goal.write_at-requires
write_at-requires g c =
    let made = c.args.made.now in
    let k = c.args.k in
    let fits = alone_within (table_piece c.args.base made.copy k) (length (g.D.Disk.moment c.args.disk.now).seen) c.requires.within in
    let bytes = c.write_table.ensures ∙ ap table_bytes (slice_under c.numbers-numbers.result (numbers_in made.copy) k (slot_pages + table_pages * k + table_pages - (slot_pages + table_pages * k)) (omega arith) c.numbers-numbers.ensures) in
    omega (arith, fits, ap length bytes, c.table_at.ensures)

pub returns-clause-written : goal.returns-clause-written
returns-clause-written g c =
    let old = (g.D.Disk.moment c.args.disk.now).seen in
    let made = c.args.made.now in
    let k = c.args.k in
    let piece = table_piece c.args.base made.copy k in
    let bytes = c.write_table.ensures ∙ ap table_bytes (slice_under c.numbers-numbers.result (numbers_in made.copy) k (slot_pages + table_pages * k + table_pages - (slot_pages + table_pages * k)) (omega arith) c.numbers-numbers.ensures) in
    on_ok c.write_at.result _ ((g.D.Disk.moment c.write_at.new.self).seen ≡ written old (piece ∷ []))
    (λ e. e ∙ ap (λ (n : ℕ). overwritten old n c.write_table.new.out) c.table_at.ensures ∙ ap (λ (l : List ℕ). overwritten old piece.at l) bytes)
    c.write_at.ensures.written

pub returns-clause-crash : goal.returns-clause-crash
returns-clause-crash g c =
    let made = c.args.made.now in
    let k = c.args.k in
    let piece = table_piece c.args.base made.copy k in
    let out = c.write_table.new.out in
    let bytes = c.write_table.ensures ∙ ap table_bytes (slice_under c.numbers-numbers.result (numbers_in made.copy) k (slot_pages + table_pages * k + table_pages - (slot_pages + table_pages * k)) (omega arith) c.numbers-numbers.ensures) in
    goes_wider g.D.Disk.moment (Torn c.table_at.result (length out)) (TornIn (piece ∷ [])) c.args.disk.now c.write_at.new.self
    (λ a b torn. torn_alone piece a b (subst (λ (l : List ℕ). Torn piece.at (length l) a b) bytes (subst (λ (n : ℕ). Torn n (length out) a b) c.table_at.ensures torn)))
    c.write_at.ensures.crash

pub returns-clause-tells : goal.returns-clause-tells
returns-clause-tells g c = tells_one (g.D.Disk.moment c.args.disk.now).passing (g.D.Disk.moment c.write_at.new.self).passing c.write_at.result c.write_at.ensures.tells
