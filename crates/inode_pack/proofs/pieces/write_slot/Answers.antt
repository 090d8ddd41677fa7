use Rattle.std.proofs.Common.{sym, ◌≡◌, ◌∙◌, ◌+◌, ℕ, List, [], ◌∷◌, ◌++◌, length, replicate, ap, subst, arith}
use Rattle.disk_model.specs.Images.{overwritten}
use Rattle.pack_layout.specs.Layout.{slot_at}
use Rattle.gate_switch.specs.Switch.{written}
use Rattle.disk_model.proofs.Moments.{on_ok, goes_wider}
use Rattle.disk_model.specs.Images.{Torn}
use Rattle.gate_switch.specs.Switch.{TornIn}
use Rattle.gate_switch.proofs.Pieces.{torn_alone}
use Rattle.inode_pack.specs.PagePieces.{body_piece}
use Rattle.new_contents.proofs.Whole.{alone_within}
use Rattle.inode_pack.proofs.pieces.write_slot.Goals as goal

pub write_at-requires : goal.write_at-requires
write_at-requires g c =
    let fits = alone_within (body_piece c.args.base c.args.made.now) (length (g.D.Disk.moment c.args.disk.now).seen) c.requires.within in
    let long = ap length c.write_fields.ensures in
    let made = c.args.made.now in
    let place = c.slot_at.ensures ∙ ap (λ (n : ℕ). slot_at c.args.base n made.half) (sym c.requires.own) in
    omega (arith, fits, long, place)

pub returns-clause-written : goal.returns-clause-written
returns-clause-written g c =
    let old = (g.D.Disk.moment c.args.disk.now).seen in
    let made = c.args.made.now in
    let place = slot_at c.args.base made.slot.ino made.half in
    on_ok c.write_at.result _ ((g.D.Disk.moment c.write_at.new.self).seen ≡ written old (body_piece c.args.base made ∷ []))
    (λ e. e ∙ ap (λ (n : ℕ). overwritten old (n + 1) (c.write_fields.new.out ++ replicate 308 0)) (c.slot_at.ensures ∙ ap (λ (n : ℕ). slot_at c.args.base n made.half) (sym c.requires.own)) ∙ ap (λ (l : List ℕ). overwritten old (place + 1) l) c.write_fields.ensures)
    c.write_at.ensures.written

pub returns-clause-crash : goal.returns-clause-crash
returns-clause-crash g c =
    let made = c.args.made.now in
    let piece = body_piece c.args.base made in
    let bytes = c.write_fields.new.out ++ replicate 308 0 in
    goes_wider g.D.Disk.moment (Torn (c.slot_at.result + 1) (length bytes)) (TornIn (piece ∷ [])) c.args.disk.now c.write_at.new.self
    (λ a b torn. torn_alone piece a b (subst (λ (l : List ℕ). Torn piece.at (length l) a b) c.write_fields.ensures (subst (λ (n : ℕ). Torn (n + 1) (length bytes) a b) (c.slot_at.ensures ∙ ap (λ (n : ℕ). slot_at c.args.base n made.half) (sym c.requires.own)) torn)))
    c.write_at.ensures.crash
