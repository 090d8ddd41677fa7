use Rattle.std.proofs.Common.{◌≡◌, List, ℕ, [], ◌∷◌, length, Some, subst, sym}
use Rattle.std.specs.Prelude.{OnOk}
use Rattle.disk_model.specs.Disk.{Goes}
use Rattle.disk_model.specs.Images.{Torn}
use Rattle.disk_model.proofs.Moments.{goes_wider}
use Rattle.disk_model.proofs.Tells.{tells_one}
use Rattle.gate_switch.specs.Switch.{Piece, AreWithin, TornIn, written}
use Rattle.gate_switch.proofs.Pieces.{torn_alone}
use Rattle.new_contents.specs.Changed.{piece_at}
use Rattle.new_contents.proofs.Whole.{alone_within, padded_whole}
use Rattle.new_contents.proofs.page_writing.put_padded.Goals as goal

pub write_at-requires : goal.write_at-requires
write_at-requires g c =
    let is = padded_whole c.args.bytes.now c.if-bytes-lt-PAGE_BYTES.false in
    let n = length (g.D.Disk.moment c.args.disk.now).seen in
    alone_within (record { at = c.args.at; bytes = c.args.bytes.now }) n (subst (λ (l : List ℕ). AreWithin (piece_at c.args.at (Some l)) n) is c.requires.within)

pub returns-clause-written : goal.returns-clause-written
returns-clause-written g c =
    let is = padded_whole c.args.bytes.now c.if-bytes-lt-PAGE_BYTES.false in
    subst (λ (l : List ℕ). OnOk c.write_at.result ((g.D.Disk.moment c.write_at.new.self).seen ≡ written (g.D.Disk.moment c.args.disk.now).seen (piece_at c.args.at (Some l)))) (sym is) c.write_at.ensures.written

pub returns-clause-crash : goal.returns-clause-crash
returns-clause-crash g c =
    let is = padded_whole c.args.bytes.now c.if-bytes-lt-PAGE_BYTES.false in
    let piece : Piece = record { at = c.args.at; bytes = c.args.bytes.now } in
    subst (λ (l : List ℕ). Goes (TornIn (piece_at c.args.at (Some l))) (g.D.Disk.moment c.args.disk.now) (g.D.Disk.moment c.write_at.new.self)) (sym is)
    (goes_wider g.D.Disk.moment (Torn c.args.at (length piece.bytes)) (TornIn (piece ∷ [])) c.args.disk.now c.write_at.new.self (torn_alone piece) c.write_at.ensures.crash)

pub returns-clause-tells : goal.returns-clause-tells
returns-clause-tells g c = tells_one (g.D.Disk.moment c.args.disk.now).passing (g.D.Disk.moment c.write_at.new.self).passing c.write_at.result c.write_at.ensures.tells
