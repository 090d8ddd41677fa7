use Rattle.std.proofs.Common.{◌≡◌, ◌∙◌, ◌+◌, ℕ, List, [], ◌∷◌, length, take, drop, subst, ap, arith, length-drop}
use Rattle.std.proofs.lemmas.List.{take_all}
use Rattle.disk_model.specs.Images.{overwritten, Torn}
use Rattle.disk_model.proofs.Moments.{goes_wider, on_ok}
use Rattle.disk_model.proofs.Tells.{tells_one}
use Rattle.gate_switch.specs.Switch.{TornIn, written}
use Rattle.gate_switch.proofs.Pieces.{torn_alone}
use Rattle.site_label.specs.Label.{half_at, half_bytes}
use Rattle.site_label.specs.Raising.{body_piece}
use Rattle.site_label.proofs.Halves.{length-half}
use Rattle.site_label.proofs.body.HalfBodyPieceSource.write_to.Goals as goal

-- what is written is the half but for its gate
given : (bytes : List ℕ) (site boot : ℕ) → bytes ≡ half_bytes site boot → take 511 (drop 1 bytes) ≡ drop 1 (half_bytes site boot)
given bytes site boot is =
    let long = length-half site boot in
    ap (λ (l : List ℕ). take 511 (drop 1 l)) is ∙ take_all 511 (drop 1 (half_bytes site boot)) (omega (arith, length-drop 1 (half_bytes site boot)))

pub write_at-requires : goal.write_at-requires
write_at-requires g c =
    let b = c.args.self.now in
    let fits = c.requires 0 (body_piece b.half b.site b.boot) (omega arith) in
    let same = ap (λ (l : List ℕ). length l) (given c.half_bytes-bytes.result b.site b.boot c.half_bytes-bytes.ensures) in
    let place = c.at.ensures in
    omega arith

pub returns-clause-written : goal.returns-clause-written
returns-clause-written g c =
    let b = c.args.self.now in
    let old = (g.D.Disk.moment c.args.disk.now).seen in
    on_ok c.write_at.result _ ((g.D.Disk.moment c.write_at.new.self).seen ≡ written old (body_piece b.half b.site b.boot ∷ []))
    (λ e. e ∙ ap (λ (n : ℕ). overwritten old (n + 1) (take 511 (drop 1 c.half_bytes-bytes.result))) c.at.ensures
    ∙ ap (λ (l : List ℕ). overwritten old (half_at b.half + 1) l) (given c.half_bytes-bytes.result b.site b.boot c.half_bytes-bytes.ensures))
    c.write_at.ensures.written

pub returns-clause-crash : goal.returns-clause-crash
returns-clause-crash g c =
    let b = c.args.self.now in
    let piece = body_piece b.half b.site b.boot in
    let bytes = take 511 (drop 1 c.half_bytes-bytes.result) in
    let same = given c.half_bytes-bytes.result b.site b.boot c.half_bytes-bytes.ensures in
    goes_wider g.D.Disk.moment (Torn (c.at.result + 1) (length bytes)) (TornIn (piece ∷ [])) c.args.disk.now c.write_at.new.self
    (λ x y torn. torn_alone piece x y (subst (λ (n : ℕ). Torn (n + 1) (length piece.bytes) x y) c.at.ensures (subst (λ (l : List ℕ). Torn (c.at.result + 1) (length l) x y) same torn)))
    c.write_at.ensures.crash

pub returns-clause-tells : goal.returns-clause-tells
returns-clause-tells g c = tells_one (g.D.Disk.moment c.args.disk.now).passing (g.D.Disk.moment c.write_at.new.self).passing c.write_at.result c.write_at.ensures.tells
