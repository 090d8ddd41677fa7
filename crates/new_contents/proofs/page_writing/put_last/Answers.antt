use Rattle.std.proofs.Common.{◌≡◌, ◌∙◌, ℕ, List, [], ◌∷◌, length, ap, subst, arith}
use Rattle.locus_ids.specs.Sizes.{page_bytes}
use Rattle.disk_model.specs.Images.{overwritten, Torn}
use Rattle.disk_model.proofs.Moments.{goes_wider, on_ok}
use Rattle.gate_switch.specs.Switch.{Piece, TornIn}
use Rattle.gate_switch.proofs.Pieces.{torn_alone}
use Rattle.shadow_pages.specs.Working.{padded}
use Rattle.new_contents.proofs.Whole.{alone_within}
use Rattle.new_contents.proofs.page_writing.put_last.Goals as goal

pub write_at-requires : goal.write_at-requires
write_at-requires g c =
    let fits = alone_within (record { at = c.args.at; bytes = padded page_bytes c.args.bytes.now }) (length (g.D.Disk.moment c.args.disk.now).seen) c.requires.within in
    let long = ap (λ (l : List ℕ). length l) c.padded_page.ensures in
    omega arith

pub returns-clause-written : goal.returns-clause-written
returns-clause-written g c =
    let old = (g.D.Disk.moment c.args.disk.now).seen in
    on_ok c.write_at.result _ ((g.D.Disk.moment c.write_at.new.self).seen ≡ overwritten old c.args.at (padded page_bytes c.args.bytes.now))
    (λ e. e ∙ ap (λ (l : List ℕ). overwritten old c.args.at l) c.padded_page.ensures) c.write_at.ensures.written

pub returns-clause-crash : goal.returns-clause-crash
returns-clause-crash g c =
    let piece : Piece = record { at = c.args.at; bytes = padded page_bytes c.args.bytes.now } in
    goes_wider g.D.Disk.moment (Torn c.args.at (length c.padded_page.result)) (TornIn (piece ∷ [])) c.args.disk.now c.write_at.new.self
    (λ x y torn. torn_alone piece x y (subst (λ (l : List ℕ). Torn c.args.at (length l) x y) c.padded_page.ensures torn)) c.write_at.ensures.crash
