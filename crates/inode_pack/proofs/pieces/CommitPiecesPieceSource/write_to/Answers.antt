use Rattle.std.proofs.Common.{◌≡◌, ◌∙◌, ◌+◌, ℕ, List, [], ◌∷◌, ◌++◌, length, sym, ap, subst, arith, length-append}
use Rattle.std.specs.Prelude.{Ok}
use Rattle.file_content.specs.Pages.{pages_of}
use Rattle.disk_model.specs.Moments.{TellsMany}
use Rattle.gate_switch.specs.Switch.{AreWithin, TornIn, written}
use Rattle.disk_model.proofs.Moments.{goes_more, on_ok, goes_wider}
use Rattle.gate_switch.proofs.Pieces.{torn_joins, written-append}
use Rattle.disk_model.proofs.Tells.{tells_join}
use Rattle.pack_slots.specs.Copies.{numbers_in}
use Rattle.inode_pack.specs.PagePieces.{page_pieces, table_pieces, marked_tables, body_piece}
use Rattle.inode_pack.proofs.Streaming.{torn_front, torn_back, within_front, within_back}
use Rattle.inode_pack.proofs.pieces.CommitPiecesPieceSource.write_to.Goals as goal

pub write_pages-requires-clause-within : goal.write_pages-requires-clause-within
write_pages-requires-clause-within g c =
    let M = g.D.Disk.moment in
    let p = c.args.self.now in
    let w = (g.C.NewContent.working p.content.now) in
    let pages = page_pieces p.base (numbers_in p.made.now.copy) w (pages_of w.size) in
    let tables = table_pieces p.base p.made.now.copy (marked_tables p.made.now.tables) in
    let body = body_piece p.base p.made.now.copy ∷ [] in
    let n = length (M c.args.disk.now).seen in
    within_front pages tables n (within_front (pages ++ tables) body n c.requires)

pub returns-in_err-write_pages-clause-crash : goal.returns-in_err-write_pages-clause-crash
returns-in_err-write_pages-clause-crash g c =
    let M = g.D.Disk.moment in
    let p = c.args.self.now in
    let w = (g.C.NewContent.working p.content.now) in
    let pages = page_pieces p.base (numbers_in p.made.now.copy) w (pages_of w.size) in
    let tables = table_pieces p.base p.made.now.copy (marked_tables p.made.now.tables) in
    let body = body_piece p.base p.made.now.copy ∷ [] in
    (goes_wider M (TornIn pages) (TornIn ((pages ++ tables) ++ body)) c.args.disk.now c.write_pages.new.disk (λ a b torn. torn_front (pages ++ tables) body a b (torn_front pages tables a b torn)) c.write_pages.ensures.crash)

pub write_tables-requires-clause-within : goal.write_tables-requires-clause-within
write_tables-requires-clause-within g c =
    let M = g.D.Disk.moment in
    let p = c.args.self.now in
    let w = (g.C.NewContent.working p.content.now) in
    let pages = page_pieces p.base (numbers_in p.made.now.copy) w (pages_of w.size) in
    let tables = table_pieces p.base p.made.now.copy (marked_tables p.made.now.tables) in
    let body = body_piece p.base p.made.now.copy ∷ [] in
    let n = length (M c.args.disk.now).seen in
    subst (λ (m : ℕ). AreWithin tables m) (sym c.in_ok-write_pages.ensures.long) (within_back pages tables n (within_front (pages ++ tables) body n c.requires))

pub returns-in_err-write_tables-clause-crash : goal.returns-in_err-write_tables-clause-crash
returns-in_err-write_tables-clause-crash g c =
    let M = g.D.Disk.moment in
    let p = c.args.self.now in
    let w = (g.C.NewContent.working p.content.now) in
    let pages = page_pieces p.base (numbers_in p.made.now.copy) w (pages_of w.size) in
    let tables = table_pieces p.base p.made.now.copy (marked_tables p.made.now.tables) in
    let body = body_piece p.base p.made.now.copy ∷ [] in
    (goes_more M (TornIn tables) (TornIn ((pages ++ tables) ++ body)) c.args.disk.now c.write_pages.new.disk c.write_tables.new.disk (λ a b torn. torn_front (pages ++ tables) body a b (torn_back pages tables a b torn)) (torn_joins ((pages ++ tables) ++ body))
    (goes_wider M (TornIn pages) (TornIn ((pages ++ tables) ++ body)) c.args.disk.now c.write_pages.new.disk (λ a b torn. torn_front (pages ++ tables) body a b (torn_front pages tables a b torn)) c.write_pages.ensures.crash) c.write_tables.ensures.crash)

pub write_slot-requires-clause-within : goal.write_slot-requires-clause-within
write_slot-requires-clause-within g c =
    let M = g.D.Disk.moment in
    let p = c.args.self.now in
    let w = (g.C.NewContent.working p.content.now) in
    let pages = page_pieces p.base (numbers_in p.made.now.copy) w (pages_of w.size) in
    let tables = table_pieces p.base p.made.now.copy (marked_tables p.made.now.tables) in
    let body = body_piece p.base p.made.now.copy ∷ [] in
    subst (λ (m : ℕ). AreWithin body m) (sym (c.in_ok-write_tables.ensures.long ∙ c.in_ok-write_pages.ensures.long)) (within_back (pages ++ tables) body (length (M c.args.disk.now).seen) c.requires)

pub returns-clause-written : goal.returns-clause-written
returns-clause-written g c =
    let M = g.D.Disk.moment in
    let p = c.args.self.now in
    let w = (g.C.NewContent.working p.content.now) in
    let pages = page_pieces p.base (numbers_in p.made.now.copy) w (pages_of w.size) in
    let tables = table_pieces p.base p.made.now.copy (marked_tables p.made.now.tables) in
    let body = body_piece p.base p.made.now.copy ∷ [] in
    let old = (M c.args.disk.now).seen in
    let new = (M c.write_slot.new.disk).seen in
    on_ok c.write_slot.result _ (new ≡ written old ((pages ++ tables) ++ body))
    (λ e.
    e
    ∙ ap (λ (l : List ℕ). written l body) (c.in_ok-write_tables.ensures.written ∙ ap (λ (l : List ℕ). written l tables) c.in_ok-write_pages.ensures.written ∙ sym (written-append old pages tables))
    ∙ sym (written-append old (pages ++ tables) body)) c.write_slot.ensures.written

pub returns-clause-crash : goal.returns-clause-crash
returns-clause-crash g c =
    let M = g.D.Disk.moment in
    let p = c.args.self.now in
    let w = (g.C.NewContent.working p.content.now) in
    let pages = page_pieces p.base (numbers_in p.made.now.copy) w (pages_of w.size) in
    let tables = table_pieces p.base p.made.now.copy (marked_tables p.made.now.tables) in
    let body = body_piece p.base p.made.now.copy ∷ [] in
    goes_more M (TornIn body) (TornIn ((pages ++ tables) ++ body)) c.args.disk.now c.write_tables.new.disk c.write_slot.new.disk (torn_back (pages ++ tables) body) (torn_joins ((pages ++ tables) ++ body))
    (goes_more M (TornIn tables) (TornIn ((pages ++ tables) ++ body)) c.args.disk.now c.write_pages.new.disk c.write_tables.new.disk (λ a b torn. torn_front (pages ++ tables) body a b (torn_back pages tables a b torn)) (torn_joins ((pages ++ tables) ++ body))
    (goes_wider M (TornIn pages) (TornIn ((pages ++ tables) ++ body)) c.args.disk.now c.write_pages.new.disk (λ a b torn. torn_front (pages ++ tables) body a b (torn_front pages tables a b torn)) c.write_pages.ensures.crash) c.write_tables.ensures.crash) c.write_slot.ensures.crash

pub returns-clause-tells : goal.returns-clause-tells
returns-clause-tells g c =
    let M = g.D.Disk.moment in
    let p = c.args.self.now in
    let w = (g.C.NewContent.working p.content.now) in
    let pages = page_pieces p.base (numbers_in p.made.now.copy) w (pages_of w.size) in
    let tables = table_pieces p.base p.made.now.copy (marked_tables p.made.now.tables) in
    let body = body_piece p.base p.made.now.copy ∷ [] in
    let count : length pages + length tables + 1 ≡ length ((pages ++ tables) ++ body) = omega (arith, length-append (pages ++ tables) body, length-append pages tables) in
    subst (λ (k : ℕ). TellsMany k (M c.args.disk.now).passing (M c.write_slot.new.disk).passing c.write_slot.result) count
    (tells_join (length pages + length tables) 1 _ _ _ c.write_slot.result (tells_join (length pages) (length tables) _ _ _ (Ok tt) c.in_ok-write_pages.ensures.tells c.in_ok-write_tables.ensures.tells) c.write_slot.ensures.tells)
