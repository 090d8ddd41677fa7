use Rattle.std.proofs.Common.{◌≡◌, ◌+◌, ◌≤◌, ◌∙◌, ℕ, List, length, refl, sym, ap, subst, arith, [], ◌∷◌, length-append}
use Rattle.std.specs.Prelude.{Ok, Err}
use Rattle.disk_model.specs.declared.disk.DiskFault.{DiskFault}
use Rattle.disk_model.specs.Disk.{Goes}
use Rattle.disk_model.specs.Moments.{TellsMany}
use Rattle.gate_switch.specs.Switch.{Piece}
use Rattle.gate_switch.specs.Switch.{AreWithin, TornIn, written}
use Rattle.disk_model.proofs.Moments.{goes_start, goes_more}
use Rattle.gate_switch.proofs.Pieces.{torn_stays, torn_joins, torn_written, written-append}
use Rattle.disk_model.proofs.Tells.{tells_none, tells_join}
use Rattle.inode_pack.specs.PagePieces.{table_piece, table_pieces, marked_tables}
use Rattle.inode_pack.proofs.Streaming.{tells_short}
use Rattle.inode_pack.proofs.TableStreaming.{marked_between, pieces_all, pieces_same, pieces_next, within_table, torn_table, fewer}
use Rattle.inode_pack.proofs.pieces.write_tables.Goals as goal
use Rattle.inode_pack.proofs.pieces.write_tables.Goals.{then-made-k+in_ok-put_table, else-made-k}

pub loop-k-init : goal.loop-k-init
loop-k-init g c =
    let made = c.args.made.now in
    let disk = c.args.disk.now in
    record {
      seen = refl;
      long = refl;
      goes = goes_start g.D.Disk.moment (TornIn (table_pieces c.args.base made.copy (marked_tables made.tables))) disk (torn_stays (table_pieces c.args.base made.copy (marked_tables made.tables)));
      cause = omega arith;
      tells = tells_none (g.D.Disk.moment disk).passing;
      how = refl;
    }

pub put_table-requires-clause-within : goal.put_table-requires-clause-within
put_table-requires-clause-within g c =
    let made = c.args.made.now in
    let k = c.loop-k.k in
    subst (λ (n : ℕ). AreWithin (table_piece c.args.base made.copy k ∷ []) n) (sym c.loop-k.invariant.long) (within_table c.args.base made.copy made.tables k c.if-made-k.true (omega arith) (length (g.D.Disk.moment c.args.disk.now).seen) c.requires.within)

pub returns-in_err-put_table-clause-crash : goal.returns-in_err-put_table-clause-crash
returns-in_err-put_table-clause-crash g c =
    let M = g.D.Disk.moment in
    let base = c.args.base in
    let made = c.args.made.now in
    let marks = made.tables in
    let k = c.loop-k.k in
    let inv = c.loop-k.invariant in
    let so_far = table_pieces base made.copy (marked_between marks 0 k) in
    let one = table_piece base made.copy k ∷ [] in
    let all = table_pieces base made.copy (marked_tables marks) in
    goes_more M (TornIn one) (TornIn all) c.args.disk.now c.loop-k.disk c.put_table.new.disk (λ a b torn. torn_table base made.copy marks k c.if-made-k.true (omega arith) a b torn) (torn_joins all) inv.goes c.put_table.ensures.crash

pub returns-in_err-put_table-clause-tells : goal.returns-in_err-put_table-clause-tells
returns-in_err-put_table-clause-tells g c =
    let M = g.D.Disk.moment in
    let base = c.args.base in
    let made = c.args.made.now in
    let marks = made.tables in
    let k = c.loop-k.k in
    let inv = c.loop-k.invariant in
    let so_far = table_pieces base made.copy (marked_between marks 0 k) in
    let one = table_piece base made.copy k ∷ [] in
    let all = table_pieces base made.copy (marked_tables marks) in
    let fault = c.in_err-put_table.field-0.0 in
    let tells = tells_join (length so_far) 1 _ _ _ (Err fault) inv.tells c.in_err-put_table.ensures.tells in
    tells_short (length so_far + 1) (length all) _ _ c.from_residual.result fault (fewer base made.copy marks k c.if-made-k.true (omega arith)) c.from_residual.ensures.0 tells

pub loop-k-preserved : goal.loop-k-preserved
loop-k-preserved g c =
    let M = g.D.Disk.moment in
    let base = c.args.base in
    let made = c.args.made.now in
    let marks = made.tables in
    let k = c.loop-k.k in
    let inv = c.loop-k.invariant in
    let so_far = table_pieces base made.copy (marked_between marks 0 k) in
    let one = table_piece base made.copy k ∷ [] in
    let all = table_pieces base made.copy (marked_tables marks) in
    let start = c.args.disk.now in
    let old = (M start).seen in
    let mid = (M c.loop-k.disk).seen in
    elim c.if-made-k.branch [
      | then-made-k+in_ok-put_table w ↦ (
          let is = w.if-made-k.true in
          let within = subst (λ (n : ℕ). AreWithin one n) (sym inv.long) (within_table base made.copy marks k is (omega arith) (length old) c.requires.within) in
          let more = pieces_next base made.copy marks k is in
          let count : length so_far + 1 ≡ length (table_pieces base made.copy (marked_between marks 0 (k + 1))) = sym (ap (λ (l : List Piece). length l) more ∙ length-append so_far one) in
          let seen = w.in_ok-put_table.ensures.written in
          record {
            seen = ap (λ (d : g.row.D.Denot). (M d).seen) w.disk-is ∙ seen ∙ ap (λ (l : List ℕ). written l one) inv.seen ∙ sym (written-append old so_far one) ∙ ap (λ (l : List Piece). written old l) (sym more);
            long = ap (λ (d : g.row.D.Denot). length (M d).seen) w.disk-is ∙ ap length seen ∙ (torn_written one mid within).long ∙ inv.long;
            goes = subst (λ (d : g.row.D.Denot). Goes (TornIn all) (M start) (M d)) (sym w.disk-is)
                (goes_more M (TornIn one) (TornIn all) start c.loop-k.disk w.put_table.new.disk (λ a b torn. torn_table base made.copy marks k is (omega arith) a b torn) (torn_joins all) inv.goes w.put_table.ensures.crash);
            cause = subst (λ (d : g.row.D.Denot). (M start).faults ≤ (M d).faults) (sym w.disk-is) (omega (arith, inv.cause, w.put_table.ensures.cause.later));
            tells = subst (λ (d : g.row.D.Denot). TellsMany {T = Unit {0}} {E = DiskFault} (length (table_pieces base made.copy (marked_between marks 0 (k + 1)))) (M start).passing (M d).passing (Ok tt)) (sym w.disk-is)
                (subst (λ (n : ℕ). TellsMany {T = Unit {0}} {E = DiskFault} n (M start).passing (M w.put_table.new.disk).passing (Ok tt)) count (tells_join (length so_far) 1 _ _ _ (Ok tt) inv.tells w.in_ok-put_table.ensures.tells));
            how = ap (λ (d : g.row.D.Denot). (M d).how) w.disk-is ∙ w.put_table.ensures.how ∙ inv.how;
          }
          )
      | else-made-k w ↦ (
          let same = pieces_same base made.copy marks k w.if-made-k.false in
          record {
            seen = ap (λ (d : g.row.D.Denot). (M d).seen) w.disk-is ∙ inv.seen ∙ ap (λ (l : List Piece). written old l) (sym same);
            long = ap (λ (d : g.row.D.Denot). length (M d).seen) w.disk-is ∙ inv.long;
            goes = subst (λ (d : g.row.D.Denot). Goes (TornIn all) (M start) (M d)) (sym w.disk-is) inv.goes;
            cause = subst (λ (d : g.row.D.Denot). (M start).faults ≤ (M d).faults) (sym w.disk-is) inv.cause;
            tells = subst (λ (d : g.row.D.Denot). TellsMany {T = Unit {0}} {E = DiskFault} (length (table_pieces base made.copy (marked_between marks 0 (k + 1)))) (M start).passing (M d).passing (Ok tt)) (sym w.disk-is)
                (subst (λ (l : List Piece). TellsMany {T = Unit {0}} {E = DiskFault} (length l) (M start).passing (M c.loop-k.disk).passing (Ok tt)) (sym same) inv.tells);
            how = ap (λ (d : g.row.D.Denot). (M d).how) w.disk-is ∙ inv.how;
          }
          )
    ]

pub returns-clause-written : goal.returns-clause-written
returns-clause-written g c =
    let made = c.args.made.now in
    c.loop-k.invariant.seen ∙ ap (λ (l : List Piece). written (g.D.Disk.moment c.args.disk.now).seen l) (pieces_all c.args.base made.copy made.tables c.loop-k.k (omega arith))

pub returns-clause-tells : goal.returns-clause-tells
returns-clause-tells g c =
    let made = c.args.made.now in
    subst (λ (l : List Piece). TellsMany {T = Unit {0}} {E = DiskFault} (length l) (g.D.Disk.moment c.args.disk.now).passing (g.D.Disk.moment c.loop-k.disk).passing (Ok tt)) (pieces_all c.args.base made.copy made.tables c.loop-k.k (omega arith)) c.loop-k.invariant.tells
