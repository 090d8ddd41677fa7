use Rattle.std.proofs.Common.{◌∙◌, ap, arith}
use Rattle.keyed_tables.proofs.Searched.{scan_row, scanned_put, scanned_between, scanned_all}
use Rattle.keyed_tables.proofs.short.place_first.Goals as goal

pub loop-i-init : goal.loop-i-init
loop-i-init g c = λ j a e l. absurd (omega arith)

pub loop-i-preserved : goal.loop-i-preserved
loop-i-preserved g c = scan_row g.T.Keyed.key c.args.key c.args.rows.now c.loop-i.i _ c.index-rows-i.result c.loop-i.invariant (omega arith) (c.key-here.ensures ∙ ap g.T.Keyed.key c.index-rows-i.is) (omega arith)

pub returns-then-here-key-clause-with : goal.returns-then-here-key-clause-with
returns-then-here-key-clause-with g c x same = scanned_put g.T.Keyed.key c.args.key c.args.rows.now c.loop-i.i _ c.index-rows-i.result x c.loop-i.invariant (omega arith) (c.key-here.ensures ∙ ap g.T.Keyed.key c.index-rows-i.is) c.if-here-key.true same

pub returns-then-key-here-clause-with : goal.returns-then-key-here-clause-with
returns-then-key-here-clause-with g c x same = scanned_between g.T.Keyed.key c.args.key c.args.rows.now c.loop-i.i _ c.index-rows-i.result x c.loop-i.invariant (omega arith) (c.key-here.ensures ∙ ap g.T.Keyed.key c.index-rows-i.is) c.if-key-here.true same

pub returns-clause-with : goal.returns-clause-with
returns-clause-with g c x same = scanned_all g.T.Keyed.key c.args.key c.args.rows.now c.loop-i.i x c.loop-i.invariant (omega arith) same
