use Rattle.std.proofs.Common.{◌+◌, ◌-◌, ◌/◌, ◌∙◌, ap, arith}
use Rattle.keyed_tables.proofs.Searched.{up, down, found_row, found_put, gap_row, gap_put, found_without, gap_without}
use Rattle.keyed_tables.proofs.rows.place_in.Goals as goal

pub loop-low-preserved-then-here-key : goal.loop-low-preserved-then-here-key
loop-low-preserved-then-here-key g c =
    up g.T.Keyed.key c.args.key c.args.rows.now c.loop-low.low c.loop-low.high (c.loop-low.low + (c.loop-low.high - c.loop-low.low) / 2) _ c.index-rows-mid.result c.requires.rising c.loop-low.invariant (omega arith) (c.key-here.ensures ∙ ap g.T.Keyed.key c.index-rows-mid.is) c.if-here-key.true

pub loop-low-preserved : goal.loop-low-preserved
loop-low-preserved g c =
    down g.T.Keyed.key c.args.key c.args.rows.now c.loop-low.low c.loop-low.high (c.loop-low.low + (c.loop-low.high - c.loop-low.low) / 2) _ c.index-rows-mid.result c.requires.rising c.loop-low.invariant (omega arith) (omega arith) (c.key-here.ensures ∙ ap g.T.Keyed.key c.index-rows-mid.is) (omega arith)

pub returns-then-here-key-2-clause-row : goal.returns-then-here-key-2-clause-row
returns-then-here-key-2-clause-row g c =
    found_row g.T.Keyed.key c.args.key c.args.rows.now c.loop-low.low c.loop-low.high (c.loop-low.low + (c.loop-low.high - c.loop-low.low) / 2) _ c.index-rows-mid.result c.requires.rising c.loop-low.invariant (omega arith) (c.key-here.ensures ∙ ap g.T.Keyed.key c.index-rows-mid.is) c.if-here-key-2.true

pub returns-then-here-key-2-clause-with : goal.returns-then-here-key-2-clause-with
returns-then-here-key-2-clause-with g c x same =
    found_put g.T.Keyed.key c.args.key c.args.rows.now c.loop-low.low c.loop-low.high (c.loop-low.low + (c.loop-low.high - c.loop-low.low) / 2) _ c.index-rows-mid.result x c.requires.rising c.loop-low.invariant (omega arith) (c.key-here.ensures ∙ ap g.T.Keyed.key c.index-rows-mid.is) c.if-here-key-2.true same

pub returns-clause-row : goal.returns-clause-row
returns-clause-row g c = gap_row g.T.Keyed.key c.args.key c.args.rows.now c.loop-low.low c.loop-low.high c.loop-low.invariant c.loop-low-test.false

pub returns-clause-with : goal.returns-clause-with
returns-clause-with g c x same = gap_put g.T.Keyed.key c.args.key c.args.rows.now c.loop-low.low c.loop-low.high x c.loop-low.invariant c.loop-low-test.false same

pub returns-then-here-key-2-clause-without : goal.returns-then-here-key-2-clause-without
returns-then-here-key-2-clause-without g c =
    found_without g.T.Keyed.key c.args.key c.args.rows.now c.loop-low.low c.loop-low.high (c.loop-low.low + (c.loop-low.high - c.loop-low.low) / 2) _ c.index-rows-mid.result c.requires.rising c.loop-low.invariant (omega arith) (c.key-here.ensures ∙ ap g.T.Keyed.key c.index-rows-mid.is) c.if-here-key-2.true

pub returns-clause-without : goal.returns-clause-without
returns-clause-without g c = gap_without g.T.Keyed.key c.args.key c.args.rows.now c.loop-low.low c.loop-low.high c.loop-low.invariant c.loop-low-test.false
