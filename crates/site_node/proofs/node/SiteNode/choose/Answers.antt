use Rattle.std.proofs.Common.{ap, ◌∙◌, arith}
use Rattle.site_node.proofs.Picking.{choosing, dropped_next, fewer_left, left_so, shown_now, taken_now, waited}
use Rattle.site_node.proofs.node.SiteNode.choose.Goals as goal

pub loop-place-preserved-in-Wait : goal.loop-place-preserved-in-Wait
loop-place-preserved-in-Wait c = record {
  rest = c.loop-place.invariant.rest;
  choice = λ image h. waited c.args.self.now c.loop-place.self c.loop-place.place image c.pull_at-seen.result (choosing c.args.self.now c.loop-place.self c.loop-place.place image c.loop-place.invariant.rest (c.loop-place.invariant.choice image h)) (c.pull_at-seen.ensures.shown image (shown_now c.args.self.now c.loop-place.self image c.loop-place.invariant.rest h)) c.in-Wait.is;
}

pub loop-place-preserved : goal.loop-place-preserved
loop-place-preserved c = record {
  rest = left_so c.args.self.now c.loop-place.self c.drop_pull.new.self c.loop-place.invariant.rest;
  choice = λ image h. dropped_next c.args.self.now c.loop-place.self c.loop-place.place image c.pull_at-seen.result c.drop_pull.new.self (choosing c.args.self.now c.loop-place.self c.loop-place.place image c.loop-place.invariant.rest (c.loop-place.invariant.choice image h)) (c.pull_at-seen.ensures.shown image (shown_now c.args.self.now c.loop-place.self image c.loop-place.invariant.rest h)) c.in-Drop.is c.drop_pull.ensures;
}

pub returns-in-Adopt-clause-chosen : goal.returns-in-Adopt-clause-chosen
returns-in-Adopt-clause-chosen c = λ image h. (taken_now c.args.self.now c.loop-place.self c.loop-place.place image c.pull_at-seen.result c.take.new.self c.take.result (choosing c.args.self.now c.loop-place.self c.loop-place.place image c.loop-place.invariant.rest (c.loop-place.invariant.choice image h)) (c.pull_at-seen.ensures.shown image (shown_now c.args.self.now c.loop-place.self image c.loop-place.invariant.rest h)) c.in-Adopt.is c.take.ensures.taken c.take.ensures.left).0

pub returns-in-Adopt-clause-left : goal.returns-in-Adopt-clause-left
returns-in-Adopt-clause-left c = λ image h. left_so c.args.self.now c.loop-place.self c.take.new.self c.loop-place.invariant.rest ∙ ap (λ ps. record c.args.self.now { pulls = ps }) (taken_now c.args.self.now c.loop-place.self c.loop-place.place image c.pull_at-seen.result c.take.new.self c.take.result (choosing c.args.self.now c.loop-place.self c.loop-place.place image c.loop-place.invariant.rest (c.loop-place.invariant.choice image h)) (c.pull_at-seen.ensures.shown image (shown_now c.args.self.now c.loop-place.self image c.loop-place.invariant.rest h)) c.in-Adopt.is c.take.ensures.taken c.take.ensures.left).1

pub returns-in-Adopt-clause-sized : goal.returns-in-Adopt-clause-sized
returns-in-Adopt-clause-sized c = c.take.ensures.sized

pub loop-place-smaller : goal.loop-place-smaller
loop-place-smaller c = fewer_left c.loop-place.self.pulls c.drop_pull.new.self c.loop-place.place c.pull_at-seen.result.file c.pull_at-seen.ensures.rising c.pull_at-seen.ensures.file c.drop_pull.ensures (omega (arith, c.loop-place-test.true, c.len.ensures))
