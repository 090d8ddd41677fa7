use Rattle.std.proofs.Common.{arith, length-append, ◌∷◌, []}
use Rattle.shadow_pages.proofs.Steps.{written_start, written_step}
use Rattle.shadow_pages.proofs.build.build.Goals as goal

pub loop-i-init : goal.loop-i-init
loop-i-init c = rw c.new-made.ensures.items (record { len = omega arith; made = written_start _ c.args.w.now.at c.args.w.now.bytes.now c.args.handed.now c.args.span.first })

pub loop-i-preserved : goal.loop-i-preserved
loop-i-preserved c =
    record {
      len = rw c.in_ok-push.ensures.items (omega (arith, length-append c.loop-i.made.items (c.in_ok-new.field-0 ∷ []), c.loop-i.invariant.len));
      made = written_step (record { size = c.args.w.now.size; pages = c.args.pages.now }) c.args.w.now.at c.args.w.now.bytes.now c.args.handed.now c.args.span.first c.loop-i.i c.loop-i.made.items c.push.new.self.items c.in_ok-new.field-0 c.before-in-loop-i.result.now
          c.loop-i.invariant.made c.loop-i.invariant.len (rw c.in_ok-new.ensures c.page_after-page.ensures) (c.requires.touched c.loop-i.i c.loop-i.auto.i c.loop-i-test.true) c.requires.handed c.before-in-loop-i.ensures.changed c.before-in-loop-i.ensures.unchanged c.in_ok-push.ensures.items;
    }
