use Rattle.std.proofs.Common.{arith, ◌+◌, ◌≤◌, length}
use Rattle.file_content.specs.Pages.{pages_of}
use Rattle.shadow_pages.specs.Working.{needed}
use Rattle.shadow_pages.proofs.Counts.{count_below_le, number_changed_le}
use Rattle.shadow_pages.proofs.Write.{content_after, clean_after, count_after, among_after}
use Rattle.shadow_pages.proofs.shadow.Shadow.write.Goals as goal

pub overflow_add-self : goal.overflow_add-self
overflow_add-self c =
    let bound : needed c.args.self.now c.args.at (length c.args.bytes.now) ≤ pages_of (c.args.at + length c.args.bytes.now) = count_below_le _ _ in
    omega (arith, bound, c.needed-needed.ensures, c.requires.end, c.self.invariant.0, c.self.invariant.1, c.self.invariant.2, number_changed_le c.self.inside.pages.items)

pub invariant_of-self-2 : goal.invariant_of-self-2
invariant_of-self-2 c =
    let count = count_after (record { size = c.self.inside.size; pages = c.self.inside.pages.items }) c.args.at c.args.bytes.now c.args.base.now c.span_between-span.result.first c.span_between-span.result.stop c.in_ok-made.made.items c.grow.new.pages.items c.place.new.pages.items
    (rw c.min.ensures at c.span_between-span.ensures.meets) c.span_between-span.ensures.ordered c.in_ok-made.ensures.len (rw (c.deref.ensures.value, c.as_slice.ensures) at c.in_ok-made.ensures.made) c.in_ok-grow.ensures.pages c.place.ensures.placed
    c.span_between-span.ensures.most c.in_ok-grow.ensures.count c.place.ensures.count in
    let wanted = rw (← c.self.view_is) at c.needed-needed.ensures in (
      omega (arith, c.max-self-inside.ensures, c.self.invariant.0, c.requires.end),
      omega (arith, c.max-self-inside.ensures, c.place.ensures.len, c.in_ok-grow.ensures.least, c.self.invariant.1, c.span_between-span.ensures.most),
      omega (arith, count, wanted, c.self.invariant.2),
      rw c.max-self-inside.ensures (clean_after (record { size = c.self.inside.size; pages = c.self.inside.pages.items }) c.args.at c.args.bytes.now c.args.base.now c.span_between-span.result.first c.span_between-span.result.stop c.in_ok-made.made.items c.grow.new.pages.items c.place.new.pages.items
          (rw c.min.ensures at c.span_between-span.ensures.meets) c.span_between-span.ensures.ordered c.in_ok-made.ensures.len (rw (c.deref.ensures.value, c.as_slice.ensures) at c.in_ok-made.ensures.made) c.in_ok-grow.ensures.pages c.place.ensures.placed c.self.invariant.3),
      among_after (record { size = c.self.inside.size; pages = c.self.inside.pages.items }) c.args.at c.args.bytes.now c.args.base.now c.span_between-span.result.first c.span_between-span.result.stop c.in_ok-made.made.items c.grow.new.pages.items c.place.new.pages.items
          (rw c.min.ensures at c.span_between-span.ensures.meets) c.span_between-span.ensures.ordered c.in_ok-made.ensures.len (rw (c.deref.ensures.value, c.as_slice.ensures) at c.in_ok-made.ensures.made) c.in_ok-grow.ensures.pages c.place.ensures.placed
          c.self.inside.hull.first c.self.inside.hull.stop c.joined-self-inside.result.first c.joined-self-inside.result.stop c.self.invariant.4 c.joined-self-inside.ensures.first c.joined-self-inside.ensures.second,
    )

pub returns-clause-content : goal.returns-clause-content
returns-clause-content c old of =
    rw (c.max-self-inside.ensures, ← c.self.view_is) (content_after (record { size = c.self.inside.size; pages = c.self.inside.pages.items }) c.args.at c.args.bytes.now c.args.base.now c.span_between-span.result.first c.span_between-span.result.stop c.in_ok-made.made.items c.grow.new.pages.items c.place.new.pages.items
    (rw c.min.ensures at c.span_between-span.ensures.meets) c.span_between-span.ensures.ordered c.in_ok-made.ensures.len (rw (c.deref.ensures.value, c.as_slice.ensures) at c.in_ok-made.ensures.made) c.in_ok-grow.ensures.pages c.place.ensures.placed old (rw (← c.self.view_is) at of))

pub returns-clause-changed : goal.returns-clause-changed
returns-clause-changed c =
    rw (← c.self.view_is) (count_after (record { size = c.self.inside.size; pages = c.self.inside.pages.items }) c.args.at c.args.bytes.now c.args.base.now c.span_between-span.result.first c.span_between-span.result.stop c.in_ok-made.made.items c.grow.new.pages.items c.place.new.pages.items
    (rw c.min.ensures at c.span_between-span.ensures.meets) c.span_between-span.ensures.ordered c.in_ok-made.ensures.len (rw (c.deref.ensures.value, c.as_slice.ensures) at c.in_ok-made.ensures.made) c.in_ok-grow.ensures.pages c.place.ensures.placed
    c.span_between-span.ensures.most c.in_ok-grow.ensures.count c.place.ensures.count)
