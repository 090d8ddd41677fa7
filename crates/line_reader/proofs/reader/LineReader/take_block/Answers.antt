use Rattle.std.proofs.Common.{◌+◌, ◌-◌, ◌∙◌, refl}
use Rattle.std.specs.List.{slice_range}
use Rattle.line_reader.proofs.Windows.{range_grown}
use Rattle.line_reader.proofs.Told.{Keeps-open}
use Rattle.line_reader.proofs.reader.LineReader.take_block.Goals as goal

pub returns-clause-stays : goal.returns-clause-stays
returns-clause-stays g c =
    let inside = c.self.inside in
    let at = inside.to - inside.from in
    let old = slice_range inside.block.items inside.from inside.to in
    let new = c.take_at.new.block.items in
    let shut = rw (← c.self.view_is) at c.requires.open in
    let front = c.in_ok-taken.ensures.before ∙ c.move_to_front.ensures.moved in
    rw (← c.self.view_is)
    (record {
      bytes = Keeps-open old _ (slice_range new at (at + c.in_ok-taken.taken)) _ _ inside.ended shut (range_grown new old at c.in_ok-taken.taken front) c.in_ok-taken.ensures.bytes;
      number = refl;
      line = refl;
    })
