use Rattle.std.proofs.Common.{◌≡◌, take, length}
use Rattle.locus_ids.specs.Sizes.{content_pages_max}
use Rattle.page_marks.specs.Marking.{AreMarks}
use Rattle.page_marks.proofs.laying.marks_of_numbers.Given as goal

abbrev pub invariant-loop-i : goal.invariant-loop-i
invariant-loop-i l = record { are : AreMarks l.count (take l.i l.numbers) l.marks; long : length l.marks ≡ content_pages_max }
