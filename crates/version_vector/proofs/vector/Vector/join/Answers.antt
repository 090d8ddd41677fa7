use Rattle.version_vector.proofs.Counting.{AllLe-joined_left, AllLe-joined_right, joined_least, part-joined}
use Rattle.version_vector.proofs.vector.Vector.join.Goals as goal

pub returns-clause-counters : goal.returns-clause-counters
returns-clause-counters g c place = rw (c.join_into.ensures, c.self.view_is, c.other.view_is) (part-joined _ _ place)

pub returns-clause-left : goal.returns-clause-left
returns-clause-left g c = rw (c.join_into.ensures, c.self.view_is) (AllLe-joined_left _ _)

pub returns-clause-right : goal.returns-clause-right
returns-clause-right g c = rw (c.join_into.ensures, c.other.view_is) (AllLe-joined_right _ _)

pub returns-clause-least : goal.returns-clause-least
returns-clause-least g c v left right = rw (c.join_into.ensures, c.self.view_is, c.other.view_is) (joined_least _ _ v left right)
