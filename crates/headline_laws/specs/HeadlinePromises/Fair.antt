-- When the closes of what a call opened for itself tell a version: once it made the file, settles a conflict, or changed it.
use Rattle.std.specs.Prelude.{Bool, true, false, not, ◌&&◌, ◌||◌, List, [], ◌∷◌, None, Some}
use Rattle.locus_ids.specs.declared.ids.Serial.{Serial}
use Rattle.trace_book.specs.Same.{same_serial}
use Rattle.trace_book.specs.declared.call.OpenMode.TheVariants as how
use Rattle.trace_book.specs.declared.operation.Op.{Op}
use Rattle.trace_book.specs.declared.operation.Op.TheVariants as op
use Rattle.call_rules.specs.declared.answer.Answer.{Answer}
use Rattle.call_rules.specs.declared.answer.Answer.TheVariants as answer
use Rattle.call_rules.specs.declared.want.Want.{Want}
use Rattle.call_rules.specs.declared.want.Want.TheVariants as want

-- what a call asks after its answers
abbrev pub Script : Type 0
Script = List Answer → Want

-- the operation may leave a commit owed
abbrev pub changes : Op → Bool
changes (op.Probe name) = false
changes (op.Find component) = false
changes op.Empty = false
changes (op.Read at len) = false
changes _ = true

-- by this answer to this request a close of the instance may tell a version
abbrev pub earns : Want → Answer → Serial → Bool
earns (want.Make group kind sites) (answer.Opened i ino) j = same_serial i j
earns (want.Open f (how.Resolve site)) (answer.Opened i ino) j = same_serial i j
earns (want.Do i o) (answer.Did r) j = changes o && same_serial i j
earns _ _ j = false

abbrev pub closes : Want → Serial → Bool
closes (want.Close i) j = same_serial i j
closes _ j = false

-- the instances of which it may, once this was answered
abbrev pub won_after : (Serial → Bool) → Want → Answer → Serial → Bool
won_after won w a j = not (closes w j) && (won j || earns w a j)

-- and once all of these were
abbrev pub won_by : (Serial → Bool) → Script → List Answer → Serial → Bool
won_by won s [] = won
won_by won s (a ∷ xs) = won_by (won_after won (s []) a) (λ ys. s (a ∷ ys)) xs

-- a close is answered by an end, with a version only where it may tell one, and nothing else is
abbrev pub fits : (Serial → Bool) → Want → Answer → Bool
fits won (want.Close i) (answer.Ended None) = true
fits won (want.Close i) (answer.Ended (Some stamp)) = won i
fits won (want.Close i) _ = false
fits won _ (answer.Ended stamp) = false
fits won _ _ = true

abbrev pub is_fair : (Serial → Bool) → Script → List Answer → Bool
is_fair won s [] = true
is_fair won s (a ∷ xs) = fits won (s []) a && is_fair (won_after won (s []) a) (λ ys. s (a ∷ ys)) xs

abbrev pub none_won : Serial → Bool
none_won j = false
