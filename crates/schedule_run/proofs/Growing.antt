-- The run of a schedule with one line more.
use Rattle.std.proofs.Common.{◌≡◌, ℕ, ◌+◌, true, false, Bool, List, [], ◌∷◌, ◌++◌, length, ◌||◌, refl, ap, ◌∙◌, arith}
use Rattle.std.proofs.lemmas.List.Sums.{fold-append}
use Rattle.locus_ids.specs.declared.config.Config.{Config}
use Rattle.schedule_lines.specs.Cluster.{config_of, with_line, no_cluster}
use Rattle.schedule_lines.specs.Schedule.{has_begun, is_event}
use Rattle.schedule_lines.specs.declared.line.ScheduleLine.{ScheduleLine}
use Rattle.schedule_lines.specs.declared.line.ScheduleLine.TheVariants.{Passed, Header, Event}
use Rattle.the_run.specs.Worlds.{World, first_world}
use Rattle.the_run.specs.Runs.{acts_line, run_from, run}

-- the cluster after one line more
pub config_more : (lines : List ScheduleLine) (l : ScheduleLine) → config_of (lines ++ l ∷ []) ≡ with_line (config_of lines) l
config_more lines l = fold-append with_line no_cluster lines (l ∷ [])

pub begun_more : (lines : List ScheduleLine) (l : ScheduleLine) → has_begun (lines ++ l ∷ []) ≡ (has_begun lines || is_event l)
begun_more [] l = or_false (is_event l) where
  or_false : (b : Bool) → (b || false) ≡ b
  or_false true = refl
  or_false false = refl
begun_more (x ∷ lines) l = ap (λ b. is_event x || b) (begun_more lines l) ∙ or_assoc (is_event x) (has_begun lines) (is_event l) where
  or_assoc : (a b c : Bool) → (a || (b || c)) ≡ ((a || b) || c)
  or_assoc true b c = refl
  or_assoc false b c = refl

-- the last line is done in the world after the others
pub from_more : (c : Config) (n : ℕ) (lines : List ScheduleLine) (l : ScheduleLine) (w : World) → run_from c n (lines ++ l ∷ []) w ≡ acts_line c (n + length lines) l (run_from c n lines w)
from_more c n [] l w = ap (λ k. acts_line c k l w) (omega arith)
from_more c n (x ∷ lines) l w = from_more c (n + 1) lines l (acts_line c n x w) ∙ ap (λ k. acts_line c k l (run_from c (n + 1) lines (acts_line c n x w))) (omega arith)

-- without an event line nothing happens
pub from_quiet : (c : Config) (n : ℕ) (lines : List ScheduleLine) (w : World) → has_begun lines ≡ false → run_from c n lines w ≡ w
from_quiet c n [] w e = refl
from_quiet c n (Passed ∷ lines) w e = from_quiet c (n + 1) lines w e
from_quiet c n (Header h ∷ lines) w e = from_quiet c (n + 1) lines w e
from_quiet c n (Event x ∷ lines) w e = absurd (cc)

pub run_quiet : (lines : List ScheduleLine) → has_begun lines ≡ false → run lines ≡ first_world (config_of lines)
run_quiet lines e = from_quiet (config_of lines) 1 lines (first_world (config_of lines)) e

-- one line more that changes no cluster
pub run_more : (lines : List ScheduleLine) (l : ScheduleLine) (number : ℕ) → number ≡ length lines + 1 → config_of (lines ++ l ∷ []) ≡ config_of lines → run (lines ++ l ∷ []) ≡ acts_line (config_of lines) number l (run lines)
run_more lines l number en ec =
    ap (λ c. run_from c 1 (lines ++ l ∷ []) (first_world c)) ec
    ∙ (from_more (config_of lines) 1 lines l (first_world (config_of lines))
    ∙ ap (λ k. acts_line (config_of lines) k l (run lines)) (omega arith))
