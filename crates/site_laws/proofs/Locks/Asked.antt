-- What a using site asks of an instance is of one that a storage site has begun.
use Rattle.std.proofs.Common.{ℕ, List, [], ◌∷◌, Option, Some, sym, subst, inl, inr}
use Rattle.locus_ids.specs.declared.config.Config.{Config}
use Rattle.locus_ids.specs.declared.ids.EpochId.{EpochId}
use Rattle.schedule_lines.specs.declared.line.ScheduleLine.{ScheduleLine}
use Rattle.role_steps.specs.Own.{Every}
use Rattle.role_steps.specs.declared.rounds.InEpoch.{InEpoch}
use Rattle.role_steps.specs.declared.users.Asking.{Asking}
use Rattle.role_steps.specs.declared.users.Asking.TheVariants as asking
use Rattle.the_run.specs.Kept.{Among}
use Rattle.the_run.specs.Runs.{run_in}
use Rattle.the_run.specs.Steps.{epoch_id}
use Rattle.the_run.specs.Worlds.{World, Line}
use Rattle.site_laws.specs.Vectors.Written.{past_of}
use Rattle.site_laws.specs.Locks.Asked.{AskedBegun, WhatIsAskedIsBegun}
use Rattle.site_laws.specs.Locks.Facts.{AskingFact, UsersFact, WaitingFact, WorldFact}
use Rattle.site_laws.proofs.Locks.FactsRun.{run_facts}

asking_begun : (trace : List Line) (e : EpochId) (s : ℕ) (a : Asking) → AskingFact (past_of trace) s (Some e) a → AskedBegun trace e s a
asking_begun trace e s (asking.Op serial ss n o seen) h = record { granted = h.there; at = h.at; file = h.file; begun = h.begun }
asking_begun trace e s (asking.Close serial ss) h = record { granted = h.there; at = h.at; file = h.file; begun = h.begun }
asking_begun trace e s (asking.Look file what take) h = tt
asking_begun trace e s (asking.Open serial file how) h = tt

every_among : {A : Type 0} (P : A → Type 0) (x : A) (xs : List A) → Among x xs → Every P xs → P x
every_among P x [] a h = absurd a
every_among P x (y ∷ ys) (inl e) h = subst P (sym e) h.0
every_among P x (y ∷ ys) (inr a) h = every_among P x ys a h.1

-- in each world with these facts
pub asked_begun : (w : World) → WorldFact w → WhatIsAskedIsBegun w
asked_begun w f s v e x here inside a = asking_begun w.trace e.id s x.asking (every_among (WaitingFact (past_of w.trace) s (Some e.id)) x v.users.waiting a users.waiting)
  where
    users : UsersFact (past_of w.trace) s (Some e.id) v.users
    users = subst (λ (o : Option InEpoch). UsersFact (past_of w.trace) s (epoch_id o) v.users) inside (f.views s v here).users

pub run_asked_begun : (c : Config) (lines : List ScheduleLine) → WhatIsAskedIsBegun (run_in c lines)
run_asked_begun c lines = asked_begun (run_in c lines) (run_facts c lines)
