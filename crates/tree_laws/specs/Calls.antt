-- How far a call has come: the answers that its process has taken, the one that waits, and what it asks.
use Rattle.std.specs.Prelude.{ℕ, ◌≡◌, ◌+◌, ◌-◌, Bool, true, false, cond, List, [], ◌∷◌, ◌++◌, length, take, Option, None, Some}
use Rattle.locus_ids.specs.declared.config.Config.{Config}
use Rattle.locus_ids.specs.declared.ids.CallId.{CallId}
use Rattle.trace_book.specs.Same.{same_call}
use Rattle.trace_book.specs.declared.descriptor.Beginning.{Beginning}
use Rattle.call_rules.specs.declared.answer.Answer.{Answer}
use Rattle.call_rules.specs.declared.want.Want.{Want}
use Rattle.call_rules.specs.declared.want.Want.TheVariants as want
use Rattle.call_rules.specs.Scripts.{wants}
use Rattle.the_run.specs.of_role_steps.Views.{Told, Shown, Takes, LooksAgain}
use Rattle.the_run.specs.Worlds.{Line}
use Rattle.lawful_trace.specs.of_tree_model.declared.accepted.Waiting.{Waiting}
use Rattle.lawful_trace.specs.of_tree_model.Folds.{Trace}
use Rattle.lawful_trace.specs.of_tree_model.Calls.{call_named}
use Rattle.lawful_trace.specs.Tables.{begun}
use Rattle.lawful_trace.specs.Progress.{Answers, answers_after, is_packed_in}
use Rattle.tree_laws.specs.Printed.{entries}

-- ---- what a process has taken ----

abbrev pub log_after : Told → CallId → Answers → Answers
log_after (Takes s call request k a) d old = cond (same_call call d) (old ++ a ∷ []) old
log_after _ d old = old

-- the answers that the process of the call has taken, the earliest first
abbrev pub log : List Line → CallId → Answers
log [] d = []
log (x ∷ older) d = log_after x.told d (log older d)

abbrev pub tries_after : Told → CallId → ℕ → ℕ
tries_after (Takes s call request k a) d old = cond (same_call call d) 1 old
tries_after (LooksAgain s call request k) d old = cond (same_call call d) k old
tries_after _ d old = old

-- how often the current request of the call has been asked
abbrev pub tries : List Line → CallId → ℕ
tries [] d = 1
tries (x ∷ older) d = tries_after x.told d (tries older d)

-- ---- what the records have answered ----

abbrev pub heard_after : Config → Told → Trace → CallId → Answers → Answers
heard_after c (Shown r) before d old = answers_after r c before d old
heard_after c (LooksAgain s call request k) before d old = cond (same_call call d) (take (request - 1) old) old
heard_after c _ before d old = old

-- what the records have answered the call, but for a look that its process asks again: what it has taken, and the one
-- answer that may wait for it
abbrev pub heard : Config → List Line → CallId → Answers
heard c [] d = []
heard c (x ∷ older) d = heard_after c x.told (entries older) d (heard c older d)

-- ---- what a call asks ----

abbrev pub script_as : Config → Trace → Option Waiting → Option Beginning → Option ℕ → Answers → Want
script_as c before (Some w) (Some begins) free so_far = wants c.mounts (is_packed_in c before w.epoch) free w.words begins so_far
script_as c before (Some w) None free so_far = want.Never
script_as c before None begins free so_far = want.Never

-- what an accepted call asks after these answers, where this is the lowest free descriptor of its process
abbrev pub script : Config → Trace → CallId → Option ℕ → Answers → Want
script c before d free so_far = script_as c before (call_named before d) (begun before d) free so_far

-- it is sent to another site, or to the own one as to another: neither the reply nor nothing
abbrev pub is_request : Want → Bool
is_request (want.Give r) = false
is_request want.Never = false
is_request _ = true

-- The call asks this, and no answer waits. A request doesn't hang on which descriptors are free.
pub record Asks (c : Config) (trace : List Line) (d : CallId) (w : Want) : Type 0 where
  pub asked : script c (entries trace) d None (log trace d) ≡ w
  pub request : is_request w ≡ true
  pub nothing_waits : heard c trace d ≡ log trace d

-- This answer waits for the process of the call.
abbrev pub Waits : Config → List Line → CallId → Answer → Type 0
Waits c trace d a = heard c trace d ≡ log trace d ++ a ∷ []

-- the number of the current request
abbrev pub request_number : List Line → CallId → ℕ
request_number trace d = length (log trace d) + 1
