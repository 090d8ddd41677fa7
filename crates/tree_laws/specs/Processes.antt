-- The calls of one process in an epoch, one after another.
use Rattle.std.specs.Prelude.{ℕ, ◌≡◌, ◌⊎◌, ◌≤◌, ◌<◌, true, false, List, Some}
use Rattle.locus_ids.specs.declared.config.Config.{Config}
use Rattle.locus_ids.specs.declared.ids.CallId.{CallId}
use Rattle.locus_ids.specs.declared.ids.EpochId.{EpochId}
use Rattle.trace_book.specs.declared.call.Call.{Call}
use Rattle.trace_book.specs.declared.call.Call.TheVariants as call
use Rattle.the_run.specs.of_role_steps.Own.{Every}
use Rattle.the_run.specs.Worlds.{Line}
use Rattle.lawful_trace.specs.of_tree_model.declared.accepted.Waiting.{Waiting}
use Rattle.lawful_trace.specs.of_tree_model.Calls.{call_named, waiting}
use Rattle.lawful_trace.specs.of_tree_model.Folds.{Trace}
use Rattle.lawful_trace.specs.CallRows.{is_mend_in}
use Rattle.lawful_trace.specs.TreeRows.{IsCallIn}
use Rattle.tree_laws.specs.Printed.{entries}
use Rattle.tree_laws.specs.Calls.{is_request}
use Rattle.tree_laws.specs.Serials.{asked_now}
use Rattle.tree_laws.specs.Tables.{Turn, last_turn}

-- The later call is accepted only where a call of its process with these words doesn't wait: a mend waits for mends of its
-- group, any other call for all.
abbrev pub WaitsFor : Call → Call → Type 0
WaitsFor (call.Mend f) earlier = is_mend_in f.group earlier ≡ true
WaitsFor _ earlier = Unit {0}

-- two calls of a process in an epoch, of which the second is the later one
pub record Follows (before : Trace) (e : EpochId) (d other : CallId) : Type 0 where
  pub first : IsCallIn before e d
  pub second : IsCallIn before e other
  pub site_same : d.site ≡ other.site
  pub process_same : first.accepted.process ≡ second.accepted.process
  pub waits_for : WaitsFor second.accepted.words first.accepted.words
  pub later : d.n < other.n

-- the call doesn't wait
abbrev pub Quiet : Trace → CallId → Type 0
Quiet before d = Every (λ (w : Waiting). w.call ≡ d → ⊥) (waiting before)

-- the call doesn't wait, and asks nothing
pub record IsOver (c : Config) (t : List Line) (d : CallId) : Type 0 where
  pub quiet : Quiet (entries t) d
  pub asks_nothing : is_request (asked_now c t d) ≡ false

-- ---- looks ----

abbrev pub IsMend : Call → Type 0
IsMend (call.Mend file) = Unit {0}
IsMend _ = ⊥

-- process 0 is that of the system, which makes nothing but mends
abbrev pub OnlyMends : List Line → Type 0
OnlyMends t = (d : CallId) (w : Waiting) → call_named (entries t) d ≡ Some w → w.process ≡ 0 → IsMend w.words

-- looks of a process are ordered by call, request and how often it was asked
abbrev pub IsUpTo : Turn → Turn → Type 0
IsUpTo a b = (a.call < b.call) ⊎ ((a.call ≡ b.call) × ((a.request < b.request) ⊎ ((a.request ≡ b.request) × (a.times ≤ b.times))))

abbrev pub turn_by : CallId → ℕ → ℕ → Turn
turn_by d request times = record { call = d.n; request = request; times = times }

-- the look of the call is up to the last one of its process in the group
pub record IsUnder (t : List Line) (e : EpochId) (d : CallId) (request times group : ℕ) : Type 0 where
  pub inside : IsCallIn (entries t) e d
  pub last : Turn
  pub last_is : last_turn t e group d.site inside.accepted.process ≡ Some last
  pub under : IsUpTo (turn_by d request times) last
