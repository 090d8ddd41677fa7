-- What a request of a call was answered, and what the records of looks, opens, operations and closes answer.
use Rattle.std.specs.Prelude.{ℕ, ◌≡◌, List, [], ◌∷◌, ◌++◌, Some}
use Rattle.locus_ids.specs.declared.config.Config.{Config}
use Rattle.locus_ids.specs.declared.ids.CallId.{CallId}
use Rattle.trace_book.specs.declared.record.Record.{Record}
use Rattle.trace_book.specs.declared.record.Record.TheVariants as says
use Rattle.call_rules.specs.declared.answer.Answer.{Answer}
use Rattle.role_steps.specs.Views.{Told, Shown}
use Rattle.the_run.specs.Worlds.{Line}
use Rattle.tree_model.specs.Folds.{Trace}
use Rattle.lawful_trace.specs.Tables.{call_of_act, call_of_release}
use Rattle.tree_laws.specs.Printed.{entries}
use Rattle.tree_laws.specs.Calls.{log, tries, heard, request_number}
use Rattle.tree_laws.specs.Past.{Was}

-- the record is a step of the call
abbrev pub IsStepRecord : Trace → Record → CallId → Type 0
IsStepRecord before (says.Look e call request f w result) d = call ≡ d
IsStepRecord before (says.Grant e call request i m f stamp ss) d = call ≡ d
IsStepRecord before (says.Refuse e call request i m f why) d = call ≡ d
IsStepRecord before (says.Act e i n o result) d = call_of_act before e i n ≡ Some d
IsStepRecord before (says.Release e i f stamp) d = call_of_release before e i ≡ Some d
IsStepRecord before _ d = ⊥

abbrev pub IsStep : List Line → Told → CallId → Type 0
IsStep older (Shown r) d = IsStepRecord (entries older) r d
IsStep older _ d = ⊥

-- a step of the call, which answers its request, asked for the so-manieth time, so
pub record Answers (c : Config) (d : CallId) (request times : ℕ) (a : Answer) (older : List Line) (x : Told) : Type 0 where
  pub step : IsStep older x d
  pub request_is : request_number older d ≡ request
  pub times_are : tries older d ≡ times
  pub answer_is : (n : ℕ) → heard c (record { number = n; told = x } ∷ older) d ≡ log older d ++ a ∷ []

-- the request was answered so
abbrev pub WasAnswered : Config → List Line → CallId → ℕ → ℕ → Answer → Type 0
WasAnswered c trace d request times a = Was (Answers c d request times a) trace
