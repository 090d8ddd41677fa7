-- A reply is the one that the script of its call gives, not another of the same text.
use Rattle.std.specs.Prelude.{ℕ, ◌≡◌, Some}
use Rattle.std.specs.List.{find}
use Rattle.locus_ids.specs.declared.config.Config.{Config}
use Rattle.locus_ids.specs.declared.ids.CallId.{CallId}
use Rattle.trace_book.specs.declared.entry.Entry.{Entry}
use Rattle.trace_book.specs.declared.record.Record.{Record}
use Rattle.trace_book.specs.declared.record.Record.TheVariants as says
use Rattle.trace_book.specs.declared.reply.Reply.{Reply}
use Rattle.call_rules.specs.declared.want.Want.TheVariants.{Give}
use Rattle.tree_model.specs.declared.accepted.Waiting.{Waiting}
use Rattle.tree_model.specs.Calls.{waiting}
use Rattle.tree_model.specs.Folds.{Trace}
use Rattle.lawful_trace.specs.CallRows.{is_this}
use Rattle.lawful_trace.specs.Progress.{now_wants}

-- the call waits, and the reply is what it is to be given now
pub record IsGiven (c : Config) (before : Trace) (site process : ℕ) (call : CallId) (r : Reply) : Type 0 where
  pub caller : Waiting
  pub waits : find (is_this site process call) (waiting before) ≡ Some caller
  pub gives : now_wants c before caller ≡ Give r

abbrev pub GivenRecord : Config → Trace → Record → Type 0
GivenRecord c before (says.Answer site process call r) = IsGiven c before site process call r
GivenRecord c before _ = Unit {0}

abbrev pub IsGivenRow : Config → Trace → Entry → Type 0
IsGivenRow c before r = GivenRecord c before r.what
