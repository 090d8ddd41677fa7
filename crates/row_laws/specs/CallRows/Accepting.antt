-- A call comes as the lawful trace has it: its site runs, its process waits for nothing, and it is the next one of its site.
use Rattle.std.specs.Prelude.{ℕ, ◌≡◌}
use Rattle.locus_ids.specs.declared.config.Config.{Config}
use Rattle.locus_ids.specs.declared.ids.CallId.{CallId}
use Rattle.trace_book.specs.declared.entry.Entry.{Entry}
use Rattle.trace_book.specs.declared.call.Call.{Call}
use Rattle.trace_book.specs.declared.call.Call.TheVariants as call
use Rattle.trace_book.specs.declared.record.Record.{Record}
use Rattle.trace_book.specs.declared.record.Record.TheVariants as says
use Rattle.tree_model.specs.Folds.{Trace}
use Rattle.lawful_trace.specs.CallRows.{next_call, MayAccept}

-- a mend is the next call of its site, too; what else it must meet speaks of the tree
abbrev pub AcceptedAs : Config → Trace → ℕ → ℕ → CallId → Call → Type 0
AcceptedAs c before site process id (call.Mend file) = id ≡ next_call before site
AcceptedAs c before site process id _ = MayAccept c before site process id

abbrev pub AcceptRecord : Config → Trace → Record → Type 0
AcceptRecord c before (says.Accept site process id words) = AcceptedAs c before site process id words
AcceptRecord c before _ = Unit {0}

-- an accepted call comes as it may
abbrev pub IsAcceptRow : Config → Trace → Entry → Type 0
IsAcceptRow c before r = AcceptRecord c before r.what
