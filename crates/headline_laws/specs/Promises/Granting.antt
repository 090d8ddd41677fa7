-- Requests to commit and to close.
use Rattle.std.specs.Prelude.{◌≡◌, Option}
use Rattle.locus_ids.specs.declared.config.Config.{Config}
use Rattle.locus_ids.specs.declared.ids.Stamp.{Stamp}
use Rattle.trace_book.specs.declared.entry.Entry.{Entry}
use Rattle.trace_book.specs.declared.operation.Op.TheVariants as op
use Rattle.trace_book.specs.declared.operation.Outcome.TheVariants.{Committed}
use Rattle.trace_book.specs.declared.record.Record.{Record}
use Rattle.trace_book.specs.declared.record.Record.TheVariants.{Act, Release}
use Rattle.call_rules.specs.declared.answer.Answer.TheVariants.{Ended}
use Rattle.tree_model.specs.Folds.{Trace}
use Rattle.tree_model.specs.State.{instance_in}
use Rattle.tree_model.specs.Tree.{tree_of}
use Rattle.lawful_trace.specs.Progress.{close_answer}
use Rattle.row_laws.specs.Shown.{EachRecord}

abbrev pub IsNotRefused : Config → Trace → Record → Type 0
IsNotRefused c before (Act e i n op.Commit result) = (stamp : Stamp) × (result ≡ Committed stamp)
IsNotRefused c before (Release e i f stamp) = (made : Option Stamp) × (close_answer stamp (instance_in (tree_of c e f.group before) i) ≡ Ended made)
IsNotRefused c before _ = Unit {0}

-- No request to commit or to close an instance is refused, whichever call asks it.
abbrev pub CommitsAreNotRefused : Config → Trace → Type 0
CommitsAreNotRefused c trace = EachRecord (λ before (r : Entry). IsNotRefused c before r.what) trace
