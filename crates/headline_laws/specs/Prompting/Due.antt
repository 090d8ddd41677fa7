-- A reply that is due comes next.
use Rattle.std.specs.Prelude.{◌≡◌, true, None}
use Rattle.locus_ids.specs.declared.config.Config.{Config}
use Rattle.trace_book.specs.declared.entry.Entry.{Entry}
use Rattle.tree_model.specs.Folds.{Trace, last_line}
use Rattle.lawful_trace.specs.Prompt.{due, is_reply_due}
use Rattle.row_laws.specs.Shown.{EachRecord}

-- Where some call waits whose site has left its epoch, or that needs no request, the next record is its reply, at the same line: that of
-- the least process, of mends that of the least group.
abbrev pub IsDueRow : Config → Trace → Entry → Type 0
IsDueRow c before r = is_reply_due (due c before) (last_line before) r ≡ true

-- so it is throughout, and no reply is due at the end
pub record RepliesComeNext (c : Config) (trace : Trace) : Type 0 where
  pub each : EachRecord (IsDueRow c) trace
  pub ended : due c trace ≡ None
