-- What an audit knows of a trace whose records are read of their texts.
use Rattle.std.specs.Prelude.{◌≡◌, true, nat_le, List, [], ◌∷◌, fold}
use Rattle.locus_ids.specs.declared.config.Config.{Config}
use Rattle.trace_book.specs.declared.entry.Entry.{Entry}
use Rattle.tree_model.specs.Folds.{Trace, last_line}
use Rattle.record_reading.specs.AsRead.{as_read}
use Rattle.past_laws.specs.Agreement.{past}
use Rattle.audit_rules.specs.Consistent.{Audited, audited, nothing_audited}
use Rattle.audit_rules.specs.Turns.{is_in_turn}

-- the record that is read of the text of this one
abbrev pub entry_as_read : Entry → Entry
entry_as_read e = record { line = e.line; what = as_read e.what }

-- what an audit knows after these records, the earliest first
abbrev pub audited_all : Config → List Entry → Audited
audited_all c entries = fold (λ known (e : Entry). audited c known e.line e.what) (nothing_audited c) entries

-- each record stands at the line of the one before it, or at a later one
abbrev pub LinesRise : Trace → Type 0
LinesRise [] = Unit {0}
LinesRise (r ∷ before) = (nat_le (last_line before) r.line ≡ true) × LinesRise before

-- where an epoch has changed, the calls are told so in the order of their processes
abbrev pub EachInTurn : Config → Trace → Type 0
EachInTurn c [] = Unit {0}
EachInTurn c (r ∷ before) = (is_in_turn (past c before) r.what ≡ true) × EachInTurn c before
