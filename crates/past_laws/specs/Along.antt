-- Traces along which the value of the records and the folds say the same, and each record passes the rows of the value.
use Rattle.std.specs.Prelude.{◌≡◌, ◌≤◌, Bool, true, false, not, [], ◌∷◌, length}
use Rattle.locus_ids.specs.Sizes.{sites_max}
use Rattle.locus_ids.specs.declared.config.Config.{Config}
use Rattle.locus_ids.specs.declared.refusal.Refusal.TheVariants.{Changed}
use Rattle.trace_book.specs.declared.entry.Entry.{Entry}
use Rattle.trace_book.specs.declared.record.Record.{Record}
use Rattle.trace_book.specs.declared.record.Record.TheVariants as rec
use Rattle.trace_book.specs.declared.reply.Reply.{Reply}
use Rattle.trace_book.specs.declared.reply.Reply.TheVariants as reply
use Rattle.tree_model.specs.Folds.{Trace}
use Rattle.promises.specs.of_lawful_trace.Lawful.{MayCome}
use Rattle.past_laws.specs.Agreement.{speaks_of_sites, SaysGiven}
use Rattle.past_laws.specs.Due.{SaysDue}

-- The record comes by its row of the lawful trace and speaks of sites of the cluster; a reply is the one that the script gives, not
-- another of the same text, directly after what it answers.
pub record ComesSo (c : Config) (before : Trace) (r : Entry) : Type 0 where
  pub row : MayCome c before r.what
  pub sites : speaks_of_sites c r.what ≡ true
  pub given : SaysGiven c before r.what
  pub due : SaysDue c before r.what

abbrev pub EachComesSo : Config → Trace → Type 0
EachComesSo c [] = Unit {0}
EachComesSo c (r ∷ before) = ComesSo c before r × EachComesSo c before

-- Packs and sites are as many at most as the text of a schedule can name.
pub record IsNamed (c : Config) : Type 0 where
  pub packs : length c.packs ≤ 4
  pub sites : c.sites ≤ sites_max

-- The reply tells that the epoch of its call has changed.
abbrev pub tells_changed : Reply → Bool
tells_changed (reply.No (Changed e)) = true
tells_changed _ = false

-- The records of which it is shown that the rows of the value let none through that those of the folds refuse: all but replies that an
-- epoch has changed.
abbrev pub is_judged_alike : Record → Bool
is_judged_alike (rec.Answer site process id r) = not (tells_changed r)
is_judged_alike _ = true
