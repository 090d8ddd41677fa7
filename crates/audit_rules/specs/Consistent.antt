-- What is consistent: a record whose line isn't lower than the last one's, and that may come next.
use Rattle.std.specs.Prelude.{ℕ, Bool, ◌&&◌, cond, nat_le}
use Rattle.locus_ids.specs.declared.config.Config.{Config}
use Rattle.trace_book.specs.declared.record.Record.{Record}
use Rattle.promises.specs.Past.{Past, nothing_yet}
use Rattle.promises.specs.After.{after}
use Rattle.promises.specs.Rows.{may_follow}
use Rattle.audit_rules.specs.Meant.{meant}
use Rattle.audit_rules.specs.Turns.{is_in_turn}

-- What an audit knows of the records so far.
pub data Audited : Type 0 where
  -- each is consistent: the line of the last one, and what they tell
  Sound : (last : ℕ) (past : Past) → Audited
  -- one isn't
  Broken : Audited

-- before the first record
abbrev pub nothing_audited : Config → Audited
nothing_audited c = Sound 0 (nothing_yet c)

-- the record may come next, whatever its line
abbrev pub may_stand : Config → Past → Record → Bool
may_stand c p r = may_follow c p r && is_in_turn p r

-- the record of this line is consistent after these, of which the last had that line
abbrev pub is_consistent : Config → Past → ℕ → ℕ → Record → Bool
is_consistent c p last line r = nat_le last line && may_stand c p (meant c p r)

-- what the audit knows with one record more
abbrev pub audited : Config → Audited → ℕ → Record → Audited
audited c Broken line r = Broken
audited c (Sound last p) line r = cond (is_consistent c p last line r) (Sound line (after c (meant c p r) p)) Broken
