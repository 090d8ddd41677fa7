-- What a step of an audit says of a record, and the past after it.
use Rattle.std.specs.Prelude.{◌≡◌, Bool, true}
use Rattle.locus_ids.specs.declared.config.Config.{Config}
use Rattle.trace_book.specs.declared.record.Record.{Record}
use Rattle.promises.specs.Past.{Past}
use Rattle.promises.specs.After.{after}
use Rattle.audit_rules.specs.Consistent.{may_stand}

-- the answer is whether the record may come next, and where it may the past has it
pub record Judges (c : Config) (before : Past) (r : Record) (after_it : Past) (yes : Bool) : Type 0 where
  pub told : yes ≡ may_stand c before r
  pub next : yes ≡ true → after_it ≡ after c r before
