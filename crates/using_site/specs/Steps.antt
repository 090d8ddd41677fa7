-- What comes of an event, and the directory that a call mends.
use Rattle.std.specs.Prelude.{◌≡◌, ◌++◌, Option, None, Some}
use Rattle.wire_messages.specs.Outboxes.{Outgoing}
use Rattle.site_frame.specs.Printed.{printed}
use Rattle.locus_ids.specs.declared.ids.FileId.{FileId}
use Rattle.role_steps.specs.Views.{Outcome}
use Rattle.role_steps.specs.Using.{mended_file}
use Rattle.role_steps.specs.declared.users.WaitingCall.{WaitingCall}

-- the directory that a call mends
abbrev pub mended_by : Option WaitingCall → Option FileId
mended_by None = None
mended_by (Some w) = mended_file w.words

-- what comes of an event: the value after it, and its packets and its printed records behind those that stood in the outbox
pub record Gives {V : Type 0} (o : Outcome V) (new : V) (before after : Outgoing) : Type 0 where
  pub view : new ≡ o.view
  pub packets : after.packets ≡ before.packets ++ o.sent
  pub records : after.records ≡ before.records ++ printed o.told
