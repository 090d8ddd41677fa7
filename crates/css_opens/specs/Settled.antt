-- What becomes of an open, and what is sent and told of it then.
use Rattle.std.specs.Prelude.{ℕ, Bool, true, false, List, [], ◌∷◌, Option, Some, None}
use Rattle.wire_messages.specs.declared.packet.Packet.{Packet}
use Rattle.wire_messages.specs.declared.body.Granted.TheVariants as granted
use Rattle.keyed_tables.specs.of_role_steps.Tables.{with_latest}
use Rattle.keyed_tables.specs.of_role_steps.Views.{Frame, Told}
use Rattle.keyed_tables.specs.of_role_steps.Opens.{open_key, is_open_stage, granted_row, tells_user, grants_user, granted_at_last, refuse_record}
use Rattle.keyed_tables.specs.of_role_steps.declared.synchronizing.OpenRow.{OpenRow}
use Rattle.keyed_tables.specs.of_role_steps.declared.synchronizing.OpenStage.{OpenStage}
use Rattle.keyed_tables.specs.of_role_steps.declared.synchronizing.OpenStage.TheVariants as stage
use Rattle.css_opens.specs.declared.entry.Closing.{Closing}
use Rattle.css_opens.specs.declared.entry.Closing.TheVariants.{Unknown, Again, Released}
use Rattle.css_opens.specs.declared.entry.Settling.{Settling}
use Rattle.css_opens.specs.declared.entry.Settling.TheVariants.{Grant, Refuse, End}

-- ---- what a close is to a row ----

abbrev pub closing_at : OpenRow → OpenStage → Closing
closing_at r stage.Granted = Released r.inst r.file r.kind r.set
closing_at r stage.Ended = Again r.inst
closing_at r _ = Unknown

abbrev pub closing_of : Option OpenRow → Closing
closing_of None = Unknown
closing_of (Some r) = closing_at r r.stage

-- ---- how far an open is ----

abbrev pub is_asked_stage : OpenStage → Bool
is_asked_stage stage.Asked = true
is_asked_stage _ = false

abbrev pub is_asked : Option OpenRow → Bool
is_asked None = false
is_asked (Some r) = is_asked_stage r.stage

abbrev pub is_open_some : Option OpenRow → Bool
is_open_some None = false
is_open_some (Some r) = is_open_stage r.stage

-- ---- what becomes of a row ----

abbrev pub settled_row : Settling → OpenRow → OpenRow
settled_row (Grant ino size) r = granted_row r ino size
settled_row (Refuse why) r = record r { stage = stage.Refused why }
settled_row End r = record r { stage = stage.Ended }

abbrev pub settled_rows : Settling → Option OpenRow → List OpenRow → List OpenRow
settled_rows s None rows = rows
settled_rows s (Some r) rows = with_latest open_key (settled_row s r) rows

-- ---- what is sent and told once the storage site has answered ----

abbrev pub answer_sent : Frame → OpenRow → OpenStage → List Packet
answer_sent f r stage.Granted = grants_user f r
answer_sent f r (stage.Refused why) = tells_user f r (granted.No why)
answer_sent f r _ = []

abbrev pub answer_told : Frame → OpenRow → OpenStage → List Told
answer_told f r stage.Granted = granted_at_last f r r.mode
answer_told f r (stage.Refused why) = refuse_record f r why ∷ []
answer_told f r _ = []
