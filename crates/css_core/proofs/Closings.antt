-- A close by what it is to the row of its instance.
use Rattle.std.proofs.Common.{◌≡◌, ℕ, Option, Some, None, refl}
use Rattle.locus_ids.specs.declared.ids.Serial.{Serial}
use Rattle.wire_messages.specs.declared.body.MadeVersion.{MadeVersion}
use Rattle.role_steps.specs.Views.{Frame, Outcome, quiet, sends}
use Rattle.role_steps.specs.Opens.{open_row}
use Rattle.role_steps.specs.Reports.{closed_ok, closes_at, on_closed, on_closed_of}
use Rattle.role_steps.specs.declared.synchronizing.SyncTable.{SyncTable}
use Rattle.role_steps.specs.declared.synchronizing.OpenRow.{OpenRow}
use Rattle.role_steps.specs.declared.synchronizing.OpenStage.{OpenStage}
use Rattle.role_steps.specs.declared.synchronizing.OpenStage.TheVariants as stage
use Rattle.css_opens.specs.Settled.{closing_of, closing_at, settled_rows}
use Rattle.css_opens.specs.declared.entry.Closing.{Closing}
use Rattle.css_opens.specs.declared.entry.Closing.TheVariants.{Unknown, Again, Released}
use Rattle.css_opens.specs.declared.entry.Settling.TheVariants.{End}
use Rattle.css_core.specs.Closed.{published_as, closed_into}

abbrev pub by_closing : Frame → ℕ → Option OpenRow → Option MadeVersion → Closing → SyncTable → Outcome SyncTable
by_closing f ss o made Unknown t = quiet t
by_closing f ss o made (Again inst) t = sends (closed_ok f ss inst) t
by_closing f ss o made (Released inst file kind set) t = closed_into f ss inst file made (published_as ss file kind set made (record t { opens = settled_rows End o t.opens }))

released : (f : Frame) (ss : ℕ) (made : Option MadeVersion) (t : SyncTable) (r : OpenRow) → closes_at f ss r made stage.Granted t ≡ by_closing f ss (Some r) made (Released r.inst r.file r.kind r.set) t
released f ss None t r = refl
released f ss (Some v) t r = refl

at_stage : (f : Frame) (ss : ℕ) (made : Option MadeVersion) (t : SyncTable) (r : OpenRow) (s : OpenStage) → closes_at f ss r made s t ≡ by_closing f ss (Some r) made (closing_at r s) t
at_stage f ss made t r stage.Asked = refl
at_stage f ss made t r stage.Granted = released f ss made t r
at_stage f ss made t r (stage.Refused why) = refl
at_stage f ss made t r stage.Ended = refl

of_row : (f : Frame) (ss : ℕ) (made : Option MadeVersion) (t : SyncTable) (o : Option OpenRow) → on_closed_of f ss made o t ≡ by_closing f ss o made (closing_of o) t
of_row f ss made t None = refl
of_row f ss made t (Some r) = at_stage f ss made t r r.stage

pub closed_as : (f : Frame) (ss : ℕ) (inst : Serial) (made : Option MadeVersion) (t : SyncTable) → on_closed f ss inst made t ≡ by_closing f ss (open_row t inst) made (closing_of (open_row t inst)) t
closed_as f ss inst made t = of_row f ss made t (open_row t inst)
