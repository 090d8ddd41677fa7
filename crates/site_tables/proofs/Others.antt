-- What isn't for a synchronization site changes nothing at one.
use Rattle.std.proofs.Common.{◌≡◌, ℕ, List, Option, refl}
use Rattle.locus_ids.specs.declared.ids.FileId.{FileId}
use Rattle.locus_ids.specs.declared.ids.Serial.{Serial}
use Rattle.locus_ids.specs.declared.ids.Stamp.{Stamp}
use Rattle.trace_book.specs.declared.operation.What.{What}
use Rattle.wire_messages.specs.Outboxes.{Outgoing}
use Rattle.wire_messages.specs.declared.body.Body.{Body}
use Rattle.wire_messages.specs.declared.body.Body.TheVariants as body
use Rattle.wire_messages.specs.declared.body.MadeVersion.{MadeVersion}
use Rattle.wire_messages.specs.declared.body.OpenedAs.{OpenedAs}
use Rattle.wire_messages.specs.declared.body.Opening.{Opening}
use Rattle.wire_messages.specs.declared.body.ReportedCopy.{ReportedCopy}
use Rattle.role_steps.specs.Views.{Frame}
use Rattle.role_steps.specs.declared.synchronizing.SyncTable.{SyncTable}
use Rattle.using_site.specs.Steps.{Gives}
use Rattle.site_tables.specs.Tables.{tables_take}
use Rattle.site_tables.proofs.Giving.{gives_none}

pub others_quiet : (f : Frame) (from : ℕ) (b : Body) (ts : List SyncTable) (out : Outgoing)
    → ((group : ℕ) (copies : List ReportedCopy) → b ≡ body.Report group copies → ⊥)
    → ((serial call process request : ℕ) (file : FileId) (how : Opening) → b ≡ body.Open serial call process request file how → ⊥)
    → ((inst : Serial) (answer : OpenedAs) → b ≡ body.Opened inst answer → ⊥)
    → ((inst : Serial) (made : Option MadeVersion) → b ≡ body.Closed inst made → ⊥)
    → ((call process request take : ℕ) (file : FileId) (what : What) → b ≡ body.Look call process request take file what → ⊥)
    → ((file : FileId) (stamp : Stamp) → b ≡ body.Have file stamp → ⊥)
    → Gives (tables_take f from b ts) ts out out
others_quiet f from (body.Report group copies) ts out a b c d e g = absurd (a group copies refl)
others_quiet f from (body.Open serial call process request file how) ts out a b c d e g = absurd (b serial call process request file how refl)
others_quiet f from (body.Opened inst answer) ts out a b c d e g = absurd (c inst answer refl)
others_quiet f from (body.Closed inst made) ts out a b c d e g = absurd (d inst made refl)
others_quiet f from (body.Look call process request take file what) ts out a b c d e g = absurd (e call process request take file what refl)
others_quiet f from (body.Have file stamp) ts out a b c d e g = absurd (g file stamp refl)
others_quiet f from _ ts out a b c d e g = gives_none ts out
