-- How a look was answered, as the table of looks is seen.
use Rattle.std.specs.Prelude.{ℕ, true, false, List, [], ◌∷◌, Option, Some, None}
use Rattle.wire_messages.specs.declared.packet.Packet.{Packet}
use Rattle.role_steps.specs.Views.{Frame, packet}
use Rattle.locus_ids.specs.declared.ids.Kind.{Kind}
use Rattle.locus_ids.specs.declared.refusal.Refusal.TheVariants as refusal
use Rattle.trace_book.specs.declared.operation.What.{What}
use Rattle.trace_book.specs.declared.operation.What.TheVariants as what
use Rattle.wire_messages.specs.declared.body.Body.{Body}
use Rattle.wire_messages.specs.declared.body.Body.TheVariants as body
use Rattle.wire_messages.specs.declared.body.LookAnswer.TheVariants as answer
use Rattle.role_steps.specs.Looks.{LookRequest, Denies, Serves, is_look_before, is_same_look}
use Rattle.role_steps.specs.Looks.{Service as Serving}
use Rattle.role_steps.specs.declared.synchronizing.LastLook.{LastLook}
use Rattle.role_steps.specs.declared.synchronizing.VersionRow.{VersionRow}
use Rattle.css_core.specs.declared.service.Service.{Service}
use Rattle.css_core.specs.declared.service.Service.TheVariants.{Denied, Served}
use Rattle.css_core.specs.declared.looks.Letter.{Letter}
use Rattle.css_core.specs.declared.looks.Letter.TheVariants.{Stat, No, Passed}
use Rattle.css_core.specs.declared.looks.Turn.{Turn}
use Rattle.css_core.specs.declared.looks.Turn.TheVariants.{Lower, Same, Higher}
use Rattle.css_core.specs.declared.looks.LookRow.TheInside.{Inside}

abbrev pub service_of : Service → Serving
service_of (Denied why) = Denies why
service_of (Served version site) = Serves version site

-- a look to the last one of its process
abbrev pub look_turn : LookRequest → LastLook → Turn
look_turn l last = elim (is_look_before l last) [
  | true ↦ Lower
  | false ↦ elim (is_same_look l last) [
    | true ↦ Same
    | false ↦ Higher
  ]
]

abbrev pub turn_after : LookRequest → Option LastLook → Turn
turn_after l None = Higher
turn_after l (Some last) = look_turn l last

-- the answer to the last look, again
abbrev pub last_sent : Frame → Option LastLook → List Packet
last_sent f None = []
last_sent f (Some last) = packet f last.to last.body ∷ []

-- ---- the answer ----

abbrev pub passed_or_told : LookRequest → VersionRow → ℕ → Kind → What → Letter
passed_or_told l v site kind what.Stat = Stat kind v.size v.stamp
passed_or_told l v site kind _ = Passed site l.file l.what v.stamp

abbrev pub letter_to : Option Kind → LookRequest → VersionRow → ℕ → Letter
letter_to None l v site = No refusal.NoStorage
letter_to (Some kind) l v site = passed_or_told l v site kind l.what

abbrev pub letter_made : LookRequest → Option Kind → Service → Letter
letter_made l kind (Denied why) = No why
letter_made l kind (Served version site) = letter_to kind l version site

abbrev pub sent_to : ℕ → Letter → ℕ
sent_to us (Passed holder file what stamp) = holder
sent_to us _ = us

abbrev pub sent_body : Inside → Letter → Body
sent_body l (Stat kind size stamp) = body.LookDone l.call l.request l.take (answer.Stat kind size stamp)
sent_body l (No why) = body.LookDone l.call l.request l.take (answer.No why)
sent_body l (Passed holder file what stamp) = body.LookSs l.site l.call l.process l.request l.take file what stamp

abbrev pub look_row : Inside → LastLook
look_row l = record { site = l.site; process = l.process; call = l.call; request = l.request; take = l.take; to = sent_to l.site l.letter; body = sent_body l l.letter }
