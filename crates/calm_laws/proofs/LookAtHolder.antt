-- A look that comes to a holder is always answered: by the content, what it shows, a refusal, or that the version has moved on.
use Rattle.std.proofs.Common.{◌≡◌, ℕ, true, false, List, Option, Some, None, refl, sym, ap, subst, inl, inr}
use Rattle.locus_ids.specs.declared.config.Config.{Config}
use Rattle.locus_ids.specs.declared.ids.FileId.{FileId}
use Rattle.locus_ids.specs.declared.ids.Stamp.{Stamp}
use Rattle.commit_graph.specs.Versions.{same_stamp}
use Rattle.dir_format.specs.Contents.{entries_of}
use Rattle.dir_format.specs.Lookups.{lookup}
use Rattle.dir_format.specs.declared.looking.LookResult.{LookResult}
use Rattle.dir_format.specs.declared.looking.LookResult.TheVariants as found
use Rattle.trace_book.specs.declared.operation.What.{What}
use Rattle.trace_book.specs.declared.operation.What.TheVariants as what
use Rattle.wire_messages.specs.declared.body.Body.{Body}
use Rattle.wire_messages.specs.declared.body.Body.TheVariants as body
use Rattle.wire_messages.specs.declared.body.LookAnswer.TheVariants as looked
use Rattle.wire_messages.specs.declared.body.ReportedCopy.{ReportedCopy}
use Rattle.wire_messages.specs.declared.packet.Packet.{Packet}
use Rattle.role_steps.specs.Storage.{copy_of, look_found, served_content, served_copy}
use Rattle.role_steps.specs.Using.{answers_what}
use Rattle.role_steps.specs.Views.{SiteView, Outcome, packet, sync_site}
use Rattle.role_steps.specs.declared.copies.FileCopy.{FileCopy}
use Rattle.role_steps.specs.declared.rounds.InEpoch.{InEpoch}
use Rattle.role_steps.specs.declared.users.Asking.{Asking}
use Rattle.role_steps.specs.declared.users.Asking.TheVariants as asking
use Rattle.role_steps.specs.declared.users.WaitingCall.{WaitingCall}
use Rattle.the_run.specs.Kept.{Among}
use Rattle.the_run.specs.Steps.{takes_inside}
use Rattle.the_run.specs.Worlds.{place_at}
use Rattle.run_laws.specs.Epochs.Forming.{FormsNone}
use Rattle.run_laws.specs.Epochs.Known.{Places}
use Rattle.calm_laws.specs.Carrying.{IsMember, frame_of, Goes, look_body, IsServedByHolders, PassesLook, CarriesLook, Carries}
use Rattle.calm_laws.specs.Rounds.{CarriesOn, IsLookSs}
use Rattle.calm_laws.proofs.Ends.{handles}
use Rattle.calm_laws.proofs.Keeping.{KeepsRoles, roles_itself}
use Rattle.calm_laws.proofs.Carriers.{of_kind, MayCarry, IsLookAsking, carrier_kind}
use Rattle.calm_laws.proofs.Rows.{AllGoToMembers, TriesNone, placed, keeping_hands, handler_row}

-- ---- the answer ----

found_fits : (component : List ℕ) (r : LookResult) → answers_what (what.Name component) (look_found component r) ≡ true
found_fits component (found.Found ino kind) = refl
found_fits component found.Absent = refl
found_fits component (found.Ambiguous a b) = refl

content_fits : (w : What) (content : List ℕ) → IsServedByHolders w → answers_what w (served_content w content) ≡ true
content_fits (what.Name component) content h = found_fits component (lookup (entries_of content) component)
content_fits what.List content h = refl
content_fits (what.Whole stamp) content h = refl
content_fits what.Stat content h = absurd h

moved_fits : (w : What) → answers_what w looked.Moved ≡ true
moved_fits (what.Name component) = refl
moved_fits what.List = refl
moved_fits (what.Whole stamp) = refl
moved_fits what.Stat = refl

copy_fits : (w : What) (stamp : Stamp) (o : Option FileCopy) → IsServedByHolders w → answers_what w (served_copy w stamp o) ≡ true
copy_fits w stamp None h = moved_fits w
copy_fits w stamp (Some x) h = elim (same_stamp x.stamp stamp) as (λ b. answers_what w (elim b [ true ↦ served_content w x.content | false ↦ looked.Moved ]) ≡ true) [
  | true ↦ content_fits w x.content h
  | false ↦ moved_fits w
]

-- ---- which calls it carries ----

only_looks : (a : Asking) (b : Body) → IsLookSs b → MayCarry a b → IsLookAsking a
only_looks (asking.Look file w take) b k h = tt
only_looks (asking.Open serial file how) (body.LookSs us call process request take f w stamp) k h = h
only_looks (asking.Open serial file how) _ k h = absurd k
only_looks (asking.Op serial ss n o seen) (body.LookSs us call process request take f w stamp) k h = h
only_looks (asking.Op serial ss n o seen) _ k h = absurd k
only_looks (asking.Close serial ss) (body.LookSs us call process request take f w stamp) k h = h
only_looks (asking.Close serial ss) _ k h = absurd k

passes_look : (c : Config) (e : InEpoch) (s : ℕ) (x : WaitingCall) (file : FileId) (w : What) (take css : ℕ) (p : Packet) → IsLookSs p.body → CarriesLook c e s x file w take css p → PassesLook c e s x file w take p
passes_look c e s x file w take css p k (inl g) = absurd (of_kind IsLookSs c e s css (look_body x file w take) p k g)
passes_look c e s x file w take css p k (inr (inl h)) = h
passes_look c e s x file w take css p k (inr (inr h)) = absurd (of_kind IsLookSs c e h.from s (body.LookDone x.call x.request take h.answer) p k h.goes)

-- ---- the row ----

-- the look is answered to its call
answers : (c : Config) (e : InEpoch) (now : Places) (v : SiteView) (s : ℕ) (y : WaitingCall) (file : FileId) (w : What) (take css : ℕ) (p : Packet) → IsMember e s → sync_site c e.members file.group ≡ Some css → PassesLook c e s y file w take p →
    (q : Packet) × Among q (handles c e p.to p v).sent × Carries c e now s y (asking.Look file w take) q
answers c e now v s y file w take css p member sync h = subst (λ (z : Packet). (q : Packet) × Among q (handles c e z.to z v).sent × Carries c e now s y (asking.Look file w take) q) (sym h.goes.is) (
  packet (frame_of c e h.holder) s (body.LookDone y.call y.request take (served_copy w h.stamp (copy_of v.store file))),
  inl refl,
  (css, sync, inr (inr (record { from = h.holder; answer = served_copy w h.stamp (copy_of v.store file); fits = copy_fits w h.stamp (copy_of v.store file) h.served; goes = record { sender = h.goes.receiver; receiver = member; is = refl } }))),
)

takes : (c : Config) (e : InEpoch) (at now : Places) (v : SiteView) (s : ℕ) (y : WaitingCall) (a : Asking) (p : Packet) → IsMember e s → IsLookSs p.body → Carries c e at s y a p → (q : Packet) × Among q (handles c e p.to p v).sent × Carries c e now s y a q
takes c e at now v s y (asking.Look file w take) p member kind k = answers c e now v s y file w take k.0 p member k.1 (passes_look c e s y file w take k.0 p kind k.2)
takes c e at now v s y (asking.Open serial file how) p member kind k = absurd (only_looks (asking.Open serial file how) p.body kind (carrier_kind c e at s y (asking.Open serial file how) p k))
takes c e at now v s y (asking.Op serial ss n o seen) p member kind k = absurd (only_looks (asking.Op serial ss n o seen) p.body kind (carrier_kind c e at s y (asking.Op serial ss n o seen) p k))
takes c e at now v s y (asking.Close serial ss) p member kind k = absurd (only_looks (asking.Close serial ss) p.body kind (carrier_kind c e at s y (asking.Close serial ss) p k))

handler_leaves : (c : Config) (e : InEpoch) (m : ℕ) (p : Packet) (b : Body) (v : SiteView) → IsLookSs b → (takes_inside (frame_of c e m) p.from b v).view ≡ v
handler_leaves c e m p (body.LookSs us call process request take f w stamp) v k = refl
handler_leaves c e m p _ v k = absurd k

forms : (b : Body) → IsLookSs b → FormsNone b × TriesNone b
forms (body.LookSs us call process request take f w stamp) k = (tt, tt)
forms _ k = absurd k

no_report : (c : Config) (e : InEpoch) (p : Packet) → IsLookSs p.body → (from to group : ℕ) (copies : List ReportedCopy) → Goes c e from to (body.Report group copies) p → ⊥
no_report c e p k from to group copies g = of_kind IsLookSs c e from to (body.Report group copies) p k g

pub look_at_holder : (c : Config) → AllGoToMembers c → CarriesOn c IsLookSs
look_at_holder c members lines n e x w d kind old = handler_row c members lines n e x w d (forms x.packet.body kind).0 (forms x.packet.body kind).1 (record {
  boot = ap (λ (z : SiteView). z.boot) same;
  round = ap (λ (z : SiteView). z.round) same;
  epoch = ap (λ (z : SiteView). z.epoch) same;
  hands = keeping_hands c e x.packet.to (place_at w) x.packet d.view o.view o.sent d.here (subst (λ (z : SiteView). KeepsRoles d.view z) (sym same) (roles_itself d.view))
      (λ y a. inl (subst (λ (z : SiteView). Among y z.users.waiting) same a))
      (λ s y k g. inl (takes c e (place_at w) (placed (place_at w) x.packet.to o.view) d.view s y y.asking x.packet k.member kind g))
      (no_report c e x.packet kind);
}) old
  where
    o : Outcome SiteView
    o = handles c e x.packet.to x.packet d.view

    same : o.view ≡ d.view
    same = handler_leaves c e x.packet.to x.packet x.packet.body d.view kind
