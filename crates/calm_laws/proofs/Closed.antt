-- That a storage site closes an instance comes to the synchronization site that has granted it: it is released, and the storage site is
-- told.
use Rattle.std.proofs.Common.{◌≡◌, ℕ, ◌≤◌, ◌⊎◌, List, map, Option, Some, None, refl, sym, ◌∙◌, ap, subst, inl, inr}
use Rattle.locus_ids.specs.declared.config.Config.{Config}
use Rattle.locus_ids.specs.declared.ids.Serial.{Serial}
use Rattle.locus_ids.specs.Sizes.{sites_max}
use Rattle.schedule_lines.specs.declared.line.ScheduleLine.{ScheduleLine}
use Rattle.wire_messages.specs.declared.body.Body.{Body}
use Rattle.wire_messages.specs.declared.body.Body.TheVariants as body
use Rattle.wire_messages.specs.declared.body.MadeVersion.{MadeVersion}
use Rattle.wire_messages.specs.declared.body.ReportedCopy.{ReportedCopy}
use Rattle.wire_messages.specs.declared.packet.Packet.{Packet}
use Rattle.role_steps.specs.Adoption.{table_group}
use Rattle.role_steps.specs.Opens.{open_key, open_row, with_open}
use Rattle.role_steps.specs.Reports.{closed_ok, closes_at, on_closed, on_closed_of, published, published_notices}
use Rattle.role_steps.specs.Tables.{row, first_that}
use Rattle.role_steps.specs.Views.{Frame, SiteView, Outcome, packet, quiet, serial_key}
use Rattle.role_steps.specs.declared.rounds.InEpoch.{InEpoch}
use Rattle.role_steps.specs.declared.synchronizing.OpenRow.{OpenRow}
use Rattle.role_steps.specs.declared.synchronizing.OpenStage.{OpenStage}
use Rattle.role_steps.specs.declared.synchronizing.OpenStage.TheVariants as stage
use Rattle.role_steps.specs.declared.synchronizing.SyncTable.{SyncTable}
use Rattle.role_steps.specs.declared.users.Asking.{Asking}
use Rattle.role_steps.specs.declared.users.Asking.TheVariants as asking
use Rattle.role_steps.specs.declared.users.WaitingCall.{WaitingCall}
use Rattle.the_run.specs.Kept.{Among}
use Rattle.the_run.specs.Steps.{at_table_of, at_table_with, is_opened_in, takes_inside}
use Rattle.the_run.specs.Worlds.{World, place_at}
use Rattle.tree_laws.specs.Tables.{RowFact}
use Rattle.store_laws.proofs.Numbers.{serial_key_eq}
use Rattle.rest_laws.proofs.StoreStepResting.{store_rests}
use Rattle.store_laws.specs.OneTree.Places.{InsideFact}
use Rattle.store_laws.proofs.OneTree.Inside.{table_here}
use Rattle.store_laws.proofs.OneTree.Parts.{tables_rise}
use Rattle.store_laws.proofs.OneTree.Rising.{Rising, first_among}
use Rattle.run_laws.specs.Epochs.Forming.{FormsNone}
use Rattle.run_laws.specs.Epochs.Known.{Places}
use Rattle.row_laws.specs.Orderly.Calm.{AreTogether}
use Rattle.row_laws.proofs.Orderly.Formed.{among_right}
use Rattle.row_laws.proofs.Orderly.Places.{view_eq}
use Rattle.row_laws.proofs.Orderly.Rounds.{next_among}
use Rattle.calm_laws.specs.SentCalm.Standing.{IsGrantedStage}
use Rattle.calm_laws.specs.Carrying.{frame_of, Goes, HasUnended, own_serial, CarriesClose, Carries}
use Rattle.calm_laws.specs.Rounds.{CarriesOn, ClosesAreGranted, HasGranted, IsClosed, IsInRound}
use Rattle.calm_laws.proofs.Carriers.{of_kind, MayCarry, carrier_kind}
use Rattle.calm_laws.proofs.CloseAgreed.{member_low, past_of}
use Rattle.calm_laws.proofs.Delivered.{inside_fact}
use Rattle.calm_laws.proofs.Ends.{handles}
use Rattle.calm_laws.proofs.Facts.{RoundFacts, round_facts}
use Rattle.calm_laws.proofs.Handing.{StillWaits}
use Rattle.calm_laws.proofs.Lists.{every_among, row_key}
use Rattle.calm_laws.proofs.Rows.{AllGoToMembers, TriesNone}
use Rattle.calm_laws.proofs.SyncRows.{TableTo, to_itself, to_then, row_to_later, AllTo, all_to_itself, put_to, IsOpenAnswered, LeavesRest, sync_row_with}

-- so it is in each world of a round in which all members are together
abbrev pub AllClosesAreGranted : Config → Type 0
AllClosesAreGranted c = (lines : List ScheduleLine) (n : ℕ) (e : InEpoch) (w : World) → IsInRound c lines n w → AreTogether w e → ClosesAreGranted c e w

-- ---- what the synchronization site does ----

abbrev on_ending : Frame → ℕ → Body → SiteView → Outcome SiteView
on_ending f from (body.Closed inst made) v = at_table_with (on_closed f from inst made) inst v
on_ending f from _ v = quiet v

handler_is : (f : Frame) (from : ℕ) (b : Body) (v : SiteView) → IsClosed b → takes_inside f from b v ≡ on_ending f from b v
handler_is f from (body.Closed inst made) v k = refl
handler_is f from _ v k = absurd k

forms : (b : Body) → IsClosed b → FormsNone b × TriesNone b
forms (body.Closed inst made) k = (tt, tt)
forms _ k = absurd k

no_report : (c : Config) (e : InEpoch) (p : Packet) → IsClosed p.body → (from to group : ℕ) (copies : List ReportedCopy) → Goes c e from to (body.Report group copies) p → ⊥
no_report c e p k from to group copies g = of_kind IsClosed c e from to (body.Report group copies) p k g

leaves_of : (g : SyncTable → Outcome SyncTable) (o : Option SyncTable) (v : SiteView) → LeavesRest v (at_table_of g o v).view
leaves_of g None v = record { site = record { boot = refl; round = refl; epoch = refl }; users = refl; instances = refl }
leaves_of g (Some t) v = record { site = record { boot = refl; round = refl; epoch = refl }; users = refl; instances = refl }

leaves : (f : Frame) (from : ℕ) (b : Body) (v : SiteView) → LeavesRest v (on_ending f from b v).view
leaves f from (body.Closed inst made) v = leaves_of (on_closed f from inst made) (first_that (is_opened_in inst) v.tables) v
leaves f from _ v = record { site = record { boot = refl; round = refl; epoch = refl }; users = refl; instances = refl }

-- ---- the table ----

granted_asked : stage.Granted ≡ stage.Asked → ⊥
granted_asked e = cc

published_to : (S : Serial → Type 0) (ss : ℕ) (r : OpenRow) (made : Option MadeVersion) (t n : SyncTable) → TableTo S t n → TableTo S t (published ss r made n)
published_to S ss r None t n h = h
published_to S ss r (Some v) t n h = to_then S t n (published ss r (Some v) n) h refl refl refl refl refl

closes_to : (S : Serial → Type 0) (f : Frame) (ss : ℕ) (r : OpenRow) (made : Option MadeVersion) (z : OpenStage) (t : SyncTable) → r.stage ≡ z → row open_key (open_key r) t.opens ≡ Some r → TableTo S t (closes_at f ss r made z t).view
closes_to S f ss r made stage.Granted t is found = published_to S ss r made t (with_open (record r { stage = stage.Ended }) t) (row_to_later S t (record r { stage = stage.Ended }) r refl found (λ a. granted_asked (sym is ∙ a)))
closes_to S f ss r made stage.Ended t is found = to_itself S t
closes_to S f ss r made stage.Asked t is found = to_itself S t
closes_to S f ss r made (stage.Refused why) t is found = to_itself S t

closed_to : (S : Serial → Type 0) (f : Frame) (ss : ℕ) (inst : Serial) (made : Option MadeVersion) (t : SyncTable) → TableTo S t (on_closed f ss inst made t).view
closed_to S f ss inst made t = over (open_row t inst) refl
  where
    over : (o : Option OpenRow) → open_row t inst ≡ o → TableTo S t (on_closed_of f ss made o t).view
    over None q = to_itself S t
    over (Some r) q = (let k : Among r t.opens × (open_key r ≡ serial_key inst) = row_key open_key (serial_key inst) t.opens r q in closes_to S f ss r made r.stage t refl (ap (λ (key : ℕ). row open_key key t.opens) k.1 ∙ q))

tables_to : (S : Serial → Type 0) (f : Frame) (ss : ℕ) (inst : Serial) (made : Option MadeVersion) (v : SiteView) → Rising (map table_group v.tables) → AllTo S v.tables (on_ending f ss (body.Closed inst made) v).view.tables
tables_to S f ss inst made v rise = over (first_that (is_opened_in inst) v.tables) refl
  where
    over : (o : Option SyncTable) → first_that (is_opened_in inst) v.tables ≡ o → AllTo S v.tables (at_table_of (on_closed f ss inst made) o v).view.tables
    over None q = all_to_itself S v.tables
    over (Some t) q = put_to S v.tables t (on_closed f ss inst made t).view rise (first_among (is_opened_in inst) v.tables t q) (closed_to S f ss inst made t)

-- the storage site is told
pub told : (f : Frame) (ss : ℕ) (r : OpenRow) (made : Option MadeVersion) (z : OpenStage) (t : SyncTable) → IsGrantedStage z → Among (packet f ss (body.ClosedOk r.inst)) (closes_at f ss r made z t).sent
told f ss r made stage.Granted t k = among_right (packet f ss (body.ClosedOk r.inst)) (published_notices f r made (published ss r made (with_open (record r { stage = stage.Ended }) t))) (closed_ok f ss r.inst) (inl refl)
told f ss r made stage.Ended t k = inl refl
told f ss r made stage.Asked t k = absurd k
told f ss r made (stage.Refused why) t k = absurd k

-- ---- which calls it carries ----

record Ending (c : Config) (e : InEpoch) (at : Places) (s serial ss : ℕ) (p : Packet) : Type 0 where
  unended : HasUnended at ss (own_serial s serial)
  css : ℕ
  made : Option MadeVersion
  goes : Goes c e ss css (body.Closed (own_serial s serial) made) p

ending : (c : Config) (e : InEpoch) (at : Places) (s serial ss : ℕ) (p : Packet) → IsClosed p.body → CarriesClose c e at s serial ss p → Ending c e at s serial ss p
ending c e at s serial ss p k (inl g) = absurd (of_kind IsClosed c e s ss (body.Close serial) p k g)
ending c e at s serial ss p k (inr (inl h)) = by_way h.way
  where
    by_way : ((made : Option MadeVersion) × Goes c e ss h.css (body.Closed (own_serial s serial) made) p) ⊎ Goes c e h.css ss (body.ClosedOk (own_serial s serial)) p → Ending c e at s serial ss p
    by_way (inl g) = record { unended = h.unended; css = h.css; made = g.0; goes = g.1 }
    by_way (inr g) = absurd (of_kind IsClosed c e h.css ss (body.ClosedOk (own_serial s serial)) p k g)
ending c e at s serial ss p k (inr (inr h)) = absurd (of_kind IsClosed c e ss s (body.CloseDone serial h.answer) p k h.goes)

other_kind : (a : Asking) (b : Body) → IsClosed b → ((serial ss : ℕ) → a ≡ asking.Close serial ss → ⊥) → MayCarry a b → ⊥
other_kind (asking.Close serial ss) b k not j = not serial ss refl
other_kind (asking.Look file what take) (body.Closed inst made) k not j = j
other_kind (asking.Look file what take) _ k not j = k
other_kind (asking.Open serial file how) (body.Closed inst made) k not j = j
other_kind (asking.Open serial file how) _ k not j = k
other_kind (asking.Op serial ss n o seen) (body.Closed inst made) k not j = j
other_kind (asking.Op serial ss n o seen) _ k not j = k

look_close : (file : _) (what : _) (take serial ss : ℕ) → asking.Look file what take ≡ asking.Close serial ss → ⊥
look_close file what take serial ss e = cc

open_close : (serial : ℕ) (file : _) (how : _) (number ss : ℕ) → asking.Open serial file how ≡ asking.Close number ss → ⊥
open_close serial file how number ss e = cc

op_close : (serial place n : ℕ) (o : _) (seen : List ℕ) (number ss : ℕ) → asking.Op serial place n o seen ≡ asking.Close number ss → ⊥
op_close serial place n o seen number ss e = cc

-- ---- the row ----

pub closed_row : (c : Config) → AllGoToMembers c → AllClosesAreGranted c → CarriesOn c IsClosed
closed_row c members heard lines n e x w d kind old =
    sync_row_with c members lines n e x w d (forms x.packet.body kind).0 (forms x.packet.body kind).1 (subst (λ (o : Outcome SiteView). LeavesRest d.view o.view) (sym is) (leaves f x.packet.from x.packet.body d.view))
    (subst (λ (z : List SyncTable). AllTo (IsOpenAnswered c e m (handles c e m x.packet d.view).sent) d.view.tables z) (sym (ap (λ (o : Outcome SiteView). o.view.tables) is)) (to (IsOpenAnswered c e m (handles c e m x.packet d.view).sent) x.packet.body kind))
    (λ now unended s y k h. takes now unended s y k y.asking refl h) (no_report c e x.packet kind) old
  where
    m : ℕ
    m = x.packet.to

    f : Frame
    f = frame_of c e m

    is : handles c e m x.packet d.view ≡ on_ending f x.packet.from x.packet.body d.view
    is = handler_is f x.packet.from x.packet.body d.view kind

    r : RoundFacts c w
    r = round_facts c lines n w d.round

    inside : InsideFact c f w.trace d.view
    inside = inside_fact c e w m d.view r.fact d.before d.member d.here

    to : (S : Serial → Type 0) (b : Body) → IsClosed b → AllTo S d.view.tables (on_ending f x.packet.from b d.view).view.tables
    to S (body.Closed inst made) k = tables_to S f x.packet.from inst made d.view (tables_rise f d.view.tables inside.groups)
    to S _ k = absurd k

    low : (t : SyncTable) (q : OpenRow) → Among t d.view.tables → Among q t.opens → q.inst.us ≤ sites_max
    low t q there a = (let k : RowFact c w.trace e.id t.group q = every_among (RowFact c w.trace e.id t.group) q t.opens a (table_here c w.trace f d.view inside t there).fact.opens in
        subst (λ (z : ℕ). z ≤ sites_max) k.is_call.site_is ((store_rests c w.trace (past_of c w r)).sites e.id k.call k.is_call.inside))

    takes : (now : Places) → ((ss : ℕ) (inst : Serial) → HasUnended (place_at w) ss inst → HasUnended now ss inst) → (s : ℕ) (y : WaitingCall) → StillWaits e (place_at w) now s y → (a : Asking) → y.asking ≡ a → Carries c e (place_at w) s y a x.packet →
        (q : Packet) × Among q (handles c e m x.packet d.view).sent × Carries c e now s y a q
    takes now unended s y k (asking.Close serial ss) asks h = (
      packet f ss (body.ClosedOk inst),
      subst (λ (o : Outcome SiteView). Among (packet f ss (body.ClosedOk inst)) o.sent) (sym (is ∙ ap (λ (q : Packet). on_ending f q.from q.body d.view) g.goes.is)) sent,
      inr (inl (record { unended = unended ss inst g.unended; css = g.css; way = inr (subst (λ (z : ℕ). Goes c e z ss (body.ClosedOk inst) (packet f ss (body.ClosedOk inst))) same (record { sender = d.member; receiver = g.goes.sender; is = refl })) })),
    )
      where
        inst : Serial
        inst = own_serial s serial

        g : Ending c e (place_at w) s serial ss x.packet
        g = ending c e (place_at w) s serial ss x.packet kind h

        same : m ≡ g.css
        same = ap (λ (q : Packet). q.to) g.goes.is

        has : HasGranted (place_at w) g.css inst
        has = heard lines n e w d.round d.before x s serial ss g.css g.made k.before y (next_among w w.over x d.next) g.goes k.member k.was k.waited asks

        found : first_that (is_opened_in inst) d.view.tables ≡ Some has.table
        found = ap (λ (z : SiteView). first_that (is_opened_in inst) z.tables) (view_eq (place_at w m) d.view has.view d.here (ap (place_at w) same ∙ has.here)) ∙ has.found

        row : Among has.row has.table.opens × (open_key has.row ≡ serial_key inst)
        row = row_key open_key (serial_key inst) has.table.opens has.row has.is_row

        name : has.row.inst ≡ inst
        name = serial_key_eq has.row.inst inst (low has.table has.row (first_among (is_opened_in inst) d.view.tables has.table found) row.0) (member_low c e w s r d.before k.member) row.1

        sent : Among (packet f ss (body.ClosedOk inst)) (on_ending f ss (body.Closed inst g.made) d.view).sent
        sent = subst (λ (o : Option SyncTable). Among (packet f ss (body.ClosedOk inst)) (at_table_of (on_closed f ss inst g.made) o d.view).sent) (sym found)
            (subst (λ (o : Option OpenRow). Among (packet f ss (body.ClosedOk inst)) (on_closed_of f ss g.made o has.table).sent) (sym has.is_row)
            (subst (λ (j : Serial). Among (packet f ss (body.ClosedOk j)) (closes_at f ss has.row g.made has.row.stage has.table).sent) name (told f ss has.row g.made has.row.stage has.table has.heard)))
    takes now unended s y k (asking.Look file what take) asks h = absurd (other_kind (asking.Look file what take) x.packet.body kind (λ serial ss. look_close file what take serial ss) (carrier_kind c e (place_at w) s y (asking.Look file what take) x.packet h))
    takes now unended s y k (asking.Open serial file how) asks h = absurd (other_kind (asking.Open serial file how) x.packet.body kind (λ number ss. open_close serial file how number ss) (carrier_kind c e (place_at w) s y (asking.Open serial file how) x.packet h))
    takes now unended s y k (asking.Op serial place number o seen) asks h = absurd (other_kind (asking.Op serial place number o seen) x.packet.body kind (λ other ss. op_close serial place number o seen other ss) (carrier_kind c e (place_at w) s y (asking.Op serial place number o seen) x.packet h))
