-- The answer of a storage site to an open comes to the synchronization site that waits for it: the open is granted or refused, and
-- its using site is told.
use Rattle.std.proofs.Common.{◌≡◌, ℕ, ◌≤◌, ◌⊎◌, List, [], map, Option, Some, None, refl, sym, ◌∙◌, ap, subst, inl, inr}
use Rattle.locus_ids.specs.declared.config.Config.{Config}
use Rattle.locus_ids.specs.declared.ids.FileId.{FileId}
use Rattle.locus_ids.specs.declared.ids.Serial.{Serial}
use Rattle.locus_ids.specs.Sizes.{sites_max}
use Rattle.wire_messages.specs.declared.body.Body.{Body}
use Rattle.wire_messages.specs.declared.body.Body.TheVariants as body
use Rattle.wire_messages.specs.declared.body.Granted.{Granted}
use Rattle.wire_messages.specs.declared.body.Granted.TheVariants as granted
use Rattle.wire_messages.specs.declared.body.Opening.{Opening}
use Rattle.wire_messages.specs.declared.body.OpenedAs.{OpenedAs}
use Rattle.wire_messages.specs.declared.body.OpenedAs.TheVariants as opened
use Rattle.wire_messages.specs.declared.body.ReportedCopy.{ReportedCopy}
use Rattle.wire_messages.specs.declared.packet.Packet.{Packet}
use Rattle.role_steps.specs.Adoption.{table_group}
use Rattle.role_steps.specs.Opens.{answers_open, by_stage, granted_row, on_opened, on_opened_of, open_key, open_row, stamp_or_none}
use Rattle.role_steps.specs.Tables.{row, first_that}
use Rattle.role_steps.specs.Views.{Frame, SiteView, Outcome, packet, quiet, serial_key}
use Rattle.role_steps.specs.declared.rounds.InEpoch.{InEpoch}
use Rattle.role_steps.specs.declared.synchronizing.OpenRow.{OpenRow}
use Rattle.role_steps.specs.declared.synchronizing.OpenStage.{OpenStage}
use Rattle.role_steps.specs.declared.synchronizing.OpenStage.TheVariants as stage
use Rattle.role_steps.specs.declared.synchronizing.SyncTable.{SyncTable}
use Rattle.role_steps.specs.declared.users.Asking.{Asking}
use Rattle.role_steps.specs.declared.users.Asking.TheVariants as asking
use Rattle.role_steps.specs.declared.users.WaitingCall.{WaitingCall}
use Rattle.the_run.specs.Kept.{Among}
use Rattle.the_run.specs.Steps.{at_table_of, at_table_with, is_opened_in, takes_inside}
use Rattle.the_run.specs.Worlds.{place_at}
use Rattle.tree_laws.specs.Tables.{RowFact}
use Rattle.store_laws.proofs.Numbers.{serial_key_eq}
use Rattle.rest_laws.proofs.StoreStepResting.{store_rests}
use Rattle.store_laws.specs.OneTree.Places.{InsideFact}
use Rattle.store_laws.specs.OneTree.Rest.{Past}
use Rattle.store_laws.proofs.OneTree.Inside.{table_here}
use Rattle.store_laws.proofs.OneTree.Parts.{tables_rise}
use Rattle.store_laws.proofs.OneTree.Rising.{Rising, first_among}
use Rattle.run_laws.specs.Epochs.Forming.{FormsNone}
use Rattle.run_laws.specs.Epochs.Known.{Places}
use Rattle.row_laws.proofs.Orderly.Places.{view_eq}
use Rattle.calm_laws.specs.Carrying.{IsMember, frame_of, Goes, IsAsked, own_serial, opening_body, open_body, CarriesOpen, Carries}
use Rattle.calm_laws.specs.Rounds.{CarriesOn, IsOpened}
use Rattle.calm_laws.proofs.Carriers.{of_kind, MayCarry, carrier_kind}
use Rattle.calm_laws.proofs.CloseAgreed.{member_low, past_of}
use Rattle.calm_laws.proofs.Delivered.{inside_fact}
use Rattle.calm_laws.proofs.Ends.{handles}
use Rattle.calm_laws.proofs.Facts.{RoundFacts, round_facts}
use Rattle.calm_laws.proofs.Handing.{StillWaits}
use Rattle.calm_laws.proofs.Lists.{every_among, row_key}
use Rattle.calm_laws.proofs.Rows.{AllGoToMembers, TriesNone}
use Rattle.calm_laws.proofs.SyncRows.{TableTo, to_itself, open_to, AllTo, all_to_itself, put_to, IsOpenAnswered, LeavesRest, sync_row}

-- ---- what the synchronization site does ----

abbrev on_answer : Frame → Body → SiteView → Outcome SiteView
on_answer f (body.Opened inst a) v = at_table_with (on_opened f inst a) inst v
on_answer f _ v = quiet v

handler_is : (f : Frame) (from : ℕ) (b : Body) (v : SiteView) → IsOpened b → takes_inside f from b v ≡ on_answer f b v
handler_is f from (body.Opened inst a) v k = refl
handler_is f from _ v k = absurd k

forms : (b : Body) → IsOpened b → FormsNone b × TriesNone b
forms (body.Opened inst a) k = (tt, tt)
forms _ k = absurd k

no_report : (c : Config) (e : InEpoch) (p : Packet) → IsOpened p.body → (from to group : ℕ) (copies : List ReportedCopy) → Goes c e from to (body.Report group copies) p → ⊥
no_report c e p k from to group copies g = of_kind IsOpened c e from to (body.Report group copies) p k g

leaves_of : (g : SyncTable → Outcome SyncTable) (o : Option SyncTable) (v : SiteView) → LeavesRest v (at_table_of g o v).view
leaves_of g None v = record { site = record { boot = refl; round = refl; epoch = refl }; users = refl; instances = refl }
leaves_of g (Some t) v = record { site = record { boot = refl; round = refl; epoch = refl }; users = refl; instances = refl }

leaves : (f : Frame) (b : Body) (v : SiteView) → LeavesRest v (on_answer f b v).view
leaves f (body.Opened inst a) v = leaves_of (on_opened f inst a) (first_that (is_opened_in inst) v.tables) v
leaves f _ v = record { site = record { boot = refl; round = refl; epoch = refl }; users = refl; instances = refl }

-- ---- the table ----

module _ (c : Config) (e : InEpoch) (m : ℕ) where
  abbrev f : Frame
  f = frame_of c e m

  -- the using site of the row is told
  told_row : (r : OpenRow) (a : OpenedAs) (t : SyncTable) → (g : Granted) × Among (packet f r.inst.us (body.OpenDone r.inst.serial g)) (answers_open f r a t).sent
  told_row r (opened.Open ino size) t = (granted.Open r.ss (granted_row r ino size).file.ino size (stamp_or_none r.stamp) r.vector, inl refl)
  told_row r (opened.No why) t = (granted.No why, inl refl)

  -- a row is known by the key of the instance of a site 1 to 16
  module _ (t : SyncTable) (low : (r : OpenRow) → Among r t.opens → r.inst.us ≤ sites_max) (member : (s : ℕ) → IsMember e s → s ≤ sites_max) where
    row_name : (r : OpenRow) (i : Serial) → Among r t.opens → i.us ≤ sites_max → serial_key r.inst ≡ serial_key i → r.inst ≡ i
    row_name r i there k same = serial_key_eq r.inst i (low r there) k same

    answers_to : (r : OpenRow) (a : OpenedAs) → Among r t.opens → row open_key (open_key r) t.opens ≡ Some r → TableTo (IsOpenAnswered c e m (answers_open f r a t).sent) t (answers_open f r a t).view
    answers_to r (opened.Open ino size) there found = open_to (IsOpenAnswered c e m (answers_open f r (opened.Open ino size) t).sent) t (granted_row r ino size) r refl found
        (λ i same k. subst (λ (j : Serial). (g : Granted) × Among (packet f j.us (body.OpenDone j.serial g)) (answers_open f r (opened.Open ino size) t).sent) (row_name r i there (member i.us k) same) (told_row r (opened.Open ino size) t))
    answers_to r (opened.No why) there found = open_to (IsOpenAnswered c e m (answers_open f r (opened.No why) t).sent) t (record r { stage = stage.Refused why }) r refl found
        (λ i same k. subst (λ (j : Serial). (g : Granted) × Among (packet f j.us (body.OpenDone j.serial g)) (answers_open f r (opened.No why) t).sent) (row_name r i there (member i.us k) same) (told_row r (opened.No why) t))

    stage_to : (r : OpenRow) (a : OpenedAs) (z : OpenStage) → Among r t.opens → row open_key (open_key r) t.opens ≡ Some r → TableTo (IsOpenAnswered c e m (by_stage f r a z t).sent) t (by_stage f r a z t).view
    stage_to r a stage.Asked there found = answers_to r a there found
    stage_to r a stage.Granted there found = to_itself (IsOpenAnswered c e m []) t
    stage_to r a (stage.Refused why) there found = to_itself (IsOpenAnswered c e m []) t
    stage_to r a stage.Ended there found = to_itself (IsOpenAnswered c e m []) t

    opened_to : (inst : Serial) (a : OpenedAs) → TableTo (IsOpenAnswered c e m (on_opened f inst a t).sent) t (on_opened f inst a t).view
    opened_to inst a = over (open_row t inst) refl
      where
        over : (o : Option OpenRow) → open_row t inst ≡ o → TableTo (IsOpenAnswered c e m (on_opened_of f a o t).sent) t (on_opened_of f a o t).view
        over None q = to_itself (IsOpenAnswered c e m []) t
        over (Some r) q = (let k : Among r t.opens × (open_key r ≡ serial_key inst) = row_key open_key (serial_key inst) t.opens r q in stage_to r a r.stage k.0 (ap (λ (key : ℕ). row open_key key t.opens) k.1 ∙ q))

  tables_to : (v : SiteView) (inst : Serial) (a : OpenedAs) → Rising (map table_group v.tables) → ((t : SyncTable) (r : OpenRow) → Among t v.tables → Among r t.opens → r.inst.us ≤ sites_max) → ((s : ℕ) → IsMember e s → s ≤ sites_max) →
      AllTo (IsOpenAnswered c e m (on_answer f (body.Opened inst a) v).sent) v.tables (on_answer f (body.Opened inst a) v).view.tables
  tables_to v inst a rise low member = over (first_that (is_opened_in inst) v.tables) refl
    where
      over : (o : Option SyncTable) → first_that (is_opened_in inst) v.tables ≡ o → AllTo (IsOpenAnswered c e m (at_table_of (on_opened f inst a) o v).sent) v.tables (at_table_of (on_opened f inst a) o v).view.tables
      over None q = all_to_itself (IsOpenAnswered c e m []) v.tables
      over (Some t) q = (let there : Among t v.tables = first_among (is_opened_in inst) v.tables t q in
          put_to (IsOpenAnswered c e m (on_opened f inst a t).sent) v.tables t (on_opened f inst a t).view rise there (opened_to t (λ r k. low t r there k) member inst a))

-- ---- which calls it carries ----

record Answers (c : Config) (e : InEpoch) (at : Places) (css : ℕ) (inst : Serial) (p : Packet) : Type 0 where
  row : OpenRow
  asked : IsAsked at css inst row
  answer : OpenedAs
  goes : Goes c e row.ss css (body.Opened inst answer) p

answers : (c : Config) (e : InEpoch) (at : Places) (s : ℕ) (x : WaitingCall) (serial : ℕ) (file : FileId) (way : Opening) (css : ℕ) (p : Packet) → IsOpened p.body → CarriesOpen c e at s x serial file way css p → Answers c e at css (own_serial s serial) p
answers c e at s x serial file way css p k (inl g) = absurd (of_kind IsOpened c e s css (open_body x serial file way) p k g)
answers c e at s x serial file way css p k (inr (inl h)) = over h.way
  where
    over : Goes c e css h.opened.ss (opening_body h.opened) p ⊎ ((a : OpenedAs) × Goes c e h.opened.ss css (body.Opened (own_serial s serial) a) p) → Answers c e at css (own_serial s serial) p
    over (inl g) = absurd (of_kind IsOpened c e css h.opened.ss (opening_body h.opened) p k g)
    over (inr g) = record { row = h.opened; asked = h.asked; answer = g.0; goes = g.1 }
answers c e at s x serial file way css p k (inr (inr h)) = absurd (of_kind IsOpened c e css s (body.OpenDone serial h.answer) p k h.goes)

other_kind : (a : Asking) (b : Body) → IsOpened b → ((serial : ℕ) (file : FileId) (way : Opening) → a ≡ asking.Open serial file way → ⊥) → MayCarry a b → ⊥
other_kind (asking.Open serial file way) b k not j = not serial file way refl
other_kind (asking.Look file what take) (body.Opened inst a) k not j = j
other_kind (asking.Look file what take) _ k not j = k
other_kind (asking.Op serial ss n o seen) (body.Opened inst a) k not j = j
other_kind (asking.Op serial ss n o seen) _ k not j = k
other_kind (asking.Close serial ss) (body.Opened inst a) k not j = j
other_kind (asking.Close serial ss) _ k not j = k

look_open : (file : _) (what : _) (take serial : ℕ) (f : FileId) (way : Opening) → asking.Look file what take ≡ asking.Open serial f way → ⊥
look_open file what take serial f way e = cc

op_open : (number ss n : ℕ) (o : _) (seen : List ℕ) (serial : ℕ) (f : FileId) (way : Opening) → asking.Op number ss n o seen ≡ asking.Open serial f way → ⊥
op_open number ss n o seen serial f way e = cc

close_open : (number ss serial : ℕ) (f : FileId) (way : Opening) → asking.Close number ss ≡ asking.Open serial f way → ⊥
close_open number ss serial f way e = cc

-- ---- the row ----

pub opened_row : (c : Config) → AllGoToMembers c → CarriesOn c IsOpened
opened_row c members lines n e x w d kind old =
    sync_row c members lines n e x w d (forms x.packet.body kind).0 (forms x.packet.body kind).1 (subst (λ (o : Outcome SiteView). LeavesRest d.view o.view) (sym is) (leaves f x.packet.body d.view))
    (subst (λ (o : Outcome SiteView). AllTo (IsOpenAnswered c e m o.sent) d.view.tables o.view.tables) (sym is) (to x.packet.body kind))
    (λ now s y k h. takes now s y k y.asking h) (no_report c e x.packet kind) old
  where
    m : ℕ
    m = x.packet.to

    f : Frame
    f = frame_of c e m

    is : handles c e m x.packet d.view ≡ on_answer f x.packet.body d.view
    is = handler_is f x.packet.from x.packet.body d.view kind

    r : RoundFacts c w
    r = round_facts c lines n w d.round

    past : Past c w.trace
    past = past_of c w r

    inside : InsideFact c f w.trace d.view
    inside = inside_fact c e w m d.view r.fact d.before d.member d.here

    row_fact : (t : SyncTable) (q : OpenRow) → Among t d.view.tables → Among q t.opens → RowFact c w.trace e.id t.group q
    row_fact t q there a = every_among (RowFact c w.trace e.id t.group) q t.opens a (table_here c w.trace f d.view inside t there).fact.opens

    low : (t : SyncTable) (q : OpenRow) → Among t d.view.tables → Among q t.opens → q.inst.us ≤ sites_max
    low t q there a = (let k : RowFact c w.trace e.id t.group q = row_fact t q there a in subst (λ (z : ℕ). z ≤ sites_max) k.is_call.site_is ((store_rests c w.trace past).sites e.id k.call k.is_call.inside))

    to : (b : Body) → IsOpened b → AllTo (IsOpenAnswered c e m (on_answer f b d.view).sent) d.view.tables (on_answer f b d.view).view.tables
    to (body.Opened inst a) k = tables_to c e m d.view inst a (tables_rise f d.view.tables inside.groups) low (λ s member. member_low c e w s r d.before member)
    to _ k = absurd k

    takes : (now : Places) (s : ℕ) (y : WaitingCall) → StillWaits e (place_at w) now s y → (a : Asking) → Carries c e (place_at w) s y a x.packet → (q : Packet) × Among q (handles c e m x.packet d.view).sent × Carries c e now s y a q
    takes now s y k (asking.Open serial file way) h = (
      packet f s (body.OpenDone serial sent.0),
      subst (λ (o : Outcome SiteView). Among (packet f s (body.OpenDone serial sent.0)) o.sent) (sym (is ∙ ap (λ (b : Body). on_answer f b d.view) (ap (λ (q : Packet). q.body) g.goes.is))) sent.1,
      (h.0, h.1, inr (inr (record { answer = sent.0; goes = subst (λ (z : ℕ). Goes c e z s (body.OpenDone serial sent.0) (packet f s (body.OpenDone serial sent.0))) same (record { sender = d.member; receiver = k.member; is = refl }) }))),
    )
      where
        inst : Serial
        inst = own_serial s serial

        g : Answers c e (place_at w) h.0 inst x.packet
        g = answers c e (place_at w) s y serial file way h.0 x.packet kind h.2

        same : m ≡ h.0
        same = ap (λ (q : Packet). q.to) g.goes.is

        view : d.view ≡ g.asked.view
        view = view_eq (place_at w m) d.view g.asked.view d.here (ap (place_at w) same ∙ g.asked.here)

        found : first_that (is_opened_in inst) d.view.tables ≡ Some g.asked.table
        found = ap (λ (z : SiteView). first_that (is_opened_in inst) z.tables) view ∙ g.asked.found

        there : Among g.asked.table d.view.tables
        there = first_among (is_opened_in inst) d.view.tables g.asked.table found

        row : Among g.row g.asked.table.opens × (open_key g.row ≡ serial_key inst)
        row = row_key open_key (serial_key inst) g.asked.table.opens g.row g.asked.is_row

        name : g.row.inst ≡ inst
        name = serial_key_eq g.row.inst inst (low g.asked.table g.row there row.0) (member_low c e w s r d.before k.member) row.1

        told : (a : Granted) × Among (packet f g.row.inst.us (body.OpenDone g.row.inst.serial a)) (on_opened f inst g.answer g.asked.table).sent
        told = subst (λ (o : Option OpenRow). (a : Granted) × Among (packet f g.row.inst.us (body.OpenDone g.row.inst.serial a)) (on_opened_of f g.answer o g.asked.table).sent) (sym g.asked.is_row)
            (subst (λ (z : OpenStage). (a : Granted) × Among (packet f g.row.inst.us (body.OpenDone g.row.inst.serial a)) (by_stage f g.row g.answer z g.asked.table).sent) (sym g.asked.asked) (told_row c e m g.row g.answer g.asked.table))

        sent : (a : Granted) × Among (packet f s (body.OpenDone serial a)) (on_answer f (body.Opened inst g.answer) d.view).sent
        sent = subst (λ (o : Option SyncTable). (a : Granted) × Among (packet f s (body.OpenDone serial a)) (at_table_of (on_opened f inst g.answer) o d.view).sent) (sym found)
            (subst (λ (j : Serial). (a : Granted) × Among (packet f j.us (body.OpenDone j.serial a)) (on_opened f inst g.answer g.asked.table).sent) name told)
    takes now s y k (asking.Look file what take) h = absurd (other_kind (asking.Look file what take) x.packet.body kind (λ serial g way. look_open file what take serial g way) (carrier_kind c e (place_at w) s y (asking.Look file what take) x.packet h))
    takes now s y k (asking.Op number ss i o seen) h = absurd (other_kind (asking.Op number ss i o seen) x.packet.body kind (λ serial g way. op_open number ss i o seen serial g way) (carrier_kind c e (place_at w) s y (asking.Op number ss i o seen) x.packet h))
    takes now s y k (asking.Close number ss) h = absurd (other_kind (asking.Close number ss) x.packet.body kind (λ serial g way. close_open number ss serial g way) (carrier_kind c e (place_at w) s y (asking.Close number ss) x.packet h))
