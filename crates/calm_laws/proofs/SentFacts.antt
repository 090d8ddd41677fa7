-- In each world of a round in which all members are together, what a member reports no more has come to its synchronization site, and what a
-- Closed under way closes was granted where it goes.
use Rattle.std.proofs.Common.{◌≡◌, ℕ, ◌<◌, ◌≤◌, ◌⊎◌, Bool, true, false, ◌||◌, List, [], ◌∷◌, length, map, Option, Some, refl, sym, ◌∙◌, ap, subst, inl, inr, arith}
use Rattle.std.specs.List.{list_any}
use Rattle.role_steps.proofs.of_plain_facts.Options.{some_same}
use Rattle.role_steps.proofs.of_plain_facts.Tests.{or_either, or_first, or_second}
use Rattle.locus_ids.specs.Sites.{has}
use Rattle.locus_ids.specs.declared.config.Config.{Config}
use Rattle.locus_ids.specs.declared.ids.CallId.{CallId}
use Rattle.locus_ids.specs.declared.ids.EpochId.{EpochId}
use Rattle.locus_ids.specs.declared.ids.FileId.{FileId}
use Rattle.locus_ids.specs.declared.ids.Mode.{Mode}
use Rattle.locus_ids.specs.declared.ids.Mode.TheVariants as mode
use Rattle.locus_ids.specs.declared.ids.Serial.{Serial}
use Rattle.locus_ids.specs.declared.ids.Stamp.{Stamp}
use Rattle.locus_ids.specs.Sizes.{sites_max}
use Rattle.schedule_lines.specs.declared.line.ScheduleLine.{ScheduleLine}
use Rattle.trace_book.specs.Same.{same_serial}
use Rattle.trace_book.specs.declared.record.Record.{Record}
use Rattle.trace_book.specs.declared.record.Record.TheVariants as says
use Rattle.wire_messages.specs.declared.body.Body.TheVariants as body
use Rattle.wire_messages.specs.declared.body.MadeVersion.{MadeVersion}
use Rattle.wire_messages.specs.declared.packet.Packet.{Packet}
use Rattle.role_steps.specs.Adoption.{table_group}
use Rattle.role_steps.specs.Epochs.{own_groups}
use Rattle.role_steps.specs.Opens.{open_key}
use Rattle.role_steps.specs.Reports.{stamp_made}
use Rattle.role_steps.specs.Tables.{row, first_that}
use Rattle.role_steps.specs.Views.{SiteView, Told, Shown, Shuts, all_groups, pack_sites, packet, serial_key, sync_site}
use Rattle.role_steps.specs.declared.rounds.InEpoch.{InEpoch}
use Rattle.role_steps.specs.declared.synchronizing.OpenRow.{OpenRow}
use Rattle.role_steps.specs.declared.synchronizing.OpenStage.{OpenStage}
use Rattle.role_steps.specs.declared.synchronizing.OpenStage.TheVariants as stage
use Rattle.role_steps.specs.declared.synchronizing.SyncTable.{SyncTable}
use Rattle.the_run.specs.Kept.{Among}
use Rattle.the_run.specs.Steps.{from_user, is_opened_in}
use Rattle.the_run.specs.Worlds.{World, Running, Line, place_at}
use Rattle.tree_laws.specs.Following.{IsFollowed, MayTell}
use Rattle.tree_laws.specs.Packets.{PacketFact, ClosedFact, EndsNow}
use Rattle.tree_laws.specs.Past.{EndRecord, Printed, ShutsIt, WasBegun, WasGranted, WasNamed, WasRefused, WasReleased, WasReleasedWith, WasShut}
use Rattle.tree_laws.specs.Tables.{AskedFact, RowFact, StageFact}
use Rattle.tree_laws.proofs.Names.{same_serial_eq, same_serial_own}
use Rattle.tree_laws.proofs.Serials.{unnamed}
use Rattle.store_laws.proofs.Begun.{begun_one, granted_named}
use Rattle.store_laws.proofs.Numbers.{serial_key_eq}
use Rattle.store_laws.proofs.Places.{GrantedSo, granted_once, instance_granted}
use Rattle.tree_laws.proofs.Syncs.Answering.{one_answer}
use Rattle.rest_laws.proofs.StoreStepResting.{store_rests}
use Rattle.store_laws.specs.OneTree.Places.{InsideFact}
use Rattle.store_laws.specs.OneTree.Rest.{Past}
use Rattle.store_laws.proofs.OneTree.Inside.{table_here}
use Rattle.store_laws.proofs.OneTree.Parts.{synced_one, tables_rise}
use Rattle.store_laws.proofs.OneTree.Rising.{Rising, row_key, every_among}
use Rattle.row_laws.specs.Orderly.Calm.{AreTogether, IsInside}
use Rattle.row_laws.proofs.Orderly.Places.{view_eq}
use Rattle.calm_laws.specs.SentCalm.Standing.{AskedStands, BodyStands, ClosesThere, HasGrant, HasReport, IsGranted, IsGrantedStage, IsReported}
use Rattle.calm_laws.proofs.SentCalm.Run.{Both, both_kept, first_both, instances_stand_in, packets_stand_in, reports_stand_in}
use Rattle.calm_laws.proofs.SentCalm.Views.{rising_found}
use Rattle.calm_laws.specs.Carrying.{IsMember, HasReported, frame_of, own_serial}
use Rattle.calm_laws.specs.Rounds.{ClosesAreGranted, IsInRound, ReportsAreKnown}
use Rattle.calm_laws.proofs.Begun.{Begun, begun_of, begun_low}
use Rattle.calm_laws.proofs.CloseAgreed.{came_fact, member_low, past_of}
use Rattle.calm_laws.proofs.Delivered.{inside_fact}
use Rattle.calm_laws.proofs.Facts.{RoundFacts, round_facts}
use Rattle.calm_laws.proofs.OpenAtStorage.{release_of}
use Rattle.calm_laws.proofs.Rounds.{in_round}
use Rattle.calm_laws.proofs.TableThere.{left_in, listed, packed_low}
use Rattle.calm_laws.proofs.UserParts.{Found, first_found}

-- ---- what is closed was begun on the file on which it was granted ----

record IsOnOneFile (trace : List Line) (e : EpochId) (i : Serial) : Type 0 where
  file : FileId
  site : ℕ
  begun : WasBegun trace site e i file
  call : CallId
  request : ℕ
  how : Mode
  stamp : Option Stamp
  place : ℕ
  granted : WasGranted trace e call request i how file stamp place

on_later : (x : Line) (older : List Line) (e : EpochId) (i : Serial) → IsOnOneFile older e i → IsOnOneFile (x ∷ older) e i
on_later x older e i k = record { file = k.file; site = k.site; begun = inr k.begun; call = k.call; request = k.request; how = k.how; stamp = k.stamp; place = k.place; granted = inr k.granted }

shut_on : (c : Config) (trace : List Line) → IsFollowed c trace → (s : ℕ) (e : EpochId) (i : Serial) → WasShut trace s e i → IsOnOneFile trace e i
shut_on c [] h s e i k = absurd k
shut_on c (x ∷ older) h s e i (inr k) = on_later x older e i (shut_on c older h.1 s e i k)
shut_on c (x ∷ older) h s e i (inl k) = on_later x older e i (now x.told h.0 k)
  where
    now : (z : Told) → MayTell c older z → ShutsIt s e i older z → IsOnOneFile older e i
    now (Shuts site at inst) may p = subst (λ (y : EpochId). IsOnOneFile older y i) p.epoch_is (subst (λ (j : Serial). IsOnOneFile older at j) p.serial_is
        (let g : GrantedSo older at may.at.grant × (may.at.grant.inst ≡ inst) = instance_granted c older at inst may.at may.open_at.found in record {
          file = may.at.grant.file;
          site = site;
          begun = may.runs.begun;
          call = may.at.grant.call;
          request = g.0.request;
          how = may.at.grant.mode;
          stamp = g.0.stamp;
          place = may.at.grant.ss;
          granted = subst (λ (j : Serial). WasGranted older at may.at.grant.call g.0.request j may.at.grant.mode may.at.grant.file g.0.stamp may.at.grant.ss) g.1 g.0.was_granted;
        }))
    now _ may p = absurd p

-- what was released was shut
released_on : (c : Config) (trace : List Line) → IsFollowed c trace → (e : EpochId) (i : Serial) → WasReleased trace e i → IsOnOneFile trace e i
released_on c [] h e i k = absurd k
released_on c (x ∷ older) h e i (inr k) = on_later x older e i (released_on c older h.1 e i k)
released_on c (x ∷ older) h e i (inl k) = on_later x older e i (over x.told h.0 k)
  where
    of : (r : Record) → MayTell c older (Shown r) → EndRecord e i older r → IsOnOneFile older e i
    of (says.Release at inst file last) may p = subst (λ (y : EpochId). IsOnOneFile older y i) p.epoch_is (subst (λ (j : Serial). IsOnOneFile older at j) p.serial_is (shut_on c older h.1 may.in_time.at.grant.ss at inst may.in_time.shut))
    of r may p = absurd p

    over : (z : Told) → MayTell c older z → Printed (EndRecord e i) older z → IsOnOneFile older e i
    over (Shown r) may p = of r may p
    over z may p = absurd p

closed_on : (c : Config) (trace : List Line) → IsFollowed c trace → (e : EpochId) (ss : ℕ) (i : Serial) (made : Option MadeVersion) → ClosedFact c trace e ss i made → IsOnOneFile trace e i
closed_on c trace h e ss i made k = over k.ends
  where
    over : ((a : _) × WasReleasedWith c trace e i (stamp_made made) a) ⊎ EndsNow c trace e ss i (stamp_made made) → IsOnOneFile trace e i
    over (inl r) = released_on c trace h e i (release_of c trace e i (stamp_made made) r.0 r.1)
    over (inr n) = shut_on c trace h ss e i n.shut

-- ---- rows ----

module _ (c : Config) (trace : List Line) (followed : IsFollowed c trace) (e : EpochId) (i : Serial) where
  granted_row : (r : OpenRow) (d : CallId) (z : OpenStage) → StageFact c trace e r d z → IsGrantedStage z → WasGranted trace e d r.request r.inst r.mode r.file r.stamp r.ss
  granted_row r d stage.Granted k g = k.0.was_granted
  granted_row r d stage.Ended k g = k.0
  granted_row r d stage.Asked k g = absurd g
  granted_row r d (stage.Refused why) k g = absurd g

  module _ (b : CallId) (request : ℕ) (how : Mode) (file : FileId) (stamp : Option Stamp) (place : ℕ) (granted : WasGranted trace e b request i how file stamp place) where
    one_file : (r : OpenRow) (d : CallId) → r.inst ≡ i → WasGranted trace e d r.request r.inst r.mode r.file r.stamp r.ss → r.file ≡ file
    one_file r d same k = (granted_once c trace followed e d b r.request request i r.mode how r.file file r.stamp stamp r.ss place (subst (λ (j : Serial). WasGranted trace e d r.request j r.mode r.file r.stamp r.ss) same k) granted).file_is

    -- an open that waits for its storage site is granted, but for a make, which isn't named
    asked_file : (r : OpenRow) (d : CallId) (m : Mode) → r.inst ≡ i → r.mode ≡ m → AskedFact c trace e r d m → r.file ≡ file
    asked_file r d mode.Make same is k = absurd (unnamed c trace e k.make.call k.make.request r.inst k.make.file _ followed k.make.asks k.make.user_is (subst (λ (j : Serial). WasNamed trace e j) (sym same) (granted_named trace e b request i how file stamp place granted)))
    asked_file r d mode.Read same is k = one_file r d same k.0.was_granted
    asked_file r d mode.Write same is k = one_file r d same k.0.was_granted
    asked_file r d mode.Resolve same is k = one_file r d same k.0.was_granted
    asked_file r d mode.Mend same is k = one_file r d same k.0.was_granted

    -- each row of the instance is of its file
    row_file : (r : OpenRow) (d : CallId) (z : OpenStage) → r.inst ≡ i → StageFact c trace e r d z → r.file ≡ file
    row_file r d stage.Granted same k = one_file r d same k.0.was_granted
    row_file r d stage.Ended same k = one_file r d same k.0
    row_file r d stage.Asked same k = asked_file r d r.mode same refl k
    row_file r d (stage.Refused why) same k = absurd (one_answer c e i d b r.request request r.mode why how file stamp place trace followed (subst (λ (j : Serial). WasRefused trace e d r.request j r.mode why) same k) granted)

-- ---- opens by name ----

abbrev is_of : Serial → OpenRow → Bool
is_of i r = same_serial r.inst i

any_row : (i : Serial) (rs : List OpenRow) → list_any (is_of i) rs ≡ true → (r : OpenRow) × Among r rs × (r.inst ≡ i)
any_row i [] e = absurd (false_true e)
  where
    false_true : false ≡ true → ⊥
    false_true q = cc
any_row i (r ∷ rs) e = over (λ h. any_row i rs h) (or_either (is_of i r) (list_any (is_of i) rs) e)
  where
    over : (list_any (is_of i) rs ≡ true → (q : OpenRow) × Among q rs × (q.inst ≡ i)) → (is_of i r ≡ true) ⊎ (list_any (is_of i) rs ≡ true) → (q : OpenRow) × Among q (r ∷ rs) × (q.inst ≡ i)
    over later (inl h) = (r, inl refl, same_serial_eq r.inst i h)
    over later (inr h) = (let k : (q : OpenRow) × Among q rs × (q.inst ≡ i) = later h in (k.0, inr k.1, k.2))

any_there : (i : Serial) (rs : List OpenRow) (r : OpenRow) → Among r rs → r.inst ≡ i → list_any (is_of i) rs ≡ true
any_there i [] r a e = absurd a
any_there i (x ∷ xs) r (inl same) e = or_first (is_of i x) (list_any (is_of i) xs) (subst (λ (j : Serial). same_serial j i ≡ true) (sym (ap (λ (z : OpenRow). z.inst) (sym same) ∙ e)) (same_serial_own i))
any_there i (x ∷ xs) r (inr a) e = or_second (is_of i x) (list_any (is_of i) xs) (any_there i xs r a e)

-- ---- the worlds of a round ----

module _ (c : Config) (lines : List ScheduleLine) (n : ℕ) (e : InEpoch) (w : World) (round : IsInRound c lines n w) (together : AreTogether w e) where
  stand : Both c w
  stand = in_round c (Both c) (both_kept c) (first_both c) lines n w round

  facts : RoundFacts c w
  facts = round_facts c lines n w round

  past : Past c w.trace
  past = past_of c w facts

  followed : IsFollowed c w.trace
  followed = past.followed

  -- a member is in the epoch
  in_epoch : (s : ℕ) (v : SiteView) → IsMember e s → place_at w s ≡ Some (Running v) → v.epoch ≡ Some e
  in_epoch s v member here = (let i : IsInside w e s = together.inside s member in ap (λ (z : SiteView). z.epoch) (view_eq (place_at w s) v i.view here i.here) ∙ i.epoch)

  inside_of : (s : ℕ) (member : IsMember e s) → InsideFact c (frame_of c e s) w.trace (together.inside s member).view
  inside_of s member = inside_fact c e w s (together.inside s member).view facts.fact together member (together.inside s member).here

  -- a table of a member is of a group that it synchronizes
  synced : (s : ℕ) (member : IsMember e s) (group : ℕ) (t : SyncTable) → row table_group group (together.inside s member).view.tables ≡ Some t → sync_site c e.members group ≡ Some s
  synced s member group t found =
      let k : Among t (together.inside s member).view.tables × (t.group ≡ group) = row_key table_group group (together.inside s member).view.tables t found in
      subst (λ (g : ℕ). sync_site c e.members g ≡ Some s) k.1 (synced_one (frame_of c e s) (together.inside s member).view.tables (inside_of s member).groups t k.0)

  own_listed : (group s : ℕ) → has (pack_sites c group) s ≡ true → Among group (own_groups c s)
  own_listed group s packed = left_in (λ (g : ℕ). has (pack_sites c g) s) group all_groups (listed group (let k : group < length c.packs = packed_low c group s packed in let m : length c.packs ≤ 4 = round.groups in omega (arith, k, m))) packed

  pub reports_known : ReportsAreKnown c e w
  reports_known group css s v sync member packed here = over (reports_stand_in c w stand s v e group here (in_epoch s v member here) (own_listed group s packed))
    where
      reported : IsReported (place_at w) e s group → HasReported (place_at w) css group s
      reported k = record { view = t.view; here = ap (place_at w) same ∙ t.here; table = h.table; found = h.found; reported = h.reported }
        where
          t : IsInside w e k.to
          t = together.inside k.to k.member

          h : HasReport group s t.view.tables
          h = k.stands t.view e t.here t.boot t.epoch refl

          same : css ≡ k.to
          same = some_same css k.to (sym sync ∙ synced k.to k.member group h.table h.found)

      over : Among group v.reports ⊎ IsReported (place_at w) e s group → Among group v.reports ⊎ HasReported (place_at w) css group s
      over (inl m) = inl m
      over (inr k) = inr (reported k)

  -- ---- what is closed ----

  -- the open of the site's instance as a member has it, which its table is found by
  record IsThere (s serial by : ℕ) (v : SiteView) : Type 0 where
    table : SyncTable
    found : first_that (is_opened_in (own_serial s serial)) v.tables ≡ Some table
    open_row : OpenRow
    is_row : row open_key (serial_key (own_serial s serial)) table.opens ≡ Some open_row
    granted : IsGrantedStage open_row.stage
    call : CallId
    was : WasGranted w.trace e.id call open_row.request (own_serial s serial) open_row.mode open_row.file open_row.stamp open_row.ss
    synced_by : sync_site c e.members open_row.file.group ≡ Some by

  there : (s serial by group : ℕ) → IsMember e s → (member : IsMember e by) → HasGrant group (from_user s serial) (together.inside by member).view.tables → IsThere s serial by (together.inside by member).view
  there s serial by group user member h = record {
    table = h.table;
    found = subst (λ (t : SyncTable). first_that (is_opened_in i) v.tables ≡ Some t) one first.found;
    open_row = r;
    is_row = h.grant.found;
    granted = h.grant.granted;
    call = rf.call;
    was = was;
    synced_by = subst (λ (g : ℕ). sync_site c e.members g ≡ Some by) (sym (rf.group_is ∙ at.1)) (synced by member group h.table h.found);
  }
    where
      i : Serial
      i = own_serial s serial

      v : SiteView
      v = (together.inside by member).view

      inside : InsideFact c (frame_of c e by) w.trace v
      inside = inside_of by member

      r : OpenRow
      r = h.grant.open_row

      at : Among h.table v.tables × (h.table.group ≡ group)
      at = row_key table_group group v.tables h.table h.found

      in_opens : Among r h.table.opens × (open_key r ≡ serial_key i)
      in_opens = row_key open_key (serial_key i) h.table.opens r h.grant.found

      row_fact : (t : SyncTable) (q : OpenRow) → Among t v.tables → Among q t.opens → RowFact c w.trace e.id t.group q
      row_fact t q a b = every_among (RowFact c w.trace e.id t.group) q t.opens b (table_here c w.trace (frame_of c e by) v inside t a).fact.opens

      rf : RowFact c w.trace e.id h.table.group r
      rf = row_fact h.table r at.0 in_opens.0

      low : r.inst.us ≤ sites_max
      low = subst (λ (z : ℕ). z ≤ sites_max) rf.is_call.site_is ((store_rests c w.trace past).sites e.id rf.call rf.is_call.inside)

      name : r.inst ≡ i
      name = serial_key_eq r.inst i low (member_low c e w s facts together user) in_opens.1

      was : WasGranted w.trace e.id rf.call r.request i r.mode r.file r.stamp r.ss
      was = subst (λ (j : Serial). WasGranted w.trace e.id rf.call r.request j r.mode r.file r.stamp r.ss) name (granted_row c w.trace followed e.id i r rf.call r.stage rf.stage h.grant.granted)

      first : Found (is_opened_in i) v.tables
      first = first_found (is_opened_in i) v.tables h.table at.0 (any_there i h.table.opens r in_opens.0 name)

      other : (q : OpenRow) × Among q first.it.opens × (q.inst ≡ i)
      other = any_row i first.it.opens first.passes

      of : RowFact c w.trace e.id first.it.group other.0
      of = row_fact first.it other.0 first.there other.1

      same_group : first.it.group ≡ h.table.group
      same_group = sym of.group_is ∙ (ap (λ (f : FileId). f.group) (row_file c w.trace followed e.id i rf.call r.request r.mode r.file r.stamp r.ss was other.0 of.call other.0.stage other.2 of.stage) ∙ rf.group_is)

      rise : Rising (map table_group v.tables)
      rise = tables_rise (frame_of c e by) v.tables inside.groups

      one : first.it ≡ h.table
      one = some_same first.it h.table (sym (rising_found first.it v.tables rise first.there) ∙ (ap (λ (g : ℕ). row table_group g v.tables) same_group ∙ rising_found h.table v.tables rise at.0))

  pub closes_granted : ClosesAreGranted c e w
  closes_granted x s serial ss css made v y under goes user here waits asks = record {
    view = (together.inside k.by k.member).view;
    here = ap (place_at w) same ∙ (together.inside k.by k.member).here;
    table = o.table;
    found = o.found;
    row = o.open_row;
    is_row = o.is_row;
    heard = o.granted;
  }
    where
      i : Serial
      i = own_serial s serial

      k : IsGranted (place_at w) e s serial
      k = subst (AskedStands (place_at w) e s) asks ((instances_stand_in c w stand).asked s v e y here (in_epoch s v user here) waits)

      t : IsInside w e k.by
      t = together.inside k.by k.member

      o : IsThere s serial k.by t.view
      o = there s serial k.by k.group user k.member (k.stands t.view e t.here t.boot t.epoch refl)

      p : Packet
      p = packet (frame_of c e ss) css (body.Closed i made)

      closes : ClosesThere c w p i
      closes = subst (λ (q : Packet). BodyStands c w q q.body) goes.is (packets_stand_in c w stand x (inr under))

      storage : IsInside w e ss
      storage = together.inside ss goes.sender

      synced_css : sync_site c e.members closes.file.group ≡ Some css
      synced_css = closes.to storage.view e storage.here storage.boot storage.epoch refl

      noted : Begun w.trace e.id (serial_key i) ss closes.file
      noted = begun_of w.trace e.id (serial_key i) ss closes.file closes.begun

      begun : WasBegun w.trace ss e.id i closes.file
      begun = subst (λ (j : Serial). WasBegun w.trace ss e.id j closes.file) (serial_key_eq noted.inst i (begun_low c w.trace past ss e.id noted.inst closes.file noted.was) (member_low c e w s facts together user) noted.key_is) noted.was

      on : IsOnOneFile w.trace e.id i
      on = closed_on c w.trace followed e.id ss i made (subst (PacketFact c w.trace) goes.is (came_fact c w x facts under))

      one_file_is : closes.file ≡ o.open_row.file
      one_file_is = (begun_one c w.trace followed e.id i ss on.site closes.file on.file begun on.begun).1
          ∙ (granted_once c w.trace followed e.id on.call o.call on.request o.open_row.request i on.how o.open_row.mode on.file o.open_row.file on.stamp o.open_row.stamp on.place o.open_row.ss on.granted o.was).file_is

      same : css ≡ k.by
      same = some_same css k.by (sym synced_css ∙ (ap (λ (f : FileId). sync_site c e.members f.group) one_file_is ∙ o.synced_by))

-- ---- what CalmLeft asks ----

pub known : (c : Config) (lines : List ScheduleLine) (n : ℕ) (e : InEpoch) (w : World) → IsInRound c lines n w → AreTogether w e → ReportsAreKnown c e w
known c lines n e w round together = reports_known c lines n e w round together

pub granted : (c : Config) (lines : List ScheduleLine) (n : ℕ) (e : InEpoch) (w : World) → IsInRound c lines n w → AreTogether w e → ClosesAreGranted c e w
granted c lines n e w round together = closes_granted c lines n e w round together
