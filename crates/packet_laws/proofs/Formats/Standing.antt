-- At any moment: where all that sites have and have sent is of the format, the next event of a running site sends what is.
use Rattle.std.proofs.Common.{◌≡◌, ◌≤◌, ◌<◌, ◌⊎◌, ℕ, ◌+◌, ◌^◌, ◌==◌, Bool, true, false, ◌&&◌, List, length, Option, None, Some, refl, sym, ◌∙◌, ap, subst, arith, inl, inr}
use Rattle.std.proofs.lemmas.Bool.Decides.{nat_tests}
use Rattle.std.specs.Prelude.{nat_le}
use Rattle.role_steps.proofs.of_plain_facts.Options.{some_same}
use Rattle.role_steps.proofs.of_plain_facts.Tests.{both_true, true_false}
use Rattle.locus_ids.specs.Sites.{has}
use Rattle.locus_ids.specs.Sizes.{sites_max}
use Rattle.locus_ids.specs.declared.config.Config.{Config}
use Rattle.locus_ids.specs.declared.ids.EpochId.{EpochId}
use Rattle.locus_ids.specs.declared.sites.Members.{Members}
use Rattle.schedule_lines.specs.Ranges.{fits_call, is_site}
use Rattle.trace_book.specs.Same.{same_epoch}
use Rattle.trace_book.specs.declared.call.Call.{Call}
use Rattle.wire_fields.specs.Parts.{processes}
use Rattle.wire_fields.proofs.Members.{in_range}
use Rattle.wire_messages.specs.Packets.{FitsPacket}
use Rattle.wire_messages.specs.declared.body.Body.{Body}
use Rattle.wire_messages.specs.declared.body.Body.TheVariants as body
use Rattle.wire_messages.specs.declared.body.ReportedCopy.{ReportedCopy}
use Rattle.wire_messages.specs.declared.packet.Packet.{Packet}
use Rattle.role_steps.specs.Adoption.{table_group}
use Rattle.role_steps.specs.Epochs.{frame_in}
use Rattle.role_steps.specs.Own.{Every}
use Rattle.role_steps.specs.Reports.{with_report}
use Rattle.role_steps.specs.Tables.{row}
use Rattle.role_steps.specs.Using.{own_call}
use Rattle.role_steps.specs.Views.{Calls, Event, Frame, GivesUp, Merges, Parts, Receives, SiteView, Ticks, boot_in}
use Rattle.role_steps.specs.declared.rounds.InEpoch.{InEpoch}
use Rattle.role_steps.specs.declared.synchronizing.FileRow.{FileRow}
use Rattle.role_steps.specs.declared.synchronizing.Holding.{Holding}
use Rattle.role_steps.specs.declared.synchronizing.SyncTable.{SyncTable}
use Rattle.the_run.specs.Kept.{Among, WasSent}
use Rattle.the_run.specs.Steps.{is_framed, step}
use Rattle.the_run.specs.Worlds.{Line, Numbered, Place, Running, Stopped, World, links_of, place_at}
use Rattle.the_run.proofs.InsideSync.{Found, row_found}
use Rattle.mailbox_join.proofs.Naming.{named}
use Rattle.rest_laws.specs.of_run_laws.Naming.{MayCome}
use Rattle.rest_laws.proofs.of_run_laws.Run.{found_among}
use Rattle.run_laws.specs.Epochs.Forming.{FormsNone}
use Rattle.run_laws.specs.Epochs.Known.{ViewFact}
use Rattle.run_laws.proofs.Epochs.Handlers.{same_epoch_eq}
use Rattle.run_laws.proofs.Epochs.Parts.{every_both}
use Rattle.run_laws.proofs.Epochs.Run.{view_outside}
use Rattle.tree_model.specs.Epochs.{members_of}
use Rattle.rest_laws.specs.of_tree_laws.Instances.{IsStarted, held_in}
use Rattle.rest_laws.specs.of_tree_laws.Packets.{BodyFact, IsReporter, PacketFact, ReportFact, ReportsNow, file_in}
use Rattle.rest_laws.specs.of_tree_laws.Printed.{entries}
use Rattle.rest_laws.specs.of_tree_laws.Tables.{FilesFact, HoldsJust, ReportedFiles, TableFact}
use Rattle.rest_laws.specs.of_tree_laws.Orders.Joining.{PacksAreOfSites}
use Rattle.rest_laws.specs.of_store_laws.OneTree.Places.{InsideFact, SiteIn, WorldFact}
use Rattle.rest_laws.specs.of_store_laws.OneTree.Rest.{Past}
use Rattle.rest_laws.specs.of_store_laws.OneTree.Roles.{EventFact, MayCall, Ready, TableHere}
use Rattle.rest_laws.proofs.of_store_laws.OneTree.Inside.{table_here}
use Rattle.rest_laws.proofs.of_store_laws.OneTree.Rising.{row_key}
use Rattle.rest_laws.specs.EpochTreeCounting.{IsNotedRight}
use Rattle.rest_laws.proofs.EpochTreeCounted.{report_table}
use Rattle.rest_laws.proofs.EpochTreeMembers.{reporter_counts, reporter_low}
use Rattle.rest_laws.proofs.EpochTreeNoting.{report_files}
use Rattle.packet_fit.proofs.ShortBodies.{short}
use Rattle.packet_laws.specs.Fitting.Fields.{Agrees, AreBoots, FitsInPart, IsBoot, IsSite}
use Rattle.packet_laws.proofs.Fitting.Epochs.{Counted}
use Rattle.packet_laws.proofs.Fitting.FormingRun.{Good, boot_fits, come_event, next_fit, site_fits}
use Rattle.packet_laws.proofs.Fitting.Lists.{Comes}
use Rattle.packet_laws.proofs.Fitting.Meeting.{IsAddressed}
use Rattle.packet_laws.proofs.Fitting.Places.{links_low, own_place}
use Rattle.packet_order.specs.Counts.{FitsIfCounted, IsCounted}
use Rattle.packet_laws.specs.Values.Bodies.{FitsBut, IsListed, NamesListed, NamesNone}
use Rattle.packet_laws.specs.Values.Values.{CopiesFit, Grounds, KeptAt, KeptFit, SiteValues, TableFits, boots_in}
use Rattle.packet_laws.proofs.Values.Scripts.{scripts_fit}
use Rattle.packet_laws.proofs.Values.Shown.{shown_fit}
use Rattle.packet_laws.proofs.Values.Steps.{Apart, Done, EventFits, HasOwn, IsNextNamed, NamesHere, Sent, step_done}
use Rattle.packet_laws.proofs.Values.Sync.{with_report_fits}
use Rattle.packet_laws.proofs.Values.Whole.{body_fits}
use Rattle.packet_laws.proofs.Formats.Packs.{packs_fit}
use Rattle.packet_laws.proofs.Formats.Rows.{table_kept}

-- ---- what stands ----

-- the members of the packet's epoch are known, and those that its body names are among them
abbrev pub NamesKnown : List Line → Packet → Type 0
NamesKnown trace p = (m : Members) × (members_of (entries trace) p.epoch ≡ Some m) × NamesListed m.boot p.body

pub record PacketStands (trace : List Line) (p : Packet) : Type 0 where
  pub body : FitsBut p.body
  pub names : NamesNone p.body ⊎ NamesKnown trace p

abbrev pub NumberedStands : List Line → Numbered → Type 0
NumberedStands trace x = PacketStands trace x.packet

abbrev pub PlaceStands : Config → Place → Type 0
PlaceStands c (Running v) = SiteValues c (boots_in v.epoch) v
PlaceStands c (Stopped d) = CopiesFit d.copies

abbrev pub ValuesStand : Config → World → Type 0
ValuesStand c w = ((s : ℕ) (p : Place) → place_at w s ≡ Some p → PlaceStands c p) × Every (NumberedStands w.trace) w.sent × Every (NumberedStands w.trace) w.underway

pub grounds : (c : Config) → PacksAreOfSites c → length c.packs ≤ 4 → Grounds c
grounds c packs few = record { scripts = scripts_fit c; packs = packs_fit c packs few; shown = shown_fit }

-- ---- the tables of a site in its epoch ----

found_is : {A : Type 0} (P : A → Type 0) (o : Option A) (x : A) → o ≡ Some x → Found P o → P x
found_is P o x e h = subst (Found P) e h

-- with the first report of a member the table is what the reports so far have told
counted : (c : Config) (trace : List Line) (f : Frame) (from : ℕ) (xs : List ReportedCopy) (t : SyncTable) → Ready c trace f → TableHere c trace f t → IsReporter c trace f.epoch from t.group → ReportFact c trace f.epoch from t.group xs → t.started ≡ false → TableFact c trace f (with_report from xs t)
counted c trace f from xs t ready here reporter told waits = now told
  where
    files : ReportedFiles c trace f t
    files = subst (FilesFact c trace f t) waits here.fact.files

    right : (r : FileRow) → Every (HoldsJust c trace f t r) r.holders → IsNotedRight c trace f.epoch t.group from r
    right r h = every_both (HoldsJust c trace f t r) (HoldsJust c trace f t r) (λ (q : Holding). q.site ≡ from → held_in c (entries trace) f.epoch from (file_in t.group r.ino) ≡ Some q.stamp) r.holders (λ q k x e. subst (λ (s : ℕ). held_in c (entries trace) f.epoch s (file_in t.group r.ino) ≡ Some q.stamp) e k.1) h h

    rights : Every (IsNotedRight c trace f.epoch t.group from) t.files
    rights = every_both (λ (r : FileRow). Every (HoldsJust c trace f t r) r.holders) (λ (r : FileRow). Every (HoldsJust c trace f t r) r.holders) (IsNotedRight c trace f.epoch t.group from) t.files (λ r h k. right r h) files.holds files.holds

    now : IsStarted c trace f.epoch t.group ⊎ ReportsNow c trace f.epoch from t.group xs → TableFact c trace f (with_report from xs t)
    now (inl s) = absurd (true_false (sym (here.fact.started ∙ s) ∙ waits))
    now (inr k) = report_table c trace f from xs t ready.past waits here.fact rights k.each (report_files c trace f from xs t (reporter_low c trace f.epoch from t.group ready.past reporter) files k)

module _ (c : Config) (trace : List Line) (past : Past c trace) (f : Frame) (fit : AreBoots f.members.boot) (own : IsListed f.members.boot f.me) (v : SiteView) (fact : InsideFact c f trace v) (values : SiteValues c f.members.boot v) where
  found_fact : (group : ℕ) (t : SyncTable) → row table_group group v.tables ≡ Some t → TableFact c trace f t
  found_fact group t e = found_is (TableFact c trace f) (row table_group group v.tables) t e (row_found (TableFact c trace f) table_group group v.tables fact.tables)

  found_fits : (group : ℕ) (t : SyncTable) → row table_group group v.tables ≡ Some t → TableFits f.members.boot t
  found_fits group t e = found_is (TableFits f.members.boot) (row table_group group v.tables) t e (row_found (TableFits f.members.boot) table_group group v.tables values.tables)

  reported_kept : (from group : ℕ) (copies : List ReportedCopy) (t : SyncTable) → IsListed f.members.boot from → FitsBut (body.Report group copies) → IsReporter c trace f.epoch from group → ReportFact c trace f.epoch from group copies → row table_group group v.tables ≡ Some t → has t.reported from ≡ false → KeptFit (with_report from copies t)
  reported_kept from group copies t listed k reporter told e new = by_start t.started refl
    where
      found : Among t v.tables × (table_group t ≡ group)
      found = row_key table_group group v.tables t e

      here : TableHere c trace f t
      here = table_here c trace f v fact t found.0

      its : IsReporter c trace f.epoch from t.group
      its = subst (IsReporter c trace f.epoch from) (sym found.1) reporter

      tells : ReportFact c trace f.epoch from t.group copies
      tells = subst (λ (g : ℕ). ReportFact c trace f.epoch from g copies) (sym found.1) told

      by_start : (b : Bool) → t.started ≡ b → KeptFit (with_report from copies t)
      by_start true q = absurd (true_false (sym (reporter_counts c trace f from t past fact.frame its (here.fact.all q)).1 ∙ new))
      by_start false q = table_kept c trace f.epoch (with_report from copies t).group f.members.boot (with_report from copies t) fit (counted c trace f from copies t (record { past = past; frame = fact.frame }) here its tells q).rows (with_report_fits f fit own from copies t listed k.1 (found_fits group t e))

  kept_at : (from : ℕ) (x : Body) → IsListed f.members.boot from → FitsBut x → (p : Packet) → p.from ≡ from → p.epoch ≡ f.epoch → BodyFact c trace p x → KeptAt v from x
  kept_at from (body.Report group copies) listed k p is at h = λ t e new. reported_kept from group copies t listed k
      (subst (λ (z : EpochId). IsReporter c trace z from group) at (subst (λ (s : ℕ). IsReporter c trace p.epoch s group) is h.0))
      (subst (λ (z : EpochId). ReportFact c trace z from group copies) at (subst (λ (s : ℕ). ReportFact c trace p.epoch s group copies) is h.1)) e new
  kept_at from (body.Open serial call process request file it) listed k p is at h = λ t e. table_kept c trace f.epoch t.group f.members.boot t fit (found_fact file.group t e).rows (found_fits file.group t e)
  kept_at from x listed k p is at h = tt

-- ---- one moment ----

pub sent_stands : (c : Config) (w : World) → ValuesStand c w → (x : Numbered) → WasSent w x → PacketStands w.trace x.packet
sent_stands c w values x (inl a) = found_among (NumberedStands w.trace) x w.sent values.1 a
sent_stands c w values x (inr a) = found_among (NumberedStands w.trace) x w.underway values.2 a

-- what comes to a site stands
abbrev pub EventStands : List Line → Event → Type 0
EventStands trace (Receives p) = PacketStands trace p
EventStands trace _ = Unit {0}

stands_of : (c : Config) (w : World) → ValuesStand c w → (e : Event) → MayCome w e → EventStands w.trace e
stands_of c w values (Receives p) may = subst (PacketStands w.trace) may.2 (sent_stands c w values may.0 may.1)
stands_of c w values (Calls process words) may = tt
stands_of c w values Ticks may = tt
stands_of c w values Parts may = tt
stands_of c w values Merges may = tt
stands_of c w values GivesUp may = tt

module _ (c : Config) (w : World) (past : Past c w.trace) (few : length c.packs ≤ 4) (fact : WorldFact c w) (good : Good w) (values : ValuesStand c w) (s : ℕ) (v : SiteView) (here : place_at w s ≡ Some (Running v)) where
  abbrev view : ViewFact (place_at w) s v
  view = good.placed.known.views s v here

  own_in : (o : Option InEpoch) → SiteIn c s w.trace v o → HasOwn s o
  own_in None h = tt
  own_in (Some e) h = listed h.frame.is_member view.booted
    where
      listed : boot_in e.members.boot s ≡ v.boot → 1 ≤ v.boot → 1 ≤ boot_in e.members.boot s
      listed q b = omega (arith, q, b)

  its_site : SiteIn c s w.trace v v.epoch
  its_site = fact.places s (Running v) here

  outside : v.installed ≡ false → v.epoch ≡ None
  outside q = view_outside (place_at w) s v view q

  apart : Apart v
  apart r e = outside (view.round r e).joins_later

  framed_epoch : (e : InEpoch) (p : Packet) → is_framed p (Some e) ≡ true → (e.id ≡ p.epoch) × (boot_in e.members.boot p.from ≡ p.from_boot)
  framed_epoch e p q = let k : (same_epoch e.id p.epoch ≡ true) × ((boot_in e.members.boot p.from == p.from_boot) ≡ true) = both_true (same_epoch e.id p.epoch) (boot_in e.members.boot p.from == p.from_boot) q in (same_epoch_eq e.id p.epoch k.0, same (boot_in e.members.boot p.from) p.from_boot k.1)
    where
      same : (a b : ℕ) → (a == b) ≡ true → a ≡ b
      same a b e = grind (arith, nat_tests)

  names_here : (o : Option InEpoch) (p : Packet) → SiteIn c s w.trace v o → is_framed p o ≡ true → NamesNone p.body ⊎ NamesKnown w.trace p → NamesHere o p.body
  names_here None p h q k = tt
  names_here (Some e) p h q (inl none) = none e.members.boot
  names_here (Some e) p h q (inr k) = subst (λ (m : Members). NamesListed m.boot p.body) (some_same k.0 e.members (sym k.1 ∙ (ap (members_of (entries w.trace)) (sym (framed_epoch e p q).0) ∙ h.frame.members_are))) k.2

  kept_here : (o : Option InEpoch) (p : Packet) → v.epoch ≡ o → SiteIn c s w.trace v o → is_framed p o ≡ true → IsBoot p.from_boot → FitsBut p.body → PacketFact c w.trace p → KeptAt v p.from p.body
  kept_here None p at h q boot k body = absurd (true_false (sym q))
  kept_here (Some e) p at h q boot k body = kept_at c w.trace past (frame_in c s v.boot e) ((good.views s v here).inside e at).0 (own_in (Some e) h) v h (subst (λ (o : Option InEpoch). SiteValues c (boots_in o) v) at (values.0 s (Running v) here)) p.from p.body (from (framed_epoch e p q).1 boot.0) k p refl (sym (framed_epoch e p q).0) body
    where
      from : boot_in e.members.boot p.from ≡ p.from_boot → 1 ≤ p.from_boot → 1 ≤ boot_in e.members.boot p.from
      from x y = omega (arith, x, y)

  call_fits : (process : ℕ) (words : Call) → MayCall c s process words v.users → processes.Fits process × (fits_call c.sites words ≡ true)
  call_fits process words h = of (parts (is_site c.sites s) (nat_le 1 process && nat_le process 8) (fits_call c.sites words) h.fits)
    where
      parts : (a b x : Bool) → (a && b && x) ≡ true → (b ≡ true) × (x ≡ true)
      parts true true true e = (refl, refl)
      parts true true false e = absurd (cc)
      parts true false x e = absurd (cc)
      parts false b x e = absurd (cc)

      most : nat_le process 8 ≡ true → process ≤ 8
      most e = grind (arith, nat_tests)

      of : ((nat_le 1 process && nat_le process 8) ≡ true) × (fits_call c.sites words ≡ true) → processes.Fits process × (fits_call c.sites words ≡ true)
      of k = let m : process ≤ 8 = most (both_true (nat_le 1 process) (nat_le process 8) k.0).1 in ((in_range 0 8 process (omega arith) m, omega (arith, m)), k.1)

  comes_fit : (e : Event) → Comes e → EventStands w.trace e → EventFact c w.trace s v e → EventFits c v e
  comes_fit (Calls process words) comes stands k = call_fits process words k
  comes_fit (Receives p) comes stands k = (stands.body, λ q. (names_here v.epoch p its_site q stands.names, kept_here v.epoch p refl its_site q comes.1 stands.body k.1.fact))
  comes_fit Ticks comes stands k = tt
  comes_fit Parts comes stands k = tt
  comes_fit Merges comes stands k = tt
  comes_fit GivesUp comes stands k = tt

  -- the next call's name would be good
  next_named : v.users.calls ≤ 134479872 → IsNextNamed s v
  next_named calls =
      let own : IsSite s × IsBoot v.boot = own_place w s v here good.placed in
      named (own_call s v.boot (v.users.calls + 1)) (site_small own.0.1) (boot_small own.1.1) (number_small calls)
    where
      site_small : s ≤ sites_max → s < 2 ^ 8
      site_small high = omega (arith, high)

      boot_small : v.boot ≤ 134217730 → v.boot < 2 ^ 32
      boot_small high = omega (arith, high)

      number_small : v.users.calls ≤ 134479872 → v.users.calls + 1 < 2 ^ 32
      number_small high = omega (arith, high)

  pub next_done : v.users.calls ≤ 134479872 → (e : Event) → Comes e → EventStands w.trace e → EventFact c w.trace s v e → Done c v.epoch (step c s (links_of w s) v e)
  next_done calls e comes stands k = step_done c s (own_place w s v here good.placed).0 (grounds c past.rest.packs few) (links_of w s) v e (λ t. links_low w s t good.placed) comes (good.views s v here) apart outside (own_in v.epoch its_site) (comes_fit e comes stands k) (next_named calls) (values.0 s (Running v) here)

  pub next_packets : v.users.calls ≤ 134479872 → Counted w → (e : Event) → MayCome w e → EventFact c w.trace s v e → Every FitsIfCounted (step c s (links_of w s) v e).sent
  next_packets calls counts e may k = every_both FitsInPart (Sent v.epoch) FitsIfCounted (step c s (links_of w s) v e).sent (λ p part sent low. whole p part sent low (by_kind p.body)) (next_fit c w good counts s v e here may) (next_done calls e (come_event w e good may) (stands_of c w values e may) k).sent
    where
      by_kind : (b : Body) → FormsNone b ⊎ Agrees b
      by_kind body.Poll = inr tt
      by_kind (body.Promise reach) = inr tt
      by_kind (body.Refuse theirs) = inr tt
      by_kind (body.Install members) = inr tt
      by_kind body.Joined = inr tt
      by_kind _ = inl tt

      whole : (p : Packet) → FitsInPart p → Sent v.epoch p → IsCounted p.body → FormsNone p.body ⊎ Agrees p.body → FitsPacket p
      whole p part sent low (inr a) = part.2 a
      whole p part sent low (inl n) = (let to : IsAddressed p = sent.to n in let b = body_fits p.body n sent.body low in record { from = part.0.from; from_boot = part.0.from_boot; to = site_fits p.to to.0; to_boot = boot_fits p.to_boot to.1; epoch = part.0.epoch; body = b; short = short p.body b })
