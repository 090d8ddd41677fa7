-- At each moment of a run each event that may come finds what it needs.
use Rattle.std.proofs.Common.{◌≡◌, ◌≢◌, ◌≤◌, ◌<◌, ℕ, zero, suc, ◌==◌, nat_lt, Bool, true, false, cond, List, [], ◌∷◌, filter, length, Option, None, Some, refl, sym, ◌∙◌, ap, subst, arith}
use Rattle.std.specs.List.{AllByRecursion, list_any}
use Rattle.role_steps.proofs.of_plain_facts.Numbers.{equal}
use Rattle.role_steps.proofs.of_plain_facts.Tests.{false_true, or_first, or_other, or_second}
use Rattle.locus_ids.specs.Sites.{has}
use Rattle.locus_ids.specs.Sizes.{file_bytes_max}
use Rattle.locus_ids.specs.declared.config.Config.{Config}
use Rattle.locus_ids.specs.declared.ids.Serial.{Serial}
use Rattle.locus_ids.specs.declared.sites.Links.{Links}
use Rattle.wire_messages.specs.Bodies.{kind_number}
use Rattle.site_node.specs.of_packet_order.Counts.{FitsIfCounted}
use Rattle.wire_messages.specs.declared.body.Body.{Body}
use Rattle.wire_messages.specs.declared.body.Body.TheVariants as body
use Rattle.wire_messages.specs.declared.packet.Packet.{Packet}
use Rattle.role_steps.specs.Epochs.{frame_in, passes_over}
use Rattle.role_steps.specs.OperationEffects.{Mending}
use Rattle.role_steps.specs.Own.{Every}
use Rattle.role_steps.specs.Views.{Event, Calls, Receives, Ticks, Parts, Merges, GivesUp, Frame, Store, SiteView, all_groups, pack_sites}
use Rattle.role_steps.specs.declared.rounds.InEpoch.{InEpoch}
use Rattle.role_steps.specs.declared.synchronizing.SyncTable.{SyncTable}
use Rattle.the_run.specs.Steps.{is_dropped, step, takes, takes_framed}
use Rattle.the_run.specs.Worlds.{World, Line, Running, links_of, place_at}
use Rattle.tree_model.specs.Files.{HeldVersion}
use Rattle.packet_laws.proofs.of_site_laws.Makes.Happening.{taken_boot, taken_epoch}
use Rattle.packet_laws.specs.of_site_laws.Packs.Packed.{BodyPacked, PacketPacked, PullPacked}
use Rattle.packet_laws.proofs.of_site_laws.Packs.PacksRun.{sent_packed}
use Rattle.tree_laws.specs.Doing.{IsReceived}
use Rattle.tree_laws.specs.Packets.{BodyFact, PacketFact}
use Rattle.packet_laws.specs.of_store_laws.OneTree.Places.{InsideFact, SiteFact, SiteIn}
use Rattle.packet_laws.specs.of_store_laws.OneTree.Rest.{Past}
use Rattle.packet_laws.proofs.of_store_laws.OneTree.Rising.{every_among}
use Rattle.packet_laws.proofs.of_store_laws.OneTree.Steps.{to_boot}
use Rattle.packet_laws.proofs.of_store_laws.OneTree.UserStepGroups.{packed_low}
use Rattle.site_node.specs.of_site_packs.Packs.{groups_at}
use Rattle.site_node.specs.of_site_parts.Fitting.{CanTakeAtStore}
use Rattle.site_node.specs.of_site_parts.Roles.{mending_by}
use Rattle.site_node.specs.of_site_tables.Inodes.{AreInodes}
use Rattle.site_node.specs.Fitting.{CanAct, CanAdopt, CanTakeIn, HasInodes, IsShort, acted}
use Rattle.site_node.specs.Taking.{IsSpent, is_tried}
use Rattle.packet_laws.specs.Fitting.Epochs.{NamesUpTo}
use Rattle.calm_laws.specs.of_rest_laws.Fits.Pulling.{FitsPull}
use Rattle.calm_laws.proofs.of_rest_laws.Fits.Tried.{IsTried}
use Rattle.calm_laws.proofs.of_rest_laws.Fits.Opens.{body_opens}
use Rattle.calm_laws.proofs.of_rest_laws.Fits.Storing.{store_fits}
use Rattle.calm_laws.proofs.of_rest_laws.Fits.Tables.{site_tables}
use Rattle.calm_laws.proofs.of_store_laws.Works.Working.{trace_works}
use Rattle.calm_laws.proofs.of_store_laws.OneTree.Staying.{rest_below}
use Rattle.complete_laws.specs.FitCallJoining.{HasGroups}
use Rattle.complete_laws.proofs.FitCallAdopting.{keeps}
use Rattle.complete_laws.proofs.FitCallAgreeing.{kinds_now}
use Rattle.complete_laws.proofs.FitCallJoining.{body_joins}
use Rattle.complete_laws.proofs.FitCallTaking.{takes_at}
use Rattle.complete_laws.specs.MomentMoments.{IsMoment, MayCome}
use Rattle.packet_laws.proofs.of_store_laws.OneTree.Run.{arrives_fact}
use Rattle.packet_laws.proofs.of_rest_laws.Roles.{roles_do}
use Rattle.packet_laws.specs.of_store_laws.OneTree.Wants.{Arrives}
use Rattle.complete_laws.proofs.MomentPulls.{site_pulls, tried_pulls}
use Rattle.complete_laws.proofs.MomentTables.{OfInodes, adopts_keep, leaves_keep, passes_keep, starts_merge_keeps, starts_part_keeps, takes_inodes, tries_keep}

-- ---- the packs of a site ----

filter_has : (p : ℕ → Bool) (g : ℕ) (gs : List ℕ) → p g ≡ true → list_any (λ one. one == g) gs ≡ true → list_any (λ one. one == g) (filter p gs) ≡ true
filter_has p g [] h k = k
filter_has p g (x ∷ xs) h k = over (p x) refl (x == g) refl (filter_has p g xs h)
  where
    over : (a : Bool) → p x ≡ a → (b : Bool) → (x == g) ≡ b → (list_any (λ one. one == g) xs ≡ true → list_any (λ one. one == g) (filter p xs) ≡ true) → list_any (λ one. one == g) (cond a (x ∷ filter p xs) (filter p xs)) ≡ true
    over true e true q rest = or_first (x == g) _ q
    over true e false q rest = or_second (x == g) _ (rest (or_other (x == g) _ q k))
    over false e true q rest = absurd (let f : true ≡ false = sym h ∙ (ap p (sym (equal x g q)) ∙ e) in cc)
    over false e false q rest = rest (or_other (x == g) _ q k)

listed : (g : ℕ) → g < 4 → list_any (λ one. one == g) all_groups ≡ true
listed zero h = refl
listed (suc zero) h = refl
listed (suc (suc zero)) h = refl
listed (suc (suc (suc zero))) h = refl
listed (suc (suc (suc (suc k)))) h = absurd (omega (arith, h))

-- the site has each pack that the cluster gives it
has_groups : (c : Config) → length c.packs ≤ 4 → (s : ℕ) → HasGroups c s (groups_at c s)
unfolding groups_at
has_groups c few s g h = filter_has (λ group. has (pack_sites c group) s) g all_groups h (listed g (packed_low c g s few h))

-- ---- lists ----

all_of : {A : Type 0} (P : A → Type 0) (xs : List A) → Every P xs → AllByRecursion P xs
all_of P [] h = tt
all_of P (x ∷ xs) h = (h.0, all_of P xs h.1)

inodes_of : (v : SiteView) → OfInodes v → HasInodes v.tables
inodes_of v h = all_of AreInodes v.tables h

-- ---- pulls ----

can_adopt : (c : Config) → length c.packs ≤ 4 → (s : ℕ) (v : SiteView) → Every (FitsPull c s v.store) v.pulls → CanAdopt (groups_at c s) v
can_adopt c few s v fit p among = keeps c s (groups_at c s) (has_groups c few s) v p (every_among (FitsPull c s v.store) p v.pulls among fit)

-- ---- a packet ----

-- a notice is of a version that stands, and none is longer than a call can make it
short_of : (c : Config) (t : List Line) → Past c t → (p : Packet) (b : Body) → BodyFact c t p b → IsShort b
short_of c t past p (body.Notify file kind set size stamp vector holder) k =
    subst (λ (n : ℕ). n ≤ file_bytes_max) (ap (λ (v : HeldVersion). length v.content) (sym k.is_version.same) ∙ k.size_is) ((trace_works c t past.followed (rest_below c t past.rest)).0 file k.version.stamp)
short_of c t past p _ k = tt

-- only what comes in an epoch is for the storage site
stores_of : (f : Frame) (m : Serial → Mending) (tables : List SyncTable) (groups : List ℕ) (home from : ℕ) (s : Store) (b : Body) → (nat_lt (kind_number b) 6 ≡ false → CanTakeAtStore f m tables groups home from b s) → CanTakeAtStore f m tables groups home from b s
stores_of f m tables groups home from s (body.OpenSs inst file mode set kind base vector parents) k = k refl
stores_of f m tables groups home from s (body.Op serial n o seen) k = k refl
stores_of f m tables groups home from s (body.Close serial) k = k refl
stores_of f m tables groups home from s _ k = tt

spent_never : (b : Body) → NamesUpTo 134479872 b → IsSpent b → ⊥
spent_never (body.Refuse promised) k e = over promised.number k.1 e
  where
    over : (n : ℕ) → n ≤ 134479872 → n ≡ 4294967295 → ⊥
    over n l e = omega (arith, l, e)
spent_never _ k e = absurd e

module _ (c : Config) (few : length c.packs ≤ 4) (w : World) (moment : IsMoment c w) (p : Packet) (v : SiteView) (here : place_at w p.to ≡ Some (Running v)) (comes : Arrives c w.trace p v) (packed : BodyPacked c p.from p.to p.body) (taken : is_dropped p v ≡ false) where
  fact : SiteFact c p.to w.trace v
  fact = moment.fact.places p.to (Running v) here

  it : PacketFact c w.trace p
  it = comes.fact

  stores : (e : InEpoch) → v.epoch ≡ Some e → nat_lt (kind_number p.body) 6 ≡ false → CanTakeAtStore (frame_in c p.to v.boot e) (mending_by v.tables v.users v.store) v.tables (groups_at c p.to) p.to p.from p.body v.store
  stores e at inner = takes_at c (frame_in c p.to v.boot e) (groups_at c p.to) (has_groups c few p.to) v.tables (site_tables c p.to w.trace v v.epoch moment.past.rest.each fact) v.store
      (store_fits c w.trace moment.past (frame_in c p.to v.boot e) inside.frame v.store inside.store (moment.room p.to v here)) (mending_by v.tables v.users v.store) p.from p.body (body_opens c w.trace moment.past p p.body it)
      (body_joins c w.trace moment.past few (frame_in c p.to v.boot e) v inside p refl received.epoch_is p.body it (kinds_now c w.trace moment.past few (frame_in c p.to v.boot e) v inside p received it))
    where
      inside : InsideFact c (frame_in c p.to v.boot e) w.trace v
      inside = subst (SiteIn c p.to w.trace v) at fact

      received : IsReceived (frame_in c p.to v.boot e) p
      received = record { to_is = refl; to_boot_is = to_boot p v taken; epoch_is = taken_epoch p p.body v e refl inner taken at; from_boot_is = taken_boot p p.body v e refl inner taken at }

  takes_in : (o : Option InEpoch) → v.epoch ≡ o → CanTakeIn c p.to (groups_at c p.to) p.to p.from p.body v o
  takes_in None at = tt
  takes_in (Some e) at = record {
    pulls = short_of c w.trace moment.past p p.body it;
    stores = stores_of (frame_in c p.to v.boot e) (mending_by v.tables v.users v.store) v.tables (groups_at c p.to) p.to p.from v.store p.body (stores e at);
  }

  pub packet_taken : CanTakeIn c p.to (groups_at c p.to) p.to p.from p.body v v.epoch
  packet_taken = takes_in v.epoch refl

  view_packed : Every (PullPacked c p.to) v.pulls
  view_packed = (moment.packed.views p.to v here).pulls

  fits : (b : Body) → p.body ≡ b → IsTried b → CanAdopt (groups_at c p.to) (takes_framed c p.to p v.epoch v).view
  fits b is tried = can_adopt c few p.to (takes_framed c p.to p v.epoch v).view (tried_pulls c w.trace moment.past (roles_do c few) p v fact comes taken packed view_packed b is tried)

  tries : (links : Links) (b : Body) → p.body ≡ b → is_tried b ≡ true → CanAdopt (groups_at c p.to) (takes c p.to links p b v).view
  tries links (body.Notify file kind set size stamp vector holder) is e = fits (body.Notify file kind set size stamp vector holder) is tt
  tries links (body.Page file stamp page bytes) is e = fits (body.Page file stamp page bytes) is tt
  tries links (body.Delta file wanted pages) is e = fits (body.Delta file wanted pages) is tt
  tries links _ is e = absurd (false_true e)

  pub packet_tried : (links : Links) → is_tried p.body ≡ true → CanAdopt (groups_at c p.to) (takes c p.to links p p.body v).view
  packet_tried links = tries links p.body refl

  pub packet_mended : (links : Links) → HasInodes (passes_over c p.to links (acted c p.to links v (Receives p))).view.tables
  packet_mended links = inodes_of (passes_over c p.to links (acted c p.to links v (Receives p))).view
      (passes_keep c p.to links (acted c p.to links v (Receives p)) (tries_keep c p.to p.body (takes c p.to links p p.body v).view (takes_inodes c w.trace moment.past moment.agree links p v fact it taken p.body refl)))

-- ---- every event ----

module _ (c : Config) (few : length c.packs ≤ 4) (s : ℕ) (w : World) (v : SiteView) (here : place_at w s ≡ Some (Running v)) (moment : IsMoment c w) where
  site : SiteFact c s w.trace v
  site = moment.fact.places s (Running v) here

  own : OfInodes v
  own = site_tables c s w.trace v v.epoch moment.past.rest.each site

  abbrev links : Links
  links = links_of w s

  mended : (u : SiteView) → OfInodes u → HasInodes (passes_over c s links u).view.tables
  mended u h = inodes_of (passes_over c s links u).view (passes_keep c s links u h)

  promised_low : v.promised.number ≢ 4294967295
  promised_low e = over v.promised.number (moment.promised s v here) e
    where
      over : (n : ℕ) → n ≤ 134479872 → n ≡ 4294967295 → ⊥
      over n l e = omega (arith, l, e)

  by_event : (e : Event) → MayCome c w s e → AllByRecursion FitsIfCounted (step c s links v e).sent → CanAct c s (groups_at c s) s links v e
  by_event (Calls process words) may sends = record { taking = tt; adopting = tt; mending = mended (acted c s links v (Calls process words)) own; numbering = tt; sending = sends }
  by_event Ticks may sends = record { taking = tt; adopting = can_adopt c few s v (site_pulls c w.trace moment.past s v site (moment.packed.views s v here).pulls); mending = mended (acted c s links v Ticks) (adopts_keep c s v own); numbering = tt; sending = sends }
  by_event Parts may sends = record { taking = tt; adopting = tt; mending = mended (acted c s links v Parts) (starts_part_keeps s links v own); numbering = promised_low; sending = sends }
  by_event Merges may sends = record { taking = tt; adopting = tt; mending = mended (acted c s links v Merges) (starts_merge_keeps s links v own); numbering = promised_low; sending = sends }
  by_event GivesUp may sends = record { taking = tt; adopting = tt; mending = mended (acted c s links v GivesUp) (leaves_keep s v own); numbering = tt; sending = sends }
  by_event (Receives p) may sends = record {
    taking = λ taken. subst (λ (t : ℕ). CanTakeIn c t (groups_at c t) t p.from p.body v v.epoch) to (packet_taken c few w moment p v there comes packed taken);
    adopting = λ taken tried. subst (λ (t : ℕ). CanAdopt (groups_at c t) (takes c t links p p.body v).view) to (packet_tried c few w moment p v there comes packed taken links tried);
    mending = λ taken. subst (λ (t : ℕ). HasInodes (passes_over c t links (acted c t links v (Receives p))).view.tables) to (packet_mended c few w moment p v there comes packed taken links);
    numbering = spent_never p.body (subst (λ (q : Packet). NamesUpTo 134479872 q.body) is (moment.named may.0 may.1).1);
    sending = sends;
  }
    where
      is : may.0.packet ≡ p
      is = may.2

      to : p.to ≡ s
      to = may.3

      there : place_at w p.to ≡ Some (Running v)
      there = subst (λ (t : ℕ). place_at w t ≡ Some (Running v)) (sym to) here

      there_sent : place_at w may.0.packet.to ≡ Some (Running v)
      there_sent = subst (λ (q : Packet). place_at w q.to ≡ Some (Running v)) (sym is) there

      comes : Arrives c w.trace p v
      comes = subst (λ (q : Packet). Arrives c w.trace q v) is (arrives_fact c w may.0 v moment.fact may.1 there_sent)

      packed : BodyPacked c p.from p.to p.body
      packed = subst (PacketPacked c) is (sent_packed c w may.0 may.1 moment.packed)

pub can_act : (c : Config) → length c.packs ≤ 4 → (s : ℕ) (e : Event) (w : World) (v : SiteView) → place_at w s ≡ Some (Running v) → IsMoment c w → MayCome c w s e → AllByRecursion FitsIfCounted (step c s (links_of w s) v e).sent → CanAct c s (groups_at c s) s (links_of w s) v e
can_act c few s e w v here moment may sends = by_event c few s w v here moment e may sends
