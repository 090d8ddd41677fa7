-- A report comes to the synchronization site: it counts, and where it is the last one, the group starts, and each request that waited
-- for that is handed on.
use Rattle.std.proofs.Common.{◌≡◌, ℕ, zero, suc, ◌<◌, ◌≤◌, ◌==◌, nat_lt, ◌⊎◌, Bool, true, false, ◌||◌, List, [], ◌∷◌, ◌++◌, map, Option, Some, None, refl, sym, ◌∙◌, ap, subst, inl, inr, arith}
use Rattle.std.proofs.lemmas.Bool.Decides.{nat_tests}
use Rattle.std.specs.List.{list_any}
use Rattle.std.specs.Option.{is_some}
use Rattle.role_steps.proofs.of_plain_facts.Tests.{true_false}
use Rattle.locus_ids.specs.Sites.{has, with_site}
use Rattle.locus_ids.proofs.Sets.{has-with}
use Rattle.locus_ids.specs.declared.config.Config.{Config}
use Rattle.locus_ids.specs.declared.ids.EpochId.{EpochId}
use Rattle.locus_ids.specs.declared.ids.Serial.{Serial}
use Rattle.locus_ids.specs.declared.sites.Sites.{Sites}
use Rattle.locus_ids.specs.Sizes.{sites_max}
use Rattle.trace_book.specs.Same.{same_serial}
use Rattle.wire_messages.specs.Bodies.{kind_number}
use Rattle.wire_messages.specs.declared.body.Body.{Body}
use Rattle.wire_messages.specs.declared.body.Body.TheVariants as body
use Rattle.wire_messages.specs.declared.body.ReportedCopy.{ReportedCopy}
use Rattle.wire_messages.specs.declared.packet.Packet.{Packet}
use Rattle.role_steps.specs.Adoption.{table_group}
use Rattle.role_steps.specs.Looks.{is_look_before, is_same_look, look_key}
use Rattle.role_steps.specs.Notices.{notices}
use Rattle.role_steps.specs.Opens.{open_row, open_key}
use Rattle.role_steps.specs.Own.{Every}
use Rattle.role_steps.specs.Reports.{have_all_reported, is_early_of, on_report, starts, starts_if, takes_all_early, with_all_reported, with_report, with_reported}
use Rattle.role_steps.specs.Tables.{row, with_row}
use Rattle.role_steps.specs.Views.{Frame, SiteView, Outcome, boot_in, joined_to, packet, process_key, quiet, sends, serial_key, sync_site}
use Rattle.role_steps.specs.declared.rounds.InEpoch.{InEpoch}
use Rattle.role_steps.specs.declared.synchronizing.Early.{Early}
use Rattle.role_steps.specs.declared.synchronizing.LastLook.{LastLook}
use Rattle.role_steps.specs.declared.synchronizing.OpenRow.{OpenRow}
use Rattle.role_steps.specs.declared.synchronizing.OpenStage.TheVariants as stage
use Rattle.role_steps.specs.declared.synchronizing.SyncTable.{SyncTable}
use Rattle.role_steps.specs.declared.users.Asking.{Asking}
use Rattle.role_steps.specs.declared.users.Asking.TheVariants as asking
use Rattle.role_steps.specs.declared.users.WaitingCall.{WaitingCall}
use Rattle.role_steps.proofs.Rows.{row_same}
use Rattle.the_run.specs.Kept.{Among}
use Rattle.the_run.specs.Steps.{at_table_of, takes_inside}
use Rattle.the_run.specs.Worlds.{World, place_at}
use Rattle.run_laws.specs.Epochs.Forming.{FormsNone}
use Rattle.tree_laws.specs.Packets.{BodyFact, OpenFact, PacketFact}
use Rattle.tree_laws.specs.Tables.{early_packet}
use Rattle.tree_laws.specs.Users.{WaitingFact}
use Rattle.rest_laws.proofs.StoreStepKnown.{known_call}
use Rattle.store_laws.specs.OneTree.Places.{InsideFact}
use Rattle.store_laws.specs.OneTree.Rest.{Past}
use Rattle.store_laws.proofs.OneTree.Parts.{tables_rise}
use Rattle.store_laws.proofs.OneTree.Rising.{Rising}
use Rattle.row_laws.proofs.Orderly.Formed.{among_right}
use Rattle.row_laws.proofs.Orderly.Rounds.{next_among}
use Rattle.site_laws.specs.Makes.Made.{IsSender, NumberedSender}
use Rattle.calm_laws.specs.TablesCalm.Shapes.{CameIn, IsNamedIn, IsRequest, IsRequestOf, RowShape, TableShape}
use Rattle.calm_laws.proofs.TablesCalm.Shaping.{report_shape}
use Rattle.calm_laws.specs.Carrying.{IsMember, frame_of, Goes, held_request, look_body, open_body, own_serial, Carries, IsHeld, HasReported}
use Rattle.calm_laws.specs.Rounds.{AnswersAgain, CarriesOn, IsReport, KnowsLook, look_of}
use Rattle.calm_laws.proofs.Carriers.{MayCarry, carrier_kind}
use Rattle.calm_laws.proofs.CloseAgreed.{member_low, past_of}
use Rattle.calm_laws.proofs.Delivered.{inside_fact}
use Rattle.calm_laws.proofs.Ends.{handles}
use Rattle.calm_laws.proofs.Facts.{RoundFacts, round_facts}
use Rattle.calm_laws.proofs.Handing.{StillWaits}
use Rattle.calm_laws.proofs.Lists.{every_among, row_key}
use Rattle.calm_laws.proofs.LookRequests.{LooksOn}
use Rattle.calm_laws.proofs.Rows.{AllGoToMembers, HandlerHands, TriesNone, taker, placed, placed_here, handler_row}
use Rattle.calm_laws.proofs.TableThere.{table_there}
use Rattle.calm_laws.proofs.CalmAnswerCameIn.{from_member}
use Rattle.calm_laws.proofs.CalmAnswerEarlyTaken.{OpensKnown, all_grow, look_handed, named_all, open_handed}
use Rattle.calm_laws.proofs.CalmAnswerLooksKnown.{looks_known, small}
use Rattle.calm_laws.proofs.CalmAnswerOpenRequests.{none_hand, open_alone, open_known, opens_lift, quiet_keeps, tables_of}
use Rattle.calm_laws.proofs.CalmAnswerOpenTaken.{OpensOn, grows_itself, grows_then}
use Rattle.calm_laws.proofs.CalmAnswerOpensKnown.{IsTable, caller_low, its_fact, open_held, row_well}
use Rattle.calm_laws.proofs.CalmAnswerShapes.{all_shaped}
use Rattle.calm_laws.proofs.CalmAnswerTurning.{Grows, IsIn, IsRequestBy, TurnKeeps, asked_there, turn_hands, turn_keeps}

-- ---- sets ----

with_old : (set : Sites) (from s : ℕ) → has set s ≡ true → has (with_site set from) s ≡ true
with_old set from s h = over from s h
  where
    either : (a b : Bool) → a ≡ true → (a || b) ≡ true
    either a b e = ap (λ (z : Bool). z || b) e

    plain : (f t : ℕ) → 1 ≤ f → 1 ≤ t → has set t ≡ true → has (with_site set f) t ≡ true
    plain f t p q e = has-with set f t p q ∙ either (has set t) (t == f) e

    over : (f t : ℕ) → has set t ≡ true → has (with_site set f) t ≡ true
    over zero zero e = plain 1 1 (omega arith) (omega arith) e
    over zero (suc t) e = plain 1 (suc t) (omega arith) (omega arith) e
    over (suc f) zero e = plain (suc f) 1 (omega arith) (omega arith) e
    over (suc f) (suc t) e = plain (suc f) (suc t) (omega arith) (omega arith) e

with_new : (set : Sites) (from : ℕ) → has (with_site set from) from ≡ true
with_new set from = over from
  where
    own : (n : ℕ) → (n == n) ≡ true
    own n = grind (arith, nat_tests)

    either : (a b : Bool) → b ≡ true → (a || b) ≡ true
    either true b e = refl
    either false b e = e

    plain : (f : ℕ) → 1 ≤ f → has (with_site set f) f ≡ true
    plain f p = has-with set f f p p ∙ either (has set f) (f == f) (own f)

    over : (f : ℕ) → has (with_site set f) f ≡ true
    over zero = plain 1 (omega arith)
    over (suc f) = plain (suc f) (omega arith)

-- ---- what a report leaves ----

-- all but what is known of files
record SameBut (t n : SyncTable) : Type 0 where
  group : n.group ≡ t.group
  started : n.started ≡ t.started
  early : n.early ≡ t.early
  opens : n.opens ≡ t.opens
  looks : n.looks ≡ t.looks
  reported : n.reported ≡ t.reported

all_same : (from : ℕ) (xs : List ReportedCopy) (t : SyncTable) → SameBut t (with_all_reported from xs t)
all_same from [] t = record { group = refl; started = refl; early = refl; opens = refl; looks = refl; reported = refl }
all_same from (x ∷ xs) t = (let k : SameBut (with_reported from x t) (with_all_reported from xs (with_reported from x t)) = all_same from xs (with_reported from x t) in
    record { group = k.group; started = k.started; early = k.early; opens = k.opens; looks = k.looks; reported = k.reported })

module _ (f : Frame) (from : ℕ) (xs : List ReportedCopy) (t : SyncTable) where
  abbrev new : SyncTable
  new = with_report from xs t

  abbrev begun : SyncTable
  begun = record (with_report from xs t) { started = true; early = [] }

  same : SameBut (record t { reported = with_site t.reported from }) (with_report from xs t)
  same = all_same from xs (record t { reported = with_site t.reported from })

  new_reported : (s : ℕ) → has t.reported s ≡ true → has new.reported s ≡ true
  new_reported s h = ap (λ (r : Sites). has r s) same.reported ∙ with_old t.reported from s h

  -- the report is the last one, and the group starts
  pub record IsLast : Type 0 where
    pub first : has t.reported from ≡ false
    pub whole : have_all_reported f new ≡ true

  abbrev Starting : Early → Type 0
  Starting x = Among x t.early × IsLast

  abbrev taken : Outcome SyncTable
  taken = takes_all_early f new.early begun

  module _ (known : Serial → Type 0) (fresh : Every (λ (x : Early). OpensKnown known t x.site x.body) t.early) where
    opens_same : (us : ℕ) (b : Body) → OpensKnown known t us b → OpensKnown known begun us b
    opens_same us (body.Open serial call who request file q) k = λ i. subst (λ (rs : List OpenRow). is_some (row open_key (serial_key (own_serial us serial)) rs) ≡ true) (sym same.opens) (k i)
    opens_same us _ k = tt

    all_opens_same : (es : List Early) → Every (λ (x : Early). OpensKnown known t x.site x.body) es → Every (λ (x : Early). OpensKnown known begun x.site x.body) es
    all_opens_same [] k = tt
    all_opens_same (x ∷ es) k = (opens_same x.site x.body k.0, all_opens_same es k.1)

    pub fresh_begun : Every (λ (x : Early). OpensKnown known begun x.site x.body) new.early
    fresh_begun = subst (λ (es : List Early). Every (λ (x : Early). OpensKnown known begun x.site x.body) es) (sym same.early) (all_opens_same t.early fresh)

    -- the table before the requests are taken
    begins : IsLast → Grows known Starting t begun
    begins last = record {
      group = same.group;
      reported = new_reported;
      opened = λ i k. ap (λ (rs : List OpenRow). list_any (λ (q : OpenRow). same_serial q.inst i) rs) same.opens;
      rows = λ i r e a. ap (λ (rs : List OpenRow). row open_key (serial_key i) rs) same.opens ∙ e;
      held = λ z x a. inr (a, last);
    }

    waits : Grows known Starting t new
    waits = record {
      group = same.group;
      reported = new_reported;
      opened = λ i k. ap (λ (rs : List OpenRow). list_any (λ (q : OpenRow). same_serial q.inst i) rs) same.opens;
      rows = λ i r e a. ap (λ (rs : List OpenRow). row open_key (serial_key i) rs) same.opens ∙ e;
      held = λ z x a. inl (same.started ∙ z, subst (λ (es : List Early). Among x es) (sym same.early) a);
    }

    pub report_grows : Grows known Starting t (on_report f from xs t).view
    report_grows = over (has t.reported from) refl
      where
        by_whole : has t.reported from ≡ false → (b : Bool) → have_all_reported f new ≡ b → Grows known Starting t (elim b as (λ (z : Bool). Outcome SyncTable) [ true ↦ starts f new | false ↦ quiet new ]).view
        by_whole first true q = grows_then known Starting t begun taken.view (begins (record { first = first; whole = q })) refl (all_grow known Starting f new.early begun refl fresh_begun)
        by_whole first false q = waits

        over : (b : Bool) → has t.reported from ≡ b → Grows known Starting t (elim b as (λ (z : Bool). Outcome SyncTable) [ true ↦ quiet t | false ↦ starts_if f new ]).view
        over true q = grows_itself known Starting t
        over false q = by_whole q (have_all_reported f new) refl

    -- the report counts
    pub report_counts : has (on_report f from xs t).view.reported from ≡ true
    report_counts = over (has t.reported from) refl
      where
        by_whole : has t.reported from ≡ false → (b : Bool) → have_all_reported f new ≡ b → has (elim b as (λ (z : Bool). Outcome SyncTable) [ true ↦ starts f new | false ↦ quiet new ]).view.reported from ≡ true
        by_whole first true q = (all_grow known Starting f new.early begun refl fresh_begun).reported from (ap (λ (r : Sites). has r from) same.reported ∙ with_new t.reported from)
        by_whole first false q = ap (λ (r : Sites). has r from) same.reported ∙ with_new t.reported from

        over : (b : Bool) → has t.reported from ≡ b → has (elim b as (λ (z : Bool). Outcome SyncTable) [ true ↦ quiet t | false ↦ starts_if f new ]).view.reported from ≡ true
        over true q = q
        over false q = by_whole q (have_all_reported f new) refl

  -- what the start does, the report does
  pub by_start : (P : Outcome SyncTable → Type 0) → IsLast → P (joined_to (sends (packet f from (body.ReportOk t.group) ∷ []) t) (starts f new)) → P (on_report f from xs t)
  by_start P last h = over (has t.reported from) last.first
    where
      whole : (b : Bool) → b ≡ true → P (joined_to (sends (packet f from (body.ReportOk t.group) ∷ []) t) (elim b as (λ (z : Bool). Outcome SyncTable) [ true ↦ starts f new | false ↦ quiet new ]))
      whole true q = h
      whole false q = absurd (true_false (sym q))

      over : (b : Bool) → b ≡ false → P (joined_to (sends (packet f from (body.ReportOk t.group) ∷ []) t) (elim b as (λ (z : Bool). Outcome SyncTable) [ true ↦ quiet t | false ↦ starts_if f new ]))
      over true q = absurd (true_false q)
      over false q = whole (have_all_reported f new) last.whole

  pub sent_then : (p : Packet) → Among p taken.sent → Among p (packet f from (body.ReportOk t.group) ∷ (notices f new ++ taken.sent))
  sent_then p a = inr (among_right p (notices f new) taken.sent a)

  pub new_early : new.early ≡ t.early
  new_early = same.early

  pub begun_opens : begun.opens ≡ t.opens
  begun_opens = same.opens

  pub begun_looks : begun.looks ≡ t.looks
  begun_looks = same.looks

  pub begun_group : begun.group ≡ t.group
  begun_group = same.group

-- ---- the shape ----

-- whatever was named
any_named : (e : InEpoch) (named : EpochId → ℕ → Serial → Type 0) (group : ℕ) (rs : List OpenRow) → Every (RowShape e (named e.id group) group) rs → Every (RowShape e (named_all e.id group) group) rs
any_named e named group [] h = tt
any_named e named group (r ∷ rs) h = (record { group_is = h.0.group_is; asked = h.0.asked; was_named = inr tt }, any_named e named group rs h.1)

weaker : (c : Config) (m : ℕ) (e : InEpoch) (named : EpochId → ℕ → Serial → Type 0) (came : EpochId → ℕ → Body → Type 0) (t : SyncTable) → TableShape c m e named came t → TableShape c m e named_all came t
weaker c m e named came t k = record { synced = k.synced; own = k.own; early = k.early; looks = k.looks; holders = k.holders; opens = any_named e named t.group t.opens k.opens }

begun_shape : (c : Config) (m : ℕ) (e : InEpoch) (came : EpochId → ℕ → Body → Type 0) (from : ℕ) (xs : List ReportedCopy) (t : SyncTable) → IsMember e from → TableShape c m e named_all came t → TableShape c m e named_all came (record (with_report from xs t) { started = true; early = [] })
begun_shape c m e came from xs t member k = (let n : TableShape c m e named_all came (with_report from xs t) = report_shape c m 0 e named_all came from xs t member k in
    record { synced = n.synced; own = n.own; early = tt; looks = n.looks; holders = n.holders; opens = n.opens })

-- ---- what waits for the start ----

every_of : {A : Type 0} (P : A → Type 0) (xs : List A) → ((x : A) → Among x xs → P x) → Every P xs
every_of P [] f = tt
every_of P (x ∷ xs) f = (f x (inl refl), every_of P xs (λ y a. f y (inr a)))

module _ (c : Config) (w : World) (past : Past c w.trace) (e : InEpoch) (m : ℕ) (v : SiteView) (rise : Rising (map table_group v.tables)) (tables : (t : SyncTable) → Among t v.tables → IsTable c w.trace past e m w.sent t) (t : SyncTable) (there : Among t v.tables) where
  abbrev Waits : Early → Type 0
  Waits x = (x.process < 256) × (x.site ≤ sites_max) × OpensKnown (IsIn v.tables) t x.site x.body

  waits_so : (x : Early) → (b : Body) → x.body ≡ b → IsRequestOf t.group x.process b → BodyFact c w.trace (early_packet (frame_of c e m) x) b → Waits x
  waits_so x (body.Open serial call who request file q) is of k = (
    subst (λ (p : ℕ). p < 256) (k.is_call.process_is ∙ of.0) (known_call c w.trace past.followed past.rest.each k.call k.is_call.caller k.is_call.named).small,
    caller_low c w.trace past e m x.site call who k.call k.is_call,
    subst (λ (b : Body). OpensKnown (IsIn v.tables) t x.site b) (sym is) (open_known c w past e m v rise tables t there x.site serial call who request file q k (sym of.1)),
  )
  waits_so x (body.Look call who request take file what) is of k = (
    subst (λ (p : ℕ). p < 256) (k.is_call.process_is ∙ of.0) (known_call c w.trace past.followed past.rest.each k.call k.is_call.caller k.is_call.named).small,
    caller_low c w.trace past e m x.site call who k.call k.is_call,
    subst (λ (b : Body). OpensKnown (IsIn v.tables) t x.site b) (sym is) tt,
  )
  waits_so x _ is of k = absurd of

  pub early_waits : (x : Early) → Among x t.early → Waits x
  early_waits x a = waits_so x x.body refl (every_among (IsRequest e (CameIn w.sent) t.group) x t.early a (tables t there).shape.early).0 (every_among (λ (z : Early). PacketFact c w.trace (early_packet (frame_of c e m) z)) x t.early a (tables t there).fact.early)

  pub all_fresh : Every (λ (x : Early). OpensKnown (IsIn v.tables) t x.site x.body) t.early
  all_fresh = every_of (λ (x : Early). OpensKnown (IsIn v.tables) t x.site x.body) t.early (λ x a. (early_waits x a).2)

  pub all_low : Every (λ (x : Early). x.site ≤ sites_max) t.early
  all_low = every_of (λ (x : Early). x.site ≤ sites_max) t.early (λ x a. (early_waits x a).1)

  pub all_small : Every (λ (x : Early). x.process < 256) t.early
  all_small = every_of (λ (x : Early). x.process < 256) t.early (λ x a. (early_waits x a).0)

-- ---- the row ----

forms : (b : Body) → IsReport b → FormsNone b × TriesNone b
forms (body.Report group copies) k = (tt, tt)
forms _ k = absurd k

-- a report carries no call
no_call : (a : Asking) (b : Body) → IsReport b → MayCarry a b → ⊥
no_call (asking.Look file what take) (body.Report group copies) k h = h
no_call (asking.Look file what take) _ k h = absurd k
no_call (asking.Open serial file q) (body.Report group copies) k h = h
no_call (asking.Open serial file q) _ k h = absurd k
no_call (asking.Op serial ss n o seen) (body.Report group copies) k h = h
no_call (asking.Op serial ss n o seen) _ k h = absurd k
no_call (asking.Close serial ss) (body.Report group copies) k h = h
no_call (asking.Close serial ss) _ k h = absurd k

sender_boot : (p : Packet) → IsSender p → p.from_boot ≡ 0 → ⊥
sender_boot p k = low p.from_boot k.boot
  where
    low : (n : ℕ) → 1 ≤ n → n ≡ 0 → ⊥
    low n h z = omega (arith, h, z)

some_none : (t : SyncTable) → ◌≡◌ {A = Option SyncTable} None (Some t) → ⊥
some_none t e = cc

same_report : (g h : ℕ) (xs ys : List ReportedCopy) → body.Report g xs ≡ body.Report h ys → g ≡ h
same_report g h xs ys e = cc

pub report_row : (c : Config) → AllGoToMembers c → CarriesOn c IsReport
report_row c members lines n e x w d kind old = handler_row c members lines n e x w d (forms x.packet.body kind).0 (forms x.packet.body kind).1 (hands x.packet.body refl kind) old
  where
    m : ℕ
    m = x.packet.to

    f : Frame
    f = frame_of c e m

    facts : RoundFacts c w
    facts = round_facts c lines n w d.round

    past : Past c w.trace
    past = past_of c w facts

    inside : InsideFact c f w.trace d.view
    inside = inside_fact c e w m d.view facts.fact d.before d.member d.here

    rise : Rising (map table_group d.view.tables)
    rise = tables_rise f d.view.tables inside.groups

    tables : (t : SyncTable) → Among t d.view.tables → IsTable c w.trace past e m w.sent t
    tables = tables_of c lines n w d.round e m d.view d.before d.member d.here

    Handed : Outcome SiteView → ℕ → WaitingCall → Asking → Type 0
    Handed o s y a = ((q : Packet) × Among q o.sent × Carries c e (placed (place_at w) m o.view) s y a q) ⊎ IsHeld c e (placed (place_at w) m o.view) s y a

    hands : (b : Body) → x.packet.body ≡ b → IsReport b → HandlerHands c e m (place_at w) x.packet d.view
    hands (body.Report group copies) is its_kind = over (row table_group group d.view.tables) refl
      where
        from : ℕ
        from = x.packet.from

        same : handles c e m x.packet d.view ≡ at_table_of (on_report f from copies) (row table_group group d.view.tables) d.view
        same = ap (λ (z : Body). takes_inside f x.packet.from z d.view) is

        sender : IsMember e x.packet.from
        sender = from_member e x.packet d.view (taker c lines n e x w d).epoch (ap (λ (z : Body). nat_lt (kind_number z) 6) is) d.taken (sender_boot x.packet (every_among NumberedSender x w.underway (next_among w w.over x d.next) (all_shaped c lines n w d.round).senders.underway))

        no_takes : (s : ℕ) (y : WaitingCall) → Carries c e (place_at w) s y y.asking x.packet → ⊥
        no_takes s y g = no_call y.asking x.packet.body kind (carrier_kind c e (place_at w) s y y.asking x.packet g)

        -- a report that comes names a group whose table is there
        its_group : (j css s : ℕ) (ys : List ReportedCopy) → sync_site c e.members j ≡ Some css → Goes c e s css (body.Report j ys) x.packet → (m ≡ css) × (x.packet.from ≡ s) × (group ≡ j) × ((t : SyncTable) × (row table_group group d.view.tables ≡ Some t))
        its_group j css s ys sync g = (to, ap (λ (p : Packet). p.from) g.is, is_group, table_there c w.trace e group m (boot_in e.members.boot m) d.view d.round.groups inside (ap (λ (i : ℕ). sync_site c e.members i) is_group ∙ (sync ∙ ap Some (sym to))))
          where
            to : m ≡ css
            to = ap (λ (p : Packet). p.to) g.is

            is_group : group ≡ j
            is_group = same_report group j copies ys (sym is ∙ ap (λ (p : Packet). p.body) g.is)

        over : (z : Option SyncTable) → row table_group group d.view.tables ≡ z → HandlerHands c e m (place_at w) x.packet d.view
        over None z = turn_hands c e m (place_at w) x.packet d.view group none_hand
            (subst (λ (o : Outcome SiteView). TurnKeeps c e m (place_at w) d.view group none_hand o) (sym (same ∙ ap (λ (j : Option SyncTable). at_table_of (on_report f from copies) j d.view) z)) (quiet_keeps c e m (place_at w) d.view group none_hand d.here))
            (λ s y still g. absurd (no_takes s y g)) (λ s y i still hand by. absurd hand)
            (λ j css s ys sync g. let k : (m ≡ css) × (x.packet.from ≡ s) × (group ≡ j) × ((t : SyncTable) × (row table_group group d.view.tables ≡ Some t)) = its_group j css s ys sync g in absurd (some_none k.3.0 (sym z ∙ k.3.1)))
        over (Some t) z = turn_hands c e m (place_at w) x.packet d.view t.group hand
            (subst (λ (o : Outcome SiteView). TurnKeeps c e m (place_at w) d.view t.group hand o) (sym is_turn) (turn_keeps c e m (place_at w) d.view d.here g t rise there hand grows))
            (λ s y still h. absurd (no_takes s y h)) (λ s y i still h by. subst (λ (o : Outcome SiteView). Handed o s y y.asking) (sym is_turn) (waited s y i still h y.asking refl by))
            (λ j css s ys sync h. counted j css s (its_group j css s ys sync h))
          where
            g : SyncTable → Outcome SyncTable
            g = on_report f from copies

            hand : Early → Type 0
            hand = Starting f from copies t

            at : Among t d.view.tables × (table_group t ≡ group)
            at = row_key table_group group d.view.tables t z

            there : Among t d.view.tables
            there = at.0

            fresh : Every (λ (i : Early). OpensKnown (IsIn d.view.tables) t i.site i.body) t.early
            fresh = all_fresh c w past e m d.view rise tables t there

            grows : Grows (IsIn d.view.tables) hand t (g t).view
            grows = report_grows f from copies t (IsIn d.view.tables) fresh

            is_turn : handles c e m x.packet d.view ≡ at_table_of g (Some t) d.view
            is_turn = same ∙ ap (λ (j : Option SyncTable). at_table_of g j d.view) z

            counted : (j css s : ℕ) → (m ≡ css) × (x.packet.from ≡ s) × (group ≡ j) × ((k : SyncTable) × (row table_group group d.view.tables ≡ Some k)) → HasReported (placed (place_at w) m (handles c e m x.packet d.view).view) css j s
            counted j css s k = subst (λ (i : ℕ). HasReported (placed (place_at w) m (handles c e m x.packet d.view).view) i j s) k.0 (subst (λ (o : Outcome SiteView). HasReported (placed (place_at w) m o.view) m j s) (sym is_turn) (record {
              view = (at_table_of g (Some t) d.view).view;
              here = placed_here (place_at w) m (at_table_of g (Some t) d.view).view;
              table = (g t).view;
              found = subst (λ (i : ℕ). row table_group i (with_row table_group (g t).view d.view.tables) ≡ Some (g t).view) (grows.group ∙ (at.1 ∙ k.2)) (row_same table_group (g t).view d.view.tables);
              reported = subst (λ (i : ℕ). has (g t).view.reported i ≡ true) k.1 (report_counts f from copies t (IsIn d.view.tables) fresh);
            }))

            -- ---- what waited is handed on ----

            begun : SyncTable
            begun = record (with_report from copies t) { started = true; early = [] }

            es : List Early
            es = (with_report from copies t).early

            done : Outcome SyncTable
            done = takes_all_early f (with_report from copies t).early (record (with_report from copies t) { started = true; early = [] })

            shape : TableShape c m e named_all (CameIn w.sent) begun
            shape = begun_shape c m e (CameIn w.sent) from copies t sender (weaker c m e (IsNamedIn w.trace) (CameIn w.sent) t (tables t there).shape)

            Like : (List Early → Type 0) → Type 0
            Like P = P t.early → P es

            like : (P : List Early → Type 0) → Like P
            like P h = subst P (sym (new_early f from copies t)) h

            all : Every (IsRequest e (CameIn w.sent) begun.group) es
            all = subst (λ (i : ℕ). Every (IsRequest e (CameIn w.sent) i) es) (sym (begun_group f from copies t)) (like (λ (k : List Early). Every (IsRequest e (CameIn w.sent) t.group) k) (tables t there).shape.early)

            small_ones : Every (λ (i : Early). i.process < 256) es
            small_ones = like (λ (k : List Early). Every (λ (i : Early). i.process < 256) k) (all_small c w past e m d.view rise tables t there)

            low_ones : Every (λ (i : Early). i.site ≤ sites_max) es
            low_ones = like (λ (k : List Early). Every (λ (i : Early). i.site ≤ sites_max) k) (all_low c w past e m d.view rise tables t there)

            waited : (s : ℕ) (y : WaitingCall) (i : Early) → StillWaits e (place_at w) (placed (place_at w) m (handles c e m x.packet d.view).view) s y → Starting f from copies t i → (a : Asking) → y.asking ≡ a → IsRequestBy c e m t.group i s y a → Handed (at_table_of g (Some t) d.view) s y a
            waited s y i still h (asking.Look file what take) asks by = inl (on.letter, on.there, (m, by.1, inr on.carries))
              where
                k : WaitingFact c w.trace (frame_of c e s) y
                k = every_among (WaitingFact c w.trace (frame_of c e s)) y still.before.users.waiting still.waited (inside_fact c e w s still.before facts.fact d.before still.member still.was).users.inside.inside.calls

                knows : KnowsLook c e m s y file what take t
                knows = looks_known c lines n e w d.round d.before s m still.before d.view y file what take still.member still.was still.waited asks by.1 d.here t (subst (λ (j : ℕ). row table_group j d.view.tables ≡ Some t) (sym (by.0 ∙ at.1)) z)

                last : (l : LastLook) → row look_key (process_key s y.process) begun.looks ≡ Some l → (is_look_before (look_of y file what take) l ≡ false) × (is_same_look (look_of y file what take) l ≡ true → AnswersAgain c e m s y file what take l)
                last l found = knows.last l (ap (λ (ls : List LastLook). row look_key (process_key s y.process) ls) (sym (begun_looks f from copies t)) ∙ found)

                ours : (j : Early) → Among j es → is_early_of s y.process j ≡ true → j ≡ held_request s y.process (look_body y file what take)
                ours = like (λ (l : List Early). (j : Early) → Among j l → is_early_of s y.process j ≡ true → j ≡ held_request s y.process (look_body y file what take)) knows.held

                its : Among (held_request s y.process (look_body y file what take)) es
                its = like (λ (l : List Early). Among (held_request s y.process (look_body y file what take)) l) (subst (λ (j : Early). Among j t.early) by.2 h.0)

                looks : LooksOn c e m s y file what take done.sent
                looks = look_handed c e m (CameIn w.sent) s y file what take d.member still.member (small c w.trace past e s m y k) es begun refl shape last all small_ones ours its

                on : LooksOn c e m s y file what take (g t).sent
                on = by_start f from copies t (λ (o : Outcome SyncTable). LooksOn c e m s y file what take o.sent) h.1 (record { letter = looks.letter; there = sent_then f from copies t looks.letter looks.there; carries = looks.carries })
            waited s y i still h (asking.Open serial file how) asks by = inl (opens_lift c e m (placed (place_at w) m (at_table_of g (Some t) d.view).view) s y serial file how (g t).view (g t).sent by.1
                (λ r found has stage. asked_there c e m (place_at w) d.view d.here g t rise there hand grows (own_serial s serial) r found has stage (open_alone c w past e m d.view rise tables t there s serial y.call y.process y.request file how fact (sym by.0))) on)
              where
                k : WaitingFact c w.trace (frame_of c e s) y
                k = every_among (WaitingFact c w.trace (frame_of c e s)) y still.before.users.waiting still.waited (inside_fact c e w s still.before facts.fact d.before still.member still.was).users.inside.inside.calls

                fact : OpenFact c w.trace e.id s serial y.call y.process y.request file how
                fact = its_fact c w.trace past e m s y k serial file how asks by.1

                low : s ≤ sites_max
                low = member_low c e w s facts d.before still.member

                well : (r : OpenRow) → open_row begun (own_serial s serial) ≡ Some r → (r.inst ≡ own_serial s serial) × (r.stage ≡ stage.Ended → ⊥)
                well r found = row_well c w.trace past e m s y k serial file how asks low w.sent t (tables t there) r (ap (λ (rs : List OpenRow). row open_key (serial_key (own_serial s serial)) rs) (sym (begun_opens f from copies t)) ∙ found)

                ours : (j : Early) → Among j es → is_early_of s y.process j ≡ true → j ≡ held_request s y.process (open_body y serial file how)
                ours = like (λ (l : List Early). (j : Early) → Among j l → is_early_of s y.process j ≡ true → j ≡ held_request s y.process (open_body y serial file how)) (open_held c w.trace past e m s y k serial file how asks w.sent t (tables t there) (sym by.0))

                its : Among (held_request s y.process (open_body y serial file how)) es
                its = like (λ (l : List Early). Among (held_request s y.process (open_body y serial file how)) l) (subst (λ (j : Early). Among j t.early) by.2 h.0)

                opens : OpensOn c e m s serial done.view done.sent
                opens = open_handed c e m (CameIn w.sent) s y serial file how d.member still.member low (IsIn d.view.tables) hand es begun refl shape well all low_ones (fresh_begun f from copies t (IsIn d.view.tables) fresh) ours its

                on : OpensOn c e m s serial (g t).view (g t).sent
                on = by_start f from copies t (λ (o : Outcome SyncTable). OpensOn c e m s serial o.view o.sent) h.1 (record { letter = opens.letter; there = sent_then f from copies t opens.letter opens.there; carries = opens.carries })
            waited s y i still h (asking.Op serial ss number op seen) asks by = absurd by
            waited s y i still h (asking.Close serial ss) asks by = absurd by
    hands _ is its_kind = absurd its_kind
