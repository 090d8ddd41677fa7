-- Adoptions, mends, and how an epoch is formed: what a site keeps and sends of instances.
use Rattle.std.proofs.Common.{◌≡◌, ◌≤◌, ℕ, ◌+◌, ◌==◌, Bool, true, false, cond, ◌&&◌, not, List, [], ◌∷◌, Option, Some, None, refl, sym, ◌∙◌, ap, subst, ◌⊎◌, inl, inr, arith}
use Rattle.std.proofs.lemmas.Bool.Decides.{nat_tests}
use Rattle.role_steps.proofs.of_plain_facts.Numbers.{equal}
use Rattle.role_steps.proofs.of_plain_facts.Tests.{both_true, not_true, true_false}
use Rattle.locus_ids.specs.declared.ids.EpochId.{EpochId}
use Rattle.locus_ids.specs.declared.ids.FileId.{FileId}
use Rattle.locus_ids.specs.declared.ids.Serial.{Serial}
use Rattle.locus_ids.specs.declared.sites.Links.{Links}
use Rattle.locus_ids.specs.declared.sites.Members.{Members}
use Rattle.locus_ids.specs.declared.sites.Sites.{Sites}
use Rattle.locus_ids.specs.declared.config.Config.{Config}
use Rattle.locus_ids.specs.Sizes.{sites_max}
use Rattle.trace_book.specs.Same.{same_epoch}
use Rattle.trace_book.specs.declared.call.Call.TheVariants as call
use Rattle.wire_messages.specs.declared.body.Body.TheVariants as body
use Rattle.role_steps.specs.Own.{Every}
use Rattle.role_steps.specs.Tables.{row, without_row, first_that}
use Rattle.role_steps.specs.Views.{Frame, SiteView, Promises, Outcome, quiet, sends, tells, and_then, boot_in}
use Rattle.role_steps.specs.Reports.{on_have_of}
use Rattle.role_steps.specs.Storage.{copy_of, report_of}
use Rattle.role_steps.specs.Pulling.{pull_key}
use Rattle.role_steps.specs.Using.{on_call}
use Rattle.role_steps.specs.Versions.{file_row}
use Rattle.role_steps.specs.Epochs.{is_epoch_below, frame_in, leaves_of, leaves, promises, promised_view, reached, poll_packet, polled_sites, polls, new_round, round_id, begins_round, boots_where, part_boot, starts_part_of, promise_packet, refuse_packet, on_poll, counts_promise, with_promise, on_promise_of, on_refuse_of, report_packets, all_reports, joined_view, joins, may_install, is_in, joined_packet, on_install, on_joined, passed_over, unanswered, chosen_set, chosen_members, others_of, install_packet, installs_all, decides_if, passes_over_of, passes_over}
use Rattle.role_steps.specs.Adoption.{notes_own_at, table_group, with_table, without_pull, is_ready, adopts_pull, adopts_first, with_adopted, fits_own}
use Rattle.role_steps.specs.Mends.{has_mend_in, wants_mend, starts_mend_of, starts_mend, starts_mends_in, row_file}
use Rattle.role_steps.specs.declared.instances.Instance.{Instance}
use Rattle.role_steps.specs.declared.pulls.Pull.{Pull}
use Rattle.role_steps.specs.declared.rounds.InEpoch.{InEpoch}
use Rattle.role_steps.specs.declared.rounds.Round.{Round}
use Rattle.role_steps.specs.declared.synchronizing.SyncTable.{SyncTable}
use Rattle.role_steps.specs.declared.synchronizing.FileRow.{FileRow}
use Rattle.role_steps.proofs.Sending.{every_cond, every_map, every_flat_map}
use Rattle.the_run.specs.Kept.{Among}
use Rattle.the_run.specs.Steps.{adopts_of, starts_mends_of, ends_event}
use Rattle.the_run.proofs.InsideSync.{Found}
use Rattle.site_laws.proofs.Vectors.SyncFacts.{row_at, FoundAt}
use Rattle.run_laws.specs.Naming.{Deeds, ViewOk}
use Rattle.site_laws.specs.Packs.InstanceBook.{Note, Listed, Asked, Placed, Began, Book, IsOf, Sound}
use Rattle.site_laws.specs.Packs.InstanceFacts.{PacketFact, Factless, InstanceFact, TableFact, PassedNote, Passed, InsideFact, InEpochFact, RoundFact, ViewFact}
use Rattle.site_laws.proofs.Packs.InstanceBooks.{Leads, grown_same, grown_cons, factless, users_later, sound_cons, once_listed}
use Rattle.site_laws.proofs.Packs.InstanceUsersFacts.{on_call_fine, users_left, users_leave_told}
use Rattle.site_laws.proofs.Packs.InstanceStoreFacts.{sync_factless}
use Rattle.site_laws.proofs.Packs.InstanceSyncFacts.{PlacedHere}
use Rattle.site_laws.proofs.Packs.InstanceSyncEvents.{have_fact}
use Rattle.site_laws.proofs.Packs.InstanceSiteFacts.{InSite, SiteFine, then_site, view_beside, plain_site, quiet_site, inside_of, users_part, every_table, tables_with}
use Rattle.site_laws.proofs.Packs.InstanceJoins.{OwnBoot, chosen_boot, new_tables}

-- ---- adoptions ----

abbrev Tabled : Config → Book → ℕ → SiteView → InEpoch → SyncTable → Type 0
Tabled c book me v e t = TableFact book (frame_in c me v.boot e) t

noted_fact : (c : Config) (book : Book) (me : ℕ) (p : Pull) (e : InEpoch) (o : Option SyncTable) (v : SiteView) → v.epoch ≡ Some e → Found (Tabled c book me v e) o → ViewFact c book me v → InSite c me v.boot book (notes_own_at (frame_in c me v.boot e) p o v)
noted_fact c book me p e None v here k h = (h, refl)
noted_fact c book me p e (Some t) v here k h =
    let f : Frame = frame_in c me v.boot e in
    let u : SyncTable = on_have_of f.me p.stamp (file_row t p.file.ino) t in
    let inside : InsideFact c book me v e = inside_of c book me v e here h in (
      record {
        users = h.users;
        round = h.round;
        passed = h.passed;
        inside = subst (InEpochFact c book me (with_table u v)) (sym here) (record { listed = inside.listed; here = inside.here; store = inside.store; tables = tables_with c me book book v e t.group u (grown_same (PlacedHere f t.group) book) (have_fact book f t.group f.me p.stamp (file_row t p.file.ino) t (k, refl)) inside.tables });
      },
      refl,
    )

without_fact : (c : Config) (book : Book) (me : ℕ) (p : Pull) (v : SiteView) → ViewFact c book me v → ViewFact c book me (without_pull p v)
without_fact c book me p v h = view_beside c book me v v.users v.round (without_row pull_key (pull_key p) v.pulls) v.store v.installs v.reports h.users h.round h

found_in : (c : Config) (book : Book) (me : ℕ) (v : SiteView) (e : InEpoch) (group : ℕ) (ts : List SyncTable) → Every (Tabled c book me v e) ts → Found (Tabled c book me v e) (row table_group group ts)
found_in c book me v e group ts h = pick (row table_group group ts) (row_at (Tabled c book me v e) table_group group ts h)
  where
    pick : (o : Option SyncTable) → FoundAt (Tabled c book me v e) table_group group o → Found (Tabled c book me v e) o
    pick None k = tt
    pick (Some t) k = k.1

adopts_pull_fine : (c : Config) (book : Book) (me : ℕ) (p : Pull) (e : InEpoch) (v : SiteView) → v.epoch ≡ Some e → Sound c book → ViewFact c book me v → SiteFine c me v.boot book (adopts_pull (frame_in c me v.boot e) p v)
adopts_pull_fine c book me p e v here s h =
    let f : Frame = frame_in c me v.boot e in
    let w : SiteView = with_adopted p v in
    let k : ViewFact c book me w = view_beside c book me v v.users v.round (without_row pull_key (pull_key p) v.pulls) (with_adopted p v).store v.installs v.reports h.users h.round h in
    plain_site c me v.boot book (adopts_pull f p v) s
    (noted_fact c book me p e (row table_group p.file.group v.tables) w here (found_in c book me v e p.file.group v.tables (every_table book f 0 v.tables (inside_of c book me v e here h).tables)) k)
    (factless book (adopts_pull f p v).sent (sync_factless f p.file.group (body.Have p.file p.stamp) tt)) (tt, tt)

adopts_first_fine : (c : Config) (book : Book) (me : ℕ) (e : InEpoch) (ps : List Pull) (v : SiteView) → v.epoch ≡ Some e → Sound c book → ViewFact c book me v → SiteFine c me v.boot book (adopts_first (frame_in c me v.boot e) ps v)
adopts_first_fine c book me e [] v here s h = quiet_site c me book v s h
adopts_first_fine c book me e (p ∷ ps) v here s h =
    let f : Frame = frame_in c me v.boot e in
    elim (is_ready v p) as (λ t. SiteFine c me v.boot book (elim t [ true ↦ elim (fits_own p (copy_of v.store p.file)) [ true ↦ adopts_pull (frame_in c me v.boot e) p v | false ↦ adopts_first (frame_in c me v.boot e) ps (without_pull p v) ] | false ↦ adopts_first (frame_in c me v.boot e) ps v ])) [
      | true ↦ elim (fits_own p (copy_of v.store p.file)) as (λ t. SiteFine c me v.boot book (elim t [ true ↦ adopts_pull (frame_in c me v.boot e) p v | false ↦ adopts_first (frame_in c me v.boot e) ps (without_pull p v) ])) [
        | true ↦ adopts_pull_fine c book me p e v here s h
        | false ↦ adopts_first_fine c book me e ps (without_pull p v) here s (without_fact c book me p v h)
      ]
      | false ↦ adopts_first_fine c book me e ps v here s h
    ]

pub adopts_of_fine : (c : Config) (book : Book) (me : ℕ) (o : Option InEpoch) (v : SiteView) → v.epoch ≡ o → Sound c book → ViewFact c book me v → SiteFine c me v.boot book (adopts_of c me o v)
adopts_of_fine c book me None v here s h = quiet_site c me book v s h
adopts_of_fine c book me (Some e) v here s h = adopts_first_fine c book me e v.pulls v here s h

-- ---- mends ----

mend_fine : (c : Config) (book : Book) (me : ℕ) (e : InEpoch) (boot : ℕ) (t : SyncTable) (o : Option FileRow) (v : SiteView) → me ≤ sites_max → v.boot ≡ boot → Sound c book → ViewFact c book me v → SiteFine c me v.boot book (starts_mend_of (frame_in c me boot e) t o v)
mend_fine c book me e boot t None v small b s h = quiet_site c me book v s h
mend_fine c book me e boot t (Some r) v small b s h =
    subst (λ (x : ℕ). SiteFine c me v.boot book (starts_mend_of (frame_in c me x e) t (Some r) v)) b
    (users_part c me book v (on_call (frame_in c me v.boot e) (Some e.id) 0 (call.Mend (row_file t r)) v.users) h (on_call_fine (frame_in c me v.boot e) book (Some e.id) 0 (call.Mend (row_file t r)) v.users small s h.users))

starts_mend_fine : (c : Config) (book : Book) (me : ℕ) (e : InEpoch) (boot : ℕ) (t : SyncTable) (v : SiteView) → me ≤ sites_max → v.boot ≡ boot → Sound c book → ViewFact c book me v → SiteFine c me v.boot book (starts_mend (frame_in c me boot e) t v)
starts_mend_fine c book me e boot t v small b s h =
    elim (t.started && not (has_mend_in v.users t.group)) as (λ x. SiteFine c me v.boot book (elim x [ true ↦ starts_mend_of (frame_in c me boot e) t (first_that (wants_mend v t) t.files) v | false ↦ quiet v ])) [
      | true ↦ mend_fine c book me e boot t (first_that (wants_mend v t) t.files) v small b s h
      | false ↦ quiet_site c me book v s h
    ]

mends_fine : (c : Config) (book : Book) (me : ℕ) (e : InEpoch) (boot : ℕ) (ts : List SyncTable) (v : SiteView) → me ≤ sites_max → v.boot ≡ boot → Sound c book → ViewFact c book me v → SiteFine c me v.boot book (starts_mends_in (frame_in c me boot e) ts v)
mends_fine c book me e boot [] v small b s h = quiet_site c me book v s h
mends_fine c book me e boot (t ∷ ts) v small b s h =
    let o : Outcome SiteView = starts_mend (frame_in c me boot e) t v in
    let k : SiteFine c me v.boot book o = starts_mend_fine c book me e boot t v small b s h in
    then_site c me v.boot book o (starts_mends_in (frame_in c me boot e) ts) k (λ x sound leads g. mends_fine c x me e boot ts o.view small (k.view.1 ∙ b) sound g)

pub mends_of_fine : (c : Config) (book : Book) (me : ℕ) (o : Option InEpoch) (v : SiteView) → me ≤ sites_max → Sound c book → ViewFact c book me v → SiteFine c me v.boot book (starts_mends_of c me o v)
mends_of_fine c book me None v small s h = quiet_site c me book v s h
mends_of_fine c book me (Some e) v small s h = mends_fine c book me e v.boot v.tables v small refl s h

-- ---- leaving and promising ----

pub leaves_of_fine : (c : Config) (book : Book) (me : ℕ) (e : Option InEpoch) (v : SiteView) → v.epoch ≡ e → Sound c book → ViewFact c book me v → SiteFine c me v.boot book (leaves_of me e v)
leaves_of_fine c book me None v here s h = quiet_site c me book v s h
leaves_of_fine c book me (Some e) v here s h =
    plain_site c me v.boot book (leaves_of me (Some e) v) s
    (record { users = users_left book me v.boot e.id v.users h.users; round = h.round; passed = h.passed; inside = refl }, refl)
    tt (tt, users_leave_told book me v.boot e.id v.users)

below_below : (a b d : EpochId) → is_epoch_below a b ≡ true → is_epoch_below b d ≡ true → is_epoch_below a d ≡ true
below_below a b d h g = grind (arith, nat_tests)

above : (a b : EpochId) → a.number + 1 ≤ b.number → is_epoch_below a b ≡ true
above a b h = grind (arith, nat_tests)

not_below_self : (a : EpochId) → is_epoch_below a a ≡ true → ⊥
not_below_self a h = grind (arith, nat_tests)

-- what was passed is below a greater id
passed_below : (v : SiteView) (id e : EpochId) → is_epoch_below v.promised id ≡ true → Passed v e → is_epoch_below e id ≡ true
passed_below v id e below (inl h) = subst (λ (x : EpochId). is_epoch_below x id ≡ true) (sym h.0) below
passed_below v id e below (inr h) = below_below e v.promised id h below

promised_note : (v : SiteView) (id : EpochId) (n : Note) → is_epoch_below v.promised id ≡ true → PassedNote v n → PassedNote (promised_view id v) n
promised_note v id (Listed e members) below h = inr (passed_below v id e below h)
promised_note v id (Asked us b serial file how) below h = tt
promised_note v id (Placed e inst group css b ss) below h = inr (passed_below v id e below h)
promised_note v id (Began e inst ss b file) below h = inr (passed_below v id e below h)

promised_fine : (c : Config) (book : Book) (me : ℕ) (id : EpochId) (reach : Sites) (v : SiteView) → v.epoch ≡ None → is_epoch_below v.promised id ≡ true → Sound c book → ViewFact c book me v → SiteFine c me v.boot book (tells (Promises me id reach ∷ []) (promised_view id v))
promised_fine c book me id reach v gone below s h =
    plain_site c me v.boot book (tells (Promises me id reach ∷ []) (promised_view id v)) s (
      record {
        users = h.users;
        round = tt;
        passed = λ n k own. promised_note v id n below (h.passed n k own);
        inside = subst (InEpochFact c book me (promised_view id v)) (sym gone) (subst (InEpochFact c book me v) gone h.inside);
      },
      refl,
    )
    tt (tt, tt)

leaves_promised : (me : ℕ) (e : Option InEpoch) (v : SiteView) → (leaves_of me e v).view.promised ≡ v.promised
leaves_promised me None v = refl
leaves_promised me (Some e) v = refl

leaves_epoch : (me : ℕ) (e : Option InEpoch) (v : SiteView) → v.epoch ≡ e → (leaves_of me e v).view.epoch ≡ None
leaves_epoch me None v h = h
leaves_epoch me (Some e) v h = refl

promises_fine : (c : Config) (book : Book) (me : ℕ) (id : EpochId) (reach : Sites) (v : SiteView) → is_epoch_below v.promised id ≡ true → Sound c book → ViewFact c book me v → SiteFine c me v.boot book (promises me id reach v)
promises_fine c book me id reach v below s h =
    then_site c me v.boot book (leaves me v) (λ now. tells (Promises me id reach ∷ []) (promised_view id now)) (leaves_of_fine c book me v.epoch v refl s h)
    (λ b sound leads g. promised_fine c b me id reach (leaves me v).view (leaves_epoch me v.epoch v refl) (subst (λ (x : EpochId). is_epoch_below x id ≡ true) (sym (leaves_promised me v.epoch v)) below) sound g)

-- ---- rounds ----

polls_fine : (c : Config) (book : Book) (me : ℕ) (id : EpochId) (polled : Links) (v : SiteView) → id.site ≡ me → id.boot ≡ v.boot → Sound c book → ViewFact c book me v → SiteFine c me v.boot book (polls me id polled v)
polls_fine c book me id polled v site boot s h =
    plain_site c me v.boot book (polls me id polled v) s
    (view_beside c book me v v.users (Some (new_round id polled)) v.pulls v.store v.installs v.reports h.users (site, boot) h, refl)
    (every_map (PacketFact book) (poll_packet me v.boot id polled) (polled_sites polled) (λ t. tt)) tt

pub begins_fine : (c : Config) (book : Book) (me : ℕ) (links : Links) (number : ℕ) (polled : Links) (v : SiteView) → v.promised.number + 1 ≤ number → Sound c book → ViewFact c book me v → SiteFine c me v.boot book (begins_round me links number polled v)
begins_fine c book me links number polled v le s h =
    let id : EpochId = round_id me number v in
    let o : Outcome SiteView = promises me id (reached links) v in
    let k : SiteFine c me v.boot book o = promises_fine c book me id (reached links) v (above v.promised id le) s h in
    then_site c me v.boot book o (polls me id polled) k (λ b sound leads g. polls_fine c b me id polled o.view refl (sym k.view.1) sound g)

pub starts_part_fine : (c : Config) (book : Book) (me : ℕ) (links : Links) (e : Option InEpoch) (v : SiteView) → Sound c book → ViewFact c book me v → SiteFine c me v.boot book (starts_part_of me links e v)
starts_part_fine c book me links None v s h = quiet_site c me book v s h
starts_part_fine c book me links (Some e) v s h = begins_fine c book me links (v.promised.number + 1) (boots_where (part_boot me links e.members)) v (omega arith) s h

pub on_poll_fine : (c : Config) (book : Book) (me : ℕ) (links : Links) (from from_boot : ℕ) (id : EpochId) (v : SiteView) → Sound c book → ViewFact c book me v → SiteFine c me v.boot book (on_poll me links from from_boot id v)
on_poll_fine c book me links from from_boot id v s h =
    (elim (is_epoch_below v.promised id) as (λ t. is_epoch_below v.promised id ≡ t → SiteFine c me v.boot book (elim t [ true ↦ and_then (promises me id (reached links) v) (λ now. sends (promise_packet me links from from_boot id now) now) | false ↦ sends (cond (same_epoch id v.promised && not v.installed) (promise_packet me links from from_boot id v) (refuse_packet me from from_boot id v)) v ])) [
      | true ↦ λ e. then_site c me v.boot book (promises me id (reached links) v) (λ now. sends (promise_packet me links from from_boot id now) now) (promises_fine c book me id (reached links) v e s h)
          (λ b sound leads g. plain_site c me (promises me id (reached links) v).view.boot b (sends (promise_packet me links from from_boot id (promises me id (reached links) v).view) (promises me id (reached links) v).view) sound (g, refl) (tt, tt) tt)
      | false ↦ λ e. plain_site c me v.boot book (sends (cond (same_epoch id v.promised && not v.installed) (promise_packet me links from from_boot id v) (refuse_packet me from from_boot id v)) v) s (h, refl)
          (every_cond (PacketFact book) (same_epoch id v.promised && not v.installed) (promise_packet me links from from_boot id v) (refuse_packet me from from_boot id v) (tt, tt) (tt, tt)) tt
    ]) refl

cond_round : (me boot : ℕ) (b : Bool) (x y : Round) → x.id ≡ y.id → RoundFact me boot (Some y) → RoundFact me boot (Some (cond b x y))
cond_round me boot true x y e h = subst (λ (i : EpochId). (i.site ≡ me) × (i.boot ≡ boot)) (sym e) h
cond_round me boot false x y e h = h

-- the round goes on
round_fine : (c : Config) (book : Book) (me : ℕ) (r : Round) (v : SiteView) → RoundFact me v.boot (Some r) → Sound c book → ViewFact c book me v → SiteFine c me v.boot book (quiet (record v { round = Some r }))
round_fine c book me r v k s h = plain_site c me v.boot book (quiet (record v { round = Some r })) s (view_beside c book me v v.users (Some r) v.pulls v.store v.installs v.reports h.users k h, refl) tt tt

pub on_promise_fine : (c : Config) (book : Book) (me from from_boot : ℕ) (id : EpochId) (reach : Sites) (o : Option Round) (v : SiteView) → v.round ≡ o → Sound c book → ViewFact c book me v → SiteFine c me v.boot book (on_promise_of from from_boot id reach o v)
on_promise_fine c book me from from_boot id reach None v here s h = quiet_site c me book v s h
on_promise_fine c book me from from_boot id reach (Some r) v here s h =
    round_fine c book me (cond (counts_promise from from_boot id r) (with_promise from reach r) r) v (cond_round me v.boot (counts_promise from from_boot id r) (with_promise from reach r) r refl (subst (RoundFact me v.boot) here h.round)) s h

same_epoch_eq : (a b : EpochId) → same_epoch a b ≡ true → a ≡ b
same_epoch_eq a b h = id_eq (grind (arith, nat_tests)) (grind (arith, nat_tests)) (grind (arith, nat_tests))
  where
    id_eq : a.number ≡ b.number → a.site ≡ b.site → a.boot ≡ b.boot → a ≡ b
    id_eq e f g = λ i. record { number = e i; site = f i; boot = g i }

pub on_refuse_fine : (K : Deeds) (c : Config) (book : Book) (me : ℕ) (links : Links) (id theirs : EpochId) (o : Option Round) (v : SiteView) → v.round ≡ o → ViewOk K v → id.number ≤ theirs.number → Sound c book → ViewFact c book me v → SiteFine c me v.boot book (on_refuse_of me links id theirs o v)
on_refuse_fine K c book me links id theirs None v here ok le s h = quiet_site c me book v s h
on_refuse_fine K c book me links id theirs (Some r) v here ok le s h =
    (elim (same_epoch r.id id) as (λ t. same_epoch r.id id ≡ t → SiteFine c me v.boot book (elim t [ true ↦ begins_round me links (theirs.number + 1) r.polled v | false ↦ quiet v ])) [
      | true ↦ λ e. begins_fine c book me links (theirs.number + 1) r.polled v (let k : v.promised.number ≡ id.number = ap (λ (i : EpochId). i.number) (sym (ok.round_is r here).0 ∙ same_epoch_eq r.id id e) in omega (arith, k, le)) s h
      | false ↦ λ e. quiet_site c me book v s h
    ]) refl

-- ---- joining ----

-- an id that was promised last and isn't joined wasn't passed
not_passed : (v : SiteView) (id : EpochId) → id ≡ v.promised → v.installed ≡ false → Passed v id → ⊥
not_passed v id last waits (inl h) = true_false (sym h.1 ∙ waits)
not_passed v id last waits (inr h) = not_below_self v.promised (subst (λ (x : EpochId). is_epoch_below x v.promised ≡ true) last h)

still_passed : (c : Config) (me : ℕ) (id : EpochId) (m : Members) (v : SiteView) (e : EpochId) → v.installed ≡ false → Passed v e → Passed (joined_view c me id m v) e
still_passed c me id m v e waits (inl h) = absurd (true_false (sym h.1 ∙ waits))
still_passed c me id m v e waits (inr h) = inr h

joined_note : (c : Config) (me : ℕ) (id : EpochId) (m : Members) (v : SiteView) (n : Note) → v.installed ≡ false → PassedNote v n → PassedNote (joined_view c me id m v) n
joined_note c me id m v (Listed e members) waits h = still_passed c me id m v e waits h
joined_note c me id m v (Asked us b serial file how) waits h = tt
joined_note c me id m v (Placed e inst group css b ss) waits h = still_passed c me id m v e waits h
joined_note c me id m v (Began e inst ss b file) waits h = still_passed c me id m v e waits h

-- what a site must have to join an epoch
record Joining (me : ℕ) (id : EpochId) (m : Members) (v : SiteView) : Type 0 where
  gone : v.epoch ≡ None
  waits : v.installed ≡ false
  last : id ≡ v.promised
  own : OwnBoot m me v.boot

-- the view that has joined, over a book with no note of the epoch by this boot but of its members
joined_fact : (c : Config) (old book : Book) (me : ℕ) (id : EpochId) (m : Members) (v : SiteView) → Joining me id m v → ViewFact c old me v → Leads old book → Among (Listed id m) book → ((n : Note) → Among n book → Among n old ⊎ (Listed id m ≡ n)) → ViewFact c book me (joined_view c me id m v)
joined_fact c old book me id m v j h leads listed back = record {
  users = users_later old book leads me v.boot v.users (λ serial file how k. asked_before serial file how (back _ k)) h.users;
  round = tt;
  passed = λ n k own. notes n own (back n k);
  inside = record {
    listed = listed;
    here = inl (j.last, refl);
    store = record { instances = subst (λ (xs : List Instance). Every (InstanceFact book id me v.boot) xs) (sym none) tt; has = λ inst file k. absurd (unbegun inst file (back _ k)) };
    tables = new_tables book c me v.boot (record { id = id; members = m }) (λ inst group ss k. unplaced inst group ss (back _ k)) j.own;
  };
}
  where
    none : v.store.instances ≡ []
    none = subst (InEpochFact c old me v) j.gone h.inside

    listed_asked : (us b serial : ℕ) (file : FileId) (how : _) → Listed id m ≡ Asked us b serial file how → ⊥
    listed_asked us b serial file how e = cc

    listed_placed : (e : EpochId) (inst : Serial) (group css b ss : ℕ) → Listed id m ≡ Placed e inst group css b ss → ⊥
    listed_placed e inst group css b ss q = cc

    listed_began : (e : EpochId) (inst : Serial) (ss b : ℕ) (file : FileId) → Listed id m ≡ Began e inst ss b file → ⊥
    listed_began e inst ss b file q = cc

    asked_before : (serial : ℕ) (file : FileId) (how : _) → Among (Asked me v.boot serial file how) old ⊎ (Listed id m ≡ Asked me v.boot serial file how) → Among (Asked me v.boot serial file how) old
    asked_before serial file how (inl k) = k
    asked_before serial file how (inr e) = absurd (listed_asked me v.boot serial file how e)

    unbegun : (inst : Serial) (file : FileId) → Among (Began id inst me v.boot file) old ⊎ (Listed id m ≡ Began id inst me v.boot file) → ⊥
    unbegun inst file (inl k) = not_passed v id j.last j.waits (h.passed (Began id inst me v.boot file) k (refl, refl))
    unbegun inst file (inr e) = listed_began id inst me v.boot file e

    unplaced : (inst : Serial) (group ss : ℕ) → Among (Placed id inst group me v.boot ss) old ⊎ (Listed id m ≡ Placed id inst group me v.boot ss) → ⊥
    unplaced inst group ss (inl k) = not_passed v id j.last j.waits (h.passed (Placed id inst group me v.boot ss) k (refl, refl))
    unplaced inst group ss (inr e) = listed_placed id inst group me v.boot ss e

    notes : (n : Note) → IsOf me v.boot n → Among n old ⊎ (Listed id m ≡ n) → PassedNote (joined_view c me id m v) n
    notes n own (inl k) = joined_note c me id m v n j.waits (h.passed n k own)
    notes n own (inr e) = subst (PassedNote (joined_view c me id m v)) e (inl (j.last, refl))

reports_factless : (f : Frame) (v : SiteView) → Every Factless (all_reports f v)
reports_factless f v = every_flat_map Factless (report_packets f v) v.reports (λ g. sync_factless f g (body.Report g (report_of g v.store.copies)) tt)

pub all_reports_fact : (book : Book) (f : Frame) (v : SiteView) → Every (PacketFact book) (all_reports f v)
all_reports_fact book f v = factless book (all_reports f v) (reports_factless f v)

listed_cons : (x : Note) (book : Book) (n : Note) → Among n (x ∷ book) → Among n book ⊎ (x ≡ n)
listed_cons x book n (inl e) = inr (sym e)
listed_cons x book n (inr k) = inl k

-- a list that is known is joined
joins_known : (c : Config) (book : Book) (me : ℕ) (id : EpochId) (m : Members) (v : SiteView) → Joining me id m v → Among (Listed id m) book → Sound c book → ViewFact c book me v → SiteFine c me v.boot book (joins c me id m v)
joins_known c book me id m v j listed s h =
    plain_site c me v.boot book (joins c me id m v) s
    (joined_fact c book book me id m v j h (λ n k. k) listed (λ n k. inl k), refl)
    (all_reports_fact book (frame_in c me v.boot (record { id = id; members = m })) (joined_view c me id m v)) (listed, tt)

-- a new list is joined by the site that chose it
joins_new : (c : Config) (book : Book) (me : ℕ) (id : EpochId) (m : Members) (v : SiteView) → Joining me id m v → id.site ≡ me → id.boot ≡ v.boot → Sound c book → ViewFact c book me v → SiteFine c me v.boot book (joins c me id m v)
joins_new c book me id m v j site boot s h =
    let new : Note = Listed id m in
    record {
      book = new ∷ book;
      grown = grown_cons (IsOf me v.boot) new book (site, boot);
      sound = sound_cons c new book s tt (once_listed id m book s.once (λ n k. not_passed v id j.last j.waits (h.passed (Listed id n) k (site, boot))));
      view = (joined_fact c book (new ∷ book) me id m v j h (λ n k. inr k) (inl refl) (listed_cons new book), refl);
      sent = all_reports_fact (new ∷ book) (frame_in c me v.boot (record { id = id; members = m })) (joined_view c me id m v);
      told = (inl refl, tt);
    }

pub on_install_fine : (K : Deeds) (c : Config) (book : Book) (me from from_boot : ℕ) (id : EpochId) (m : Members) (v : SiteView) → ViewOk K v → Among (Listed id m) book → Sound c book → ViewFact c book me v → SiteFine c me v.boot book (on_install c me from from_boot id m v)
on_install_fine K c book me from from_boot id m v ok listed s h =
    (elim (may_install me id m v) as (λ t. may_install me id m v ≡ t → SiteFine c me v.boot book (elim t [ true ↦ and_then (joins c me id m v) (λ now. sends (joined_packet me from from_boot id now) now) | false ↦ sends (cond (is_in id v.epoch) (joined_packet me from from_boot id v) []) v ])) [
      | true ↦ λ e. then_site c me v.boot book (joins c me id m v) (λ now. sends (joined_packet me from from_boot id now) now) (joins_known c book me id m v (joining e) listed s h)
          (λ b sound leads g. plain_site c me (joins c me id m v).view.boot b (sends (joined_packet me from from_boot id (joins c me id m v).view) (joins c me id m v).view) sound (g, refl) (tt, tt) tt)
      | false ↦ λ e. plain_site c me v.boot book (sends (cond (is_in id v.epoch) (joined_packet me from from_boot id v) []) v) s (h, refl) (every_cond (PacketFact book) (is_in id v.epoch) (joined_packet me from from_boot id v) [] (tt, tt) tt) tt
    ]) refl
  where
    joining : may_install me id m v ≡ true → Joining me id m v
    joining e =
        let a : (same_epoch id v.promised ≡ true) × ((not v.installed && (boot_in m.boot me == v.boot)) ≡ true) = both_true (same_epoch id v.promised) (not v.installed && (boot_in m.boot me == v.boot)) e in
        let b : (not v.installed ≡ true) × ((boot_in m.boot me == v.boot) ≡ true) = both_true (not v.installed) (boot_in m.boot me == v.boot) a.1 in
        let w : v.installed ≡ false = not_true v.installed b.0 in
        record { gone = (ok.waits w).0; waits = w; last = same_epoch_eq id v.promised a.0; own = inl (equal (boot_in m.boot me) v.boot b.1) }

pub on_joined_fine : (c : Config) (book : Book) (me from : ℕ) (id : EpochId) (v : SiteView) → Sound c book → ViewFact c book me v → SiteFine c me v.boot book (on_joined from id v)
on_joined_fine c book me from id v s h =
    elim (is_in id v.epoch) as (λ b. SiteFine c me v.boot book (quiet (cond b (record v { installs = without_row (λ s. s) from v.installs }) v))) [
      | true ↦ plain_site c me v.boot book (quiet (record v { installs = without_row (λ s. s) from v.installs })) s (view_beside c book me v v.users v.round v.pulls v.store (without_row (λ s. s) from v.installs) v.reports h.users h.round h, refl) tt tt
      | false ↦ quiet_site c me book v s h
    ]

-- ---- the decision ----

installs_fine : (c : Config) (book : Book) (me : ℕ) (id : EpochId) (m : Members) (v : SiteView) → Among (Listed id m) book → Sound c book → ViewFact c book me v → SiteFine c me v.boot book (installs_all me id m v)
installs_fine c book me id m v listed s h =
    plain_site c me v.boot book (installs_all me id m v) s
    (view_beside c book me v v.users v.round v.pulls v.store (others_of me m) v.reports h.users h.round h, refl)
    (every_map (PacketFact book) (install_packet me v.boot id m) (others_of me m) (λ t. listed)) tt

decides_fine : (K : Deeds) (c : Config) (book : Book) (me : ℕ) (links : Links) (r q : Round) (xs : List ℕ) (v : SiteView) → v.round ≡ Some r → q.id ≡ r.id → ViewOk K v → Sound c book → ViewFact c book me v → SiteFine c me v.boot book (decides_if c me links q xs v)
decides_fine K c book me links r q [] v here same ok s h =
    let m : Members = chosen_members me v.boot q (chosen_set me links q) in
    let k : (r.id.site ≡ me) × (r.id.boot ≡ v.boot) = subst (RoundFact me v.boot) here h.round in
    let is : (r.id ≡ v.promised) × (v.installed ≡ false) = ok.round_is r here in
    let j : Joining me q.id m v = record { gone = (ok.waits is.1).0; waits = is.1; last = same ∙ is.0; own = chosen_boot me v.boot q (chosen_set me links q) } in
    then_site c me v.boot book (joins c me q.id m v) (installs_all me q.id m) (joins_new c book me q.id m v j (ap (λ (i : EpochId). i.site) same ∙ k.0) (ap (λ (i : EpochId). i.boot) same ∙ k.1) s h)
    (λ b sound leads g. installs_fine c b me q.id m (joins c me q.id m v).view (inside_of c b me (joins c me q.id m v).view (record { id = q.id; members = m }) refl g).listed sound g)
decides_fine K c book me links r q (x ∷ xs) v here same ok s h =
    round_fine c book me q v (subst (λ (i : EpochId). (i.site ≡ me) × (i.boot ≡ v.boot)) (sym same) (subst (RoundFact me v.boot) here h.round)) s h

passes_over_fine : (K : Deeds) (c : Config) (book : Book) (me : ℕ) (links : Links) (o : Option Round) (v : SiteView) → v.round ≡ o → ViewOk K v → Sound c book → ViewFact c book me v → SiteFine c me v.boot book (passes_over_of c me links o v)
passes_over_fine K c book me links None v here ok s h = quiet_site c me book v s h
passes_over_fine K c book me links (Some r) v here ok s h = decides_fine K c book me links r (passed_over links r) (unanswered (passed_over links r)) v here refl ok s h

pub ends_fine : (K : Deeds) (c : Config) (book : Book) (me : ℕ) (links : Links) (v : SiteView) → me ≤ sites_max → ViewOk K v → Sound c book → ViewFact c book me v → SiteFine c me v.boot book (ends_event c me links v)
ends_fine K c book me links v small ok s h =
    then_site c me v.boot book (passes_over c me links v) (λ now. starts_mends_of c me now.epoch now) (passes_over_fine K c book me links v.round v refl ok s h)
    (λ b sound leads g. mends_of_fine c b me (passes_over c me links v).view.epoch (passes_over c me links v).view small sound g)
