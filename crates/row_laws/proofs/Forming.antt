-- What the handlers that form epochs tell and send, by their causes.
use Rattle.std.proofs.Common.{◌≡◌, ◌≢◌, ◌≤◌, ◌<◌, ℕ, zero, suc, ◌+◌, ◌==◌, Bool, true, false, cond, ◌&&◌, not, List, [], ◌∷◌, map, filter, get_or, Option, Some, None, refl, sym, ◌∙◌, ap, subst, inl, arith}
use Rattle.std.proofs.lemmas.Bool.Decides.{nat_tests}
use Rattle.role_steps.proofs.of_plain_facts.Numbers.{equal_self}
use Rattle.locus_ids.specs.Sites.{has}
use Rattle.locus_ids.specs.declared.ids.EpochId.{EpochId}
use Rattle.locus_ids.specs.declared.sites.Sites.{Sites}
use Rattle.locus_ids.specs.declared.sites.Members.{Members}
use Rattle.locus_ids.specs.declared.sites.Links.{Links}
use Rattle.locus_ids.specs.declared.config.Config.{Config}
use Rattle.trace_book.specs.Same.{same_epoch}
use Rattle.trace_book.specs.declared.record.Record.{Record}
use Rattle.trace_book.specs.declared.record.Record.TheVariants as says
use Rattle.wire_messages.specs.declared.packet.Packet.{Packet}
use Rattle.wire_messages.specs.declared.body.Body.{Body}
use Rattle.wire_messages.specs.declared.body.Body.TheVariants as body
use Rattle.role_steps.specs.Own.{Every}
use Rattle.role_steps.specs.Tables.{without_row}
use Rattle.role_steps.specs.Views.{Frame, SiteView, Told, Shown, Promises, Outcome, quiet, sends, tells, and_then, joined_to, boot_in, pack_sites, all_sites, all_groups}
use Rattle.role_steps.specs.Using.{reply_record}
use Rattle.role_steps.specs.Reports.{new_table}
use Rattle.role_steps.specs.Storage.{report_of}
use Rattle.role_steps.specs.Epochs.{is_epoch_below, frame_in, leaves_of, leaves, promises, promised_view, reached, poll_packet, polled_sites, polls, round_id, begins_round, starts_merge, boots_where, merge_boot, part_boot, starts_part_of, starts_part, promise_packet, refuse_packet, on_poll, counts_promise, with_promise, on_promise_of, on_refuse_of, own_groups, is_sync_site, joined_view, report_packets, all_reports, joins, may_install, is_in, joined_packet, on_install, on_joined, left_boot, is_polled, passed_over, has_promised, unanswered, member_boot, chosen_members, chosen_set, others_of, install_packet, installs_all, decides_if, passes_over_of}
use Rattle.role_steps.specs.declared.rounds.InEpoch.{InEpoch}
use Rattle.role_steps.specs.declared.rounds.Promise.{Promise}
use Rattle.role_steps.specs.declared.rounds.Round.{Round}
use Rattle.role_steps.specs.declared.users.WaitingCall.{WaitingCall}
use Rattle.role_steps.proofs.Sending.{every_append, every_cond, every_map, every_flat_map}
use Rattle.role_steps.proofs.Counted.{CountsFrom, sites_count}
use Rattle.role_steps.specs.Requests.{waiting_span}
use Rattle.site_laws.proofs.of_the_run.Boots.{every_weaker}
use Rattle.row_laws.specs.Inward.{Inward, InwardPacket, RoleRecord, RoleTold, LooksInward, Indoors}
use Rattle.row_laws.specs.Events.{IsOwnId, HasRound, ListsItself, IsShort, PromisesRise, Causes, SiteRecord, SiteTold, FormingFact, FormingPacket, RoundFact, ListIsShort, ViewForms, Forms}
use Rattle.row_laws.proofs.Walks.{no_first, sync_plain}
use Rattle.row_laws.proofs.Choosing.{boot_nowhere, decided, row_rises, passed_rise}

-- ---- what roles do ----

role_record : (me : ℕ) (k : Causes) (r : Record) → RoleRecord r → SiteRecord me k r
role_record me k (says.Leave t id) h = absurd h
role_record me k (says.Join t id members) h = absurd h
role_record me k (says.Accept t process call words) h = inl h
role_record me k _ h = h

pub role_told : (me : ℕ) (k : Causes) (x : Told) → RoleTold x → SiteTold me k x
role_told me k (Shown r) h = role_record me k r h
role_told me k (Promises t id reach) h = absurd h
role_told me k _ h = tt

poll_inward : (p : Packet) (b : Body) → Inward b → FormingFact p b
poll_inward p body.Poll h = absurd h
poll_inward p (body.Install members) h = absurd h
poll_inward p _ h = tt

pub inward_polls : (ps : List Packet) → Every InwardPacket ps → Every FormingPacket ps
inward_polls ps h = every_weaker InwardPacket FormingPacket ps (λ p. poll_inward p p.body) h

pub indoors_forms : (me boot : ℕ) (k : Causes) (v : SiteView) (o : Outcome SiteView) → Indoors v o → v.boot ≡ boot → ViewForms me v → Forms me boot k o
indoors_forms me boot k v o i here h = record {
  boot_is = i.boot ∙ here;
  view = record { round = subst (λ (b : ℕ). RoundFact me b o.view.round) (sym i.boot) (subst (RoundFact me v.boot) (sym i.round) h.round); tables = i.tables; epoch = subst ListIsShort (sym i.epoch) h.epoch };
  told = every_weaker RoleTold (SiteTold me k) o.told (role_told me k) i.inwardly.1;
  sent = inward_polls o.sent i.inwardly.0;
  written = i.inwardly.2;
}

-- ---- outcomes ----

pub quiet_forms : (me boot : ℕ) (k : Causes) (v : SiteView) → v.boot ≡ boot → ViewForms me v → Forms me boot k (quiet v)
quiet_forms me boot k v here h = record { boot_is = here; view = h; told = tt; sent = tt; written = tt }

sends_forms : (me boot : ℕ) (k : Causes) (ps : List Packet) (v : SiteView) → v.boot ≡ boot → ViewForms me v → Every FormingPacket ps → Forms me boot k (sends ps v)
sends_forms me boot k ps v here h s = record { boot_is = here; view = h; told = tt; sent = s; written = tt }

pub joined_forms : (me boot : ℕ) (k : Causes) (o p : Outcome SiteView) → Forms me boot k o → Forms me boot k p → Forms me boot k (joined_to o p)
joined_forms me boot k o p h g = record {
  boot_is = g.boot_is;
  view = g.view;
  told = every_append (SiteTold me k) o.told p.told h.told g.told;
  sent = every_append FormingPacket o.sent p.sent h.sent g.sent;
  written = no_first o.written p.written h.written g.written;
}

pub then_forms : (me boot : ℕ) (k : Causes) (o : Outcome SiteView) (f : SiteView → Outcome SiteView) → Forms me boot k o → (o.view.boot ≡ boot → ViewForms me o.view → Forms me boot k (f o.view)) → Forms me boot k (and_then o f)
then_forms me boot k o f h g = joined_forms me boot k o (f o.view) h (g h.boot_is h.view)

-- ---- leaving and promising ----

-- the site is in an epoch
abbrev pub IsIn : Option InEpoch → Type 0
IsIn None = ⊥
IsIn (Some e) = Unit {0}

pub leaves_of_forms : (me boot : ℕ) (k : Causes) (e : Option InEpoch) (v : SiteView) → (IsIn e → k.leave) → v.boot ≡ boot → ViewForms me v → Forms me boot k (leaves_of me e v)
leaves_of_forms me boot k None v l here h = quiet_forms me boot k v here h
leaves_of_forms me boot k (Some e) v l here h = record {
  boot_is = here;
  view = record { round = h.round; tables = tt; epoch = tt };
  told = ((refl, l tt), every_map (SiteTold me k) (λ (w : WaitingCall). reply_record me v.boot w _) v.users.waiting (λ w. tt));
  sent = tt;
  written = tt;
}

promises_forms : (me boot : ℕ) (k : Causes) (id : EpochId) (reach : Sites) (v : SiteView) → (IsIn v.epoch → k.leave) → k.promise id → v.boot ≡ boot → ViewForms me v → Forms me boot k (promises me id reach v)
promises_forms me boot k id reach v l g here h =
    then_forms me boot k (leaves me v) (λ now. tells (Promises me id reach ∷ []) (promised_view id now)) (leaves_of_forms me boot k v.epoch v l here h)
    (λ b f. record { boot_is = b; view = record { round = tt; tables = f.tables; epoch = f.epoch }; told = ((refl, g), tt); sent = tt; written = tt })

-- ---- polls ----

passed_all : (test : ℕ → Bool) (xs : List ℕ) → Every (λ (s : ℕ). test s ≡ true) (filter test xs)
passed_all test [] = tt
passed_all test (x ∷ xs) = (elim (test x) as (λ b. test x ≡ b → Every (λ (s : ℕ). test s ≡ true) (cond b (x ∷ filter test xs) (filter test xs))) [ true ↦ λ e. (e, passed_all test xs) | false ↦ λ e. passed_all test xs ]) refl

still_all : (P : ℕ → Type 0) (test : ℕ → Bool) (xs : List ℕ) → Every P xs → Every P (filter test xs)
still_all P test [] h = tt
still_all P test (x ∷ xs) h = elim (test x) as (λ b. Every P (cond b (x ∷ filter test xs) (filter test xs))) [ true ↦ (h.0, still_all P test xs h.1) | false ↦ still_all P test xs h.1 ]

mapped_all : (Q : ℕ → Type 0) (P : Packet → Type 0) (g : ℕ → Packet) (xs : List ℕ) → ((x : ℕ) → Q x → P (g x)) → Every Q xs → Every P (map g xs)
mapped_all Q P g [] f h = tt
mapped_all Q P g (x ∷ xs) f h = (f x h.0, mapped_all Q P g xs f h.1)

not_zero : (n : ℕ) → not (n == 0) ≡ true → n ≡ 0 → ⊥
not_zero n e f = grind (arith, nat_tests)

-- none of the polled sites is the one that polls
others_polled : (me : ℕ) (polled : Links) → boot_in polled.boot me ≡ 0 → Every (λ (s : ℕ). me ≢ s) (polled_sites polled)
others_polled me polled none = every_weaker (λ (s : ℕ). not (boot_in polled.boot s == 0) ≡ true) (λ (s : ℕ). me ≢ s) (polled_sites polled)
    (λ s e same. not_zero (boot_in polled.boot s) e (subst (λ (t : ℕ). boot_in polled.boot t ≡ 0) same none))
    (passed_all (λ s. not (boot_in polled.boot s == 0)) all_sites)

polls_others : (me boot : ℕ) (id : EpochId) (polled : Links) (xs : List ℕ) → id.site ≡ me → Every (λ (s : ℕ). me ≢ s) xs → Every FormingPacket (map (poll_packet me boot id polled) xs)
polls_others me boot id polled xs own h = mapped_all (λ (s : ℕ). me ≢ s) FormingPacket (poll_packet me boot id polled) xs (λ s ne. (own, ne)) h

pub round_polls : (me boot : ℕ) (r : Round) → RoundFact me boot (Some r) → Every FormingPacket (map (poll_packet me boot r.id r.polled) (unanswered r))
round_polls me boot r h = polls_others me boot r.id r.polled (unanswered r) h.0.0 (still_all (λ (s : ℕ). me ≢ s) (λ s. not (has_promised r s)) (polled_sites r.polled) (others_polled me r.polled h.1))

polls_forms : (me boot : ℕ) (k : Causes) (id : EpochId) (polled : Links) (v : SiteView) → IsOwnId me boot id → boot_in polled.boot me ≡ 0 → v.boot ≡ boot → ViewForms me v → Forms me boot k (polls me id polled v)
polls_forms me boot k id polled v own none here h = record {
  boot_is = here;
  view = record { round = ((own.0, own.1 ∙ sym here), none, tt); tables = h.tables; epoch = h.epoch };
  told = tt;
  sent = polls_others me v.boot id polled (polled_sites polled) own.0 (others_polled me polled none);
  written = tt;
}

pub begins_forms : (me boot : ℕ) (k : Causes) (links : Links) (number : ℕ) (polled : Links) (v : SiteView) → (IsIn v.epoch → k.leave) → ((id : EpochId) → IsOwnId me boot id → k.promise id) → boot_in polled.boot me ≡ 0 → v.boot ≡ boot → ViewForms me v → Forms me boot k (begins_round me links number polled v)
begins_forms me boot k links number polled v l g none here h =
    let id : EpochId = round_id me number v in
    then_forms me boot k (promises me id (reached links) v) (polls me id polled) (promises_forms me boot k id (reached links) v l (g id (refl, here)) here h)
    (λ b f. polls_forms me boot k id polled (promises me id (reached links) v).view (refl, here) none b f)

-- ---- boot numbers of sites ----

placed : (f : ℕ → ℕ) (n place : ℕ) (xs : List ℕ) → CountsFrom n xs → f (n + place) ≡ 0 → get_or (map f xs) place 0 ≡ 0
placed f n place [] h z = refl
placed f n zero (x ∷ xs) h z = ap f (h.0 ∙ plus_none n) ∙ z
  where
    plus_none : (n : ℕ) → n ≡ n + 0
    plus_none n = omega arith
placed f n (suc place) (x ∷ xs) h z = placed f (n + 1) place xs h.1 (ap f (next n place) ∙ z)
  where
    next : (n place : ℕ) → (n + 1) + place ≡ n + suc place
    next n place = omega arith

-- a site that is given no boot number has none
none_where : (f : ℕ → ℕ) (me : ℕ) → f me ≡ 0 → boot_in (boots_where f).boot me ≡ 0
none_where f zero z = refl
none_where f (suc place) z = placed f 1 place all_sites sites_count (ap f (next place) ∙ z)
  where
    next : (n : ℕ) → 1 + n ≡ suc n
    next n = omega arith

merge_none : (me : ℕ) (links : Links) → merge_boot me links me ≡ 0
merge_none me links = rw (equal_self me) refl

part_none : (me : ℕ) (links : Links) (members : Members) → part_boot me links members me ≡ 0
part_none me links members = rw (equal_self me) refl

cond_none : (b : Bool) (n : ℕ) → n ≡ 0 → cond b n 0 ≡ 0
cond_none true n h = h
cond_none false n h = refl

-- ---- lines of the site ----

pub starts_merge_forms : (me boot : ℕ) (k : Causes) (links : Links) (v : SiteView) → (IsIn v.epoch → k.leave) → ((id : EpochId) → IsOwnId me boot id → k.promise id) → v.boot ≡ boot → ViewForms me v → Forms me boot k (starts_merge me links v)
starts_merge_forms me boot k links v l g here h = begins_forms me boot k links (v.promised.number + 1) (boots_where (merge_boot me links)) v l g (none_where (merge_boot me links) me (merge_none me links)) here h

starts_part_of_forms : (me boot : ℕ) (k : Causes) (links : Links) (e : Option InEpoch) (v : SiteView) → (IsIn v.epoch → k.leave) → ((id : EpochId) → IsOwnId me boot id → k.promise id) → v.boot ≡ boot → ViewForms me v → Forms me boot k (starts_part_of me links e v)
starts_part_of_forms me boot k links None v l g here h = quiet_forms me boot k v here h
starts_part_of_forms me boot k links (Some e) v l g here h = begins_forms me boot k links (v.promised.number + 1) (boots_where (part_boot me links e.members)) v l g (none_where (part_boot me links e.members) me (part_none me links e.members)) here h

pub starts_part_forms : (me boot : ℕ) (k : Causes) (links : Links) (v : SiteView) → (IsIn v.epoch → k.leave) → ((id : EpochId) → IsOwnId me boot id → k.promise id) → v.boot ≡ boot → ViewForms me v → Forms me boot k (starts_part me links v)
starts_part_forms me boot k links v l g here h = starts_part_of_forms me boot k links v.epoch v l g here h

-- ---- Poll, Promise, Refuse ----

pub on_poll_forms : (me boot : ℕ) (k : Causes) (links : Links) (from from_boot : ℕ) (id : EpochId) (v : SiteView) → k.leave → k.promise id → v.boot ≡ boot → ViewForms me v → Forms me boot k (on_poll me links from from_boot id v)
on_poll_forms me boot k links from from_boot id v l g here h =
    elim (is_epoch_below v.promised id) as (λ t. Forms me boot k (elim t [ true ↦ and_then (promises me id (reached links) v) (λ now. sends (promise_packet me links from from_boot id now) now) | false ↦ sends (cond (same_epoch id v.promised && not v.installed) (promise_packet me links from from_boot id v) (refuse_packet me from from_boot id v)) v ])) [
      | true ↦ then_forms me boot k (promises me id (reached links) v) (λ now. sends (promise_packet me links from from_boot id now) now) (promises_forms me boot k id (reached links) v (λ i. l) g here h)
          (λ b f. sends_forms me boot k (promise_packet me links from from_boot id (promises me id (reached links) v).view) (promises me id (reached links) v).view b f (tt, tt))
      | false ↦ sends_forms me boot k _ v here h (every_cond FormingPacket (same_epoch id v.promised && not v.installed) (promise_packet me links from from_boot id v) (refuse_packet me from from_boot id v) (tt, tt) (tt, tt))
    ]

-- the round goes on under the same id, among the same sites
goes_on : (me boot : ℕ) (k : Causes) (q : Round) (v : SiteView) → RoundFact me v.boot (Some q) → v.boot ≡ boot → ViewForms me v → Forms me boot k (quiet (record v { round = Some q }))
goes_on me boot k q v own here h = record { boot_is = here; view = record { round = own; tables = h.tables; epoch = h.epoch }; told = tt; sent = tt; written = tt }

either_round : (me boot : ℕ) (b : Bool) (x y : Round) → RoundFact me boot (Some x) → RoundFact me boot (Some y) → RoundFact me boot (Some (cond b x y))
either_round me boot true x y h g = h
either_round me boot false x y h g = g

pub on_promise_forms : (me boot : ℕ) (k : Causes) (from from_boot : ℕ) (id : EpochId) (reach : Sites) (o : Option Round) (v : SiteView) → v.round ≡ o → v.boot ≡ boot → ViewForms me v → Forms me boot k (on_promise_of from from_boot id reach o v)
on_promise_forms me boot k from from_boot id reach None v e here h = quiet_forms me boot k v here h
on_promise_forms me boot k from from_boot id reach (Some r) v e here h =
    let own : RoundFact me v.boot (Some r) = subst (RoundFact me v.boot) e h.round in
    let more : RoundFact me v.boot (Some (with_promise from reach r)) = (own.0, own.1, row_rises (record { site = from; reach = reach }) 0 r.promises (omega arith) own.2) in
    goes_on me boot k (cond (counts_promise from from_boot id r) (with_promise from reach r) r) v (either_round me v.boot (counts_promise from from_boot id r) (with_promise from reach r) r more own) here h

pub on_refuse_forms : (me boot : ℕ) (k : Causes) (links : Links) (id theirs : EpochId) (o : Option Round) (v : SiteView) → (HasRound o → IsIn v.epoch → k.leave) → (HasRound o → (i : EpochId) → IsOwnId me boot i → k.promise i) → v.round ≡ o → v.boot ≡ boot → ViewForms me v → Forms me boot k (on_refuse_of me links id theirs o v)
on_refuse_forms me boot k links id theirs None v l g e here h = quiet_forms me boot k v here h
on_refuse_forms me boot k links id theirs (Some r) v l g e here h =
    elim (same_epoch r.id id) as (λ t. Forms me boot k (elim t [ true ↦ begins_round me links (theirs.number + 1) r.polled v | false ↦ quiet v ])) [
      | true ↦ begins_forms me boot k links (theirs.number + 1) r.polled v (l tt) (g tt) (subst (RoundFact me v.boot) e h.round).1 here h
      | false ↦ quiet_forms me boot k v here h
    ]

-- ---- joining ----

pub reports_inward : (f : Frame) (v : SiteView) → Every InwardPacket (all_reports f v)
reports_inward f v = every_flat_map InwardPacket (report_packets f v) v.reports (λ g. sync_plain f g (body.Report g (report_of g v.store.copies)) tt)

-- groups that there may be
groups_low : (c : Config) (me : ℕ) → Every (λ (g : ℕ). g < waiting_span) (own_groups c me)
groups_low c me = still_all (λ (g : ℕ). g < waiting_span) (λ g. has (pack_sites c g) me) all_groups (omega arith, (omega arith, (omega arith, (omega arith, tt))))

tables_low : (gs : List ℕ) → Every (λ (g : ℕ). g < waiting_span) gs → Every LooksInward (map new_table gs)
tables_low [] h = tt
tables_low (g ∷ gs) h = ((tt, h.0), tables_low gs h.1)

-- the tables of a new epoch
pub joined_tables : (c : Config) (me : ℕ) (m : Members) → Every LooksInward (map new_table (filter (is_sync_site c me m) (own_groups c me)))
joined_tables c me m = tables_low (filter (is_sync_site c me m) (own_groups c me)) (still_all (λ (g : ℕ). g < waiting_span) (is_sync_site c me m) (own_groups c me) (groups_low c me))

joins_forms : (me boot : ℕ) (k : Causes) (c : Config) (id : EpochId) (m : Members) (v : SiteView) → k.join m → IsShort m → v.boot ≡ boot → ViewForms me v → Forms me boot k (joins c me id m v)
joins_forms me boot k c id m v j short here h = record {
  boot_is = here;
  view = record { round = tt; tables = joined_tables c me m; epoch = short };
  told = ((refl, j), tt);
  sent = inward_polls (all_reports (frame_in c me v.boot (record { id = id; members = m })) (joined_view c me id m v)) (reports_inward (frame_in c me v.boot (record { id = id; members = m })) (joined_view c me id m v));
  written = tt;
}

pub on_install_forms : (me boot : ℕ) (k : Causes) (c : Config) (from from_boot : ℕ) (id : EpochId) (m : Members) (v : SiteView) → (boot_in m.boot me ≡ boot → k.join m) → IsShort m → v.boot ≡ boot → ViewForms me v → Forms me boot k (on_install c me from from_boot id m v)
on_install_forms me boot k c from from_boot id m v j short here h =
    (elim (may_install me id m v) as (λ t. may_install me id m v ≡ t → Forms me boot k (elim t [ true ↦ and_then (joins c me id m v) (λ now. sends (joined_packet me from from_boot id now) now) | false ↦ sends (cond (is_in id v.epoch) (joined_packet me from from_boot id v) []) v ])) [
      | true ↦ λ t. then_forms me boot k (joins c me id m v) (λ now. sends (joined_packet me from from_boot id now) now) (joins_forms me boot k c id m v (j (listed v.boot t ∙ here)) short here h) (λ b f. sends_forms me boot k (joined_packet me from from_boot id (joins c me id m v).view) (joins c me id m v).view b f (tt, tt))
      | false ↦ λ t. sends_forms me boot k _ v here h (every_cond FormingPacket (is_in id v.epoch) (joined_packet me from from_boot id v) [] (tt, tt) tt)
    ]) refl
  where
    listed : (boot : ℕ) → (same_epoch id v.promised && (not v.installed && (boot_in m.boot me == boot))) ≡ true → boot_in m.boot me ≡ boot
    listed boot t = grind (arith, nat_tests)

pub on_joined_forms : (me boot : ℕ) (k : Causes) (from : ℕ) (id : EpochId) (v : SiteView) → v.boot ≡ boot → ViewForms me v → Forms me boot k (on_joined from id v)
on_joined_forms me boot k from id v here h =
    elim (is_in id v.epoch) as (λ b. Forms me boot k (quiet (cond b (record v { installs = without_row (λ s. s) from v.installs }) v))) [
      | true ↦ record { boot_is = here; view = record { round = h.round; tables = h.tables; epoch = h.epoch }; told = tt; sent = tt; written = tt }
      | false ↦ quiet_forms me boot k v here h
    ]

-- ---- the decision ----

installs_forms : (me boot : ℕ) (k : Causes) (id : EpochId) (m : Members) (v : SiteView) → IsShort m → v.boot ≡ boot → ViewForms me v → Forms me boot k (installs_all me id m v)
installs_forms me boot k id m v short here h = record {
  boot_is = here;
  view = record { round = h.round; tables = h.tables; epoch = h.epoch };
  told = tt;
  sent = every_map FormingPacket (install_packet me v.boot id m) (others_of me m) (λ s. short);
  written = tt;
}

chosen_short : (me boot : ℕ) (q : Round) (set : Sites) → IsShort (chosen_members me boot q set)
chosen_short me boot q set t high = boot_nowhere (member_boot me boot q set) t high

decides_if_forms : (me boot : ℕ) (k : Causes) (c : Config) (links : Links) (q : Round) (xs : List ℕ) (v : SiteView) → k.join (chosen_members me v.boot q (chosen_set me links q)) → RoundFact me v.boot (Some q) → v.boot ≡ boot → ViewForms me v → Forms me boot k (decides_if c me links q xs v)
decides_if_forms me boot k c links q [] v j own here h =
    let m : Members = chosen_members me v.boot q (chosen_set me links q) in
    then_forms me boot k (joins c me q.id m v) (installs_all me q.id m) (joins_forms me boot k c q.id m v j (chosen_short me v.boot q (chosen_set me links q)) here h) (λ b f. installs_forms me boot k q.id m (joins c me q.id m v).view (chosen_short me v.boot q (chosen_set me links q)) b f)
decides_if_forms me boot k c links q (x ∷ xs) v j own here h = goes_on me boot k q v own here h

-- the sites of the promises that count were polled
polled_site : (polled : Links) (p : Promise) → is_polled polled p ≡ true → 1 ≤ p.site
polled_site polled p e = from_one p.site refl e
  where
    from_one : (s : ℕ) → s ≡ p.site → not (boot_in polled.boot s == 0) ≡ true → 1 ≤ s
    from_one zero same e = absurd (cc)
    from_one (suc s) same e = omega arith

pub passes_over_forms : (me boot : ℕ) (k : Causes) (c : Config) (links : Links) (o : Option Round) (v : SiteView) → ((m : Members) → ListsItself me boot links m → IsShort m → k.join m) → v.round ≡ o → v.boot ≡ boot → ViewForms me v → Forms me boot k (passes_over_of c me links o v)
passes_over_forms me boot k c links None v j e here h = quiet_forms me boot k v here h
passes_over_forms me boot k c links (Some r) v j e here h =
    let own : RoundFact me v.boot (Some r) = subst (RoundFact me v.boot) e h.round in
    let q : Round = passed_over links r in
    let rise : PromisesRise 0 q.promises × PromisesRise 1 q.promises = passed_rise (is_polled q.polled) 0 r.promises (polled_site q.polled) own.2 in
    decides_if_forms me boot k c links q (unanswered q) v
    (j (chosen_members me v.boot q (chosen_set me links q)) (subst (λ (b : ℕ). ListsItself me b links (chosen_members me v.boot q (chosen_set me links q))) here (decided me v.boot links q rise.1)) (chosen_short me v.boot q (chosen_set me links q)))
    (own.0, none_where (left_boot links r.polled) me (cond_none (boot_in links.boot me == boot_in r.polled.boot me) (boot_in r.polled.boot me) own.1), rise.0) here h
