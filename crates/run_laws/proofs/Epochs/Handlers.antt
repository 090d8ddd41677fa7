-- Each handler of a site names known ids, and its rounds are its own.
use Rattle.std.proofs.Common.{◌≡◌, ℕ, ◌+◌, ◌≤◌, ◌==◌, Bool, true, false, cond, ◌&&◌, ◌||◌, not, List, [], ◌∷◌, map, Option, Some, None, refl, sym, ◌∙◌, ap, subst, inl, inr, arith}
use Rattle.std.proofs.lemmas.Bool.Decides.{nat_tests}
use Rattle.the_run.proofs.of_plain_facts.Numbers.{equal_self}
use Rattle.the_run.proofs.of_plain_facts.Options.{none_some, some_same}
use Rattle.the_run.proofs.of_plain_facts.Tests.{both_true}
use Rattle.locus_ids.specs.declared.ids.EpochId.{EpochId}
use Rattle.locus_ids.specs.declared.sites.Sites.{Sites}
use Rattle.locus_ids.specs.declared.sites.Members.{Members}
use Rattle.locus_ids.specs.declared.sites.Links.{Links}
use Rattle.locus_ids.specs.declared.config.Config.{Config}
use Rattle.trace_book.specs.Same.{same_epoch}
use Rattle.wire_messages.specs.declared.packet.Packet.{Packet}
use Rattle.wire_messages.specs.declared.body.Body.{Body}
use Rattle.wire_messages.specs.declared.body.Body.TheVariants as body
use Rattle.the_run.specs.of_role_steps.Own.{Every}
use Rattle.the_run.specs.of_role_steps.Tables.{without_row}
use Rattle.the_run.specs.of_role_steps.Views.{Frame, SiteView, Promises, Outcome, quiet, sends, tells, and_then, to_some, sync_site, boot_in}
use Rattle.the_run.specs.of_role_steps.Reports.{new_table}
use Rattle.the_run.specs.of_role_steps.Storage.{report_of}
use Rattle.the_run.specs.of_role_steps.Epochs.{is_epoch_below, frame_in, leaves_of, leaves, promises, promised_view, reached, new_round, poll_packet, polled_sites, polls, round_id, begins_round, starts_merge, boots_where, merge_boot, part_boot, starts_part_of, promise_packet, refuse_packet, on_poll, counts_promise, with_promise, on_promise_of, on_refuse_of, joined_view, report_packets, joins, may_install, is_in, joined_packet, on_install, on_joined, left_boot, passed_over, unanswered, chosen_members, chosen_set, others_of, install_packet, installs_all, decides, decides_if, passes_over_of, passes_over}
use Rattle.the_run.specs.of_role_steps.declared.rounds.InEpoch.{InEpoch}
use Rattle.the_run.specs.of_role_steps.declared.rounds.Round.{Round}
use Rattle.the_run.proofs.of_role_steps.Sending.{every_cond, every_map, every_flat_map}
use Rattle.the_run.specs.Steps.{takes_framed, takes, starts_mends_of, ends_event}
use Rattle.the_run.proofs.Joining.{same_at_most}
use Rattle.run_laws.proofs.InsideSteps.{framed_inner, mends_of_inner}
use Rattle.run_laws.specs.Epochs.Forming.{TableFormless}
use Rattle.run_laws.specs.Epochs.Known.{IsOwnRound, FormFact}
use Rattle.run_laws.proofs.Epochs.Boots.{below_at_most_itself, boots_bounded, boots_without, cond_at_most}
use Rattle.run_laws.proofs.Epochs.Forms.{framed_formless, mends_of_formless}
use Rattle.run_laws.proofs.Epochs.Parts.{Ids, Now, SentFact, Site, Fine, then_fine, sends_fine, quiet_fine, inner_fine}

-- ---- tests ----

pub same_epoch_eq : (a b : EpochId) → same_epoch a b ≡ true → a ≡ b
same_epoch_eq a b h = id_eq (grind (arith, nat_tests)) (grind (arith, nat_tests)) (grind (arith, nat_tests))
  where
    id_eq : a.number ≡ b.number → a.site ≡ b.site → a.boot ≡ b.boot → a ≡ b
    id_eq e f g = λ i. record { number = e i; site = f i; boot = g i }

not_below_number : (a b : EpochId) → is_epoch_below a b ≡ false → b.number ≤ a.number
not_below_number a b h = grind (arith, nat_tests)

above : (a b : EpochId) → a.number + 1 ≤ b.number → is_epoch_below a b ≡ true
above a b h = grind (arith, nat_tests)

-- ---- leaving and promising ----

pub leaves_of_fine : (K : Ids) (boots : ℕ → ℕ) (me boot : ℕ) (e : Option InEpoch) (v : SiteView) → Site K boots me boot v → Fine K boots me boot v.promised (leaves_of me e v)
leaves_of_fine K boots me boot None v h = quiet_fine K boots me boot v h
leaves_of_fine K boots me boot (Some e) v h = record {
  view = record { boot_is = h.boot_is; known = h.known; round = λ r k. (let o : IsOwnRound boots me v r = h.round r k in record { promised = o.promised; site = o.site; boot = o.boot; joins_later = o.joins_later; others = o.others; had = o.had }); inside = λ x k. absurd (none_some x k); tables = tt };
  rises = same_at_most v.promised;
  sent = tt;
}

pub leaves_of_promised : (me : ℕ) (e : Option InEpoch) (v : SiteView) → (leaves_of me e v).view.promised ≡ v.promised
leaves_of_promised me None v = refl
leaves_of_promised me (Some e) v = refl

pub leaves_of_epoch : (me : ℕ) (e : Option InEpoch) (v : SiteView) → v.epoch ≡ e → (leaves_of me e v).view.epoch ≡ None
leaves_of_epoch me None v h = h
leaves_of_epoch me (Some e) v h = refl

promised_fine : (K : Ids) (boots : ℕ → ℕ) (me boot : ℕ) (id : EpochId) (reach : Sites) (v : SiteView) → Site K boots me boot v → Now K me boot id id → is_epoch_below v.promised id ≡ true → v.epoch ≡ None → Fine K boots me boot v.promised (tells (Promises me id reach ∷ []) (promised_view id v))
promised_fine K boots me boot id reach v h known below gone = record {
  view = record { boot_is = h.boot_is; known = known; round = λ r e. absurd (none_some r e); inside = λ e here. absurd (none_some e (sym gone ∙ here)); tables = h.tables };
  rises = below_at_most_itself v.promised id below;
  sent = tt;
}

-- the site leaves its epoch, and promises a greater id
pub promises_fine : (K : Ids) (boots : ℕ → ℕ) (me boot : ℕ) (id : EpochId) (reach : Sites) (v : SiteView) → Site K boots me boot v → Now K me boot id id → is_epoch_below v.promised id ≡ true → Fine K boots me boot v.promised (promises me id reach v)
promises_fine K boots me boot id reach v h known below =
    then_fine K boots me boot v.promised (leaves me v) (λ now. tells (Promises me id reach ∷ []) (promised_view id now)) (leaves_of_fine K boots me boot v.epoch v h)
    (λ g. promised_fine K boots me boot id reach (leaves me v).view g known (subst (λ (i : EpochId). is_epoch_below i id ≡ true) (sym (leaves_of_promised me v.epoch v)) below) (leaves_of_epoch me v.epoch v refl))

-- ---- rounds ----

polls_fine : (K : Ids) (boots : ℕ → ℕ) (me boot : ℕ) (id : EpochId) (polled : Links) (v : SiteView) → Site K boots me boot v → id ≡ v.promised → id.site ≡ me → id.boot ≡ v.boot → v.installed ≡ false → boot_in polled.boot me ≡ 0 → ((t : ℕ) → boot_in polled.boot t ≤ boots t) →
    Fine K boots me boot v.promised (polls me id polled v)
polls_fine K boots me boot id polled v h is_last site number waits others had =
    sends_fine K boots me boot (map (poll_packet me v.boot id polled) (polled_sites polled)) (record v { round = Some (new_round id polled) })
    (record {
      boot_is = h.boot_is;
      known = h.known;
      round = λ r e. subst (λ (x : Round). IsOwnRound boots me (record v { round = Some (new_round id polled) }) x) (some_same (new_round id polled) r e) (record { promised = is_last; site = site; boot = number; joins_later = waits; others = others; had = had });
      inside = h.inside;
      tables = h.tables;
    })
    (every_map (SentFact K boots me boot v.promised) (poll_packet me v.boot id polled) (polled_sites polled)
    (λ t. (subst (λ (i : EpochId). Now K me boot v.promised i) (sym is_last) h.known, record { site = site; boot = number; had = had t })))

pub begins_fine : (K : Ids) (boots : ℕ → ℕ) (me boot : ℕ) (links : Links) (number : ℕ) (polled : Links) (v : SiteView) → Site K boots me boot v → v.promised.number + 1 ≤ number → boot_in polled.boot me ≡ 0 → ((t : ℕ) → boot_in polled.boot t ≤ boots t) → Fine K boots me boot v.promised (begins_round me links number polled v)
begins_fine K boots me boot links number polled v h le others had =
    let id : EpochId = round_id me number v in
    let o : Outcome SiteView = promises me id (reached links) v in
    then_fine K boots me boot v.promised o (polls me id polled) (promises_fine K boots me boot id (reached links) v h (inr (refl, h.boot_is, same_at_most id)) (above v.promised id le))
    (λ g. polls_fine K boots me boot id polled o.view g refl refl (h.boot_is ∙ sym g.boot_is) refl others had)

merge_others : (me : ℕ) (links : Links) → boot_in (boots_where (merge_boot me links)).boot me ≡ 0
merge_others me links = boots_without (merge_boot me links) me (subst (λ (b : Bool). cond b 0 (boot_in links.boot me) ≡ 0) (sym (equal_self me)) refl)

part_others : (me : ℕ) (links : Links) (m : Members) → boot_in (boots_where (part_boot me links m)).boot me ≡ 0
part_others me links m = boots_without (part_boot me links m) me (subst (λ (b : Bool). cond (b || not (boot_in links.boot me == boot_in m.boot me)) 0 (boot_in m.boot me) ≡ 0) (sym (equal_self me)) refl)

part_had : (boots : ℕ → ℕ) (me : ℕ) (links : Links) (m : Members) → ((t : ℕ) → boot_in links.boot t ≤ boots t) → (t : ℕ) → part_boot me links m t ≤ boots t
part_had boots me links m h t = by_test (t == me) (boot_in links.boot t == boot_in m.boot t) refl
  where
    by_test : (a b : Bool) → (boot_in links.boot t == boot_in m.boot t) ≡ b → cond (a || not b) 0 (boot_in m.boot t) ≤ boots t
    by_test true b e = omega arith
    by_test false true e = (let k : boot_in links.boot t ≤ boots t = h t in let q : boot_in links.boot t ≡ boot_in m.boot t = equal (boot_in links.boot t) (boot_in m.boot t) e in omega (arith, k, q))
      where
        equal : (x y : ℕ) → (x == y) ≡ true → x ≡ y
        equal x y f = grind (arith, nat_tests)
    by_test false false e = omega arith

pub starts_part_fine : (K : Ids) (boots : ℕ → ℕ) (me boot : ℕ) (links : Links) (e : Option InEpoch) (v : SiteView) → ((t : ℕ) → boot_in links.boot t ≤ boots t) → Site K boots me boot v → Fine K boots me boot v.promised (starts_part_of me links e v)
starts_part_fine K boots me boot links None v had h = quiet_fine K boots me boot v h
starts_part_fine K boots me boot links (Some e) v had h =
    begins_fine K boots me boot links (v.promised.number + 1) (boots_where (part_boot me links e.members)) v h (omega arith) (part_others me links e.members) (boots_bounded (part_boot me links e.members) boots (part_had boots me links e.members had))

pub starts_merge_fine : (K : Ids) (boots : ℕ → ℕ) (me boot : ℕ) (links : Links) (v : SiteView) → ((t : ℕ) → boot_in links.boot t ≤ boots t) → Site K boots me boot v → Fine K boots me boot v.promised (starts_merge me links v)
starts_merge_fine K boots me boot links v had h =
    begins_fine K boots me boot links (v.promised.number + 1) (boots_where (merge_boot me links)) v h (omega arith) (merge_others me links) (boots_bounded (merge_boot me links) boots (λ t. cond_at_most (t == me) 0 (boot_in links.boot t) (boots t) (omega arith) (had t)))

-- ---- Poll, Promise, Refuse ----

on_poll_fine : (K : Ids) (boots : ℕ → ℕ) (me boot : ℕ) (links : Links) (from from_boot : ℕ) (id : EpochId) (v : SiteView) → Site K boots me boot v → K id → Fine K boots me boot v.promised (on_poll me links from from_boot id v)
on_poll_fine K boots me boot links from from_boot id v h known =
    (elim (is_epoch_below v.promised id) as (λ t. is_epoch_below v.promised id ≡ t → Fine K boots me boot v.promised (elim t [ true ↦ and_then (promises me id (reached links) v) (λ now. sends (promise_packet me links from from_boot id now) now) | false ↦ sends (cond (same_epoch id v.promised && not v.installed) (promise_packet me links from from_boot id v) (refuse_packet me from from_boot id v)) v ])) [
      | true ↦ λ e. then_fine K boots me boot v.promised (promises me id (reached links) v) (λ now. sends (promise_packet me links from from_boot id now) now)
          (promises_fine K boots me boot id (reached links) v h (inl known) e)
          (λ g. sends_fine K boots me boot (promise_packet me links from from_boot id (promises me id (reached links) v).view) (promises me id (reached links) v).view g ((inl known, tt), tt))
      | false ↦ λ e. sends_fine K boots me boot (cond (same_epoch id v.promised && not v.installed) (promise_packet me links from from_boot id v) (refuse_packet me from from_boot id v)) v h
          (every_cond (SentFact K boots me boot v.promised) (same_epoch id v.promised && not v.installed) (promise_packet me links from from_boot id v) (refuse_packet me from from_boot id v) ((inl known, tt), tt) ((inl known, not_below_number v.promised id e), tt))
    ]) refl

-- the round goes on under the same id, with no more sites
goes_on_round : (K : Ids) (boots : ℕ → ℕ) (me boot : ℕ) (r q : Round) (v : SiteView) → Site K boots me boot v → v.round ≡ Some r → q.id ≡ r.id → boot_in q.polled.boot me ≡ 0 → ((t : ℕ) → boot_in q.polled.boot t ≤ boots t) → Fine K boots me boot v.promised (quiet (record v { round = Some q }))
goes_on_round K boots me boot r q v h here same others had =
    let o : IsOwnRound boots me v r = h.round r here in
    sends_fine K boots me boot [] (record v { round = Some q }) (record {
      boot_is = h.boot_is;
      known = h.known;
      round = λ x e. subst (λ (y : Round). IsOwnRound boots me (record v { round = Some q }) y) (some_same q x e) (record { promised = same ∙ o.promised; site = ap (λ (i : EpochId). i.site) same ∙ o.site; boot = ap (λ (i : EpochId). i.boot) same ∙ o.boot; joins_later = o.joins_later; others = others; had = had });
      inside = h.inside;
      tables = h.tables;
    }) tt

on_promise_fine : (K : Ids) (boots : ℕ → ℕ) (me boot : ℕ) (from from_boot : ℕ) (id : EpochId) (reach : Sites) (o : Option Round) (v : SiteView) → Site K boots me boot v → v.round ≡ o → Fine K boots me boot v.promised (on_promise_of from from_boot id reach o v)
on_promise_fine K boots me boot from from_boot id reach None v h e = quiet_fine K boots me boot v h
on_promise_fine K boots me boot from from_boot id reach (Some r) v h e = by_test (counts_promise from from_boot id r)
  where
    k : IsOwnRound boots me v r
    k = h.round r e

    by_test : (b : Bool) → Fine K boots me boot v.promised (quiet (record v { round = Some (cond b (with_promise from reach r) r) }))
    by_test true = goes_on_round K boots me boot r (with_promise from reach r) v h e refl k.others k.had
    by_test false = goes_on_round K boots me boot r r v h e refl k.others k.had

on_refuse_fine : (K : Ids) (boots : ℕ → ℕ) (me boot : ℕ) (links : Links) (id theirs : EpochId) (o : Option Round) (v : SiteView) → Site K boots me boot v → v.round ≡ o → id.number ≤ theirs.number → Fine K boots me boot v.promised (on_refuse_of me links id theirs o v)
on_refuse_fine K boots me boot links id theirs None v h here le = quiet_fine K boots me boot v h
on_refuse_fine K boots me boot links id theirs (Some r) v h here le =
    (elim (same_epoch r.id id) as (λ t. same_epoch r.id id ≡ t → Fine K boots me boot v.promised (elim t [ true ↦ begins_round me links (theirs.number + 1) r.polled v | false ↦ quiet v ])) [
      | true ↦ λ e. begins_fine K boots me boot links (theirs.number + 1) r.polled v h (let k : v.promised.number ≡ id.number = ap (λ (i : EpochId). i.number) (sym (h.round r here).promised ∙ same_epoch_eq r.id id e) in omega (arith, k, le)) (h.round r here).others (h.round r here).had
      | false ↦ λ e. quiet_fine K boots me boot v h
    ]) refl

-- ---- joining ----

some_report : (K : Ids) (boots : ℕ → ℕ) (me boot : ℕ) (top : EpochId) (f : Frame) (group : ℕ) (v : SiteView) (o : Option ℕ) → Now K me boot top f.epoch → Every (SentFact K boots me boot top) (to_some f (body.Report group (report_of group v.store.copies)) o)
some_report K boots me boot top f group v None h = tt
some_report K boots me boot top f group v (Some to) h = ((h, tt), tt)

joins_fine : (K : Ids) (boots : ℕ → ℕ) (me boot : ℕ) (c : Config) (id : EpochId) (m : Members) (v : SiteView) → Site K boots me boot v → id ≡ v.promised → Fine K boots me boot v.promised (joins c me id m v)
joins_fine K boots me boot c id m v h is_last =
    let e : InEpoch = record { id = id; members = m } in
    record {
      view = record {
        boot_is = h.boot_is;
        known = h.known;
        round = λ r f. absurd (none_some r f);
        inside = λ x f. subst (λ (y : InEpoch). (y.id ≡ v.promised) × (true ≡ true)) (some_same e x f) (is_last, refl);
        tables = every_map TableFormless new_table _ (λ g. tt);
      };
      rises = same_at_most v.promised;
      sent = every_flat_map (SentFact K boots me boot v.promised) (report_packets (frame_in c me v.boot e) (joined_view c me id m v)) (joined_view c me id m v).reports
          (λ g. some_report K boots me boot v.promised (frame_in c me v.boot e) g (joined_view c me id m v) (sync_site c m g) (subst (λ (i : EpochId). Now K me boot v.promised i) (sym is_last) h.known));
    }

on_install_fine : (K : Ids) (boots : ℕ → ℕ) (me boot : ℕ) (c : Config) (from from_boot : ℕ) (id : EpochId) (m : Members) (v : SiteView) → Site K boots me boot v → K id → Fine K boots me boot v.promised (on_install c me from from_boot id m v)
on_install_fine K boots me boot c from from_boot id m v h known =
    (elim (may_install me id m v) as (λ t. may_install me id m v ≡ t → Fine K boots me boot v.promised (elim t [ true ↦ and_then (joins c me id m v) (λ now. sends (joined_packet me from from_boot id now) now) | false ↦ sends (cond (is_in id v.epoch) (joined_packet me from from_boot id v) []) v ])) [
      | true ↦ λ e. then_fine K boots me boot v.promised (joins c me id m v) (λ now. sends (joined_packet me from from_boot id now) now)
          (joins_fine K boots me boot c id m v h (same_epoch_eq id v.promised (both_true (same_epoch id v.promised) _ e).0))
          (λ g. sends_fine K boots me boot (joined_packet me from from_boot id (joins c me id m v).view) (joins c me id m v).view g ((inl known, tt), tt))
      | false ↦ λ e. sends_fine K boots me boot (cond (is_in id v.epoch) (joined_packet me from from_boot id v) []) v h (every_cond (SentFact K boots me boot v.promised) (is_in id v.epoch) (joined_packet me from from_boot id v) [] ((inl known, tt), tt) tt)
    ]) refl

site_alike : (K : Ids) (boots : ℕ → ℕ) (me boot : ℕ) (v : SiteView) (xs : List ℕ) → Site K boots me boot v → Site K boots me boot (record v { installs = xs })
site_alike K boots me boot v xs h = record { boot_is = h.boot_is; known = h.known; round = λ r k. (let o : IsOwnRound boots me v r = h.round r k in record { promised = o.promised; site = o.site; boot = o.boot; joins_later = o.joins_later; others = o.others; had = o.had }); inside = h.inside; tables = h.tables }

on_joined_fine : (K : Ids) (boots : ℕ → ℕ) (me boot : ℕ) (from : ℕ) (id : EpochId) (v : SiteView) → Site K boots me boot v → Fine K boots me boot v.promised (on_joined from id v)
on_joined_fine K boots me boot from id v h =
    elim (is_in id v.epoch) as (λ b. Fine K boots me boot v.promised (quiet (cond b (record v { installs = without_row (λ s. s) from v.installs }) v))) [
      | true ↦ sends_fine K boots me boot [] (record v { installs = without_row (λ s. s) from v.installs }) (site_alike K boots me boot v (without_row (λ s. s) from v.installs) h) tt
      | false ↦ quiet_fine K boots me boot v h
    ]

-- ---- the decision ----

installs_fine : (K : Ids) (boots : ℕ → ℕ) (me boot : ℕ) (id : EpochId) (m : Members) (v : SiteView) → Site K boots me boot v → Now K me boot v.promised id → Fine K boots me boot v.promised (installs_all me id m v)
installs_fine K boots me boot id m v h known =
    sends_fine K boots me boot (map (install_packet me v.boot id m) (others_of me m)) (record v { installs = others_of me m }) (site_alike K boots me boot v (others_of me m) h)
    (every_map (SentFact K boots me boot v.promised) (install_packet me v.boot id m) (others_of me m) (λ t. (known, tt)))

decides_fine : (K : Ids) (boots : ℕ → ℕ) (me boot : ℕ) (c : Config) (id : EpochId) (m : Members) (v : SiteView) → Site K boots me boot v → id ≡ v.promised → Fine K boots me boot v.promised (decides c me id m v)
decides_fine K boots me boot c id m v h is_last =
    then_fine K boots me boot v.promised (joins c me id m v) (installs_all me id m) (joins_fine K boots me boot c id m v h is_last)
    (λ g. installs_fine K boots me boot id m (joins c me id m v).view g (subst (λ (i : EpochId). Now K me boot v.promised i) (sym is_last) h.known))

passed_fine : (K : Ids) (boots : ℕ → ℕ) (me boot : ℕ) (c : Config) (links : Links) (r q : Round) (xs : List ℕ) (v : SiteView) → Site K boots me boot v → v.round ≡ Some r → q.id ≡ r.id → boot_in q.polled.boot me ≡ 0 → ((t : ℕ) → boot_in q.polled.boot t ≤ boots t) → Fine K boots me boot v.promised (decides_if c me links q xs v)
passed_fine K boots me boot c links r q [] v h here same others had = decides_fine K boots me boot c q.id (chosen_members me v.boot q (chosen_set me links q)) v h (same ∙ (h.round r here).promised)
passed_fine K boots me boot c links r q (x ∷ xs) v h here same others had = goes_on_round K boots me boot r q v h here same others had

left_none : (b : Bool) (x : ℕ) → x ≡ 0 → cond b x 0 ≡ 0
left_none true x h = h
left_none false x h = refl

passes_over_fine : (K : Ids) (boots : ℕ → ℕ) (me boot : ℕ) (c : Config) (links : Links) (o : Option Round) (v : SiteView) → Site K boots me boot v → v.round ≡ o → Fine K boots me boot v.promised (passes_over_of c me links o v)
passes_over_fine K boots me boot c links None v h here = quiet_fine K boots me boot v h
passes_over_fine K boots me boot c links (Some r) v h here =
    let k : IsOwnRound boots me v r = h.round r here in
    passed_fine K boots me boot c links r (passed_over links r) (unanswered (passed_over links r)) v h here refl
    (boots_without (left_boot links r.polled) me (left_none (boot_in links.boot me == boot_in r.polled.boot me) (boot_in r.polled.boot me) k.others))
    (boots_bounded (left_boot links r.polled) boots (λ t. cond_at_most (boot_in links.boot t == boot_in r.polled.boot t) (boot_in r.polled.boot t) 0 (boots t) (k.had t) (omega arith)))

-- ---- the end of an event ----

pub ends_fine : (K : Ids) (boots : ℕ → ℕ) (me boot : ℕ) (c : Config) (links : Links) (v : SiteView) → Site K boots me boot v → Fine K boots me boot v.promised (ends_event c me links v)
ends_fine K boots me boot c links v h =
    let o : Outcome SiteView = passes_over c me links v in
    then_fine K boots me boot v.promised o (λ now. starts_mends_of c me now.epoch now) (passes_over_fine K boots me boot c links v.round v h refl)
    (λ g. inner_fine K boots me boot o.view (starts_mends_of c me o.view.epoch o.view) (mends_of_formless c me o.view.epoch o.view g.tables) (mends_of_inner c me o.view.epoch o.view refl) g)

-- ---- a packet ----

pub takes_fine : (K : Ids) (boots : ℕ → ℕ) (me boot : ℕ) (c : Config) (links : Links) (p : Packet) (x : Body) (v : SiteView) → Site K boots me boot v → K p.epoch → FormFact boots p x → Fine K boots me boot v.promised (takes c me links p x v)
takes_fine K boots me boot c links p body.Poll v h k f = on_poll_fine K boots me boot links p.from p.from_boot p.epoch v h k
takes_fine K boots me boot c links p (body.Promise reach) v h k f = on_promise_fine K boots me boot p.from p.from_boot p.epoch reach v.round v h refl
takes_fine K boots me boot c links p (body.Refuse promised) v h k f = on_refuse_fine K boots me boot links p.epoch promised v.round v h refl f
takes_fine K boots me boot c links p (body.Install members) v h k f = on_install_fine K boots me boot c p.from p.from_boot p.epoch members v h k
takes_fine K boots me boot c links p body.Joined v h k f = on_joined_fine K boots me boot p.from p.epoch v h
takes_fine K boots me boot c links p _ v h k f = inner_fine K boots me boot v (takes_framed c me p v.epoch v) (framed_formless c me p v.epoch v h.tables) (framed_inner c me p v.epoch v refl) h
