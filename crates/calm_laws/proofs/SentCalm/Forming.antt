-- What a site does to form epochs: it promises greater ids alone, and joins one that it hadn't joined, with nothing reported and no instance.
use Rattle.std.proofs.Common.{◌≡◌, ℕ, ◌+◌, ◌≤◌, Bool, true, false, cond, ◌&&◌, not, List, [], ◌∷◌, map, filter, Option, Some, None, refl, sym, ◌∙◌, ap, subst, inl, arith}
use Rattle.std.proofs.lemmas.Bool.Decides.{nat_tests}
use Rattle.role_steps.proofs.of_plain_facts.Options.{none_some, some_same}
use Rattle.role_steps.proofs.of_plain_facts.Tests.{both_true, not_true, true_false}
use Rattle.locus_ids.specs.declared.config.Config.{Config}
use Rattle.locus_ids.specs.declared.ids.EpochId.{EpochId}
use Rattle.locus_ids.specs.declared.sites.Links.{Links}
use Rattle.locus_ids.specs.declared.sites.Members.{Members}
use Rattle.locus_ids.specs.declared.sites.Sites.{Sites}
use Rattle.trace_book.specs.Same.{same_epoch}
use Rattle.wire_messages.specs.declared.packet.Packet.{Packet}
use Rattle.role_steps.specs.Adoption.{table_group}
use Rattle.role_steps.specs.Epochs.{is_epoch_below, frame_in, leaves_of, leaves, promises, promised_view, reached, new_round, poll_packet, polled_sites, polls, round_id, begins_round, starts_merge, boots_where, merge_boot, part_boot, starts_part_of, promise_packet, refuse_packet, on_poll, counts_promise, with_promise, on_promise_of, on_refuse_of, own_groups, is_sync_site, joined_view, report_packets, all_reports, joins, may_install, is_in, joined_packet, on_install, on_joined, passed_over, unanswered, chosen_members, chosen_set, others_of, install_packet, installs_all, decides_if, passes_over_of, passes_over}
use Rattle.role_steps.specs.Own.{Every}
use Rattle.role_steps.specs.Reports.{new_table}
use Rattle.role_steps.specs.Tables.{without_row}
use Rattle.role_steps.specs.Views.{Frame, SiteView, Promises, Outcome, quiet, sends, tells, and_then}
use Rattle.role_steps.specs.declared.rounds.InEpoch.{InEpoch}
use Rattle.role_steps.specs.declared.rounds.Round.{Round}
use Rattle.role_steps.proofs.Sending.{every_cond, every_flat_map, every_map}
use Rattle.the_run.specs.Joins.{IsAtMost}
use Rattle.run_laws.proofs.Epochs.Boots.{at_most_trans, below_at_most_itself}
use Rattle.run_laws.proofs.Epochs.Handlers.{same_epoch_eq, leaves_of_epoch, leaves_of_promised}
use Rattle.store_laws.proofs.OneTree.Parts.{groups_rise}
use Rattle.store_laws.proofs.OneTree.Rising.{Rising}
use Rattle.calm_laws.proofs.SentCalm.Answerless.{Answerless, sync_answerless}
use Rattle.calm_laws.proofs.SentCalm.Closing.{Begun}
use Rattle.calm_laws.proofs.SentCalm.Tables.{LooksAnswerless}
use Rattle.calm_laws.proofs.SentCalm.Users.{AllHeld, held_leads}
use Rattle.calm_laws.proofs.SentCalm.Views.{Known, In, Spent, Orderly, Heard, Fine, quiet_fine, then_fine, part_fine, all_stand, goes_itself}

-- ---- ids ----

above : (a b : EpochId) → a.number + 1 ≤ b.number → is_epoch_below a b ≡ true
above a b h = grind (arith, nat_tests)

-- whatever is spent is below a greater id
spent_below : (v : SiteView) (id other : EpochId) → is_epoch_below v.promised id ≡ true → Spent v other → IsAtMost other id × (other ≡ id → ⊥)
spent_below v id other below s = (at_most_trans other v.promised id s.0 (below_at_most_itself v.promised id below), λ same. true_false (sym below ∙ (ap (is_epoch_below v.promised) (sym same) ∙ s.0)))

-- where nothing is joined no epoch is
outside : (v : SiteView) → Orderly v → v.installed ≡ false → v.epoch ≡ None
outside v h waits = over v.epoch refl
  where
    over : (o : Option InEpoch) → v.epoch ≡ o → o ≡ None
    over None e = refl
    over (Some x) e = absurd (true_false (sym (h.inside x e).1 ∙ waits))

-- ---- joined tables ----

groups_of : (gs : List ℕ) → map table_group (map new_table gs) ≡ gs
groups_of [] = refl
groups_of (g ∷ gs) = ap (λ (xs : List ℕ). g ∷ xs) (groups_of gs)

pub reports_answerless : (f : Frame) (v : SiteView) → Every Answerless (all_reports f v)
reports_answerless f v = every_flat_map Answerless (report_packets f v) v.reports (λ g. sync_answerless f g _ tt)

module _ (R S : Known) (B : Begun) (c : Config) (me : ℕ) where
  -- ---- leaving and promising ----

  leaves_fine : (e : Option InEpoch) (v : SiteView) → Orderly v → Heard R S c me v → Fine R S B c me v (leaves_of me e v)
  leaves_fine None v h k = quiet_fine R S B c me v h k
  leaves_fine (Some e) v h k = record {
    orderly = record { round = h.round; inside = λ x here. absurd (none_some x here); rising = tt; looks = tt };
    heard = record { reports = tt; instances = record { instances = tt; waiting = tt } };
    goes = record { spent = λ id s. s; stays = λ x here s. absurd (none_some x here) };
    sent = tt;
  }

  promised_fine : (id : EpochId) (reach : Sites) (v : SiteView) → is_epoch_below v.promised id ≡ true → v.epoch ≡ None → Orderly v → Heard R S c me v → Fine R S B c me v (tells (Promises me id reach ∷ []) (promised_view id v))
  promised_fine id reach v below gone h k = record {
    orderly = record { round = λ r here. absurd (none_some r here); inside = λ x here. absurd (none_some x (sym gone ∙ here)); rising = h.rising; looks = h.looks };
    heard = record { reports = k.reports; instances = k.instances };
    goes = record {
      spent = λ other s. (let b : IsAtMost other id × (other ≡ id → ⊥) = spent_below v id other below s in (b.0, λ same. absurd (b.1 same)));
      stays = λ x here s. absurd (none_some x (sym gone ∙ here));
    };
    sent = tt;
  }

  promises_fine : (id : EpochId) (reach : Sites) (v : SiteView) → is_epoch_below v.promised id ≡ true → Orderly v → Heard R S c me v → Fine R S B c me v (promises me id reach v)
  promises_fine id reach v below h k =
      then_fine R S B c me v (leaves me v) (λ now. tells (Promises me id reach ∷ []) (promised_view id now)) (leaves_fine v.epoch v h k)
      (λ g l. promised_fine id reach (leaves me v).view (subst (λ (i : EpochId). is_epoch_below i id ≡ true) (sym (leaves_of_promised me v.epoch v)) below) (leaves_of_epoch me v.epoch v refl) g l)

  -- ---- rounds ----

  polls_fine : (id : EpochId) (polled : Links) (v : SiteView) → id ≡ v.promised → v.installed ≡ false → Orderly v → Heard R S c me v → Fine R S B c me v (polls me id polled v)
  polls_fine id polled v last waits h k = record {
    orderly = record {
      round = λ r here. (subst (λ (x : Round). x.id ≡ v.promised) (some_same (new_round id polled) r here) last, waits);
      inside = h.inside;
      rising = h.rising;
      looks = h.looks;
    };
    heard = record { reports = k.reports; instances = k.instances };
    goes = record { spent = λ i s. s; stays = (goes_itself v).stays };
    sent = all_stand B c (polls me id polled v).view (map (poll_packet me v.boot id polled) (polled_sites polled)) (every_map Answerless (poll_packet me v.boot id polled) (polled_sites polled) (λ t. tt));
  }

  begins_fine : (links : Links) (number : ℕ) (polled : Links) (v : SiteView) → v.promised.number + 1 ≤ number → Orderly v → Heard R S c me v → Fine R S B c me v (begins_round me links number polled v)
  begins_fine links number polled v le h k =
      let id : EpochId = round_id me number v in
      let o : Outcome SiteView = promises me id (reached links) v in
      then_fine R S B c me v o (polls me id polled) (promises_fine id (reached links) v (above v.promised id le) h k) (λ g l. polls_fine id polled o.view refl refl g l)

  pub part_of_fine : (links : Links) (e : Option InEpoch) (v : SiteView) → Orderly v → Heard R S c me v → Fine R S B c me v (starts_part_of me links e v)
  part_of_fine links None v h k = quiet_fine R S B c me v h k
  part_of_fine links (Some e) v h k = begins_fine links (v.promised.number + 1) (boots_where (part_boot me links e.members)) v (omega arith) h k

  pub merge_fine : (links : Links) (v : SiteView) → Orderly v → Heard R S c me v → Fine R S B c me v (starts_merge me links v)
  merge_fine links v h k = begins_fine links (v.promised.number + 1) (boots_where (merge_boot me links)) v (omega arith) h k

  pub leaving_fine : (v : SiteView) → Orderly v → Heard R S c me v → Fine R S B c me v (leaves me v)
  leaving_fine v h k = leaves_fine v.epoch v h k

  -- ---- polls, promises and refusals ----

  sends_fine : (v : SiteView) (ps : List Packet) → Every Answerless ps → Orderly v → Heard R S c me v → Fine R S B c me v (sends ps v)
  sends_fine v ps s h k = record { orderly = h; heard = k; goes = goes_itself v; sent = all_stand B c v ps s }

  pub on_poll_fine : (links : Links) (from from_boot : ℕ) (id : EpochId) (v : SiteView) → Orderly v → Heard R S c me v → Fine R S B c me v (on_poll me links from from_boot id v)
  on_poll_fine links from from_boot id v h k =
      (elim (is_epoch_below v.promised id) as (λ t. is_epoch_below v.promised id ≡ t → Fine R S B c me v (elim t [ true ↦ and_then (promises me id (reached links) v) (λ now. sends (promise_packet me links from from_boot id now) now) | false ↦ sends (cond (same_epoch id v.promised && not v.installed) (promise_packet me links from from_boot id v) (refuse_packet me from from_boot id v)) v ])) [
        | true ↦ λ e. then_fine R S B c me v (promises me id (reached links) v) (λ now. sends (promise_packet me links from from_boot id now) now) (promises_fine id (reached links) v e h k) (λ g l. sends_fine (promises me id (reached links) v).view _ (tt, tt) g l)
        | false ↦ λ e. sends_fine v _ (every_cond Answerless (same_epoch id v.promised && not v.installed) (promise_packet me links from from_boot id v) (refuse_packet me from from_boot id v) (tt, tt) (tt, tt)) h k
      ]) refl

  -- the round goes on with the same id
  round_fine : (r q : Round) (v : SiteView) → v.round ≡ Some r → q.id ≡ r.id → Orderly v → Heard R S c me v → Fine R S B c me v (quiet (record v { round = Some q }))
  round_fine r q v here same h k = record {
    orderly = record {
      round = λ x e. (let l : (r.id ≡ v.promised) × (v.installed ≡ false) = h.round r here in (subst (λ (y : Round). y.id ≡ v.promised) (some_same q x e) (same ∙ l.0), l.1));
      inside = h.inside;
      rising = h.rising;
      looks = h.looks;
    };
    heard = record { reports = k.reports; instances = k.instances };
    goes = record { spent = λ id s. s; stays = (goes_itself v).stays };
    sent = tt;
  }

  counted : (b : Bool) (from : ℕ) (reach : Sites) (r : Round) → (cond b (with_promise from reach r) r).id ≡ r.id
  counted true from reach r = refl
  counted false from reach r = refl

  pub on_promise_fine : (from from_boot : ℕ) (id : EpochId) (reach : Sites) (o : Option Round) (v : SiteView) → v.round ≡ o → Orderly v → Heard R S c me v → Fine R S B c me v (on_promise_of from from_boot id reach o v)
  on_promise_fine from from_boot id reach None v here h k = quiet_fine R S B c me v h k
  on_promise_fine from from_boot id reach (Some r) v here h k = round_fine r (cond (counts_promise from from_boot id r) (with_promise from reach r) r) v here (counted (counts_promise from from_boot id r) from reach r) h k

  pub on_refuse_fine : (links : Links) (id theirs : EpochId) (o : Option Round) (v : SiteView) → v.round ≡ o → id.number ≤ theirs.number → Orderly v → Heard R S c me v → Fine R S B c me v (on_refuse_of me links id theirs o v)
  on_refuse_fine links id theirs None v here le h k = quiet_fine R S B c me v h k
  on_refuse_fine links id theirs (Some r) v here le h k =
      (elim (same_epoch r.id id) as (λ t. same_epoch r.id id ≡ t → Fine R S B c me v (elim t [ true ↦ begins_round me links (theirs.number + 1) r.polled v | false ↦ quiet v ])) [
        | true ↦ λ e. begins_fine links (theirs.number + 1) r.polled v (let q : v.promised.number ≡ id.number = ap (λ (i : EpochId). i.number) (sym (h.round r here).0 ∙ same_epoch_eq r.id id e) in omega (arith, q, le)) h k
        | false ↦ λ e. quiet_fine R S B c me v h k
      ]) refl

  -- ---- joining ----

  joins_fine : (id : EpochId) (m : Members) (v : SiteView) → id ≡ v.promised → v.installed ≡ false → Orderly v → Heard R S c me v → Fine R S B c me v (joins c me id m v)
  joins_fine id m v last waits h k = record {
    orderly = record {
      round = λ r here. absurd (none_some r here);
      inside = λ x here. (subst (λ (y : InEpoch). y.id ≡ v.promised) (some_same e x here) last, refl);
      rising = subst Rising (sym (groups_of (filter (is_sync_site c me m) (own_groups c me)))) (groups_rise (frame_in c me v.boot e));
      looks = every_map LooksAnswerless new_table (filter (is_sync_site c me m) (own_groups c me)) (λ g. tt);
    };
    heard = record { reports = λ g a. inl a; instances = held_leads (In S None) (In S (Some e)) v.users (λ n k. absurd k) (subst (λ (o : Option InEpoch). AllHeld (In S o) v.users) (outside v h waits) k.instances) };
    goes = record {
      spent = λ other s. (s.0, λ same. refl);
      stays = λ x here s. absurd (true_false (sym (s.1 (subst (λ (y : InEpoch). y.id ≡ v.promised) (some_same e x here) last)) ∙ waits));
    };
    sent = all_stand B c (joins c me id m v).view (all_reports (frame_in c me v.boot e) (joined_view c me id m v)) (reports_answerless (frame_in c me v.boot e) (joined_view c me id m v));
  }
    where
      e : InEpoch
      e = record { id = id; members = m }

  pub on_install_fine : (from from_boot : ℕ) (id : EpochId) (m : Members) (v : SiteView) → Orderly v → Heard R S c me v → Fine R S B c me v (on_install c me from from_boot id m v)
  on_install_fine from from_boot id m v h k =
      (elim (may_install me id m v) as (λ t. may_install me id m v ≡ t → Fine R S B c me v (elim t [ true ↦ and_then (joins c me id m v) (λ now. sends (joined_packet me from from_boot id now) now) | false ↦ sends (cond (is_in id v.epoch) (joined_packet me from from_boot id v) []) v ])) [
        | true ↦ λ e. joined e
        | false ↦ λ e. sends_fine v _ (every_cond Answerless (is_in id v.epoch) (joined_packet me from from_boot id v) [] (tt, tt) tt) h k
      ]) refl
    where
      joined : may_install me id m v ≡ true → Fine R S B c me v (and_then (joins c me id m v) (λ now. sends (joined_packet me from from_boot id now) now))
      joined e =
          let a : (same_epoch id v.promised ≡ true) × (_ ≡ true) = both_true (same_epoch id v.promised) _ e in
          let b : (not v.installed ≡ true) × (_ ≡ true) = both_true (not v.installed) _ a.1 in
          then_fine R S B c me v (joins c me id m v) (λ now. sends (joined_packet me from from_boot id now) now) (joins_fine id m v (same_epoch_eq id v.promised a.0) (not_true v.installed b.0) h k)
          (λ g l. sends_fine (joins c me id m v).view _ (tt, tt) g l)

  pub on_joined_fine : (from : ℕ) (id : EpochId) (v : SiteView) → Orderly v → Heard R S c me v → Fine R S B c me v (on_joined from id v)
  on_joined_fine from id v h k =
      elim (is_in id v.epoch) as (λ b. Fine R S B c me v (quiet (cond b (record v { installs = without_row (λ s. s) from v.installs }) v))) [
        | true ↦ part_fine R S B c me v (quiet (record v { installs = without_row (λ s. s) from v.installs })) h (record { reports = k.reports; instances = k.instances }) refl refl refl refl refl tt
        | false ↦ quiet_fine R S B c me v h k
      ]

  -- ---- the decision ----

  installs_fine : (id : EpochId) (m : Members) (v : SiteView) → Orderly v → Heard R S c me v → Fine R S B c me v (installs_all me id m v)
  installs_fine id m v h k = part_fine R S B c me v (installs_all me id m v) h (record { reports = k.reports; instances = k.instances }) refl refl refl refl refl (every_map Answerless (install_packet me v.boot id m) (others_of me m) (λ t. tt))

  decides_fine : (links : Links) (r q : Round) (xs : List ℕ) (v : SiteView) → v.round ≡ Some r → q.id ≡ r.id → Orderly v → Heard R S c me v → Fine R S B c me v (decides_if c me links q xs v)
  decides_fine links r q [] v here same h k =
      let l : (r.id ≡ v.promised) × (v.installed ≡ false) = h.round r here in
      let m : Members = chosen_members me v.boot q (chosen_set me links q) in
      then_fine R S B c me v (joins c me q.id m v) (installs_all me q.id m) (joins_fine q.id m v (same ∙ l.0) l.1 h k) (λ g n. installs_fine q.id m (joins c me q.id m v).view g n)
  decides_fine links r q (x ∷ xs) v here same h k = round_fine r q v here same h k

  passes_fine : (links : Links) (o : Option Round) (v : SiteView) → v.round ≡ o → Orderly v → Heard R S c me v → Fine R S B c me v (passes_over_of c me links o v)
  passes_fine links None v here h k = quiet_fine R S B c me v h k
  passes_fine links (Some r) v here h k = decides_fine links r (passed_over links r) (unanswered (passed_over links r)) v here refl h k

  pub passes_over_fine : (links : Links) (v : SiteView) → Orderly v → Heard R S c me v → Fine R S B c me v (passes_over c me links v)
  passes_over_fine links v h k = passes_fine links v.round v refl h k
