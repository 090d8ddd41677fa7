-- Each handler of a site joins lawfully, and promises no lower id.
use Rattle.std.proofs.Common.{◌≡◌, ℕ, ◌+◌, ◌≤◌, nat_lt, Bool, true, false, cond, ◌&&◌, not, List, [], ◌∷◌, ◌++◌, map, Option, Some, None, refl, sym, ◌∙◌, ap, subst, inl, inr, arith}
use Rattle.std.proofs.lemmas.Bool.Decides.{nat_tests}
use Rattle.role_steps.proofs.of_plain_facts.Options.{none_some, some_same}
use Rattle.role_steps.proofs.of_plain_facts.Tests.{both_true}
use Rattle.locus_ids.specs.declared.ids.EpochId.{EpochId}
use Rattle.locus_ids.specs.declared.sites.Sites.{Sites}
use Rattle.locus_ids.specs.declared.sites.Members.{Members}
use Rattle.locus_ids.specs.declared.sites.Links.{Links}
use Rattle.locus_ids.specs.declared.config.Config.{Config}
use Rattle.role_steps.specs.of_trace_book.Same.{same_epoch}
use Rattle.role_steps.specs.of_wire_messages.declared.packet.Packet.{Packet}
use Rattle.role_steps.specs.of_wire_messages.declared.body.Body.{Body}
use Rattle.role_steps.specs.of_wire_messages.declared.body.Body.TheVariants as body
use Rattle.role_steps.specs.Own.{Every}
use Rattle.role_steps.specs.Tables.{without_row}
use Rattle.role_steps.specs.Views.{Frame, SiteView, Told, Promises, Outcome, Event, Calls, Receives, Ticks, Parts, Merges, GivesUp, quiet, sends, tells, and_then, joined_to}
use Rattle.role_steps.specs.Using.{reply_record}
use Rattle.role_steps.specs.Reports.{new_table}
use Rattle.role_steps.specs.Epochs.{is_epoch_below, frame_in, leaves_of, leaves, promises, promised_view, reached, new_round, poll_packet, polled_sites, polls, round_id, begins_round, starts_merge, boots_where, merge_boot, part_boot, starts_part_of, starts_part, promise_packet, refuse_packet, on_poll, counts_promise, with_promise, on_promise_of, on_refuse_of, joined_view, all_reports, joins, may_install, is_in, joined_packet, on_install, on_joined, passed_over, unanswered, chosen_members, chosen_set, others_of, install_packet, installs_all, decides, decides_if, passes_over_of, passes_over, poll_repeats, install_repeats}
use Rattle.role_steps.specs.declared.rounds.InEpoch.{InEpoch}
use Rattle.role_steps.specs.declared.rounds.Round.{Round}
use Rattle.role_steps.specs.declared.users.WaitingCall.{WaitingCall}
use Rattle.role_steps.proofs.Sending.{every_append, every_cond, every_map}
use Rattle.the_run.specs.Steps.{in_order, is_dropped, takes_framed, takes, tries_at, adopts_in, starts_mends_of, ends_event, whole, repeats_inside, repeats_of, repeats, ticks_after, call_frame, epoch_id, takes_call, step}
use Rattle.the_run.specs.Joins.{Knowledge, Now, MayJoin, BodyFact, PacketFact, Unclaimed, NoJoin, TableOk, Plain, IsAtMost, RoundOk, At, Fine}
use Rattle.the_run.proofs.Rows.{order_sent}
use Rattle.the_run.proofs.SiteWalks.{all_reports_walk, repeats_inside_walk}
use Rattle.the_run.proofs.InsideSync.{joins_nothing, plain_keeps}
use Rattle.the_run.proofs.InsideRoles.{on_call_still}
use Rattle.the_run.proofs.InsideSites.{adopts_of_plain, tries_plain, mends_of_plain, framed_plain}
use Rattle.the_run.proofs.Joining.{higher_at_most, below_at_most, packets_weaker, at_same, now_old, old_now, lawful_none, unclaimed_facts, joined_fine, then_fine, sends_fine, quiet_fine, plain_quiet, plain_at, plain_fine, after_plain}

-- ---- tests ----

same_epoch_eq : (a b : EpochId) → same_epoch a b ≡ true → a ≡ b
same_epoch_eq a b h = id_eq (grind (arith, nat_tests)) (grind (arith, nat_tests)) (grind (arith, nat_tests))
  where
    id_eq : a.number ≡ b.number → a.site ≡ b.site → a.boot ≡ b.boot → a ≡ b
    id_eq e f g = λ i. record { number = e i; site = f i; boot = g i }

below_number : (a b : EpochId) → is_epoch_below a b ≡ true → a.number ≤ b.number
below_number a b h = grind (arith, nat_tests)

not_below_number : (a b : EpochId) → is_epoch_below a b ≡ false → b.number ≤ a.number
not_below_number a b h = grind (arith, nat_tests)

above : (n k : ℕ) → n + 1 ≤ k → nat_lt n k ≡ true
above n k h = grind (arith, nat_tests)

-- ---- leaving and promising ----

leaves_of_none : (me : ℕ) (e : Option InEpoch) (v : SiteView) → Every NoJoin (leaves_of me e v).told
leaves_of_none me None v = tt
leaves_of_none me (Some e) v = (tt, every_map NoJoin (λ (w : WaitingCall). reply_record me v.boot w _) v.users.waiting (λ w. tt))

leaves_of_fine : (J : Knowledge) (s boot : ℕ) (low : EpochId) (e : Option InEpoch) (v : SiteView) → At J s boot low v → Fine J s boot low (leaves_of s e v)
leaves_of_fine J s boot low None v h = quiet_fine J s boot low v h
leaves_of_fine J s boot low (Some e) v h =
    let told : List Told = (leaves_of s (Some e) v).told in
    let none : Every NoJoin told = leaves_of_none s (Some e) v in
    let left : At J s boot low (leaves_of s (Some e) v).view = record {
      boot_is = h.boot_is;
      rises = h.rises;
      view = record { round_ok = h.view.round_ok; risen = h.view.risen; epoch_ok = λ x k. absurd (none_some x k); epoch_is = λ x k. absurd (none_some x k); tables_ok = tt };
    } in
    record { now = at_same J (Now J told) s boot low (leaves_of s (Some e) v).view (old_now J told) (now_old J told none) left; law = lawful_none J s boot told none; sent = tt; written = tt }

leaves_of_promised : (me : ℕ) (e : Option InEpoch) (v : SiteView) → (leaves_of me e v).view.promised ≡ v.promised
leaves_of_promised me None v = refl
leaves_of_promised me (Some e) v = refl

leaves_of_epoch : (me : ℕ) (e : Option InEpoch) (v : SiteView) → v.epoch ≡ e → (leaves_of me e v).view.epoch ≡ None
leaves_of_epoch me None v h = h
leaves_of_epoch me (Some e) v h = refl

promises_none : (me : ℕ) (id : EpochId) (reach : Sites) (v : SiteView) → Every NoJoin (promises me id reach v).told
promises_none me id reach v = every_append NoJoin (leaves me v).told (Promises me id reach ∷ []) (leaves_of_none me v.epoch v) (tt, tt)

-- a promise of an id that isn't lower
promised_fine : (J : Knowledge) (s boot : ℕ) (low id : EpochId) (reach : Sites) (v : SiteView) → At J s boot low v → IsAtMost low id → v.promised.number ≤ id.number → v.epoch ≡ None → Fine J s boot low (tells (Promises s id reach ∷ []) (promised_view id v))
promised_fine J s boot low id reach v h rises le gone =
    let told : List Told = Promises s id reach ∷ [] in
    let now : At J s boot low (promised_view id v) = record {
      boot_is = h.boot_is;
      rises = rises;
      view = record { round_ok = λ r e. absurd (none_some r e); risen = λ i m j f g. (let k : i.number ≤ v.promised.number = h.view.risen i m j f g in omega (arith, k, le)); epoch_ok = h.view.epoch_ok; epoch_is = λ e k. absurd (none_some e (sym gone ∙ k)); tables_ok = h.view.tables_ok };
    } in
    record { now = at_same J (Now J told) s boot low (promised_view id v) (old_now J told) (now_old J told (tt, tt)) now; law = (tt, tt); sent = tt; written = tt }

promises_fine : (J : Knowledge) (s boot : ℕ) (low id : EpochId) (reach : Sites) (v : SiteView) → At J s boot low v → IsAtMost low id → v.promised.number ≤ id.number → Fine J s boot low (promises s id reach v)
promises_fine J s boot low id reach v h rises le =
    then_fine J s boot low (leaves s v) (λ now. tells (Promises s id reach ∷ []) (promised_view id now)) (leaves_of_fine J s boot low v.epoch v h)
    (λ g. promised_fine (Now J (leaves s v).told) s boot low id reach (leaves s v).view g rises (subst (λ (i : EpochId). i.number ≤ id.number) (sym (leaves_of_promised s v.epoch v)) le) (leaves_of_epoch s v.epoch v refl))

-- ---- rounds ----

polls_fine : (J : Knowledge) (s boot : ℕ) (low id : EpochId) (polled : Links) (v : SiteView) → At J s boot low v → id ≡ v.promised → id.site ≡ s → id.boot ≡ v.boot → ((m : Members) → J s id m → ⊥) → Fine J s boot low (polls s id polled v)
polls_fine J s boot low id polled v h same site number fresh =
    sends_fine J s boot low (map (poll_packet s v.boot id polled) (polled_sites polled)) (record v { round = Some (new_round id polled) })
    (record {
      boot_is = h.boot_is;
      rises = h.rises;
      view = record {
        round_ok = λ r e. subst (λ (x : Round). RoundOk J s v.boot v.promised x.id) (some_same (new_round id polled) r e) (record { id_is = same; site_is = site; boot_is = number; fresh = fresh });
        risen = h.view.risen;
        epoch_ok = h.view.epoch_ok;
        epoch_is = h.view.epoch_is;
        tables_ok = h.view.tables_ok;
      };
    })
    (every_map (PacketFact J) (poll_packet s v.boot id polled) (polled_sites polled) (λ t. tt))

begins_fine : (J : Knowledge) (s boot : ℕ) (low : EpochId) (links : Links) (number : ℕ) (polled : Links) (v : SiteView) → At J s boot low v → v.promised.number + 1 ≤ number → Fine J s boot low (begins_round s links number polled v)
begins_fine J s boot low links number polled v h le =
    let id : EpochId = round_id s number v in
    let o : Outcome SiteView = promises s id (reached links) v in
    then_fine J s boot low o (polls s id polled) (promises_fine J s boot low id (reached links) v h (higher_at_most low v.promised id h.rises (above v.promised.number number le)) (omega (arith, le)))
    (λ g. polls_fine (Now J o.told) s boot low id polled o.view g refl refl (h.boot_is ∙ sym g.boot_is)
    (λ m j. (let k : number ≤ v.promised.number = h.view.risen id m (now_old J o.told (promises_none s id (reached links) v) s id m j) refl refl in omega (arith, k, le))))

starts_part_fine : (J : Knowledge) (s boot : ℕ) (low : EpochId) (links : Links) (e : Option InEpoch) (v : SiteView) → At J s boot low v → Fine J s boot low (starts_part_of s links e v)
starts_part_fine J s boot low links None v h = quiet_fine J s boot low v h
starts_part_fine J s boot low links (Some e) v h = begins_fine J s boot low links (v.promised.number + 1) (boots_where (part_boot s links e.members)) v h (omega arith)

-- ---- Poll, Promise, Refuse ----

on_poll_fine : (J : Knowledge) (s boot : ℕ) (low : EpochId) (links : Links) (from from_boot : ℕ) (id : EpochId) (v : SiteView) → At J s boot low v → Fine J s boot low (on_poll s links from from_boot id v)
on_poll_fine J s boot low links from from_boot id v h =
    (elim (is_epoch_below v.promised id) as (λ t. is_epoch_below v.promised id ≡ t → Fine J s boot low (elim t [ true ↦ and_then (promises s id (reached links) v) (λ now. sends (promise_packet s links from from_boot id now) now) | false ↦ sends (cond (same_epoch id v.promised && not v.installed) (promise_packet s links from from_boot id v) (refuse_packet s from from_boot id v)) v ])) [
      | true ↦ λ e. then_fine J s boot low (promises s id (reached links) v) (λ now. sends (promise_packet s links from from_boot id now) now)
          (promises_fine J s boot low id (reached links) v h (below_at_most low v.promised id h.rises e) (below_number v.promised id e))
          (λ g. sends_fine (Now J (promises s id (reached links) v).told) s boot low (promise_packet s links from from_boot id (promises s id (reached links) v).view) (promises s id (reached links) v).view g (tt, tt))
      | false ↦ λ e. sends_fine J s boot low (cond (same_epoch id v.promised && not v.installed) (promise_packet s links from from_boot id v) (refuse_packet s from from_boot id v)) v h
          (every_cond (PacketFact J) (same_epoch id v.promised && not v.installed) (promise_packet s links from from_boot id v) (refuse_packet s from from_boot id v) (tt, tt) (not_below_number v.promised id e, tt))
    ]) refl

-- the round goes on under the same id
goes_on_round : (J : Knowledge) (s boot : ℕ) (low : EpochId) (r q : Round) (v : SiteView) → At J s boot low v → v.round ≡ Some r → q.id ≡ r.id → Fine J s boot low (quiet (record v { round = Some q }))
goes_on_round J s boot low r q v h here same =
    quiet_fine J s boot low (record v { round = Some q }) (record {
      boot_is = h.boot_is;
      rises = h.rises;
      view = record {
        round_ok = λ x e. subst (λ (y : Round). RoundOk J s v.boot v.promised y.id) (some_same q x e) (subst (λ (i : EpochId). RoundOk J s v.boot v.promised i) (sym same) (h.view.round_ok r here));
        risen = h.view.risen;
        epoch_ok = h.view.epoch_ok;
        epoch_is = h.view.epoch_is;
        tables_ok = h.view.tables_ok;
      };
    })

cond_id : (b : Bool) (x y : Round) → x.id ≡ y.id → (cond b x y).id ≡ y.id
cond_id true x y e = e
cond_id false x y e = refl

on_promise_fine : (J : Knowledge) (s boot : ℕ) (low : EpochId) (from from_boot : ℕ) (id : EpochId) (reach : Sites) (o : Option Round) (v : SiteView) → At J s boot low v → v.round ≡ o → Fine J s boot low (on_promise_of from from_boot id reach o v)
on_promise_fine J s boot low from from_boot id reach None v h e = quiet_fine J s boot low v h
on_promise_fine J s boot low from from_boot id reach (Some r) v h e =
    goes_on_round J s boot low r (cond (counts_promise from from_boot id r) (with_promise from reach r) r) v h e (cond_id (counts_promise from from_boot id r) (with_promise from reach r) r refl)

on_refuse_fine : (J : Knowledge) (s boot : ℕ) (low : EpochId) (links : Links) (id theirs : EpochId) (o : Option Round) (v : SiteView) → At J s boot low v → v.round ≡ o → id.number ≤ theirs.number → Fine J s boot low (on_refuse_of s links id theirs o v)
on_refuse_fine J s boot low links id theirs None v h here le = quiet_fine J s boot low v h
on_refuse_fine J s boot low links id theirs (Some r) v h here le =
    (elim (same_epoch r.id id) as (λ t. same_epoch r.id id ≡ t → Fine J s boot low (elim t [ true ↦ begins_round s links (theirs.number + 1) r.polled v | false ↦ quiet v ])) [
      | true ↦ λ e. begins_fine J s boot low links (theirs.number + 1) r.polled v h (let k : v.promised.number ≡ id.number = ap (λ (i : EpochId). i.number) (sym (h.view.round_ok r here).id_is ∙ same_epoch_eq r.id id e) in omega (arith, k, le))
      | false ↦ λ e. quiet_fine J s boot low v h
    ]) refl

-- ---- joining ----

reports_plain : (f : Frame) (v : SiteView) → Every Unclaimed (all_reports f v)
reports_plain f v = all_reports_walk joins_nothing f (plain_keeps f).stores v

-- a join that is lawful, of the promised id
joins_fine : (J : Knowledge) (s boot : ℕ) (low : EpochId) (c : Config) (id : EpochId) (m : Members) (v : SiteView) → At J s boot low v → MayJoin J s boot id m → id ≡ v.promised → Fine J s boot low (joins c s id m v)
joins_fine J s boot low c id m v h may same = record {
  now = record {
    boot_is = h.boot_is;
    rises = h.rises;
    view = record {
      round_ok = λ r e. absurd (none_some r e);
      risen = risen;
      epoch_ok = λ e k. subst (λ (y : InEpoch). Now J told y.id.site y.id y.members) (some_same (record { id = id; members = m }) e k) (own may);
      epoch_is = λ e k. subst (λ (y : InEpoch). y.id ≡ v.promised) (some_same (record { id = id; members = m }) e k) same;
      tables_ok = every_map TableOk new_table _ (λ g. tt);
    };
  };
  law = ((refl, may), tt);
  sent = unclaimed_facts (Now J told) (joins c s id m v).sent (reports_plain (frame_in c s v.boot (record { id = id; members = m })) (joined_view c s id m v));
  written = tt;
}
  where
    told : List Told
    told = (joins c s id m v).told

    own : MayJoin J s boot id m → Now J told id.site id m
    own (inl j) = inl j
    own (inr j) = inr (inl (sym j.0, refl, refl))

    risen : (i : EpochId) (n : Members) → Now J told s i n → i.site ≡ s → i.boot ≡ v.boot → i.number ≤ v.promised.number
    risen i n (inl j) f g = h.view.risen i n j f g
    risen i n (inr (inl j)) f g = let k : i.number ≡ v.promised.number = ap (λ (y : EpochId). y.number) (sym j.1 ∙ same) in omega (arith, k)
    risen i n (inr (inr j)) f g = absurd j

on_install_fine : (J : Knowledge) (s boot : ℕ) (low : EpochId) (c : Config) (from from_boot : ℕ) (id : EpochId) (m : Members) (v : SiteView) → At J s boot low v → J id.site id m → Fine J s boot low (on_install c s from from_boot id m v)
on_install_fine J s boot low c from from_boot id m v h j =
    (elim (may_install s id m v) as (λ t. may_install s id m v ≡ t → Fine J s boot low (elim t [ true ↦ and_then (joins c s id m v) (λ now. sends (joined_packet s from from_boot id now) now) | false ↦ sends (cond (is_in id v.epoch) (joined_packet s from from_boot id v) []) v ])) [
      | true ↦ λ e. then_fine J s boot low (joins c s id m v) (λ now. sends (joined_packet s from from_boot id now) now)
          (joins_fine J s boot low c id m v h (inl j) (same_epoch_eq id v.promised (both_true (same_epoch id v.promised) _ e).0))
          (λ g. sends_fine (Now J (joins c s id m v).told) s boot low (joined_packet s from from_boot id (joins c s id m v).view) (joins c s id m v).view g (tt, tt))
      | false ↦ λ e. sends_fine J s boot low (cond (is_in id v.epoch) (joined_packet s from from_boot id v) []) v h (every_cond (PacketFact J) (is_in id v.epoch) (joined_packet s from from_boot id v) [] (tt, tt) tt)
    ]) refl

cond_plain : (b : Bool) (a v : SiteView) → Plain v (quiet a) → Plain v (quiet v) → Plain v (quiet (cond b a v))
cond_plain true a v h g = h
cond_plain false a v h g = g

on_joined_plain : (from : ℕ) (id : EpochId) (v : SiteView) → Every TableOk v.tables → Plain v (on_joined from id v)
on_joined_plain from id v ok =
    cond_plain (is_in id v.epoch) (record v { installs = without_row (λ s. s) from v.installs }) v (record { boot = refl; round = refl; promised = refl; epoch = refl; tables = ok; still = (tt, tt, tt) }) (plain_quiet v ok)

-- ---- the decision ----

installs_fine : (J : Knowledge) (s boot : ℕ) (low id : EpochId) (m : Members) (v : SiteView) → At J s boot low v → J id.site id m → Fine J s boot low (installs_all s id m v)
installs_fine J s boot low id m v h j =
    sends_fine J s boot low (map (install_packet s v.boot id m) (others_of s m)) (record v { installs = others_of s m })
    (record { boot_is = h.boot_is; rises = h.rises; view = record { round_ok = h.view.round_ok; risen = h.view.risen; epoch_ok = h.view.epoch_ok; epoch_is = h.view.epoch_is; tables_ok = h.view.tables_ok } })
    (every_map (PacketFact J) (install_packet s v.boot id m) (others_of s m) (λ t. j))

decides_fine : (J : Knowledge) (s boot : ℕ) (low : EpochId) (c : Config) (id : EpochId) (m : Members) (v : SiteView) → At J s boot low v → RoundOk J s v.boot v.promised id → Fine J s boot low (decides c s id m v)
decides_fine J s boot low c id m v h k =
    then_fine J s boot low (joins c s id m v) (installs_all s id m) (joins_fine J s boot low c id m v h (inr (k.site_is, k.boot_is ∙ h.boot_is, k.fresh)) k.id_is)
    (λ g. installs_fine (Now J (joins c s id m v).told) s boot low id m (joins c s id m v).view g (inr (inl (sym k.site_is, refl, refl))))

decides_if_fine : (J : Knowledge) (s boot : ℕ) (low : EpochId) (c : Config) (links : Links) (r q : Round) (xs : List ℕ) (v : SiteView) → At J s boot low v → v.round ≡ Some r → q.id ≡ r.id → Fine J s boot low (decides_if c s links q xs v)
decides_if_fine J s boot low c links r q [] v h here same = decides_fine J s boot low c q.id (chosen_members s v.boot q (chosen_set s links q)) v h (subst (λ (i : EpochId). RoundOk J s v.boot v.promised i) (sym same) (h.view.round_ok r here))
decides_if_fine J s boot low c links r q (x ∷ xs) v h here same = goes_on_round J s boot low r q v h here same

passes_over_fine : (J : Knowledge) (s boot : ℕ) (low : EpochId) (c : Config) (links : Links) (o : Option Round) (v : SiteView) → At J s boot low v → v.round ≡ o → Fine J s boot low (passes_over_of c s links o v)
passes_over_fine J s boot low c links None v h e = quiet_fine J s boot low v h
passes_over_fine J s boot low c links (Some r) v h e = decides_if_fine J s boot low c links r (passed_over links r) (unanswered (passed_over links r)) v h e refl

-- ---- the end of an event ----

ends_fine : (J : Knowledge) (s boot : ℕ) (low : EpochId) (c : Config) (links : Links) (v : SiteView) → At J s boot low v → Fine J s boot low (ends_event c s links v)
ends_fine J s boot low c links v h =
    then_fine J s boot low (passes_over c s links v) (λ now. starts_mends_of c s now.epoch now) (passes_over_fine J s boot low c links v.round v h refl)
    (λ g. plain_fine (Now J (passes_over c s links v).told) s boot low (passes_over c s links v).view _ g (mends_of_plain c s (passes_over c s links v).view.epoch (passes_over c s links v).view g.view.tables_ok))

-- ---- a packet ----

takes_fine : (J : Knowledge) (s boot : ℕ) (low : EpochId) (c : Config) (links : Links) (p : Packet) (x : Body) (v : SiteView) → At J s boot low v → BodyFact J p.epoch x → Fine J s boot low (takes c s links p x v)
takes_fine J s boot low c links p body.Poll v h k = on_poll_fine J s boot low links p.from p.from_boot p.epoch v h
takes_fine J s boot low c links p (body.Promise reach) v h k = on_promise_fine J s boot low p.from p.from_boot p.epoch reach v.round v h refl
takes_fine J s boot low c links p (body.Refuse promised) v h k = on_refuse_fine J s boot low links p.epoch promised v.round v h refl k
takes_fine J s boot low c links p (body.Install members) v h k = on_install_fine J s boot low c p.from p.from_boot p.epoch members v h k
takes_fine J s boot low c links p body.Joined v h k = plain_fine J s boot low v (on_joined p.from p.epoch v) h (on_joined_plain p.from p.epoch v h.view.tables_ok)
takes_fine J s boot low c links p _ v h k = plain_fine J s boot low v (takes_framed c s p v.epoch v) h (framed_plain c s p v.epoch v h.view.tables_ok)

-- ---- the step ----

whole_fine : (J : Knowledge) (s boot : ℕ) (low : EpochId) (c : Config) (links : Links) (o : Outcome SiteView) (tries : SiteView → Outcome SiteView) → Fine J s boot low o → ((v : SiteView) → Every TableOk v.tables → Plain v (tries v)) → Fine J s boot low (whole c s links o tries)
whole_fine J s boot low c links o tries h t =
    let a : Outcome SiteView = tries o.view in
    let p : Plain o.view a = t o.view h.now.view.tables_ok in
    let last : Outcome SiteView = ends_event c s links a.view in
    after_plain J s boot low a (joined_to o last) p.still
    (joined_fine J s boot low o last h (ends_fine (Now J o.told) s boot low c links a.view (plain_at (Now J o.told) s boot low o.view a p h.now)))

polls_ok : (J : Knowledge) (me : ℕ) (v : SiteView) (r : Option Round) → Every (PacketFact J) (poll_repeats me v r)
polls_ok J me v None = tt
polls_ok J me v (Some r) = every_map (PacketFact J) (poll_packet me v.boot r.id r.polled) (unanswered r) (λ s. tt)

repeats_ok : (J : Knowledge) (c : Config) (me : ℕ) (o : Option InEpoch) (v : SiteView) → ((e : InEpoch) → o ≡ Some e → J e.id.site e.id e.members) → Every (PacketFact J) (repeats_of c me o v)
repeats_ok J c me None v h = order_sent (PacketFact J) (poll_repeats me v v.round) (polls_ok J me v v.round)
repeats_ok J c me (Some e) v h =
    every_append (PacketFact J) (in_order (poll_repeats me v v.round ++ install_repeats me v e)) (repeats_inside (frame_in c me v.boot e) e v)
    (order_sent (PacketFact J) (poll_repeats me v v.round ++ install_repeats me v e) (every_append (PacketFact J) (poll_repeats me v v.round) (install_repeats me v e) (polls_ok J me v v.round) (every_map (PacketFact J) (install_packet me v.boot e.id e.members) v.installs (λ t. h e refl))))
    (unclaimed_facts J (repeats_inside (frame_in c me v.boot e) e v) (repeats_inside_walk joins_nothing (frame_in c me v.boot e) (plain_keeps (frame_in c me v.boot e)) e v))

ticks_fine : (J : Knowledge) (s boot : ℕ) (low : EpochId) (c : Config) (links : Links) (v : SiteView) (a : Outcome SiteView) → At J s boot low v → Plain v a → Fine J s boot low (ticks_after c s links a)
ticks_fine J s boot low c links v a h p =
    let again : List Packet = repeats c s a.view in
    let last : Outcome SiteView = ends_event c s links a.view in
    let here : At J s boot low a.view = plain_at J s boot low v a p h in
    let e : Fine J s boot low last = ends_fine J s boot low c links a.view here in
    let f : Fine J s boot low (record { view = last.view; sent = a.sent ++ in_order last.sent; told = a.told ++ last.told; written = _ }) = after_plain J s boot low a last p.still e in
    record {
      now = f.now;
      law = f.law;
      sent = every_append (PacketFact (Now J (a.told ++ last.told))) a.sent (again ++ in_order last.sent) (unclaimed_facts (Now J (a.told ++ last.told)) a.sent p.still.0)
          (every_append (PacketFact (Now J (a.told ++ last.told))) again (in_order last.sent) (packets_weaker J (Now J (a.told ++ last.told)) (old_now J (a.told ++ last.told)) again (repeats_ok J c s a.view.epoch a.view here.view.epoch_ok)) (later (PacketFact (Now J (a.told ++ last.told))) a.sent (in_order last.sent) f.sent));
      written = f.written;
    }
  where
    later : (P : Packet → Type 0) (xs ys : List Packet) → Every P (xs ++ ys) → Every P ys
    later P [] ys k = k
    later P (x ∷ xs) ys k = later P xs ys k.1

-- what the packet of an event carries
abbrev pub EventFact : Knowledge → Event → Type 0
EventFact J (Receives p) = PacketFact J p
EventFact J _ = Unit {0}

pub step_fine : (J : Knowledge) (s boot : ℕ) (low : EpochId) (c : Config) (links : Links) (v : SiteView) (e : Event) → At J s boot low v → EventFact J e → Fine J s boot low (step c s links v e)
step_fine J s boot low c links v (Calls process words) h k =
    whole_fine J s boot low c links (takes_call c s process words v) quiet
    (plain_fine J s boot low v (takes_call c s process words v) h (record { boot = refl; round = refl; promised = refl; epoch = refl; tables = h.view.tables_ok; still = on_call_still (call_frame c s v.boot v.epoch) (epoch_id v.epoch) process words v.users }))
    plain_quiet
step_fine J s boot low c links v (Receives p) h k =
    elim (is_dropped p v) as (λ t. Fine J s boot low (elim t [ true ↦ quiet v | false ↦ whole c s links (takes c s links p p.body v) (tries_at c s p.body) ])) [
      | true ↦ quiet_fine J s boot low v h
      | false ↦ whole_fine J s boot low c links (takes c s links p p.body v) (tries_at c s p.body) (takes_fine J s boot low c links p p.body v h k) (tries_plain c s p.body)
    ]
step_fine J s boot low c links v Ticks h k = ticks_fine J s boot low c links v (adopts_in c s v) h (adopts_of_plain c s v.epoch v h.view.tables_ok)
step_fine J s boot low c links v Parts h k = whole_fine J s boot low c links (starts_part s links v) quiet (starts_part_fine J s boot low links v.epoch v h) plain_quiet
step_fine J s boot low c links v Merges h k = whole_fine J s boot low c links (starts_merge s links v) quiet (begins_fine J s boot low links (v.promised.number + 1) (boots_where (merge_boot s links)) v h (omega arith)) plain_quiet
step_fine J s boot low c links v GivesUp h k = whole_fine J s boot low c links (leaves s v) quiet (leaves_of_fine J s boot low v.epoch v h) plain_quiet
