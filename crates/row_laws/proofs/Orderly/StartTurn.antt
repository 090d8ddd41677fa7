-- A line by which a site starts adds it to those that have started, with the sites that it asks.
use Rattle.std.proofs.Common.{◌≡◌, ◌≢◌, ℕ, ◌+◌, ◌≤◌, ◌==◌, ◌⊎◌, true, false, ◌&&◌, not, List, [], ◌∷◌, map, Option, Some, None, refl, sym, ◌∙◌, ap, subst, inl, inr, arith}
use Rattle.role_steps.proofs.of_plain_facts.Numbers.{not_zero_test}
use Rattle.role_steps.proofs.of_plain_facts.Options.{none_some, some_same}
use Rattle.locus_ids.specs.declared.ids.EpochId.{EpochId}
use Rattle.locus_ids.specs.declared.sites.Links.{Links}
use Rattle.locus_ids.specs.declared.config.Config.{Config}
use Rattle.trace_book.specs.declared.call.Call.TheVariants as call
use Rattle.wire_messages.specs.declared.packet.Packet.{Packet}
use Rattle.wire_messages.specs.declared.body.Body.{Body}
use Rattle.wire_messages.specs.declared.body.Body.TheVariants as body
use Rattle.role_steps.specs.Own.{Every}
use Rattle.role_steps.specs.Tables.{first_that}
use Rattle.role_steps.specs.Views.{Frame, SiteView, DiskWrite, Outcome, Event, Parts, Merges, quiet, first_written, boot_in, all_sites}
use Rattle.role_steps.specs.Epochs.{frame_in, leaves_of, leaves, promises, reached, new_round, poll_packet, polled_sites, round_id, begins_round, boots_where, merge_boot, part_boot, starts_merge, starts_part_of, starts_part, passed_over, unanswered, decides_if, passes_over_of, passes_over}
use Rattle.role_steps.specs.Mends.{has_mend_in, wants_mend, starts_mend_of, starts_mend, starts_mends_in, row_file}
use Rattle.role_steps.specs.declared.rounds.InEpoch.{InEpoch}
use Rattle.role_steps.specs.declared.rounds.Round.{Round}
use Rattle.role_steps.specs.declared.synchronizing.SyncTable.{SyncTable}
use Rattle.role_steps.specs.declared.synchronizing.FileRow.{FileRow}
use Rattle.role_steps.proofs.Sending.{every_append}
use Rattle.the_run.specs.Kept.{Among}
use Rattle.the_run.specs.Steps.{starts_mends_of, ends_event, whole, step}
use Rattle.the_run.specs.Worlds.{World, Numbered, place_at, links_of, numbered_from}
use Rattle.the_run.proofs.Boots.{every_weaker}
use Rattle.run_laws.proofs.InsideSteps.{quiet_inner}
use Rattle.run_laws.proofs.Telling.{on_call_talks}
use Rattle.run_laws.proofs.Run.{found_among}
use Rattle.run_laws.specs.Epochs.Forming.{TableFormless}
use Rattle.run_laws.specs.Epochs.Known.{IsKnown, NumberedFact, Good}
use Rattle.run_laws.proofs.Epochs.Forms.{formless_quiet}
use Rattle.row_laws.specs.Orderly.Effects.{SameCore}
use Rattle.row_laws.specs.Orderly.Rounded.{GoesOn, Decides, RoundSentCase, RoundSent}
use Rattle.row_laws.specs.Orderly.Settling.{Starts, boot_at, AreApart, IsPollBody, Carried, RowState, Settling}
use Rattle.row_laws.specs.Orderly.Turn.{Turn}
use Rattle.row_laws.proofs.Orderly.ApartTurn.{ApartCase, ActsApart, row_apart}
use Rattle.row_laws.proofs.Orderly.Choosing.{site_low, site_high, among_sites}
use Rattle.row_laws.proofs.Orderly.Effects.{promises_boot, promises_epoch, promises_silent, leaves_tables}
use Rattle.row_laws.proofs.Orderly.Formed.{among_right, Formed, whole_formed}
use Rattle.row_laws.proofs.Orderly.OwnTurn.{Mid, at_most_not, row_ends}
use Rattle.row_laws.proofs.Orderly.Places.{boot_here}
use Rattle.row_laws.proofs.Orderly.Rounded.{among_map, among_filter, every_map_among, polled_some, passes_ends, round_formless}
use Rattle.row_laws.proofs.Orderly.SettleTurn.{SentOk, settling_on}
use Rattle.row_laws.proofs.Orderly.Turns.{among_numbered}

-- ---- nothing is written by such a line ----

call_unwritten : (f : Frame) (t : SyncTable) (o : Option FileRow) (v : SiteView) → (starts_mend_of f t o v).written ≡ None
call_unwritten f t None v = refl
call_unwritten f t (Some r) v = (on_call_talks f (Some f.epoch) 0 (call.Mend (row_file t r)) v.users).1

abbrev Unwritten : Outcome SiteView → Type 0
Unwritten o = o.written ≡ None

mend_unwritten : (f : Frame) (t : SyncTable) (v : SiteView) → Unwritten (starts_mend f t v)
mend_unwritten f t v =
    elim (t.started && not (has_mend_in v.users t.group)) as (λ x. Unwritten (elim x [ true ↦ starts_mend_of f t (first_that (wants_mend v t) t.files) v | false ↦ quiet v ])) [
      | true ↦ call_unwritten f t (first_that (wants_mend v t) t.files) v
      | false ↦ refl
    ]

first_none : (a b : Option DiskWrite) → a ≡ None → b ≡ None → first_written a b ≡ None
first_none None b h g = g
first_none (Some d) b h g = h

mends_unwritten : (f : Frame) (ts : List SyncTable) (v : SiteView) → Unwritten (starts_mends_in f ts v)
mends_unwritten f [] v = refl
mends_unwritten f (t ∷ ts) v = first_none (starts_mend f t v).written (starts_mends_in f ts (starts_mend f t v).view).written (mend_unwritten f t v) (mends_unwritten f ts (starts_mend f t v).view)

mends_of_unwritten : (c : Config) (me : ℕ) (e : Option InEpoch) (v : SiteView) → Unwritten (starts_mends_of c me e v)
mends_of_unwritten c me None v = refl
mends_of_unwritten c me (Some e) v = mends_unwritten (frame_in c me v.boot e) v.tables v

decides_unwritten : (c : Config) (me : ℕ) (links : Links) (q : Round) (xs : List ℕ) (v : SiteView) → Unwritten (decides_if c me links q xs v)
decides_unwritten c me links q [] v = refl
decides_unwritten c me links q (x ∷ xs) v = refl

passes_unwritten : (c : Config) (me : ℕ) (links : Links) (o : Option Round) (v : SiteView) → Unwritten (passes_over_of c me links o v)
passes_unwritten c me links None v = refl
passes_unwritten c me links (Some r) v = decides_unwritten c me links (passed_over links r) (unanswered (passed_over links r)) v

ends_unwritten : (c : Config) (me : ℕ) (links : Links) (v : SiteView) → Unwritten (ends_event c me links v)
ends_unwritten c me links v = first_none (passes_over c me links v).written (starts_mends_of c me (passes_over c me links v).view.epoch (passes_over c me links v).view).written (passes_unwritten c me links v.round v) (mends_of_unwritten c me (passes_over c me links v).view.epoch (passes_over c me links v).view)

leaves_unwritten : (me : ℕ) (e : Option InEpoch) (v : SiteView) → Unwritten (leaves_of me e v)
leaves_unwritten me None v = refl
leaves_unwritten me (Some e) v = refl

begins_unwritten : (me : ℕ) (links : Links) (number : ℕ) (polled : Links) (v : SiteView) → Unwritten (begins_round me links number polled v)
begins_unwritten me links number polled v = first_none (promises me (round_id me number v) (reached links) v).written None (first_none (leaves me v).written None (leaves_unwritten me v.epoch v) refl) refl

part_unwritten : (me : ℕ) (links : Links) (e : Option InEpoch) (v : SiteView) → Unwritten (starts_part_of me links e v)
part_unwritten me links None v = refl
part_unwritten me links (Some e) v = begins_unwritten me links (v.promised.number + 1) (boots_where (part_boot me links e.members)) v

pub merges_unwritten : (c : Config) (me : ℕ) (links : Links) (v : SiteView) → Unwritten (step c me links v Merges)
merges_unwritten c me links v = first_none (starts_merge me links v).written (ends_event c me links (starts_merge me links v).view).written (begins_unwritten me links (v.promised.number + 1) (boots_where (merge_boot me links)) v) (ends_unwritten c me links (starts_merge me links v).view)

pub parts_unwritten : (c : Config) (me : ℕ) (links : Links) (v : SiteView) → Unwritten (step c me links v Parts)
parts_unwritten c me links v = first_none (starts_part me links v).written (ends_event c me links (starts_part me links v).view).written (part_unwritten me links v.epoch v) (ends_unwritten c me links (starts_part me links v).view)

-- ---- the round that begins ----

abbrev pub first_round : ℕ → SiteView → Links → Round
first_round s v polled = new_round (round_id s (v.promised.number + 1) v) polled

pub record Begun (s : ℕ) (links : Links) (v : SiteView) (polled : Links) (o : Outcome SiteView) : Type 0 where
  pub ends : GoesOn links v (first_round s v polled) o.view ⊎ Decides s links v (first_round s v polled) o
  pub sent : Every (RoundSent s v (first_round s v polled) o.view) o.sent
  pub polls : (t : ℕ) → Among t (polled_sites polled) → Among (poll_packet s v.boot (first_round s v polled).id polled t) o.sent

begun_of : (c : Config) (s : ℕ) (links : Links) (v : SiteView) (polled : Links) → Every TableFormless v.tables → Begun s links v polled (whole c s links (begins_round s links (v.promised.number + 1) polled v) quiet)
begun_of c s links v polled ok = record {
  ends = d.0;
  sent = f.every (RoundSent s v q o.view) (λ p x. round_formless s v q o.view p p.body x)
      (every_append (RoundSent s v q o.view) a.sent (map (poll_packet s a.view.boot q.id polled) (polled_sites polled)) (promises_silent (RoundSent s v q o.view) s q.id (reached links) v)
      (every_map_among (RoundSent s v q o.view) (poll_packet s a.view.boot q.id polled) (polled_sites polled) (λ t x. record { id = refl; asked = refl; some = polled_some polled t x }))) d.1;
  polls = λ t x. f.has (poll_packet s v.boot q.id polled t) (inl (among_right (poll_packet s v.boot q.id polled t) a.sent (map (poll_packet s a.view.boot q.id polled) (polled_sites polled))
      (subst (λ (b : ℕ). Among (poll_packet s b q.id polled t) (map (poll_packet s a.view.boot q.id polled) (polled_sites polled))) (promises_boot s q.id (reached links) v) (among_map (poll_packet s a.view.boot q.id polled) t (polled_sites polled) x))));
}
  where
    q : Round
    q = first_round s v polled

    a : Outcome SiteView
    a = promises s q.id (reached links) v

    m : Outcome SiteView
    m = begins_round s links (v.promised.number + 1) polled v

    o : Outcome SiteView
    o = whole c s links m quiet

    f : Formed c s links m o
    f = whole_formed c s links m quiet (formless_quiet m.view (leaves_tables s v.epoch v ok)) (quiet_inner m.view)

    k : SameCore m.view f.mid
    k = f.mid_is

    d : (GoesOn links v q o.view ⊎ Decides s links v q o) × Every (RoundSent s v q o.view) (passes_over c s links f.mid).sent
    d = passes_ends c s links v f.mid q o k.round (k.boot ∙ promises_boot s q.id (reached links) v) k.promised k.installed (k.epoch ∙ promises_epoch s q.id (reached links) v) f.view (λ p x. f.has p (inr x))

pub merge_begun : (c : Config) (s : ℕ) (links : Links) (v : SiteView) → Every TableFormless v.tables → Begun s links v (boots_where (merge_boot s links)) (step c s links v Merges)
merge_begun c s links v ok = begun_of c s links v (boots_where (merge_boot s links)) ok

pub part_begun : (c : Config) (s : ℕ) (links : Links) (v : SiteView) (e : InEpoch) → v.epoch ≡ Some e → Every TableFormless v.tables → Begun s links v (boots_where (part_boot s links e.members)) (step c s links v Parts)
part_begun c s links v e here ok =
    subst (λ (x : Option InEpoch). Begun s links v (boots_where (part_boot s links e.members)) (whole c s links (starts_part_of s links x v) quiet)) (sym here) (begun_of c s links v (boots_where (part_boot s links e.members)) ok)

-- ---- the line ----

-- those that have started, and this one
abbrev pub With : Starts → ℕ → Links → Starts
With R s P x L = R x L ⊎ ((x ≡ s) × (L ≡ P))

pub start_turn : (c : Config) (first w u : World) (R : Starts) (s : ℕ) (v : SiteView) (e : Event) (P : Links) → AreApart first (With R s P) → ((L : Links) → R s L → ⊥) → Settling first R w → Good w → Turn c first w u s v e → Begun s (links_of first s) v P (step c s (links_of first s) v e) → Settling first (With R s P) u
start_turn c first w u R s v e P apart new st good t b =
    settling_on c first w u R (With R s P) s v e good st (λ x L r. inl r) t (λ r h. (P, inr (refl, refl)))
    (every_weaker (RoundSent s v q o.view) (λ (p : Packet). SentOk first (With R s P) p p.body) o.sent (λ p k. live p p.body k) b.sent)
    rows
  where
    o : Outcome SiteView
    o = step c s (links_of first s) v e

    q : Round
    q = first_round s v P

    live : (p : Packet) (x : Body) → RoundSentCase s v q o.view p x → SentOk first (With R s P) p x
    live p body.Poll k =
        let of : p.epoch.site ≡ s = ap (λ (i : EpochId). i.site) k.id in
        record { polled = P; starts = inr (of, refl); asked = k.asked; some = k.some; boot = ap (λ (i : EpochId). i.boot) k.id ∙ (sym (boot_here w s v t.here) ∙ (st.boots s ∙ ap (boot_at first) (sym of))) }
    live p _ k = tt

    acts : ActsApart s o
    acts = record {
      sent = every_weaker (RoundSent s v q o.view) (λ (p : Packet). ApartCase s p p.body) o.sent (λ p k. apart_case p p.body k) b.sent;
      joins = λ f h. by_ends f h b.ends;
    }
      where
        apart_case : (p : Packet) (x : Body) → RoundSentCase s v q o.view p x → ApartCase s p x
        apart_case p (body.Promise reach) k = (k.0, λ z. absurd (let d : 1 ≤ v.boot = (good.views s v t.here).booted in let g : p.from_boot ≡ v.boot = k.1 in omega (arith, d, g, z)))
        apart_case p (body.Install members) k = ap (λ (i : EpochId). i.site) k.0
        apart_case p _ k = tt

        by_ends : (f : InEpoch) → o.view.epoch ≡ Some f → GoesOn (links_of first s) v q o.view ⊎ Decides s (links_of first s) v q o → f.id.site ≡ s
        by_ends f h (inl g) = absurd (none_some f (sym g.outside ∙ h))
        by_ends f h (inr g) = ap (λ (x : InEpoch). x.id.site) (some_same f _ (sym h ∙ g.epoch))

    -- nobody knows the new id before
    unknown : (i : EpochId) → IsKnown (place_at w) i → i ≡ q.id → ⊥
    unknown i known same =
        let n : IsKnown (place_at w) q.id = subst (IsKnown (place_at w)) same known in
        at_most_not q.id v.promised (n.risen v t.here refl) (omega arith)

    covered : (y : ℕ) → boot_in P.boot y ≢ 0 → Carried u.underway q.id s v.boot y (boot_in P.boot y) IsPollBody
    covered y some =
        let a : Among y (polled_sites P) = among_filter (λ z. not (boot_in P.boot z == 0)) y all_sites (among_sites y (site_low P.boot y some) (site_high (boot_in P.boot y) y some (apart.sized s P y (inr (refl, refl))))) (not_zero_test (boot_in P.boot y) some) in
        let n : (z : Numbered) × (Among z (numbered_from t.count o.sent)) × (z.packet ≡ poll_packet s v.boot q.id P y) = among_numbered (poll_packet s v.boot q.id P y) t.count o.sent (b.polls y a) in
        record {
          letter = n.0;
          there = subst (λ (xs : List Numbered). Among n.0 xs) (sym t.underway) (among_right n.0 t.under (numbered_from t.count o.sent) n.1);
          is_kind = subst (λ (z : Packet). IsPollBody z.body) (sym n.2) tt;
          epoch = ap (λ (z : Packet). z.epoch) n.2;
          from_is = ap (λ (z : Packet). z.from) n.2;
          from_boot_is = ap (λ (z : Packet). z.from_boot) n.2;
          to_is = ap (λ (z : Packet). z.to) n.2;
          to_boot_is = ap (λ (z : Packet). z.to_boot) n.2;
        }

    mid : Mid first w u s v.boot P q
    mid = record {
      site = refl;
      polled = λ y. refl;
      covered = λ y some. inr (inl (covered y some));
      taken = tt;
      ascend = tt;
      packets = λ y a i. absurd (unknown y.packet.epoch (found_among (NumberedFact (place_at w)) y w.underway good.underway a).0 i);
      nobody = λ y z f ne here inside i. unknown f.id (subst (IsKnown (place_at w)) (sym ((good.views y z (sym (t.others y ne) ∙ here)).inside f inside).0) (good.views y z (sym (t.others y ne) ∙ here)).known) i;
    }

    rows : (X : ℕ) (L : Links) → With R s P X L → RowState first (place_at u) u.underway X L
    rows X L (inl r) = row_apart c first w u s v e t acts X L (λ eq. new L (subst (λ (y : ℕ). R y L) (sym eq) r)) (apart.others s P X L (inr (refl, refl)) (inl r)) (λ x g here h. ((good.views X x here).round g h).site) (st.rows X L r)
    rows X L (inr k) = subst (λ (y : ℕ). RowState first (place_at u) u.underway y L) (sym k.0) (subst (λ (M : Links). RowState first (place_at u) u.underway s M) (sym k.1)
        (row_ends c first w u (With R s P) s v e apart (st.boots s) good t P q (inr (refl, refl)) mid b.ends b.sent))
