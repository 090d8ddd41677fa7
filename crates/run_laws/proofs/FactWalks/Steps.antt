-- Each event of a site keeps each law of facts.
use Rattle.std.proofs.Common.{◌≡◌, ℕ, ◌+◌, ◌==◌, nat_lt, true, false, ◌&&◌, ◌||◌, List, ◌∷◌, ◌++◌, Option, Some, None, refl, sym, subst, arith}
use Rattle.std.proofs.lemmas.Bool.Decides.{nat_tests}
use Rattle.std.specs.List.{flat_map}
use Rattle.the_run.proofs.of_plain_facts.Tests.{both_true, not_false, or_other}
use Rattle.locus_ids.specs.declared.ids.EpochId.{EpochId}
use Rattle.locus_ids.specs.declared.sites.Links.{Links}
use Rattle.locus_ids.specs.declared.config.Config.{Config}
use Rattle.trace_book.specs.Same.{same_epoch}
use Rattle.trace_book.specs.declared.call.Call.{Call}
use Rattle.wire_messages.specs.Bodies.{kind_number}
use Rattle.wire_messages.specs.declared.packet.Packet.{Packet}
use Rattle.wire_messages.specs.declared.body.Body.{Body}
use Rattle.the_run.specs.of_role_steps.Own.{Every}
use Rattle.the_run.specs.of_role_steps.Views.{Frame, SiteView, Told, DiskWrite, Outcome, Event, Calls, Receives, Ticks, Parts, Merges, GivesUp, quiet, joined_to, first_written, boot_in}
use Rattle.the_run.specs.of_role_steps.Reports.{sync_repeats}
use Rattle.the_run.specs.of_role_steps.Storage.{store_repeats}
use Rattle.the_run.specs.of_role_steps.Pulling.{pull_repeats}
use Rattle.the_run.specs.of_role_steps.Requests.{users_repeats}
use Rattle.the_run.specs.of_role_steps.Epochs.{frame_in, on_poll, on_promise, on_refuse, on_install, on_joined, leaves, poll_packet, starts_merge, boots_where, merge_boot, starts_part, all_reports, unanswered, install_packet, poll_repeats, install_repeats}
use Rattle.the_run.specs.of_role_steps.declared.rounds.InEpoch.{InEpoch}
use Rattle.the_run.specs.of_role_steps.declared.rounds.Round.{Round}
use Rattle.the_run.proofs.of_role_steps.Sending.{every_append, every_map}
use Rattle.the_run.specs.Steps.{in_order, is_framed, is_forming, is_dropped, takes_inside, takes_framed, takes, adopts_in, tries_at, ends_event, whole, repeats_inside, repeats_of, repeats, ticks_after, call_frame, epoch_id, takes_call, step}
use Rattle.the_run.proofs.InsideSites.{adopts_of_plain}
use Rattle.the_run.proofs.InsideRoles.{on_call_still}
use Rattle.the_run.proofs.StepSends.{order_sent}
use Rattle.run_laws.specs.Naming.{Deeds, Now, ViewOk, Fine as EpochFine}
use Rattle.run_laws.proofs.Moves.{inner_view, inner_fine}
use Rattle.run_laws.proofs.InsideSteps.{adopts_of_inner, call_inner}
use Rattle.run_laws.proofs.Steps.{EventNames, takes_fine, starts_part_fine, begins_fine as begins_named, leaves_of_fine}
use Rattle.run_laws.specs.FactWalks.Facts.{onto, Facts, PacketIn, Fine, FineAt, EventIn, IsOfForming}
use Rattle.run_laws.specs.FactWalks.Keeping.{IsFrameOf, Repeats, FactsKeep}
use Rattle.run_laws.proofs.FactWalks.Outcomes.{onto_append, packets_onto, then_fine, quiet_fine}
use Rattle.run_laws.proofs.FactWalks.Forming.{ends_none, adopts_fine, leaves_fine, begins_fine, part_fine, on_poll_fine, on_promise_fine, on_refuse_fine, on_install_fine, on_joined_fine, ends_fine, forming}
use Rattle.run_laws.proofs.FactWalks.Pulls.{SiteSilent, framed_notify}
use Rattle.run_laws.proofs.FactWalks.Packets.{by_packet}

-- ---- a packet of the epoch ----

pub same_epoch_eq : (a b : EpochId) → same_epoch a b ≡ true → a ≡ b
same_epoch_eq a b h = id_eq (grind (arith, nat_tests)) (grind (arith, nat_tests)) (grind (arith, nat_tests))
  where
    id_eq : a.number ≡ b.number → a.site ≡ b.site → a.boot ≡ b.boot → a ≡ b
    id_eq e f g = λ i. record { number = e i; site = f i; boot = g i }

pub framed_epoch : (p : Packet) (v : SiteView) (e : InEpoch) → is_dropped p v ≡ false → is_forming p ≡ false → v.epoch ≡ Some e → e.id ≡ p.epoch
framed_epoch p v e h inside here =
    let a : ((p.to_boot == v.boot) ≡ true) × ((is_forming p || is_framed p v.epoch) ≡ true) = both_true (p.to_boot == v.boot) (is_forming p || is_framed p v.epoch) (not_false ((p.to_boot == v.boot) && (is_forming p || is_framed p v.epoch)) h) in
    let b : is_framed p (Some e) ≡ true = subst (λ (o : Option InEpoch). is_framed p o ≡ true) here (or_other (is_forming p) (is_framed p v.epoch) inside a.1) in
    same_epoch_eq e.id p.epoch (both_true (same_epoch e.id p.epoch) (boot_in e.members.boot p.from == p.from_boot) b).0

call_frame_of : (c : Config) (me boot : ℕ) (o : Option InEpoch) → IsFrameOf (call_frame c me boot o) (epoch_id o)
call_frame_of c me boot None = tt
call_frame_of c me boot (Some e) = refl

call_site : (c : Config) (me boot : ℕ) (o : Option InEpoch) → (call_frame c me boot o).me ≡ me
call_site c me boot None = refl
call_site c me boot (Some e) = refl

polls_form : (me : ℕ) (v : SiteView) (r : Option Round) → Every (λ (p : Packet). IsOfForming p.body) (poll_repeats me v r)
polls_form me v None = tt
polls_form me v (Some r) = every_map (λ (p : Packet). IsOfForming p.body) (poll_packet me v.boot r.id r.polled) (unanswered r) (λ s. tt)

module _ (facts : Facts) (c : Config) (me : ℕ) (keeps : FactsKeep facts c me) where
  abbrev IsFine : List Told → Outcome SiteView → Type 0
  IsFine past o = FineAt facts me past o

  abbrev Knows : List Told → SiteView → Type 0
  Knows past v = facts.view past me v

  -- ---- whole events ----

  -- where no adoption is tried
  untried : (K : Deeds) (past : List Told) (links : Links) (o : Outcome SiteView) → ViewOk K o.view → IsFine past o → IsFine past (whole c me links o quiet)
  untried K past links o ok h =
      let last : Outcome SiteView = ends_event c me links o.view in
      let k : IsFine past (joined_to o last) = then_fine facts keeps.grows Knows Knows past o last h (ends_fine facts c me keeps K (onto o.told past) links o.view ok h.view) (ends_none c me links o.view) in
      record { view = k.view; sent = order_sent (PacketIn facts (onto (joined_to o last).told past)) (joined_to o last).sent k.sent; told = k.told; written = k.written }

  -- where one is tried the event itself tells and writes nothing
  tried : (K : Deeds) (past : List Told) (links : Links) (o : Outcome SiteView) → SiteSilent o → ViewOk K o.view → IsFine past o → IsFine past (whole c me links o (adopts_in c me))
  tried K past links o silent ok h =
      let a : Outcome SiteView = adopts_in c me o.view in
      let last : Outcome SiteView = ends_event c me links a.view in
      let view : Knows past o.view = subst (λ (told : List Told). Knows (onto told past) o.view) silent.0 h.view in
      let sent : Every (PacketIn facts past) o.sent = subst (λ (told : List Told). Every (PacketIn facts (onto told past)) o.sent) silent.0 h.sent in
      let k : IsFine past a = adopts_fine facts c me keeps past o.view.epoch o.view refl view in
      let now : List Told = onto a.told past in
      let e : IsFine now last = ends_fine facts c me keeps K now links a.view (inner_view K o.view a (adopts_of_plain c me o.view.epoch o.view ok.tables) (adopts_of_inner c me o.view.epoch o.view refl) ok) k.view in
      let end : List Told = onto last.told now in
      let f : IsFine past (joined_to a last) = then_fine facts keeps.grows Knows Knows past a last k e (ends_none c me links a.view) in
      let same : onto (a.told ++ last.told) past ≡ end = onto_append a.told last.told past in
      let all : Every (PacketIn facts end) (a.sent ++ in_order (o.sent ++ last.sent)) = every_append (PacketIn facts end) a.sent (in_order (o.sent ++ last.sent)) (packets_onto facts keeps.grows last.told now a.sent k.sent)
      (order_sent (PacketIn facts end) (o.sent ++ last.sent) (every_append (PacketIn facts end) o.sent last.sent (packets_onto facts keeps.grows last.told now o.sent (packets_onto facts keeps.grows a.told past o.sent sent)) e.sent)) in
      subst (λ (told : List Told). Fine facts Knows past (record { view = last.view; sent = a.sent ++ in_order (o.sent ++ last.sent); told = a.told ++ (told ++ last.told); written = first_written a.written (first_written o.written last.written) })) (sym silent.0)
      (subst (λ (w : Option DiskWrite). Fine facts Knows past (record { view = last.view; sent = a.sent ++ in_order (o.sent ++ last.sent); told = a.told ++ last.told; written = first_written a.written (first_written w last.written) })) (sym silent.1)
      (record { view = f.view; sent = subst (λ (n : List Told). Every (PacketIn facts n) (a.sent ++ in_order (o.sent ++ last.sent))) (sym same) all; told = f.told; written = f.written }))

  -- ---- a packet ----

  -- what the site knows of a packet that comes
  record Comes (past : List Told) (p : Packet) (x : Body) (v : SiteView) : Type 0 where
    body_is : p.body ≡ x
    taken : is_dropped p v ≡ false
    assumed : facts.assumes past
    carried : facts.carries past p.from me p.epoch x
    known : Knows past v

  framed : (past : List Told) (p : Packet) (x : Body) (o : Option InEpoch) (v : SiteView) → v.epoch ≡ o → nat_lt (kind_number x) 6 ≡ false → Comes past p x v → IsFine past (takes_framed c me p o v)
  framed past p x None v here inside k = quiet_fine facts me past v k.known
  framed past p x (Some e) v here inside k =
      let named : e.id ≡ p.epoch = framed_epoch p v e k.taken (subst (λ (y : Body). nat_lt (kind_number y) 6 ≡ false) (sym k.body_is) inside) here in
      subst (λ (y : Body). IsFine past (takes_inside (frame_in c me v.boot e) p.from y v)) (sym k.body_is)
      (keeps.inside past p.from e v x here k.assumed (subst (λ (id : EpochId). facts.carries past p.from me id x) (sym named) k.carried) k.known)

  received : (K : Deeds) (past : List Told) (links : Links) (p : Packet) (x : Body) (v : SiteView) → ViewOk K v → Comes past p x v → ViewOk (Now K me (takes c me links p x v).told) (takes c me links p x v).view → IsFine past (whole c me links (takes c me links p x v) (tries_at c me x))
  received K past links p x v before =
      by_packet Q c me links p v (record {
        poll = λ k ok. untried (now (on_poll me links p.from p.from_boot p.epoch v)) past links (on_poll me links p.from p.from_boot p.epoch v) ok (on_poll_fine facts c me keeps past links p.from p.from_boot p.epoch v k.known);
        promise = λ reach k ok. untried (now (on_promise p.from p.from_boot p.epoch reach v)) past links (on_promise p.from p.from_boot p.epoch reach v) ok (on_promise_fine facts c me keeps past p.from p.from_boot p.epoch reach v.round v k.known);
        refuse = λ promised k ok. untried (now (on_refuse me links p.epoch promised v)) past links (on_refuse me links p.epoch promised v) ok (on_refuse_fine facts c me keeps past links p.epoch promised v.round v k.known);
        install = λ members k ok. untried (now (on_install c me p.from p.from_boot p.epoch members v)) past links (on_install c me p.from p.from_boot p.epoch members v) ok (on_install_fine facts c me keeps K past p.from p.from_boot p.epoch members v before k.known);
        joined = λ k ok. untried (now (on_joined p.from p.epoch v)) past links (on_joined p.from p.epoch v) ok (on_joined_fine facts c me keeps past p.from p.epoch v k.known);
        inside = λ y plain k ok. untried (now (takes_framed c me p v.epoch v)) past links (takes_framed c me p v.epoch v) ok (framed past p y v.epoch v refl plain k);
        pulled = λ y plain silent k ok. tried (now (takes_framed c me p v.epoch v)) past links (takes_framed c me p v.epoch v) (framed_notify c me p y v.epoch v k.body_is silent) ok (framed past p y v.epoch v refl plain k);
      }) x
    where
      now : Outcome SiteView → Deeds
      now o = Now K me o.told

      Q : Body → Outcome SiteView → (SiteView → Outcome SiteView) → Type 0
      Q y o tries = Comes past p y v → ViewOk (Now K me o.told) o.view → IsFine past (whole c me links o tries)

  -- ---- a tick ----

  inside_repeats : (past : List Told) (e : InEpoch) (v : SiteView) → v.epoch ≡ Some e → Knows past v → Every (PacketIn facts past) (repeats_inside (frame_in c me v.boot e) e v)
  inside_repeats past e v here h =
      every_append P (in_order (all_reports f v)) _ (order_sent P (all_reports f v) k.reports)
      (every_append P (users_repeats f v.users) _ k.users
      (every_append P (in_order (store_repeats f v.store)) _ (order_sent P (store_repeats f v.store) k.stores)
      (every_append P (in_order (pull_repeats f v.pulls)) _ (order_sent P (pull_repeats f v.pulls) k.pulls)
      (order_sent P (flat_map (sync_repeats f) v.tables) k.tables))))
    where
      f : Frame
      f = frame_in c me v.boot e

      P : Packet → Type 0
      P = PacketIn facts past

      k : Repeats facts past f v
      k = keeps.repeats past e v here h

  repeats_fine : (past : List Told) (o : Option InEpoch) (v : SiteView) → v.epoch ≡ o → Knows past v → Every (PacketIn facts past) (repeats_of c me o v)
  repeats_fine past None v here h = order_sent (PacketIn facts past) (poll_repeats me v v.round) (forming facts c me keeps past (poll_repeats me v v.round) (polls_form me v v.round))
  repeats_fine past (Some e) v here h =
      every_append (PacketIn facts past) (in_order (poll_repeats me v v.round ++ install_repeats me v e)) (repeats_inside (frame_in c me v.boot e) e v)
      (order_sent (PacketIn facts past) (poll_repeats me v v.round ++ install_repeats me v e) (every_append (PacketIn facts past) (poll_repeats me v v.round) (install_repeats me v e) (forming facts c me keeps past (poll_repeats me v v.round) (polls_form me v v.round))
      (forming facts c me keeps past (install_repeats me v e) (every_map (λ (p : Packet). IsOfForming p.body) (install_packet me v.boot e.id e.members) v.installs (λ t. tt)))))
      (inside_repeats past e v here h)

  ticks_fine : (K : Deeds) (past : List Told) (links : Links) (v : SiteView) → ViewOk K v → Knows past v → IsFine past (ticks_after c me links (adopts_in c me v))
  ticks_fine K past links v ok h =
      let a : Outcome SiteView = adopts_in c me v in
      let last : Outcome SiteView = ends_event c me links a.view in
      let again : List Packet = repeats c me a.view in
      let k : IsFine past a = adopts_fine facts c me keeps past v.epoch v refl h in
      let now : List Told = onto a.told past in
      let e : IsFine now last = ends_fine facts c me keeps K now links a.view (inner_view K v a (adopts_of_plain c me v.epoch v ok.tables) (adopts_of_inner c me v.epoch v refl) ok) k.view in
      let end : List Told = onto last.told now in
      let f : IsFine past (joined_to a last) = then_fine facts keeps.grows Knows Knows past a last k e (ends_none c me links a.view) in
      let all : Every (PacketIn facts end) (a.sent ++ (again ++ in_order last.sent)) = every_append (PacketIn facts end) a.sent (again ++ in_order last.sent) (packets_onto facts keeps.grows last.told now a.sent k.sent)
      (every_append (PacketIn facts end) again (in_order last.sent) (packets_onto facts keeps.grows last.told now again (repeats_fine now a.view.epoch a.view refl k.view)) (order_sent (PacketIn facts end) last.sent e.sent)) in
      record { view = f.view; sent = subst (λ (n : List Told). Every (PacketIn facts n) (a.sent ++ (again ++ in_order last.sent))) (sym (onto_append a.told last.told past)) all; told = f.told; written = f.written }

  -- ---- the step ----

  pub call_fine : (past : List Told) (process : ℕ) (words : Call) (v : SiteView) → Knows past v → IsFine past (takes_call c me process words v)
  call_fine past process words v h = keeps.calls past (call_frame c me v.boot v.epoch) (epoch_id v.epoch) process words v (record { site = call_site c me v.boot v.epoch; epoch = call_frame_of c me v.boot v.epoch }) h

  pub step_fine : (K J : Deeds) (past : List Told) (links : Links) (v : SiteView) (e : Event) → facts.assumes past → EventIn facts past me e → EventNames J e → ViewOk K v → Knows past v → IsFine past (step c me links v e)
  step_fine K J past links v (Calls process words) agree k n ok h =
      let o : Outcome SiteView = takes_call c me process words v in
      let f : EpochFine K me v o = inner_fine K me v o (record { boot = refl; round = refl; promised = refl; epoch = refl; tables = ok.tables; still = on_call_still (call_frame c me v.boot v.epoch) (epoch_id v.epoch) process words v.users }) (call_inner c me process words v) ok in
      untried (Now K me o.told) past links o f.view (call_fine past process words v h)
  step_fine K J past links v (Receives p) agree k n ok h =
      (elim (is_dropped p v) as (λ t. is_dropped p v ≡ t → IsFine past (elim t [ true ↦ quiet v | false ↦ whole c me links (takes c me links p p.body v) (tries_at c me p.body) ])) [
        | true ↦ λ d. quiet_fine facts me past v h
        | false ↦ λ d. (let f : EpochFine K me v (takes c me links p p.body v) = takes_fine K me c links p p.body v J ok n in received K past links p p.body v ok (record { body_is = refl; taken = d; assumed = agree; carried = k; known = h }) f.view)
      ]) refl
  step_fine K J past links v Ticks agree k n ok h = ticks_fine K past links v ok h
  step_fine K J past links v Parts agree k n ok h = let f : EpochFine K me v (starts_part me links v) = starts_part_fine K me links v.epoch v ok in untried (Now K me (starts_part me links v).told) past links (starts_part me links v) f.view (part_fine facts c me keeps past links v.epoch v h)
  step_fine K J past links v Merges agree k n ok h = let f : EpochFine K me v (starts_merge me links v) = begins_named K me links (v.promised.number + 1) (boots_where (merge_boot me links)) v ok (omega arith) in untried (Now K me (starts_merge me links v).told) past links (starts_merge me links v) f.view (begins_fine facts c me keeps past links (v.promised.number + 1) (boots_where (merge_boot me links)) v h)
  step_fine K J past links v GivesUp agree k n ok h = let f : EpochFine K me v (leaves me v) = leaves_of_fine K me v.epoch v refl ok in untried (Now K me (leaves me v).told) past links (leaves me v) f.view (leaves_fine facts c me keeps past v.epoch v h)
