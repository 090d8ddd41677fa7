-- What a site wants after the whole of an event.
use Rattle.std.proofs.Common.{◌≡◌, ℕ, ◌+◌, nat_lt, Bool, true, false, List, [], ◌∷◌, ◌++◌, Option, Some, None, refl, sym, ◌∙◌, subst, inl, inr}
use Rattle.std.specs.List.{flat_map}
use Rattle.locus_ids.specs.declared.config.Config.{Config}
use Rattle.locus_ids.specs.declared.sites.Links.{Links}
use Rattle.trace_book.specs.declared.call.Call.{Call}
use Rattle.wire_messages.specs.Bodies.{kind_number}
use Rattle.wire_messages.specs.declared.body.Body.{Body}
use Rattle.wire_messages.specs.declared.body.Body.TheVariants as body
use Rattle.wire_messages.specs.declared.packet.Packet.{Packet}
use Rattle.role_steps.specs.Adoption.{adopts, adopts_first, adopts_pull, fits_own, is_ready, without_pull}
use Rattle.role_steps.specs.Epochs.{all_reports, frame_in, install_repeats, leaves, poll_repeats, starts_part, starts_merge, boots_where, merge_boot}
use Rattle.role_steps.specs.Own.{Every}
use Rattle.role_steps.specs.Pulling.{pages_in, pull_key, pull_of, pull_packets, pull_repeats}
use Rattle.role_steps.specs.Reports.{sync_repeats}
use Rattle.role_steps.specs.Requests.{users_repeats}
use Rattle.role_steps.specs.Storage.{copy_of, store_repeats}
use Rattle.role_steps.specs.Views.{Frame, SiteView, Told, DiskWrite, Outcome, Event, Calls, Receives, Ticks, Parts, Merges, GivesUp, quiet}
use Rattle.role_steps.specs.declared.pulls.Pull.{Pull}
use Rattle.role_steps.specs.declared.rounds.InEpoch.{InEpoch}
use Rattle.role_steps.specs.declared.synchronizing.SyncTable.{SyncTable}
use Rattle.role_steps.proofs.Sending.{every_append, every_flat_map}
use Rattle.the_run.specs.Kept.{Among}
use Rattle.the_run.specs.Steps.{adopts_in, adopts_of, call_frame, ends_event, epoch_id, in_order, is_dropped, repeats, repeats_inside, repeats_of, step, takes, takes_call, takes_framed, takes_inside, ticks_after, tries_at, whole}
use Rattle.the_run.specs.Worlds.{Line, told_onto}
use Rattle.the_run.proofs.StepSends.{order_sent}
use Rattle.row_laws.proofs.of_site_laws.Locks.StepFacts.{SiteSilent, notify_silent, page_silent, delta_silent, framed_notify}
use Rattle.row_laws.proofs.of_run_laws.Walks.RoleWalks.{on_call_walk, users_repeats_walk}
use Rattle.row_laws.proofs.of_run_laws.Walks.SyncWalks.{sync_repeats_walk}
use Rattle.tree_laws.specs.Doing.{IsAdopted, NoWrite, PullsFact, WriteFact, Fine}
use Rattle.tree_laws.specs.Packets.{PacketFact}
use Rattle.tree_laws.specs.Stores.{Ascends}
use Rattle.store_laws.specs.OneTree.Places.{InsideFact, SiteFact, SiteFine, SiteIn}
use Rattle.store_laws.specs.OneTree.Rest.{AllRest, Past}
use Rattle.store_laws.specs.OneTree.Roles.{EventFact, RolesDo}
use Rattle.store_laws.specs.OneTree.Wants.{Arrives, IsTidy}
use Rattle.store_laws.proofs.OneTree.Composing.{packets_onto, past_onto, rest_first, rest_last}
use Rattle.store_laws.proofs.OneTree.Forming.{adopts_fine, adopts_stand, begins_fine, ends_fine, on_install_fine, on_joined_fine, on_poll_fine, on_promise_fine, on_refuse_fine, site_inside, starts_part_fine}
use Rattle.store_laws.proofs.OneTree.Inside.{Stands as Standing}
use Rattle.store_laws.proofs.OneTree.Leaving.{Gone, gone_site, leaves_fine}
use Rattle.store_laws.proofs.OneTree.Repeats.{repeats_fine}
use Rattle.store_laws.proofs.OneTree.Staying.{Stays}
use Rattle.store_laws.proofs.OneTree.Steps.{DoesWith, called, every_first, every_last, framed, to_boot, whole_first}
use Rattle.store_laws.proofs.OneTree.Taken.{taken_boot, taken_epoch}
use Rattle.store_laws.proofs.OneTree.WantsAdopted.{adopts_rise, adopts_wants, found_among}
use Rattle.store_laws.proofs.OneTree.WantsInside.{inside_wants, pulls_so}
use Rattle.store_laws.proofs.OneTree.WantsParts.{PartWants, SentSo, plain_so, plain_wants, then_wants}
use Rattle.store_laws.proofs.OneTree.WantsSites.{IsPlainPart, PlainSent, begins_part, ends_part, install_part, installs_again_plain, joined_part, leaves_part, of_plain, plain_law, poll_part, polls_again_plain, promise_part, quiet_part, refuse_part, reports_plain, starts_part_part, tables_plain, users_plain}
use Rattle.store_laws.proofs.OneTree.WantsStores.{plain_sync, store_repeats_sent}

abbrev pub OutcomeWants : Config → ℕ → List Line → ℕ → SiteView → Option Packet → Outcome SiteView → Type 0
OutcomeWants c n trace me v came o = PartWants c n trace me v o.view o.told came o.sent

-- ---- an adoption ----

first_plain : (f : Frame) (ps : List Pull) (v : SiteView) → Every PlainSent (adopts_first f ps v).sent
first_plain f [] v = tt
first_plain f (p ∷ ps) v = over (is_ready v p) (first_plain f ps v) (first_plain f ps (without_pull p v))
  where
    takes : (b : Bool) → Every PlainSent (adopts_first f ps (without_pull p v)).sent → Every PlainSent (elim b as (λ (z : Bool). Outcome SiteView) [ true ↦ adopts_pull f p v | false ↦ adopts_first f ps (without_pull p v) ]).sent
    takes true without = plain_sync PlainSent f (of_plain f) p.file.group _ tt
    takes false without = without

    over : (b : Bool) → Every PlainSent (adopts_first f ps v).sent → Every PlainSent (adopts_first f ps (without_pull p v)).sent →
        Every PlainSent (elim b as (λ (z : Bool). Outcome SiteView) [ true ↦ elim (fits_own p (copy_of v.store p.file)) [ true ↦ adopts_pull f p v | false ↦ adopts_first f ps (without_pull p v) ] | false ↦ adopts_first f ps v ]).sent
    over true later without = takes (fits_own p (copy_of v.store p.file)) without
    over false later without = later

adopted_part : (c : Config) → RolesDo c → (n me : ℕ) (trace : List Line) (e : Option InEpoch) (v : SiteView) (came : Option Packet) → Past c trace → v.epoch ≡ e → SiteFact c me trace v → Ascends pull_key v.pulls → AllRest c n trace (adopts_of c me e v).told → OutcomeWants c n trace me v came (adopts_of c me e v)
adopted_part c roles n me trace None v came past here h rises rest = plain_wants c n trace me v (quiet v) came past tt tt (quiet_part me v)
adopted_part c roles n me trace (Some e) v came past here h rises rest =
    let f : Frame = frame_in c me v.boot e in
    let inside : InsideFact c f trace v = site_inside c me trace v e here h in
    let s : Standing v (adopts f v) = adopts_stand f v.pulls v in
    let k : Fine SiteView c n trace (IsAdopted f.me) (InsideFact c f) (WriteFact c n trace f.me v.store) (adopts f v) = roles.pulls.adopts n trace f v (record { past = past; frame = inside.frame }) inside rest in
    record {
      stays = λ at g wanted own stands joined w x now is. adopts_wants c n trace past (roles.stores.narrow trace past) f g wanted own stands v inside.store.copies rises inside.pulls k.told rest (w x (sym s.epoch ∙ now) is);
      rises = adopts_rise f v;
      asks = plain_so c (told_onto n (adopts f v).told trace) me (adopts f v).view came (adopts f v).sent (first_plain f v.pulls v);
    }

-- ---- where no adoption is tried ----

untried_wants : (c : Config) → RolesDo c → Stays c → (n me : ℕ) (links : Links) (trace : List Line) (came : Option Packet) (v : SiteView) (W : DiskWrite → Type 0) (o : Outcome SiteView) → Past c trace → DoesWith c n trace me W o → OutcomeWants c n trace me v came o → AllRest c n trace (whole c me links o quiet).told → OutcomeWants c n trace me v came (whole c me links o quiet)
untried_wants c roles stays n me links trace came v W o past a w rest =
    let last : Outcome SiteView = ends_event c me links o.view in
    let mid : List Line = told_onto n o.told trace in
    let past_mid : Past c mid = past_onto c n o.told trace past a.told (rest_first c n o.told last.told trace rest) in
    let rest_mid : AllRest c n mid last.told = rest_last c n o.told last.told trace rest in
    let l : DoesWith c n mid me NoWrite last = ends_fine c roles stays n me links mid o.view past_mid a.view rest_mid in
    let k : PartWants c n trace me v last.view (o.told ++ last.told) came (o.sent ++ last.sent) = then_wants c n trace me v o.view last.view o.told last.told came o.sent last.sent past_mid l.told rest_mid a.sent w
    (plain_wants c n mid me o.view last came past_mid l.told rest_mid (ends_part c me links o.view)) in
    record { stays = k.stays; rises = k.rises; asks = order_sent (SentSo c (told_onto n (o.told ++ last.told) trace) me last.view came) (o.sent ++ last.sent) k.asks }

-- ---- what tells and writes nothing, and then an adoption ----

still_wants : (c : Config) → RolesDo c → Stays c → (n me : ℕ) (links : Links) (trace : List Line) (came : Option Packet) (v view : SiteView) (sent : List Packet) → Past c trace → SiteFact c me trace view → Every (PacketFact c trace) sent → Ascends pull_key view.pulls → PartWants c n trace me v view [] came sent →
    AllRest c n trace (whole c me links (record { view = view; sent = sent; told = []; written = None }) (adopts_in c me)).told → OutcomeWants c n trace me v came (whole c me links (record { view = view; sent = sent; told = []; written = None }) (adopts_in c me))
still_wants c roles stays n me links trace came v view sent past h facts rises w rest =
    let a : Outcome SiteView = adopts_in c me view in
    let last : Outcome SiteView = ends_event c me links a.view in
    let mid : List Line = told_onto n a.told trace in
    let Q : Packet → Type 0 = SentSo c (told_onto n (a.told ++ last.told) trace) me last.view came in
    let rest_a : AllRest c n trace a.told = rest_first c n a.told last.told trace rest in
    let rest_mid : AllRest c n mid last.told = rest_last c n a.told last.told trace rest in
    let af : DoesWith c n trace me (WriteFact c n trace me view.store) a = adopts_fine c roles n me trace view.epoch view past refl h rest_a in
    let past_mid : Past c mid = past_onto c n a.told trace past af.told rest_a in
    let l : DoesWith c n mid me NoWrite last = ends_fine c roles stays n me links mid a.view past_mid af.view rest_mid in
    let one : PartWants c n trace me v a.view a.told came (sent ++ a.sent) = then_wants c n trace me v view a.view [] a.told came sent a.sent past af.told rest_a facts w (adopted_part c roles n me trace view.epoch view came past refl h rises rest_a) in
    let both : Every (PacketFact c mid) (sent ++ a.sent) = every_append (PacketFact c mid) sent a.sent (packets_onto c n a.told trace stays past af.told rest_a sent facts) af.sent in
    let k : PartWants c n trace me v last.view (a.told ++ last.told) came ((sent ++ a.sent) ++ last.sent) = then_wants c n trace me v a.view last.view a.told last.told came (sent ++ a.sent) last.sent past_mid l.told rest_mid both one
    (plain_wants c n mid me a.view last came past_mid l.told rest_mid (ends_part c me links a.view)) in
    let front : Every Q (sent ++ a.sent) = every_first Q (sent ++ a.sent) last.sent k.asks in
    record {
      stays = k.stays;
      rises = k.rises;
      asks = every_append Q a.sent (in_order (sent ++ last.sent)) (every_last Q sent a.sent front)
          (order_sent Q (sent ++ last.sent) (every_append Q sent last.sent (every_first Q sent a.sent front) (every_last Q (sent ++ a.sent) last.sent k.asks)));
    }

tried_wants : (c : Config) → RolesDo c → Stays c → (n me : ℕ) (links : Links) (trace : List Line) (came : Option Packet) (v : SiteView) (W : DiskWrite → Type 0) (o : Outcome SiteView) → Past c trace → SiteSilent o → DoesWith c n trace me W o → Ascends pull_key o.view.pulls → OutcomeWants c n trace me v came o →
    AllRest c n trace (whole c me links o (adopts_in c me)).told → OutcomeWants c n trace me v came (whole c me links o (adopts_in c me))
tried_wants c roles stays n me links trace came v W o past silent a rises w rest =
    subst (λ (x : Outcome SiteView). AllRest c n trace (whole c me links x (adopts_in c me)).told → OutcomeWants c n trace me v came (whole c me links x (adopts_in c me))) (sym still)
    (still_wants c roles stays n me links trace came v o.view o.sent past view sent rises part) rest
  where
    still : o ≡ record { view = o.view; sent = o.sent; told = []; written = None }
    still = λ i. record { view = o.view; sent = o.sent; told = silent.0 i; written = silent.1 i }

    view : SiteFact c me trace o.view
    view = subst (λ (told : List Told). SiteFact c me (told_onto n told trace) o.view) silent.0 a.view

    sent : Every (PacketFact c trace) o.sent
    sent = subst (λ (told : List Told). Every (PacketFact c (told_onto n told trace)) o.sent) silent.0 a.sent

    part : PartWants c n trace me v o.view [] came o.sent
    part = subst (λ (told : List Told). PartWants c n trace me v o.view told came o.sent) silent.0 w

-- ---- a tick ----

pulls_again : (c : Config) (trace : List Line) (f : Frame) (v : SiteView) → Ascends pull_key v.pulls → (ps : List Pull) → ((p : Pull) → Among p ps → Among p v.pulls) → PullsFact c f trace ps → Every (SentSo c trace f.me v None) (flat_map (pull_packets f) ps)
pulls_again c trace f v rises [] m h = tt
pulls_again c trace f v rises (p ∷ ps) m h = every_append (SentSo c trace f.me v None) (pull_packets f p) (flat_map (pull_packets f) ps) (pulls_so c trace f v None p h.0 (found_among p v.pulls rises (m p (inl refl)))) (pulls_again c trace f v rises ps (λ q k. m q (inr k)) h.1)

repeats_so : (c : Config) (me : ℕ) (trace : List Line) (e : Option InEpoch) (v : SiteView) → v.epoch ≡ e → SiteFact c me trace v → Ascends pull_key v.pulls → Every (SentSo c trace me v None) (repeats_of c me e v)
repeats_so c me trace None v here h rises = plain_so c trace me v None (in_order (poll_repeats me v v.round)) (order_sent PlainSent (poll_repeats me v v.round) (polls_again_plain me v v.round))
repeats_so c me trace (Some e) v here h rises =
    let f : Frame = frame_in c me v.boot e in
    let Q : Packet → Type 0 = SentSo c trace me v None in
    let inside : InsideFact c f trace v = site_inside c me trace v e here h in
    every_append Q (in_order (poll_repeats me v v.round ++ install_repeats me v e)) (repeats_inside f e v)
    (plain_so c trace me v None (in_order (poll_repeats me v v.round ++ install_repeats me v e)) (order_sent PlainSent (poll_repeats me v v.round ++ install_repeats me v e) (every_append PlainSent (poll_repeats me v v.round) (install_repeats me v e) (polls_again_plain me v v.round) (installs_again_plain me v e))))
    (every_append Q (in_order (all_reports f v)) _ (plain_so c trace me v None (in_order (all_reports f v)) (order_sent PlainSent (all_reports f v) (reports_plain f v)))
    (every_append Q (users_repeats f v.users) _ (plain_so c trace me v None (users_repeats f v.users) (users_repeats_walk plain_law f (users_plain f) v.users))
    (every_append Q (in_order (store_repeats f v.store)) _ (plain_so c trace me v None (in_order (store_repeats f v.store)) (order_sent PlainSent (store_repeats f v.store) (store_repeats_sent PlainSent f (of_plain f) v.store)))
    (every_append Q (in_order (pull_repeats f v.pulls)) (in_order (flat_map (sync_repeats f) v.tables)) (order_sent Q (pull_repeats f v.pulls) (pulls_again c trace f v rises v.pulls (λ p m. m) inside.pulls))
    (plain_so c trace me v None (in_order (flat_map (sync_repeats f) v.tables)) (order_sent PlainSent (flat_map (sync_repeats f) v.tables) (every_flat_map PlainSent (sync_repeats f) v.tables (λ (t : SyncTable). sync_repeats_walk plain_law f (tables_plain f) t))))))))

ticks_wants : (c : Config) → RolesDo c → Stays c → (n me : ℕ) (links : Links) (trace : List Line) (v : SiteView) → Past c trace → SiteFact c me trace v → Ascends pull_key v.pulls → AllRest c n trace (ticks_after c me links (adopts_in c me v)).told → OutcomeWants c n trace me v None (ticks_after c me links (adopts_in c me v))
ticks_wants c roles stays n me links trace v past h rises rest =
    let a : Outcome SiteView = adopts_in c me v in
    let last : Outcome SiteView = ends_event c me links a.view in
    let mid : List Line = told_onto n a.told trace in
    let again : List Packet = repeats c me a.view in
    let Q : Packet → Type 0 = SentSo c (told_onto n (a.told ++ last.told) trace) me last.view None in
    let rest_a : AllRest c n trace a.told = rest_first c n a.told last.told trace rest in
    let rest_mid : AllRest c n mid last.told = rest_last c n a.told last.told trace rest in
    let af : DoesWith c n trace me (WriteFact c n trace me v.store) a = adopts_fine c roles n me trace v.epoch v past refl h rest_a in
    let past_mid : Past c mid = past_onto c n a.told trace past af.told rest_a in
    let l : DoesWith c n mid me NoWrite last = ends_fine c roles stays n me links mid a.view past_mid af.view rest_mid in
    let one : OutcomeWants c n trace me v None a = adopted_part c roles n me trace v.epoch v None past refl h rises rest_a in
    let two : PartWants c n trace me v a.view a.told None (a.sent ++ again) = record { stays = one.stays; rises = one.rises; asks = every_append (SentSo c mid me a.view None) a.sent again one.asks (repeats_so c me mid a.view.epoch a.view refl af.view (one.rises rises)) } in
    let both : Every (PacketFact c mid) (a.sent ++ again) = every_append (PacketFact c mid) a.sent again af.sent (repeats_fine c roles mid me a.view past_mid af.view) in
    let k : PartWants c n trace me v last.view (a.told ++ last.told) None ((a.sent ++ again) ++ last.sent) = then_wants c n trace me v a.view last.view a.told last.told None (a.sent ++ again) last.sent past_mid l.told rest_mid both two
    (plain_wants c n mid me a.view last None past_mid l.told rest_mid (ends_part c me links a.view)) in
    let front : Every Q (a.sent ++ again) = every_first Q (a.sent ++ again) last.sent k.asks in
    record {
      stays = k.stays;
      rises = k.rises;
      asks = every_append Q a.sent (again ++ in_order last.sent) (every_first Q a.sent again front)
          (every_append Q again (in_order last.sent) (every_last Q a.sent again front) (order_sent Q last.sent (every_last Q (a.sent ++ again) last.sent k.asks)));
    }

-- ---- a packet ----

framed_wants : (c : Config) → RolesDo c → (n : ℕ) (trace : List Line) (p : Packet) (x : Body) (e : Option InEpoch) (v : SiteView) → p.body ≡ x → nat_lt (kind_number x) 6 ≡ false → is_dropped p v ≡ false → Past c trace → v.epoch ≡ e → SiteIn c p.to trace v e → IsTidy v → Arrives c trace p v → (W : DiskWrite → Type 0) → DoesWith c n trace p.to W (takes_framed c p.to p e v) →
    AllRest c n trace (takes_framed c p.to p e v).told → OutcomeWants c n trace p.to v (Some p) (takes_framed c p.to p e v)
framed_wants c roles n trace p x None v q inside d past here h tidy fact W a rest = plain_wants c n trace p.to v (quiet v) (Some p) past tt tt (quiet_part p.to v)
framed_wants c roles n trace p x (Some e) v q inside d past here h tidy fact W a rest =
    inside_wants c roles n trace (frame_in c p.to v.boot e) p v (record { past = past; frame = h.frame }) h tidy
    (record { to_is = refl; to_boot_is = to_boot p v d; epoch_is = taken_epoch p x v e q inside d here; from_boot_is = taken_boot p x v e q inside d here }) p.body refl fact.fact (fact.deltas e here (sym (taken_epoch p x v e q inside d here))) a.told rest

abbrev Received : Config → ℕ → List Line → Links → Packet → Body → SiteView → Type 0
Received c n trace links p x v = AllRest c n trace (whole c p.to links (takes c p.to links p x v) (tries_at c p.to x)).told → OutcomeWants c n trace p.to v (Some p) (whole c p.to links (takes c p.to links p x v) (tries_at c p.to x))

formed : (c : Config) → RolesDo c → Stays c → (n : ℕ) (trace : List Line) (links : Links) (p : Packet) (v : SiteView) (o : Outcome SiteView) → Past c trace → (AllRest c n trace o.told → DoesWith c n trace p.to NoWrite o) → IsPlainPart p.to v o → AllRest c n trace (whole c p.to links o quiet).told → OutcomeWants c n trace p.to v (Some p) (whole c p.to links o quiet)
formed c roles stays n trace links p v o past a k rest =
    let first : AllRest c n trace o.told = whole_first c n p.to links trace o rest in
    untried_wants c roles stays n p.to links trace (Some p) v NoWrite o past (a first) (plain_wants c n trace p.to v o (Some p) past (a first).told first k) rest

came : (c : Config) → RolesDo c → Stays c → (n : ℕ) (trace : List Line) (links : Links) (p : Packet) (x : Body) (v : SiteView) → p.body ≡ x → nat_lt (kind_number x) 6 ≡ false → is_dropped p v ≡ false → Past c trace → SiteFact c p.to trace v → IsTidy v → Arrives c trace p v →
    AllRest c n trace (whole c p.to links (takes_framed c p.to p v.epoch v) quiet).told → OutcomeWants c n trace p.to v (Some p) (whole c p.to links (takes_framed c p.to p v.epoch v) quiet)
came c roles stays n trace links p x v q inside d past h tidy fact rest =
    let o : Outcome SiteView = takes_framed c p.to p v.epoch v in
    let first : AllRest c n trace o.told = whole_first c n p.to links trace o rest in
    let a : DoesWith c n trace p.to (WriteFact c n trace p.to v.store) o = framed c roles n trace p x v.epoch v q inside d past refl h fact first in
    untried_wants c roles stays n p.to links trace (Some p) v (WriteFact c n trace p.to v.store) o past a (framed_wants c roles n trace p x v.epoch v q inside d past refl h tidy fact (WriteFact c n trace p.to v.store) a first) rest

came_tried : (c : Config) → RolesDo c → Stays c → (n : ℕ) (trace : List Line) (links : Links) (p : Packet) (x : Body) (v : SiteView) → p.body ≡ x → nat_lt (kind_number x) 6 ≡ false → is_dropped p v ≡ false → ((f : Frame) → SiteSilent (takes_inside f p.from x v)) → Past c trace → SiteFact c p.to trace v → IsTidy v → Arrives c trace p v →
    AllRest c n trace (whole c p.to links (takes_framed c p.to p v.epoch v) (adopts_in c p.to)).told → OutcomeWants c n trace p.to v (Some p) (whole c p.to links (takes_framed c p.to p v.epoch v) (adopts_in c p.to))
came_tried c roles stays n trace links p x v q inside d silent past h tidy fact rest =
    let o : Outcome SiteView = takes_framed c p.to p v.epoch v in
    let s : SiteSilent o = framed_notify c p.to p x v.epoch v q silent in
    let none : AllRest c n trace o.told = subst (AllRest c n trace) (sym s.0) tt in
    let a : DoesWith c n trace p.to (WriteFact c n trace p.to v.store) o = framed c roles n trace p x v.epoch v q inside d past refl h fact none in
    let w : OutcomeWants c n trace p.to v (Some p) o = framed_wants c roles n trace p x v.epoch v q inside d past refl h tidy fact (WriteFact c n trace p.to v.store) a none in
    tried_wants c roles stays n p.to links trace (Some p) v (WriteFact c n trace p.to v.store) o past s a (w.rises tidy.ascends) w rest

received : (c : Config) → RolesDo c → Stays c → (n : ℕ) (trace : List Line) (links : Links) (p : Packet) (x : Body) (v : SiteView) → p.body ≡ x → is_dropped p v ≡ false → Past c trace → SiteFact c p.to trace v → IsTidy v → Arrives c trace p v → Received c n trace links p x v
received c roles stays n trace links p body.Poll v q d past h tidy fact = formed c roles stays n trace links p v _ past (on_poll_fine c roles stays n p.to links p.from p.from_boot p.epoch trace v past h) (poll_part p.to links p.from p.from_boot p.epoch v)
received c roles stays n trace links p (body.Promise reach) v q d past h tidy fact = formed c roles stays n trace links p v _ past (λ r. on_promise_fine c n p.to p.from p.from_boot p.epoch reach trace v.round v h) (promise_part p.to p.from p.from_boot p.epoch reach v.round v)
received c roles stays n trace links p (body.Refuse promised) v q d past h tidy fact = formed c roles stays n trace links p v _ past (on_refuse_fine c roles stays n p.to links p.epoch promised trace v.round v past h) (refuse_part p.to links p.epoch promised v.round v)
received c roles stays n trace links p (body.Install members) v q d past h tidy fact = formed c roles stays n trace links p v _ past (on_install_fine c roles stays n p.to p.from p.from_boot p.epoch members trace v past h) (install_part c p.to p.from p.from_boot p.epoch members v)
received c roles stays n trace links p body.Joined v q d past h tidy fact = formed c roles stays n trace links p v _ past (λ r. on_joined_fine c n p.to p.from p.epoch trace v h) (joined_part p.to p.from p.epoch v)
received c roles stays n trace links p (body.Notify file kind set size stamp vector holder) v q d past h tidy fact =
    came_tried c roles stays n trace links p (body.Notify file kind set size stamp vector holder) v q refl d
    (λ f. notify_silent f p.from (copy_of v.store file) (record { file = file; kind = kind; set = set; size = size; stamp = stamp; vector = vector; holder = holder; base = None; wanted = None; content = [] }) v.pulls) past h tidy fact
received c roles stays n trace links p (body.Page file stamp page bytes) v q d past h tidy fact = came_tried c roles stays n trace links p (body.Page file stamp page bytes) v q refl d (λ f. page_silent f stamp page bytes (pull_of v.pulls file) v.pulls) past h tidy fact
received c roles stays n trace links p (body.Delta file wanted pages) v q d past h tidy fact = came_tried c roles stays n trace links p (body.Delta file wanted pages) v q refl d (λ f. delta_silent f (pages_in (copy_of v.store file)) wanted pages (pull_of v.pulls file) v.pulls) past h tidy fact
received c roles stays n trace links p x v q d past h tidy fact = came c roles stays n trace links p x v q refl d past h tidy fact

-- ---- every event ----

-- the packet that has come
abbrev pub came_of : Event → Option Packet
came_of (Receives p) = Some p
came_of _ = None

takes_packet : (c : Config) → RolesDo c → Stays c → (n : ℕ) (links : Links) (trace : List Line) (v : SiteView) (p : Packet) → Past c trace → SiteFact c p.to trace v → IsTidy v → Arrives c trace p v → AllRest c n trace (step c p.to links v (Receives p)).told → OutcomeWants c n trace p.to v (Some p) (step c p.to links v (Receives p))
takes_packet c roles stays n links trace v p past h tidy fact rest = over (is_dropped p v) refl rest
  where
    over : (b : Bool) → is_dropped p v ≡ b → AllRest c n trace (elim b as (λ (x : Bool). Outcome SiteView) [ true ↦ quiet v | false ↦ whole c p.to links (takes c p.to links p p.body v) (tries_at c p.to p.body) ]).told → OutcomeWants c n trace p.to v (Some p) (elim b as (λ (x : Bool). Outcome SiteView) [ true ↦ quiet v | false ↦ whole c p.to links (takes c p.to links p p.body v) (tries_at c p.to p.body) ])
    over true e r = plain_wants c n trace p.to v (quiet v) (Some p) past tt tt (quiet_part p.to v)
    over false e r = received c roles stays n trace links p p.body v refl e past h tidy fact r

call_part : (c : Config) (me process : ℕ) (words : Call) (v : SiteView) → IsPlainPart me v (takes_call c me process words v)
call_part c me process words v = record {
  sent = (on_call_walk plain_law (call_frame c me v.boot v.epoch) (users_plain (call_frame c me v.boot v.epoch)) (epoch_id v.epoch) process words v.users (λ n. tt)).0;
  told = (on_call_walk plain_law (call_frame c me v.boot v.epoch) (users_plain (call_frame c me v.boot v.epoch)) (epoch_id v.epoch) process words v.users (λ n. tt)).1;
  goes = inl (refl, refl);
  ascends = λ k. k;
}

pub step_wants : (c : Config) → RolesDo c → Stays c → (n me : ℕ) (links : Links) (trace : List Line) (v : SiteView) (e : Event) → Past c trace → SiteFact c me trace v → IsTidy v → EventFact c trace me v e → AllRest c n trace (step c me links v e).told → OutcomeWants c n trace me v (came_of e) (step c me links v e)
step_wants c roles stays n me links trace v (Calls process words) past h tidy fact rest =
    let o : Outcome SiteView = takes_call c me process words v in
    let first : AllRest c n trace o.told = whole_first c n me links trace o rest in
    let a : DoesWith c n trace me NoWrite o = called c roles n me process words trace v.epoch v past refl h fact first in
    untried_wants c roles stays n me links trace None v NoWrite o past a (plain_wants c n trace me v o None past a.told first (call_part c me process words v)) rest
step_wants c roles stays n me links trace v (Receives p) past h tidy fact rest =
    subst (λ (s : ℕ). SiteFact c s trace v → AllRest c n trace (step c s links v (Receives p)).told → OutcomeWants c n trace s v (Some p) (step c s links v (Receives p))) fact.0 (λ g r. takes_packet c roles stays n links trace v p past g tidy fact.1 r) h rest
step_wants c roles stays n me links trace v Ticks past h tidy fact rest = ticks_wants c roles stays n me links trace v past h tidy.ascends rest
step_wants c roles stays n me links trace v Parts past h tidy fact rest =
    let o : Outcome SiteView = starts_part me links v in
    let first : AllRest c n trace o.told = whole_first c n me links trace o rest in
    let a : DoesWith c n trace me NoWrite o = starts_part_fine c roles stays n me links trace v.epoch v past h first in
    untried_wants c roles stays n me links trace None v NoWrite o past a (plain_wants c n trace me v o None past a.told first (starts_part_part me links v)) rest
step_wants c roles stays n me links trace v Merges past h tidy fact rest =
    let o : Outcome SiteView = starts_merge me links v in
    let first : AllRest c n trace o.told = whole_first c n me links trace o rest in
    let a : DoesWith c n trace me NoWrite o = begins_fine c roles stays n me links (v.promised.number + 1) (boots_where (merge_boot me links)) trace v past h first in
    untried_wants c roles stays n me links trace None v NoWrite o past a (plain_wants c n trace me v o None past a.told first (begins_part me links (v.promised.number + 1) (boots_where (merge_boot me links)) v)) rest
step_wants c roles stays n me links trace v GivesUp past h tidy fact rest =
    let o : Outcome SiteView = leaves me v in
    let first : AllRest c n trace o.told = whole_first c n me links trace o rest in
    let g : SiteFine c n trace me (Gone c me) NoWrite o = leaves_fine c roles stays n me trace v past h first in
    let a : DoesWith c n trace me NoWrite o = record { told = g.told; own = g.own; view = gone_site c me (told_onto n o.told trace) o.view g.view; sent = g.sent; written = g.written } in
    untried_wants c roles stays n me links trace None v NoWrite o past a (plain_wants c n trace me v o None past a.told first (leaves_part me v)) rest
