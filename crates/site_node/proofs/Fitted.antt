-- An event that finds what it needs isn't refused as unfit.
use Rattle.std.proofs.Common.{◌≡◌, ◌⊎◌, ◌≤◌, ◌<◌, ◌-◌, ℕ, Bool, true, false, cond, List, [], ◌∷◌, ◌++◌, length, Option, None, Some, refl, sym, ap, ◌∙◌, subst, inl, inr, ⊎_elim, arith}
use Rattle.std.specs.Prelude.{Result, Ok, Err, IsErrAnd}
use Rattle.std.specs.List.{AllByRecursion, flat_map}
use Rattle.disk_model.specs.Disk.{Moment}
use Rattle.locus_ids.specs.declared.config.Config.{Config}
use Rattle.locus_ids.specs.declared.sites.Links.{Links}
use Rattle.file_content.specs.Pages.{pages_of}
use Rattle.stored_versions.specs.declared.new_version.NewVersion.{NewVersion}
use Rattle.wire_messages.specs.Outboxes.{Outgoing}
use Rattle.packet_order.specs.Counts.{FitsIfCounted}
use Rattle.wire_messages.specs.declared.packet.Packet.{Packet}
use Rattle.site_parts.specs.of_using_site.Steps.{Gives}
use Rattle.role_steps.specs.Adoption.{is_ready}
use Rattle.role_steps.specs.Epochs.{all_reports, frame_in, passes_over}
use Rattle.role_steps.specs.Pulling.{pull_key, pull_repeats}
use Rattle.role_steps.specs.Reports.{sync_repeats}
use Rattle.role_steps.specs.Requests.{users_repeats}
use Rattle.role_steps.specs.Storage.{store_repeats}
use Rattle.role_steps.specs.Tables.{put_before, sorted_onto, without_row}
use Rattle.role_steps.specs.Views.{Frame, Outcome, Receives, SiteView, Ticks, quiet}
use Rattle.role_steps.specs.declared.pulls.Pull.{Pull}
use Rattle.role_steps.specs.declared.rounds.InEpoch.{InEpoch}
use Rattle.the_run.specs.Kept.{Among}
use Rattle.the_run.specs.Steps.{adopts_in, ended, ends_event, in_order, is_before, is_dropped, repeats, repeats_inside, repeats_of, step, takes, tries_at, whole}
use Rattle.packet_order.specs.declared.fault.OrderFault.{OrderFault}
use Rattle.packet_order.specs.declared.fault.OrderFault.TheVariants as order
use Rattle.site_parts.specs.of_site_mends.declared.fault.MendFault.{MendFault}
use Rattle.site_parts.specs.of_site_mends.declared.fault.MendFault.TheVariants as mend
use Rattle.site_packs.specs.Committing.{IsWholeFit}
use Rattle.site_packs.specs.Packs.{AreShown, PacksState, groups_of}
use Rattle.site_packs.specs.declared.faults.CommitFault.{CommitFault}
use Rattle.site_packs.specs.declared.faults.CommitFault.TheVariants as commit
use Rattle.site_packs.specs.declared.faults.WriteSize.{WriteSize}
use Rattle.merge_protocol.specs.declared.errors.EpochError.{EpochError}
use Rattle.merge_protocol.specs.declared.errors.EpochError.TheVariants as epoch
use Rattle.propagation.specs.Choosing.{chooses}
use Rattle.site_parts.specs.Faults.{fault_of_commit, fault_of_epoch, fault_of_mend, fault_of_order}
use Rattle.site_parts.specs.declared.fault.NodeFault.{NodeFault}
use Rattle.site_parts.specs.declared.fault.NodeFault.TheVariants.{NoMemory, Disk, Cut, NoNumber, Unfit}
use Rattle.site_node.specs.Adopting.{choice_at, fits_own_in}
use Rattle.site_node.specs.Fitting.{CanKeep, HasInodes}
use Rattle.site_node.specs.Repeats.{forming_repeats, installs_again}
use Rattle.site_node.specs.Taking.{taken}
use Rattle.site_node.specs.Views.{Moves, view_of}
use Rattle.site_node.specs.declared.node.SiteNode.{SiteNode}
use Rattle.site_node.proofs.Endings.{is_empty, own_packets}
use Rattle.site_node.proofs.Receives.{by_drop}

-- ---- which faults are it ----

is_fault : {T : Type 0} (e f : NodeFault) → ◌≡◌ {A = Result T NodeFault} (Err e) (Err f) → e ≡ f
is_fault e f is = cc

memory_unfit : NoMemory ≡ Unfit → ⊥
memory_unfit e = cc

disk_unfit : Disk ≡ Unfit → ⊥
disk_unfit e = cc

cut_unfit : (size : WriteSize) → Cut size ≡ Unfit → ⊥
cut_unfit size e = cc

number_unfit : NoNumber ≡ Unfit → ⊥
number_unfit e = cc

-- a fault that a part hands on is none, or is that of the part
pub fault_at : {T : Type 0} (P : Type 0) (r : Result T NodeFault) (e : NodeFault) → IsErrAnd r (λ f. f ≡ e) → (e ≡ Unfit → P → ⊥) → r ≡ Err Unfit → P → ⊥
fault_at P (Ok x) e h unfit so = absurd h
fault_at P (Err f) e h unfit so = unfit (sym h ∙ is_fault f Unfit so)

pub epoch_fit : (e : EpochError) → fault_of_epoch e ≡ Unfit → ⊥
epoch_fit epoch.NoMemory h = memory_unfit h
epoch_fit epoch.NoNumber h = number_unfit h

pub order_unfit : {S : Type 0} (P : Type 0) (e : OrderFault) → (◌≡◌ {A = Result S OrderFault} (Err e) (Err order.Unfit) → P → ⊥) → fault_of_order e ≡ Unfit → P → ⊥
order_unfit P order.NoMemory k h = absurd (memory_unfit h)
order_unfit {S = S} P order.Unfit k h = k refl

pub mend_unfit : {S : Type 0} (P : Type 0) (e : MendFault) → (◌≡◌ {A = Result S MendFault} (Err e) (Err mend.Unfit) → P → ⊥) → fault_of_mend e ≡ Unfit → P → ⊥
mend_unfit P mend.NoMemory k h = absurd (memory_unfit h)
mend_unfit P mend.Disk k h = absurd (disk_unfit h)
mend_unfit P mend.Unfit k h = k refl

-- an adoption is refused where the pack is too full, or the version is none that may be kept
pub commit_unfit : {S : Type 0} (P : Type 0) (e : CommitFault) → (◌≡◌ {A = Result S CommitFault} (Err e) (Err commit.Unfit) → P → ⊥) → (◌≡◌ {A = Result S CommitFault} (Err e) (Err commit.NoSpace) → P → ⊥) → fault_of_commit e ≡ Unfit → P → ⊥
commit_unfit P commit.Disk k l h = absurd (disk_unfit h)
commit_unfit P (commit.Cut size) k l h = absurd (cut_unfit size h)
commit_unfit P commit.NoSpace k l h = l refl
commit_unfit P commit.Unfit k l h = k refl
commit_unfit P commit.NoMemory k l h = absurd (memory_unfit h)

-- an event hands on the fault of its part, or has no memory to tell of it
pub handed_unfit : {T S : Type 0} (P : Type 0) (e f : NodeFault) → (f ≡ e) ⊎ (f ≡ NoMemory) → (◌≡◌ {A = Result S NodeFault} (Err e) (Err Unfit) → P → ⊥) → ◌≡◌ {A = Result T NodeFault} (Err f) (Err Unfit) → P → ⊥
handed_unfit {T = T} {S = S} P e f h k so = ⊎_elim (λ (is : f ≡ e). k (subst (λ (g : NodeFault). ◌≡◌ {A = Result S NodeFault} (Err g) (Err Unfit)) is (subst (λ (g : NodeFault). ◌≡◌ {A = Result S NodeFault} (Err f) (Err g)) (is_fault f Unfit so) refl))) (λ (is : f ≡ NoMemory). absurd (memory_unfit (sym is ∙ is_fault f Unfit so))) h

-- ---- packets of the format ----

abbrev AllFit : List Packet → Type 0
AllFit ps = AllByRecursion FitsIfCounted ps

pub all_first : (ps qs : List Packet) → AllFit (ps ++ qs) → AllFit ps
all_first [] qs h = tt
all_first (p ∷ ps) qs h = (h.0, all_first ps qs h.1)

pub all_last : (ps qs : List Packet) → AllFit (ps ++ qs) → AllFit qs
all_last [] qs h = h
all_last (p ∷ ps) qs h = all_last ps qs h.1

put_fit : (p : Packet) (ps : List Packet) → AllFit (put_before is_before p ps) → FitsIfCounted p × AllFit ps
put_fit p [] h = (h.0, tt)
put_fit p (q ∷ qs) h = over (is_before p q) h (put_fit p qs)
  where
    over : (b : Bool) → AllFit (elim b as (λ (x : Bool). List Packet) [ true ↦ p ∷ q ∷ qs | false ↦ q ∷ put_before is_before p qs ]) → (AllFit (put_before is_before p qs) → FitsIfCounted p × AllFit qs) → FitsIfCounted p × AllFit (q ∷ qs)
    over true k rest = k
    over false k rest = (let r : FitsIfCounted p × AllFit qs = rest k.1 in (r.0, (k.0, r.1)))

sorted_fit : (done ps : List Packet) → AllFit (sorted_onto is_before done ps) → AllFit done × AllFit ps
sorted_fit done [] h = (h, tt)
sorted_fit done (p ∷ ps) h =
    let k : AllFit (put_before is_before p done) × AllFit ps = sorted_fit (put_before is_before p done) ps h in
    let r : FitsIfCounted p × AllFit done = put_fit p done k.0 in
    (r.1, (r.0, k.1))

-- in order they are the same ones
pub all_ordered : (ps : List Packet) → AllFit (in_order ps) → AllFit ps
all_ordered ps h = (sorted_fit [] ps h).1

-- ---- the end of an event ----

-- mends start in the tables that the site has by then
pub tables_then : (f : SiteView → Outcome SiteView) (links : Links) (old mid : SiteNode) (m n : Moment) (a b : Outgoing) → Moves f old m mid n a b → HasInodes (passes_over old.frame.config old.frame.me links (f (view_of old m.seen)).view).view.tables → HasInodes (passes_over mid.frame.config mid.frame.me links (view_of mid n.seen)).view.tables
tables_then f links old mid m n a b w h =
    subst (λ (c : Config). HasInodes (passes_over c mid.frame.me links (view_of mid n.seen)).view.tables) (sym w.config)
    (subst (λ (s : ℕ). HasInodes (passes_over old.frame.config s links (view_of mid n.seen)).view.tables) (sym w.me)
    (subst (λ (v : SiteView). HasInodes (passes_over old.frame.config old.frame.me links v).view.tables) (sym w.gives.view) h))

-- what the event and its end send
pub own_fit : (f g : SiteView → Outcome SiteView) (old mid new : SiteNode) (m n o : Moment) (a b c : Outgoing) → a.packets ≡ [] → a.records ≡ [] → Moves f old m mid n a b → Moves g mid n new o b c → AllFit (in_order ((f (view_of old m.seen)).sent ++ (g (f (view_of old m.seen)).view).sent)) → AllFit c.packets
own_fit f g old mid new m n o a b c p r w x h =
    subst AllFit (sym (own_packets (f (view_of old m.seen)) (g (f (view_of old m.seen)).view) (view_of mid n.seen) (view_of new o.seen) a b c (is_empty a p r) w.gives (subst (λ (v : SiteView). Gives (g v) (view_of new o.seen) b c) w.gives.view x.gives)))
    (all_ordered ((f (view_of old m.seen)).sent ++ (g (f (view_of old m.seen)).view).sent) h)

-- ---- a packet that comes ----

pub step_taken : (c : Config) (me : ℕ) (links : Links) (p : Packet) (v : SiteView) → is_dropped p v ≡ false → step c me links v (Receives p) ≡ whole c me links (takes c me links p p.body v) (tries_at c me p.body)
step_taken c me links p v d = ap (by_drop c me links p v) d

-- ---- adoptions ----

same_pull : (p q : Pull) → ◌≡◌ {A = Option Pull} (Some p) (Some q) → p ≡ q
same_pull p q e = cc

no_pull : {A : Type 0} (p : Pull) → ◌≡◌ {A = Option Pull} (Some p) None → A
no_pull p e = absurd (cc)

-- what is chosen is one of those that were looked at
chosen_among : (ready above : Pull → Bool) (ps pulls : List Pull) (p : Pull) → ◌≡◌ {A = Option Pull} (Some p) (chooses ready above ps pulls).chosen → Among p ps
chosen_among ready above [] pulls p e = no_pull p e
chosen_among ready above (x ∷ xs) pulls p e = over (ready x) (above x) e (chosen_among ready above xs (without_row pull_key (pull_key x) pulls) p) (chosen_among ready above xs pulls p)
  where
    over : (a b : Bool) → ◌≡◌ {A = Option Pull} (Some p) (cond a (cond b (record { pulls = pulls; chosen = Some x }) (chooses ready above xs (without_row pull_key (pull_key x) pulls))) (chooses ready above xs pulls)).chosen
        → (◌≡◌ {A = Option Pull} (Some p) (chooses ready above xs (without_row pull_key (pull_key x) pulls)).chosen → Among p xs) → (◌≡◌ {A = Option Pull} (Some p) (chooses ready above xs pulls).chosen → Among p xs) → Among p (x ∷ xs)
    over true true e h k = inl (same_pull p x e)
    over true false e h k = inr (h e)
    over false b e h k = inr (k e)

pub chosen_pull : (v : SiteView) (p : Pull) → ◌≡◌ {A = Option Pull} (Some p) (choice_at v).chosen → Among p v.pulls
chosen_pull v p e = chosen_among (is_ready v) (fits_own_in v) v.pulls v.pulls p e

-- ---- what is sent again ----

-- what is sent again, class by class
pub record FitAgain (f : Frame) (v : SiteView) : Type 0 where
  pub reports : AllFit (all_reports f v)
  pub closes : AllFit (store_repeats f v.store)
  pub pulls : AllFit (pull_repeats f v.pulls)
  pub notices : AllFit (flat_map (sync_repeats f) v.tables)

pub fit_again : (f : Frame) (e : InEpoch) (v : SiteView) → AllFit (repeats_inside f e v) → FitAgain f v
fit_again f e v h =
    let one = in_order (all_reports f v) in
    let two = users_repeats f v.users in
    let three = in_order (store_repeats f v.store) in
    let four = in_order (pull_repeats f v.pulls) in
    let five = in_order (flat_map (sync_repeats f) v.tables) in
    let a : AllFit (two ++ (three ++ (four ++ five))) = all_last one (two ++ (three ++ (four ++ five))) h in
    let b : AllFit (three ++ (four ++ five)) = all_last two (three ++ (four ++ five)) a in
    let c : AllFit (four ++ five) = all_last three (four ++ five) b in
    record {
      reports = all_ordered (all_reports f v) (all_first one (two ++ (three ++ (four ++ five))) h);
      closes = all_ordered (store_repeats f v.store) (all_first three (four ++ five) b);
      pulls = all_ordered (pull_repeats f v.pulls) (all_first four five c);
      notices = all_ordered (flat_map (sync_repeats f) v.tables) (all_last four five c);
    }

-- what forms an epoch, and the rest
pub forming_fit : (c : Config) (me : ℕ) (v : SiteView) (e : Option InEpoch) → v.epoch ≡ e → AllFit (repeats c me v) → AllFit (forming_repeats me v e)
forming_fit c me v e is h = over e (subst (λ (o : Option InEpoch). AllFit (repeats_of c me o v)) is h)
  where
    over : (o : Option InEpoch) → AllFit (repeats_of c me o v) → AllFit (forming_repeats me v o)
    over None k = all_ordered (forming_repeats me v None) k
    over (Some x) k = all_ordered (forming_repeats me v (Some x)) (all_first (in_order (forming_repeats me v (Some x))) (repeats_inside (frame_in c me v.boot x) x v) k)

pub inside_fit : (c : Config) (me : ℕ) (v : SiteView) (e : InEpoch) → v.epoch ≡ Some e → AllFit (repeats c me v) → AllFit (repeats_inside (frame_in c me v.boot e) e v)
inside_fit c me v e is h = all_last (in_order (forming_repeats me v (Some e))) (repeats_inside (frame_in c me v.boot e) e v) (subst (λ (o : Option InEpoch). AllFit (repeats_of c me o v)) is h)

-- the tables that a part leaves
pub tables_of : (f : SiteView → Outcome SiteView) (old mid : SiteNode) (m n : Moment) (a b : Outgoing) → Moves f old m mid n a b → HasInodes (f (view_of old m.seen)).view.tables → HasInodes mid.tables
tables_of f old mid m n a b w h = subst (λ (v : SiteView). HasInodes v.tables) (sym w.gives.view) h
