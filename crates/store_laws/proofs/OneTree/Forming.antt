-- What a site does of epochs: rounds, promises, joins, and the end of an event.
use Rattle.std.proofs.Common.{◌≡◌, ℕ, ◌+◌, Bool, true, false, cond, not, ◌&&◌, List, [], ◌∷◌, ◌++◌, map, Option, Some, None, refl, sym, ◌∙◌, subst, inl, inr}
use Rattle.role_steps.proofs.of_plain_facts.Options.{none_some}
use Rattle.locus_ids.specs.declared.config.Config.{Config}
use Rattle.locus_ids.specs.declared.ids.EpochId.{EpochId}
use Rattle.locus_ids.specs.declared.sites.Links.{Links}
use Rattle.locus_ids.specs.declared.sites.Members.{Members}
use Rattle.locus_ids.specs.declared.sites.Sites.{Sites}
use Rattle.trace_book.specs.Same.{same_epoch}
use Rattle.wire_messages.specs.declared.packet.Packet.{Packet}
use Rattle.role_steps.specs.Adoption.{adopts_first, adopts, notes_own_at, without_pull, adopts_pull, is_ready, table_group, with_adopted, fits_own}
use Rattle.role_steps.specs.Epochs.{is_epoch_below, frame_in, promises, reached, new_round, poll_packet, polled_sites, polls, round_id, begins_round, boots_where, part_boot, starts_part_of, promise_packet, refuse_packet, on_poll, counts_promise, with_promise, on_promise_of, on_refuse_of, joins, may_install, is_in, joined_packet, on_install, on_joined, passed_over, unanswered, chosen_members, chosen_set, others_of, install_packet, installs_all, decides, decides_if, passes_over_of, passes_over}
use Rattle.role_steps.specs.Mends.{has_mend_in, wants_mend, starts_mend_of, starts_mend, starts_mends_in, starts_mends}
use Rattle.role_steps.specs.Own.{Every}
use Rattle.role_steps.specs.Storage.{copy_of}
use Rattle.role_steps.specs.Tables.{row, first_that, without_row}
use Rattle.role_steps.specs.Views.{Frame, SiteView, Outcome, quiet, sends, and_then}
use Rattle.role_steps.specs.declared.pulls.Pull.{Pull}
use Rattle.role_steps.specs.declared.rounds.InEpoch.{InEpoch}
use Rattle.role_steps.specs.declared.rounds.Round.{Round}
use Rattle.role_steps.specs.declared.synchronizing.FileRow.{FileRow}
use Rattle.role_steps.specs.declared.synchronizing.SyncTable.{SyncTable}
use Rattle.role_steps.proofs.Sending.{every_cond, every_map}
use Rattle.the_run.specs.Steps.{adopts_of, starts_mends_of, ends_event}
use Rattle.the_run.specs.Worlds.{Line, told_onto}
use Rattle.tree_model.specs.Epochs.{epoch_of}
use Rattle.tree_laws.specs.Doing.{NoWrite, Fine, IsOfUsers, IsAdopted, WriteFact}
use Rattle.tree_laws.specs.Packets.{PacketFact}
use Rattle.tree_laws.specs.Printed.{entries}
use Rattle.store_laws.specs.OneTree.Places.{IsOf, InsideFact, OutsideFact, SiteFact, SiteIn, SiteFine}
use Rattle.store_laws.specs.OneTree.Rest.{AllRest, Past}
use Rattle.store_laws.specs.OneTree.Roles.{RolesDo}
use Rattle.store_laws.proofs.OneTree.Staying.{Stays}
use Rattle.store_laws.proofs.OneTree.Composing.{past_onto, rest_first, rest_last, site_then}
use Rattle.store_laws.proofs.OneTree.Framing.{every_at}
use Rattle.store_laws.proofs.OneTree.Inside.{Stands, stands_still}
use Rattle.store_laws.proofs.OneTree.Leaving.{Gone, gone_site, promises_fine}

-- ---- rounds don't matter ----

pub site_alike : (c : Config) (me : ℕ) (t : List Line) (v : SiteView) (promised : EpochId) (installed : Bool) (round : Option Round) (installs : List ℕ) (o : Option InEpoch) → SiteIn c me t v o →
    SiteIn c me t (record v { promised = promised; installed = installed; round = round; installs = installs }) o
site_alike c me t v promised installed round installs None h = record { up = h.up; outside = h.outside; users = h.users; copies = h.copies; instances = h.instances; steps = h.steps; tables = h.tables; pulls = h.pulls }
site_alike c me t v promised installed round installs (Some e) h = record { frame = h.frame; users = h.users; store = h.store; groups = h.groups; tables = h.tables; pulls = h.pulls; pulls_ascend = h.pulls_ascend; reports = h.reports }

abbrev Does : Config → ℕ → List Line → ℕ → Outcome SiteView → Type 0
Does c n trace me o = SiteFine c n trace me (SiteFact c me) NoWrite o

sends_fine : (c : Config) (n : ℕ) (trace : List Line) (me : ℕ) (ps : List Packet) (v : SiteView) → SiteFact c me trace v → Every (PacketFact c trace) ps → Does c n trace me (sends ps v)
sends_fine c n trace me ps v h k = record { told = tt; own = tt; view = h; sent = k; written = tt }

quiet_fine : (c : Config) (n : ℕ) (trace : List Line) (me : ℕ) (v : SiteView) → SiteFact c me trace v → Does c n trace me (quiet v)
quiet_fine c n trace me v h = record { told = tt; own = tt; view = h; sent = tt; written = tt }

-- ---- rounds ----

pub begins_fine : (c : Config) → RolesDo c → Stays c → (n me : ℕ) (links : Links) (number : ℕ) (polled : Links) (trace : List Line) (v : SiteView) → Past c trace → SiteFact c me trace v → AllRest c n trace (begins_round me links number polled v).told → Does c n trace me (begins_round me links number polled v)
begins_fine c roles stays n me links number polled trace v followed h rest =
    let id : EpochId = round_id me number v in
    let o : Outcome SiteView = promises me id (reached links) v in
    let fresh : AllRest c n trace (o.told ++ []) = rest in
    let a : SiteFine c n trace me (Gone c me) NoWrite o = promises_fine c roles stays n me id (reached links) trace v followed h (rest_first c n o.told [] trace rest) in
    site_then c n trace me (Gone c me) (SiteFact c me) NoWrite o (polls me id polled o.view) stays followed fresh a
    (sends_fine c n (told_onto n o.told trace) me (map (poll_packet me o.view.boot id polled) (polled_sites polled)) (record o.view { round = Some (new_round id polled) })
    (site_alike c me (told_onto n o.told trace) o.view o.view.promised o.view.installed (Some (new_round id polled)) o.view.installs o.view.epoch (gone_site c me (told_onto n o.told trace) o.view a.view))
    (every_map (PacketFact c (told_onto n o.told trace)) (poll_packet me o.view.boot id polled) (polled_sites polled) (λ s. tt)))

pub starts_part_fine : (c : Config) → RolesDo c → Stays c → (n me : ℕ) (links : Links) (trace : List Line) (e : Option InEpoch) (v : SiteView) → Past c trace → SiteFact c me trace v → AllRest c n trace (starts_part_of me links e v).told → Does c n trace me (starts_part_of me links e v)
starts_part_fine c roles stays n me links trace None v followed h rest = quiet_fine c n trace me v h
starts_part_fine c roles stays n me links trace (Some e) v followed h rest = begins_fine c roles stays n me links (v.promised.number + 1) (boots_where (part_boot me links e.members)) trace v followed h rest

pub on_poll_fine : (c : Config) → RolesDo c → Stays c → (n me : ℕ) (links : Links) (from from_boot : ℕ) (id : EpochId) (trace : List Line) (v : SiteView) → Past c trace → SiteFact c me trace v → AllRest c n trace (on_poll me links from from_boot id v).told → Does c n trace me (on_poll me links from from_boot id v)
on_poll_fine c roles stays n me links from from_boot id trace v followed h rest = over (is_epoch_below v.promised id) rest
  where
    over : (b : Bool) → AllRest c n trace (elim b as (λ (x : Bool). Outcome SiteView) [ true ↦ and_then (promises me id (reached links) v) (λ now. sends (promise_packet me links from from_boot id now) now) | false ↦ sends (cond (same_epoch id v.promised && not v.installed) (promise_packet me links from from_boot id v) (refuse_packet me from from_boot id v)) v ]).told →
        Does c n trace me (elim b as (λ (x : Bool). Outcome SiteView) [ true ↦ and_then (promises me id (reached links) v) (λ now. sends (promise_packet me links from from_boot id now) now) | false ↦ sends (cond (same_epoch id v.promised && not v.installed) (promise_packet me links from from_boot id v) (refuse_packet me from from_boot id v)) v ])
    over true r =
        let o : Outcome SiteView = promises me id (reached links) v in
        let a : SiteFine c n trace me (Gone c me) NoWrite o = promises_fine c roles stays n me id (reached links) trace v followed h (rest_first c n o.told [] trace r) in
        site_then c n trace me (Gone c me) (SiteFact c me) NoWrite o (sends (promise_packet me links from from_boot id o.view) o.view) stays followed r a
        (sends_fine c n (told_onto n o.told trace) me (promise_packet me links from from_boot id o.view) o.view (gone_site c me (told_onto n o.told trace) o.view a.view) (tt, tt))
    over false r = sends_fine c n trace me (cond (same_epoch id v.promised && not v.installed) (promise_packet me links from from_boot id v) (refuse_packet me from from_boot id v)) v h
        (every_cond (PacketFact c trace) (same_epoch id v.promised && not v.installed) (promise_packet me links from from_boot id v) (refuse_packet me from from_boot id v) (tt, tt) (tt, tt))

pub on_promise_fine : (c : Config) (n me from from_boot : ℕ) (id : EpochId) (reach : Sites) (trace : List Line) (o : Option Round) (v : SiteView) → SiteFact c me trace v → Does c n trace me (on_promise_of from from_boot id reach o v)
on_promise_fine c n me from from_boot id reach trace None v h = quiet_fine c n trace me v h
on_promise_fine c n me from from_boot id reach trace (Some r) v h =
    let q : Option Round = Some (cond (counts_promise from from_boot id r) (with_promise from reach r) r) in
    quiet_fine c n trace me (record v { round = q }) (site_alike c me trace v v.promised v.installed q v.installs v.epoch h)

pub on_refuse_fine : (c : Config) → RolesDo c → Stays c → (n me : ℕ) (links : Links) (id theirs : EpochId) (trace : List Line) (o : Option Round) (v : SiteView) → Past c trace → SiteFact c me trace v → AllRest c n trace (on_refuse_of me links id theirs o v).told → Does c n trace me (on_refuse_of me links id theirs o v)
on_refuse_fine c roles stays n me links id theirs trace None v followed h rest = quiet_fine c n trace me v h
on_refuse_fine c roles stays n me links id theirs trace (Some r) v followed h rest = over (same_epoch r.id id) rest
  where
    over : (b : Bool) → AllRest c n trace (elim b as (λ (x : Bool). Outcome SiteView) [ true ↦ begins_round me links (theirs.number + 1) r.polled v | false ↦ quiet v ]).told → Does c n trace me (elim b as (λ (x : Bool). Outcome SiteView) [ true ↦ begins_round me links (theirs.number + 1) r.polled v | false ↦ quiet v ])
    over true k = begins_fine c roles stays n me links (theirs.number + 1) r.polled trace v followed h k
    over false k = quiet_fine c n trace me v h

-- ---- joins ----

outside_of : (c : Config) (me : ℕ) (trace : List Line) (v : SiteView) (o : Option InEpoch) → SiteIn c me trace v o → epoch_of (entries trace) me ≡ None → OutsideFact c me trace v
outside_of c me trace v None h out = h
outside_of c me trace v (Some e) h out = absurd (none_some e.id (sym out ∙ h.frame.inside))

joins_fine : (c : Config) → RolesDo c → (n me : ℕ) (id : EpochId) (members : Members) (trace : List Line) (v : SiteView) → Past c trace → SiteFact c me trace v → AllRest c n trace (joins c me id members v).told → Does c n trace me (joins c me id members v)
joins_fine c roles n me id members trace v followed h rest = roles.epochs.joins n trace me id members v followed (outside_of c me trace v v.epoch h rest.0.row.outside) rest

pub on_install_fine : (c : Config) → RolesDo c → Stays c → (n me from from_boot : ℕ) (id : EpochId) (members : Members) (trace : List Line) (v : SiteView) → Past c trace → SiteFact c me trace v → AllRest c n trace (on_install c me from from_boot id members v).told → Does c n trace me (on_install c me from from_boot id members v)
on_install_fine c roles stays n me from from_boot id members trace v followed h rest = over (may_install me id members v) rest
  where
    over : (b : Bool) → AllRest c n trace (elim b as (λ (x : Bool). Outcome SiteView) [ true ↦ and_then (joins c me id members v) (λ now. sends (joined_packet me from from_boot id now) now) | false ↦ sends (cond (is_in id v.epoch) (joined_packet me from from_boot id v) []) v ]).told →
        Does c n trace me (elim b as (λ (x : Bool). Outcome SiteView) [ true ↦ and_then (joins c me id members v) (λ now. sends (joined_packet me from from_boot id now) now) | false ↦ sends (cond (is_in id v.epoch) (joined_packet me from from_boot id v) []) v ])
    over true r =
        let o : Outcome SiteView = joins c me id members v in
        let a : Does c n trace me o = joins_fine c roles n me id members trace v followed h (rest_first c n o.told [] trace r) in
        site_then c n trace me (SiteFact c me) (SiteFact c me) NoWrite o (sends (joined_packet me from from_boot id o.view) o.view) stays followed r a
        (sends_fine c n (told_onto n o.told trace) me (joined_packet me from from_boot id o.view) o.view a.view (tt, tt))
    over false r = sends_fine c n trace me (cond (is_in id v.epoch) (joined_packet me from from_boot id v) []) v h (every_cond (PacketFact c trace) (is_in id v.epoch) (joined_packet me from from_boot id v) [] (tt, tt) tt)

pub on_joined_fine : (c : Config) (n me from : ℕ) (id : EpochId) (trace : List Line) (v : SiteView) → SiteFact c me trace v → Does c n trace me (on_joined from id v)
on_joined_fine c n me from id trace v h = over (is_in id v.epoch)
  where
    over : (b : Bool) → Does c n trace me (quiet (cond b (record v { installs = without_row (λ s. s) from v.installs }) v))
    over true = quiet_fine c n trace me (record v { installs = without_row (λ s. s) from v.installs }) (site_alike c me trace v v.promised v.installed v.round (without_row (λ s. s) from v.installs) v.epoch h)
    over false = quiet_fine c n trace me v h

decides_fine : (c : Config) → RolesDo c → Stays c → (n me : ℕ) (id : EpochId) (members : Members) (trace : List Line) (v : SiteView) → Past c trace → SiteFact c me trace v → AllRest c n trace (decides c me id members v).told → Does c n trace me (decides c me id members v)
decides_fine c roles stays n me id members trace v followed h rest =
    let o : Outcome SiteView = joins c me id members v in
    let t : List Line = told_onto n o.told trace in
    let a : Does c n trace me o = joins_fine c roles n me id members trace v followed h (rest_first c n o.told [] trace rest) in
    site_then c n trace me (SiteFact c me) (SiteFact c me) NoWrite o (installs_all me id members o.view) stays followed rest a
    (sends_fine c n t me (map (install_packet me o.view.boot id members) (others_of me members)) (record o.view { installs = others_of me members })
    (site_alike c me t o.view o.view.promised o.view.installed o.view.round (others_of me members) o.view.epoch a.view)
    (every_map (PacketFact c t) (install_packet me o.view.boot id members) (others_of me members) (λ s. tt)))

passes_fine : (c : Config) → RolesDo c → Stays c → (n me : ℕ) (links : Links) (trace : List Line) (o : Option Round) (v : SiteView) → Past c trace → SiteFact c me trace v → AllRest c n trace (passes_over_of c me links o v).told → Does c n trace me (passes_over_of c me links o v)
passes_fine c roles stays n me links trace None v followed h rest = quiet_fine c n trace me v h
passes_fine c roles stays n me links trace (Some r) v followed h rest = over (unanswered (passed_over links r)) rest
  where
    over : (ss : List ℕ) → AllRest c n trace (decides_if c me links (passed_over links r) ss v).told → Does c n trace me (decides_if c me links (passed_over links r) ss v)
    over [] k = decides_fine c roles stays n me (passed_over links r).id (chosen_members me v.boot (passed_over links r) (chosen_set me links (passed_over links r))) trace v followed h k
    over (s ∷ ss) k = quiet_fine c n trace me (record v { round = Some (passed_over links r) }) (site_alike c me trace v v.promised v.installed (Some (passed_over links r)) v.installs v.epoch h)

-- ---- mends and adoptions of a site in its epoch ----

stands_then : (v : SiteView) (o : Outcome SiteView) (g : SiteView → Outcome SiteView) → Stands v o → Stands o.view (g o.view) → Stands v (and_then o g)
stands_then v o g a b = record { boot = b.boot ∙ a.boot; epoch = b.epoch ∙ a.epoch }

mend_of_stands : (f : Frame) (t : SyncTable) (o : Option FileRow) (v : SiteView) → Stands v (starts_mend_of f t o v)
mend_of_stands f t None v = stands_still v
mend_of_stands f t (Some r) v = record { boot = refl; epoch = refl }

mend_stands : (f : Frame) (t : SyncTable) (v : SiteView) → Stands v (starts_mend f t v)
mend_stands f t v =
    elim (t.started && not (has_mend_in v.users t.group)) as (λ x. Stands v (elim x [ true ↦ starts_mend_of f t (first_that (wants_mend v t) t.files) v | false ↦ quiet v ])) [
      | true ↦ mend_of_stands f t (first_that (wants_mend v t) t.files) v
      | false ↦ stands_still v
    ]

mends_stand : (f : Frame) (ts : List SyncTable) (v : SiteView) → Stands v (starts_mends_in f ts v)
mends_stand f [] v = stands_still v
mends_stand f (t ∷ ts) v = stands_then v (starts_mend f t v) (starts_mends_in f ts) (mend_stands f t v) (mends_stand f ts (starts_mend f t v).view)

noted_stands : (f : Frame) (p : Pull) (o : Option SyncTable) (v : SiteView) → ((notes_own_at f p o v).boot ≡ v.boot) × ((notes_own_at f p o v).epoch ≡ v.epoch)
noted_stands f p None v = (refl, refl)
noted_stands f p (Some t) v = (refl, refl)

adopts_pull_stands : (f : Frame) (p : Pull) (v : SiteView) → Stands v (adopts_pull f p v)
adopts_pull_stands f p v = (let k : _ × _ = noted_stands f p (row table_group p.file.group v.tables) (with_adopted p v) in record { boot = k.0; epoch = k.1 })

pub adopts_stand : (f : Frame) (ps : List Pull) (v : SiteView) → Stands v (adopts_first f ps v)
adopts_stand f [] v = stands_still v
adopts_stand f (p ∷ ps) v =
    elim (is_ready v p) as (λ t. Stands v (elim t [ true ↦ elim (fits_own p (copy_of v.store p.file)) [ true ↦ adopts_pull f p v | false ↦ adopts_first f ps (without_pull p v) ] | false ↦ adopts_first f ps v ])) [
      | true ↦ elim (fits_own p (copy_of v.store p.file)) as (λ t. Stands v (elim t [ true ↦ adopts_pull f p v | false ↦ adopts_first f ps (without_pull p v) ])) [
        | true ↦ adopts_pull_stands f p v
        | false ↦ (let g : Stands (without_pull p v) (adopts_first f ps (without_pull p v)) = adopts_stand f ps (without_pull p v) in record { boot = g.boot; epoch = g.epoch })
      ]
      | false ↦ adopts_stand f ps v
    ]

-- what a site in its epoch does, by the view after it
pub inside_site : (c : Config) (me : ℕ) (t : List Line) (v w : SiteView) (e : InEpoch) → w.epoch ≡ Some e → w.boot ≡ v.boot → InsideFact c (frame_in c me v.boot e) t w → SiteFact c me t w
inside_site c me t v w e here boot h = subst (SiteIn c me t w) (sym here) (subst (λ (b : ℕ). InsideFact c (frame_in c me b e) t w) (sym boot) h)

pub site_inside : (c : Config) (me : ℕ) (t : List Line) (v : SiteView) (e : InEpoch) → v.epoch ≡ Some e → SiteFact c me t v → InsideFact c (frame_in c me v.boot e) t v
site_inside c me t v e here h = subst (SiteIn c me t v) here h

mends_fine : (c : Config) → RolesDo c → (n me : ℕ) (trace : List Line) (o : Option InEpoch) (v : SiteView) → Past c trace → v.epoch ≡ o → SiteFact c me trace v → AllRest c n trace (starts_mends_of c me o v).told → Does c n trace me (starts_mends_of c me o v)
mends_fine c roles n me trace None v followed here h rest = quiet_fine c n trace me v h
mends_fine c roles n me trace (Some e) v followed here h rest =
    let f : Frame = frame_in c me v.boot e in
    let o : Outcome SiteView = starts_mends f v in
    let inside : InsideFact c f trace v = site_inside c me trace v e here h in
    let s : Stands v o = mends_stand f v.tables v in
    let k : Fine SiteView c n trace (IsOfUsers f.me) (InsideFact c f) NoWrite o = roles.pulls.mends n trace f v (record { past = followed; frame = inside.frame }) inside rest in
    record { told = k.told; own = every_at n (IsOfUsers me) (λ t x. IsOf c t me x) (λ x t u. inl u) o.told trace k.own; view = inside_site c me (told_onto n o.told trace) v o.view e (s.epoch ∙ here) s.boot k.view; sent = k.sent; written = k.written }

pub adopts_fine : (c : Config) → RolesDo c → (n me : ℕ) (trace : List Line) (o : Option InEpoch) (v : SiteView) → Past c trace → v.epoch ≡ o → SiteFact c me trace v → AllRest c n trace (adopts_of c me o v).told → SiteFine c n trace me (SiteFact c me) (WriteFact c n trace me v.store) (adopts_of c me o v)
adopts_fine c roles n me trace None v followed here h rest = record { told = tt; own = tt; view = h; sent = tt; written = tt }
adopts_fine c roles n me trace (Some e) v followed here h rest =
    let f : Frame = frame_in c me v.boot e in
    let o : Outcome SiteView = adopts f v in
    let inside : InsideFact c f trace v = site_inside c me trace v e here h in
    let s : Stands v o = adopts_stand f v.pulls v in
    let k : Fine SiteView c n trace (IsAdopted f.me) (InsideFact c f) (WriteFact c n trace f.me v.store) o = roles.pulls.adopts n trace f v (record { past = followed; frame = inside.frame }) inside rest in
    record { told = k.told; own = every_at n (IsAdopted me) (λ t x. IsOf c t me x) (λ x t u. inr (inr (inl u))) o.told trace k.own; view = inside_site c me (told_onto n o.told trace) v o.view e (s.epoch ∙ here) s.boot k.view; sent = k.sent; written = k.written }

-- ---- the end of an event ----

pub ends_fine : (c : Config) → RolesDo c → Stays c → (n me : ℕ) (links : Links) (trace : List Line) (v : SiteView) → Past c trace → SiteFact c me trace v → AllRest c n trace (ends_event c me links v).told → Does c n trace me (ends_event c me links v)
ends_fine c roles stays n me links trace v followed h rest =
    let o : Outcome SiteView = passes_over c me links v in
    let p : Outcome SiteView = starts_mends_of c me o.view.epoch o.view in
    let a : Does c n trace me o = passes_fine c roles stays n me links trace v.round v followed h (rest_first c n o.told p.told trace rest) in
    site_then c n trace me (SiteFact c me) (SiteFact c me) NoWrite o p stays followed rest a
    (mends_fine c roles n me (told_onto n o.told trace) o.view.epoch o.view (past_onto c n o.told trace followed a.told (rest_first c n o.told p.told trace rest)) refl a.view (rest_last c n o.told p.told trace rest))
