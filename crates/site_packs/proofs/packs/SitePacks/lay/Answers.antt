use Rattle.std.proofs.Common.{◌≡◌, ◌∙◌, ◌<◌, ℕ, List, length, ap, sym, subst, arith, refl}
use Rattle.std.specs.Prelude.{Option, Some, OnOk, OnErr, slice_get, slice_set, map}
use Rattle.std.proofs.lemmas.Option.{slice_get_read}
use Rattle.disk_model.specs.Moments.{LeavesOnly, TellsMany}
use Rattle.disk_model.proofs.Moments.{leaves_weaker}
use Rattle.pack_slots.specs.of_inode_switch.View.{Replaced}
use Rattle.inode_pack.specs.Pack.{PackState}
use Rattle.pack_slots.specs.Copies.{copy_of, named_pages}
use Rattle.inode_pack.specs.of_new_contents.Laid.{working_of}
use Rattle.inode_pack.specs.of_new_contents.Changed.{needed}
use Rattle.inode_pack.specs.Committing.{new_version, blocks_over, commit_calls, commit_answer, MayBeLeft as MayBeLeftIn}
use Rattle.role_steps.specs.Tables.{with_row}
use Rattle.role_steps.specs.Storage.{copy_key}
use Rattle.site_packs.specs.Copies.{copies_on}
use Rattle.site_packs.specs.Packs.{PacksState, pack_group, ArePacks, AreFound, groups_of, pack_in, copy_at}
use Rattle.site_packs.specs.Committing.{MayBeLeft, copy_made, room, store_calls}
use Rattle.site_packs.specs.Laying.{content_over}
use Rattle.site_packs.specs.Marking.{Fills, FillsAt, blocks_at}
use Rattle.site_packs.proofs.Reports.{found_pack}
use Rattle.site_packs.proofs.Stored.{on_commit, cut_left, none_after, replaced, left, room_is, had_copy, calls_same, after_packs, on_ok_map, only_of_store, kept_packs, stand_packs}
use Rattle.inode_pack.specs.Cutting.{IsCutCommit}
use Rattle.site_packs.specs.Cutting.{IsCut}
use Rattle.site_packs.proofs.packs.SitePacks.lay.Goals as goal

pub adopt-requires-clause-stands : goal.adopt-requires-clause-stands
adopt-requires-clause-stands g c =
    let M = g.D.Disk.moment in
    let p = c.args.self.now in
    let old = (M c.args.disk.now).seen in
    let at = c.args.at in
    let file = c.args.file in
    let pack = c.index_mut.result.now in
    let items = ap (λ (q : PacksState). q.packs) c.self.view_is in
    let are = subst (λ (q : PacksState). ArePacks 0 0 q.site q.packs) c.self.view_is c.self.invariant in
    let inside : at < length c.self.inside.packs.items = subst (λ (l : List PackState). at < length l) (sym items) c.requires.inside in
    let place : slice_get p.packs at ≡ Some pack = subst (λ (l : List PackState). slice_get l at ≡ Some pack) items (slice_get_read c.self.inside.packs.items (length c.self.inside.packs.items) at pack refl inside c.index_mut.ensures.value) in
    let is : pack_in file.group p.packs ≡ Some pack = sym c.requires.place ∙ place in
    record { settled = c.requires.stands.settled; shows = (found_pack p.site file.group p.packs old pack are c.requires.stands.shown is).shows }

pub adopt-requires-clause-rests : goal.adopt-requires-clause-rests
adopt-requires-clause-rests g c =
    let M = g.D.Disk.moment in
    let p = c.args.self.now in
    let old = (M c.args.disk.now).seen in
    let at = c.args.at in
    let file = c.args.file in
    let pack = c.index_mut.result.now in
    let items = ap (λ (q : PacksState). q.packs) c.self.view_is in
    let are = subst (λ (q : PacksState). ArePacks 0 0 q.site q.packs) c.self.view_is c.self.invariant in
    let inside : at < length c.self.inside.packs.items = subst (λ (l : List PackState). at < length l) (sym items) c.requires.inside in
    let place : slice_get p.packs at ≡ Some pack = subst (λ (l : List PackState). slice_get l at ≡ Some pack) items (slice_get_read c.self.inside.packs.items (length c.self.inside.packs.items) at pack refl inside c.index_mut.ensures.value) in
    let is : pack_in file.group p.packs ≡ Some pack = sym c.requires.place ∙ place in
    let fills : Fills pack c.args.ino (content_over p old file c.args.came.now) (working_of c.args.came.now) old = subst (λ (o : Option PackState). FillsAt o c.args.ino (content_over p old file c.args.came.now) (working_of c.args.came.now) old) is c.requires.fills in
    fills.rests

pub returns-clause-any_moment : goal.returns-clause-any_moment
returns-clause-any_moment g c =
    let M = g.D.Disk.moment in
    let p = c.args.self.now in
    let old = (M c.args.disk.now).seen in
    let at = c.args.at in
    let file = c.args.file in
    let pack = c.index_mut.result.now in
    let items = ap (λ (q : PacksState). q.packs) c.self.view_is in
    let are = subst (λ (q : PacksState). ArePacks 0 0 q.site q.packs) c.self.view_is c.self.invariant in
    let inside : at < length c.self.inside.packs.items = subst (λ (l : List PackState). at < length l) (sym items) c.requires.inside in
    let place : slice_get p.packs at ≡ Some pack = subst (λ (l : List PackState). slice_get l at ≡ Some pack) items (slice_get_read c.self.inside.packs.items (length c.self.inside.packs.items) at pack refl inside c.index_mut.ensures.value) in
    let is : pack_in file.group p.packs ≡ Some pack = sym c.requires.place ∙ place in
    let fills : Fills pack file.ino (content_over p old file c.args.came.now) (working_of c.args.came.now) old = subst (λ (n : ℕ). Fills pack n (content_over p old file c.args.came.now) (working_of c.args.came.now) old) c.requires.own (subst (λ (o : Option PackState). FillsAt o c.args.ino (content_over p old file c.args.came.now) (working_of c.args.came.now) old) is c.requires.fills) in
    leaves_weaker M c.args.disk.now c.adopt.new.disk (MayBeLeftIn pack file.ino (new_version pack.base file.ino c.args.version (working_of c.args.came.now) old) old) (MayBeLeft p (copy_made file c.args.version (content_over p old file c.args.came.now)) old)
    (left p old at file pack c.args.version (content_over p old file c.args.came.now) (working_of c.args.came.now) are c.requires.stands.shown place is c.requires.whole.low c.requires.whole.high (omega arith) c.requires.whole.version fills)
    (subst (λ (n : ℕ). LeavesOnly (M c.args.disk.now) (M c.adopt.new.disk) (MayBeLeftIn pack n (new_version pack.base n c.args.version (working_of c.args.came.now) old) old)) c.requires.own c.adopt.ensures.any_moment)

pub returns-clause-copies : goal.returns-clause-copies
returns-clause-copies g c =
    let M = g.D.Disk.moment in
    let p = c.args.self.now in
    let old = (M c.args.disk.now).seen in
    let at = c.args.at in
    let file = c.args.file in
    let pack = c.index_mut.result.now in
    let items = ap (λ (q : PacksState). q.packs) c.self.view_is in
    let are = subst (λ (q : PacksState). ArePacks 0 0 q.site q.packs) c.self.view_is c.self.invariant in
    let inside : at < length c.self.inside.packs.items = subst (λ (l : List PackState). at < length l) (sym items) c.requires.inside in
    let place : slice_get p.packs at ≡ Some pack = subst (λ (l : List PackState). slice_get l at ≡ Some pack) items (slice_get_read c.self.inside.packs.items (length c.self.inside.packs.items) at pack refl inside c.index_mut.ensures.value) in
    let is : pack_in file.group p.packs ≡ Some pack = sym c.requires.place ∙ place in
    let fills : Fills pack file.ino (content_over p old file c.args.came.now) (working_of c.args.came.now) old = subst (λ (n : ℕ). Fills pack n (content_over p old file c.args.came.now) (working_of c.args.came.now) old) c.requires.own (subst (λ (o : Option PackState). FillsAt o c.args.ino (content_over p old file c.args.came.now) (working_of c.args.came.now) old) is c.requires.fills) in
    let new = (M c.adopt.new.disk).seen in
    let torn = (c.adopt.ensures.any_moment.each new (g.met.D.Disk.counts_now c.adopt.new.disk (M c.args.disk.now).now new c.adopt.ensures.any_moment.later (g.met.D.Disk.reads_an_image c.adopt.new.disk))).outside in
    on_ok_map c.adopt.result (Replaced pack.base file.ino (new_version pack.base file.ino c.args.version (working_of c.args.came.now) old) old new)
    (copies_on (groups_of p) new ≡ with_row copy_key (copy_made file c.args.version (content_over p old file c.args.came.now)) (copies_on (groups_of p) old))
    (replaced p old at file pack c.args.version (content_over p old file c.args.came.now) (working_of c.args.came.now) are c.requires.stands.shown place is c.requires.whole.low c.requires.whole.high (omega arith) c.requires.whole.version fills new torn)
    (subst (λ (n : ℕ). OnOk c.adopt.result (Replaced pack.base n (new_version pack.base n c.args.version (working_of c.args.came.now) old) old new)) c.requires.own c.adopt.ensures.replaced)

pub invariant_of-self : goal.invariant_of-self
invariant_of-self g c =
    let M = g.D.Disk.moment in
    let p = c.args.self.now in
    let old = (M c.args.disk.now).seen in
    let at = c.args.at in
    let file = c.args.file in
    let pack = c.index_mut.result.now in
    let items = ap (λ (q : PacksState). q.packs) c.self.view_is in
    let are = subst (λ (q : PacksState). ArePacks 0 0 q.site q.packs) c.self.view_is c.self.invariant in
    let inside : at < length c.self.inside.packs.items = subst (λ (l : List PackState). at < length l) (sym items) c.requires.inside in
    let place : slice_get p.packs at ≡ Some pack = subst (λ (l : List PackState). slice_get l at ≡ Some pack) items (slice_get_read c.self.inside.packs.items (length c.self.inside.packs.items) at pack refl inside c.index_mut.ensures.value) in
    let is : pack_in file.group p.packs ≡ Some pack = sym c.requires.place ∙ place in
    let after = (after_packs p at pack c.adopt.new.self c.args.ino c.args.version (working_of c.args.came.now) c.adopt.result are place c.adopt.ensures.good c.adopt.ensures.kept c.adopt.ensures.copies).0 in
    let site = ap (λ (q : PacksState). q.site) c.self.view_is in
    subst (λ (l : List PackState). ArePacks 0 0 c.self.inside.site (slice_set l at c.adopt.new.self)) (sym items) (subst (λ (s : ℕ). ArePacks 0 0 s (slice_set p.packs at c.adopt.new.self)) (sym site) after)

pub returns-clause-places : goal.returns-clause-places
returns-clause-places g c =
    let M = g.D.Disk.moment in
    let p = c.args.self.now in
    let old = (M c.args.disk.now).seen in
    let at = c.args.at in
    let file = c.args.file in
    let pack = c.index_mut.result.now in
    let items = ap (λ (q : PacksState). q.packs) c.self.view_is in
    let are = subst (λ (q : PacksState). ArePacks 0 0 q.site q.packs) c.self.view_is c.self.invariant in
    let inside : at < length c.self.inside.packs.items = subst (λ (l : List PackState). at < length l) (sym items) c.requires.inside in
    let place : slice_get p.packs at ≡ Some pack = subst (λ (l : List PackState). slice_get l at ≡ Some pack) items (slice_get_read c.self.inside.packs.items (length c.self.inside.packs.items) at pack refl inside c.index_mut.ensures.value) in
    let is : pack_in file.group p.packs ≡ Some pack = sym c.requires.place ∙ place in
    let after = (after_packs p at pack c.adopt.new.self c.args.ino c.args.version (working_of c.args.came.now) c.adopt.result are place c.adopt.ensures.good c.adopt.ensures.kept c.adopt.ensures.copies).1 in
    record {
      site = ap (λ (q : PacksState). q.site) c.self.view_is;
      groups = ap (λ (l : List PackState). map pack_group (slice_set l at c.adopt.new.self)) items ∙ after;
    }

pub returns-clause-found : goal.returns-clause-found
returns-clause-found g c =
    let M = g.D.Disk.moment in
    let p = c.args.self.now in
    let old = (M c.args.disk.now).seen in
    let at = c.args.at in
    let file = c.args.file in
    let pack = c.index_mut.result.now in
    let items = ap (λ (q : PacksState). q.packs) c.self.view_is in
    let are = subst (λ (q : PacksState). ArePacks 0 0 q.site q.packs) c.self.view_is c.self.invariant in
    let inside : at < length c.self.inside.packs.items = subst (λ (l : List PackState). at < length l) (sym items) c.requires.inside in
    let place : slice_get p.packs at ≡ Some pack = subst (λ (l : List PackState). slice_get l at ≡ Some pack) items (slice_get_read c.self.inside.packs.items (length c.self.inside.packs.items) at pack refl inside c.index_mut.ensures.value) in
    let is : pack_in file.group p.packs ≡ Some pack = sym c.requires.place ∙ place in
    let new = (M c.adopt.new.disk).seen in
    let torn = (c.adopt.ensures.any_moment.each new (g.met.D.Disk.counts_now c.adopt.new.disk (M c.args.disk.now).now new c.adopt.ensures.any_moment.later (g.met.D.Disk.reads_an_image c.adopt.new.disk))).outside in
    subst (λ (l : List PackState). OnOk c.adopt.result (AreFound (slice_set l at c.adopt.new.self) (M c.adopt.new.disk))) (sym items)
    (stand_packs p at pack c.adopt.new.self c.args.ino c.args.version (working_of c.args.came.now) old (M c.adopt.new.disk) c.adopt.result are place c.requires.stands.shown torn c.adopt.ensures.good c.adopt.ensures.copies c.adopt.ensures.stands)

pub returns-clause-kept : goal.returns-clause-kept
returns-clause-kept g c =
    let M = g.D.Disk.moment in
    let p = c.args.self.now in
    let old = (M c.args.disk.now).seen in
    let at = c.args.at in
    let file = c.args.file in
    let pack = c.index_mut.result.now in
    let items = ap (λ (q : PacksState). q.packs) c.self.view_is in
    let are = subst (λ (q : PacksState). ArePacks 0 0 q.site q.packs) c.self.view_is c.self.invariant in
    let inside : at < length c.self.inside.packs.items = subst (λ (l : List PackState). at < length l) (sym items) c.requires.inside in
    let place : slice_get p.packs at ≡ Some pack = subst (λ (l : List PackState). slice_get l at ≡ Some pack) items (slice_get_read c.self.inside.packs.items (length c.self.inside.packs.items) at pack refl inside c.index_mut.ensures.value) in
    let is : pack_in file.group p.packs ≡ Some pack = sym c.requires.place ∙ place in
    kept_packs c.self.inside.site p c.self.inside.packs.items c.self.inside.live at pack c.adopt.new.self c.adopt.result (ap (λ (q : PacksState). q.site) c.self.view_is) items (ap (λ (q : PacksState). q.live) c.self.view_is) place c.adopt.ensures.kept

pub returns-clause-only : goal.returns-clause-only
returns-clause-only g c =
    let M = g.D.Disk.moment in
    let p = c.args.self.now in
    let old = (M c.args.disk.now).seen in
    let at = c.args.at in
    let file = c.args.file in
    let pack = c.index_mut.result.now in
    let items = ap (λ (q : PacksState). q.packs) c.self.view_is in
    let are = subst (λ (q : PacksState). ArePacks 0 0 q.site q.packs) c.self.view_is c.self.invariant in
    let inside : at < length c.self.inside.packs.items = subst (λ (l : List PackState). at < length l) (sym items) c.requires.inside in
    let place : slice_get p.packs at ≡ Some pack = subst (λ (l : List PackState). slice_get l at ≡ Some pack) items (slice_get_read c.self.inside.packs.items (length c.self.inside.packs.items) at pack refl inside c.index_mut.ensures.value) in
    let is : pack_in file.group p.packs ≡ Some pack = sym c.requires.place ∙ place in
    let fills : Fills pack file.ino (content_over p old file c.args.came.now) (working_of c.args.came.now) old = subst (λ (n : ℕ). Fills pack n (content_over p old file c.args.came.now) (working_of c.args.came.now) old) c.requires.own (subst (λ (o : Option PackState). FillsAt o c.args.ino (content_over p old file c.args.came.now) (working_of c.args.came.now) old) is c.requires.fills) in
    only_of_store c.adopt.result (needed (working_of c.args.came.now)) (length (named_pages pack.copies)) (room p old file.group) c.requires.room (room_is p old at file pack c.args.version (content_over p old file c.args.came.now) (working_of c.args.came.now) are c.requires.stands.shown place is c.requires.whole.low c.requires.whole.high (omega arith) c.requires.whole.version fills) (λ pages free. (c.adopt.ensures.no_space pages free).0)

pub returns-clause-tells : goal.returns-clause-tells
returns-clause-tells g c =
    let M = g.D.Disk.moment in
    let p = c.args.self.now in
    let old = (M c.args.disk.now).seen in
    let at = c.args.at in
    let file = c.args.file in
    let pack = c.index_mut.result.now in
    let items = ap (λ (q : PacksState). q.packs) c.self.view_is in
    let are = subst (λ (q : PacksState). ArePacks 0 0 q.site q.packs) c.self.view_is c.self.invariant in
    let inside : at < length c.self.inside.packs.items = subst (λ (l : List PackState). at < length l) (sym items) c.requires.inside in
    let place : slice_get p.packs at ≡ Some pack = subst (λ (l : List PackState). slice_get l at ≡ Some pack) items (slice_get_read c.self.inside.packs.items (length c.self.inside.packs.items) at pack refl inside c.index_mut.ensures.value) in
    let is : pack_in file.group p.packs ≡ Some pack = sym c.requires.place ∙ place in
    let fills : Fills pack file.ino (content_over p old file c.args.came.now) (working_of c.args.came.now) old = subst (λ (n : ℕ). Fills pack n (content_over p old file c.args.came.now) (working_of c.args.came.now) old) c.requires.own (subst (λ (o : Option PackState). FillsAt o c.args.ino (content_over p old file c.args.came.now) (working_of c.args.came.now) old) is c.requires.fills) in
    let w = working_of c.args.came.now in
    let blocks = blocks_over (copy_of pack.copies c.args.ino) w in
    let there : blocks ≡ blocks_at (pack_in file.group p.packs) c.args.ino w = sym (ap (λ (o : Option PackState). blocks_at o c.args.ino w) is) in
    let before = (M c.args.disk.now).passing in
    let after = (M c.adopt.new.disk).passing in
    subst (λ (n : ℕ). TellsMany (store_calls n (copy_at p old file) c.adopt.result) before after (commit_answer c.adopt.result)) there
    (subst (λ (n : ℕ). TellsMany n before after (commit_answer c.adopt.result)) (calls_same blocks (copy_of pack.copies file.ino) (copy_at p old file) c.adopt.result (had_copy p old at file pack c.args.version (content_over p old file c.args.came.now) (working_of c.args.came.now) are c.requires.stands.shown place is c.requires.whole.low c.requires.whole.high (omega arith) c.requires.whole.version fills))
    (subst (λ (n : ℕ). TellsMany (commit_calls blocks (copy_of pack.copies n) c.adopt.result) before after (commit_answer c.adopt.result)) c.requires.own c.adopt.ensures.tells))

pub returns-clause-none : goal.returns-clause-none
returns-clause-none g c =
    let M = g.D.Disk.moment in
    let p = c.args.self.now in
    let old = (M c.args.disk.now).seen in
    let at = c.args.at in
    let file = c.args.file in
    let pack = c.index_mut.result.now in
    let items = ap (λ (q : PacksState). q.packs) c.self.view_is in
    let are = subst (λ (q : PacksState). ArePacks 0 0 q.site q.packs) c.self.view_is c.self.invariant in
    let inside : at < length c.self.inside.packs.items = subst (λ (l : List PackState). at < length l) (sym items) c.requires.inside in
    let place : slice_get p.packs at ≡ Some pack = subst (λ (l : List PackState). slice_get l at ≡ Some pack) items (slice_get_read c.self.inside.packs.items (length c.self.inside.packs.items) at pack refl inside c.index_mut.ensures.value) in
    let is : pack_in file.group p.packs ≡ Some pack = sym c.requires.place ∙ place in
    let new = (M c.adopt.new.disk).seen in
    let torn = (c.adopt.ensures.any_moment.each new (g.met.D.Disk.counts_now c.adopt.new.disk (M c.args.disk.now).now new c.adopt.ensures.any_moment.later (g.met.D.Disk.reads_an_image c.adopt.new.disk))).outside in
    none_after p at pack c.adopt.new.self c.args.ino c.args.version (working_of c.args.came.now) old (M c.adopt.new.disk) c.adopt.result are place c.requires.stands.shown torn c.adopt.ensures.good c.adopt.ensures.copies c.adopt.ensures.stands

pub returns-clause-cut : goal.returns-clause-cut
returns-clause-cut g c passed told =
    let M = g.D.Disk.moment in
    let p = c.args.self.now in
    let old = (M c.args.disk.now).seen in
    let at = c.args.at in
    let file = c.args.file in
    let pack = c.index_mut.result.now in
    let items = ap (λ (q : PacksState). q.packs) c.self.view_is in
    let are = subst (λ (q : PacksState). ArePacks 0 0 q.site q.packs) c.self.view_is c.self.invariant in
    let inside : at < length c.self.inside.packs.items = subst (λ (l : List PackState). at < length l) (sym items) c.requires.inside in
    let place : slice_get p.packs at ≡ Some pack = subst (λ (l : List PackState). slice_get l at ≡ Some pack) items (slice_get_read c.self.inside.packs.items (length c.self.inside.packs.items) at pack refl inside c.index_mut.ensures.value) in
    let is : pack_in file.group p.packs ≡ Some pack = sym c.requires.place ∙ place in
    let fills : Fills pack file.ino (content_over p old file c.args.came.now) (working_of c.args.came.now) old = subst (λ (n : ℕ). Fills pack n (content_over p old file c.args.came.now) (working_of c.args.came.now) old) c.requires.own (subst (λ (o : Option PackState). FillsAt o c.args.ino (content_over p old file c.args.came.now) (working_of c.args.came.now) old) is c.requires.fills) in
    let w = working_of c.args.came.now in
    let how = (M c.args.disk.now).how in
    let new = (M c.adopt.new.disk).left in
    let blocks = blocks_over (copy_of pack.copies c.args.ino) w in
    let there : blocks ≡ blocks_at (pack_in file.group p.packs) c.args.ino w = sym (ap (λ (o : Option PackState). blocks_at o c.args.ino w) is) in
    let made = copy_made file c.args.version (content_over p old file c.args.came.now) in
    subst (λ (n : ℕ). OnErr (commit_answer c.adopt.result) (IsCut p made n how passed old new)) there
    (on_commit c.adopt.result (IsCutCommit pack file.ino (new_version pack.base file.ino c.args.version w old) blocks how passed old new) (IsCut p made blocks how passed old new)
    (cut_left p old at file pack c.args.version (content_over p old file c.args.came.now) (working_of c.args.came.now) are c.requires.stands.shown place is c.requires.whole.low c.requires.whole.high (omega arith) c.requires.whole.version fills blocks how passed new)
    (subst (λ (n : ℕ). OnErr (commit_answer c.adopt.result) (IsCutCommit pack n (new_version pack.base n c.args.version w old) blocks how passed old new)) c.requires.own (c.adopt.ensures.cut passed told)))
