-- What a site wants after a packet of its epoch, by the packet's kind; and after an adoption.
use Rattle.std.proofs.Common.{◌≡◌, ℕ, ◌+◌, ◌<◌, Bool, true, false, cond, List, [], ◌∷◌, ◌++◌, length, Option, Some, None, refl, sym, ◌∙◌, ap, subst, ◌⊎◌, inl, inr}
use Rattle.role_steps.proofs.of_plain_facts.Options.{none_some, some_same}
use Rattle.locus_ids.specs.declared.config.Config.{Config}
use Rattle.locus_ids.specs.declared.ids.EpochId.{EpochId}
use Rattle.locus_ids.specs.declared.ids.FileId.{FileId}
use Rattle.locus_ids.specs.declared.ids.Kind.{Kind}
use Rattle.locus_ids.specs.declared.ids.Stamp.{Stamp}
use Rattle.locus_ids.specs.declared.sites.Sites.{Sites}
use Rattle.locus_ids.specs.Sizes.{inode_span}
use Rattle.commit_graph.specs.Vectors.{vector_of}
use Rattle.commit_graph.specs.Versions.{content_of as version_content, same_stamp}
use Rattle.file_content.specs.Pages.{pages_of}
use Rattle.trace_book.specs.declared.record.Record.{Record}
use Rattle.trace_book.specs.declared.record.Record.TheVariants as says
use Rattle.wire_messages.specs.declared.body.Body.{Body}
use Rattle.wire_messages.specs.declared.body.Body.TheVariants as body
use Rattle.wire_messages.specs.declared.packet.Packet.{Packet}
use Rattle.role_steps.specs.Looks.{LookRequest}
use Rattle.role_steps.specs.Mends.{mending}
use Rattle.role_steps.specs.Operations.{on_op, on_read_held}
use Rattle.role_steps.specs.Own.{Every}
use Rattle.role_steps.specs.Pulling.{begins_pull, goes_on, is_awaited, is_complete, is_delta, next_asked, on_delta, on_delta_of, on_notify, on_page, on_page_of, pages_in, pull_key, pull_of, pull_over, pull_packets, replaces_pull}
use Rattle.role_steps.specs.Storage.{copy_of, delta_of, instance_of, on_close, on_closed_ok, on_look_ss, on_open_ss, on_pull, pages_since, steps_of, wanted_delta}
use Rattle.role_steps.specs.Tables.{with_row}
use Rattle.role_steps.specs.Versions.{is_below}
use Rattle.role_steps.specs.Views.{Frame, SiteView, Store, Told, Shown, Outcome, packet, quiet, sends}
use Rattle.role_steps.specs.declared.copies.FileCopy.{FileCopy}
use Rattle.role_steps.specs.declared.pulls.Pull.{Pull}
use Rattle.role_steps.specs.declared.synchronizing.SyncTable.{SyncTable}
use Rattle.the_run.specs.Roles.{IsForStore, IsForReader, IsForPull}
use Rattle.the_run.proofs.Roles.{by_role, tables_of, users_by}
use Rattle.the_run.proofs.Rows.{Found}
use Rattle.the_run.specs.Steps.{at_store, at_table_of, from_user, group_of, takes_inside, with_pulls}
use Rattle.the_run.specs.Worlds.{Line, told_onto}
use Rattle.tree_model.specs.Files.{HeldVersion, held_version}
use Rattle.tree_model.specs.Histories.{history}
use Rattle.row_laws.specs.of_run_laws.Walks.Laws.{TablePart}
use Rattle.row_laws.proofs.of_site_laws.Locks.StepFacts.{delta_silent, notify_silent, page_silent}
use Rattle.tree_laws.specs.Deltas.{BaseFact, DifferIn, IsBased, PullsAbove, WantFact, WantsOver}
use Rattle.tree_laws.specs.Doing.{AllTold, IsOfStore, IsReceived, IsStoreRecord, PullsFact, PullsFine, StoreFine}
use Rattle.tree_laws.specs.Instances.{Stands}
use Rattle.tree_laws.specs.Packets.{BodyFact, NotifyFact, PacketFact}
use Rattle.tree_laws.specs.Printed.{entries}
use Rattle.tree_laws.specs.Stores.{Ascends, PullFact}
use Rattle.store_laws.proofs.Serving.{IsCopy, copy_is}
use Rattle.store_laws.proofs.Tabled.{ascends_row, row_found, row_same}
use Rattle.tree_laws.proofs.Orders.Standing.{same_stamp_eq}
use Rattle.store_laws.specs.OneTree.Places.{InsideFact}
use Rattle.store_laws.specs.OneTree.Rest.{AllRest}
use Rattle.store_laws.specs.OneTree.Roles.{Ready, RolesDo}
use Rattle.store_laws.specs.OneTree.Wants.{DeltaOf, IsTidy}
use Rattle.store_laws.proofs.OneTree.WantsLines.{delta_wants, notify_wants, page_wants}
use Rattle.store_laws.proofs.OneTree.WantsParts.{PartWants, SentSo, plain_wants}
use Rattle.store_laws.proofs.OneTree.WantsSites.{IsKeptRecord, IsPlainPart, NoAdoption, PlainSent, answers_plain, of_plain, plain_law, quiet_part, tables_plain, users_plain}
use Rattle.store_laws.proofs.OneTree.WantsStores.{on_close_sent, on_closed_ok_sent, on_look_ss_sent, on_op_sent, on_open_ss_sent, on_pull_sent, on_read_held_sent}

-- ---- what tells no adoption ----

store_record : (t : List Line) (me : ℕ) (e : EpochId) (r : Record) → IsStoreRecord t me e r → IsKeptRecord r
store_record t me e (says.Act at inst number o result) h = tt
store_record t me e (says.Commit file site stamp parents content) h = tt
store_record t me e _ h = absurd h

store_told : (t : List Line) (me : ℕ) (e : EpochId) (x : Told) → IsOfStore t me e x → NoAdoption x
store_told t me e (Shown r) h = store_record t me e r h
store_told t me e _ h = tt

stores_tell : (t : List Line) (me : ℕ) (e : EpochId) (xs : List Told) → Every (IsOfStore t me e) xs → Every NoAdoption xs
stores_tell t me e [] h = tt
stores_tell t me e (x ∷ xs) h = (store_told t me e x h.0, stores_tell t me e xs h.1)

-- ---- parts that leave pulls ----

table_part : (me : ℕ) (g : SyncTable → Outcome SyncTable) (o : Option SyncTable) (v : SiteView) → Found plain_law.table o → ((t : SyncTable) → plain_law.table t → TablePart plain_law t (g t)) → IsPlainPart me v (at_table_of g o v)
table_part me g None v found k = quiet_part me v
table_part me g (Some t) v found k = (let p : TablePart plain_law t (g t) = k t found in record { sent = p.0; told = p.1; goes = inl (refl, refl); ascends = λ h. h })

store_part : (c : Config) (n : ℕ) (trace : List Line) (f : Frame) (g : Store → Outcome Store) (v : SiteView) → Every PlainSent (g v.store).sent → StoreFine c n trace f v.store (g v.store) → IsPlainPart f.me v (at_store g v)
store_part c n trace f g v sent k = record { sent = sent; told = stores_tell trace f.me f.epoch (g v.store).told k.own; goes = inl (refl, refl); ascends = λ h. h }

-- ---- pulls ----

-- over what it has, a site wants what it pulls
own_want : (c : Config) (trace : List Line) (e : EpochId) (me : ℕ) (ps : List Pull) (p : Pull) (base : Stamp) → PullFact c trace e me p → pull_of ps p.file ≡ Some p → p.base ≡ Some base → WantsOver c trace me ps p.file p.stamp base
own_want c trace e me ps p base k found is = over p.base k.based is
  where
    vector_is : p.vector ≡ vector_of (history c (entries trace)) p.file p.stamp
    vector_is = sym k.vector_is ∙ (ap (λ (y : HeldVersion). y.vector) k.is_version.same ∙ ap (vector_of (history c (entries trace)) p.file) k.stamp_is)

    based : (own : Stamp) → IsBased c trace (held_version c (entries trace) me p.file) p own → own ≡ base → WantsOver c trace me ps p.file p.stamp base
    based own b same = record { now = b.now; held = b.has; over = at b.over }
      where
        at : (b.now.stamp ≡ own) ⊎ (is_below b.now.vector p.vector ≡ false) → ((b.now.stamp ≡ base) × ((q : Pull) × (pull_of ps p.file ≡ Some q) × PullsAbove c trace p.file p.stamp base q)) ⊎ (is_below b.now.vector (vector_of (history c (entries trace)) p.file p.stamp) ≡ false)
        at (inl s) = inl (s ∙ same, (p, found, record { base_is = is; above = inl refl }))
        at (inr s) = inr (subst (λ (y : List ℕ). is_below b.now.vector y ≡ false) vector_is s)

    over : (o : Option Stamp) → BaseFact c trace (held_version c (entries trace) me p.file) p o → o ≡ Some base → WantsOver c trace me ps p.file p.stamp base
    over None b q = absurd (none_some base q)
    over (Some own) b q = based own b (some_same own base q)

module _ (c : Config) (trace : List Line) (f : Frame) (v : SiteView) (came : Option Packet) (p : Pull) (k : PullFact c trace f.epoch f.me p) (found : pull_of v.pulls p.file ≡ Some p) where
  asked_so : (base : Option Stamp) (wanted : Option (List ℕ)) → p.base ≡ base → SentSo c trace f.me v came (packet f p.holder (next_asked p base wanted))
  asked_so (Some own) None is = (refl, λ x here same. own_want c trace f.epoch f.me v.pulls p own k found is)
  asked_so (Some own) (Some pages) is = tt
  asked_so None wanted is = tt

  pub pulls_so : Every (SentSo c trace f.me v came) (pull_packets f p)
  pulls_so = over (is_complete p)
    where
      over : (b : Bool) → Every (SentSo c trace f.me v came) (cond b [] (packet f p.holder (next_asked p p.base p.wanted) ∷ []))
      over true = tt
      over false = (asked_so p.base p.wanted refl, tt)

-- what goes on to be pulled
goes_so : (c : Config) (trace : List Line) (f : Frame) (v : SiteView) (came : Option Packet) (p : Pull) (ps : List Pull) → PullsFact c f trace (goes_on f p ps).view → Every (SentSo c trace f.me (with_pulls v (goes_on f p ps).view) came) (goes_on f p ps).sent
goes_so c trace f v came p ps k = pulls_so c trace f (with_pulls v (with_row pull_key p ps)) came p (row_found pull_key (pull_key p) (with_row pull_key p ps) p (PullFact c trace f.epoch f.me) (row_same pull_key p ps) k).0 (row_same pull_key p ps)

-- what comes of a notice, a delta and a page: nothing, a Have, or a pull that goes on
notify_is : (f : Frame) (from : ℕ) (own : Option FileCopy) (p : Pull) (ps : List Pull) (Q : Outcome (List Pull) → Type 0) → Q (sends (packet f from (body.Have p.file p.stamp) ∷ []) ps) → Q (quiet ps) → Q (goes_on f (pull_over own p) ps) → Q (on_notify f from own p ps)
notify_is f from own p ps Q has still goes = over own goes
  where
    begins : (o : Option FileCopy) → Q (goes_on f (pull_over o p) ps) → (b : Bool) → Q (elim b as (λ (z : Bool). Outcome (List Pull)) [ true ↦ goes_on f (pull_over o p) ps | false ↦ quiet ps ])
    begins o g true = g
    begins o g false = still

    above : (x : FileCopy) → Q (goes_on f (pull_over (Some x) p) ps) → (b : Bool) → Q (elim b as (λ (z : Bool). Outcome (List Pull)) [ true ↦ begins_pull f (Some x) p ps | false ↦ quiet ps ])
    above x g true = begins (Some x) g (replaces_pull (Some x) p (pull_of ps p.file))
    above x g false = still

    known : (x : FileCopy) → Q (goes_on f (pull_over (Some x) p) ps) → (b : Bool) → Q (elim b as (λ (z : Bool). Outcome (List Pull)) [ true ↦ sends (packet f from (body.Have p.file p.stamp) ∷ []) ps | false ↦ elim (is_below x.vector p.vector) [ true ↦ begins_pull f (Some x) p ps | false ↦ quiet ps ] ])
    known x g true = has
    known x g false = above x g (is_below x.vector p.vector)

    over : (o : Option FileCopy) → Q (goes_on f (pull_over o p) ps) → Q (on_notify f from o p ps)
    over None g = begins None g (replaces_pull None p (pull_of ps p.file))
    over (Some x) g = known x g (same_stamp x.stamp p.stamp)

page_is : (f : Frame) (file : FileId) (stamp : Stamp) (page : ℕ) (bytes : List ℕ) (ps : List Pull) (Q : Outcome (List Pull) → Type 0) → Q (quiet ps) → ((p : Pull) → Q (goes_on f (record p { content = p.content ++ bytes }) ps)) → Q (on_page f file stamp page bytes ps)
page_is f file stamp page bytes ps Q still goes = over (pull_of ps file)
  where
    at : (p : Pull) (b : Bool) → Q (elim b as (λ (z : Bool). Outcome (List Pull)) [ true ↦ goes_on f (record p { content = p.content ++ bytes }) ps | false ↦ quiet ps ])
    at p true = goes p
    at p false = still

    over : (o : Option Pull) → Q (on_page_of f stamp page bytes o ps)
    over None = still
    over (Some p) = at p (is_awaited p stamp page bytes)

delta_is : (f : Frame) (own : Option FileCopy) (file : FileId) (stamp : Stamp) (pages : List ℕ) (ps : List Pull) (Q : Outcome (List Pull) → Type 0) → Q (quiet ps) → ((p : Pull) → Q (goes_on f (record p { wanted = Some pages }) ps)) → Q (on_delta f own file stamp pages ps)
delta_is f own file stamp pages ps Q still goes = over (pull_of ps file)
  where
    at : (p : Pull) (b : Bool) → Q (elim b as (λ (z : Bool). Outcome (List Pull)) [ true ↦ goes_on f (record p { wanted = Some pages }) ps | false ↦ quiet ps ])
    at p true = goes p
    at p false = still

    over : (o : Option Pull) → Q (on_delta_of f (pages_in own) stamp pages o ps)
    over None = still
    over (Some p) = at p (is_delta (pages_in own) p stamp pages)

-- the pulls after it are a row more, or as they were
abbrev RowMore : List Pull → Outcome (List Pull) → Type 0
RowMore ps o = Ascends pull_key ps → Ascends pull_key o.view

-- what comes in the epoch and is about pulls: nothing is told
pulls_part : (c : Config) (n : ℕ) (trace : List Line) (f : Frame) (v : SiteView) (came : Option Packet) (o : Outcome (List Pull)) → o.told ≡ [] → PullsFine c n trace f o → RowMore v.pulls o →
    ((g : FileId) (wanted own : Stamp) → Stands c trace g wanted → WantsOver c trace f.me v.pulls g wanted own → WantsOver c trace f.me o.view g wanted own) →
    (PullsFact c f trace o.view → Every (SentSo c trace f.me (with_pulls v o.view) came) o.sent) → PartWants c n trace f.me v (with_pulls v o.view) o.told came o.sent
pulls_part c n trace f v came o silent k rises keeps sent = record {
  stays = λ e g wanted own stands joined w x here is. subst (λ (told : List Told). WantsOver c (told_onto n told trace) f.me o.view g wanted own) (sym silent) (keeps g wanted own stands (w x here is));
  rises = rises;
  asks = subst (λ (told : List Told). Every (SentSo c (told_onto n told trace) f.me (with_pulls v o.view) came) o.sent) (sym silent) (sent (subst (λ (told : List Told). PullsFact c f (told_onto n told trace) o.view) silent k.view));
}

-- ---- by kind ----

module _ (c : Config) (roles : RolesDo c) (n : ℕ) (trace : List Line) (f : Frame) (p : Packet) (v : SiteView) (ready : Ready c trace f) (h : InsideFact c f trace v) (tidy : IsTidy v) (r : IsReceived f p) where
  narrow : (file : FileId) (stamp : Stamp) → Stands c trace file stamp → file.ino < inode_span
  narrow file stamp stands = roles.stores.narrow trace ready.past file stamp stands

  abbrev Wants : Outcome SiteView → Type 0
  Wants o = AllTold c n trace o.told → AllRest c n trace o.told → PartWants c n trace f.me v o.view o.told (Some p) o.sent

  plain : (o : Outcome SiteView) → (AllRest c n trace o.told → IsPlainPart f.me v o) → Wants o
  plain o k may rest = plain_wants c n trace f.me v o (Some p) ready.past may rest (k rest)

  -- what no instance, no reader and no pull takes
  abbrev Apart : Body → Outcome SiteView → Type 0
  Apart x o = (IsForStore x → ⊥) → (IsForReader x → ⊥) → (IsForPull x → ⊥) → IsPlainPart f.me v o

  apart_part : (x : Body) → Apart x (takes_inside f p.from x v)
  apart_part x = by_role Apart f p.from v (record {
    tables = tables_of Apart plain_law f p.from v (tables_plain f) (answers_plain f p.from) tidy.looks (λ y g o is found k a b e. table_part f.me g o v found k);
    stores = λ y is a b e. absurd (a is);
    readers = λ y is a b e. absurd (b is);
    users = users_by Apart plain_law f p.from v (users_plain f) (λ y o is k a b e. record { sent = k.0; told = k.1; goes = inl (refl, refl); ascends = λ m. m });
    pulls = λ y is a b e. absurd (e is);
    reported = λ group a b e. record { sent = tt; told = tt; goes = inl (refl, refl); ascends = λ m. m };
    forming = λ y is a b e. quiet_part f.me v;
  }) x

  -- the answer to a want
  want_so : (file : FileId) (wanted own : Stamp) → p.body ≡ body.Want file wanted own → Stands c trace file wanted → Stands c trace file own → (o : Option FileCopy) → ((x : FileCopy) → o ≡ Some x → IsCopy c trace f.me file x) → Every (SentSo c trace f.me v (Some p)) (wanted_delta f p.from file wanted own v.store o)
  want_so file wanted own q one two None are = tt
  want_so file wanted own q one two (Some x) are = over (same_stamp x.stamp wanted) refl
    where
      content_is : same_stamp x.stamp wanted ≡ true → version_content (history c (entries trace)) file wanted ≡ x.content
      content_is e = sym (ap (λ (y : FileCopy). y.content) (are x refl).same ∙ ap (version_content (history c (entries trace)) file) (sym (ap (λ (y : FileCopy). y.stamp) (are x refl).same) ∙ same_stamp_eq x.stamp wanted e))

      differ : same_stamp x.stamp wanted ≡ true → DifferIn c trace file own wanted (delta_of (pages_of (length x.content)) (pages_since own wanted (steps_of file v.store.steps)))
      differ e = subst (λ (xs : List ℕ). DifferIn c trace file own wanted (delta_of (pages_of (length xs)) (pages_since own wanted (steps_of file v.store.steps)))) (content_is e) (roles.stores.differs trace f file wanted own v.store ready h.store one two)

      over : (b : Bool) → same_stamp x.stamp wanted ≡ b → Every (SentSo c trace f.me v (Some p)) (cond b (packet f p.from (body.Delta file wanted (delta_of (pages_of (length x.content)) (pages_since own wanted (steps_of file v.store.steps)))) ∷ []) [])
      over true e = ((own, q, refl, sym r.epoch_is, differ e), tt)
      over false e = tt

  notify_low : (file : FileId) (kind : Kind) (set : Sites) (size : ℕ) (stamp : Stamp) (vector : List ℕ) (holder : ℕ) → p.body ≡ body.Notify file kind set size stamp vector holder → PacketFact c trace p → file.ino < inode_span
  notify_low file kind set size stamp vector holder q fact = (let k : NotifyFact c trace p.epoch p.to file kind set size stamp vector holder = subst (BodyFact c trace p) q fact in narrow file k.version.stamp k.is_version.stands)

  want_fact : (file : FileId) (wanted own : Stamp) → p.body ≡ body.Want file wanted own → PacketFact c trace p → Stands c trace file wanted × Stands c trace file own
  want_fact file wanted own q fact = (let k : WantFact c trace p.epoch p.from file wanted own = subst (BodyFact c trace p) q fact in (k.wanted_stands, k.own_stands))

  pub inside_wants : (b : Body) → p.body ≡ b → PacketFact c trace p → DeltaOf c trace f.me v.pulls b → Wants (takes_inside f p.from b v)
  inside_wants (body.OpenSs inst file mode set kind base vector parents) q fact d = plain (takes_inside f p.from (body.OpenSs inst file mode set kind base vector parents) v)
      (λ rest. store_part c n trace f (on_open_ss f (record { inst = inst; file = file; mode = mode; set = set; kind = kind; base = base; vector = vector; parents = parents })) v
      (on_open_ss_sent PlainSent f (of_plain f) (record { inst = inst; file = file; mode = mode; set = set; kind = kind; base = base; vector = vector; parents = parents }) v.store)
      (roles.stores.opens n trace f p (record { inst = inst; file = file; mode = mode; set = set; kind = kind; base = base; vector = vector; parents = parents }) v.store ready h.store (record { received = r; body_is = q; fact = fact }) rest))
  inside_wants (body.Op serial k o seen) q fact d = plain (takes_inside f p.from (body.Op serial k o seen) v)
      (λ rest. store_part c n trace f (on_op f (mending v (group_of (instance_of v.store (from_user p.from serial)))) (from_user p.from serial) k o seen) v
      (on_op_sent PlainSent f (of_plain f) (mending v (group_of (instance_of v.store (from_user p.from serial)))) (from_user p.from serial) k o seen v.store)
      (roles.stores.acts n trace f p serial k o seen v ready h (record { received = r; body_is = q; fact = fact }) rest))
  inside_wants (body.ReadHeld serial k at len) q fact d = plain (takes_inside f p.from (body.ReadHeld serial k at len) v)
      (λ rest. store_part c n trace f (on_read_held f (from_user p.from serial) k at len) v (on_read_held_sent PlainSent f (of_plain f) (from_user p.from serial) k at len v.store)
      (roles.stores.reads n trace f p serial k at len v.store ready h.store (record { received = r; body_is = q; fact = fact }) rest))
  inside_wants (body.Close serial) q fact d = plain (takes_inside f p.from (body.Close serial) v)
      (λ rest. store_part c n trace f (on_close f (from_user p.from serial)) v (on_close_sent PlainSent f (of_plain f) (from_user p.from serial) v.store)
      (roles.stores.closes n trace f p serial v.store ready h.store (record { received = r; body_is = q; fact = fact }) rest))
  inside_wants (body.ClosedOk inst) q fact d = plain (takes_inside f p.from (body.ClosedOk inst) v)
      (λ rest. store_part c n trace f (on_closed_ok f inst) v (on_closed_ok_sent PlainSent f (of_plain f) inst v.store) (roles.stores.ends n trace f p inst v.store ready h.store (record { received = r; body_is = q; fact = fact }) rest))
  inside_wants (body.LookSs us call process request take file what serve) q fact d =
      (let l : LookRequest = record { call = call; process = process; request = request; take = take; file = file; what = what } in
      plain (takes_inside f p.from (body.LookSs us call process request take file what serve) v) (λ rest. store_part c n trace f (on_look_ss f us l serve) v (on_look_ss_sent PlainSent f (of_plain f) us l serve v.store)
      (roles.stores.serves n trace f p us l serve v.store ready h.store (record { received = r; body_is = q; fact = fact }) rest)))
  inside_wants (body.Notify file kind set size stamp vector holder) q fact d = λ may rest.
      (let new : Pull = record { file = file; kind = kind; set = set; size = size; stamp = stamp; vector = vector; holder = holder; base = None; wanted = None; content = [] } in
      let k : PullsFine c n trace f (on_notify f p.from (copy_of v.store file) new v.pulls) = roles.pulls.notified n trace f p new v.store v.pulls ready h.store h.pulls refl (record { received = r; body_is = q; fact = fact }) in
      pulls_part c n trace f v (Some p) (on_notify f p.from (copy_of v.store file) new v.pulls) (notify_silent f p.from (copy_of v.store file) new v.pulls).0 k
      (notify_is f p.from (copy_of v.store file) new v.pulls (RowMore v.pulls) (λ a. a) (λ a. a) (λ a. ascends_row pull_key (pull_over (copy_of v.store file) new) v.pulls a))
      (λ g wanted own stands w. notify_wants c trace narrow f v.store h.store.copies v.pulls h.pulls new (notify_low file kind set size stamp vector holder q fact) g (narrow g wanted stands) wanted own p.from w)
      (notify_is f p.from (copy_of v.store file) new v.pulls (λ (o : Outcome (List Pull)). PullsFact c f trace o.view → Every (SentSo c trace f.me (with_pulls v o.view) (Some p)) o.sent) (λ a. (tt, tt)) (λ a. tt)
      (λ a. goes_so c trace f v (Some p) (pull_over (copy_of v.store file) new) v.pulls a)))
  inside_wants (body.Page file stamp page bytes) q fact d = λ may rest.
      pulls_part c n trace f v (Some p) (on_page f file stamp page bytes v.pulls) (page_silent f stamp page bytes (pull_of v.pulls file) v.pulls).0 (roles.pulls.paged n trace f p file stamp page bytes v.pulls ready h.pulls (record { received = r; body_is = q; fact = fact }))
      (page_is f file stamp page bytes v.pulls (RowMore v.pulls) (λ a. a) (λ x a. ascends_row pull_key (record x { content = x.content ++ bytes }) v.pulls a))
      (λ g wanted own stands w. page_wants c trace f v.pulls file stamp page bytes g wanted own w)
      (page_is f file stamp page bytes v.pulls (λ (o : Outcome (List Pull)). PullsFact c f trace o.view → Every (SentSo c trace f.me (with_pulls v o.view) (Some p)) o.sent) (λ a. tt) (λ x a. goes_so c trace f v (Some p) (record x { content = x.content ++ bytes }) v.pulls a))
  inside_wants (body.Delta file wanted pages) q fact d = λ may rest.
      pulls_part c n trace f v (Some p) (on_delta f (copy_of v.store file) file wanted pages v.pulls) (delta_silent f (pages_in (copy_of v.store file)) wanted pages (pull_of v.pulls file) v.pulls).0
      (roles.pulls.told n trace f p (copy_of v.store file) file wanted pages v.pulls ready h.pulls (record { received = r; body_is = q; fact = fact }) d)
      (delta_is f (copy_of v.store file) file wanted pages v.pulls (RowMore v.pulls) (λ a. a) (λ x a. ascends_row pull_key (record x { wanted = Some pages }) v.pulls a))
      (λ g w own stands k. delta_wants c trace f v.pulls (copy_of v.store file) file wanted pages g w own k)
      (delta_is f (copy_of v.store file) file wanted pages v.pulls (λ (o : Outcome (List Pull)). PullsFact c f trace o.view → Every (SentSo c trace f.me (with_pulls v o.view) (Some p)) o.sent) (λ a. tt) (λ x a. goes_so c trace f v (Some p) (record x { wanted = Some pages }) v.pulls a))
  inside_wants (body.Pull file stamp page) q fact d = plain (takes_inside f p.from (body.Pull file stamp page) v)
      (λ rest. store_part c n trace f (on_pull f p.from file stamp page) v (on_pull_sent PlainSent f (of_plain f) p.from file stamp page v.store) (roles.stores.gives n trace f p file stamp page v.store ready h.store (record { received = r; body_is = q; fact = fact }) rest))
  inside_wants (body.Want file wanted own) q fact d = λ may rest. record {
    stays = λ e g w o stands joined k. k;
    rises = λ k. k;
    asks = want_so file wanted own q (want_fact file wanted own q fact).0 (want_fact file wanted own q fact).1 (copy_of v.store file) (λ x e. copy_is c trace ready.past.followed f.me v.store h.store.copies file (narrow file wanted (want_fact file wanted own q fact).0) x e);
  }
  inside_wants x q fact d = plain (takes_inside f p.from x v) (λ rest. apart_part x (λ k. k) (λ k. k) (λ k. k))
