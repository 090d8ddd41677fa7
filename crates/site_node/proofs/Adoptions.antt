-- The adoption of a site, by the choice among its pulls.
use Rattle.std.proofs.Common.{◌≡◌, ℕ, Bool, true, false, cond, ◌&&◌, List, [], ◌∷◌, ◌++◌, Option, None, Some, refl, sym, ap, ◌∙◌, subst}
use Rattle.std.specs.Prelude.{Result}
use Rattle.role_steps.proofs.of_plain_facts.Tests.{and_first}
use Rattle.disk_model.specs.Disk.{Moment}
use Rattle.wire_messages.specs.Outboxes.{Outgoing}
use Rattle.role_steps.specs.Tables.{row, with_row, without_row}
use Rattle.role_steps.specs.Storage.{content_of, copy_key, stamp_of, with_step}
use Rattle.role_steps.specs.declared.copies.Step.{Step}
use Rattle.role_steps.specs.declared.copies.FileCopy.{FileCopy}
use Rattle.trace_book.specs.declared.record.Record.TheVariants as says
use Rattle.wire_messages.specs.declared.body.Body.TheVariants as body
use Rattle.role_steps.specs.Views.{DiskWrite, Frame, SiteView, Outcome, quiet, to_sync}
use Rattle.role_steps.specs.Pulling.{is_complete, pull_key, wanted_pages}
use Rattle.role_steps.specs.Epochs.{frame_in}
use Rattle.role_steps.specs.Adoption.{adopts_pull, content_adopted, content_laid, is_ready, notes_own, notes_own_at, table_group, without_pull}
use Rattle.role_steps.specs.declared.pulls.Pull.{Pull}
use Rattle.role_steps.specs.declared.rounds.InEpoch.{InEpoch}
use Rattle.role_steps.specs.declared.synchronizing.SyncTable.{SyncTable}
use Rattle.locus_ids.specs.declared.config.Config.{Config}
use Rattle.locus_ids.specs.declared.ids.Stamp.{Stamp}
use Rattle.site_packs.specs.Copies.{copies_on}
use Rattle.site_packs.specs.Packs.{AreShown, PacksState, SamePlaces, Stand, copy_at, groups_of}
use Rattle.site_parts.specs.of_storage_site.of_store_instances.Stores.{StoreState}
use Rattle.the_run.specs.Steps.{adopts_in, adopts_of}
use Rattle.propagation.specs.Choosing.{Choice, adopted_of, chooses, without_chosen, without_one}
use Rattle.propagation.proofs.Choices.{adoption_chosen}
use Rattle.site_parts.specs.of_site_tables.Tables.{noting_own, noting_own_of}
use Rattle.site_node.specs.Views.{view_of, Moves}
use Rattle.site_node.specs.Adopting.{adopted_now, choice_at, fits_own_in}
use Rattle.site_node.specs.Writing.{EventWrites}
use Rattle.site_parts.specs.declared.fault.NodeFault.{NodeFault}
use Rattle.site_node.specs.declared.node.SiteNode.{SiteNode}
use Rattle.site_parts.proofs.of_site_tables.Giving.{gives_none, gives_as}
use Rattle.site_parts.proofs.Cuts.{content_come, copy_with}
use Rattle.site_node.proofs.Moving.{same_places}

notes_of : (f : Frame) (p : Pull) (o : Option SyncTable) (v : SiteView) → notes_own_at f p o v ≡ record v { tables = noting_own_of f.me p.file p.stamp o v.tables }
notes_of f p None v = refl
notes_of f p (Some t) v = refl

notes_as : (f : Frame) (p : Pull) (v : SiteView) → notes_own f p v ≡ record v { tables = noting_own f.me p.file p.stamp v.tables }
notes_as f p v = notes_of f p (row table_group p.file.group v.tables) v

-- the adoption of a pull is what is done once it was taken out
pub adopts_taken : (f : Frame) (p : Pull) (v : SiteView) → adopts_pull f p v ≡ adopted_now f p (without_pull p v)
adopts_taken f p v = ap (λ (w : SiteView). record (adopts_pull f p v) { view = w }) (notes_as f p (adopted_view f p v)) where
  adopted_view : Frame → Pull → SiteView → SiteView
  adopted_view f p v = record (adopted_now f p (without_pull p v)).view { tables = v.tables }

abbrev chosen_as : Frame → SiteView → Choice → Outcome SiteView
chosen_as f v c = adopted_of f (record v { pulls = c.pulls }) c.chosen

by_none : (f : Frame) (v : SiteView) (c : Choice) → ◌≡◌ {A = Option Pull} None c.chosen → chosen_as f v c ≡ quiet (record v { pulls = without_chosen c })
by_none f v c e = ap (adopted_of f (record v { pulls = c.pulls })) (sym e) ∙ ap (λ (o : Option Pull). quiet (record v { pulls = without_one o c.pulls })) e

by_some : (f : Frame) (v : SiteView) (c : Choice) (p : Pull) → ◌≡◌ {A = Option Pull} (Some p) c.chosen → chosen_as f v c ≡ adopted_now f p (record v { pulls = without_chosen c })
by_some f v c p e = ap (adopted_of f (record v { pulls = c.pulls })) (sym e) ∙ (adopts_taken f p (record v { pulls = c.pulls }) ∙ ap (λ (o : Option Pull). adopted_now f p (record v { pulls = without_one o c.pulls })) e)

-- ---- the site ----

pub adopts_outside : (c : Config) (me : ℕ) (n : SiteNode) (m : Moment) (a : Outgoing) → Stand n.packs m → ◌≡◌ {A = Option InEpoch} None n.epochs.epoch → Moves (adopts_in c me) n m n m a a
adopts_outside c me n m a s e = record {
  gives = gives_as (quiet (view_of n m.seen)) (adopts_in c me (view_of n m.seen)) (view_of n m.seen) a a (ap (λ (o : Option InEpoch). adopts_of c me o (view_of n m.seen)) (sym e)) (gives_none (view_of n m.seen) a);
  stands = s;
  places = same_places n.packs n.packs refl;
  config = refl;
  me = refl;
}

-- the choice is of the site whatever its frame
pub adopts_inside : (c : Config) (me : ℕ) (e : InEpoch) (v : SiteView) → ◌≡◌ {A = Option InEpoch} (Some e) v.epoch → adopts_in c me v ≡ chosen_as (frame_in c me v.boot e) v (choice_at v)
adopts_inside c me e v h = ap (λ (o : Option InEpoch). adopts_of c me o v) (sym h) ∙ adoption_chosen (frame_in c me v.boot e) v

pub adopts_none : (c : Config) (me : ℕ) (e : InEpoch) (v : SiteView) → ◌≡◌ {A = Option InEpoch} (Some e) v.epoch → ◌≡◌ {A = Option Pull} None (choice_at v).chosen → adopts_in c me v ≡ quiet (record v { pulls = without_chosen (choice_at v) })
adopts_none c me e v h n = adopts_inside c me e v h ∙ by_none (frame_in c me v.boot e) v (choice_at v) n

pub adopts_some : (c : Config) (me : ℕ) (e : InEpoch) (p : Pull) (v : SiteView) → ◌≡◌ {A = Option InEpoch} (Some e) v.epoch → ◌≡◌ {A = Option Pull} (Some p) (choice_at v).chosen → adopts_in c me v ≡ adopted_now (frame_in c me v.boot e) p (record v { pulls = without_chosen (choice_at v) })
adopts_some c me e p v h n = adopts_inside c me e v h ∙ by_some (frame_in c me v.boot e) v (choice_at v) p n

-- the chosen pull is taken out, and adopted or not
pub adopted_none : (e : InEpoch) (n : SiteNode) (frame : Frame) (new : SiteNode) (m : Moment) (a : Outgoing) → Stand n.packs m → ◌≡◌ {A = Option InEpoch} (Some e) n.epochs.epoch → frame ≡ frame_in n.frame.config n.frame.me n.epochs.boot e
    → ((image : List ℕ) → AreShown n.packs.packs image → ◌≡◌ {A = Option Pull} None (choice_at (view_of n image)).chosen) → ((image : List ℕ) → AreShown n.packs.packs image → new ≡ record n { frame = frame; pulls = without_chosen (choice_at (view_of n image)) })
    → Moves (adopts_in n.frame.config n.frame.me) n m new m a a
adopted_none e n frame new m a s h f k q =
    let v : SiteView = view_of n m.seen in
    let pulls : List Pull = without_chosen (choice_at v) in
    subst (λ (x : SiteNode). Moves (adopts_in n.frame.config n.frame.me) n m x m a a) (sym (q m.seen s.shown)) (record {
      gives = gives_as (quiet (record v { pulls = pulls })) (adopts_in n.frame.config n.frame.me v) (record v { pulls = pulls }) a a (adopts_none n.frame.config n.frame.me e v h (k m.seen s.shown)) (gives_none (record v { pulls = pulls }) a);
      stands = s;
      places = same_places n.packs n.packs refl;
      config = ap (λ (x : Frame). x.config) f;
      me = ap (λ (x : Frame). x.me) f;
    })

pub adopted_some : (e : InEpoch) (p : Pull) (n : SiteNode) (frame : Frame) (mid new : SiteNode) (m o : Moment) (a b : Outgoing) → Stand n.packs m → ◌≡◌ {A = Option InEpoch} (Some e) n.epochs.epoch → frame ≡ frame_in n.frame.config n.frame.me n.epochs.boot e
    → ((image : List ℕ) → AreShown n.packs.packs image → ◌≡◌ {A = Option Pull} (Some p) (choice_at (view_of n image)).chosen) → ((image : List ℕ) → AreShown n.packs.packs image → mid ≡ record n { frame = frame; pulls = without_chosen (choice_at (view_of n image)) })
    → Moves (adopted_now mid.frame p) mid m new o a b → Moves (adopts_in n.frame.config n.frame.me) n m new o a b
adopted_some e p n frame mid new m o a b s h f k q w =
    let v : SiteView = view_of n m.seen in
    let x = subst (λ (y : SiteNode). Moves (adopted_now y.frame p) y m new o a b) (q m.seen s.shown) w in
    let y = subst (λ (d : Frame). Moves (adopted_now d p) (record n { frame = d; pulls = without_chosen (choice_at v) }) m new o a b) f x in record {
      gives = gives_as (adopted_now (frame_in n.frame.config n.frame.me n.epochs.boot e) p (record v { pulls = without_chosen (choice_at v) })) (adopts_in n.frame.config n.frame.me v) (view_of new o.seen) a b (adopts_some n.frame.config n.frame.me e p v h (k m.seen s.shown)) y.gives;
      stands = y.stands;
      places = y.places;
      config = y.config;
      me = y.me;
    }

-- the step that the adoption of a pull is, over this version
abbrev step_of : Pull → Option Stamp → List ℕ → Step
step_of p before pages = record { before = before; after = p.stamp; pages = pages }

module _ (p : Pull) (numbers came pages : List ℕ) (before : Option Stamp) (n : SiteNode) (packs : PacksState) (store : StoreState) (tables : List SyncTable) (m o : Moment)
    (numbered : numbers ≡ wanted_pages p) (filled : came ≡ p.content) (paged : pages ≡ wanted_pages p) (held : stamp_of (copy_at n.packs m.seen p.file) ≡ before)
    (copied : copies_on (groups_of n.packs) o.seen ≡ with_row copy_key (copy_with p (content_come p n.packs m.seen numbers came)) (copies_on (groups_of n.packs) m.seen)) (places : SamePlaces n.packs packs)
    (stored : store ≡ record n.store { steps = with_step p.file (step_of p before pages) n.store.steps }) (noted : tables ≡ noting_own n.frame.me p.file p.stamp n.tables) where
  abbrev own : List ℕ
  own = content_of (copy_at n.packs m.seen p.file)

  abbrev seen : List ℕ → List FileCopy
  seen content = with_row copy_key (copy_with p content) (copies_on (groups_of n.packs) m.seen)

  laid : content_come p n.packs m.seen numbers came ≡ content_adopted p own
  laid = λ i. content_laid p.size (numbered i) (filled i) own

  copies_so : copies_on (groups_of packs) o.seen ≡ seen (content_adopted p own)
  copies_so = ap (λ (gs : List ℕ). copies_on gs o.seen) places.groups ∙ (copied ∙ ap seen laid)

  step_so : step_of p before pages ≡ step_of p (stamp_of (copy_at n.packs m.seen p.file)) (wanted_pages p)
  step_so = ap (λ (b : Option Stamp). step_of p b pages) (sym held) ∙ ap (step_of p (stamp_of (copy_at n.packs m.seen p.file))) paged

  abbrev with_these : List FileCopy → StoreState → List SyncTable → SiteView
  with_these cs r ts = record (view_of n m.seen) { store = record { copies = cs; instances = r.instances; steps = r.steps }; tables = ts }

  abbrev stepped : Step → StoreState
  stepped x = record n.store { steps = with_step p.file x n.store.steps }

  view_so : view_of (record n { packs = packs; store = store; tables = tables }) o.seen ≡ (adopted_now n.frame p (view_of n m.seen)).view
  view_so =
      ap (λ (cs : List FileCopy). with_these cs store tables) copies_so
      ∙ (ap (λ (r : StoreState). with_these (seen (content_adopted p own)) r tables) (stored ∙ ap stepped step_so)
      ∙ ap (with_these (seen (content_adopted p own)) (stepped (step_of p (stamp_of (copy_at n.packs m.seen p.file)) (wanted_pages p)))) noted)

  -- a pulled version that was taken out is written, noted and told of
  pub adopted_moves : (me : ℕ) (a b d : Outgoing) → me ≡ n.frame.me → Stand packs o → b ≡ record a { records = a.records ++ says.Adopt p.file me p.stamp ∷ [] } → d.packets ≡ b.packets ++ to_sync n.frame p.file.group (body.Have p.file p.stamp) → d.records ≡ b.records
      → Moves (adopted_now n.frame p) n m (record n { packs = packs; store = store; tables = tables }) o a d
  adopted_moves me a b d i s f g h = record {
    gives = record {
      view = view_so;
      packets = g ∙ ap (λ (x : Outgoing). x.packets ++ to_sync n.frame p.file.group (body.Have p.file p.stamp)) f;
      records = h ∙ (ap (λ (x : Outgoing). x.records) f ∙ ap (λ (k : ℕ). a.records ++ says.Adopt p.file k p.stamp ∷ []) i);
    };
    stands = s;
    places = places;
    config = refl;
    me = refl;
  }

-- ---- what is written ----

pub outside_written : (c : Config) (me : ℕ) (v : SiteView) → ◌≡◌ {A = Option InEpoch} None v.epoch → (adopts_in c me v).written ≡ None
outside_written c me v e = ap (λ (o : Option InEpoch). (adopts_of c me o v).written) (sym e)

pub none_written : (c : Config) (me : ℕ) (e : InEpoch) (v : SiteView) → ◌≡◌ {A = Option InEpoch} (Some e) v.epoch → ◌≡◌ {A = Option Pull} None (choice_at v).chosen → (adopts_in c me v).written ≡ None
none_written c me e v h n = ap (λ (o : Outcome SiteView). o.written) (adopts_none c me e v h n)

pub adopted_written : {T : Type 0} (e : InEpoch) (p : Pull) (n : SiteNode) (frame : Frame) (mid : SiteNode) (m o : Moment) (a b : Outgoing) (r : Result T NodeFault) → Stand n.packs m → ◌≡◌ {A = Option InEpoch} (Some e) n.epochs.epoch → frame ≡ frame_in n.frame.config n.frame.me n.epochs.boot e
    → ((image : List ℕ) → AreShown n.packs.packs image → ◌≡◌ {A = Option Pull} (Some p) (choice_at (view_of n image)).chosen) → ((image : List ℕ) → AreShown n.packs.packs image → mid ≡ record n { frame = frame; pulls = without_chosen (choice_at (view_of n image)) })
    → EventWrites {T = T} (adopted_now mid.frame p (view_of mid m.seen)).written mid.packs m o a b r → EventWrites {T = T} (adopts_in n.frame.config n.frame.me (view_of n m.seen)).written n.packs m o a b r
adopted_written {T = T} e p n frame mid m o a b r s h f k q w =
    let v : SiteView = view_of n m.seen in
    let x = subst (λ (y : SiteNode). EventWrites {T = T} (adopted_now y.frame p (view_of y m.seen)).written y.packs m o a b r) (q m.seen s.shown) w in
    let y = subst (λ (d : Frame). EventWrites {T = T} (adopted_now d p v).written n.packs m o a b r) f x in
    subst (λ (d : Option DiskWrite). EventWrites {T = T} d n.packs m o a b r) (sym (ap (λ (o : Outcome SiteView). o.written) (adopts_some n.frame.config n.frame.me e p v h (k m.seen s.shown)))) y

-- ---- a chosen pull is complete ----

same_pull : (p q : Pull) → ◌≡◌ {A = Option Pull} (Some p) (Some q) → p ≡ q
same_pull p q e = cc

no_pull : {A : Type 0} (p : Pull) → ◌≡◌ {A = Option Pull} (Some p) None → A
no_pull p e = absurd (cc)

chosen_by : (ready above : Pull → Bool) (x p : Pull) (xs pulls : List Pull) → (◌≡◌ {A = Option Pull} (Some p) (chooses ready above xs (without_row pull_key (pull_key x) pulls)).chosen → ready p ≡ true) → (◌≡◌ {A = Option Pull} (Some p) (chooses ready above xs pulls).chosen → ready p ≡ true)
    → (a b : Bool) → ready x ≡ a → ◌≡◌ {A = Option Pull} (Some p) (cond a (cond b (record { pulls = pulls; chosen = Some x }) (chooses ready above xs (without_row pull_key (pull_key x) pulls))) (chooses ready above xs pulls)).chosen → ready p ≡ true
chosen_by ready above x p xs pulls h k true true e c = subst (λ (q : Pull). ready q ≡ true) (sym (same_pull p x c)) e
chosen_by ready above x p xs pulls h k true false e c = h c
chosen_by ready above x p xs pulls h k false b e c = k c

pub chosen_ready : (ready above : Pull → Bool) (ps pulls : List Pull) (p : Pull) → ◌≡◌ {A = Option Pull} (Some p) (chooses ready above ps pulls).chosen → ready p ≡ true
chosen_ready ready above [] pulls p e = no_pull p e
chosen_ready ready above (x ∷ xs) pulls p e = chosen_by ready above x p xs pulls (chosen_ready ready above xs (without_row pull_key (pull_key x) pulls) p) (chosen_ready ready above xs pulls p) (ready x) (above x) refl e

fits_by : (ready above : Pull → Bool) (x p : Pull) (xs pulls : List Pull) → (◌≡◌ {A = Option Pull} (Some p) (chooses ready above xs (without_row pull_key (pull_key x) pulls)).chosen → above p ≡ true) → (◌≡◌ {A = Option Pull} (Some p) (chooses ready above xs pulls).chosen → above p ≡ true)
    → (a b : Bool) → above x ≡ b → ◌≡◌ {A = Option Pull} (Some p) (cond a (cond b (record { pulls = pulls; chosen = Some x }) (chooses ready above xs (without_row pull_key (pull_key x) pulls))) (chooses ready above xs pulls)).chosen → above p ≡ true
fits_by ready above x p xs pulls h k true true e c = subst (λ (q : Pull). above q ≡ true) (sym (same_pull p x c)) e
fits_by ready above x p xs pulls h k true false e c = h c
fits_by ready above x p xs pulls h k false b e c = k c

pub chosen_above : (ready above : Pull → Bool) (ps pulls : List Pull) (p : Pull) → ◌≡◌ {A = Option Pull} (Some p) (chooses ready above ps pulls).chosen → above p ≡ true
chosen_above ready above [] pulls p e = no_pull p e
chosen_above ready above (x ∷ xs) pulls p e = fits_by ready above x p xs pulls (chosen_above ready above xs (without_row pull_key (pull_key x) pulls) p) (chosen_above ready above xs pulls p) (ready x) (above x) refl e

pub chosen_complete : (v : SiteView) (p : Pull) → ◌≡◌ {A = Option Pull} (Some p) (choice_at v).chosen → is_complete p ≡ true
chosen_complete v p e = and_first (is_complete p) _ (chosen_ready (is_ready v) (fits_own_in v) v.pulls v.pulls p e)
