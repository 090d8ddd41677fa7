-- A site joins an epoch, and passes sites over.
use Rattle.std.proofs.Common.{◌≡◌, ℕ, List, [], ◌∷◌, ◌++◌, append-nil, map, filter, Option, None, Some, refl, sym, ap, ◌∙◌, subst}
use Rattle.locus_ids.specs.declared.ids.EpochId.{EpochId}
use Rattle.locus_ids.specs.declared.sites.Links.{Links}
use Rattle.locus_ids.specs.declared.sites.Members.{Members}
use Rattle.locus_ids.specs.declared.config.Config.{Config}
use Rattle.trace_book.specs.declared.record.Record.TheVariants as says
use Rattle.wire_messages.specs.Outboxes.{Outgoing}
use Rattle.wire_messages.specs.declared.packet.Packet.{Packet}
use Rattle.role_steps.specs.Views.{Frame, SiteView, Outcome, quiet, sends, and_then}
use Rattle.role_steps.specs.Reports.{new_table}
use Rattle.role_steps.specs.Epochs.{all_reports, decides, frame_in, installs_all, is_sync_site, joined_packet, joined_view, joins, on_install, own_groups, passes_over}
use Rattle.role_steps.specs.declared.rounds.InEpoch.{InEpoch}
use Rattle.role_steps.specs.declared.synchronizing.SyncTable.{SyncTable}
use Rattle.site_packs.specs.Packs.{AreShown}
use Rattle.site_parts.specs.of_using_site.Steps.{Gives}
use Rattle.merge_protocol.specs.Parts.{EpochPart, epoch_part, with_part, alone, decision, install_answer, passed_part, passed_round}
use Rattle.merge_protocol.specs.Laws.{answered_by, decided_by, passes_by, takes_install_by}
use Rattle.merge_protocol.specs.declared.joining.InstallAnswer.{InstallAnswer}
use Rattle.merge_protocol.specs.declared.joining.InstallAnswer.TheVariants as install
use Rattle.site_node.specs.Views.{view_of, Works}
use Rattle.site_node.specs.declared.node.SiteNode.{SiteNode}
use Rattle.site_parts.proofs.of_site_tables.Giving.{gives_none, gives_as}
use Rattle.site_node.proofs.Moving.{works_then}

abbrev with_all : SiteNode → Frame → EpochPart → List SyncTable → SiteNode
with_all n frame part tables = record n { frame = frame; epochs = part; tables = tables }

-- the site once it has joined
abbrev pub joined_node : InEpoch → SiteNode → SiteNode
joined_node e n = record n {
  frame = frame_in n.frame.config n.frame.me n.epochs.boot e;
  epochs = epoch_part (joined_view n.frame.config n.frame.me e.id e.members (alone n.epochs));
  tables = map new_table (filter (is_sync_site n.frame.config n.frame.me e.members) (own_groups n.frame.config n.frame.me));
}

abbrev pub served_tables : Frame → List SyncTable
served_tables f = map new_table (filter (is_sync_site f.config f.me f.members) (own_groups f.config f.me))

joined_is : (e : InEpoch) (old : SiteNode) (frame : Frame) (part : EpochPart) (tables : List SyncTable) (boot : ℕ) → boot ≡ part.boot → frame ≡ frame_in old.frame.config old.frame.me boot e
    → part ≡ epoch_part (joined_view old.frame.config old.frame.me e.id e.members (alone old.epochs)) → tables ≡ served_tables frame → record old { frame = frame; epochs = part; tables = tables } ≡ joined_node e old
joined_is e old frame part tables boot b f p t =
    let at : boot ≡ old.epochs.boot = b ∙ ap (λ (x : EpochPart). x.boot) p in
    let here : frame ≡ frame_in old.frame.config old.frame.me old.epochs.boot e = f ∙ ap (λ n. frame_in old.frame.config old.frame.me n e) at in
    ap (λ (x : List SyncTable). with_all old frame part x) t
    ∙ (ap (λ (x : Frame). with_all old x part (served_tables x)) here ∙ ap (λ (x : EpochPart). with_all old (frame_in old.frame.config old.frame.me old.epochs.boot e) x (served_tables (frame_in old.frame.config old.frame.me old.epochs.boot e))) p)

joined_works : (e : InEpoch) (old new : SiteNode) (a b d : Outgoing) → new ≡ joined_node e old
    → b.packets ≡ a.packets → b.records ≡ a.records ++ says.Join old.frame.me e.id e.members ∷ []
    → ((image : List ℕ) → AreShown new.packs.packs image → d.packets ≡ b.packets ++ all_reports new.frame (view_of new image)) → d.records ≡ b.records
    → Works (joins old.frame.config old.frame.me e.id e.members) old new a d
joined_works e old new a b d n p r q s = subst (λ (x : SiteNode). Works (joins old.frame.config old.frame.me e.id e.members) old x a d) (sym n) (record {
  gives = λ image h. record {
    view = refl;
    packets = subst (λ (x : SiteNode). AreShown x.packs.packs image → d.packets ≡ b.packets ++ all_reports x.frame (view_of x image)) n (q image) h ∙ ap (λ xs. xs ++ all_reports (joined_node e old).frame (view_of (joined_node e old) image)) p;
    records = s ∙ r;
  };
  packs = refl;
  config = refl;
  me = refl;
})

pub joins_work : (e : InEpoch) (old : SiteNode) (frame : Frame) (part : EpochPart) (tables : List SyncTable) (boot : ℕ) (a b d : Outgoing) → boot ≡ part.boot → frame ≡ frame_in old.frame.config old.frame.me boot e
    → part ≡ epoch_part (joined_view old.frame.config old.frame.me e.id e.members (alone old.epochs)) → tables ≡ served_tables frame
    → b.packets ≡ a.packets → b.records ≡ a.records ++ says.Join old.frame.me e.id e.members ∷ []
    → ((image : List ℕ) → AreShown old.packs.packs image → d.packets ≡ b.packets ++ all_reports frame (view_of (record old { frame = frame; epochs = part; tables = tables }) image)) → d.records ≡ b.records
    → Works (joins old.frame.config old.frame.me e.id e.members) old (record old { frame = frame; epochs = part; tables = tables }) a d
joins_work e old frame part tables boot a b d x f g t p r q s = joined_works e old (record old { frame = frame; epochs = part; tables = tables }) a b d (joined_is e old frame part tables boot x f g t) p r q s

pub installs_work : (id : EpochId) (members : Members) (me : ℕ) (old : SiteNode) (part : EpochPart) (a b : Outgoing) → part ≡ epoch_part (installs_all me id members (alone old.epochs)).view
    → b.packets ≡ a.packets ++ (installs_all me id members (alone old.epochs)).sent → b.records ≡ a.records → Works (installs_all me id members) old (record old { epochs = part }) a b
installs_work id members me old part a b n p r = subst (λ (x : EpochPart). Works (installs_all me id members) old (record old { epochs = x }) a b) (sym n) (record {
  gives = λ image h. record { view = refl; packets = p; records = r ∙ sym (append-nil a.records) };
  packs = refl;
  config = refl;
  me = refl;
})

-- ---- the end of a round ----

abbrev Passing : Config → ℕ → Links → Type 0
Passing c me links = (v : SiteView) → passes_over c me links v ≡ passes_by c me links v

decided_as : (c : Config) (me : ℕ) (links : Links) (old : SiteNode) (o : Option InEpoch) → Passing c me links → o ≡ decision me links old.epochs.boot (passed_round links old.epochs.round) → (image : List ℕ)
    → passes_over c me links (view_of old image) ≡ decided_by c me (with_part (passed_part links old.epochs) (view_of old image)) o
decided_as c me links old o law d image = law (view_of old image) ∙ ap (decided_by c me (with_part (passed_part links old.epochs) (view_of old image))) (sym d)

pub passes_none : (c : Config) (me : ℕ) (links : Links) (old : SiteNode) (part : EpochPart) (a : Outgoing) → Passing c me links → ◌≡◌ {A = Option InEpoch} None (decision me links old.epochs.boot (passed_round links old.epochs.round))
    → part ≡ passed_part links old.epochs → Works (passes_over c me links) old (record old { epochs = part }) a a
passes_none c me links old part a law d n = subst (λ (x : EpochPart). Works (passes_over c me links) old (record old { epochs = x }) a a) (sym n) (record {
  gives = λ image h. gives_as (quiet (with_part (passed_part links old.epochs) (view_of old image))) (passes_over c me links (view_of old image)) (with_part (passed_part links old.epochs) (view_of old image)) a a (decided_as c me links old None law d image) (gives_none (with_part (passed_part links old.epochs) (view_of old image)) a);
  packs = refl;
  config = refl;
  me = refl;
})

decided_given : (c : Config) (me : ℕ) (links : Links) (e : InEpoch) (old new : SiteNode) (part : EpochPart) (a b : Outgoing) (image : List ℕ) → part ≡ passed_part links old.epochs → Gives (decides c me e.id e.members (view_of (record old { epochs = part }) image)) (view_of new image) a b
    → Gives (decides c me e.id e.members (with_part (passed_part links old.epochs) (view_of old image))) (view_of new image) a b
decided_given c me links e old new part a b image n g = subst (λ (x : EpochPart). Gives (decides c me e.id e.members (with_part x (view_of old image))) (view_of new image) a b) n g

pub passes_some : (c : Config) (me : ℕ) (links : Links) (e : InEpoch) (old new : SiteNode) (part : EpochPart) (a b : Outgoing) → Passing c me links → ◌≡◌ {A = Option InEpoch} (Some e) (decision me links old.epochs.boot (passed_round links old.epochs.round))
    → part ≡ passed_part links old.epochs → Works (decides c me e.id e.members) (record old { epochs = part }) new a b → Works (passes_over c me links) old new a b
passes_some c me links e old new part a b law d n w = record {
  gives = λ image h. gives_as (decides c me e.id e.members (with_part (passed_part links old.epochs) (view_of old image))) (passes_over c me links (view_of old image)) (view_of new image) a b (decided_as c me links old (Some e) law d image) (decided_given c me links e old new part a b image n (w.gives image h));
  packs = w.packs;
  config = w.config;
  me = w.me;
}

-- ---- an install ----

abbrev Installing : Config → ℕ → ℕ → ℕ → EpochId → Members → Type 0
Installing c me from from_boot id members = (v : SiteView) → on_install c me from from_boot id members v ≡ takes_install_by c me from from_boot id members v

abbrev pub says_joined : ℕ → ℕ → ℕ → EpochId → SiteView → Outcome SiteView
says_joined me from from_boot id v = sends (joined_packet me from from_boot id (alone (epoch_part v))) v

answers_as : (c : Config) (me from from_boot : ℕ) (id : EpochId) (members : Members) (old : SiteNode) (o : InstallAnswer) → Installing c me from from_boot id members → o ≡ install_answer me id members old.epochs → (image : List ℕ)
    → on_install c me from from_boot id members (view_of old image) ≡ answered_by c me from from_boot id members (view_of old image) o
answers_as c me from from_boot id members old o law d image = law (view_of old image) ∙ ap (answered_by c me from from_boot id members (view_of old image)) (sym d)

pub says_joined_works : (me from from_boot : ℕ) (id : EpochId) (n : SiteNode) (p : Packet) (a b : Outgoing) → p ∷ [] ≡ joined_packet me from from_boot id (alone n.epochs) → b ≡ record a { packets = a.packets ++ p ∷ [] } → Works (says_joined me from from_boot id) n n a b
says_joined_works me from from_boot id n p a b e o = record {
  gives = λ image h. record { view = refl; packets = ap (λ (x : Outgoing). x.packets) o ∙ ap (λ xs. a.packets ++ xs) e; records = ap (λ (x : Outgoing). x.records) o ∙ sym (append-nil a.records) };
  packs = refl;
  config = refl;
  me = refl;
}

pub install_nothing : (c : Config) (me from from_boot : ℕ) (id : EpochId) (members : Members) (n : SiteNode) (a : Outgoing) → Installing c me from from_boot id members → install.Nothing ≡ install_answer me id members n.epochs → Works (on_install c me from from_boot id members) n n a a
install_nothing c me from from_boot id members n a law d = record {
  gives = λ image h. gives_as (quiet (view_of n image)) (on_install c me from from_boot id members (view_of n image)) (view_of n image) a a (answers_as c me from from_boot id members n install.Nothing law d image) (gives_none (view_of n image) a);
  packs = refl;
  config = refl;
  me = refl;
}

pub install_again : (c : Config) (me from from_boot : ℕ) (id : EpochId) (members : Members) (n : SiteNode) (a b : Outgoing) → Installing c me from from_boot id members → install.Again ≡ install_answer me id members n.epochs
    → Works (says_joined me from from_boot id) n n a b → Works (on_install c me from from_boot id members) n n a b
install_again c me from from_boot id members n a b law d w = record {
  gives = λ image h. gives_as (says_joined me from from_boot id (view_of n image)) (on_install c me from from_boot id members (view_of n image)) (view_of n image) a b (answers_as c me from from_boot id members n install.Again law d image) (w.gives image h);
  packs = refl;
  config = refl;
  me = refl;
}

pub install_joins : (c : Config) (me from from_boot : ℕ) (id : EpochId) (members : Members) (old mid : SiteNode) (a b d : Outgoing) → Installing c me from from_boot id members → install.Joins ≡ install_answer me id members old.epochs
    → Works (joins c me id members) old mid a b → Works (says_joined me from from_boot id) mid mid b d → Works (on_install c me from from_boot id members) old mid a d
install_joins c me from from_boot id members old mid a b d law e w x =
    let both : Works (λ v. and_then (joins c me id members v) (says_joined me from from_boot id)) old mid a d = works_then (joins c me id members) (says_joined me from from_boot id) old mid mid a b d w x in record {
      gives = λ image h. gives_as (and_then (joins c me id members (view_of old image)) (says_joined me from from_boot id)) (on_install c me from from_boot id members (view_of old image)) (view_of mid image) a d (answers_as c me from from_boot id members old install.Joins law e image) (both.gives image h);
      packs = both.packs;
      config = both.config;
      me = both.me;
    }

-- ---- what changes the place in epochs alone ----

pub quiet_works : (f : SiteView → Outcome SiteView) (old : SiteNode) (part : EpochPart) (a : Outgoing) → ((v : SiteView) → f v ≡ quiet (with_part (epoch_part (f (alone (epoch_part v))).view) v))
    → part ≡ epoch_part (f (alone old.epochs)).view → Works f old (record old { epochs = part }) a a
quiet_works f old part a law n = subst (λ (x : EpochPart). Works f old (record old { epochs = x }) a a) (sym n) (record {
  gives = λ image h. gives_as (quiet (with_part (epoch_part (f (alone old.epochs)).view) (view_of old image))) (f (view_of old image)) (with_part (epoch_part (f (alone old.epochs)).view) (view_of old image)) a a (law (view_of old image)) (gives_none (with_part (epoch_part (f (alone old.epochs)).view) (view_of old image)) a);
  packs = refl;
  config = refl;
  me = refl;
})

-- ---- where the site's number was read before ----

pub installs_as : (m : ℕ) (id : EpochId) (members : Members) (old : SiteNode) (part : EpochPart) (a b : Outgoing) → m ≡ old.frame.me → part ≡ epoch_part (installs_all m id members (alone old.epochs)).view
    → b.packets ≡ a.packets ++ (installs_all m id members (alone old.epochs)).sent → b.records ≡ a.records → Works (installs_all old.frame.me id members) old (record old { epochs = part }) a b
installs_as m id members old part a b k n p r = subst (λ (s : ℕ). Works (installs_all s id members) old (record old { epochs = part }) a b) k (installs_work id members m old part a b n p r)

pub decided_at : (m : ℕ) (links : Links) (n : SiteNode) (o : Option InEpoch) → m ≡ n.frame.me → o ≡ decision m links n.epochs.boot (passed_round links n.epochs.round) → o ≡ decision n.frame.me links n.epochs.boot (passed_round links n.epochs.round)
decided_at m links n o k d = subst (λ (s : ℕ). o ≡ decision s links n.epochs.boot (passed_round links n.epochs.round)) k d

pub answered_at : (m : ℕ) (id : EpochId) (members : Members) (n : SiteNode) (o : InstallAnswer) → m ≡ n.frame.me → o ≡ install_answer m id members n.epochs → o ≡ install_answer n.frame.me id members n.epochs
answered_at m id members n o k d = subst (λ (s : ℕ). o ≡ install_answer s id members n.epochs) k d

-- the packet that answers an install goes out
pub says_joined_as : (m me from from_boot : ℕ) (id : EpochId) (n : SiteNode) (p : Packet) (a b : Outgoing) → m ≡ me → p ∷ [] ≡ joined_packet m from from_boot id (alone n.epochs) → b ≡ record a { packets = a.packets ++ p ∷ [] } → Works (says_joined me from from_boot id) n n a b
says_joined_as m me from from_boot id n p a b k e o = subst (λ (s : ℕ). Works (says_joined s from from_boot id) n n a b) k (says_joined_works m from from_boot id n p a b e o)
