-- What other sites have stays while one site tells what it does.
use Rattle.std.proofs.Common.{◌≡◌, ℕ, List, [], ◌∷◌, Option, Some, None, refl, sym, ◌∙◌, ap, subst, inl, inr}
use Rattle.role_steps.proofs.of_plain_facts.Options.{some_same}
use Rattle.locus_ids.specs.declared.config.Config.{Config}
use Rattle.locus_ids.specs.declared.ids.EpochId.{EpochId}
use Rattle.locus_ids.specs.declared.ids.FileId.{FileId}
use Rattle.locus_ids.specs.declared.ids.Serial.{Serial}
use Rattle.locus_ids.specs.declared.sites.Members.{Members}
use Rattle.trace_book.specs.declared.record.Record.{Record}
use Rattle.trace_book.specs.declared.record.Record.TheVariants as says
use Rattle.role_steps.specs.Epochs.{frame_in}
use Rattle.role_steps.specs.Own.{Every}
use Rattle.role_steps.specs.Views.{Frame, SiteView, Told, Shown, Begins, Shuts, Reserves, sync_site}
use Rattle.role_steps.specs.declared.rounds.InEpoch.{InEpoch}
use Rattle.role_steps.specs.declared.synchronizing.SyncTable.{SyncTable}
use Rattle.the_run.specs.Worlds.{Place, Running, Stopped, Line, told_onto}
use Rattle.tree_model.specs.Epochs.{epoch_of, is_up, members_of}
use Rattle.tree_laws.specs.Doing.{AllTold, FrameFact, IsStoreRecord, IsOfUsers, IsOfStore, IsAdopted, IsOfTable, IsOfSite, IsPromise}
use Rattle.tree_laws.specs.Following.{IsFollowed, MayTell}
use Rattle.tree_laws.specs.Past.{BeginsIt, WasBegun}
use Rattle.tree_laws.specs.Printed.{entries}
use Rattle.tree_laws.specs.Tables.{TableFact}
use Rattle.store_laws.specs.OneTree.Places.{AllOf, IsOf, SiteIn, PlaceFact}
use Rattle.store_laws.specs.OneTree.Rest.{AllRest, Past, Comes, more}
use Rattle.store_laws.specs.OneTree.Roles.{RolesDo}
use Rattle.store_laws.proofs.Users.Staying.{descriptors_stay}
use Rattle.store_laws.proofs.OneTree.Frames.{copies_frame, outside_frame, pulls_frame, store_frame, users_frame}
use Rattle.store_laws.proofs.OneTree.Framing.{epoch_same, up_same, idle_stays, stay_over}
use Rattle.store_laws.proofs.OneTree.Parts.{Synced, synced_each, TablesAt, tables_stay}
use Rattle.store_laws.proofs.OneTree.Sorts.{users_store, users_table, users_site, users_adopted, users_one, site_store, site_table, site_adopted, site_one, store_users, store_table, store_site, store_adopted, adopted_store, adopted_users, adopted_site, adopted_table, adopted_one, table_users, table_store, table_site, table_adopted, one_table, promise_users, promise_store, promise_table, promise_site, promise_adopted}

-- ---- an instance is begun at one site ----

begins_told : (s : ℕ) (e : EpochId) (i : Serial) (f : FileId) (older : List Line) (x : Told) → BeginsIt s e i f older x → (t : ℕ) (g : FileId) → BeginsIt t e i g older x → s ≡ t
begins_told s e i f older (Begins site at inst file) h t g k = sym h.site_is ∙ k.site_is
begins_told s e i f older _ h t g k = absurd h

begins_new : (c : Config) (s : ℕ) (e : EpochId) (i : Serial) (f : FileId) (older : List Line) (x : Told) → MayTell c older x → BeginsIt s e i f older x → (t : ℕ) (g : FileId) → WasBegun older t e i g → ⊥
begins_new c s e i f older (Begins site at inst file) may h t g k = may.new t g (subst (λ (j : Serial). WasBegun older t at j g) (sym h.serial_is) (subst (λ (z : EpochId). WasBegun older t z i g) (sym h.epoch_is) k))
begins_new c s e i f older _ may h t g k = absurd h

pub begun_once : (c : Config) (trace : List Line) (e : EpochId) (i : Serial) (s t : ℕ) (f g : FileId) → IsFollowed c trace → WasBegun trace s e i f → WasBegun trace t e i g → s ≡ t
begun_once c [] e i s t f g h a b = absurd a
begun_once c (x ∷ older) e i s t f g h (inl a) (inl b) = begins_told s e i f older x.told a t g b
begun_once c (x ∷ older) e i s t f g h (inl a) (inr b) = absurd (begins_new c s e i f older x.told h.0 a t g b)
begun_once c (x ∷ older) e i s t f g h (inr a) (inl b) = absurd (begins_new c t e i g older x.told h.0 b s f a)
begun_once c (x ∷ older) e i s t f g h (inr a) (inr b) = begun_once c older e i s t f g h.1 a b

store_one_record : (c : Config) (older : List Line) (s t : ℕ) (e d : EpochId) (r : Record) → IsFollowed c older → IsStoreRecord older s e r → IsStoreRecord older t d r → s ≡ t
store_one_record c older s t e d (says.Act at inst number o result) h a b =
    begun_once c older at inst s t a.1.0 b.1.0 h (subst (λ (z : EpochId). WasBegun older s z inst a.1.0) (sym a.0) a.1.1) (subst (λ (z : EpochId). WasBegun older t z inst b.1.0) (sym b.0) b.1.1)
store_one_record c older s t e d (says.Commit file site stamp parents content) h a b = sym a ∙ b
store_one_record c older s t e d _ h a b = absurd a

store_one : (c : Config) (older : List Line) (s t : ℕ) (e d : EpochId) (x : Told) → IsFollowed c older → IsOfStore older s e x → IsOfStore older t d x → s ≡ t
store_one c older s t e d (Shown r) h a b = store_one_record c older s t e d r h a b
store_one c older s t e d (Begins site at inst file) h a b = sym a ∙ b
store_one c older s t e d (Shuts site at inst) h a b = sym a ∙ b
store_one c older s t e d (Reserves site at inst file) h a b = sym a ∙ b
store_one c older s t e d _ h a b = absurd a

-- ---- a line is nothing to a site ----

pub record Apart (c : Config) (older : List Line) (t : ℕ) (x : Told) : Type 0 where
  pub users : IsOfUsers t x → ⊥
  pub site : IsOfSite t x → ⊥
  pub adopted : IsAdopted t x → ⊥
  pub store : (e : EpochId) → IsOfStore older t e x → ⊥
  pub table : (f : Frame) (group : ℕ) → FrameFact c older f → f.me ≡ t → sync_site f.config f.members group ≡ Some t → IsOfTable f group x → ⊥

promised : (c : Config) (older : List Line) (t : ℕ) (x : Told) → IsPromise x → Apart c older t x
promised c older t x u = record {
  users = λ k. promise_users t x u k;
  site = λ k. promise_site t x u k;
  adopted = λ k. promise_adopted t x u k;
  store = λ e k. promise_store t older e x u k;
  table = λ f g fact me sync k. promise_table f g x u k;
}

-- what one site tells is nothing to another
pub apart_of : (c : Config) (older : List Line) (s t : ℕ) (x : Told) → IsFollowed c older → (s ≡ t → ⊥) → IsOf c older s x → Apart c older t x
apart_of c older s t x h ne (inl u) = record {
  users = λ k. ne (users_one s t x u k);
  site = λ k. users_site s t x u k;
  adopted = λ k. users_adopted s t x u k;
  store = λ e k. users_store s t older e x u k;
  table = λ f g fact me sync k. users_table s f g x u k;
}
apart_of c older s t x h ne (inr (inl u)) = record {
  users = λ k. users_site t s x k u;
  site = λ k. ne (site_one s t x u k);
  adopted = λ k. site_adopted s t x u k;
  store = λ e k. site_store s t older e x u k;
  table = λ f g fact me sync k. site_table s f g x u k;
}
apart_of c older s t x h ne (inr (inr (inl u))) = record {
  users = λ k. adopted_users s t x u k;
  site = λ k. adopted_site s t x u k;
  adopted = λ k. ne (adopted_one s t x u k);
  store = λ e k. adopted_store s t older e x u k;
  table = λ f g fact me sync k. adopted_table s f g x u k;
}
apart_of c older s t x h ne (inr (inr (inr (inl u)))) = record {
  users = λ k. store_users s t older u.0 x u.1 k;
  site = λ k. store_site s t older u.0 x u.1 k;
  adopted = λ k. store_adopted s t older u.0 x u.1 k;
  store = λ e k. ne (store_one c older s t u.0 e x h u.1 k);
  table = λ f g fact me sync k. store_table s older u.0 f g x u.1 k;
}
apart_of c older s t x h ne (inr (inr (inr (inr (inl u))))) = record {
  users = λ k. table_users t u.frame u.group x u.of k;
  site = λ k. table_site t u.frame u.group x u.of k;
  adopted = λ k. table_adopted t u.frame u.group x u.of k;
  store = λ e k. table_store t older e u.frame u.group x u.of k;
  table = λ f g fact me sync k. ne (one f g fact sync (one_table u.frame f u.group g x u.of k));
}
  where
    one : (f : Frame) (g : ℕ) → FrameFact c older f → sync_site f.config f.members g ≡ Some t → (u.frame.epoch ≡ f.epoch) × (u.group ≡ g) → s ≡ t
    one f g fact sync same = some_same s t (sym u.synced ∙ (subst (λ (k : ℕ). sync_site u.frame.config u.frame.members u.group ≡ sync_site u.frame.config u.frame.members k) same.1 refl
        ∙ (ap (λ (m : Members). sync_site u.frame.config m g) members ∙ (ap (λ (k : Config). sync_site k f.members g) (u.config_is ∙ sym fact.config_is) ∙ sync))))
      where
        members : u.frame.members ≡ f.members
        members = some_same u.frame.members f.members (sym u.members_are ∙ subst (λ (e : EpochId). members_of (entries older) e ≡ Some f.members) (sym same.0) fact.members_are)
apart_of c older s t x h ne (inr (inr (inr (inr (inr u))))) = promised c older t x u

-- ---- one line ----

up_apart : (c : Config) (n : ℕ) (x : Told) (older : List Line) (t : ℕ) → (IsOfSite t x → ⊥) → is_up c (entries (more n x older)) t ≡ is_up c (entries older) t
up_apart c n (Shown r) older t h = up_same c n r (entries older) t h
up_apart c n _ older t h = refl

epoch_apart : (n : ℕ) (x : Told) (older : List Line) (t : ℕ) → (IsOfSite t x → ⊥) → epoch_of (entries (more n x older)) t ≡ epoch_of (entries older) t
epoch_apart n (Shown r) older t h = epoch_same n r (entries older) t h
epoch_apart n _ older t h = refl

abbrev AnyTable : SyncTable → Type 0
AnyTable t = Unit {0}

nothing_to : (c : Config) (older : List Line) (t : ℕ) (x : Told) (f : Frame) → Apart c older t x → FrameFact c older f → f.me ≡ t → (tables : List SyncTable) → Every (Synced f) tables → Every (λ (u : SyncTable). AnyTable u → IsOfTable f u.group x → ⊥) tables
nothing_to c older t x f a fact same [] s = tt
nothing_to c older t x f a fact same (u ∷ us) s = (λ any k. a.table f u.group fact same (s.0 ∙ ap Some same) k, nothing_to c older t x f a fact same us s.1)

any_facts : (c : Config) (f : Frame) (trace : List Line) (tables : List SyncTable) → Every (TableFact c trace f) tables → Every (λ (t : SyncTable). AnyTable t → TableFact c trace f t) tables
any_facts c f trace [] h = tt
any_facts c f trace (t ∷ ts) h = (λ a. h.0, any_facts c f trace ts h.1)

all_facts : (c : Config) (f : Frame) (trace : List Line) (tables : List SyncTable) → Every (λ (t : SyncTable). AnyTable t → TableFact c trace f t) tables → Every (TableFact c trace f) tables
all_facts c f trace [] h = tt
all_facts c f trace (t ∷ ts) h = (h.0 tt, all_facts c f trace ts h.1)

site_apart : (c : Config) → RolesDo c → (n t : ℕ) (x : Told) (older : List Line) (o : Option InEpoch) (v : SiteView) → Comes c older x → Apart c older t x → SiteIn c t older v o → SiteIn c t (more n x older) v o
site_apart c roles n t x older None v k a h = record {
  up = up_apart c n x older t a.site ∙ h.up;
  outside = epoch_apart n x older t a.site ∙ h.outside;
  users = record {
    always = outside_frame c n x older t v.boot v.users k a.users a.site h.users.always;
    idle = idle_stays c n x older t a.users a.site h.users.idle;
    calls = h.users.calls;
    instances = h.users.instances;
    hopeless = h.users.hopeless;
    descriptors_ascend = h.users.descriptors_ascend;
  };
  copies = copies_frame c n x older t v.store k a.store a.adopted h.copies;
  instances = h.instances;
  steps = h.steps;
  tables = h.tables;
  pulls = h.pulls;
}
site_apart c roles n t x older (Some e) v k a h =
    let f : Frame = frame_in c t v.boot e in
    let s : Every (Synced f) v.tables = synced_each f v.tables h.groups in
    let tables : TablesAt c f AnyTable v.tables (more n x older) = tables_stay c roles n f AnyTable v.tables s x older k a.site a.adopted (nothing_to c older t x f a h.frame refl v.tables s) (record { frame = h.frame; each = any_facts c f older v.tables h.tables }) in
    record {
      frame = tables.frame;
      users = record { inside = users_frame c n x older f v.users k h.frame a.users a.site h.users.inside; apart = h.users.apart; waiting_ascends = h.users.waiting_ascends; instances_ascend = h.users.instances_ascend; descriptors_ascend = h.users.descriptors_ascend };
      store = store_frame c n x older f v.store k a.store a.adopted h.store;
      groups = h.groups;
      tables = all_facts c f (more n x older) v.tables tables.each;
      pulls = pulls_frame c n x older f v.pulls k a.adopted h.pulls;
      pulls_ascend = h.pulls_ascend;
      reports = h.reports;
    }

pub place_apart : (c : Config) → RolesDo c → (n t : ℕ) (p : Place) (x : Told) (older : List Line) → Comes c older x → Apart c older t x → PlaceFact c t older p → PlaceFact c t (more n x older) p
place_apart c roles n t (Running v) x older k a h = site_apart c roles n t x older v.epoch v k a h
place_apart c roles n t (Stopped d) x older k a h = record {
  stopped = up_apart c n x older t a.site ∙ h.stopped;
  outside = epoch_apart n x older t a.site ∙ h.outside;
  idle = idle_stays c n x older t a.users a.site h.idle;
  descriptors = λ process fd. descriptors_stay n t process fd x older a.users a.site ∙ h.descriptors process fd;
  copies = copies_frame c n x older t (record { copies = d.copies; instances = []; steps = [] }) k a.store a.adopted h.copies;
}

-- ---- over all that one site tells ----

pub place_over : (c : Config) → RolesDo c → (n s t : ℕ) (p : Place) → (s ≡ t → ⊥) → (told : List Told) (trace : List Line) → Past c trace → AllTold c n trace told → AllRest c n trace told → AllOf c n trace s told → PlaceFact c t trace p → PlaceFact c t (told_onto n told trace) p
place_over c roles n s t p ne told trace h k fresh own fact = stay_over c n (λ older x. IsOf c older s x) (λ older. PlaceFact c t older p) (λ x older comes o g. place_apart c roles n t p x older comes (apart_of c older s t x comes.past.followed ne o) g) told trace h k fresh own fact
