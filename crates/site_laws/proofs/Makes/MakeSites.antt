-- The tables of a site know no file that is being made: what each event of a site keeps of that.
use Rattle.std.proofs.Common.{◌≡◌, ℕ, Bool, List, [], ◌∷◌, ◌++◌, Option, Some, None, refl, sym, ◌∙◌, subst, inl, inr}
use Rattle.locus_ids.specs.declared.ids.EpochId.{EpochId}
use Rattle.locus_ids.specs.declared.sites.Members.{Members}
use Rattle.locus_ids.specs.declared.config.Config.{Config}
use Rattle.trace_book.specs.declared.record.Record.{Record}
use Rattle.trace_book.specs.declared.record.Record.TheVariants as says
use Rattle.role_steps.specs.Own.{Every}
use Rattle.role_steps.specs.Tables.{row, first_that}
use Rattle.role_steps.specs.Views.{SiteView, Told, Shown, Reserves, Outcome, quiet, joined_to, sync_site}
use Rattle.role_steps.specs.Adoption.{table_group, with_table}
use Rattle.role_steps.specs.declared.rounds.InEpoch.{InEpoch}
use Rattle.role_steps.specs.declared.synchronizing.SyncTable.{SyncTable}
use Rattle.role_steps.proofs.Sending.{every_append}
use Rattle.the_run.specs.Steps.{at_table_of}
use Rattle.the_run.proofs.Boots.{every_weaker}
use Rattle.the_run.proofs.InsideSync.{Found, first_found}
use Rattle.site_laws.specs.Vectors.Facts.{onto}
use Rattle.site_laws.proofs.Vectors.Facts.{onto_append}
use Rattle.site_laws.proofs.Vectors.SyncFacts.{FoundAt, row_at}
use Rattle.site_laws.specs.Locks.Joins.{WasJoined}
use Rattle.site_laws.proofs.Locks.Facts.{Later, onto_later}
use Rattle.site_laws.specs.Vectors.Written.{WasTold}
use Rattle.site_laws.specs.Locks.Synced.{Rising, SyncedBy}
use Rattle.site_laws.proofs.Locks.GrantSites.{put_tables, rising_put}
use Rattle.site_laws.specs.Makes.Tables.{TableMade, PlainRecord, PlainTold}
use Rattle.site_laws.specs.Makes.Fresh.{FreshTold}
use Rattle.site_laws.proofs.Makes.Telling.{TabularRecord, Tabular, HereRecord, Here, AsideRecord, Aside}
use Rattle.site_laws.proofs.Makes.TableTold.{AllFresh, IsForeign, not_tabular, table_later}
use Rattle.site_laws.proofs.Makes.TableOpens.{AllPlain, plain_append, TableKeeps}

-- ---- what is told ----

-- each thing that a table tells is told by the synchronization site of its group in an epoch that it has joined
abbrev pub TabularBy : Config → List Told → ℕ → Told → Type 0
TabularBy c now s x = (e : EpochId) (group : ℕ) → Tabular e group x → SyncedBy c now e group s

abbrev pub TabularsSynced : Config → List Told → Type 0
TabularsSynced c past = (e : EpochId) (group : ℕ) → WasTold (Tabular e group) past → (s : ℕ) × SyncedBy c past e group s

aside_record : (e : EpochId) (group : ℕ) (r : Record) → AsideRecord r → TabularRecord e group r → ⊥
aside_record e group (says.Start at of brought) h k = h
aside_record e group (says.Grant at call request inst m file stamp ss) h k = h
aside_record e group (says.Refuse at call request inst m file why) h k = h
aside_record e group (says.Release at inst file made) h k = h
aside_record e group _ h k = k

pub aside_told : (e : EpochId) (group : ℕ) (x : Told) → Aside x → Tabular e group x → ⊥
aside_told e group (Shown r) h k = aside_record e group r h k
aside_told e group _ h k = k

aside_fresh_one : (past : List Told) (x : Told) → Aside x → FreshTold past x
aside_fresh_one past (Reserves s e inst file) h = absurd h
aside_fresh_one past _ h = tt

pub aside_fresh : (told past : List Told) → Every Aside told → AllFresh past told
aside_fresh [] past h = tt
aside_fresh (x ∷ xs) past h = (aside_fresh_one past x h.0, aside_fresh xs (x ∷ past) h.1)

aside_plain_record : (past : List Told) (r : Record) → AsideRecord r → PlainRecord past r
aside_plain_record past (says.Grant e call request inst m file stamp ss) h = absurd h
aside_plain_record past _ h = tt

aside_plain_one : (past : List Told) (x : Told) → Aside x → PlainTold past x
aside_plain_one past (Shown r) h = aside_plain_record past r h
aside_plain_one past _ h = tt

pub aside_plain : (told past : List Told) → Every Aside told → AllPlain past told
aside_plain [] past h = tt
aside_plain (x ∷ xs) past h = (aside_plain_one past x h.0, aside_plain xs (x ∷ past) h.1)

pub asides_by : (c : Config) (now : List Told) (s : ℕ) (xs : List Told) → Every Aside xs → Every (TabularBy c now s) xs
asides_by c now s xs h = every_weaker Aside (TabularBy c now s) xs (λ x a e group k. absurd (aside_told e group x a k)) h

pub asides_foreign : (e : EpochId) (group : ℕ) (xs : List Told) → Every Aside xs → Every (IsForeign e group) xs
asides_foreign e group xs h = every_weaker Aside (IsForeign e group) xs (λ x a. not_tabular e group x (aside_told e group x a)) h

-- what a table tells is of its epoch and group
here_record : (e at : EpochId) (group of : ℕ) (r : Record) → HereRecord e group r → TabularRecord at of r → (e ≡ at) × (group ≡ of)
here_record e at group of (says.Start i g brought) h k = (sym h.0 ∙ k.0, sym h.1 ∙ k.1)
here_record e at group of (says.Grant i call request inst m file stamp ss) h k = (sym h.0 ∙ k.0, sym h.1 ∙ k.1)
here_record e at group of (says.Refuse i call request inst m file why) h k = (sym h.0 ∙ k.0, sym h.1 ∙ k.1)
here_record e at group of (says.Release i inst file made) h k = (sym h.0 ∙ k.0, sym h.1 ∙ k.1)
here_record e at group of _ h k = absurd k

pub here_told : (e at : EpochId) (group of : ℕ) (x : Told) → Here e group x → Tabular at of x → (e ≡ at) × (group ≡ of)
here_told e at group of (Shown r) h k = here_record e at group of r h k
here_told e at group of _ h k = absurd k

here_fresh_one : (past : List Told) (e : EpochId) (group : ℕ) (x : Told) → Here e group x → FreshTold past x
here_fresh_one past e group (Reserves s at inst file) h = absurd h
here_fresh_one past e group _ h = tt

here_fresh : (e : EpochId) (group : ℕ) (told past : List Told) → Every (Here e group) told → AllFresh past told
here_fresh e group [] past h = tt
here_fresh e group (x ∷ xs) past h = (here_fresh_one past e group x h.0, here_fresh e group xs (x ∷ past) h.1)

heres_foreign : (e : EpochId) (group other : ℕ) (xs : List Told) → (other ≡ group → ⊥) → Every (Here e group) xs → Every (IsForeign e other) xs
heres_foreign e group other xs ne h = every_weaker (Here e group) (IsForeign e other) xs (λ x a. not_tabular e other x (λ k. ne (sym (here_told e e group other x a k).1))) h

-- ---- a site ----

abbrev pub MadeIn : Config → List Told → ℕ → SiteView → Option InEpoch → Type 0
MadeIn c past me v None = v.tables ≡ []
MadeIn c past me v (Some e) = WasJoined past me e.id e.members × Every (TableMade c past me e.id e.members) v.tables × Rising v.tables

abbrev pub SiteMade : Config → List Told → ℕ → SiteView → Type 0
SiteMade c past me v = MadeIn c past me v v.epoch

pub record SiteKeeps (c : Config) (me : ℕ) (past : List Told) (o : Outcome SiteView) : Type 0 where
  pub view : SiteMade c (onto o.told past) me o.view
  pub by : Every (TabularBy c (onto o.told past) me) o.told
  pub plain : AllPlain past o.told

synced_later : (c : Config) (a b : List Told) → Later a b → (e : EpochId) (group s : ℕ) → SyncedBy c a e group s → SyncedBy c b e group s
synced_later c a b l e group s h = record { members = h.members; joined = l _ h.joined; synced = h.synced }

bys_later : (c : Config) (a b : List Told) → Later a b → (s : ℕ) (xs : List Told) → Every (TabularBy c a s) xs → Every (TabularBy c b s) xs
bys_later c a b l s xs h = every_weaker (TabularBy c a s) (TabularBy c b s) xs (λ x k e group q. synced_later c a b l e group s (k e group q)) h

known_onto : (c : Config) (now : List Told) (me : ℕ) (told past : List Told) → Every (TabularBy c now me) told → ((e : EpochId) (group : ℕ) → WasTold (Tabular e group) past → (s : ℕ) × SyncedBy c now e group s) → (e : EpochId) (group : ℕ) → WasTold (Tabular e group) (onto told past) → (s : ℕ) × SyncedBy c now e group s
known_onto c now me [] past h k = k
known_onto c now me (x ∷ xs) past h k = known_onto c now me xs (x ∷ past) h.1 one
  where
    one : (e : EpochId) (group : ℕ) → WasTold (Tabular e group) (x ∷ past) → (s : ℕ) × SyncedBy c now e group s
    one e group (inl g) = (me, h.0 e group g)
    one e group (inr g) = k e group g

pub synced_after : (c : Config) (me : ℕ) (told past : List Told) → Every (TabularBy c (onto told past) me) told → TabularsSynced c past → TabularsSynced c (onto told past)
synced_after c me told past h k = known_onto c (onto told past) me told past h (λ e group g. (let r : (s : ℕ) × SyncedBy c past e group s = k e group g in (r.0, synced_later c past (onto told past) (onto_later told past) e group r.0 r.1)))

-- ---- outcomes of a site ----

pub in_foreign : (c : Config) (told past : List Told) (me : ℕ) (v : SiteView) (o : Option InEpoch) → ((e : EpochId) (group : ℕ) → Every (IsForeign e group) told) → AllFresh past told → MadeIn c past me v o → MadeIn c (onto told past) me v o
in_foreign c told past me v None far fresh k = k
in_foreign c told past me v (Some e) far fresh k = (onto_later told past _ k.0, every_weaker (TableMade c past me e.id e.members) (TableMade c (onto told past) me e.id e.members) v.tables (λ t q. table_later c told past me e.id e.members t (far e.id t.group) fresh q) k.1, k.2)

pub in_aside : (c : Config) (told past : List Told) (me : ℕ) (v : SiteView) (o : Option InEpoch) → Every Aside told → MadeIn c past me v o → MadeIn c (onto told past) me v o
in_aside c told past me v o h k = in_foreign c told past me v o (λ e group. asides_foreign e group told h) (aside_fresh told past h) k

pub in_alike : (c : Config) (past : List Told) (me : ℕ) (v w : SiteView) (o : Option InEpoch) → w.tables ≡ v.tables → MadeIn c past me v o → MadeIn c past me w o
in_alike c past me v w None e h = e ∙ h
in_alike c past me v w (Some i) e h = (h.0, subst (λ (ts : List SyncTable). Every (TableMade c past me i.id i.members) ts) (sym e) h.1, subst Rising (sym e) h.2)

pub alike : (c : Config) (past : List Told) (me : ℕ) (v w : SiteView) → w.tables ≡ v.tables → w.epoch ≡ v.epoch → SiteMade c past me v → SiteMade c past me w
alike c past me v w e g h = subst (MadeIn c past me w) (sym g) (in_alike c past me v w v.epoch e h)

-- the tables stay, and nothing of them is told, nor a number reserved
pub plain_site : (c : Config) (me : ℕ) (past : List Told) (v : SiteView) (o : Outcome SiteView) → o.view.tables ≡ v.tables → o.view.epoch ≡ v.epoch → Every Aside o.told → SiteMade c past me v → SiteKeeps c me past o
plain_site c me past v o e g aside h = record {
  view = in_aside c o.told past me o.view o.view.epoch aside (alike c past me v o.view e g h);
  by = asides_by c (onto o.told past) me o.told aside;
  plain = aside_plain o.told past aside;
}

pub quiet_site : (c : Config) (me : ℕ) (past : List Told) (v : SiteView) → SiteMade c past me v → SiteKeeps c me past (quiet v)
quiet_site c me past v h = record { view = h; by = tt; plain = tt }

pub then_site : (c : Config) (me : ℕ) (past : List Told) (o p : Outcome SiteView) → SiteKeeps c me past o → SiteKeeps c me (onto o.told past) p → SiteKeeps c me past (joined_to o p)
then_site c me past o p h g = record {
  view = subst (λ (now : List Told). SiteMade c now me p.view) (sym same) g.view;
  by = subst (λ (now : List Told). Every (TabularBy c now me) (o.told ++ p.told)) (sym same) (every_append (TabularBy c end me) o.told p.told (bys_later c (onto o.told past) end (onto_later p.told (onto o.told past)) me o.told h.by) g.by);
  plain = plain_append past o.told p.told h.plain g.plain;
}
  where
    end : List Told
    end = onto p.told (onto o.told past)

    same : onto (o.told ++ p.told) past ≡ end
    same = onto_append o.told p.told past

pub in_epoch : (c : Config) (past : List Told) (me : ℕ) (v : SiteView) (e : InEpoch) → v.epoch ≡ Some e → SiteMade c past me v → MadeIn c past me v (Some e)
in_epoch c past me v e here h = subst (MadeIn c past me v) here h

-- ---- a table's outcome in the site ----

here_by : (c : Config) (now : List Told) (me : ℕ) (e : EpochId) (members : Members) (group : ℕ) (x : Told) → WasJoined now me e members → sync_site c members group ≡ Some me → Here e group x → TabularBy c now me x
here_by c now me e members group x j s h at of k =
    let same : (e ≡ at) × (group ≡ of) = here_told e at group of x h k in
    record { members = members; joined = subst (λ (i : EpochId). WasJoined now me i members) same.0 j; synced = subst (λ (n : ℕ). sync_site c members n ≡ Some me) same.1 s }

table_part : (c : Config) (me : ℕ) (past : List Told) (g : SyncTable → Outcome SyncTable) (v : SiteView) (e : InEpoch) (o : Option SyncTable) → v.epoch ≡ Some e → SiteMade c past me v → ((t : SyncTable) → o ≡ Some t → TableMade c past me e.id e.members t × TableKeeps c past me e.id e.members t (g t)) → SiteKeeps c me past (at_table_of g o v)
table_part c me past g v e None here h fine = quiet_site c me past v h
table_part c me past g v e (Some t) here h fine =
    let now : List Told = onto (g t).told past in
    let q : MadeIn c past me v (Some e) = in_epoch c past me v e here h in
    let k : TableMade c past me e.id e.members t × TableKeeps c past me e.id e.members t (g t) = fine t refl in
    let joined : WasJoined now me e.id e.members = onto_later (g t).told past _ q.0 in
    record {
      view = subst (MadeIn c now me (with_table (g t).view v)) (sym here) (
        joined,
        put_tables (TableMade c past me e.id e.members) (TableMade c now me e.id e.members) (g t).view v.tables q.2 k.1.table
            (λ u ne old. table_later c (g t).told past me e.id e.members u (heres_foreign e.id t.group u.group (g t).told (λ s. ne (s ∙ sym k.1.group)) k.1.here) (here_fresh e.id t.group (g t).told past k.1.here) old) q.1,
        rising_put (g t).view v.tables q.2,
      );
      by = every_weaker (Here e.id t.group) (TabularBy c now me) (g t).told (λ x. here_by c now me e.id e.members t.group x joined k.0.synced) k.1.here;
      plain = k.1.plain;
    }

found_is : {A : Type 0} (P : A → Type 0) (key : A → ℕ) (k : ℕ) (o : Option A) (x : A) → FoundAt P key k o → o ≡ Some x → (key x ≡ k) × P x
found_is P key k o x h e = subst (FoundAt P key k) e h

one_found : {A : Type 0} (P : A → Type 0) (o : Option A) (x : A) → Found P o → o ≡ Some x → P x
one_found P o x h e = subst (Found P) e h

pub group_part : (c : Config) (me : ℕ) (past : List Told) (g : SyncTable → Outcome SyncTable) (v : SiteView) (e : InEpoch) (group : ℕ) → v.epoch ≡ Some e → SiteMade c past me v → ((t : SyncTable) → t.group ≡ group → TableMade c past me e.id e.members t → TableKeeps c past me e.id e.members t (g t)) → SiteKeeps c me past (at_table_of g (row table_group group v.tables) v)
group_part c me past g v e group here h fine =
    table_part c me past g v e (row table_group group v.tables) here h
    (λ t q. (let k : (t.group ≡ group) × TableMade c past me e.id e.members t = found_is (TableMade c past me e.id e.members) table_group group (row table_group group v.tables) t (row_at (TableMade c past me e.id e.members) table_group group v.tables (in_epoch c past me v e here h).1) q in (k.1, fine t k.0 k.1)))

-- at the table that has the instance, where each table has such a property
pub with_part : (c : Config) (me : ℕ) (past : List Told) (Q : SyncTable → Type 0) (g : SyncTable → Outcome SyncTable) (v : SiteView) (e : InEpoch) (test : SyncTable → Bool) → v.epoch ≡ Some e → Every Q v.tables → SiteMade c past me v → ((t : SyncTable) → Q t → TableMade c past me e.id e.members t → TableKeeps c past me e.id e.members t (g t)) → SiteKeeps c me past (at_table_of g (first_that test v.tables) v)
with_part c me past Q g v e test here each h fine =
    table_part c me past g v e (first_that test v.tables) here h
    (λ t q. (let k : TableMade c past me e.id e.members t = one_found (TableMade c past me e.id e.members) (first_that test v.tables) t (first_found (TableMade c past me e.id e.members) test v.tables (in_epoch c past me v e here h).1) q in (k, fine t (one_found Q (first_that test v.tables) t (first_found Q test v.tables each) q) k)))
