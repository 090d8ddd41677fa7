-- The tables of a site know each plain grant of their groups: what each event of a site keeps of that.
use Rattle.std.proofs.Common.{◌≡◌, ℕ, ◌==◌, nat_lt, Bool, true, false, cond, List, [], ◌∷◌, ◌++◌, map, filter, Option, Some, None, refl, sym, ◌∙◌, ap, subst, inl, inr, arith}
use Rattle.std.proofs.lemmas.Bool.Decides.{nat_tests}
use Rattle.run_laws.proofs.of_plain_facts.Numbers.{apart, equal}
use Rattle.run_laws.proofs.of_plain_facts.Tests.{false_true}
use Rattle.locus_ids.specs.declared.ids.EpochId.{EpochId}
use Rattle.locus_ids.specs.declared.ids.FileId.{FileId}
use Rattle.locus_ids.specs.declared.ids.Mode.{Mode}
use Rattle.locus_ids.specs.declared.sites.Members.{Members}
use Rattle.locus_ids.specs.declared.config.Config.{Config}
use Rattle.trace_book.specs.declared.record.Record.{Record}
use Rattle.trace_book.specs.declared.record.Record.TheVariants as says
use Rattle.role_steps.specs.Own.{Every}
use Rattle.role_steps.specs.Tables.{row, with_row, first_that}
use Rattle.role_steps.specs.Views.{SiteView, Told, Shown, DiskWrite, Outcome, quiet, joined_to, first_written, sync_site, all_groups}
use Rattle.role_steps.specs.Reports.{new_table}
use Rattle.role_steps.specs.Epochs.{is_sync_site}
use Rattle.role_steps.specs.Adoption.{table_group, with_table}
use Rattle.role_steps.specs.declared.rounds.InEpoch.{InEpoch}
use Rattle.role_steps.specs.declared.synchronizing.SyncTable.{SyncTable}
use Rattle.role_steps.proofs.Sending.{every_append}
use Rattle.the_run.specs.Steps.{at_table_of}
use Rattle.the_run.proofs.Boots.{every_weaker}
use Rattle.the_run.proofs.InsideSync.{every_row, Found, first_found}
use Rattle.run_laws.specs.Words.{Talks}
use Rattle.site_laws.specs.Vectors.Facts.{onto}
use Rattle.site_laws.proofs.Vectors.Facts.{onto_append}
use Rattle.site_laws.proofs.Vectors.SyncFacts.{FoundAt, row_at}
use Rattle.site_laws.specs.Locks.Joins.{WasJoined, JoinsAreOnce}
use Rattle.site_laws.specs.Locks.Locks.{IsOfAFile}
use Rattle.site_laws.specs.Locks.Grants.{GrantedAsRecord, GrantedAs, WasGrantedAs}
use Rattle.site_laws.specs.Locks.Synced.{Rising, Orderly, SyncedBy}
use Rattle.site_laws.proofs.Locks.Facts.{Later, onto_later}
use Rattle.site_laws.proofs.Locks.GrantFacts.{TableKeeps}
use Rattle.site_laws.proofs.Locks.GrantTold.{TableLock, lock_later, HereRecord, GrantHere, BareRecord, Bare, bare_since, here_since, AllLocked, locked_append, bare_locked}
use Rattle.site_laws.proofs.Locks.BareRoles.{BareWrite}

-- ---- tables, their groups rising ----

less_not : (a b : ℕ) → nat_lt a b ≡ true → a ≡ b → ⊥
less_not a b h e = grind (arith, nat_tests)

less_same : (a b c : ℕ) → (a == b) ≡ true → nat_lt a c ≡ true → nat_lt b c ≡ true
less_same a b c h g = grind (arith, nat_tests)

less_less : (a b c : ℕ) → nat_lt a b ≡ false → (a == b) ≡ false → nat_lt a c ≡ true → nat_lt b c ≡ true
less_less a b c h g k = grind (arith, nat_tests)

greater : (a b : ℕ) → nat_lt a b ≡ false → (a == b) ≡ false → nat_lt b a ≡ true
greater a b h g = grind (arith, nat_tests)

-- what holds of a new table and, of the others, of those of other groups
pub put_tables : (P Q : SyncTable → Type 0) (new : SyncTable) (ts : List SyncTable) → Rising ts → Q new → ((u : SyncTable) → (u.group ≡ new.group → ⊥) → P u → Q u) → Every P ts → Every Q (with_row table_group new ts)
put_tables P Q new [] r q f h = (q, tt)
put_tables P Q new (u ∷ us) r q f h =
    (elim (nat_lt u.group new.group) as (λ b. nat_lt u.group new.group ≡ b → Every Q (elim b [ true ↦ u ∷ with_row table_group new us | false ↦ elim (u.group == new.group) [ true ↦ new ∷ us | false ↦ new ∷ u ∷ us ] ])) [
      | true ↦ λ e. (f u (less_not u.group new.group e) h.0, put_tables P Q new us r.1 q f h.1)
      | false ↦ λ e. (elim (u.group == new.group) as (λ b. (u.group == new.group) ≡ b → Every Q (elim b [ true ↦ new ∷ us | false ↦ new ∷ u ∷ us ])) [
        | true ↦ λ k. (q, others us e r.0 h.1)
        | false ↦ λ k. (q, (f u (apart u.group new.group k) h.0, others us e r.0 h.1))
      ]) refl
    ]) refl
  where
    others : (ws : List SyncTable) → nat_lt u.group new.group ≡ false → Every (λ (w : SyncTable). nat_lt u.group w.group ≡ true) ws → Every P ws → Every Q ws
    others [] e r h = tt
    others (w ∷ ws) e r h = (f w (λ s. false_true (sym e ∙ subst (λ (n : ℕ). nat_lt u.group n ≡ true) s r.0)) h.0, others ws e r.1 h.1)

pub rising_put : (new : SyncTable) (ts : List SyncTable) → Rising ts → Rising (with_row table_group new ts)
rising_put new [] r = (tt, tt)
rising_put new (u ∷ us) r =
    (elim (nat_lt u.group new.group) as (λ b. nat_lt u.group new.group ≡ b → Rising (elim b [ true ↦ u ∷ with_row table_group new us | false ↦ elim (u.group == new.group) [ true ↦ new ∷ us | false ↦ new ∷ u ∷ us ] ])) [
      | true ↦ λ e. (every_row (λ (w : SyncTable). nat_lt u.group w.group ≡ true) table_group new us e r.0, rising_put new us r.1)
      | false ↦ λ e. (elim (u.group == new.group) as (λ b. (u.group == new.group) ≡ b → Rising (elim b [ true ↦ new ∷ us | false ↦ new ∷ u ∷ us ])) [
        | true ↦ λ k. (every_weaker (λ (w : SyncTable). nat_lt u.group w.group ≡ true) (λ (w : SyncTable). nat_lt new.group w.group ≡ true) us (λ w g. less_same u.group new.group w.group k g) r.0, r.1)
        | false ↦ λ k. ((greater u.group new.group e k, every_weaker (λ (w : SyncTable). nat_lt u.group w.group ≡ true) (λ (w : SyncTable). nat_lt new.group w.group ≡ true) us (λ w g. less_less u.group new.group w.group e k g) r.0), (r.0, r.1))
      ]) refl
    ]) refl

abbrev Ascending : List ℕ → Type 0
Ascending [] = Unit {0}
Ascending (g ∷ gs) = Every (λ (h : ℕ). nat_lt g h ≡ true) gs × Ascending gs

filtered : (P : ℕ → Type 0) (test : ℕ → Bool) (gs : List ℕ) → Every P gs → Every P (filter test gs)
filtered P test [] h = tt
filtered P test (g ∷ gs) h = elim (test g) as (λ b. Every P (cond b (g ∷ filter test gs) (filter test gs))) [ true ↦ (h.0, filtered P test gs h.1) | false ↦ filtered P test gs h.1 ]

pub ascending_filter : (test : ℕ → Bool) (gs : List ℕ) → Ascending gs → Ascending (filter test gs)
ascending_filter test [] h = tt
ascending_filter test (g ∷ gs) h = elim (test g) as (λ b. Ascending (cond b (g ∷ filter test gs) (filter test gs))) [ true ↦ (filtered (λ (k : ℕ). nat_lt g k ≡ true) test gs h.0, ascending_filter test gs h.1) | false ↦ ascending_filter test gs h.1 ]

pub made_rising : (gs : List ℕ) → Ascending gs → Rising (map new_table gs)
made_rising [] h = tt
made_rising (g ∷ gs) h = (made gs h.0, made_rising gs h.1)
  where
    made : (ks : List ℕ) → Every (λ (k : ℕ). nat_lt g k ≡ true) ks → Every (λ (u : SyncTable). nat_lt g u.group ≡ true) (map new_table ks)
    made [] h = tt
    made (k ∷ ks) h = (h.0, made ks h.1)

pub groups_ascend : Ascending all_groups
groups_ascend = ((refl, (refl, (refl, tt))), ((refl, (refl, tt)), ((refl, tt), (tt, tt))))

pub passing : (P : ℕ → Type 0) (test : ℕ → Bool) (gs : List ℕ) → ((g : ℕ) → test g ≡ true → P g) → Every P (filter test gs)
passing P test [] f = tt
passing P test (g ∷ gs) f = (elim (test g) as (λ b. test g ≡ b → Every P (cond b (g ∷ filter test gs) (filter test gs))) [ true ↦ λ e. (f g e, passing P test gs f) | false ↦ λ e. passing P test gs f ]) refl

pub is_synced : (c : Config) (me : ℕ) (members : Members) (g : ℕ) → is_sync_site c me members g ≡ true → sync_site c members g ≡ Some me
is_synced c me members g = by_site (sync_site c members g) refl
  where
    none : sync_site c members g ≡ None → is_sync_site c me members g ≡ false
    none e = rw e refl

    some : (s : ℕ) → sync_site c members g ≡ Some s → is_sync_site c me members g ≡ (s == me)
    some s e = rw e refl

    by_site : (o : Option ℕ) → sync_site c members g ≡ o → is_sync_site c me members g ≡ true → sync_site c members g ≡ Some me
    by_site None e h = absurd (false_true (sym (none e) ∙ h))
    by_site (Some s) e h = e ∙ ap Some (equal s me (sym (some s e) ∙ h))

-- ---- what was told, and a site ----

abbrev pub ByRecord : Config → List Told → ℕ → Record → Type 0
ByRecord c past s (says.Grant e call request inst m file stamp ss) = IsOfAFile m → SyncedBy c past e file.group s
ByRecord c past s _ = Unit {0}

abbrev pub GrantBy : Config → List Told → ℕ → Told → Type 0
GrantBy c past s (Shown r) = ByRecord c past s r
GrantBy c past s _ = Unit {0}

abbrev pub GrantsSynced : Config → List Told → Type 0
GrantsSynced c past = (e : EpochId) (key : ℕ) (file : FileId) (m : Mode) → IsOfAFile m → WasGrantedAs past e key file m → (s : ℕ) × SyncedBy c past e file.group s

abbrev pub GrantsIn : Config → List Told → ℕ → SiteView → Option InEpoch → Type 0
GrantsIn c past me v None = v.tables ≡ []
GrantsIn c past me v (Some e) = WasJoined past me e.id e.members × Every (TableLock c past me e.id e.members) v.tables × Rising v.tables

abbrev pub SiteLock : Config → List Told → ℕ → SiteView → Type 0
SiteLock c past me v = GrantsIn c past me v v.epoch

pub record SiteKeeps (c : Config) (me : ℕ) (past : List Told) (o : Outcome SiteView) : Type 0 where
  pub view : SiteLock c (onto o.told past) me o.view
  pub by : Every (GrantBy c (onto o.told past) me) o.told
  pub locked : AllLocked past o.told
  pub written : BareWrite o.written

-- ---- earlier and later ----

once_before : (told past : List Told) → JoinsAreOnce (onto told past) → JoinsAreOnce past
once_before [] past h = h
once_before (x ∷ xs) past h = (once_before xs (x ∷ past) h).1

pub orderly_before : (told past : List Told) → Orderly (onto told past) → Orderly past
orderly_before told past h = record { once = once_before told past h.once; one = λ s t id m n a b. h.one s t id m n (onto_later told past _ a) (onto_later told past _ b) }

synced_later : (c : Config) (a b : List Told) → Later a b → (e : EpochId) (group s : ℕ) → SyncedBy c a e group s → SyncedBy c b e group s
synced_later c a b l e group s h = record { members = h.members; joined = l _ h.joined; synced = h.synced }

by_record_later : (c : Config) (a b : List Told) → Later a b → (s : ℕ) (r : Record) → ByRecord c a s r → ByRecord c b s r
by_record_later c a b l s (says.Grant e call request inst m file stamp ss) h = λ it. synced_later c a b l e file.group s (h it)
by_record_later c a b l s _ h = tt

by_later : (c : Config) (a b : List Told) → Later a b → (s : ℕ) (x : Told) → GrantBy c a s x → GrantBy c b s x
by_later c a b l s (Shown r) h = by_record_later c a b l s r h
by_later c a b l s _ h = tt

bys_later : (c : Config) (a b : List Told) → Later a b → (s : ℕ) (xs : List Told) → Every (GrantBy c a s) xs → Every (GrantBy c b s) xs
bys_later c a b l s xs h = every_weaker (GrantBy c a s) (GrantBy c b s) xs (by_later c a b l s) h

bare_by_record : (c : Config) (past : List Told) (s : ℕ) (r : Record) → BareRecord r → ByRecord c past s r
bare_by_record c past s (says.Grant e call request inst m file stamp ss) h = λ it. absurd (h it)
bare_by_record c past s _ h = tt

bare_by : (c : Config) (past : List Told) (s : ℕ) (x : Told) → Bare x → GrantBy c past s x
bare_by c past s (Shown r) h = bare_by_record c past s r h
bare_by c past s _ h = tt

pub bares_by : (c : Config) (past : List Told) (s : ℕ) (xs : List Told) → Every Bare xs → Every (GrantBy c past s) xs
bares_by c past s xs h = every_weaker Bare (GrantBy c past s) xs (bare_by c past s) h

granted_record_by : (c : Config) (now : List Told) (me : ℕ) (e : EpochId) (key : ℕ) (file : FileId) (m : Mode) (r : Record) → IsOfAFile m → ByRecord c now me r → GrantedAsRecord e key file m r → SyncedBy c now e file.group me
granted_record_by c now me e key file m (says.Grant at call request inst n of stamp ss) it h g = subst (λ (f : FileId). SyncedBy c now e f.group me) g.2 (subst (λ (i : EpochId). SyncedBy c now i of.group me) g.0 (h (subst IsOfAFile (sym g.3) it)))
granted_record_by c now me e key file m _ it h g = absurd g

pub granted_by : (c : Config) (now : List Told) (me : ℕ) (e : EpochId) (key : ℕ) (file : FileId) (m : Mode) (x : Told) → IsOfAFile m → GrantBy c now me x → GrantedAs e key file m x → SyncedBy c now e file.group me
granted_by c now me e key file m (Shown r) it h g = granted_record_by c now me e key file m r it h g
granted_by c now me e key file m _ it h g = absurd g

abbrev pub Known : Config → List Told → List Told → Type 0
Known c now past = (e : EpochId) (key : ℕ) (file : FileId) (m : Mode) → IsOfAFile m → WasGrantedAs past e key file m → (s : ℕ) × SyncedBy c now e file.group s

known_onto : (c : Config) (now : List Told) (me : ℕ) (told past : List Told) → Every (GrantBy c now me) told → Known c now past → Known c now (onto told past)
known_onto c now me [] past h k = k
known_onto c now me (x ∷ xs) past h k = known_onto c now me xs (x ∷ past) h.1 (λ e key file m it g. one e key file m it g)
  where
    one : (e : EpochId) (key : ℕ) (file : FileId) (m : Mode) → IsOfAFile m → WasGrantedAs (x ∷ past) e key file m → (s : ℕ) × SyncedBy c now e file.group s
    one e key file m it (inl g) = (me, granted_by c now me e key file m x it h.0 g)
    one e key file m it (inr g) = k e key file m it g

pub synced_after : (c : Config) (me : ℕ) (told past : List Told) → Every (GrantBy c (onto told past) me) told → GrantsSynced c past → GrantsSynced c (onto told past)
synced_after c me told past h k = known_onto c (onto told past) me told past h (λ e key file m it g. (let r : (s : ℕ) × SyncedBy c past e file.group s = k e key file m it g in (r.0, synced_later c past (onto told past) (onto_later told past) e file.group r.0 r.1)))

-- ---- outcomes of a site ----

pub in_bare : (c : Config) (told past : List Told) (me : ℕ) (v : SiteView) (o : Option InEpoch) → Every Bare told → GrantsIn c past me v o → GrantsIn c (onto told past) me v o
in_bare c told past me v None h k = k
in_bare c told past me v (Some e) h k = (onto_later told past _ k.0, every_weaker (TableLock c past me e.id e.members) (TableLock c (onto told past) me e.id e.members) v.tables (λ t q. lock_later c past (onto told past) (onto_later told past) me e.id e.members t (bare_since told past e.id t.group h) q) k.1, k.2)

pub in_alike : (c : Config) (past : List Told) (me : ℕ) (v w : SiteView) (o : Option InEpoch) → w.tables ≡ v.tables → GrantsIn c past me v o → GrantsIn c past me w o
in_alike c past me v w None e h = e ∙ h
in_alike c past me v w (Some i) e h = (h.0, subst (λ (ts : List SyncTable). Every (TableLock c past me i.id i.members) ts) (sym e) h.1, subst Rising (sym e) h.2)

pub alike : (c : Config) (past : List Told) (me : ℕ) (v w : SiteView) → w.tables ≡ v.tables → w.epoch ≡ v.epoch → SiteLock c past me v → SiteLock c past me w
alike c past me v w e g h = subst (GrantsIn c past me w) (sym g) (in_alike c past me v w v.epoch e h)

pub none_bare : (d : Option DiskWrite) → d ≡ None → BareWrite d
none_bare d e = subst BareWrite (sym e) tt

pub plain_site : (c : Config) (me : ℕ) (past : List Told) (v : SiteView) (o : Outcome SiteView) → o.view.tables ≡ v.tables → o.view.epoch ≡ v.epoch → Every Bare o.told → BareWrite o.written → SiteLock c past me v → SiteKeeps c me past o
plain_site c me past v o e g bare w h = record {
  view = in_bare c o.told past me o.view o.view.epoch bare (alike c past me v o.view e g h);
  by = bares_by c (onto o.told past) me o.told bare;
  locked = bare_locked past o.told bare;
  written = w;
}

pub quiet_site : (c : Config) (me : ℕ) (past : List Told) (v : SiteView) → SiteLock c past me v → SiteKeeps c me past (quiet v)
quiet_site c me past v h = record { view = h; by = tt; locked = tt; written = tt }

pub first_bare : (a b : Option DiskWrite) → BareWrite a → BareWrite b → BareWrite (first_written a b)
first_bare None b h g = g
first_bare (Some d) b h g = h

pub then_site : (c : Config) (me : ℕ) (past : List Told) (o p : Outcome SiteView) → SiteKeeps c me past o → SiteKeeps c me (onto o.told past) p → SiteKeeps c me past (joined_to o p)
then_site c me past o p h g = record {
  view = subst (λ (now : List Told). SiteLock c now me p.view) (sym same) g.view;
  by = subst (λ (now : List Told). Every (GrantBy c now me) (o.told ++ p.told)) (sym same) (every_append (GrantBy c end me) o.told p.told (bys_later c (onto o.told past) end (onto_later p.told (onto o.told past)) me o.told h.by) g.by);
  locked = locked_append past o.told p.told h.locked g.locked;
  written = first_bare o.written p.written h.written g.written;
}
  where
    end : List Told
    end = onto p.told (onto o.told past)

    same : onto (o.told ++ p.told) past ≡ end
    same = onto_append o.told p.told past

pub in_epoch : (c : Config) (past : List Told) (me : ℕ) (v : SiteView) (e : InEpoch) → v.epoch ≡ Some e → SiteLock c past me v → GrantsIn c past me v (Some e)
in_epoch c past me v e here h = subst (GrantsIn c past me v) here h

-- ---- a table's outcome in the site ----

here_record_by : (c : Config) (now : List Told) (me : ℕ) (e : EpochId) (members : Members) (group : ℕ) (r : Record) → WasJoined now me e members → sync_site c members group ≡ Some me → HereRecord e group r → ByRecord c now me r
here_record_by c now me e members group (says.Grant at call request inst m file stamp ss) j s h = λ it. record { members = members; joined = subst (λ (i : EpochId). WasJoined now me i members) (sym (h it).0) j; synced = subst (λ (g : ℕ). sync_site c members g ≡ Some me) (sym (h it).1) s }
here_record_by c now me e members group _ j s h = tt

here_by : (c : Config) (now : List Told) (me : ℕ) (e : EpochId) (members : Members) (group : ℕ) (x : Told) → WasJoined now me e members → sync_site c members group ≡ Some me → GrantHere e group x → GrantBy c now me x
here_by c now me e members group (Shown r) j s h = here_record_by c now me e members group r j s h
here_by c now me e members group _ j s h = tt

table_part : (c : Config) (me : ℕ) (past : List Told) (g : SyncTable → Outcome SyncTable) (v : SiteView) (e : InEpoch) (o : Option SyncTable) → v.epoch ≡ Some e → SiteLock c past me v → ((t : SyncTable) → Talks (g t)) → ((t : SyncTable) → o ≡ Some t → TableLock c past me e.id e.members t × TableKeeps c past me e.id e.members t (g t)) → SiteKeeps c me past (at_table_of g o v)
table_part c me past g v e None here h talks fine = quiet_site c me past v h
table_part c me past g v e (Some t) here h talks fine =
    let now : List Told = onto (g t).told past in
    let q : GrantsIn c past me v (Some e) = in_epoch c past me v e here h in
    let k : TableLock c past me e.id e.members t × TableKeeps c past me e.id e.members t (g t) = fine t refl in
    let joined : WasJoined now me e.id e.members = onto_later (g t).told past _ q.0 in
    record {
      view = subst (GrantsIn c now me (with_table (g t).view v)) (sym here) (
        joined,
        put_tables (TableLock c past me e.id e.members) (TableLock c now me e.id e.members) (g t).view v.tables q.2 k.1.lock
            (λ u ne old. lock_later c past now (onto_later (g t).told past) me e.id e.members u (here_since (g t).told past e.id t.group u.group (λ s. ne (s ∙ sym k.1.group)) k.1.here) old) q.1,
        rising_put (g t).view v.tables q.2,
      );
      by = every_weaker (GrantHere e.id t.group) (GrantBy c now me) (g t).told (λ x. here_by c now me e.id e.members t.group x joined k.0.synced) k.1.here;
      locked = k.1.locked;
      written = none_bare (g t).written (talks t).1;
    }

found_is : {A : Type 0} (P : A → Type 0) (key : A → ℕ) (k : ℕ) (o : Option A) (x : A) → FoundAt P key k o → o ≡ Some x → (key x ≡ k) × P x
found_is P key k o x h e = subst (FoundAt P key k) e h

one_found : {A : Type 0} (P : A → Type 0) (o : Option A) (x : A) → Found P o → o ≡ Some x → P x
one_found P o x h e = subst (Found P) e h

pub group_part : (c : Config) (me : ℕ) (past : List Told) (g : SyncTable → Outcome SyncTable) (v : SiteView) (e : InEpoch) (group : ℕ) → v.epoch ≡ Some e → SiteLock c past me v → ((t : SyncTable) → Talks (g t)) → ((t : SyncTable) → t.group ≡ group → TableLock c past me e.id e.members t → TableKeeps c past me e.id e.members t (g t)) → SiteKeeps c me past (at_table_of g (row table_group group v.tables) v)
group_part c me past g v e group here h talks fine =
    table_part c me past g v e (row table_group group v.tables) here h talks
    (λ t q. (let k : (t.group ≡ group) × TableLock c past me e.id e.members t = found_is (TableLock c past me e.id e.members) table_group group (row table_group group v.tables) t (row_at (TableLock c past me e.id e.members) table_group group v.tables (in_epoch c past me v e here h).1) q in (k.1, fine t k.0 k.1)))

pub with_part : (c : Config) (me : ℕ) (past : List Told) (g : SyncTable → Outcome SyncTable) (v : SiteView) (e : InEpoch) (test : SyncTable → Bool) → v.epoch ≡ Some e → SiteLock c past me v → ((t : SyncTable) → Talks (g t)) → ((t : SyncTable) → TableLock c past me e.id e.members t → TableKeeps c past me e.id e.members t (g t)) → SiteKeeps c me past (at_table_of g (first_that test v.tables) v)
with_part c me past g v e test here h talks fine =
    table_part c me past g v e (first_that test v.tables) here h talks
    (λ t q. (let k : TableLock c past me e.id e.members t = one_found (TableLock c past me e.id e.members) (first_that test v.tables) t (first_found (TableLock c past me e.id e.members) test v.tables (in_epoch c past me v e here h).1) q in (k, fine t k)))
