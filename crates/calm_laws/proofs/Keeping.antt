-- Where a site keeps what its tables have of starts, reports, held requests and opens, and its store's instances, whatever carries a
-- request goes on to carry it.
use Rattle.std.proofs.Common.{◌≡◌, ◌≢◌, ℕ, ◌==◌, ◌⊎◌, Bool, true, false, List, [], ◌∷◌, Option, Some, refl, sym, ◌∙◌, ap, subst, inl, inr}
use Rattle.std.specs.List.{list_any}
use Rattle.role_steps.proofs.of_plain_facts.Options.{none_some}
use Rattle.role_steps.proofs.of_plain_facts.Tests.{true_false}
use Rattle.locus_ids.specs.Sites.{has}
use Rattle.locus_ids.specs.declared.config.Config.{Config}
use Rattle.locus_ids.specs.declared.ids.Serial.{Serial}
use Rattle.locus_ids.specs.declared.sites.Sites.{Sites}
use Rattle.trace_book.specs.Same.{same_serial}
use Rattle.wire_messages.specs.declared.body.Body.{Body}
use Rattle.wire_messages.specs.declared.body.Body.TheVariants as body
use Rattle.wire_messages.specs.declared.body.MadeVersion.{MadeVersion}
use Rattle.wire_messages.specs.declared.packet.Packet.{Packet}
use Rattle.role_steps.specs.Adoption.{table_group}
use Rattle.role_steps.specs.Opens.{open_key}
use Rattle.role_steps.specs.Storage.{instance_key}
use Rattle.role_steps.specs.Tables.{row, first_that}
use Rattle.role_steps.specs.Views.{SiteView, serial_key}
use Rattle.role_steps.specs.declared.instances.Instance.{Instance}
use Rattle.role_steps.specs.declared.rounds.InEpoch.{InEpoch}
use Rattle.role_steps.specs.declared.synchronizing.Early.{Early}
use Rattle.role_steps.specs.declared.synchronizing.OpenRow.{OpenRow}
use Rattle.role_steps.specs.declared.synchronizing.SyncTable.{SyncTable}
use Rattle.role_steps.specs.declared.users.Asking.{Asking}
use Rattle.role_steps.specs.declared.users.Asking.TheVariants as asking
use Rattle.role_steps.specs.declared.users.WaitingCall.{WaitingCall}
use Rattle.the_run.specs.Kept.{Among}
use Rattle.the_run.specs.Steps.{is_opened_in}
use Rattle.the_run.specs.Worlds.{Running}
use Rattle.the_run.proofs.Boots.{at_each}
use Rattle.run_laws.specs.Epochs.Known.{Places}
use Rattle.row_laws.proofs.Orderly.Places.{view_eq}
use Rattle.calm_laws.specs.Carrying.{IsMember, Goes, Holds, IsAsked, HasUnended, look_body, open_body, own_serial, held_request, CarriesOpen, CarriesClose, ClosesIt, Carries, IsHeld, HasReported}
use Rattle.calm_laws.proofs.Members.{sync_is}

-- ---- what is kept of a table ----

pub record KeepsTable (t n : SyncTable) : Type 0 where
  pub group : n.group ≡ t.group
  pub started : n.started ≡ t.started
  pub early : (x : Early) → Among x t.early → Among x n.early
  pub opens : n.opens ≡ t.opens
  pub reported : n.reported ≡ t.reported

-- table for table
abbrev pub KeepsAll : List SyncTable → List SyncTable → Type 0
KeepsAll [] [] = Unit {0}
KeepsAll [] (n ∷ ns) = ⊥
KeepsAll (t ∷ ts) [] = ⊥
KeepsAll (t ∷ ts) (n ∷ ns) = KeepsTable t n × KeepsAll ts ns

pub table_itself : (t : SyncTable) → KeepsTable t t
table_itself t = record { group = refl; started = refl; early = λ x a. a; opens = refl; reported = refl }

pub all_itself : (ts : List SyncTable) → KeepsAll ts ts
all_itself [] = tt
all_itself (t ∷ ts) = (table_itself t, all_itself ts)

pub table_then : (t n k : SyncTable) → KeepsTable t n → KeepsTable n k → KeepsTable t k
table_then t n k a b = record { group = b.group ∙ a.group; started = b.started ∙ a.started; early = λ x m. b.early x (a.early x m); opens = b.opens ∙ a.opens; reported = b.reported ∙ a.reported }

pub all_then : (ts ns ks : List SyncTable) → KeepsAll ts ns → KeepsAll ns ks → KeepsAll ts ks
all_then [] [] [] a b = tt
all_then [] [] (k ∷ ks) a b = b
all_then [] (n ∷ ns) ks a b = absurd a
all_then (t ∷ ts) [] ks a b = absurd a
all_then (t ∷ ts) (n ∷ ns) [] a b = absurd b
all_then (t ∷ ts) (n ∷ ns) (k ∷ ks) a b = (table_then t n k a.0 b.0, all_then ts ns ks a.1 b.1)

-- the first that passes is kept, where the test sees what is kept
pub record FirstKept (test : SyncTable → Bool) (ns : List SyncTable) (t : SyncTable) : Type 0 where
  pub table : SyncTable
  pub found : first_that test ns ≡ Some table
  pub keeps : KeepsTable t table

some_is : (t n : SyncTable) → ◌≡◌ {A = Option SyncTable} (Some t) (Some n) → t ≡ n
some_is t n e = cc

first_kept : (test : SyncTable → Bool) → ((t n : SyncTable) → KeepsTable t n → test n ≡ test t) → (ts ns : List SyncTable) → KeepsAll ts ns → (t : SyncTable) → first_that test ts ≡ Some t → FirstKept test ns t
first_kept test same [] ns k t e = absurd (none_some t e)
first_kept test same (x ∷ xs) [] k t e = absurd k
first_kept test same (x ∷ xs) (y ∷ ys) k t e = over (test x) (test y) refl (same x y k.0) (λ f. first_kept test same xs ys k.1 t f) e
  where
    over : (a b : Bool) → test y ≡ b → b ≡ a → (first_that test xs ≡ Some t → FirstKept test ys t) → ◌≡◌ {A = Option SyncTable} (elim a [ true ↦ Some x | false ↦ first_that test xs ]) (Some t) → FirstKept test (y ∷ ys) t
    over true true q z f g = record { table = y; found = found_here (test y) q; keeps = subst (λ (n : SyncTable). KeepsTable n y) (some_is x t g) k.0 }
      where
        found_here : (b : Bool) → b ≡ true → ◌≡◌ {A = Option SyncTable} (elim b [ true ↦ Some y | false ↦ first_that test ys ]) (Some y)
        found_here true d = refl
        found_here false d = absurd (true_false (sym d))
    over true false q z f g = absurd (true_false (sym z))
    over false true q z f g = absurd (true_false z)
    over false false q z f g = (let r : FirstKept test ys t = f g in record { table = r.table; found = found_later (test y) q r.found; keeps = r.keeps })
      where
        found_later : (b : Bool) {n : SyncTable} → b ≡ false → first_that test ys ≡ Some n → ◌≡◌ {A = Option SyncTable} (elim b [ true ↦ Some y | false ↦ first_that test ys ]) (Some n)
        found_later true d h = absurd (true_false d)
        found_later false d h = h

row_first : {A : Type 0} (key : A → ℕ) (k : ℕ) (xs : List A) → row key k xs ≡ first_that (λ (x : A). key x == k) xs
row_first key k [] = refl
row_first {A = A} key k (x ∷ xs) = ap (λ (o : Option A). elim (key x == k) [ true ↦ Some x | false ↦ o ]) (row_first key k xs)

pub record RowKept (group : ℕ) (ns : List SyncTable) (t : SyncTable) : Type 0 where
  pub table : SyncTable
  pub found : row table_group group ns ≡ Some table
  pub keeps : KeepsTable t table

pub row_kept : (group : ℕ) (ts ns : List SyncTable) → KeepsAll ts ns → (t : SyncTable) → row table_group group ts ≡ Some t → RowKept group ns t
row_kept group ts ns k t e =
    let r : FirstKept (λ (x : SyncTable). table_group x == group) ns t = first_kept (λ (x : SyncTable). table_group x == group) (λ a b h. ap (λ (g : ℕ). g == group) h.group) ts ns k t (sym (row_first table_group group ts) ∙ e) in
    record { table = r.table; found = row_first table_group group ns ∙ r.found; keeps = r.keeps }

pub opened_kept : (inst : Serial) (ts ns : List SyncTable) → KeepsAll ts ns → (t : SyncTable) → first_that (is_opened_in inst) ts ≡ Some t → FirstKept (is_opened_in inst) ns t
opened_kept inst ts ns k t e = first_kept (is_opened_in inst) (λ a b h. ap (λ (rs : List OpenRow). list_any (λ (r : OpenRow). same_serial r.inst inst) rs) h.opens) ts ns k t e

-- ---- what is kept of a site ----

pub record KeepsRoles (v u : SiteView) : Type 0 where
  pub tables : KeepsAll v.tables u.tables
  pub instances : u.store.instances ≡ v.store.instances

pub roles_itself : (v : SiteView) → KeepsRoles v v
roles_itself v = record { tables = all_itself v.tables; instances = refl }

pub roles_then : (v u z : SiteView) → KeepsRoles v u → KeepsRoles u z → KeepsRoles v z
roles_then v u z a b = record { tables = all_then v.tables u.tables z.tables a.tables b.tables; instances = b.instances ∙ a.instances }

-- a member keeps its roles
pub record KeptAt (now : Places) (s : ℕ) (v : SiteView) : Type 0 where
  pub view : SiteView
  pub here : now s ≡ Some (Running view)
  pub keeps : KeepsRoles v view

-- all members do
abbrev pub AllKeep : InEpoch → Places → Places → Type 0
AllKeep e at now = (s : ℕ) (v : SiteView) → IsMember e s → at s ≡ Some (Running v) → KeptAt now s v

-- one site does, and the others stay as they are
pub one_keeps : (e : InEpoch) (m : ℕ) (at now : Places) (v u : SiteView) → at m ≡ Some (Running v) → now m ≡ Some (Running u) → ((t : ℕ) → m ≢ t → now t ≡ at t) → KeepsRoles v u → AllKeep e at now
one_keeps e m at now v u was here others k s z member there =
    at_each m s (KeptAt now s z)
    (λ eq. record { view = u; here = ap now (sym eq) ∙ here; keeps = subst (λ (y : SiteView). KeepsRoles y u) (view_eq (at s) v z (ap at (sym eq) ∙ was) there) k })
    (λ ne. record { view = z; here = others s ne ∙ there; keeps = roles_itself z })

-- ---- what carries a request ----

pub holds_kept : (e : InEpoch) (at now : Places) (css group site process : ℕ) (b : Body) → AllKeep e at now → IsMember e css → Holds at css group site process b → Holds now css group site process b
holds_kept e at now css group site process b keep m h =
    let k : KeptAt now css h.view = keep css h.view m h.here in
    let r : RowKept group k.view.tables h.table = row_kept group h.view.tables k.view.tables k.keeps.tables h.table h.found in
    record { view = k.view; here = k.here; table = r.table; found = r.found; unstarted = r.keeps.started ∙ h.unstarted; held = r.keeps.early (held_request site process b) h.held }

pub asked_kept : (e : InEpoch) (at now : Places) (css : ℕ) (inst : Serial) (o : OpenRow) → AllKeep e at now → IsMember e css → IsAsked at css inst o → IsAsked now css inst o
asked_kept e at now css inst o keep m h =
    let k : KeptAt now css h.view = keep css h.view m h.here in
    let r : FirstKept (is_opened_in inst) k.view.tables h.table = opened_kept inst h.view.tables k.view.tables k.keeps.tables h.table h.found in
    record { view = k.view; here = k.here; table = r.table; found = r.found; is_row = ap (λ (rs : List OpenRow). row open_key (serial_key inst) rs) r.keeps.opens ∙ h.is_row; asked = h.asked }

pub unended_kept : (e : InEpoch) (at now : Places) (ss : ℕ) (inst : Serial) → AllKeep e at now → IsMember e ss → HasUnended at ss inst → HasUnended now ss inst
unended_kept e at now ss inst keep m h =
    let k : KeptAt now ss h.view = keep ss h.view m h.here in
    record { view = k.view; here = k.here; instance = h.instance; found = ap (λ (xs : List Instance). row instance_key (serial_key inst) xs) k.keeps.instances ∙ h.found; unended = h.unended }

pub reported_kept : (e : InEpoch) (at now : Places) (css group site : ℕ) → AllKeep e at now → IsMember e css → HasReported at css group site → HasReported now css group site
reported_kept e at now css group site keep m h =
    let k : KeptAt now css h.view = keep css h.view m h.here in
    let r : RowKept group k.view.tables h.table = row_kept group h.view.tables k.view.tables k.keeps.tables h.table h.found in
    record { view = k.view; here = k.here; table = r.table; found = r.found; reported = ap (λ (x : Sites). has x site) r.keeps.reported ∙ h.reported }

pub carries_kept : (c : Config) (e : InEpoch) (at now : Places) (s : ℕ) (x : WaitingCall) (a : Asking) (p : Packet) → AllKeep e at now → Carries c e at s x a p → Carries c e now s x a p
carries_kept c e at now s x (asking.Look file w take) p keep k = k
carries_kept c e at now s x (asking.Open serial file how) p keep k = (k.0, k.1, over k.2)
  where
    over : CarriesOpen c e at s x serial file how k.0 p → CarriesOpen c e now s x serial file how k.0 p
    over (inl g) = inl g
    over (inr (inl g)) = inr (inl (record { opened = g.opened; asked = asked_kept e at now k.0 (own_serial s serial) g.opened keep (sync_is c e file.group k.0 k.1).1 g.asked; way = g.way }))
    over (inr (inr g)) = inr (inr g)
carries_kept c e at now s x (asking.Op serial ss n o seen) p keep k = k
carries_kept c e at now s x (asking.Close serial ss) p keep k = over k
  where
    member : (g : ClosesIt c e at ss (own_serial s serial) p) → IsMember e ss
    member g = by_way g.way
      where
        by_way : ((made : Option MadeVersion) × Goes c e ss g.css (body.Closed (own_serial s serial) made) p) ⊎ Goes c e g.css ss (body.ClosedOk (own_serial s serial)) p → IsMember e ss
        by_way (inl h) = h.1.sender
        by_way (inr h) = h.receiver

    over : CarriesClose c e at s serial ss p → CarriesClose c e now s serial ss p
    over (inl g) = inl g
    over (inr (inl g)) = inr (inl (record { unended = unended_kept e at now ss (own_serial s serial) keep (member g) g.unended; css = g.css; way = g.way }))
    over (inr (inr g)) = inr (inr g)

pub held_kept : (c : Config) (e : InEpoch) (at now : Places) (s : ℕ) (x : WaitingCall) (a : Asking) → AllKeep e at now → IsHeld c e at s x a → IsHeld c e now s x a
held_kept c e at now s x (asking.Look file w take) keep k = (k.0, k.1, holds_kept e at now k.0 file.group s x.process (look_body x file w take) keep (sync_is c e file.group k.0 k.1).1 k.2)
held_kept c e at now s x (asking.Open serial file how) keep k = (k.0, k.1, holds_kept e at now k.0 file.group s x.process (open_body x serial file how) keep (sync_is c e file.group k.0 k.1).1 k.2)
held_kept c e at now s x _ keep k = absurd k
