-- Rows of what comes to a synchronization site: one of its tables changes, and what its opens, its held requests and its reports carry goes on, or is answered.
use Rattle.std.proofs.Common.{◌≡◌, ◌≢◌, ℕ, ◌<◌, ◌==◌, nat_lt, ◌⊎◌, Bool, true, false, ◌||◌, List, [], ◌∷◌, map, Option, Some, refl, sym, ◌∙◌, ap, subst, inl, inr, arith}
use Rattle.std.proofs.lemmas.Bool.Decides.{nat_tests}
use Rattle.std.specs.List.{list_any}
use Rattle.role_steps.proofs.of_plain_facts.Numbers.{less_test}
use Rattle.role_steps.proofs.of_plain_facts.Options.{none_some, some_same}
use Rattle.role_steps.proofs.of_plain_facts.Tests.{true_false}
use Rattle.locus_ids.specs.Sites.{has}
use Rattle.locus_ids.specs.declared.config.Config.{Config}
use Rattle.locus_ids.specs.declared.ids.Serial.{Serial}
use Rattle.locus_ids.specs.declared.sites.Sites.{Sites}
use Rattle.schedule_lines.specs.declared.line.ScheduleLine.{ScheduleLine}
use Rattle.trace_book.specs.Same.{same_serial}
use Rattle.wire_messages.specs.declared.body.Body.{Body}
use Rattle.wire_messages.specs.declared.body.Body.TheVariants as body
use Rattle.wire_messages.specs.declared.body.Granted.{Granted}
use Rattle.wire_messages.specs.declared.body.ReportedCopy.{ReportedCopy}
use Rattle.wire_messages.specs.declared.packet.Packet.{Packet}
use Rattle.role_steps.specs.Adoption.{table_group}
use Rattle.role_steps.specs.Opens.{open_key, open_row, with_open}
use Rattle.role_steps.specs.Storage.{instance_key}
use Rattle.role_steps.specs.Tables.{row, first_that, with_row, with_latest}
use Rattle.role_steps.specs.Views.{SiteView, Users, Outcome, packet, serial_key}
use Rattle.role_steps.specs.declared.instances.Instance.{Instance}
use Rattle.role_steps.specs.declared.rounds.InEpoch.{InEpoch}
use Rattle.role_steps.specs.declared.synchronizing.Early.{Early}
use Rattle.role_steps.specs.declared.synchronizing.OpenRow.{OpenRow}
use Rattle.role_steps.specs.declared.synchronizing.OpenStage.TheVariants as stage
use Rattle.role_steps.specs.declared.synchronizing.SyncTable.{SyncTable}
use Rattle.role_steps.specs.declared.users.Asking.{Asking}
use Rattle.role_steps.specs.declared.users.Asking.TheVariants as asking
use Rattle.role_steps.specs.declared.users.WaitingCall.{WaitingCall}
use Rattle.the_run.specs.Kept.{Among}
use Rattle.the_run.specs.Runs.{arrives}
use Rattle.the_run.specs.Steps.{is_opened_in}
use Rattle.the_run.specs.Worlds.{World, Running, Numbered, place_at}
use Rattle.the_run.proofs.Boots.{at_each}
use Rattle.store_laws.proofs.Tabled.{latest_other}
use Rattle.store_laws.proofs.OneTree.Rising.{Rising}
use Rattle.run_laws.specs.Epochs.Forming.{FormsNone}
use Rattle.run_laws.specs.Epochs.Known.{Places}
use Rattle.row_laws.proofs.Orderly.Places.{view_eq}
use Rattle.calm_laws.specs.Carrying.{IsMember, frame_of, Goes, Holds, IsAsked, HasUnended, held_request, look_body, open_body, own_serial, CarriesOpen, CarriesClose, Carries, IsHeld, HasReported, IsAllCarried}
use Rattle.calm_laws.specs.Rounds.{RequestsGoToMembers, Delivery}
use Rattle.calm_laws.proofs.Calls.{IsSent}
use Rattle.calm_laws.proofs.Delivered.{Takes, LeavesSite, takes_event, event_row}
use Rattle.calm_laws.proofs.Ends.{handles}
use Rattle.calm_laws.proofs.Handing.{StillWaits, IsHandedOn, Hands}
use Rattle.calm_laws.proofs.Keeping.{KeepsAll, all_itself}
use Rattle.calm_laws.proofs.Lists.{every_among}
use Rattle.calm_laws.proofs.Members.{sync_is}
use Rattle.calm_laws.proofs.Requests.{Requested, request_carries}
use Rattle.calm_laws.proofs.Rows.{AllGoToMembers, TriesNone, placed, placed_here, placed_other}
use Rattle.calm_laws.proofs.StoreRows.{TablesAt, AllTables, asked_on, held_on, reported_on}

-- ---- one table ----

-- Starts, held requests and reports stay; and so does each open that waits for its storage site, but for these.
pub record TableTo (S : Serial → Type 0) (t n : SyncTable) : Type 0 where
  pub group : n.group ≡ t.group
  pub started : n.started ≡ t.started
  pub early : n.early ≡ t.early
  pub reported : n.reported ≡ t.reported
  pub opened : (i : Serial) → is_opened_in i n ≡ is_opened_in i t
  pub rows : (i : Serial) (r : OpenRow) → open_row t i ≡ Some r → r.stage ≡ stage.Asked → (open_row n i ≡ Some r) ⊎ S i

pub to_itself : (S : Serial → Type 0) (t : SyncTable) → TableTo S t t
to_itself S t = record { group = refl; started = refl; early = refl; reported = refl; opened = λ i. refl; rows = λ i r e a. inl e }

-- a row is put in the place of that of its instance
any_latest : (q r : OpenRow) (i : Serial) (xs : List OpenRow) → q.inst ≡ r.inst → row open_key (open_key q) xs ≡ Some r → list_any (λ (x : OpenRow). same_serial x.inst i) (with_latest open_key q xs) ≡ list_any (λ (x : OpenRow). same_serial x.inst i) xs
any_latest q r i [] same e = absurd (none_some r e)
any_latest q r i (x ∷ xs) same e = over (open_key x == open_key q) (λ g. any_latest q r i xs same g) e
  where
    over : (b : Bool) → (row open_key (open_key q) xs ≡ Some r → list_any (λ (y : OpenRow). same_serial y.inst i) (with_latest open_key q xs) ≡ list_any (λ (y : OpenRow). same_serial y.inst i) xs) → ◌≡◌ {A = Option OpenRow} (elim b [ true ↦ Some x | false ↦ row open_key (open_key q) xs ]) (Some r) →
        list_any (λ (y : OpenRow). same_serial y.inst i) (elim b [ true ↦ q ∷ xs | false ↦ x ∷ with_latest open_key q xs ]) ≡ list_any (λ (y : OpenRow). same_serial y.inst i) (x ∷ xs)
    over true later g = ap (λ (s : Serial). same_serial s i || list_any (λ (y : OpenRow). same_serial y.inst i) xs) (same ∙ sym (ap (λ (y : OpenRow). y.inst) (some_same x r g)))
    over false later g = ap (λ (b : Bool). same_serial x.inst i || b) (later g)

pub open_to : (S : Serial → Type 0) (t : SyncTable) (q r : OpenRow) → q.inst ≡ r.inst → row open_key (open_key q) t.opens ≡ Some r → ((i : Serial) → open_key q ≡ serial_key i → S i) → TableTo S t (with_open q t)
open_to S t q r same found answered = record {
  group = refl;
  started = refl;
  early = refl;
  reported = refl;
  opened = λ i. any_latest q r i t.opens same found;
  rows = λ i k e a. at_each (open_key q) (serial_key i) ((open_row (with_open q t) i ≡ Some k) ⊎ S i) (λ eq. inr (answered i eq)) (λ ne. inl (latest_other open_key q (serial_key i) t.opens ne ∙ e));
}

-- nothing waits for a row in another stage
pub row_to_later : (S : Serial → Type 0) (t : SyncTable) (q r : OpenRow) → q.inst ≡ r.inst → row open_key (open_key q) t.opens ≡ Some r → (r.stage ≡ stage.Asked → ⊥) → TableTo S t (with_open q t)
row_to_later S t q r same found past = record {
  group = refl;
  started = refl;
  early = refl;
  reported = refl;
  opened = λ i. any_latest q r i t.opens same found;
  rows = λ i k e a. at_each (open_key q) (serial_key i) ((open_row (with_open q t) i ≡ Some k) ⊎ S i)
      (λ eq. absurd (past (ap (λ (z : OpenRow). z.stage) (some_same r k (sym found ∙ (ap (λ (key : ℕ). row open_key key t.opens) eq ∙ e))) ∙ a)))
      (λ ne. inl (latest_other open_key q (serial_key i) t.opens ne ∙ e));
}

-- nor for files
pub to_then : (S : Serial → Type 0) (t n k : SyncTable) → TableTo S t n → k.group ≡ n.group → k.started ≡ n.started → k.early ≡ n.early → k.reported ≡ n.reported → k.opens ≡ n.opens → TableTo S t k
to_then S t n k h a b d g o = record {
  group = a ∙ h.group;
  started = b ∙ h.started;
  early = d ∙ h.early;
  reported = g ∙ h.reported;
  opened = λ i. ap (λ (rs : List OpenRow). list_any (λ (x : OpenRow). same_serial x.inst i) rs) o ∙ h.opened i;
  rows = λ i r e z. over i r (h.rows i r e z);
}
  where
    over : (i : Serial) (r : OpenRow) → (open_row n i ≡ Some r) ⊎ S i → (open_row k i ≡ Some r) ⊎ S i
    over i r (inl e) = inl (ap (λ (rs : List OpenRow). row open_key (serial_key i) rs) o ∙ e)
    over i r (inr s) = inr s

-- ---- all tables ----

abbrev pub AllTo : (Serial → Type 0) → List SyncTable → List SyncTable → Type 0
AllTo S [] [] = Unit {0}
AllTo S [] (n ∷ ns) = ⊥
AllTo S (t ∷ ts) [] = ⊥
AllTo S (t ∷ ts) (n ∷ ns) = TableTo S t n × AllTo S ts ns

pub all_to_itself : (S : Serial → Type 0) (ts : List SyncTable) → AllTo S ts ts
all_to_itself S [] = tt
all_to_itself S (t ∷ ts) = (to_itself S t, all_to_itself S ts)

same_test : (a : ℕ) → (nat_lt a a ≡ false) × ((a == a) ≡ true)
same_test a = (grind (arith, nat_tests), grind (arith, nat_tests))

among_map : (t : SyncTable) (ts : List SyncTable) → Among t ts → Among t.group (map table_group ts)
among_map t [] a = absurd a
among_map t (x ∷ xs) (inl e) = inl (ap table_group e)
among_map t (x ∷ xs) (inr a) = inr (among_map t xs a)

pub put_to : (S : Serial → Type 0) (ts : List SyncTable) (t n : SyncTable) → Rising (map table_group ts) → Among t ts → TableTo S t n → AllTo S ts (with_row table_group n ts)
put_to S [] t n r a k = absurd a
put_to S (x ∷ xs) t n r (inl e) k = subst (λ (b : Bool). AllTo S (x ∷ xs) (elim b [ true ↦ x ∷ with_row table_group n xs | false ↦ elim (x.group == n.group) [ true ↦ n ∷ xs | false ↦ n ∷ x ∷ xs ] ])) (sym less)
    (subst (λ (b : Bool). AllTo S (x ∷ xs) (elim b [ true ↦ n ∷ xs | false ↦ n ∷ x ∷ xs ])) (sym same) (subst (λ (z : SyncTable). TableTo S z n) e k, all_to_itself S xs))
  where
    groups : x.group ≡ n.group
    groups = ap table_group (sym e) ∙ sym k.group

    less : nat_lt x.group n.group ≡ false
    less = subst (λ (g : ℕ). nat_lt x.group g ≡ false) groups (same_test x.group).0

    same : (x.group == n.group) ≡ true
    same = subst (λ (g : ℕ). (x.group == g) ≡ true) groups (same_test x.group).1
put_to S (x ∷ xs) t n r (inr a) k = subst (λ (b : Bool). AllTo S (x ∷ xs) (elim b [ true ↦ x ∷ with_row table_group n xs | false ↦ elim (x.group == n.group) [ true ↦ n ∷ xs | false ↦ n ∷ x ∷ xs ] ])) (sym less) (to_itself S x, put_to S xs t n r.1 a k)
  where
    less : nat_lt x.group n.group ≡ true
    less = less_test x.group n.group (subst (λ (g : ℕ). x.group < g) (sym k.group) (every_among (λ (y : ℕ). x.group < y) t.group (map table_group xs) (among_map t xs a) r.0))

pub record FirstTo (S : Serial → Type 0) (test : SyncTable → Bool) (ns : List SyncTable) (t : SyncTable) : Type 0 where
  pub table : SyncTable
  pub found : first_that test ns ≡ Some table
  pub to : TableTo S t table

first_to : (S : Serial → Type 0) (test : SyncTable → Bool) → ((t n : SyncTable) → TableTo S t n → test n ≡ test t) → (ts ns : List SyncTable) → AllTo S ts ns → (t : SyncTable) → first_that test ts ≡ Some t → FirstTo S test ns t
first_to S test same [] ns k t e = absurd (none_some t e)
first_to S test same (x ∷ xs) [] k t e = absurd k
first_to S test same (x ∷ xs) (y ∷ ys) k t e = over (test x) (test y) refl (same x y k.0) (λ f. first_to S test same xs ys k.1 t f) e
  where
    found_here : (b : Bool) → b ≡ true → ◌≡◌ {A = Option SyncTable} (elim b [ true ↦ Some y | false ↦ first_that test ys ]) (Some y)
    found_here true d = refl
    found_here false d = absurd (true_false (sym d))

    found_later : (b : Bool) {n : SyncTable} → b ≡ false → first_that test ys ≡ Some n → ◌≡◌ {A = Option SyncTable} (elim b [ true ↦ Some y | false ↦ first_that test ys ]) (Some n)
    found_later true d h = absurd (true_false d)
    found_later false d h = h

    over : (a b : Bool) → test y ≡ b → b ≡ a → (first_that test xs ≡ Some t → FirstTo S test ys t) → ◌≡◌ {A = Option SyncTable} (elim a [ true ↦ Some x | false ↦ first_that test xs ]) (Some t) → FirstTo S test (y ∷ ys) t
    over true true q z f g = record { table = y; found = found_here (test y) q; to = subst (λ (n : SyncTable). TableTo S n y) (some_same x t g) k.0 }
    over true false q z f g = absurd (true_false (sym z))
    over false true q z f g = absurd (true_false z)
    over false false q z f g = (let r : FirstTo S test ys t = f g in record { table = r.table; found = found_later (test y) q r.found; to = r.to })

row_first : {A : Type 0} (key : A → ℕ) (k : ℕ) (xs : List A) → row key k xs ≡ first_that (λ (x : A). key x == k) xs
row_first key k [] = refl
row_first {A = A} key k (x ∷ xs) = ap (λ (o : Option A). elim (key x == k) [ true ↦ Some x | false ↦ o ]) (row_first key k xs)

-- ---- what carries a request ----

-- where the member m has come from the tables to these
module _ (e : InEpoch) (m : ℕ) (at now : Places) (v u : SiteView) (S : Serial → Type 0) (was : at m ≡ Some (Running v)) (here : now m ≡ Some (Running u)) (others : (t : ℕ) → m ≢ t → now t ≡ at t) (to : AllTo S v.tables u.tables) where
  pub asked_to : (css : ℕ) (inst : Serial) (o : OpenRow) → IsAsked at css inst o → IsAsked now css inst o ⊎ ((css ≡ m) × S inst)
  asked_to css inst o h = at_each m css (IsAsked now css inst o ⊎ ((css ≡ m) × S inst)) mine (λ ne. inl (record { view = h.view; here = others css ne ∙ h.here; table = h.table; found = h.found; is_row = h.is_row; asked = h.asked }))
    where
      mine : m ≡ css → IsAsked now css inst o ⊎ ((css ≡ m) × S inst)
      mine eq = over (r.to.rows inst o h.is_row h.asked)
        where
          same : v ≡ h.view
          same = view_eq (at m) v h.view was (ap at eq ∙ h.here)

          r : FirstTo S (is_opened_in inst) u.tables h.table
          r = first_to S (is_opened_in inst) (λ t n k. k.opened inst) v.tables u.tables to h.table (ap (λ (z : SiteView). first_that (is_opened_in inst) z.tables) same ∙ h.found)

          over : (open_row r.table inst ≡ Some o) ⊎ S inst → IsAsked now css inst o ⊎ ((css ≡ m) × S inst)
          over (inl q) = inl (record { view = u; here = ap now (sym eq) ∙ here; table = r.table; found = r.found; is_row = q; asked = h.asked })
          over (inr q) = inr (sym eq, q)

  row_to : (group : ℕ) (t : SyncTable) → row table_group group v.tables ≡ Some t → (n : SyncTable) × (row table_group group u.tables ≡ Some n) × TableTo S t n
  row_to group t found = (let r : FirstTo S (λ (z : SyncTable). table_group z == group) u.tables t = first_to S (λ (z : SyncTable). table_group z == group) (λ a b k. ap (λ (g : ℕ). g == group) k.group) v.tables u.tables to t (sym (row_first table_group group v.tables) ∙ found) in
      (r.table, row_first table_group group u.tables ∙ r.found, r.to))

  pub holds_to : (css group site process : ℕ) (b : Body) → Holds at css group site process b → Holds now css group site process b
  holds_to css group site process b h = at_each m css (Holds now css group site process b) mine (λ ne. record { view = h.view; here = others css ne ∙ h.here; table = h.table; found = h.found; unstarted = h.unstarted; held = h.held })
    where
      mine : m ≡ css → Holds now css group site process b
      mine eq =
          let r : (n : SyncTable) × (row table_group group u.tables ≡ Some n) × TableTo S h.table n = row_to group h.table (ap (λ (z : SiteView). row table_group group z.tables) (view_eq (at m) v h.view was (ap at eq ∙ h.here)) ∙ h.found) in
          record { view = u; here = ap now (sym eq) ∙ here; table = r.0; found = r.1; unstarted = r.2.started ∙ h.unstarted; held = subst (λ (xs : List Early). Among (held_request site process b) xs) (sym r.2.early) h.held }

  pub reported_to : (css group site : ℕ) → HasReported at css group site → HasReported now css group site
  reported_to css group site h = at_each m css (HasReported now css group site) mine (λ ne. record { view = h.view; here = others css ne ∙ h.here; table = h.table; found = h.found; reported = h.reported })
    where
      mine : m ≡ css → HasReported now css group site
      mine eq =
          let r : (n : SyncTable) × (row table_group group u.tables ≡ Some n) × TableTo S h.table n = row_to group h.table (ap (λ (z : SiteView). row table_group group z.tables) (view_eq (at m) v h.view was (ap at eq ∙ h.here)) ∙ h.found) in
          record { view = u; here = ap now (sym eq) ∙ here; table = r.0; found = r.1; reported = ap (λ (z : Sites). has z site) r.2.reported ∙ h.reported }

-- ---- the row ----

-- the open is answered to its using site
abbrev pub IsOpenAnswered : Config → InEpoch → ℕ → List Packet → Serial → Type 0
IsOpenAnswered c e m sent i = IsMember e i.us → (a : Granted) × Among (packet (frame_of c e m) i.us (body.OpenDone i.serial a)) sent

-- what a handler at the synchronization site leaves of its site, but for its tables
pub record LeavesRest (v u : SiteView) : Type 0 where
  pub site : LeavesSite v u
  pub users : u.users ≡ v.users
  pub instances : u.store.instances ≡ v.store.instances

pub sync_row_with : (c : Config) → AllGoToMembers c → (lines : List ScheduleLine) (n : ℕ) (e : InEpoch) (x : Numbered) (w : World) (d : Delivery c lines n e x w) → FormsNone x.packet.body → TriesNone x.packet.body → LeavesRest d.view (handles c e x.packet.to x.packet d.view).view →
    AllTo (IsOpenAnswered c e x.packet.to (handles c e x.packet.to x.packet d.view).sent) d.view.tables (handles c e x.packet.to x.packet d.view).view.tables →
    ((now : Places) → ((ss : ℕ) (inst : Serial) → HasUnended (place_at w) ss inst → HasUnended now ss inst) → (s : ℕ) (y : WaitingCall) → StillWaits e (place_at w) now s y → Carries c e (place_at w) s y y.asking x.packet → (q : Packet) × Among q (handles c e x.packet.to x.packet d.view).sent × Carries c e now s y y.asking q) →
    ((from to group : ℕ) (copies : List ReportedCopy) → Goes c e from to (body.Report group copies) x.packet → ⊥) → IsAllCarried c e w → IsAllCarried c e (arrives c n x w)
sync_row_with c members lines n e x w d forms tries leaves to takes none old = event_row c e n m x.packet d.view o w u d.here t hands old
  where
    m : ℕ
    m = x.packet.to

    u : World
    u = arrives c n x w

    o : Outcome SiteView
    o = handles c e m x.packet d.view

    t : Takes c e n m x.packet d.view o w u
    t = takes_event c lines n e x w d forms tries leaves.site

    S : Serial → Type 0
    S = IsOpenAnswered c e m o.sent

    mid : Places
    mid = placed (place_at w) m o.view

    keep : AllTables e mid (place_at u)
    keep s v member there =
        at_each m s (TablesAt (place_at u) s v)
        (λ eq. record { view = t.end.view; here = ap (place_at u) (sym eq) ∙ t.here; keeps = subst (λ (z : SiteView). KeepsAll z.tables t.end.view.tables) (view_eq (mid s) o.view v (ap mid (sym eq) ∙ placed_here (place_at w) m o.view) there) t.after.keeps.tables })
        (λ ne. record { view = v; here = t.others s ne ∙ (sym (placed_other (place_at w) m o.view s ne) ∙ there); keeps = all_itself v.tables })

    instances : t.end.view.store.instances ≡ d.view.store.instances
    instances = t.after.keeps.instances ∙ leaves.instances

    unended : (ss : ℕ) (inst : Serial) → HasUnended (place_at w) ss inst → HasUnended (place_at u) ss inst
    unended ss inst h = at_each m ss (HasUnended (place_at u) ss inst) mine (λ ne. record { view = h.view; here = t.others ss ne ∙ h.here; instance = h.instance; found = h.found; unended = h.unended })
      where
        mine : m ≡ ss → HasUnended (place_at u) ss inst
        mine eq = record {
          view = t.end.view;
          here = ap (place_at u) (sym eq) ∙ t.here;
          instance = h.instance;
          found = ap (λ (xs : List Instance). row instance_key (serial_key inst) xs) (instances ∙ ap (λ (z : SiteView). z.store.instances) (view_eq (place_at w m) d.view h.view d.here (ap (place_at w) eq ∙ h.here))) ∙ h.found;
          unended = h.unended;
        }

    asks : RequestsGoToMembers c e u
    asks = members lines n e u d.follows d.after

    all_calls : (y : WaitingCall) → Among y t.end.view.users.waiting → Among y d.view.users.waiting ⊎ IsHandedOn c e (place_at u) t.end.sent m y
    all_calls y a = over (t.after.calls y a)
      where
        over : Among y o.view.users.waiting ⊎ IsSent (frame_of c e m) y t.end.sent → Among y d.view.users.waiting ⊎ IsHandedOn c e (place_at u) t.end.sent m y
        over (inl k) = inl (subst (λ (z : Users). Among y z.waiting) leaves.users k)
        over (inr k) = (let r : Requested c e (place_at u) m y y.asking = request_carries c e (place_at u) m y y.asking d.member (asks m t.end.view y d.member t.here a) in inr (inl (r.letter, k r.letter r.there, r.carries)))

    keeps : (s : ℕ) (y : WaitingCall) (a : Asking) (q : Packet) → IsMember e s → Carries c e (place_at w) s y a q → Carries c e (place_at u) s y a q ⊎ ((z : Packet) × Among z t.end.sent × Carries c e (place_at u) s y a z)
    keeps s y (asking.Look file what take) q member k = inl k
    keeps s y (asking.Open serial file how) q member k = over k.2
      where
        over : CarriesOpen c e (place_at w) s y serial file how k.0 q → Carries c e (place_at u) s y (asking.Open serial file how) q ⊎ ((z : Packet) × Among z t.end.sent × Carries c e (place_at u) s y (asking.Open serial file how) z)
        over (inl h) = inl (k.0, k.1, inl h)
        over (inr (inl h)) = by_row (asked_to e m (place_at w) mid d.view o.view S d.here (placed_here (place_at w) m o.view) (λ j ne. placed_other (place_at w) m o.view j ne) to k.0 (own_serial s serial) h.opened h.asked)
          where
            by_row : IsAsked mid k.0 (own_serial s serial) h.opened ⊎ ((k.0 ≡ m) × S (own_serial s serial)) → Carries c e (place_at u) s y (asking.Open serial file how) q ⊎ ((z : Packet) × Among z t.end.sent × Carries c e (place_at u) s y (asking.Open serial file how) z)
            by_row (inl i) = inl (k.0, k.1, inr (inl (record { opened = h.opened; asked = asked_on e mid (place_at u) k.0 (own_serial s serial) h.opened keep (sync_is c e file.group k.0 k.1).1 i; way = h.way })))
            by_row (inr i) = (let a : (a : Granted) × Among (packet (frame_of c e m) s (body.OpenDone serial a)) o.sent = i.1 member in
                inr (packet (frame_of c e m) s (body.OpenDone serial a.0), t.after.sends (packet (frame_of c e m) s (body.OpenDone serial a.0)) a.1, (k.0, k.1, inr (inr (record { answer = a.0; goes = subst (λ (j : ℕ). Goes c e j s (body.OpenDone serial a.0) (packet (frame_of c e m) s (body.OpenDone serial a.0))) (sym i.0) (record { sender = d.member; receiver = member; is = refl }) })))))
        over (inr (inr h)) = inl (k.0, k.1, inr (inr h))
    keeps s y (asking.Op serial ss number op seen) q member k = inl k
    keeps s y (asking.Close serial ss) q member k = inl (over k)
      where
        over : CarriesClose c e (place_at w) s serial ss q → CarriesClose c e (place_at u) s serial ss q
        over (inl h) = inl h
        over (inr (inl h)) = inr (inl (record { unended = unended ss (own_serial s serial) h.unended; css = h.css; way = h.way }))
        over (inr (inr h)) = inr (inr h)

    held : (s : ℕ) (y : WaitingCall) (a : Asking) → IsHeld c e (place_at w) s y a → IsHeld c e mid s y a
    held s y (asking.Look file what take) k = (k.0, k.1, holds_to e m (place_at w) mid d.view o.view S d.here (placed_here (place_at w) m o.view) (λ j ne. placed_other (place_at w) m o.view j ne) to k.0 file.group s y.process (look_body y file what take) k.2)
    held s y (asking.Open serial file how) k = (k.0, k.1, holds_to e m (place_at w) mid d.view o.view S d.here (placed_here (place_at w) m o.view) (λ j ne. placed_other (place_at w) m o.view j ne) to k.0 file.group s y.process (open_body y serial file how) k.2)
    held s y _ k = absurd k

    hands : Hands c e m (place_at w) (place_at u) x.packet d.view t.end.view t.end.sent
    hands = record {
      calls = all_calls;
      keeps = λ s y q k h. over s y q (keeps s y y.asking q k.member h);
      takes = λ s y k h. (let r : (q : Packet) × Among q o.sent × Carries c e (place_at u) s y y.asking q = takes (place_at u) unended s y k h in inl (r.0, t.after.sends r.0 r.1, r.2));
      holds = λ s y k h. inr (held_on c e mid (place_at u) s y y.asking keep (held s y y.asking h));
      reported = λ css group s i k. reported_on e mid (place_at u) css group s keep i (reported_to e m (place_at w) mid d.view o.view S d.here (placed_here (place_at w) m o.view) (λ j ne. placed_other (place_at w) m o.view j ne) to css group s k);
      counts = λ group css s copies sync h. absurd (none s css group copies h);
    }
      where
        over : (s : ℕ) (y : WaitingCall) (q : Packet) → Carries c e (place_at u) s y y.asking q ⊎ ((z : Packet) × Among z t.end.sent × Carries c e (place_at u) s y y.asking z) → Carries c e (place_at u) s y y.asking q ⊎ IsHandedOn c e (place_at u) t.end.sent s y
        over s y q (inl k) = inl k
        over s y q (inr k) = inr (inl k)

pub sync_row : (c : Config) → AllGoToMembers c → (lines : List ScheduleLine) (n : ℕ) (e : InEpoch) (x : Numbered) (w : World) (d : Delivery c lines n e x w) → FormsNone x.packet.body → TriesNone x.packet.body → LeavesRest d.view (handles c e x.packet.to x.packet d.view).view →
    AllTo (IsOpenAnswered c e x.packet.to (handles c e x.packet.to x.packet d.view).sent) d.view.tables (handles c e x.packet.to x.packet d.view).view.tables →
    ((now : Places) (s : ℕ) (y : WaitingCall) → StillWaits e (place_at w) now s y → Carries c e (place_at w) s y y.asking x.packet → (q : Packet) × Among q (handles c e x.packet.to x.packet d.view).sent × Carries c e now s y y.asking q) →
    ((from to group : ℕ) (copies : List ReportedCopy) → Goes c e from to (body.Report group copies) x.packet → ⊥) → IsAllCarried c e w → IsAllCarried c e (arrives c n x w)
sync_row c members lines n e x w d forms tries leaves to takes none old = sync_row_with c members lines n e x w d forms tries leaves to (λ now unended. takes now) none old
