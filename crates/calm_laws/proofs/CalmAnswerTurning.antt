-- A synchronization site puts a table in the place of one of its group: where the new one has all that the old one had, what carries a
-- request goes on to carry it.
use Rattle.std.proofs.Common.{◌≡◌, ℕ, ◌<◌, ◌==◌, nat_lt, ◌⊎◌, Bool, true, false, cond, List, [], ◌∷◌, map, Option, Some, refl, sym, ◌∙◌, ap, subst, inl, inr, arith}
use Rattle.std.proofs.lemmas.Bool.Decides.{nat_tests}
use Rattle.role_steps.proofs.of_plain_facts.Numbers.{above_apart, apart_test, equal as equal_test, less_test}
use Rattle.role_steps.proofs.of_plain_facts.Options.{none_some, some_same}
use Rattle.role_steps.proofs.of_plain_facts.Tests.{true_false}
use Rattle.locus_ids.specs.Sites.{has}
use Rattle.locus_ids.specs.declared.config.Config.{Config}
use Rattle.locus_ids.specs.declared.ids.Serial.{Serial}
use Rattle.wire_messages.specs.declared.body.Body.{Body}
use Rattle.wire_messages.specs.declared.body.Body.TheVariants as body
use Rattle.wire_messages.specs.declared.body.ReportedCopy.{ReportedCopy}
use Rattle.wire_messages.specs.declared.packet.Packet.{Packet}
use Rattle.role_steps.specs.Adoption.{table_group}
use Rattle.role_steps.specs.Opens.{open_row}
use Rattle.role_steps.specs.Own.{Every}
use Rattle.role_steps.specs.Storage.{instance_of}
use Rattle.role_steps.specs.Tables.{row, with_row, first_that}
use Rattle.role_steps.specs.Views.{SiteView, Outcome, sync_site}
use Rattle.role_steps.specs.declared.rounds.InEpoch.{InEpoch}
use Rattle.role_steps.specs.declared.synchronizing.Early.{Early}
use Rattle.role_steps.specs.declared.synchronizing.OpenRow.{OpenRow}
use Rattle.role_steps.specs.declared.synchronizing.OpenStage.TheVariants as stage
use Rattle.role_steps.specs.declared.synchronizing.SyncTable.{SyncTable}
use Rattle.role_steps.specs.declared.users.Asking.{Asking}
use Rattle.role_steps.specs.declared.users.Asking.TheVariants as asking
use Rattle.role_steps.specs.declared.users.WaitingCall.{WaitingCall}
use Rattle.role_steps.proofs.Rows.{row_other, row_same}
use Rattle.the_run.specs.Kept.{Among}
use Rattle.the_run.specs.Steps.{at_table_of, is_opened_in}
use Rattle.the_run.specs.Worlds.{Running}
use Rattle.the_run.proofs.Boots.{at_each}
use Rattle.run_laws.specs.Epochs.Known.{Places}
use Rattle.store_laws.proofs.OneTree.Rising.{Rising}
use Rattle.row_laws.proofs.Orderly.Places.{view_eq}
use Rattle.calm_laws.specs.Carrying.{IsMember, Goes, Holds, IsAsked, HasUnended, held_request, look_body, open_body, own_serial, CarriesOpen, CarriesClose, Carries, IsHeld, HasReported}
use Rattle.calm_laws.proofs.Ends.{handles}
use Rattle.calm_laws.proofs.Handing.{StillWaits, IsHandedOn}
use Rattle.calm_laws.proofs.Lists.{every_among, row_key}
use Rattle.calm_laws.proofs.Rows.{HandlerHands, placed, placed_here, placed_other}

-- ---- tables ----

below_same : (a b : ℕ) → a < b → (a == b) ≡ false
below_same a b h = grind (arith, nat_tests)

same_test : (a : ℕ) → (nat_lt a a ≡ false) × ((a == a) ≡ true)
same_test a = (grind (arith, nat_tests), grind (arith, nat_tests))

among_group : (t : SyncTable) (ts : List SyncTable) → Among t ts → Among t.group (map table_group ts)
among_group t [] a = a
among_group t (x ∷ xs) (inl e) = inl (ap table_group e)
among_group t (x ∷ xs) (inr a) = inr (among_group t xs a)

above_head : (x t : SyncTable) (xs : List SyncTable) → Every (λ (g : ℕ). x.group < g) (map table_group xs) → Among t xs → x.group < t.group
above_head x t xs h a = every_among (λ (g : ℕ). x.group < g) t.group (map table_group xs) (among_group t xs a) h

not_below_same : (a b : ℕ) → a < b → a ≡ b → ⊥
not_below_same a b h e = omega (arith, h, e)

-- one table a group
pub one_table : (ts : List SyncTable) (x t : SyncTable) → Rising (map table_group ts) → Among x ts → Among t ts → x.group ≡ t.group → x ≡ t
one_table [] x t r a b e = absurd a
one_table (y ∷ ys) x t r (inl a) (inl b) e = a ∙ sym b
one_table (y ∷ ys) x t r (inl a) (inr b) e = absurd (not_below_same y.group t.group (above_head y t ys r.0 b) (ap table_group (sym a) ∙ e))
one_table (y ∷ ys) x t r (inr a) (inl b) e = absurd (not_below_same y.group x.group (above_head y x ys r.0 a) (ap table_group (sym b) ∙ sym e))
one_table (y ∷ ys) x t r (inr a) (inr b) e = one_table ys x t r.1 a b e

-- the one table in the place of the other
abbrev swaps : SyncTable → SyncTable → SyncTable → SyncTable
swaps t n x = cond (x.group == t.group) n x

above_stay : (t n : SyncTable) (xs : List SyncTable) → Every (λ (g : ℕ). t.group < g) (map table_group xs) → map (swaps t n) xs ≡ xs
above_stay t n [] h = refl
above_stay t n (x ∷ xs) h = (λ i. cond (above_apart t.group x.group h.0 i) n x ∷ above_stay t n xs h.1 i)

pub put_is : (ts : List SyncTable) (t n : SyncTable) → Rising (map table_group ts) → Among t ts → n.group ≡ t.group → with_row table_group n ts ≡ map (swaps t n) ts
put_is [] t n r a e = absurd a
put_is (x ∷ xs) t n r (inl same) e =
    ap (λ (b : Bool). elim b as (λ (z : Bool). List SyncTable) [ true ↦ x ∷ with_row table_group n xs | false ↦ elim (x.group == n.group) [ true ↦ n ∷ xs | false ↦ n ∷ x ∷ xs ] ]) less
    ∙ (ap (λ (b : Bool). elim b as (λ (z : Bool). List SyncTable) [ true ↦ n ∷ xs | false ↦ n ∷ x ∷ xs ]) equal
    ∙ (λ i. cond (sym here i) n x ∷ sym (above_stay t n xs (subst (λ (g : ℕ). Every (λ (k : ℕ). g < k) (map table_group xs)) (ap table_group (sym same)) r.0)) i))
  where
    groups : x.group ≡ n.group
    groups = ap table_group (sym same) ∙ sym e

    less : nat_lt x.group n.group ≡ false
    less = subst (λ (g : ℕ). nat_lt x.group g ≡ false) groups (same_test x.group).0

    equal : (x.group == n.group) ≡ true
    equal = subst (λ (g : ℕ). (x.group == g) ≡ true) groups (same_test x.group).1

    here : (x.group == t.group) ≡ true
    here = subst (λ (g : ℕ). (x.group == g) ≡ true) (ap table_group (sym same)) (same_test x.group).1
put_is (x ∷ xs) t n r (inr a) e =
    ap (λ (b : Bool). elim b as (λ (z : Bool). List SyncTable) [ true ↦ x ∷ with_row table_group n xs | false ↦ elim (x.group == n.group) [ true ↦ n ∷ xs | false ↦ n ∷ x ∷ xs ] ]) less
    ∙ (λ i. cond (sym (below_same x.group t.group below) i) n x ∷ put_is xs t n r.1 a e i)
  where
    below : x.group < t.group
    below = above_head x t xs r.0 a

    less : nat_lt x.group n.group ≡ true
    less = less_test x.group n.group (subst (λ (g : ℕ). x.group < g) (sym e) below)

-- ---- the first that passes ----

first_passes : (test : SyncTable → Bool) (ts : List SyncTable) (k : SyncTable) → first_that test ts ≡ Some k → Among k ts × (test k ≡ true)
first_passes test [] k e = absurd (none_some k e)
first_passes test (x ∷ xs) k e = over (test x) refl (first_passes test xs k) e
  where
    over : (b : Bool) → test x ≡ b → (first_that test xs ≡ Some k → Among k xs × (test k ≡ true)) → ◌≡◌ {A = Option SyncTable} (elim b [ true ↦ Some x | false ↦ first_that test xs ]) (Some k) → Among k (x ∷ xs) × (test k ≡ true)
    over true q f z = (inl (sym (some_same x k z)), ap test (sym (some_same x k z)) ∙ q)
    over false q f z = (let r : Among k xs × (test k ≡ true) = f z in (inr r.0, r.1))

first_swapped : (test : SyncTable → Bool) (g : SyncTable → SyncTable) (ts : List SyncTable) (k : SyncTable) → ((x : SyncTable) → Among x ts → test (g x) ≡ test x) → first_that test ts ≡ Some k → first_that test (map g ts) ≡ Some (g k)
first_swapped test g [] k same e = absurd (none_some k e)
first_swapped test g (x ∷ xs) k same e = over (test x) refl (first_swapped test g xs k (λ y a. same y (inr a))) e
  where
    here : (b : Bool) → b ≡ true → ◌≡◌ {A = Option SyncTable} (elim b [ true ↦ Some (g x) | false ↦ first_that test (map g xs) ]) (Some (g x))
    here true q = refl
    here false q = absurd (true_false (sym q))

    later : (b : Bool) → b ≡ false → first_that test (map g xs) ≡ Some (g k) → ◌≡◌ {A = Option SyncTable} (elim b [ true ↦ Some (g x) | false ↦ first_that test (map g xs) ]) (Some (g k))
    later true q h = absurd (true_false q)
    later false q h = h

    over : (b : Bool) → test x ≡ b → (first_that test xs ≡ Some k → first_that test (map g xs) ≡ Some (g k)) → ◌≡◌ {A = Option SyncTable} (elim b [ true ↦ Some x | false ↦ first_that test xs ]) (Some k) → first_that test (g x ∷ map g xs) ≡ Some (g k)
    over true q f z = here (test (g x)) (same x (inl refl) ∙ q) ∙ ap (λ (y : SyncTable). Some (g y)) (some_same x k z)
    over false q f z = later (test (g x)) (same x (inl refl) ∙ q) (f z)

-- the only one that passes is found
first_alone : (test : SyncTable → Bool) (ts : List SyncTable) (t n : SyncTable) → Among t ts → test n ≡ true → ((x : SyncTable) → Among x ts → (x.group == t.group) ≡ false → test x ≡ false) → first_that test (map (swaps t n) ts) ≡ Some n
first_alone test [] t n a h other = absurd a
first_alone test (x ∷ xs) t n a h other = over (x.group == t.group) refl (later a) (λ b. first_alone test xs t n b h (λ y c. other y (inr c)))
  where
    later : Among t (x ∷ xs) → (x.group == t.group) ≡ false → Among t xs
    later (inl e) q = absurd (true_false (sym (subst (λ (g : ℕ). (x.group == g) ≡ true) (ap table_group (sym e)) (same_test x.group).1) ∙ q))
    later (inr b) q = b

    here : (b : Bool) → b ≡ true → ◌≡◌ {A = Option SyncTable} (elim b [ true ↦ Some n | false ↦ first_that test (map (swaps t n) xs) ]) (Some n)
    here true q = refl
    here false q = absurd (true_false (sym q))

    next : (b : Bool) → b ≡ false → first_that test (map (swaps t n) xs) ≡ Some n → ◌≡◌ {A = Option SyncTable} (elim b [ true ↦ Some x | false ↦ first_that test (map (swaps t n) xs) ]) (Some n)
    next true q f = absurd (true_false q)
    next false q f = f

    over : (b : Bool) → (x.group == t.group) ≡ b → ((x.group == t.group) ≡ false → Among t xs) → (Among t xs → first_that test (map (swaps t n) xs) ≡ Some n) → first_that test (cond b n x ∷ map (swaps t n) xs) ≡ Some n
    over true q later rest = here (test n) h
    over false q later rest = next (test x) (other x (inl refl) q) (rest (later q))

-- ---- what the new table has ----

-- some table of the site has the instance
abbrev pub IsIn : List SyncTable → Serial → Type 0
IsIn ts i = (k : SyncTable) × Among k ts × (is_opened_in i k ≡ true)

-- Reports and opens that are asked stay; of instances that some table has it has those that were there; and what was held before the
-- start is held, or handed on.
pub record Grows (known : Serial → Type 0) (hand : Early → Type 0) (t n : SyncTable) : Type 0 where
  pub group : n.group ≡ t.group
  pub reported : (s : ℕ) → has t.reported s ≡ true → has n.reported s ≡ true
  pub opened : (i : Serial) → known i → is_opened_in i n ≡ is_opened_in i t
  pub rows : (i : Serial) (r : OpenRow) → open_row t i ≡ Some r → r.stage ≡ stage.Asked → open_row n i ≡ Some r
  pub held : t.started ≡ false → (x : Early) → Among x t.early → ((n.started ≡ false) × Among x n.early) ⊎ hand x

-- the call asks what is held so, of this group
abbrev pub IsRequestBy : Config → InEpoch → ℕ → ℕ → Early → ℕ → WaitingCall → Asking → Type 0
IsRequestBy c e m group x s y (asking.Look file w take) = (file.group ≡ group) × (sync_site c e.members file.group ≡ Some m) × (x ≡ held_request s y.process (look_body y file w take))
IsRequestBy c e m group x s y (asking.Open serial file how) = (file.group ≡ group) × (sync_site c e.members file.group ≡ Some m) × (x ≡ held_request s y.process (open_body y serial file how))
IsRequestBy c e m group x s y _ = ⊥

-- what a turn of the site leaves
pub record TurnKeeps (c : Config) (e : InEpoch) (m : ℕ) (at : Places) (v : SiteView) (group : ℕ) (hand : Early → Type 0) (o : Outcome SiteView) : Type 0 where
  pub boot : o.view.boot ≡ v.boot
  pub round : o.view.round ≡ v.round
  pub epoch : o.view.epoch ≡ v.epoch
  pub users : o.view.users ≡ v.users
  pub carries : (s : ℕ) (y : WaitingCall) (a : Asking) (q : Packet) → Carries c e at s y a q → Carries c e (placed at m o.view) s y a q
  pub holds : (s : ℕ) (y : WaitingCall) (a : Asking) → IsHeld c e at s y a → IsHeld c e (placed at m o.view) s y a ⊎ ((x : Early) × hand x × IsRequestBy c e m group x s y a)
  pub reported : (css group s : ℕ) → IsMember e css → HasReported at css group s → HasReported (placed at m o.view) css group s

module _ (c : Config) (e : InEpoch) (m : ℕ) (at : Places) (v : SiteView) (was : at m ≡ Some (Running v)) (g : SyncTable → Outcome SyncTable) (t : SyncTable) (rise : Rising (map table_group v.tables)) (there : Among t v.tables) (hand : Early → Type 0) (grows : Grows (IsIn v.tables) hand t (g t).view) where
  abbrev n : SyncTable
  n = (g t).view

  abbrev u : SiteView
  u = (at_table_of g (Some t) v).view

  abbrev now : Places
  now = placed at m (at_table_of g (Some t) v).view

  tables : u.tables ≡ map (swaps t n) v.tables
  tables = put_is v.tables t n rise there grows.group

  of_group : (k : SyncTable) → Among k v.tables → (k.group == t.group) ≡ true → k ≡ t
  of_group k a q = one_table v.tables k t rise a there (equal_test k.group t.group q)

  -- the table of an instance
  asked_now_too : (css : ℕ) (inst : Serial) (o : OpenRow) → IsAsked at css inst o → IsAsked now css inst o
  asked_now_too css inst o h = at_each m css (IsAsked now css inst o) mine (λ ne. record { view = h.view; here = placed_other at m u css ne ∙ h.here; table = h.table; found = h.found; is_row = h.is_row; asked = h.asked })
    where
      mine : m ≡ css → IsAsked now css inst o
      mine eq = record {
        view = u;
        here = ap now (sym eq) ∙ placed_here at m u;
        table = swaps t n h.table;
        found = ap (λ (ts : List SyncTable). first_that (is_opened_in inst) ts) tables ∙ first_swapped (is_opened_in inst) (swaps t n) v.tables h.table same found;
        is_row = by_group (h.table.group == t.group) refl;
        asked = h.asked;
      }
        where
          found : first_that (is_opened_in inst) v.tables ≡ Some h.table
          found = ap (λ (z : SiteView). first_that (is_opened_in inst) z.tables) (view_eq (at m) v h.view was (ap at eq ∙ h.here)) ∙ h.found

          passes : Among h.table v.tables × (is_opened_in inst h.table ≡ true)
          passes = first_passes (is_opened_in inst) v.tables h.table found

          same : (x : SyncTable) → Among x v.tables → is_opened_in inst (swaps t n x) ≡ is_opened_in inst x
          same x a = over (x.group == t.group) refl
            where
              over : (b : Bool) → (x.group == t.group) ≡ b → is_opened_in inst (cond b n x) ≡ is_opened_in inst x
              over true q = grows.opened inst (h.table, passes.0, passes.1) ∙ ap (is_opened_in inst) (sym (of_group x a q))
              over false q = refl

          by_group : (b : Bool) → (h.table.group == t.group) ≡ b → open_row (cond b n h.table) inst ≡ Some o
          by_group true q = grows.rows inst o (ap (λ (z : SyncTable). open_row z inst) (sym (of_group h.table passes.0 q)) ∙ h.is_row) h.asked
          by_group false q = h.is_row

  unended_too : (ss : ℕ) (inst : Serial) → HasUnended at ss inst → HasUnended now ss inst
  unended_too ss inst h = at_each m ss (HasUnended now ss inst)
      (λ eq. record { view = u; here = ap now (sym eq) ∙ placed_here at m u; instance = h.instance; found = ap (λ (z : SiteView). instance_of z.store inst) (view_eq (at m) v h.view was (ap at eq ∙ h.here)) ∙ h.found; unended = h.unended })
      (λ ne. record { view = h.view; here = placed_other at m u ss ne ∙ h.here; instance = h.instance; found = h.found; unended = h.unended })

  carries_too : (s : ℕ) (y : WaitingCall) (a : Asking) (q : Packet) → Carries c e at s y a q → Carries c e now s y a q
  carries_too s y (asking.Look file w take) q k = k
  carries_too s y (asking.Open serial file how) q k = (k.0, k.1, over k.2)
    where
      over : CarriesOpen c e at s y serial file how k.0 q → CarriesOpen c e now s y serial file how k.0 q
      over (inl h) = inl h
      over (inr (inl h)) = inr (inl (record { opened = h.opened; asked = asked_now_too k.0 (own_serial s serial) h.opened h.asked; way = h.way }))
      over (inr (inr h)) = inr (inr h)
  carries_too s y (asking.Op serial ss number o seen) q k = k
  carries_too s y (asking.Close serial ss) q k = over k
    where
      over : CarriesClose c e at s serial ss q → CarriesClose c e now s serial ss q
      over (inl h) = inl h
      over (inr (inl h)) = inr (inl (record { unended = unended_too ss (own_serial s serial) h.unended; css = h.css; way = h.way }))
      over (inr (inr h)) = inr (inr h)

  -- ---- the table of a group ----

  row_now : (group : ℕ) (k : SyncTable) → row table_group group v.tables ≡ Some k → ((k ≡ t) × (row table_group group u.tables ≡ Some n)) ⊎ (row table_group group u.tables ≡ Some k)
  row_now group k found = at_each t.group group (((k ≡ t) × (row table_group group u.tables ≡ Some n)) ⊎ (row table_group group u.tables ≡ Some k))
      (λ eq. inl (one_table v.tables k t rise k_at.0 there (k_at.1 ∙ sym eq), ap (λ (j : ℕ). row table_group j u.tables) (sym (grows.group ∙ eq)) ∙ row_same table_group n v.tables))
      (λ ne. inr (row_other table_group n group v.tables (subst (λ (j : ℕ). (j == group) ≡ false) (sym grows.group) (apart_test t.group group ne)) ∙ found))
    where
      k_at : Among k v.tables × (table_group k ≡ group)
      k_at = row_key table_group group v.tables k found

  reported_too : (css group s : ℕ) → HasReported at css group s → HasReported now css group s
  reported_too css group s h = at_each m css (HasReported now css group s) mine (λ ne. record { view = h.view; here = placed_other at m u css ne ∙ h.here; table = h.table; found = h.found; reported = h.reported })
    where
      mine : m ≡ css → HasReported now css group s
      mine eq = over (row_now group h.table (ap (λ (z : SiteView). row table_group group z.tables) (view_eq (at m) v h.view was (ap at eq ∙ h.here)) ∙ h.found))
        where
          over : ((h.table ≡ t) × (row table_group group u.tables ≡ Some n)) ⊎ (row table_group group u.tables ≡ Some h.table) → HasReported now css group s
          over (inl k) = record { view = u; here = ap now (sym eq) ∙ placed_here at m u; table = n; found = k.1; reported = grows.reported s (subst (λ (z : SyncTable). has z.reported s ≡ true) k.0 h.reported) }
          over (inr k) = record { view = u; here = ap now (sym eq) ∙ placed_here at m u; table = h.table; found = k; reported = h.reported }

  holds_too : (css group site process : ℕ) (b : Body) → Holds at css group site process b → Holds now css group site process b ⊎ ((css ≡ m) × (group ≡ t.group) × hand (held_request site process b))
  holds_too css group site process b h = at_each m css (Holds now css group site process b ⊎ ((css ≡ m) × (group ≡ t.group) × hand (held_request site process b))) mine
      (λ ne. inl (record { view = h.view; here = placed_other at m u css ne ∙ h.here; table = h.table; found = h.found; unstarted = h.unstarted; held = h.held }))
    where
      mine : m ≡ css → Holds now css group site process b ⊎ ((css ≡ m) × (group ≡ t.group) × hand (held_request site process b))
      mine eq = over (row_now group h.table found)
        where
          found : row table_group group v.tables ≡ Some h.table
          found = ap (λ (z : SiteView). row table_group group z.tables) (view_eq (at m) v h.view was (ap at eq ∙ h.here)) ∙ h.found

          by_held : h.table ≡ t → row table_group group u.tables ≡ Some n → ((n.started ≡ false) × Among (held_request site process b) n.early) ⊎ hand (held_request site process b) → Holds now css group site process b ⊎ ((css ≡ m) × (group ≡ t.group) × hand (held_request site process b))
          by_held is z (inl k) = inl (record { view = u; here = ap now (sym eq) ∙ placed_here at m u; table = n; found = z; unstarted = k.0; held = k.1 })
          by_held is z (inr k) = inr (sym eq, sym (row_key table_group group v.tables h.table found).1 ∙ ap table_group is, k)

          over : ((h.table ≡ t) × (row table_group group u.tables ≡ Some n)) ⊎ (row table_group group u.tables ≡ Some h.table) → Holds now css group site process b ⊎ ((css ≡ m) × (group ≡ t.group) × hand (held_request site process b))
          over (inl k) = by_held k.0 k.1 (grows.held (subst (λ (z : SyncTable). z.started ≡ false) k.0 h.unstarted) (held_request site process b) (subst (λ (z : SyncTable). Among (held_request site process b) z.early) k.0 h.held))
          over (inr k) = inl (record { view = u; here = ap now (sym eq) ∙ placed_here at m u; table = h.table; found = k; unstarted = h.unstarted; held = h.held })

  held_too : (s : ℕ) (y : WaitingCall) (a : Asking) → IsHeld c e at s y a → IsHeld c e now s y a ⊎ ((x : Early) × hand x × IsRequestBy c e m t.group x s y a)
  held_too s y (asking.Look file w take) k = over (holds_too k.0 file.group s y.process (look_body y file w take) k.2)
    where
      over : Holds now k.0 file.group s y.process (look_body y file w take) ⊎ ((k.0 ≡ m) × (file.group ≡ t.group) × hand (held_request s y.process (look_body y file w take))) → IsHeld c e now s y (asking.Look file w take) ⊎ ((x : Early) × hand x × IsRequestBy c e m t.group x s y (asking.Look file w take))
      over (inl h) = inl (k.0, k.1, h)
      over (inr h) = inr (held_request s y.process (look_body y file w take), h.2, (h.1, k.1 ∙ ap Some h.0, refl))
  held_too s y (asking.Open serial file how) k = over (holds_too k.0 file.group s y.process (open_body y serial file how) k.2)
    where
      over : Holds now k.0 file.group s y.process (open_body y serial file how) ⊎ ((k.0 ≡ m) × (file.group ≡ t.group) × hand (held_request s y.process (open_body y serial file how))) → IsHeld c e now s y (asking.Open serial file how) ⊎ ((x : Early) × hand x × IsRequestBy c e m t.group x s y (asking.Open serial file how))
      over (inl h) = inl (k.0, k.1, h)
      over (inr h) = inr (held_request s y.process (open_body y serial file how), h.2, (h.1, k.1 ∙ ap Some h.0, refl))
  held_too s y _ k = absurd k

  pub turn_keeps : TurnKeeps c e m at v t.group hand (at_table_of g (Some t) v)
  turn_keeps = record { boot = refl; round = refl; epoch = refl; users = refl; carries = carries_too; holds = held_too; reported = λ css group s member h. reported_too css group s h }

  -- the table that alone has the instance is the first that has it
  pub asked_there : (inst : Serial) (r : OpenRow) → open_row n inst ≡ Some r → is_opened_in inst n ≡ true → r.stage ≡ stage.Asked → ((k : SyncTable) → Among k v.tables → (k.group ≡ t.group → ⊥) → is_opened_in inst k ≡ false) → IsAsked now m inst r
  asked_there inst r found has asked alone = record {
    view = u;
    here = placed_here at m u;
    table = n;
    found = ap (λ (ts : List SyncTable). first_that (is_opened_in inst) ts) tables ∙ first_alone (is_opened_in inst) v.tables t n there has (λ x a q. alone x a (λ z. true_false (sym (subst (λ (j : ℕ). (x.group == j) ≡ true) z (same_test x.group).1) ∙ q)));
    is_row = found;
    asked = asked;
  }

-- ---- the handler ----

-- where a turn keeps what was there, the handler hands on what its packet carried and what was held
pub turn_hands : (c : Config) (e : InEpoch) (m : ℕ) (at : Places) (p : Packet) (v : SiteView) (group : ℕ) (hand : Early → Type 0) → TurnKeeps c e m at v group hand (handles c e m p v) →
    ((s : ℕ) (y : WaitingCall) → StillWaits e at (placed at m (handles c e m p v).view) s y → Carries c e at s y y.asking p → IsHandedOn c e (placed at m (handles c e m p v).view) (handles c e m p v).sent s y) →
    ((s : ℕ) (y : WaitingCall) (x : Early) → StillWaits e at (placed at m (handles c e m p v).view) s y → hand x → IsRequestBy c e m group x s y y.asking → IsHandedOn c e (placed at m (handles c e m p v).view) (handles c e m p v).sent s y) →
    ((group css s : ℕ) (copies : List ReportedCopy) → sync_site c e.members group ≡ Some css → Goes c e s css (body.Report group copies) p → HasReported (placed at m (handles c e m p v).view) css group s) → HandlerHands c e m at p v
turn_hands c e m at p v group hand k takes hands counts = record {
  boot = k.boot;
  round = k.round;
  epoch = k.epoch;
  hands = record {
    calls = λ y a. inl (subst (λ u. Among y u.waiting) k.users a);
    keeps = λ s y q still g. inl (k.carries s y y.asking q g);
    takes = takes;
    holds = λ s y still g. over s y still (k.holds s y y.asking g);
    reported = k.reported;
    counts = counts;
  };
}
  where
    over : (s : ℕ) (y : WaitingCall) → StillWaits e at (placed at m (handles c e m p v).view) s y → IsHeld c e (placed at m (handles c e m p v).view) s y y.asking ⊎ ((x : Early) × hand x × IsRequestBy c e m group x s y y.asking) → IsHandedOn c e (placed at m (handles c e m p v).view) (handles c e m p v).sent s y
    over s y still (inl g) = inr g
    over s y still (inr g) = hands s y g.0 still g.1 g.2
