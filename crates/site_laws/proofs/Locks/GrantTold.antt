-- What a table knows of plain grants, and what is told of them.
use Rattle.std.proofs.Common.{◌≡◌, ℕ, ◌==◌, Bool, true, false, ◌⊎◌, List, [], ◌∷◌, ◌++◌, Option, Some, None, refl, sym, ◌∙◌, ap, subst, inl, inr, arith}
use Rattle.std.proofs.lemmas.Bool.Decides.{nat_tests}
use Rattle.run_laws.proofs.of_plain_facts.Numbers.{equal_self}
use Rattle.locus_ids.specs.declared.ids.EpochId.{EpochId}
use Rattle.locus_ids.specs.declared.ids.FileId.{FileId}
use Rattle.locus_ids.specs.declared.ids.Mode.{Mode}
use Rattle.locus_ids.specs.declared.sites.Members.{Members}
use Rattle.locus_ids.specs.declared.config.Config.{Config}
use Rattle.trace_book.specs.declared.record.Record.{Record}
use Rattle.trace_book.specs.declared.record.Record.TheVariants as says
use Rattle.role_steps.specs.Own.{Every}
use Rattle.role_steps.specs.Tables.{row, with_latest}
use Rattle.role_steps.specs.Views.{Told, Shown, sync_site}
use Rattle.role_steps.specs.Opens.{is_open_stage, open_key}
use Rattle.role_steps.specs.declared.synchronizing.SyncTable.{SyncTable}
use Rattle.role_steps.specs.declared.synchronizing.OpenRow.{OpenRow}
use Rattle.role_steps.proofs.Rows.{passed_row, found_row}
use Rattle.site_laws.specs.Vectors.Facts.{onto, EarlyFact}
use Rattle.site_laws.specs.Locks.Locks.{IsOfAFile}
use Rattle.site_laws.specs.Locks.Grants.{GrantedAsRecord, GrantedAs, WasGrantedAs, IsOver, LockedTold, LockedRecord}
use Rattle.site_laws.proofs.Locks.Facts.{Later}

-- ---- rows ----

pub other_key : (a b t : ℕ) → (a == b) ≡ true → (b == t) ≡ false → (a == t) ≡ false
other_key a b t e h = grind (arith, nat_tests)

pub same_tail : {A : Type 0} (y : A) (a b : Option A) (t : Bool) → a ≡ b → ◌≡◌ {A = Option A} (elim t [ true ↦ Some y | false ↦ a ]) (elim t [ true ↦ Some y | false ↦ b ])
same_tail y a b true e = refl
same_tail y a b false e = e

pub latest_other : {A : Type 0} (key : A → ℕ) (x : A) (t : ℕ) (xs : List A) → (key x == t) ≡ false → row key t (with_latest key x xs) ≡ row key t xs
latest_other key x t [] h = passed_row x None (key x == t) h
latest_other key x t (y ∷ ys) h =
    (elim (key y == key x) as (λ b. (key y == key x) ≡ b → row key t (elim b [ true ↦ x ∷ ys | false ↦ y ∷ with_latest key x ys ]) ≡ row key t (y ∷ ys)) [
      | true ↦ λ e. passed_row x (row key t ys) (key x == t) h ∙ sym (passed_row y (row key t ys) (key y == t) (other_key (key y) (key x) t e h))
      | false ↦ λ e. same_tail y (row key t (with_latest key x ys)) (row key t ys) (key y == t) (latest_other key x t ys h)
    ]) refl

pub latest_same : {A : Type 0} (key : A → ℕ) (x : A) (xs : List A) → row key (key x) (with_latest key x xs) ≡ Some x
latest_same key x [] = found_row x None (key x == key x) (equal_self (key x))
latest_same key x (y ∷ ys) =
    (elim (key y == key x) as (λ b. (key y == key x) ≡ b → row key (key x) (elim b [ true ↦ x ∷ ys | false ↦ y ∷ with_latest key x ys ]) ≡ Some x) [
      | true ↦ λ e. found_row x (row key (key x) ys) (key x == key x) (equal_self (key x))
      | false ↦ λ e. passed_row y (row key (key x) (with_latest key x ys)) (key y == key x) e ∙ latest_same key x ys
    ]) refl

-- ---- what a table knows ----

-- a plain grant has its row, which is open, or it is over
pub record Held (past : List Told) (e : EpochId) (t : SyncTable) (key : ℕ) (file : FileId) (m : Mode) : Type 0 where
  pub held : OpenRow
  pub found : row open_key key t.opens ≡ Some held
  pub file_is : held.file ≡ file
  pub mode_is : held.mode ≡ m
  pub open_or_over : (is_open_stage held.stage ≡ true) ⊎ IsOver past e key

pub record TableLock (c : Config) (past : List Told) (me : ℕ) (e : EpochId) (members : Members) (t : SyncTable) : Type 0 where
  pub synced : sync_site c members t.group ≡ Some me
  pub complete : (key : ℕ) (file : FileId) (m : Mode) → IsOfAFile m → file.group ≡ t.group → WasGrantedAs past e key file m → Held past e t key file m
  pub early : Every (EarlyFact t.group) t.early

pub over_later : (a b : List Told) → Later a b → (e : EpochId) (key : ℕ) → IsOver a e key → IsOver b e key
over_later a b l e key (inl h) = inl (l _ h)
over_later a b l e key (inr h) = inr (l _ h)

pub open_later : (a b : List Told) → Later a b → (e : EpochId) (key : ℕ) (r : OpenRow) → (is_open_stage r.stage ≡ true) ⊎ IsOver a e key → (is_open_stage r.stage ≡ true) ⊎ IsOver b e key
open_later a b l e key r (inl h) = inl h
open_later a b l e key r (inr h) = inr (over_later a b l e key h)

pub held_later : (a b : List Told) → Later a b → (e : EpochId) (t : SyncTable) (key : ℕ) (file : FileId) (m : Mode) → Held a e t key file m → Held b e t key file m
held_later a b l e t key file m h = record { held = h.held; found = h.found; file_is = h.file_is; mode_is = h.mode_is; open_or_over = open_later a b l e key h.held h.open_or_over }

-- no plain grant of the group was told since
abbrev pub NoneSince : List Told → List Told → EpochId → ℕ → Type 0
NoneSince a b e group = (key : ℕ) (file : FileId) (m : Mode) → IsOfAFile m → file.group ≡ group → WasGrantedAs b e key file m → WasGrantedAs a e key file m

pub lock_later : (c : Config) (a b : List Told) → Later a b → (me : ℕ) (e : EpochId) (members : Members) (t : SyncTable) → NoneSince a b e t.group → TableLock c a me e members t → TableLock c b me e members t
lock_later c a b l me e members t none h = record { synced = h.synced; complete = λ key file m it group g. held_later a b l e t key file m (h.complete key file m it group (none key file m it group g)); early = h.early }

-- ---- what is told ----

-- a plain grant that a table tells is of its epoch and group
abbrev pub HereRecord : EpochId → ℕ → Record → Type 0
HereRecord e group (says.Grant at call request inst m file stamp ss) = IsOfAFile m → (at ≡ e) × (file.group ≡ group)
HereRecord e group _ = Unit {0}

abbrev pub GrantHere : EpochId → ℕ → Told → Type 0
GrantHere e group (Shown r) = HereRecord e group r
GrantHere e group _ = Unit {0}

-- it tells of no plain grant
abbrev pub BareRecord : Record → Type 0
BareRecord (says.Grant at call request inst m file stamp ss) = IsOfAFile m → ⊥
BareRecord _ = Unit {0}

abbrev pub Bare : Told → Type 0
Bare (Shown r) = BareRecord r
Bare _ = Unit {0}

pub bare_grant_record : (e : EpochId) (key : ℕ) (file : FileId) (m : Mode) (r : Record) → IsOfAFile m → BareRecord r → GrantedAsRecord e key file m r → ⊥
bare_grant_record e key file m (says.Grant at call request inst n of stamp ss) it h g = h (subst IsOfAFile (sym g.3) it)
bare_grant_record e key file m _ it h g = absurd g

pub bare_grant : (e : EpochId) (key : ℕ) (file : FileId) (m : Mode) (x : Told) → IsOfAFile m → Bare x → GrantedAs e key file m x → ⊥
bare_grant e key file m (Shown r) it h g = bare_grant_record e key file m r it h g
bare_grant e key file m _ it h g = absurd g

pub bare_before : (e : EpochId) (key : ℕ) (file : FileId) (m : Mode) (told past : List Told) → IsOfAFile m → Every Bare told → WasGrantedAs (onto told past) e key file m → WasGrantedAs past e key file m
bare_before e key file m [] past it h g = g
bare_before e key file m (x ∷ xs) past it h g = old (bare_before e key file m xs (x ∷ past) it h.1 g)
  where
    old : WasGrantedAs (x ∷ past) e key file m → WasGrantedAs past e key file m
    old (inl k) = absurd (bare_grant e key file m x it h.0 k)
    old (inr k) = k

pub bare_since : (told past : List Told) (e : EpochId) (group : ℕ) → Every Bare told → NoneSince past (onto told past) e group
bare_since told past e group h key file m it equal_self g = bare_before e key file m told past it h g

pub here_grant_record : (e : EpochId) (at : EpochId) (group key : ℕ) (file : FileId) (m : Mode) (r : Record) → IsOfAFile m → HereRecord at group r → GrantedAsRecord e key file m r → file.group ≡ group
here_grant_record e at group key file m (says.Grant now call request inst n of stamp ss) it h g = ap (λ (f : FileId). f.group) (sym g.2) ∙ (h (subst IsOfAFile (sym g.3) it)).1
here_grant_record e at group key file m _ it h g = absurd g

pub here_grant : (e : EpochId) (at : EpochId) (group key : ℕ) (file : FileId) (m : Mode) (x : Told) → IsOfAFile m → GrantHere at group x → GrantedAs e key file m x → file.group ≡ group
here_grant e at group key file m (Shown r) it h g = here_grant_record e at group key file m r it h g
here_grant e at group key file m _ it h g = absurd g

pub here_before : (e : EpochId) (at : EpochId) (group key : ℕ) (file : FileId) (m : Mode) (told past : List Told) → IsOfAFile m → (file.group ≡ group → ⊥) → Every (GrantHere at group) told → WasGrantedAs (onto told past) e key file m → WasGrantedAs past e key file m
here_before e at group key file m [] past it ne h g = g
here_before e at group key file m (x ∷ xs) past it ne h g = old (here_before e at group key file m xs (x ∷ past) it ne h.1 g)
  where
    old : WasGrantedAs (x ∷ past) e key file m → WasGrantedAs past e key file m
    old (inl k) = absurd (ne (here_grant e at group key file m x it h.0 k))
    old (inr k) = k

-- the tables of other groups don't see it
pub here_since : (told past : List Told) (e : EpochId) (group other : ℕ) → (other ≡ group → ⊥) → Every (GrantHere e group) told → NoneSince past (onto told past) e other
here_since told past e group other ne h key file m it equal_self g = here_before e e group key file m told past it (λ q. ne (sym equal_self ∙ q)) h g

abbrev pub AllLocked : List Told → List Told → Type 0
AllLocked past [] = Unit {0}
AllLocked past (x ∷ xs) = LockedTold past x × AllLocked (x ∷ past) xs

pub locked_append : (past a b : List Told) → AllLocked past a → AllLocked (onto a past) b → AllLocked past (a ++ b)
locked_append past [] b h g = g
locked_append past (x ∷ xs) b h g = (h.0, locked_append (x ∷ past) xs b h.1 g)

pub bare_locked_record : (past : List Told) (r : Record) → BareRecord r → LockedRecord past r
bare_locked_record past (says.Grant at call request inst m file stamp ss) h = λ it key other g plain. absurd (h it)
bare_locked_record past _ h = tt

pub bare_locked_told : (past : List Told) (x : Told) → Bare x → LockedTold past x
bare_locked_told past (Shown r) h = bare_locked_record past r h
bare_locked_told past _ h = tt

pub bare_locked : (past xs : List Told) → Every Bare xs → AllLocked past xs
bare_locked past [] h = tt
bare_locked past (x ∷ xs) h = (bare_locked_told past x h.0, bare_locked (x ∷ past) xs h.1)

pub bare_here_record : (e : EpochId) (group : ℕ) (r : Record) → BareRecord r → HereRecord e group r
bare_here_record e group (says.Grant at call request inst m file stamp ss) h = λ it. absurd (h it)
bare_here_record e group _ h = tt

pub bare_here : (e : EpochId) (group : ℕ) (x : Told) → Bare x → GrantHere e group x
bare_here e group (Shown r) h = bare_here_record e group r h
bare_here e group _ h = tt
