-- A table with one open more: what it has of the group stays true, where what is told names that open alone.
use Rattle.std.proofs.Common.{◌≡◌, ℕ, ◌==◌, Bool, true, false, cond, List, [], ◌∷◌, ◌++◌, filter, map, Option, Some, None, refl, sym, ap, ◌∙◌, subst, inl, inr}
use Rattle.std.specs.Option.{is_some}
use Rattle.role_steps.proofs.of_plain_facts.Numbers.{equal, equal_self}
use Rattle.role_steps.proofs.of_plain_facts.Tests.{true_false}
use Rattle.locus_ids.specs.declared.config.Config.{Config}
use Rattle.locus_ids.specs.declared.ids.Serial.{Serial}
use Rattle.role_steps.specs.Opens.{open_key, open_row, with_open}
use Rattle.role_steps.specs.Own.{Every}
use Rattle.role_steps.proofs.Rows.{found_row, passed_row}
use Rattle.role_steps.specs.Tables.{row, with_latest}
use Rattle.role_steps.specs.Views.{Frame, Told, packet, serial_key}
use Rattle.role_steps.specs.declared.synchronizing.Early.{Early}
use Rattle.role_steps.specs.declared.synchronizing.LastLook.{LastLook}
use Rattle.role_steps.specs.declared.synchronizing.OpenRow.{OpenRow}
use Rattle.role_steps.specs.declared.synchronizing.SyncTable.{SyncTable}
use Rattle.the_run.specs.Worlds.{Line}
use Rattle.tree_model.specs.Tree.{tree_of}
use Rattle.tree_laws.specs.Following.{MayTell}
use Rattle.tree_laws.specs.Frames.{VersionsStay}
use Rattle.tree_laws.specs.Packets.{PacketFact, file_in}
use Rattle.tree_laws.specs.Past.{Printed, WasNamedIn, NamesHere}
use Rattle.tree_laws.specs.Printed.{entries}
use Rattle.tree_laws.specs.Stores.{AreApart}
use Rattle.tree_laws.specs.Tables.{FileFact, RowFact, TableFact, early_packet, named_openers, tree_openers}
use Rattle.tree_laws.proofs.Boots.{every_both}
use Rattle.tree_laws.proofs.Carried.{packet_stays}
use Rattle.tree_laws.proofs.CarriedLooks.{More}
use Rattle.tree_laws.proofs.Versions.{versions_stay}
use Rattle.tree_laws.specs.Syncs.Serving.{Serving}
use Rattle.tree_laws.specs.Syncs.Staying.{Starts, Looks, Releases, Adopts, FilesStay}
use Rattle.tree_laws.proofs.Syncs.Files.{file_row_stays, files_stay, files_like, started_told}
use Rattle.tree_laws.proofs.Syncs.OpensStay.{open_row_stays}
use Rattle.tree_laws.proofs.Syncs.Staying.{turn_told_same}

-- ---- rows in the order in which they came ----

pub every_latest : {A : Type 0} (P : A → Type 0) (key : A → ℕ) (x : A) (xs : List A) → P x → Every P xs → Every P (with_latest key x xs)
every_latest P key x [] p h = (p, tt)
every_latest P key x (y ∷ ys) p h = at (key y == key x) (every_latest P key x ys p h.1)
  where
    at : (b : Bool) → Every P (with_latest key x ys) → Every P (elim b [ true ↦ x ∷ ys | false ↦ y ∷ with_latest key x ys ])
    at true later = (p, h.1)
    at false later = (h.0, later)

-- no row has a key that isn't found
pub keys_apart : {A : Type 0} (key : A → ℕ) (k : ℕ) (xs : List A) → row key k xs ≡ None → Every (λ (x : A). (key x == k) ≡ false) xs
keys_apart key k [] e = tt
keys_apart {A = A} key k (x ∷ xs) e = at (key x == k) refl e (keys_apart key k xs)
  where
    none : ◌≡◌ {A = Option A} (Some x) None → ⊥
    none m = cc

    at : (b : Bool) → (key x == k) ≡ b → ◌≡◌ {A = Option A} (elim b [ true ↦ Some x | false ↦ row key k xs ]) None → (row key k xs ≡ None → Every (λ (y : A). (key y == k) ≡ false) xs) → ((key x == k) ≡ false) × Every (λ (y : A). (key y == k) ≡ false) xs
    at true same m later = absurd (none m)
    at false other m later = (other, later m)

pub latest_new : {A : Type 0} (key : A → ℕ) (x : A) (xs : List A) → row key (key x) xs ≡ None → with_latest key x xs ≡ xs ++ x ∷ []
latest_new key x [] e = refl
latest_new {A = A} key x (y ∷ ys) e = at (key y == key x) e (latest_new key x ys)
  where
    none : ◌≡◌ {A = Option A} (Some y) None → ⊥
    none m = cc

    at : (b : Bool) → ◌≡◌ {A = Option A} (elim b [ true ↦ Some y | false ↦ row key (key x) ys ]) None → (row key (key x) ys ≡ None → with_latest key x ys ≡ ys ++ x ∷ []) → (elim b [ true ↦ x ∷ ys | false ↦ y ∷ with_latest key x ys ]) ≡ y ∷ (ys ++ x ∷ [])
    at true m later = absurd (none m)
    at false m later = ap (λ zs. y ∷ zs) (later m)

pub latest_same : {A : Type 0} (key : A → ℕ) (x : A) (xs : List A) → row key (key x) (with_latest key x xs) ≡ Some x
latest_same key x [] = found_row x None (key x == key x) (equal_self (key x))
latest_same key x (y ∷ ys) = at (key y == key x) refl (latest_same key x ys)
  where
    at : (b : Bool) → (key y == key x) ≡ b → row key (key x) (with_latest key x ys) ≡ Some x → row key (key x) (elim b [ true ↦ x ∷ ys | false ↦ y ∷ with_latest key x ys ]) ≡ Some x
    at true e later = found_row x (row key (key x) ys) (key x == key x) (equal_self (key x))
    at false e later = passed_row y (row key (key x) (with_latest key x ys)) (key y == key x) e ∙ later

pub latest_other : {A : Type 0} (key : A → ℕ) (x : A) (k : ℕ) (xs : List A) → (key x == k) ≡ false → row key k (with_latest key x xs) ≡ row key k xs
latest_other key x k [] h = passed_row x None (key x == k) h
latest_other key x k (y ∷ ys) h = at (key y == key x) refl (latest_other key x k ys h)
  where
    other : (key y == key x) ≡ true → (key y == k) ≡ false
    other e = subst (λ (m : ℕ). (m == k) ≡ false) (sym (equal (key y) (key x) e)) h

    at : (b : Bool) → (key y == key x) ≡ b → row key k (with_latest key x ys) ≡ row key k ys → row key k (elim b [ true ↦ x ∷ ys | false ↦ y ∷ with_latest key x ys ]) ≡ row key k (y ∷ ys)
    at true e later = passed_row x (row key k ys) (key x == k) h ∙ sym (passed_row y (row key k ys) (key y == k) (other e))
    at false e later = ap (λ o. elim (key y == k) [ true ↦ Some y | false ↦ o ]) later

-- no key stands twice
other_keys : {A : Type 0} (key : A → ℕ) (x : A) (k : ℕ) (xs : List A) → (key x ≡ k → ⊥) → Every (λ (z : A). key z ≡ k → ⊥) xs → Every (λ (z : A). key z ≡ k → ⊥) (with_latest key x xs)
other_keys key x k [] ne h = (ne, tt)
other_keys {A = A} key x k (y ∷ ys) ne h = at (other_keys key x k ys ne h.1) (key y == key x)
  where
    at : Every (λ (z : A). key z ≡ k → ⊥) (with_latest key x ys) → (b : Bool) → Every (λ (z : A). key z ≡ k → ⊥) (elim b [ true ↦ x ∷ ys | false ↦ y ∷ with_latest key x ys ])
    at later true = (ne, h.1)
    at later false = (h.0, later)

pub apart_latest : {A : Type 0} (key : A → ℕ) (x : A) (xs : List A) → AreApart key xs → AreApart key (with_latest key x xs)
apart_latest key x [] h = (tt, tt)
apart_latest {A = A} key x (y ∷ ys) h = at (apart_latest key x ys h.1) (key y == key x) refl
  where
    at : AreApart key (with_latest key x ys) → (b : Bool) → (key y == key x) ≡ b → AreApart key (elim b [ true ↦ x ∷ ys | false ↦ y ∷ with_latest key x ys ])
    at later true t = (subst (λ (k : ℕ). Every (λ (z : A). key z ≡ k → ⊥) ys) (equal (key y) (key x) t) h.0, h.1)
    at later false t = (other_keys key x (key y) ys (λ e. true_false (sym (subst (λ (k : ℕ). (key y == k) ≡ true) (sym e) (equal_self (key y))) ∙ t)) h.0, later)

-- what is found stays found
pub latest_found : {A : Type 0} (key : A → ℕ) (k : ℕ) (x : A) (xs : List A) → is_some (row key k xs) ≡ true → is_some (row key k (with_latest key x xs)) ≡ true
latest_found key k x xs h = at (key x == k) refl
  where
    at : (b : Bool) → (key x == k) ≡ b → is_some (row key k (with_latest key x xs)) ≡ true
    at true same = ap (λ (m : ℕ). is_some (row key m (with_latest key x xs))) (sym (equal (key x) k same)) ∙ ap is_some (latest_same key x xs)
    at false other = ap is_some (latest_other key x k xs other) ∙ h

pub openers_added : {A B : Type 0} (p : A → Bool) (g : A → B) (xs : List A) (y : A) → map g (filter p (xs ++ y ∷ [])) ≡ map g (filter p xs) ++ cond (p y) (g y ∷ []) []
openers_added p g [] y = over (p y)
  where
    over : (b : Bool) → map g (cond b (y ∷ []) []) ≡ cond b (g y ∷ []) []
    over true = refl
    over false = refl
openers_added p g (x ∷ xs) y = over (p x) (openers_added p g xs y)
  where
    over : (b : Bool) → map g (filter p (xs ++ y ∷ [])) ≡ map g (filter p xs) ++ cond (p y) (g y ∷ []) [] → map g (cond b (x ∷ filter p (xs ++ y ∷ [])) (filter p (xs ++ y ∷ []))) ≡ map g (cond b (x ∷ filter p xs) (filter p xs)) ++ cond (p y) (g y ∷ []) []
    over true e = ap (λ os. g x ∷ os) e
    over false e = e

-- ---- the table ----

module _ (c : Config) (n : ℕ) (trace : List Line) (f : Frame) (tab : SyncTable) (sv : Serving c n trace f tab) (x : Told) (may : MayTell c trace x) (stay : FilesStay c trace (More n x trace) x) where
  vs : VersionsStay c trace (More n x trace)
  vs = versions_stay c n x trace sv.followed may stay.stay.fresh stay.stay.order

  -- only this open is named
  module _ (r : OpenRow) (unstarted : Starts f tab.group x → ⊥) (unlooked : Looks f tab.group x → ⊥) (unreleased : Releases f tab.group x → ⊥) (unadopted : Adopts f tab.group x → ⊥) (names : (i : Serial) → Printed (NamesHere f.epoch tab.group i) trace x → i ≡ r.inst) where
    has_named : (i : Serial) → WasNamedIn (More n x trace) f.epoch tab.group i → is_some (open_row (with_open r tab) i) ≡ true
    has_named i (inl p) = ap (λ (j : Serial). is_some (row open_key (serial_key j) (with_latest open_key r tab.opens))) (names i p) ∙ ap is_some (latest_same open_key r tab.opens)
    has_named i (inr q) = latest_found open_key (serial_key i) r tab.opens (sv.table.has i q)

    -- the other rows stay as they are
    others : row open_key (open_key r) tab.opens ≡ None → Every (RowFact c (More n x trace) f.epoch tab.group) tab.opens
    others none = two tab.opens (keys_apart open_key (open_key r) tab.opens none) sv.table.opens
      where
        unnamed : (q : OpenRow) → (open_key q == open_key r) ≡ false → Printed (NamesHere f.epoch tab.group q.inst) trace x → ⊥
        unnamed q other p = true_false (sym (subst (λ (j : Serial). (serial_key q.inst == serial_key j) ≡ true) (names q.inst p) (own (serial_key q.inst))) ∙ other)
          where
            own : (k : ℕ) → (k == k) ≡ true
            own k = equal_self k

        two : (qs : List OpenRow) → Every (λ (q : OpenRow). (open_key q == open_key r) ≡ false) qs → Every (RowFact c trace f.epoch tab.group) qs → Every (RowFact c (More n x trace) f.epoch tab.group) qs
        two [] apart k = tt
        two (q ∷ qs) apart k = (open_row_stays c n x trace sv.followed may vs f tab.group unreleased q (unnamed q apart.0) k.0, two qs apart.1 k.1)

    pub put_table : Every (RowFact c (More n x trace) f.epoch tab.group) (with_latest open_key r tab.opens) → ((ino : ℕ) → (ino ≡ 0 → ⊥) → named_openers (with_open r tab) (file_in tab.group ino) ≡ tree_openers (tree_of c f.epoch tab.group (entries (More n x trace))) (file_in tab.group ino)) → TableFact c (More n x trace) f (with_open r tab)
    put_table opens openers_are = record {
      started = sv.table.started ∙ sym (started_told c n trace sv.followed f tab.group x unstarted);
      early = every_both (λ (e : Early). PacketFact c trace (early_packet f e)) (λ (e : Early). PacketFact c (More n x trace) (early_packet f e)) tab.early (λ e k. packet_stays c n x trace sv.followed may stay.stay (early_packet f e) k) sv.table.early;
      early_here = sv.table.early_here;
      early_only = sv.table.early_only;
      all = sv.table.all;
      rows = every_both (FileFact c trace f.epoch tab.group) (FileFact c (More n x trace) f.epoch tab.group) tab.files (file_row_stays c trace (More n x trace) vs f.epoch tab.group) sv.table.rows;
      rise = sv.table.rise;
      files = files_like c (More n x trace) f tab tab.early (with_latest open_key r tab.opens) tab.looks tab.started (files_stay c n x trace sv.followed may stay f tab unreleased unadopted tab.started (sym sv.table.started) sv.table.files);
      opens = opens;
      apart = apart_latest open_key r tab.opens sv.table.apart;
      has = has_named;
      openers_are = openers_are;
      turns = λ us process small. sv.table.turns us process small ∙ sym (turn_told_same c n trace f tab.group x unlooked us process);
      looks = every_both (λ (z : LastLook). PacketFact c trace (packet f z.to z.body)) (λ (z : LastLook). PacketFact c (More n x trace) (packet f z.to z.body)) tab.looks (λ z k. packet_stays c n x trace sv.followed may stay.stay (packet f z.to z.body) k) sv.table.looks;
    }

    pub added_table : row open_key (open_key r) tab.opens ≡ None → RowFact c (More n x trace) f.epoch tab.group r → ((ino : ℕ) → (ino ≡ 0 → ⊥) → named_openers (with_open r tab) (file_in tab.group ino) ≡ tree_openers (tree_of c f.epoch tab.group (entries (More n x trace))) (file_in tab.group ino)) → TableFact c (More n x trace) f (with_open r tab)
    added_table none fact openers_are = put_table (every_latest (RowFact c (More n x trace) f.epoch tab.group) open_key r tab.opens fact (others none)) openers_are
